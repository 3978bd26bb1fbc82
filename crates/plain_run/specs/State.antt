-- Document 01, "Plain run", and document 02 (ii): what the steps do to the matrix and the eigenvectors. Definitions only.
use Rattle.std.specs.Prelude.{ℕ, zero, suc, ◌+◌, ◌*◌, ◌≤◌, ◌<◌, ◌≡◌, Bool, true, not, ◌||◌, List, get_or}
use Rattle.float64.specs.Values.{finite}
use Rattle.lists.specs.Bounded.{any}
use Rattle.ordering.specs.Pairs.{registers_at}
use Rattle.matrix_turns.specs.Turns.{two_lines}
use Rattle.runs.specs.State.{State}
use Rattle.plain_pair.specs.Pair.{pair_rotated}
use Rattle.sizes.specs.Sizes.{processors_of, first_line, lines_of, still_of}

-- What stands in the registers of processor i, from 0: two lines of 1 to n, or, where it is always still, line 0 and another.
pub data ProcessorPair (n i p q : ℕ) : Type 0 where
  real_lines : still_of n ≤ i → two_lines n p q (n * n) ≡ true → ProcessorPair n i p q
  line_0 : i < still_of n → p ≡ 0 → ¬ (p ≡ q) → ProcessorPair n i p q

abbrev pub Paired : ℕ → List ℕ → List ℕ → ℕ → Type 0
Paired n ls rs N = (k : ℕ) → k < N → ProcessorPair n k (get_or ls k 0) (get_or rs k 0)

-- The pairs of the first k processors of an order n, in order, where ls are the left registers and rs the right.
unfoldable pub pairs_rotated : ℕ → List ℕ → List ℕ → ℕ → State → State
pairs_rotated n ls rs zero X = X
pairs_rotated n ls rs (suc k) X = pair_rotated n k (get_or ls k 0) (get_or rs k 0) (pairs_rotated n ls rs k X)

-- After k steps of an order n.
unfoldable pub after : ℕ → ℕ → State → State
after n zero X = X
after n (suc k) X = pairs_rotated n (registers_at n k).left (registers_at n k).right (processors_of n) (after n k X)

-- An entry of either matrix isn't finite, in the N lines from the line b on.
unfoldable pub not_finite_from : ℕ → ℕ → State → Bool
not_finite_from b N X = any N (λ r. any N (λ c. not (finite (X.matrix (b + r) (b + c))) || not (finite (X.vectors (b + r) (b + c)))))

-- An entry of either matrix isn't finite, line 0 of an odd order included.
unfoldable pub not_finite : ℕ → State → Bool
not_finite n X = not_finite_from (first_line n) (lines_of n) X

-- After some of the first K steps an entry of either matrix isn't finite.
unfoldable pub spoiled : ℕ → ℕ → State → Bool
spoiled n K X = any K (λ k. not_finite n (after n (suc k) X))
