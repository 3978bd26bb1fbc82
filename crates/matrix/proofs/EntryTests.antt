-- The tests of one entry. Assumes nothing.
use Prim.Native.Nat.{ℕ, ◌+◌, ◌<◌}
use mathlib.Core.Path.{◌≡◌}
use mathlib.Core.Bool.{true, false}
use mathlib.Core.List.{List}
use native.Mathlib.Omega.{arith}
use borrow.Author.Tests.{lt-ltb, le-ltb}
use lib.Ieee.{Float}
use Rattle.refusal.specs.Answers.{Answered, given, refused, refused_by, first}
use Rattle.refusal.specs.declared.Refusal.TheVariants.{NotFinite, NotMirrored}
use Rattle.float64.specs.Values.{finite, same_bits}
use Rattle.refusal.proofs.FirstRefusal.{first_none, first_more, first_found, first_fine}
use Rattle.matrix.proofs.EntryPlaces.{entry_in}
use Rattle.matrix.specs.Matrix.{at}
use Rattle.matrix.specs.Entries.{first_place, not_finite_at, not_mirrored_at}

-- ---- one entry
module _ (n : ℕ) (l : List Float) (r c : ℕ) where
  pub is_finite : finite (at n l r c) ≡ true → not_finite_at n l r c ≡ given tt
  unfolding not_finite_at
  is_finite e = rw e

  pub is_not_finite : finite (at n l r c) ≡ false → not_finite_at n l r c ≡ refused_by (NotFinite r c)
  unfolding not_finite_at
  is_not_finite e = rw e

  pub is_mirrored_lem : r < c → same_bits (at n l r c) (at n l c r) ≡ true → not_mirrored_at n l r c ≡ given tt
  unfolding not_mirrored_at
  is_mirrored_lem h e = rw (lt-ltb r c h, e)

  pub is_not_mirrored : r < c → same_bits (at n l r c) (at n l c r) ≡ false → not_mirrored_at n l r c ≡ refused_by (NotMirrored r c)
  unfolding not_mirrored_at
  is_not_mirrored h e = rw (lt-ltb r c h, e)

-- on and below the diagonal nothing is compared
pub not_compared : (n : ℕ) (l : List Float) (i : ℕ) → first (i + 1) (not_mirrored_at n l (i + 1)) ≡ given tt
not_compared n l i = first_fine (not_mirrored_at n l (i + 1)) (i + 1) (λ k h. below k h)
  where
    below : (k : ℕ) → k < i + 1 → not_mirrored_at n l (i + 1) (k + 1) ≡ given tt
    below k h = unfold not_mirrored_at in (rw (le-ltb (i + 1) (k + 1) (omega arith)))

pub same : {x y z w : Float} → x ≡ z → y ≡ w → same_bits x y ≡ same_bits z w
same e f = rw (e, f)

-- the first refusal, in row order
pub place_found : (g : ℕ → ℕ → Answered Unit) (n i j x : ℕ) (values : List ℕ) → i < n → j < n → first i (λ r. first n (g r)) ≡ given tt
    → first j (g (i + 1)) ≡ given tt → g (i + 1) (j + 1) ≡ refused x values → first_place n g ≡ refused x values
place_found g n i j x values hi hj e f h = first_found (λ r. first n (g r)) x values n i hi e (first_found (g (i + 1)) x values n j hj f h)

-- What the two searches are proved by.
pub ruleset finite_steps = (first_none, first_more, entry_in, is_finite, is_not_finite)

pub ruleset mirror_steps = (first_none, first_more, entry_in, not_compared, is_mirrored_lem, is_not_mirrored)
