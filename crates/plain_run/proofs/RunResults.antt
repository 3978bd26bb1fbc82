-- What a run that is not refused leaves, and at which entry a spoiled one is found. Assumes nothing.
use Prim.Native.Nat.{ℕ, suc, ◌+◌, ◌-◌, ◌≤◌, ◌<◌}
use mathlib.Core.Path.{◌≡◌, refl, sym, ap, ◌∙◌}
use mathlib.Core.Bool.{Bool, true, false, not, cond, ◌||◌}
use mathlib.Core.List.{List}
use native.Mathlib.Omega.{arith}
use lib.Dec.{T}
use lib.Ieee.{Float, nan, binary64, fits}
use lib.ListN.{length, get_or}
use Rattle.refusal.specs.Answers.{Answered, given, refused, refused_by, unless_refused}
use Rattle.refusal.specs.declared.Refusal.TheVariants.{Spoiled}
use Rattle.refusal.proofs.FirstRefusal.{refused_given}
use Rattle.float64.specs.Values.{finite}
use Rattle.lists.proofs.Bounded.{any_hit, any_find}
use Rattle.sizes.specs.Sizes.{is_order, first_line, lines_of, steps_of}
use Rattle.sizes.proofs.Orders.{lines_end}
use Rattle.matrix.specs.Matrix.{flat}
use Rattle.matrix.specs.Entries.{entries_of}
use Rattle.runs.specs.State.{State, start_of}
use Rattle.runs.specs.Outcome.{before_run, Outcome, outcome, results_kept}
use Rattle.runs.proofs.Verdicts.{Begins, begins, begun}
use Rattle.plain_run.specs.State.{after, not_finite_from, not_finite, spoiled}
use Rattle.plain_run.specs.Run.{ran_of, run_of}
use Rattle.plain_run.proofs.VanishingLine.{real_lines_fail}
use Rattle.plain_run.proofs.RunStart.{start_mirrored, start_vanishes}

-- the outcome of a run, by what is refused before it and by whether it is spoiled
not_refused : (r v : List Float) (a : Answered Unit) (o : Outcome Unit) → (unless_refused a o (results_kept r v)).answer ≡ given tt
    → (o.answer ≡ given tt) × (unless_refused a o (results_kept r v) ≡ o)
not_refused r v (given x) o e = (e, refl)
not_refused r v (refused k values) o e = refused_given e

not_spoiled : (b : Bool) (y z A E : List Float) → (cond b (outcome {A = Unit} (refused_by Spoiled) y z) (outcome (given tt) A E)).answer ≡ given tt
    → ((cond b (outcome {A = Unit} (refused_by Spoiled) y z) (outcome (given tt) A E)).result ≡ A)
    × ((cond b (outcome {A = Unit} (refused_by Spoiled) y z) (outcome (given tt) A E)).vectors ≡ E)
not_spoiled true y z A E e = refused_given e
not_spoiled false y z A E e = (refl, refl)

pub last_matrices : (n sweeps : ℕ) (l r v : List Float) → (run_of n sweeps l r v).answer ≡ given tt
    → ((run_of n sweeps l r v).result ≡ flat n (after n (steps_of n sweeps) (start_of n l)).matrix)
    × ((run_of n sweeps l r v).vectors ≡ flat n (after n (steps_of n sweeps) (start_of n l)).vectors)
unfolding run_of ran_of
last_matrices n sweeps l r v e =
    let w = not_refused r v (before_run n sweeps l (length r) (length v)) _ e in
    let z = not_spoiled (spoiled n (steps_of n sweeps) (start_of n l)) _ _ _ _ w.0 in
    (ap (λ (o : Outcome Unit). o.result) w.1 ∙ z.0, ap (λ (o : Outcome Unit). o.vectors) w.1 ∙ z.1)

-- what is known of a run that is not refused
pub accepted_run : (n sweeps : ℕ) (l r v : List Float) → (run_of n sweeps l r v).answer ≡ given tt
    → Begins n sweeps l (length r) (length v) × (spoiled n (steps_of n sweeps) (start_of n l) ≡ false)
unfolding run_of ran_of
accepted_run n sweeps l r v e = (
  begins n sweeps l _ _ (before (before_run n sweeps l (length r) (length v)) _ e),
  stays (spoiled n (steps_of n sweeps) (start_of n l)) _ _ _ _ (not_refused r v (before_run n sweeps l (length r) (length v)) _ e).0,
)
  where
    before : (a : Answered Unit) (o : Outcome Unit) → (unless_refused a o (results_kept r v)).answer ≡ given tt → a ≡ given tt
    before (given tt) o e = refl
    before (refused k values) o e = refused_given e

    stays : (b : Bool) (y z A E : List Float) → (cond b (outcome {A = Unit} (refused_by Spoiled) y z) (outcome (given tt) A E)).answer ≡ given tt → b ≡ false
    stays true y z A E e = refused_given e
    stays false y z A E e = refl

-- a run with right sizes, lengths and entries that stays finite is not refused
pub run_accepted : (n sweeps : ℕ) (l r v : List Float) → Begins n sweeps l (length r) (length v)
    → spoiled n (steps_of n sweeps) (start_of n l) ≡ false → (run_of n sweeps l r v).answer ≡ given tt
unfolding run_of ran_of
run_accepted n sweeps l r v b e = rw (begun n sweeps l (length r) (length v) b, e)

-- ---- an entry of either matrix that isn't finite
abbrev pub is_bad : State → ℕ → ℕ → Bool
is_bad Y r c = not (finite (Y.matrix r c)) || not (finite (Y.vectors r c))

-- in the lines from b to n
pub record BadEntry (b n : ℕ) (Y : State) : Type 0 where
  pub row : ℕ
  pub column : ℕ
  pub row_within : (b ≤ row) × (row ≤ n)
  pub column_within : (b ≤ column) × (column ≤ n)
  pub is_bad : is_bad Y row column ≡ true

found : (b N n : ℕ) (Y : State) → b + N ≡ n + 1 → not_finite_from b N Y ≡ true → BadEntry b n Y
unfolding not_finite_from
found b N n Y last e =
    let r = any_find N _ e in
    let c = any_find N _ r.2 in
    record {
      row = b + r.0;
      column = b + c.0;
      row_within = (omega arith, omega (arith, r.1));
      column_within = (omega arith, omega (arith, c.1));
      is_bad = c.2;
    }

counts : (n : ℕ) (Y : State) → BadEntry (first_line n) n Y → not_finite n Y ≡ true
unfolding not_finite not_finite_from
counts n Y w =
    let last = lines_end n in
    let i : first_line n + (w.row - first_line n) ≡ w.row = omega (arith, w.row_within) in
    let j : first_line n + (w.column - first_line n) ≡ w.column = omega (arith, w.column_within) in
    any_hit (lines_of n) _ (w.row - first_line n) (omega (arith, w.row_within))
    (any_hit (lines_of n) _ (w.column - first_line n) (omega (arith, w.column_within)) (rw (i, j) w.is_bad))

-- a run is spoiled exactly if there is one after some step
module _ (n K : ℕ) (X : State) where
  pub spoiled_by : (k : ℕ) → k < K → BadEntry (first_line n) n (after n (suc k) X) → spoiled n K X ≡ true
  unfolding spoiled
  spoiled_by k h w = any_hit K _ k h (counts n _ w)

  pub bad_entry : spoiled n K X ≡ true → (k : ℕ) × (k < K) × BadEntry (first_line n) n (after n (suc k) X)
  unfolding spoiled not_finite
  bad_entry e = let k = any_find K _ e in (k.0, k.1, found (first_line n) (lines_of n) n _ (lines_end n) k.2)

-- in the run of an accepted matrix there is one only where a real line has one
pub bad_real_entry : (n : ℕ) (l : List Float) → is_order n ≡ true → ((k : ℕ) → T (fits binary64 (get_or l k nan))) → entries_of n l ≡ given tt
    → (k : ℕ) → BadEntry (first_line n) n (after n k (start_of n l)) → BadEntry 1 n (after n k (start_of n l))
bad_real_entry n l order fitting entries k w =
    found 1 n n _ (omega arith)
    (sym (real_lines_fail n order (start_of n l) (start_mirrored n l fitting entries) (start_vanishes n l) k) ∙ counts n _ w)
