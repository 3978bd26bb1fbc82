-- The end of a whole run: marks, and cells written to their rows and columns. Assumes nothing.
use Prim.Native.Nat.{ℕ, ◌+◌, ◌-◌, ◌*◌, ◌/◌, ◌%◌}
use mathlib.Core.Path.{◌≡◌, refl, sym, ap}
use mathlib.Core.Bool.{Bool, true, false, cond}
use mathlib.Core.List.{List}
use native.Mathlib.Omega.{arith}
use lib.Dec.{eqb}
use lib.Ieee.{Float, nan}
use Rattle.refusal.specs.Answers.{Answered, given, refused_by, value_or}
use Rattle.refusal.proofs.FirstRefusal.{refused_given}
use Rattle.refusal.specs.declared.Refusal.TheVariants.{Spoiled}
use Rattle.lists.proofs.Filled.{Filled, filled_all}
use Rattle.tile_wires.specs.declared.Quad.{Quad}
use Rattle.tile_wires.specs.Wires.{corner_of}
use Rattle.matrix.specs.Matrix.{flat}
use Rattle.runs.specs.Outcome.{Outcome, outcome, report}
use Rattle.runs.specs.State.{zeros}
use Rattle.array.specs.declared.Array.{Array}
use Rattle.array_run.specs.Results.{WholeReport, reporting, report_in, rounded_pairs, joint_at, matrix_in, vectors_in, some_marked, handed_over}
use Rattle.sizes.specs.Sizes.{processors_of}

-- ---- cells
pub joined_at : (f : ℕ → ℕ → Quad Float) (r c : ℕ) {b first : ℕ} → first ≡ b
    → corner_of (eqb ((r - first) % 2) 1) (eqb ((c - first) % 2) 1) (f ((r - first) / 2) ((c - first) / 2)) ≡ joint_at b f r c
unfolding joint_at
joined_at f r c e = rw e

pub flat_filled : (n k : ℕ) (A : ℕ → ℕ → Float) (l : List Float) → Filled nan (λ i. A (i / n + 1) (i % n + 1)) (n * n) k l → k ≡ n * n → l ≡ flat n A
unfolding flat
flat_filled n k A l h e = filled_all k l h (omega arith)

-- ---- what is handed over
module _ (x : Array) where
  pub spoiled_over : some_marked (processors_of x.n) x.tiles ≡ true → {o : Outcome WholeReport}
      → o ≡ outcome (refused_by Spoiled) (zeros x.n) (zeros x.n) → o ≡ handed_over x
  unfolding handed_over
  spoiled_over e f = rw e f

  pub cells_over : {r v : List Float} → some_marked (processors_of x.n) x.tiles ≡ false → r ≡ flat x.n (matrix_in x.n x.tiles)
      → v ≡ flat x.n (vectors_in x.n x.tiles) → {rounded : ℕ} → rounded ≡ rounded_pairs (processors_of x.n) x.tiles
      → outcome (given (reporting (report x.sweeps rounded) x.tick)) r v ≡ handed_over x
  unfolding handed_over
  cells_over e f g h = rw (e, f, g, h)

  -- where nothing is refused
  pub over_given : (d : WholeReport) → (handed_over x).answer ≡ given d
      → (d ≡ report_in x) × ((handed_over x).result ≡ flat x.n (matrix_in x.n x.tiles))
      × ((handed_over x).vectors ≡ flat x.n (vectors_in x.n x.tiles))
  unfolding handed_over
  over_given d = go (some_marked (processors_of x.n) x.tiles)
    where
      kept : Outcome WholeReport
      kept = outcome (given (report_in x)) (flat x.n (matrix_in x.n x.tiles)) (flat x.n (vectors_in x.n x.tiles))

      go : (b : Bool) → (cond b (outcome (refused_by Spoiled) (zeros x.n) (zeros x.n)) kept).answer ≡ given d
          → (d ≡ report_in x)
          × ((cond b (outcome (refused_by Spoiled) (zeros x.n) (zeros x.n)) kept).result ≡ flat x.n (matrix_in x.n x.tiles))
          × ((cond b (outcome (refused_by Spoiled) (zeros x.n) (zeros x.n)) kept).vectors ≡ flat x.n (vectors_in x.n x.tiles))
      go true e = refused_given e
      go false e = (sym (ap (λ (a : Answered WholeReport). value_or a d) e), refl, refl)
