-- The refusals before a run, in their order, and what is known where there is none. Assumes nothing.
use Prim.Native.Nat.{ℕ, ◌*◌, ◌≤◌}
use mathlib.Core.Path.{◌≡◌, refl, sym, ◌∙◌}
use mathlib.Core.Bool.{Bool, true, false, not, ◌&&◌}
use mathlib.Core.List.{List, [], ◌∷◌}
use borrow.Author.Tests.{eqb-true, eq-eqb}
use lib.ListN.{length}
use lib.Ieee.{Float}
use Rattle.refusal.specs.Answers.{given, refused_by, or_else, row, table}
use Rattle.refusal.specs.declared.Refusal.TheVariants.{Length}
use Rattle.refusal.proofs.FirstRefusal.{refused_given, both_given}
use Rattle.sizes.specs.Sizes.{most_sweeps, is_order, sizes_answer}
use Rattle.sizes.proofs.Orders.{sizes_given, sizes_first, sizes_fine}
use Rattle.matrix.specs.Entries.{is_square, finite_row, mirror_row, entries_of}
use Rattle.runs.specs.Outcome.{slices_answer, before_run}

-- ---- the slices
module _ (n : ℕ) (l : List Float) (lr lv : ℕ) where
  pub refused_3 : is_square n lr ≡ false → slices_answer n l lr lv ≡ refused_by Length
  unfolding slices_answer
  refused_3 e = rw e

  pub refused_3_too : is_square n lr ≡ true → is_square n lv ≡ false → slices_answer n l lr lv ≡ refused_by Length
  unfolding slices_answer
  refused_3_too e f = rw (e, f)

  pub by_entries : is_square n lr ≡ true → is_square n lv ≡ true → slices_answer n l lr lv ≡ entries_of n l
  unfolding slices_answer entries_of
  by_entries e f = rw (e, f)

-- ---- sizes first, then the slices
module _ (n sweeps : ℕ) (l : List Float) (lr lv : ℕ) where
  pub by_sizes : before_run n sweeps l lr lv ≡ or_else (sizes_answer n sweeps) (slices_answer n l lr lv)
  unfolding before_run slices_answer
  by_sizes = sym (sizes_first n sweeps _)

-- What a verdict is proved by.
pub ruleset run_tests = (refused_3, refused_3_too, by_entries, by_sizes)

-- ---- nothing is refused
pub record Begins (n sweeps : ℕ) (l : List Float) (lr lv : ℕ) : Type 0 where
  pub order : is_order n ≡ true
  pub few : sweeps ≤ most_sweeps
  pub result_long : lr ≡ n * n
  pub vectors_long : lv ≡ n * n
  pub entries : entries_of n l ≡ given tt

pub begins : (n sweeps : ℕ) (l : List Float) (lr lv : ℕ) → before_run n sweeps l lr lv ≡ given tt → Begins n sweeps l lr lv
begins n sweeps l lr lv e = go (is_square n lr) (is_square n lv) refl refl (unfold slices_answer in w.1)
  where
    w : (sizes_answer n sweeps ≡ given tt) × (slices_answer n l lr lv ≡ given tt)
    w = both_given _ _ (sym (by_sizes n sweeps l lr lv) ∙ e)

    s : (is_order n ≡ true) × (sweeps ≤ most_sweeps)
    s = sizes_given n sweeps w.0

    go : (a b : Bool) → is_square n lr ≡ a → is_square n lv ≡ b
        → table (row (not (a && (b && is_square n (length l)))) Length ∷ finite_row n l ∷ mirror_row n l ∷ []) ≡ given tt → Begins n sweeps l lr lv
    go false b x y z = refused_given z
    go true false x y z = refused_given z
    go true true x y z = record { order = s.0; few = s.1; result_long = eqb-true _ _ x; vectors_long = eqb-true _ _ y; entries = unfold entries_of in z }

-- and the other way round
pub begun : (n sweeps : ℕ) (l : List Float) (lr lv : ℕ) → Begins n sweeps l lr lv → before_run n sweeps l lr lv ≡ given tt
begun n sweeps l lr lv b =
    by_sizes n sweeps l lr lv
    ∙ rw (
      ← sizes_fine n sweeps b.order b.few,
      by_entries n l lr lv (eq-eqb lr (n * n) b.result_long) (eq-eqb lv (n * n) b.vectors_long),
    ) b.entries
