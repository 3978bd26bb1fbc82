-- The tests of a matrix, in their order. Assumes nothing.
use Prim.Native.Nat.{ℕ, ◌*◌}
use mathlib.Core.Path.{◌≡◌, ap}
use mathlib.Core.Bool.{true, false}
use mathlib.Core.List.{List}
use lib.Dec.{eqb}
use lib.ListN.{length}
use lib.Ieee.{Float}
use Rattle.refusal.specs.Answers.{refused_by, or_else}
use Rattle.refusal.specs.declared.Refusal.TheVariants.{Length}
use Rattle.matrix.specs.Entries.{first_place, not_finite_at, not_mirrored_at, finite_row, mirror_row, entries_of}
use Rattle.refusal.proofs.FirstRefusal.{else_none}

module _ (n : ℕ) (l : List Float) where
  pub wrong_length : eqb (length l) (n * n) ≡ false → entries_of n l ≡ refused_by Length
  unfolding entries_of
  wrong_length e = rw e

  pub in_order : eqb (length l) (n * n) ≡ true → entries_of n l ≡ or_else (first_place n (not_finite_at n l)) (first_place n (not_mirrored_at n l))
  unfolding entries_of finite_row mirror_row
  in_order e = rw e (ap (or_else (first_place n (not_finite_at n l))) (else_none (first_place n (not_mirrored_at n l))))

-- What they are proved by.
pub ruleset entry_tests = (wrong_length, in_order)
