-- What a call for the records of a step is refused by. Assumes nothing.
use Prim.Native.Nat.{ℕ}
use mathlib.Core.Path.{◌≡◌, ap, ◌∙◌}
use mathlib.Core.Bool.{true, false, not}
use mathlib.Core.List.{List, [], ◌∷◌}
use lib.Dec.{ltb}
use lib.ListN.{length}
use lib.Ieee.{Float}
use Rattle.refusal.specs.Answers.{refused_by, or_else, row}
use Rattle.refusal.specs.declared.Refusal.TheVariants.{Order, Length, TooShort}
use Rattle.refusal.proofs.FirstRefusal.{else_none, table_joined}
use Rattle.sizes.specs.Sizes.{is_order, processors_of, order_row}
use Rattle.matrix.specs.Entries.{is_square, finite_row, mirror_row, entries_of}
use Rattle.step_records.specs.Records.{before_records}

module _ (n : ℕ) (l : List Float) (room : ℕ) where
  -- the order, then the matrix, then the room
  pub by_parts : before_records n l room ≡ or_else (order_row n) (or_else (entries_of n l) (row (ltb room (processors_of n)) TooShort))
  unfolding before_records entries_of
  by_parts =
      ap (or_else (order_row n))
      (table_joined (row (not (is_square n (length l))) Length ∷ finite_row n l ∷ mirror_row n l ∷ []) (row (ltb room (processors_of n)) TooShort ∷ [])
      ∙ ap (or_else (entries_of n l)) (else_none (row (ltb room (processors_of n)) TooShort)))

  pub refused_1 : is_order n ≡ false → before_records n l room ≡ refused_by Order
  refused_1 e = rw (by_parts, e)

  pub by_entries : is_order n ≡ true → before_records n l room ≡ or_else (entries_of n l) (row (ltb room (processors_of n)) TooShort)
  by_entries e = rw (by_parts, e)

-- What a verdict is proved by.
pub ruleset record_tests = (refused_1, by_entries)
