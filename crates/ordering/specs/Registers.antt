-- Document 01, "Pairs and their movement": the registers as two lists, read at the slots of the theory. Definitions only.
use Rattle.std.specs.Prelude.{ℕ, cond, List, ltb, get_or}
use Rattle.lists.specs.Tabulate.{tabulate}
use Rattle.systolic.specs.Slots.{Side, left, right, Slot, slot, came_from}
use Rattle.sizes.specs.Sizes.{most_processors}
use Rattle.ordering.specs.declared.Registers.{Registers}

-- Registers of N processors, where L says which line stands in a slot: zeros above the last processor.
unfoldable pub column : ℕ → (ℕ → ℕ) → List ℕ
column N f = tabulate most_processors (λ k. cond (ltb k N) (f k) 0)

unfoldable pub registers_of : ℕ → (Slot → ℕ) → Registers
registers_of N L = record { left = column N (λ k. L (slot k left)); right = column N (λ k. L (slot k right)) }

-- What stands in a slot.
unfoldable pub standing : List ℕ → List ℕ → Side → ℕ → ℕ
standing ls rs left k = get_or ls k 0
standing ls rs right k = get_or rs k 0

unfoldable pub in_slot : Registers → Slot → ℕ
in_slot r u = standing r.left r.right u.side u.processor

-- What comes into a slot after a step, from the registers before it.
unfoldable pub coming_into : List ℕ → List ℕ → ℕ → Side → ℕ → ℕ
coming_into ls rs m s k = standing ls rs (came_from m s k).side (came_from m s k).processor
