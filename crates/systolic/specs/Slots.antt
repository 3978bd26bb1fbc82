-- Document 01, "Pairs and their movement": registers, the lines that stand in them, and meetings. Definitions only.
-- There are N = m + 1 processors. They are numbered from 0 here, so document 01's processor k is k - 1.
use Rattle.std.specs.Prelude.{ℕ, zero, suc, ◌+◌, ◌*◌, ◌≤◌, ◌≡◌, Bool, cond, ◌||◌, ◌&&◌, eqb}
use Rattle.lists.specs.Bounded.{any}

-- The left or the right register of a processor. Of a wire, the end that points to lower or to higher processors.
pub data Side : Type 0 where
  left right : Side

unfoldable pub flip : Side → Side
flip left = right
flip right = left

-- A register: slots keep their place while lines move through them.
pub record Slot : Type 0 where
  pub processor : ℕ
  pub side : Side

unfoldable pub slot : ℕ → Side → Slot
slot i s = record { processor = i; side = s }

-- Where a line goes after a step. Left 1 stays; left N goes to right N, any other left k to left k + 1; right 1 goes to left 2, any other
-- right k to right k - 1. With one processor nothing moves.
unfoldable pub moved : ℕ → Side → ℕ → Slot
moved m left zero = slot 0 left
moved m left (suc i) = cond (eqb (suc i) m) (slot m right) (slot (suc (suc i)) left)
moved zero right i = slot i right
moved (suc m) right zero = slot 1 left
moved (suc m) right (suc i) = slot i right

-- Where a line was before the step: the inverse of `moved`.
unfoldable pub into_last : ℕ → Slot
into_last zero = slot 0 right
into_last (suc m) = slot (suc m) left

unfoldable pub came_from : ℕ → Side → ℕ → Slot
came_from m left zero = slot 0 left
came_from m left (suc zero) = slot 0 right
came_from m left (suc (suc i)) = slot (suc i) left
came_from m right i = cond (eqb i m) (into_last m) (slot (suc i) right)

unfoldable pub next : ℕ → Slot → Slot
next m u = moved m u.side u.processor

unfoldable pub prior : ℕ → Slot → Slot
prior m u = came_from m u.side u.processor

-- after s steps
unfoldable pub next_by : ℕ → ℕ → Slot → Slot
next_by m zero u = u
next_by m (suc s) u = next m (next_by m s u)

-- The line that stands in a slot at step s, where the labelling l says which stands there at the start.
unfoldable pub line_at : (Slot → ℕ) → ℕ → ℕ → Slot → ℕ
line_at l m zero u = l u
line_at l m (suc s) u = line_at l m s (prior m u)

-- The labelling with the lines b to b + 2 N - 1 in order: left k has b + 2 (k - 1), and right k the one after it.
unfoldable pub in_order_at : ℕ → Side → ℕ → ℕ
in_order_at b left i = 2 * i + b
in_order_at b right i = 2 * i + 1 + b

unfoldable pub ordered_line : ℕ → Slot → ℕ
unfolding in_order_at
ordered_line b u = in_order_at b u.side u.processor

-- The lines p and q stand in the two registers of processor i at step s.
unfoldable pub meet_in : (Slot → ℕ) → ℕ → ℕ → ℕ → ℕ → ℕ → Bool
meet_in l m s p q i =
    (eqb (line_at l m s (slot i left)) p && eqb (line_at l m s (slot i right)) q)
    || (eqb (line_at l m s (slot i left)) q && eqb (line_at l m s (slot i right)) p)

-- They meet in step s.
unfoldable pub meet_at : (Slot → ℕ) → ℕ → ℕ → ℕ → ℕ → Bool
meet_at l m s p q = any (suc m) (meet_in l m s p q)

-- the same as a proposition
pub data Meet (l : Slot → ℕ) (m s p q : ℕ) : Type 0 where
  in_order : (i : ℕ) → i ≤ m → line_at l m s (slot i left) ≡ p → line_at l m s (slot i right) ≡ q → Meet l m s p q
  reversed : (i : ℕ) → i ≤ m → line_at l m s (slot i left) ≡ q → line_at l m s (slot i right) ≡ p → Meet l m s p q
