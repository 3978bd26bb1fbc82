-- The registers, the wiring, the array and the runs under the rules of `Toy`, read as lists of numbers. Definitions only.
-- There are m + 1 processors; the array runs K steps; b is the first line; t counts ticks made and s and k steps made.
use Rattle.std.specs.Prelude.{ℕ, zero, suc, ◌+◌, ◌*◌, ◌/◌, ◌%◌, Bool, cond, List, [], ◌∷◌, eqb}
use Rattle.systolic.specs.Slots.{Side, left, right, flip, Slot, slot, moved, into_last, came_from, next, prior, next_by, line_at, ordered_line}
use Rattle.systolic.specs.Slots.{meet_in, meet_at}
use Rattle.lists.specs.Bounded.{count, any, total}
use Rattle.systolic.specs.Blocks.{Block, cell, tab, pick}
use Rattle.systolic.specs.Synchronous.{rotate_all, move_all, blocks_at, rotated_at, row_parameter, column_parameter, kept_at}
use Rattle.systolic.specs.Tiles.{Tile, carried, joined, phase_of, action, action_at, step_at, turn_tile}
use Rattle.systolic.specs.Tiles.{new_cells, new_parameter, phase_in, new_wires, new_tile, tick_tile}
use Rattle.systolic.specs.Arrays.{nearer, incoming, tick, array_after}
use Rattle.systolic.specs.Schedule.{interchange, Input, leads_to, set_in_phase0, set_in_phase1, set_in_phase2}
use Rattle.systolic.specs.Traffic.{sets_wire, receives, wires_set, tiles_receive}
use Rattle.systolic.specs.Sequential.{turn_rows, turn_columns, pair_block, place, pair_step, pairs_step, sequential, fails_in}
use Rattle.systolic.specs.Sequential.{block_at_turn, sequential_kept}
use Rattle.test_systolic.specs.Toy.{toy, entry, toy_array, stamped_array}

-- ---- lists and digits
-- f i, f (i + 1), .., n of them
unfoldable pub list_from : {A : Type 0} → ℕ → ℕ → (ℕ → A) → List A
list_from i zero f = []
list_from i (suc n) f = f i ∷ list_from (suc i) n f

-- f i j for i and j below n, row by row
unfoldable pub square : {A : Type 0} → ℕ → (ℕ → ℕ → A) → List A
unfolding list_from
square n f = list_from 0 (n * n) (λ k. f (k / n) (k % n))

-- f of each number of a list
unfoldable pub each : {A : Type 0} → List ℕ → (ℕ → A) → List A
each [] f = []
each (t ∷ ts) f = f t ∷ each ts f

-- 0 to n
unfoldable pub up_to : ℕ → List ℕ
unfolding list_from
up_to n = list_from 0 (suc n) (λ t. t)

-- f 0, .., f (n - 1) beside each other, as digits to the base d
unfoldable pub digits : ℕ → ℕ → (ℕ → ℕ) → ℕ
digits d zero f = 0
digits d (suc n) f = digits d n f * d + f n

abbrev digit : Bool → ℕ
digit b = cond b 1 0

-- α β γ δ to the base d
unfoldable pub block_digits : ℕ → Block ℕ → ℕ
block_digits d b = ((b.α * d + b.β) * d + b.γ) * d + b.δ

unfoldable pub side_of : ℕ → Side
side_of zero = left
side_of (suc n) = right

-- α β γ δ as 0 to 3
unfoldable pub corner : Side → Side → ℕ
corner left left = 0
corner left right = 1
corner right left = 2
corner right right = 3

-- ---- registers
unfoldable pub line_in : ℕ → ℕ → ℕ → Side → ℕ → ℕ
unfolding line_at ordered_line slot prior came_from into_last
line_in b m s h i = line_at (ordered_line b) m s (slot i h)

-- before steps 0 to 2 N, of each processor the left and the right register, a digit each
unfoldable pub registers_over : ℕ → ℕ → List (List ℕ)
unfolding list_from line_in
registers_over b m = list_from 0 (2 * m + 3) (λ s. list_from 0 (suc m) (λ i. line_in b m s left i * 10 + line_in b m s right i))

-- left k as 2 (k - 1), right k as the number after it
unfoldable pub slot_number : Slot → ℕ
unfolding corner
slot_number u = 2 * u.processor + corner left u.side

-- after 0 to 2 N steps, where the line that began in each slot stands, a digit each
unfoldable pub moves_over : ℕ → List ℕ
unfolding list_from digits side_of slot moved next next_by slot_number
moves_over m = list_from 0 (2 * m + 3) (λ s. digits 10 (2 * m + 2) (λ k. slot_number (next_by m s (slot (k / 2) (side_of (k % 2))))))

-- the steps of a sweep, from 1, in which p and q meet, added up
unfoldable pub meeting_step : ℕ → ℕ → ℕ → ℕ → ℕ
unfolding total meet_at any meet_in line_at ordered_line slot prior came_from into_last
meeting_step b m p q = total (2 * m + 1) (λ s. cond (meet_at (ordered_line b) m s p q) (suc s) 0)

unfoldable pub meeting_steps : ℕ → ℕ → List ℕ
unfolding list_from digits meeting_step
meeting_steps b m = list_from b (2 * m + 2) (λ p. digits 10 (2 * m + 2) (λ q. meeting_step b m p (b + q)))

-- ---- the tables of the papers
unfoldable pub input_digits : Input → ℕ
unfolding corner
input_digits x = (x.row * 10 + x.column) * 10 + corner x.down x.across

unfoldable pub connections : ℕ → List (List ℕ)
unfolding square list_from leads_to input_digits side_of
connections m = square (suc m) (λ i j. list_from 0 4 (λ k. input_digits (leads_to m (side_of (k / 2)) (side_of (k % 2)) i j)))

-- Algorithm Interchange on the cells 1 2 / 3 4
unfoldable pub interchanged : ℕ → ℕ → Block ℕ
unfolding interchange
interchanged i j = interchange i j (record { α = 1; β = 2; γ = 3; δ = 4 })

-- and what is then set of it, by a test, over the wires 5 6 / 7 8
unfoldable pub set_by_test : (Side → Side → ℕ → ℕ → Bool) → ℕ → ℕ → ℕ
unfolding tab cell block_digits interchanged
set_by_test f i j =
    block_digits 10 (tab (λ r s. cond (f r s i j) (cell r s (interchanged i j)) (cell r s (record { α = 5; β = 6; γ = 7; δ = 8 }))))

-- the outputs, and the wires after each phase
unfoldable pub outputs : ℕ → List (List ℕ)
unfolding square block_digits interchanged set_by_test set_in_phase0 set_in_phase1 set_in_phase2
outputs m =
    square (suc m)
    (λ i j.
    block_digits 10 (interchanged i j) ∷ set_by_test (set_in_phase0 m) i j ∷ set_by_test (set_in_phase1 m) i j ∷ set_by_test (set_in_phase2 m) i j ∷ [])

-- ---- the array
unfoldable pub array : ℕ → ℕ → ℕ → ℕ → ℕ → Tile ℕ ℕ ℕ ℕ
unfolding toy_array pick flip carried joined phase_of action action_at step_at turn_tile new_cells new_parameter phase_in new_wires new_tile
    tick_tile nearer incoming tick array_after
array m K t = array_after toy_array m K t

-- Each of these reads the array after every number of ticks in a list.
unfoldable pub cells_after : ℕ → ℕ → List ℕ → List (List ℕ)
unfolding each up_to square block_digits array
cells_after m K ts = each ts (λ t. square (suc m) (λ i j. block_digits 1000 (array m K t i j).cells))

unfoldable pub wires_after : ℕ → ℕ → List ℕ → List (List ℕ)
unfolding each up_to square block_digits array
wires_after m K ts = each ts (λ t. square (suc m) (λ i j. block_digits 1000 (array m K t i j).wires))

unfoldable pub parameters_after : ℕ → ℕ → List ℕ → List (List ℕ)
unfolding each up_to square array
parameters_after m K ts = each ts (λ t. square (suc m) (λ i j. (array m K t i j).row_wire * 1000 + (array m K t i j).column_wire))

unfoldable pub marks_after : ℕ → ℕ → List ℕ → List ℕ
unfolding each up_to digits array
marks_after m K ts = each ts (λ t. digits 10 (suc m * suc m) (λ k. digit (array m K t (k / suc m) (k % suc m)).mark))

unfoldable pub kept_after : ℕ → ℕ → List ℕ → List (List ℕ)
unfolding each up_to square array
kept_after m K ts = each ts (λ t. square (suc m) (λ i j. (array m K t i j).kept))

-- all of a tile: cells, wires, parameter wires, mark and what is kept beside each other
unfoldable pub tile_digits : Tile ℕ ℕ ℕ ℕ → ℕ
unfolding block_digits
tile_digits x =
    let wires = (block_digits 1000 x.cells * 1_000_000_000_000 + block_digits 1000 x.wires) * 1000 + x.row_wire in
    ((wires * 1000 + x.column_wire) * 10 + digit x.mark) * 1000 + x.kept

unfoldable pub tiles_after : ℕ → ℕ → List ℕ → List (List ℕ)
unfolding each up_to square tile_digits array
tiles_after m K ts = each ts (λ t. square (suc m) (λ i j. tile_digits (array m K t i j)))

-- the cells where an off-diagonal processor stamps them with its step, row and column
unfoldable pub stamped_after : ℕ → ℕ → List ℕ → List (List ℕ)
unfolding each up_to square block_digits array stamped_array
stamped_after m K ts = each ts (λ t. square (suc m) (λ i j. block_digits 1000 (array_after stamped_array m K t i j).cells))

-- ---- traffic
unfoldable pub sets : ℕ → ℕ → ℕ → ℕ → ℕ → ℕ → ℕ
unfolding side_of sets_wire phase_in action_at action phase_of
sets m K t k i j = digit (sets_wire m K t (side_of (k / 2)) (side_of (k % 2)) i j)

unfoldable pub gets : ℕ → ℕ → ℕ → ℕ → ℕ
unfolding receives action_at action
gets K t i j = digit (receives K t i j)

-- in each of the first n ticks, of every tile five digits: whether it sets α β γ δ, and whether it receives parameters
unfoldable pub traffic_in : ℕ → ℕ → ℕ → List (List ℕ)
unfolding list_from square digits sets gets
traffic_in m K n = list_from 0 n (λ t. square (suc m) (λ i j. digits 10 4 (λ k. sets m K t k i j) * 10 + gets K t i j))

-- over a run, the wires set
unfoldable pub wires_set_in : ℕ → ℕ → ℕ
unfolding wires_set total count sets_wire phase_in action_at action phase_of
wires_set_in m K = wires_set m K (3 * K + m + 1)

-- and the parameters received, one along the row and one along the column
unfoldable pub received_in : ℕ → ℕ → ℕ
unfolding tiles_receive total count receives action_at action
received_in m K = 2 * tiles_receive m K (3 * K + m + 1)

-- for N = 1 to n, in runs of 0 to 3 steps
unfoldable pub wires_set_over : ℕ → List (List ℕ)
unfolding list_from wires_set_in
wires_set_over n = list_from 0 n (λ m. list_from 0 4 (wires_set_in m))

unfoldable pub received_over : ℕ → List (List ℕ)
unfolding list_from received_in
received_over n = list_from 0 n (λ m. list_from 0 4 (received_in m))

-- ---- the plain run and the idealized array, after 0 to n - 1 steps
unfoldable pub plain : ℕ → ℕ → ℕ → ℕ → ℕ → ℕ
unfolding toy entry line_at ordered_line slot prior came_from into_last turn_rows turn_columns pair_block place pair_step pairs_step sequential
plain b m k = sequential toy (ordered_line b) m entry k

unfoldable pub plain_over : ℕ → ℕ → ℕ → List (List ℕ)
unfolding list_from digits plain
plain_over b m n = list_from 0 n (λ k. list_from b (2 * m + 2) (λ r. digits 1000 (2 * m + 2) (λ c. plain b m k r (b + c))))

-- what each processor keeps before each step
unfoldable pub plain_kept_over : ℕ → ℕ → ℕ → List ℕ
unfolding list_from digits toy entry line_at ordered_line slot prior came_from into_last turn_rows turn_columns pair_block place pair_step pairs_step sequential
    block_at_turn sequential_kept
plain_kept_over b m n = list_from 0 n (λ k. digits 1000 (suc m) (sequential_kept toy (ordered_line b) m entry 904 k))

-- for N = 1 to n, whether an entry fails after 0 to 3 steps, a digit each
unfoldable pub fails_over : ℕ → List ℕ
unfolding list_from digits fails_in any plain
fails_over n = list_from 0 n (λ m. digits 10 4 (λ k. digit (fails_in toy 1 (2 * m + 2) (plain 1 m k))))

unfoldable pub before : ℕ → ℕ → ℕ → ℕ → Block ℕ
unfolding toy_array pick came_from into_last rotate_all move_all blocks_at
before m k = blocks_at toy_array m k

-- the blocks before each of n steps and after its rotations
unfoldable pub blocks_over : ℕ → ℕ → List (List ℕ)
unfolding list_from square block_digits before rotated_at
blocks_over m n =
    list_from 0 (2 * n)
    (λ k. square (suc m) (λ i j. block_digits 1000 (cond (eqb (k % 2) 0) (before m (k / 2) i j) (rotated_at toy_array m (k / 2) i j))))

-- and the parameters of each processor, for the row and for the column
unfoldable pub sent_over : ℕ → ℕ → List (List ℕ)
unfolding list_from before row_parameter column_parameter
sent_over m n =
    list_from 0 n (λ k. list_from 0 (suc m) (λ i. row_parameter toy_array m k i * 1000 + column_parameter toy_array m k i))

-- and what each processor keeps
unfoldable pub kept_over : ℕ → ℕ → List ℕ
unfolding list_from digits toy_array before kept_at
kept_over m n = list_from 0 n (λ k. digits 1000 (suc m) (kept_at toy_array m k))
