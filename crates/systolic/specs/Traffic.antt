-- What crosses the wires in a tick, as tests, and how often it does over many ticks. Definitions only.
use Rattle.std.specs.Prelude.{ℕ, suc, ◌+◌, Bool, true, false, not, ◌&&◌, ◌||◌, eqb}
use Rattle.lists.specs.Bounded.{count, total}
use Rattle.systolic.specs.Slots.{Side, left, right}
use Rattle.systolic.specs.Tiles.{distance, Action, idle, first, rotate, phase1, phase2, final, action_at, sets_in}

-- tile (i, j) sets its wire by the corner (r, s) in tick t
unfoldable pub sets_wire : ℕ → ℕ → ℕ → Side → Side → ℕ → ℕ → Bool
sets_wire m K t r s i j = sets_in m (action_at K (distance i j) t) r s i j

abbrev pub rotates : Action → Bool
rotates idle = false
rotates first = true
rotates rotate = true
rotates phase1 = false
rotates phase2 = false
rotates final = false

-- a tile (i, j) off the diagonal receives a parameter along its row and one along its column when it rotates
abbrev pub receives_in : Action → ℕ → ℕ → Bool
receives_in a i j = not (eqb i j) && rotates a

-- it receives them in tick t
unfoldable pub receives : ℕ → ℕ → ℕ → ℕ → Bool
receives K t i j = receives_in (action_at K (distance i j) t) i j

-- A tile reads its cell wires.
abbrev pub reads_cells : Action → Bool
reads_cells idle = false
reads_cells first = false
reads_cells rotate = true
reads_cells phase1 = false
reads_cells phase2 = false
reads_cells final = true

-- A tile's cells change: it rotates, or takes in what its wires bring.
abbrev pub changes_cells : Action → Bool
changes_cells a = rotates a || reads_cells a

-- ---- over the ticks 0 to n - 1 of an array of m + 1 by m + 1 tiles that runs K steps
-- how often a tile sets a wire, and its four wires
abbrev pub times_set : ℕ → ℕ → ℕ → Side → Side → ℕ → ℕ → ℕ
times_set m K n r s i j = count (λ t. sets_wire m K t r s i j) n

abbrev pub times_set_by_tile : ℕ → ℕ → ℕ → ℕ → ℕ → ℕ
times_set_by_tile m K n i j =
    times_set m K n left left i j + times_set m K n left right i j + times_set m K n right left i j + times_set m K n right right i j

-- the sum over N by N tiles
abbrev pub over_tiles : ℕ → (ℕ → ℕ → ℕ) → ℕ
over_tiles N f = total N (λ i. total N (λ j. f i j))

-- how often all tiles set a wire
unfoldable pub wires_set : ℕ → ℕ → ℕ → ℕ
wires_set m K n = over_tiles (suc m) (λ i j. times_set_by_tile m K n i j)

-- how often tiles receive
unfoldable pub tiles_receive : ℕ → ℕ → ℕ → ℕ
tiles_receive m K n = over_tiles (suc m) (λ i j. count (λ t. receives K t i j) n)
