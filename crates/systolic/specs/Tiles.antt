-- Document 01, "The array": what one tile does in one tick, from itself and what its wires bring. Definitions only.
use Rattle.std.specs.Prelude.{ℕ, zero, suc, ◌+◌, ◌-◌, ◌*◌, ◌/◌, ◌%◌, Bool, cond, ◌||◌, ltb, eqb}
use Rattle.systolic.specs.Slots.{Side, left, right, flip, Slot, slot}
use Rattle.systolic.specs.Blocks.{Block, cell, tab}
use Rattle.systolic.specs.Synchronous.{Operations}

-- the tile's distance Δ from the diagonal
abbrev pub distance : ℕ → ℕ → ℕ
distance i j = (i - j) + (j - i)

-- Four cells; the four outgoing wires α β γ δ, each named after the corner it leaves by; the outgoing parameter wires; the mark; and what a tile
-- on the diagonal keeps for itself. Document 01 calls a wire a line in its section on the array; here a line is always a line of the matrix.
pub record Tile (X H W D : Type 0) : Type 0 where
  pub cells : Block X
  pub wires : Block X
  pub row_wire : H
  pub column_wire : W
  pub mark : Bool
  pub kept : D

-- The wiring is a product of one for rows and one for columns.
-- Which register's cells leave by the side r of processor i: at the first processor those of that side, elsewhere those of the other.
unfoldable pub carried : ℕ → Side → Side
carried zero r = r
carried (suc i) r = flip r

-- What the side r of processor i is joined with: the facing side of the neighbour, or at an end itself. It is its own inverse, so it says
-- both where a wire leads and whose wire comes in.
unfoldable pub joined : ℕ → Side → ℕ → Slot
joined m left zero = slot 0 left
joined m left (suc i) = slot i right
joined m right i = cond (eqb i m) (slot m right) (slot (suc i) left)

-- the phase, T - Δ modulo 3, in which tile (i, j) sets a wire
unfoldable pub phase_of : ℕ → Side → Side → ℕ → ℕ → ℕ
phase_of m left left zero j = 1
phase_of m left left (suc i) zero = 1
phase_of m left left (suc i) (suc j) = 2
phase_of m left right i j = cond (ltb j i) 0 2
phase_of m right left i j = cond (ltb i j) 0 2
phase_of m right right i j = cond (eqb i m) 1 (cond (eqb j m) 1 2)

-- What a tile does in a tick: nothing; its first rotation, at T = Δ, which reads no cells; a later rotation; nothing but setting wires in the
-- two phases after a rotation; its last reading, at T = Δ + 3 K.
pub data Action : Type 0 where
  idle first rotate phase1 phase2 final : Action

-- by t = T - Δ
unfoldable pub action : ℕ → ℕ → Action
action K t =
    cond (ltb (t / 3) K)
    (cond (eqb (t % 3) 0) (cond (eqb (t / 3) 0) first rotate) (cond (eqb (t % 3) 1) phase1 phase2))
    (cond (eqb t (3 * K)) (cond (eqb K 0) idle final) idle)

unfoldable pub action_at : ℕ → ℕ → ℕ → Action
action_at K Δ t = cond (ltb t Δ) idle (action K (t - Δ))

-- the step that a tile at distance Δ is in
unfoldable pub step_at : ℕ → ℕ → ℕ
step_at Δ t = (t - Δ) / 3

unfoldable pub turn_tile : {X H W D : Type 0} → Operations X H W D → ℕ → ℕ → ℕ → H → W → Block X → Block X
turn_tile S k i j h v b = cond (eqb i j) (S.diagonal k i b) (S.off_diagonal k i j h v b)

-- the cells after the tick, from the cells b, what the cell wires bring in, and what the parameter wires bring in
unfoldable pub new_cells : {X H W D : Type 0} → Operations X H W D → ℕ → ℕ → ℕ → Action → Block X → Block X → H → W → Block X
new_cells S k i j idle b ins h v = b
new_cells S k i j first b ins h v = turn_tile S k i j h v b
new_cells S k i j rotate b ins h v = turn_tile S k i j h v ins
new_cells S k i j phase1 b ins h v = b
new_cells S k i j phase2 b ins h v = b
new_cells S k i j final b ins h v = ins

-- A parameter wire: a diagonal tile sends f of the cells that it rotates, any other passes on what comes in.
unfoldable pub new_parameter : {X P : Type 0} → (Block X → P) → ℕ → ℕ → Action → Block X → Block X → P → P → P
new_parameter f i j idle b ins p old = old
new_parameter f i j first b ins p old = cond (eqb i j) (f b) p
new_parameter f i j rotate b ins p old = cond (eqb i j) (f ins) p
new_parameter f i j phase1 b ins p old = old
new_parameter f i j phase2 b ins p old = old
new_parameter f i j final b ins p old = old

-- What a tile keeps for itself: on the diagonal f of the cells that it rotates and of what it kept.
abbrev pub new_kept : {X D : Type 0} → (Block X → D → D) → ℕ → ℕ → Action → Block X → Block X → D → D
new_kept f i j a b ins old = new_parameter (λ c. f c old) i j a b ins old old

-- the phase in which the tile is; 3 where it sets no wire
unfoldable pub phase_in : Action → ℕ
phase_in idle = 3
phase_in first = 0
phase_in rotate = 0
phase_in phase1 = 1
phase_in phase2 = 2
phase_in final = 3

-- the tile (i, j) sets its wire by the corner (r, s) in an action
abbrev pub sets_in : ℕ → Action → Side → Side → ℕ → ℕ → Bool
sets_in m a r s i j = eqb (phase_in a) (phase_of m r s i j)

-- the cell wires after the tick, from the cells c after it: a wire keeps its value until it is set
unfoldable pub new_wires : {X : Type 0} → ℕ → ℕ → ℕ → Action → Block X → Block X → Block X
new_wires m i j a c old =
    tab (λ r s. cond (sets_in m a r s i j) (cell (carried i r) (carried j s) c) (cell r s old))

-- the first part of a tick: the cells, the parameter wires and what is kept
abbrev pub turned_tile : {X H W D : Type 0} → Operations X H W D → ℕ → ℕ → ℕ → Action → Tile X H W D → Block X → H → W → Tile X H W D
turned_tile S k i j a old ins h v =
    record {
      cells = new_cells S k i j a old.cells ins h v;
      wires = old.wires;
      row_wire = new_parameter (S.sends_row k i) i j a old.cells ins h old.row_wire;
      column_wire = new_parameter (S.sends_column k i) i j a old.cells ins v old.column_wire;
      mark = old.mark;
      kept = new_kept (S.keeps k i) i j a old.cells ins old.kept;
    }

-- The second part: the cell wires and the mark. A tile is marked, for good, once its cells are bad at the end of a tick.
abbrev pub settled_tile : {X H W D : Type 0} → Operations X H W D → ℕ → ℕ → ℕ → Action → Tile X H W D → Tile X H W D
settled_tile S m i j a x =
    record {
      cells = x.cells;
      wires = new_wires m i j a x.cells x.wires;
      row_wire = x.row_wire;
      column_wire = x.column_wire;
      mark = x.mark || S.fails x.cells;
      kept = x.kept;
    }

unfoldable pub new_tile : {X H W D : Type 0} → Operations X H W D → ℕ → ℕ → ℕ → ℕ → Action → Tile X H W D → Block X → H → W → Tile X H W D
new_tile S m k i j a old ins h v = settled_tile S m i j a (turned_tile S k i j a old ins h v)

-- Tile (i, j) after tick t of an array of m + 1 by m + 1 tiles that runs K steps: a function of the tile and what comes in, and of nothing else.
unfoldable pub tick_tile : {X H W D : Type 0} → Operations X H W D → ℕ → ℕ → ℕ → ℕ → ℕ → Tile X H W D → Block X → H → W → Tile X H W D
tick_tile S m K t i j old ins h v = new_tile S m (step_at (distance i j) t) i j (action_at K (distance i j) t) old ins h v
