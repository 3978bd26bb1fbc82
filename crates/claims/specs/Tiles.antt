-- Document 01, "The array", and document 02 (ii), (vi) and (vii): what a start and a tick that is made leave in each
-- tile of the record, whatever it held. Tiles are counted from 0 here, so document 01's P_ij stands in row i - 1 and
-- column j - 1. Definitions only.
use Rattle.std.specs.Prelude.{ℕ, ◌+◌, ◌-◌, ◌*◌, ◌%◌, ◌≤◌, ◌<◌, ◌≡◌, Bool, true, false, not, cond, ◌||◌, ◌&&◌, List, eqb, ltb, Float}
use Rattle.float64.specs.Values.{plus_zero, finite}
use Rattle.refusal.specs.Answers.{given, answered}
use Rattle.systolic.specs.Slots.{Side}
use Rattle.systolic.specs.Blocks.{Block, cell as corner}
use Rattle.systolic.specs.Tiles.{Tile, distance}
use Rattle.systolic.specs.Arrays.{nearer, incoming}
use Rattle.systolic.specs.Schedule.{interchange, leads_to, set_in_phase0, set_in_phase1, set_in_phase2}
use Rattle.sizes.specs.Sizes.{processors_of, sweep_steps, first_line, steps_of}
use Rattle.rotation.specs.declared.Parameters.{Parameters}
use Rattle.rotation.specs.declared.Parameters.TheVariants.{Still, Turn}
use Rattle.rotation.specs.Rotation.{of_pair, of_tangent, turn_of, sent}
use Rattle.rotation.specs.Exact.{exact_pair}
use Rattle.matrix.specs.Matrix.{at}
use Rattle.runs.specs.State.{identity}
use Rattle.runs.specs.declared.Counts.{Counts}
use Rattle.runs.specs.Cells.{Cell, cell, block_turned}
use Rattle.tile_schedule.specs.Answers.{made, progress_answered}
use Rattle.array.specs.declared.Array.{Array}
use Rattle.array.specs.declared.Started.{Started}
use Rattle.array.specs.declared.Ticked.{Ticked}
use Rattle.array.specs.Arrays.{the_array, Ticks}
use Rattle.array.specs.Runs.{Starts}

-- A tile of a record: four cells and four outgoing wires by its corners α β / γ δ, each an entry of the matrix and one
-- of the eigenvectors; the wires along its row and along its column, which carry tangents; its mark; and the two counts
-- that it has kept, of turns and of rounded pairs.
abbrev pub OneTile : Type 0
OneTile = Tile Cell Float Float Counts

abbrev pub tile_in : Array → ℕ → ℕ → OneTile
tile_in x = the_array x.tiles

-- ---- what a rotation makes of the four cells
-- The parameters of the tile on the diagonal in row i of an order n, by a = α, d = δ and b = β; that of processor 1 of
-- an odd order is always still, whatever its cells hold.
abbrev pub diagonal_parameters : ℕ → ℕ → Block Cell → Parameters
diagonal_parameters n i b =
    cond (eqb (n % 2) 1 && eqb i 0) Still (of_pair b.α.entry b.δ.entry b.β.entry)

-- Whether its pair counts as exact; the page `ExactRoots` has what `exact_pair` means.
abbrev pub diagonal_exact : ℕ → ℕ → Block Cell → Bool
diagonal_exact n i b = (eqb (n % 2) 1 && eqb i 0) || exact_pair b.α.entry b.δ.entry b.β.entry

-- The tangent that it sends, +0 when still, and its cells; β and γ become +0, still or not.
abbrev pub tangent_sent : ℕ → ℕ → Block Cell → Float
tangent_sent n i b = sent (diagonal_parameters n i b)

abbrev pub on_diagonal : ℕ → ℕ → Block Cell → Block Cell
on_diagonal n i b = block_turned (diagonal_parameters n i b) b

-- The row turn by the tangent t: the matrix alone.
abbrev pub block_rows_turned : Float → Block Cell → Block Cell
block_rows_turned t b =
    record {
      α = cell (turn_of (of_tangent t) b.α.entry b.γ.entry).left b.α.vector;
      β = cell (turn_of (of_tangent t) b.β.entry b.δ.entry).left b.β.vector;
      γ = cell (turn_of (of_tangent t) b.α.entry b.γ.entry).right b.γ.vector;
      δ = cell (turn_of (of_tangent t) b.β.entry b.δ.entry).right b.δ.vector;
    }

-- Both entries of a cell.
abbrev pub left_cell_turned : Float → Cell → Cell → Cell
left_cell_turned t x y =
    cell (turn_of (of_tangent t) x.entry y.entry).left (turn_of (of_tangent t) x.vector y.vector).left

abbrev pub right_cell_turned : Float → Cell → Cell → Cell
right_cell_turned t x y =
    cell (turn_of (of_tangent t) x.entry y.entry).right (turn_of (of_tangent t) x.vector y.vector).right

-- The column turn by the tangent t: matrix and eigenvectors.
abbrev pub block_columns_turned : Float → Block Cell → Block Cell
block_columns_turned t b =
    record {
      α = left_cell_turned t b.α b.β;
      β = right_cell_turned t b.α b.β;
      γ = left_cell_turned t b.γ b.δ;
      δ = right_cell_turned t b.γ b.δ;
    }

-- With i < j the row turn first, then the column turn; with i > j the column turn first. h comes along the row and v
-- along the column.
abbrev pub cells_rotated : ℕ → ℕ → ℕ → Float → Float → Block Cell → Block Cell
cells_rotated n i j h v b =
    cond (eqb i j) (on_diagonal n i b)
    (cond (ltb i j) (block_columns_turned v (block_rows_turned h b)) (block_rows_turned h (block_columns_turned v b)))

-- ---- one tile in tick T of a run of order n and K steps, from old to new
-- brought is what its cell wires bring, h and v what its parameter wires bring. It rotates at T = Δ + 3 k, k from 0 to
-- K - 1, and reads its cell wires first unless T = Δ; at T = Δ + 3 K it reads them, if K > 0, and does not turn.
pub record CellsTicked (n K T i j : ℕ) (old new : OneTile) (brought : Block Cell) (h v : Float) : Type 0 where
  pub rotates : (k : ℕ) → k < K → T ≡ distance i j + 3 * k
      → new.cells ≡ cells_rotated n i j h v (cond (eqb k 0) old.cells brought)
  pub reads_last : 0 < K → T ≡ distance i j + 3 * K → new.cells ≡ brought
  pub else_stays : ((k : ℕ) → k ≤ K → ¬ (T ≡ distance i j + 3 * k)) → new.cells ≡ old.cells
  pub no_step_stays : K ≡ 0 → new.cells ≡ old.cells

-- A diagonal tile passes its tangent, +0 when still, along its row and its column; another passes on what comes.
pub record ParametersTicked (n K T i j : ℕ) (old new : OneTile) (brought : Block Cell) (h v : Float) : Type 0 where
  pub sends : (k : ℕ) → k < K → T ≡ 3 * k → i ≡ j
      → (new.row_wire ≡ tangent_sent n i (cond (eqb k 0) old.cells brought))
      × (new.column_wire ≡ tangent_sent n i (cond (eqb k 0) old.cells brought))
  pub passes_on : (k : ℕ) → k < K → T ≡ distance i j + 3 * k → ¬ (i ≡ j) → (new.row_wire ≡ h) × (new.column_wire ≡ v)
  pub else_keeps : ((k : ℕ) → k < K → ¬ (T ≡ distance i j + 3 * k))
      → (new.row_wire ≡ old.row_wire) × (new.column_wire ≡ old.column_wire)

-- A wire carries what Algorithm Interchange (document 000) says of the new cells, from the phase T - Δ modulo 3 on in
-- which Program 3 (document 003) sets it, and keeps its value otherwise. last is the last row and column.
abbrev pub Sets : (ℕ → Side → Side → ℕ → ℕ → Bool) → ℕ → ℕ → ℕ → OneTile → OneTile → Type 0
Sets inPhase last i j old new = (r s : Side)
    → corner r s new.wires
    ≡ cond (inPhase last r s i j) (corner r s (interchange i j new.cells)) (corner r s old.wires)

pub record WiresTicked (last K T i j : ℕ) (old new : OneTile) : Type 0 where
  pub in_phase_0 : (k : ℕ) → k < K → T ≡ distance i j + 3 * k → Sets set_in_phase0 last i j old new
  pub in_phase_1 : (k : ℕ) → k < K → T ≡ distance i j + 3 * k + 1 → Sets set_in_phase1 last i j old new
  pub in_phase_2 : (k : ℕ) → k < K → T ≡ distance i j + 3 * k + 2 → Sets set_in_phase2 last i j old new
  pub kept_before : T < distance i j → new.wires ≡ old.wires
  pub kept_at_the_end : distance i j + 3 * K ≤ T → new.wires ≡ old.wires

-- One of the eight values in the cells isn't finite.
abbrev pub cell_not_finite : Cell → Bool
cell_not_finite x = not (finite x.entry) || not (finite x.vector)

abbrev pub some_cell_not_finite : Block Cell → Bool
some_cell_not_finite b = cell_not_finite b.α || cell_not_finite b.β || cell_not_finite b.γ || cell_not_finite b.δ

-- A tile on the diagonal counts its turns in the current sweep and its pairs with a rounded root: the rotation of a
-- sweep's first step sets the first count anew, and at 65,535 either stays. Any other tile keeps its counts.
abbrev pub is_turned : Parameters → Bool
is_turned Still = false
is_turned (Turn t c s) = true

abbrev pub counted_on : Bool → ℕ → ℕ
counted_on more d = cond (more && ltb d 65535) (d + 1) d

pub record CountsTicked (n K T i j : ℕ) (old new : OneTile) (brought : Block Cell) : Type 0 where
  pub turns_counted : (k : ℕ) → k < K → T ≡ 3 * k → i ≡ j
      → new.kept.turns
      ≡ counted_on (is_turned (diagonal_parameters n i (cond (eqb k 0) old.cells brought)))
      (cond (eqb (k % sweep_steps n) 0) 0 old.kept.turns)
  pub rounded_counted : (k : ℕ) → k < K → T ≡ 3 * k → i ≡ j
      → new.kept.rounded
      ≡ counted_on (not (diagonal_exact n i (cond (eqb k 0) old.cells brought))) old.kept.rounded
  pub else_keeps : (i ≡ j → (k : ℕ) → k < K → ¬ (T ≡ 3 * k)) → new.kept ≡ old.kept

-- A tile is marked, for good, once one of its cells isn't finite at the end of a tick.
pub record TileTicked (n last K T i j : ℕ) (old new : OneTile) (brought : Block Cell) (h v : Float) : Type 0 where
  pub cells : CellsTicked n K T i j old new brought h v
  pub parameters : ParametersTicked n K T i j old new brought h v
  pub wires : WiresTicked last K T i j old new
  pub mark : new.mark ≡ (old.mark || some_cell_not_finite new.cells)
  pub counts : CountsTicked n K T i j old new brought

-- ---- the record
-- All tiles read before any writes: what is brought comes from the record before the tick, along a row or column from
-- the neighbour that is one nearer to the diagonal.
abbrev pub Ticking : Array → Ticked → ℕ → ℕ → Type 0
Ticking x r i j =
    let last = processors_of x.n - 1 in
    TileTicked x.n last (steps_of x.n x.sweeps) x.tick i j (tile_in x i j) (tile_in r.array i j)
    (incoming last (tile_in x) i j) (tile_in x i (nearer i j)).row_wire (tile_in x (nearer j i) j).column_wire

pub record TickMade (x : Array) (r : Ticked) : Type 0 where
  pub same_order : r.array.n ≡ x.n
  pub same_sweeps : r.array.sweeps ≡ x.sweeps
  pub next_tick : r.array.tick ≡ x.tick + 1
  pub each_tile : (i j : ℕ) → i < processors_of x.n → j < processors_of x.n → Ticking x r i j

-- Where a wire leads: the tile and the corner that document 000 joins it with get what it carries.
abbrev pub WiresLead : Type 0
WiresLead = (x : Array) (r s : Side) (i j : ℕ) → i < processors_of x.n → j < processors_of x.n
    → (let last = processors_of x.n - 1 in
    let to = leads_to last r s i j in
    corner to.down to.across (incoming last (tile_in x) to.row to.column) ≡ corner r s (tile_in x i j).wires)

-- Tile P_ij begins with the part of the matrix at row registers i and column registers j and a like part of the
-- identity, line 0 at +0 throughout both, all wires at +0, not marked, nothing counted. b is the first line.
abbrev pub corners_at : ℕ → (ℕ → ℕ → Cell) → ℕ → ℕ → Block Cell
corners_at b f i j =
    record {
      α = f (2 * i + b) (2 * j + b);
      β = f (2 * i + b) (2 * j + 1 + b);
      γ = f (2 * i + 1 + b) (2 * j + b);
      δ = f (2 * i + 1 + b) (2 * j + 1 + b);
    }

abbrev pub cell_at_first : ℕ → List Float → ℕ → ℕ → Cell
cell_at_first n l r c = cond (eqb r 0 || eqb c 0) (cell plus_zero plus_zero) (cell (at n l r c) (identity r c))

pub record TileStarted (n : ℕ) (l : List Float) (i j : ℕ) (new : OneTile) : Type 0 where
  pub cells : new.cells ≡ corners_at (first_line n) (cell_at_first n l) i j
  pub wires : new.wires ≡ corners_at (first_line n) (λ r c. cell plus_zero plus_zero) i j
  pub parameters : (new.row_wire ≡ plus_zero) × (new.column_wire ≡ plus_zero)
  pub mark : new.mark ≡ false
  pub counts : (new.kept.turns ≡ 0) × (new.kept.rounded ≡ 0)

pub record StartMade (n sweeps : ℕ) (l : List Float) (s : Started) : Type 0 where
  pub order : s.array.n ≡ n
  pub sweep_count : s.array.sweeps ≡ sweeps
  pub tick_0 : s.array.tick ≡ 0
  pub each_tile : (i j : ℕ) → i < processors_of n → j < processors_of n → TileStarted n l i j (tile_in s.array i j)

pub record TilesAsPrinted : Type 0 where
  pub starts : (n sweeps : ℕ) (l : List Float) (s : Started) → Starts n sweeps l s → answered s.answer ≡ given tt
      → StartMade n sweeps l s
  pub ticks : (x : Array) (r : Ticked) → Ticks x r → progress_answered r.answer ≡ given made → TickMade x r
  pub wires_lead : WiresLead
