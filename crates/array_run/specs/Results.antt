-- Document 01, "The array", and document 02 (ii), (vi) and (vii): what a whole run makes of its array at the end. Definitions only.
use Rattle.std.specs.Prelude.{ℕ, ◌-◌, ◌/◌, ◌%◌, Bool, cond, List, eqb, Float}
use Rattle.refusal.specs.Answers.{given, refused_by}
use Rattle.refusal.specs.declared.Refusal.TheVariants.{Spoiled}
use Rattle.lists.specs.Bounded.{any, total}
use Rattle.tile_wires.specs.declared.Quad.{Quad}
use Rattle.tile_wires.specs.Wires.{corner_of}
use Rattle.matrix.specs.Matrix.{flat}
use Rattle.runs.specs.Outcome.{Outcome, outcome, Report, report}
use Rattle.runs.specs.State.{zeros}
use Rattle.tile.specs.declared.Tile.{Tile}
use Rattle.array.specs.declared.Array.{Array}
use Rattle.array.specs.Arrays.{tile_at}
use Rattle.sizes.specs.Sizes.{processors_of, first_line}

-- The entry in row r and column c, both from the first line b on, of the matrix whose parts are given by the tiles' rows and columns.
unfoldable pub joint_at : ℕ → (ℕ → ℕ → Quad Float) → ℕ → ℕ → Float
joint_at b f r c = corner_of (eqb ((r - b) % 2) 1) (eqb ((c - b) % 2) 1) (f ((r - b) / 2) ((c - b) / 2))

-- The matrix and the eigenvectors in the cells of the tiles of an order n.
abbrev pub matrix_in : ℕ → List Tile → ℕ → ℕ → Float
matrix_in n l = joint_at (first_line n) (λ i j. (tile_at l i j).cells.matrix)

abbrev pub vectors_in : ℕ → List Tile → ℕ → ℕ → Float
vectors_in n l = joint_at (first_line n) (λ i j. (tile_at l i j).cells.vectors)

-- A tile before column N of row i is marked, and one in use.
abbrev pub marked_in_row : ℕ → List Tile → ℕ → Bool
marked_in_row N l i = any N (λ j. (tile_at l i j).mark)

unfoldable pub some_marked : ℕ → List Tile → Bool
some_marked N l = any N (marked_in_row N l)

-- The pairs with a rounded root that the tiles on the diagonal count.
unfoldable pub rounded_pairs : ℕ → List Tile → ℕ
rounded_pairs N l = total N (λ i. (tile_at l i i).counts.rounded)

-- What a whole run reports: what a plain run does, and its ticks.
pub record WholeReport : Type 0 where
  pub report : Report
  pub ticks : ℕ

abbrev pub reporting : Report → ℕ → WholeReport
reporting r ticks = record { report = r; ticks = ticks }

-- What a run whose array is x at its end reports.
abbrev pub report_in : Array → WholeReport
report_in x = reporting (report x.sweeps (rounded_pairs (processors_of x.n) x.tiles)) x.tick

-- What a whole run makes of its array at the end: 8 if a tile is marked, otherwise its report, and the cells.
unfoldable pub handed_over : Array → Outcome WholeReport
handed_over x =
    cond (some_marked (processors_of x.n) x.tiles) (outcome (refused_by Spoiled) (zeros x.n) (zeros x.n))
    (outcome (given (report_in x)) (flat x.n (matrix_in x.n x.tiles)) (flat x.n (vectors_in x.n x.tiles)))
