-- Rules on the numbers below 997 that are no rotations. No two operations are alike, none is symmetric in what it takes, and row and column
-- turns do not commute, so a wrong value, side, step, processor or order shows. Definitions only.
use Rattle.std.specs.Prelude.{ℕ, ◌+◌, ◌*◌, ◌%◌, Bool, eqb}
use Rattle.systolic.specs.Slots.{Side, left, right, slot, ordered_line}
use Rattle.systolic.specs.Blocks.{Block, cell, tab}
use Rattle.systolic.specs.Synchronous.{Operations}
use Rattle.systolic.specs.Sequential.{Rules, block_at, turn_block_rows, turn_block_columns, any_fails, operations_of}

-- what a diagonal processor i, counted from 0, makes of its block in step k
unfoldable pub mixed : ℕ → ℕ → Block ℕ → Block ℕ
mixed k i b =
    record {
      α = (2 * b.α + 3 * b.β + 5 * b.γ + 7 * b.δ + 11 * k + 13 * i + 1) % 997;
      β = (7 * b.α + 2 * b.β + 3 * b.γ + 4 * b.δ + 17 * k + 19 * i + 2) % 997;
      γ = (3 * b.α + 5 * b.β + 8 * b.γ + 2 * b.δ + 23 * k + 29 * i + 3) % 997;
      δ = (5 * b.α + 9 * b.β + 2 * b.γ + 3 * b.δ + 31 * k + 37 * i + 4) % 997;
    }

-- what it sends
unfoldable pub along_row : ℕ → ℕ → Block ℕ → ℕ
along_row k i b = (2 * b.α + 3 * b.γ + 5 * k + 7 * i + 1) % 997

unfoldable pub along_column : ℕ → ℕ → Block ℕ → ℕ
along_column k i b = (4 * b.β + 7 * b.δ + 13 * k + 17 * i + 9) % 997

-- what it keeps for itself, from its block and what it kept
unfoldable pub keeping : ℕ → ℕ → Block ℕ → ℕ → ℕ
keeping k i b d = (3 * b.α + 8 * b.β + 2 * b.γ + 6 * b.δ + 5 * d + 41 * k + 43 * i + 5) % 997

-- the new value at the left or the right line from the two old ones
unfoldable pub row_turned : ℕ → Side → ℕ → ℕ → ℕ
row_turned h left x y = ((h + x) * (y + 3)) % 997
row_turned h right x y = ((h + 2 * y) * (x + 5)) % 997

unfoldable pub column_turned : ℕ → Side → ℕ → ℕ → ℕ
column_turned v left x y = ((v + 3 * x) * (y + 7)) % 997
column_turned v right x y = ((v + y) * (5 * x + 11)) % 997

unfoldable pub failing : ℕ → Bool
failing x = eqb (x % 19) 18

unfoldable pub toy : Rules ℕ ℕ ℕ ℕ
unfolding mixed along_row along_column row_turned column_turned failing keeping
toy =
    record {
      diagonal = mixed;
      sends_row = along_row;
      sends_column = along_column;
      row_turn = row_turned;
      column_turn = column_turned;
      fails = failing;
      keeps = keeping;
    }

-- the entry at the lines r and c
unfoldable pub entry : ℕ → ℕ → ℕ
entry r c = (100 + 37 * r + 101 * c + 17 * r * c + 5 * r * r) % 997

-- The array's start: lines from 1 in order; the wires start at 901, 902 and 903, and 904 is kept.
unfoldable pub toy_array : Operations ℕ ℕ ℕ ℕ
unfolding operations_of toy ordered_line entry slot cell tab block_at turn_block_rows turn_block_columns any_fails
toy_array = operations_of toy (ordered_line 1) entry 901 902 903 904

-- The rules do not show an off-diagonal processor's step, row and column, so here is an array in which they tell.
unfoldable pub stamp : ℕ → ℕ → ℕ → ℕ → ℕ → Block ℕ → Block ℕ
stamp k i j h v b =
    record {
      α = (h + 2 * b.δ + 100 * k + 3 * i + 7 * j) % 997;
      β = (v + 3 * b.α + 200 * k + 5 * i + 2 * j) % 997;
      γ = (2 * h + b.β + 300 * k + 11 * i + 4 * j) % 997;
      δ = (3 * v + b.γ + 400 * k + 13 * i + 6 * j) % 997;
    }

unfoldable pub stamped_array : Operations ℕ ℕ ℕ ℕ
unfolding toy_array stamp
stamped_array =
    record {
      wire_start = 901;
      row_start = 902;
      column_start = 903;
      initial = block_at (ordered_line 1) entry;
      diagonal = mixed;
      sends_row = along_row;
      sends_column = along_column;
      off_diagonal = stamp;
      fails = any_fails toy;
      kept_start = 904;
      keeps = keeping;
    }
