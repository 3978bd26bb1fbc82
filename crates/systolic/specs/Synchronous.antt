-- The idealized array of the report's section 6: in a step every block rotates at once, and then rows and columns move. Definitions only.
use Rattle.std.specs.Prelude.{ℕ, zero, suc, Bool, cond, eqb}
use Rattle.systolic.specs.Slots.{came_from}
use Rattle.systolic.specs.Blocks.{Block, tab, pick}

-- What the processors do, for cells X, parameters H that go along rows, parameters W that go along columns, and D that a diagonal processor keeps.
-- The first number of an operation is the step. A diagonal processor i has the second number i; an off-diagonal one at row i and column j has i and j.
pub record Operations (X H W D : Type 0) : Type 0 where
  pub wire_start : X
  pub row_start : H
  pub column_start : W
  pub initial : ℕ → ℕ → Block X
  pub diagonal : ℕ → ℕ → Block X → Block X
  pub sends_row : ℕ → ℕ → Block X → H
  pub sends_column : ℕ → ℕ → Block X → W
  pub off_diagonal : ℕ → ℕ → ℕ → H → W → Block X → Block X
  pub fails : Block X → Bool
  pub kept_start : D
  pub keeps : ℕ → ℕ → Block X → D → D

-- all blocks s rotated in step k
unfoldable pub rotate_all : {X H W D : Type 0} → Operations X H W D → ℕ → (ℕ → ℕ → Block X) → ℕ → ℕ → Block X
rotate_all S k s i j =
    cond (eqb i j) (S.diagonal k i (s i i)) (S.off_diagonal k i j (S.sends_row k i (s i i)) (S.sends_column k j (s j j)) (s i j))

-- rows and columns moved with the registers
unfoldable pub move_all : {X : Type 0} → ℕ → (ℕ → ℕ → Block X) → ℕ → ℕ → Block X
move_all m s i j = tab (λ h g. pick s (came_from m h i) (came_from m g j))

-- the blocks before step k
unfoldable pub blocks_at : {X H W D : Type 0} → Operations X H W D → ℕ → ℕ → ℕ → ℕ → Block X
blocks_at S m zero = S.initial
blocks_at S m (suc k) = move_all m (rotate_all S k (blocks_at S m k))

-- and after its rotations, before they move
unfoldable pub rotated_at : {X H W D : Type 0} → Operations X H W D → ℕ → ℕ → ℕ → ℕ → Block X
rotated_at S m k = rotate_all S k (blocks_at S m k)

-- the parameters of processor i in step k
unfoldable pub row_parameter : {X H W D : Type 0} → Operations X H W D → ℕ → ℕ → ℕ → H
row_parameter S m k i = S.sends_row k i (blocks_at S m k i i)

unfoldable pub column_parameter : {X H W D : Type 0} → Operations X H W D → ℕ → ℕ → ℕ → W
column_parameter S m k i = S.sends_column k i (blocks_at S m k i i)

-- what the diagonal processor i keeps before step k
unfoldable pub kept_at : {X H W D : Type 0} → Operations X H W D → ℕ → ℕ → ℕ → D
kept_at S m zero i = S.kept_start
kept_at S m (suc k) i = S.keeps k i (blocks_at S m k i i) (kept_at S m k i)
