-- Document 01, "Plain run": one pair after the other, on a matrix whose rows and columns are lines; and what the array does by the same rules.
-- Definitions only.
use Rattle.std.specs.Prelude.{ℕ, zero, suc, ◌+◌, Bool, cond, ◌||◌, ltb, eqb}
use Rattle.systolic.specs.Slots.{Side, left, right, Slot, slot, line_at}
use Rattle.lists.specs.Bounded.{any}
use Rattle.systolic.specs.Blocks.{Block, cell, tab}
use Rattle.systolic.specs.Synchronous.{Operations}

-- What a pair of lines does. The first number is the step and the second the processor. A turn gives the new value at the left or the right
-- line from the two old values. A processor keeps something of the four entries of its pair, and of what it kept.
pub record Rules (X H W D : Type 0) : Type 0 where
  pub diagonal : ℕ → ℕ → Block X → Block X
  pub sends_row : ℕ → ℕ → Block X → H
  pub sends_column : ℕ → ℕ → Block X → W
  pub row_turn : H → Side → X → X → X
  pub column_turn : W → Side → X → X → X
  pub fails : X → Bool
  pub keeps : ℕ → ℕ → Block X → D → D

-- ---- the run
-- the row turn of p and q, for any other column
unfoldable pub turn_rows : {X H W D : Type 0} → Rules X H W D → H → ℕ → ℕ → (ℕ → ℕ → X) → ℕ → ℕ → X
turn_rows R h p q M r c =
    cond (eqb c p || eqb c q) (M r c)
    (cond (eqb r p) (R.row_turn h left (M p c) (M q c)) (cond (eqb r q) (R.row_turn h right (M p c) (M q c)) (M r c)))

-- the column turn, the mirror of it
unfoldable pub turn_columns : {X H W D : Type 0} → Rules X H W D → W → ℕ → ℕ → (ℕ → ℕ → X) → ℕ → ℕ → X
turn_columns R v p q M r c =
    cond (eqb r p || eqb r q) (M r c)
    (cond (eqb c p) (R.column_turn v left (M r p) (M r q)) (cond (eqb c q) (R.column_turn v right (M r p) (M r q)) (M r c)))

-- the four entries at p and q
unfoldable pub pair_block : {X : Type 0} → ℕ → ℕ → (ℕ → ℕ → X) → Block X
pair_block p q M = record { α = M p p; β = M p q; γ = M q p; δ = M q q }

unfoldable pub place : {X : Type 0} → Block X → ℕ → ℕ → (ℕ → ℕ → X) → ℕ → ℕ → X
place b p q M r c =
    cond (eqb r p) (cond (eqb c p) b.α (cond (eqb c q) b.β (M r c)))
    (cond (eqb r q) (cond (eqb c p) b.γ (cond (eqb c q) b.δ (M r c))) (M r c))

-- one pair: its parameters, its row turn, then its column turn, and its four entries
unfoldable pub pair_step : {X H W D : Type 0} → Rules X H W D → ℕ → ℕ → ℕ → ℕ → (ℕ → ℕ → X) → ℕ → ℕ → X
pair_step R k i p q M =
    place (R.diagonal k i (pair_block p q M)) p q
    (turn_columns R (R.sends_column k i (pair_block p q M)) p q (turn_rows R (R.sends_row k i (pair_block p q M)) p q M))

-- the first n processors in order, where L says which line stands in a slot
unfoldable pub pairs_step : {X H W D : Type 0} → Rules X H W D → ℕ → (Slot → ℕ) → ℕ → (ℕ → ℕ → X) → ℕ → ℕ → X
pairs_step R k L zero M = M
pairs_step R k L (suc n) M = pair_step R k n (L (slot n left)) (L (slot n right)) (pairs_step R k L n M)

-- the matrix after k steps, where l labels the slots at the start
unfoldable pub sequential : {X H W D : Type 0} → Rules X H W D → (Slot → ℕ) → ℕ → (ℕ → ℕ → X) → ℕ → ℕ → ℕ → X
sequential R l m M zero = M
sequential R l m M (suc k) = pairs_step R k (line_at l m k) (suc m) (sequential R l m M k)

-- the four entries of processor i's pair at its turn in step k
unfoldable pub block_at_turn : {X H W D : Type 0} → Rules X H W D → (Slot → ℕ) → ℕ → (ℕ → ℕ → X) → ℕ → ℕ → Block X
block_at_turn R l m M k i =
    pair_block (line_at l m k (slot i left)) (line_at l m k (slot i right)) (pairs_step R k (line_at l m k) i (sequential R l m M k))

-- what processor i keeps before step k, d at first
unfoldable pub sequential_kept : {X H W D : Type 0} → Rules X H W D → (Slot → ℕ) → ℕ → (ℕ → ℕ → X) → D → ℕ → ℕ → D
sequential_kept R l m M d zero i = d
sequential_kept R l m M d (suc k) i = R.keeps k i (block_at_turn R l m M k i) (sequential_kept R l m M d k i)

-- an entry at the lines b to b + n - 1 fails
unfoldable pub fails_in : {X H W D : Type 0} → Rules X H W D → ℕ → ℕ → (ℕ → ℕ → X) → Bool
fails_in R b n M = any n (λ r. any n (λ c. R.fails (M (b + r) (b + c))))

-- ---- the array by the same rules
-- the part of M at the row registers of i and the column registers of j
unfoldable pub block_at : {X : Type 0} → (Slot → ℕ) → (ℕ → ℕ → X) → ℕ → ℕ → Block X
block_at L M i j = tab (λ r s. M (L (slot i r)) (L (slot j s)))

unfoldable pub turn_block_rows : {X H W D : Type 0} → Rules X H W D → H → Block X → Block X
turn_block_rows R h b = tab (λ r s. R.row_turn h r (cell left s b) (cell right s b))

unfoldable pub turn_block_columns : {X H W D : Type 0} → Rules X H W D → W → Block X → Block X
turn_block_columns R v b = tab (λ r s. R.column_turn v s (cell r left b) (cell r right b))

unfoldable pub any_fails : {X H W D : Type 0} → Rules X H W D → Block X → Bool
any_fails R b = R.fails b.α || R.fails b.β || R.fails b.γ || R.fails b.δ

-- An off-diagonal tile with i < j takes the row turn first, then the column turn; with i > j the column turn first.
unfoldable pub operations_of : {X H W D : Type 0} → Rules X H W D → (Slot → ℕ) → (ℕ → ℕ → X) → X → H → W → D → Operations X H W D
operations_of R l M x h w d =
    record {
      wire_start = x;
      row_start = h;
      column_start = w;
      initial = block_at l M;
      diagonal = R.diagonal;
      sends_row = R.sends_row;
      sends_column = R.sends_column;
      off_diagonal = λ k i j p q b. cond (ltb i j) (turn_block_columns R q (turn_block_rows R p b)) (turn_block_rows R p (turn_block_columns R q b));
      fails = any_fails R;
      kept_start = d;
      keeps = R.keeps;
    }
