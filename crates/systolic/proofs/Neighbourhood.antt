-- A tile after a tick depends on that tile and on the wires that lead to it, and on nothing else. Assumes nothing.
use Prim.Native.Nat.{ℕ, ◌≤◌}
use mathlib.Core.Path.{◌≡◌, refl, sym, ap}
use mathlib.Core.Bool.{Bool, true, false, cond}
use lib.Dec.{eqb}
use Rattle.systolic.specs.Slots.{Side}
use Rattle.systolic.specs.Blocks.{Block, cell, pick}
use Rattle.systolic.specs.Synchronous.{Operations}
use Rattle.systolic.specs.Tiles.{distance, Tile, joined, Action, idle, first, rotate, phase1}
use Rattle.systolic.specs.Tiles.{phase2, final, step_at, turn_tile, new_cells, new_parameter, new_tile, tick_tile}
use Rattle.systolic.specs.Traffic.{rotates, receives_in, receives}
use Rattle.systolic.specs.Arrays.{nearer, incoming, tick}
use Rattle.systolic.proofs.Cells.{tab_ext}
use Rattle.systolic.proofs.Clock.{receiving}
use Rattle.systolic.proofs.Wires.{joined_le, nearer_ok}

-- a value that only an off-diagonal tile uses, and only when it rotates
off_diagonal : {P : Type 0} (a : Action) (i j : ℕ) (p h h' : P) → rotates a ≡ true → (receives_in a i j ≡ true → h ≡ h')
    → cond (eqb i j) p h ≡ cond (eqb i j) p h'
off_diagonal a i j p h h' z f = go (eqb i j) refl
  where
    go : (t : Bool) → eqb i j ≡ t → cond t p h ≡ cond t p h'
    go true e = refl
    go false e = f (rw (e, z))

-- A tile reads no parameter but when it receives one.
module _ {X H W D : Type 0} (S : Operations X H W D) (k i j : ℕ) (h h' : H) (v v' : W) where
  turn_same : (a : Action) → rotates a ≡ true → (receives_in a i j ≡ true → h ≡ h') → (receives_in a i j ≡ true → v ≡ v') → (b : Block X)
      → turn_tile S k i j h v b ≡ turn_tile S k i j h' v' b
  unfolding turn_tile
  turn_same a z f g b = off_diagonal a i j (S.diagonal k i b) _ _ z (λ n. rw (f n, g n))

  cells_same : (a : Action) → (receives_in a i j ≡ true → h ≡ h') → (receives_in a i j ≡ true → v ≡ v') → (b x : Block X)
      → new_cells S k i j a b x h v ≡ new_cells S k i j a b x h' v'
  unfolding new_cells
  cells_same idle f g b x = refl
  cells_same first f g b x = turn_same first refl f g b
  cells_same rotate f g b x = turn_same rotate refl f g x
  cells_same phase1 f g b x = refl
  cells_same phase2 f g b x = refl
  cells_same final f g b x = refl

parameter_same : {X P : Type 0} (s : Block X → P) (i j : ℕ) (h h' o : P) (a : Action) → (receives_in a i j ≡ true → h ≡ h') → (b x : Block X)
    → new_parameter s i j a b x h o ≡ new_parameter s i j a b x h' o
unfolding new_parameter
parameter_same s i j h h' o idle f b x = refl
parameter_same s i j h h' o first f b x = off_diagonal first i j _ h h' refl f
parameter_same s i j h h' o rotate f b x = off_diagonal rotate i j _ h h' refl f
parameter_same s i j h h' o phase1 f b x = refl
parameter_same s i j h h' o phase2 f b x = refl
parameter_same s i j h h' o final f b x = refl

tile_same : {X H W D : Type 0} (S : Operations X H W D) (m k i j : ℕ) (a : Action) (o : Tile X H W D) (x : Block X) (h h' : H) (v v' : W)
    → (receives_in a i j ≡ true → h ≡ h') → (receives_in a i j ≡ true → v ≡ v') → new_tile S m k i j a o x h v ≡ new_tile S m k i j a o x h' v'
unfolding new_tile
tile_same S m k i j a o x h h' v v' f g =
    rw (
      cells_same S k i j h h' v v' a f g o.cells x,
      parameter_same (S.sends_row k i) i j h h' o.row_wire a f o.cells x,
      parameter_same (S.sends_column k i) i j v v' o.column_wire a g o.cells x,
    )

-- Two arrays are alike in one tile and in the wires that lead to it, in the parameter wires where P holds.
pub record Alike {X H W D : Type 0} (P : Type 0) (m : ℕ) (A B : ℕ → ℕ → Tile X H W D) (i j : ℕ) : Type 0 where
  pub tile : A i j ≡ B i j
  pub wires : (h g : Side) → pick (λ i' j'. (A i' j').wires) (joined m h i) (joined m g j) ≡ pick (λ i' j'. (B i' j').wires) (joined m h i) (joined m g j)
  pub row : P → (A i (nearer i j)).row_wire ≡ (B i (nearer i j)).row_wire
  pub column : P → (A (nearer j i) j).column_wire ≡ (B (nearer j i) j).column_wire

-- If P holds where the tile receives, they are alike in that tile, and so in its outgoing wires, after the tick.
pub neighbourhood : {X H W D P : Type 0} (S : Operations X H W D) (m K t : ℕ) (A B : ℕ → ℕ → Tile X H W D) (i j : ℕ) → (receives K t i j ≡ true → P)
    → Alike P m A B i j → tick S m K t A i j ≡ tick S m K t B i j
unfolding tick tick_tile incoming receives
neighbourhood S m K t A B i j p e =
    rw (e.tile, tab_ext _ _ e.wires)
    (tile_same S m (step_at (distance i j) t) i j _ _ _ _ _ _ _ (λ z. e.row (p z)) (λ z. e.column (p z)))

-- Arrays that are alike in all their tiles stay so.
pub tick_same : {X H W D : Type 0} (S : Operations X H W D) (m K t : ℕ) (A B : ℕ → ℕ → Tile X H W D)
    → ((i j : ℕ) → i ≤ m → j ≤ m → A i j ≡ B i j) → (i j : ℕ) → i ≤ m → j ≤ m → tick S m K t A i j ≡ tick S m K t B i j
unfolding pick
tick_same S m K t A B e i j p q =
    neighbourhood S m K t A B i j (λ e. (receiving K t i j e).off_diagonal) (record {
      tile = e i j p q;
      wires = λ h g. ap (λ (x : Tile _ _ _ _). cell (joined m h i).side (joined m g j).side x.wires) (e _ _ (joined_le m h i p) (joined_le m g j q));
      row = λ n. ap (λ (x : Tile _ _ _ _). x.row_wire) (e i (nearer i j) p (nearer_ok m i j p q n).0);
      column = λ n. ap (λ (x : Tile _ _ _ _). x.column_wire) (e (nearer j i) j (nearer_ok m j i q p (λ w. n (sym w))).0 q);
    })
