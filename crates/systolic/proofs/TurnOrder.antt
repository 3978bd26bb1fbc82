-- All tiles may turn, one after the other, before any sets its cell wires: while a tile changes its cells, those that it takes its
-- parameters from keep theirs. Assumes nothing.
use Prim.Native.Nat.{ℕ, suc, ◌+◌, ◌*◌}
use mathlib.Core.Path.{◌≡◌, refl, sym}
use mathlib.Core.Bool.{Bool, true, false, true≢false}
use native.Mathlib.Omega.{arith}
use Rattle.systolic.specs.Blocks.{Block}
use Rattle.systolic.specs.Synchronous.{Operations}
use Rattle.systolic.specs.Tiles.{distance, Tile, Action, idle, first, rotate, phase1, phase2, final, action_at, new_cells, new_parameter, turned_tile}
use Rattle.systolic.specs.Arrays.{nearer}
use Rattle.systolic.specs.Traffic.{rotates, changes_cells}
use Rattle.systolic.proofs.Clock.{View, waiting, starting, rotating, setting_phase1, setting_phase2, finishing, finished, stepless, view}
use Rattle.systolic.proofs.Wires.{nearer_ok}

-- ---- a tile whose cells don't change
module _ {X H W D : Type 0} (S : Operations X H W D) (k i j : ℕ) (o : Tile X H W D) (ins : Block X) (h : H) (v : W) where
  pub tile_kept : (a : Action) → changes_cells a ≡ false → turned_tile S k i j a o ins h v ≡ o
  unfolding new_cells new_parameter
  tile_kept idle e = refl
  tile_kept first e = absurd (true≢false e)
  tile_kept rotate e = absurd (true≢false e)
  tile_kept phase1 e = refl
  tile_kept phase2 e = refl
  tile_kept final e = absurd (true≢false e)

-- ---- a parameter wire of a tile that does not rotate
pub parameter_kept : {X P : Type 0} (f : Block X → P) (i j : ℕ) (a : Action) (b ins : Block X) (p old : P) → rotates a ≡ false
    → new_parameter f i j a b ins p old ≡ old
unfolding new_parameter
parameter_kept f i j idle b ins p old e = refl
parameter_kept f i j first b ins p old e = absurd (true≢false e)
parameter_kept f i j rotate b ins p old e = absurd (true≢false e)
parameter_kept f i j phase1 b ins p old e = refl
parameter_kept f i j phase2 b ins p old e = refl
parameter_kept f i j final b ins p old e = refl

-- ---- the cells of a tile at distance δ change in the ticks δ + 3 n alone
changes_at : (K δ t : ℕ) (a : Action) → View K δ t a → changes_cells a ≡ true → (n : ℕ) × (t ≡ δ + 3 * n)
changes_at K δ t idle (waiting w) e = absurd (true≢false (sym e))
changes_at K δ t first (starting w z) e = (0, omega arith)
changes_at K δ t rotate (rotating n w z) e = (suc n, w)
changes_at K δ t phase1 (setting_phase1 n w z) e = absurd (true≢false (sym e))
changes_at K δ t phase2 (setting_phase2 n w z) e = absurd (true≢false (sym e))
changes_at K δ t final (finishing n w z) e = (suc n, w)
changes_at K δ t idle (finished w) e = absurd (true≢false (sym e))
changes_at K δ t idle (stepless w z) e = absurd (true≢false (sym e))

-- so the tile one nearer to the diagonal does not rotate in the same tick
ahead : (K δ δ' t : ℕ) → suc δ ≡ δ' → changes_cells (action_at K δ' t) ≡ true → rotates (action_at K δ t) ≡ false
ahead K δ δ' t s e = go (rotates (action_at K δ t)) refl
  where
    go : (b : Bool) → rotates (action_at K δ t) ≡ b → b ≡ false
    go false r = refl
    go true r =
        let x = changes_at K δ' t _ (view K δ' t) e in
        let y = changes_at K δ t _ (view K δ t) (rw r) in
        let p : t ≡ δ' + 3 * x.0 = x.1 in
        let q : t ≡ δ + 3 * y.0 = y.1 in
        absurd (omega arith)

module _ (K t i j : ℕ) (n : ¬ (i ≡ j)) (e : changes_cells (action_at K (distance i j) t) ≡ true) where
  pub row_ahead : rotates (action_at K (distance i (nearer i j)) t) ≡ false
  row_ahead = ahead K _ _ t (nearer_ok (i + j) i j (omega arith) (omega arith) n).1 e

  pub column_ahead : rotates (action_at K (distance (nearer j i) j) t) ≡ false
  column_ahead = let s = (nearer_ok (i + j) j i (omega arith) (omega arith) (λ z. n (sym z))).1 in ahead K _ _ t (omega arith) e
