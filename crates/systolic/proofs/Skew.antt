-- The array does what the synchronous system does, skewed. Assumes nothing.
use Prim.Native.Nat.{ℕ, zero, suc, ◌+◌, ◌*◌, ◌≤◌, ◌<◌}
use mathlib.Core.Path.{◌≡◌, refl, sym, ◌∙◌, ap}
use mathlib.Core.Bool.{Bool, true, false, cond}
use native.Mathlib.Omega.{arith}
use borrow.Author.Tests.{eqb-true, eqb-false, eq-eqb, ltb-true, ltb-false}
use lib.Dec.{eqb, ltb}
use Rattle.systolic.specs.Slots.{Side, slot}
use Rattle.systolic.specs.Blocks.{Block, cell, pick}
use Rattle.systolic.specs.Synchronous.{Operations, rotate_all, move_all, blocks_at, rotated_at, row_parameter, column_parameter, kept_at}
use Rattle.systolic.specs.Tiles.{distance, Tile, carried, joined, phase_of, Action, idle, first, rotate, phase1, phase2}
use Rattle.systolic.specs.Tiles.{final, action_at, step_at, turn_tile, new_cells, new_parameter, new_kept, phase_in, new_wires, new_tile, tick_tile}
use Rattle.systolic.specs.Arrays.{nearer, incoming, tick, array_after}
use Rattle.systolic.proofs.Cells.{cell_tab, tab_ext}
use Rattle.systolic.proofs.Clock.{View, waiting, starting, rotating, setting_phase1, setting_phase2}
use Rattle.systolic.proofs.Clock.{finishing, finished, stepless, view, writes_at, at_writes, step_at_lem}
use Rattle.systolic.proofs.Wires.{link, joined_le, InTime, in_time, phase_lt, nearer_ok}

same : (Q : ℕ → Type 0) (k n : ℕ) → k ≡ n → Q n → Q k
same Q k n e x = rw e x

module _ {X H W D : Type 0} (S : Operations X H W D) (m K : ℕ) where
  -- what is known of the tile (i, j) after t ticks
  pub record Known (t i j : ℕ) (x : Tile X H W D) : Type 0 where
    pub before : t ≤ distance i j → x.cells ≡ S.initial i j
    pub during : (k : ℕ) → k < K → distance i j + 3 * k < t → t ≤ distance i j + 3 * suc k → x.cells ≡ rotated_at S m k i j
    pub after : distance i j + 3 * K < t → x.cells ≡ blocks_at S m K i j
    pub wire : (r s : Side) (k : ℕ) → k < K → distance i j + phase_of m r s i j + 3 * k < t
        → t ≤ distance i j + phase_of m r s i j + 3 * suc k → cell r s x.wires ≡ cell (carried i r) (carried j s) (rotated_at S m k i j)
    pub row : (k : ℕ) → k < K → distance i j + 3 * k < t → t ≤ distance i j + 3 * suc k → x.row_wire ≡ row_parameter S m k i
    pub column : (k : ℕ) → k < K → distance i j + 3 * k < t → t ≤ distance i j + 3 * suc k → x.column_wire ≡ column_parameter S m k j
    -- on the diagonal, once the tile has made k rotations and no more
    pub kept : i ≡ j → (k : ℕ) → k ≤ K → 3 * k < t + 3 → (k < K → t ≤ 3 * k) → x.kept ≡ kept_at S m k i

  abbrev pub AllKnown : ℕ → Type 0
  AllKnown t = (i j : ℕ) → i ≤ m → j ≤ m → Known t i j (array_after S m K t i j)

  -- a rotation, from what it reads
  turned : (k i j : ℕ) (b : Block X) (h : H) (v : W) → b ≡ blocks_at S m k i j → (¬ (i ≡ j) → h ≡ row_parameter S m k i)
      → (¬ (i ≡ j) → v ≡ column_parameter S m k j)
      → turn_tile S k i j h v b ≡ rotated_at S m k i j
  unfolding turn_tile rotated_at rotate_all row_parameter column_parameter
  turned k i j b h v e f g = go (eqb i j) refl
    where
      go : (t : Bool) → eqb i j ≡ t
          → cond t (S.diagonal k i b) (S.off_diagonal k i j h v b)
          ≡ cond t (S.diagonal k i (blocks_at S m k i i))
          (S.off_diagonal k i j (S.sends_row k i (blocks_at S m k i i)) (S.sends_column k j (blocks_at S m k j j)) (blocks_at S m k i j))
      go true z = let w : i ≡ j = eqb-true _ _ z in rw (e, ← w)
      go false z = rw (e, f (eqb-false _ _ z), g (eqb-false _ _ z))

  -- a parameter wire, whose parameter in step k is that of processor c: i along a row, j along a column
  sent : {P : Type 0} (f : ℕ → ℕ → Block X → P) (c k i j : ℕ) (b : Block X) (p : P) → (i ≡ j → (i ≡ c) × (j ≡ c)) → b ≡ blocks_at S m k i j
      → (¬ (i ≡ j) → p ≡ f k c (blocks_at S m k c c))
      → cond (eqb i j) (f k i b) p ≡ f k c (blocks_at S m k c c)
  sent f c k i j b p o e g = go (eqb i j) refl
    where
      go : (t : Bool) → eqb i j ≡ t → cond t (f k i b) p ≡ f k c (blocks_at S m k c c)
      go true z = let w = o (eqb-true _ _ z) in rw (e, w.0, w.1)
      go false z = g (eqb-false _ _ z)

  module _ (t : ℕ) (all : AllKnown t) where
    reads : (k i j : ℕ) → i ≤ m → j ≤ m → k < K → t ≡ distance i j + 3 * suc k → incoming m (array_after S m K t) i j ≡ blocks_at S m (suc k) i j
    unfolding incoming blocks_at move_all pick slot rotated_at
    reads k i j p q l e =
        tab_ext _ _ (λ h g.
        let z : InTime (distance (joined m h i).processor (joined m g j).processor)
        (phase_of m (joined m h i).side (joined m g j).side (joined m h i).processor (joined m g j).processor) (distance i j)
        = in_time m h g i j p q in
        rw (link m h i, link m g j)
        ((all (joined m h i).processor (joined m g j).processor (joined_le m h i p) (joined_le m g j q)).wire
        (joined m h i).side (joined m g j).side k l (omega arith) (omega arith)))

    row_in : (k i j : ℕ) → i ≤ m → j ≤ m → k < K → t ≡ distance i j + 3 * k → ¬ (i ≡ j) → (array_after S m K t i (nearer i j)).row_wire ≡ row_parameter S m k i
    row_in k i j p q l e n =
        let z : (nearer i j ≤ m) × (suc (distance i (nearer i j)) ≡ distance i j) = nearer_ok m i j p q n in
        (all i (nearer i j) p z.0).row k l (omega arith) (omega arith)

    column_in : (k i j : ℕ) → i ≤ m → j ≤ m → k < K → t ≡ distance i j + 3 * k → ¬ (i ≡ j)
        → (array_after S m K t (nearer j i) j).column_wire ≡ column_parameter S m k j
    column_in k i j p q l e n =
        let z : (nearer j i ≤ m) × (suc (distance j (nearer j i)) ≡ distance j i) = nearer_ok m j i q p (λ w. n (sym w)) in
        (all (nearer j i) j z.0 q).column k l (omega arith) (omega arith)

    module _ (i j : ℕ) (pi : i ≤ m) (pj : j ≤ m) where
      abbrev old : Tile X H W D
      old = array_after S m K t i j

      abbrev fresh : Action → Block X
      fresh a =
          new_cells S (step_at (distance i j) t) i j a old.cells (incoming m (array_after S m K t) i j)
          (array_after S m K t i (nearer i j)).row_wire (array_after S m K t (nearer j i) j).column_wire

      abbrev now : ℕ
      now = step_at (distance i j) t

      -- what a tile rotates
      began : 0 < K → t ≡ distance i j → old.cells ≡ blocks_at S m 0 i j
      unfolding blocks_at
      began z e = (all i j pi pj).before (omega arith)

      first_rotation : 0 < K → t ≡ distance i j → fresh first ≡ rotated_at S m 0 i j
      unfolding new_cells
      first_rotation z e =
          rw (step_at_lem (distance i j) t 0 (omega arith))
          (turned 0 i j _ _ _ (began z e) (row_in 0 i j pi pj z (omega arith)) (column_in 0 i j pi pj z (omega arith)))

      later_rotation : (k : ℕ) → t ≡ distance i j + 3 * suc k → suc k < K → fresh rotate ≡ rotated_at S m (suc k) i j
      unfolding new_cells
      later_rotation k e z =
          rw (step_at_lem (distance i j) t (suc k) e)
          (turned (suc k) i j _ _ _ (reads k i j pi pj (omega arith) e) (row_in (suc k) i j pi pj z e) (column_in (suc k) i j pi pj z e))

      new_before : (a : Action) → View K (distance i j) t a → suc t ≤ distance i j → fresh a ≡ S.initial i j
      unfolding new_cells
      new_before idle (waiting w) l = (all i j pi pj).before (omega arith)
      new_before first (starting w z) l = absurd (omega arith)
      new_before rotate (rotating k w z) l = absurd (omega arith)
      new_before phase1 (setting_phase1 k w z) l = absurd (omega arith)
      new_before phase2 (setting_phase2 k w z) l = absurd (omega arith)
      new_before final (finishing k w z) l = absurd (omega arith)
      new_before idle (finished w) l = absurd (omega arith)
      new_before idle (stepless w z) l = absurd (omega arith)

      new_during : (a : Action) → View K (distance i j) t a → (k : ℕ) → k < K → distance i j + 3 * k < suc t → suc t ≤ distance i j + 3 * suc k
          → fresh a ≡ rotated_at S m k i j
      unfolding new_cells
      new_during idle (waiting w) k l x y = absurd (omega arith)
      new_during first (starting w z) k l x y = same (λ n. fresh first ≡ rotated_at S m n i j) k 0 (omega arith) (first_rotation z w)
      new_during rotate (rotating n w z) k l x y = same (λ n. fresh rotate ≡ rotated_at S m n i j) k (suc n) (omega arith) (later_rotation n w z)
      new_during phase1 (setting_phase1 n w z) k l x y = (all i j pi pj).during k l (omega arith) (omega arith)
      new_during phase2 (setting_phase2 n w z) k l x y = (all i j pi pj).during k l (omega arith) (omega arith)
      new_during final (finishing n w z) k l x y = absurd (omega arith)
      new_during idle (finished w) k l x y = absurd (omega arith)
      new_during idle (stepless w z) k l x y = absurd (omega arith)

      new_after : (a : Action) → View K (distance i j) t a → distance i j + 3 * K < suc t → fresh a ≡ blocks_at S m K i j
      unfolding new_cells blocks_at
      new_after idle (waiting w) l = absurd (omega arith)
      new_after first (starting w z) l = absurd (omega arith)
      new_after rotate (rotating k w z) l = absurd (omega arith)
      new_after phase1 (setting_phase1 k w z) l = absurd (omega arith)
      new_after phase2 (setting_phase2 k w z) l = absurd (omega arith)
      new_after final (finishing k w z) l = same (λ n. fresh final ≡ blocks_at S m n i j) K (suc k) z (reads k i j pi pj (omega arith) w)
      new_after idle (finished w) l = (all i j pi pj).after (omega arith)
      new_after idle (stepless w z) l = same (λ n. fresh idle ≡ blocks_at S m n i j) K 0 w ((all i j pi pj).before (omega arith))

      new_parameter_lem : {P : Type 0} (f : ℕ → ℕ → Block X → P) (c : ℕ) (p held : P) → (i ≡ j → (i ≡ c) × (j ≡ c))
          → ((k : ℕ) → k < K → t ≡ distance i j + 3 * k → ¬ (i ≡ j) → p ≡ f k c (blocks_at S m k c c))
          → ((k : ℕ) → k < K → distance i j + 3 * k < t → t ≤ distance i j + 3 * suc k → held ≡ f k c (blocks_at S m k c c))
          → (a : Action) → View K (distance i j) t a → (k : ℕ) → k < K → distance i j + 3 * k < suc t → suc t ≤ distance i j + 3 * suc k
          → new_parameter (f now i) i j a old.cells (incoming m (array_after S m K t) i j) p held ≡ f k c (blocks_at S m k c c)
      unfolding new_parameter
      new_parameter_lem f c p held o g h idle (waiting w) k l x y = absurd (omega arith)
      new_parameter_lem f c p held o g h first (starting w z) k l x y =
          same (λ n. cond (eqb i j) (f now i old.cells) p ≡ f n c (blocks_at S m n c c)) k 0 (omega arith)
          (rw (step_at_lem (distance i j) t 0 (omega arith)) (sent f c 0 i j _ _ o (began z w) (g 0 z (omega arith))))
      new_parameter_lem f c p held o g h rotate (rotating n w z) k l x y =
          same (λ n. cond (eqb i j) (f now i (incoming m (array_after S m K t) i j)) p ≡ f n c (blocks_at S m n c c)) k (suc n) (omega arith)
          (rw (step_at_lem (distance i j) t (suc n) w) (sent f c (suc n) i j _ _ o (reads n i j pi pj (omega arith) w) (g (suc n) z w)))
      new_parameter_lem f c p held o g h phase1 (setting_phase1 n w z) k l x y = h k l (omega arith) (omega arith)
      new_parameter_lem f c p held o g h phase2 (setting_phase2 n w z) k l x y = h k l (omega arith) (omega arith)
      new_parameter_lem f c p held o g h final (finishing n w z) k l x y = absurd (omega arith)
      new_parameter_lem f c p held o g h idle (finished w) k l x y = absurd (omega arith)
      new_parameter_lem f c p held o g h idle (stepless w z) k l x y = absurd (omega arith)

      -- ---- what a diagonal tile keeps
      abbrev keeping : Action → D
      keeping a = new_kept (S.keeps now i) i j a old.cells (incoming m (array_after S m K t) i j) old.kept

      kept_one : (k : ℕ) (b : Block X) (d : D) → i ≡ j → b ≡ blocks_at S m k i j → d ≡ kept_at S m k i
          → cond (eqb i j) (S.keeps k i b d) d ≡ kept_at S m (suc k) i
      unfolding kept_at
      kept_one k b d o e f = rw (e, f, ← o, eq-eqb i i refl)

      new_kept_lem : (a : Action) → View K (distance i j) t a → i ≡ j → (k : ℕ) → k ≤ K → 3 * k < suc t + 3
          → (k < K → suc t ≤ 3 * k) → keeping a ≡ kept_at S m k i
      unfolding new_parameter
      new_kept_lem idle (waiting w) o k l x y = absurd (omega arith)
      new_kept_lem first (starting w z) o k l x y =
          same (λ n. keeping first ≡ kept_at S m n i) k 1 (one_made k l x y)
          (rw (step_at_lem (distance i j) t 0 (omega arith))
          (kept_one 0 _ _ o (began z w) ((all i j pi pj).kept o 0 (omega arith) (omega arith) (λ _. omega arith))))
        where
          one_made : (k : ℕ) → k ≤ K → 3 * k < suc t + 3 → (k < K → suc t ≤ 3 * k) → k ≡ 1
          one_made zero l x y = absurd (let u = y z in omega arith)
          one_made (suc k) l x y = omega arith
      new_kept_lem rotate (rotating n w z) o k l x y =
          same (λ n. keeping rotate ≡ kept_at S m n i) k (suc (suc n)) (all_made (ltb k K) refl)
          (rw (step_at_lem (distance i j) t (suc n) w)
          (kept_one (suc n) _ _ o (reads n i j pi pj (omega arith) w) ((all i j pi pj).kept o (suc n) (omega arith) (omega arith) (λ _. omega arith))))
        where
          all_made : (b : Bool) → ltb k K ≡ b → k ≡ suc (suc n)
          all_made true e = let u = y (ltb-true _ _ e) in omega arith
          all_made false e = let u : K ≤ k = ltb-false _ _ e in omega arith
      new_kept_lem phase1 (setting_phase1 n w z) o k l x y = (all i j pi pj).kept o k l (omega arith) (λ u. let v = y u in omega arith)
      new_kept_lem phase2 (setting_phase2 n w z) o k l x y = (all i j pi pj).kept o k l (omega arith) (λ u. let v = y u in omega arith)
      new_kept_lem final (finishing n w z) o k l x y = (all i j pi pj).kept o k l (omega arith) (λ u. let v = y u in omega arith)
      new_kept_lem idle (finished w) o k l x y = (all i j pi pj).kept o k l (omega arith) (λ u. let v = y u in omega arith)
      new_kept_lem idle (stepless w z) o k l x y = (all i j pi pj).kept o k l (omega arith) (λ u. let v = y u in omega arith)

      -- a wire is written anew, or holds what it held
      new_wire : (a : Action) → View K (distance i j) t a → (r s : Side) (k : ℕ) → k < K → distance i j + phase_of m r s i j + 3 * k < suc t
          → suc t ≤ distance i j + phase_of m r s i j + 3 * suc k
          → cell r s (new_wires m i j a (fresh a) old.wires) ≡ cell (carried i r) (carried j s) (rotated_at S m k i j)
      unfolding new_wires
      new_wire a w r s k l x y = cell_tab _ r s ∙ go (eqb (phase_in a) (phase_of m r s i j)) refl
        where
          go : (b : Bool) → eqb (phase_in a) (phase_of m r s i j) ≡ b
              → cond b (cell (carried i r) (carried j s) (fresh a)) (cell r s old.wires) ≡ cell (carried i r) (carried j s) (rotated_at S m k i j)
          go true e =
              let f : phase_of m r s i j < 3 = phase_lt m r s i j in
              let z : (n : ℕ) × (n < K) × (t ≡ distance i j + phase_of m r s i j + 3 * n) =
              writes_at K (distance i j) t (phase_of m r s i j) a w f (eqb-true _ _ e) in
              ap (cell (carried i r) (carried j s)) (new_during a w k l (omega arith) (omega arith))
          go false e =
              let f : phase_of m r s i j < 3 = phase_lt m r s i j in
              let n : ¬ (t ≡ distance i j + phase_of m r s i j + 3 * k) =
              λ u. eqb-false _ _ e (at_writes K (distance i j) t (phase_of m r s i j) k a w f l u) in
              (all i j pi pj).wire r s k l (omega arith) (omega arith)

      next_known : Known (suc t) i j (array_after S m K (suc t) i j)
      unfolding array_after tick tick_tile new_tile row_parameter column_parameter
      next_known =
          let w : View K (distance i j) t (action_at K (distance i j) t) = view K (distance i j) t in
          record {
            before = new_before (action_at K (distance i j) t) w;
            during = new_during (action_at K (distance i j) t) w;
            after = new_after (action_at K (distance i j) t) w;
            wire = new_wire (action_at K (distance i j) t) w;
            row = new_parameter_lem S.sends_row i _ _ (λ e. (refl, sym e)) (λ k l. row_in k i j pi pj l) (all i j pi pj).row (action_at K (distance i j) t) w;
            column =
                new_parameter_lem S.sends_column j _ _ (λ e. (e, refl)) (λ k l. column_in k i j pi pj l) (all i j pi pj).column
                (action_at K (distance i j) t) w;
            kept = new_kept_lem (action_at K (distance i j) t) w;
          }

  pub all_known : (t : ℕ) → AllKnown t
  unfolding array_after
  all_known zero i j p q =
      record {
        before = λ _. refl;
        during = λ k l x y. absurd (omega arith);
        after = λ x. absurd (omega arith);
        wire = λ r s k l x y. absurd (omega arith);
        row = λ k l x y. absurd (omega arith);
        column = λ k l x y. absurd (omega arith);
        kept = λ o k l x y. same (λ n. S.kept_start ≡ kept_at S m n i) k 0 (omega arith) (unfold kept_at in refl);
      }
  all_known (suc t) i j p q = next_known t (all_known t) i j p q
