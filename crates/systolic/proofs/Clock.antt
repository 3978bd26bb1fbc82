-- What a tile does at a tick, as facts on the tick. Assumes nothing.
use Prim.Native.Nat.{ℕ, zero, suc, ◌+◌, ◌-◌, ◌*◌, ◌/◌, ◌%◌, ◌≤◌, ◌<◌}
use mathlib.Core.Path.{◌≡◌, refl, sym}
use mathlib.Core.Bool.{Bool, true, false, not, cond, ◌&&◌, true≢false}
use native.Mathlib.Omega.{arith}
use borrow.Author.Tests.{ltb-true, ltb-false, eqb-true, eqb-false, eq-eqb, ne_eqb}
use lib.Dec.{ltb, eqb}
use Rattle.systolic.specs.Tiles.{distance, Action, idle, first, rotate, phase1, phase2, final, action, action_at, step_at, phase_in}
use Rattle.systolic.specs.Traffic.{rotates, receives, changes_cells}

pub data View (K δ t : ℕ) : Action → Type 0 where
  waiting : t < δ → View K δ t idle
  starting : t ≡ δ → 0 < K → View K δ t first
  rotating : (k : ℕ) → t ≡ δ + 3 * suc k → suc k < K → View K δ t rotate
  setting_phase1 : (k : ℕ) → t ≡ δ + 3 * k + 1 → k < K → View K δ t phase1
  setting_phase2 : (k : ℕ) → t ≡ δ + 3 * k + 2 → k < K → View K δ t phase2
  finishing : (k : ℕ) → t ≡ δ + 3 * suc k → K ≡ suc k → View K δ t final
  finished : δ + 3 * K < t → View K δ t idle
  stepless : K ≡ 0 → t ≡ δ → View K δ t idle

module _ (K δ t : ℕ) (h : δ ≤ t) where
  later_rotation : (q : ℕ) → (t - δ) / 3 ≡ q → (t - δ) % 3 ≡ 0 → q < K → (b : Bool) → eqb q 0 ≡ b → View K δ t (cond b first rotate)
  later_rotation q e r l true z = starting (omega (arith, eqb-true q 0 z)) (omega arith)
  later_rotation zero e r l false z = absurd (eqb-false 0 0 z refl)
  later_rotation (suc q) e r l false z = rotating q (omega arith) l

  run_at : (t - δ) / 3 < K → (b c : Bool) → eqb ((t - δ) % 3) 0 ≡ b → eqb ((t - δ) % 3) 1 ≡ c
      → View K δ t (cond b (cond (eqb ((t - δ) / 3) 0) first rotate) (cond c phase1 phase2))
  run_at l true c e f = later_rotation ((t - δ) / 3) refl (eqb-true _ _ e) l (eqb ((t - δ) / 3) 0) refl
  run_at l false true e f =
      let r : (t - δ) % 3 ≡ 1 = eqb-true _ _ f in setting_phase1 ((t - δ) / 3) (omega arith) l
  run_at l false false e f =
      let n : ¬ ((t - δ) % 3 ≡ 0) = eqb-false _ _ e in
      let n' : ¬ ((t - δ) % 3 ≡ 1) = eqb-false _ _ f in
      setting_phase2 ((t - δ) / 3) (omega arith) l

  last_at : (k : ℕ) → k ≡ K → t - δ ≡ 3 * K → (b : Bool) → eqb k 0 ≡ b → View K δ t (cond b idle final)
  last_at k e r true z = stepless (omega (arith, eqb-true k 0 z)) (omega (arith, eqb-true k 0 z))
  last_at zero e r false z = absurd (eqb-false 0 0 z refl)
  last_at (suc k) e r false z = finishing k (omega arith) (omega arith)

  rest_at : K ≤ (t - δ) / 3 → (b : Bool) → eqb (t - δ) (3 * K) ≡ b
      → View K δ t (cond b (cond (eqb K 0) idle final) idle)
  rest_at l true e = last_at K refl (eqb-true _ _ e) (eqb K 0) refl
  rest_at l false e = let n : ¬ (t - δ ≡ 3 * K) = eqb-false _ _ e in finished (omega arith)

  act_at : (b : Bool) → ltb ((t - δ) / 3) K ≡ b
      → View K δ t
      (cond b
      (cond (eqb ((t - δ) % 3) 0) (cond (eqb ((t - δ) / 3) 0) first rotate) (cond (eqb ((t - δ) % 3) 1) phase1 phase2))
      (cond (eqb (t - δ) (3 * K)) (cond (eqb K 0) idle final) idle))
  act_at true e = run_at (ltb-true _ _ e) (eqb ((t - δ) % 3) 0) (eqb ((t - δ) % 3) 1) refl refl
  act_at false e = rest_at (ltb-false _ _ e) (eqb (t - δ) (3 * K)) refl

view_go : (K δ t : ℕ) (b : Bool) → ltb t δ ≡ b → View K δ t (cond b idle (action K (t - δ)))
unfolding action
view_go K δ t true e = waiting (ltb-true _ _ e)
view_go K δ t false e = act_at K δ t (ltb-false _ _ e) (ltb ((t - δ) / 3) K) refl

pub view : (K δ t : ℕ) → View K δ t (action_at K δ t)
unfolding action_at
view K δ t = view_go K δ t (ltb t δ) refl

-- a tile at distance δ sets its wires of phase φ exactly at the ticks δ + φ + 3 k, k < K
pub writes_at : (K δ t φ : ℕ) (a : Action) → View K δ t a → φ < 3 → phase_in a ≡ φ → (n : ℕ) × (n < K) × (t ≡ δ + φ + 3 * n)
unfolding phase_in
writes_at K δ t φ idle (waiting w) l e = absurd (omega arith)
writes_at K δ t φ first (starting w z) l e = (0, z, omega arith)
writes_at K δ t φ rotate (rotating k w z) l e = (suc k, z, omega arith)
writes_at K δ t φ phase1 (setting_phase1 k w z) l e = (k, z, omega arith)
writes_at K δ t φ phase2 (setting_phase2 k w z) l e = (k, z, omega arith)
writes_at K δ t φ final (finishing k w z) l e = absurd (omega arith)
writes_at K δ t φ idle (finished w) l e = absurd (omega arith)
writes_at K δ t φ idle (stepless w z) l e = absurd (omega arith)

pub at_writes : (K δ t φ k : ℕ) (a : Action) → View K δ t a → φ < 3 → k < K → t ≡ δ + φ + 3 * k → phase_in a ≡ φ
unfolding phase_in
at_writes K δ t φ k idle (waiting w) l h e = absurd (omega arith)
at_writes K δ t φ k first (starting w z) l h e = omega arith
at_writes K δ t φ k rotate (rotating n w z) l h e = omega arith
at_writes K δ t φ k phase1 (setting_phase1 n w z) l h e = omega arith
at_writes K δ t φ k phase2 (setting_phase2 n w z) l h e = omega arith
at_writes K δ t φ k final (finishing n w z) l h e = absurd (omega arith)
at_writes K δ t φ k idle (finished w) l h e = absurd (omega arith)
at_writes K δ t φ k idle (stepless w z) l h e = absurd (omega arith)

-- ---- what a tile at distance δ does, by the tick
pub step_at_lem : (δ t k : ℕ) → t ≡ δ + 3 * k → step_at δ t ≡ k
unfolding step_at
step_at_lem δ t k e = omega arith

module _ (K δ t : ℕ) where
  pub rotation_at : (k : ℕ) → k < K → t ≡ δ + 3 * k → action_at K δ t ≡ cond (eqb k 0) first rotate
  rotation_at k h e = go (action_at K δ t) (view K δ t)
    where
      go : (a : Action) → View K δ t a → a ≡ cond (eqb k 0) first rotate
      go idle (waiting w) = absurd (omega arith)
      go first (starting w z) = rw (eq-eqb k 0 (omega arith))
      go rotate (rotating n w z) = rw (ne_eqb k 0 (λ y. omega arith))
      go phase1 (setting_phase1 n w z) = absurd (omega arith)
      go phase2 (setting_phase2 n w z) = absurd (omega arith)
      go final (finishing n w z) = absurd (omega arith)
      go idle (finished w) = absurd (omega arith)
      go idle (stepless w z) = absurd (omega arith)

  pub reads_last : 0 < K → t ≡ δ + 3 * K → action_at K δ t ≡ final
  reads_last h e = go (action_at K δ t) (view K δ t)
    where
      go : (a : Action) → View K δ t a → a ≡ final
      go idle (waiting w) = absurd (omega arith)
      go first (starting w z) = absurd (omega arith)
      go rotate (rotating n w z) = absurd (omega arith)
      go phase1 (setting_phase1 n w z) = absurd (omega arith)
      go phase2 (setting_phase2 n w z) = absurd (omega arith)
      go final v = refl
      go idle (finished w) = absurd (omega arith)
      go idle (stepless w z) = absurd (omega arith)

  pub rotates_at : (k : ℕ) → k < K → t ≡ δ + 3 * k → rotates (action_at K δ t) ≡ true
  rotates_at k h e = rw (rotation_at k h e) (either (eqb k 0))
    where
      either : (b : Bool) → rotates (cond b first rotate) ≡ true
      either true = refl
      either false = refl

  -- and back
  pub at_rotation : rotates (action_at K δ t) ≡ true → (k : ℕ) × (k < K) × (t ≡ δ + 3 * k)
  at_rotation = go (action_at K δ t) (view K δ t)
    where
      go : (a : Action) → View K δ t a → rotates a ≡ true → (k : ℕ) × (k < K) × (t ≡ δ + 3 * k)
      go idle v e = absurd (true≢false (sym e))
      go first (starting w z) e = (0, z, omega arith)
      go rotate (rotating n w z) e = (suc n, z, w)
      go phase1 v e = absurd (true≢false (sym e))
      go phase2 v e = absurd (true≢false (sym e))
      go final v e = absurd (true≢false (sym e))

  pub no_rotation : ((k : ℕ) → k < K → ¬ (t ≡ δ + 3 * k)) → rotates (action_at K δ t) ≡ false
  no_rotation f = go (rotates (action_at K δ t)) refl
    where
      go : (b : Bool) → rotates (action_at K δ t) ≡ b → b ≡ false
      go true e = let w = at_rotation e in absurd (f w.0 w.1 w.2)
      go false e = refl

  pub no_change : ((k : ℕ) → 0 < K → k ≤ K → ¬ (t ≡ δ + 3 * k)) → changes_cells (action_at K δ t) ≡ false
  no_change f = go (action_at K δ t) (view K δ t)
    where
      go : (a : Action) → View K δ t a → changes_cells a ≡ false
      go idle v = refl
      go first (starting w z) = absurd (f 0 z (omega arith) (omega arith))
      go rotate (rotating n w z) = absurd (f (suc n) (omega arith) (omega arith) w)
      go phase1 v = refl
      go phase2 v = refl
      go final (finishing n w z) = absurd (f (suc n) (omega arith) (omega arith) w)

  pub sets_none : (δ ≤ t → δ + 3 * K ≤ t) → phase_in (action_at K δ t) ≡ 3
  unfolding phase_in
  sets_none f = go (action_at K δ t) (view K δ t)
    where
      go : (a : Action) → View K δ t a → phase_in a ≡ 3
      go idle v = refl
      go first (starting w z) = let l = f (omega arith) in absurd (omega arith)
      go rotate (rotating n w z) = let l = f (omega arith) in absurd (omega arith)
      go phase1 (setting_phase1 n w z) = let l = f (omega arith) in absurd (omega arith)
      go phase2 (setting_phase2 n w z) = let l = f (omega arith) in absurd (omega arith)
      go final v = refl

-- what is known where tile (i, j) receives parameters
pub record Receiving (K t i j : ℕ) : Type 0 where
  pub off_diagonal : ¬ (i ≡ j)
  pub step : ℕ
  pub few : step < K
  pub when : t ≡ distance i j + 3 * step

pub receiving : (K t i j : ℕ) → receives K t i j ≡ true → Receiving K t i j
unfolding receives
receiving K t i j = go (eqb i j) refl
  where
    go : (b : Bool) → eqb i j ≡ b → (not b && rotates (action_at K (distance i j) t)) ≡ true → Receiving K t i j
    go true z e = absurd (true≢false (sym e))
    go false z e =
        let w = at_rotation K (distance i j) t e in record { off_diagonal = eqb-false _ _ z; step = w.0; few = w.1; when = w.2 }
