-- How often wires are set and parameters received over the ticks of a run, whatever the cells hold. Assumes nothing.
use Prim.Native.Nat.{ℕ, zero, suc, ◌+◌, ◌-◌, ◌*◌, ◌/◌, ◌≤◌, ◌<◌, min}
use mathlib.Core.Path.{◌≡◌, refl, sym, ◌∙◌, ap}
use mathlib.Core.Bool.{Bool, true, false, not, cond, ◌&&◌, true≢false}
use native.Mathlib.Omega.{arith}
use borrow.Author.Tests.{ltb-true, ltb-false, eqb-true, eqb-false, eq-eqb}
use lib.Dec.{ltb, eqb}
use Rattle.lists.specs.Bounded.{count}
use Rattle.lists.proofs.Bounded.{count_none}
use Rattle.lists.proofs.Sums.{total_same, total_but_one}
use Rattle.systolic.specs.Slots.{Side, left, right}
use Rattle.systolic.specs.Tiles.{distance, action_at, phase_of}
use Rattle.systolic.specs.Traffic.{sets_wire, rotates, receives, times_set, times_set_by_tile, wires_set, tiles_receive}
use Rattle.systolic.proofs.Clock.{view, writes_at, at_writes, rotates_at, at_rotation}
use Rattle.systolic.proofs.Wires.{phase_lt}

-- A test that holds at c, c + 3, ... c + 3 (K - 1) and nowhere else holds K times below any n beyond the last of them.
module _ (f : ℕ → Bool) (c K : ℕ) (from : (k : ℕ) → k < K → f (c + 3 * k) ≡ true)
    (to : (t : ℕ) → f t ≡ true → (k : ℕ) × (k < K) × (t ≡ c + 3 * k)) where
  so_far : (n : ℕ) → count f n ≡ min K ((n - c + 2) / 3)
  unfolding count
  so_far zero = omega arith
  so_far (suc n) = go (f n) refl (so_far n)
    where
      go : (b : Bool) → f n ≡ b → count f n ≡ min K ((n - c + 2) / 3) → cond b 1 0 + count f n ≡ min K ((suc n - c + 2) / 3)
      go true e h = let w = to n e in let l : w.0 < K = w.1 in let z : n ≡ c + 3 * w.0 = w.2 in omega arith
      go false e h = out (ltb ((n - c) / 3) K) (eqb n (c + 3 * ((n - c) / 3))) refl refl
        where
          out : (p q : Bool) → ltb ((n - c) / 3) K ≡ p → eqb n (c + 3 * ((n - c) / 3)) ≡ q → 0 + count f n ≡ min K ((suc n - c + 2) / 3)
          out true true x y =
              absurd (true≢false (sym (from ((n - c) / 3) (ltb-true _ _ x)) ∙ ap f (sym (eqb-true _ _ y)) ∙ e))
          out true false x y = let w : ¬ (n ≡ c + 3 * ((n - c) / 3)) = eqb-false _ _ y in omega arith
          out false q x y = let w : K ≤ (n - c) / 3 = ltb-false _ _ x in omega arith

  every_third : (n : ℕ) → c + 3 * K ≤ n + 2 → count f n ≡ K
  every_third n h = so_far n ∙ omega arith

-- ---- one tile, over the 3 K + N ticks of a run
module _ (m K i j : ℕ) (p : i ≤ m) (q : j ≤ m) where
  -- each wire is set once in a step
  pub wire_times : (r s : Side) → times_set m K (3 * K + suc m) r s i j ≡ K
  unfolding sets_wire
  wire_times r s =
      let φ = phase_of m r s i j in
      let few : φ < 3 = phase_lt m r s i j in
      every_third (λ t. sets_wire m K t r s i j) (distance i j + φ) K
      (λ k l. eq-eqb _ _ (at_writes K (distance i j) _ φ k _ (view K (distance i j) _) few l refl))
      (λ t e. writes_at K (distance i j) t φ _ (view K (distance i j) t) few (eqb-true _ _ e))
      (3 * K + suc m) (omega arith)

  pub tile_times : times_set_by_tile m K (3 * K + suc m) i j ≡ 4 * K
  tile_times =
      let α = wire_times left left in
      let β = wire_times left right in
      let γ = wire_times right left in
      let δ = wire_times right right in
      omega arith

  -- a tile off the diagonal receives once in a step, one on it never
  pub receive_times : count (λ t. receives K t i j) (3 * K + suc m) ≡ cond (eqb i j) 0 K
  unfolding receives
  receive_times = go (eqb i j) refl
    where
      go : (b : Bool) → eqb i j ≡ b → count (λ t. not b && rotates (action_at K (distance i j) t)) (3 * K + suc m) ≡ cond b 0 K
      go true e = count_none _ _ (λ t l. refl)
      go false e =
          every_third (λ t. rotates (action_at K (distance i j) t)) (distance i j) K
          (λ k l. rotates_at K (distance i j) _ k l refl) (at_rotation K (distance i j)) (3 * K + suc m) (omega arith)

-- ---- all tiles
module _ (m K : ℕ) where
  pub wires_set_lem : wires_set m K (3 * K + suc m) ≡ suc m * (suc m * (4 * K))
  unfolding wires_set
  wires_set_lem =
      total_same _ _ (suc m) (λ i p. total_same _ _ (suc m) (λ j q. tile_times m K i j (omega arith) (omega arith)))

  pub tiles_receive_lem : tiles_receive m K (3 * K + suc m) ≡ suc m * (m * K)
  unfolding tiles_receive
  tiles_receive_lem =
      total_same _ _ (suc m) (λ i p. total_but_one _ K i m p (λ j q. receive_times m K i j (omega arith) (omega arith)))
