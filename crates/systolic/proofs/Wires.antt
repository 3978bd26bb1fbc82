-- Where the wires lead, and when. Assumes nothing.
use Prim.Native.Nat.{ℕ, zero, suc, ◌+◌, ◌-◌, ◌≤◌, ◌<◌}
use mathlib.Core.Path.{◌≡◌, refl}
use mathlib.Core.Bool.{Bool, true, false, cond}
use native.Mathlib.Omega.{arith}
use borrow.Author.Tests.{ltb-true, ltb-false, eqb-true, eqb-false}
use lib.Dec.{ltb, eqb}
use Rattle.systolic.specs.Slots.{Side, left, right, flip, Slot, slot, into_last, came_from}
use Rattle.systolic.specs.Tiles.{distance, carried, joined, phase_of}
use Rattle.systolic.specs.Arrays.{nearer}

-- what comes in at a slot is what the movement brings there
pub link : (m : ℕ) (h : Side) (i : ℕ) → came_from m h i ≡ slot (joined m h i).processor (carried (joined m h i).processor (joined m h i).side)
unfolding came_from joined carried slot flip into_last
link m left zero = refl
link m left (suc zero) = refl
link m left (suc (suc i)) = refl
link m right i = go (eqb i m) m
  where
    go : (b : Bool) (n : ℕ) → cond b (into_last n) (slot (suc i) right)
        ≡ slot (cond b (slot n right) (slot (suc i) left)).processor
        (carried (cond b (slot n right) (slot (suc i) left)).processor (cond b (slot n right) (slot (suc i) left)).side)
    go true zero = refl
    go true (suc n) = refl
    go false n = refl

pub joined_le : (m : ℕ) (h : Side) (i : ℕ) → i ≤ m → (joined m h i).processor ≤ m
unfolding joined slot
joined_le m left zero l = omega arith
joined_le m left (suc i) l = omega arith
joined_le m right i l = go (eqb i m) refl
  where
    go : (b : Bool) → eqb i m ≡ b → (cond b (slot m right) (slot (suc i) left)).processor ≤ m
    go true e = omega arith
    go false e = let n : ¬ (i ≡ m) = eqb-false _ _ e in omega arith

-- a wire of a tile at distance D, written at phase φ, is read by a tile at distance D'
abbrev pub InTime : ℕ → ℕ → ℕ → Type 0
InTime D φ D' = (D' ≤ D + φ) × (D + φ ≤ D' + 2)

by_lt : (x y D D' : ℕ) → (x < y → InTime D 0 D') → (y ≤ x → InTime D 2 D') → InTime D (cond (ltb x y) 0 2) D'
by_lt x y D D' f g = go (ltb x y) refl
  where
    go : (b : Bool) → ltb x y ≡ b → InTime D (cond b 0 2) D'
    go true e = f (ltb-true _ _ e)
    go false e = g (ltb-false _ _ e)

by_ends : (i j m D D' : ℕ) → (i ≡ m → InTime D 1 D') → (j ≡ m → InTime D 1 D') → (¬ (i ≡ m) → ¬ (j ≡ m) → InTime D 2 D')
    → InTime D (cond (eqb i m) 1 (cond (eqb j m) 1 2)) D'
by_ends i j m D D' f g k = go (eqb i m) (eqb j m) refl refl
  where
    go : (b c : Bool) → eqb i m ≡ b → eqb j m ≡ c → InTime D (cond b 1 (cond c 1 2)) D'
    go true c e e' = f (eqb-true _ _ e)
    go false true e e' = g (eqb-true _ _ e')
    go false false e e' = k (eqb-false _ _ e) (eqb-false _ _ e')

abbrev OK : ℕ → ℕ → ℕ → Slot → Slot → Type 0
OK m i j ρ κ = InTime (distance ρ.processor κ.processor) (phase_of m ρ.side κ.side ρ.processor κ.processor) (distance i j)

left_right : (m i j : ℕ) → i ≤ m → j ≤ m → (b : Bool) → eqb j m ≡ b → OK m i j (joined m left i) (cond b (slot m right) (slot (suc j) left))
unfolding joined phase_of slot
left_right m zero j p q true e = let w : j ≡ m = eqb-true _ _ e in by_lt m 0 _ _ (omega arith) (omega arith)
left_right m zero j p q false e = omega arith
left_right m (suc i) j p q true e = let w : j ≡ m = eqb-true _ _ e in by_ends i m m _ _ (omega arith) (omega arith) (omega arith)
left_right m (suc i) j p q false e = let w : ¬ (j ≡ m) = eqb-false _ _ e in by_lt i (suc j) _ _ (omega arith) (omega arith)

right_left : (m i j : ℕ) → i ≤ m → j ≤ m → (b : Bool) → eqb i m ≡ b → OK m i j (cond b (slot m right) (slot (suc i) left)) (joined m left j)
unfolding joined phase_of slot
right_left m i zero p q true e = let w : i ≡ m = eqb-true _ _ e in by_lt m 0 _ _ (omega arith) (omega arith)
right_left m i zero p q false e = omega arith
right_left m i (suc j) p q true e = let w : i ≡ m = eqb-true _ _ e in by_ends m j m _ _ (omega arith) (omega arith) (omega arith)
right_left m i (suc j) p q false e = let w : ¬ (i ≡ m) = eqb-false _ _ e in by_lt j (suc i) _ _ (omega arith) (omega arith)

right_right : (m i j : ℕ) → i ≤ m → j ≤ m → (b c : Bool) → eqb i m ≡ b → eqb j m ≡ c
    → OK m i j (cond b (slot m right) (slot (suc i) left)) (cond c (slot m right) (slot (suc j) left))
unfolding joined phase_of slot
right_right m i j p q true true e e' =
    let w : i ≡ m = eqb-true _ _ e in let w' : j ≡ m = eqb-true _ _ e' in by_ends m m m _ _ (omega arith) (omega arith) (omega arith)
right_right m i j p q true false e e' =
    let w : i ≡ m = eqb-true _ _ e in let w' : ¬ (j ≡ m) = eqb-false _ _ e' in by_lt m (suc j) _ _ (omega arith) (omega arith)
right_right m i j p q false true e e' =
    let w : ¬ (i ≡ m) = eqb-false _ _ e in let w' : j ≡ m = eqb-true _ _ e' in by_lt m (suc i) _ _ (omega arith) (omega arith)
right_right m i j p q false false e e' = omega arith

pub in_time : (m : ℕ) (h g : Side) (i j : ℕ) → i ≤ m → j ≤ m
    → InTime (distance (joined m h i).processor (joined m g j).processor)
    (phase_of m (joined m h i).side (joined m g j).side (joined m h i).processor (joined m g j).processor) (distance i j)
unfolding joined phase_of slot
in_time m left left zero zero p q = omega arith
in_time m left left zero (suc j) p q = by_lt j 0 _ _ (omega arith) (omega arith)
in_time m left left (suc i) zero p q = by_lt i 0 _ _ (omega arith) (omega arith)
in_time m left left (suc i) (suc j) p q = by_ends i j m _ _ (omega arith) (omega arith) (omega arith)
in_time m left right i j p q = left_right m i j p q (eqb j m) refl
in_time m right left i j p q = right_left m i j p q (eqb i m) refl
in_time m right right i j p q = right_right m i j p q (eqb i m) (eqb j m) refl refl

-- a phase is 0, 1 or 2
pub phase_lt : (m : ℕ) (r s : Side) (i j : ℕ) → phase_of m r s i j < 3
unfolding phase_of
phase_lt m left left zero j = omega arith
phase_lt m left left (suc i) zero = omega arith
phase_lt m left left (suc i) (suc j) = omega arith
phase_lt m left right i j = go (ltb j i)
  where
    go : (b : Bool) → cond b 0 2 < 3
    go true = omega arith
    go false = omega arith
phase_lt m right left i j = go (ltb i j)
  where
    go : (b : Bool) → cond b 0 2 < 3
    go true = omega arith
    go false = omega arith
phase_lt m right right i j = go (eqb i m) (eqb j m)
  where
    go : (b c : Bool) → cond b 1 (cond c 1 2) < 3
    go true c = omega arith
    go false true = omega arith
    go false false = omega arith

-- the neighbour nearer to the diagonal
pub nearer_ok : (m i j : ℕ) → i ≤ m → j ≤ m → ¬ (i ≡ j) → (nearer i j ≤ m) × (suc (distance i (nearer i j)) ≡ distance i j)
unfolding nearer
nearer_ok m i j p q n = go (ltb i j) refl
  where
    go : (b : Bool) → ltb i j ≡ b → (cond b (j - 1) (suc j) ≤ m) × (suc (distance i (cond b (j - 1) (suc j))) ≡ distance i j)
    go true e = let w : i < j = ltb-true _ _ e in omega arith
    go false e = let w : j ≤ i = ltb-false _ _ e in omega arith
