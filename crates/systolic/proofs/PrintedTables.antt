-- The wiring and the schedule of the array are those that the papers print. Assumes nothing.
use Prim.Native.Nat.{ℕ, zero, suc, ◌-◌, ◌≤◌}
use mathlib.Core.Path.{◌≡◌, refl, sym, ◌∙◌, ap}
use mathlib.Core.Bool.{Bool, true, false, cond, ◌||◌, ◌&&◌, not}
use native.Mathlib.Omega.{arith}
use borrow.Author.Tests.{ltb-true, ltb-false, eqb-true, eqb-false, eq-eqb, ne_eqb, lt-ltb, le-ltb, le-leb, lt-leb}
use lib.Dec.{ltb, leb, eqb}
use Rattle.systolic.specs.Slots.{Side, left, right, flip, Slot, slot}
use Rattle.systolic.specs.Blocks.{Block, cell, tab}
use Rattle.systolic.specs.Tiles.{carried, joined, phase_of}
use Rattle.systolic.specs.Schedule.{interchange, Input, input, leads_to, set_in_phase0, set_in_phase1, set_in_phase2}

-- ---- which value a wire gets: Algorithm Interchange
pub values_printed : {X : Type 0} (i j : ℕ) (x : Block X) → tab (λ r s. cell (carried i r) (carried j s) x) ≡ interchange i j x
unfolding tab cell carried flip interchange
values_printed zero zero x = refl
values_printed zero (suc j) x = rw (ne_eqb (suc j) 0 (λ e. omega arith))
values_printed (suc i) zero x = rw (ne_eqb (suc i) 0 (λ e. omega arith))
values_printed (suc i) (suc j) x = rw (ne_eqb (suc i) 0 (λ e. omega arith), ne_eqb (suc j) 0 (λ e. omega arith))

-- ---- where a wire leads
-- what is joined with what a side is joined with is that side
pub joined_twice : (m : ℕ) (r : Side) (i : ℕ) → i ≤ m → joined m (joined m r i).side (joined m r i).processor ≡ slot i r
unfolding joined slot
joined_twice m left zero l = refl
joined_twice m left (suc i) l = rw (ne_eqb i m (λ e. omega arith))
joined_twice m right i l = go (eqb i m) refl
  where
    go : (b : Bool) → eqb i m ≡ b
        → joined m (cond b (slot m right) (slot (suc i) left)).side (cond b (slot m right) (slot (suc i) left)).processor ≡ slot i right
    go true e = let w : i ≡ m = eqb-true _ _ e in rw (eq-eqb m m refl) (ap (λ x. slot x right) (sym w))
    go false e = refl

joined_left : (m i : ℕ) → joined m left i ≡ cond (eqb i 0) (slot i left) (slot (i - 1) right)
unfolding joined
joined_left m zero = refl
joined_left m (suc i) = let e : i ≡ suc i - 1 = omega arith in rw (ne_eqb (suc i) 0 (λ e. omega arith)) (ap (λ x. slot x right) e)

joined_right : (m i : ℕ) → joined m right i ≡ cond (eqb i m) (slot i right) (slot (suc i) left)
unfolding joined
joined_right m i = go (eqb i m) refl
  where
    go : (b : Bool) → eqb i m ≡ b → cond b (slot m right) (slot (suc i) left) ≡ cond b (slot i right) (slot (suc i) left)
    go true e = ap (λ x. slot x right) (sym (eqb-true _ _ e))
    go false e = refl

abbrev at : Slot → Slot → Input
at u v = input u.processor v.processor u.side v.side

four : (a b : Bool) (x y z w : Slot) → at (cond a x y) (cond b z w) ≡ cond a (cond b (at x z) (at x w)) (cond b (at y z) (at y w))
four true true x y z w = refl
four true false x y z w = refl
four false true x y z w = refl
four false false x y z w = refl

pub leads_printed : (m : ℕ) (r s : Side) (i j : ℕ) → at (joined m r i) (joined m s j) ≡ leads_to m r s i j
unfolding leads_to slot
leads_printed m left left i j = rw (joined_left m i, joined_left m j) (four (eqb i 0) (eqb j 0) _ _ _ _)
leads_printed m left right i j = rw (joined_left m i, joined_right m j) (four (eqb i 0) (eqb j m) _ _ _ _)
leads_printed m right left i j = rw (joined_right m i, joined_left m j) (four (eqb i m) (eqb j 0) _ _ _ _)
leads_printed m right right i j = rw (joined_right m i, joined_right m j) (four (eqb i m) (eqb j m) _ _ _ _)

-- ---- when a wire is set: Program 3
-- a wire is set in phase 2, or where b holds in an earlier one
in_0 : (b : Bool) → (eqb 0 (cond b 0 2) ≡ b) × (eqb 1 (cond b 0 2) ≡ false) × (eqb 2 (cond b 0 2) ≡ not b)
in_0 true = (refl, refl, refl)
in_0 false = (refl, refl, refl)

in_1 : (b : Bool) → (eqb 0 (cond b 1 2) ≡ false) × (eqb 1 (cond b 1 2) ≡ b) × (eqb 2 (cond b 1 2) ≡ not b)
in_1 true = (refl, refl, refl)
in_1 false = (refl, refl, refl)

phase_α : (m i j : ℕ) → phase_of m left left i j ≡ cond (eqb i 0 || eqb j 0) 1 2
unfolding phase_of
phase_α m zero j = refl
phase_α m (suc i) zero = rw (ne_eqb (suc i) 0 (λ e. omega arith))
phase_α m (suc i) (suc j) = rw (ne_eqb (suc i) 0 (λ e. omega arith), ne_eqb (suc j) 0 (λ e. omega arith))

phase_δ : (m i j : ℕ) → phase_of m right right i j ≡ cond (eqb i m || eqb j m) 1 2
unfolding phase_of
phase_δ m i j = go (eqb i m) (eqb j m)
  where
    go : (a b : Bool) → ◌≡◌ {A = ℕ} (cond a 1 (cond b 1 2)) (cond (a || b) 1 2)
    go true b = refl
    go false b = refl

pub phase_0_printed : (m : ℕ) (r s : Side) (i j : ℕ) → eqb 0 (phase_of m r s i j) ≡ set_in_phase0 m r s i j
unfolding phase_of set_in_phase0
phase_0_printed m left left i j = ap (eqb 0) (phase_α m i j) ∙ (in_1 (eqb i 0 || eqb j 0)).0
phase_0_printed m left right i j = (in_0 (ltb j i)).0
phase_0_printed m right left i j = (in_0 (ltb i j)).0
phase_0_printed m right right i j = ap (eqb 0) (phase_δ m i j) ∙ (in_1 (eqb i m || eqb j m)).0

pub phase_1_printed : (m : ℕ) (r s : Side) (i j : ℕ) → eqb 1 (phase_of m r s i j) ≡ set_in_phase1 m r s i j
unfolding phase_of set_in_phase1
phase_1_printed m left left i j = ap (eqb 1) (phase_α m i j) ∙ (in_1 (eqb i 0 || eqb j 0)).1
phase_1_printed m left right i j = (in_0 (ltb j i)).1
phase_1_printed m right left i j = (in_0 (ltb i j)).1
phase_1_printed m right right i j = ap (eqb 1) (phase_δ m i j) ∙ (in_1 (eqb i m || eqb j m)).1

not_below : (i j : ℕ) → not (ltb j i) ≡ leb i j
not_below i j = go (ltb j i) refl
  where
    go : (b : Bool) → ltb j i ≡ b → not b ≡ leb i j
    go true e = sym (lt-leb i j (ltb-true _ _ e))
    go false e = sym (le-leb i j (ltb-false _ _ e))

-- at neither end
inside : (i j a b : ℕ) (p q : Bool) → not (eqb i a) ≡ p → not (eqb j b) ≡ q → not (eqb i a || eqb j b) ≡ (p && q)
inside i j a b p q e f = neither (eqb i a) (eqb j b) ∙ rw (e, f)
  where
    neither : (x y : Bool) → not (x || y) ≡ (not x && not y)
    neither true y = refl
    neither false y = refl

not_first : (i : ℕ) → not (eqb i 0) ≡ ltb 0 i
not_first zero = refl
not_first (suc i) = rw (ne_eqb (suc i) 0 (λ e. omega arith), lt-ltb 0 (suc i) (omega arith))

not_last : (m i : ℕ) → i ≤ m → not (eqb i m) ≡ ltb i m
not_last m i l = go (eqb i m) refl
  where
    go : (b : Bool) → eqb i m ≡ b → not b ≡ ltb i m
    go true e = let w : i ≡ m = eqb-true _ _ e in sym (le-ltb i m (omega arith))
    go false e = let w : ¬ (i ≡ m) = eqb-false _ _ e in sym (lt-ltb i m (omega arith))

pub phase_2_printed : (m : ℕ) (r s : Side) (i j : ℕ) → i ≤ m → j ≤ m → eqb 2 (phase_of m r s i j) ≡ set_in_phase2 m r s i j
unfolding phase_of set_in_phase2
phase_2_printed m left left i j p q = ap (eqb 2) (phase_α m i j) ∙ (in_1 (eqb i 0 || eqb j 0)).2 ∙ inside i j 0 0 _ _ (not_first i) (not_first j)
phase_2_printed m left right i j p q = (in_0 (ltb j i)).2 ∙ not_below i j
phase_2_printed m right left i j p q = (in_0 (ltb i j)).2 ∙ not_below j i
phase_2_printed m right right i j p q = ap (eqb 2) (phase_δ m i j) ∙ (in_1 (eqb i m || eqb j m)).2 ∙ inside i j m m _ _ (not_last m i p) (not_last m j q)
