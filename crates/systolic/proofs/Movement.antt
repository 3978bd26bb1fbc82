-- The movement is a cycle of 2 m + 1 slots and a slot at rest, and two slots meet once in 2 m + 1 steps. Assumes nothing.
use Prim.Native.Nat.{ℕ, zero, suc, ◌+◌, ◌-◌, ◌*◌, ◌/◌, ◌%◌, ◌≤◌, ◌<◌}
use mathlib.Core.Path.{◌≡◌, refl, sym, ◌∙◌, ap}
use mathlib.Core.Bool.{Bool, true, false, cond}
use native.Mathlib.Omega.{arith}
use borrow.Author.Tests.{ltb-true, ltb-false, eqb-true, eqb-false, eq-eqb, ne_eqb}
use lib.Dec.{ltb, eqb}
use Rattle.systolic.specs.Slots.{Side, left, right, Slot, slot, moved, into_last, came_from, next, prior, next_by}

-- ---- `moved` and `came_from` undo each other
pub came_from_moved : (m : ℕ) (h : Side) (i : ℕ) → i ≤ m → came_from m (moved m h i).side (moved m h i).processor ≡ slot i h
unfolding came_from moved slot into_last
came_from_moved m left zero l = refl
came_from_moved m left (suc i) l = go (eqb (suc i) m) refl m refl
  where
    go : (b : Bool) → eqb (suc i) m ≡ b → (n : ℕ) → n ≡ m
        → came_from n (cond b (slot n right) (slot (suc (suc i)) left)).side (cond b (slot n right) (slot (suc (suc i)) left)).processor ≡ slot (suc i) left
    go true e zero z = let w : suc i ≡ m = eqb-true _ _ e in absurd (omega arith)
    go true e (suc n) z =
        let w : suc i ≡ m = eqb-true _ _ e in
        let w' : suc n ≡ suc i = omega arith in
        rw (eq-eqb (suc n) (suc n) refl) (ap (λ x. slot x left) w')
    go false e n z = refl
came_from_moved zero right zero l = refl
came_from_moved zero right (suc i) l = absurd (omega arith)
came_from_moved (suc m) right zero l = refl
came_from_moved (suc m) right (suc i) l = rw (ne_eqb i (suc m) (λ e. omega arith))

pub moved_came_from : (m : ℕ) (h : Side) (i : ℕ) → i ≤ m → moved m (came_from m h i).side (came_from m h i).processor ≡ slot i h
unfolding came_from moved slot into_last
moved_came_from m left zero l = refl
moved_came_from zero left (suc zero) l = absurd (omega arith)
moved_came_from (suc m) left (suc zero) l = refl
moved_came_from m left (suc (suc i)) l = rw (ne_eqb (suc i) m (λ e. omega arith))
moved_came_from m right i l = go (eqb i m) refl m refl
  where
    go : (b : Bool) → eqb i m ≡ b → (n : ℕ) → n ≡ m
        → moved n (cond b (into_last n) (slot (suc i) right)).side (cond b (into_last n) (slot (suc i) right)).processor ≡ slot i right
    go true e zero z = let w : i ≡ m = eqb-true _ _ e in ap (λ x. slot x right) (omega arith)
    go true e (suc n) z =
        let w : i ≡ m = eqb-true _ _ e in
        let w' : suc n ≡ i = omega arith in
        rw (eq-eqb (suc n) (suc n) refl) (ap (λ x. slot x right) w')
    go false e zero z = let w : ¬ (i ≡ m) = eqb-false _ _ e in absurd (omega arith)
    go false e (suc n) z = refl

moved_le : (m : ℕ) (h : Side) (i : ℕ) → i ≤ m → (moved m h i).processor ≤ m
unfolding moved slot
moved_le m left zero l = omega arith
moved_le m left (suc i) l = go (eqb (suc i) m) refl
  where
    go : (b : Bool) → eqb (suc i) m ≡ b → (cond b (slot m right) (slot (suc (suc i)) left)).processor ≤ m
    go true e = omega arith
    go false e = let w : ¬ (suc i ≡ m) = eqb-false _ _ e in omega arith
moved_le zero right i l = l
moved_le (suc m) right zero l = omega arith
moved_le (suc m) right (suc i) l = omega arith

came_from_le : (m : ℕ) (h : Side) (i : ℕ) → i ≤ m → (came_from m h i).processor ≤ m
unfolding came_from into_last slot
came_from_le m left zero l = omega arith
came_from_le m left (suc zero) l = omega arith
came_from_le m left (suc (suc i)) l = omega arith
came_from_le m right i l = go (eqb i m) refl m refl
  where
    go : (b : Bool) → eqb i m ≡ b → (n : ℕ) → n ≡ m → (cond b (into_last n) (slot (suc i) right)).processor ≤ m
    go true e zero z = omega arith
    go true e (suc n) z = omega arith
    go false e n z = let w : ¬ (i ≡ m) = eqb-false _ _ e in omega arith

pub prior_next : (m : ℕ) (u : Slot) → u.processor ≤ m → prior m (next m u) ≡ u
unfolding prior next slot
prior_next m u l = came_from_moved m u.side u.processor l

pub next_prior : (m : ℕ) (u : Slot) → u.processor ≤ m → next m (prior m u) ≡ u
unfolding prior next slot
next_prior m u l = moved_came_from m u.side u.processor l

pub next_le : (m : ℕ) (u : Slot) → u.processor ≤ m → (next m u).processor ≤ m
unfolding next
next_le m u l = moved_le m u.side u.processor l

pub prior_le : (m : ℕ) (u : Slot) → u.processor ≤ m → (prior m u).processor ≤ m
unfolding prior
prior_le m u l = came_from_le m u.side u.processor l

pub next_by_le : (m s : ℕ) (u : Slot) → u.processor ≤ m → (next_by m s u).processor ≤ m
unfolding next_by
next_by_le m zero u l = l
next_by_le m (suc s) u l = next_le m (next_by m s u) (next_by_le m s u l)

pub next_by_add : (m s t : ℕ) (u : Slot) → next_by m (t + s) u ≡ next_by m s (next_by m t u)
unfolding next_by
next_by_add m zero t u = let e : t + 0 ≡ t = omega arith in rw e
next_by_add m (suc s) t u = let e : t + suc s ≡ suc (t + s) = omega arith in rw e (ap (next m) (next_by_add m s t u))

-- ---- the number of a slot: the cycle is 0 to 2 m, and the slot at rest is 2 m + 1
num : ℕ → Side → ℕ → ℕ
num m left zero = 2 * m + 1
num m left (suc i) = i
num m right i = 2 * m - i

abbrev pos : ℕ → Slot → ℕ
pos m u = num m u.side u.processor

data Move (m x y : ℕ) : Type 0 where
  up : x < 2 * m → y ≡ suc x → Move m x y
  over : x ≡ 2 * m → y ≡ 0 → Move m x y
  rest : x ≡ 2 * m + 1 → y ≡ x → Move m x y

num_moved : (m : ℕ) (h : Side) (i : ℕ) → i ≤ m → Move m (num m h i) (num m (moved m h i).side (moved m h i).processor)
unfolding moved slot num
num_moved m left zero l = rest refl refl
num_moved m left (suc i) l = go (eqb (suc i) m) refl
  where
    go : (b : Bool) → eqb (suc i) m ≡ b
        → Move m i (num m (cond b (slot m right) (slot (suc (suc i)) left)).side (cond b (slot m right) (slot (suc (suc i)) left)).processor)
    go true e = let w : suc i ≡ m = eqb-true _ _ e in up (omega arith) (omega arith)
    go false e = up (omega arith) refl
num_moved zero right i l = over (omega arith) (omega arith)
num_moved (suc m) right zero l = over (omega arith) refl
num_moved (suc m) right (suc i) l = up (omega arith) (omega arith)

pos_le : (m : ℕ) (h : Side) (i : ℕ) → i ≤ m → num m h i ≤ 2 * m + 1
unfolding num
pos_le m left zero l = omega arith
pos_le m left (suc i) l = omega arith
pos_le m right i l = omega arith

num_one : (m : ℕ) (h g : Side) (i j : ℕ) → i ≤ m → j ≤ m → num m h i ≡ num m g j → slot i h ≡ slot j g
unfolding num
num_one m left left zero zero l k e = refl
num_one m left left zero (suc j) l k e = absurd (omega arith)
num_one m left left (suc i) zero l k e = absurd (omega arith)
num_one m left left (suc i) (suc j) l k e = ap (λ x. slot x left) (omega arith)
num_one m left right zero j l k e = absurd (omega arith)
num_one m left right (suc i) j l k e = absurd (omega arith)
num_one m right left i zero l k e = absurd (omega arith)
num_one m right left i (suc j) l k e = absurd (omega arith)
num_one m right right i j l k e = ap (λ x. slot x right) (omega arith)

pos_one : (m : ℕ) (u w : Slot) → u.processor ≤ m → w.processor ≤ m → pos m u ≡ pos m w → u ≡ w
unfolding slot
pos_one m u w l k e = num_one m u.side w.side u.processor w.processor l k e

-- where a number is after s ≤ 2 m + 1 movements
data At (m s x y : ℕ) : Type 0 where
  a_rest : x ≡ 2 * m + 1 → y ≡ x → At m s x y
  a_up : x + s ≤ 2 * m → y ≡ x + s → At m s x y
  a_over : x ≤ 2 * m → 2 * m < x + s → y + (2 * m + 1) ≡ x + s → At m s x y

at_start : (m x : ℕ) → x ≤ 2 * m + 1 → At m 0 x x
at_start m x l = go (ltb x (2 * m + 1)) refl
  where
    go : (b : Bool) → ltb x (2 * m + 1) ≡ b → At m 0 x x
    go true e = let w : x < 2 * m + 1 = ltb-true _ _ e in a_up (omega arith) (omega arith)
    go false e = let w : 2 * m + 1 ≤ x = ltb-false _ _ e in a_rest (omega arith) refl

at_more : (m s x y z : ℕ) → s ≤ 2 * m → At m s x y → Move m y z → At m (suc s) x z
at_more m s x y z l (a_rest a b) (up c d) = absurd (omega arith)
at_more m s x y z l (a_rest a b) (over c d) = absurd (omega arith)
at_more m s x y z l (a_rest a b) (rest c d) = a_rest a (omega arith)
at_more m s x y z l (a_up a b) (up c d) = a_up (omega arith) (omega arith)
at_more m s x y z l (a_up a b) (over c d) = a_over (omega arith) (omega arith) (omega arith)
at_more m s x y z l (a_up a b) (rest c d) = absurd (omega arith)
at_more m s x y z l (a_over a b k) (up c d) = a_over a (omega arith) (omega arith)
at_more m s x y z l (a_over a b k) (over c d) = absurd (omega arith)
at_more m s x y z l (a_over a b k) (rest c d) = absurd (omega arith)

at_step : (m s : ℕ) (u : Slot) → u.processor ≤ m → s ≤ 2 * m + 1 → At m s (pos m u) (pos m (next_by m s u))
unfolding next_by next
at_step m zero u l k = at_start m (pos m u) (pos_le m u.side u.processor l)
at_step m (suc s) u l k =
    at_more m s _ _ _ (omega arith) (at_step m s u l (omega arith)) (num_moved m (next_by m s u).side (next_by m s u).processor (next_by_le m s u l))

-- ---- the period
at_period : (m x y : ℕ) → At m (2 * m + 1) x y → y ≡ x
at_period m x y (a_rest a b) = b
at_period m x y (a_up a b) = absurd (omega arith)
at_period m x y (a_over a b c) = omega arith

pub period : (m : ℕ) (u : Slot) → u.processor ≤ m → next_by m (2 * m + 1) u ≡ u
period m u l = pos_one m _ _ (next_by_le m (2 * m + 1) u l) l (at_period m _ _ (at_step m (2 * m + 1) u l (omega arith)))

-- ---- the meeting, by numbers
data Sum (m x y : ℕ) : Type 0 where
  inner : x + y + 1 ≡ 2 * m → Sum m x y
  outer : x + y ≡ 2 * (2 * m) + 1 → Sum m x y

sum_to : (m : ℕ) (h g : Side) (i j : ℕ) → i ≤ m → i ≡ j → ¬ (num m h i ≡ num m g j) → Sum m (num m h i) (num m g j)
unfolding num
sum_to m left left zero zero l e n = absurd (omega arith)
sum_to m left left zero (suc j) l e n = absurd (omega arith)
sum_to m left left (suc i) zero l e n = absurd (omega arith)
sum_to m left left (suc i) (suc j) l e n = absurd (omega arith)
sum_to m left right zero j l e n = outer (omega arith)
sum_to m left right (suc i) j l e n = inner (omega arith)
sum_to m right left i zero l e n = outer (omega arith)
sum_to m right left i (suc j) l e n = inner (omega arith)
sum_to m right right i j l e n = absurd (omega arith)

sum_from : (m : ℕ) (h g : Side) (i j : ℕ) → i ≤ m → j ≤ m → Sum m (num m h i) (num m g j) → i ≡ j
unfolding num
sum_from m left left zero zero l k (inner e) = refl
sum_from m left left zero (suc j) l k (inner e) = absurd (omega arith)
sum_from m left left (suc i) zero l k (inner e) = absurd (omega arith)
sum_from m left left (suc i) (suc j) l k (inner e) = absurd (omega arith)
sum_from m left right zero j l k (inner e) = absurd (omega arith)
sum_from m left right (suc i) j l k (inner e) = omega arith
sum_from m right left i zero l k (inner e) = absurd (omega arith)
sum_from m right left i (suc j) l k (inner e) = omega arith
sum_from m right right i j l k (inner e) = absurd (omega arith)
sum_from m left left zero zero l k (outer e) = refl
sum_from m left left zero (suc j) l k (outer e) = absurd (omega arith)
sum_from m left left (suc i) zero l k (outer e) = absurd (omega arith)
sum_from m left left (suc i) (suc j) l k (outer e) = absurd (omega arith)
sum_from m left right zero j l k (outer e) = omega arith
sum_from m left right (suc i) j l k (outer e) = absurd (omega arith)
sum_from m right left i zero l k (outer e) = omega arith
sum_from m right left i (suc j) l k (outer e) = absurd (omega arith)
sum_from m right right i j l k (outer e) = absurd (omega arith)

-- the time s of the meeting, from the numbers at the start
data Time (m s x y : ℕ) : Type 0 where
  n_x : x ≡ 2 * m + 1 → y + s ≡ 2 * m → Time m s x y
  n_y : y ≡ 2 * m + 1 → x + s ≡ 2 * m → Time m s x y
  n_0 : x ≤ 2 * m → y ≤ 2 * m → x + y + 2 * s + 1 ≡ 2 * m → Time m s x y
  n_1 : x ≤ 2 * m → y ≤ 2 * m → x + y + 2 * s ≡ 2 * (2 * m) → Time m s x y
  n_2 : x ≤ 2 * m → y ≤ 2 * m → x + y + 2 * s ≡ 3 * (2 * m) + 1 → Time m s x y

-- when they meet, it is that time
to_time : (m s x y x' y' : ℕ) → s ≤ 2 * m → ¬ (x ≡ y) → At m s x x' → At m s y y' → Sum m x' y' → Time m s x y
to_time m s x y x' y' l n (a_rest a b) (a_rest c d) (inner e) = absurd (omega arith)
to_time m s x y x' y' l n (a_rest a b) (a_up c d) (inner e) = absurd (omega arith)
to_time m s x y x' y' l n (a_rest a b) (a_over c d f) (inner e) = absurd (omega arith)
to_time m s x y x' y' l n (a_up a b) (a_rest c d) (inner e) = absurd (omega arith)
to_time m s x y x' y' l n (a_up a b) (a_up c d) (inner e) = n_0 (omega arith) (omega arith) (omega arith)
to_time m s x y x' y' l n (a_up a b) (a_over c d f) (inner e) = n_1 (omega arith) (omega arith) (omega arith)
to_time m s x y x' y' l n (a_over a b g) (a_rest c d) (inner e) = absurd (omega arith)
to_time m s x y x' y' l n (a_over a b g) (a_up c d) (inner e) = n_1 (omega arith) (omega arith) (omega arith)
to_time m s x y x' y' l n (a_over a b g) (a_over c d f) (inner e) = n_2 (omega arith) (omega arith) (omega arith)
to_time m s x y x' y' l n (a_rest a b) (a_rest c d) (outer e) = absurd (omega arith)
to_time m s x y x' y' l n (a_rest a b) (a_up c d) (outer e) = n_x a (omega arith)
to_time m s x y x' y' l n (a_rest a b) (a_over c d f) (outer e) = absurd (omega arith)
to_time m s x y x' y' l n (a_up a b) (a_rest c d) (outer e) = n_y c (omega arith)
to_time m s x y x' y' l n (a_up a b) (a_up c d) (outer e) = absurd (omega arith)
to_time m s x y x' y' l n (a_up a b) (a_over c d f) (outer e) = absurd (omega arith)
to_time m s x y x' y' l n (a_over a b g) (a_rest c d) (outer e) = absurd (omega arith)
to_time m s x y x' y' l n (a_over a b g) (a_up c d) (outer e) = absurd (omega arith)
to_time m s x y x' y' l n (a_over a b g) (a_over c d f) (outer e) = absurd (omega arith)

-- there is one such time at most
one_time : (m x y s t : ℕ) → s ≤ 2 * m → t ≤ 2 * m → Time m s x y → Time m t x y → s ≡ t
one_time m x y s t ls lt (n_x a0 a1) (n_x b0 b1) = omega arith
one_time m x y s t ls lt (n_x a0 a1) (n_y b0 b1) = omega arith
one_time m x y s t ls lt (n_x a0 a1) (n_0 b0 b1 b2) = omega arith
one_time m x y s t ls lt (n_x a0 a1) (n_1 b0 b1 b2) = omega arith
one_time m x y s t ls lt (n_x a0 a1) (n_2 b0 b1 b2) = omega arith
one_time m x y s t ls lt (n_y a0 a1) (n_x b0 b1) = omega arith
one_time m x y s t ls lt (n_y a0 a1) (n_y b0 b1) = omega arith
one_time m x y s t ls lt (n_y a0 a1) (n_0 b0 b1 b2) = omega arith
one_time m x y s t ls lt (n_y a0 a1) (n_1 b0 b1 b2) = omega arith
one_time m x y s t ls lt (n_y a0 a1) (n_2 b0 b1 b2) = omega arith
one_time m x y s t ls lt (n_0 a0 a1 a2) (n_x b0 b1) = omega arith
one_time m x y s t ls lt (n_0 a0 a1 a2) (n_y b0 b1) = omega arith
one_time m x y s t ls lt (n_0 a0 a1 a2) (n_0 b0 b1 b2) = omega arith
one_time m x y s t ls lt (n_0 a0 a1 a2) (n_1 b0 b1 b2) = omega arith
one_time m x y s t ls lt (n_0 a0 a1 a2) (n_2 b0 b1 b2) = omega arith
one_time m x y s t ls lt (n_1 a0 a1 a2) (n_x b0 b1) = omega arith
one_time m x y s t ls lt (n_1 a0 a1 a2) (n_y b0 b1) = omega arith
one_time m x y s t ls lt (n_1 a0 a1 a2) (n_0 b0 b1 b2) = omega arith
one_time m x y s t ls lt (n_1 a0 a1 a2) (n_1 b0 b1 b2) = omega arith
one_time m x y s t ls lt (n_1 a0 a1 a2) (n_2 b0 b1 b2) = omega arith
one_time m x y s t ls lt (n_2 a0 a1 a2) (n_x b0 b1) = omega arith
one_time m x y s t ls lt (n_2 a0 a1 a2) (n_y b0 b1) = omega arith
one_time m x y s t ls lt (n_2 a0 a1 a2) (n_0 b0 b1 b2) = omega arith
one_time m x y s t ls lt (n_2 a0 a1 a2) (n_1 b0 b1 b2) = omega arith
one_time m x y s t ls lt (n_2 a0 a1 a2) (n_2 b0 b1 b2) = omega arith

-- at that time they meet
from_time : (m s x y x' y' : ℕ) → s ≤ 2 * m → ¬ (x ≡ y) → Time m s x y → At m s x x' → At m s y y' → Sum m x' y'
from_time m s x y x' y' l n (n_x p q) (a_rest a b) (a_rest c d) = absurd (omega arith)
from_time m s x y x' y' l n (n_x p q) (a_rest a b) (a_up c d) = outer (omega arith)
from_time m s x y x' y' l n (n_x p q) (a_rest a b) (a_over c d f) = absurd (omega arith)
from_time m s x y x' y' l n (n_x p q) (a_up a b) w = absurd (omega arith)
from_time m s x y x' y' l n (n_x p q) (a_over a b g) w = absurd (omega arith)
from_time m s x y x' y' l n (n_y p q) (a_rest a b) w = absurd (omega arith)
from_time m s x y x' y' l n (n_y p q) (a_up a b) (a_rest c d) = outer (omega arith)
from_time m s x y x' y' l n (n_y p q) (a_up a b) (a_up c d) = absurd (omega arith)
from_time m s x y x' y' l n (n_y p q) (a_up a b) (a_over c d f) = absurd (omega arith)
from_time m s x y x' y' l n (n_y p q) (a_over a b g) w = absurd (omega arith)
from_time m s x y x' y' l n (n_0 p q r) (a_rest a b) w = absurd (omega arith)
from_time m s x y x' y' l n (n_0 p q r) (a_up a b) (a_rest c d) = absurd (omega arith)
from_time m s x y x' y' l n (n_0 p q r) (a_up a b) (a_up c d) = inner (omega arith)
from_time m s x y x' y' l n (n_0 p q r) (a_up a b) (a_over c d f) = absurd (omega arith)
from_time m s x y x' y' l n (n_0 p q r) (a_over a b g) (a_rest c d) = absurd (omega arith)
from_time m s x y x' y' l n (n_0 p q r) (a_over a b g) (a_up c d) = absurd (omega arith)
from_time m s x y x' y' l n (n_0 p q r) (a_over a b g) (a_over c d f) = absurd (omega arith)
from_time m s x y x' y' l n (n_1 p q r) (a_rest a b) w = absurd (omega arith)
from_time m s x y x' y' l n (n_1 p q r) (a_up a b) (a_rest c d) = absurd (omega arith)
from_time m s x y x' y' l n (n_1 p q r) (a_up a b) (a_up c d) = absurd (omega arith)
from_time m s x y x' y' l n (n_1 p q r) (a_up a b) (a_over c d f) = inner (omega arith)
from_time m s x y x' y' l n (n_1 p q r) (a_over a b g) (a_rest c d) = absurd (omega arith)
from_time m s x y x' y' l n (n_1 p q r) (a_over a b g) (a_up c d) = inner (omega arith)
from_time m s x y x' y' l n (n_1 p q r) (a_over a b g) (a_over c d f) = absurd (omega arith)
from_time m s x y x' y' l n (n_2 p q r) (a_rest a b) w = absurd (omega arith)
from_time m s x y x' y' l n (n_2 p q r) (a_up a b) (a_rest c d) = absurd (omega arith)
from_time m s x y x' y' l n (n_2 p q r) (a_up a b) (a_up c d) = absurd (omega arith)
from_time m s x y x' y' l n (n_2 p q r) (a_up a b) (a_over c d f) = absurd (omega arith)
from_time m s x y x' y' l n (n_2 p q r) (a_over a b g) (a_rest c d) = absurd (omega arith)
from_time m s x y x' y' l n (n_2 p q r) (a_over a b g) (a_up c d) = absurd (omega arith)
from_time m s x y x' y' l n (n_2 p q r) (a_over a b g) (a_over c d f) = inner (omega arith)

-- and there is such a time
find : (m x y : ℕ) → x ≤ 2 * m + 1 → y ≤ 2 * m + 1 → ¬ (x ≡ y) → (s : ℕ) × (s ≤ 2 * m) × Time m s x y
find m x y l k n = go (ltb x (2 * m + 1)) (ltb y (2 * m + 1)) (eqb ((x + y) % 2) 0) (ltb (x + y) (2 * m)) refl refl refl refl
  where
    go : (b c d f : Bool) → ltb x (2 * m + 1) ≡ b → ltb y (2 * m + 1) ≡ c → eqb ((x + y) % 2) 0 ≡ d → ltb (x + y) (2 * m) ≡ f
        → (s : ℕ) × (s ≤ 2 * m) × Time m s x y
    go false false d f e1 e2 e3 e4 =
        let w : 2 * m + 1 ≤ x = ltb-false _ _ e1 in let w' : 2 * m + 1 ≤ y = ltb-false _ _ e2 in absurd (omega arith)
    go false true d f e1 e2 e3 e4 =
        let w : 2 * m + 1 ≤ x = ltb-false _ _ e1 in
        let w' : y < 2 * m + 1 = ltb-true _ _ e2 in
        (2 * m - y, omega arith, n_x (omega arith) (omega arith))
    go true false d f e1 e2 e3 e4 =
        let w : x < 2 * m + 1 = ltb-true _ _ e1 in
        let w' : 2 * m + 1 ≤ y = ltb-false _ _ e2 in
        (2 * m - x, omega arith, n_y (omega arith) (omega arith))
    go true true true f e1 e2 e3 e4 =
        let w : x < 2 * m + 1 = ltb-true _ _ e1 in
        let w' : y < 2 * m + 1 = ltb-true _ _ e2 in
        let r : (x + y) % 2 ≡ 0 = eqb-true _ _ e3 in
        (2 * m - (x + y) / 2, omega arith, n_1 (omega arith) (omega arith) (omega arith))
    go true true false true e1 e2 e3 e4 =
        let w : x < 2 * m + 1 = ltb-true _ _ e1 in
        let w' : y < 2 * m + 1 = ltb-true _ _ e2 in
        let r : ¬ ((x + y) % 2 ≡ 0) = eqb-false _ _ e3 in
        let z : x + y < 2 * m = ltb-true _ _ e4 in
        let r' : (x + y) % 2 ≡ 1 = omega arith in
        (m - 1 - (x + y) / 2, omega arith, n_0 (omega arith) (omega arith) (omega arith))
    go true true false false e1 e2 e3 e4 =
        let w : x < 2 * m + 1 = ltb-true _ _ e1 in
        let w' : y < 2 * m + 1 = ltb-true _ _ e2 in
        let r : ¬ ((x + y) % 2 ≡ 0) = eqb-false _ _ e3 in
        let z : 2 * m ≤ x + y = ltb-false _ _ e4 in
        let r' : (x + y) % 2 ≡ 1 = omega arith in
        (3 * m - (x + y) / 2, omega arith, n_2 (omega arith) (omega arith) (omega arith))

-- ---- the meeting
pub next_by_one : (m s : ℕ) (u w : Slot) → u.processor ≤ m → w.processor ≤ m → next_by m s u ≡ next_by m s w → u ≡ w
unfolding next_by
next_by_one m zero u w l k e = e
next_by_one m (suc s) u w l k e =
    next_by_one m s u w l k
    (sym (prior_next m (next_by m s u) (next_by_le m s u l)) ∙ ap (prior m) e ∙ prior_next m (next_by m s w) (next_by_le m s w k))

-- they meet in the window from z on, once
pub meets : (m z : ℕ) (u w : Slot) → u.processor ≤ m → w.processor ≤ m → ¬ (u ≡ w)
    → (s : ℕ) × (s < 2 * m + 1) × ((next_by m (z + s) u).processor ≡ (next_by m (z + s) w).processor)
    × ((t : ℕ) → t < 2 * m + 1 → (next_by m (z + t) u).processor ≡ (next_by m (z + t) w).processor → t ≡ s)
meets m z u w l k n = (f.0, omega (arith, f.1), hit, once)
  where
    a : Slot
    a = next_by m z u

    b : Slot
    b = next_by m z w

    la : (next_by m z u).processor ≤ m
    la = next_by_le m z u l

    lb : (next_by m z w).processor ≤ m
    lb = next_by_le m z w k

    differ : ¬ (pos m (next_by m z u) ≡ pos m (next_by m z w))
    differ e = n (next_by_one m z u w l k (pos_one m _ _ la lb e))

    f : (s : ℕ) × (s ≤ 2 * m) × Time m s (pos m (next_by m z u)) (pos m (next_by m z w))
    f = find m _ _ (pos_le m _ _ la) (pos_le m _ _ lb) differ

    hit : (next_by m (z + f.0) u).processor ≡ (next_by m (z + f.0) w).processor
    hit =
        let o : f.0 ≤ 2 * m = f.1 in
        rw (next_by_add m f.0 z u, next_by_add m f.0 z w)
        (sum_from m _ _ _ _ (next_by_le m f.0 _ la) (next_by_le m f.0 _ lb)
        (from_time m f.0 _ _ _ _ o differ f.2 (at_step m f.0 _ la (omega arith)) (at_step m f.0 _ lb (omega arith))))

    once : (t : ℕ) → t < 2 * m + 1 → (next_by m (z + t) u).processor ≡ (next_by m (z + t) w).processor → t ≡ f.0
    once t o e =
        one_time m _ _ t f.0 (omega arith) f.1
        (to_time m t _ _ _ _ (omega arith) differ (at_step m t _ la (omega arith)) (at_step m t _ lb (omega arith))
        (sum_to m _ _ _ _ (next_by_le m t _ la) (rw (next_by_add m t z u, next_by_add m t z w) at e)
        (λ q. differ (ap (pos m) (next_by_one m t _ _ la lb (pos_one m _ _ (next_by_le m t _ la) (next_by_le m t _ lb) q))))))
        f.2
