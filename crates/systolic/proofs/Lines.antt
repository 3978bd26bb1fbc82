-- The lines that stand in the slots. Assumes nothing.
use Prim.Native.Nat.{ℕ, zero, suc, ◌+◌, ◌-◌, ◌*◌, ◌/◌, ◌%◌, ◌≤◌, ◌<◌}
use mathlib.Core.Path.{◌≡◌, refl, sym, ◌∙◌, ap}
use mathlib.Core.Bool.{Bool, true, false, ◌||◌, ◌&&◌, true≢false}
use native.Mathlib.Omega.{arith}
use native.Mathlib.Nat.{div-add-mod', add_comm}
use borrow.Author.Tests.{eqb-true, eqb-false, eq-eqb}
use lib.Dec.{eqb}
use Rattle.systolic.specs.Slots.{Side, left, right, Slot, slot, next, prior, next_by, line_at, in_order_at}
use Rattle.systolic.specs.Slots.{ordered_line, meet_in, meet_at, Meet, in_order, reversed}
use Rattle.lists.specs.Bounded.{count}
use Rattle.lists.proofs.Bounded.{any_hit, any_find, count_one}
use Rattle.systolic.proofs.Movement.{prior_next, next_prior, prior_le, next_by_le, period, next_by_one, meets}

abbrev pub Distinct : ℕ → (Slot → ℕ) → Type 0
Distinct m f = (u w : Slot) → u.processor ≤ m → w.processor ≤ m → f u ≡ f w → u ≡ w

module _ (l : Slot → ℕ) (m : ℕ) where
  pub line_next : (s : ℕ) (u : Slot) → u.processor ≤ m → line_at l m (suc s) (next m u) ≡ line_at l m s u
  unfolding line_at
  line_next s u h = ap (line_at l m s) (prior_next m u h)

  pub line_start : (u : Slot) → line_at l m 0 u ≡ l u
  unfolding line_at
  line_start u = refl

  pub line_next_by : (z s : ℕ) (u : Slot) → u.processor ≤ m → line_at l m (z + s) (next_by m s u) ≡ line_at l m z u
  unfolding next_by
  line_next_by z zero u h = let e : z + 0 ≡ z = omega arith in rw e
  line_next_by z (suc s) u h =
      let e : z + suc s ≡ suc (z + s) = omega arith in
      rw e (line_next (z + s) (next_by m s u) (next_by_le m s u h) ∙ line_next_by z s u h)

  -- every line stands somewhere: that of u in `next_by m s u`
  pub line_at_lem : (s : ℕ) (u : Slot) → u.processor ≤ m → line_at l m s (next_by m s u) ≡ l u
  unfolding next_by line_at
  line_at_lem zero u h = refl
  line_at_lem (suc s) u h = ap (line_at l m s) (prior_next m (next_by m s u) (next_by_le m s u h)) ∙ line_at_lem s u h

  -- where a label that stands in a slot was at the start
  pub line_from : (s : ℕ) (u : Slot) → u.processor ≤ m → (w : Slot) × (w.processor ≤ m) × (line_at l m s u ≡ l w)
  unfolding line_at
  line_from zero u h = (u, h, refl)
  line_from (suc s) u h = line_from s (prior m u) (prior_le m u h)

  pub line_period : (z : ℕ) (u : Slot) → u.processor ≤ m → line_at l m (z + (2 * m + 1)) u ≡ line_at l m z u
  line_period z u h = ap (line_at l m (z + (2 * m + 1))) (sym (period m u h)) ∙ line_next_by z (2 * m + 1) u h

  pub line_periods : (n z : ℕ) (u : Slot) → u.processor ≤ m → line_at l m (z + n * (2 * m + 1)) u ≡ line_at l m z u
  line_periods zero z u h = let e : z + 0 * (2 * m + 1) ≡ z = omega arith in rw e
  line_periods (suc n) z u h =
      let e : z + suc n * (2 * m + 1) ≡ z + n * (2 * m + 1) + (2 * m + 1) = omega arith in
      rw e (line_period (z + n * (2 * m + 1)) u h ∙ line_periods n z u h)

  -- the step within its sweep is enough
  pub line_within : (z : ℕ) (u : Slot) → u.processor ≤ m → line_at l m (z % (2 * m + 1)) u ≡ line_at l m z u
  line_within z u h =
      let d : z % (2 * m + 1) + z / (2 * m + 1) * (2 * m + 1) ≡ z = add_comm (z % (2 * m + 1)) (z / (2 * m + 1) * (2 * m + 1)) ∙ div-add-mod' z (2 * m + 1) in
      sym (line_periods (z / (2 * m + 1)) (z % (2 * m + 1)) u h) ∙ ap (λ (x : ℕ). line_at l m x u) d

  pub line_sweeps : (n : ℕ) (u : Slot) → u.processor ≤ m → line_at l m (n * (2 * m + 1)) u ≡ l u
  line_sweeps n u h = let e : n * (2 * m + 1) ≡ 0 + n * (2 * m + 1) = omega arith in rw e (line_periods n 0 u h ∙ line_start u)

  module _ (one : Distinct m l) where
    pub line_one : (s : ℕ) → Distinct m (line_at l m s)
    unfolding line_at
    line_one zero u w h k e = one u w h k e
    line_one (suc s) u w h k e =
        sym (next_prior m u h) ∙ ap (next m) (line_one s (prior m u) (prior m w) (prior_le m u h) (prior_le m w k) e) ∙ next_prior m w k

    -- two different slots of one processor
    apart : (s p q : ℕ) (h g : Side) (i j : ℕ) → i ≤ m → i ≡ j → ¬ (slot i h ≡ slot j g) → line_at l m s (slot i h) ≡ p → line_at l m s (slot j g) ≡ q
        → Meet l m s p q
    apart s p q left left i j o e n a b = absurd (n (ap (λ x. slot x left) e))
    apart s p q left right i j o e n a b = in_order i o a (rw e b)
    apart s p q right left i j o e n a b = reversed i o (rw e b) a
    apart s p q right right i j o e n a b = absurd (n (ap (λ x. slot x right) e))

    same_processor : (s : ℕ) (u w : Slot) → u.processor ≤ m → w.processor ≤ m → Meet l m s (l u) (l w) → (next_by m s u).processor ≡ (next_by m s w).processor
    unfolding slot
    same_processor s u w h k (in_order i o a b) =
        let x : slot i left ≡ next_by m s u = line_one s (slot i left) (next_by m s u) o (next_by_le m s u h) (a ∙ sym (line_at_lem s u h)) in
        let y : slot i right ≡ next_by m s w = line_one s (slot i right) (next_by m s w) o (next_by_le m s w k) (b ∙ sym (line_at_lem s w k)) in
        sym (ap (λ v. v.processor) x) ∙ ap (λ v. v.processor) y
    same_processor s u w h k (reversed i o a b) =
        let x : slot i right ≡ next_by m s u = line_one s (slot i right) (next_by m s u) o (next_by_le m s u h) (b ∙ sym (line_at_lem s u h)) in
        let y : slot i left ≡ next_by m s w = line_one s (slot i left) (next_by m s w) o (next_by_le m s w k) (a ∙ sym (line_at_lem s w k)) in
        sym (ap (λ v. v.processor) x) ∙ ap (λ v. v.processor) y

    -- two lines meet in one of 2 m + 1 steps, and in no other
    pub lines_meet : (z : ℕ) (u w : Slot) → u.processor ≤ m → w.processor ≤ m → ¬ (u ≡ w)
        → (s : ℕ) × (s < 2 * m + 1) × Meet l m (z + s) (l u) (l w) × ((t : ℕ) → t < 2 * m + 1 → Meet l m (z + t) (l u) (l w) → t ≡ s)
    unfolding slot
    lines_meet z u w h k n =
        let f = meets m z u w h k n in (
          f.0,
          f.1,
          apart (z + f.0) (l u) (l w) (next_by m (z + f.0) u).side (next_by m (z + f.0) w).side _ _ (next_by_le m (z + f.0) u h) f.2
              (λ e. n (next_by_one m (z + f.0) u w h k e)) (line_at_lem (z + f.0) u h) (line_at_lem (z + f.0) w k),
          λ t o e. f.3 t o (same_processor (z + t) u w h k e),
        )

-- ---- the meeting as a test
and_to : (a b : Bool) → (a && b) ≡ true → (a ≡ true) × (b ≡ true)
and_to true b e = (refl, e)
and_to false b e = absurd (true≢false (sym e))

module _ (l : Slot → ℕ) (m s p q : ℕ) where
  meet_test : Meet l m s p q → meet_at l m s p q ≡ true
  unfolding meet_at meet_in
  meet_test (in_order i o a b) = any_hit (suc m) (meet_in l m s p q) i (omega arith) (rw (eq-eqb _ _ a, eq-eqb _ _ b))
  meet_test (reversed i o a b) =
      any_hit (suc m) (meet_in l m s p q) i (omega arith)
      (or_right (eqb (line_at l m s (slot i left)) p && eqb (line_at l m s (slot i right)) q) _ (rw (eq-eqb _ _ a, eq-eqb _ _ b)))
    where
      or_right : (a b : Bool) → b ≡ true → (a || b) ≡ true
      or_right true b e = refl
      or_right false b e = e

  test_meet : meet_at l m s p q ≡ true → Meet l m s p q
  unfolding meet_at
  test_meet e = let w = any_find (suc m) (meet_in l m s p q) e in of w.0 (omega (arith, w.1)) w.2
    where
      of : (i : ℕ) → i ≤ m → meet_in l m s p q i ≡ true → Meet l m s p q
      of i o e = go (eqb (line_at l m s (slot i left)) p && eqb (line_at l m s (slot i right)) q) refl (unfold meet_in in e)
        where
          go : (b : Bool) → (eqb (line_at l m s (slot i left)) p && eqb (line_at l m s (slot i right)) q) ≡ b
              → (b || (eqb (line_at l m s (slot i left)) q && eqb (line_at l m s (slot i right)) p)) ≡ true → Meet l m s p q
          go true z y = let w = and_to _ _ z in in_order i o (eqb-true _ _ w.0) (eqb-true _ _ w.1)
          go false z y = let w = and_to _ _ y in reversed i o (eqb-true _ _ w.0) (eqb-true _ _ w.1)

-- For any one-to-one labelling, two lines meet in exactly one of any 2 m + 1 steps in a row.
pub lines_meet_once : (l : Slot → ℕ) (m : ℕ) (one : Distinct m l) (z : ℕ) (u w : Slot) → u.processor ≤ m → w.processor ≤ m → ¬ (u ≡ w)
    → count (λ s. meet_at l m (z + s) (l u) (l w)) (2 * m + 1) ≡ 1
lines_meet_once l m one z u w h k n =
    let f = lines_meet l m one z u w h k n in
    count_one (λ s. meet_at l m (z + s) (l u) (l w)) (2 * m + 1) f.0 f.1 (meet_test l m (z + f.0) (l u) (l w) f.2)
    (λ t o e. f.3 t o (test_meet l m (z + t) (l u) (l w) e))

-- ---- the lines b to b + 2 N - 1 in order
in_order_at_one : (b : ℕ) (h g : Side) (i j : ℕ) → in_order_at b h i ≡ in_order_at b g j → slot i h ≡ slot j g
unfolding in_order_at
in_order_at_one b left left i j e = ap (λ x. slot x left) (omega arith)
in_order_at_one b left right i j e = absurd (omega arith)
in_order_at_one b right left i j e = absurd (omega arith)
in_order_at_one b right right i j e = ap (λ x. slot x right) (omega arith)

pub in_order_one : (b m : ℕ) → Distinct m (ordered_line b)
unfolding ordered_line slot
in_order_one b m u w h k e = in_order_at_one b u.side w.side u.processor w.processor e

in_order_at_in : (b m : ℕ) (h : Side) (i : ℕ) → i ≤ m → (b ≤ in_order_at b h i) × (in_order_at b h i < b + 2 * suc m)
unfolding in_order_at
in_order_at_in b m left i l = omega arith
in_order_at_in b m right i l = omega arith

pub in_order_in : (b m : ℕ) (u : Slot) → u.processor ≤ m → (b ≤ ordered_line b u) × (ordered_line b u < b + 2 * suc m)
unfolding ordered_line
in_order_in b m u l = in_order_at_in b m u.side u.processor l

pub in_order_of : (b m p : ℕ) → b ≤ p → p < b + 2 * suc m → (u : Slot) × (u.processor ≤ m) × (ordered_line b u ≡ p)
unfolding ordered_line slot in_order_at
in_order_of b m p x y = go (eqb ((p - b) % 2) 0) refl
  where
    go : (t : Bool) → eqb ((p - b) % 2) 0 ≡ t → (u : Slot) × (u.processor ≤ m) × (ordered_line b u ≡ p)
    go true e = let z : (p - b) % 2 ≡ 0 = eqb-true _ _ e in (slot ((p - b) / 2) left, omega arith, omega arith)
    go false e = let z : ¬ ((p - b) % 2 ≡ 0) = eqb-false _ _ e in (slot ((p - b) / 2) right, omega arith, omega arith)

-- Two different lines meet once in every sweep.
pub numbers_meet_once : (b m z p q : ℕ) → b ≤ p → p < b + 2 * suc m → b ≤ q → q < b + 2 * suc m → ¬ (p ≡ q)
    → count (λ s. meet_at (ordered_line b) m (z + s) p q) (2 * m + 1) ≡ 1
numbers_meet_once b m z p q p1 p2 q1 q2 n =
    let u = in_order_of b m p p1 p2 in
    let w = in_order_of b m q q1 q2 in
    let f = lines_meet_once (ordered_line b) m (in_order_one b m) z u.0 w.0 u.1 w.1 (λ e. n (sym u.2 ∙ ap (ordered_line b) e ∙ w.2)) in
    rw (← u.2, ← w.2) f

-- Each line stands in one slot in each step.
pub numbers_stand : (b m s p : ℕ) → b ≤ p → p < b + 2 * suc m
    → (u : Slot) × (u.processor ≤ m) × (line_at (ordered_line b) m s u ≡ p) × ((w : Slot) → w.processor ≤ m → line_at (ordered_line b) m s w ≡ p → w ≡ u)
numbers_stand b m s p x y =
    let u = in_order_of b m p x y in
    let o = next_by_le m s u.0 u.1 in
    let e = line_at_lem (ordered_line b) m s u.0 u.1 ∙ u.2 in
    (next_by m s u.0, o, e, λ w h z. line_one (ordered_line b) m (in_order_one b m) s w (next_by m s u.0) h o (z ∙ sym e))
