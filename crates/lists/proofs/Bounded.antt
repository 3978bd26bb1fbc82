-- Tests over the numbers below a bound. Assumes nothing.
use Prim.Native.Nat.{ℕ, zero, suc, ◌+◌, ◌≤◌, ◌<◌}
use mathlib.Core.Path.{◌≡◌, refl, sym, ◌∙◌, ap}
use mathlib.Core.Bool.{Bool, true, false, not, cond, ◌||◌, true≢false}
use native.Mathlib.Nat.{add_comm}
use native.Mathlib.Numerals.{add-one}
use native.Mathlib.Omega.{arith}
use borrow.Author.Tests.{ltb-true, ltb-false, eqb-true, eqb-false, eq-eqb, ne_eqb}
use lib.Dec.{eqb, ltb}
use Rattle.lists.specs.Bounded.{count, any}

-- what holds below n, and at n
pub up_to : (Q : ℕ → Type 0) (n i : ℕ) → i < suc n → (i < n → Q i) → Q n → Q i
up_to Q n i o f x = go (ltb i n) refl
  where
    go : (b : Bool) → ltb i n ≡ b → Q i
    go true e = f (ltb-true _ _ e)
    go false e = let w : n ≤ i = ltb-false _ _ e in let w' : i ≡ n = omega arith in rw w' x

pub or_false : (a b : Bool) → (a || b) ≡ false → (a ≡ false) × (b ≡ false)
or_false true b e = absurd (true≢false e)
or_false false b e = (refl, e)

pub false_or : (a b : Bool) → a ≡ false → b ≡ false → (a || b) ≡ false
false_or a b e f = rw (e, f)

-- two tests that fail together are one
pub same_bool : (a b : Bool) → (a ≡ false → b ≡ false) → (b ≡ false → a ≡ false) → a ≡ b
same_bool true true f g = refl
same_bool true false f g = g refl
same_bool false true f g = sym (f refl)
same_bool false false f g = refl

-- ---- none passes
pub any_to : (n : ℕ) (f : ℕ → Bool) → any n f ≡ false → (i : ℕ) → i < n → f i ≡ false
unfolding any
any_to zero f e i l = absurd (omega arith)
any_to (suc n) f e i l = let w = or_false (any n f) (f n) e in up_to (λ k. f k ≡ false) n i l (any_to n f w.0 i) w.1

pub any_from : (n : ℕ) (f : ℕ → Bool) → ((i : ℕ) → i < n → f i ≡ false) → any n f ≡ false
unfolding any
any_from zero f g = refl
any_from (suc n) f g = false_or (any n f) (f n) (any_from n f (λ i l. g i (omega arith))) (g n (omega arith))

pub any_none : (f : ℕ → Bool) → any 0 f ≡ false
unfolding any
any_none f = refl

pub any_more : (f : ℕ → Bool) (k : ℕ) → any k f ≡ false → f k ≡ false → any (k + 1) f ≡ false
unfolding any
any_more f k e g = rw (add-one, e, g)

-- ---- one passes
pub any_hit : (n : ℕ) (f : ℕ → Bool) (i : ℕ) → i < n → f i ≡ true → any n f ≡ true
any_hit n f i l e = go (any n f) refl
  where
    go : (b : Bool) → any n f ≡ b → b ≡ true
    go true z = refl
    go false z = absurd (true≢false (sym e ∙ any_to n f z i l))

pub any_find : (n : ℕ) (f : ℕ → Bool) → any n f ≡ true → (i : ℕ) × (i < n) × (f i ≡ true)
unfolding any
any_find zero f e = absurd (true≢false (sym e))
any_find (suc n) f e = go (any n f) refl e (λ z. any_find n f z)
  where
    go : (b : Bool) → any n f ≡ b → (b || f n) ≡ true → (any n f ≡ true → (i : ℕ) × (i < n) × (f i ≡ true)) → (i : ℕ) × (i < suc n) × (f i ≡ true)
    go true z y r = let w = r z in (w.0, omega (arith, w.1), w.2)
    go false z y r = (n, omega arith, y)

-- a longer range, where the test fails above n
pub any_within : (a n : ℕ) (f g : ℕ → Bool) → n ≤ a → ((i : ℕ) → i < n → f i ≡ g i) → ((i : ℕ) → n ≤ i → i < a → f i ≡ false) → any a f ≡ any n g
any_within a n f g h same above =
    same_bool _ _ (λ e. any_from n g (λ i l. sym (same i l) ∙ any_to a f e i (omega arith))) (λ e. any_from a f (λ i l. go e i l (ltb i n) refl))
  where
    go : any n g ≡ false → (i : ℕ) → i < a → (b : Bool) → ltb i n ≡ b → f i ≡ false
    go e i l true z = let w : i < n = ltb-true _ _ z in same i w ∙ any_to n g e i w
    go e i l false z = above i (ltb-false _ _ z) l

-- ---- how many pass
pub count_below : (f g : ℕ → Bool) (n : ℕ) → ((i : ℕ) → i < n → f i ≡ g i) → count f n ≡ count g n
unfolding count
count_below f g zero e = refl
count_below f g (suc n) e = rw (e n (omega arith), count_below f g n (λ i l. e i (omega arith)))

pub count_ext : (f g : ℕ → Bool) (n : ℕ) → ((i : ℕ) → f i ≡ g i) → count f n ≡ count g n
count_ext f g n e = count_below f g n (λ i _. e i)

pub count_more : (f : ℕ → Bool) (k : ℕ) {t x : ℕ} → t ≡ count f k → x ≡ cond (f k) 1 0 → t + x ≡ count f (k + 1)
unfolding count
count_more f k e g = rw (add-one, e, g) (add_comm (count f k) _)

pub count_most : (f : ℕ → Bool) (n : ℕ) {t : ℕ} → t ≡ count f n → t ≤ n
unfolding count
count_most f zero e = omega arith
count_most f (suc n) {t} e = go (f n) (count_most f n refl) e
  where
    go : (b : Bool) → count f n ≤ n → t ≡ cond b 1 0 + count f n → t ≤ suc n
    go true h z = omega arith
    go false h z = omega arith

pub count_all : (f : ℕ → Bool) (n : ℕ) → ((t : ℕ) → t < n → f t ≡ true) → count f n ≡ n
unfolding count
count_all f zero g = refl
count_all f (suc n) g = rw (g n (omega arith), count_all f n (λ t l. g t (omega arith))) (omega arith)

pub count_none : (f : ℕ → Bool) (n : ℕ) → ((t : ℕ) → t < n → f t ≡ false) → count f n ≡ 0
unfolding count
count_none f zero g = refl
count_none f (suc n) g = let e : count f n ≡ 0 = count_none f n (λ t l. g t (omega arith)) in rw (g n (omega arith), e)

-- none is counted where none passes
pub sum_none : (a b : ℕ) (x y : Bool) → eqb a 0 ≡ not x → eqb b 0 ≡ not y → eqb (a + b) 0 ≡ not (x || y)
sum_none a b true y e f = ne_eqb (a + b) 0 (λ z. eqb-false a 0 e (omega arith))
sum_none a b false true e f = ne_eqb (a + b) 0 (λ z. eqb-false b 0 f (omega arith))
sum_none a b false false e f = eq-eqb (a + b) 0 (omega (arith, eqb-true a 0 e, eqb-true b 0 f))

pub count_any : (f : ℕ → Bool) (n : ℕ) → eqb (count f n) 0 ≡ not (any n f)
unfolding count any
count_any f zero = eq-eqb 0 0 refl
count_any f (suc n) = rw (add_comm (cond (f n) 1 0) (count f n)) (sum_none (count f n) (cond (f n) 1 0) (any n f) (f n) (count_any f n) (go (f n)))
  where
    go : (b : Bool) → eqb (cond b 1 0) 0 ≡ not b
    go true = ne_eqb 1 0 (λ z. omega arith)
    go false = eq-eqb 0 0 refl

-- a test that passes at one s < n only is counted once
pub count_one : (f : ℕ → Bool) (n s : ℕ) → s < n → f s ≡ true → ((t : ℕ) → t < n → f t ≡ true → t ≡ s) → count f n ≡ 1
unfolding count
count_one f zero s l e g = absurd (omega arith)
count_one f (suc n) s l e g = go (f n) refl (λ h. count_one f n s h e (λ t o. g t (omega arith)))
  where
    false_of : (b : Bool) → ¬ (b ≡ true) → b ≡ false
    false_of true h = absurd (h refl)
    false_of false h = refl

    go : (b : Bool) → f n ≡ b → (s < n → count f n ≡ 1) → cond b 1 0 + count f n ≡ 1
    go true z r =
        let w : n ≡ s = g n (omega arith) z in
        rw (count_none f n (λ t o. false_of (f t) (λ q. let w' : t ≡ s = g t (omega arith) q in omega arith)))
    go false z r =
        let w : ¬ (s ≡ n) = λ q. true≢false (sym e ∙ ap f q ∙ z) in
        let h : count f n ≡ 1 = r (omega arith) in
        rw h
