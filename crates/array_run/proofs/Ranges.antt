-- What an iterator over a range finds, and tests and sums over the numbers below a bound. Assumes nothing.
use Prim.Native.Nat.{ℕ, zero, suc, ◌+◌}
use mathlib.Core.Path.{◌≡◌, refl, sym, ap, subst, ◌∙◌}
use mathlib.Core.Bool.{Bool, true, false, ◌||◌}
use native.Mathlib.Omega.{arith}
use mathlib.Core.List.{List, map}
use Rattle.std.specs.List.{list_any, range_with_len, sum}
use Rattle.std.proofs.lemmas.List.FromFn.{sum_by-map-range_with_len_more}
use Rattle.std.proofs.iter.Yields.{nat_range_steps}
use Rattle.std.proofs.lemmas.Iterator.{YieldsList-from_range}
use Rattle.std.proofs.lemmas.Iterator.Search.{any_from_yields_List}
use Rattle.std.specs.declared.ops.Range.{Range}
use Rattle.std.specs.Fn.{Called}
use Rattle.std.specs.Iterator.{YieldsThen}
use Rattle.std.specs.List.{FoldsTo}
use Rattle.std.specs.Option.{MatchOption}
use Rattle.std.proofs.Common.{Option}
use denote.Param.Members.{Mut}
use Rattle.lists.specs.Bounded.{any, total}

module _ (p : ℕ → Bool) where
  -- the last number apart
  any_last : (a n : ℕ) → list_any p (range_with_len a (suc n)) ≡ (list_any p (range_with_len a n) || p (a + n))
  any_last a zero = let e : a + 0 ≡ a = omega arith in rw e (go (p a))
    where
      go : (b : Bool) → (b || false) ≡ (false || b)
      go true = refl
      go false = refl
  any_last a (suc n) =
      let e : a + 1 + n ≡ a + suc n = omega arith in
      ap (λ (b : Bool). p a || b) (rw e at (any_last (a + 1) n)) ∙ go (p a)
    where
      go : (b : Bool) → (b || (list_any p (range_with_len (a + 1) n) || p (a + suc n))) ≡ ((b || list_any p (range_with_len (a + 1) n)) || p (a + suc n))
      go true = refl
      go false = refl

  any_below : (n : ℕ) → list_any p (range_with_len 0 n) ≡ any n p
  unfolding any
  any_below zero = refl
  any_below (suc n) = let e : 0 + n ≡ n = omega arith in any_last 0 n ∙ rw (any_below n, e)

  -- what the test of a range's numbers answers, where the calls of a closure change nothing and each is p
  pub any_of_range : {F : Type 0} {g : Mut F (ℕ × Unit {0}) Bool} {s u : Range ℕ} {f : F} {r : Bool} (n : ℕ) → s ≡ record { start = 0; end = n }
      → (xs : List ℕ) × (o : Option ℕ) × (j : F) × YieldsThen nat_range_steps s xs o u × FoldsTo (λ y x q. Called g y (x, tt) false q) f xs j
      × MatchOption o (r ≡ false) (λ x. (r ≡ true) × ((h : F) × Called g j (x, tt) true h))
      → ((x : ℕ) (b : Bool) (q : F) → Called g f (x, tt) b q → (q ≡ f) × (b ≡ p x))
      → r ≡ any n p
  any_of_range {u = u} {f = f} {r = r} n e ran h =
      any_from_yields_List p u f r ran (YieldsList-from_range 0 n n e (omega arith)) h ∙ any_below n

module _ (f : ℕ → ℕ) where
  pub sum_below : (n : ℕ) → sum (map f (range_with_len 0 n)) ≡ total n f
  unfolding total
  sum_below zero = refl
  sum_below (suc n) =
      let s : suc n ≡ n + 1 = omega arith in
      subst (λ (m : ℕ). sum (map f (range_with_len 0 m)) ≡ total n f + f n) (sym s)
      (sum_by-map-range_with_len_more (λ x. x) f 0 n n (omega arith) ∙ ap (λ (k : ℕ). k + f n) (sum_below n))
