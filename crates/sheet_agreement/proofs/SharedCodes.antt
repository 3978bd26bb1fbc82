-- Lists of codes that are joined: the codes that they share with others, and the lengths of their sheets. Assumes nothing.
use Prim.Native.Nat.{ℕ, ◌+◌, ◌*◌, ◌<◌, ◌≤◌}
use mathlib.Core.Path.{◌≡◌, sym, ◌∙◌}
use mathlib.Core.Bool.{Bool, true, false, cond, ◌||◌}
use mathlib.Core.List.{List, ◌++◌}
use native.Mathlib.Nat.{mul-le-mul}
use native.Mathlib.Omega.{arith}
use borrow.Author.Tests.{eqb-true, eqb-false}
use lib.Dec.{eqb}
use lib.ListN.{length, get_or}
use Rattle.lists.specs.Bounded.{any}
use Rattle.lists.proofs.Bounded.{same_bool, or_false, false_or, any_to, any_from, any_find}
use Rattle.sheet.specs.Codes.{long_codes, width_for}
use Rattle.sheet.specs.Format.{length_for}
use Rattle.sheet_join.specs.Join.{has_code, shared_code}
use Rattle.sheet_join.proofs.JointContents.{any_either, long_either}
use Rattle.sheet.proofs.ListTests.{any_same}

-- ---- shared codes
module _ (l m : List ℕ) where
  pub one_shared : shared_code l m ≡ true → (k i : ℕ) × (k < length l) × (i < length m) × (get_or l k 0 ≡ get_or m i 0)
  unfolding shared_code has_code
  one_shared e =
      let v = any_find (length l) _ e in
      let w = any_find (length m) _ v.2 in
      (v.0, w.0, v.1, w.1, sym (eqb-true _ _ w.2))

  pub none_shared : shared_code l m ≡ false → (k i : ℕ) → k < length l → i < length m → ¬ (get_or l k 0 ≡ get_or m i 0)
  unfolding shared_code has_code
  none_shared e k i h o z = eqb-false (get_or m i 0) (get_or l k 0) (any_to (length m) _ (any_to (length l) _ e k h) i o) (sym z)

any_or : (n : ℕ) (f g : ℕ → Bool) → any n (λ k. f k || g k) ≡ (any n f || any n g)
any_or n f g = same_bool _ _ apart together
  where
    apart : any n (λ k. f k || g k) ≡ false → (any n f || any n g) ≡ false
    apart e =
        let none : (k : ℕ) → k < n → (f k ≡ false) × (g k ≡ false) = λ k h. or_false (f k) (g k) (any_to n _ e k h) in
        false_or _ _ (any_from n f (λ k h. (none k h).0)) (any_from n g (λ k h. (none k h).1))

    together : (any n f || any n g) ≡ false → any n (λ k. f k || g k) ≡ false
    together e = let w = or_false _ _ e in any_from n _ (λ k h. false_or (f k) (g k) (any_to n f w.0 k h) (any_to n g w.1 k h))

module _ (l m codes : List ℕ) where
  pub shared_first : shared_code (l ++ m) codes ≡ (shared_code l codes || shared_code m codes)
  unfolding shared_code
  shared_first = any_either (λ x. has_code x codes) l m

  pub shared_second : shared_code codes (l ++ m) ≡ (shared_code codes l || shared_code codes m)
  unfolding shared_code has_code
  shared_second = any_same (length codes) _ _ (λ k h. any_either (λ x. eqb x (get_or codes k 0)) l m) ∙ any_or (length codes) _ _

-- ---- lengths
-- a part of the codes has no wider form
pub wider : (l m : List ℕ) → (width_for l ≤ width_for (l ++ m)) × (width_for m ≤ width_for (l ++ m))
unfolding width_for
wider l m = rw (long_either l m) (go (long_codes l) (long_codes m))
  where
    go : (x y : Bool) → (cond x 2 1 ≤ cond (x || y) 2 1) × (cond y 2 1 ≤ cond (x || y) 2 1)
    go true true = (omega arith, omega arith)
    go true false = (omega arith, omega arith)
    go false true = (omega arith, omega arith)
    go false false = (omega arith, omega arith)

pub longer : (n m : ℕ) (l codes : List ℕ) → n ≤ m → width_for l ≤ width_for codes → length_for n l ≤ length_for m codes
longer n m l codes h k =
    let a : width_for l * n ≤ width_for codes * m = mul-le-mul k h in
    let b : 4 * n ≤ 4 * m = omega arith in
    let c : n + 1 ≤ m + 1 = omega arith in
    let d : 4 * n * (n + 1) ≤ 4 * m * (m + 1) = mul-le-mul b c in
    omega arith
