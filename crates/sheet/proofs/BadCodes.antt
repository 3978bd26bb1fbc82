-- Codes that are zero, are used before, or do not fit a byte. Assumes nothing.
use Prim.Native.Nat.{ℕ, ◌+◌, ◌<◌, ◌≤◌}
use mathlib.Core.Path.{◌≡◌, sym, ap, ◌∙◌}
use mathlib.Core.Bool.{Bool, true, ◌||◌}
use mathlib.Core.List.{List}
use native.Mathlib.Omega.{arith}
use borrow.Author.Tests.{lt-ltb}
use lib.Dec.{eqb}
use lib.ListN.{length, get_or, take}
use Rattle.std.specs.List.{list_any, enumerate_from}
use Rattle.std.proofs.lemmas.List.{length-take-le, get_or-take}
use Rattle.std.proofs.lemmas.List.FromFn.{length-enumerate_from, get_or-enumerate_from}
use Rattle.lists.specs.Bounded.{any}
use Rattle.lists.proofs.Bounded.{any_hit}
use Rattle.sheet.proofs.ListTests.{any_listed, any_same}
use Rattle.sheet.specs.Codes.{bad_code, bad_codes, long_codes}

module _ (codes : List ℕ) where
  -- code p.1, which has p.0 codes before it, is zero or one of them
  abbrev pub bad_at : ℕ × ℕ → Bool
  bad_at p = eqb p.1 0 || list_any (λ x. eqb x p.1) (take p.0 codes)

  used_is : (k : ℕ) → k ≤ length codes → list_any (λ x. eqb x (get_or codes k 0)) (take k codes) ≡ any k (λ i. eqb (get_or codes i 0) (get_or codes k 0))
  used_is k h =
      any_listed 0 _ (take k codes) ∙ rw (length-take-le k codes h) (any_same k _ _ (λ i o. ap (λ (x : ℕ). eqb x (get_or codes k 0)) (get_or-take k codes i 0 o)))

  bad_at_is : (k : ℕ) → k < length codes → bad_at (get_or (enumerate_from 0 codes) k (0, 0)) ≡ bad_code codes k
  unfolding bad_code
  bad_at_is k h =
      let z : 0 + k ≡ k = omega arith in
      rw (get_or-enumerate_from 0 codes k (0, 0) h, z) (ap (λ (b : Bool). eqb (get_or codes k 0) 0 || b) (used_is k (omega arith)))

  pub bad_listed : list_any bad_at (enumerate_from 0 codes) ≡ bad_codes codes
  unfolding bad_codes
  bad_listed = any_listed (0, 0) bad_at (enumerate_from 0 codes) ∙ rw (length-enumerate_from 0 codes) (any_same (length codes) _ _ bad_at_is)

  pub one_long : (k : ℕ) → k < length codes → 255 < get_or codes k 0 → true ≡ long_codes codes
  unfolding long_codes
  one_long k h e = sym (any_hit (length codes) _ k h (lt-ltb 255 (get_or codes k 0) e))
