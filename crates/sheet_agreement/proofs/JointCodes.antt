-- Codes one after the other: what is known of each list and of no code shared is known of all of them. Assumes nothing.
use Prim.Native.Nat.{ℕ, zero, suc, ◌+◌, ◌-◌, ◌*◌, ◌^◌, ◌<◌, ◌≤◌}
use mathlib.Core.Path.{◌≡◌, refl}
use mathlib.Core.Bool.{Bool, true, false}
use mathlib.Core.List.{List, [], ◌∷◌, ◌++◌}
use native.Mathlib.Nat.{pow-le-pow_right}
use native.Mathlib.Omega.{arith}
use borrow.Author.Tests.{ne_eqb, ltb-true, ltb-false}
use lib.Dec.{eqb, ltb, lit<}
use lib.ListN.{length, get_or, length-append, get_or-append, get_or-eq_default}
use Rattle.lists.proofs.Bounded.{or_false, false_or, any_to, any_from}
use Rattle.sheet.specs.Codes.{bad_code, bad_codes}
use Rattle.sheet.specs.Format.{width_in, order_in, code_in, codes_in}
use Rattle.sheet.proofs.Forms.{width_fits}
use Rattle.sheet.proofs.Words.{word_below}
use Rattle.sheet_reader.proofs.SheetContents.{codes_count, code_at}
use Rattle.sheet_join.specs.Join.{shared_code}
use Rattle.sheet_join.proofs.JointContents.{get_d_after}
use Rattle.sheet_agreement.proofs.RoundTrip.{Codes16}
use Rattle.sheet_agreement.proofs.SharedCodes.{none_shared}

-- ---- numbers of two bytes
pub both16 : (l m : List ℕ) → Codes16 l → Codes16 m → Codes16 (l ++ m)
both16 [] m f g k = g k
both16 (x ∷ l) m f g zero = f 0
both16 (x ∷ l) m f g (suc k) = both16 l m (λ i. f (suc i)) g k

pub codes16 : (b : List ℕ) → ((i : ℕ) → get_or b i 0 < 256) → Codes16 (codes_in b)
codes16 b small k = go (ltb k (order_in b)) refl
  where
    go : (x : Bool) → ltb k (order_in b) ≡ x → get_or (codes_in b) k 0 < 65536
    go true e =
        let word : code_in (width_in b) b k < 256 ^ width_in b = unfold code_in in (word_below b (2 + width_in b * k) small (width_in b)) in
        let most : 256 ^ width_in b ≤ 256 ^ 2 = pow-le-pow_right (lit< tt) (width_fits b).1 in
        rw (code_at b k (ltb-true _ _ e)) (omega arith)
    go false e =
        let out : length (codes_in b) ≤ k = rw (codes_count b) (ltb-false _ _ e) in
        rw (get_or-eq_default (codes_in b) 0 {n = k} out) (omega arith)

-- ---- codes that are not zero and not used before
module _ (codes : List ℕ) (good : bad_codes codes ≡ false) (k : ℕ) (h : k < length codes) where
  tests : (eqb (get_or codes k 0) 0 ≡ false) × ((i : ℕ) → i < k → eqb (get_or codes i 0) (get_or codes k 0) ≡ false)
  unfolding bad_codes bad_code
  tests =
      let w = or_false (eqb (get_or codes k 0) 0) _ (any_to (length codes) (bad_code codes) good k h) in
      (w.0, any_to k (λ i. eqb (get_or codes i 0) (get_or codes k 0)) w.1)

module _ (l m : List ℕ) (good : bad_codes l ≡ false) (good' : bad_codes m ≡ false) (apart : shared_code l m ≡ false) where
  not_shared : (i k : ℕ) → i < length l → k < length m → eqb (get_or l i 0) (get_or m k 0) ≡ false
  not_shared i k h o = ne_eqb (get_or l i 0) (get_or m k 0) (none_shared l m apart i k h o)

  first_good : (k : ℕ) → k < length l → bad_code (l ++ m) k ≡ false
  unfolding bad_code
  first_good k h =
      let w = tests l good k h in
      rw (get_or-append l m 0 k h) (false_or _ _ w.0 (any_from k _ (λ i o. rw (get_or-append l m 0 i (omega arith)) (w.1 i o))))

  second_good : (k : ℕ) → length l ≤ k → k < length l + length m → bad_code (l ++ m) k ≡ false
  unfolding bad_code
  second_good k h o = rw (get_d_after l m k h) (false_or _ _ w.0 (any_from k _ (λ i u. before i u (ltb i (length l)) refl)))
    where
      w : (eqb (get_or m (k - length l) 0) 0 ≡ false) × ((i : ℕ) → i < k - length l → eqb (get_or m i 0) (get_or m (k - length l) 0) ≡ false)
      w = tests m good' (k - length l) (omega arith)

      before : (i : ℕ) → i < k → (x : Bool) → ltb i (length l) ≡ x → eqb (get_or (l ++ m) i 0) (get_or m (k - length l) 0) ≡ false
      before i u true e = let v : i < length l = ltb-true _ _ e in rw (get_or-append l m 0 i v) (not_shared i (k - length l) v (omega arith))
      before i u false e = let v : length l ≤ i = ltb-false _ _ e in rw (get_d_after l m i v) (w.1 (i - length l) (omega arith))

  pub joint_good : bad_codes (l ++ m) ≡ false
  unfolding bad_codes
  joint_good = any_from (length (l ++ m)) (bad_code (l ++ m)) (λ k h. go k (omega (arith, length-append l m)) (ltb k (length l)) refl)
    where
      go : (k : ℕ) → k < length l + length m → (x : Bool) → ltb k (length l) ≡ x → bad_code (l ++ m) k ≡ false
      go k h true e = first_good k (ltb-true _ _ e)
      go k h false e = second_good k (ltb-false _ _ e) h
