-- What is written of words and numbers. Assumes nothing.
use Rattle.std.proofs.Common.{◌≡◌, ℕ, zero, suc, ◌+◌, ◌-◌, ◌*◌, ◌/◌, ◌%◌, ◌^◌, ◌<◌, ◌≤◌, List, [], ◌∷◌, ◌++◌, drop, Option, Some, None}
use Rattle.std.proofs.Common.{refl, ap, ◌∙◌, arith, add-one, append_assoc}
use Rattle.std.specs.Fmt.{decimal}
use Rattle.std.specs.Io.KnownBytes.{Appends}
use Rattle.std.proofs.lemmas.Fmt.{decimal_by_steps}
use borrow.Author.Tests.{lt-ltb}
use native.Mathlib.Nat.{pow-suc, add-sub_cancel}
use Rattle.text.specs.Text.{hex_of, newline}
use Rattle.text.specs.Pages.{Puts}
use Rattle.text.specs.declared.Page.{Page}
use Rattle.text.proofs.TextPieces.{put_whole, hex_length}
use Rattle.test_io.specs.Digits.{digit_code, last_digits, IsDigitCount}
use Rattle.test_io.specs.TextLines.{word_text_line, AppendsNumber}

-- a word put before a newline
pub word_put : (n : ℕ) {p q : Page} → Puts p (hex_of 16 n) q → p.end ≡ 0 → drop 16 p.bytes.now ≡ newline → q.bytes.now ≡ word_text_line n
unfolding word_text_line
word_put n {p} {q} a z e = (put_whole _ _ _ _ (rw z at a.put)).1 ∙ rw (hex_length 16 n, e) refl

-- ---- numbers
record Spelt (n : ℕ) (text : List ℕ) : Type 0 where
  count : ℕ
  fewest : IsDigitCount 10 1 n count
  is : text ≡ last_digits 10 count n

decimal_code : (d : ℕ) → d < 10 → 48 + d ≡ digit_code d
decimal_code d h = simp (lt-ltb d 10 h)

one_digit : (n : ℕ) → n < 10 → Spelt n ((48 + n) ∷ [])
one_digit n h =
    let small : n % 10 ≡ n = omega arith in
    record { count = 1; fewest = (omega arith, omega arith, λ more. omega arith); is = rw small (ap (λ (x : ℕ). x ∷ []) (decimal_code n h)) }

-- what is put before the last digit takes all others
power_below : (n k : ℕ) → 1 ≤ k → 10 ≤ n → (1 < k → 10 ^ (k - 1) ≤ n / 10) → 10 ^ k ≤ n
power_below n zero above h fewest = absurd (omega arith)
power_below n (suc zero) above h fewest = h
power_below n (suc (suc j)) above h fewest =
    let one : suc (suc j) - 1 ≡ suc j = omega arith in
    let below : 10 ^ suc j ≤ n / 10 = rw one at (fewest (omega arith)) in
    omega (arith, pow-suc 10 (suc j))

digit_more : (n : ℕ) (ds : List ℕ) → 10 ≤ n → Spelt (n / 10) ds → Spelt n (ds ++ ((48 + n % 10) ∷ []))
digit_more n ds h s =
    let k = s.count in
    let p : 10 ^ suc k ≡ 10 ^ k * 10 = pow-suc 10 k in
    let less : n / 10 < 10 ^ k = s.fewest.1 in
    let code = decimal_code (n % 10) (omega arith) in
    record {
      count = k + 1;
      fewest = (omega arith, rw add-one (omega arith), λ more. rw (add-sub_cancel k 1) (power_below n k s.fewest.0 h s.fewest.2));
      is = rw (s.is, add-one) (ap (λ (x : ℕ). last_digits 10 k (n / 10) ++ (x ∷ [])) code);
    }

spelt_decimal : (n : ℕ) → n < 2 ^ 64 → Spelt n (decimal n)
spelt_decimal = decimal_by_steps Spelt one_digit digit_more

appended : (old mid new : Option (List ℕ)) (s t : List ℕ) → Appends old mid s → Appends mid new t → Appends old new (s ++ t)
appended None mid new s t a b = tt
appended (Some x) None new s t a b = absurd a
appended (Some x) (Some y) None s t a b = b
appended (Some x) (Some y) (Some z) s t a b = b ∙ ap (λ (l : List ℕ). l ++ t) a ∙ append_assoc x s t

pub number_appended : (old mid new : Option (List ℕ)) (word : List ℕ) (n : ℕ) → n < 2 ^ 64 → Appends old mid word
    → Appends mid new (32 ∷ (decimal n ++ (10 ∷ []))) → AppendsNumber old new word n
number_appended old mid new word n h a b =
    let s = spelt_decimal n h in
    (_, record { count = s.count; fewest = s.fewest; is = rw s.is refl }, appended old mid new word _ a b)

-- a text that is empty at first, and takes a word and then a number, is appended at once
pub line_appended : (old new : Option (List ℕ)) (empty first text word : List ℕ) (n : ℕ) → n < 2 ^ 64 → empty ≡ [] → first ≡ empty ++ word
    → text ≡ first ++ (32 ∷ (decimal n ++ (10 ∷ []))) → Appends old new text → AppendsNumber old new word n
line_appended old new empty first text word n h none a b appends =
    let s = spelt_decimal n h in
    (text, record { count = s.count; fewest = s.fewest; is = rw (b, a, none, s.is) refl }, appends)
