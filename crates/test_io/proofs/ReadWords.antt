-- Facts on `spelt`. Assumes nothing.
use Rattle.std.proofs.Common.{◌≡◌, ℕ, zero, suc, ◌+◌, ◌*◌, ◌^◌, ◌<◌, ◌≤◌, List, Option, Some, None, refl, arith, add-one}
use mathlib.Core.Logic.{⊎_elim}
use native.Mathlib.Nat.{pow-suc, pow-le-pow_right, eq-or-lt_of_le}
use lib.Dec.{lit<}
use lib.ListN.{get_or}
use Rattle.test_io.specs.TextLines.{digit_of, then, spelt}

no_digit : (l : Option ℕ) → then l None ≡ None
unfolding then
no_digit None = refl
no_digit (Some n) = refl

-- a byte that is no digit's code spoils every longer reading
pub spoilt : (s : List ℕ) (i k : ℕ) → i < k → digit_of (get_or s i 0) ≡ None → spelt k s ≡ None
unfolding spelt then
spoilt s i zero h b = absurd (omega arith)
spoilt s i (suc k) h b =
    let le : i ≤ k = omega arith in
    ⊎_elim (λ same. rw (← same, b) (no_digit (spelt i s))) (λ below. rw (spoilt s i k below b)) (eq-or-lt_of_le le)

-- a digit more
pub one_more : (s : List ℕ) (i n d : ℕ) → spelt i s ≡ Some n → digit_of (get_or s i 0) ≡ Some d → spelt (i + 1) s ≡ Some (n * 16 + d)
unfolding spelt then
one_more s i n d h b = rw (add-one, h, b)

pub digit_few : (b d : ℕ) → digit_of b ≡ Some d → d < 16
unfolding digit_of
digit_few b d e = grind arith

-- after i of the 16 digits there is room for one more
pub room : (n i : ℕ) → i < 16 → n < 16 ^ i → n * 16 + 15 < 2 ^ 64
room n i h b =
    let p : 16 ^ suc i ≡ 16 ^ i * 16 = pow-suc 16 i in
    let q : 16 ^ suc i ≤ 16 ^ 16 = pow-le-pow_right (lit< tt) h in
    omega arith

pub grown : (n d i : ℕ) → d < 16 → n < 16 ^ i → n * 16 + d < 16 ^ (i + 1)
grown n d i h b = rw (add-one, pow-suc) (omega arith)
