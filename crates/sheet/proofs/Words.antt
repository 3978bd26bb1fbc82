-- Words of m bytes. Assumes nothing.
use Prim.Native.Nat.{ℕ, zero, suc, ◌+◌, ◌-◌, ◌*◌, ◌/◌, ◌%◌, ◌^◌, ◌<◌, ◌≤◌}
use mathlib.Core.Path.{◌≡◌, refl, sym, ap, ◌∙◌}
use mathlib.Core.List.{List}
use native.Mathlib.Nat.{pow-suc, mul_comm, div-div-eq-div-mul, div-eq_of_lt}
use native.Mathlib.Numerals.{add-one}
use native.Mathlib.Omega.{arith}
use lib.Dec.{lit<}
use lib.ListN.{get_or, take, drop}
use Rattle.std.proofs.lemmas.List.{get_or-take, get_or-drop}
use Rattle.std.specs.Int.{w16, w64, from_be_bytes}
use Rattle.sheet.specs.Format.{byte_of, word_from}

-- a word of k bytes is below 256 ^ k
pub word_grows : (w d k : ℕ) → w < 256 ^ k → d < 256 → w * 256 + d < 256 ^ (k + 1)
word_grows w d k h b = rw (add-one, pow-suc) (omega arith)

-- ---- a word from its bytes, and the bytes of a word
-- without the last of d + 1 bytes, and without d more
shorter : (w d : ℕ) → w / 256 ^ suc d ≡ w / 256 / 256 ^ d
shorter w d = let e : 256 ^ suc d ≡ 256 * 256 ^ d = pow-suc 256 d ∙ mul_comm (256 ^ d) 256 in rw e (sym (div-div-eq-div-mul w 256 (256 ^ d)))

last_byte : (w d : ℕ) → w / 256 ^ suc d * 256 + w / 256 ^ d % 256 ≡ w / 256 ^ d
last_byte w d =
    let e : w / 256 ^ suc d ≡ w / 256 ^ d / 256 = ap (λ (x : ℕ). w / x) (pow-suc 256 d) ∙ sym (div-div-eq-div-mul w (256 ^ d) 256) in
    rw e (omega arith)

module _ (b : List ℕ) (o : ℕ) where
  word_part : (m v : ℕ) → v < 256 ^ m → ((k : ℕ) → k < m → get_or b (o + k) 0 ≡ byte_of m v k) → (k : ℕ) → k ≤ m → word_from b o k ≡ v / 256 ^ (m - k)
  unfolding word_from byte_of
  word_part m v h e zero l = let z : m - 0 ≡ m = omega arith in rw z (sym (div-eq_of_lt h))
  word_part m v h e (suc k) l =
      let a : m - k ≡ suc (m - 1 - k) = omega arith in
      let c : m - suc k ≡ m - 1 - k = omega arith in
      rw (word_part m v h e k (omega arith), e k (omega arith), a, c) (last_byte v (m - 1 - k))

  pub word_whole : (m v : ℕ) → v < 256 ^ m → ((k : ℕ) → k < m → get_or b (o + k) 0 ≡ byte_of m v k) → word_from b o m ≡ v
  word_whole m v h e =
      let y : m - m ≡ 0 = omega arith in
      let z : v / 1 ≡ v = omega arith in
      word_part m v h e m (omega arith) ∙ rw y z

  module _ (small : (i : ℕ) → get_or b i 0 < 256) where
    pub word_below : (k : ℕ) → word_from b o k < 256 ^ k
    unfolding word_from
    word_below zero = lit< tt
    word_below (suc k) = let e : k + 1 ≡ suc k = omega arith in rw e at (word_grows (word_from b o k) (get_or b (o + k) 0) k (word_below k) (small (o + k)))

    one_less : (k : ℕ) → word_from b o (suc k) / 256 ≡ word_from b o k
    unfolding word_from
    one_less k = let d = small (o + k) in omega arith

    last_of : (k : ℕ) → word_from b o (k + 1) % 256 ≡ get_or b (o + k) 0
    last_of k = let e : k + 1 ≡ suc k = omega arith in rw e (go k)
      where
        go : (k : ℕ) → word_from b o (suc k) % 256 ≡ get_or b (o + k) 0
        go k = let d = small (o + k) in unfold word_from in (omega arith)

    word_front : (d k : ℕ) → word_from b o (d + k) / 256 ^ d ≡ word_from b o k
    word_front zero k = let e : 0 + k ≡ k = omega arith in let z : word_from b o k / 1 ≡ word_from b o k = omega arith in rw e z
    word_front (suc d) k =
        let e : suc d + k ≡ suc (d + k) = omega arith in
        rw e (shorter (word_from b o (suc (d + k))) d ∙ ap (λ (x : ℕ). x / 256 ^ d) (one_less (d + k)) ∙ word_front d k)

    pub byte_back : (m k : ℕ) → k < m → byte_of m (word_from b o m) k ≡ get_or b (o + k) 0
    unfolding byte_of
    byte_back m k h =
        let e : m - 1 - k + (k + 1) ≡ m = omega arith in
        let f : word_from b o m / 256 ^ (m - 1 - k) ≡ word_from b o (k + 1)
        = ap (λ (x : ℕ). word_from b o x / 256 ^ (m - 1 - k)) (sym e) ∙ word_front (m - 1 - k) (k + 1) in
        rw f (last_of k)

-- ---- words as the library has them
pub word_two : (b : List ℕ) → from_be_bytes w16 b ≡ word_from b 0 2
unfolding word_from
word_two b = omega arith

pub word_eight : (b : List ℕ) → from_be_bytes w64 b ≡ word_from b 0 8
unfolding word_from
word_eight b = omega arith

word_copied : (b b' : List ℕ) (o m : ℕ) → ((k : ℕ) → k < m → get_or b' k 0 ≡ get_or b (o + k) 0) → word_from b' 0 m ≡ word_from b o m
unfolding word_from
word_copied b b' o zero e = refl
word_copied b b' o (suc m) e =
    let z : 0 + m ≡ m = omega arith in
    rw (word_copied b b' o m (λ k h. e k (omega arith)), z, e m (omega arith))

-- of the slice of m bytes from o on
pub word_sliced : (b : List ℕ) (o m n : ℕ) → n ≡ m → word_from (take n (drop o b)) 0 m ≡ word_from b o m
word_sliced b o m n e = word_copied b _ o m (λ k h. get_or-take n (drop o b) k 0 (omega arith) ∙ get_or-drop o b k 0)
