-- A matrix transposed by exchanges of two entries. Assumes nothing.
use Prim.Native.Nat.{ℕ, ◌+◌, ◌*◌, max, min, ◌≤◌, ◌<◌}
use mathlib.Core.Path.{◌≡◌, refl, sym, ap, ◌∙◌}
use mathlib.Core.Bool.{Bool, true, false, cond, ◌||◌, ◌&&◌}
use mathlib.Core.List.{List}
use mathlib.Core.Logic.{◌≢◌}
use native.Mathlib.Nat.{max_comm, min_comm, max-eq_left, min-eq_right, le-max_left, max-le, le-min}
use native.Mathlib.Omega.{arith}
use borrow.Author.Tests.{eqb-true, eqb-false, eq-eqb, leb-true, leb-false, le-leb, lt-leb}
use lib.Arith.{digits_lt}
use lib.Dec.{eqb, leb}
use lib.ListN.{length, get_or, length-set}
use lib.Seq.{get_or-set_same, get_or-set_other, lt-length-set}
use lib.Ieee.{Float, nan}
use Rattle.std.specs.List.{swap}
use Rattle.std.proofs.lemmas.List.Edits.{swap_is}
use Rattle.matrix.specs.Matrix.{at, flat}
use Rattle.matrix.specs.Transposed.{transposed, transposed_in, across, up_to, exchanged}
use Rattle.matrix.proofs.Flat.{index_one, at_offset, flat_length, at_flat, flat_is}
use Rattle.matrix.proofs.SameEntries.{flat_same, flat_again, one_more}

-- ---- two values
module _ (p q : ℕ) (l : List Float) where
  pub exchanged_length : length (exchanged p q l) ≡ length l
  unfolding exchanged
  exchanged_length = simp length-set

  exchanged_first : p ≢ q → p < length l → get_or (exchanged p q l) p nan ≡ get_or l q nan
  unfolding exchanged
  exchanged_first h b = rw (get_or-set_other, get_or-set_same)

  exchanged_second : q < length l → get_or (exchanged p q l) q nan ≡ get_or l p nan
  unfolding exchanged
  exchanged_second b = rw (get_or-set_same, lt-length-set)

  exchanged_other : (k : ℕ) → k ≢ p → k ≢ q → get_or (exchanged p q l) k nan ≡ get_or l k nan
  unfolding exchanged
  exchanged_other k h g = rw (get_or-set_other, get_or-set_other)

  swapped : p < length l → q < length l → swap l p q ≡ exchanged p q l
  unfolding exchanged
  swapped h k = sym (swap_is l p q nan h k)

-- ---- which entries are exchanged: x is the larger line, y the smaller
abbrev reached : ℕ → ℕ → ℕ → ℕ → Bool
reached i j x y = leb x i || (eqb x (i + 1) && leb y j)

no_place : (i x y : ℕ) → 1 ≤ y → reached i 0 x y ≡ leb x i
no_place i x y h = rw (lt-leb y 0 h) (go (leb x i) (eqb x (i + 1)))
  where
    go : (a b : Bool) → (a || (b && false)) ≡ a
    go true b = refl
    go false true = refl
    go false false = refl

whole_line : (i x y : ℕ) → y < x → reached i i x y ≡ leb x (i + 1)
whole_line i x y h = go (leb x i) (eqb x (i + 1)) refl refl
  where
    go : (a b : Bool) → leb x i ≡ a → eqb x (i + 1) ≡ b → (a || (b && leb y i)) ≡ leb x (i + 1)
    go true b e f = let z : x ≤ i = leb-true _ _ e in sym (le-leb x (i + 1) (omega arith))
    go false true e f = let z : x ≡ i + 1 = eqb-true _ _ f in le-leb y i (omega arith) ∙ sym (le-leb x (i + 1) (omega arith))
    go false false e f = let z : i < x = leb-false _ _ e in let w : ¬ (x ≡ i + 1) = eqb-false _ _ f in sym (lt-leb x (i + 1) (omega arith))

another_place : (i j x y : ℕ) → (x ≡ i + 1 → y ≢ j + 1) → reached i j x y ≡ reached i (j + 1) x y
another_place i j x y h = go (eqb x (i + 1)) (leb y j) refl refl
  where
    go : (b d : Bool) → eqb x (i + 1) ≡ b → leb y j ≡ d → (leb x i || (b && d)) ≡ (leb x i || (b && leb y (j + 1)))
    go false d e f = refl
    go true true e f = let z : y ≤ j = leb-true _ _ f in rw (le-leb y (j + 1) (omega arith))
    go true false e f = let z : j < y = leb-false _ _ f in let w : ¬ (y ≡ j + 1) = h (eqb-true _ _ e) in rw (lt-leb y (j + 1) (omega arith))

-- ---- one exchange more
up_mirrored : (i j r c : ℕ) → up_to i j r c ≡ up_to i j c r
unfolding up_to
up_mirrored i j r c = rw (max_comm r c, min_comm r c)

module _ (i j k : ℕ) (below : j < i) where
  at_pair : up_to i k (i + 1) (j + 1) ≡ leb (j + 1) k
  unfolding up_to
  at_pair =
      let h : j + 1 ≤ i + 1 = omega arith in
      rw (max-eq_left h, min-eq_right h, lt-leb (i + 1) i (omega arith), eq-eqb (i + 1) (i + 1) refl)

module _ (n i j : ℕ) (inside : i < n) (below : j < i) where
  pub first_within : i * n + j < n * n
  first_within = digits_lt inside (omega arith)

  pub second_within : j * n + i < n * n
  second_within = digits_lt {q = j} {m = n} {r = i} {c = n} (omega arith) inside

  apart : i * n + j ≢ j * n + i
  apart e = let z = (index_one n i j j i (omega arith) inside e).0 in omega arith

  module _ (A : ℕ → ℕ → Float) where
    abbrev before : List Float
    before = flat n (across (up_to i j) A)

    long : length before ≡ n * n
    long = flat_length n _

    stood : (r c : ℕ) → r < n → c < n → get_or before (r * n + c) nan ≡ across (up_to i j) A (r + 1) (c + 1)
    stood r c hr hc = sym (at_offset n before r c) ∙ at_flat n _ r c hr hc

    kept : (r c : ℕ) → up_to i j r c ≡ false → across (up_to i j) A r c ≡ A r c
    unfolding across
    kept r c e = rw e

    crossed : (r c : ℕ) → up_to i (j + 1) r c ≡ true → across (up_to i (j + 1)) A r c ≡ A c r
    unfolding across
    crossed r c e = rw e

    not_yet : up_to i j (i + 1) (j + 1) ≡ false
    not_yet = at_pair i j j below ∙ lt-leb (j + 1) j (omega arith)

    by_now : up_to i (j + 1) (i + 1) (j + 1) ≡ true
    by_now = at_pair i j (j + 1) below ∙ le-leb (j + 1) (j + 1) (omega arith)

    -- the lines r and c are not those of the pair
    elsewhere : (r c : ℕ) → r * n + c ≢ i * n + j → r * n + c ≢ j * n + i → up_to i j (r + 1) (c + 1) ≡ up_to i (j + 1) (r + 1) (c + 1)
    unfolding up_to
    elsewhere r c f g = another_place i j (max (r + 1) (c + 1)) (min (r + 1) (c + 1)) (λ x y. go x y (leb c r) refl)
      where
        go : max (r + 1) (c + 1) ≡ i + 1 → min (r + 1) (c + 1) ≡ j + 1 → (b : Bool) → leb c r ≡ b → ⊥
        go x y true e =
            let h : c ≤ r = leb-true _ _ e in
            let u : r ≡ i = omega arith in
            let v : c ≡ j = omega arith in
            f (rw (u, v))
        go x y false e =
            let h : r < c = leb-false _ _ e in
            let u : c ≡ i = omega arith in
            let v : r ≡ j = omega arith in
            g (rw (u, v))

    pair_crossed : exchanged (i * n + j) (j * n + i) before ≡ flat n (across (up_to i (j + 1)) A)
    pair_crossed =
        flat_is n _ _ (exchanged_length _ _ before ∙ long)
        (λ r c hr hc. at_offset n _ r c ∙ go r c hr hc (eqb (r * n + c) (i * n + j)) (eqb (r * n + c) (j * n + i)) refl refl)
      where
        go : (r c : ℕ) → r < n → c < n → (a b : Bool) → eqb (r * n + c) (i * n + j) ≡ a → eqb (r * n + c) (j * n + i) ≡ b
            → get_or (exchanged (i * n + j) (j * n + i) before) (r * n + c) nan ≡ across (up_to i (j + 1)) A (r + 1) (c + 1)
        go r c hr hc true b e f =
            let z = index_one n r c i j hc (omega arith) (eqb-true _ _ e) in
            rw (z.0, z.1)
            (exchanged_first _ _ before apart (rw long first_within) ∙ stood j i (omega arith) inside
            ∙ kept _ _ (up_mirrored i j _ _ ∙ not_yet) ∙ sym (crossed _ _ by_now))
        go r c hr hc false true e f =
            let z = index_one n r c j i hc inside (eqb-true _ _ f) in
            rw (z.0, z.1)
            (exchanged_second _ _ before (rw long second_within) ∙ stood i j inside (omega arith)
            ∙ kept _ _ not_yet ∙ sym (crossed _ _ (up_mirrored i (j + 1) _ _ ∙ by_now)))
        go r c hr hc false false e f =
            exchanged_other _ _ before _ (eqb-false _ _ e) (eqb-false _ _ f) ∙ stood r c hr hc
            ∙ unfold across in (rw (elsewhere r c (eqb-false _ _ e) (eqb-false _ _ f)))

    pub exchange_next : {l l' : List Float} → l ≡ before → l' ≡ swap l (i * n + j) (j * n + i) → l' ≡ flat n (across (up_to i (j + 1)) A)
    exchange_next e f = rw e at f ∙ swapped _ _ before (rw long first_within) (rw long second_within) ∙ pair_crossed

-- ---- no line, one line more, all lines
module _ (n : ℕ) (A : ℕ → ℕ → Float) where
  no_line : flat n A ≡ flat n (across (up_to 0 0) A)
  unfolding across up_to
  no_line =
      flat_same n _ _ (λ r c hr hc. rw (no_place 0 (max r c) (min r c) (le-min hr.0 hc.0), lt-leb (max r c) 0 (omega (arith, le-max_left r c, hr.0))))

  pub line_next : (i : ℕ) → flat n (across (up_to i i) A) ≡ flat n (across (up_to (i + 1) 0) A)
  unfolding across up_to
  line_next i = flat_same n _ _ (λ r c hr hc. go r c (le-min hr.0 hc.0) (eqb r c) refl)
    where
      either : (b : Bool) (x : Float) → cond b x x ≡ x
      either true x = refl
      either false x = refl

      go : (r c : ℕ) → 1 ≤ min r c → (b : Bool) → eqb r c ≡ b
          → cond (reached i i (max r c) (min r c)) (A c r) (A r c) ≡ cond (reached (i + 1) 0 (max r c) (min r c)) (A c r) (A r c)
      go r c h true e = rw (eqb-true r c e) (either (reached i i (max c c) (min c c)) (A c c) ∙ sym (either (reached (i + 1) 0 (max c c) (min c c)) (A c c)))
      go r c h false e =
          let w : ¬ (r ≡ c) = eqb-false _ _ e in
          rw (whole_line i (max r c) (min r c) (omega arith), no_place (i + 1) (max r c) (min r c) h)

  all_lines : flat n (across (up_to n 0) A) ≡ flat n (transposed A)
  unfolding across up_to
  all_lines = flat_same n _ _ (λ r c hr hc. rw (le-leb (max r c) n (max-le hr.1 hc.1)))

module _ (n : ℕ) (l : List Float) where
  pub left_as_it_was : eqb (length l) (n * n) ≡ false → l ≡ transposed_in n l
  unfolding transposed_in
  left_as_it_was e = rw e

  pub begun : length l ≡ n * n → l ≡ flat n (across (up_to 0 0) (at n l))
  begun h = flat_again n l h ∙ no_line n (at n l)

  pub ended : {l' : List Float} → length l ≡ n * n → l' ≡ flat n (across (up_to n 0) (at n l)) → l' ≡ transposed_in n l
  unfolding transposed_in
  ended h e = rw (eq-eqb (length l) (n * n) h) (e ∙ all_lines n (at n l))

-- the list of a transposed matrix, transposed
pub transposed_again : (n : ℕ) (A : ℕ → ℕ → Float) {l l' : List Float} → l ≡ flat n (transposed A) → l' ≡ transposed_in n l → l' ≡ flat n A
unfolding transposed_in
transposed_again n A {l} e f =
    one_more n (transposed A) transposed (λ A B h r c hr hc. h c r hc hr) e (rw (eq-eqb (length l) (n * n) (ap length e ∙ flat_length n _)) at f)
