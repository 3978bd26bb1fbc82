-- A matrix that a loop fills from the stored entries, each in its place and in its mirror place. Rows and columns from 0. Assumes nothing.
use Prim.Native.Nat.{ℕ, suc, ◌+◌, ◌*◌, ◌<◌, ◌≤◌}
use mathlib.Core.Path.{◌≡◌, refl, sym, ap, ◌∙◌}
use mathlib.Core.Bool.{Bool, true, false}
use mathlib.Core.List.{List}
use native.Mathlib.Omega.{arith}
use borrow.Author.Tests.{eqb-true, eqb-false, ltb-true, ltb-false}
use lib.Arith.{digits_lt}
use lib.Dec.{eqb, ltb}
use lib.ListN.{length, get_or, set, length-set}
use lib.Seq.{get_or-set_same, get_or-set_other}
use lib.Ieee.{Float, nan}
use Rattle.matrix.specs.Matrix.{flat}
use Rattle.matrix.proofs.Flat.{index_one, at_offset, flat_is}
use Rattle.sheet.specs.Format.{entry_place, entries_to}
use Rattle.sheet.proofs.Triangle.{place_at, rows_below, row_more}

-- ---- one value in two places
module _ (m : List Float) (a b : ℕ) (x : Float) where
  abbrev both : List Float
  both = set (set m a x) b x

  other : (k : ℕ) → ¬ (k ≡ a) → ¬ (k ≡ b) → get_or both k nan ≡ get_or m k nan
  other k p q = get_or-set_other (set m a x) b k x nan q ∙ get_or-set_other m a k x nan p

  second : b < length m → get_or both b nan ≡ x
  second h = get_or-set_same (set m a x) b x nan (rw (length-set m a x) h)

  first : a < length m → b < length m → get_or both a nan ≡ x
  first h k = go (eqb a b) refl
    where
      go : (z : Bool) → eqb a b ≡ z → get_or both a nan ≡ x
      go true e = let w : a ≡ b = eqb-true _ _ e in ap (λ (i : ℕ). get_or both i nan) w ∙ second k
      go false e = get_or-set_other (set m a x) b a x nan (eqb-false _ _ e) ∙ get_or-set_same m a x nan h

-- an entry has one place
one_place : (r c i j : ℕ) → c ≤ r → j ≤ i → entries_to r + c ≡ entries_to i + j → (r ≡ i) × (c ≡ j)
one_place r c i j h k e =
    let p = sym (place_at r c h) ∙ ap entry_place e ∙ place_at i j k in
    let row : suc r ≡ suc i = ap (λ (q : ℕ × ℕ). q.0) p in
    let column : suc c ≡ suc j = ap (λ (q : ℕ × ℕ). q.1) p in
    (omega arith, omega arith)

module _ (n : ℕ) (A : ℕ → ℕ → Float) where
  -- The first e stored entries stand in both their places.
  pub record Stored (e : ℕ) (m : List Float) : Type 0 where
    pub long : length m ≡ n * n
    pub below : (r c : ℕ) → c ≤ r → r < n → entries_to r + c < e → get_or m (r * n + c) nan ≡ A (r + 1) (c + 1)
    pub mirror : (r c : ℕ) → c ≤ r → r < n → entries_to r + c < e → get_or m (c * n + r) nan ≡ A (c + 1) (r + 1)

  pub stored_none : (m : List Float) → length m ≡ n * n → Stored (entries_to 0) m
  unfolding entries_to
  stored_none m e = record { long = e; below = λ r c h k o. absurd (omega arith); mirror = λ r c h k o. absurd (omega arith) }

  module _ (i j : ℕ) (m : List Float) (x : Float) (ji : j ≤ i) (i-below : i < n) where
    abbrev new : List Float
    new = set (set m (i * n + j) x) (j * n + i) x

    -- what stands in other places stays
    old : (r c : ℕ) → c < n → ((r ≡ i) × (c ≡ j) → ⊥) → ((r ≡ j) × (c ≡ i) → ⊥) → get_or new (r * n + c) nan ≡ get_or m (r * n + c) nan
    old r c k p q =
        other m (i * n + j) (j * n + i) x (r * n + c) (λ y. p (index_one n r c i j k (omega arith) y)) (λ y. q (index_one n r c j i k (omega arith) y))

    module _ (s : Stored (entries_to i + j) m) (e : x ≡ A (i + 1) (j + 1)) (f : x ≡ A (j + 1) (i + 1)) where
      inside : (r c : ℕ) → r < n → c < n → r * n + c < length m
      inside r c h k = rw s.long (digits_lt h k)

      one : (r c : ℕ) → c ≤ r → r < n → entries_to r + c < entries_to i + (j + 1)
          → (get_or new (r * n + c) nan ≡ A (r + 1) (c + 1)) × (get_or new (c * n + r) nan ≡ A (c + 1) (r + 1))
      one r c h k o = go (eqb (entries_to r + c) (entries_to i + j)) refl
        where
          go : (z : Bool) → eqb (entries_to r + c) (entries_to i + j) ≡ z
              → (get_or new (r * n + c) nan ≡ A (r + 1) (c + 1)) × (get_or new (c * n + r) nan ≡ A (c + 1) (r + 1))
          go true z =
              let w = one_place r c i j h ji (eqb-true _ _ z) in
              let here = inside i j i-below (omega arith) in
              let there = inside j i (omega arith) i-below in
              rw (w.0, w.1) (first m (i * n + j) (j * n + i) x here there ∙ e, second m (i * n + j) (j * n + i) x there ∙ f)
          go false z =
              let another : ¬ (entries_to r + c ≡ entries_to i + j) = eqb-false _ _ z in
              let before : entries_to r + c < entries_to i + j = omega arith in
              let straight : (r ≡ i) × (c ≡ j) → ⊥ = λ y. another (rw (y.0, y.1)) in
              let across : (r ≡ j) × (c ≡ i) → ⊥ = λ y. let d : j ≡ i = omega (arith, y.0, y.1) in another (rw (y.0, y.1, d)) in (
                old r c (omega arith) straight across ∙ s.below r c h k before,
                old c r k (λ y. across (y.1, y.0)) (λ y. straight (y.1, y.0)) ∙ s.mirror r c h k before,
              )

      pub stored_next : Stored (entries_to i + (j + 1)) new
      stored_next =
          record {
            long = length-set (set m (i * n + j) x) (j * n + i) x ∙ length-set m (i * n + j) x ∙ s.long;
            below = λ r c h k o. (one r c h k o).0;
            mirror = λ r c h k o. (one r c h k o).1;
          }

  pub stored_all : (m : List Float) → Stored (entries_to n) m → m ≡ flat n A
  stored_all m s = flat_is n A m s.long (λ i j h k. at_offset n m i j ∙ go i j h k (ltb i j) refl)
    where
      in_all : (r c : ℕ) → c ≤ r → r < n → entries_to r + c < entries_to n
      in_all r c h k = let w = rows_below r n k in omega arith

      go : (i j : ℕ) → i < n → j < n → (z : Bool) → ltb i j ≡ z → get_or m (i * n + j) nan ≡ A (i + 1) (j + 1)
      go i j h k true e = let w : i < j = ltb-true _ _ e in s.mirror j i (omega arith) k (in_all j i (omega arith) k)
      go i j h k false e = let w : j ≤ i = ltb-false _ _ e in s.below i j w h (in_all i j w h)

-- What the rows of a matrix are proved by.
pub ruleset whole_rows = (row_more, stored_all)
