-- When there is an entry. Assumes nothing.
use Prim.Native.Nat.{ℕ, ◌+◌, ◌-◌, ◌*◌, ◌≤◌, ◌<◌}
use mathlib.Core.Path.{◌≡◌, refl, sym}
use mathlib.Core.Bool.{Bool, true, false, cond, ◌&&◌, true≢false}
use mathlib.Core.List.{List}
use native.Mathlib.Omega.{arith}
use borrow.Author.Tests.{eqb-true, eqb-false, eq-eqb, ne_eqb, leb-true, le-leb}
use lib.Arith.{digits_lt}
use lib.Dec.{eqb, leb}
use lib.ListN.{length}
use lib.Ieee.{Float}
use Rattle.matrix.specs.Matrix.{at, is_line, is_place, entry_of}

-- ---- a place
pub line_is : (n p : ℕ) → is_line n p ≡ true → (1 ≤ p) × (p ≤ n)
line_is n p e = go (eqb p 0) refl e
  where
    go : (b : Bool) → eqb p 0 ≡ b → cond b false (leb p n) ≡ true → (1 ≤ p) × (p ≤ n)
    go true z y = absurd (true≢false (sym y))
    go false z y = let w : ¬ (p ≡ 0) = eqb-false _ _ z in (omega arith, leb-true _ _ y)

is_line_lem : (n p : ℕ) → 1 ≤ p → p ≤ n → is_line n p ≡ true
is_line_lem n p h k = rw (ne_eqb p 0 (λ e. omega arith)) (le-leb p n k)

pub record Place (n r c d : ℕ) : Type 0 where
  pub row_above : 1 ≤ r
  pub row_within : r ≤ n
  pub column_above : 1 ≤ c
  pub column_within : c ≤ n
  pub square : d ≡ n * n

module _ (n r c d : ℕ) where
  pub are_place : is_place n r c d ≡ true → Place n r c d
  unfolding is_place
  are_place e = go (is_line n r) (is_line n c) (eqb d (n * n)) refl refl refl e
    where
      go : (a b s : Bool) → is_line n r ≡ a → is_line n c ≡ b → eqb d (n * n) ≡ s → (a && (b && s)) ≡ true → Place n r c d
      go false b s x y w e = absurd (true≢false (sym e))
      go true false s x y w e = absurd (true≢false (sym e))
      go true true false x y w e = absurd (true≢false (sym e))
      go true true true x y w e =
          let u = line_is n r x in
          let v = line_is n c y in
          record { row_above = u.0; row_within = u.1; column_above = v.0; column_within = v.1; square = eqb-true _ _ w }

  pub place_is : Place n r c d → is_place n r c d ≡ true
  unfolding is_place
  place_is t = rw (is_line_lem n r t.row_above t.row_within, is_line_lem n c t.column_above t.column_within, eq-eqb d (n * n) t.square)

-- ---- an entry
module _ (n r c : ℕ) (l : List Float) where
  pub entry_at : is_place n r c (length l) ≡ true → entry_of n l r c ≡ at n l r c
  unfolding entry_of
  entry_at e = rw e

pub place_within : (n r c d : ℕ) → is_place n r c d ≡ true → ((r - 1) * n + (c - 1) < d) × (1 ≤ r) × (1 ≤ c)
place_within n r c d e =
    let t = are_place n r c d e in
    let a = t.row_above in
    let b = t.row_within in
    let f = t.column_above in
    let g = t.column_within in
    (rw t.square (digits_lt {q = r - 1} {m = n} {r = c - 1} {c = n} (omega arith) (omega arith)), a, f)

pub entry_in : (n i j : ℕ) (l : List Float) → length l ≡ n * n → i < n → j < n → entry_of n l (i + 1) (j + 1) ≡ at n l (i + 1) (j + 1)
entry_in n i j l long hi hj =
    entry_at n (i + 1) (j + 1) l
    (place_is n (i + 1) (j + 1) (length l) (record {
      row_above = omega arith;
      row_within = omega arith;
      column_above = omega arith;
      column_within = omega arith;
      square = long;
    }))
