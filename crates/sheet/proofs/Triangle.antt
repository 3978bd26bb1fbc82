-- The order of the stored entries. Assumes nothing.
use Prim.Native.Nat.{ℕ, zero, suc, ◌+◌, ◌-◌, ◌*◌, ◌/◌, ◌<◌, ◌≤◌}
use mathlib.Core.Path.{◌≡◌, refl, ap, ◌∙◌}
use mathlib.Core.Bool.{Bool, true, false, cond}
use native.Mathlib.Nat.{mul-add, mul-one, suc-mul, mul_assoc, mul_comm, mul-le-mul, mul-le-mul_left, div-lt_iff_lt-mul}
use native.Mathlib.Omega.{arith}
use borrow.Author.Tests.{lt-ltb, le-ltb, ltb-true, ltb-false}
use lib.Dec.{ltb}
use Rattle.sizes.specs.Sizes.{largest_order}
use Rattle.sheet.specs.Format.{sheet_length, entries_from, next_place, entry_place, entries_to, entry_number}

-- ---- how many there are
pub closed : (i : ℕ) → 2 * entries_to i ≡ i * (i + 1)
unfolding entries_to
closed zero = refl
closed (suc i) =
    let h : 2 * entries_to i ≡ i * (i + 1) = closed i in
    let a : suc i * (suc i + 1) ≡ i * (suc i + 1) + (suc i + 1) = suc-mul i (suc i + 1) in
    let b : suc i + 1 ≡ i + 1 + 1 = omega arith in
    let c : i * (i + 1 + 1) ≡ i * (i + 1) + i * 1 = mul-add i (i + 1) 1 in
    let d : i * 1 ≡ i = mul-one i in
    let e : i * (suc i + 1) ≡ i * (i + 1) + i = ap (λ (x : ℕ). i * x) b ∙ c ∙ ap (λ (x : ℕ). i * (i + 1) + x) d in
    omega arith

pub length_is_lem : (w n : ℕ) → sheet_length w n ≡ entries_from w n + 8 * entries_to n
length_is_lem w n =
    let h = closed n in
    let a : 4 * n * (n + 1) ≡ 4 * (n * (n + 1)) = mul_assoc 4 n (n + 1) in
    omega arith

pub few_entries : (n : ℕ) → n ≤ largest_order → (n * n ≤ largest_order * largest_order) × (4 * n * (n + 1) ≤ 4 * largest_order * (largest_order + 1))
few_entries n h =
    let a : 4 * n ≤ 4 * largest_order = omega arith in
    let b : n + 1 ≤ largest_order + 1 = omega arith in
    (mul-le-mul h h, mul-le-mul a b)

pub few_codes : (w n : ℕ) → w ≤ 2 → n ≤ largest_order → w * n ≤ 2 * largest_order
few_codes w n h k = mul-le-mul h k

pub ruleset small_lengths = (few_entries, few_codes)

-- code k ends before the entries begin
pub code_ends : (w n k : ℕ) → k < n → 2 + w * k + w ≤ entries_from w n
code_ends w n k h =
    let next : k + 1 ≤ n = omega arith in
    let a : w * (k + 1) ≤ w * n = mul-le-mul_left w next in
    let b : w * (k + 1) ≡ w * k + w = mul-add w k 1 ∙ ap (λ (x : ℕ). w * k + x) (mul-one w) in
    omega arith

-- the number of the code that a byte before the entries is of
pub code_number : (w n k : ℕ) → 1 ≤ w → k < w * n → k / w < n
code_number w n k h o = (div-lt_iff_lt-mul h).1 (let e = mul_comm w n in omega arith)

row_length : (i : ℕ) → 1 ≤ i → entries_to i ≡ entries_to (i - 1) + i
row_length zero h = absurd (omega arith)
row_length (suc i) h = let e : suc i - 1 ≡ i = omega arith in rw e (unfold entries_to in refl)

-- the entries before row r
pub half_of : (r : ℕ) → 1 ≤ r → r * (r - 1) / 2 ≡ entries_to (r - 1)
half_of r h =
    let e = closed (r - 1) in
    let a : r - 1 + 1 ≡ r = omega arith in
    let b : (r - 1) * (r - 1 + 1) ≡ r * (r - 1) = ap (λ (x : ℕ). (r - 1) * x) a ∙ mul_comm (r - 1) r in
    omega arith

pub row_more : (i : ℕ) → entries_to (i + 1) ≡ entries_to i + (i + 1)
row_more i = let e : i + 1 ≡ suc i = omega arith in rw e (unfold entries_to in refl)

-- ---- an offset that goes from entry to entry
pub offset_start : (w n : ℕ) → 2 + w * n ≡ entries_from w n + 8 * entries_to 0
unfolding entries_to
offset_start w n = omega arith

pub offset_row : (w n i : ℕ) {o o' : ℕ} → o ≡ entries_from w n + 8 * entries_to i → o' ≡ o + 8 * (i + 1) → o' ≡ entries_from w n + 8 * entries_to (i + 1)
offset_row w n i e f = let z = row_more i in omega arith

pub rows_below : (i n : ℕ) → i < n → entries_to i + suc i ≤ entries_to n
unfolding entries_to
rows_below i zero h = absurd (omega arith)
rows_below i (suc n) h = go (ltb i n) refl (λ b. rows_below i n b)
  where
    go : (b : Bool) → ltb i n ≡ b → (i < n → entries_to i + suc i ≤ entries_to n) → entries_to i + suc i ≤ entries_to n + suc n
    go true e f = let w = f (ltb-true _ _ e) in omega arith
    go false e f = let w : n ≤ i = ltb-false _ _ e in let z : i ≡ n = omega arith in rw z (omega arith)

-- there is room for the entry in row i and column j, from 0
pub entry_within : (w n i j : ℕ) → j ≤ i → i < n → {o : ℕ} → o ≡ entries_from w n + 8 * (entries_to i + j) → o + 8 ≤ sheet_length w n
entry_within w n i j ji below e = let z = rows_below i n below in let l = length_is_lem w n in omega arith

rows_grow : (a b : ℕ) → a ≤ b → entries_to a ≤ entries_to b
rows_grow a b h = go (ltb a b) refl
  where
    go : (z : Bool) → ltb a b ≡ z → entries_to a ≤ entries_to b
    go true e = let w = rows_below a b (ltb-true _ _ e) in omega arith
    go false e = let w : b ≤ a = ltb-false _ _ e in let d : a ≡ b = omega arith in rw d (omega arith)

pub number_below : (n r c : ℕ) → 1 ≤ c → c ≤ r → r ≤ n → entry_number r c < entries_to n
unfolding entry_number
number_below n r c h k o = let w = rows_below (r - 1) n (omega arith) in omega arith

-- ---- places and numbers
in_row : (i : ℕ) → entry_place (entries_to i) ≡ (suc i, 1) → (j : ℕ) → j ≤ i → entry_place (entries_to i + j) ≡ (suc i, suc j)
unfolding entry_place
in_row i s zero h = let e : entries_to i + 0 ≡ entries_to i = omega arith in rw e s
in_row i s (suc j) h =
    let e : entries_to i + suc j ≡ suc (entries_to i + j) = omega arith in
    rw (e, in_row i s j (omega arith), lt-ltb (suc j) (suc i) (omega arith))

row_start_lem : (i : ℕ) → entry_place (entries_to i) ≡ (suc i, 1)
unfolding entry_place entries_to
row_start_lem zero = refl
row_start_lem (suc i) =
    let e : entries_to i + suc i ≡ suc (entries_to i + i) = omega arith in
    rw (e, in_row i (row_start_lem i) i (omega arith), le-ltb (suc i) (suc i) (omega arith))

-- rows and columns from 0
pub place_at : (i j : ℕ) → j ≤ i → entry_place (entries_to i + j) ≡ (suc i, suc j)
place_at i j h = in_row i (row_start_lem i) j h

-- each number is that of its place
pub record Numbered (e : ℕ) (p : ℕ × ℕ) : Type 0 where
  pub above : 1 ≤ p.1
  pub within : p.1 ≤ p.0
  pub number : entry_number p.0 p.1 ≡ e

same_row : (i j e : ℕ) → 1 ≤ j → entry_number i j ≡ e → entry_number i (suc j) ≡ suc e
unfolding entry_number
same_row i j e h z = omega arith

new_row : (i e : ℕ) → 1 ≤ i → entry_number i i ≡ e → entry_number (suc i) 1 ≡ suc e
unfolding entry_number
new_row i e h z =
    let a : suc i - 1 ≡ i = omega arith in
    let x : entries_to i ≡ entries_to (i - 1) + i = row_length i h in
    rw a (omega arith)

number_next : (e : ℕ) (p : ℕ × ℕ) → Numbered e p → Numbered (suc e) (next_place p)
number_next e p h = go (ltb p.1 p.0) refl
  where
    go : (b : Bool) → ltb p.1 p.0 ≡ b → Numbered (suc e) (cond b (p.0, suc p.1) (suc p.0, 1))
    go true z =
        let w : p.1 < p.0 = ltb-true _ _ z in
        record { above = omega arith; within = omega arith; number = same_row p.0 p.1 e h.above h.number }
    go false z =
        let w : p.0 ≤ p.1 = ltb-false _ _ z in
        let u = h.above in
        let o = h.within in
        let d : p.1 ≡ p.0 = omega arith in
        record { above = omega arith; within = omega arith; number = new_row p.0 e (omega arith) (rw d at h.number) }

pub numbered : (e : ℕ) → Numbered e (entry_place e)
unfolding entry_place
numbered zero = unfold entry_number entries_to in (record { above = omega arith; within = omega arith; number = refl })
numbered (suc e) = number_next e (entry_place e) (numbered e)

pub place_of_number : (i j : ℕ) → 1 ≤ j → j ≤ i → entry_place (entry_number i j) ≡ (i, j)
unfolding entry_number
place_of_number i j h k =
    let a : suc (i - 1) ≡ i = omega arith in
    let b : suc (j - 1) ≡ j = omega arith in
    place_at (i - 1) (j - 1) (omega arith) ∙ rw (a, b)

-- the first entries stand in the first rows
pub place_within : (n e : ℕ) → e < entries_to n → (entry_place e).0 ≤ n
place_within n e h = go (ltb n (entry_place e).0) refl
  where
    p : Numbered e (entry_place e)
    p = numbered e

    go : (b : Bool) → ltb n (entry_place e).0 ≡ b → (entry_place e).0 ≤ n
    go true z =
        let w : n < (entry_place e).0 = ltb-true _ _ z in
        let u : entries_to n ≤ entries_to ((entry_place e).0 - 1) = rows_grow n ((entry_place e).0 - 1) (omega arith) in
        let v : entries_to ((entry_place e).0 - 1) + ((entry_place e).1 - 1) ≡ e = unfold entry_number in p.number in
        absurd (omega arith)
    go false z = ltb-false _ _ z
