-- A search through the columns 1 to m r of the rows r from 1 to n stops at the first place that fails its test. Assumes nothing.
use Prim.Native.Nat.{ℕ, zero, suc, ◌≤◌, ◌<◌}
use mathlib.Core.Path.{◌≡◌, refl}
use mathlib.Core.Bool.{Bool, true, false, cond}
use mathlib.Core.List.{List, [], ◌∷◌}
use mathlib.Core.Logic.{◌⊎◌, inl, inr, ⊎_elim}
use native.Mathlib.Omega.{arith}
use native.Mathlib.Nat.{le_of_suc-le-suc, eq-or-lt_of_le}
use Rattle.refusal.specs.Answers.{Answered, given, refused, or_else, first}

abbrev Line : ℕ → ℕ → Type 0
Line n k = (1 ≤ k) × (k ≤ n)

-- ---- what is seen at one place, or in a search
pub data Seen (Fine : Type 0) (Bad : Answered Unit → Type 0) : Answered Unit → Type 0 where
  fine : Fine → Seen Fine Bad (given tt)
  bad : {k : ℕ} {values : List ℕ} → Bad (refused k values) → Seen Fine Bad (refused k values)

-- of 1 to n, the first that is bad
record First (n : ℕ) (Fine : ℕ → Type 0) (Bad : ℕ → Answered Unit → Type 0) (t : Answered Unit) : Type 0 where
  number : ℕ
  line : Line n number
  is_bad : Bad number t
  fine_before : (j : ℕ) → 1 ≤ j → j < number → Fine j

search : (n : ℕ) (Fine : ℕ → Type 0) (Bad : ℕ → Answered Unit → Type 0) {g : ℕ → Answered Unit} → ((i : ℕ) → Line n i → Seen (Fine i) (Bad i) (g i))
    → Seen ((i : ℕ) → Line n i → Fine i) (First n Fine Bad) (first n g)
unfolding first
search zero Fine Bad h = fine (λ i l. absurd (omega arith))
search (suc n) Fine Bad h = go (search n Fine Bad (λ i l. h i (l.0, omega (arith, l.1)))) (h (suc n) (omega arith, omega arith))
  where
    go : {t u : Answered Unit} → Seen ((i : ℕ) → Line n i → Fine i) (First n Fine Bad) t → Seen (Fine (suc n)) (Bad (suc n)) u
        → Seen ((i : ℕ) → Line (suc n) i → Fine i) (First (suc n) Fine Bad) (or_else t u)
    go (fine f) (fine x) = fine (λ i l. ⊎_elim (λ e. rw e x) (λ o. f i (l.0, le_of_suc-le-suc o)) (eq-or-lt_of_le l.1))
    go (fine f) (bad b) = bad (record { number = suc n; line = (omega arith, omega arith); is_bad = b; fine_before = λ j a h. f j (a, omega arith) })
    go (bad w) y = bad (record { number = w.number; line = (w.line.0, omega (arith, w.line.1)); is_bad = w.is_bad; fine_before = w.fine_before })

-- ---- of the places that are there, all are good, or the refusal carries the row and the column of the first that is not
pub data Searched (There : ℕ → ℕ → Type 0) (good : ℕ → ℕ → Bool) (number : ℕ) : Answered Unit → Type 0 where
  all_good : ((i j : ℕ) → There i j → good i j ≡ true) → Searched There good number (given tt)
  first_bad : (r c : ℕ) → There r c → good r c ≡ false → ((i j : ℕ) → There i j → (i < r) ⊎ ((i ≡ r) × (j < c)) → good i j ≡ true)
      → Searched There good number (refused number (r ∷ c ∷ []))

module _ (There : ℕ → ℕ → Type 0) (good : ℕ → ℕ → Bool) (number : ℕ) where
  abbrev Passes : ℕ → ℕ → Type 0
  Passes r c = There r c → good r c ≡ true

  abbrev Fails : ℕ → ℕ → Answered Unit → Type 0
  Fails r c t = (There r c) × (good r c ≡ false) × (t ≡ refused number (r ∷ c ∷ []))

  abbrev pub AtPlace : ℕ → ℕ → Answered Unit → Type 0
  AtPlace r c t = Seen (Passes r c) (Fails r c) t

  pub searched : (n : ℕ) (m : ℕ → ℕ) {g : ℕ → ℕ → Answered Unit} → ((r c : ℕ) → There r c → Line n r × Line (m r) c)
      → ((r c : ℕ) → Line n r → Line (m r) c → AtPlace r c (g r c)) → Searched There good number (first n (λ r. first (m r) (g r)))
  searched n m inside h =
      go (search n (λ r. (c : ℕ) → Line (m r) c → Passes r c) (λ r. First (m r) (Passes r) (Fails r)) (λ r l. search (m r) (Passes r) (Fails r) (λ c. h r c l)))
    where
      before : {t : Answered Unit} (row : First n (λ r. (c : ℕ) → Line (m r) c → Passes r c) (λ r. First (m r) (Passes r) (Fails r)) t) (i j : ℕ)
          → There i j → (i < row.number) ⊎ ((i ≡ row.number) × (j < row.is_bad.number)) → good i j ≡ true
      before row i j y (inl b) = row.fine_before i (inside i j y).0.0 b j (inside i j y).1 y
      before row i j y (inr b) = rw b.0 (row.is_bad.fine_before j (inside i j y).1.0 b.1 (rw b.0 at y))

      go : {t : Answered Unit}
          → Seen ((r : ℕ) → Line n r → (c : ℕ) → Line (m r) c → Passes r c)
          (First n (λ r. (c : ℕ) → Line (m r) c → Passes r c) (λ r. First (m r) (Passes r) (Fails r))) t
          → Searched There good number t
      go (fine f) = all_good (λ i j y. f i (inside i j y).0 j (inside i j y).1 y)
      go (bad row) =
          let column = row.is_bad in
          rw column.is_bad.2 (first_bad row.number column.number column.is_bad.0 column.is_bad.1 (before row))

  -- one place, by its test
  pub place : (r c : ℕ) → There r c → (b : Bool) → good r c ≡ b → AtPlace r c (cond b (given tt) (refused number (r ∷ c ∷ [])))
  place r c y true e = fine (λ z. e)
  place r c y false e = bad (y, e, refl)
