-- A list whose elements a loop replaces from the first on. Assumes nothing.
use Prim.Native.Nat.{ℕ, ◌+◌, ◌-◌, ◌<◌, ◌≤◌}
use mathlib.Core.Path.{◌≡◌, refl, sym, ap, ◌∙◌}
use mathlib.Core.Bool.{Bool, true, false}
use mathlib.Core.List.{List, ◌++◌}
use native.Mathlib.Omega.{arith}
use borrow.Author.Tests.{eqb-true, eqb-false, ltb-true, ltb-false}
use lib.Dec.{eqb, ltb}
use lib.ListN.{length, get_or, set, take, drop, length-set, take-append-drop, length-drop}
use lib.Seq.{get_or-set_same, get_or-set_other, length-take-le, get_or-take, get_or-drop, ext_get_or}
use Rattle.lists.specs.Tabulate.{tabulate}
use Rattle.lists.proofs.Tabulated.{tabulated}

-- what holds below k, and at k
up_to : (Q : ℕ → Type 0) (k i : ℕ) → i < k + 1 → (i < k → Q i) → Q k → Q i
up_to Q k i o h e = go (eqb i k) refl
  where
    go : (b : Bool) → eqb i k ≡ b → Q i
    go true y = let w : i ≡ k = eqb-true _ _ y in rw w e
    go false y = let w : ¬ (i ≡ k) = eqb-false _ _ y in h (omega arith)

-- The first k elements are what the formula says, the others are those of the old list; z stands for an element that there is not.
pub record Replaced {A : Type 0} (z : A) (f : ℕ → A) (old : List A) (k : ℕ) (l : List A) : Type 0 where
  pub long : length l ≡ length old
  pub done : (i : ℕ) → i < k → get_or l i z ≡ f i
  pub kept : (i : ℕ) → k ≤ i → get_or l i z ≡ get_or old i z

module _ {A : Type 0} {z : A} {f : ℕ → A} {old : List A} where
  pub replaced_none : Replaced z f old 0 old
  replaced_none = record { long = refl; done = λ i h. absurd (omega arith); kept = λ i h. refl }

  pub replaced_next : (k : ℕ) (l : List A) (x : A) → Replaced z f old k l → k < length old → x ≡ f k → Replaced z f old (k + 1) (set l k x)
  replaced_next k l x h below e =
      record {
        long = length-set l k x ∙ h.long;
        done = λ i b. up_to (λ i. get_or (set l k x) i z ≡ f i) k i b (λ o. other i (λ y. omega arith) ∙ h.done i o) (get_or-set_same l k x z inside ∙ e);
        kept = λ i o. other i (λ y. omega arith) ∙ h.kept i (omega arith);
      }
    where
      inside : k < length l
      inside = let w = h.long in omega arith

      other : (i : ℕ) → ¬ (i ≡ k) → get_or (set l k x) i z ≡ get_or l i z
      other i n = get_or-set_other l k i x z n

  -- an element that stays
  pub replaced_skip : (k : ℕ) (l : List A) → Replaced z f old k l → get_or old k z ≡ f k → Replaced z f old (k + 1) l
  replaced_skip k l h e =
      record {
        long = h.long;
        done = λ i b. up_to (λ i. get_or l i z ≡ f i) k i b (h.done i) (h.kept k (omega arith) ∙ e);
        kept = λ i o. h.kept i (omega arith);
      }

  pub replaced_each : (k : ℕ) (l : List A) → Replaced z f old k l → ((i : ℕ) → k ≤ i → get_or old i z ≡ f i) → (i : ℕ) → get_or l i z ≡ f i
  replaced_each k l h rest i = go (ltb i k) refl
    where
      go : (b : Bool) → ltb i k ≡ b → get_or l i z ≡ f i
      go true y = h.done i (ltb-true _ _ y)
      go false y = let w : k ≤ i = ltb-false _ _ y in h.kept i w ∙ rest i w

  pub replaced_all : (k : ℕ) (l : List A) → Replaced z f old k l → ((i : ℕ) → k ≤ i → get_or old i z ≡ f i) → l ≡ tabulate (length old) f
  replaced_all k l h rest = tabulated (length old) f l z h.long (λ i o. replaced_each k l h rest i)

  -- a part that the formula leaves alone
  pub replaced_part : {B : Type 0} (g : A → B) (k : ℕ) (l : List A) (i : ℕ) → g (f i) ≡ g (get_or old i z) → Replaced z f old k l
      → g (get_or l i z) ≡ g (get_or old i z)
  replaced_part g k l i e h = go (ltb i k) refl
    where
      go : (b : Bool) → ltb i k ≡ b → g (get_or l i z) ≡ g (get_or old i z)
      go true y = ap g (h.done i (ltb-true _ _ y)) ∙ e
      go false y = ap g (h.kept i (ltb-false _ _ y))

  -- the new elements, and the old ones after them
  pub replaced_over : (m : ℕ) (l : List A) → Replaced z f old m l → m ≤ length old → l ≡ tabulate m f ++ drop m old
  replaced_over m l h o = sym (take-append-drop m l) ∙ ap (λ (x : List A). x ++ drop m l) front ∙ ap (λ (x : List A). tabulate m f ++ x) back
    where
      front : take m l ≡ tabulate m f
      front =
          tabulated m f (take m l) z (length-take-le m l (let w = h.long in omega arith)) (λ i b. get_or-take m l i z b ∙ h.done i b)

      back : drop m l ≡ drop m old
      back =
          ext_get_or z (drop m l) (drop m old) (length-drop m l ∙ ap (λ (n : ℕ). n - m) h.long ∙ sym (length-drop m old))
          (λ i b. get_or-drop m l i z ∙ h.kept (m + i) (omega arith) ∙ sym (get_or-drop m old i z))
