-- The length and the elements of a list given by a formula, and when a list is one. Assumes nothing.
use Prim.Native.Nat.{ℕ, zero, suc, ◌<◌}
use mathlib.Core.Path.{◌≡◌, refl, sym, ap, ◌∙◌}
use mathlib.Core.List.{List, ◌∷◌}
use native.Mathlib.Omega.{arith}
use lib.ListN.{length, get_or, set}
use lib.Seq.{ext_get_or}
use Rattle.lists.specs.Tabulate.{tabulate}

pub length_tabulate : {A : Type 0} (n : ℕ) (f : ℕ → A) → length (tabulate n f) ≡ n
unfolding tabulate
length_tabulate zero f = refl
length_tabulate (suc n) f = ap suc (length_tabulate n (λ k. f (suc k)))

pub get_d_tabulate : {A : Type 0} (n : ℕ) (f : ℕ → A) (k : ℕ) (z : A) → k < n → get_or (tabulate n f) k z ≡ f k
unfolding tabulate
get_d_tabulate zero f k z l = absurd (omega arith)
get_d_tabulate (suc n) f zero z l = refl
get_d_tabulate (suc n) f (suc k) z l = get_d_tabulate n (λ k. f (suc k)) k z (omega arith)

-- a list of n elements, each what the formula says, is the list of the formula
pub tabulated : {A : Type 0} (n : ℕ) (f : ℕ → A) (xs : List A) (z : A) → length xs ≡ n → ((k : ℕ) → k < n → get_or xs k z ≡ f k) → xs ≡ tabulate n f
tabulated n f xs z e g =
    ext_get_or z xs (tabulate n f) (e ∙ sym (length_tabulate n f)) (λ k l. let h : k < n = omega arith in g k h ∙ sym (get_d_tabulate n f k z h))

pub tabulate_ext : {A : Type 0} (n : ℕ) (f g : ℕ → A) → ((k : ℕ) → k < n → f k ≡ g k) → tabulate n f ≡ tabulate n g
unfolding tabulate
tabulate_ext zero f g e = refl
tabulate_ext (suc n) f g e =
    ap (λ (x : _). x ∷ tabulate n (λ k. f (suc k))) (e 0 (omega arith))
    ∙ ap (λ (l : List _). g 0 ∷ l) (tabulate_ext n (λ k. f (suc k)) (λ k. g (suc k)) (λ k l. e (suc k) (omega arith)))

-- one element changed
pub set_tabulate : {A : Type 0} (n : ℕ) (f g : ℕ → A) (k : ℕ) (v : A) → k < n → v ≡ g k → ((i : ℕ) → i < n → ¬ (i ≡ k) → f i ≡ g i)
    → set (tabulate n f) k v ≡ tabulate n g
unfolding tabulate
set_tabulate zero f g k v l e o = absurd (omega arith)
set_tabulate (suc n) f g zero v l e o =
    ap (λ (x : _). x ∷ tabulate n (λ k. f (suc k))) e
    ∙ ap (λ (t : List _). g 0 ∷ t) (tabulate_ext n (λ k. f (suc k)) (λ k. g (suc k)) (λ i p. o (suc i) (omega arith) (λ z. omega arith)))
set_tabulate (suc n) f g (suc k) v l e o =
    ap (λ (x : _). x ∷ set (tabulate n (λ k. f (suc k))) k v) (o 0 (omega arith) (λ z. omega arith))
    ∙ ap (λ (t : List _). g 0 ∷ t)
    (set_tabulate n (λ k. f (suc k)) (λ k. g (suc k)) k v (omega arith) e (λ i p q. o (suc i) (omega arith) (λ z. q (omega arith))))
