-- A list written over from the front. Assumes nothing.
use Prim.Native.Nat.{ℕ, zero, suc, ◌<◌}
use mathlib.Core.Path.{◌≡◌, refl, ap}
use mathlib.Core.List.{List, [], ◌∷◌}
use native.Mathlib.Omega.{arith}
use native.Mathlib.Nat.{le_of_suc-le-suc}
use lib.ListN.{length, get_or, set, drop}
use Rattle.lists.specs.Over.{over}

-- It keeps its length.
pub length_over : {A : Type 0} (m : ℕ) (f : ℕ → A) (l : List A) → length (over m f l) ≡ length l
length_over zero f l = refl
length_over (suc m) f [] = refl
length_over (suc m) f (x ∷ l) = ap suc (length_over m (λ k. f (suc k)) l)

-- One store more is one element more.
pub over_next : {A : Type 0} (m : ℕ) (f : ℕ → A) (l : List A) → set (over m f l) m (f m) ≡ over (suc m) f l
over_next zero f [] = refl
over_next zero f (x ∷ l) = refl
over_next (suc m) f [] = refl
over_next {A} (suc m) f (x ∷ l) = ap {B = List A} (λ t. f 0 ∷ t) (over_next m (λ k. f (suc k)) l)

-- The elements written over.
pub get_d_over : {A : Type 0} (m : ℕ) (f : ℕ → A) (l : List A) (k : ℕ) (d : A) → k < m → k < length l → get_or (over m f l) k d ≡ f k
get_d_over zero f l k d h o = absurd (omega arith)
get_d_over (suc m) f [] k d h o = absurd (omega arith)
get_d_over (suc m) f (x ∷ l) zero d h o = refl
get_d_over (suc m) f (x ∷ l) (suc k) d h o = get_d_over m (λ k. f (suc k)) l k d (le_of_suc-le-suc h) (le_of_suc-le-suc o)

-- The elements after them.
pub drop_over : {A : Type 0} (m : ℕ) (f : ℕ → A) (l : List A) → drop m (over m f l) ≡ drop m l
drop_over zero f l = refl
drop_over (suc m) f [] = refl
drop_over (suc m) f (x ∷ l) = drop_over m (λ k. f (suc k)) l
