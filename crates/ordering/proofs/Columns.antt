-- One side of the registers of N processors, as a list. Assumes nothing.
use Prim.Native.Nat.{ℕ, ◌+◌, ◌≤◌, ◌<◌}
use mathlib.Core.Path.{◌≡◌, refl, sym, ap, ◌∙◌}
use mathlib.Core.Bool.{Bool, true, false, cond}
use mathlib.Core.List.{List}
use native.Mathlib.Omega.{arith}
use borrow.Author.Tests.{ltb-true, ltb-false, lt-ltb, le-ltb}
use lib.Dec.{ltb}
use lib.ListN.{length, get_or, set, replicate, get_or-eq_default}
use Rattle.lists.specs.Tabulate.{tabulate}
use Rattle.lists.proofs.Tabulated.{length_tabulate, get_d_tabulate, tabulate_ext, set_tabulate}
use Rattle.systolic.specs.Slots.{left, right, Slot, slot}
use Rattle.ordering.specs.declared.Registers.{Registers}
use Rattle.ordering.specs.Registers.{column, registers_of}
use Rattle.sizes.specs.Sizes.{most_processors}
use Rattle.ordering.specs.Pairs.{no_registers}

pub column_at : (N : ℕ) (f : ℕ → ℕ) (k : ℕ) → k < N → N ≤ most_processors → get_or (column N f) k 0 ≡ f k
unfolding column
column_at N f k l h = get_d_tabulate most_processors (λ k. cond (ltb k N) (f k) 0) k 0 (omega arith) ∙ ap (λ (b : Bool). cond b (f k) 0) (lt-ltb k N l)

column_zero : (N : ℕ) (f : ℕ → ℕ) (k : ℕ) → N ≤ k → k < most_processors → get_or (column N f) k 0 ≡ 0
unfolding column
column_zero N f k l h = get_d_tabulate most_processors (λ k. cond (ltb k N) (f k) 0) k 0 h ∙ ap (λ (b : Bool). cond b (f k) 0) (le-ltb k N l)

-- above the last processor, in the list or beyond its end
pub column_above : (N : ℕ) (f : ℕ → ℕ) (k : ℕ) → N ≤ k → get_or (column N f) k 0 ≡ 0
column_above N f k h = go (ltb k most_processors) refl
  where
    long : length (column N f) ≡ most_processors
    long = unfold column in (length_tabulate most_processors _)

    go : (b : Bool) → ltb k most_processors ≡ b → get_or (column N f) k 0 ≡ 0
    go true e = column_zero N f k h (ltb-true k most_processors e)
    go false e = get_or-eq_default (column N f) 0 (rw long (ltb-false k most_processors e))

pub column_ext : (N : ℕ) (f g : ℕ → ℕ) → ((k : ℕ) → k < N → f k ≡ g k) → column N f ≡ column N g
unfolding column
column_ext N f g e = tabulate_ext most_processors _ _ (λ k _. go k (ltb k N) refl)
  where
    go : (k : ℕ) (b : Bool) → ltb k N ≡ b → cond b (f k) 0 ≡ cond b (g k) 0
    go k true z = e k (ltb-true _ _ z)
    go k false z = refl

-- no processor yet, and one more
pub column_none : (f : ℕ → ℕ) → replicate most_processors 0 ≡ column 0 f
unfolding column tabulate
column_none f = refl

pub column_next : (xs : List ℕ) (N : ℕ) (f : ℕ → ℕ) (v : ℕ) → xs ≡ column N f → N < most_processors → v ≡ f N → set xs N v ≡ column (N + 1) f
unfolding column
column_next xs N f v z l e =
    rw z (set_tabulate most_processors _ _ N v l (e ∙ sym (ap (λ (b : Bool). cond b (f N) 0) (lt-ltb N (N + 1) (omega arith)))) (λ i _ n. other i n))
  where
    other : (i : ℕ) → ¬ (i ≡ N) → cond (ltb i N) (f i) 0 ≡ cond (ltb i (N + 1)) (f i) 0
    other i n = go (ltb i N) refl
      where
        go : (b : Bool) → ltb i N ≡ b → cond b (f i) 0 ≡ cond (ltb i (N + 1)) (f i) 0
        go true z = let w : i < N = ltb-true _ _ z in sym (ap (λ (b : Bool). cond b (f i) 0) (lt-ltb i (N + 1) (omega arith)))
        go false z = let w : N ≤ i = ltb-false _ _ z in sym (ap (λ (b : Bool). cond b (f i) 0) (le-ltb i (N + 1) (omega arith)))

-- two columns are the registers that they tabulate
pub registers_are : {ls rs : List ℕ} (N : ℕ) (L : Slot → ℕ) → ls ≡ column N (λ i. L (slot i left)) → rs ≡ column N (λ i. L (slot i right))
    → ◌≡◌ {A = Registers} (record { left = ls; right = rs }) (registers_of N L)
unfolding registers_of
registers_are N L e f = rw (e, f)

pub none_are : ◌≡◌ {A = Registers} (record { left = replicate most_processors 0; right = replicate most_processors 0 }) no_registers
unfolding no_registers
none_are = registers_are 0 (λ u. 0) (column_none _) (column_none _)

-- the registers of one processor more
pub registers_next : (ls rs : List ℕ) (k : ℕ) (L : Slot → ℕ) (x y : ℕ) → ◌≡◌ {A = Registers} (record { left = ls; right = rs }) (registers_of k L)
    → k < most_processors → x ≡ L (slot k left) → y ≡ L (slot k right)
    → ◌≡◌ {A = Registers} (record { left = set ls k x; right = set rs k y }) (registers_of (k + 1) L)
unfolding registers_of
registers_next ls rs k L x y e l a b =
    registers_are (k + 1) L (column_next ls k _ x (ap (λ (r : Registers). r.left) e) l a) (column_next rs k _ y (ap (λ (r : Registers). r.right) e) l b)
