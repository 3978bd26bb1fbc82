-- Whether a tile on the diagonal counts a turn, and the rounded pairs that these tiles count. Assumes nothing.
use Prim.Native.Nat.{ℕ, ◌+◌, ◌<◌}
use mathlib.Core.Path.{◌≡◌, refl}
use mathlib.Core.Bool.{Bool, true, false, not}
use mathlib.Core.List.{List}
use borrow.Author.Tests.{eq-eqb, ne_eqb}
use lib.Dec.{eqb}
use native.Mathlib.Numerals.{add-one}
use Rattle.lists.specs.Bounded.{any, total}
use Rattle.lists.proofs.Bounded.{any_hit}
use Rattle.tile.specs.declared.Tile.{Tile}
use Rattle.array.specs.Arrays.{tile_at}
use Rattle.array_run.specs.Advance.{none_counted}
use Rattle.array_run.specs.Results.{rounded_pairs}

module _ (l : List Tile) where
  abbrev counts : ℕ → Bool
  counts i = not (eqb (tile_at l i i).counts.turns 0)

  -- one of the first i does
  abbrev pub counted_before : ℕ → Bool
  counted_before i = any i counts

  pub counts_none : (i : ℕ) → (tile_at l i i).counts.turns ≡ 0 → counts i ≡ false
  counts_none i e = rw (eq-eqb _ 0 e)

  pub some_counted : (N i : ℕ) → i < N → ¬ ((tile_at l i i).counts.turns ≡ 0) → false ≡ none_counted N l
  unfolding none_counted
  some_counted N i b f = let e : counts i ≡ true = rw (ne_eqb _ 0 f) in rw (any_hit N counts i b e)

  pub none_counted_lem : (N i : ℕ) → counted_before i ≡ false → i ≡ N → true ≡ none_counted N l
  unfolding none_counted
  none_counted_lem N i e z = rw (← z, e)

  -- those of the first i
  abbrev pub rounded_before : ℕ → ℕ
  rounded_before i = total i (λ i. (tile_at l i i).counts.rounded)

  pub rounded_none : 0 ≡ rounded_before 0
  unfolding total
  rounded_none = refl

  pub rounded_more : (i : ℕ) {t x : ℕ} → t ≡ rounded_before i → x ≡ (tile_at l i i).counts.rounded → t + x ≡ rounded_before (i + 1)
  unfolding total
  rounded_more i e f = rw (add-one i, e, f)

  pub rounded_all : (N i : ℕ) {t : ℕ} → t ≡ rounded_before i → i ≡ N → t ≡ rounded_pairs N l
  unfolding rounded_pairs
  rounded_all N i e z = rw (← z) e
