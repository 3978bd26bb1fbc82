-- What each tile holds after any number of ticks, and when it is marked. Assumes nothing.
use Prim.Native.Nat.{ℕ, zero, suc, ◌+◌, ◌-◌, ◌*◌, ◌/◌, ◌≤◌, ◌<◌}
use mathlib.Core.Path.{◌≡◌, refl, sym, ◌∙◌, ap}
use mathlib.Core.Logic.{◌↔◌}
use mathlib.Core.Bool.{Bool, true, false, cond}
use native.Mathlib.Omega.{arith}
use borrow.Author.Tests.{ltb-true, ltb-false, lt-ltb}
use lib.Dec.{ltb}
use Rattle.systolic.specs.Synchronous.{Operations, blocks_at, rotated_at, kept_at}
use Rattle.systolic.specs.Tiles.{distance, Tile, idle, action, action_at, new_tile, tick_tile}
use Rattle.systolic.specs.Arrays.{tick, array_after}
use Rattle.lists.proofs.Bounded.{up_to, or_false, false_or}
use Rattle.systolic.proofs.Skew.{all_known}

module _ {X H W D : Type 0} (S : Operations X H W D) (m K : ℕ) where
  -- ---- the cells: the start, those rotated in step k, or the final ones
  pub cells_before : (T i j : ℕ) → i ≤ m → j ≤ m → T < distance i j → (array_after S m K (suc T) i j).cells ≡ S.initial i j
  cells_before T i j p q l = (all_known S m K (suc T) i j p q).before l

  pub cells_during : (T k i j : ℕ) → i ≤ m → j ≤ m → distance i j ≤ T → T < distance i j + 3 * K → k ≡ (T - distance i j) / 3
      → (array_after S m K (suc T) i j).cells ≡ rotated_at S m k i j
  cells_during T k i j p q l u e = (all_known S m K (suc T) i j p q).during k (omega arith) (omega arith) (omega arith)

  pub cells_after_lem : (T i j : ℕ) → i ≤ m → j ≤ m → distance i j + 3 * K ≤ T → (array_after S m K (suc T) i j).cells ≡ blocks_at S m K i j
  cells_after_lem T i j p q l = (all_known S m K (suc T) i j p q).after (omega arith)

  -- after the last tick, 3K + N - 1, with N = m + 1
  pub cells_end : (i j : ℕ) → i ≤ m → j ≤ m → (array_after S m K (3 * K + suc m) i j).cells ≡ blocks_at S m K i j
  cells_end i j p q = (all_known S m K (3 * K + suc m) i j p q).after (omega arith)

  -- what a diagonal tile keeps once it has made k rotations and no more
  pub kept_turned : (t k i : ℕ) → i ≤ m → k ≤ K → 3 * k < t + 3 → (k < K → t ≤ 3 * k) → (array_after S m K t i i).kept ≡ kept_at S m k i
  kept_turned t k i p l x y = (all_known S m K t i i p p).kept refl k l x y

  marks : (t i j : ℕ) → (array_after S m K t i j).mark ≡ false → (T : ℕ) → T < t → S.fails (array_after S m K (suc T) i j).cells ≡ false
  unfolding array_after tick tick_tile new_tile
  marks zero i j e T l = absurd (omega arith)
  marks (suc t) i j e T l =
      let w : ((array_after S m K t i j).mark ≡ false) × (S.fails (array_after S m K (suc t) i j).cells ≡ false)
      = or_false (array_after S m K t i j).mark (S.fails (array_after S m K (suc t) i j).cells) e in
      up_to (λ n. S.fails (array_after S m K (suc n) i j).cells ≡ false) t T l (marks t i j w.0 T) w.1

  unmarked : (t i j : ℕ) → ((T : ℕ) → T < t → S.fails (array_after S m K (suc T) i j).cells ≡ false) → (array_after S m K t i j).mark ≡ false
  unfolding array_after tick tick_tile new_tile
  unmarked zero i j f = refl
  unmarked (suc t) i j f = false_or _ _ (unmarked t i j (λ T l. f T (omega arith))) (f t (omega arith))

  -- ---- the mark: no cell that the tile held at the end of a tick was bad
  pub record Fine (i j : ℕ) : Type 0 where
    pub start : 0 < distance i j → S.fails (S.initial i j) ≡ false
    pub turns : (k : ℕ) → k < K → S.fails (rotated_at S m k i j) ≡ false
    pub end : S.fails (blocks_at S m K i j) ≡ false

  unmarked_fine : (i j : ℕ) → i ≤ m → j ≤ m → (array_after S m K (3 * K + suc m) i j).mark ≡ false → Fine i j
  unmarked_fine i j p q e =
      record {
        start = λ z. ap S.fails (sym (cells_before 0 i j p q z)) ∙ marks _ i j e 0 (omega arith);
        turns = λ k l.
            ap S.fails (sym (cells_during (distance i j + 3 * k) k i j p q (omega arith) (omega arith) (omega arith)))
            ∙ marks _ i j e (distance i j + 3 * k) (omega arith);
        end = ap S.fails (sym (cells_after_lem (3 * K + m) i j p q (omega arith))) ∙ marks _ i j e (3 * K + m) (omega arith);
      }

  fine_unmarked : (i j : ℕ) → i ≤ m → j ≤ m → Fine i j → (array_after S m K (3 * K + suc m) i j).mark ≡ false
  fine_unmarked i j p q f = unmarked (3 * K + suc m) i j (λ T l. go T (ltb T (distance i j)) (ltb T (distance i j + 3 * K)) refl refl)
    where
      go : (T : ℕ) (b c : Bool) → ltb T (distance i j) ≡ b → ltb T (distance i j + 3 * K) ≡ c → S.fails (array_after S m K (suc T) i j).cells ≡ false
      go T true c e e' =
          let w : T < distance i j = ltb-true _ _ e in ap S.fails (cells_before T i j p q w) ∙ f.start (omega arith)
      go T false true e e' =
          let w : distance i j ≤ T = ltb-false _ _ e in
          let w' : T < distance i j + 3 * K = ltb-true _ _ e' in
          ap S.fails (cells_during T ((T - distance i j) / 3) i j p q w w' refl) ∙ f.turns ((T - distance i j) / 3) (omega arith)
      go T false false e e' =
          let w : distance i j + 3 * K ≤ T = ltb-false _ _ e' in ap S.fails (cells_after_lem T i j p q w) ∙ f.end

  pub marks_fine : ((i j : ℕ) → i ≤ m → j ≤ m → (array_after S m K (3 * K + suc m) i j).mark ≡ false)
      ↔ ((i j : ℕ) → i ≤ m → j ≤ m → Fine i j)
  marks_fine = (λ f i j p q. unmarked_fine i j p q (f i j p q), λ f i j p q. fine_unmarked i j p q (f i j p q))

-- ---- a run of fewer steps makes the same ticks until its diagonal tiles stop
same_action : (K L δ t : ℕ) → t < 3 * K → K ≤ L → action_at K δ t ≡ action_at L δ t
unfolding action_at action
same_action K L δ t l o = go (ltb t δ)
  where
    go : (b : Bool) → cond b idle (action K (t - δ)) ≡ cond b idle (action L (t - δ))
    go true = refl
    go false = let a : (t - δ) / 3 < K = omega arith in let b : (t - δ) / 3 < L = omega arith in rw (lt-ltb _ _ a, lt-ltb _ _ b)

pub fewer_steps : {X H W D : Type 0} (S : Operations X H W D) (m K L t : ℕ) → t < 3 * K → K ≤ L → (A : ℕ → ℕ → Tile X H W D) (i j : ℕ)
    → tick S m K t A i j ≡ tick S m L t A i j
unfolding tick tick_tile
fewer_steps S m K L t l o A i j = rw (same_action K L (distance i j) t l o)
