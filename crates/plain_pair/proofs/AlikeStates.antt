-- States with the same entries at the lines 1 to n, and the lists that hold a state. Assumes nothing.
use Prim.Native.Nat.{ℕ, ◌*◌}
use mathlib.Core.Path.{◌≡◌, sym, ap, ◌∙◌}
use mathlib.Core.List.{List}
use mathlib.Core.Logic.{◌≢◌}
use native.Mathlib.Omega.{arith}
use lib.ListN.{length}
use lib.Ieee.{Float}
use Rattle.systolic.specs.Blocks.{Block}
use Rattle.systolic.specs.Sequential.{pair_block, place}
use Rattle.rotation.specs.declared.Parameters.{Parameters}
use Rattle.rotation.specs.declared.Parameters.TheVariants.{Still}
use Rattle.matrix.specs.Matrix.{at}
use Rattle.matrix.specs.Transposed.{transposed}
use Rattle.matrix.proofs.Flat.{flat_length}
use Rattle.matrix.proofs.SameEntries.{Line, Same, flat_same, flat_again, read_again}
use Rattle.matrix_turns.specs.Turns.{parameters_of}
use Rattle.matrix_turns.proofs.SameTurns.{rows_same, columns_same, all_columns_same}
use Rattle.matrix_turns.proofs.StillTurns.{still_all_columns}
use Rattle.runs.specs.State.{State}
use Rattle.runs.specs.Blocks.{matrix_block}
use Rattle.plain_pair.specs.Pair.{pair_turned, state_turned, pair_rotated, state_of, Held}
use Rattle.plain_pair.proofs.TurnedEntries.{still_others}

pub record Alike (n : ℕ) (X Y : State) : Type 0 where
  pub matrices : Same n X.matrix Y.matrix
  pub eigenvectors : Same n X.vectors Y.vectors

module _ (n : ℕ) where
  pub alike_sym : {X Y : State} → Alike n X Y → Alike n Y X
  alike_sym h = record { matrices = λ r c hr hc. sym (h.matrices r c hr hc); eigenvectors = λ r c hr hc. sym (h.eigenvectors r c hr hc) }

  pub alike_trans : {X Y Z : State} → Alike n X Y → Alike n Y Z → Alike n X Z
  alike_trans h g =
      record {
        matrices = λ r c hr hc. h.matrices r c hr hc ∙ g.matrices r c hr hc;
        eigenvectors = λ r c hr hc. h.eigenvectors r c hr hc ∙ g.eigenvectors r c hr hc;
      }

  -- a still pair of line 0 and another changes no entry at the lines 1 to n
  pub still_alike : (p q : ℕ) → p ≡ 0 → p ≢ q → (X : State) → Alike n (state_turned Still p q X) X
  still_alike p q z pq X =
      record {
        matrices = λ r c hr hc. still_others p q pq X.matrix r c (λ e. omega (arith, e.0)) (λ e. omega (arith, e.1));
        eigenvectors = λ r c hr hc. still_all_columns p q X.vectors r c;
      }

module _ (n p q : ℕ) (hp : Line n p) (hq : Line n q) where
  parameters_same : (A B : ℕ → ℕ → Float) → Same n A B → parameters_of p q A ≡ parameters_of p q B
  parameters_same A B h = rw (h p p hp hp, h q q hq hq, h p q hp hq)

  block_same : (P : Parameters) (A B : ℕ → ℕ → Float) → Same n A B → matrix_block P (pair_block p q A) ≡ matrix_block P (pair_block p q B)
  unfolding matrix_block pair_block
  block_same P A B h = rw (h p p hp hp, h q q hq hq, h p q hp hq)

  place_same : (b : Block Float) (A B : ℕ → ℕ → Float) → Same n A B → Same n (place b p q A) (place b p q B)
  unfolding place
  place_same b A B h r c hr hc = rw (h r c hr hc)

  pub turned_alike : (P : Parameters) (X Y : State) → Alike n X Y → Alike n (state_turned P p q X) (state_turned P p q Y)
  unfolding pair_turned
  turned_alike P X Y h =
      record {
        matrices = rw (block_same P X.matrix Y.matrix h.matrices)
            (place_same _ _ _ (columns_same n P p q hp hq _ _ (rows_same n P p q hp hq _ _ h.matrices)));
        eigenvectors = all_columns_same n P p q hp hq _ _ h.eigenvectors;
      }

  pub pair_alike : (i : ℕ) (X Y : State) → Alike n X Y → Alike n (pair_rotated n i p q X) (pair_rotated n i p q Y)
  unfolding pair_rotated
  pair_alike i X Y h = rw (parameters_same X.matrix Y.matrix h.matrices) (turned_alike _ X Y h)

-- ---- lists that hold a state
module _ (n : ℕ) (l e : List Float) where
  pub held_itself : length l ≡ n * n → length e ≡ n * n → Held n l e (state_of n l e)
  unfolding state_of
  held_itself h k = record { matrix_held = flat_again n l h; vectors_held = flat_again n e k }

  pub held_long : (X : State) → Held n l e X → (length l ≡ n * n) × (length e ≡ n * n)
  held_long X h = (ap length h.matrix_held ∙ flat_length n _, ap length h.vectors_held ∙ flat_length n _)

  pub held_alike : (X Y : State) → Held n l e X → Alike n X Y → Held n l e Y
  held_alike X Y h a =
      record {
        matrix_held = h.matrix_held ∙ flat_same n _ _ a.matrices;
        vectors_held = h.vectors_held ∙ flat_same n _ _ (λ r c hr hc. a.eigenvectors c r hc hr);
      }

  pub read_alike : (X : State) → Held n l e X → Alike n (state_of n l e) X
  unfolding state_of
  read_alike X h =
      record {
        matrices = λ r c hr hc. ap (λ (l : List Float). at n l r c) h.matrix_held ∙ read_again n X.matrix r c hr hc;
        eigenvectors = λ r c hr hc. ap (λ (l : List Float). at n l c r) h.vectors_held ∙ read_again n (transposed X.vectors) c r hc hr;
      }
