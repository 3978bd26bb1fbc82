-- The turns of matrices with the same entries. Assumes nothing.
use Prim.Native.Nat.{ℕ}
use lib.Ieee.{Float}
use Rattle.rotation.specs.declared.Parameters.{Parameters}
use Rattle.matrix.proofs.SameEntries.{Line, Same}
use Rattle.matrix_turns.specs.Turns.{row_turn, column_turn, column_turn_all}

module _ (n : ℕ) (P : Parameters) (p q : ℕ) (hp : Line n p) (hq : Line n q) where
  pub rows_same : (A B : ℕ → ℕ → Float) → Same n A B → Same n (row_turn P p q A) (row_turn P p q B)
  unfolding row_turn
  rows_same A B h r c hr hc = rw (h r c hr hc, h p c hp hc, h q c hq hc)

  pub columns_same : (A B : ℕ → ℕ → Float) → Same n A B → Same n (column_turn P p q A) (column_turn P p q B)
  unfolding column_turn
  columns_same A B h r c hr hc = rw (h r c hr hc, h r p hr hp, h r q hr hq)

  pub all_columns_same : (A B : ℕ → ℕ → Float) → Same n A B → Same n (column_turn_all P p q A) (column_turn_all P p q B)
  unfolding column_turn_all
  all_columns_same A B h r c hr hc = rw (h r c hr hc, h r p hr hp, h r q hr hq)
