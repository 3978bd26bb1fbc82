-- What a processor makes of its pair, by what it turns by. Assumes nothing.
use Prim.Native.Nat.{ℕ}
use mathlib.Core.Path.{◌≡◌, sym, ap}
use Rattle.rotation.specs.declared.Parameters.{Parameters}
use Rattle.matrix_turns.specs.Turns.{parameters_of}
use Rattle.runs.specs.State.{State}
use Rattle.runs.specs.Blocks.{ruled}
use Rattle.plain_pair.specs.Pair.{state_turned, pair_rotated}

pub rotated_by : (n i p q : ℕ) (X : State) {P : Parameters} → P ≡ ruled n i (parameters_of p q X.matrix) → pair_rotated n i p q X ≡ state_turned P p q X
unfolding pair_rotated
rotated_by n i p q X e = ap (λ (P : Parameters). state_turned P p q X) (sym e)
