-- The two lent lists of a run: what they hold, and that they are the same lists after a call. Definitions only.
use Rattle.std.specs.Prelude.{◌≡◌}
use Rattle.runs.specs.State.{State}
use Rattle.plain_pair.specs.Pair.{state_of, Held}
use Rattle.plain_run.specs.declared.sweeps.Matrices.{Matrices}

-- The state that they hold.
abbrev pub state_in : Matrices → State
state_in m = state_of m.n m.matrix.now m.vectors.now

-- The same lists of the same order.
pub record SameLists (old new : Matrices) : Type 0 where
  pub order : new.n ≡ old.n
  pub matrix : new.matrix.ghost_name ≡ old.matrix.ghost_name
  pub vectors : new.vectors.ghost_name ≡ old.vectors.ghost_name

-- The same lists hold the state X afterwards.
pub record HeldAfter (old new : Matrices) (X : State) : Type 0 where
  pub same : SameLists old new
  pub held : Held old.n new.matrix.now new.vectors.now X
