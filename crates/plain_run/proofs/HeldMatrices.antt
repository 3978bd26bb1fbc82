-- The lent lists of a run hold a state: at first, and after one call more. Assumes nothing.
use mathlib.Core.Path.{refl, ◌∙◌}
use Rattle.runs.specs.State.{State}
use Rattle.plain_pair.specs.Pair.{Held}
use Rattle.plain_pair.proofs.AlikeStates.{held_itself}
use Rattle.plain_run.specs.declared.sweeps.Matrices.{Matrices}
use Rattle.plain_run.specs.Matrices.{state_in, SameLists, HeldAfter}

same_first : (m : Matrices) → SameLists m m
same_first m = record { order = refl; matrix = refl; vectors = refl }

pub same_next : {a b c : Matrices} → SameLists a b → SameLists b c → SameLists a c
same_next h g = record { order = g.order ∙ h.order; matrix = g.matrix ∙ h.matrix; vectors = g.vectors ∙ h.vectors }

pub held_first : (m : Matrices) (X : State) → (Held m.n m.matrix.now m.vectors.now (state_in m) → Held m.n m.matrix.now m.vectors.now X) → HeldAfter m m X
held_first m X first = record { same = same_first m; held = first (held_itself m.n m.matrix.now m.vectors.now m.matrix_long m.vectors_long) }

pub held_next : {a b c : Matrices} {X Y Z : State} → HeldAfter a b X → HeldAfter b c Y → Held a.n c.matrix.now c.vectors.now Z → HeldAfter a c Z
held_next h g held = record { same = same_next h.same g.same; held = held }
