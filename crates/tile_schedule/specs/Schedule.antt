-- What a tile of the code does as what the theory's does. Definitions only.
use Rattle.std.specs.Prelude.{ℕ, ◌/◌, ◌%◌, Option, Some, None, cond, eqb}
use Rattle.systolic.specs.Tiles as theory
use Rattle.systolic.specs.Tiles.{first, rotate, phase1, phase2}
use Rattle.tile_schedule.specs.declared.Action.{Action}
use Rattle.tile_schedule.specs.declared.Action.TheVariants.{Idle, First, Rotate, Phase1, Phase2, Final}

abbrev pub the_action : Action → theory.Action
the_action Idle = theory.idle
the_action First = theory.first
the_action Rotate = theory.rotate
the_action Phase1 = theory.phase1
the_action Phase2 = theory.phase2
the_action Final = theory.final

-- The number of a phase, 3 for none.
abbrev pub phase_number : Option ℕ → ℕ
phase_number (Some phase) = phase
phase_number None = 3

-- While there are steps to do, t ticks after the tile's first rotation.
unfoldable pub in_step : ℕ → theory.Action
in_step t = cond (eqb (t % 3) 0) (cond (eqb (t / 3) 0) first rotate) (cond (eqb (t % 3) 1) phase1 phase2)
