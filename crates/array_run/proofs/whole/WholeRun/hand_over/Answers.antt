use mathlib.Core.Path.{sym, ◌∙◌}
use Rattle.runs.proofs.Starts.{cleared, spoiled_outcome}
use Rattle.array_run.proofs.Results.{spoiled_over, cells_over}
use Rattle.array_run.proofs.whole.WholeRun.hand_over.Goals as goal

pub returns-then-is_marked : goal.returns-then-is_marked
returns-then-is_marked c =
    spoiled_over _ (sym c.is_marked.ensures ∙ c.if-is_marked.true)
    (spoiled_outcome _ (cleared _ c.requires.0 c.clear.ensures) (cleared _ c.requires.1 c.clear-then-is_marked.ensures))

pub returns : goal.returns
returns c =
    cells_over _ (sym c.is_marked.ensures ∙ c.if-is_marked.false) c.write_cells.ensures.0 c.write_cells.ensures.1
    c.rounded_pairs.ensures
