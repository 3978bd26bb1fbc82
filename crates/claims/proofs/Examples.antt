-- Every example holds: each is computed. Assumes nothing.
use mathlib.Core.Path.{refl}
use lib.Ieee.{of_bits, to_bits}
use Rattle.float64.specs.Values.{finite}
use Rattle.root.specs.Sqrt.{root_units, sqrt_of}
use Rattle.root.specs.Exact.{exact_units, exact_root}
use Rattle.lists.specs.Tabulate.{tabulate}
use Rattle.systolic.specs.Slots.{slot, came_from, into_last, prior, line_at, in_order_at, ordered_line}
use Rattle.lists.specs.Bounded.{any, count, total}
use Rattle.ordering.specs.Registers.{column, registers_of}
use Rattle.sizes.specs.Sizes.{is_order}
use Rattle.ordering.specs.Pairs.{registers_at}
use Rattle.rotation.specs.Rotation.{tangent_of_pair, of_angle, of_tangent, of_pair}
use Rattle.matrix.specs.Matrix.{at, flat}
use Rattle.refusal.specs.Answers.{first}
use Rattle.matrix.specs.Entries.{not_finite_at, not_mirrored_at, finite_row, mirror_row}
use Rattle.matrix_turns.specs.Turns.{turned_at, row_turn, column_turn, column_turn_all}
use Rattle.systolic.specs.Sequential.{place, pair_block}
use Rattle.rotation.specs.Exact.{exact_pair}
use Rattle.runs.specs.Blocks.{ruled, ruled_exact, matrix_block}
use Rattle.plain_pair.specs.Pair.{pair_turned, pair_rotated}
use Rattle.runs.specs.State.{identity, bordered, start_of}
use Rattle.plain_run.specs.State.{pairs_rotated, after, not_finite_from, not_finite, spoiled}
use Rattle.runs.specs.Outcome.{before_run}
use Rattle.plain_run.specs.Run.{ran_of, run_of}
use Rattle.plain_run.specs.Met.{pair_met, turns_in, rounded_in, pairs_by}
use Rattle.plain_run.specs.Quiet.{quiet, sweeps_made, report_of, answered_run_of}
use Rattle.claims.specs.Examples.{All, examples}

pub examples_hold : All examples
unfolding sqrt_of of_bits to_bits finite tabulate any slot came_from into_last prior line_at in_order_at ordered_line column registers_of registers_at is_order
    at flat first not_finite_at not_mirrored_at finite_row mirror_row turned_at row_turn column_turn column_turn_all of_angle of_tangent tangent_of_pair of_pair
    identity bordered ruled place pair_block matrix_block pair_turned pair_rotated pairs_rotated after not_finite_from not_finite
    spoiled before_run start_of ran_of run_of
    root_units exact_units exact_root exact_pair ruled_exact pair_met turns_in rounded_in count total pairs_by quiet sweeps_made report_of answered_run_of
examples_hold = (
  refl,
  (
    refl,
    (
      refl,
      (
        refl,
        (
          refl,
          (
            refl,
            (
              λ r h. (h.answers, h.lists),
              (
                λ r h. (h.answers, h.lists),
                (
                  λ r h. (h.answers, h.lists),
                  (
                    λ r h. (h.answers, h.lists),
                    (
                      λ r h. (h.answers, h.lists),
                      (
                        λ r h. (h.answers, h.lists),
                        (
                          λ r h. (h.answers, h.lists),
                          (
                            λ r h. (h.answers, h.lists),
                            (
                              λ r h. (h.answers, h.lists),
                              (λ r v e f. rw (e, f), (λ r v e f. rw (e, f), tt)),
                            ),
                          ),
                        ),
                      ),
                    ),
                  ),
                ),
              ),
            ),
          ),
        ),
      ),
    ),
  ),
)
