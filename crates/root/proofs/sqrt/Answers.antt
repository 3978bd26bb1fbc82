use Rattle.std.proofs.Common.{◌≡◌, true, false, sym, ap, ◌∙◌, true≢false}
use Rattle.std.proofs.lemmas.Float.{T_from_true}
use lib.Ieee.{Float, binary64, lt, of_bits}
use lib.Ieee.Bits.{of_bits-to_bits}
use Rattle.refusal.specs.Answers.{given}
use Rattle.float64.specs.Values.{plus_zero}
use Rattle.float64.specs.Units.{units_of}
use Rattle.float64.proofs.Units.{positive_pattern}
use Rattle.float64.proofs.Zeros.{equal_zero}
use Rattle.float64.proofs.PositiveValues.{below_infinity}
use Rattle.root.specs.declared.Root.{Root}
use Rattle.root.specs.Exact.{root_of_units}
use Rattle.root.proofs.RootCases.{answer_positive, answer_zero, answer_infinite, answer_refused}
use Rattle.root.proofs.sqrt.Goals as goal
use Rattle.root.proofs.sqrt.Goals.{Else-x-4, then-x-3, else-x-3, else-x-via-then-x+else-x-2, else-x-via-else-x}

pub positive-requires : goal.positive-requires
positive-requires c = positive_pattern _ (T_from_true _ (below_infinity _ c.if-x.true c.if-x-2.true)) (T_from_true _ c.well_formed.0.1)

pub returns-then-x-2 : goal.returns-then-x-2
returns-then-x-2 c =
    let x = c.args.x in
    ap (λ (r : Root). given (r.value, r.exact))
    (c.positive.ensures ∙ ap (λ (y : Float). root_of_units (units_of y)) (of_bits-to_bits binary64 x (T_from_true _ c.well_formed.0.1)))
    ∙ answer_positive x (below_infinity x c.if-x.true c.if-x-2.true)

-- not above zero and finite
unbounded : (c : Else-x-4) → lt plus_zero c.args.x ≡ true → lt c.args.x (of_bits binary64 0x7ff0_0000_0000_0000) ≡ false
unbounded c a = elim c.else-x.branch [
  | else-x-via-then-x+else-x-2 w ↦ w.if-x-2.false
  | else-x-via-else-x w ↦ absurd (true≢false (sym a ∙ w.if-x.false))
]

-- x is a zero, or +infinity
pub returns-then-x-4 : goal.returns-then-x-4
returns-then-x-4 c = elim c.if-x-3.branch [
  | then-x-3 w ↦ answer_zero _ (sym (equal_zero _) ∙ w.if-x-3.true)
  | else-x-3 w ↦ answer_infinite _ (sym w.value-is ∙ c.if-x-4.true)
]

pub returns-else-x-4 : goal.returns-else-x-4
returns-else-x-4 c = elim c.if-x-3.branch [
  | then-x-3 w ↦ absurd (true≢false (sym w.if-x-3.true ∙ sym w.value-is ∙ c.if-x-4.false))
  | else-x-3 w ↦ answer_refused _ (unbounded c) (sym (equal_zero _) ∙ w.if-x-3.false) (sym w.value-is ∙ c.if-x-4.false)
]
