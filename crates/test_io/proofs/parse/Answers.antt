use Rattle.std.proofs.Common.{◌≡◌, ◌+◌, ◌*◌, ◌^◌, ◌<◌, Some, arith, refl, ◌∙◌, sym, length-take}
use Rattle.std.proofs.lemmas.List.{get_or-take}
use borrow.Author.Tests.{eq-eqb, ne_eqb}
use Rattle.test_io.specs.TextLines.{spelt, ended, word_of}
use Rattle.test_io.proofs.ReadWords.{spoilt, one_more, digit_few, room, grown}
use Rattle.test_io.proofs.parse.Goals as goal
use Rattle.test_io.proofs.parse.Goals.{In-loop-b, In_ok-n, After-loop-b}

-- the bytes of the loop are the first 16
early : (c : In-loop-b) → c.loop-b.b-index < 16
early c = omega (arith, length-take 16 c.args.text.now)

roomy : (c : In-loop-b) → c.loop-b.n * 16 + 15 < 2 ^ 64
roomy c = room _ _ (early c) c.loop-b.invariant.few

pub loop-b-init : goal.loop-b-init
unfolding spelt
loop-b-init c = record { spelt = refl; few = omega arith }

pub overflow_mul-n : goal.overflow_mul-n
overflow_mul-n c = record { fits = omega (arith, roomy (goal.at.overflow_mul-n c).In-loop-b) }

pub returns-in_err-n : goal.returns-in_err-n
unfolding word_of ended
returns-in_err-n c =
    let small = early (goal.at.returns-in_err-n c).In-loop-b in
    let none = rw (get_or-take 16 c.args.text.now c.loop-b.b-index 0 small) at (sym c.digit.ensures ∙ c.in_err-n.was) in
    c.from_residual.ensures ∙ rw (spoilt _ _ 16 small none) refl

pub overflow_add-n : goal.overflow_add-n
overflow_add-n c = record { fits = omega (arith, roomy (goal.at.overflow_add-n c).In-loop-b, digit_few _ _ (sym c.digit.ensures ∙ c.in_ok-n.was)) }

pub loop-b-preserved : goal.loop-b-preserved
loop-b-preserved c =
    let few = digit_few _ _ (sym c.digit.ensures ∙ c.in_ok-n.was) in
    let small = early (goal.at.loop-b-preserved c).In-loop-b in
    let digit = rw (get_or-take 16 c.args.text.now c.loop-b.b-index 0 small) at (sym c.digit.ensures ∙ c.in_ok-n.was) in
    record { spelt = one_more _ _ _ _ c.loop-b.invariant.spelt digit; few = grown _ _ _ few c.loop-b.invariant.few }

whole : (c : After-loop-b) → spelt 16 c.args.text.now ≡ Some c.loop-b.n
whole c = let all : c.loop-b.b-index ≡ 16 = omega (arith, length-take 16 c.args.text.now) in rw all at c.loop-b.invariant.spelt

pub returns-then-text-eq10 : goal.returns-then-text-eq10
unfolding word_of ended
returns-then-text-eq10 c = rw (whole (goal.at.returns-then-text-eq10 c).After-loop-b, eq-eqb _ _ c.if-text-eq10.true) refl

pub returns-else-text-eq10 : goal.returns-else-text-eq10
unfolding word_of ended
returns-else-text-eq10 c = rw (whole (goal.at.returns-else-text-eq10 c).After-loop-b, ne_eqb _ _ c.if-text-eq10.false) refl
