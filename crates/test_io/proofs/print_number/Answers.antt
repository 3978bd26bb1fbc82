use Rattle.std.proofs.Common.{◌∙◌}
use Rattle.std.proofs.lemmas.Result.{on_ok_weaker}
use Rattle.test_io.proofs.WrittenTexts.{line_appended}
use Rattle.test_io.proofs.print_number.Goals as goal

pub returns-clause-ok : goal.returns-clause-ok
returns-clause-ok g c =
    let text = c.text.ensures ∙ c.in_ok-writeln.ensures.bytes in
    on_ok_weaker _ (line_appended _ _ _ _ _ _ _ c.ranges.n.fits c.new-line.ensures c.in_ok-write_all.ensures.bytes text) c.write_all-2.ensures.bytes
