use Rattle.std.proofs.Common.{◌∙◌}
use Rattle.list_sheet.proofs.Prints.{prints_counted, accepted_printed, refused_printed}
use Rattle.list_sheet.proofs.print.Goals as goal

pub returns-in-Ok : goal.returns-in-Ok
returns-in-Ok c =
    let e = accepted_printed _ _ c.in-Ok.ensures in
    record { text_after = e; prefix_len = prints_counted _ _ e }

pub returns-in-Err : goal.returns-in-Err
returns-in-Err c =
    let e = c.print_refusal.ensures ∙ refused_printed _ _ _ c.in-Err.ensures in
    record { text_after = e; prefix_len = prints_counted _ _ e }
