use Prim.Native.Nat.{ℕ, ◌*◌}
use mathlib.Core.Path.{◌≡◌, sym, ap, ◌∙◌}
use Rattle.sheet.specs.Format.{order_in}
use Rattle.sheet_reader.proofs.SheetContents.{all_read, read_accepted_as}
use Rattle.sheet_reader.proofs.Tables.{readable}
use Rattle.sheet_reader.proofs.read.Goals as goal
use Rattle.sheet_reader.proofs.read.Goals.{In_ok-form}

order_found : (c : In_ok-form) → c.in_ok-form.form.n ≡ order_in c.args.sheet.now
order_found c = rw c.in_ok-form.ensures.form at c.in_ok-form.form.of_form.1

pub read_codes-requires : goal.read_codes-requires
read_codes-requires c = (readable _ _ _ (sym c.in_ok-form.ensures.answer)).codes_long ∙ sym (order_found (goal.at.read_codes-requires c).In_ok-form)

pub read_entries-requires : goal.read_entries-requires
read_entries-requires c =
    (readable _ _ _ (sym c.in_ok-form.ensures.answer)).matrix_long ∙ ap (λ (n : ℕ). n * n) (sym (order_found (goal.at.read_entries-requires c).In_ok-form))

pub returns : goal.returns
returns c =
    let same = c.in_ok-form.ensures.form in
    read_accepted_as _ _ _ c.in_ok-form.ensures.answer
    (all_read c.args.sheet.now (order_found (goal.at.returns c).In_ok-form) (rw same at c.read_codes.ensures) (rw same at c.read_entries.ensures))
