use Prim.Native.Nat.{ℕ, ◌+◌, ◌≤◌}
use mathlib.Core.Path.{◌≡◌, sym, ap, subst, ◌∙◌}
use native.Mathlib.Omega.{arith}
use lib.ListN.{length}
use lib.Ieee.{binary64, to_bits}
use Rattle.std.proofs.Common.{rules}
use Rattle.sizes.proofs.Orders.{order_is}
use Rattle.matrix.specs.Matrix.{at, entry_of}
use Rattle.matrix.proofs.EntryPlaces.{entry_in}
use Rattle.sheet.specs.Format.{sheet_length}
use Rattle.sheet.proofs.Forms.{Width, width_for_fits}
use Rattle.sheet_writer.proofs.Tables.{writable}
use Rattle.sheet_writer.proofs.SheetBytes.{written_over, write_accepted_as}
use Rattle.sheet_writer.proofs.write.Goals as goal

pub overflow_cast-sweeps : goal.overflow_cast-sweeps
overflow_cast-sweeps c = let k = writable _ _ _ _ _ (sym c.in_ok-verdict.ensures) in omega (arith, k.few)

pub put_sheet-requires-clause-sizes : goal.put_sheet-requires-clause-sizes
put_sheet-requires-clause-sizes c =
    let k = writable _ _ _ _ _ (sym c.in_ok-verdict.ensures) in
    let fits : Width c.width_for-width.result = rw c.width_for-width.ensures (width_for_fits _) in
    let room = subst (λ (w : ℕ). sheet_length w c.args.n ≤ length c.args.sheet.now) (sym c.width_for-width.ensures) k.room in
    (fits.0, fits.1, (order_is _ k.order).1, room)

pub put_sheet-requires-clause-codes : goal.put_sheet-requires-clause-codes
put_sheet-requires-clause-codes c = let k = writable _ _ _ _ _ (sym c.in_ok-verdict.ensures) in λ i h. search (rules, k.codes_long)

pub returns : goal.returns
returns c =
    let k = writable _ _ _ _ _ (sym c.in_ok-verdict.ensures) in
    let n = c.args.n in
    let l = c.args.matrix.now in
    write_accepted_as _ _ _ _ _ c.in_ok-verdict.ensures
    (written_over n c.args.sweeps c.args.codes.now l c.args.sheet.now k.room c.width_for-width.ensures
    (c.put_sheet.ensures.written c.args.codes.now (at n l) (λ i x h e. search rules) (λ i j x h o e.
    let bits : x ≡ to_bits binary64 (entry_of n l (i + 1) (j + 1)) = search rules in
    bits ∙ ap (to_bits binary64) (entry_in _ _ _ _ k.matrix_long (omega arith) (omega arith))))
    c.put_sheet.ensures.long)
