use Prim.Native.Nat.{ℕ}
use mathlib.Core.Path.{◌∙◌}
use native.Mathlib.Omega.{arith}
use lib.Dec.{eqb}
use Rattle.std.proofs.Common.{rules}
use Rattle.std.proofs.lemmas.Iterator.{YieldsList-from_range, serves_from_Range}
use Rattle.std.proofs.lemmas.Iterator.Search.{any_from_yields_List}
use Rattle.sheet.specs.Format.{code_in}
use Rattle.sheet_reader.proofs.AcceptedSheets.{code_room}
use Rattle.sheet_join.proofs.JointContents.{codes_tested}
use Rattle.sheet_join.specs.Join.{has_code}
use Rattle.sheet_join.proofs.has_code.Goals as goal

pub any-requires-clause-callable : goal.any-requires-clause-callable
any-requires-clause-callable c = serves_from_Range (λ x q h. search rules) (λ k h o. let room = code_room _ c.requires c.width_in-width.ensures k (omega arith) in search rules)

pub returns : goal.returns
unfolding has_code
returns c =
    let b = c.args.sheet.now in
    let w = c.width_in-width.result in
    any_from_yields_List (λ (k : ℕ). eqb (code_in w b k) c.args.code) _ _ _ c.any.ensures.ran (YieldsList-from_range 0 c.order_in.result c.order_in.result (cc) (omega arith)) (λ x r q k. search rules) ∙ codes_tested _ _ _ (λ (x : ℕ). eqb x c.args.code) c.width_in-width.ensures c.order_in.ensures
