use Rattle.std.proofs.Common.{sym, ◌∙◌}
use Rattle.float64.proofs.Nan.{nan_bits_lem}
use Rattle.float64.proofs.to_bits.Goals as goal

pub returns-then-is_nan : goal.returns-then-is_nan
returns-then-is_nan c = nan_bits_lem _ (sym c.is_nan.ensures.value ∙ c.if-is_nan.true)
