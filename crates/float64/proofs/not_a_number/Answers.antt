use Rattle.float64.proofs.Nan.{nan_is}
use Rattle.float64.proofs.not_a_number.Goals as goal

pub returns : goal.returns
returns c = nan_is
