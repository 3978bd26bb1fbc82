-- Demand 2 on numbers, each part by the law that proves it. Assumes nothing.
use Rattle.float64.proofs.Nan.{bits_of_nan}
use Rattle.rotation.proofs.ReportFormulas as rotation
use Rattle.claims.specs.Report.{AsTheReport}
use Rattle.claims.proofs.RootAnswers.{root_rounds}
use Rattle.claims.proofs.PairEntries.{paired, first_paired}
use Rattle.claims.proofs.Moves.{moved}

pub as_the_report : AsTheReport
as_the_report =
    record {
      root_rounds_correctly = root_rounds;
      rotation_is_the_reports =
          record {
            turns = rotation.turns;
            pair = paired;
            first_of_odd = first_paired;
            still = rotation.still;
            sign_below = rotation.sign_below;
            sign_of_zero = rotation.sign_of_zero;
            sign_above = rotation.sign_above;
            not_a_number = rotation.not_a_number;
            nan_bits_lem = bits_of_nan;
          };
      pairing_is_the_reports = moved;
    }
