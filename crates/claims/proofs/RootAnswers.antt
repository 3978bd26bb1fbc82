-- The square root is correctly rounded, each part by the law that proves it. Assumes nothing.
use mathlib.Core.Path.{◌≡◌, refl, ap}
use mathlib.Core.Bool.{true}
use lib.Dec.{T}
use lib.Ieee.{Float, binary64, fits, lt, of_bits}
use Rattle.float64.specs.Values.{plus_zero, finite}
use Rattle.root.specs.Sqrt.{sqrt_of}
use Rattle.root.specs.Exact.{exact_root, flagged}
use Rattle.root.proofs.CorrectRounding.{nearest}
use Rattle.root.proofs.AnsweredRoots.{root_above, root_not_below}
use Rattle.claims.specs.Report.{CorrectlyRounded, RootRoundsCorrectly}

rounded : (x : Float) → T (finite x) → T (fits binary64 x) → lt plus_zero x ≡ true → (r : Float) × CorrectlyRounded x r
rounded x f t h =
    let w = root_above x f t h in (
      w.0,
      record {
        answer = ap (flagged (exact_root x)) w.1.is;
        is_finite = w.1.root.is_finite;
        not_negative = root_not_below x w.0 w.1;
        of_binary64 = w.1.root.is_held;
        nearest = λ y. nearest x w.0 y w.1;
      },
    )

pub root_rounds : RootRoundsCorrectly
unfolding sqrt_of exact_root of_bits
root_rounds = record { plus_zero_lem = refl; minus_zero_lem = refl; infinity = refl; above_zero = rounded }
