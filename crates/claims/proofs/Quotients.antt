-- Document 02 (v), each part by the law that proves it. Assumes nothing.
use Prim.Native.Nat.{◌-◌}
use mathlib.Core.Path.{refl, subst}
use native.Mathlib.Omega.{arith}
use lib.Ieee.{div, sub, mul, add, neg, le, of_bits}
use Rattle.float64.specs.Values.{finite}
use Rattle.float64.proofs.Bounds.{is_number}
use Rattle.rotation.specs.Rotation.{quotient}
use Rattle.rotation.proofs.HalvedQuotient.{keeps_its_bits}
use Rattle.rotation.proofs.TurnBounds.{AllFinite, quotient_number, parameters_finite}
use Rattle.step_records.proofs.FiniteRecords.{records_finite}
use Rattle.claims.specs.Quotients.{BitsThatChange, FiniteEntriesTurn, QuotientsAsStated}

change : BitsThatChange
unfolding div sub mul add neg le finite of_bits
change =
    record {
      infinite_difference = record { conditions = refl; is = refl; was = refl };
      infinite_double = record { conditions = refl; is = refl; was = refl };
      subnormal_left = record { conditions = refl; is = refl; was = refl };
      subnormal_right = record { conditions = refl; is = refl; was = refl };
      just_below = record { conditions = refl; is = refl; was = refl };
    }

finite_entries : FiniteEntriesTurn
unfolding quotient
finite_entries =
    record {
      number = λ a d b A D f g h z. is_number _ (quotient_number a d b A D f g h z);
      turn = λ a d b A D f g h t c s e. subst AllFinite e (parameters_finite a d b A D f g h);
    }

pub quotients_as_stated : QuotientsAsStated
quotients_as_stated =
    record {
      keeps_its_bits = keeps_its_bits;
      bits_that_change = change;
      finite_entries_turn = finite_entries;
      records_are_finite = λ n l step ys other b e k low high. records_finite n l step ys other b e (k - 1) (omega arith);
    }
