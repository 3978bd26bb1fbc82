-- What programs of cases end with. Definitions only.
use Rattle.std.specs.Prelude.{Result, Ok, Err}
use Rattle.std.specs.declared.io.Error.{Error}
use Rattle.test_io.specs.declared.cases.Stop.{Stop}
use Rattle.test_io.specs.declared.cases.Stop.TheVariants.{End, Failed}

-- What a program ends with whose last case answers r: an end is none of its errors.
abbrev pub ending_of : Result Unit Stop → Result Unit Error
ending_of (Ok x) = Ok tt
ending_of (Err End) = Ok tt
ending_of (Err (Failed error)) = Err error
