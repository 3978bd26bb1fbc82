-- Document 02 (v): where halving is exact and nothing overflows, ξ by halves has the bits of document 01's ξ. Assumes nothing.
use mathlib.Core.Path.{◌≡◌, sym}
use mathlib.Core.Bool.{true}
use lib.Dec.{T}
use lib.Ieee.{Float, binary64, sub, mul, div, fits}
use Rattle.float64.specs.Values.{two, finite}
use Rattle.float64.proofs.Operands.{difference_operands}
use Rattle.float64.proofs.Halving.{Halvable, halved, doubled, difference, quotient}

pub keeps_its_bits : (a d b : Float) → T (fits binary64 a) → T (fits binary64 d) → T (fits binary64 b)
    → finite (sub binary64 d a) ≡ true → finite (mul binary64 two b) ≡ true → Halvable a → Halvable d
    → div binary64 (sub binary64 (div binary64 d two) (div binary64 a two)) b ≡ div binary64 (sub binary64 d a) (mul binary64 two b)
keeps_its_bits a d b A D B f g h k =
    let o = difference_operands d a f in
    sym (quotient _ _ _ _ (difference _ _ _ _ (halved d o.0 D k) (halved a o.1 A h) f) (doubled b B g))
