-- A table of known angles. Assumes nothing.
use Prim.Native.Nat.{ℕ}
use mathlib.Core.Path.{◌≡◌, sym, ap, ◌∙◌}
use mathlib.Core.Bool.{true}
use mathlib.Core.List.{List}
use lib.Dec.{T}
use lib.ListN.{set}
use lib.Ieee.{Float, binary64, fits}
use Rattle.std.proofs.lemmas.List.{map-set}
use Rattle.float64.specs.Values.{same_bits}
use Rattle.float64.proofs.Patterns.{same_bits_same}
use Rattle.rotation.specs.declared.Angle.{Angle}
use Rattle.rotation.specs.Rotation.{angle_of}
use Rattle.array.specs.Angles.{Known}

-- an angle that is known already
pub same_angle : (t : Float) (x : Angle) → T (fits binary64 t) → T (fits binary64 x.tangent) → same_bits t x.tangent ≡ true → x ≡ angle_of x.tangent
    → x ≡ angle_of t
same_angle t x h k e f = f ∙ ap angle_of (sym (same_bits_same t x.tangent h k e))

module _ (l : List Angle) (k : ℕ) (h : Known l) where
  pub known_next : {x : Angle} {t : Float} → x ≡ angle_of t → Known (set l k x)
  known_next {t = t} e = rw e (ap (λ (m : List Angle). set m k (angle_of t)) h ∙ sym (map-set (λ (x : Angle). angle_of x.tangent) l k (angle_of t)))
