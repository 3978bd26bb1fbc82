-- What the loop over a whole list leaves in it. Assumes nothing.
use Prim.Native.Nat.{ℕ, ◌≤◌}
use mathlib.Core.Path.{◌≡◌, refl, sym, ◌∙◌}
use mathlib.Core.List.{List}
use lib.ListN.{length, get_or}
use lib.Ieee.{Float, nan}
use Rattle.lists.proofs.Tabulated.{tabulated}
use Rattle.lists.proofs.Filled.{Filled, filled_all}

pub copied : (from : List Float) (k : ℕ) (l : List Float) → Filled nan (λ i. get_or from i nan) (length from) k l → length from ≤ k → l ≡ from
copied from k l h o = filled_all k l h o ∙ sym (tabulated (length from) _ from nan refl (λ i b. refl))
