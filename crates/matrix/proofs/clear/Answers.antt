use Rattle.std.proofs.Common.{ℕ, zero, suc, ◌≡◌, List, ◌∷◌, Float, refl, ap, ◌∙◌}
use Rattle.std.specs.Prelude.{replicate}
use Rattle.lists.specs.Tabulate.{tabulate}
use Rattle.matrix.proofs.clear.Goals as goal

repeated : (n : ℕ) (x : Float) → replicate n x ≡ tabulate n (λ k. x)
unfolding tabulate
repeated zero x = refl
repeated (suc n) x = ap (λ (l : List Float). x ∷ l) (repeated n x)

pub returns : goal.returns
returns c = c.fill.ensures.after (λ y e. e) ∙ repeated _ _
