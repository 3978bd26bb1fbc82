use Rattle.std.proofs.Common.{◌≡◌, ℕ}
use Rattle.std.specs.Option.{IfSome, MatchOption}
use Rattle.std.specs.Prelude.{Option, Some, None}
use Rattle.root.proofs.whole.nearest_root.Goals as goal

either : (o : Option ℕ) (E : Type 0) (r n : ℕ) → IfSome o (λ q. q ≡ n) → MatchOption o E (λ x. r ≡ x) → (E → r ≡ n) → r ≡ n
either None E r n f g h = h g
either (Some q) E r n f g h = cc

pub returns : goal.returns
returns c = either _ _ _ _ c.settle.ensures c.unwrap_or_else.ensures (λ e. cc)
