use Rattle.std.proofs.Common.{ℕ, ◌+◌, ◌*◌, ◌/◌, ◌^◌, ◌<◌, ◌≤◌, false, eqb, sym, ap, ◌∙◌, subst, arith}
use lib.Ieee.{odd}
use Rattle.std.proofs.lemmas.Float.{not_nan_f64_bits}
use Rattle.float64.proofs.Patterns.{normal_pattern}
use Rattle.root.proofs.Scales.{k_of, wide, digits53}
use Rattle.root.proofs.ExactDigits.{root_at}
use Rattle.root.proofs.scaled.Goals as goal
use Rattle.root.proofs.scaled.Goals.{After-nearest_root-q}

digits : (c : After-nearest_root-q) → (2 ^ 52 ≤ c.nearest_root-q.result) × (c.nearest_root-q.result < 2 ^ 53)
digits c =
    subst (λ (q : ℕ). (2 ^ 52 ≤ q) × (q < 2 ^ 53)) (sym c.nearest_root-q.ensures) (digits53 c.args.m c.args.z c.requires.0 c.requires.1)

pub overflow_add-result-2 : goal.overflow_add-result-2
overflow_add-result-2 c = let d = digits c in omega arith

pub float_from_bits-result : goal.float_from_bits-result
float_from_bits-result c = let d = digits c in not_nan_f64_bits _ (omega arith)

pub is_exact-requires : goal.is_exact-requires
is_exact-requires c =
    let w = wide c.args.m c.args.z c.requires.0 c.requires.1 in
    let d = digits c in
    (w.0, omega arith, d.1, c.nearest_root-q.ensures)

pub returns : goal.returns
returns c n e =
    let d = digits c.before in
    let f = c.nearest_root-q.ensures in
    root_at n c.args.m c.args.z e c.requires.0 c.requires.1 c.requires.2 _
    (normal_pattern _ _ d.0 d.1 (omega arith) ∙ ap (λ (q : ℕ). odd 53 false q (484 + (c.args.z + 1) / 2) 1074) f)
    (c.is_exact.ensures ∙ ap (λ (q : ℕ). eqb (q * q) (k_of c.args.m c.args.z * 2 ^ 52)) f)
