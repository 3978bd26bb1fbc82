use Rattle.std.proofs.Common.{◌≡◌, ℕ, suc, ◌+◌, ◌-◌, ◌*◌, ◌/◌, ◌%◌, ◌^◌, ◌<◌, ◌≤◌, [], ◌∷◌, ◌++◌, arith}
use Rattle.std.proofs.lemmas.Nat.{shr-shr}
use Rattle.text.specs.Text.{code_of, hex_of}
use Rattle.text.proofs.TextPieces.{puts_none, puts_then, puts_as, hex_length}
use Rattle.text.proofs.Page.put_hex.Goals as goal

hex_more : (w k : ℕ) → 0 < k → k ≤ 16
    → hex_of (16 - k) (w / 2 ^ (4 * k)) ++ (code_of (w / 2 ^ (4 * (k - 1)) % 16) ∷ []) ≡ hex_of (16 - (k - 1)) (w / 2 ^ (4 * (k - 1)))
unfolding hex_of
hex_more w k h m =
    let more : 16 - (k - 1) ≡ suc (16 - k) = omega arith in
    let all : 4 * k ≡ 4 * (k - 1) + 4 = omega arith in
    rw (more, all, shr-shr w (4 * (k - 1)) 4)

pub loop-k-init : goal.loop-k-init
unfolding hex_of
loop-k-init c = puts_none _

pub put-requires : goal.put-requires
put-requires c = omega (arith, hex_length (16 - c.loop-k.k) (c.args.word / 2 ^ (4 * c.loop-k.k)))

pub loop-k-preserved : goal.loop-k-preserved
loop-k-preserved c =
    puts_as (puts_then c.loop-k.invariant (rw c.code.ensures at c.put.ensures)) (hex_more _ _ c.loop-k-test.true (omega arith))

pub returns-clause-value : goal.returns-clause-value
returns-clause-value c = omega (arith, hex_length (16 - c.loop-k.k) (c.args.word / 2 ^ (4 * c.loop-k.k)))
