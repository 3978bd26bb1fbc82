use Rattle.std.proofs.Common.{◌+◌, ◌-◌, ◌*◌, ◌/◌, ◌%◌, ◌^◌, ltb, arith, ltb→lt}
use Rattle.root.proofs.Remainders.{unwrapped, some_if}
use Rattle.root.proofs.Squares.{split_square, split_le}
use Rattle.root.proofs.whole.remainder.Goals as goal

pub returns : goal.returns
returns c =
    let q = c.args.q in
    let a = q / 2 ^ 27 in
    let b = q % 2 ^ 27 in
    let high = (c.args.k + (2 ^ 64 - a * a * 4)) % 2 ^ 64 in
    let middle = (high * 2 ^ 24 + 2 ^ 26 + (2 ^ 64 - a * b)) % 2 ^ 64 in
    let left = (middle * 2 ^ 28 + q * 3 + (2 ^ 64 - (b * b + 0x40_0000_0000_0003))) % 2 ^ 64 in
    let square = split_square q in
    let bounds = split_le q c.requires.1 in
    let h = unwrapped c.args.k (a * a * 4) (omega arith) (omega arith) (omega arith) in
    let m = unwrapped (high * 2 ^ 24 + 2 ^ 26) (a * b) (omega arith) (omega arith) (omega arith) in
    rw c.then_some.ensures
    (some_if _ (ltb left (q * 6)) left
    (λ t. let l = ltb→lt left (q * 6) t in
    let n = unwrapped (middle * 2 ^ 28 + q * 3) (b * b + 0x40_0000_0000_0003) (omega arith) (omega arith) (omega arith) in
    (l, omega arith)))
