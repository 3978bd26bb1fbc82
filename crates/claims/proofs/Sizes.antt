-- The sizes, each part by the law that proves it. Assumes nothing.
use Prim.Native.Nat.{ℕ, ◌+◌, ◌-◌, ◌*◌, ◌/◌}
use mathlib.Core.Path.{◌≡◌, refl, ap}
use mathlib.Core.Bool.{true}
use native.Mathlib.Omega.{arith}
use borrow.Author.Tests.{le-leb}
use Rattle.sizes.specs.Sizes.{largest_order, is_order, processors_of, sweep_steps, first_line, steps_of, ticks_of}
use Rattle.sizes.proofs.Orders.{order_is}
use Rattle.claims.specs.Sizes.{To32, SizesAre, SizesAsStated}

is_order_lem : (n : ℕ) → To32 n → is_order n ≡ true
unfolding is_order
is_order_lem n e = rw (le-leb 2 n e.0, le-leb n largest_order e.1)

sizes_are : (n N steps first : ℕ) → processors_of n ≡ N → sweep_steps n ≡ steps → first_line n ≡ first → SizesAre n N steps first
sizes_are n N steps first p s f = record { processors = p; sweep = s; first_line_lem = f; run = run; ticks = ticks }
  where
    run : (sweeps : ℕ) → steps_of n sweeps ≡ sweeps * steps
    run sweeps = ap (λ k. sweeps * k) s

    ticks : (sweeps : ℕ) → ticks_of n sweeps ≡ 3 * (sweeps * steps) + N
    ticks sweeps = let k : steps_of n sweeps ≡ sweeps * steps = run sweeps in omega arith

pub sizes_as_stated : SizesAsStated
sizes_as_stated =
    record {
      order_is = order_is;
      is_order_lem = is_order_lem;
      most_sweeps_lem = refl;
      most_counted_lem = refl;
      even = λ n order e. let o = order_is n order in sizes_are n (n / 2) (n - 1) 1 (omega arith) (omega arith) (omega arith);
      odd = λ n order e. sizes_are n ((n + 1) / 2) n 0 (omega arith) (omega arith) (omega arith);
    }
