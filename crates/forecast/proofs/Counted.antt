-- The figures of a forecast are counts over the ticks of the array's definition. Assumes nothing.
use Prim.Native.Nat.{ℕ, suc, ◌+◌, ◌-◌, ◌*◌}
use mathlib.Core.Path.{◌≡◌}
use mathlib.Core.Bool.{true}
use native.Mathlib.Omega.{arith}
use native.Mathlib.Nat.{mul_assoc, mul_left_comm}
use Rattle.systolic.specs.Traffic.{wires_set, tiles_receive}
use Rattle.systolic.proofs.TrafficCounts.{wires_set_lem, tiles_receive_lem}
use Rattle.sizes.specs.Sizes.{is_order, processors_of, steps_of, ticks_of}
use Rattle.sizes.proofs.Orders.{processors_end}
use Rattle.forecast.specs.Forecast.{figures_of}

-- of N = m + 1 processors and K steps
module _ (N m K : ℕ) (e : N ≡ suc m) where
  values_of : 8 * N * N * K ≡ 2 * wires_set m K (3 * K + N)
  values_of =
      let a : 8 * N * N * K ≡ 8 * (N * (N * K)) = simp mul_assoc in
      let b : N * (N * (4 * K)) ≡ 4 * (N * (N * K)) = simp mul_left_comm in
      let c : wires_set m K (3 * K + N) ≡ N * (N * (4 * K)) = rw e (wires_set_lem m K) in
      omega arith

  parameters_of_lem : 2 * N * m * K ≡ 2 * tiles_receive m K (3 * K + N)
  parameters_of_lem =
      let a : 2 * N * m * K ≡ 2 * (N * (m * K)) = simp mul_assoc in
      let c : tiles_receive m K (3 * K + N) ≡ N * (m * K) = rw e (tiles_receive_lem m K) in
      omega arith

module _ (n sweeps : ℕ) (order : is_order n ≡ true) where
  -- two values on each wire that is set, one of the matrix and one of the eigenvectors
  pub values_counted : (figures_of n sweeps).values ≡ 2 * wires_set (processors_of n - 1) (steps_of n sweeps) (ticks_of n sweeps)
  unfolding figures_of
  values_counted = values_of (processors_of n) (processors_of n - 1) (steps_of n sweeps) (processors_end n order)

  -- two parameters for each tile that receives, one along its row and one along its column
  pub parameters_counted : (figures_of n sweeps).parameters ≡ 2 * tiles_receive (processors_of n - 1) (steps_of n sweeps) (ticks_of n sweeps)
  unfolding figures_of
  parameters_counted = parameters_of_lem (processors_of n) (processors_of n - 1) (steps_of n sweeps) (processors_end n order)
