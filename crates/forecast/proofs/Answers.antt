-- The figures of a run, by the steps of the code, and what is known where a forecast is not refused. Assumes nothing.
use Prim.Native.Nat.{ℕ, ◌-◌, ◌*◌, ◌≤◌}
use mathlib.Core.Path.{◌≡◌, refl}
use mathlib.Core.Bool.{true}
use native.Mathlib.Omega.{arith}
use native.Mathlib.Nat.{mul_assoc, mul-le-mul}
use Rattle.refusal.specs.Answers.{Answered, given, refused, giving}
use Rattle.refusal.proofs.FirstRefusal.{refused_given}
use Rattle.refusal.proofs.RefusedOutcomes.{giving_given}
use Rattle.sizes.specs.Sizes.{most_processors, largest_order, most_sweeps, is_order, processors_of, steps_of, ticks_of, sizes_answer}
use Rattle.sizes.proofs.Orders.{order_half, steps_few, sizes_fine, sizes_given}
use Rattle.forecast.specs.declared.Figures.{Figures}
use Rattle.forecast.specs.Forecast.{figures_of, forecast_of}

-- ---- no product overflows
-- the tiles, all and those off the diagonal, and their rotations, of N processors in K steps
pub record Few (N K : ℕ) : Type 0 where
  pub some : 1 ≤ N
  pub tiles : N * N ≤ most_processors * most_processors
  pub off_diagonal : N * (N - 1) ≤ most_processors * most_processors
  pub rotations : N * N * K ≤ most_processors * most_processors * (most_sweeps * largest_order)
  pub rotations_off : N * (N - 1) * K ≤ most_processors * most_processors * (most_sweeps * largest_order)

pub few_of : (n sweeps : ℕ) {N K : ℕ} → (is_order n ≡ true) × (sweeps ≤ most_sweeps) → N ≡ processors_of n → K ≡ steps_of n sweeps → Few N K
few_of n sweeps {N} {K} p e f =
    let h = order_half n p.0 in
    let steps : K ≤ most_sweeps * largest_order = rw f (steps_few n sweeps p.0 p.1) in
    let processors : N ≤ most_processors = omega arith in
    let others : N - 1 ≤ most_processors = omega arith in
    let all = mul-le-mul processors processors in
    let off = mul-le-mul processors others in
    record { some = omega arith; tiles = all; off_diagonal = off; rotations = mul-le-mul all steps; rotations_off = mul-le-mul off steps }

-- ---- the figures
module _ (n sweeps : ℕ) where
  pub rotations_are : {N K : ℕ} → N ≡ processors_of n → K ≡ steps_of n sweeps
      → (N * N * K ≡ processors_of n * processors_of n * steps_of n sweeps)
      × (N * (N - 1) * K ≡ processors_of n * (processors_of n - 1) * steps_of n sweeps)
  rotations_are e f = (rw (e, f), rw (e, f))

  pub figures_are : {ticks values parameters : ℕ} → ticks ≡ ticks_of n sweeps
      → values ≡ 8 * (processors_of n * processors_of n * steps_of n sweeps)
      → parameters ≡ 2 * (processors_of n * (processors_of n - 1) * steps_of n sweeps)
      → ◌≡◌ {A = Figures} (record { ticks = ticks; values = values; parameters = parameters }) (figures_of n sweeps)
  unfolding figures_of
  figures_are e f g = rw (e, f, g) (simp mul_assoc)

  -- ---- the answer
  pub is_given_lem : (is_order n ≡ true) × (sweeps ≤ most_sweeps) → {x : Figures} → x ≡ figures_of n sweeps → given x ≡ forecast_of n sweeps
  unfolding forecast_of
  is_given_lem p e = rw (← (sizes_fine n sweeps p.0 p.1), e)

  -- what is known where it is not refused
  pub forecast_given : {f : Figures} → forecast_of n sweeps ≡ given f → (is_order n ≡ true) × (f ≡ figures_of n sweeps)
  unfolding forecast_of
  forecast_given {f} = go (sizes_answer n sweeps) refl
    where
      go : (a : Answered Unit) → sizes_answer n sweeps ≡ a → giving (figures_of n sweeps) a ≡ given f → (is_order n ≡ true) × (f ≡ figures_of n sweeps)
      go (given tt) z e = ((sizes_given n sweeps z).0, giving_given (figures_of n sweeps) f (given tt) e)
      go (refused k values) z e = refused_given e
