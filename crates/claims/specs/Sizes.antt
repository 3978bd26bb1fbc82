-- Document 01, "Sizes", and document 02 (ii): the names of `sizes` in their words. Definitions only.
use Rattle.std.specs.Prelude.{ℕ, ◌+◌, ◌-◌, ◌*◌, ◌/◌, ◌%◌, ◌≤◌, ◌≡◌, true}
use Rattle.sizes.specs.Sizes.{most_sweeps, most_counted, is_order, processors_of, sweep_steps, first_line, steps_of, ticks_of}

-- n is 2 to 32, even or odd.
abbrev pub To32 : ℕ → Type 0
To32 n = (2 ≤ n) × (n ≤ 32)

-- An order has N processors, its sweeps have so many steps, and its lines begin with a first. K is S times the steps of
-- a sweep, and 3 K + N ticks are made.
pub record SizesAre (n N steps first : ℕ) : Type 0 where
  pub processors : processors_of n ≡ N
  pub sweep : sweep_steps n ≡ steps
  pub first_line_lem : first_line n ≡ first
  pub run : (sweeps : ℕ) → steps_of n sweeps ≡ sweeps * steps
  pub ticks : (sweeps : ℕ) → ticks_of n sweeps ≡ 3 * (sweeps * steps) + N

pub record SizesAsStated : Type 0 where
  pub order_is : (n : ℕ) → is_order n ≡ true → To32 n
  pub is_order_lem : (n : ℕ) → To32 n → is_order n ≡ true
  pub most_sweeps_lem : most_sweeps ≡ 16
  pub most_counted_lem : most_counted ≡ 65535
  -- Even: N = n/2, a sweep has n - 1 steps, K = S·(n - 1).
  pub even : (n : ℕ) → is_order n ≡ true → n % 2 ≡ 0 → SizesAre n (n / 2) (n - 1) 1
  -- Odd: N = (n+1)/2, a sweep has n steps, K = S·n, and there is a line 0.
  pub odd : (n : ℕ) → is_order n ≡ true → n % 2 ≡ 1 → SizesAre n ((n + 1) / 2) n 0
