-- Which numbers are orders, and what is known of one. Assumes nothing.
use Prim.Native.Nat.{ℕ, suc, ◌+◌, ◌-◌, ◌*◌, ◌^◌, ◌≤◌, ◌<◌}
use mathlib.Core.Path.{◌≡◌, refl, sym, ap, ◌∙◌}
use mathlib.Core.Bool.{Bool, true, false, not, ◌&&◌, true≢false}
use mathlib.Core.List.{[], ◌∷◌}
use native.Mathlib.Omega.{arith}
use native.Mathlib.Nat.{suc-mul, mul-le-mul}
use borrow.Author.Tests.{le-ltb, ltb-false, leb-true, le-leb}
use lib.Dec.{ltb, leb}
use Rattle.refusal.specs.Answers.{Answered, given, refused_by, or_else, row, table}
use Rattle.refusal.specs.declared.Refusal.TheVariants.{Order, Sweeps}
use Rattle.refusal.proofs.FirstRefusal.{refused_given, else_else}
use Rattle.sizes.specs.Sizes.{most_processors, largest_order, most_sweeps, is_order, processors_of, sweep_steps, first_line, lines_of, still_of}
use Rattle.sizes.specs.Sizes.{steps_of, order_row, sweeps_row, sizes_answer}

and_true : (a b : Bool) → (a && b) ≡ true → (a ≡ true) × (b ≡ true)
and_true true b e = (refl, e)
and_true false b e = absurd (true≢false (sym e))

-- an order is from 2 to the largest
pub order_is : (n : ℕ) → is_order n ≡ true → (2 ≤ n) × (n ≤ largest_order)
unfolding is_order
order_is n e = let a = and_true (leb 2 n) _ e in (leb-true _ _ a.0, leb-true _ _ a.1)

-- ---- the test
module _ (n : ℕ) where
  pub by_largest : 2 ≤ n → leb n largest_order ≡ is_order n
  unfolding is_order
  by_largest h = rw (le-leb 2 n h)

-- ---- what follows from it
pub order_half : (n : ℕ) → is_order n ≡ true → (1 ≤ processors_of n) × (processors_of n ≤ most_processors)
order_half n e = let o = order_is n e in (omega arith, omega arith)

-- the last processor, counted from 0, and one more
pub processors_end : (n : ℕ) → is_order n ≡ true → processors_of n ≡ suc (processors_of n - 1)
processors_end n e = let o = order_half n e in omega arith

-- the lines in the registers are those from the first line to n
pub lines_end : (n : ℕ) → first_line n + lines_of n ≡ n + 1
lines_end n = omega arith

-- one processor at most is always still
pub still_few : (n : ℕ) → still_of n ≤ 1
still_few n = omega arith

-- the steps of a sweep, by the last processor
pub sweep_is : (n : ℕ) → is_order n ≡ true → sweep_steps n ≡ 2 * (processors_of n - 1) + 1
sweep_is n e = let o = order_is n e in omega arith

pub few_steps : (n : ℕ) → is_order n ≡ true → sweep_steps n ≤ largest_order
few_steps n e = let o = order_is n e in omega arith

-- the steps of a run are few
pub steps_next : (n sweeps : ℕ) → steps_of n (sweeps + 1) ≡ steps_of n sweeps + sweep_steps n
steps_next n sweeps = let e : sweeps + 1 ≡ suc sweeps = omega arith in rw e (suc-mul sweeps (sweep_steps n))

pub product_few : (a b : ℕ) → a ≤ most_sweeps → b ≤ largest_order → a * b ≤ most_sweeps * largest_order
product_few a b h k = mul-le-mul h k

pub steps_few : (n sweeps : ℕ) → is_order n ≡ true → sweeps ≤ most_sweeps → steps_of n sweeps ≤ most_sweeps * largest_order
steps_few n sweeps e h = product_few sweeps (sweep_steps n) h (few_steps n e)

pub steps_fit : (n sweeps : ℕ) {steps : ℕ} → is_order n ≡ true → sweeps ≤ most_sweeps → steps ≡ sweep_steps n → sweeps * steps < 2 ^ 64
steps_fit n sweeps {steps} e h z =
    let w : sweeps * steps ≤ most_sweeps * largest_order = product_few sweeps steps h (let f = few_steps n e in omega arith) in
    omega arith

-- ---- refusals 1 and 2
module _ (n sweeps : ℕ) where
  pub refused_1 : is_order n ≡ false → refused_by Order ≡ sizes_answer n sweeps
  unfolding sizes_answer
  refused_1 e = rw e

  pub sizes_fine : is_order n ≡ true → sweeps ≤ most_sweeps → given tt ≡ sizes_answer n sweeps
  unfolding sizes_answer
  sizes_fine e h = rw (e, le-ltb most_sweeps sweeps h)

  -- and back
  pub sizes_given : sizes_answer n sweeps ≡ given tt → (is_order n ≡ true) × (sweeps ≤ most_sweeps)
  unfolding sizes_answer
  sizes_given e = go (is_order n) (ltb most_sweeps sweeps) refl refl e
    where
      go : (a b : Bool) → is_order n ≡ a → ltb most_sweeps sweeps ≡ b → table (row (not a) Order ∷ row b Sweeps ∷ []) ≡ given tt
          → (is_order n ≡ true) × (sweeps ≤ most_sweeps)
      go false b x y z = refused_given z
      go true true x y z = refused_given z
      go true false x y z = (x, ltb-false most_sweeps sweeps y)

  -- the rows of a table that begins with them
  pub sizes_first : (rest : Answered Unit) → or_else (sizes_answer n sweeps) rest ≡ or_else (order_row n) (or_else (sweeps_row sweeps) rest)
  unfolding sizes_answer
  sizes_first rest =
      else_else (order_row n) (or_else (sweeps_row sweeps) (given tt)) rest ∙ ap (or_else (order_row n)) (else_else (sweeps_row sweeps) (given tt) rest)
