-- What a processor counts. Assumes nothing.
use Prim.Native.Nat.{ℕ, ◌+◌, ◌*◌, ◌%◌, ◌<◌}
use mathlib.Core.Path.{◌≡◌, sym, ap, ◌∙◌}
use native.Mathlib.Nat.{add_comm, zero-add, mul_comm, mul-add-mod_self_left, mod-eq_of_lt}
use mathlib.Core.Bool.{Bool, true, false, cond, ◌&&◌}
use borrow.Author.Tests.{lt-ltb}
use lib.Dec.{eqb}
use Rattle.rotation.specs.declared.Parameters.{Parameters}
use Rattle.sizes.specs.Sizes.{most_counted, sweep_steps}
use Rattle.runs.specs.Counts.{is_turn, counted, begins_sweep, turns_after}

module _ (more : Bool) (d : ℕ) where
  pub counts_none : more ≡ false → d ≡ counted more d
  unfolding counted
  counts_none e = rw e

-- the turns begin anew with a sweep
module _ (P : Parameters) (n k d : ℕ) where
  pub counts_anew : begins_sweep n k ≡ true → {c : ℕ} → c ≡ counted (is_turn P) 0 → c ≡ turns_after n k P d
  unfolding turns_after
  counts_anew e h = rw e h

  pub counts_on : begins_sweep n k ≡ false → {c : ℕ} → c ≡ counted (is_turn P) d → c ≡ turns_after n k P d
  unfolding turns_after
  counts_on e h = rw e h

-- of the steps of a sweep the first alone
pub begins_at : (n j s : ℕ) → s < sweep_steps n → begins_sweep n (j * sweep_steps n + s) ≡ eqb s 0
unfolding begins_sweep
begins_at n j s l =
    ap (λ (x : ℕ). eqb x 0)
    (ap (λ (x : ℕ). (x + s) % sweep_steps n) (mul_comm j (sweep_steps n)) ∙ mul-add-mod_self_left (sweep_steps n) j s ∙ mod-eq_of_lt l)

-- a count below the most
pub counts_one : (more : Bool) (d : ℕ) → d < most_counted → counted more d ≡ cond more 1 0 + d
unfolding counted
counts_one more d l = rw (lt-ltb d most_counted l) (go more)
  where
    go : (b : Bool) → cond (b && true) (d + 1) d ≡ cond b 1 0 + d
    go true = add_comm d 1
    go false = sym (zero-add d)
