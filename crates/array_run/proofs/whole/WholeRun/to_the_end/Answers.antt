use Prim.Native.Nat.{ℕ, ◌+◌, ◌-◌, ◌*◌}
use mathlib.Core.Path.{◌≡◌, sym, ap, subst, ◌∙◌}
use native.Mathlib.Omega.{arith}
use Rattle.sizes.proofs.Orders.{steps_next}
use Rattle.array.specs.declared.Array.{Array}
use Rattle.array.specs.Runs.{ticked, GoesOn}
use Rattle.array_run.proofs.Advances.{ticked_keeps, Swept, fits, some_done, swept_none, swept_tick, swept_goes, swept_more, swept_quiet, swept_all}
use Rattle.array_run.proofs.whole.WholeRun.to_the_end.Goals as goal

-- what the tick after the next sweep's rotations on the diagonal is, by the code's steps
next_ticks : (y : Array) {k steps : ℕ} {z : Array} → steps ≡ k → z ≡ ticked (3 * steps - 2 - y.tick) y → z ≡ ticked (3 * k - 2 - y.tick) y
next_ticks y e h = h ∙ ap (λ (k : ℕ). ticked (3 * k - 2 - y.tick) y) e

goes_so : (y : Array) {k steps : ℕ} → steps ≡ k → GoesOn y (3 * k - 2 - y.tick) → GoesOn y (3 * steps - 2 - y.tick)
goes_so y e h = rw e h

last_ticks : (y : Array) {k steps all end : ℕ} {z : Array} → steps ≡ k → end ≡ all → z ≡ ticked (end - (3 * steps - 2)) y
    → z ≡ ticked (all - (3 * k - 2)) y
last_ticks y e f h = h ∙ rw (e, f)

pub loop-m-init : goal.loop-m-init
loop-m-init c = let s = c.args.self.now in (omega arith, swept_none _ s.has_order s.few_sweeps c.requires)

pub overflow_sub-next : goal.overflow_sub-next
overflow_sub-next c =
    let s = c.args.self.now in
    let some = some_done c.args.self.now.array s.has_order s.few_sweeps c.requires c.loop-m.m in
    omega (arith, some, c.steps_of.ensures)

pub overflow_sub-next-in-loop-m : goal.overflow_sub-next-in-loop-m
overflow_sub-next-in-loop-m c =
    let loop = c.loop-m in
    let s = c.args.self.now in
    let now = swept_tick _ s.has_order s.few_sweeps c.requires loop.m (omega arith) loop.invariant.1 in
    let next = steps_next c.args.self.now.array.n loop.m in
    omega (arith, now, next, c.steps_of.ensures)

pub after-self-requires : goal.after-self-requires
after-self-requires c =
    let loop = c.loop-m in
    let s = c.args.self.now in
    goes_so _ c.steps_of.ensures (swept_goes _ s.has_order s.few_sweeps c.requires (omega arith) loop.invariant.1)

pub overflow_sub-end : goal.overflow_sub-end
overflow_sub-end c =
    let loop = c.loop-m in
    let s = c.args.self.now in
    let fit = fits c.args.self.now.array s.has_order s.few_sweeps c.requires (loop.m + 1) (omega arith) in
    omega (arith, fit, c.steps_of.ensures, c.ticks_of-end.ensures)

pub returns-then-none_counted : goal.returns-then-none_counted
returns-then-none_counted c =
    let loop = c.loop-m in
    let s = c.args.self.now in
    let steps = c.steps_of.ensures in
    let all = c.ticks_of-end.ensures in
    swept_quiet _ s.has_order s.few_sweeps c.requires (omega arith) loop.invariant.1 (next_ticks _ steps c.after-self.ensures)
    (sym c.none_counted.ensures ∙ c.if-none_counted.true) (last_ticks _ steps all c.ticks-self.ensures)

pub loop-m-preserved : goal.loop-m-preserved
loop-m-preserved c =
    let loop = c.loop-m in
    let s = c.args.self.now in (
      omega arith,
      swept_more _ s.has_order s.few_sweeps c.requires (omega arith) loop.invariant.1 (next_ticks _ c.steps_of.ensures c.after-self.ensures)
          (sym c.none_counted.ensures ∙ c.if-none_counted.false),
    )

pub overflow_sub-end-2 : goal.overflow_sub-end-2
overflow_sub-end-2 c =
    let loop = c.loop-m in
    let s = c.args.self.now in
    let now = swept_tick _ s.has_order s.few_sweeps c.requires loop.m (omega arith) loop.invariant.1 in
    let fit = fits c.args.self.now.array s.has_order s.few_sweeps c.requires loop.m (omega arith) in
    omega (arith, now, fit, c.ticks_of-end.ensures)

pub returns : goal.returns
returns c =
    let loop = c.loop-m in
    let s = c.args.self.now in
    let e : loop.m ≡ c.args.self.now.array.sweeps = omega arith in
    swept_all _ s.has_order s.few_sweeps c.requires (subst (λ (m : ℕ). Swept c.args.self.now.array m loop.self.array) e loop.invariant.1)
    (c.ticks-self-2.ensures ∙ ap (λ (k : ℕ). ticked (k - loop.self.array.tick) loop.self.array) c.ticks_of-end.ensures)

pub invariant_of-self : goal.invariant_of-self
invariant_of-self c =
    let h = ticked_keeps _ _ c.after-self.ensures in
    record { has_order = rw h.0 c.loop-m.self.has_order; few_sweeps = rw h.1 c.loop-m.self.few_sweeps }

pub invariant_of-self-then-none_counted : goal.invariant_of-self-then-none_counted
invariant_of-self-then-none_counted c =
    let h = ticked_keeps _ _ c.ticks-self.ensures in
    let k = ticked_keeps _ _ c.after-self.ensures in
    record { has_order = rw (h.0, k.0) c.loop-m.self.has_order; few_sweeps = rw h.1 (omega (arith, c.args.self.now.few_sweeps)) }

pub invariant_of-self-2 : goal.invariant_of-self-2
invariant_of-self-2 c =
    let h = ticked_keeps _ _ c.ticks-self-2.ensures in
    record { has_order = rw h.0 c.loop-m.self.has_order; few_sweeps = rw h.1 c.loop-m.self.few_sweeps }
