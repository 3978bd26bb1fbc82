-- The ticks of a whole run: which of them ends a sweep, and what comes of many. Assumes nothing.
use Prim.Native.Nat.{ℕ, zero, suc, ◌+◌, ◌-◌, ◌*◌, ◌/◌, ◌%◌, ◌<◌, ◌≤◌}
use mathlib.Core.Path.{◌≡◌, refl, sym, ap, subst, ◌∙◌}
use mathlib.Core.Bool.{Bool, true, false, ◌&&◌, true≢false}
use native.Mathlib.Nat.{zero-add, suc-add, add-zero, zero-mul, mul-le-mul_right, mul-div_cancel, div-add-mod'}
use native.Mathlib.Omega.{arith}
use borrow.Author.Tests.{ltb-true, ltb-false, eqb-true, ne_eqb}
use lib.Dec.{ltb}
use Rattle.refusal.specs.Answers.{Answered, given, refused}
use Rattle.systolic.specs.Tiles.{step_at}
use Rattle.systolic.proofs.Clock.{step_at_lem, rotates_at, at_rotation}
use Rattle.sizes.specs.Sizes.{most_sweeps, is_order, processors_of, sweep_steps, steps_of, ticks_of}
use Rattle.sizes.proofs.Orders.{order_is, steps_next}
use Rattle.runs.specs.Counts.{begins_sweep}
use Rattle.runs.proofs.ProcessorCounts.{begins_at}
use Rattle.tile_schedule.specs.Answers.{Tick, made, stopped, progress_of}
use Rattle.tile_schedule.proofs.Answers.{is_made}
use Rattle.array.specs.declared.Array.{Array}
use Rattle.array.specs.Arrays.{array_of}
use Rattle.array.specs.Runs.{next_array, ticked, GoesOn}
use Rattle.array.proofs.TicksInARow.{ticked_more, ticked_made}
use Rattle.array_run.specs.Advance.{ends_sweep, sweep_ended, none_counted, with_sweeps, lowered, advanced_as, advanced, advanced_by}

-- So many ticks are made once the tiles on the diagonal have made their rotations of m sweeps.
abbrev pub diagonal_done : ℕ → ℕ → ℕ
diagonal_done n m = 3 * steps_of n m - 2

-- ---- which tick ends a sweep
and_false : (a b : Bool) → (a ≡ true → b ≡ false) → (a && b) ≡ false
and_false true b f = f refl
and_false false b f = refl

and_both : (a b : Bool) → (a && b) ≡ true → (a ≡ true) × (b ≡ true)
and_both true true e = (refl, refl)
and_both true false e = absurd (true≢false (sym e))
and_both false b e = absurd (true≢false (sym e))

and_right : (a : Bool) → (a && false) ≡ false
and_right true = refl
and_right false = refl

module _ (n sweeps t : ℕ) where
  abbrev K : ℕ
  K = steps_of n sweeps

  -- none between the ends of two sweeps
  pub ends_none : (m : ℕ) → diagonal_done n m ≤ t → t + 3 < 3 * steps_of n (m + 1) → ends_sweep n sweeps t ≡ false
  unfolding ends_sweep
  ends_none m from to = and_false _ _ (λ e.
      let w = at_rotation K 0 t e in
      let r = w.0 + 1 - steps_of n m in
      let next = steps_next n m in
      let few : r < sweep_steps n = omega (arith, w.2, next) in
      let some : ¬ (r ≡ 0) = λ z. omega (arith, w.2) in
      let is : w.0 + 1 ≡ steps_of n m + r = omega (arith, w.2) in
      rw (step_at_lem 0 t w.0 w.2, is) (begins_at n m r few ∙ ne_eqb r 0 some))

  -- none after the rotations of the last sweep
  pub ends_no_more : diagonal_done n sweeps ≤ t → ends_sweep n sweeps t ≡ false
  unfolding ends_sweep
  ends_no_more from = and_false _ _ (λ e. let w = at_rotation K 0 t e in absurd (omega (arith, w.1, w.2)))

  -- the tick of the last rotations on the diagonal in sweep m + 1
  module _ (m : ℕ) (some : 0 < sweep_steps n) (few : m < sweeps) (when : t + 3 ≡ 3 * steps_of n (m + 1)) where
    step_is : step_at 0 t + 1 ≡ steps_of n (m + 1)
    step_is = let w = step_at_lem 0 t (steps_of n (m + 1) - 1) (omega arith) in let next = steps_next n m in omega (arith, w, next)

    pub ends_it : ends_sweep n sweeps t ≡ true
    unfolding ends_sweep
    ends_it =
        let next = steps_next n m in
        let fits : steps_of n (m + 1) ≤ K = mul-le-mul_right (sweep_steps n) (omega arith) in
        rw (rotates_at K 0 t (steps_of n (m + 1) - 1) (omega (arith, next, fits)) (omega arith), step_is)
        (ap (begins_sweep n) (sym (add-zero (steps_of n (m + 1)))) ∙ begins_at n (m + 1) 0 some)

    pub ended_is : sweep_ended n t ≡ m + 1
    unfolding sweep_ended
    ended_is = rw step_is (mul-div_cancel (m + 1) some)

-- and back: any tick that ends a sweep is such a one
pub ends_means : (n sweeps t : ℕ) → 0 < sweep_steps n → ends_sweep n sweeps t ≡ true
    → (m : ℕ) × (1 ≤ m) × (m ≤ sweeps) × (t + 3 ≡ 3 * steps_of n m)
unfolding ends_sweep
ends_means n sweeps t some e =
    let b = and_both _ _ e in
    let w = at_rotation (steps_of n sweeps) 0 t b.0 in
    let k : step_at 0 t ≡ w.0 = step_at_lem 0 t w.0 w.2 in
    let m = (w.0 + 1) / sweep_steps n in
    let whole : steps_of n m ≡ w.0 + 1 = divides (w.0 + 1) (rw k at b.1) in
    (m, at_least m w.0 whole, at_most m w.0 w.1 whole, omega (arith, whole, w.2))
  where
    divides : (k : ℕ) → begins_sweep n k ≡ true → k / sweep_steps n * sweep_steps n ≡ k
    divides k e = unfold begins_sweep in (let z = eqb-true (k % sweep_steps n) 0 e in let d = div-add-mod' k (sweep_steps n) in omega (arith, z, d))

    at_least : (m k : ℕ) → steps_of n m ≡ k + 1 → 1 ≤ m
    at_least zero k h = absurd (let z = zero-mul (sweep_steps n) in omega (arith, z, h))
    at_least (suc m) k h = omega arith

    at_most : (m k : ℕ) → k < steps_of n sweeps → steps_of n m ≡ k + 1 → m ≤ sweeps
    at_most m k l h = go (ltb sweeps m) refl
      where
        go : (b : Bool) → ltb sweeps m ≡ b → m ≤ sweeps
        go true z =
            let more : steps_of n (sweeps + 1) ≤ steps_of n m = mul-le-mul_right (sweep_steps n) (let o = ltb-true sweeps m z in omega (arith, o)) in
            let next = steps_next n sweeps in
            absurd (omega (arith, more, next, h))
        go false z = ltb-false sweeps m z

-- ---- many ticks
pub advanced_more : (j k : ℕ) (x : Array) → advanced_by (j + k) x ≡ advanced_by j (advanced_by k x)
unfolding advanced_by
advanced_more zero k x = rw zero-add
advanced_more (suc j) k x = rw suc-add (ap advanced (advanced_more j k x))

pub not_lowered : (t : ℕ) (x : Array) → ends_sweep x.n x.sweeps t ≡ false → lowered t x ≡ x
unfolding lowered
not_lowered t x e = rw e

pub is_lowered : (t : ℕ) (x : Array) {m : ℕ} → ends_sweep x.n x.sweeps t ≡ true → none_counted (processors_of x.n) x.tiles ≡ true
    → sweep_ended x.n t ≡ m → lowered t x ≡ with_sweeps m x
unfolding lowered
is_lowered t x e f g = rw (e, f, g)

pub turn_lowers_none : (t : ℕ) (x : Array) → none_counted (processors_of x.n) x.tiles ≡ false → lowered t x ≡ x
unfolding lowered
turn_lowers_none t x f = rw (f, and_right (ends_sweep x.n x.sweeps t))

-- a tick that ends no sweep
plain_tick : (x : Array) → ends_sweep x.n x.sweeps x.tick ≡ false → advanced x ≡ next_array x
unfolding advanced next_array
plain_tick x e = go (progress_of x.n x.sweeps x.tick)
  where
    go : (a : Answered Tick) → advanced_as a x ≡ array_of a x
    go (given made) = not_lowered x.tick (array_of (given made) x) e
    go (given stopped) = refl
    go (refused k values) = refl

-- a tick that is made
pub made_tick : (x : Array) → given made ≡ progress_of x.n x.sweeps x.tick → advanced x ≡ lowered x.tick (next_array x)
unfolding advanced next_array
made_tick x e = rw (← e)

-- what a tick keeps, and how far it goes
next_keeps : (a : Answered Tick) (x : Array)
    → ((array_of a x).n ≡ x.n) × ((array_of a x).sweeps ≡ x.sweeps) × (x.tick ≤ (array_of a x).tick) × ((array_of a x).tick ≤ x.tick + 1)
next_keeps (given made) x = (refl, refl, omega arith, omega arith)
next_keeps (given stopped) x = (refl, refl, omega arith, omega arith)
next_keeps (refused k values) x = (refl, refl, omega arith, omega arith)

ticked_within : (k : ℕ) (x : Array)
    → ((ticked k x).n ≡ x.n) × ((ticked k x).sweeps ≡ x.sweeps) × (x.tick ≤ (ticked k x).tick) × ((ticked k x).tick ≤ x.tick + k)
unfolding ticked next_array
ticked_within zero x = (refl, refl, omega arith, omega arith)
ticked_within (suc k) x =
    let y = ticked k x in
    let w = ticked_within k x in
    let z = next_keeps (progress_of y.n y.sweeps y.tick) y in
    (z.0 ∙ w.0, z.1 ∙ w.1, omega (arith, z.2, w.2), omega (arith, z.3, w.3))

pub ticked_keeps : (k : ℕ) (x : Array) {y : Array} → y ≡ ticked k x → (y.n ≡ x.n) × (y.sweeps ≡ x.sweeps)
ticked_keeps k x e =
    let w = ticked_within k x in (ap (λ (y : Array). y.n) e ∙ w.0, ap (λ (y : Array). y.sweeps) e ∙ w.1)

-- ticks that end no sweep
pub advanced_plain : (k : ℕ) (x : Array) → ((t : ℕ) → x.tick ≤ t → t < x.tick + k → ends_sweep x.n x.sweeps t ≡ false) → advanced_by k x ≡ ticked k x
unfolding advanced_by ticked
advanced_plain zero x f = refl
advanced_plain (suc k) x f =
    let w = ticked_within k x in
    ap advanced (advanced_plain k x (λ t a b. f t a (omega arith)))
    ∙ plain_tick (ticked k x) (rw (w.0, w.1) (f (ticked k x).tick w.2 (omega (arith, w.3))))

-- ---- the record y after m sweeps of a run from x, none of which lowers its S
pub record Swept (x : Array) (m : ℕ) (y : Array) : Type 0 where
  pub by_ticks : y ≡ ticked (diagonal_done x.n m) x
  pub by_advances : y ≡ advanced_by (diagonal_done x.n m) x

module _ (x : Array) (order : is_order x.n ≡ true) (few : x.sweeps ≤ most_sweeps) (begins : x.tick ≡ 0) where
  abbrev done : ℕ → ℕ
  done m = diagonal_done x.n m

  some_steps : 0 < sweep_steps x.n
  some_steps = let o = order_is x.n order in omega (arith, o.0)

  pub fits : (m : ℕ) → m ≤ x.sweeps → steps_of x.n m ≤ steps_of x.n x.sweeps
  fits m l = mul-le-mul_right (sweep_steps x.n) l

  pub going : (m k : ℕ) → m ≤ x.sweeps → k ≤ done m → GoesOn x k
  going m k l h = record { order = order; few = few; room = omega (arith, fits m l) }

  pub swept_none : Swept x 0 x
  swept_none =
      let e : done 0 ≡ 0 = let z = zero-mul (sweep_steps x.n) in omega (arith, z) in
      record {
        by_ticks = subst (λ (k : ℕ). x ≡ ticked k x) (sym e) (unfold ticked in refl);
        by_advances = subst (λ (k : ℕ). x ≡ advanced_by k x) (sym e) (unfold advanced_by in refl);
      }

  pub some_done : (m : ℕ) → 1 ≤ steps_of x.n (m + 1)
  some_done m = let e = steps_next x.n m in omega (arith, e, some_steps)

  pub swept_tick : (m : ℕ) → m ≤ x.sweeps → {y : Array} → Swept x m y → y.tick ≡ done m
  swept_tick m l h =
      ap (λ (z : Array). z.tick) (h.by_ticks ∙ ticked_made x (done m) (going m (done m) l (omega arith))) ∙ rw (begins, zero-add)

  module _ {m : ℕ} (l : m < x.sweeps) {y : Array} (h : Swept x m y) where
    abbrev next : ℕ
    next = done (m + 1)

    -- the ticks between the two ends but for the last
    abbrev between : ℕ
    between = next - done m - 1

    apart : next ≡ suc (between + done m)
    apart = let e = steps_next x.n m in omega (arith, e, some_steps)

    y_is : (y.n ≡ x.n) × (y.sweeps ≡ x.sweeps) × (y.tick ≡ done m)
    y_is =
        let e = h.by_ticks ∙ ticked_made x (done m) (going m (done m) (omega arith) (omega arith)) in
        (ap (λ (z : Array). z.n) e, ap (λ (z : Array). z.sweeps) e, ap (λ (z : Array). z.tick) e ∙ rw (begins, zero-add))

    pub swept_goes : GoesOn y (next - y.tick)
    swept_goes =
        record {
          order = rw y_is.0 order;
          few = rw y_is.1 few;
          room = rw (y_is.0, y_is.1) (omega (arith, y_is.2, apart, fits (m + 1) (omega arith)));
        }

    -- the record before the tick that ends the next sweep
    abbrev last : Array
    last = ticked between y

    last_is : last ≡ ticked (between + done m) x
    last_is = ap (ticked between) h.by_ticks ∙ sym (ticked_more between (done m) x)

    last_tick : (last.n ≡ x.n) × (last.sweeps ≡ x.sweeps) × (last.tick ≡ between + done m)
    last_tick =
        let e = last_is ∙ ticked_made x (between + done m) (going (m + 1) (between + done m) (omega arith) (omega (arith, apart))) in
        (ap (λ (z : Array). z.n) e, ap (λ (z : Array). z.sweeps) e, ap (λ (z : Array). z.tick) e ∙ rw (begins, zero-add))

    last_advances : advanced_by (between + done m) x ≡ last
    last_advances =
        advanced_more between (done m) x ∙ ap (advanced_by between) (sym h.by_advances)
        ∙ advanced_plain between y (λ t a b. rw (y_is.0, y_is.1) (ends_none x.n x.sweeps t m (omega (arith, y_is.2)) (omega (arith, y_is.2, apart))))

    last_made : given made ≡ progress_of last.n last.sweeps last.tick
    last_made =
        rw (last_tick.0, last_tick.1, last_tick.2)
        (is_made x.n x.sweeps (between + done m) order few (omega (arith, apart, fits (m + 1) (omega arith))))

    module _ {z : Array} (e : z ≡ ticked (next - y.tick) y) where
      swept_ticks : z ≡ next_array last
      unfolding ticked
      swept_ticks = let a : next - y.tick ≡ suc between = omega (arith, y_is.2, apart) in e ∙ ap (λ (k : ℕ). ticked k y) a

      pub swept_by_ticks : z ≡ ticked next x
      swept_by_ticks = swept_ticks ∙ ap next_array last_is ∙ sym (ap (λ (k : ℕ). ticked k x) apart ∙ unfold ticked in refl)

      z_is : (z.n ≡ x.n) × (z.sweeps ≡ x.sweeps) × (z.tick ≡ next)
      z_is =
          let f = swept_by_ticks ∙ ticked_made x next (going (m + 1) next (omega arith) (omega arith)) in
          (ap (λ (w : Array). w.n) f, ap (λ (w : Array). w.sweeps) f, ap (λ (w : Array). w.tick) f ∙ rw (begins, zero-add))

      z_advances : advanced_by next x ≡ lowered (between + done m) z
      unfolding advanced_by
      z_advances =
          ap (λ (k : ℕ). advanced_by k x) apart
          ∙ ap advanced last_advances
          ∙ made_tick last last_made
          ∙ ap (lowered last.tick) (sym swept_ticks)
          ∙ ap (λ (t : ℕ). lowered t z) last_tick.2

      pub swept_more : none_counted (processors_of z.n) z.tiles ≡ false → Swept x (m + 1) z
      swept_more f = record { by_ticks = swept_by_ticks; by_advances = sym (z_advances ∙ unlowered) }
        where
          unlowered : lowered (between + done m) z ≡ z
          unlowered = turn_lowers_none (between + done m) z f

      -- a quiet sweep: S is lowered to it, and no later tick ends a sweep
      module _ (f : none_counted (processors_of z.n) z.tiles ≡ true) where
        pub quiet_lowers : advanced_by next x ≡ with_sweeps (m + 1) z
        quiet_lowers = z_advances ∙ low
          where
            when : between + done m + 3 ≡ 3 * steps_of x.n (m + 1)
            when = omega (arith, apart)

            low : lowered (between + done m) z ≡ with_sweeps (m + 1) z
            low =
                is_lowered (between + done m) z (rw (z_is.0, z_is.1) (ends_it x.n x.sweeps (between + done m) m some_steps l when)) f
                (rw z_is.0 (ended_is x.n x.sweeps (between + done m) m some_steps l when))

        pub swept_quiet : {w : Array} → w ≡ ticked (ticks_of x.n x.sweeps - next) (with_sweeps (m + 1) z)
            → w ≡ advanced_by (ticks_of x.n x.sweeps) x
        swept_quiet g =
            let left = ticks_of x.n x.sweeps - next in
            let all : ticks_of x.n x.sweeps ≡ left + next = omega (arith, fits (m + 1) (omega arith)) in
            g
            ∙ sym (ap (λ (k : ℕ). advanced_by k x) all
            ∙ advanced_more left next x
            ∙ ap (advanced_by left) quiet_lowers
            ∙ advanced_plain left (with_sweeps (m + 1) z) (λ t a b.
            rw z_is.0 (ends_no_more x.n (m + 1) t (omega (arith, z_is.2)))))

  -- no quiet sweep at all
  pub swept_all : {y z : Array} → Swept x x.sweeps y → z ≡ ticked (ticks_of x.n x.sweeps - y.tick) y → z ≡ advanced_by (ticks_of x.n x.sweeps) x
  swept_all {y = y} h g =
      let k = done x.sweeps in
      let e = h.by_ticks ∙ ticked_made x k (going x.sweeps k (omega arith) (omega arith)) in
      let n_is : y.n ≡ x.n = ap (λ (w : Array). w.n) e in
      let sweeps_is : y.sweeps ≡ x.sweeps = ap (λ (w : Array). w.sweeps) e in
      let tick_is : y.tick ≡ k = ap (λ (w : Array). w.tick) e ∙ rw (begins, zero-add) in
      let left = ticks_of x.n x.sweeps - y.tick in
      let all : ticks_of x.n x.sweeps ≡ left + k = omega (arith, tick_is) in
      g
      ∙ sym (ap (λ (j : ℕ). advanced_by j x) all
      ∙ advanced_more left k x
      ∙ ap (advanced_by left) (sym h.by_advances)
      ∙ advanced_plain left y (λ t a b. rw (n_is, sweeps_is) (ends_no_more x.n x.sweeps t (omega (arith, tick_is)))))
