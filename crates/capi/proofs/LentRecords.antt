-- The records of a step, in lent lists. Assumes nothing.
use Prim.Native.Nat.{ℕ, ◌+◌, ◌*◌, ◌/◌, ◌%◌, ◌≤◌, ◌<◌}
use mathlib.Core.Path.{◌≡◌, refl, sym, ap, ◌∙◌}
use mathlib.Core.Bool.{Bool, true, false, cond, not}
use mathlib.Core.List.{List}
use native.Mathlib.Omega.{arith}
use borrow.Author.Tests.{ltb-true, ltb-false}
use lib.Dec.{ltb}
use mir.Val.{bool_byte}
use lib.Ieee.{Float, nan}
use lib.ListN.{length, set}
use Rattle.refusal.specs.Answers.{Answered, given, or_else, row}
use Rattle.refusal.specs.declared.Refusal.TheVariants.{Order}
use Rattle.lists.proofs.Replaced.{Replaced, replaced_next, replaced_over}
use Rattle.sizes.specs.Sizes.{is_order, processors_of}
use Rattle.ordering.specs.Pairs.{registers_at}
use Rattle.step_records.specs.declared.Record.{Record}
use Rattle.step_records.specs.Records.{record_at, before_records}
use Rattle.refusal.proofs.FirstRefusal.{refused_given}
use Rattle.step_records.proofs.WrittenRows.{written_fits}
use Rattle.capi.specs.Calls.{flag_byte, records_room, record_field, record_fields, records_left, record_flag, flags_left}

-- ---- the records
module _ (n : ℕ) (l : List Float) (step : ℕ) where
  -- the field w of the record of processor k, at the index i
  pub field_at : (x : Record) (k i w : ℕ) → x ≡ record_at n l (registers_at n step) k → i / 3 ≡ k → i % 3 ≡ w → record_field x w ≡ record_fields n l step i
  unfolding record_fields
  field_at x k i w e f g = rw (e, f, g)

  pub record_put : (old v v' : List Float) (k : ℕ) (x : Record) → x ≡ record_at n l (registers_at n step) k
      → Replaced nan (record_fields n l step) old (k * 3) v → k * 3 + 3 ≤ length old → v' ≡ set (set (set v (k * 3) x.t) (k * 3 + 1) x.c) (k * 3 + 2) x.s
      → Replaced nan (record_fields n l step) old ((k + 1) * 3) v'
  unfolding record_field
  record_put old v v' k x e h room z =
      let a = next (k * 3) (k * 3 + 1) (omega arith) v x.t h (omega arith) (field_at x k (k * 3) 0 e (omega arith) (omega arith)) in
      let b = next (k * 3 + 1) (k * 3 + 2) (omega arith) _ x.c a (omega arith) (field_at x k (k * 3 + 1) 1 e (omega arith) (omega arith)) in
      rw z (next (k * 3 + 2) ((k + 1) * 3) (omega arith) _ x.s b (omega arith) (field_at x k (k * 3 + 2) 2 e (omega arith) (omega arith)))
    where
      next : (m m' : ℕ) → m' ≡ m + 1 → (u : List Float) (y : Float) → Replaced nan (record_fields n l step) old m u → m < length old
          → y ≡ record_fields n l step m → Replaced nan (record_fields n l step) old m' (set u m y)
      next m m' s u y r o f = rw s (replaced_next m u y r o f)

  pub records_put : (old v : List Float) → Replaced nan (record_fields n l step) old (processors_of n * 3) v → processors_of n * 3 ≤ length old
      → v ≡ records_left (given tt) n l step old
  records_put old v h room = replaced_over (processors_of n * 3) v h room

  -- ---- their flags
  pub flag_put : (old v : List ℕ) (k : ℕ) (x : Record) → x ≡ record_at n l (registers_at n step) k → Replaced 0 (record_flag n l step) old k v → k < length old
      → Replaced 0 (record_flag n l step) old (k + 1) (set v k (bool_byte x.exact))
  unfolding record_flag
  flag_put old v k x e h room = replaced_next k v _ h room (as_flag x.exact ∙ ap (λ (x : Record). flag_byte x.exact) e)
    where
      as_flag : (b : Bool) → bool_byte b ≡ flag_byte b
      as_flag true = refl
      as_flag false = refl

  pub flags_put : (old v : List ℕ) → Replaced 0 (record_flag n l step) old (processors_of n) v → processors_of n ≤ length old
      → v ≡ flags_left (given tt) n l step old
  flags_put old v h room = replaced_over (processors_of n) v h room

-- ---- the room for records
module _ (values flags : ℕ) where
  room_fits : (m : ℕ) → m ≤ records_room values flags → (m * 3 ≤ values) × (m ≤ flags)
  unfolding records_room
  room_fits m h = go (ltb flags (values / 3)) refl h
    where
      go : (b : Bool) → ltb flags (values / 3) ≡ b → m ≤ cond b flags (values / 3) → (m * 3 ≤ values) × (m ≤ flags)
      go true e o = let w : flags < values / 3 = ltb-true _ _ e in (omega arith, o)
      go false e o = let w : values / 3 ≤ flags = ltb-false _ _ e in (omega arith, omega arith)

-- ---- what a call for the records answers and leaves
-- the first row of the table
order_in_lem : (b : Bool) (rest : Answered Unit) → or_else (row (not b) Order) rest ≡ given tt → b ≡ true
order_in_lem true rest e = refl
order_in_lem false rest e = refused_given e

order_first : (n : ℕ) (l : List Float) (room : ℕ) → before_records n l room ≡ given tt → is_order n ≡ true
unfolding before_records
order_first n l room z = order_in_lem (is_order n) _ z

pub records_fit : (n : ℕ) (l : List Float) (values flags : ℕ) {room : ℕ} → room ≡ records_room values flags → given tt ≡ before_records n l room
    → (is_order n ≡ true) × (processors_of n * 3 ≤ values) × (processors_of n ≤ flags)
records_fit n l values flags {room = room} f h =
    let w = room_fits values flags (processors_of n) (rw f at (rw (← h) at (written_fits n l room))) in
    (order_first n l room (sym h), w.0, w.1)
