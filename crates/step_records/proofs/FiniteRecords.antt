-- The records that a call writes hold finite values. Assumes nothing.
use Prim.Native.Nat.{ℕ, ◌<◌}
use mathlib.Core.Path.{◌≡◌, refl, sym, subst}
use mathlib.Core.Bool.{Bool, true, false}
use mathlib.Core.List.{List}
use borrow.Author.Tests.{ltb-true, ltb-false}
use lib.Dec.{T, ltb}
use lib.ListN.{length, get_or}
use lib.Ieee.{Float, nan, binary64, fits, of_bits}
use Rattle.refusal.specs.Answers.{given}
use Rattle.float64.specs.Values.{finite}
use Rattle.sizes.specs.Sizes.{processors_of, still_of}
use Rattle.ordering.specs.Pairs.{registers_at}
use Rattle.ordering.proofs.RegisterLines.{pair_real}
use Rattle.rotation.specs.declared.Parameters.{Parameters}
use Rattle.rotation.specs.declared.Parameters.TheVariants.{Still, Turn}
use Rattle.rotation.proofs.TurnBounds.{AllFinite, parameters_finite}
use Rattle.matrix.specs.Matrix.{at}
use Rattle.matrix.proofs.AcceptedEntries.{accepted_finite}
use Rattle.runs.specs.Blocks.{ruled}
use Rattle.runs.proofs.LineZero.{always_still, not_still}
use Rattle.matrix_turns.specs.Turns.{parameters_of}
use Rattle.step_records.specs.declared.Record.{Record}
use Rattle.step_records.specs.Records.{record_with, records_of}
use Rattle.step_records.proofs.FoundRecords.{accepted_call, answer_given, record_found}

abbrev pub FiniteRecord : Record → Type 0
FiniteRecord r = (finite r.t ≡ true) × (finite r.c ≡ true) × (finite r.s ≡ true)

finite_record : (P : Parameters) (exact : Bool) → AllFinite P → FiniteRecord (record_with P exact)
finite_record Still exact h = unfold finite of_bits in (refl, refl, refl)
finite_record (Turn t c s) exact h = h

module _ (n : ℕ) (l : List Float) (step : ℕ) (ys : List Record) (other : Record) (fitting : (k : ℕ) → T (fits binary64 (get_or l k nan))) where
  fits_at : (r c : ℕ) → T (fits binary64 (at n l r c))
  unfolding at
  fits_at r c = fitting _

  pub records_finite : (records_of n l step ys).answer ≡ given tt → (k : ℕ) → k < processors_of n → FiniteRecord (get_or (records_of n l step ys).row k other)
  records_finite e k below = subst FiniteRecord (sym (record_found n l step ys other e k below)) (finite_record (ruled n k P) _ (go (ltb k (still_of n)) refl))
    where
      p : ℕ
      p = get_or (registers_at n step).left k 0

      q : ℕ
      q = get_or (registers_at n step).right k 0

      P : Parameters
      P = parameters_of p q (at n l)

      go : (b : Bool) → ltb k (still_of n) ≡ b → AllFinite (ruled n k P)
      go true h = subst AllFinite (always_still n k P (ltb-true _ _ h)) tt
      go false h =
          let w = accepted_call n l (length ys) (answer_given n l step ys e) in
          let two = pair_real n w.order step k below (ltb-false _ _ h) in
          let f = accepted_finite n l fitting w.entries in
          subst AllFinite (not_still n k P (ltb-false _ _ h))
          (parameters_finite (at n l p p) (at n l q q) (at n l p q) (fits_at p p) (fits_at q q) (f p p (two.0, two.1) (two.0, two.1))
          (f q q (two.2, two.3) (two.2, two.3)) (f p q (two.0, two.1) (two.2, two.3)))
