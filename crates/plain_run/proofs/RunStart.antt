-- The two matrices that a run begins with. Assumes nothing.
use Prim.Native.Nat.{ℕ}
use mathlib.Core.Path.{◌≡◌, refl, sym, ap, ◌∙◌}
use mathlib.Core.Bool.{Bool, true, false, cond}
use mathlib.Core.List.{List}
use lib.Dec.{T, eqb}
use lib.ListN.{get_or}
use lib.Ieee.{Float, nan, binary64, fits, of_bits}
use Rattle.refusal.specs.Answers.{given}
use Rattle.float64.specs.Values.{plus_zero, one, finite}
use Rattle.float64.proofs.Vanishing.{Zero}
use Rattle.matrix.specs.Matrix.{at, flat}
use Rattle.matrix.specs.Entries.{entries_of}
use Rattle.matrix.proofs.SameEntries.{Same, Finite, Mirrored, read_again}
use Rattle.matrix.proofs.AcceptedEntries.{accepted_finite, accepted_mirrored}
use Rattle.runs.specs.State.{identity, bordered, start_of}
use Rattle.runs.proofs.Starts.{identity_mirrored}
use Rattle.runs.proofs.LineZero.{bordered_real, row_0, column_0}
use Rattle.plain_pair.specs.Pair.{state_of}
use Rattle.plain_pair.proofs.AlikeStates.{Alike}
use Rattle.plain_run.proofs.SpoiledRuns.{FiniteState}
use Rattle.plain_run.proofs.VanishingLine.{Blank, Vanishes}

identity_finite : (n : ℕ) → Finite n identity
unfolding identity finite of_bits
identity_finite n r c hr hc = go (eqb r c)
  where
    go : (b : Bool) → finite (cond b one plus_zero) ≡ true
    go true = refl
    go false = refl

-- ---- with line 0
pub real_entries : (n : ℕ) (A : ℕ → ℕ → Float) → Same n (bordered A) A
real_entries n A r c hr hc = bordered_real A r c hr.0 hc.0

border_blank : (A : ℕ → ℕ → Float) → Blank (bordered A)
border_blank A i = (rw (← (row_0 A 0 i refl)) plus_zero_lem, rw (← (column_0 A i 0 refl)) plus_zero_lem)
  where
    plus_zero_lem : Zero plus_zero
    plus_zero_lem = unfold of_bits in refl

module _ (n : ℕ) (l : List Float) where
  pub start_vanishes : Vanishes (start_of n l)
  unfolding start_of
  start_vanishes = record { blank_matrix = border_blank (at n l); blank_vectors = border_blank identity }

  pub start_alike : (e : List Float) → e ≡ flat n identity → Alike n (state_of n l e) (start_of n l)
  unfolding state_of start_of
  start_alike e z =
      record {
        matrices = λ r c hr hc. sym (real_entries n (at n l) r c hr hc);
        eigenvectors = λ r c hr hc.
            ap (λ (e : List Float). at n e c r) z ∙ read_again n identity c r hc hr ∙ identity_mirrored r c ∙ sym (real_entries n identity r c hr hc);
      }

  module _ (fitting : (k : ℕ) → T (fits binary64 (get_or l k nan))) (entries : entries_of n l ≡ given tt) where
    pub start_finite : FiniteState n (start_of n l)
    unfolding start_of
    start_finite =
        record {
          finite_matrix = λ r c hr hc. ap finite (real_entries n (at n l) r c hr hc) ∙ accepted_finite n l fitting entries r c hr hc;
          finite_vectors = λ r c hr hc. ap finite (real_entries n identity r c hr hc) ∙ identity_finite n r c hr hc;
        }

    pub start_mirrored : Mirrored n (start_of n l).matrix
    unfolding start_of
    start_mirrored r c hr hc =
        real_entries n (at n l) r c hr hc ∙ accepted_mirrored n l fitting entries r c hr hc ∙ sym (real_entries n (at n l) c r hc hr)
