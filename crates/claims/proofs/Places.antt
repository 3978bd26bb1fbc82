-- A test of all entries finds the first in row order that fails, each test by the law that proves it. Assumes nothing.
use Prim.Native.Nat.{ℕ}
use mathlib.Core.Bool.{Bool}
use Rattle.refusal.specs.Answers.{Answered}
use Rattle.refusal.proofs.FirstPlaces as search
use Rattle.matrix.proofs.FirstEntries.{finite_searched, mirror_searched}
use Rattle.sheet_reader.proofs.SheetContents.{stored_searched}
use Rattle.claims.specs.Refusals.{Tested, all_good, first_bad, EntriesAreTested}

tested : {There : ℕ → ℕ → Type 0} {good : ℕ → ℕ → Bool} {number : ℕ} {t : Answered Unit} → search.Searched There good number t → Tested There good number t
tested (search.all_good f) = all_good f
tested (search.first_bad r c y e before) = first_bad r c (record { there = y; bad = e; good_before = before })

pub entries_tested : EntriesAreTested
entries_tested =
    record {
      not_finite = λ n l. tested (finite_searched n l);
      not_mirrored = λ n l. tested (mirror_searched n l);
      stored_not_finite = λ b. tested (stored_searched b);
    }
