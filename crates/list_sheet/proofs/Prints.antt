-- What the program prints, from what its calls leave. Assumes nothing.
use Rattle.std.proofs.Common.{◌≡◌, ℕ, ◌≤◌, List, Ok, Err, length, sym, ap, length-take-le}
use Rattle.refusal.specs.Answers.{Answered, given, refused}
use Rattle.refusal.specs.Refusal.{number_of}
use Rattle.refusal.specs.declared.Refusal.{Refusal}
use Rattle.listing_text.specs.Printed.{printing, refusal_of}
use Rattle.listing_text.proofs.Room.{Within, refusal_within}
use Rattle.listing.specs.Listing.{ListingOutcome, listing_answered, list_of}
use Rattle.listing.proofs.ListingParts.{listing_within}
use Rattle.input_bytes.specs.Reads.{IsPrefixLen}
use Rattle.list_sheet.specs.Program.{prints_by, prints_of}

by_within : (a : Answered Unit) (o : ListingOutcome) → o.count ≤ length o.bytes → Within (prints_by a o)
by_within (given x) o h = h
by_within (refused k values) o h = refusal_within k o.bytes

module _ (b t : List ℕ) where
  prints_within : Within (prints_of b t)
  unfolding prints_of
  prints_within = by_within (list_of b t).answer (list_of b t) (listing_within b t)

  pub prints_counted : {k : ℕ} {l : List ℕ} → printing k l ≡ prints_of b t → IsPrefixLen k l
  prints_counted {k} {l} e = let h = rw (← e) at prints_within in (h, sym (length-take-le k l h))

  module _ {l : List ℕ} where
    pub accepted_printed : {k : ℕ} → listing_answered (Ok k) l ≡ list_of b t → printing k l ≡ prints_of b t
    unfolding prints_of
    accepted_printed h = ap (λ (o : ListingOutcome). prints_by o.answer o) h

    pub refused_printed : (r : Refusal) → listing_answered (Err r) l ≡ list_of b t → refusal_of (number_of r) l ≡ prints_of b t
    unfolding prints_of
    refused_printed r h = ap (λ (o : ListingOutcome). prints_by o.answer o) h
