-- Document 01, "The printed sheet": what the program prints. Definitions only.
use Rattle.std.specs.Prelude.{ℕ, List}
use Rattle.refusal.specs.Answers.{Answered, given, refused}
use Rattle.listing_text.specs.Printed.{Printing, printing, refusal_of}
use Rattle.listing.specs.Listing.{ListingOutcome, list_of}

abbrev pub prints_by : Answered Unit → ListingOutcome → Printing
prints_by (given x) o = printing o.count o.bytes
prints_by (refused k values) o = refusal_of k o.bytes

-- Of the sheet b, in bytes that hold t: its listing, or the text line of its refusal.
unfoldable pub prints_of : List ℕ → List ℕ → Printing
prints_of b t = let o = list_of b t in prints_by o.answer o
