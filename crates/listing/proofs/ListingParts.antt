-- What the reader, the run and the printer give together. Assumes nothing.
use Rattle.std.proofs.Common.{◌≡◌, ℕ, ◌*◌, ◌<◌, ◌≤◌, Bool, true, false, List, [], ◌∷◌, Err, length, refl, sym, ap, ◌∙◌, arith}
use Rattle.std.specs.Prelude.{Float}
use native.Mathlib.Nat.{mul-le-mul}
use borrow.Author.Tests.{lt-ltb, le-ltb}
use lib.Dec.{ltb}
use Rattle.refusal.specs.Answers.{Answered, given, refused, refused_by, giving, value_or, unless_refused, or_else, row, table}
use Rattle.refusal.specs.declared.Refusal.{Refusal}
use Rattle.refusal.specs.declared.Refusal.TheVariants.{TooShort}
use Rattle.refusal.proofs.FirstRefusal.{refused_given}
use Rattle.sizes.specs.Sizes.{is_order, largest_order}
use Rattle.sizes.proofs.Orders.{order_is}
use Rattle.matrix.specs.Matrix.{flat}
use Rattle.matrix.proofs.Flat.{flat_length}
use Rattle.runs.specs.Outcome.{Outcome, outcome, results_kept, before_run}
use Rattle.runs.specs.State.{zeros}
use Rattle.array_run.specs.declared.WholeReport as code
use Rattle.array_run.specs.Results.{WholeReport}
use Rattle.array_run.specs.Whole.{report_of, ticks_answered, whole_of}
use Rattle.sheet.specs.Format.{order_in, sweeps_in, codes_in, entry_in}
use Rattle.sheet_reader.specs.Reader.{sheet_answer, read_answer, ReadOutcome, read_outcome, reading_answered, content_of, read_of}
use Rattle.sheet_reader.proofs.Tables.{lent_right, readable}
use Rattle.listing_text.specs.Printed.{Printing, printing, print_of, room_for}
use Rattle.listing_text.proofs.Room.{Within, print_within}
use Rattle.listing.specs.Listing.{ListingOutcome, listed, listing_answered, listed_unless, list_of}

pub few_entries : (n : ℕ) → n ≤ largest_order → n * n ≤ 1024
few_entries n h = mul-le-mul h h

-- ---- the run
module _ (n sweeps : ℕ) (codes t : List ℕ) (o : Outcome WholeReport) where
  pub no_room : length t < room_for n → listing_answered (Err TooShort) t ≡ listed_unless (given tt) n sweeps codes o t
  unfolding listed_unless
  no_room h = rw (lt-ltb _ _ h)

  module _ (room : room_for n ≤ length t) {l e : List Float} where
    pub run_printed : (r : code.WholeReport) {p : Printing} → outcome (given (report_of r)) l e ≡ o → p ≡ print_of n sweeps r.ticks codes l e t
        → listed (given tt) p ≡ listed_unless (given tt) n sweeps codes o t
    unfolding listed_unless
    run_printed r h k = rw (le-ltb _ _ room, k, ← h)

    pub run_refused : (r : Refusal) → outcome (refused_by r) l e ≡ o → listing_answered (Err r) t ≡ listed_unless (given tt) n sweeps codes o t
    unfolding listed_unless
    run_refused r h = rw (le-ltb _ _ room, ← h)

-- a refusal leaves nothing to be seen of what would be printed
unseen_if_refused : (a : Answered Unit) (k : ℕ) (values : List ℕ) (p q : ListingOutcome) (left : Answered Unit → ListingOutcome)
    → unless_refused (or_else a (refused k values)) p left ≡ unless_refused (or_else a (refused k values)) q left
unseen_if_refused (given x) k values p q left = refl
unseen_if_refused (refused j w) k values p q left = refl

-- what the results hold before a run is not seen after it
module _ (n sweeps : ℕ) (codes t : List ℕ) (l : List Float) where
  unseen : (r v r' v' : List Float) (a : Answered Unit) (o : Outcome WholeReport)
      → listed_unless (given tt) n sweeps codes (unless_refused a o (results_kept r v)) t
      ≡ listed_unless (given tt) n sweeps codes (unless_refused a o (results_kept r' v')) t
  unfolding listed_unless
  unseen r v r' v' (given x) o = refl
  unseen r v r' v' (refused k values) o = unseen_if_refused (row (ltb (length t) (room_for n)) TooShort) k values _ _ _

  pub by_zeros : (r v : List Float) → length r ≡ n * n → length v ≡ n * n
      → listed_unless (given tt) n sweeps codes (whole_of n sweeps l r v) t
      ≡ listed_unless (given tt) n sweeps codes (whole_of n sweeps l (zeros n) (zeros n)) t
  unfolding whole_of zeros
  by_zeros r v e f = rw (flat_length n _, e, f) (unseen r v (zeros n) (zeros n) (before_run n sweeps l (n * n) (n * n)) _)

-- ---- the reading
module _ (b : List ℕ) where
  -- the buffers of a listing have the lengths that the order asks for, where there is one
  abbrev pub Fitting : (codes matrix result vectors : ℕ) → Type 0
  Fitting codes matrix result vectors =
      is_order (order_in b) ≡ true
      → (codes ≡ order_in b) × (matrix ≡ order_in b * order_in b) × (result ≡ order_in b * order_in b) × (vectors ≡ order_in b * order_in b)

  module _ (lc lm lr lv : ℕ) (fit : Fitting lc lm lr lv) where
    answers_alike : read_answer b lc lm ≡ sheet_answer b
    answers_alike = go (is_order (order_in b)) refl ∙ lent_right b
      where
        go : (o : Bool) → is_order (order_in b) ≡ o → read_answer b lc lm ≡ read_answer b (order_in b) (order_in b * order_in b)
        go true e = rw ((fit e).0, (fit e).1)
        go false e = unfold read_answer in (rw e)

  -- what was read: the order and the sweeps, the codes and the matrix
  pub record Content (lc lm n sweeps : ℕ) (codes : List ℕ) (l : List Float) : Type 0 where
    pub accepted : read_answer b lc lm ≡ given tt
    pub as_order : n ≡ order_in b
    pub as_sweeps : sweeps ≡ sweeps_in b
    pub as_codes : codes ≡ codes_in b
    pub as_matrix : l ≡ flat (order_in b) (entry_in b)

  module _ (c : List ℕ) (m : List Float) {codes : List ℕ} {l : List Float} where
    pub was_read : (n sweeps : ℕ) → read_outcome (given (n, sweeps)) codes l ≡ read_of b c m → Content (length c) (length m) n sweeps codes l
    unfolding read_of content_of
    was_read n sweeps h = go (read_answer b (length c) (length m)) refl h
      where
        go : (a : Answered Unit) → read_answer b (length c) (length m) ≡ a
            → read_outcome (given (n, sweeps)) codes l ≡ unless_refused a (content_of b) (λ (x : Answered (ℕ × ℕ)). read_outcome x c m)
            → Content (length c) (length m) n sweeps codes l
        go (given tt) e k =
            record {
              accepted = e;
              as_order = ap (λ (o : ReadOutcome). (value_or o.answer (0, 0)).0) k;
              as_sweeps = ap (λ (o : ReadOutcome). (value_or o.answer (0, 0)).1) k;
              as_codes = ap (λ (o : ReadOutcome). o.codes) k;
              as_matrix = ap (λ (o : ReadOutcome). o.matrix) k;
            }
        go (refused j values) e k = refused_given (sym (ap (λ (o : ReadOutcome). o.answer) k))

    was_refused : (r : Refusal) → read_outcome (reading_answered (Err r)) codes l ≡ read_of b c m → read_answer b (length c) (length m) ≡ refused_by r
    unfolding read_of content_of
    was_refused r h = go (read_answer b (length c) (length m)) refl h
      where
        go : (a : Answered Unit) → read_answer b (length c) (length m) ≡ a
            → read_outcome (refused_by r) codes l ≡ unless_refused a (content_of b) (λ (x : Answered (ℕ × ℕ)). read_outcome x c m)
            → read_answer b (length c) (length m) ≡ refused_by r
        go (given tt) e k = refused_given (ap (λ (o : ReadOutcome). o.answer) k)
        go (refused j values) e k = e ∙ sym (ap (λ (o : ReadOutcome). giving tt o.answer) k)

  pub within_limit : (lc lm n sweeps : ℕ) {codes : List ℕ} {l : List Float} → Content lc lm n sweeps codes l → n ≤ largest_order
  within_limit lc lm n sweeps q = rw q.as_order (order_is (order_in b) (readable b lc lm q.accepted).order).1

  -- ---- the listing
  module _ (c : List ℕ) (m r v : List Float) (t : List ℕ) (fit : Fitting (length c) (length m) (length r) (length v)) {codes : List ℕ} {l : List Float} where
    pub sheet_refused : (x : Refusal) → read_outcome (reading_answered (Err x)) codes l ≡ read_of b c m → listing_answered (Err x) t ≡ list_of b t
    unfolding list_of listed_unless
    sheet_refused x h = rw (← (answers_alike _ _ _ _ fit), was_refused c m x h)

    pub sheet_listed : (n sweeps : ℕ) {y : ListingOutcome} → Content (length c) (length m) n sweeps codes l
        → y ≡ listed_unless (given tt) n sweeps codes (whole_of n sweeps l r v) t → y ≡ list_of b t
    unfolding list_of
    sheet_listed n sweeps q k =
        let long = fit (readable b (length c) (length m) q.accepted).order in
        let same = by_zeros n sweeps codes t l r v (rw q.as_order long.2) (rw q.as_order long.3) in
        rw (← (answers_alike _ _ _ _ fit), q.accepted) (rw (q.as_matrix, q.as_codes, q.as_sweeps, q.as_order) at (k ∙ same))

-- ---- what is printed lies within the lent bytes
either_within : (a : Answered Unit) (p : Printing) (t : List ℕ) → Within p
    → let o = unless_refused a (listed (given tt) p) (λ (x : Answered Unit). listed x (printing 0 t)) in o.count ≤ length o.bytes
either_within (given x) p t h = h
either_within (refused k values) p t h = omega arith

unless_within : (a : Answered Unit) (n sweeps : ℕ) (codes : List ℕ) (o : Outcome WholeReport) (t : List ℕ)
    → let y = listed_unless a n sweeps codes o t in y.count ≤ length y.bytes
unfolding listed_unless
unless_within a n sweeps codes o t =
    either_within (table (a ∷ row (ltb (length t) (room_for n)) TooShort ∷ giving tt o.answer ∷ []))
    (print_of n sweeps (ticks_answered o.answer) codes o.result o.vectors t) t (print_within _ _ _ _ _ _ _)

pub listing_within : (b t : List ℕ) → let o = list_of b t in o.count ≤ length o.bytes
unfolding list_of
listing_within b t = unless_within _ _ _ _ _ _
