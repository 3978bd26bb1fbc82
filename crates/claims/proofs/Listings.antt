-- The listing of a sheet, each part by the law that proves it. Assumes nothing.
use Prim.Native.Nat.{ℕ, zero, suc, ◌*◌, ◌<◌, ◌≤◌}
use mathlib.Core.Path.{◌≡◌, refl, sym, ap, ◌∙◌}
use mathlib.Core.List.{List, [], ◌∷◌, ◌++◌}
use native.Mathlib.Omega.{arith}
use borrow.Author.Tests.{le-ltb}
use lib.Dec.{ltb}
use lib.ListN.{length, drop}
use lib.Ieee.{Float, of_bits, to_bits, add, sub, mul, div, lt, neg, is_nan}
use Rattle.refusal.specs.Answers.{Answered, given, refused, giving, unless_refused, row, table}
use Rattle.refusal.specs.declared.Refusal.TheVariants.{TooShort}
use Rattle.refusal.proofs.FirstRefusal.{refused_given}
use Rattle.refusal.proofs.RefusedOutcomes.{giving_was}
use Rattle.sizes.specs.Sizes.{is_order, ticks_of}
use Rattle.sizes.proofs.Orders.{order_half, steps_few}
use Rattle.matrix.specs.Matrix.{at, flat}
use Rattle.matrix.proofs.Flat.{flat_length, flat_fits}
use Rattle.runs.specs.State.{zeros}
use Rattle.runs.specs.Outcome.{Outcome, answering}
use Rattle.plain_run.specs.Run.{run_of}
use Rattle.plain_run.specs.Met.{pair_met, rounded_in, pairs_by}
use Rattle.plain_run.specs.Quiet.{sweeps_made, report_of}
use Rattle.plain_run.proofs.RunResults.{last_matrices}
use Rattle.plain_run.proofs.SweepsMade.{made_within, report_sweeps}
use Rattle.array_run.specs.Results.{WholeReport, reporting}
use Rattle.array_agreement.proofs.QuietRuns.{whole_report, whole_agrees}
use Rattle.sheet.specs.Format.{order_in, sweeps_in, codes_in, pattern_in, entry_in}
use Rattle.sheet_reader.specs.Reader.{sheet_answer}
use Rattle.sheet_reader.proofs.SheetContents.{codes_count}
use Rattle.sheet_reader.proofs.Tables.{lent_right, readable}
use Rattle.sheet_agreement.proofs.JointBlocks.{entry_fits}
use Rattle.listing_text.specs.Printed.{Printing, printing, print_of, refusal_of, head_of, text_line_of, text_lines_of, printed_of, room_for}
use Rattle.listing_text.proofs.PrintedTexts.{all_printed}
use Rattle.array_run.specs.Whole.{ticks_answered}
use Rattle.listing.specs.Listing.{listed, listed_unless, list_of}
use Rattle.claims.specs.Examples.{values}
use Rattle.claims.specs.Listings.{example_sheet, long_sheet}
use Rattle.float64.specs.Values.{finite}
use Rattle.root.specs.Sqrt.{root_units, sqrt_of}
use Rattle.root.specs.Exact.{exact_units, exact_root}
use Rattle.rotation.specs.Exact.{exact_pair}
use Rattle.lists.specs.Tabulate.{tabulate}
use Rattle.systolic.specs.Slots.{slot, came_from, into_last, prior, line_at, in_order_at, ordered_line}
use Rattle.lists.specs.Bounded.{any, count, total}
use Rattle.ordering.specs.Registers.{column, registers_of}
use Rattle.ordering.specs.Pairs.{registers_at}
use Rattle.rotation.specs.Rotation.{tangent_of_pair, tangent_of, cosine_of, quotient, signum, root_of, of_angle, of_tangent, of_pair}
use Rattle.refusal.specs.Answers.{first}
use Rattle.matrix.specs.Entries.{not_finite_at, not_mirrored_at, finite_row, mirror_row}
use Rattle.matrix_turns.specs.Turns.{turned_at, row_turn, column_turn, column_turn_all}
use Rattle.systolic.specs.Sequential.{place, pair_block}
use Rattle.runs.specs.Blocks.{ruled, ruled_exact, matrix_block}
use Rattle.plain_pair.specs.Pair.{pair_turned, pair_rotated}
use Rattle.runs.specs.State.{identity, bordered, start_of}
use Rattle.plain_run.specs.State.{pairs_rotated, after, not_finite_from, not_finite, spoiled}
use Rattle.runs.specs.Outcome.{before_run, outcome, report}
use Rattle.plain_run.specs.Run.{ran_of}
use Rattle.sheet.specs.Format.{word_from, entry_number, entries_to, width_in, code_in}
use Rattle.sheet.specs.Codes.{bad_codes, bad_code, long_codes}
use Rattle.sheet_reader.specs.Reader.{long_in_vain, stored_row, not_finite_in}
use Rattle.listing_text.specs.Printed.{value_field, column_of}
use Rattle.text.specs.Text.{decimal_of, shown_from, hex_of}
use Rattle.claims.specs.Listings.{run_in, ListingAnswers, ListingLeaves, codes_printed, sheet_printed, listed_as, RefusalPrints}
use Rattle.claims.specs.Listings.{example_print, ExamplesPrinted, ListingsAsStated}

by_answer : (a : Answered Unit) (p : Printing) (t : List ℕ) → (unless_refused a (listed (given tt) p) (λ (x : Answered Unit). listed x (printing 0 t))).answer
    ≡ a
by_answer (given tt) p t = refl
by_answer (refused k values) p t = refl

answers : ListingAnswers
unfolding list_of listed_unless
answers b t = by_answer _ _ t

left_alone : (a : Answered Unit) (p : Printing) (t : List ℕ) (k : ℕ) (values : List ℕ)
    → (unless_refused a (listed (given tt) p) (λ (x : Answered Unit). listed x (printing 0 t))).answer ≡ refused k values
    → ((unless_refused a (listed (given tt) p) (λ (x : Answered Unit). listed x (printing 0 t))).count ≡ 0)
    × ((unless_refused a (listed (given tt) p) (λ (x : Answered Unit). listed x (printing 0 t))).bytes ≡ t)
left_alone (given tt) p t k values e = refused_given (sym e)
left_alone (refused j w) p t k values e = (refl, refl)

leaves : ListingLeaves
unfolding list_of listed_unless
leaves b t k values e =
    let n = order_in b in
    left_alone (table (sheet_answer b ∷ row (ltb (length t) (room_for n)) TooShort ∷ giving tt (run_in b).answer ∷ []))
    (print_of n (sweeps_in b) (ticks_answered (run_in b).answer) (codes_in b) (run_in b).result (run_in b).vectors t) t k values e

-- ---- what is printed
codes_same : (n : ℕ) (codes : List ℕ) (A E : ℕ → ℕ → Float) (k : ℕ) → text_lines_of n codes A E k ≡ codes_printed n codes A E k
unfolding text_lines_of text_line_of codes_printed
codes_same n codes A E zero = refl
codes_same n codes A E (suc k) = rw (codes_same n codes A E k)

module _ (b : List ℕ) where
  abbrev n : ℕ
  n = order_in b

  abbrev plain : Outcome Unit
  plain = run_of n (sweeps_in b) (flat n (entry_in b)) (zeros n) (zeros n)

  abbrev made : ℕ
  made = sweeps_made n (sweeps_in b) (start_of n (flat n (entry_in b)))

  -- what it reports
  abbrev told : WholeReport
  told = whole_report n (sweeps_in b) (flat n (entry_in b))

  -- the array's run is the plain run
  agrees : run_in b ≡ answering told plain
  agrees = whole_agrees n (sweeps_in b) (flat n (entry_in b)) (zeros n) (zeros n) (flat_fits n (entry_in b) (entry_fits b))

  module _ (t : List ℕ) (d : WholeReport) (accepted : sheet_answer b ≡ given tt) (ran : (run_in b).answer ≡ given d) (room : room_for n ≤ length t) where
    abbrev ticks : ℕ
    ticks = d.ticks

    ran_so : (plain.answer ≡ given tt) × (d ≡ told)
    ran_so = giving_was told d plain.answer (sym (ap (λ (o : Outcome WholeReport). o.answer) agrees) ∙ ran)

    plain_ran : plain.answer ≡ given tt
    plain_ran = ran_so.0

    ticks_are : ticks ≡ ticks_of n made
    ticks_are = ap (λ (d : WholeReport). d.ticks) ran_so.1 ∙ ap (ticks_of n) (report_sweeps n (sweeps_in b) _)

    result_long : length (run_in b).result ≡ n * n
    result_long =
        ap (λ (o : Outcome WholeReport). length o.result) agrees ∙ ap length (last_matrices n (sweeps_in b) _ _ _ plain_ran).0 ∙ flat_length n _

    vectors_long : length (run_in b).vectors ≡ n * n
    vectors_long =
        ap (λ (o : Outcome WholeReport). length o.vectors) agrees ∙ ap length (last_matrices n (sweeps_in b) _ _ _ plain_ran).1 ∙ flat_length n _

    -- the printer is lent what it asks for
    printer : print_of n (sweeps_in b) ticks (codes_in b) (run_in b).result (run_in b).vectors t
        ≡ printing (length (sheet_printed b ticks)) (sheet_printed b ticks ++ drop (length (sheet_printed b ticks)) t)
    unfolding printed_of head_of
    printer =
        let w = readable b n (n * n) (lent_right b ∙ accepted) in
        let h = order_half n w.order in
        let within = made_within n (start_of n (flat n (entry_in b))) (sweeps_in b) in
        let k = steps_few n made w.order (omega (arith, within, w.few)) in
        let few : sweeps_in b < 10000 = omega (arith, w.few) in
        let fewer : ticks < 10000 = omega (arith, ticks_are) in
        rw (← (codes_same n (codes_in b) (at n (run_in b).result) (at n (run_in b).vectors) n))
        (all_printed n (sweeps_in b) ticks (codes_in b) (run_in b).result (run_in b).vectors t w.order few fewer (codes_count b) result_long
        vectors_long room)

    printed : list_of b t ≡ listed_as (sheet_printed b ticks) t
    unfolding list_of listed_unless
    printed = rw (accepted, le-ltb (length t) (room_for n) room, ran) (ap (listed (given tt)) printer)

-- ---- document 01's example, and the same with long codes
abbrev example_outcome : Outcome WholeReport
example_outcome =
    outcome (given (reporting (report 1 1) 4)) (values (0 ∷ 0 ∷ 0 ∷ 0x4000_0000_0000_0000 ∷ []))
    (values (0x3fe6_a09e_667f_3bcc ∷ 0x3fe6_a09e_667f_3bcc ∷ 0xbfe6_a09e_667f_3bcc ∷ 0x3fe6_a09e_667f_3bcc ∷ []))

example_ran : run_in example_sheet ≡ example_outcome
unfolding sqrt_of of_bits to_bits finite tabulate any slot came_from into_last prior line_at in_order_at ordered_line
    column registers_of registers_at is_order at
    flat first not_finite_at not_mirrored_at finite_row mirror_row turned_at row_turn column_turn column_turn_all of_angle of_tangent tangent_of_pair tangent_of
    cosine_of quotient signum root_of of_pair identity bordered ruled place pair_block matrix_block pair_turned pair_rotated pairs_rotated after not_finite_from
    not_finite spoiled before_run start_of ran_of run_of sweeps_made root_units exact_units exact_root
    exact_pair is_nan ruled_exact pair_met rounded_in count total
    pairs_by report_of zeros pattern_in entry_in width_in order_in word_from entry_number entries_to add sub mul div lt neg
example_ran = agrees example_sheet ∙ refl

-- the same matrix
long_ran : run_in long_sheet ≡ example_outcome
unfolding of_bits tabulate flat pattern_in entry_in width_in order_in word_from entry_number entries_to
long_ran = example_ran

module _ (t : List ℕ) (room : room_for 2 ≤ length t) where
  short_printed : list_of example_sheet t ≡ listed_as (example_print (0x37 ∷ []) (0x39 ∷ [])) t
  unfolding of_bits to_bits finite tabulate any is_order at flat first zeros pattern_in entry_in width_in order_in code_in codes_in word_from entry_number
      entries_to sheet_answer bad_codes bad_code long_codes long_in_vain stored_row not_finite_in
      codes_printed value_field column_of decimal_of shown_from hex_of
  short_printed = printed example_sheet t (reporting (report 1 1) 4) refl (ap (λ (o : Outcome WholeReport). o.answer) example_ran) room ∙ rw example_ran

  long_printed : list_of long_sheet t ≡ listed_as (example_print (0x33 ∷ 0x30 ∷ 0x30 ∷ []) (0x37 ∷ [])) t
  unfolding of_bits to_bits finite tabulate any is_order at flat first zeros pattern_in entry_in width_in order_in code_in codes_in word_from entry_number
      entries_to sheet_answer bad_codes bad_code long_codes long_in_vain stored_row not_finite_in
      codes_printed value_field column_of decimal_of shown_from hex_of
  long_printed = printed long_sheet t (reporting (report 1 1) 4) refl (ap (λ (o : Outcome WholeReport). o.answer) long_ran) room ∙ rw long_ran

  examples : ExamplesPrinted t
  examples = record { short = short_printed; long = long_printed }

-- ---- a refusal
refusal : RefusalPrints
unfolding refusal_of
refusal k t h = rw (le-ltb (length t) 13 h)

pub listings_as_stated : ListingsAsStated
listings_as_stated = record { answers = answers; leaves = leaves; prints = printed; examples = examples; refusal_prints = refusal }
