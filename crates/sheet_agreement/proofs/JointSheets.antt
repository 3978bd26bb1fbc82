-- The joint sheet of two accepted sheets is what the writer writes of the joint content, and is read back as it. Assumes nothing.
use Prim.Native.Nat.{ℕ, ◌*◌, ◌<◌, ◌≤◌}
use mathlib.Core.Path.{◌≡◌, sym, ap, ◌∙◌}
use mathlib.Core.Bool.{false}
use mathlib.Core.List.{List}
use native.Mathlib.Omega.{arith}
use lib.Dec.{T}
use lib.ListN.{length, get_or, take}
use lib.Ieee.{Float, nan, binary64, fits}
use Rattle.float64.specs.Values.{finite}
use Rattle.refusal.specs.Answers.{given}
use Rattle.refusal.proofs.RefusedOutcomes.{giving_was}
use Rattle.sizes.specs.Sizes.{most_sweeps}
use Rattle.sizes.proofs.Orders.{order_is}
use Rattle.matrix.specs.Matrix.{at}
use Rattle.matrix.proofs.SameEntries.{Line, Finite, Mirrored}
use Rattle.matrix.proofs.AcceptedEntries.{accepted_if}
use Rattle.matrix.proofs.Flat.{flat_length, flat_fits}
use Rattle.sheet.specs.Codes.{bad_codes}
use Rattle.sheet.specs.Format.{long_form, sheet_of, order_in, sweeps_in, codes_in, entry_in}
use Rattle.sheet_reader.specs.Reader.{sheet_answer, ReadOutcome, read_outcome, read_of}
use Rattle.sheet_reader.proofs.AcceptedSheets.{readable_alone, entries_finite, entries_mirrored}
use Rattle.sheet_reader.proofs.Tables.{Readable, lent_right}
use Rattle.sheet_writer.specs.Writer.{write_answer, write_of}
use Rattle.sheet_writer.proofs.SheetBytes.{write_accepted_as}
use Rattle.sheet_writer.proofs.Tables.{writable_accepted}
use Rattle.sheet_join.specs.Join.{joint_order, joint_sweeps, joint_codes, joint_matrix, joint_length, blocks, join_answer, joined_of, join_of}
use Rattle.sheet_join.proofs.JoinOutcomes.{join_answers}
use Rattle.sheet_join.proofs.JointContents.{joint_count, placed}
use Rattle.sheet_join.proofs.Tables.{Joinable, joinable}
use Rattle.sheet_agreement.proofs.JointBlocks.{blocks_finite, blocks_mirrored, blocks_fit}
use Rattle.sheet_agreement.proofs.JointCodes.{both16, codes16, joint_good}
use Rattle.sheet_agreement.proofs.RoundTrip.{Codes16, fit_at, sheet_first, reads}
use Rattle.sheet_agreement.proofs.RoundTrip.{order_back, sweeps_back, codes_back, entry_back, read_back}

-- every number is a byte's, as those of a lent slice are
abbrev pub Bytes : List ℕ → Type 0
Bytes b = (i : ℕ) → get_or b i 0 < 256

-- the joint sheet
abbrev pub joint_sheet : List ℕ → List ℕ → List ℕ
joint_sheet b d = sheet_of (joint_order b d) (joint_sweeps b d) (joint_codes b d) (at (joint_order b d) (joint_matrix b d))

-- the answer of a joining is that of its tests
pub joins : (b d l : List ℕ) (count : ℕ) → (join_of b d l).answer ≡ given count
    → (join_answer b d (length l) ≡ given tt) × (join_of b d l ≡ joined_of b d l) × (count ≡ joint_length b d)
unfolding join_of
joins b d l count e =
    let v = giving_was (joint_length b d) count (join_answer b d (length l)) (sym (join_answers b d l) ∙ e) in
    (v.0, rw v.0, v.1)

-- the bytes that it wrote are the joint sheet
pub joint_left : (b d l : List ℕ) (count : ℕ) → (join_of b d l).answer ≡ given count → take count (join_of b d l).bytes ≡ joint_sheet b d
joint_left b d l count e =
    let v = joins b d l count e in
    rw (v.1, v.2) (sheet_first (joint_order b d) (joint_sweeps b d) (joint_codes b d) (joint_matrix b d) l)

module _ (b d : List ℕ) (small : Bytes b) (small' : Bytes d) (lb : ℕ) (accepted : join_answer b d lb ≡ given tt) where
  abbrev n : ℕ
  n = joint_order b d

  abbrev entries : ℕ → ℕ → Float
  entries = blocks (order_in b) (entry_in b) (entry_in d)

  known : Joinable b d lb
  known = joinable b d lb accepted

  first_known : Readable b (order_in b) (order_in b * order_in b)
  first_known = readable_alone b known.first_good

  second_known : Readable d (order_in d) (order_in d * order_in d)
  second_known = readable_alone d known.second_good

  few_sweeps : joint_sweeps b d ≤ most_sweeps
  few_sweeps = let few = first_known.few in let few' = second_known.few in omega arith

  -- the codes and the entries are numbers of their sizes
  codes_fit : Codes16 (joint_codes b d)
  unfolding joint_codes
  codes_fit = both16 (codes_in b) (codes_in d) (codes16 b small) (codes16 d small')

  codes_good : bad_codes (joint_codes b d) ≡ false
  unfolding joint_codes
  codes_good = joint_good (codes_in b) (codes_in d) first_known.codes_good second_known.codes_good known.apart

  entries_fit : (k : ℕ) → T (fits binary64 (get_or (joint_matrix b d) k nan))
  unfolding joint_matrix
  entries_fit = flat_fits n entries (blocks_fit b d (order_in b))

  matrix_long : length (joint_matrix b d) ≡ n * n
  unfolding joint_matrix
  matrix_long = flat_length n entries

  all_finite : Finite n (at n (joint_matrix b d))
  all_finite i j hi hj =
      ap finite (placed b d i j hi hj)
      ∙ blocks_finite (order_in b) (order_in d) (entry_in b) (entry_in d) (entries_finite b _ _ first_known) (entries_finite d _ _ second_known) i j hi hj

  all_mirrored : Mirrored n (at n (joint_matrix b d))
  all_mirrored i j hi hj =
      placed b d i j hi hj
      ∙ blocks_mirrored (order_in b) (order_in d) (entry_in b) (entry_in d) (entries_mirrored b (order_in b)) (entries_mirrored d (order_in d)) i j hi hj
      ∙ sym (placed b d j i hj hi)

  -- the writer accepts the joint content
  pub joint_writable : write_answer (joint_order b d) (joint_sweeps b d) (joint_codes b d) (joint_matrix b d) lb ≡ given tt
  joint_writable =
      writable_accepted n (joint_sweeps b d) (joint_codes b d) (joint_matrix b d) lb (record {
        order = known.order;
        few = few_sweeps;
        codes_long = joint_count b d;
        matrix_long = matrix_long;
        codes_good = codes_good;
        entries_good = accepted_if n (joint_matrix b d) matrix_long all_finite all_mirrored;
        room = known.room;
      })

  below : n < long_form
  below = let o = order_is n known.order in omega (arith, o.1)

  -- what is read from the joint sheet
  pub joint_order_lem : order_in (joint_sheet b d) ≡ joint_order b d
  joint_order_lem = order_back n (joint_sweeps b d) (joint_codes b d) (at n (joint_matrix b d)) below

  pub joint_sweeps_lem : sweeps_in (joint_sheet b d) ≡ joint_sweeps b d
  joint_sweeps_lem = sweeps_back n (joint_sweeps b d) (joint_codes b d) (at n (joint_matrix b d))

  pub joint_codes_lem : codes_in (joint_sheet b d) ≡ joint_codes b d
  joint_codes_lem = codes_back n (joint_sweeps b d) (joint_codes b d) (at n (joint_matrix b d)) below codes_fit (joint_count b d)

  pub joint_entry : (i j : ℕ) → Line (joint_order b d) i → Line (joint_order b d) j
      → entry_in (joint_sheet b d) i j ≡ blocks (order_in b) (entry_in b) (entry_in d) i j
  joint_entry i j hi hj =
      entry_back n (joint_sweeps b d) (joint_codes b d) (at n (joint_matrix b d)) below (fit_at n (joint_matrix b d) entries_fit) all_mirrored i j hi hj
      ∙ placed b d i j hi hj

  pub joint_read : (c : List ℕ) (m : List Float) → length c ≡ joint_order b d → length m ≡ joint_order b d * joint_order b d
      → read_of (joint_sheet b d) c m ≡ read_outcome (given (joint_order b d, joint_sweeps b d)) (joint_codes b d) (joint_matrix b d)
  joint_read = read_back n (joint_sweeps b d) (joint_codes b d) (joint_matrix b d) lb codes_fit entries_fit joint_writable

  -- it is accepted
  pub joint_accepted : sheet_answer (joint_sheet b d) ≡ given tt
  joint_accepted =
      let as_read = joint_read (joint_codes b d) (joint_matrix b d) (joint_count b d) matrix_long in
      let fine = (reads (joint_sheet b d) (joint_codes b d) (joint_matrix b d) n (joint_sweeps b d) (ap (λ (o : ReadOutcome). o.answer) as_read)).0 in
      sym (lent_right (joint_sheet b d)) ∙ rw joint_order_lem (rw (joint_count b d, matrix_long) at fine)

-- a joining leaves what the writer leaves of the joint content
pub join_as_writing : (b d l : List ℕ) (count : ℕ) → Bytes b → Bytes d → (join_of b d l).answer ≡ given count
    → join_of b d l ≡ write_of (joint_order b d) (joint_sweeps b d) (joint_codes b d) (joint_matrix b d) l
join_as_writing b d l count small small' e =
    let v = joins b d l count e in
    write_accepted_as (joint_order b d) (joint_sweeps b d) (joint_codes b d) (joint_matrix b d) l (sym (joint_writable b d small small' (length l) v.0)) v.1
