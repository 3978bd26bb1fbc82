-- What is written is read back, and what is accepted is written again. Assumes nothing.
use Prim.Native.Nat.{ℕ, ◌+◌, ◌-◌, ◌*◌, ◌/◌, ◌%◌, ◌<◌, ◌≤◌}
use mathlib.Core.Path.{◌≡◌, refl, sym, ap, ◌∙◌}
use mathlib.Core.Bool.{Bool, true, false, not, cond, ◌&&◌}
use mathlib.Core.List.{List, ◌++◌}
use native.Mathlib.Nat.{div-add-mod, mod-lt}
use native.Mathlib.Omega.{arith}
use borrow.Author.Tests.{le-ltb, eqb-true, eqb-false, ltb-true, ltb-false}
use lib.Dec.{T, eqb, ltb}
use lib.ListN.{length, get_or, take, drop}
use lib.Seq.{take_at}
use lib.Ieee.{Float, nan, binary64, fits, of_bits, to_bits}
use lib.Ieee.Bits.{of_bits-to_bits, to_bits-lt}
use Rattle.float64.specs.Values.{finite}
use Rattle.refusal.specs.Answers.{Answered, given, refused, unless_refused, value_or, first}
use Rattle.lists.specs.Tabulate.{tabulate}
use Rattle.lists.proofs.Tabulated.{get_d_tabulate, tabulated}
use Rattle.sizes.proofs.Orders.{order_is}
use Rattle.matrix.specs.Matrix.{at, flat}
use Rattle.matrix.proofs.SameEntries.{Line, Finite, Mirrored, flat_same, flat_again, read_again}
use Rattle.refusal.proofs.FirstRefusal.{first_fine, refused_given}
use Rattle.matrix.proofs.AcceptedEntries.{accepted_finite, accepted_mirrored, accepted_if}
use Rattle.matrix.proofs.Flat.{flat_length}
use Rattle.sheet.specs.Format.{long_form, first_byte, sheet_length, entries_from, entry_place, entries_to, entry_number, byte_of, word_from, length_for}
use Rattle.sheet.specs.Format.{sheet_byte, sheet_of, width_in, order_in, sweeps_in, length_in, code_in, codes_in, pattern_in, entry_in}
use Rattle.sheet.specs.Codes.{bad_codes, long_codes, width_for}
use Rattle.sheet.proofs.Words.{word_whole, byte_back as byte-of-word}
use Rattle.sheet.proofs.Triangle.{code_ends, code_number, length_is_lem, number_below, numbered, place_within, place_of_number}
use Rattle.sheet.proofs.Forms.{width_fits, first_kept, width_for_fits, codes_fit, both_again}
use Rattle.sheet_reader.specs.Reader.{long_in_vain, not_finite_in, stored_row, read_answer, read_outcome, content_of, read_of}
use Rattle.sheet_reader.proofs.AcceptedSheets.{pattern_kept, width_kept, entries_finite, entries_mirrored}
use Rattle.sheet_reader.proofs.SheetContents.{is_finite, codes_count, code_at, all_read, read_accepted_as}
use Rattle.sheet_reader.proofs.Tables.{Readable, readable, readable_accepted}
use Rattle.sheet_writer.specs.Writer.{write_answer, write_outcome, overwritten, written_of, write_of}
use Rattle.sheet_writer.proofs.Tables.{Writable, writable, writable_accepted}
use Rattle.sheet_writer.proofs.SheetBytes.{sheet_long, byte_0, byte_1, byte_code, byte_entry, write_accepted_as}

-- every code is a number of two bytes, as those of a lent slice are
abbrev pub Codes16 : List ℕ → Type 0
Codes16 codes = (k : ℕ) → get_or codes k 0 < 65536

-- ---- what stands in a sheet that was written
module _ (n sweeps : ℕ) (codes : List ℕ) (A : ℕ → ℕ → Float) where
  abbrev sheet : List ℕ
  sheet = sheet_of n sweeps codes A

  abbrev w : ℕ
  w = width_for codes

  sheet_at : (k : ℕ) → k < length_for n codes → get_or sheet k 0 ≡ sheet_byte w n sweeps codes A k
  unfolding sheet_of
  sheet_at k h = get_d_tabulate (length_for n codes) _ k 0 h

  pub first_back : get_or sheet 0 0 ≡ first_byte w n
  first_back = sheet_at 0 (omega arith) ∙ sym (byte_0 w n sweeps codes A)

  pub sweeps_back : sweeps_in sheet ≡ sweeps
  sweeps_back = sheet_at 1 (omega arith) ∙ sym (byte_1 w n sweeps codes A)

  -- byte q of code k
  pub code_byte : (k q : ℕ) → k < n → q < w → get_or sheet (2 + w * k + q) 0 ≡ byte_of w (get_or codes k 0) q
  code_byte k q h r = sheet_at (2 + w * k + q) (omega (arith, code_ends w n k h)) ∙ sym (byte_code w n sweeps codes A k q h r)

  -- byte r of an entry
  pub entry_byte : (i j : ℕ) → 1 ≤ j → j ≤ i → i ≤ n → (r : ℕ) → r < 8
      → get_or sheet (entries_from w n + 8 * entry_number i j + r) 0 ≡ byte_of 8 (to_bits binary64 (A i j)) r
  entry_byte i j h k o r b =
      sheet_at (entries_from w n + 8 * entry_number i j + r) (omega (arith, length_is_lem w n, number_below n i j h k o))
      ∙ sym (byte_entry w n sweeps codes A (entry_number i j) r b)
      ∙ ap (λ (p : ℕ × ℕ). byte_of 8 (to_bits binary64 (A p.0 p.1)) r) (place_of_number i j h k)

  module _ (below : n < long_form) where
    form_back : (width_in sheet ≡ w) × (order_in sheet ≡ n)
    form_back = both_again w n (width_for_fits codes) below sheet first_back

    pub width_back : width_in sheet ≡ w
    width_back = form_back.0

    pub order_back : order_in sheet ≡ n
    order_back = form_back.1

    pub codes_back : Codes16 codes → length codes ≡ n → codes_in sheet ≡ codes
    unfolding codes_in code_in
    codes_back fit e =
        ap (λ (m : ℕ). tabulate m (code_in (width_in sheet) sheet)) order_back ∙ ap (λ (v : ℕ). tabulate n (code_in v sheet)) width_back
        ∙ sym (tabulated n _ codes 0 e (λ k h. sym (code_back k h)))
      where
        code_back : (k : ℕ) → k < n → word_from sheet (2 + w * k) w ≡ get_or codes k 0
        code_back k h =
            word_whole sheet (2 + w * k) w (get_or codes k 0) (codes_fit codes fit k (omega (arith, e))) (λ q r. code_byte k q h r)

    pattern_back : (i j : ℕ) → 1 ≤ j → j ≤ i → i ≤ n → T (fits binary64 (A i j)) → pattern_in sheet i j ≡ to_bits binary64 (A i j)
    unfolding pattern_in
    pattern_back i j h k o f =
        ap (λ (v : ℕ). word_from sheet (entries_from v (order_in sheet) + 8 * entry_number i j) 8) width_back
        ∙ ap (λ (m : ℕ). word_from sheet (entries_from w m + 8 * entry_number i j) 8) order_back
        ∙ word_whole sheet (entries_from w n + 8 * entry_number i j) 8 (to_bits binary64 (A i j)) (to_bits-lt binary64 (A i j) f) (entry_byte i j h k o)

    module _ (fitting : (i j : ℕ) → T (fits binary64 (A i j))) where
      value_back : (i j : ℕ) → 1 ≤ j → j ≤ i → i ≤ n → of_bits binary64 (pattern_in sheet i j) ≡ A i j
      value_back i j h k o = ap (of_bits binary64) (pattern_back i j h k o (fitting i j)) ∙ of_bits-to_bits binary64 (A i j) (fitting i j)

      pub entry_back : Mirrored n A → (i j : ℕ) → Line n i → Line n j → entry_in sheet i j ≡ A i j
      unfolding entry_in
      entry_back m i j hi hj = go (ltb i j) refl
        where
          go : (b : Bool) → ltb i j ≡ b → cond b (of_bits binary64 (pattern_in sheet j i)) (of_bits binary64 (pattern_in sheet i j)) ≡ A i j
          go true z = let u : i < j = ltb-true _ _ z in value_back j i hi.0 (omega arith) hj.1 ∙ m j i hj hi
          go false z = let u : j ≤ i = ltb-false _ _ z in value_back i j hj.0 (omega arith) hi.1

      pub matrix_back : Mirrored n A → flat (order_in sheet) (entry_in sheet) ≡ flat n A
      matrix_back m = ap (λ (k : ℕ). flat k (entry_in sheet)) order_back ∙ flat_same n _ _ (entry_back m)

      -- ---- it is accepted
      stored_fine : Finite n A → stored_row sheet ≡ given tt
      unfolding stored_row
      stored_fine f =
          ap (λ (k : ℕ). first k (λ r. first r (not_finite_in sheet r))) order_back
          ∙ first_fine _ n (λ r h. first_fine _ (r + 1) (λ c k. fine (r + 1) (c + 1) (omega arith) (omega arith) (omega arith)))
        where
          fine : (r c : ℕ) → 1 ≤ c → c ≤ r → r ≤ n → not_finite_in sheet r c ≡ given tt
          fine r c h k o = is_finite sheet r c (ap finite (value_back r c h k o) ∙ f r c (omega arith, o) (h, omega arith))

    -- its form is that of its codes
    form_fine : Codes16 codes → length codes ≡ n → long_in_vain sheet ≡ false
    unfolding long_in_vain width_for
    form_fine fit e = rw (codes_back fit e, width_back) (go (long_codes codes))
      where
        go : (x : Bool) → (eqb (cond x 2 1) 2 && not x) ≡ false
        go true = refl
        go false = refl

-- the entries of an accepted matrix
pub fit_at : (n : ℕ) (l : List Float) → ((k : ℕ) → T (fits binary64 (get_or l k nan))) → (i j : ℕ) → T (fits binary64 (at n l i j))
unfolding at
fit_at n l fitting i j = fitting _

-- what the writer accepts has an order below 128
small_order : (n sweeps : ℕ) (codes : List ℕ) (l : List Float) (lb : ℕ) → Writable n sweeps codes l lb → n < long_form
small_order n sweeps codes l lb v = let o = order_is n v.order in omega (arith, o.1)

entries_back : (n sweeps : ℕ) (codes : List ℕ) (l : List Float) (lb : ℕ) → ((k : ℕ) → T (fits binary64 (get_or l k nan)))
    → write_answer n sweeps codes l lb ≡ given tt
    → flat (order_in (sheet_of n sweeps codes (at n l))) (entry_in (sheet_of n sweeps codes (at n l))) ≡ l
entries_back n sweeps codes l lb fitting e =
    let v = writable n sweeps codes l lb e in
    matrix_back n sweeps codes (at n l) (small_order n sweeps codes l lb v) (fit_at n l fitting) (accepted_mirrored n l fitting v.entries_good)
    ∙ sym (flat_again n l v.matrix_long)

-- What a writer accepts is read back as the same codes, sweeps and entries.
pub read_back : (n sweeps : ℕ) (codes : List ℕ) (l : List Float) (lb : ℕ) → Codes16 codes → ((k : ℕ) → T (fits binary64 (get_or l k nan)))
    → write_answer n sweeps codes l lb ≡ given tt
    → (c : List ℕ) (m : List Float) → length c ≡ n → length m ≡ n * n
    → read_of (sheet_of n sweeps codes (at n l)) c m ≡ read_outcome (given (n, sweeps)) codes l
read_back n sweeps codes l lb fit fitting e c m lc lm = sym (read_accepted_as b c m (sym accepted) (sym content))
  where
    b : List ℕ
    b = sheet_of n sweeps codes (at n l)

    v : Writable n sweeps codes l lb
    v = writable n sweeps codes l lb e

    below : n < long_form
    below = small_order n sweeps codes l lb v

    order_is_n : order_in b ≡ n
    order_is_n = order_back n sweeps codes (at n l) below

    sweeps_is : sweeps_in b ≡ sweeps
    sweeps_is = sweeps_back n sweeps codes (at n l)

    codes_are : codes_in b ≡ codes
    codes_are = codes_back n sweeps codes (at n l) below fit v.codes_long

    matrix_is : flat (order_in b) (entry_in b) ≡ l
    matrix_is = entries_back n sweeps codes l lb fitting e

    content : content_of b ≡ read_outcome (given (n, sweeps)) codes l
    content = sym (all_read b (sym order_is_n) (refl {a = codes_in b}) (refl {a = flat n (entry_in b)}))
        ∙ rw (sweeps_is, codes_are) (ap (read_outcome (given (n, sweeps)) codes) (rw order_is_n at matrix_is))

    accepted : read_answer b (length c) (length m) ≡ given tt
    accepted =
        let z = sheet_long n sweeps codes (at n l) in
        readable_accepted b (length c) (length m) (record {
          head = omega arith;
          order = rw order_is_n v.order;
          few = rw sweeps_is v.few;
          codes_long = lc ∙ sym order_is_n;
          matrix_long = rw order_is_n lm;
          sheet_long = rw (width_back n sweeps codes (at n l) below, order_is_n) z;
          codes_good = ap bad_codes codes_are ∙ v.codes_good;
          form_good = form_fine n sweeps codes (at n l) below fit v.codes_long;
          entries_good = stored_fine n sweeps codes (at n l) below (fit_at n l fitting) (accepted_finite n l fitting v.entries_good);
        })

-- ---- a sheet that is accepted
module _ (b : List ℕ) (small : (i : ℕ) → get_or b i 0 < 256) (lc lm : ℕ) (r : Readable b lc lm) where
  abbrev n : ℕ
  n = order_in b

  -- byte q of code k
  code_again : (k q : ℕ) → k < n → q < width_in b → byte_of (width_in b) (get_or (codes_in b) k 0) q ≡ get_or b (2 + width_in b * k + q) 0
  unfolding code_in
  code_again k q h o = ap (λ (v : ℕ). byte_of (width_in b) v q) (code_at b k h) ∙ byte-of-word b (2 + width_in b * k) small (width_in b) q o

  -- byte q of entry e
  entry_again : (A : ℕ → ℕ → Float) → ((i j : ℕ) → 1 ≤ j → j ≤ i → i ≤ n → A i j ≡ of_bits binary64 (pattern_in b i j)) → (e q : ℕ) → e < entries_to n → q < 8
      → byte_of 8 (to_bits binary64 (A (entry_place e).0 (entry_place e).1)) q ≡ get_or b (entries_from (width_in b) n + 8 * e + q) 0
  entry_again A same e q h k =
      let p = numbered e in
      let o = place_within n e h in
      ap (λ (x : Float). byte_of 8 (to_bits binary64 x) q) (same _ _ p.above p.within o)
      ∙ ap (λ (v : ℕ). byte_of 8 v q) (pattern_kept b lc lm r small _ _ p.above p.within o)
      ∙ unfold pattern_in in (byte-of-word b (entries_from (width_in b) n + 8 * entry_number (entry_place e).0 (entry_place e).1) small 8 q k)
      ∙ ap (λ (x : ℕ). get_or b (entries_from (width_in b) n + 8 * x + q) 0) p.number

  -- written from what was read, it is the same bytes
  module _ (A : ℕ → ℕ → Float) (same : (i j : ℕ) → 1 ≤ j → j ≤ i → i ≤ n → A i j ≡ of_bits binary64 (pattern_in b i j)) where
    abbrev u : ℕ
    u = width_in b

    byte_again : (k : ℕ) → k < length_in b → get_or b k 0 ≡ sheet_byte u n (sweeps_in b) (codes_in b) A k
    byte_again k h = go (eqb k 0) (eqb k 1) (ltb k (entries_from u n)) refl refl refl
      where
        code : 2 ≤ k → k < entries_from u n → get_or b k 0 ≡ sheet_byte u n (sweeps_in b) (codes_in b) A k
        code l o =
            let fit = width_fits b in
            let c : (k - 2) / u < n = code_number u n (k - 2) fit.0 (omega arith) in
            let q : (k - 2) % u < u = mod-lt (k - 2) fit.0 in
            let e : 2 + u * ((k - 2) / u) + (k - 2) % u ≡ k = omega (arith, div-add-mod (k - 2) u) in
            ap (λ (x : ℕ). get_or b x 0) (sym e) ∙ sym (code_again ((k - 2) / u) ((k - 2) % u) c q)
            ∙ byte_code u n (sweeps_in b) (codes_in b) A ((k - 2) / u) ((k - 2) % u) c q ∙ ap (sheet_byte u n (sweeps_in b) (codes_in b) A) e

        entry : entries_from u n ≤ k → get_or b k 0 ≡ sheet_byte u n (sweeps_in b) (codes_in b) A k
        entry l =
            let d = (k - entries_from u n) / 8 in
            let q = (k - entries_from u n) % 8 in
            let e : entries_from u n + 8 * ((k - entries_from u n) / 8) + (k - entries_from u n) % 8 ≡ k = omega arith in
            ap (λ (x : ℕ). get_or b x 0) (sym e)
            ∙ sym (entry_again A same d q (omega (arith, length_is_lem u n)) (omega arith))
            ∙ byte_entry u n (sweeps_in b) (codes_in b) A d q (omega arith) ∙ ap (sheet_byte u n (sweeps_in b) (codes_in b) A) e

        go : (x y z : Bool) → eqb k 0 ≡ x → eqb k 1 ≡ y → ltb k (entries_from u n) ≡ z → get_or b k 0 ≡ sheet_byte u n (sweeps_in b) (codes_in b) A k
        go true y z e f g =
            let zero_th : k ≡ 0 = eqb-true _ _ e in
            rw zero_th (sym (first_kept b) ∙ byte_0 u n (sweeps_in b) (codes_in b) A)
        go false true z e f g = let first_th : k ≡ 1 = eqb-true _ _ f in rw first_th (byte_1 u n (sweeps_in b) (codes_in b) A)
        go false false true e f g =
            let x : ¬ (k ≡ 0) = eqb-false _ _ e in
            let y : ¬ (k ≡ 1) = eqb-false _ _ f in
            code (omega arith) (ltb-true _ _ g)
        go false false false e f g = entry (ltb-false _ _ g)

    pub sheet_again : sheet_of n (sweeps_in b) (codes_in b) A ≡ b
    unfolding sheet_of
    sheet_again = rw (width_kept b lc lm r small) (sym (tabulated (length_in b) _ b 0 r.sheet_long byte_again))

  -- ---- the writer accepts what was read
  abbrev matrix : List Float
  matrix = flat n (entry_in b)

  entry_value : (i j : ℕ) → Line n i → Line n j → at n matrix i j ≡ entry_in b i j
  entry_value i j hi hj = read_again n (entry_in b) i j hi hj

  stored_value : (i j : ℕ) → 1 ≤ j → j ≤ i → i ≤ n → at n matrix i j ≡ of_bits binary64 (pattern_in b i j)
  stored_value i j h k o = entry_value i j (omega arith, o) (h, omega arith) ∙ unfold entry_in in (rw (le-ltb i j k))

  write_accepts : (lb : ℕ) → length b ≤ lb → given tt ≡ write_answer n (sweeps_in b) (codes_in b) matrix lb
  write_accepts lb o =
      sym (writable_accepted n (sweeps_in b) (codes_in b) matrix lb (record {
        order = r.order;
        few = r.few;
        codes_long = codes_count b;
        matrix_long = flat_length n (entry_in b);
        codes_good = r.codes_good;
        entries_good = accepted_if n matrix (flat_length n (entry_in b)) (λ i j hi hj. ap finite (entry_value i j hi hj) ∙ entries_finite b lc lm r i j hi hj)
            (λ i j hi hj. entry_value i j hi hj ∙ entries_mirrored b n i j hi hj ∙ sym (entry_value j i hj hi));
        room = rw (width_kept b lc lm r small) (let z = r.sheet_long in omega arith);
      }))

-- A sheet that is accepted is written again as the same bytes.
pub write_back : (b : List ℕ) → ((i : ℕ) → get_or b i 0 < 256) → (lc lm : ℕ) → read_answer b lc lm ≡ given tt → (lent : List ℕ) → length b ≤ length lent
    → write_of (order_in b) (sweeps_in b) (codes_in b) (flat (order_in b) (entry_in b)) lent ≡ write_outcome (given (length b)) (b ++ drop (length b) lent)
write_back b small lc lm e lent o =
    let r = readable b lc lm e in
    sym (write_accepted_as (order_in b) (sweeps_in b) (codes_in b) (flat (order_in b) (entry_in b)) lent (write_accepts b small lc lm r (length lent) o)
    (sym (written r)))
  where
    long : (r : Readable b lc lm) → length_for (order_in b) (codes_in b) ≡ length b
    long r = ap (λ (v : ℕ). sheet_length v (order_in b)) (width_kept b lc lm r small) ∙ sym r.sheet_long

    written : (r : Readable b lc lm)
        → written_of (order_in b) (sweeps_in b) (codes_in b) (flat (order_in b) (entry_in b)) lent
        ≡ write_outcome (given (length b)) (b ++ drop (length b) lent)
    written r = unfold overwritten in (rw (long r, sheet_again b small lc lm r _ (stored_value b small lc lm r)))

-- ---- the same of what the two calls leave
-- the answer of a writing is that of its tests
pub writes : (n sweeps : ℕ) (codes : List ℕ) (l : List Float) (b : List ℕ) (count : ℕ) → (write_of n sweeps codes l b).answer ≡ given count
    → (write_answer n sweeps codes l (length b) ≡ given tt) × ((write_of n sweeps codes l b).bytes ≡ overwritten n sweeps codes l b)
    × (count ≡ length_for n codes)
unfolding write_of
writes n sweeps codes l b count = go (write_answer n sweeps codes l (length b)) (overwritten n sweeps codes l b) (length_for n codes)
  where
    go : (a : Answered Unit) (new : List ℕ) (long : ℕ) → (unless_refused a (write_outcome (given long) new) (λ x. write_outcome x b)).answer ≡ given count
        → (a ≡ given tt) × ((unless_refused a (write_outcome (given long) new) (λ x. write_outcome x b)).bytes ≡ new) × (count ≡ long)
    go (given tt) new long e = (refl, refl, ap (λ (x : Answered ℕ). value_or x 0) (sym e))
    go (refused k values) new long e = refused_given e

-- the bytes that it wrote are the sheet
pub sheet_first : (n sweeps : ℕ) (codes : List ℕ) (l : List Float) (b : List ℕ)
    → take (length_for n codes) (overwritten n sweeps codes l b) ≡ sheet_of n sweeps codes (at n l)
unfolding overwritten
sheet_first n sweeps codes l b =
    take_at (sheet_of n sweeps codes (at n l)) (drop (length_for n codes) b) (length_for n codes) (sheet_long n sweeps codes (at n l))

left : (n sweeps : ℕ) (codes : List ℕ) (l : List Float) (b : List ℕ) (count : ℕ) → (write_of n sweeps codes l b).answer ≡ given count
    → take count (write_of n sweeps codes l b).bytes ≡ sheet_of n sweeps codes (at n l)
left n sweeps codes l b count e = let v = writes n sweeps codes l b count e in rw (v.1, v.2) (sheet_first n sweeps codes l b)

pub written_back : (n sweeps : ℕ) (codes : List ℕ) (l : List Float) (b : List ℕ) (count : ℕ) → Codes16 codes
    → ((k : ℕ) → T (fits binary64 (get_or l k nan))) → (write_of n sweeps codes l b).answer ≡ given count
    → (c : List ℕ) (m : List Float) → length c ≡ n → length m ≡ n * n
    → read_of (take count (write_of n sweeps codes l b).bytes) c m ≡ read_outcome (given (n, sweeps)) codes l
written_back n sweeps codes l b count fit fitting e c m lc lm =
    rw (left n sweeps codes l b count e) (read_back n sweeps codes l (length b) fit fitting (writes n sweeps codes l b count e).0 c m lc lm)

-- and that of a reading
pub reads : (b c : List ℕ) (m : List Float) (n sweeps : ℕ) → (read_of b c m).answer ≡ given (n, sweeps)
    → (read_answer b (length c) (length m) ≡ given tt) × (read_of b c m ≡ content_of b) × (order_in b ≡ n) × (sweeps_in b ≡ sweeps)
unfolding read_of
reads b c m n sweeps = go (read_answer b (length c) (length m)) refl
  where
    sizes : (content_of b).answer ≡ given (n, sweeps) → (order_in b ≡ n) × (sweeps_in b ≡ sweeps)
    sizes e = unfold content_of in
        (ap (λ (a : Answered (ℕ × ℕ)). (value_or a (0, 0)).0) e, ap (λ (a : Answered (ℕ × ℕ)). (value_or a (0, 0)).1) e)

    go : (a : Answered Unit) → read_answer b (length c) (length m) ≡ a
        → (unless_refused a (content_of b) (λ x. read_outcome x c m)).answer ≡ given (n, sweeps)
        → (a ≡ given tt) × (unless_refused a (content_of b) (λ x. read_outcome x c m) ≡ content_of b) × (order_in b ≡ n) × (sweeps_in b ≡ sweeps)
    go (given tt) z e = let w = sizes e in (refl, refl, w.0, w.1)
    go (refused k values) z e = refused_given e

pub written_again : (b : List ℕ) → ((i : ℕ) → get_or b i 0 < 256) → (c : List ℕ) (m : List Float) (n sweeps : ℕ)
    → (read_of b c m).answer ≡ given (n, sweeps) → (lent : List ℕ) → length b ≤ length lent
    → write_of n sweeps (read_of b c m).codes (read_of b c m).matrix lent ≡ write_outcome (given (length b)) (b ++ drop (length b) lent)
unfolding content_of
written_again b small c m n sweeps e lent o =
    let w = reads b c m n sweeps e in
    rw (w.1, ← w.2, ← w.3) (write_back b small (length c) (length m) w.0 lent o)

-- Two accepted contents with the same sheet are one.
module _ (n n' sweeps sweeps' : ℕ) (codes codes' : List ℕ) (l l' : List Float) (lb lb' : ℕ) (fitting : (k : ℕ) → T (fits binary64 (get_or l k nan)))
    (fitting' : (k : ℕ) → T (fits binary64 (get_or l' k nan))) (fit : Codes16 codes) (fit' : Codes16 codes')
    (accepted : write_answer n sweeps codes l lb ≡ given tt) (accepted' : write_answer n' sweeps' codes' l' lb' ≡ given tt) where
  pub same_sheet : sheet_of n sweeps codes (at n l) ≡ sheet_of n' sweeps' codes' (at n' l') → (n ≡ n') × (sweeps ≡ sweeps') × (codes ≡ codes') × (l ≡ l')
  same_sheet e =
      let v = writable n sweeps codes l lb accepted in
      let v' = writable n' sweeps' codes' l' lb' accepted' in
      let low = small_order n sweeps codes l lb v in
      let low' = small_order n' sweeps' codes' l' lb' v' in (
        sym (order_back n sweeps codes (at n l) low) ∙ ap order_in e ∙ order_back n' sweeps' codes' (at n' l') low',
        sym (sweeps_back n sweeps codes (at n l)) ∙ ap (λ (b : List ℕ). sweeps_in b) e ∙ sweeps_back n' sweeps' codes' (at n' l'),
        sym (codes_back n sweeps codes (at n l) low fit v.codes_long) ∙ ap codes_in e
            ∙ codes_back n' sweeps' codes' (at n' l') low' fit' v'.codes_long,
        sym (entries_back n sweeps codes l lb fitting accepted) ∙ ap (λ (b : List ℕ). flat (order_in b) (entry_in b)) e
            ∙ entries_back n' sweeps' codes' l' lb' fitting' accepted',
      )

-- And so are two that are written as the same sheet.
module _ (n n' sweeps sweeps' : ℕ) (codes codes' : List ℕ) (l l' : List Float) (b b' : List ℕ) (count count' : ℕ)
    (fitting : (k : ℕ) → T (fits binary64 (get_or l k nan))) (fitting' : (k : ℕ) → T (fits binary64 (get_or l' k nan)))
    (fit : Codes16 codes) (fit' : Codes16 codes')
    (accepted : (write_of n sweeps codes l b).answer ≡ given count) (accepted' : (write_of n' sweeps' codes' l' b').answer ≡ given count') where
  pub same_written : take count (write_of n sweeps codes l b).bytes ≡ take count' (write_of n' sweeps' codes' l' b').bytes
      → (n ≡ n') × (sweeps ≡ sweeps') × (codes ≡ codes') × (l ≡ l')
  same_written e =
      let v = writes n sweeps codes l b count accepted in
      let v' = writes n' sweeps' codes' l' b' count' accepted' in
      same_sheet n n' sweeps sweeps' codes codes' l l' (length b) (length b') fitting fitting' fit fit' v.0 v'.0
      (sym (left n sweeps codes l b count accepted) ∙ e ∙ left n' sweeps' codes' l' b' count' accepted')
