-- Demand 2 on sheets, each part by the law that proves it. Assumes nothing.
use Prim.Native.Nat.{ℕ, ◌+◌, ◌-◌, ◌*◌}
use mathlib.Core.Path.{◌≡◌, refl, sym, ◌∙◌}
use mathlib.Core.List.{List}
use native.Mathlib.Omega.{arith}
use Rattle.sheet.proofs.Forms as forms
use Rattle.sheet_agreement.proofs.RoundTrip as sheets
use Rattle.sheet_agreement.proofs.SheetPlaces as places
use Rattle.sheet_agreement.proofs.OneForm.{one_sheet}
use Rattle.sheet_agreement.proofs.ShortForm.{read_as_before, refused_before}
use Rattle.claims.specs.Sheets.{FormsWritten, FormsRead, WrittenInPlace, ReadInPlace, OneContentASheet, OneSheetAContent, SheetsKept}

forms_written : (codes : List ℕ) → FormsWritten codes
forms_written codes = record { short = forms.fits_short codes; long = forms.fits_long codes }

forms_read : (b : List ℕ) → FormsRead b
forms_read b =
    record {
      short = λ h. (sym (forms.width_short b h), sym (forms.order_short b h));
      long = λ h. (sym (forms.width_long b h), sym (forms.order_long b h));
    }

written : WrittenInPlace
written n sweeps codes l b count fit e =
    record {
      short_order = λ w. places.written_first n sweeps codes l b count e ∙ forms.first_of_one _ n w;
      long_order = λ w. places.written_first n sweeps codes l b count e ∙ sym (forms.first_long _ n w);
      sweep_count = places.written_sweeps n sweeps codes l b count e;
      short_code = λ w k a h. let z : 1 + k ≡ 2 + (k - 1) = omega arith in
          rw z (places.written_short n sweeps codes l b count e fit w (k - 1) (omega arith));
      long_code = λ w k a h. let y : 2 * k ≡ 2 + 2 * (k - 1) = omega arith in let z : 2 * k + 1 ≡ 3 + 2 * (k - 1) = omega arith in
          rw (z, y) (places.written_long n sweeps codes l b count e fit w (k - 1) (omega arith));
      entry = λ i j a h o q r. rw (← (places.number_is i j (omega arith))) (places.written_byte n sweeps codes l b count e i j a h o q r);
    }

read : ReadInPlace
read b c m n sweeps small e = (
  record {
    short_order = λ w. places.read_first b c m n sweeps e ∙ forms.first_of_one _ n w;
    long_order = λ w. places.read_first b c m n sweeps e ∙ sym (forms.first_long _ n w);
    sweep_count = sym (places.read_sweeps b c m n sweeps e);
    short_code = λ w k a h. let z : 1 + k ≡ 2 + (k - 1) = omega arith in rw z (places.read_short b c m n sweeps e w (k - 1) (omega arith));
    long_code = λ w k a h. let y : 2 * k ≡ 2 + 2 * (k - 1) = omega arith in let z : 2 * k + 1 ≡ 3 + 2 * (k - 1) = omega arith in
        rw (z, y) (places.read_long b c m n sweeps e w (k - 1) (omega arith));
    entry = λ i j a h o q r. rw (← (places.number_is i j (omega arith))) (places.read_byte b c m n sweeps e small i j a h o q r);
  },
  places.read_mirror b c m n sweeps e,
)

same : OneContentASheet
same n n' sweeps sweeps' codes codes' l l' b b' count count' f f' g g' a a' e =
    let w = sheets.same_written n n' sweeps sweeps' codes codes' l l' b b' count count' f f' g g' a a' e in
    record { orders = w.0; sweep_counts = w.1; code_lists = w.2; matrices = w.3 }

one : OneSheetAContent
one b b' c c' m m' n sweeps small small' e e' = one_sheet b b' c c' m m' n sweeps small small' e e'

pub sheets_kept : SheetsKept
sheets_kept =
    record {
      forms_written = forms_written;
      forms_read = forms_read;
      written_in_place = written;
      read_in_place = read;
      written_is_read_back = sheets.written_back;
      accepted_is_written_again = sheets.written_again;
      one_content_a_sheet = same;
      one_sheet_a_content = one;
      read_as_before = record { short = λ b c m h. read_as_before b h c m; long = refused_before };
      lengths_as_stated = record { short = λ n. omega arith; long = λ n. omega arith; shortest = refl; longest = refl; longest_long = refl };
    }
