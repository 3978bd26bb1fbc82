-- The pieces of a printed sheet, put together. Assumes nothing.
use Prim.Native.Nat.{ℕ, suc, ◌-◌, ◌+◌, ◌*◌, ◌≤◌}
use mathlib.Core.Path.{◌≡◌, sym, subst}
use native.Mathlib.Numerals.{add-one}
use mathlib.Core.Bool.{true}
use mathlib.Core.List.{List}
use native.Mathlib.Omega.{arith}
use borrow.Author.Tests.{le-ltb}
use lib.ListN.{length, get_or}
use lib.Ieee.{Float}
use Rattle.matrix.specs.Matrix.{at}
use Rattle.listing_text.specs.Printed.{value_field, column_of, head_of, text_line_of, text_lines_of, printed_of}
use Rattle.listing_text.specs.Printed.{printable, printing, print_of, refused_word, refused_text, refusal_of}
use Rattle.text.proofs.TextPieces.{put_then, puts_then, put_whole}
use Rattle.text.specs.Text.{decimal_of, space, newline, Put}
use Rattle.text.specs.Pages.{Puts}
use Rattle.text.specs.declared.Page.{Page}
use Rattle.matrix.specs.Matrix.{entry_of}
use Rattle.matrix.proofs.EntryPlaces.{entry_at, place_is}

-- ---- values
module _ (n r c : ℕ) (l : List Float) where
  pub entry_is : 1 ≤ r → r ≤ n → 1 ≤ c → c ≤ n → length l ≡ n * n → entry_of n l r c ≡ at n l r c
  entry_is ra rw ca cw e =
      entry_at n r c l
      (place_is n r c (length l) (record { row_above = ra; row_within = rw; column_above = ca; column_within = cw; square = e }))

pub column_next : (E : ℕ → ℕ → Float) (c r : ℕ) {p q s : Page} → 1 ≤ r → Puts p (column_of E c (r - 1)) q → Puts q (value_field (E r c)) s
    → Puts p (column_of E c r) s
unfolding column_of
column_next E c r {p} {q} {s} h a b =
    let e : suc (r - 1) ≡ r = omega arith in
    subst (λ (k : ℕ). Puts p (column_of E c k) s) e (puts_then a (subst (λ (k : ℕ). Puts q (value_field (E k c)) s) (sym e) b))

pub text_lines_next : (n : ℕ) (codes : List ℕ) (A E : ℕ → ℕ → Float) (k : ℕ) {p q s : Page} → Puts p (text_lines_of n codes A E k) q
    → Puts q (text_line_of n (get_or codes k 0) A E (k + 1)) s → Puts p (text_lines_of n codes A E (k + 1)) s
unfolding text_lines_of
text_lines_next n codes A E k a b = rw add-one (puts_then a (rw add-one at b))

-- ---- the first text line, piece by piece
pub head_put : (n sweeps ticks : ℕ) {l₀ l₁ l₂ l₃ l₄ l₅ l₆ : List ℕ} {a b c d e f g : ℕ} → Put l₀ a (decimal_of n) l₁ b → Put l₁ b space l₂ c
    → Put l₂ c (decimal_of sweeps) l₃ d → Put l₃ d space l₄ e → Put l₄ e (decimal_of ticks) l₅ f
    → Put l₅ f newline l₆ g → Put l₀ a (head_of n sweeps ticks) l₆ g
unfolding head_of
head_put n sweeps ticks p q r s t u = put_then p (put_then q (put_then r (put_then s (put_then t u))))

-- ---- the whole
module _ (n sweeps ticks : ℕ) (codes : List ℕ) (l e : List Float) where
  pub printed : {p q r : Page} → printable n sweeps ticks (length codes) (length l) (length e) (length p.bytes.now) ≡ true → p.end ≡ 0
      → Puts p (head_of n sweeps ticks) q → Puts q (text_lines_of n codes (at n l) (at n e) n) r
      → printing r.end r.bytes.now ≡ print_of n sweeps ticks codes l e p.bytes.now
  unfolding print_of printed_of
  printed {p} {q} {r} t z a b =
      let w = put_whole _ _ _ _ (rw z at (puts_then a b).put) in
      rw (t, w.0, w.1)

-- ---- a refusal
pub refusal_printed_lem : (k : ℕ) (b : List ℕ) {j : ℕ} {l m o : List ℕ} {d e f : ℕ} → 13 ≤ length b → j ≡ k → Put b 0 refused_word l d
    → Put l d (decimal_of j) m e → Put m e newline o f → printing f o ≡ refusal_of k b
unfolding refusal_of
refusal_printed_lem k b {o = o} {f = f} h z p q s =
    let w = put_whole b (refused_text k) o f (put_then p (put_then (rw z at q) s)) in
    rw (le-ltb (length b) 13 h, w.0, w.1)
