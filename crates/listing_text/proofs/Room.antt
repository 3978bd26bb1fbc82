-- The room for the text lines of codes, and that what is printed lies within the lent bytes. Assumes nothing.
use Prim.Native.Nat.{ℕ, ◌+◌, ◌*◌, ◌<◌, ◌≤◌}
use mathlib.Core.Path.{◌≡◌}
use mathlib.Core.Bool.{Bool, true, false, cond}
use mathlib.Core.List.{List, ◌++◌}
use native.Mathlib.Nat.{suc-mul, mul-le-mul_right}
use native.Mathlib.Numerals.{add-one}
use native.Mathlib.Omega.{arith}
use lib.Dec.{ltb}
use lib.ListN.{length, drop, length-append}
use lib.Ieee.{Float}
use Rattle.matrix.specs.Matrix.{at}
use Rattle.listing_text.specs.Printed.{text_line_room, printable, Printing, printing, printed_of, print_of, refused_text, refusal_of}

pub text_line_more : (k n : ℕ) → (k + 1) * text_line_room n ≡ k * text_line_room n + text_line_room n
text_line_more k n = rw add-one (suc-mul k (text_line_room n))

-- while text lines are left there is room for one
pub text_line_fits : (k n : ℕ) → k < n → k * text_line_room n + text_line_room n ≤ n * text_line_room n
text_line_fits k n h = rw (suc-mul k (text_line_room n)) at (mul-le-mul_right (text_line_room n) h)

-- ---- within the lent bytes
abbrev pub Within : Printing → Type 0
Within p = p.count ≤ length p.bytes

put_within : (s b : List ℕ) → Within (printing (length s) (s ++ drop (length s) b))
put_within s b = rw (length-append s (drop (length s) b)) (omega arith)

either_within : (a : Bool) (p q : Printing) → Within p → Within q → Within (cond a p q)
either_within true p q h k = h
either_within false p q h k = k

module _ (n sweeps ticks : ℕ) (codes : List ℕ) (l e : List Float) (b : List ℕ) where
  pub print_within : Within (print_of n sweeps ticks codes l e b)
  unfolding print_of
  print_within =
      let s = printed_of n sweeps ticks codes (at n l) (at n e) in
      either_within (printable n sweeps ticks (length codes) (length l) (length e) (length b)) (printing (length s) (s ++ drop (length s) b)) (printing 0 b)
      (put_within s b) (omega arith)

pub refusal_within : (k : ℕ) (b : List ℕ) → Within (refusal_of k b)
unfolding refusal_of
refusal_within k b =
    let s = refused_text k in
    either_within (ltb (length b) 13) (printing 0 b) (printing (length s) (s ++ drop (length s) b)) (omega arith) (put_within s b)
