-- What is printed where the sizes are those of a run and the bytes are enough. Assumes nothing.
use Prim.Native.Nat.{ℕ, ◌*◌, ◌<◌, ◌≤◌}
use mathlib.Core.Path.{◌≡◌}
use mathlib.Core.Bool.{true}
use mathlib.Core.List.{List, ◌++◌}
use borrow.Author.Tests.{eq-eqb, lt-ltb, le-leb}
use lib.ListN.{length, drop}
use lib.Ieee.{Float}
use Rattle.sizes.specs.Sizes.{is_order}
use Rattle.matrix.specs.Matrix.{at}
use Rattle.listing_text.specs.Printed.{printed_of, room_for, printable, printing, print_of}

pub all_printed : (n sweeps ticks : ℕ) (codes : List ℕ) (l e : List Float) (b : List ℕ) → is_order n ≡ true → sweeps < 10000 → ticks < 10000
    → length codes ≡ n → length l ≡ n * n → length e ≡ n * n → room_for n ≤ length b
    → (let s = printed_of n sweeps ticks codes (at n l) (at n e) in
    print_of n sweeps ticks codes l e b ≡ printing (length s) (s ++ drop (length s) b))
unfolding print_of printable
all_printed n sweeps ticks codes l e b order few fewer hc hl he room =
    rw (
      order,
      lt-ltb sweeps 10000 few,
      lt-ltb ticks 10000 fewer,
      eq-eqb (length codes) n hc,
      eq-eqb (length l) (n * n) hl,
      eq-eqb (length e) (n * n) he,
      le-leb (room_for n) (length b) room,
    )
