-- The wires of a tile after a phase, on the structs of the code. Definitions only.
use Rattle.std.specs.Prelude.{ℕ, ◌-◌, ◌%◌, Option, Some, None, Bool, cond, ◌||◌, eqb, ltb, Float}
use Rattle.std.specs.declared.cmp.Ordering.{Ordering}
use Rattle.std.specs.declared.cmp.Ordering.TheVariants.{Less, Equal, Greater}
use Rattle.tile_wires.specs.declared.Quad.{Quad}
use Rattle.tile_wires.specs.declared.Part.{Part}

abbrev pub quad : Float → Float → Float → Float → Quad Float
quad a b c d = record { alpha = a; beta = b; gamma = c; delta = d }

unfoldable pub across_of : ℕ → Quad Float → Quad Float
across_of j q = cond (eqb j 0) q (quad q.beta q.alpha q.delta q.gamma)

-- What leaves by each corner: in the first row and column the cell there, elsewhere that of the other side.
unfoldable pub interchanged : ℕ → ℕ → Quad Float → Quad Float
interchanged i j q = cond (eqb i 0) (across_of j q) (across_of j (quad q.gamma q.delta q.alpha q.beta))

-- 1 in the first row or column, 2 in the last, 3 in both, 0 in none.
unfoldable pub edge_of : ℕ → ℕ → ℕ → ℕ
edge_of m i j = cond (eqb i 0 || eqb j 0) (cond (eqb i m || eqb j m) 3 1) (cond (eqb i m || eqb j m) 2 0)

-- The order of a tile's row and column: Less above the diagonal, Greater below it, Equal on it.
unfoldable pub order_of : ℕ → ℕ → Ordering
order_of i j = cond (ltb i j) Less (cond (ltb j i) Greater Equal)

unfoldable pub set_in0 : Ordering → Quad Float → Quad Float → Quad Float
set_in0 Less out old = quad old.alpha old.beta out.gamma old.delta
set_in0 Greater out old = quad old.alpha out.beta old.gamma old.delta
set_in0 Equal out old = old

unfoldable pub set_in1 : ℕ → Quad Float → Quad Float → Quad Float
set_in1 edge out old =
    cond (eqb edge 0) old
    (cond (eqb edge 1) (quad out.alpha old.beta old.gamma old.delta)
    (cond (eqb edge 2) (quad old.alpha old.beta old.gamma out.delta) (quad out.alpha old.beta old.gamma out.delta)))

unfoldable pub set_in2 : ℕ → Ordering → Quad Float → Quad Float → Quad Float
set_in2 edge Less out old = let inner = set_in1 (3 - edge % 4) out old in quad inner.alpha out.beta old.gamma inner.delta
set_in2 edge Greater out old = let inner = set_in1 (3 - edge % 4) out old in quad inner.alpha old.beta out.gamma inner.delta
set_in2 edge Equal out old = let inner = set_in1 (3 - edge % 4) out old in quad inner.alpha out.beta out.gamma inner.delta

-- In no phase all wires keep their values.
unfoldable pub set_of : Option ℕ → ℕ → Ordering → Quad Float → Quad Float → Quad Float
set_of None edge order out old = old
set_of (Some phase) edge order out old =
    cond (eqb phase 0) (set_in0 order out old) (cond (eqb phase 1) (set_in1 edge out old) (cond (eqb phase 2) (set_in2 edge order out old) old))

unfoldable pub wires_of : Option ℕ → ℕ → ℕ → ℕ → Quad Float → Quad Float → Quad Float
wires_of phase m i j q old = set_of phase (edge_of m i j) (order_of i j) (interchanged i j q) old

unfoldable pub part_wires : Option ℕ → ℕ → ℕ → ℕ → Part → Part → Part
part_wires phase m i j p old = record { matrix = wires_of phase m i j p.matrix old.matrix; vectors = wires_of phase m i j p.vectors old.vectors }

-- The corner in the lower row or the upper, in the right column or the left.
unfoldable pub corner_of : Bool → Bool → Quad Float → Float
corner_of lower right q = cond lower (cond right q.delta q.gamma) (cond right q.beta q.alpha)

-- A side is joined with the facing side of the neighbour, or at an end with itself.
unfoldable pub incoming_quad : Quad Float → Quad Float → Quad Float → Quad Float → ℕ → ℕ → ℕ → Quad Float
incoming_quad a b c d m i j =
    quad (corner_of (ltb 0 i) (ltb 0 j) a) (corner_of (ltb 0 i) (eqb j m) b) (corner_of (eqb i m) (ltb 0 j) c) (corner_of (eqb i m) (eqb j m) d)

unfoldable pub incoming_part : Part → Part → Part → Part → ℕ → ℕ → ℕ → Part
incoming_part a b c d m i j =
    record {
      matrix = incoming_quad a.matrix b.matrix c.matrix d.matrix m i j;
      vectors = incoming_quad a.vectors b.vectors c.vectors d.vectors m i j;
    }
