-- The work of a tile on the diagonal, by what is found of its pair and what its parameters do. Assumes nothing.
use Prim.Native.Nat.{ℕ}
use mathlib.Core.Path.{◌≡◌}
use lib.Ieee.{Float}
use Rattle.float64.specs.Values.{plus_zero}
use Rattle.rotation.specs.declared.Found.{Found}
use Rattle.rotation.specs.declared.Sides.{Sides}
use Rattle.rotation.specs.Rotation.{sent, diagonal_of}
use Rattle.rotation.specs.Exact.{found_of}
use Rattle.runs.specs.Blocks.{ruled_found, matrix_block}
use Rattle.runs.specs.declared.Counts.{Counts}
use Rattle.runs.specs.Counts.{counts_after}
use Rattle.tile_wires.specs.declared.Quad.{Quad}
use Rattle.tile_wires.specs.Wires.{quad}
use Rattle.tile.specs.declared.cells.Work.{Work}
use Rattle.tile.specs.Turned.{columns_turned, on_diagonal_of}

pub worked : (n k i : ℕ) (w : Work) {F G : Found} {s : Sides} {v : Quad Float} {t : Float} {d : Counts} → let p = w.cells in
    F ≡ found_of p.matrix.alpha p.matrix.delta p.matrix.beta → G ≡ ruled_found n i F
    → s ≡ diagonal_of G.parameters p.matrix.alpha p.matrix.delta p.matrix.beta
    → v ≡ columns_turned G.parameters p.vectors → t ≡ sent G.parameters
    → d ≡ counts_after n k G w.counts
    → ◌≡◌ {A = Work} (record { cells = record { matrix = quad s.left plus_zero plus_zero s.right; vectors = v }; row = t; column = t; counts = d })
    (on_diagonal_of n k i w)
unfolding on_diagonal_of matrix_block
worked n k i w e f g h s z = rw (g, h, s, z, f, e)
