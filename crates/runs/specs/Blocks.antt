-- Document 01, "One rotation", and document 02 (ii) and (vii): what a processor finds of its pair, and what its rotation makes of its own four entries.
-- Definitions only.
use Rattle.std.specs.Prelude.{ℕ, Bool, cond, ◌||◌, ltb, Float}
use Rattle.float64.specs.Values.{plus_zero}
use Rattle.systolic.specs.Blocks.{Block}
use Rattle.sizes.specs.Sizes.{still_of}
use Rattle.rotation.specs.declared.Parameters.{Parameters}
use Rattle.rotation.specs.declared.Parameters.TheVariants.{Still}
use Rattle.rotation.specs.declared.Found.{Found}
use Rattle.rotation.specs.Rotation.{of_pair, diagonal_of, turn_of}
use Rattle.rotation.specs.Exact.{exact_pair}

-- The parameters of the pair, from its entries of the matrix, and whether both of its roots are exact.
abbrev pub block_parameters : Block Float → Parameters
block_parameters b = of_pair b.α b.δ b.β

abbrev pub block_exact : Block Float → Bool
block_exact b = exact_pair b.α b.δ b.β

abbrev pub block_found : Block Float → Found
block_found b = record { parameters = block_parameters b; exact = block_exact b }

-- What processor i, from 0, turns by in a run of order n, where its pair has the parameters P: processor 1 of an odd order is always still.
unfoldable pub ruled : ℕ → ℕ → Parameters → Parameters
ruled n i P = cond (ltb i (still_of n)) Still P

-- Whether its pair counts as exact, where `exact` says whether both of the pair's roots are: processor 1 of an odd order always does.
unfoldable pub ruled_exact : ℕ → ℕ → Bool → Bool
ruled_exact n i exact = ltb i (still_of n) || exact

abbrev pub ruled_found : ℕ → ℕ → Found → Found
ruled_found n i f = record { parameters = ruled n i f.parameters; exact = ruled_exact n i f.exact }

-- The entries of the matrix: the new a_pp and a_qq, and +0 for a_pq and a_qp.
unfoldable pub matrix_block : Parameters → Block Float → Block Float
matrix_block P b =
    record { α = (diagonal_of P b.α b.δ b.β).left; β = plus_zero; γ = plus_zero; δ = (diagonal_of P b.α b.δ b.β).right }

-- The column turn of both rows, as the eigenvectors get it.
unfoldable pub columns_block : Parameters → Block Float → Block Float
columns_block P b =
    record {
      α = (turn_of P b.α b.β).left;
      β = (turn_of P b.α b.β).right;
      γ = (turn_of P b.γ b.δ).left;
      δ = (turn_of P b.γ b.δ).right;
    }
