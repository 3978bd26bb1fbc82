-- The three demands of document 00 and the examples of document 01. Definitions only. That no call reads or writes
-- outside a buffer, loses bits of an integer or fails to end is what the prover shows of every function, and no call of
-- document 01 has a precondition. What is left of the demands is stated here.
use Rattle.claims.specs.Sizes.{SizesAsStated}
use Rattle.claims.specs.Refusals.{RefusedAsTabled}
use Rattle.claims.specs.Report.{AsTheReport}
use Rattle.claims.specs.Quotients.{QuotientsAsStated}
use Rattle.claims.specs.Sheets.{SheetsKept}
use Rattle.claims.specs.JoinedSheets.{JoiningsAsStated}
use Rattle.claims.specs.PlainRuns.{PlainRunsAsStated}
use Rattle.claims.specs.Tiles.{TilesAsPrinted}
use Rattle.claims.specs.Listings.{ListingsAsStated}
use Rattle.claims.specs.Histories.{OneHistory}
use Rattle.claims.specs.QuietSweeps.{QuietSweepsAsStated}
use Rattle.claims.specs.ExactRoots.{ExactRootsAsStated}
use Rattle.claims.specs.Forecasts.{ForecastsAsStated}
use Rattle.claims.specs.Examples.{All, examples}

pub record Demands : Type 0 where
  pub sizes : SizesAsStated
  pub demand_1 : RefusedAsTabled
  pub demand_2_numbers : AsTheReport
  pub quotients : QuotientsAsStated
  pub demand_2_runs : PlainRunsAsStated
  pub demand_2_tiles : TilesAsPrinted
  pub demand_2_sheets : SheetsKept
  pub joinings : JoiningsAsStated
  pub demand_2_listings : ListingsAsStated
  pub demand_3 : OneHistory
  pub quiet_sweeps : QuietSweepsAsStated
  pub exact_roots : ExactRootsAsStated
  pub forecasts : ForecastsAsStated
  pub examples_hold : All examples
