-- The demands are met. Assumes nothing.
use Rattle.claims.proofs.Sizes.{sizes_as_stated}
use Rattle.claims.specs.Demands.{Demands}
use Rattle.claims.proofs.Refusals.{refused_as_tabled}
use Rattle.claims.proofs.Report.{as_the_report}
use Rattle.claims.proofs.Quotients.{quotients_as_stated}
use Rattle.claims.proofs.Sheets.{sheets_kept}
use Rattle.claims.proofs.JoinedSheets.{joinings_as_stated}
use Rattle.claims.proofs.PlainRuns.{plain_runs_as_stated}
use Rattle.claims.proofs.Tiles.{tiles_as_printed}
use Rattle.claims.proofs.Listings.{listings_as_stated}
use Rattle.claims.proofs.Histories.{one_history}
use Rattle.claims.proofs.QuietRuns.{quiet_sweeps_as_stated}
use Rattle.claims.proofs.ExactRoots.{exact_roots_as_stated}
use Rattle.claims.proofs.Forecasts.{forecasts_as_stated}
use Rattle.claims.proofs.Examples.{examples_hold}

pub demands_met : Demands
demands_met =
    record {
      sizes = sizes_as_stated;
      demand_1 = refused_as_tabled;
      demand_2_numbers = as_the_report;
      quotients = quotients_as_stated;
      demand_2_runs = plain_runs_as_stated;
      demand_2_tiles = tiles_as_printed;
      demand_2_sheets = sheets_kept;
      joinings = joinings_as_stated;
      demand_2_listings = listings_as_stated;
      demand_3 = one_history;
      quiet_sweeps = quiet_sweeps_as_stated;
      exact_roots = exact_roots_as_stated;
      forecasts = forecasts_as_stated;
      examples_hold = examples_hold;
    }
