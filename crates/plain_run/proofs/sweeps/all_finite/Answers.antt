use Rattle.std.proofs.Common.{rules, ℕ, zero, suc, ◌≤◌, ◌≡◌, ◌∙◌, refl, Bool, true, false, not, ◌&&◌, ◌||◌, List, length, get_or, take, add-one, arith}
use borrow.Author.Tests.{tests}
use lib.Ieee.{Float, nan}
use lib.Seq.{take-length}
use Rattle.std.specs.List.{list_all}
use Rattle.std.proofs.lemmas.List.Folds.{list_all_more}
use Rattle.std.proofs.lemmas.Iterator.{YieldsList-from_slice}
use Rattle.std.proofs.lemmas.Iterator.Search.{all_from_yields_List}
use Rattle.float64.specs.Values.{finite}
use Rattle.lists.specs.Bounded.{any}
use Rattle.plain_run.specs.Run.{some_not_finite}
use Rattle.plain_run.proofs.sweeps.all_finite.Goals as goal

-- of the first k values all are finite, or one is not
first_finite : (l : List Float) (k : ℕ) → k ≤ length l → list_all finite (take k l) ≡ not (any k (λ i. not (finite (get_or l i nan))))
unfolding any
first_finite l zero h = refl
first_finite l (suc k) h =
    rw (← add-one)
    (rw (list_all_more finite l k nan (omega arith), first_finite l k (omega arith))
    (joined (any k (λ i. not (finite (get_or l i nan)))) (finite (get_or l k nan))))
  where
    joined : (a b : Bool) → (not a && b) ≡ not (a || not b)
    joined true b = refl
    joined false true = refl
    joined false false = refl

all_or_one : (l : List Float) → list_all finite l ≡ not (some_not_finite l)
unfolding some_not_finite
all_or_one l = rw (take-length l) at (first_finite l (length l) (omega arith))

pub returns : goal.returns
returns c =
    all_from_yields_List finite _ _ _ c.all.ensures.ran (YieldsList-from_slice c.args.a.now cc) (λ x b q k. search (rules, tests)) ∙ all_or_one _
