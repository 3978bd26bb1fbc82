-- The sweeps that a run makes: the first quiet one or all, and they leave what all sweeps leave. Assumes nothing.
use Prim.Native.Nat.{ℕ, zero, suc, ◌*◌, ◌≤◌, ◌<◌}
use mathlib.Core.Path.{◌≡◌, refl, sym, ap, ◌∙◌}
use mathlib.Core.Bool.{Bool, true, false, cond, true≢false}
use mathlib.Core.List.{List}
use native.Mathlib.Nat.{le_refl, mul-le-mul}
use native.Mathlib.Omega.{arith}
use borrow.Author.Tests.{ltb-true, ltb-false, le-ltb}
use lib.Dec.{ltb}
use lib.Ieee.{Float}
use Rattle.refusal.specs.Answers.{given}
use Rattle.refusal.proofs.RefusedOutcomes.{giving_was}
use Rattle.lists.specs.Bounded.{any}
use Rattle.lists.proofs.Bounded.{up_to, any_to, any_from}
use Rattle.sizes.specs.Sizes.{most_sweeps, is_order, sweep_steps, steps_of}
use Rattle.sizes.proofs.Orders.{order_is}
use Rattle.runs.specs.State.{State, start_of}
use Rattle.runs.specs.Outcome.{before_run, Report, report}
use Rattle.plain_run.specs.State.{after, spoiled}
use Rattle.plain_run.specs.Run.{ran_of, run_of}
use Rattle.plain_run.specs.Met.{rounded_by}
use Rattle.plain_run.specs.Quiet.{quiet, sweeps_made, report_of, answered_run_of}
use Rattle.plain_run.proofs.QuietSweeps.{Diagonal, quiet_diagonal, settled, settled_spoiled}

-- ---- the two ways in which a run of S sweeps ends
-- none of the sweeps 1 to m is quiet
abbrev pub NoneQuiet : ℕ → ℕ → State → Type 0
NoneQuiet n m X = (j : ℕ) → j < m → quiet n (suc j) X ≡ false

pub data Ends (n S : ℕ) (X : State) (made : ℕ) : Type 0 where
  with_all : NoneQuiet n S X → made ≡ S → Ends n S X made
  when_quiet : (j : ℕ) → suc j ≤ S → NoneQuiet n j X → quiet n (suc j) X ≡ true → made ≡ suc j → Ends n S X made

module _ (n : ℕ) (X : State) where
  pub none_yet : NoneQuiet n 0 X
  none_yet j h = absurd (omega arith)

  pub next_turning : (m : ℕ) → NoneQuiet n m X → quiet n (suc m) X ≡ false → NoneQuiet n (suc m) X
  next_turning m none e j h = up_to (λ i. quiet n (suc i) X ≡ false) m j h (none j) e

  pub made_ends : (S : ℕ) → Ends n S X (sweeps_made n S X)
  unfolding sweeps_made
  made_ends zero = with_all none_yet refl
  made_ends (suc m) = go (any m (λ j. quiet n (suc j) X)) (quiet n (suc m) X) refl refl (made_ends m)
    where
      go : (a b : Bool) → any m (λ j. quiet n (suc j) X) ≡ a → quiet n (suc m) X ≡ b → Ends n m X (sweeps_made n m X)
          → Ends n (suc m) X (cond a (sweeps_made n m X) (suc m))
      go true b x y (with_all none e) = absurd (true≢false (sym x ∙ any_from m _ none))
      go true b x y (when_quiet j h none q e) = when_quiet j (omega arith) none q e
      go false true x y before = when_quiet m (omega arith) (any_to m _ x) y refl
      go false false x y before = with_all (next_turning m (any_to m _ x) y) refl

  -- there is one end only
  quiet_once : {A : Type 0} {m : ℕ} (j : ℕ) → quiet n (suc j) X ≡ true → NoneQuiet n m X → j < m → A
  quiet_once j q none h = absurd (true≢false (sym q ∙ none j h))

  one_end : {S a b : ℕ} → Ends n S X a → Ends n S X b → a ≡ b
  one_end (with_all none e) (with_all other f) = e ∙ sym f
  one_end (with_all none e) (when_quiet j h other q f) = quiet_once j q none (omega arith)
  one_end (when_quiet i h none q e) (with_all other f) = quiet_once i q other (omega arith)
  one_end (when_quiet i h none q e) (when_quiet j o other y f) = e ∙ ap suc (go (ltb i j) (ltb j i) refl refl) ∙ sym f
    where
      go : (x z : Bool) → ltb i j ≡ x → ltb j i ≡ z → i ≡ j
      go true z u w = quiet_once i q other (ltb-true _ _ u)
      go false true u w = quiet_once j y none (ltb-true _ _ w)
      go false false u w = let a : j ≤ i = ltb-false _ _ u in let b : i ≤ j = ltb-false _ _ w in omega arith

  pub made_is : {S made : ℕ} → Ends n S X made → made ≡ sweeps_made n S X
  made_is {S} end = one_end end (made_ends S)

  pub made_within : (S : ℕ) → sweeps_made n S X ≤ S
  made_within S = go (made_ends S)
    where
      go : Ends n S X (sweeps_made n S X) → sweeps_made n S X ≤ S
      go (with_all none e) = omega arith
      go (when_quiet j h none q e) = omega arith

-- ---- what S sweeps leave is what the first m of them leave
pub record Leaves (n S : ℕ) (X : State) (m : ℕ) : Type 0 where
  pub state_left : after n (steps_of n S) X ≡ after n (steps_of n m) X
  pub spoiled_left : spoiled n (steps_of n S) X ≡ spoiled n (steps_of n m) X

module _ (n : ℕ) (order : is_order n ≡ true) (S : ℕ) (X : State) where
  -- for any quiet sweep m, the first or not
  pub quiet_leaves : (m : ℕ) → 1 ≤ m → m ≤ S → quiet n m X ≡ true → Leaves n S X m
  quiet_leaves m one h q =
      let d : Diagonal n (after n (steps_of n m) X).matrix = quiet_diagonal n order X m one q in
      let above : steps_of n m ≤ steps_of n S = mul-le-mul h (le_refl (sweep_steps n)) in
      let o = order_is n order in
      let some : m * 1 ≤ m * sweep_steps n = mul-le-mul (le_refl m) (omega arith) in
      record {
        state_left = settled n order X (steps_of n m) d (steps_of n S) above;
        spoiled_left = settled_spoiled n order X (steps_of n m) d (omega arith) (steps_of n S) above;
      }

  pub made_leaves : Leaves n S X (sweeps_made n S X)
  made_leaves = go (made_ends n X S)
    where
      go : Ends n S X (sweeps_made n S X) → Leaves n S X (sweeps_made n S X)
      go (with_all none e) = rw e (record { state_left = refl; spoiled_left = refl })
      go (when_quiet j h none q e) = rw e (quiet_leaves (suc j) (omega arith) h q)

-- ---- the outcome
module _ (n S : ℕ) (l : List Float) where
  pub ran_made : is_order n ≡ true → ran_of n S l ≡ ran_of n (sweeps_made n S (start_of n l)) l
  unfolding ran_of
  ran_made order = let w = made_leaves n order S (start_of n l) in rw (w.state_left, w.spoiled_left)

  -- (more than the most sweeps are refused by 2, whatever is made of them)
  pub run_same : S ≤ most_sweeps → (r v : List Float) → run_of n S l r v ≡ run_of n (sweeps_made n S (start_of n l)) l r v
  run_same few r v = go (is_order n) refl
    where
      go : (b : Bool) → is_order n ≡ b → run_of n S l r v ≡ run_of n (sweeps_made n S (start_of n l)) l r v
      go false e = unfold run_of before_run in (rw e)
      go true e =
          let w : sweeps_made n S (start_of n l) ≤ S = made_within n (start_of n l) S in
          unfold run_of before_run in (rw (e, le-ltb most_sweeps S few, le-ltb most_sweeps (sweeps_made n S (start_of n l)) (omega arith), ran_made e))

-- ---- what is reported
module _ (n S : ℕ) (X : State) where
  pub report_sweeps : (report_of n S X).sweeps ≡ sweeps_made n S X
  unfolding report_of
  report_sweeps = refl

  pub report_rounded : (report_of n S X).rounded ≡ rounded_by n (steps_of n (sweeps_made n S X)) X
  unfolding report_of
  report_rounded = refl

  pub reported : {made rounded : ℕ} → made ≡ sweeps_made n S X → rounded ≡ rounded_by n (steps_of n made) X → report made rounded ≡ report_of n S X
  unfolding report_of
  reported e f = rw (f, e)

-- the answer of a run that is not refused
pub answered_given : (n S : ℕ) (l r v : List Float) (told : Report) → (answered_run_of n S l r v).answer ≡ given told
    → ((run_of n S l r v).answer ≡ given tt) × (told ≡ report_of n S (start_of n l))
unfolding answered_run_of
answered_given n S l r v told e = giving_was (report_of n S (start_of n l)) told (run_of n S l r v).answer e
