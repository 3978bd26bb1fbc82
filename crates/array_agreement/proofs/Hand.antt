-- Runs by hand, over every list of calls. Assumes nothing.
use Prim.Native.Nat.{ℕ, zero, suc, ◌+◌, ◌-◌, ◌*◌, ◌≤◌, ◌<◌}
use mathlib.Core.Path.{◌≡◌, refl, sym, ap, ◌∙◌}
use mathlib.Core.Bool.{Bool, true, false, cond}
use mathlib.Core.List.{List, [], ◌∷◌}
use native.Mathlib.Omega.{arith}
use borrow.Author.Tests.{ltb-true, ltb-false}
use lib.Dec.{T, ltb}
use lib.ListN.{length, get_or}
use lib.Ieee.{Float, nan, binary64, fits}
use Rattle.refusal.specs.Answers.{Answered, given, refused, refused_by}
use Rattle.refusal.specs.declared.Refusal.TheVariants.{Order}
use Rattle.sizes.specs.Sizes.{is_order, most_sweeps, steps_of, ticks_of}
use Rattle.plain_run.specs.State.{not_finite, spoiled}
use Rattle.runs.specs.State.{start_of}
use Rattle.runs.proofs.Verdicts.{Begins, begins}
use Rattle.tile_schedule.specs.Answers.{Tick, made, stopped, progress_of}
use Rattle.tile_schedule.proofs.Answers.{tick_refused, is_made, is_stopped}
use Rattle.sizes.proofs.Orders.{refused_1}
use Rattle.array.specs.declared.Array.{Array}
use Rattle.array.specs.declared.Started.{Started}
use Rattle.array.specs.declared.Ticked.{Ticked}
use Rattle.array.specs.Runs.{start_array, no_array, start_answer, started_of, next_array, ticked}
use Rattle.array_agreement.specs.Hand.{last_array, Follow, ByHand, answers_of, counted}
use Rattle.array_agreement.specs.Hand.{RefusedByHand, first_made, Agrees, Ended, AcceptedByHand, ClaimedByHand}
use Rattle.array_agreement.proofs.Agreement.{record_by, ticked_is, ticked_stays, last_matrix, last_vectors, last_marked, start_clean}

-- ---- any list of calls
-- what a tick of a record answers
abbrev answer_to : Array → Answered Tick
answer_to x = progress_of x.n x.sweeps x.tick

module _ (s : Started) where
  pub last_is : (rs : List Ticked) → Follow s rs → last_array s rs ≡ ticked (length rs) s.array
  unfolding ticked next_array
  last_is [] f = refl
  last_is (r ∷ rs) f = f.1.hands_back ∙ ap next_array (last_is rs f.0)

  answers_are : (rs : List Ticked) → Follow s rs → answers_of rs ≡ counted (λ t. answer_to (ticked t s.array)) (length rs)
  answers_are [] f = refl
  answers_are (r ∷ rs) f = rw (f.1.answers, last_is rs f.0, answers_are rs f.0)

counted_same : (f g : ℕ → Answered Tick) → ((t : ℕ) → f t ≡ g t) → (k : ℕ) → counted f k ≡ counted g k
counted_same f g e zero = refl
counted_same f g e (suc k) = rw (e k, counted_same f g e k)

-- ---- a refused start
none_refused : refused_by Order ≡ answer_to no_array
unfolding no_array
none_refused = tick_refused 0 0 0 (refused_1 0 0 (unfold is_order in refl))

none_stays : (k : ℕ) → ticked k no_array ≡ no_array
unfolding ticked next_array
none_stays zero = refl
none_stays (suc k) = rw (none_stays k, ← none_refused)

refused_by_hand : (s : Started) (rs : List Ticked) → s.array ≡ no_array → Follow s rs → RefusedByHand s rs
refused_by_hand s rs e f =
    record {
      all_refused = answers_are s rs f ∙ counted_same _ _ (λ t. rw (e, none_stays t) (sym none_refused)) (length rs);
      zeros_back = last_is s rs f ∙ rw e (none_stays (length rs));
    }

-- ---- an accepted start
module _ (n sweeps : ℕ) (l : List Float) (order : is_order n ≡ true) (few : sweeps ≤ most_sweeps) (long : length l ≡ n * n) where
  abbrev last : ℕ
  last = ticks_of n sweeps

  stays : (t : ℕ) → last ≤ t → ticked t (start_array n sweeps l) ≡ record_by n sweeps l order few long last
  stays t h = let e : t - last + last ≡ t = omega arith in rw e at (ticked_stays n sweeps l order few long (t - last))

  pub answer_is : (t : ℕ) → answer_to (ticked t (start_array n sweeps l)) ≡ first_made last t
  unfolding first_made
  answer_is t = go (ltb t last) refl
    where
      go : (b : Bool) → ltb t last ≡ b → answer_to (ticked t (start_array n sweeps l)) ≡ cond b (given made) (given stopped)
      go true e =
          let h : t < last = ltb-true _ _ e in
          rw (ticked_is n sweeps l order few long t (omega arith)) (unfold record_by in (sym (is_made n sweeps t order few h)))
      go false e =
          let h : last ≤ t = ltb-false _ _ e in
          rw (stays t h) (unfold record_by in (sym (is_stopped n sweeps last order few (omega arith))))

  pub ended : not_finite n (start_of n l) ≡ false → (t : ℕ) → last ≤ t → Ended n sweeps l (ticked t (start_array n sweeps l))
  ended clean t h =
      record {
        stays = stays t h ∙ sym (ticked_is n sweeps l order few long last (omega arith));
        finite_agrees = λ e. rw (stays t h) (agrees e);
        spoiled_marked = λ e. rw (stays t h) (unfold record_by in (last_marked n sweeps l order few long clean ∙ e));
      }
    where
      agrees : spoiled n (steps_of n sweeps) (start_of n l) ≡ false → Agrees n sweeps l (record_by n sweeps l order few long last)
      agrees e = unfold record_by in
          (record {
            matrix_agrees = last_matrix n sweeps l order few long;
            vectors_agree = last_vectors n sweeps l order few long;
            none_marked = last_marked n sweeps l order few long clean ∙ e;
          })

  accepted_by_hand : (s : Started) (rs : List Ticked) → not_finite n (start_of n l) ≡ false → s.array ≡ start_array n sweeps l → Follow s rs
      → AcceptedByHand n sweeps l s rs
  accepted_by_hand s rs clean e f =
      record {
        made_then_stopped = answers_are s rs f ∙ counted_same _ _ (λ t. rw e (answer_is t)) (length rs);
        ends = λ h. rw (last_is s rs f, e) (ended clean (length rs) h);
      }

-- one claim over every list of calls
pub by_hand : (n sweeps : ℕ) (l : List Float) → ((k : ℕ) → T (fits binary64 (get_or l k nan))) → (s : Started) (rs : List Ticked) → ByHand n sweeps l s rs
    → ClaimedByHand (start_answer n sweeps l) n sweeps l s rs
by_hand n sweeps l fitting s rs h = go (start_answer n sweeps l) refl h.starts.hands_back
  where
    accepted : Begins n sweeps l (length l) (length l) → s.array ≡ start_array n sweeps l → AcceptedByHand n sweeps l s rs
    accepted b e = accepted_by_hand n sweeps l b.order b.few b.result_long s rs (start_clean n sweeps l _ _ fitting b) e h.ticks

    go : (t : Answered Unit) → start_answer n sweeps l ≡ t → s.array ≡ started_of t n sweeps l → ClaimedByHand t n sweeps l s rs
    go (given x) e a = accepted (begins n sweeps l _ _ e) a
    go (refused k values) e a = refused_by_hand s rs a h.ticks
