-- How many ticks of a run by hand are made of a record that passes a test of its order, sweeps and tick. Assumes nothing.
use Prim.Native.Nat.{ℕ, suc, ◌+◌, ◌*◌, ◌≤◌, ◌<◌, min}
use mathlib.Core.Path.{◌≡◌, refl, ap, ◌∙◌}
use mathlib.Core.Bool.{Bool, true, false, cond, ◌&&◌}
use mathlib.Core.List.{List, [], ◌∷◌}
use native.Mathlib.Nat.{zero-add}
use native.Mathlib.Omega.{arith}
use borrow.Author.Tests.{ltb-true, ltb-false}
use lib.Dec.{ltb}
use lib.ListN.{length}
use lib.Ieee.{Float}
use Rattle.refusal.specs.Answers.{given, answered}
use Rattle.lists.specs.Bounded.{count}
use Rattle.sizes.specs.Sizes.{is_order, most_sweeps, ticks_of}
use Rattle.runs.proofs.Verdicts.{begins}
use Rattle.tile_schedule.specs.Answers.{made, stopped, progress_answered}
use Rattle.array.specs.declared.Array.{Array}
use Rattle.array.specs.declared.Started.{Started}
use Rattle.array.specs.declared.Ticked.{Ticked}
use Rattle.array.specs.Runs.{start_array}
use Rattle.array.proofs.MadeTicks.{is_given_lem, started_array}
use Rattle.array_agreement.specs.Hand.{last_array, Follow, ByHand, is_tick_made, made_where, first_made}
use Rattle.array_agreement.proofs.Agreement.{record_by, ticked_is}
use Rattle.array_agreement.proofs.Hand.{last_is, answer_is}

module _ (n sweeps : ℕ) (f : Array → Bool) (g : ℕ → Bool) (same : (x : Array) → x.n ≡ n → x.sweeps ≡ sweeps → f x ≡ g x.tick) where
  abbrev last : ℕ
  last = ticks_of n sweeps

  module _ (l : List Float) (order : is_order n ≡ true) (few : sweeps ≤ most_sweeps) (long : length l ≡ n * n)
      (s : Started) (start : s.array ≡ start_array n sweeps l) where
    -- the record after as many ticks as there are, none of them stopped
    passes : (rs : List Ticked) → Follow s rs → length rs ≤ last → f (last_array s rs) ≡ g (length rs)
    unfolding record_by
    passes rs p h =
        let x = record_by n sweeps l order few long (length rs) in
        let e : last_array s rs ≡ x = last_is s rs p ∙ rw start (ticked_is n sweeps l order few long (length rs) h) in
        ap f e ∙ same x refl refl

    from_start : (rs : List Ticked) → Follow s rs → made_where f s rs ≡ count g (min last (length rs))
    unfolding count first_made
    from_start [] p = let e : min last 0 ≡ 0 = omega arith in rw e
    from_start (r ∷ rs) p =
        let answer : progress_answered r.answer ≡ first_made last (length rs) =
        p.1.answers ∙ rw (last_is s rs p.0, start) (answer_is n sweeps l order few long (length rs)) in
        rw answer (go (ltb (length rs) last) refl (from_start rs p.0))
      where
        go : (b : Bool) → ltb (length rs) last ≡ b → made_where f s rs ≡ count g (min last (length rs))
            → cond (is_tick_made (cond b (given made) (given stopped)) && f (last_array s rs)) 1 0 + made_where f s rs ≡ count g (min last (suc (length rs)))
        go true z h =
            let w : length rs < last = ltb-true _ _ z in
            let a : min last (suc (length rs)) ≡ suc (length rs) = omega arith in
            let b : min last (length rs) ≡ length rs = omega arith in
            rw (passes rs p.0 (omega arith), h, a, b)
        go false z h =
            let w : last ≤ length rs = ltb-false _ _ z in
            let a : min last (suc (length rs)) ≡ min last (length rs) = omega arith in
            rw (a, zero-add) h

  -- They are the ticks from 0 on, up to the last, at which the test holds.
  pub made_where_lem : (l : List Float) (s : Started) (rs : List Ticked) → ByHand n sweeps l s rs → answered s.answer ≡ given tt
      → made_where f s rs ≡ count g (min last (length rs))
  made_where_lem l s rs h e =
      let b = begins n sweeps l (length l) (length l) (is_given_lem n sweeps l s h.starts e) in
      from_start l b.order b.few b.result_long s (started_array n sweeps l s h.starts e) rs h.ticks

  pub all_made_where : (l : List Float) (s : Started) (rs : List Ticked) → ByHand n sweeps l s rs → answered s.answer ≡ given tt
      → last ≤ length rs → made_where f s rs ≡ count g last
  all_made_where l s rs h e all = let w : min last (length rs) ≡ last = omega arith in rw w at (made_where_lem l s rs h e)
