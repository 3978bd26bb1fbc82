use Rattle.std.proofs.Common.{◌≡◌, ℕ, ◌+◌, ◌-◌, ◌≤◌, List, ◌++◌, length, take, drop}
use Rattle.std.proofs.Common.{rules, sym, ap, ◌∙◌, subst, le_refl, drop_at, length-take-le}
use Rattle.std.proofs.lemmas.Slice.{take-put_mid_below}
use Rattle.std.specs.Io.KnownBytes.{Consumes}
use Rattle.std.proofs.KnownBytes.{Consumes-trans}
use borrow.Rule.Slice.PartMut.{put_mid, post_of}
use lib.Seq.{take-add, take-append-le}
use Rattle.input_bytes.proofs.read_full.Goals as goal

-- after n bytes ys were read into the part from at on
filled : (at k n : ℕ) (xs ys : List ℕ) → at ≤ length xs → n ≤ length ys → take at xs ++ take n ys ≡ take (at + n) (put_mid at k xs ys)
filled at k n xs ys within fits =
    let all = put_mid at k xs ys in
    let front = take-put_mid_below at k xs ys at (le_refl _) within in
    let back : take n (drop at all) ≡ take n ys =
    ap (take n) (drop_at (take at xs) (ys ++ post_of at k xs) at (length-take-le at xs within)) ∙ take-append-le n ys (post_of at k xs) fits in
    sym (take-add at n all ∙ ap (λ l. l ++ take n (drop at all)) front ∙ ap (λ l. take at xs ++ l) back)

pub loop-done-preserved : goal.loop-done-preserved
loop-done-preserved g c =
    let l = c.loop-done in
    let done = filled l.done (length l.buffer - l.done) c.in_ok-n.n l.buffer c.read.new.buf l.invariant.within c.in_ok-n.ensures.bound.0 in
    record {
      within = search rules;
      as_long = search rules;
      known = subst (Consumes _ _) done (Consumes-trans _ _ _ _ _ l.invariant.known c.in_ok-n.ensures.bytes.0);
    }
