-- The array computes what the sequential run computes. Assumes nothing.
use Prim.Native.Nat.{ℕ, zero, suc, ◌+◌, ◌-◌, ◌*◌, ◌≤◌, ◌<◌}
use mathlib.Core.Path.{◌≡◌, refl, sym, ◌∙◌, ap}
use mathlib.Core.Logic.{◌↔◌}
use mathlib.Core.Bool.{Bool, false, ◌||◌}
use native.Mathlib.Omega.{arith}
use Rattle.systolic.specs.Slots.{Side, left, right, Slot, slot, came_from, prior, next_by, line_at, ordered_line}
use Rattle.lists.specs.Bounded.{any}
use Rattle.systolic.specs.Blocks.{Block, cell, tab, pick}
use Rattle.systolic.specs.Synchronous.{rotate_all, move_all, blocks_at, rotated_at, kept_at}
use Rattle.systolic.specs.Arrays.{array_after}
use Rattle.systolic.specs.Sequential.{Rules, sequential, block_at_turn, sequential_kept, fails_in, block_at, any_fails, operations_of}
use Rattle.lists.proofs.Bounded.{or_false, same_bool, any_to, any_from}
use Rattle.systolic.proofs.Movement.{prior_le, next_by_le}
use Rattle.systolic.proofs.Lines.{Distinct, line_at_lem, line_from, line_one, line_sweeps, in_order_one, in_order_in, in_order_of}
use Rattle.systolic.proofs.Cells.{cell_tab, tab_ext}
use Rattle.systolic.proofs.Ticks.{cells_end, marks_fine}
use Rattle.systolic.proofs.Steps.{at_turn, step_agrees}

four_to : (a b c d : Bool) → (a || b || c || d) ≡ false → (a ≡ false) × (b ≡ false) × (c ≡ false) × (d ≡ false)
four_to a b c d e =
    let x = or_false (a || b || c) d e in
    let y = or_false (a || b) c x.0 in
    let z = or_false a b y.0 in
    (z.0, z.1, y.1, x.1)

four_from : (a b c d : Bool) → a ≡ false → b ≡ false → c ≡ false → d ≡ false → (a || b || c || d) ≡ false
four_from a b c d e f g h = rw (e, f, g, h)

module _ {X H W D : Type 0} (R : Rules X H W D) (l : Slot → ℕ) (m : ℕ) (one : Distinct m l) (M : ℕ → ℕ → X) (x : X) (h : H) (w : W) (d : D) where
  rotated_same : (k : ℕ) (s t : ℕ → ℕ → Block X) → ((i j : ℕ) → i ≤ m → j ≤ m → s i j ≡ t i j) → (i j : ℕ) → i ≤ m → j ≤ m
      → rotate_all (operations_of R l M x h w d) k s i j ≡ rotate_all (operations_of R l M x h w d) k t i j
  unfolding rotate_all
  rotated_same k s t e i j p q = rw (e i i p p, e j j q q, e i j p q)

  abbrev Same : ℕ → Type 0
  Same k = (i j : ℕ) → i ≤ m → j ≤ m → blocks_at (operations_of R l M x h w d) m k i j ≡ block_at (line_at l m k) (sequential R l m M k) i j

  rotated_after : (k : ℕ) → Same k → (i j : ℕ) → i ≤ m → j ≤ m
      → rotate_all (operations_of R l M x h w d) k (blocks_at (operations_of R l M x h w d) m k) i j ≡ block_at (line_at l m k) (sequential R l m M (suc k)) i j
  unfolding sequential
  rotated_after k e i j p q =
      rotated_same k (blocks_at (operations_of R l M x h w d) m k) (block_at (line_at l m k) (sequential R l m M k)) e i j p q
      ∙ step_agrees R k m (line_at l m k) (line_one l m one k) (sequential R l m M k) l M x h w d i j p q

  moved_agrees : (k : ℕ)
      → ((i j : ℕ) → i ≤ m → j ≤ m → rotate_all (operations_of R l M x h w d) k (blocks_at (operations_of R l M x h w d) m k) i j
      ≡ block_at (line_at l m k) (sequential R l m M (suc k)) i j)
      → (i j : ℕ) → i ≤ m → j ≤ m
      → move_all m (rotate_all (operations_of R l M x h w d) k (blocks_at (operations_of R l M x h w d) m k)) i j
      ≡ block_at (line_at l m (suc k)) (sequential R l m M (suc k)) i j
  unfolding move_all pick block_at line_at prior slot
  moved_agrees k e i j p q =
      tab_ext _ _ (λ r s.
      ap (cell (came_from m r i).side (came_from m s j).side)
      (e (came_from m r i).processor (came_from m s j).processor (prior_le m (slot i r) p) (prior_le m (slot j s) q))
      ∙ cell_tab _ (came_from m r i).side (came_from m s j).side)

  -- the array's state between the steps, and after a rotation
  pub blocks_sequential : (k i j : ℕ) → i ≤ m → j ≤ m → blocks_at (operations_of R l M x h w d) m k i j ≡ block_at (line_at l m k) (sequential R l m M k) i j
  unfolding blocks_at line_at sequential operations_of
  blocks_sequential zero i j p q = refl
  blocks_sequential (suc k) i j p q = moved_agrees k (rotated_after k (blocks_sequential k)) i j p q

  pub rotated_sequential : (k i j : ℕ) → i ≤ m → j ≤ m
      → rotated_at (operations_of R l M x h w d) m k i j ≡ block_at (line_at l m k) (sequential R l m M (suc k)) i j
  unfolding rotated_at
  rotated_sequential k i j p q = rotated_after k (blocks_sequential k) i j p q

  -- what a diagonal processor keeps
  pub kept_sequential : (k i : ℕ) → i ≤ m → kept_at (operations_of R l M x h w d) m k i ≡ sequential_kept R l m M d k i
  unfolding kept_at sequential_kept operations_of
  kept_sequential zero i p = refl
  kept_sequential (suc k) i p =
      ap (λ (b : Block X). R.keeps k i b (kept_at (operations_of R l M x h w d) m k i)) (blocks_sequential k i i p p ∙ sym turn)
      ∙ ap (R.keeps k i (block_at_turn R l m M k i)) (kept_sequential k i p)
    where
      turn : block_at_turn R l m M k i ≡ block_at (line_at l m k) (sequential R l m M k) i i
      turn = unfold block_at_turn in (at_turn R k m (line_at l m k) (line_one l m one k) (sequential R l m M k) i p)

  -- after the last tick of n sweeps every tile holds its part of the sequential run's matrix
  pub block_agrees : (n i j : ℕ) → i ≤ m → j ≤ m
      → (array_after (operations_of R l M x h w d) m (n * (2 * m + 1)) (3 * (n * (2 * m + 1)) + suc m) i j).cells
      ≡ block_at l (sequential R l m M (n * (2 * m + 1))) i j
  block_agrees n i j p q =
      cells_end (operations_of R l M x h w d) m (n * (2 * m + 1)) i j p q ∙ blocks_sequential (n * (2 * m + 1)) i j p q ∙ home n i j p q
    where
      home : (n i j : ℕ) → i ≤ m → j ≤ m
          → block_at (line_at l m (n * (2 * m + 1))) (sequential R l m M (n * (2 * m + 1))) i j ≡ block_at l (sequential R l m M (n * (2 * m + 1))) i j
      home n i j p q =
          unfold block_at in (tab_ext _ _ (λ r s. rw (line_sweeps l m n (slot i r) (unfold slot in p), line_sweeps l m n (slot j s) (unfold slot in q))))

  pub cell_agrees : (n : ℕ) (u z : Slot) → u.processor ≤ m → z.processor ≤ m
      → pick (λ i j. (array_after (operations_of R l M x h w d) m (n * (2 * m + 1)) (3 * (n * (2 * m + 1)) + suc m) i j).cells) u z
      ≡ sequential R l m M (n * (2 * m + 1)) (l u) (l z)
  unfolding pick block_at slot
  cell_agrees n u z p q = ap (cell u.side z.side) (block_agrees n u.processor z.processor p q) ∙ cell_tab _ u.side z.side

  -- ---- the marks
  -- no entry fails after k steps
  abbrev pub Clean : ℕ → Type 0
  Clean k = (u z : Slot) → u.processor ≤ m → z.processor ≤ m → R.fails (sequential R l m M k (l u) (l z)) ≡ false

  each_to : (b : Block X) → any_fails R b ≡ false → (r s : Side) → R.fails (cell r s b) ≡ false
  unfolding any_fails cell
  each_to b e left left = (four_to (R.fails b.α) (R.fails b.β) (R.fails b.γ) (R.fails b.δ) e).0
  each_to b e left right = (four_to (R.fails b.α) (R.fails b.β) (R.fails b.γ) (R.fails b.δ) e).1
  each_to b e right left = (four_to (R.fails b.α) (R.fails b.β) (R.fails b.γ) (R.fails b.δ) e).2
  each_to b e right right = (four_to (R.fails b.α) (R.fails b.β) (R.fails b.γ) (R.fails b.δ) e).3

  block_to : (L : Slot → ℕ) (A : ℕ → ℕ → X) (i j : ℕ) → any_fails R (block_at L A i j) ≡ false
      → (r s : Side) → R.fails (A (L (slot i r)) (L (slot j s))) ≡ false
  unfolding block_at
  block_to L A i j e r s = ap R.fails (sym (cell_tab _ r s)) ∙ each_to (block_at L A i j) e r s

  block_from : (L : Slot → ℕ) (A : ℕ → ℕ → X) (i j : ℕ) → ((r s : Side) → R.fails (A (L (slot i r)) (L (slot j s))) ≡ false)
      → any_fails R (block_at L A i j) ≡ false
  unfolding any_fails block_at tab
  block_from L A i j f = four_from _ _ _ _ (f left left) (f left right) (f right left) (f right right)

  -- at any step s the lines are the labels
  clean_to : (k s : ℕ) → Clean k → (i j : ℕ) → i ≤ m → j ≤ m → any_fails R (block_at (line_at l m s) (sequential R l m M k) i j) ≡ false
  clean_to k s c i j p q =
      block_from (line_at l m s) (sequential R l m M k) i j (λ a b.
      let u = line_from l m s (slot i a) (unfold slot in p) in
      let z = line_from l m s (slot j b) (unfold slot in q) in
      rw (u.2, z.2) (c u.0 z.0 u.1 z.1))

  clean_from : (k s : ℕ) → ((i j : ℕ) → i ≤ m → j ≤ m → any_fails R (block_at (line_at l m s) (sequential R l m M k) i j) ≡ false) → Clean k
  unfolding slot
  clean_from k s f u z p q =
      rw (← (line_at_lem l m s u p), ← (line_at_lem l m s z q))
      (block_to (line_at l m s) (sequential R l m M k) (next_by m s u).processor (next_by m s z).processor
      (f _ _ (next_by_le m s u p) (next_by_le m s z q)) (next_by m s u).side (next_by m s z).side)

  last_clean : (K : ℕ) → Clean 0 → ((k : ℕ) → k < K → Clean (suc k)) → Clean K
  last_clean zero c g = c
  last_clean (suc k) c g = g k (omega arith)

  -- no tile is marked at the end exactly if no entry fails after a step
  pub marks_agree : (K : ℕ) → Clean 0
      → ((i j : ℕ) → i ≤ m → j ≤ m → (array_after (operations_of R l M x h w d) m K (3 * K + suc m) i j).mark ≡ false) ↔ ((k : ℕ) → k < K → Clean (suc k))
  unfolding operations_of blocks_at
  marks_agree K c = (
    λ f k o. clean_from (suc k) k (λ i j p q.
        ap (any_fails R) (sym (rotated_sequential k i j p q)) ∙ ((marks_fine (operations_of R l M x h w d) m K).0 f i j p q).turns k o),
    λ g. (marks_fine (operations_of R l M x h w d) m K).1 (λ i j p q. record {
      start = λ _. ap (any_fails R) (blocks_sequential 0 i j p q) ∙ clean_to 0 0 c i j p q;
      turns = λ k o. ap (any_fails R) (rotated_sequential k i j p q) ∙ clean_to (suc k) k (g k o) i j p q;
      end = ap (any_fails R) (blocks_sequential K i j p q) ∙ clean_to K K (last_clean K c g) i j p q;
    }),
  )

-- ---- the lines b to b + 2 N - 1 in order: some tile is marked exactly where some entry failed after a step
module _ {X H W D : Type 0} (R : Rules X H W D) (b m : ℕ) (M : ℕ → ℕ → X) (x : X) (h : H) (w : W) (d : D) where
  fails_to : (A : ℕ → ℕ → X) → fails_in R b (2 * suc m) A ≡ false → (u z : Slot) → u.processor ≤ m → z.processor ≤ m
      → R.fails (A (ordered_line b u) (ordered_line b z)) ≡ false
  unfolding fails_in
  fails_to A e u z p q =
      let o = in_order_in b m u p in
      let o' = in_order_in b m z q in
      let i : b + (ordered_line b u - b) ≡ ordered_line b u = omega (arith, o) in
      let j : b + (ordered_line b z - b) ≡ ordered_line b z = omega (arith, o') in
      rw (i, j) at (any_to (2 * suc m) _ (any_to (2 * suc m) _ e (ordered_line b u - b) (omega (arith, o))) (ordered_line b z - b) (omega (arith, o')))

  fails_from : (A : ℕ → ℕ → X) → ((u z : Slot) → u.processor ≤ m → z.processor ≤ m → R.fails (A (ordered_line b u) (ordered_line b z)) ≡ false)
      → fails_in R b (2 * suc m) A ≡ false
  unfolding fails_in
  fails_from A f =
      any_from (2 * suc m) _ (λ r o. any_from (2 * suc m) _ (λ c o'.
      let u = in_order_of b m (b + r) (omega arith) (omega arith) in
      let z = in_order_of b m (b + c) (omega arith) (omega arith) in
      rw (← u.2, ← z.2) (f u.0 z.0 u.1 z.1)))

  pub mark_agrees : (K : ℕ) → fails_in R b (2 * suc m) M ≡ false
      → any (suc m) (λ i. any (suc m) (λ j. (array_after (operations_of R (ordered_line b) M x h w d) m K (3 * K + suc m) i j).mark))
      ≡ any K (λ k. fails_in R b (2 * suc m) (sequential R (ordered_line b) m M (suc k)))
  mark_agrees K e = same_bool _ _ to from
    where
      both : ((i j : ℕ) → i ≤ m → j ≤ m → (array_after (operations_of R (ordered_line b) M x h w d) m K (3 * K + suc m) i j).mark ≡ false)
          ↔ ((k : ℕ) → k < K → Clean R (ordered_line b) m (in_order_one b m) M x h w d (suc k))
      both = marks_agree R (ordered_line b) m (in_order_one b m) M x h w d K (unfold sequential in (fails_to M e))

      to : any (suc m) (λ i. any (suc m) (λ j. (array_after (operations_of R (ordered_line b) M x h w d) m K (3 * K + suc m) i j).mark)) ≡ false
          → any K (λ k. fails_in R b (2 * suc m) (sequential R (ordered_line b) m M (suc k))) ≡ false
      to f =
          any_from K _ (λ k o. fails_from (sequential R (ordered_line b) m M (suc k))
          (both.0 (λ i j p q. any_to (suc m) _ (any_to (suc m) _ f i (omega arith)) j (omega arith)) k o))

      from : any K (λ k. fails_in R b (2 * suc m) (sequential R (ordered_line b) m M (suc k))) ≡ false
          → any (suc m) (λ i. any (suc m) (λ j. (array_after (operations_of R (ordered_line b) M x h w d) m K (3 * K + suc m) i j).mark)) ≡ false
      from f =
          any_from (suc m) _ (λ i o. any_from (suc m) _ (λ j o'.
          both.1 (λ k y. fails_to (sequential R (ordered_line b) m M (suc k)) (any_to K _ f k y)) i j (omega arith) (omega arith)))

  -- After n sweeps, 3 K + N ticks, each cell of the array is the sequential run's entry at its lines; and given a start without failing entries, some tile
  -- is marked exactly if an entry failed after some step.
  pub record Agreement (n : ℕ) : Type 0 where
    pub cells : (u z : Slot) → u.processor ≤ m → z.processor ≤ m
        → pick (λ i j. (array_after (operations_of R (ordered_line b) M x h w d) m (n * (2 * m + 1)) (3 * (n * (2 * m + 1)) + suc m) i j).cells) u z
        ≡ sequential R (ordered_line b) m M (n * (2 * m + 1)) (ordered_line b u) (ordered_line b z)
    pub mark : fails_in R b (2 * suc m) M ≡ false
        → any (suc m) (λ i. any (suc m) (λ j.
        (array_after (operations_of R (ordered_line b) M x h w d) m (n * (2 * m + 1)) (3 * (n * (2 * m + 1)) + suc m) i j).mark))
        ≡ any (n * (2 * m + 1)) (λ k. fails_in R b (2 * suc m) (sequential R (ordered_line b) m M (suc k)))

  pub agreement : (n : ℕ) → Agreement n
  agreement n = record { cells = cell_agrees R (ordered_line b) m (in_order_one b m) M x h w d n; mark = mark_agrees (n * (2 * m + 1)) }
