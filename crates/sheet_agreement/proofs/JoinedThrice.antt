-- Three sheets are joined by either pair first. Assumes nothing.
use Prim.Native.Nat.{ℕ, ◌≤◌}
use mathlib.Core.Path.{◌≡◌, sym, ap, ◌∙◌}
use mathlib.Core.List.{List}
use native.Mathlib.Omega.{arith}
use lib.ListN.{length, take}
use Rattle.refusal.specs.Answers.{given, giving}
use Rattle.sheet_writer.specs.Writer.{WriteOutcome}
use Rattle.sheet_writer.proofs.SheetBytes.{sheet_long}
use Rattle.sheet_join.specs.Join.{joint_length, join_answer, join_of}
use Rattle.sheet_join.proofs.JoinOutcomes.{join_answers}
use Rattle.sheet_agreement.proofs.JointSheets.{Bytes, joint_sheet, joins, joint_left}
use Rattle.sheet_agreement.proofs.ThreeSheets.{Three, three_sheet, three_length, from_first, from_second, by_first, by_second, to_first, to_second}

joining_answers : (s t x : List ℕ) → join_answer s t (length x) ≡ given tt → (join_of s t x).answer ≡ given (joint_length s t)
joining_answers s t x e = join_answers s t x ∙ ap (giving (joint_length s t)) e

-- s and t are joined first, and then what f and g make of their joint sheet
abbrev twice : (s t : List ℕ) (f g : List ℕ → List ℕ) (x y : List ℕ) → ℕ → WriteOutcome
twice s t f g x y p = join_of (f (take p (join_of s t x).bytes)) (g (take p (join_of s t x).bytes)) y

-- a way to join a, b and c
record Way (a b c s t : List ℕ) (f g : List ℕ → List ℕ) : Type 0 where
  from : (p q : ℕ) → join_answer s t p ≡ given tt → join_answer (f (joint_sheet s t)) (g (joint_sheet s t)) q ≡ given tt → Three a b c
  to : Three a b c → (p q : ℕ) → three_length a b c ≤ p → three_length a b c ≤ q
      → (join_answer s t p ≡ given tt) × (join_answer (f (joint_sheet s t)) (g (joint_sheet s t)) q ≡ given tt)
  sheet : (p : ℕ) → join_answer s t p ≡ given tt → joint_sheet (f (joint_sheet s t)) (g (joint_sheet s t)) ≡ three_sheet a b c

module _ {a b c s t : List ℕ} {f g : List ℕ → List ℕ} (w : Way a b c s t f g) where
  abbrev first : List ℕ
  first = f (joint_sheet s t)

  abbrev second : List ℕ
  second = g (joint_sheet s t)

  long : (p : ℕ) → join_answer s t p ≡ given tt → joint_length first second ≡ three_length a b c
  long p e = sym (sheet_long _ _ _ _) ∙ ap length (w.sheet p e) ∙ sheet_long _ _ _ _

  taken : (x y : List ℕ) (p q : ℕ) → (join_of s t x).answer ≡ given p → (twice s t f g x y p).answer ≡ given q
      → Three a b c × (q ≡ three_length a b c) × (take q (twice s t f g x y p).bytes ≡ three_sheet a b c)
  taken x y p q e o =
      let inner = (joins s t x p e).0 in
      let o' = rw (joint_left s t x p e) at o in
      let outer = joins first second y q o' in (
        w.from (length x) (length y) inner outer.0,
        outer.2 ∙ long (length x) inner,
        rw (joint_left s t x p e) (joint_left first second y q o' ∙ w.sheet (length x) inner),
      )

  made : Three a b c → (x y : List ℕ) (q : ℕ) → q ≡ three_length a b c → q ≤ length x → q ≤ length y
      → (r : ℕ) × ((join_of s t x).answer ≡ given r) × ((twice s t f g x y r).answer ≡ given q) × (take q (twice s t f g x y r).bytes ≡ three_sheet a b c)
  made known x y q e h k =
      let both = w.to known (length x) (length y) (omega arith) (omega arith) in
      let inner = joining_answers s t x both.0 in
      let outer = joining_answers first second y both.1 ∙ ap given (long (length x) both.0 ∙ sym e) in (
        joint_length s t,
        inner,
        rw (joint_left s t x _ inner) outer,
        rw (joint_left s t x _ inner) (joint_left first second y q outer ∙ w.sheet (length x) both.0),
      )

-- what is joined one way is joined the other way
module _ {a b c s t s' t' : List ℕ} {f g f' g' : List ℕ → List ℕ} (w : Way a b c s t f g) (w' : Way a b c s' t' f' g') where
  either_way : (x y : List ℕ) (p q : ℕ) → (join_of s t x).answer ≡ given p → (twice s t f g x y p).answer ≡ given q
      → (x' y' : List ℕ) → q ≤ length x' → q ≤ length y'
      → (r : ℕ) × ((join_of s' t' x').answer ≡ given r) × ((twice s' t' f' g' x' y' r).answer ≡ given q)
      × (take q (twice s' t' f' g' x' y' r).bytes ≡ take q (twice s t f g x y p).bytes)
  either_way x y p q e o x' y' h k =
      let v = taken w x y p q e o in
      let u = made w' v.0 x' y' q v.1 h k in
      (u.0, u.1, u.2, u.3 ∙ sym v.2)

module _ (a b c : List ℕ) (bytes-a : Bytes a) (bytes-b : Bytes b) (bytes-c : Bytes c) where
  first_way : Way a b c a b (λ z. z) (λ z. c)
  first_way =
      record {
        from = from_first a b c bytes-a bytes-b bytes-c;
        to = to_first a b c bytes-a bytes-b bytes-c;
        sheet = by_first a b c bytes-a bytes-b bytes-c;
      }

  second_way : Way a b c b c (λ z. a) (λ z. z)
  second_way =
      record {
        from = from_second a b c bytes-a bytes-b bytes-c;
        to = to_second a b c bytes-a bytes-b bytes-c;
        sheet = by_second a b c bytes-a bytes-b bytes-c;
      }

  -- the first pair first, and then the second pair first
  pub first_then_second : (x y : List ℕ) (p q : ℕ) → (join_of a b x).answer ≡ given p → (join_of (take p (join_of a b x).bytes) c y).answer ≡ given q
      → (x' y' : List ℕ) → q ≤ length x' → q ≤ length y'
      → (r : ℕ) × ((join_of b c x').answer ≡ given r) × ((join_of a (take r (join_of b c x').bytes) y').answer ≡ given q)
      × (take q (join_of a (take r (join_of b c x').bytes) y').bytes ≡ take q (join_of (take p (join_of a b x).bytes) c y).bytes)
  first_then_second = either_way first_way second_way

  -- and the other way round
  pub second_then_first : (x y : List ℕ) (p q : ℕ) → (join_of b c x).answer ≡ given p → (join_of a (take p (join_of b c x).bytes) y).answer ≡ given q
      → (x' y' : List ℕ) → q ≤ length x' → q ≤ length y'
      → (r : ℕ) × ((join_of a b x').answer ≡ given r) × ((join_of (take r (join_of a b x').bytes) c y').answer ≡ given q)
      × (take q (join_of (take r (join_of a b x').bytes) c y').bytes ≡ take q (join_of a (take p (join_of b c x).bytes) y).bytes)
  second_then_first = either_way second_way first_way
