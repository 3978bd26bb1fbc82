-- What is known of a matrix whose entries are accepted. Assumes nothing.
use Prim.Native.Nat.{ℕ, ◌+◌, ◌*◌, ◌≤◌, ◌<◌}
use mathlib.Core.Path.{◌≡◌, refl, sym}
use mathlib.Core.Bool.{Bool, true, false, not, cond}
use mathlib.Core.List.{List, [], ◌∷◌}
use native.Mathlib.Omega.{arith}
use borrow.Author.Tests.{eqb-true, eq-eqb, ltb-true, ltb-false, lt-ltb}
use lib.Dec.{T, ltb}
use lib.ListN.{length, get_or}
use lib.Ieee.{Float, nan, binary64, fits, to_bits}
use Rattle.refusal.specs.Answers.{Answered, given, refused_by, row, table, first}
use Rattle.refusal.specs.declared.Refusal.TheVariants.{Length, NotFinite, NotMirrored}
use Rattle.float64.specs.Values.{finite, same_bits}
use Rattle.float64.proofs.Patterns.{same_bits_same}
use Rattle.matrix.specs.Matrix.{at}
use Rattle.matrix.specs.Entries.{first_place, not_finite_at, not_mirrored_at, finite_row, mirror_row, is_square, entries_of}
use Rattle.matrix.proofs.SameEntries.{Line, Finite, Mirrored}
use Rattle.refusal.proofs.FirstRefusal.{refused_given, both_given, of_test, each_given, first_fine}

module _ (n : ℕ) (l : List Float) (fitting : (k : ℕ) → T (fits binary64 (get_or l k nan))) (accepted : entries_of n l ≡ given tt) where
  parts : (length l ≡ n * n) × (first_place n (not_finite_at n l) ≡ given tt) × (first_place n (not_mirrored_at n l) ≡ given tt)
  parts = unfold entries_of finite_row mirror_row in (go (is_square n (length l)) refl accepted)
    where
      go : (b : Bool) → is_square n (length l) ≡ b
          → table (row (not b) Length ∷ first_place n (not_finite_at n l) ∷ first_place n (not_mirrored_at n l) ∷ []) ≡ given tt
          → (length l ≡ n * n) × (first_place n (not_finite_at n l) ≡ given tt) × (first_place n (not_mirrored_at n l) ≡ given tt)
      go true z e = let w = both_given _ _ e in (eqb-true _ _ z, w.0, (both_given _ _ w.1).0)
      go false z e = refused_given e

  pub accepted_long : length l ≡ n * n
  accepted_long = parts.0

  pub accepted_finite : Finite n (at n l)
  accepted_finite r c hr hc = test (each_given _ n (each_given _ n parts.1 r hr) c hc)
    where
      test : not_finite_at n l r c ≡ given tt → finite (at n l r c) ≡ true
      test e = unfold not_finite_at in (of_test (finite (at n l r c)) (refused_by (NotFinite r c)) (λ z. refused_given z) e)

  above : (r c : ℕ) → Line n r → Line n c → r < c → at n l r c ≡ at n l c r
  above r c hr hc h = test (each_given _ n (each_given _ n parts.2 r hr) c hc)
    where
      same : same_bits (at n l r c) (at n l c r) ≡ true → at n l r c ≡ at n l c r
      same e = unfold at in (same_bits_same _ _ (fitting _) (fitting _) (unfold at in e))

      test : not_mirrored_at n l r c ≡ given tt → at n l r c ≡ at n l c r
      test e =
          same (of_test (same_bits (at n l r c) (at n l c r)) (refused_by (NotMirrored r c)) (λ z. refused_given z)
          (unfold not_mirrored_at in (rw (lt-ltb r c h) at e)))

  pub accepted_mirrored : Mirrored n (at n l)
  accepted_mirrored r c hr hc = go (ltb r c) (ltb c r) refl refl
    where
      go : (a b : Bool) → ltb r c ≡ a → ltb c r ≡ b → at n l r c ≡ at n l c r
      go true b e f = above r c hr hc (ltb-true _ _ e)
      go false true e f = sym (above c r hc hr (ltb-true _ _ f))
      go false false e f = let w : c ≤ r = ltb-false _ _ e in let v : r ≤ c = ltb-false _ _ f in let z : r ≡ c = omega arith in rw z

-- and the other way round
pub accepted_if : (n : ℕ) (l : List Float) → length l ≡ n * n → Finite n (at n l) → Mirrored n (at n l) → entries_of n l ≡ given tt
unfolding entries_of finite_row mirror_row
accepted_if n l long f m = rw (eq-eqb (length l) (n * n) long, all_finite, all_mirrored)
  where
    one_finite : (r c : ℕ) → Line n r → Line n c → not_finite_at n l r c ≡ given tt
    one_finite r c hr hc = unfold not_finite_at in (rw (f r c hr hc))

    all_finite : first_place n (not_finite_at n l) ≡ given tt
    all_finite =
        first_fine (λ r. first n (not_finite_at n l r)) n
        (λ r h. first_fine (not_finite_at n l (r + 1)) n (λ c k. one_finite (r + 1) (c + 1) (omega arith, omega arith) (omega arith, omega arith)))

    mirrored : (r c : ℕ) → Line n r → Line n c → (b : Bool)
        → ◌≡◌ {A = Answered Unit} (cond b (cond (same_bits (at n l r c) (at n l c r)) (given tt) (refused_by (NotMirrored r c))) (given tt)) (given tt)
    mirrored r c hr hc true = rw (m r c hr hc, eq-eqb (to_bits binary64 (at n l c r)) (to_bits binary64 (at n l c r)) refl)
    mirrored r c hr hc false = refl

    one_mirrored : (r c : ℕ) → Line n r → Line n c → not_mirrored_at n l r c ≡ given tt
    one_mirrored r c hr hc = unfold not_mirrored_at in (mirrored r c hr hc (ltb r c))

    all_mirrored : first_place n (not_mirrored_at n l) ≡ given tt
    all_mirrored =
        first_fine (λ r. first n (not_mirrored_at n l r)) n
        (λ r h. first_fine (not_mirrored_at n l (r + 1)) n (λ c k. one_mirrored (r + 1) (c + 1) (omega arith, omega arith) (omega arith, omega arith)))
