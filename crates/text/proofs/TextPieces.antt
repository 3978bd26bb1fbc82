-- Text put into bytes, one piece after the other. Assumes nothing.
use Rattle.std.proofs.Common.{◌≡◌, ℕ, zero, suc, ◌+◌, ◌/◌, ◌%◌, ◌<◌, ◌≤◌, List, [], ◌∷◌, ◌++◌, length, take, drop, refl, sym, ap, ◌∙◌}
use Rattle.std.proofs.Common.{append_assoc, append-nil, length-append, add-one, zero-add, arith}
use borrow.Author.Tests.{lt-ltb, le-ltb}
use lib.ListN.{take-append-drop}
use lib.Seq.{drop-drop}
use Rattle.text.specs.Text.{code_of, shown_from, hex_of, Put}
use Rattle.text.specs.Pages.{Puts}
use Rattle.text.specs.declared.Page.{Page}

pub put_then : {l m r s t : List ℕ} {at e f : ℕ} → Put l at s m e → Put m e t r f → Put l at (s ++ t) r f
put_then {l} {m} {r} {s} {t} {at} {e} {f} p q =
    record {
      ends = q.ends ∙ ap (λ (x : ℕ). x + length t) p.ends ∙ ends_sum;
      begins = q.begins ∙ ap (λ (x : List ℕ). x ++ t) p.begins ∙ append_assoc (take at l) s t;
      as_long = q.as_long ∙ p.as_long;
      kept = q.kept ∙ from_end m ∙ ap (drop (length t)) p.kept ∙ sym (from_end l);
    }
  where
    ends_sum : at + length s + length t ≡ at + length (s ++ t)
    ends_sum = let z = length-append s t in omega arith

    from_end : (x : List ℕ) → drop f x ≡ drop (length t) (drop e x)
    from_end x = ap (λ (k : ℕ). drop k x) q.ends ∙ sym (drop-drop (length t) e x)

pub puts_none : (p : Page) → Puts p [] p
puts_none p =
    record {
      same_bytes = refl;
      put = record { ends = omega arith; begins = sym (append-nil (take p.end p.bytes.now)); as_long = refl; kept = refl };
    }

pub puts_then : {p q r : Page} {s t : List ℕ} → Puts p s q → Puts q t r → Puts p (s ++ t) r
puts_then a b = record { same_bytes = b.same_bytes ∙ a.same_bytes; put = put_then a.put b.put }

pub puts_as : {p q : Page} {s t : List ℕ} → Puts p s q → s ≡ t → Puts p t q
puts_as a e = rw (← e) a

-- ---- digits
pub shown_not : (u n : ℕ) → n < u → shown_from u n ≡ []
unfolding shown_from
shown_not u n h = rw (lt-ltb n u h)

pub shown : (u n : ℕ) → u ≤ n → shown_from u n ≡ code_of (n / u % 10) ∷ []
unfolding shown_from
shown u n h = rw (le-ltb n u h)

pub hex_length : (k w : ℕ) → length (hex_of k w) ≡ k
unfolding hex_of
hex_length zero w = refl
hex_length (suc k) w = length-append (hex_of k (w / 16)) (code_of (w % 16) ∷ []) ∙ rw (hex_length k (w / 16), add-one)

-- ---- the whole text
pub put_whole : (l s m : List ℕ) (e : ℕ) → Put l 0 s m e → (e ≡ length s) × (m ≡ s ++ drop (length s) l)
put_whole l s m e p =
    let z : e ≡ length s = p.ends ∙ zero-add (length s) in
    (z, sym (take-append-drop e m) ∙ ap (λ (x : List ℕ). x ++ drop e m) p.begins ∙ ap (λ (x : List ℕ). s ++ x) (p.kept ∙ ap (λ (x : ℕ). drop x l) z))
