-- What is put behind a text piece by piece.
use Rattle.std.proofs.Common.{◌≡◌, ◌∙◌, ℕ, ◌-◌, List, ◌++◌, take, drop, length, ap, subst, sym, append_assoc, arith}
use Rattle.std.proofs.lemmas.List.{length-drop, take_all}

pub three : (out p q r a b c : List ℕ) → p ≡ out ++ a → q ≡ p ++ b → r ≡ q ++ c → r ≡ out ++ (a ++ (b ++ c))
three out p q r a b c e f g = g ∙ ap (λ (l : List ℕ). l ++ c) (f ∙ ap (λ (l : List ℕ). l ++ b) e) ∙ append_assoc (out ++ a) b c ∙ append_assoc out a (b ++ c)

pub two : (out p q a b : List ℕ) → p ≡ out ++ a → q ≡ p ++ b → q ≡ out ++ (a ++ b)
two out p q a b e f = f ∙ ap (λ (l : List ℕ). l ++ b) e ∙ append_assoc out a b

pub joined : (out p q x b s c : List ℕ) → p ≡ out ++ x → q ≡ p ++ ((b ++ s) ++ c) → q ≡ out ++ (((x ++ b) ++ s) ++ c)
joined out p q x b s c e f =
    f ∙ ap (λ (l : List ℕ). l ++ ((b ++ s) ++ c)) e ∙ append_assoc out x ((b ++ s) ++ c)
    ∙ ap (λ (l : List ℕ). out ++ l) (sym (append_assoc x (b ++ s) c) ∙ ap (λ (l : List ℕ). l ++ c) (sym (append_assoc x b s)))

-- all that stands behind a place
pub behind : (n : ℕ) (bytes : List ℕ) → take (length bytes - n) (drop n bytes) ≡ drop n bytes
behind n bytes = let long = length-drop n bytes in take_all (length bytes - n) (drop n bytes) (omega (arith, long))
