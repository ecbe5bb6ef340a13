-- Lines by their places.
use Rattle.std.proofs.Common.{◌≡◌, ℕ, zero, suc, ◌+◌, List, [], ◌∷◌, ◌++◌, take, refl, ap, sym, ◌∙◌, subst, append_assoc, append-nil, arith}
use Rattle.std.specs.Prelude.{slice_get, Option, Some, None, option_map}
use Rattle.term_tree.specs.declared.script.Script.{Script}
use Rattle.horn_shape.specs.Derivation.{IsDerivationAfter, IsStep, Step, concluded}
use Rattle.horn_shape.specs.Instance.{GroundAtom}
use Rattle.answer_text.specs.declared.answer.Line.{Line}
use Rattle.cert_derivations.proofs.LookUpLemmas.{some_is}
use Rattle.cert_derivations.specs.Lines.{line_of, lines_from}

next : (number i : ℕ) → suc number + i ≡ number + suc i
next number i = omega arith

from-start : (number : ℕ) → number ≡ number + 0
from-start number = omega arith

-- a line is that of a step
pub line-at : (number : ℕ) (steps : List Step) (i : ℕ) (line : Line) → slice_get (lines_from number steps) i ≡ Some line → (s : Step) × (slice_get steps i ≡ Some s) × (line ≡ line_of (number + i) s)
line-at number [] i line at = absurd (cc)
line-at number (s ∷ steps) zero line at = (s, refl, sym (some_is (line_of number s) line at) ∙ ap (λ (n : ℕ). line_of n s) (from-start number))
line-at number (s ∷ steps) (suc i) line at =
    let later = line-at (suc number) steps i line at in
    (later.0, later.1, later.2 ∙ ap (λ (n : ℕ). line_of n later.0) (next number i))

-- and each step has its line
pub step-line : (number : ℕ) (steps : List Step) (i : ℕ) (s : Step) → slice_get steps i ≡ Some s → slice_get (lines_from number steps) i ≡ Some (line_of (number + i) s)
step-line number [] i s at = absurd (cc)
step-line number (t ∷ steps) zero s at = ap (λ (x : Step). Some (line_of number x)) (some_is t s at) ∙ ap (λ (n : ℕ). Some (line_of n s)) (from-start number)
step-line number (t ∷ steps) (suc i) s at = step-line (suc number) steps i s at ∙ ap (λ (n : ℕ). Some (line_of n s)) (next number i)

-- the step at a place rests on those before it
step-after : (script : Script) (earlier steps : List Step) (i : ℕ) (s : Step) → IsDerivationAfter script earlier steps → slice_get steps i ≡ Some s → IsStep script (earlier ++ take i steps) s
step-after script earlier [] i s are at = absurd (cc)
step-after script earlier (t ∷ steps) zero s are at =
    subst (λ (ss : List Step). IsStep script ss s) (sym (append-nil earlier)) (subst (IsStep script earlier) (some_is t s at) are.0)
step-after script earlier (t ∷ steps) (suc i) s are at =
    subst (λ (ss : List Step). IsStep script ss s) (append_assoc earlier (t ∷ []) (take i steps)) (step-after script (earlier ++ t ∷ []) steps i s are.1 at)

pub step-at : (script : Script) (steps : List Step) (i : ℕ) (s : Step) → IsDerivationAfter script [] steps → slice_get steps i ≡ Some s → IsStep script (take i steps) s
step-at script steps i s are at = step-after script [] steps i s are at

-- what was concluded was so by a step that is there
pub concluded-at : (steps : List Step) (p : ℕ) (x : Option GroundAtom) → concluded steps p ≡ Some x → (s : Step) × (slice_get steps p ≡ Some s) × (s.conclusion ≡ x)
concluded-at steps p x h = by (slice_get steps p) refl h
  where
    by : (found : Option Step) → slice_get steps p ≡ found → option_map (λ (s : Step). s.conclusion) found ≡ Some x → (s : Step) × (slice_get steps p ≡ Some s) × (s.conclusion ≡ x)
    by None there e = absurd (cc)
    by (Some s) there e = (s, there, some_is s.conclusion x e)
