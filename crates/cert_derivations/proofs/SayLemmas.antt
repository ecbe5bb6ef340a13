-- What the lines of a derivation say, each by itself.
use Rattle.std.proofs.Common.{◌≡◌, ℕ, suc, ◌+◌, ◌<◌, ◌≤◌, List, [], ◌∷◌, ◌++◌, map, length, take, drop, refl, ap, sym, ◌∙◌, subst, arith}
use Rattle.std.specs.Prelude.{slice_get, Option, Some, option_map}
use Rattle.std.specs.List.{All}
use Rattle.std.proofs.lemmas.List.{length-take, take-append-drop}
use Rattle.std.proofs.lemmas.List.Elements.{All-cons, All-nil}
use Rattle.std.proofs.lemmas.Option.{slice_get_within}
use Rattle.term_tree.specs.declared.scalar.Value.{Value}
use Rattle.term_tree.specs.declared.script.Script.{Script}
use Rattle.horn_shape.specs.Derivation.{IsDerivation, Step, concluded}
use Rattle.horn_shape.specs.Instance.{GroundAtom, premises_of}
use Rattle.answer_text.specs.declared.answer.Line.{Line}
use Rattle.cert_derivations.proofs.LookUpLemmas.{get_more}
use Rattle.cert_derivations.specs.Claims.{DeriveFalse, IsLine, concluded_in}
use Rattle.cert_derivations.specs.Lines.{line_head, lines_of}
use Rattle.cert_derivations.proofs.LineLemmas.{concluded-at, line-at, step-at, step-line}
use Rattle.cert_derivations.proofs.PrintLemmas.{heads_split}

-- a premise among the first steps
record IsEarlier (steps : List Step) (place p : ℕ) (a : GroundAtom) : Type 0 where
  within : suc p ≤ place
  concludes : concluded_in (lines_of steps) (suc p) ≡ Some (Some (line_head a))

earlier-at : (steps : List Step) (place p : ℕ) (a : GroundAtom) → concluded (take place steps) p ≡ Some (Some a) → IsEarlier steps place p a
earlier-at steps place p a h =
    let at = concluded-at (take place steps) p (Some a) h in
    let less : p < length (take place steps) = slice_get_within (take place steps) p at.0 at.1 in
    let long = length-take place steps in
    let there : slice_get steps p ≡ Some at.0 = subst (λ (ss : List Step). slice_get ss p ≡ Some at.0) (take-append-drop place steps) (get_more (take place steps) (drop place steps) p at.0 at.1) in
    record {
      within = omega (arith, less, long);
      concludes = ap (option_map (λ (l : Line). l.head)) (step-line 1 steps p at.0 there) ∙ ap (λ (c : Option GroundAtom). Some (option_map line_head c)) at.2;
    }

all-within : (steps : List Step) (place : ℕ) (premises : List ℕ) (atoms : List GroundAtom) → map (concluded (take place steps)) premises ≡ map (λ atom. Some (Some atom)) atoms
    → All (λ p. (1 ≤ p) × (p ≤ place)) (map (λ p. suc p) premises)
all-within steps place [] atoms h = All-nil (λ p. (1 ≤ p) × (p ≤ place))
all-within steps place (p ∷ premises) [] h = absurd (cc)
all-within steps place (p ∷ premises) (a ∷ atoms) h =
    let both = heads_split (concluded (take place steps) p) (Some (Some a)) (map (concluded (take place steps)) premises) (map (λ atom. Some (Some atom)) atoms) h in
    All-cons (λ q. (1 ≤ q) × (q ≤ place)) (suc p) (map (λ q. suc q) premises) (omega arith, (earlier-at steps place p a both.0).within) (all-within steps place premises atoms both.1)

all-concluded : (steps : List Step) (place : ℕ) (premises : List ℕ) (atoms : List GroundAtom) → map (concluded (take place steps)) premises ≡ map (λ atom. Some (Some atom)) atoms
    → map (concluded_in (lines_of steps)) (map (λ p. suc p) premises) ≡ map (λ atom. Some (Some (line_head atom))) atoms
all-concluded steps place [] [] h = refl
all-concluded steps place [] (a ∷ atoms) h = absurd (cc)
all-concluded steps place (p ∷ premises) [] h = absurd (cc)
all-concluded steps place (p ∷ premises) (a ∷ atoms) h =
    let both = heads_split (concluded (take place steps) p) (Some (Some a)) (map (concluded (take place steps)) premises) (map (λ atom. Some (Some atom)) atoms) h in
    ap (λ (x : Option (Option (ℕ × List Value))). x ∷ map (concluded_in (lines_of steps)) (map (λ q. suc q) premises)) (earlier-at steps place p a both.0).concludes
    ∙ ap (λ (xs : List (Option (Option (ℕ × List Value)))). Some (Some (line_head a)) ∷ xs) (all-concluded steps place premises atoms both.1)

at-place : (place : ℕ) → 1 + place ≡ suc place
at-place place = omega arith

says : (script : Script) (steps : List Step) (place : ℕ) (line : Line) → IsDerivation script steps → slice_get (lines_of steps) place ≡ Some line → IsLine script (lines_of steps) place line
says script steps place line are at =
    let found = line-at 1 steps place line at in
    let s = found.0 in
    let step = step-at script steps place s are found.1 in
    subst (IsLine script (lines_of steps) place) (sym found.2) (record {
      number = at-place place;
      assertion = s.assertion;
      names = refl;
      clause = step.clause;
      clause_is = step.clause_is;
      instance = step.instance;
      earlier = all-within steps place s.premises (premises_of script step.clause s.values) step.premises;
      premises = all-concluded steps place s.premises (premises_of script step.clause s.values) step.premises;
      conclusion = ap (option_map line_head) step.conclusion;
    })

pub line_says : (script : Script) (lines : List Line) (place : ℕ) (line : Line) → DeriveFalse script lines → slice_get lines place ≡ Some line → IsLine script lines place line
line_says script lines place line derive at =
    subst (λ (ls : List Line). IsLine script ls place line) (sym derive.said)
    (says script (derive.steps ++ derive.last ∷ []) place line derive.derivation (subst (λ (ls : List Line). slice_get ls place ≡ Some line) derive.said at))
