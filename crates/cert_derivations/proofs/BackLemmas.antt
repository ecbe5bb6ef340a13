-- Lines that are right, each by itself, are those of a derivation.
use Rattle.std.proofs.Common.{◌≡◌, ℕ, zero, suc, ◌+◌, ◌<◌, ◌≤◌, List, [], ◌∷◌, ◌++◌, map, length, take, refl, ap, sym, ◌∙◌, subst, append_assoc, append-nil, arith}
use Rattle.std.specs.Prelude.{slice_get, Option, Some, None, option_map}
use Rattle.std.specs.List.{All}
use Rattle.std.proofs.lemmas.List.{map-append}
use Rattle.std.proofs.lemmas.List.Elements.{All-head, All-tail}
use Rattle.std.proofs.lemmas.Option.{slice_get-map}
use Rattle.term_tree.specs.declared.scalar.Value.{Value}
use Rattle.term_tree.specs.declared.script.Script.{Script}
use Rattle.horn_shape.specs.Clause.{IsClauseOf}
use Rattle.horn_shape.specs.Derivation.{IsDerivation, IsDerivationAfter, IsStep, Step, concluded}
use Rattle.horn_shape.specs.Instance.{GroundAtom, conclusion_of, premises_of}
use Rattle.answer_text.specs.declared.answer.Line.{Line}
use Rattle.cert_derivations.proofs.LookUpLemmas.{some_is}
use Rattle.cert_derivations.specs.Claims.{AreLines, DeriveFalse, IsLine, concluded_in}
use Rattle.cert_derivations.specs.Lines.{line_head, line_of, lines_from, lines_of}
use Rattle.cert_derivations.proofs.SayLemmas.{line_says}

-- what a line says, with assertions and steps numbered from 0
abbrev less : ℕ → ℕ
less zero = zero
less (suc n) = n

abbrev atom_of : ℕ × List Value → GroundAtom
atom_of head = record { pred = head.0; values = head.1 }

abbrev step_of : Line → Step
step_of line = record { assertion = less line.assertion; values = line.values; premises = map less line.premises; conclusion = option_map atom_of line.head }

-- and back

head-back : (head : Option (ℕ × List Value)) → option_map line_head (option_map atom_of head) ≡ head
head-back None = refl
head-back (Some h) = refl

atom-back : (conclusion : Option GroundAtom) → option_map atom_of (option_map line_head conclusion) ≡ conclusion
atom-back None = refl
atom-back (Some atom) = refl

numbers-back : (place : ℕ) (premises : List ℕ) → All (λ p. (1 ≤ p) × (p ≤ place)) premises → map (λ p. suc p) (map less premises) ≡ premises
numbers-back place [] all = refl
numbers-back place (zero ∷ premises) all = absurd (let low = (All-head (λ p. (1 ≤ p) × (p ≤ place)) zero premises all).0 in omega (arith, low))
numbers-back place (suc p ∷ premises) all = ap (λ (ps : List ℕ). suc p ∷ ps) (numbers-back place premises (All-tail (λ q. (1 ≤ q) × (q ≤ place)) (suc p) premises all))

abbrev made : ℕ → ℕ → List Value → List ℕ → Option (ℕ × List Value) → Line
made number assertion values premises head = record { number = number; assertion = assertion; values = values; premises = premises; head = head }

line-back : (script : Script) (lines : List Line) (place : ℕ) (line : Line) → IsLine script lines place line → line ≡ line_of (suc place) (step_of line)
line-back script lines place line is =
    let names : line.assertion ≡ suc (less line.assertion) = is.names ∙ sym (ap (λ (a : ℕ). suc (less a)) is.names) in
    ap (λ (n : ℕ). made n line.assertion line.values line.premises line.head) is.number
    ∙ ap (λ (a : ℕ). made (suc place) a line.values line.premises line.head) names
    ∙ ap (λ (ps : List ℕ). made (suc place) (suc (less line.assertion)) line.values ps line.head) (sym (numbers-back place line.premises is.earlier))
    ∙ ap (λ (h : Option (ℕ × List Value)). made (suc place) (suc (less line.assertion)) line.values (map (λ p. suc p) (map less line.premises)) h) (sym (head-back line.head))

from-start : (number : ℕ) → number + 0 ≡ number
from-start number = omega arith

next : (number i : ℕ) → number + suc i ≡ suc number + i
next number i = omega arith

lines-back : (number : ℕ) (lines : List Line) → ((i : ℕ) (line : Line) → slice_get lines i ≡ Some line → line ≡ line_of (number + i) (step_of line)) → lines ≡ lines_from number (map step_of lines)
lines-back number [] each = refl
lines-back number (l ∷ lines) each =
    ap (λ (x : Line). x ∷ lines) (each 0 l refl ∙ ap (λ (n : ℕ). line_of n (step_of l)) (from-start number))
    ∙ ap (λ (xs : List Line). line_of number (step_of l) ∷ xs) (lines-back (suc number) lines (λ i line at. each (suc i) line at ∙ ap (λ (n : ℕ). line_of n (step_of line)) (next number i)))

-- steps

get-take : {X : Type 0} (xs : List X) (i q : ℕ) → q < i → slice_get (take i xs) q ≡ slice_get xs q
get-take [] zero q less' = refl
get-take [] (suc i) q less' = refl
get-take (x ∷ xs) zero q less' = absurd (omega (arith, less'))
get-take (x ∷ xs) (suc i) zero less' = refl
get-take (x ∷ xs) (suc i) (suc q) less' = get-take xs i q (omega (arith, less'))

line-found : (lines : List Line) (q : ℕ) (x : Option (ℕ × List Value)) → concluded_in lines (suc q) ≡ Some x → (line : Line) × (slice_get lines q ≡ Some line) × (line.head ≡ x)
line-found lines q x h = by (slice_get lines q) refl h
  where
    by : (found : Option Line) → slice_get lines q ≡ found → option_map (λ (l : Line). l.head) found ≡ Some x → (line : Line) × (slice_get lines q ≡ Some line) × (line.head ≡ x)
    by None there e = absurd (cc)
    by (Some line) there e = (line, there, some_is line.head x e)

concluded-back : (lines : List Line) (place q : ℕ) (a : GroundAtom) → q < place → concluded_in lines (suc q) ≡ Some (Some (line_head a)) → concluded (take place (map step_of lines)) q ≡ Some (Some a)
concluded-back lines place q a low h =
    let found = line-found lines q (Some (line_head a)) h in
    ap (option_map (λ (s : Step). s.conclusion)) (get-take (map step_of lines) place q low ∙ slice_get-map step_of lines q ∙ ap (option_map step_of) found.1)
    ∙ ap (λ (head : Option (ℕ × List Value)). Some (option_map atom_of head)) found.2

heads_of : (x y : Option (Option (ℕ × List Value))) (xs ys : List (Option (Option (ℕ × List Value)))) → x ∷ xs ≡ y ∷ ys → (x ≡ y) × (xs ≡ ys)
heads_of x y xs ys e = (cc, cc)

premises-back : (lines : List Line) (place : ℕ) (premises : List ℕ) (atoms : List GroundAtom) → All (λ p. (1 ≤ p) × (p ≤ place)) premises
    → map (concluded_in lines) premises ≡ map (λ atom. Some (Some (line_head atom))) atoms → map (concluded (take place (map step_of lines))) (map less premises) ≡ map (λ atom. Some (Some atom)) atoms
premises-back lines place [] [] all h = refl
premises-back lines place [] (a ∷ atoms) all h = absurd (cc)
premises-back lines place (p ∷ premises) [] all h = absurd (cc)
premises-back lines place (zero ∷ premises) (a ∷ atoms) all h = absurd (let low = (All-head (λ p. (1 ≤ p) × (p ≤ place)) zero premises all).0 in omega (arith, low))
premises-back lines place (suc p ∷ premises) (a ∷ atoms) all h =
    let both = heads_of (concluded_in lines (suc p)) (Some (Some (line_head a))) (map (concluded_in lines) premises) (map (λ atom. Some (Some (line_head atom))) atoms) h in
    let low = (All-head (λ q. (1 ≤ q) × (q ≤ place)) (suc p) premises all).1 in
    ap (λ (x : Option (Option GroundAtom)). x ∷ map (concluded (take place (map step_of lines))) (map less premises)) (concluded-back lines place p a (omega (arith, low)) both.0)
    ∙ ap (λ (xs : List (Option (Option GroundAtom))). Some (Some a) ∷ xs) (premises-back lines place premises atoms (All-tail (λ q. (1 ≤ q) × (q ≤ place)) (suc p) premises all) both.1)

step-back : (script : Script) (lines : List Line) (place : ℕ) (line : Line) → IsLine script lines place line → IsStep script (take place (map step_of lines)) (step_of line)
step-back script lines place line is = record {
  clause = is.clause;
  clause_is = subst (λ (a : ℕ). IsClauseOf script a is.clause) (sym (ap less is.names)) is.clause_is;
  instance = is.instance;
  premises = premises-back lines place line.premises (premises_of script is.clause line.values) is.earlier is.premises;
  conclusion = ap (option_map atom_of) is.conclusion ∙ atom-back (conclusion_of script is.clause line.values);
}

after-back : (script : Script) (earlier steps : List Step) → ((i : ℕ) (s : Step) → slice_get steps i ≡ Some s → IsStep script (earlier ++ take i steps) s) → IsDerivationAfter script earlier steps
after-back script earlier [] each = tt
after-back script earlier (s ∷ steps) each = (
  subst (λ (ss : List Step). IsStep script ss s) (append-nil earlier) (each 0 s refl),
  after-back script (earlier ++ s ∷ []) steps (λ i t at. subst (λ (ss : List Step). IsStep script ss t) (sym (append_assoc earlier (s ∷ []) (take i steps))) (each (suc i) t at)),
)

step-found : (lines : List Line) (i : ℕ) (s : Step) → slice_get (map step_of lines) i ≡ Some s → (line : Line) × (slice_get lines i ≡ Some line) × (step_of line ≡ s)
step-found lines i s h = by (slice_get lines i) refl (sym (slice_get-map step_of lines i) ∙ h)
  where
    by : (found : Option Line) → slice_get lines i ≡ found → option_map step_of found ≡ Some s → (line : Line) × (slice_get lines i ≡ Some line) × (step_of line ≡ s)
    by None there e = absurd (cc)
    by (Some line) there e = (line, there, some_is (step_of line) s e)

derivation-back : (script : Script) (lines : List Line) → ((place : ℕ) (line : Line) → slice_get lines place ≡ Some line → IsLine script lines place line) → IsDerivation script (map step_of lines)
derivation-back script lines each = after-back script [] (map step_of lines) (λ i s at. here i s (step-found lines i s at))
  where
    here : (i : ℕ) (s : Step) → (line : Line) × (slice_get lines i ≡ Some line) × (step_of line ≡ s) → IsStep script (take i (map step_of lines)) s
    here i s found = subst (IsStep script (take i (map step_of lines))) found.2 (step-back script lines i found.0 (each i found.0 found.1))

one : (i : ℕ) → suc i ≡ 1 + i
one i = omega arith

-- each is right, and the last concludes false
lines_derive : (script : Script) (before : List Line) (last : Line) → ((place : ℕ) (line : Line) → slice_get (before ++ last ∷ []) place ≡ Some line → IsLine script (before ++ last ∷ []) place line)
    → last.head ≡ None → DeriveFalse script (before ++ last ∷ [])
lines_derive script before last each is =
    let lines : List Line = before ++ last ∷ [] in
    let split : map step_of lines ≡ map step_of before ++ step_of last ∷ [] = map-append step_of before (last ∷ []) in
    record {
      steps = map step_of before;
      last = step_of last;
      said = lines-back 1 lines (λ i line at. line-back script lines i line (each i line at) ∙ ap (λ (n : ℕ). line_of n (step_of line)) (one i)) ∙ ap lines_of split;
      derivation = subst (IsDerivation script) split (derivation-back script lines each);
      is_false = ap (option_map atom_of) is;
    }

pub right_lines : (script : Script) (lines : List Line) → AreLines script lines → DeriveFalse script lines
right_lines script lines right =
    subst (DeriveFalse script) (sym right.ends)
    (lines_derive script right.before right.last (subst (λ (ls : List Line). (place : ℕ) (line : Line) → slice_get ls place ≡ Some line → IsLine script ls place line) right.ends right.each) right.is_false)

-- the line of the last step is the last
lines-last : (number : ℕ) (steps : List Step) (s : Step) → lines_from number (steps ++ s ∷ []) ≡ lines_from number steps ++ line_of (number + length steps) s ∷ []
lines-last number [] s = ap (λ (n : ℕ). line_of n s ∷ []) (sym (from-start number))
lines-last number (t ∷ steps) s =
    ap (λ (ls : List Line). line_of number t ∷ ls) (lines-last (suc number) steps s ∙ ap (λ (n : ℕ). lines_from (suc number) steps ++ line_of n s ∷ []) (sym (next number (length steps))))

pub derived_lines : (script : Script) (lines : List Line) → DeriveFalse script lines → AreLines script lines
derived_lines script lines derive = record {
  each = λ place line at. line_says script lines place line derive at;
  before = lines_from 1 derive.steps;
  last = line_of (1 + length derive.steps) derive.last;
  ends = derive.said ∙ lines-last 1 derive.steps derive.last;
  is_false = ap (option_map line_head) derive.is_false;
}
