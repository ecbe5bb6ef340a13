-- What the code adds, value by value and line by line.
use Rattle.std.proofs.Common.{◌≡◌, ℕ, zero, suc, ◌+◌, ◌<◌, ◌≤◌, List, [], ◌∷◌, ◌++◌, length, drop, get_or, refl, ap, sym, ◌∙◌, subst, append_assoc, add-one, drop-cons, arith}
use Rattle.std.specs.Prelude.{ℤ, slice_get, Option, Some, None, option_map}
use Rattle.std.specs.List.{cons_option}
use Rattle.std.proofs.lemmas.List.{length_push}
use Rattle.std.proofs.lemmas.Option.{slice_get_read}
use Rattle.term_tree.specs.declared.scalar.Value.{Value}
use Rattle.term_tree.specs.declared.sort.Sort.{Sort}
use Rattle.term_tree.specs.Truth.{as_value, as_values}
use Rattle.clause_form.specs.System.{Clauses}
use Rattle.derivations.specs.Facts.{height_of}
use Rattle.derivations.specs.declared.fact.Fact.{Fact as KeptFact}
use Rattle.book_rules.specs.State.{Fact}
use Rattle.step_rules.specs.Views.{ground_conclusion, facts_of}
use Rattle.step_rules.proofs.Public.{fact_of-at}
use Rattle.answer_text.specs.declared.answer.Line.{Line}
use Rattle.cert_derivations.specs.Steps.{script_step}
use Rattle.cert_derivations.specs.Lines.{line_of, lines_from}
use Rattle.cert_derivations.specs.machinery.Adding.{HasAdded, kept_step, steps_left}

-- values

drop-end : {X : Type 0} (xs : List X) (at : ℕ) → length xs ≤ at → drop at xs ≡ []
drop-end [] zero past = refl
drop-end [] (suc at) past = refl
drop-end (x ∷ xs) zero past = absurd (omega (arith, past))
drop-end (x ∷ xs) (suc at) past = drop-end xs at (omega (arith, past))

no-values : (sorts : List Sort) → as_values sorts [] ≡ []
no-values [] = refl
no-values (s ∷ sorts) = refl

pub sorts-end : (sorts : List Sort) (point : List ℤ) (at : ℕ) → length sorts ≤ at → as_values (drop at sorts) (drop at point) ≡ []
sorts-end sorts point at past = ap (λ (ss : List Sort). as_values ss (drop at point)) (drop-end sorts at past)

pub point-end : (sorts : List Sort) (point : List ℤ) (at : ℕ) → length point ≤ at → as_values (drop at sorts) (drop at point) ≡ []
point-end sorts point at past = ap (as_values (drop at sorts)) (drop-end point at past) ∙ no-values (drop at sorts)

-- the item at a place and those behind it
opened : {X : Type 0} (xs : List X) (at : ℕ) (x : X) → at < length xs → drop at xs ≡ get_or xs at x ∷ drop (at + 1) xs
opened xs at x within = drop-cons xs at x within ∙ ap (λ (k : ℕ). get_or xs at x ∷ drop k xs) (sym (add-one at))

pub values-more : (sorts : List Sort) (point : List ℤ) (at : ℕ) (s : Sort) (n : ℤ) (old new all : List Value) (value : Value) → at < length sorts → at < length point
    → value ≡ as_value (get_or sorts at s) (get_or point at n) → new ≡ old ++ value ∷ [] → old ++ as_values (drop at sorts) (drop at point) ≡ all
    → new ++ as_values (drop (at + 1) sorts) (drop (at + 1) point) ≡ all
values-more sorts point at s n old new all value sorted pointed is pushed so_far =
    let rest : List Value = as_values (drop (at + 1) sorts) (drop (at + 1) point) in
    ap (λ (vs : List Value). vs ++ rest) pushed ∙ append_assoc old (value ∷ []) rest ∙ ap (λ (v : Value). old ++ v ∷ rest) is
    ∙ ap (λ (ss : List Sort). old ++ as_values ss (get_or point at n ∷ drop (at + 1) point)) (sym (opened sorts at s sorted))
    ∙ ap (λ (ns : List ℤ). old ++ as_values (drop at sorts) ns) (sym (opened point at n pointed)) ∙ so_far

-- lines

pub lines-more : (sys : Clauses) (facts : List Fact) (among : List ℕ) (i : ℕ) (old new all : List Line) → i < length among → HasAdded sys facts among (get_or among i 0) old new
    → old ++ lines_from (suc (length old)) (steps_left sys facts among (drop i among)) ≡ all → new ++ lines_from (suc (length new)) (steps_left sys facts among (drop (i + 1) among)) ≡ all
lines-more sys facts among i old new all within added so_far =
    added (steps_left sys facts among (drop (i + 1) among))
    ∙ ap (λ (left : List ℕ). old ++ lines_from (suc (length old)) (steps_left sys facts among left)) (sym (opened among i 0 within)) ∙ so_far

turned : (k : ℕ) → k + 1 ≡ suc k
turned k = omega arith

get-none : {X : Type 0} (xs : List X) (n : ℕ) → length xs ≤ n → slice_get xs n ≡ None
get-none [] n past = refl
get-none (x ∷ xs) zero past = absurd (omega (arith, past))
get-none (x ∷ xs) (suc n) past = get-none xs n (omega (arith, past))

pub added-none : (sys : Clauses) (facts : List Fact) (among : List ℕ) (n : ℕ) (lines : List Line) → length facts ≤ n → HasAdded sys facts among n lines lines
added-none sys facts among n lines past rest =
    ap (λ (found : Option Fact). lines ++ lines_from (suc (length lines)) (cons_option (option_map (script_step sys among) found) rest)) (sym (get-none facts n past))

pub added-some : (sys : Clauses) (facts : List Fact) (among : List ℕ) (n : ℕ) (f : Fact) (old : List Line) → slice_get facts n ≡ Some f
    → HasAdded sys facts among n old (old ++ line_of (suc (length old)) (script_step sys among f) ∷ [])
added-some sys facts among n f old there rest =
    let line : Line = line_of (suc (length old)) (script_step sys among f) in
    append_assoc old (line ∷ []) (lines_from (suc (length (old ++ line ∷ []))) rest)
    ∙ ap (λ (k : ℕ). old ++ line ∷ lines_from (suc k) rest) (length_push old line ∙ turned (length old))
    ∙ ap (λ (found : Option Fact). old ++ lines_from (suc (length old)) (cons_option (option_map (script_step sys among) found) rest)) (sym there)

-- the line of a fact as it is kept
pub added-kept : (sys : Clauses) (facts : List KeptFact) (among : List ℕ) (n : ℕ) (f : KeptFact) (old new : List Line) (number : ℕ) (line : Line) → n < length facts → f ≡ get_or facts n f
    → line ≡ line_of number (kept_step sys among f) → number ≡ suc (length old) → new ≡ old ++ line ∷ [] → HasAdded sys (facts_of facts) among n old new
added-kept sys facts among n f old new number line within is says numbered pushed =
    let there : slice_get facts n ≡ Some f = slice_get_read facts (length facts) n f refl within is in
    let fact : Fact = record { conclusion = ground_conclusion f.pred f.tuple; clause = f.clause; point = f.point; premises = f.premises; height = height_of facts n } in
    let same : line ≡ line_of (suc (length old)) (kept_step sys among f) = says ∙ ap (λ (k : ℕ). line_of k (kept_step sys among f)) numbered in
    subst (λ (lines : List Line). HasAdded sys (facts_of facts) among n old lines) (sym (pushed ∙ ap (λ (l : Line). old ++ l ∷ []) same))
    (added-some sys (facts_of facts) among n fact old (fact_of-at facts n f there))
