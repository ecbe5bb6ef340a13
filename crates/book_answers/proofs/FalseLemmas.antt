-- The fact that is false at an unsat end, and the facts on which it rests.
use Rattle.std.proofs.Common.{◌≡◌, ℕ, ℤ, zero, suc, ◌<◌, ◌≤◌, ◌^◌, List, [], ◌∷◌, map, length, get_or, refl, ap, sym, ◌∙◌, arith}
use Rattle.std.specs.Prelude.{Option, Some, None, option_map, slice_get}
use Rattle.std.specs.List.{AllPairs}
use Rattle.std.proofs.lemmas.List.Elements.{All-contains}
use Rattle.std.proofs.lemmas.Option.{get_or_from_slice_get, slice_get-map, slice_get_within}
use Rattle.derivations.specs.Facts.{AreRecorded, AreSteps, RestsOn, height_of, pred_of, fact_premises}
use Rattle.derivations.specs.Facts.RestsOn.{itself, through}
use Rattle.derivations.specs.declared.fact.Fact.{Fact as KeptFact}
use Rattle.book_rules.specs.Instances.{instances}
use Rattle.book_rules.specs.Kept.{AreRecorded as AreKept, IsFalse}
use Rattle.book_rules.specs.State.{Fact}
use Rattle.book_rules.specs.Values.{AreShort}
use Rattle.chc_core.specs.Contents.{Contents}
use Rattle.chc_core.specs.Views.{state_of}
use Rattle.term_tree.specs.declared.refusal.Checked.{Checked}
use Rattle.clause_form.specs.System.{Clauses}
use Rattle.answer_text.specs.declared.answer.Line.{Line}
use Rattle.cert_derivations.specs.Claims.{DeriveFalse}
use Rattle.cert_derivations.specs.Lines.{fact_lines}
use Rattle.cert_derivations.proofs.Public.{derive-false, steps-end}
use Rattle.book_answers.specs.Answers.{IsBookOf}
use Rattle.step_rules.specs.Views.{ground_conclusion, facts_of}
use Rattle.step_rules.proofs.Public.{fact_of-at, length-facts}

no_pred : (pred : Option ℕ) (tuple : List ℤ) → ground_conclusion pred tuple ≡ None → pred ≡ None
no_pred None tuple h = refl
no_pred (Some p) tuple h = absurd (cc)

same_fact : (a b : Fact) → (let o : Option Fact = Some a in o) ≡ Some b → a ≡ b
same_fact a b e = cc

pub false_within : (facts : List KeptFact) (n : ℕ) (fact : Fact) → slice_get (facts_of facts) n ≡ Some fact → n < length facts
false_within facts n fact there =
    let within = slice_get_within (facts_of facts) n fact there in
    let long = length-facts facts in
    omega (arith, within, long)

there_is : (facts : List KeptFact) (n : ℕ) → n < length facts → slice_get facts n ≡ None → ⊥
there_is [] n within missing = absurd (omega (arith, within))
there_is (f ∷ facts) zero within missing = absurd (cc)
there_is (f ∷ facts) (suc n) within missing = there_is facts n (omega (arith, within)) missing

pub false_pred : (facts : List KeptFact) (n : ℕ) (fact : Fact) → slice_get (facts_of facts) n ≡ Some fact → fact.conclusion ≡ None → pred_of facts n ≡ None
false_pred facts n fact there is = by (slice_get facts n) refl
  where
    by : (kept : Option KeptFact) → slice_get facts n ≡ kept → pred_of facts n ≡ None
    by None missing = absurd (there_is facts n (false_within facts n fact there) missing)
    by (Some f) found =
        let same = same_fact (record { conclusion = ground_conclusion f.pred f.tuple; clause = f.clause; point = f.point; premises = f.premises; height = height_of facts n }) fact (sym (fact_of-at facts n f found) ∙ there) in
        let none = no_pred f.pred f.tuple (ap (λ (g : Fact). g.conclusion) same ∙ is) in
        get_or_from_slice_get (map (λ f. f.pred) facts) n f.pred None (slice_get-map (λ f. f.pred) facts n ∙ ap (option_map (λ f. f.pred)) found) ∙ none

-- numbers that ascend are no more than the greatest of them and one
pub ascending_few : (xs : List ℕ) (most : ℕ) → AllPairs (λ x y. x < y) xs → ((i : ℕ) → i < length xs → get_or xs i 0 ≤ most) → length xs ≤ suc most
ascending_few xs most order within = by (length xs) refl
  where
    above : (i : ℕ) → i < length xs → i ≤ get_or xs i 0
    above zero less = omega arith
    above (suc i) less =
        let low = above i (omega (arith, less)) in
        let up : get_or xs i 0 < get_or xs (suc i) 0 = order i (suc i) 0 (omega arith) less in
        omega (arith, low, up)

    by : (n : ℕ) → length xs ≡ n → length xs ≤ suc most
    by zero is = omega (arith, is)
    by (suc n) is =
        let low = above n (omega (arith, is)) in
        let up = within n (omega (arith, is)) in
        omega (arith, low, up, is)

-- the lines of the facts on which false rests are a derivation of false
pub false-derived : (checked : Checked) (b : Contents) (fact : ℕ) (steps : List ℕ) → IsBookOf checked b → IsFalse (instances b.system) (state_of b) fact → AreRecorded b.facts → AreKept b.system [] (state_of b).facts → AreShort (state_of b)
    → AreSteps b.facts fact steps → DeriveFalse checked.script (fact_lines b.system (facts_of b.facts) steps)
false-derived checked b fact steps of is recorded kept short are =
    derive-false checked b.system (facts_of b.facts) steps (record { arena = of.arena; legal = of.legal; system = of.system; recorded = kept; short = short.facts })
    (steps-end b.facts fact steps recorded (false_within b.facts fact is.fact is.there) (false_pred b.facts fact is.fact is.there is.is_false) are)

pub lines-as : (sys : Clauses) (b : Contents) (facts : List KeptFact) (steps shown : List ℕ) (lines : List Line) → lines ≡ fact_lines sys (facts_of facts) shown → sys ≡ b.system → facts ≡ b.facts → shown ≡ steps
    → lines ≡ fact_lines b.system (facts_of b.facts) steps
lines-as sys b facts steps shown lines is same kept are =
    is ∙ ap (λ (s : Clauses). fact_lines s (facts_of facts) shown) same ∙ ap (λ (fs : List KeptFact). fact_lines b.system (facts_of fs) shown) kept ∙ ap (fact_lines b.system (facts_of b.facts)) are

rests-low : (facts : List KeptFact) {n m : ℕ} → AreRecorded facts → n < length facts → RestsOn facts n m → m ≤ n
rests-low facts recorded within itself = omega arith
rests-low facts {n = n} {m = m} recorded within (through p has_it rest) =
    let less : p < n = All-contains (λ q. q < n) (fact_premises facts n) p (recorded.earlier n within) has_it in
    let low = rests-low facts recorded (omega (arith, less, within)) rest in
    omega (arith, less, low)

at-same : (xs : List ℕ) (i : ℕ) → i < length xs → get_or xs i (get_or xs i 0) ≡ get_or xs i 0
at-same [] i within = absurd (omega (arith, within))
at-same (x ∷ xs) zero within = refl
at-same (x ∷ xs) (suc i) within = at-same xs i (omega (arith, within))

-- and fewer than 2 ^ 63
pub few_steps : (b : Contents) (fact : ℕ) (steps : List ℕ) → AreRecorded b.facts → fact < length b.facts → fact < 2 ^ 32 → AreSteps b.facts fact steps → length steps < 2 ^ 63
few_steps b fact steps recorded within small are =
    let few = ascending_few steps fact are.order (λ i less. rests-low b.facts recorded within ((are.exact (get_or steps i 0)).0 (i, less, at-same steps i less))) in
    omega (arith, few, small)
