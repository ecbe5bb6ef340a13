-- The facts of every replay are a derivation, if those of the opening are.
use Rattle.std.proofs.Common.{◌≡◌, ℕ, List, [], ◌∷◌, ◌++◌, Some, None, refl, ap, sym, ◌∙◌, subst, append_assoc, append-nil}
use Rattle.std.specs.Prelude.{Option, slice_get}
use Rattle.clause_form.specs.System.{Clauses}
use Rattle.clause_form.specs.declared.atom.Atom.{Atom}
use Rattle.clause_form.specs.declared.clause.Clause.{Clause}
use Rattle.book_rules.specs.declared.by.By.TheVariants.{Step as ByStep}
use Rattle.book_rules.specs.Walks.{has, on}
use Rattle.book_rules.specs.Instances.{body_at, head_at}
use Rattle.book_rules.specs.Frames.{Framed}
use Rattle.book_rules.specs.State.{Fact, Obligation, State}
use Rattle.book_rules.specs.Steps.{IsSeen, OpenStep, Seen, Step, Carries}
use Rattle.book_rules.specs.OpenRules.{parent_of, atom_of}
use Rattle.book_rules.specs.LemmaRules.{lifted_of}
use Rattle.book_rules.specs.FactRules.{are_facts_of, unless_body}
use Rattle.book_rules.specs.Rules.{broken}
use Rattle.book_rules.specs.Effects.{after, opened_with, lifted_with, recorded, stalled_with, fact_of}
use Rattle.book_rules.specs.Legal.{replay, AreLegal}
use Rattle.book_rules.specs.Kept.{IsRecorded, AreRecorded}
use Rattle.book_rules.proofs.ListLemmas.{unless_none}
use Rattle.book_rules.proofs.SoundLemmas.{derive-recordable, fact-recordable}

recorded-push : (sys : Clauses) (before facts : List Fact) (f : Fact) → AreRecorded sys before facts → IsRecorded sys (before ++ facts) f → AreRecorded sys before (facts ++ f ∷ [])
recorded-push sys before [] f all here = (subst (λ (xs : List Fact). IsRecorded sys xs f) (append-nil before) here, tt)
recorded-push sys before (x ∷ facts) f all here =
    (all.0, recorded-push sys (before ++ x ∷ []) facts f all.1 (subst (λ (xs : List Fact). IsRecorded sys xs f) (sym (append_assoc before (x ∷ []) facts)) here))

new_is_recorded : (sys : Clauses) (s : State) (of : Seen) (premises : List ℕ) → IsSeen sys of → unless_body sys s of premises ≡ None → IsRecorded sys s.facts (fact_of sys s of premises)
new_is_recorded sys s of premises seen premised =
    let clause = seen.clause in
    let point = of.point in
    let some = (unless_none (has (slice_get sys.clauses of.clause) (λ (c : Clause). are_facts_of s.facts premises (body_at point c))) ByStep None premised).0 in
    record {
      clause = clause;
      there = seen.there;
      instance = seen.instance;
      head = ap (λ (found : Option Clause). on found (λ (c : Clause). head_at point c)) (sym seen.there);
      premises = ap (λ (found : Option Clause). has found (λ (c : Clause). are_facts_of s.facts premises (body_at point c))) (sym seen.there) ∙ some;
      height = refl;
    }

recorded-new : (sys : Clauses) (s : State) (of : Seen) (premises : List ℕ) → AreRecorded sys [] s.facts → IsSeen sys of → unless_body sys s of premises ≡ None → AreRecorded sys [] (recorded sys s of premises).facts
recorded-new sys s of premises all seen premised = recorded-push sys [] s.facts (fact_of sys s of premises) all (new_is_recorded sys s of premises seen premised)

same-open : (s : State) (o : OpenStep) (parent : Option Obligation) (atom : Option Atom) → s.facts ≡ (opened_with s o parent atom).facts
same-open s o None atom = refl
same-open s o (Some parent) None = refl
same-open s o (Some parent) (Some atom) = refl

same-lift : (s : State) (number : ℕ) (found : Option Framed) → s.facts ≡ (lifted_with s number found).facts
same-lift s number None = refl
same-lift s number (Some e) = refl

same-stall : (s : State) (number : ℕ) (found : Option Obligation) → s.facts ≡ (stalled_with s number found).facts
same-stall s number None = refl
same-stall s number (Some o) = refl

pub recorded-after : (sys : Clauses) (s : State) (step : Step) → AreRecorded sys [] s.facts → Carries sys step → broken sys s step ≡ None → AreRecorded sys [] (after sys s step).facts
recorded-after sys s (Step.Opens o) all carries h = subst (AreRecorded sys []) (same-open s o (parent_of s o) (atom_of sys o)) all
recorded-after sys s (Step.Learns l) all carries h = all
recorded-after sys s (Step.Records f) all carries h = recorded-new sys s f.seen f.premises all carries (fact-recordable sys s f h).premised
recorded-after sys s (Step.Lifts l) all carries h = subst (AreRecorded sys []) (same-lift s l.lemma (lifted_of s l)) all
recorded-after sys s (Step.Raises r) all carries h = all
recorded-after sys s (Step.Stalls t) all carries h = subst (AreRecorded sys []) (same-stall s t.target (slice_get s.obligations t.target)) all
recorded-after sys s (Step.Derives f) all carries h = recorded-new sys s f.seen f.premises all carries (derive-recordable sys s f h).premised
recorded-after sys s (Step.Strengthens l) all carries h = all

pub recorded-replay : (sys : Clauses) (s : State) (steps : List Step) → AreRecorded sys [] s.facts → AreLegal sys s steps → AreRecorded sys [] (replay sys s steps).facts
recorded-replay sys s [] all legal = all
recorded-replay sys s (step ∷ steps) all legal = recorded-replay sys (after sys s step) steps (recorded-after sys s step all (legal.0).carries (legal.0).unbroken) legal.1
