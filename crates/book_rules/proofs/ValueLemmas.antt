-- Values: each legal step keeps them below 2 ^ 63 in magnitude.
use Rattle.std.proofs.Common.{◌≡◌, ℕ, zero, suc, List, [], ◌∷◌, true, Some, None, refl, ap, ◌∙◌}
use Rattle.std.specs.Prelude.{Option, ℤ, option_map}
use Rattle.std.specs.List.{list_all}
use Rattle.base.specs.Widths.{is_short}
use Rattle.lin_atoms.specs.Linear.{variable_at}
use Rattle.clause_form.specs.System.{Clauses}
use Rattle.clause_form.specs.declared.atom.Atom.{Atom}
use Rattle.clause_form.specs.declared.clause.Clause.{Clause}
use Rattle.cube_forms.specs.Cubes.{tuple_at}
use Rattle.book_rules.specs.Walks.{on}
use Rattle.book_rules.specs.Instances.{atom_at, head_at}
use Rattle.book_rules.specs.State.{Fact, Obligation, State, opening}
use Rattle.book_rules.specs.Steps.{IsSeen, Seen, Step, Carries}
use Rattle.book_rules.specs.FactRules.{concluded}
use Rattle.book_rules.specs.Effects.{after, fact_of}
use Rattle.book_rules.specs.Legal.{AreLegal, replay}
use Rattle.book_rules.specs.Values.{conclusion_is_short, fact_is_short, AreShort}
use Rattle.book_rules.proofs.ListLemmas.{both_true, from_both}
use Rattle.book_rules.proofs.StepLemmas.{ChildHas, FactHas, steady-after, facts-after}

value_short : (point : List ℤ) (v : ℕ) → list_all is_short point ≡ true → is_short (variable_at point v) ≡ true
value_short [] v h = refl
value_short (x ∷ point) zero h = (both_true (is_short x) _ h).0
value_short (x ∷ point) (suc v) h = value_short point v (both_true (is_short x) _ h).1

tuple_short : (point : List ℤ) (args : List ℕ) → list_all is_short point ≡ true → list_all is_short (tuple_at point args) ≡ true
tuple_short point [] h = refl
tuple_short point (v ∷ args) h = from_both (is_short (variable_at point v)) _ (value_short point v h) (tuple_short point args h)

head_short : (point : List ℤ) (head : Option Atom) → list_all is_short point ≡ true → conclusion_is_short (option_map (atom_at point) head) ≡ true
head_short point None h = refl
head_short point (Some atom) h = tuple_short point atom.args h

new_short : (sys : Clauses) (s : State) (of : Seen) (premises : List ℕ) → IsSeen sys of → fact_is_short (fact_of sys s of premises) ≡ true
new_short sys s of premises seen =
    let clause = seen.clause in
    let is : concluded sys of ≡ head_at of.point clause = ap (λ (found : Option Clause). on found (λ (c : Clause). head_at of.point c)) seen.there in
    from_both (list_all is_short of.point) _ seen.short (ap conclusion_is_short is ∙ head_short of.point clause.head seen.short)

abbrev HasShortPoint : Obligation → Type 0
HasShortPoint o = list_all is_short o.point ≡ true

child_short : (sys : Clauses) (s : State) (step : Step) → Carries sys step → ChildHas HasShortPoint sys s step
child_short sys s (Step.Opens o) carries = λ parent atom there atom_there. tuple_short o.seen.point atom.args (carries.0).short
child_short sys s (Step.Learns l) carries = tt
child_short sys s (Step.Records f) carries = tt
child_short sys s (Step.Lifts l) carries = tt
child_short sys s (Step.Raises r) carries = tt
child_short sys s (Step.Stalls t) carries = tt
child_short sys s (Step.Derives f) carries = tt
child_short sys s (Step.Strengthens l) carries = tt

fact_short : (sys : Clauses) (s : State) (step : Step) → Carries sys step → FactHas (λ (f : Fact). fact_is_short f ≡ true) sys s step
fact_short sys s (Step.Opens o) carries = tt
fact_short sys s (Step.Learns l) carries = tt
fact_short sys s (Step.Records f) carries = new_short sys s f.seen f.premises carries
fact_short sys s (Step.Lifts l) carries = tt
fact_short sys s (Step.Raises r) carries = tt
fact_short sys s (Step.Stalls t) carries = tt
fact_short sys s (Step.Derives f) carries = new_short sys s f.seen f.premises carries
fact_short sys s (Step.Strengthens l) carries = tt

pub short-after : (sys : Clauses) (s : State) (step : Step) → AreShort s → Carries sys step → AreShort (after sys s step)
short-after sys s step short carries = record {
  facts = facts-after (λ (f : Fact). fact_is_short f ≡ true) sys s step short.facts (fact_short sys s step carries);
  points = steady-after HasShortPoint (λ o level closed stalled h. h) sys s step short.points (child_short sys s step carries);
}

pub short-replay : (sys : Clauses) (s : State) (steps : List Step) → AreShort s → AreLegal sys s steps → AreShort (replay sys s steps)
short-replay sys s [] short legal = short
short-replay sys s (step ∷ steps) short legal = short-replay sys (after sys s step) steps (short-after sys s step short (legal.0).carries) legal.1

pub short-opening : (units : ℕ) → AreShort (opening units)
short-opening units = record { facts = tt; points = (refl, tt) }
