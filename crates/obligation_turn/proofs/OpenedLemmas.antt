-- What the code has in hand as it asks a body atom further, or finds the body recorded.
use Rattle.std.proofs.Common.{◌≡◌, ℕ, ◌-◌, ◌<◌, List, length, get_or, map, true, Some, ap, sym, ◌∙◌, subst, inl, inr}
use Rattle.std.specs.Prelude.{ℤ, slice_get}
use Rattle.std.specs.List.{list_all}
use Rattle.std.proofs.lemmas.Option.{slice_get_within}
use Rattle.base.specs.Widths.{is_short}
use Rattle.lin_atoms.specs.Truth.{lit_is_below, lit_truth}
use Rattle.lin_atoms.specs.declared.lit.Lit.{Lit}
use Rattle.clause_form.specs.System.{is_clause, is_system}
use Rattle.clause_form.specs.declared.atom.Atom.{Atom}
use Rattle.clause_form.specs.declared.clause.Clause.{Clause}
use Rattle.cube_forms.specs.Cubes.{cube_is_short, tuple_at}
use Rattle.model_project.specs.Elimination.{has_short_numbers}
use Rattle.model_project.specs.Kept.{Kept}
use Rattle.chc_tokens.specs.Kept.{seen_clause, seen_point}
use Rattle.chc_tokens.specs.declared.seeing.Seen.{Seen}
use Rattle.book_rules.specs.Areas.{same_variables}
use Rattle.book_rules.specs.FactRules.{are_facts_of}
use Rattle.book_rules.specs.Frames.{Framed}
use Rattle.book_rules.specs.Instances.{atom_at}
use Rattle.book_rules.specs.State.{Fact}
use Rattle.book_rules.specs.Steps.{IsProjected}
use Rattle.area_literals.specs.Areas.{IsAreaOf}
use Rattle.step_rules.specs.Standing.{Standing, standing_state}
use Rattle.step_rules.specs.Views.{facts_of, lemmas_of}
use Rattle.step_rules.specs.declared.step.Step.TheVariants.{FactStep, OpenStep}
use Rattle.obligation_turn.specs.Turns.{GoesOn, IsOpenLeaf, IsTurn}
use Rattle.obligation_turn.specs.machinery.Bodies.{ArePremises, IsMissing, is_recorded}
use Rattle.obligation_turn.specs.machinery.Jobs.{IsJobHit, job_of}
use Rattle.obligation_turn.specs.machinery.Opens.{IsCubeOf}
use Rattle.obligation_turn.specs.declared.premises.Premises.TheVariants.{Recorded, Missing}
use Rattle.obligation_turn.proofs.BelowLemmas.{area-below}
use Rattle.obligation_turn.proofs.FactLemmas.{recorded}
use Rattle.obligation_turn.proofs.OpenLemmas.{opens-of}
use Rattle.obligation_turn.proofs.PlaceLemmas.{point-short, projected-short, short-tuple}
use Rattle.obligation_turn.proofs.PremiseLemmas.{get-is}
use Rattle.obligation_turn.proofs.ReadyLemmas.{IsReady}
use Rattle.obligation_turn.proofs.TokenLemmas.{seen-is}
use Rattle.obligation_turn.proofs.TurnLemmas.{clause-lent}

-- the clause of the instance has the missing atom
atom-in : (b : Standing) (facts : List Fact) (seen : Seen) (number n : ℕ) (clause : Clause) → (missing : IsMissing b.system facts seen number) → n ≡ seen_clause seen → slice_get b.system.clauses n ≡ Some clause → slice_get clause.atoms number ≡ Some missing.atom
atom-in b facts seen number n clause missing is there =
    let same : missing.clause ≡ clause = (let both = sym missing.there ∙ ap (slice_get b.system.clauses) (sym is) ∙ there in cc) in
    ap (λ (c : Clause). slice_get c.atoms number) (sym same) ∙ missing.at

atom-within : (b : Standing) (facts : List Fact) (seen : Seen) (number n : ℕ) (clause : Clause) → IsMissing b.system facts seen number → n ≡ seen_clause seen → slice_get b.system.clauses n ≡ Some clause → number < length clause.atoms
atom-within b facts seen number n clause missing is there = slice_get_within clause.atoms number missing.atom (atom-in b facts seen number n clause missing is there)

-- and the atom that is read there is it
pub atom-inside : (a b : Standing) (facts : List Fact) (seen : Seen) (number n : ℕ) (clause : Clause) (atoms : List Atom) → a ≡ b → IsMissing b.system facts seen number → n ≡ seen_clause seen → slice_get a.system.clauses n ≡ Some clause → atoms ≡ clause.atoms → number < length atoms
atom-inside a b facts seen number n clause atoms same missing is there of_clause =
    subst (λ (xs : List Atom). number < length xs) (sym of_clause) (atom-within b facts seen number n clause missing is (clause-lent a b n clause same there))

pub atom-at : (a b : Standing) (facts : List Fact) (seen : Seen) (number n : ℕ) (clause : Clause) (atoms : List Atom) (atom : Atom) → a ≡ b → IsMissing b.system facts seen number → n ≡ seen_clause seen → slice_get a.system.clauses n ≡ Some clause → atoms ≡ clause.atoms
    → atom ≡ get_or atoms number atom → slice_get clause.atoms number ≡ Some atom
atom-at a b facts seen number n clause atoms atom same missing is there of_clause read =
    get-is clause.atoms number atom (atom-within b facts seen number n clause missing is (clause-lent a b n clause same there)) (read ∙ ap (λ (xs : List Atom). get_or xs number atom) of_clause)

pub area-holds : (b : Standing) (seen : Seen) (n : ℕ) (clause : Clause) (cube : List Lit) (es : List Framed) (k : ℕ) (point : List ℤ) (lits : List Lit) → n ≡ seen_clause seen → slice_get b.system.clauses n ≡ Some clause
    → ((c : Clause) → slice_get b.system.clauses (seen_clause seen) ≡ Some c → IsAreaOf c cube es k (seen_point seen) lits) → point ≡ seen_point seen → list_all (lit_truth point) lits ≡ true
area-holds b seen n clause cube es k point lits is there covers at =
    ap (λ (p : List ℤ). list_all (lit_truth p) lits) at ∙ (covers clause (ap (slice_get b.system.clauses) (sym is) ∙ there)).hold

pub point-is-short : (b : Standing) (job : ℕ) (seen : Seen) (point : List ℤ) → IsJobHit b job seen → point ≡ seen_point seen → list_all is_short point ≡ true
point-is-short b job seen point hit at = ap (list_all is_short) at ∙ (seen-is b.system seen hit.instance.seen_is).short

-- the body is recorded, or an atom of it isn't

recorded-of : (b : Standing) (job nodes n : ℕ) (seen : Seen) (clause : Clause) (point : List ℤ) (atoms : List Atom) (premises : List ℕ) → GoesOn b → IsOpenLeaf b job → IsJobHit b job seen → n ≡ seen_clause seen → slice_get b.system.clauses n ≡ Some clause
    → point ≡ seen_point seen → atoms ≡ clause.atoms → ArePremises (standing_state b).facts atoms point (Recorded premises) → IsTurn b job nodes (FactStep (record { target = Some job; seen = seen; premises = premises }))
recorded-of b job nodes n seen clause point atoms premises goes leaf hit is there at same are =
    let first : clause ≡ hit.at.clause = (let both = sym there ∙ ap (slice_get b.system.clauses) is ∙ hit.at.there in cc) in
    recorded b job nodes seen premises goes leaf hit
    (subst (λ (c : Clause). are_facts_of (standing_state b).facts premises (map (atom_at (seen_point seen)) c.atoms) ≡ true) first
    (subst (λ (list : List Atom). are_facts_of (standing_state b).facts premises (map (atom_at (seen_point seen)) list) ≡ true) same
    (subst (λ (p : List ℤ). are_facts_of (standing_state b).facts premises (map (atom_at p) atoms) ≡ true) at are)))

missing-of : (b : Standing) (facts : List Fact) (n : ℕ) (seen : Seen) (clause : Clause) (point : List ℤ) (atoms : List Atom) (number : ℕ) → n ≡ seen_clause seen → slice_get b.system.clauses n ≡ Some clause
    → point ≡ seen_point seen → atoms ≡ clause.atoms → ArePremises facts atoms point (Missing number) → IsMissing b.system facts seen number
missing-of b facts n seen clause point atoms number is there at same are = record {
  clause = clause;
  there = ap (slice_get b.system.clauses) (sym is) ∙ there;
  atom = are.0;
  at = ap (λ (list : List Atom). slice_get list number) (sym same) ∙ are.1;
  missing = ap (λ (p : List ℤ). is_recorded facts (atom_at p are.0)) (sym at) ∙ are.2;
}

-- the same over what is lent

pub recorded-lent : (a b : Standing) (job nodes n : ℕ) (seen : Seen) (clause : Clause) (point : List ℤ) (atoms : List Atom) (premises : List ℕ) → a ≡ b → GoesOn b → IsOpenLeaf b job → IsJobHit b job seen → n ≡ seen_clause seen → slice_get a.system.clauses n ≡ Some clause
    → point ≡ seen_point seen → atoms ≡ clause.atoms → ArePremises (facts_of a.facts) atoms point (Recorded premises) → IsTurn b job nodes (FactStep (record { target = Some job; seen = seen; premises = premises }))
recorded-lent a b job nodes n seen clause point atoms premises same goes leaf hit is there at of_clause are =
    recorded-of b job nodes n seen clause point atoms premises goes leaf hit is (clause-lent a b n clause same there) at of_clause (subst (λ (x : Standing). ArePremises (facts_of x.facts) atoms point (Recorded premises)) same are)

pub missing-lent : (a b : Standing) (n : ℕ) (seen : Seen) (clause : Clause) (point : List ℤ) (atoms : List Atom) (number : ℕ) → a ≡ b → n ≡ seen_clause seen → slice_get a.system.clauses n ≡ Some clause
    → point ≡ seen_point seen → atoms ≡ clause.atoms → ArePremises (facts_of a.facts) atoms point (Missing number) → IsMissing b.system (facts_of b.facts) seen number
missing-lent a b n seen clause point atoms number same is there at of_clause are =
    missing-of b (facts_of b.facts) n seen clause point atoms number is (clause-lent a b n clause same there) at of_clause (subst (λ (x : Standing). ArePremises (facts_of x.facts) atoms point (Missing number)) same are)

-- the new cube

pub cube-short : (facts : List Fact) (atom : Atom) (area : Kept) (point : List ℤ) (cube : List Lit) → list_all has_short_numbers area.cube ≡ true → list_all is_short point ≡ true → IsCubeOf facts atom area point cube → cube_is_short cube ≡ true
cube-short facts atom area point cube h short (inl is) = ap cube_is_short is.0 ∙ projected-short atom area h is.1
cube-short facts atom area point cube h short (inr is) = ap cube_is_short is.0 ∙ point-short (tuple_at point atom.args) (short-tuple point atom.args short)

-- the area's literals, below the length of the point
pub lits-below : (a : Standing) (k : ℕ) (clause : Clause) (cube : List Lit) (point : List ℤ) (lits : List Lit) → is_clause a.system.preds clause ≡ true → IsReady a cube k clause point → IsAreaOf clause cube (lemmas_of a.frames.lemmas) k point lits → list_all (lit_is_below (length point)) lits ≡ true
lits-below a k clause cube point lits one is area =
    ap (λ (n : ℕ). list_all (lit_is_below n) lits) is.long ∙ area-below a.system.preds clause cube (lemmas_of a.frames.lemmas) k point lits one is.head_below is.room area

-- the step, over what is lent
pub opens-lent : (a b : Standing) (job nodes number n : ℕ) (seen : Seen) (clause : Clause) (atom : Atom) (point : List ℤ) (cube : List Lit) (area : Kept) → a ≡ b → GoesOn b → IsOpenLeaf b job → is_system a.system ≡ true → IsJobHit b job seen → IsMissing b.system (standing_state b).facts seen number
    → n ≡ seen_clause seen → slice_get a.system.clauses n ≡ Some clause → slice_get clause.atoms number ≡ Some atom → point ≡ seen_point seen
    → ((c : Clause) → slice_get b.system.clauses (seen_clause seen) ≡ Some c → IsAreaOf c (job_of b job).cube (standing_state b).lemmas ((job_of b job).level - 1) (seen_point seen) area.lits)
    → area.model ≡ point → same_variables area.keep atom.args ≡ true → IsProjected area → IsCubeOf (facts_of a.facts) atom area point cube
    → IsTurn b job nodes (OpenStep (record { parent = job; atom = number; seen = seen; cube = cube; area = area }))
opens-lent a b job nodes number n seen clause atom point cube area same goes leaf system hit missing is there at points covers model variables projected cube_of =
    let here : slice_get b.system.clauses n ≡ Some clause = ap (λ (x : Standing). slice_get x.system.clauses n) (sym same) ∙ there in
    let one : atom ≡ missing.atom = (let both = sym at ∙ atom-in b (standing_state b).facts seen number n clause missing is here in cc) in
    opens-of b job nodes number seen atom cube area goes leaf (ap (λ (x : Standing). is_system x.system) (sym same) ∙ system) hit missing one covers (model ∙ points) variables projected
    (subst (λ (p : List ℤ). IsCubeOf (standing_state b).facts atom area p cube) points (subst (λ (x : Standing). IsCubeOf (facts_of x.facts) atom area point cube) same cube_of))
