-- What the code reads for each step is there, and an Open's obligation is the rules' child.
use Rattle.std.proofs.Common.{◌≡◌, ℕ, ℤ, ◌-◌, ◌<◌, ◌≤◌, List, length, get_or, Bool, true, Some, None, ap, ap₂, sym, ◌∙◌, subst, arith}
use Rattle.std.specs.Prelude.{Option, is_some, slice_get}
use Rattle.std.proofs.lemmas.List.{length-map}
use Rattle.std.proofs.lemmas.Option.{slice_get-get_or, slice_get_within}
use Rattle.lin_atoms.specs.declared.lit.Lit.{Lit}
use Rattle.cube_forms.specs.Cubes.{tuple_at}
use Rattle.clause_form.specs.System.{Clauses}
use Rattle.clause_form.specs.declared.atom.Atom.{Atom}
use Rattle.clause_form.specs.declared.clause.Clause.{Clause}
use Rattle.obligation_tree.specs.Nodes.{is_live_at, node_at}
use Rattle.obligation_tree.specs.declared.obligation.Obligation.{Obligation as Asked}
use Rattle.book_rules.specs.declared.by.By.TheVariants.{Step as ByStep}
use Rattle.book_rules.specs.Effects.{child_of}
use Rattle.book_rules.specs.FactRules.{are_facts_of, concluded}
use Rattle.book_rules.specs.Instances.{Ground, body_at, head_at}
use Rattle.book_rules.specs.OpenRules.{atom_of, parent_of}
use Rattle.book_rules.specs.State.{Obligation, is_live}
use Rattle.book_rules.specs.Steps.{Seen}
use Rattle.book_rules.specs.Walks.{has, on}
use Rattle.book_rules.proofs.ListLemmas.{unless_none}
use Rattle.step_rules.specs.Taken.{open_of}
use Rattle.step_rules.specs.Views.{fresh_of, obligation_of, obligations_of}
use Rattle.step_rules.specs.declared.open_step.part.OpenPart.{OpenPart}
use Rattle.step_rules.specs.declared.step.Step.TheVariants.{OpenStep}
use Rattle.step_rules.proofs.ViewLemmas.{obligation_of-at}
use Rattle.chc_core.specs.Contents.{Contents}
use Rattle.chc_core.specs.Views.{state_of}
use Rattle.chc_core.specs.machinery.Making.{CanRecord, CanTake}
use Rattle.chc_core.proofs.LawLemmas.{has-there}
use Rattle.chc_core.proofs.MadeLemmas.{atom-there}
use Rattle.chc_core.proofs.MakingLemmas.{can_open}

-- the parent of an Open

pub parent-within : (b : Contents) (o : OpenPart) → CanTake b (OpenStep o) → o.parent < length b.tree.nodes
parent-within b o can =
    let c = can_open b o can in
    let within = slice_get_within (obligations_of b.tree.nodes) o.parent c.parent c.there in
    let long = length-map b.tree.nodes obligation_of in
    omega (arith, within, long)

parent-is : (b : Contents) (o : OpenPart) → CanTake b (OpenStep o) → (parent : Obligation) → parent_of (state_of b) (open_of o) ≡ Some parent → obligation_of (node_at b.tree.nodes o.parent) ≡ parent
parent-is b o can parent there =
    let both : Some (obligation_of (node_at b.tree.nodes o.parent)) ≡ Some parent = sym (obligation_of-at b.tree.nodes o.parent (parent-within b o can)) ∙ there in
    let same : obligation_of (node_at b.tree.nodes o.parent) ≡ parent = cc in
    same

pub parent-level : (b : Contents) (o : OpenPart) → CanTake b (OpenStep o) → 2 ≤ (node_at b.tree.nodes o.parent).obligation.level
parent-level b o can =
    let c = can_open b o can in
    subst (λ (p : Obligation). 2 ≤ p.level) (sym (parent-is b o can c.parent c.there)) c.high

pub parent-lives : (b : Contents) (o : OpenPart) → CanTake b (OpenStep o) → is_live_at b.tree.nodes o.parent ≡ true
parent-lives b o can =
    let c = can_open b o can in
    ap is_live (parent-is b o can c.parent c.there) ∙ c.lives

-- its clause and atom

pub clause-within : (b : Contents) (o : OpenPart) → CanTake b (OpenStep o) → (open_of o).seen.clause < length b.system.clauses
clause-within b o can =
    let c = can_open b o can in
    slice_get_within b.system.clauses (open_of o).seen.clause c.clause c.of_clause

pub atom-within : (b : Contents) (o : OpenPart) (clause : Clause) → CanTake b (OpenStep o) → slice_get b.system.clauses (open_of o).seen.clause ≡ Some clause → o.atom < length clause.atoms
atom-within b o clause can there =
    let c = can_open b o can in
    let both : Some c.clause ≡ Some clause = sym c.of_clause ∙ there in
    let same : c.clause ≡ clause = cc in
    subst (λ (x : Clause). o.atom < length x.atoms) same (slice_get_within (c.clause).atoms o.atom c.atom c.of_atom)

-- the obligation, field by field

abbrev ask : Option ℕ → ℕ → List Lit → List ℤ → ℕ → ℕ → ℕ → Asked
ask pred level cube point parent clause atom = record { pred = pred; level = level; cube = cube; point = point; parent = parent; clause = clause; atom = atom }

pub child-is : (b : Contents) (o : OpenPart) (clause : Clause) (atom : Atom) (asked : Asked) → CanTake b (OpenStep o) → slice_get b.system.clauses (open_of o).seen.clause ≡ Some clause → o.atom < length clause.atoms → atom ≡ get_or clause.atoms o.atom atom
    → asked.pred ≡ Some atom.pred → asked.level ≡ (node_at b.tree.nodes o.parent).obligation.level - 1 → asked.cube ≡ o.cube → asked.point ≡ tuple_at (open_of o).seen.point atom.args → asked.parent ≡ o.parent → asked.clause ≡ (open_of o).seen.clause → asked.atom ≡ o.atom
    → (parent : Obligation) (other : Atom) → parent_of (state_of b) (open_of o) ≡ Some parent → atom_of b.system (open_of o) ≡ Some other → fresh_of asked ≡ child_of (open_of o) parent other
child-is b o clause atom asked can of_clause within is pred level cube point parent_is clause_is atom_is parent other there of_atom =
    let plain = open_of o in
    let from = (node_at b.tree.nodes o.parent).obligation.level - 1 in
    let tuple = tuple_at plain.seen.point atom.args in
    let found : slice_get clause.atoms o.atom ≡ Some atom = slice_get-get_or clause.atoms o.atom atom within ∙ ap Some (sym is) in
    let both : Some atom ≡ Some other = sym (atom-there b o clause atom of_clause found) ∙ of_atom in
    let same : atom ≡ other = cc in
    let first = ap (λ (x : Option ℕ). fresh_of (ask x asked.level asked.cube asked.point asked.parent asked.clause asked.atom)) pred in
    let second = ap (λ (x : ℕ). fresh_of (ask (Some atom.pred) x asked.cube asked.point asked.parent asked.clause asked.atom)) level in
    let third = ap (λ (x : List Lit). fresh_of (ask (Some atom.pred) from x asked.point asked.parent asked.clause asked.atom)) cube in
    let fourth = ap (λ (x : List ℤ). fresh_of (ask (Some atom.pred) from o.cube x asked.parent asked.clause asked.atom)) point in
    let fifth = ap (λ (x : ℕ). fresh_of (ask (Some atom.pred) from o.cube tuple x asked.clause asked.atom)) parent_is in
    let sixth = ap (λ (x : ℕ). fresh_of (ask (Some atom.pred) from o.cube tuple o.parent x asked.atom)) clause_is in
    let seventh = ap (λ (x : ℕ). fresh_of (ask (Some atom.pred) from o.cube tuple o.parent plain.seen.clause x)) atom_is in
    first ∙ second ∙ third ∙ fourth ∙ fifth ∙ sixth ∙ seventh ∙ ap₂ (λ (p : Obligation) (a : Atom). child_of plain p a) (parent-is b o can parent there) same

pub asked-pred : (b : Contents) (o : OpenPart) (asked : Asked) → CanTake b (OpenStep o)
    → ((parent : Obligation) (atom : Atom) → parent_of (state_of b) (open_of o) ≡ Some parent → atom_of b.system (open_of o) ≡ Some atom → fresh_of asked ≡ child_of (open_of o) parent atom) → is_some asked.pred ≡ true
asked-pred b o asked can child =
    let c = can_open b o can in
    ap is_some (ap (λ (x : Obligation). x.pred) (child c.parent c.atom c.there (atom-there b o c.clause c.atom c.of_clause c.of_atom)))

-- Fact and Derive: the clause is there, and the conclusion is its head

pub fact-clause-within : (b : Contents) (seen : Seen) (premises : List ℕ) → CanRecord b seen premises → seen.clause < length b.system.clauses
fact-clause-within b seen premises can =
    let test : Clause → Bool = λ clause. are_facts_of (state_of b).facts premises (body_at seen.point clause) in
    let found = has-there (slice_get b.system.clauses seen.clause) test (unless_none (has (slice_get b.system.clauses seen.clause) test) ByStep None can.premised).0 in
    slice_get_within b.system.clauses seen.clause found.0 found.1

pub concluded-is : (b : Contents) (seen : Seen) (clause : Clause) (told : Option Ground) → slice_get b.system.clauses seen.clause ≡ Some clause → told ≡ head_at seen.point clause → told ≡ concluded b.system seen
concluded-is b seen clause told there is = is ∙ sym (ap (λ (found : Option Clause). on found (λ (c : Clause). head_at seen.point c)) there)

pub asked-lives : (b : Contents) (o : OpenPart) (asked : Asked) → CanTake b (OpenStep o)
    → ((parent : Obligation) (atom : Atom) → parent_of (state_of b) (open_of o) ≡ Some parent → atom_of b.system (open_of o) ≡ Some atom → fresh_of asked ≡ child_of (open_of o) parent atom) → is_live_at b.tree.nodes asked.parent ≡ true
asked-lives b o asked can child =
    let c = can_open b o can in
    let parent : asked.parent ≡ o.parent = ap (λ (x : Obligation). x.parent) (child c.parent c.atom c.there (atom-there b o c.clause c.atom c.of_clause c.of_atom)) in
    ap (is_live_at b.tree.nodes) parent ∙ parent-lives b o can

-- a clause as the code finds it

pub clause-there : (b : Contents) (sys : Clauses) (n m : ℕ) (found : Clause) → sys ≡ b.system → n ≡ m → slice_get sys.clauses n ≡ Some found → slice_get b.system.clauses m ≡ Some found
clause-there b sys n m found same number there = subst (λ (s : Clauses). slice_get s.clauses m ≡ Some found) same (subst (λ (k : ℕ). slice_get sys.clauses k ≡ Some found) number there)

pub clause-room : (b : Contents) (sys : Clauses) (n m : ℕ) → sys ≡ b.system → n ≡ m → m < length b.system.clauses → n < length sys.clauses
clause-room b sys n m same number within = subst (λ (s : Clauses). n < length s.clauses) (sym same) (subst (λ (k : ℕ). k < length b.system.clauses) (sym number) within)
