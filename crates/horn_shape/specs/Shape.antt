-- Which terms are Horn clauses, and what each gives to its clause (constrained Horn clauses as in Bjørner, Gurfinkel,
-- McMillan, Rybalchenko, "Horn clause solvers for program verification", section 2, in the shapes that SMT-LIB scripts of
-- logic HORN write them in). By cases on the term, with the first subterm that fits no case where it stands.
--
--   a clause is   a guard, said to be false; an application, the head; (forall vars clause); (let bindings clause);
--                 (=> body .. body clause); (or disjunct .. disjunct) with one application at most; (not body);
--                 (not (exists vars body))
--   a body is     a guard; an application, a body atom; (and body .. body); (let bindings body)
--   a disjunct is a guard, said to be false; an application, the head; (not body)
--
-- A guard is a term without predicates and quantifiers, and such a term is a guard before anything else. The arguments of
-- an application, and the terms that a `let` binds, have neither predicates nor quantifiers.
use Rattle.std.specs.Prelude.{ℕ, List, [], ◌∷◌, ◌++◌, map, slice_get, Option, Some, None, Result, Ok, Err, Bool, true, false, ◌&&◌, ◌||◌, if◌then◌else◌}
use Rattle.std.specs.List.{list_all}
use Rattle.term_tree.specs.declared.sort.Sort.{Sort}
use Rattle.term_tree.specs.declared.node.TermId.{TermId}
use Rattle.term_tree.specs.declared.node.OpKind.TheVariants.{Not, And, Or, Implies}
use Rattle.term_tree.specs.declared.node.Node.{Node}
use Rattle.term_tree.specs.declared.node.Node.TheVariants.{Pred, Op, Let, Forall, Exists}
use Rattle.term_tree.specs.Fold.{told_of}
use Rattle.horn_shape.specs.declared.clause.AtomUse.{AtomUse}
use Rattle.horn_shape.specs.declared.clause.Part.{Part}
use Rattle.horn_shape.specs.Plain.{node_is_plain, is_plain_term}

-- where a term stands: its number, and the `let` terms that enclose it, the outermost first
pub record Place : Type 0 where
  pub term : TermId
  pub lets : List TermId

-- what a term gives to a clause, each in the order of the text
pub record Content : Type 0 where
  pub vars : List Sort
  pub atoms : List AtomUse
  pub guards : List Part
  pub head : Option AtomUse

-- what a term gives where it stands, or the first of its subterms, in the order of the text, that fits no form
abbrev pub Reading : Type 0
Reading = Result Content TermId

-- neither variables nor atoms, guards or a head, as no terms at all give
abbrev pub nothing : Content
nothing = record { vars = []; atoms = []; guards = []; head = None }

-- one of the two is there at most
abbrev pub either_head : Option AtomUse → Option AtomUse → Option AtomUse
either_head a None = a
either_head a (Some b) = Some b

-- what two terms give together, that of the first before that of the second
abbrev pub beside : Content → Content → Content
beside a b = record { vars = a.vars ++ b.vars; atoms = a.atoms ++ b.atoms; guards = a.guards ++ b.guards; head = either_head a.head b.head }

-- what two terms give, one after the other
abbrev pub both : Reading → Reading → Reading
both (Err misfit) b = Err misfit
both (Ok x) (Err misfit) = Err misfit
both (Ok x) (Ok y) = Ok (beside x y)

-- under a quantifier, whose variables come first
abbrev pub quantified_reading : List Sort → Reading → Reading
quantified_reading sorts (Err misfit) = Err misfit
quantified_reading sorts (Ok x) = Ok (record { vars = sorts ++ x.vars; atoms = x.atoms; guards = x.guards; head = x.head })

-- the term under its `let` terms, which counts as true where it is false if it is negated
abbrev pub part_at : Bool → Place → Part
part_at negated place = record { lets = place.lets; term = place.term; negated = negated }

-- a guard alone, which is said to be false if it is negated
abbrev pub guard_of : Bool → Place → Content
guard_of negated place = record { vars = []; atoms = []; guards = part_at negated place ∷ []; head = None }

-- a body atom alone
abbrev pub atom_of : AtomUse → Content
atom_of atom = record { vars = []; atoms = atom ∷ []; guards = []; head = None }

-- the clause's head alone
abbrev pub head_of : AtomUse → Content
head_of atom = record { vars = []; atoms = []; guards = []; head = Some atom }

-- the arguments of an application as they stand under these `let` terms; they are never negated
abbrev pub arguments : List TermId → List TermId → List Part
arguments lets args = map (λ arg. part_at false (record { term = arg; lets = lets })) args

-- an application, where its arguments have neither predicates nor quantifiers
abbrev pub application_reading : (ℕ → Bool) → (AtomUse → Content) → ℕ → List TermId → Place → Reading
application_reading plain give pred args place =
    if list_all (λ arg. plain arg.0) args
    then Ok (give (record { pred = pred; args = arguments place.lets args }))
    else Err place.term

-- the term of that number, under these `let` terms
abbrev pub at : (ℕ → Place → Reading) → List TermId → TermId → Reading
at read lets id = read id.0 (record { term = id; lets = lets })

-- the terms that a `let` binds have neither predicates nor quantifiers, and then its body counts
abbrev pub bound_over : (ℕ → Bool) → List TermId → Reading → Reading
bound_over plain [] body = body
bound_over plain (b ∷ bound) body = if plain b.0 then bound_over plain bound body else Err b

-- what the terms give in order, under the same `let` terms, or the first subterm that fits no form
abbrev pub each : (ℕ → Place → Reading) → List TermId → List TermId → Reading
each read lets [] = Ok nothing
each read lets (id ∷ ids) = both (at read lets id) (each read lets ids)

-- a body with a predicate or quantifier: an application, a conjunction of bodies or a `let` term; any other fits no form
abbrev pub body_form : (ℕ → Bool) → (ℕ → Place → Reading) → Node → Place → Reading
body_form plain part (Pred pred args) place = application_reading plain atom_of pred args place
body_form plain part (Op And args) place = each part place.lets args
body_form plain part (Let bound body) place = bound_over plain bound (at part (place.lets ++ place.term ∷ []) body)
body_form plain part _ place = Err place.term

-- one node as a body, over what its parts give: a guard if it has neither predicates nor quantifiers
abbrev pub node_body : (ℕ → Bool) → (ℕ → Place → Reading) → Node → Place → Reading
node_body plain part node place = if node_is_plain plain node then Ok (guard_of false place) else body_form plain part node place

-- the term as a body
abbrev pub body_reading : List Node → ℕ → Place → Reading
body_reading nodes = told_of (λ place. Err place.term) (node_body (is_plain_term nodes)) nodes

-- the term is there, and is a predicate with its arguments, if it has any
abbrev pub is_application : Option Node → Bool
is_application (Some (Pred pred args)) = true
is_application _ = false

-- a disjunct with a predicate or quantifier: an application as the head, or a denied body; any other fits no form
abbrev pub disjunct_form : List Node → Node → Place → Reading
disjunct_form nodes (Pred pred args) place = application_reading (is_plain_term nodes) head_of pred args place
disjunct_form nodes (Op Not (body ∷ [])) place = at (body_reading nodes) place.lets body
disjunct_form nodes _ place = Err place.term

-- the term as a disjunct
abbrev pub disjunct_reading : List Node → Option Node → Place → Reading
disjunct_reading nodes None place = Err place.term
disjunct_reading nodes (Some node) place = if node_is_plain (is_plain_term nodes) node then Ok (guard_of true place) else disjunct_form nodes node place

-- the disjuncts from here on, where an application stood before, or none did. A second one fits no form
abbrev pub disjuncts : List Node → Bool → List TermId → List TermId → Reading
disjuncts nodes headed lets [] = Ok nothing
disjuncts nodes headed lets (id ∷ ids) =
    let node = slice_get nodes id.0 in
    if headed && is_application node
    then Err id
    else both (disjunct_reading nodes node (record { term = id; lets = lets })) (disjuncts nodes (headed || is_application node) lets ids)

-- bodies, and a clause at the end
abbrev pub implication : (ℕ → Place → Reading) → (ℕ → Place → Reading) → Place → List TermId → Reading
implication body clause place [] = Err place.term
implication body clause place (id ∷ []) = at clause place.lets id
implication body clause place (id ∷ next ∷ ids) = both (at body place.lets id) (implication body clause place (next ∷ ids))

-- a body that is said to be false, or an `exists` over one
abbrev pub denial : List Node → Option Node → Place → Reading
denial nodes (Some (Exists first sorts body)) place = quantified_reading sorts (at (body_reading nodes) place.lets body)
denial nodes _ place = body_reading nodes place.term.0 place

-- a clause with a predicate or quantifier, by cases on its node; one that is none of the listed shapes fits no form
abbrev pub clause_form : List Node → (ℕ → Place → Reading) → Node → Place → Reading
clause_form nodes part (Pred pred args) place = application_reading (is_plain_term nodes) head_of pred args place
clause_form nodes part (Forall first sorts body) place = quantified_reading sorts (at part place.lets body)
clause_form nodes part (Let bound body) place = bound_over (is_plain_term nodes) bound (at part (place.lets ++ place.term ∷ []) body)
clause_form nodes part (Op Implies args) place = implication (body_reading nodes) part place args
clause_form nodes part (Op Or args) place = disjuncts nodes false place.lets args
clause_form nodes part (Op Not (body ∷ [])) place = denial nodes (slice_get nodes body.0) (record { term = body; lets = place.lets })
clause_form nodes part _ place = Err place.term

-- one node as a clause, over what its parts give: a guard, said to be false, if it has neither predicates nor quantifiers
abbrev pub node_clause : List Node → (ℕ → Place → Reading) → Node → Place → Reading
node_clause nodes part node place = if node_is_plain (is_plain_term nodes) node then Ok (guard_of true place) else clause_form nodes part node place

-- the term as a clause
abbrev pub clause_reading : List Node → ℕ → Place → Reading
clause_reading nodes = told_of (λ place. Err place.term) (node_clause nodes) nodes
