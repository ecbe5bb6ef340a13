-- The truth of a query at a point, and what a query without a point shows.
use Rattle.std.proofs.Common.{◌≡◌, ℕ, suc, zero, List, [], ◌∷◌, map, refl, ap, sym, ◌∙◌, ◌&&◌, true, false, Bool}
use Rattle.std.specs.Prelude.{ℤ, not, Option, Some, None, option_map, slice_get, if◌then◌else◌}
use Rattle.std.specs.List.{list_all}
use Rattle.lin_atoms.specs.Truth.{lit_truth, truth}
use Rattle.lin_atoms.specs.declared.lit.Lit.{Lit}
use Rattle.lin_atoms.specs.declared.form.Form.{Form}
use Rattle.lin_atoms.specs.declared.form.Form.TheVariants.{Lit as Literal}
use Rattle.lin_atoms.specs.declared.form.Form.TheViews.{And}
use Rattle.lin_atoms.proofs.Public.{both_true, truth-And}
use Rattle.refutation_trees.specs.Refutation.{HasNoPoint}
use Rattle.clause_form.specs.System.{Clauses}
use Rattle.clause_form.specs.declared.atom.Atom.{Atom}
use Rattle.clause_form.specs.declared.clause.Clause.{Clause}
use Rattle.cube_forms.specs.Cubes.{cube_at, cube_holds, lemma_at, tuple_at}
use Rattle.cube_forms.proofs.Public.{truth-Literal, truth-cube_at, truth-lemma_at}
use Rattle.chc_tokens.specs.declared.goal.Goal.{Goal}
use Rattle.chc_tokens.specs.declared.goal.Goal.TheVariants.{Query, Holds}
use Rattle.chc_tokens.specs.declared.used.Used.{Used}
use Rattle.chc_tokens.specs.Instances.{accepts, token_args, token_atom_at, token_head_at}
use Rattle.chc_tokens.specs.Queries.{base, base_at, base_in, forms_at, forms_in, goal_cube, goal_has_room, has_goal, has_places, has_used, may_use, query, query_at, query_in, used_form, used_have_room}
use Rattle.chc_tokens.specs.Tokens.{Shows, is_passed, token_meets}

all_literals : (point : List ℤ) (lits : List Lit) → list_all (truth point) (map Literal lits) ≡ list_all (lit_truth point) lits
all_literals point [] = refl
all_literals point (l ∷ ls) = ap (λ b. b && list_all (truth point) (map Literal ls)) (truth-Literal point l) ∙ ap (λ b. lit_truth point l && b) (all_literals point ls)

not_not : (b : Bool) → b ≡ not (not b)
not_not true = refl
not_not false = refl

get-map : {X Y : Type 0} (f : X → Y) (xs : List X) (n : ℕ) → slice_get (map f xs) n ≡ option_map f (slice_get xs n)
get-map f [] n = refl
get-map f (x ∷ xs) zero = refl
get-map f (x ∷ xs) (suc n) = get-map f xs n

truth-head : (point : List ℤ) (head : Option Atom) (lemma : List Lit) → has_places head lemma ≡ true → list_all (lit_truth point) (cube_at (token_args head) lemma) ≡ not (accepts lemma (option_map (token_atom_at point) head))
truth-head point None lemma h = absurd (cc)
truth-head point (Some atom) lemma h = truth-cube_at point atom.args lemma h ∙ not_not (cube_holds (tuple_at point atom.args) lemma)

truth-used : (point : List ℤ) (atom : Option Atom) (lemma : List Lit) → has_places atom lemma ≡ true → truth point (lemma_at (token_args atom) lemma) ≡ accepts lemma (option_map (token_atom_at point) atom)
truth-used point None lemma h = absurd (cc)
truth-used point (Some atom) lemma h = truth-lemma_at point atom.args lemma h

truth-goal : (point : List ℤ) (clause : Clause) (goal : Goal) → has_goal clause goal ≡ true → list_all (lit_truth point) (cube_at (token_args clause.head) (goal_cube goal)) ≡ not (token_meets goal (token_head_at point clause))
truth-goal point clause Query h = refl
truth-goal point clause (Holds lemma) h = truth-head point clause.head lemma h

truth-base : (point : List ℤ) (clause : Clause) (goal : Goal) → has_goal clause goal ≡ true → truth point (base clause goal) ≡ (truth point clause.guard && not (token_meets goal (token_head_at point clause)))
truth-base point clause goal h =
    let lits = cube_at (token_args clause.head) (goal_cube goal) in
    truth-And point (clause.guard ∷ map Literal lits) ∙ ap (λ b. truth point clause.guard && b) (all_literals point lits ∙ truth-goal point clause goal h)

all_used : (point : List ℤ) (clause : Clause) (used : List Used) → has_used clause.atoms used ≡ true → list_all (truth point) (map (used_form clause.atoms) used) ≡ list_all (is_passed point clause) used
all_used point clause [] h = refl
all_used point clause (u ∷ us) h =
    let parts = both_true (has_places (slice_get clause.atoms u.atom) u.lemma) (has_used clause.atoms us) h in
    let first : truth point (used_form clause.atoms u) ≡ is_passed point clause u = truth-used point (slice_get clause.atoms u.atom) u.lemma parts.0 ∙ ap (accepts u.lemma) (sym (get-map (token_atom_at point) clause.atoms u.atom)) in
    ap (λ b. b && list_all (truth point) (map (used_form clause.atoms) us)) first ∙ ap (λ b. is_passed point clause u && b) (all_used point clause us parts.1)

pub truth-query : (point : List ℤ) (clause : Clause) (goal : Goal) (used : List Used) → has_goal clause goal ≡ true → has_used clause.atoms used ≡ true
    → truth point (query clause goal used) ≡ ((truth point clause.guard && not (token_meets goal (token_head_at point clause))) && list_all (is_passed point clause) used)
truth-query point clause goal used there each =
    truth-And point (base clause goal ∷ map (used_form clause.atoms) used)
    ∙ ap (λ b. b && list_all (truth point) (map (used_form clause.atoms) used)) (truth-base point clause goal there)
    ∙ ap (λ b. (truth point clause.guard && not (token_meets goal (token_head_at point clause))) && b) (all_used point clause used each)

-- the parts of a query that is there, and its form
chosen : (b : Bool) (form found : Form) → (if b then Some form else None) ≡ Some found → (b ≡ true) × (form ≡ found)
chosen true form found h = (refl, cc)
chosen false form found h = absurd (cc)

left : (guard met passed : Bool) → guard ≡ true → passed ≡ true → ((guard && not met) && passed) ≡ false → met ≡ true
left true true true g p h = refl
left true false true g p h = absurd (cc)
left true met false g p h = absurd (cc)
left false met passed g p h = absurd (cc)

pub shows : (sys : Clauses) (n : ℕ) (goal : Goal) (used : List Used) (form : Form) → query_at sys n goal used ≡ Some form → HasNoPoint form → Shows sys n goal used
shows sys n goal used form is none clause is_there point guard passed =
    let here : query_in (Some clause) goal used ≡ Some form = ap (λ (o : Option Clause). query_in o goal used) (sym is_there) ∙ is in
    let found = chosen (has_goal clause goal && may_use clause goal used) (query clause goal used) form here in
    let there = both_true (has_goal clause goal) (may_use clause goal used) found.0 in
    let rest = both_true (has_used clause.atoms used && goal_has_room clause goal) (used_have_room clause.atoms used) there.1 in
    let each = both_true (has_used clause.atoms used) (goal_has_room clause goal) rest.0 in
    let false_there : truth point (query clause goal used) ≡ false = ap (truth point) found.1 ∙ none point in
    left (truth point clause.guard) (token_meets goal (token_head_at point clause)) (list_all (is_passed point clause) used) guard passed (sym (truth-query point clause goal used there.0 each.0) ∙ false_there)

abbrev joined : Option Form → Option (List Form) → Option Form
joined None forms = None
joined (Some base) None = None
joined (Some base) (Some forms) = Some (And (base ∷ forms))

both_there : (goal room uses uses_room : Bool) (base : Form) (forms : List Form)
    → (if goal && (uses && room && uses_room) then Some (And (base ∷ forms)) else None) ≡ joined (if goal && room then Some base else None) (if uses && uses_room then Some forms else None)
both_there true true true true base forms = refl
both_there true true true false base forms = refl
both_there true true false uses_room base forms = refl
both_there true false true uses_room base forms = refl
both_there true false false uses_room base forms = refl
both_there false room uses uses_room base forms = refl

query-joined : (clause : Option Clause) (goal : Goal) (used : List Used) → query_in clause goal used ≡ joined (base_in clause goal) (forms_in clause used)
query-joined None goal used = refl
query-joined (Some clause) goal used = both_there (has_goal clause goal) (goal_has_room clause goal) (has_used clause.atoms used) (used_have_room clause.atoms used) (base clause goal) (map (used_form clause.atoms) used)

pub query-parts : (sys : Clauses) (n : ℕ) (goal : Goal) (used : List Used) (base : Form) (forms : List Form) → base_at sys n goal ≡ Some base → forms_at sys n used ≡ Some forms → query_at sys n goal used ≡ Some (And (base ∷ forms))
query-parts sys n goal used base forms is each =
    query-joined (slice_get sys.clauses n) goal used ∙ ap (λ (o : Option Form). joined o (forms_at sys n used)) is ∙ ap (joined (Some base)) each
