-- One more predicate with its definition.
use Rattle.std.proofs.Common.{◌≡◌, ℕ, ◌+◌, ◌<◌, ◌≤◌, List, [], ◌∷◌, ◌++◌, length, Bool, refl, ap, sym, ◌∙◌, subst, arith, append_assoc}
use Rattle.std.proofs.lemmas.Bool.Decides.{nat_tests}
use Rattle.std.specs.Prelude.{Option, Some, None}
use Rattle.std.specs.List.{AllByRecursion}
use Rattle.lin_atoms.specs.declared.form.Form.{Form}
use Rattle.horn_shape.specs.declared.clause.AtomUse.{AtomUse}
use Rattle.linear_terms.specs.Linear.{Naming}
use Rattle.linear_terms.specs.Width.{first_of_two}
use Rattle.term_tree.specs.declared.definition.Definition.{Definition}
use Rattle.term_tree.specs.declared.node.Node.{Node}
use Rattle.clause_form.specs.System.{most_variables}
use Rattle.clause_form.specs.declared.atom.Atom.{Atom}
use Rattle.clause_form.specs.declared.clause.Clause.{Clause}
use Rattle.clause_normal.specs.Normal.{normal_atom}
use Rattle.clause_laws.specs.Defined.{count_of, defined_forms, definition_at, definition_wide, first_wide_use, use_forms, uses_of, variables_after}
use Rattle.clause_defined.specs.machinery.Uses.{CanAllBePut, CanBePut, CanRestBePut, IsAtVariables, IsJudged, capped}

-- counts up to a limit add up
pub capped_more : (n m : ℕ) → capped (capped 0 n) m ≡ capped 0 (n + m)
capped_more n m = grind (arith, nat_tests)

pub capped_few : (n : ℕ) → capped 0 n ≤ 2049
capped_few n = grind (arith, nat_tests)

pub few_is : (n : ℕ) → capped 0 n ≤ 2048 → (capped 0 n ≡ n) × (n ≤ most_variables)
few_is n h = (grind (arith, nat_tests), grind (arith, nat_tests))

pub many_is : (n : ℕ) → 2048 < capped 0 n → most_variables < n
many_is n h = grind (arith, nat_tests)

none_first : (a b : Option ℕ) → a ≡ None → first_of_two a b ≡ b
none_first a b none = ap (λ (o : Option ℕ). first_of_two o b) none

pub some_first : (a b : Option ℕ) (k : ℕ) → a ≡ Some k → first_of_two a b ≡ Some k
some_first a b k is = ap (λ (o : Option ℕ). first_of_two o b) is

-- the definition of the next one has room
pub judged_more : (defs : List Definition) (atom : Atom) (sign : Bool) (rest whole : List (Atom × Bool)) (first count more new : ℕ) (state : IsJudged defs ((atom, sign) ∷ rest) whole first count)
    → definition_wide (definition_at defs atom) atom state.next ≡ None → more ≡ count_of (definition_at defs atom) → new ≡ capped count more → IsJudged defs rest whole first new
judged_more defs atom sign rest whole first count more new state narrow counts is =
    let from = state.from in
    record {
      next = state.next + count_of (definition_at defs atom);
      from = omega (arith, from);
      counted = is ∙ ap (λ (c : ℕ). capped c more) state.counted ∙ ap (capped (capped 0 state.next)) counts ∙ capped_more state.next (count_of (definition_at defs atom));
      wide = sym (none_first (definition_wide (definition_at defs atom) atom state.next) (first_wide_use defs rest (state.next + count_of (definition_at defs atom))) narrow) ∙ state.wide;
      total = state.total;
    }

-- or hasn't
pub judged_wide : (defs : List Definition) (atom : Atom) (sign : Bool) (rest whole : List (Atom × Bool)) (first count offset : ℕ) (state : IsJudged defs ((atom, sign) ∷ rest) whole first count)
    → definition_wide (definition_at defs atom) atom state.next ≡ Some offset → first_wide_use defs whole first ≡ Some offset
judged_wide defs atom sign rest whole first count offset state wide =
    sym state.wide ∙ some_first (definition_wide (definition_at defs atom) atom state.next) (first_wide_use defs rest (state.next + count_of (definition_at defs atom))) offset wide

-- all from the start
pub judged_start : (defs : List Definition) (whole : List (Atom × Bool)) (own auxiliary count : ℕ) → count ≡ capped (capped 0 own) auxiliary → IsJudged defs whole whole (own + auxiliary) count
judged_start defs whole own auxiliary count is = record { next = own + auxiliary; from = omega arith; counted = is ∙ capped_more own auxiliary; wide = refl; total = refl }

-- where none is left
pub judged_end : (defs : List Definition) (whole : List (Atom × Bool)) (first count : ℕ) → IsJudged defs [] whole first count → (first_wide_use defs whole first ≡ None) × (count ≡ capped 0 (variables_after defs whole first))
judged_end defs whole first count state = (sym state.wide, state.counted ∙ ap (capped 0) state.total)

-- putting
below_more : (first next : ℕ) → first ≤ next → (args : List ℕ) → AllByRecursion (λ v. v < first) args → AllByRecursion (λ v. v < next) args
below_more first next le [] all = tt
below_more first next le (v ∷ args) all = let less = all.0 in (omega (arith, less, le), below_more first next le args all.1)

first_none : (a b : Option ℕ) → first_of_two a b ≡ None → a ≡ None
first_none None b h = refl
first_none (Some k) b h = absurd (cc)

rest_none : (a b : Option ℕ) → first_of_two a b ≡ None → b ≡ None
rest_none None b h = h
rest_none (Some k) b h = absurd (cc)

pub at_least : (defs : List Definition) (uses : List (Atom × Bool)) (next : ℕ) → next ≤ variables_after defs uses next
at_least defs [] next = omega arith
at_least defs (q ∷ uses) next = let rest = at_least defs uses (next + count_of (definition_at defs q.0)) in omega (arith, rest)

pub can_start : (defs : List Definition) (clause : Clause) → CanAllBePut defs clause → CanRestBePut defs (uses_of clause) (length clause.sorts) (length clause.sorts)
can_start defs clause can = record { defined = can.defined; below = can.below; from = omega arith; narrow = can.narrow; few = can.few }

pub can_next : (defs : List Definition) (atom : Atom) (sign : Bool) (rest : List (Atom × Bool)) (first next : ℕ) → CanRestBePut defs ((atom, sign) ∷ rest) first next → CanBePut defs atom next
can_next defs atom sign rest first next can =
    let least = at_least defs rest (next + count_of (definition_at defs atom)) in
    let few = can.few in
    record {
      defined = can.defined.0;
      narrow = first_none (definition_wide (definition_at defs atom) atom next) (first_wide_use defs rest (next + count_of (definition_at defs atom))) can.narrow;
      few = omega (arith, least, few);
      below = below_more first next can.from atom.args can.below.0;
    }

pub can_rest : (defs : List Definition) (atom : Atom) (sign : Bool) (rest : List (Atom × Bool)) (first next after : ℕ) → CanRestBePut defs ((atom, sign) ∷ rest) first next
    → after ≡ next + count_of (definition_at defs atom) → CanRestBePut defs rest first after
can_rest defs atom sign rest first next after can is =
    let from = can.from in
    record {
      defined = can.defined.1;
      below = can.below.1;
      from = omega (arith, from, is);
      narrow = ap (first_wide_use defs rest) is ∙ rest_none (definition_wide (definition_at defs atom) atom next) (first_wide_use defs rest (next + count_of (definition_at defs atom))) can.narrow;
      few = subst (λ (n : ℕ). variables_after defs rest n ≤ most_variables) (sym is) can.few;
    }

-- forms of one more, behind those so far
pub put_more : (defs : List Definition) (atom : Atom) (sign : Bool) (rest : List (Atom × Bool)) (next after : ℕ) (parts new whole : List Form) → parts ++ use_forms defs ((atom, sign) ∷ rest) next ≡ whole
    → after ≡ next + count_of (definition_at defs atom) → new ≡ parts ++ defined_forms (definition_at defs atom) atom sign next → new ++ use_forms defs rest after ≡ whole
put_more defs atom sign rest next after parts new whole is counts made =
    ap (λ (fs : List Form). fs ++ use_forms defs rest after) made
    ∙ append_assoc parts (defined_forms (definition_at defs atom) atom sign next) (use_forms defs rest after)
    ∙ ap (λ (n : ℕ). parts ++ (defined_forms (definition_at defs atom) atom sign next ++ use_forms defs rest n)) counts ∙ is

-- variables below a number are below a later one
pub stand_more : (nodes : List Node) (naming : Naming) (first next : ℕ) (atom : AtomUse) → first ≤ next → IsAtVariables nodes naming first atom → IsAtVariables nodes naming next atom
stand_more nodes naming first next atom le stand = record { below = below_more first next le (normal_atom naming nodes atom).args stand.below; apart = stand.apart }

-- one more predicate, as the code judges it
pub next_judged : (defs : List Definition) (nodes : List Node) (naming : Naming) (atom : AtomUse) (sign : Bool) (rest whole : List (Atom × Bool)) (first count more new : ℕ)
    → ((next : ℕ) → IsAtVariables nodes naming next atom → definition_wide (definition_at defs (normal_atom naming nodes atom)) (normal_atom naming nodes atom) next ≡ None)
    → more ≡ count_of (definition_at defs (normal_atom naming nodes atom)) → new ≡ capped count more → IsAtVariables nodes naming first atom
    → IsJudged defs ((normal_atom naming nodes atom, sign) ∷ rest) whole first count → IsJudged defs rest whole first new
next_judged defs nodes naming atom sign rest whole first count more new narrow counts is stand state =
    judged_more defs (normal_atom naming nodes atom) sign rest whole first count more new state (narrow state.next (stand_more nodes naming first state.next atom state.from stand)) counts is

pub next_wide : (defs : List Definition) (nodes : List Node) (naming : Naming) (atom : AtomUse) (sign : Bool) (rest whole : List (Atom × Bool)) (first count offset : ℕ)
    → ((next : ℕ) → IsAtVariables nodes naming next atom → definition_wide (definition_at defs (normal_atom naming nodes atom)) (normal_atom naming nodes atom) next ≡ Some offset)
    → IsAtVariables nodes naming first atom → IsJudged defs ((normal_atom naming nodes atom, sign) ∷ rest) whole first count → first_wide_use defs whole first ≡ Some offset
next_wide defs nodes naming atom sign rest whole first count offset wide stand state =
    judged_wide defs (normal_atom naming nodes atom) sign rest whole first count offset state (wide state.next (stand_more nodes naming first state.next atom state.from stand))
