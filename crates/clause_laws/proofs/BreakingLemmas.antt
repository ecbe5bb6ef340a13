-- The points of the formula with definitions are the instances that break the clause.
--
-- The formulas of each atom and of the head say, at a point over an instance, that the definition's auxiliary variables have the
-- values of their terms and that the predicate is true, or false, at the values of the arguments.
use Rattle.std.proofs.Common.{◌≡◌, ℕ, zero, suc, ◌+◌, ◌-◌, ◌<◌, ◌≤◌, List, [], ◌∷◌, ◌++◌, length, map, take, Bool, true, false, ◌&&◌, inl, inr, refl, ap, sym, ◌∙◌, subst, arith, append_assoc}
use Rattle.std.specs.Prelude.{slice_get, Option, Some, None, option_map, ◌⊎◌, ℤ}
use Rattle.std.specs.List.{AllByRecursion, list_all}
use Rattle.std.proofs.lemmas.Bool.{cases_lt}
use Rattle.std.proofs.lemmas.List.{length-append, length-map}
use Rattle.std.proofs.lemmas.List.Folds.{list_all-append}
use Rattle.std.proofs.lemmas.Option.{slice_get_within}
use Rattle.term_tree.specs.declared.sort.Sort.{Sort}
use Rattle.term_tree.specs.declared.definition.Definition.{Definition}
use Rattle.term_tree.specs.declared.script.Pred.{Pred as Declared}
use Rattle.term_tree.specs.declared.script.Script.{Script}
use Rattle.term_tree.specs.declared.scalar.Value.{Value}
use Rattle.term_tree.specs.Arena.{IsArena}
use Rattle.term_tree.specs.Operators.{truth as truth_of, same_truth}
use Rattle.term_tree.specs.Solution.{AreFormulas, DefinesEach, IsFormula, defined_value, interpretation_of}
use Rattle.term_tree.specs.Truth.{HaveSorts}
use Rattle.term_tree.specs.Value.{environment_of, value_of}
use Rattle.term_tree.proofs.Public.{both_true}
use Rattle.horn_shape.specs.declared.clause.AtomUse.{AtomUse}
use Rattle.horn_shape.specs.declared.clause.HornClause.{HornClause}
use Rattle.horn_shape.specs.Breaking.{Breaks, IsTrueAtom, IsTrueHead}
use Rattle.horn_shape.specs.Clause.{IsClauseOf, IsLegalScript}
use Rattle.horn_shape.specs.Instance.{ground, tuple_of}
use Rattle.horn_shape.proofs.DisjunctLemmas.{truth_is_true}
use Rattle.lin_atoms.specs.Linear.{variable_at}
use Rattle.lin_atoms.specs.Truth.{truth}
use Rattle.linear_terms.specs.Meeting.{number}
use Rattle.clause_form.specs.declared.atom.Atom.{Atom}
use Rattle.clause_normal.specs.Normal.{auxiliaries, clause_guard, names_of, normal_atom, normal_clause, variable_sorts}
use Rattle.clause_normal.proofs.ReadLemmas.{HeadHas}
use Rattle.clause_laws.specs.Defined.{breaking_form, breaking_variables, count_of, defined_forms, definition_places, head_use, use_forms, uses_of, variables_after}
use Rattle.clause_laws.specs.Point.{IsBreakingPointOver, numbers}
use Rattle.clause_laws.proofs.CoordinateLemmas.{Stand, behind_at, conjunction_truth, front_at, mapped_at, same_points, stand_by, stood, taken, valued}
use Rattle.clause_laws.proofs.DefinitionLemmas.{definition_gives, definition_holds}
use Rattle.clause_laws.proofs.ListLemmas.{there_at}
use Rattle.clause_laws.proofs.PointLemmas.{HaveValues, IsApplied, IsReadOff, count_is, parts, plain_parts, read_off, standing, tuple_same, tuple_sorted, worth_at, worths_long, worths_of}
use Rattle.clause_laws.proofs.PlainLemmas.{HasPlainArguments}

-- numbers that stand behind others
stand_first : (point : List ℤ) (v : ℕ) (xs ys : List ℤ) → Stand point v (xs ++ ys) → Stand point v xs
stand_first point v [] ys all = tt
stand_first point v (x ∷ xs) ys all = (all.0, stand_first point (v + 1) xs ys all.1)

stand_rest : (point : List ℤ) (v : ℕ) (xs ys : List ℤ) → Stand point v (xs ++ ys) → Stand point (v + length xs) ys
stand_rest point v [] ys all = subst (λ (k : ℕ). Stand point k ys) (none v) all
  where
    none : (v : ℕ) → v ≡ v + 0
    none v = omega arith
stand_rest point v (x ∷ xs) ys all = subst (λ (k : ℕ). Stand point k ys) (shifted v (length xs)) (stand_rest point (v + 1) xs ys all.1)
  where
    shifted : (v n : ℕ) → (v + 1) + n ≡ v + suc n
    shifted v n = omega arith

stand_both : (point : List ℤ) (v : ℕ) (xs ys : List ℤ) → Stand point v xs → Stand point (v + length xs) ys → Stand point v (xs ++ ys)
stand_both point v [] ys first rest = subst (λ (k : ℕ). Stand point k ys) (none v) rest
  where
    none : (v : ℕ) → v + 0 ≡ v
    none v = omega arith
stand_both point v (x ∷ xs) ys first rest = (first.0, stand_both point (v + 1) xs ys first.1 (subst (λ (k : ℕ). Stand point k ys) (shifted v (length xs)) rest))
  where
    shifted : (v n : ℕ) → v + suc n ≡ (v + 1) + n
    shifted v n = omega arith

both_hold : (a b : Bool) → a ≡ true → b ≡ true → (a && b) ≡ true
both_hold true b h k = k
both_hold false b h k = h

-- the definition of a predicate is a formula over its arguments
pub record IsDefined (definitions : List Definition) (pred : ℕ) (sorts : List Sort) : Type 0 where
  pub definition : Definition
  pub there : slice_get definitions pred ≡ Some definition
  pub formula : IsFormula sorts definition.terms.nodes definition.body.0

some_is : (a b : Declared) → Some a ≡ Some b → a ≡ b
some_is a b e = cc

pub defined_at : (from : ℕ) (preds : List Declared) (definitions : List Definition) → DefinesEach from preds definitions → AreFormulas preds definitions → (k : ℕ) (p : Declared) → slice_get preds k ≡ Some p
    → IsDefined definitions k p.args
defined_at from [] definitions each formed k p is = absurd (cc)
defined_at from (q ∷ preds) [] each formed k p is = absurd each
defined_at from (q ∷ preds) (d ∷ definitions) each formed zero p is =
    record { definition = d; there = refl; formula = subst (λ (r : Declared). IsFormula r.args d.terms.nodes d.body.0) (some_is q p is) formed.0 }
defined_at from (q ∷ preds) (d ∷ definitions) each formed (suc k) p is =
    let rest = defined_at (from + 1) preds definitions each.2 formed.1 k p is in record { definition = rest.definition; there = rest.there; formula = rest.formula }

-- the values of the terms of a definition that have auxiliary variables
abbrev pub use_worths : Option Definition → List Value → List ℤ
use_worths None values = []
use_worths (Some d) values = map (λ id. number (value_of d.terms.nodes id (environment_of values))) (definition_places d)

use_count : (o : Option Definition) (values : List Value) → length (use_worths o values) ≡ count_of o
use_count None values = refl
use_count (Some d) values = length-map (definition_places d) (λ id. number (value_of d.terms.nodes id (environment_of values)))

module _ (script : Script) (index : ℕ) (clause : HornClause) (arena : IsArena script.terms.nodes) (legal : IsLegalScript script) (is : IsClauseOf script index clause) (definitions : List Definition)
    (defines : DefinesEach 0 script.preds definitions) (formed : AreFormulas script.preds definitions) where
  abbrev normal : AtomUse → Atom
  normal u = normal_atom (names_of script clause) script.terms.nodes u

  abbrev named : List (AtomUse × Bool) → List (Atom × Bool)
  named uses = map (λ (q : AtomUse × Bool). (normal_atom (names_of script clause) script.terms.nodes q.0, q.1)) uses

  abbrev head_uses : Option AtomUse → List (AtomUse × Bool)
  head_uses None = []
  head_uses (Some head) = (head, false) ∷ []

  abbrev all_uses : List AtomUse → Option AtomUse → List (AtomUse × Bool)
  all_uses [] head = head_uses head
  all_uses (atom ∷ atoms) head = (atom, true) ∷ all_uses atoms head

  uses_named : (atoms : List AtomUse) (head : Option AtomUse)
      → map (λ (atom : Atom). (atom, true)) (map (normal_atom (names_of script clause) script.terms.nodes) atoms) ++ head_use (option_map (normal_atom (names_of script clause) script.terms.nodes) head)
      ≡ named (all_uses atoms head)
  uses_named [] None = refl
  uses_named [] (Some h) = refl
  uses_named (atom ∷ atoms) head = ap (λ (xs : List (Atom × Bool)). (normal_atom (names_of script clause) script.terms.nodes atom, true) ∷ xs) (uses_named atoms head)

  -- what is known of each
  abbrev IsKnown : AtomUse → Type 0
  IsKnown u = IsApplied script index clause arena legal is u × HasPlainArguments script.preds script.terms.nodes arena u

  all_known : (atoms : List AtomUse) (head : Option AtomUse) → AllByRecursion (IsApplied script index clause arena legal is) atoms
      → AllByRecursion (HasPlainArguments script.preds script.terms.nodes arena) atoms → HeadHas (IsApplied script index clause arena legal is) head
      → HeadHas (HasPlainArguments script.preds script.terms.nodes arena) head → AllByRecursion (λ (q : AtomUse × Bool). IsKnown q.0) (all_uses atoms head)
  all_known [] None a b c d = tt
  all_known [] (Some h) a b c d = ((c, d), tt)
  all_known (atom ∷ atoms) head a b c d = ((a.0, b.0), all_known atoms head a.1 b.1 c d)

  known : AllByRecursion (λ (q : AtomUse × Bool). IsKnown q.0) (all_uses clause.atoms clause.head)
  known =
      let applied = parts script index clause arena legal is in
      let plain = plain_parts script index clause arena legal is in
      all_known clause.atoms clause.head applied.atoms plain.atoms applied.head plain.head

  definition_known : (u : AtomUse) (known_u : IsKnown u) → IsDefined definitions u.pred known_u.0.pred.args
  definition_known u known_u = defined_at 0 script.preds definitions defines formed u.pred known_u.0.pred known_u.0.there

  module _ (values : List Value) (have : HaveSorts clause.vars values) where
    abbrev tuple : AtomUse → List Value
    tuple u = tuple_of script.terms.nodes (environment_of values) u

    abbrev told : AtomUse → Bool
    told u = truth_of (interpretation_of definitions u.pred (tuple_of script.terms.nodes (environment_of values) u))

    abbrev all_worths : List (AtomUse × Bool) → List ℤ
    all_worths [] = []
    all_worths (q ∷ uses) = use_worths (slice_get definitions q.0.pred) (tuple_of script.terms.nodes (environment_of values) q.0) ++ all_worths uses

    -- each predicate is true, or false, as it should be
    abbrev Agree : List (AtomUse × Bool) → Type 0
    Agree [] = Unit {0}
    Agree (q ∷ uses) = (same_truth q.1 (told q.0) ≡ true) × Agree uses

    variables_are : (uses : List (AtomUse × Bool)) (next : ℕ) → variables_after definitions (named uses) next ≡ next + length (all_worths uses)
    variables_are [] next = omega arith
    variables_are (q ∷ uses) next =
        let here = use_worths (slice_get definitions q.0.pred) (tuple_of script.terms.nodes (environment_of values) q.0) in
        let count = use_count (slice_get definitions q.0.pred) (tuple_of script.terms.nodes (environment_of values) q.0) in
        let rest = variables_are uses (next + count_of (slice_get definitions q.0.pred)) in
        let long = length-append here (all_worths uses) in
        rest ∙ summed next (count_of (slice_get definitions q.0.pred)) (length here) (length (all_worths uses)) (length (here ++ all_worths uses)) count long
      where
        summed : (n c h r t : ℕ) → h ≡ c → t ≡ h + r → (n + c) + r ≡ n + t
        summed n c h r t e f = omega (arith, e, f)

    module _ (point : List ℤ) (front : take (length clause.vars) point ≡ map number values) (each : HaveValues script index clause arena legal is values point) where
      -- one of them
      one_holds : (u : AtomUse) (sign : Bool) (next : ℕ) → IsKnown u → Stand point next (use_worths (slice_get definitions u.pred) (tuple_of script.terms.nodes (environment_of values) u))
          → same_truth sign (told u) ≡ true → list_all (truth point) (defined_forms (slice_get definitions u.pred) (normal_atom (names_of script clause) script.terms.nodes u) sign next) ≡ true
      one_holds u sign next known_u stand says =
          let d = definition_known u known_u in
          let vs : List Value = tuple_of script.terms.nodes (environment_of values) u in
          let sorted = tuple_sorted script index clause arena legal is values have known_u.0.pred.args u.args known_u.0.each known_u.1 known_u.0.fits in
          let same = tuple_same script index clause arena legal is values have point front each u.args known_u.0.each in
          let stand_here : Stand point next (use_worths (Some d.definition) vs) = subst (λ (o : Option Definition). Stand point next (use_worths o vs)) d.there stand in
          let says_here : same_truth sign (truth_of (value_of d.definition.terms.nodes d.definition.body.0 (environment_of vs))) ≡ true =
          subst (λ (o : Option Definition). same_truth sign (truth_of (defined_value o vs)) ≡ true) d.there says in
          ap (λ (o : Option Definition). list_all (truth point) (defined_forms o (normal_atom (names_of script clause) script.terms.nodes u) sign next)) d.there
          ∙ definition_holds d.definition known_u.0.pred.args d.formula vs sorted (normal_atom (names_of script clause) script.terms.nodes u).args next point same
          (λ i id at.
          let within : i < length (definition_places d.definition) = slice_get_within (definition_places d.definition) i id at in
          let long = use_count (Some d.definition) vs in
          stood point next (use_worths (Some d.definition) vs) stand_here i (omega (arith, within, long))
          ∙ mapped_at (λ k. number (value_of d.definition.terms.nodes k (environment_of vs))) (definition_places d.definition) i id at)
          sign says_here

      one_gives : (u : AtomUse) (sign : Bool) (next : ℕ) → IsKnown u → list_all (truth point) (defined_forms (slice_get definitions u.pred) (normal_atom (names_of script clause) script.terms.nodes u) sign next) ≡ true
          → Stand point next (use_worths (slice_get definitions u.pred) (tuple_of script.terms.nodes (environment_of values) u)) × (same_truth sign (told u) ≡ true)
      one_gives u sign next known_u holds =
          let d = definition_known u known_u in
          let vs : List Value = tuple_of script.terms.nodes (environment_of values) u in
          let sorted = tuple_sorted script index clause arena legal is values have known_u.0.pred.args u.args known_u.0.each known_u.1 known_u.0.fits in
          let same = tuple_same script index clause arena legal is values have point front each u.args known_u.0.each in
          let given = definition_gives d.definition known_u.0.pred.args d.formula vs sorted (normal_atom (names_of script clause) script.terms.nodes u).args next point same sign
          (sym (ap (λ (o : Option Definition). list_all (truth point) (defined_forms o (normal_atom (names_of script clause) script.terms.nodes u) sign next)) d.there) ∙ holds) in
          let long = use_count (Some d.definition) vs in (
            subst (λ (o : Option Definition). Stand point next (use_worths o vs)) (sym d.there)
                (stand_by point next (use_worths (Some d.definition) vs)
                (λ i less. let place = there_at (definition_places d.definition) i (omega (arith, less, long)) in
                given.each i place.0 place.1 ∙ sym (mapped_at (λ k. number (value_of d.definition.terms.nodes k (environment_of vs))) (definition_places d.definition) i place.0 place.1))),
            subst (λ (o : Option Definition). same_truth sign (truth_of (defined_value o vs)) ≡ true) (sym d.there) given.says,
          )

      -- all of them
      uses_hold : (uses : List (AtomUse × Bool)) → AllByRecursion (λ (q : AtomUse × Bool). IsKnown q.0) uses → (next : ℕ) → Stand point next (all_worths uses) → Agree uses
          → list_all (truth point) (use_forms definitions (named uses) next) ≡ true
      uses_hold [] all next stand agree = refl
      uses_hold (q ∷ uses) all next stand agree =
          let here = use_worths (slice_get definitions q.0.pred) (tuple_of script.terms.nodes (environment_of values) q.0) in
          let count = use_count (slice_get definitions q.0.pred) (tuple_of script.terms.nodes (environment_of values) q.0) in
          let forms = defined_forms (slice_get definitions q.0.pred) (normal_atom (names_of script clause) script.terms.nodes q.0) q.1 next in
          let others = use_forms definitions (named uses) (next + count_of (slice_get definitions q.0.pred)) in
          list_all-append (truth point) forms others
          ∙ both_hold (list_all (truth point) forms) (list_all (truth point) others)
          (one_holds q.0 q.1 next all.0 (stand_first point next here (all_worths uses) stand) agree.0)
          (uses_hold uses all.1 (next + count_of (slice_get definitions q.0.pred))
          (subst (λ (k : ℕ). Stand point (next + k) (all_worths uses)) count (stand_rest point next here (all_worths uses) stand)) agree.1)

      uses_give : (uses : List (AtomUse × Bool)) → AllByRecursion (λ (q : AtomUse × Bool). IsKnown q.0) uses → (next : ℕ) → list_all (truth point) (use_forms definitions (named uses) next) ≡ true
          → Stand point next (all_worths uses) × Agree uses
      uses_give [] all next holds = (tt, tt)
      uses_give (q ∷ uses) all next holds =
          let here = use_worths (slice_get definitions q.0.pred) (tuple_of script.terms.nodes (environment_of values) q.0) in
          let count = use_count (slice_get definitions q.0.pred) (tuple_of script.terms.nodes (environment_of values) q.0) in
          let forms = defined_forms (slice_get definitions q.0.pred) (normal_atom (names_of script clause) script.terms.nodes q.0) q.1 next in
          let others = use_forms definitions (named uses) (next + count_of (slice_get definitions q.0.pred)) in
          let both = both_true (list_all (truth point) forms) (list_all (truth point) others) (sym (list_all-append (truth point) forms others) ∙ holds) in
          let first = one_gives q.0 q.1 next all.0 both.0 in
          let rest = uses_give uses all.1 (next + count_of (slice_get definitions q.0.pred)) both.1 in (
            stand_both point next here (all_worths uses) first.0 (subst (λ (k : ℕ). Stand point (next + k) (all_worths uses)) (sym count) rest.0),
            (first.1, rest.1),
          )

    -- that all agree is what an instance that breaks the clause says
    head_agrees : (head : Option AtomUse) → (IsTrueHead (interpretation_of definitions) (option_map (ground script.terms.nodes (environment_of values)) head) → ⊥) → Agree (head_uses head)
    head_agrees None never = tt
    head_agrees (Some u) never = (by_truth (told u) refl, tt)
      where
        by_truth : (b : Bool) → told u ≡ b → same_truth false b ≡ true
        by_truth true holds = absurd (never (truth_is_true (interpretation_of definitions u.pred (tuple_of script.terms.nodes (environment_of values) u)) holds))
        by_truth false fails = refl

    agree_all : (atoms : List AtomUse) (head : Option AtomUse) → AllByRecursion (IsTrueAtom (interpretation_of definitions)) (map (ground script.terms.nodes (environment_of values)) atoms)
        → (IsTrueHead (interpretation_of definitions) (option_map (ground script.terms.nodes (environment_of values)) head) → ⊥) → Agree (all_uses atoms head)
    agree_all [] head all never = head_agrees head never
    agree_all (u ∷ atoms) head all never = (ap truth_of all.0, agree_all atoms head all.1 never)

    atoms_agreed : (atoms : List AtomUse) (head : Option AtomUse) → Agree (all_uses atoms head) → AllByRecursion (IsTrueAtom (interpretation_of definitions)) (map (ground script.terms.nodes (environment_of values)) atoms)
    atoms_agreed [] head agree = tt
    atoms_agreed (u ∷ atoms) head agree = (truth_is_true (interpretation_of definitions u.pred (tuple_of script.terms.nodes (environment_of values) u)) agree.0, atoms_agreed atoms head agree.1)

    head_agreed : (atoms : List AtomUse) (head : Option AtomUse) → Agree (all_uses atoms head) → IsTrueHead (interpretation_of definitions) (option_map (ground script.terms.nodes (environment_of values)) head) → ⊥
    head_agreed [] None agree holds = holds
    head_agreed [] (Some u) agree holds = never (sym agree.0 ∙ ap (λ (v : Value). same_truth false (truth_of v)) holds)
      where
        never : true ≡ false → ⊥
        never e = absurd (cc)
    head_agreed (u ∷ atoms) head agree holds = head_agreed atoms head agree.1 holds

  -- the formula: the guard, and then those of all uses
  abbrev uses_here : List (AtomUse × Bool)
  uses_here = all_uses clause.atoms clause.head

  form_is : (point : List ℤ) → truth point (breaking_form definitions (normal_clause script clause))
      ≡ (truth point (clause_guard script clause) && list_all (truth point) (use_forms definitions (named uses_here) (length (variable_sorts script clause))))
  form_is point =
      conjunction_truth point (clause_guard script clause ∷ use_forms definitions (uses_of (normal_clause script clause)) (length (variable_sorts script clause)))
      ∙ ap (λ (uses : List (Atom × Bool)). truth point (clause_guard script clause) && list_all (truth point) (use_forms definitions uses (length (variable_sorts script clause)))) (uses_named clause.atoms clause.head)

  variables_here : (values : List Value) (have : HaveSorts clause.vars values) → breaking_variables definitions (normal_clause script clause) ≡ length (variable_sorts script clause) + length (all_worths values have uses_here)
  variables_here values have =
      ap (λ (uses : List (Atom × Bool)). variables_after definitions uses (length (variable_sorts script clause))) (uses_named clause.atoms clause.head)
      ∙ variables_are values have uses_here (length (variable_sorts script clause))

  at_least : (uses : List (Atom × Bool)) (next : ℕ) → next ≤ variables_after definitions uses next
  at_least [] next = omega arith
  at_least (q ∷ uses) next = let rest = at_least uses (next + count_of (slice_get definitions q.0.pred)) in omega (arith, rest)

  -- an instance that breaks the clause extends to a point
  pub broken_extends : (values : List Value) → Breaks (interpretation_of definitions) script clause values
      → (point : List ℤ) × IsBreakingPointOver definitions (normal_clause script clause) (numbers values) point
  broken_extends values breaks =
      let have = breaks.instance.sorts in
      let worths : List ℤ = worths_of script index clause arena legal is values in
      let more : List ℤ = all_worths values have uses_here in
      let point : List ℤ = map number values ++ (worths ++ more) in
      let assoc : (map number values ++ worths) ++ more ≡ point = append_assoc (map number values) worths more in
      let long = worths_long script index clause arena legal is values have in
      let stands = standing script index clause arena legal is values breaks.instance (worths ++ more)
      (λ i id at. front_at worths more i
      (let within = slice_get_within (auxiliaries script clause) i id at in
      let count = length-map (auxiliaries script clause) (λ k. number (value_of script.terms.nodes k (environment_of values))) in omega (arith, within, count))
      ∙ worth_at script index clause arena legal is values i id at) in
      let behind : Stand point (length (variable_sorts script clause)) more =
      stand_by point (length (variable_sorts script clause)) more
      (λ i less. ap (λ (n : ℕ). variable_at point (n + i)) (sym long) ∙ ap (λ (zs : List ℤ). variable_at zs (length (map number values ++ worths) + i)) (sym assoc)
      ∙ behind_at (map number values ++ worths) more i) in (
        point,
        record {
          front = stands.front;
          each = ap length (sym assoc) ∙ length-append (map number values ++ worths) more ∙ ap (λ (n : ℕ). n + length more) long ∙ sym (variables_here values have);
          form = form_is point
              ∙ both_hold (truth point (clause_guard script clause)) (list_all (truth point) (use_forms definitions (named uses_here) (length (variable_sorts script clause)))) stands.guard
              (uses_hold values have point stands.front stands.each uses_here known (length (variable_sorts script clause)) behind (agree_all values have clause.atoms clause.head breaks.body breaks.head));
        },
      )

  -- what a point says
  record IsReadBreaking (own point : List ℤ) : Type 0 where
    read : IsReadOff script index clause arena legal is own point
    behind : Stand point (length (variable_sorts script clause)) (all_worths (valued clause.vars own) read.have uses_here)
    agree : Agree (valued clause.vars own) read.have uses_here

  read_breaking : (own point : List ℤ) → IsBreakingPointOver definitions (normal_clause script clause) own point → IsReadBreaking own point
  read_breaking own point over =
      let both = both_true (truth point (clause_guard script clause)) (list_all (truth point) (use_forms definitions (named uses_here) (length (variable_sorts script clause)))) (sym (form_is point) ∙ over.form) in
      let least = at_least (uses_of (normal_clause script clause)) (length (variable_sorts script clause)) in
      let count = count_is script index clause arena legal is in
      let read = read_off script index clause arena legal is own point over.front (omega (arith, over.each, least, count)) both.0 in
      let given = uses_give (valued clause.vars own) read.have point (over.front ∙ sym read.are) read.each uses_here known (length (variable_sorts script clause)) both.1 in
      record { read = read; behind = given.0; agree = given.1 }

  pub point_breaks : (own point : List ℤ) → IsBreakingPointOver definitions (normal_clause script clause) own point
      → (values : List Value) × (numbers values ≡ own) × Breaks (interpretation_of definitions) script clause values
  point_breaks own point over =
      let told_here = read_breaking own point over in
      let values : List Value = valued clause.vars own in
      let have = told_here.read.have in (
        values,
        told_here.read.are,
        record {
          instance = record { sorts = have; guards = told_here.read.met_all };
          body = atoms_agreed values have clause.atoms clause.head told_here.agree;
          head = head_agreed values have clause.atoms clause.head told_here.agree;
        },
      )

  -- in one way
  pub one_breaking : (own p q : List ℤ) → IsBreakingPointOver definitions (normal_clause script clause) own p → IsBreakingPointOver definitions (normal_clause script clause) own q → p ≡ q
  one_breaking own p q x y = same_points p q (x.each ∙ sym y.each) (λ i less. by_place i less (cases_lt i (length clause.vars)))
    where
      first : IsReadBreaking own p
      first = read_breaking own p x

      second : IsReadBreaking own q
      second = read_breaking own q y

      behind_own : (i : ℕ) → i < length p → length clause.vars ≤ i → (i < length (variable_sorts script clause)) ⊎ (length (variable_sorts script clause) ≤ i) → variable_at p i ≡ variable_at q i
      behind_own i less past (inl before) =
          let j : ℕ = i - length clause.vars in
          let count = count_is script index clause arena legal is in
          let at : i ≡ length clause.vars + j = omega (arith, past) in
          let place = there_at (auxiliaries script clause) j (omega (arith, before, count, past)) in
          ap (variable_at p) at ∙ first.read.each j place.0 place.1 ∙ sym (second.read.each j place.0 place.1) ∙ ap (variable_at q) (sym at)
      behind_own i less past (inr behind) =
          let j : ℕ = i - length (variable_sorts script clause) in
          let at : i ≡ length (variable_sorts script clause) + j = omega (arith, behind) in
          let total = variables_here (valued clause.vars own) first.read.have in
          let within : j < length (all_worths (valued clause.vars own) first.read.have uses_here) = omega (arith, less, x.each, total, behind) in
          ap (variable_at p) at
          ∙ stood p (length (variable_sorts script clause)) (all_worths (valued clause.vars own) first.read.have uses_here) first.behind j within
          ∙ sym (stood q (length (variable_sorts script clause)) (all_worths (valued clause.vars own) first.read.have uses_here) second.behind j within)
          ∙ ap (variable_at q) (sym at)

      by_place : (i : ℕ) → i < length p → (i < length clause.vars) ⊎ (length clause.vars ≤ i) → variable_at p i ≡ variable_at q i
      by_place i less (inl before) =
          taken (length clause.vars) i p before ∙ ap (λ (xs : List ℤ). variable_at xs i) (x.front ∙ sym y.front) ∙ sym (taken (length clause.vars) i q before)
      by_place i less (inr past) = behind_own i less past (cases_lt i (length (variable_sorts script clause)))
