-- The points of a guard are the instances of its assertion.
--
-- From an instance to a point: each own variable has its value's number, and each auxiliary one that of its term. Back: the bits say
-- which numbers are values, the forms of places that the auxiliary variables have the values of their terms, and then guards are
-- as true as their formulas.
use Rattle.std.proofs.Common.{◌≡◌, ℕ, ◌+◌, ◌-◌, ◌<◌, ◌≤◌, List, [], ◌∷◌, ◌++◌, length, map, take, Bool, true, false, ◌&&◌, inl, inr, refl, ap, sym, ◌∙◌, subst, arith}
use Rattle.std.specs.Prelude.{slice_get, Option, Some, None, Ok, option_map, unwrap_or, not, ℤ, ◌⊎◌, if◌then◌else◌}
use Rattle.std.specs.List.{AllByRecursion, list_all}
use Rattle.std.proofs.lemmas.Bool.{cases_lt}
use Rattle.std.proofs.lemmas.List.{length-append, length-map, length-take-le}
use Rattle.std.proofs.lemmas.List.Folds.{list_all-append}
use Rattle.term_tree.specs.declared.sort.Sort.{Sort}
use Rattle.term_tree.specs.declared.sort.Sort.TheVariants.{Int as IntSort, Bool as BoolSort}
use Rattle.term_tree.specs.declared.scalar.Value.{Value}
use Rattle.term_tree.specs.declared.script.Pred.{Pred as Declared}
use Rattle.term_tree.specs.declared.script.Script.{Script}
use Rattle.term_tree.specs.declared.node.TermId.{TermId}
use Rattle.term_tree.specs.declared.node.Node.{Node}
use Rattle.term_tree.specs.declared.node.Node.TheVariants.{Num, True, False, Var, LetVar, Pred, Op, Divisible, Let, Forall, Exists}
use Rattle.term_tree.specs.Arena.{IsArena}
use Rattle.term_tree.specs.Legal.{IsLegal, next_variable, parameters}
use Rattle.term_tree.specs.Operators.{truth as truth_of, same_truth}
use Rattle.term_tree.specs.Sorts.{has_sort, have_sorts, sort_of}
use Rattle.term_tree.specs.Subterms.{IsSubterm, inside, is_among, itself}
use Rattle.term_tree.specs.Truth.{HaveSorts}
use Rattle.term_tree.specs.Value.{environment_of, value_of}
use Rattle.term_tree.proofs.Public.{arena_below, both_true, sort_at, there_is, value_at}
use Rattle.horn_shape.specs.declared.clause.AtomUse.{AtomUse}
use Rattle.horn_shape.specs.declared.clause.HornClause.{HornClause}
use Rattle.horn_shape.specs.declared.clause.Part.{Part}
use Rattle.horn_shape.specs.Clause.{IsClauseOf, IsLegalScript, content_of}
use Rattle.horn_shape.specs.Instance.{IsInstance, conclusion_of, ground, is_met, part_value, premises_of}
use Rattle.horn_shape.specs.Plain.{is_plain_term}
use Rattle.horn_shape.specs.Shape.{arguments, clause_reading}
use Rattle.horn_shape.specs.machinery.Gathering.{place_of}
use Rattle.horn_shape.proofs.InstanceLemmas.{there_number}
use Rattle.lin_atoms.specs.Linear.{variable_at}
use Rattle.lin_atoms.specs.Truth.{truth}
use Rattle.lin_atoms.specs.declared.form.Form.{Form}
use Rattle.linear_terms.specs.Text.{is_variable}
use Rattle.linear_terms.specs.declared.standing.Standing.TheVariants.{Plain}
use Rattle.linear_terms.specs.Meeting.{number}
use Rattle.linear_terms.proofs.PartLemmas.{first_among, later_among}
use Rattle.linear_terms.proofs.Public.{sorted_there, value_sort}
use Rattle.linear_terms.proofs.SortLemmas.{has_sort_is}
use Rattle.clause_normal.specs.Normal.{argument_variable, auxiliaries, bits_from, guard_form, clause_guard, names_of, normal_atom, normal_clause, place_forms, sorting, variable_sorts, top_of}
use Rattle.clause_normal.proofs.MadeLemmas.{legal_top, top_is}
use Rattle.clause_normal.proofs.PlaceLemmas.{predicate_is}
use Rattle.clause_normal.proofs.ReadLemmas.{HeadHas, Holds, clause_holds}
use Rattle.clause_normal.proofs.ReadingLemmas.{own_number}
use Rattle.clause_normal.proofs.TextLemmas.{Among, InText, argument_placed, placed_position, text_part}
use Rattle.clause_laws.specs.Point.{IsInstanceAt, IsPointOver, NumberAtom, at_point, numbers, of_ground}
use Rattle.clause_laws.proofs.CoordinateLemmas.{behind_at, bits_are_values, conjunction_truth, mapped_at, same_points, stand_taken, take_front, taken, valued, values_are_bits}
use Rattle.clause_laws.proofs.EnteredLemmas.{top_spot}
use Rattle.clause_laws.proofs.ListLemmas.{have_length, places_all, places_each, there_at}
use Rattle.clause_laws.proofs.PlainLemmas.{HasPlainArguments, IsPlainTruth, clause_plain_parts}
use Rattle.clause_laws.proofs.SortedLemmas.{subterm_sorted}
use Rattle.clause_laws.proofs.StageLemmas.{IsRead, term_id}
use Rattle.clause_laws.proofs.WrittenLemmas.{front_stands, guard_says, met, named_place, places_have, values_hold, variable_known, written}

met_sign : (negated b : Bool) → same_truth (not negated) b ≡ (if negated then not b else b)
met_sign true b = refl
met_sign false b = refl

module _ (script : Script) (index : ℕ) (clause : HornClause) (arena : IsArena script.terms.nodes) (legal : IsLegalScript script) (is : IsClauseOf script index clause) where
  given : IsClauseOf script clause.assertion clause
  given = own_number script index clause is

  legal_here : IsLegal script.preds script.terms.nodes [] BoolSort (top_of script clause)
  legal_here = legal_top script clause arena legal given

  top_same : top_of script clause ≡ given.assertion.term.0
  top_same = top_is script clause arena legal given

  reads : clause_reading script.terms.nodes (top_of script clause) (place_of (term_id (top_of script clause)) []) ≡ Ok (content_of clause)
  reads = subst (λ (k : ℕ). clause_reading script.terms.nodes k (place_of (term_id k) []) ≡ Ok (content_of clause)) (sym top_same) given.reading

  start : IsRead script.terms.nodes clause.vars (top_spot (top_of script clause)) (parameters [])
  start =
      let counted = there_number (next_variable script.terms.nodes (top_of script clause) 0) legal_here.numbered in
      record {
        known = λ k s h. absurd (none k s h);
        stage = inr (
          refl,
          inr (inr (inl (record {
            lets = [];
            content = content_of clause;
            from = 0;
            to = counted.0;
            reads = reads;
            numbers = counted.1;
            low = λ k s h. absurd (none k s h);
            ahead = record { front = []; are = refl; long = refl };
          }))),
        );
      }
    where
      none : (k : ℕ) (s : Sort) → (parameters []).variables k ≡ Some s → ⊥
      none k s h = absurd (cc)

  -- what the clause is made of
  abbrev placed : List ℕ
  placed = auxiliaries script clause

  abbrev pub InClause : ℕ → Type 0
  InClause id = IsSubterm script.terms.nodes (top_of script clause) id × InText (sorting script) script.terms.nodes arena (auxiliaries script clause) id

  abbrev pub IsArgument : ℕ → Type 0
  IsArgument id = IsSubterm script.terms.nodes (top_of script clause) id
      × ((node : Node) → slice_get script.terms.nodes id ≡ Some node → is_variable node ≡ false → Among id (auxiliaries script clause))

  -- an application in the clause: its arguments are variables or have places, and have the sorts of its predicate
  pub record IsApplied (atom : AtomUse) : Type 0 where
    pub each : AllByRecursion (λ (part : Part). IsArgument part.term.0) atom.args
    pub pred : Declared
    pub there : slice_get script.preds atom.pred ≡ Some pred
    pub fits : have_sorts pred.args (map (λ (part : Part). sort_of script.preds script.terms.nodes part.term.0) atom.args) ≡ true

  arguments_are : (id pred : ℕ) (whole : List TermId) → slice_get script.terms.nodes id ≡ Some (Pred pred whole) → InClause id → (lets args : List TermId)
      → ((part : ℕ) → is_among part args ≡ true → is_among part whole ≡ true) → AllByRecursion (λ (part : Part). IsArgument part.term.0) (arguments lets args)
  arguments_are id pred whole at inner lets [] within = tt
  arguments_are id pred whole at inner lets (a ∷ args) within =
      let has = within a.0 (first_among a args) in (
        (inside a.0 (Pred pred whole) inner.0 at has, λ node part_is other. argument_placed (sorting script) script.terms.nodes arena (auxiliaries script clause) id pred whole a.0 node at inner.1 has part_is other),
        arguments_are id pred whole at inner lets args (λ part later. within part (later_among part a args later)),
      )

  applied : (id pred : ℕ) (lets args : List TermId) → slice_get script.terms.nodes id ≡ Some (Pred pred args) → InClause id → IsApplied (record { pred = pred; args = arguments lets args })
  applied id pred lets args at inner =
      let sorted = subterm_sorted script.preds script.terms.nodes (top_of script clause) id BoolSort arena legal_here.sorted inner.0 in
      let p = predicate_is (slice_get script.preds pred) (map (λ (a : TermId). sort_of script.preds script.terms.nodes a.0) args) sorted.0
      (sym (sort_at script.preds script.terms.nodes id (Pred pred args) at (arena_below script.terms.nodes id (Pred pred args) arena at)) ∙ sorted.1) in
      record {
        each = arguments_are id pred args at inner lets args (λ part has. has);
        pred = p.0;
        there = p.1;
        fits = ap (have_sorts p.0.args) (argument_sorts args) ∙ p.2;
      }
    where
      argument_sorts : (ids : List TermId) → map (λ (part : Part). sort_of script.preds script.terms.nodes part.term.0) (arguments lets ids) ≡ map (λ (a : TermId). sort_of script.preds script.terms.nodes a.0) ids
      argument_sorts [] = refl
      argument_sorts (a ∷ ids) = ap (λ (sorts : List (Option Sort)). sort_of script.preds script.terms.nodes a.0 ∷ sorts) (argument_sorts ids)

  pub parts : Holds InClause IsApplied (content_of clause)
  parts =
      clause_holds script.terms.nodes arena InClause IsApplied
      (λ id part node at has other inner. (inside part node inner.0 at has, text_part (sorting script) script.terms.nodes arena (auxiliaries script clause) id part node at has other inner.1))
      applied given.assertion.term [] (content_of clause) given.reading (subst (λ (id : ℕ). InClause id) top_same (itself, (Plain, λ q h. h)))

  pub plain_parts : Holds (IsPlainTruth script.preds script.terms.nodes arena) (HasPlainArguments script.preds script.terms.nodes arena) (content_of clause)
  plain_parts =
      clause_plain_parts script.preds script.terms.nodes arena given.assertion.term [] (content_of clause) (ap (sort_of script.preds script.terms.nodes) (sym top_same) ∙ legal_here.sorted) given.reading

  pub count_is : length (variable_sorts script clause) ≡ length clause.vars + length (auxiliaries script clause)
  count_is =
      length-append clause.vars (map (λ (id : ℕ). unwrap_or (sorting script id) IntSort) (auxiliaries script clause))
      ∙ ap (λ (k : ℕ). length clause.vars + k) (length-map (auxiliaries script clause) (λ (id : ℕ). unwrap_or (sorting script id) IntSort))

  -- the guard's parts
  guard_is : (point : List ℤ) → truth point (clause_guard script clause)
      ≡ ((list_all (truth point) (bits_from 0 clause.vars)
      && list_all (truth point) (place_forms (sorting script) (names_of script clause) script.terms.nodes (length clause.vars) (auxiliaries script clause)))
      && list_all (truth point) (map (guard_form (sorting script) (names_of script clause) script.terms.nodes) clause.guards))
  guard_is point =
      let bits : List Form = bits_from 0 clause.vars in
      let forms : List Form = place_forms (sorting script) (names_of script clause) script.terms.nodes (length clause.vars) (auxiliaries script clause) in
      let guards : List Form = map (guard_form (sorting script) (names_of script clause) script.terms.nodes) clause.guards in
      conjunction_truth point ((bits ++ forms) ++ guards)
      ∙ list_all-append (truth point) (bits ++ forms) guards
      ∙ ap (λ (b : Bool). b && list_all (truth point) guards) (list_all-append (truth point) bits forms)

  -- a variable in the assertion is one of the clause's
  pub own_variable : (id binder : ℕ) (sort : Sort) → IsSubterm script.terms.nodes (top_of script clause) id → slice_get script.terms.nodes id ≡ Some (Var binder sort) → slice_get clause.vars binder ≡ Some sort
  own_variable id binder sort sub at =
      variable_known script.preds script.terms.nodes (top_of script clause) [] clause.vars (λ v. v) (length clause.vars) arena legal_here start id binder sort sub at

  -- values of arguments have the sorts of their predicate
  pub tuple_sorted : (values : List Value) → HaveSorts clause.vars values → (kinds : List Sort) (args : List Part) → AllByRecursion (λ (part : Part). IsArgument part.term.0) args
      → AllByRecursion (λ (part : Part). is_plain_term script.terms.nodes part.term.0 ≡ true) args
      → have_sorts kinds (map (λ (part : Part). sort_of script.preds script.terms.nodes part.term.0) args) ≡ true → HaveSorts kinds (map (part_value script.terms.nodes (environment_of values)) args)
  tuple_sorted values have [] [] are plain fits = tt
  tuple_sorted values have [] (part ∷ args) are plain fits = absurd (cc)
  tuple_sorted values have (kind ∷ kinds) [] are plain fits = absurd (cc)
  tuple_sorted values have (kind ∷ kinds) (part ∷ args) are plain fits =
      let both = both_true (has_sort kind (sort_of script.preds script.terms.nodes part.term.0)) (have_sorts kinds (map (λ (p : Part). sort_of script.preds script.terms.nodes p.term.0) args)) fits in
      let sorted = has_sort_is kind (sort_of script.preds script.terms.nodes part.term.0) both.0 in
      let laws = written script.preds script.terms.nodes (top_of script clause) [] clause.vars (λ v. v) (length clause.vars) arena legal_here start values have part.term.0 are.0.0 plain.0 in (
        value_sort script.preds script.terms.nodes arena part.term.0 laws.plain (environment_of values) laws.typed part.term.0
            (sorted_there script.preds script.terms.nodes part.term.0 kind sorted) itself kind sorted,
        tuple_sorted values have kinds args are.1 plain.1 both.1,
      )

  -- each auxiliary variable has the value of its term
  abbrev pub HaveValues : List Value → List ℤ → Type 0
  HaveValues values point =
      (i id : ℕ) → slice_get (auxiliaries script clause) i ≡ Some id → variable_at point (length clause.vars + i) ≡ number (value_of script.terms.nodes id (environment_of values))

  module _ (values : List Value) (have : HaveSorts clause.vars values) (point : List ℤ) (front : take (length clause.vars) point ≡ map number values) where
    forms_give : list_all (truth point) (place_forms (sorting script) (names_of script clause) script.terms.nodes (length clause.vars) (auxiliaries script clause)) ≡ true → HaveValues values point
    forms_give all i id at =
        places_have script.preds script.terms.nodes (top_of script clause) [] clause.vars (λ v. v) (length clause.vars) arena legal_here start values have point (front_stands clause.vars values point have front)
        (places_each point (sorting script) (names_of script clause) script.terms.nodes (length clause.vars) (auxiliaries script clause) all) (id + 1) i id (omega arith) at

    module _ (each : HaveValues values point) where
      forms_hold : list_all (truth point) (place_forms (sorting script) (names_of script clause) script.terms.nodes (length clause.vars) (auxiliaries script clause)) ≡ true
      forms_hold =
          places_all point (sorting script) (names_of script clause) script.terms.nodes (length clause.vars) (auxiliaries script clause)
          (values_hold script.preds script.terms.nodes (top_of script clause) [] clause.vars (λ v. v) (length clause.vars) arena legal_here start values have point (front_stands clause.vars values point have front) each)

      guards_same : (guards : List Part) → AllByRecursion (λ (part : Part). InClause part.term.0) guards
          → AllByRecursion (λ (part : Part). IsPlainTruth script.preds script.terms.nodes arena part.term.0) guards
          → list_all (truth point) (map (guard_form (sorting script) (names_of script clause) script.terms.nodes) guards) ≡ list_all (is_met script.terms.nodes (environment_of values)) guards
      guards_same [] in_clause plain = refl
      guards_same (part ∷ guards) in_clause plain =
          ap (λ (b : Bool). b && list_all (truth point) (map (guard_form (sorting script) (names_of script clause) script.terms.nodes) guards))
          (guard_says script.preds script.terms.nodes (top_of script clause) [] clause.vars (λ v. v) (length clause.vars) arena legal_here start values have point (front_stands clause.vars values point have front) part.term.0 (not part.negated) in_clause.0.0 plain.0.0 plain.0.1 each
          ∙ met_sign part.negated (truth_of (value_of script.terms.nodes part.term.0 (environment_of values))))
          ∙ ap (λ (b : Bool). is_met script.terms.nodes (environment_of values) part && b) (guards_same guards in_clause.1 plain.1)

      guards_are : list_all (truth point) (map (guard_form (sorting script) (names_of script clause) script.terms.nodes) clause.guards) ≡ list_all (is_met script.terms.nodes (environment_of values)) clause.guards
      guards_are = guards_same clause.guards parts.guards plain_parts.guards

      -- arguments
      argument_is : (id : ℕ) → IsArgument id
          → variable_at point (argument_variable (names_of script clause).auxiliary id (slice_get script.terms.nodes id)) ≡ number (value_of script.terms.nodes id (environment_of values))
      argument_is id argument =
          let sorted = subterm_sorted script.preds script.terms.nodes (top_of script clause) id BoolSort arena legal_here.sorted argument.0 in
          let found = there_is script.terms.nodes id (sorted_there script.preds script.terms.nodes id sorted.0 sorted.1) in
          ap (λ (o : Option Node). variable_at point (argument_variable (names_of script clause).auxiliary id o)) found.1 ∙ by_node found.0 found.1
        where
          named : (node : Node) → slice_get script.terms.nodes id ≡ Some node → is_variable node ≡ false
              → variable_at point (unwrap_or ((names_of script clause).auxiliary id) 0) ≡ number (value_of script.terms.nodes id (environment_of values))
          named node at other =
              let found = placed_position id (auxiliaries script clause) (argument.1 node at other) in
              let named_so : (names_of script clause).auxiliary id ≡ Some (length clause.vars + found.0) = ap (option_map (λ i. length clause.vars + i)) found.1 in
              let place = named_place script.preds script.terms.nodes (top_of script clause) [] clause.vars (λ v. v) (length clause.vars) arena legal_here start id (length clause.vars + found.0) named_so in
              ap (λ (o : Option ℕ). variable_at point (unwrap_or o 0)) named_so ∙ ap (variable_at point) (sym place.2) ∙ each place.0 id place.1

          by_node : (node : Node) → slice_get script.terms.nodes id ≡ Some node
              → variable_at point (argument_variable (names_of script clause).auxiliary id (Some node)) ≡ number (value_of script.terms.nodes id (environment_of values))
          by_node (Var binder sort) at =
              met script.preds script.terms.nodes (top_of script clause) [] clause.vars (λ v. v) (length clause.vars) arena legal_here start values have point (front_stands clause.vars values point have front) id argument.0 id binder sort itself at
              ∙ ap number (sym (value_at script.terms.nodes id (Var binder sort) (environment_of values) at (arena_below script.terms.nodes id (Var binder sort) arena at)))
          by_node (Num n) at = named (Num n) at refl
          by_node True at = named True at refl
          by_node False at = named False at refl
          by_node (LetVar bound) at = named (LetVar bound) at refl
          by_node (Pred pred args) at = named (Pred pred args) at refl
          by_node (Op op args) at = named (Op op args) at refl
          by_node (Divisible by arg) at = named (Divisible by arg) at refl
          by_node (Let bound body) at = named (Let bound body) at refl
          by_node (Forall first sorts body) at = named (Forall first sorts body) at refl
          by_node (Exists first sorts body) at = named (Exists first sorts body) at refl

      pub tuple_same : (args : List Part) → AllByRecursion (λ (part : Part). IsArgument part.term.0) args
          → map (variable_at point) (map (λ part. argument_variable (names_of script clause).auxiliary part.term.0 (slice_get script.terms.nodes part.term.0)) args)
          ≡ map number (map (part_value script.terms.nodes (environment_of values)) args)
      tuple_same [] all = refl
      tuple_same (part ∷ args) all =
          ap (λ (x : ℤ). x ∷ map (variable_at point) (map (λ (p : Part). argument_variable (names_of script clause).auxiliary p.term.0 (slice_get script.terms.nodes p.term.0)) args)) (argument_is part.term.0 all.0)
          ∙ ap (λ (xs : List ℤ). number (part_value script.terms.nodes (environment_of values) part) ∷ xs) (tuple_same args all.1)

      atom_same : (atom : AtomUse) → IsApplied atom → at_point point (normal_atom (names_of script clause) script.terms.nodes atom) ≡ of_ground (ground script.terms.nodes (environment_of values) atom)
      atom_same atom all = ap (λ (xs : List ℤ). number_atom atom.pred xs) (tuple_same atom.args all.each)
        where
          number_atom : ℕ → List ℤ → NumberAtom
          number_atom pred tuple = record { pred = pred; tuple = tuple }

      atoms_same : (atoms : List AtomUse) → AllByRecursion IsApplied atoms
          → map (at_point point) (map (normal_atom (names_of script clause) script.terms.nodes) atoms) ≡ map of_ground (map (ground script.terms.nodes (environment_of values)) atoms)
      atoms_same [] all = refl
      atoms_same (atom ∷ atoms) all =
          ap (λ (x : NumberAtom). x ∷ map (at_point point) (map (normal_atom (names_of script clause) script.terms.nodes) atoms)) (atom_same atom all.0)
          ∙ ap (λ (xs : List NumberAtom). of_ground (ground script.terms.nodes (environment_of values) atom) ∷ xs) (atoms_same atoms all.1)

      head_same : (head : Option AtomUse) → HeadHas IsApplied head
          → option_map (at_point point) (option_map (normal_atom (names_of script clause) script.terms.nodes) head) ≡ option_map of_ground (option_map (ground script.terms.nodes (environment_of values)) head)
      head_same None has = refl
      head_same (Some atom) has = ap (λ (x : NumberAtom). Some x) (atom_same atom has)

  -- from an instance to a point: the auxiliary variables have the values of their terms, and more may stand behind
  abbrev pub worths_of : List Value → List ℤ
  worths_of values = map (λ id. number (value_of script.terms.nodes id (environment_of values))) (auxiliaries script clause)

  pub record IsStanding (values : List Value) (point : List ℤ) : Type 0 where
    pub front : take (length clause.vars) point ≡ map number values
    pub each : HaveValues values point
    pub guard : truth point (clause_guard script clause) ≡ true

  numbers_long : (values : List Value) → HaveSorts clause.vars values → length (map number values) ≡ length clause.vars
  numbers_long values have = length-map values number ∙ have_length clause.vars values have

  pub standing : (values : List Value) → IsInstance script clause values → (ys : List ℤ)
      → ((i id : ℕ) → slice_get (auxiliaries script clause) i ≡ Some id → variable_at ys i ≡ number (value_of script.terms.nodes id (environment_of values))) → IsStanding values (map number values ++ ys)
  standing values instance ys worth =
      let point : List ℤ = map number values ++ ys in
      let have = instance.sorts in
      let long = numbers_long values have in
      let front : take (length clause.vars) point ≡ map number values = ap (λ (n : ℕ). take n (map number values ++ ys)) (sym long) ∙ take_front (map number values) ys in
      let each : HaveValues values point = λ i id at. ap (λ (n : ℕ). variable_at (map number values ++ ys) (n + i)) (sym long) ∙ behind_at (map number values) ys i ∙ worth i id at in
      record {
        front = front;
        each = each;
        guard = guard_is point
            ∙ all_hold (list_all (truth point) (bits_from 0 clause.vars))
            (list_all (truth point) (place_forms (sorting script) (names_of script clause) script.terms.nodes (length clause.vars) (auxiliaries script clause)))
            (list_all (truth point) (map (guard_form (sorting script) (names_of script clause) script.terms.nodes) clause.guards))
            (values_are_bits point 0 clause.vars values have (stand_taken (length clause.vars) point (map number values) front long))
            (forms_hold values have point front each)
            (guards_are values have point front each ∙ instance.guards);
      }
    where
      all_hold : (a b c : Bool) → a ≡ true → b ≡ true → c ≡ true → ((a && b) && c) ≡ true
      all_hold true true c x y z = z
      all_hold true false c x y z = y
      all_hold false b c x y z = x

  pub worths_long : (values : List Value) → HaveSorts clause.vars values → length (map number values ++ worths_of values) ≡ length (variable_sorts script clause)
  worths_long values have =
      length-append (map number values) (worths_of values) ∙ ap (λ (n : ℕ). n + length (worths_of values)) (numbers_long values have)
      ∙ ap (λ (n : ℕ). length clause.vars + n) (length-map (auxiliaries script clause) (λ id. number (value_of script.terms.nodes id (environment_of values)))) ∙ sym count_is

  pub worth_at : (values : List Value) (i id : ℕ) → slice_get (auxiliaries script clause) i ≡ Some id → variable_at (worths_of values) i ≡ number (value_of script.terms.nodes id (environment_of values))
  worth_at values i id at = mapped_at (λ k. number (value_of script.terms.nodes k (environment_of values))) (auxiliaries script clause) i id at

  abbrev pub point_of : List Value → List ℤ
  point_of values = map number values ++ worths_of values

  pub instance_extends : (values : List Value) → IsInstance script clause values → IsPointOver (normal_clause script clause) (numbers values) (point_of values)
  instance_extends values instance =
      let stands = standing values instance (worths_of values) (worth_at values) in
      record { front = stands.front; each = worths_long values instance.sorts; guard = stands.guard }

  -- what a point says
  pub record IsReadOff (own point : List ℤ) : Type 0 where
    pub have : HaveSorts clause.vars (valued clause.vars own)
    pub are : map number (valued clause.vars own) ≡ own
    pub each : HaveValues (valued clause.vars own) point
    pub met_all : list_all (is_met script.terms.nodes (environment_of (valued clause.vars own))) clause.guards ≡ true

  pub read_off : (own point : List ℤ) → take (length clause.vars) point ≡ own → length clause.vars ≤ length point → truth point (clause_guard script clause) ≡ true → IsReadOff own point
  read_off own point begins within holds =
      let long : length own ≡ length clause.vars = ap length (sym begins) ∙ length-take-le (length clause.vars) point within in
      let B : Bool = list_all (truth point) (bits_from 0 clause.vars) in
      let P : Bool = list_all (truth point) (place_forms (sorting script) (names_of script clause) script.terms.nodes (length clause.vars) (auxiliaries script clause)) in
      let G : Bool = list_all (truth point) (map (guard_form (sorting script) (names_of script clause) script.terms.nodes) clause.guards) in
      let outer = both_true (B && P) G (sym (guard_is point) ∙ holds) in
      let pair = both_true B P outer.0 in
      let read = bits_are_values point 0 clause.vars own long (stand_taken (length clause.vars) point own begins long) pair.0 in
      let front : take (length clause.vars) point ≡ map number (valued clause.vars own) = begins ∙ sym read.are in
      let each = forms_give (valued clause.vars own) read.have point front pair.1 in
      record { have = read.have; are = read.are; each = each; met_all = sym (guards_are (valued clause.vars own) read.have point front each) ∙ outer.1 }

  pub point_read : (own point : List ℤ) → IsPointOver (normal_clause script clause) own point → IsReadOff own point
  point_read own point over = read_off own point over.front (omega (arith, over.each, count_is)) over.guard

  pub point_is_instance : (own point : List ℤ) → IsPointOver (normal_clause script clause) own point → IsInstanceAt script clause own
  point_is_instance own point over =
      let read = point_read own point over in
      record { values = valued clause.vars own; same = read.are; instance = record { sorts = read.have; guards = read.met_all } }

  pub one_extension : (own p q : List ℤ) → IsPointOver (normal_clause script clause) own p → IsPointOver (normal_clause script clause) own q → p ≡ q
  one_extension own p q x y = same_points p q (x.each ∙ sym y.each) (λ i less. by_place i less (cases_lt i (length clause.vars)))
    where
      by_place : (i : ℕ) → i < length p → (i < length clause.vars) ⊎ (length clause.vars ≤ i) → variable_at p i ≡ variable_at q i
      by_place i less (inl before) =
          taken (length clause.vars) i p before ∙ ap (λ (xs : List ℤ). variable_at xs i) (x.front ∙ sym y.front) ∙ sym (taken (length clause.vars) i q before)
      by_place i less (inr behind) =
          let j : ℕ = i - length clause.vars in
          let at : i ≡ length clause.vars + j = omega (arith, behind) in
          let within : j < length (auxiliaries script clause) = omega (arith, less, x.each, count_is, behind) in
          let place = there_at (auxiliaries script clause) j within in
          let first = point_read own p x in
          let second = point_read own q y in
          ap (variable_at p) at ∙ first.each j place.0 place.1 ∙ sym (second.each j place.0 place.1) ∙ ap (variable_at q) (sym at)

  -- at an instance the point gives the atoms and the head the tuples of the instance
  module _ (values : List Value) (instance : IsInstance script clause values) (point : List ℤ) (over : IsPointOver (normal_clause script clause) (numbers values) point) where
    each_value : HaveValues values point
    each_value =
        let B : Bool = list_all (truth point) (bits_from 0 clause.vars) in
        let P : Bool = list_all (truth point) (place_forms (sorting script) (names_of script clause) script.terms.nodes (length clause.vars) (auxiliaries script clause)) in
        let G : Bool = list_all (truth point) (map (guard_form (sorting script) (names_of script clause) script.terms.nodes) clause.guards) in
        forms_give values instance.sorts point over.front (both_true B P (both_true (B && P) G (sym (guard_is point) ∙ over.guard)).0).1

    pub same_atoms : map (at_point point) (normal_clause script clause).atoms ≡ map of_ground (premises_of script clause values)
    same_atoms = atoms_same values instance.sorts point over.front each_value clause.atoms parts.atoms

    pub same_head : option_map (at_point point) (normal_clause script clause).head ≡ option_map of_ground (conclusion_of script clause values)
    same_head = head_same values instance.sorts point over.front each_value clause.head parts.head
