-- Under definitions that are formulas an assertion is true where no instance breaks it, and false where one does.
use Rattle.std.proofs.Common.{◌≡◌, ℕ, zero, suc, ◌+◌, ◌<◌, List, [], ◌∷◌, length, Bool, true, false, ◌&&◌, ◌||◌, ◌==◌, refl, ap, sym, ◌∙◌, subst, arith, map}
use Rattle.std.proofs.lemmas.Bool.Decides.{nat_tests}
use Rattle.std.proofs.lemmas.Option.{slice_get_within}
use Rattle.std.specs.Prelude.{slice_get, Option, Some, None, option_map}
use Rattle.std.specs.List.{list_all, AllByRecursion}
use Rattle.term_tree.specs.declared.sort.Sort.{Sort}
use Rattle.term_tree.specs.declared.sort.Sort.TheVariants.{Bool as BoolSort}
use Rattle.term_tree.specs.declared.definition.Definition.{Definition}
use Rattle.term_tree.specs.declared.node.TermId.{TermId}
use Rattle.term_tree.specs.declared.node.Node.{Node}
use Rattle.term_tree.specs.declared.node.Node.TheVariants.{LetVar, Pred, Op, Divisible, Let, Forall, Exists}
use Rattle.term_tree.specs.declared.scalar.Value.{Value}
use Rattle.term_tree.specs.declared.scalar.Value.TheVariants.{Int, Bool as Truth}
use Rattle.term_tree.specs.declared.script.Assertion.{Assertion}
use Rattle.term_tree.specs.declared.script.Pred.{Pred as Declared}
use Rattle.term_tree.specs.declared.script.Script.{Script}
use Rattle.term_tree.specs.Arena.{IsArena}
use Rattle.term_tree.specs.Legal.{IsLegal, parameters, next_variable}
use Rattle.term_tree.specs.Solution.{AreFormulas, DefinesEach, IsFormula, interpretation_of}
use Rattle.term_tree.specs.Subterms.{is_among, is_part, itself, is_plain, IsPlain}
use Rattle.term_tree.specs.Truth.{Interpretation, HasSort, HaveSorts, HasValue}
use Rattle.term_tree.specs.Value.{Environment, environment_of, value_of}
use Rattle.term_tree.proofs.LawLemmas.{differ, one_value}
use Rattle.term_tree.proofs.PlainLemmas.{through}
use Rattle.term_tree.proofs.Public.{arena_below, both_true, eqb_self, part_below, there_is}
use Rattle.horn_shape.specs.declared.clause.AtomUse.{AtomUse}
use Rattle.horn_shape.specs.declared.clause.HornClause.{HornClause}
use Rattle.horn_shape.specs.Breaking.{IsTrueAtom, IsTrueHead, Breaks}
use Rattle.horn_shape.specs.Clause.{IsClauseOf, assertion_reading, content_of}
use Rattle.horn_shape.specs.Instance.{IsInstance, conclusion_of, ground, is_met, premises_of}
use Rattle.horn_shape.specs.Plain.{node_is_plain, is_plain_term}
use Rattle.horn_shape.specs.Content.{is_true_atom, HeadHolds}
use Rattle.horn_shape.proofs.BrokenLemmas.{falsified}
use Rattle.horn_shape.proofs.ClauseLemmas.{sorted_there}
use Rattle.horn_shape.proofs.FalseLemmas.{breaker}
use Rattle.horn_shape.proofs.FlagLemmas.{plain_at}
use Rattle.horn_shape.proofs.InstanceLemmas.{atoms_true, head_true, same_assertion, stand_all, there_number}
use Rattle.horn_shape.proofs.ScopeLemmas.{AgreeBelow, IsScope, plain_sorted, get_sorted}
use Rattle.horn_shape.proofs.SettledLemmas.{GivesTruth}
use Rattle.horn_shape.proofs.DisjunctLemmas.{truth_is_true}
use Rattle.horn_shape.proofs.UnbrokenLemmas.{unbroken}

-- the definition of plain terms is the test
module _ (nodes : List Node) (arena : IsArena nodes) where
  all_plain : (ids : List TermId) → ((k : ℕ) → is_among k ids ≡ true → is_plain_term nodes k ≡ true) → list_all (λ a. is_plain_term nodes a.0) ids ≡ true
  all_plain [] all = refl
  all_plain (id ∷ ids) all =
      ap (λ (b : Bool). b && list_all (λ (a : TermId). is_plain_term nodes a.0) ids) (all id.0 (first id.0 (is_among id.0 ids))) ∙ all_plain ids (λ k h. all k (more id.0 k (is_among k ids) h))
    where
      first : (k : ℕ) (b : Bool) → ((k == k) || b) ≡ true
      first k b = grind (arith, nat_tests)

      more : (i k : ℕ) (b : Bool) → b ≡ true → ((i == k) || b) ≡ true
      more i k b h = grind (arith, nat_tests)

  either_left : (a b : Bool) → a ≡ true → (a || b) ≡ true
  either_left true b h = refl
  either_left false b h = absurd (cc)

  either_right : (a b : Bool) → b ≡ true → (a || b) ≡ true
  either_right true b h = refl
  either_right false b h = h

  test_node : (node : Node) → is_plain node ≡ true → ((k : ℕ) → is_part k node ≡ true → is_plain_term nodes k ≡ true) → node_is_plain (is_plain_term nodes) node ≡ true
  test_node (LetVar bound) plain all = all bound.0 (eqb_self bound.0)
  test_node (Pred pred args) plain all = absurd (cc)
  test_node (Op op args) plain all = all_plain args all
  test_node (Divisible by arg) plain all = all arg.0 (eqb_self arg.0)
  test_node (Let bound body) plain all =
      ap (λ (b : Bool). b && is_plain_term nodes body.0) (all_plain bound (λ k h. all k (either_left (is_among k bound) (body.0 == k) h)))
      ∙ all body.0 (either_right (is_among body.0 bound) (body.0 == body.0) (eqb_self body.0))
  test_node (Forall first sorts body) plain all = absurd (cc)
  test_node (Exists first sorts body) plain all = absurd (cc)
  test_node _ plain all = refl

  test_below : (bound id : ℕ) → id < bound → id < length nodes → IsPlain nodes id → is_plain_term nodes id ≡ true
  test_below zero id less within plain = absurd (omega (arith, less))
  test_below (suc bound) id less within plain =
      let found = there_is nodes id within in
      let below = arena_below nodes id found.0 arena found.1 in
      plain_at nodes id found.0 found.1 below
      ∙ test_node found.0 (plain id found.0 itself found.1)
      (λ k h. let lower = part_below k id found.0 below h in
      test_below bound k (omega (arith, lower, less)) (omega (arith, lower, within)) (λ low n s e. plain low n (through nodes id found.0 k low found.1 h s) e))

  pub passes : (id : ℕ) → id < length nodes → IsPlain nodes id → is_plain_term nodes id ≡ true
  passes id within plain = test_below (suc id) id (omega arith) within plain

-- a formula has a truth value at values of its parameters' sorts
formula_truth : (sorts : List Sort) (nodes : List Node) (id : ℕ) (values : List Value) → IsFormula sorts nodes id → HaveSorts sorts values → HasSort BoolSort (value_of nodes id (environment_of values))
formula_truth sorts nodes id values formula have =
    plain_sorted [] nodes formula.arena id (length sorts) (environment_of values) (parameters sorts) BoolSort (record {
      low = λ k s h. slice_get_within sorts k s h;
      local = λ k h. absurd (cc);
      sorted = λ k s h. get_sorted [] nodes sorts values k s (Truth false) have h;
      bound = λ k s h e. absurd (cc);
    }) (passes nodes formula.arena id (sorted_there [] nodes id BoolSort formula.legal.sorted) formula.plain) formula.legal.scoped formula.legal.sorted

some_is : {X : Type 0} (a b : X) → Some a ≡ Some b → a ≡ b
some_is a b e = cc

-- definitions that are formulas give each predicate a truth value at values of its sorts
pub defined_truth : (number : ℕ) (preds : List Declared) (definitions : List Definition) → DefinesEach number preds definitions → AreFormulas preds definitions → GivesTruth preds (interpretation_of definitions)
defined_truth number [] [] each formed pred p values h have = absurd (cc)
defined_truth number [] (d ∷ definitions) each formed pred p values h have = absurd each
defined_truth number (q ∷ preds) [] each formed pred p values h have = absurd each
defined_truth number (q ∷ preds) (d ∷ definitions) each formed zero p values h have =
    formula_truth q.args d.terms.nodes d.body.0 values formed.0 (subst (λ (r : Declared). HaveSorts r.args values) (sym (some_is q p h)) have)
defined_truth number (q ∷ preds) (d ∷ definitions) each formed (suc pred) p values h have = defined_truth (number + 1) preds definitions each.2 formed.1 pred p values h have

atoms_hold : (I : Interpretation) (nodes : List Node) (E : Environment) (atoms : List AtomUse) → list_all (is_true_atom I nodes E) atoms ≡ true → AllByRecursion (IsTrueAtom I) (map (ground nodes E) atoms)
atoms_hold I nodes E [] h = tt
atoms_hold I nodes E (a ∷ atoms) h =
    let both = both_true (is_true_atom I nodes E a) (list_all (is_true_atom I nodes E) atoms) h in
    (truth_is_true _ both.0, atoms_hold I nodes E atoms both.1)

-- whether a head is true is decided
head_decided : (I : Interpretation) (nodes : List Node) (E : Environment) (head : Option AtomUse) → ((IsTrueHead I (option_map (ground nodes E) head) → ⊥) → ⊥) → HeadHolds I nodes E head
head_decided I nodes E None h = h (λ x. x)
head_decided I nodes E (Some a) h = by_value (I a.pred (ground nodes E a).values) refl
  where
    by_value : (v : Value) → I a.pred (ground nodes E a).values ≡ v → I a.pred (ground nodes E a).values ≡ Truth true
    by_value (Truth true) e = e
    by_value (Truth false) e = absurd (h (λ k. no (sym e ∙ k)))
      where
        no : Truth false ≡ Truth true → ⊥
        no q = absurd (cc)
    by_value (Int n) e = absurd (h (λ k. no (sym e ∙ k)))
      where
        no : Int n ≡ Truth true → ⊥
        no q = absurd (cc)

-- nothing is in scope around an assertion
at_root : (preds : List Declared) (nodes : List Node) (E : Environment) → IsScope preds nodes 0 E (parameters [])
at_root preds nodes E = record { low = λ k s h. absurd (cc); local = λ k h. absurd (cc); sorted = λ k s h. absurd (cc); bound = λ k s h e. absurd (cc) }

-- an assertion that no instance breaks is true
true_unbroken : (I : Interpretation) (script : Script) (index : ℕ) (clause : HornClause) (a : Assertion) → IsArena script.terms.nodes → GivesTruth script.preds I
    → slice_get script.asserts index ≡ Some a → IsLegal script.preds script.terms.nodes [] BoolSort a.term.0 → IsClauseOf script index clause
    → ((values : List Value) → Breaks I script clause values → ⊥) → (E : Environment) → HasValue I script.terms.nodes a.term.0 E (Truth true)
true_unbroken I script index clause a arena gives is legal told unbreaking E =
    let nodes = script.terms.nodes in
    let same : a ≡ told.assertion = same_assertion a told.assertion (slice_get script.asserts index) is told.there in
    let number = there_number (next_variable nodes a.term.0 0) legal.numbered in
    unbroken I script.preds nodes arena gives a.term [] (content_of clause) 0 number.0 E (parameters []) environment_of (ap (assertion_reading script) same ∙ told.reading) number.1 legal.sorted
    legal.scoped (at_root script.preds nodes E)
    (λ values have. record {
      agree = λ k less. absurd (omega (arith, less));
      stand = stand_all values;
      holds = λ h. let parts = both_true (list_all (is_met nodes (environment_of values)) clause.guards) (list_all (is_true_atom I nodes (environment_of values)) clause.atoms) h in
          head_decided I nodes (environment_of values) clause.head (λ no. unbreaking values (record {
            instance = record { sorts = have; guards = parts.0 };
            body = atoms_hold I nodes (environment_of values) clause.atoms parts.1;
            head = no;
          }));
    })

-- an assertion that an instance breaks is false
false_broken : (I : Interpretation) (script : Script) (index : ℕ) (clause : HornClause) (a : Assertion) → IsArena script.terms.nodes → GivesTruth script.preds I
    → slice_get script.asserts index ≡ Some a → IsLegal script.preds script.terms.nodes [] BoolSort a.term.0 → IsClauseOf script index clause → (values : List Value)
    → Breaks I script clause values → (E : Environment) → HasValue I script.terms.nodes a.term.0 E (Truth false)
false_broken I script index clause a arena gives is legal told values breaks E =
    let nodes = script.terms.nodes in
    let F = environment_of values in
    let same : a ≡ told.assertion = same_assertion a told.assertion (slice_get script.asserts index) is told.there in
    let number = there_number (next_variable nodes a.term.0 0) legal.numbered in
    falsified I script.preds nodes arena gives a.term [] (content_of clause) 0 number.0 E F (parameters []) values (ap (assertion_reading script) same ∙ told.reading) number.1 legal.sorted legal.scoped
    (at_root script.preds nodes E) (record {
      agree = λ k less. absurd (omega (arith, less));
      stand = stand_all values;
      sorts = breaks.instance.sorts;
      body = ap (λ (b : Bool). b && list_all (is_true_atom I nodes F) clause.atoms) breaks.instance.guards ∙ atoms_true I nodes F clause.atoms breaks.body;
      head = λ holds. breaks.head (head_true I nodes F clause.head holds);
    })

head_holds : (I : Interpretation) (nodes : List Node) (E : Environment) (head : Option AtomUse) → IsTrueHead I (option_map (ground nodes E) head) → HeadHolds I nodes E head
head_holds I nodes E None h = h
head_holds I nodes E (Some a) h = h

-- an assertion that is false is broken by an instance
broken_false : (I : Interpretation) (script : Script) (index : ℕ) (clause : HornClause) (a : Assertion) → IsArena script.terms.nodes → GivesTruth script.preds I
    → slice_get script.asserts index ≡ Some a → IsLegal script.preds script.terms.nodes [] BoolSort a.term.0 → IsClauseOf script index clause → (E : Environment)
    → HasValue I script.terms.nodes a.term.0 E (Truth false) → (values : List Value) × Breaks I script clause values
broken_false I script index clause a arena gives is legal told E has =
    let nodes = script.terms.nodes in
    let same : a ≡ told.assertion = same_assertion a told.assertion (slice_get script.asserts index) is told.there in
    let number = there_number (next_variable nodes a.term.0 0) legal.numbered in
    let b = breaker I script.preds nodes arena gives a.term [] (content_of clause) 0 number.0 E (parameters []) (Truth false) (ap (assertion_reading script) same ∙ told.reading) number.1 legal.scoped
    legal.sorted (at_root script.preds nodes E) has refl in
    let F = environment_of b.values in
    let within : AgreeBelow 0 E F = λ k less. absurd (omega (arith, less)) in
    let parts = both_true (list_all (is_met nodes F) clause.guards) (list_all (is_true_atom I nodes F) clause.atoms) (b.body F within (stand_all b.values)) in (
      b.values,
      record {
        instance = record { sorts = b.sorts; guards = parts.0 };
        body = atoms_hold I nodes F clause.atoms parts.1;
        head = λ holds. b.head F within (stand_all b.values) (head_holds I nodes F clause.head holds);
      },
    )

-- under definitions
module _ (script : Script) (definitions : List Definition) (index : ℕ) (a : Assertion) (clause : HornClause) (arena : IsArena script.terms.nodes) (is : slice_get script.asserts index ≡ Some a)
    (legal : IsLegal script.preds script.terms.nodes [] BoolSort a.term.0) (told : IsClauseOf script index clause) where
  pub broken_is_false : DefinesEach 0 script.preds definitions → AreFormulas script.preds definitions → (values : List Value) → Breaks (interpretation_of definitions) script clause values
      → (E : Environment) → HasValue (interpretation_of definitions) script.terms.nodes a.term.0 E (Truth false)
  broken_is_false defines formed values breaks E =
      false_broken (interpretation_of definitions) script index clause a arena (defined_truth 0 script.preds definitions defines formed) is legal told values breaks E

  -- it isn't both true and broken
  pub true_is_unbroken : DefinesEach 0 script.preds definitions → AreFormulas script.preds definitions
      → ((E : Environment) → HasValue (interpretation_of definitions) script.terms.nodes a.term.0 E (Truth true)) → (values : List Value)
      → Breaks (interpretation_of definitions) script clause values → ⊥
  true_is_unbroken defines formed holds values breaks =
      let E = environment_of [] in
      differ (one_value (interpretation_of definitions) script.terms.nodes a.term.0 E (Truth true) (Truth false) (holds E) (broken_is_false defines formed values breaks E))

  -- where it is true, and all body atoms of an instance are, its head is
  pub kept : DefinesEach 0 script.preds definitions → AreFormulas script.preds definitions
      → ((E : Environment) → HasValue (interpretation_of definitions) script.terms.nodes a.term.0 E (Truth true)) → (values : List Value) → IsInstance script clause values
      → AllByRecursion (IsTrueAtom (interpretation_of definitions)) (premises_of script clause values) → IsTrueHead (interpretation_of definitions) (conclusion_of script clause values)
  kept defines formed holds values instance body =
      let I = interpretation_of definitions in
      head_true I script.terms.nodes (environment_of values) clause.head (head_decided I script.terms.nodes (environment_of values) clause.head
      (λ no. true_is_unbroken defines formed holds values (record { instance = instance; body = body; head = no })))

  pub unbroken_is_true : DefinesEach 0 script.preds definitions → AreFormulas script.preds definitions → ((values : List Value) → Breaks (interpretation_of definitions) script clause values → ⊥)
      → (E : Environment) → HasValue (interpretation_of definitions) script.terms.nodes a.term.0 E (Truth true)
  unbroken_is_true defines formed unbreaking E =
      true_unbroken (interpretation_of definitions) script index clause a arena (defined_truth 0 script.preds definitions defines formed) is legal told unbreaking E

  pub false_is_broken : DefinesEach 0 script.preds definitions → AreFormulas script.preds definitions
      → ((E : Environment) → HasValue (interpretation_of definitions) script.terms.nodes a.term.0 E (Truth false))
      → (values : List Value) × Breaks (interpretation_of definitions) script clause values
  false_is_broken defines formed has =
      broken_false (interpretation_of definitions) script index clause a arena (defined_truth 0 script.preds definitions defines formed) is legal told (environment_of []) (has (environment_of []))
