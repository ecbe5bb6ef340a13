-- Recorded facts, as steps, are a derivation by the script.
use Rattle.std.proofs.Common.{◌≡◌, ℕ, ◌+◌, List, [], ◌∷◌, ◌++◌, length, map, take, refl, ap, sym, ◌∙◌, subst, append_assoc, append-nil, inl, inr}
use Rattle.std.specs.Prelude.{ℤ, ◌⊎◌, slice_get, Option, Some, option_map, filter_map}
use Rattle.std.specs.List.{All, Contains, cons_option}
use Rattle.std.proofs.lemmas.List.{length-append, take_at}
use Rattle.std.proofs.lemmas.List.Elements.{All-head, All-tail}
use Rattle.term_tree.specs.declared.sort.Sort.{Sort}
use Rattle.term_tree.specs.declared.scalar.Value.{Value}
use Rattle.term_tree.specs.declared.script.Script.{Script}
use Rattle.term_tree.specs.Arena.{IsArena}
use Rattle.term_tree.specs.Truth.{HaveSorts, as_values}
use Rattle.horn_shape.specs.declared.clause.HornClause.{HornClause}
use Rattle.horn_shape.specs.Clause.{IsClauseOf, IsLegalScript}
use Rattle.horn_shape.specs.Derivation.{IsDerivation, IsDerivationAfter, IsStep, Step, concluded}
use Rattle.horn_shape.specs.Instance.{GroundAtom, IsInstance, conclusion_of, premises_of}
use Rattle.clause_form.specs.System.{Clauses}
use Rattle.clause_form.specs.declared.clause.Clause.{Clause}
use Rattle.clause_normal.specs.Normal.{normal_clause}
use Rattle.clause_laws.specs.Point.{IsPointOver, numbers}
use Rattle.clause_laws.proofs.PointLemmas.{point_is_instance, same_atoms, same_head}
use Rattle.book_rules.specs.Instances.{Ground, IsInstance as IsPoint, body_at, head_at}
use Rattle.book_rules.specs.Kept.{AreRecorded}
use Rattle.book_rules.specs.State.{Fact}
use Rattle.cert_derivations.specs.Steps.{AreBehind, AreClosed, as_atom, as_tuple, own_sorts, place_among, script_step, script_steps}
use Rattle.cert_derivations.proofs.AtomLemmas.{atoms_back, body_tuples, conclusion_sorted, head_back, head_tuple, premises_sorted}
use Rattle.cert_derivations.proofs.FactLemmas.{AreNamed, all_named, recorded_at}
use Rattle.cert_derivations.proofs.LookUpLemmas.{get_end, get_last, get_more, place_found, some_is}
use Rattle.cert_derivations.proofs.SystemLemmas.{IsMadeOf, IsNormalAt, normal_at}
use Rattle.cert_derivations.proofs.ValueLemmas.{values_back, values_front}

-- the fact's instance is one of the script, with the same atoms
pub record IsOfScript (script : Script) (sys : Clauses) (f : Fact) (body : List Ground) : Type 0 where
  pub horn : HornClause
  pub is : IsClauseOf script f.clause horn
  pub instance : IsInstance script horn (as_values (own_sorts (slice_get sys.clauses f.clause)) f.point)
  pub premises : map (as_atom sys) body ≡ premises_of script horn (as_values (own_sorts (slice_get sys.clauses f.clause)) f.point)
  pub conclusion : option_map (as_atom sys) f.conclusion ≡ conclusion_of script horn (as_values (own_sorts (slice_get sys.clauses f.clause)) f.point)

module _ (script : Script) (sys : Clauses) (made : IsMadeOf script sys) (arena : IsArena script.terms.nodes) (legal : IsLegalScript script) where
  -- at the values that the point has
  values_are : (f : Fact) (horn : HornClause) (values : List Value) → slice_get sys.clauses f.clause ≡ Some (normal_clause script horn) → HaveSorts horn.vars values → numbers values ≡ take (length horn.vars) f.point
      → as_values (own_sorts (slice_get sys.clauses f.clause)) f.point ≡ values
  values_are f horn values there have same =
      ap (λ (found : Option Clause). as_values (own_sorts found) f.point) there
      ∙ ap (λ (sorts : List Sort). as_values sorts f.point) (take_at horn.vars _ (length horn.vars) refl)
      ∙ values_front horn.vars f.point ∙ ap (as_values horn.vars) (sym same) ∙ values_back horn.vars values have

  pub of_script : (f : Fact) (clause : Clause) → slice_get sys.clauses f.clause ≡ Some clause → IsPoint clause f.point → head_at f.point clause ≡ f.conclusion → IsOfScript script sys f (body_at f.point clause)
  of_script f clause there point head = at_horn (normal_at script sys made f.clause clause there)
    where
      at_horn : IsNormalAt script f.clause clause → IsOfScript script sys f (body_at f.point clause)
      at_horn normal =
          let horn = normal.horn in
          let is = normal.is in
          let own : List ℤ = take (length horn.vars) f.point in
          let at : IsPoint (normal_clause script horn) f.point = subst (λ (c : Clause). IsPoint c f.point) (sym normal.same) point in
          let over : IsPointOver (normal_clause script horn) own f.point = record { front = refl; each = at.whole; guard = at.guard } in
          let instance = point_is_instance script f.clause horn arena legal is own f.point over in
          let values = values_are f horn instance.values (there ∙ ap (λ (c : Clause). Some c) (sym normal.same)) instance.instance.sorts instance.same in
          let here : IsPointOver (normal_clause script horn) (numbers instance.values) f.point = subst (λ (xs : List ℤ). IsPointOver (normal_clause script horn) xs f.point) (sym instance.same) over in
          let body : body_at f.point clause ≡ map as_tuple (premises_of script horn instance.values) =
          ap (body_at f.point) (sym normal.same) ∙ body_tuples f.point (normal_clause script horn).atoms (premises_of script horn instance.values) (same_atoms script f.clause horn arena legal is instance.values instance.instance f.point here) in
          let concludes : f.conclusion ≡ option_map as_tuple (conclusion_of script horn instance.values) =
          sym head ∙ ap (head_at f.point) (sym normal.same) ∙ head_tuple f.point (normal_clause script horn).head (conclusion_of script horn instance.values) (same_head script f.clause horn arena legal is instance.values instance.instance f.point here) in
          record {
            horn = horn;
            is = is;
            instance = subst (IsInstance script horn) (sym values) instance.instance;
            premises = ap (map (as_atom sys)) body ∙ atoms_back script sys made (premises_of script horn instance.values) (premises_sorted script f.clause horn arena legal is instance.values instance.instance.sorts)
                ∙ ap (premises_of script horn) (sym values);
            conclusion = ap (option_map (as_atom sys)) concludes ∙ head_back script sys made (conclusion_of script horn instance.values) (conclusion_sorted script f.clause horn arena legal is instance.values instance.instance.sorts)
                ∙ ap (conclusion_of script horn) (sym values);
          }

-- the steps of some numbers, among others

abbrev pub steps_among : Clauses → List Fact → List ℕ → List ℕ → List Step
steps_among sys facts among numbers = filter_map (λ n. option_map (script_step sys among) (slice_get facts n)) numbers

pub step_first : (sys : Clauses) (facts : List Fact) (among : List ℕ) (n : ℕ) (f : Fact) (rest : List ℕ) → slice_get facts n ≡ Some f
    → steps_among sys facts among (n ∷ rest) ≡ script_step sys among f ∷ steps_among sys facts among rest
step_first sys facts among n f rest there = ap (λ (found : Option Fact). cons_option (option_map (script_step sys among) found) (steps_among sys facts among rest)) there

-- these steps are those of these numbers
pub record AreSteps (sys : Clauses) (facts : List Fact) (among before : List ℕ) (earlier : List Step) : Type 0 where
  pub long : length earlier ≡ length before
  pub each : (i n : ℕ) (f : Fact) → slice_get before i ≡ Some n → slice_get facts n ≡ Some f → slice_get earlier i ≡ Some (script_step sys among f)

no_steps : (sys : Clauses) (facts : List Fact) (among : List ℕ) → AreSteps sys facts among [] []
no_steps sys facts among = record { long = refl; each = none }
  where
    none : (i n : ℕ) (f : Fact) → slice_get {X = ℕ} [] i ≡ Some n → slice_get facts n ≡ Some f → slice_get {X = Step} [] i ≡ Some (script_step sys among f)
    none i n f at there = absurd (cc)

more_steps : (sys : Clauses) (facts : List Fact) (among before : List ℕ) (earlier : List Step) (n : ℕ) (f : Fact) → slice_get facts n ≡ Some f → AreSteps sys facts among before earlier
    → AreSteps sys facts among (before ++ n ∷ []) (earlier ++ script_step sys among f ∷ [])
more_steps sys facts among before earlier n f there are = record {
  long = length-append earlier (script_step sys among f ∷ []) ∙ ap (λ (k : ℕ). k + 1) are.long ∙ sym (length-append before (n ∷ []));
  each = λ i m g at is. by_place i m g is (get_last before n i m at);
}
  where
    by_place : (i m : ℕ) (g : Fact) → slice_get facts m ≡ Some g → (slice_get before i ≡ Some m) ⊎ ((i ≡ length before) × (n ≡ m))
        → slice_get (earlier ++ script_step sys among f ∷ []) i ≡ Some (script_step sys among g)
    by_place i m g is (inl at) = get_more earlier (script_step sys among f ∷ []) i (script_step sys among g) (are.each i m g at is)
    by_place i m g is (inr last) =
        get_end earlier (script_step sys among f) i (last.0 ∙ sym are.long)
        ∙ ap (λ (h : Fact). Some (script_step sys among h)) (some_is f g (sym there ∙ ap (slice_get facts) last.1 ∙ is))

-- what earlier steps conclude
named_concluded : (sys : Clauses) (facts first : List Fact) (before more : List ℕ) (earlier : List Step) → AreSteps sys facts (before ++ more) before earlier → (premises : List ℕ) (body : List Ground)
    → All (Contains before) premises → AreNamed first facts premises body
    → map (concluded earlier) (map (place_among (before ++ more)) premises) ≡ map (λ atom. Some (Some atom)) (map (as_atom sys) body)
named_concluded sys facts first before more earlier are [] [] within all = refl
named_concluded sys facts first before more earlier are [] (a ∷ body) within all = absurd all
named_concluded sys facts first before more earlier are (p ∷ premises) [] within all = absurd all
named_concluded sys facts first before more earlier are (p ∷ premises) (a ∷ body) within all =
    let place = place_found before more p (All-head (Contains before) p premises within) in
    let found = are.each (place_among (before ++ more) p) p all.0.fact place all.0.there in
    let here : concluded earlier (place_among (before ++ more) p) ≡ Some (Some (as_atom sys a)) =
    ap (option_map (λ (s : Step). s.conclusion)) found ∙ ap (λ (c : Option Ground). Some (option_map (as_atom sys) c)) all.0.concludes in
    ap (λ (x : Option (Option GroundAtom)). x ∷ map (concluded earlier) (map (place_among (before ++ more)) premises)) here
    ∙ ap (λ (xs : List (Option (Option GroundAtom))). Some (Some (as_atom sys a)) ∷ xs) (named_concluded sys facts first before more earlier are premises body (All-tail (Contains before) p premises within) all.1)

module _ (script : Script) (sys : Clauses) (made : IsMadeOf script sys) (arena : IsArena script.terms.nodes) (legal : IsLegalScript script) (facts : List Fact) (recorded : AreRecorded sys [] facts) where
  fact_step : (before more : List ℕ) (earlier : List Step) (n : ℕ) (f : Fact) → AreSteps sys facts (before ++ more) before earlier → slice_get facts n ≡ Some f → All (Contains before) f.premises
      → IsStep script earlier (script_step sys (before ++ more) f)
  fact_step before more earlier n f are there within =
      let known = recorded_at sys facts n f recorded there in
      let body : List Ground = body_at f.point known.clause in
      let of = of_script script sys made arena legal f known.clause known.there known.instance known.head in
      record {
        clause = of.horn;
        clause_is = of.is;
        instance = of.instance;
        premises = named_concluded sys facts (take n facts) before more earlier are f.premises body within (all_named facts n f.premises body known.premises)
            ∙ ap (map (λ (atom : GroundAtom). Some (Some atom))) of.premises;
        conclusion = of.conclusion;
      }

  behind_derivation : (among before rest : List ℕ) (earlier : List Step) → among ≡ before ++ rest → AreSteps sys facts among before earlier → AreBehind facts before rest
      → IsDerivationAfter script earlier (steps_among sys facts among rest)
  behind_derivation among before [] earlier whole are behind = tt
  behind_derivation among before (n ∷ rest) earlier whole are behind =
      let f = behind.0.fact in
      let there = behind.0.there in
      let step : IsStep script earlier (script_step sys among f) =
      subst (λ (xs : List ℕ). IsStep script earlier (script_step sys xs f)) (sym whole)
      (fact_step before (n ∷ rest) earlier n f (subst (λ (xs : List ℕ). AreSteps sys facts xs before earlier) whole are) there behind.0.premises) in
      subst (IsDerivationAfter script earlier) (sym (step_first sys facts among n f rest there)) (
        step,
        behind_derivation among (before ++ n ∷ []) rest (earlier ++ script_step sys among f ∷ []) (whole ∙ sym (append_assoc before (n ∷ []) rest))
            (more_steps sys facts among before earlier n f there are) behind.1,
      )

  pub facts_derive : (among : List ℕ) → AreClosed facts among → IsDerivation script (script_steps sys facts among)
  facts_derive among closed = behind_derivation among [] among [] refl (no_steps sys facts among) closed

-- the steps are those of the numbers
steps_behind : (sys : Clauses) (facts : List Fact) (among before rest : List ℕ) (earlier : List Step) → AreSteps sys facts among before earlier → AreBehind facts before rest
    → AreSteps sys facts among (before ++ rest) (earlier ++ steps_among sys facts among rest)
steps_behind sys facts among before [] earlier are behind =
    subst (λ (xs : List ℕ). AreSteps sys facts among xs (earlier ++ [])) (sym (append-nil before)) (subst (AreSteps sys facts among before) (sym (append-nil earlier)) are)
steps_behind sys facts among before (n ∷ rest) earlier are behind =
    let f = behind.0.fact in
    let there = behind.0.there in
    let later = steps_behind sys facts among (before ++ n ∷ []) rest (earlier ++ script_step sys among f ∷ []) (more_steps sys facts among before earlier n f there are) behind.1 in
    subst (λ (ss : List Step). AreSteps sys facts among (before ++ n ∷ rest) (earlier ++ ss)) (sym (step_first sys facts among n f rest there))
    (subst (AreSteps sys facts among (before ++ n ∷ rest)) (append_assoc earlier (script_step sys among f ∷ []) (steps_among sys facts among rest))
    (subst (λ (xs : List ℕ). AreSteps sys facts among xs ((earlier ++ script_step sys among f ∷ []) ++ steps_among sys facts among rest)) (append_assoc before (n ∷ []) rest) later))

pub all_steps : (sys : Clauses) (facts : List Fact) (among : List ℕ) → AreClosed facts among → AreSteps sys facts among among (script_steps sys facts among)
all_steps sys facts among closed = steps_behind sys facts among [] among [] (no_steps sys facts among) closed
