-- What the script's clauses derive is derivable over its system, within the same height.
use Rattle.std.proofs.Common.{◌≡◌, ℕ, suc, ◌+◌, ◌≤◌, max, List, [], ◌∷◌, ◌++◌, length, map, fold, refl, ap, sym, ◌∙◌, subst, append_assoc, append-nil, arith, inl, inr}
use Rattle.std.specs.Prelude.{◌⊎◌, slice_get, slice_index_or, Option, Some, None, option_map}
use Rattle.std.proofs.lemmas.List.{get_or_append_left, get_or_at, length-append}
use Rattle.std.proofs.lemmas.Option.{slice_get_within}
use Rattle.term_tree.specs.declared.scalar.Value.{Value}
use Rattle.term_tree.specs.declared.script.Script.{Script}
use Rattle.term_tree.specs.Arena.{IsArena}
use Rattle.horn_shape.specs.declared.clause.HornClause.{HornClause}
use Rattle.horn_shape.specs.Clause.{IsClauseOf, IsLegalScript}
use Rattle.horn_shape.specs.Derivation.{IsDerivableWithin, IsDerivationAfter, IsStep, Step, concluded, height_over, heights_after, heights_of}
use Rattle.horn_shape.specs.Instance.{GroundAtom, IsInstance, conclusion_of, premises_of}
use Rattle.clause_form.specs.System.{Clauses}
use Rattle.clause_normal.specs.Normal.{normal_clause}
use Rattle.clause_laws.proofs.PointLemmas.{instance_extends, point_of, same_atoms, same_head}
use Rattle.book_rules.specs.Walks.{AllOf}
use Rattle.book_rules.specs.Instances.{Ground, InstanceOf, IsDerivable, instances}
use Rattle.book_rules.proofs.FrameLemmas.{derivable-higher}
use Rattle.cert_derivations.specs.Steps.{as_tuple}
use Rattle.cert_derivations.proofs.AtomLemmas.{body_tuples, head_tuple}
use Rattle.cert_derivations.proofs.LookUpLemmas.{get_last, some_is}
use Rattle.cert_derivations.proofs.SystemLemmas.{IsMadeOf, normal_there}

-- the greatest is at least where it begins
fold_least : (most : ℕ) (hs : List ℕ) → most ≤ fold max most hs
fold_least most [] = omega arith
fold_least most (h ∷ hs) = let rest = fold_least (max most h) hs in omega (arith, rest)

concluded_step : (found : Option Step) (atom : GroundAtom) → option_map (λ (s : Step). s.conclusion) found ≡ Some (Some atom) → (s : Step) × (found ≡ Some s) × (s.conclusion ≡ Some atom)
concluded_step None atom h = absurd (cc)
concluded_step (Some s) atom h = (s, refl, some_is s.conclusion (Some atom) h)

first_same : {X : Type 0} (x y : X) (xs ys : List X) → x ∷ xs ≡ y ∷ ys → (x ≡ y) × (xs ≡ ys)
first_same x y xs ys e = (cc, cc)

-- a derivation of two parts
derivation_parts : (script : Script) (earlier steps more : List Step) → IsDerivationAfter script earlier (steps ++ more) → IsDerivationAfter script earlier steps × IsDerivationAfter script (earlier ++ steps) more
derivation_parts script earlier [] more all = (tt, subst (λ (ss : List Step). IsDerivationAfter script ss more) (sym (append-nil earlier)) all)
derivation_parts script earlier (s ∷ steps) more all =
    let rest = derivation_parts script (earlier ++ s ∷ []) steps more all.1 in
    ((all.0, rest.0), subst (λ (ss : List Step). IsDerivationAfter script ss more) (append_assoc earlier (s ∷ []) steps) rest.1)

module _ (script : Script) (sys : Clauses) (made : IsMadeOf script sys) (arena : IsArena script.terms.nodes) (legal : IsLegalScript script) where
  -- an instance of the script is one of the system
  instance_of : (index : ℕ) (horn : HornClause) (values : List Value) → IsClauseOf script index horn → IsInstance script horn values
      → InstanceOf sys index (map as_tuple (premises_of script horn values)) (option_map as_tuple (conclusion_of script horn values))
  instance_of index horn values is instance =
      let point = point_of script index horn arena legal is values in
      let over = instance_extends script index horn arena legal is values instance in
      record {
        clause = normal_clause script horn;
        point = point;
        there = normal_there script sys made index horn is;
        instance = record { whole = over.each; guard = over.guard };
        has_body = body_tuples point (normal_clause script horn).atoms (premises_of script horn values) (same_atoms script index horn arena legal is values instance point over);
        has_head = head_tuple point (normal_clause script horn).head (conclusion_of script horn values) (same_head script index horn arena legal is values instance point over);
      }

  -- each of these steps concludes what is derivable within its height
  abbrev pub AreKnown : List Step → List ℕ → Type 0
  AreKnown steps heights = (k : ℕ) (s : Step) → slice_get steps k ≡ Some s → IsDerivable (instances sys) (slice_index_or heights k 0) (option_map as_tuple s.conclusion)

  body_derivable : (steps : List Step) (heights : List ℕ) → AreKnown steps heights → (bound most : ℕ) (premises : List ℕ) (atoms : List GroundAtom)
      → map (concluded steps) premises ≡ map (λ atom. Some (Some atom)) atoms → fold max most (map (λ k. slice_index_or heights k 0) premises) ≤ bound
      → AllOf (λ a. IsDerivable (instances sys) bound (Some a)) (map as_tuple atoms)
  body_derivable steps heights known bound most [] [] named within = tt
  body_derivable steps heights known bound most [] (atom ∷ atoms) named within = absurd (cc)
  body_derivable steps heights known bound most (p ∷ premises) [] named within = absurd (cc)
  body_derivable steps heights known bound most (p ∷ premises) (atom ∷ atoms) named within =
      let parts = first_same (concluded steps p) (Some (Some atom)) (map (concluded steps) premises) (map (λ (a : GroundAtom). Some (Some a)) atoms) named in
      let step = concluded_step (slice_get steps p) atom parts.0 in
      let here : IsDerivable (instances sys) (slice_index_or heights p 0) (Some (as_tuple atom)) =
      subst (λ (c : Option GroundAtom). IsDerivable (instances sys) (slice_index_or heights p 0) (option_map as_tuple c)) step.2 (known p step.0 step.1) in
      let least = fold_least (max most (slice_index_or heights p 0)) (map (λ k. slice_index_or heights k 0) premises) in (
        derivable-higher (instances sys) (slice_index_or heights p 0) bound (omega (arith, within, least)) (Some (as_tuple atom)) here,
        body_derivable steps heights known bound (max most (slice_index_or heights p 0)) premises atoms parts.1 within,
      )

  step_derivable : (steps : List Step) (heights : List ℕ) → AreKnown steps heights → (s : Step) → IsStep script steps s → IsDerivable (instances sys) (height_over heights s) (option_map as_tuple s.conclusion)
  step_derivable steps heights known s is =
      let bound : ℕ = fold max 0 (map (λ k. slice_index_or heights k 0) s.premises) in
      let body : List Ground = map as_tuple (premises_of script is.clause s.values) in
      let whole : IsDerivable (instances sys) (suc bound) (option_map as_tuple (conclusion_of script is.clause s.values)) = (
        s.assertion,
        body,
        instance_of s.assertion is.clause s.values is.clause_is is.instance,
        body_derivable steps heights known bound 0 s.premises (premises_of script is.clause s.values) is.premises (omega arith),
      ) in
      subst (λ (h : ℕ). IsDerivable (instances sys) h (option_map as_tuple s.conclusion)) (one_up bound)
      (subst (λ (c : Option GroundAtom). IsDerivable (instances sys) (suc bound) (option_map as_tuple c)) (sym is.conclusion) whole)
    where
      one_up : (k : ℕ) → suc k ≡ 1 + k
      one_up k = omega arith

  known_more : (steps : List Step) (heights : List ℕ) (s : Step) (h : ℕ) → length heights ≡ length steps → AreKnown steps heights → IsDerivable (instances sys) h (option_map as_tuple s.conclusion)
      → AreKnown (steps ++ s ∷ []) (heights ++ h ∷ [])
  known_more steps heights s h long known new k t at = by_place (get_last steps s k t at)
    where
      by_place : (slice_get steps k ≡ Some t) ⊎ ((k ≡ length steps) × (s ≡ t)) → IsDerivable (instances sys) (slice_index_or (heights ++ h ∷ []) k 0) (option_map as_tuple t.conclusion)
      by_place (inl before) =
          let less = slice_get_within steps k t before in
          subst (λ (n : ℕ). IsDerivable (instances sys) n (option_map as_tuple t.conclusion)) (sym (get_or_append_left heights (h ∷ []) 0 k (omega (arith, less, long)))) (known k t before)
      by_place (inr last) =
          subst (λ (n : ℕ). IsDerivable (instances sys) n (option_map as_tuple t.conclusion)) (sym (get_or_at heights h [] 0 k (long ∙ sym last.0)))
          (subst (λ (u : Step). IsDerivable (instances sys) h (option_map as_tuple u.conclusion)) last.1 new)

  all_known : (earlier : List Step) (heights : List ℕ) (steps : List Step) → length heights ≡ length earlier → AreKnown earlier heights → IsDerivationAfter script earlier steps
      → AreKnown (earlier ++ steps) (heights_after heights steps)
  all_known earlier heights [] long known all = subst (λ (ss : List Step). AreKnown ss heights) (sym (append-nil earlier)) known
  all_known earlier heights (s ∷ steps) long known all =
      let height : ℕ = height_over heights s in
      let longer : length (heights ++ height ∷ []) ≡ length (earlier ++ s ∷ []) = length-append heights (height ∷ []) ∙ ap (λ (k : ℕ). k + 1) long ∙ sym (length-append earlier (s ∷ [])) in
      subst (λ (ss : List Step). AreKnown ss (heights_after (heights ++ height ∷ []) steps)) (append_assoc earlier (s ∷ []) steps)
      (all_known (earlier ++ s ∷ []) (heights ++ height ∷ []) steps longer (known_more earlier heights s height long known (step_derivable earlier heights known s all.0)) all.1)

  none_known : AreKnown [] []
  none_known k s at = absurd (cc)

  pub derivable_over_system : (h : ℕ) (conclusion : Option GroundAtom) → IsDerivableWithin script h conclusion → IsDerivable (instances sys) h (option_map as_tuple conclusion)
  derivable_over_system h conclusion d =
      let parts = derivation_parts script [] d.steps (d.last ∷ []) d.derivation in
      let known = all_known [] [] d.steps refl none_known parts.0 in
      derivable-higher (instances sys) (height_over (heights_of d.steps) d.last) h d.within (option_map as_tuple conclusion)
      (subst (λ (c : Option GroundAtom). IsDerivable (instances sys) (height_over (heights_of d.steps) d.last) (option_map as_tuple c)) d.concludes
      (step_derivable d.steps (heights_of d.steps) known d.last parts.1.0))
