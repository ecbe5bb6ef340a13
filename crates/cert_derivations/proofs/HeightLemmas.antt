-- The heights of the steps are those of their facts.
use Rattle.std.proofs.Common.{◌≡◌, ℕ, suc, ◌+◌, max, List, [], ◌∷◌, ◌++◌, map, take, fold, refl, ap, sym, ◌∙◌, subst, append_assoc, append-nil, arith}
use Rattle.std.specs.Prelude.{slice_get, slice_index_or, Some, option_map}
use Rattle.std.specs.List.{All, Contains, range_with_len}
use Rattle.std.proofs.lemmas.List.{map-append}
use Rattle.std.proofs.lemmas.List.Elements.{All-head, All-tail, filter_map-append}
use Rattle.std.proofs.lemmas.Option.{get_or_from_slice_get, slice_get-map, slice_get_within}
use Rattle.term_tree.specs.declared.script.Script.{Script}
use Rattle.term_tree.specs.Arena.{IsArena}
use Rattle.horn_shape.specs.Clause.{IsLegalScript}
use Rattle.horn_shape.specs.Derivation.{IsDerivableWithin, IsDerivation, Step, height_over, heights_after, heights_of}
use Rattle.clause_form.specs.System.{Clauses}
use Rattle.book_rules.specs.Effects.{greatest_height, height_at}
use Rattle.book_rules.specs.Instances.{Ground, body_at}
use Rattle.book_rules.specs.Kept.{AreRecorded}
use Rattle.book_rules.specs.State.{Fact}
use Rattle.cert_derivations.specs.Steps.{AreBehind, AreClosed, IsBehind, as_atom, place_among, script_step, script_steps}
use Rattle.cert_derivations.proofs.FactLemmas.{AreNamed, all_named, first_behind, range_more, recorded_at}
use Rattle.cert_derivations.proofs.LookUpLemmas.{place_found, some_is}
use Rattle.cert_derivations.proofs.StepLemmas.{facts_derive, step_first, steps_among}
use Rattle.cert_derivations.proofs.SystemLemmas.{IsMadeOf}

-- the height of the fact of a number
abbrev pub kept_height : List Fact → ℕ → ℕ
kept_height facts n = height_at (slice_get facts n)

one_up : (k : ℕ) → 1 + k ≡ suc k
one_up k = omega arith

-- the greatest height of the premises
greatest_is : (facts first : List Fact) (before more : List ℕ) (most : ℕ) (premises : List ℕ) (body : List Ground) → All (Contains before) premises → AreNamed first facts premises body
    → fold max most (map (λ k. slice_index_or (map (kept_height facts) before) k 0) (map (place_among (before ++ more)) premises)) ≡ max most (greatest_height first premises)
greatest_is facts first before more most [] [] within all = omega arith
greatest_is facts first before more most [] (a ∷ body) within all = absurd all
greatest_is facts first before more most (p ∷ premises) [] within all = absurd all
greatest_is facts first before more most (p ∷ premises) (a ∷ body) within all =
    let place = place_found before more p (All-head (Contains before) p premises within) in
    let here : slice_index_or (map (kept_height facts) before) (place_among (before ++ more) p) 0 ≡ height_at (slice_get first p) =
    get_or_from_slice_get (map (kept_height facts) before) (place_among (before ++ more) p) (kept_height facts p) 0
    (slice_get-map (kept_height facts) before (place_among (before ++ more) p) ∙ ap (option_map (kept_height facts)) place)
    ∙ ap height_at (all.0.there ∙ sym all.0.first) in
    ap (λ (h : ℕ). fold max (max most h) (map (λ k. slice_index_or (map (kept_height facts) before) k 0) (map (place_among (before ++ more)) premises))) here
    ∙ greatest_is facts first before more (max most (height_at (slice_get first p))) premises body (All-tail (Contains before) p premises within) all.1
    ∙ grouped most (height_at (slice_get first p)) (greatest_height first premises)
  where
    grouped : (a b c : ℕ) → max (max a b) c ≡ max a (max b c)
    grouped a b c = omega arith

-- a closed list without its last number
behind_parts : (facts : List Fact) (earlier before : List ℕ) (n : ℕ) → AreBehind facts earlier (before ++ n ∷ []) → AreBehind facts earlier before × IsBehind facts (earlier ++ before) n
behind_parts facts earlier [] n all = (tt, subst (λ (xs : List ℕ). IsBehind facts xs n) (sym (append-nil earlier)) all.0)
behind_parts facts earlier (k ∷ before) n all =
    let rest = behind_parts facts (earlier ++ k ∷ []) before n all.1 in
    ((all.0, rest.0), subst (λ (xs : List ℕ). IsBehind facts xs n) (append_assoc earlier (k ∷ []) before) rest.1)

module _ (sys : Clauses) (facts : List Fact) (recorded : AreRecorded sys [] facts) where
  height_here : (before more : List ℕ) (n : ℕ) (f : Fact) → slice_get facts n ≡ Some f → All (Contains before) f.premises
      → height_over (map (kept_height facts) before) (script_step sys (before ++ more) f) ≡ kept_height facts n
  height_here before more n f there within =
      let known = recorded_at sys facts n f recorded there in
      let body : List Ground = body_at f.point known.clause in
      ap (λ (k : ℕ). 1 + k) (greatest_is facts (take n facts) before more 0 f.premises body within (all_named facts n f.premises body known.premises))
      ∙ from_none (greatest_height (take n facts) f.premises) ∙ sym known.height ∙ ap height_at (sym there)
    where
      from_none : (k : ℕ) → 1 + max 0 k ≡ suc k
      from_none k = omega arith

  heights_go : (among before rest more : List ℕ) → among ≡ before ++ (rest ++ more) → AreBehind facts before rest
      → heights_after (map (kept_height facts) before) (steps_among sys facts among rest) ≡ map (kept_height facts) (before ++ rest)
  heights_go among before [] more whole behind = ap (map (kept_height facts)) (sym (append-nil before))
  heights_go among before (n ∷ rest) more whole behind =
      let f = behind.0.fact in
      let there = behind.0.there in
      let here : height_over (map (kept_height facts) before) (script_step sys among f) ≡ kept_height facts n =
      ap (λ (xs : List ℕ). height_over (map (kept_height facts) before) (script_step sys xs f)) whole ∙ height_here before (n ∷ (rest ++ more)) n f there behind.0.premises in
      ap (heights_after (map (kept_height facts) before)) (step_first sys facts among n f rest there)
      ∙ ap (λ (h : ℕ). heights_after (map (kept_height facts) before ++ h ∷ []) (steps_among sys facts among rest)) here
      ∙ ap (λ (hs : List ℕ). heights_after hs (steps_among sys facts among rest)) (sym (map-append (kept_height facts) before (n ∷ [])))
      ∙ heights_go among (before ++ n ∷ []) rest more (whole ∙ sym (append_assoc before (n ∷ []) (rest ++ more))) behind.1
      ∙ ap (map (kept_height facts)) (append_assoc before (n ∷ []) rest)

  pub heights_are : (among : List ℕ) → AreClosed facts among → heights_of (script_steps sys facts among) ≡ map (kept_height facts) among
  heights_are among closed = heights_go among [] among [] (sym (append-nil among)) closed

  -- the last step, which is that of the last fact, and its height
  pub last_step : (before : List ℕ) (n : ℕ) (f : Fact) → AreClosed facts (before ++ n ∷ []) → slice_get facts n ≡ Some f
      → (steps : List Step) × (script_steps sys facts (before ++ n ∷ []) ≡ steps ++ script_step sys (before ++ n ∷ []) f ∷ [])
      × (height_over (heights_of steps) (script_step sys (before ++ n ∷ []) f) ≡ f.height)
  last_step before n f closed there =
      let among : List ℕ = before ++ n ∷ [] in
      let parts = behind_parts facts [] before n closed in
      let same = some_is parts.1.fact f (sym parts.1.there ∙ there) in
      let within : All (Contains before) f.premises = subst (λ (g : Fact). All (Contains before) g.premises) same parts.1.premises in
      let heights : heights_of (steps_among sys facts among before) ≡ map (kept_height facts) before = heights_go among [] before (n ∷ []) refl parts.0 in (
        steps_among sys facts among before,
        filter_map-append (λ k. option_map (script_step sys among) (slice_get facts k)) before (n ∷ [])
            ∙ ap (λ (ss : List Step). steps_among sys facts among before ++ ss) (step_first sys facts among n f [] there),
        ap (λ (hs : List ℕ). height_over hs (script_step sys among f)) heights ∙ height_here before (n ∷ []) n f there within ∙ ap height_at there,
      )

-- each recorded fact is derivable by the script
module _ (script : Script) (sys : Clauses) (made : IsMadeOf script sys) (arena : IsArena script.terms.nodes) (legal : IsLegalScript script) (facts : List Fact) (recorded : AreRecorded sys [] facts) where
  pub fact_derivable : (n : ℕ) (f : Fact) → slice_get facts n ≡ Some f → IsDerivableWithin script f.height (option_map (as_atom sys) f.conclusion)
  fact_derivable n f there =
      let less = slice_get_within facts n f there in
      let before : List ℕ = range_with_len 0 n in
      let closed : AreClosed facts (before ++ n ∷ []) = subst (AreClosed facts) (range_more n) (first_behind sys facts 0 (suc n) recorded (omega (arith, less))) in
      let last = last_step sys facts recorded before n f closed there in
      record {
        steps = last.0;
        last = script_step sys (before ++ n ∷ []) f;
        derivation = subst (IsDerivation script) last.1 (facts_derive script sys made arena legal facts recorded (before ++ n ∷ []) closed);
        concludes = refl;
        within = (let same = last.2 in omega (arith, same));
      }
