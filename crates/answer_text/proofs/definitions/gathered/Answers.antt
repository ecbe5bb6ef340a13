use Rattle.std.proofs.Common.{◌≡◌, ◌++◌, ◌-◌, ℕ, List, [], ◌∷◌, map, reverse, take, sym, ap, ◌∙◌}
use Rattle.std.specs.Prelude.{Option, Some, None}
use Rattle.term_tree.specs.declared.definition.Definition.{Definition}
use Rattle.answer_text.specs.machinery.Places.{gathered}
use Rattle.answer_text.proofs.PlaceLemmas.{all_there, one_missing, append_one, from_the_back}
use Rattle.answer_text.proofs.definitions.gathered.Goals as goal

pub returns-in-Some-None : goal.returns-in-Some-None
returns-in-Some-None c =
    let new = c.pop.new.self.items in
    let rest = map Some (reverse c.loop-definition.definitions.items) in
    let is : c.loop-definition.places.items ≡ new ++ None ∷ [] = c.in-Some-None.ensures.items ∙ ap (λ (o : Option Definition). new ++ o ∷ []) c.in-Some-None.field-0-is in
    sym (one_missing new rest) ∙ ap gathered (sym (append_one new None rest)) ∙ ap (λ (xs : List (Option Definition)). gathered (xs ++ rest)) (sym is) ∙ c.loop-definition.invariant

pub returns-in-None : goal.returns-in-None
returns-in-None c =
    let places = c.loop-definition.places.items in
    let empty : places ≡ [] = c.in-None.ensures.items ∙ ap (λ (xs : List (Option Definition)). xs ++ []) (c.in-None.ensures.rest ∙ ap (λ (n : ℕ). take (n - 1) places) c.in-None.ensures.cases.0) in
    ap Some (c.from_vec.ensures ∙ c.reverse.ensures.items) ∙ sym (all_there (reverse c.loop-definition.definitions.items)) ∙ ap (λ (xs : List (Option Definition)). gathered (xs ++ map Some (reverse c.loop-definition.definitions.items))) (sym empty) ∙ c.loop-definition.invariant

pub loop-definition-preserved : goal.loop-definition-preserved
loop-definition-preserved c =
    let new = c.pop.new.self.items in
    let before = c.loop-definition.definitions.items in
    let definition = c.in-Some-Some.definition in
    let is : c.loop-definition.places.items ≡ new ++ Some definition ∷ [] = c.in-Some-Some.ensures.items ∙ ap (λ (o : Option Definition). new ++ o ∷ []) c.in-Some-Some.field-0-is in
    ap (λ (ds : List Definition). gathered (new ++ map Some (reverse ds))) c.in_ok-push-in-Some-Some.ensures.items ∙ ap gathered (sym (from_the_back new definition before))
    ∙ ap (λ (xs : List (Option Definition)). gathered (xs ++ map Some (reverse before))) (sym is) ∙ c.loop-definition.invariant
