use Rattle.std.proofs.Common.{◌≡◌, ◌<◌, ◌^◌, ℕ, inl, inr, length, refl, ap, sym, ◌∙◌, subst, arith}
use Rattle.std.proofs.lemmas.Bool.{cases_lt}
use Rattle.std.proofs.lemmas.Option.{slice_get_read, slice_get_within}
use Rattle.std.specs.Prelude.{slice_get, Some}
use Rattle.term_tree.specs.declared.definition.Definition.{Definition}
use Rattle.clause_normal.specs.machinery.Making.{HasFewArguments}
use Rattle.chc_checker.proofs.counting.count_all.Goals as goal

same_definition : (a b : Definition) → Some a ≡ Some b → a ≡ b
same_definition a b e = cc

pub loop-definition-preserved : goal.loop-definition-preserved
loop-definition-preserved c = λ i d less at. elim (cases_lt i c.loop-definition.definition-index) [
  | inl before ↦ c.loop-definition.invariant i d before at
  | inr past ↦
      let definitions = c.args.definitions.now in
      let index : ℕ = c.loop-definition.definition-index in
      let item = c.definition-item.result in
      let here : slice_get definitions index ≡ Some item = slice_get_read definitions (length definitions) index item refl c.loop-definition-test.true c.definition-item.is in
      let same : index ≡ i = omega (arith, less, past) in
      subst (λ (e : Definition). HasFewArguments e.terms.nodes × (e.body.0 < 2 ^ 32)) (same_definition item d (sym here ∙ ap (slice_get definitions) same ∙ at)) (c.count_definition.ensures.terms, c.count_definition.ensures.number)
]

pub returns : goal.returns
returns c = record {
  asserted = c.count_arguments.ensures;
  defined = λ i d at.
      let within = slice_get_within c.args.definitions.now i d at in
      let past = c.loop-definition-test.false in
      c.loop-definition.invariant i d (omega (arith, within, past)) at;
}
