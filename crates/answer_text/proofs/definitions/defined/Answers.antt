use Rattle.std.proofs.Common.{◌≡◌, true, List, map, refl, sym, ap, ◌∙◌}
use Rattle.std.specs.Prelude.{Ok}
use Rattle.term_tree.specs.declared.sort.Sort.{Sort}
use Rattle.term_tree.specs.declared.sort.Sort.TheVariants.{Bool as BoolSort}
use Rattle.term_tree.specs.declared.script.Name.{Name}
use Rattle.term_check.specs.Formula.{spelled_formula}
use Rattle.term_check.specs.Spelling.{sorts_of}
use Rattle.answer_text.specs.Reading.{names_sort, read_parameters}
use Rattle.answer_text.proofs.DefinitionLemmas.{defined_is}
use Rattle.answer_text.proofs.definitions.defined.Goals as goal

pub returns-in-Ok-clause-told : goal.returns-in-Ok-clause-told
returns-in-Ok-clause-told c =
    let ps = c.in_ok-params.params in
    let made = c.in-Ok.ensures.formula in
    let text = c.args.text.now in
    let params : read_parameters text (sorts_of c.args.declared.now c.args.number) c.args.params.now ≡ Ok ps = ap (λ (sorts : List Sort). read_parameters text sorts c.args.params.now) (sym c.sorts_of.ensures) ∙ c.in_ok-params.ensures.params in
    let sort : names_sort text c.args.sort.now BoolSort ≡ true = sym c.has_sort.ensures ∙ c.if-not-has_sort.false in
    let body : spelled_formula text ps c.args.term.now ≡ Ok made.0 = ap (λ (qs : List (Name × Sort)). spelled_formula text qs c.args.term.now) (sym c.as_slice.ensures) ∙ made.1 in (
      record { pred = c.args.number; params = ps; body = made.0 },
      defined_is text c.args.declared.now c.args.number c.args.params.now c.args.sort.now c.args.term.now ps made.0 params sort body,
      record { pred = refl; params = c.in_ok-params-in-Ok.ensures ∙ ap (λ (qs : List (Name × Sort)). map (λ p. p.0) qs) c.as_slice-in-Ok.ensures; arena = c.arena_law.ensures.arena; term = made.2 },
    )
