use Rattle.std.proofs.Common.{List, ap, ◌∙◌}
use Rattle.std.specs.Prelude.{Option, option_map}
use Rattle.lin_atoms.specs.declared.lit.Lit.{Lit}
use Rattle.clause_form.specs.declared.atom.Atom.{Atom}
use Rattle.book_rules.specs.declared.by.By.TheVariants.{Fact}
use Rattle.book_rules.specs.Walks.{first_number, on}
use Rattle.step_rules.specs.Standing.{Standing}
use Rattle.step_rules.specs.Views.{facts_of}
use Rattle.step_rules.specs.machinery.Walks.{lies_in}
use Rattle.step_rules.proofs.open_step.rules.open_rule_6_no_fact_lies_in_cube.Goals as goal

pub returns-in-Some-fact_in : goal.returns-in-Some-fact_in
returns-in-Some-fact_in c =
    let step = c.args.step.now in
    let pred = c.in-Some.atom.now.pred in
    ap (option_map Fact)
    (c.in-Some-fact_in.ensures ∙ ap (λ (cube : List Lit). first_number (lies_in pred cube) (facts_of c.parts.inside.facts.now)) c.lits.ensures.is
    ∙ ap (λ (s : Standing). first_number (lies_in pred step.cube) (facts_of s.facts)) c.parts.view_is)
    ∙ ap (λ (found : Option Atom). on found (λ (atom : Atom). option_map Fact (first_number (lies_in atom.pred step.cube) (facts_of c.args.parts.now.facts)))) c.in-Some.ensures
