use Rattle.std.proofs.Common.{ap, sym, ◌∙◌}
use Rattle.std.specs.Prelude.{Option}
use Rattle.book_rules.specs.Instances.{Ground}
use Rattle.book_rules.specs.State.{Fact, same_conclusion}
use Rattle.book_rules.specs.Walks.{first_number}
use Rattle.step_rules.specs.Views.{facts_of}
use Rattle.step_rules.proofs.FactLemmas.{false-is}
use Rattle.step_rules.proofs.recording.recorded.Goals as goal

pub returns-in-Some : goal.returns-in-Some
returns-in-Some c = c.fact_of.ensures ∙ ap (λ (g : Option Ground). first_number (λ (f : Fact). same_conclusion f.conclusion g) (facts_of c.args.facts.now)) (sym c.in-Some.is)

pub returns-in-None : goal.returns-in-None
returns-in-None c = false-is c.args.facts.now _ c.false_of.ensures ∙ ap (λ (g : Option Ground). first_number (λ (f : Fact). same_conclusion f.conclusion g) (facts_of c.args.facts.now)) (sym c.in-None.is)
