use Rattle.std.proofs.Common.{rules, ◌≡◌, ◌++◌, [], ◌∷◌, map, ap, ◌∙◌}
use Rattle.std.proofs.lemmas.List.{take_all}
use Rattle.term_tree.specs.declared.node.TermId.{TermId}
use Rattle.term_tree.specs.machinery.Known.{known_worth}
use Rattle.term_tree.proofs.EvaluationLemmas.{mapped_more}
use Rattle.term_tree.proofs.evaluation.all_looked_up.Goals as goal

pub loop-id-preserved : goal.loop-id-preserved
loop-id-preserved c =
    let pushed : c.push.new.self.items ≡ c.loop-id.values.items ++ c.looked_up.result ∷ [] = search rules in
    mapped_more (λ (id : TermId). known_worth c.args.known.now id.0) c.args.ids.now c.loop-id.id-index _ c.loop-id.values.items c.push.new.self.items c.looked_up.result c.loop-id-test.true
    c.loop-id.invariant c.looked_up.ensures pushed

pub returns : goal.returns
returns c = c.loop-id.invariant ∙ ap (map (λ (id : TermId). known_worth c.args.known.now id.0)) (take_all c.loop-id.id-index c.args.ids.now c.loop-id-test.false)
