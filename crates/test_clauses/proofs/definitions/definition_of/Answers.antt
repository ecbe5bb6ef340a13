use Rattle.std.proofs.Common.{◌≡◌, ◌∷◌, [], map, rules}
use Rattle.term_tree.specs.declared.sort.Sort.{Sort}
use Rattle.term_tree.specs.declared.script.Name.{Name}
use Rattle.term_tree.specs.declared.script.Pred.{Pred}
use Rattle.test_clauses.proofs.ReadLemmas.{one_defined, one_few, one_there}
use Rattle.test_clauses.proofs.definitions.definition_of.Goals as goal

pub definition_over-definition-requires-clause-few : goal.definition_over-definition-requires-clause-few
definition_over-definition-requires-clause-few g c =
    let preds = c.args.script.now.preds in
    let p : Pred = c.pred-item.result in
    let one : preds ≡ p ∷ [] = one_there preds p (search rules) (search rules) in
    let sorts : map (λ (q : Name × Sort). q.1) c.as_slice-params.result.now ≡ p.args = search rules in
    one_few preds p c.as_slice-params.result.now one sorts c.requires.legal.few_args

pub returns : goal.returns
returns g c =
    let preds = c.args.script.now.preds in
    let p : Pred = c.pred-item.result in
    let params = c.as_slice-params.result.now in
    let one : preds ≡ p ∷ [] = one_there preds p (search rules) (search rules) in
    let sorts : map (λ (q : Name × Sort). q.1) params ≡ p.args = search rules in
    one_defined preds p params c.definition_over-definition.result one sorts c.definition_over-definition.ensures
