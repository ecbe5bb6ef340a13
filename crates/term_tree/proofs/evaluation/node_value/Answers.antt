use Rattle.std.proofs.Common.{◌≡◌, ap, ◌∙◌, sym, ℕ}
use Rattle.term_tree.specs.declared.node.Node.{Node}
use Rattle.term_tree.specs.declared.node.TermId.{TermId}
use Rattle.std.specs.Prelude.{map}
use Rattle.term_tree.specs.Value.{Environment, environment_of}
use Rattle.term_tree.specs.Width.{fitting_result}
use Rattle.term_tree.specs.machinery.Known.{known_worth, fitting_worth}
use Rattle.term_tree.proofs.EvaluationLemmas.{operation}
use Rattle.term_tree.proofs.evaluation.node_value.Goals as goal

pub returns-in-Op : goal.returns-in-Op
returns-in-Op c =
    let items : c.as_slice-in-Op.result.now ≡ map (λ (id : TermId). known_worth c.args.known.now id.0) c.in-Op.args =
    c.as_slice-in-Op.ensures.value ∙ c.in_ok-values-in-Op.ensures ∙ ap (map (λ (id : TermId). known_worth c.args.known.now id.0)) c.as_slice.ensures in
    c.apply.ensures ∙ ap (fitting_result c.in-Op.op) items ∙ operation (λ (q : ℕ) (e : Environment). known_worth c.args.known.now q) c.in-Op.op c.in-Op.args (environment_of c.args.env.now)
    ∙ ap (λ (n : Node). fitting_worth (λ q e. known_worth c.args.known.now q) n (environment_of c.args.env.now)) (sym c.in-Op.is)
