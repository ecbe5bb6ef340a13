use Rattle.std.proofs.Common.{◌++◌, List, ℕ, ap, ◌∙◌, sym, refl, codes, arith, rules}
use Rattle.std.proofs.lemmas.List.{take_all}
use Rattle.std.proofs.lemmas.Int.{to_z-of_z}
use Rattle.std.specs.Int.{w64}
use Rattle.std.specs.Int.RustNames.{FitsSigned}
use Rattle.term_tree.specs.declared.node.TermId.{TermId}
use Rattle.term_tree.specs.declared.node.Node.{Node}
use Rattle.answer_text.specs.Names.{after_spaces}
use Rattle.answer_text.specs.Terms.{divisible_text, node_text, operator_word, term_text}
use Rattle.answer_text.proofs.PushLemmas.{behind, one_more_spaced, argument_below}
use Rattle.answer_text.proofs.TermLemmas.{text_at}
use Rattle.answer_text.proofs.term.+term.Goals as goal

pub push_term-returns : goal.push_term-returns
push_term-returns t c =
    c.in_ok-push_node.ensures ∙ ap (λ text. c.args.out.now.items ++ text) (sym (text_at c.args.terms.now.nodes c.args.id.0 c.node-node.result.now c.node-node.ensures.is c.node-node.ensures.below))

pub push_arguments-push_term-requires : goal.push_arguments-push_term-requires
push_arguments-push_term-requires t c =
    let d = c.decreases in
    let less = (argument_below c.args.above.0 c.args.args.now c.loop-arg.arg-index (record { 0 = 0 }) c.loop-arg-test.true c.loop-arg.invariant.below).0 in (
      omega (arith, d, less),
      omega (arith, less, c.requires.within),
    )

pub push_arguments-loop-arg-preserved : goal.push_arguments-loop-arg-preserved
push_arguments-loop-arg-preserved t c = record {
  text = one_more_spaced (λ (arg : TermId). term_text c.args.terms.now.nodes arg.0) c.args.args.now c.loop-arg.arg-index _ (record { 0 = 0 }) c.args.out.now.items _ _ _ c.loop-arg-test.true refl c.loop-arg.invariant.text c.in_ok-extend_from_slice.ensures.items c.in_ok-push_term.ensures;
  below = (argument_below c.args.above.0 c.args.args.now c.loop-arg.arg-index (record { 0 = 0 }) c.loop-arg-test.true c.loop-arg.invariant.below).1;
}

pub push_arguments-returns : goal.push_arguments-returns
push_arguments-returns t c =
    c.loop-arg.invariant.text
    ∙ ap (λ (xs : List TermId). c.args.out.now.items ++ after_spaces (λ arg. term_text c.args.terms.now.nodes arg.0) xs) (take_all c.loop-arg.arg-index c.args.args.now c.loop-arg-test.false)

pub push_node-returns-in_ok-extend_from_slice-in-Divisible : goal.push_node-returns-in_ok-extend_from_slice-in-Divisible
push_node-returns-in_ok-extend_from_slice-in-Divisible t c =
    let out = c.args.out.now.items in
    let by = divisible_text c.in-Divisible.by in
    let part = term_text c.args.terms.now.nodes c.in-Divisible.arg.0 in
    let fits : FitsSigned w64 c.in-Divisible.by = search rules in
    let pushed = simp to_z-of_z at c.in_ok-push_divisible-in-Divisible.ensures in
    let one = behind out _ _ by part pushed c.in_ok-push_term-in-Divisible.ensures in
    behind out _ _ (by ++ part) (codes ")") one c.in_ok-extend_from_slice-in-Divisible.ensures.items
    ∙ ap (λ (node : Node). out ++ node_text (term_text c.args.terms.now.nodes) node) (sym c.in-Divisible.is)

pub push_node-returns-in_ok-extend_from_slice-in-Op-3 : goal.push_node-returns-in_ok-extend_from_slice-in-Op-3
push_node-returns-in_ok-extend_from_slice-in-Op-3 t c =
    let out = c.args.out.now.items in
    let word = operator_word c.in-Op.op in
    let text = λ (args : List TermId). after_spaces (λ (arg : TermId). term_text c.args.terms.now.nodes arg.0) args in
    let op = c.in_ok-extend_from_slice-in-Op-2.ensures.items ∙ ap (λ (w : List ℕ). c.extend_from_slice-in-Op.new.self.items ++ w) c.operator_word.ensures in
    let all = c.in_ok-push_arguments-in-Op.ensures ∙ ap (λ (args : List TermId). c.extend_from_slice-in-Op-2.new.self.items ++ text args) c.as_slice.ensures in
    let one = behind out _ _ (codes "(") word c.in_ok-extend_from_slice-in-Op.ensures.items op in
    let two = behind out _ _ (codes "(" ++ word) (text c.in-Op.args) one all in
    behind out _ _ (codes "(" ++ word ++ text c.in-Op.args) (codes ")") two c.in_ok-extend_from_slice-in-Op-3.ensures.items
    ∙ ap (λ (node : Node). out ++ node_text (term_text c.args.terms.now.nodes) node) (sym c.in-Op.is)
