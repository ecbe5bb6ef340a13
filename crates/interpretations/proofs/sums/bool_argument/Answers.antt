use Rattle.std.proofs.Common.{◌≡◌, List, length, true, sym, subst, arith}
use Rattle.std.specs.List.{list_all}
use Rattle.term_tree.specs.declared.node.TermId.{TermId}
use Rattle.term_tree.specs.declared.node.OpKind.TheVariants.{Ite}
use Rattle.term_tree.specs.declared.node.Node.TheVariants.{Op}
use Rattle.term_tree.specs.Arena.{is_below}
use Rattle.answer_text.specs.Lemmas.{IsNode}
use Rattle.interpretations.specs.machinery.Added.{IsAdded}
use Rattle.interpretations.proofs.AddedLemmas.{below-three, grown-least, grown-most}
use Rattle.interpretations.proofs.FullLemmas.{full-of}
use Rattle.interpretations.proofs.MakingLemmas.{bool-added}
use Rattle.interpretations.proofs.sums.bool_argument.Goals as goal

pub returns-clause-added : goal.returns-clause-added
returns-clause-added c =
    bool-added c.args.binder c.args.terms.now.nodes c.put.new.terms.nodes c.put-2.new.terms.nodes c.put-3.new.terms.nodes c.put-4.new.terms.nodes c.in_ok-argument.argument c.in_ok-yes.yes c.in_ok-no.no
    c.in_ok-id.id c.in_ok-argument.ensures.added c.in_ok-yes.ensures.added c.in_ok-no.ensures.added
    (subst (λ (args : List TermId). IsAdded (λ nodes k. IsNode nodes k (Op Ite args)) 1 c.put-3.new.terms.nodes c.put-4.new.terms.nodes c.in_ok-id.id) c.in_ok-args.ensures c.in_ok-id.ensures.added)

pub put-requires-4 : goal.put-requires-4
put-requires-4 c =
    let t = c.put.new.terms.nodes in
    let u = c.put-2.new.terms.nodes in
    let v = c.put-3.new.terms.nodes in
    let one = c.in_ok-argument.ensures.added.there in
    let two = c.in_ok-yes.ensures.added.there in
    let more = grown-least 1 t u c.in_ok-yes.ensures.added.grown in
    let most = grown-least 1 u v c.in_ok-no.ensures.added.grown in
    record {
      below =
          subst (λ (ids : List TermId). list_all (is_below (length v)) ids ≡ true) (sym c.in_ok-args.ensures)
          (below-three (length v) c.in_ok-argument.argument c.in_ok-yes.yes c.in_ok-no.no (omega (arith, one, more, most)) (omega (arith, two, most)) c.in_ok-no.ensures.added.there);
    }

pub returns-in_err-no-clause-full : goal.returns-in_err-no-clause-full
returns-in_err-no-clause-full c = λ h.
    let one = grown-most 1 c.args.terms.now.nodes c.put.new.terms.nodes c.in_ok-argument.ensures.added.grown in
    let two = grown-most 1 c.put.new.terms.nodes c.put-2.new.terms.nodes c.in_ok-yes.ensures.added.grown in
    let full = full-of {A = TermId} c.from_residual-in_err-no.result c.in_err-no.field-0.0 _ c.from_residual-in_err-no.ensures.1 h c.in_err-no.ensures.full in
    omega (arith, one, two, full)

pub returns-in_err-id-clause-full : goal.returns-in_err-id-clause-full
returns-in_err-id-clause-full c = λ h.
    let one = grown-most 1 c.args.terms.now.nodes c.put.new.terms.nodes c.in_ok-argument.ensures.added.grown in
    let two = grown-most 1 c.put.new.terms.nodes c.put-2.new.terms.nodes c.in_ok-yes.ensures.added.grown in
    let three = grown-most 1 c.put-2.new.terms.nodes c.put-3.new.terms.nodes c.in_ok-no.ensures.added.grown in
    let full = full-of {A = TermId} c.from_residual-in_err-id.result c.in_err-id.field-0.0 _ c.from_residual-in_err-id.ensures.1 h c.in_err-id.ensures.full in
    omega (arith, one, two, three, full)
