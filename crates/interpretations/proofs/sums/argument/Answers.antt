use Rattle.std.proofs.Common.{subst, sym}
use Rattle.std.specs.Prelude.{Some}
use Rattle.term_tree.specs.declared.sort.Sort.{Sort}
use Rattle.term_tree.specs.declared.node.Node.TheVariants.{Var}
use Rattle.answer_text.specs.Lemmas.{IsArgument, IsNode}
use Rattle.interpretations.specs.machinery.Added.{IsAdded}
use Rattle.interpretations.proofs.MakingLemmas.{int-added}
use Rattle.interpretations.proofs.sums.argument.Goals as goal

pub returns-in_ok-id-in-Int-clause-added : goal.returns-in_ok-id-in-Int-clause-added
returns-in_ok-id-in-Int-clause-added c =
    let s = c.args.terms.now.nodes in
    let t = c.put.new.terms.nodes in
    let id = c.in_ok-id-in-Int.id in
    let put = subst (λ (sort : Sort). IsAdded (λ nodes k. IsNode nodes k (Var c.args.binder sort)) 1 s t id) c.in-Int.is c.in_ok-id-in-Int.ensures.added in
    subst (λ (sort : Sort). IsAdded (λ nodes k. IsArgument nodes c.args.binder (Some sort) k) 4 s t id) (sym c.in-Int.is) (int-added c.args.binder s t id put)
