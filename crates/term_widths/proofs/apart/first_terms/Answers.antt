use Rattle.std.proofs.Common.{◌≡◌, ℕ, rules, subst, arith}
use Rattle.std.specs.Prelude.{slice_get, Some}
use Rattle.term_widths.specs.machinery.Apart.{PutsFirst}
use Rattle.term_widths.proofs.FirstLemmas.{firsts_all, firsts_more}
use Rattle.term_widths.proofs.apart.first_terms.Goals as goal

pub loop-i-preserved : goal.loop-i-preserved
loop-i-preserved c =
    let nodes = c.args.terms.now.nodes in
    let node = c.node.result.now in
    let same : c.in-Ok.number ≡ c.loop-i.i = search rules in
    firsts_more nodes c.args.own.now c.loop-i.i node c.loop-i.firsts c.put_first.new.firsts (subst (λ (k : ℕ). slice_get nodes k ≡ Some node) same c.node.ensures.is) c.loop-i.invariant
    (subst (λ (k : ℕ). PutsFirst c.args.own.now node k c.loop-i.firsts c.put_first.new.firsts) same c.in_ok-put_first.ensures)

pub returns : goal.returns
returns c = firsts_all c.args.terms.now.nodes c.args.own.now c.loop-i.i 4294967296 c.loop-i.firsts (omega arith) c.loop-i.invariant
