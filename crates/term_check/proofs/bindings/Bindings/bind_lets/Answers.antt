use Rattle.std.proofs.Common.{◌≤◌, ◌++◌, length, drop, List, sym, ap, ◌∙◌, arith}
use Rattle.std.proofs.lemmas.Bool.Decides.{nat_tests}
use Rattle.std.proofs.lemmas.List.{drop_all, append-nil}
use Rattle.sexp_read.specs.declared.tree.Tree.{Tree}
use Rattle.term_check.specs.declared.part.Part.{Part}
use Rattle.term_check.specs.Spelling.{lets_from}
use Rattle.term_check.proofs.RuleLemmas.{no_lets}
use Rattle.term_check.proofs.StepLemmas.{bound_more, lets_next}
use Rattle.term_check.proofs.bindings.Bindings.bind_lets.Goals as goal

pub returns-else-i-parts : goal.returns-else-i-parts
returns-else-i-parts c =
    let past : length c.args.parts.now ≤ c.loop-i.i = grind (arith, nat_tests) in
    let ended = drop_all c.loop-i.i c.args.parts.now past in
    let rest : List Tree = drop c.loop-i.i c.args.items.now in
    let none = ap (λ (ps : List Part). lets_from c.args.text.now c.loop-i.number rest ps) ended ∙ no_lets c.args.text.now c.loop-i.number rest in
    sym (append-nil c.loop-i.self) ∙ ap (λ xs. c.loop-i.self ++ xs) (sym none) ∙ c.loop-i.invariant.0

pub loop-i-preserved : goal.loop-i-preserved
loop-i-preserved c =
    let inv = c.loop-i.invariant in
    let next = lets_next c.args.text.now c.loop-i.number c.args.items.now c.args.parts.now c.loop-i.i c.index-items-i.result _ c.name_bound.result.now c.loop-i-test.true c.if-i-parts.true c.index-items-i.is c.name_bound.ensures in
    let number = inv.1 in
    let below = c.if-i-parts.true in
    (bound_more c.loop-i.self c.bind.new.self _ _ _ _ c.in_ok-bind.ensures next inv.0, omega (arith, number), omega (arith, below))
