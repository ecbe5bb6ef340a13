use Rattle.std.proofs.Common.{◌≤◌, length, drop, List, sym, ap, ◌∙◌, arith}
use Rattle.std.proofs.lemmas.Bool.Decides.{nat_tests}
use Rattle.std.proofs.lemmas.List.{drop_all}
use Rattle.term_tree.specs.declared.sort.Sort.{Sort}
use Rattle.term_check.specs.declared.part.Part.{Part}
use Rattle.term_check.specs.Rules.{declared_fault}
use Rattle.term_check.proofs.RuleLemmas.{no_parts}
use Rattle.term_check.proofs.rules.declared_fault.Goals as goal

pub returns-else-i-parts : goal.returns-else-i-parts
returns-else-i-parts c =
    let past : length c.args.parts.now ≤ c.loop-i.i = grind (arith, nat_tests) in
    let ended = drop_all c.loop-i.i c.args.parts.now past in
    let rest : List Sort = drop c.loop-i.i c.args.sorts.now in
    sym (no_parts rest) ∙ ap (λ (ps : List Part). declared_fault rest ps) (sym ended) ∙ c.loop-i.invariant
