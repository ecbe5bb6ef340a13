use Rattle.std.proofs.Common.{◌≡◌, ap, sym, ◌∙◌, arith, drop, ◌++◌}
use Rattle.lin_atoms.specs.Algebra.{collected, negated_terms}
use Rattle.lin_atoms.specs.Linear.{are_short}
use Rattle.linear_terms.proofs.MinusLemmas.{all-made, all-short, ended-ours, ended-theirs}
use Rattle.linear_terms.proofs.minus.difference.Goals as goal
use Rattle.linear_terms.proofs.minus.difference.Goals.{then-loop-i-test+else-j-theirs, else-loop-i-test}

pub returns-clause-made : goal.returns-clause-made
returns-clause-made c =
    let ours = c.args.ours.now in
    let theirs = c.args.theirs.now in
    let i = c.loop-i.i in
    let j = c.loop-i.j in
    let ended : collected (drop i ours ++ drop j (negated_terms theirs)) ≡ drop i ours ++ drop j (negated_terms theirs) =
    elim c.loop-i-test.branch [
      | then-loop-i-test+else-j-theirs w ↦ ended-theirs ours theirs i j (omega (arith, w.if-j-theirs.false)) c.requires.ours
      | else-loop-i-test w ↦ ended-ours ours theirs i j (omega (arith, w.loop-i-test.false)) c.requires.theirs
    ] in
    all-made c.loop-i.made.items c.push_rest.new.made.items c.push_turned.new.made.items ours theirs _ i j c.in_ok-push_rest.ensures c.in_ok-push_turned.ensures ended c.loop-i.invariant.told

pub returns-clause-short : goal.returns-clause-short
returns-clause-short c =
    ap are_short (sym (returns-clause-made c))
    ∙ all-short c.loop-i.made.items c.push_rest.new.made.items c.push_turned.new.made.items c.args.ours.now c.args.theirs.now c.loop-i.i c.loop-i.j
    c.in_ok-push_rest.ensures c.in_ok-push_turned.ensures c.loop-i.invariant.short c.requires.short c.requires.turned
