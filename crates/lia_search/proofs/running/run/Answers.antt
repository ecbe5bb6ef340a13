use Rattle.std.proofs.Common.{Ok, ap, arith, refl, subst, ◌∙◌, ◌≡◌, ◌<◌}
use Rattle.refutation_trees.specs.declared.evidence.Evidence.TheVariants.{Nodes}
use Rattle.lia_stack.specs.machinery.Searched.{StopsAt}
use Rattle.lia_stack.specs.declared.state.End.TheVariants.{GivenUp}
use Rattle.lia_stack.proofs.Public.{same-then}
use Rattle.lia_search.proofs.RunLemmas.{ends-after, spent}
use Rattle.lia_search.proofs.running.run.Goals as goal

pub splits-preserved : goal.splits-preserved
splits-preserved c =
    let i = c.splits.invariant in
    let s = c.splits.search in
    let splits = subst (StopsAt s c.until_split.new.search) (c.in_ok-turn.was ∙ ap Ok c.in-Split.is) c.until_split.ensures in
    let test = c.splits-test.true in
    let count = splits.count in
    let nodes = splits.same.nodes in
    record { is = splits.is; same = same-then c.args.search s c.until_split.new.search i.same splits.same; few = omega (arith, test, count, nodes) }

pub splits-smaller : goal.splits-smaller
splits-smaller c =
    let splits = subst (StopsAt c.splits.search c.until_split.new.search) (c.in_ok-turn.was ∙ ap Ok c.in-Split.is) c.until_split.ensures in
    let test = c.splits-test.true in
    let count = splits.count in
    let nodes = splits.same.nodes in
    omega (arith, test, count, nodes)

pub returns-in-Over : goal.returns-in-Over
returns-in-Over c =
    let ends = subst (StopsAt c.splits.search c.until_split.new.search) (c.in_ok-turn.was ∙ ap Ok c.in-Over.is) c.until_split.ensures in
    ends-after c.args.search c.splits.search _ c.splits.invariant.same ends

pub finished-requires-clause-is : goal.finished-requires-clause-is
finished-requires-clause-is c = (subst (StopsAt c.splits.search c.until_split.new.search) (c.in_ok-turn.was ∙ ap Ok c.in-WentOn.is) c.until_split.ensures).0

pub finished-requires-clause-none : goal.finished-requires-clause-none
finished-requires-clause-none c = (subst (StopsAt c.splits.search c.until_split.new.search) (c.in_ok-turn.was ∙ ap Ok c.in-WentOn.is) c.until_split.ensures).1

pub returns-in-WentOn : goal.returns-in-WentOn
returns-in-WentOn c =
    let s = c.splits.search in
    let stops = subst (StopsAt s c.until_split.new.search) (c.in_ok-turn.was ∙ ap Ok c.in-WentOn.is) c.until_split.ensures in
    ends-after c.args.search c.until_split.new.search _ (same-then c.args.search s c.until_split.new.search c.splits.invariant.same stops.2) c.in_ok-end-in-WentOn.ensures

pub returns : goal.returns
returns c =
    let i = c.splits.invariant in
    let s = c.splits.search in
    let over = c.splits-test.false in
    let few = i.few in
    let some = c.requires.some in
    let nodes = i.same.nodes in
    let all : s.count ≡ s.nodes = omega (arith, over, few) in
    let more : 0 < s.count = omega (arith, some, nodes, all) in
    ends-after c.args.search s (GivenUp (Nodes s.count)) i.same (spent s i.is more, all)
