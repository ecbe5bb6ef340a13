use Rattle.std.proofs.Common.{Ok, ap, arith, refl, subst, ◌∙◌}
use Rattle.lia_stack.specs.machinery.Searched.{Turns}
use Rattle.lia_stack.proofs.Public.{splits-after}
use Rattle.lia_search.proofs.RunLemmas.{emptied, ends-after, none-left, popped, same-popped, since-popped, weight-popped}
use Rattle.lia_search.proofs.running.until_split.Goals as goal

pub turn-requires-clause-is : goal.turn-requires-clause-is
turn-requires-clause-is c = popped c.close.search _ c.in-Some.waiting c.close.invariant.is c.in-Some.ensures.items refl

pub turn-requires-clause-room : goal.turn-requires-clause-room
turn-requires-clause-room c = let i = c.close.invariant in let count = i.count in let nodes = i.same.nodes in let room = c.requires.room in omega (arith, count, nodes, room)

pub close-preserved : goal.close-preserved
close-preserved c =
    let i = c.close.invariant in
    let mid = record c.close.search { stack = c.pop.new.self } in
    let goes = subst (Turns mid c.in-Some.waiting c.turn.new.search) (c.in_ok-next.was ∙ ap Ok c.in-WentOn.is) c.turn.ensures in
    let since = since-popped c.args.search.now c.close.search mid c.turn.new.search c.in-Some.waiting i.same i.count refl goes in
    record { is = since.0; same = since.1; count = since.2 }

pub close-smaller : goal.close-smaller
close-smaller c =
    let mid = record c.close.search { stack = c.pop.new.self } in
    let goes = subst (Turns mid c.in-Some.waiting c.turn.new.search) (c.in_ok-next.was ∙ ap Ok c.in-WentOn.is) c.turn.ensures in
    let less = goes.less in
    let weighed = weight-popped c.close.search.stack.items c.pop.new.self.items c.in-Some.waiting c.in-Some.ensures.items in
    omega (arith, less, weighed)

pub returns-in-Split : goal.returns-in-Split
returns-in-Split c =
    let i = c.close.invariant in
    let mid = record c.close.search { stack = c.pop.new.self } in
    let splits = subst (Turns mid c.in-Some.waiting c.turn.new.search) (c.in_ok-next.was ∙ ap Ok c.in-Split.is) c.turn.ensures in
    splits-after c.args.search.now mid c.turn.new.search (same-popped c.args.search.now c.close.search mid i.same refl) i.count splits

pub returns-in-Over : goal.returns-in-Over
returns-in-Over c =
    let i = c.close.invariant in
    let mid = record c.close.search { stack = c.pop.new.self } in
    let ends = subst (Turns mid c.in-Some.waiting c.turn.new.search) (c.in_ok-next.was ∙ ap Ok c.in-Over.is) c.turn.ensures in
    ends-after c.args.search.now mid c.in-Over.end (same-popped c.args.search.now c.close.search mid i.same refl) ends

pub returns : goal.returns
returns c =
    let i = c.close.invariant in
    let none = emptied c.close.search.stack.items c.pop.new.self.items _ c.in_default.ensures.rest c.in_default.ensures.cases.0 c.in_default.ensures.items in
    none-left c.args.search.now c.close.search (record c.close.search { stack = c.pop.new.self }) i.is i.same none.0 none.1 refl
