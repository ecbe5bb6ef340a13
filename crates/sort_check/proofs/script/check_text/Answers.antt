use Rattle.std.proofs.Common.{[], subst, arith, rules}
use Rattle.sexp_read.specs.Trees.{IsTree, Stops}
use Rattle.sexp_read.proofs.Public.{tree_ahead}
use Rattle.sort_check.specs.Commands.{command}
use Rattle.sort_check.specs.State.{Took}
use Rattle.sort_check.proofs.TextLemmas.{nothing_read, stopped, few, light, broken, over, read_on}
use Rattle.sort_check.proofs.script.check_text.Goals as goal

pub loop-reader-init : goal.loop-reader-init
loop-reader-init c = record { so_far = nothing_read c.args.text.now c.new-state.result c.new-state.ensures; within = omega arith }

pub step-requires-clause-commands : goal.step-requires-clause-commands
step-requires-clause-commands c =
    let t : IsTree c.args.text.now 0 c.loop-reader.at c.in-Tree.tree c.in-Tree.end = search rules in
    few c.args.text.now c.loop-reader.at c.loop-reader.state c.loop-reader.invariant.so_far c.in-Tree.tree c.in-Tree.end t c.requires

pub step-requires-clause-weight : goal.step-requires-clause-weight
step-requires-clause-weight c =
    let t : IsTree c.args.text.now 0 c.loop-reader.at c.in-Tree.tree c.in-Tree.end = search rules in
    light c.args.text.now c.loop-reader.at c.loop-reader.state c.loop-reader.invariant.so_far c.in-Tree.tree c.in-Tree.end t c.requires

pub returns-in-Some : goal.returns-in-Some
returns-in-Some c =
    let t : IsTree c.args.text.now 0 c.loop-reader.at c.in-Tree.tree c.in-Tree.end = search rules in
    let so = c.loop-reader.invariant.so_far in
    broken c.args.text.now c.loop-reader.at c.loop-reader.state so c.in-Tree.tree c.in-Tree.end t c.step.new.self c.in-Some.fault c.into_checked.result
    (subst (λ f. Took so.before (command c.args.text.now so.before c.in-Tree.tree) f c.step.new.self) c.in-Some.is (c.in_ok-fault-in-Tree.ensures so.before so.state_is))
    (c.into_checked.ensures.script so.before) (c.into_checked.ensures.stop so.before)

pub returns-then-state : goal.returns-then-state
returns-then-state c =
    let t : IsTree c.args.text.now 0 c.loop-reader.at c.in-Tree.tree c.in-Tree.end = search rules in
    let so = c.loop-reader.invariant.so_far in
    let e = over c.args.text.now c.loop-reader.at c.loop-reader.state so c.in-Tree.tree c.in-Tree.end t c.step.new.self
    (subst (λ f. Took so.before (command c.args.text.now so.before c.in-Tree.tree) f c.step.new.self) c.in_default.is (c.in_ok-fault-in-Tree.ensures so.before so.state_is)) c.if-state.true in
    e.2 c.into_checked-then-state.result c.end_fault-fault.result (c.end_fault-fault.ensures e.0 e.1) (c.into_checked-then-state.ensures.script e.0 e.1) (c.into_checked-then-state.ensures.stop e.0 e.1)

pub loop-reader-smaller-else-state : goal.loop-reader-smaller-else-state
loop-reader-smaller-else-state c =
    let t : IsTree c.args.text.now 0 c.loop-reader.at c.in-Tree.tree c.in-Tree.end = search rules in
    let ahead = tree_ahead c.args.text.now 0 c.loop-reader.at c.in-Tree.tree c.in-Tree.end t in
    omega (arith, ahead.0, ahead.1)

pub loop-reader-preserved-else-state : goal.loop-reader-preserved-else-state
loop-reader-preserved-else-state c =
    let t : IsTree c.args.text.now 0 c.loop-reader.at c.in-Tree.tree c.in-Tree.end = search rules in
    let so = c.loop-reader.invariant.so_far in
    record {
      so_far = read_on c.args.text.now c.loop-reader.at c.loop-reader.state so c.in-Tree.tree c.in-Tree.end t c.step.new.self
          (subst (λ f. Took so.before (command c.args.text.now so.before c.in-Tree.tree) f c.step.new.self) c.in_default.is (c.in_ok-fault-in-Tree.ensures so.before so.state_is)) c.if-state.false;
      within = (tree_ahead c.args.text.now 0 c.loop-reader.at c.in-Tree.tree c.in-Tree.end t).1;
    }

pub returns-in-Stop : goal.returns-in-Stop
returns-in-Stop c =
    let h : Stops c.args.text.now [] c.loop-reader.at c.in-Stop.stop = search rules in
    let so = c.loop-reader.invariant.so_far in
    stopped c.args.text.now c.loop-reader.at c.loop-reader.state so c.in-Stop.stop h c.stop_fault-fault.result c.into_checked-in-Stop.result
    (c.stop_fault-fault.ensures so.before so.state_is) (c.into_checked-in-Stop.ensures.script so.before so.state_is) (c.into_checked-in-Stop.ensures.stop so.before so.state_is)
