use Rattle.std.proofs.Common.{◌≡◌, ◌+◌, ◌<◌, ◌≤◌, List, length, drop, get_or, sym, ap, subst, ◌∙◌, arith}
use Rattle.sexp_read.specs.declared.tree.Tree.{Tree}
use Rattle.std.specs.Prelude.{Some}
use Rattle.term_check.specs.Weight.{weight}
use Rattle.sort_check.specs.Commands.{command}
use Rattle.sort_check.specs.Scripts.{stops}
use Rattle.sort_check.specs.State.{Took}
use Rattle.term_check.proofs.Public.{reading_weighs}
use Rattle.sort_check.proofs.WeightLemmas.{reading_counts, one_weighs}
use Rattle.sort_check.proofs.ScriptLemmas.{left, checked, refused, ended, goes_on, all_taken}
use Rattle.sort_check.proofs.script.check_script.Goals as goal

pub step-requires-clause-commands : goal.step-requires-clause-commands
step-requires-clause-commands c =
    let counts = reading_counts c.args.text.now c.args.trees.now.trees c.args.trees.now.stop c.requires.reading in
    let same = ap (λ (ts : List Tree). length ts) c.as_slice-tree-items.ensures in
    omega (arith, counts, same, c.loop-tree-test.true, c.loop-tree.invariant.counted, c.requires.short)

pub step-requires-clause-weight : goal.step-requires-clause-weight
step-requires-clause-weight c =
    let trees = c.args.trees.now.trees in
    let all = reading_weighs c.args.text.now trees c.args.trees.now.stop c.requires.reading in
    let same = ap (λ (ts : List Tree). length ts) c.as_slice-tree-items.ensures in
    let within : c.loop-tree.tree-index < length trees = omega (arith, same, c.loop-tree-test.true) in
    let is : c.tree-item.result ≡ get_or trees c.loop-tree.tree-index c.tree-item.result = c.tree-item.is ∙ ap (λ (ts : List Tree). get_or ts c.loop-tree.tree-index c.tree-item.result) c.as_slice-tree-items.ensures in
    let one = one_weighs trees c.loop-tree.tree-index c.tree-item.result within in
    let same' = ap weight is in
    omega (arith, one, same', all, c.requires.short)

pub returns-in-Some : goal.returns-in-Some
returns-in-Some c =
    let trees = c.args.trees.now.trees in
    let so = c.loop-tree.invariant in
    let same = ap (λ (ts : List Tree). length ts) c.as_slice-tree-items.ensures in
    let within : c.loop-tree.tree-index < length trees = omega (arith, same, c.loop-tree-test.true) in
    let is : c.tree-item.result ≡ get_or trees c.loop-tree.tree-index c.tree-item.result = c.tree-item.is ∙ ap (λ (ts : List Tree). get_or ts c.loop-tree.tree-index c.tree-item.result) c.as_slice-tree-items.ensures in
    let r = refused c.args.text.now c.args.trees.now.stop trees (drop c.loop-tree.tree-index trees) c.loop-tree.tree-index c.tree-item.result (drop (c.loop-tree.tree-index + 1) trees) c.loop-tree.state so (left trees c.loop-tree.tree-index c.tree-item.result within is) c.in-Some.fault c.step.new.self
    (subst (λ f. Took so.before (command c.args.text.now so.before c.tree-item.result) f c.step.new.self) c.in-Some.is (c.in_ok-fault.ensures so.before so.state_is)) in
    checked c.args.text.now c.args.trees.now.stop trees so.before (Some c.in-Some.fault) c.into_checked.result r.0 (c.into_checked.ensures.script so.before r.1) (c.into_checked.ensures.stop so.before r.1)

pub returns-then-state : goal.returns-then-state
returns-then-state c =
    let trees = c.args.trees.now.trees in
    let so = c.loop-tree.invariant in
    let same = ap (λ (ts : List Tree). length ts) c.as_slice-tree-items.ensures in
    let within : c.loop-tree.tree-index < length trees = omega (arith, same, c.loop-tree-test.true) in
    let is : c.tree-item.result ≡ get_or trees c.loop-tree.tree-index c.tree-item.result = c.tree-item.is ∙ ap (λ (ts : List Tree). get_or ts c.loop-tree.tree-index c.tree-item.result) c.as_slice-tree-items.ensures in
    let e = ended c.args.text.now c.args.trees.now.stop trees (drop c.loop-tree.tree-index trees) c.loop-tree.tree-index c.tree-item.result (drop (c.loop-tree.tree-index + 1) trees) c.loop-tree.state so (left trees c.loop-tree.tree-index c.tree-item.result within is) c.step.new.self
    (subst (λ f. Took so.before (command c.args.text.now so.before c.tree-item.result) f c.step.new.self) c.in_default.is (c.in_ok-fault.ensures so.before so.state_is)) c.if-state.true in
    checked c.args.text.now c.args.trees.now.stop trees e.0 c.end_fault-fault.result c.into_checked-then-state.result (e.2 ∙ ap (stops e.0) (sym (c.end_fault-fault.ensures e.0 e.1))) (c.into_checked-then-state.ensures.script e.0 e.1) (c.into_checked-then-state.ensures.stop e.0 e.1)

pub loop-tree-preserved : goal.loop-tree-preserved
loop-tree-preserved c =
    let trees = c.args.trees.now.trees in
    let so = c.loop-tree.invariant in
    let same = ap (λ (ts : List Tree). length ts) c.as_slice-tree-items.ensures in
    let within : c.loop-tree.tree-index < length trees = omega (arith, same, c.loop-tree-test.true) in
    let is : c.tree-item.result ≡ get_or trees c.loop-tree.tree-index c.tree-item.result = c.tree-item.is ∙ ap (λ (ts : List Tree). get_or ts c.loop-tree.tree-index c.tree-item.result) c.as_slice-tree-items.ensures in
    goes_on c.args.text.now c.args.trees.now.stop trees (drop c.loop-tree.tree-index trees) c.loop-tree.tree-index c.tree-item.result (drop (c.loop-tree.tree-index + 1) trees) c.loop-tree.state so (left trees c.loop-tree.tree-index c.tree-item.result within is) c.step.new.self
    (subst (λ f. Took so.before (command c.args.text.now so.before c.tree-item.result) f c.step.new.self) c.in_default.is (c.in_ok-fault.ensures so.before so.state_is)) c.if-state.false

pub returns : goal.returns
returns c =
    let trees = c.args.trees.now.trees in
    let so = c.loop-tree.invariant in
    let same = ap (λ (ts : List Tree). length ts) c.as_slice-tree-items.ensures in
    let done : length trees ≤ c.loop-tree.tree-index = omega (arith, same, c.loop-tree-test.false) in
    let r = all_taken c.args.text.now c.args.trees.now.stop trees c.loop-tree.tree-index c.loop-tree.state so done in
    checked c.args.text.now c.args.trees.now.stop trees so.before c.stop_fault-fault.result c.into_checked-2.result (r ∙ ap (stops so.before) (sym (c.stop_fault-fault.ensures so.before so.state_is))) (c.into_checked-2.ensures.script so.before so.state_is) (c.into_checked-2.ensures.stop so.before so.state_is)
