use Rattle.std.proofs.Common.{◌++◌, ◌∙◌, ap, map, List}
use Rattle.std.specs.List.{range_with_len}
use Rattle.std.proofs.lemmas.List.{take_all}
use Rattle.int_rows.specs.Node.{in_rows}
use Rattle.int_rows.specs.Ready.{bounded_fits}
use Rattle.int_rows.specs.declared.bounds.Bounded.{Bounded}
use Rattle.lia_node.specs.machinery.Columns.{sides_of, sides_on}
use Rattle.lia_node.proofs.ColumnLemmas.{all-at}
use Rattle.lia_node.proofs.SlackLemmas.{slack-fits, slack-more}
use Rattle.lia_node.proofs.columns.all_sides.Goals as goal

pub loop-bounded-preserved : goal.loop-bounded-preserved
loop-bounded-preserved c =
    let bs : List Bounded = c.args.bounds.now in
    let i = c.loop-bounded.bounded-index in
    let b = c.bounded-item.result in
    let front = map (sides_on bs) (range_with_len 0 c.args.variables) in
    let old = c.loop-bounded.made.items in
    let new = c.put_slack.new.made.items in
    record {
      is = slack-more front old new bs i b c.loop-bounded-test.true c.bounded-item.is c.loop-bounded.invariant.is c.in_ok-put_slack.ensures;
      fit = slack-fits old new b (ap bounded_fits c.bounded-item.is ∙ all-at bounded_fits bs i b c.loop-bounded-test.true c.requires.fit) c.loop-bounded.invariant.fit c.in_ok-put_slack.ensures;
    }

pub returns-clause-is : goal.returns-clause-is
returns-clause-is c =
    let front = map (sides_on c.args.bounds.now) (range_with_len 0 c.args.variables) in
    c.loop-bounded.invariant.is ∙ ap (λ (bs : List Bounded). front ++ map sides_of (in_rows bs)) (take_all c.loop-bounded.bounded-index c.args.bounds.now c.loop-bounded-test.false)
