use Rattle.std.proofs.Common.{sym, ◌∙◌}
use Rattle.std.specs.BTreeSet.{keys}
use Rattle.term_tree.proofs.CompareLemmas.{differs, no_left, no_right, no_likeness, goes_on}
use Rattle.term_tree.proofs.same_tree.same_terms.Goals as goal

pub returns-in_default-found : goal.returns-in_default-found
returns-in_default-found c =
    let nodes = c.args.a.now.nodes in
    let others = c.args.b.now.nodes in
    sym (differs nodes others c.args.i.0 c.args.j.0 (keys c.loop-pair.waiting) (keys c.take_greatest_pair.new.pairs) c.in-Some.pair c.loop-pair.invariant c.in-Some.ensures.taken
    (no_left nodes others c.in-Some.pair c.in_default-found.ensures.none))

pub returns-in_default-found-2 : goal.returns-in_default-found-2
returns-in_default-found-2 c =
    let nodes = c.args.a.now.nodes in
    let others = c.args.b.now.nodes in
    sym (differs nodes others c.args.i.0 c.args.j.0 (keys c.loop-pair.waiting) (keys c.take_greatest_pair.new.pairs) c.in-Some.pair c.loop-pair.invariant c.in-Some.ensures.taken
    (no_right nodes others c.in-Some.pair c.in-Some-found.left.now c.in-Some-found.ensures.is c.in-Some-found.ensures.below c.in_default-found-2.ensures.none))

pub returns-then-not-branch : goal.returns-then-not-branch
returns-then-not-branch c =
    let nodes = c.args.a.now.nodes in
    let others = c.args.b.now.nodes in
    sym (differs nodes others c.args.i.0 c.args.j.0 (keys c.loop-pair.waiting) (keys c.take_greatest_pair.new.pairs) c.in-Some.pair c.loop-pair.invariant c.in-Some.ensures.taken
    (no_likeness nodes others c.in-Some.pair c.in-Some-found.left.now c.in-Some-found-2.right.now c.in-Some-found.ensures.is c.in-Some-found.ensures.below c.in-Some-found-2.ensures.is (sym c.in_ok-put_parts.ensures.alike ∙ c.if-not-branch.true)))

pub loop-pair-smaller : goal.loop-pair-smaller
loop-pair-smaller c =
    let nodes = c.args.a.now.nodes in
    let others = c.args.b.now.nodes in
    (goes_on nodes others c.args.i.0 c.args.j.0 (keys c.loop-pair.waiting) (keys c.take_greatest_pair.new.pairs) (keys c.put_parts.new.pairs) c.in-Some.pair c.in-Some-found.left.now c.in-Some-found-2.right.now
    c.loop-pair.invariant c.in-Some.ensures.taken c.in-Some.ensures.before c.in-Some-found.ensures.is c.in-Some-found.ensures.below c.in-Some-found-2.ensures.is c.in-Some-found-2.ensures.below
    (sym c.in_ok-put_parts.ensures.alike ∙ c.if-not-branch.false) (c.in_ok-put_parts.ensures.put c.if-not-branch.false)).1

pub loop-pair-preserved : goal.loop-pair-preserved
loop-pair-preserved c =
    let nodes = c.args.a.now.nodes in
    let others = c.args.b.now.nodes in
    (goes_on nodes others c.args.i.0 c.args.j.0 (keys c.loop-pair.waiting) (keys c.take_greatest_pair.new.pairs) (keys c.put_parts.new.pairs) c.in-Some.pair c.in-Some-found.left.now c.in-Some-found-2.right.now
    c.loop-pair.invariant c.in-Some.ensures.taken c.in-Some.ensures.before c.in-Some-found.ensures.is c.in-Some-found.ensures.below c.in-Some-found-2.ensures.is c.in-Some-found-2.ensures.below
    (sym c.in_ok-put_parts.ensures.alike ∙ c.if-not-branch.false) (c.in_ok-put_parts.ensures.put c.if-not-branch.false)).0
