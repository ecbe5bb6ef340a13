use Rattle.std.proofs.Common.{◌≡◌, ◌+◌, ◌-◌, ◌<◌, ◌≤◌, ◌++◌, ◌∷◌, length, take, drop, vec_len, [], sym, ap, ◌∙◌, subst, rules, arith}
use Rattle.sexp_read.specs.declared.tree.Tree.{Tree}
use Rattle.sexp_read.specs.declared.tree.Tree.TheViews.{List as ListTree}
use Rattle.sexp_read.specs.machinery.Opened.{outermost_start, stop_at_end}
use Rattle.sexp_read.specs.Trees.{most_open}
use Rattle.sexp_read.proofs.Reaches.{Reached, shorter, longer, Fits, reached_none, reached_leaf, reached_open, reached_close, fits_within, fits_more, fits_open, fits_close_at, before_within, reads_bad, reads_unclosed, reads_deep, reads_close, reads_end, reads_leaf, reads_list, ahead_open, ahead_close, ahead_leaf}
use Rattle.sexp_read.proofs.reader.read_tree.Goals as goal

pub loop-lists-init : goal.loop-lists-init
loop-lists-init c =
    let r = reached_none c.args.text.now c.args.from c.args.lists.now.items c.args.trees.now.items c.requires.lists c.requires.trees in
    record { leads = r.0; fits = r.1; few = omega (arith, ap length c.requires.trees); within = c.requires.within }

pub returns-in-End : goal.returns-in-End
returns-in-End c =
    let stop = subst (λ ls. c.stop_at_end.result ≡ stop_at_end ls) c.deref.ensures.value c.stop_at_end.ensures in
    reads_end c.args.text.now c.args.from c.loop-lists.lists.items c.loop-lists.trees.items c.loop-lists.at c.loop-lists.invariant.leads (sym c.in-End.ensures) c.stop_at_end.result stop

pub returns-then-len-ge-MOST_OPEN : goal.returns-then-len-ge-MOST_OPEN
returns-then-len-ge-MOST_OPEN c =
    let many : most_open ≤ length c.loop-lists.lists.items = omega (arith, c.len.ensures, c.loop-lists.lists.ok.0, c.if-len-ge-MOST_OPEN.true) in
    reads_deep c.args.text.now c.args.from c.loop-lists.lists.items c.loop-lists.trees.items c.loop-lists.at c.in-Open.start many c.loop-lists.invariant.leads (sym c.in-Open.ensures)

pub loop-lists-smaller-in-Open : goal.loop-lists-smaller-in-Open
loop-lists-smaller-in-Open c =
    let ahead = ahead_open c.args.text.now c.loop-lists.at c.in-Open.start c.in-Open.ensures in
    omega (arith, ahead.0, ahead.1)

pub loop-lists-preserved-in-Open : goal.loop-lists-preserved-in-Open
loop-lists-preserved-in-Open c =
    let ahead = ahead_open c.args.text.now c.loop-lists.at c.in-Open.start c.in-Open.ensures in
    let below : length c.loop-lists.lists.items < most_open = omega (arith, c.len.ensures, c.loop-lists.lists.ok.0, c.if-len-ge-MOST_OPEN.false) in
    let grown = sym c.in_ok-push-in-Open.ensures.items in
    record {
      leads = subst (λ ls. Reached c.args.text.now c.args.from ls c.loop-lists.trees.items (c.in-Open.start + 1)) grown
          (reached_open c.args.text.now c.args.from c.loop-lists.lists.items c.loop-lists.trees.items c.loop-lists.at _ c.loop-lists.invariant.leads c.loop-lists.invariant.fits (sym c.in-Open.ensures) below);
      fits = subst (λ ls. Fits ls c.loop-lists.trees.items 0) grown (fits_open c.loop-lists.lists.items c.loop-lists.trees.items _ c.loop-lists.invariant.fits);
      few = omega (arith, ahead.0, c.loop-lists.invariant.few);
      within = omega (arith, ahead.1);
    }

pub closed-requires-clause-within : goal.closed-requires-clause-within
closed-requires-clause-within c = omega (arith, fits_within c.loop-lists.lists.items c.loop-lists.trees.items c.loop-lists.here c.loop-lists.invariant.fits, c.loop-lists.trees.ok.0)

pub closed-requires-clause-end : goal.closed-requires-clause-end
closed-requires-clause-end c =
    let ahead = ahead_close c.args.text.now c.loop-lists.at c.in-Close.start c.in-Close.ensures in
    omega (arith, ahead.1)

pub returns-then-is_empty : goal.returns-then-is_empty
returns-then-is_empty c =
    let here = fits_within c.loop-lists.lists.items c.loop-lists.trees.items c.loop-lists.here c.loop-lists.invariant.fits in
    let parts : vec_len c.loop-lists.trees - c.loop-lists.here + c.loop-lists.here ≡ length c.loop-lists.trees.items = omega (arith, here, c.loop-lists.trees.ok.0) in
    let none : length c.pop.new.self.items ≡ 0 = search rules in
    reads_list c.args.text.now c.args.from c.loop-lists.lists.items c.pop.new.self.items c.in-Some.list c.loop-lists.trees.items c.loop-lists.here _ c.loop-lists.at c.in-Close.start _ none
    c.loop-lists.invariant.leads c.loop-lists.invariant.fits c.in-Some.ensures.items parts (sym c.in-Close.ensures) c.in_ok-tree-in-Some.ensures.list

pub overflow_add-here : goal.overflow_add-here
overflow_add-here c =
    let here = fits_within c.loop-lists.lists.items c.loop-lists.trees.items c.loop-lists.here c.loop-lists.invariant.fits in
    let parts : length c.loop-lists.trees.items - c.loop-lists.here + c.loop-lists.here ≡ length c.loop-lists.trees.items = omega (arith, here) in
    let before = before_within c.loop-lists.lists.items c.pop.new.self.items c.in-Some.list c.loop-lists.trees.items c.loop-lists.here _ c.loop-lists.invariant.fits c.in-Some.ensures.items parts in
    omega (arith, before, c.loop-lists.invariant.few, c.loop-lists.invariant.within)

pub loop-lists-smaller-in-Some : goal.loop-lists-smaller-in-Some
loop-lists-smaller-in-Some c =
    let ahead = ahead_close c.args.text.now c.loop-lists.at c.in-Close.start c.in-Close.ensures in
    omega (arith, ahead.0, ahead.1)

pub loop-lists-preserved-in-Some : goal.loop-lists-preserved-in-Some
loop-lists-preserved-in-Some c =
    let ahead = ahead_close c.args.text.now c.loop-lists.at c.in-Close.start c.in-Close.ensures in
    let here = fits_within c.loop-lists.lists.items c.loop-lists.trees.items c.loop-lists.here c.loop-lists.invariant.fits in
    let parts : vec_len c.loop-lists.trees - c.loop-lists.here + c.loop-lists.here ≡ length c.loop-lists.trees.items = omega (arith, here, c.loop-lists.trees.ok.0) in
    let some : 0 < length c.pop.new.self.items = search rules in
    let rest = c.in_ok-tree-in-Some.ensures.rest in
    let made : c.push-in-Some.new.self.items ≡ take (vec_len c.loop-lists.trees - c.loop-lists.here) c.loop-lists.trees.items ++ ListTree (drop (vec_len c.loop-lists.trees - c.loop-lists.here) c.loop-lists.trees.items) c.in-Some.list.start (c.in-Close.start + 1) ∷ [] =
    c.in_ok-push-in-Some.ensures.items ∙ ap (λ ts. ts ++ c.in_ok-tree-in-Some.tree ∷ []) rest
    ∙ ap (λ (t : Tree). take (vec_len c.loop-lists.trees - c.loop-lists.here) c.loop-lists.trees.items ++ t ∷ []) c.in_ok-tree-in-Some.ensures.list in
    record {
      leads = reached_close c.args.text.now c.args.from c.loop-lists.lists.items c.pop.new.self.items c.in-Some.list c.loop-lists.trees.items c.push-in-Some.new.self.items c.loop-lists.here _ c.loop-lists.at c.in-Close.start
          some c.loop-lists.invariant.leads c.loop-lists.invariant.fits c.in-Some.ensures.items parts (sym c.in-Close.ensures) made;
      fits = fits_close_at c.loop-lists.lists.items c.pop.new.self.items c.in-Some.list c.loop-lists.trees.items c.push-in-Some.new.self.items c.loop-lists.here _ c.in-Close.start
          c.loop-lists.invariant.fits c.in-Some.ensures.items parts made;
      few = shorter c.loop-lists.trees.items c.push-in-Some.new.self.items (vec_len c.loop-lists.trees - c.loop-lists.here) _ c.in-Close.start made (omega (arith, ahead.0, c.loop-lists.invariant.few));
      within = omega (arith, ahead.1);
    }

pub returns-in-None : goal.returns-in-None
returns-in-None c =
    let none : c.loop-lists.lists.items ≡ [] = search rules in
    reads_close c.args.text.now c.args.from c.loop-lists.lists.items c.loop-lists.trees.items c.loop-lists.at c.in-Close.start none c.loop-lists.invariant.leads (sym c.in-Close.ensures)

pub returns-then-is_empty-2 : goal.returns-then-is_empty-2
returns-then-is_empty-2 c =
    let none : length c.loop-lists.lists.items ≡ 0 = search rules in
    reads_leaf c.args.text.now c.args.from c.loop-lists.lists.items c.loop-lists.trees.items c.loop-lists.at c.in-Leaf.kind c.in-Leaf.start c.in-Leaf.end none c.loop-lists.invariant.leads (sym c.in-Leaf.ensures)

pub overflow_add-here-in-Leaf : goal.overflow_add-here-in-Leaf
overflow_add-here-in-Leaf c =
    let here = fits_within c.loop-lists.lists.items c.loop-lists.trees.items c.loop-lists.here c.loop-lists.invariant.fits in
    omega (arith, here, c.loop-lists.invariant.few, c.loop-lists.invariant.within)

pub loop-lists-smaller : goal.loop-lists-smaller
loop-lists-smaller c =
    let ahead = ahead_leaf c.args.text.now c.loop-lists.at c.in-Leaf.kind c.in-Leaf.start c.in-Leaf.end c.in-Leaf.ensures in
    omega (arith, ahead.0, ahead.1, ahead.2)

pub loop-lists-preserved : goal.loop-lists-preserved
loop-lists-preserved c =
    let ahead = ahead_leaf c.args.text.now c.loop-lists.at c.in-Leaf.kind c.in-Leaf.start c.in-Leaf.end c.in-Leaf.ensures in
    let some : 0 < length c.loop-lists.lists.items = search rules in
    let grown = sym c.in_ok-push-in-Leaf.ensures.items in
    record {
      leads = subst (λ ts. Reached c.args.text.now c.args.from c.loop-lists.lists.items ts c.in-Leaf.end) grown
          (reached_leaf c.args.text.now c.args.from c.loop-lists.lists.items c.loop-lists.trees.items c.loop-lists.here c.loop-lists.at c.in-Leaf.kind c.in-Leaf.start c.in-Leaf.end some c.loop-lists.invariant.leads c.loop-lists.invariant.fits (sym c.in-Leaf.ensures));
      fits = subst (λ ts. Fits c.loop-lists.lists.items ts (c.loop-lists.here + 1)) grown (fits_more c.loop-lists.lists.items c.loop-lists.trees.items _ c.loop-lists.here c.loop-lists.invariant.fits);
      few = longer c.loop-lists.trees.items c.push-in-Leaf.new.self.items _ c.in-Leaf.end c.in_ok-push-in-Leaf.ensures.items (omega (arith, ahead.0, ahead.1, c.loop-lists.invariant.few));
      within = ahead.2;
    }

pub returns-in-BadByte : goal.returns-in-BadByte
returns-in-BadByte c = reads_bad c.args.text.now c.args.from c.loop-lists.lists.items c.loop-lists.trees.items c.loop-lists.at c.in-BadByte.offset c.loop-lists.invariant.leads (sym c.in-BadByte.ensures)

pub returns-in-Unclosed : goal.returns-in-Unclosed
returns-in-Unclosed c =
    let outer = subst (λ ls. c.outermost_start-offset.result ≡ outermost_start ls c.in-Unclosed.start) c.deref-in-Unclosed.ensures.value c.outermost_start-offset.ensures in
    reads_unclosed c.args.text.now c.args.from c.loop-lists.lists.items c.loop-lists.trees.items c.loop-lists.at c.in-Unclosed.start c.outermost_start-offset.result outer c.loop-lists.invariant.leads (sym c.in-Unclosed.ensures)
