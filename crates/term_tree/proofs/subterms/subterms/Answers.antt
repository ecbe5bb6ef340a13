use Rattle.std.proofs.Common.{rules, ◌≡◌, ℕ, List, [], ◌∷◌, ◌++◌, ◌||◌, ap, sym, subst, ◌∙◌, arith}
use Rattle.std.specs.List.{list_any}
use Rattle.std.specs.Ordering.{nat_cmp}
use Rattle.std.specs.BTreeMap.{is_at}
use Rattle.std.specs.BTreeSet.{contains}
use Rattle.term_tree.specs.Subterms.{is_part}
use Rattle.term_tree.specs.machinery.Walk.{IsWalk}
use Rattle.term_tree.proofs.WalkLemmas.{walk_begins, walk_goes_on, walk_ends, waited}
use Rattle.term_tree.proofs.subterms.subterms.Goals as goal

pub loop-id-init : goal.loop-id-init
loop-id-init c =
    let nodes = c.args.terms.now.nodes in
    let waits = contains nat_cmp c.put_parts.new.numbers in
    let items : c.push.new.self.items ≡ c.args.top.0 ∷ [] = search rules in
    let put : (q : ℕ) → contains nat_cmp c.put_parts.new.numbers q ≡ is_part q c.node.result.now = λ q.
    c.in_ok-put_parts.ensures q ∙ ap (λ (ks : List ℕ). list_any (is_at (nat_cmp q)) ks || is_part q c.node.result.now) c.new-waiting.ensures.empty in
    subst (λ (ids : List ℕ). IsWalk c.args.terms.now.nodes c.args.top.0 c.args.top.0 (contains nat_cmp c.put_parts.new.numbers) ids) (sym items)
    (walk_begins c.args.terms.now.nodes c.args.top.0 c.node.result.now (contains nat_cmp c.put_parts.new.numbers) c.node.ensures.is c.node.ensures.below put)

pub loop-id-preserved : goal.loop-id-preserved
loop-id-preserved c =
    let items : c.push-in-Some.new.self.items ≡ c.loop-id.ids.items ++ c.in-Some.id ∷ [] = search rules in
    subst (λ (ids : List ℕ). IsWalk c.args.terms.now.nodes c.args.top.0 c.in-Some.id (contains nat_cmp c.put_parts-in-Some.new.numbers) ids) (sym items)
    (walk_goes_on c.args.terms.now.nodes c.args.top.0 c.loop-id.last (contains nat_cmp c.loop-id.waiting) (contains nat_cmp c.take_greatest.new.numbers)
    (contains nat_cmp c.put_parts-in-Some.new.numbers) c.loop-id.ids.items c.in-Some.id c.node-in-Some.result.now
    c.loop-id.invariant c.in-Some.ensures.taken c.in-Some.ensures.less (λ q. c.in_ok-put_parts-2.ensures q) c.node-in-Some.ensures.is c.node-in-Some.ensures.below)

pub node-requires-in-Some : goal.node-requires-in-Some
node-requires-in-Some c =
    let less = c.loop-id.invariant.bounded c.in-Some.id (waited (contains nat_cmp c.loop-id.waiting) (contains nat_cmp c.take_greatest.new.numbers) c.in-Some.id c.in-Some.ensures.taken) in
    omega (arith, less, c.loop-id.invariant.within)

pub loop-id-smaller : goal.loop-id-smaller
loop-id-smaller c = c.loop-id.invariant.bounded c.in-Some.id (waited (contains nat_cmp c.loop-id.waiting) (contains nat_cmp c.take_greatest.new.numbers) c.in-Some.id c.in-Some.ensures.taken)

pub returns-clause-closed : goal.returns-clause-closed
returns-clause-closed c = walk_ends c.args.terms.now.nodes c.args.top.0 c.loop-id.last (contains nat_cmp c.loop-id.waiting) c.loop-id.ids.items c.loop-id.invariant c.in_default.ensures.none
