use Rattle.std.proofs.Common.{◌≡◌, ℕ, ◌+◌, ◌++◌, length, ap, ◌∙◌, subst, length-append, arith, rules, ◌∷◌, []}
use Rattle.std.specs.Prelude.{slice_get, Option, Some, None, true}
use Rattle.term_tree.specs.declared.sort.Sort.{Sort}
use Rattle.term_tree.specs.Arena.{has_parts_below}
use Rattle.term_tree.specs.Sorts.{node_sort, sort_of}
use Rattle.term_tables.specs.machinery.Table.{sort_in}
use Rattle.term_tables.proofs.TableLemmas.{table_more, sort_here, all_sorts}
use Rattle.term_tables.proofs.sort_table.SortTable.of.Goals as goal

pub loop-i-preserved : goal.loop-i-preserved
loop-i-preserved c =
    let nodes = c.args.terms.now.nodes in
    let preds = c.args.preds.now in
    let node = c.node.result.now in
    let known = c.loop-i.sorts.items in
    let same : c.in-Ok.number ≡ c.loop-i.i = search rules in
    let sort : Option Sort = c.node_sort-sort.result in
    let pushed : c.push.new.self.items ≡ known ++ sort ∷ [] = search rules in
    let found : sort ≡ node_sort preds (sort_in known) node = search rules in
    let here : node_sort preds (sort_in known) node ≡ sort_of preds nodes c.loop-i.i =
    sort_here preds nodes known c.loop-i.i node (subst (λ (k : ℕ). slice_get nodes k ≡ Some node) same c.node.ensures.is) (subst (λ (k : ℕ). has_parts_below k node ≡ true) same c.node.ensures.below) c.loop-i.invariant.known in
    record {
      long = ap length pushed ∙ length-append known (sort ∷ []) ∙ ap (λ (k : ℕ). k + 1) c.loop-i.invariant.long;
      known = table_more (Option Sort) None (sort_of preds nodes) known c.push.new.self.items c.loop-i.i sort c.loop-i.invariant.long c.loop-i.invariant.known (found ∙ here) pushed;
    }

pub returns : goal.returns
returns c = all_sorts c.args.preds.now c.args.terms.now.nodes c.loop-i.sorts.items c.loop-i.i c.loop-i.invariant.long (omega arith) c.loop-i.invariant.known
