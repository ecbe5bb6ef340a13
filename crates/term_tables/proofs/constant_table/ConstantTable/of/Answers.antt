use Rattle.std.proofs.Common.{◌≡◌, ℕ, ◌+◌, ◌++◌, length, ap, ◌∙◌, subst, length-append, arith, rules, ◌∷◌, []}
use Rattle.std.specs.Prelude.{slice_get, ℤ, Option, Some, None, true}
use Rattle.term_tree.specs.Arena.{has_parts_below}
use Rattle.term_tables.specs.machinery.Table.{constant_in, short_constant, short_constant_of, short_kept}
use Rattle.term_tables.proofs.ConstantLemmas.{again_constant}
use Rattle.term_tables.proofs.TableLemmas.{table_more, constant_here, all_constants}
use Rattle.term_tables.proofs.constant_table.ConstantTable.of.Goals as goal

pub loop-i-preserved : goal.loop-i-preserved
loop-i-preserved c =
    let nodes = c.args.terms.now.nodes in
    let node = c.node.result.now in
    let known = c.loop-i.constants.items in
    let same : c.in-Ok.number ≡ c.loop-i.i = search rules in
    let sort : Option ℤ = c.in_ok-constant.constant in
    let pushed : c.push.new.self.items ≡ known ++ short_kept sort ∷ [] = search rules in
    let found : sort ≡ short_constant (constant_in known) node = search rules in
    let kept : short_kept sort ≡ short_constant (constant_in known) node = ap short_kept found ∙ again_constant (constant_in known) node in
    let here : short_constant (constant_in known) node ≡ short_constant_of nodes c.loop-i.i =
    constant_here nodes known c.loop-i.i node (subst (λ (k : ℕ). slice_get nodes k ≡ Some node) same c.node.ensures.is) (subst (λ (k : ℕ). has_parts_below k node ≡ true) same c.node.ensures.below) c.loop-i.invariant.known in
    record {
      long = ap length pushed ∙ length-append known (short_kept sort ∷ []) ∙ ap (λ (k : ℕ). k + 1) c.loop-i.invariant.long;
      known = table_more (Option ℤ) None (short_constant_of nodes) known c.push.new.self.items c.loop-i.i (short_kept sort) c.loop-i.invariant.long c.loop-i.invariant.known (kept ∙ here) pushed;
    }

pub returns : goal.returns
returns c = all_constants c.args.terms.now.nodes c.loop-i.constants.items c.loop-i.i c.loop-i.invariant.long (omega arith) c.loop-i.invariant.known
