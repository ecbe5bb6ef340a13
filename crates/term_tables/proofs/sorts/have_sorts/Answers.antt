use Rattle.std.proofs.Common.{◌≡◌, ℕ, ◌==◌, sym, ◌∙◌, ap, arith, length, false}
use Rattle.std.specs.Prelude.{Option}
use Rattle.term_tree.specs.declared.node.TermId.{TermId}
use Rattle.term_tree.specs.declared.sort.Sort.{Sort}
use Rattle.term_tree.specs.declared.sort.Sort.TheVariants.{Int as IntSort}
use Rattle.term_tree.specs.Sorts.{has_sort}
use Rattle.term_tables.specs.machinery.Table.{sort_in}
use Rattle.term_tables.proofs.TableLemmas.{sorts_at, sorts_short, sorts_end}
use Rattle.term_tables.proofs.sorts.have_sorts.Goals as goal

pub returns-then-i-ids : goal.returns-then-i-ids
returns-then-i-ids c =
    let of : TermId → Option Sort = λ id. sort_in c.args.known.now id.0 in
    sym (sorts_short of c.args.sorts.now c.args.ids.now c.loop-i.i IntSort c.loop-i-test.true c.if-i-ids.true) ∙ c.loop-i.invariant.told

pub returns-then-not-has_sort : goal.returns-then-not-has_sort
returns-then-not-has_sort c =
    let of : TermId → Option Sort = λ id. sort_in c.args.known.now id.0 in
    let other = sym c.has_sort.ensures ∙ c.if-not-has_sort.true in
    sym (sorts_at of c.args.sorts.now c.args.ids.now c.loop-i.i _ _ c.loop-i-test.true c.if-i-ids.false false (ap (has_sort _) (sym c.sort_in.ensures) ∙ other)) ∙ c.loop-i.invariant.told

pub returns : goal.returns
returns c =
    let of : TermId → Option Sort = λ id. sort_in c.args.known.now id.0 in
    let same : c.loop-i.i ≡ length c.args.sorts.now = omega (arith, c.loop-i-test.false, c.loop-i.auto.i-end) in
    sym (sorts_end of c.args.sorts.now c.args.ids.now c.loop-i.i c.loop-i-test.false c.loop-i.invariant.within _ (ap (λ (k : ℕ). length c.args.ids.now == k) same)) ∙ c.loop-i.invariant.told
