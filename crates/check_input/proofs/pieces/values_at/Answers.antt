use Rattle.std.proofs.Common.{◌≡◌, ◌<◌, ◌≤◌, ◌∷◌, [], ◌++◌, length, pos, slice_index_or, rules}
use Rattle.term_tree.specs.declared.sort.Sort.TheVariants.{Int as IntSort}
use Rattle.term_tree.specs.Truth.{as_value}
use Rattle.check_input.proofs.PieceLemmas.{values_end, values_more}
use Rattle.check_input.proofs.pieces.values_at.Goals as goal

pub returns-then-i-numbers : goal.returns-then-i-numbers
returns-then-i-numbers c =
    let past : length c.args.numbers.now ≤ c.loop-i.i = search rules in
    values_end c.loop-i.values.items _ c.args.sorts.now c.args.numbers.now c.loop-i.i past c.loop-i.invariant

pub loop-i-preserved : goal.loop-i-preserved
loop-i-preserved c =
    let short : c.loop-i.i < length c.args.numbers.now = search rules in
    let less : c.loop-i.i < length c.args.sorts.now = search rules in
    let items : c.push.new.self.items ≡ c.loop-i.values.items ++ (c.value_at-value.result ∷ []) = search rules in
    let value : c.value_at-value.result ≡ as_value (slice_index_or c.args.sorts.now c.loop-i.i IntSort) (slice_index_or c.args.numbers.now c.loop-i.i (pos 0)) = search rules in
    rw items (values_more c.loop-i.values.items _ c.value_at-value.result c.args.sorts.now c.args.numbers.now c.loop-i.i less short value c.loop-i.invariant)
