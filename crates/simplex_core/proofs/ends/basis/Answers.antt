use Rattle.std.proofs.Common.{◌≡◌, ◌++◌, ◌∷◌, [], cond, ap, ◌∙◌, arith, length, filter, List, ℕ}
use Rattle.std.specs.List.{range_with_len}
use Rattle.simplex_core.specs.Answer.{is_basic_at}
use Rattle.simplex_core.proofs.RangeLemmas.{kept}
use Rattle.simplex_core.proofs.ends.basis.Goals as goal

pub loop-column-preserved : goal.loop-column-preserved
loop-column-preserved c =
    let column = c.loop-column.column in
    let old : List ℕ = c.loop-column.made.items in
    kept (is_basic_at c.args.standings.now) column old c.push_column.new.made.items c.loop-column.invariant (c.in_ok-push_column.ensures ∙ ap (λ b. old ++ cond b (column ∷ []) []) c.is_basic.ensures)

pub returns : goal.returns
returns c =
    let last : c.loop-column.column ≡ length c.args.standings.now = omega arith in
    c.loop-column.invariant ∙ ap (λ n. filter (is_basic_at c.args.standings.now) (range_with_len 0 n)) (last ∙ c.requires.each)
