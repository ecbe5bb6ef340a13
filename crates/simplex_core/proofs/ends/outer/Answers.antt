use Rattle.std.proofs.Common.{◌≡◌, ap, ◌∙◌, arith, rules, length, filter, map, FitsSigned, List, ◌++◌, ◌∷◌, [], cond}
use Rattle.std.specs.Prelude.{ℤ, not}
use Rattle.std.specs.Int.{w128}
use Rattle.std.specs.List.{range_with_len}
use Rattle.std.proofs.lemmas.Int.{to_z-of_z}
use Rattle.simplex_core.specs.Answer.{is_outside_at}
use Rattle.simplex_core.specs.Run.{moment, stood_at}
use Rattle.simplex_core.proofs.RangeLemmas.{picked-more}
use Rattle.simplex_core.proofs.ends.outer.Goals as goal

pub loop-column-preserved : goal.loop-column-preserved
loop-column-preserved c =
    let fits : FitsSigned w128 c.stood_at.result = search rules in
    let pushed = simp to_z-of_z at c.in_ok-push_value.ensures in
    let m = moment c.args.t.now c.args.standings.now in
    let column = c.loop-column.column in
    let old : List ℤ = c.loop-column.made.items in
    picked-more (stood_at m) (is_outside_at c.args.standings.now) column old c.push_value.new.made.items c.loop-column.invariant
    (pushed ∙ ap (λ b. old ++ cond (not b) (c.stood_at.result ∷ []) []) c.is_basic.ensures ∙ ap (λ z. old ++ cond (is_outside_at c.args.standings.now column) (z ∷ []) []) c.stood_at.ensures.is)

pub returns : goal.returns
returns c =
    let m = moment c.args.t.now c.args.standings.now in
    let last : c.loop-column.column ≡ length c.args.standings.now = omega arith in
    c.loop-column.invariant ∙ ap (λ n. map (stood_at m) (filter (is_outside_at c.args.standings.now) (range_with_len 0 n))) (last ∙ c.requires)
