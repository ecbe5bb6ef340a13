use Rattle.std.proofs.Common.{◌≡◌, ap, ◌∙◌, arith, rules, length, flat_map, FitsSigned, List, get_or, ◌++◌}
use Rattle.std.specs.Prelude.{ℤ, pos}
use Rattle.std.specs.Int.{w64}
use Rattle.std.specs.List.{range_with_len}
use Rattle.std.proofs.lemmas.Int.{to_z-of_z}
use Rattle.simplex_core.specs.Answer.{multipliers_at, parts}
use Rattle.simplex_core.specs.Run.{seen_from}
use Rattle.simplex_core.proofs.RangeLemmas.{flat-more}
use Rattle.simplex_core.proofs.ends.multipliers.Goals as goal

pub loop-column-preserved : goal.loop-column-preserved
loop-column-preserved c =
    let fits : FitsSigned w64 c.seen_from.result = search rules in
    let pushed = simp to_z-of_z at c.in_ok-push_parts.ensures in
    let f = multipliers_at c.args.t.now c.args.row c.args.side in
    let column = c.loop-column.column in
    let old : List ℤ = c.loop-column.made.items in
    let row : List ℤ = c.row-entries.result.now in
    let a_fits : FitsSigned w64 (get_or row column (pos 0)) = search rules in
    let told = simp to_z-of_z at c.seen_from.ensures.is in
    let entry : parts c.seen_from.result ≡ f column = ap parts told ∙ ap (λ (r : List ℤ). parts (seen_from c.args.side (get_or r column (pos 0)))) c.row-entries.ensures in
    pushed ∙ ap (λ zs. old ++ zs) entry ∙ flat-more f column old c.loop-column.invariant

pub returns : goal.returns
returns c =
    let f = multipliers_at c.args.t.now c.args.row c.args.side in
    let last : c.loop-column.column ≡ length c.row-entries.result.now = omega arith in
    c.loop-column.invariant ∙ ap (λ n. flat_map f (range_with_len 0 n)) (last ∙ ap length c.row-entries.ensures ∙ (c.table_law.ensures.solved c.args.row c.requires.row).width)
