use Rattle.std.proofs.Common.{◌≡◌, ap, ◌∙◌, arith, flat_map}
use Rattle.std.specs.List.{range_with_len}
use Rattle.simplex_core.specs.Answer.{crossing_at}
use Rattle.simplex_core.proofs.RangeLemmas.{flat-more}
use Rattle.simplex_core.proofs.ends.crossing.Goals as goal

pub loop-c-preserved : goal.loop-c-preserved
loop-c-preserved c =
    c.in_ok-push_crossing.ensures ∙ flat-more (crossing_at c.args.column) c.loop-c.c c.loop-c.made.items c.loop-c.invariant

pub returns : goal.returns
returns c =
    let last : c.loop-c.c ≡ c.args.columns = omega arith in
    c.loop-c.invariant ∙ ap (λ n. flat_map (crossing_at c.args.column) (range_with_len 0 n)) (last ∙ c.requires)
