use Rattle.std.proofs.Common.{◌≡◌, ap, ◌∙◌, arith, rules, length, FitsSigned, map, true, refl, [], ◌∷◌}
use Rattle.std.specs.Int.{w128}
use Rattle.std.specs.List.{list_all, range_with_len}
use Rattle.std.proofs.lemmas.Bool.{and_from, lt-ltb}
use Rattle.std.proofs.lemmas.Int.{to_z-of_z}
use Rattle.std.proofs.lemmas.List.Folds.{list_all-append}
use Rattle.lin_atoms.specs.Linear.{is_long}
use Rattle.simplex_core.specs.Run.{moment, stood_at, values}
use Rattle.simplex_core.proofs.RangeLemmas.{made-more}
use Rattle.simplex_core.proofs.place.values.Goals as goal

pub loop-column-preserved : goal.loop-column-preserved
loop-column-preserved c =
    let m = moment c.args.t.now c.args.standings.now in
    let fits : FitsSigned w128 c.stood_at.result = search rules in
    let pushed = simp to_z-of_z at c.in_ok-push.ensures.items in
    let one : is_long c.stood_at.result ≡ true = lt-ltb _ _ c.stood_at.ensures.long in
    record {
      is = pushed ∙ made-more (stood_at m) c.loop-column.column c.loop-column.made.items c.stood_at.result c.loop-column.invariant.is c.stood_at.ensures.is;
      long = ap (list_all is_long) pushed ∙ list_all-append is_long c.loop-column.made.items (c.stood_at.result ∷ []) ∙ and_from _ _ c.loop-column.invariant.long (and_from _ _ one refl);
    }

pub returns-clause-is : goal.returns-clause-is
unfolding values
returns-clause-is c =
    let m = moment c.args.t.now c.args.standings.now in
    let last : c.loop-column.column ≡ length c.args.standings.now = omega arith in
    c.loop-column.invariant.is ∙ ap (λ n. map (stood_at m) (range_with_len 0 n)) (last ∙ c.requires)

pub returns-clause-long : goal.returns-clause-long
returns-clause-long c = c.loop-column.invariant.long
