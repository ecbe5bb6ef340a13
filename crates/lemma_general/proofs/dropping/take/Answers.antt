use Rattle.std.proofs.Common.{◌≡◌, ◌-◌, ◌∙◌, List, true, refl, sym, subst}
use Rattle.std.specs.List.{list_any}
use Rattle.cube_forms.specs.Cubes.{cube_holds}
use Rattle.lemma_general.specs.machinery.Passes.{IsAnswerOf}
use Rattle.lemma_general.specs.declared.breaking.Breaking.{Breaking}
use Rattle.lemma_general.proofs.TakeLemmas.{lost-against, met-against}
use Rattle.lemma_general.proofs.dropping.take.Goals as goal

pub returns-then-is_met-clause-taken : goal.returns-then-is_met-clause-taken
returns-then-is_met-clause-taken c =
    let met = subst (λ (xs : List Breaking). list_any (λ (one : Breaking). cube_holds one.tuple c.args.cube.now) xs ≡ true) c.as_slice.ensures (sym c.is_met.ensures ∙ c.if-is_met.true) in
    (refl, met-against c.args.lent.now c.args.nodes c.args.part.now c.args.cube.now c.args.met.now c.requires.cube c.is_kept.ensures c.requires.met met)

pub keep-requires-clause-hit : goal.keep-requires-clause-hit
keep-requires-clause-hit c = subst (IsAnswerOf c.args.lent.now (c.args.part.now).pred c.args.cube.now ((c.args.part.now).level - 1) c.args.nodes) c.in-Instance.is c.in_ok-found.ensures

pub replace-requires-clause-proofs : goal.replace-requires-clause-proofs
replace-requires-clause-proofs c = subst (IsAnswerOf c.args.lent.now (c.args.part.now).pred c.args.cube.now ((c.args.part.now).level - 1) c.args.nodes) c.in-Refuted.is c.in_ok-found.ensures

pub returns-in-GivenUp-clause-taken : goal.returns-in-GivenUp-clause-taken
returns-in-GivenUp-clause-taken c =
    let old = c.args.part.now in
    (refl, lost-against c.args.lent.now old.pred (old.level - 1) c.args.nodes c.args.cube.now c.in-GivenUp.lost (subst (IsAnswerOf c.args.lent.now old.pred c.args.cube.now (old.level - 1) c.args.nodes) c.in-GivenUp.is c.in_ok-found.ensures))
