use Rattle.std.proofs.Common.{◌≡◌, ◌-◌, List, length, Some, ap, sym, ◌∙◌, subst}
use Rattle.std.specs.Prelude.{ℤ, slice_get}
use Rattle.std.specs.List.{list_all}
use Rattle.lin_atoms.specs.Truth.{lit_is_below, lit_truth}
use Rattle.lin_atoms.specs.declared.lit.Lit.{Lit}
use Rattle.clause_form.specs.declared.clause.Clause.{Clause}
use Rattle.chc_tokens.specs.Kept.{seen_clause, seen_point}
use Rattle.area_literals.specs.Areas.{IsAreaOf}
use Rattle.step_rules.specs.Views.{facts_of, lemmas_of}
use Rattle.step_rules.proofs.PlaceLemmas.{few-arguments}
use Rattle.obligation_turn.specs.machinery.Jobs.{job_of}
use Rattle.obligation_turn.specs.machinery.Opens.{IsCubeOf}
use Rattle.obligation_turn.proofs.OpenedLemmas.{area-holds, atom-at, opens-lent, point-is-short}
use Rattle.obligation_turn.proofs.TurnLemmas.{clause-lent, within-lent}
use Rattle.obligation_turn.proofs.opening.opened.Goals as goal

pub clause-clause-requires : goal.clause-clause-requires
clause-clause-requires c = within-lent _ c.args.lent.now c.args.job c.args.seen c.clause.result c.lent.view_is c.requires.hit c.clause.ensures

pub projected-requires-clause-holds : goal.projected-requires-clause-holds
projected-requires-clause-holds c =
    ap (list_all (lit_truth c.point.result.now)) c.as_slice-2.ensures.value
    ∙ area-holds c.args.lent.now c.args.seen c.clause.result c.clause-clause.result.now _ _ _ c.point.result.now c.in_ok-lits.lits.items c.clause.ensures
    (clause-lent _ c.args.lent.now c.clause.result c.clause-clause.result.now c.lent.view_is c.clause-clause.ensures.is) c.in_ok-lits.ensures.area c.point.ensures

pub projected-requires-clause-below : goal.projected-requires-clause-below
projected-requires-clause-below c =
    ap (list_all (lit_is_below (length c.point.result.now))) c.as_slice-2.ensures.value ∙ ap (λ (p : List ℤ). list_all (lit_is_below (length p)) c.in_ok-lits.lits.items) c.point.ensures ∙ c.in_ok-lits.ensures.below

pub projected-requires-clause-short : goal.projected-requires-clause-short
projected-requires-clause-short c = point-is-short c.args.lent.now c.args.job c.args.seen _ c.requires.hit c.point.ensures

pub new_cube-requires-clause-few : goal.new_cube-requires-clause-few
new_cube-requires-clause-few c =
    few-arguments _ c.clause-clause.result.now c.args.number c.index-as_slice-number.result c.clause-clause.ensures.legal
    (atom-at _ c.args.lent.now _ c.args.seen c.args.number c.clause.result c.clause-clause.result.now c.as_slice.result.now c.index-as_slice-number.result c.lent.view_is c.requires.missing c.clause.ensures c.clause-clause.ensures.is c.as_slice.ensures
    c.index-as_slice-number.is)

pub new_cube-requires-clause-values : goal.new_cube-requires-clause-values
new_cube-requires-clause-values c = point-is-short c.args.lent.now c.args.job c.args.seen _ c.requires.hit c.point-2.ensures

pub returns : goal.returns
returns c =
    let b = c.args.lent.now in
    let seen = c.args.seen in
    let clause = c.clause-clause.result.now in
    let atom = c.index-as_slice-number.result in
    let point = c.point.result.now in
    let area = c.in_ok-area.area in
    let cube = c.in_ok-cube.cube in
    let at =
    atom-at _ b _ seen c.args.number c.clause.result clause c.as_slice.result.now atom c.lent.view_is c.requires.missing c.clause.ensures c.clause-clause.ensures.is c.as_slice.ensures c.index-as_slice-number.is in
    let covers =
    subst (λ (ls : List Lit). (own : Clause) → slice_get b.system.clauses (seen_clause seen) ≡ Some own → IsAreaOf own (job_of b c.args.job).cube (lemmas_of b.frames.lemmas) ((job_of b c.args.job).level - 1) (seen_point seen) ls)
    (sym (c.in_ok-area.ensures.lits ∙ c.as_slice-2.ensures.value)) c.in_ok-lits.ensures.area in
    let cube_of = subst (λ (p : List ℤ). IsCubeOf (facts_of c.lent.inside.facts.now) atom area p cube) (c.point-2.ensures ∙ sym c.point.ensures) c.in_ok-cube.ensures in
    λ nodes. opens-lent _ b c.args.job nodes c.args.number c.clause.result seen clause atom point cube area c.lent.view_is c.requires.goes_on c.requires.leaf c.clauses-clauses.ensures.legal c.requires.hit c.requires.missing c.clause.ensures c.clause-clause.ensures.is at
    c.point.ensures covers c.in_ok-area.ensures.model c.in_ok-area.ensures.keep c.in_ok-area.ensures.projected cube_of
