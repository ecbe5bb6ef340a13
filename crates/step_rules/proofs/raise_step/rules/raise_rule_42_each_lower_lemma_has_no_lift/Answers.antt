use Rattle.std.proofs.Common.{◌<◌, ◌≤◌, ◌+◌, length, drop, Some, None, refl, sym, ◌∙◌, arith, ◌≡◌, ap}
use Rattle.step_rules.specs.Standing.{Standing}
use Rattle.cube_rules.specs.Views.{framed_at, lemmas_of}
use Rattle.cube_rules.proofs.Public.{framed-end}
use Rattle.step_rules.proofs.RaiseLemmas.{placed-on, placed-left}
use Rattle.cube_rules.proofs.Public.{framed-drop}
use Rattle.step_rules.proofs.raise_step.rules.raise_rule_42_each_lower_lemma_has_no_lift.Goals as goal

pub returns-in-Some : goal.returns-in-Some
returns-in-Some c =
    let nodes = c.args.parts.now in
    let lemmas = nodes.frames.lemmas in
    let id = c.loop-id.id in
    let end = c.count-id-end.ensures in
    let less = c.loop-id-test.true in
    let same : length c.parts.inside.frames.now.lemmas ≡ length lemmas = ap (λ (s : Standing). length s.frames.lemmas) c.parts.view_is in
    let within : id < length lemmas = omega (arith, same) in
    sym (placed-on nodes.system nodes.level id (framed_at lemmas id) (drop id (lemmas_of lemmas)) (drop (id + 1) (lemmas_of lemmas)) c.as_slice-kept.result.now c.loop-id.place _ (Some c.in-Some.by) (framed-drop lemmas id within) c.in-Some.ensures refl) ∙ c.loop-id.invariant.0

pub loop-id-preserved : goal.loop-id-preserved
loop-id-preserved c =
    let nodes = c.args.parts.now in
    let lemmas = nodes.frames.lemmas in
    let id = c.loop-id.id in
    let end = c.count-id-end.ensures in
    let less = c.loop-id-test.true in
    let same : length c.parts.inside.frames.now.lemmas ≡ length lemmas = ap (λ (s : Standing). length s.frames.lemmas) c.parts.view_is in
    let within : id < length lemmas = omega (arith, same) in
    (sym (placed-on nodes.system nodes.level id (framed_at lemmas id) (drop id (lemmas_of lemmas)) (drop (id + 1) (lemmas_of lemmas)) c.as_slice-kept.result.now c.loop-id.place c.next_place-place.result None (framed-drop lemmas id within) c.in-None.ensures c.next_place-place.ensures.is) ∙ c.loop-id.invariant.0, c.next_place-place.ensures.room)

pub returns-then-place-kept : goal.returns-then-place-kept
returns-then-place-kept c =
    let nodes = c.args.parts.now in
    let lemmas = nodes.frames.lemmas in
    let id = c.loop-id.id in
    let end = c.count-id-end.ensures in
    let less = c.loop-id-test.false in
    let same : length c.parts.inside.frames.now.lemmas ≡ length lemmas = ap (λ (s : Standing). length s.frames.lemmas) c.parts.view_is in
    let past : length lemmas ≤ id = omega (arith, same) in
    sym (placed-left nodes.system nodes.level id (drop id (lemmas_of lemmas)) c.as_slice-kept.result.now c.loop-id.place (framed-end lemmas id past) c.if-place-kept.true) ∙ c.loop-id.invariant.0
