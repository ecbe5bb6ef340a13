use Rattle.std.proofs.Common.{◌<◌, ◌≤◌, ◌+◌, length, drop, Some, None, refl, sym, ◌∙◌, arith, ◌≡◌, ap}
use Rattle.book_rules.specs.RaiseRules.{seen_outside}
use Rattle.step_rules.specs.Standing.{Standing, standing_state}
use Rattle.cube_rules.specs.Views.{framed_at, lemmas_of}
use Rattle.cube_rules.proofs.Public.{framed-end}
use Rattle.step_rules.proofs.RaiseLemmas.{pairs-on, pairs-end}
use Rattle.cube_rules.proofs.Public.{framed-drop}
use Rattle.step_rules.proofs.raise_step.rules.raise_rule_43_no_lemma_shuts_instance_out.Goals as goal

pub returns-in-Some : goal.returns-in-Some
returns-in-Some c =
    let nodes = c.args.parts.now in
    let lemmas = nodes.frames.lemmas in
    let id = c.loop-id.id in
    let end = c.count-id-end.ensures in
    let less = c.loop-id-test.true in
    let same : length c.parts.inside.frames.now.lemmas ≡ length lemmas = ap (λ (s : Standing). length s.frames.lemmas) c.parts.view_is in
    let within : id < length lemmas = omega (arith, same) in
    let told = rw c.in-Some.is at c.in_ok-by.ensures in
    sym (pairs-on (seen_outside nodes.system (standing_state nodes)) nodes.level id (framed_at lemmas id) (drop id (lemmas_of lemmas)) (drop (id + 1) (lemmas_of lemmas)) c.as_slice-kept.result.now c.loop-id.place _ (Some c.in-Some.by) (framed-drop lemmas id within) told refl) ∙ c.loop-id.invariant.0

pub loop-id-preserved : goal.loop-id-preserved
loop-id-preserved c =
    let nodes = c.args.parts.now in
    let lemmas = nodes.frames.lemmas in
    let id = c.loop-id.id in
    let end = c.count-id-end.ensures in
    let less = c.loop-id-test.true in
    let same : length c.parts.inside.frames.now.lemmas ≡ length lemmas = ap (λ (s : Standing). length s.frames.lemmas) c.parts.view_is in
    let within : id < length lemmas = omega (arith, same) in
    let told = rw c.in-None.is at c.in_ok-by.ensures in
    (sym (pairs-on (seen_outside nodes.system (standing_state nodes)) nodes.level id (framed_at lemmas id) (drop id (lemmas_of lemmas)) (drop (id + 1) (lemmas_of lemmas)) c.as_slice-kept.result.now c.loop-id.place c.next_place-place.result None (framed-drop lemmas id within) told c.next_place-place.ensures.is) ∙ c.loop-id.invariant.0, c.next_place-place.ensures.room)

pub returns : goal.returns
returns c =
    let nodes = c.args.parts.now in
    let lemmas = nodes.frames.lemmas in
    let id = c.loop-id.id in
    let end = c.count-id-end.ensures in
    let less = c.loop-id-test.false in
    let same : length c.parts.inside.frames.now.lemmas ≡ length lemmas = ap (λ (s : Standing). length s.frames.lemmas) c.parts.view_is in
    let past : length lemmas ≤ id = omega (arith, same) in
    sym (pairs-end (seen_outside nodes.system (standing_state nodes)) nodes.level id (drop id (lemmas_of lemmas)) c.as_slice-kept.result.now c.loop-id.place (framed-end lemmas id past)) ∙ c.loop-id.invariant.0
