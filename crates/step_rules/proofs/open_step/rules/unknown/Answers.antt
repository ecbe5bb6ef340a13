use Rattle.std.proofs.Common.{◌<◌, ◌≤◌, length, ap, sym, ◌∙◌, arith}
use Rattle.std.specs.Prelude.{option_map}
use Rattle.book_rules.specs.declared.by.By.TheVariants.{Lemma}
use Rattle.cube_rules.specs.Views.{framed_at, lemmas_of}
use Rattle.step_rules.specs.machinery.Walks.{is_unknown}
use Rattle.cube_rules.proofs.Public.{framed_of-at, length-lemmas}
use Rattle.cube_rules.proofs.Public.{goes-on, is-found, is-over}
use Rattle.step_rules.proofs.open_step.rules.unknown.Goals as goal

pub loop-id-preserved : goal.loop-id-preserved
loop-id-preserved c =
    let lemmas = c.args.frames.now.lemmas in
    let id = c.loop-id.id in
    let end = c.count-id-end.ensures in
    let less = c.loop-id-test.true in
    let within : id < length lemmas = omega arith in
    sym (goes-on id (is_unknown c.args.k c.args.step.now.area c.args.atom.now) (lemmas_of lemmas) id (framed_at lemmas id) (framed_of-at lemmas id within) (sym c.in_ok-unknown.ensures ∙ c.if-unknown.false)) ∙ c.loop-id.invariant

pub returns-then-unknown : goal.returns-then-unknown
returns-then-unknown c =
    let lemmas = c.args.frames.now.lemmas in
    let id = c.loop-id.id in
    let end = c.count-id-end.ensures in
    let less = c.loop-id-test.true in
    let within : id < length lemmas = omega arith in
    ap (option_map Lemma) (sym (is-found id (is_unknown c.args.k c.args.step.now.area c.args.atom.now) (lemmas_of lemmas) id (framed_at lemmas id) (framed_of-at lemmas id within) (sym c.in_ok-unknown.ensures ∙ c.if-unknown.true)) ∙ c.loop-id.invariant)

pub returns : goal.returns
returns c =
    let lemmas = c.args.frames.now.lemmas in
    let id = c.loop-id.id in
    let end = c.count-id-end.ensures in
    let less = c.loop-id-test.false in
    let past : length lemmas ≤ id = omega arith in
    ap (option_map Lemma) (sym (is-over id (is_unknown c.args.k c.args.step.now.area c.args.atom.now) (lemmas_of lemmas) id (omega (arith, past, length-lemmas lemmas))) ∙ c.loop-id.invariant)
