use Rattle.std.proofs.Common.{◌<◌, ◌≤◌, length, ap, sym, ◌∙◌, arith}
use Rattle.std.specs.Prelude.{option_map}
use Rattle.book_rules.specs.declared.by.By.TheVariants.{Lemma}
use Rattle.cube_rules.specs.Views.{framed_at, lemmas_of}
use Rattle.cube_rules.specs.machinery.Walks.{shuts}
use Rattle.cube_rules.proofs.ViewLemmas.{framed_of-at, length-lemmas}
use Rattle.cube_rules.proofs.WalkLemmas.{goes-on, is-found, is-over}
use Rattle.cube_rules.proofs.framed.shut_out.Goals as goal

pub loop-id-preserved : goal.loop-id-preserved
loop-id-preserved c =
    let lemmas = c.args.frames.now.lemmas in
    let id = c.loop-id.id in
    let end = c.count-id-end.ensures in
    let less = c.loop-id-test.true in
    let within : id < length lemmas = omega arith in
    sym (goes-on id (shuts c.args.k c.args.pair.now) (lemmas_of lemmas) id (framed_at lemmas id) (framed_of-at lemmas id within) (sym c.shuts_out.ensures ∙ c.if-shuts_out.false)) ∙ c.loop-id.invariant

pub returns-then-shuts_out : goal.returns-then-shuts_out
returns-then-shuts_out c =
    let lemmas = c.args.frames.now.lemmas in
    let id = c.loop-id.id in
    let end = c.count-id-end.ensures in
    let less = c.loop-id-test.true in
    let within : id < length lemmas = omega arith in
    ap (option_map Lemma) (sym (is-found id (shuts c.args.k c.args.pair.now) (lemmas_of lemmas) id (framed_at lemmas id) (framed_of-at lemmas id within) (sym c.shuts_out.ensures ∙ c.if-shuts_out.true)) ∙ c.loop-id.invariant)

pub returns : goal.returns
returns c =
    let lemmas = c.args.frames.now.lemmas in
    let id = c.loop-id.id in
    let end = c.count-id-end.ensures in
    let less = c.loop-id-test.false in
    let past : length lemmas ≤ id = omega arith in
    ap (option_map Lemma) (sym (is-over id (shuts c.args.k c.args.pair.now) (lemmas_of lemmas) id (omega (arith, past, length-lemmas lemmas))) ∙ c.loop-id.invariant)
