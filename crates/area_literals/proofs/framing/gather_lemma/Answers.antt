use Rattle.std.proofs.Common.{◌≡◌, ◌≤◌, ap₂, ◌∙◌, arith}
use Rattle.std.proofs.lemmas.Result.{on_ok_weaker}
use Rattle.cube_forms.specs.Cubes.{lemma_at}
use Rattle.lemma_frames.specs.Frames.{level_of, pred_of}
use Rattle.cube_rules.specs.Views.{framed_at}
use Rattle.area_literals.proofs.FrameLemmas.{lemma-gathered, lemma-true, on-it}
use Rattle.area_literals.proofs.framing.gather_lemma.Goals as goal

pub gather-requires : goal.gather-requires
gather-requires c =
    let lemmas = c.args.frames.now.lemmas in
    let e = framed_at lemmas c.args.id in
    let not_low = c.if-level_of-k.false in
    let level = c.level_of.ensures in
    let other = c.if-pred_of-atom.false in
    let pred = c.pred_of.ensures.pred in
    let high : c.args.k ≤ level_of lemmas c.args.id = omega (arith, not_low, level) in
    let same : pred_of lemmas c.args.id ≡ c.args.atom.now.pred = omega (arith, other, pred) in
    lemma-true c.args.k c.args.point.now c.args.atom.now e c.in_ok-form.form (on-it c.args.k c.args.atom.now e high same) c.requires.room c.requires.holds (c.in_ok-form.ensures ∙ ap₂ lemma_at c.as_slice.ensures c.lemma.ensures)

pub returns : goal.returns
returns c =
    let lemmas = c.args.frames.now.lemmas in
    let e = framed_at lemmas c.args.id in
    let not_low = c.if-level_of-k.false in
    let level = c.level_of.ensures in
    let other = c.if-pred_of-atom.false in
    let pred = c.pred_of.ensures.pred in
    let high : c.args.k ≤ level_of lemmas c.args.id = omega (arith, not_low, level) in
    let same : pred_of lemmas c.args.id ≡ c.args.atom.now.pred = omega (arith, other, pred) in
    on_ok_weaker c.gather.result
    (lemma-gathered c.args.k c.args.point.now c.args.atom.now e c.in_ok-form.form c.args.lits.now.items c.gather.new.lits.items (on-it c.args.k c.args.atom.now e high same) (c.in_ok-form.ensures ∙ ap₂ lemma_at c.as_slice.ensures c.lemma.ensures))
    c.gather.ensures
