use Rattle.std.proofs.Common.{◌<◌, ◌≤◌, ◌+◌, length, drop, arith}
use Rattle.cube_rules.specs.Views.{framed_at, lemmas_of}
use Rattle.cube_rules.proofs.Public.{all_at, framed-drop, framed-end, framed_of-at}
use Rattle.area_literals.specs.Areas.{accepts_on, fits_on, is_known_on}
use Rattle.area_literals.specs.machinery.Growing.{stands_on}
use Rattle.area_literals.proofs.FrameLemmas.{known-more}
use Rattle.area_literals.proofs.LoopLemmas.{at-end, under-way}
use Rattle.area_literals.proofs.framing.gather_frame.Goals as goal

pub gather_lemma-requires-clause-room : goal.gather_lemma-requires-clause-room
gather_lemma-requires-clause-room c =
    let lemmas = c.args.frames.now.lemmas in
    let id = c.loop-id.id in
    let end = c.count-id-end.ensures in
    let less = c.loop-id-test.true in
    let within : id < length lemmas = omega arith in
    all_at (fits_on c.args.k c.args.atom.now) (lemmas_of lemmas) id (framed_at lemmas id) (framed_of-at lemmas id within) c.requires.room

pub gather_lemma-requires-clause-holds : goal.gather_lemma-requires-clause-holds
gather_lemma-requires-clause-holds c =
    let lemmas = c.args.frames.now.lemmas in
    let id = c.loop-id.id in
    let end = c.count-id-end.ensures in
    let less = c.loop-id-test.true in
    let within : id < length lemmas = omega arith in
    all_at (accepts_on c.args.k c.args.point.now c.args.atom.now) (lemmas_of lemmas) id (framed_at lemmas id) (framed_of-at lemmas id within) c.requires.holds

pub loop-id-preserved : goal.loop-id-preserved
loop-id-preserved c =
    let lemmas = c.args.frames.now.lemmas in
    let id = c.loop-id.id in
    let end = c.count-id-end.ensures in
    let less = c.loop-id-test.true in
    let within : id < length lemmas = omega arith in
    let e = framed_at lemmas id in
    under-way c.args.point.now (stands_on c.args.k c.args.atom.now) (is_known_on c.args.k c.args.atom.now) (lemmas_of lemmas) _ (drop id (lemmas_of lemmas)) c.loop-id.lits.items e (drop (id + 1) (lemmas_of lemmas)) c.gather_lemma.new.lits.items
    (known-more c.args.k c.args.atom.now e) (framed-drop lemmas id within) c.in_ok-gather_lemma.ensures c.loop-id.invariant

pub returns : goal.returns
returns c =
    let lemmas = c.args.frames.now.lemmas in
    let id = c.loop-id.id in
    let end = c.count-id-end.ensures in
    let over = c.loop-id-test.false in
    let past : length lemmas ≤ id = omega arith in
    at-end c.args.point.now (stands_on c.args.k c.args.atom.now) (is_known_on c.args.k c.args.atom.now) (lemmas_of lemmas) _ (drop id (lemmas_of lemmas)) c.loop-id.lits.items (framed-end lemmas id past) c.loop-id.invariant
