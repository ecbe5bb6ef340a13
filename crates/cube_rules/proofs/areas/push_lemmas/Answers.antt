use Rattle.std.proofs.Common.{◌<◌, ◌≤◌, ◌+◌, length, drop, arith}
use Rattle.cube_rules.specs.Views.{framed_at, lemmas_of}
use Rattle.cube_rules.specs.machinery.Literals.{atom_lits, lemma_lits, roomy_denials}
use Rattle.cube_rules.specs.machinery.Walks.{is_on}
use Rattle.cube_rules.proofs.ViewLemmas.{framed-drop}
use Rattle.cube_rules.proofs.GatherLemmas.{framed-end, gather-end, gather-on}
use Rattle.cube_rules.proofs.UpperLemmas.{none-gathered, nothing-more}
use Rattle.cube_rules.proofs.areas.push_lemmas.Goals as goal

pub returns-then-is_free : goal.returns-then-is_free
returns-then-is_free c =
    let lemmas = c.args.frames.now.lemmas in
    let atom = c.args.atom.now in
    nothing-more c.args.lits.now.items (atom_lits (lemmas_of lemmas) c.args.k atom)
    (none-gathered (is_on c.args.k atom.pred) (λ e. roomy_denials atom.args e.lemma.cube) (lemmas_of lemmas) (c.is_free.ensures c.if-is_free.true))

pub loop-id-preserved : goal.loop-id-preserved
loop-id-preserved c =
    let lemmas = c.args.frames.now.lemmas in
    let id = c.loop-id.id in
    let end = c.count-id-end.ensures in
    let less = c.loop-id-test.true in
    let within : id < length lemmas = omega arith in
    gather-on (lemma_lits c.args.k c.args.atom.now) (drop id (lemmas_of lemmas)) (framed_at lemmas id) (drop (id + 1) (lemmas_of lemmas)) c.loop-id.lits.items _ _ (framed-drop lemmas id within) c.in_ok-push_lemma.ensures c.loop-id.invariant

pub returns : goal.returns
returns c =
    let lemmas = c.args.frames.now.lemmas in
    let id = c.loop-id.id in
    let end = c.count-id-end.ensures in
    let less = c.loop-id-test.false in
    let past : length lemmas ≤ id = omega arith in
    gather-end (lemma_lits c.args.k c.args.atom.now) (drop id (lemmas_of lemmas)) c.loop-id.lits.items _ (framed-end lemmas id past) c.loop-id.invariant
