use Rattle.std.proofs.Common.{◌+◌, ◌≤◌, length, drop, arith}
use Rattle.cube_rules.specs.Views.{lemmas_of}
use Rattle.cube_rules.specs.machinery.Literals.{atom_lits}
use Rattle.cube_rules.proofs.GatherLemmas.{gather-end, gather-on, rest-end, rest-is}
use Rattle.cube_rules.proofs.areas.frame_lits.Goals as goal

pub loop-atom-preserved : goal.loop-atom-preserved
loop-atom-preserved c =
    let atoms = c.args.atoms.now in
    let i = c.loop-atom.atom-index in
    let atom = c.atom-item.result in
    gather-on (atom_lits (lemmas_of c.args.frames.now.lemmas) c.args.k) (drop i atoms) atom (drop (i + 1) atoms) c.loop-atom.lits.items _ _ (rest-is atoms i atom c.loop-atom-test.true c.atom-item.is) c.in_ok-push_lemmas.ensures c.loop-atom.invariant

pub returns : goal.returns
returns c =
    let atoms = c.args.atoms.now in
    let i = c.loop-atom.atom-index in
    let over = c.loop-atom-test.false in
    let past : length atoms ≤ i = omega arith in
    gather-end (atom_lits (lemmas_of c.args.frames.now.lemmas) c.args.k) (drop i atoms) c.loop-atom.lits.items _ (rest-end atoms i past) c.loop-atom.invariant
