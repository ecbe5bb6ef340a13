use Rattle.std.proofs.Common.{◌≤◌, ◌+◌, length, drop, arith}
use Rattle.std.specs.List.{list_any}
use Rattle.cube_rules.specs.Views.{lemmas_of}
use Rattle.area_literals.specs.Areas.{all_known_on}
use Rattle.area_literals.specs.machinery.Growing.{stands_on}
use Rattle.area_literals.proofs.FrameLemmas.{all-known-more}
use Rattle.area_literals.proofs.LoopLemmas.{at-end, rest-end, rest-is, under-way}
use Rattle.area_literals.proofs.framing.gather_frames.Goals as goal

pub loop-atom-preserved : goal.loop-atom-preserved
loop-atom-preserved c =
    let es = lemmas_of c.args.frames.now.lemmas in
    let atoms = c.args.atoms.now in
    let i = c.loop-atom.atom-index in
    let atom = c.atom-item.result in
    under-way c.args.point.now (λ atom lit. list_any (λ e. stands_on c.args.k atom e lit) es) (all_known_on c.args.k es) atoms _ (drop i atoms) c.loop-atom.lits.items atom (drop (i + 1) atoms) c.gather_frame.new.lits.items
    (all-known-more c.args.k es atom) (rest-is atoms i atom c.loop-atom-test.true c.atom-item.is) c.in_ok-gather_frame.ensures c.loop-atom.invariant

pub returns : goal.returns
returns c =
    let es = lemmas_of c.args.frames.now.lemmas in
    let atoms = c.args.atoms.now in
    let i = c.loop-atom.atom-index in
    let over = c.loop-atom-test.false in
    let past : length atoms ≤ i = omega arith in
    at-end c.args.point.now (λ atom lit. list_any (λ e. stands_on c.args.k atom e lit) es) (all_known_on c.args.k es) atoms _ (drop i atoms) c.loop-atom.lits.items (rest-end atoms i past) c.loop-atom.invariant
