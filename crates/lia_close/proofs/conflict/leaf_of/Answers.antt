use Rattle.std.proofs.Common.{FitsSigned, get_or, rules}
use Rattle.std.specs.Prelude.{pos}
use Rattle.std.specs.Int.{w64}
use Rattle.std.proofs.lemmas.Int.{to_z-of_z}
use Rattle.lia_close.specs.declared.side.Side.TheVariants.{Lower}
use Rattle.lia_close.specs.declared.side.Taken.{Taken}
use Rattle.lia_close.specs.machinery.Closing.{all_leaf}
use Rattle.lia_close.proofs.StepLemmas.{leaf-next}
use Rattle.lia_close.proofs.conflict.leaf_of.Goals as goal

pub loop-one-preserved : goal.loop-one-preserved
loop-one-preserved c =
    let none : Taken = record { literal = 0; side = Lower; times = pos 0 } in
    let i = c.loop-one.one-index in
    let fits : FitsSigned w64 (get_or c.args.taken.now i none).times = search rules in
    let more = simp to_z-of_z at c.in_ok-take.ensures in
    leaf-next c.args.lits.now c.args.reasons.now c.args.known c.args.taken.now i none c.index-lits-at.result (c.loop-one.leaf.roundings.items, c.loop-one.leaf.multipliers.items) (c.take.new.self.roundings.items, c.take.new.self.multipliers.items)
    (all_leaf c.args.lits.now c.args.reasons.now c.args.known c.args.taken.now) c.loop-one-test.true (c.requires.there i none c.loop-one-test.true) c.index-lits-at.is more c.loop-one.invariant
