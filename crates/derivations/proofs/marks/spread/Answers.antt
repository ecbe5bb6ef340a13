use Rattle.std.proofs.Common.{ℕ, subst}
use Rattle.std.specs.Prelude.{◌↔◌, ◌⊎◌}
use Rattle.std.specs.List.{Contains}
use Rattle.derivations.specs.machinery.Marks.{IsMarked}
use Rattle.derivations.proofs.MarkLemmas.{spread_marked, spread_unmarked}
use Rattle.derivations.proofs.marks.spread.Goals as goal

pub returns : goal.returns
returns c = spread_marked c.args.notes.now c.args.id c.args.at c.args.marks.now c.mark.new.marks c.requires.recorded c.requires.there c.requires.within c.requires.marked c.if-not-marks-at.false c.mark.ensures.long
    (subst (λ ps. (m : ℕ) → IsMarked c.mark.new.marks m ↔ (IsMarked c.args.marks.now m ⊎ Contains ps m)) c.premises.ensures c.mark.ensures.marked)

pub returns-then-not-marks-at : goal.returns-then-not-marks-at
returns-then-not-marks-at c = spread_unmarked c.args.notes.now c.args.id c.args.at c.args.marks.now c.requires.marked c.if-not-marks-at.true
