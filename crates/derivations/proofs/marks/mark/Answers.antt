use Rattle.std.proofs.Common.{ℕ, ◌<◌, arith, length, get_or, true, refl, subst, ◌∙◌}
use Rattle.std.specs.Prelude.{◌↔◌, ◌⊎◌}
use Rattle.std.specs.List.{Contains}
use Rattle.std.proofs.lemmas.List.{length-set, take_all}
use Rattle.derivations.specs.machinery.Marks.{IsMarked}
use Rattle.derivations.proofs.MarkLemmas.{mark_more}
use Rattle.derivations.proofs.marks.mark.Goals as goal

pub loop-number-preserved : goal.loop-number-preserved
loop-number-preserved c =
    let i = c.loop-number.number-index in
    let number = get_or c.args.numbers.now i 0 in
    let within : number < length c.loop-number.marks = (let old = c.requires i 0 c.loop-number-test.true in let same = c.loop-number.invariant.0 in omega arith) in
    (length-set c.loop-number.marks number true ∙ c.loop-number.invariant.0, mark_more c.args.marks.now c.loop-number.marks c.args.numbers.now i number c.loop-number-test.true refl within c.loop-number.invariant.1)

pub returns-clause-marked : goal.returns-clause-marked
returns-clause-marked c = subst (λ xs. (m : ℕ) → IsMarked c.loop-number.marks m ↔ (IsMarked c.args.marks.now m ⊎ Contains xs m)) (take_all c.loop-number.number-index c.args.numbers.now c.loop-number-test.false) c.loop-number.invariant.1
