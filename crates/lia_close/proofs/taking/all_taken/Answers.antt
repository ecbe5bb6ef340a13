use Rattle.std.proofs.Common.{◌++◌, ◌∙◌, ap, sym, List}
use Rattle.lia_close.specs.declared.side.Taken.{Taken}
use Rattle.lia_close.specs.machinery.Taken.{taken_of}
use Rattle.lia_close.proofs.StepLemmas.{flat-range}
use Rattle.lia_close.proofs.taking.all_taken.Goals as goal

pub loop-variable-preserved : goal.loop-variable-preserved
loop-variable-preserved c =
    let readied = c.args.readied.now in
    let ms = c.args.multipliers.now in
    c.in_ok-take_variable.ensures ∙ ap (λ (ts : List Taken). ts ++ taken_of readied ms c.loop-variable.variable) c.loop-variable.invariant ∙ sym (flat-range (taken_of readied ms) c.loop-variable.variable)
