use Rattle.std.proofs.Common.{◌≡◌, ◌-◌, sym, ◌∙◌, arith, suc, true, false}
use Rattle.model_project.specs.Projection.{is_kept}
use Rattle.model_project.proofs.LoopLemmas.{eliminated_kept, eliminated_more, eliminated_stop}
use Rattle.model_project.proofs.RuleLemmas.{removed_step}
use Rattle.model_project.proofs.elimination.eliminate.Goals as goal

pub loop-variable-preserved-then-is_kept : goal.loop-variable-preserved-then-is_kept
loop-variable-preserved-then-is_kept c =
    let n = c.loop-variable.variable in
    let lits = c.loop-variable.lits.items in
    let inv = c.loop-variable.invariant in
    let next : n ≡ suc (n - 1) = omega (arith, c.loop-variable-test.true) in
    let is : is_kept c.args.keep.now (n - 1) ≡ true = sym c.is_kept.ensures ∙ c.if-is_kept.true in
    record { told = eliminated_kept c.args.model.now c.args.keep.now (n - 1) n lits _ next is inv.told; narrow = inv.narrow; divisors = inv.divisors; holds = inv.holds }

pub loop-variable-preserved : goal.loop-variable-preserved
loop-variable-preserved c =
    let n = c.loop-variable.variable in
    let lits = c.loop-variable.lits.items in
    let new = c.removed.new.lits.items in
    let inv = c.loop-variable.invariant in
    let next : n ≡ suc (n - 1) = omega (arith, c.loop-variable-test.true) in
    let free : is_kept c.args.keep.now (n - 1) ≡ false = sym c.is_kept.ensures ∙ c.if-is_kept.false in
    let step = removed_step c.args.model.now (n - 1) lits new inv.divisors inv.holds c.in-Ok.ensures.made in
    record {
      told = eliminated_more c.args.model.now c.args.keep.now (n - 1) n lits new _ next free c.in-Ok.ensures.made inv.told;
      narrow = step.narrow inv.narrow;
      divisors = step.divisors inv.divisors;
      holds = step.has_model;
    }

pub returns-in-Err-clause-wide : goal.returns-in-Err-clause-wide
returns-in-Err-clause-wide c = λ wide.
    let n = c.loop-variable.variable in
    let lits = c.loop-variable.lits.items in
    let inv = c.loop-variable.invariant in
    let next : n ≡ suc (n - 1) = omega (arith, c.loop-variable-test.true) in
    let free : is_kept c.args.keep.now (n - 1) ≡ false = sym c.is_kept.ensures ∙ c.if-is_kept.false in
    eliminated_stop c.args.model.now c.args.keep.now (n - 1) n lits _ next free (c.in-Err.ensures.wide wide) inv.told
