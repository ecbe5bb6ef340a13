use Rattle.std.proofs.Common.{rules, sym, subst}
use Rattle.std.specs.Prelude.{IsErrOf, Option}
use Rattle.term_tree.specs.declared.evaluation.ValueStop.TheVariants.{ValueWide}
use Rattle.check_derivation.specs.declared.finding.Finding.{Finding}
use Rattle.check_derivation.specs.machinery.Tests.{IsJudged}
use Rattle.check_derivation.proofs.FoundLemmas.{reached_within, told_found, wide_found}
use Rattle.check_derivation.proofs.PartLemmas.{clause_there}
use Rattle.check_derivation.proofs.lines.judged_by.Goals as goal

pub is_right-requires-clause-parts : goal.is_right-requires-clause-parts
is_right-requires-clause-parts c = clause_there c.args.script.now c.requires.clause.0 c.args.clause.now c.arena_law.ensures.arena c.requires.clause.2

pub is_right-requires-clause-there : goal.is_right-requires-clause-there
is_right-requires-clause-there c = reached_within c.args.script.now c.args.lines.now c.args.number c.args.line.now c.requires.reached

pub returns-in-Ok : goal.returns-in-Ok
returns-in-Ok c =
    let script = c.args.script.now in
    let lines = c.args.lines.now in
    subst (λ (found : Option Finding). IsJudged script lines c.args.number c.args.line.now found) (sym c.unless_right.ensures)
    (told_found script lines c.args.number c.args.line.now c.args.clause.now c.requires.clause c.requires.reached c.in-Ok.right (sym c.in-Ok.ensures.is))

pub returns-in-Err-ValueWide : goal.returns-in-Err-ValueWide
returns-in-Err-ValueWide c =
    let term = c.in-Err-ValueWide.term in
    let told : IsErrOf c.is_right.result (ValueWide term) = search rules in
    wide_found c.args.script.now c.args.lines.now c.args.number c.args.line.now c.args.clause.now c.requires.clause term.0 c.requires.reached (c.is_right.ensures.shaped term told) (c.is_right.ensures.wide term told)
