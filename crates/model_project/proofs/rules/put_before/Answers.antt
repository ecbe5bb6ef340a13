use Rattle.std.proofs.Common.{◌≡◌, rules, true, arith}
use Rattle.lin_atoms.specs.Linear.{is_short}
use Rattle.model_project.proofs.CrossLemmas.{narrow_eq}
use Rattle.model_project.proofs.JudgeLemmas.{put_before_from}
use Rattle.model_project.proofs.rules.put_before.Goals as goal

pub returns-clause-made : goal.returns-clause-made
returns-clause-made c =
    let e = c.args.equation in
    let small : is_short e.constant ≡ true = first_of (search rules, grind (arith, c.narrow.ensures.none, c.if-is_none.false, c.constant.ensures.is)) in
    put_before_from c.args.variable e c.in_ok-upright.upright c.args.lits.now.items c.substitute.new.lits.items c.put_first.new.lits.items c.in_ok-left.left c.in_ok-upright.ensures.made c.requires.has (narrow_eq e c.terms-terms.ensures.legal small)
    c.in_ok-left.ensures.made c.in_ok-substitute.ensures.made c.in_ok-put_first.ensures
