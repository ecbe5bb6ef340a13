use Rattle.std.proofs.Common.{◌≡◌, sym, subst}
use Rattle.horn_shape.specs.Clause.{IsLegalScript}
use Rattle.call_gen.proofs.ReadLemmas.{legal_script}
use Rattle.call_gen.proofs.script.checked_of.Goals as goal

pub returns-clause-legal : goal.returns-clause-legal
returns-clause-legal c =
    subst IsLegalScript (sym c.in_ok-script.ensures.is)
    (legal_script c.args.depth c.args.seed (c.generated_terms_are_legal.ensures c.args.depth c.args.seed c.requires.depth))
