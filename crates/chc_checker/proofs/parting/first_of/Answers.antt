use Rattle.chc_checker.proofs.PartLemmas.{among_taken}
use Rattle.chc_checker.proofs.parting.first_of.Goals as goal

pub returns : goal.returns
returns c = among_taken c.min.result c.args.forms.now
