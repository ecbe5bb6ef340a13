use Rattle.call_check.proofs.JudgedLemmas.{found, part_is_short}
use Rattle.call_check.proofs.found.found_of.Goals as goal

pub returns-in-Judged : goal.returns-in-Judged
returns-in-Judged c = found c.args.nodes c.args.read.now (part_is_short c.args.read.now c.requires.short) c.told-found.result c.told-found.ensures
