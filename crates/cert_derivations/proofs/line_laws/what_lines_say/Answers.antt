use Rattle.cert_derivations.proofs.BackLemmas.{derived_lines, right_lines}
use Rattle.cert_derivations.proofs.line_laws.what_lines_say.Goals as goal

pub returns : goal.returns
returns c = λ script lines. (derived_lines script lines, right_lines script lines)
