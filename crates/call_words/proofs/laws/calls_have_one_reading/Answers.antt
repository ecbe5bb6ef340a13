use Rattle.call_words.proofs.CallLemmas.{one_reading}
use Rattle.call_words.proofs.laws.calls_have_one_reading.Goals as goal

pub returns : goal.returns
returns c = one_reading
