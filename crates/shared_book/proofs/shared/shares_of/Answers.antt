use Rattle.std.proofs.Common.{rules}
use Rattle.std.proofs.lemmas.List.{map-append, replicate_more}
use Rattle.shared_book.proofs.ListLemmas.{range-more}
use Rattle.shared_book.proofs.shared.shares_of.Goals as goal

pub loop-worker-preserved : goal.loop-worker-preserved
loop-worker-preserved g c = search (rules, map-append, range-more, replicate_more)
