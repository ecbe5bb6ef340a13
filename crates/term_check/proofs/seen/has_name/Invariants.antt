use Rattle.std.proofs.Common.{◌≡◌, drop, map}
use Rattle.term_check.specs.Words.{is_word_among}
use Rattle.term_check.proofs.seen.has_name.Given as goal

abbrev pub invariant-loop-one : goal.invariant-loop-one
invariant-loop-one l = is_word_among (map (λ one. one.now) (drop l.one-index l.few)) l.name ≡ is_word_among (map (λ one. one.now) l.few) l.name
