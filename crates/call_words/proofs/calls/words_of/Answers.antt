use Rattle.std.proofs.Common.{map}
use Rattle.std.specs.String.{string_bytes}
use Rattle.call_words.proofs.ReadLemmas.{said_words, words_within}
use Rattle.call_words.proofs.calls.words_of.Goals as goal

pub returns-clause-read : goal.returns-clause-read
returns-clause-read c = said_words (map string_bytes c.args.words.now) c.in_ok-parsed.parsed c.said-found.result c.in_ok-parsed.ensures c.said-found.ensures

pub returns-clause-within : goal.returns-clause-within
returns-clause-within c =
    words_within (map string_bytes c.args.words.now) c.said-found.result
    (said_words (map string_bytes c.args.words.now) c.in_ok-parsed.parsed c.said-found.result c.in_ok-parsed.ensures c.said-found.ensures)
