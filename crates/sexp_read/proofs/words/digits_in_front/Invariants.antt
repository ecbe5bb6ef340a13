use Rattle.std.proofs.Common.{◌≡◌, ◌+◌, drop}
use Rattle.sexp_read.specs.Lexicon.{digits_in_front}
use Rattle.sexp_read.proofs.words.digits_in_front.Given as goal

abbrev pub invariant-loop-byte : goal.invariant-loop-byte
invariant-loop-byte l = record {
  counted : l.count ≡ l.byte-index;
  rest : l.count + digits_in_front (drop l.byte-index l.bytes) ≡ digits_in_front l.bytes;
}
