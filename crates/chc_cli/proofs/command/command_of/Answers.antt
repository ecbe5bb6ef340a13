use Rattle.std.proofs.Common.{map, subst}
use Rattle.std.specs.Prelude.{IfSome}
use Rattle.std.specs.String.{string_bytes}
use Rattle.call_words.specs.Properties.{AreWordsOf, IsWithin}
use Rattle.chc_cli.proofs.command.command_of.Goals as goal

pub called-requires-clause-read : goal.called-requires-clause-read
called-requires-clause-read c = subst (λ found. AreWordsOf (map string_bytes c.args.words.now) found) c.in-Ok-Some.field-0-is c.in-Ok-Some.ensures.read

pub called-requires-clause-within : goal.called-requires-clause-within
called-requires-clause-within c = subst (λ found. IfSome found IsWithin) c.in-Ok-Some.field-0-is c.in-Ok-Some.ensures.within

pub returns-in-Ok-None : goal.returns-in-Ok-None
returns-in-Ok-None c =
    let none = subst (λ found. AreWordsOf (map string_bytes c.args.words.now) found) c.in-Ok-None.field-0-is c.in-Ok-None.ensures.read in
    record { solve = none.0; check = none.1; gen = none.2 }
