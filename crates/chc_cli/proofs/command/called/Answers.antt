use Rattle.std.proofs.Common.{map, arith, subst}
use Rattle.std.specs.Prelude.{Some}
use Rattle.std.specs.String.{string_bytes}
use Rattle.call_words.specs.Properties.{AreWordsOf, IsWithin}
use Rattle.chc_cli.proofs.command.called.Goals as goal

pub returns-in-Solve : goal.returns-in-Solve
returns-in-Solve c = (subst (λ w. AreWordsOf (map string_bytes c.args.words.now) (Some w)) c.in-Solve.is c.requires.read, subst IsWithin c.in-Solve.is c.requires.within)

pub returns-in-Check : goal.returns-in-Check
returns-in-Check c =
    let within = subst IsWithin c.in-Check.is c.requires.within in
    (subst (λ w. AreWordsOf (map string_bytes c.args.words.now) (Some w)) c.in-Check.is c.requires.read, omega (arith, within.0))

pub returns-in-Gen : goal.returns-in-Gen
returns-in-Gen c =
    let within = subst IsWithin c.in-Gen.is c.requires.within in
    (subst (λ w. AreWordsOf (map string_bytes c.args.words.now) (Some w)) c.in-Gen.is c.requires.read, within.0, omega (arith, within.1))
