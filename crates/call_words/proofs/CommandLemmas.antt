-- The command line that `clap` is told of.
use Rattle.std.proofs.Common.{◌≡◌, List, [], Bool, true, false, Option, Some, None, refl, sym, ◌∙◌, ap, ap₂, subst, codes, inl, inr}
use Rattle.std.specs.Prelude.{◌⊎◌}
use Rattle.clap.specs.Faults.{fault_of, is_simple_and_free}
use Rattle.clap.specs.Kinds.{HasKind, IsAmong, Kinds}
use Rattle.clap.specs.Values.{kind_of}
use Rattle.clap.specs.Walk.{Text}
use Rattle.clap.specs.Simple.{App, HasMatchesOf, is_simple, subcommand_of, subcommand_rows_of}
use Rattle.clap.specs.declared.error.Error.{Error}
use Rattle.clap.specs.declared.error.kind.ErrorKind.{ErrorKind}
use Rattle.clap.specs.declared.error.kind.ErrorKind.TheVariants as kind
use Rattle.clap.specs.declared.parser.matches.ArgMatches.{ArgMatches}
use Rattle.call_words.specs.Command.{chc}
use Rattle.call_words.specs.Parsed.{IsParsedAs, IsTaken}

is_free : is_simple_and_free chc ≡ true
is_free = refl

simple : is_simple chc ≡ true
simple = refl

pub taken_as : (app : App) (words : List Text) (m : ArgMatches) → app ≡ chc
    → (is_simple_and_free app ≡ true → fault_of app words ≡ []) → HasMatchesOf app words m → IsParsedAs words (Some m)
taken_as app words m is free has = (
  ap (λ (a : App). fault_of a words) (sym is) ∙ free (ap is_simple_and_free is ∙ is_free),
  (has (ap is_simple is ∙ simple)).1 ∙ ap (λ (a : App). subcommand_of a words) is,
)

among_none : (kinds : Kinds) (k : ErrorKind) → kinds ≡ [] → IsAmong k kinds → ⊥
among_none kinds k none among = subst (IsAmong k) none among

pub refused_as : (app : App) (words : List Text) (e : Error) → app ≡ chc → (kind_of e ≡ kind.OutOfMemory → ⊥)
    → (is_simple_and_free app ≡ true → HasKind (fault_of app words) e) → IsParsedAs words None
refused_as app words e is other free = λ taken.
    elim (free (ap is_simple_and_free is ∙ is_free)) [
      | inl memory ↦ other memory
      | inr among ↦ among_none (fault_of app words) (kind_of e) (ap (λ (a : App). fault_of a words) is ∙ taken) among
    ]

pub refused_found : (app : App) (words : List Text) (e : Error) (found : Option ArgMatches) → app ≡ chc
    → (is_simple_and_free app ≡ true → HasKind (fault_of app words) e) → (found ≡ None) × (kind_of e ≡ kind.OutOfMemory → ⊥) → IsParsedAs words found
refused_found app words e found is free none = subst (IsParsedAs words) (sym none.0) (refused_as app words e is none.1 free)
