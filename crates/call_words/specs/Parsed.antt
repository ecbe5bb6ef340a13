-- What `clap` makes of words.
use Rattle.std.specs.Prelude.{◌≡◌, List, [], Option, Some, None}
use Rattle.clap.specs.Walk.{Row, Text}
use Rattle.clap.specs.Simple.{subcommand_of, subcommand_rows_of}
use Rattle.clap.specs.Faults.{fault_of}
use Rattle.clap.specs.declared.parser.matches.ArgMatches.{ArgMatches}
use Rattle.call_words.specs.Command.{chc}

-- `clap` refuses the words for no cause of its own
abbrev pub IsTaken : List Text → Type 0
IsTaken words = fault_of chc words ≡ []

-- `clap` takes the words: they name this command, and give these options
abbrev pub Names : List Text → Text → List Row → Type 0
Names words name options = IsTaken words × (subcommand_of chc words ≡ Some (name, options))

-- what was parsed, or that the words are refused
abbrev pub IsParsedAs : List Text → Option ArgMatches → Type 0
IsParsedAs words None = IsTaken words → ⊥
IsParsedAs words (Some matches) = IsTaken words × (subcommand_rows_of matches ≡ subcommand_of chc words)
