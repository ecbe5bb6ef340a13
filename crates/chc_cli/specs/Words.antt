-- The command that the words call.
use Rattle.std.specs.Prelude.{◌<◌, ◌≤◌, ◌^◌, ℕ, List}
use Rattle.call_words.specs.Words.{IsCall, IsCheckCall, IsGenCall}
use Rattle.call_words.specs.Properties.{IsInRange}
use Rattle.chc_cli.specs.Commands.{IsNoCommand}
use Rattle.chc_cli.specs.declared.command.Command.{Command}
use Rattle.chc_cli.specs.declared.command.Command.TheVariants.{Solve, Check, Gen, Usage, Wanting}

abbrev pub IsCommandOf : List (List ℕ) → Command → Type 0
IsCommandOf words (Solve limits) = IsCall words limits × IsInRange limits
IsCommandOf words (Check nodes) = IsCheckCall words nodes × (0 < nodes)
IsCommandOf words (Gen depth seed) = IsGenCall words depth seed × (depth ≤ 12) × (seed < 2 ^ 31)
IsCommandOf words Usage = IsNoCommand words
IsCommandOf words Wanting = Unit {0}
