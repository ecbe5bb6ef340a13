-- How the command and its options are read.
use Rattle.std.specs.Prelude.{ℕ, List, [], ◌∷◌, nat_le, Option, Some, None, if◌then◌else◌, codes}
use Rattle.std.specs.Str.{bytes_eq}
use Rattle.base.specs.Numeral.{is_numeral, number_of}
use Rattle.clap.specs.Walk.{Row, Text, first_of}
use Rattle.clap.specs.Simple.{subcommand_rows_of}
use Rattle.clap.specs.declared.parser.matches.ArgMatches.{ArgMatches}
use Rattle.call_words.specs.Words.{default_nodes, default_units, default_workers, most_depth, most_nodes, most_seed, most_call_units, most_workers}
use Rattle.call_words.specs.declared.limits.Limits.{Limits}
use Rattle.call_words.specs.declared.limits.Words.{Words}
use Rattle.call_words.specs.declared.limits.Words.TheVariants.{Solve, Check, Gen}

abbrev pub at_most : ℕ → ℕ → Option ℕ
at_most most n = if nat_le n most then Some n else None

abbrev pub at_least : ℕ → Option ℕ → Option ℕ
at_least least None = None
at_least least (Some n) = if nat_le least n then Some n else None

-- the number of a numeral, 0 or digits that don't begin with 0, from the least to the most
abbrev pub numeral_within : ℕ → ℕ → List ℕ → Option ℕ
numeral_within least most word = if is_numeral word then at_least least (at_most most (number_of word)) else None

abbrev pub number_or : ℕ → ℕ → ℕ → Option Text → Option ℕ
number_or least most default None = Some default
number_or least most default (Some text) = numeral_within least most text

abbrev pub number_given : ℕ → ℕ → Option Text → Option ℕ
number_given least most None = None
number_given least most (Some text) = numeral_within least most text

abbrev pub limits_with : Option ℕ → Option ℕ → Option ℕ → Option Limits
limits_with None units nodes = None
limits_with (Some workers) None nodes = None
limits_with (Some workers) (Some units) None = None
limits_with (Some workers) (Some units) (Some nodes) = Some (record { workers = workers; units = units; nodes = nodes })

abbrev pub solve_with : Option Limits → Option Words
solve_with None = None
solve_with (Some limits) = Some (Solve limits)

abbrev pub solve_named : List Row → Option Words
solve_named options = solve_with (limits_with
    (number_or 1 most_workers default_workers (first_of (codes "workers") options))
    (number_or 0 most_call_units default_units (first_of (codes "units") options))
    (number_or 1 most_nodes default_nodes (first_of (codes "nodes") options)))

abbrev pub check_with : Option ℕ → Option Words
check_with None = None
check_with (Some nodes) = Some (Check nodes)

abbrev pub check_named : List Row → Option Words
check_named options = check_with (number_or 1 most_nodes default_nodes (first_of (codes "nodes") options))

abbrev pub gen_with : Option ℕ → Option ℕ → Option Words
gen_with None seed = None
gen_with (Some depth) None = None
gen_with (Some depth) (Some seed) = Some (Gen depth seed)

abbrev pub gen_named : List Row → Option Words
gen_named options = gen_with (number_given 0 most_depth (first_of (codes "depth") options)) (number_given 0 most_seed (first_of (codes "seed") options))

abbrev pub words_named : Text → List Row → Option Words
words_named name options = if bytes_eq name (codes "solve") then solve_named options
    else if bytes_eq name (codes "check") then check_named options
    else if bytes_eq name (codes "gen") then gen_named options else None

abbrev pub words_in : Option (Text × List Row) → Option Words
words_in None = None
words_in (Some named) = words_named named.0 named.1

abbrev pub said : Option ArgMatches → Option Words
said None = None
said (Some matches) = words_in (subcommand_rows_of matches)
