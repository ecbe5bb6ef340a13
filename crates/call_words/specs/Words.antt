-- The words after the program's name that are a call, and the numbers that they give: words that `clap` takes for the command of
-- that name, whose options are left out or have a numeral of their range as value.
use Rattle.std.specs.Prelude.{◌≡◌, ◌≤◌, ℕ, List, Option, Some, None, true, codes}
pub use Rattle.base.specs.Limits.{most_workers}
use Rattle.base.specs.Numeral.{is_numeral, number_of}
use Rattle.clap.specs.Walk.{Row, first_of}
use Rattle.call_words.specs.Parsed.{Names}
use Rattle.call_words.specs.declared.limits.Limits.{Limits}

-- what a call may give; how many units a book may be given is said apart, by chc_core, for who reads of books alone

-- the greatest value of `--units`: entries that a book may have, those of Stall not counted
abbrev pub most_call_units : ℕ
most_call_units = 1000000

-- the greatest value of `--nodes`: inner nodes at which the search for a point of a formula is given up
abbrev pub most_nodes : ℕ
most_nodes = 10000

-- the greatest value of `--depth`, the depth of the root in a script that is made
abbrev pub most_depth : ℕ
most_depth = 12

-- the greatest value of `--seed`, which picks the root of a script that is made: 2 ^ 31 - 1
abbrev pub most_seed : ℕ
most_seed = 2147483647

-- where no number is given

-- how many workers share a book where `--workers` is left out
abbrev pub default_workers : ℕ
default_workers = 1

-- how many units a book is given where `--units` is left out
abbrev pub default_units : ℕ
default_units = 50000

-- at how many inner nodes a formula is given up where `--nodes` is left out
abbrev pub default_nodes : ℕ
default_nodes = 2000

-- the text is a numeral, 0 or digits that don't begin with 0, of a number from the least to the most
abbrev pub IsCount : ℕ → ℕ → List ℕ → ℕ → Type 0
IsCount least most text n = (is_numeral text ≡ true) × (number_of text ≡ n) × (least ≤ n) × (n ≤ most)

-- the number of an option that must be given
abbrev pub IsGiven : ℕ → ℕ → Option (List ℕ) → ℕ → Type 0
IsGiven least most None n = ⊥
IsGiven least most (Some text) n = IsCount least most text n

-- and of one that may be left out, and stands for a number then
abbrev pub IsGivenOr : ℕ → ℕ → ℕ → Option (List ℕ) → ℕ → Type 0
IsGivenOr least most default None n = n ≡ default
IsGivenOr least most default (Some text) n = IsCount least most text n

-- the words are a call of `solve` with these limits
pub record IsCall (words : List (List ℕ)) (limits : Limits) : Type 0 where
  pub options : List Row
  pub names : Names words (codes "solve") options
  pub workers : IsGivenOr 1 most_workers default_workers (first_of (codes "workers") options) limits.workers
  pub units : IsGivenOr 0 most_call_units default_units (first_of (codes "units") options) limits.units
  pub nodes : IsGivenOr 1 most_nodes default_nodes (first_of (codes "nodes") options) limits.nodes

-- there are no limits with which the words are a call of `solve`
abbrev pub IsNoCall : List (List ℕ) → Type 0
IsNoCall words = (limits : Limits) → IsCall words limits → ⊥

-- the words are a call of `check`, and forms are given up at the given number of inner nodes
pub record IsCheckCall (words : List (List ℕ)) (nodes : ℕ) : Type 0 where
  pub options : List Row
  pub names : Names words (codes "check") options
  pub given : IsGivenOr 1 most_nodes default_nodes (first_of (codes "nodes") options) nodes

-- there is no number of inner nodes with which the words are a call of `check`
abbrev pub IsNoCheckCall : List (List ℕ) → Type 0
IsNoCheckCall words = (nodes : ℕ) → IsCheckCall words nodes → ⊥

-- the words are a call of `gen` with this depth and seed
pub record IsGenCall (words : List (List ℕ)) (depth seed : ℕ) : Type 0 where
  pub options : List Row
  pub names : Names words (codes "gen") options
  pub depths : IsGiven 0 most_depth (first_of (codes "depth") options) depth
  pub seeds : IsGiven 0 most_seed (first_of (codes "seed") options) seed

-- there is no depth with a seed with which the words are a call of `gen`
abbrev pub IsNoGenCall : List (List ℕ) → Type 0
IsNoGenCall words = (depth seed : ℕ) → IsGenCall words depth seed → ⊥
