-- What is told of words.
use Rattle.std.specs.Prelude.{◌≤◌, ℕ, List, Option, None, Some}
use Rattle.call_words.specs.Words.{IsCall, IsCheckCall, IsGenCall, IsNoCall, IsNoCheckCall, IsNoGenCall, most_depth, most_nodes, most_seed, most_call_units, most_workers}
use Rattle.call_words.specs.declared.limits.Limits.{Limits}
use Rattle.call_words.specs.declared.limits.Words.{Words}
use Rattle.call_words.specs.declared.limits.Words.TheVariants.{Solve, Check, Gen}

-- the words are a call, and say this; or they are none
abbrev pub AreWordsOf : List (List ℕ) → Option Words → Type 0
AreWordsOf words None = IsNoCall words × IsNoCheckCall words × IsNoGenCall words
AreWordsOf words (Some (Solve limits)) = IsCall words limits
AreWordsOf words (Some (Check nodes)) = IsCheckCall words nodes
AreWordsOf words (Some (Gen depth seed)) = IsGenCall words depth seed

-- what such limits are
pub record IsInRange (limits : Limits) : Type 0 where
  pub one : 1 ≤ limits.workers
  pub workers : limits.workers ≤ most_workers
  pub units : limits.units ≤ most_call_units
  pub some : 1 ≤ limits.nodes
  pub nodes : limits.nodes ≤ most_nodes

-- and what all numbers of a call are
abbrev pub IsWithin : Words → Type 0
IsWithin (Solve limits) = IsInRange limits
IsWithin (Check nodes) = (1 ≤ nodes) × (nodes ≤ most_nodes)
IsWithin (Gen depth seed) = (depth ≤ most_depth) × (seed ≤ most_seed)
