-- What callers are told of the words.
use Rattle.std.proofs.Common.{◌≡◌, ℕ, ◌≤◌, List, Some, None, sym, ◌∙◌, ap, subst, arith}
use Rattle.std.specs.Prelude.{Option, IfSome, codes}
use Rattle.clap.specs.Walk.{Text, first_of}
use Rattle.clap.specs.Simple.{subcommand_of}
use Rattle.call_words.specs.Command.{chc}
use Rattle.clap.specs.declared.parser.matches.ArgMatches.{ArgMatches}
use Rattle.call_words.specs.Parsed.{IsParsedAs, IsTaken}
use Rattle.call_words.specs.Properties.{AreWordsOf, IsInRange, IsWithin}
use Rattle.call_words.specs.Words.{IsCall, IsCheckCall, IsGenCall, default_nodes, default_units, default_workers, most_depth, most_nodes, most_seed, most_call_units, most_workers}
use Rattle.call_words.specs.machinery.Reading.{said, words_in}
use Rattle.call_words.specs.declared.limits.Limits.{Limits}
use Rattle.call_words.specs.declared.limits.Words.{Words}
use Rattle.call_words.specs.declared.limits.Words.TheVariants.{Solve, Check, Gen}
use Rattle.call_words.proofs.RangeLemmas.{given_within, or_within}
use Rattle.call_words.proofs.CallLemmas.{call_read, check_found, gen_found, solve_found}

none_some : (w : Words) → (let o : Option Words = None in o) ≡ Some w → ⊥
none_some w h = absurd (cc)

pub are_words : (words : List Text) (found : Option Words) → IsTaken words → found ≡ words_in (subcommand_of chc words) → AreWordsOf words found
are_words words None taken is = (
  λ l call. none_some (Solve l) (is ∙ solve_found words l call),
  λ nodes call. none_some (Check nodes) (is ∙ check_found words nodes call),
  λ depth seed call. none_some (Gen depth seed) (is ∙ gen_found words depth seed call),
)
are_words words (Some (Solve l)) taken is = call_read words (Solve l) taken (sym is)
are_words words (Some (Check nodes)) taken is = call_read words (Check nodes) taken (sym is)
are_words words (Some (Gen depth seed)) taken is = call_read words (Gen depth seed) taken (sym is)

-- words that `clap` refuses are no call
pub refused_words : (words : List Text) → (IsTaken words → ⊥) → AreWordsOf words None
refused_words words refused = (λ l call. refused call.names.0, λ nodes call. refused call.names.0, λ depth seed call. refused call.names.0)

pub said_words : (words : List Text) (parsed : Option ArgMatches) (found : Option Words) → IsParsedAs words parsed → found ≡ said parsed → AreWordsOf words found
said_words words None found parsed is = subst (AreWordsOf words) (sym is) (refused_words words parsed)
said_words words (Some matches) found parsed is = are_words words found parsed.0 (is ∙ ap words_in parsed.1)

-- numbers of a call are in range

limits_within : (words : List Text) (l : Limits) → IsCall words l → IsInRange l
limits_within words l call =
    let w = or_within 1 most_workers default_workers (first_of (codes "workers") call.options) l.workers (omega arith) (omega arith) call.workers in
    let u = or_within 0 most_call_units default_units (first_of (codes "units") call.options) l.units (omega arith) (omega arith) call.units in
    let n = or_within 1 most_nodes default_nodes (first_of (codes "nodes") call.options) l.nodes (omega arith) (omega arith) call.nodes in
    record { one = w.0; workers = w.1; units = u.1; some = n.0; nodes = n.1 }

nodes_within : (words : List Text) (nodes : ℕ) → IsCheckCall words nodes → (1 ≤ nodes) × (nodes ≤ most_nodes)
nodes_within words nodes call = or_within 1 most_nodes default_nodes (first_of (codes "nodes") call.options) nodes (omega arith) (omega arith) call.given

seeds_within : (words : List Text) (depth seed : ℕ) → IsGenCall words depth seed → (depth ≤ most_depth) × (seed ≤ most_seed)
seeds_within words depth seed call = (
  given_within 0 most_depth (first_of (codes "depth") call.options) depth call.depths,
  given_within 0 most_seed (first_of (codes "seed") call.options) seed call.seeds,
)

pub words_within : (words : List Text) (found : Option Words) → AreWordsOf words found → IfSome found IsWithin
words_within words None are = tt
words_within words (Some (Solve l)) are = limits_within words l are
words_within words (Some (Check nodes)) are = nodes_within words nodes are
words_within words (Some (Gen depth seed)) are = seeds_within words depth seed are
