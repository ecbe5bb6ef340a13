-- The end of a book, its legal steps, and what a journal of legal steps leads to.
use Rattle.std.specs.Prelude.{◌≡◌, ℕ, zero, suc, ◌+◌, ◌-◌, List, [], ◌∷◌, Bool, true, ◌&&◌, ◌||◌, not, ◌==◌, Option, Some, None, option_map, is_none, if◌then◌else◌}
use Rattle.std.specs.List.{list_any}
use Rattle.clause_form.specs.System.{Clauses}
use Rattle.book_rules.specs.declared.end.End.{End}
use Rattle.book_rules.specs.declared.end.End.TheVariants.{Unsat, Sat, Spent, Stalled}
use Rattle.book_rules.specs.Walks.{first_number, or_else}
use Rattle.book_rules.specs.Frames.{Framed}
use Rattle.book_rules.specs.State.{Fact, Obligation, State, is_live}
use Rattle.book_rules.specs.StallRules.{is_live_child}
use Rattle.book_rules.specs.Steps.{Step, Carries}
use Rattle.book_rules.specs.Rules.{broken}
use Rattle.book_rules.specs.Effects.{after}

-- the end: the first of these that holds

-- unsat: false is recorded
abbrev pub unsat : State → Option End
unsat s = option_map Unsat (first_number (λ (f : Fact). is_none f.conclusion) s.facts)

-- whether no lemma has exactly this level; one of a higher level doesn't count
abbrev pub is_level_empty : List Framed → ℕ → Bool
is_level_empty es level = not (list_any (λ (e : Framed). e.level == level) es)

-- the least of count levels, from this one on, that no lemma has exactly
abbrev pub bare_from : List Framed → ℕ → ℕ → Option ℕ
bare_from es level zero = None
bare_from es level (suc count) = if is_level_empty es level then Some level else bare_from es (level + 1) count

-- sat: some level from 1 to N - 1 has no lemma of exactly that level
abbrev pub sat : State → Option End
sat s = option_map Sat (bare_from s.lemmas 1 (s.level - 1))

-- spent: the units are those given
abbrev pub spent : State → Option End
spent s = if s.spent == s.given then Some (Spent s.spent) else None

-- whether each of these, from number n on, is stalled where it is live and has no live child
abbrev pub all_stalled_from : List Obligation → ℕ → List Obligation → Bool
all_stalled_from all n [] = true
all_stalled_from all n (o ∷ rest) = (not (is_live o) || list_any (is_live_child n) all || o.stalled) && all_stalled_from all (n + 1) rest

-- stalled: every live obligation without live children is stalled
abbrev pub stuck : State → Option End
stuck s = if all_stalled_from s.obligations 0 s.obligations then Some Stalled else None

-- the first of unsat, sat, spent and stalled that holds of the book; none while it goes on
abbrev pub end : State → Option End
end s = or_else (unsat s) (or_else (sat s) (or_else (spent s) (stuck s)))

-- a step is legal where the book has no end, what the step's tokens stand for holds, and no rule is broken
pub record IsLegal (sys : Clauses) (s : State) (step : Step) : Type 0 where
  pub goes_on : end s ≡ None
  pub carries : Carries sys step
  pub unbroken : broken sys s step ≡ None

-- what a journal leads to from an opening, entry by entry
abbrev pub replay : Clauses → State → List Step → State
replay sys s [] = s
replay sys s (step ∷ steps) = replay sys (after sys s step) steps

-- each entry is legal where it is written
abbrev pub AreLegal : Clauses → State → List Step → Type 0
AreLegal sys s [] = Unit {0}
AreLegal sys s (step ∷ steps) = IsLegal sys s step × AreLegal sys (after sys s step) steps
