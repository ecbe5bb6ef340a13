-- At the end that is spent the units are those that were given.
use Rattle.std.proofs.Common.{◌≡◌, ℕ, ◌==◌, Bool, true, false, refl, sym, ◌∙◌}
use Rattle.std.specs.Prelude.{Option, Some, None, option_map, is_none, ◌-◌, if◌then◌else◌}
use Rattle.std.proofs.lemmas.Bool.{eqb-true}
use Rattle.book_rules.specs.declared.end.End.TheVariants.{Unsat, Sat, Spent, Stalled}
use Rattle.book_rules.specs.Legal.{all_stalled_from, bare_from, end}
use Rattle.book_rules.specs.State.{Fact, State}
use Rattle.book_rules.specs.Walks.{first_number, or_else}

spent-of : (fact level : Option ℕ) (spent stuck : Bool) (units given shown : ℕ) → (units == given) ≡ spent
    → or_else (option_map Unsat fact) (or_else (option_map Sat level) (or_else (if spent then Some (Spent units) else None) (if stuck then Some Stalled else None))) ≡ Some (Spent shown) → shown ≡ given
spent-of (Some fact) level spent stuck units given shown is h = absurd (cc)
spent-of None (Some level) spent stuck units given shown is h = absurd (cc)
spent-of None None true stuck units given shown is h = (let same : units ≡ shown = cc in sym same) ∙ eqb-true units given is
spent-of None None false true units given shown is h = absurd (cc)
spent-of None None false false units given shown is h = absurd (cc)

pub spent-given : (s : State) (units : ℕ) → end s ≡ Some (Spent units) → units ≡ s.given
spent-given s units h =
    spent-of (first_number (λ (f : Fact). is_none f.conclusion) s.facts) (bare_from s.lemmas 1 (s.level - 1)) (s.spent == s.given) (all_stalled_from s.obligations 0 s.obligations) s.spent s.given units refl h
