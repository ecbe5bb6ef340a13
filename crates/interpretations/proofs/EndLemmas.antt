-- The level of a sat end is at least 1.
use Rattle.std.proofs.Common.{◌≡◌, ℕ, zero, suc, ◌+◌, ◌-◌, ◌<◌, ◌≤◌, List, Bool, true, false, cond, ap, subst, arith}
use Rattle.std.specs.Prelude.{Option, Some, None, Ok, option_map, is_none, ◌==◌}
use Rattle.term_tree.specs.declared.definition.Definition.{Definition}
use Rattle.term_tree.specs.declared.refusal.Checked.{Checked}
use Rattle.term_tree.specs.Arena.{IsArena}
use Rattle.term_tree.specs.Solution.{IsSolution}
use Rattle.horn_shape.specs.Clause.{IsLegalScript}
use Rattle.clause_form.specs.System.{Clauses}
use Rattle.clause_normal.specs.Reading.{system_reading}
use Rattle.lemma_frames.specs.declared.framed.Framed.{Framed as KeptLemma}
use Rattle.book_rules.specs.declared.end.End.{End}
use Rattle.book_rules.specs.declared.end.End.TheVariants.{Unsat, Sat, Spent, Stalled}
use Rattle.book_rules.specs.Frames.{Framed}
use Rattle.book_rules.specs.Frames.{IsSolution as IsSolutionOver}
use Rattle.book_rules.specs.Instances.{instances}
use Rattle.book_rules.specs.Kept.{IsSound}
use Rattle.book_rules.specs.Legal.{all_stalled_from, bare_from, end, is_level_empty}
use Rattle.book_rules.specs.State.{Fact, State}
use Rattle.book_rules.specs.Walks.{first_number, or_else}
use Rattle.book_rules.proofs.Public.{sat_is_solution}
use Rattle.cube_rules.specs.Views.{lemmas_of}
use Rattle.interpretations.specs.Definitions.{AreDefinitionsOf}
use Rattle.interpretations.proofs.SolutionLemmas.{frame-solves}

bare-least : (es : List Framed) (from count level : ℕ) → bare_from es from count ≡ Some level → from ≤ level
bare-least es from zero level h = absurd (cc)
bare-least es from (suc count) level h = here (is_level_empty es from) h (bare-least es (from + 1) count level)
  where
    here : (b : Bool) → cond {A = Option ℕ} b (Some from) (bare_from es (from + 1) count) ≡ Some level → (bare_from es (from + 1) count ≡ Some level → from + 1 ≤ level) → from ≤ level
    here true found rest = let same : from ≡ level = cc in omega (arith, same)
    here false found rest = let more = rest found in omega (arith, more)

which : (u v : Option ℕ) (b c : Bool) (n level : ℕ) → or_else (option_map Unsat u) (or_else (option_map Sat v) (or_else (cond {A = Option End} b (Some (Spent n)) None) (cond {A = Option End} c (Some Stalled) None))) ≡ Some (Sat level)
    → v ≡ Some level
which (Some f) v b c n level h = absurd (cc)
which None (Some l) b c n level h = let same : Sat l ≡ Sat level = cc in let is : l ≡ level = cc in ap (λ (x : ℕ). Some x) is
which None None true c n level h = absurd (cc)
which None None false true n level h = absurd (cc)
which None None false false n level h = absurd (cc)

level-some : (s : State) (level : ℕ) → end s ≡ Some (Sat level) → 0 < level
level-some s level h =
    let bare = which (first_number (λ (f : Fact). is_none f.conclusion) s.facts) (bare_from s.lemmas 1 (s.level - 1)) (s.spent == s.given) (all_stalled_from s.obligations 0 s.obligations) s.spent level h in
    let low = bare-least s.lemmas 1 (s.level - 1) level bare in omega (arith, low)

pub end-solves : (checked : Checked) (sys : Clauses) (s : State) (lemmas : List KeptLemma) (level : ℕ) (definitions : List Definition) → IsArena checked.script.terms.nodes → IsLegalScript checked.script
    → system_reading checked ≡ Ok sys → s.lemmas ≡ lemmas_of lemmas → IsSound (instances sys) s → end s ≡ Some (Sat level) → AreDefinitionsOf lemmas level 0 checked.script.preds definitions
    → IsSolution checked.script definitions
end-solves checked sys s lemmas level definitions arena legal read are sound ends made =
    frame-solves checked sys lemmas level definitions arena legal read (level-some s level ends)
    (subst (λ (es : List Framed). IsSolutionOver (instances sys) es level) are (sat_is_solution (instances sys) s level sound ends)) made
