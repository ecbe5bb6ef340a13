-- The marker's line is one.
use Rattle.std.proofs.Common.{◌≡◌, ℕ, ◌<◌, List, length, inl, inr, ap, sym, refl, subst, ◌∙◌}
use Rattle.std.proofs.lemmas.Bool.{cases_order}
use Rattle.std.specs.Prelude.{Option, Some, None}
use Rattle.check_input.specs.Cut.{HasNoMarker, IsCut, behind_marker}
use Rattle.check_input.specs.Inputs.{IsParted}

none_there : (found : Option ℕ) (at : ℕ) → found ≡ Some at → found ≡ None → ⊥
none_there found at there none = let both : Some at ≡ None = sym there ∙ none in absurd (cc)

one_cut : (input : List ℕ) (script other answer last : ℕ) → IsCut input script answer → IsCut input other last → script ≡ other
one_cut input script other answer last a b = elim (cases_order script other) [
  | inl same ↦ same
  | inr (inl less) ↦ absurd (none_there (behind_marker input script) answer a.marker (b.first script less))
  | inr (inr more) ↦ absurd (none_there (behind_marker input other) last b.marker (a.first other more))
]

pub one_script : (input : List ℕ) (script other answer last : ℕ) → IsParted input script answer → IsParted input other last → script ≡ other
one_script input script other answer last (inl a) (inl b) = one_cut input script other answer last a b
one_script input script other answer last (inl a) (inr b) = absurd (none_there (behind_marker input script) answer a.marker (b.0 script))
one_script input script other answer last (inr a) (inl b) = absurd (none_there (behind_marker input other) last b.marker (a.0 other))
one_script input script other answer last (inr a) (inr b) = a.1 ∙ sym b.1

same_answer : (a b : ℕ) → (let o : Option ℕ = Some a in o) ≡ Some b → a ≡ b
same_answer a b e = cc

pub one_answer : (input : List ℕ) (script other answer last : ℕ) → IsParted input script answer → IsParted input other last → answer ≡ last
one_answer input script other answer last (inl a) (inl b) =
    let same = one_cut input script other answer last a b in
    same_answer answer last (sym a.marker ∙ ap (behind_marker input) same ∙ b.marker)
one_answer input script other answer last (inl a) (inr b) = absurd (none_there (behind_marker input script) answer a.marker (b.0 script))
one_answer input script other answer last (inr a) (inl b) = absurd (none_there (behind_marker input other) last b.marker (a.0 other))
one_answer input script other answer last (inr a) (inr b) = a.2 ∙ sym b.2
