-- What is decided of a formula, by what is decided of one that is true at the same points.
use Rattle.std.proofs.Common.{◌≡◌, ℕ, [], ◌∷◌, Bool, true, ◌&&◌, ap, sym, ◌∙◌, subst}
use Rattle.std.specs.Prelude.{ℤ, List}
use Rattle.lin_atoms.specs.Truth.{truth}
use Rattle.lin_atoms.specs.declared.form.Form.{Form}
use Rattle.lin_atoms.specs.declared.form.Form.TheViews.{And}
use Rattle.lin_atoms.proofs.Public.{truth-And}
use Rattle.lia_search.specs.Decides.{Decides}
use Rattle.lia_search.specs.declared.decision.Decision.{Decision}
use Rattle.lia_search.specs.declared.decision.Decision.TheVariants.{Model, Refuted, GaveUp}
use Rattle.chc_checker.specs.machinery.Judging.{Settles}
use Rattle.chc_checker.specs.machinery.Links.{SayTheSame}

same_alone : (point : List ℤ) (form other : Form) → SayTheSame form other → truth point (And (other ∷ [])) ≡ truth point (And (form ∷ []))
same_alone point form other same = truth-And point (other ∷ []) ∙ ap (λ (b : Bool). b && true) (same point) ∙ sym (truth-And point (form ∷ []))

abbrev pub IsNotGivenUp : Decision → Type 0
IsNotGivenUp (Model point) = Unit {0}
IsNotGivenUp (Refuted refuted) = Unit {0}
IsNotGivenUp (GaveUp gave_up) = ⊥

pub settled_same : (form other : Form) (vars nodes : ℕ) → SayTheSame form other → (decision : Decision) → IsNotGivenUp decision → Settles (And (other ∷ [])) vars nodes decision
    → Settles (And (form ∷ [])) vars nodes decision
settled_same form other vars nodes same (Model point) is h = (h.0, sym (same_alone point.items form other same) ∙ h.1)
settled_same form other vars nodes same (Refuted refuted) is h = λ point. sym (same_alone point form other same) ∙ h point
settled_same form other vars nodes same (GaveUp gave_up) is h = absurd is

-- no lemmas beside it
pub asked_alone : (form : Form) (lemmas : List Form) (vars nodes : ℕ) (decision found : Decision) → lemmas ≡ [] → Decides (And (form ∷ lemmas)) vars nodes decision
    → ((whole : Form) (vars nodes : ℕ) → Decides whole vars nodes decision → Settles whole vars nodes found) → Settles (And (form ∷ [])) vars nodes found
asked_alone form lemmas vars nodes decision found none decides told =
    told (And (form ∷ [])) vars nodes (subst (λ (rest : List Form). Decides (And (form ∷ rest)) vars nodes decision) none decides)
