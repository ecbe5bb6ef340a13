-- A formula that says that others are true, and one of some parts.
use Rattle.std.specs.Prelude.{◌≡◌, ℤ, Bool, List, ◌∷◌, true, false, ◌&&◌, Option, Some, None}
use Rattle.std.specs.List.{list_all, list_any}
use Rattle.lin_atoms.specs.Truth.{truth}
use Rattle.lin_atoms.specs.declared.form.Form.{Form}
use Rattle.lin_atoms.specs.declared.form.Form.TheViews.{And}
use Rattle.refutation_trees.specs.Refutation.{HasNoPoint}
use Rattle.lia_search.specs.declared.decision.Decision.{Decision}
use Rattle.lia_search.specs.declared.decision.Decision.TheVariants.{Model, Refuted, GaveUp}

-- it is true exactly where the others are, and one of the parts
abbrev pub AreParts : Form → List Form → List Form → Type 0
AreParts form others parts = (point : List ℤ) → truth point form ≡ (list_all (truth point) others && list_any (truth point) parts)

-- what all of the second ones pass, all of the first ones do
abbrev pub AreAmong : List Form → List Form → Type 0
AreAmong some others = (test : Form → Bool) → list_all test others ≡ true → list_all test some ≡ true

-- a part is refuted with the others
abbrev pub HasNoneWith : Form → List Form → Decision → Type 0
HasNoneWith part others (Refuted refuted) = HasNoPoint (And (part ∷ others))
HasNoneWith part others (Model point) = ⊥
HasNoneWith part others (GaveUp gave_up) = ⊥

-- no part has a point with the others, as far as they were decided, and the last one was refuted
abbrev pub HaveNone : List Form → List Form → Type 0
HaveNone others parts = (point : List ℤ) → list_all (truth point) others ≡ true → list_any (truth point) parts ≡ false

abbrev pub IsRefuted : Option Decision → Type 0
IsRefuted None = Unit {0}
IsRefuted (Some (Refuted refuted)) = Unit {0}
IsRefuted (Some (Model point)) = ⊥
IsRefuted (Some (GaveUp gave_up)) = ⊥
