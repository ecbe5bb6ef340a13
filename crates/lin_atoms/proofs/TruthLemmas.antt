-- Truth and bounds of a conjunction and a disjunction, from those of the parts.
use Rattle.std.proofs.Common.{◌≡◌, ℕ, List, [], ◌∷◌, map, Bool, refl, ap, sym, ◌∙◌, ◌&&◌, ◌||◌}
use Rattle.std.specs.Prelude.{ℤ}
use Rattle.std.specs.List.{list_all, list_any}
use Rattle.lin_atoms.specs.Truth.{truth, truth_step, is_below, below_step}
use Rattle.lin_atoms.specs.declared.form.Form.{Form}
use Rattle.lin_atoms.specs.declared.form.Form.TheViews.{And, Or}
use Rattle.lin_atoms.specs.declared.form.Form.TheVariants.{rolls-And, rolls-Or}
use Rattle.lin_atoms.specs.declared.form.Form.TheFolds.{fold-roll-Form}

all_map : {X : Type 0} (f : X → Bool) (xs : List X) → list_all (λ b. b) (map f xs) ≡ list_all f xs
all_map f [] = refl
all_map f (x ∷ xs) = ap (λ b. f x && b) (all_map f xs)

any_map : {X : Type 0} (f : X → Bool) (xs : List X) → list_any (λ b. b) (map f xs) ≡ list_any f xs
any_map f [] = refl
any_map f (x ∷ xs) = ap (λ b. f x || b) (any_map f xs)

pub truth-And : (point : List ℤ) (parts : List Form) → truth point (And parts) ≡ list_all (truth point) parts
truth-And point parts = ap (truth point) (sym (rolls-And parts)) ∙ fold-roll-Form Bool (truth_step point) _ ∙ all_map (truth point) parts

pub truth-Or : (point : List ℤ) (parts : List Form) → truth point (Or parts) ≡ list_any (truth point) parts
truth-Or point parts = ap (truth point) (sym (rolls-Or parts)) ∙ fold-roll-Form Bool (truth_step point) _ ∙ any_map (truth point) parts

pub is_below-And : (n : ℕ) (parts : List Form) → is_below n (And parts) ≡ list_all (is_below n) parts
is_below-And n parts = ap (is_below n) (sym (rolls-And parts)) ∙ fold-roll-Form Bool (below_step n) _ ∙ all_map (is_below n) parts

pub is_below-Or : (n : ℕ) (parts : List Form) → is_below n (Or parts) ≡ list_all (is_below n) parts
is_below-Or n parts = ap (is_below n) (sym (rolls-Or parts)) ∙ fold-roll-Form Bool (below_step n) _ ∙ all_map (is_below n) parts
