-- Divisibilities of a conjunction and a disjunction, from those of the parts.
use Rattle.std.proofs.Common.{◌≡◌, List, [], ◌∷◌, map, Bool, refl, ap, sym, ◌∙◌, ◌&&◌}
use Rattle.std.specs.List.{list_all}
use Rattle.lin_atoms.specs.declared.form.Form.{Form}
use Rattle.lin_atoms.specs.declared.form.Form.TheViews.{And, Or}
use Rattle.lin_atoms.specs.declared.form.Form.TheVariants.{rolls-And, rolls-Or}
use Rattle.lin_atoms.specs.declared.form.Form.TheFolds.{fold-roll-Form}
use Rattle.clause_form.specs.System.{has_short_guard, guard_step}

all_map : {X : Type 0} (f : X → Bool) (xs : List X) → list_all (λ b. b) (map f xs) ≡ list_all f xs
all_map f [] = refl
all_map f (x ∷ xs) = ap (λ b. f x && b) (all_map f xs)

pub short-And : (parts : List Form) → has_short_guard (And parts) ≡ list_all has_short_guard parts
short-And parts = ap has_short_guard (sym (rolls-And parts)) ∙ fold-roll-Form Bool guard_step _ ∙ all_map has_short_guard parts

pub short-Or : (parts : List Form) → has_short_guard (Or parts) ≡ list_all has_short_guard parts
short-Or parts = ap has_short_guard (sym (rolls-Or parts)) ∙ fold-roll-Form Bool guard_step _ ∙ all_map has_short_guard parts
