-- Tests of a formula, from those of its parts.
use Rattle.std.proofs.Common.{◌≡◌, List, [], ◌∷◌, map, Bool, false, ◌&&◌, ◌||◌, refl, ap, sym, ◌∙◌}
use denote.Hole.Carrier.{roll}
use Rattle.std.specs.List.{list_all, list_any}
use Rattle.lin_atoms.specs.Denial.{lit_fits}
use Rattle.lin_atoms.specs.declared.lit.Lit.{Lit}
use Rattle.lin_atoms.specs.declared.form.Form.{Form}
use Rattle.lin_atoms.specs.declared.form.Form.TheOpen.{Form-F}
use Rattle.lin_atoms.specs.declared.form.Form.TheVariants.{False, Lit as Literal, rolls-And, rolls-Or}
use Rattle.lin_atoms.specs.declared.form.Form.TheViews.{And, Or, roll-Form}
use Rattle.lin_atoms.specs.declared.form.Form.TheFolds.{fold-roll-Form}
use Rattle.book_rules.specs.Areas.{cover, cover_step, is_among, stand_step, stands_in}
use Rattle.book_rules.specs.Same.{same_lit}
use Rattle.cube_rules.specs.machinery.Literals.{fits_step, form_fits}

all_map : {X : Type 0} (f : X → Bool) (xs : List X) → list_all (λ b. b) (map f xs) ≡ list_all f xs
all_map f [] = refl
all_map f (x ∷ xs) = ap (λ b. f x && b) (all_map f xs)

any_map : {X : Type 0} (f : X → Bool) (xs : List X) → list_any (λ b. b) (map f xs) ≡ list_any f xs
any_map f [] = refl
any_map f (x ∷ xs) = ap (λ b. f x || b) (any_map f xs)

pub cover-False : (lits : List Lit) → cover lits False ≡ false
unfolding roll-Form roll
cover-False lits = fold-roll-Form Bool (cover_step lits) Form-F.False

pub cover-Literal : (lits : List Lit) (lit : Lit) → cover lits (Literal lit) ≡ is_among lits lit
unfolding roll-Form roll
cover-Literal lits lit = fold-roll-Form Bool (cover_step lits) (Form-F.Lit lit)

pub cover-And : (lits : List Lit) (parts : List Form) → cover lits (And parts) ≡ list_all (cover lits) parts
cover-And lits parts = ap (cover lits) (sym (rolls-And parts)) ∙ fold-roll-Form Bool (cover_step lits) _ ∙ all_map (cover lits) parts

pub cover-Or : (lits : List Lit) (parts : List Form) → cover lits (Or parts) ≡ list_any (cover lits) parts
cover-Or lits parts = ap (cover lits) (sym (rolls-Or parts)) ∙ fold-roll-Form Bool (cover_step lits) _ ∙ any_map (cover lits) parts

pub stands-False : (lit : Lit) → stands_in lit False ≡ false
unfolding roll-Form roll
stands-False lit = fold-roll-Form Bool (stand_step lit) Form-F.False

pub stands-Literal : (lit other : Lit) → stands_in lit (Literal other) ≡ same_lit lit other
unfolding roll-Form roll
stands-Literal lit other = fold-roll-Form Bool (stand_step lit) (Form-F.Lit other)

pub stands-And : (lit : Lit) (parts : List Form) → stands_in lit (And parts) ≡ list_any (stands_in lit) parts
stands-And lit parts = ap (stands_in lit) (sym (rolls-And parts)) ∙ fold-roll-Form Bool (stand_step lit) _ ∙ any_map (stands_in lit) parts

pub stands-Or : (lit : Lit) (parts : List Form) → stands_in lit (Or parts) ≡ list_any (stands_in lit) parts
stands-Or lit parts = ap (stands_in lit) (sym (rolls-Or parts)) ∙ fold-roll-Form Bool (stand_step lit) _ ∙ any_map (stands_in lit) parts

pub fits-And : (parts : List Form) → form_fits (And parts) ≡ list_all form_fits parts
fits-And parts = ap form_fits (sym (rolls-And parts)) ∙ fold-roll-Form Bool fits_step _ ∙ all_map form_fits parts

pub fits-Or : (parts : List Form) → form_fits (Or parts) ≡ list_all form_fits parts
fits-Or parts = ap form_fits (sym (rolls-Or parts)) ∙ fold-roll-Form Bool fits_step _ ∙ all_map form_fits parts
