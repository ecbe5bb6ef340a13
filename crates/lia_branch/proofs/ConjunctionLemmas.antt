-- What is known of literals is known of their conjunction.
use Rattle.std.proofs.Common.{◌≡◌, ℕ, List, [], ◌∷◌, map, refl, ap₂, ◌∙◌, true, Bool, ◌&&◌}
use Rattle.std.specs.List.{list_all}
use denote.Hole.Carrier.{roll}
use Rattle.lin_atoms.specs.Truth.{below_step, is_below, lit_is_below}
use Rattle.lin_atoms.specs.declared.lit.Lit.{Lit}
use Rattle.lin_atoms.specs.declared.form.Form.{Form}
use Rattle.lin_atoms.specs.declared.form.Form.TheOpen.{Form-F}
use Rattle.lin_atoms.specs.declared.form.Form.TheViews.{roll-Form}
use Rattle.lin_atoms.specs.declared.form.Form.TheVariants.{Lit as Literal}
use Rattle.lin_atoms.specs.declared.form.Form.TheFolds.{fold-roll-Form}
use Rattle.lin_atoms.proofs.Public.{is_below-And}
use Rattle.lia_node.specs.Known.{has_short_constant}
use Rattle.lia_search.specs.Decides.{has_short_multiples, short_step}
use Rattle.lia_search.proofs.Public.{short-And}
use Rattle.lia_branch.specs.Conjunction.{conjunction}

below-literal : (n : ℕ) (lit : Lit) → is_below n (Literal lit) ≡ lit_is_below n lit
unfolding roll-Form roll
below-literal n lit = fold-roll-Form Bool (below_step n) (Form-F.Lit lit)

short-literal : (lit : Lit) → has_short_multiples (Literal lit) ≡ has_short_constant lit
unfolding roll-Form roll
short-literal lit = fold-roll-Form Bool short_step (Form-F.Lit lit)

all-alike : (p : Form → Bool) (q : Lit → Bool) → ((lit : Lit) → p (Literal lit) ≡ q lit) → (lits : List Lit) → list_all p (map (λ lit. Literal lit) lits) ≡ list_all q lits
all-alike p q same [] = refl
all-alike p q same (lit ∷ lits) = ap₂ (λ (a b : Bool). a && b) (same lit) (all-alike p q same lits)

pub conjunction-below : (n : ℕ) (lits : List Lit) → list_all (lit_is_below n) lits ≡ true → is_below n (conjunction lits) ≡ true
conjunction-below n lits h = is_below-And n (map (λ lit. Literal lit) lits) ∙ all-alike (is_below n) (lit_is_below n) (below-literal n) lits ∙ h

pub conjunction-short : (lits : List Lit) → list_all has_short_constant lits ≡ true → has_short_multiples (conjunction lits) ≡ true
conjunction-short lits h = short-And (map (λ lit. Literal lit) lits) ∙ all-alike has_short_multiples has_short_constant short-literal lits ∙ h
