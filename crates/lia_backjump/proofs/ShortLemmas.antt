-- What holds of each literal holds of one of them.
use Rattle.std.proofs.Common.{◌≡◌, ℕ, zero, suc, List, [], ◌∷◌, ap, get_or, ◌∙◌, subst, true, false}
use Rattle.std.specs.Prelude.{slice_get}
use Rattle.std.specs.List.{list_all}
use Rattle.std.specs.Option.{option_map_or}
use Rattle.lin_atoms.specs.declared.lit.Lit.{Lit}
use Rattle.lin_atoms.proofs.Public.{both_true}
use Rattle.refutation_trees.specs.Split.{is_no_falsehood}
use Rattle.lia_node.specs.Known.{has_short_constant}
use Rattle.lia_node.specs.Tells.{Tells}
use Rattle.lia_node.specs.declared.examined.Examined.{Examined}
use Rattle.lia_node.specs.declared.examined.Examined.TheVariants.{False}

short-at : (lits : List Lit) (at : ℕ) (lit : Lit) → list_all has_short_constant lits ≡ true → option_map_or is_no_falsehood (slice_get lits at) true ≡ false → lit ≡ get_or lits at lit → has_short_constant lit ≡ true
short-at [] at lit all there is = absurd (cc)
short-at (l ∷ lits) zero lit all there is = ap has_short_constant is ∙ (both_true (has_short_constant l) _ all).0
short-at (l ∷ lits) (suc at) lit all there is = short-at lits at lit (both_true (has_short_constant l) _ all).1 there is

-- the literal that a node says is false by itself
pub short-there : (q : ℕ) (lits : List Lit) (at : ℕ) (lit : Lit) (told : Examined) → list_all has_short_constant lits ≡ true → told ≡ False at → Tells q lits told → lit ≡ get_or lits at lit → has_short_constant lit ≡ true
short-there q lits at lit told all is tells same = short-at lits at lit all (subst (Tells q lits) is tells) same
