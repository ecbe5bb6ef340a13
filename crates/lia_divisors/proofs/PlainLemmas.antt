-- Which trees name no quotient and have no cases.
use Rattle.std.proofs.Common.{◌≡◌, ℕ, List, [], ◌∷◌, ◌++◌, refl, ap, sym, ◌∙◌, true, false, Bool, ◌&&◌}
use Rattle.std.specs.Prelude.{ℤ}
use Rattle.std.specs.List.{list_all}
use Rattle.std.proofs.lemmas.Bool.{and_from}
use Rattle.std.proofs.lemmas.List.Folds.{list_all-append}
use denote.Hole.Carrier.{roll}
use Rattle.lin_atoms.specs.Linear.{Linear}
use Rattle.lin_atoms.proofs.Public.{both_true}
use Rattle.refutation_trees.specs.declared.tree.Refutation.{Refutation}
use Rattle.refutation_trees.specs.declared.tree.Refutation.TheOpen.{Refutation-F}
use Rattle.refutation_trees.specs.declared.tree.Refutation.TheViews.{Round, Split, roll-Refutation}
use Rattle.refutation_trees.specs.declared.tree.Refutation.TheVariants.{Leaf, rolls-Round, rolls-Split}
use Rattle.refutation_trees.specs.declared.tree.Refutation.TheFolds.{fold-roll-Refutation}
use Rattle.lia_guesses.specs.declared.chain.Rounding.{Rounding}
use Rattle.lia_divisors.specs.machinery.Chain.{chained}
use Rattle.lia_divisors.specs.machinery.Plain.{is_plain, plain_step}

plain-leaf : (ms : List (ℕ × ℤ)) → is_plain (Leaf ms) ≡ true
unfolding roll-Refutation roll
plain-leaf ms = fold-roll-Refutation Bool plain_step (Refutation-F.Leaf ms)

plain-round : (ms : List (ℕ × ℤ)) (d : ℤ) (sub : Refutation) → is_plain (Round ms d sub) ≡ is_plain sub
plain-round ms d sub = ap is_plain (sym (rolls-Round ms d sub)) ∙ fold-roll-Refutation Bool plain_step (Refutation-F.Round ms d sub)

pub plain-split : (lin : Linear) (low high : Refutation) → is_plain low ≡ true → is_plain high ≡ true → is_plain (Split lin low high) ≡ true
plain-split lin low high l h = ap is_plain (sym (rolls-Split lin low high)) ∙ fold-roll-Refutation Bool plain_step (Refutation-F.Split lin low high) ∙ and_from (is_plain low) (is_plain high) l h

-- roundings above a leaf
pub plain-chained : (rs : List Rounding) (ms : List (ℕ × ℤ)) → is_plain (chained rs (Leaf ms)) ≡ true
plain-chained [] ms = plain-leaf ms
plain-chained (r ∷ rs) ms = plain-round r.multipliers.items r.divisor (chained rs (Leaf ms)) ∙ plain-chained rs ms

-- a list of them, and one more or less
pub plain-rest : (ts rest more : List Refutation) → list_all is_plain ts ≡ true → ts ≡ rest ++ more → (list_all is_plain rest ≡ true) × (list_all is_plain more ≡ true)
plain-rest ts rest more all is = both_true (list_all is_plain rest) (list_all is_plain more) (sym (list_all-append is_plain rest more) ∙ ap (list_all is_plain) (sym is) ∙ all)

pub plain-last : (ts rest : List Refutation) (t : Refutation) → list_all is_plain ts ≡ true → ts ≡ rest ++ t ∷ [] → is_plain t ≡ true
plain-last ts rest t all is = (both_true (is_plain t) true (plain-rest ts rest (t ∷ []) all is).1).0

pub plain-pushed : (ts rest : List Refutation) (t : Refutation) → list_all is_plain rest ≡ true → is_plain t ≡ true → ts ≡ rest ++ t ∷ [] → list_all is_plain ts ≡ true
plain-pushed ts rest t all plain is = ap (list_all is_plain) is ∙ list_all-append is_plain rest (t ∷ []) ∙ and_from (list_all is_plain rest) _ all (and_from (is_plain t) true plain refl)
