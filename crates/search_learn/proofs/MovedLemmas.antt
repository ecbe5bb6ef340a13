-- A cube with a looser literal in one's place.
use Rattle.std.proofs.Common.{◌≡◌, ℕ, ◌+◌, ◌<◌, zero, suc, List, [], ◌∷◌, ◌++◌, Bool, true, length, take, drop, get_or, refl, ap, sym, ◌∙◌, subst, arith}
use Rattle.std.specs.Prelude.{Option, Some, None, Result, Ok, Err, IfOk, IfSome}
use Rattle.std.specs.List.{list_all}
use Rattle.lin_atoms.specs.Truth.{lit_truth}
use Rattle.lin_atoms.specs.declared.lit.Lit.{Lit}
use Rattle.cube_rules.proofs.Public.{both_true, from_both, plus-one}
use Rattle.search_learn.specs.Candidates.{IsLooser}
use Rattle.lemma_general.specs.Tries.{IsWiderCube}

wider-gone : (lits : List Lit) (at : ℕ) (y lit : Lit) → at < length lits → y ≡ get_or lits at y → IsLooser y lit → IsWiderCube lits (take at lits ++ lit ∷ drop (suc at) lits)
wider-gone [] at y lit less is looser tuple h = absurd (omega (arith, less))
wider-gone (x ∷ lits) zero y lit less is looser tuple h =
    let both = both_true (lit_truth tuple x) (list_all (lit_truth tuple) lits) h in
    from_both (lit_truth tuple lit) (list_all (lit_truth tuple) lits) (looser tuple (subst (λ (z : Lit). lit_truth tuple z ≡ true) (sym is) both.0)) both.1
wider-gone (x ∷ lits) (suc at) y lit less is looser tuple h =
    let both = both_true (lit_truth tuple x) (list_all (lit_truth tuple) lits) h in
    from_both (lit_truth tuple x) (list_all (lit_truth tuple) (take at lits ++ lit ∷ drop (suc at) lits)) both.0 (wider-gone lits at y lit (omega (arith, less)) is looser tuple both.1)

pub wider-at : (lits made : List Lit) (at : ℕ) (y lit : Lit) → at < length lits → y ≡ get_or lits at y → IsLooser y lit → made ≡ take at lits ++ lit ∷ drop (at + 1) lits → IsWiderCube lits made
wider-at lits made at y lit less is looser same =
    let whole : take at lits ++ lit ∷ drop (suc at) lits ≡ made = ap (λ (n : ℕ). take at lits ++ lit ∷ drop n lits) (sym (plus-one at)) ∙ sym same in
    subst (IsWiderCube lits) whole (wider-gone lits at y lit less is looser)

pub made-wider : {E : Type 0} (cube made : List Lit) (r : Result (Option (List Lit)) E) → IsWiderCube cube made → IfOk r (λ m. IfSome m (λ c. c ≡ made)) → IfOk r (λ m. IfSome m (IsWiderCube cube))
made-wider cube made (Ok (Some c)) wider is = subst (IsWiderCube cube) (sym is) wider
made-wider cube made (Ok None) wider is = tt
made-wider cube made (Err e) wider is = tt
