-- A form with one disjunction that stands open is split at once, so it is given up by a tree with one inner node.
use Rattle.std.proofs.Common.{◌≡◌, ℕ, suc, zero, ◌+◌, List, [], ◌∷◌, ◌++◌, length, map, refl, ap, ◌∙◌, arith, Some}
use Rattle.std.specs.Prelude.{ℤ, pos, slice_get}
use Rattle.std.specs.List.{range_with_len}
use Rattle.lin_atoms.specs.declared.lit.Lit.{Lit}
use Rattle.lin_atoms.specs.declared.form.Form.{Form}
use Rattle.lin_atoms.specs.declared.form.Form.TheVariants.{Lit as Literal}
use Rattle.lin_atoms.specs.declared.form.Form.TheViews.{And, Or}
use Rattle.int_rows.specs.Basis.{bound}
use Rattle.int_rows.specs.Node.{greatest_lower, least_upper}
use Rattle.refutation_trees.specs.Flatten.{disjunctions}
use Rattle.refutation_trees.specs.GivenUp.{IsEvidence}
use Rattle.refutation_trees.specs.Refutation.{form_end}
use Rattle.refutation_trees.specs.Split.{HasSolution, by_cases, inner, start, with_part}
use Rattle.refutation_trees.specs.declared.evidence.Evidence.TheVariants.{Nodes}
use Rattle.refutation_trees.proofs.FlattenLemmas.{both-disjunctions, disjunctions-And, disjunctions-Or}
use Rattle.refutation_trees.proofs.ForestLemmas.{all-leaves}

abbrev zeros : ℕ → List ℤ
zeros zero = []
zeros (suc n) = pos 0 ∷ zeros n

zeros-length : (n : ℕ) → length (zeros n) ≡ n + 0
zeros-length zero = omega arith
zeros-length (suc n) = let rest = zeros-length n in omega (arith, rest)

-- without literals no column has a bound
no-lower : (from n c : ℕ) (l : ℤ) → bound (map (greatest_lower []) (range_with_len from n) ++ []) c ≡ Some l → ⊥
no-lower from zero c l h = cc
no-lower from (suc n) zero l h = cc
no-lower from (suc n) (suc c) l h = no-lower (from + 1) n c l h

no-upper : (from n c : ℕ) (u : ℤ) → bound (map (least_upper []) (range_with_len from n) ++ []) c ≡ Some u → ⊥
no-upper from zero c u h = cc
no-upper from (suc n) zero u h = cc
no-upper from (suc n) (suc c) u h = no-upper (from + 1) n c u h

nothing-solved : (q : ℕ) → HasSolution q []
nothing-solved q = record {
  constants = refl;
  point = record { nums = zeros q; den = 1 };
  positive = omega arith;
  width = zeros-length q;
  solves = λ k d h. absurd (omega (arith, h));
  meets = record { lower = λ c l h. absurd (no-lower 0 q c l h); upper = λ c u h. absurd (no-upper 0 q c u h) };
}

split-open : (form : Form) (parts : List Form) → disjunctions form ≡ parts ∷ [] → IsEvidence form (Nodes 1)
split-open form parts is =
    let q = form_end form in
    let below = map (with_part 0 (start form)) parts in
    (omega arith, inner (start form) [] below 0 (record { solution = nothing-solved q; split = by_cases 0 parts (ap (λ (ds : List (List Form)). slice_get ds 0) is) refl }) (all-leaves q (below ++ [])))

-- a base without a disjunction, and one beside it
beside-base : (base : Form) (parts : List Form) → disjunctions base ≡ [] → IsEvidence (And (base ∷ Or parts ∷ [])) (Nodes 1)
beside-base base parts none =
    split-open (And (base ∷ Or parts ∷ [])) parts
    (disjunctions-And (base ∷ Or parts ∷ [])
    ∙ ap (λ (ds : List (List Form)). ds ++ (disjunctions (Or parts) ++ [])) none
    ∙ ap (λ (ds : List (List Form)). ds ++ []) (disjunctions-Or parts))

pub one-given-up : (a : Lit) (parts : List Form) → IsEvidence (And (And (Literal a ∷ []) ∷ Or parts ∷ [])) (Nodes 1)
one-given-up a parts = beside-base (And (Literal a ∷ [])) parts (disjunctions-And (Literal a ∷ []))

pub two-given-up : (a b : Lit) (parts : List Form) → IsEvidence (And (And (Literal a ∷ Literal b ∷ []) ∷ Or parts ∷ [])) (Nodes 1)
two-given-up a b parts = beside-base (And (Literal a ∷ Literal b ∷ [])) parts (both-disjunctions a b)

-- a disjunction in the base
pub choice-given-up : (parts : List Form) (a : Lit) → IsEvidence (And (And (Or parts ∷ Literal a ∷ []) ∷ [])) (Nodes 1)
choice-given-up parts a =
    let base = And (Or parts ∷ Literal a ∷ []) in
    split-open (And (base ∷ [])) parts
    (disjunctions-And (base ∷ [])
    ∙ ap (λ (ds : List (List Form)). ds ++ []) (disjunctions-And (Or parts ∷ Literal a ∷ []) ∙ ap (λ (ds : List (List Form)). ds ++ []) (disjunctions-Or parts)))
