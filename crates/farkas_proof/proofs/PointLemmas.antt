-- Points of the nodes of split trees: what is split, or joined by a literal, loses none.
use Rattle.std.proofs.Common.{◌≡◌, ℕ, suc, zero, ◌+◌, List, [], ◌∷◌, map, take, drop, Some, refl, ap, sym, ◌∙◌, subst, arith, true, false, Bool, ◌&&◌}
use Rattle.std.specs.Prelude.{ℤ, pos, neg_ℤ, ◌+ℤ◌, ◌≤ℤ◌, int_le, slice_get}
use Rattle.std.specs.List.{Contains, list_all, list_any}
use Rattle.std.proofs.lemmas.Int.{ints}
use Rattle.lin_atoms.specs.Linear.{value_at, variable_at}
use Rattle.lin_atoms.specs.Truth.{lit_truth, truth}
use Rattle.lin_atoms.specs.declared.lit.Lit.{Lit}
use Rattle.lin_atoms.specs.declared.form.Form.{Form}
use Rattle.lin_atoms.proofs.Public.{both_true}
use Rattle.refutation_trees.specs.Flatten.{disjunctions, literals}
use Rattle.refutation_trees.specs.Split.{Node, IsInner, IsSplit, at_least, at_most, by_branch, by_cases, is_point_of, joined, start, with_bound, with_part}
use Rattle.refutation_trees.proofs.FormLemmas.{disjunctions_true, literals_true}
use Rattle.farkas_proof.proofs.SoundLemmas.{true-le}
use Rattle.farkas_proof.proofs.TreeLemmas.{all_dropped, all_joined, all_replaced, all_taken, or_true}

and_of : (a b c : Bool) → a ≡ true → b ≡ true → c ≡ true → (a && (b && c)) ≡ true
and_of a b c h t e = ap (λ v. v && (b && c)) h ∙ ap (λ v. v && c) t ∙ e

-- what is true at a point of a node
record Holds (point : List ℤ) (node : Node) : Type 0 where
  lits : list_all (lit_truth point) node.lits ≡ true
  left_out : list_all (lit_truth point) node.left_out ≡ true
  open_cases : list_all (list_any (truth point)) node.open_cases ≡ true

holds : (point : List ℤ) (node : Node) → is_point_of point node ≡ true → Holds point node
holds point node h =
    let lits = both_true (list_all (lit_truth point) node.lits) _ h in
    let others = both_true (list_all (lit_truth point) node.left_out) _ lits.1 in
    record { lits = lits.0; left_out = others.0; open_cases = others.1 }

is-point : (point : List ℤ) (node : Node) → Holds point node → is_point_of point node ≡ true
is-point point node h = and_of _ _ _ h.lits h.left_out h.open_cases

-- one side of a branch
low-true : (point : List ℤ) (x : ℕ) (c : ℤ) → variable_at point x ≤ℤ c → lit_truth point (at_most x c) ≡ true
low-true point x c h = let low : value_at point (record { terms = (x, pos 1) ∷ []; constant = neg_ℤ c }) ≤ℤ pos 0 = omega (arith, ints, h) in true-le (value_at point (record { terms = (x, pos 1) ∷ []; constant = neg_ℤ c })) (pos 0) low

high-true : (point : List ℤ) (x : ℕ) (c : ℤ) → c ≤ℤ variable_at point x → lit_truth point (at_least x c) ≡ true
high-true point x c h = let low : value_at point (record { terms = (x, neg_ℤ (pos 1)) ∷ []; constant = c }) ≤ℤ pos 0 = omega (arith, ints, h) in true-le (value_at point (record { terms = (x, neg_ℤ (pos 1)) ∷ []; constant = c })) (pos 0) low

bound-holds : (point : List ℤ) (node : Node) (lit : Lit) → Holds point node → lit_truth point lit ≡ true → is_point_of point (with_bound node lit) ≡ true
bound-holds point node lit h t =
    is-point point (with_bound node lit) (record {
      lits = all_joined (lit_truth point) node.lits (lit ∷ []) h.lits (ap (λ b. b && true) t);
      left_out = h.left_out;
      open_cases = h.open_cases;
    })

-- the first part that is true, among those of a disjunction
true-part : (point : List ℤ) (node : Node) (which : ℕ) (parts : List Form) → Holds point node → list_any (truth point) parts ≡ true
    → (b : Node) × Contains (map (with_part which node) parts) b × (is_point_of point b ≡ true)
true-part point node which [] h t = absurd (cc)
true-part point node which (part ∷ parts) h t =
    elim (truth point part) as (λ v. truth point part ≡ v → (b : Node) × Contains (map (with_part which node) (part ∷ parts)) b × (is_point_of point b ≡ true)) [
      | true ↦ λ is.
          let known = is-point point (with_part which node part) (record {
            lits = all_joined (lit_truth point) node.lits (literals part) h.lits (literals_true point part is);
            left_out = h.left_out;
            open_cases = all_replaced (list_any (truth point)) which node.open_cases (disjunctions part) h.open_cases (disjunctions_true point part is);
          }) in
          (with_part which node part, (0, omega arith, refl), known)
      | false ↦ λ is.
          let rest = true-part point node which parts h (or_true (truth point part) _ t is) in
          (rest.0, (suc rest.1.0, omega (arith, rest.1.1), rest.1.2), rest.2)
    ] refl

opened-true : (p : List Form → Bool) (cases : List (List Form)) (which : ℕ) (parts : List Form) → slice_get cases which ≡ Some parts → list_all p cases ≡ true → p parts ≡ true
opened-true p [] which parts at h = absurd (cc)
opened-true p (c ∷ cases) zero parts at h = let same : c ≡ parts = cc in subst (λ ps. p ps ≡ true) same (both_true (p c) _ h).0
opened-true p (c ∷ cases) (suc which) parts at h = opened-true p cases which parts at (both_true (p c) _ h).1

split-keeps : (q : ℕ) (node : Node) (below : List Node) (point : List ℤ) → IsSplit q node below → Holds point node → (b : Node) × Contains below b × (is_point_of point b ≡ true)
split-keeps q node below point (by_cases which parts at e) h =
    subst (λ (nodes : List Node). (b : Node) × Contains nodes b × (is_point_of point b ≡ true)) (sym e)
    (true-part point node which parts h (opened-true (list_any (truth point)) node.open_cases which parts at h.open_cases))
split-keeps q node below point (by_branch x c vertex e) h =
    subst (λ (nodes : List Node). (b : Node) × Contains nodes b × (is_point_of point b ≡ true)) (sym e)
    (elim (int_le (variable_at point x) c) as (λ v. int_le (variable_at point x) c ≡ v → (b : Node) × Contains (with_bound node (at_most x c) ∷ with_bound node (at_least x (c +ℤ pos 1)) ∷ []) b × (is_point_of point b ≡ true)) [
      | true ↦ λ is. (with_bound node (at_most x c), (0, omega arith, refl), bound-holds point node (at_most x c) h (low-true point x c (grind (arith, ints))))
      | false ↦ λ is. (with_bound node (at_least x (c +ℤ pos 1)), (1, omega arith, refl), bound-holds point node (at_least x (c +ℤ pos 1)) h (high-true point x (c +ℤ pos 1) (grind (arith, ints))))
    ] refl)

pub points-below : (q : ℕ) (node : Node) (below : List Node) (point : List ℤ) → IsInner q node below → is_point_of point node ≡ true → (b : Node) × Contains below b × (is_point_of point b ≡ true)
points-below q node below point inner h = split-keeps q node below point inner.split (holds point node h)

left-true : (p : Lit → Bool) (lits : List Lit) (k : ℕ) (lit : Lit) → slice_get lits k ≡ Some lit → list_all p lits ≡ true → p lit ≡ true
left-true p [] k lit at h = absurd (cc)
left-true p (l ∷ lits) zero lit at h = let same : l ≡ lit = cc in subst (λ (m : Lit). p m ≡ true) same (both_true (p l) _ h).0
left-true p (l ∷ lits) (suc k) lit at h = left-true p lits k lit at (both_true (p l) _ h).1

pub points-join : (node : Node) (k : ℕ) (lit : Lit) (point : List ℤ) → slice_get node.left_out k ≡ Some lit → is_point_of point node ≡ true → is_point_of point (joined k lit node) ≡ true
points-join node k lit point at h =
    let held = holds point node h in
    is-point point (joined k lit node) (record {
      lits = all_joined (lit_truth point) node.lits (lit ∷ []) held.lits (ap (λ b. b && true) (left-true (lit_truth point) node.left_out k lit at held.left_out));
      left_out = all_joined (lit_truth point) (take k node.left_out) (drop (k + 1) node.left_out) (all_taken (lit_truth point) k node.left_out held.left_out) (all_dropped (lit_truth point) (k + 1) node.left_out held.left_out);
      open_cases = held.open_cases;
    })

pub points-start : (form : Form) (point : List ℤ) → truth point form ≡ true → is_point_of point (start form) ≡ true
points-start form point t = and_of _ _ _ refl (literals_true point form t) (disjunctions_true point form t)
