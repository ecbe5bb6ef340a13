-- One turn of the search keeps its invariant.
use Rattle.std.proofs.Common.{◌≡◌, ℕ, suc, ◌+◌, ◌<◌, ◌≤◌, List, [], ◌∷◌, ◌++◌, map, refl, ap, sym, ◌∙◌, arith, true, Some, zero, false, Bool, cond}
use Rattle.std.specs.Prelude.{ℤ, pos, neg_ℤ, ◌+ℤ◌, length, slice_get, nat_lt}
use Rattle.std.specs.List.{Contains, list_all, range_with_len}
use Rattle.std.proofs.lemmas.Bool.{and_from, ltb-true}
use Rattle.std.proofs.lemmas.List.FromFn.{get_or-map-range_with_len, length-map-range_with_len, map-range_with_len_more}
use Rattle.lin_atoms.specs.Linear.{is_short, variable_at}
use Rattle.lin_atoms.specs.Truth.{is_below, truth}
use Rattle.lin_atoms.specs.declared.form.Form.{Form}
use Rattle.lin_atoms.specs.declared.lit.Lit.{Lit}
use Rattle.lin_atoms.proofs.Public.{both_true, form-agree}
use Rattle.int_rows.specs.Node.{system}
use Rattle.refutation_trees.specs.GivenUp.{IsEvidence}
use Rattle.refutation_trees.specs.Refutation.{form_end}
use Rattle.refutation_trees.specs.Split.{HasSolution, HasVertexBetween, IsInner, IsNode, Node, at_least, at_most, by_branch, under, with_bound}
use Rattle.refutation_trees.specs.declared.evidence.Evidence.{Evidence}
use Rattle.refutation_trees.proofs.FormLemmas.{form_below}
use Rattle.lia_close.specs.Placed.{Place, in_part, with_known}
use Rattle.lia_node.specs.Tells.{IsEvidenceAt}
use Rattle.lia_stack.specs.declared.waiting.Open.{Open}
use Rattle.lia_stack.specs.machinery.Opened.{AreOpen, IsOpen, node_of, opened_part, with_lit}
use Rattle.lia_stack.specs.machinery.Searched.{cut, value_of}
use Rattle.lia_stack.proofs.EndLemmas.{form-ends}
use Rattle.lia_stack.proofs.MoreLemmas.{open-bound}
use Rattle.lia_stack.proofs.PartLemmas.{open-part}

-- the sides of a branch
side-node : (form : Form) (o : Open) (lit : Lit) (below : List Node) → IsNode form (node_of o) → IsInner (form_end form) (node_of o) below → Contains below (with_bound (node_of o) lit) → IsNode form (node_of (with_lit o lit))
side-node form o lit below is inner there = under (node_of o) (node_of (with_lit o lit)) below is inner there

branch : (form : Form) (o : Open) (x : ℕ) (c : ℤ) → HasSolution (form_end form) o.lits → HasVertexBetween (system (form_end form) o.lits) x c → IsInner (form_end form) (node_of o) (with_bound (node_of o) (at_most x c) ∷ with_bound (node_of o) (at_least x (c +ℤ pos 1)) ∷ [])
branch form o x c solution vertex = record { solution = solution; split = by_branch x c vertex refl }

pub open-low : (form : Form) (o : Open) (place : Place) (x : ℕ) (c : ℤ) → IsOpen form o place → HasSolution (form_end form) o.lits → HasVertexBetween (system (form_end form) o.lits) x c → length o.reasons ≡ length o.lits → IsOpen form (with_lit o (at_most x c)) (with_known place (at_most x c ∷ []))
open-low form o place x c is solution vertex full =
    open-bound form o place x (pos 1) (neg_ℤ c) is (side-node form o (at_most x c) _ is.is_node (branch form o x c solution vertex) (0, omega arith, refl)) vertex.variable full

pub open-high : (form : Form) (o : Open) (place : Place) (x : ℕ) (c : ℤ) → IsOpen form o place → HasSolution (form_end form) o.lits → HasVertexBetween (system (form_end form) o.lits) x c → length o.reasons ≡ length o.lits → IsOpen form (with_lit o (at_least x (c +ℤ pos 1))) (with_known place (at_least x (c +ℤ pos 1) ∷ []))
open-high form o place x c is solution vertex full =
    open-bound form o place x (neg_ℤ (pos 1)) (c +ℤ pos 1) is (side-node form o (at_least x (c +ℤ pos 1)) _ is.is_node (branch form o x c solution vertex) (1, omega arith, refl)) vertex.variable full

-- the parts of an open disjunction: each below the node, where all quotients have names
pub open-parts : (form : Form) (o : Open) (place : Place) (which : ℕ) (parts some : List Form) → IsOpen form o place → HasSolution (form_end form) o.lits → length o.reasons ≡ length o.lits → slice_get o.cases which ≡ Some parts → ((part : Form) → Contains some part → Contains parts part)
    → AreOpen form (map (opened_part which o) some) (map (in_part which place) some)
open-parts form o place which parts [] is solution full there are = tt
open-parts form o place which parts (part ∷ some) is solution full there are = (
  open-part form o place which parts part is solution full there (are part (0, omega arith, refl)),
  open-parts form o place which parts some is solution full there (λ other inside. are other (suc inside.0, (let less = inside.1 in omega (arith, less)), inside.2)),
)

-- a number of a node without room is evidence
pub open-evidence : (form : Form) (o : Open) (place : Place) (q : ℕ) (evidence : Evidence) → IsOpen form o place → q ≡ form_end form → IsEvidenceAt q o.lits evidence → IsEvidence form evidence
open-evidence form o place q evidence is end at = at form (sym end) (node_of o, is.is_node, refl)

-- the values of the form's variables alone decide
cut-at : (point : List ℤ) (end vars v : ℕ) → nat_lt v end ≡ true → v < vars → variable_at (cut point end vars) v ≡ variable_at point v
cut-at point end vars v e less = get_or-map-range_with_len (λ v. value_of point v end) 0 vars v v (pos 0) less (omega arith) ∙ ap (λ b. cond b (variable_at point v) (pos 0)) e

pub cut-true : (form : Form) (point : List ℤ) (vars : ℕ) → is_below vars form ≡ true → truth point form ≡ true → truth (cut point (form_end form) vars) form ≡ true
cut-true form point vars below is =
    let end = form_end form in
    let least = form-ends vars form below in
    let same = form-agree (λ v. nat_lt v end) point (cut point end vars) form (λ v e. let less : v < end = ltb-true v end e in sym (cut-at point end vars v e (omega (arith, less, least)))) (form_below end form (omega arith)) in
    sym same ∙ is

-- a value past the end is 0
short-at : (point : List ℤ) (v : ℕ) → list_all is_short point ≡ true → is_short (variable_at point v) ≡ true
short-at [] v short = refl
short-at (x ∷ point) zero short = (both_true (is_short x) _ short).0
short-at (x ∷ point) (suc v) short = short-at point v (both_true (is_short x) _ short).1

value-short : (point : List ℤ) (v : ℕ) (b : Bool) → list_all is_short point ≡ true → is_short (cond b (variable_at point v) (pos 0)) ≡ true
value-short point v true short = short-at point v short
value-short point v false short = refl

cut-from : (point : List ℤ) (end from n : ℕ) → list_all is_short point ≡ true → list_all is_short (map (λ v. value_of point v end) (range_with_len from n)) ≡ true
cut-from point end from zero short = refl
cut-from point end from (suc n) short = and_from _ _ (value-short point from (nat_lt from end) short) (cut-from point end (from + 1) n short)

pub cut-short : (point : List ℤ) (end vars : ℕ) → list_all is_short point ≡ true → list_all is_short (cut point end vars) ≡ true
cut-short point end vars short = cut-from point end 0 vars short

-- one value more
pub cut-more : (point : List ℤ) (end n : ℕ) (made new : List ℤ) (x : ℤ) → made ≡ cut point end n → x ≡ value_of point n end → new ≡ made ++ x ∷ [] → new ≡ cut point end (n + 1)
cut-more point end n made new x so is e =
    e ∙ ap (λ (xs : List ℤ). xs ++ x ∷ []) so ∙ ap (λ (y : ℤ). cut point end n ++ y ∷ []) is ∙ sym (map-range_with_len_more (λ v. value_of point v end) 0 n n (omega arith))

-- what a model of all variables and quotients of a node decides
pub decides-model : (form : Form) (point seen model : List ℤ) (end vars : ℕ) → is_below vars form ≡ true → (form_end form ≤ length point) × (list_all is_short point ≡ true) × (truth point form ≡ true) → end ≡ form_end form → seen ≡ point → model ≡ cut seen end vars
    → (length model ≡ vars) × (list_all is_short model ≡ true) × (truth model form ≡ true)
decides-model form point seen model end vars below ends at sees is =
    let q = form_end form in
    let made : model ≡ cut point q vars = is ∙ ap (λ (xs : List ℤ). cut xs end vars) sees ∙ ap (λ (e : ℕ). cut point e vars) at in (
      ap (λ (xs : List ℤ). length xs) made ∙ length-map-range_with_len (λ v. value_of point v q) 0 vars,
      ap (list_all is_short) made ∙ cut-short point q vars ends.1,
      ap (λ (xs : List ℤ). truth xs form) made ∙ cut-true form point vars below ends.2,
    )
