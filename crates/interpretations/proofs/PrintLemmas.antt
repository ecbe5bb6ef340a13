-- What a definition is made of is printed.
use Rattle.std.proofs.Common.{◌≡◌, ℕ, suc, ◌+◌, ◌≤◌, List, [], ◌∷◌, length, map, refl, ap, sym, ◌∙◌, subst, arith, inl, inr}
use Rattle.std.specs.Prelude.{◌⊎◌, neg_ℤ, slice_get, Some}
use Rattle.std.specs.List.{AllByRecursion, enumerate_from}
use Rattle.std.proofs.lemmas.List.{length-map}
use Rattle.std.proofs.lemmas.List.FromFn.{length-enumerate_from}
use Rattle.term_tree.specs.declared.sort.Sort.{Sort}
use Rattle.term_tree.specs.declared.node.TermId.{TermId}
use Rattle.term_tree.specs.declared.node.OpKind.{OpKind}
use Rattle.term_tree.specs.declared.node.OpKind.TheVariants.{And, Eq, Le}
use Rattle.term_tree.specs.declared.node.Node.{Node}
use Rattle.term_tree.specs.declared.node.Node.TheVariants.{True, Op}
use Rattle.term_tree.specs.declared.script.Pred.{Pred}
use Rattle.term_tree.specs.declared.definition.Definition.{Definition}
use Rattle.term_tree.specs.Solution.{DefinesEach}
use Rattle.lin_atoms.specs.Linear.{Linear}
use Rattle.lin_atoms.specs.declared.lit.Lit.{Lit}
use Rattle.lin_atoms.specs.declared.lit.Lit.TheVariants.{Le as AtMost, Eq as Equal, Div, NDiv}
use Rattle.lemma_frames.specs.declared.framed.Framed.{Framed}
use Rattle.term_check.specs.Spelling.{sorts_in, sorts_of}
use Rattle.answer_text.specs.Lemmas.{IsComparison, IsDefiningTerm, IsDivisibility, IsLemma, IsLiteral, IsNode}
use Rattle.answer_text.specs.Printable.{IsMadeOfLemmas}
use Rattle.answer_text.specs.Terms.{parameter_name}
use Rattle.interpretations.specs.Definitions.{AreDefinitionsOf}
use Rattle.interpretations.specs.Terms.{Each, IsComparisonOf, IsDefiningTermOf, IsDivisibilityOf, IsJoined, IsLemmaOf, IsLiteralOf}

comparison-shown : (nodes : List Node) (sorts : List Sort) (op : OpKind) (lin : Linear) (id : TermId) → IsComparisonOf nodes sorts op lin id → IsComparison nodes sorts op id
comparison-shown nodes sorts op lin id h = record {
  left = h.left;
  right = h.right;
  number = neg_ℤ lin.constant;
  short = h.short;
  linear = record { terms = lin.terms; items = h.linear.items; ordered = h.linear.ordered; products = h.linear.products; sum = h.linear.sum };
  constant = h.constant;
  node = h.node;
}

divisibility-shown : (nodes : List Node) (sorts : List Sort) (divisor : ℕ) (lin : Linear) (id : TermId) → IsDivisibilityOf nodes sorts divisor lin id → IsDivisibility nodes sorts id
divisibility-shown nodes sorts divisor lin id h = record {
  divisor = divisor;
  sum = h.sum;
  positive = h.positive;
  short = h.short;
  shifted =
      record { terms = lin.terms; items = h.shifted.items; constant = lin.constant; short = h.shifted.short; ordered = h.shifted.ordered; products = h.shifted.products; sum = h.shifted.sum };
  node = h.node;
}

literal-shown : (nodes : List Node) (sorts : List Sort) (lit : Lit) (id : TermId) → IsLiteralOf nodes sorts lit id → IsLiteral nodes sorts id
literal-shown nodes sorts (AtMost lin) id h = inl (comparison-shown nodes sorts Le lin id h)
literal-shown nodes sorts (Equal lin) id h = inr (inl (comparison-shown nodes sorts Eq lin id h))
literal-shown nodes sorts (Div n lin) id h = inr (inr (inl (divisibility-shown nodes sorts n lin id h)))
literal-shown nodes sorts (NDiv n lin) id h = inr (inr (inr (h.0, divisibility-shown nodes sorts n lin h.0 h.1, h.2)))

each-all : {X : Type 0} (R : X → TermId → Type 0) (P : TermId → Type 0) → ((x : X) (id : TermId) → R x id → P id) → (xs : List X) (ids : List TermId) → Each R xs ids → AllByRecursion P ids
each-all R P f [] [] each = tt
each-all R P f [] (id ∷ ids) each = absurd each
each-all R P f (x ∷ xs) [] each = absurd each
each-all R P f (x ∷ xs) (id ∷ ids) each = (f x id each.0, each-all R P f xs ids each.1)

two-more : (x y : TermId) (xs : List TermId) → 2 ≤ length (x ∷ y ∷ xs)
two-more x y xs = omega arith

-- none, one, or a conjunction of more
abbrev IsShown : List Node → (TermId → Type 0) → TermId → Type 0
IsShown nodes P id = IsNode nodes id True ⊎ (P id ⊎ ((parts : List TermId) × (2 ≤ length parts) × AllByRecursion P parts × IsNode nodes id (Op And parts)))

joined-shown : (nodes : List Node) (P : TermId → Type 0) (parts : List TermId) (id : TermId) → AllByRecursion P parts → IsJoined nodes parts id → IsShown nodes P id
joined-shown nodes P [] id all joined = inl joined
joined-shown nodes P (x ∷ []) id all joined = inr (inl (subst P (sym joined) all.0))
joined-shown nodes P (x ∷ y ∷ xs) id all joined = inr (inr (x ∷ y ∷ xs, two-more x y xs, all, joined))

some-shown : {X : Type 0} (nodes : List Node) (R : X → TermId → Type 0) (P : TermId → Type 0) (x : X) (xs : List X) (parts : List TermId) (id : TermId) → Each R (x ∷ xs) parts → AllByRecursion P parts
    → IsJoined nodes parts id → P id ⊎ ((parts : List TermId) × (2 ≤ length parts) × AllByRecursion P parts × IsNode nodes id (Op And parts))
some-shown nodes R P x xs [] id each all joined = absurd each
some-shown nodes R P x xs (y ∷ []) id each all joined = inl (subst P (sym joined) all.0)
some-shown nodes R P x xs (y ∷ z ∷ ys) id each all joined = inr (y ∷ z ∷ ys, two-more y z ys, all, joined)

lemma-shown : (nodes : List Node) (sorts : List Sort) (cube : List Lit) (id : TermId) → IsLemmaOf nodes sorts cube id → IsLemma nodes sorts id
lemma-shown nodes sorts [] id h = inl h
lemma-shown nodes sorts (lit ∷ cube) id h =
    let conjunction = h.1 in
    inr (
      h.0,
      some-shown nodes (IsLiteralOf nodes sorts) (IsLiteral nodes sorts) lit cube conjunction.parts h.0 conjunction.each
          (each-all (IsLiteralOf nodes sorts) (IsLiteral nodes sorts) (literal-shown nodes sorts) (lit ∷ cube) conjunction.parts conjunction.each) conjunction.joined,
      h.2,
    )

pub term-shown : (nodes : List Node) (sorts : List Sort) (cubes : List (List Lit)) (id : TermId) → IsDefiningTermOf nodes sorts cubes id → IsDefiningTerm nodes sorts id
term-shown nodes sorts cubes id h =
    joined-shown nodes (IsLemma nodes sorts) h.parts id (each-all (IsLemmaOf nodes sorts) (IsLemma nodes sorts) (lemma-shown nodes sorts) cubes h.parts h.each) h.joined

-- the definitions

pub defines-each : (lemmas : List Framed) (k number : ℕ) (preds : List Pred) (definitions : List Definition) → AreDefinitionsOf lemmas k number preds definitions → DefinesEach number preds definitions
defines-each lemmas k number [] [] h = tt
defines-each lemmas k number [] (d ∷ definitions) h = absurd h
defines-each lemmas k number (p ∷ preds) [] h = absurd h
defines-each lemmas k number (p ∷ preds) (d ∷ definitions) h = (h.0.pred_is, names-count p d h.0.names, defines-each lemmas k (number + 1) preds definitions h.1)
  where
    names-count : (p : Pred) (d : Definition) → map (λ name. name.bytes) d.params ≡ map (λ a. parameter_name a.0) (enumerate_from 0 p.args) → length d.params ≡ length p.args
    names-count p d same =
        sym (length-map d.params (λ name. name.bytes)) ∙ ap length same ∙ length-map (enumerate_from 0 p.args) (λ a. parameter_name a.0) ∙ length-enumerate_from 0 p.args

-- these predicates stand among all from this number on
abbrev Stand : List Pred → ℕ → List Pred → Type 0
Stand all number preds = (k : ℕ) (p : Pred) → slice_get preds k ≡ Some p → slice_get all (number + k) ≡ Some p

pub made-of-lemmas : (all : List Pred) (lemmas : List Framed) (k number : ℕ) (preds : List Pred) (definitions : List Definition) → Stand all number preds
    → AreDefinitionsOf lemmas k number preds definitions → AllByRecursion (IsMadeOfLemmas all) definitions
made-of-lemmas all lemmas k number [] [] stand h = tt
made-of-lemmas all lemmas k number [] (d ∷ definitions) stand h = absurd h
made-of-lemmas all lemmas k number (p ∷ preds) [] stand h = absurd h
made-of-lemmas all lemmas k number (p ∷ preds) (d ∷ definitions) stand h =
    let here : slice_get all d.pred ≡ Some p = ap (λ (i : ℕ). slice_get all i) (omega (arith, h.0.pred_is)) ∙ stand 0 p refl in
    let sorts : p.args ≡ sorts_of all d.pred = ap sorts_in (sym here) in (
      record {
        names = h.0.names ∙ ap (λ (ss : List Sort). map (λ a. parameter_name a.0) (enumerate_from 0 ss)) sorts;
        term = subst (λ (ss : List Sort). IsDefiningTerm d.terms.nodes ss d.body) sorts (term-shown d.terms.nodes p.args h.0.cubes d.body h.0.term);
      },
      made-of-lemmas all lemmas k (number + 1) preds definitions (λ i q is. ap (λ (j : ℕ). slice_get all j) (omega arith) ∙ stand (suc i) q is) h.1,
    )

pub all-made-of-lemmas : (lemmas : List Framed) (k : ℕ) (preds : List Pred) (definitions : List Definition) → AreDefinitionsOf lemmas k 0 preds definitions
    → AllByRecursion (IsMadeOfLemmas preds) definitions
all-made-of-lemmas lemmas k preds definitions h = made-of-lemmas preds lemmas k 0 preds definitions (λ i p is. ap (λ (j : ℕ). slice_get preds j) (omega arith) ∙ is) h
