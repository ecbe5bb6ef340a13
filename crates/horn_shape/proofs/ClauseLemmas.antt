-- The terms of a legal script are there.
use Rattle.std.proofs.Common.{◌≡◌, ℕ, zero, suc, ◌<◌, ◌≤◌, List, [], ◌∷◌, length, get_or, inl, inr, refl, ap, sym, ◌∙◌, arith}
use Rattle.std.proofs.lemmas.Bool.{cases_lt}
use Rattle.std.proofs.lemmas.Bool.Decides.{nat_tests}
use Rattle.std.specs.Prelude.{slice_get, Some, None, nat_lt, true, false, ◌&&◌}
use Rattle.std.specs.List.{AllByRecursion}
use Rattle.term_tree.specs.declared.sort.Sort.{Sort}
use Rattle.term_tree.specs.declared.sort.Sort.TheVariants.{Bool as BoolSort}
use Rattle.term_tree.specs.declared.script.Pred.{Pred as Declared}
use Rattle.term_tree.specs.declared.script.Assertion.{Assertion}
use Rattle.term_tree.specs.declared.script.Script.{Script}
use Rattle.term_tree.specs.declared.node.Node.{Node}
use Rattle.term_tree.specs.Legal.{IsLegal}
use Rattle.term_tree.specs.Sorts.{node_sort, sort_of}
use Rattle.term_tree.proofs.Public.{below_from, both_true, told_past}
use Rattle.horn_shape.specs.Clause.{IsLegalScript, has_assertion, is_in}

-- a sorted term is there
pub sorted_there : (preds : List Declared) (nodes : List Node) (id : ℕ) (s : Sort) → sort_of preds nodes id ≡ Some s → id < length nodes
sorted_there preds nodes id s h = elim (cases_lt id (length nodes)) [ inl less ↦ less | inr past ↦ absurd (differs (sym (told_past _ None (node_sort preds) nodes id past) ∙ h)) ]
  where
    differs : None ≡ Some s → ⊥
    differs e = absurd (cc)

pub all_at : {X : Type 0} (P : X → Type 0) (xs : List X) (i : ℕ) (d : X) → AllByRecursion P xs → i < length xs → P (get_or xs i d)
all_at P [] i d all less = absurd (omega arith)
all_at P (x ∷ xs) zero d all less = all.0
all_at P (x ∷ xs) (suc i) d all less = all_at P xs i d all.1 (omega arith)

pub got : {X : Type 0} (xs : List X) (i : ℕ) (d : X) → i < length xs → slice_get xs i ≡ Some (get_or xs i d)
got [] i d less = absurd (omega arith)
got (x ∷ xs) zero d less = refl
got (x ∷ xs) (suc i) d less = got xs i d (omega arith)

-- the assertion of that number in a legal script
pub legal_at : (script : Script) (i : ℕ) (d : Assertion) → IsLegalScript script → i < length script.asserts
    → IsLegal script.preds script.terms.nodes [] BoolSort (get_or script.asserts i d).term.0
legal_at script i d legal less = all_at (λ a. IsLegal script.preds script.terms.nodes [] BoolSort a.term.0) script.asserts i d legal.asserts less

-- what the test of an assertion says
pub record IsThere (script : Script) (i : ℕ) (d : Assertion) : Type 0 where
  pub few : i < 65536
  pub less : i < length script.asserts
  pub within : (get_or script.asserts i d).term.0 < length script.terms.nodes

within_list : {X : Type 0} (xs : List X) (i : ℕ) → length xs ≤ i → slice_get xs i ≡ None
within_list [] i past = refl
within_list (x ∷ xs) zero past = absurd (omega arith)
within_list (x ∷ xs) (suc i) past = within_list xs i (omega arith)

pub there : (script : Script) (i : ℕ) (d : Assertion) → has_assertion script i ≡ true → IsThere script i d
there script i d h =
    let both = both_true (nat_lt i 65536) (is_in script (slice_get script.asserts i)) h in
    elim (cases_lt i (length script.asserts)) [
      | inl less ↦ record { few = below_from i 65536 both.0; less = less; within = below_from _ _ (ap (is_in script) (sym (got script.asserts i d less)) ∙ both.1) }
      | inr past ↦ absurd (differs (sym (ap (is_in script) (within_list script.asserts i past)) ∙ both.1))
    ]
  where
    differs : false ≡ true → ⊥
    differs e = absurd (cc)

-- a legal script has its assertions
pub legal_has_assertion : (script : Script) (i : ℕ) → IsLegalScript script → i < length script.asserts → has_assertion script i ≡ true
legal_has_assertion script i legal less =
    let d : Assertion = record { term = record { 0 = 0 }; offset = 0; command = 0 } in
    ap (λ b. b && is_in script (slice_get script.asserts i)) (lt_true i 65536 (omega (arith, legal.few_asserts)))
    ∙ ap (is_in script) (got script.asserts i d less)
    ∙ lt_true _ _ (sorted_there script.preds script.terms.nodes (get_or script.asserts i d).term.0 BoolSort (legal_at script i d legal less).sorted)
  where
    lt_true : (a b : ℕ) → a < b → nat_lt a b ≡ true
    lt_true a b h = grind (arith, nat_tests)
