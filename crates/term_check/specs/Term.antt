-- Terms as the text spells them (SMT-LIB 2.6, section 3.6): each part has the offset at which it starts. Quantified variables are
-- numbered in order of the text; the terms that let binds are numbered from the outermost let inwards.
use Rattle.std.specs.Prelude.{◌≡◌, ℕ, ℤ, pos, List, [], ◌∷◌, ◌++◌, Bool, true, false, Some, slice_get}
use Rattle.term_tree.specs.declared.sort.Sort.{Sort}
use Rattle.term_tree.specs.declared.node.OpKind.{OpKind}
use Rattle.term_tree.specs.declared.node.TermId.{TermId}
use Rattle.term_tree.specs.declared.node.Node.{Node}
use Rattle.term_tree.specs.declared.node.Node.TheVariants.{Num, True, False, Var, LetVar, Pred, Op, Divisible, Let, Forall, Exists}
use Rattle.term_tree.specs.Arena.{Arena}

mutual
  -- a term by its form; each part has the offset at which it starts
  pub data Term : Type 0 where
    numeral : (at : ℕ) (value : ℤ) → Term
    truth : (at : ℕ) (value : Bool) → Term
    variable : (at number : ℕ) (sort : Sort) → Term
    let_name : (at number : ℕ) → Term
    predicate : (at number : ℕ) (args : Terms) → Term
    operation : (at : ℕ) (op : OpKind) (args : Terms) → Term
    divisible : (at by : ℕ) (arg : Term) → Term
    binding : (at : ℕ) (bound : Terms) (body : Term) → Term
    universal : (at first : ℕ) (sorts : List Sort) (body : Term) → Term
    existential : (at first : ℕ) (sorts : List Sort) (body : Term) → Term

  -- terms in order: the arguments of an application, or the terms that a let binds
  pub data Terms : Type 0 where
    none : Terms
    more : (term : Term) (terms : Terms) → Terms

-- one more term at the end
abbrev pub with_last : Terms → Term → Terms
with_last none t = more t none
with_last (more u us) t = more u (with_last us t)

-- the node of this number, and where it starts
abbrev pub IsNodeAt : Arena → ℕ → Node → ℕ → Type 0
IsNodeAt arena id node at = (slice_get arena.nodes id ≡ Some node) × (slice_get arena.offsets id ≡ Some at)

-- IsTermAt arena lets term id: the arena has the term at this number, where the terms of lets around it stand at these. The
-- names of let lead to the very nodes that let binds
abbrev mutual
  pub IsTermAt : Arena → List TermId → Term → ℕ → Type 0
  IsTermAt arena lets (numeral at value) id = IsNodeAt arena id (Num value) at
  IsTermAt arena lets (truth at true) id = IsNodeAt arena id True at
  IsTermAt arena lets (truth at false) id = IsNodeAt arena id False at
  IsTermAt arena lets (variable at number sort) id = IsNodeAt arena id (Var number sort) at
  IsTermAt arena lets (let_name at number) id = (bound : TermId) × (slice_get lets number ≡ Some bound) × IsNodeAt arena id (LetVar bound) at
  IsTermAt arena lets (predicate at number args) id = (ids : List TermId) × IsNodeAt arena id (Pred number ids) at × AreTermsAt arena lets args ids
  IsTermAt arena lets (operation at op args) id = (ids : List TermId) × IsNodeAt arena id (Op op ids) at × AreTermsAt arena lets args ids
  IsTermAt arena lets (divisible at by arg) id = (part : TermId) × IsNodeAt arena id (Divisible (pos by) part) at × IsTermAt arena lets arg part.0
  IsTermAt arena lets (binding at bound body) id =
      (ids : List TermId) × (part : TermId) × IsNodeAt arena id (Let ids part) at × AreTermsAt arena lets bound ids × IsTermAt arena (lets ++ ids) body part.0
  IsTermAt arena lets (universal at first sorts body) id = (part : TermId) × IsNodeAt arena id (Forall first sorts part) at × IsTermAt arena lets body part.0
  IsTermAt arena lets (existential at first sorts body) id = (part : TermId) × IsNodeAt arena id (Exists first sorts part) at × IsTermAt arena lets body part.0

  -- the arena has these terms at these numbers, as many and in the same order
  pub AreTermsAt : Arena → List TermId → Terms → List TermId → Type 0
  AreTermsAt arena lets none [] = Unit {0}
  AreTermsAt arena lets (more t ts) (id ∷ ids) = IsTermAt arena lets t id.0 × AreTermsAt arena lets ts ids
  AreTermsAt arena lets none (id ∷ ids) = ⊥
  AreTermsAt arena lets (more t ts) [] = ⊥
