-- The atoms of an instance have values of the sorts of their predicates, so their tuples stand for them.
use Rattle.std.proofs.Common.{◌≡◌, ℕ, List, [], ◌∷◌, map, refl, ap, sym, ◌∙◌}
use Rattle.std.specs.Prelude.{ℤ, slice_get, Option, Some, None, option_map}
use Rattle.std.specs.List.{AllByRecursion}
use Rattle.term_tree.specs.declared.sort.Sort.{Sort}
use Rattle.term_tree.specs.declared.scalar.Value.{Value}
use Rattle.term_tree.specs.declared.script.Pred.{Pred as Declared}
use Rattle.term_tree.specs.declared.script.Script.{Script}
use Rattle.term_tree.specs.Arena.{IsArena}
use Rattle.term_tree.specs.Truth.{HaveSorts, as_values}
use Rattle.term_tree.specs.Value.{environment_of}
use Rattle.horn_shape.specs.declared.clause.AtomUse.{AtomUse}
use Rattle.horn_shape.specs.declared.clause.HornClause.{HornClause}
use Rattle.horn_shape.specs.Clause.{IsClauseOf, IsLegalScript}
use Rattle.horn_shape.specs.Instance.{GroundAtom, conclusion_of, ground, premises_of}
use Rattle.clause_form.specs.System.{Clauses}
use Rattle.clause_form.specs.declared.atom.Atom.{Atom}
use Rattle.clause_normal.proofs.ReadLemmas.{HeadHas}
use Rattle.clause_laws.specs.Point.{NumberAtom, at_point, numbers, of_ground}
use Rattle.clause_laws.proofs.PlainLemmas.{HasPlainArguments}
use Rattle.clause_laws.proofs.PointLemmas.{IsApplied, parts, plain_parts, tuple_sorted}
use Rattle.book_rules.specs.Instances.{Ground, atom_at}
use Rattle.cert_derivations.specs.Steps.{as_atom, as_tuple}
use Rattle.cert_derivations.proofs.SystemLemmas.{IsMadeOf, sorts_there}
use Rattle.cert_derivations.proofs.ValueLemmas.{values_back}

-- the values have the sorts of the predicate
pub record IsSortedAtom (script : Script) (atom : GroundAtom) : Type 0 where
  pub declared : Declared
  pub there : slice_get script.preds atom.pred ≡ Some declared
  pub sorted : HaveSorts declared.args atom.values

abbrev pub IsSortedHead : Script → Option GroundAtom → Type 0
IsSortedHead script None = Unit {0}
IsSortedHead script (Some atom) = IsSortedAtom script atom

module _ (script : Script) (index : ℕ) (clause : HornClause) (arena : IsArena script.terms.nodes) (legal : IsLegalScript script) (is : IsClauseOf script index clause) (values : List Value)
    (have : HaveSorts clause.vars values) where
  atom_sorted : (atom : AtomUse) → IsApplied script index clause arena legal is atom → HasPlainArguments script.preds script.terms.nodes arena atom
      → IsSortedAtom script (ground script.terms.nodes (environment_of values) atom)
  atom_sorted atom applied plain =
      record { declared = applied.pred; there = applied.there; sorted = tuple_sorted script index clause arena legal is values have applied.pred.args atom.args applied.each plain applied.fits }

  all_sorted : (atoms : List AtomUse) → AllByRecursion (IsApplied script index clause arena legal is) atoms → AllByRecursion (HasPlainArguments script.preds script.terms.nodes arena) atoms
      → AllByRecursion (IsSortedAtom script) (map (ground script.terms.nodes (environment_of values)) atoms)
  all_sorted [] applied plain = tt
  all_sorted (atom ∷ atoms) applied plain = (atom_sorted atom applied.0 plain.0, all_sorted atoms applied.1 plain.1)

  head_sorted : (head : Option AtomUse) → HeadHas (IsApplied script index clause arena legal is) head → HeadHas (HasPlainArguments script.preds script.terms.nodes arena) head
      → IsSortedHead script (option_map (ground script.terms.nodes (environment_of values)) head)
  head_sorted None applied plain = tt
  head_sorted (Some atom) applied plain = atom_sorted atom applied plain

  pub premises_sorted : AllByRecursion (IsSortedAtom script) (premises_of script clause values)
  premises_sorted = all_sorted clause.atoms (parts script index clause arena legal is).atoms (plain_parts script index clause arena legal is).atoms

  pub conclusion_sorted : IsSortedHead script (conclusion_of script clause values)
  conclusion_sorted = head_sorted clause.head (parts script index clause arena legal is).head (plain_parts script index clause arena legal is).head

-- from a tuple back to its atom
module _ (script : Script) (sys : Clauses) (made : IsMadeOf script sys) where
  atom_back : (atom : GroundAtom) → IsSortedAtom script atom → as_atom sys (as_tuple atom) ≡ atom
  atom_back atom known =
      ap (λ (values : List Value). with_values values)
      (ap (λ (sorts : List Sort). as_values sorts (numbers atom.values)) (sorts_there script sys made atom.pred known.declared known.there) ∙ values_back known.declared.args atom.values known.sorted)
    where
      with_values : List Value → GroundAtom
      with_values values = record { pred = atom.pred; values = values }

  pub atoms_back : (atoms : List GroundAtom) → AllByRecursion (IsSortedAtom script) atoms → map (as_atom sys) (map as_tuple atoms) ≡ atoms
  atoms_back [] known = refl
  atoms_back (atom ∷ atoms) known =
      ap (λ (x : GroundAtom). x ∷ map (as_atom sys) (map as_tuple atoms)) (atom_back atom known.0) ∙ ap (λ (xs : List GroundAtom). atom ∷ xs) (atoms_back atoms known.1)

  pub head_back : (head : Option GroundAtom) → IsSortedHead script head → option_map (as_atom sys) (option_map as_tuple head) ≡ head
  head_back None known = refl
  head_back (Some atom) known = ap (λ (x : GroundAtom). Some x) (atom_back atom known)

-- the words of points and those of the book
abbrev pair : NumberAtom → Ground
pair atom = (atom.pred, atom.tuple)

pair_body : (point : List ℤ) (atoms : List Atom) → map pair (map (at_point point) atoms) ≡ map (atom_at point) atoms
pair_body point [] = refl
pair_body point (atom ∷ atoms) = ap (λ (xs : List Ground). atom_at point atom ∷ xs) (pair_body point atoms)

pair_ground : (atoms : List GroundAtom) → map pair (map of_ground atoms) ≡ map as_tuple atoms
pair_ground [] = refl
pair_ground (atom ∷ atoms) = ap (λ (xs : List Ground). as_tuple atom ∷ xs) (pair_ground atoms)

pair_head : (point : List ℤ) (head : Option Atom) → option_map pair (option_map (at_point point) head) ≡ option_map (atom_at point) head
pair_head point None = refl
pair_head point (Some atom) = refl

pair_conclusion : (head : Option GroundAtom) → option_map pair (option_map of_ground head) ≡ option_map as_tuple head
pair_conclusion None = refl
pair_conclusion (Some atom) = refl

pub body_tuples : (point : List ℤ) (atoms : List Atom) (premises : List GroundAtom) → map (at_point point) atoms ≡ map of_ground premises → map (atom_at point) atoms ≡ map as_tuple premises
body_tuples point atoms premises same = sym (pair_body point atoms) ∙ ap (map pair) same ∙ pair_ground premises

pub head_tuple : (point : List ℤ) (head : Option Atom) (conclusion : Option GroundAtom) → option_map (at_point point) head ≡ option_map of_ground conclusion
    → option_map (atom_at point) head ≡ option_map as_tuple conclusion
head_tuple point head conclusion same = sym (pair_head point head) ∙ ap (option_map pair) same ∙ pair_conclusion conclusion
