-- Lists of literals that grow.
use Rattle.std.specs.Prelude.{◌≡◌, ◌++◌, ◌&&◌, ℕ, List, ℤ, Bool, true}
use Rattle.std.specs.List.{list_all, list_any}
use Rattle.lin_atoms.specs.Truth.{lit_truth}
use Rattle.lin_atoms.specs.declared.form.Form.{Form}
use Rattle.lin_atoms.specs.declared.lit.Lit.{Lit}
use Rattle.clause_form.specs.declared.atom.Atom.{Atom}
use Rattle.cube_forms.specs.Cubes.{lemma_at}
use Rattle.book_rules.specs.Areas.{cover, is_among, stands_in}
use Rattle.book_rules.specs.Frames.{Framed}
use Rattle.book_rules.specs.Same.{same_lit}
use Rattle.area_literals.specs.Areas.{all_known_on, are_new, is_known_on, is_on}

-- literals were added that weren't there, each of which passes a test and is true at the point; and now the list passes a test
pub record Grows (point : List ℤ) (stands : Lit → Bool) (has : List Lit → Bool) (old new : List Lit) : Type 0 where
  pub more : List Lit
  pub is : new ≡ old ++ more
  pub stand : list_all stands more ≡ true
  pub hold : list_all (lit_truth point) more ≡ true
  pub once : are_new old more ≡ true
  pub now : has new ≡ true

-- literals of some of these items were added, and now the list has what it needs for each
abbrev pub GrowsBy : {X : Type 0} → List ℤ → (X → Lit → Bool) → (X → List Lit → Bool) → List X → List Lit → List Lit → Type 0
GrowsBy point stands has xs = Grows point (λ lit. list_any (λ x. stands x lit) xs) (λ lits. list_all (λ x. has x lits) xs)

-- the literal
abbrev pub IsAdded : List ℤ → Lit → List Lit → List Lit → Type 0
IsAdded point lit = Grows point (λ other. same_lit other lit) (λ lits. is_among lits lit)

abbrev pub AreAdded : List ℤ → List Lit → List Lit → List Lit → Type 0
AreAdded point more = GrowsBy point (λ lit other. same_lit other lit) (λ lit lits. is_among lits lit) more

-- literals of the formula, and they cover it
abbrev pub IsGathered : List ℤ → Form → List Lit → List Lit → Type 0
IsGathered point form = Grows point (λ lit. stands_in lit form) (λ lits. cover lits form)

abbrev pub AreGathered : List ℤ → List Form → List Lit → List Lit → Type 0
AreGathered point forms = GrowsBy point (λ form lit. stands_in lit form) (λ form lits. cover lits form) forms

abbrev pub AreGatheredSome : List ℤ → List Form → List Lit → List Lit → Type 0
AreGatheredSome point forms = Grows point (λ lit. list_any (stands_in lit) forms) (λ lits. list_any (cover lits) forms)

-- literals of the lemma's form on the atom, if it is of F(k) and on the atom's predicate, and they cover it
abbrev pub stands_on : ℕ → Atom → Framed → Lit → Bool
stands_on k atom e lit = is_on k atom e && stands_in lit (lemma_at atom.args e.lemma.cube)

abbrev pub IsLemmaGathered : List ℤ → ℕ → Atom → Framed → List Lit → List Lit → Type 0
IsLemmaGathered point k atom e = Grows point (stands_on k atom e) (is_known_on k atom e)

abbrev pub IsFrameGathered : List ℤ → ℕ → List Framed → Atom → List Lit → List Lit → Type 0
IsFrameGathered point k es atom = GrowsBy point (stands_on k atom) (is_known_on k atom) es

abbrev pub AreFramesGathered : List ℤ → ℕ → List Framed → List Atom → List Lit → List Lit → Type 0
AreFramesGathered point k es atoms = GrowsBy point (λ atom lit. list_any (λ e. stands_on k atom e lit) es) (all_known_on k es) atoms
