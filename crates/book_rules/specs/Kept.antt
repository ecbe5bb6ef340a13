-- What every replay of a legal journal keeps, and what an opening has to bring for it. The opening of a first book brings the
-- root alone, that of a later one facts besides.
use Rattle.std.specs.Prelude.{◌≡◌, suc, ◌≤◌, ◌<◌, ◌+◌, ◌-◌, ℕ, List, [], ◌∷◌, ◌++◌, true, false, Some, None, length, slice_get}
use Rattle.std.specs.List.{list_any}
use Rattle.clause_form.specs.System.{Clauses}
use Rattle.clause_form.specs.declared.clause.Clause.{Clause}
use Rattle.cube_forms.specs.Cubes.{cube_holds}
use Rattle.book_rules.specs.Walks.{AllOf}
use Rattle.book_rules.specs.Instances.{Relation, IsDerivable, IsInstance, body_at, head_at}
use Rattle.book_rules.specs.Frames.{Framed, in_frame, IsShown, AreRefuted}
use Rattle.book_rules.specs.Effects.{greatest_height}
use Rattle.book_rules.specs.FactRules.{are_facts_of}
use Rattle.book_rules.specs.State.{Fact, Obligation, State, holds, is_live, same_conclusion}

-- lemmas and facts

abbrev pub AreDerivable : Relation → List Fact → Type 0
AreDerivable I facts = AllOf (λ (f : Fact). IsDerivable I f.height f.conclusion) facts

-- with the frames as they are now: each lemma of level k is shown under F(k - 1), false is refuted under F(N - 1), and each
-- fact is derivable within its height
pub record IsSound (I : Relation) (s : State) : Type 0 where
  pub shown : AllOf (λ (e : Framed). IsShown I s.lemmas (e.level - 1) e.lemma) s.lemmas
  pub refuted : 0 < s.level → AreRefuted I s.lemmas (s.level - 1)
  pub derived : AreDerivable I s.facts

-- the head of its instance, whose body is concluded by facts before it, which it names in order; its height is one more than
-- the greatest of theirs
pub record IsRecorded (sys : Clauses) (before : List Fact) (f : Fact) : Type 0 where
  pub clause : Clause
  pub there : slice_get sys.clauses f.clause ≡ Some clause
  pub instance : IsInstance clause f.point
  pub head : head_at f.point clause ≡ f.conclusion
  pub premises : are_facts_of before f.premises (body_at f.point clause) ≡ true
  pub height : f.height ≡ suc (greatest_height before f.premises)

-- the facts, in order, are a derivation
abbrev pub AreRecorded : Clauses → List Fact → List Fact → Type 0
AreRecorded sys before [] = Unit {0}
AreRecorded sys before (f ∷ facts) = IsRecorded sys before f × AreRecorded sys (before ++ f ∷ []) facts

-- false, derivable, as the fact of that number
pub record IsFalse (I : Relation) (s : State) (number : ℕ) : Type 0 where
  pub fact : Fact
  pub there : slice_get s.facts number ≡ Some fact
  pub is_false : fact.conclusion ≡ None
  pub derivable : IsDerivable I fact.height None

-- levels, and what is recorded once

abbrev pub AreInRange : ℕ → List Framed → Type 0
AreInRange level es = AllOf (λ (e : Framed). (1 ≤ e.level) × (e.level ≤ level)) es

abbrev pub AreDistinct : List Fact → Type 0
AreDistinct [] = Unit {0}
AreDistinct (f ∷ facts) = (list_any (λ (g : Fact). same_conclusion f.conclusion g.conclusion) facts ≡ false) × AreDistinct facts

-- obligations

-- among these, a live parent one level higher; the point lies in the cube and in F of the level, and no fact in the cube
pub record IsPlaced (es : List Framed) (facts : List Fact) (among : List Obligation) (o : Obligation) : Type 0 where
  pub parent : Obligation
  pub there : slice_get among o.parent ≡ Some parent
  pub parent_lives : is_live parent ≡ true
  pub one_higher : parent.level ≡ o.level + 1
  pub pred : ℕ
  pub of_pred : o.pred ≡ Some pred
  pub in_cube : cube_holds o.point o.cube ≡ true
  pub in_its_frame : in_frame es o.level (pred, o.point) ≡ true
  pub without_fact : list_any (λ (f : Fact). holds o f.conclusion) facts ≡ false

-- each live one but the first, the root, among those before it
abbrev pub IsHung : List Framed → List Fact → List Obligation → Obligation → Type 0
IsHung es facts before o = 0 < length before → is_live o ≡ true → IsPlaced es facts before o

abbrev pub AreHung : List Framed → List Fact → List Obligation → List Obligation → Type 0
AreHung es facts before [] = Unit {0}
AreHung es facts before (o ∷ rest) = IsHung es facts before o × AreHung es facts (before ++ o ∷ []) rest

pub record IsOrdered (s : State) : Type 0 where
  pub levels : AreInRange s.level s.lemmas
  pub distinct : AreDistinct s.facts
  pub hung : AreHung s.lemmas s.facts [] s.obligations

-- each live obligation but the root is placed
abbrev pub ArePlaced : State → Type 0
ArePlaced s = (i : ℕ) (o : Obligation) → slice_get s.obligations i ≡ Some o → 0 < i → is_live o ≡ true → IsPlaced s.lemmas s.facts s.obligations o
