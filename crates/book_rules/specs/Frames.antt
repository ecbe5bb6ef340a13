-- Lemmas and frames (Hoder and Bjorner, "Generalized property directed reachability", section 2: the sequence of frames is
-- kept as lemmas with levels, so that F(k) is contained in F(k + 1)).
use Rattle.std.specs.Prelude.{◌≡◌, ℕ, List, Bool, true, false, ◌&&◌, ◌||◌, not, nat_lt, nat_le, ◌==◌, Some, None, slice_get}
use Rattle.std.specs.List.{list_all, list_any}
use Rattle.lin_atoms.specs.declared.lit.Lit.{Lit}
use Rattle.cube_forms.specs.Cubes.{cube_holds}
use Rattle.book_rules.specs.Same.{same_cube}
use Rattle.book_rules.specs.Instances.{Ground, Relation, IsDerivable}

-- the denial of a cube, about one predicate
pub record Lemma : Type 0 where
  pub pred : ℕ
  pub cube : List Lit

-- a lemma with its level: it is one of each frame F(k) with k up to that level
pub record Framed : Type 0 where
  pub lemma : Lemma
  pub level : ℕ

-- a lemma shuts out the tuples of its predicate that its cube holds, and accepts all else
abbrev pub excludes : Lemma → Ground → Bool
excludes lemma a = (lemma.pred == a.0) && cube_holds a.1 lemma.cube

abbrev pub accepts : Lemma → Ground → Bool
accepts lemma a = not (excludes lemma a)

-- whether a tuple is in F(k): each lemma of level k or more accepts it; none is in F(0)
abbrev pub in_frame : List Framed → ℕ → Ground → Bool
in_frame es k a = nat_lt 0 k && list_all (λ e. nat_lt e.level k || accepts e.lemma a) es

abbrev pub same_lemma : Lemma → Lemma → Bool
same_lemma a b = (a.pred == b.pred) && same_cube a.cube b.cube

-- whether F(k), as a list of lemmas, has the lemma
abbrev pub frame_has : List Framed → ℕ → Lemma → Bool
frame_has es k lemma = list_any (λ e. nat_le k e.level && same_lemma e.lemma lemma) es

-- F(k) on the body, and the lemma itself, imply the lemma through every clause
abbrev pub IsShown : Relation → List Framed → ℕ → Lemma → Type 0
IsShown I es k lemma = (number : ℕ) (body : List Ground) (a : Ground) → I number body (Some a) → list_all (in_frame es k) body ≡ true → list_all (accepts lemma) body ≡ true → accepts lemma a ≡ true

-- the same without itself
abbrev pub IsImplied : Relation → List Framed → ℕ → Lemma → Type 0
IsImplied I es k lemma = (number : ℕ) (body : List Ground) (a : Ground) → I number body (Some a) → list_all (in_frame es k) body ≡ true → accepts lemma a ≡ true

-- no instance of false has its body in F(k)
abbrev pub AreRefuted : Relation → List Framed → ℕ → Type 0
AreRefuted I es k = (number : ℕ) (body : List Ground) → I number body None → list_all (in_frame es k) body ≡ false

-- a lemma of level k is good where it accepts each tuple that is derivable within k
abbrev pub IsGood : Relation → Framed → Type 0
IsGood I e = (a : Ground) → IsDerivable I e.level (Some a) → accepts e.lemma a ≡ true

abbrev pub AreGood : Relation → List Framed → Type 0
AreGood I es = (i : ℕ) (e : Framed) → slice_get es i ≡ Some e → IsGood I e

-- F(k) is a solution: each instance with its body in F(k) has its head there, and no instance of false has
pub record IsSolution (I : Relation) (es : List Framed) (k : ℕ) : Type 0 where
  pub closed : (number : ℕ) (body : List Ground) (a : Ground) → I number body (Some a) → list_all (in_frame es k) body ≡ true → in_frame es k a ≡ true
  pub refuted : AreRefuted I es k
