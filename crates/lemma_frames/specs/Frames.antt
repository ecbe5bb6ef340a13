-- Frames of property directed reachability (Hoder and Bjorner, "Generalized property directed reachability", section 2;
-- Komuravelli, Gurfinkel and Chaki, "SMT-based model checking for recursive programs", section 4): each lemma stands on
-- a predicate and has a level, and the frame F(k) is the list of lemmas of level k or more.
use Rattle.std.specs.Prelude.{ℕ, ℤ, ◌≡◌, ◌≢◌, ◌<◌, ◌≤◌, ◌+◌, ◌↔◌, List, [], map, length, get_or, set, false}
use Rattle.std.specs.List.{AllPairs, Contains}
use Rattle.lin_atoms.specs.declared.lit.Lit.{Lit}
use Rattle.cube_forms.specs.Cubes.{cube_holds}
use Rattle.lemma_frames.specs.declared.framed.Framed.{Framed}

-- how many predicates there are, and the lemmas in order of number
pub record Lemmas : Type 0 where
  pub preds : ℕ
  pub lemmas : List Framed

-- the predicate that lemma n stands on; 0 where there is no lemma n
abbrev pub pred_of : List Framed → ℕ → ℕ
pred_of lemmas n = get_or (map (λ f. f.pred) lemmas) n 0

-- the greatest k with lemma n in F(k); 0 where there is no lemma n
abbrev pub level_of : List Framed → ℕ → ℕ
level_of lemmas n = get_or (map (λ f. f.level) lemmas) n 0

-- the cube that the lemma denies
abbrev pub lemma_of : List Framed → ℕ → List Lit
lemma_of lemmas n = get_or (map (λ f. f.lemma) lemmas) n []

-- lemma n stands in F(k), on this predicate
abbrev pub IsInFrame : List Framed → ℕ → ℕ → ℕ → Type 0
IsInFrame lemmas pred k n = (n < length lemmas) × (pred_of lemmas n ≡ pred) × (k ≤ level_of lemmas n)

-- a tuple is in F(k) where every lemma of F(k) on its predicate accepts it; none is in F(0)
abbrev pub FrameHolds : List Framed → ℕ → ℕ → List ℤ → Type 0
FrameHolds lemmas pred k tuple = (0 < k) × ((n : ℕ) → IsInFrame lemmas pred k n → cube_holds tuple (lemma_of lemmas n) ≡ false)

-- exactly the lemmas of F(k) on the predicate, in order of number
pub record IsFrame (lemmas : List Framed) (pred k : ℕ) (numbers : List ℕ) : Type 0 where
  pub order : AllPairs (λ x y. x < y) numbers
  pub exact : (n : ℕ) → Contains numbers n ↔ IsInFrame lemmas pred k n

-- x comes before y: by level downwards, and within a level by number upwards
abbrev pub Precedes : List Framed → ℕ → ℕ → Type 0
Precedes lemmas x y = (level_of lemmas y ≤ level_of lemmas x) × (level_of lemmas x ≡ level_of lemmas y → x < y)

-- the same lemmas in that order
pub record IsUpper (lemmas : List Framed) (pred k : ℕ) (numbers : List ℕ) : Type 0 where
  pub order : AllPairs (Precedes lemmas) numbers
  pub exact : (n : ℕ) → Contains numbers n ↔ IsInFrame lemmas pred k n

-- no lemma has exactly this level
abbrev pub IsBare : List Framed → ℕ → Type 0
IsBare lemmas level = (n : ℕ) → n < length lemmas → level_of lemmas n ≢ level

-- lemma n one level higher
abbrev pub lifted : List Framed → ℕ → List Framed
lifted lemmas n = set lemmas n (record { pred = pred_of lemmas n; level = level_of lemmas n + 1; lemma = lemma_of lemmas n })
