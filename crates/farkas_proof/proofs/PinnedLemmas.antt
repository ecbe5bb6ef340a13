-- A tableau of two variables and one equation whose columns are fixed or free: its basic point, and a tree with one inner node.
use Rattle.std.proofs.Common.{◌≡◌, ℕ, suc, zero, ◌<◌, List, [], ◌∷◌, length, get_or, refl, ap, sym, ◌∙◌, subst, arith, inl, true, Option, Some, None}
use Rattle.std.specs.Prelude.{ℤ, pos, ◌+ℤ◌, ◌*ℤ◌, ◌<ℤ◌, nat_lt}
use Rattle.std.specs.List.{list_all}
use Rattle.std.proofs.lemmas.Int.{ints}
use Rattle.lin_atoms.specs.declared.lit.Lit.{Lit}
use Rattle.int_rows.specs.Basis.{System, Point, IsBasis, IsBasicRow, IsBasicPoint, MayStand, MeetsBounds, are_rising, bound, outside}
use Rattle.int_rows.specs.Node.{system}
use Rattle.int_rows.specs.Rows.{Solves, SolvesAll, entry}
use Rattle.refutation_trees.specs.Flatten.{disjunctions, literals}
use Rattle.refutation_trees.specs.GivenUp.{IsEvidence}
use Rattle.farkas_proof.specs.Instances.{both}
use Rattle.refutation_trees.specs.Refutation.{form_end}
use Rattle.refutation_trees.specs.Split.{HasSolution, HasVertexBetween, HaveTrees, at_least, at_most, by_branch, inner, is_no_falsehood, leaf, none, start, with_bound}
use Rattle.refutation_trees.specs.declared.evidence.Evidence.TheVariants.{Nodes}
use Rattle.refutation_trees.proofs.FlattenLemmas.{both-disjunctions}
use Rattle.farkas_proof.proofs.NodeLemmas.{each-in-trees, node_of}
use Rattle.farkas_proof.proofs.PairLemmas.{both-literals}

-- two variables and a slack, where e = 0
abbrev pub pinned : List ℤ → List (Option ℤ) → System
pinned e fixed = record { variables = 2; columns = 3; equations = e ∷ []; lower = fixed; upper = fixed }

abbrev pub point-of : List ℤ → ℕ → Point
point-of nums den = record { nums = nums; den = den }

-- each column that is fixed stands where it is
abbrev pub AreAt : ℕ → List (Option ℤ) → List ℤ → Type 0
AreAt den [] nums = Unit {0}
AreAt den (None ∷ fixed) [] = ⊥
AreAt den (None ∷ fixed) (n ∷ nums) = AreAt den fixed nums
AreAt den (Some v ∷ fixed) [] = ⊥
AreAt den (Some v ∷ fixed) (n ∷ nums) = (n ≡ v *ℤ pos den) × AreAt den fixed nums

-- a basis of one column, and its point
pub record IsPinned (e row : List ℤ) (fixed : List (Option ℤ)) (b : ℕ) (values nums : List ℤ) (den : ℕ) : Type 0 where
  pub basic : IsBasicRow 3 (e ∷ []) (b ∷ []) b row
  pub rising : are_rising 0 (b ∷ []) ≡ true
  pub within : list_all (λ c. nat_lt c 3) (b ∷ []) ≡ true
  pub positive : 0 < den
  pub width : length nums ≡ 3
  pub solves : Solves nums e
  pub each : length values ≡ length (outside 3 (b ∷ []))
  pub held : (k : ℕ) → k < length values → bound fixed (get_or (outside 3 (b ∷ [])) k 0) ≡ Some (get_or values k (pos 0))
  pub at : AreAt den fixed nums

same-some : (a b : ℤ) → Some a ≡ Some b → a ≡ b
same-some a b e = cc

none-some : (b : ℤ) → None ≡ Some b → ⊥
none-some b e = cc

at-fixed : (den : ℕ) (fixed : List (Option ℤ)) (nums : List ℤ) → AreAt den fixed nums → (c : ℕ) (v : ℤ) → bound fixed c ≡ Some v → entry nums c ≡ v *ℤ pos den
at-fixed den [] nums is c v e = absurd (none-some v e)
at-fixed den (None ∷ fixed) [] is c v e = absurd is
at-fixed den (None ∷ fixed) (n ∷ nums) is zero v e = absurd (none-some v e)
at-fixed den (None ∷ fixed) (n ∷ nums) is (suc c) v e = at-fixed den fixed nums is c v e
at-fixed den (Some w ∷ fixed) [] is c v e = absurd is
at-fixed den (Some w ∷ fixed) (n ∷ nums) is zero v e = is.0 ∙ ap (λ z. z *ℤ pos den) (same-some w v e)
at-fixed den (Some w ∷ fixed) (n ∷ nums) is (suc c) v e = at-fixed den fixed nums is.1 c v e

only-at : (b other k : ℕ) → k < 1 → get_or (b ∷ []) k other ≡ other → other ≡ b
only-at b other zero h e = sym e
only-at b other (suc k) h e = absurd (omega arith)

-- the only column of a basis is not another one
pub only-column : (row : List ℤ) (b other k : ℕ) → k < 1 → get_or (b ∷ []) k other ≡ other → (other ≡ b → ⊥) → entry row other ≡ pos 0
only-column row b other k h e away = absurd (away (only-at b other k h e))

all-solved : (e nums : List ℤ) → Solves nums e → (i : ℕ) (d : List ℤ) → i < 1 → Solves nums (get_or (e ∷ []) i d)
all-solved e nums is zero d h = is
all-solved e nums is (suc i) d h = absurd (omega arith)

may-stand : (o : Option ℤ) (v : ℤ) → o ≡ Some v → MayStand o o v
may-stand o v e = subst (λ p. MayStand p p v) (sym e) (inl refl)

-- a tableau that is pinned somewhere, with all that is said of it
pub record Case : Type 0 where
  pub e : List ℤ
  pub row : List ℤ
  pub fixed : List (Option ℤ)
  pub b : ℕ
  pub values : List ℤ
  pub nums : List ℤ
  pub den : ℕ
  pub is : IsPinned e row fixed b values nums den

pinned-basis : (c : Case) → IsBasis 3 (c.e ∷ []) (c.b ∷ [])
pinned-basis c = record {
  rising = c.is.rising;
  within = c.is.within;
  full = refl;
  rows = λ column inside. (c.row, subst (λ k. IsBasicRow 3 (c.e ∷ []) (c.b ∷ []) k c.row) (sym (only-at c.b column inside.0 inside.1 inside.2)) c.is.basic);
}

pub pinned-basic : (c : Case) → IsBasicPoint (pinned c.e c.fixed) (c.b ∷ []) c.values (point-of c.nums c.den)
pinned-basic c = record {
  is_basis = pinned-basis c;
  positive = c.is.positive;
  width = c.is.width;
  solves = all-solved c.e c.nums c.is.solves;
  each = c.is.each;
  stand = λ k h. may-stand (bound c.fixed (get_or (outside 3 (c.b ∷ [])) k 0)) (get_or c.values k (pos 0)) (c.is.held k h);
  outer = λ k h. at-fixed c.den c.fixed c.nums c.is.at (get_or (outside 3 (c.b ∷ [])) k 0) (get_or c.values k (pos 0)) (c.is.held k h);
}

pub pinned-meets : (c : Case) → MeetsBounds (pinned c.e c.fixed) (point-of c.nums c.den)
pinned-meets c = record {
  lower = λ k l h. let same = at-fixed c.den c.fixed c.nums c.is.at k l h in omega (arith, ints, same);
  upper = λ k u h. let same = at-fixed c.den c.fixed c.nums c.is.at k u h in omega (arith, ints, same);
}

record Solved (s : System) : Type 0 where
  pub point : Point
  pub positive : 0 < point.den
  pub width : length point.nums ≡ s.columns
  pub solves : SolvesAll point.nums s.equations
  pub meets : MeetsBounds s point

pinned-solved : (c : Case) → Solved (pinned c.e c.fixed)
pinned-solved c = record { point = point-of c.nums c.den; positive = c.is.positive; width = c.is.width; solves = all-solved c.e c.nums c.is.solves; meets = pinned-meets c }

pinned-solution : (c : Case) (q : ℕ) (lits : List Lit) → list_all is_no_falsehood lits ≡ true → system q lits ≡ pinned c.e c.fixed → HasSolution q lits
pinned-solution c q lits constants same =
    let solved = subst Solved (sym same) (pinned-solved c) in
    record { constants = constants; point = solved.point; positive = solved.positive; width = solved.width; solves = solved.solves; meets = solved.meets }

-- where a variable of the point lies between two integers
pub record IsBetween (c : Case) (x : ℕ) (k : ℤ) : Type 0 where
  pub variable : x < 2
  pub beyond : (k *ℤ pos c.den) <ℤ entry c.nums x
  pub beneath : entry c.nums x <ℤ ((k +ℤ pos 1) *ℤ pos c.den)

pinned-vertex : (c : Case) (x : ℕ) (k : ℤ) → IsBetween c x k → HasVertexBetween (pinned c.e c.fixed) x k
pinned-vertex c x k is = record {
  variable = is.variable;
  basis = c.b ∷ [];
  values = c.values;
  point = point-of c.nums c.den;
  is_basic = pinned-basic c;
  meets = pinned-meets c;
  beyond = is.beyond;
  beneath = is.beneath;
}

-- a tree that is split there
one-inner : (c : Case) (q : ℕ) (l m : Lit) (x : ℕ) (k : ℤ) → list_all is_no_falsehood (l ∷ m ∷ []) ≡ true → system q (l ∷ m ∷ []) ≡ pinned c.e c.fixed → IsBetween c x k → HaveTrees q (node_of (l ∷ m ∷ []) [] [] ∷ []) 1
one-inner c q l m x k constants same is =
    let node = node_of (l ∷ m ∷ []) [] [] in
    let low = with_bound node (at_most x k) in
    let high = with_bound node (at_least x (k +ℤ pos 1)) in
    let vertex = subst (λ (s : System). HasVertexBetween s x k) (sym same) (pinned-vertex c x k is) in
    inner node [] (low ∷ high ∷ []) 0 (record { solution = pinned-solution c q (l ∷ m ∷ []) constants same; split = by_branch x k vertex refl }) (leaf low (high ∷ []) 0 (leaf high [] 0 none))

pub split-once : (c : Case) (q : ℕ) (l m : Lit) (x : ℕ) (k : ℤ) → form_end (both l m) ≡ q → list_all is_no_falsehood (l ∷ m ∷ []) ≡ true → system q (l ∷ m ∷ []) ≡ pinned c.e c.fixed → IsBetween c x k → IsEvidence (both l m) (Nodes 1)
split-once c q l m x k end constants same is =
    let made = one-inner c q l m x k constants same is in
    let of_lits = subst (λ cs. HaveTrees q (node_of (l ∷ m ∷ []) [] cs ∷ []) 1) (sym (both-disjunctions l m)) made in
    let of_form = subst (λ ls. HaveTrees q (node_of ls [] (disjunctions (both l m)) ∷ []) 1) (sym (both-literals l m)) of_lits in
    (omega arith, subst (λ p. HaveTrees p (start (both l m) ∷ []) 1) (sym end) (each-in-trees q [] (literals (both l m)) (disjunctions (both l m)) [] 1 of_form))
