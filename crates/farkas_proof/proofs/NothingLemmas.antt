-- A form that says nothing has no evidence: its only vertex is 0.
use Rattle.std.proofs.Common.{◌≡◌, ℕ, suc, zero, ◌+◌, ◌<◌, List, [], ◌∷◌, ◌++◌, length, get_or, map, refl, ap, sym, ◌∙◌, subst, arith, ⊎_elim, not, Option, Some, None}
use Rattle.std.specs.Prelude.{ℤ, pos, neg_ℤ, nat_abs, ◌+ℤ◌, ◌*ℤ◌, ◌<ℤ◌, slice_get}
use Rattle.std.specs.Int.{int_div_euclid, ◌∣◌}
use Rattle.std.specs.List.{filter, range_with_len}
use mathlib.Core.Logic.{∥∥₁_elim}
use Rattle.std.proofs.Math.IntN.{zero-*ℤ}
use Rattle.std.proofs.Math.Nat.{eq-zero_of_zero-dvd, zero-div}
use Rattle.std.proofs.lemmas.Int.{ints}
use Rattle.std.proofs.lemmas.List.FromFn.{get_or-range_with_len, length-range_with_len}
use Rattle.base.proofs.Public.{neg_ℤ-*ℤ}
use Rattle.lin_atoms.specs.declared.lit.Lit.{Lit}
use Rattle.lin_atoms.specs.declared.form.Form.{Form}
use Rattle.int_rows.specs.Basis.{Point, IsBasicPoint, IsWideCoordinate, IsWideFloor, IsWideNumerator, IsWideRow, MayStand, bound, is_in, outside}
use Rattle.int_rows.specs.Node.{greatest_lower, least_upper, system}
use Rattle.int_rows.specs.Rows.{entry}
use Rattle.int_rows.proofs.Public.{positive-factor, zero-factor}
use Rattle.refutation_trees.specs.Flatten.{disjunctions, literals}
use Rattle.refutation_trees.specs.GivenUp.{IsEvidence, IsGivenUp, tableau}
use Rattle.refutation_trees.specs.Refutation.{form_end}
use Rattle.refutation_trees.specs.Split.{Node, HasVertexBetween, HaveTrees, IsNode, IsSplit, by_branch, by_cases, first, inner, leaf, none, start, taken_in, takes_in, under}
use Rattle.refutation_trees.specs.declared.evidence.Evidence.{Evidence}
use Rattle.refutation_trees.specs.declared.evidence.Evidence.TheVariants.{Coordinate, Nodes, Row, Rows}
use Rattle.refutation_trees.proofs.ForestLemmas.{same-head, same-rest}
use Rattle.farkas_proof.proofs.OneRowLemmas.{no-row}

-- a list without elements
no-elements : (xs : List ℕ) → length xs ≡ 0 → xs ≡ []
no-elements [] h = refl
no-elements (x ∷ xs) h = absurd (omega arith)

all-outside : (xs : List ℕ) → filter (λ c. not (is_in [] c)) xs ≡ xs
all-outside [] = refl
all-outside (x ∷ xs) = ap (λ ys. x ∷ ys) (all-outside xs)

no-lower : (xs : List ℕ) (k : ℕ) → get_or (map (greatest_lower []) xs ++ []) k None ≡ None
no-lower [] k = refl
no-lower (x ∷ xs) zero = refl
no-lower (x ∷ xs) (suc k) = no-lower xs k

no-upper : (xs : List ℕ) (k : ℕ) → get_or (map (least_upper []) xs ++ []) k None ≡ None
no-upper [] k = refl
no-upper (x ∷ xs) zero = refl
no-upper (x ∷ xs) (suc k) = no-upper xs k

must-stand : (l u : Option ℤ) (value : ℤ) → l ≡ None → u ≡ None → MayStand l u value → value ≡ pos 0
must-stand None None value e f stands = stands
must-stand (Some l) u value e f stands = absurd (cc)
must-stand None (Some u) value e f stands = absurd (cc)

-- each coordinate of a basic point is 0
point-zero : (q : ℕ) (basis : List ℕ) (values : List ℤ) (is : (point : Point) × IsBasicPoint (system q []) basis values point) (c : ℕ) → c < q → entry is.0.nums c ≡ pos 0
point-zero q basis values is c h =
    let basic = is.1 in
    let outer : outside (q + 0) basis ≡ range_with_len 0 (q + 0) = ap (outside (q + 0)) (no-elements basis basic.is_basis.full) ∙ all-outside (range_with_len 0 (q + 0)) in
    let count : length values ≡ q = basic.each ∙ ap length outer ∙ length-range_with_len 0 (q + 0) ∙ omega arith in
    let within : c < length values = omega (arith, count, h) in
    let here : get_or (outside (q + 0) basis) c 0 ≡ c = ap (λ cs. get_or cs c 0) outer ∙ get_or-range_with_len 0 (q + 0) c 0 (omega arith) ∙ omega arith in
    let at = get_or (outside (q + 0) basis) c 0 in
    let value = must-stand (bound (system q []).lower at) (bound (system q []).upper at) (get_or values c (pos 0)) (no-lower (range_with_len 0 q) at) (no-upper (range_with_len 0 q) at) (basic.stand c within) in
    ap (entry is.0.nums) (sym here) ∙ basic.outer c within ∙ ap (λ z. z *ℤ pos is.0.den) value ∙ zero-*ℤ (pos is.0.den)

-- 0 lies between no two integers that follow one another
not-between : (c : ℤ) (d : ℕ) → (c *ℤ pos d) <ℤ pos 0 → pos 0 <ℤ ((c +ℤ pos 1) *ℤ pos d) → ⊥
not-between c d low high =
    let minus = neg_ℤ-*ℤ c (pos d) in
    let below = positive-factor (neg_ℤ c) d (omega (arith, ints, minus, low)) in
    let above = positive-factor (c +ℤ pos 1) d high in
    omega (arith, ints, below, above)

no-vertex : (q x : ℕ) (c : ℤ) → HasVertexBetween (system q []) x c → ⊥
no-vertex q x c is =
    let none = point-zero q is.basis is.values (is.point, is.is_basic) x is.variable in
    not-between c is.point.den (subst (λ z. (c *ℤ pos is.point.den) <ℤ z) none is.beyond) (subst (λ z. z <ℤ ((c +ℤ pos 1) *ℤ pos is.point.den)) none is.beneath)

positive-divisor : (g d : ℕ) → 0 < d → g ∣ d → 0 < g
positive-divisor zero d h divides = let none = eq-zero_of_zero-dvd divides in absurd (omega (arith, none, h))
positive-divisor (suc g) d h divides = omega arith

zero-floor : (d : ℕ) → nat_abs (int_div_euclid (pos 0) (pos d)) ≡ 0
zero-floor d = zero-div d

no-coordinate : (q : ℕ) (basis : List ℕ) (values : List ℤ) (c : ℕ) → IsWideCoordinate (system q []) basis values c → ⊥
no-coordinate q basis values c is =
    let columns : c < q = let within = is.within in omega (arith, within) in
    let none = point-zero q basis values (is.point, is.is_basic) c columns in
    let positive = is.is_basic.positive in
    ⊎_elim
    (λ (wide : IsWideNumerator is.point c).
    let some = positive-divisor wide.lowest.divisor is.point.den positive wide.lowest.common.1 in
    let num = zero-factor wide.num wide.lowest.divisor some (wide.lowest.whole ∙ none) in
    let much = wide.is_wide in
    omega (arith, ints, num, much))
    (λ (wide : IsWideFloor (system q []) is.point c).
    let floor = ap (λ z. nat_abs (int_div_euclid z (pos is.point.den))) none ∙ zero-floor is.point.den in
    let much = wide.is_wide in
    omega (arith, floor, much))
    is.wide

-- a node that says nothing
record IsSilent (node : Node) : Type 0 where
  pub lits : node.lits ≡ []
  pub left_out : node.left_out ≡ []
  pub open_cases : node.open_cases ≡ []

none-there : {X : Type 0} (xs : List X) (k : ℕ) (x : X) → xs ≡ [] → slice_get xs k ≡ Some x → ⊥
none-there [] k x e at = cc
none-there (y ∷ xs) k x e at = cc

no-split : (q : ℕ) (node : Node) (below : List Node) → IsSilent node → IsSplit q node below → ⊥
no-split q node below is (by_cases which parts at e) = none-there node.open_cases which parts is.open_cases at
no-split q node below is (by_branch x c vertex e) = no-vertex q x c (subst (λ (ls : List Lit). HasVertexBetween (system q ls) x c) is.lits vertex)

start-silent : (form : Form) → literals form ≡ [] → disjunctions form ≡ [] → IsSilent (start form)
start-silent form lits cases = record { lits = refl; left_out = lits; open_cases = cases }

all-silent : (form : Form) → IsSilent (start form) → (node : Node) → IsNode form node → IsSilent node
all-silent form is node (first _ e) = subst IsSilent (sym e) is
all-silent form is node (taken_in before _ k lit of at e) = absurd (none-there before.left_out k lit (all-silent form is before of).left_out at)
all-silent form is node (under over _ below of split inside) = absurd (no-split (form_end form) over below (all-silent form is over of) split.split)

no-more : (q : ℕ) (nodes : List Node) (n : ℕ) → HaveTrees q nodes n → nodes ≡ [] → 0 < n → ⊥
no-more q _ _ none e h = absurd (omega arith)
no-more q _ _ (leaf node nodes n have) e h = cc
no-more q _ _ (takes_in node nodes n k lit at have) e h = cc
no-more q _ _ (inner node nodes below n split have) e h = cc

no-trees : (q : ℕ) (nodes : List Node) (n : ℕ) → HaveTrees q nodes n → (node : Node) → IsSilent node → nodes ≡ node ∷ [] → 0 < n → ⊥
no-trees q _ _ none node is e h = absurd (omega arith)
no-trees q _ _ (leaf other nodes n have) node is e h = no-more q nodes n have (same-rest other node nodes [] e) h
no-trees q _ _ (takes_in other nodes n k lit at have) node is e h = none-there node.left_out k lit is.left_out (subst (λ (a : Node). slice_get a.left_out k ≡ Some lit) (same-head other node nodes [] e) at)
no-trees q _ _ (inner other nodes below n split have) node is e h = no-split q node below is (subst (λ (a : Node). IsSplit q a below) (same-head other node nodes [] e) split.split)

no-evidence : (form : Form) → literals form ≡ [] → disjunctions form ≡ [] → (evidence : Evidence) → IsEvidence form evidence → ⊥
no-evidence form lits cases (Row ls basis wide) is =
    let silent = all-silent form (start-silent form lits cases) is.0.0 is.0.1 in
    let e : ls ≡ [] = sym is.0.2 ∙ silent.lits in
    no-row _ basis wide (subst (λ (ks : List Lit). IsWideRow (tableau form ks).columns (tableau form ks).equations basis wide) e is.1)
no-evidence form lits cases (Coordinate ls basis values variable) is =
    let silent = all-silent form (start-silent form lits cases) is.0.0 is.0.1 in
    let e : ls ≡ [] = sym is.0.2 ∙ silent.lits in
    no-coordinate (form_end form) basis values variable (subst (λ (ks : List Lit). IsWideCoordinate (tableau form ks) basis values variable) e is.1)
no-evidence form lits cases (Rows ls) is =
    let silent = all-silent form (start-silent form lits cases) is.0.0 is.0.1 in
    let e : ls ≡ [] = sym is.0.2 ∙ silent.lits in
    let many = subst (λ (ks : List Lit). 1024 < length (tableau form ks).equations) e is.1 in
    absurd (omega (arith, many))
no-evidence form lits cases (Nodes nodes) is = no-trees (form_end form) (start form ∷ []) nodes is.1 (start form) (start-silent form lits cases) refl is.0

pub nothing-given-up : (form : Form) → literals form ≡ [] → disjunctions form ≡ [] → (evidence : Evidence) → IsGivenUp form evidence → ⊥
nothing-given-up form lits cases evidence is = ∥∥₁_elim is (λ x y. absurd x) (no-evidence form lits cases evidence)
