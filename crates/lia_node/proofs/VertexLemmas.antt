-- What the values at a vertex tell of a node.
use Rattle.std.proofs.Common.{◌≡◌, ℕ, suc, zero, List, [], ◌∷◌, refl, ap, sym, ◌∙◌, arith, subst, ◌<◌, true, false, Bool, ◌==◌, length, map, take, get_or}
use Rattle.std.specs.Prelude.{ℤ, pos, ◌+ℤ◌, ◌*ℤ◌, ◌<ℤ◌, int_le, nat_abs, not, ◌||◌}
use Rattle.std.specs.Int.{int_div_euclid, int_rem_euclid}
use Rattle.std.specs.List.{list_all}
use Rattle.std.proofs.Math.IntN.{*ℤ_comm}
use Rattle.std.proofs.lemmas.Bool.{and_from, eqb-false, eqb-true}
use Rattle.std.proofs.lemmas.Int.{by_lt_z, ints}
use Rattle.std.proofs.lemmas.List.{get_or-map, get_or-take, length-map, length-take, length-take-le}
use Rattle.base.proofs.Public.{*ℤ_assoc, +ℤ-*ℤ}
use Rattle.lin_atoms.specs.Linear.{is_short, variable_at}
use Rattle.lin_atoms.specs.Ratio.{Fraction as Number}
use Rattle.lin_atoms.specs.Truth.{lit_truth}
use Rattle.lin_atoms.specs.declared.lit.Lit.{Lit}
use Rattle.lin_atoms.specs.declared.lit.Lit.TheVariants.{Le, Eq, Div, NDiv}
use Rattle.lin_atoms.proofs.Public.{both_true, quotient-rest, rest-below, rest-natural}
use Rattle.int_rows.specs.Basis.{System}
use Rattle.int_rows.specs.Node.{end_of_quotients, system}
use Rattle.int_rows.specs.Rows.{entry}
use Rattle.int_rows.specs.Table.{Table}
use Rattle.simplex_core.specs.Meaning.{IsVertex, system_of}
use Rattle.refutation_trees.specs.Split.{HasSolution, HasVertexBetween, is_no_falsehood}
use Rattle.lia_node.specs.Known.{are_known, is_legal}
use Rattle.lia_node.specs.Whole.{AreWhole, is_met}
use Rattle.int_rows.proofs.ReadyLemmas.{value-none}
use Rattle.int_rows.specs.Ready.{has_no_variable}
use Rattle.lin_atoms.specs.Denial.{linear_of}
use Rattle.lin_atoms.specs.Multiples.{is_multiple}
use Rattle.simplex_core.proofs.FractionLemmas.{cancel, keeps}
use Rattle.simplex_core.proofs.GapLemmas.{keeps-strict}
use Rattle.lia_node.proofs.Public.{solution-met}
use Rattle.lia_node.specs.Nodes.{node_table}
use Rattle.lia_node.specs.Tells.{Tells}
use Rattle.lia_node.specs.Vertices.{floored, is_whole}
use Rattle.lia_node.specs.machinery.Values.{IsOfValues}
use Rattle.lia_node.specs.declared.examined.Examined.{Examined}
use Rattle.lia_node.specs.declared.examined.Examined.TheVariants.{False, Conflict, Model, Fraction, Wide}
use Rattle.lia_node.proofs.EvidenceLemmas.{node-system}

no_number : Number
no_number = record { num = pos 0; den = pos 1 }

less-cancel : (x y : ℤ) (d : ℕ) → (x *ℤ pos d) <ℤ (y *ℤ pos d) → x <ℤ y
less-cancel x y d less = by_lt_z x y (λ h. h) (λ le. let kept = keeps y x d le in absurd (omega (arith, ints, kept, less)))

-- a value that is an integer, over another denominator
whole-value : (q : Number) (e : ℤ) (d : ℕ) → pos 0 <ℤ q.den → 0 < d → q.num *ℤ pos d ≡ e *ℤ q.den → is_whole q ≡ true → e ≡ floored q *ℤ pos d
whole-value q e d some positive same test =
    let f = floored q in
    let k = nat_abs q.den in
    let den : q.den ≡ pos k = omega (arith, ints, some) in
    let rest = quotient-rest q.num q.den some in
    let none : nat_abs (int_rem_euclid q.num q.den) ≡ 0 = eqb-true _ _ test in
    let num : q.num ≡ f *ℤ pos k = let turned = ap (λ z. f *ℤ z) den in omega (arith, ints, rest, none, turned) in
    let left : (f *ℤ pos d) *ℤ pos k ≡ e *ℤ pos k =
    *ℤ_assoc f (pos d) (pos k) ∙ ap (λ z. f *ℤ z) (*ℤ_comm (pos d) (pos k)) ∙ sym (*ℤ_assoc f (pos k) (pos d)) ∙ ap (λ z. z *ℤ pos d) (sym num) ∙ same ∙ ap (λ z. e *ℤ z) den in
    sym (cancel (f *ℤ pos d) e k (omega (arith, ints, some, den)) left)

-- one that is none lies strictly between two
fraction-value : (q : Number) (e : ℤ) (d : ℕ) → pos 0 <ℤ q.den → 0 < d → q.num *ℤ pos d ≡ e *ℤ q.den → is_whole q ≡ false → ((floored q *ℤ pos d) <ℤ e) × (e <ℤ ((floored q +ℤ pos 1) *ℤ pos d))
fraction-value q e d some positive same test =
    let f = floored q in
    let k = nat_abs q.den in
    let den : q.den ≡ pos k = omega (arith, ints, some) in
    let rest = quotient-rest q.num q.den some in
    let natural = rest-natural q.num q.den in
    let small = rest-below q.num q.den some in
    let other = eqb-false _ _ test in
    let turned = ap (λ z. f *ℤ z) den in
    let next = +ℤ-*ℤ f (pos 1) (pos k) in
    let one : pos 1 *ℤ pos k ≡ pos k = grind (arith, ints) in
    let low : (f *ℤ pos k) <ℤ q.num = omega (arith, ints, rest, natural, other, turned) in
    let high : q.num <ℤ ((f +ℤ pos 1) *ℤ pos k) = omega (arith, ints, rest, natural, small, turned, next, one, den) in
    let moved : q.num *ℤ pos d ≡ e *ℤ pos k = same ∙ ap (λ z. e *ℤ z) den in
    let swap : (z : ℤ) → (z *ℤ pos k) *ℤ pos d ≡ (z *ℤ pos d) *ℤ pos k = λ z. *ℤ_assoc z (pos k) (pos d) ∙ ap (λ y. z *ℤ y) (*ℤ_comm (pos k) (pos d)) ∙ sym (*ℤ_assoc z (pos d) (pos k)) in
    let first = keeps-strict (f *ℤ pos k) q.num d positive low in
    let second = keeps-strict q.num ((f +ℤ pos 1) *ℤ pos k) d positive high in
    let left = swap f in
    let right = swap (f +ℤ pos 1) in
    (less-cancel (f *ℤ pos d) e k (omega (arith, ints, first, left, moved)), less-cancel e ((f +ℤ pos 1) *ℤ pos d) k (omega (arith, ints, second, right, moved)))

all-at : {X : Type 0} (p : X → Bool) (xs : List X) (i : ℕ) (d : X) → i < length xs → list_all p xs ≡ true → p (get_or xs i d) ≡ true
all-at p [] i d h all = absurd (omega arith)
all-at p (x ∷ xs) zero d h all = (both_true (p x) _ all).0
all-at p (x ∷ xs) (suc i) d h all = all-at p xs i d (omega arith) (both_true (p x) _ all).1

all-from : {X : Type 0} (test : X → Bool) (xs : List X) (d : X) → ((i : ℕ) → i < length xs → test (get_or xs i d) ≡ true) → list_all test xs ≡ true
all-from test [] d h = refl
all-from test (x ∷ xs) d h = and_from _ _ (h 0 (omega arith)) (all-from test xs d (λ i less. h (suc i) (omega (arith, less))))

-- the first values are short when rounded down
pub first-short : (n : ℕ) (qs : List Number) → ((v : ℕ) (d : Number) → v < n → is_short (int_div_euclid (get_or qs v d).num (get_or qs v d).den) ≡ true) → list_all (λ q. is_short (floored q)) (take n qs) ≡ true
first-short n qs h = all-from (λ q. is_short (floored q)) (take n qs) no_number (λ i less.
    let within : i < n = let long = length-take n qs in omega (arith, less, long) in
    ap (λ (q : Number). is_short (floored q)) (get_or-take n qs i no_number within) ∙ h i no_number within)

truth-none : (p : List ℤ) (lit : Lit) → length (linear_of lit).terms ≡ 0 → lit_truth p lit ≡ lit_truth [] lit
truth-none p (Le lin) e = ap (λ v. int_le v (pos 0)) (value-none p lin e)
truth-none p (Eq lin) e = ap (λ v. nat_abs v == 0) (value-none p lin e)
truth-none p (Div n lin) e = ap (is_multiple (pos n)) (value-none p lin e)
truth-none p (NDiv n lin) e = ap (λ v. not (is_multiple (pos n) v)) (value-none p lin e)

met-step : (p : List ℤ) (lit : Lit) (b : Bool) → has_no_variable lit ≡ b → (b || lit_truth p lit) ≡ true → (not b || lit_truth [] lit) ≡ true → lit_truth p lit ≡ true
met-step p lit true e met constant = truth-none p lit (eqb-true _ _ e) ∙ constant
met-step p lit false e met constant = met

met-true : (p : List ℤ) (lits : List Lit) → list_all (is_met p) lits ≡ true → list_all is_no_falsehood lits ≡ true → list_all (lit_truth p) lits ≡ true
met-true p [] met constants = refl
met-true p (lit ∷ lits) met constants =
    let both = both_true (is_met p lit) _ met in
    let parts = both_true (is_no_falsehood lit) _ constants in
    and_from _ _ (met-step p lit (has_no_variable lit) refl both.0 parts.0) (met-true p lits both.1 parts.1)

-- all values of variables and quotients are integers
pub at-model : (q : ℕ) (lits : List Lit) (qs : List Number) (point : List ℤ) → list_all is_legal lits ≡ true → are_known q lits ≡ true → list_all is_no_falsehood lits ≡ true → IsVertex (system q lits) qs
    → point ≡ map floored (take (end_of_quotients q lits) qs) → list_all is_whole (take (end_of_quotients q lits) qs) ≡ true → (length point ≡ end_of_quotients q lits) × (list_all (lit_truth point) lits ≡ true)
at-model q lits qs point legal known constants vertex is whole =
    let n = end_of_quotients q lits in
    let firsts = take n qs in
    let each = vertex.each in
    let long : length firsts ≡ n = length-take-le n qs (omega (arith, each)) in
    let are : AreWhole n vertex.point point = λ v less.
    let within : v < length firsts = omega (arith, less, long) in
    let inside : v < (system q lits).columns = omega (arith, less) in
    let value : variable_at point v ≡ floored (get_or qs v no_number) = ap (λ (p : List ℤ). get_or p v (pos 0)) is ∙ get_or-map floored firsts v no_number (pos 0) within ∙ ap floored (get_or-take n qs v no_number less) in
    let test : is_whole (get_or qs v no_number) ≡ true = ap is_whole (sym (get_or-take n qs v no_number less)) ∙ all-at is_whole firsts v no_number within whole in
    whole-value (get_or qs v no_number) (entry vertex.point.nums v) vertex.point.den (vertex.positive v no_number inside) vertex.is_basic.positive (vertex.same v no_number inside) test ∙ ap (λ z. z *ℤ pos vertex.point.den) (sym value) in
    let met = solution-met q lits vertex.point point legal known vertex.is_basic.positive vertex.is_basic.width are vertex.is_basic.solves vertex.meets in
    (ap length is ∙ length-map firsts floored ∙ long, met-true point lits met constants)

pub vertex-solution : (q : ℕ) (lits : List Lit) (qs : List Number) → list_all is_no_falsehood lits ≡ true → IsVertex (system q lits) qs → HasSolution q lits
vertex-solution q lits qs constants vertex = record { constants = constants; point = vertex.point; positive = vertex.is_basic.positive; width = vertex.is_basic.width; solves = vertex.is_basic.solves; meets = vertex.meets }

-- the value of a variable or quotient is none
pub at-fraction : (q : ℕ) (lits : List Lit) (qs : List Number) (v : ℕ) (floor : ℤ) → list_all is_no_falsehood lits ≡ true → IsVertex (system q lits) qs → v < length (take (end_of_quotients q lits) qs)
    → ((d : Number) → is_whole (get_or (take (end_of_quotients q lits) qs) v d) ≡ false) → ((d : Number) → floor ≡ floored (get_or (take (end_of_quotients q lits) qs) v d)) → HasSolution q lits × HasVertexBetween (system q lits) v floor
at-fraction q lits qs v floor constants vertex within test value =
    let n = end_of_quotients q lits in
    let each = vertex.each in
    let less : v < n = let long = length-take n qs in omega (arith, within, long) in
    let inside : v < (system q lits).columns = omega (arith, less) in
    let same = get_or-take n qs v no_number less in
    let here : is_whole (get_or qs v no_number) ≡ false = ap is_whole (sym same) ∙ test no_number in
    let is : floor ≡ floored (get_or qs v no_number) = value no_number ∙ ap floored same in
    let between = fraction-value (get_or qs v no_number) (entry vertex.point.nums v) vertex.point.den (vertex.positive v no_number inside) vertex.is_basic.positive (vertex.same v no_number inside) here in (
      vertex-solution q lits qs constants vertex,
      record {
        variable = less;
        basis = vertex.basis;
        values = vertex.outside;
        point = vertex.point;
        is_basic = vertex.is_basic;
        meets = vertex.meets;
        beyond = subst (λ c. (c *ℤ pos vertex.point.den) <ℤ entry vertex.point.nums v) (sym is) between.0;
        beneath = subst (λ c. entry vertex.point.nums v <ℤ ((c +ℤ pos 1) *ℤ pos vertex.point.den)) (sym is) between.1;
      },
    )

pub vertex-at : (q : ℕ) (lits : List Lit) (t : Table) (qs : List Number) → t ≡ node_table q lits → IsVertex (system_of t) qs → IsVertex (system q lits) qs
vertex-at q lits t qs is vertex = subst (λ (s : System). IsVertex s qs) (node-system q lits) (subst (λ (u : Table). IsVertex (system_of u) qs) is vertex)

-- what the values at a vertex tell is what the node tells
pub told-by-values : (q : ℕ) (lits : List Lit) (qs firsts : List Number) (answer : Examined) → list_all is_legal lits ≡ true → are_known q lits ≡ true → list_all is_no_falsehood lits ≡ true → IsVertex (system q lits) qs
    → firsts ≡ take (end_of_quotients q lits) qs → IsOfValues firsts answer → Tells q lits answer
told-by-values q lits qs firsts answer legal known constants vertex is of = by-kind answer (subst (λ (f : List Number). IsOfValues f answer) is of) where
  by-kind : (answer : Examined) → IsOfValues (take (end_of_quotients q lits) qs) answer → Tells q lits answer
  by-kind (Fraction v floor) h = at-fraction q lits qs v floor constants vertex h.0 h.1 h.2
  by-kind (Model point) h = let model = at-model q lits qs point.items legal known constants vertex h.0 h.1 in (vertex-solution q lits qs constants vertex, model.0, h.2, model.1)
  by-kind (False at) h = absurd h
  by-kind (Conflict ms) h = absurd h
  by-kind (Wide evidence) h = absurd h
