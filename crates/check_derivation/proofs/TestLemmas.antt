-- What the tests of a step tell, both ways.
use Rattle.std.proofs.Common.{◌≡◌, ℕ, suc, ◌<◌, ◌≤◌, ◌==◌, List, [], ◌∷◌, map, Bool, true, false, ◌&&◌, refl, ap, sym, ◌∙◌, arith}
use Rattle.std.proofs.lemmas.Bool.{lt-ltb}
use Rattle.std.proofs.lemmas.Bool.Decides.{Decides-int_eq, nat_tests}
use Rattle.std.proofs.lemmas.List.Elements.{All-from_recursion, All-head, All-tail}
use Rattle.std.specs.Prelude.{ℤ, nat_lt, Option, Some, None, option_map}
use Rattle.std.specs.List.{All, AllByRecursion, list_all}
use Rattle.term_tree.specs.declared.node.Node.{Node}
use Rattle.term_tree.specs.declared.scalar.Value.{Value}
use Rattle.term_tree.specs.declared.scalar.Value.TheVariants.{Int, Bool as Truth}
use Rattle.term_tree.specs.declared.sort.Sort.{Sort}
use Rattle.term_tree.specs.declared.sort.Sort.TheVariants.{Int as IntSort, Bool as BoolSort}
use Rattle.term_tree.specs.Operators.{same_truth, same_value}
use Rattle.term_tree.specs.Truth.{HasSort, HaveSorts}
use Rattle.term_tree.specs.Value.{Environment}
use Rattle.term_tree.proofs.Public.{below_from, both_true, eqb_self}
use Rattle.horn_shape.specs.declared.clause.AtomUse.{AtomUse}
use Rattle.horn_shape.specs.declared.clause.Part.{Part}
use Rattle.horn_shape.specs.Instance.{ground, part_value}
use Rattle.answer_text.specs.declared.answer.Line.{Line}
use Rattle.cert_derivations.specs.Claims.{concluded_in}
use Rattle.cert_derivations.specs.Lines.{line_head}
use Rattle.check_derivation.specs.machinery.Tests.{agree, fits, is_argument, is_atom, is_conclusion, is_earlier, is_given, is_head}

pub eq_of : (m n : ℕ) → (m == n) ≡ true → m ≡ n
eq_of m n h = grind (arith, nat_tests)

-- sorts

fit_is : (s : Sort) (v : Value) → fits s v ≡ true → HasSort s v
fit_is IntSort (Int n) h = tt
fit_is IntSort (Truth b) h = absurd (cc)
fit_is BoolSort (Int n) h = absurd (cc)
fit_is BoolSort (Truth b) h = tt

is_fit : (s : Sort) (v : Value) → HasSort s v → fits s v ≡ true
is_fit IntSort (Int n) has = refl
is_fit IntSort (Truth b) has = absurd has
is_fit BoolSort (Int n) has = absurd has
is_fit BoolSort (Truth b) has = refl

pub fits_are : (sorts : List Sort) (values : List Value) → agree fits sorts values ≡ true → HaveSorts sorts values
fits_are [] [] h = tt
fits_are [] (v ∷ values) h = absurd (cc)
fits_are (s ∷ sorts) [] h = absurd (cc)
fits_are (s ∷ sorts) (v ∷ values) h = let both = both_true (fits s v) (agree fits sorts values) h in (fit_is s v both.0, fits_are sorts values both.1)

pub have_fits : (sorts : List Sort) (values : List Value) → HaveSorts sorts values → agree fits sorts values ≡ true
have_fits [] [] have = refl
have_fits [] (v ∷ values) have = absurd have
have_fits (s ∷ sorts) [] have = absurd have
have_fits (s ∷ sorts) (v ∷ values) have = ap (λ (b : Bool). b && agree fits sorts values) (is_fit s v have.0) ∙ have_fits sorts values have.1

-- premises

earlier_at : (number place p : ℕ) → number ≡ suc place → is_earlier number p ≡ true → (1 ≤ p) × (p ≤ place)
earlier_at number place p is h =
    let both = both_true (nat_lt 0 p) (nat_lt p number) h in
    let from_one : 0 < p = below_from 0 p both.0 in
    let less : p < number = below_from p number both.1 in
    (omega (arith, from_one), omega (arith, less, is))

at_earlier : (number place p : ℕ) → number ≡ suc place → 1 ≤ p → p ≤ place → is_earlier number p ≡ true
at_earlier number place p is from_one last =
    ap (λ (b : Bool). b && nat_lt p number) (lt-ltb 0 p (omega (arith, from_one))) ∙ lt-ltb p number (omega (arith, last, is))

pub earlier_are : (number place : ℕ) (premises : List ℕ) → number ≡ suc place → list_all (is_earlier number) premises ≡ true → All (λ (p : ℕ). (1 ≤ p) × (p ≤ place)) premises
earlier_are number place premises is h = All-from_recursion (λ (p : ℕ). (1 ≤ p) × (p ≤ place)) premises (each premises h)
  where
    each : (ps : List ℕ) → list_all (is_earlier number) ps ≡ true → AllByRecursion (λ (p : ℕ). (1 ≤ p) × (p ≤ place)) ps
    each [] h = tt
    each (p ∷ ps) h = let both = both_true (is_earlier number p) (list_all (is_earlier number) ps) h in (earlier_at number place p is both.0, each ps both.1)

pub are_earlier : (number place : ℕ) (premises : List ℕ) → number ≡ suc place → All (λ (p : ℕ). (1 ≤ p) × (p ≤ place)) premises → list_all (is_earlier number) premises ≡ true
are_earlier number place [] is all = refl
are_earlier number place (p ∷ ps) is all =
    let first = All-head (λ (q : ℕ). (1 ≤ q) × (q ≤ place)) p ps all in
    ap (λ (b : Bool). b && list_all (is_earlier number) ps) (at_earlier number place p is first.0 first.1)
    ∙ are_earlier number place ps is (All-tail (λ (q : ℕ). (1 ≤ q) × (q ≤ place)) p ps all)

-- values and tuples

truth_is : (a b : Bool) → same_truth a b ≡ true → a ≡ b
truth_is true true h = refl
truth_is true false h = absurd (cc)
truth_is false true h = absurd (cc)
truth_is false false h = refl

value_is : (a b : Value) → same_value a b ≡ true → a ≡ b
value_is (Int m) (Int n) h = ap (λ (k : ℤ). Int k) ((Decides-int_eq m n).0 h)
value_is (Int m) (Truth b) h = absurd (cc)
value_is (Truth a) (Int n) h = absurd (cc)
value_is (Truth a) (Truth b) h = ap (λ (c : Bool). Truth c) (truth_is a b h)

value_same : (a : Value) → same_value a a ≡ true
value_same (Int n) = (Decides-int_eq n n).1 refl
value_same (Truth true) = refl
value_same (Truth false) = refl

abbrev said_as : ℕ → List Value → Option (ℕ × List Value)
said_as pred values = Some (pred, values)

first_same : {X : Type 0} (x y : X) (xs ys : List X) → (x ∷ xs) ≡ (y ∷ ys) → x ≡ y
first_same x y xs ys e = cc

rest_same : {X : Type 0} (x y : X) (xs ys : List X) → (x ∷ xs) ≡ (y ∷ ys) → xs ≡ ys
rest_same x y xs ys e = cc

module _ (nodes : List Node) (env : Environment) where
  tuple_is : (args : List Part) (said : List Value) → agree (is_argument nodes env) args said ≡ true → said ≡ map (part_value nodes env) args
  tuple_is [] [] h = refl
  tuple_is [] (v ∷ said) h = absurd (cc)
  tuple_is (part ∷ args) [] h = absurd (cc)
  tuple_is (part ∷ args) (v ∷ said) h =
      let both = both_true (is_argument nodes env part v) (agree (is_argument nodes env) args said) h in
      ap (λ (w : Value). w ∷ said) (sym (value_is (part_value nodes env part) v both.0)) ∙ ap (λ (vs : List Value). part_value nodes env part ∷ vs) (tuple_is args said both.1)

  tuple_same : (args : List Part) → agree (is_argument nodes env) args (map (part_value nodes env) args) ≡ true
  tuple_same [] = refl
  tuple_same (part ∷ args) = ap (λ (b : Bool). b && agree (is_argument nodes env) args (map (part_value nodes env) args)) (value_same (part_value nodes env part)) ∙ tuple_same args

  pub atom_is : (atom : AtomUse) (said : Option (ℕ × List Value)) → is_atom nodes env atom said ≡ true → said ≡ Some (line_head (ground nodes env atom))
  atom_is atom None h = absurd (cc)
  atom_is atom (Some (pred, values)) h =
      let both = both_true (pred == atom.pred) (agree (is_argument nodes env) atom.args values) h in
      ap (λ (p : ℕ). said_as p values) (eq_of pred atom.pred both.0) ∙ ap (λ (vs : List Value). said_as atom.pred vs) (tuple_is atom.args values both.1)

  pub atom_same : (atom : AtomUse) → is_atom nodes env atom (Some (line_head (ground nodes env atom))) ≡ true
  atom_same atom =
      ap (λ (b : Bool). b && agree (is_argument nodes env) atom.args (map (part_value nodes env) atom.args)) (eqb_self atom.pred) ∙ tuple_same atom.args

  conclusion_is : (atom : AtomUse) (found : Option (Option (ℕ × List Value))) → is_conclusion nodes env atom found ≡ true → found ≡ Some (Some (line_head (ground nodes env atom)))
  conclusion_is atom None h = absurd (cc)
  conclusion_is atom (Some said) h = ap (λ (o : Option (ℕ × List Value)). Some o) (atom_is atom said h)

  pub given_are : (lines : List Line) (atoms : List AtomUse) (premises : List ℕ) → agree (is_given nodes env lines) atoms premises ≡ true
      → map (concluded_in lines) premises ≡ map (λ atom. Some (Some (line_head atom))) (map (ground nodes env) atoms)
  given_are lines [] [] h = refl
  given_are lines [] (p ∷ premises) h = absurd (cc)
  given_are lines (atom ∷ atoms) [] h = absurd (cc)
  given_are lines (atom ∷ atoms) (p ∷ premises) h =
      let both = both_true (is_given nodes env lines atom p) (agree (is_given nodes env lines) atoms premises) h in
      ap (λ (o : Option (Option (ℕ × List Value))). o ∷ map (concluded_in lines) premises) (conclusion_is atom (concluded_in lines p) both.0)
      ∙ ap (λ (os : List (Option (Option (ℕ × List Value)))). Some (Some (line_head (ground nodes env atom))) ∷ os) (given_are lines atoms premises both.1)

  pub are_given : (lines : List Line) (atoms : List AtomUse) (premises : List ℕ) → map (concluded_in lines) premises ≡ map (λ atom. Some (Some (line_head atom))) (map (ground nodes env) atoms)
      → agree (is_given nodes env lines) atoms premises ≡ true
  are_given lines [] [] e = refl
  are_given lines [] (p ∷ premises) e = absurd (cc)
  are_given lines (atom ∷ atoms) [] e = absurd (cc)
  are_given lines (atom ∷ atoms) (p ∷ premises) e =
      let first : concluded_in lines p ≡ Some (Some (line_head (ground nodes env atom))) = first_same _ _ _ _ e in
      ap (λ (b : Bool). b && agree (is_given nodes env lines) atoms premises) (ap (is_conclusion nodes env atom) first ∙ atom_same atom)
      ∙ are_given lines atoms premises (rest_same _ _ _ _ e)

  pub head_is : (head : Option AtomUse) (said : Option (ℕ × List Value)) → is_head nodes env head said ≡ true → said ≡ option_map line_head (option_map (ground nodes env) head)
  head_is None None h = refl
  head_is None (Some said) h = absurd (cc)
  head_is (Some atom) said h = atom_is atom said h

  pub is_head_by : (head : Option AtomUse) (said : Option (ℕ × List Value)) → said ≡ option_map line_head (option_map (ground nodes env) head) → is_head nodes env head said ≡ true
  is_head_by None said e = ap (is_head nodes env None) e
  is_head_by (Some atom) said e = ap (is_head nodes env (Some atom)) e ∙ atom_same atom
