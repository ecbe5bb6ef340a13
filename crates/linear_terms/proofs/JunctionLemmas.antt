-- The truth of literals, conjunctions and disjunctions, and of chains and pairs of relations.
use Rattle.std.proofs.Common.{◌≡◌, ℕ, ◌+◌, ◌%◌, List, [], ◌∷◌, ◌++◌, Bool, true, false, ◌&&◌, ◌||◌, ◌==◌, refl, ap, sym, ◌∙◌, arith, map}
use Rattle.std.specs.Prelude.{ℤ, pos, ◌+ℤ◌, ◌-ℤ◌, nat_abs, int_le, fold, not}
use Rattle.std.specs.List.{list_all, list_any}
use Rattle.std.proofs.lemmas.Int.{ints}
use Rattle.std.proofs.lemmas.Bool.Decides.{nat_tests}
use denote.Hole.Carrier.{roll}
use Rattle.term_tree.specs.declared.scalar.Value.{Value}
use Rattle.term_tree.specs.Operators.{chained, pairwise, same_truth}
use Rattle.lin_atoms.specs.Multiples.{is_multiple}
use Rattle.lin_atoms.specs.Linear.{Linear}
use Rattle.lin_atoms.specs.Linear.{value_at as worth_at}
use Rattle.lin_atoms.specs.Truth.{lit_truth, truth, truth_step}
use Rattle.lin_atoms.specs.declared.lit.Lit.{Lit as Literal}
use Rattle.lin_atoms.specs.declared.form.Form.{Form}
use Rattle.lin_atoms.specs.declared.form.Form.TheOpen.{Form-F}
use Rattle.lin_atoms.specs.declared.form.Form.TheVariants.{True, False, Lit}
use Rattle.lin_atoms.specs.declared.form.Form.TheViews.{roll-Form}
use Rattle.lin_atoms.specs.declared.form.Form.TheFolds.{fold-roll-Form}
use Rattle.lin_atoms.proofs.Public.{truth-And, truth-Or}
use Rattle.lin_atoms.proofs.Public.{value_at-negated}
use Rattle.linear_terms.specs.Formula.{le, eq, one_more, complement_of, conjunction_of, disjunction_of, joined, neighbours, pairs, is_one}
use Rattle.linear_terms.specs.Meeting.{truth_number}

pub truth-Lit : (point : List ℤ) (lit : Literal) → truth point (Lit lit) ≡ lit_truth point lit
unfolding roll-Form roll
truth-Lit point lit = fold-roll-Form Bool (truth_step point) (Form-F.Lit lit)

pub truth-True : (point : List ℤ) → truth point True ≡ true
unfolding roll-Form roll
truth-True point = fold-roll-Form Bool (truth_step point) Form-F.True

pub truth-False : (point : List ℤ) → truth point False ≡ false
unfolding roll-Form roll
truth-False point = fold-roll-Form Bool (truth_step point) Form-F.False

one_all : (b : Bool) → b ≡ (b && true)
one_all true = refl
one_all false = refl

one_any : (b : Bool) → b ≡ (b || false)
one_any true = refl
one_any false = refl

pub truth-all : (point : List ℤ) (forms : List Form) → truth point (conjunction_of forms) ≡ list_all (truth point) forms
truth-all point [] = truth-And point []
truth-all point (form ∷ []) = one_all (truth point form)
truth-all point (form ∷ next ∷ forms) = truth-And point (form ∷ next ∷ forms)

pub truth-any : (point : List ℤ) (forms : List Form) → truth point (disjunction_of forms) ≡ list_any (truth point) forms
truth-any point [] = truth-Or point []
truth-any point (form ∷ []) = one_any (truth point form)
truth-any point (form ∷ next ∷ forms) = truth-Or point (form ∷ next ∷ forms)

unfoldable pub all_true : List Bool → Bool
all_true [] = true
all_true (b ∷ bs) = b && all_true bs

unfoldable pub any_true : List Bool → Bool
any_true [] = false
any_true (b ∷ bs) = b || any_true bs

pub all_of-map : {X : Type 0} (f : X → Bool) (xs : List X) → list_all f xs ≡ all_true (map f xs)
unfolding all_true
all_of-map f [] = refl
all_of-map f (x ∷ xs) = ap (λ (b : Bool). f x && b) (all_of-map f xs)

pub any_of-map : {X : Type 0} (f : X → Bool) (xs : List X) → list_any f xs ≡ any_true (map f xs)
unfolding any_true
any_of-map f [] = refl
any_of-map f (x ∷ xs) = ap (λ (b : Bool). f x || b) (any_of-map f xs)

pub same_bools : (bs : List Bool) → map (same_truth true) bs ≡ bs
same_bools [] = refl
same_bools (b ∷ bs) = ap (λ (xs : List Bool). b ∷ xs) (same_bools bs)

not_and : (b c : Bool) → (not b || not c) ≡ not (b && c)
not_and true c = refl
not_and false c = refl

not_or : (b c : Bool) → (not b && not c) ≡ not (b || c)
not_or true c = refl
not_or false c = refl

any_not : (bs : List Bool) → any_true (map (same_truth false) bs) ≡ not (all_true bs)
unfolding any_true all_true
any_not [] = refl
any_not (b ∷ bs) = ap (λ (x : Bool). not b || x) (any_not bs) ∙ not_and b (all_true bs)

all_not : (bs : List Bool) → all_true (map (same_truth false) bs) ≡ not (any_true bs)
unfolding any_true all_true
all_not [] = refl
all_not (b ∷ bs) = ap (λ (x : Bool). not b && x) (all_not bs) ∙ not_or b (any_true bs)

-- a conjunction, or the disjunction of the denials
pub joined_all : (point : List ℤ) (sign : Bool) (forms : List Form) (bs : List Bool) → map (truth point) forms ≡ map (same_truth sign) bs
    → truth point (joined sign forms) ≡ same_truth sign (all_true bs)
joined_all point true forms bs each = truth-all point forms ∙ all_of-map (truth point) forms ∙ ap all_true (each ∙ same_bools bs)
joined_all point false forms bs each = truth-any point forms ∙ any_of-map (truth point) forms ∙ ap any_true each ∙ any_not bs

-- a disjunction, or the conjunction of the denials
pub joined_any : (point : List ℤ) (sign : Bool) (forms : List Form) (bs : List Bool) → map (truth point) forms ≡ map (same_truth sign) bs
    → truth point (joined (not sign) forms) ≡ same_truth sign (any_true bs)
joined_any point true forms bs each = truth-any point forms ∙ any_of-map (truth point) forms ∙ ap any_true (each ∙ same_bools bs)
joined_any point false forms bs each = truth-all point forms ∙ all_of-map (truth point) forms ∙ ap all_true each ∙ all_not bs

pub signed_not : (sign b : Bool) → same_truth (not sign) b ≡ same_truth sign (not b)
signed_not true b = refl
signed_not false true = refl
signed_not false false = refl

-- chains and pairs
pub chained_is : (r : Value → Value → Bool) (vs : List Value) → chained r vs ≡ all_true (map (λ (p : Value × Value). r p.0 p.1) (neighbours vs))
unfolding all_true
chained_is r [] = refl
chained_is r (v ∷ []) = refl
chained_is r (v ∷ w ∷ vs) = ap (λ (b : Bool). r v w && b) (chained_is r (w ∷ vs))

all_true-append : (bs cs : List Bool) → all_true (bs ++ cs) ≡ (all_true bs && all_true cs)
unfolding all_true
all_true-append [] cs = refl
all_true-append (true ∷ bs) cs = all_true-append bs cs
all_true-append (false ∷ bs) cs = refl

map-append : {X Y : Type 0} (f : X → Y) (xs ys : List X) → map f (xs ++ ys) ≡ map f xs ++ map f ys
map-append f [] ys = refl
map-append {X} {Y} f (x ∷ xs) ys = ap (λ (zs : List Y). f x ∷ zs) (map-append f xs ys)

map-map : {X Y Z : Type 0} (g : Y → Z) (f : X → Y) (xs : List X) → map g (map f xs) ≡ map (λ (x : X). g (f x)) xs
map-map g f [] = refl
map-map {X} {Y} {Z} g f (x ∷ xs) = ap (λ (zs : List Z). g (f x) ∷ zs) (map-map g f xs)

pub pairwise_is : (r : Value → Value → Bool) (vs : List Value) → pairwise r vs ≡ all_true (map (λ (p : Value × Value). r p.0 p.1) (pairs vs))
unfolding all_true
pairwise_is r [] = refl
pairwise_is r (v ∷ vs) =
    let f : Value × Value → Bool = λ p. r p.0 p.1 in
    let with_first : Value → Value × Value = λ w. (v, w) in
    ap (λ (b : Bool). b && pairwise r vs) (all_of-map (r v) vs ∙ ap all_true (sym (map-map f with_first vs)))
    ∙ ap (λ (b : Bool). all_true (map f (map with_first vs)) && b) (pairwise_is r vs)
    ∙ sym (all_true-append (map f (map with_first vs)) (map f (pairs vs)))
    ∙ ap all_true (sym (map-append f (map with_first vs) (pairs vs)))

-- the forms stand for the values
abbrev pub Linked : (Linear → Value → Type 0) → List Linear → List Value → Type 0
Linked R [] [] = Unit {0}
Linked R (f ∷ fs) (v ∷ vs) = R f v × Linked R fs vs
Linked R [] (v ∷ vs) = ⊥
Linked R (f ∷ fs) [] = ⊥

module _ (point : List ℤ) (sign : Bool) (R : Linear → Value → Type 0) (G : Linear → Linear → Form) (r : Value → Value → Bool)
    (related_is : (f g : Linear) (v w : Value) → R f v → R g w → truth point (G f g) ≡ same_truth sign (r v w)) where
  pub neighbours_truth : (fs : List Linear) (vs : List Value) → Linked R fs vs
      → map (truth point) (map (λ (p : Linear × Linear). G p.0 p.1) (neighbours fs)) ≡ map (same_truth sign) (map (λ (p : Value × Value). r p.0 p.1) (neighbours vs))
  neighbours_truth [] [] linked = refl
  neighbours_truth [] (v ∷ vs) linked = absurd linked
  neighbours_truth (f ∷ []) [] linked = absurd linked
  neighbours_truth (f ∷ []) (v ∷ []) linked = refl
  neighbours_truth (f ∷ []) (v ∷ w ∷ vs) linked = absurd linked.1
  neighbours_truth (f ∷ g ∷ fs) [] linked = absurd linked
  neighbours_truth (f ∷ g ∷ fs) (v ∷ []) linked = absurd linked.1
  neighbours_truth (f ∷ g ∷ fs) (v ∷ w ∷ vs) linked =
      ap (λ (b : Bool). b ∷ map (truth point) (map (λ (p : Linear × Linear). G p.0 p.1) (neighbours (g ∷ fs)))) (related_is f g v w linked.0 linked.1.0)
      ∙ ap (λ (bs : List Bool). same_truth sign (r v w) ∷ bs) (neighbours_truth (g ∷ fs) (w ∷ vs) linked.1)

  with_first : (f : Linear) (v : Value) → R f v → (fs : List Linear) (vs : List Value) → Linked R fs vs
      → map (truth point) (map (λ (p : Linear × Linear). G p.0 p.1) (map (λ g. (f, g)) fs)) ≡ map (same_truth sign) (map (λ (p : Value × Value). r p.0 p.1) (map (λ w. (v, w)) vs))
  with_first f v is [] [] linked = refl
  with_first f v is [] (w ∷ vs) linked = absurd linked
  with_first f v is (g ∷ fs) [] linked = absurd linked
  with_first f v is (g ∷ fs) (w ∷ vs) linked =
      ap (λ (b : Bool). b ∷ map (truth point) (map (λ (p : Linear × Linear). G p.0 p.1) (map (λ h. (f, h)) fs))) (related_is f g v w is linked.0)
      ∙ ap (λ (bs : List Bool). same_truth sign (r v w) ∷ bs) (with_first f v is fs vs linked.1)

  pub pairs_truth : (fs : List Linear) (vs : List Value) → Linked R fs vs
      → map (truth point) (map (λ (p : Linear × Linear). G p.0 p.1) (pairs fs)) ≡ map (same_truth sign) (map (λ (p : Value × Value). r p.0 p.1) (pairs vs))
  pairs_truth [] [] linked = refl
  pairs_truth [] (v ∷ vs) linked = absurd linked
  pairs_truth (f ∷ fs) [] linked = absurd linked
  pairs_truth (f ∷ fs) (v ∷ vs) linked =
      let F : Linear × Linear → Form = λ p. G p.0 p.1 in
      let q : Value × Value → Bool = λ p. r p.0 p.1 in
      ap (map (truth point)) (map-append F (map (λ g. (f, g)) fs) (pairs fs))
      ∙ map-append (truth point) (map F (map (λ g. (f, g)) fs)) (map F (pairs fs))
      ∙ ap (λ (bs : List Bool). bs ++ map (truth point) (map F (pairs fs))) (with_first f v linked.0 fs vs linked.1)
      ∙ ap (λ (bs : List Bool). map (same_truth sign) (map q (map (λ w. (v, w)) vs)) ++ bs) (pairs_truth fs vs linked.1)
      ∙ sym (map-append (same_truth sign) (map q (map (λ w. (v, w)) vs)) (map q (pairs vs)))
      ∙ ap (map (same_truth sign)) (sym (map-append q (map (λ w. (v, w)) vs) (pairs vs)))

-- literals over one form
pub one_minus_value : (point : List ℤ) (lin : Linear) → worth_at point (complement_of lin) ≡ pos 1 -ℤ worth_at point lin
one_minus_value point lin = let e = value_at-negated point lin in omega (arith, ints)

pub one_more_value : (point : List ℤ) (lin : Linear) → worth_at point (one_more lin) ≡ worth_at point lin +ℤ pos 1
one_more_value point lin = omega (arith, ints)

pub le_truth : (point : List ℤ) (lin : Linear) (n : ℤ) → worth_at point lin ≡ n → truth point (le lin) ≡ int_le n (pos 0)
le_truth point lin n is = truth-Lit point _ ∙ ap (λ (x : ℤ). int_le x (pos 0)) is

pub eq_truth : (point : List ℤ) (lin : Linear) (n : ℤ) → worth_at point lin ≡ n → truth point (eq lin) ≡ (nat_abs n == 0)
eq_truth point lin n is = truth-Lit point _ ∙ ap (λ (x : ℤ). nat_abs x == 0) is

pub minus_truth : (point : List ℤ) (lin : Linear) (n : ℤ) → worth_at point lin ≡ n → truth point (le (complement_of lin)) ≡ int_le (pos 1 -ℤ n) (pos 0)
minus_truth point lin n is = le_truth point (complement_of lin) (pos 1 -ℤ n) (one_minus_value point lin ∙ ap (λ (x : ℤ). pos 1 -ℤ x) is)

pub more_truth : (point : List ℤ) (lin : Linear) (n : ℤ) → worth_at point lin ≡ n → truth point (le (one_more lin)) ≡ int_le (n +ℤ pos 1) (pos 0)
more_truth point lin n is = le_truth point (one_more lin) (n +ℤ pos 1) (one_more_value point lin ∙ ap (λ (x : ℤ). x +ℤ pos 1) is)

-- a bit is 1, or 0
pub one_truth : (point : List ℤ) (sign : Bool) (lin : Linear) (b : Bool) → worth_at point lin ≡ truth_number b → truth point (is_one sign lin) ≡ same_truth sign b
one_truth point true lin true is = minus_truth point lin (pos 1) is
one_truth point true lin false is = minus_truth point lin (pos 0) is
one_truth point false lin true is = le_truth point lin (pos 1) is
one_truth point false lin false is = le_truth point lin (pos 0) is

-- parity
odd_next : (m : ℕ) → ((m + 1) % 2 == 0) ≡ not (m % 2 == 0)
odd_next m = grind (arith, nat_tests)

xor_true : (b : Bool) → not (same_truth b true) ≡ not b
xor_true true = refl
xor_true false = refl

xor_false : (b : Bool) → not (same_truth b false) ≡ b
xor_false true = refl
xor_false false = refl

not_not : (b : Bool) → not (not b) ≡ b
not_not true = refl
not_not false = refl

parity_from : (m : ℕ) (b : Bool) (bs : List Bool) → not (m % 2 == 0) ≡ b
    → not (is_multiple (pos 2) (fold (λ x n. x +ℤ n) (pos m) (map truth_number bs))) ≡ fold (λ x y. not (same_truth x y)) b bs
parity_from m b [] is = is
parity_from m b (true ∷ bs) is =
    parity_from (m + 1) (not (same_truth b true)) bs (ap not (odd_next m) ∙ not_not (m % 2 == 0) ∙ sym (xor_true b ∙ ap not (sym is) ∙ not_not (m % 2 == 0)))
parity_from m b (false ∷ bs) is =
    let none : pos m +ℤ pos 0 ≡ pos m = omega (arith, ints) in
    ap (λ (x : ℤ). not (is_multiple (pos 2) (fold (λ x n. x +ℤ n) x (map truth_number bs)))) none
    ∙ parity_from m (not (same_truth b false)) bs (is ∙ sym (xor_false b))

pub parity : (bs : List Bool) → not (is_multiple (pos 2) (fold (λ x n. x +ℤ n) (pos 0) (map truth_number bs))) ≡ fold (λ x y. not (same_truth x y)) false bs
parity bs = parity_from 0 false bs refl
