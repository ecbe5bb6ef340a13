-- Links, and the literals that say the same.
use Rattle.std.proofs.Common.{inl, inr, ◌≡◌, ℕ, zero, suc, List, [], ◌∷◌, Bool, true, false, not, ◌&&◌, ◌||◌, ◌==◌, refl, ap, sym, ◌∙◌, arith, subst, ◌<◌, length, get_or}
use denote.Hole.Carrier.{roll}
use Rattle.std.specs.Prelude.{ℤ, pos, negsuc, neg_ℤ, ◌+ℤ◌, ◌*ℤ◌, ◌≤ℤ◌, int_le, nat_abs, slice_get, slice_set, Option, Some, None, Result, Ok, Err, IfOk, IfSome, ◌⊎◌}
use Rattle.std.specs.List.{list_all, list_any}
use Rattle.std.proofs.lemmas.Int.{ints}
use Rattle.std.proofs.Math.IntN.{*ℤ-negsuc, *ℤ-one, *ℤ_comm}
use Rattle.lin_atoms.specs.Linear.{Linear, value_at, variable_at}
use Rattle.lin_atoms.specs.Truth.{lit_truth, truth, truth_step}
use Rattle.lin_atoms.specs.declared.lit.Lit.{Lit}
use Rattle.lin_atoms.specs.declared.lit.Lit.TheVariants.{Eq, Le}
use Rattle.lin_atoms.specs.declared.form.Form.{Form}
use Rattle.lin_atoms.specs.declared.form.Form.TheOpen.{Form-F}
use Rattle.lin_atoms.specs.declared.form.Form.TheFolds.{fold-roll-Form}
use Rattle.lin_atoms.specs.declared.form.Form.TheViews.{And, Or, roll-Form}
use Rattle.lin_atoms.specs.declared.form.Form.TheVariants.{Lit as Literal}
use Rattle.lin_atoms.proofs.Public.{both_true, truth-And, truth-Or}
use Rattle.chc_checker.specs.machinery.Links.{AreLinked, AreValues, AreWithin, IsLink, IsLinkForm, IsValue, link_form, partner}
use Rattle.linear_terms.specs.Meeting.{truth_number}

-- numbers

one-times : (x : ℤ) → pos 1 *ℤ x ≡ x
unfolding lib.IntN.one
one-times x = *ℤ_comm (pos 1) x ∙ *ℤ-one x

minus-times : (x : ℤ) → negsuc 0 *ℤ x ≡ neg_ℤ x
unfolding lib.IntN.one
minus-times x = *ℤ_comm (negsuc 0) x ∙ *ℤ-negsuc x 0 ∙ ap neg_ℤ (*ℤ-one x)

pub le-true : (a b : ℤ) → int_le a b ≡ true → a ≤ℤ b
le-true a b h = grind (arith, ints)

true-le : (a b : ℤ) → a ≤ℤ b → int_le a b ≡ true
true-le a b h = grind (arith, ints)

zero-true : (w : ℤ) → w ≡ pos 0 → (nat_abs w == 0) ≡ true
zero-true w h = grind (arith, ints)

true-zero : (w : ℤ) → (nat_abs w == 0) ≡ true → w ≡ pos 0
true-zero w h = grind (arith, ints)

with_one : (p x k : ℤ) → p ≡ x → (p +ℤ pos 0) +ℤ k ≡ x +ℤ k
with_one p x k e = omega (arith, ints, e)

with_two : (p q x y k : ℤ) → p ≡ x → q ≡ y → (p +ℤ (q +ℤ pos 0)) +ℤ k ≡ (x +ℤ y) +ℤ k
with_two p q x y k e f = omega (arith, ints, e, f)

-- a form of one variable

pub value_up : (point : List ℤ) (lin : Linear) (v : ℕ) (k : ℤ) → lin ≡ record { terms = (v, pos 1) ∷ []; constant = k } → value_at point lin ≡ variable_at point v +ℤ k
value_up point lin v k is = ap (value_at point) is ∙ with_one (pos 1 *ℤ variable_at point v) (variable_at point v) k (one-times (variable_at point v))

pub value_down : (point : List ℤ) (lin : Linear) (v : ℕ) (k : ℤ) → lin ≡ record { terms = (v, negsuc 0) ∷ []; constant = k } → value_at point lin ≡ neg_ℤ (variable_at point v) +ℤ k
value_down point lin v k is = ap (value_at point) is ∙ with_one (negsuc 0 *ℤ variable_at point v) (neg_ℤ (variable_at point v)) k (minus-times (variable_at point v))

-- what bounds and equations say

one_below : (w x : ℤ) → w ≡ neg_ℤ x +ℤ pos 1 → x ≡ pos 1 → w ≤ℤ pos 0
one_below w x e is = omega (arith, ints, e, is)

below_one : (w x : ℤ) → w ≡ neg_ℤ x +ℤ pos 1 → w ≤ℤ pos 0 → x ≤ℤ pos 1 → x ≡ pos 1
below_one w x e le most = omega (arith, ints, e, le, most)

zero_below : (w x : ℤ) → w ≡ x +ℤ pos 0 → x ≡ pos 0 → w ≤ℤ pos 0
zero_below w x e is = omega (arith, ints, e, is)

below_zero : (w x : ℤ) → w ≡ x +ℤ pos 0 → w ≤ℤ pos 0 → pos 0 ≤ℤ x → x ≡ pos 0
below_zero w x e le least = omega (arith, ints, e, le, least)

one_equal : (w x : ℤ) → w ≡ x +ℤ negsuc 0 → x ≡ pos 1 → w ≡ pos 0
one_equal w x e is = omega (arith, ints, e, is)

equal_one : (w x : ℤ) → w ≡ x +ℤ negsuc 0 → w ≡ pos 0 → x ≡ pos 1
equal_one w x e is = omega (arith, ints, e, is)

zero_equal : (w x : ℤ) → w ≡ x +ℤ pos 0 → x ≡ pos 0 → w ≡ pos 0
zero_equal w x e is = omega (arith, ints, e, is)

equal_zero : (w x : ℤ) → w ≡ x +ℤ pos 0 → w ≡ pos 0 → x ≡ pos 0
equal_zero w x e is = omega (arith, ints, e, is)

pub least_of : (w x : ℤ) → w ≡ neg_ℤ x +ℤ pos 0 → w ≤ℤ pos 0 → pos 0 ≤ℤ x
least_of w x e le = omega (arith, ints, e, le)

of_least : (w x : ℤ) → w ≡ neg_ℤ x +ℤ pos 0 → pos 0 ≤ℤ x → w ≤ℤ pos 0
of_least w x e le = omega (arith, ints, e, le)

pub most_of : (w x : ℤ) → w ≡ x +ℤ negsuc 0 → w ≤ℤ pos 0 → x ≤ℤ pos 1
most_of w x e le = omega (arith, ints, e, le)

of_most : (w x : ℤ) → w ≡ x +ℤ negsuc 0 → x ≤ℤ pos 1 → w ≤ℤ pos 0
of_most w x e le = omega (arith, ints, e, le)

truth-Literal : (point : List ℤ) (lit : Lit) → truth point (Literal lit) ≡ lit_truth point lit
unfolding roll-Form roll
truth-Literal point lit = fold-roll-Form Bool (truth_step point) (Form-F.Lit lit)

from_le : (point : List ℤ) (lin : Linear) → truth point (Literal (Le lin)) ≡ true → value_at point lin ≤ℤ pos 0
from_le point lin h = le-true (value_at point lin) (pos 0) (sym (truth-Literal point (Le lin)) ∙ h)

to_le : (point : List ℤ) (lin : Linear) → value_at point lin ≤ℤ pos 0 → truth point (Literal (Le lin)) ≡ true
to_le point lin h = truth-Literal point (Le lin) ∙ true-le (value_at point lin) (pos 0) h

from_eq : (point : List ℤ) (lin : Linear) → truth point (Literal (Eq lin)) ≡ true → value_at point lin ≡ pos 0
from_eq point lin h = true-zero (value_at point lin) (sym (truth-Literal point (Eq lin)) ∙ h)

to_eq : (point : List ℤ) (lin : Linear) → value_at point lin ≡ pos 0 → truth point (Literal (Eq lin)) ≡ true
to_eq point lin h = truth-Literal point (Eq lin) ∙ zero-true (value_at point lin) h

-- parts

pub from_both : (a b : Bool) → a ≡ true → b ≡ true → (a && b) ≡ true
from_both true b h k = k
from_both false b h k = absurd (cc)

pub all-get : {X : Type 0} (p : X → Bool) (xs : List X) (i : ℕ) (x : X) → i < length xs → x ≡ get_or xs i x → list_all p xs ≡ true → p x ≡ true
all-get p [] i x within is all = absurd (omega arith)
all-get p (y ∷ xs) zero x within is all = ap p is ∙ (both_true (p y) (list_all p xs) all).0
all-get p (y ∷ xs) (suc i) x within is all = all-get p xs i x (omega arith) is (both_true (p y) (list_all p xs) all).1

either : (a b : Bool) → (a || (b || false)) ≡ true → (a ≡ true) ⊎ (b ≡ true)
either true b h = inl refl
either false true h = inr refl
either false false h = absurd (cc)

first-or : (a b : Bool) → a ≡ true → (a || (b || false)) ≡ true
first-or true b h = refl
first-or false b h = absurd (cc)

second-or : (a b : Bool) → b ≡ true → (a || (b || false)) ≡ true
second-or true b h = refl
second-or false true h = refl
second-or false false h = absurd (cc)

module _ (low high : List Bool) where
  pub bound_one : (lin : Linear) (v : ℕ) → lin ≡ record { terms = (v, negsuc 0) ∷ []; constant = pos 1 } → slice_get high v ≡ Some true → IsValue low high (Literal (Le lin)) v true
  bound_one lin v is marked = record {
    made = λ point one. to_le point lin (one_below (value_at point lin) (variable_at point v) (value_down point lin v (pos 1) is) one);
    only = λ point within h. below_one (value_at point lin) (variable_at point v) (value_down point lin v (pos 1) is) (from_le point lin h) (within.most v marked);
  }

  pub bound_zero : (lin : Linear) (v : ℕ) → lin ≡ record { terms = (v, pos 1) ∷ []; constant = pos 0 } → slice_get low v ≡ Some true → IsValue low high (Literal (Le lin)) v false
  bound_zero lin v is marked = record {
    made = λ point none. to_le point lin (zero_below (value_at point lin) (variable_at point v) (value_up point lin v (pos 0) is) none);
    only = λ point within h. below_zero (value_at point lin) (variable_at point v) (value_up point lin v (pos 0) is) (from_le point lin h) (within.least v marked);
  }

  pub equation_one : (lin : Linear) (v : ℕ) → lin ≡ record { terms = (v, pos 1) ∷ []; constant = negsuc 0 } → IsValue low high (Literal (Eq lin)) v true
  equation_one lin v is = record {
    made = λ point one. to_eq point lin (one_equal (value_at point lin) (variable_at point v) (value_up point lin v (negsuc 0) is) one);
    only = λ point within h. equal_one (value_at point lin) (variable_at point v) (value_up point lin v (negsuc 0) is) (from_eq point lin h);
  }

  pub equation_zero : (lin : Linear) (v : ℕ) → lin ≡ record { terms = (v, pos 1) ∷ []; constant = pos 0 } → IsValue low high (Literal (Eq lin)) v false
  equation_zero lin v is = record {
    made = λ point none. to_eq point lin (zero_equal (value_at point lin) (variable_at point v) (value_up point lin v (pos 0) is) none);
    only = λ point within h. equal_zero (value_at point lin) (variable_at point v) (value_up point lin v (pos 0) is) (from_eq point lin h);
  }

  pub two_values : (f g : Form) (u : ℕ) (a : Bool) (v : ℕ) (b : Bool) → IsValue low high f u a → IsValue low high g v b → AreValues low high (And (f ∷ g ∷ [])) u a v b
  two_values f g u a v b one other = record {
    made = λ point x y. truth-And point (f ∷ g ∷ []) ∙ from_both (truth point f) (truth point g && true) (one.made point x) (from_both (truth point g) true (other.made point y) refl);
    only = λ point within h.
        let parts = both_true (truth point f) (truth point g && true) (sym (truth-And point (f ∷ g ∷ [])) ∙ h) in
        (one.only point within parts.0, other.only point within (both_true (truth point g) true parts.1).0);
  }

-- either both values, or both other ones
module _ (low high : List Bool) (f g : Form) (u : ℕ) (a : Bool) (v : ℕ) (b c d same : Bool) (one : AreValues low high f u a v b) (other : AreValues low high g u c v d)
    (first : partner same a ≡ b) (second : partner same c ≡ d) where
  way : (point : List ℤ) (linked : AreLinked u v same point) → (linked.value ≡ a) ⊎ (linked.value ≡ c) → (truth point f || (truth point g || false)) ≡ true
  way point linked (inl is) =
      first-or (truth point f) (truth point g) (one.made point (linked.first ∙ ap truth_number is) (linked.second ∙ ap (λ e. truth_number (partner same e)) is ∙ ap truth_number first))
  way point linked (inr is) =
      second-or (truth point f) (truth point g) (other.made point (linked.first ∙ ap truth_number is) (linked.second ∙ ap (λ e. truth_number (partner same e)) is ∙ ap truth_number second))

  back : (point : List ℤ) → AreWithin low high point → (truth point f ≡ true) ⊎ (truth point g ≡ true) → AreLinked u v same point
  back point within (inl h) = let both = one.only point within h in record { value = a; first = both.0; second = both.1 ∙ ap truth_number (sym first) }
  back point within (inr h) = let both = other.only point within h in record { value = c; first = both.0; second = both.1 ∙ ap truth_number (sym second) }

  pub two_ways : ((value : Bool) → (value ≡ a) ⊎ (value ≡ c)) → IsLink low high (Or (f ∷ g ∷ [])) u v same
  two_ways cover = record {
    made = λ point linked. truth-Or point (f ∷ g ∷ []) ∙ way point linked (cover linked.value);
    only = λ point within h. back point within (either (truth point f) (truth point g) (sym (truth-Or point (f ∷ g ∷ [])) ∙ h));
  }

opposite : (a c : Bool) → partner a c ≡ false → c ≡ not a
opposite true true h = absurd (cc)
opposite true false h = refl
opposite false true h = refl
opposite false false h = absurd (cc)

pair_first : (a b : Bool) → partner (partner a b) a ≡ b
pair_first true true = refl
pair_first true false = refl
pair_first false true = refl
pair_first false false = refl

pair_second : (a b : Bool) → partner (partner a b) (not a) ≡ not b
pair_second true true = refl
pair_second true false = refl
pair_second false true = refl
pair_second false false = refl

covered : (a value : Bool) → (value ≡ a) ⊎ (value ≡ not a)
covered true true = inl refl
covered true false = inr refl
covered false true = inr refl
covered false false = inl refl

pub link_by : (low high : List Bool) (parts : List Form) (f g : Form) (u : ℕ) (a : Bool) (v : ℕ) (b : Bool) (x : ℕ) (c : Bool) (y : ℕ) (d same : Bool) → parts ≡ f ∷ g ∷ []
    → AreValues low high f u a v b → AreValues low high g x c y d → (u ≡ x) × (partner a c ≡ false) → (v ≡ y) × (partner b d ≡ false) → same ≡ partner a b → IsLink low high (Or parts) u v same
link_by low high parts f g u a v b x c y d same are one other first second is_same =
    let is : AreValues low high g u (not a) v (not b) =
    subst (λ (z : ℕ). AreValues low high g z (not a) v (not b)) (sym first.0) (subst (λ (z : ℕ). AreValues low high g x (not a) z (not b)) (sym second.0)
    (subst (λ (e : Bool). AreValues low high g x e y (not b)) (opposite a c first.1) (subst (λ (e : Bool). AreValues low high g x c y e) (opposite b d second.1) other))) in
    subst (λ (s : Bool). IsLink low high (Or parts) u v s) (sym is_same) (subst (λ (fs : List Form). IsLink low high (Or fs) u v (partner a b)) (sym are)
    (two_ways low high f g u a v b (not a) (not b) (partner a b) one is (pair_first a b) (pair_second a b) (covered a)))

-- the literals of a link

value_same : (point : List ℤ) (u v : ℕ) → value_at point (link_form u v true) ≡ (variable_at point u +ℤ neg_ℤ (variable_at point v)) +ℤ pos 0
value_same point u v = with_two (pos 1 *ℤ variable_at point u) (negsuc 0 *ℤ variable_at point v) (variable_at point u) (neg_ℤ (variable_at point v)) (pos 0) (one-times (variable_at point u)) (minus-times (variable_at point v))

value_crossed : (point : List ℤ) (u v : ℕ) → value_at point (link_form u v false) ≡ (variable_at point u +ℤ variable_at point v) +ℤ negsuc 0
value_crossed point u v = with_two (pos 1 *ℤ variable_at point u) (pos 1 *ℤ variable_at point v) (variable_at point u) (variable_at point v) (negsuc 0) (one-times (variable_at point u)) (one-times (variable_at point v))

zero-or-one : (x : ℤ) → pos 0 ≤ℤ x → x ≤ℤ pos 1 → (x ≡ pos 0) ⊎ (x ≡ pos 1)
zero-or-one (pos zero) least most = inl refl
zero-or-one (pos (suc zero)) least most = inr refl
zero-or-one (pos (suc (suc n))) least most = absurd (omega (arith, ints, most))
zero-or-one (negsuc n) least most = absurd (omega (arith, ints, least))

same-partner : (w x y : ℤ) (value : Bool) → w ≡ (x +ℤ neg_ℤ y) +ℤ pos 0 → w ≡ pos 0 → x ≡ truth_number value → y ≡ truth_number value
same-partner w x y value e none is = let same : y ≡ x = omega (arith, ints, e, none) in same ∙ is

partner-same : (w x y k : ℤ) → w ≡ (x +ℤ neg_ℤ y) +ℤ pos 0 → x ≡ k → y ≡ k → w ≡ pos 0
partner-same w x y k e first second = omega (arith, ints, e, first, second)

crossed-partner : (w x y : ℤ) (value : Bool) → w ≡ (x +ℤ y) +ℤ negsuc 0 → w ≡ pos 0 → x ≡ truth_number value → y ≡ truth_number (not value)
crossed-partner w x y true e none is = let one : x ≡ pos 1 = is in let other : y ≡ pos 0 = omega (arith, ints, e, none, one) in other
crossed-partner w x y false e none is = let one : x ≡ pos 0 = is in let other : y ≡ pos 1 = omega (arith, ints, e, none, one) in other

partner-crossed : (w x y : ℤ) (value : Bool) → w ≡ (x +ℤ y) +ℤ negsuc 0 → x ≡ truth_number value → y ≡ truth_number (not value) → w ≡ pos 0
partner-crossed w x y true e first second = let one : x ≡ pos 1 = first in let other : y ≡ pos 0 = second in omega (arith, ints, e, one, other)
partner-crossed w x y false e first second = let one : x ≡ pos 0 = first in let other : y ≡ pos 1 = second in omega (arith, ints, e, one, other)

-- the equation holds of the other variable's value
solved : (point : List ℤ) (u v : ℕ) (same value : Bool) → value_at point (link_form u v same) ≡ pos 0 → variable_at point u ≡ truth_number value → variable_at point v ≡ truth_number (partner same value)
solved point u v true value none is = same-partner (value_at point (link_form u v true)) (variable_at point u) (variable_at point v) value (value_same point u v) none is
solved point u v false value none is = crossed-partner (value_at point (link_form u v false)) (variable_at point u) (variable_at point v) value (value_crossed point u v) none is

solves : (point : List ℤ) (u v : ℕ) (same value : Bool) → variable_at point u ≡ truth_number value → variable_at point v ≡ truth_number (partner same value) → value_at point (link_form u v same) ≡ pos 0
solves point u v true value first second = partner-same (value_at point (link_form u v true)) (variable_at point u) (variable_at point v) (truth_number value) (value_same point u v) first second
solves point u v false value first second = partner-crossed (value_at point (link_form u v false)) (variable_at point u) (variable_at point v) value (value_crossed point u v) first second

at-least : (x : ℤ) (value : Bool) → x ≡ truth_number value → pos 0 ≤ℤ x
at-least x true is = let e : x ≡ pos 1 = is in omega (arith, ints, e)
at-least x false is = let e : x ≡ pos 0 = is in omega (arith, ints, e)

at-most : (x : ℤ) (value : Bool) → x ≡ truth_number value → x ≤ℤ pos 1
at-most x true is = let e : x ≡ pos 1 = is in omega (arith, ints, e)
at-most x false is = let e : x ≡ pos 0 = is in omega (arith, ints, e)

module _ (u v : ℕ) (same : Bool) (equal least most : Linear) (form : Form) (equal-is : equal ≡ link_form u v same) (least-is : least ≡ record { terms = (u, negsuc 0) ∷ []; constant = pos 0 })
    (most-is : most ≡ record { terms = (u, pos 1) ∷ []; constant = negsuc 0 }) (form-is : form ≡ And (Literal (Eq equal) ∷ Literal (Le least) ∷ Literal (Le most) ∷ [])) where
  abbrev parts : List Form
  parts = Literal (Eq equal) ∷ Literal (Le least) ∷ Literal (Le most) ∷ []

  made : (point : List ℤ) → AreLinked u v same point → truth point form ≡ true
  made point linked =
      let first = to_eq point equal (ap (value_at point) equal-is ∙ solves point u v same linked.value linked.first linked.second) in
      let second = to_le point least (of_least (value_at point least) (variable_at point u) (value_down point least u (pos 0) least-is) (at-least (variable_at point u) linked.value linked.first)) in
      let third = to_le point most (of_most (value_at point most) (variable_at point u) (value_up point most u (negsuc 0) most-is) (at-most (variable_at point u) linked.value linked.first)) in
      ap (truth point) form-is ∙ truth-And point parts ∙ from_both (truth point (Literal (Eq equal))) (truth point (Literal (Le least)) && (truth point (Literal (Le most)) && true)) first
      (from_both (truth point (Literal (Le least))) (truth point (Literal (Le most)) && true) second (from_both (truth point (Literal (Le most))) true third refl))

  linked_by : (point : List ℤ) → value_at point equal ≡ pos 0 → (variable_at point u ≡ pos 0) ⊎ (variable_at point u ≡ pos 1) → AreLinked u v same point
  linked_by point none (inl is) = record { value = false; first = is; second = solved point u v same false (sym (ap (value_at point) equal-is) ∙ none) is }
  linked_by point none (inr is) = record { value = true; first = is; second = solved point u v same true (sym (ap (value_at point) equal-is) ∙ none) is }

  only : (point : List ℤ) → truth point form ≡ true → AreLinked u v same point
  only point h =
      let one = both_true (truth point (Literal (Eq equal))) (truth point (Literal (Le least)) && (truth point (Literal (Le most)) && true)) (sym (ap (truth point) form-is ∙ truth-And point parts) ∙ h) in
      let two = both_true (truth point (Literal (Le least))) (truth point (Literal (Le most)) && true) one.1 in
      let three = both_true (truth point (Literal (Le most))) true two.1 in
      linked_by point (from_eq point equal one.0) (zero-or-one (variable_at point u)
      (least_of (value_at point least) (variable_at point u) (value_down point least u (pos 0) least-is) (from_le point least two.0))
      (most_of (value_at point most) (variable_at point u) (value_up point most u (negsuc 0) most-is) (from_le point most three.0)))

  pub three_literals : IsLinkForm u v same form
  three_literals = record { made = made; only = only }

-- the other way round

twice : (b : Bool) → b ≡ not (not b)
twice true = refl
twice false = refl

turned : (u v : ℕ) (same : Bool) (point : List ℤ) → AreLinked u v same point → AreLinked v u same point
turned u v true point linked = record { value = linked.value; first = linked.second; second = linked.first }
turned u v false point linked = record { value = not linked.value; first = linked.second; second = linked.first ∙ ap truth_number (twice linked.value) }

pub turned_form : (u v : ℕ) (same : Bool) (form : Form) → IsLinkForm v u same form → IsLinkForm u v same form
turned_form u v same form is = record { made = λ point linked. is.made point (turned u v same point linked); only = λ point h. turned v u same point (is.only point h) }

pub turned_made : {E : Type 0} (u v : ℕ) (same : Bool) (made : Result (Option Form) E) → IfOk made (λ form. IfSome form (IsLinkForm v u same)) → IfOk made (λ form. IfSome form (IsLinkForm u v same))
turned_made u v same (Ok (Some form)) is = turned_form u v same form is
turned_made u v same (Ok None) is = tt
turned_made u v same (Err e) is = tt

-- one more mark

pub set_marked : (xs : List Bool) (i w : ℕ) → slice_get (slice_set xs i true) w ≡ Some true → (slice_get xs w ≡ Some true) ⊎ (w ≡ i)
set_marked [] i w h = absurd (cc)
set_marked (x ∷ xs) zero zero h = inr refl
set_marked (x ∷ xs) zero (suc w) h = inl h
set_marked (x ∷ xs) (suc i) zero h = inl h
set_marked (x ∷ xs) (suc i) (suc w) h = by_case (set_marked xs i w h) where
  by_case : (slice_get xs w ≡ Some true) ⊎ (w ≡ i) → (slice_get xs w ≡ Some true) ⊎ (suc w ≡ suc i)
  by_case (inl at) = inl at
  by_case (inr is) = inr (ap suc is)

-- what two functions need

pub ruleset equations = (equation_one, equation_zero)

-- two parts of a list
pub two_parts : (parts : List Form) (f g : Form) → length parts ≡ 2 → f ≡ get_or parts 0 f → g ≡ get_or parts 1 g → parts ≡ f ∷ g ∷ []
two_parts [] f g long one other = absurd (omega (arith, long))
two_parts (x ∷ []) f g long one other = absurd (omega (arith, long))
two_parts (x ∷ y ∷ []) f g long one other = ap (λ (a : Form). a ∷ y ∷ []) (sym one) ∙ ap (λ (b : Form). f ∷ b ∷ []) (sym other)
two_parts (x ∷ y ∷ z ∷ parts) f g long one other = absurd (omega (arith, long))
