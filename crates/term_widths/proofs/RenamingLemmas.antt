-- Linear forms under other names.
--
-- The way is through values. A coefficient is what a form is worth at a point that is 1 at one variable, less what it is worth
-- where all are 0. What a form is worth rests on what its names are worth, so two namings that keep the same things apart give
-- forms with the same coefficients under other names, and these are narrow or wide together.
use Rattle.std.proofs.Common.{◌≡◌, ℕ, ◌+◌, ◌<◌, List, [], ◌∷◌, ◌++◌, length, Bool, true, false, not, ◌&&◌, inl, inr, refl, ap, sym, ◌∙◌, arith}
use Rattle.std.specs.Prelude.{slice_get, Option, Some, None, option_map, ℤ, pos, nat_abs, ◌+ℤ◌, ◌*ℤ◌, ◌-ℤ◌}
use Rattle.std.specs.List.{list_all}
use Rattle.std.proofs.lemmas.Int.{ints}
use Rattle.std.proofs.lemmas.Bool.{cases_eq}
use Rattle.term_tree.specs.declared.node.Node.{Node}
use Rattle.term_tree.specs.Arena.{IsArena, has_parts_below}
use Rattle.term_tree.specs.Subterms.{IsSubterm, inside, itself}
use Rattle.term_tree.proofs.Public.{arena_below, part_below, there_is}
use Rattle.lin_atoms.specs.Linear.{Linear, are_ordered, are_short, is_short, lin_all, sum_at, value_at, variable_at}
use Rattle.lin_atoms.specs.Algebra.{negated_terms}
use Rattle.lin_atoms.proofs.Public.{both_true, collected-ordered, ordered}
use Rattle.linear_terms.specs.Linear.{Naming, auxiliary_form, is_narrow, less, linear_of}
use Rattle.linear_terms.specs.Width.{first_of_two, first_where, first_wide, is_wide_comparison, is_wide_relation, is_wide_term}
use Rattle.linear_terms.proofs.LinearLemmas.{less_value, variable_value}
use Rattle.term_forms.proofs.LegalLemmas.{firsts_same}
use Rattle.term_widths.specs.machinery.Apart.{AreAlike, Occurs}
use Rattle.term_widths.proofs.AlikeSideLemmas.{relation_alike}
use Rattle.term_widths.proofs.OrderLemmas.{linear_rises}
use Rattle.term_widths.proofs.UnitLemmas.{short_by_units, times_zero, unit, unit_other, unit_self, units_are_short, worth_behind, worth_of_first}
use Rattle.term_widths.proofs.WorthLemmas.{Agree, linear_worth}

nowhere : (v : ℕ) → variable_at [] v ≡ pos 0
nowhere v = refl

sum_nowhere : (ts : List (ℕ × ℤ)) → sum_at [] ts ≡ pos 0
sum_nowhere [] = refl
sum_nowhere (t ∷ ts) =
    let here : t.1 *ℤ variable_at [] t.0 ≡ pos 0 = ap (λ (x : ℤ). t.1 *ℤ x) (nowhere t.0) ∙ times_zero t.1 in
    let rest : sum_at [] ts ≡ pos 0 = sum_nowhere ts in
    omega (arith, ints)

-- a name of the term under this naming
pub record IsNoName (nodes : List Node) (top : ℕ) (naming : Naming) (v : ℕ) : Type 0 where
  pub own : (binder : ℕ) → Occurs nodes top binder → naming.own binder ≡ v → ⊥
  pub auxiliary : (id : ℕ) → IsSubterm nodes top id → naming.auxiliary id ≡ Some v → ⊥

-- the forms are worth the same at points that give the names the same values
abbrev pub Follows : List Node → ℕ → Naming → Naming → Linear → Linear → Type 0
Follows nodes top a b F G = (p q : List ℤ) → Agree p q nodes top a b → value_at p F ≡ value_at q G

-- 1. Every linear form of a definition is in order.
pub linear_ordered : (naming : Naming) (nodes : List Node) → IsArena nodes → (id : ℕ) → id < length nodes → are_ordered 0 (linear_of naming nodes id).terms ≡ true
linear_ordered naming nodes arena id within = linear_rises naming nodes arena (id + 1) id (omega arith) within

-- 2. What isn't a name has no coefficient.
auxiliary_apart : (v : ℕ) (o : Option ℕ) → (o ≡ Some v → ⊥) → value_at (unit v) (auxiliary_form o) ≡ value_at [] (auxiliary_form o)
auxiliary_apart v None differ = refl
auxiliary_apart v (Some w) differ =
    variable_value (unit v) w ∙ unit_other v w (λ e. differ (ap (λ (k : ℕ). Some k) (sym e))) ∙ sym (nowhere w) ∙ sym (variable_value [] w)

apart_agrees : (nodes : List Node) (top : ℕ) (naming : Naming) (v : ℕ) → IsNoName nodes top naming v → Agree (unit v) [] nodes top naming naming
apart_agrees nodes top naming v apart = record {
  own = λ binder occurs. unit_other v (naming.own binder) (λ e. apart.own binder occurs (sym e)) ∙ sym (nowhere (naming.own binder));
  auxiliary = λ id sub. auxiliary_apart v (naming.auxiliary id) (apart.auxiliary id sub);
}

pub no_coefficient : (nodes : List Node) (top : ℕ) (naming : Naming) (F : Linear) (v : ℕ) → Follows nodes top naming naming F F → IsNoName nodes top naming v → sum_at (unit v) F.terms ≡ pos 0
no_coefficient nodes top naming F v follows apart =
    let same : sum_at (unit v) F.terms +ℤ F.constant ≡ sum_at [] F.terms +ℤ F.constant = follows (unit v) [] (apart_agrees nodes top naming v apart) in
    let none : sum_at [] F.terms ≡ pos 0 = sum_nowhere F.terms in
    omega (arith, ints)

by_test : (test : ℕ → Bool) (from : ℕ) (t : ℕ × ℤ) (ts : List (ℕ × ℤ)) → are_ordered from (t ∷ ts) ≡ true → ((v : ℕ) → test v ≡ false → sum_at (unit v) (t ∷ ts) ≡ pos 0)
    → (((v : ℕ) → test v ≡ false → sum_at (unit v) ts ≡ pos 0) → list_all (λ u. test u.0) ts ≡ true) → (b : Bool) → test t.0 ≡ b → (b && list_all (λ u. test u.0) ts) ≡ true
by_test test from t ts h none rest true passes =
    rest (λ v fails. sym (worth_behind v t ts (λ same. differs (sym passes ∙ ap test (sym same) ∙ fails))) ∙ none v fails)
  where
    differs : true ≡ false → ⊥
    differs e = absurd (cc)
by_test test from t ts h none rest false fails =
    let whole : 0 < nat_abs t.1 = (ordered from t ts h).whole in
    let zero_here : t.1 ≡ pos 0 = sym (worth_of_first from t ts h) ∙ none t.0 fails in
    let size : nat_abs t.1 ≡ 0 = ap nat_abs zero_here in
    absurd (omega (arith, whole, size))

-- so each variable of a form passes a test that all names pass
terms_pass : (test : ℕ → Bool) (from : ℕ) (ts : List (ℕ × ℤ)) → are_ordered from ts ≡ true → ((v : ℕ) → test v ≡ false → sum_at (unit v) ts ≡ pos 0) → list_all (λ t. test t.0) ts ≡ true
terms_pass test from [] h none = refl
terms_pass test from (t ∷ ts) h none = by_test test from t ts h none (λ less. terms_pass test (t.0 + 1) ts (ordered from t ts h).rest less) (test t.0) refl

pub only_names : (nodes : List Node) (top : ℕ) (naming : Naming) (test : ℕ → Bool) → IsArena nodes → ((v : ℕ) → test v ≡ false → IsNoName nodes top naming v)
    → (id : ℕ) → id < length nodes → IsSubterm nodes top id → lin_all test (linear_of naming nodes id) ≡ true
only_names nodes top naming test arena each id within sub =
    terms_pass test 0 (linear_of naming nodes id).terms (linear_ordered naming nodes arena id within)
    (λ v fails. no_coefficient nodes top naming (linear_of naming nodes id) v (λ p q agree. linear_worth p q nodes top naming naming arena agree (id + 1) id (omega arith) within sub) (each v fails))

-- 3. Where names go there and back, a coefficient under b is one under a.
module _ (nodes : List Node) (top : ℕ) (a b : Naming) (alike : AreAlike nodes top a b) where
  back_own : (binder : ℕ) → Occurs nodes top binder → alike.there (alike.back (b.own binder)) ≡ b.own binder
  back_own binder occurs = ap alike.there (sym (alike.back_is.own binder occurs)) ∙ sym (alike.there_is.own binder occurs)

  back_auxiliary : (id v : ℕ) → b.auxiliary id ≡ Some v → alike.there (alike.back v) ≡ v
  back_auxiliary id v named =
      let first : a.auxiliary id ≡ Some (alike.back v) = alike.back_is.auxiliary id ∙ ap (option_map alike.back) named in
      let second : b.auxiliary id ≡ Some (alike.there (alike.back v)) = alike.there_is.auxiliary id ∙ ap (option_map alike.there) first in
      let same : Some v ≡ Some (alike.there (alike.back v)) = sym named ∙ second in
      cc

  -- a number that doesn't come back is no name of b
  no_return : (v : ℕ) → (alike.there (alike.back v) ≡ v → ⊥) → IsNoName nodes top b v
  no_return v differ = record {
    own = λ binder occurs same. differ (ap (λ (k : ℕ). alike.there (alike.back k)) (sym same) ∙ back_own binder occurs ∙ same);
    auxiliary = λ id sub named. differ (back_auxiliary id v named);
  }

  -- two names of one thing have the same values at the points that are 1 at v, and at what v goes back to
  point_same : (v : ℕ) → alike.there (alike.back v) ≡ v → (w u : ℕ) → u ≡ alike.there w → w ≡ alike.back u → variable_at (unit (alike.back v)) w ≡ variable_at (unit v) u
  point_same v returns w u forth back = elim (cases_eq u v) [
    | inl same ↦
        ap (variable_at (unit (alike.back v))) (back ∙ ap alike.back same) ∙ unit_self (alike.back v) ∙ sym (unit_self v) ∙ sym (ap (variable_at (unit v)) same)
    | inr differ ↦
        unit_other (alike.back v) w (λ e. differ (forth ∙ ap alike.there (sym e) ∙ returns)) ∙ sym (unit_other v u (λ e. differ (sym e)))
  ]

  auxiliary_same : (v : ℕ) → alike.there (alike.back v) ≡ v → (x y : Option ℕ) → y ≡ option_map alike.there x → x ≡ option_map alike.back y
      → value_at (unit (alike.back v)) (auxiliary_form x) ≡ value_at (unit v) (auxiliary_form y)
  auxiliary_same v returns None None forth back = refl
  auxiliary_same v returns None (Some u) forth back = absurd (cc)
  auxiliary_same v returns (Some w) None forth back = absurd (cc)
  auxiliary_same v returns (Some w) (Some u) forth back =
      let x : u ≡ alike.there w = cc in
      let y : w ≡ alike.back u = cc in
      variable_value (unit (alike.back v)) w ∙ point_same v returns w u x y ∙ sym (variable_value (unit v) u)

  -- the points that are 1 at v under b, and at what v goes back to under a
  points_agree : (v : ℕ) → alike.there (alike.back v) ≡ v → Agree (unit (alike.back v)) (unit v) nodes top a b
  points_agree v returns = record {
    own = λ binder occurs. point_same v returns (a.own binder) (b.own binder) (alike.there_is.own binder occurs) (alike.back_is.own binder occurs);
    auxiliary = λ id sub. auxiliary_same v returns (a.auxiliary id) (b.auxiliary id) (alike.there_is.auxiliary id) (alike.back_is.auxiliary id);
  }

  narrow_from : (F G : Linear) → are_ordered 0 F.terms ≡ true → are_ordered 0 G.terms ≡ true → Follows nodes top a b F G → Follows nodes top b b G G → is_narrow F ≡ true → is_narrow G ≡ true
  narrow_from F G rise_f rise_g follows own narrow =
      let parts = both_true (are_short F.terms) (is_short F.constant) narrow in
      let nothing : Agree [] [] nodes top a b = record { own = λ binder occurs. refl; auxiliary = λ id sub. same_nowhere (a.auxiliary id) (b.auxiliary id) } in
      let level : sum_at [] F.terms +ℤ F.constant ≡ sum_at [] G.terms +ℤ G.constant = follows [] [] nothing in
      let none_f : sum_at [] F.terms ≡ pos 0 = sum_nowhere F.terms in
      let none_g : sum_at [] G.terms ≡ pos 0 = sum_nowhere G.terms in
      let constants : G.constant ≡ F.constant = omega (arith, ints) in
      ap (λ (x : Bool). x && is_short G.constant)
      (short_by_units 0 G.terms rise_g (λ v. elim (cases_eq (alike.there (alike.back v)) v) [
        | inl returns ↦
            let here : sum_at (unit (alike.back v)) F.terms +ℤ F.constant ≡ sum_at (unit v) G.terms +ℤ G.constant = follows (unit (alike.back v)) (unit v) (points_agree v returns) in
            let same : sum_at (unit v) G.terms ≡ sum_at (unit (alike.back v)) F.terms = omega (arith, ints) in
            ap is_short same ∙ units_are_short 0 F.terms rise_f parts.0 (alike.back v)
        | inr differ ↦ ap is_short (no_coefficient nodes top b G v own (no_return v differ))
      ]))
      ∙ ap is_short constants ∙ parts.1
    where
      same_nowhere : (x y : Option ℕ) → value_at [] (auxiliary_form x) ≡ value_at [] (auxiliary_form y)
      same_nowhere None None = refl
      same_nowhere None (Some w) = sym (variable_value [] w ∙ nowhere w)
      same_nowhere (Some w) None = variable_value [] w ∙ nowhere w
      same_nowhere (Some w) (Some x) = variable_value [] w ∙ nowhere w ∙ sym (nowhere x) ∙ sym (variable_value [] x)

turned : (nodes : List Node) (top : ℕ) (a b : Naming) → AreAlike nodes top a b → AreAlike nodes top b a
turned nodes top a b alike = record { there = alike.back; back = alike.there; there_is = alike.back_is; back_is = alike.there_is }

both_ways : (x y : Bool) → (x ≡ true → y ≡ true) → (y ≡ true → x ≡ true) → x ≡ y
both_ways true y f g = sym (f refl)
both_ways false true f g = g refl
both_ways false false f g = refl

module _ (nodes : List Node) (top : ℕ) (a b : Naming) (arena : IsArena nodes) (alike : AreAlike nodes top a b) where
  -- 4. Forms and differences of forms are narrow together.
  pub narrow_alike : (id : ℕ) → id < length nodes → IsSubterm nodes top id → is_narrow (linear_of a nodes id) ≡ is_narrow (linear_of b nodes id)
  narrow_alike id within sub =
      both_ways (is_narrow (linear_of a nodes id)) (is_narrow (linear_of b nodes id))
      (narrow_from nodes top a b alike (linear_of a nodes id) (linear_of b nodes id) (linear_ordered a nodes arena id within) (linear_ordered b nodes arena id within)
      (λ p q agree. linear_worth p q nodes top a b arena agree (id + 1) id (omega arith) within sub) (λ p q agree. linear_worth p q nodes top b b arena agree (id + 1) id (omega arith) within sub))
      (narrow_from nodes top b a (turned nodes top a b alike) (linear_of b nodes id) (linear_of a nodes id) (linear_ordered b nodes arena id within) (linear_ordered a nodes arena id within)
      (λ p q agree. linear_worth p q nodes top b a arena agree (id + 1) id (omega arith) within sub) (λ p q agree. linear_worth p q nodes top a a arena agree (id + 1) id (omega arith) within sub))

  abbrev difference : Naming → ℕ → ℕ → Linear
  difference naming x y = less (linear_of naming nodes x) (linear_of naming nodes y)

  difference_ordered : (naming : Naming) (x y : ℕ) → are_ordered 0 (difference naming x y).terms ≡ true
  difference_ordered naming x y = collected-ordered ((linear_of naming nodes x).terms ++ negated_terms (linear_of naming nodes y).terms)

  difference_worth : (p q : List ℤ) (c d : Naming) → Agree p q nodes top c d → (x y : ℕ) → x < length nodes → y < length nodes → IsSubterm nodes top x → IsSubterm nodes top y
      → value_at p (difference c x y) ≡ value_at q (difference d x y)
  difference_worth p q c d agree x y hx hy sx sy =
      let first : value_at p (linear_of c nodes x) ≡ value_at q (linear_of d nodes x) = linear_worth p q nodes top c d arena agree (x + 1) x (omega arith) hx sx in
      let second : value_at p (linear_of c nodes y) ≡ value_at q (linear_of d nodes y) = linear_worth p q nodes top c d arena agree (y + 1) y (omega arith) hy sy in
      less_value p (linear_of c nodes x) (linear_of c nodes y)
      ∙ ap (λ (m : ℤ). m -ℤ value_at p (linear_of c nodes y)) first ∙ ap (λ (m : ℤ). value_at q (linear_of d nodes x) -ℤ m) second
      ∙ sym (less_value q (linear_of d nodes x) (linear_of d nodes y))

  pub less_alike : (x y : ℕ) → x < length nodes → y < length nodes → IsSubterm nodes top x → IsSubterm nodes top y
      → is_narrow (less (linear_of a nodes x) (linear_of a nodes y)) ≡ is_narrow (less (linear_of b nodes x) (linear_of b nodes y))
  less_alike x y hx hy sx sy =
      both_ways (is_narrow (difference a x y)) (is_narrow (difference b x y))
      (narrow_from nodes top a b alike (difference a x y) (difference b x y) (difference_ordered a x y) (difference_ordered b x y)
      (λ p q agree. difference_worth p q a b agree x y hx hy sx sy) (λ p q agree. difference_worth p q b b agree x y hx hy sx sy))
      (narrow_from nodes top b a (turned nodes top a b alike) (difference b x y) (difference a x y) (difference_ordered b x y) (difference_ordered a x y)
      (λ p q agree. difference_worth p q b a agree x y hx hy sx sy) (λ p q agree. difference_worth p q a a agree x y hx hy sx sy))

  -- 5. Two tests that agree on all subterms find the same one first.
  pub wide_alike : (id : ℕ) → IsSubterm nodes top id → id < length nodes → is_wide_comparison a nodes id ≡ is_wide_comparison b nodes id
  wide_alike id sub within =
      let found = there_is nodes id within in
      let node : Node = found.0 in
      let is : slice_get nodes id ≡ Some node = found.1 in
      let below : has_parts_below id node ≡ true = arena_below nodes id node arena is in
      ap (is_wide_relation (linear_of a nodes)) is
      ∙ relation_alike (linear_of a nodes) (linear_of b nodes) node (λ x y hx hy.
      let less_x : x < id = part_below x id node below hx in
      let less_y : y < id = part_below y id node below hy in
      less_alike x y (omega arith) (omega arith) (inside x node sub is hx) (inside y node sub is hy))
      ∙ ap (is_wide_relation (linear_of b nodes)) (sym is)

  pub alike_judge : top < length nodes → first_wide a nodes top ≡ first_wide b nodes top
  alike_judge within =
      ap (λ (o : Option ℕ). first_of_two o (first_where (is_wide_comparison a nodes) nodes top))
      (firsts_same (is_wide_term a nodes) (is_wide_term b nodes) nodes top arena (λ k below there. ap not (narrow_alike k there below)) (top + 1) top (omega arith) within itself)
      ∙ ap (first_of_two (first_where (is_wide_term b nodes) nodes top))
      (firsts_same (is_wide_comparison a nodes) (is_wide_comparison b nodes) nodes top arena wide_alike (top + 1) top (omega arith) within itself)
