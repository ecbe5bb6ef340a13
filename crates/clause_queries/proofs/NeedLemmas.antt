-- Uses without those that are needless.
use Rattle.std.proofs.Common.{◌≡◌, ℕ, ◌+◌, ◌-◌, ◌<◌, ◌≤◌, List, [], ◌∷◌, ◌++◌, drop, take, length, get_or, Bool, true, false, ◌&&◌, not, Some, None, refl, ap, sym, ◌∙◌, subst, arith}
use Rattle.std.specs.Prelude.{ℤ, Option, slice_get, ◌==◌}
use Rattle.std.specs.List.{All, Contains, list_all, list_any}
use Rattle.std.proofs.lemmas.List.{append-nil, append_assoc}
use Rattle.std.proofs.lemmas.List.Elements.{All-append, All-contains, All-contains_itself, All-weaker, Contains-append_left, Contains-append_right}
use Rattle.std.proofs.lemmas.List.Folds.{list_all-append}
use Rattle.std.proofs.lemmas.List.Sums.{AllPass-from_list_all, list_all-from_AllPass}
use mathlib.Core.Bool.{true≢false}
use Rattle.lin_atoms.specs.Truth.{lit_truth}
use Rattle.lin_atoms.specs.declared.lit.Lit.{Lit}
use Rattle.clause_form.specs.declared.atom.Atom.{Atom}
use Rattle.clause_form.specs.declared.clause.Clause.{Clause}
use Rattle.cube_forms.specs.Cubes.{cube_holds}
use Rattle.lemma_frames.specs.declared.framed.Framed.{Framed}
use Rattle.chc_tokens.specs.Instances.{accepts, token_body_at}
use Rattle.chc_tokens.specs.Tokens.{is_passed}
use Rattle.chc_tokens.specs.declared.used.Used.{Used}
use Rattle.book_rules.specs.Areas.{is_among}
use Rattle.book_rules.specs.Same.{same_lit}
use Rattle.book_rules.proofs.ListLemmas.{both_true, either_is, from_both}
use Rattle.book_rules.proofs.Public.{cubes_equal}
use Rattle.clause_queries.specs.Uses.{AreUses, uses, uses_from, uses_on}
use Rattle.clause_queries.specs.machinery.Needs.{AreEnough, is_stronger}
use Rattle.clause_queries.proofs.BoolLemmas.{number_is}
use Rattle.clause_queries.proofs.LoopLemmas.{rest-end, rest-is}

-- a cube of some of another cube's literals holds what that one holds

same-is : (lit other : Lit) → same_lit lit other ≡ true → lit ≡ other
same-is lit other is = let lists : lit ∷ [] ≡ other ∷ [] = (cubes_equal (lit ∷ []) (other ∷ [])).0 (from_both (same_lit lit other) true is refl) in cc

true-among : (tuple : List ℤ) (lit : Lit) (whole : List Lit) → is_among whole lit ≡ true → cube_holds tuple whole ≡ true → lit_truth tuple lit ≡ true
true-among tuple lit [] h held = absurd (true≢false (sym h))
true-among tuple lit (other ∷ whole) h held =
    let both = both_true (lit_truth tuple other) _ held in
    either_is (same_lit lit other) (is_among whole lit) (lit_truth tuple lit ≡ true) (λ is. ap (lit_truth tuple) (same-is lit other is) ∙ both.0) (λ rest. true-among tuple lit whole rest both.1) h

part-holds : (tuple : List ℤ) (part whole : List Lit) → list_all (is_among whole) part ≡ true → cube_holds tuple whole ≡ true → cube_holds tuple part ≡ true
part-holds tuple [] whole h held = refl
part-holds tuple (lit ∷ part) whole h held =
    let both = both_true (is_among whole lit) _ h in
    from_both (lit_truth tuple lit) _ (true-among tuple lit whole both.0 held) (part-holds tuple part whole both.1 held)

accepts-weaker : (part whole : List Lit) (atom : Option (ℕ × List ℤ)) → list_all (is_among whole) part ≡ true → accepts part atom ≡ true → accepts whole atom ≡ true
accepts-weaker part whole None h is = is
accepts-weaker part whole (Some atom) h is = by (cube_holds atom.1 whole) refl
  where
    by : (held : Bool) → cube_holds atom.1 whole ≡ held → not held ≡ true
    by true held = absurd (true≢false (sym is ∙ ap not (part-holds atom.1 part whole h held)))
    by false held = refl

-- what a stronger use accepts

stronger-passes : (point : List ℤ) (clause : Clause) (one other : Used) → is_stronger one other ≡ true → is_passed point clause one ≡ true → is_passed point clause other ≡ true
stronger-passes point clause one other h is =
    let both = both_true (one.atom == other.atom) _ h in
    let there : slice_get (token_body_at point clause) one.atom ≡ slice_get (token_body_at point clause) other.atom = ap (slice_get (token_body_at point clause)) (number_is one.atom other.atom both.0) in
    accepts-weaker one.lemma other.lemma (slice_get (token_body_at point clause) other.atom) both.1 (ap (accepts one.lemma) (sym there) ∙ is)

needless-passes : (point : List ℤ) (clause : Clause) (used : List Used) (other : Used) → list_any (λ (u : Used). is_stronger u other) used ≡ true → list_all (is_passed point clause) used ≡ true → is_passed point clause other ≡ true
needless-passes point clause [] other h passed = absurd (true≢false (sym h))
needless-passes point clause (u ∷ used) other h passed =
    let both = both_true (is_passed point clause u) _ passed in
    either_is (is_stronger u other) (list_any (λ (v : Used). is_stronger v other) used) (is_passed point clause other ≡ true) (λ is. stronger-passes point clause u other is both.0)
    (λ rest. needless-passes point clause used other rest both.1) h

pub needless : (used : List Used) (other : Used) → list_any (λ (u : Used). is_stronger u other) used ≡ true → AreEnough (used ++ other ∷ []) used
needless used other h = record {
  each = All-weaker (Contains used) (Contains (used ++ other ∷ [])) (λ x c. Contains-append_left used (other ∷ []) x c) used (All-contains_itself used);
  enough = λ clause point passed. list_all-append (is_passed point clause) used (other ∷ [])
      ∙ from_both (list_all (is_passed point clause) used) _ passed (from_both (is_passed point clause other) true (needless-passes point clause used other h passed) refl);
}

-- laws

pub enough-self : (xs : List Used) → AreEnough xs xs
enough-self xs = record { each = All-contains_itself xs; enough = λ clause point h. h }

pub enough-then : (xs ys zs : List Used) → AreEnough xs ys → AreEnough ys zs → AreEnough xs zs
enough-then xs ys zs a b = record {
  each = All-weaker (Contains ys) (Contains xs) (λ z c. All-contains (Contains xs) ys z a.each c) zs b.each;
  enough = λ clause point h. a.enough clause point (b.enough clause point h);
}

pub enough-both : (xs ys us vs : List Used) → AreEnough xs ys → AreEnough us vs → AreEnough (xs ++ us) (ys ++ vs)
enough-both xs ys us vs a b = record {
  each = All-append (Contains (xs ++ us)) ys vs (All-weaker (Contains xs) (Contains (xs ++ us)) (λ x c. Contains-append_left xs us x c) ys a.each)
      (All-weaker (Contains us) (Contains (xs ++ us)) (λ x c. Contains-append_right xs us x c) vs b.each);
  enough = λ clause point h.
      let both = both_true (list_all (is_passed point clause) ys) _ (sym (list_all-append (is_passed point clause) ys vs) ∙ h) in
      list_all-append (is_passed point clause) xs us ∙ from_both (list_all (is_passed point clause) xs) _ (a.enough clause point both.0) (b.enough clause point both.1);
}

pub enough-turned : (xs ys : List Used) → AreEnough (xs ++ ys) (ys ++ xs)
enough-turned xs ys = record {
  each = All-append (Contains (xs ++ ys)) ys xs (All-weaker (Contains ys) (Contains (xs ++ ys)) (λ x c. Contains-append_right xs ys x c) ys (All-contains_itself ys))
      (All-weaker (Contains xs) (Contains (xs ++ ys)) (λ x c. Contains-append_left xs ys x c) xs (All-contains_itself xs));
  enough = λ clause point h.
      let both = both_true (list_all (is_passed point clause) ys) _ (sym (list_all-append (is_passed point clause) ys xs) ∙ h) in
      list_all-append (is_passed point clause) xs ys ∙ from_both (list_all (is_passed point clause) xs) _ both.1 both.0;
}

-- one more is taken, the last of those that are left
pub one-taken : (whole used left new : List Used) (one : Used) → AreEnough whole (used ++ (left ++ one ∷ [])) → AreEnough (used ++ one ∷ []) new → AreEnough whole (new ++ left)
one-taken whole used left new one before taken =
    let turned = enough-both used used (left ++ one ∷ []) (one ∷ left) (enough-self used) (enough-turned left (one ∷ [])) in
    let placed : used ++ one ∷ left ≡ (used ++ one ∷ []) ++ left = sym (append_assoc used (one ∷ []) left) in
    let moved = subst (λ (us : List Used). AreEnough us (new ++ left)) (sym placed) (enough-both (used ++ one ∷ []) new left left taken (enough-self left)) in
    enough-then whole (used ++ (left ++ one ∷ [])) (new ++ left) before (enough-then (used ++ (left ++ one ∷ [])) (used ++ one ∷ left) (new ++ left) turned moved)

-- none is left
pub all-taken : (whole used left rest : List Used) (n : ℕ) → rest ≡ take (n - 1) left → n ≡ 0 → left ≡ rest ++ [] → AreEnough whole (used ++ left) → AreEnough whole used
all-taken whole used left rest n rest_is none items before =
    let less : n - 1 ≡ 0 = omega (arith, none) in
    let gone : rest ≡ [] = rest_is ∙ ap (λ (k : ℕ). take k left) less in
    let empty : left ≡ [] = items ∙ append-nil rest ∙ gone in
    subst (AreEnough whole) (ap (λ (us : List Used). used ++ us) empty ∙ append-nil used) before

-- those of an atom are gone through twice
pub both-taken : (used here start given newest new : List Used) → start ≡ [] → given ≡ here → AreEnough (start ++ given) newest → AreEnough (used ++ newest) new → AreEnough (used ++ here) new
both-taken used here start given newest new empty are earlier later =
    let whole : start ++ given ≡ here = ap (λ (us : List Used). us ++ given) empty ∙ are in
    enough-then (used ++ here) (used ++ newest) new (enough-both used used here newest (enough-self used) (subst (λ (us : List Used). AreEnough us newest) whole earlier)) later

-- those of one atom after another
pub atom-taken : (k : ℕ) (fs : List Framed) (atoms : List Atom) (i : ℕ) (atom : Atom) (items new whole : List Used) → i < length atoms → atom ≡ get_or atoms i atom → AreEnough (items ++ uses_on k i atom.pred fs) new
    → AreEnough whole (items ++ uses_from k fs i (drop i atoms)) → AreEnough whole (new ++ uses_from k fs (i + 1) (drop (i + 1) atoms))
atom-taken k fs atoms i atom items new whole within is taken before =
    let here = uses_on k i atom.pred fs in
    let rest = uses_from k fs (i + 1) (drop (i + 1) atoms) in
    let opened : items ++ uses_from k fs i (drop i atoms) ≡ (items ++ here) ++ rest = ap (λ (left : List Atom). items ++ uses_from k fs i left) (rest-is atoms i atom within is) ∙ sym (append_assoc items here rest) in
    enough-then whole ((items ++ here) ++ rest) (new ++ rest) (subst (AreEnough whole) opened before) (enough-both (items ++ here) new rest rest taken (enough-self rest))

pub atoms-taken : (k : ℕ) (fs : List Framed) (atoms : List Atom) (i : ℕ) (items whole : List Used) → length atoms ≤ i → AreEnough whole (items ++ uses_from k fs i (drop i atoms)) → AreEnough whole items
atoms-taken k fs atoms i items whole past before =
    subst (AreEnough whole) (ap (λ (left : List Atom). items ++ uses_from k fs i left) (rest-end atoms i past) ∙ append-nil items) before

-- of a frame

pub are-uses : (k : ℕ) (fs : List Framed) (clause : Clause) (used : List Used) → AreEnough (uses k fs clause) used → AreUses k fs clause used
are-uses k fs clause used are = record { each = are.each; enough = λ point h. are.enough clause point h }

-- what holds of each lemma of F(k) holds of those that are used
pub of-uses : (k : ℕ) (fs : List Framed) (clause : Clause) (used : List Used) (test : Used → Bool) → AreUses k fs clause used → list_all test (uses k fs clause) ≡ true → list_all test used ≡ true
of-uses k fs clause used test are h =
    let each : All (λ (u : Used). test u ≡ true) (uses k fs clause) = AllPass-from_list_all test (uses k fs clause) h in
    list_all-from_AllPass test used (All-weaker (Contains (uses k fs clause)) (λ (u : Used). test u ≡ true) (λ u c. All-contains (λ (v : Used). test v ≡ true) (uses k fs clause) u each c) used are.each)
