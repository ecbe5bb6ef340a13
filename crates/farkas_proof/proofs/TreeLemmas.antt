-- A sound tree leaves no point: by induction over the tree.
use Rattle.std.proofs.Common.{◌≡◌, ◌≤◌, ◌+◌, ℕ, suc, zero, List, [], ◌∷◌, ◌++◌, map, take, drop, length, refl, ap, sym, ◌∙◌, subst, arith, true, false, Bool, ◌&&◌, ◌||◌}
use Rattle.std.specs.Prelude.{ℤ, pos, int_le, slice_get, slice_index_or}
use Rattle.std.specs.List.{list_all, list_any}
use Rattle.std.specs.Option.{option_map_or}
use Rattle.std.proofs.lemmas.Bool.{eqb-true}
use Rattle.std.proofs.lemmas.List.Folds.{list_all-append}
use Rattle.lin_atoms.specs.Denial.{linear_of}
use Rattle.lin_atoms.specs.Linear.{value_at}
use Rattle.lin_atoms.specs.Truth.{is_below, lit_truth, truth}
use Rattle.lin_atoms.specs.declared.lit.Lit.{Lit}
use Rattle.lin_atoms.specs.declared.lit.Lit.TheVariants.{Le}
use Rattle.lin_atoms.specs.declared.form.Form.{Form}
use Rattle.lin_atoms.proofs.Public.{both_true}
use Rattle.refutation_trees.specs.Combination.{are_multipliers, combined, is_above_zero, is_divided_by, is_division, lits_end, one_minus, quotient, terms_end}
use Rattle.int_rows.specs.Ready.{rounded}
use Rattle.refutation_trees.specs.Flatten.{disjunctions, literals}
use Rattle.refutation_trees.specs.Refutation.{Finding, Sound, Illegal, Wide, HasNoPoint, Judge, checked, each_part, followed_by, form_end, has_parts, has_quotient, is_sound, judge_step, judged, judged_at, new_variable, quotient_at}
use Rattle.refutation_trees.specs.declared.tree.Refutation.{Refutation, map-Refutation}
use Rattle.refutation_trees.specs.declared.tree.Refutation.TheOpen.{Refutation-F}
use Rattle.refutation_trees.specs.declared.tree.Refutation.TheViews.{roll-Refutation}
use Rattle.refutation_trees.specs.declared.tree.Refutation.TheFolds.{fold-roll-Refutation, ind-Refutation}
use Rattle.refutation_trees.proofs.FormLemmas.{disjunctions_below, disjunctions_true, form_below, literals_true}
use Rattle.farkas_proof.proofs.QuotientLemmas.{cases_stay, lits_stay, quotient_known, quotient_of, with_value}
use Rattle.farkas_proof.proofs.SoundLemmas.{above_true, combined_low, le-true, leaf_low, rounded_low, true-le}

pub sound-checked : (legal room : Bool) (at : ℕ) (below : Finding) → is_sound (checked legal room at below) ≡ true → (legal ≡ true) × (room ≡ true) × (is_sound below ≡ true)
sound-checked true true at below h = (refl, refl, h)
sound-checked true false at below h = absurd (cc)
sound-checked false room at below h = absurd (cc)

pub sound-followed : (first : Finding) (judge : ℕ → Finding) → is_sound (followed_by first judge) ≡ true → (n : ℕ) × ((is_sound first ≡ true) × (is_sound (judge n) ≡ true))
sound-followed (Sound n) judge h = (n, (refl, h))
sound-followed (Illegal n) judge h = absurd (cc)
sound-followed (Wide n) judge h = absurd (cc)

pub all_taken : {X : Type 0} (p : X → Bool) (n : ℕ) (xs : List X) → list_all p xs ≡ true → list_all p (take n xs) ≡ true
all_taken p zero xs h = refl
all_taken p (suc n) [] h = refl
all_taken p (suc n) (x ∷ xs) h = let both = both_true (p x) _ h in ap (λ b. b && list_all p (take n xs)) both.0 ∙ all_taken p n xs both.1

pub all_dropped : {X : Type 0} (p : X → Bool) (n : ℕ) (xs : List X) → list_all p xs ≡ true → list_all p (drop n xs) ≡ true
all_dropped p zero xs h = h
all_dropped p (suc n) [] h = refl
all_dropped p (suc n) (x ∷ xs) h = all_dropped p n xs (both_true (p x) _ h).1

pub all_joined : {X : Type 0} (p : X → Bool) (xs ys : List X) → list_all p xs ≡ true → list_all p ys ≡ true → list_all p (xs ++ ys) ≡ true
all_joined p xs ys h t = list_all-append p xs ys ∙ ap (λ b. b && list_all p ys) h ∙ t

pub all_replaced : (p : List Form → Bool) (which : ℕ) (cases new : List (List Form)) → list_all p cases ≡ true → list_all p new ≡ true → list_all p (take which cases ++ (new ++ drop (which + 1) cases)) ≡ true
all_replaced p which cases new h t = all_joined p (take which cases) _ (all_taken p which cases h) (all_joined p new _ t (all_dropped p (which + 1) cases h))

-- the disjunction that is split
part_at : (p : List Form → Bool) (cases : List (List Form)) (which count : ℕ) → has_parts cases which count ≡ true → list_all p cases ≡ true
    → (p (slice_index_or cases which []) ≡ true) × (length (slice_index_or cases which []) ≡ count)
part_at p [] which count h t = absurd (cc)
part_at p (c ∷ cases) zero count h t = ((both_true (p c) _ t).0, eqb-true _ _ h)
part_at p (c ∷ cases) (suc which) count h t = part_at p cases which count h (both_true (p c) _ t).1

-- the literal whose quotient is named
lit_at : (p : Lit → Bool) (q : ℕ) (lits : List Lit) (i : ℕ) → option_map_or is_division (slice_get lits i) false ≡ true → list_all p lits ≡ true → lits_end lits ≤ q
    → (l : Lit) × ((slice_get lits i ≡ slice_get (l ∷ []) 0) × (p l ≡ true) × (is_division l ≡ true) × (terms_end (linear_of l).terms ≤ q))
lit_at p q [] i h t e = absurd (cc)
lit_at p q (l ∷ lits) zero h t e = (l, (refl, (both_true (p l) _ t).0, h, omega arith))
lit_at p q (l ∷ lits) (suc i) h t e = lit_at p q lits i h (both_true (p l) _ t).1 (omega arith)

-- no point where the tree stands
abbrev Leaves : (Lit → Bool) → ℕ → Refutation → Type 0
Leaves room end tree = (lits : List Lit) (cases : List (List Form)) (at : ℕ) → is_sound (judged_at room end tree lits cases at) ≡ true → list_all (list_all (is_below end)) cases ≡ true
    → (point : List ℤ) → list_all (lit_truth point) lits ≡ true → list_all (list_any (truth point)) cases ≡ true → ⊥

abbrev Sub : (Lit → Bool) → ℕ → Type 0
Sub room end = (tree : Refutation) × Leaves room end tree

abbrev judges : (room : Lit → Bool) (end : ℕ) → List (Sub room end) → List Judge
judges room end es = map (judged_at room end) (map (λ (e : Sub room end). e.0) es)

pub or_true : (a b : Bool) → (a || b) ≡ true → a ≡ false → b ≡ true
or_true true b h t = absurd (cc)
or_true false b h t = h

nothing_true : false ≡ true → ⊥
nothing_true h = cc

no_length : (n : ℕ) → suc n ≡ 0 → ⊥
no_length n h = omega (arith, h)

one_less : (m n : ℕ) → suc m ≡ suc n → m ≡ n
one_less m n h = omega (arith, h)

parts_leave : (room : Lit → Bool) (end : ℕ) (es : List (Sub room end)) (parts : List Form) (which : ℕ) (lits : List Lit) (cases : List (List Form)) (at : ℕ)
    → is_sound (each_part (judges room end es) parts which lits cases at) ≡ true → length parts ≡ length (judges room end es)
    → list_all (list_all (is_below end)) cases ≡ true → list_all (is_below end) parts ≡ true
    → (point : List ℤ) → list_all (lit_truth point) lits ≡ true → list_all (list_any (truth point)) cases ≡ true → list_any (truth point) parts ≡ true → ⊥
parts_leave room end [] [] which lits cases at h count b pb point l c t = nothing_true t
parts_leave room end [] (p ∷ parts) which lits cases at h count b pb point l c t = no_length (length parts) count
parts_leave room end (e ∷ es) [] which lits cases at h count b pb point l c t = nothing_true t
parts_leave room end (e ∷ es) (p ∷ parts) which lits cases at h count b pb point l c t =
    let followed = sound-followed (judged_at room end e.0 (lits ++ literals p) (take which cases ++ (disjunctions p ++ drop (which + 1) cases)) at) (each_part (judges room end es) parts which lits cases) h in
    let below = both_true (is_below end p) _ pb in
    let fewer : length parts ≡ length (judges room end es) = one_less (length parts) (length (judges room end es)) count in
    elim (truth point p) as (λ v. truth point p ≡ v → ⊥) [
      | true ↦ λ is. e.1 (lits ++ literals p) (take which cases ++ (disjunctions p ++ drop (which + 1) cases)) at followed.1.0
          (all_replaced (list_all (is_below end)) which cases (disjunctions p) b (disjunctions_below end p below.0)) point
          (all_joined (lit_truth point) lits (literals p) l (literals_true point p is))
          (all_replaced (list_any (truth point)) which cases (disjunctions p) c (disjunctions_true point p is))
      | false ↦ λ is. parts_leave room end es parts which lits cases followed.0 followed.1.1 fewer b below.1 point l c (or_true (truth point p) _ t is)
    ] refl

node_leaves : (room : Lit → Bool) (end : ℕ) (y : Refutation-F (Sub room end)) (lits : List Lit) (cases : List (List Form)) (at : ℕ)
    → is_sound (judge_step room end (map-Refutation Refutation Judge (judged_at room end) (map-Refutation (Sub room end) Refutation (λ e. e.0) y)) lits cases at) ≡ true → list_all (list_all (is_below end)) cases ≡ true
    → (point : List ℤ) → list_all (lit_truth point) lits ≡ true → list_all (list_any (truth point)) cases ≡ true → ⊥
node_leaves room end (Refutation-F.Leaf ms) lits cases at h b point l c =
    let is = sound-checked (are_multipliers lits ms && is_above_zero (combined lits ms)) true at (Sound (at + 1)) h in
    let both = both_true (are_multipliers lits ms) _ is.0 in
    leaf_low point (combined lits ms) both.1 (combined_low point lits ms both.0 l)
node_leaves room end (Refutation-F.Round ms d e) lits cases at h b point l c =
    let derived = Le (rounded d (combined lits ms)) in
    let is = sound-checked (are_multipliers lits ms && (int_le (pos 1) d && is_divided_by d (combined lits ms))) (room derived) at (judged_at room end e.0 (lits ++ derived ∷ []) cases (at + 1)) h in
    let both = both_true (are_multipliers lits ms) _ is.0 in
    let divides = both_true (int_le (pos 1) d) _ both.1 in
    let low = rounded_low point d (combined lits ms) (le-true (pos 1) d divides.0) divides.1 (combined_low point lits ms both.0 l) in
    e.1 (lits ++ derived ∷ []) cases (at + 1) is.2 b point (all_joined (lit_truth point) lits (derived ∷ []) l (ap (λ v. v && true) (true-le (value_at point (rounded d (combined lits ms))) (pos 0) low))) c
node_leaves room end (Refutation-F.Split lin e f) lits cases at h b point l c =
    let is = sound-checked true (room (Le lin) && room (Le (one_minus lin))) at (followed_by (judged_at room end e.0 (lits ++ Le lin ∷ []) cases (at + 1)) (judged_at room end f.0 (lits ++ Le (one_minus lin) ∷ []) cases)) h in
    let followed = sound-followed (judged_at room end e.0 (lits ++ Le lin ∷ []) cases (at + 1)) (judged_at room end f.0 (lits ++ Le (one_minus lin) ∷ []) cases) is.2 in
    elim (lit_truth point (Le lin)) as (λ v. lit_truth point (Le lin) ≡ v → ⊥) [
      | true ↦ λ t. e.1 (lits ++ Le lin ∷ []) cases (at + 1) followed.1.0 b point (all_joined (lit_truth point) lits (Le lin ∷ []) l (ap (λ v. v && true) t)) c
      | false ↦ λ t. f.1 (lits ++ Le (one_minus lin) ∷ []) cases followed.0 followed.1.1 b point (all_joined (lit_truth point) lits (Le (one_minus lin) ∷ []) l (ap (λ v. v && true) (above_true point lin t))) c
    ] refl
node_leaves room end (Refutation-F.Cases which es) lits cases at h b point l c =
    let parts = slice_index_or cases which [] in
    let is = sound-checked (has_parts cases which (length (judges room end es))) true at (each_part (judges room end es) parts which lits cases (at + 1)) h in
    let some = part_at (list_any (truth point)) cases which (length (judges room end es)) is.0 c in
    let below = part_at (list_all (is_below end)) cases which (length (judges room end es)) is.0 b in
    parts_leave room end es parts which lits cases (at + 1) is.2 some.1 b below.0 point l c some.0
node_leaves room end (Refutation-F.Quotient i e) lits cases at h b point l c =
    let q = new_variable end lits in
    let is = sound-checked (has_quotient lits i q) (list_all room (quotient_at lits i q)) at (judged_at room end e.0 (lits ++ quotient_at lits i q) cases (at + 1)) h in
    let some = both_true (option_map_or is_division (slice_get lits i) false) _ is.0 in
    let found = lit_at (lit_truth point) q lits i some.0 l (omega arith) in
    let there : quotient_at lits i q ≡ quotient q found.0 = ap (λ o. option_map_or (quotient q) o []) found.1.0 in
    let moved = with_value q (quotient_of found.0 point) point in
    let known : list_all (lit_truth moved) (quotient_at lits i q) ≡ true = ap (list_all (lit_truth moved)) there ∙ quotient_known q point found.0 found.1.2 found.1.3 found.1.1 in
    e.1 (lits ++ quotient_at lits i q) cases (at + 1) is.2 b moved (all_joined (lit_truth moved) lits _ (lits_stay q (quotient_of found.0 point) point lits (omega arith) l) known) (cases_stay end q (quotient_of found.0 point) point cases (omega arith) b c)

from_node : (room : Lit → Bool) (end : ℕ) (x : Refutation-F Refutation)
    → ((lits : List Lit) (cases : List (List Form)) (at : ℕ) → is_sound (judge_step room end (map-Refutation Refutation Judge (judged_at room end) x) lits cases at) ≡ true → list_all (list_all (is_below end)) cases ≡ true
    → (point : List ℤ) → list_all (lit_truth point) lits ≡ true → list_all (list_any (truth point)) cases ≡ true → ⊥)
    → Leaves room end (roll-Refutation x)
from_node room end x f lits cases at h = f lits cases at (sym (ap (λ (j : Judge). is_sound (j lits cases at)) (fold-roll-Refutation Judge (judge_step room end) x)) ∙ h)

pub leaves : (room : Lit → Bool) (end : ℕ) (tree : Refutation) → Leaves room end tree
leaves room end = ind-Refutation (Leaves room end) (λ x y is. subst (λ z. Leaves room end (roll-Refutation z)) is (from_node room end _ (node_leaves room end y)))

pub no_point : (room : Lit → Bool) (form : Form) (tree : Refutation) → is_sound (judged room form tree) ≡ true → HasNoPoint form
no_point room form tree h point =
    elim (truth point form) as (λ v. truth point form ≡ v → v ≡ false) [
      | false ↦ λ t. refl
      | true ↦ λ t. absurd (leaves room (form_end form) tree (literals form) (disjunctions form) 0 h (disjunctions_below (form_end form) form (form_below (form_end form) form (omega arith))) point (literals_true point form t) (disjunctions_true point form t))
    ] refl
