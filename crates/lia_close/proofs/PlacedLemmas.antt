-- Sound trees are put together from sound trees below them.
use Rattle.std.proofs.Common.{◌≡◌, ℕ, zero, suc, ◌+◌, List, [], ◌∷◌, ◌++◌, map, length, refl, ap, sym, ◌∙◌, true, false, Bool, ◌==◌, ◌&&◌, Some}
use Rattle.std.specs.Prelude.{ℤ, pos, int_le, slice_get, slice_index_or}
use Rattle.std.specs.List.{list_all}
use Rattle.std.specs.Option.{option_map_or}
use Rattle.std.proofs.lemmas.Bool.{and_from, eq-eqb}
use Rattle.std.proofs.lemmas.List.{length-map}
use denote.Hole.Carrier.{roll}
use Rattle.lin_atoms.specs.Denial.{lit_fits}
use Rattle.lin_atoms.specs.Linear.{Linear}
use Rattle.lin_atoms.specs.declared.lit.Lit.{Lit}
use Rattle.lin_atoms.specs.declared.lit.Lit.TheVariants.{Le}
use Rattle.lin_atoms.specs.declared.form.Form.{Form}
use Rattle.int_rows.specs.Ready.{rounded}
use Rattle.refutation_trees.specs.Combination.{are_multipliers, combined, is_above_zero, is_divided_by, one_minus}
use Rattle.refutation_trees.specs.Refutation.{Finding, Judge, Sound, Illegal, Wide, checked, each_part, followed_by, has_parts, has_quotient, is_sound, judge_step, judged_at, new_variable, quotient_at}
use Rattle.refutation_trees.specs.declared.tree.Refutation.{Refutation, map-Refutation}
use Rattle.refutation_trees.specs.declared.tree.Refutation.TheOpen.{Refutation-F}
use Rattle.refutation_trees.specs.declared.tree.Refutation.TheViews.{Round, Split, Cases, Quotient, roll-Refutation}
use Rattle.refutation_trees.specs.declared.tree.Refutation.TheVariants.{Leaf, rolls-Cases, rolls-Quotient, rolls-Round, rolls-Split}
use Rattle.refutation_trees.specs.declared.tree.Refutation.TheFolds.{fold-roll-Refutation}
use Rattle.lia_close.specs.Placed.{AreSoundAt, IsSoundAt, Place, in_part, with_known}

-- what is found in each kind of node
judged-leaf : (end : ℕ) (lits : List Lit) (cases : List (List Form)) (at : ℕ) (ms : List (ℕ × ℤ)) → judged_at lit_fits end (Leaf ms) lits cases at ≡ checked (are_multipliers lits ms && is_above_zero (combined lits ms)) true at (Sound (at + 1))
unfolding roll-Refutation roll
judged-leaf end lits cases at ms = ap (λ (j : Judge). j lits cases at) (fold-roll-Refutation Judge (judge_step lit_fits end) (Refutation-F.Leaf ms))

judged-roll : (end : ℕ) (lits : List Lit) (cases : List (List Form)) (at : ℕ) (tree : Refutation) (node : Refutation-F Refutation) → roll-Refutation node ≡ tree → judged_at lit_fits end tree lits cases at ≡ judge_step lit_fits end (map-Refutation Refutation Judge (judged_at lit_fits end) node) lits cases at
judged-roll end lits cases at tree node e = ap (λ (t : Refutation). judged_at lit_fits end t lits cases at) (sym e) ∙ ap (λ (j : Judge). j lits cases at) (fold-roll-Refutation Judge (judge_step lit_fits end) node)

sound-of : (legal room : Bool) (at : ℕ) (below : Finding) → legal ≡ true → room ≡ true → is_sound below ≡ true → is_sound (checked legal room at below) ≡ true
sound-of true true at below l r s = s
sound-of true false at below l r s = absurd (cc)
sound-of false room at below l r s = absurd (cc)

sound-then : (first : Finding) (judge : ℕ → Finding) → is_sound first ≡ true → ((n : ℕ) → is_sound (judge n) ≡ true) → is_sound (followed_by first judge) ≡ true
sound-then (Sound n) judge h k = k n
sound-then (Illegal n) judge h k = absurd (cc)
sound-then (Wide n) judge h k = absurd (cc)

pub sound-leaf : (end : ℕ) (place : Place) (ms : List (ℕ × ℤ)) → are_multipliers place.known ms ≡ true → is_above_zero (combined place.known ms) ≡ true → IsSoundAt end place (Leaf ms)
sound-leaf end place ms legal above at = ap is_sound (judged-leaf end place.known place.cases at ms) ∙ sound-of (are_multipliers place.known ms && is_above_zero (combined place.known ms)) true at (Sound (at + 1)) (and_from _ _ legal above) refl refl

pub sound-round : (end : ℕ) (place : Place) (ms : List (ℕ × ℤ)) (d : ℤ) (sub : Refutation) → are_multipliers place.known ms ≡ true → int_le (pos 1) d ≡ true → is_divided_by d (combined place.known ms) ≡ true
    → lit_fits (Le (rounded d (combined place.known ms))) ≡ true → IsSoundAt end (with_known place (Le (rounded d (combined place.known ms)) ∷ [])) sub → IsSoundAt end place (Round ms d sub)
sound-round end place ms d sub legal positive divides room is at =
    let derived = Le (rounded d (combined place.known ms)) in
    ap is_sound (judged-roll end place.known place.cases at (Round ms d sub) (Refutation-F.Round ms d sub) (rolls-Round ms d sub)) ∙ sound-of (are_multipliers place.known ms && (int_le (pos 1) d && is_divided_by d (combined place.known ms))) (lit_fits derived) at (judged_at lit_fits end sub (place.known ++ derived ∷ []) place.cases (at + 1))
    (and_from _ _ legal (and_from _ _ positive divides)) room (is (at + 1))

pub sound-split : (end : ℕ) (place : Place) (lin : Linear) (below above : Refutation) → lit_fits (Le lin) ≡ true → lit_fits (Le (one_minus lin)) ≡ true
    → IsSoundAt end (with_known place (Le lin ∷ [])) below → IsSoundAt end (with_known place (Le (one_minus lin) ∷ [])) above → IsSoundAt end place (Split lin below above)
sound-split end place lin below above low high b a at =
    let first = judged_at lit_fits end below (place.known ++ Le lin ∷ []) place.cases (at + 1) in
    let second = judged_at lit_fits end above (place.known ++ Le (one_minus lin) ∷ []) place.cases in
    ap is_sound (judged-roll end place.known place.cases at (Split lin below above) (Refutation-F.Split lin below above) (rolls-Split lin below above)) ∙ sound-of true (lit_fits (Le lin) && lit_fits (Le (one_minus lin))) at (followed_by first second) refl (and_from _ _ low high) (sound-then first second (b (at + 1)) a)

pub sound-quotient : (end : ℕ) (place : Place) (lit : ℕ) (sub : Refutation) → has_quotient place.known lit (new_variable end place.known) ≡ true → list_all lit_fits (quotient_at place.known lit (new_variable end place.known)) ≡ true
    → IsSoundAt end (with_known place (quotient_at place.known lit (new_variable end place.known))) sub → IsSoundAt end place (Quotient lit sub)
sound-quotient end place lit sub legal room is at =
    let q = new_variable end place.known in
    ap is_sound (judged-roll end place.known place.cases at (Quotient lit sub) (Refutation-F.Quotient lit sub) (rolls-Quotient lit sub)) ∙ sound-of (has_quotient place.known lit q) (list_all lit_fits (quotient_at place.known lit q)) at (judged_at lit_fits end sub (place.known ++ quotient_at place.known lit q) place.cases (at + 1)) legal room (is (at + 1))

-- as many trees as places
pub length-sound : (end : ℕ) (places : List Place) (trees : List Refutation) → AreSoundAt end places trees → length places ≡ length trees
length-sound end [] [] is = refl
length-sound end [] (tree ∷ trees) is = absurd is
length-sound end (place ∷ places) [] is = absurd is
length-sound end (place ∷ places) (tree ∷ trees) is = ap suc (length-sound end places trees is.1)

sound-parts : (end : ℕ) (place : Place) (which : ℕ) (parts : List Form) (subs : List Refutation) → AreSoundAt end (map (in_part which place) parts) subs → (at : ℕ) → is_sound (each_part (map (judged_at lit_fits end) subs) parts which place.known place.cases at) ≡ true
sound-parts end place which [] [] is at = refl
sound-parts end place which [] (sub ∷ subs) is at = absurd is
sound-parts end place which (part ∷ parts) [] is at = absurd is
sound-parts end place which (part ∷ parts) (sub ∷ subs) is at = sound-then _ (each_part (map (judged_at lit_fits end) subs) parts which place.known place.cases) (is.0 at) (sound-parts end place which parts subs is.1)

some-part : (cases : List (List Form)) (which : ℕ) (parts : List Form) → slice_get cases which ≡ Some parts → slice_index_or cases which [] ≡ parts
some-part [] which parts e = absurd (cc)
some-part (c ∷ cases) zero parts e = cc
some-part (c ∷ cases) (suc which) parts e = some-part cases which parts e

pub sound-cases : (end : ℕ) (place : Place) (which : ℕ) (parts : List Form) (subs : List Refutation) → slice_get place.cases which ≡ Some parts → AreSoundAt end (map (in_part which place) parts) subs → IsSoundAt end place (Cases which subs)
sound-cases end place which parts subs there is at =
    let many : length parts ≡ length (map (judged_at lit_fits end) subs) = sym (length-map parts (in_part which place)) ∙ length-sound end (map (in_part which place) parts) subs is ∙ sym (length-map subs (judged_at lit_fits end)) in
    let has : has_parts place.cases which (length (map (judged_at lit_fits end) subs)) ≡ true = ap (λ o. option_map_or (λ ps. length ps == length (map (judged_at lit_fits end) subs)) o false) there ∙ eq-eqb _ _ many in
    let same : slice_index_or place.cases which [] ≡ parts = some-part place.cases which parts there in
    ap is_sound (judged-roll end place.known place.cases at (Cases which subs) (Refutation-F.Cases which subs) (rolls-Cases which subs)) ∙ sound-of (has_parts place.cases which (length (map (judged_at lit_fits end) subs))) true at _ has refl
    (ap (λ (ps : List Form). is_sound (each_part (map (judged_at lit_fits end) subs) ps which place.known place.cases (at + 1))) same ∙ sound-parts end place which parts subs is (at + 1))
