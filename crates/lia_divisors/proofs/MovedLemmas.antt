-- A tree without quotients and cases that is legal by what a node knows is legal where all is known.
use Rattle.std.proofs.Common.{◌≡◌, ℕ, zero, suc, ◌+◌, List, [], ◌∷◌, ◌++◌, length, refl, ap, ap₂, sym, ◌∙◌, subst, arith, true, false, Bool, ◌&&◌, Option, None, Some, ◌⊎◌, inl, inr}
use Rattle.std.specs.Prelude.{ℤ, pos, int_le, slice_get}
use Rattle.std.specs.List.{list_all}
use Rattle.std.specs.Option.{option_map_or}
use Rattle.std.proofs.lemmas.Bool.{and_from}
use denote.Hole.Carrier.{roll}
use Rattle.lin_atoms.specs.Algebra.{added, scaled}
use Rattle.lin_atoms.specs.Denial.{linear_of, lit_fits}
use Rattle.lin_atoms.specs.Linear.{Linear, is_short, of_constant}
use Rattle.lin_atoms.specs.declared.lit.Lit.{Lit}
use Rattle.lin_atoms.specs.declared.lit.Lit.TheVariants.{Le}
use Rattle.lin_atoms.specs.declared.form.Form.{Form}
use Rattle.lin_atoms.proofs.Public.{both_true}
use Rattle.int_rows.specs.Ready.{rounded}
use Rattle.refutation_trees.specs.Combination.{are_multipliers, combined, is_above_zero, is_divided_by, is_multiplier, linear_at, may_be_multiplied, one_minus}
use Rattle.refutation_trees.specs.Flatten.{disjunctions, literals}
use Rattle.refutation_trees.specs.Refutation.{Finding, Judge, Sound, Illegal, Wide, checked, followed_by, form_end, is_sound, judge_step, judged, judged_at}
use Rattle.refutation_trees.specs.declared.tree.Refutation.{Refutation, map-Refutation}
use Rattle.refutation_trees.specs.declared.tree.Refutation.TheOpen.{Refutation-F}
use Rattle.refutation_trees.specs.declared.tree.Refutation.TheViews.{roll-Refutation}
use Rattle.refutation_trees.specs.declared.tree.Refutation.TheVariants.{Leaf, rolls-Round, rolls-Split}
use Rattle.refutation_trees.specs.declared.tree.Refutation.TheFolds.{fold-roll-Refutation, ind-Refutation}
use Rattle.lia_close.specs.Placed.{IsSoundAt, Place, with_known}
use Rattle.lia_close.proofs.PlacedLemmas.{sound-leaf, sound-round, sound-split}
use Rattle.lia_divisors.specs.machinery.Plain.{is_plain, plain_step}
use Rattle.lia_divisors.specs.machinery.There.{StandsFor}

-- a multiplier of what stands in its place
found-at : (known : List Lit) (k : ℤ) (o : Option Lit) → option_map_or (may_be_multiplied k) o false ≡ true → (lit : Lit) × (o ≡ Some lit) × (may_be_multiplied k lit ≡ true)
found-at known k None may = absurd (cc)
found-at known k (Some lit) may = (lit, refl, may)

one-moved : (filled known : List Lit) (m : ℕ × ℤ) → StandsFor filled known → is_multiplier filled m ≡ true → slice_get known m.0 ≡ slice_get filled m.0
one-moved filled known m stands legal =
    let both = both_true (is_short m.1) _ legal in
    let found = found-at known m.1 (slice_get filled m.0) both.1 in
    stands m.0 m.1 found.0 found.1 found.2 ∙ sym found.1

pub all-moved : (filled known : List Lit) (ms : List (ℕ × ℤ)) → StandsFor filled known → are_multipliers filled ms ≡ true → (are_multipliers known ms ≡ true) × (combined known ms ≡ combined filled ms)
all-moved filled known [] stands legal = (refl, refl)
all-moved filled known (m ∷ ms) stands legal =
    let both = both_true (is_multiplier filled m) _ legal in
    let rest = all-moved filled known ms stands both.1 in
    let same = one-moved filled known m stands both.0 in
    let here : is_multiplier known m ≡ true = ap (λ (o : Option Lit). is_short m.1 && option_map_or (may_be_multiplied m.1) o false) same ∙ both.0 in
    (and_from _ _ here rest.0, ap₂ (λ (l r : Linear). added (scaled m.1 l) r) (ap (λ (o : Option Lit). option_map_or linear_of o (of_constant (pos 0))) same) rest.1)

-- one literal more at the end of both
last-found : (xs : List Lit) (x : Lit) (p : ℕ) (y : Lit) → slice_get (xs ++ x ∷ []) p ≡ Some y → ((p ≡ length xs) × (x ≡ y)) ⊎ (slice_get xs p ≡ Some y)
last-found [] x zero y found = let same : x ≡ y = cc in inl (refl, same)
last-found [] x (suc p) y found = inr found
last-found (z ∷ xs) x zero y found = inr found
last-found (z ∷ xs) x (suc p) y found = by (last-found xs x p y found) where
  by : ((p ≡ length xs) × (x ≡ y)) ⊎ (slice_get xs p ≡ Some y) → ((suc p ≡ suc (length xs)) × (x ≡ y)) ⊎ (slice_get xs p ≡ Some y)
  by (inl both) = inl (ap suc both.0, both.1)
  by (inr there) = inr there

get-last : (xs : List Lit) (x : Lit) → slice_get (xs ++ x ∷ []) (length xs) ≡ Some x
get-last [] x = refl
get-last (y ∷ xs) x = get-last xs x

get-more : (xs : List Lit) (x y : Lit) (p : ℕ) → slice_get xs p ≡ Some y → slice_get (xs ++ x ∷ []) p ≡ Some y
get-more [] x y p found = absurd (cc)
get-more (z ∷ xs) x y zero found = found
get-more (z ∷ xs) x y (suc p) found = get-more xs x y p found

stands-last : (filled known : List Lit) (lit : Lit) → length filled ≡ length known → StandsFor filled known → StandsFor (filled ++ lit ∷ []) (known ++ lit ∷ [])
stands-last filled known lit long stands p k one found may = by (last-found filled lit p one found) where
  by : ((p ≡ length filled) × (lit ≡ one)) ⊎ (slice_get filled p ≡ Some one) → slice_get (known ++ lit ∷ []) p ≡ Some one
  by (inl both) = ap (slice_get (known ++ lit ∷ [])) (both.0 ∙ long) ∙ get-last known lit ∙ ap (λ (l : Lit). Some l) both.1
  by (inr there) = get-more known lit one p (stands p k one there may)

longer : (xs : List Lit) (x : Lit) → length (xs ++ x ∷ []) ≡ suc (length xs)
longer [] x = refl
longer (y ∷ xs) x = ap suc (longer xs x)

-- what a sound node says
rolls-leaf : (ms : List (ℕ × ℤ)) → roll-Refutation (Refutation-F.Leaf ms) ≡ Leaf ms
unfolding roll-Refutation roll
rolls-leaf ms = refl

long-last : (filled known : List Lit) (lit : Lit) → length filled ≡ length known → length (filled ++ lit ∷ []) ≡ length (known ++ lit ∷ [])
long-last filled known lit long = longer filled lit ∙ ap suc long ∙ sym (longer known lit)

sound-both : (first : Finding) (judge : ℕ → Finding) → is_sound (followed_by first judge) ≡ true → (n : ℕ) × ((is_sound first ≡ true) × (is_sound (judge n) ≡ true))
sound-both (Sound n) judge h = (n, (refl, h))
sound-both (Illegal n) judge h = absurd (cc)
sound-both (Wide n) judge h = absurd (cc)

sound-says : (legal room : Bool) (at : ℕ) (below : Finding) → is_sound (checked legal room at below) ≡ true → (legal ≡ true) × (room ≡ true) × (is_sound below ≡ true)
sound-says true true at below sound = (refl, refl, sound)
sound-says true false at below sound = absurd (cc)
sound-says false room at below sound = absurd (cc)

-- what is sound by what the node knows, among literals that stand in its place, is sound where all is known
abbrev Moves : ℕ → Refutation → Type 0
Moves e tree = is_plain tree ≡ true → (end at : ℕ) (filled : List Lit) (cases : List (List Form)) (place : Place) → StandsFor filled place.known → length filled ≡ length place.known
    → is_sound (judged_at lit_fits e tree filled cases at) ≡ true → IsSoundAt end place tree

abbrev Sub : ℕ → Type 0
Sub e = (tree : Refutation) × Moves e tree

node-moves : (e : ℕ) (y : Refutation-F (Sub e)) → plain_step (map-Refutation Refutation Bool is_plain (map-Refutation (Sub e) Refutation (λ s. s.0) y)) ≡ true
    → (end at : ℕ) (filled : List Lit) (cases : List (List Form)) (place : Place) → StandsFor filled place.known → length filled ≡ length place.known
    → is_sound (judge_step lit_fits e (map-Refutation Refutation Judge (judged_at lit_fits e) (map-Refutation (Sub e) Refutation (λ s. s.0) y)) filled cases at) ≡ true
    → IsSoundAt end place (roll-Refutation (map-Refutation (Sub e) Refutation (λ s. s.0) y))
node-moves e (Refutation-F.Leaf ms) plain end at filled cases place stands long sound =
    let says = sound-says (are_multipliers filled ms && is_above_zero (combined filled ms)) true at (Sound (at + 1)) sound in
    let both = both_true (are_multipliers filled ms) _ says.0 in
    let moved = all-moved filled place.known ms stands both.0 in
    subst (IsSoundAt end place) (sym (rolls-leaf ms)) (sound-leaf end place ms moved.0 (ap is_above_zero moved.1 ∙ both.1))
node-moves e (Refutation-F.Round ms d s) plain end at filled cases place stands long sound =
    let own = combined filled ms in
    let derived = Le (rounded d own) in
    let says = sound-says (are_multipliers filled ms && (int_le (pos 1) d && is_divided_by d own)) (lit_fits derived) at (judged_at lit_fits e s.0 (filled ++ derived ∷ []) cases (at + 1)) sound in
    let both = both_true (are_multipliers filled ms) _ says.0 in
    let divides = both_true (int_le (pos 1) d) _ both.1 in
    let moved = all-moved filled place.known ms stands both.0 in
    let below = s.1 plain end (at + 1) (filled ++ derived ∷ []) cases (with_known place (derived ∷ [])) (stands-last filled place.known derived long stands) (long-last filled place.known derived long) says.2 in
    subst (IsSoundAt end place) (sym (rolls-Round ms d s.0))
    (sound-round end place ms d s.0 moved.0 divides.0 (ap (is_divided_by d) moved.1 ∙ divides.1) (ap (λ (l : Linear). lit_fits (Le (rounded d l))) moved.1 ∙ says.1)
    (subst (λ (l : Linear). IsSoundAt end (with_known place (Le (rounded d l) ∷ [])) s.0) (sym moved.1) below))
node-moves e (Refutation-F.Split lin s u) plain end at filled cases place stands long sound =
    let low = Le lin in
    let high = Le (one_minus lin) in
    let first = judged_at lit_fits e s.0 (filled ++ low ∷ []) cases (at + 1) in
    let second = judged_at lit_fits e u.0 (filled ++ high ∷ []) cases in
    let says = sound-says true (lit_fits low && lit_fits high) at (followed_by first second) sound in
    let room = both_true (lit_fits low) _ says.1 in
    let plains = both_true (is_plain s.0) _ plain in
    let both-sides = sound-both first second says.2 in
    let below = s.1 plains.0 end (at + 1) (filled ++ low ∷ []) cases (with_known place (low ∷ [])) (stands-last filled place.known low long stands) (long-last filled place.known low long) both-sides.1.0 in
    let above = u.1 plains.1 end both-sides.0 (filled ++ high ∷ []) cases (with_known place (high ∷ [])) (stands-last filled place.known high long stands) (long-last filled place.known high long) both-sides.1.1 in
    subst (IsSoundAt end place) (sym (rolls-Split lin s.0 u.0)) (sound-split end place lin s.0 u.0 room.0 room.1 below above)
node-moves e (Refutation-F.Cases which subs) plain end at filled cases place stands long sound = absurd (cc)
node-moves e (Refutation-F.Quotient lit s) plain end at filled cases place stands long sound = absurd (cc)

from-node : (e : ℕ) (x : Refutation-F Refutation)
    → (plain_step (map-Refutation Refutation Bool is_plain x) ≡ true → (end at : ℕ) (filled : List Lit) (cases : List (List Form)) (place : Place) → StandsFor filled place.known → length filled ≡ length place.known
    → is_sound (judge_step lit_fits e (map-Refutation Refutation Judge (judged_at lit_fits e) x) filled cases at) ≡ true → IsSoundAt end place (roll-Refutation x))
    → Moves e (roll-Refutation x)
from-node e x f plain end at filled cases place stands long sound =
    f (sym (fold-roll-Refutation Bool plain_step x) ∙ plain) end at filled cases place stands long
    (sym (ap (λ (j : Judge). is_sound (j filled cases at)) (fold-roll-Refutation Judge (judge_step lit_fits e) x)) ∙ sound)

moves : (e : ℕ) (tree : Refutation) → Moves e tree
moves e = ind-Refutation (Moves e) (λ x y is. subst (λ z. Moves e (roll-Refutation z)) is (from-node e _ (node-moves e y)))

-- a tree that is sound for a conjunction of what the node knows
pub tree-moved : (form : Form) (tree : Refutation) (filled : List Lit) (end : ℕ) (place : Place) → literals form ≡ filled → is_plain tree ≡ true → StandsFor filled place.known → length filled ≡ length place.known
    → is_sound (judged lit_fits form tree) ≡ true → IsSoundAt end place tree
tree-moved form tree filled end place own plain stands long sound =
    moves (form_end form) tree plain end 0 filled (disjunctions form) place stands long
    (subst (λ (ls : List Lit). is_sound (judged_at lit_fits (form_end form) tree ls (disjunctions form) 0) ≡ true) own sound)
