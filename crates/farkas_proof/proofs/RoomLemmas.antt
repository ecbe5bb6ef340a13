-- A tree that is sound where literals need room is sound where they need none.
use Rattle.std.proofs.Common.{◌≡◌, ◌+◌, ℕ, suc, List, [], ◌∷◌, ◌++◌, map, take, drop, length, refl, ap, sym, ◌∙◌, subst, true, false, Bool, ◌&&◌}
use Rattle.std.specs.Prelude.{pos, int_le, slice_index_or}
use Rattle.std.specs.List.{list_all}
use Rattle.lin_atoms.specs.declared.lit.Lit.{Lit}
use Rattle.lin_atoms.specs.declared.lit.Lit.TheVariants.{Le}
use Rattle.lin_atoms.specs.declared.form.Form.{Form}
use Rattle.refutation_trees.specs.Combination.{are_multipliers, combined, is_divided_by, one_minus}
use Rattle.int_rows.specs.Ready.{rounded}
use Rattle.refutation_trees.specs.Flatten.{disjunctions, literals}
use Rattle.refutation_trees.specs.Refutation.{Finding, Illegal, Judge, Sound, Wide, checked, each_part, followed_by, form_end, has_parts, has_quotient, is_refutation, is_sound, judge_step, judged, judged_at, new_variable, quotient_at}
use Rattle.refutation_trees.specs.declared.tree.Refutation.{Refutation, map-Refutation}
use Rattle.refutation_trees.specs.declared.tree.Refutation.TheOpen.{Refutation-F}
use Rattle.refutation_trees.specs.declared.tree.Refutation.TheViews.{roll-Refutation}
use Rattle.refutation_trees.specs.declared.tree.Refutation.TheFolds.{fold-roll-Refutation, ind-Refutation}

all_any : (lits : List Lit) → list_all (λ (l : Lit). true) lits ≡ true
all_any [] = refl
all_any (l ∷ lits) = all_any lits

kept-checked : (legal room : Bool) (at n : ℕ) (below below' : Finding) → (below ≡ Sound n → below' ≡ Sound n) → checked legal room at below ≡ Sound n → checked legal true at below' ≡ Sound n
kept-checked true true at n below below' f h = f h
kept-checked true false at n below below' f h = absurd (cc)
kept-checked false room at n below below' f h = absurd (cc)

kept-followed : (first first' : Finding) (judge judge' : ℕ → Finding) (n : ℕ) → ((m : ℕ) → first ≡ Sound m → first' ≡ Sound m) → ((m : ℕ) → judge m ≡ Sound n → judge' m ≡ Sound n) → followed_by first judge ≡ Sound n → followed_by first' judge' ≡ Sound n
kept-followed (Sound m) first' judge judge' n f g h = ap (λ (x : Finding). followed_by x judge') (f m refl) ∙ g m h
kept-followed (Illegal m) first' judge judge' n f g h = absurd (cc)
kept-followed (Wide m) first' judge judge' n f g h = absurd (cc)

abbrev Stays : (Lit → Bool) → ℕ → Refutation → Type 0
Stays room end tree = (lits : List Lit) (cases : List (List Form)) (at n : ℕ) → judged_at room end tree lits cases at ≡ Sound n → judged_at (λ (l : Lit). true) end tree lits cases at ≡ Sound n

abbrev Sub : (Lit → Bool) → ℕ → Type 0
Sub room end = (tree : Refutation) × Stays room end tree

abbrev judges : (room has : Lit → Bool) (end : ℕ) → List (Sub room end) → List Judge
judges room has end es = map (judged_at has end) (map (λ (e : Sub room end). e.0) es)

same_count : (room : Lit → Bool) (end : ℕ) (es : List (Sub room end)) → length (judges room room end es) ≡ length (judges room (λ (l : Lit). true) end es)
same_count room end [] = refl
same_count room end (e ∷ es) = ap suc (same_count room end es)

parts_stay : (room : Lit → Bool) (end : ℕ) (es : List (Sub room end)) (parts : List Form) (which : ℕ) (lits : List Lit) (cases : List (List Form)) (at n : ℕ)
    → each_part (judges room room end es) parts which lits cases at ≡ Sound n → each_part (judges room (λ (l : Lit). true) end es) parts which lits cases at ≡ Sound n
parts_stay room end [] parts which lits cases at n h = h
parts_stay room end (e ∷ es) [] which lits cases at n h = h
parts_stay room end (e ∷ es) (p ∷ parts) which lits cases at n h =
    kept-followed (judged_at room end e.0 (lits ++ literals p) (take which cases ++ (disjunctions p ++ drop (which + 1) cases)) at) _ (each_part (judges room room end es) parts which lits cases) (each_part (judges room (λ (l : Lit). true) end es) parts which lits cases) n
    (λ m. e.1 (lits ++ literals p) (take which cases ++ (disjunctions p ++ drop (which + 1) cases)) at m) (λ m. parts_stay room end es parts which lits cases m n) h

node_stays : (room : Lit → Bool) (end : ℕ) (y : Refutation-F (Sub room end)) (lits : List Lit) (cases : List (List Form)) (at n : ℕ)
    → judge_step room end (map-Refutation Refutation Judge (judged_at room end) (map-Refutation (Sub room end) Refutation (λ e. e.0) y)) lits cases at ≡ Sound n
    → judge_step (λ (l : Lit). true) end (map-Refutation Refutation Judge (judged_at (λ (l : Lit). true) end) (map-Refutation (Sub room end) Refutation (λ e. e.0) y)) lits cases at ≡ Sound n
node_stays room end (Refutation-F.Leaf ms) lits cases at n h = h
node_stays room end (Refutation-F.Round ms d e) lits cases at n h =
    let derived = Le (rounded d (combined lits ms)) in
    kept-checked (are_multipliers lits ms && (int_le (pos 1) d && is_divided_by d (combined lits ms))) (room derived) at n (judged_at room end e.0 (lits ++ derived ∷ []) cases (at + 1)) (judged_at (λ (l : Lit). true) end e.0 (lits ++ derived ∷ []) cases (at + 1)) (e.1 (lits ++ derived ∷ []) cases (at + 1) n) h
node_stays room end (Refutation-F.Split lin e f) lits cases at n h =
    let below = lits ++ Le lin ∷ [] in
    let above = lits ++ Le (one_minus lin) ∷ [] in
    kept-checked true (room (Le lin) && room (Le (one_minus lin))) at n (followed_by (judged_at room end e.0 below cases (at + 1)) (judged_at room end f.0 above cases)) (followed_by (judged_at (λ (l : Lit). true) end e.0 below cases (at + 1)) (judged_at (λ (l : Lit). true) end f.0 above cases))
    (kept-followed (judged_at room end e.0 below cases (at + 1)) (judged_at (λ (l : Lit). true) end e.0 below cases (at + 1)) (judged_at room end f.0 above cases) (judged_at (λ (l : Lit). true) end f.0 above cases) n (λ m. e.1 below cases (at + 1) m) (λ m. f.1 above cases m n)) h
node_stays room end (Refutation-F.Cases which es) lits cases at n h =
    let parts = slice_index_or cases which [] in
    ap (λ k. checked (has_parts cases which k) true at (each_part (judges room (λ (l : Lit). true) end es) parts which lits cases (at + 1))) (sym (same_count room end es))
    ∙ kept-checked (has_parts cases which (length (judges room room end es))) true at n (each_part (judges room room end es) parts which lits cases (at + 1)) (each_part (judges room (λ (l : Lit). true) end es) parts which lits cases (at + 1)) (parts_stay room end es parts which lits cases (at + 1) n) h
node_stays room end (Refutation-F.Quotient i e) lits cases at n h =
    let q = new_variable end lits in
    let new = lits ++ quotient_at lits i q in
    ap (λ b. checked (has_quotient lits i q) b at (judged_at (λ (l : Lit). true) end e.0 new cases (at + 1))) (all_any (quotient_at lits i q))
    ∙ kept-checked (has_quotient lits i q) (list_all room (quotient_at lits i q)) at n (judged_at room end e.0 new cases (at + 1)) (judged_at (λ (l : Lit). true) end e.0 new cases (at + 1)) (e.1 new cases (at + 1) n) h

from_node : (room : Lit → Bool) (end : ℕ) (x : Refutation-F Refutation)
    → ((lits : List Lit) (cases : List (List Form)) (at n : ℕ) → judge_step room end (map-Refutation Refutation Judge (judged_at room end) x) lits cases at ≡ Sound n → judge_step (λ (l : Lit). true) end (map-Refutation Refutation Judge (judged_at (λ (l : Lit). true) end) x) lits cases at ≡ Sound n)
    → Stays room end (roll-Refutation x)
from_node room end x f lits cases at n h =
    ap (λ (j : Judge). j lits cases at) (fold-roll-Refutation Judge (judge_step (λ (l : Lit). true) end) x) ∙ f lits cases at n (sym (ap (λ (j : Judge). j lits cases at) (fold-roll-Refutation Judge (judge_step room end) x)) ∙ h)

stays : (room : Lit → Bool) (end : ℕ) (tree : Refutation) → Stays room end tree
stays room end = ind-Refutation (Stays room end) (λ x y is. subst (λ z. Stays room end (roll-Refutation z)) is (from_node room end _ (node_stays room end y)))

sound_is : (f : Finding) → is_sound f ≡ true → (n : ℕ) × (f ≡ Sound n)
sound_is (Sound n) h = (n, refl)
sound_is (Illegal n) h = absurd (cc)
sound_is (Wide n) h = absurd (cc)

pub legal_without : (room : Lit → Bool) (form : Form) (tree : Refutation) → is_sound (judged room form tree) ≡ true → is_refutation form tree ≡ true
legal_without room form tree h =
    let is = sound_is (judged room form tree) h in
    ap is_sound (stays room (form_end form) tree (literals form) (disjunctions form) 0 is.0 is.1)
