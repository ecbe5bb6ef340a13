-- A legal Open: each point of its cube is the atom's tuple in an instance whose head the parent holds and whose body is in
-- the frame below.
use Rattle.std.proofs.Common.{◌≡◌, ℕ, ◌+◌, ◌<◌, ◌≤◌, List, [], ◌∷◌, map, length, Bool, true, false, ◌&&◌, ◌||◌, not, Some, None, refl, ap, sym, ◌∙◌, arith}
use Rattle.std.specs.Prelude.{Option, ℤ, nat_le, nat_lt, ◌==◌, option_map}
use Rattle.std.specs.List.{list_all, list_any}
use Rattle.std.proofs.lemmas.Bool.Decides.{nat_tests}
use Rattle.std.proofs.lemmas.List.Folds.{list_all-append}
use mathlib.Core.Bool.{true≢false}
use Rattle.lin_atoms.specs.Linear.{variable_at}
use Rattle.lin_atoms.specs.Truth.{lit_truth, truth}
use Rattle.lin_atoms.specs.declared.lit.Lit.{Lit}
use Rattle.lin_atoms.proofs.Public.{form-agree}
use Rattle.term_tree.specs.declared.sort.Sort.{Sort}
use Rattle.clause_form.specs.System.{Clauses, is_clause, is_atom}
use Rattle.clause_form.specs.System.{is_head as is_head_of}
use Rattle.clause_form.specs.declared.atom.Atom.{Atom}
use Rattle.clause_form.specs.declared.clause.Clause.{Clause}
use Rattle.clause_form.specs.Kept.{Keeps}
use Rattle.clause_form.proofs.Public.{keeps, keeps_atom}
use Rattle.cube_forms.specs.Cubes.{cube_at, cube_holds, cube_is_below, lemma_at, tuple_at}
use Rattle.cube_forms.proofs.Public.{truth-cube_at, truth-lemma_at}
use Rattle.model_project.specs.Kept.{Kept}
use Rattle.model_project.specs.Projection.{IsProjection, Extends, is_kept}
use Rattle.book_rules.specs.Walks.{AllOf}
use Rattle.book_rules.specs.Instances.{atom_at}
use Rattle.book_rules.specs.Frames.{Framed, accepts, in_frame}
use Rattle.book_rules.specs.Queries.{args_of}
use Rattle.book_rules.specs.Areas.{is_among, cover, are_among, knows, is_area, first_place, projected_cube, lit_in_places, equations_from}
use Rattle.book_rules.specs.Proofs.{is_head}
use Rattle.book_rules.specs.State.{Obligation, holds_of}
use Rattle.book_rules.specs.Reached.{IsReached, has_places_of, have_places}
use Rattle.book_rules.proofs.ListLemmas.{both_true, from_both, all_weaken, any_false}
use Rattle.book_rules.proofs.FormLemmas.{among_true, covered_is_true}
use Rattle.book_rules.proofs.PlaceLemmas.{values, length-values, value_of, spread, spread_is, cube_spread, tuple_spread}

-- a point of a clause's own length with the same values

abbrev cut : List ℤ → ℕ → List ℤ
cut whole n = values (variable_at whole) 0 n

cut_is : (whole : List ℤ) (n v : ℕ) → nat_lt v n ≡ true → variable_at (cut whole n) v ≡ variable_at whole v
cut_is whole n v is = let below : v < n = grind (arith, nat_tests) in value_of (variable_at whole) n v below

cut_tuple : (whole : List ℤ) (n : ℕ) (args : List ℕ) → list_all (λ v. nat_lt v n) args ≡ true → tuple_at (cut whole n) args ≡ tuple_at whole args
cut_tuple whole n [] h = refl
cut_tuple whole n (v ∷ args) h =
    let both = both_true (nat_lt v n) _ h in
    ap (λ x. x ∷ tuple_at (cut whole n) args) (cut_is whole n v both.0) ∙ ap (λ xs. variable_at whole v ∷ xs) (cut_tuple whole n args both.1)

-- what is known of an atom of a clause
args_below : (sys : Clauses) (n : ℕ) (atom : Atom) → is_atom sys.preds n atom ≡ true → list_all (λ v. nat_lt v n) atom.args ≡ true
args_below sys n atom h = (keeps_atom sys.preds n atom h).below

all_both : {X : Type 0} (p q r : X → Bool) → ((x : X) → p x ≡ true → q x ≡ true → r x ≡ true) → (xs : List X) → list_all p xs ≡ true → list_all q xs ≡ true → list_all r xs ≡ true
all_both p q r f [] h k = refl
all_both p q r f (x ∷ xs) h k =
    let first = both_true (p x) _ h in
    let second = both_true (q x) _ k in
    from_both (r x) _ (f x first.0 second.0) (all_both p q r f xs first.1 second.1)

all_of_both : {X : Type 0} (P : X → Type 0) (q r : X → Bool) → ((x : X) → P x → q x ≡ true → r x ≡ true) → (xs : List X) → AllOf P xs → list_all q xs ≡ true → list_all r xs ≡ true
all_of_both P q r f [] h k = refl
all_of_both P q r f (x ∷ xs) h k =
    let both = both_true (q x) _ k in
    from_both (r x) _ (f x h.0 both.0) (all_of_both P q r f xs h.1 both.1)

-- one lemma on one atom

lemma_passes : (low same knows_it held below : Bool) (level : Bool) → (low ≡ false → level ≡ true) → (knows_it ≡ true → below ≡ true → not held ≡ true)
    → not (low && same && not knows_it) ≡ true → (not same || below) ≡ true → (level || not (same && held)) ≡ true
lemma_passes low same k held b true f g h p = refl
lemma_passes false same k held b false f g h p = absurd (true≢false (sym (f refl)))
lemma_passes true false k held b false f g h p = refl
lemma_passes true true false held b false f g h p = absurd (true≢false (sym h))
lemma_passes true true true held b false f g h p = g refl p

low_or_above : (n k : ℕ) → nat_le k n ≡ false → nat_lt n k ≡ true
low_or_above n k h = grind (arith, nat_tests)

atom_inside : (es : List Framed) (k : ℕ) (area : Kept) (whole : List ℤ) → 0 < k → list_all (lit_truth whole) area.lits ≡ true → (atom : Atom)
    → list_any (λ (e : Framed). nat_le k e.level && (e.lemma.pred == atom.pred) && not (knows area atom e.lemma.cube)) es ≡ false → list_all (λ e. has_places_of e atom) es ≡ true
    → in_frame es k (atom_at whole atom) ≡ true
atom_inside es k area whole some all atom known places =
    let first : nat_lt 0 k ≡ true = grind (arith, nat_tests) in
    let told = any_false (λ (e : Framed). nat_le k e.level && (e.lemma.pred == atom.pred) && not (knows area atom e.lemma.cube)) es known in
    from_both (nat_lt 0 k) _ first (all_both (λ (e : Framed). not (nat_le k e.level && (e.lemma.pred == atom.pred) && not (knows area atom e.lemma.cube))) (λ e. has_places_of e atom) (λ (e : Framed). nat_lt e.level k || accepts e.lemma (atom_at whole atom))
    (λ e h p. lemma_passes (nat_le k e.level) (e.lemma.pred == atom.pred) (knows area atom e.lemma.cube) (cube_holds (tuple_at whole atom.args) e.lemma.cube) (cube_is_below (length atom.args) e.lemma.cube) (nat_lt e.level k)
    (low_or_above e.level k) (λ covers below. sym (truth-lemma_at whole atom.args e.lemma.cube below) ∙ covered_is_true whole area.lits all (lemma_at atom.args e.lemma.cube) covers) h p) es told places)

-- the head

head_held : (whole : List ℤ) (pred : Option ℕ) (cube : List Lit) (head : Option Atom) → is_head pred head ≡ true → cube_is_below (length (args_of head)) cube ≡ true → list_all (lit_truth whole) (cube_at (args_of head) cube) ≡ true
    → holds_of pred cube (option_map (atom_at whole) head) ≡ true
head_held whole None cube None is below h = refl
head_held whole None cube (Some atom) is below h = absurd (true≢false (sym is))
head_held whole (Some p) cube None is below h = absurd (true≢false (sym is))
head_held whole (Some p) cube (Some atom) is below h = from_both (p == atom.pred) _ is (sym (truth-cube_at whole atom.args cube below) ∙ h)

head_cut : (preds : List (List Sort)) (whole : List ℤ) (n : ℕ) (head : Option Atom) → is_head_of preds n head ≡ true → option_map (atom_at (cut whole n)) head ≡ option_map (atom_at whole) head
head_cut preds whole n None h = refl
head_cut preds whole n (Some atom) h = ap (λ tuple. Some (atom.pred, tuple)) (cut_tuple whole n atom.args (keeps_atom preds n atom h).below)

body_cut : (preds : List (List Sort)) (whole : List ℤ) (n : ℕ) (atoms : List Atom) → list_all (is_atom preds n) atoms ≡ true → map (atom_at (cut whole n)) atoms ≡ map (atom_at whole) atoms
body_cut preds whole n [] h = refl
body_cut preds whole n (atom ∷ atoms) h =
    let both = both_true (is_atom preds n atom) _ h in
    ap (λ tuple. (atom.pred, tuple) ∷ map (atom_at (cut whole n)) atoms) (cut_tuple whole n atom.args (keeps_atom preds n atom both.0).below) ∙ ap (λ xs. atom_at whole atom ∷ xs) (body_cut preds whole n atoms both.1)

all_map : {X Y : Type 0} (f : X → Y) (p : Y → Bool) (xs : List X) → list_all (λ x. p (f x)) xs ≡ true → list_all p (map f xs) ≡ true
all_map f p [] h = refl
all_map f p (x ∷ xs) h = let both = both_true (p (f x)) _ h in from_both (p (f x)) _ both.0 (all_map f p xs both.1)

kept_tuple : (keep : List ℕ) (whole point : List ℤ) → ((v : ℕ) → is_kept keep v ≡ true → variable_at whole v ≡ variable_at point v) → (args : List ℕ) → are_among keep args ≡ true → tuple_at whole args ≡ tuple_at point args
kept_tuple keep whole point same [] h = refl
kept_tuple keep whole point same (v ∷ args) h =
    let both = both_true (is_kept keep v) _ h in
    ap (λ x. x ∷ tuple_at whole args) (same v both.0) ∙ ap (λ xs. variable_at point v ∷ xs) (kept_tuple keep whole point same args both.1)

spread_tuple : (args all : List ℕ) (tuple point : List ℤ) → ((v : ℕ) → variable_at point v ≡ variable_at tuple (first_place all v)) → tuple_at point args ≡ map (λ v. variable_at tuple (first_place all v)) args
spread_tuple [] all tuple point same = refl
spread_tuple (v ∷ args) all tuple point same = ap (λ x. x ∷ tuple_at point args) (same v) ∙ ap (λ xs. variable_at tuple (first_place all v) ∷ xs) (spread_tuple args all tuple point same)

-- the area's parts
pub record HasArea (clause : Clause) (atom : Atom) (cube : List Lit) (area : Kept) : Type 0 where
  pub kept : are_among area.keep atom.args ≡ true
  pub guard : cover area.lits clause.guard ≡ true
  pub head : list_all (is_among area.lits) (cube_at (args_of clause.head) cube) ≡ true

pub area_has : (clause : Clause) (point : List ℤ) (atom : Atom) (cube : List Lit) (es : List Framed) (k : ℕ) (area : Kept) → is_area clause point atom cube es k area ≡ true → HasArea clause atom cube area
area_has clause point atom cube es k area h =
    let a = both_true _ _ h in
    let b = both_true _ _ a.0 in
    let c = both_true _ _ b.0 in
    let d = both_true _ _ c.0 in
    record { kept = (both_true _ _ d.0).1; guard = c.1; head = b.1 }

-- a tuple in the projected cube
pub projected_reaches : (sys : Clauses) (clause : Clause) (atom : Atom) (parent : Obligation) (es : List Framed) (k : ℕ) (area : Kept) → is_clause sys.preds clause ≡ true → is_atom sys.preds (length clause.sorts) atom ≡ true
    → is_head parent.pred clause.head ≡ true → HasArea clause atom parent.cube area → IsProjection area.lits area.model area.keep area.cube → 0 < k
    → AllOf (λ (a : Atom). list_any (λ (e : Framed). nat_le k e.level && (e.lemma.pred == a.pred) && not (knows area a e.lemma.cube)) es ≡ false) clause.atoms → have_places es parent clause ≡ true
    → (tuple : List ℤ) → length tuple ≡ length atom.args → cube_holds tuple (projected_cube atom area) ≡ true → IsReached clause atom parent es k tuple
projected_reaches sys clause atom parent es k area is_one one_atom head fits projects some known places tuple long held =
    let args = atom.args in
    let n = length clause.sorts in
    let wide = length tuple + n in
    let of_clause : Keeps sys.preds clause = keeps sys.preds clause is_one in
    let below = args_below sys n atom one_atom in
    let below_wide : list_all (λ v. nat_lt v wide) args ≡ true = all_weaken (λ v. nat_lt v n) (λ v. nat_lt v wide) (λ v t. grind (arith, nat_tests, t)) args below in
    let fits_wide : length tuple ≤ wide = omega arith in
    let point = spread args tuple wide in
    let point_is = spread_is args tuple wide below_wide fits_wide in
    let both = both_true (list_all (lit_truth tuple) (map (lit_in_places args) area.cube)) _ (sym (list_all-append (lit_truth tuple) (map (lit_in_places args) area.cube) (equations_from args 0 args)) ∙ held) in
    let more : Extends area.lits area.keep point = projects.extends point (cube_spread args tuple point point_is area.cube both.0) in
    let whole = more.whole in
    let tuple_is : tuple_at whole args ≡ tuple = kept_tuple area.keep whole point more.same args fits.kept ∙ spread_tuple args args tuple point point_is ∙ tuple_spread args tuple long both.1 in
    let places_of = both_true (cube_is_below (length (args_of clause.head)) parent.cube) _ places in
    let guard_true : truth whole clause.guard ≡ true = covered_is_true whole area.lits more.holds clause.guard fits.guard in
    let in_head = all_weaken (is_among area.lits) (lit_truth whole) (λ lit. among_true whole area.lits lit more.holds) (cube_at (args_of clause.head) parent.cube) fits.head in
    let held_whole = head_held whole parent.pred parent.cube clause.head head places_of.0 in_head in
    let inside_whole = all_map (atom_at whole) (in_frame es k) clause.atoms (all_of_both (λ (a : Atom). list_any (λ (e : Framed). nat_le k e.level && (e.lemma.pred == a.pred) && not (knows area a e.lemma.cube)) es ≡ false) (λ (a : Atom). list_all (λ e. has_places_of e a) es)
    (λ (a : Atom). in_frame es k (atom_at whole a)) (λ a. atom_inside es k area whole some more.holds a) clause.atoms known places_of.1) in
    record {
      point = cut whole n;
      instance = record { whole = length-values (variable_at whole) 0 n; guard = form-agree (λ v. nat_lt v n) (cut whole n) whole clause.guard (cut_is whole n) of_clause.below ∙ guard_true };
      has_tuple = cut_tuple whole n args below ∙ tuple_is;
      held = ap (holds_of parent.pred parent.cube) (head_cut sys.preds whole n clause.head of_clause.head) ∙ held_whole;
      inside = ap (list_all (in_frame es k)) (body_cut sys.preds whole n clause.atoms of_clause.atoms) ∙ inside_whole;
    }
