-- A form is true where its literals and one part of each of its disjunctions are true.
use Rattle.std.proofs.Common.{◌≡◌, ℕ, zero, suc, ◌+◌, ◌<◌, List, [], ◌∷◌, ◌++◌, map, take, drop, refl, ap, sym, ◌∙◌, subst, arith, length, true, false, Bool, ◌||◌, Some}
use Rattle.std.specs.Prelude.{ℤ, slice_get, slice_index_or}
use Rattle.std.specs.List.{Contains, flat_map, list_all, list_any}
use Rattle.std.proofs.lemmas.Bool.{and_from}
use Rattle.std.proofs.lemmas.List.Folds.{list_all-append}
use denote.Hole.Carrier.{roll}
use Rattle.lin_atoms.specs.Truth.{lit_truth, truth, truth_step}
use Rattle.lin_atoms.specs.declared.form.Form.{Form, map-Form}
use Rattle.lin_atoms.specs.declared.form.Form.TheOpen.{Form-F}
use Rattle.lin_atoms.specs.declared.form.Form.TheViews.{roll-Form}
use Rattle.lin_atoms.specs.declared.form.Form.TheVariants.{rolls-And, rolls-Or}
use Rattle.lin_atoms.specs.declared.form.Form.TheFolds.{fold-roll-Form, ind-Form}
use Rattle.lin_atoms.specs.declared.lit.Lit.{Lit}
use Rattle.lin_atoms.proofs.Public.{both_true, truth-And, truth-Or}
use Rattle.refutation_trees.specs.Flatten.{disjunctions, literals, literals_step}
use Rattle.refutation_trees.proofs.FlattenLemmas.{disjunctions-And, disjunctions-Or, literals-And}

abbrev Covers : List ℤ → Form → Type 0
Covers point form = list_all (lit_truth point) (literals form) ≡ true → list_all (list_any (truth point)) (disjunctions form) ≡ true → truth point form ≡ true

pub all-apart : {X : Type 0} (p : X → Bool) (xs ys : List X) → list_all p (xs ++ ys) ≡ true → (list_all p xs ≡ true) × (list_all p ys ≡ true)
all-apart p xs ys h = both_true (list_all p xs) _ (sym (list_all-append p xs ys) ∙ h)

parts-cover : (point : List ℤ) (ys : List ((form : Form) × Covers point form)) → list_all (lit_truth point) (flat_map literals (map (λ y. y.0) ys)) ≡ true
    → list_all (list_any (truth point)) (flat_map disjunctions (map (λ y. y.0) ys)) ≡ true → list_all (truth point) (map (λ y. y.0) ys) ≡ true
parts-cover point [] h t = refl
parts-cover point (y ∷ ys) h t =
    let lits = all-apart (lit_truth point) (literals y.0) (flat_map literals (map (λ y. y.0) ys)) h in
    let cases = all-apart (list_any (truth point)) (disjunctions y.0) (flat_map disjunctions (map (λ y. y.0) ys)) t in
    and_from _ _ (y.1 lits.0 cases.0) (parts-cover point ys lits.1 cases.1)

no-truth : false ≡ true → ⊥
no-truth e = absurd (cc)

node-covers : (point : List ℤ) (y : Form-F ((form : Form) × Covers point form)) → Covers point (roll-Form (map-Form ((form : Form) × Covers point form) Form (λ e. e.0) y))
unfolding roll-Form roll
node-covers point Form-F.True h t = fold-roll-Form Bool (truth_step point) Form-F.True
node-covers point Form-F.False h t = let here : list_all (lit_truth point) (literals_step Form-F.False) ≡ true = ap (list_all (lit_truth point)) (sym (fold-roll-Form (List Lit) literals_step Form-F.False)) ∙ h in absurd (no-truth here)
node-covers point (Form-F.Lit lit) h t =
    let here : list_all (lit_truth point) (lit ∷ []) ≡ true = ap (list_all (lit_truth point)) (sym (fold-roll-Form (List Lit) literals_step (Form-F.Lit lit))) ∙ h in
    fold-roll-Form Bool (truth_step point) (Form-F.Lit lit) ∙ (both_true (lit_truth point lit) _ here).0
node-covers point (Form-F.And ys) h t =
    let parts = map (λ (y : (form : Form) × Covers point form). y.0) ys in
    let lits : list_all (lit_truth point) (flat_map literals parts) ≡ true = ap (list_all (lit_truth point)) (sym (ap literals (rolls-And parts) ∙ literals-And parts)) ∙ h in
    let cases : list_all (list_any (truth point)) (flat_map disjunctions parts) ≡ true = ap (list_all (list_any (truth point))) (sym (ap disjunctions (rolls-And parts) ∙ disjunctions-And parts)) ∙ t in
    ap (truth point) (rolls-And parts) ∙ truth-And point parts ∙ parts-cover point ys lits cases
node-covers point (Form-F.Or ys) h t =
    let parts = map (λ (y : (form : Form) × Covers point form). y.0) ys in
    let some : list_all (list_any (truth point)) (parts ∷ []) ≡ true = ap (list_all (list_any (truth point))) (sym (ap disjunctions (rolls-Or parts) ∙ disjunctions-Or parts)) ∙ t in
    ap (truth point) (rolls-Or parts) ∙ truth-Or point parts ∙ (both_true (list_any (truth point) parts) _ some).0

pub flat-covers : (point : List ℤ) (form : Form) → Covers point form
flat-covers point = ind-Form (Covers point) (λ x y is. subst (λ z. Covers point (roll-Form z)) is (node-covers point y))

-- one item back among the others
all-put : {X : Type 0} (p : X → Bool) (xs : List X) (at : ℕ) (x : X) → slice_get xs at ≡ Some x → p x ≡ true → list_all p (take at xs) ≡ true → list_all p (drop (at + 1) xs) ≡ true → list_all p xs ≡ true
all-put p [] at x there is before behind = absurd (cc)
all-put p (y ∷ xs) zero x there is before behind = let same : y ≡ x = cc in and_from _ _ (ap p same ∙ is) behind
all-put p (y ∷ xs) (suc at) x there is before behind =
    let both = both_true (p y) _ before in
    let next : suc at + 1 ≡ suc (at + 1) = omega arith in
    let rest : list_all p (drop (at + 1) xs) ≡ true = ap (λ (n : ℕ). list_all p (drop n (y ∷ xs))) (sym next) ∙ behind in
    and_from _ _ both.0 (all-put p xs at x there is both.1 rest)

or-right : (a b : Bool) → b ≡ true → (a || b) ≡ true
or-right true b h = refl
or-right false b h = h

any-at : {X : Type 0} (p : X → Bool) (xs : List X) (k : ℕ) (x : X) → k < length xs → slice_index_or xs k x ≡ x → p x ≡ true → list_any p xs ≡ true
any-at p [] k x less e is = absurd (omega (arith, less))
any-at p (y ∷ xs) zero x less e is = ap (λ (b : Bool). b || list_any p xs) (ap p e ∙ is)
any-at p (y ∷ xs) (suc k) x less e is = or-right (p y) (list_any p xs) (any-at p xs k x (omega (arith, less)) e is)

any-there : {X : Type 0} (p : X → Bool) (xs : List X) (x : X) → Contains xs x → p x ≡ true → list_any p xs ≡ true
any-there p xs x there is = any-at p xs there.0 x there.1 there.2 is

-- a part that is true with the disjunctions in whose place its own stand makes the disjunction true
pub part-covers : (point : List ℤ) (cases : List (List Form)) (which : ℕ) (parts : List Form) (part : Form) → slice_get cases which ≡ Some parts → Contains parts part → list_all (lit_truth point) (literals part) ≡ true
    → list_all (list_any (truth point)) (take which cases ++ (disjunctions part ++ drop (which + 1) cases)) ≡ true → list_all (list_any (truth point)) cases ≡ true
part-covers point cases which parts part there is lits rest =
    let p = list_any (truth point) in
    let first = all-apart p (take which cases) (disjunctions part ++ drop (which + 1) cases) rest in
    let second = all-apart p (disjunctions part) (drop (which + 1) cases) first.1 in
    all-put p cases which parts there (any-there (truth point) parts part is (flat-covers point part lits second.0)) first.0 second.1

-- the literals that are left out, and one that joins, in any order
pub left-covers : (point : List ℤ) (left : List Lit) (at : ℕ) (lit : Lit) → slice_get left at ≡ Some lit → lit_truth point lit ≡ true → list_all (lit_truth point) (take at left ++ drop (at + 1) left) ≡ true → list_all (lit_truth point) left ≡ true
left-covers point left at lit there is rest = let both = all-apart (lit_truth point) (take at left) (drop (at + 1) left) rest in all-put (lit_truth point) left at lit there is both.0 both.1
