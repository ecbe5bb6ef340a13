-- What covers a form makes it true, and tests of forms of one literal.
use Rattle.std.proofs.Common.{◌≡◌, List, [], ◌∷◌, map, Bool, true, false, ◌||◌, refl, ap, sym, ◌∙◌, subst}
use Rattle.std.specs.Prelude.{ℤ}
use Rattle.std.specs.List.{list_all, list_any}
use mathlib.Core.Bool.{true≢false}
use denote.Hole.Carrier.{roll}
use Rattle.lin_atoms.specs.Truth.{lit_truth, truth, truth_step}
use Rattle.lin_atoms.specs.declared.lit.Lit.{Lit}
use Rattle.lin_atoms.specs.declared.form.Form.{Form, map-Form}
use Rattle.lin_atoms.specs.declared.form.Form.TheOpen.{Form-F}
use Rattle.lin_atoms.specs.declared.form.Form.TheVariants.{True, Lit as Literal}
use Rattle.lin_atoms.specs.declared.form.Form.TheViews.{roll-Form}
use Rattle.lin_atoms.specs.declared.form.Form.TheFolds.{fold-roll-Form, ind-Form}
use Rattle.book_rules.specs.Same.{same_lit}
use Rattle.book_rules.specs.Areas.{is_among, cover, cover_step, stands_in, stand_step}
use Rattle.book_rules.proofs.ListLemmas.{both_true, from_both, either_is, all_at, any_at}
use Rattle.book_rules.proofs.SameLemmas.{lit_is}

pub truth-True : (point : List ℤ) → truth point True ≡ true
unfolding roll-Form roll
truth-True point = fold-roll-Form Bool (truth_step point) Form-F.True

pub cover-Literal : (lits : List Lit) (lit : Lit) → cover lits (Literal lit) ≡ is_among lits lit
unfolding roll-Form roll
cover-Literal lits lit = fold-roll-Form Bool (cover_step lits) (Form-F.Lit lit)

pub stands-Literal : (lit other : Lit) → stands_in lit (Literal other) ≡ same_lit lit other
unfolding roll-Form roll
stands-Literal lit other = fold-roll-Form Bool (stand_step lit) (Form-F.Lit other)

pub among_true : (point : List ℤ) (lits : List Lit) (lit : Lit) → list_all (lit_truth point) lits ≡ true → is_among lits lit ≡ true → lit_truth point lit ≡ true
among_true point lits lit all h =
    let found = any_at (same_lit lit) lits h in
    ap (lit_truth point) (lit_is lit found.1 found.3) ∙ all_at (lit_truth point) lits found.0 found.1 found.2 all

-- a form that is covered by true literals is true
abbrev IsCovered : List ℤ → List Lit → Form → Type 0
IsCovered point lits form = cover lits form ≡ true → truth point form ≡ true

all_parts : (point : List ℤ) (lits : List Lit) (ys : List ((form : Form) × IsCovered point lits form)) → list_all (λ b. b) (map (cover lits) (map (λ y. y.0) ys)) ≡ true → list_all (λ b. b) (map (truth point) (map (λ y. y.0) ys)) ≡ true
all_parts point lits [] h = refl
all_parts point lits (y ∷ ys) h =
    let both = both_true (cover lits y.0) _ h in
    from_both (truth point y.0) _ (y.1 both.0) (all_parts point lits ys both.1)

either_true : (a b : Bool) → b ≡ true → (a || b) ≡ true
either_true true b h = refl
either_true false b h = h

first_true : (a b : Bool) → a ≡ true → (a || b) ≡ true
first_true true b h = refl
first_true false b h = absurd (true≢false (sym h))

some_part : (point : List ℤ) (lits : List Lit) (ys : List ((form : Form) × IsCovered point lits form)) → list_any (λ b. b) (map (cover lits) (map (λ y. y.0) ys)) ≡ true → list_any (λ b. b) (map (truth point) (map (λ y. y.0) ys)) ≡ true
some_part point lits [] h = h
some_part point lits (y ∷ ys) h =
    let rest = list_any (λ b. b) (map (truth point) (map (λ y. y.0) ys)) in
    either_is (cover lits y.0) _ ((truth point y.0 || rest) ≡ true) (λ is. first_true (truth point y.0) rest (y.1 is)) (λ t. either_true (truth point y.0) rest (some_part point lits ys t)) h

node_true : (point : List ℤ) (lits : List Lit) → list_all (lit_truth point) lits ≡ true → (y : Form-F ((form : Form) × IsCovered point lits form))
    → cover_step lits (map-Form Form Bool (cover lits) (map-Form ((form : Form) × IsCovered point lits form) Form (λ e. e.0) y)) ≡ true
    → truth_step point (map-Form Form Bool (truth point) (map-Form ((form : Form) × IsCovered point lits form) Form (λ e. e.0) y)) ≡ true
node_true point lits all Form-F.True h = refl
node_true point lits all Form-F.False h = h
node_true point lits all (Form-F.Lit lit) h = among_true point lits lit all h
node_true point lits all (Form-F.And ys) h = all_parts point lits ys h
node_true point lits all (Form-F.Or ys) h = some_part point lits ys h

from_node : (point : List ℤ) (lits : List Lit) (x : Form-F Form) → (cover_step lits (map-Form Form Bool (cover lits) x) ≡ true → truth_step point (map-Form Form Bool (truth point) x) ≡ true) → IsCovered point lits (roll-Form x)
from_node point lits x f h = fold-roll-Form Bool (truth_step point) x ∙ f (sym (fold-roll-Form Bool (cover_step lits) x) ∙ h)

pub covered_is_true : (point : List ℤ) (lits : List Lit) → list_all (lit_truth point) lits ≡ true → (form : Form) → IsCovered point lits form
covered_is_true point lits all = ind-Form (IsCovered point lits) (λ x y is. subst (λ z. IsCovered point lits (roll-Form z)) is (from_node point lits _ (node_true point lits all y)))
