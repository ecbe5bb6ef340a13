-- The nodes of a form of at most one literal and no disjunction have at most its row.
use Rattle.std.proofs.Common.{◌≡◌, ℕ, suc, zero, ◌+◌, ◌<◌, ◌≤◌, List, [], ◌∷◌, ◌++◌, length, get_or, take, drop, refl, ap, sym, ◌∙◌, subst, arith, ◌⊎◌, inl, inr, Bool, true, false, ◌&&◌, cond, Some}
use mathlib.Core.Logic.{∥∥₁_elim}
use Rattle.std.specs.Prelude.{ℤ, slice_get}
use Rattle.std.specs.List.{Contains, list_all}
use Rattle.std.proofs.lemmas.List.Elements.{filter-append}
use Rattle.lin_atoms.specs.Linear.{are_short, is_long}
use Rattle.lin_atoms.specs.declared.lit.Lit.{Lit}
use Rattle.lin_atoms.specs.declared.form.Form.{Form}
use Rattle.lin_atoms.proofs.Public.{both_true}
use Rattle.int_rows.specs.Basis.{IsWideRow}
use Rattle.int_rows.specs.Node.{all_bounds, bounds_of, end_of_quotients, has_row, in_rows, quotients, system}
use Rattle.int_rows.specs.Ready.{ready, ready_fits}
use Rattle.int_rows.specs.declared.bounds.Bounded.{Bounded}
use Rattle.int_rows.specs.declared.bounds.Ready.{Ready}
use Rattle.int_rows.specs.declared.bounds.Ready.TheVariants.{Truth, Bounds}
use Rattle.refutation_trees.specs.Flatten.{disjunctions, literals}
use Rattle.refutation_trees.specs.GivenUp.{IsEvidence, IsGivenUp}
use Rattle.refutation_trees.specs.Refutation.{form_end}
use Rattle.refutation_trees.specs.Split.{Node, IsNode, IsSplit, at_least, at_most, by_branch, by_cases, first, joined, taken_in, under, with_bound}
use Rattle.refutation_trees.specs.declared.evidence.Evidence.TheVariants.{Row}
use Rattle.farkas_proof.proofs.NodeLemmas.{bounds-append, ends-append}
use Rattle.farkas_proof.proofs.OneRowLemmas.{few-rows}

abbrev rows-of : ℕ → List Lit → List Bounded
rows-of q lits = in_rows (all_bounds q lits)

rows-append : (q : ℕ) (above below : List Lit) → rows-of q (above ++ below) ≡ rows-of q above ++ rows-of (end_of_quotients q above) below
rows-append q above below = ap in_rows (bounds-append q above below) ∙ filter-append has_row (all_bounds q above) (all_bounds (end_of_quotients q above) below)

-- of the form's literal either nothing has joined, or all
record Before (form : Form) (node : Node) : Type 0 where
  pub left_out : node.left_out ≡ literals form
  pub rows : rows-of (form_end form) node.lits ≡ []
  pub end : end_of_quotients (form_end form) node.lits ≡ form_end form

record After (form : Form) (node : Node) : Type 0 where
  pub left_out : node.left_out ≡ []
  pub rows : rows-of (form_end form) node.lits ≡ rows-of (form_end form) (literals form)

record Stands (form : Form) (node : Node) : Type 0 where
  pub open_cases : node.open_cases ≡ []
  pub lits : Before form node ⊎ After form node

none-there : {X : Type 0} (xs : List X) (k : ℕ) (x : X) → xs ≡ [] → slice_get xs k ≡ Some x → ⊥
none-there [] k x e at = cc
none-there (y ∷ xs) k x e at = cc

the-only : (xs : List Lit) (k : ℕ) (lit : Lit) → length xs ≤ 1 → slice_get xs k ≡ Some lit → (xs ≡ lit ∷ []) × (k ≡ 0)
the-only [] k lit few at = absurd (cc)
the-only (x ∷ []) zero lit few at = (cc, refl)
the-only (x ∷ []) (suc k) lit few at = absurd (cc)
the-only (x ∷ y ∷ xs) k lit few at = absurd (omega arith)

joins : (form : Form) (before : Node) (k : ℕ) (lit : Lit) → length (literals form) ≤ 1 → Before form before → slice_get before.left_out k ≡ Some lit → After form (joined k lit before)
joins form before k lit few is at =
    let q = form_end form in
    let only = the-only (literals form) k lit few (subst (λ xs. slice_get xs k ≡ Some lit) is.left_out at) in
    let left : before.left_out ≡ lit ∷ [] = is.left_out ∙ only.0 in
    record {
      left_out = subst (λ j. take j before.left_out ++ drop (j + 1) before.left_out ≡ []) (sym only.1) (ap (λ (xs : List Lit). take 0 xs ++ drop 1 xs) left);
      rows = rows-append q before.lits (lit ∷ []) ∙ ap (λ bs. bs ++ rows-of (end_of_quotients q before.lits) (lit ∷ [])) is.rows ∙ ap (λ e. rows-of e (lit ∷ [])) is.end ∙ ap (rows-of q) (sym only.0);
    }

-- a side of a branch has no row, and no quotient
record IsPlain (lit : Lit) : Type 0 where
  pub rows : (q : ℕ) → rows-of q (lit ∷ []) ≡ []
  pub quotients : quotients lit ≡ 0

most-plain : (x : ℕ) (c : ℤ) → IsPlain (at_most x c)
most-plain x c = record { rows = λ q. refl; quotients = refl }

least-plain : (x : ℕ) (c : ℤ) → IsPlain (at_least x c)
least-plain x c = record { rows = λ q. refl; quotients = refl }

append-none : {X : Type 0} (xs ys : List X) → ys ≡ [] → xs ++ ys ≡ xs
append-none [] ys e = e
append-none (x ∷ xs) ys e = ap (λ zs. x ∷ zs) (append-none xs ys e)

plain-rows : (q : ℕ) (lits : List Lit) (lit : Lit) → IsPlain lit → rows-of q (lits ++ lit ∷ []) ≡ rows-of q lits
plain-rows q lits lit plain = rows-append q lits (lit ∷ []) ∙ append-none (rows-of q lits) (rows-of (end_of_quotients q lits) (lit ∷ [])) (plain.rows (end_of_quotients q lits))

plain-end : (q : ℕ) (lits : List Lit) (lit : Lit) → IsPlain lit → end_of_quotients q (lits ++ lit ∷ []) ≡ end_of_quotients q lits
plain-end q lits lit plain = let e = ends-append q lits (lit ∷ []) in let none = plain.quotients in omega (arith, e, none)

bounded-lits : (form : Form) (node : Node) (lit : Lit) → IsPlain lit → Before form node ⊎ After form node → Before form (with_bound node lit) ⊎ After form (with_bound node lit)
bounded-lits form node lit plain (inl is) = inl (record { left_out = is.left_out; rows = plain-rows (form_end form) node.lits lit plain ∙ is.rows; end = plain-end (form_end form) node.lits lit plain ∙ is.end })
bounded-lits form node lit plain (inr is) = inr (record { left_out = is.left_out; rows = plain-rows (form_end form) node.lits lit plain ∙ is.rows })

bounded-stands : (form : Form) (node : Node) (lit : Lit) → IsPlain lit → Stands form node → Stands form (with_bound node lit)
bounded-stands form node lit plain is = record { open_cases = is.open_cases; lits = bounded-lits form node lit plain is.lits }

joined-lits : (form : Form) (before : Node) (k : ℕ) (lit : Lit) → length (literals form) ≤ 1 → Before form before ⊎ After form before → slice_get before.left_out k ≡ Some lit → Before form (joined k lit before) ⊎ After form (joined k lit before)
joined-lits form before k lit few (inl is) at = inr (joins form before k lit few is at)
joined-lits form before k lit few (inr is) at = absurd (none-there before.left_out k lit is.left_out at)

one-at : (a b node : Node) (k : ℕ) → k < 2 → get_or (a ∷ b ∷ []) k node ≡ node → (node ≡ a) ⊎ (node ≡ b)
one-at a b node zero h e = inl (sym e)
one-at a b node (suc zero) h e = inr (sym e)
one-at a b node (suc (suc k)) h e = absurd (omega arith)

one-side : (form : Form) (inner node : Node) (x : ℕ) (c d : ℤ) → Stands form inner → (node ≡ with_bound inner (at_most x c)) ⊎ (node ≡ with_bound inner (at_least x d)) → Stands form node
one-side form inner node x c d is (inl e) = subst (Stands form) (sym e) (bounded-stands form inner (at_most x c) (most-plain x c) is)
one-side form inner node x c d is (inr e) = subst (Stands form) (sym e) (bounded-stands form inner (at_least x d) (least-plain x d) is)

split-stands : (form : Form) (inner node : Node) (below : List Node) → Stands form inner → IsSplit (form_end form) inner below → Contains below node → Stands form node
split-stands form inner node below is (by_cases which parts at e) inside = absurd (none-there inner.open_cases which parts is.open_cases at)
split-stands form inner node below is (by_branch x c vertex e) inside =
    let here = subst (λ (nodes : List Node). Contains nodes node) e inside in
    one-side form inner node x c _ is (one-at (with_bound inner (at_most x c)) _ node here.0 here.1 here.2)

stands : (form : Form) → length (literals form) ≤ 1 → disjunctions form ≡ [] → (node : Node) → IsNode form node → Stands form node
stands form few none node (first _ e) = subst (Stands form) (sym e) (record { open_cases = none; lits = inl (record { left_out = refl; rows = refl; end = refl }) })
stands form few none node (taken_in before _ k lit is at e) =
    let was = stands form few none before is in
    subst (Stands form) (sym e) (record { open_cases = was.open_cases; lits = joined-lits form before k lit few was.lits at })
stands form few none node (under inner _ below is split inside) = split-stands form inner node below (stands form few none inner is) split.split inside

kept-small : (b : Bounded) (test : Bool) → are_short b.form.terms ≡ true → list_all (λ b. are_short b.form.terms) (cond test (b ∷ []) []) ≡ true
kept-small b true h = ap (λ t. t && true) h
kept-small b false h = refl

fits-small : (r : Ready) → ready_fits r ≡ true → list_all (λ b. are_short b.form.terms) (in_rows (bounds_of r ++ [])) ≡ true
fits-small (Truth truth) h = refl
fits-small (Bounds b) h = kept-small b (has_row b) (both_true (are_short b.form.terms) (is_long b.form.constant) (both_true _ _ h).0).0

few-kept : (b : Bounded) (test : Bool) → length (cond test (b ∷ []) []) ≤ 1
few-kept b true = omega arith
few-kept b false = omega arith

few-ready : (r : Ready) → length (in_rows (bounds_of r ++ [])) ≤ 1
few-ready (Truth truth) = omega arith
few-ready (Bounds b) = few-kept b (has_row b)

few-literals : (q : ℕ) (lits : List Lit) → length lits ≤ 1 → length (rows-of q lits) ≤ 1
few-literals q [] few = omega arith
few-literals q (lit ∷ []) few = few-ready (ready q lit)
few-literals q (l ∷ m ∷ lits) few = absurd (omega arith)

small-literals : (q : ℕ) (lits : List Lit) → length lits ≤ 1 → list_all (λ lit. ready_fits (ready q lit)) lits ≡ true → list_all (λ b. are_short b.form.terms) (rows-of q lits) ≡ true
small-literals q [] few fits = refl
small-literals q (lit ∷ []) few fits = fits-small (ready q lit) (both_true (ready_fits (ready q lit)) _ fits).0
small-literals q (l ∷ m ∷ lits) few fits = absurd (omega arith)

few-lits : (form : Form) (node : Node) → length (literals form) ≤ 1 → Before form node ⊎ After form node → length (rows-of (form_end form) node.lits) ≤ 1
few-lits form node few (inl is) = subst (λ bs. length bs ≤ 1) (sym is.rows) (omega arith)
few-lits form node few (inr is) = subst (λ bs. length bs ≤ 1) (sym is.rows) (few-literals (form_end form) (literals form) few)

small-lits : (form : Form) (node : Node) → length (literals form) ≤ 1 → list_all (λ lit. ready_fits (ready (form_end form) lit)) (literals form) ≡ true → Before form node ⊎ After form node
    → list_all (λ b. are_short b.form.terms) (rows-of (form_end form) node.lits) ≡ true
small-lits form node few fits (inl is) = ap (list_all (λ (b : Bounded). are_short b.form.terms)) is.rows
small-lits form node few fits (inr is) = ap (list_all (λ (b : Bounded). are_short b.form.terms)) is.rows ∙ small-literals (form_end form) (literals form) few fits

no-evidence : (form : Form) → length (literals form) ≤ 1 → disjunctions form ≡ [] → list_all (λ lit. ready_fits (ready (form_end form) lit)) (literals form) ≡ true
    → (lits : List Lit) (basis : List ℕ) (wide : ℤ) → IsEvidence form (Row lits basis wide) → ⊥
no-evidence form few none fits lits basis wide is =
    let node = is.0.0 in
    let q = form_end form in
    let was = stands form few none node is.0.1 in
    let row = subst (λ (ls : List Lit). IsWideRow (system q ls).columns (system q ls).equations basis wide) (sym is.0.2) is.1 in
    few-rows (end_of_quotients q node.lits) (rows-of q node.lits) basis wide (few-lits form node few was.lits) (small-lits form node few fits was.lits) row

pub lone-narrow : (form : Form) → length (literals form) ≤ 1 → disjunctions form ≡ [] → list_all (λ lit. ready_fits (ready (form_end form) lit)) (literals form) ≡ true
    → (lits : List Lit) (basis : List ℕ) (wide : ℤ) → IsGivenUp form (Row lits basis wide) → ⊥
lone-narrow form few none fits lits basis wide is = ∥∥₁_elim is (λ x y. absurd x) (no-evidence form few none fits lits basis wide)
