-- What a Stall's evidence is compared with, as the code asks it.
use Rattle.std.proofs.Common.{◌≡◌, ℕ, List, [], Bool, true, false, cond, not, ◌&&◌, Some, None, refl, ap, ap₂, sym, ◌∙◌}
use Rattle.std.specs.Prelude.{Option, slice_get}
use Rattle.std.specs.List.{list_all}
use Rattle.lin_atoms.specs.declared.lit.Lit.{Lit}
use Rattle.lin_atoms.specs.declared.form.Form.{Form}
use Rattle.clause_form.specs.System.{Clauses, is_clause}
use Rattle.clause_form.specs.declared.atom.Atom.{Atom}
use Rattle.clause_form.specs.declared.clause.Clause.{Clause}
use Rattle.chc_tokens.specs.Queries.{goal_cube, has_goal, query_at, query_in}
use Rattle.chc_tokens.specs.declared.goal.Goal.{Goal}
use Rattle.chc_tokens.specs.declared.used.Used.{Used as UsedLemma}
use Rattle.book_rules.specs.Places.{obligation_fits, used_has_places}
use Rattle.book_rules.specs.declared.by.By.{By}
use Rattle.book_rules.specs.Proofs.{is_head}
use Rattle.book_rules.specs.Queries.{query}
use Rattle.book_rules.specs.Same.{same_form}
use Rattle.book_rules.specs.StallRules.{has_used_atoms}
use Rattle.book_rules.specs.State.{Obligation}
use Rattle.step_rules.specs.Tokens.{all_used}
use Rattle.step_rules.specs.machinery.Claims.{goal_for}
use Rattle.cube_rules.specs.machinery.Literals.{form_fits}
use Rattle.step_rules.specs.machinery.Literals.{lemmas_are_short}
use Rattle.step_rules.proofs.PlaceLemmas.{goal-cube, goal-there, used-there}
use Rattle.step_rules.proofs.QueryLemmas.{query-found, query-missing}

abbrev pub answer : Clause → List Lit → List UsedLemma → Form → Bool
answer clause cube used kept = has_used_atoms clause (all_used used) && same_form kept (query clause cube (all_used used))

in-clause : (sys : Clauses) (number : ℕ) (clause : Clause) (goal : Goal) (used : List UsedLemma) (found : Option Form) → slice_get sys.clauses number ≡ Some clause → found ≡ query_at sys number goal used → query_in (Some clause) goal used ≡ found
in-clause sys number clause goal used found there is = sym (is ∙ ap (λ (c : Option Clause). query_in c goal used) there)

cube-of : (pred : Option ℕ) (cube : List Lit) (goal : Goal) → goal ≡ goal_for pred cube → (pred ≡ None → cube ≡ []) → goal_cube goal ≡ cube
cube-of pred cube goal is bare = ap goal_cube is ∙ goal-cube pred cube bare

pub asked-found : (sys : Clauses) (number : ℕ) (clause : Clause) (o : Obligation) (used : List UsedLemma) (kept form : Form) (goal : Goal) → slice_get sys.clauses number ≡ Some clause → goal ≡ goal_for o.pred o.cube → (o.pred ≡ None → o.cube ≡ [])
    → Some form ≡ query_at sys number goal used → same_form kept form ≡ answer clause o.cube used kept
asked-found sys number clause o used kept form goal there is bare found =
    let parts = query-found clause goal used form (in-clause sys number clause goal used (Some form) there found) in
    ap (same_form kept) (parts.0 ∙ ap (λ (cube : List Lit). query clause cube (all_used used)) (cube-of o.pred o.cube goal is bare))
    ∙ sym (ap (λ b. b && same_form kept (query clause o.cube (all_used used))) parts.1)

pub asked-missing : (sys : Clauses) (number : ℕ) (clause : Clause) (o : Obligation) (used : List UsedLemma) (kept : Form) (goal : Goal) → slice_get sys.clauses number ≡ Some clause → goal ≡ goal_for o.pred o.cube → (o.pred ≡ None → o.cube ≡ [])
    → None ≡ query_at sys number goal used → form_fits kept ≡ true → lemmas_are_short used ≡ true → is_clause sys.preds clause ≡ true → is_head o.pred clause.head ≡ true → obligation_fits sys.preds o ≡ true
    → list_all (used_has_places sys number) (all_used used) ≡ true → false ≡ answer clause o.cube used kept
asked-missing sys number clause o used kept goal there is bare found room short legal head fits places =
    let cube = cube-of o.pred o.cube goal is bare in
    let goes = goal-there sys.preds clause o.pred o.cube _ legal head fits in
    sym (ap (λ (c : List Lit). answer clause c used kept) (sym cube) ∙ query-missing clause goal used kept (in-clause sys number clause goal used None there found) room (ap (has_goal clause) is ∙ goes) short (used-there sys number clause used there legal places))

-- the parts of the test: the used atoms, the head, the form, and the level
pub headless : (u h s l : Bool) → h ≡ false → false ≡ (u && h && s && l)
headless true h s l is = sym (ap (λ b. b && s && l) is)
headless false h s l is = refl

pub too-low : (u h s l : Bool) → l ≡ false → false ≡ (u && h && s && l)
too-low false h s l is = refl
too-low true false s l is = refl
too-low true true false l is = refl
too-low true true true l is = sym is

pub fitting : (u h s l : Bool) → h ≡ true → l ≡ true → (u && s) ≡ (u && h && s && l)
fitting false h s l head low = refl
fitting true false s l head low = absurd (cc)
fitting true true false l head low = refl
fitting true true true l head low = sym low

pub not-true : (b : Bool) → not b ≡ true → b ≡ false
not-true true h = absurd (cc)
not-true false h = refl

pub not-false : (b : Bool) → not b ≡ false → b ≡ true
not-false true h = refl
not-false false h = absurd (cc)

-- a clause that was looked up in what is lent
pub clause-as : (shown sys : Clauses) (xs : List Clause) (n m : ℕ) (found : Option Clause) → shown ≡ sys → xs ≡ shown.clauses → n ≡ m → slice_get xs n ≡ found → slice_get sys.clauses m ≡ found
clause-as shown sys xs n m found same is at there = sym (ap₂ slice_get (is ∙ ap (λ (s : Clauses). s.clauses) same) at) ∙ there

-- what is told by a test of a clause that was looked up
pub clause-told : (test : Option Clause → Bool) (by : By) (found looked : Option Clause) (b : Bool) → found ≡ looked → test looked ≡ b → cond {A = Option By} b None (Some by) ≡ cond {A = Option By} (test found) None (Some by)
clause-told test by found looked b there is = sym (ap (λ (o : Option Clause). cond {A = Option By} (test o) None (Some by)) there ∙ ap (λ (t : Bool). cond {A = Option By} t None (Some by)) is)

-- the same of an atom that was looked up, behind another test that was passed
pub atom-told : (passed : Bool) (test : Option Atom → Bool) (found looked : Option Atom) (b : Bool) → passed ≡ true → found ≡ looked → b ≡ test looked → b ≡ (passed && test found)
atom-told passed test found looked b held there is = is ∙ sym (ap₂ (λ (p : Bool) (o : Option Atom). p && test o) held there)

-- what is told by a test of a clause and of an atom of it that were looked up
pub used-told : (test : Option Clause → Bool) (own : Option Atom → Bool) (found : Option Clause) (clause : Clause) (n : ℕ) (looked : Option Atom) (b : Bool) → found ≡ Some clause → test (Some clause) ≡ own (slice_get clause.atoms n) → slice_get clause.atoms n ≡ looked → b ≡ own looked → b ≡ test found
used-told test own found clause n looked b there same at is = is ∙ sym (ap test there ∙ same ∙ ap own at)
