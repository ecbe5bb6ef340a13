-- The query of a Stall, as the tokens' code finds it: where it finds none, no kept form is the query.
use Rattle.std.proofs.Common.{◌≡◌, ℕ, List, [], ◌∷◌, ◌++◌, map, Bool, true, false, cond, ◌&&◌, Some, None, refl, ap, ap₂, sym, ◌∙◌}
use Rattle.std.specs.Prelude.{Option, is_some, slice_get}
use Rattle.std.specs.List.{list_all}
use mathlib.Core.Bool.{true≢false}
use denote.Hole.Carrier.{roll}
use Rattle.base.specs.Widths.{is_long, is_short}
use Rattle.lin_atoms.specs.Algebra.{negated, plus}
use Rattle.lin_atoms.specs.Denial.{denial, linear_of, lit_fits}
use Rattle.lin_atoms.specs.Linear.{are_short}
use Rattle.lin_atoms.specs.declared.lit.Lit.{Lit}
use Rattle.lin_atoms.specs.declared.lit.Lit.TheVariants.{Le, Eq, Div, NDiv}
use Rattle.lin_atoms.specs.declared.form.Form.{Form}
use Rattle.lin_atoms.specs.declared.form.Form.TheOpen.{Form-F}
use Rattle.lin_atoms.specs.declared.form.Form.TheVariants.{Lit as Literal}
use Rattle.lin_atoms.specs.declared.form.Form.TheViews.{And, roll-Form}
use Rattle.lin_atoms.specs.declared.form.Form.TheFolds.{fold-roll-Form}
use Rattle.clause_form.specs.declared.atom.Atom.{Atom}
use Rattle.clause_form.specs.declared.clause.Clause.{Clause}
use Rattle.cube_forms.specs.Cubes.{cube_at, cube_is_short, denials, has_room, lemma_at, lit_at, lit_is_short, or_of}
use Rattle.chc_tokens.specs.Instances.{token_args}
use Rattle.chc_tokens.specs.Queries.{goal_cube, goal_has_room, has_goal, has_places, has_used, may_use, query as token_query, query_in, used_form, used_has_room, used_have_room}
use Rattle.chc_tokens.specs.declared.goal.Goal.{Goal}
use Rattle.chc_tokens.specs.declared.used.Used.{Used as UsedLemma}
use Rattle.book_rules.specs.Queries.{Used, args_of, query}
use Rattle.book_rules.specs.Same.{same_form}
use Rattle.book_rules.specs.StallRules.{has_used_atoms}
use Rattle.step_rules.specs.Tokens.{all_used}
use Rattle.cube_rules.specs.machinery.Literals.{fits_step, form_fits}
use Rattle.step_rules.specs.machinery.Literals.{lemmas_are_short}
use Rattle.cube_rules.proofs.Public.{fits-And, fits-Or}
use Rattle.cube_rules.proofs.Public.{constant-at, form-wide, long-short, negated-short}
use Rattle.cube_rules.proofs.Public.{both_true, from_both, still_false}

-- the query is the same in both

args-alike : (found : Option Atom) → token_args found ≡ args_of found
args-alike None = refl
args-alike (Some atom) = refl

used-alike : (atoms : List Atom) (used : List UsedLemma) → map (used_form atoms) used ≡ map (λ (u : Used). lemma_at (args_of (slice_get atoms u.atom)) u.cube) (all_used used)
used-alike atoms [] = refl
used-alike atoms (u ∷ used) = ap₂ (λ (f : Form) (fs : List Form). f ∷ fs) (ap (λ (args : List ℕ). lemma_at args u.lemma) (args-alike (slice_get atoms u.atom))) (used-alike atoms used)

query-alike : (clause : Clause) (goal : Goal) (used : List UsedLemma) → token_query clause goal used ≡ query clause (goal_cube goal) (all_used used)
query-alike clause goal used = ap₂ (λ (args : List ℕ) (fs : List Form). And (And (clause.guard ∷ map Literal (cube_at args (goal_cube goal))) ∷ fs)) (args-alike clause.head) (used-alike clause.atoms used)

-- where it is found

chosen : (b : Bool) (form found : Form) → cond {A = Option Form} b (Some form) None ≡ Some found → (b ≡ true) × (form ≡ found)
chosen true form found h = (refl, cc)
chosen false form found h = absurd (cc)

missed : (b : Bool) (form : Form) → cond {A = Option Form} b (Some form) None ≡ None → b ≡ false
missed true form h = absurd (cc)
missed false form h = refl

there-atom : (found : Option Atom) (cube : List Lit) → has_places found cube ≡ true → is_some found ≡ true
there-atom None cube h = absurd (cc)
there-atom (Some atom) cube h = refl

there-used : (clause : Clause) (used : List UsedLemma) → has_used clause.atoms used ≡ true → has_used_atoms clause (all_used used) ≡ true
there-used clause [] h = refl
there-used clause (u ∷ used) h =
    let both = both_true (has_places (slice_get clause.atoms u.atom) u.lemma) (has_used clause.atoms used) h in
    from_both (is_some (slice_get clause.atoms u.atom)) (has_used_atoms clause (all_used used)) (there-atom (slice_get clause.atoms u.atom) u.lemma both.0) (there-used clause used both.1)

pub query-found : (clause : Clause) (goal : Goal) (used : List UsedLemma) (form : Form) → query_in (Some clause) goal used ≡ Some form → (form ≡ query clause (goal_cube goal) (all_used used)) × (has_used_atoms clause (all_used used) ≡ true)
query-found clause goal used form found =
    let is = chosen (has_goal clause goal && may_use clause goal used) (token_query clause goal used) form found in
    let may = (both_true (has_goal clause goal) (may_use clause goal used) is.0).1 in
    let parts = both_true (has_used clause.atoms used && goal_has_room clause goal) (used_have_room clause.atoms used) may in
    let has = (both_true (has_used clause.atoms used) (goal_has_room clause goal) parts.0).0 in
    (sym is.1 ∙ query-alike clause goal used, there-used clause used has)

-- a form whose literals have room is of literals with room

fits-Literal : (lit : Lit) → form_fits (Literal lit) ≡ lit_fits lit
unfolding roll-Form roll
fits-Literal lit = fold-roll-Form Bool fits_step (Form-F.Lit lit)

fits-literals : (lits : List Lit) → list_all form_fits (map Literal lits) ≡ list_all lit_fits lits
fits-literals [] = refl
fits-literals (x ∷ lits) = ap₂ (λ b c. b && c) (fits-Literal x) (fits-literals lits)

fits-or : (lits : List Lit) → form_fits (or_of (map Literal lits)) ≡ true → list_all lit_fits lits ≡ true
fits-or [] h = refl
fits-or (x ∷ []) h = from_both (lit_fits x) true (sym (fits-Literal x) ∙ h) refl
fits-or (x ∷ y ∷ lits) h = sym (fits-literals (x ∷ y ∷ lits)) ∙ sym (fits-Or (map Literal (x ∷ y ∷ lits))) ∙ h

all-both : (xs ys : List Lit) → list_all lit_fits (xs ++ ys) ≡ true → (list_all lit_fits xs ≡ true) × (list_all lit_fits ys ≡ true)
all-both [] ys h = (refl, h)
all-both (x ∷ xs) ys h =
    let both = both_true (lit_fits x) (list_all lit_fits (xs ++ ys)) h in
    let rest = all-both xs ys both.1 in
    (from_both (lit_fits x) (list_all lit_fits xs) both.0 rest.0, rest.1)

fits-back : (lit : Lit) → is_short (linear_of lit).constant ≡ true → list_all lit_fits (denial lit) ≡ true → lit_fits lit ≡ true
fits-back (Le lin) short h =
    let first = (both_true (lit_fits (Le (plus (negated lin) _))) true h).0 in
    let terms = (both_true (are_short (negated lin).terms) _ first).0 in
    from_both (are_short lin.terms) (is_long lin.constant) (sym (negated-short lin.terms) ∙ terms) (long-short lin.constant short)
fits-back (Eq lin) short h =
    let first = (both_true (lit_fits (Le (plus lin _))) _ h).0 in
    let terms = (both_true (are_short lin.terms) _ first).0 in
    from_both (are_short lin.terms) (is_long lin.constant) terms (long-short lin.constant short)
fits-back (Div d lin) short h = (both_true (lit_fits (NDiv d lin)) true h).0
fits-back (NDiv d lin) short h = (both_true (lit_fits (Div d lin)) true h).0

room-back : (args : List ℕ) (cube : List Lit) → cube_is_short cube ≡ true → list_all lit_fits (denials args cube) ≡ true → has_room args cube ≡ true
room-back args [] short h = refl
room-back args (x ∷ cube) short h =
    let shorts = both_true (lit_is_short x) (cube_is_short cube) short in
    let constant = (both_true (are_short (linear_of x).terms) (is_short (linear_of x).constant) shorts.0).1 in
    let parts = all-both (denial (lit_at args x)) (denials args cube) h in
    from_both (lit_fits (lit_at args x)) (has_room args cube) (fits-back (lit_at args x) (constant-at args x constant) parts.0) (room-back args cube shorts.1 parts.1)

abbrev pub AreShort : List UsedLemma → Type 0
AreShort used = lemmas_are_short used ≡ true

used-back : (atoms : List Atom) (used : List UsedLemma) → AreShort used → list_all form_fits (map (used_form atoms) used) ≡ true → used_have_room atoms used ≡ true
used-back atoms [] short h = refl
used-back atoms (u ∷ used) short h =
    let shorts = both_true (cube_is_short u.lemma) (lemmas_are_short used) short in
    let parts = both_true (form_fits (used_form atoms u)) (list_all form_fits (map (used_form atoms) used)) h in
    let args = token_args (slice_get atoms u.atom) in
    from_both (used_has_room atoms u) (used_have_room atoms used) (room-back args u.lemma shorts.0 (fits-or (denials args u.lemma) parts.0)) (used-back atoms used shorts.1 parts.1)

query-back : (clause : Clause) (goal : Goal) (used : List UsedLemma) → AreShort used → form_fits (token_query clause goal used) ≡ true → (goal_has_room clause goal && used_have_room clause.atoms used) ≡ true
query-back clause goal used short h =
    let lits = cube_at (token_args clause.head) (goal_cube goal) in
    let first = And (clause.guard ∷ map Literal lits) in
    let forms = map (used_form clause.atoms) used in
    let parts = both_true (form_fits first) (list_all form_fits forms) (sym (fits-And (first ∷ forms)) ∙ h) in
    let inner = both_true (form_fits clause.guard) (list_all form_fits (map Literal lits)) (sym (fits-And (clause.guard ∷ map Literal lits)) ∙ parts.0) in
    from_both (goal_has_room clause goal) (used_have_room clause.atoms used) (sym (fits-literals lits) ∙ inner.1) (used-back clause.atoms used short parts.1)

-- where it isn't found

regrouped : (a b c : Bool) → (a && b && c) ≡ false → a ≡ true → (b && c) ≡ false
regrouped true b c h is = h
regrouped false b c h is = absurd (true≢false (sym is))

behind : (a b : Bool) → (a && b) ≡ false → a ≡ true → b ≡ false
behind true b h is = h
behind false b h is = absurd (true≢false (sym is))

pub query-missing : (clause : Clause) (goal : Goal) (used : List UsedLemma) (kept : Form) → query_in (Some clause) goal used ≡ None → form_fits kept ≡ true → has_goal clause goal ≡ true → AreShort used
    → (has_used_atoms clause (all_used used) ≡ true → has_used clause.atoms used ≡ true) → (has_used_atoms clause (all_used used) && same_form kept (query clause (goal_cube goal) (all_used used))) ≡ false
query-missing clause goal used kept none room goes short places = by (has_used_atoms clause (all_used used)) refl where
  may : may_use clause goal used ≡ false
  may = behind (has_goal clause goal) (may_use clause goal used) (missed (has_goal clause goal && may_use clause goal used) (token_query clause goal used) none) goes

  by : (b : Bool) → has_used_atoms clause (all_used used) ≡ b → (has_used_atoms clause (all_used used) && same_form kept (query clause (goal_cube goal) (all_used used))) ≡ false
  by false is = ap (λ b. b && same_form kept (query clause (goal_cube goal) (all_used used))) is
  by true is =
      let wide = regrouped (has_used clause.atoms used) (goal_has_room clause goal) (used_have_room clause.atoms used) may (places is) in
      let apart : form_fits (token_query clause goal used) ≡ false = still_false (goal_has_room clause goal && used_have_room clause.atoms used) (form_fits (token_query clause goal used)) (query-back clause goal used short) wide in
      ap (λ b. b && same_form kept (query clause (goal_cube goal) (all_used used))) is
      ∙ ap (same_form kept) (sym (query-alike clause goal used))
      ∙ form-wide kept (token_query clause goal used) room apart
