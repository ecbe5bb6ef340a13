-- A query that may be asked, and what the solver asks of it.
use Rattle.std.proofs.Common.{◌≡◌, ℕ, List, [], ◌∷◌, map, length, Bool, true, false, ◌&&◌, cond, Some, None, refl, ap, sym, ◌∙◌, subst}
use Rattle.std.specs.Prelude.{Option, is_some, nat_lt, slice_get, ◌==◌}
use Rattle.std.specs.List.{list_all}
use mathlib.Core.Bool.{true≢false}
use Rattle.lin_atoms.specs.Truth.{is_below}
use Rattle.lin_atoms.specs.declared.lit.Lit.{Lit}
use Rattle.lin_atoms.specs.declared.form.Form.{Form}
use Rattle.lin_atoms.specs.declared.form.Form.TheVariants.{Lit as Literal}
use Rattle.lin_atoms.proofs.Public.{is_below-And}
use Rattle.term_tree.specs.declared.sort.Sort.{Sort}
use Rattle.clause_form.specs.System.{Clauses, is_atom, is_clause}
use Rattle.clause_form.specs.System.{is_head as is_head_of}
use Rattle.clause_form.specs.declared.atom.Atom.{Atom}
use Rattle.clause_form.specs.declared.clause.Clause.{Clause}
use Rattle.clause_form.proofs.Public.{keeps, keeps_atom}
use Rattle.cube_forms.specs.Cubes.{cube_at, cube_is_below, cube_is_short, has_room, lemma_at}
use Rattle.cube_forms.proofs.Public.{thin-room}
use Rattle.lemma_frames.specs.declared.framed.Framed.{Framed}
use Rattle.chc_tokens.specs.Instances.{token_args}
use Rattle.chc_tokens.specs.Queries.{base, base_at, base_in, forms_at, forms_in, goal_cube, goal_has_room, has_goal, has_places, has_used, used_form, used_has_room, used_have_room}
use Rattle.chc_tokens.specs.declared.goal.Goal.{Goal}
use Rattle.chc_tokens.specs.declared.goal.Goal.TheVariants.{Query, Holds}
use Rattle.chc_tokens.specs.declared.used.Used.{Used}
use Rattle.lia_search.specs.Decides.{has_short_multiples}
use Rattle.lia_search.proofs.Public.{short-And}
use Rattle.book_rules.specs.Areas.{is_wide}
use Rattle.book_rules.specs.Frames.{Framed as FramedLemma}
use Rattle.book_rules.specs.Places.{is_over, places_of}
use Rattle.book_rules.specs.Proofs.{is_head}
use Rattle.book_rules.specs.Walks.{AllOf, has}
use Rattle.book_rules.proofs.ListLemmas.{all_at, both_true, from_both}
use Rattle.book_rules.proofs.OverLemmas.{atom_places}
use Rattle.cube_rules.specs.Views.{lemmas_of}
use Rattle.clause_queries.specs.Answers.{GoalFits, MayAskAll}
use Rattle.clause_queries.specs.Kept.{are_linear, is_kept, lemma_is_kept}
use Rattle.clause_queries.specs.Uses.{AreUses, IsAskedAt, is_asked, uses}
use Rattle.clause_queries.specs.machinery.Asking.{MayAsk}
use Rattle.clause_queries.proofs.BoolLemmas.{number_is, same_some}
use Rattle.clause_queries.proofs.FormLemmas.{below-lemma, below-literals, cube-at, short-cube, short-guard, short-lemma, short-literals}
use Rattle.clause_queries.proofs.NeedLemmas.{of-uses}
use Rattle.clause_queries.proofs.UseLemmas.{thin-cube, uses-all, uses_on-all}

-- a cube over a predicate, on an atom of it: it has the atom's places, and room there
pub record FitsOn (args : List ℕ) (cube : List Lit) : Type 0 where
  pub places : cube_is_below (length args) cube ≡ true
  pub room : has_room args cube ≡ true

pub fits-on : (preds : List (List Sort)) (n : ℕ) (atom : Atom) (pred : ℕ) (cube : List Lit) → is_atom preds n atom ≡ true → (pred == atom.pred) ≡ true → is_over preds pred cube ≡ true → is_wide cube ≡ false → is_kept cube ≡ true
    → FitsOn atom.args cube
fits-on preds n atom pred cube one same over thin kept =
    let is : pred ≡ atom.pred = number_is pred atom.pred same in
    let there : places_of preds (Some pred) ≡ Some (length atom.args) = ap (λ (p : ℕ). places_of preds (Some p)) is ∙ atom_places preds n atom one in
    let places : cube_is_below (length atom.args) cube ≡ true = ap (λ (o : Option ℕ). has o (λ m. cube_is_below m cube)) (sym there) ∙ over in
    record { places = places; room = thin-room atom.args cube (keeps_atom preds n atom one).few (thin-cube cube thin (both_true _ _ kept).0) places }

-- the parts of an option that is there by a test
some-if : {X : Type 0} (b : Bool) (x : X) → b ≡ true → is_some (cond {A = Option X} b (Some x) None) ≡ true
some-if true x h = refl
some-if false x h = absurd (true≢false (sym h))

found-if : {X : Type 0} (b : Bool) (x y : X) → cond {A = Option X} b (Some x) None ≡ Some y → (b ≡ true) × (x ≡ y)
found-if true x y h = (refl, same_some x y h)
found-if false x y h = absurd (cc)

-- the goal at the head

pub head-goal : (preds : List (List Sort)) (n : ℕ) (pred : Option ℕ) (goal : Goal) (head : Option Atom) → GoalFits preds pred goal → is_kept (goal_cube goal) ≡ true → is_head pred head ≡ true → is_head_of preds n head ≡ true
    → (cube_is_below (length (token_args head)) (goal_cube goal) ≡ true) × (has_room (token_args head) (goal_cube goal) ≡ true)
head-goal preds n pred Query head fits kept is one = (refl, refl)
head-goal preds n pred (Holds cube) None fits kept is one = absurd (true≢false (sym (ap (λ (p : Option ℕ). is_head p None) (sym fits.1) ∙ is)))
head-goal preds n pred (Holds cube) (Some atom) fits kept is one =
    let same : (fits.0 == atom.pred) ≡ true = ap (λ (p : Option ℕ). is_head p (Some atom)) (sym fits.1) ∙ is in
    let on = fits-on preds n atom fits.0 cube one same fits.2 fits.3 kept in
    (on.places, on.room)

pub has-goal : (preds : List (List Sort)) (n : ℕ) (pred : Option ℕ) (goal : Goal) (clause : Clause) → GoalFits preds pred goal → is_kept (goal_cube goal) ≡ true → is_head pred clause.head ≡ true → is_head_of preds n clause.head ≡ true → has_goal clause goal ≡ true
has-goal preds n pred Query clause fits kept is one = refl
has-goal preds n pred (Holds cube) clause fits kept is one = by clause.head is one
  where
    by : (head : Option Atom) → is_head pred head ≡ true → is_head_of preds n head ≡ true → has_places head cube ≡ true
    by None h k = absurd (true≢false (sym (ap (λ (p : Option ℕ). is_head p None) (sym fits.1) ∙ h)))
    by (Some atom) h k = (head-goal preds n pred (Holds cube) (Some atom) fits kept h k).0

-- the uses on body atoms

pub record IsUsable (preds : List (List Sort)) (f : Framed) : Type 0 where
  pub over : is_over preds f.pred f.lemma ≡ true
  pub thin : is_wide f.lemma ≡ false
  pub kept : is_kept f.lemma ≡ true

pub usable : (preds : List (List Sort)) (fs : List Framed) → AllOf (λ (e : FramedLemma). is_over preds e.lemma.pred e.lemma.cube ≡ true) (lemmas_of fs) → AllOf (λ (f : Framed). is_wide f.lemma ≡ false) fs
    → list_all lemma_is_kept fs ≡ true → AllOf (IsUsable preds) fs
usable preds [] over thin kept = tt
usable preds (f ∷ fs) over thin kept =
    let both = both_true (is_kept f.lemma) _ kept in
    (record { over = over.0; thin = thin.0; kept = both.0 }, usable preds fs over.1 thin.1 both.1)

uses-have : (sys : Clauses) (k : ℕ) (fs : List Framed) (clause : Clause) (test : Used → Bool) → is_clause sys.preds clause ≡ true → AllOf (IsUsable sys.preds) fs
    → ((n : ℕ) (atom : Atom) (f : Framed) → slice_get clause.atoms n ≡ Some atom → FitsOn atom.args f.lemma → is_kept f.lemma ≡ true → test (record { atom = n; lemma = f.lemma }) ≡ true)
    → list_all test (uses k fs clause) ≡ true
uses-have sys k fs clause test one all each =
    uses-all test k fs clause.atoms (λ n atom there. uses_on-all test (IsUsable sys.preds) k n atom.pred
    (λ f is level same. let its = all_at (is_atom sys.preds (length clause.sorts)) clause.atoms n atom there (keeps sys.preds clause one).atoms in
    each n atom f there (fits-on sys.preds (length clause.sorts) atom f.pred f.lemma its same is.over is.thin is.kept) is.kept) fs all)

used-places : (sys : Clauses) (k : ℕ) (fs : List Framed) (clause : Clause) → is_clause sys.preds clause ≡ true → AllOf (IsUsable sys.preds) fs → has_used clause.atoms (uses k fs clause) ≡ true
used-places sys k fs clause one all =
    uses-have sys k fs clause (λ (u : Used). has_places (slice_get clause.atoms u.atom) u.lemma) one all (λ n atom f there on kept. ap (λ (o : Option Atom). has_places o f.lemma) there ∙ on.places)

used-room : (sys : Clauses) (k : ℕ) (fs : List Framed) (clause : Clause) → is_clause sys.preds clause ≡ true → AllOf (IsUsable sys.preds) fs → used_have_room clause.atoms (uses k fs clause) ≡ true
used-room sys k fs clause one all =
    uses-have sys k fs clause (used_has_room clause.atoms) one all (λ n atom f there on kept. ap (λ (o : Option Atom). has_room (token_args o) f.lemma) there ∙ on.room)

used-short : (sys : Clauses) (k : ℕ) (fs : List Framed) (clause : Clause) → is_clause sys.preds clause ≡ true → AllOf (IsUsable sys.preds) fs → list_all (λ (u : Used). cube_is_short u.lemma) (uses k fs clause) ≡ true
used-short sys k fs clause one all = uses-have sys k fs clause (λ (u : Used). cube_is_short u.lemma) one all (λ n atom f there on kept. (both_true _ _ kept).1)

pub may-ask : (sys : Clauses) (fs : List Framed) (pred : Option ℕ) (goal : Goal) (k n : ℕ) (clause : Clause) (used : List Used) → MayAskAll sys fs pred goal → is_clause sys.preds clause ≡ true → list_all lemma_is_kept fs ≡ true → is_kept (goal_cube goal) ≡ true
    → slice_get sys.clauses n ≡ Some clause → is_asked pred k clause ≡ true → AreUses k fs clause used → MayAsk sys n goal used
may-ask sys fs pred goal k n clause used asks one kept goal_kept there asked are =
    let its = keeps sys.preds clause one in
    let all = usable sys.preds fs asks.over asks.thin kept in
    let headed = (both_true (is_head pred clause.head) _ asked).0 in
    let at_head = head-goal sys.preds (length clause.sorts) pred goal clause.head asks.fits goal_kept headed its.head in
    let goal_there = has-goal sys.preds (length clause.sorts) pred goal clause asks.fits goal_kept headed its.head in
    record {
      base = ap (λ (o : Option Clause). is_some (base_in o goal)) there ∙ some-if (has_goal clause goal && goal_has_room clause goal) (base clause goal) (from_both (has_goal clause goal) _ goal_there at_head.1);
      forms = ap (λ (o : Option Clause). is_some (forms_in o used)) there
          ∙ some-if (has_used clause.atoms used && used_have_room clause.atoms used) (map (used_form clause.atoms) used)
          (from_both (has_used clause.atoms used) _ (of-uses k fs clause used (λ (u : Used). has_places (slice_get clause.atoms u.atom) u.lemma) are (used-places sys k fs clause one all))
          (of-uses k fs clause used (used_has_room clause.atoms) are (used-room sys k fs clause one all)));
      goal_short = (both_true (are_linear (goal_cube goal)) _ goal_kept).1;
      used_short = of-uses k fs clause used (λ (u : Used). cube_is_short u.lemma) are (used-short sys k fs clause one all);
    }

-- what the solver asks of the forms

pub base-parts : (sys : Clauses) (n : ℕ) (clause : Clause) (goal : Goal) (form : Form) → slice_get sys.clauses n ≡ Some clause → base_at sys n goal ≡ Some form → (has_goal clause goal ≡ true) × (goal_has_room clause goal ≡ true) × (base clause goal ≡ form)
base-parts sys n clause goal form there is =
    let found = found-if (has_goal clause goal && goal_has_room clause goal) (base clause goal) form (ap (λ (o : Option Clause). base_in o goal) (sym there) ∙ is) in
    let both = both_true (has_goal clause goal) _ found.0 in
    (both.0, both.1, found.1)

goal-places : (clause : Clause) (goal : Goal) → has_goal clause goal ≡ true → cube_is_below (length (token_args clause.head)) (goal_cube goal) ≡ true
goal-places clause Query h = refl
goal-places clause (Holds cube) h = by clause.head h
  where
    by : (head : Option Atom) → has_places head cube ≡ true → cube_is_below (length (token_args head)) cube ≡ true
    by None k = absurd (true≢false (sym k))
    by (Some atom) k = k

head-args : (preds : List (List Sort)) (n : ℕ) (head : Option Atom) → is_head_of preds n head ≡ true → list_all (λ v. nat_lt v n) (token_args head) ≡ true
head-args preds n None h = refl
head-args preds n (Some atom) h = (keeps_atom preds n atom h).below

pub base-below : (sys : Clauses) (n : ℕ) (clause : Clause) (goal : Goal) (form : Form) → is_clause sys.preds clause ≡ true → slice_get sys.clauses n ≡ Some clause → base_at sys n goal ≡ Some form → is_below (length clause.sorts) form ≡ true
base-below sys n clause goal form one there is =
    let its = keeps sys.preds clause one in
    let parts = base-parts sys n clause goal form there is in
    let lits = cube_at (token_args clause.head) (goal_cube goal) in
    ap (is_below (length clause.sorts)) (sym parts.2) ∙ is_below-And (length clause.sorts) (clause.guard ∷ map Literal lits)
    ∙ from_both _ _ its.below (below-literals (length clause.sorts) lits (cube-at (λ v. nat_lt v (length clause.sorts)) (token_args clause.head) (goal_cube goal) (head-args sys.preds (length clause.sorts) clause.head its.head) (goal-places clause goal parts.0)))

pub base-short : (sys : Clauses) (n : ℕ) (clause : Clause) (goal : Goal) (form : Form) → is_clause sys.preds clause ≡ true → slice_get sys.clauses n ≡ Some clause → base_at sys n goal ≡ Some form → cube_is_short (goal_cube goal) ≡ true → has_short_multiples form ≡ true
base-short sys n clause goal form one there is short =
    let its = keeps sys.preds clause one in
    let parts = base-parts sys n clause goal form there is in
    let lits = cube_at (token_args clause.head) (goal_cube goal) in
    ap has_short_multiples (sym parts.2) ∙ short-And (clause.guard ∷ map Literal lits)
    ∙ from_both _ _ (sym (short-guard clause.guard) ∙ its.short) (short-literals lits (short-cube (token_args clause.head) (goal_cube goal) short))

pub forms-parts : (sys : Clauses) (n : ℕ) (clause : Clause) (used : List Used) (forms : List Form) → slice_get sys.clauses n ≡ Some clause → forms_at sys n used ≡ Some forms → (has_used clause.atoms used ≡ true) × (map (used_form clause.atoms) used ≡ forms)
forms-parts sys n clause used forms there is =
    let found = found-if (has_used clause.atoms used && used_have_room clause.atoms used) (map (used_form clause.atoms) used) forms (ap (λ (o : Option Clause). forms_in o used) (sym there) ∙ is) in
    ((both_true (has_used clause.atoms used) _ found.0).0, found.1)

atom-form-below : (preds : List (List Sort)) (n : ℕ) (atoms : List Atom) (u : Used) → list_all (is_atom preds n) atoms ≡ true → has_places (slice_get atoms u.atom) u.lemma ≡ true → is_below n (used_form atoms u) ≡ true
atom-form-below preds n atoms u all h = by (slice_get atoms u.atom) refl h
  where
    by : (o : Option Atom) → slice_get atoms u.atom ≡ o → has_places o u.lemma ≡ true → is_below n (lemma_at (token_args o) u.lemma) ≡ true
    by None there k = absurd (true≢false (sym k))
    by (Some atom) there k = below-lemma n atom.args u.lemma (keeps_atom preds n atom (all_at (is_atom preds n) atoms u.atom atom there all)).below k

all-forms-below : (preds : List (List Sort)) (n : ℕ) (atoms : List Atom) (used : List Used) → list_all (is_atom preds n) atoms ≡ true → has_used atoms used ≡ true → list_all (is_below n) (map (used_form atoms) used) ≡ true
all-forms-below preds n atoms [] all h = refl
all-forms-below preds n atoms (u ∷ used) all h = let both = both_true (has_places (slice_get atoms u.atom) u.lemma) _ h in from_both _ _ (atom-form-below preds n atoms u all both.0) (all-forms-below preds n atoms used all both.1)

pub forms-below : (sys : Clauses) (n : ℕ) (clause : Clause) (used : List Used) (forms : List Form) → is_clause sys.preds clause ≡ true → slice_get sys.clauses n ≡ Some clause → forms_at sys n used ≡ Some forms → list_all (is_below (length clause.sorts)) forms ≡ true
forms-below sys n clause used forms one there is =
    let its = keeps sys.preds clause one in
    let parts = forms-parts sys n clause used forms there is in
    ap (list_all (is_below (length clause.sorts))) (sym parts.1) ∙ all-forms-below sys.preds (length clause.sorts) clause.atoms used its.atoms parts.0

all-forms-short : (atoms : List Atom) (used : List Used) → list_all (λ (u : Used). cube_is_short u.lemma) used ≡ true → list_all has_short_multiples (map (used_form atoms) used) ≡ true
all-forms-short atoms [] h = refl
all-forms-short atoms (u ∷ used) h = let both = both_true (cube_is_short u.lemma) _ h in from_both _ _ (short-lemma (token_args (slice_get atoms u.atom)) u.lemma both.0) (all-forms-short atoms used both.1)

pub forms-short : (sys : Clauses) (n : ℕ) (clause : Clause) (used : List Used) (forms : List Form) → slice_get sys.clauses n ≡ Some clause → forms_at sys n used ≡ Some forms → list_all (λ (u : Used). cube_is_short u.lemma) used ≡ true → list_all has_short_multiples forms ≡ true
forms-short sys n clause used forms there is short =
    let parts = forms-parts sys n clause used forms there is in
    ap (list_all has_short_multiples) (sym parts.1) ∙ all-forms-short clause.atoms used short

-- the same of what the code has in hand
pub may-ask-at : (sys : Clauses) (fs : List Framed) (pred : Option ℕ) (goal other : Goal) (k n : ℕ) (used : List Used) (clause : Clause) (at : IsAskedAt sys pred k n) → MayAskAll sys fs pred goal → slice_get sys.clauses n ≡ Some clause → is_clause sys.preds clause ≡ true
    → list_all lemma_is_kept fs ≡ true → is_kept (goal_cube goal) ≡ true → other ≡ goal → AreUses k fs clause used → MayAsk sys n other used
may-ask-at sys fs pred goal other k n used clause at asks there one kept goal_kept same are =
    let first : at.clause ≡ clause = (let both = sym at.there ∙ there in cc) in
    subst (λ (g : Goal). MayAsk sys n g used) (sym same) (may-ask sys fs pred goal k n clause used asks one kept goal_kept there (ap (is_asked pred k) (sym first) ∙ at.asked) are)
