-- Places: each legal step whose cubes are over their predicates keeps those of the book so.
use Rattle.std.proofs.Common.{◌≡◌, ℕ, List, [], ◌∷◌, length, Bool, true, false, ◌&&◌, ◌||◌, not, cond, Some, None, refl, ap, sym, ◌∙◌, arith}
use Rattle.std.specs.Prelude.{Option, ℤ, ◌==◌, nat_le, option_map, slice_get}
use Rattle.std.specs.List.{list_all}
use Rattle.std.proofs.lemmas.Bool.{eqb-true}
use Rattle.std.proofs.lemmas.Bool.Decides.{nat_tests}
use mathlib.Core.Bool.{true≢false}
use Rattle.term_tree.specs.declared.sort.Sort.{Sort}
use Rattle.lin_atoms.specs.declared.lit.Lit.{Lit}
use Rattle.clause_form.specs.System.{Clauses, is_system, is_clause, is_atom}
use Rattle.clause_form.specs.System.{is_head as is_head_of}
use Rattle.clause_form.specs.declared.atom.Atom.{Atom}
use Rattle.clause_form.specs.declared.clause.Clause.{Clause}
use Rattle.clause_form.specs.Kept.{Keeps}
use Rattle.clause_form.proofs.Public.{keeps, keeps_atom}
use Rattle.cube_forms.specs.Cubes.{cube_holds, cube_is_below, tuple_at}
use Rattle.book_rules.specs.declared.by.By.TheVariants.{Obligation as ByObligation, Step as ByStep}
use Rattle.book_rules.specs.Walks.{AllOf, has, on}
use Rattle.book_rules.specs.Frames.{Framed}
use Rattle.book_rules.specs.Queries.{args_of}
use Rattle.book_rules.specs.Proofs.{is_head}
use Rattle.book_rules.specs.State.{Obligation, State, is_of, opening, unless_live}
use Rattle.book_rules.specs.Steps.{LemmaStep, OpenStep, Step}
use Rattle.book_rules.specs.OpenRules.{clause_of, tuple_of}
use Rattle.book_rules.specs.StrengthenRules.{rule_80}
use Rattle.book_rules.specs.LemmaRules.{closes, rule_10, rule_11, rule_12, rule_13, rule_14}
use Rattle.book_rules.specs.Rules.{broken, broken_lemma}
use Rattle.book_rules.specs.Effects.{after, child_of}
use Rattle.book_rules.specs.Legal.{AreLegal, replay}
use Rattle.book_rules.specs.Reached.{has_places_of, have_places}
use Rattle.book_rules.specs.Places.{places_of, is_over, is_over_atom, is_within, has_places, shown_has_places, obligation_fits, AreOver}
use Rattle.book_rules.proofs.ListLemmas.{both_true, from_both, all_at, all_of-at, all_tested, all_weaken, unless_none}
use Rattle.book_rules.proofs.SoundLemmas.{unbroken}
use Rattle.book_rules.proofs.StepLemmas.{ChildHas, LemmaHas, steady-after, lemmas-after}

same_number : (n m : ℕ) → n ≡ m → (n == m) ≡ true
same_number n m is = grind (arith, nat_tests, is)

pub length_at : (point : List ℤ) (args : List ℕ) → length (tuple_at point args) ≡ length args
length_at point [] = refl
length_at point (v ∷ args) = let more = length_at point args in omega (arith, more)

-- the atom of a clause of a system has as many arguments as its predicate has places
pub atom_places : (preds : List (List Sort)) (n : ℕ) (atom : Atom) → is_atom preds n atom ≡ true → places_of preds (Some atom.pred) ≡ Some (length atom.args)
atom_places preds n atom h =
    let one = keeps_atom preds n atom h in
    ap (option_map (λ (sorts : List Sort). length sorts)) one.there ∙ ap (λ k. Some k) (sym one.each)

atom_there : (sys : Clauses) (number i : ℕ) (atom : Atom) (found : Option Clause) → is_system sys ≡ true → slice_get sys.clauses number ≡ found → on found (λ (clause : Clause). slice_get clause.atoms i) ≡ Some atom
    → places_of sys.preds (Some atom.pred) ≡ Some (length atom.args)
atom_there sys number i atom None system is there = absurd (cc)
atom_there sys number i atom (Some clause) system is there =
    let one = all_at (is_clause sys.preds) sys.clauses number clause is system in
    atom_places sys.preds (length clause.sorts) atom (all_at (is_atom sys.preds (length clause.sorts)) clause.atoms i atom there (keeps sys.preds clause one).atoms)

abbrev Fits : Clauses → Obligation → Type 0
Fits sys o = obligation_fits sys.preds o ≡ true

child_fits : (sys : Clauses) (o : OpenStep) (parent : Obligation) (atom : Atom) → places_of sys.preds (Some atom.pred) ≡ Some (length atom.args) → is_over sys.preds atom.pred o.cube ≡ true → Fits sys (child_of o parent atom)
child_fits sys o parent atom places over =
    let n = length atom.args in
    let below : cube_is_below n o.cube ≡ true = ap (λ (found : Option ℕ). has found (λ k. cube_is_below k o.cube)) (sym places) ∙ over in
    let long = same_number (length (tuple_of o atom)) n (length_at o.seen.point atom.args) in
    ap (λ (found : Option ℕ). has found (λ k. cube_is_below k o.cube && (length (tuple_of o atom) == k))) places ∙ from_both (cube_is_below n o.cube) _ below long

child_over : (sys : Clauses) (s : State) (step : Step) → is_system sys ≡ true → has_places sys step ≡ true → ChildHas (Fits sys) sys s step
child_over sys s (Step.Opens o) system places = λ parent atom there is.
    child_fits sys o parent atom (atom_there sys o.seen.clause o.atom atom (clause_of sys o) system refl is) (ap (λ (found : Option Atom). is_over_atom sys.preds found o.cube) (sym is) ∙ places)
child_over sys s (Step.Learns l) system places = tt
child_over sys s (Step.Records f) system places = tt
child_over sys s (Step.Lifts l) system places = tt
child_over sys s (Step.Raises r) system places = tt
child_over sys s (Step.Stalls t) system places = tt
child_over sys s (Step.Derives f) system places = tt
child_over sys s (Step.Strengthens l) system places = tt

abbrev LemmaFits : Clauses → Framed → Type 0
LemmaFits sys e = is_over sys.preds e.lemma.pred e.lemma.cube ≡ true

-- where nothing is asked of a predicate that isn't there, an obligation of the predicate shows that it is

within_has : (places : Option ℕ) (cube other : List Lit) (long : ℕ) → is_within places cube ≡ true → has places (λ n. cube_is_below n other && (long == n)) ≡ true → has places (λ n. cube_is_below n cube) ≡ true
within_has None cube other long within h = absurd (true≢false (sym h))
within_has (Some n) cube other long within h = within

own_over : (preds : List (List Sort)) (pred : ℕ) (cube other : List Lit) (long : ℕ) (of : Option ℕ) → is_of pred of ≡ true → is_within (places_of preds (Some pred)) cube ≡ true
    → has (places_of preds of) (λ n. cube_is_below n other && (long == n)) ≡ true → is_over preds pred cube ≡ true
own_over preds pred cube other long None of within h = absurd (true≢false (sym of))
own_over preds pred cube other long (Some p) of within h = within_has (places_of preds (Some pred)) cube other long within (ap (λ q. has (places_of preds (Some q)) (λ n. cube_is_below n other && (long == n))) (sym (eqb-true p pred of)) ∙ h)

closed_over : (sys : Clauses) (s : State) (l : LemmaStep) (found : Option Obligation) → slice_get s.obligations l.target ≡ found → AreOver sys s → is_within (places_of sys.preds (Some l.lemma.pred)) l.lemma.cube ≡ true
    → unless_live found ≡ None → on found (λ (o : Obligation). cond (closes l.lemma l.level o) None (Some (ByObligation l.target))) ≡ None → is_over sys.preds l.lemma.pred l.lemma.cube ≡ true
closed_over sys s l None there over within live told = absurd (cc)
closed_over sys s l (Some o) there over within live told =
    let shut = (unless_none (closes l.lemma l.level o) (ByObligation l.target) None told).0 in
    let of = (both_true (is_of l.lemma.pred o.pred) (nat_le o.level l.level) (both_true (is_of l.lemma.pred o.pred && nat_le o.level l.level) (cube_holds o.point l.lemma.cube) shut).0).0 in
    own_over sys.preds l.lemma.pred l.lemma.cube o.cube (length o.point) o.pred of within (all_of-at (Fits sys) s.obligations l.target o there over.obligations)

pub learnt-over : (sys : Clauses) (s : State) (l : LemmaStep) → AreOver sys s → has_places sys (Step.Learns l) ≡ true → broken_lemma sys s l ≡ None → is_over sys.preds l.lemma.pred l.lemma.cube ≡ true
learnt-over sys s l over places h =
    let r12 = (unbroken 12 (rule_12 sys s l) _ (unbroken 11 (rule_11 sys l) _ (unbroken 10 (rule_10 s l) _ h).1).1).1 in
    let r13 = unbroken 13 (rule_13 s l) _ r12 in
    closed_over sys s l (slice_get s.obligations l.target) refl over (both_true (is_within (places_of sys.preds (Some l.lemma.pred)) l.lemma.cube) (list_all (shown_has_places sys) l.proofs) places).0 r13.0 (unbroken 14 (rule_14 s l) None r13.1).0

pub over-within : (places : Option ℕ) (cube : List Lit) → has places (λ n. cube_is_below n cube) ≡ true → is_within places cube ≡ true
over-within None cube h = refl
over-within (Some n) cube h = h

-- rules ask it of a Lemma and of a Strengthen
lemma_over : (sys : Clauses) (s : State) (step : Step) → AreOver sys s → has_places sys step ≡ true → broken sys s step ≡ None → LemmaHas (LemmaFits sys) step
lemma_over sys s (Step.Opens o) over places legal = tt
lemma_over sys s (Step.Learns l) over places legal = learnt-over sys s l over places legal
lemma_over sys s (Step.Records f) over places legal = tt
lemma_over sys s (Step.Lifts l) over places legal = tt
lemma_over sys s (Step.Raises r) over places legal = tt
lemma_over sys s (Step.Stalls t) over places legal = tt
lemma_over sys s (Step.Derives f) over places legal = tt
lemma_over sys s (Step.Strengthens l) over places legal = (unless_none (is_over sys.preds l.lemma.pred l.lemma.cube) ByStep None (unbroken 80 (rule_80 sys l) _ legal).0).0

pub over-after : (sys : Clauses) (s : State) (step : Step) → is_system sys ≡ true → AreOver sys s → has_places sys step ≡ true → broken sys s step ≡ None → AreOver sys (after sys s step)
over-after sys s step system over places legal = record {
  lemmas = lemmas-after (LemmaFits sys) (λ e level h. h) sys s step over.lemmas (lemma_over sys s step over places legal);
  obligations = steady-after (Fits sys) (λ o level closed stalled h. h) sys s step over.obligations (child_over sys s step system places);
}

pub over-replay : (sys : Clauses) (s : State) (steps : List Step) → is_system sys ≡ true → AreOver sys s → AllOf (λ step. has_places sys step ≡ true) steps → AreLegal sys s steps → AreOver sys (replay sys s steps)
over-replay sys s [] system over places legal = over
over-replay sys s (step ∷ steps) system over places legal = over-replay sys (after sys s step) steps system (over-after sys s step system over places.0 (legal.0).unbroken) places.1 legal.1

pub over-opening : (sys : Clauses) (units : ℕ) → AreOver sys (opening units)
over-opening sys units = record { lemmas = tt; obligations = (refl, tt) }

-- what an Open reads of the book

below_there : (preds : List (List Sort)) (pred n : ℕ) (cube : List Lit) → places_of preds (Some pred) ≡ Some n → is_over preds pred cube ≡ true → cube_is_below n cube ≡ true
below_there preds pred n cube places over = ap (λ (found : Option ℕ). has found (λ k. cube_is_below k cube)) (sym places) ∙ over

head_below : (preds : List (List Sort)) (n long : ℕ) (pred : Option ℕ) (cube : List Lit) (head : Option Atom) → is_head pred head ≡ true → is_head_of preds n head ≡ true
    → has (places_of preds pred) (λ k. cube_is_below k cube && (long == k)) ≡ true → cube_is_below (length (args_of head)) cube ≡ true
head_below preds n long None cube None is of h = (both_true (cube_is_below 0 cube) (long == 0) h).0
head_below preds n long None cube (Some atom) is of h = absurd (true≢false (sym is))
head_below preds n long (Some p) cube None is of h = absurd (true≢false (sym is))
head_below preds n long (Some p) cube (Some atom) is of h =
    let same : p ≡ atom.pred = eqb-true p atom.pred is in
    let places : places_of preds (Some p) ≡ Some (length atom.args) = ap (λ q. places_of preds (Some q)) same ∙ atom_places preds n atom of in
    (both_true (cube_is_below (length atom.args) cube) (long == length atom.args) (ap (λ (found : Option ℕ). has found (λ k. cube_is_below k cube && (long == k))) (sym places) ∙ h)).0

lemma_below : (preds : List (List Sort)) (e : Framed) (atom : Atom) → places_of preds (Some atom.pred) ≡ Some (length atom.args) → is_over preds e.lemma.pred e.lemma.cube ≡ true → has_places_of e atom ≡ true
lemma_below preds e atom places over = by_pred (e.lemma.pred == atom.pred) refl where
  by_pred : (b : Bool) → (e.lemma.pred == atom.pred) ≡ b → (not b || cube_is_below (length atom.args) e.lemma.cube) ≡ true
  by_pred true is =
      let same : e.lemma.pred ≡ atom.pred = eqb-true e.lemma.pred atom.pred is in
      below_there preds e.lemma.pred (length atom.args) e.lemma.cube (ap (λ q. places_of preds (Some q)) same ∙ places) over
  by_pred false is = refl

pub places-have : (sys : Clauses) (s : State) (number : ℕ) (parent : Obligation) (clause : Clause) → AreOver sys s → is_clause sys.preds clause ≡ true → slice_get s.obligations number ≡ Some parent → is_head parent.pred clause.head ≡ true
    → have_places s.lemmas parent clause ≡ true
places-have sys s number parent clause over one there head =
    let of_clause : Keeps sys.preds clause = keeps sys.preds clause one in
    let n = length clause.sorts in
    let fits = all_of-at (Fits sys) s.obligations number parent there over.obligations in
    from_both (cube_is_below (length (args_of clause.head)) parent.cube) _ (head_below sys.preds n (length parent.point) parent.pred parent.cube clause.head head of_clause.head fits)
    (all_weaken (is_atom sys.preds n) (λ (atom : Atom). list_all (λ e. has_places_of e atom) s.lemmas)
    (λ atom is. all_tested (LemmaFits sys) (λ e. has_places_of e atom) (λ e h. lemma_below sys.preds e atom (atom_places sys.preds n atom is) h) s.lemmas over.lemmas) clause.atoms of_clause.atoms)
