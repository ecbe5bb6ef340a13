-- A refutation through each clause that is asked is what the rules want of a claim: a lemma, or, without one, false.
use Rattle.std.proofs.Common.{◌≡◌, ℕ, ◌+◌, zero, suc, List, [], ◌∷◌, Bool, true, false, ◌&&◌, ◌||◌, not, cond, Some, None, refl, ap, sym, ◌∙◌, subst, arith}
use Rattle.std.specs.Prelude.{Option, option_map, slice_get, nat_le, ◌==◌}
use Rattle.std.specs.List.{list_all, list_any}
use mathlib.Core.Bool.{true≢false}
use Rattle.term_tree.specs.declared.sort.Sort.{Sort}
use Rattle.clause_form.specs.System.{Clauses}
use Rattle.clause_form.specs.declared.atom.Atom.{Atom}
use Rattle.clause_form.specs.declared.clause.Clause.{Clause}
use Rattle.lemma_frames.specs.declared.framed.Framed.{Framed as KeptLemma}
use Rattle.chc_tokens.specs.Kept.{shown_clause, shown_goal, shown_used}
use Rattle.chc_tokens.specs.Tokens.{IsShownToken}
use Rattle.chc_tokens.specs.declared.goal.Goal.{Goal}
use Rattle.chc_tokens.specs.declared.goal.Goal.TheVariants.{Query, Holds}
use Rattle.chc_tokens.specs.declared.refuting.Shown.{Shown}
use Rattle.chc_tokens.specs.declared.used.Used.{Used as UsedLemma}
use Rattle.book_rules.specs.Frames.{Framed, Lemma, frame_has, same_lemma}
use Rattle.book_rules.specs.Places.{goal_has_places, is_over, is_over_atom, shown_has_places, used_has_places}
use Rattle.book_rules.specs.Proofs.{all_may_use, is_head, is_proof_of, may_use, misused, needs, pred_of, same_goal, unshown, unshown_from, used_lemma}
use Rattle.book_rules.specs.Steps.{Shown as PlainShown}
use Rattle.book_rules.specs.Walks.{AllOf, has, on}
use Rattle.book_rules.specs.declared.by.By.{By}
use Rattle.book_rules.specs.declared.by.By.TheVariants.{Clause as ByClause}
use Rattle.book_rules.proofs.Public.{cubes_equal}
use Rattle.cube_rules.specs.Views.{framed_of, lemmas_of}
use Rattle.cube_rules.proofs.Public.{both_true, from_both}
use Rattle.clause_queries.specs.Answers.{AreProofs, IsProof, is_through}
use Rattle.clause_queries.specs.Uses.{AreUses, use_of, uses}
use Rattle.clause_queries.proofs.Public.{either_left, either_right, number_is, of-uses, own_number, uses-all, uses_on-all}
use Rattle.step_rules.specs.Tokens.{all_shown, all_used, goal_of, shown_of, used_of}
use Rattle.obligation_turn.proofs.ListLemmas.{all_of-from, all_of-so, all-map, all-of-map, any-of-map, none-told}

-- uses of lemmas of F(k)

same-self : (l : Lemma) → same_lemma l l ≡ true
same-self l = from_both (l.pred == l.pred) _ (own_number l.pred) ((cubes_equal l.cube l.cube).1 refl)

in-frame : (k : ℕ) (fs : List KeptLemma) (i : ℕ) (f : KeptLemma) → slice_get fs i ≡ Some f → nat_le k f.level ≡ true → frame_has (lemmas_of fs) k (framed_of f).lemma ≡ true
in-frame k [] i f there level = absurd (cc)
in-frame k (g ∷ fs) zero f there level =
    let same : g ≡ f = cc in
    let here : (nat_le k g.level && same_lemma (framed_of g).lemma (framed_of f).lemma) ≡ true =
    from_both (nat_le k g.level) _ (ap (λ (x : KeptLemma). nat_le k x.level) same ∙ level) (ap (λ (x : KeptLemma). same_lemma (framed_of x).lemma (framed_of f).lemma) same ∙ same-self (framed_of f).lemma) in
    either_left (nat_le k g.level && same_lemma (framed_of g).lemma (framed_of f).lemma) _ here
in-frame k (g ∷ fs) (suc i) f there level = either_right (nat_le k g.level && same_lemma (framed_of g).lemma (framed_of f).lemma) _ (in-frame k fs i f there level)

-- each lemma of F(k), and over its predicate
record IsMember (preds : List (List Sort)) (k : ℕ) (fs : List KeptLemma) (f : KeptLemma) : Type 0 where
  inside : nat_le k f.level ≡ true → frame_has (lemmas_of fs) k (framed_of f).lemma ≡ true
  over : is_over preds f.pred f.lemma ≡ true

over-at : (preds : List (List Sort)) (fs : List KeptLemma) → AllOf (λ (e : Framed). is_over preds e.lemma.pred e.lemma.cube ≡ true) (lemmas_of fs) → (i : ℕ) (f : KeptLemma) → slice_get fs i ≡ Some f → is_over preds f.pred f.lemma ≡ true
over-at preds [] over i f there = absurd (cc)
over-at preds (g ∷ fs) over zero f there = let same : g ≡ f = cc in subst (λ (x : KeptLemma). is_over preds x.pred x.lemma ≡ true) same over.0
over-at preds (g ∷ fs) over (suc i) f there = over-at preds fs over.1 i f there

members : (preds : List (List Sort)) (k : ℕ) (fs : List KeptLemma) → AllOf (λ (e : Framed). is_over preds e.lemma.pred e.lemma.cube ≡ true) (lemmas_of fs) → AllOf (IsMember preds k fs) fs
members preds k fs over = all_of-from (IsMember preds k fs) fs (λ i f there. record { inside = in-frame k fs i f there; over = over-at preds fs over i f there })

-- a use of a lemma on an atom of its predicate
use-may : (sys : Clauses) (es : List Framed) (k : ℕ) (own : Option Lemma) (n i : ℕ) (clause : Clause) (atom : Atom) (f : KeptLemma) → slice_get sys.clauses n ≡ Some clause → slice_get clause.atoms i ≡ Some atom → (f.pred == atom.pred) ≡ true
    → frame_has es k (framed_of f).lemma ≡ true → may_use sys es k own n (used_of (use_of i f)) ≡ true
use-may sys es k own n i clause atom f there at same inside =
    let test : Lemma → Bool = λ lemma. frame_has es k lemma || has own (λ itself. same_lemma itself lemma) in
    let lemma : Lemma = record { pred = atom.pred; cube = f.lemma } in
    let is : used_lemma sys n (used_of (use_of i f)) ≡ Some lemma =
    ap (λ (o : Option Clause). on o (λ (c : Clause). option_map (λ (a : Atom). record { pred = a.pred; cube = f.lemma }) (slice_get c.atoms i))) there ∙ ap (λ (o : Option Atom). option_map (λ (a : Atom). record { pred = a.pred; cube = f.lemma }) o) at in
    let moved : (framed_of f).lemma ≡ lemma = ap (λ (p : ℕ). record { pred = p; cube = f.lemma }) (number_is f.pred atom.pred same) in
    ap (λ (o : Option Lemma). has o test) is ∙ either_left (frame_has es k lemma) _ (ap (frame_has es k) (sym moved) ∙ inside)

use-over : (sys : Clauses) (n i : ℕ) (clause : Clause) (atom : Atom) (f : KeptLemma) → slice_get sys.clauses n ≡ Some clause → slice_get clause.atoms i ≡ Some atom → (f.pred == atom.pred) ≡ true
    → is_over sys.preds f.pred f.lemma ≡ true → used_has_places sys n (used_of (use_of i f)) ≡ true
use-over sys n i clause atom f there at same over =
    ap (λ (o : Option Clause). is_over_atom sys.preds (on o (λ (c : Clause). slice_get c.atoms i)) f.lemma) there
    ∙ ap (λ (o : Option Atom). is_over_atom sys.preds o f.lemma) at
    ∙ ap (λ (p : ℕ). is_over sys.preds p f.lemma) (sym (number_is f.pred atom.pred same)) ∙ over

pub uses-may : (sys : Clauses) (k : ℕ) (fs : List KeptLemma) (own : Option Lemma) (n : ℕ) (clause : Clause) (used : List UsedLemma) → AreUses k fs clause used → AllOf (λ (e : Framed). is_over sys.preds e.lemma.pred e.lemma.cube ≡ true) (lemmas_of fs) → slice_get sys.clauses n ≡ Some clause
    → all_may_use sys (lemmas_of fs) k own n (all_used used) ≡ true
uses-may sys k fs own n clause used are over there =
    let test : UsedLemma → Bool = λ u. may_use sys (lemmas_of fs) k own n (used_of u) in
    all-map used_of (may_use sys (lemmas_of fs) k own n) used
    ∙ of-uses k fs clause used test are
    (uses-all test k fs clause.atoms (λ i atom at. uses_on-all test (IsMember sys.preds k fs) k i atom.pred (λ f is level same. use-may sys (lemmas_of fs) k own n i clause atom f there at same (is.inside level)) fs (members sys.preds k fs over)))

pub uses-over : (sys : Clauses) (k : ℕ) (fs : List KeptLemma) (n : ℕ) (clause : Clause) (used : List UsedLemma) → AreUses k fs clause used → AllOf (λ (e : Framed). is_over sys.preds e.lemma.pred e.lemma.cube ≡ true) (lemmas_of fs) → slice_get sys.clauses n ≡ Some clause
    → list_all (used_has_places sys n) (all_used used) ≡ true
uses-over sys k fs n clause used are over there =
    let test : UsedLemma → Bool = λ u. used_has_places sys n (used_of u) in
    all-map used_of (used_has_places sys n) used
    ∙ of-uses k fs clause used test are
    (uses-all test k fs clause.atoms (λ i atom at. uses_on-all test (IsMember sys.preds k fs) k i atom.pred (λ f is level same. use-over sys n i clause atom f there at same is.over) fs (members sys.preds k fs over)))

-- a claim and its goal

abbrev pub claim_goal : Option Lemma → Goal
claim_goal None = Query
claim_goal (Some lemma) = Holds lemma.cube

abbrev pub ClaimIsOver : List (List Sort) → Option Lemma → Type 0
ClaimIsOver preds None = Unit {0}
ClaimIsOver preds (Some lemma) = is_over preds lemma.pred lemma.cube ≡ true

goal-same : (claim : Option Lemma) → same_goal (goal_of (claim_goal claim)) claim ≡ true
goal-same None = refl
goal-same (Some lemma) = (cubes_equal lemma.cube lemma.cube).1 refl

head-over : (preds : List (List Sort)) (lemma : Lemma) (head : Option Atom) → is_head (Some lemma.pred) head ≡ true → is_over preds lemma.pred lemma.cube ≡ true → is_over_atom preds head lemma.cube ≡ true
head-over preds lemma None is over = refl
head-over preds lemma (Some atom) is over = ap (λ (p : ℕ). is_over preds p lemma.cube) (sym (number_is lemma.pred atom.pred is)) ∙ over

goal-over : (sys : Clauses) (claim : Option Lemma) (n : ℕ) (clause : Clause) → slice_get sys.clauses n ≡ Some clause → is_head (pred_of claim) clause.head ≡ true → ClaimIsOver sys.preds claim → goal_has_places sys n (goal_of (claim_goal claim)) ≡ true
goal-over sys None n clause there is over = refl
goal-over sys (Some lemma) n clause there is over = ap (λ (o : Option Clause). is_over_atom sys.preds (on o (λ (c : Clause). c.head)) lemma.cube) there ∙ head-over sys.preds lemma clause.head is over

-- one proof

record IsGood (sys : Clauses) (es : List Framed) (k : ℕ) (claim own : Option Lemma) (shown : Shown) : Type 0 where
  shown_is : IsShownToken sys shown
  goal_is : same_goal (goal_of (shown_goal shown)) claim ≡ true
  may : all_may_use sys es k own (shown_clause shown) (all_used (shown_used shown)) ≡ true
  places : shown_has_places sys (shown_of shown) ≡ true

good : (sys : Clauses) (fs : List KeptLemma) (k : ℕ) (claim own : Option Lemma) → AllOf (λ (e : Framed). is_over sys.preds e.lemma.pred e.lemma.cube ≡ true) (lemmas_of fs) → ClaimIsOver sys.preds claim
    → (shown : Shown) → IsProof sys fs (pred_of claim) (claim_goal claim) k shown → IsGood sys (lemmas_of fs) k claim own shown
good sys fs k claim own over claimed shown proof =
    let n = shown_clause shown in
    let clause = proof.at.clause in
    let refuted = proof.refuted in
    let headed = (both_true (is_head (pred_of claim) clause.head) _ proof.at.asked).0 in
    record {
      shown_is = refuted.shown_is;
      goal_is = ap (λ (g : Goal). same_goal (goal_of g) claim) refuted.goal_is ∙ goal-same claim;
      may = uses-may sys k fs own n clause (shown_used shown) proof.under over proof.at.there;
      places = from_both (goal_has_places sys n (goal_of (shown_goal shown))) _ (ap (λ (g : Goal). goal_has_places sys n (goal_of g)) refuted.goal_is ∙ goal-over sys claim n clause proof.at.there headed claimed)
          (uses-over sys k fs n clause (shown_used shown) proof.under over proof.at.there);
    }

-- what the rules want of all of them

pub record IsProved (sys : Clauses) (es : List Framed) (k : ℕ) (claim own : Option Lemma) (proofs : List Shown) : Type 0 where
  pub made : AllOf (IsShownToken sys) proofs
  pub places : list_all (shown_has_places sys) (all_shown proofs) ≡ true
  pub unshown : unshown sys k claim (all_shown proofs) ≡ None
  pub misused : misused sys es k own (all_shown proofs) ≡ None

told-on : (b : Bool) (rest other : Option By) → b ≡ true → rest ≡ None → cond {A = Option By} b rest other ≡ None
told-on true rest other h none = none
told-on false rest other h none = absurd (true≢false (sym h))

if-needed : (b c : Bool) → (b ≡ true → c ≡ true) → (not b || c) ≡ true
if-needed true c f = f refl
if-needed false c f = refl

all-shown-from : (k : ℕ) (claim : Option Lemma) (proofs : List PlainShown) (n : ℕ) (clauses : List Clause)
    → ((i : ℕ) (clause : Clause) → slice_get clauses i ≡ Some clause → needs k claim clause ≡ true → list_any (is_proof_of claim (n + i)) proofs ≡ true) → unshown_from k claim proofs n clauses ≡ None
all-shown-from k claim proofs n [] f = refl
all-shown-from k claim proofs n (clause ∷ clauses) f =
    let first : n + 0 ≡ n = omega arith in
    let here : needs k claim clause ≡ true → list_any (is_proof_of claim n) proofs ≡ true = λ needed. subst (λ (m : ℕ). list_any (is_proof_of claim m) proofs ≡ true) first (f 0 clause refl needed) in
    told-on (not (needs k claim clause) || list_any (is_proof_of claim n) proofs) (unshown_from k claim proofs (n + 1) clauses) (Some (ByClause n)) (if-needed (needs k claim clause) (list_any (is_proof_of claim n) proofs) here)
    (all-shown-from k claim proofs (n + 1) clauses (λ i c there needed. (let next : n + suc i ≡ n + 1 + i = omega arith in subst (λ (m : ℕ). list_any (is_proof_of claim m) proofs ≡ true) next (f (suc i) c there needed))))

pub proved : (sys : Clauses) (fs : List KeptLemma) (k : ℕ) (claim own : Option Lemma) (proofs : List Shown) → AllOf (λ (e : Framed). is_over sys.preds e.lemma.pred e.lemma.cube ≡ true) (lemmas_of fs) → ClaimIsOver sys.preds claim
    → AreProofs sys fs (pred_of claim) (claim_goal claim) k proofs → IsProved sys (lemmas_of fs) k claim own proofs
proved sys fs k claim own proofs over claimed are =
    let each = all_of-so (IsProof sys fs (pred_of claim) (claim_goal claim) k) (IsGood sys (lemmas_of fs) k claim own) (good sys fs k claim own over claimed) proofs are.each in
    record {
      made = all_of-so (IsGood sys (lemmas_of fs) k claim own) (IsShownToken sys) (λ shown is. is.shown_is) proofs each;
      places = all-of-map (IsGood sys (lemmas_of fs) k claim own) shown_of (shown_has_places sys) (λ shown is. is.places) proofs each;
      unshown = all-shown-from k claim (all_shown proofs) 0 sys.clauses (λ i clause there needed. (let first : i ≡ 0 + i = omega arith in subst (λ (m : ℕ). list_any (is_proof_of claim m) (all_shown proofs) ≡ true) first
          (any-of-map (IsGood sys (lemmas_of fs) k claim own) shown_of (is_through i) (is_proof_of claim i) (λ shown is through. from_both (shown_clause shown == i) _ through is.goal_is) proofs each (are.complete i clause there needed))));
      misused = none-told (IsGood sys (lemmas_of fs) k claim own) shown_of (λ (p : PlainShown). cond {A = Option By} (all_may_use sys (lemmas_of fs) k own p.clause p.used) None (Some (ByClause p.clause)))
          (λ shown is. told-on (all_may_use sys (lemmas_of fs) k own (shown_clause shown) (all_used (shown_used shown))) None (Some (ByClause (shown_clause shown))) is.may refl) proofs each;
    }
