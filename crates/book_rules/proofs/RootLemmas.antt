-- The root: each legal step keeps it in its place, and it bounds the levels of all that hangs under it.
use Rattle.std.proofs.Common.{◌≡◌, ℕ, ◌+◌, ◌<◌, ◌≤◌, zero, suc, List, [], ◌∷◌, ◌++◌, map, length, Bool, true, false, ◌&&◌, ◌||◌, not, cond, Some, None, refl, ap, sym, ◌∙◌, subst, arith}
use Rattle.std.specs.Prelude.{Option, is_none, is_some, nat_le, nat_lt, slice_get, slice_set}
use Rattle.std.specs.List.{list_any, list_all}
use Rattle.std.proofs.lemmas.Bool.Decides.{nat_tests}
use mathlib.Core.Bool.{true≢false}
use Rattle.clause_form.specs.System.{Clauses}
use Rattle.clause_form.specs.declared.atom.Atom.{Atom}
use Rattle.lin_atoms.specs.declared.lit.Lit.{Lit}
use Rattle.cube_forms.specs.Cubes.{cube_holds}
use Rattle.book_rules.specs.Walks.{AllOf, has}
use Rattle.book_rules.specs.Instances.{Ground}
use Rattle.book_rules.specs.Frames.{Lemma, Framed, accepts}
use Rattle.book_rules.specs.State.{Fact, Obligation, State, opening, root_at, holds, holds_of, is_live, is_of}
use Rattle.book_rules.specs.Steps.{OpenStep, Seen, Step}
use Rattle.book_rules.specs.OpenRules.{parent_of, atom_of}
use Rattle.book_rules.specs.LemmaRules.{closes, lifted_of}
use Rattle.book_rules.specs.FactRules.{concluded}
use Rattle.book_rules.specs.Effects.{after, written, closed_at, is_closing, close_from, learnt, opened_with, child_of, lifted_with, recorded, fact_of, raised_tree, stalled_with}
use Rattle.book_rules.specs.Legal.{replay}
use Rattle.book_rules.specs.Kept.{IsPlaced, AreHung, IsOrdered}
use Rattle.book_rules.specs.Rooted.{IsRoot, false_is_recorded, AreRooted, IsRooted}
use Rattle.book_rules.proofs.ListLemmas.{both_true, all_of-push, all_of-at}
use Rattle.book_rules.proofs.StepLemmas.{steady-close, steady-all_closed, steady-mark}
use Rattle.book_rules.proofs.TreeLemmas.{length-push}
use Rattle.book_rules.proofs.OrderedLemmas.{placed}

abbrev HasPred : Obligation → Type 0
HasPred o = is_some o.pred ≡ true

any-left : {X : Type 0} (p : X → Bool) (xs : List X) (x : X) → list_any p xs ≡ true → list_any p (xs ++ x ∷ []) ≡ true
any-left p [] x h = absurd (true≢false (sym h))
any-left p (y ∷ xs) x h = by_head (p y) (any-left p xs x) h where
  by_head : (b : Bool) → (list_any p xs ≡ true → list_any p (xs ++ x ∷ []) ≡ true) → (b || list_any p xs) ≡ true → (b || list_any p (xs ++ x ∷ [])) ≡ true
  by_head true more h' = refl
  by_head false more h' = more h'

any-last : {X : Type 0} (p : X → Bool) (xs : List X) (x : X) → p x ≡ true → list_any p (xs ++ x ∷ []) ≡ true
any-last p [] x h = ap (λ b. b || false) h
any-last p (y ∷ xs) x h = by_head (p y) (any-last p xs x h) where
  by_head : (b : Bool) → list_any p (xs ++ x ∷ []) ≡ true → (b || list_any p (xs ++ x ∷ [])) ≡ true
  by_head true more = refl
  by_head false more = more

-- closing

root-if : (level entry : ℕ) (o : Obligation) (b : Bool) → IsRoot level o → IsRoot level (cond {A = Obligation} b (closed_at entry o) o)
root-if level entry o true h = ap (closed_at entry) h
root-if level entry o false h = h

root_of-none : (level : ℕ) (o : Obligation) → IsRoot level o → o.pred ≡ None
root_of-none level o h = ap (λ (x : Obligation). x.pred) (sym h)

-- the first obligation closes only where the cause closes it
pub first_closes : (cause : Obligation → Bool) (o : Obligation) → is_closing cause [] o ≡ true → cause o ≡ true
first_closes cause o h = by_cause (cause o) o.parent (both_true (is_live o) _ h).1 where
  by_cause : (b : Bool) (i : ℕ) → (b || has (slice_get [] i) (λ (parent : Obligation). not (is_live parent))) ≡ true → b ≡ true
  by_cause true i t = refl
  by_cause false zero t = absurd (true≢false (sym t))
  by_cause false (suc i) t = absurd (true≢false (sym t))

rooted-close : (level : ℕ) (facts more : List Fact) (cause : Obligation → Bool) (entry : ℕ) (os : List Obligation) → (false_is_recorded facts ≡ true → false_is_recorded more ≡ true)
    → ((o : Obligation) → o.pred ≡ None → cause o ≡ true → false_is_recorded more ≡ true) → AreRooted level facts os → AreRooted level more (close_from cause entry [] os)
rooted-close level facts more cause entry os stays by_cause r =
    let here = cond {A = Obligation} (is_closing cause [] r.root) (closed_at entry r.root) r.root in
    record {
      root = here;
      rest = close_from cause entry (here ∷ []) r.rest;
      first = ap (close_from cause entry []) r.first;
      is_root = root-if level entry r.root (is_closing cause [] r.root) r.is_root;
      closed_by_false = closed (is_closing cause [] r.root) refl;
      others = steady-close HasPred (λ o level' closed' stalled' h. h) cause entry (here ∷ []) r.rest r.others;
    } where
      closed : (b : Bool) → is_closing cause [] r.root ≡ b → is_live (cond {A = Obligation} b (closed_at entry r.root) r.root) ≡ false → false_is_recorded more ≡ true
      closed true is dead = by_cause r.root (root_of-none level r.root r.is_root) (first_closes cause r.root is)
      closed false is dead = stays (r.closed_by_false dead)

no_lemma_closes : (lemma : Lemma) (level : ℕ) (o : Obligation) → o.pred ≡ None → closes lemma level o ≡ true → ⊥
no_lemma_closes lemma level o none h = true≢false (sym h ∙ ap (λ (p : Option ℕ). is_of lemma.pred p && nat_le o.level level && cube_holds o.point lemma.cube) none)

only_false : (cube : List Lit) (c : Option Ground) → holds_of None cube c ≡ true → is_none c ≡ true
only_false cube None h = refl
only_false cube (Some a) h = absurd (true≢false (sym h))

root_holds_false : (o : Obligation) (c : Option Ground) → o.pred ≡ None → holds o c ≡ true → is_none c ≡ true
root_holds_false o c none h = only_false o.cube c (ap (λ (p : Option ℕ). holds_of p o.cube c) (sym none) ∙ h)

-- raising

rooted-raised : (level new entry : ℕ) (facts : List Fact) (os : List Obligation) → AreRooted level facts os → AreRooted new facts (raised_tree entry new os)
rooted-raised level new entry facts os r = record {
  root = record r.root { level = new };
  rest = map (λ o. cond {A = Obligation} (is_live o) (closed_at entry o) o) r.rest;
  first = ap (raised_tree entry new) r.first;
  is_root = ap (λ (o : Obligation). record o { level = new }) r.is_root;
  closed_by_false = r.closed_by_false;
  others = steady-all_closed HasPred (λ o level' closed' stalled' h. h) entry r.rest r.others;
}

-- marking

head_same : (x y : Obligation) (xs ys : List Obligation) → x ∷ xs ≡ y ∷ ys → x ≡ y
head_same x y xs ys h = cc

tail_same : (x y : Obligation) (xs ys : List Obligation) → x ∷ xs ≡ y ∷ ys → xs ≡ ys
tail_same x y xs ys h = cc

rooted-mark : (level : ℕ) (facts : List Fact) (os : List Obligation) (i : ℕ) (o : Obligation) → slice_get os i ≡ Some o → AreRooted level facts os → AreRooted level facts (slice_set os i (record o { stalled = true }))
rooted-mark level facts [] i o is r = absurd (cc)
rooted-mark level facts (x ∷ xs) zero o is r =
    let same : x ≡ o = cc in
    let root_is : r.root ≡ o = sym (head_same x r.root xs r.rest r.first) ∙ same in
    record {
      root = record o { stalled = true };
      rest = xs;
      first = refl;
      is_root = ap (λ (y : Obligation). record y { stalled = true }) (subst (IsRoot level) root_is r.is_root);
      closed_by_false = λ dead. r.closed_by_false (ap is_live root_is ∙ dead);
      others = subst (AllOf HasPred) (sym (tail_same x r.root xs r.rest r.first)) r.others;
    }
rooted-mark level facts (x ∷ xs) (suc i) o is r =
    let marked = slice_set xs i (record o { stalled = true }) in
    record {
      root = r.root;
      rest = marked;
      first = ap (λ (y : Obligation). y ∷ marked) (head_same x r.root xs r.rest r.first);
      is_root = r.is_root;
      closed_by_false = r.closed_by_false;
      others = steady-mark HasPred (λ o level' closed' stalled' h. h) xs i o is (subst (AllOf HasPred) (sym (tail_same x r.root xs r.rest r.first)) r.others);
    }

-- each step

rooted-open : (s : State) (o : OpenStep) (parent : Option Obligation) (atom : Option Atom) → IsRooted s → IsRooted (written 1 (opened_with s o parent atom))
rooted-open s o None atom r = r
rooted-open s o (Some p) None r = r
rooted-open s o (Some p) (Some a) r = record {
  root = r.root;
  rest = r.rest ++ child_of o p a ∷ [];
  first = ap (λ (os : List Obligation). os ++ child_of o p a ∷ []) r.first;
  is_root = r.is_root;
  closed_by_false = r.closed_by_false;
  others = all_of-push HasPred r.rest (child_of o p a) r.others refl;
}

rooted-lift : (s : State) (number : ℕ) (found : Option Framed) → IsRooted s → IsRooted (written 1 (lifted_with s number found))
rooted-lift s number None r = r
rooted-lift s number (Some e) r = rooted-close (s.level + 1) s.facts s.facts (closes e.lemma (e.level + 1)) (s.entries + 1) s.obligations (λ h. h) (λ o none h. absurd (no_lemma_closes e.lemma (e.level + 1) o none h)) r

rooted-lemma : (s : State) (lemma : Lemma) (level : ℕ) → IsRooted s → IsRooted (written 1 (learnt s lemma level))
rooted-lemma s lemma level r = rooted-close (s.level + 1) s.facts s.facts (closes lemma level) (s.entries + 1) s.obligations (λ h. h) (λ o none h. absurd (no_lemma_closes lemma level o none h)) r

rooted-fact : (sys : Clauses) (s : State) (seen : Seen) (premises : List ℕ) → IsRooted s → IsRooted (written 1 (recorded sys s seen premises))
rooted-fact sys s seen premises r =
    let new = fact_of sys s seen premises in
    let test : Fact → Bool = λ g. is_none g.conclusion in
    rooted-close (s.level + 1) s.facts (s.facts ++ new ∷ []) (λ o. holds o (concluded sys seen)) (s.entries + 1) s.obligations (any-left test s.facts new)
    (λ o none h. any-last test s.facts new (root_holds_false o (concluded sys seen) none h)) r

rooted-stall : (s : State) (number : ℕ) (found : Option Obligation) → slice_get s.obligations number ≡ found → IsRooted s → IsRooted (written 0 (stalled_with s number found))
rooted-stall s number None is r = r
rooted-stall s number (Some o) is r = rooted-mark (s.level + 1) s.facts s.obligations number o is r

pub rooted-after : (sys : Clauses) (s : State) (step : Step) → IsRooted s → IsRooted (after sys s step)
rooted-after sys s (Step.Opens o) r = rooted-open s o (parent_of s o) (atom_of sys o) r
rooted-after sys s (Step.Learns l) r = rooted-lemma s l.lemma l.level r
rooted-after sys s (Step.Records f) r = rooted-fact sys s f.seen f.premises r
rooted-after sys s (Step.Lifts l) r = rooted-lift s l.lemma (lifted_of s l) r
rooted-after sys s (Step.Raises x) r = rooted-raised (s.level + 1) (s.level + 1 + 1) (s.entries + 1) s.facts s.obligations r
rooted-after sys s (Step.Stalls t) r = rooted-stall s t.target (slice_get s.obligations t.target) refl r
rooted-after sys s (Step.Derives f) r = rooted-fact sys s f.seen f.premises r
rooted-after sys s (Step.Strengthens l) r = rooted-lemma s l.lemma l.level r

pub rooted-replay : (sys : Clauses) (s : State) (steps : List Step) → IsRooted s → IsRooted (replay sys s steps)
rooted-replay sys s [] r = r
rooted-replay sys s (step ∷ steps) r = rooted-replay sys (after sys s step) steps (rooted-after sys s step r)

-- levels: all that hangs under the root stands below it

abbrev IsAtMost : ℕ → Obligation → Type 0
IsAtMost n o = is_live o ≡ true → o.level ≤ n

abbrev IsBelow : ℕ → Obligation → Type 0
IsBelow n o = is_live o ≡ true → o.level < n

below-hung : (es : List Framed) (facts : List Fact) (n : ℕ) (before os : List Obligation) → 0 < length before → AllOf (IsAtMost n) before → AreHung es facts before os → AllOf (IsBelow n) os
below-hung es facts n before [] some low hung = tt
below-hung es facts n before (o ∷ os) some low hung =
    let here : IsBelow n o = λ live. under (hung.0 some live) in
    (here, below-hung es facts n (before ++ o ∷ []) os (length-push before o) (all_of-push (IsAtMost n) before o low (λ live. let less = here live in omega (arith, less))) hung.1) where
      under : IsPlaced es facts before o → o.level < n
      under p =
          let parent = p.parent in
          let high : parent.level ≤ n = all_of-at (IsAtMost n) before o.parent parent p.there low p.parent_lives in
          let one_higher : parent.level ≡ o.level + 1 = p.one_higher in
          omega (arith, high, one_higher)

at_least-1 : (k : ℕ) (b : Bool) → (nat_lt 0 k && b) ≡ true → 1 ≤ k
at_least-1 k b h = let first = (both_true (nat_lt 0 k) b h).0 in grind (arith, nat_tests, first)

pub levels_are_between : (s : State) → IsOrdered s → IsRooted s → (i : ℕ) (o : Obligation) → slice_get s.obligations i ≡ Some o → 0 < i → is_live o ≡ true → (1 ≤ o.level) × (o.level ≤ s.level)
levels_are_between s ordered r zero o is some live = absurd (omega arith)
levels_are_between s ordered r (suc i) o is some live =
    let n = s.level + 1 in
    let hung : AreHung s.lemmas s.facts [] (r.root ∷ r.rest) = subst (AreHung s.lemmas s.facts []) r.first ordered.hung in
    let root_level : n ≡ r.root.level = ap (λ (x : Obligation). x.level) r.is_root in
    let one : 0 < length (r.root ∷ []) = omega arith in
    let below = below-hung s.lemmas s.facts n (r.root ∷ []) r.rest one ((λ lives. omega (arith, root_level)), tt) hung.1 in
    let here : slice_get r.rest i ≡ Some o = ap (λ (os : List Obligation). slice_get os (suc i)) (sym r.first) ∙ is in
    let less : o.level < n = all_of-at (IsBelow n) r.rest i o here below live in
    let p = placed s ordered (suc i) o is some live in
    (at_least-1 o.level (list_all (λ (e : Framed). nat_lt e.level o.level || accepts e.lemma (p.pred, o.point)) s.lemmas) p.in_its_frame, omega (arith, less))

pub rooted-opening : (units : ℕ) → IsRooted (opening units)
rooted-opening units = record { root = root_at 1; rest = []; first = refl; is_root = refl; closed_by_false = λ dead. absurd (true≢false dead); others = tt }
