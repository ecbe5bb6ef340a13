-- Units, entries and marks: what each legal step adds.
use Rattle.std.proofs.Common.{◌≡◌, ℕ, ◌+◌, ◌<◌, ◌≤◌, zero, suc, List, [], ◌∷◌, ◌++◌, map, length, Bool, true, false, cond, Some, None, refl, ap, sym, ◌∙◌, arith}
use Rattle.std.specs.Prelude.{Option, ◌==◌, slice_get, slice_set}
use Rattle.std.proofs.lemmas.List.{length-append}
use Rattle.std.proofs.lemmas.Bool.Decides.{nat_tests}
use Rattle.clause_form.specs.System.{Clauses}
use Rattle.clause_form.specs.declared.atom.Atom.{Atom}
use Rattle.book_rules.specs.declared.by.By.{By}
use Rattle.book_rules.specs.declared.by.By.TheVariants.{Obligation as ByObligation}
use Rattle.book_rules.specs.declared.end.End.TheVariants.{Spent}
use Rattle.book_rules.specs.Walks.{on}
use Rattle.book_rules.specs.Frames.{Framed}
use Rattle.book_rules.specs.State.{Fact, Obligation, State, opening, holds, is_live, unless_live}
use Rattle.book_rules.specs.Steps.{OpenStep, Step}
use Rattle.book_rules.specs.OpenRules.{parent_of, atom_of}
use Rattle.book_rules.specs.LemmaRules.{closes, lifted_of}
use Rattle.book_rules.specs.FactRules.{concluded}
use Rattle.book_rules.specs.StallRules.{rule_50, rule_51, rule_52, rule_53, rule_54, target_of}
use Rattle.book_rules.specs.Rules.{broken}
use Rattle.book_rules.specs.Effects.{after, written, closed_at, is_closing, close_from, opened_with, child_of, lifted_with, fact_of, raised_tree, stalled_with}
use Rattle.book_rules.specs.Legal.{AreLegal, replay, end, unsat, sat, spent, stuck}
use Rattle.book_rules.specs.Counts.{marks, IsSpentSince, HasRoom}
use Rattle.book_rules.proofs.ListLemmas.{neither, cond_none}
use Rattle.book_rules.proofs.SoundLemmas.{unbroken}

-- lengths and marks

same_mark : (entry : ℕ) (o : Obligation) (b : Bool) → (cond {A = Obligation} b (closed_at entry o) o).stalled ≡ o.stalled
same_mark entry o true = refl
same_mark entry o false = refl

pub length-close : (cause : Obligation → Bool) (entry : ℕ) (before os : List Obligation) → length (close_from cause entry before os) ≡ length os
length-close cause entry before [] = refl
length-close cause entry before (o ∷ os) = ap suc (length-close cause entry (before ++ cond {A = Obligation} (is_closing cause before o) (closed_at entry o) o ∷ []) os)

marks-close : (cause : Obligation → Bool) (entry : ℕ) (before os : List Obligation) → marks (close_from cause entry before os) ≡ marks os
marks-close cause entry before [] = refl
marks-close cause entry before (o ∷ os) =
    let here = cond {A = Obligation} (is_closing cause before o) (closed_at entry o) o in
    let rest = close_from cause entry (before ++ here ∷ []) os in
    ap (λ b. cond {A = ℕ} b (suc (marks rest)) (marks rest)) (same_mark entry o (is_closing cause before o)) ∙ ap (λ n. cond {A = ℕ} o.stalled (suc n) n) (marks-close cause entry (before ++ here ∷ []) os)

length-closed : (entry : ℕ) (os : List Obligation) → length (map (λ o. cond {A = Obligation} (is_live o) (closed_at entry o) o) os) ≡ length os
length-closed entry [] = refl
length-closed entry (o ∷ os) = ap suc (length-closed entry os)

marks-closed : (entry : ℕ) (os : List Obligation) → marks (map (λ o. cond {A = Obligation} (is_live o) (closed_at entry o) o) os) ≡ marks os
marks-closed entry [] = refl
marks-closed entry (o ∷ os) =
    let rest = map (λ x. cond {A = Obligation} (is_live x) (closed_at entry x) x) os in
    ap (λ b. cond {A = ℕ} b (suc (marks rest)) (marks rest)) (same_mark entry o (is_live o)) ∙ ap (λ n. cond {A = ℕ} o.stalled (suc n) n) (marks-closed entry os)

length-raised : (entry level : ℕ) (os : List Obligation) → length (raised_tree entry level os) ≡ length os
length-raised entry level [] = refl
length-raised entry level (root ∷ rest) = ap suc (length-closed entry rest)

marks-raised : (entry level : ℕ) (os : List Obligation) → marks (raised_tree entry level os) ≡ marks os
marks-raised entry level [] = refl
marks-raised entry level (root ∷ rest) = ap (λ n. cond {A = ℕ} root.stalled (suc n) n) (marks-closed entry rest)

marks-push : (os : List Obligation) (o : Obligation) → o.stalled ≡ false → marks (os ++ o ∷ []) ≡ marks os
marks-push [] o h = ap (λ b. cond {A = ℕ} b 1 0) h
marks-push (x ∷ os) o h = ap (λ n. cond {A = ℕ} x.stalled (suc n) n) (marks-push os o h)

length-set_at : {X : Type 0} (xs : List X) (i : ℕ) (x : X) → length (slice_set xs i x) ≡ length xs
length-set_at [] i x = refl
length-set_at (y ∷ xs) zero x = refl
length-set_at (y ∷ xs) (suc i) x = ap suc (length-set_at xs i x)

one_more : (b : Bool) (n : ℕ) → cond {A = ℕ} b (suc (n + 1)) (n + 1) ≡ cond {A = ℕ} b (suc n) n + 1
one_more true n = let more : suc (n + 1) ≡ suc n + 1 = omega arith in more
one_more false n = refl

marks-set : (os : List Obligation) (i : ℕ) (o : Obligation) → slice_get os i ≡ Some o → o.stalled ≡ false → marks (slice_set os i (record o { stalled = true })) ≡ marks os + 1
marks-set [] i o is h = absurd (cc)
marks-set (x ∷ os) zero o is h =
    let same : x ≡ o = cc in
    let unmarked : x.stalled ≡ false = ap (λ (y : Obligation). y.stalled) same ∙ h in
    let more : suc (marks os) ≡ marks os + 1 = omega arith in
    more ∙ ap (λ n. n + 1) (sym (ap (λ b. cond {A = ℕ} b (suc (marks os)) (marks os)) unmarked))
marks-set (x ∷ os) (suc i) o is h = ap (λ n. cond {A = ℕ} x.stalled (suc n) n) (marks-set os i o is h) ∙ one_more x.stalled (marks os)

pub marks-at_most : (os : List Obligation) → marks os ≤ length os
marks-at_most [] = omega arith
marks-at_most (o ∷ os) = at_most o.stalled (marks-at_most os) where
  at_most : (b : Bool) → marks os ≤ length os → cond {A = ℕ} b (suc (marks os)) (marks os) ≤ suc (length os)
  at_most true h = omega (arith, h)
  at_most false h = omega (arith, h)

-- one step

pub same_counts : (s : State) → IsSpentSince s s
same_counts s = record { given = refl; units = omega arith; lemmas = omega arith; facts = omega arith; obligations = omega arith; level = omega arith; entries = refl }

-- a step of one unit, by what it makes of the lengths
one_unit : (s t : State) → t.given ≡ s.given → t.spent ≡ s.spent + 1 → t.entries ≡ s.entries + 1 → length t.lemmas ≤ length s.lemmas + 1 → length t.facts ≤ length s.facts + 1 → length t.obligations ≤ length s.obligations + 1
    → t.level ≤ s.level + 1 → marks t.obligations ≡ marks s.obligations → IsSpentSince s t
one_unit s t given unit entry lemmas facts obligations level mark = record {
  given = given;
  units = omega (arith, unit);
  lemmas = omega (arith, unit, lemmas);
  facts = omega (arith, unit, facts);
  obligations = omega (arith, unit, obligations);
  level = omega (arith, unit, level);
  entries = omega (arith, unit, entry, mark);
}

-- a mark, which is no unit
one_marked : (s t : State) → t.given ≡ s.given → t.spent ≡ s.spent → t.entries ≡ s.entries + 1 → length t.lemmas ≡ length s.lemmas → length t.facts ≡ length s.facts → length t.obligations ≡ length s.obligations
    → t.level ≡ s.level → marks t.obligations ≡ marks s.obligations + 1 → IsSpentSince s t
one_marked s t given unit entry lemmas facts obligations level mark = record {
  given = given;
  units = omega (arith, unit);
  lemmas = omega (arith, unit, lemmas);
  facts = omega (arith, unit, facts);
  obligations = omega (arith, unit, obligations);
  level = omega (arith, unit, level);
  entries = omega (arith, unit, entry, mark);
}

low : (n : ℕ) → n ≤ n + 1
low n = omega arith

as_many : (n m : ℕ) → n ≡ m → n ≤ m + 1
as_many n m same = omega (arith, same)

one_longer : (n m : ℕ) → n ≡ m + 1 → n ≤ m + 1
one_longer n m same = omega (arith, same)

same_level : (n : ℕ) → n ≤ n
same_level n = omega arith

no_more : (n : ℕ) → n + 0 ≡ n
no_more n = omega arith

counts-open : (s : State) (o : OpenStep) (parent : Option Obligation) (atom : Option Atom) → IsSpentSince s (written 1 (opened_with s o parent atom))
counts-open s o None atom = one_unit s (written 1 s) refl refl refl (low (length s.lemmas)) (low (length s.facts)) (low (length s.obligations)) (low s.level) refl
counts-open s o (Some p) None = one_unit s (written 1 s) refl refl refl (low (length s.lemmas)) (low (length s.facts)) (low (length s.obligations)) (low s.level) refl
counts-open s o (Some p) (Some a) =
    let new = child_of o p a in
    one_unit s (written 1 (opened_with s o (Some p) (Some a))) refl refl refl (low (length s.lemmas)) (low (length s.facts)) (one_longer (length (s.obligations ++ new ∷ [])) (length s.obligations) (length-append s.obligations (new ∷ [])))
    (low s.level) (marks-push s.obligations new refl)

counts-lemma : (s : State) (e : Framed) (cause : Obligation → Bool) → IsSpentSince s (written 1 (record s { lemmas = s.lemmas ++ e ∷ []; obligations = close_from cause (s.entries + 1) [] s.obligations }))
counts-lemma s e cause =
    let closed = close_from cause (s.entries + 1) [] s.obligations in
    one_unit s (written 1 (record s { lemmas = s.lemmas ++ e ∷ []; obligations = closed })) refl refl refl (one_longer (length (s.lemmas ++ e ∷ [])) (length s.lemmas) (length-append s.lemmas (e ∷ []))) (low (length s.facts))
    (as_many (length closed) (length s.obligations) (length-close cause (s.entries + 1) [] s.obligations)) (low s.level) (marks-close cause (s.entries + 1) [] s.obligations)

counts-fact : (s : State) (new : Fact) (cause : Obligation → Bool) → IsSpentSince s (written 1 (record s { facts = s.facts ++ new ∷ []; obligations = close_from cause (s.entries + 1) [] s.obligations }))
counts-fact s new cause =
    let closed = close_from cause (s.entries + 1) [] s.obligations in
    one_unit s (written 1 (record s { facts = s.facts ++ new ∷ []; obligations = closed })) refl refl refl (low (length s.lemmas)) (one_longer (length (s.facts ++ new ∷ [])) (length s.facts) (length-append s.facts (new ∷ [])))
    (as_many (length closed) (length s.obligations) (length-close cause (s.entries + 1) [] s.obligations)) (low s.level) (marks-close cause (s.entries + 1) [] s.obligations)

counts-lift : (s : State) (number : ℕ) (found : Option Framed) → IsSpentSince s (written 1 (lifted_with s number found))
counts-lift s number None = one_unit s (written 1 s) refl refl refl (low (length s.lemmas)) (low (length s.facts)) (low (length s.obligations)) (low s.level) refl
counts-lift s number (Some e) =
    let cause = closes e.lemma (e.level + 1) in
    let higher : Framed = record { lemma = e.lemma; level = e.level + 1 } in
    one_unit s (written 1 (lifted_with s number (Some e))) refl refl refl (as_many (length (slice_set s.lemmas number higher)) (length s.lemmas) (length-set_at s.lemmas number higher)) (low (length s.facts))
    (as_many (length (close_from cause (s.entries + 1) [] s.obligations)) (length s.obligations) (length-close cause (s.entries + 1) [] s.obligations)) (low s.level) (marks-close cause (s.entries + 1) [] s.obligations)

counts-stall : (s : State) (number : ℕ) (found : Option Obligation) → slice_get s.obligations number ≡ found → unless_live found ≡ None → on found (λ (o : Obligation). cond {A = Option By} o.stalled (Some (ByObligation number)) None) ≡ None
    → IsSpentSince s (written 0 (stalled_with s number found))
counts-stall s number None is live fresh = absurd (cc)
counts-stall s number (Some o) is live fresh =
    let unmarked = (cond_none o.stalled (ByObligation number) None fresh).0 in
    one_marked s (written 0 (stalled_with s number (Some o))) refl (no_more s.spent) refl refl refl (length-set_at s.obligations number (record o { stalled = true })) refl (marks-set s.obligations number o is unmarked)

pub counts-after : (sys : Clauses) (s : State) (step : Step) → broken sys s step ≡ None → IsSpentSince s (after sys s step)
counts-after sys s (Step.Opens o) h = counts-open s o (parent_of s o) (atom_of sys o)
counts-after sys s (Step.Learns l) h = counts-lemma s (record { lemma = l.lemma; level = l.level }) (closes l.lemma l.level)
counts-after sys s (Step.Records f) h = counts-fact s (fact_of sys s f.seen f.premises) (λ o. holds o (concluded sys f.seen))
counts-after sys s (Step.Lifts l) h = counts-lift s l.lemma (lifted_of s l)
counts-after sys s (Step.Raises r) h =
    let raised_os = raised_tree (s.entries + 1) (s.level + 1 + 1) s.obligations in
    one_unit s (after sys s (Step.Raises r)) refl refl refl (low (length s.lemmas)) (low (length s.facts)) (as_many (length raised_os) (length s.obligations) (length-raised (s.entries + 1) (s.level + 1 + 1) s.obligations))
    (same_level (s.level + 1)) (marks-raised (s.entries + 1) (s.level + 1 + 1) s.obligations)
counts-after sys s (Step.Stalls t) h =
    let r50 = unbroken 50 (rule_50 s t) _ h in
    let r51 = unbroken 51 (rule_51 s t) _ r50.1 in
    let r52 = unbroken 52 (rule_52 sys s t) _ r51.1 in
    let r53 = unbroken 53 (rule_53 sys s t) _ r52.1 in
    let r54 = unbroken 54 (rule_54 s t) _ r53.1 in
    counts-stall s t.target (target_of s t) refl r50.0 r54.0
counts-after sys s (Step.Derives f) h = counts-fact s (fact_of sys s f.seen f.premises) (λ o. holds o (concluded sys f.seen))
counts-after sys s (Step.Strengthens l) h = counts-lemma s (record { lemma = l.lemma; level = l.level }) (closes l.lemma l.level)

-- journals

counts-chain : (s t u : State) → IsSpentSince s t → IsSpentSince t u → IsSpentSince s u
counts-chain s t u a b =
    let a_units = a.units in
    let b_units = b.units in
    let a_lemmas = a.lemmas in
    let b_lemmas = b.lemmas in
    let a_facts = a.facts in
    let b_facts = b.facts in
    let a_obligations = a.obligations in
    let b_obligations = b.obligations in
    let a_level = a.level in
    let b_level = b.level in
    let a_entries = a.entries in
    let b_entries = b.entries in
    record {
      given = b.given ∙ a.given;
      units = omega (arith, a_units, b_units);
      lemmas = omega (arith, a_lemmas, b_lemmas);
      facts = omega (arith, a_facts, b_facts);
      obligations = omega (arith, a_obligations, b_obligations);
      level = omega (arith, a_level, b_level);
      entries = omega (arith, a_entries, b_entries);
    }

pub counts-replay : (sys : Clauses) (s : State) (steps : List Step) → AreLegal sys s steps → IsSpentSince s (replay sys s steps)
counts-replay sys s [] legal = same_counts s
counts-replay sys s (step ∷ steps) legal = counts-chain s (after sys s step) (replay sys (after sys s step) steps) (counts-after sys s step (legal.0).unbroken) (counts-replay sys (after sys s step) steps legal.1)

-- a book that goes on has a unit left

spent_none : (s : State) → end s ≡ None → (s.spent == s.given) ≡ false
spent_none s h = (cond_none (s.spent == s.given) (Spent s.spent) None (neither (spent s) (stuck s) (neither (sat s) _ (neither (unsat s) _ h).1).1).0).0

pub has_a_unit : (s : State) → s.spent ≤ s.given → end s ≡ None → s.spent < s.given
has_a_unit s within h = let other = spent_none s h in grind (arith, nat_tests, within, other)

spent-open : (s : State) (o : OpenStep) (parent : Option Obligation) (atom : Option Atom) → ((opened_with s o parent atom).spent ≡ s.spent) × ((opened_with s o parent atom).given ≡ s.given)
spent-open s o None atom = (refl, refl)
spent-open s o (Some p) None = (refl, refl)
spent-open s o (Some p) (Some a) = (refl, refl)

spent-lift : (s : State) (number : ℕ) (found : Option Framed) → ((lifted_with s number found).spent ≡ s.spent) × ((lifted_with s number found).given ≡ s.given)
spent-lift s number None = (refl, refl)
spent-lift s number (Some e) = (refl, refl)

spent-stall : (s : State) (number : ℕ) (found : Option Obligation) → ((stalled_with s number found).spent ≡ s.spent) × ((stalled_with s number found).given ≡ s.given)
spent-stall s number None = (refl, refl)
spent-stall s number (Some o) = (refl, refl)

one_spent : (s t : State) → (t.spent ≡ s.spent) × (t.given ≡ s.given) → s.spent < s.given → t.spent + 1 ≤ t.given
one_spent s t same room = let spent_same = same.0 in let given_same = same.1 in omega (arith, spent_same, given_same, room)

none_spent : (s t : State) → (t.spent ≡ s.spent) × (t.given ≡ s.given) → s.spent < s.given → t.spent + 0 ≤ t.given
none_spent s t same room = let spent_same = same.0 in let given_same = same.1 in omega (arith, spent_same, given_same, room)

within-after : (sys : Clauses) (s : State) (step : Step) → s.spent < s.given → (after sys s step).spent ≤ (after sys s step).given
within-after sys s (Step.Opens o) room = one_spent s (opened_with s o (parent_of s o) (atom_of sys o)) (spent-open s o (parent_of s o) (atom_of sys o)) room
within-after sys s (Step.Learns l) room = one_spent s s (refl, refl) room
within-after sys s (Step.Records f) room = one_spent s s (refl, refl) room
within-after sys s (Step.Lifts l) room = one_spent s (lifted_with s l.lemma (lifted_of s l)) (spent-lift s l.lemma (lifted_of s l)) room
within-after sys s (Step.Raises r) room = one_spent s s (refl, refl) room
within-after sys s (Step.Stalls t) room = none_spent s (stalled_with s t.target (slice_get s.obligations t.target)) (spent-stall s t.target (slice_get s.obligations t.target)) room
within-after sys s (Step.Derives f) room = one_spent s s (refl, refl) room
within-after sys s (Step.Strengthens l) room = one_spent s s (refl, refl) room

pub within-replay : (sys : Clauses) (s : State) (steps : List Step) → s.spent ≤ s.given → AreLegal sys s steps → (replay sys s steps).spent ≤ (replay sys s steps).given
within-replay sys s [] within legal = within
within-replay sys s (step ∷ steps) within legal = within-replay sys (after sys s step) steps (within-after sys s step (has_a_unit s within (legal.0).goes_on)) legal.1

-- a first book

pub opening_room : (sys : Clauses) (units : ℕ) (steps : List Step) → AreLegal sys (opening units) steps → HasRoom units (replay sys (opening units) steps)
opening_room sys units steps legal =
    let t = replay sys (opening units) steps in
    let since = counts-replay sys (opening units) steps legal in
    let none : 0 ≤ units = omega arith in
    let within : t.spent ≤ t.given = within-replay sys (opening units) steps none legal in
    let given : t.given ≡ units = since.given in
    let spent : t.spent ≤ units = omega (arith, within, given) in
    let lemmas : length t.lemmas + 0 ≤ 0 + t.spent = since.lemmas in
    let facts : length t.facts + 0 ≤ 0 + t.spent = since.facts in
    let obligations : length t.obligations + 0 ≤ 1 + t.spent = since.obligations in
    let level : t.level + 0 ≤ 0 + t.spent = since.level in
    let entries : t.entries + 0 + 0 ≡ 0 + t.spent + marks t.obligations = since.entries in
    let marked = marks-at_most t.obligations in
    record {
      spent = spent;
      lemmas = omega (arith, spent, lemmas);
      facts = omega (arith, spent, facts);
      obligations = omega (arith, spent, obligations);
      level = omega (arith, spent, level);
      entries = omega (arith, spent, obligations, entries, marked);
    }
