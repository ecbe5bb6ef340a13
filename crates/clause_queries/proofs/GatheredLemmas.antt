-- What was found of the clauses so far.
use Rattle.std.proofs.Common.{◌≡◌, ℕ, zero, suc, ◌+◌, ◌<◌, ◌≤◌, List, [], ◌∷◌, ◌++◌, take, length, get_or, Bool, true, false, inl, inr, Some, None, refl, ap, sym, ◌∙◌, subst, arith}
use Rattle.std.specs.Prelude.{Option, slice_get, ◌==◌}
use Rattle.std.specs.List.{list_all, list_any}
use Rattle.std.proofs.lemmas.List.Folds.{list_all-append, list_any-append}
use mathlib.Core.Bool.{true≢false}
use Rattle.clause_form.specs.System.{Clauses}
use Rattle.clause_form.specs.declared.clause.Clause.{Clause}
use Rattle.lemma_frames.specs.declared.framed.Framed.{Framed}
use Rattle.chc_tokens.specs.Kept.{seen_point, shown_clause, shown_used}
use Rattle.chc_tokens.specs.Tokens.{is_passed}
use Rattle.chc_tokens.specs.declared.goal.Goal.{Goal}
use Rattle.chc_tokens.specs.declared.refuting.Shown.{Shown}
use Rattle.chc_tokens.specs.declared.seeing.Seen.{Seen}
use Rattle.chc_tokens.specs.declared.used.Used.{Used}
use Rattle.book_rules.specs.Walks.{AllOf, has}
use Rattle.book_rules.proofs.ListLemmas.{all_of-push, all_weaken, either_is}
use Rattle.cube_rules.proofs.Public.{both_true, from_both}
use Rattle.clause_queries.specs.Answers.{IsFound, IsGivenUpFor, IsHit, IsInstanceFor, IsProof, IsRefutedFor, IsUnknown, NoneFound, is_through}
use Rattle.clause_queries.specs.Uses.{AreUses, IsAskedAt, is_asked, uses}
use Rattle.clause_queries.specs.machinery.Asking.{HaveAsked, IsAnswer, IsAnswerAt, IsComplete, IsNoted, first_lost, found_by, found_of}
use Rattle.clause_queries.specs.machinery.Choices.{AreAsked, is_in}
use Rattle.clause_queries.specs.declared.asking.Asked.{Asked}
use Rattle.clause_queries.specs.declared.asking.Asked.TheVariants.{Instance, Refuted, GivenUp}
use Rattle.clause_queries.specs.declared.finding.Gathered.{Gathered}
use Rattle.clause_queries.specs.declared.lost.Lost.{Lost}
use Rattle.clause_queries.proofs.BoolLemmas.{either_left, either_right, number_is, own_number}

take-suc : {X : Type 0} (xs : List X) (i : ℕ) (d : X) → i < length xs → take (suc i) xs ≡ take i xs ++ get_or xs i d ∷ []
take-suc [] i d within = absurd (omega arith)
take-suc (x ∷ xs) zero d within = refl
take-suc (x ∷ xs) (suc i) d within = ap (λ ys. x ∷ ys) (take-suc xs i d (omega arith))

-- one item more, whatever stands for one that isn't there
take-more : {X : Type 0} (xs : List X) (i : ℕ) (d : X) → i < length xs → take (i + 1) xs ≡ take i xs ++ get_or xs i d ∷ []
take-more xs i d within = ap (λ k. take k xs) (let e : i + 1 ≡ suc i = omega arith in e) ∙ take-suc xs i d within

take-past : {X : Type 0} (xs : List X) (i : ℕ) → length xs ≤ i → take i xs ≡ xs
take-past [] zero past = refl
take-past [] (suc i) past = refl
take-past (x ∷ xs) zero past = absurd (omega arith)
take-past (x ∷ xs) (suc i) past = ap (λ ys. x ∷ ys) (take-past xs i (omega arith))

-- the item at an index that is there, whatever stands for one that isn't
pub all-default : {X : Type 0} (p : X → Bool) (xs : List X) (i : ℕ) (d : X) → i < length xs → list_all p xs ≡ true → p (get_or xs i d) ≡ true
all-default p [] i d within all = absurd (omega arith)
all-default p (y ∷ xs) zero d within all = (both_true (p y) (list_all p xs) all).0
all-default p (y ∷ xs) (suc i) d within all = all-default p xs i d (omega arith) (both_true (p y) (list_all p xs) all).1

-- a number of a clause that is asked
asked-in : (o : Option Clause) (sys : Clauses) (pred : Option ℕ) (k n : ℕ) → slice_get sys.clauses n ≡ o → has o (is_asked pred k) ≡ true → IsAskedAt sys pred k n
asked-in None sys pred k n there is = absurd (true≢false (sym is))
asked-in (Some clause) sys pred k n there is = record { clause = clause; there = there; asked = is }

pub asked-at : (sys : Clauses) (pred : Option ℕ) (k n : ℕ) → has (slice_get sys.clauses n) (is_asked pred k) ≡ true → IsAskedAt sys pred k n
asked-at sys pred k n is = asked-in (slice_get sys.clauses n) sys pred k n refl is

-- an answer of a clause
pub answer-at : (sys : Clauses) (fs : List Framed) (pred : Option ℕ) (goal other : Goal) (k nodes n : ℕ) (used : List Used) (asked : Asked) (clause : Clause) → (at : IsAskedAt sys pred k n) → slice_get sys.clauses n ≡ Some clause → other ≡ goal → AreUses k fs clause used
    → IsAnswer sys n other used nodes asked → IsAnswerAt sys fs pred goal k nodes n asked
answer-at sys fs pred goal other k nodes n used asked clause at there same are answer =
    let first : clause ≡ at.clause = (let both = sym there ∙ at.there in cc) in
    record { at = at; used = used; under = subst (λ (c : Clause). AreUses k fs c used) first are; answer = subst (λ (g : Goal). IsAnswer sys n g used nodes asked) same answer }

-- one answer more

proof-of : (sys : Clauses) (fs : List Framed) (pred : Option ℕ) (goal : Goal) (k n : ℕ) (shown : Shown) (used : List Used) (at : IsAskedAt sys pred k n) → AreUses k fs at.clause used → IsRefutedFor sys n goal used shown → IsProof sys fs pred goal k shown
proof-of sys fs pred goal k n shown used at under refuted =
    let own = subst (λ (us : List Used). AreUses k fs at.clause us × IsRefutedFor sys n goal us shown) (sym refuted.used_is) (under, refuted) in
    let moved = subst (λ (m : ℕ). (its : IsAskedAt sys pred k m) × AreUses k fs its.clause (shown_used shown) × IsRefutedFor sys m goal (shown_used shown) shown) (sym refuted.number) (at, own.0, own.1) in
    record { at = moved.0; under = moved.1; refuted = moved.2 }

-- the body is accepted by all lemmas of F(k)
inside : (sys : Clauses) (fs : List Framed) (pred : Option ℕ) (goal : Goal) (k n : ℕ) (seen : Seen) (used : List Used) (at : IsAskedAt sys pred k n) → AreUses k fs at.clause used → IsInstanceFor sys n goal used seen → IsInstanceFor sys n goal (uses k fs at.clause) seen
inside sys fs pred goal k n seen used at under its =
    let same : at.clause ≡ its.clause = (let both = sym at.there ∙ its.there in cc) in
    let passed = subst (λ (c : Clause). list_all (is_passed (seen_point seen) c) used ≡ true) (sym same) its.body in
    record {
      clause = its.clause;
      there = its.there;
      number = its.number;
      seen_is = its.seen_is;
      placed = its.placed;
      head = its.head;
      body = subst (λ (c : Clause). list_all (is_passed (seen_point seen) c) (uses k fs at.clause) ≡ true) same (under.enough (seen_point seen) passed);
    }

hit-of : (sys : Clauses) (fs : List Framed) (pred : Option ℕ) (goal : Goal) (k n : ℕ) (seen : Seen) (used : List Used) (at : IsAskedAt sys pred k n) → AreUses k fs at.clause used → IsInstanceFor sys n goal used seen → IsHit sys fs pred goal k seen
hit-of sys fs pred goal k n seen used at under instance =
    let moved = subst (λ (m : ℕ). (its : IsAskedAt sys pred k m) × IsInstanceFor sys m goal (uses k fs its.clause) seen) (sym instance.number) (at, inside sys fs pred goal k n seen used at under instance) in
    record { at = moved.0; instance = moved.1 }

lost-of : (sys : Clauses) (fs : List Framed) (pred : Option ℕ) (goal : Goal) (k nodes n : ℕ) (lost : Lost) (used : List Used) (at : IsAskedAt sys pred k n) → AreUses k fs at.clause used → IsGivenUpFor sys n goal used nodes lost
    → IsUnknown sys fs pred goal k nodes lost
lost-of sys fs pred goal k nodes n lost used at under given_up =
    let own = subst (λ (us : List Used). AreUses k fs at.clause us × IsGivenUpFor sys n goal us nodes lost) (sym given_up.used_is) (under, given_up) in
    let moved = subst (λ (m : ℕ). (its : IsAskedAt sys pred k m) × AreUses k fs its.clause lost.used × IsGivenUpFor sys m goal lost.used nodes lost) (sym given_up.number) (at, own.0, own.1) in
    record { at = moved.0; under = moved.1; given_up = moved.2 }

more-shown : (sys : Clauses) (fs : List Framed) (pred : Option ℕ) (goal : Goal) (k nodes n : ℕ) (done : List ℕ) (proofs : List Shown) (shown : Shown) (lost : Option Lost) → shown_clause shown ≡ n
    → IsComplete sys fs pred goal k nodes done proofs lost → IsComplete sys fs pred goal k nodes (done ++ n ∷ []) (proofs ++ shown ∷ []) lost
more-shown sys fs pred goal k nodes n done proofs shown (Some lost) is before = before
more-shown sys fs pred goal k nodes n done proofs shown None is before =
    let through = λ (m : ℕ). list_any (is_through m) (proofs ++ shown ∷ []) in
    let here : is_through n shown ≡ true = ap (λ (m : ℕ). m == n) is ∙ own_number n in
    list_all-append through done (n ∷ [])
    ∙ from_both _ _ (all_weaken (λ (m : ℕ). list_any (is_through m) proofs) through (λ m h. list_any-append (is_through m) proofs (shown ∷ []) ∙ either_left (list_any (is_through m) proofs) _ h) done before)
    (from_both (through n) true (list_any-append (is_through n) proofs (shown ∷ []) ∙ either_right (list_any (is_through n) proofs) _ (either_left (is_through n shown) false here)) refl)

more-lost : (sys : Clauses) (fs : List Framed) (pred : Option ℕ) (goal : Goal) (k nodes n : ℕ) (done : List ℕ) (proofs : List Shown) (lost : Option Lost) (new : Lost) → IsUnknown sys fs pred goal k nodes new
    → IsComplete sys fs pred goal k nodes done proofs lost → IsComplete sys fs pred goal k nodes (done ++ n ∷ []) proofs (first_lost lost new)
more-lost sys fs pred goal k nodes n done proofs None new is before = is
more-lost sys fs pred goal k nodes n done proofs (Some lost) new is before = before

-- what is next: the search ends with an instance, or goes on
abbrev pub IsNext : Clauses → List Framed → Option ℕ → Goal → ℕ → ℕ → List ℕ → Gathered → Option Seen → Type 0
IsNext sys fs pred goal k nodes done gathered None = HaveAsked sys fs pred goal k nodes done gathered
IsNext sys fs pred goal k nodes done gathered (Some seen) = IsHit sys fs pred goal k seen

noted : (sys : Clauses) (fs : List Framed) (pred : Option ℕ) (goal : Goal) (k nodes n : ℕ) (asked : Asked) (done : List ℕ) (old new : Gathered) (result : Option Seen)
    → IsAnswerAt sys fs pred goal k nodes n asked → IsNoted asked old new result → HaveAsked sys fs pred goal k nodes done old → IsNext sys fs pred goal k nodes (done ++ n ∷ []) new result
noted sys fs pred goal k nodes n (Instance seen) done old new result is how before =
    subst (IsNext sys fs pred goal k nodes (done ++ n ∷ []) new) (sym how) (hit-of sys fs pred goal k n seen is.used is.at is.under is.answer)
noted sys fs pred goal k nodes n (Refuted shown) done old new result is how before =
    let one = proof-of sys fs pred goal k n shown is.used is.at is.under is.answer in
    let each = subst (AllOf (IsProof sys fs pred goal k)) (sym how.1) (all_of-push (IsProof sys fs pred goal k) old.proofs shown before.each one) in
    let none = all_of-push (NoneFound sys fs pred goal k nodes) done n before.none (inl (shown, (is.answer).number, one)) in
    let complete = more-shown sys fs pred goal k nodes n done old.proofs shown old.lost (is.answer).number before.complete in
    let moved = subst (λ (ps : List Shown). IsComplete sys fs pred goal k nodes (done ++ n ∷ []) ps old.lost) (sym how.1) complete in
    subst (IsNext sys fs pred goal k nodes (done ++ n ∷ []) new) (sym how.0)
    (record { each = each; none = none; complete = subst (IsComplete sys fs pred goal k nodes (done ++ n ∷ []) new.proofs) (sym how.2) moved })
noted sys fs pred goal k nodes n (GivenUp lost) done old new result is how before =
    let one = lost-of sys fs pred goal k nodes n lost is.used is.at is.under is.answer in
    let each = subst (AllOf (IsProof sys fs pred goal k)) (sym how.1) before.each in
    let none = all_of-push (NoneFound sys fs pred goal k nodes) done n before.none (inr (lost, (is.answer).number, one)) in
    let complete = more-lost sys fs pred goal k nodes n done old.proofs old.lost lost one before.complete in
    let moved = subst (λ (ps : List Shown). IsComplete sys fs pred goal k nodes (done ++ n ∷ []) ps (first_lost old.lost lost)) (sym how.1) complete in
    subst (IsNext sys fs pred goal k nodes (done ++ n ∷ []) new) (sym how.0)
    (record { each = each; none = none; complete = subst (IsComplete sys fs pred goal k nodes (done ++ n ∷ []) new.proofs) (sym how.2) moved })

-- the same of the numbers that are gone through
pub noted-at : (sys : Clauses) (fs : List Framed) (pred : Option ℕ) (goal : Goal) (k nodes : ℕ) (numbers : List ℕ) (i d : ℕ) (asked : Asked) (old new : Gathered) (result : Option Seen) → i < length numbers
    → IsAnswerAt sys fs pred goal k nodes (get_or numbers i d) asked → IsNoted asked old new result → HaveAsked sys fs pred goal k nodes (take i numbers) old → IsNext sys fs pred goal k nodes (take (i + 1) numbers) new result
noted-at sys fs pred goal k nodes numbers i d asked old new result within is how before =
    subst (λ (done : List ℕ). IsNext sys fs pred goal k nodes done new result) (sym (take-more numbers i d within))
    (noted sys fs pred goal k nodes (get_or numbers i d) asked (take i numbers) old new result is how before)

-- all are asked

in-all : (P : ℕ → Type 0) (n : ℕ) (numbers : List ℕ) → AllOf P numbers → is_in n numbers ≡ true → P n
in-all P n [] all is = absurd (true≢false (sym is))
in-all P n (m ∷ numbers) all is = either_is (m == n) (is_in n numbers) (P n) (λ h. subst P (number_is m n h) all.0) (in-all P n numbers all.1) is

passes : (p : ℕ → Bool) (numbers : List ℕ) → list_all p numbers ≡ true → AllOf (λ n. p n ≡ true) numbers
passes p [] all = tt
passes p (m ∷ numbers) all = let both = both_true (p m) (list_all p numbers) all in (both.0, passes p numbers both.1)

all-found : (sys : Clauses) (fs : List Framed) (pred : Option ℕ) (goal : Goal) (k nodes : ℕ) (numbers : List ℕ) (proofs : List Shown) (lost : Option Lost) → AreAsked sys pred k numbers
    → AllOf (IsProof sys fs pred goal k) proofs → AllOf (NoneFound sys fs pred goal k nodes) numbers → IsComplete sys fs pred goal k nodes numbers proofs lost → IsFound sys fs pred goal k nodes (found_by proofs lost)
all-found sys fs pred goal k nodes numbers proofs (Some lost) asked each none complete = record {
  at = complete.at;
  under = complete.under;
  given_up = complete.given_up;
  none = λ n clause there is. in-all (NoneFound sys fs pred goal k nodes) n numbers none (asked.complete n clause there is);
}
all-found sys fs pred goal k nodes numbers proofs None asked each none complete = record {
  each = each;
  complete = λ n clause there is.
      in-all (λ m. list_any (is_through m) proofs ≡ true) n numbers (passes (λ m. list_any (is_through m) proofs) numbers complete) (asked.complete n clause there is);
}

pub gone-through : (sys : Clauses) (fs : List Framed) (pred : Option ℕ) (goal : Goal) (k nodes : ℕ) (numbers all : List ℕ) (i : ℕ) (gathered : Gathered) → length numbers ≤ i → numbers ≡ all → AreAsked sys pred k all
    → HaveAsked sys fs pred goal k nodes (take i numbers) gathered → IsFound sys fs pred goal k nodes (found_of gathered)
gone-through sys fs pred goal k nodes numbers all i gathered past same asked have =
    let done = take-past numbers i past ∙ same in
    all-found sys fs pred goal k nodes all gathered.proofs gathered.lost asked have.each (subst (AllOf (NoneFound sys fs pred goal k nodes)) done have.none)
    (subst (λ (numbers : List ℕ). IsComplete sys fs pred goal k nodes numbers gathered.proofs gathered.lost) done have.complete)
