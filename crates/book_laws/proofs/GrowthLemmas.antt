-- What every step leaves or makes more of: the level, what is in a frame, and the numbers of facts.
use Rattle.std.proofs.Common.{◌≡◌, ℕ, ◌+◌, ◌≤◌, zero, suc, List, [], ◌∷◌, ◌++◌, Bool, true, false, ◌&&◌, ◌||◌, Some, None, refl, ap, sym, subst, arith}
use Rattle.std.specs.Prelude.{Option, nat_le, slice_get, slice_set}
use Rattle.std.specs.List.{list_any}
use Rattle.std.proofs.lemmas.Bool.Decides.{nat_tests}
use mathlib.Core.Bool.{true≢false}
use Rattle.clause_form.specs.System.{Clauses}
use Rattle.clause_form.specs.declared.atom.Atom.{Atom}
use Rattle.book_rules.specs.Effects.{after, fact_of, learnt, lifted, lifted_with, opened, opened_with, raised, recorded, stalled, stalled_with, written}
use Rattle.book_rules.specs.Frames.{Framed, Lemma, frame_has, same_lemma}
use Rattle.book_rules.specs.Legal.{replay}
use Rattle.book_rules.specs.LemmaRules.{lifted_of}
use Rattle.book_rules.specs.OpenRules.{atom_of, parent_of}
use Rattle.book_rules.specs.State.{Fact, Obligation, State}
use Rattle.book_rules.specs.Steps.{OpenStep, Seen, Step}
use Rattle.book_rules.proofs.FrameLemmas.{above}
use Rattle.book_rules.proofs.ListLemmas.{both_true, either_is, from_both}
use Rattle.book_rules.proofs.TreeLemmas.{get-append}

pub record HasGrown (old new : State) : Type 0 where
  pub level : old.level ≤ new.level
  pub frames : (k : ℕ) (lemma : Lemma) → frame_has old.lemmas k lemma ≡ true → frame_has new.lemmas k lemma ≡ true
  pub facts : (i : ℕ) (f : Fact) → slice_get old.facts i ≡ Some f → slice_get new.facts i ≡ Some f

-- what is in a frame stays in it

pub or_right : (a b : Bool) → b ≡ true → (a || b) ≡ true
or_right true b h = refl
or_right false b h = h

any-append : {X : Type 0} (p : X → Bool) (xs ys : List X) → list_any p xs ≡ true → list_any p (xs ++ ys) ≡ true
any-append p [] ys h = absurd (true≢false (sym h))
any-append p (x ∷ xs) ys h = either_is (p x) (list_any p xs) ((p x || list_any p (xs ++ ys)) ≡ true) (λ is. ap (λ b. b || list_any p (xs ++ ys)) is) (λ rest. or_right (p x) _ (any-append p xs ys rest)) h

le_more : (k n : ℕ) → nat_le k n ≡ true → nat_le k (n + 1) ≡ true
le_more k n h = grind (arith, nat_tests)

one_higher : (k n : ℕ) (b : Bool) → (nat_le k n && b) ≡ true → (nat_le k (n + 1) && b) ≡ true
one_higher k n b h = let both = both_true (nat_le k n) b h in from_both (nat_le k (n + 1)) b (le_more k n both.0) both.1

lifted_has : (k : ℕ) (lemma : Lemma) (es : List Framed) (i : ℕ) (e : Framed) → slice_get es i ≡ Some e → frame_has es k lemma ≡ true → frame_has (slice_set es i (above e)) k lemma ≡ true
lifted_has k lemma [] i e is h = absurd (true≢false (sym h))
lifted_has k lemma (x ∷ es) zero e is h =
    let same : e ≡ x = cc in
    either_is (nat_le k x.level && same_lemma x.lemma lemma) (frame_has es k lemma) ((nat_le k (e.level + 1) && same_lemma e.lemma lemma || frame_has es k lemma) ≡ true)
    (λ here. ap (λ b. b || frame_has es k lemma) (subst (λ (y : Framed). (nat_le k (y.level + 1) && same_lemma y.lemma lemma) ≡ true) (sym same) (one_higher k x.level (same_lemma x.lemma lemma) here)))
    (λ rest. or_right (nat_le k (e.level + 1) && same_lemma e.lemma lemma) _ rest) h
lifted_has k lemma (x ∷ es) (suc i) e is h =
    let now = frame_has (slice_set es i (above e)) k lemma in
    either_is (nat_le k x.level && same_lemma x.lemma lemma) (frame_has es k lemma) ((nat_le k x.level && same_lemma x.lemma lemma || now) ≡ true)
    (λ here. ap (λ b. b || now) here)
    (λ rest. or_right (nat_le k x.level && same_lemma x.lemma lemma) _ (lifted_has k lemma es i e is rest)) h

-- each step

grown-by : (s new : State) → new.level ≡ s.level → new.lemmas ≡ s.lemmas → new.facts ≡ s.facts → HasGrown s new
grown-by s new level lemmas facts = record {
  level = omega (arith, level);
  frames = λ k lemma h. subst (λ (es : List Framed). frame_has es k lemma ≡ true) (sym lemmas) h;
  facts = λ i f h. subst (λ (fs : List Fact). slice_get fs i ≡ Some f) (sym facts) h;
}

grown-open : (s : State) (o : OpenStep) (parent : Option Obligation) (atom : Option Atom) → HasGrown s (opened_with s o parent atom)
grown-open s o None atom = grown-by s s refl refl refl
grown-open s o (Some p) None = grown-by s s refl refl refl
grown-open s o (Some p) (Some a) = grown-by s (opened_with s o (Some p) (Some a)) refl refl refl

grown-stall : (s : State) (number : ℕ) (found : Option Obligation) → HasGrown s (stalled_with s number found)
grown-stall s number None = grown-by s s refl refl refl
grown-stall s number (Some o) = grown-by s (stalled_with s number (Some o)) refl refl refl

grown-lift : (s : State) (number : ℕ) (found : Option Framed) → slice_get s.lemmas number ≡ found → HasGrown s (lifted_with s number found)
grown-lift s number None is = grown-by s s refl refl refl
grown-lift s number (Some e) is = record {
  level = omega arith;
  frames = λ k lemma h. lifted_has k lemma s.lemmas number e is h;
  facts = λ i f h. h;
}

grown-learn : (s : State) (lemma : Lemma) (level : ℕ) → HasGrown s (learnt s lemma level)
grown-learn s lemma level = record {
  level = omega arith;
  frames = λ k other h. any-append (λ (e : Framed). nat_le k e.level && same_lemma e.lemma other) s.lemmas _ h;
  facts = λ i f h. h;
}

grown-record : (sys : Clauses) (s : State) (seen : Seen) (premises : List ℕ) → HasGrown s (recorded sys s seen premises)
grown-record sys s seen premises = record {
  level = omega arith;
  frames = λ k lemma h. h;
  facts = λ i f h. get-append s.facts (fact_of sys s seen premises ∷ []) i f h;
}

grown-raise : (s : State) → HasGrown s (raised s)
grown-raise s = record { level = omega arith; frames = λ k lemma h. h; facts = λ i f h. h }

grown-written : (units : ℕ) (old new : State) → HasGrown old new → HasGrown old (written units new)
grown-written units old new h = record { level = h.level; frames = h.frames; facts = h.facts }

pub grown-after : (sys : Clauses) (s : State) (step : Step) → HasGrown s (after sys s step)
grown-after sys s (Step.Opens o) = grown-written 1 s (opened sys s o) (grown-open s o (parent_of s o) (atom_of sys o))
grown-after sys s (Step.Learns l) = grown-written 1 s (learnt s l.lemma l.level) (grown-learn s l.lemma l.level)
grown-after sys s (Step.Records f) = grown-written 1 s (recorded sys s f.seen f.premises) (grown-record sys s f.seen f.premises)
grown-after sys s (Step.Lifts l) = grown-written 1 s (lifted s l) (grown-lift s l.lemma (lifted_of s l) refl)
grown-after sys s (Step.Raises r) = grown-written 1 s (raised s) (grown-raise s)
grown-after sys s (Step.Stalls t) = grown-written 0 s (stalled s t) (grown-stall s t.target (slice_get s.obligations t.target))
grown-after sys s (Step.Derives f) = grown-written 1 s (recorded sys s f.seen f.premises) (grown-record sys s f.seen f.premises)
grown-after sys s (Step.Strengthens l) = grown-written 1 s (learnt s l.lemma l.level) (grown-learn s l.lemma l.level)

-- and many of them

grown-on : (old mid new : State) → HasGrown old mid → HasGrown mid new → HasGrown old new
grown-on old mid new a b = record {
  level = let x = a.level in let y = b.level in omega (arith, x, y);
  frames = λ k lemma h. b.frames k lemma (a.frames k lemma h);
  facts = λ i f h. b.facts i f (a.facts i f h);
}

pub grown-replay : (sys : Clauses) (s : State) (steps : List Step) → HasGrown s (replay sys s steps)
grown-replay sys s [] = grown-by s s refl refl refl
grown-replay sys s (step ∷ steps) = grown-on s (after sys s step) (replay sys (after sys s step) steps) (grown-after sys s step) (grown-replay sys (after sys s step) steps)
