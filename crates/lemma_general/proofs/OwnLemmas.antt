-- A lemma that uses itself: what is shown with the lemma at its own level is a proof by the frame and itself.
use Rattle.std.proofs.Common.{◌≡◌, ℕ, List, [], ◌∷◌, ◌++◌, Bool, true, false, ◌&&◌, ◌||◌, cond, inl, inr, Some, None, refl, ap, sym, ◌∙◌, subst}
use Rattle.std.specs.Prelude.{Option, Result, Ok, Err, IfOk, nat_le, ◌==◌}
use Rattle.std.specs.List.{list_all}
use mathlib.Core.Bool.{true≢false}
use Rattle.base.specs.declared.memory.Memory.{Memory}
use Rattle.lin_atoms.specs.declared.lit.Lit.{Lit}
use Rattle.clause_form.specs.System.{Clauses}
use Rattle.lemma_frames.specs.declared.framed.Framed.{Framed as KeptLemma}
use Rattle.chc_tokens.specs.Kept.{seen_point}
use Rattle.chc_tokens.specs.Tokens.{is_passed}
use Rattle.chc_tokens.specs.declared.goal.Goal.TheVariants.{Holds}
use Rattle.chc_tokens.specs.declared.refuting.Shown.{Shown}
use Rattle.chc_tokens.specs.declared.seeing.Seen.{Seen}
use Rattle.chc_tokens.specs.declared.used.Used.{Used as UsedLemma}
use Rattle.book_rules.specs.Frames.{Framed, Lemma, frame_has, same_lemma}
use Rattle.book_rules.specs.Places.{is_over}
use Rattle.book_rules.specs.Proofs.{all_may_use, may_use, misused, used_lemma}
use Rattle.book_rules.specs.Queries.{Used}
use Rattle.book_rules.specs.Steps.{Shown as PlainShown}
use Rattle.book_rules.specs.Walks.{AllOf, first_told, has, or_else}
use Rattle.book_rules.specs.declared.by.By.{By}
use Rattle.book_rules.specs.declared.by.By.TheVariants.{Clause as ByClause}
use Rattle.book_rules.proofs.ListLemmas.{all_of-push}
use Rattle.cube_rules.specs.Views.{framed_of, lemmas_of}
use Rattle.cube_rules.proofs.Public.{both_true, from_both}
use Rattle.clause_queries.specs.Answers.{IsHit}
use Rattle.clause_queries.specs.declared.finding.Found.{Found}
use Rattle.clause_queries.specs.declared.finding.Found.TheVariants.{Refuted, Instance, GivenUp}
use Rattle.clause_queries.specs.Uses.{use_of, uses_on}
use Rattle.clause_queries.proofs.Public.{uses-all, uses-back}
use Rattle.step_rules.specs.Standing.{Standing}
use Rattle.step_rules.specs.Tokens.{all_shown}
use Rattle.obligation_turn.specs.Turns.{GoesOn}
use Rattle.obligation_turn.proofs.ProvedLemmas.{IsProved, proved}
use Rattle.lemma_general.specs.machinery.Passes.{AreShownOf, IsAnswerOf, IsCubeOf, IsFoundOf, with_own}

-- a lemma of F(k) with one more lemma is in F(k), or that one

frame-or : (fs : List KeptLemma) (k : ℕ) (f : KeptLemma) (lemma : Lemma) → frame_has (lemmas_of (fs ++ f ∷ [])) k lemma ≡ true → (frame_has (lemmas_of fs) k lemma || same_lemma (framed_of f).lemma lemma) ≡ true
frame-or [] k f lemma h = by (nat_le k f.level) (same_lemma (framed_of f).lemma lemma) h
  where
    by : (a b : Bool) → ((a && b) || false) ≡ true → b ≡ true
    by true true g = refl
    by true false g = g
    by false b g = absurd (true≢false (sym g))
frame-or (g ∷ fs) k f lemma h = by (nat_le k g.level && same_lemma (framed_of g).lemma lemma) h (frame-or fs k f lemma)
  where
    by : (c : Bool) → (c || frame_has (lemmas_of (fs ++ f ∷ [])) k lemma) ≡ true → (frame_has (lemmas_of (fs ++ f ∷ [])) k lemma ≡ true → (frame_has (lemmas_of fs) k lemma || same_lemma (framed_of f).lemma lemma) ≡ true)
        → ((c || frame_has (lemmas_of fs) k lemma) || same_lemma (framed_of f).lemma lemma) ≡ true
    by true t rest = refl
    by false t rest = rest t

or-own : (fs : List KeptLemma) (k : ℕ) (f : KeptLemma) (lemma : Lemma) → (frame_has (lemmas_of (fs ++ f ∷ [])) k lemma || same_lemma (framed_of f).lemma lemma) ≡ true → (frame_has (lemmas_of fs) k lemma || same_lemma (framed_of f).lemma lemma) ≡ true
or-own fs k f lemma h = by (frame_has (lemmas_of (fs ++ f ∷ [])) k lemma) refl h
  where
    either : (a b : Bool) → b ≡ true → (a || b) ≡ true
    either true b g = refl
    either false b g = g

    by : (c : Bool) → frame_has (lemmas_of (fs ++ f ∷ [])) k lemma ≡ c → (c || same_lemma (framed_of f).lemma lemma) ≡ true → (frame_has (lemmas_of fs) k lemma || same_lemma (framed_of f).lemma lemma) ≡ true
    by true is t = frame-or fs k f lemma is
    by false is t = either (frame_has (lemmas_of fs) k lemma) (same_lemma (framed_of f).lemma lemma) t

has-so : (o : Option Lemma) (p q : Lemma → Bool) → ((l : Lemma) → p l ≡ true → q l ≡ true) → has o p ≡ true → has o q ≡ true
has-so None p q f h = h
has-so (Some l) p q f h = f l h

may-own : (sys : Clauses) (fs : List KeptLemma) (k : ℕ) (f : KeptLemma) (n : ℕ) (u : Used) → may_use sys (lemmas_of (fs ++ f ∷ [])) k (Some (framed_of f).lemma) n u ≡ true → may_use sys (lemmas_of fs) k (Some (framed_of f).lemma) n u ≡ true
may-own sys fs k f n u h =
    has-so (used_lemma sys n u) (λ lemma. frame_has (lemmas_of (fs ++ f ∷ [])) k lemma || same_lemma (framed_of f).lemma lemma) (λ lemma. frame_has (lemmas_of fs) k lemma || same_lemma (framed_of f).lemma lemma) (or-own fs k f) h

all-so : {X : Type 0} (p q : X → Bool) → ((x : X) → p x ≡ true → q x ≡ true) → (xs : List X) → list_all p xs ≡ true → list_all q xs ≡ true
all-so p q f [] h = refl
all-so p q f (x ∷ xs) h = by (p x) refl h (all-so p q f xs)
  where
    by : (b : Bool) → p x ≡ b → (b && list_all p xs) ≡ true → (list_all p xs ≡ true → list_all q xs ≡ true) → (q x && list_all q xs) ≡ true
    by true is t rest = ap (λ c. c && list_all q xs) (f x is) ∙ rest t
    by false is t rest = absurd (true≢false (sym t))

told-so : {X : Type 0} (p q : X → Bool) (told : X → By) → ((x : X) → p x ≡ true → q x ≡ true) → (xs : List X) → first_told (λ x. cond {A = Option By} (p x) None (Some (told x))) xs ≡ None → first_told (λ x. cond {A = Option By} (q x) None (Some (told x))) xs ≡ None
told-so p q told f [] h = refl
told-so p q told f (x ∷ xs) h = by (p x) refl h (told-so p q told f xs)
  where
    by : (b : Bool) → p x ≡ b → or_else (cond {A = Option By} b None (Some (told x))) (first_told (λ x. cond {A = Option By} (p x) None (Some (told x))) xs) ≡ None
        → (first_told (λ x. cond {A = Option By} (p x) None (Some (told x))) xs ≡ None → first_told (λ x. cond {A = Option By} (q x) None (Some (told x))) xs ≡ None)
        → or_else (cond {A = Option By} (q x) None (Some (told x))) (first_told (λ x. cond {A = Option By} (q x) None (Some (told x))) xs) ≡ None
    by true is t rest = ap (λ c. or_else (cond {A = Option By} c None (Some (told x))) (first_told (λ x. cond {A = Option By} (q x) None (Some (told x))) xs)) (f x is) ∙ rest t
    by false is t rest = absurd (let never : Some (told x) ≡ None = t in cc)

misused-own : (sys : Clauses) (fs : List KeptLemma) (k : ℕ) (f : KeptLemma) (proofs : List PlainShown) → misused sys (lemmas_of (fs ++ f ∷ [])) k (Some (framed_of f).lemma) proofs ≡ None → misused sys (lemmas_of fs) k (Some (framed_of f).lemma) proofs ≡ None
misused-own sys fs k f proofs h =
    let its : Option Lemma = Some (framed_of f).lemma in
    told-so (λ (p : PlainShown). all_may_use sys (lemmas_of (fs ++ f ∷ [])) k its p.clause p.used) (λ (p : PlainShown). all_may_use sys (lemmas_of fs) k its p.clause p.used) (λ (p : PlainShown). ByClause p.clause)
    (λ (p : PlainShown) g. all-so (may_use sys (lemmas_of (fs ++ f ∷ [])) k its p.clause) (may_use sys (lemmas_of fs) k its p.clause) (may-own sys fs k f p.clause) p.used g) proofs h

-- the frames with the lemma are over their predicates

lemmas-push : (fs : List KeptLemma) (f : KeptLemma) → lemmas_of (fs ++ f ∷ []) ≡ lemmas_of fs ++ framed_of f ∷ []
lemmas-push [] f = refl
lemmas-push (g ∷ fs) f = ap (λ rest. framed_of g ∷ rest) (lemmas-push fs f)

pub own-over : (b : Standing) (pred k : ℕ) (cube : List Lit) → GoesOn b → IsCubeOf b pred cube → AllOf (λ (e : Framed). is_over b.system.preds e.lemma.pred e.lemma.cube ≡ true) (lemmas_of (with_own b pred cube k))
own-over b pred k cube goes is =
    let f : KeptLemma = record { pred = pred; level = k; lemma = cube } in
    let p : Framed → Type 0 = λ (e : Framed). is_over b.system.preds e.lemma.pred e.lemma.cube ≡ true in
    subst (AllOf p) (sym (lemmas-push b.frames.lemmas f)) (all_of-push p (lemmas_of b.frames.lemmas) (framed_of f) ((goes.standing).over).lemmas is.over)

-- what the rules want of the proofs

pub shown-proved : (b : Standing) (pred k : ℕ) (cube : List Lit) (proofs : List Shown) → GoesOn b → IsCubeOf b pred cube → AreShownOf b pred cube k proofs
    → (let lemma : Lemma = record { pred = pred; cube = cube } in IsProved b.system (lemmas_of b.frames.lemmas) k (Some lemma) (Some lemma) proofs)
shown-proved b pred k cube proofs goes is (inl are) =
    let lemma : Lemma = record { pred = pred; cube = cube } in
    proved b.system b.frames.lemmas k (Some lemma) (Some lemma) proofs ((goes.standing).over).lemmas is.over are
shown-proved b pred k cube proofs goes is (inr are) =
    let lemma : Lemma = record { pred = pred; cube = cube } in
    let its = proved b.system (with_own b pred cube k) k (Some lemma) (Some lemma) proofs (own-over b pred k cube goes is) is.over are in
    record { made = its.made; places = its.places; unshown = its.unshown; misused = misused-own b.system b.frames.lemmas k (record { pred = pred; level = k; lemma = cube }) (all_shown proofs) its.misused }

-- an instance with its body in the frame and the lemma has it in the frame

on-fewer : (test : UsedLemma → Bool) (k number pred : ℕ) (fs : List KeptLemma) (f : KeptLemma) → list_all test (uses_on k number pred (fs ++ f ∷ [])) ≡ true → list_all test (uses_on k number pred fs) ≡ true
on-fewer test k number pred [] f h = refl
on-fewer test k number pred (g ∷ fs) f h = by (nat_le k g.level && (g.pred == pred)) h (on-fewer test k number pred fs f)
  where
    by : (b : Bool) → list_all test (cond {A = List UsedLemma} b (use_of number g ∷ uses_on k number pred (fs ++ f ∷ [])) (uses_on k number pred (fs ++ f ∷ []))) ≡ true
        → (list_all test (uses_on k number pred (fs ++ f ∷ [])) ≡ true → list_all test (uses_on k number pred fs) ≡ true) → list_all test (cond {A = List UsedLemma} b (use_of number g ∷ uses_on k number pred fs) (uses_on k number pred fs)) ≡ true
    by true t rest = let both = both_true (test (use_of number g)) _ t in from_both (test (use_of number g)) _ both.0 (rest both.1)
    by false t rest = rest t

pub own-hit : (b : Standing) (pred k : ℕ) (cube : List Lit) (seen : Seen) → IsHit b.system (with_own b pred cube k) (Some pred) (Holds cube) k seen → IsHit b.system b.frames.lemmas (Some pred) (Holds cube) k seen
own-hit b pred k cube seen hit =
    let test : UsedLemma → Bool = is_passed (seen_point seen) (hit.instance).clause in
    let atoms = ((hit.at).clause).atoms in
    let own : KeptLemma = record { pred = pred; level = k; lemma = cube } in
    record {
      at = hit.at;
      instance = record {
        clause = (hit.instance).clause;
        there = (hit.instance).there;
        number = (hit.instance).number;
        seen_is = (hit.instance).seen_is;
        placed = (hit.instance).placed;
        head = (hit.instance).head;
        body = uses-all test k b.frames.lemmas atoms (λ n atom there. on-fewer test k n atom.pred b.frames.lemmas own (uses-back test k (with_own b pred cube k) n atoms atom there (hit.instance).body));
      };
    }

-- what is found without the lemma itself is an answer, too
pub answered : (b : Standing) (pred : ℕ) (cube : List Lit) (k nodes : ℕ) (found : Result Found Memory) → IfOk found (IsFoundOf b pred cube k nodes) → IfOk found (IsAnswerOf b pred cube k nodes)
answered b pred cube k nodes (Ok (Instance seen)) is = is
answered b pred cube k nodes (Ok (Refuted proofs)) is = inl is
answered b pred cube k nodes (Ok (GivenUp lost)) is = is
answered b pred cube k nodes (Err memory) is = is
