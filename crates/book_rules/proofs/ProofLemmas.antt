-- What the proofs of a step show: where no clause lacks its proof and none uses what it may not use, the claim holds through
-- every clause.
use Rattle.std.proofs.Common.{◌≡◌, ℕ, ◌+◌, ◌≤◌, zero, suc, List, [], ◌∷◌, map, Bool, true, false, ◌&&◌, ◌||◌, not, cond, Some, None, refl, ap, sym, ◌∙◌, subst, arith}
use Rattle.std.specs.Prelude.{Option, ℤ, nat_le, nat_lt, ◌==◌, option_map, slice_get}
use Rattle.std.specs.List.{list_all, list_any}
use Rattle.std.proofs.lemmas.Bool.{eqb-true}
use Rattle.std.proofs.lemmas.Bool.Decides.{nat_tests}
use mathlib.Core.Bool.{true≢false}
use Rattle.lin_atoms.specs.declared.lit.Lit.{Lit}
use Rattle.clause_form.specs.System.{Clauses}
use Rattle.clause_form.specs.declared.atom.Atom.{Atom}
use Rattle.clause_form.specs.declared.clause.Clause.{Clause}
use Rattle.cube_forms.specs.Cubes.{cube_holds, tuple_at}
use Rattle.book_rules.specs.declared.by.By.{By}
use Rattle.book_rules.specs.declared.by.By.TheVariants.{Clause as ByClause}
use Rattle.book_rules.specs.Walks.{AllOf, has, on}
use Rattle.book_rules.specs.Instances.{Ground, IsInstance, instances, atom_at, body_at}
use Rattle.book_rules.specs.Frames.{Lemma, Framed, accepts, in_frame, same_lemma, frame_has, IsShown, IsImplied, AreRefuted}
use Rattle.book_rules.specs.Queries.{Used}
use Rattle.book_rules.specs.Steps.{Shown, Shows, accepts_used, meets}
use Rattle.book_rules.specs.Proofs.{is_head, pred_of, same_goal, is_empty, needs, is_proof_of, unshown_from, unshown, used_lemma, may_use, all_may_use, misused}
use Rattle.book_rules.proofs.ListLemmas.{both_true, from_both, either_is, all_weaken, all_at, any_of, any_at, none_told, unless_none}
use Rattle.book_rules.proofs.FrameLemmas.{accepts_else, some_suc}
use Rattle.book_rules.proofs.SameLemmas.{cube_is, lemma_is}

-- a clause whose body is in F(k) needs its proof

nothing_in : (es : List Framed) (point : List ℤ) (atoms : List Atom) → list_all (in_frame es 0) (map (atom_at point) atoms) ≡ true → is_empty atoms ≡ true
nothing_in es point [] h = refl
nothing_in es point (x ∷ atoms) h = absurd (true≢false (sym h))

needed : (k : ℕ) (es : List Framed) (point : List ℤ) (clause : Clause) → list_all (in_frame es k) (body_at point clause) ≡ true → (nat_lt 0 k || is_empty clause.atoms) ≡ true
needed zero es point clause h = nothing_in es point clause.atoms h
needed (suc k) es point clause h = ap (λ b. b || is_empty clause.atoms) (some_suc k)

unshown_at : (k : ℕ) (claim : Option Lemma) (proofs : List Shown) (n : ℕ) (clauses : List Clause) → unshown_from k claim proofs n clauses ≡ None
    → (i : ℕ) (clause : Clause) → slice_get clauses i ≡ Some clause → (not (needs k claim clause) || list_any (is_proof_of claim (n + i)) proofs) ≡ true
unshown_at k claim proofs n [] h i clause is = absurd (cc)
unshown_at k claim proofs n (c ∷ cs) h zero clause is =
    let here = unless_none (not (needs k claim c) || list_any (is_proof_of claim n) proofs) (ByClause n) (unshown_from k claim proofs (n + 1) cs) h in
    let same : c ≡ clause = cc in
    let number : n ≡ n + 0 = omega arith in
    subst (λ m. (not (needs k claim clause) || list_any (is_proof_of claim m) proofs) ≡ true) number (subst (λ (x : Clause). (not (needs k claim x) || list_any (is_proof_of claim n) proofs) ≡ true) same here.0)
unshown_at k claim proofs n (c ∷ cs) h (suc i) clause is =
    let here = unless_none (not (needs k claim c) || list_any (is_proof_of claim n) proofs) (ByClause n) (unshown_from k claim proofs (n + 1) cs) h in
    let number : n + 1 + i ≡ n + suc i = omega arith in
    subst (λ m. (not (needs k claim clause) || list_any (is_proof_of claim m) proofs) ≡ true) number (unshown_at k claim proofs (n + 1) cs here.1 i clause is)

has_proof : (b c : Bool) → b ≡ true → (not b || c) ≡ true → c ≡ true
has_proof true c is h = h
has_proof false c is h = absurd (true≢false (sym is))

-- used lemmas accept the body

self_same : (n : ℕ) → (n == n) ≡ true
self_same n = grind (arith, nat_tests)

outside : (b c : Bool) → b ≡ true → not (b && c) ≡ true → not c ≡ true
outside true c is h = h
outside false c is h = absurd (true≢false (sym is))

pub frame_accepts : (es : List Framed) (k : ℕ) (lemma : Lemma) (a : Ground) → in_frame es k a ≡ true → frame_has es k lemma ≡ true → accepts lemma a ≡ true
frame_accepts es k lemma a inside there =
    let found = any_at (λ (e : Framed). nat_le k e.level && same_lemma e.lemma lemma) es there in
    let e = found.1 in
    let both = both_true (nat_le k e.level) (same_lemma e.lemma lemma) found.3 in
    let level : nat_le k e.level ≡ true = both.0 in
    let below : k ≤ e.level = grind (arith, nat_tests) in
    let all = (both_true (nat_lt 0 k) _ inside).1 in
    let own = accepts_else e.level k (accepts e.lemma a) below (all_at (λ (x : Framed). nat_lt x.level k || accepts x.lemma a) es found.0 e found.2 all) in
    subst (λ (l : Lemma). accepts l a ≡ true) (lemma_is e.lemma lemma both.1) own

pub all_map_at : {X Y : Type 0} (f : X → Y) (p : Y → Bool) (xs : List X) (i : ℕ) (x : X) → slice_get xs i ≡ Some x → list_all p (map f xs) ≡ true → p (f x) ≡ true
all_map_at f p [] i x is h = absurd (cc)
all_map_at f p (y ∷ xs) zero x is h = let same : y ≡ x = cc in ap (λ z. p (f z)) (sym same) ∙ (both_true (p (f y)) _ h).0
all_map_at f p (y ∷ xs) (suc i) x is h = all_map_at f p xs i x is (both_true (p (f y)) _ h).1

-- the claim itself on the body, where it may be used
abbrev pub own_accepts : Option Lemma → List Ground → Bool
own_accepts None body = true
own_accepts (Some lemma) body = list_all (accepts lemma) body

own_at : (own : Option Lemma) (point : List ℤ) (atoms : List Atom) → own_accepts own (map (atom_at point) atoms) ≡ true → (i : ℕ) (atom : Atom) → slice_get atoms i ≡ Some atom
    → (lemma : Lemma) → has own (λ itself. same_lemma itself lemma) ≡ true → accepts lemma (atom_at point atom) ≡ true
own_at None point atoms all i atom is lemma h = absurd (true≢false (sym h))
own_at (Some itself) point atoms all i atom is lemma h =
    subst (λ (l : Lemma). accepts l (atom_at point atom) ≡ true) (lemma_is itself lemma h) (all_map_at (atom_at point) (accepts itself) atoms i atom is all)

abbrev on_atom : Used → Atom → Lemma
on_atom u atom = record { pred = atom.pred; cube = u.cube }

use_accepts : (es : List Framed) (k : ℕ) (own : Option Lemma) (point : List ℤ) (atoms : List Atom) → list_all (in_frame es k) (map (atom_at point) atoms) ≡ true → own_accepts own (map (atom_at point) atoms) ≡ true
    → (u : Used) (found : Option Atom) → slice_get atoms u.atom ≡ found → has (option_map (on_atom u) found) (λ lemma. frame_has es k lemma || has own (λ itself. same_lemma itself lemma)) ≡ true
    → not (has found (λ atom. cube_holds (tuple_at point atom.args) u.cube)) ≡ true
use_accepts es k own point atoms inside itself u None is h = absurd (true≢false (sym h))
use_accepts es k own point atoms inside itself u (Some atom) is h =
    let lemma = on_atom u atom in
    let accepted : accepts lemma (atom_at point atom) ≡ true = either_is (frame_has es k lemma) _ (accepts lemma (atom_at point atom) ≡ true)
    (frame_accepts es k lemma (atom_at point atom) (all_map_at (atom_at point) (in_frame es k) atoms u.atom atom is inside)) (own_at own point atoms itself u.atom atom is lemma) h in
    outside (atom.pred == atom.pred) (cube_holds (tuple_at point atom.args) u.cube) (self_same atom.pred) accepted

may_accept : (sys : Clauses) (es : List Framed) (k : ℕ) (own : Option Lemma) (number : ℕ) (clause : Clause) → slice_get sys.clauses number ≡ Some clause → (point : List ℤ)
    → list_all (in_frame es k) (body_at point clause) ≡ true → own_accepts own (body_at point clause) ≡ true → (u : Used) → may_use sys es k own number u ≡ true → accepts_used point clause.atoms u ≡ true
may_accept sys es k own number clause there point inside itself u h =
    let test : Lemma → Bool = λ lemma. frame_has es k lemma || has own (λ itself. same_lemma itself lemma) in
    let lemma : used_lemma sys number u ≡ option_map (on_atom u) (slice_get clause.atoms u.atom) = ap (λ (found : Option Clause). on found (λ (c : Clause). option_map (on_atom u) (slice_get c.atoms u.atom))) there in
    use_accepts es k own point clause.atoms inside itself u (slice_get clause.atoms u.atom) refl (ap (λ (found : Option Lemma). has found test) (sym lemma) ∙ h)

-- the claim

abbrev goal_of : Option Lemma → Option (List Lit)
goal_of None = None
goal_of (Some lemma) = Some lemma.cube

goal_is : (goal : Option (List Lit)) (claim : Option Lemma) → same_goal goal claim ≡ true → goal ≡ goal_of claim
goal_is None None h = refl
goal_is None (Some lemma) h = absurd (true≢false (sym h))
goal_is (Some cube) None h = absurd (true≢false (sym h))
goal_is (Some cube) (Some lemma) h = ap (λ c. Some c) (cube_is cube lemma.cube h)

-- a proof of the step, with what its token stands for, and that it uses only what it may
abbrev IsUsable : Clauses → List Framed → ℕ → Option Lemma → Shown → Type 0
IsUsable sys es k own p = Shows sys p × (all_may_use sys es k own p.clause p.used ≡ true)

all_pairs : {X : Type 0} (P Q : X → Type 0) (xs : List X) → AllOf P xs → AllOf Q xs → AllOf (λ x. P x × Q x) xs
all_pairs P Q [] p q = tt
all_pairs P Q (x ∷ xs) p q = ((p.0, q.0), all_pairs P Q xs p.1 q.1)

are_usable : (sys : Clauses) (es : List Framed) (k : ℕ) (own : Option Lemma) (proofs : List Shown) → AllOf (Shows sys) proofs → misused sys es k own proofs ≡ None → AllOf (IsUsable sys es k own) proofs
are_usable sys es k own proofs shows h =
    all_pairs (Shows sys) (λ (p : Shown). all_may_use sys es k own p.clause p.used ≡ true) proofs shows
    (none_told (λ (p : Shown). cond {A = Option By} (all_may_use sys es k own p.clause p.used) None (Some (ByClause p.clause))) (λ (p : Shown). all_may_use sys es k own p.clause p.used ≡ true)
    (λ p told. (unless_none (all_may_use sys es k own p.clause p.used) (ByClause p.clause) None told).0) proofs h)

pub claim_holds : (sys : Clauses) (es : List Framed) (k : ℕ) (claim own : Option Lemma) (proofs : List Shown) → AllOf (Shows sys) proofs → unshown sys k claim proofs ≡ None → misused sys es k own proofs ≡ None
    → (number : ℕ) (clause : Clause) (point : List ℤ) → slice_get sys.clauses number ≡ Some clause → IsInstance clause point → is_head (pred_of claim) clause.head ≡ true
    → list_all (in_frame es k) (body_at point clause) ≡ true → own_accepts own (body_at point clause) ≡ true → meets point clause.head (goal_of claim) ≡ true
claim_holds sys es k claim own proofs shows unshown misused number clause point there instance head inside itself =
    let need : needs k claim clause ≡ true = from_both (is_head (pred_of claim) clause.head) _ head (needed k es point clause inside) in
    let some = has_proof (needs k claim clause) _ need (unshown_at k claim proofs 0 sys.clauses unshown number clause there) in
    let zero_more : 0 + number ≡ number = omega arith in
    let found = any_of (IsUsable sys es k own) (is_proof_of claim number) proofs (are_usable sys es k own proofs shows misused) (subst (λ m. list_any (is_proof_of claim m) proofs ≡ true) zero_more some) in
    let p = found.0 in
    let both = both_true (p.clause == number) (same_goal p.goal claim) found.2 in
    let same : p.clause ≡ number = eqb-true p.clause number both.0 in
    let its : slice_get sys.clauses p.clause ≡ Some clause = ap (slice_get sys.clauses) same ∙ there in
    let used = all_weaken (may_use sys es k own p.clause) (accepts_used point clause.atoms) (may_accept sys es k own p.clause clause its point inside itself) p.used (found.1).1 in
    subst (λ goal. meets point clause.head goal ≡ true) (goal_is p.goal claim both.1) ((found.1).0 clause point its instance used)

-- the lemma through an instance

lemma_meets : (lemma : Lemma) (point : List ℤ) (head : Option Atom) (a : Ground) → option_map (atom_at point) head ≡ Some a → (is_head (Some lemma.pred) head ≡ true → meets point head (Some lemma.cube) ≡ true) → accepts lemma a ≡ true
lemma_meets lemma point None a is f = absurd (cc)
lemma_meets lemma point (Some atom) a is f =
    let same : atom_at point atom ≡ a = cc in
    subst (λ (x : Ground). accepts lemma x ≡ true) same (by_pred (lemma.pred == atom.pred) (cube_holds (tuple_at point atom.args) lemma.cube) f) where
      by_pred : (b c : Bool) → (b ≡ true → not c ≡ true) → not (b && c) ≡ true
      by_pred true c g = g refl
      by_pred false c g = refl

pub is_shown : (sys : Clauses) (es : List Framed) (k : ℕ) (lemma : Lemma) (proofs : List Shown) → AllOf (Shows sys) proofs → unshown sys k (Some lemma) proofs ≡ None → misused sys es k (Some lemma) proofs ≡ None → IsShown (instances sys) es k lemma
is_shown sys es k lemma proofs shows unshown misused number body a i inside own =
    lemma_meets lemma i.point i.clause.head a i.has_head
    (λ head. claim_holds sys es k (Some lemma) (Some lemma) proofs shows unshown misused number i.clause i.point i.there i.instance head
    (ap (list_all (in_frame es k)) i.has_body ∙ inside) (ap (list_all (accepts lemma)) i.has_body ∙ own))

pub is_implied : (sys : Clauses) (es : List Framed) (k : ℕ) (lemma : Lemma) (proofs : List Shown) → AllOf (Shows sys) proofs → unshown sys k (Some lemma) proofs ≡ None → misused sys es k None proofs ≡ None → IsImplied (instances sys) es k lemma
is_implied sys es k lemma proofs shows unshown misused number body a i inside =
    lemma_meets lemma i.point i.clause.head a i.has_head
    (λ head. claim_holds sys es k (Some lemma) None proofs shows unshown misused number i.clause i.point i.there i.instance head (ap (list_all (in_frame es k)) i.has_body ∙ inside) refl)

no_head : (point : List ℤ) (head : Option Atom) → option_map (atom_at point) head ≡ None → is_head None head ≡ true
no_head point None is = refl
no_head point (Some atom) is = absurd (cc)

pub are_refuted : (sys : Clauses) (es : List Framed) (k : ℕ) (proofs : List Shown) → AllOf (Shows sys) proofs → unshown sys k None proofs ≡ None → misused sys es k None proofs ≡ None → AreRefuted (instances sys) es k
are_refuted sys es k proofs shows unshown misused number body i = by_test (list_all (in_frame es k) body) (λ inside. impossible (meets-none i.point i.clause.head) (claim_holds sys es k None None proofs shows unshown misused number i.clause i.point i.there i.instance
    (no_head i.point i.clause.head i.has_head) (ap (list_all (in_frame es k)) i.has_body ∙ inside) refl)) where
      by_test : (b : Bool) → (b ≡ true → ⊥) → b ≡ false
      by_test true never = absurd (never refl)
      by_test false never = refl

      meets-none : (point : List ℤ) (head : Option Atom) → meets point head None ≡ false
      meets-none point None = refl
      meets-none point (Some atom) = refl

      impossible : {b : Bool} → b ≡ false → b ≡ true → ⊥
      impossible f t = true≢false (sym t ∙ f)
