-- Every legal step keeps levels in range, facts distinct, and each live obligation but the root in its place.
use Rattle.std.proofs.Common.{◌≡◌, ℕ, ◌+◌, ◌-◌, ◌<◌, ◌≤◌, zero, suc, List, [], ◌∷◌, ◌++◌, map, Bool, true, false, ◌&&◌, ◌||◌, not, cond, Some, None, refl, ap, sym, ◌∙◌, subst, arith}
use Rattle.std.specs.Prelude.{Option, ℤ, nat_le, nat_lt, ◌==◌, option_map, slice_get, slice_set}
use Rattle.std.specs.List.{list_any, list_all}
use Rattle.std.proofs.lemmas.Bool.{eqb-true}
use Rattle.std.proofs.lemmas.Bool.Decides.{nat_tests}
use mathlib.Core.Bool.{true≢false}
use Rattle.clause_form.specs.System.{Clauses}
use Rattle.clause_form.specs.declared.atom.Atom.{Atom}
use Rattle.clause_form.specs.declared.clause.Clause.{Clause}
use Rattle.cube_forms.specs.Cubes.{cube_holds}
use Rattle.book_rules.specs.declared.by.By.{By}
use Rattle.book_rules.specs.declared.by.By.TheVariants.{Lemma as ByLemma, Fact as ByFact, Obligation as ByObligation, Level as ByLevel, Entry as ByEntry}
use Rattle.book_rules.specs.Walks.{AllOf, has, on, first_told, first_number}
use Rattle.book_rules.specs.Instances.{Ground, atom_at, body_at, head_at}
use Rattle.book_rules.specs.Frames.{Lemma, Framed, accepts, excludes, in_frame}
use Rattle.book_rules.specs.State.{Fact, Obligation, State, opening, holds, holds_of, is_live, same_conclusion, unless_live}
use Rattle.book_rules.specs.Steps.{IsSeen, Seen, OpenStep, LiftStep, Step, Carries}
use Rattle.book_rules.specs.OpenRules.{parent_of, clause_of, atom_of, tuple_of, rule_1, rule_2, rule_3, rule_4, rule_5, rule_6, shut_out}
use Rattle.book_rules.specs.LemmaRules.{closes, rule_30, rule_31, level_is, lifted_of, unless_level}
use Rattle.book_rules.specs.FactRules.{concluded, if_recorded}
use Rattle.book_rules.specs.Rules.{broken}
use Rattle.book_rules.specs.Effects.{after, written, opened_with, child_of, learnt, lifted_with, recorded, fact_of, stalled_with}
use Rattle.book_rules.specs.Legal.{replay, AreLegal}
use Rattle.book_rules.specs.Kept.{AreInRange, AreDistinct, IsPlaced, IsOrdered, ArePlaced}
use Rattle.book_rules.proofs.ListLemmas.{both_true, from_both, both_false, all_weaken, all_of-map, all_of-push, all_of-set, untold_passes, none_told, cond_none, unless_none, any_false}
use Rattle.book_rules.proofs.FrameLemmas.{above}
use Rattle.book_rules.proofs.SoundLemmas.{derive-recordable, fact-recordable, lemma-learnable, strengthen-learnable, unbroken}
use Rattle.book_rules.proofs.TreeLemmas.{placed_at, hung-push, Stays, hung-closed, hung-raised, hung-set}

-- tests over lists that grow or change in one place

all-push : {X : Type 0} (p : X → Bool) (xs : List X) (x : X) → list_all p xs ≡ true → p x ≡ true → list_all p (xs ++ x ∷ []) ≡ true
all-push p [] x h here = from_both (p x) true here refl
all-push p (y ∷ xs) x h here = let both = both_true (p y) (list_all p xs) h in from_both (p y) _ both.0 (all-push p xs x both.1 here)

all-set : {X : Type 0} (p : X → Bool) (xs : List X) (i : ℕ) (x : X) → list_all p xs ≡ true → p x ≡ true → list_all p (slice_set xs i x) ≡ true
all-set p [] i x h here = refl
all-set p (y ∷ xs) zero x h here = from_both (p x) _ here (both_true (p y) (list_all p xs) h).1
all-set p (y ∷ xs) (suc i) x h here = let both = both_true (p y) (list_all p xs) h in from_both (p y) _ both.0 (all-set p xs i x both.1 here)

neither_is : (a b : Bool) → a ≡ false → b ≡ false → (a || b) ≡ false
neither_is true b h k = absurd (true≢false h)
neither_is false b h k = k

any-push : {X : Type 0} (p : X → Bool) (xs : List X) (x : X) → list_any p xs ≡ false → p x ≡ false → list_any p (xs ++ x ∷ []) ≡ false
any-push p [] x h here = neither_is (p x) false here refl
any-push p (y ∷ xs) x h here = let both = both_false (p y) (list_any p xs) h in neither_is (p y) _ both.0 (any-push p xs x both.1 here)

-- Lemma and Lift: what they leave open is in the new frames

passes : (b1 b2 b3 b4 c : Bool) → (b4 ≡ true → b1 ≡ true) → (b3 ≡ false → b2 ≡ true) → (b1 && b2 && c) ≡ false → (b3 || not (b4 && c)) ≡ true
passes b1 b2 true b4 c f g h = refl
passes b1 b2 false false c f g h = refl
passes b1 b2 false true false f g h = refl
passes b1 b2 false true true f g h = absurd (true≢false (sym (from_both (b1 && b2) true (from_both b1 b2 (f refl) (g refl)) refl) ∙ h))

same_back : (p q : ℕ) → (q == p) ≡ true → (p == q) ≡ true
same_back p q h = let is : q ≡ p = eqb-true q p h in grind (arith, nat_tests)

not_below : (n k : ℕ) → nat_lt n k ≡ false → nat_le k n ≡ true
not_below n k h = grind (arith, nat_tests)

new_accepts : (lemma : Lemma) (level : ℕ) (o : Obligation) (pred : ℕ) → o.pred ≡ Some pred → closes lemma level o ≡ false → (nat_lt level o.level || accepts lemma (pred, o.point)) ≡ true
new_accepts lemma level o pred of_pred h =
    let h' : ((pred == lemma.pred) && nat_le o.level level && cube_holds o.point lemma.cube) ≡ false = subst (λ (p : Option ℕ). (Rattle.book_rules.specs.State.is_of lemma.pred p && nat_le o.level level && cube_holds o.point lemma.cube) ≡ false) of_pred h in
    passes (pred == lemma.pred) (nat_le o.level level) (nat_lt level o.level) (lemma.pred == pred) (cube_holds o.point lemma.cube) (same_back pred lemma.pred) (not_below level o.level) h'

stays-lemma : (es : List Framed) (facts : List Fact) (lemma : Lemma) (level : ℕ) → Stays es facts (es ++ (record { lemma = lemma; level = level }) ∷ []) facts (closes lemma level)
stays-lemma es facts lemma level o left pred of_pred = record {
  frame = λ inside.
      let test : Framed → Bool = λ e. nat_lt e.level o.level || accepts e.lemma (pred, o.point) in
      let both = both_true (nat_lt 0 o.level) (list_all test es) inside in
      from_both (nat_lt 0 o.level) _ both.0 (all-push test es (record { lemma = lemma; level = level }) both.1 (new_accepts lemma level o pred of_pred left));
  fact = λ none. none;
}

stays-lift : (es : List Framed) (facts : List Fact) (i : ℕ) (e : Framed) → Stays es facts (slice_set es i (above e)) facts (closes e.lemma (e.level + 1))
stays-lift es facts i e o left pred of_pred = record {
  frame = λ inside.
      let test : Framed → Bool = λ e'. nat_lt e'.level o.level || accepts e'.lemma (pred, o.point) in
      let both = both_true (nat_lt 0 o.level) (list_all test es) inside in
      from_both (nat_lt 0 o.level) _ both.0 (all-set test es i (above e) both.1 (new_accepts e.lemma (e.level + 1) o pred of_pred left));
  fact = λ none. none;
}

stays-fact : (es : List Framed) (facts : List Fact) (f : Fact) → Stays es facts es (facts ++ f ∷ []) (λ o. holds o f.conclusion)
stays-fact es facts f o left pred of_pred = record {
  frame = λ inside. inside;
  fact = λ none. any-push (λ (g : Fact). holds o g.conclusion) facts f none left;
}

-- levels

higher : (level : ℕ) (es : List Framed) → AreInRange level es → AreInRange (level + 1) es
higher level es range = all_of-map (λ (e : Framed). (1 ≤ e.level) × (e.level ≤ level)) (λ (e : Framed). (1 ≤ e.level) × (e.level ≤ level + 1)) (λ e h. let low = h.0 in let high = h.1 in (low, omega (arith, high))) es range

-- facts

distinct-push : (facts : List Fact) (new : Fact) → AreDistinct facts → list_any (λ (f : Fact). same_conclusion f.conclusion new.conclusion) facts ≡ false → AreDistinct (facts ++ new ∷ [])
distinct-push [] new distinct fresh = (refl, tt)
distinct-push (f ∷ facts) new distinct fresh =
    let both = both_false (same_conclusion f.conclusion new.conclusion) _ fresh in
    (any-push (λ (g : Fact). same_conclusion f.conclusion g.conclusion) facts new distinct.0 both.0, distinct-push facts new distinct.1 both.1)

-- Open

none_of : {A B : Type 0} (f : A → B) (o : Option A) → option_map f o ≡ None → o ≡ None
none_of f None h = refl
none_of f (Some x) h = absurd (cc)

lives : (o : Obligation) → unless_live (Some o) ≡ None → is_live o ≡ true
lives o h = none_is o.closed (none_of ByEntry o.closed h) where
  none_is : (closed : Option ℕ) → closed ≡ None → Rattle.std.specs.Prelude.is_none closed ≡ true
  none_is None is = refl
  none_is (Some entry) is = absurd (cc)

weaker_test : (n k : ℕ) (x : Bool) → (b : Bool) → nat_le k n ≡ b → not (b && x) ≡ true → (nat_lt n k || not x) ≡ true
weaker_test n k x true is h = either (nat_lt n k) (not x) h where
  either : (a b : Bool) → b ≡ true → (a || b) ≡ true
  either true b t = refl
  either false b t = t
weaker_test n k x false is h = let below : nat_lt n k ≡ true = grind (arith, nat_tests) in ap (λ b. b || not x) below

pub frame_from : (es : List Framed) (k : ℕ) (a : Ground) → 0 < k → list_any (λ (e : Framed). nat_le k e.level && excludes e.lemma a) es ≡ false → in_frame es k a ≡ true
frame_from es k a some none =
    let first : nat_lt 0 k ≡ true = grind (arith, nat_tests) in
    from_both (nat_lt 0 k) _ first (all_weaken (λ (e : Framed). not (nat_le k e.level && excludes e.lemma a)) (λ (e : Framed). nat_lt e.level k || accepts e.lemma a) (λ e. weaker_test e.level k (excludes e.lemma a) (nat_le k e.level) refl) es
    (any_false (λ (e : Framed). nat_le k e.level && excludes e.lemma a) es none))

of_map : {X Y : Type 0} (f : X → Y) (P : Y → Type 0) (xs : List X) (i : ℕ) (x : X) → slice_get xs i ≡ Some x → AllOf P (map f xs) → P (f x)
of_map f P [] i x is all = absurd (cc)
of_map f P (y ∷ xs) zero x is all = let same : y ≡ x = cc in subst (λ z. P (f z)) same all.0
of_map f P (y ∷ xs) (suc i) x is all = of_map f P xs i x is all.1

child_placed : (sys : Clauses) (s : State) (o : OpenStep) (p : Obligation) (clause : Clause) (atom : Atom) → slice_get s.obligations o.parent ≡ Some p → clause_of sys o ≡ Some clause → slice_get clause.atoms o.atom ≡ Some atom
    → rule_1 s o ≡ None → rule_2 s o ≡ None → rule_4 sys s o ≡ None → rule_5 sys s o ≡ None → rule_6 sys s o ≡ None → IsPlaced s.lemmas s.facts s.obligations (child_of o p atom)
child_placed sys s o p clause atom parent_there clause_there atom_there r1 r2 r4 r5 r6 =
    let live = lives p (ap unless_live (sym parent_there) ∙ r1) in
    let at_2 : cond {A = Option By} (nat_lt p.level 2) (Some (ByObligation o.parent)) None ≡ None = ap (λ (found : Option Obligation). on found (λ (q : Obligation). cond {A = Option By} (nat_lt q.level 2) (Some (ByObligation o.parent)) None)) (sym parent_there) ∙ r2 in
    let low = (cond_none (nat_lt p.level 2) (ByObligation o.parent) None at_2).0 in
    let two : 2 ≤ p.level = grind (arith, nat_tests, low) in
    let one_higher : p.level ≡ p.level - 1 + 1 = omega (arith, two) in
    let some : 0 < p.level - 1 = omega (arith, two) in
    let atom_is : atom_of sys o ≡ Some atom = ap (λ (found : Option Clause). on found (λ (c : Clause). slice_get c.atoms o.atom)) clause_there ∙ atom_there in
    let head_test : Obligation → Bool = λ q. has (clause_of sys o) (λ (c : Clause). holds q (head_at o.seen.point c)) in
    let tuple_test : Option Atom → Bool = λ found. has found (λ (a : Atom). cube_holds (tuple_of o a) o.cube) in
    let at_4 : cond {A = Option By} (head_test p && tuple_test (atom_of sys o)) None (Some (ByObligation o.parent)) ≡ None =
    ap (λ (found : Option Obligation). on found (λ (q : Obligation). cond {A = Option By} (head_test q && tuple_test (atom_of sys o)) None (Some (ByObligation o.parent)))) (sym parent_there) ∙ r4 in
    let holds_it = (both_true (head_test p) (tuple_test (atom_of sys o)) (unless_none (head_test p && tuple_test (atom_of sys o)) (ByObligation o.parent) None at_4).0).1 in
    let in_cube : cube_holds (tuple_of o atom) o.cube ≡ true = ap tuple_test (sym atom_is) ∙ holds_it in
    let at_5 : first_told (shut_out s.lemmas (p.level - 1)) (body_at o.seen.point clause) ≡ None =
    ap (λ (found : Option Clause). on found (λ (c : Clause). first_told (shut_out s.lemmas (p.level - 1)) (body_at o.seen.point c))) (sym clause_there)
    ∙ ap (λ (found : Option Obligation). on found (λ (q : Obligation). on (clause_of sys o) (λ (c : Clause). first_told (shut_out s.lemmas (q.level - 1)) (body_at o.seen.point c)))) (sym parent_there) ∙ r5 in
    let none_excludes = none_told (shut_out s.lemmas (p.level - 1)) (λ (a : Ground). list_any (λ (e : Framed). nat_le (p.level - 1) e.level && excludes e.lemma a) s.lemmas ≡ false)
    (λ a told. untold_passes ByLemma (λ (e : Framed). nat_le (p.level - 1) e.level && excludes e.lemma a) s.lemmas told) (body_at o.seen.point clause) at_5 in
    let inside = frame_from s.lemmas (p.level - 1) (atom_at o.seen.point atom) some
    (of_map (atom_at o.seen.point) (λ (a : Ground). list_any (λ (e : Framed). nat_le (p.level - 1) e.level && excludes e.lemma a) s.lemmas ≡ false) clause.atoms o.atom atom atom_there none_excludes) in
    let at_6 : option_map ByFact (first_number (λ (f : Fact). holds_of (Some atom.pred) o.cube f.conclusion) s.facts) ≡ None =
    ap (λ (found : Option Atom). on found (λ (a : Atom). option_map ByFact (first_number (λ (f : Fact). holds_of (Some a.pred) o.cube f.conclusion) s.facts))) (sym atom_is) ∙ r6 in
    record {
      parent = p;
      there = parent_there;
      parent_lives = live;
      one_higher = one_higher;
      pred = atom.pred;
      of_pred = refl;
      in_cube = in_cube;
      in_its_frame = inside;
      without_fact = untold_passes ByFact (λ (f : Fact). holds_of (Some atom.pred) o.cube f.conclusion) s.facts at_6;
    }

ordered-open : (sys : Clauses) (s : State) (o : OpenStep) → IsOrdered s → IsSeen sys o.seen → rule_1 s o ≡ None → rule_2 s o ≡ None → rule_4 sys s o ≡ None → rule_5 sys s o ≡ None → rule_6 sys s o ≡ None
    → (parent : Option Obligation) → slice_get s.obligations o.parent ≡ parent → (atom : Option Atom) → atom_of sys o ≡ atom → IsOrdered (written 1 (opened_with s o parent atom))
ordered-open sys s o ordered seen r1 r2 r4 r5 r6 None there atom is = record { levels = ordered.levels; distinct = ordered.distinct; hung = ordered.hung }
ordered-open sys s o ordered seen r1 r2 r4 r5 r6 (Some p) there None is = record { levels = ordered.levels; distinct = ordered.distinct; hung = ordered.hung }
ordered-open sys s o ordered seen r1 r2 r4 r5 r6 (Some p) there (Some atom) is =
    let atom_there : slice_get seen.clause.atoms o.atom ≡ Some atom = ap (λ (found : Option Clause). on found (λ (c : Clause). slice_get c.atoms o.atom)) (sym seen.there) ∙ is in
    record {
      levels = ordered.levels;
      distinct = ordered.distinct;
      hung = hung-push s.lemmas s.facts [] s.obligations (child_of o p atom) ordered.hung (λ some live. child_placed sys s o p seen.clause atom there seen.there atom_there r1 r2 r4 r5 r6);
    }

-- Lemma and Strengthen, Lift, Fact and Derive, Stall

ordered-lemma : (s : State) (lemma : Lemma) (level : ℕ) → IsOrdered s → unless_level s level ≡ None → IsOrdered (written 1 (learnt s lemma level))
ordered-lemma s lemma level ordered leveled =
    let e : Framed = record { lemma = lemma; level = level } in
    let both = both_true (nat_le 1 level) (nat_le level s.level) (unless_none (nat_le 1 level && nat_le level s.level) (ByLevel s.level) None leveled).0 in
    let t0 = both.0 in
    let t1 = both.1 in
    let low : 1 ≤ level = grind (arith, nat_tests, t0) in
    let high : level ≤ s.level = grind (arith, nat_tests, t1) in
    record {
      levels = all_of-push (λ (x : Framed). (1 ≤ x.level) × (x.level ≤ s.level)) s.lemmas e ordered.levels (low, high);
      distinct = ordered.distinct;
      hung = hung-closed s.lemmas (s.lemmas ++ e ∷ []) s.facts s.facts (closes lemma level) (s.entries + 1) (stays-lemma s.lemmas s.facts lemma level) s.obligations ordered.hung;
    }

ordered-lift : (s : State) (l : LiftStep) (found : Option Framed) → slice_get s.lemmas l.lemma ≡ found → IsOrdered s → level_is l.lemma l.from found ≡ None → rule_31 s l ≡ None → IsOrdered (written 1 (lifted_with s l.lemma found))
ordered-lift s l None is ordered level r31 = absurd (cc)
ordered-lift s l (Some e) is ordered level r31 =
    let from : e.level ≡ l.from = eqb-true e.level l.from (unless_none (e.level == l.from) (ByLemma l.lemma) None level).0 in
    let room = (cond_none (nat_lt s.level (l.from + 1)) (ByLevel s.level) None r31).0 in
    let high : e.level + 1 ≤ s.level = grind (arith, nat_tests, room, from) in
    let low : 1 ≤ e.level + 1 = omega arith in
    record {
      levels = all_of-set (λ (x : Framed). (1 ≤ x.level) × (x.level ≤ s.level)) s.lemmas l.lemma (above e) ordered.levels (low, high);
      distinct = ordered.distinct;
      hung = hung-closed s.lemmas (slice_set s.lemmas l.lemma (above e)) s.facts s.facts (closes e.lemma (e.level + 1)) (s.entries + 1) (stays-lift s.lemmas s.facts l.lemma e) s.obligations ordered.hung;
    }

ordered-fact : (sys : Clauses) (s : State) (seen : Seen) (premises : List ℕ) → IsOrdered s → if_recorded sys s seen ≡ None → IsOrdered (written 1 (recorded sys s seen premises))
ordered-fact sys s seen premises ordered fresh =
    let new = fact_of sys s seen premises in
    record {
      levels = ordered.levels;
      distinct = distinct-push s.facts new ordered.distinct (untold_passes ByFact (λ (old : Fact). same_conclusion old.conclusion (concluded sys seen)) s.facts fresh);
      hung = hung-closed s.lemmas s.lemmas s.facts (s.facts ++ new ∷ []) (λ o. holds o (concluded sys seen)) (s.entries + 1) (stays-fact s.lemmas s.facts new) s.obligations ordered.hung;
    }

ordered-stall : (s : State) (number : ℕ) (found : Option Obligation) → slice_get s.obligations number ≡ found → IsOrdered s → IsOrdered (written 0 (stalled_with s number found))
ordered-stall s number None is ordered = record { levels = ordered.levels; distinct = ordered.distinct; hung = ordered.hung }
ordered-stall s number (Some o) is ordered = record { levels = ordered.levels; distinct = ordered.distinct; hung = hung-set s.lemmas s.facts s.obligations number o is ordered.hung }

-- each legal step, and each journal

pub ordered-after : (sys : Clauses) (s : State) (step : Step) → IsOrdered s → Carries sys step → broken sys s step ≡ None → IsOrdered (after sys s step)
ordered-after sys s (Step.Opens o) ordered carries h =
    let r1 = unbroken 1 (rule_1 s o) _ h in
    let r2 = unbroken 2 (rule_2 s o) _ r1.1 in
    let r3 = unbroken 3 (rule_3 sys s o) _ r2.1 in
    let r4 = unbroken 4 (rule_4 sys s o) _ r3.1 in
    let r5 = unbroken 5 (rule_5 sys s o) _ r4.1 in
    let r6 = unbroken 6 (rule_6 sys s o) _ r5.1 in
    ordered-open sys s o ordered carries.0 r1.0 r2.0 r4.0 r5.0 r6.0 (parent_of s o) refl (atom_of sys o) refl
ordered-after sys s (Step.Learns l) ordered carries h = ordered-lemma s l.lemma l.level ordered (lemma-learnable sys s l h).leveled
ordered-after sys s (Step.Records f) ordered carries h = ordered-fact sys s f.seen f.premises ordered (fact-recordable sys s f h).new
ordered-after sys s (Step.Lifts l) ordered carries h =
    let r30 = unbroken 30 (rule_30 s l) _ h in
    ordered-lift s l (lifted_of s l) refl ordered r30.0 (unbroken 31 (rule_31 s l) _ r30.1).0
ordered-after sys s (Step.Raises r) ordered carries h =
    record { levels = higher s.level s.lemmas ordered.levels; distinct = ordered.distinct; hung = hung-raised s.lemmas s.facts (s.entries + 1) (s.level + 1 + 1) s.obligations }
ordered-after sys s (Step.Stalls t) ordered carries h = ordered-stall s t.target (slice_get s.obligations t.target) refl ordered
ordered-after sys s (Step.Derives f) ordered carries h = ordered-fact sys s f.seen f.premises ordered (derive-recordable sys s f h).new
ordered-after sys s (Step.Strengthens l) ordered carries h = ordered-lemma s l.lemma l.level ordered (strengthen-learnable sys s l h).leveled

pub ordered-replay : (sys : Clauses) (s : State) (steps : List Step) → IsOrdered s → AreLegal sys s steps → IsOrdered (replay sys s steps)
ordered-replay sys s [] ordered legal = ordered
ordered-replay sys s (step ∷ steps) ordered legal = ordered-replay sys (after sys s step) steps (ordered-after sys s step ordered (legal.0).carries (legal.0).unbroken) legal.1

pub ordered-opening : (units : ℕ) → IsOrdered (opening units)
ordered-opening units = record { levels = tt; distinct = tt; hung = (λ some live. absurd (omega arith), tt) }

pub placed : (s : State) → IsOrdered s → ArePlaced s
placed s ordered i o is some live =
    let first : 0 < 0 + i = omega (arith, some) in
    placed_at s.lemmas s.facts [] s.obligations ordered.hung i o is first live
