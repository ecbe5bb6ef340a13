-- Every legal step keeps lemmas shown, false refuted and facts derivable; so does every replay, from an opening that has it.
use Rattle.std.proofs.Common.{◌≡◌, ℕ, ◌+◌, ◌-◌, zero, suc, List, [], ◌∷◌, ◌++◌, true, Some, None, refl, ap, sym, ◌∙◌, subst, arith}
use Rattle.std.specs.Prelude.{Option, max, slice_get, slice_set, ◌==◌}
use Rattle.std.proofs.lemmas.Bool.{eqb-true}
use Rattle.std.proofs.Math.Nat.{le-max_left, le-max_right}
use mathlib.Core.Bool.{true≢false}
use Rattle.clause_form.specs.System.{Clauses}
use Rattle.clause_form.specs.declared.atom.Atom.{Atom}
use Rattle.clause_form.specs.declared.clause.Clause.{Clause}
use Rattle.book_rules.specs.declared.by.By.{By}
use Rattle.book_rules.specs.declared.by.By.TheVariants.{Lemma as ByLemma, Step as ByStep}
use Rattle.book_rules.specs.Walks.{AllOf, has, on}
use Rattle.book_rules.specs.Instances.{Ground, Relation, IsDerivable, InstanceOf, instances, body_at, head_at}
use Rattle.book_rules.specs.Frames.{Framed, Lemma, IsShown, AreRefuted}
use Rattle.book_rules.specs.State.{Fact, Obligation, State, opening, same_conclusion}
use Rattle.book_rules.specs.Steps.{IsSeen, Seen, Shown, OpenStep, LemmaStep, FactStep, LiftStep, DeriveStep, StrengthenStep, Step, Shows, Carries}
use Rattle.book_rules.specs.Proofs.{unshown, misused}
use Rattle.book_rules.specs.OpenRules.{parent_of, atom_of}
use Rattle.book_rules.specs.LemmaRules.{rule_10, rule_11, rule_12, rule_30, rule_31, rule_32, rule_33, level_is, lifted_of, unfounded, unless_level, unproved}
use Rattle.book_rules.specs.FactRules.{concluded, is_fact_of, are_facts_of, if_recorded, unless_body, rule_20, rule_21, rule_70, rule_71}
use Rattle.book_rules.specs.StrengthenRules.{rule_80, rule_81, rule_82, rule_83}
use Rattle.book_rules.specs.RaiseRules.{rule_40, rule_41}
use Rattle.book_rules.specs.Rules.{Broken, rule, broken, broken_derive, broken_fact, broken_lemma, broken_strengthen}
use Rattle.book_rules.specs.Effects.{after, written, opened_with, learnt, lifted_with, height_at, greatest_height, fact_of, recorded, raised, stalled_with}
use Rattle.book_rules.specs.Legal.{replay, AreLegal}
use Rattle.book_rules.specs.Kept.{AreDerivable, IsSound}
use Rattle.book_rules.proofs.ListLemmas.{both_true, all_of-push, all_of-set, all_of-map, unless_none}
use Rattle.book_rules.proofs.FrameLemmas.{IsStronger, above, stronger-push, stronger-lift, shown-stronger, refuted-stronger, all_shown-stronger, derivable-higher}
use Rattle.book_rules.proofs.SameLemmas.{tuple_is}
use Rattle.book_rules.proofs.ProofLemmas.{is_shown, is_implied, are_refuted}

-- a rule that isn't broken, and the others
pub unbroken : (n : ℕ) (told : Option By) (others : Broken) → rule n told others ≡ None → (told ≡ None) × (others ≡ None)
unbroken n None others h = (refl, h)
unbroken n (Some by) others h = absurd (cc)

-- what is asked of a step that adds a lemma, a Lemma or a Strengthen
pub record IsLearnable (sys : Clauses) (s : State) (lemma : Lemma) (level : ℕ) (proofs : List Shown) : Type 0 where
  pub leveled : unless_level s level ≡ None
  pub proved : unproved sys lemma level proofs ≡ None
  pub founded : unfounded sys s.lemmas lemma level proofs ≡ None

pub lemma-learnable : (sys : Clauses) (s : State) (l : LemmaStep) → broken_lemma sys s l ≡ None → IsLearnable sys s l.lemma l.level l.proofs
lemma-learnable sys s l h =
    let r10 = unbroken 10 (rule_10 s l) _ h in
    let r11 = unbroken 11 (rule_11 sys l) _ r10.1 in
    record { leveled = r10.0; proved = r11.0; founded = (unbroken 12 (rule_12 sys s l) _ r11.1).0 }

pub strengthen-learnable : (sys : Clauses) (s : State) (l : StrengthenStep) → broken_strengthen sys s l ≡ None → IsLearnable sys s l.lemma l.level l.proofs
strengthen-learnable sys s l h =
    let r81 = unbroken 81 (rule_81 s l) _ (unbroken 80 (rule_80 sys l) _ h).1 in
    let r82 = unbroken 82 (rule_82 sys l) _ r81.1 in
    record { leveled = r81.0; proved = r82.0; founded = (unbroken 83 (rule_83 sys s l) _ r82.1).0 }

-- and of one that records a tuple, a Fact or a Derive
pub record IsRecordable (sys : Clauses) (s : State) (seen : Seen) (premises : List ℕ) : Type 0 where
  pub premised : unless_body sys s seen premises ≡ None
  pub new : if_recorded sys s seen ≡ None

pub fact-recordable : (sys : Clauses) (s : State) (f : FactStep) → broken_fact sys s f ≡ None → IsRecordable sys s f.seen f.premises
fact-recordable sys s f h = let r20 = unbroken 20 (rule_20 sys s f) _ h in record { premised = r20.0; new = (unbroken 21 (rule_21 sys s f) _ r20.1).0 }

pub derive-recordable : (sys : Clauses) (s : State) (f : DeriveStep) → broken_derive sys s f ≡ None → IsRecordable sys s f.seen f.premises
derive-recordable sys s f h = let r70 = unbroken 70 (rule_70 sys s f) _ h in record { premised = r70.0; new = (unbroken 71 (rule_71 sys s f) _ r70.1).0 }

-- Open and Stall change neither the level nor lemmas and facts

sound-open : (I : Relation) (s : State) (o : OpenStep) (parent : Option Obligation) (atom : Option Atom) → IsSound I s → IsSound I (written 1 (opened_with s o parent atom))
sound-open I s o None atom sound = record { shown = sound.shown; refuted = sound.refuted; derived = sound.derived }
sound-open I s o (Some parent) None sound = record { shown = sound.shown; refuted = sound.refuted; derived = sound.derived }
sound-open I s o (Some parent) (Some atom) sound = record { shown = sound.shown; refuted = sound.refuted; derived = sound.derived }

sound-stall : (I : Relation) (s : State) (number : ℕ) (found : Option Obligation) → IsSound I s → IsSound I (written 0 (stalled_with s number found))
sound-stall I s number None sound = record { shown = sound.shown; refuted = sound.refuted; derived = sound.derived }
sound-stall I s number (Some o) sound = record { shown = sound.shown; refuted = sound.refuted; derived = sound.derived }

-- Lemma and Strengthen

sound-lemma : (sys : Clauses) (s : State) (lemma : Lemma) (level : ℕ) (proofs : List Shown) → IsSound (instances sys) s → AllOf (Shows sys) proofs → IsLearnable sys s lemma level proofs → IsSound (instances sys) (written 1 (learnt s lemma level))
sound-lemma sys s lemma level proofs sound shows may =
    let I = instances sys in
    let shown = is_shown sys s.lemmas (level - 1) lemma proofs shows may.proved may.founded in
    let e : Framed = record { lemma = lemma; level = level } in
    let new = s.lemmas ++ e ∷ [] in
    let stronger : IsStronger s.lemmas new = stronger-push s.lemmas e in
    record {
      shown = all_of-push (λ (x : Framed). IsShown I new (x.level - 1) x.lemma) s.lemmas e (all_shown-stronger I s.lemmas new stronger s.lemmas sound.shown) (shown-stronger I s.lemmas new stronger (level - 1) lemma shown);
      refuted = λ some. refuted-stronger I s.lemmas new stronger (s.level - 1) (sound.refuted some);
      derived = sound.derived;
    }

-- Lift

sound-lift : (sys : Clauses) (s : State) (l : LiftStep) (found : Option Framed) → slice_get s.lemmas l.lemma ≡ found → IsSound (instances sys) s → AllOf (Shows sys) l.proofs
    → level_is l.lemma l.from found ≡ None → on found (λ (e : Framed). unshown sys l.from (Some e.lemma) l.proofs) ≡ None → misused sys s.lemmas l.from None l.proofs ≡ None
    → IsSound (instances sys) (written 1 (lifted_with s l.lemma found))
sound-lift sys s l None is sound shows level unshown misused = absurd (cc)
sound-lift sys s l (Some e) is sound shows level unshown misused =
    let I = instances sys in
    let new = slice_set s.lemmas l.lemma (above e) in
    let stronger : IsStronger s.lemmas new = stronger-lift s.lemmas l.lemma e is in
    let from : e.level ≡ l.from = eqb-true e.level l.from (unless_none (e.level == l.from) (ByLemma l.lemma) None level).0 in
    let same : l.from ≡ e.level + 1 - 1 = omega (arith, from) in
    let implied = is_implied sys s.lemmas l.from e.lemma l.proofs shows unshown misused in
    let own : IsShown I s.lemmas l.from e.lemma = λ c body a i h own. implied c body a i h in
    record {
      shown = all_of-set (λ (x : Framed). IsShown I new (x.level - 1) x.lemma) s.lemmas l.lemma (above e) (all_shown-stronger I s.lemmas new stronger s.lemmas sound.shown)
          (subst (λ k. IsShown I new k e.lemma) same (shown-stronger I s.lemmas new stronger l.from e.lemma own));
      refuted = λ some. refuted-stronger I s.lemmas new stronger (s.level - 1) (sound.refuted some);
      derived = sound.derived;
    }

-- Raise

sound-raise : (I : Relation) (s : State) → IsSound I s → AreRefuted I s.lemmas s.level → IsSound I (written 1 (raised s))
sound-raise I s sound refuted =
    let same : s.level ≡ s.level + 1 - 1 = omega arith in
    record { shown = sound.shown; refuted = λ some. subst (AreRefuted I s.lemmas) same refuted; derived = sound.derived }

-- Fact and Derive

conclusion_is : (a b : Option Ground) → same_conclusion a b ≡ true → a ≡ b
conclusion_is None None h = refl
conclusion_is None (Some b) h = absurd (true≢false (sym h))
conclusion_is (Some a) None h = absurd (true≢false (sym h))
conclusion_is (Some a) (Some b) h =
    let both = both_true (a.0 == b.0) _ h in
    let pred : a.0 ≡ b.0 = eqb-true a.0 b.0 both.0 in
    let tuple : a.1 ≡ b.1 = tuple_is a.1 b.1 both.1 in
    let pair : a ≡ b = rw (pred, tuple) refl in
    ap (λ x. Some x) pair

fact_at : (I : Relation) (facts : List Fact) (p : ℕ) (a : Ground) → AreDerivable I facts → is_fact_of facts p a ≡ true → IsDerivable I (height_at (slice_get facts p)) (Some a)
fact_at I [] p a derived is = absurd (true≢false (sym is))
fact_at I (f ∷ facts) zero a derived is = subst (λ head. IsDerivable I f.height head) (conclusion_is f.conclusion (Some a) is) derived.0
fact_at I (f ∷ facts) (suc p) a derived is = fact_at I facts p a derived.1 is

facts_at : (I : Relation) (facts : List Fact) (ps : List ℕ) (body : List Ground) → AreDerivable I facts → are_facts_of facts ps body ≡ true → AllOf (λ a. IsDerivable I (greatest_height facts ps) (Some a)) body
facts_at I facts [] [] derived are = tt
facts_at I facts [] (a ∷ body) derived are = absurd (true≢false (sym are))
facts_at I facts (p ∷ ps) [] derived are = absurd (true≢false (sym are))
facts_at I facts (p ∷ ps) (a ∷ body) derived are =
    let both = both_true (is_fact_of facts p a) (are_facts_of facts ps body) are in
    let here = height_at (slice_get facts p) in
    let rest = greatest_height facts ps in (
      derivable-higher I here (max here rest) (le-max_left here rest) (Some a) (fact_at I facts p a derived both.0),
      all_of-map (λ x. IsDerivable I rest (Some x)) (λ x. IsDerivable I (max here rest) (Some x)) (λ x. derivable-higher I rest (max here rest) (le-max_right here rest) (Some x)) body (facts_at I facts ps body derived both.1),
    )

sound-fact : (sys : Clauses) (s : State) (of : Seen) (premises : List ℕ) → IsSound (instances sys) s → IsSeen sys of → unless_body sys s of premises ≡ None → IsSound (instances sys) (written 1 (recorded sys s of premises))
sound-fact sys s of premises sound seen premised =
    let I = instances sys in
    let clause = seen.clause in
    let point = of.point in
    let some = (unless_none (has (slice_get sys.clauses of.clause) (λ (c : Clause). are_facts_of s.facts premises (body_at point c))) ByStep None premised).0 in
    let are : are_facts_of s.facts premises (body_at point clause) ≡ true = ap (λ (found : Option Clause). has found (λ (c : Clause). are_facts_of s.facts premises (body_at point c))) (sym seen.there) ∙ some in
    let head : head_at point clause ≡ concluded sys of = ap (λ (found : Option Clause). on found (λ (c : Clause). head_at point c)) (sym seen.there) in
    let instance : InstanceOf sys of.clause (body_at point clause) (concluded sys of) = record { clause = clause; point = point; there = seen.there; instance = seen.instance; has_body = refl; has_head = head } in
    record {
      shown = sound.shown;
      refuted = sound.refuted;
      derived = all_of-push (λ (x : Fact). IsDerivable I x.height x.conclusion) s.facts (fact_of sys s of premises) sound.derived (of.clause, body_at point clause, instance, facts_at I s.facts premises (body_at point clause) sound.derived are);
    }

-- each legal step, and each journal

pub sound-after : (sys : Clauses) (s : State) (step : Step) → IsSound (instances sys) s → Carries sys step → broken sys s step ≡ None → IsSound (instances sys) (after sys s step)
sound-after sys s (Step.Opens o) sound carries h = sound-open (instances sys) s o (parent_of s o) (atom_of sys o) sound
sound-after sys s (Step.Learns l) sound carries h = sound-lemma sys s l.lemma l.level l.proofs sound carries (lemma-learnable sys s l h)
sound-after sys s (Step.Records f) sound carries h = sound-fact sys s f.seen f.premises sound carries (fact-recordable sys s f h).premised
sound-after sys s (Step.Lifts l) sound carries h =
    let r30 = unbroken 30 (rule_30 s l) _ h in
    let r31 = unbroken 31 (rule_31 s l) _ r30.1 in
    let r32 = unbroken 32 (rule_32 sys s l) _ r31.1 in
    let r33 = unbroken 33 (rule_33 sys s l) _ r32.1 in
    sound-lift sys s l (lifted_of s l) refl sound carries r30.0 r32.0 r33.0
sound-after sys s (Step.Raises r) sound carries h =
    let r40 = unbroken 40 (rule_40 sys s r) _ h in
    let r41 = unbroken 41 (rule_41 sys s r) _ r40.1 in
    sound-raise (instances sys) s sound (are_refuted sys s.lemmas s.level r.closed carries.0 r40.0 r41.0)
sound-after sys s (Step.Stalls t) sound carries h = sound-stall (instances sys) s t.target (slice_get s.obligations t.target) sound
sound-after sys s (Step.Derives f) sound carries h = sound-fact sys s f.seen f.premises sound carries (derive-recordable sys s f h).premised
sound-after sys s (Step.Strengthens l) sound carries h = sound-lemma sys s l.lemma l.level l.proofs sound carries (strengthen-learnable sys s l h)

pub sound-replay : (sys : Clauses) (s : State) (steps : List Step) → IsSound (instances sys) s → AreLegal sys s steps → IsSound (instances sys) (replay sys s steps)
sound-replay sys s [] sound legal = sound
sound-replay sys s (step ∷ steps) sound legal = sound-replay sys (after sys s step) steps (sound-after sys s step sound (legal.0).carries (legal.0).unbroken) legal.1

pub sound-opening : (I : Relation) (units : ℕ) → IsSound I (opening units)
sound-opening I units = record { shown = tt; refuted = λ some. absurd (omega arith); derived = tt }
