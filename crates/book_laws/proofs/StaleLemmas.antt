-- What a step is refused by once its obligation is closed.
use Rattle.std.proofs.Common.{◌≡◌, ℕ, ◌-◌, ◌≤◌, List, [], ◌∷◌, Bool, true, ◌&&◌, ◌||◌, cond, Some, None, refl, ap, sym, ◌∙◌, subst, arith}
use Rattle.std.specs.Prelude.{Option, nat_le, option_map, slice_get}
use Rattle.std.proofs.lemmas.Bool.Decides.{nat_tests}
use mathlib.Core.Bool.{true≢false}
use Rattle.clause_form.specs.System.{Clauses}
use Rattle.clause_form.specs.declared.clause.Clause.{Clause}
use Rattle.book_rules.specs.declared.by.By.{By}
use Rattle.book_rules.specs.declared.by.By.TheVariants.{Clause as ByClause, Entry, Level as ByLevel, Step as ByStep}
use Rattle.book_rules.specs.Walks.{has, on, or_else}
use Rattle.book_rules.specs.FactRules.{are_facts_of, concluded, is_fact_of, rule_20, rule_21, rule_22, target_live, unless_body}
use Rattle.book_rules.specs.Frames.{Lemma, frame_has, same_lemma}
use Rattle.book_rules.specs.Instances.{Ground, body_at}
use Rattle.book_rules.specs.LemmaRules.{rule_10, rule_11, rule_12, rule_13, unless_level}
use Rattle.book_rules.specs.Legal.{replay}
use Rattle.book_rules.specs.OpenRules.{rule_1}
use Rattle.book_rules.specs.Proofs.{all_may_use, may_use, misused, used_lemma}
use Rattle.book_rules.specs.Rules.{Broken, broken, broken_fact, broken_lemma, rule}
use Rattle.book_rules.specs.StallRules.{rule_50}
use Rattle.book_rules.specs.State.{Fact, Obligation, State, same_conclusion, unless_live}
use Rattle.book_rules.specs.Steps.{FactStep, LemmaStep, Seen, Shown, Step}
use Rattle.book_rules.proofs.ListLemmas.{all_weaken, both_true, either_is, from_both, neither, unless_none}
use Rattle.book_rules.proofs.SoundLemmas.{fact-recordable, lemma-learnable}
use Rattle.book_laws.specs.Stale.{closed_by, refusal, served}
use Rattle.book_laws.proofs.GrowthLemmas.{HasGrown, grown-replay, or_right}

-- rules

passed : (n : ℕ) (told : Option By) (others : Broken) → told ≡ None → rule n told others ≡ others
passed n told others h = ap (λ (t : Option By). rule n t others) h

refused : (n : ℕ) (told : Option By) (others : Broken) (by : By) → told ≡ Some by → rule n told others ≡ Some (n, by)
refused n told others by h = ap (λ (t : Option By). rule n t others) h

closed : (found : Option Obligation) (entry : ℕ) → on found (λ (o : Obligation). o.closed) ≡ Some entry → unless_live found ≡ Some (Entry entry)
closed None entry h = absurd (cc)
closed (Some o) entry h = ap (λ (at : Option ℕ). option_map Entry at) h

told_at : (s : State) (served target entry : ℕ) → Some served ≡ Some target → closed_by s target ≡ Some entry → unless_live (slice_get s.obligations served) ≡ Some (Entry entry)
told_at s served target entry is h =
    let same : target ≡ served = cc in
    closed (slice_get s.obligations served) entry (subst (λ (n : ℕ). closed_by s n ≡ Some entry) same h)

-- the level stays high enough

le_up : (n old new : ℕ) → old ≤ new → nat_le n old ≡ true → nat_le n new ≡ true
le_up n old new le h = grind (arith, nat_tests)

leveled : (old new : State) (level : ℕ) → old.level ≤ new.level → unless_level old level ≡ None → unless_level new level ≡ None
leveled old new level le h =
    let both = both_true (nat_le 1 level) (nat_le level old.level) (unless_none (nat_le 1 level && nat_le level old.level) (ByLevel old.level) None h).0 in
    ap (λ (b : Bool). cond {A = Option By} b None (Some (ByLevel new.level))) (from_both (nat_le 1 level) (nat_le level new.level) both.0 (le_up level old.level new.level le both.1))

-- what may be used may still be used

module _ (sys : Clauses) (old new : State) (grown : HasGrown old new) where
  used_still : (k : ℕ) (own found : Option Lemma)
      → has found (λ (lemma : Lemma). frame_has old.lemmas k lemma || has own (λ (itself : Lemma). same_lemma itself lemma)) ≡ true
      → has found (λ (lemma : Lemma). frame_has new.lemmas k lemma || has own (λ (itself : Lemma). same_lemma itself lemma)) ≡ true
  used_still k own None h = h
  used_still k own (Some lemma) h =
      let itself = has own (λ (it : Lemma). same_lemma it lemma) in
      either_is (frame_has old.lemmas k lemma) itself ((frame_has new.lemmas k lemma || itself) ≡ true)
      (λ is. ap (λ (b : Bool). b || itself) (grown.frames k lemma is)) (λ is. or_right (frame_has new.lemmas k lemma) itself is) h

  founded : (k : ℕ) (own : Option Lemma) (proofs : List Shown) → misused sys old.lemmas k own proofs ≡ None → misused sys new.lemmas k own proofs ≡ None
  founded k own [] h = refl
  founded k own (p ∷ proofs) h =
      let here = neither (cond {A = Option By} (all_may_use sys old.lemmas k own p.clause p.used) None (Some (ByClause p.clause))) (misused sys old.lemmas k own proofs) h in
      let used = (unless_none (all_may_use sys old.lemmas k own p.clause p.used) (ByClause p.clause) None here.0).0 in
      let still = all_weaken (may_use sys old.lemmas k own p.clause) (may_use sys new.lemmas k own p.clause) (λ u. used_still k own (used_lemma sys p.clause u)) p.used used in
      ap (λ (b : Bool). or_else (cond {A = Option By} b None (Some (ByClause p.clause))) (misused sys new.lemmas k own proofs)) still ∙ founded k own proofs here.1

  -- the premises are still there

  fact_still : (a : Ground) (p : ℕ) (found : Option Fact) → slice_get old.facts p ≡ found → has found (λ (f : Fact). same_conclusion f.conclusion (Some a)) ≡ true → is_fact_of new.facts p a ≡ true
  fact_still a p None is h = absurd (true≢false (sym h))
  fact_still a p (Some f) is h = ap (λ (found : Option Fact). has found (λ (f' : Fact). same_conclusion f'.conclusion (Some a))) (grown.facts p f is) ∙ h

  facts_still : (premises : List ℕ) (body : List Ground) → are_facts_of old.facts premises body ≡ true → are_facts_of new.facts premises body ≡ true
  facts_still [] [] h = refl
  facts_still [] (a ∷ body) h = h
  facts_still (p ∷ premises) [] h = h
  facts_still (p ∷ premises) (a ∷ body) h =
      let both = both_true (is_fact_of old.facts p a) (are_facts_of old.facts premises body) h in
      from_both (is_fact_of new.facts p a) (are_facts_of new.facts premises body) (fact_still a p (slice_get old.facts p) refl both.0) (facts_still premises body both.1)

  body_still : (seen : Seen) (premises : List ℕ) (found : Option Clause)
      → has found (λ (clause : Clause). are_facts_of old.facts premises (body_at seen.point clause)) ≡ true → has found (λ (clause : Clause). are_facts_of new.facts premises (body_at seen.point clause)) ≡ true
  body_still seen premises None h = h
  body_still seen premises (Some clause) h = facts_still premises (body_at seen.point clause) h

  premised : (seen : Seen) (premises : List ℕ) → unless_body sys old seen premises ≡ None → unless_body sys new seen premises ≡ None
  premised seen premises h =
      let clause = slice_get sys.clauses seen.clause in
      let there = (unless_none (has clause (λ (c : Clause). are_facts_of old.facts premises (body_at seen.point c))) ByStep None h).0 in
      ap (λ (b : Bool). cond {A = Option By} b None (Some ByStep)) (body_still seen premises clause there)

  -- the two kinds of step that have rules before that on the target

  stale_lemma : (l : LemmaStep) (entry : ℕ) → broken_lemma sys old l ≡ None → rule_13 new l ≡ Some (Entry entry) → broken_lemma sys new l ≡ Some (13, Entry entry)
  stale_lemma l entry h told =
      let was = lemma-learnable sys old l h in
      passed 10 (rule_10 new l) _ (leveled old new l.level grown.level was.leveled)
      ∙ (passed 11 (rule_11 sys l) _ was.proved
      ∙ (passed 12 (rule_12 sys new l) _ (founded (l.level - 1) (Some l.lemma) l.proofs was.founded)
      ∙ refused 13 (rule_13 new l) _ (Entry entry) told))

  stale_fact : (f : FactStep) (entry : ℕ) → broken_fact sys old f ≡ None → rule_22 sys new f ≡ Some (Entry entry) → broken_fact sys new f ≡ rule 21 (rule_21 sys new f) (Some (22, Entry entry))
  stale_fact f entry h told =
      let was = fact-recordable sys old f h in
      passed 20 (rule_20 sys new f) _ (premised f.seen f.premises was.premised) ∙ ap (λ (others : Broken). rule 21 (rule_21 sys new f) others) (refused 22 (rule_22 sys new f) _ (Entry entry) told)

  stale_step : (step : Step) (target entry : ℕ) → broken sys old step ≡ None → served step ≡ Some target → closed_by new target ≡ Some entry → broken sys new step ≡ refusal sys new step entry
  stale_step (Step.Opens o) target entry h is shut = refused 1 (rule_1 new o) _ (Entry entry) (told_at new o.parent target entry is shut)
  stale_step (Step.Learns l) target entry h is shut = stale_lemma l entry h (told_at new l.target target entry is shut)
  stale_step (Step.Records f) target entry h is shut =
      stale_fact f entry h (ap (λ (at : Option ℕ). target_live new at (concluded sys f.seen)) is ∙ told_at new target target entry refl shut)
  stale_step (Step.Lifts l) target entry h is shut = absurd (cc)
  stale_step (Step.Raises r) target entry h is shut = absurd (cc)
  stale_step (Step.Stalls t) target entry h is shut = refused 50 (rule_50 new t) _ (Entry entry) (told_at new t.target target entry is shut)
  stale_step (Step.Derives f) target entry h is shut = absurd (cc)
  stale_step (Step.Strengthens l) target entry h is shut = absurd (cc)

pub stale : (sys : Clauses) (s : State) (since : List Step) (step : Step) (target entry : ℕ) → broken sys s step ≡ None → served step ≡ Some target
    → closed_by (replay sys s since) target ≡ Some entry → broken sys (replay sys s since) step ≡ refusal sys (replay sys s since) step entry
stale sys s since = stale_step sys s (replay sys s since) (grown-replay sys s since)
