-- What each step makes is the rules' effect.
use Rattle.std.proofs.Common.{◌≡◌, ℕ, ◌+◌, ◌<◌, ◌≤◌, List, length, Bool, true, cond, ◌&&◌, Some, None, refl, ap, sym, ◌∙◌, subst, arith}
use Rattle.std.specs.Prelude.{Option, ℤ, is_none, nat_le, nat_lt, ◌==◌, option_map, slice_get}
use Rattle.std.specs.List.{All}
use Rattle.std.proofs.lemmas.Bool.{eqb-true}
use Rattle.std.proofs.lemmas.Bool.Decides.{nat_tests}
use Rattle.std.proofs.lemmas.List.{length-map}
use Rattle.std.proofs.lemmas.Option.{slice_get_within}
use Rattle.lin_atoms.specs.declared.lit.Lit.{Lit}
use Rattle.term_tree.specs.declared.sort.Sort.{Sort}
use Rattle.cube_forms.specs.Cubes.{cube_is_below}
use Rattle.clause_form.specs.declared.atom.Atom.{Atom}
use Rattle.clause_form.specs.declared.clause.Clause.{Clause}
use Rattle.lemma_frames.specs.Frames.{level_of}
use Rattle.book_rules.specs.declared.by.By.{By}
use Rattle.book_rules.specs.declared.by.By.TheVariants.{Entry, Lemma as ByLemma, Level as ByLevel, Obligation as ByObligation, Step as ByStep}
use Rattle.book_rules.specs.OpenRules.{atom_fits, clause_fits, clause_of, parent_of, rule_1, rule_2, rule_3}
use Rattle.book_rules.specs.Proofs.{is_head}
use Rattle.book_rules.specs.FactRules.{are_facts_of}
use Rattle.book_rules.specs.Frames.{Framed}
use Rattle.book_rules.specs.Instances.{body_at}
use Rattle.book_rules.specs.LemmaRules.{closes, level_is, lifted_of, rule_10, rule_11, rule_12, rule_13, rule_14, rule_30, rule_31}
use Rattle.book_rules.specs.Places.{is_over, obligation_fits, places_of}
use Rattle.book_rules.specs.StallRules.{rule_50}
use Rattle.book_rules.specs.StrengthenRules.{rule_80}
use Rattle.book_rules.specs.Steps.{Seen}
use Rattle.book_rules.specs.State.{Obligation, is_live, is_of, unless_live}
use Rattle.book_rules.specs.Walks.{has, on}
use Rattle.book_rules.proofs.CountLemmas.{has_a_unit}
use Rattle.book_rules.proofs.ListLemmas.{all_of-at, both_true, cond_none, unless_none}
use Rattle.book_rules.proofs.SoundLemmas.{derive-recordable, fact-recordable, unbroken}
use Rattle.chc_core.specs.Contents.{Contents}
use Rattle.step_rules.specs.Taken.{derive_of, learn_of, lift_of, open_of, record_of, stall_of, strengthen_of}
use Rattle.step_rules.specs.Tokens.{seen_of}
use Rattle.chc_core.specs.Views.{state_of}
use Rattle.step_rules.specs.Views.{framed_at, framed_of, lemmas_of, obligation_of, obligations_of}
use Rattle.step_rules.specs.declared.open_step.part.OpenPart.{OpenPart}
use Rattle.step_rules.specs.declared.lemma_step.part.LemmaPart.{LemmaPart}
use Rattle.step_rules.specs.declared.derive_step.part.DerivePart.{DerivePart}
use Rattle.step_rules.specs.declared.fact_step.part.FactPart.{FactPart}
use Rattle.step_rules.specs.declared.lift_step.part.LiftPart.{LiftPart}
use Rattle.step_rules.specs.declared.stall_step.part.StallPart.{StallPart}
use Rattle.step_rules.specs.declared.strengthen_step.part.StrengthenPart.{StrengthenPart}
use Rattle.step_rules.specs.declared.step.Step.{Step}
use Rattle.step_rules.specs.declared.step.Step.TheVariants.{OpenStep, LemmaStep, FactStep, LiftStep, StallStep, DeriveStep, StrengthenStep}
use Rattle.chc_core.specs.machinery.Making.{CanLearn, CanRecord, CanTake}
use Rattle.chc_core.proofs.BookLemmas.{room}
use Rattle.chc_core.proofs.LawLemmas.{has-there, premises-there}
use Rattle.step_rules.proofs.Public.{framed_of-at, length-facts}

-- what legality says to each effect, each got once from `broken .. ≡ None` by book_rules' `unbroken`

is-open : (c : Option ℕ) → option_map Entry c ≡ None → is_none c ≡ true
is-open None h = refl
is-open (Some entry) h = absurd (cc)

-- what isn't closed is there, and live
pub live-there : (found : Option Obligation) → unless_live found ≡ None → (o : Obligation) × (found ≡ Some o) × (is_live o ≡ true)
live-there None h = absurd (cc)
live-there (Some o) h = (o, refl, is-open o.closed h)

lifted-there : (number from : ℕ) (found : Option Framed) → level_is number from found ≡ None → (e : Framed) × (found ≡ Some e) × (e.level ≡ from)
lifted-there number from None h = absurd (cc)
lifted-there number from (Some e) h = (e, refl, eqb-true e.level from (unless_none (e.level == from) (ByLemma number) None h).0)

-- the predicate of an obligation that fits is there
pred-there : (preds : List (List Sort)) (pred : ℕ) (of : Option ℕ) → is_of pred of ≡ true → (cube : List Lit) (point : List ℤ) → has (places_of preds of) (λ n. cube_is_below n cube && (length point == n)) ≡ true → pred < length preds
pred-there preds pred None is cube point fits = absurd (cc)
pred-there preds pred (Some p) is cube point fits = by (slice_get preds p) refl fits where
  by : (found : Option (List Sort)) → slice_get preds p ≡ found → has (option_map (λ (sorts : List Sort). length sorts) found) (λ n. cube_is_below n cube && (length point == n)) ≡ true → pred < length preds
  by None none h = absurd (cc)
  by (Some sorts) some h = subst (λ (n : ℕ). n < length preds) (eqb-true p pred is) (slice_get_within preds p sorts some)

-- Open: a live parent of level 2 or more, a clause, its atom
pub record CanOpen (b : Contents) (o : OpenPart) : Type 0 where
  pub parent : Obligation
  pub there : parent_of (state_of b) (open_of o) ≡ Some parent
  pub lives : is_live parent ≡ true
  pub high : 2 ≤ parent.level
  pub clause : Clause
  pub of_clause : slice_get b.system.clauses (open_of o).seen.clause ≡ Some clause
  pub atom : Atom
  pub of_atom : slice_get clause.atoms o.atom ≡ Some atom

pub can_open : (b : Contents) (o : OpenPart) → CanTake b (OpenStep o) → CanOpen b o
can_open b o can =
    let s = state_of b in
    let plain = open_of o in
    let r1 = unbroken 1 (rule_1 s plain) _ can.unbroken in
    let r2 = unbroken 2 (rule_2 s plain) _ r1.1 in
    let r3 = unbroken 3 (rule_3 b.system s plain) _ r2.1 in
    let live = live-there (parent_of s plain) r1.0 in
    let parent = live.0 in
    let low : cond {A = Option By} (nat_lt parent.level 2) (Some (ByObligation o.parent)) None ≡ None = ap (λ (found : Option Obligation). on found (λ (p : Obligation). cond {A = Option By} (nat_lt p.level 2) (Some (ByObligation o.parent)) None)) (sym live.1) ∙ r2.0 in
    let fits : cond {A = Option By} (has (clause_of b.system plain) (clause_fits s plain parent)) None (Some ByStep) ≡ None = ap (λ (found : Option Obligation). on found (λ (p : Obligation). cond {A = Option By} (has (clause_of b.system plain) (clause_fits s plain p)) None (Some ByStep))) (sym live.1) ∙ r3.0 in
    let clause = has-there (clause_of b.system plain) (clause_fits s plain parent) (unless_none _ ByStep None fits).0 in
    let both = both_true (is_head parent.pred (clause.0).head) (has (slice_get (clause.0).atoms o.atom) (atom_fits s plain parent clause.0)) clause.2 in
    let atom = has-there (slice_get (clause.0).atoms o.atom) (atom_fits s plain parent clause.0) both.1 in
    let not_low = (cond_none (nat_lt parent.level 2) (ByObligation o.parent) None low).0 in
    record { parent = parent; there = live.1; lives = live.2; high = grind (arith, nat_tests, not_low); clause = clause.0; of_clause = clause.1; atom = atom.0; of_atom = atom.1 }

-- Lemma: its predicate is there, since the target is of it
pub can_learn : (b : Contents) (l : LemmaPart) → CanTake b (LemmaStep l) → l.pred < b.frames.preds
can_learn b l can =
    let s = state_of b in
    let plain = learn_of l in
    let r10 = unbroken 10 (rule_10 s plain) _ can.unbroken in
    let r11 = unbroken 11 (rule_11 b.system plain) _ r10.1 in
    let r12 = unbroken 12 (rule_12 b.system s plain) _ r11.1 in
    let r13 = unbroken 13 (rule_13 s plain) _ r12.1 in
    let r14 = unbroken 14 (rule_14 s plain) _ r13.1 in
    let live = live-there (slice_get s.obligations l.target) r13.0 in
    let target = live.0 in
    let told : cond {A = Option By} (closes plain.lemma l.level target) None (Some (ByObligation l.target)) ≡ None = ap (λ (found : Option Obligation). on found (λ (o : Obligation). cond {A = Option By} (closes plain.lemma l.level o) None (Some (ByObligation l.target)))) (sym live.1) ∙ r14.0 in
    let shut = (unless_none (closes plain.lemma l.level target) (ByObligation l.target) None told).0 in
    let of_pred = (both_true (is_of l.pred target.pred) (nat_le target.level l.level) (both_true (is_of l.pred target.pred && nat_le target.level l.level) _ shut).0).0 in
    let fits = all_of-at (λ (o : Obligation). obligation_fits b.system.preds o ≡ true) s.obligations l.target target live.1 can.kept.over.obligations in
    let there = pred-there b.system.preds l.pred target.pred of_pred target.cube target.point fits in
    subst (λ (n : ℕ). l.pred < n) (sym can.kept.preds) there

pub learn-can : (b : Contents) (l : LemmaPart) → CanTake b (LemmaStep l) → CanLearn b l.pred
learn-can b l can = record { kept = can.kept; goes_on = can.goes_on; there = can_learn b l can }

-- Strengthen: a rule asks that its predicate is there
over-there : (preds : List (List Sort)) (pred : ℕ) (cube : List Lit) → is_over preds pred cube ≡ true → pred < length preds
over-there preds pred cube over = by (slice_get preds pred) refl over where
  by : (found : Option (List Sort)) → slice_get preds pred ≡ found → has (option_map (λ (sorts : List Sort). length sorts) found) (λ n. cube_is_below n cube) ≡ true → pred < length preds
  by None none h = absurd (cc)
  by (Some sorts) some h = slice_get_within preds pred sorts some

pub strengthen-can : (b : Contents) (l : StrengthenPart) → CanTake b (StrengthenStep l) → CanLearn b l.pred
strengthen-can b l can =
    let over = (unless_none (is_over b.system.preds l.pred l.lemma) ByStep None (unbroken 80 (rule_80 b.system (strengthen_of l)) _ can.unbroken).0).0 in
    record { kept = can.kept; goes_on = can.goes_on; there = subst (λ (n : ℕ). l.pred < n) (sym can.kept.preds) (over-there b.system.preds l.pred l.lemma over) }

-- Fact and Derive: the clause and the premises are there, and the conclusion isn't

pub fact-can : (b : Contents) (f : FactPart) → CanTake b (FactStep f) → CanRecord b (seen_of f.seen) f.premises
fact-can b f can =
    let may = fact-recordable b.system (state_of b) (record_of f) can.unbroken in
    record { kept = can.kept; goes_on = can.goes_on; premised = may.premised; new = may.new }

pub derive-can : (b : Contents) (f : DerivePart) → CanTake b (DeriveStep f) → CanRecord b (seen_of f.seen) f.premises
derive-can b f can =
    let may = derive-recordable b.system (state_of b) (derive_of f) can.unbroken in
    record { kept = can.kept; goes_on = can.goes_on; premised = may.premised; new = may.new }

pub can_record : (b : Contents) (seen : Seen) (premises : List ℕ) → CanRecord b seen premises → All (λ p. p < length b.facts) premises
can_record b seen premises can =
    let s = state_of b in
    let test : Clause → Bool = λ clause. are_facts_of s.facts premises (body_at seen.point clause) in
    let found = has-there (slice_get b.system.clauses seen.clause) test (unless_none (has (slice_get b.system.clauses seen.clause) test) ByStep None can.premised).0 in
    subst (λ (n : ℕ). All (λ p. p < n) premises) (length-facts b.facts) (premises-there s.facts premises (body_at seen.point found.0) found.2)

-- Lift: the lemma is there at that level, below the book's
pub can_lift : (b : Contents) (l : LiftPart) → CanTake b (LiftStep l) → (l.lemma < length b.frames.lemmas) × (level_of b.frames.lemmas l.lemma ≡ l.from) × (l.from < b.level)
can_lift b l can =
    let s = state_of b in
    let plain = lift_of l in
    let r30 = unbroken 30 (rule_30 s plain) _ can.unbroken in
    let r31 = unbroken 31 (rule_31 s plain) _ r30.1 in
    let lifted = lifted-there l.lemma l.from (lifted_of s plain) r30.0 in
    let in_list = slice_get_within (lemmas_of b.frames.lemmas) l.lemma lifted.0 lifted.1 in
    let long = length-map b.frames.lemmas framed_of in
    let within : l.lemma < length b.frames.lemmas = omega (arith, in_list, long) in
    let both : Some lifted.0 ≡ Some (framed_at b.frames.lemmas l.lemma) = sym lifted.1 ∙ framed_of-at b.frames.lemmas l.lemma within in
    let same : lifted.0 ≡ framed_at b.frames.lemmas l.lemma = cc in
    let not_above = (cond_none (nat_lt b.level (l.from + 1)) (ByLevel b.level) None r31.0).0 in
    (within, ap (λ (e : Framed). e.level) (sym same) ∙ lifted.2, grind (arith, nat_tests, not_above))

-- Stall: the target is there
pub can_stall : (b : Contents) (t : StallPart) → CanTake b (StallStep t) → t.target < length b.tree.nodes
can_stall b t can =
    let live = live-there (slice_get (obligations_of b.tree.nodes) t.target) (unbroken 50 (rule_50 (state_of b) (stall_of t)) _ can.unbroken).0 in
    let within = slice_get_within (obligations_of b.tree.nodes) t.target live.0 live.1 in
    let long = length-map b.tree.nodes obligation_of in
    omega (arith, within, long)

-- there is a unit left, so nothing overflows
pub has_unit : (b : Contents) (step : Step) → CanTake b step → b.spent < b.given
has_unit b step can = has_a_unit (state_of b) (room b can.kept).spent can.goes_on
