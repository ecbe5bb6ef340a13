-- What the code makes for each step is the rules' effect.
use Rattle.std.proofs.Common.{◌≡◌, ℕ, zero, suc, ◌+◌, ◌-◌, ◌^◌, ◌<◌, ◌≤◌, List, [], ◌∷◌, ◌++◌, length, map, get_or, Bool, true, false, Some, None, refl, ap, ap₂, sym, ◌∙◌, subst, arith}
use Rattle.std.specs.Prelude.{ℤ, Option, ◌==◌, is_none, is_some, option_map, slice_get}
use Rattle.std.specs.List.{list_any}
use Rattle.std.proofs.lemmas.Bool.{eq-eqb}
use Rattle.std.proofs.lemmas.List.{get_or_append_left, length-map, length_push, map-append}
use Rattle.std.proofs.lemmas.Option.{get_or_from_slice_get, slice_get-map}
use mathlib.Core.Bool.{true≢false}
use Rattle.lin_atoms.specs.declared.lit.Lit.{Lit}
use Rattle.clause_form.specs.declared.atom.Atom.{Atom}
use Rattle.clause_form.specs.declared.clause.Clause.{Clause}
use Rattle.lemma_frames.specs.Frames.{Lemmas, lemma_of, level_of, lifted, pred_of as lemma_pred}
use Rattle.derivations.specs.Facts.{Concludes, pred_of, tuple_of}
use Rattle.derivations.specs.declared.fact.Fact.{Fact as KeptFact}
use Rattle.obligation_tree.specs.Closing.{after_fact, after_lemma, after_raise}
use Rattle.obligation_tree.specs.Nodes.{TreeState as Tree, fresh, marked_at, node_at}
use Rattle.obligation_tree.specs.declared.node.Node.{Node}
use Rattle.obligation_tree.specs.declared.obligation.Obligation.{Obligation as Asked}
use Rattle.book_rules.specs.declared.by.By.TheVariants.{Fact as ByFact}
use Rattle.book_rules.specs.declared.end.End.TheVariants.{Unsat}
use Rattle.book_rules.specs.Effects.{after, child_of, close_from, lifted_with, opened_with, raised, stalled_with, written, learnt, recorded, greatest_height}
use Rattle.book_rules.specs.FactRules.{concluded}
use Rattle.book_rules.specs.Frames.{Framed}
use Rattle.book_rules.specs.Instances.{Ground}
use Rattle.book_rules.specs.Legal.{end, sat, spent, stuck, unsat}
use Rattle.book_rules.specs.LemmaRules.{closes}
use Rattle.book_rules.specs.OpenRules.{atom_of, parent_of}
use Rattle.book_rules.specs.Rooted.{AreRooted}
use Rattle.book_rules.specs.Same.{same_tuple}
use Rattle.book_rules.specs.State.{Fact, Obligation, State, holds, same_conclusion}
use Rattle.book_rules.specs.Steps.{Seen}
use Rattle.book_rules.specs.Walks.{AllOf, on, or_else}
use Rattle.book_rules.proofs.EqualLemmas.{tuples_equal}
use Rattle.book_rules.proofs.ListLemmas.{both_false, from_both, neither, true_not_false, untold_passes}
use Rattle.step_rules.specs.Taken.{open_of, step_of}
use Rattle.step_rules.specs.Views.{ground_conclusion, facts_of, framed_at, framed_of, fresh_of, lemmas_of, obligation_of, obligations_of}
use Rattle.step_rules.specs.declared.lift_step.part.LiftPart.{LiftPart}
use Rattle.step_rules.specs.declared.open_step.part.OpenPart.{OpenPart}
use Rattle.step_rules.specs.declared.raise_step.part.RaisePart.{RaisePart}
use Rattle.step_rules.specs.declared.stall_step.part.StallPart.{StallPart}
use Rattle.step_rules.specs.declared.step.Step.{Step}
use Rattle.step_rules.specs.declared.step.Step.TheVariants.{OpenStep, LiftStep, RaiseStep, StallStep}
use Rattle.step_rules.specs.Falsity.{IsLastFalse}
use Rattle.step_rules.proofs.ViewLemmas.{fact_of-at, facts-push, framed_of-at, lemmas-lifted, lemmas-push, length-facts, obligation_of-at, obligations-marked, obligations-push}
use Rattle.chc_core.specs.Contents.{Contents}
use Rattle.chc_core.specs.Views.{state_of}
use Rattle.chc_core.specs.declared.entry.Entry.{Entry}
use Rattle.chc_core.specs.declared.made.Made.{Made}
use Rattle.chc_core.specs.machinery.Books.{IsBook}
use Rattle.chc_core.specs.machinery.Making.{CanLearn, CanRecord, CanTake, IsMadeBy, IsMadeInto, or_old, with_made}
use Rattle.chc_core.proofs.BookLemmas.{room, rooted}
use Rattle.chc_core.proofs.ClosingLemmas.{IsBareRoot, closes-fact, closes-lemma, closes-raise}
use Rattle.chc_core.proofs.LawLemmas.{at-number}
use Rattle.chc_core.proofs.MakingLemmas.{can_lift, can_open, can_stall}

-- how much a book can have

pub record IsSmall (b : Contents) : Type 0 where
  pub spent : b.spent ≤ 1000000
  pub lemmas : length b.frames.lemmas ≤ 1000000
  pub facts : length b.facts ≤ 1000000
  pub nodes : length b.tree.nodes ≤ 1000001
  pub level : b.level ≤ 1000000
  pub journal : length b.journal ≤ 2000001

pub small : (b : Contents) → IsBook b → IsSmall b
small b kept =
    let r = room b kept in
    let given : b.given ≤ 1000000 = kept.given in
    let spent : b.spent ≤ b.given = r.spent in
    let lemmas : length (lemmas_of b.frames.lemmas) ≤ b.given = r.lemmas in
    let lemmas_long = length-map b.frames.lemmas framed_of in
    let facts : length (facts_of b.facts) ≤ b.given = r.facts in
    let facts_long = length-facts b.facts in
    let nodes : length (obligations_of b.tree.nodes) ≤ b.given + 1 = r.obligations in
    let nodes_long = length-map b.tree.nodes obligation_of in
    let level : b.level ≤ b.given = r.level in
    let journal : length b.journal ≤ b.given + b.given + 1 = r.entries in
    record {
      spent = omega (arith, given, spent);
      lemmas = omega (arith, given, lemmas, lemmas_long);
      facts = omega (arith, given, facts, facts_long);
      nodes = omega (arith, given, nodes, nodes_long);
      level = omega (arith, given, level);
      journal = omega (arith, given, journal);
    }

-- the state, part by part

abbrev st : ℕ → List Framed → List Fact → List Obligation → ℕ → ℕ → ℕ → State
st level lemmas facts obligations given spent entries = record { level = level; lemmas = lemmas; facts = facts; obligations = obligations; given = given; spent = spent; entries = entries }

made-state : (b : Contents) (m : Made) (entry : Entry) (s : State) → m.level ≡ s.level → lemmas_of (or_old m.frames b.frames).lemmas ≡ s.lemmas → facts_of (or_old m.facts b.facts) ≡ s.facts → obligations_of m.tree.nodes ≡ s.obligations
    → b.given ≡ s.given → m.spent ≡ s.spent → length b.journal + 1 ≡ s.entries → state_of (with_made b m entry) ≡ s
made-state b m entry s level lemmas facts obligations given spent entries =
    let count = length (b.journal ++ entry ∷ []) in
    ap (λ (x : ℕ). st x (lemmas_of (or_old m.frames b.frames).lemmas) (facts_of (or_old m.facts b.facts)) (obligations_of m.tree.nodes) b.given m.spent count) level
    ∙ ap (λ (x : List Framed). st s.level x (facts_of (or_old m.facts b.facts)) (obligations_of m.tree.nodes) b.given m.spent count) lemmas
    ∙ ap (λ (x : List Fact). st s.level s.lemmas x (obligations_of m.tree.nodes) b.given m.spent count) facts
    ∙ ap (λ (x : List Obligation). st s.level s.lemmas s.facts x b.given m.spent count) obligations
    ∙ ap (λ (x : ℕ). st s.level s.lemmas s.facts s.obligations x m.spent count) given
    ∙ ap (λ (x : ℕ). st s.level s.lemmas s.facts s.obligations s.given x count) spent
    ∙ ap (λ (x : ℕ). st s.level s.lemmas s.facts s.obligations s.given s.spent x) (length_push b.journal entry ∙ entries)

-- frames, facts and nodes as they are put in place
pub record IsMadeOf (b : Contents) (m : Made) (frames : Lemmas) (facts : List KeptFact) (nodes : List Node) : Type 0 where
  pub frames_are : or_old m.frames b.frames ≡ frames
  pub facts_are : or_old m.facts b.facts ≡ facts
  pub tree_is : m.tree ≡ record b.tree { nodes = nodes }

made-into : (b : Contents) (m : Made) (frames : Lemmas) (facts : List KeptFact) (nodes : List Node) (s : State) → IsMadeOf b m frames facts nodes
    → m.level ≡ s.level → lemmas_of frames.lemmas ≡ s.lemmas → facts_of facts ≡ s.facts → obligations_of nodes ≡ s.obligations → b.given ≡ s.given → m.spent ≡ s.spent → length b.journal + 1 ≡ s.entries
    → frames.preds ≡ b.frames.preds → IsLastFalse facts → IsMadeInto b s m
made-into b m frames facts nodes s made level lemmas facts_are obligations given spent entries preds last = record {
  state = λ entry. made-state b m entry s level (ap (λ (f : Lemmas). lemmas_of f.lemmas) made.frames_are ∙ lemmas) (ap facts_of made.facts_are ∙ facts_are) (ap (λ (t : Tree). obligations_of t.nodes) made.tree_is ∙ obligations) given spent entries;
  claims = ap (λ (t : Tree). t.claims) made.tree_is;
  preds = ap (λ (f : Lemmas). f.preds) made.frames_are ∙ preds;
  last = subst IsLastFalse (sym made.facts_are) last;
}

made-is : (b : Contents) (step : Step) (m : Made) (frames : Lemmas) (facts : List KeptFact) (nodes : List Node) (s : State) → IsMadeOf b m frames facts nodes → s ≡ after b.system (state_of b) (step_of step)
    → m.level ≡ s.level → lemmas_of frames.lemmas ≡ s.lemmas → facts_of facts ≡ s.facts → obligations_of nodes ≡ s.obligations → b.given ≡ s.given → m.spent ≡ s.spent → length b.journal + 1 ≡ s.entries
    → frames.preds ≡ b.frames.preds → IsLastFalse facts → IsMadeBy b step m
made-is b step m frames facts nodes s made same level lemmas facts_are obligations given spent entries preds last =
    subst (λ (x : State). IsMadeInto b x m) same (made-into b m frames facts nodes s made level lemmas facts_are obligations given spent entries preds last)

-- Open

pub atom-there : (b : Contents) (o : OpenPart) (clause : Clause) (atom : Atom) → slice_get b.system.clauses (open_of o).seen.clause ≡ Some clause → slice_get clause.atoms o.atom ≡ Some atom → atom_of b.system (open_of o) ≡ Some atom
atom-there b o clause atom of_clause of_atom = ap (λ (found : Option Clause). on found (λ (c : Clause). slice_get c.atoms o.atom)) of_clause ∙ of_atom

pub made-open : (b : Contents) (o : OpenPart) (m : Made) (asked : Asked) → CanTake b (OpenStep o)
    → ((parent : Obligation) (atom : Atom) → parent_of (state_of b) (open_of o) ≡ Some parent → atom_of b.system (open_of o) ≡ Some atom → fresh_of asked ≡ child_of (open_of o) parent atom)
    → IsMadeOf b m b.frames b.facts (b.tree.nodes ++ fresh asked ∷ []) → m.level ≡ b.level → m.spent ≡ b.spent + 1 → IsMadeBy b (OpenStep o) m
made-open b o m asked can child made level spent =
    let c = can_open b o can in
    let plain = open_of o in
    let there = atom-there b o c.clause c.atom c.of_clause c.of_atom in
    let s = written 1 (opened_with (state_of b) plain (Some c.parent) (Some c.atom)) in
    let same = ap₂ (λ (p : Option Obligation) (a : Option Atom). written 1 (opened_with (state_of b) plain p a)) (sym c.there) (sym there) in
    let pushed = obligations-push b.tree.nodes (fresh asked) ∙ ap (λ (x : Obligation). obligations_of b.tree.nodes ++ x ∷ []) (child c.parent c.atom c.there there) in
    made-is b (OpenStep o) m b.frames b.facts (b.tree.nodes ++ fresh asked ∷ []) s made same level refl refl pushed refl spent refl refl (can.kept).false_last

-- Lemma and Strengthen

pub made-lemma : (b : Contents) (pred : ℕ) (lemma : List Lit) (level : ℕ) (m : Made) → CanLearn b pred
    → IsMadeOf b m (record b.frames { lemmas = b.frames.lemmas ++ (record { pred = pred; level = level; lemma = lemma }) ∷ [] }) b.facts (after_lemma pred level lemma (length b.journal + 1) b.tree.nodes)
    → m.level ≡ b.level → m.spent ≡ b.spent + 1 → IsMadeInto b (written 1 (learnt (state_of b) (record { pred = pred; cube = lemma }) level)) m
made-lemma b pred lemma level m can made same spent =
    let frames : Lemmas = record b.frames { lemmas = b.frames.lemmas ++ (record { pred = pred; level = level; lemma = lemma }) ∷ [] } in
    let nodes = after_lemma pred level lemma (length b.journal + 1) b.tree.nodes in
    made-into b m frames b.facts nodes (written 1 (learnt (state_of b) (record { pred = pred; cube = lemma }) level)) made same (lemmas-push b.frames.lemmas (record { pred = pred; level = level; lemma = lemma })) refl
    (closes-lemma pred level lemma (length b.journal + 1) b.tree.nodes) refl spent refl refl (can.kept).false_last

-- Fact and Derive

bare-others : (nodes : List Node) → AllOf (λ (o : Obligation). is_some o.pred ≡ true) (obligations_of nodes) → AllOf IsBareRoot nodes
bare-others [] all = tt
bare-others (x ∷ nodes) all = ((λ none. true_not_false (is_some x.obligation.pred) all.0 (ap is_some none)), bare-others nodes all.1)

bare-roots : (level : ℕ) (facts : List Fact) (nodes : List Node) → AreRooted level facts (obligations_of nodes) → AllOf IsBareRoot nodes
bare-roots level facts [] r = tt
bare-roots level facts (x ∷ nodes) r =
    let both : obligation_of x ∷ obligations_of nodes ≡ r.root ∷ r.rest = r.first in
    let same : obligation_of x ≡ r.root = cc in
    let rest : obligations_of nodes ≡ r.rest = cc in
    let bare : [] ≡ (r.root).cube = ap (λ (o : Obligation). o.cube) r.is_root in
    let cube : x.obligation.cube ≡ [] = ap (λ (o : Obligation). o.cube) same ∙ sym bare in
    ((λ none. cube), bare-others nodes (subst (λ (os : List Obligation). AllOf (λ (o : Obligation). is_some o.pred ≡ true) os) (sym rest) r.others))

none-at : {X : Type 0} (test : X → Bool) (xs : List X) (n : ℕ) (x : X) → list_any test xs ≡ false → slice_get xs n ≡ Some x → test x ≡ false
none-at test [] n x none there = absurd (cc)
none-at test (y ∷ xs) zero x none there =
    let same : y ≡ x = cc in
    ap test (sym same) ∙ (both_false (test y) (list_any test xs) none).0
none-at test (y ∷ xs) (suc n) x none there = none-at test xs n x (both_false (test y) (list_any test xs) none).1 there

fact-pred : (facts : List KeptFact) (n : ℕ) (f : KeptFact) → slice_get facts n ≡ Some f → pred_of facts n ≡ f.pred
fact-pred facts n f there = get_or_from_slice_get (map (λ (g : KeptFact). g.pred) facts) n f.pred None (slice_get-map (λ (g : KeptFact). g.pred) facts n ∙ ap (option_map (λ (g : KeptFact). g.pred)) there)

fact-tuple : (facts : List KeptFact) (n : ℕ) (f : KeptFact) → slice_get facts n ≡ Some f → tuple_of facts n ≡ f.tuple
fact-tuple facts n f there = get_or_from_slice_get (map (λ (g : KeptFact). g.tuple) facts) n f.tuple [] (slice_get-map (λ (g : KeptFact). g.tuple) facts n ∙ ap (option_map (λ (g : KeptFact). g.tuple)) there)

-- before the end no fact is false
all-some : (b : Contents) → end (state_of b) ≡ None → (n : ℕ) → n < length b.facts → is_some (pred_of b.facts n) ≡ true
all-some b goes n within =
    let s = state_of b in
    let no_false = untold_passes Unsat (λ (f : Fact). is_none f.conclusion) s.facts (neither (unsat s) (or_else (sat s) (or_else (spent s) (stuck s))) goes).0 in
    let at = at-number b.facts n within in
    let some = none-at (λ (f : Fact). is_none f.conclusion) s.facts n _ no_false (fact_of-at b.facts n at.0 at.1) in
    ap is_some (fact-pred b.facts n at.0 at.1) ∙ by (at.0).pred (at.0).tuple some where
      by : (pred : Option ℕ) (tuple : List ℤ) → is_none (ground_conclusion pred tuple) ≡ false → is_some pred ≡ true
      by None tuple h = absurd (true≢false h)
      by (Some p) tuple h = refl

last-false : (b : Contents) (f : KeptFact) → end (state_of b) ≡ None → IsLastFalse (b.facts ++ f ∷ [])
last-false b f goes n within =
    let long = length_push b.facts f in
    let below : n < length b.facts = omega (arith, within, long) in
    let preds_long = length-map b.facts (λ (g : KeptFact). g.pred) in
    let old : pred_of (b.facts ++ f ∷ []) n ≡ pred_of b.facts n = ap (λ (ps : List (Option ℕ)). get_or ps n None) (map-append (λ (g : KeptFact). g.pred) b.facts (f ∷ [])) ∙ get_or_append_left (map (λ (g : KeptFact). g.pred) b.facts) (f.pred ∷ []) None n (omega (arith, below, preds_long)) in
    ap is_some old ∙ all-some b goes n below

same-itself : (c : Option Ground) → same_conclusion c c ≡ true
same-itself None = refl
same-itself (Some a) = from_both (a.0 == a.0) (same_tuple a.1 a.1) (eq-eqb a.0 a.0 refl) ((tuples_equal a.1 a.1).1 refl)

-- the conclusion isn't recorded
pub not-recorded : (b : Contents) (seen : Seen) (premises : List ℕ) (pred : Option ℕ) (tuple : List ℤ) → CanRecord b seen premises → ground_conclusion pred tuple ≡ concluded b.system seen → (n : ℕ) → Concludes b.facts n pred tuple → ⊥
not-recorded b seen premises pred tuple can head n is =
    let s = state_of b in
    let told = concluded b.system seen in
    let none = untold_passes ByFact (λ (old : Fact). same_conclusion old.conclusion told) s.facts can.new in
    let at = at-number b.facts n is.0 in
    let other = none-at (λ (old : Fact). same_conclusion old.conclusion told) s.facts n _ none (fact_of-at b.facts n at.0 at.1) in
    let pred_is : (at.0).pred ≡ pred = sym (fact-pred b.facts n at.0 at.1) ∙ is.1 in
    let tuple_is : (at.0).tuple ≡ tuple = sym (fact-tuple b.facts n at.0 at.1) ∙ is.2 in
    let same : ground_conclusion (at.0).pred (at.0).tuple ≡ told = ap₂ ground_conclusion pred_is tuple_is ∙ head in
    true≢false (sym (same-itself told) ∙ ap (λ (c : Option Ground). same_conclusion c told) (sym same) ∙ other)

pub made-fact : (b : Contents) (seen : Seen) (premises : List ℕ) (m : Made) (pred : Option ℕ) (tuple : List ℤ) → CanRecord b seen premises → ground_conclusion pred tuple ≡ concluded b.system seen
    → IsMadeOf b m b.frames (b.facts ++ (record { clause = seen.clause; point = seen.point; premises = premises; pred = pred; tuple = tuple }) ∷ []) (after_fact pred tuple (length b.journal + 1) b.tree.nodes)
    → m.level ≡ b.level → m.spent ≡ b.spent + 1 → IsMadeInto b (written 1 (recorded b.system (state_of b) seen premises)) m
made-fact b seen premises m pred tuple can head made level spent =
    let new : KeptFact = record { clause = seen.clause; point = seen.point; premises = premises; pred = pred; tuple = tuple } in
    let nodes = after_fact pred tuple (length b.journal + 1) b.tree.nodes in
    let facts = facts-push b.facts new ∙ ap (λ (c : Option Ground). facts_of b.facts ++ (record { conclusion = c; clause = seen.clause; point = seen.point; premises = premises; height = suc (greatest_height (facts_of b.facts) premises) }) ∷ []) head in
    let closed = closes-fact pred tuple (length b.journal + 1) b.tree.nodes (bare-roots (b.level + 1) (facts_of b.facts) b.tree.nodes (rooted b can.kept)) ∙ ap (λ (c : Option Ground). close_from (λ (o : Obligation). holds o c) (length b.journal + 1) [] (obligations_of b.tree.nodes)) head in
    made-into b m b.frames (b.facts ++ new ∷ []) nodes (written 1 (recorded b.system (state_of b) seen premises)) made level refl facts closed refl spent refl refl (last-false b new can.goes_on)

-- Lift

pub made-lift : (b : Contents) (l : LiftPart) (m : Made) → CanTake b (LiftStep l)
    → IsMadeOf b m (record b.frames { lemmas = lifted b.frames.lemmas l.lemma }) b.facts (after_lemma (lemma_pred b.frames.lemmas l.lemma) (l.from + 1) (lemma_of b.frames.lemmas l.lemma) (length b.journal + 1) b.tree.nodes)
    → m.level ≡ b.level → m.spent ≡ b.spent + 1 → IsMadeBy b (LiftStep l) m
made-lift b l m can made level spent =
    let c = can_lift b l can in
    let lemmas = b.frames.lemmas in
    let e = framed_at lemmas l.lemma in
    let there = framed_of-at lemmas l.lemma c.0 in
    let s = written 1 (lifted_with (state_of b) l.lemma (Some e)) in
    let same = ap (λ (found : Option Framed). written 1 (lifted_with (state_of b) l.lemma found)) (sym there) in
    let nodes = after_lemma (lemma_pred lemmas l.lemma) (l.from + 1) (lemma_of lemmas l.lemma) (length b.journal + 1) b.tree.nodes in
    let closed = closes-lemma (lemma_pred lemmas l.lemma) (l.from + 1) (lemma_of lemmas l.lemma) (length b.journal + 1) b.tree.nodes ∙ ap (λ (k : ℕ). close_from (closes e.lemma (k + 1)) (length b.journal + 1) [] (obligations_of b.tree.nodes)) (sym c.1) in
    made-is b (LiftStep l) m (record b.frames { lemmas = lifted lemmas l.lemma }) b.facts nodes s made same level (lemmas-lifted lemmas l.lemma c.0) refl closed refl spent refl refl (can.kept).false_last

-- Raise

pub made-raise : (b : Contents) (r : RaisePart) (m : Made) → CanTake b (RaiseStep r) → IsMadeOf b m b.frames b.facts (after_raise (b.level + 1 + 1) (length b.journal + 1) b.tree.nodes)
    → m.level ≡ b.level + 1 → m.spent ≡ b.spent + 1 → IsMadeBy b (RaiseStep r) m
made-raise b r m can made level spent =
    let nodes = after_raise (b.level + 1 + 1) (length b.journal + 1) b.tree.nodes in
    made-is b (RaiseStep r) m b.frames b.facts nodes (written 1 (raised (state_of b))) made refl level refl refl (closes-raise (b.level + 1 + 1) (length b.journal + 1) b.tree.nodes) refl spent refl refl (can.kept).false_last

-- Stall

pub made-stall : (b : Contents) (t : StallPart) (m : Made) → CanTake b (StallStep t) → IsMadeOf b m b.frames b.facts (marked_at t.target b.tree.nodes) → m.level ≡ b.level → m.spent ≡ b.spent → IsMadeBy b (StallStep t) m
made-stall b t m can made level spent =
    let within = can_stall b t can in
    let o = obligation_of (node_at b.tree.nodes t.target) in
    let there = obligation_of-at b.tree.nodes t.target within in
    let s = written 0 (stalled_with (state_of b) t.target (Some o)) in
    let same = ap (λ (found : Option Obligation). written 0 (stalled_with (state_of b) t.target found)) (sym there) in
    let none : b.spent ≡ b.spent + 0 = omega arith in
    made-is b (StallStep t) m b.frames b.facts (marked_at t.target b.tree.nodes) s made same level refl refl (obligations-marked b.tree.nodes t.target within) refl (spent ∙ none) refl refl (can.kept).false_last

-- room for one more

pub lemmas-room : (b : Contents) → IsBook b → length b.frames.lemmas < 2 ^ 32 - 1
lemmas-room b kept = (let most = (small b kept).lemmas in omega (arith, most))

pub facts-room : (b : Contents) → IsBook b → length b.facts < 2 ^ 32 - 1
facts-room b kept = (let most = (small b kept).facts in omega (arith, most))

pub nodes-room : (b : Contents) → IsBook b → length b.tree.nodes < 2 ^ 32 - 1
nodes-room b kept = (let most = (small b kept).nodes in omega (arith, most))

pub journal-room : (b : Contents) → IsBook b → length b.journal < 2 ^ 32 - 1
journal-room b kept = (let most = (small b kept).journal in omega (arith, most))

-- a lifted lemma's level is below the book's, which is small
pub lift-room : (b : Contents) (l : LiftPart) → CanTake b (LiftStep l) → level_of b.frames.lemmas l.lemma < 2 ^ 32 - 1
lift-room b l can =
    let most = (small b can.kept).level in
    let lifts = can_lift b l can in
    let is = lifts.1 in
    let below = lifts.2 in
    omega (arith, most, is, below)

pub spent-room : (b : Contents) (n : ℕ) → IsBook b → n ≡ b.spent → n + 1 < 2 ^ 32
spent-room b n kept is = (let most = (small b kept).spent in omega (arith, most, is))

pub level-room : (b : Contents) (n : ℕ) → IsBook b → n ≡ b.level → n + 1 + 1 < 2 ^ 32
level-room b n kept is = (let most = (small b kept).level in omega (arith, most, is))

pub from-room : (b : Contents) (l : LiftPart) → CanTake b (LiftStep l) → l.from + 1 < 2 ^ 32
from-room b l can =
    let most = (small b can.kept).level in
    let below = (can_lift b l can).2 in
    omega (arith, most, below)
