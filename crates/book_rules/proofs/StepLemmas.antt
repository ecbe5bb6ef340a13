-- What a step leaves as it was: of each obligation all but its level, what closed it, and its mark; of each lemma all but
-- its level; and each fact.
use Rattle.std.proofs.Common.{◌≡◌, ℕ, ◌+◌, List, [], ◌∷◌, ◌++◌, map, Bool, true, false, cond, Some, None, refl}
use Rattle.std.specs.Prelude.{Option, slice_get, slice_set}
use Rattle.clause_form.specs.System.{Clauses}
use Rattle.clause_form.specs.declared.atom.Atom.{Atom}
use Rattle.book_rules.specs.Walks.{AllOf}
use Rattle.book_rules.specs.Frames.{Framed, Lemma}
use Rattle.book_rules.specs.State.{Fact, Obligation, State, holds, is_live}
use Rattle.book_rules.specs.Steps.{OpenStep, Seen, Step}
use Rattle.book_rules.specs.OpenRules.{parent_of, atom_of}
use Rattle.book_rules.specs.LemmaRules.{closes, lifted_of}
use Rattle.book_rules.specs.FactRules.{concluded}
use Rattle.book_rules.specs.Effects.{after, closed_at, is_closing, close_from, child_of, learnt, opened_with, lifted_with, fact_of, raised_tree, recorded, stalled_with}
use Rattle.book_rules.proofs.ListLemmas.{all_of-push, all_of-set, all_of-at}

-- obligations

abbrev pub IsSteady : (Obligation → Type 0) → Type 0
IsSteady P = (o : Obligation) (level : ℕ) (closed : Option ℕ) (stalled : Bool) → P o → P (record o { level = level; closed = closed; stalled = stalled })

steady-if : (P : Obligation → Type 0) → IsSteady P → (entry : ℕ) (o : Obligation) (b : Bool) → P o → P (cond {A = Obligation} b (closed_at entry o) o)
steady-if P steady entry o true h = steady o o.level (Some entry) o.stalled h
steady-if P steady entry o false h = h

pub steady-close : (P : Obligation → Type 0) → IsSteady P → (cause : Obligation → Bool) (entry : ℕ) (before os : List Obligation) → AllOf P os → AllOf P (close_from cause entry before os)
steady-close P steady cause entry before [] h = tt
steady-close P steady cause entry before (o ∷ os) h =
    let here = cond {A = Obligation} (is_closing cause before o) (closed_at entry o) o in
    (steady-if P steady entry o (is_closing cause before o) h.0, steady-close P steady cause entry (before ++ here ∷ []) os h.1)

pub steady-all_closed : (P : Obligation → Type 0) → IsSteady P → (entry : ℕ) (os : List Obligation) → AllOf P os → AllOf P (map (λ o. cond {A = Obligation} (is_live o) (closed_at entry o) o) os)
steady-all_closed P steady entry [] h = tt
steady-all_closed P steady entry (o ∷ os) h = (steady-if P steady entry o (is_live o) h.0, steady-all_closed P steady entry os h.1)

steady-raised : (P : Obligation → Type 0) → IsSteady P → (entry level : ℕ) (os : List Obligation) → AllOf P os → AllOf P (raised_tree entry level os)
steady-raised P steady entry level [] h = tt
steady-raised P steady entry level (root ∷ rest) h = (steady root level root.closed root.stalled h.0, steady-all_closed P steady entry rest h.1)

pub steady-mark : (P : Obligation → Type 0) → IsSteady P → (os : List Obligation) (i : ℕ) (o : Obligation) → slice_get os i ≡ Some o → AllOf P os → AllOf P (slice_set os i (record o { stalled = true }))
steady-mark P steady os i o is h = all_of-set P os i (record o { stalled = true }) h (steady o o.level o.closed true (all_of-at P os i o is h))

-- what the child of an Open has
abbrev pub ChildHas : (Obligation → Type 0) → Clauses → State → Step → Type 0
ChildHas P sys s (Step.Opens o) = (parent : Obligation) (atom : Atom) → parent_of s o ≡ Some parent → atom_of sys o ≡ Some atom → P (child_of o parent atom)
ChildHas P sys s (Step.Learns l) = Unit {0}
ChildHas P sys s (Step.Records f) = Unit {0}
ChildHas P sys s (Step.Lifts l) = Unit {0}
ChildHas P sys s (Step.Raises r) = Unit {0}
ChildHas P sys s (Step.Stalls t) = Unit {0}
ChildHas P sys s (Step.Derives f) = Unit {0}
ChildHas P sys s (Step.Strengthens l) = Unit {0}

steady-open : (P : Obligation → Type 0) (s : State) (o : OpenStep) (parent : Option Obligation) (atom : Option Atom) → AllOf P s.obligations → ((p : Obligation) (a : Atom) → parent ≡ Some p → atom ≡ Some a → P (child_of o p a))
    → AllOf P (opened_with s o parent atom).obligations
steady-open P s o None atom h child = h
steady-open P s o (Some p) None h child = h
steady-open P s o (Some p) (Some a) h child = all_of-push P s.obligations (child_of o p a) h (child p a refl refl)

steady-lift : (P : Obligation → Type 0) → IsSteady P → (s : State) (number : ℕ) (found : Option Framed) → AllOf P s.obligations → AllOf P (lifted_with s number found).obligations
steady-lift P steady s number None h = h
steady-lift P steady s number (Some e) h = steady-close P steady (closes e.lemma (e.level + 1)) (s.entries + 1) [] s.obligations h

steady-stall : (P : Obligation → Type 0) → IsSteady P → (s : State) (number : ℕ) (found : Option Obligation) → slice_get s.obligations number ≡ found → AllOf P s.obligations → AllOf P (stalled_with s number found).obligations
steady-stall P steady s number None is h = h
steady-stall P steady s number (Some o) is h = steady-mark P steady s.obligations number o is h

steady-learnt : (P : Obligation → Type 0) → IsSteady P → (s : State) (lemma : Lemma) (level : ℕ) → AllOf P s.obligations → AllOf P (learnt s lemma level).obligations
steady-learnt P steady s lemma level h = steady-close P steady (closes lemma level) (s.entries + 1) [] s.obligations h

steady-recorded : (P : Obligation → Type 0) → IsSteady P → (sys : Clauses) (s : State) (seen : Seen) (premises : List ℕ) → AllOf P s.obligations → AllOf P (recorded sys s seen premises).obligations
steady-recorded P steady sys s seen premises h = steady-close P steady (λ o. holds o (concluded sys seen)) (s.entries + 1) [] s.obligations h

pub steady-after : (P : Obligation → Type 0) → IsSteady P → (sys : Clauses) (s : State) (step : Step) → AllOf P s.obligations → ChildHas P sys s step → AllOf P (after sys s step).obligations
steady-after P steady sys s (Step.Opens o) h child = steady-open P s o (parent_of s o) (atom_of sys o) h child
steady-after P steady sys s (Step.Learns l) h child = steady-learnt P steady s l.lemma l.level h
steady-after P steady sys s (Step.Records f) h child = steady-recorded P steady sys s f.seen f.premises h
steady-after P steady sys s (Step.Lifts l) h child = steady-lift P steady s l.lemma (lifted_of s l) h
steady-after P steady sys s (Step.Raises r) h child = steady-raised P steady (s.entries + 1) (s.level + 1 + 1) s.obligations h
steady-after P steady sys s (Step.Stalls t) h child = steady-stall P steady s t.target (slice_get s.obligations t.target) refl h
steady-after P steady sys s (Step.Derives f) h child = steady-recorded P steady sys s f.seen f.premises h
steady-after P steady sys s (Step.Strengthens l) h child = steady-learnt P steady s l.lemma l.level h

-- facts

abbrev pub FactHas : (Fact → Type 0) → Clauses → State → Step → Type 0
FactHas P sys s (Step.Opens o) = Unit {0}
FactHas P sys s (Step.Learns l) = Unit {0}
FactHas P sys s (Step.Records f) = P (fact_of sys s f.seen f.premises)
FactHas P sys s (Step.Lifts l) = Unit {0}
FactHas P sys s (Step.Raises r) = Unit {0}
FactHas P sys s (Step.Stalls t) = Unit {0}
FactHas P sys s (Step.Derives f) = P (fact_of sys s f.seen f.premises)
FactHas P sys s (Step.Strengthens l) = Unit {0}

facts-open : (P : Fact → Type 0) (s : State) (o : OpenStep) (parent : Option Obligation) (atom : Option Atom) → AllOf P s.facts → AllOf P (opened_with s o parent atom).facts
facts-open P s o None atom h = h
facts-open P s o (Some p) None h = h
facts-open P s o (Some p) (Some a) h = h

facts-lift : (P : Fact → Type 0) (s : State) (number : ℕ) (found : Option Framed) → AllOf P s.facts → AllOf P (lifted_with s number found).facts
facts-lift P s number None h = h
facts-lift P s number (Some e) h = h

facts-stall : (P : Fact → Type 0) (s : State) (number : ℕ) (found : Option Obligation) → AllOf P s.facts → AllOf P (stalled_with s number found).facts
facts-stall P s number None h = h
facts-stall P s number (Some o) h = h

pub facts-after : (P : Fact → Type 0) (sys : Clauses) (s : State) (step : Step) → AllOf P s.facts → FactHas P sys s step → AllOf P (after sys s step).facts
facts-after P sys s (Step.Opens o) h new = facts-open P s o (parent_of s o) (atom_of sys o) h
facts-after P sys s (Step.Learns l) h new = h
facts-after P sys s (Step.Records f) h new = all_of-push P s.facts (fact_of sys s f.seen f.premises) h new
facts-after P sys s (Step.Lifts l) h new = facts-lift P s l.lemma (lifted_of s l) h
facts-after P sys s (Step.Raises r) h new = h
facts-after P sys s (Step.Stalls t) h new = facts-stall P s t.target (slice_get s.obligations t.target) h
facts-after P sys s (Step.Derives f) h new = all_of-push P s.facts (fact_of sys s f.seen f.premises) h new
facts-after P sys s (Step.Strengthens l) h new = h

-- lemmas

abbrev pub LemmaHas : (Framed → Type 0) → Step → Type 0
LemmaHas P (Step.Opens o) = Unit {0}
LemmaHas P (Step.Learns l) = P (record { lemma = l.lemma; level = l.level })
LemmaHas P (Step.Records f) = Unit {0}
LemmaHas P (Step.Lifts l) = Unit {0}
LemmaHas P (Step.Raises r) = Unit {0}
LemmaHas P (Step.Stalls t) = Unit {0}
LemmaHas P (Step.Derives f) = Unit {0}
LemmaHas P (Step.Strengthens l) = P (record { lemma = l.lemma; level = l.level })

lemmas-open : (P : Framed → Type 0) (s : State) (o : OpenStep) (parent : Option Obligation) (atom : Option Atom) → AllOf P s.lemmas → AllOf P (opened_with s o parent atom).lemmas
lemmas-open P s o None atom h = h
lemmas-open P s o (Some p) None h = h
lemmas-open P s o (Some p) (Some a) h = h

lemmas-lift : (P : Framed → Type 0) → ((e : Framed) (level : ℕ) → P e → P (record e { level = level })) → (s : State) (number : ℕ) (found : Option Framed) → slice_get s.lemmas number ≡ found → AllOf P s.lemmas → AllOf P (lifted_with s number found).lemmas
lemmas-lift P steady s number None is h = h
lemmas-lift P steady s number (Some e) is h = all_of-set P s.lemmas number (record e { level = e.level + 1 }) h (steady e (e.level + 1) (all_of-at P s.lemmas number e is h))

lemmas-stall : (P : Framed → Type 0) (s : State) (number : ℕ) (found : Option Obligation) → AllOf P s.lemmas → AllOf P (stalled_with s number found).lemmas
lemmas-stall P s number None h = h
lemmas-stall P s number (Some o) h = h

pub lemmas-after : (P : Framed → Type 0) → ((e : Framed) (level : ℕ) → P e → P (record e { level = level })) → (sys : Clauses) (s : State) (step : Step) → AllOf P s.lemmas → LemmaHas P step → AllOf P (after sys s step).lemmas
lemmas-after P steady sys s (Step.Opens o) h new = lemmas-open P s o (parent_of s o) (atom_of sys o) h
lemmas-after P steady sys s (Step.Learns l) h new = all_of-push P s.lemmas (record { lemma = l.lemma; level = l.level }) h new
lemmas-after P steady sys s (Step.Records f) h new = h
lemmas-after P steady sys s (Step.Lifts l) h new = lemmas-lift P steady s l.lemma (lifted_of s l) refl h
lemmas-after P steady sys s (Step.Raises r) h new = h
lemmas-after P steady sys s (Step.Stalls t) h new = lemmas-stall P s t.target (slice_get s.obligations t.target) h
lemmas-after P steady sys s (Step.Derives f) h new = h
lemmas-after P steady sys s (Step.Strengthens l) h new = all_of-push P s.lemmas (record { lemma = l.lemma; level = l.level }) h new
