-- What a legal step makes of the book.
use Rattle.std.specs.Prelude.{ℕ, suc, ◌+◌, ◌-◌, max, List, [], ◌∷◌, ◌++◌, map, Bool, true, false, ◌&&◌, ◌||◌, not, Option, Some, None, if◌then◌else◌, slice_get, slice_set}
use Rattle.clause_form.specs.System.{Clauses}
use Rattle.clause_form.specs.declared.atom.Atom.{Atom}
use Rattle.book_rules.specs.Walks.{has}
use Rattle.book_rules.specs.Frames.{Framed, Lemma}
use Rattle.book_rules.specs.LemmaRules.{closes, lifted_of}
use Rattle.book_rules.specs.FactRules.{concluded}
use Rattle.book_rules.specs.OpenRules.{parent_of, atom_of, tuple_of}
use Rattle.book_rules.specs.State.{Fact, Obligation, State, holds, is_live}
use Rattle.book_rules.specs.Steps.{OpenStep, LiftStep, StallStep, Seen, Step}

-- the entry is written; every entry but Stall is one unit
abbrev pub written : ℕ → State → State
written units s = record s { spent = s.spent + units; entries = s.entries + 1 }

-- closing

abbrev pub closed_at : ℕ → Obligation → Obligation
closed_at entry o = record o { closed = Some entry }

-- whether a live obligation is closed: by the cause itself, or because its parent, which stands before it, is closed
abbrev pub is_closing : (Obligation → Bool) → List Obligation → Obligation → Bool
is_closing cause before o = is_live o && (cause o || has (slice_get before o.parent) (λ parent. not (is_live parent)))

-- the obligations from here on after closing; those before are as they are after it
abbrev pub close_from : (Obligation → Bool) → ℕ → List Obligation → List Obligation → List Obligation
close_from cause entry before [] = []
close_from cause entry before (o ∷ rest) =
    let here = if is_closing cause before o then closed_at entry o else o in
    here ∷ close_from cause entry (before ++ here ∷ []) rest

-- every live obligation that the cause closes, and all that hang under it, are closed by the entry that is being written
abbrev pub close : (Obligation → Bool) → State → List Obligation
close cause s = close_from cause (s.entries + 1) [] s.obligations

-- Open: a child at the level below, with the atom's tuple as its point
abbrev pub child_of : OpenStep → Obligation → Atom → Obligation
child_of o parent atom = record { pred = Some atom.pred; level = parent.level - 1; cube = o.cube; point = tuple_of o atom; parent = o.parent; clause = o.seen.clause; atom = o.atom; closed = None; stalled = false }

abbrev pub opened_with : State → OpenStep → Option Obligation → Option Atom → State
opened_with s o None atom = s
opened_with s o (Some parent) None = s
opened_with s o (Some parent) (Some atom) = record s { obligations = s.obligations ++ child_of o parent atom ∷ [] }

abbrev pub opened : Clauses → State → OpenStep → State
opened sys s o = opened_with s o (parent_of s o) (atom_of sys o)

-- Lemma and Strengthen: the lemma is added, and closes the obligations whose points it shuts out
abbrev pub learnt : State → Lemma → ℕ → State
learnt s lemma level = record s { lemmas = s.lemmas ++ (record { lemma = lemma; level = level }) ∷ []; obligations = close (closes lemma level) s }

-- Lift: its level is one more, and it closes as a lemma of that level does
abbrev pub lifted_with : State → ℕ → Option Framed → State
lifted_with s number None = s
lifted_with s number (Some e) = record s { lemmas = slice_set s.lemmas number (record { lemma = e.lemma; level = e.level + 1 }); obligations = close (closes e.lemma (e.level + 1)) s }

abbrev pub lifted : State → LiftStep → State
lifted s l = lifted_with s l.lemma (lifted_of s l)

-- Fact and Derive: the conclusion is recorded with its instance and premises, and closes the obligations that hold it

-- the height of a recorded fact, and 0 where there is no such fact
abbrev pub height_at : Option Fact → ℕ
height_at None = 0
height_at (Some f) = f.height

-- the greatest height of the premises, 0 for none
abbrev pub greatest_height : List Fact → List ℕ → ℕ
greatest_height facts [] = 0
greatest_height facts (p ∷ premises) = max (height_at (slice_get facts p)) (greatest_height facts premises)

abbrev pub fact_of : Clauses → State → Seen → List ℕ → Fact
fact_of sys s seen premises = record { conclusion = concluded sys seen; clause = seen.clause; point = seen.point; premises = premises; height = suc (greatest_height s.facts premises) }

abbrev pub recorded : Clauses → State → Seen → List ℕ → State
recorded sys s seen premises = record s { facts = s.facts ++ fact_of sys s seen premises ∷ []; obligations = close (λ o. holds o (concluded sys seen)) s }

-- Raise: N is one greater, all obligations but the root are closed, and the root is at N + 1
abbrev pub raised_tree : ℕ → ℕ → List Obligation → List Obligation
raised_tree entry level [] = []
raised_tree entry level (root ∷ rest) = (record root { level = level }) ∷ map (λ o. if is_live o then closed_at entry o else o) rest

abbrev pub raised : State → State
raised s = record s { level = s.level + 1; obligations = raised_tree (s.entries + 1) (s.level + 1 + 1) s.obligations }

-- Stall: the target is marked
abbrev pub stalled_with : State → ℕ → Option Obligation → State
stalled_with s number None = s
stalled_with s number (Some o) = record s { obligations = slice_set s.obligations number (record o { stalled = true }) }

abbrev pub stalled : State → StallStep → State
stalled s t = stalled_with s t.target (slice_get s.obligations t.target)

abbrev pub after : Clauses → State → Step → State
after sys s (Step.Opens o) = written 1 (opened sys s o)
after sys s (Step.Learns l) = written 1 (learnt s l.lemma l.level)
after sys s (Step.Records f) = written 1 (recorded sys s f.seen f.premises)
after sys s (Step.Lifts l) = written 1 (lifted s l)
after sys s (Step.Raises r) = written 1 (raised s)
after sys s (Step.Stalls t) = written 0 (stalled s t)
after sys s (Step.Derives f) = written 1 (recorded sys s f.seen f.premises)
after sys s (Step.Strengthens l) = written 1 (learnt s l.lemma l.level)
