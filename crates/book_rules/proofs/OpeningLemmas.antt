-- Later openings: what they bring, and that facts stay derivable over a later system.
use Rattle.std.proofs.Common.{◌≡◌, ℕ, zero, suc, List, [], ◌∷◌, ◌++◌, true, Some, refl, ap, sym, ◌∙◌, arith}
use Rattle.std.specs.Prelude.{Option, slice_get}
use mathlib.Core.Bool.{true≢false}
use Rattle.clause_form.specs.System.{Clauses}
use Rattle.clause_form.specs.declared.clause.Clause.{Clause}
use Rattle.book_rules.specs.Walks.{AllOf}
use Rattle.book_rules.specs.Instances.{Ground, Relation, IsDerivable, instances}
use Rattle.book_rules.specs.State.{Fact, root_at}
use Rattle.book_rules.specs.Kept.{AreDerivable, AreDistinct, IsRecorded, AreRecorded, IsSound, IsOrdered}
use Rattle.book_rules.specs.Rooted.{IsRooted}
use Rattle.book_rules.specs.Values.{fact_is_short, AreShort}
use Rattle.book_rules.specs.Places.{AreOver}
use Rattle.book_rules.specs.Openings.{opening_with, IsLater}
use Rattle.book_rules.proofs.ListLemmas.{all_of-map}
use Rattle.book_rules.proofs.TreeLemmas.{get-append}

clause_later : (earlier later : Clauses) → IsLater earlier later → (number : ℕ) (clause : Clause) → slice_get earlier.clauses number ≡ Some clause → slice_get later.clauses number ≡ Some clause
clause_later earlier later more number clause is = ap (λ (cs : List Clause). slice_get cs number) (sym more.clauses) ∙ get-append earlier.clauses more.more_clauses number clause is

instance_later : (earlier later : Clauses) → IsLater earlier later → (number : ℕ) (body : List Ground) (head : Option Ground) → instances earlier number body head → instances later number body head
instance_later earlier later more number body head i = record {
  clause = i.clause;
  point = i.point;
  there = clause_later earlier later more number i.clause i.there;
  instance = i.instance;
  has_body = i.has_body;
  has_head = i.has_head;
}

derivable_in-more : (I J : Relation) → ((number : ℕ) (body : List Ground) (head : Option Ground) → I number body head → J number body head) → (h : ℕ) (head : Option Ground) → IsDerivable I h head → IsDerivable J h head
derivable_in-more I J f zero head d = absurd d
derivable_in-more I J f (suc h) head (number, body, i, parts) =
    (number, body, f number body head i, all_of-map (λ a. IsDerivable I h (Some a)) (λ a. IsDerivable J h (Some a)) (λ a. derivable_in-more I J f h (Some a)) body parts)

pub derivable_later : (earlier later : Clauses) (facts : List Fact) → IsLater earlier later → AreDerivable (instances earlier) facts → AreDerivable (instances later) facts
derivable_later earlier later facts more all =
    all_of-map (λ (f : Fact). IsDerivable (instances earlier) f.height f.conclusion) (λ (f : Fact). IsDerivable (instances later) f.height f.conclusion)
    (λ f. derivable_in-more (instances earlier) (instances later) (instance_later earlier later more) f.height f.conclusion) facts all

pub recorded_later : (earlier later : Clauses) (before facts : List Fact) → IsLater earlier later → AreRecorded earlier before facts → AreRecorded later before facts
recorded_later earlier later before [] more all = tt
recorded_later earlier later before (f ∷ facts) more all =
    let r : IsRecorded earlier before f = all.0 in
    (record { clause = r.clause; there = clause_later earlier later more f.clause r.clause r.there; instance = r.instance; head = r.head; premises = r.premises; height = r.height }, recorded_later earlier later (before ++ f ∷ []) facts more all.1)

pub sound-opening_with : (I : Relation) (facts : List Fact) (units : ℕ) → AreDerivable I facts → IsSound I (opening_with facts units)
sound-opening_with I facts units derived = record { shown = tt; refuted = λ some. absurd (omega arith); derived = derived }

pub ordered-opening_with : (facts : List Fact) (units : ℕ) → AreDistinct facts → IsOrdered (opening_with facts units)
ordered-opening_with facts units distinct = record { levels = tt; distinct = distinct; hung = (λ some live. absurd (omega arith), tt) }

pub rooted-opening_with : (facts : List Fact) (units : ℕ) → IsRooted (opening_with facts units)
rooted-opening_with facts units = record { root = root_at 1; rest = []; first = refl; is_root = refl; closed_by_false = λ dead. absurd (true≢false dead); others = tt }

pub short-opening_with : (facts : List Fact) (units : ℕ) → AllOf (λ (f : Fact). fact_is_short f ≡ true) facts → AreShort (opening_with facts units)
short-opening_with facts units short = record { facts = short; points = (refl, tt) }

pub over-opening_with : (sys : Clauses) (facts : List Fact) (units : ℕ) → AreOver sys (opening_with facts units)
over-opening_with sys facts units = record { lemmas = tt; obligations = (refl, tt) }
