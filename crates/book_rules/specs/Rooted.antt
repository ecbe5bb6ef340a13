-- The root: number 0, which stands for false and is one level above the closed one (Hoder and Bjorner, "Generalized property
-- directed reachability", section 3: the search begins with the query at the level above).
use Rattle.std.specs.Prelude.{◌≡◌, ℕ, ◌+◌, List, ◌∷◌, Bool, true, false, is_none, is_some}
use Rattle.std.specs.List.{list_any}
use Rattle.book_rules.specs.Walks.{AllOf}
use Rattle.book_rules.specs.State.{Fact, Obligation, State, root_at, is_live}

-- the root at a level, whatever closed it, marked or not
abbrev pub IsRoot : ℕ → Obligation → Type 0
IsRoot level o = record (root_at level) { closed = o.closed; stalled = o.stalled } ≡ o

abbrev pub false_is_recorded : List Fact → Bool
false_is_recorded facts = list_any (λ (f : Fact). is_none f.conclusion) facts

-- the first is the root at that level, and closed only where false is recorded; each other one is of a predicate
pub record AreRooted (level : ℕ) (facts : List Fact) (os : List Obligation) : Type 0 where
  pub root : Obligation
  pub rest : List Obligation
  pub first : os ≡ root ∷ rest
  pub is_root : IsRoot level root
  pub closed_by_false : is_live root ≡ false → false_is_recorded facts ≡ true
  pub others : AllOf (λ (o : Obligation). is_some o.pred ≡ true) rest

-- in a book the root is at N + 1
abbrev pub IsRooted : State → Type 0
IsRooted s = AreRooted (s.level + 1) s.facts s.obligations
