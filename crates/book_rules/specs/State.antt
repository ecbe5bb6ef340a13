-- What stands in a book: the state of generalized property directed reachability (Hoder and Bjorner, section 2) with the
-- facts of Komuravelli, Gurfinkel and Chaki, section 3, over plain lists. Numbers are places in the lists, from 0.
use Rattle.std.specs.Prelude.{ℕ, ℤ, List, [], ◌∷◌, Bool, true, false, ◌&&◌, ◌==◌, Option, Some, None, is_none, is_some, option_map}
use Rattle.lin_atoms.specs.declared.lit.Lit.{Lit}
use Rattle.cube_forms.specs.Cubes.{cube_holds}
use Rattle.book_rules.specs.declared.by.By.{By}
use Rattle.book_rules.specs.declared.by.By.TheVariants.{Entry, Step}
use Rattle.book_rules.specs.Same.{same_tuple}
use Rattle.book_rules.specs.Instances.{Ground}
use Rattle.book_rules.specs.Frames.{Framed}

-- a conclusion, or none for false, with the instance and the recorded facts of its body, and the height of this derivation
pub record Fact : Type 0 where
  pub conclusion : Option Ground
  pub clause : ℕ
  pub point : List ℤ
  pub premises : List ℕ
  pub height : ℕ

-- the root is of no predicate: it stands for false. It is live until an entry closes it
pub record Obligation : Type 0 where
  pub pred : Option ℕ
  pub level : ℕ
  pub cube : List Lit
  pub point : List ℤ
  pub parent : ℕ
  pub clause : ℕ
  pub atom : ℕ
  pub closed : Option ℕ
  pub stalled : Bool

-- the closed level N, the units given and spent, and how many entries the journal has
pub record State : Type 0 where
  pub level : ℕ
  pub lemmas : List Framed
  pub facts : List Fact
  pub obligations : List Obligation
  pub given : ℕ
  pub spent : ℕ
  pub entries : ℕ

abbrev pub root_at : ℕ → Obligation
root_at level = record { pred = None; level = level; cube = []; point = []; parent = 0; clause = 0; atom = 0; closed = None; stalled = false }

-- the opening of a first book
abbrev pub opening : ℕ → State
opening units = record { level = 0; lemmas = []; facts = []; obligations = root_at 1 ∷ []; given = units; spent = 0; entries = 0 }

abbrev pub same_conclusion : Option Ground → Option Ground → Bool
same_conclusion None None = true
same_conclusion None (Some b) = false
same_conclusion (Some a) None = false
same_conclusion (Some a) (Some b) = (a.0 == b.0) && same_tuple a.1 b.1

-- whether no entry of the journal has closed the obligation
abbrev pub is_live : Obligation → Bool
is_live o = is_none o.closed

-- why the obligation of a number isn't live: the entry that closed it, or that there never was one; nothing where it is
abbrev pub unless_live : Option Obligation → Option By
unless_live None = Some Step
unless_live (Some o) = option_map Entry o.closed

-- an obligation holds a conclusion of its predicate that its cube holds; the root holds false alone
abbrev pub holds_of : Option ℕ → List Lit → Option Ground → Bool
holds_of None cube None = true
holds_of None cube (Some a) = false
holds_of (Some p) cube None = false
holds_of (Some p) cube (Some a) = (p == a.0) && cube_holds a.1 cube

abbrev pub holds : Obligation → Option Ground → Bool
holds o conclusion = holds_of o.pred o.cube conclusion

-- whether an obligation is of the predicate
abbrev pub is_of : ℕ → Option ℕ → Bool
is_of pred None = false
is_of pred (Some p) = p == pred

-- whether this obligation of number n hangs directly under that of another number; the root hangs under none
abbrev pub is_child : ℕ → Obligation → Bool
is_child parent o = is_some o.pred && (o.parent == parent)
