-- What may have come since an earlier state: each entry but a Stall is one unit, and adds at most one lemma, fact, obligation
-- or level.
use Rattle.std.specs.Prelude.{◌≡◌, ℕ, suc, ◌+◌, ◌≤◌, List, [], ◌∷◌, length, if◌then◌else◌}
use Rattle.book_rules.specs.State.{Obligation, State}

-- how many are marked as stalled
abbrev pub marks : List Obligation → ℕ
marks [] = 0
marks (o ∷ rest) = if o.stalled then suc (marks rest) else marks rest

-- from s to t: lemmas, facts, obligations and the level grow by at most the units that were spent, and the journal by these
-- and the marks
pub record IsSpentSince (s t : State) : Type 0 where
  pub given : t.given ≡ s.given
  pub units : s.spent ≤ t.spent
  pub lemmas : length t.lemmas + s.spent ≤ length s.lemmas + t.spent
  pub facts : length t.facts + s.spent ≤ length s.facts + t.spent
  pub obligations : length t.obligations + s.spent ≤ length s.obligations + t.spent
  pub level : t.level + s.spent ≤ s.level + t.spent
  pub entries : t.entries + s.spent + marks s.obligations ≡ s.entries + t.spent + marks t.obligations

-- bounds on what a first book with the given number of units can come to
pub record HasRoom (units : ℕ) (s : State) : Type 0 where
  pub spent : s.spent ≤ units
  pub lemmas : length s.lemmas ≤ units
  pub facts : length s.facts ≤ units
  pub obligations : length s.obligations ≤ units + 1
  pub level : s.level ≤ units
  pub entries : s.entries ≤ units + units + 1
