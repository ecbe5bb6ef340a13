-- How false stands among the facts: nothing is written after it.
use Rattle.std.specs.Prelude.{◌≡◌, ◌<◌, ◌+◌, ℕ, List, length, true, is_some}
use Rattle.derivations.specs.Facts.{pred_of}
use Rattle.derivations.specs.declared.fact.Fact.{Fact}

-- no fact but the last is false
abbrev pub IsLastFalse : List Fact → Type 0
IsLastFalse facts = (n : ℕ) → n + 1 < length facts → is_some (pred_of facts n) ≡ true
