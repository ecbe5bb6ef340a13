-- The lists that a reader has open, the outermost first.
use Rattle.std.specs.Prelude.{ℕ, List, [], ◌∷◌, Option, None, Some}
use Rattle.sexp_read.specs.declared.tree.TextStop.{TextStop}
use Rattle.sexp_read.specs.declared.tree.TextStop.TheVariants.{Unclosed}
use Rattle.sexp_read.specs.declared.reader.OpenList.{OpenList}

-- where the outermost open tree starts, of which the innermost starts at start
abbrev pub outermost_start : List OpenList → ℕ → ℕ
outermost_start [] start = start
outermost_start (list ∷ lists) start = list.start

-- the stop where the text ends
abbrev pub stop_at_end : List OpenList → Option TextStop
stop_at_end [] = None
stop_at_end (list ∷ lists) = Some (Unclosed list.start)
