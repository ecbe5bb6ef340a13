-- What a text goes on with, one tree at a time.
use Rattle.std.specs.Prelude.{ℕ, List, []}
use Rattle.sexp_read.specs.declared.reader.Next.{Next}
use Rattle.sexp_read.specs.declared.reader.Next.TheVariants.{Tree, Stop}
use Rattle.sexp_read.specs.Trees.{IsTree, Stops}

-- from an offset outside of all lists the text goes on with a tree, or to its first fault or its end
abbrev pub IsNext : List ℕ → ℕ → Next → Type 0
IsNext text at (Tree tree end) = IsTree text 0 at tree end
IsNext text at (Stop stop) = Stops text [] at stop
