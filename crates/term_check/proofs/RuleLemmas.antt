-- Rules at lists that have ended.
use Rattle.std.proofs.Common.{◌≡◌, ℕ, List, [], ◌∷◌, refl}
use Rattle.std.specs.Prelude.{None}
use Rattle.term_tree.specs.declared.sort.Sort.{Sort}
use Rattle.sexp_read.specs.declared.tree.Tree.{Tree}
use Rattle.term_check.specs.Rules.{declared_fault}
use Rattle.term_check.specs.Spelling.{lets_from}

pub no_parts : (sorts : List Sort) → declared_fault sorts [] ≡ None
no_parts [] = refl
no_parts (s ∷ sorts) = refl

pub no_lets : (text : List ℕ) (number : ℕ) (items : List Tree) → lets_from text number items [] ≡ []
no_lets text number [] = refl
no_lets text number (item ∷ items) = refl
