-- Formulas over parameters: Bool terms without predicates and quantifiers.
use Rattle.std.specs.Prelude.{ℕ, ◌+◌, List, [], ◌∷◌, length, false, Result, Ok, Err, if◌then◌else◌}
use Rattle.sexp_read.specs.declared.tree.Tree.{Tree}
use Rattle.term_tree.specs.declared.sort.Sort.{Sort}
use Rattle.term_tree.specs.declared.sort.Sort.TheVariants.{Bool as BoolSort}
use Rattle.term_tree.specs.declared.script.Name.{Name}
use Rattle.term_tree.specs.Sorts.{same_sort}
use Rattle.term_check.specs.declared.part.Fault.{Fault}
use Rattle.term_check.specs.declared.scope.Bound.TheVariants.{Variable}
use Rattle.term_check.specs.declared.scope.Named.{Named}
use Rattle.term_check.specs.Spelling.{Spelled, spelled, scope_of}
use Rattle.term_check.specs.Term.{Term}

-- parameters as variables, numbered from here on
abbrev pub params_from : ℕ → List (Name × Sort) → List Named
params_from number [] = []
params_from number (param ∷ params) = record { name = param.0; bound = Variable number param.1 } ∷ params_from (number + 1) params

-- a Bool term, or where the first fault is. A term of another sort is one at its start
abbrev pub bool_term : Result Spelled Fault → Result Term ℕ
bool_term (Ok s) = if same_sort s.part.sort BoolSort then Ok s.term else Err s.part.start
bool_term (Err f) = Err f.offset

-- the formula that a tree spells over parameters, or where its first fault is
abbrev pub spelled_formula : List ℕ → List (Name × Sort) → Tree → Result Term ℕ
spelled_formula text params tree = bool_term (spelled text (scope_of [] (params_from 0 params) false) (length params) tree)
