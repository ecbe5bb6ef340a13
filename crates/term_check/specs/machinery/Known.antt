-- What a context knows: the text, what a term may use, and the terms that let binds around it, by number.
use Rattle.std.specs.Prelude.{◌≡◌, ℕ, ◌+◌, ◌<◌, ◌^◌, List, ◌++◌, length, take, Bool, true, nat_lt}
use Rattle.std.specs.List.{list_all}
use Rattle.term_tree.specs.declared.node.TermId.{TermId}
use Rattle.term_tree.specs.Arena.{Arena, is_below}
use Rattle.term_check.specs.declared.scope.Bound.{Bound}
use Rattle.term_check.specs.declared.scope.Bound.TheVariants.{Variable, Let}
use Rattle.term_check.specs.declared.scope.Named.{Named}
use Rattle.term_check.specs.declared.atom.Atom.{Atom}
use Rattle.term_check.specs.declared.atom.Atom.TheVariants.{LetName}
use Rattle.term_check.specs.Found.{IsAligned}
use Rattle.sexp_read.specs.declared.tree.Tree.{Tree}
use Rattle.term_check.specs.declared.part.Part.{Part}
use Rattle.term_check.specs.Spelling.{SpellingScope, lets_in, lets_from, with_read_variables}

pub record Known : Type 0 where
  pub text : List ℕ
  pub scope : SpellingScope
  pub lets : List TermId

-- a name of let stands for one of the first terms
abbrev pub is_let_below : ℕ → Bound → Bool
is_let_below n (Let number sort constant) = nat_lt number n
is_let_below n (Variable number sort) = true

abbrev pub are_lets_below : ℕ → List Named → Bool
are_lets_below n names = list_all (λ name. is_let_below n name.bound) names

abbrev pub is_atom_below : ℕ → Atom → Bool
is_atom_below n (LetName number sort constant) = nat_lt number n
is_atom_below n atom = true

-- The names of let stand for terms of the arena, and there are numbers left for the variables and names of `room` trees.
pub record IsReady (known : Known) (arena : Arena) (next room : ℕ) : Type 0 where
  pub aligned : IsAligned arena
  pub numbered : lets_in known.scope.names ≡ length known.lets
  pub bound : are_lets_below (length known.lets) known.scope.names ≡ true
  pub below : list_all (is_below (length arena.nodes)) known.lets ≡ true
  pub variables : next + room < 2 ^ 32
  pub terms : length known.lets + room < 2 ^ 32

-- with the names of a quantifier, or of a let
abbrev pub below_quantifier : Known → ℕ → List Tree → Known
below_quantifier known first items = record known { scope = with_read_variables known.text known.scope first items }

abbrev pub below_let : Known → List Tree → List Part → List TermId → Known
below_let known items parts ids =
    record known { scope = record (known.scope) { names = known.scope.names ++ lets_from known.text (length known.lets) items parts }; lets = known.lets ++ ids }

-- without names, but for the outermost
abbrev pub outside : ℕ → ℕ → Known → Known
outside names lets known = record known { scope = record (known.scope) { names = take names known.scope.names }; lets = take lets known.lets }
