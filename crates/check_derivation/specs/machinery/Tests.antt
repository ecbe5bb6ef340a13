-- A step as the code tests it, in the order of its tests.
use Rattle.std.specs.Prelude.{◌≡◌, ◌<◌, ◌≤◌, ℕ, suc, ◌==◌, List, [], ◌∷◌, length, Option, Some, None, Bool, true, false, ◌&&◌, nat_lt, slice_get}
use Rattle.std.specs.List.{All, list_all}
use Rattle.term_tree.specs.declared.node.Node.{Node}
use Rattle.term_tree.specs.declared.scalar.Value.{Value}
use Rattle.term_tree.specs.declared.scalar.Value.TheVariants.{Int, Bool as Truth}
use Rattle.term_tree.specs.declared.script.Script.{Script}
use Rattle.term_tree.specs.declared.sort.Sort.{Sort}
use Rattle.term_tree.specs.declared.sort.Sort.TheVariants.{Int as IntSort, Bool as BoolSort}
use Rattle.term_tree.specs.Operators.{same_value}
use Rattle.term_tree.specs.Value.{Environment, environment_of}
use Rattle.horn_shape.specs.declared.clause.AtomUse.{AtomUse}
use Rattle.horn_shape.specs.declared.clause.HornClause.{HornClause}
use Rattle.horn_shape.specs.declared.clause.Part.{Part}
use Rattle.horn_shape.specs.Clause.{IsClauseOf}
use Rattle.horn_shape.specs.Instance.{is_met, part_value}
use Rattle.answer_text.specs.declared.answer.Line.{Line}
use Rattle.cert_derivations.specs.Claims.{IsLine, concluded_in}
use Rattle.check_derivation.specs.declared.finding.Finding.{Finding}
use Rattle.check_derivation.specs.declared.finding.Finding.TheVariants.{WrongAt}
use Rattle.check_derivation.specs.Findings.{Finds}

-- the lists are as long as each other, and their items stand in the relation
abbrev pub agree : {A B : Type 0} → (A → B → Bool) → List A → List B → Bool
agree test [] [] = true
agree test (x ∷ xs) (y ∷ ys) = test x y && agree test xs ys
agree test [] (y ∷ ys) = false
agree test (x ∷ xs) [] = false

abbrev pub fits : Sort → Value → Bool
fits IntSort (Int n) = true
fits BoolSort (Truth b) = true
fits IntSort (Truth b) = false
fits BoolSort (Int n) = false

abbrev pub is_earlier : ℕ → ℕ → Bool
is_earlier number premise = nat_lt 0 premise && nat_lt premise number

-- what can be told of the step of that number without a term's value
abbrev pub is_shaped : ℕ → Line → HornClause → Bool
is_shaped number line clause =
    (line.number == number) && (length line.premises == length clause.atoms) && list_all (is_earlier number) line.premises && agree fits clause.vars line.values

abbrev pub is_argument : List Node → Environment → Part → Value → Bool
is_argument nodes env part said = same_value (part_value nodes env part) said

-- what is said is the atom
abbrev pub is_atom : List Node → Environment → AtomUse → Option (ℕ × List Value) → Bool
is_atom nodes env atom None = false
is_atom nodes env atom (Some said) = (said.0 == atom.pred) && agree (is_argument nodes env) atom.args said.1

abbrev pub is_conclusion : List Node → Environment → AtomUse → Option (Option (ℕ × List Value)) → Bool
is_conclusion nodes env atom None = false
is_conclusion nodes env atom (Some said) = is_atom nodes env atom said

-- the line of that number concludes the atom
abbrev pub is_given : List Node → Environment → List Line → AtomUse → ℕ → Bool
is_given nodes env lines atom number = is_conclusion nodes env atom (concluded_in lines number)

abbrev pub is_head : List Node → Environment → Option AtomUse → Option (ℕ × List Value) → Bool
is_head nodes env None None = true
is_head nodes env None (Some said) = false
is_head nodes env (Some atom) said = is_atom nodes env atom said

-- the step of that number is right by the clause
abbrev pub is_right : List Node → List Line → ℕ → Line → HornClause → Bool
is_right nodes lines number line clause =
    is_shaped number line clause
    && list_all (is_met nodes (environment_of line.values)) clause.guards
    && agree (is_given nodes (environment_of line.values) lines) clause.atoms line.premises
    && is_head nodes (environment_of line.values) clause.head line.head

-- the parts of a clause stand in the arena
abbrev pub AreThere : List Node → List Part → Type 0
AreThere nodes parts = All (λ part. part.term.0 < length nodes) parts

pub record IsThere (nodes : List Node) (clause : HornClause) : Type 0 where
  pub guards : AreThere nodes clause.guards
  pub atoms : All (λ atom. AreThere nodes atom.args) clause.atoms
  pub head : (atom : AtomUse) → clause.head ≡ Some atom → AreThere nodes atom.args

-- the clauses of the script's assertions, in order
pub record AreClausesOf (script : Script) (clauses : List HornClause) : Type 0 where
  pub long : length clauses ≡ length script.asserts
  pub each : (index : ℕ) (clause : HornClause) → slice_get clauses index ≡ Some clause → IsClauseOf script index clause

-- the step of that number is right, where nothing is found at it
abbrev pub IsJudged : Script → List Line → ℕ → Line → Option Finding → Type 0
IsJudged script lines number line None = (place : ℕ) → number ≡ suc place → IsLine script lines place line
IsJudged script lines number line (Some finding) = Finds script lines finding

abbrev pub unless_right : Bool → ℕ → Option Finding
unless_right true number = None
unless_right false number = Some (WrongAt number)
