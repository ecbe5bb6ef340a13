-- The parts of a script's clause stand in its arena.
use Rattle.std.proofs.Common.{◌≡◌, ℕ, ◌<◌, List, [], ◌∷◌, length, Bool, true, false, refl, ap, sym, ◌∙◌, subst, arith}
use Rattle.std.proofs.lemmas.List.Elements.{All-from_recursion}
use Rattle.std.specs.Prelude.{slice_get, Option, Some, None, nat_lt}
use Rattle.std.specs.List.{All, AllByRecursion, list_all}
use Rattle.term_tree.specs.declared.node.TermId.{TermId}
use Rattle.term_tree.specs.declared.node.Node.{Node}
use Rattle.term_tree.specs.declared.node.Node.TheVariants.{Pred, Var}
use Rattle.term_tree.specs.declared.script.Script.{Script}
use Rattle.term_tree.specs.declared.sort.Sort.{Sort}
use Rattle.term_tree.specs.Arena.{IsArena, has_parts_below, is_below}
use Rattle.term_tree.specs.Subterms.{is_part}
use Rattle.term_tree.specs.Value.{Environment, node_worth, value_of}
use Rattle.term_tree.proofs.Public.{arena_below, below_from, both_true, part_below, value_at}
use Rattle.std.proofs.lemmas.Option.{slice_get_within}
use Rattle.horn_shape.specs.declared.clause.AtomUse.{AtomUse}
use Rattle.horn_shape.specs.declared.clause.HornClause.{HornClause}
use Rattle.horn_shape.specs.declared.clause.Part.{Part}
use Rattle.horn_shape.specs.Clause.{IsClauseOf, content_of}
use Rattle.horn_shape.specs.Shape.{arguments}
use Rattle.clause_normal.proofs.ReadLemmas.{HeadHas, Holds, clause_holds, clause_within, is_name}
use Rattle.check_derivation.specs.machinery.Tests.{AreThere, IsThere}

module _ (nodes : List Node) (arena : IsArena nodes) where
  abbrev Within : ℕ → Type 0
  Within id = id < length nodes

  abbrev ArgsWithin : AtomUse → Type 0
  ArgsWithin atom = AreThere nodes atom.args

  part_within : (id part : ℕ) (node : Node) → slice_get nodes id ≡ Some node → is_part part node ≡ true → is_name node ≡ false → Within id → Within part
  part_within id part node at has other within =
      let less : part < id = part_below part id node (arena_below nodes id node arena at) has in
      omega (arith, less, within)

  args_within : (id : ℕ) (lets args : List TermId) → id < length nodes → list_all (is_below id) args ≡ true → AllByRecursion (λ (part : Part). part.term.0 < length nodes) (arguments lets args)
  args_within id lets [] within below = tt
  args_within id lets (a ∷ args) within below =
      let both = both_true (nat_lt a.0 id) (list_all (is_below id) args) below in
      let less : a.0 < id = below_from a.0 id both.0 in
      (omega (arith, less, within), args_within id lets args within both.1)

  atom_within : (id pred : ℕ) (lets args : List TermId) → slice_get nodes id ≡ Some (Pred pred args) → Within id → ArgsWithin (record { pred = pred; args = arguments lets args })
  atom_within id pred lets args at within =
      All-from_recursion (λ (part : Part). part.term.0 < length nodes) (arguments lets args) (args_within id lets args within (arena_below nodes id (Pred pred args) arena at))

  head_there : (head : Option AtomUse) → HeadHas ArgsWithin head → (atom : AtomUse) → head ≡ Some atom → AreThere nodes atom.args
  head_there None has atom e = absurd (cc)
  head_there (Some own) has atom e = let same : own ≡ atom = cc in subst ArgsWithin same has

pub clause_there : (script : Script) (index : ℕ) (clause : HornClause) → IsArena script.terms.nodes → IsClauseOf script index clause → IsThere script.terms.nodes clause
clause_there script index clause arena is =
    let nodes = script.terms.nodes in
    let top = is.assertion.term in
    let c = content_of clause in
    let within = clause_within nodes arena (Within nodes arena) (ArgsWithin nodes arena) (part_within nodes arena) (atom_within nodes arena) top [] c is.reading in
    let all = clause_holds nodes arena (Within nodes arena) (ArgsWithin nodes arena) (part_within nodes arena) (atom_within nodes arena) top [] c is.reading within in
    record {
      guards = All-from_recursion (λ (part : Part). part.term.0 < length nodes) clause.guards all.guards;
      atoms = All-from_recursion (ArgsWithin nodes arena) clause.atoms all.atoms;
      head = head_there nodes arena clause.head all.head;
    }

-- a variable has its value
pub variable_value : (nodes : List Node) (id : ℕ) (node : Node) (env : Environment) (binder : ℕ) (sort : Sort) → slice_get nodes id ≡ Some node → has_parts_below id node ≡ true → node ≡ Var binder sort → value_of nodes id env ≡ env binder
variable_value nodes id node env binder sort at below is = value_at nodes id node env at below ∙ ap (λ (n : Node). node_worth (value_of nodes) n env) is
