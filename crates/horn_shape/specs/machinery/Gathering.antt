-- What terms give, put behind what was gathered before.
use Rattle.std.specs.Prelude.{◌≡◌, ℕ, List, ◌++◌, slice_get, Some, Result, Ok, Err, Bool, true, false}
use Rattle.term_tree.specs.declared.node.OpKind.{OpKind}
use Rattle.term_tree.specs.declared.node.OpKind.TheVariants.{Not, And}
use Rattle.term_tree.specs.declared.sort.Sort.{Sort}
use Rattle.term_tree.specs.declared.node.TermId.{TermId}
use Rattle.horn_shape.specs.declared.clause.HornClause.{HornClause}
use Rattle.horn_shape.specs.Shape.{Content, Reading, Place, either_head}

abbrev pub place_of : TermId → List TermId → Place
place_of id lets = record { term = id; lets = lets }

abbrev pub gained : HornClause → Content → HornClause
gained c x = record { assertion = c.assertion; vars = c.vars ++ x.vars; atoms = c.atoms ++ x.atoms; guards = c.guards ++ x.guards; head = either_head c.head x.head }

abbrev pub with_vars : HornClause → List Sort → HornClause
with_vars c sorts = record { assertion = c.assertion; vars = c.vars ++ sorts; atoms = c.atoms; guards = c.guards; head = c.head }

abbrev pub onto : HornClause → Reading → Result HornClause TermId
onto c (Err misfit) = Err misfit
onto c (Ok x) = Ok (gained c x)

-- a subterm fits no form, and starts there
abbrev pub IsMisfit : List ℕ → Result HornClause TermId → ℕ → Type 0
IsMisfit offsets found offset = (misfit : TermId) × (found ≡ Err misfit) × (slice_get offsets misfit.0 ≡ Some offset)

abbrev pub is_conjunction : OpKind → Bool
is_conjunction And = true
is_conjunction _ = false

abbrev pub is_negation : OpKind → Bool
is_negation Not = true
is_negation _ = false
