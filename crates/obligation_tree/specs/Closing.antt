-- What closes obligations: what a cause closes by itself, and all that hangs under it.
use Rattle.std.specs.Prelude.{ℕ, ℤ, List, [], ◌∷◌, ◌++◌, length, Bool, true, false, not, ◌&&◌, ◌||◌, ◌==◌, nat_lt, nat_le, if◌then◌else◌, Option, Some, None}
use Rattle.cube_forms.specs.Cubes.{cube_holds}
use Rattle.lin_atoms.specs.declared.lit.Lit.{Lit}
use Rattle.obligation_tree.specs.Nodes.{closed_with, is_live, node_at}
use Rattle.obligation_tree.specs.declared.obligation.Obligation.{Obligation}
use Rattle.obligation_tree.specs.declared.node.Node.{Node}
use Rattle.obligation_tree.specs.declared.cause.Cause.{Cause}
use Rattle.obligation_tree.specs.declared.cause.Cause.TheVariants.{Lemma, Fact, Raise}

-- the same predicate, where None is false
abbrev pub is_same_pred : Option ℕ → Option ℕ → Bool
is_same_pred None None = true
is_same_pred (Some p) (Some q) = p == q
is_same_pred None (Some q) = false
is_same_pred (Some p) None = false

-- a lemma closes what asks for its predicate at its level or below, with a point that it excludes
abbrev pub is_excluded : ℕ → ℕ → List Lit → Obligation → Bool
is_excluded pred level lemma obligation = is_same_pred (Some pred) obligation.pred && nat_le obligation.level level && cube_holds obligation.point lemma

-- a fact closes what asks for it
abbrev pub is_met : Option ℕ → List ℤ → Obligation → Bool
is_met pred tuple obligation = is_same_pred pred obligation.pred && cube_holds tuple obligation.cube

-- what a cause closes by itself; raising the closed level closes all but the root, which has number 0
abbrev pub hits : Cause → ℕ → Obligation → Bool
hits (Lemma pred level lemma) number obligation = is_excluded pred level lemma.now obligation
hits (Fact pred tuple) number obligation = is_met pred tuple.now obligation
hits (Raise level) number obligation = nat_lt 0 number

-- whether that number was given out and its obligation isn't live
abbrev pub is_closed_at : List Node → ℕ → Bool
is_closed_at nodes number = nat_lt number (length nodes) && not (is_live (node_at nodes number))

-- the next obligation after those before it, which are settled: a live one closes where the test says so, and where its
-- parent is closed
abbrev pub settled : (ℕ → Obligation → Bool) → ℕ → List Node → Node → Node
settled test entry before node = if is_live node && (test (length before) node.obligation || is_closed_at before node.obligation.parent) then closed_with entry node else node

-- in order of number, so that each parent is settled before its children
abbrev pub closing : (ℕ → Obligation → Bool) → ℕ → List Node → List Node → List Node
closing test entry before [] = before
closing test entry before (node ∷ nodes) = closing test entry (before ++ settled test entry before node ∷ []) nodes

-- the root at another level
abbrev pub root_at : ℕ → List Node → List Node
root_at level [] = []
root_at level (node ∷ nodes) = record node { obligation = record node.obligation { level = level } } ∷ nodes

abbrev pub after_lemma : ℕ → ℕ → List Lit → ℕ → List Node → List Node
after_lemma pred level lemma entry nodes = closing (λ number obligation. is_excluded pred level lemma obligation) entry [] nodes

abbrev pub after_fact : Option ℕ → List ℤ → ℕ → List Node → List Node
after_fact pred tuple entry nodes = closing (λ number obligation. is_met pred tuple obligation) entry [] nodes

abbrev pub after_raise : ℕ → ℕ → List Node → List Node
after_raise level entry nodes = root_at level (closing (λ number obligation. nat_lt 0 number) entry [] nodes)

-- all obligations after a cause, whose journal entry has this number
abbrev pub after : Cause → ℕ → List Node → List Node
after (Lemma pred level lemma) entry nodes = after_lemma pred level lemma.now entry nodes
after (Fact pred tuple) entry nodes = after_fact pred tuple.now entry nodes
after (Raise level) entry nodes = after_raise level entry nodes
