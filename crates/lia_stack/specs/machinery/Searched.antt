-- How far a search has come.
use Rattle.std.specs.Prelude.{◌≡◌, ℕ, ◌+◌, ◌^◌, ◌<◌, ◌≤◌, List, [], ◌∷◌, ◌++◌, map, reverse, length, ℤ, pos, true, nat_lt, Some, None, Result, Ok, Err, if◌then◌else◌}
use Rattle.std.specs.List.{list_all, range_with_len, sum_by}
use Rattle.base.specs.declared.memory.Memory.{Memory}
use Rattle.lin_atoms.specs.Denial.{lit_fits}
use Rattle.lin_atoms.specs.Linear.{is_short, variable_at}
use Rattle.lin_atoms.specs.Truth.{truth}
use Rattle.lin_atoms.specs.declared.form.Form.{Form}
use Rattle.refutation_trees.specs.GivenUp.{IsEvidence}
use Rattle.refutation_trees.specs.Refutation.{form_end, is_sound, judged}
use Rattle.refutation_trees.specs.Split.{HaveTrees, start}
use Rattle.refutation_trees.specs.declared.evidence.Evidence.{Evidence}
use Rattle.refutation_trees.specs.declared.tree.Refutation.{Refutation}
use Rattle.lia_close.specs.Placed.{AreSoundAt, Place, root}
use Rattle.lia_close.specs.Written.{assembled}
use Rattle.lia_stack.specs.Counted.{CountsTo}
use Rattle.lia_stack.specs.declared.waiting.Open.{Open}
use Rattle.lia_stack.specs.declared.state.End.{End}
use Rattle.lia_stack.specs.declared.state.End.TheVariants.{Model, Refuted, GivenUp}
use Rattle.lia_stack.specs.declared.state.Search.{Search}
use Rattle.lia_stack.specs.declared.state.Turn.{Turn}
use Rattle.lia_stack.specs.declared.state.Turn.TheVariants.{WentOn, Split, Over}
use Rattle.lia_stack.specs.machinery.Opened.{AreOpen, node_of}

-- the loop's invariant, with this stack of nodes, the next at the end. Whatever is found for the nodes on the stack is found for the form: trees that refute them where they stand, and split trees on them
pub record IsSearchOn (s : Search) (stack : List Open) : Type 0 where
  pub end : s.end ≡ form_end s.form.now
  pub small : s.end < 2 ^ 31
  pub places : List Place
  pub waiting : AreOpen s.form.now (reverse stack) places
  pub refutes : s.kept ≡ None → (trees : List Refutation) → AreSoundAt (form_end s.form.now) places trees → AreSoundAt (form_end s.form.now) (root s.form.now ∷ []) (assembled s.steps.items trees)
  pub splits : (m : ℕ) → HaveTrees (form_end s.form.now) (map node_of (reverse stack)) m → HaveTrees (form_end s.form.now) (start s.form.now ∷ []) (s.count + m)
  pub kept : (evidence : Evidence) → s.kept ≡ Some evidence → IsEvidence s.form.now evidence × CountsTo s.nodes evidence

abbrev pub IsSearch : Search → Type 0
IsSearch s = IsSearchOn s s.stack.items

-- with a node that was taken off the stack
abbrev pub Waits : Search → Open → Type 0
Waits s waiting = IsSearchOn s (s.stack.items ++ waiting ∷ [])

-- each literal of the node has its reason, and nothing else is changed but what is written
pub record Named (old : Search) (before : Open) (new : Search) (after : Open) : Type 0 where
  pub is : Waits new after
  pub steps : new ≡ record old { steps = new.steps }
  pub lits : after.lits ≡ before.lits
  pub cases : after.cases ≡ before.cases
  pub full : length after.reasons ≡ length after.lits

-- the same form and the same number of inner nodes
pub record IsSame (old new : Search) : Type 0 where
  pub form : new.form.now ≡ old.form.now
  pub end : new.end ≡ old.end
  pub nodes : new.nodes ≡ old.nodes

-- the node is closed, and nothing else is changed
pub record Closes (old new : Search) : Type 0 where
  pub is : IsSearch new
  pub same : IsSame old new
  pub count : new.count ≡ old.count
  pub stack : new.stack.items ≡ old.stack.items

-- the node is split
pub record Splits (old new : Search) : Type 0 where
  pub is : IsSearch new
  pub same : IsSame old new
  pub count : new.count ≡ old.count + 1

-- literals that may join one node yet, and one for the node
abbrev pub weight_of : Open → ℕ
weight_of o = length o.left_out + 1

abbrev pub weight : List Open → ℕ
weight os = sum_by weight_of os

-- the node is closed, or has one literal more
pub record Goes (old : Search) (waiting : Open) (new : Search) : Type 0 where
  pub is : IsSearch new
  pub same : IsSame old new
  pub count : new.count ≡ old.count
  pub less : weight new.stack.items < weight old.stack.items + weight_of waiting

-- how a search of the form may end, with at most `nodes` inner nodes
abbrev pub Ends : Form → ℕ → End → Type 0
Ends form nodes (Model point) = (form_end form ≤ length point.items) × (list_all is_short point.items ≡ true) × (truth point.items form ≡ true)
Ends form nodes (Refuted tree) = is_sound (judged lit_fits form tree) ≡ true
Ends form nodes (GivenUp evidence) = IsEvidence form evidence × CountsTo nodes evidence

-- what a turn comes to
abbrev pub Turns : Search → Open → Search → Result Turn Memory → Type 0
Turns old waiting new (Ok WentOn) = Goes old waiting new
Turns old waiting new (Ok Split) = Splits old new
Turns old waiting new (Ok (Over end)) = Ends old.form.now old.nodes end
Turns old waiting new (Err stop) = Unit {0}

-- what turns up to a split come to
abbrev pub StopsAt : Search → Search → Result Turn Memory → Type 0
StopsAt old new (Ok WentOn) = IsSearch new × (new.stack.items ≡ []) × IsSame old new
StopsAt old new (Ok Split) = Splits old new
StopsAt old new (Ok (Over end)) = Ends old.form.now old.nodes end
StopsAt old new (Err stop) = Unit {0}

-- the value of a variable of the form, and 0 for one that it doesn't have
abbrev pub value_of : List ℤ → ℕ → ℕ → ℤ
value_of point variable end = if nat_lt variable end then variable_at point variable else pos 0

-- `vars` values
abbrev pub cut : List ℤ → ℕ → ℕ → List ℤ
cut point end vars = map (λ v. value_of point v end) (range_with_len 0 vars)
