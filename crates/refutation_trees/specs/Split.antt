-- Split trees, as branch and bound makes them: a node is split by a bound on an integer variable with a fractional value (Land and Doig, An Automatic Method of Solving Discrete Programming Problems; Dakin, A Tree-Search Algorithm for Mixed Integer Programming Problems), or by the parts of a disjunction (Balas, Disjunctive Programming).
use Rattle.std.specs.Prelude.{◌≡◌, ℕ, suc, ◌+◌, ◌<◌, List, [], ◌∷◌, ◌++◌, map, take, drop, ℤ, pos, neg_ℤ, ◌+ℤ◌, ◌*ℤ◌, ◌<ℤ◌, Bool, true, not, ◌||◌, ◌&&◌, Some, slice_get, length}
use Rattle.std.specs.List.{Contains, list_all, list_any}
use Rattle.lin_atoms.specs.Truth.{lit_truth, truth}
use Rattle.lin_atoms.specs.declared.lit.Lit.{Lit}
use Rattle.lin_atoms.specs.declared.lit.Lit.TheVariants.{Le}
use Rattle.lin_atoms.specs.declared.form.Form.{Form}
use Rattle.int_rows.specs.Basis.{System, Point, IsBasicPoint, MeetsBounds}
use Rattle.int_rows.specs.Node.{system}
use Rattle.int_rows.specs.Ready.{has_no_variable}
use Rattle.int_rows.specs.Rows.{SolvesAll, entry}
use Rattle.refutation_trees.specs.Flatten.{disjunctions, literals}
use Rattle.refutation_trees.specs.Refutation.{form_end}

-- a node: its literals, in the order in which they joined it or one above it; the literals of the form that are left out, here and at every node above; and the open disjunctions, each as the list of its parts
pub record Node : Type 0 where
  pub lits : List Lit
  pub left_out : List Lit
  pub open_cases : List (List Form)

-- the integer points of a node: its literals are true, those that are left out too, and of each open disjunction some part
abbrev pub is_point_of : List ℤ → Node → Bool
is_point_of point node = list_all (lit_truth point) node.lits && (list_all (lit_truth point) node.left_out && list_all (list_any (truth point)) node.open_cases)

-- where a tree starts: the flattened form, of which no literal has joined yet. That a disjunction of it is left out needs no word, since an open one that isn't split says nothing
abbrev pub start : Form → Node
start form = record { lits = []; left_out = literals form; open_cases = disjunctions form }

-- the node with a literal that was left out, which joins as the last
abbrev pub joined : ℕ → Lit → Node → Node
joined k lit node = record { lits = node.lits ++ lit ∷ []; left_out = take k node.left_out ++ drop (k + 1) node.left_out; open_cases = node.open_cases }

-- the node below for a part of an open disjunction: the part's literals join as the last, and its disjunctions stand in place of the one that was split
abbrev pub with_part : ℕ → Node → Form → Node
with_part which node part = record { lits = node.lits ++ literals part; left_out = node.left_out; open_cases = take which node.open_cases ++ (disjunctions part ++ drop (which + 1) node.open_cases) }

-- the node below for a side of a branch
abbrev pub with_bound : Node → Lit → Node
with_bound node lit = record { lits = node.lits ++ lit ∷ []; left_out = node.left_out; open_cases = node.open_cases }

-- x <= c
abbrev pub at_most : ℕ → ℤ → Lit
at_most x c = Le (record { terms = (x, pos 1) ∷ []; constant = neg_ℤ c })

-- x >= c
abbrev pub at_least : ℕ → ℤ → Lit
at_least x c = Le (record { terms = (x, neg_ℤ (pos 1)) ∷ []; constant = c })

-- a literal without a variable counts by its truth
abbrev pub is_no_falsehood : Lit → Bool
is_no_falsehood lit = not (has_no_variable lit) || lit_truth [] lit

-- a rational solution of the literals as a tableau has them, where q is above the variables of the form. The quotients are numbered on from q in order of the literals, so each keeps its number where more literals come last
pub record HasSolution (q : ℕ) (lits : List Lit) : Type 0 where
  pub constants : list_all is_no_falsehood lits ≡ true
  pub point : Point
  pub positive : 0 < point.den
  pub width : length point.nums ≡ (system q lits).columns
  pub solves : SolvesAll point.nums (system q lits).equations
  pub meets : MeetsBounds (system q lits) point

-- a vertex whose coordinate of a variable or quotient x lies strictly between c and c + 1
pub record HasVertexBetween (s : System) (x : ℕ) (c : ℤ) : Type 0 where
  pub variable : x < s.variables
  pub basis : List ℕ
  pub values : List ℤ
  pub point : Point
  pub is_basic : IsBasicPoint s basis values point
  pub meets : MeetsBounds s point
  pub beyond : (c *ℤ pos point.den) <ℤ entry point.nums x
  pub beneath : entry point.nums x <ℤ ((c +ℤ pos 1) *ℤ pos point.den)

-- what a node is split into: the cases of an open disjunction, or the two sides of a branch
pub data IsSplit (q : ℕ) (node : Node) (below : List Node) : Type 0 where
  by_cases : (which : ℕ) (parts : List Form) → slice_get node.open_cases which ≡ Some parts → below ≡ map (with_part which node) parts → IsSplit q node below
  by_branch : (x : ℕ) (c : ℤ) → HasVertexBetween (system q node.lits) x c → below ≡ with_bound node (at_most x c) ∷ with_bound node (at_least x (c +ℤ pos 1)) ∷ [] → IsSplit q node below

-- an inner node, with the nodes below it
pub record IsInner (q : ℕ) (node : Node) (below : List Node) : Type 0 where
  pub solution : HasSolution q node.lits
  pub split : IsSplit q node below

-- a node of a split tree of the form
pub data IsNode (form : Form) : Node → Type 0 where
  first : (node : Node) → node ≡ start form → IsNode form node
  taken_in : (before node : Node) (k : ℕ) (lit : Lit) → IsNode form before → slice_get before.left_out k ≡ Some lit → node ≡ joined k lit before → IsNode form node
  under : (inner node : Node) (below : List Node) → IsNode form inner → IsInner (form_end form) inner below → Contains below node → IsNode form node

-- split trees on these nodes, one on each, have the given number of inner nodes in all
pub data HaveTrees (q : ℕ) : List Node → ℕ → Type 0 where
  none : HaveTrees q [] 0
  leaf : (node : Node) (nodes : List Node) (n : ℕ) → HaveTrees q nodes n → HaveTrees q (node ∷ nodes) n
  takes_in : (node : Node) (nodes : List Node) (n k : ℕ) (lit : Lit) → slice_get node.left_out k ≡ Some lit → HaveTrees q (joined k lit node ∷ nodes) n → HaveTrees q (node ∷ nodes) n
  inner : (node : Node) (nodes below : List Node) (n : ℕ) → IsInner q node below → HaveTrees q (below ++ nodes) n → HaveTrees q (node ∷ nodes) (suc n)
