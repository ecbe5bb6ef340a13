-- The reading of trees step by step: the forms of terms by the list of their trees, and what each step gives in an arena.
use Rattle.std.specs.Prelude.{◌≡◌, ℕ, ℤ, Option, ◌+◌, List, [], ◌∷◌, length, Bool, true, false, Result, Ok, Err, slice_get, Some, if◌then◌else◌, codes, pos}
use Rattle.sexp_read.specs.declared.tree.Tree.{Tree}
use Rattle.term_tree.specs.declared.sort.Sort.{Sort}
use Rattle.term_tree.specs.declared.node.Node.{Node}
use Rattle.term_tree.specs.declared.node.Node.TheVariants.{Num, True, False, Var, LetVar, Pred, Forall, Exists}
use Rattle.term_tree.specs.declared.node.TermId.{TermId}
use Rattle.term_tree.specs.declared.refusal.Kind.TheVariants.{CommandForm}
use Rattle.term_tree.specs.Arena.{Arena}
use Rattle.term_check.specs.declared.atom.Atom.{Atom}
use Rattle.term_check.specs.declared.atom.Atom.TheVariants.{Number, Truth, BoundVariable, LetName, Predicate}
use Rattle.term_check.specs.declared.part.Part.{Part}
use Rattle.term_check.specs.declared.part.Fault.{Fault}
use Rattle.term_check.specs.declared.found.Found.{Found}
use Rattle.term_check.specs.declared.found.FoundAll.{FoundAll}
use Rattle.term_check.specs.declared.stop.TermStop.{TermStop}
use Rattle.term_check.specs.declared.stop.TermStop.TheVariants.{Memory as OutOfMemory, Fault as Broken}
use Rattle.term_check.specs.Found.{IsFoundUnder}
use Rattle.term_check.specs.Rules.{fault, unless, divisible_fault}
use Rattle.term_check.specs.Term.{IsNodeAt, AreTermsAt}
use Rattle.term_check.specs.Spelling.{SpellingScope, Spelled, Gathered, ◌>>=◌, spelled, with_spelled, nothing_yet, application, spelled_head, head_fault, is_word, items_of, binder_fault, let_names_fault, variables_fault, with_lets, with_read_variables, let_spelled, quantified, quantifier, quantifier_fault, sorts_bound, number_or_0}

-- The forms of terms by the list of their trees.

-- one more tree
abbrev pub next_spelled : List ℕ → SpellingScope → Gathered → Tree → Result Gathered Fault
next_spelled text scope g tree = spelled text scope g.next tree >>= λ s. Ok (with_spelled g s)

-- the trees, each in full, one after another
abbrev pub each_spelled : List ℕ → SpellingScope → Gathered → List Tree → Result Gathered Fault
each_spelled text scope g [] = Ok g
each_spelled text scope g (tree ∷ trees) = next_spelled text scope g tree >>= λ h. each_spelled text scope h trees

-- a head with its arguments
abbrev pub applied_list : List ℕ → SpellingScope → ℕ → ℕ → Tree → List Tree → Result Spelled Fault
applied_list text scope next start head args =
    spelled_head text scope.preds head >>= λ h. unless (head_fault scope.preds h start (length args)) (each_spelled text scope (nothing_yet next) args >>= application scope.preds h start)

-- the term of an item of let
abbrev pub item_bound : List ℕ → SpellingScope → Gathered → List Tree → Result Gathered Fault
item_bound text scope g (name ∷ term ∷ []) = next_spelled text scope g term
item_bound text scope g _ = Ok g

-- the terms of all items
abbrev pub all_bound : List ℕ → SpellingScope → Gathered → List Tree → Result Gathered Fault
all_bound text scope g [] = Ok g
all_bound text scope g (item ∷ items) = item_bound text scope g (items_of item) >>= λ h. all_bound text scope h items

-- the names of let, and the term below them
abbrev pub under_lets : List ℕ → SpellingScope → ℕ → List Tree → Tree → Gathered → Result Spelled Fault
under_lets text scope start items body g =
    unless (let_names_fault text [] items) (spelled text (with_lets text scope items g.parts) g.next body >>= λ s. Ok (let_spelled start g s))

abbrev pub let_list : List ℕ → SpellingScope → ℕ → ℕ → List Tree → Result Spelled Fault
let_list text scope next start (binder ∷ body ∷ []) =
    unless (binder_fault text binder) (all_bound text scope (nothing_yet next) (items_of binder) >>= under_lets text scope start (items_of binder) body)
let_list text scope next start _ = Err (fault CommandForm start)

-- the term below the variables of a quantifier
abbrev pub under_variables : List ℕ → SpellingScope → ℕ → ℕ → Bool → List Tree → Tree → Result Spelled Fault
under_variables text scope next start all items body =
    spelled text (with_read_variables text scope next items) (next + length items) body >>= λ s. quantified (quantifier all start next (sorts_bound text items)) start s

abbrev pub quantifier_list : List ℕ → SpellingScope → ℕ → ℕ → Bool → List Tree → Result Spelled Fault
quantifier_list text scope next start all (binder ∷ body ∷ []) =
    unless (binder_fault text binder) (unless (variables_fault text [] (items_of binder)) (under_variables text scope next start all (items_of binder) body))
quantifier_list text scope next start all _ = Err (fault CommandForm start)

abbrev pub any_list : List ℕ → SpellingScope → ℕ → ℕ → List Tree → Result Spelled Fault
any_list text scope next start [] = Err (fault CommandForm start)
any_list text scope next start (head ∷ rest) =
    if is_word text head (codes "let") then let_list text scope next start rest
    else if is_word text head (codes "forall") then unless (quantifier_fault scope.quantifies start) (quantifier_list text scope next start true rest)
    else if is_word text head (codes "exists") then unless (quantifier_fault scope.quantifies start) (quantifier_list text scope next start false rest)
    else applied_list text scope next start head rest

-- the divisor of (_ divisible n) at its argument
abbrev pub divisor_of : Option ℕ → ℕ → List Part → Result ℤ Fault
divisor_of by start parts = unless (divisible_fault by start parts) (Ok (pos (number_or_0 by)))

-- Nodes.

-- the node of a term without parts that is no name of let
abbrev pub atom_node : Atom → Node
atom_node (Number k) = Num k
atom_node (Truth true) = True
atom_node (Truth false) = False
atom_node (BoundVariable number sort) = Var number sort
atom_node (LetName number sort constant) = False
atom_node (Predicate number) = Pred number []

-- the node of a term without parts, where the terms of lets around it stand at these
abbrev pub IsAtomNode : List TermId → Atom → Node → Type 0
IsAtomNode lets (LetName number sort constant) node = (bound : TermId) × (slice_get lets number ≡ Some bound) × (node ≡ LetVar bound)
IsAtomNode lets atom node = node ≡ atom_node atom

abbrev pub quantifier_node : Bool → ℕ → List Sort → TermId → Node
quantifier_node true first sorts body = Forall first sorts body
quantifier_node false first sorts body = Exists first sorts body

-- What was found, in an arena where the terms of lets around it stand at these.

-- terms that were gathered, which the arena has at these numbers
pub record IsGathered (lets : List TermId) (arena : Arena) (g : Gathered) (ids : List TermId) (parts : List Part) (next : ℕ) : Type 0 where
  pub terms : AreTermsAt arena lets g.terms ids
  pub parts_are : g.parts ≡ parts
  pub next_is : g.next ≡ next
  pub level : length ids ≡ length parts

-- an answer has put this node there, unless memory wanted
abbrev pub IsAdded : Node → ℕ → Part → ℕ → Arena → Result Found TermStop → Type 0
IsAdded node start part next arena (Ok found) = IsNodeAt arena found.id.0 node start × (found.part ≡ part) × (found.next ≡ next)
IsAdded node start part next arena (Err OutOfMemory) = Unit {0}
IsAdded node start part next arena (Err (Broken f)) = ⊥

-- an answer tells what a tree spells, or its first fault
abbrev pub Tells : List TermId → Result Spelled Fault → Arena → Result Found TermStop → Type 0
Tells lets outcome arena (Ok found) = IsFoundUnder lets outcome arena found.id found.part found.next
Tells lets outcome arena (Err OutOfMemory) = Unit {0}
Tells lets outcome arena (Err (Broken f)) = outcome ≡ Err f

abbrev pub TellsAll : List TermId → Result Gathered Fault → Arena → Result FoundAll TermStop → Type 0
TellsAll lets outcome arena (Ok all) = (g : Gathered) × (outcome ≡ Ok g) × IsGathered lets arena g all.ids.items all.parts.items all.next
TellsAll lets outcome arena (Err OutOfMemory) = Unit {0}
TellsAll lets outcome arena (Err (Broken f)) = outcome ≡ Err f

-- the same of terms that were gathered in place
abbrev pub TellsMore : List TermId → Result Gathered Fault → Arena → FoundAll → Result (Unit {0}) TermStop → Type 0
TellsMore lets outcome arena all (Ok done) = (g : Gathered) × (outcome ≡ Ok g) × IsGathered lets arena g all.ids.items all.parts.items all.next
TellsMore lets outcome arena all (Err OutOfMemory) = Unit {0}
TellsMore lets outcome arena all (Err (Broken f)) = outcome ≡ Err f
