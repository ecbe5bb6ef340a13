-- Which answer a text spells over the declared predicates, or where its first fault is. A text is read as trees (SMT-LIB 2.6, section
-- 3.2), so it may be laid out at will and have comments. A model is the answer of get-model (section 4.2.6), with one definition
-- for each predicate; a derivation is this program's own.
--   sat ((define-fun name ((name sort) ..) Bool term) ..)
--   unsat (derivation (step number assertion (value ..) (premise ..) conclusion) ..)
-- Faults come from left to right, that of a tree before those of its parts.
use Rattle.std.specs.Prelude.{ℕ, ◌+◌, List, [], ◌∷◌, ◌++◌, length, map, Bool, true, false, not, ◌&&◌, nat_eq, Option, None, Some, Result, Ok, Err, if◌then◌else◌, codes, pos, neg_ℤ}
use Rattle.std.specs.List.{list_any}
use Rattle.sexp_read.specs.declared.tree.Tree.{Tree, Leaf, List', items-the_row-Tree}
use Rattle.sexp_read.specs.declared.tree.TextStop.{TextStop}
use Rattle.sexp_read.specs.declared.tree.TextStop.TheVariants.{BadByte, Unclosed, Deep}
use Rattle.sexp_read.specs.Leaves.{numeral_value}
use Rattle.term_tree.specs.declared.sort.Sort.{Sort}
use Rattle.term_tree.specs.declared.sort.Sort.TheVariants.{Bool as BoolSort}
use Rattle.term_tree.specs.declared.scalar.Value.{Value}
use Rattle.term_tree.specs.declared.scalar.Value.TheVariants.{Int, Bool as Truth}
use Rattle.term_tree.specs.declared.script.Name.{Name}
use Rattle.term_tree.specs.declared.script.Pred.{Pred}
use Rattle.term_tree.specs.Sorts.{same_sort}
use Rattle.term_check.specs.Words.{is_word_among}
use Rattle.term_check.specs.Spelling.{is_word, is_symbol, name_of, sort_named, start_of, pred_from, sorts_of}
use Rattle.term_check.specs.Term.{Term}
use Rattle.term_check.specs.Formula.{spelled_formula}
use Rattle.answer_text.specs.declared.answer.Line.{Line}

-- What is read, or the offset of the first fault.

-- what the first part gives goes into the rest; terms have their own, whose faults tell the rule as well
infixl 20 ◌>>=◌
abbrev pub ◌>>=◌ : {A B : Type 0} → Result A ℕ → (A → Result B ℕ) → Result B ℕ
Ok a >>= f = f a
Err offset >>= f = Err offset

-- a rule that is broken at an offset, else what the later rules give
abbrev pub provided : {A : Type 0} → Bool → ℕ → Result A ℕ → Result A ℕ
provided true offset later = later
provided false offset later = Err offset

-- what a tree says, else where it starts
abbrev pub said_by : {A : Type 0} → Tree → Option A → Result A ℕ
said_by tree (Some a) = Ok a
said_by tree None = Err (start_of tree)

-- the trees of a list, else where the tree starts
abbrev pub in_list : {A : Type 0} → (List Tree → Result A ℕ) → Tree → Result A ℕ
in_list read (Leaf kind start end) = Err start
in_list read (List' shape row start end) = read (items-the_row-Tree _ row)

-- each tree in order, behind what those so far gave
abbrev pub read_each : {A : Type 0} → (Tree → Result A ℕ) → List A → List Tree → Result (List A) ℕ
read_each read before [] = Ok before
read_each read before (tree ∷ trees) = read tree >>= λ a. read_each read (before ++ a ∷ []) trees

-- Numbers and values: a numeral below 2 ^ 63, or the negation of one that isn't 0.

-- the number of a numeral below 2^63, else where the tree starts
abbrev pub read_numeral : List ℕ → Tree → Result ℕ ℕ
read_numeral text tree = said_by tree (numeral_value text tree)

-- the integer of a numeral; nothing where there is no numeral
abbrev pub integer_value : Option ℕ → Option Value
integer_value None = None
integer_value (Some n) = Some (Int (pos n))

-- the negated integer of a numeral; nothing for 0, or where there is no numeral
abbrev pub negative_value : Option ℕ → Option Value
negative_value None = None
negative_value (Some n) = if nat_eq n 0 then None else Some (Int (neg_ℤ (pos n)))

-- the integer that the parts of (- numeral) spell; nothing for 0, or for any other parts
abbrev pub negation : List ℕ → List Tree → Option Value
negation text (minus ∷ n ∷ []) = if is_symbol text minus (codes "-") then negative_value (numeral_value text n) else None
negation text _ = None

-- the value of a tree that is no list: true, false or a numeral; nothing for any other
abbrev pub plain_value : List ℕ → Tree → Option Value
plain_value text tree =
    if is_symbol text tree (codes "true") then Some (Truth true)
    else if is_symbol text tree (codes "false") then Some (Truth false)
    else integer_value (numeral_value text tree)

-- the value that a tree spells: true, false, a numeral or (- numeral); nothing for any other tree
abbrev pub read_value : List ℕ → Tree → Option Value
read_value text (Leaf kind start end) = plain_value text (Leaf kind start end)
read_value text (List' shape row start end) = negation text (items-the_row-Tree _ row)

-- the value that a tree spells, else where the tree starts
abbrev pub value : List ℕ → Tree → Result Value ℕ
value text tree = said_by tree (read_value text tree)

-- Predicates.

-- the number of the declared predicate of that name; nothing without a name, or where none is declared by it
abbrev pub declared_by : List Pred → Option (List ℕ) → Option ℕ
declared_by preds None = None
declared_by preds (Some name) = pred_from 0 name preds

-- the number of the predicate that a tree names
abbrev pub pred : List ℕ → List Pred → Tree → Result ℕ ℕ
pred text preds tree = said_by tree (declared_by preds (name_of text tree))

-- how many arguments the predicate of that number has; 0 for a number past the declarations
abbrev pub arity : List Pred → ℕ → ℕ
arity preds number = length (sorts_of preds number)

-- Conclusions: false, the name of a predicate without arguments, or (name value ..) with a value for each argument.

-- the atom of a predicate that stands by itself; nothing where it has arguments, or where there is no predicate
abbrev pub bare : List Pred → Option ℕ → Option (ℕ × List Value)
bare preds None = None
bare preds (Some number) = if nat_eq (arity preds number) 0 then Some (number, []) else None

-- there is a value for each argument of the predicate, and one at least
abbrev pub with_values : List Pred → ℕ → ℕ → Bool
with_values preds number n = not (nat_eq n 0) && nat_eq n (arity preds number)

-- the atom that the parts of (name value ..) spell; a wrong number of values is a fault where the list starts
abbrev pub read_applied : List ℕ → List Pred → ℕ → List Tree → Result (ℕ × List Value) ℕ
read_applied text preds start [] = Err start
read_applied text preds start (name ∷ args) =
    pred text preds name >>= λ number. provided (with_values preds number (length args)) start (read_each (value text) [] args >>= λ values. Ok (number, values))

-- the ground atom that a tree spells: a name for a predicate without arguments, else (name value ..)
abbrev pub atom : List ℕ → List Pred → Tree → Result (ℕ × List Value) ℕ
atom text preds (Leaf kind start end) = said_by (Leaf kind start end) (bare preds (declared_by preds (name_of text (Leaf kind start end))))
atom text preds (List' shape row start end) = read_applied text preds start (items-the_row-Tree _ row)

-- what a step concludes: nothing for false, else the ground atom that the tree spells
abbrev pub conclusion : List ℕ → List Pred → Tree → Result (Option (ℕ × List Value)) ℕ
conclusion text preds tree = if is_symbol text tree (codes "false") then Ok None else (atom text preds tree >>= λ head. Ok (Some head))

-- Steps.

-- the step that the parts of a list spell; another word or number of parts is a fault where the list starts
abbrev pub step_of : List ℕ → List Pred → ℕ → List Tree → Result Line ℕ
step_of text preds start (word ∷ place ∷ assertion ∷ values ∷ premises ∷ head ∷ []) =
    provided (is_symbol text word (codes "step")) start (read_numeral text place >>= λ k. read_numeral text assertion >>= λ a.
    in_list (read_each (value text) []) values >>= λ vs. in_list (read_each (read_numeral text) []) premises >>= λ ps. conclusion text preds head >>= λ h.
    Ok (record { number = k; assertion = a; values = vs; premises = ps; head = h }))
step_of text preds start _ = Err start

-- the step that a tree spells; a tree that is no list is a fault where it starts
abbrev pub step : List ℕ → List Pred → Tree → Result Line ℕ
step text preds (Leaf kind start end) = Err start
step text preds (List' shape row start end) = step_of text preds start (items-the_row-Tree _ row)

-- Definitions.

-- a definition as it is read: its predicate's number, the names and sorts of its parameters, and its term
pub record Defined : Type 0 where
  pub pred : ℕ
  pub params : List (Name × Sort)
  pub body : Term

-- a tree names this sort; not where it names none
abbrev pub is_sort : Option Sort → Sort → Bool
is_sort None sort = false
is_sort (Some named) sort = same_sort named sort

-- Parameters: a name each, which differ, and the sorts of the predicate's arguments.

-- the tree is the identifier of this sort
abbrev pub names_sort : List ℕ → Tree → Sort → Bool
names_sort text tree sort = is_sort (sort_named text tree) sort

-- no earlier parameter of the definition has that name
abbrev pub is_new : List (Name × Sort) → List ℕ → Bool
is_new before name = not (is_word_among (map (λ p. p.0.bytes) before) name)

-- the parameter that the parts of (name sort) spell: first the name, which is new, then the sort, which is the argument's
abbrev pub parameter_of : List ℕ → List (Name × Sort) → Sort → ℕ → List Tree → Result (Name × Sort) ℕ
parameter_of text before sort start (name ∷ word ∷ []) =
    said_by name (name_of text name) >>= λ bytes. provided (is_new before bytes) (start_of name) (provided (names_sort text word sort) (start_of word) (Ok (record { bytes = bytes }, sort)))
parameter_of text before sort start _ = Err start

-- the parameter that a tree spells for an argument of this sort; a tree that is no list is a fault where it starts
abbrev pub parameter : List ℕ → List (Name × Sort) → Sort → Tree → Result (Name × Sort) ℕ
parameter text before sort (Leaf kind start end) = Err start
parameter text before sort (List' shape row start end) = parameter_of text before sort start (items-the_row-Tree _ row)

-- the parameters so far and those that the trees spell, a tree for each sort, as far as there are both
abbrev pub parameters_from : List ℕ → List (Name × Sort) → List Tree → List Sort → Result (List (Name × Sort)) ℕ
parameters_from text before [] sorts = Ok before
parameters_from text before (tree ∷ trees) (sort ∷ sorts) = parameter text before sort tree >>= λ p. parameters_from text (before ++ p ∷ []) trees sorts
parameters_from text before (tree ∷ trees) [] = Ok before

-- the parameters of a list, one for each argument of the predicate; another number is a fault where the list starts
abbrev pub parameters_of : List ℕ → List Sort → ℕ → List Tree → Result (List (Name × Sort)) ℕ
parameters_of text sorts start trees = provided (nat_eq (length trees) (length sorts)) start (parameters_from text [] trees sorts)

-- the parameters that a tree spells for arguments of these sorts; a tree that is no list is a fault where it starts
abbrev pub read_parameters : List ℕ → List Sort → Tree → Result (List (Name × Sort)) ℕ
read_parameters text sorts (Leaf kind start end) = Err start
read_parameters text sorts (List' shape row start end) = parameters_of text sorts start (items-the_row-Tree _ row)

-- the parameters and the term of a definition of that predicate
abbrev pub defined : List ℕ → List Pred → ℕ → Tree → Tree → Tree → Result Defined ℕ
defined text preds number params sort term =
    read_parameters text (sorts_of preds number) params >>= λ ps. provided (names_sort text sort BoolSort) (start_of sort) (
    spelled_formula text ps term >>= λ body. Ok (record { pred = number; params = ps; body = body }))

-- the predicate of that number has a definition among those so far
abbrev pub is_defined : List Defined → ℕ → Bool
is_defined before number = list_any (λ d. nat_eq d.pred number) before

-- one more definition, of a predicate that has none among those so far
abbrev pub definition_by : List ℕ → List Pred → List Defined → ℕ → Tree → Tree → Tree → Tree → Result Defined ℕ
definition_by text preds before start name params sort term =
    pred text preds name >>= λ number. provided (not (is_defined before number)) start (defined text preds number params sort term)

-- the definition that the parts of a define-fun spell; another word or number of parts is a fault where the list starts
abbrev pub definition_of : List ℕ → List Pred → List Defined → ℕ → List Tree → Result Defined ℕ
definition_of text preds before start (word ∷ name ∷ params ∷ sort ∷ term ∷ []) =
    provided (is_word text word (codes "define-fun")) start (definition_by text preds before start name params sort term)
definition_of text preds before start _ = Err start

-- the definition that a tree spells after those so far; a tree that is no list is a fault where it starts
abbrev pub definition : List ℕ → List Pred → List Defined → Tree → Result Defined ℕ
definition text preds before (Leaf kind start end) = Err start
definition text preds before (List' shape row start end) = definition_of text preds before start (items-the_row-Tree _ row)

-- the definitions so far and those that the trees spell, in the order of the text
abbrev pub definitions_from : List ℕ → List Pred → List Defined → List Tree → Result (List Defined) ℕ
definitions_from text preds before [] = Ok before
definitions_from text preds before (tree ∷ trees) = definition text preds before tree >>= λ d. definitions_from text preds (before ++ d ∷ []) trees

-- the definition of the predicate of that number
abbrev pub definition_for : ℕ → List Defined → Option Defined
definition_for number [] = None
definition_for number (d ∷ ds) = if nat_eq d.pred number then Some d else definition_for number ds

-- a definition before those of later predicates; nothing where one of them is missing
abbrev pub and_then : Option Defined → Option (List Defined) → Option (List Defined)
and_then (Some d) (Some ds) = Some (d ∷ ds)
and_then _ _ = None

-- those of the predicates, in order, of which the first has this number
abbrev pub in_order : List Defined → ℕ → List Pred → Option (List Defined)
in_order ds number [] = Some []
in_order ds number (p ∷ preds) = and_then (definition_for number ds) (in_order ds (number + 1) preds)

-- Answers.

-- what a text claims: sat, with a definition for each predicate in order, or unsat, with the steps of a derivation
pub data Reply : Type 0 where
  model : List Defined → Reply
  refutation : List Line → Reply

-- the model, where each predicate has its definition, else where the list of definitions starts
abbrev pub complete : ℕ → Option (List Defined) → Result Reply ℕ
complete start None = Err start
complete start (Some ds) = Ok (model ds)

-- each declared predicate is defined; where a definition is missing, the list is wrong
abbrev pub model_listed : List ℕ → List Pred → ℕ → List Tree → Result Reply ℕ
model_listed text preds start trees = definitions_from text preds [] trees >>= λ ds. complete start (in_order ds 0 preds)

-- the model that a tree spells; a tree that is no list is a fault where it starts
abbrev pub model_of : List ℕ → List Pred → Tree → Result Reply ℕ
model_of text preds (Leaf kind start end) = Err start
model_of text preds (List' shape row start end) = model_listed text preds start (items-the_row-Tree _ row)

-- the steps behind the word derivation; a list that doesn't begin with that word is a fault where it starts
abbrev pub derivation_of : List ℕ → List Pred → ℕ → List Tree → Result (List Line) ℕ
derivation_of text preds start [] = Err start
derivation_of text preds start (word ∷ steps) = provided (is_symbol text word (codes "derivation")) start (read_each (step text preds) [] steps)

-- the steps of the derivation that a tree spells; a tree that is no list is a fault where it starts
abbrev pub derivation : List ℕ → List Pred → Tree → Result (List Line) ℕ
derivation text preds (Leaf kind start end) = Err start
derivation text preds (List' shape row start end) = derivation_of text preds start (items-the_row-Tree _ row)

-- sat or unsat; any other tree claims nothing that can be checked
abbrev pub claim : List ℕ → Tree → Option Bool
claim text tree = if is_symbol text tree (codes "sat") then Some true else if is_symbol text tree (codes "unsat") then Some false else None

-- what stands behind the claim: a model for sat, a derivation for unsat
abbrev pub evidence : List ℕ → List Pred → Bool → Tree → Result Reply ℕ
evidence text preds true tree = model_of text preds tree
evidence text preds false tree = derivation text preds tree >>= λ lines. Ok (refutation lines)

-- where the text has no more trees: its fault, or its end
abbrev pub end_of : List ℕ → Option TextStop → ℕ
end_of text None = length text
end_of text (Some (BadByte offset)) = offset
end_of text (Some (Unclosed offset)) = offset
end_of text (Some (Deep offset)) = offset

-- a rule that is broken there, if any, else what is read
abbrev pub unless_at : {A : Type 0} → Option ℕ → A → Result A ℕ
unless_at None a = Ok a
unless_at (Some offset) a = Err offset

-- where the text has a fault that its trees stop at; nothing where they reach its end
abbrev pub fault_of : List ℕ → Option TextStop → Option ℕ
fault_of text None = None
fault_of text (Some stop) = Some (end_of text (Some stop))

-- what stands behind the two trees, where there should be nothing
abbrev pub behind : List ℕ → Option TextStop → List Tree → Option ℕ
behind text stop [] = fault_of text stop
behind text stop (tree ∷ trees) = Some (start_of tree)

-- the answer behind sat or unsat: one tree and nothing after it; where no tree follows, the fault is at the text's own or at its end
abbrev pub answer_behind : List ℕ → Option TextStop → List Pred → Bool → List Tree → Result Reply ℕ
answer_behind text stop preds sat [] = Err (end_of text stop)
answer_behind text stop preds sat (tree ∷ trees) = evidence text preds sat tree >>= unless_at (behind text stop trees)

-- the answer that the trees of a text spell
abbrev pub reply : List ℕ → Option TextStop → List Pred → List Tree → Result Reply ℕ
reply text stop preds [] = Err (end_of text stop)
reply text stop preds (tree ∷ trees) = said_by tree (claim text tree) >>= λ sat. answer_behind text stop preds sat trees
