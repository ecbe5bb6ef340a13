-- The commands of a script (SMT-LIB 2.6, section 3.9, as scripts of constrained Horn clauses use them), and whether a tree is one
-- after the commands before it, or which rule it breaks first. Inside a command its form comes first, then its order, then the
-- names, sorts and counts of a declaration from left to right, then the term of an assertion.
--   (set-logic HORN)                       once, before the first declaration, assertion or check-sat
--   (set-info :k) (set-info :k tree)       anywhere, without effect; set-option the same
--   (declare-fun name (sort ..) Bool)      before check-sat
--   (declare-const name Bool)              the same without arguments
--   (assert term)                          before check-sat
--   (check-sat)                            once, after set-logic
--   (get-model)                            after check-sat
--   (exit)                                 ends the script
use Rattle.std.specs.Prelude.{ℕ, List, [], ◌∷◌, length, map, take, Bool, true, false, not, ◌&&◌, ◌||◌, nat_lt, Option, None, Some, Result, Ok, Err, if◌then◌else◌, codes}
use Rattle.std.specs.List.{list_any, list_all, flat_map}
use Rattle.std.specs.Str.{bytes_eq}
pub use Rattle.base.specs.Limits.{most_arguments, most_assertions, most_predicates}
use Rattle.sexp_read.specs.declared.tree.LeafKind.TheVariants.{Keyword}
use Rattle.sexp_read.specs.declared.tree.Tree.{Tree, Leaf, List', items-the_row-Tree}
use Rattle.sexp_read.specs.Leaves.{symbol_bytes}
use Rattle.term_tree.specs.declared.sort.Sort.{Sort}
use Rattle.term_tree.specs.declared.sort.Sort.TheVariants.{Int as IntSort, Bool as BoolSort}
use Rattle.term_tree.specs.declared.script.Pred.{Pred}
use Rattle.term_tree.specs.declared.refusal.Kind.TheVariants.{CommandForm, Order, Logic, UnknownSort, Redeclared, SortMismatch, Count}
use Rattle.term_tree.specs.Sorts.{same_sort}
use Rattle.term_check.specs.declared.part.Part.{Part}
use Rattle.term_check.specs.declared.part.Fault.{Fault}
use Rattle.term_check.specs.Operators.{operator_named}
use Rattle.term_check.specs.Rules.{fault, unless, first_fault}
use Rattle.term_check.specs.Term.{Term}
use Rattle.term_check.specs.Spelling.{Spelled, ◌>>=◌, is_word, is_symbol, is_some, name_of, name_or_none, sort_named, sort_or_bool, start_of, pred_from, spelled, scope_of}

-- An assertion has the offset of its command.
pub data Command : Type 0 where
  SetLogic : Command
  Inform : Command
  Declare : Pred → Command
  Assert : ℕ → Term → Command
  CheckSat : Command
  GetModel : Command
  Exit : Command

-- What the commands so far say.

-- the command chooses the logic
abbrev pub is_set_logic : Command → Bool
is_set_logic SetLogic = true
is_set_logic _ = false

-- the command is set-info or set-option, which have no effect
abbrev pub is_inform : Command → Bool
is_inform Inform = true
is_inform _ = false

-- the command asks whether the assertions are satisfiable
abbrev pub is_check_sat : Command → Bool
is_check_sat CheckSat = true
is_check_sat _ = false

-- the command ends the script
abbrev pub is_exit : Command → Bool
is_exit Exit = true
is_exit _ = false

-- the predicate of a declare-fun or declare-const; none of any other command
abbrev pub declares : Command → List Pred
declares (Declare pred) = pred ∷ []
declares _ = []

-- the predicates that commands declare, in order
abbrev pub declared : List Command → List Pred
declared commands = flat_map declares commands

-- the term of an assertion; none of any other command
abbrev pub asserts : Command → List Term
asserts (Assert at term) = term ∷ []
asserts _ = []

-- the terms that they assert, in order
abbrev pub asserted : List Command → List Term
asserted commands = flat_map asserts commands

-- Rules that several commands share.

-- a fault of order where the command starts, unless it may stand where it stands
abbrev pub order_fault : ℕ → Bool → Option Fault
order_fault start allowed = if allowed then None else Some (fault Order start)

-- a fault of form where the tree starts, unless it has the form that is asked for
abbrev pub form_fault : Tree → Bool → Option Fault
form_fault tree formed = if formed then None else Some (fault CommandForm (start_of tree))

-- a fault of number where the command starts, unless the number is within its limit
abbrev pub count_fault : ℕ → Bool → Option Fault
count_fault start within = if within then None else Some (fault Count start)

-- (set-logic HORN); fresh: there were no other commands than set-info and set-option

-- a fault where the logic's name starts, unless it is HORN, the one logic that is read
abbrev pub logic_fault : List ℕ → Tree → Option Fault
logic_fault text name = if is_symbol text name (codes "HORN") then None else Some (fault Logic (start_of name))

-- the first fault of a set-logic: the form of its one argument, the command's order, then the logic
abbrev pub set_logic_fault : List ℕ → Bool → ℕ → List Tree → Option Fault
set_logic_fault text fresh start (name ∷ []) = first_fault (form_fault name (is_some (symbol_bytes text name))) (first_fault (order_fault start fresh) (logic_fault text name))
set_logic_fault text fresh start _ = Some (fault CommandForm start)

-- (set-info :k), (set-info :k tree), and set-option

-- the tree is a keyword (SMT-LIB 2.6, section 3.1)
abbrev pub is_keyword : Tree → Bool
is_keyword (Leaf Keyword start end) = true
is_keyword _ = false

-- a keyword with one tree behind it at most, whatever that tree is
abbrev pub is_information : List Tree → Bool
is_information (key ∷ []) = is_keyword key
is_information (key ∷ value ∷ []) = is_keyword key
is_information _ = false

-- a fault of form where the set-info or set-option starts, unless its arguments are a keyword and a tree at most
abbrev pub inform_fault : ℕ → List Tree → Option Fault
inform_fault start parts = if is_information parts then None else Some (fault CommandForm start)

-- (declare-fun name (sort ..) Bool); allowed: there was no check-sat

-- a name of the theories Core and Ints
abbrev pub is_theory_name : List ℕ → Bool
is_theory_name name = bytes_eq name (codes "true") || bytes_eq name (codes "false") || is_some (operator_named name)

-- a fault where the name starts, if it is a theory's or an earlier declaration's
abbrev pub taken_fault : List Pred → ℕ → List ℕ → Option Fault
taken_fault preds start name = if is_theory_name name || is_some (pred_from 0 name preds) then Some (fault Redeclared start) else None

-- a fault where the tree starts, unless it is Int or Bool
abbrev pub unknown_sort_fault : List ℕ → Tree → Option Fault
unknown_sort_fault text sort = if is_some (sort_named text sort) then None else Some (fault UnknownSort (start_of sort))

-- the first that is no sort
abbrev pub sorts_fault : List ℕ → List Tree → Option Fault
sorts_fault text [] = None
sorts_fault text (sort ∷ sorts) = first_fault (unknown_sort_fault text sort) (sorts_fault text sorts)

-- a fault where the result starts, unless its sort is Bool: the wrong sort for Int, else one that is unknown
abbrev pub truth_fault : Tree → Option Sort → Option Fault
truth_fault result (Some BoolSort) = None
truth_fault result (Some IntSort) = Some (fault SortMismatch (start_of result))
truth_fault result None = Some (fault UnknownSort (start_of result))

-- a predicate's result is Bool
abbrev pub result_fault : List ℕ → Tree → Option Fault
result_fault text result = truth_fault result (sort_named text result)

-- The sorts past the 256th are not looked at: they are too many.
abbrev pub signature_fault : List ℕ → List Pred → ℕ → List Tree → Tree → Option Fault
signature_fault text preds start sorts result =
    first_fault (sorts_fault text (take most_arguments sorts)) (first_fault (count_fault start (not (nat_lt most_arguments (length sorts))))
    (first_fault (result_fault text result) (count_fault start (nat_lt (length preds) most_predicates))))

-- the first fault of a declaration: the form of its name, the command's order, a name that is taken, then its sorts
abbrev pub declaration_fault : List ℕ → Bool → List Pred → ℕ → Tree → List Tree → Tree → Option Fault
declaration_fault text allowed preds start name sorts result =
    first_fault (form_fault name (is_some (name_of text name))) (first_fault (order_fault start allowed)
    (first_fault (taken_fault preds (start_of name) (name_or_none (name_of text name))) (signature_fault text preds start sorts result)))

-- the sorts of a legal declaration's arguments; a tree that is no sort stands for Bool here
abbrev pub sorts_named : List ℕ → List Tree → List Sort
sorts_named text sorts = map (λ sort. sort_or_bool (sort_named text sort)) sorts

-- the predicate of a legal declaration, with its name and the sorts of its arguments
abbrev pub predicate_named : List ℕ → Tree → List Tree → Pred
predicate_named text name sorts = record { name = record { bytes = name_or_none (name_of text name) }; args = sorts_named text sorts }

-- the predicate's declaration, which stands before check-sat, or its first fault
abbrev pub declaration : List ℕ → List Command → ℕ → Tree → List Tree → Tree → Result Command Fault
declaration text before start name sorts result =
    unless (declaration_fault text (not (list_any is_check_sat before)) (declared before) start name sorts result) (Ok (Declare (predicate_named text name sorts)))

-- a declare-fun with its argument sorts in a list; any other tree there is a fault of form where the command starts
abbrev pub declare_listed : List ℕ → List Command → ℕ → Tree → Tree → Tree → Result Command Fault
declare_listed text before start name (List' shape row from to) result = declaration text before start name (items-the_row-Tree _ row) result
declare_listed text before start name (Leaf kind from to) result = Err (fault CommandForm start)

-- a declare-fun by its arguments; any other number than three is a fault of form where it starts
abbrev pub declare_function : List ℕ → List Command → ℕ → List Tree → Result Command Fault
declare_function text before start (name ∷ sorts ∷ result ∷ []) = declare_listed text before start name sorts result
declare_function text before start _ = Err (fault CommandForm start)

-- a declare-const by its two arguments, a predicate without any; another number is a fault of form where it starts
abbrev pub declare_constant : List ℕ → List Command → ℕ → List Tree → Result Command Fault
declare_constant text before start (name ∷ result ∷ []) = declaration text before start name [] result
declare_constant text before start _ = Err (fault CommandForm start)

-- (assert term)

-- a fault where the assertion starts: one of order unless it is allowed, then one of number if there are too many
abbrev pub assert_fault : Bool → ℕ → ℕ → Option Fault
assert_fault allowed count start = first_fault (order_fault start allowed) (count_fault start (nat_lt count most_assertions))

-- an assertion is Bool
abbrev pub bool_fault : Part → Option Fault
bool_fault part = if same_sort part.sort BoolSort then None else Some (fault SortMismatch part.start)

-- the assertion of a term that is read, unless the term isn't Bool
abbrev pub assertion : ℕ → Spelled → Result Command Fault
assertion start s = unless (bool_fault s.part) (Ok (Assert start s.term))

-- an assertion by its one argument, a closed term over the predicates declared so far, or its first fault
abbrev pub assert_term : List ℕ → List Command → ℕ → List Tree → Result Command Fault
assert_term text before start (term ∷ []) =
    unless (assert_fault (not (list_any is_check_sat before)) (length (asserted before)) start) (spelled text (scope_of (declared before) [] true) 0 term >>= assertion start)
assert_term text before start _ = Err (fault CommandForm start)

-- (check-sat), (get-model), (exit)

-- a command without arguments: a fault of form where it starts if it has some, then one of order unless it is allowed
abbrev pub alone_fault : ℕ → Bool → List Tree → Option Fault
alone_fault start allowed [] = order_fault start allowed
alone_fault start allowed (part ∷ parts) = Some (fault CommandForm start)

-- The commands, each behind its word.

-- a set-logic by its arguments, with only set-info and set-option before it, or its first fault
abbrev pub set_logic : List ℕ → List Command → ℕ → List Tree → Result Command Fault
set_logic text before start parts = unless (set_logic_fault text (list_all is_inform before) start parts) (Ok SetLogic)

-- a set-info or set-option by its arguments, which may stand anywhere, or its fault
abbrev pub inform : ℕ → List Tree → Result Command Fault
inform start parts = unless (inform_fault start parts) (Ok Inform)

-- a check-sat, which stands once and after set-logic, or its fault
abbrev pub check_sat : List Command → ℕ → List Tree → Result Command Fault
check_sat before start parts = unless (alone_fault start (list_any is_set_logic before && not (list_any is_check_sat before)) parts) (Ok CheckSat)

-- a get-model, which stands after check-sat, more than once if wanted, or its fault
abbrev pub get_model : List Command → ℕ → List Tree → Result Command Fault
get_model before start parts = unless (alone_fault start (list_any is_check_sat before) parts) (Ok GetModel)

-- an exit, which may stand anywhere, or its fault
abbrev pub exit : ℕ → List Tree → Result Command Fault
exit start parts = unless (alone_fault start true parts) (Ok Exit)

-- those without names and terms
abbrev pub plain : List ℕ → List Command → ℕ → Tree → List Tree → Result Command Fault
plain text before start word parts =
    if is_word text word (codes "set-logic") then set_logic text before start parts
    else if is_word text word (codes "set-info") then inform start parts
    else if is_word text word (codes "set-option") then inform start parts
    else if is_word text word (codes "check-sat") then check_sat before start parts
    else if is_word text word (codes "get-model") then get_model before start parts
    else if is_word text word (codes "exit") then exit start parts
    else Err (fault CommandForm start)

-- the command of that word with its arguments; a word of no command is a fault of form where the command starts
abbrev pub worded : List ℕ → List Command → ℕ → Tree → List Tree → Result Command Fault
worded text before start word parts =
    if is_word text word (codes "assert") then assert_term text before start parts
    else if is_word text word (codes "declare-fun") then declare_function text before start parts
    else if is_word text word (codes "declare-const") then declare_constant text before start parts
    else plain text before start word parts

-- the command that the trees of a list spell; an empty list is a fault of form where it starts
abbrev pub listed : List ℕ → List Command → ℕ → List Tree → Result Command Fault
listed text before start [] = Err (fault CommandForm start)
listed text before start (word ∷ parts) = worded text before start word parts

-- the command that a tree spells after these
abbrev pub command : List ℕ → List Command → Tree → Result Command Fault
command text before (Leaf kind start end) = Err (fault CommandForm start)
command text before (List' shape row start end) = listed text before start (items-the_row-Tree _ row)
