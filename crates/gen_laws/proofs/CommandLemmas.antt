-- Commands of a generated script, by their trees.
use Rattle.std.proofs.Common.{ℕ, ◌≡◌, ◌+◌, ◌<◌, List, [], ◌∷◌, ◌++◌, length, Bool, true, false, cond, not, ◌&&◌, Option, Some, None, Result, Ok, Err, refl, ap, ◌∙◌, arith, codes, bytes_eq, nat_lt}
use Rattle.std.specs.List.{list_any}
use Rattle.sexp_read.specs.declared.tree.LeafKind.TheVariants.{Symbol}
use Rattle.sexp_read.specs.declared.tree.Tree.{Tree, items_hidden-the_row-Tree-0}
use Rattle.sexp_read.specs.declared.tree.Tree.TheViews.{List as ListTree}
use Rattle.sexp_read.specs.Leaves.{symbol_bytes}
use Rattle.sexp_read.specs.Trees.{most_open}
use Rattle.term_tree.specs.declared.sort.Sort.{Sort}
use Rattle.term_tree.specs.declared.sort.Sort.TheVariants.{Int as IntSort, Bool as BoolSort}
use Rattle.term_tree.specs.declared.script.Pred.{Pred}
use Rattle.term_tree.specs.declared.refusal.Kind.TheVariants.{CommandForm, Logic, SortMismatch, UnknownSort}
use Rattle.term_tree.specs.Sorts.{same_sort}
use Rattle.term_check.specs.declared.part.Part.{Part}
use Rattle.term_check.specs.declared.part.Fault.{Fault}
use Rattle.term_check.specs.Rules.{fault, unless, first_fault}
use Rattle.term_check.specs.Term.{Term}
use Rattle.term_check.specs.Spelling.{Spelled, ◌>>=◌, is_some, is_spelled, is_symbol, name_of, name_or_none, sort_named, sort_or_bool, start_of, spelled, scope_of}
use Rattle.sort_check.specs.Commands.{Command, command, listed, worded, assertion, assert_fault, assert_term, asserted, check_sat, count_fault, declare_constant, declare_function, declare_listed, declaration, declared, exit, form_fault, get_model, inform, is_check_sat, order_fault, set_logic, taken_fault, truth_fault}
use Rattle.sort_check.specs.Commands.Command.{SetLogic, Declare, Assert, CheckSat}
use Rattle.clause_gen.specs.Generated.{generated_preds}
use Rattle.answer_text.proofs.OperatorLemmas.{part_at}
use Rattle.answer_text.proofs.ShowLemmas.{Shows, ShowsRow, FirstAnd, Within, IsLeaf, shows_same, shows_list}
use Rattle.answer_text.proofs.SpellLemmas.{Only, row_last, row_spaced, shows_symbol, IsNamed, shows_bare, named_is}
use Rattle.gen_laws.proofs.BinderLemmas.{Asserted}

-- a command by the bytes of its word
abbrev worded_by : List ℕ → List ℕ → List Command → ℕ → List Tree → Result Command Fault
worded_by word text before start parts =
    cond (bytes_eq word (codes "assert")) (assert_term text before start parts)
    (cond (bytes_eq word (codes "declare-fun")) (declare_function text before start parts)
    (cond (bytes_eq word (codes "declare-const")) (declare_constant text before start parts)
    (cond (bytes_eq word (codes "set-logic")) (set_logic text before start parts)
    (cond (bytes_eq word (codes "set-info")) (inform start parts)
    (cond (bytes_eq word (codes "set-option")) (inform start parts)
    (cond (bytes_eq word (codes "check-sat")) (check_sat before start parts)
    (cond (bytes_eq word (codes "get-model")) (get_model before start parts)
    (cond (bytes_eq word (codes "exit")) (exit start parts) (Err (fault CommandForm start))))))))))

command_is : (word text : List ℕ) (before : List Command) (tree : Tree) (items : List Tree) (start end : ℕ) (first : Tree) (parts : List Tree) → tree ≡ ListTree items start end → items ≡ first ∷ parts
    → IsLeaf Symbol word text first → command text before tree ≡ worded_by word text before start parts
command_is word text before tree items start end first parts at row leaf =
    ap (command text before) at ∙ ap (listed text before start) (items_hidden-the_row-Tree-0 items ∙ row) ∙ ap (λ (w : Tree). worded text before start w parts) leaf.2
    ∙ ap (λ (b : List ℕ). worded_by b text before start parts) leaf.3

-- whatever came before, the tree is this command
abbrev Spells : List Command → Command → List ℕ → Tree → Type 0
Spells before c text tree = command text before tree ≡ Ok c

-- (set-logic HORN)

abbrev pub logic_text : List ℕ
logic_text = codes "(set-logic HORN)"

logic_is : (text : List ℕ) (tree : Tree) → Within (FirstAnd (IsLeaf Symbol (codes "set-logic")) (Only (IsNamed (codes "HORN")))) text tree → Spells [] SetLogic text tree
logic_is text tree (items, start, end, at, (word, parts, row, leaf, (name, none, only, n, last))) =
    let one : parts ≡ name ∷ [] = only ∙ ap (λ (l : List Tree). name ∷ l) last in
    command_is (codes "set-logic") text [] tree items start end word parts at row leaf
    ∙ ap (set_logic text [] start) one
    ∙ ap (λ (o : Option (List ℕ)). unless (first_fault (form_fault name (is_some o)) (first_fault (order_fault start true) (cond (is_spelled o (codes "HORN")) None (Some (fault Logic (start_of name)))))) (Ok SetLogic)) n.5

pub shows_logic : Shows (Spells [] SetLogic) 0 logic_text
shows_logic =
    shows_same (Within (FirstAnd (IsLeaf Symbol (codes "set-logic")) (Only (IsNamed (codes "HORN"))))) (Spells [] SetLogic) 0 logic_text logic_is
    (shows_list (FirstAnd (IsLeaf Symbol (codes "set-logic")) (Only (IsNamed (codes "HORN")))) 0 (codes "set-logic HORN") (omega arith)
    (row_spaced (IsLeaf Symbol (codes "set-logic")) (Only (IsNamed (codes "HORN"))) 1 (codes "set-logic") (codes "HORN") (shows_symbol 1 115 (codes "et-logic") refl refl)
    (row_last (IsNamed (codes "HORN")) 1 (codes "HORN") (shows_bare 1 (codes "HORN") refl refl refl))))

-- (declare-fun node (Int Int) Bool)

abbrev pub declare_text : List ℕ
declare_text = codes "(declare-fun node (Int Int) Bool)"

abbrev pub node_pred : Pred
node_pred = record { name = record { bytes = codes "node" }; args = IntSort ∷ IntSort ∷ [] }

int_is : (text : List ℕ) (tree : Tree) → IsNamed (codes "Int") text tree → sort_named text tree ≡ Some IntSort
int_is text tree n = ap (λ t. cond t (Some IntSort) (cond (is_symbol text tree (codes "Bool")) (Some BoolSort) None)) (named_is (codes "Int") (codes "Int") text tree n)

bool_is : (text : List ℕ) (tree : Tree) → IsNamed (codes "Bool") text tree → sort_named text tree ≡ Some BoolSort
bool_is text tree n =
    ap (λ t. cond t (Some IntSort) (cond (is_symbol text tree (codes "Bool")) (Some BoolSort) None)) (named_is (codes "Bool") (codes "Int") text tree n)
    ∙ ap (λ t. cond t (Some BoolSort) None) (named_is (codes "Bool") (codes "Bool") text tree n)

abbrev Signature : List ℕ → List Tree → Type 0
Signature = FirstAnd (IsNamed (codes "Int")) (Only (IsNamed (codes "Int")))

abbrev Declaration : List ℕ → List Tree → Type 0
Declaration = FirstAnd (IsNamed (codes "node")) (FirstAnd (Within Signature) (Only (IsNamed (codes "Bool"))))

declare_is : (text : List ℕ) (tree : Tree) → Within (FirstAnd (IsLeaf Symbol (codes "declare-fun")) Declaration) text tree → Spells (SetLogic ∷ []) (Declare node_pred) text tree
declare_is text tree (items, start, end, at, (word, parts, row, leaf, (name, r1, e1, n, (sorts, r2, e2, (inner, s, e, is, (a, r3, e3, x, (b, r4, e4, y, last2))), (result, r5, e5, z, last))))) =
    let three : parts ≡ name ∷ sorts ∷ result ∷ [] = e1 ∙ ap (λ (l : List Tree). name ∷ l) (e2 ∙ ap (λ (l : List Tree). sorts ∷ l) (e5 ∙ ap (λ (l : List Tree). result ∷ l) last)) in
    let two : inner ≡ a ∷ b ∷ [] = e3 ∙ ap (λ (l : List Tree). a ∷ l) (e4 ∙ ap (λ (l : List Tree). b ∷ l) last2) in
    let sort_faults : Option Sort → Tree → Option Fault → Option Fault = λ o t rest. first_fault (cond (is_some o) None (Some (fault UnknownSort (start_of t)))) rest in
    let declares : Option (List ℕ) → Option Sort → Option Sort → Option Sort → Result Command Fault =
    λ o p q r. unless (first_fault (form_fault name (is_some o)) (first_fault (order_fault start true) (first_fault (taken_fault [] (start_of name) (name_or_none o))
    (first_fault (sort_faults p a (sort_faults q b None)) (first_fault (count_fault start true) (first_fault (truth_fault result r) (count_fault start true)))))))
    (Ok (Declare (record { name = record { bytes = name_or_none o }; args = sort_or_bool p ∷ sort_or_bool q ∷ [] }))) in
    command_is (codes "declare-fun") text (SetLogic ∷ []) tree items start end word parts at row leaf
    ∙ ap (declare_function text (SetLogic ∷ []) start) three
    ∙ ap (λ (t : Tree). declare_listed text (SetLogic ∷ []) start name t result) is
    ∙ ap (λ (l : List Tree). declaration text (SetLogic ∷ []) start name l result) (items_hidden-the_row-Tree-0 inner ∙ two)
    ∙ ap (λ o. declares o (sort_named text a) (sort_named text b) (sort_named text result)) n.4
    ∙ ap (λ o. declares (Some (codes "node")) o (sort_named text b) (sort_named text result)) (int_is text a x)
    ∙ ap (λ o. declares (Some (codes "node")) (Some IntSort) o (sort_named text result)) (int_is text b y)
    ∙ ap (declares (Some (codes "node")) (Some IntSort) (Some IntSort)) (bool_is text result z)

pub shows_declare : Shows (Spells (SetLogic ∷ []) (Declare node_pred)) 0 declare_text
shows_declare =
    shows_same (Within (FirstAnd (IsLeaf Symbol (codes "declare-fun")) Declaration)) (Spells (SetLogic ∷ []) (Declare node_pred)) 0 declare_text declare_is
    (shows_list (FirstAnd (IsLeaf Symbol (codes "declare-fun")) Declaration) 0 (codes "declare-fun node (Int Int) Bool") (omega arith)
    (row_spaced (IsLeaf Symbol (codes "declare-fun")) Declaration 1 (codes "declare-fun") (codes "node (Int Int) Bool") (shows_symbol 1 100 (codes "eclare-fun") refl refl)
    (row_spaced (IsNamed (codes "node")) (FirstAnd (Within Signature) (Only (IsNamed (codes "Bool")))) 1 (codes "node") (codes "(Int Int) Bool") (shows_bare 1 (codes "node") refl refl refl)
    (row_spaced (Within Signature) (Only (IsNamed (codes "Bool"))) 1 (codes "(Int Int)") (codes "Bool")
    (shows_list Signature 1 (codes "Int Int") (omega arith)
    (row_spaced (IsNamed (codes "Int")) (Only (IsNamed (codes "Int"))) 2 (codes "Int") (codes "Int") (shows_bare 2 (codes "Int") refl refl refl)
    (row_last (IsNamed (codes "Int")) 2 (codes "Int") (shows_bare 2 (codes "Int") refl refl refl))))
    (row_last (IsNamed (codes "Bool")) 1 (codes "Bool") (shows_bare 1 (codes "Bool") refl refl refl))))))

-- (assert ..)

-- behind such commands it asserts a term of which this is so
abbrev pub Asserts : (Term → Type 0) → List ℕ → Tree → Type 0
Asserts P text tree =
    (start : ℕ) × (t : Term) × P t
    × ((before : List Command) → list_any is_check_sat before ≡ false → nat_lt (length (asserted before)) 65536 ≡ true → declared before ≡ generated_preds → command text before tree ≡ Ok (Assert start t))

assert_is : (P : Term → Type 0) (text : List ℕ) (tree : Tree) → Within (FirstAnd (IsLeaf Symbol (codes "assert")) (Only (Asserted P))) text tree → Asserts P text tree
assert_is P text tree (items, start, end, at, (word, parts, row, leaf, (term, none, only, r, last))) = (start, r.found.term, r.holds, by)
  where
    by : (before : List Command) → list_any is_check_sat before ≡ false → nat_lt (length (asserted before)) 65536 ≡ true → declared before ≡ generated_preds → command text before tree ≡ Ok (Assert start r.found.term)
    by before unasked few preds =
        let one : parts ≡ term ∷ [] = only ∙ ap (λ (l : List Tree). term ∷ l) last in
        command_is (codes "assert") text before tree items start end word parts at row leaf
        ∙ ap (assert_term text before start) one
        ∙ ap (λ t. unless (first_fault (order_fault start (not t)) (count_fault start (nat_lt (length (asserted before)) 65536))) (spelled text (scope_of (declared before) [] true) 0 term >>= assertion start)) unasked
        ∙ ap (λ t. unless (count_fault start t) (spelled text (scope_of (declared before) [] true) 0 term >>= assertion start)) few
        ∙ ap (λ (p : List Pred). spelled text (scope_of p [] true) 0 term >>= assertion start) preds
        ∙ ap (λ (o : Result Spelled Fault). o >>= assertion start) r.is
        ∙ ap (λ (p : Part). unless (cond (same_sort p.sort BoolSort) None (Some (fault SortMismatch p.start))) (Ok (Assert start r.found.term))) r.part

abbrev pub assert_text : List ℕ → List ℕ
assert_text term = codes "(" ++ (codes "assert" ++ (codes " " ++ term)) ++ codes ")"

pub shows_assert : (P : Term → Type 0) (term : List ℕ) → Shows (Asserted P) 1 term → Shows (Asserts P) 0 (assert_text term)
shows_assert P term s =
    shows_same (Within (FirstAnd (IsLeaf Symbol (codes "assert")) (Only (Asserted P)))) (Asserts P) 0 (assert_text term) (assert_is P)
    (shows_list (FirstAnd (IsLeaf Symbol (codes "assert")) (Only (Asserted P))) 0 (codes "assert" ++ (codes " " ++ term)) (omega arith)
    (row_spaced (IsLeaf Symbol (codes "assert")) (Only (Asserted P)) 1 (codes "assert") term (shows_symbol 1 97 (codes "ssert") refl refl)
    (row_last (Asserted P) 1 term s)))

-- (check-sat)

abbrev pub check_text : List ℕ
check_text = codes "(check-sat)"

-- behind such commands it is check-sat
abbrev pub Checks : List ℕ → Tree → Type 0
Checks text tree = (before : List Command) → list_any Rattle.sort_check.specs.Commands.is_set_logic before ≡ true → list_any is_check_sat before ≡ false → command text before tree ≡ Ok CheckSat

check_is : (text : List ℕ) (tree : Tree) → Within (Only (IsLeaf Symbol (codes "check-sat"))) text tree → Checks text tree
check_is text tree (items, start, end, at, (word, parts, row, leaf, none)) = λ before logic unasked.
    command_is (codes "check-sat") text before tree items start end word parts at row leaf
    ∙ ap (check_sat before start) none
    ∙ ap (λ t. unless (order_fault start (t && not (list_any is_check_sat before))) (Ok CheckSat)) logic
    ∙ ap (λ t. unless (order_fault start (not t)) (Ok CheckSat)) unasked

pub shows_check : Shows Checks 0 check_text
shows_check =
    shows_same (Within (Only (IsLeaf Symbol (codes "check-sat")))) Checks 0 check_text check_is
    (shows_list (Only (IsLeaf Symbol (codes "check-sat"))) 0 (codes "check-sat") (omega arith)
    (row_last (IsLeaf Symbol (codes "check-sat")) 1 (codes "check-sat") (shows_symbol 1 99 (codes "heck-sat") refl refl)))
