-- The parts of each term that a text's commands assert start in the order of the text.
use Rattle.std.proofs.Common.{◌≡◌, ℕ, ◌+◌, List, [], ◌∷◌, ◌++◌, length, Bool, true, false, refl, ap, sym, ◌∙◌, subst}
use Rattle.std.specs.Prelude.{Option, Some, Result, Ok, Err, not, ◌&&◌, if◌then◌else◌, codes}
use Rattle.std.specs.List.{list_all, list_any}
use Rattle.sexp_read.specs.declared.tree.Tree.{Tree, Leaf, List', items-the_row-Tree, items_hidden-the_row-Tree-0}
use Rattle.sexp_read.specs.declared.tree.TextStop.{TextStop}
use Rattle.sexp_read.specs.Trees.{IsTree, leaf, list, AreTrees, none as no_trees, more as more_trees}
use Rattle.term_tree.specs.declared.refusal.Kind.TheVariants.{CommandForm}
use Rattle.term_tree.specs.declared.refusal.Refusal.{Refusal}
use Rattle.term_check.specs.declared.part.Fault.{Fault}
use Rattle.term_check.specs.Rules.{fault, unless}
use Rattle.term_check.specs.Spelling.{◌>>=◌, is_word, scope_of, spelled}
use Rattle.term_check.proofs.Public.{bind_ok, unless_ok}
use Rattle.sort_check.specs.Commands.{Command, alone_fault, assert_fault, assert_term, asserted, assertion, bool_fault, command, declaration, declaration_fault, declare_constant, declare_function, declare_listed, declared, exit, get_model, inform, inform_fault, is_check_sat, is_exit, is_inform, is_set_logic, listed, plain, predicate_named, set_logic, set_logic_fault, worded, check_sat}
use Rattle.sort_check.specs.Commands.Command.{SetLogic, Inform, Declare, Assert, CheckSat, GetModel, Exit}
use Rattle.sort_check.specs.Scripts.{Outcome, after, end_fault, outcome, stops}
use Rattle.clause_readings.specs.Layout.{AreCommandsLaid}
use Rattle.clause_readings.proofs.LaidLemmas.{spelled_laid}

abbrev IsCommandLaid : Command → Type 0
IsCommandLaid c = AreCommandsLaid (c ∷ [])

one_more : (before : List Command) (c : Command) → AreCommandsLaid before → IsCommandLaid c → AreCommandsLaid (before ++ c ∷ [])
one_more [] c h k = k
one_more (Assert at term ∷ before) c h k = (h.0, one_more before c h.1 k)
one_more (SetLogic ∷ before) c h k = one_more before c h k
one_more (Inform ∷ before) c h k = one_more before c h k
one_more (Declare pred ∷ before) c h k = one_more before c h k
one_more (CheckSat ∷ before) c h k = one_more before c h k
one_more (GetModel ∷ before) c h k = one_more before c h k
one_more (Exit ∷ before) c h k = one_more before c h k

allowed : (o : Option Fault) (made c : Command) → IsCommandLaid made → unless o (Ok made) ≡ Ok c → IsCommandLaid c
allowed o made c h is =
    let u = unless_ok o (Ok made) c is in
    let e : made ≡ c = cc in
    subst IsCommandLaid e h

plain_laid : (text : List ℕ) (before : List Command) (start : ℕ) (word : Tree) (parts : List Tree) (c : Command) → plain text before start word parts ≡ Ok c → IsCommandLaid c
plain_laid text before start word parts c is =
    by_word (is_word text word (codes "set-logic")) (is_word text word (codes "set-info")) (is_word text word (codes "set-option")) (is_word text word (codes "check-sat"))
    (is_word text word (codes "get-model")) (is_word text word (codes "exit")) is
  where
    by_word : (l i o s g e : Bool)
        → (if l then set_logic text before start parts
        else if i then inform start parts
        else if o then inform start parts
        else if s then check_sat before start parts
        else if g then get_model before start parts
        else if e then exit start parts
        else Err (fault CommandForm start)) ≡ Ok c
        → IsCommandLaid c
    by_word true i o s g e h = allowed (set_logic_fault text (list_all is_inform before) start parts) SetLogic c tt h
    by_word false true o s g e h = allowed (inform_fault start parts) Inform c tt h
    by_word false false true s g e h = allowed (inform_fault start parts) Inform c tt h
    by_word false false false true g e h = allowed (alone_fault start (list_any is_set_logic before && not (list_any is_check_sat before)) parts) CheckSat c tt h
    by_word false false false false true e h = allowed (alone_fault start (list_any is_check_sat before) parts) GetModel c tt h
    by_word false false false false false true h = allowed (alone_fault start true parts) Exit c tt h
    by_word false false false false false false h = absurd (cc)

declared_laid : (text : List ℕ) (before : List Command) (start : ℕ) (name : Tree) (sorts : List Tree) (result : Tree) (c : Command) → declaration text before start name sorts result ≡ Ok c → IsCommandLaid c
declared_laid text before start name sorts result c is =
    allowed (declaration_fault text (not (list_any is_check_sat before)) (declared before) start name sorts result) (Declare (predicate_named text name sorts)) c tt is

listed_laid : (text : List ℕ) (before : List Command) (start : ℕ) (name sorts result : Tree) (c : Command) → declare_listed text before start name sorts result ≡ Ok c → IsCommandLaid c
listed_laid text before start name (List' shape row from to) result c is = declared_laid text before start name (items-the_row-Tree _ row) result c is
listed_laid text before start name (Leaf kind from to) result c is = absurd (cc)

function_laid : (text : List ℕ) (before : List Command) (start : ℕ) (parts : List Tree) (c : Command) → declare_function text before start parts ≡ Ok c → IsCommandLaid c
function_laid text before start [] c is = absurd (cc)
function_laid text before start (name ∷ []) c is = absurd (cc)
function_laid text before start (name ∷ sorts ∷ []) c is = absurd (cc)
function_laid text before start (name ∷ sorts ∷ result ∷ []) c is = listed_laid text before start name sorts result c is
function_laid text before start (name ∷ sorts ∷ result ∷ more ∷ parts) c is = absurd (cc)

constant_laid : (text : List ℕ) (before : List Command) (start : ℕ) (parts : List Tree) (c : Command) → declare_constant text before start parts ≡ Ok c → IsCommandLaid c
constant_laid text before start [] c is = absurd (cc)
constant_laid text before start (name ∷ []) c is = absurd (cc)
constant_laid text before start (name ∷ result ∷ []) c is = declared_laid text before start name [] result c is
constant_laid text before start (name ∷ result ∷ more ∷ parts) c is = absurd (cc)

assert_laid : (text : List ℕ) (before : List Command) (start depth at : ℕ) (parts : List Tree) (end : ℕ) (c : Command) → AreTrees text depth at parts end → assert_term text before start parts ≡ Ok c → IsCommandLaid c
assert_laid text before start _ _ _ _ c (no_trees depth at) is = absurd (cc)
assert_laid text before start _ _ _ _ c (more_trees depth at term mid _ _ first (no_trees _ _)) is =
    let u = unless_ok (assert_fault (not (list_any is_check_sat before)) (length (asserted before)) start) (spelled text (scope_of (declared before) [] true) 0 term >>= assertion start) c is in
    let s = bind_ok (spelled text (scope_of (declared before) [] true) 0 term) (assertion start) c u.1 in
    allowed (bool_fault s.0.part) (Assert start s.0.term) c ((at, mid, spelled_laid text (scope_of (declared before) [] true) 0 depth at term mid s.0 first s.1), tt) s.2
assert_laid text before start _ _ _ _ c (more_trees depth at term mid _ _ first (more_trees _ _ other _ _ _ _ _)) is = absurd (cc)

worded_laid : (text : List ℕ) (before : List Command) (start depth at : ℕ) (word : Tree) (parts : List Tree) (end : ℕ) (c : Command) → AreTrees text depth at parts end
    → worded text before start word parts ≡ Ok c → IsCommandLaid c
worded_laid text before start depth at word parts end c trees is =
    by_word (is_word text word (codes "assert")) (is_word text word (codes "declare-fun")) (is_word text word (codes "declare-const")) is
  where
    by_word : (a f k : Bool)
        → (if a then assert_term text before start parts else if f then declare_function text before start parts else if k then declare_constant text before start parts
        else plain text before start word parts) ≡ Ok c
        → IsCommandLaid c
    by_word true f k h = assert_laid text before start depth at parts end c trees h
    by_word false true k h = function_laid text before start parts c h
    by_word false false true h = constant_laid text before start parts c h
    by_word false false false h = plain_laid text before start word parts c h

items_laid : (text : List ℕ) (before : List Command) (start depth at : ℕ) (trees : List Tree) (inner : ℕ) (c : Command) → AreTrees text depth at trees inner → listed text before start trees ≡ Ok c → IsCommandLaid c
items_laid text before start _ _ _ _ c (no_trees depth at) is = absurd (cc)
items_laid text before start _ _ _ _ c (more_trees depth at word mid parts inner first later) is = worded_laid text before start depth mid word parts inner c later is

command_laid : (text : List ℕ) (before : List Command) (depth at : ℕ) (tree : Tree) (end : ℕ) (c : Command) → IsTree text depth at tree end → command text before tree ≡ Ok c → IsCommandLaid c
command_laid text before _ _ _ _ c (leaf depth at kind start end h) is = absurd (cc)
command_laid text before _ _ _ _ c (list depth at start items inner close h below within h') is =
    items_laid text before start (depth + 1) (start + 1) items inner c within (sym (ap (listed text before start) (items_hidden-the_row-Tree-0 items)) ∙ is)

pub commands_laid : (text : List ℕ) (stop : Option TextStop) (depth at : ℕ) (trees : List Tree) (end : ℕ) (before commands : List Command) (refusal : Option Refusal) → AreTrees text depth at trees end
    → AreCommandsLaid before → outcome text stop before trees ≡ record { commands = commands; refusal = refusal } → AreCommandsLaid commands
commands_laid text stop _ _ _ _ before commands refusal (no_trees depth at) laid is =
    let e : before ≡ commands = ap (λ (o : Outcome). o.commands) is in subst AreCommandsLaid e laid
commands_laid text stop _ _ _ _ before commands refusal (more_trees depth at tree mid trees end first later) laid is =
    by_command (command text before tree) refl (λ c more h. commands_laid text stop depth mid trees end (before ++ c ∷ []) commands refusal later more h) is
  where
    Goes : Type 0
    Goes = (c : Command) → AreCommandsLaid (before ++ c ∷ []) → outcome text stop (before ++ c ∷ []) trees ≡ record { commands = commands; refusal = refusal } → AreCommandsLaid commands

    by_exit : (c : Command) → command text before tree ≡ Ok c → Goes → (b : Bool)
        → (if b then stops (before ++ c ∷ []) (end_fault text (before ++ c ∷ [])) else outcome text stop (before ++ c ∷ []) trees) ≡ record { commands = commands; refusal = refusal }
        → AreCommandsLaid commands
    by_exit c e goes true h =
        let same : before ++ c ∷ [] ≡ commands = ap (λ (o : Outcome). o.commands) h in
        subst AreCommandsLaid same (one_more before c laid (command_laid text before depth at tree mid c first e))
    by_exit c e goes false h = goes c (one_more before c laid (command_laid text before depth at tree mid c first e)) h

    by_command : (r : Result Command Fault) → command text before tree ≡ r → Goes
        → after r (λ f. stops before (Some f)) (λ c. if is_exit c then stops (before ++ c ∷ []) (end_fault text (before ++ c ∷ [])) else outcome text stop (before ++ c ∷ []) trees)
        ≡ record { commands = commands; refusal = refusal }
        → AreCommandsLaid commands
    by_command (Ok c) e goes h = by_exit c e goes (is_exit c) h
    by_command (Err f) e goes h =
        let same : before ≡ commands = ap (λ (o : Outcome). o.commands) h in subst AreCommandsLaid same laid
