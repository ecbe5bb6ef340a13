-- The names of a script's predicates can be printed and read back, and its predicates have few arguments.
use Rattle.std.proofs.Common.{◌≡◌, ℕ, List, [], ◌∷◌, ◌++◌, length, Bool, true, false, not, ◌&&◌, refl, sym, ap, subst, ◌∙◌, append-nil}
use Rattle.std.proofs.lemmas.Grind.{flat_map-append}
use Rattle.std.specs.Prelude.{Option, None, Some, Result, Ok, Err, codes, if◌then◌else◌}
use Rattle.std.specs.List.{list_any, list_all, AllByRecursion}
use Rattle.sexp_read.specs.declared.tree.Tree.{Tree, Leaf, List', items-the_row-Tree}
use Rattle.sexp_read.specs.declared.tree.TextStop.{TextStop}
use Rattle.term_tree.specs.declared.script.Pred.{Pred}
use Rattle.term_tree.specs.declared.script.Script.{Script}
use Rattle.term_check.specs.declared.part.Fault.{Fault}
use Rattle.term_check.specs.Rules.{unless}
use Rattle.term_check.specs.Spelling.{◌>>=◌, is_word, spelled, scope_of}
use Rattle.term_check.proofs.Public.{bind_ok, unless_ok}
use Rattle.sort_check.specs.Commands.{Command, alone_fault, assert_fault, assert_term, asserted, assertion, bool_fault, command, declaration, declaration_fault, declare_constant, declare_function, declare_listed, declared, declares, inform_fault, is_check_sat, is_exit, is_inform, is_set_logic, listed, plain, predicate_named, set_logic_fault, worded}
use Rattle.sort_check.specs.Commands.Command.{SetLogic, Inform, Declare, Assert, CheckSat, GetModel, Exit}
use Rattle.sort_check.specs.Scripts.{IsScript, IsScriptOf, Outcome, after, end_fault, outcome, stops}
use Rattle.answer_text.specs.ReadBack.{AreNames}
use Rattle.answer_laws.proofs.NameLemmas.{AreDeclared, declared_joins}
use Rattle.answer_laws.proofs.SymbolLemmas.{HasQuotable, HoldsQuotable, commands_quotable}

choose : {A : Type 0} (b : Bool) (x y : Result Command Fault) (d : Command) → (if b then x else y) ≡ Ok d → (x ≡ Ok d → A) → (y ≡ Ok d → A) → A
choose true x y d h f g = f h
choose false x y d h f g = g h

broken : {A : Type 0} (f : Fault) (d : Command) → (let r : Result Command Fault = Err f in r) ≡ Ok d → A
broken f d h = absurd (cc)

legal : (o : Option Fault) (c d : Command) → unless o (Ok c) ≡ Ok d → (o ≡ None) × (c ≡ d)
legal None c d h = (refl, cc)
legal (Some f) c d h = absurd (cc)

module _ (text : List ℕ) (before : List Command) (names : AreDeclared (declared before)) where
  -- with this command the predicates are still such
  abbrev Stays : Command → Type 0
  Stays c = AreDeclared (declared (before ++ c ∷ []))

  abbrev AreQuotable : List Tree → Type 0
  AreQuotable trees = AllByRecursion (HasQuotable text) trees

  -- a command that declares nothing
  passes : (o : Option Fault) (c d : Command) → declares c ≡ [] → unless o (Ok c) ≡ Ok d → Stays d
  passes o c d is h =
      let same : declared (before ++ c ∷ []) ≡ declared before =
      flat_map-append declares before (c ∷ []) ∙ ap (λ (ps : List Pred). declared before ++ (ps ++ [])) is ∙ append-nil (declared before) in
      subst Stays (legal o c d h).1 (subst AreDeclared (sym same) names)

  declaration_stays : (start : ℕ) (name : Tree) (sorts : List Tree) (result : Tree) (d : Command) → HasQuotable text name → declaration text before start name sorts result ≡ Ok d → Stays d
  declaration_stays start name sorts result d quotable h =
      let may : Bool = not (list_any is_check_sat before) in
      let c : Command = Declare (predicate_named text name sorts) in
      let both = legal (declaration_fault text may (declared before) start name sorts result) c d h in
      subst Stays both.1 (subst AreDeclared (sym (flat_map-append declares before (c ∷ []))) (declared_joins text may (declared before) start name sorts result names quotable both.0))

  listed_stays : (start : ℕ) (name sorts result : Tree) (d : Command) → HasQuotable text name → declare_listed text before start name sorts result ≡ Ok d → Stays d
  listed_stays start name (List' shape row from to) result d quotable h = declaration_stays start name (items-the_row-Tree _ row) result d quotable h
  listed_stays start name (Leaf kind from to) result d quotable h = absurd (cc)

  function_stays : (start : ℕ) (parts : List Tree) (d : Command) → AreQuotable parts → declare_function text before start parts ≡ Ok d → Stays d
  function_stays start [] d quotable h = absurd (cc)
  function_stays start (name ∷ []) d quotable h = absurd (cc)
  function_stays start (name ∷ sorts ∷ []) d quotable h = absurd (cc)
  function_stays start (name ∷ sorts ∷ result ∷ []) d quotable h = listed_stays start name sorts result d quotable.0 h
  function_stays start (name ∷ sorts ∷ result ∷ more ∷ parts) d quotable h = absurd (cc)

  constant_stays : (start : ℕ) (parts : List Tree) (d : Command) → AreQuotable parts → declare_constant text before start parts ≡ Ok d → Stays d
  constant_stays start [] d quotable h = absurd (cc)
  constant_stays start (name ∷ []) d quotable h = absurd (cc)
  constant_stays start (name ∷ result ∷ []) d quotable h = declaration_stays start name [] result d quotable.0 h
  constant_stays start (name ∷ result ∷ more ∷ parts) d quotable h = absurd (cc)

  term_stays : (start : ℕ) (parts : List Tree) (d : Command) → assert_term text before start parts ≡ Ok d → Stays d
  term_stays start [] d h = absurd (cc)
  term_stays start (tree ∷ []) d h =
      let both = unless_ok (assert_fault (not (list_any is_check_sat before)) (length (asserted before)) start) (spelled text (scope_of (declared before) [] true) 0 tree >>= assertion start) d h in
      let found = bind_ok (spelled text (scope_of (declared before) [] true) 0 tree) (assertion start) d both.1 in
      let s = found.0 in
      passes (bool_fault s.part) (Assert start s.term) d refl found.2
  term_stays start (tree ∷ more ∷ parts) d h = absurd (cc)

  plain_stays : (start : ℕ) (word : Tree) (parts : List Tree) (d : Command) → plain text before start word parts ≡ Ok d → Stays d
  plain_stays start word parts d h =
      choose (is_word text word (codes "set-logic")) _ _ d h (passes (set_logic_fault text (list_all is_inform before) start parts) SetLogic d refl)
      (λ a. choose (is_word text word (codes "set-info")) _ _ d a (passes (inform_fault start parts) Inform d refl)
      (λ b. choose (is_word text word (codes "set-option")) _ _ d b (passes (inform_fault start parts) Inform d refl)
      (λ c. choose (is_word text word (codes "check-sat")) _ _ d c (passes (alone_fault start (list_any is_set_logic before && not (list_any is_check_sat before)) parts) CheckSat d refl)
      (λ e. choose (is_word text word (codes "get-model")) _ _ d e (passes (alone_fault start (list_any is_check_sat before) parts) GetModel d refl)
      (λ f. choose (is_word text word (codes "exit")) _ _ d f (passes (alone_fault start true parts) Exit d refl) (broken _ d))))))

  worded_stays : (start : ℕ) (word : Tree) (parts : List Tree) (d : Command) → AreQuotable parts → worded text before start word parts ≡ Ok d → Stays d
  worded_stays start word parts d quotable h =
      choose (is_word text word (codes "assert")) _ _ d h (term_stays start parts d)
      (λ a. choose (is_word text word (codes "declare-fun")) _ _ d a (function_stays start parts d quotable)
      (λ b. choose (is_word text word (codes "declare-const")) _ _ d b (constant_stays start parts d quotable) (plain_stays start word parts d)))

  row_stays : (start : ℕ) (parts : List Tree) (d : Command) → AreQuotable parts → listed text before start parts ≡ Ok d → Stays d
  row_stays start [] d quotable h = absurd (cc)
  row_stays start (word ∷ parts) d quotable h = worded_stays start word parts d quotable.1 h

  command_stays : (tree : Tree) (d : Command) → HoldsQuotable text tree → command text before tree ≡ Ok d → Stays d
  command_stays (Leaf kind start end) d quotable h = absurd (cc)
  command_stays (List' shape row start end) d quotable h = row_stays start (items-the_row-Tree _ row) d quotable h

-- the legal commands of a text declare such predicates
abbrev Declares : Outcome → Type 0
Declares o = AreDeclared (declared o.commands)

module _ (text : List ℕ) (stop : Option TextStop) where
  by_exit : (b : Bool) (x y : Outcome) → Declares x → Declares y → Declares (if b then x else y)
  by_exit true x y h k = h
  by_exit false x y h k = k

  step_declares : (before : List Command) (tree : Tree) (trees : List Tree) → AreDeclared (declared before) → HoldsQuotable text tree
      → ((c : Command) → AreDeclared (declared (before ++ c ∷ [])) → Declares (outcome text stop (before ++ c ∷ []) trees)) → (r : Result Command Fault) → command text before tree ≡ r
      → Declares (after r (λ f. stops before (Some f)) (λ c. if is_exit c then stops (before ++ c ∷ []) (end_fault text (before ++ c ∷ [])) else outcome text stop (before ++ c ∷ []) trees))
  step_declares before tree trees names quotable rest (Err f) h = names
  step_declares before tree trees names quotable rest (Ok c) h = let more = command_stays text before names tree c quotable h in by_exit (is_exit c) _ _ more (rest c more)

  outcome_declares : (before : List Command) (trees : List Tree) → AreDeclared (declared before) → AllByRecursion (HoldsQuotable text) trees → Declares (outcome text stop before trees)
  outcome_declares before [] names quotable = names
  outcome_declares before (tree ∷ trees) names quotable =
      step_declares before tree trees names quotable.0 (λ c more. outcome_declares (before ++ c ∷ []) trees more quotable.1) (command text before tree) refl

none_declared : AreDeclared []
none_declared = record { names = record { symbols = tt; differ = λ k p is. absurd (cc); free = tt }; few = tt }

pub declared_law : (text : List ℕ) (commands : List Command) (script : Script) → IsScript text commands → IsScriptOf commands script → AreDeclared script.preds
declared_law text commands script s h =
    let same : (outcome text s.stop [] s.trees).commands ≡ commands = ap (λ (o : Outcome). o.commands) s.legal in
    subst AreDeclared (ap declared same ∙ sym h.preds) (outcome_declares text s.stop [] s.trees none_declared (commands_quotable text 0 0 s.trees s.reading.0 s.reading.1))

pub names_law : (text : List ℕ) (commands : List Command) (script : Script) → IsScript text commands → IsScriptOf commands script → AreNames script.preds
names_law text commands script s h = (declared_law text commands script s h).names
