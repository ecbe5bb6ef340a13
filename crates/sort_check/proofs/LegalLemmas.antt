-- What is known of the commands of a script, each after those before it.
use Rattle.std.proofs.Common.{◌≡◌, ℕ, ◌<◌, ◌≤◌, List, [], ◌∷◌, ◌++◌, length, Bool, true, false, not, ◌&&◌, refl, sym, ap, subst, ◌∙◌, arith}
use Rattle.std.proofs.lemmas.List.{length-map}
use Rattle.std.specs.Prelude.{Option, None, Some, Result, Ok, Err, codes, if◌then◌else◌}
use Rattle.std.specs.List.{list_any, list_all}
use Rattle.sexp_read.specs.declared.tree.Tree.{Tree, Leaf, List', items-the_row-Tree}
use Rattle.sexp_read.specs.declared.tree.TextStop.{TextStop}
use Rattle.term_tree.specs.declared.refusal.Refusal.{Refusal}
use Rattle.term_tree.specs.declared.script.Pred.{Pred}
use Rattle.term_tree.specs.declared.sort.Sort.{Sort}
use Rattle.term_tree.specs.declared.sort.Sort.TheVariants.{Int as IntSort, Bool as BoolSort}
use Rattle.term_check.specs.declared.part.Part.{Part}
use Rattle.term_check.specs.declared.part.Fault.{Fault}
use Rattle.term_tree.specs.declared.refusal.Kind.TheVariants.{SortMismatch}
use Rattle.term_tree.specs.Sorts.{same_sort}
use Rattle.term_check.specs.Rules.{fault, unless}
use Rattle.term_check.specs.Spelling.{Spelled, spelled, is_word, ◌>>=◌, scope_of, sort_named, sort_or_bool}
use Rattle.term_check.specs.Term.{Term}
use Rattle.term_check.proofs.Public.{bind_ok, unless_ok}
use Rattle.sort_check.specs.Commands.{Command, command, listed, worded, plain, set_logic_fault, inform_fault, alone_fault, declaration, declaration_fault, declare_listed, declare_function, declare_constant, predicate_named, assertion, assert_fault, assert_term, asserted, bool_fault, declared, most_arguments, most_assertions, most_predicates, is_check_sat, is_exit, is_inform, is_set_logic}
use Rattle.sort_check.specs.Commands.Command.{SetLogic, Inform, Declare, Assert, CheckSat, GetModel, Exit}
use Rattle.sort_check.specs.Scripts.{Outcome, outcome, stops, after, end_fault}
use Rattle.sort_check.proofs.RuleLemmas.{asserted_facts, declared_facts}

-- a tree spells the term over the predicates that are declared, and the term is Bool
pub record IsSpelt (text : List ℕ) (preds : List Pred) (term : Term) : Type 0 where
  pub tree : Tree
  pub spelling : Spelled
  pub is : spelled text (scope_of preds [] true) 0 tree ≡ Ok spelling
  pub same : spelling.term ≡ term
  pub sorted : spelling.part.sort ≡ BoolSort

-- a command may stand after these
abbrev pub IsNext : List ℕ → List Command → Command → Type 0
IsNext text before SetLogic = Unit {0}
IsNext text before Inform = Unit {0}
IsNext text before (Declare pred) = (length (declared before) < most_predicates) × (length pred.args ≤ most_arguments)
IsNext text before (Assert at term) = IsSpelt text (declared before) term × (length (asserted before) < most_assertions)
IsNext text before CheckSat = Unit {0}
IsNext text before GetModel = Unit {0}
IsNext text before Exit = Unit {0}

-- commands may stand one after another after these
abbrev pub AreNext : List ℕ → List Command → List Command → Type 0
AreNext text before [] = Unit {0}
AreNext text before (c ∷ commands) = IsNext text before c × AreNext text (before ++ c ∷ []) commands

let_by : (o : Option Fault) (c d : Command) → unless o (Ok c) ≡ Ok d → (o ≡ None) × (c ≡ d)
let_by None c d h = (refl, cc)
let_by (Some f) c d h = absurd (cc)

choose : {A : Type 0} (b : Bool) (x y : Result Command Fault) (d : Command) → (if b then x else y) ≡ Ok d → (x ≡ Ok d → A) → (y ≡ Ok d → A) → A
choose true x y d h f g = f h
choose false x y d h f g = g h

broken : {A : Type 0} (f : Fault) (d : Command) → (let r : Result Command Fault = Err f in r) ≡ Ok d → A
broken f d h = absurd (cc)

bool_by : (sort : Sort) (f : Fault) → (if same_sort sort BoolSort then None else Some f) ≡ None → sort ≡ BoolSort
bool_by IntSort f h = absurd (cc)
bool_by BoolSort f h = refl

bool_is : (part : Part) → bool_fault part ≡ None → part.sort ≡ BoolSort
bool_is part h = bool_by part.sort (fault SortMismatch part.start) h

module _ (text : List ℕ) (before : List Command) where
  given : (o : Option Fault) (c d : Command) → IsNext text before c → unless o (Ok c) ≡ Ok d → IsNext text before d
  given o c d next h = subst (IsNext text before) (let_by o c d h).1 next

  declaration_next : (start : ℕ) (name : Tree) (sorts : List Tree) (result : Tree) (d : Command) → declaration text before start name sorts result ≡ Ok d → IsNext text before d
  declaration_next start name sorts result d h =
      let both = let_by (declaration_fault text (not (list_any is_check_sat before)) (declared before) start name sorts result) (Declare (predicate_named text name sorts)) d h in
      let facts = declared_facts text (not (list_any is_check_sat before)) (declared before) start name sorts result both.0 in
      subst (IsNext text before) both.1 (facts.0, omega (arith, facts.2, length-map sorts (λ sort. sort_or_bool (sort_named text sort))))

  listed_next : (start : ℕ) (name sorts result : Tree) (d : Command) → declare_listed text before start name sorts result ≡ Ok d → IsNext text before d
  listed_next start name (List' shape row from to) result d h = declaration_next start name (items-the_row-Tree _ row) result d h
  listed_next start name (Leaf kind from to) result d h = absurd (cc)

  function_next : (start : ℕ) (parts : List Tree) (d : Command) → declare_function text before start parts ≡ Ok d → IsNext text before d
  function_next start [] d h = absurd (cc)
  function_next start (name ∷ []) d h = absurd (cc)
  function_next start (name ∷ sorts ∷ []) d h = absurd (cc)
  function_next start (name ∷ sorts ∷ result ∷ []) d h = listed_next start name sorts result d h
  function_next start (name ∷ sorts ∷ result ∷ more ∷ parts) d h = absurd (cc)

  constant_next : (start : ℕ) (parts : List Tree) (d : Command) → declare_constant text before start parts ≡ Ok d → IsNext text before d
  constant_next start [] d h = absurd (cc)
  constant_next start (name ∷ []) d h = absurd (cc)
  constant_next start (name ∷ result ∷ []) d h = declaration_next start name [] result d h
  constant_next start (name ∷ result ∷ more ∷ parts) d h = absurd (cc)

  assertion_next : (start : ℕ) (tree : Tree) (s : Spelled) (d : Command) → length (asserted before) < most_assertions → spelled text (scope_of (declared before) [] true) 0 tree ≡ Ok s → assertion start s ≡ Ok d → IsNext text before d
  assertion_next start tree s d few is h =
      let both = let_by (bool_fault s.part) (Assert start s.term) d h in
      subst (IsNext text before) both.1 (record { tree = tree; spelling = s; is = is; same = refl; sorted = bool_is s.part both.0 }, few)

  term_next : (start : ℕ) (parts : List Tree) (d : Command) → assert_term text before start parts ≡ Ok d → IsNext text before d
  term_next start [] d h = absurd (cc)
  term_next start (tree ∷ []) d h =
      let both = unless_ok (assert_fault (not (list_any is_check_sat before)) (length (asserted before)) start) (spelled text (scope_of (declared before) [] true) 0 tree >>= assertion start) d h in
      let found = bind_ok (spelled text (scope_of (declared before) [] true) 0 tree) (assertion start) d both.1 in
      assertion_next start tree found.0 d (asserted_facts (not (list_any is_check_sat before)) (length (asserted before)) start both.0) found.1 found.2
  term_next start (tree ∷ more ∷ parts) d h = absurd (cc)

  plain_next : (start : ℕ) (word : Tree) (parts : List Tree) (d : Command) → plain text before start word parts ≡ Ok d → IsNext text before d
  plain_next start word parts d h =
      choose (is_word text word (codes "set-logic")) _ _ d h (given (set_logic_fault text (list_all is_inform before) start parts) SetLogic d tt)
      (λ a. choose (is_word text word (codes "set-info")) _ _ d a (given (inform_fault start parts) Inform d tt)
      (λ b. choose (is_word text word (codes "set-option")) _ _ d b (given (inform_fault start parts) Inform d tt)
      (λ c. choose (is_word text word (codes "check-sat")) _ _ d c (given (alone_fault start (list_any is_set_logic before && not (list_any is_check_sat before)) parts) CheckSat d tt)
      (λ e. choose (is_word text word (codes "get-model")) _ _ d e (given (alone_fault start (list_any is_check_sat before) parts) GetModel d tt)
      (λ f. choose (is_word text word (codes "exit")) _ _ d f (given (alone_fault start true parts) Exit d tt) (broken _ d))))))

  worded_next : (start : ℕ) (word : Tree) (parts : List Tree) (d : Command) → worded text before start word parts ≡ Ok d → IsNext text before d
  worded_next start word parts d h =
      choose (is_word text word (codes "assert")) _ _ d h (term_next start parts d)
      (λ a. choose (is_word text word (codes "declare-fun")) _ _ d a (function_next start parts d)
      (λ b. choose (is_word text word (codes "declare-const")) _ _ d b (constant_next start parts d) (plain_next start word parts d)))

  row_next : (start : ℕ) (parts : List Tree) (d : Command) → listed text before start parts ≡ Ok d → IsNext text before d
  row_next start [] d h = absurd (cc)
  row_next start (word ∷ parts) d h = worded_next start word parts d h

  -- a legal command
  command_next : (tree : Tree) (d : Command) → command text before tree ≡ Ok d → IsNext text before d
  command_next (Leaf kind start end) d h = absurd (cc)
  command_next (List' shape row start end) d h = row_next start (items-the_row-Tree _ row) d h

joined : (before : List Command) (c : Command) (cs : List Command) → (before ++ c ∷ []) ++ cs ≡ before ++ c ∷ cs
joined [] c cs = refl
joined (b ∷ before) c cs = ap (λ (xs : List Command). b ∷ xs) (joined before c cs)

nothing_more : (before : List Command) → before ≡ before ++ []
nothing_more [] = refl
nothing_more (b ∷ before) = ap (λ (xs : List Command). b ∷ xs) (nothing_more before)

-- the legal commands of a text are these and more, which may stand after them
pub record Follows (text : List ℕ) (before : List Command) (outcome : Outcome) : Type 0 where
  pub more : List Command
  pub whole : outcome.commands ≡ before ++ more
  pub next : AreNext text before more

module _ (text : List ℕ) (stop : Option TextStop) where
  ended : (before : List Command) (c : Command) (fault : Option Fault) → IsNext text before c → Follows text before (stops (before ++ c ∷ []) fault)
  ended before c fault next = record { more = c ∷ []; whole = refl; next = (next, tt) }

  gone_on : (before : List Command) (c : Command) (o : Outcome) → IsNext text before c → Follows text (before ++ c ∷ []) o → Follows text before o
  gone_on before c o next h = record { more = c ∷ h.more; whole = h.whole ∙ joined before c h.more; next = (next, h.next) }

  by_exit : (before : List Command) (c : Command) (b : Bool) (x y : Outcome) → Follows text before x → Follows text before y → Follows text before (if b then x else y)
  by_exit before c true x y f g = f
  by_exit before c false x y f g = g

  step_follows : (before : List Command) (tree : Tree) (trees : List Tree) → ((c : Command) → Follows text (before ++ c ∷ []) (outcome text stop (before ++ c ∷ []) trees))
      → (r : Result Command Fault) → command text before tree ≡ r
      → Follows text before (after r (λ f. stops before (Some f)) (λ c. if is_exit c then stops (before ++ c ∷ []) (end_fault text (before ++ c ∷ [])) else outcome text stop (before ++ c ∷ []) trees))
  step_follows before tree trees rest (Err f) h = record { more = []; whole = nothing_more before; next = tt }
  step_follows before tree trees rest (Ok c) h =
      let next = command_next text before tree c h in by_exit before c (is_exit c) _ _ (ended before c _ next) (gone_on before c _ next (rest c))

  pub outcome_follows : (before : List Command) (trees : List Tree) → Follows text before (outcome text stop before trees)
  outcome_follows before [] = record { more = []; whole = nothing_more before; next = tt }
  outcome_follows before (tree ∷ trees) = step_follows before tree trees (λ c. outcome_follows (before ++ c ∷ []) trees) (command text before tree) refl

-- the commands of a script
pub script_next : (text : List ℕ) (stop : Option TextStop) (trees : List Tree) (commands : List Command) (refusal : Option Refusal)
    → outcome text stop [] trees ≡ record { commands = commands; refusal = refusal } → AreNext text [] commands
script_next text stop trees commands refusal is =
    let h = outcome_follows text stop [] trees in subst (AreNext text []) (sym h.whole ∙ ap (λ (o : Outcome). o.commands) is) h.next
