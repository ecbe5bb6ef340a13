-- The state with one command more.
use Rattle.std.proofs.Common.{◌≡◌, ℕ, ◌+◌, List, [], ◌∷◌, ◌++◌, length, Bool, true, false, not, ◌&&◌, ◌||◌, refl, sym, ap, subst, ◌∙◌, arith, length-append}
use Rattle.std.proofs.lemmas.List.Folds.{list_any-append, list_all-append}
use Rattle.std.proofs.lemmas.Grind.{flat_map-append}
use Rattle.std.specs.Prelude.{Option, None, Some, Result, Ok, Err}
use Rattle.std.specs.List.{list_any, list_all, flat_map}
use Rattle.term_tree.specs.Arena.{Arena}
use Rattle.term_tree.specs.declared.script.Pred.{Pred}
use Rattle.term_tree.specs.declared.script.Assertion.{Assertion}
use Rattle.term_check.specs.declared.part.Fault.{Fault}
use Rattle.term_check.specs.Rules.{unless}
use Rattle.term_check.specs.Found.{IsAligned, Keeps}
use Rattle.term_check.specs.Term.{Term, IsTermAt}
use Rattle.term_check.proofs.Public.{term_stays}
use Rattle.sexp_read.specs.declared.tree.Tree.{Tree}
use Rattle.term_check.specs.Spelling.{Spelled, spelled, ◌>>=◌, scope_of}
use Rattle.sort_check.specs.Commands.{assertion, assert_fault, assert_term, Command, declares, declared, asserts, asserted, is_set_logic, is_inform, is_check_sat, is_exit}
use Rattle.sort_check.specs.Commands.Command.{SetLogic, Inform, Declare, Assert, CheckSat, GetModel, Exit}
use Rattle.sort_check.specs.Scripts.{AreAsserted}
use Rattle.sort_check.specs.State.{IsState, Took}
use Rattle.sort_check.specs.declared.state.State.{State}

pub and_false : (b : Bool) → (b && false) ≡ false
and_false true = refl
and_false false = refl

pub and_true : (b : Bool) → (b && true) ≡ b
and_true true = refl
and_true false = refl

pub or_false : (b : Bool) → (b || false) ≡ b
or_false true = refl
or_false false = refl

pub or_true : (b : Bool) → (b || true) ≡ true
or_true true = refl
or_true false = refl

pub append_nothing : {X : Type 0} (xs : List X) → xs ++ [] ≡ xs
append_nothing [] = refl
append_nothing (x ∷ xs) = ap (λ ys. x ∷ ys) (append_nothing xs)

-- the assertions stay where they are as the arena grows
pub assertions_stay : (old new : Arena) (number : ℕ) (assertions : List Assertion) (commands : List Command) → Keeps old new → AreAsserted old number assertions commands → AreAsserted new number assertions commands
assertions_stay old new number assertions [] keeps h = h
assertions_stay old new number assertions (SetLogic ∷ cs) keeps h = assertions_stay old new (number + 1) assertions cs keeps h
assertions_stay old new number assertions (Inform ∷ cs) keeps h = assertions_stay old new (number + 1) assertions cs keeps h
assertions_stay old new number assertions (Declare pred ∷ cs) keeps h = assertions_stay old new (number + 1) assertions cs keeps h
assertions_stay old new number assertions (CheckSat ∷ cs) keeps h = assertions_stay old new (number + 1) assertions cs keeps h
assertions_stay old new number assertions (GetModel ∷ cs) keeps h = assertions_stay old new (number + 1) assertions cs keeps h
assertions_stay old new number assertions (Exit ∷ cs) keeps h = assertions_stay old new (number + 1) assertions cs keeps h
assertions_stay old new number assertions (Assert at term ∷ cs) keeps h =
    (h.0, h.1, h.2, h.3, h.4, term_stays old new keeps [] term h.0.term.0 h.5, assertions_stay old new (number + 1) h.1 cs keeps h.6)

-- a command that asserts nothing
assertions_pass : (terms : Arena) (number : ℕ) (assertions : List Assertion) (cs : List Command) (c : Command) → asserts c ≡ [] → AreAsserted terms number assertions cs → AreAsserted terms number assertions (cs ++ c ∷ [])
assertions_pass terms number assertions [] SetLogic none h = h
assertions_pass terms number assertions [] Inform none h = h
assertions_pass terms number assertions [] (Declare pred) none h = h
assertions_pass terms number assertions [] CheckSat none h = h
assertions_pass terms number assertions [] GetModel none h = h
assertions_pass terms number assertions [] Exit none h = h
assertions_pass terms number assertions [] (Assert at term) none h = absurd (cc)
assertions_pass terms number assertions (SetLogic ∷ cs) c none h = assertions_pass terms (number + 1) assertions cs c none h
assertions_pass terms number assertions (Inform ∷ cs) c none h = assertions_pass terms (number + 1) assertions cs c none h
assertions_pass terms number assertions (Declare pred ∷ cs) c none h = assertions_pass terms (number + 1) assertions cs c none h
assertions_pass terms number assertions (CheckSat ∷ cs) c none h = assertions_pass terms (number + 1) assertions cs c none h
assertions_pass terms number assertions (GetModel ∷ cs) c none h = assertions_pass terms (number + 1) assertions cs c none h
assertions_pass terms number assertions (Exit ∷ cs) c none h = assertions_pass terms (number + 1) assertions cs c none h
assertions_pass terms number assertions (Assert at term ∷ cs) c none h = (h.0, h.1, h.2, h.3, h.4, h.5, assertions_pass terms (number + 1) h.1 cs c none h.6)

-- one more assertion
assertions_join : (terms : Arena) (number : ℕ) (assertions : List Assertion) (cs : List Command) (at : ℕ) (term : Term) (a : Assertion) → a.offset ≡ at → a.command ≡ number + length cs → IsTermAt terms [] term a.term.0
    → AreAsserted terms number assertions cs → AreAsserted terms number (assertions ++ a ∷ []) (cs ++ Assert at term ∷ [])
assertions_join terms number assertions [] at term a offset count is h = (a, [], ap (λ (xs : List Assertion). xs ++ a ∷ []) h, offset, count ∙ omega arith, is, refl)
assertions_join terms number assertions (SetLogic ∷ cs) at term a offset count is h = assertions_join terms (number + 1) assertions cs at term a offset (count ∙ omega arith) is h
assertions_join terms number assertions (Inform ∷ cs) at term a offset count is h = assertions_join terms (number + 1) assertions cs at term a offset (count ∙ omega arith) is h
assertions_join terms number assertions (Declare pred ∷ cs) at term a offset count is h = assertions_join terms (number + 1) assertions cs at term a offset (count ∙ omega arith) is h
assertions_join terms number assertions (CheckSat ∷ cs) at term a offset count is h = assertions_join terms (number + 1) assertions cs at term a offset (count ∙ omega arith) is h
assertions_join terms number assertions (GetModel ∷ cs) at term a offset count is h = assertions_join terms (number + 1) assertions cs at term a offset (count ∙ omega arith) is h
assertions_join terms number assertions (Exit ∷ cs) at term a offset count is h = assertions_join terms (number + 1) assertions cs at term a offset (count ∙ omega arith) is h
assertions_join terms number assertions (Assert place t ∷ cs) at term a offset count is h =
    (h.0, h.1 ++ a ∷ [], ap (λ (xs : List Assertion). xs ++ a ∷ []) h.2, h.3, h.4, h.5, assertions_join terms (number + 1) h.1 cs at term a offset (count ∙ omega arith) is h.6)

-- what becomes of the flags
pub record Flags (c : Command) (old new : State) : Type 0 where
  pub commands : new.commands ≡ old.commands + 1
  pub silent : new.is_silent ≡ (old.is_silent && list_all is_inform (c ∷ []))
  pub logic : new.has_logic ≡ (old.has_logic || list_any is_set_logic (c ∷ []))
  pub checked : new.is_checked ≡ (old.is_checked || list_any is_check_sat (c ∷ []))
  pub over : new.is_over ≡ (old.is_over || list_any is_exit (c ∷ []))

-- a command that asserts nothing was taken up
pub one_more : (before : List Command) (c : Command) (old new : State) → IsState before old → Flags c old new → asserts c ≡ [] → new.signature ≡ old.signature ++ flat_map declares (c ∷ []) → new.terms ≡ old.terms → new.asserts.items ≡ old.asserts.items
    → IsState (before ++ c ∷ []) new
one_more before c old new h f none signature terms same = record {
  commands = f.commands ∙ ap (λ (n : ℕ). n + 1) h.commands ∙ sym (length-append before (c ∷ []));
  silent = f.silent ∙ ap (λ (b : Bool). b && list_all is_inform (c ∷ [])) h.silent ∙ sym (list_all-append is_inform before (c ∷ []));
  logic = f.logic ∙ ap (λ (b : Bool). b || list_any is_set_logic (c ∷ [])) h.logic ∙ sym (list_any-append is_set_logic before (c ∷ []));
  checked = f.checked ∙ ap (λ (b : Bool). b || list_any is_check_sat (c ∷ [])) h.checked ∙ sym (list_any-append is_check_sat before (c ∷ []));
  over = f.over ∙ ap (λ (b : Bool). b || list_any is_exit (c ∷ [])) h.over ∙ sym (list_any-append is_exit before (c ∷ []));
  declared = signature ∙ ap (λ (ps : List Pred). ps ++ flat_map declares (c ∷ [])) h.declared ∙ sym (flat_map-append declares before (c ∷ []));
  count = ap length same ∙ h.count ∙ ap length (sym (flat_map-append asserts before (c ∷ []) ∙ ap (λ (ts : List Term). asserted before ++ (ts ++ [])) none ∙ append_nothing (asserted before)));
  aligned = subst IsAligned (sym terms) h.aligned;
  asserted = subst (λ (a : Arena). AreAsserted a 0 new.asserts.items (before ++ c ∷ [])) (sym terms) (subst (λ (xs : List Assertion). AreAsserted old.terms 0 xs (before ++ c ∷ [])) (sym same) (assertions_pass old.terms 0 old.asserts.items before c none h.asserted));
}

-- a command that neither asserts nor declares
pub one_plain : (before : List Command) (c : Command) (old new : State) → IsState before old → Flags c old new → asserts c ≡ [] → declares c ≡ [] → new.signature ≡ old.signature → new.terms ≡ old.terms → new.asserts.items ≡ old.asserts.items
    → IsState (before ++ c ∷ []) new
one_plain before c old new h f none undeclared signature terms same =
    one_more before c old new h f none (signature ∙ sym (ap (λ (ps : List Pred). old.signature ++ (ps ++ [])) undeclared ∙ append_nothing old.signature)) terms same

-- an assertion was taken up
pub one_assertion : (before : List Command) (at : ℕ) (term : Term) (a : Assertion) (old new : State) → IsState before old → Flags (Assert at term) old new → new.signature ≡ old.signature → new.terms ≡ old.terms → new.asserts.items ≡ old.asserts.items ++ a ∷ []
    → a.offset ≡ at → a.command ≡ old.commands → IsTermAt old.terms [] term a.term.0 → IsState (before ++ Assert at term ∷ []) new
one_assertion before at term a old new h f signature terms items offset command is =
    let c : Command = Assert at term in
    record {
      commands = f.commands ∙ ap (λ (n : ℕ). n + 1) h.commands ∙ sym (length-append before (c ∷ []));
      silent = f.silent ∙ ap (λ (b : Bool). b && list_all is_inform (c ∷ [])) h.silent ∙ sym (list_all-append is_inform before (c ∷ []));
      logic = f.logic ∙ ap (λ (b : Bool). b || list_any is_set_logic (c ∷ [])) h.logic ∙ sym (list_any-append is_set_logic before (c ∷ []));
      checked = f.checked ∙ ap (λ (b : Bool). b || list_any is_check_sat (c ∷ [])) h.checked ∙ sym (list_any-append is_check_sat before (c ∷ []));
      over = f.over ∙ ap (λ (b : Bool). b || list_any is_exit (c ∷ [])) h.over ∙ sym (list_any-append is_exit before (c ∷ []));
      declared = signature ∙ h.declared ∙ sym (flat_map-append declares before (c ∷ []) ∙ append_nothing (declared before));
      count = ap length items ∙ length-append old.asserts.items (a ∷ []) ∙ ap (λ (n : ℕ). n + 1) h.count ∙ sym (length-append (asserted before) (term ∷ [])) ∙ ap length (sym (flat_map-append asserts before (c ∷ [])));
      aligned = subst IsAligned (sym terms) h.aligned;
      asserted = subst (λ (t : Arena). AreAsserted t 0 new.asserts.items (before ++ c ∷ [])) (sym terms) (subst (λ (xs : List Assertion). AreAsserted old.terms 0 xs (before ++ c ∷ [])) (sym items)
          (assertions_join old.terms 0 old.asserts.items before at term a offset (command ∙ h.commands ∙ omega arith) is h.asserted));
    }

-- a rule that isn't broken lets the command through
pub let_through : (before : List Command) (fault : Option Fault) (c : Command) (state : State) → fault ≡ None → IsState (before ++ c ∷ []) state → Took before (unless fault (Ok c)) None state
let_through before fault c state is h = subst (λ (f : Option Fault). Took before (unless f (Ok c)) None state) (sym is) h

-- the state stays that of its commands as terms are added that no command asserts
pub grown : (before : List Command) (old new : State) → IsState before old → Keeps old.terms new.terms → new ≡ record old { terms = new.terms } → IsState before new
grown before old new h keeps same = record {
  commands = ap (λ (s : State). s.commands) same ∙ h.commands;
  silent = ap (λ (s : State). s.is_silent) same ∙ h.silent;
  logic = ap (λ (s : State). s.has_logic) same ∙ h.logic;
  checked = ap (λ (s : State). s.is_checked) same ∙ h.checked;
  over = ap (λ (s : State). s.is_over) same ∙ h.over;
  declared = ap (λ (s : State). s.signature) same ∙ h.declared;
  count = ap (λ (s : State). length s.asserts.items) same ∙ h.count;
  aligned = keeps.aligned h.aligned;
  asserted = subst (λ (xs : List Assertion). AreAsserted new.terms 0 xs before) (sym (ap (λ (s : State). s.asserts.items) same)) (assertions_stay old.terms new.terms 0 old.asserts.items before keeps h.asserted);
}

-- what becomes of an assertion whose term was read
pub asserted_term : (text : List ℕ) (before : List Command) (start : ℕ) (term : Tree) (old : State) (s : Spelled) (fault : Option Fault) (state : State) → IsState before old → assert_fault (not old.is_checked) (length old.asserts.items) start ≡ None
    → spelled text (scope_of old.signature [] true) 0 term ≡ Ok s → Took before (assertion start s) fault state → Took before (assert_term text before start (term ∷ [])) fault state
asserted_term text before start term old s fault state h free is took =
    let first : assert_fault (not (list_any is_check_sat before)) (length (asserted before)) start ≡ None =
    ap (λ (b : Bool). assert_fault (not b) (length (asserted before)) start) (sym h.checked) ∙ ap (λ (n : ℕ). assert_fault (not old.is_checked) n start) (sym h.count) ∙ free in
    let same : spelled text (scope_of (declared before) [] true) 0 term ≡ Ok s = ap (λ (ps : List Pred). spelled text (scope_of ps [] true) 0 term) (sym h.declared) ∙ is in
    subst (λ (r : Result Command Fault). Took before r fault state)
    (sym (ap (λ (f : Option Fault). unless f (spelled text (scope_of (declared before) [] true) 0 term >>= assertion start)) first ∙ ap (λ (r : Result Spelled Fault). r >>= assertion start) same)) took

-- what becomes of one whose term breaks a rule
pub refused_term : (text : List ℕ) (before : List Command) (start : ℕ) (term : Tree) (old : State) (f : Fault) (state : State) → IsState before old → assert_fault (not old.is_checked) (length old.asserts.items) start ≡ None
    → spelled text (scope_of old.signature [] true) 0 term ≡ Err f → IsState before state → Took before (assert_term text before start (term ∷ [])) (Some f) state
refused_term text before start term old f state h free is held =
    let first : assert_fault (not (list_any is_check_sat before)) (length (asserted before)) start ≡ None =
    ap (λ (b : Bool). assert_fault (not b) (length (asserted before)) start) (sym h.checked) ∙ ap (λ (n : ℕ). assert_fault (not old.is_checked) n start) (sym h.count) ∙ free in
    let same : spelled text (scope_of (declared before) [] true) 0 term ≡ Err f = ap (λ (ps : List Pred). spelled text (scope_of ps [] true) 0 term) (sym h.declared) ∙ is in
    subst (λ (r : Result Command Fault). Took before r (Some f) state)
    (sym (ap (λ (g : Option Fault). unless g (spelled text (scope_of (declared before) [] true) 0 term >>= assertion start)) first ∙ ap (λ (r : Result Spelled Fault). r >>= assertion start) same)) (refl, held)
