-- What is kept of the commands so far, and what becomes of it with one command more.
use Rattle.std.specs.Prelude.{◌≡◌, List, [], ◌∷◌, ◌++◌, length, Option, None, Some, Result, Ok, Err}
use Rattle.std.specs.List.{list_any, list_all}
use Rattle.term_check.specs.declared.part.Fault.{Fault}
use Rattle.term_check.specs.Found.{IsAligned}
use Rattle.sort_check.specs.Commands.{Command, declared, asserted, is_set_logic, is_inform, is_check_sat, is_exit}
use Rattle.sort_check.specs.Scripts.{AreAsserted}
use Rattle.sort_check.specs.declared.state.State.{State}

-- the state holds what these commands say
pub record IsState (before : List Command) (state : State) : Type 0 where
  pub commands : state.commands ≡ length before
  pub silent : state.is_silent ≡ list_all is_inform before
  pub logic : state.has_logic ≡ list_any is_set_logic before
  pub checked : state.is_checked ≡ list_any is_check_sat before
  pub over : state.is_over ≡ list_any is_exit before
  pub declared : state.signature ≡ declared before
  pub count : length state.asserts.items ≡ length (asserted before)
  pub aligned : IsAligned state.terms
  pub asserted : AreAsserted state.terms 0 state.asserts.items before

-- the command was taken up, or broke this rule
abbrev pub Took : List Command → Result Command Fault → Option Fault → State → Type 0
Took before (Ok c) None state = IsState (before ++ c ∷ []) state
Took before (Err f) (Some g) state = (f ≡ g) × IsState before state
Took before (Ok c) (Some g) state = ⊥
Took before (Err f) None state = ⊥
