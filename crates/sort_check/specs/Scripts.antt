-- Which texts are scripts, which script each spells, and the one refusal of every other text (SMT-LIB 2.6, section 3.9).
use Rattle.std.specs.Prelude.{◌≡◌, ℕ, ◌+◌, ◌<◌, ◌≤◌, List, [], ◌∷◌, ◌++◌, length, Option, None, Some, Result, Ok, Err, if◌then◌else◌, ◌≢◌, IfSome}
use Rattle.std.specs.List.{list_any}
use Rattle.base.specs.Limits.{most_bytes}
use Rattle.sexp_read.specs.declared.tree.Tree.{Tree}
use Rattle.sexp_read.specs.declared.tree.TextStop.{TextStop}
use Rattle.sexp_read.specs.declared.tree.TextStop.TheVariants.{BadByte as BadByteStop, Unclosed as UnclosedStop, Deep as DeepStop}
use Rattle.sexp_read.specs.Trees.{IsReading}
use Rattle.term_tree.specs.Arena.{Arena, IsArena}
use Rattle.term_tree.specs.declared.script.Assertion.{Assertion}
use Rattle.term_tree.specs.declared.script.Script.{Script}
use Rattle.term_tree.specs.declared.refusal.Refusal.{Refusal}
use Rattle.term_tree.specs.declared.refusal.Kind.TheVariants.{TooLong, BadByte, Unclosed, Deep, NoCheckSat}
use Rattle.term_check.specs.declared.part.Fault.{Fault}
use Rattle.term_check.specs.Rules.{fault}
use Rattle.term_check.specs.Term.{IsTermAt}
use Rattle.sort_check.specs.Commands.{Command, command, declared, is_check_sat, is_exit}
use Rattle.sort_check.specs.Commands.Command.{SetLogic, Inform, Declare, Assert, CheckSat, GetModel, Exit}

-- the legal commands of a text, and the refusal behind them, if there is one
pub record Outcome : Type 0 where
  pub commands : List Command
  pub refusal : Option Refusal

-- the refusal for a fault, with the number of legal commands before it; nothing without a fault
abbrev pub refusal_of_fault : List Command → Option Fault → Option Refusal
refusal_of_fault before None = None
refusal_of_fault before (Some f) = Some (record { kind = f.kind; offset = f.offset; command = length before })

-- the outcome of a text that is read no further: these commands, and the refusal for the fault, if there is one
abbrev pub stops : List Command → Option Fault → Outcome
stops before f = record { commands = before; refusal = refusal_of_fault before f }

-- where all commands are legal, one of them is check-sat
abbrev pub end_fault : List ℕ → List Command → Option Fault
end_fault text commands = if list_any is_check_sat commands then None else Some (fault NoCheckSat (length text))

-- a fault of the text's trees is one of the command that it stands in
abbrev pub stop_fault : List ℕ → Option TextStop → List Command → Option Fault
stop_fault text None commands = end_fault text commands
stop_fault text (Some (BadByteStop offset)) commands = Some (fault BadByte offset)
stop_fault text (Some (UnclosedStop offset)) commands = Some (fault Unclosed offset)
stop_fault text (Some (DeepStop offset)) commands = Some (fault Deep offset)

-- what follows from the command if it is legal, else what follows from its fault
abbrev pub after : {X : Type 0} → Result Command Fault → (Fault → X) → (Command → X) → X
after (Ok c) broken legal = legal c
after (Err f) broken legal = broken f

-- the trees behind these commands, one command after another: up to exit, or the first that is illegal, or the text's fault or end
abbrev pub outcome : List ℕ → Option TextStop → List Command → List Tree → Outcome
outcome text stop before [] = stops before (stop_fault text stop before)
outcome text stop before (tree ∷ trees) =
    after (command text before tree) (λ f. stops before (Some f)) (λ c. if is_exit c then stops (before ++ c ∷ []) (end_fault text (before ++ c ∷ [])) else outcome text stop (before ++ c ∷ []) trees)

-- the text is these commands
pub record IsScript (text : List ℕ) (commands : List Command) : Type 0 where
  pub short : length text ≤ most_bytes
  pub trees : List Tree
  pub stop : Option TextStop
  pub reading : IsReading text trees stop
  pub legal : outcome text stop [] trees ≡ record { commands = commands; refusal = None }

-- the refusal of a text that is no script
pub data IsRefused (text : List ℕ) (refusal : Refusal) : Type 0 where
  too_long : most_bytes < length text → refusal ≡ record { kind = TooLong; offset = most_bytes; command = 0 } → IsRefused text refusal
  illegal : (commands : List Command) (trees : List Tree) (stop : Option TextStop) → length text ≤ most_bytes → IsReading text trees stop
      → outcome text stop [] trees ≡ record { commands = commands; refusal = Some refusal } → IsRefused text refusal

-- the assertions are those among these commands, of which the first has this number
abbrev pub AreAsserted : Arena → ℕ → List Assertion → List Command → Type 0
AreAsserted terms number assertions [] = assertions ≡ []
AreAsserted terms number assertions (Assert at term ∷ commands) =
    (a : Assertion) × (rest : List Assertion) × (assertions ≡ a ∷ rest) × (a.offset ≡ at) × (a.command ≡ number) × IsTermAt terms [] term a.term.0 × AreAsserted terms (number + 1) rest commands
AreAsserted terms number assertions (SetLogic ∷ commands) = AreAsserted terms (number + 1) assertions commands
AreAsserted terms number assertions (Inform ∷ commands) = AreAsserted terms (number + 1) assertions commands
AreAsserted terms number assertions (Declare pred ∷ commands) = AreAsserted terms (number + 1) assertions commands
AreAsserted terms number assertions (CheckSat ∷ commands) = AreAsserted terms (number + 1) assertions commands
AreAsserted terms number assertions (GetModel ∷ commands) = AreAsserted terms (number + 1) assertions commands
AreAsserted terms number assertions (Exit ∷ commands) = AreAsserted terms (number + 1) assertions commands

-- the script that commands spell; its terms are named by number, which tells terms only where each node stands after its parts
pub record IsScriptOf (commands : List Command) (script : Script) : Type 0 where
  pub arena : IsArena script.terms.nodes
  pub preds : script.preds ≡ declared commands
  pub asserts : AreAsserted script.terms 0 script.asserts commands

-- where the refusal isn't that the bytes are too many, all of them were read
abbrev pub ReadsInput : Option (List ℕ) → List ℕ → Refusal → Type 0
ReadsInput left read refusal = refusal.kind ≢ TooLong → IfSome left (λ bytes. read ≡ bytes)
