-- How verdicts are printed. Values of an instance are printed as in a derivation, by the sorts of their variables.
use Rattle.std.specs.Prelude.{◌≡◌, ℕ, ◌+◌, suc, List, [], ◌++◌, codes, decimal}
use Rattle.term_tree.specs.declared.script.Script.{Script}
use Rattle.term_tree.specs.declared.sort.Sort.{Sort}
use Rattle.term_tree.specs.Truth.{as_values}
use Rattle.horn_shape.specs.declared.clause.HornClause.{HornClause}
use Rattle.horn_shape.specs.Clause.{IsClauseOf}
use Rattle.answer_text.specs.Names.{spaced, value_text}
use Rattle.chc_checker.specs.declared.verdict.Hidden.{Hidden}
use Rattle.chc_checker.specs.declared.verdict.Hidden.TheVariants.{Assertion, Step as AtStep}
use Rattle.chc_checker.specs.declared.verdict.Place.{Place}
use Rattle.chc_checker.specs.declared.verdict.Place.TheVariants.{Byte, Step, Instance}
use Rattle.chc_checker.specs.declared.verdict.Verdict.{Verdict}
use Rattle.chc_checker.specs.declared.verdict.Verdict.TheVariants.{Valid, Wrong, NotShown}

-- bytes count from the start of the input, of which the answer begins there
abbrev pub place_text : ℕ → List Sort → Place → List ℕ
place_text start sorts (Byte offset) = codes "; byte " ++ decimal (start + offset) ++ codes "\n"
place_text start sorts (Step number) = codes "; step " ++ decimal number ++ codes "\n"
place_text start sorts (Instance number integers) = codes "; assertion " ++ decimal number ++ codes " at (" ++ spaced value_text (as_values sorts integers) ++ codes ")\n"

-- the line that tells at which assertion or step it stays open whether an answer is valid
abbrev pub hidden_text : Hidden → List ℕ
hidden_text (Assertion number) = codes "; assertion " ++ decimal number ++ codes "\n"
hidden_text (AtStep number) = codes "; step " ++ decimal number ++ codes "\n"

-- a verdict as it is printed: one word or two on the first line, and on a second the place, unless it is valid
abbrev pub verdict_text : ℕ → List Sort → Verdict → List ℕ
verdict_text start sorts Valid = codes "valid\n"
verdict_text start sorts (Wrong place) = codes "wrong\n" ++ place_text start sorts place
verdict_text start sorts (NotShown place evidence) = codes "not shown\n" ++ hidden_text place

-- there is an assertion of that number, from 1, with a clause
abbrev pub IsAssertionOf : Script → ℕ → Type 0
IsAssertionOf script number = (index : ℕ) × (clause : HornClause) × (number ≡ suc index) × IsClauseOf script index clause

-- its variables have these sorts
abbrev pub AreSortsOf : Script → ℕ → List Sort → Type 0
AreSortsOf script number sorts = (index : ℕ) × (clause : HornClause) × (number ≡ suc index) × IsClauseOf script index clause × (sorts ≡ clause.vars)

-- the sorts of the variables of the assertion whose instance is told
abbrev pub AreSortsFor : Script → Verdict → List Sort → Type 0
AreSortsFor script (Wrong (Instance number integers)) sorts = AreSortsOf script number sorts
AreSortsFor script _ sorts = sorts ≡ []

-- the one text of a verdict on an answer to the script
abbrev pub IsVerdictText : Script → ℕ → Verdict → List ℕ → Type 0
IsVerdictText script start verdict text = (sorts : List Sort) × AreSortsFor script verdict sorts × (text ≡ verdict_text start sorts verdict)
