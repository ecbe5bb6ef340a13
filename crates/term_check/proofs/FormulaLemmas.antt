-- Readers before anything is read, and formulas.
use Rattle.std.proofs.Common.{◌≡◌, ◌<◌, ◌+◌, ◌++◌, ◌^◌, ℕ, List, [], ◌∷◌, true, false, refl, sym, ap, ◌∙◌, subst, arith}
use Rattle.std.specs.Prelude.{Result, Err, IsErrOf}
use Rattle.term_tree.specs.declared.sort.Sort.{Sort}
use Rattle.term_tree.specs.declared.script.Name.{Name}
use Rattle.term_tree.specs.Arena.{Arena}
use Rattle.term_tree.specs.declared.script.Pred.{Pred}
use Rattle.term_check.specs.declared.check.FormulaStop.{FormulaStop}
use Rattle.term_check.specs.declared.check.FormulaStop.TheVariants.{Memory as OutOfMemory, Bad}
use Rattle.term_check.specs.declared.scope.Named.{Named}
use Rattle.term_check.specs.machinery.Known.{Known, IsReady, are_lets_below}
use Rattle.term_check.specs.Formula.{params_from}
use Rattle.term_check.specs.Spelling.{SpellingScope, lets_in, scope_of}
use Rattle.term_check.specs.Found.{IsAligned}
use Rattle.term_check.specs.Term.{Term}
use Rattle.term_check.specs.machinery.TellsFormula.{TellsFormula}

pub ready_at_first : (known : Known) (text : List ℕ) (scope : SpellingScope) (arena : Arena) (next room : ℕ) → known ≡ record { text = text; scope = scope; lets = [] } → lets_in scope.names ≡ 0 → are_lets_below 0 scope.names ≡ true
    → IsAligned arena → next + room < 2 ^ 32 → IsReady known arena next room
ready_at_first known text scope arena next room is none below aligned fits = subst (λ (k : Known). IsReady k arena next room) (sym is) (record {
  aligned = aligned;
  numbered = none;
  bound = below;
  below = refl;
  variables = fits;
  terms = omega (arith, fits);
})

pub no_lets : (number : ℕ) (params : List (Name × Sort)) → lets_in (params_from number params) ≡ 0
no_lets number [] = refl
no_lets number (param ∷ params) = no_lets (number + 1) params

pub no_lets_below : (number : ℕ) (params : List (Name × Sort)) → are_lets_below 0 (params_from number params) ≡ true
no_lets_below number [] = refl
no_lets_below number (param ∷ params) = no_lets_below (number + 1) params

pub reader_is : (known : Known) (text : List ℕ) (preds : List Pred) (names before : List Named) (params : List (Name × Sort)) → known ≡ record { text = text; scope = scope_of preds names false; lets = [] }
    → preds ≡ [] → names ≡ before ++ params_from 0 params → before ≡ [] → known ≡ record { text = text; scope = scope_of [] (params_from 0 params) false; lets = [] }
reader_is known text preds names before params is none all empty =
    is ∙ ap (λ (ps : List Pred). record { text = text; scope = scope_of ps names false; lets = [] }) none
    ∙ ap (λ (ns : List Named). record { text = text; scope = scope_of [] ns false; lets = [] }) (all ∙ ap (λ (ns : List Named). ns ++ params_from 0 params) empty)

pub no_formula : {A : Type 0} (outcome : Result Term ℕ) (arena : Arena) (stop : FormulaStop) (offset : ℕ) → TellsFormula outcome arena (Err stop) → IsErrOf {T = A} (Err stop) (Bad offset) → outcome ≡ Err offset
no_formula outcome arena OutOfMemory offset h is = absurd (cc)
no_formula outcome arena (Bad at) offset h is = let same : at ≡ offset = cc in h ∙ ap Err same
