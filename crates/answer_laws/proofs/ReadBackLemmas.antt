-- The printed text of a solution is read as definitions that are a solution.
use Rattle.std.proofs.Common.{◌≡◌, ℕ, zero, suc, ◌+◌, List, [], ◌∷◌, length, refl, ap, sym, ◌∙◌, arith}
use Rattle.std.specs.Prelude.{IsTrue}
use Rattle.std.specs.List.{AllByRecursion}
use Rattle.term_tree.specs.declared.node.Node.{Node}
use Rattle.term_tree.specs.declared.script.Name.{Name}
use Rattle.term_tree.specs.declared.script.Pred.{Pred}
use Rattle.term_tree.specs.declared.script.Script.{Script}
use Rattle.term_tree.specs.declared.definition.Definition.{Definition}
use Rattle.term_tree.specs.Arena.{IsArena}
use Rattle.term_tree.specs.Same.{is_same_tree}
use Rattle.term_tree.specs.Value.{Environment, environment_of, value_of}
use Rattle.term_tree.specs.Agreement.{AgreeEverywhere}
use Rattle.term_tree.specs.Solution.{interpretation_of, DefinesEach, AreFormulas, IsSolution}
use Rattle.answer_text.specs.declared.answer.Answer.TheVariants.{Sat}
use Rattle.answer_text.specs.Read.{Spells}
use Rattle.answer_text.specs.ReadBack.{AreSameDefinitions, IsReadAs, IsStored}
use Rattle.answer_text.proofs.Public.{read_as}
use Rattle.answer_laws.specs.Texts.{IsSatAnswer}
use Rattle.answer_laws.proofs.DeclaredLemmas.{declared_law}
use Rattle.answer_laws.proofs.FormedLemmas.{PlainLaw, read_formed}
use Rattle.answer_laws.proofs.NameLemmas.{HasFewArguments}
use Rattle.answer_laws.proofs.OneModelLemmas.{one_model_law}

-- definitions by formulas, of predicates with few arguments, are such that their text is read back
stored : (number : ℕ) (preds : List Pred) (ds : List Definition) → DefinesEach number preds ds → AreFormulas preds ds → AllByRecursion HasFewArguments preds → AllByRecursion IsStored ds
stored number [] [] each formed few = tt
stored number [] (d ∷ ds) each formed few = absurd each
stored number (p ∷ preds) [] each formed few = absurd each
stored number (p ∷ preds) (d ∷ ds) (is, many, each) (f, formed) (small, few) =
    (record { arena = f.arena; short = omega (arith, many, small) }, stored (number + 1) preds ds each formed few)

-- what is printed under status 0 is read as the same model
pub read_back : (bytes printed : List ℕ) → (h : IsSatAnswer bytes printed) → IsReadAs h.script.preds printed h.definitions
read_back bytes printed h =
    let declared = declared_law bytes h.commands h.script h.is_script h.spelled in
    read_as h.script.preds h.definitions printed declared.names (stored 0 h.script.preds h.definitions h.solution.defined h.solution.formed declared.few) h.answer

defines_same : (number : ℕ) (preds : List Pred) (ds es : List Definition) → DefinesEach number preds ds → AreSameDefinitions ds es → DefinesEach number preds es
defines_same number [] [] [] each same = tt
defines_same number [] [] (e ∷ es) each same = absurd same
defines_same number [] (d ∷ ds) es each same = absurd each
defines_same number (p ∷ preds) [] es each same = absurd each
defines_same number (p ∷ preds) (d ∷ ds) [] each same = absurd same
defines_same number (p ∷ preds) (d ∷ ds) (e ∷ es) (is, many, each) (s, same) =
    (sym s.pred ∙ is, ap (λ (names : List Name). length names) (sym s.params) ∙ many, defines_same (number + 1) preds ds es each same)

module _ (same_value : (nodes others : List Node) (id other : ℕ) (env : Environment) → IsArena nodes → IsArena others → IsTrue (is_same_tree nodes id others other) → value_of nodes id env ≡ value_of others other env) where
  -- equal terms give equal values
  agree : (number : ℕ) (preds : List Pred) (ds es : List Definition) → DefinesEach number preds ds → AreFormulas preds ds → AreFormulas preds es → AreSameDefinitions ds es
      → AgreeEverywhere (interpretation_of ds) (interpretation_of es)
  agree number [] [] [] each formed others same zero values = refl
  agree number [] [] [] each formed others same (suc pred) values = refl
  agree number [] [] (e ∷ es) each formed others same pred values = absurd same
  agree number [] (d ∷ ds) es each formed others same pred values = absurd each
  agree number (p ∷ preds) [] es each formed others same pred values = absurd each
  agree number (p ∷ preds) (d ∷ ds) [] each formed others same pred values = absurd same
  agree number (p ∷ preds) (d ∷ ds) (e ∷ es) each formed others same zero values =
      same_value d.terms.nodes e.terms.nodes d.body.0 e.body.0 (environment_of values) formed.0.arena others.0.arena same.0.term
  agree number (p ∷ preds) (d ∷ ds) (e ∷ es) each formed others same (suc pred) values = agree (number + 1) preds ds es each.2 formed.1 others.1 same.1 pred values

  module _ (still : (script : Script) (old new : List Definition) → AgreeEverywhere (interpretation_of old) (interpretation_of new) → DefinesEach 0 script.preds new → AreFormulas script.preds new
      → IsSolution script old → IsSolution script new) where
    -- what is read as the same definitions as a solution is one
    solved_by : PlainLaw → (script : Script) (text : List ℕ) (ds es : List Definition) → IsSolution script ds → AreSameDefinitions ds es → Spells script.preds text (Sat es) → IsSolution script es
    solved_by plain_law script text ds es solution same spells =
        let preds = script.preds in
        let formed = read_formed plain_law text preds ds es solution.formed same spells in
        still script ds es (agree 0 preds ds es solution.defined solution.formed formed same) (defines_same 0 preds ds es solution.defined same) formed solution

    pub solved : PlainLaw → (bytes printed : List ℕ) → (h : IsSatAnswer bytes printed) → (es : List Definition) → Spells h.script.preds printed (Sat es) → IsSolution h.script es
    solved plain_law bytes printed h es spells = solved_by plain_law h.script printed h.definitions es h.solution ((read_back bytes printed h).same (Sat es) spells) spells

    pub all_solved : PlainLaw → (script : Script) (text : List ℕ) (ds es : List Definition) → IsSolution script ds → Spells script.preds text (Sat ds) → Spells script.preds text (Sat es) → IsSolution script es
    all_solved plain_law script text ds es solution one two = solved_by plain_law script text ds es solution (one_model_law script.preds text ds (Sat es) one two) two
