-- Every assertion is a legal term over the declared predicates.
use Rattle.std.proofs.Common.{◌≡◌, ℕ, ◌+◌, List, [], ◌∷◌, ◌++◌, true, sym, ap, subst, ◌∙◌}
use Rattle.std.proofs.lemmas.List.{append_assoc}
use Rattle.std.proofs.lemmas.Grind.{flat_map-append}
use Rattle.std.specs.Prelude.{Option}
use Rattle.std.specs.List.{AllByRecursion}
use Rattle.sexp_read.specs.declared.tree.Tree.{Tree}
use Rattle.sexp_read.specs.declared.tree.TextStop.{TextStop}
use Rattle.term_tree.specs.declared.sort.Sort.{Sort}
use Rattle.term_tree.specs.declared.sort.Sort.TheVariants.{Bool as BoolSort}
use Rattle.term_tree.specs.declared.script.Pred.{Pred}
use Rattle.term_tree.specs.declared.script.Assertion.{Assertion}
use Rattle.term_tree.specs.declared.refusal.Checked.{Checked}
use Rattle.term_tree.specs.Arena.{Arena, IsArena}
use Rattle.term_tree.specs.Legal.{IsLegal}
use Rattle.term_check.specs.Spelling.{scope_of}
use Rattle.term_check.specs.Term.{Term, IsTermAt}
use Rattle.term_check.proofs.Public.{spelled_legal}
use Rattle.sort_check.specs.Commands.{Command, declared, declares}
use Rattle.sort_check.specs.Commands.Command.{SetLogic, Inform, Declare, Assert, CheckSat, GetModel, Exit}
use Rattle.sort_check.specs.Checked.{IsChecked}
use Rattle.sort_check.specs.Properties.{IsLegalAssertion}
use Rattle.sort_check.specs.Scripts.{AreAsserted}
use Rattle.sort_check.proofs.GrowthLemmas.{legal_grows}
use Rattle.sort_check.proofs.NodeLemmas.{term_within}
use Rattle.sort_check.proofs.LegalLemmas.{IsSpelt, AreNext, script_next}
use Rattle.sort_check.proofs.StateLemmas.{append_nothing}

-- what one command more declares
declared_on : (before cs : List Command) (c : Command) → declared before ++ declared (c ∷ cs) ≡ declared (before ++ c ∷ []) ++ declared cs
declared_on before cs c =
    sym (append_assoc (declared before) (declares c) (declared cs))
    ∙ ap (λ (ps : List Pred). ps ++ declared cs) (ap (λ (ps : List Pred). declared before ++ ps) (sym (append_nothing (declares c))) ∙ sym (flat_map-append declares before (c ∷ [])))

module _ (text : List ℕ) (all : List Pred) (terms : Arena) (arena : IsArena terms.nodes) where
  abbrev Legal : Assertion → Type 0
  Legal a = IsLegal all terms.nodes [] BoolSort a.term.0

  spelt_legal : (preds more : List Pred) (term : Term) (id : ℕ) → all ≡ preds ++ more → IsSpelt text preds term → IsTermAt terms [] term id → IsLegal all terms.nodes [] BoolSort id
  spelt_legal preds more term id is h at =
      let legal = spelled_legal text (scope_of preds [] true) [] h.tree h.spelling terms id arena tt h.is (subst (λ (t : Term). IsTermAt terms [] t id) (sym h.same) at) in
      subst (λ (ps : List Pred). IsLegal ps terms.nodes [] BoolSort id) (sym is)
      (legal_grows preds more terms.nodes [] BoolSort id arena (term_within terms [] term id at) (subst (λ (s : Sort). IsLegal preds terms.nodes [] s id) h.sorted legal))

  all_legal : (before cs : List Command) (number : ℕ) (asserts : List Assertion) → all ≡ declared before ++ declared cs → AreNext text before cs → AreAsserted terms number asserts cs → AllByRecursion Legal asserts
  all_legal before [] number asserts is next h = subst (AllByRecursion Legal) (sym h) tt
  all_legal before (Assert at term ∷ cs) number asserts is next h =
      subst (AllByRecursion Legal) (sym h.2)
      (spelt_legal (declared before) (declared (Assert at term ∷ cs)) term h.0.term.0 is next.0.0 h.5, all_legal (before ++ Assert at term ∷ []) cs (number + 1) h.1 (is ∙ declared_on before cs (Assert at term)) next.1 h.6)
  all_legal before (Declare pred ∷ cs) number asserts is next h = all_legal (before ++ Declare pred ∷ []) cs (number + 1) asserts (is ∙ declared_on before cs (Declare pred)) next.1 h
  all_legal before (SetLogic ∷ cs) number asserts is next h = all_legal (before ++ SetLogic ∷ []) cs (number + 1) asserts (is ∙ declared_on before cs SetLogic) next.1 h
  all_legal before (Inform ∷ cs) number asserts is next h = all_legal (before ++ Inform ∷ []) cs (number + 1) asserts (is ∙ declared_on before cs Inform) next.1 h
  all_legal before (CheckSat ∷ cs) number asserts is next h = all_legal (before ++ CheckSat ∷ []) cs (number + 1) asserts (is ∙ declared_on before cs CheckSat) next.1 h
  all_legal before (GetModel ∷ cs) number asserts is next h = all_legal (before ++ GetModel ∷ []) cs (number + 1) asserts (is ∙ declared_on before cs GetModel) next.1 h
  all_legal before (Exit ∷ cs) number asserts is next h = all_legal (before ++ Exit ∷ []) cs (number + 1) asserts (is ∙ declared_on before cs Exit) next.1 h

pub legal_law : (text : List ℕ) (trees : List Tree) (stop : Option TextStop) (checked : Checked) → IsArena checked.script.terms.nodes → IsChecked text trees stop checked → AllByRecursion (IsLegalAssertion checked.script) checked.script.asserts
legal_law text trees stop checked arena h =
    all_legal text checked.script.preds checked.script.terms arena [] h.commands 0 checked.script.asserts h.script.preds (script_next text stop trees h.commands checked.stop h.outcome_is) h.script.asserts
