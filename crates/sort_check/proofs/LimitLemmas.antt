-- What legal commands declare and assert is within the limits.
use Rattle.std.proofs.Common.{◌≡◌, ℕ, suc, ◌+◌, ◌≤◌, List, [], ◌∷◌, ◌++◌, length, ap, sym, subst, ◌∙◌, arith, length-append}
use Rattle.std.proofs.lemmas.Grind.{flat_map-append}
use Rattle.std.specs.Prelude.{Option, None}
use Rattle.std.specs.List.{AllByRecursion, flat_map}
use Rattle.sexp_read.specs.declared.tree.Tree.{Tree}
use Rattle.sexp_read.specs.declared.tree.TextStop.{TextStop}
use Rattle.term_tree.specs.Arena.{Arena}
use Rattle.term_tree.specs.declared.refusal.Checked.{Checked}
use Rattle.term_tree.specs.declared.script.Assertion.{Assertion}
use Rattle.term_tree.specs.declared.script.Pred.{Pred}
use Rattle.sort_check.specs.Commands.{Command, asserted, asserts, declared, declares, most_arguments, most_assertions, most_predicates}
use Rattle.sort_check.specs.Commands.Command.{SetLogic, Inform, Declare, Assert, CheckSat, GetModel, Exit}
use Rattle.sort_check.specs.Checked.{IsChecked}
use Rattle.sort_check.specs.Properties.{IsWithinLimits}
use Rattle.sort_check.specs.Scripts.{AreAsserted, IsScript}
use Rattle.sort_check.proofs.LegalLemmas.{AreNext, IsNext, script_next}

-- what one command more gives
more : {X : Type 0} (f : Command → List X) (before : List Command) (c : Command) → length (flat_map f (before ++ c ∷ [])) ≡ length (flat_map f before) + length (f c)
more f before c =
    ap length (flat_map-append f before (c ∷ [])) ∙ length-append (flat_map f before) (f c ++ []) ∙ ap (λ (n : ℕ). length (flat_map f before) + n) (length-append (f c) [] ∙ omega arith)

-- what some commands declare and assert behind others
record AreFew (before commands : List Command) : Type 0 where
  preds : length (declared before) + length (declared commands) ≤ most_predicates
  asserts : length (asserted before) + length (asserted commands) ≤ most_assertions

module _ (text : List ℕ) where
  own : (before : List Command) (c : Command) → IsNext text before c → length (declared before) ≤ most_predicates → length (asserted before) ≤ most_assertions
      → (length (declared before) + length (declares c) ≤ most_predicates) × (length (asserted before) + length (asserts c) ≤ most_assertions)
  own before SetLogic next preds asserts = (omega (arith, preds), omega (arith, asserts))
  own before Inform next preds asserts = (omega (arith, preds), omega (arith, asserts))
  own before (Declare pred) next preds asserts = (omega (arith, next.0), omega (arith, asserts))
  own before (Assert at term) next preds asserts = (omega (arith, preds), omega (arith, next.1))
  own before CheckSat next preds asserts = (omega (arith, preds), omega (arith, asserts))
  own before GetModel next preds asserts = (omega (arith, preds), omega (arith, asserts))
  own before Exit next preds asserts = (omega (arith, preds), omega (arith, asserts))

  few : (before commands : List Command) → length (declared before) ≤ most_predicates → length (asserted before) ≤ most_assertions → AreNext text before commands → AreFew before commands
  few before [] preds asserted h = record { preds = omega (arith, preds); asserts = omega (arith, asserted) }
  few before (c ∷ cs) preds asserted' h =
      let room = own before c h.0 preds asserted' in
      let d = more declares before c in
      let a = more asserts before c in
      let rest = few (before ++ c ∷ []) cs (omega (arith, d, room.0)) (omega (arith, a, room.1)) h.1 in
      let preds' = rest.preds in
      let asserts' = rest.asserts in
      record {
        preds = omega (arith, preds', d, length-append (declares c) (declared cs));
        asserts = omega (arith, asserts', a, length-append (asserts c) (asserted cs));
      }

  abbrev HasFewArguments : Pred → Type 0
  HasFewArguments pred = length pred.args ≤ most_arguments

  joined : (xs ys : List Pred) → AllByRecursion HasFewArguments xs → AllByRecursion HasFewArguments ys → AllByRecursion HasFewArguments (xs ++ ys)
  joined [] ys f g = g
  joined (x ∷ xs) ys f g = (f.0, joined xs ys f.1 g)

  own_arguments : (before : List Command) (c : Command) → IsNext text before c → AllByRecursion HasFewArguments (declares c)
  own_arguments before SetLogic next = tt
  own_arguments before Inform next = tt
  own_arguments before (Declare pred) next = (next.1, tt)
  own_arguments before (Assert at term) next = tt
  own_arguments before CheckSat next = tt
  own_arguments before GetModel next = tt
  own_arguments before Exit next = tt

  arguments : (before commands : List Command) → AreNext text before commands → AllByRecursion HasFewArguments (declared commands)
  arguments before [] h = tt
  arguments before (c ∷ cs) h = joined (declares c) (declared cs) (own_arguments before c h.0) (arguments (before ++ c ∷ []) cs h.1)

-- the assertions are as many as the commands that assert
counted : (terms : Arena) (number : ℕ) (assertions : List Assertion) (commands : List Command) → AreAsserted terms number assertions commands → length assertions ≡ length (asserted commands)
counted terms number assertions [] h = ap length h
counted terms number assertions (SetLogic ∷ cs) h = counted terms (number + 1) assertions cs h
counted terms number assertions (Inform ∷ cs) h = counted terms (number + 1) assertions cs h
counted terms number assertions (Declare pred ∷ cs) h = counted terms (number + 1) assertions cs h
counted terms number assertions (CheckSat ∷ cs) h = counted terms (number + 1) assertions cs h
counted terms number assertions (GetModel ∷ cs) h = counted terms (number + 1) assertions cs h
counted terms number assertions (Exit ∷ cs) h = counted terms (number + 1) assertions cs h
counted terms number assertions (Assert at term ∷ cs) h = ap length h.2 ∙ ap (λ (n : ℕ). suc n) (counted terms (number + 1) h.1 cs h.6)

-- a script declares no more than may be
pub few_law : (text : List ℕ) (commands : List Command) → IsScript text commands → length (declared commands) ≤ most_predicates
few_law text commands s =
    let all = few text [] commands (omega arith) (omega arith) (script_next text s.stop s.trees commands None s.legal) in let preds = all.preds in omega (arith, preds)

pub limits_law : (text : List ℕ) (trees : List Tree) (stop : Option TextStop) (checked : Checked) → IsChecked text trees stop checked → IsWithinLimits checked.script
limits_law text trees stop checked h =
    let next = script_next text stop trees h.commands checked.stop h.outcome_is in
    let all = few text [] h.commands (omega arith) (omega arith) next in
    let preds = all.preds in
    let asserts = all.asserts in
    record {
      asserts = omega (arith, asserts, counted checked.script.terms 0 checked.script.asserts h.commands h.script.asserts);
      preds = omega (arith, preds, ap length h.script.preds);
      args = subst (AllByRecursion (λ (p : Pred). length p.args ≤ most_arguments)) (sym h.script.preds) (arguments text [] h.commands next);
    }
