-- The definitions that a text spells are used alike, however their terms are numbered.
use Rattle.std.proofs.Common.{◌≡◌, ℕ, zero, suc, ◌+◌, List, [], ◌∷◌, length, false, refl, sym, ap, subst, ◌∙◌}
use Rattle.std.specs.Prelude.{Result, Ok, Err, None, slice_get}
use Rattle.std.specs.List.{AllByRecursion}
use Rattle.term_tree.specs.declared.definition.Definition.{Definition}
use Rattle.term_tree.specs.declared.script.Pred.{Pred}
use Rattle.term_check.specs.Formula.{params_from}
use Rattle.term_check.specs.Spelling.{scope_of}
use Rattle.term_check.specs.Term.{Term}
use Rattle.answer_text.specs.declared.answer.Answer.TheVariants.{Sat}
use Rattle.answer_text.specs.Read.{AreDefinitions, IsReply, Spells}
use Rattle.answer_text.specs.Reading.{Defined, Reply, reply}
use Rattle.answer_text.specs.Reading.Reply.{model, refutation}
use Rattle.answer_text.proofs.Public.{same_reply}
use Rattle.answer_laws.proofs.FormedLemmas.{bool_is}
use Rattle.answer_laws.proofs.FormulaLemmas.{AreRight, IsRight, all_read, reply_right}
use Rattle.clause_readings.specs.Layout.{IsLaid}
use Rattle.clause_readings.proofs.LaidLemmas.{spelled_laid}
use Rattle.answer_readings.proofs.DefinitionLemmas.{AreUsedAlike, used_alike}

-- the parts of its term start in the order of the text
abbrev IsBodyLaid : Defined → Type 0
IsBodyLaid d = (low : ℕ) × (high : ℕ) × IsLaid low high d.body

body_laid : (text : List ℕ) (preds : List Pred) (d : Defined) → IsRight text preds d → IsBodyLaid d
body_laid text preds d right =
    let scope = scope_of [] (params_from 0 d.params) false in
    let found = bool_is _ d.body right.body in
    let reads = right.reads in
    (reads.1, reads.2, subst (λ (t : Term). IsLaid reads.1 reads.2 t) found.3 (spelled_laid text scope (length d.params) reads.0 reads.1 right.tree reads.2 found.0 reads.3 found.1))

bodies_laid : (text : List ℕ) (preds : List Pred) (number : ℕ) (ps : List Pred) (ds : List Defined) → AreRight text preds number ps ds → AllByRecursion IsBodyLaid ds
bodies_laid text preds number [] [] h = tt
bodies_laid text preds number [] (d ∷ ds) h = absurd h
bodies_laid text preds number (p ∷ ps) [] h = absurd h
bodies_laid text preds number (p ∷ ps) (d ∷ ds) h = (body_laid text preds d h.1, bodies_laid text preds (number + 1) ps ds h.2)

nothing_used : AreUsedAlike None None
nothing_used = record { count = refl; forms = λ atom sign next. refl; wide = λ atom next. refl }

each_alike : (rs : List Defined) (ds es : List Definition) → AllByRecursion IsBodyLaid rs → AreDefinitions rs ds → AreDefinitions rs es → (n : ℕ) → AreUsedAlike (slice_get ds n) (slice_get es n)
each_alike [] [] [] laid x y n = nothing_used
each_alike [] [] (e ∷ es) laid x y n = absurd y
each_alike [] (d ∷ ds) es laid x y n = absurd x
each_alike (r ∷ rs) [] es laid x y n = absurd x
each_alike (r ∷ rs) (d ∷ ds) [] laid x y n = absurd y
each_alike (r ∷ rs) (d ∷ ds) (e ∷ es) laid x y zero = used_alike r laid.0.0 laid.0.1 laid.0.2 d e x.0 y.0
each_alike (r ∷ rs) (d ∷ ds) (e ∷ es) laid x y (suc n) = each_alike rs ds es laid.1 x.1 y.1 n

abbrev reply_in : Result Reply ℕ → Reply
reply_in (Ok r) = r
reply_in (Err offset) = refutation []

module _ (preds : List Pred) (text : List ℕ) (ds es : List Definition) (s : Spells preds text (Sat ds)) (t : Spells preds text (Sat es)) where
  of_reply : (r : Reply) → reply text s.stop preds s.trees ≡ Ok r → IsReply r (Sat ds) → IsReply r (Sat es) → (n : ℕ) → AreUsedAlike (slice_get ds n) (slice_get es n)
  of_reply (model rs) is x y n =
      each_alike rs ds es (bodies_laid text preds 0 preds rs (reply_right text preds s.stop s.trees rs (all_read text 0 0 s.trees s.reading.0 s.reading.1) is)) x y n
  of_reply (refutation lines) is x y n = absurd x

  pub same_uses : (n : ℕ) → AreUsedAlike (slice_get ds n) (slice_get es n)
  same_uses n =
      let same : t.claimed ≡ s.claimed = ap reply_in (sym t.spelled ∙ same_reply preds text t.trees s.trees t.stop s.stop t.reading s.reading ∙ s.spelled) in
      of_reply s.claimed s.spelled s.is (subst (λ (r : Reply). IsReply r (Sat es)) same t.is) n
