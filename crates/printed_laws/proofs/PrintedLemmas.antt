-- A printed answer says by itself what the book's end says of it.
use Rattle.std.proofs.Common.{◌≡◌, ℕ, List, [], ◌∷◌, ◌++◌, refl, sym, ap, subst, ◌∙◌}
use Rattle.std.specs.Prelude.{Some, codes}
use Rattle.std.specs.List.{flat_map}
use Rattle.std.specs.declared.option.Option.{Option}
use Rattle.outside_io.specs.Bytes.{Appends}
use Rattle.term_tree.specs.declared.script.Pred.{Pred}
use Rattle.term_tree.specs.declared.script.Script.{Script}
use Rattle.term_tree.specs.declared.definition.Definition.{Definition}
use Rattle.term_tree.specs.Solution.{IsSolution}
use Rattle.sort_check.specs.Commands.{Command}
use Rattle.sort_check.specs.Scripts.{IsScript, IsScriptOf}
use Rattle.step_rules.specs.Views.{facts_of}
use Rattle.chc_core.specs.Contents.{Contents}
use Rattle.book_rules.specs.declared.end.End.{End}
use Rattle.book_rules.specs.declared.end.End.TheVariants.{Unsat as UnsatEnd, Sat as SatEnd, Spent, Stalled}
use Rattle.cert_derivations.specs.Lines.{fact_lines}
use Rattle.answer_text.specs.declared.answer.Line.{Line}
use Rattle.answer_text.specs.declared.answer.Answer.{Answer}
use Rattle.answer_text.specs.declared.answer.Answer.TheVariants.{Sat, Unsat, Unknown}
use Rattle.answer_text.specs.declared.answer.UnknownCause.TheVariants.{Units, Stalled as StalledCause}
use Rattle.answer_text.specs.AnswerTexts.{answer_text, definition_text, step_text}
use Rattle.answer_text.specs.Printable.{IsAnswerText}
use Rattle.answer_text.specs.Read.{IsBad, Spells}
use Rattle.answer_text.specs.ReadBack.{IsSameModel}
use Rattle.answer_laws.specs.Texts.{IsSatAnswer}
use Rattle.book_answers.specs.Answers.{IsAnswerAt}
use Rattle.call_words.specs.declared.limits.Limits.{Limits}
use Rattle.call_solve.specs.Headline.{Answers, IsAnswered, IsBookFor}
use Rattle.printed_laws.specs.Printed.{IsPrinted, Says, IsSolvedBy}
use Rattle.printed_laws.specs.Printed.Says.{sat, unsat, unknown}
use Rattle.printed_laws.proofs.ReadingLemmas.{said_of_each}

same_rest : (held text other : List ℕ) → held ++ text ≡ held ++ other → text ≡ other
same_rest [] text other h = h
same_rest (byte ∷ held) text other h = let rest : held ++ text ≡ held ++ other = cc in same_rest held text other rest

-- what stands behind what was held is what was appended
appended : (held text other : List ℕ) → Appends other (Some held) (Some (held ++ text)) → text ≡ other
appended held text other h =
    let both : (let o : Option (List ℕ) = Some (held ++ text) in o) ≡ Some (held ++ other) = h in
    let same : held ++ text ≡ held ++ other = cc in
    same_rest held text other same

abbrev pub AcceptedLaw : Type 0
AcceptedLaw = (bytes printed : List ℕ) → (h : IsSatAnswer bytes printed) → (offset : ℕ) → IsBad h.script.preds printed offset → ⊥

abbrev pub SameLaw : Type 0
SameLaw = (bytes printed : List ℕ) → (h : IsSatAnswer bytes printed) → (answer : Answer) → Spells h.script.preds printed answer → IsSameModel h.definitions answer

abbrev pub SolutionLaw : Type 0
SolutionLaw = (bytes printed : List ℕ) → (h : IsSatAnswer bytes printed) → (definitions : List Definition) → Spells h.script.preds printed (Sat definitions)
    → IsSolution h.script definitions

abbrev pub SpelledLaw : Type 0
SpelledLaw = (text : List ℕ) (commands : List Command) (script : Script) (lines : List Line) (printed : List ℕ) → IsScript text commands → IsScriptOf commands script
    → IsAnswerText script.preds (Unsat lines) printed → Spells script.preds printed (Unsat lines)

abbrev pub AloneLaw : Type 0
AloneLaw = (text : List ℕ) (commands : List Command) (script : Script) (lines : List Line) (printed : List ℕ) (answer : Answer) → IsScript text commands → IsScriptOf commands script
    → IsAnswerText script.preds (Unsat lines) printed → Spells script.preds printed answer → answer ≡ Unsat lines

abbrev pub NotBadLaw : Type 0
NotBadLaw = (preds : List Pred) (text : List ℕ) (answer : Answer) (offset : ℕ) → Spells preds text answer → IsBad preds text offset → ⊥

-- the first lines
sat_line : (preds : List Pred) (definitions : List Definition) → answer_text preds (Sat definitions) ≡ codes "sat\n" ++ (codes "(\n" ++ (flat_map (definition_text preds) definitions ++ codes ")\n"))
sat_line preds definitions = refl

unsat_line : (preds : List Pred) (lines : List Line) → answer_text preds (Unsat lines) ≡ codes "unsat\n" ++ (codes "(derivation\n" ++ (flat_map (step_text preds) lines ++ codes ")\n"))
unsat_line preds lines = refl

module _ (accepted : AcceptedLaw) (same : SameLaw) (solution : SolutionLaw) (spelled : SpelledLaw) (alone : AloneLaw) (not_bad : NotBadLaw) where
  solves : (bytes text : List ℕ) → (h : IsSatAnswer bytes text) → (answer : Answer) → Spells h.script.preds text answer → IsSolvedBy h.script answer
  solves bytes text h (Sat definitions) spells = solution bytes text h definitions spells
  solves bytes text h (Unsat lines) spells = absurd (same bytes text h (Unsat lines) spells)
  solves bytes text h (Unknown level cause) spells = absurd (same bytes text h (Unknown level cause) spells)

  -- of an answer at an end
  says : (limits : Limits) (bytes : List ℕ) (b : Contents) (text : List ℕ) → (book : IsBookFor limits bytes b) → (e : End) (answer : Answer) → IsAnswerAt book.script b e answer
      → IsAnswerText book.script.preds answer text → Says book.script text
  says limits bytes b text book (SatEnd level) answer (definitions, is, made, solved) printed =
      let preds = book.script.preds in
      let h : IsSatAnswer bytes text =
      record {
        commands = book.commands;
        script = book.script;
        definitions = definitions;
        is_script = book.is_script;
        spelled = book.spelled;
        solution = solved;
        answer = subst (λ (a : Answer). IsAnswerText preds a text) is printed;
      }
      in
      sat (codes "(\n" ++ (flat_map (definition_text preds) definitions ++ codes ")\n")) (printed.spelled ∙ ap (answer_text preds) is ∙ sat_line preds definitions)
      (record { accepted = accepted bytes text h; solved = solves bytes text h })
  says limits bytes b text book (UnsatEnd fact) answer (steps, are, is, derive) printed =
      let preds = book.script.preds in
      let lines = fact_lines b.system (facts_of b.facts) steps in
      let whole : IsAnswerText preds (Unsat lines) text = subst (λ (a : Answer). IsAnswerText preds a text) is printed in
      let spells = spelled bytes book.commands book.script lines text book.is_script book.spelled whole in
      unsat (codes "(derivation\n" ++ (flat_map (step_text preds) lines ++ codes ")\n")) (printed.spelled ∙ ap (answer_text preds) is ∙ unsat_line preds lines)
      (record {
        lines = lines;
        accepted = λ offset bad. not_bad preds text (Unsat lines) offset spells bad;
        spells = spells;
        alone = λ other reads. alone bytes book.commands book.script lines text other book.is_script book.spelled whole reads;
        derive = derive;
      })
  says limits bytes b text book (Spent units) answer (is, given, low) printed =
      unknown (record { level = b.level; cause = Units units; is = printed.spelled ∙ ap (answer_text book.script.preds) is; low = low })
  says limits bytes b text book Stalled answer (is, low) printed =
      unknown (record { level = b.level; cause = StalledCause; is = printed.spelled ∙ ap (answer_text book.script.preds) is; low = low })

  of_answered : (limits : Limits) (bytes : List ℕ) (b : Contents) (text : List ℕ) → IsAnswered limits bytes b text → IsPrinted bytes text
  of_answered limits bytes b text h =
      let book = h.book in
      let found = h.answer in
      record {
        commands = book.commands;
        script = book.script;
        is_script = book.is_script;
        spelled = book.spelled;
        says = λ others other is_script spelled. said_of_each bytes text book.commands book.script book.is_script book.spelled others other is_script spelled
            (says limits bytes b text book h.ended_by found.answer found.answers found.printed);
      }

  pub printed : (limits : Limits) (read : List ℕ) (book : Option Contents) (held text : List ℕ) → Answers limits read book (Some held) (Some (held ++ text)) → IsPrinted read text
  printed limits read book held text h = subst (λ (t : List ℕ). IsPrinted read t) (sym (appended held text h.text h.held)) (of_answered limits read h.b h.text h.answer)
