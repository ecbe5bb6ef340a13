use Rattle.std.specs.Prelude.{drop, take}
use Rattle.answer_text.specs.declared.answer.Answer.TheVariants.{Sat}
use Rattle.clause_readings.proofs.TextLemmas.{same_solutions}
use Rattle.printed_laws.proofs.ReadingLemmas.{room_passes, spelled_by}
use Rattle.printed_laws.proofs.ValidLemmas.{judged_beside}
use Rattle.printed_laws.proofs.VerdictLemmas.{no_byte, no_instance}
use Rattle.printed_laws.proofs.laws.solutions_are_not_judged_wrong.Goals as goal

pub returns : goal.returns
returns c = record {
  instances = λ nodes number integers input text verdict script answer checked definitions judged read spells solution is.
      let beside = judged_beside nodes input text verdict script answer checked judged read in
      let bytes = take script input in
      let ours = judged.checked.script in
      let found = beside.ours in
      let asserts = c.assertions_are_legal.ensures bytes found.0 found.1 judged.checked found.3.script.arena found.3 in
      let within = c.scripts_are_within_limits.ensures bytes found.0 found.1 judged.checked found.3 in
      no_instance ours (drop answer input) definitions (spelled_by bytes judged.checked checked beside.ours beside.theirs (drop answer input) (Sat definitions) spells)
      c.texts_of_solutions_spell_solutions.ensures
      (λ others number integers valid wrong. c.valid_answers_are_not_wrong.ensures.instances ours others number integers found.3.script.arena
      (record { asserts = asserts; few_asserts = within.asserts; few_preds = within.preds; few_args = within.args }) valid wrong)
      nodes number integers verdict (same_solutions bytes checked judged.checked beside.theirs beside.ours definitions solution) beside.judges is;
  bytes = λ nodes offset input text verdict script answer checked definitions judged read spells room is.
      let beside = judged_beside nodes input text verdict script answer checked judged read in
      let bytes = take script input in
      no_byte judged.checked.script (drop answer input) definitions (spelled_by bytes judged.checked checked beside.ours beside.theirs (drop answer input) (Sat definitions) spells)
      nodes offset verdict c.definitions_ask_the_same.ensures.wide (room_passes bytes judged.checked checked beside.ours beside.theirs definitions room) beside.judges is;
}
