use Rattle.std.specs.Prelude.{drop, take}
use Rattle.chc_checker.proofs.ExactLemmas.{exact_valid, exact_wrong}
use Rattle.printed_laws.proofs.ReadingLemmas.{false_passes, narrow_passes, said_beside, wrong_at_passes}
use Rattle.printed_laws.proofs.ValidLemmas.{judged_beside}
use Rattle.printed_laws.proofs.laws.derivations_are_judged_exactly.Goals as goal

pub returns : goal.returns
returns c = record {
  valid = λ nodes input text verdict script answer checked lines judged read spells room is.
      let beside = judged_beside nodes input text verdict script answer checked judged read in
      let bytes = take script input in
      exact_valid nodes judged.checked.script lines verdict (said_beside bytes judged.checked checked beside.ours beside.theirs nodes (drop answer input) lines verdict beside.judges spells)
      (narrow_passes bytes judged.checked checked beside.ours beside.theirs lines room) (false_passes bytes checked judged.checked beside.theirs beside.ours lines is);
  wrong = λ nodes number input text verdict script answer checked lines judged read spells room is.
      let beside = judged_beside nodes input text verdict script answer checked judged read in
      let bytes = take script input in
      exact_wrong nodes judged.checked.script lines verdict number (said_beside bytes judged.checked checked beside.ours beside.theirs nodes (drop answer input) lines verdict beside.judges spells)
      (narrow_passes bytes judged.checked checked beside.ours beside.theirs lines room) (wrong_at_passes bytes judged.checked checked beside.ours beside.theirs lines number is);
}
