use Rattle.std.proofs.Common.{◌++◌, codes, decimal}
use Rattle.answer_text.proofs.PushLemmas.{behind}
use Rattle.answer_text.proofs.derivation.push_numbers.Goals as goal

pub returns : goal.returns
returns c =
    let out = c.args.out.now.items in
    let line = c.args.line.now in
    let one = behind out _ _ (codes "(step ") (decimal line.number) c.in_ok-extend_from_slice.ensures.items c.in_ok-push_numeral.ensures in
    let two = behind out _ _ (codes "(step " ++ decimal line.number) (codes " ") one c.in_ok-extend_from_slice-2.ensures.items in
    behind out _ _ (codes "(step " ++ decimal line.number ++ codes " ") (decimal line.assertion) two c.in_ok-push_numeral-2.ensures
