use Rattle.std.proofs.Common.{ap, ◌∙◌, length}
use Rattle.std.specs.Prelude.{pos}
use Rattle.std.proofs.lemmas.List.{length-replicate}
use Rattle.int_rows.proofs.WritingLemmas.{equation-is}
use Rattle.int_rows.proofs.equation.equation.Goals as goal

pub returns : goal.returns
returns c =
    let long = ap length c.in_ok-row.ensures ∙ length-replicate c.args.columns (pos 0) in
    equation-is c.args.columns c.args.slack (length c.as_mut_slice.result.now) c.in_ok-row.row.len c.in_ok-row.row.items c.put_terms.new.row c.terms.result.now c.args.lin.now c.requires.slack
    (ap length c.as_mut_slice.ensures.value ∙ long) c.in_ok-row.row.ok.0 long c.terms.ensures.is c.put_terms.ensures
