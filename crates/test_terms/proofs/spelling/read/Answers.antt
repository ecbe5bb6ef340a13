use Rattle.std.proofs.Common.{sym, arith}
use Rattle.term_check.proofs.LightLemmas.{first_light}
use Rattle.test_terms.proofs.spelling.read.Goals as goal

pub spelled-shown-requires : goal.spelled-shown-requires
spelled-shown-requires g c =
    let read = c.in_ok-read.read in
    let look = c.in-Some.ensures.lookup in
    let light = first_light c.args.text.now read.trees c.as_slice.result.now read.stop c.in-Some.tree.now c.in_ok-read.ensures c.as_slice.ensures (sym look.0) look.1 in
    let fits = c.requires in
    omega (arith, light, fits)
