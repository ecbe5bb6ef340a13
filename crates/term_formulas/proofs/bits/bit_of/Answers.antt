use Rattle.linear_terms.specs.Linear.{bit_of}
use Rattle.term_formulas.specs.Written.{naming_by}
use Rattle.term_formulas.proofs.BitLemmas.{bit_is}
use Rattle.term_formulas.proofs.NarrowLemmas.{bit_narrow}
use Rattle.term_formulas.proofs.bits.bit_of.Goals as goal

pub returns-clause-narrow : goal.returns-clause-narrow
returns-clause-narrow c =
    let naming = naming_by c.args.names.now in
    bit_narrow (bit_of naming c.args.terms.now.nodes c.args.id.0) (bit_is naming c.args.terms.now.nodes c.arena_law.ensures.arena c.args.id.0 c.requires)
