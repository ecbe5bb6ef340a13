use Rattle.std.proofs.Common.{◌+◌, ap, arith, FitsSigned}
use Rattle.std.specs.Int.{w64}
use Rattle.std.proofs.lemmas.Int.{to_z-of_z}
use Rattle.farkas_proof.specs.machinery.Sum.{seen}
use Rattle.farkas_proof.proofs.SumLemmas.{counted-weaker, first-sum}
use Rattle.farkas_proof.proofs.sum.first_terms.Goals as goal

pub returns-clause-value : goal.returns-clause-value
returns-clause-value c =
    let k_fits : FitsSigned w64 c.args.k = c.ranges.k in
    first-sum c.args.k c.args.added.now (seen c.args.terms.now.items) (seen c.put_terms.new.terms.items) (ap seen c.requires.empty) c.requires.rising (simp to_z-of_z at c.in_ok-put_terms.ensures.value)

pub returns-clause-counted : goal.returns-clause-counted
returns-clause-counted c = counted-weaker 1 (c.args.products + 1) c.put_terms.new.terms.items (omega arith) c.in_ok-put_terms.ensures.counted
