use Rattle.std.proofs.Common.{◌∙◌, ◌++◌, List, ℕ, ap, FitsSigned}
use Rattle.std.specs.Prelude.{ℤ}
use Rattle.std.specs.Int.{w64}
use Rattle.std.proofs.lemmas.Int.{to_z-of_z}
use Rattle.lin_atoms.specs.Algebra.{scaled_terms}
use Rattle.farkas_proof.proofs.SumLemmas.{first-sum}
use Rattle.farkas_proof.proofs.narrow.put_multiple.Goals as goal

pub returns : goal.returns
returns c = λ done.
    let k_fits : FitsSigned w64 c.args.k = c.ranges.k in
    let pushed = simp to_z-of_z at (c.push_multiples.ensures done) in
    first-sum c.args.k c.args.added.now c.args.terms.now.items c.push_multiples.new.terms.items c.requires.empty c.requires.rising
    (pushed ∙ ap (λ (xs : List (ℕ × ℤ)). xs ++ scaled_terms c.args.k c.args.added.now) c.requires.empty)
