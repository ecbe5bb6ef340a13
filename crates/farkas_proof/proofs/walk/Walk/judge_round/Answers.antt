use Rattle.std.proofs.Common.{◌∙◌, ◌&&◌, sym, FitsSigned, List}
use Rattle.std.specs.Prelude.{int_le, pos}
use Rattle.std.specs.Int.{w64}
use Rattle.std.proofs.lemmas.Int.{to_z-of_z}
use Rattle.lin_atoms.specs.declared.lit.Lit.{Lit}
use Rattle.lin_atoms.specs.declared.lit.Lit.TheVariants.{Le}
use Rattle.int_rows.specs.Ready.{rounded}
use Rattle.refutation_trees.specs.Combination.{are_multipliers, combined, is_divided_by}
use Rattle.farkas_proof.specs.machinery.Walk.{after, opened}
use Rattle.farkas_proof.proofs.WalkLemmas.{round-leads}
use Rattle.farkas_proof.proofs.walk.Walk.judge_round.Goals as goal

pub returns-in_ok-next-in-Ok-clause-on : goal.returns-in_ok-next-in-Ok-clause-on
returns-in_ok-next-in-Ok-clause-on c =
    let self = c.args.self.now in
    let ms = c.args.multipliers.now in
    let d = c.args.divisor in
    let fits : FitsSigned w64 d = c.ranges.divisor in
    let known = simp to_z-of_z at c.in-Ok.ensures in
    round-leads self.end c.args.sub.now self.lits c.as_slice.result.now (opened self.cases.items) self.at (after self)
    (λ (ls : List Lit). are_multipliers ls ms && (int_le (pos 1) d && is_divided_by d (combined ls ms))) (λ (ls : List Lit). Le (rounded d (combined ls ms))) c.in-Ok.derived
    c.as_slice.ensures known.0 known.1 known.2
    ∙ sym c.in_ok-next-in-Ok.ensures.found
