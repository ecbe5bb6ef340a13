use Rattle.std.proofs.Common.{rules, ◌+◌, length, take, sym, arith}
use Rattle.std.specs.List.{sum_by}
use Rattle.std.specs.Prelude.{IsErrOf}
use Rattle.std.proofs.lemmas.List.Sums.{sum_by-take-le}
use Rattle.lin_atoms.specs.Truth.{lit_is_below}
use Rattle.cube_forms.specs.Cubes.{lit_is_short}
use Rattle.interpretations.specs.Size.{literal_size}
use Rattle.interpretations.specs.declared.stop.DefinitionStop.TheVariants.{Full}
use Rattle.interpretations.specs.Terms.{Each, IsLiteralOf}
use Rattle.interpretations.proofs.KeptLemmas.{at-all}
use Rattle.interpretations.proofs.LoopLemmas.{all-added, full-size, more-added, size-more}
use Rattle.interpretations.proofs.conjunctions.literal_terms.Goals as goal

pub loop-lit-preserved : goal.loop-lit-preserved
loop-lit-preserved c =
    let size = size-more literal_size c.args.cube.now c.loop-lit.lit-index c.lit-item.result c.loop-lit-test.true c.lit-item.is in
    more-added (λ nodes lit k. IsLiteralOf nodes c.args.sorts.now lit k) (sum_by literal_size (take c.loop-lit.lit-index c.args.cube.now)) (literal_size c.lit-item.result)
    (sum_by literal_size (take (c.loop-lit.lit-index + 1) c.args.cube.now)) c.args.terms.now.nodes c.loop-lit.terms.nodes c.literal.new.terms.nodes c.args.cube.now c.loop-lit.lit-index
    c.loop-lit.parts.items c.push.new.items.items c.lit-item.result c.in_ok-part.part c.loop-lit-test.true c.lit-item.is c.in_ok-push.ensures (omega (arith, size)) c.loop-lit.invariant
    c.in_ok-part.ensures.added

pub returns-in_err-part-clause-full : goal.returns-in_err-part-clause-full
returns-in_err-part-clause-full c = λ h.
    let told : IsErrOf c.literal.result Full = search rules in
    full-size (λ nodes ids. Each (IsLiteralOf nodes c.args.sorts.now) (take c.loop-lit.lit-index c.args.cube.now) ids) literal_size c.args.terms.now.nodes c.loop-lit.terms.nodes c.args.cube.now
    c.loop-lit.lit-index c.loop-lit.parts.items c.lit-item.result c.loop-lit-test.true c.lit-item.is c.loop-lit.invariant (c.literal.ensures.full told)

pub returns-clause-added : goal.returns-clause-added
returns-clause-added c =
    all-added (λ nodes lit k. IsLiteralOf nodes c.args.sorts.now lit k) (sum_by literal_size (take c.loop-lit.lit-index c.args.cube.now)) (sum_by literal_size c.args.cube.now) c.args.terms.now.nodes
    c.loop-lit.terms.nodes c.args.cube.now c.loop-lit.lit-index c.loop-lit.parts.items c.loop-lit-test.false (sum_by-take-le literal_size c.args.cube.now c.loop-lit.lit-index) c.loop-lit.invariant

pub literal-requires-clause-below : goal.literal-requires-clause-below
literal-requires-clause-below c = at-all (lit_is_below (length c.args.sorts.now)) c.args.cube.now c.loop-lit.lit-index c.lit-item.result c.loop-lit-test.true (sym c.lit-item.is) c.requires.below

pub literal-requires-clause-short : goal.literal-requires-clause-short
literal-requires-clause-short c = at-all lit_is_short c.args.cube.now c.loop-lit.lit-index c.lit-item.result c.loop-lit-test.true (sym c.lit-item.is) c.requires.short
