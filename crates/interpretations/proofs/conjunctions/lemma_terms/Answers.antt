use Rattle.std.proofs.Common.{rules, ◌+◌, take, sym, arith, length}
use Rattle.std.specs.List.{sum_by}
use Rattle.std.specs.Prelude.{IsErrOf}
use Rattle.std.proofs.lemmas.List.Sums.{sum_by-take-le}
use Rattle.cube_forms.specs.Cubes.{cube_is_below}
use Rattle.interpretations.specs.Size.{lemma_size}
use Rattle.interpretations.specs.declared.stop.DefinitionStop.TheVariants.{Full}
use Rattle.interpretations.specs.Terms.{Each, IsLemmaOf}
use Rattle.interpretations.specs.machinery.Cubes.{cubes_of}
use Rattle.interpretations.proofs.AmongLemmas.{cube-at, cube-within, cubes-past}
use Rattle.interpretations.proofs.KeptLemmas.{at-all}
use Rattle.interpretations.proofs.LoopLemmas.{all-added, full-size, more-added, size-more}
use Rattle.interpretations.proofs.conjunctions.lemma_terms.Goals as goal

pub denial-requires : goal.denial-requires
denial-requires c =
    let kept = c.args.kept.now in
    let i = c.loop-held.held-index in
    let one = c.held-item.result in
    at-all (cube_is_below (length c.args.sorts.now)) (cubes_of kept) i one.now (cube-within kept i c.loop-held-test.true) (sym (cube-at kept i one c.loop-held-test.true c.held-item.is)) c.requires

pub loop-held-preserved : goal.loop-held-preserved
loop-held-preserved c =
    let kept = c.args.kept.now in
    let i = c.loop-held.held-index in
    let one = c.held-item.result in
    let within = cube-within kept i c.loop-held-test.true in
    let is = cube-at kept i one c.loop-held-test.true c.held-item.is in
    let size = size-more lemma_size (cubes_of kept) i one.now within is in
    more-added (λ nodes cube k. IsLemmaOf nodes c.args.sorts.now cube k) (sum_by lemma_size (take i (cubes_of kept))) (lemma_size one.now) (sum_by lemma_size (take (i + 1) (cubes_of kept)))
    c.args.terms.now.nodes c.loop-held.terms.nodes c.denial.new.terms.nodes (cubes_of kept) i c.loop-held.parts.items c.push.new.items.items one.now c.in_ok-part.part within is c.in_ok-push.ensures
    (omega (arith, size)) c.loop-held.invariant c.in_ok-part.ensures.added

pub returns-in_err-part-clause-full : goal.returns-in_err-part-clause-full
returns-in_err-part-clause-full c = λ h.
    let kept = c.args.kept.now in
    let i = c.loop-held.held-index in
    let one = c.held-item.result in
    let told : IsErrOf c.denial.result Full = search rules in
    full-size (λ nodes ids. Each (IsLemmaOf nodes c.args.sorts.now) (take i (cubes_of kept)) ids) lemma_size c.args.terms.now.nodes c.loop-held.terms.nodes (cubes_of kept) i c.loop-held.parts.items
    one.now (cube-within kept i c.loop-held-test.true) (cube-at kept i one c.loop-held-test.true c.held-item.is) c.loop-held.invariant (c.denial.ensures.full told)

pub returns-clause-added : goal.returns-clause-added
returns-clause-added c =
    let kept = c.args.kept.now in
    let i = c.loop-held.held-index in
    all-added (λ nodes cube k. IsLemmaOf nodes c.args.sorts.now cube k) (sum_by lemma_size (take i (cubes_of kept))) (sum_by lemma_size (cubes_of kept)) c.args.terms.now.nodes
    c.loop-held.terms.nodes (cubes_of kept) i c.loop-held.parts.items (cubes-past kept i c.loop-held-test.false) (sum_by-take-le lemma_size (cubes_of kept) i) c.loop-held.invariant
