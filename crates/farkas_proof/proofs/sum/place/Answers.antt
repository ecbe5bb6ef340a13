use Rattle.std.proofs.Common.{◌≡◌, ◌<◌, ◌≤◌, ◌+◌, ◌-◌, ◌/◌, ◌∙◌, ℕ, ap, arith, get_or, length}
use Rattle.std.specs.Prelude.{ℤ}
use Rattle.lin_atoms.specs.machinery.Accumulator.{Total}
use Rattle.farkas_proof.proofs.SumLemmas.{place-before, place-found, place-met, place-more, seen-at}
use Rattle.farkas_proof.proofs.sum.place.Goals as goal

pub returns-then-there-variable-clause-met : goal.returns-then-there-variable-clause-met
returns-then-there-variable-clause-met c =
    let ts = c.args.terms.now in
    let i = c.loop-low.low + (c.loop-low.high - c.loop-low.low) / 2 in
    let item = c.index-terms-middle.result in
    let v = c.args.variable in
    let same = ap (λ (t : ℕ × Total). t.0) c.index-terms-middle.is in
    let within = c.loop-low.invariant.length in
    let h : i < length ts = omega arith in
    let is : (get_or ts i item).0 ≡ v = omega arith in
    let le : (get_or ts i item).0 ≤ v = omega arith in
    (h, ap (λ (t : ℕ × ℤ). t.0) (seen-at ts i item h) ∙ is, λ a. place-met ts i v a item h is (place-before ts i v a item c.requires h le))

pub loop-low-preserved-then-there-variable-2 : goal.loop-low-preserved-then-there-variable-2
loop-low-preserved-then-there-variable-2 c =
    let ts = c.args.terms.now in
    let i = c.loop-low.low + (c.loop-low.high - c.loop-low.low) / 2 in
    let item = c.index-terms-middle.result in
    let v = c.args.variable in
    let same = ap (λ (t : ℕ × Total). t.0) c.index-terms-middle.is in
    let within = c.loop-low.invariant.length in
    let h : i < length ts = omega arith in
    let less : (get_or ts i item).0 < v = omega arith in
    let le : (get_or ts i item).0 ≤ v = omega arith in
    record {
      before = λ a. place-more ts i v a item h less (place-before ts i v a item c.requires h le);
      behind = c.loop-low.invariant.behind;
      within = omega arith;
      length = within;
    }

pub returns-clause-free : goal.returns-clause-free
returns-clause-free c =
    let ts = c.args.terms.now in
    let low = c.loop-low.low in
    let within = c.loop-low.invariant.within in
    let bound = c.loop-low.invariant.length in
    let high : c.loop-low.high ≡ low = omega arith in
    let behind = rw high at c.loop-low.invariant.behind in
    (omega arith, λ a. place-found ts low c.args.variable a behind (c.loop-low.invariant.before a))
