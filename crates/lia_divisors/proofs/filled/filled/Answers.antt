use Rattle.std.proofs.Common.{sym, subst, ◌∙◌, Some}
use Rattle.std.specs.Prelude.{◌≡◌, slice_get}
use Rattle.lia_guesses.specs.declared.said.Said.{Said}
use Rattle.lia_divisors.proofs.ThereLemmas.{stands-blank, there-at}
use Rattle.lia_divisors.proofs.filled.filled.Goals as goal

pub loop-one-init : goal.loop-one-init
loop-one-init c = record { long = c.in_ok-made.ensures.long; stands = λ all are. stands-blank c.in_ok-made.made.items all c.in_ok-made.ensures.blank }

pub loop-one-preserved : goal.loop-one-preserved
loop-one-preserved c =
    let i = c.loop-one.invariant in
    let p = c.in_ok-put.ensures in
    record {
      long = p.long ∙ i.long;
      stands = λ all are. p.stands all (subst (λ (s : Said). slice_get all s.number ≡ Some s.lit) (sym c.one-item.is) (there-at all c.args.said.now c.loop-one.one-index _ c.loop-one-test.true are)) (i.stands all are);
    }
