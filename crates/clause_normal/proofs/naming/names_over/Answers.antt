use Rattle.std.proofs.Common.{◌≡◌, ◌<◌, ◌+◌, ◌-◌, ◌==◌, ℕ, drop, get_or, subst, arith, rules}
use Rattle.std.specs.Prelude.{option_map, position, Some}
use Rattle.std.specs.Ordering.{nat_cmp}
use Rattle.std.specs.BTreeMap.{get}
use Rattle.clause_normal.proofs.NamingLemmas.{named_more}
use Rattle.clause_normal.proofs.naming.names_over.Goals as goal

pub loop-left-preserved : goal.loop-left-preserved
loop-left-preserved c =
    let placed = c.args.placed.now in
    let left : ℕ = c.loop-left.left - 1 in
    let some : 0 < c.loop-left.left = search rules in
    let within = c.loop-left.invariant.within in
    let same : c.loop-left.left ≡ left + 1 = omega (arith, some) in
    let here : get nat_cmp c.keep.new.auxiliary (get_or placed left 0) ≡ Some (c.args.first + left) = search rules in
    record {
      within = omega (arith, within);
      named = named_more c.args.first left placed 0 c.loop-left.auxiliary c.keep.new.auxiliary (omega (arith, within, same))
          (subst (λ (k : ℕ). (id : ℕ) → get nat_cmp c.loop-left.auxiliary id ≡ option_map (λ i. c.args.first + (k + i)) (position (λ p. p == id) (drop k placed))) same c.loop-left.invariant.named)
          here c.in_ok-keep.ensures.others;
    }
