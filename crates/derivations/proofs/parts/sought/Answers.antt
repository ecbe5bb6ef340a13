use Rattle.std.proofs.Common.{◌≡◌, ◌-◌, ℕ, List, [], get_or, refl, sym, subst, arith}
use Rattle.std.specs.Prelude.{ℤ}
use Rattle.std.specs.List.{Contains}
use Rattle.derivations.proofs.GrownLemmas.{sought_more, sought_none, sought_some}
use Rattle.derivations.proofs.parts.sought.Goals as goal

pub returns-in-Some : goal.returns-in-Some
returns-in-Some c =
    let test = c.loop-left-test.true in let inv = c.loop-left.invariant.0 in
    let is : c.part_at.result.now ≡ get_or c.args.parts.now (c.loop-left.left - 1) [] = c.part_at.ensures in
    sought_some c.args.parts.now c.args.tuple.now (c.loop-left.left - 1) c.in-Some.number c.requires (omega arith) (subst (λ es. Contains es (c.args.tuple.now, c.in-Some.number)) is c.in-Some.ensures.some)

pub loop-left-preserved : goal.loop-left-preserved
loop-left-preserved c =
    let test = c.loop-left-test.true in let inv = c.loop-left.invariant.0 in
    let is : c.part_at.result.now ≡ get_or c.args.parts.now (c.loop-left.left - 1) [] = c.part_at.ensures in
    (omega arith, sought_more c.args.parts.now c.args.tuple.now c.loop-left.left (omega arith) (λ n has. c.get.ensures.none c.in-None.is n (subst (λ es. Contains es (c.args.tuple.now, n)) (sym is) has)) c.loop-left.invariant.1)

pub returns : goal.returns
returns c =
    let test = c.loop-left-test.false in
    sought_none c.args.parts.now c.args.tuple.now (λ i n low l has. c.loop-left.invariant.1 i n (omega arith) l has)
