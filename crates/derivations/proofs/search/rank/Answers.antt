use Rattle.std.proofs.Common.{◌≡◌, ℤ, ◌+◌, ◌-◌, ◌/◌, List, length, ap, ◌∙◌, arith}
use Rattle.std.proofs.lemmas.List.{length-map}
use Rattle.derivations.specs.machinery.Index.{key_of}
use Rattle.derivations.specs.Facts.{tuple_of}
use Rattle.derivations.proofs.SearchLemmas.{rank_low, rank_high}
use Rattle.derivations.proofs.search.rank.Goals as goal

pub loop-low-preserved-then-is_below : goal.loop-low-preserved-then-is_below
loop-low-preserved-then-is_below c =
    let inv = c.loop-low.invariant in let test = c.loop-low-test.true in let within = inv.1 in
    let middle = c.loop-low.low + (c.loop-low.high - c.loop-low.low) / 2 in
    (omega arith, inv.1, rank_low (tuple_of c.args.notes.now) c.args.row.now c.args.tuple.now middle c.requires.order (omega arith) (c.is_below.ensures.before c.if-is_below.true), inv.3)

pub loop-low-preserved : goal.loop-low-preserved
loop-low-preserved c =
    let inv = c.loop-low.invariant in let test = c.loop-low-test.true in let within = inv.1 in
    let middle = c.loop-low.low + (c.loop-low.high - c.loop-low.low) / 2 in
    (omega arith, omega arith, inv.2, rank_high (tuple_of c.args.notes.now) c.args.row.now c.args.tuple.now middle c.requires.order (omega arith) (c.is_below.ensures.behind c.if-is_below.false))

pub bounds-keys-middle : goal.bounds-keys-middle
bounds-keys-middle c =
    let test = c.loop-low-test.true in
    let high = c.loop-low.invariant.1 in
    let long : length c.args.keys.now ≡ length c.args.row.now = ap (λ (ks : List ℤ). length ks) c.requires.keyed ∙ length-map c.args.row.now (λ n. key_of (tuple_of c.args.notes.now n)) in
    omega (arith, long)

pub is_below-requires-clause-there : goal.is_below-requires-clause-there
is_below-requires-clause-there c =
    let test = c.loop-low-test.true in
    let high = c.loop-low.invariant.1 in
    c.requires.there (c.loop-low.low + (c.loop-low.high - c.loop-low.low) / 2) 0 (omega arith)
