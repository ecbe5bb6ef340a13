use Rattle.std.proofs.Common.{◌<◌, ◌≤◌, length, arith}
use Rattle.clause_queries.proofs.LoopLemmas.{use-done, uses-over}
use Rattle.clause_queries.proofs.using.push_on.Goals as goal

pub loop-id-preserved : goal.loop-id-preserved
loop-id-preserved c =
    let lemmas = c.args.frames.now.lemmas in
    let id = c.loop-id.id in
    let end = c.count-id-end.ensures in
    let less = c.loop-id-test.true in
    let within : id < length lemmas = omega arith in
    use-done c.args.k c.args.number c.args.pred lemmas id c.loop-id.used.items _ _ within c.in_ok-push_use.ensures c.loop-id.invariant

pub returns : goal.returns
returns c =
    let lemmas = c.args.frames.now.lemmas in
    let id = c.loop-id.id in
    let end = c.count-id-end.ensures in
    let less = c.loop-id-test.false in
    let past : length lemmas ≤ id = omega arith in
    uses-over c.args.k c.args.number c.args.pred lemmas id c.loop-id.used.items _ past c.loop-id.invariant
