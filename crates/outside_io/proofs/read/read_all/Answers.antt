use Rattle.std.proofs.Common.{◌+◌, ◌≤◌, List, ◌++◌, length, take, rules, length-append, length-take-le}
use Rattle.std.specs.Prelude.{ℕ}
use Rattle.outside_io.proofs.ByteLemmas.{take_more}
use Rattle.outside_io.proofs.read.read_all.Goals as goal

pub returns-in_err-extend_from_slice-clause-memory : goal.returns-in_err-extend_from_slice-clause-memory
returns-in_err-extend_from_slice-clause-memory g c =
    let source = g.S.Source in
    let before : List ℕ = c.loop-buffer.bytes.items in
    let count = c.in_ok-count.count in
    let new = take count c.take.new.into in
    let size = length-take-le count c.take.new.into c.in_ok-count.ensures.count in
    let within : length (before ++ new) ≤ c.args.limit + 1 = rw (length-append before new, size) (search rules) in
    λ _. (before ++ new, within, take_more (source.left c.args.src.now) (source.left c.loop-buffer.src) (source.left c.take.new.self) before new c.loop-buffer.invariant.taken c.in_ok-count.ensures.bytes)
