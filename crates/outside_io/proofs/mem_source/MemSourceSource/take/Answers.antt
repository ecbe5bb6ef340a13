use Rattle.std.proofs.Common.{◌≤◌, List, length, drop, Some, ap, arith}
use Rattle.std.specs.Prelude.{ℕ}
use Rattle.outside_io.proofs.ByteLemmas.{rest_slice, copied_front}
use Rattle.outside_io.proofs.mem_source.MemSourceSource.take.Goals as goal

pub returns-clause-bytes : goal.returns-clause-bytes
returns-clause-bytes c =
    let bytes : List ℕ = c.args.self.now.bytes.items in
    let at = c.args.self.now.at in
    let n = c.min-count.result in
    let copied = rw (c.deref-2.ensures.value, rest_slice bytes at) at c.copy_from_slice.ensures.after in
    let fits = rw (c.deref-2.ensures.value, rest_slice bytes at) at c.min.ensures in
    let short : n ≤ length (drop at bytes) = omega (arith, fits, c.min-count.ensures) in
    ap (λ (x : List ℕ). Some x) (copied_front bytes (drop n c.args.into.now) c.copy_from_slice.new.self at n short copied)
