use Rattle.std.proofs.Common.{arith}
use Rattle.term_check.proofs.bindings.Bindings.len.Goals as goal

pub overflow_add-result : goal.overflow_add-result
overflow_add-result c = omega (arith, c.self.inside.few.ok.1, c.self.inside.few.small, c.len.ensures, c.len-2.ensures.short)
