use denote.Exit.{no}
use denote.Param.{param}
use denote.Param.Send.{arg_sync, param_sync, shr_sync}
use mir.Syntax.{named}
use Rattle.std.proofs.alloc.Global.TheSendSync as global
use Rattle.std.proofs.sync.atomic.AtomicBool.TheSendSync as atomic
use Rattle.worker_pool.proofs.limits.Limits.TheSendSync as limits
use Rattle.worker_pool.proofs.SendLemmas.{held-sync, shared-sync}
use Rattle.worker_pool.proofs.pool.all_work.Goals as goal

-- what the workers share: the runtime, the allocator, the book behind its lock, the limits, the gate, and whether one wanted memory
pub for_each_mut-requires-sync-F : goal.for_each_mut-requires-sync-F
for_each_mut-requires-sync-F g c κs within =
    param_sync 2 _ (arg_sync _ no _ (held-sync _ _ _ _ _ _ _
    (shr_sync (named 6) κs.1.1.1.1.1.1.0 _ c.type_bounds.sync-W)
    global.the_sync
    (shr_sync (named 7) κs.1.1.1.1.1.1.1.0 _ (shared-sync (param 0 g.row.R) g.R.Run g.R.Ledger))
    limits.the_sync
    (shr_sync (named 8) κs.1.1.1.1.1.1.1.1.0 _ c.type_bounds.sync-G)
    (shr_sync (named 9) κs.1.1.1.1.1.1.1.1.1.0 _ atomic.the_sync)))
