use Rattle.worker_pool.proofs.working.work.Goals as goal

pub loop-init : goal.loop-init
loop-init g c = c.new-mind.ensures g.R.Run.system
