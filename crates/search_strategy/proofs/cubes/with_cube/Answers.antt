use Rattle.search_strategy.proofs.cubes.with_cube.Goals as goal

pub try_cube-requires-clause-trying : goal.try_cube-requires-clause-trying
try_cube-requires-clause-trying c = c.new-tries.ensures.trying c.args.lent.now c.requires.learnt
