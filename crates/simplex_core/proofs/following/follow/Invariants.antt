use Rattle.std.proofs.Common.{◌≡◌, None, true}
use Rattle.simplex_core.specs.machinery.Following.{IsFollowing, left}
use Rattle.simplex_core.specs.Run.{coordinates, crossed, moment}
use Rattle.simplex_core.proofs.following.follow.Given as goal

-- the run has come to this moment, the values are kept, and behind the first step no bounds are crossed
abbrev pub invariant-run : goal.invariant-run
invariant-run l = record {
  run : IsFollowing l.fn.t (moment l.t l.standings.items);
  kept : l.kept.items ≡ coordinates (moment l.t l.standings.items);
  ordered : l.ordered ≡ true → crossed l.t ≡ None;
}

-- how many steps are left
abbrev pub decreases-run : goal.decreases-run
decreases-run l = left l.fn.t l.standings.items
