use Rattle.std.proofs.Common.{◌≡◌, ◌<◌, ℕ, length}
use Rattle.std.specs.Prelude.{unwrap_or}
use Rattle.std.specs.Ordering.{nat_cmp}
use Rattle.std.specs.BTreeMap.{get}
use Rattle.lin_atoms.specs.Algebra.{name_in}
use Rattle.term_widths.proofs.apart.first_names.Given as goal

-- the names so far
abbrev pub invariant-loop-binder : goal.invariant-loop-binder
invariant-loop-binder l = record {
  count : length l.named.items ≡ l.binder;
  each : (k : ℕ) → k < l.binder → name_in l.named.items k ≡ unwrap_or (get nat_cmp l.firsts (name_in l.own k)) k;
}
