use Rattle.std.proofs.Common.{◌≡◌, ◌≤◌, ◌-◌, length, true}
use Rattle.std.specs.List.{list_all}
use Rattle.lia_divisors.specs.machinery.There.{is_blank}
use Rattle.lia_divisors.proofs.filled.blanks.Given as goal

-- those so far
abbrev pub invariant-blank : goal.invariant-blank
invariant-blank l = record {
  few : length l.made.items ≤ l.count;
  blank : list_all is_blank l.made.items ≡ true;
}

abbrev pub decreases-blank : goal.decreases-blank
decreases-blank l = l.count - length l.made.items
