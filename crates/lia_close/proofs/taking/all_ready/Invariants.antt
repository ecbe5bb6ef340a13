use Rattle.std.proofs.Common.{◌≡◌, ◌++◌, drop, true}
use Rattle.std.specs.List.{list_all}
use Rattle.int_rows.specs.Node.{end_of_quotients}
use Rattle.int_rows.specs.Ready.{ready_fits}
use Rattle.lia_node.specs.Known.{are_known, has_short_constant}
use Rattle.lia_close.specs.machinery.Taken.{all_ready}
use Rattle.lia_close.proofs.taking.all_ready.Given as goal

-- those so far, and the rest
abbrev pub invariant-loop-lit : goal.invariant-loop-lit
invariant-loop-lit l = record {
  made : l.made.items ++ all_ready l.quotient (drop l.lit-index l.lits) ≡ all_ready l.end l.lits;
  fit : list_all ready_fits l.made.items ≡ true;
  ends : end_of_quotients l.quotient (drop l.lit-index l.lits) ≡ end_of_quotients l.end l.lits;
  known : are_known l.quotient (drop l.lit-index l.lits) ≡ true;
  short : list_all has_short_constant (drop l.lit-index l.lits) ≡ true;
}
