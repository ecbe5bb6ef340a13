use Rattle.std.proofs.Common.{◌≡◌, ◌≤◌, ◌^◌, drop, map}
use Rattle.std.specs.Prelude.{max}
use Rattle.refutation_trees.specs.Refutation.{form_end, greatest_of}
use Rattle.refutation_trees.proofs.ends.+form_end.Given as goal

-- with the rest, it is that of all
abbrev pub invariant-forms_end-loop-part : goal.invariant-forms_end-loop-part
invariant-forms_end-loop-part l = record {
  is : max l.end (greatest_of (map form_end (drop l.part-index l.parts))) ≡ greatest_of (map form_end l.parts);
  small : l.end ≤ 2 ^ 32;
}
