use Rattle.std.proofs.Common.{◌≡◌, take, drop, map}
use Rattle.std.specs.Int.{int_div_euclid}
use Rattle.std.specs.List.{list_all}
use Rattle.lin_atoms.specs.Multiples.{is_multiple}
use Rattle.farkas_proof.proofs.narrow.wholes.Given as goal

-- the terms so far are divided, and those to come decide
abbrev pub invariant-loop-variable : goal.invariant-loop-variable
invariant-loop-variable l = record {
  made : l.made.items ≡ map (λ t. (t.0, int_div_euclid t.1 l.divisor)) (take l.variable-index l.terms);
  told : list_all (λ t. is_multiple l.divisor t.1) (drop l.variable-index l.terms) ≡ list_all (λ t. is_multiple l.divisor t.1) l.terms;
}
