use Rattle.std.proofs.Common.{◌≡◌, ◌*ℤ◌, false, true, drop}
use Rattle.std.specs.Prelude.{fold}
use Rattle.lin_atoms.specs.Linear.{is_short}
use Rattle.term_tree.specs.Constants.{constants_among}
use Rattle.term_tree.specs.Operators.{product_of}
use Rattle.linear_terms.specs.Short.{has_zero}
use Rattle.linear_terms.proofs.product.product.Given as goal

-- what the factors to come give from here is what all give, and none of them is 0
abbrev pub invariant-loop-constant : goal.invariant-loop-constant
invariant-loop-constant l = record {
  told : fold (λ x n. x *ℤ n) l.product (constants_among (drop l.constant-index l.constants)) ≡ product_of (constants_among l.constants);
  whole : has_zero (drop l.constant-index l.constants) ≡ false;
  short : is_short l.product ≡ true;
}
