-- The generated terms are legal.
use Rattle.std.proofs.Common.{◌≡◌, ℕ, ◌+◌, ◌*◌, ◌^◌, ◌<◌, ◌≤◌, List, [], get_or, Bool, true, false, refl, ap, sym, ◌∙◌, arith, lit<}
use Rattle.std.proofs.Math.Nat.{pow-le-pow_right}
use Rattle.std.proofs.Math.Nat.{mul-le-mul}
use Rattle.std.proofs.lemmas.Bool.Decides.{nat_tests}
use Rattle.std.proofs.lemmas.List.Folds.{list_all_at}
use Rattle.std.proofs.lemmas.Option.{get_or_from_slice_get, slice_get_within}
use Rattle.std.specs.Prelude.{nat_lt}
use Rattle.std.specs.List.{list_all}
use Rattle.term_tree.specs.declared.sort.Sort.TheVariants.{Bool as Truth}
use Rattle.term_tree.specs.declared.node.Node.{Node}
use Rattle.term_tree.specs.Constants.{constant_of, is_linear, has_short_constants}
use Rattle.term_tree.specs.Legal.{IsLegal}
use Rattle.term_tree.specs.Subterms.{EverySubterm}
use Rattle.clause_gen.specs.Generated.{root_number, generated_nodes, generated_preds}

-- what all nodes pass, all subterms pass
every : (test : Node → Bool) (nodes : List Node) (top : ℕ) → list_all test nodes ≡ true → EverySubterm test nodes top
every test nodes top all id node s at = decided (test node) refl
  where
    decided : (b : Bool) → test node ≡ b → test node ≡ true
    decided true e = e
    decided false e =
        let here : test (get_or nodes id node) ≡ false = ap test (get_or_from_slice_get nodes id node node at) ∙ e in
        let not_all : list_all test nodes ≡ false = list_all_at test nodes id node (slice_get_within nodes id node at) here in
        let clash : true ≡ false = sym all ∙ not_all in
        absurd (cc)

below_bound : (n : ℕ) → n < 2 ^ 63 → nat_lt n (2 ^ 63) ≡ true
below_bound n h = grind (arith, nat_tests)

module _ (depth seed : ℕ) (most : depth ≤ 12) where
  all_linear : list_all (is_linear (constant_of (generated_nodes depth (root_number seed)))) (generated_nodes depth (root_number seed)) ≡ true
  all_linear = refl

  width : 2 ^ depth ≤ 2 ^ 12
  width = pow-le-pow_right (lit< tt) most

  product_small : (n : ℕ) → n ≤ 1000 → n * 2 ^ depth < 2 ^ 63
  product_small n h =
      let m : n * 2 ^ depth ≤ 1000 * 2 ^ 12 = mul-le-mul h width in omega arith

  all_short : list_all (has_short_constants (constant_of (generated_nodes depth (root_number seed)))) (generated_nodes depth (root_number seed)) ≡ true
  all_short =
      let start_small : root_number seed < 1000 = omega arith in
      let low : nat_lt (root_number seed * 2 ^ depth) (2 ^ 63) ≡ true = below_bound (root_number seed * 2 ^ depth) (product_small (root_number seed) (omega arith)) in
      let high : nat_lt ((root_number seed + 1) * 2 ^ depth) (2 ^ 63) ≡ true = below_bound ((root_number seed + 1) * 2 ^ depth) (product_small (root_number seed + 1) (omega arith)) in
      let deep : nat_lt depth (2 ^ 63) ≡ true = below_bound depth (omega arith) in
      let first : nat_lt (root_number seed) (2 ^ 63) ≡ true = below_bound (root_number seed) (omega arith) in
      simp (low, high, deep, first)

  pub facts_legal : IsLegal generated_preds (generated_nodes depth (root_number seed)) [] Truth 14
  facts_legal = record {
    sorted = refl;
    scoped = refl;
    numbered = refl;
    linear = every (is_linear (constant_of (generated_nodes depth (root_number seed)))) (generated_nodes depth (root_number seed)) 14 all_linear;
    short = every (has_short_constants (constant_of (generated_nodes depth (root_number seed)))) (generated_nodes depth (root_number seed)) 14 all_short;
  }

  pub parents_legal : IsLegal generated_preds (generated_nodes depth (root_number seed)) [] Truth 34
  parents_legal = record {
    sorted = refl;
    scoped = refl;
    numbered = refl;
    linear = every (is_linear (constant_of (generated_nodes depth (root_number seed)))) (generated_nodes depth (root_number seed)) 34 all_linear;
    short = every (has_short_constants (constant_of (generated_nodes depth (root_number seed)))) (generated_nodes depth (root_number seed)) 34 all_short;
  }

  pub query_legal : IsLegal generated_preds (generated_nodes depth (root_number seed)) [] Truth 38
  query_legal = record {
    sorted = refl;
    scoped = refl;
    numbered = refl;
    linear = every (is_linear (constant_of (generated_nodes depth (root_number seed)))) (generated_nodes depth (root_number seed)) 38 all_linear;
    short = every (has_short_constants (constant_of (generated_nodes depth (root_number seed)))) (generated_nodes depth (root_number seed)) 38 all_short;
  }
