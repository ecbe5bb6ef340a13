-- The script of a depth and a seed: consecutive numbers are nodes of depth 0, the first of them picked by a linear
-- congruential step; a node stands over its two children; and the root is no node of that depth.
use Rattle.std.specs.Prelude.{ℕ, ◌+◌, ◌*◌, ◌%◌, ◌^◌, List, [], ◌∷◌, ◌++◌, codes, map, replicate, ℤ, pos}
use Rattle.term_tree.specs.declared.sort.Sort.TheVariants.{Int}
use Rattle.term_tree.specs.declared.node.TermId.{TermId}
use Rattle.term_tree.specs.declared.node.OpKind.TheVariants.{Not, And, Implies, Eq, Add, Mul, Le, Lt}
use Rattle.term_tree.specs.declared.node.Node.{Node}
use Rattle.term_tree.specs.declared.node.Node.TheVariants.{Num, Var, Op, Pred as Applied, Forall}
use Rattle.term_tree.specs.declared.script.Pred.{Pred}
use Rattle.term_tree.specs.declared.script.Assertion.{Assertion}
use Rattle.term_tree.specs.declared.script.Script.{Script}

-- the number of the root
abbrev pub root_number : ℕ → ℕ
root_number seed = (1103515245 * seed + 12345) % 2 ^ 31 % 1000

-- these numbers of nodes as names of terms
abbrev pub ids : List ℕ → List TermId
ids ns = map (λ n. record { 0 = n }) ns

-- a use of the first variable that is bound, d: the depth of a node
abbrev pub var_d : Node
var_d = Var 0 Int

-- a use of the second variable that is bound, i: the number of a node at its depth
abbrev pub var_i : Node
var_i = Var 1 Int

-- the one predicate, `node`, applied to the terms of these numbers
abbrev pub node_at : List ℕ → Node
node_at args = Applied 0 (ids args)

-- the universal term over two integers, d and i, with the term of that number as its body
abbrev pub for_all_d_i : ℕ → Node
for_all_d_i body = Forall 0 (Int ∷ Int ∷ []) (record { 0 = body })

-- 0 to 14: (forall ((d Int) (i Int)) (=> (and (= d 0) (<= low i) (< i high)) (node d i)))
abbrev pub leaves : ℤ → ℤ → List Node
leaves low high =
    var_d ∷ Num (pos 0) ∷ Op Eq (ids (0 ∷ 1 ∷ []))
    ∷ Num low ∷ var_i ∷ Op Le (ids (3 ∷ 4 ∷ []))
    ∷ var_i ∷ Num high ∷ Op Lt (ids (6 ∷ 7 ∷ []))
    ∷ Op And (ids (2 ∷ 5 ∷ 8 ∷ []))
    ∷ var_d ∷ var_i ∷ node_at (10 ∷ 11 ∷ [])
    ∷ Op Implies (ids (9 ∷ 12 ∷ [])) ∷ for_all_d_i 13 ∷ []

-- 15 to 26: (node d (* 2 i)) and (node d (+ (* 2 i) 1))
abbrev pub children : List Node
children =
    var_d ∷ Num (pos 2) ∷ var_i ∷ Op Mul (ids (16 ∷ 17 ∷ [])) ∷ node_at (15 ∷ 18 ∷ [])
    ∷ var_d ∷ Num (pos 2) ∷ var_i ∷ Op Mul (ids (21 ∷ 22 ∷ [])) ∷ Num (pos 1) ∷ Op Add (ids (23 ∷ 24 ∷ [])) ∷ node_at (20 ∷ 25 ∷ []) ∷ []

-- 27 to 34: (forall ((d Int) (i Int)) (=> (and CHILD CHILD) (node (+ d 1) i)))
abbrev pub parent : List Node
parent =
    Op And (ids (19 ∷ 26 ∷ []))
    ∷ var_d ∷ Num (pos 1) ∷ Op Add (ids (28 ∷ 29 ∷ [])) ∷ var_i ∷ node_at (30 ∷ 31 ∷ [])
    ∷ Op Implies (ids (27 ∷ 32 ∷ [])) ∷ for_all_d_i 33 ∷ []

-- 35 to 38: (not (node depth start))
abbrev pub query : ℤ → ℤ → List Node
query depth start = Num depth ∷ Num start ∷ node_at (35 ∷ 36 ∷ []) ∷ Op Not (ids (37 ∷ [])) ∷ []

-- all 39 terms of a script in order of number: those of its nodes of depth 0, of a parent, and of the query
abbrev pub generated_nodes : ℕ → ℕ → List Node
generated_nodes depth start =
    leaves (pos (start * 2 ^ depth)) (pos ((start + 1) * 2 ^ depth)) ++ children ++ parent ++ query (pos depth) (pos start)

-- as many zeros: where terms start that were made and read from no text
abbrev pub zeros : ℕ → List ℕ
zeros n = replicate n 0

-- the assertions stand after `set-logic` and the declaration
abbrev pub generated_asserts : List Assertion
generated_asserts =
    record { term = record { 0 = 14 }; offset = 0; command = 2 }
    ∷ record { term = record { 0 = 34 }; offset = 0; command = 3 }
    ∷ record { term = record { 0 = 38 }; offset = 0; command = 4 } ∷ []

-- (declare-fun node (Int Int) Bool)
abbrev pub generated_preds : List Pred
generated_preds = record { name = record { bytes = codes "node" }; args = Int ∷ Int ∷ [] } ∷ []

-- the script of that depth and seed: one predicate, three assertions, and their terms
abbrev pub generated_script : ℕ → ℕ → Script
generated_script depth seed = record {
  preds = generated_preds;
  asserts = generated_asserts;
  terms = record { nodes = generated_nodes depth (root_number seed); offsets = zeros 39 };
}
