-- Where two sortings agree, they give the same places.
use Rattle.std.proofs.Common.{◌≡◌, ℕ, zero, suc, ◌<◌, List, [], ◌∷◌, ◌++◌, length, map, Bool, true, refl, ap, sym, ◌∙◌, arith}
use Rattle.std.specs.Prelude.{slice_get, Option, Some, nat_lt, if◌then◌else◌}
use Rattle.std.specs.List.{list_all}
use Rattle.term_tree.specs.declared.sort.Sort.{Sort}
use Rattle.term_tree.specs.declared.sort.Sort.TheVariants.{Bool as Truth}
use Rattle.term_tree.specs.declared.node.TermId.{TermId}
use Rattle.term_tree.specs.declared.node.Node.{Node}
use Rattle.term_tree.specs.declared.node.Node.TheVariants.{Op}
use Rattle.term_tree.specs.declared.node.OpKind.{OpKind}
use Rattle.term_tree.specs.declared.node.OpKind.TheVariants.{Eq, Distinct}
use Rattle.term_tree.specs.Arena.{IsArena, is_below, has_parts_below}
use Rattle.term_tree.specs.Sorts.{has_sort}
use Rattle.term_tree.proofs.Public.{arena_below, below_from, both_true, there_is}
use Rattle.linear_terms.specs.declared.standing.Spot.{Spot}
use Rattle.linear_terms.specs.declared.standing.Standing.TheVariants.{Plain, Bit}
use Rattle.linear_terms.specs.Text.{Sorting, are_truths, inner_spots, needs_one, operands, spot_as}
use Rattle.term_places.specs.machinery.Placed.{all_placed, placed}
use Rattle.term_places.proofs.PlacedLemmas.{are_below, inner_below, placed_at}

truths_same : (S T : Sorting) (n : ℕ) (ids : List TermId) → ((c : ℕ) → c < n → S c ≡ T c) → list_all (is_below n) ids ≡ true → are_truths S ids ≡ are_truths T ids
truths_same S T n [] same below = refl
truths_same S T n (id ∷ ids) same below =
    ap (has_sort Truth) (same id.0 (below_from id.0 n (both_true (nat_lt id.0 n) (list_all (is_below n) ids) below).0))

compared_same : (S T : Sorting) (args : List TermId) → are_truths S args ≡ are_truths T args
    → map (spot_as (if are_truths S args then Bit else Plain)) args ≡ map (spot_as (if are_truths T args then Bit else Plain)) args
compared_same S T args same = ap (λ (b : Bool). map (spot_as (if b then Bit else Plain)) args) same

operands_same : (S T : Sorting) (n : ℕ) (args : List TermId) → ((c : ℕ) → c < n → S c ≡ T c) → list_all (is_below n) args ≡ true → (op : OpKind) → operands S op args ≡ operands T op args
operands_same S T n args same below Eq = compared_same S T args (truths_same S T n args same below)
operands_same S T n args same below Distinct = compared_same S T args (truths_same S T n args same below)
operands_same S T n args same below _ = refl

inner_same : (S T : Sorting) (n : ℕ) (node : Node) → ((c : ℕ) → c < n → S c ≡ T c) → has_parts_below n node ≡ true → inner_spots S node ≡ inner_spots T node
inner_same S T n (Op op args) same below = operands_same S T n args same below op
inner_same S T n _ same below = refl

all_same : (S T : Sorting) (nodes : List Node) (n : ℕ) (parts : List Spot) → ((part : Spot) → part.id < n → placed S nodes part ≡ placed T nodes part) → are_below n parts ≡ true
    → all_placed S nodes parts ≡ all_placed T nodes parts
all_same S T nodes n [] same below = refl
all_same S T nodes n (part ∷ parts) same below =
    let both = both_true (nat_lt part.id n) (are_below n parts) below in
    ap (λ (ns : List ℕ). ns ++ all_placed S nodes parts) (same part (below_from part.id n both.0)) ∙ ap (λ (ns : List ℕ). placed T nodes part ++ ns) (all_same S T nodes n parts same both.1)

-- the places of a term whose number is below m
pub placed_same : (S T : Sorting) (nodes : List Node) → IsArena nodes → (m : ℕ) → ((c : ℕ) → c < m → S c ≡ T c) → (n : ℕ) (spot : Spot) → spot.id < n → spot.id < m → spot.id < length nodes
    → placed S nodes spot ≡ placed T nodes spot
placed_same S T nodes arena m same zero spot h less within = absurd (omega arith)
placed_same S T nodes arena m same (suc n) spot h less within =
    let found = there_is nodes spot.id within in
    let node : Node = found.0 in
    let is : slice_get nodes spot.id ≡ Some node = found.1 in
    let below : has_parts_below spot.id node ≡ true = arena_below nodes spot.id node arena is in
    let inner_is : inner_spots S node ≡ inner_spots T node = inner_same S T spot.id node (λ c lower. same c (omega arith)) below in
    placed_at S nodes node spot is below
    ∙ ap (λ (s : Option Sort). (if needs_one spot.standing s (Some node) then spot.id ∷ [] else []) ++ all_placed S nodes (inner_spots S node)) (same spot.id less)
    ∙ ap (λ (ns : List ℕ). (if needs_one spot.standing (T spot.id) (Some node) then spot.id ∷ [] else []) ++ ns)
    (all_same S T nodes spot.id (inner_spots S node) (λ part lower. placed_same S T nodes arena m same n part (omega arith) (omega arith) (omega arith)) (inner_below S spot.id node below)
    ∙ ap (all_placed T nodes) inner_is)
    ∙ sym (placed_at T nodes node spot is below)
