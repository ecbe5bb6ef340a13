-- The text of a term by its node.
use Rattle.std.proofs.Common.{◌≡◌, ℕ, ◌+◌, ◌<◌, List, [], ◌∷◌, ◌++◌, length, map, drop, get_or, Bool, true, false, ◌&&◌, refl, ap, sym, ◌∙◌, append_assoc}
use Rattle.std.specs.Prelude.{filter, slice_get, Option, Some, IsTrue, nat_lt, if◌then◌else◌}
use Rattle.std.specs.List.{flat_map, list_all}
use Rattle.std.proofs.lemmas.List.{drop_more}
use Rattle.term_tree.specs.declared.node.TermId.{TermId}
use Rattle.term_tree.specs.declared.node.Node.{Node}
use Rattle.term_tree.specs.declared.node.Node.TheVariants.{Pred, Op, Divisible, Let, Forall, Exists}
use Rattle.term_tree.specs.declared.node.OpKind.{OpKind}
use Rattle.term_tree.specs.declared.node.OpKind.TheVariants.{Xor, Eq, Distinct, Ite}
use Rattle.term_tree.specs.Arena.{is_below, has_parts_below}
use Rattle.term_tree.proofs.Public.{below_from, both_true, told_at_each}
use Rattle.linear_terms.specs.declared.standing.Spot.{Spot}
use Rattle.linear_terms.specs.declared.standing.Standing.{Standing}
use Rattle.linear_terms.specs.declared.standing.Standing.TheVariants.{Plain, Bit, Argument}
use Rattle.linear_terms.specs.Text.{Sorting, are_truths, chosen, has_auxiliary, inner_spots, needs_one, node_spots, operands, spot_as, spots}
use Rattle.term_places.specs.machinery.Placed.{all_placed, placed}

abbrev pub are_below : ℕ → List Spot → Bool
are_below n parts = list_all (λ s. nat_lt s.id n) parts

spots_below : (n : ℕ) (standing : Standing) (ids : List TermId) → list_all (is_below n) ids ≡ true → are_below n (map (spot_as standing) ids) ≡ true
spots_below n standing [] below = refl
spots_below n standing (id ∷ ids) below =
    let both = both_true (nat_lt id.0 n) (list_all (is_below n) ids) below in
    ap (λ (b : Bool). b && are_below n (map (spot_as standing) ids)) both.0 ∙ spots_below n standing ids both.1

chosen_below : (n : ℕ) (ids : List TermId) → list_all (is_below n) ids ≡ true → are_below n (chosen ids) ≡ true
chosen_below n [] below = refl
chosen_below n (id ∷ ids) below =
    let both = both_true (nat_lt id.0 n) (list_all (is_below n) ids) below in
    ap (λ (b : Bool). b && are_below n (map (spot_as Plain) ids)) both.0 ∙ spots_below n Plain ids both.1

operands_below : (sorts : Sorting) (n : ℕ) (args : List TermId) → list_all (is_below n) args ≡ true → (op : OpKind) → are_below n (operands sorts op args) ≡ true
operands_below sorts n args below Xor = spots_below n Bit args below
operands_below sorts n args below Eq = spots_below n (if are_truths sorts args then Bit else Plain) args below
operands_below sorts n args below Distinct = spots_below n (if are_truths sorts args then Bit else Plain) args below
operands_below sorts n args below Ite = chosen_below n args below
operands_below sorts n args below _ = spots_below n Plain args below

last_below : (n : ℕ) (parts : List Spot) (part : Spot) → are_below n parts ≡ true → nat_lt part.id n ≡ true → are_below n (parts ++ part ∷ []) ≡ true
last_below n [] part below less = ap (λ (b : Bool). b && true) less
last_below n (p ∷ parts) part below less =
    let both = both_true (nat_lt p.id n) (are_below n parts) below in
    ap (λ (b : Bool). b && are_below n (parts ++ part ∷ [])) both.0 ∙ last_below n parts part both.1 less

-- the parts of a node are below where it may stand
pub inner_below : (sorts : Sorting) (n : ℕ) (node : Node) → has_parts_below n node ≡ true → are_below n (inner_spots sorts node) ≡ true
inner_below sorts n (Pred pred args) below = spots_below n Argument args below
inner_below sorts n (Op op args) below = operands_below sorts n args below op
inner_below sorts n (Divisible by arg) below = ap (λ (b : Bool). b && true) below
inner_below sorts n (Let bound body) below =
    let both = both_true (list_all (is_below n) bound) (nat_lt body.0 n) below in last_below n (map (spot_as Bit) bound) (spot_as Plain body) (spots_below n Bit bound both.0) both.1
inner_below sorts n (Forall first kinds body) below = ap (λ (b : Bool). b && true) below
inner_below sorts n (Exists first kinds body) below = ap (λ (b : Bool). b && true) below
inner_below sorts n _ below = refl

parts_rest : (p q : ℕ → Spot → List Spot) (n : ℕ) (parts : List Spot) → ((c : ℕ) → c < n → (s : Spot) → p c s ≡ q c s) → are_below n parts ≡ true
    → flat_map (λ s. p s.id s) parts ≡ flat_map (λ s. q s.id s) parts
parts_rest p q n [] same below = refl
parts_rest p q n (part ∷ parts) same below =
    let both = both_true (nat_lt part.id n) (are_below n parts) below in
    ap (λ (xs : List Spot). xs ++ flat_map (λ (s : Spot). p s.id s) parts) (same part.id (below_from part.id n both.0) part)
    ∙ ap (λ (xs : List Spot). q part.id part ++ xs) (parts_rest p q n parts same both.1)

texts_rest : (sorts : Sorting) (p q : ℕ → Spot → List Spot) (n : ℕ) (node : Node) (spot : Spot) → ((c : ℕ) → c < n → (s : Spot) → p c s ≡ q c s) → has_parts_below n node ≡ true
    → node_spots sorts p node spot ≡ node_spots sorts q node spot
texts_rest sorts p q n node spot same below = ap (λ (xs : List Spot). spot ∷ xs) (parts_rest p q n (inner_spots sorts node) same (inner_below sorts n node below))

spots_at : (sorts : Sorting) (nodes : List Node) (id : ℕ) (node : Node) (spot : Spot) → slice_get nodes id ≡ Some node → has_parts_below id node ≡ true
    → spots sorts nodes id spot ≡ node_spots sorts (spots sorts nodes) node spot
spots_at sorts nodes id node spot is below = told_at_each Spot (List Spot) (λ s. []) (node_spots sorts) (texts_rest sorts) nodes id node spot is below

abbrev marked : (Spot → Bool) → List Spot → List ℕ
marked test parts = map (λ (s : Spot). s.id) (filter test parts)

marked_on : (test : Spot → Bool) (part : Spot) (parts : List Spot) → marked test (part ∷ parts) ≡ (if test part then part.id ∷ [] else []) ++ marked test parts
marked_on test part parts = by_test (test part)
  where
    by_test : (b : Bool) → map (λ (s : Spot). s.id) (if b then part ∷ filter test parts else filter test parts) ≡ (if b then part.id ∷ [] else []) ++ marked test parts
    by_test true = refl
    by_test false = refl

marked_both : (test : Spot → Bool) (xs ys : List Spot) → marked test (xs ++ ys) ≡ marked test xs ++ marked test ys
marked_both test [] ys = refl
marked_both test (x ∷ xs) ys =
    marked_on test x (xs ++ ys) ∙ ap (λ (ns : List ℕ). (if test x then x.id ∷ [] else []) ++ ns) (marked_both test xs ys)
    ∙ sym (append_assoc (if test x then x.id ∷ [] else []) (marked test xs) (marked test ys)) ∙ ap (λ (ns : List ℕ). ns ++ marked test ys) (sym (marked_on test x xs))

all_marked : (sorts : Sorting) (nodes : List Node) (parts : List Spot)
    → marked (has_auxiliary sorts nodes) (flat_map (λ s. spots sorts nodes s.id s) parts) ≡ all_placed sorts nodes parts
all_marked sorts nodes [] = refl
all_marked sorts nodes (part ∷ parts) =
    marked_both (has_auxiliary sorts nodes) (spots sorts nodes part.id part) (flat_map (λ (s : Spot). spots sorts nodes s.id s) parts)
    ∙ ap (λ (ns : List ℕ). placed sorts nodes part ++ ns) (all_marked sorts nodes parts)

-- a term, where it has an auxiliary variable, and then those of its parts
pub placed_at : (sorts : Sorting) (nodes : List Node) (node : Node) (spot : Spot) → slice_get nodes spot.id ≡ Some node → has_parts_below spot.id node ≡ true
    → placed sorts nodes spot ≡ (if needs_one spot.standing (sorts spot.id) (Some node) then spot.id ∷ [] else []) ++ all_placed sorts nodes (inner_spots sorts node)
placed_at sorts nodes node spot is below =
    ap (marked (has_auxiliary sorts nodes)) (spots_at sorts nodes spot.id node spot is below)
    ∙ marked_on (has_auxiliary sorts nodes) spot (flat_map (λ (s : Spot). spots sorts nodes s.id s) (inner_spots sorts node))
    ∙ ap (λ (o : Option Node). (if needs_one spot.standing (sorts spot.id) o then spot.id ∷ [] else []) ++ marked (has_auxiliary sorts nodes) (flat_map (λ (s : Spot). spots sorts nodes s.id s) (inner_spots sorts node))) is
    ∙ ap (λ (ns : List ℕ). (if needs_one spot.standing (sorts spot.id) (Some node) then spot.id ∷ [] else []) ++ ns) (all_marked sorts nodes (inner_spots sorts node))

-- those of one more part
pub placed_more : (sorts : Sorting) (nodes : List Node) (standing : Standing) (before new : List ℕ) (ids : List TermId) (i : ℕ) (d : TermId) (whole : List ℕ) → i < length ids
    → before ++ all_placed sorts nodes (map (spot_as standing) (drop i ids)) ≡ whole → new ≡ before ++ placed sorts nodes (spot_as standing (get_or ids i d))
    → new ++ all_placed sorts nodes (map (spot_as standing) (drop (i + 1) ids)) ≡ whole
placed_more sorts nodes standing before new ids i d whole h is pushed =
    let later : List ℕ = all_placed sorts nodes (map (spot_as standing) (drop (i + 1) ids)) in
    ap (λ (ns : List ℕ). ns ++ later) pushed ∙ append_assoc before (placed sorts nodes (spot_as standing (get_or ids i d))) later
    ∙ ap (λ (xs : List TermId). before ++ all_placed sorts nodes (map (spot_as standing) xs)) (sym (drop_more ids i d h)) ∙ is

pub part_at : (n : ℕ) (ids : List TermId) (i : ℕ) (d : TermId) → i < length ids → IsTrue (list_all (is_below n) (drop i ids)) → ((get_or ids i d).0 < n) × IsTrue (list_all (is_below n) (drop (i + 1) ids))
part_at n ids i d h below =
    let split : list_all (is_below n) (get_or ids i d ∷ drop (i + 1) ids) ≡ true = ap (list_all (is_below n)) (sym (drop_more ids i d h)) ∙ below in
    let both = both_true (nat_lt (get_or ids i d).0 n) (list_all (is_below n) (drop (i + 1) ids)) split in
    (below_from (get_or ids i d).0 n both.0, both.1)

-- those of parts and of one behind them
pub placed_last : (sorts : Sorting) (nodes : List Node) (parts : List Spot) (part : Spot) → all_placed sorts nodes (parts ++ part ∷ []) ≡ all_placed sorts nodes parts ++ all_placed sorts nodes (part ∷ [])
placed_last sorts nodes [] part = refl
placed_last sorts nodes (first ∷ parts) part =
    ap (λ (ns : List ℕ). placed sorts nodes first ++ ns) (placed_last sorts nodes parts part) ∙ sym (append_assoc (placed sorts nodes first) (all_placed sorts nodes parts) (all_placed sorts nodes (part ∷ [])))

-- those of the parts behind what there was, and then those of one behind them
pub put_last : (sorts : Sorting) (nodes : List Node) (before middle new : List ℕ) (parts : List Spot) (part : Spot) → middle ≡ before ++ all_placed sorts nodes parts
    → new ≡ middle ++ all_placed sorts nodes (part ∷ []) → new ≡ before ++ all_placed sorts nodes (parts ++ part ∷ [])
put_last sorts nodes before middle new parts part first last =
    last ∙ ap (λ (ns : List ℕ). ns ++ all_placed sorts nodes (part ∷ [])) first ∙ append_assoc before (all_placed sorts nodes parts) (all_placed sorts nodes (part ∷ []))
    ∙ ap (λ (ns : List ℕ). before ++ ns) (sym (placed_last sorts nodes parts part))

-- those of one part, and then those of more
pub put_first : (sorts : Sorting) (nodes : List Node) (before middle new : List ℕ) (part : Spot) (parts : List Spot) → middle ≡ before ++ placed sorts nodes part → new ≡ middle ++ all_placed sorts nodes parts
    → new ≡ before ++ all_placed sorts nodes (part ∷ parts)
put_first sorts nodes before middle new part parts first rest =
    rest ∙ ap (λ (ns : List ℕ). ns ++ all_placed sorts nodes parts) first ∙ append_assoc before (placed sorts nodes part) (all_placed sorts nodes parts)

nothing_behind : (xs : List ℕ) → xs ++ [] ≡ xs
nothing_behind [] = refl
nothing_behind (x ∷ xs) = ap (λ (ys : List ℕ). x ∷ ys) (nothing_behind xs)

-- those of one part alone
pub put_only : (sorts : Sorting) (nodes : List Node) (before new : List ℕ) (part : Spot) → new ≡ before ++ placed sorts nodes part → new ≡ before ++ all_placed sorts nodes (part ∷ [])
put_only sorts nodes before new part is = is ∙ ap (λ (ns : List ℕ). before ++ ns) (sym (nothing_behind (placed sorts nodes part)))
