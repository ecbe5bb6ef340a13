-- The text of a term by its node.
use Rattle.std.proofs.Common.{◌≡◌, ℕ, ◌<◌, List, [], ◌∷◌, ◌++◌, map, Bool, true, ◌&&◌, refl, ap, ◌∙◌}
use Rattle.std.specs.Prelude.{slice_get, Some, nat_lt, if◌then◌else◌}
use Rattle.std.specs.List.{flat_map, list_all}
use Rattle.term_tree.specs.declared.node.TermId.{TermId}
use Rattle.term_tree.specs.declared.node.Node.{Node}
use Rattle.term_tree.specs.declared.node.Node.TheVariants.{Pred, Op, Divisible, Let, Forall, Exists}
use Rattle.term_tree.specs.declared.node.OpKind.{OpKind}
use Rattle.term_tree.specs.declared.node.OpKind.TheVariants.{Xor, Eq, Distinct, Ite}
use Rattle.term_tree.specs.Arena.{is_below, has_parts_below}
use Rattle.term_tree.proofs.Public.{below_from, both_true, told_at_each}
use Rattle.linear_terms.specs.declared.standing.Spot.{Spot}
use Rattle.linear_terms.specs.declared.standing.Standing.{Standing}
use Rattle.linear_terms.specs.declared.standing.Standing.TheVariants.{Plain, Bit, Argument}
use Rattle.linear_terms.specs.Text.{Sorting, are_truths, chosen, inner_spots, node_spots, operands, spot_as, spots}

abbrev pub are_below : ℕ → List Spot → Bool
are_below n parts = list_all (λ s. nat_lt s.id n) parts

spots_below : (n : ℕ) (standing : Standing) (ids : List TermId) → list_all (is_below n) ids ≡ true → are_below n (map (spot_as standing) ids) ≡ true
spots_below n standing [] below = refl
spots_below n standing (id ∷ ids) below =
    let both = both_true (nat_lt id.0 n) (list_all (is_below n) ids) below in
    ap (λ (b : Bool). b && are_below n (map (spot_as standing) ids)) both.0 ∙ spots_below n standing ids both.1

chosen_below : (n : ℕ) (ids : List TermId) → list_all (is_below n) ids ≡ true → are_below n (chosen ids) ≡ true
chosen_below n [] below = refl
chosen_below n (id ∷ ids) below =
    let both = both_true (nat_lt id.0 n) (list_all (is_below n) ids) below in
    ap (λ (b : Bool). b && are_below n (map (spot_as Plain) ids)) both.0 ∙ spots_below n Plain ids both.1

operands_below : (sorts : Sorting) (n : ℕ) (args : List TermId) → list_all (is_below n) args ≡ true → (op : OpKind) → are_below n (operands sorts op args) ≡ true
operands_below sorts n args below Xor = spots_below n Bit args below
operands_below sorts n args below Eq = spots_below n (if are_truths sorts args then Bit else Plain) args below
operands_below sorts n args below Distinct = spots_below n (if are_truths sorts args then Bit else Plain) args below
operands_below sorts n args below Ite = chosen_below n args below
operands_below sorts n args below _ = spots_below n Plain args below

last_below : (n : ℕ) (parts : List Spot) (part : Spot) → are_below n parts ≡ true → nat_lt part.id n ≡ true → are_below n (parts ++ part ∷ []) ≡ true
last_below n [] part below less = ap (λ (b : Bool). b && true) less
last_below n (p ∷ parts) part below less =
    let both = both_true (nat_lt p.id n) (are_below n parts) below in
    ap (λ (b : Bool). b && are_below n (parts ++ part ∷ [])) both.0 ∙ last_below n parts part both.1 less

-- the parts of a node are below where it may stand
pub inner_below : (sorts : Sorting) (n : ℕ) (node : Node) → has_parts_below n node ≡ true → are_below n (inner_spots sorts node) ≡ true
inner_below sorts n (Pred pred args) below = spots_below n Argument args below
inner_below sorts n (Op op args) below = operands_below sorts n args below op
inner_below sorts n (Divisible by arg) below = ap (λ (b : Bool). b && true) below
inner_below sorts n (Let bound body) below =
    let both = both_true (list_all (is_below n) bound) (nat_lt body.0 n) below in last_below n (map (spot_as Bit) bound) (spot_as Plain body) (spots_below n Bit bound both.0) both.1
inner_below sorts n (Forall first kinds body) below = ap (λ (b : Bool). b && true) below
inner_below sorts n (Exists first kinds body) below = ap (λ (b : Bool). b && true) below
inner_below sorts n _ below = refl

parts_rest : (p q : ℕ → Spot → List Spot) (n : ℕ) (parts : List Spot) → ((c : ℕ) → c < n → (s : Spot) → p c s ≡ q c s) → are_below n parts ≡ true
    → flat_map (λ s. p s.id s) parts ≡ flat_map (λ s. q s.id s) parts
parts_rest p q n [] same below = refl
parts_rest p q n (part ∷ parts) same below =
    let both = both_true (nat_lt part.id n) (are_below n parts) below in
    ap (λ (xs : List Spot). xs ++ flat_map (λ (s : Spot). p s.id s) parts) (same part.id (below_from part.id n both.0) part)
    ∙ ap (λ (xs : List Spot). q part.id part ++ xs) (parts_rest p q n parts same both.1)

texts_rest : (sorts : Sorting) (p q : ℕ → Spot → List Spot) (n : ℕ) (node : Node) (spot : Spot) → ((c : ℕ) → c < n → (s : Spot) → p c s ≡ q c s) → has_parts_below n node ≡ true
    → node_spots sorts p node spot ≡ node_spots sorts q node spot
texts_rest sorts p q n node spot same below = ap (λ (xs : List Spot). spot ∷ xs) (parts_rest p q n (inner_spots sorts node) same (inner_below sorts n node below))

pub spots_at : (sorts : Sorting) (nodes : List Node) (id : ℕ) (node : Node) (spot : Spot) → slice_get nodes id ≡ Some node → has_parts_below id node ≡ true
    → spots sorts nodes id spot ≡ node_spots sorts (spots sorts nodes) node spot
spots_at sorts nodes id node spot is below = told_at_each Spot (List Spot) (λ s. []) (node_spots sorts) (texts_rest sorts) nodes id node spot is below
