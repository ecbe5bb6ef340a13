-- Tables of what is told of terms, filled from the first term on.
use Rattle.std.proofs.Common.{◌≡◌, ℕ, ◌+◌, ◌<◌, ◌≤◌, ◌-◌, ◌==◌, List, [], ◌∷◌, ◌++◌, length, map, drop, get_or, append_assoc, length-drop, Bool, true, false, ◌&&◌, inl, inr, refl, ap, sym, ◌∙◌, arith}
use Rattle.std.proofs.lemmas.List.{drop_all, drop_more, get_or_append_left, get_or_past, get_or_push}
use Rattle.std.proofs.lemmas.Bool.Decides.{nat_tests}
use Rattle.std.proofs.lemmas.Bool.{cases_lt}
use Rattle.std.specs.Prelude.{slice_get, slice_index_or, Option, Some, None, option_map, ℤ, nat_lt, if◌then◌else◌}
use Rattle.std.specs.List.{list_all}
use Rattle.term_tree.specs.declared.sort.Sort.{Sort}
use Rattle.term_tree.specs.declared.sort.Sort.TheVariants.{Int as IntSort, Bool as BoolSort}
use Rattle.term_tree.specs.declared.script.Pred.{Pred as Declared}
use Rattle.term_tree.specs.declared.node.TermId.{TermId}
use Rattle.term_tree.specs.declared.node.Node.{Node}
use Rattle.term_tree.specs.declared.node.Node.TheVariants.{LetVar, Pred, Op, Divisible, Let, Forall, Exists}
use Rattle.term_tree.specs.Arena.{is_below, has_parts_below}
use Rattle.term_tree.specs.Constants.{all_constant}
use Rattle.term_tree.specs.Sorts.{has_sort, have_sorts, is_sorted, node_sort, operation_sort, predicate_sort, sort_if, sort_of}
use Rattle.term_tree.proofs.Public.{below_from, both_true, sort_at, told_at, told_past}
use Rattle.term_tables.specs.machinery.Table.{AreConstants, AreSorts, constant_in, short_constant, short_constant_of, short_kept, short_operation, sort_in}

-- one more entry
pub table_more : (X : Type 0) (none : X) (told : ℕ → X) (known more : List X) (i : ℕ) (x : X) → length known ≡ i → ((id : ℕ) → id < i → slice_index_or known id none ≡ told id)
    → x ≡ told i → more ≡ known ++ x ∷ [] → (id : ℕ) → id < i + 1 → slice_index_or more id none ≡ told id
table_more X none told known more i x long are here pushed id less =
    ap (λ (xs : List X). slice_index_or xs id none) pushed ∙ elim (cases_lt id i) [
      | inl lt ↦ get_or_append_left known (x ∷ []) none id (omega (arith, long, lt)) ∙ are id lt
      | inr ge ↦ let same : id ≡ i = omega arith in get_or_push known x none id (long ∙ sym same) ∙ here ∙ sym (ap told same)
    ]

-- parts that are told the same
maps_same : (X : Type 0) (p q : ℕ → X) (n : ℕ) (ids : List TermId) → ((c : ℕ) → c < n → p c ≡ q c) → list_all (is_below n) ids ≡ true
    → map (λ id. p id.0) ids ≡ map (λ id. q id.0) ids
maps_same X p q n [] same below = refl
maps_same X p q n (id ∷ ids) same below =
    let both = both_true (nat_lt id.0 n) (list_all (is_below n) ids) below in
    ap (λ (x : X). x ∷ map (λ (i : TermId). p i.0) ids) (same id.0 (below_from id.0 n both.0)) ∙ ap (λ (xs : List X). q id.0 ∷ xs) (maps_same X p q n ids same both.1)

sorts_rest : (preds : List Declared) (p q : ℕ → Option Sort) (n : ℕ) (node : Node) → ((c : ℕ) → c < n → p c ≡ q c) → has_parts_below n node ≡ true → node_sort preds p node ≡ node_sort preds q node
sorts_rest preds p q n (LetVar bound) same below = same bound.0 (below_from bound.0 n below)
sorts_rest preds p q n (Pred pred args) same below = ap (predicate_sort (slice_get preds pred)) (maps_same (Option Sort) p q n args same below)
sorts_rest preds p q n (Op op args) same below = ap (operation_sort op) (maps_same (Option Sort) p q n args same below)
sorts_rest preds p q n (Divisible by arg) same below = ap (λ (s : Option Sort). sort_if (has_sort IntSort s) BoolSort) (same arg.0 (below_from arg.0 n below))
sorts_rest preds p q n (Let bound body) same below =
    let both = both_true (list_all (is_below n) bound) (nat_lt body.0 n) below in
    ap (λ (given : List (Option Sort)). if list_all is_sorted given then p body.0 else None) (maps_same (Option Sort) p q n bound same both.0)
    ∙ ap (λ (s : Option Sort). if list_all is_sorted (map (λ (b : TermId). q b.0) bound) then s else None) (same body.0 (below_from body.0 n both.1))
sorts_rest preds p q n (Forall first sorts body) same below = ap (λ (s : Option Sort). sort_if (has_sort BoolSort s) BoolSort) (same body.0 (below_from body.0 n below))
sorts_rest preds p q n (Exists first sorts body) same below = ap (λ (s : Option Sort). sort_if (has_sort BoolSort s) BoolSort) (same body.0 (below_from body.0 n below))
sorts_rest preds p q n _ same below = refl

-- the sort of the next term
pub sort_here : (preds : List Declared) (nodes : List Node) (known : List (Option Sort)) (i : ℕ) (node : Node) → slice_get nodes i ≡ Some node → has_parts_below i node ≡ true
    → ((id : ℕ) → id < i → sort_in known id ≡ sort_of preds nodes id) → node_sort preds (sort_in known) node ≡ sort_of preds nodes i
sort_here preds nodes known i node is below are = sorts_rest preds (sort_in known) (sort_of preds nodes) i node are below ∙ sym (sort_at preds nodes i node is below)

pub all_sorts : (preds : List Declared) (nodes : List Node) (known : List (Option Sort)) (i : ℕ) → length known ≡ i → length nodes ≤ i
    → ((id : ℕ) → id < i → sort_in known id ≡ sort_of preds nodes id) → AreSorts preds nodes known
all_sorts preds nodes known i long whole are id fits = elim (cases_lt id i) [
  | inl lt ↦ are id lt
  | inr ge ↦ get_or_past known id None (omega arith) ∙ sym (told_past (Option Sort) None (node_sort preds) nodes id (omega arith))
]

constants_rest : (p q : ℕ → Option ℤ) (n : ℕ) (node : Node) → ((c : ℕ) → c < n → p c ≡ q c) → has_parts_below n node ≡ true → short_constant p node ≡ short_constant q node
constants_rest p q n (LetVar bound) same below = ap short_kept (same bound.0 (below_from bound.0 n below))
constants_rest p q n (Op op args) same below = ap (λ (given : List (Option ℤ)). short_operation op (all_constant given)) (maps_same (Option ℤ) p q n args same below)
constants_rest p q n (Let bound body) same below =
    let both = both_true (list_all (is_below n) bound) (nat_lt body.0 n) below in ap short_kept (same body.0 (below_from body.0 n both.1))
constants_rest p q n _ same below = refl

pub short_at : (nodes : List Node) (id : ℕ) (node : Node) → slice_get nodes id ≡ Some node → has_parts_below id node ≡ true
    → short_constant_of nodes id ≡ short_constant (short_constant_of nodes) node
short_at nodes id node is below = told_at (Option ℤ) None short_constant constants_rest nodes id node is below

-- the value of the next term
pub constant_here : (nodes : List Node) (known : List (Option ℤ)) (i : ℕ) (node : Node) → slice_get nodes i ≡ Some node → has_parts_below i node ≡ true
    → ((id : ℕ) → id < i → constant_in known id ≡ short_constant_of nodes id) → short_constant (constant_in known) node ≡ short_constant_of nodes i
constant_here nodes known i node is below are = constants_rest (constant_in known) (short_constant_of nodes) i node are below ∙ sym (short_at nodes i node is below)

pub all_constants : (nodes : List Node) (known : List (Option ℤ)) (i : ℕ) → length known ≡ i → length nodes ≤ i
    → ((id : ℕ) → id < i → constant_in known id ≡ short_constant_of nodes id) → AreConstants nodes known
all_constants nodes known i long whole are id fits = elim (cases_lt id i) [
  | inl lt ↦ are id lt
  | inr ge ↦ get_or_past known id None (omega arith) ∙ sym (told_past (Option ℤ) None short_constant nodes id (omega arith))
]

-- the sorts of terms, one after the other
pub sorts_at : (f : TermId → Option Sort) (sorts : List Sort) (ids : List TermId) (i : ℕ) (s : Sort) (d : TermId) → i < length sorts → i < length ids → (b : Bool) → has_sort (get_or sorts i s) (f (get_or ids i d)) ≡ b
    → have_sorts (drop i sorts) (map f (drop i ids)) ≡ (b && have_sorts (drop (i + 1) sorts) (map f (drop (i + 1) ids)))
sorts_at f sorts ids i s d h g b is =
    ap (λ (xs : List Sort). have_sorts xs (map f (drop i ids))) (drop_more sorts i s h) ∙ ap (λ (ys : List TermId). have_sorts (get_or sorts i s ∷ drop (i + 1) sorts) (map f ys)) (drop_more ids i d g)
    ∙ ap (λ (x : Bool). x && have_sorts (drop (i + 1) sorts) (map f (drop (i + 1) ids))) is

pub sorts_short : (f : TermId → Option Sort) (sorts : List Sort) (ids : List TermId) (i : ℕ) (s : Sort) → i < length sorts → length ids ≤ i → have_sorts (drop i sorts) (map f (drop i ids)) ≡ false
sorts_short f sorts ids i s h g =
    ap (λ (xs : List Sort). have_sorts xs (map f (drop i ids))) (drop_more sorts i s h) ∙ ap (λ (ys : List TermId). have_sorts (get_or sorts i s ∷ drop (i + 1) sorts) (map f ys)) (drop_all i ids g)

nothing_left : (f : TermId → Option Sort) (ids : List TermId) → have_sorts [] (map f ids) ≡ (length ids == 0)
nothing_left f [] = refl
nothing_left f (id ∷ ids) = sym (grind (arith, nat_tests))

pub sorts_end : (f : TermId → Option Sort) (sorts : List Sort) (ids : List TermId) (i : ℕ) → length sorts ≤ i → i ≤ length ids → (b : Bool) → (length ids == i) ≡ b → have_sorts (drop i sorts) (map f (drop i ids)) ≡ b
sorts_end f sorts ids i h g b is =
    ap (λ (xs : List Sort). have_sorts xs (map f (drop i ids))) (drop_all i sorts h) ∙ nothing_left f (drop i ids) ∙ same_test (length (drop i ids)) (length ids) i (length-drop i ids) g ∙ is
  where
    same_test : (m n k : ℕ) → m ≡ n - k → k ≤ n → (m == 0) ≡ (n == k)
    same_test m n k e h = grind (arith, nat_tests)

-- constants, one after the other
abbrev pub behind : List ℤ → Option (List ℤ) → Option (List ℤ)
behind made rest = option_map (λ ns. made ++ ns) rest

append_assoc_one : (made : List ℤ) (n : ℤ) (rest : Option (List ℤ)) → behind made (option_map (λ ns. n ∷ ns) rest) ≡ behind (made ++ n ∷ []) rest
append_assoc_one made n None = refl
append_assoc_one made n (Some ns) = ap (λ (xs : List ℤ). Some xs) (sym (append_assoc made (n ∷ []) ns))

pub constant_on : (f : TermId → Option ℤ) (made : List ℤ) (ids : List TermId) (i : ℕ) (d : TermId) (n : ℤ) → i < length ids → f (get_or ids i d) ≡ Some n
    → behind made (all_constant (map f (drop i ids))) ≡ behind (made ++ n ∷ []) (all_constant (map f (drop (i + 1) ids)))
constant_on f made ids i d n h is =
    ap (λ (xs : List TermId). behind made (all_constant (map f xs))) (drop_more ids i d h) ∙ ap (λ (k : Option ℤ). behind made (all_constant (k ∷ map f (drop (i + 1) ids)))) is
    ∙ append_assoc_one made n (all_constant (map f (drop (i + 1) ids)))

pub constant_off : (f : TermId → Option ℤ) (made : List ℤ) (ids : List TermId) (i : ℕ) (d : TermId) → i < length ids → f (get_or ids i d) ≡ None → behind made (all_constant (map f (drop i ids))) ≡ None
constant_off f made ids i d h is =
    ap (λ (xs : List TermId). behind made (all_constant (map f xs))) (drop_more ids i d h) ∙ ap (λ (k : Option ℤ). behind made (all_constant (k ∷ map f (drop (i + 1) ids)))) is

append_none : (xs : List ℤ) → xs ++ [] ≡ xs
append_none [] = refl
append_none (x ∷ xs) = ap (λ (ys : List ℤ). x ∷ ys) (append_none xs)

pub constant_end : (f : TermId → Option ℤ) (made : List ℤ) (ids : List TermId) (i : ℕ) → length ids ≤ i → behind made (all_constant (map f (drop i ids))) ≡ Some made
constant_end f made ids i h = ap (λ (xs : List TermId). behind made (all_constant (map f xs))) (drop_all i ids h) ∙ ap (λ (xs : List ℤ). Some xs) (append_none made)
