-- The terms with an auxiliary variable are subterms, and no variables; and each subterm of a term that has a sort has one.
use Rattle.std.proofs.Common.{◌≡◌, ℕ, zero, suc, ◌<◌, ◌==◌, List, [], ◌∷◌, ◌++◌, length, map, Bool, true, false, ◌&&◌, ◌||◌, refl, ap, sym, ◌∙◌, subst, arith}
use Rattle.std.proofs.lemmas.Bool.{eqb-true}
use Rattle.std.specs.Prelude.{slice_get, Option, Some, None, nat_le, if◌then◌else◌}
use Rattle.std.specs.List.{AllByRecursion, list_all}
use Rattle.term_tree.specs.declared.sort.Sort.{Sort}
use Rattle.term_tree.specs.declared.sort.Sort.TheVariants.{Int, Bool as Truth}
use Rattle.term_tree.specs.declared.script.Pred.{Pred as Declared}
use Rattle.term_tree.specs.declared.node.TermId.{TermId}
use Rattle.term_tree.specs.declared.node.OpKind.{OpKind}
use Rattle.term_tree.specs.declared.node.OpKind.TheVariants.{Not, And, Or, Xor, Implies, Eq, Distinct, Ite, Add, Mul, Sub, Abs, Div, Mod, Le, Lt, Ge, Gt}
use Rattle.term_tree.specs.declared.node.Node.{Node}
use Rattle.term_tree.specs.declared.node.Node.TheVariants.{Num, True, False, Var, LetVar, Pred, Op, Divisible, Let, Forall, Exists}
use Rattle.term_tree.specs.Arena.{IsArena, has_parts_below}
use Rattle.term_tree.specs.Sorts.{all_of, are_alike, choice_sort, has_sort, have_sorts, is_sorted, node_sort, operation_sort, predicate_sort, sort_if, sort_of}
use Rattle.term_tree.specs.Subterms.{IsSubterm, inside, is_among, is_part, itself}
use Rattle.term_tree.proofs.Public.{arena_below, both_true, eqb_self, part_below, sort_at, there_is}
use Rattle.horn_shape.proofs.ScopeLemmas.{chosen_sort, sort_chosen}
use Rattle.linear_terms.specs.declared.standing.Spot.{Spot}
use Rattle.linear_terms.specs.declared.standing.Standing.{Standing}
use Rattle.linear_terms.specs.declared.standing.Standing.TheVariants.{Plain, Bit, Argument}
use Rattle.linear_terms.specs.Text.{Sorting, are_truths, chosen, inner_spots, is_variable, needs_one, operands, places, spot_as}
use Rattle.linear_terms.proofs.PartLemmas.{body_among, first_among, later_among}
use Rattle.term_places.specs.machinery.Placed.{all_placed, placed}
use Rattle.term_places.proofs.PlacedLemmas.{placed_at}

pub all_append : {X : Type 0} (P : X → Type 0) (xs ys : List X) → AllByRecursion P xs → AllByRecursion P ys → AllByRecursion P (xs ++ ys)
all_append P [] ys a b = b
all_append P (x ∷ xs) ys a b = (a.0, all_append P xs ys a.1 b)

-- the spots of a node are parts of it
abbrev ArePartsOf : Node → List Spot → Type 0
ArePartsOf node spots = AllByRecursion (λ s. is_part s.id node ≡ true) spots

spots_among : (standing : Standing) (ids : List TermId) (node : Node) → ((part : ℕ) → is_among part ids ≡ true → is_part part node ≡ true) → ArePartsOf node (map (spot_as standing) ids)
spots_among standing [] node parts = tt
spots_among standing (id ∷ ids) node parts = (parts id.0 (first_among id ids), spots_among standing ids node (λ part has. parts part (later_among part id ids has)))

chosen_among : (ids : List TermId) (node : Node) → ((part : ℕ) → is_among part ids ≡ true → is_part part node ≡ true) → ArePartsOf node (chosen ids)
chosen_among [] node parts = tt
chosen_among (id ∷ ids) node parts = (parts id.0 (first_among id ids), spots_among Plain ids node (λ part has. parts part (later_among part id ids has)))

operands_among : (sorts : Sorting) (op : OpKind) (args : List TermId) (node : Node) → ((part : ℕ) → is_among part args ≡ true → is_part part node ≡ true) → ArePartsOf node (operands sorts op args)
operands_among sorts Xor args node parts = spots_among Bit args node parts
operands_among sorts Eq args node parts = spots_among (if are_truths sorts args then Bit else Plain) args node parts
operands_among sorts Distinct args node parts = spots_among (if are_truths sorts args then Bit else Plain) args node parts
operands_among sorts Ite args node parts = chosen_among args node parts
operands_among sorts _ args node parts = spots_among Plain args node parts

inner_among : (sorts : Sorting) (node : Node) → ArePartsOf node (inner_spots sorts node)
inner_among sorts (Pred pred args) = spots_among Argument args (Pred pred args) (λ part has. has)
inner_among sorts (Op op args) = operands_among sorts op args (Op op args) (λ part has. has)
inner_among sorts (Divisible by arg) = (eqb_self arg.0, tt)
inner_among sorts (Let bound body) =
    all_append (λ (s : Spot). is_part s.id (Let bound body) ≡ true) (map (spot_as Bit) bound) (spot_as Plain body ∷ [])
    (spots_among Bit bound (Let bound body) (λ part has. ap (λ (b : Bool). b || (body.0 == part)) has)) (body_among bound body, tt)
inner_among sorts (Forall first kinds body) = (eqb_self body.0, tt)
inner_among sorts (Exists first kinds body) = (eqb_self body.0, tt)
inner_among sorts _ = tt

-- a subterm that is no variable
pub record IsPlaced (nodes : List Node) (top id : ℕ) : Type 0 where
  pub sub : IsSubterm nodes top id
  pub node : Node
  pub is : slice_get nodes id ≡ Some node
  pub other : is_variable node ≡ false

needed_other : (standing : Standing) (sort : Option Sort) (node : Node) → needs_one standing sort (Some node) ≡ true → is_variable node ≡ false
needed_other Plain sort (Var binder kind) h = absurd (cc)
needed_other Bit sort (Var binder kind) h = absurd (cc)
needed_other Argument sort (Var binder kind) h = absurd (cc)
needed_other standing sort (Num n) h = refl
needed_other standing sort True h = refl
needed_other standing sort False h = refl
needed_other standing sort (LetVar bound) h = refl
needed_other standing sort (Pred pred args) h = refl
needed_other standing sort (Op op args) h = refl
needed_other standing sort (Divisible by arg) h = refl
needed_other standing sort (Let bound body) h = refl
needed_other standing sort (Forall first kinds body) h = refl
needed_other standing sort (Exists first kinds body) h = refl

module _ (sorts : Sorting) (nodes : List Node) (arena : IsArena nodes) (top : ℕ) where
  abbrev Placings : ℕ → Type 0
  Placings bound = (spot : Spot) → spot.id < bound → spot.id < length nodes → IsSubterm nodes top spot.id → AllByRecursion (IsPlaced nodes top) (placed sorts nodes spot)

  parts_placed : (id : ℕ) (node : Node) (parts : List Spot) → Placings id → id < length nodes → IsSubterm nodes top id → slice_get nodes id ≡ Some node → has_parts_below id node ≡ true
      → ArePartsOf node parts → AllByRecursion (IsPlaced nodes top) (all_placed sorts nodes parts)
  parts_placed id node [] ih within sub is below among = tt
  parts_placed id node (part ∷ parts) ih within sub is below among =
      let less : part.id < id = part_below part.id id node below among.0 in
      all_append (IsPlaced nodes top) (placed sorts nodes part) (all_placed sorts nodes parts)
      (ih part less (omega (arith, less, within)) (inside part.id node sub is among.0)) (parts_placed id node parts ih within sub is below among.1)

  own_placed : (spot : Spot) (node : Node) (b : Bool) → needs_one spot.standing (sorts spot.id) (Some node) ≡ b → IsSubterm nodes top spot.id → slice_get nodes spot.id ≡ Some node
      → AllByRecursion (IsPlaced nodes top) (if needs_one spot.standing (sorts spot.id) (Some node) then spot.id ∷ [] else [])
  own_placed spot node true needs sub is =
      subst (λ (b : Bool). AllByRecursion (IsPlaced nodes top) (if b then spot.id ∷ [] else [])) (sym needs)
      (record { sub = sub; node = node; is = is; other = needed_other spot.standing (sorts spot.id) node needs }, tt)
  own_placed spot node false needs sub is = subst (λ (b : Bool). AllByRecursion (IsPlaced nodes top) (if b then spot.id ∷ [] else [])) (sym needs) tt

  placings_below : (bound : ℕ) → Placings bound
  placings_below zero spot less within sub = absurd (omega (arith, less))
  placings_below (suc bound) spot less within sub =
      let found = there_is nodes spot.id within in
      let node : Node = found.0 in
      let is : slice_get nodes spot.id ≡ Some node = found.1 in
      let below : has_parts_below spot.id node ≡ true = arena_below nodes spot.id node arena is in
      subst (λ (ids : List ℕ). AllByRecursion (IsPlaced nodes top) ids) (sym (placed_at sorts nodes node spot is below))
      (all_append (IsPlaced nodes top) (if needs_one spot.standing (sorts spot.id) (Some node) then spot.id ∷ [] else []) (all_placed sorts nodes (inner_spots sorts node))
      (own_placed spot node (needs_one spot.standing (sorts spot.id) (Some node)) refl sub is)
      (parts_placed spot.id node (inner_spots sorts node) (λ s lt inside_all sb. placings_below bound s (omega (arith, lt, less)) inside_all sb) within sub is below (inner_among sorts node)))

  pub places_are : top < length nodes → AllByRecursion (IsPlaced nodes top) (places sorts nodes top)
  places_are within = placings_below (suc top) (record { id = top; standing = Plain }) (omega arith) within itself

-- sorts of parts
sorted_from : (s : Sort) (o : Option Sort) → has_sort s o ≡ true → is_sorted o ≡ true
sorted_from s None h = absurd (cc)
sorted_from s (Some t) h = refl

part_by : {A : Type 0} (a b : Bool) → (a || b) ≡ true → (a ≡ true → A) → (b ≡ true → A) → A
part_by true b h f g = f refl
part_by false b h f g = g h

same_number : (S : ℕ → Option Sort) (a b : ℕ) → (a == b) ≡ true → is_sorted (S a) ≡ true → is_sorted (S b) ≡ true
same_number S a b e h = sym (ap (λ (k : ℕ). is_sorted (S k)) (from_eqb a b e)) ∙ h
  where
    from_eqb : (m n : ℕ) → (m == n) ≡ true → m ≡ n
    from_eqb m n q = eqb-true m n q

all_sorted : (S : ℕ → Option Sort) (test : Option Sort → Bool) (ids : List TermId) → ((o : Option Sort) → test o ≡ true → is_sorted o ≡ true) → list_all test (map (λ a. S a.0) ids) ≡ true
    → (part : ℕ) → is_among part ids ≡ true → is_sorted (S part) ≡ true
all_sorted S test [] each h part has = absurd (cc)
all_sorted S test (id ∷ ids) each h part has =
    let both = both_true (test (S id.0)) (list_all test (map (λ (a : TermId). S a.0) ids)) h in
    part_by (id.0 == part) (is_among part ids) has (λ e. same_number S id.0 part e (each (S id.0) both.0)) (all_sorted S test ids each both.1 part)

have_sorted : (S : ℕ → Option Sort) (kinds : List Sort) (ids : List TermId) → have_sorts kinds (map (λ a. S a.0) ids) ≡ true → (part : ℕ) → is_among part ids ≡ true → is_sorted (S part) ≡ true
have_sorted S kinds [] h part has = absurd (cc)
have_sorted S [] (id ∷ ids) h part has = absurd (cc)
have_sorted S (kind ∷ kinds) (id ∷ ids) h part has =
    let both = both_true (has_sort kind (S id.0)) (have_sorts kinds (map (λ (a : TermId). S a.0) ids)) h in
    part_by (id.0 == part) (is_among part ids) has (λ e. same_number S id.0 part e (sorted_from kind (S id.0) both.0)) (have_sorted S kinds ids both.1 part)

alike_sorted : (S : ℕ → Option Sort) (ids : List TermId) → are_alike (map (λ a. S a.0) ids) ≡ true → (part : ℕ) → is_among part ids ≡ true → is_sorted (S part) ≡ true
alike_sorted S [] h part has = absurd (cc)
alike_sorted S (id ∷ ids) h part has = by_first (S id.0) refl h
  where
    by_first : (o : Option Sort) → S id.0 ≡ o → are_alike (o ∷ map (λ (a : TermId). S a.0) ids) ≡ true → is_sorted (S part) ≡ true
    by_first None e k = absurd (cc)
    by_first (Some s) e k =
        part_by (id.0 == part) (is_among part ids) has (λ q. same_number S id.0 part q (ap is_sorted e)) (all_sorted S (has_sort s) ids (sorted_from s) k part)

choice_sorted : (S : ℕ → Option Sort) (ids : List TermId) (s : Sort) → choice_sort (map (λ a. S a.0) ids) ≡ Some s → (length ids ≡ 3) × ((part : ℕ) → is_among part ids ≡ true → is_sorted (S part) ≡ true)
choice_sorted S [] s h = absurd (cc)
choice_sorted S (a ∷ []) s h = absurd (one (S a.0) h)
  where
    one : (x : Option Sort) → choice_sort (x ∷ []) ≡ Some s → ⊥
    one None k = absurd (cc)
    one (Some Int) k = absurd (cc)
    one (Some Truth) k = absurd (cc)
choice_sorted S (a ∷ b ∷ []) s h = absurd (two (S a.0) (S b.0) h)
  where
    two : (x y : Option Sort) → choice_sort (x ∷ y ∷ []) ≡ Some s → ⊥
    two None y k = absurd (cc)
    two (Some Int) y k = absurd (cc)
    two (Some Truth) None k = absurd (cc)
    two (Some Truth) (Some t) k = absurd (cc)
choice_sorted S (a ∷ b ∷ c ∷ []) s h =
    let all = three (S a.0) (S b.0) (S c.0) h in (
      refl,
      (λ part has. part_by (a.0 == part) (is_among part (b ∷ c ∷ [])) has (λ e. same_number S a.0 part e all.0)
          (λ more. part_by (b.0 == part) (is_among part (c ∷ [])) more (λ e. same_number S b.0 part e all.1)
          (λ last. part_by (c.0 == part) false last (λ e. same_number S c.0 part e all.2) (λ e. absurd (cc))))),
    )
  where
    three : (x y z : Option Sort) → choice_sort (x ∷ y ∷ z ∷ []) ≡ Some s → (is_sorted x ≡ true) × (is_sorted y ≡ true) × (is_sorted z ≡ true)
    three None y z k = absurd (cc)
    three (Some Int) y z k = absurd (cc)
    three (Some Truth) None z k = absurd (cc)
    three (Some Truth) (Some t) z k = (refl, refl, sorted_from t z (sort_chosen (has_sort t z) t s k).0)
choice_sorted S (a ∷ b ∷ c ∷ d ∷ ids) s h = absurd (more (S a.0) (S b.0) h)
  where
    more : (x y : Option Sort) → choice_sort (x ∷ y ∷ S c.0 ∷ S d.0 ∷ map (λ (i : TermId). S i.0) ids) ≡ Some s → ⊥
    more None y k = absurd (cc)
    more (Some Int) y k = absurd (cc)
    more (Some Truth) None k = absurd (cc)
    more (Some Truth) (Some t) k = absurd (cc)

all_of_sorted : (S : ℕ → Option Sort) (kind : Sort) (least : ℕ) (ids : List TermId) (t s : Sort) → sort_if (all_of kind least (map (λ a. S a.0) ids)) t ≡ Some s
    → (part : ℕ) → is_among part ids ≡ true → is_sorted (S part) ≡ true
all_of_sorted S kind least ids t s h =
    let is = (sort_chosen (all_of kind least (map (λ (a : TermId). S a.0) ids)) t s h).0 in
    all_sorted S (has_sort kind) ids (sorted_from kind) (both_true (nat_le least (length (map (λ (a : TermId). S a.0) ids))) (list_all (has_sort kind) (map (λ (a : TermId). S a.0) ids)) is).1

operation_sorted : (S : ℕ → Option Sort) (op : OpKind) (ids : List TermId) (s : Sort) → operation_sort op (map (λ a. S a.0) ids) ≡ Some s → (part : ℕ) → is_among part ids ≡ true → is_sorted (S part) ≡ true
operation_sorted S Not ids s h = have_sorted S (Truth ∷ []) ids (sort_chosen (have_sorts (Truth ∷ []) (map (λ (a : TermId). S a.0) ids)) Truth s h).0
operation_sorted S And ids s h = all_of_sorted S Truth 1 ids Truth s h
operation_sorted S Or ids s h = all_of_sorted S Truth 1 ids Truth s h
operation_sorted S Xor ids s h = all_of_sorted S Truth 2 ids Truth s h
operation_sorted S Implies ids s h = all_of_sorted S Truth 2 ids Truth s h
operation_sorted S Eq ids s h =
    let given : List (Option Sort) = map (λ (a : TermId). S a.0) ids in
    alike_sorted S ids (both_true (nat_le 2 (length given)) (are_alike given) (sort_chosen (nat_le 2 (length given) && are_alike given) Truth s h).0).1
operation_sorted S Distinct ids s h =
    let given : List (Option Sort) = map (λ (a : TermId). S a.0) ids in
    alike_sorted S ids (both_true (nat_le (length given) 64) (are_alike given)
    (both_true (nat_le 2 (length given)) (nat_le (length given) 64 && are_alike given) (sort_chosen (nat_le 2 (length given) && (nat_le (length given) 64 && are_alike given)) Truth s h).0).1).1
operation_sorted S Ite ids s h = (choice_sorted S ids s h).1
operation_sorted S Add ids s h = all_of_sorted S Int 1 ids Int s h
operation_sorted S Mul ids s h = all_of_sorted S Int 1 ids Int s h
operation_sorted S Sub ids s h = all_of_sorted S Int 1 ids Int s h
operation_sorted S Abs ids s h = have_sorted S (Int ∷ []) ids (sort_chosen (have_sorts (Int ∷ []) (map (λ (a : TermId). S a.0) ids)) Int s h).0
operation_sorted S Div ids s h = have_sorted S (Int ∷ Int ∷ []) ids (sort_chosen (have_sorts (Int ∷ Int ∷ []) (map (λ (a : TermId). S a.0) ids)) Int s h).0
operation_sorted S Mod ids s h = have_sorted S (Int ∷ Int ∷ []) ids (sort_chosen (have_sorts (Int ∷ Int ∷ []) (map (λ (a : TermId). S a.0) ids)) Int s h).0
operation_sorted S Le ids s h = all_of_sorted S Int 2 ids Truth s h
operation_sorted S Lt ids s h = all_of_sorted S Int 2 ids Truth s h
operation_sorted S Ge ids s h = all_of_sorted S Int 2 ids Truth s h
operation_sorted S Gt ids s h = all_of_sorted S Int 2 ids Truth s h

-- an application has a declared predicate, and arguments of its sorts
pub predicate_is : (found : Option Declared) (given : List (Option Sort)) (s : Sort) → predicate_sort found given ≡ Some s → (p : Declared) × (found ≡ Some p) × (have_sorts p.args given ≡ true)
predicate_is None given s h = absurd (cc)
predicate_is (Some p) given s h = (p, refl, (sort_chosen (have_sorts p.args given) Truth s h).0)

node_sorted : (preds : List Declared) (S : ℕ → Option Sort) (node : Node) (s : Sort) → node_sort preds S node ≡ Some s → (part : ℕ) → is_part part node ≡ true → is_sorted (S part) ≡ true
node_sorted preds S (Num n) s h part has = absurd (cc)
node_sorted preds S True s h part has = absurd (cc)
node_sorted preds S False s h part has = absurd (cc)
node_sorted preds S (Var binder sort) s h part has = absurd (cc)
node_sorted preds S (LetVar bound) s h part has = same_number S bound.0 part has (ap is_sorted h)
node_sorted preds S (Pred pred args) s h part has =
    let p = predicate_is (slice_get preds pred) (map (λ (a : TermId). S a.0) args) s h in have_sorted S p.0.args args p.2 part has
node_sorted preds S (Op op args) s h part has = operation_sorted S op args s h part has
node_sorted preds S (Divisible by arg) s h part has = same_number S arg.0 part has (sorted_from Int (S arg.0) (sort_chosen (has_sort Int (S arg.0)) Truth s h).0)
node_sorted preds S (Let bound body) s h part has =
    let parts = chosen_sort (list_all is_sorted (map (λ (b : TermId). S b.0) bound)) (S body.0) s h in
    part_by (is_among part bound) (body.0 == part) has (all_sorted S is_sorted bound (λ o e. e) parts.0 part) (λ e. same_number S body.0 part e (ap is_sorted parts.1))
node_sorted preds S (Forall first kinds body) s h part has = same_number S body.0 part has (sorted_from Truth (S body.0) (sort_chosen (has_sort Truth (S body.0)) Truth s h).0)
node_sorted preds S (Exists first kinds body) s h part has = same_number S body.0 part has (sorted_from Truth (S body.0) (sort_chosen (has_sort Truth (S body.0)) Truth s h).0)

pub some_sort : (o : Option Sort) → is_sorted o ≡ true → (s : Sort) × (o ≡ Some s)
some_sort None h = absurd (cc)
some_sort (Some s) h = (s, refl)

-- each subterm has a sort
pub sorted_sub : (preds : List Declared) (nodes : List Node) → IsArena nodes → (top id : ℕ) → is_sorted (sort_of preds nodes top) ≡ true → IsSubterm nodes top id → is_sorted (sort_of preds nodes id) ≡ true
sorted_sub preds nodes arena top _ sorted itself = sorted
sorted_sub preds nodes arena top _ sorted (inside {id = id} part node sub is has) =
    let above = some_sort (sort_of preds nodes id) (sorted_sub preds nodes arena top id sorted sub) in
    node_sorted preds (sort_of preds nodes) node above.0 (sym (sort_at preds nodes id node is (arena_below nodes id node arena is)) ∙ above.1) part has

-- operations that have auxiliary variables have as many arguments as they take
one_given : (S : ℕ → Option Sort) (ids : List TermId) (kind : Sort) → have_sorts (kind ∷ []) (map (λ a. S a.0) ids) ≡ true → (length ids == 1) ≡ true
one_given S [] kind h = absurd (cc)
one_given S (a ∷ []) kind h = refl
one_given S (a ∷ b ∷ ids) kind h = absurd (none (has_sort kind (S a.0)) h)
  where
    none : (x : Bool) → (x && false) ≡ true → ⊥
    none true k = absurd (cc)
    none false k = absurd (cc)

two_given : (S : ℕ → Option Sort) (ids : List TermId) (kind other : Sort) → have_sorts (kind ∷ other ∷ []) (map (λ a. S a.0) ids) ≡ true → (length ids == 2) ≡ true
two_given S [] kind other h = absurd (cc)
two_given S (a ∷ []) kind other h = absurd (none (has_sort kind (S a.0)) h)
  where
    none : (x : Bool) → (x && false) ≡ true → ⊥
    none true k = absurd (cc)
    none false k = absurd (cc)
two_given S (a ∷ b ∷ []) kind other h = refl
two_given S (a ∷ b ∷ c ∷ ids) kind other h = absurd (none (has_sort kind (S a.0)) (has_sort other (S b.0)) h)
  where
    none : (x y : Bool) → (x && (y && false)) ≡ true → ⊥
    none true true k = absurd (cc)
    none true false k = absurd (cc)
    none false y k = absurd (cc)

pub shaped_ite : (S : ℕ → Option Sort) (ids : List TermId) (s : Sort) → operation_sort Ite (map (λ a. S a.0) ids) ≡ Some s → (length ids == 3) ≡ true
shaped_ite S ids s h = ap (λ (n : ℕ). n == 3) (choice_sorted S ids s h).0

pub shaped_abs : (S : ℕ → Option Sort) (ids : List TermId) (s : Sort) → operation_sort Abs (map (λ a. S a.0) ids) ≡ Some s → (length ids == 1) ≡ true
shaped_abs S ids s h = one_given S ids Int (sort_chosen (have_sorts (Int ∷ []) (map (λ (a : TermId). S a.0) ids)) Int s h).0

pub shaped_div : (S : ℕ → Option Sort) (ids : List TermId) (s : Sort) → operation_sort Div (map (λ a. S a.0) ids) ≡ Some s → (length ids == 2) ≡ true
shaped_div S ids s h = two_given S ids Int Int (sort_chosen (have_sorts (Int ∷ Int ∷ []) (map (λ (a : TermId). S a.0) ids)) Int s h).0

pub shaped_mod : (S : ℕ → Option Sort) (ids : List TermId) (s : Sort) → operation_sort Mod (map (λ a. S a.0) ids) ≡ Some s → (length ids == 2) ≡ true
shaped_mod S ids s h = two_given S ids Int Int (sort_chosen (have_sorts (Int ∷ Int ∷ []) (map (λ (a : TermId). S a.0) ids)) Int s h).0
