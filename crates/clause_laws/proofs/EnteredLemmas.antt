-- Every subterm of a legal term is met in its text.
--
-- A subterm is reached from the top by parts, where a name has the term that it is bound to as its part. In the text a name is a
-- leaf. But a legal term is scoped, so the term of a name is bound by a `let` around it, and there it was met, as a bit.
use Rattle.std.proofs.Common.{◌≡◌, ℕ, zero, suc, ◌+◌, ◌<◌, ◌==◌, List, [], ◌∷◌, ◌++◌, length, map, Bool, true, false, ◌||◌, ◌&&◌, inl, inr, refl, ap, sym, ◌∙◌, subst, arith}
use Rattle.std.specs.Prelude.{slice_get, filter, position, Option, Some, None, option_map, nat_lt, ◌⊎◌, if◌then◌else◌}
use Rattle.std.specs.List.{flat_map, list_all}
use Rattle.std.proofs.lemmas.Bool.{eqb-true}
use Rattle.term_tree.specs.declared.sort.Sort.{Sort}
use Rattle.term_tree.specs.declared.sort.Sort.TheVariants.{Bool as BoolSort}
use Rattle.term_tree.specs.declared.script.Pred.{Pred as Declared}
use Rattle.term_tree.specs.declared.node.TermId.{TermId}
use Rattle.term_tree.specs.declared.node.OpKind.{OpKind}
use Rattle.term_tree.specs.declared.node.OpKind.TheVariants.{Xor, Eq, Distinct, Ite}
use Rattle.term_tree.specs.declared.node.Node.{Node}
use Rattle.term_tree.specs.declared.node.Node.TheVariants.{Num, True, False, Var, LetVar, Pred, Op, Divisible, Let, Forall, Exists}
use Rattle.term_tree.specs.Arena.{IsArena, has_parts_below}
use Rattle.term_tree.specs.Legal.{IsLegal, NamesInScope, has_some, is_scoped, node_is_scoped, parameters, with_bound, with_variables}
use Rattle.term_tree.specs.Sorts.{are_alike, has_sort, sort_of}
use Rattle.term_tree.specs.Subterms.{IsSubterm, inside, is_among, is_part, itself}
use Rattle.term_tree.proofs.Public.{arena_below, below_from, both_true, eqb_self, scoped_at, sort_at, there_is}
use Rattle.linear_terms.specs.declared.standing.Spot.{Spot}
use Rattle.linear_terms.specs.declared.standing.Standing.{Standing}
use Rattle.linear_terms.specs.declared.standing.Standing.TheVariants.{Plain, Bit, Argument}
use Rattle.linear_terms.specs.Text.{Sorting, are_truths, chosen, has_auxiliary, inner_spots, is_ready, is_unit, is_wanted, needs_one, node_spots, operands, places, spot_as, spots}
use Rattle.linear_terms.specs.Linear.{naming_of}
use Rattle.linear_terms.specs.Meeting.{NamesBits, NamesUnits, asks, is_first}
use Rattle.linear_terms.proofs.Public.{sorted_there}
use Rattle.clause_laws.proofs.SpotLemmas.{are_below, inner_below, spots_at}
use Rattle.term_widths.proofs.PositionLemmas.{position_is, position_there}
use Rattle.clause_laws.proofs.SortedLemmas.{distinct_alike, equal_alike, first_truth, subterm_sorted}

-- the spot stands among these
abbrev pub IsIn : Spot → List Spot → Type 0
IsIn spot [] = ⊥
IsIn spot (s ∷ others) = (spot ≡ s) ⊎ IsIn spot others

in_left : (spot : Spot) (xs ys : List Spot) → IsIn spot xs → IsIn spot (xs ++ ys)
in_left spot [] ys h = absurd h
in_left spot (x ∷ xs) ys (inl same) = inl same
in_left spot (x ∷ xs) ys (inr later) = inr (in_left spot xs ys later)

in_right : (spot : Spot) (xs ys : List Spot) → IsIn spot ys → IsIn spot (xs ++ ys)
in_right spot [] ys h = h
in_right spot (x ∷ xs) ys h = inr (in_right spot xs ys h)

pub in_both : (spot : Spot) (xs ys : List Spot) → IsIn spot (xs ++ ys) → IsIn spot xs ⊎ IsIn spot ys
in_both spot [] ys h = inr h
in_both spot (x ∷ xs) ys (inl same) = inl (inl same)
in_both spot (x ∷ xs) ys (inr later) = elim (in_both spot xs ys later) [ inl here ↦ inl (inr here) | inr there ↦ inr there ]

-- the spot stands in the list that is made of one of these
pub record IsWithin (spot : Spot) (f : Spot → List Spot) (parts : List Spot) : Type 0 where
  pub part : Spot
  pub listed : IsIn part parts
  pub met : IsIn spot (f part)

pub in_flat : (f : Spot → List Spot) (parts : List Spot) (spot : Spot) → IsIn spot (flat_map f parts) → IsWithin spot f parts
in_flat f [] spot h = absurd h
in_flat f (p ∷ parts) spot h = elim (in_both spot (f p) (flat_map f parts) h) [
  | inl here ↦ record { part = p; listed = inl refl; met = here }
  | inr later ↦ let found = in_flat f parts spot later in record { part = found.part; listed = inr found.listed; met = found.met }
]

flat_in : (f : Spot → List Spot) (parts : List Spot) (spot part : Spot) → IsIn part parts → IsIn spot (f part) → IsIn spot (flat_map f parts)
flat_in f [] spot part h met = absurd h
flat_in f (p ∷ parts) spot part (inl same) met = in_left spot (f p) (flat_map f parts) (subst (λ (x : Spot). IsIn spot (f x)) same met)
flat_in f (p ∷ parts) spot part (inr later) met = in_right spot (f p) (flat_map f parts) (flat_in f parts spot part later met)

pub part_there : (n : ℕ) (parts : List Spot) (part : Spot) → are_below n parts ≡ true → IsIn part parts → part.id < n
part_there n [] part below h = absurd h
part_there n (p ∷ parts) part below (inl same) =
    let less : p.id < n = below_from p.id n (both_true (nat_lt p.id n) (are_below n parts) below).0 in
    let id_same : part.id ≡ p.id = ap (λ (s : Spot). s.id) same in
    omega (arith, less, id_same)
part_there n (p ∷ parts) part below (inr later) = part_there n parts part (both_true (nat_lt p.id n) (are_below n parts) below).1 later

-- a spot stands first in its own text
text_head : (sorts : Sorting) (nodes : List Node) → IsArena nodes → (spot : Spot) → spot.id < length nodes → IsIn spot (spots sorts nodes spot.id spot)
text_head sorts nodes arena spot within =
    let found = there_is nodes spot.id within in
    let node : Node = found.0 in
    let below : has_parts_below spot.id node ≡ true = arena_below nodes spot.id node arena found.1 in
    subst (λ (xs : List Spot). IsIn spot xs) (sym (spots_at sorts nodes spot.id node spot found.1 below)) (inl refl)

same_node : (a b : Node) → Some a ≡ Some b → a ≡ b
same_node a b h = cc

-- the parts of what is in a text are in it
text_closed : (sorts : Sorting) (nodes : List Node) → IsArena nodes → (n : ℕ) (s : Spot) → s.id < n → s.id < length nodes → (spot part : Spot) (node : Node)
    → IsIn spot (spots sorts nodes s.id s) → slice_get nodes spot.id ≡ Some node → IsIn part (inner_spots sorts node) → IsIn part (spots sorts nodes s.id s)
text_closed sorts nodes arena zero s less within spot part node met at listed = absurd (omega arith)
text_closed sorts nodes arena (suc n) s less within spot part node met at listed =
    let found = there_is nodes s.id within in
    let own : Node = found.0 in
    let is : slice_get nodes s.id ≡ Some own = found.1 in
    let below : has_parts_below s.id own ≡ true = arena_below nodes s.id own arena is in
    let text : spots sorts nodes s.id s ≡ node_spots sorts (spots sorts nodes) own s = spots_at sorts nodes s.id own s is below in
    let f : Spot → List Spot = λ q. spots sorts nodes q.id q in
    let lower : (q : Spot) → IsIn q (inner_spots sorts own) → q.id < s.id = λ q one. part_there s.id (inner_spots sorts own) q (inner_below sorts s.id own below) one in
    let before : IsIn spot (s ∷ flat_map f (inner_spots sorts own)) = subst (λ (xs : List Spot). IsIn spot xs) text met in
    subst (λ (xs : List Spot). IsIn part xs) (sym text) (elim before [
      | inl same ↦
          let node_is : node ≡ own = same_node node own (sym at ∙ ap (λ (x : Spot). slice_get nodes x.id) same ∙ is) in
          let here : IsIn part (inner_spots sorts own) = subst (λ (m : Node). IsIn part (inner_spots sorts m)) node_is listed in
          let small = lower part here in
          inr (flat_in f (inner_spots sorts own) part part here (text_head sorts nodes arena part (omega (arith, small, within))))
      | inr later ↦
          let inside_one = in_flat f (inner_spots sorts own) spot later in
          let small = lower inside_one.part inside_one.listed in
          inr (flat_in f (inner_spots sorts own) part inside_one.part inside_one.listed
          (text_closed sorts nodes arena n inside_one.part (omega (arith, small, less)) (omega (arith, small, within)) spot part node inside_one.met at listed))
    ])

-- the scope of a part: the names of a `let` stand in its body alone, which is the part that is no bit
abbrev pub body_scope : Standing → List TermId → NamesInScope → NamesInScope
body_scope Plain bound scope = with_bound bound scope
body_scope _ bound scope = scope

abbrev pub part_scope : Node → Spot → NamesInScope → NamesInScope
part_scope (Let bound body) part scope = body_scope part.standing bound scope
part_scope (Forall first kinds body) part scope = with_variables first kinds scope
part_scope (Exists first kinds body) part scope = with_variables first kinds scope
part_scope _ part scope = scope

abbrev pub top_spot : ℕ → Spot
top_spot top = record { id = top; standing = Plain }

abbrev pub bit_spot : ℕ → Spot
bit_spot id = record { id = id; standing = Bit }

-- the spot is met in the text of the term, under a scope in which its term is scoped
pub data IsEntered (sorts : Sorting) (nodes : List Node) (top : ℕ) (variables : List Sort) : Spot → NamesInScope → Type 0 where
  at_top : IsEntered sorts nodes top variables (top_spot top) (parameters variables)
  at_part : (spot part : Spot) (scope : NamesInScope) (node : Node) → IsEntered sorts nodes top variables spot scope → slice_get nodes spot.id ≡ Some node → IsIn part (inner_spots sorts node)
      → IsEntered sorts nodes top variables part (part_scope node part scope)

-- 1. What is entered is in the text.
pub entered_in_text : (sorts : Sorting) (nodes : List Node) (top : ℕ) (variables : List Sort) (spot : Spot) (scope : NamesInScope) → IsArena nodes → top < length nodes
    → IsEntered sorts nodes top variables spot scope → IsIn spot (spots sorts nodes top (top_spot top))
entered_in_text sorts nodes top variables spot scope arena there at_top = text_head sorts nodes arena (top_spot top) there
entered_in_text sorts nodes top variables spot scope arena there (at_part s part outer node entered is listed) =
    text_closed sorts nodes arena (top + 1) (top_spot top) (omega arith) there s part node (entered_in_text sorts nodes top variables s outer arena there entered) is listed

-- 2. It is scoped where it is entered.
id_same : (a b : Spot) → a ≡ b → a.id ≡ b.id
id_same a b same = ap (λ (s : Spot). s.id) same

mapped_part : (p : ℕ → Bool) (standing : Standing) (ids : List TermId) (part : Spot) → list_all (λ id. p id.0) ids ≡ true → IsIn part (map (spot_as standing) ids) → p part.id ≡ true
mapped_part p standing [] part all h = absurd h
mapped_part p standing (id ∷ ids) part all (inl same) = ap p (id_same part (spot_as standing id) same) ∙ (both_true (p id.0) (list_all (λ i. p i.0) ids) all).0
mapped_part p standing (id ∷ ids) part all (inr later) = mapped_part p standing ids part (both_true (p id.0) (list_all (λ i. p i.0) ids) all).1 later

chosen_part : (p : ℕ → Bool) (ids : List TermId) (part : Spot) → list_all (λ id. p id.0) ids ≡ true → IsIn part (chosen ids) → p part.id ≡ true
chosen_part p [] part all h = absurd h
chosen_part p (id ∷ ids) part all (inl same) = ap p (id_same part (spot_as Bit id) same) ∙ (both_true (p id.0) (list_all (λ i. p i.0) ids) all).0
chosen_part p (id ∷ ids) part all (inr later) = mapped_part p Plain ids part (both_true (p id.0) (list_all (λ i. p i.0) ids) all).1 later

operand_part : (sorts : Sorting) (p : ℕ → Bool) (args : List TermId) (part : Spot) → list_all (λ id. p id.0) args ≡ true → (op : OpKind) → IsIn part (operands sorts op args) → p part.id ≡ true
operand_part sorts p args part all Xor h = mapped_part p Bit args part all h
operand_part sorts p args part all Eq h = mapped_part p (if are_truths sorts args then Bit else Plain) args part all h
operand_part sorts p args part all Distinct h = mapped_part p (if are_truths sorts args then Bit else Plain) args part all h
operand_part sorts p args part all Ite h = chosen_part p args part all h
operand_part sorts p args part all _ h = mapped_part p Plain args part all h

bit_standing : (standing : Standing) (ids : List TermId) (part : Spot) → IsIn part (map (spot_as standing) ids) → part.standing ≡ standing
bit_standing standing [] part h = absurd h
bit_standing standing (id ∷ ids) part (inl same) = ap (λ (s : Spot). s.standing) same
bit_standing standing (id ∷ ids) part (inr later) = bit_standing standing ids part later

scoped_part : (sorts : Sorting) (p : ℕ → NamesInScope → Bool) (node : Node) (scope : NamesInScope) (part : Spot) → node_is_scoped p node scope ≡ true → IsIn part (inner_spots sorts node)
    → p part.id (part_scope node part scope) ≡ true
scoped_part sorts p (Num n) scope part h listed = absurd listed
scoped_part sorts p True scope part h listed = absurd listed
scoped_part sorts p False scope part h listed = absurd listed
scoped_part sorts p (Var binder sort) scope part h listed = absurd listed
scoped_part sorts p (LetVar bound) scope part h listed = absurd listed
scoped_part sorts p (Pred pred args) scope part h listed = mapped_part (λ id. p id scope) Argument args part h listed
scoped_part sorts p (Op op args) scope part h listed = operand_part sorts (λ id. p id scope) args part h op listed
scoped_part sorts p (Divisible by arg) scope part h (inl same) = ap (λ (s : Spot). p s.id scope) same ∙ h
scoped_part sorts p (Divisible by arg) scope part h (inr none) = absurd none
scoped_part sorts p (Let bound body) scope part h listed =
    let inner_h = (both_true (has_some bound) (list_all (λ b. p b.0 scope) bound && p body.0 (with_bound bound scope)) h).1 in
    let both = both_true (list_all (λ b. p b.0 scope) bound) (p body.0 (with_bound bound scope)) inner_h in
    elim (in_both part (map (spot_as Bit) bound) (spot_as Plain body ∷ []) listed) [
      | inl bit ↦ ap (λ (st : Standing). p part.id (body_scope st bound scope)) (bit_standing Bit bound part bit) ∙ mapped_part (λ id. p id scope) Bit bound part both.0 bit
      | inr last ↦ last_part last both.1
    ]
  where
    last_part : IsIn part (spot_as Plain body ∷ []) → p body.0 (with_bound bound scope) ≡ true → p part.id (body_scope part.standing bound scope) ≡ true
    last_part (inl same) is = ap (λ (s : Spot). p s.id (body_scope s.standing bound scope)) same ∙ is
    last_part (inr none) is = absurd none
scoped_part sorts p (Forall first kinds body) scope part h (inl same) =
    ap (λ (s : Spot). p s.id (with_variables first kinds scope)) same ∙ (both_true (has_some kinds) (p body.0 (with_variables first kinds scope)) h).1
scoped_part sorts p (Forall first kinds body) scope part h (inr none) = absurd none
scoped_part sorts p (Exists first kinds body) scope part h (inl same) =
    ap (λ (s : Spot). p s.id (with_variables first kinds scope)) same ∙ (both_true (has_some kinds) (p body.0 (with_variables first kinds scope)) h).1
scoped_part sorts p (Exists first kinds body) scope part h (inr none) = absurd none

pub entered_scoped : (sorts : Sorting) (nodes : List Node) (top : ℕ) (variables : List Sort) (spot : Spot) (scope : NamesInScope) → IsArena nodes → is_scoped nodes top (parameters variables) ≡ true
    → IsEntered sorts nodes top variables spot scope → is_scoped nodes spot.id scope ≡ true
entered_scoped sorts nodes top variables spot scope arena scoped at_top = scoped
entered_scoped sorts nodes top variables spot scope arena scoped (at_part s part outer node entered is listed) =
    scoped_part sorts (is_scoped nodes) node outer part
    (sym (scoped_at nodes s.id node outer is (arena_below nodes s.id node arena is)) ∙ entered_scoped sorts nodes top variables s outer arena scoped entered) listed

-- 3. A term that is bound in the scope was entered as a bit, under some scope.
among_spot : (standing : Standing) (part : ℕ) (ids : List TermId) → is_among part ids ≡ true → IsIn (record { id = part; standing = standing }) (map (spot_as standing) ids)
among_spot standing part [] has = absurd (cc)
among_spot standing part (id ∷ ids) has = by_test (id.0 == part) refl has (λ h. among_spot standing part ids h)
  where
    by_test : (b : Bool) → (id.0 == part) ≡ b → (b || is_among part ids) ≡ true → (is_among part ids ≡ true → IsIn (record { id = part; standing = standing }) (map (spot_as standing) ids))
        → (record { id = part; standing = standing } ≡ spot_as standing id) ⊎ IsIn (record { id = part; standing = standing }) (map (spot_as standing) ids)
    by_test true same h rest = inl (ap (λ (k : ℕ). spot_as standing (record { 0 = k })) (sym (eqb-true id.0 part same)))
    by_test false differ h rest = inr (rest h)

among_both : (part : ℕ) (xs ys : List TermId) → is_among part (xs ++ ys) ≡ true → (is_among part xs ≡ true) ⊎ (is_among part ys ≡ true)
among_both part [] ys h = inr h
among_both part (x ∷ xs) ys h = by_test (x.0 == part) h (λ e. among_both part xs ys e)
  where
    by_test : (b : Bool) → (b || is_among part (xs ++ ys)) ≡ true → (is_among part (xs ++ ys) ≡ true → (is_among part xs ≡ true) ⊎ (is_among part ys ≡ true)) → ((b || is_among part xs) ≡ true) ⊎ (is_among part ys ≡ true)
    by_test true h rest = inl refl
    by_test false h rest = rest h

-- the node binds the term to a name
abbrev Binds : Sorting → Node → NamesInScope → ℕ → Type 0
Binds sorts node scope id = IsIn (bit_spot id) (inner_spots sorts node) × (part_scope node (bit_spot id) scope ≡ scope)

bound_in : (sorts : Sorting) (node : Node) (part : Spot) (scope : NamesInScope) (id : ℕ) → is_among id (part_scope node part scope).bound ≡ true → (is_among id scope.bound ≡ true) ⊎ Binds sorts node scope id
bound_in sorts (Let bound body) part scope id h = by_standing part.standing h
  where
    by_standing : (st : Standing) → is_among id (body_scope st bound scope).bound ≡ true → (is_among id scope.bound ≡ true) ⊎ Binds sorts (Let bound body) scope id
    by_standing Plain h = elim (among_both id bound scope.bound h) [
      | inl here ↦ inr (in_left (bit_spot id) (map (spot_as Bit) bound) (spot_as Plain body ∷ []) (among_spot Bit id bound here), refl)
      | inr outer ↦ inl outer
    ]
    by_standing Bit h = inl h
    by_standing Argument h = inl h
bound_in sorts (Forall first kinds body) part scope id h = inl h
bound_in sorts (Exists first kinds body) part scope id h = inl h
bound_in sorts _ part scope id h = inl h

pub bound_entered : (sorts : Sorting) (nodes : List Node) (top : ℕ) (variables : List Sort) (spot : Spot) (scope : NamesInScope) (id : ℕ) → IsEntered sorts nodes top variables spot scope
    → is_among id scope.bound ≡ true → (outer : NamesInScope) × IsEntered sorts nodes top variables (bit_spot id) outer
bound_entered sorts nodes top variables spot scope id at_top bound = absurd (cc)
bound_entered sorts nodes top variables spot scope id (at_part s part before node entered is listed) bound = elim (bound_in sorts node part before id bound) [
  | inl outer ↦ bound_entered sorts nodes top variables s before id entered outer
  | inr here ↦ (before, subst (λ (o : NamesInScope). IsEntered sorts nodes top variables (bit_spot id) o) here.1 (at_part s (bit_spot id) before node entered is here.0))
]

-- 4. So every subterm was entered.
pub record WasEntered (sorts : Sorting) (nodes : List Node) (top : ℕ) (variables : List Sort) (id : ℕ) : Type 0 where
  pub spot : Spot
  pub scope : NamesInScope
  pub same : spot.id ≡ id
  pub entered : IsEntered sorts nodes top variables spot scope

-- what a name stands for is no part in the text
abbrev IsNameOf : Node → ℕ → Type 0
IsNameOf node part = (bound : TermId) × (node ≡ LetVar bound) × (bound.0 ≡ part)

abbrev IsInner : Sorting → Node → ℕ → Type 0
IsInner sorts node part = (s : Spot) × IsIn s (inner_spots sorts node) × (s.id ≡ part)

chosen_spot : (part : ℕ) (ids : List TermId) → is_among part ids ≡ true → (s : Spot) × IsIn s (chosen ids) × (s.id ≡ part)
chosen_spot part [] has = absurd (cc)
chosen_spot part (id ∷ ids) has = by_test (id.0 == part) refl has
  where
    by_test : (b : Bool) → (id.0 == part) ≡ b → (b || is_among part ids) ≡ true → (s : Spot) × IsIn s (chosen (id ∷ ids)) × (s.id ≡ part)
    by_test true same h = (spot_as Bit id, inl refl, eqb-true id.0 part same)
    by_test false differ h = (record { id = part; standing = Plain }, inr (among_spot Plain part ids h), refl)

operand_spot : (sorts : Sorting) (part : ℕ) (args : List TermId) → is_among part args ≡ true → (op : OpKind) → (s : Spot) × IsIn s (operands sorts op args) × (s.id ≡ part)
operand_spot sorts part args has Xor = (bit_spot part, among_spot Bit part args has, refl)
operand_spot sorts part args has Eq = (record { id = part; standing = if are_truths sorts args then Bit else Plain }, among_spot (if are_truths sorts args then Bit else Plain) part args has, refl)
operand_spot sorts part args has Distinct = (record { id = part; standing = if are_truths sorts args then Bit else Plain }, among_spot (if are_truths sorts args then Bit else Plain) part args has, refl)
operand_spot sorts part args has Ite = chosen_spot part args has
operand_spot sorts part args has _ = (record { id = part; standing = Plain }, among_spot Plain part args has, refl)

either_part : (a b : Bool) → (a || b) ≡ true → (a ≡ true) ⊎ (b ≡ true)
either_part true b h = inl refl
either_part false b h = inr h

part_found : (sorts : Sorting) (node : Node) (part : ℕ) → is_part part node ≡ true → IsNameOf node part ⊎ IsInner sorts node part
part_found sorts (Num n) part has = absurd (cc)
part_found sorts True part has = absurd (cc)
part_found sorts False part has = absurd (cc)
part_found sorts (Var binder sort) part has = absurd (cc)
part_found sorts (LetVar bound) part has = inl (bound, refl, eqb-true bound.0 part has)
part_found sorts (Pred pred args) part has = inr (record { id = part; standing = Argument }, among_spot Argument part args has, refl)
part_found sorts (Op op args) part has = inr (operand_spot sorts part args has op)
part_found sorts (Divisible by arg) part has = inr (spot_as Plain arg, inl refl, eqb-true arg.0 part has)
part_found sorts (Let bound body) part has = elim (either_part (is_among part bound) (body.0 == part) has) [
  | inl bit ↦ inr (bit_spot part, in_left (bit_spot part) (map (spot_as Bit) bound) (spot_as Plain body ∷ []) (among_spot Bit part bound bit), refl)
  | inr last ↦ inr (spot_as Plain body, in_right (spot_as Plain body) (map (spot_as Bit) bound) (spot_as Plain body ∷ []) (inl refl), eqb-true body.0 part last)
]
part_found sorts (Forall first kinds body) part has = inr (spot_as Plain body, inl refl, eqb-true body.0 part has)
part_found sorts (Exists first kinds body) part has = inr (spot_as Plain body, inl refl, eqb-true body.0 part has)

module _ (sorts : Sorting) (nodes : List Node) (top : ℕ) (variables : List Sort) (arena : IsArena nodes) (scoped : is_scoped nodes top (parameters variables) ≡ true) where
  -- what a name that was entered stands for
  name_entered : (spot : Spot) (scope : NamesInScope) (bound : TermId) → IsEntered sorts nodes top variables spot scope → slice_get nodes spot.id ≡ Some (LetVar bound)
      → (outer : NamesInScope) × IsEntered sorts nodes top variables (bit_spot bound.0) outer
  name_entered spot scope bound entered is =
      bound_entered sorts nodes top variables spot scope bound.0 entered
      (sym (scoped_at nodes spot.id (LetVar bound) scope is (arena_below nodes spot.id (LetVar bound) arena is)) ∙ entered_scoped sorts nodes top variables spot scope arena scoped entered)

  pub subterm_entered : (id : ℕ) → IsSubterm nodes top id → WasEntered sorts nodes top variables id
  subterm_entered id itself = record { spot = top_spot top; scope = parameters variables; same = refl; entered = at_top }
  subterm_entered id (inside part node sub is has) =
      let outer = subterm_entered _ sub in
      let at : slice_get nodes outer.spot.id ≡ Some node = ap (slice_get nodes) outer.same ∙ is in
      elim (part_found sorts node part has) [
        | inl name ↦
            let met = name_entered outer.spot outer.scope name.0 outer.entered (at ∙ ap (λ (m : Node). Some m) name.1) in
            record { spot = bit_spot name.0.0; scope = met.0; same = name.2; entered = met.1 }
        | inr found ↦ record { spot = found.0; scope = part_scope node found.0 outer.scope; same = found.2; entered = at_part outer.spot found.0 outer.scope node outer.entered at found.1 }
      ]

in_filtered : (test : Spot → Bool) (spot : Spot) (all : List Spot) → IsIn spot all → test spot ≡ true → (i : ℕ) × (slice_get (map (λ s. s.id) (filter test all)) i ≡ Some spot.id)
in_filtered test spot [] in_all passes = absurd in_all
in_filtered test spot (s ∷ all) (inl same) passes =
    (0, ap (λ (b : Bool). slice_get (map (λ (x : Spot). x.id) (if b then s ∷ filter test all else filter test all)) 0) (ap test (sym same) ∙ passes) ∙ ap (λ (x : Spot). Some x.id) (sym same))
in_filtered test spot (s ∷ all) (inr later) passes = by_test (test s) (in_filtered test spot all later passes)
  where
    by_test : (b : Bool) → ((i : ℕ) × (slice_get (map (λ (x : Spot). x.id) (filter test all)) i ≡ Some spot.id))
        → (i : ℕ) × (slice_get (map (λ (x : Spot). x.id) (if b then s ∷ filter test all else filter test all)) i ≡ Some spot.id)
    by_test true found = (suc found.0, found.1)
    by_test false found = found

-- 5. Places have names: a spot in the text that needs an auxiliary variable is in `places`, and what is in a list has a
-- position.
pub placed_named : (sorts : Sorting) (nodes : List Node) (top first : ℕ) (spot : Spot) → IsIn spot (spots sorts nodes top (top_spot top))
    → has_auxiliary sorts nodes spot ≡ true → (v : ℕ) × ((naming_of first (places sorts nodes top)).auxiliary spot.id ≡ Some v)
placed_named sorts nodes top first spot in_text has =
    let listed = in_filtered (has_auxiliary sorts nodes) spot (spots sorts nodes top (top_spot top)) in_text has in
    let found = position_there (λ p. p == spot.id) (places sorts nodes top) listed.0 spot.id listed.1 (eqb_self spot.id) in
    (first + found.0, ap (option_map (λ i. first + i)) found.1)

-- 6. Units have auxiliary variables wherever they stand, and so have the bits that are asked for.
unit_needs : (a b : Bool) → a ≡ true → (a || b) ≡ true
unit_needs true b h = refl
unit_needs false b h = absurd (cc)

bit_needs : (sort : Option Sort) (node : Node) → is_ready node ≡ false → sort ≡ Some BoolSort → (unit : Bool) → (unit || is_wanted Bit sort node) ≡ true
bit_needs sort node open_bit sorted true = refl
bit_needs sort node open_bit sorted false = ap (λ (b : Bool). if b then false else has_sort BoolSort sort) open_bit ∙ ap (has_sort BoolSort) sorted

-- the sides of `=` and `distinct` between Bool terms stand as bits, and so does the condition of an `ite`
compared_bit : (sorts : Sorting) (part : ℕ) (args : List TermId) → are_alike (map (λ (arg : TermId). sorts arg.0) args) ≡ true → is_among part args ≡ true → sorts part ≡ Some BoolSort
    → IsIn (bit_spot part) (map (spot_as (if are_truths sorts args then Bit else Plain)) args)
compared_bit sorts part [] alike has at = absurd (cc)
compared_bit sorts part (id ∷ ids) alike has at =
    let truths : has_sort BoolSort (sorts id.0) ≡ true = first_truth sorts (id ∷ ids) part alike has at id ids refl in
    subst (λ (b : Bool). IsIn (bit_spot part) (map (spot_as (if b then Bit else Plain)) (id ∷ ids))) (sym truths) (among_spot Bit part (id ∷ ids) has)

first_bit : (part : ℕ) (args : List TermId) → is_first part args ≡ true → IsIn (bit_spot part) (chosen args)
first_bit part [] h = absurd (cc)
first_bit part (id ∷ ids) h = inl (ap bit_spot (sym (eqb-true id.0 part h)))

module _ (preds : List Declared) (nodes : List Node) (top first : ℕ) (variables : List Sort) (sort : Sort) (arena : IsArena nodes) (legal : IsLegal preds nodes variables sort top) where
  here : top < length nodes
  here = sorted_there preds nodes top sort legal.sorted

  pub units_named : NamesUnits (sort_of preds nodes) nodes top (naming_of first (places (sort_of preds nodes) nodes top))
  units_named id node sub is unit =
      let sorts : Sorting = sort_of preds nodes in
      let was = subterm_entered sorts nodes top variables arena legal.scoped id sub in
      let in_text = entered_in_text sorts nodes top variables was.spot was.scope arena here was.entered in
      let at : slice_get nodes was.spot.id ≡ Some node = ap (slice_get nodes) was.same ∙ is in
      let unit_there : is_unit (sorts was.spot.id) node ≡ true = ap (λ (k : ℕ). is_unit (sorts k) node) was.same ∙ unit in
      let wanted : has_auxiliary sorts nodes was.spot ≡ true =
      ap (needs_one was.spot.standing (sorts was.spot.id)) at ∙ unit_needs (is_unit (sorts was.spot.id) node) (is_wanted was.spot.standing (sorts was.spot.id) node) unit_there in
      let named = placed_named sorts nodes top first was.spot in_text wanted in
      (named.0, ap (naming_of first (places sorts nodes top)).auxiliary (sym was.same) ∙ named.1)

  -- a part whose bit is asked for is a name's term, or stands as a bit
  asked_bit : (id part : ℕ) (node : Node) (s : Sort) → slice_get nodes id ≡ Some node → sort_of preds nodes id ≡ Some s → asks node part ≡ true → sort_of preds nodes part ≡ Some BoolSort
      → IsNameOf node part ⊎ IsIn (bit_spot part) (inner_spots (sort_of preds nodes) node)
  asked_bit id part (LetVar bound) s is sorted asked at = inl (bound, refl, eqb-true bound.0 part asked)
  asked_bit id part (Op Xor args) s is sorted asked at = inr (among_spot Bit part args asked)
  asked_bit id part (Op Eq args) s is sorted asked at =
      let given = sym (sort_at preds nodes id (Op Eq args) is (arena_below nodes id (Op Eq args) arena is)) ∙ sorted in
      inr (compared_bit (sort_of preds nodes) part args (equal_alike (sort_of preds nodes) args s given) asked at)
  asked_bit id part (Op Distinct args) s is sorted asked at =
      let given = sym (sort_at preds nodes id (Op Distinct args) is (arena_below nodes id (Op Distinct args) arena is)) ∙ sorted in
      inr (compared_bit (sort_of preds nodes) part args (distinct_alike (sort_of preds nodes) args s given) asked at)
  asked_bit id part (Op Ite args) s is sorted asked at = inr (first_bit part args asked)
  asked_bit id part _ s is sorted asked at = absurd (cc)

  pub bits_named : NamesBits (sort_of preds nodes) nodes top (naming_of first (places (sort_of preds nodes) nodes top))
  bits_named id part node partner sub is there asked at open_bit =
      let sorts : Sorting = sort_of preds nodes in
      let was = subterm_entered sorts nodes top variables arena legal.scoped id sub in
      let found : slice_get nodes was.spot.id ≡ Some node = ap (slice_get nodes) was.same ∙ is in
      let own = subterm_sorted preds nodes top id sort arena legal.sorted sub in
      let wanted : has_auxiliary sorts nodes (bit_spot part) ≡ true = ap (needs_one Bit (sorts part)) there ∙ bit_needs (sorts part) partner open_bit at (is_unit (sorts part) partner) in
      elim (asked_bit id part node own.0 is own.1 asked at) [
        | inl name ↦
            let met = name_entered sorts nodes top variables arena legal.scoped was.spot was.scope name.0 was.entered (found ∙ ap (λ (m : Node). Some m) name.1) in
            let in_text : IsIn (bit_spot part) (spots sorts nodes top (top_spot top)) =
            subst (λ (k : ℕ). IsIn (bit_spot k) (spots sorts nodes top (top_spot top))) name.2 (entered_in_text sorts nodes top variables (bit_spot name.0.0) met.0 arena here met.1) in
            placed_named sorts nodes top first (bit_spot part) in_text wanted
        | inr listed ↦
            placed_named sorts nodes top first (bit_spot part)
            (entered_in_text sorts nodes top variables (bit_spot part) (part_scope node (bit_spot part) was.scope) arena here
            (at_part was.spot (bit_spot part) was.scope node was.entered found listed)) wanted
      ]

pub got_position : (first : ℕ) (found : Option ℕ) (v : ℕ) → option_map (λ i. first + i) found ≡ Some v → (i : ℕ) × (found ≡ Some i) × (first + i ≡ v)
got_position first None v h = absurd (cc)
got_position first (Some i) v h = let same : first + i ≡ v = cc in (i, refl, same)

-- 7. No two terms have one auxiliary variable, and each of these follows the assertion's own.
pub named_once : (first : ℕ) (placed : List ℕ) (a b v : ℕ) → (naming_of first placed).auxiliary a ≡ Some v → (naming_of first placed).auxiliary b ≡ Some v → a ≡ b
named_once first placed a b v x y =
    let p = got_position first (position (λ n. n == a) placed) v x in
    let q = got_position first (position (λ n. n == b) placed) v y in
    let i : ℕ = p.0 in
    let j : ℕ = q.0 in
    let same : i ≡ j = omega (arith, p.2, q.2) in
    let ours = position_is (λ n. n == a) placed i p.1 in
    let theirs = position_is (λ n. n == b) placed j q.1 in
    let there : Some ours.element ≡ Some theirs.element = sym ours.there ∙ ap (slice_get placed) same ∙ theirs.there in
    let element : ours.element ≡ theirs.element = cc in
    sym (eqb-true ours.element a ours.passes) ∙ element ∙ eqb-true theirs.element b theirs.passes

pub named_between : (first : ℕ) (placed : List ℕ) (id v : ℕ) → (naming_of first placed).auxiliary id ≡ Some v → (first < v + 1) × (v < first + length placed)
named_between first placed id v named =
    let p = got_position first (position (λ n. n == id) placed) v named in
    let at = position_is (λ n. n == id) placed p.0 p.1 in
    (omega (arith, p.2), omega (arith, p.2, at.within))
