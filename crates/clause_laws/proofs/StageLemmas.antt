-- How each spot of an assertion with a clause is read, and what that says of its variables and its places.
--
-- Down to a term without predicates and quantifiers each spot is read as a clause, a body, a disjunct or an `exists` that is denied.
-- Quantifiers stand on the way of clauses alone, so the variables in scope are those of the clause that were met so far.
use Rattle.std.proofs.Common.{◌≡◌, ℕ, zero, suc, ◌+◌, ◌-◌, ◌<◌, ◌≤◌, ◌==◌, List, [], ◌∷◌, ◌++◌, length, map, Bool, true, false, ◌||◌, ◌&&◌, inl, inr, refl, ap, sym, ◌∙◌, subst, arith, append_assoc, length-append}
use Rattle.std.proofs.lemmas.Bool.Decides.{nat_tests}
use Rattle.std.specs.Prelude.{slice_get, Option, Some, None, Ok, Err, nat_lt, ◌⊎◌, if◌then◌else◌}
use Rattle.std.specs.List.{list_all}
use Rattle.std.proofs.lemmas.Bool.{eqb-true}
use Rattle.term_tree.specs.declared.sort.Sort.{Sort}
use Rattle.term_tree.specs.declared.node.TermId.{TermId}
use Rattle.term_tree.specs.declared.node.OpKind.TheVariants.{Not, And as AndOp, Or as OrOp, Implies, Ite, Abs, Div, Mod}
use Rattle.term_tree.specs.declared.node.Node.{Node}
use Rattle.term_tree.specs.declared.node.Node.TheVariants.{Pred, Op, Let, Forall, Exists}
use Rattle.term_tree.specs.declared.scalar.Value.TheVariants.{Bool as Truth}
use Rattle.term_tree.specs.Arena.{IsArena, has_parts_below}
use Rattle.term_tree.specs.Legal.{NamesInScope, next_variable, node_numbers, numbers_through, parameters, with_bound, with_variables}
use Rattle.term_tree.proofs.Public.{arena_below, numbered_at}
use Rattle.horn_shape.specs.Plain.{is_plain_term, node_is_plain}
use Rattle.horn_shape.specs.Shape.{Content, Reading, arguments, at, atom_of, body_form, body_reading, both, clause_form, clause_reading, denial, disjunct_form, disjunct_reading, disjuncts, each, head_of, implication, is_application, quantified_reading}
use Rattle.horn_shape.specs.machinery.Gathering.{place_of}
use Rattle.horn_shape.proofs.FlagLemmas.{plain_at}
use Rattle.horn_shape.proofs.BodyLemmas.{body_is, both_ok, bound_ok, chosen_ok, never_read, same_read}
use Rattle.horn_shape.proofs.DisjunctLemmas.{read_chosen}
use Rattle.horn_shape.proofs.KnownLemmas.{among_plain, carried_on, keep_args, keep_then, one_through}
use Rattle.horn_shape.proofs.ShapeLemmas.{body_mixed, clause_mixed, disjunct_mixed}
use Rattle.linear_terms.specs.declared.standing.Spot.{Spot}
use Rattle.linear_terms.specs.declared.standing.Standing.{Standing}
use Rattle.linear_terms.specs.declared.standing.Standing.TheVariants.{Plain, Bit, Argument}
use Rattle.linear_terms.specs.Text.{Sorting, inner_spots, is_unit, needs_one, spot_as}
use Rattle.clause_laws.proofs.EnteredLemmas.{IsEntered, IsIn, at_part, at_top, body_scope, in_both, part_scope, top_spot}
use Rattle.clause_laws.proofs.PartLemmas.{id_same, mapped_among, one_spot, part_of_inner, plain_below}

abbrev pub term_id : ℕ → TermId
term_id k = record { 0 = k }

-- each variable in scope has the sort that the clause's has
abbrev pub Knows : List Sort → NamesInScope → Type 0
Knows whole scope = (k : ℕ) (s : Sort) → scope.variables k ≡ Some s → slice_get whole k ≡ Some s

abbrev pub IsLow : ℕ → NamesInScope → Type 0
IsLow n scope = (k : ℕ) (s : Sort) → scope.variables k ≡ Some s → k < n

-- these come next among the clause's variables
pub record AreNext (whole : List Sort) (n : ℕ) (vars : List Sort) : Type 0 where
  pub front : List Sort
  pub are : whole ≡ front ++ vars
  pub long : length front ≡ n

abbrev pub IsBody : List Node → ℕ → Type 0
IsBody nodes k = (lets : List TermId) × (c : Content) × (body_reading nodes k (place_of (term_id k) lets) ≡ Ok c)

abbrev pub IsDisjunct : List Node → ℕ → Type 0
IsDisjunct nodes k = (lets : List TermId) × (c : Content) × (disjunct_reading nodes (slice_get nodes k) (place_of (term_id k) lets) ≡ Ok c)

pub record IsClauseAt (nodes : List Node) (whole : List Sort) (k : ℕ) (scope : NamesInScope) : Type 0 where
  pub lets : List TermId
  pub content : Content
  pub from : ℕ
  pub to : ℕ
  pub reads : clause_reading nodes k (place_of (term_id k) lets) ≡ Ok content
  pub numbers : next_variable nodes k from ≡ Some to
  pub low : IsLow from scope
  pub ahead : AreNext whole from content.vars

-- an `exists` that is denied
pub record IsDenied (nodes : List Node) (whole : List Sort) (k : ℕ) (scope : NamesInScope) : Type 0 where
  pub lets : List TermId
  pub content : Content
  pub from : ℕ
  pub to : ℕ
  pub first : ℕ
  pub sorts : List Sort
  pub body : TermId
  pub is : slice_get nodes k ≡ Some (Exists first sorts body)
  pub reads : body_reading nodes body.0 (place_of body lets) ≡ Ok content
  pub numbers : next_variable nodes k from ≡ Some to
  pub low : IsLow from scope
  pub ahead : AreNext whole from (sorts ++ content.vars)

abbrev pub IsMixed : List Node → List Sort → ℕ → NamesInScope → Type 0
IsMixed nodes whole k scope = IsBody nodes k ⊎ (IsDisjunct nodes k ⊎ (IsClauseAt nodes whole k scope ⊎ IsDenied nodes whole k scope))

pub record IsRead (nodes : List Node) (whole : List Sort) (spot : Spot) (scope : NamesInScope) : Type 0 where
  pub known : Knows whole scope
  pub stage : (is_plain_term nodes spot.id ≡ true) ⊎ ((spot.standing ≡ Plain) × IsMixed nodes whole spot.id scope)

-- The variables of a quantifier.
front_get : (xs ys : List Sort) (k : ℕ) (s : Sort) → slice_get xs k ≡ Some s → slice_get (xs ++ ys) k ≡ Some s
front_get [] ys k s h = absurd (cc)
front_get (x ∷ xs) ys zero s h = h
front_get (x ∷ xs) ys (suc k) s h = front_get xs ys k s h

behind_get : (xs ys : List Sort) (j : ℕ) → slice_get (xs ++ ys) (length xs + j) ≡ slice_get ys j
behind_get [] ys j = ap (slice_get ys) (omega arith)
behind_get (x ∷ xs) ys j = ap (slice_get (x ∷ (xs ++ ys))) (shifted (length xs) j) ∙ behind_get xs ys j
  where
    shifted : (a b : ℕ) → suc a + b ≡ suc (a + b)
    shifted a b = omega arith

below_is : (a b : ℕ) → nat_lt a b ≡ true → a < b
below_is a b e = grind (arith, nat_tests)

past_is : (a b : ℕ) → nat_lt a b ≡ false → b ≤ a
past_is a b e = grind (arith, nat_tests)

abbrev variable_by : NamesInScope → ℕ → List Sort → ℕ → Bool → Bool → Option Sort
variable_by scope n sorts k a b = if a then scope.variables k else if b then slice_get sorts (k - n) else scope.variables k

module _ (whole : List Sort) (n : ℕ) (sorts vars : List Sort) (scope : NamesInScope) (ahead : AreNext whole n (sorts ++ vars)) where
  at_variable : (k : ℕ) (s : Sort) → n ≤ k → slice_get sorts (k - n) ≡ Some s → slice_get whole k ≡ Some s
  at_variable k s le h =
      let long = ahead.long in
      let place : k ≡ length ahead.front + (k - n) = omega (arith, le, long) in
      ap (λ (xs : List Sort). slice_get xs k) ahead.are ∙ ap (slice_get (ahead.front ++ (sorts ++ vars))) place ∙ behind_get ahead.front (sorts ++ vars) (k - n) ∙ front_get sorts vars (k - n) s h

  knows_more : Knows whole scope → Knows whole (with_variables n sorts scope)
  knows_more known k s h = by_tests (nat_lt k n) (nat_lt (k - n) (length sorts)) refl refl h
    where
      by_tests : (a b : Bool) → nat_lt k n ≡ a → nat_lt (k - n) (length sorts) ≡ b → variable_by scope n sorts k a b ≡ Some s → slice_get whole k ≡ Some s
      by_tests true b e f h = known k s h
      by_tests false true e f h = at_variable k s (past_is k n e) h
      by_tests false false e f h = known k s h

  low_more : IsLow n scope → IsLow (n + length sorts) (with_variables n sorts scope)
  low_more low k s h = by_tests (nat_lt k n) (nat_lt (k - n) (length sorts)) refl refl h
    where
      by_tests : (a b : Bool) → nat_lt k n ≡ a → nat_lt (k - n) (length sorts) ≡ b → variable_by scope n sorts k a b ≡ Some s → k < n + length sorts
      by_tests true b e f h = let less = below_is k n e in omega (arith, less)
      by_tests false true e f h = let less = below_is (k - n) (length sorts) f in omega (arith, less)
      by_tests false false e f h = let less = low k s h in omega (arith, less)

  next_more : AreNext whole (n + length sorts) vars
  next_more =
      let long = ahead.long in
      record { front = ahead.front ++ sorts; are = ahead.are ∙ sym (append_assoc ahead.front sorts vars); long = omega (arith, long, length-append ahead.front sorts) }

knows_let : (whole : List Sort) (standing : Standing) (bound : List TermId) (scope : NamesInScope) → Knows whole scope → Knows whole (body_scope standing bound scope)
knows_let whole Plain bound scope known = known
knows_let whole Bit bound scope known = known
knows_let whole Argument bound scope known = known

low_let : (n : ℕ) (standing : Standing) (bound : List TermId) (scope : NamesInScope) → IsLow n scope → IsLow n (body_scope standing bound scope)
low_let n Plain bound scope low = low
low_let n Bit bound scope low = low
low_let n Argument bound scope low = low

-- without a quantifier the variables stay
knows_part : (whole : List Sort) (f : ℕ → Bool) (node : Node) (part : Spot) (scope : NamesInScope) → node_is_plain f node ≡ true → Knows whole scope → Knows whole (part_scope node part scope)
knows_part whole f (Let bound body) part scope plain known = knows_let whole part.standing bound scope known
knows_part whole f (Forall first kinds body) part scope plain known = absurd (cc)
knows_part whole f (Exists first kinds body) part scope plain known = absurd (cc)
knows_part whole f _ part scope plain known = known

mapped_standing : (standing : Standing) (ids : List TermId) (part : Spot) → IsIn part (map (spot_as standing) ids) → part.standing ≡ standing
mapped_standing standing [] part h = absurd h
mapped_standing standing (id ∷ ids) part (inl same) = ap (λ (s : Spot). s.standing) same
mapped_standing standing (id ∷ ids) part (inr later) = mapped_standing standing ids part later

quantified_ok : (sorts : List Sort) (r : Reading) (c : Content) → quantified_reading sorts r ≡ Ok c → (x : Content) × (r ≡ Ok x) × (c.vars ≡ sorts ++ x.vars)
quantified_ok sorts (Err t) c h = never_read t c h
quantified_ok sorts (Ok x) c h = (x, refl, ap (λ (z : Content). z.vars) (sym (same_read (record { vars = sorts ++ x.vars; atoms = x.atoms; guards = x.guards; head = x.head }) c h)))

first_is : (first n : ℕ) (x : Option ℕ) (m : ℕ) → (if first == n then x else None) ≡ Some m → (first ≡ n) × (x ≡ Some m)
first_is first n x m h = by_test (first == n) refl h
  where
    by_test : (b : Bool) → (first == n) ≡ b → (if b then x else None) ≡ Some m → (first ≡ n) × (x ≡ Some m)
    by_test true same h = (eqb-true first n same, h)
    by_test false differ h = absurd (cc)

module _ (nodes : List Node) (arena : IsArena nodes) (whole : List Sort) where
  -- a body has no variables of its own
  body_facts : (id : TermId) (lets : List TermId) (c : Content) → body_reading nodes id.0 (place_of id lets) ≡ Ok c → (c.vars ≡ []) × ((n m : ℕ) → next_variable nodes id.0 n ≡ Some m → m ≡ n)
  body_facts id lets c h = let b = body_is (λ pred values. Truth true) nodes arena id lets c (λ k. Truth true) h in (b.vars, b.keeps)

  numbers_of : (k : ℕ) (node : Node) (n m : ℕ) → slice_get nodes k ≡ Some node → next_variable nodes k n ≡ Some m → node_numbers (next_variable nodes) node n ≡ Some m
  numbers_of k node n m is h = sym (numbered_at nodes k node n is (arena_below nodes k node arena is)) ∙ h

  body_at_part : (id : TermId) (lets : List TermId) (x : Content) (part : Spot) → part.id ≡ id.0 → body_reading nodes id.0 (place_of id lets) ≡ Ok x → IsBody nodes part.id
  body_at_part id lets x part same h = (lets, x, subst (λ (k : ℕ). body_reading nodes k (place_of (term_id k) lets) ≡ Ok x) (sym same) h)

  each_read : (lets args : List TermId) (c : Content) (part : Spot) → each (body_reading nodes) lets args ≡ Ok c → IsIn part (map (spot_as Plain) args) → IsBody nodes part.id
  each_read lets [] c part h listed = absurd listed
  each_read lets (id ∷ ids) c part h (inl same) =
      let read = both_ok (at (body_reading nodes) lets id) (each (body_reading nodes) lets ids) c h in body_at_part id lets read.0 part (id_same part (spot_as Plain id) same) read.2
  each_read lets (id ∷ ids) c part h (inr later) =
      let read = both_ok (at (body_reading nodes) lets id) (each (body_reading nodes) lets ids) c h in each_read lets ids read.1 part read.3 later

  -- parts of what is read under a scope
  module _ (sorts : Sorting) (scope : NamesInScope) (known : Knows whole scope) where
    args_plain : (args : List TermId) (part : Spot) → list_all (λ a. is_plain_term nodes a.0) args ≡ true → IsIn part (map (spot_as Argument) args) → IsRead nodes whole part scope
    args_plain args part all listed = record { known = known; stage = inl (among_plain (is_plain_term nodes) part.id args all (mapped_among Argument args part listed)) }

    let_read : (bound : List TermId) (body : TermId) (part : Spot) → list_all (λ b. is_plain_term nodes b.0) bound ≡ true → ((p : Spot) → p ≡ spot_as Plain body → IsMixed nodes whole p.id (with_bound bound scope))
        → IsIn part (map (spot_as Bit) bound ++ spot_as Plain body ∷ []) → IsRead nodes whole part (body_scope part.standing bound scope)
    let_read bound body part all mixed listed = record {
      known = knows_let whole part.standing bound scope known;
      stage = elim (in_both part (map (spot_as Bit) bound) (spot_as Plain body ∷ []) listed) [
        | inl bit ↦ inl (among_plain (is_plain_term nodes) part.id bound all (mapped_among Bit bound part bit))
        | inr last ↦
            let same = one_spot body part last in
            let stands : part.standing ≡ Plain = ap (λ (s : Spot). s.standing) same in
            inr (stands, subst (λ (st : Standing). IsMixed nodes whole part.id (body_scope st bound scope)) (sym stands) (mixed part same))
      ];
    }

    body_parts : (k : ℕ) (lets : List TermId) (c : Content) (node : Node) (part : Spot) → body_form (is_plain_term nodes) (body_reading nodes) node (place_of (term_id k) lets) ≡ Ok c
        → IsIn part (inner_spots sorts node) → IsRead nodes whole part (part_scope node part scope)
    body_parts k lets c (Pred pred args) part h listed =
        args_plain args part (chosen_ok (list_all (λ a. is_plain_term nodes a.0) args) (atom_of (record { pred = pred; args = arguments lets args })) (term_id k) c h).0 listed
    body_parts k lets c (Op AndOp args) part h listed =
        record { known = known; stage = inr (mapped_standing Plain args part listed, inl (each_read lets args c part h listed)) }
    body_parts k lets c (Let bound body) part h listed =
        let read = bound_ok (is_plain_term nodes) bound (at (body_reading nodes) (lets ++ term_id k ∷ []) body) c h in
        let_read bound body part read.0 (λ p same. inl (body_at_part body (lets ++ term_id k ∷ []) c p (id_same p (spot_as Plain body) same) read.1)) listed
    body_parts k lets c _ part h listed = never_read (term_id k) c h

    one_body : (id : TermId) (lets : List TermId) (c : Content) (part : Spot) → body_reading nodes id.0 (place_of id lets) ≡ Ok c → IsIn part (spot_as Plain id ∷ []) → IsRead nodes whole part scope
    one_body id lets c part h listed =
        let same = one_spot id part listed in
        record { known = known; stage = inr (ap (λ (s : Spot). s.standing) same, inl (body_at_part id lets c part (id_same part (spot_as Plain id) same) h)) }

    disjunct_parts : (k : ℕ) (lets : List TermId) (c : Content) (node : Node) (part : Spot) → disjunct_form nodes node (place_of (term_id k) lets) ≡ Ok c
        → IsIn part (inner_spots sorts node) → IsRead nodes whole part (part_scope node part scope)
    disjunct_parts k lets c (Pred pred args) part h listed =
        args_plain args part (chosen_ok (list_all (λ a. is_plain_term nodes a.0) args) (head_of (record { pred = pred; args = arguments lets args })) (term_id k) c h).0 listed
    disjunct_parts k lets c (Op Not (body ∷ [])) part h listed = one_body body lets c part h listed
    disjunct_parts k lets c _ part h listed = never_read (term_id k) c h

    disjuncts_read : (headed : Bool) (lets args : List TermId) (c : Content) (part : Spot) → disjuncts nodes headed lets args ≡ Ok c → IsIn part (map (spot_as Plain) args) → IsDisjunct nodes part.id
    disjuncts_read headed lets [] c part h listed = absurd listed
    disjuncts_read headed lets (id ∷ ids) c part h listed =
        let node = slice_get nodes id.0 in
        let chosen = read_chosen (headed && is_application node) id (both (disjunct_reading nodes node (place_of id lets)) (disjuncts nodes (headed || is_application node) lets ids)) c h in
        let read = both_ok (disjunct_reading nodes node (place_of id lets)) (disjuncts nodes (headed || is_application node) lets ids) c chosen.1 in
        by_place read.0 read.1 read.2 read.3 (λ later. disjuncts_read (headed || is_application (slice_get nodes id.0)) lets ids read.1 part read.3 later) listed
      where
        by_place : (x y : Content) → disjunct_reading nodes (slice_get nodes id.0) (place_of id lets) ≡ Ok x → disjuncts nodes (headed || is_application (slice_get nodes id.0)) lets ids ≡ Ok y
            → (IsIn part (map (spot_as Plain) ids) → IsDisjunct nodes part.id) → IsIn part (spot_as Plain id ∷ map (spot_as Plain) ids) → IsDisjunct nodes part.id
        by_place x y hx hy rest (inl same) =
            (lets, x, subst (λ (n : ℕ). disjunct_reading nodes (slice_get nodes n) (place_of (term_id n) lets) ≡ Ok x) (sym (id_same part (spot_as Plain id) same)) hx)
        by_place x y hx hy rest (inr later) = rest later

    implied_read : (k n m : ℕ) (lets args : List TermId) (c : Content) (part : Spot) → implication (body_reading nodes) (clause_reading nodes) (place_of (term_id k) lets) args ≡ Ok c
        → numbers_through (next_variable nodes) args n ≡ Some m → IsLow n scope → AreNext whole n c.vars → IsIn part (map (spot_as Plain) args) → IsMixed nodes whole part.id scope
    implied_read k n m lets [] c part h numbers low ahead listed = absurd listed
    implied_read k n m lets (id ∷ []) c part h numbers low ahead (inl same) =
        let number : id.0 ≡ part.id = sym (id_same part (spot_as Plain id) same) in
        inr (inr (inl (record {
          lets = lets;
          content = c;
          from = n;
          to = m;
          reads = subst (λ (q : ℕ). clause_reading nodes q (place_of (term_id q) lets) ≡ Ok c) number h;
          numbers = subst (λ (q : ℕ). next_variable nodes q n ≡ Some m) number (one_through (next_variable nodes) id n m numbers);
          low = low;
          ahead = ahead;
        })))
    implied_read k n m lets (id ∷ []) c part h numbers low ahead (inr none) = absurd none
    implied_read k n m lets (id ∷ next ∷ ids) c part h numbers low ahead listed =
        let read = both_ok (at (body_reading nodes) lets id) (implication (body_reading nodes) (clause_reading nodes) (place_of (term_id k) lets) (next ∷ ids)) c h in
        let facts = body_facts id lets read.0 read.2 in
        let on = carried_on (λ q. numbers_through (next_variable nodes) (next ∷ ids) q) (next_variable nodes id.0 n) m numbers in
        let stays : on.0 ≡ n = facts.1 n on.0 on.1 in
        let vars : c.vars ≡ read.1.vars = ap (λ (z : Content). z.vars) (sym read.4) ∙ ap (λ (xs : List Sort). xs ++ read.1.vars) facts.0 in
        let numbered : numbers_through (next_variable nodes) (next ∷ ids) n ≡ Some m = subst (λ (q : ℕ). numbers_through (next_variable nodes) (next ∷ ids) q ≡ Some m) stays on.2 in
        let further : AreNext whole n read.1.vars = record { front = ahead.front; are = ahead.are ∙ ap (λ (xs : List Sort). ahead.front ++ xs) vars; long = ahead.long } in
        by_place read.0 read.2 (λ later. implied_read k n m lets (next ∷ ids) read.1 part read.3 numbered low further later) listed
      where
        by_place : (x : Content) → body_reading nodes id.0 (place_of id lets) ≡ Ok x → (IsIn part (map (spot_as Plain) (next ∷ ids)) → IsMixed nodes whole part.id scope) → IsIn part (spot_as Plain id ∷ map (spot_as Plain) (next ∷ ids)) → IsMixed nodes whole part.id scope
        by_place x hx rest (inl same) = inl (body_at_part id lets x part (id_same part (spot_as Plain id) same) hx)
        by_place x hx rest (inr later) = rest later

    -- what is denied
    denial_read : (body : TermId) (lets : List TermId) (c : Content) (n m : ℕ) (part : Spot) (found : Option Node) → slice_get nodes body.0 ≡ found → denial nodes found (place_of body lets) ≡ Ok c
        → next_variable nodes body.0 n ≡ Some m → IsLow n scope → AreNext whole n c.vars → part.id ≡ body.0 → IsMixed nodes whole part.id scope
    denial_read body lets c n m part (Some (Exists first kinds inside_body)) is h numbers low ahead same =
        let read = quantified_ok kinds (at (body_reading nodes) lets inside_body) c h in
        inr (inr (inr (record {
          lets = lets;
          content = read.0;
          from = n;
          to = m;
          first = first;
          sorts = kinds;
          body = inside_body;
          is = ap (slice_get nodes) same ∙ is;
          reads = read.1;
          numbers = ap (λ (q : ℕ). next_variable nodes q n) same ∙ numbers;
          low = low;
          ahead = record { front = ahead.front; are = ahead.are ∙ ap (λ (xs : List Sort). ahead.front ++ xs) read.2; long = ahead.long };
        })))
    denial_read body lets c n m part None is h numbers low ahead same = inl (body_at_part body lets c part same h)
    denial_read body lets c n m part (Some node) is h numbers low ahead same = inl (body_at_part body lets c part same h)

    clause_parts : (k n m : ℕ) (lets : List TermId) (c : Content) (node : Node) (part : Spot) → clause_form nodes (clause_reading nodes) node (place_of (term_id k) lets) ≡ Ok c
        → node_numbers (next_variable nodes) node n ≡ Some m → IsLow n scope → AreNext whole n c.vars → IsIn part (inner_spots sorts node) → IsRead nodes whole part (part_scope node part scope)
    clause_parts k n m lets c (Pred pred args) part h numbers low ahead listed =
        args_plain args part (chosen_ok (list_all (λ a. is_plain_term nodes a.0) args) (head_of (record { pred = pred; args = arguments lets args })) (term_id k) c h).0 listed
    clause_parts k n m lets c (Forall first kinds body) part h numbers low ahead listed =
        let read = quantified_ok kinds (at (clause_reading nodes) lets body) c h in
        let at_first = first_is first n (next_variable nodes body.0 (n + length kinds)) m numbers in
        let same = one_spot body part listed in
        let number : body.0 ≡ part.id = sym (id_same part (spot_as Plain body) same) in
        let next : AreNext whole n (kinds ++ read.0.vars) = record { front = ahead.front; are = ahead.are ∙ ap (λ (xs : List Sort). ahead.front ++ xs) read.2; long = ahead.long } in
        subst (λ (f : ℕ). IsRead nodes whole part (with_variables f kinds scope)) (sym at_first.0) (record {
          known = knows_more whole n kinds read.0.vars scope next known;
          stage = inr (
            ap (λ (s : Spot). s.standing) same,
            inr (inr (inl (record {
              lets = lets;
              content = read.0;
              from = n + length kinds;
              to = m;
              reads = subst (λ (q : ℕ). clause_reading nodes q (place_of (term_id q) lets) ≡ Ok read.0) number read.1;
              numbers = subst (λ (q : ℕ). next_variable nodes q (n + length kinds) ≡ Some m) number at_first.1;
              low = low_more whole n kinds read.0.vars scope next low;
              ahead = next_more whole n kinds read.0.vars scope next;
            }))),
          );
        })
    clause_parts k n m lets c (Let bound body) part h numbers low ahead listed =
        let read = bound_ok (is_plain_term nodes) bound (at (clause_reading nodes) (lets ++ term_id k ∷ []) body) c h in
        let on = one_through (next_variable nodes) body n m (keep_then (next_variable nodes) bound (body ∷ []) n m (keep_args nodes arena bound read.0) numbers) in
        let_read bound body part read.0 (λ p same. inr (inr (inl (record {
          lets = lets ++ term_id k ∷ [];
          content = c;
          from = n;
          to = m;
          reads = subst (λ (q : ℕ). clause_reading nodes q (place_of (term_id q) (lets ++ term_id k ∷ [])) ≡ Ok c) (sym (id_same p (spot_as Plain body) same)) read.1;
          numbers = subst (λ (q : ℕ). next_variable nodes q n ≡ Some m) (sym (id_same p (spot_as Plain body) same)) on;
          low = low;
          ahead = ahead;
        })))) listed
    clause_parts k n m lets c (Op Implies args) part h numbers low ahead listed =
        record { known = known; stage = inr (mapped_standing Plain args part listed, implied_read k n m lets args c part h numbers low ahead listed) }
    clause_parts k n m lets c (Op OrOp args) part h numbers low ahead listed =
        record { known = known; stage = inr (mapped_standing Plain args part listed, inr (inl (disjuncts_read false lets args c part h listed))) }
    clause_parts k n m lets c (Op Not (body ∷ [])) part h numbers low ahead listed =
        let same = one_spot body part listed in
        record {
          known = known;
          stage = inr (
            ap (λ (s : Spot). s.standing) same,
            denial_read body lets c n m part (slice_get nodes body.0) refl h (one_through (next_variable nodes) body n m numbers) low ahead (id_same part (spot_as Plain body) same),
          );
        }
    clause_parts k n m lets c _ part h numbers low ahead listed = never_read (term_id k) c h

    denied_parts : (k : ℕ) (node : Node) (part : Spot) (d : IsDenied nodes whole k scope) → slice_get nodes k ≡ Some node → IsIn part (inner_spots sorts node) → IsRead nodes whole part (part_scope node part scope)
    denied_parts k node part d is listed =
        let node_is : Exists d.first d.sorts d.body ≡ node = same_node (Exists d.first d.sorts d.body) node (sym d.is ∙ is) in
        subst (λ (n : Node). IsRead nodes whole part (part_scope n part scope)) node_is (exists_parts (subst (λ (n : Node). IsIn part (inner_spots sorts n)) (sym node_is) listed))
      where
        same_node : (a b : Node) → Some a ≡ Some b → a ≡ b
        same_node a b h = cc

        exists_parts : IsIn part (spot_as Plain d.body ∷ []) → IsRead nodes whole part (with_variables d.first d.sorts scope)
        exists_parts here =
            let same = one_spot d.body part here in
            let at_first = first_is d.first d.from (next_variable nodes d.body.0 (d.from + length d.sorts)) d.to (numbers_of k (Exists d.first d.sorts d.body) d.from d.to d.is d.numbers) in
            subst (λ (f : ℕ). IsRead nodes whole part (with_variables f d.sorts scope)) (sym at_first.0) (record {
              known = knows_more whole d.from d.sorts d.content.vars scope d.ahead known;
              stage = inr (ap (λ (s : Spot). s.standing) same, inl (body_at_part d.body d.lets d.content part (id_same part (spot_as Plain d.body) same) d.reads));
            })

  -- the parts of a spot that is read are read
  read_part : (sorts : Sorting) (spot part : Spot) (scope : NamesInScope) (node : Node) → IsRead nodes whole spot scope → slice_get nodes spot.id ≡ Some node → IsIn part (inner_spots sorts node)
      → IsRead nodes whole part (part_scope node part scope)
  read_part sorts spot part scope node reads is listed = by_plain (is_plain_term nodes spot.id) refl
    where
      below : has_parts_below spot.id node ≡ true
      below = arena_below nodes spot.id node arena is

      plain_node : (b : Bool) → is_plain_term nodes spot.id ≡ b → node_is_plain (is_plain_term nodes) node ≡ b
      plain_node b h = sym (plain_at nodes spot.id node is below) ∙ h

      mixed_part : is_plain_term nodes spot.id ≡ false → IsMixed nodes whole spot.id scope → IsRead nodes whole part (part_scope node part scope)
      mixed_part isnt (inl body) = body_parts sorts scope reads.known spot.id body.0 body.1 node part (sym (body_mixed nodes spot.id node (place_of (term_id spot.id) body.0) is below isnt) ∙ body.2) listed
      mixed_part isnt (inr (inl d)) =
          disjunct_parts sorts scope reads.known spot.id d.0 d.1 node part
          (sym (disjunct_mixed nodes spot.id node (place_of (term_id spot.id) d.0) is below isnt) ∙ sym (ap (λ (o : Option Node). disjunct_reading nodes o (place_of (term_id spot.id) d.0)) is) ∙ d.2) listed
      mixed_part isnt (inr (inr (inl c))) =
          clause_parts sorts scope reads.known spot.id c.from c.to c.lets c.content node part (sym (clause_mixed nodes spot.id node (place_of (term_id spot.id) c.lets) is below isnt) ∙ c.reads)
          (numbers_of spot.id node c.from c.to is c.numbers) c.low c.ahead listed
      mixed_part isnt (inr (inr (inr d))) = denied_parts sorts scope reads.known spot.id node part d is listed

      by_plain : (b : Bool) → is_plain_term nodes spot.id ≡ b → IsRead nodes whole part (part_scope node part scope)
      by_plain true plain = record {
        known = knows_part whole (is_plain_term nodes) node part scope (plain_node true plain) reads.known;
        stage = inl (plain_below (is_plain_term nodes) node part.id (plain_node true plain) (part_of_inner sorts node part listed));
      }
      by_plain false isnt = elim reads.stage [ inl plain ↦ absurd (differ (sym plain ∙ isnt)) | inr mixed ↦ mixed_part isnt mixed.1 ]
        where
          differ : true ≡ false → ⊥
          differ e = absurd (cc)

  -- so whatever is entered is read
  pub entered_read : (sorts : Sorting) (top : ℕ) (variables : List Sort) (spot : Spot) (scope : NamesInScope) → IsRead nodes whole (top_spot top) (parameters variables) → IsEntered sorts nodes top variables spot scope
      → IsRead nodes whole spot scope
  entered_read sorts top variables spot scope start at_top = start
  entered_read sorts top variables spot scope start (at_part s part outer node entered is listed) = read_part sorts s part outer node (entered_read sorts top variables s outer start entered) is listed

  -- a place is a term without predicates and quantifiers
  no_form : {A : Type 0} (k : ℕ) (sort : Option Sort) (node : Node) (scope : NamesInScope) → is_unit sort node ≡ true → slice_get nodes k ≡ Some node → is_plain_term nodes k ≡ false → IsMixed nodes whole k scope → A
  no_form k sort node scope unit is isnt (inl body) =
      no_body_form sort node (term_id k) body.0 body.1 unit (sym (body_mixed nodes k node (place_of (term_id k) body.0) is (arena_below nodes k node arena is) isnt) ∙ body.2)
    where
      no_body_form : {A : Type 0} (sort : Option Sort) (node : Node) (id : TermId) (lets : List TermId) (c : Content) → is_unit sort node ≡ true
          → body_form (is_plain_term nodes) (body_reading nodes) node (place_of id lets) ≡ Ok c → A
      no_body_form sort (Op Ite args) id lets c unit h = never_read id c h
      no_body_form sort (Op Abs args) id lets c unit h = never_read id c h
      no_body_form sort (Op Div args) id lets c unit h = never_read id c h
      no_body_form sort (Op Mod args) id lets c unit h = never_read id c h
      no_body_form sort _ id lets c unit h = absurd (cc)
  no_form k sort node scope unit is isnt (inr (inl d)) =
      no_disjunct_form sort node (term_id k) d.0 d.1 unit
      (sym (disjunct_mixed nodes k node (place_of (term_id k) d.0) is (arena_below nodes k node arena is) isnt) ∙ sym (ap (λ (o : Option Node). disjunct_reading nodes o (place_of (term_id k) d.0)) is) ∙ d.2)
    where
      no_disjunct_form : {A : Type 0} (sort : Option Sort) (node : Node) (id : TermId) (lets : List TermId) (c : Content) → is_unit sort node ≡ true → disjunct_form nodes node (place_of id lets) ≡ Ok c → A
      no_disjunct_form sort (Op Ite args) id lets c unit h = never_read id c h
      no_disjunct_form sort (Op Abs args) id lets c unit h = never_read id c h
      no_disjunct_form sort (Op Div args) id lets c unit h = never_read id c h
      no_disjunct_form sort (Op Mod args) id lets c unit h = never_read id c h
      no_disjunct_form sort _ id lets c unit h = absurd (cc)
  no_form k sort node scope unit is isnt (inr (inr (inl c))) =
      no_clause_form sort node (term_id k) c.lets c.content unit (sym (clause_mixed nodes k node (place_of (term_id k) c.lets) is (arena_below nodes k node arena is) isnt) ∙ c.reads)
    where
      no_clause_form : {A : Type 0} (sort : Option Sort) (node : Node) (id : TermId) (lets : List TermId) (c : Content) → is_unit sort node ≡ true
          → clause_form nodes (clause_reading nodes) node (place_of id lets) ≡ Ok c → A
      no_clause_form sort (Op Ite args) id lets c unit h = never_read id c h
      no_clause_form sort (Op Abs args) id lets c unit h = never_read id c h
      no_clause_form sort (Op Div args) id lets c unit h = never_read id c h
      no_clause_form sort (Op Mod args) id lets c unit h = never_read id c h
      no_clause_form sort _ id lets c unit h = absurd (cc)
  no_form k sort node scope unit is isnt (inr (inr (inr d))) =
      no_exists sort node unit (same_node (Exists d.first d.sorts d.body) node (sym d.is ∙ is))
    where
      same_node : (a b : Node) → Some a ≡ Some b → a ≡ b
      same_node a b h = cc

      no_exists : {A : Type 0} (sort : Option Sort) (node : Node) → is_unit sort node ≡ true → Exists d.first d.sorts d.body ≡ node → A
      no_exists sort (Exists first sorts body) unit same = absurd (cc)
      no_exists sort _ unit same = absurd (cc)

  pub place_plain : (sort : Option Sort) (spot : Spot) (scope : NamesInScope) (node : Node) → IsRead nodes whole spot scope → slice_get nodes spot.id ≡ Some node → needs_one spot.standing sort (Some node) ≡ true
      → is_plain_term nodes spot.id ≡ true
  place_plain sort spot scope node reads is needs = by_plain (is_plain_term nodes spot.id) refl
    where
      unit_of : (a : Bool) → (a || false) ≡ true → a ≡ true
      unit_of true h = refl
      unit_of false h = h

      by_plain : (b : Bool) → is_plain_term nodes spot.id ≡ b → b ≡ true
      by_plain true plain = refl
      by_plain false isnt = elim reads.stage [
        | inl plain ↦ sym isnt ∙ plain
        | inr mixed ↦
            let stands : needs_one Plain sort (Some node) ≡ true = ap (λ (st : Standing). needs_one st sort (Some node)) (sym mixed.0) ∙ needs in
            no_form spot.id sort node scope (unit_of (is_unit sort node) stands) is isnt mixed.1
      ]
