-- The variables and places of an assertion with a clause, or of a definition, and its points.
use Rattle.std.proofs.Common.{◌≡◌, ℕ, zero, suc, ◌+◌, ◌<◌, ◌==◌, List, [], ◌∷◌, length, map, take, Bool, true, false, inl, inr, refl, ap, sym, ◌∙◌, subst, arith}
use Rattle.std.specs.Prelude.{slice_get, filter, position, Some, option_map, nat_lt, ℤ, if◌then◌else◌}
use Rattle.std.specs.List.{flat_map}
use Rattle.std.specs.Ordering.{int_eq}
use Rattle.std.proofs.lemmas.Bool.{eqb-true}
use Rattle.std.proofs.lemmas.Bool.Decides.{nat_tests}
use Rattle.term_tree.specs.declared.sort.Sort.{Sort}
use Rattle.term_tree.specs.declared.sort.Sort.TheVariants.{Bool as BoolSort}
use Rattle.term_tree.specs.declared.script.Pred.{Pred as Declared}
use Rattle.term_tree.specs.declared.node.Node.{Node}
use Rattle.term_tree.specs.declared.node.Node.TheVariants.{Var}
use Rattle.term_tree.specs.declared.scalar.Value.{Value}
use Rattle.term_tree.specs.declared.scalar.Value.TheVariants.{Bool as Truth}
use Rattle.term_tree.specs.Arena.{IsArena, has_parts_below}
use Rattle.term_tree.specs.Legal.{IsLegal, NamesInScope, parameters}
use Rattle.term_tree.specs.Operators.{truth as truth_of, same_truth}
use Rattle.term_tree.specs.Sorts.{has_sort, sort_of}
use Rattle.term_tree.specs.Subterms.{IsSubterm, inside, itself}
use Rattle.term_tree.specs.Truth.{HaveSorts}
use Rattle.term_tree.specs.Value.{environment_of, value_of}
use Rattle.term_tree.proofs.Public.{arena_below, scoped_at, there_is}
use Rattle.horn_shape.specs.Plain.{is_plain_term}
use Rattle.horn_shape.proofs.Public.{plain_is}
use Rattle.horn_shape.proofs.ScopeLemmas.{get_sorted, sort_is}
use Rattle.lin_atoms.specs.Linear.{variable_at}
use Rattle.lin_atoms.specs.Truth.{truth}
use Rattle.linear_terms.specs.declared.standing.Spot.{Spot}
use Rattle.linear_terms.specs.Text.{Sorting, has_auxiliary, inner_spots, needs_one, places, spots}
use Rattle.linear_terms.specs.Linear.{Naming}
use Rattle.linear_terms.specs.Meeting.{IsWritten, MeetsBelow, MeetsVariables, number}
use Rattle.linear_terms.specs.Place.{place_form}
use Rattle.linear_terms.specs.Formula.{formula}
use Rattle.linear_terms.proofs.Public.{formula_is, place_value, sorted_there}
use Rattle.linear_terms.proofs.RelationLemmas.{own_integer, same_integer}
use Rattle.clause_laws.proofs.SpotLemmas.{inner_below, spots_at}
use Rattle.term_widths.proofs.PositionLemmas.{position_is}
use Rattle.clause_laws.proofs.SortedLemmas.{subterm_sorted}
use Rattle.clause_laws.proofs.EnteredLemmas.{IsEntered, IsIn, at_part, at_top, bits_named, entered_scoped, got_position, in_flat, part_scope, part_there, subterm_entered, top_spot, units_named}
use Rattle.clause_laws.proofs.PartLemmas.{part_of_inner}
use Rattle.clause_laws.proofs.StageLemmas.{IsRead, entered_read, place_plain}

-- a subterm of a subterm is one
through : (nodes : List Node) (top mid id : ℕ) → IsSubterm nodes top mid → IsSubterm nodes mid id → IsSubterm nodes top id
through nodes top mid id first itself = first
through nodes top mid id first (inside part node second is has) = inside part node (through nodes top mid _ first second) is has

pub entered_subterm : (sorts : Sorting) (nodes : List Node) (top : ℕ) (variables : List Sort) (spot : Spot) (scope : NamesInScope) → IsEntered sorts nodes top variables spot scope → IsSubterm nodes top spot.id
entered_subterm sorts nodes top variables spot scope at_top = itself
entered_subterm sorts nodes top variables spot scope (at_part s part outer node entered is listed) =
    inside part.id node (entered_subterm sorts nodes top variables s outer entered) is (part_of_inner sorts node part listed)

-- all that is in the text of a spot that was entered was entered
text_entered : (sorts : Sorting) (nodes : List Node) (top : ℕ) (variables : List Sort) → IsArena nodes → (n : ℕ) (s : Spot) (scope : NamesInScope) → s.id < n → s.id < length nodes
    → IsEntered sorts nodes top variables s scope → (spot : Spot) → IsIn spot (spots sorts nodes s.id s) → (outer : NamesInScope) × IsEntered sorts nodes top variables spot outer
text_entered sorts nodes top variables arena zero s scope less within entered spot listed = absurd (omega (arith, less))
text_entered sorts nodes top variables arena (suc n) s scope less within entered spot listed =
    let found = there_is nodes s.id within in
    let own : Node = found.0 in
    let is : slice_get nodes s.id ≡ Some own = found.1 in
    let below : has_parts_below s.id own ≡ true = arena_below nodes s.id own arena is in
    let f : Spot → List Spot = λ q. spots sorts nodes q.id q in
    let here : IsIn spot (s ∷ flat_map f (inner_spots sorts own)) = subst (λ (xs : List Spot). IsIn spot xs) (spots_at sorts nodes s.id own s is below) listed in
    elim here [
      | inl same ↦ (scope, subst (λ (x : Spot). IsEntered sorts nodes top variables x scope) (sym same) entered)
      | inr later ↦
          let one = in_flat f (inner_spots sorts own) spot later in
          let lower = part_there s.id (inner_spots sorts own) one.part (inner_below sorts s.id own below) one.listed in
          text_entered sorts nodes top variables arena n one.part (part_scope own one.part scope) (omega (arith, lower, less)) (omega (arith, lower, within))
          (at_part s one.part scope own entered is one.listed) spot one.met
    ]

-- what is listed among the places
pub record IsPlace (sorts : Sorting) (nodes : List Node) (all : List Spot) (id : ℕ) : Type 0 where
  pub spot : Spot
  pub in_text : IsIn spot all
  pub needs : has_auxiliary sorts nodes spot ≡ true
  pub same : spot.id ≡ id

later_place : (sorts : Sorting) (nodes : List Node) (s : Spot) (all : List Spot) (id : ℕ) → IsPlace sorts nodes all id → IsPlace sorts nodes (s ∷ all) id
later_place sorts nodes s all id found = record { spot = found.spot; in_text = inr found.in_text; needs = found.needs; same = found.same }

place_listed : (sorts : Sorting) (nodes : List Node) (all : List Spot) (i id : ℕ) → slice_get (map (λ s. s.id) (filter (has_auxiliary sorts nodes) all)) i ≡ Some id → IsPlace sorts nodes all id
place_listed sorts nodes [] i id h = absurd (cc)
place_listed sorts nodes (s ∷ all) i id h = by_test (has_auxiliary sorts nodes s) refl (λ k e. later_place sorts nodes s all id (place_listed sorts nodes all k id e)) i h
  where
    by_test : (b : Bool) → has_auxiliary sorts nodes s ≡ b
        → ((k : ℕ) → slice_get (map (λ (x : Spot). x.id) (filter (has_auxiliary sorts nodes) all)) k ≡ Some id → IsPlace sorts nodes (s ∷ all) id)
        → (k : ℕ) → slice_get (map (λ (x : Spot). x.id) (if b then s ∷ filter (has_auxiliary sorts nodes) all else filter (has_auxiliary sorts nodes) all)) k ≡ Some id
        → IsPlace sorts nodes (s ∷ all) id
    by_test true needs later zero e = let same : s.id ≡ id = cc in record { spot = s; in_text = inl refl; needs = needs; same = same }
    by_test true needs later (suc k) e = later k e
    by_test false none later k e = later k e

-- where a point begins with the numbers of values, its coordinates have the values of variables of these sorts
pub front_stands : (sorts : List Sort) (values : List Value) (point : List ℤ) → HaveSorts sorts values → take (length sorts) point ≡ map number values → (k : ℕ) (s : Sort) → slice_get sorts k ≡ Some s
    → variable_at point k ≡ number (environment_of values k)
front_stands [] values point have front k s is = absurd (cc)
front_stands (t ∷ sorts) [] point have front k s is = absurd have
front_stands (t ∷ sorts) (v ∷ values) [] have front k s is = absurd (cc)
front_stands (t ∷ sorts) (v ∷ values) (x ∷ point) have front zero s is = cc
front_stands (t ∷ sorts) (v ∷ values) (x ∷ point) have front (suc k) s is = let rest : take (length sorts) point ≡ map number values = cc in front_stands sorts values point have.1 rest k s is

module _ (preds : List Declared) (nodes : List Node) (top : ℕ) (variables vars : List Sort) (own : ℕ → ℕ) (first : ℕ) (arena : IsArena nodes) (legal : IsLegal preds nodes variables BoolSort top)
    (start : IsRead nodes vars (top_spot top) (parameters variables)) where
  abbrev pub sorts_here : Sorting
  sorts_here = sort_of preds nodes

  abbrev pub placed : List ℕ
  placed = places (sort_of preds nodes) nodes top

  abbrev pub names : Naming
  names = record { own = own; auxiliary = λ id. option_map (λ i. first + i) (position (λ p. p == id) (places (sort_of preds nodes) nodes top)) }

  top_there : top < length nodes
  top_there = sorted_there preds nodes top BoolSort legal.sorted

  -- a variable has the sort that the clause gives it
  pub variable_known : (id binder : ℕ) (sort : Sort) → IsSubterm nodes top id → slice_get nodes id ≡ Some (Var binder sort) → slice_get vars binder ≡ Some sort
  variable_known id binder sort sub is =
      let was = subterm_entered (sort_of preds nodes) nodes top variables arena legal.scoped id sub in
      let read = entered_read nodes arena vars (sort_of preds nodes) top variables was.spot was.scope start was.entered in
      let at : slice_get nodes was.spot.id ≡ Some (Var binder sort) = ap (slice_get nodes) was.same ∙ is in
      let scoped : has_sort sort (was.scope.variables binder) ≡ true =
      sym (scoped_at nodes was.spot.id (Var binder sort) was.scope at (arena_below nodes was.spot.id (Var binder sort) arena at))
      ∙ entered_scoped (sort_of preds nodes) nodes top variables was.spot was.scope arena legal.scoped was.entered in
      read.known binder sort (sort_is sort (was.scope.variables binder) scoped)

  -- a place is a subterm without predicates and quantifiers
  pub placed_plain : (i id : ℕ) → slice_get (places (sort_of preds nodes) nodes top) i ≡ Some id → (is_plain_term nodes id ≡ true) × IsSubterm nodes top id
  placed_plain i id listed =
      let place = place_listed (sort_of preds nodes) nodes (spots (sort_of preds nodes) nodes top (top_spot top)) i id listed in
      let entered = text_entered (sort_of preds nodes) nodes top variables arena (top + 1) (top_spot top) (parameters variables) (omega arith) top_there at_top place.spot place.in_text in
      let sub : IsSubterm nodes top place.spot.id = entered_subterm (sort_of preds nodes) nodes top variables place.spot entered.0 entered.1 in
      let read = entered_read nodes arena vars (sort_of preds nodes) top variables place.spot entered.0 start entered.1 in
      let sorted = subterm_sorted preds nodes top place.spot.id BoolSort arena legal.sorted sub in
      let found = there_is nodes place.spot.id (sorted_there preds nodes place.spot.id sorted.0 sorted.1) in
      let needs : needs_one place.spot.standing (sort_of preds nodes place.spot.id) (Some found.0) ≡ true =
      sym (ap (needs_one place.spot.standing (sort_of preds nodes place.spot.id)) found.1) ∙ place.needs in
      let plain = place_plain nodes arena vars (sort_of preds nodes place.spot.id) place.spot entered.0 found.0 read found.1 needs in
      (ap (is_plain_term nodes) (sym place.same) ∙ plain, subst (λ (k : ℕ). IsSubterm nodes top k) place.same sub)

  -- an auxiliary variable is that of a place
  pub named_place : (id v : ℕ) → names.auxiliary id ≡ Some v → (i : ℕ) × (slice_get placed i ≡ Some id) × (first + i ≡ v)
  named_place id v named =
      let p = got_position first (position (λ n. n == id) placed) v named in
      let at = position_is (λ n. n == id) placed p.0 p.1 in
      (p.0, at.there ∙ ap (λ (k : ℕ). Some k) (eqb-true at.element id at.passes), p.2)

  module _ (values : List Value) (have : HaveSorts vars values) where
    -- the laws of linear terms hold for each such subterm
    pub written : (id : ℕ) → IsSubterm nodes top id → is_plain_term nodes id ≡ true → IsWritten preds nodes id (environment_of values) names
    written id sub plain = record {
      arena = arena;
      plain = plain_is nodes arena id plain;
      linear = λ k n below is. legal.linear k n (through nodes top id k sub below) is;
      typed = λ k binder sort below is. get_sorted preds nodes vars values binder sort (Truth false) have (variable_known k binder sort (through nodes top id k sub below) is);
      units = λ k node below is unit. units_named preds nodes top first variables BoolSort arena legal k node (through nodes top id k sub below) is unit;
      bits = λ k part node partner below is there asked at open_bit.
          bits_named preds nodes top first variables BoolSort arena legal k part node partner (through nodes top id k sub below) is there asked at open_bit;
      sorted = λ k v below named. subterm_sorted preds nodes top k BoolSort arena legal.sorted (through nodes top id k sub below);
    }

    module _ (point : List ℤ) (stands : (k : ℕ) (s : Sort) → slice_get vars k ≡ Some s → variable_at point (own k) ≡ number (environment_of values k)) where
      -- the point has the values of the variables
      pub met : (id : ℕ) → IsSubterm nodes top id → MeetsVariables nodes id (environment_of values) names point
      met id sub k binder sort below is = stands binder sort (variable_known k binder sort (through nodes top id k sub below) is)

      abbrev HasValueAt : ℕ → ℕ → Type 0
      HasValueAt i id = variable_at point (first + i) ≡ number (value_of nodes id (environment_of values))

      meets_from : (n id : ℕ) → IsSubterm nodes top id → ((i k : ℕ) → k < n → slice_get placed i ≡ Some k → HasValueAt i k) → MeetsBelow nodes id n (environment_of values) names point
      meets_from n id sub earlier k v below less named =
          let place = named_place k v named in
          ap (variable_at point) (sym place.2) ∙ earlier place.0 k (below_is k n less) place.1
        where
          below_is : (a b : ℕ) → nat_lt a b ≡ true → a < b
          below_is a b e = grind (arith, nat_tests)

      -- what the form of a place says
      pub place_says : (i id : ℕ) → slice_get placed i ≡ Some id → ((j k : ℕ) → k < id → slice_get placed j ≡ Some k → HasValueAt j k)
          → truth point (place_form (sort_of preds nodes) names nodes (first + i) id) ≡ int_eq (variable_at point (first + i)) (number (value_of nodes id (environment_of values)))
      place_says i id listed earlier =
          let good = placed_plain i id listed in
          let sorted = subterm_sorted preds nodes top id BoolSort arena legal.sorted good.1 in
          place_value preds nodes id (environment_of values) names (written id good.1 good.0) point (met id good.1) id (first + i) sorted.0 (meets_from id id good.1 earlier) itself sorted.1

      -- where all forms hold, each place has its term's value: terms of smaller number first
      pub places_have : ((i id : ℕ) → slice_get placed i ≡ Some id → truth point (place_form (sort_of preds nodes) names nodes (first + i) id) ≡ true)
          → (n i id : ℕ) → id < n → slice_get placed i ≡ Some id → HasValueAt i id
      places_have holds zero i id less listed = absurd (omega (arith, less))
      places_have holds (suc n) i id less listed =
          same_integer (variable_at point (first + i)) (number (value_of nodes id (environment_of values)))
          (sym (place_says i id listed (λ j k lower at. places_have holds n j k (omega (arith, lower, less)) at)) ∙ holds i id listed)

      -- and where each place has its term's value, all forms hold
      pub values_hold : ((i id : ℕ) → slice_get placed i ≡ Some id → HasValueAt i id) → (i id : ℕ) → slice_get placed i ≡ Some id
          → truth point (place_form (sort_of preds nodes) names nodes (first + i) id) ≡ true
      values_hold each i id listed =
          place_says i id listed (λ j k lower at. each j k at)
          ∙ subst (λ (z : ℤ). int_eq (variable_at point (first + i)) z ≡ true) (each i id listed) (own_integer (variable_at point (first + i)))

      -- so a guard is as true as its formula
      pub guard_says : (id : ℕ) (sign : Bool) → IsSubterm nodes top id → is_plain_term nodes id ≡ true → sort_of preds nodes id ≡ Some BoolSort → ((i k : ℕ) → slice_get placed i ≡ Some k → HasValueAt i k)
          → truth point (formula (sort_of preds nodes) names nodes id sign) ≡ same_truth sign (truth_of (value_of nodes id (environment_of values)))
      guard_says id sign sub plain sorted each =
          formula_is preds nodes id (environment_of values) names (written id sub plain) point (met id sub) id (meets_from id id sub (λ i k lower at. each i k at)) id itself (lt_more id) sorted sign
        where
          lt_more : (n : ℕ) → nat_lt n (n + 1) ≡ true
          lt_more n = grind (arith, nat_tests)
