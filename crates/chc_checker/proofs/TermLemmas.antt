-- The formulas of a term whose variables have numbers below a total: theirs are below it, and constants of divisibilities are short.
use Rattle.std.proofs.Common.{◌≡◌, ℕ, ◌<◌, ◌≤◌, ◌^◌, List, length, map, Bool, true, false, not, refl, sym, ◌∙◌, arith}
use Rattle.std.proofs.lemmas.Bool.{lt-ltb}
use Rattle.std.specs.Prelude.{slice_get, Option, Some, None, ℤ, nat_abs, nat_lt, if◌then◌else◌}
use Rattle.term_tree.specs.declared.node.TermId.{TermId}
use Rattle.term_tree.specs.declared.node.OpKind.{OpKind}
use Rattle.term_tree.specs.declared.node.OpKind.TheVariants.{Xor}
use Rattle.term_tree.specs.declared.node.Node.{Node}
use Rattle.term_tree.specs.declared.node.Node.TheVariants.{Op}
use Rattle.term_tree.specs.Arena.{IsArena, has_parts_below}
use Rattle.term_tree.specs.Constants.{constant_of}
use Rattle.term_tree.specs.Subterms.{IsSubterm, inside, is_among}
use Rattle.term_tree.proofs.Public.{arena_below, part_below, there_is}
use Rattle.lin_atoms.specs.Linear.{Linear, is_short, lin_all}
use Rattle.lin_atoms.specs.Algebra.{negated}
use Rattle.lin_atoms.specs.Truth.{lit_is_below}
use Rattle.linear_terms.specs.Text.{Sorting}
use Rattle.linear_terms.specs.Linear.{Naming, all_constants, bit_of, is_narrow, less, linear_of, sum_form, variable_form}
use Rattle.linear_terms.specs.Formula.{formula}
use Rattle.linear_terms.specs.Place.{place_form}
use Rattle.linear_terms.specs.Width.{first_among, first_of_two, first_where, text_parts}
use Rattle.term_widths.specs.machinery.Apart.{Occurs}
use Rattle.term_forms.specs.Found.{is_wide}
use Rattle.term_forms.proofs.FoundLemmas.{first_at}
use Rattle.term_widths.specs.Wide.{has_wide_sides}
use Rattle.term_formulas.specs.Written.{HasRoom}
use Rattle.clause_form.specs.System.{has_short_in_guard}
use Rattle.clause_normal.proofs.LowLemmas.{added_all, among_low, bit_low, collected_all, formula_passes, length_is, less_variable, linear_low, narrow_constant, negated_all, place_passes, scaled_all, sum_small, sums_low}
use Rattle.clause_normal.proofs.PassLemmas.{passes}
use Rattle.chc_checker.proofs.PassLemmas.{both_hold}

none_first : (a b : Option ℕ) → first_of_two a b ≡ None → a ≡ None
none_first None b h = refl
none_first (Some id) b h = absurd (cc)

none_second : (a b : Option ℕ) → first_of_two a b ≡ None → b ≡ None
none_second None b h = h
none_second (Some id) b h = absurd (cc)

narrow_is : (b : Bool) → not b ≡ false → b ≡ true
narrow_is true h = refl
narrow_is false h = absurd (cc)

-- a term with room is narrow itself
narrow_own : (constant : ℕ → Option ℤ) (naming : Naming) (nodes : List Node) (id : ℕ) → IsArena nodes → HasRoom constant naming nodes id → is_wide constant naming nodes id ≡ false
narrow_own constant naming nodes id arena room =
    let found = there_is nodes id room.there in
    let node : Node = found.0 in
    let is : slice_get nodes id ≡ Some node = found.1 in
    let below : has_parts_below id node ≡ true = arena_below nodes id node arena is in
    let forms : first_where (is_wide constant naming nodes) nodes id ≡ None =
    none_first (first_where (is_wide constant naming nodes) nodes id) (first_where (has_wide_sides constant naming nodes) nodes id) room.narrow in
    fails (is_wide constant naming nodes id)
    (none_second (first_among (first_where (is_wide constant naming nodes) nodes) (text_parts node)) (if is_wide constant naming nodes id then Some id else None)
    (sym (first_at (is_wide constant naming nodes) nodes id node is below) ∙ forms))
  where
    fails : (b : Bool) → (if b then Some id else None) ≡ None → b ≡ false
    fails true h = absurd (cc)
    fails false h = refl

module _ (sorts : Sorting) (naming : Naming) (nodes : List Node) (top total : ℕ) (arena : IsArena nodes)
    (owns : (binder : ℕ) → Occurs nodes top binder → nat_lt (naming.own binder) total ≡ true) (named : (id v : ℕ) → naming.auxiliary id ≡ Some v → nat_lt v total ≡ true)
    (room : (id : ℕ) → IsSubterm nodes top id → HasRoom (constant_of nodes) naming nodes id) where
  abbrev in_total : ℕ → Bool
  in_total v = nat_lt v total

  abbrev low : Linear → Type 0
  low l = lin_all in_total l ≡ true

  linear_in : (id : ℕ) → IsSubterm nodes top id → id < length nodes → low (linear_of naming nodes id)
  linear_in id sub within = linear_low sorts naming nodes top arena in_total owns named id sub within

  bit_in : (id : ℕ) → IsSubterm nodes top id → id < length nodes → low (bit_of naming nodes id)
  bit_in id sub within = (bit_low sorts naming nodes top arena in_total owns named id sub within).passes

  variable_in : (v : ℕ) → in_total v ≡ true → low (variable_form v)
  variable_in v h = both_hold (in_total v) true h refl

  sub_there : (id : ℕ) → IsSubterm nodes top id → id < length nodes
  sub_there id sub = (room id sub).there

  arg_there : (id : ℕ) (args : List TermId) → IsSubterm nodes top id → slice_get nodes id ≡ Some (Op Xor args) → (part : ℕ) → is_among part args ≡ true → part < length nodes
  arg_there id args sub at part has =
      let less_than : part < id = part_below part id (Op Xor args) (arena_below nodes id (Op Xor args) arena at) has in
      let within = sub_there id sub in
      omega (arith, less_than, within)

  sums_in : (id : ℕ) (args : List TermId) → IsSubterm nodes top id → slice_get nodes id ≡ Some (Op Xor args) → low (sum_form (map (λ a. bit_of naming nodes a.0) args))
  sums_in id args sub at =
      collected_all in_total _ (sums_low in_total (map (λ a. bit_of naming nodes a.0) args)
      (among_low in_total (bit_of naming nodes) args
      (λ part has. bit_low sorts naming nodes top arena in_total owns named part (inside part (Op Xor args) sub at has) (arg_there id args sub at part has))))

  less_in : (id v : ℕ) → IsSubterm nodes top id → id < length nodes → in_total v ≡ true → low (less (linear_of naming nodes id) (variable_form v))
  less_in id v sub within h =
      added_all in_total (linear_of naming nodes id) (negated (variable_form v)) (linear_in id sub within) (negated_all in_total (variable_form v) (variable_in v h))

  pub formula_below : (id : ℕ) (sign : Bool) → IsSubterm nodes top id → passes (lit_is_below total) (formula sorts naming nodes id sign) ≡ true
  formula_below id sign sub =
      formula_passes sorts naming nodes top arena in_total owns named (lit_is_below total) low (λ l ok. ok) (λ l ok. ok)
      (negated_all in_total) (added_all in_total) (λ l k ok. ok) (scaled_all in_total) linear_in bit_in variable_in (λ k d s w. (linear_in k s w, linear_in k s w))
      (λ k v d s w h. (less_in k v s w h, less_in k v s w h)) (λ k args s at. (sums_in k args s at, sums_in k args s at)) id sign (sub_there id sub) sub

  pub place_below : (v id : ℕ) → in_total v ≡ true → IsSubterm nodes top id → passes (lit_is_below total) (place_form sorts naming nodes v id) ≡ true
  place_below v id h sub =
      place_passes sorts naming nodes top arena in_total owns named (lit_is_below total) low (λ l ok. ok) (λ l ok. ok)
      (negated_all in_total) (added_all in_total) (λ l k ok. ok) (scaled_all in_total) linear_in bit_in variable_in (λ k d s w. (linear_in k s w, linear_in k s w))
      (λ k u d s w g. (less_in k u s w g, less_in k u s w g)) (λ k args s at. (sums_in k args s at, sums_in k args s at)) v id h (sub_there id sub) sub

  -- constants of divisibilities are short
  linear_short : (id : ℕ) → IsSubterm nodes top id → is_short (linear_of naming nodes id).constant ≡ true
  linear_short id sub =
      narrow_constant (linear_of naming nodes id) (narrow_is (is_narrow (linear_of naming nodes id)) (narrow_own (constant_of nodes) naming nodes id arena (room id sub)))

  abbrev any_form : Linear → Type 0
  any_form l = Unit {0}

  module _ (few_args : (id : ℕ) (op : OpKind) (args : List TermId) → IsSubterm nodes top id → slice_get nodes id ≡ Some (Op op args) → length args < 2 ^ 63) where
    sum_short : (id : ℕ) (args : List TermId) → IsSubterm nodes top id → slice_get nodes id ≡ Some (Op Xor args) → is_short (sum_form (map (λ a. bit_of naming nodes a.0) args)).constant ≡ true
    sum_short id args sub at =
        let bits : List Linear = map (λ (a : TermId). bit_of naming nodes a.0) args in
        let small : nat_abs (all_constants bits) ≤ length bits = sum_small in_total bits
        (among_low in_total (bit_of naming nodes) args
        (λ part has. bit_low sorts naming nodes top arena in_total owns named part (inside part (Op Xor args) sub at has) (arg_there id args sub at part has))) in
        let same : length bits ≡ length args = length_is (λ (a : TermId). bit_of naming nodes a.0) args in
        let few : length args < 2 ^ 63 = few_args id Xor args sub at in
        lt-ltb (nat_abs (all_constants bits)) (2 ^ 63) (omega (arith, small, same, few))

    less_short : (id v : ℕ) → IsSubterm nodes top id → is_short (less (linear_of naming nodes id) (variable_form v)).constant ≡ true
    less_short id v sub = less_variable (linear_of naming nodes id) v (linear_short id sub)

    pub formula_short : (id : ℕ) (sign : Bool) → IsSubterm nodes top id → passes has_short_in_guard (formula sorts naming nodes id sign) ≡ true
    formula_short id sign sub =
        formula_passes sorts naming nodes top arena in_total owns named has_short_in_guard any_form (λ l ok. refl) (λ l ok. refl)
        (λ l ok. tt) (λ a b x y. tt) (λ l k ok. tt) (λ k l ok. tt) (λ k s w. tt) (λ k s w. tt) (λ v h. tt) (λ k d s w. (linear_short k s, linear_short k s))
        (λ k v d s w h. (less_short k v s, less_short k v s)) (λ k args s at. (sum_short k args s at, sum_short k args s at)) id sign (sub_there id sub) sub

    pub place_short : (v id : ℕ) → in_total v ≡ true → IsSubterm nodes top id → passes has_short_in_guard (place_form sorts naming nodes v id) ≡ true
    place_short v id h sub =
        place_passes sorts naming nodes top arena in_total owns named has_short_in_guard any_form (λ l ok. refl) (λ l ok. refl)
        (λ l ok. tt) (λ a b x y. tt) (λ l k ok. tt) (λ k l ok. tt) (λ k s w. tt) (λ k s w. tt) (λ u g. tt) (λ k d s w. (linear_short k s, linear_short k s))
        (λ k u d s w g. (less_short k u s, less_short k u s)) (λ k args s at. (sum_short k args s at, sum_short k args s at)) v id h (sub_there id sub) sub
