-- What has room, part by part.
use Rattle.std.proofs.Common.{◌≡◌, ℕ, zero, suc, ◌<◌, ◌==◌, List, [], ◌∷◌, ◌++◌, length, map, Bool, true, false, ◌||◌, ◌&&◌, refl, ap, sym, ◌∙◌, arith}
use Rattle.std.specs.Prelude.{slice_get, Option, Some, None, nat_lt, ℤ, pos, negsuc, nat_abs, unwrap_or, ◌*ℤ◌, ◌<ℤ◌, int_lt, if◌then◌else◌}
use Rattle.std.proofs.lemmas.Int.{ints}
use Rattle.std.specs.List.{list_all}
use Rattle.std.proofs.lemmas.Bool.{eqb-true, lt-ltb}
use Rattle.term_tree.specs.declared.node.TermId.{TermId}
use Rattle.term_tree.specs.declared.node.OpKind.{OpKind}
use Rattle.term_tree.specs.declared.node.OpKind.TheVariants.{Mul, Mod as Remainder}
use Rattle.term_tree.specs.declared.node.Node.{Node}
use Rattle.term_tree.specs.declared.node.Node.TheVariants.{Num, True, False, Var, LetVar, Pred, Op, Divisible, Let, Forall, Exists}
use Rattle.term_tree.specs.Arena.{IsArena, has_parts_below, is_below}
use Rattle.term_tree.specs.Constants.{constant_of, constants_among, has_short_constants, is_divisor, is_short, is_short_constant, node_constant}
use Rattle.term_tree.specs.Subterms.{IsSubterm, inside, is_among, is_part, itself}
use Rattle.term_tree.specs.Width.{prefix_results}
use Rattle.term_tree.proofs.Public.{arena_below, below_from, both_true, constant_at, eqb_self, part_below, there_is}
use Rattle.linear_terms.specs.Linear.{Naming}
use Rattle.linear_terms.specs.Width.{first_among, first_of_two, first_where, is_wide_relation, text_parts}
use Rattle.term_forms.specs.Found.{form_by, is_wide}
use Rattle.term_forms.proofs.FoundLemmas.{first_at}
use Rattle.term_widths.specs.Wide.{has_wide_sides}
use Rattle.term_widths.proofs.SeekLemmas.{none_first, none_second}
use Rattle.term_formulas.specs.Written.{HasRoom, value_by}
use Rattle.term_formulas.specs.machinery.Parts.{ComparesWithRoom, HaveRoom, IsMadeOf}

-- parts are among the parts of the text
or_none : (b : Bool) → b ≡ true → (b || false) ≡ true
or_none true h = refl
or_none false h = h

among_both : (part : ℕ) (ids : List TermId) (last : TermId) → (is_among part ids || (last.0 == part)) ≡ true → is_among part (ids ++ last ∷ []) ≡ true
among_both part [] last h = or_none (last.0 == part) h
among_both part (id ∷ ids) last h = by_first (id.0 == part) (is_among part ids) (last.0 == part) (is_among part (ids ++ last ∷ [])) (among_both part ids last) h
  where
    by_first : (x y z w : Bool) → ((y || z) ≡ true → w ≡ true) → ((x || y) || z) ≡ true → (x || w) ≡ true
    by_first true y z w rest g = refl
    by_first false y z w rest g = rest g

part_text : (part : ℕ) (node : Node) → is_part part node ≡ true → is_among part (text_parts node) ≡ true
part_text part (Num n) h = absurd (cc)
part_text part True h = absurd (cc)
part_text part False h = absurd (cc)
part_text part (Var binder sort) h = absurd (cc)
part_text part (LetVar bound) h = or_none (bound.0 == part) h
part_text part (Pred pred args) h = h
part_text part (Op op args) h = h
part_text part (Divisible by arg) h = or_none (arg.0 == part) h
part_text part (Let bound body) h = among_both part bound body h
part_text part (Forall first sorts body) h = or_none (body.0 == part) h
part_text part (Exists first sorts body) h = or_none (body.0 == part) h

none_among : (p : ℕ → Option ℕ) (ids : List TermId) (part : ℕ) → first_among p ids ≡ None → is_among part ids ≡ true → p part ≡ None
none_among p [] part none has = absurd (cc)
none_among p (id ∷ ids) part none has =
    by_first (id.0 == part) (is_among part ids) has (λ same. ap p (sym (eqb-true id.0 part same)) ∙ none_first (p id.0) (first_among p ids) none)
    (λ later. none_among p ids part (none_second (p id.0) (first_among p ids) none) later)
  where
    by_first : (x y : Bool) → (x || y) ≡ true → (x ≡ true → p part ≡ None) → (y ≡ true → p part ≡ None) → p part ≡ None
    by_first true y h here later = here refl
    by_first false y h here later = later h

-- no linear form in the text of a term that has room is wide
pub narrow_here : (constant : ℕ → Option ℤ) (naming : Naming) (nodes : List Node) (id : ℕ) → HasRoom constant naming nodes id → first_where (is_wide constant naming nodes) nodes id ≡ None
narrow_here constant naming nodes id room = none_first (first_where (is_wide constant naming nodes) nodes id) (first_where (has_wide_sides constant naming nodes) nodes id) room.narrow

-- nothing is found in a part of a term in which nothing is found
none_in_part : (test : ℕ → Bool) (nodes : List Node) (id part : ℕ) (node : Node) → IsArena nodes → slice_get nodes id ≡ Some node → is_part part node ≡ true
    → first_where test nodes id ≡ None → first_where test nodes part ≡ None
none_in_part test nodes id part node arena is has none =
    let below : has_parts_below id node ≡ true = arena_below nodes id node arena is in
    let parts : first_among (first_where test nodes) (text_parts node) ≡ None =
    none_first (first_among (first_where test nodes) (text_parts node)) (if test id then Some id else None) (sym (first_at test nodes id node is below) ∙ none) in
    none_among (first_where test nodes) (text_parts node) part parts (part_text part node has)

-- a subterm of a subterm is one
pub through : (nodes : List Node) (top mid id : ℕ) → IsSubterm nodes top mid → IsSubterm nodes mid id → IsSubterm nodes top id
through nodes top mid id first itself = first
through nodes top mid id first (inside part node second is has) = inside part node (through nodes top mid _ first second) is has

-- a part of a term that has room has room
pub room_part : (constant : ℕ → Option ℤ) (naming : Naming) (nodes : List Node) (id part : ℕ) (node : Node) → IsArena nodes → HasRoom constant naming nodes id
    → slice_get nodes id ≡ Some node → is_part part node ≡ true → HasRoom constant naming nodes part
room_part constant naming nodes id part node arena room is has =
    let below : has_parts_below id node ≡ true = arena_below nodes id node arena is in
    let less : part < id = part_below part id node below has in
    let there = room.there in
    let down : IsSubterm nodes id part = inside part node itself is has in
    let forms : first_where (is_wide constant naming nodes) nodes part ≡ None =
    none_in_part (is_wide constant naming nodes) nodes id part node arena is has
    (none_first (first_where (is_wide constant naming nodes) nodes id) (first_where (has_wide_sides constant naming nodes) nodes id) room.narrow) in
    let sides : first_where (has_wide_sides constant naming nodes) nodes part ≡ None =
    none_in_part (has_wide_sides constant naming nodes) nodes id part node arena is has
    (none_second (first_where (is_wide constant naming nodes) nodes id) (first_where (has_wide_sides constant naming nodes) nodes id) room.narrow) in
    record {
      there = omega (arith, less, there);
      narrow = ap (λ (o : Option ℕ). first_of_two o (first_where (has_wide_sides constant naming nodes) nodes part)) forms ∙ sides;
      linear = λ k n sub at. room.linear k n (through nodes id part k down sub) at;
      short = λ k n sub at. room.short k n (through nodes id part k down sub) at;
      constants = λ q sub inside_all. room.constants q (through nodes id part q down sub) inside_all;
    }

pub or_right : (x y : Bool) → y ≡ true → (x || y) ≡ true
or_right true y h = refl
or_right false y h = h

-- a part that the term is made of has room too, and is there
pub made_room : (constant : ℕ → Option ℤ) (naming : Naming) (nodes : List Node) (id part : ℕ) → IsArena nodes → HasRoom constant naming nodes id → IsMadeOf nodes id part → HasRoom constant naming nodes part
made_room constant naming nodes id part arena room made = room_part constant naming nodes id part made.0 arena room made.1 made.2

have_room : (constant : ℕ → Option ℤ) (naming : Naming) (nodes : List Node) (above : ℕ) (ids : List TermId)
    → ((part : ℕ) → is_among part ids ≡ true → (part < above) × HasRoom constant naming nodes part) → HaveRoom constant naming nodes above ids
have_room constant naming nodes above [] each = tt
have_room constant naming nodes above (id ∷ ids) each =
    (each id.0 (ap (λ (b : Bool). b || is_among id.0 ids) (eqb_self id.0)), have_room constant naming nodes above ids (λ part has. each part (or_right (id.0 == part) (is_among part ids) has)))

pub room_args : (constant : ℕ → Option ℤ) (naming : Naming) (nodes : List Node) (id : ℕ) (op : OpKind) (args : List TermId) → IsArena nodes → HasRoom constant naming nodes id
    → slice_get nodes id ≡ Some (Op op args) → HaveRoom constant naming nodes id args
room_args constant naming nodes id op args arena room is =
    let below : has_parts_below id (Op op args) ≡ true = arena_below nodes id (Op op args) arena is in
    have_room constant naming nodes id args (λ part has. (part_below part id (Op op args) below has, room_part constant naming nodes id part (Op op args) arena room is has))

below_more : (n m : ℕ) (ids : List TermId) → n < m → list_all (is_below n) ids ≡ true → list_all (is_below m) ids ≡ true
below_more n m [] less h = refl
below_more n m (id ∷ ids) less h =
    let both = both_true (nat_lt id.0 n) (list_all (is_below n) ids) h in
    let small : id.0 < n = below_from id.0 n both.0 in
    ap (λ (b : Bool). b && list_all (is_below m) ids) (lt-ltb id.0 m (omega (arith, small, less))) ∙ below_more n m ids less both.1

pub fails : (b : Bool) (id : ℕ) → (if b then Some id else None) ≡ None → b ≡ false
fails true id h = absurd (cc)
fails false id h = refl

pub room_sides : (constant : ℕ → Option ℤ) (naming : Naming) (nodes : List Node) (id : ℕ) (op : OpKind) (args : List TermId) → IsArena nodes → HasRoom constant naming nodes id
    → slice_get nodes id ≡ Some (Op op args) → ComparesWithRoom constant naming nodes op args
room_sides constant naming nodes id op args arena room is =
    let below : has_parts_below id (Op op args) ≡ true = arena_below nodes id (Op op args) arena is in
    let forms : first_where (is_wide constant naming nodes) nodes id ≡ None =
    none_first (first_where (is_wide constant naming nodes) nodes id) (first_where (has_wide_sides constant naming nodes) nodes id) room.narrow in
    let sides : first_where (has_wide_sides constant naming nodes) nodes id ≡ None =
    none_second (first_where (is_wide constant naming nodes) nodes id) (first_where (has_wide_sides constant naming nodes) nodes id) room.narrow in
    let own : (if has_wide_sides constant naming nodes id then Some id else None) ≡ None =
    none_second (first_among (first_where (has_wide_sides constant naming nodes) nodes) args) (if has_wide_sides constant naming nodes id then Some id else None)
    (sym (first_at (has_wide_sides constant naming nodes) nodes id (Op op args) is below) ∙ sides) in
    record {
      there = below_more id (length nodes) args room.there below;
      narrow = none_first (first_among (first_where (is_wide constant naming nodes) nodes) args) (if is_wide constant naming nodes id then Some id else None)
          (sym (first_at (is_wide constant naming nodes) nodes id (Op op args) is below) ∙ forms);
      sides = sym (ap (is_wide_relation (form_by constant naming nodes)) is) ∙ fails (has_wide_sides constant naming nodes id) id own;
    }

-- A divisor is short and not 0.
short_unwrapped : (o : Option ℤ) → is_short_constant o ≡ true → is_short (unwrap_or o (pos 0)) ≡ true
short_unwrapped None h = refl
short_unwrapped (Some n) h = h

whole_unwrapped : (o : Option ℤ) → is_divisor (Some o) ≡ true → 0 < nat_abs (unwrap_or o (pos 0))
whole_unwrapped None h = absurd (cc)
whole_unwrapped (Some (pos zero)) h = absurd (cc)
whole_unwrapped (Some (pos (suc n))) h = omega arith
whole_unwrapped (Some (negsuc n)) h = omega arith

short_node : (C : ℕ → Option ℤ) (node : Node) → has_short_constants C node ≡ true → is_short_constant (node_constant C node) ≡ true
short_node C (Op Mul args) h =
    (both_true (list_all is_short (prefix_results (λ a n. a *ℤ n) (pos 1) (constants_among (map (λ (arg : TermId). C arg.0) args)))) (is_short_constant (node_constant C (Op Mul args))) h).1
short_node C node h = h

module _ (constant : ℕ → Option ℤ) (naming : Naming) (nodes : List Node) (arena : IsArena nodes) where
  pub constant_short : (id : ℕ) → HasRoom constant naming nodes id → is_short (value_by constant id) ≡ true
  constant_short id room =
      let found = there_is nodes id room.there in
      let node : Node = found.0 in
      let is : slice_get nodes id ≡ Some node = found.1 in
      let below : has_parts_below id node ≡ true = arena_below nodes id node arena is in
      let value : constant id ≡ node_constant (constant_of nodes) node = room.constants id itself room.there ∙ constant_at nodes id node is below in
      short_unwrapped (constant id) (ap is_short_constant value ∙ short_node (constant_of nodes) node (room.short id node itself is))

  divisor_whole : (id n : ℕ) → HasRoom constant naming nodes id → HasRoom constant naming nodes n → is_divisor (Some (constant_of nodes n)) ≡ true → 0 < nat_abs (value_by constant n)
  divisor_whole id n room inner h = whole_unwrapped (constant n) (ap (λ (o : Option ℤ). is_divisor (Some o)) (inner.constants n itself inner.there) ∙ h)

  pub remainder_whole : (id : ℕ) (a n : TermId) → HasRoom constant naming nodes id → HasRoom constant naming nodes n.0 → slice_get nodes id ≡ Some (Op Remainder (a ∷ n ∷ []))
      → 0 < nat_abs (value_by constant n.0)
  remainder_whole id a n room inner is = divisor_whole id n.0 room inner (room.linear id (Op Remainder (a ∷ n ∷ [])) itself is)

-- a divisibility has a number above 0
pub divides_some : (constant : ℕ → Option ℤ) (naming : Naming) (nodes : List Node) (id : ℕ) (by : ℤ) (arg : TermId) → HasRoom constant naming nodes id → slice_get nodes id ≡ Some (Divisible by arg) → pos 0 <ℤ by
divides_some constant naming nodes id by arg room is = above (room.linear id (Divisible by arg) itself is)
  where
    above : int_lt (pos 0) by ≡ true → pos 0 <ℤ by
    above h = grind (arith, ints)
