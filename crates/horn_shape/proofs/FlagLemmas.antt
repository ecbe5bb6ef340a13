-- Which terms have neither predicates nor quantifiers, by their nodes.
use Rattle.std.proofs.Common.{◌≡◌, ℕ, zero, suc, take, drop, get_or, ◌+◌, ◌<◌, ◌≤◌, ◌^◌, List, [], ◌∷◌, ◌++◌, length, Bool, true, false, ◌&&◌, inl, inr, refl, ap, sym, ◌∙◌, arith}
use Rattle.std.proofs.lemmas.List.{drop_more, get_or_append_left, get_or_past, get_or_push}
use Rattle.std.proofs.lemmas.Bool.{cases_lt}
use Rattle.std.specs.Prelude.{slice_get, Some, nat_lt, Ok, Err, if◌then◌else◌}
use Rattle.std.specs.List.{list_all}
use Rattle.term_tree.specs.declared.node.TermId.{TermId}
use Rattle.term_tree.specs.declared.node.Node.{Node}
use Rattle.term_tree.specs.declared.node.Node.TheVariants.{LetVar, Op, Divisible, Let}
use Rattle.term_tree.specs.Arena.{is_below, has_parts_below}
use Rattle.term_tree.proofs.Public.{below_from, both_true, told_at, told_past}
use Rattle.horn_shape.specs.Plain.{node_is_plain, is_plain_term}
use Rattle.horn_shape.specs.Shape.{Content, Place, Reading, application_reading, arguments, bound_over}
use Rattle.horn_shape.specs.declared.clause.AtomUse.{AtomUse}
use Rattle.horn_shape.specs.Flags.{flag_of, ArePlainFlags}

pub all_same : (p q : ℕ → Bool) (n : ℕ) (ids : List TermId) → ((c : ℕ) → c < n → p c ≡ q c) → list_all (is_below n) ids ≡ true
    → list_all (λ id. p id.0) ids ≡ list_all (λ id. q id.0) ids
all_same p q n [] same below = refl
all_same p q n (id ∷ ids) same below =
    let both = both_true (nat_lt id.0 n) (list_all (is_below n) ids) below in
    ap (λ (b : Bool). b && list_all (λ (i : TermId). p i.0) ids) (same id.0 (below_from id.0 n both.0)) ∙ ap (λ (b : Bool). q id.0 && b) (all_same p q n ids same both.1)

abbrev chosen : Bool → Reading → TermId → Reading
chosen b r id = if b then r else Err id

pub bound_same : (p q : ℕ → Bool) (n : ℕ) (ids : List TermId) (reading : Reading) → ((c : ℕ) → c < n → p c ≡ q c) → list_all (is_below n) ids ≡ true
    → bound_over p ids reading ≡ bound_over q ids reading
bound_same p q n [] reading same below = refl
bound_same p q n (id ∷ ids) reading same below =
    let both = both_true (nat_lt id.0 n) (list_all (is_below n) ids) below in
    ap (λ (b : Bool). chosen b (bound_over p ids reading) id) (same id.0 (below_from id.0 n both.0))
    ∙ ap (λ (r : Reading). chosen (q id.0) r id) (bound_same p q n ids reading same both.1)

-- a node's parts decide whether it is plain
plain_rest : (p q : ℕ → Bool) (n : ℕ) (node : Node) → ((c : ℕ) → c < n → p c ≡ q c) → has_parts_below n node ≡ true → node_is_plain p node ≡ node_is_plain q node
plain_rest p q n (LetVar bound) same below = same bound.0 (below_from bound.0 n below)
plain_rest p q n (Op op args) same below = all_same p q n args same below
plain_rest p q n (Divisible by arg) same below = same arg.0 (below_from arg.0 n below)
plain_rest p q n (Let bound body) same below =
    let both = both_true (list_all (is_below n) bound) (nat_lt body.0 n) below in
    ap (λ (b : Bool). b && p body.0) (all_same p q n bound same both.0) ∙ ap (λ (b : Bool). list_all (λ (i : TermId). q i.0) bound && b) (same body.0 (below_from body.0 n both.1))
plain_rest p q n _ same below = refl

-- whether a term is plain, by its node
pub plain_at : (nodes : List Node) (id : ℕ) (node : Node) → slice_get nodes id ≡ Some node → has_parts_below id node ≡ true
    → is_plain_term nodes id ≡ node_is_plain (is_plain_term nodes) node
plain_at nodes id node is below = told_at Bool false node_is_plain plain_rest nodes id node is below

-- one more flag
pub flags_more : (nodes : List Node) (flags more : List Bool) (i : ℕ) (node : Node) (flag : Bool) → slice_get nodes i ≡ Some node → has_parts_below i node ≡ true
    → length flags ≡ i → ((id : ℕ) → id < i → flag_of flags id ≡ is_plain_term nodes id) → flag ≡ node_is_plain (flag_of flags) node → more ≡ flags ++ flag ∷ []
    → (id : ℕ) → id < i + 1 → flag_of more id ≡ is_plain_term nodes id
flags_more nodes flags more i node flag is below long known here pushed id less =
    ap (λ (fs : List Bool). flag_of fs id) pushed ∙ elim (cases_lt id i) [
      | inl lt ↦ get_or_append_left flags (flag ∷ []) false id (omega (arith, long, lt)) ∙ known id lt
      | inr ge ↦
          let same : id ≡ i = omega arith in
          get_or_push flags flag false id (long ∙ sym same) ∙ here ∙ plain_rest (flag_of flags) (is_plain_term nodes) i node known below ∙ sym (plain_at nodes i node is below)
          ∙ ap (is_plain_term nodes) (sym same)
    ]

-- all flags are there
pub flags_all : (nodes : List Node) (flags : List Bool) (i : ℕ) → length flags ≡ i → length nodes ≤ i → ((id : ℕ) → id < i → flag_of flags id ≡ is_plain_term nodes id)
    → ArePlainFlags nodes flags
flags_all nodes flags i long whole known id fits = elim (cases_lt id i) [
  | inl lt ↦ known id lt
  | inr ge ↦ get_or_past flags id false (omega arith) ∙ sym (told_past Bool false node_is_plain nodes id (omega arith))
]

-- the flags say of smaller numbers what is so
pub flags_say : (nodes : List Node) (flags : List Bool) (n : ℕ) → ArePlainFlags nodes flags → n ≤ 2 ^ 32 → (c : ℕ) → c < n → flag_of flags c ≡ is_plain_term nodes c
flags_say nodes flags n are fits c less = are c (omega arith)

-- the flags of some terms, and what they are
pub flags_of : (nodes : List Node) (flags : List Bool) (n : ℕ) (ids : List TermId) → ArePlainFlags nodes flags → n ≤ 2 ^ 32 → list_all (is_below n) ids ≡ true
    → list_all (λ id. is_plain_term nodes id.0) ids ≡ list_all (λ id. flag_of flags id.0) ids
flags_of nodes flags n ids are fits below = sym (all_same (flag_of flags) (is_plain_term nodes) n ids (flags_say nodes flags n are fits) below)

pub bound_flags : (nodes : List Node) (flags : List Bool) (n : ℕ) (ids : List TermId) (reading : Reading) → ArePlainFlags nodes flags → n ≤ 2 ^ 32
    → list_all (is_below n) ids ≡ true → bound_over (is_plain_term nodes) ids reading ≡ bound_over (flag_of flags) ids reading
bound_flags nodes flags n ids reading are fits below = sym (bound_same (flag_of flags) (is_plain_term nodes) n ids reading (flags_say nodes flags n are fits) below)

-- an application by the flags of its arguments
pub application_by : (nodes : List Node) (flags : List Bool) (n : ℕ) (give : AtomUse → Content) (pred : ℕ) (args : List TermId) (place : Place) (b : Bool) → ArePlainFlags nodes flags
    → n ≤ 2 ^ 32 → list_all (is_below n) args ≡ true → list_all (λ id. flag_of flags id.0) args ≡ b
    → application_reading (is_plain_term nodes) give pred args place ≡ (if b then Ok (give (record { pred = pred; args = arguments place.lets args })) else Err place.term)
application_by nodes flags n give pred args place b are fits below known =
    ap (λ (c : Bool). if c then Ok (give (record { pred = pred; args = arguments place.lets args })) else Err place.term) (flags_of nodes flags n args are fits below ∙ known)

-- what is below a number is so further on
pub below_on : (n i : ℕ) (ids : List TermId) (d : TermId) → i < length ids → list_all (is_below n) (drop i ids) ≡ true → list_all (is_below n) (drop (i + 1) ids) ≡ true
below_on n i ids d less below =
    (both_true (nat_lt (get_or ids i d).0 n) (list_all (is_below n) (drop (i + 1) ids)) (sym (ap (list_all (is_below n)) (drop_more ids i d less)) ∙ below)).1

-- what is below a number is so in front too
pub taken_below : (n k : ℕ) (ids : List TermId) → list_all (is_below n) ids ≡ true → list_all (is_below n) (take k ids) ≡ true
taken_below n zero ids below = refl
taken_below n (suc k) [] below = refl
taken_below n (suc k) (id ∷ ids) below =
    let both = both_true (nat_lt id.0 n) (list_all (is_below n) ids) below in
    ap (λ (b : Bool). b && list_all (is_below n) (take k ids)) both.0 ∙ taken_below n k ids both.1
