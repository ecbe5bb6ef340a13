-- The arguments of an operation, one after the other.
use Rattle.std.proofs.Common.{◌≡◌, ℕ, zero, suc, ◌+◌, ◌-◌, ◌<◌, ◌≤◌, List, [], ◌∷◌, ◌++◌, length, map, take, drop, get_or, Bool, true, false, not, ◌||◌, ◌==◌, refl, ap, sym, ◌∙◌, subst, append_assoc, arith}
use Rattle.std.specs.Prelude.{ℤ, Option, Some, IsTrue, slice_get}
use Rattle.std.proofs.lemmas.List.{drop_more, map-append, take_all, take_more}
use Rattle.term_tree.specs.declared.node.TermId.{TermId}
use Rattle.term_tree.specs.declared.node.OpKind.{OpKind}
use Rattle.term_tree.specs.declared.node.OpKind.TheVariants.{Not, And as AndOp, Or as OrOp, Xor, Implies, Distinct, Ite, Abs, Div as Quotient, Mod as Remainder, Eq as Equal, Le as AtMost, Lt, Ge, Gt}
use Rattle.term_tree.specs.declared.node.Node.{Node}
use Rattle.term_tree.specs.declared.node.Node.TheVariants.{Op}
use Rattle.term_tree.specs.Subterms.{is_among}
use Rattle.term_tree.proofs.Public.{eqb_self}
use Rattle.term_tree.specs.Operators.{is_distinct}
use Rattle.lin_atoms.specs.Linear.{Linear}
use Rattle.lin_atoms.specs.declared.form.Form.{Form}
use Rattle.lin_atoms.specs.declared.form.Form.TheVariants.{False}
use Rattle.linear_terms.specs.Linear.{Naming, less}
use Rattle.linear_terms.specs.Text.{Sorting, are_truths}
use Rattle.linear_terms.specs.Formula.{TermForms, comparison, denied, eq, implication_forms, neighbours, operation, related, sides}
use Rattle.linear_terms.specs.Place.{integer_place}
use Rattle.term_formulas.specs.Written.{HasRoom, place_form_by, place_forms_by}
use Rattle.term_formulas.specs.machinery.Fresh.{IsFresh}
use Rattle.term_formulas.specs.machinery.Parts.{ArePlaces, HaveRoom, each, is_shaped, is_unit_node}

pub room_more : (constant : ℕ → Option ℤ) (naming : Naming) (nodes : List Node) (above : ℕ) (ids : List TermId) (i : ℕ) (d : TermId) → i < length ids → HaveRoom constant naming nodes above (drop i ids)
    → ((get_or ids i d).0 < above) × HasRoom constant naming nodes (get_or ids i d).0 × HaveRoom constant naming nodes above (drop (i + 1) ids)
room_more constant naming nodes above ids i d h room =
    let here = subst (λ (rest : List TermId). HaveRoom constant naming nodes above rest) (drop_more ids i d h) room in
    (here.0.0, here.0.1, here.1)

pub room_before : (constant : ℕ → Option ℤ) (naming : Naming) (nodes : List Node) (above : ℕ) (before : List TermId) (last : TermId) → HaveRoom constant naming nodes above (before ++ last ∷ [])
    → HaveRoom constant naming nodes above before
room_before constant naming nodes above [] last room = tt
room_before constant naming nodes above (id ∷ ids) last room = (room.0, room_before constant naming nodes above ids last room.1)

pub room_last : (constant : ℕ → Option ℤ) (naming : Naming) (nodes : List Node) (above : ℕ) (before : List TermId) (last : TermId) → HaveRoom constant naming nodes above (before ++ last ∷ [])
    → (last.0 < above) × HasRoom constant naming nodes last.0
room_last constant naming nodes above [] last room = room.0
room_last constant naming nodes above (id ∷ ids) last room = room_last constant naming nodes above ids last room.1

-- an implication's parts are those before the last, denied, and the last
pub implied_split : (part : ℕ → Bool → Form) (sign : Bool) (before : List TermId) (last : TermId) → implication_forms part sign (before ++ last ∷ []) ≡ each part (not sign) before ++ part last.0 sign ∷ []
implied_split part sign [] last = refl
implied_split part sign (id ∷ []) last = refl
implied_split part sign (id ∷ next ∷ ids) last = ap (λ (forms : List Form). part id.0 (not sign) ∷ forms) (implied_split part sign (next ∷ ids) last)

-- What is said of all other operators.
pub other_operation : (reading : TermForms) (part : ℕ → Bool → Form) (op : OpKind) (args : List TermId) (sign : Bool) → (op ≡ Not → ⊥) → (op ≡ AndOp → ⊥) → (op ≡ OrOp → ⊥) → (op ≡ Implies → ⊥)
    → (op ≡ Xor → ⊥) → (op ≡ Ite → ⊥)
    → operation reading part op args sign ≡ comparison op (are_truths reading.sorts args) sign (map (λ (arg : TermId). reading.bit arg.0) args) (map (λ (arg : TermId). reading.linear arg.0) args)
other_operation reading part Not args sign a b c d e f = absurd (a refl)
other_operation reading part AndOp args sign a b c d e f = absurd (b refl)
other_operation reading part OrOp args sign a b c d e f = absurd (c refl)
other_operation reading part Implies args sign a b c d e f = absurd (d refl)
other_operation reading part Xor args sign a b c d e f = absurd (e refl)
other_operation reading part Ite args sign a b c d e f = absurd (f refl)
other_operation reading part _ args sign a b c d e f = refl

pub other_relation : (op : OpKind) (sign : Bool) (d : Linear) → (op ≡ Equal → ⊥) → (op ≡ Distinct → ⊥) → (op ≡ AtMost → ⊥) → (op ≡ Lt → ⊥) → (op ≡ Ge → ⊥) → (op ≡ Gt → ⊥) → related op sign d ≡ False
other_relation Equal sign d a b c e f g = absurd (a refl)
other_relation Distinct sign d a b c e f g = absurd (b refl)
other_relation AtMost sign d a b c e f g = absurd (c refl)
other_relation Lt sign d a b c e f g = absurd (e refl)
other_relation Ge sign d a b c e f g = absurd (f refl)
other_relation Gt sign d a b c e f g = absurd (g refl)
other_relation _ sign d a b c e f g = refl

pub other_sides : {X : Type 0} (op : OpKind) (xs : List X) → (op ≡ Distinct → ⊥) → sides op xs ≡ neighbours xs
other_sides Distinct xs h = absurd (h refl)
other_sides _ xs h = refl

pub not_distinct : (op : OpKind) → (op ≡ Distinct → ⊥) → is_distinct op ≡ false
not_distinct Distinct h = absurd (h refl)
not_distinct _ h = refl

pub other_place : (bit linear : ℕ → Linear) (constant : ℕ → ℤ) (v : Linear) (own : ℕ) (op : OpKind) (args : List TermId) → (op ≡ Ite → ⊥) → (op ≡ Abs → ⊥) → (op ≡ Quotient → ⊥) → (op ≡ Remainder → ⊥)
    → integer_place bit linear constant v own (Some (Op op args)) ≡ eq (less v (linear own))
other_place bit linear constant v own Ite args a b c d = absurd (a refl)
other_place bit linear constant v own Abs args a b c d = absurd (b refl)
other_place bit linear constant v own Quotient args a b c d = absurd (c refl)
other_place bit linear constant v own Remainder args a b c d = absurd (d refl)
other_place bit linear constant v own _ args a b c d = refl

-- What a slice pattern takes of the arguments.
pub room_at : (constant : ℕ → Option ℤ) (naming : Naming) (nodes : List Node) (above : ℕ) (ids : List TermId) (i : ℕ) (d : TermId) → i < length ids → HaveRoom constant naming nodes above ids
    → ((get_or ids i d).0 < above) × HasRoom constant naming nodes (get_or ids i d).0
room_at constant naming nodes above [] i d h room = absurd (omega (arith, h))
room_at constant naming nodes above (id ∷ ids) zero d h room = room.0
room_at constant naming nodes above (id ∷ ids) (suc i) d h room = room_at constant naming nodes above ids i d (omega (arith, h)) room.1

pub room_taken : (constant : ℕ → Option ℤ) (naming : Naming) (nodes : List Node) (above k : ℕ) (ids : List TermId) → HaveRoom constant naming nodes above ids → HaveRoom constant naming nodes above (take k ids)
room_taken constant naming nodes above zero ids room = tt
room_taken constant naming nodes above (suc k) [] room = tt
room_taken constant naming nodes above (suc k) (id ∷ ids) room = (room.0, room_taken constant naming nodes above k ids room.1)

-- the parts of an implication are those before the last, denied, and the last
pub implied_last : (part : ℕ → Bool → Form) (sign : Bool) (ids : List TermId) (d : TermId) → 1 ≤ length ids
    → implication_forms part sign ids ≡ each part (not sign) (take (length ids - 1) ids) ++ part (get_or ids (length ids - 1) d).0 sign ∷ []
implied_last part sign ids d some =
    let n : ℕ = length ids - 1 in
    let one_more : n + 1 ≡ length ids = omega arith in
    let whole : ids ≡ take n ids ++ get_or ids n d ∷ [] = sym (take_all (n + 1) ids (omega arith)) ∙ take_more ids n d (omega arith) in
    ap (implication_forms part sign) whole ∙ implied_split part sign (take n ids) (get_or ids n d)

pub each_more : (part : ℕ → Bool → Form) (sign : Bool) (ids : List TermId) (i : ℕ) (d : TermId) (before new : List Form) (form : Form) → i < length ids → before ≡ each part sign (take i ids)
    → form ≡ part (get_or ids i d).0 sign → new ≡ before ++ form ∷ [] → new ≡ each part sign (take (i + 1) ids)
each_more part sign ids i d before new form within so_far made pushed =
    pushed ∙ ap (λ (forms : List Form). forms ++ form ∷ []) so_far ∙ ap (λ (f : Form). each part sign (take i ids) ++ f ∷ []) made
    ∙ sym (map-append (λ (id : TermId). part id.0 sign) (take i ids) (get_or ids i d ∷ [])) ∙ ap (each part sign) (sym (take_more ids i d within))

pub denied_first : (part : ℕ → Bool → Form) (sign : Bool) (ids : List TermId) (d : TermId) → 1 ≤ length ids → denied part sign ids ≡ part (get_or ids 0 d).0 (not sign)
denied_first part sign [] d some = absurd (omega (arith, some))
denied_first part sign (id ∷ ids) d some = refl

pub one_id : (ids : List TermId) (d : TermId) → 1 ≤ length ids → length ids < 2 → ids ≡ get_or ids 0 d ∷ []
one_id [] d some few = absurd (omega (arith, some))
one_id (a ∷ []) d some few = refl
one_id (a ∷ b ∷ ids) d some few = absurd (omega (arith, few))

pub two_ids : (ids : List TermId) (d : TermId) → 2 ≤ length ids → length ids < 3 → ids ≡ get_or ids 0 d ∷ get_or ids 1 d ∷ []
two_ids [] d some few = absurd (omega (arith, some))
two_ids (a ∷ []) d some few = absurd (omega (arith, some))
two_ids (a ∷ b ∷ []) d some few = refl
two_ids (a ∷ b ∷ c ∷ ids) d some few = absurd (omega (arith, few))

pub three_ids : (ids : List TermId) (d : TermId) → 3 ≤ length ids → length ids < 4 → ids ≡ get_or ids 0 d ∷ get_or ids 1 d ∷ get_or ids 2 d ∷ []
three_ids [] d some few = absurd (omega (arith, some))
three_ids (a ∷ []) d some few = absurd (omega (arith, some))
three_ids (a ∷ b ∷ []) d some few = absurd (omega (arith, some))
three_ids (a ∷ b ∷ c ∷ []) d some few = refl
three_ids (a ∷ b ∷ c ∷ e ∷ ids) d some few = absurd (omega (arith, few))

pub among_at : (ids : List TermId) (i : ℕ) (d : TermId) → i < length ids → is_among (get_or ids i d).0 ids ≡ true
among_at [] i d h = absurd (omega (arith, h))
among_at (id ∷ ids) zero d h = ap (λ (b : Bool). b || is_among id.0 ids) (eqb_self id.0)
among_at (id ∷ ids) (suc i) d h = or_later (id.0 == (get_or ids i d).0) (is_among (get_or ids i d).0 ids) (among_at ids i d (omega (arith, h)))
  where
    or_later : (x y : Bool) → y ≡ true → (x || y) ≡ true
    or_later true y is = refl
    or_later false y is = is

pub no_unit_operation : (op : OpKind) (args : List TermId) → (op ≡ Ite → ⊥) → (op ≡ Abs → ⊥) → (op ≡ Quotient → ⊥) → (op ≡ Remainder → ⊥) → is_unit_node (Some (Op op args)) ≡ false
no_unit_operation Ite args a b c d = absurd (a refl)
no_unit_operation Abs args a b c d = absurd (b refl)
no_unit_operation Quotient args a b c d = absurd (c refl)
no_unit_operation Remainder args a b c d = absurd (d refl)
no_unit_operation _ args a b c d = refl

pub no_unit_other : (node : Node) → ((op : OpKind) (args : List TermId) → node ≡ Op op args → ⊥) → is_unit_node (Some node) ≡ false
no_unit_other (Op op args) h = absurd (h op args refl)
no_unit_other _ h = refl

pub place_other : (bit linear : ℕ → Linear) (constant : ℕ → ℤ) (v : Linear) (own : ℕ) (node : Node) → ((op : OpKind) (args : List TermId) → node ≡ Op op args → ⊥)
    → integer_place bit linear constant v own (Some node) ≡ eq (less v (linear own))
place_other bit linear constant v own (Op op args) h = absurd (h op args refl)
place_other bit linear constant v own _ h = refl

-- Places, one after the other.
pub places_more : (constant : ℕ → Option ℤ) (naming : Naming) (nodes : List Node) (v : ℕ) (ids : List ℕ) (i : ℕ) → i < length ids → ArePlaces constant naming nodes v (drop i ids)
    → HasRoom constant naming nodes (get_or ids i 0) × IsFresh nodes naming v (get_or ids i 0) × IsTrue (is_shaped (slice_get nodes (get_or ids i 0))) × ArePlaces constant naming nodes (v + 1) (drop (i + 1) ids)
places_more constant naming nodes v ids i h are = subst (λ (rest : List ℕ). ArePlaces constant naming nodes v rest) (drop_more ids i 0 h) are

pub places_turn : (constant : ℕ → Option ℤ) (sorts : Sorting) (naming : Naming) (nodes : List Node) (v : ℕ) (ids : List ℕ) (i : ℕ) (before new whole : List Form) (form : Form) → i < length ids
    → before ++ place_forms_by constant sorts naming nodes v (drop i ids) ≡ whole → form ≡ place_form_by constant sorts naming nodes v (get_or ids i 0) → new ≡ before ++ form ∷ []
    → new ++ place_forms_by constant sorts naming nodes (v + 1) (drop (i + 1) ids) ≡ whole
places_turn constant sorts naming nodes v ids i before new whole form within so_far made pushed =
    let rest : List Form = place_forms_by constant sorts naming nodes (v + 1) (drop (i + 1) ids) in
    ap (λ (forms : List Form). forms ++ rest) pushed ∙ append_assoc before (form ∷ []) rest ∙ ap (λ (f : Form). before ++ f ∷ rest) made
    ∙ ap (λ (left : List ℕ). before ++ place_forms_by constant sorts naming nodes v left) (sym (drop_more ids i 0 within)) ∙ so_far
