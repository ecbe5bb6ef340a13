-- Relations of pairs and of neighbours, from a place on.
use Rattle.std.proofs.Common.{◌≡◌, ℕ, ◌+◌, ◌-◌, ◌<◌, ◌≤◌, List, [], ◌∷◌, ◌++◌, length, map, take, drop, get_or, Bool, true, false, not, ◌||◌, refl, ap, sym, ◌∙◌, subst, append_assoc, arith}
use Rattle.std.specs.List.{list_any}
use Rattle.std.proofs.lemmas.List.{append-nil, drop_more, length-drop, map-append, take_more}
use Rattle.lin_atoms.specs.Linear.{Linear}
use Rattle.lin_atoms.specs.declared.form.Form.{Form}
use Rattle.term_tree.specs.declared.node.OpKind.{OpKind}
use Rattle.term_tree.specs.declared.node.OpKind.TheVariants.{Distinct}
use Rattle.linear_terms.specs.Formula.{joined, neighbours, pairs, related, sides}
use Rattle.linear_terms.specs.Linear.{is_narrow, less}
use Rattle.term_widths.specs.Sides.{is_wide_pair, is_wide_with}
use Rattle.term_widths.proofs.SideLemmas.{next_neighbours, with_more, pairs_more as wide_pairs}
use Rattle.term_formulas.specs.machinery.Parts.{AreBits, IsBit}

map_with : (f : Linear × Linear → Form) (first : Linear) (others : List Linear)
    → map f (map (λ (other : Linear). (first, other)) others) ≡ map (λ (other : Linear). f (first, other)) others
map_with f first [] = refl
map_with f first (other ∷ others) = ap (λ (forms : List Form). f (first, other) ∷ forms) (map_with f first others)

pub pairs_more : (f : Linear × Linear → Form) (xs : List Linear) (i : ℕ) (d : Linear) → i < length xs
    → map f (pairs (drop i xs)) ≡ map (λ (other : Linear). f (get_or xs i d, other)) (drop (i + 1) xs) ++ map f (pairs (drop (i + 1) xs))
pairs_more f xs i d h =
    ap (λ (rest : List Linear). map f (pairs rest)) (drop_more xs i d h)
    ∙ map-append f (map (λ (other : Linear). (get_or xs i d, other)) (drop (i + 1) xs)) (pairs (drop (i + 1) xs))
    ∙ ap (λ (forms : List Form). forms ++ map f (pairs (drop (i + 1) xs))) (map_with f (get_or xs i d) (drop (i + 1) xs))

pub neighbours_more : (f : Linear × Linear → Form) (xs : List Linear) (i : ℕ) (d e : Linear) → i + 1 < length xs
    → map f (neighbours (drop i xs)) ≡ f (get_or xs i d, get_or xs (i + 1) e) ∷ map f (neighbours (drop (i + 1) xs))
neighbours_more f xs i d e h =
    ap (λ (rest : List Linear). map f (neighbours rest)) (drop_more xs i d (omega arith) ∙ ap (λ (rest : List Linear). get_or xs i d ∷ rest) (drop_more xs (i + 1) e h))
    ∙ ap (λ (rest : List Linear). f (get_or xs i d, get_or xs (i + 1) e) ∷ map f (neighbours rest)) (sym (drop_more xs (i + 1) e h))

first_narrow : (a b : Bool) → (not a || b) ≡ false → a ≡ true
first_narrow true b h = refl
first_narrow false b h = absurd (cc)

first_false : (a b : Bool) → (a || b) ≡ false → a ≡ false
first_false true b h = absurd (cc)
first_false false b h = refl

rest_false : (a b : Bool) → (a || b) ≡ false → b ≡ false
rest_false true b h = absurd (cc)
rest_false false b h = h

-- differences of which none is wide
pub with_room : (first : Linear) (others : List Linear) (i : ℕ) (d : Linear) → i < length others → is_wide_with first (drop i others) ≡ false
    → (is_narrow (less first (get_or others i d)) ≡ true) × (is_wide_with first (drop (i + 1) others) ≡ false)
with_room first others i d h none =
    let both : (not (is_narrow (less first (get_or others i d))) || is_wide_with first (drop (i + 1) others)) ≡ false = sym (with_more first others i d h) ∙ none in
    (first_narrow (is_narrow (less first (get_or others i d))) (is_wide_with first (drop (i + 1) others)) both, rest_false (not (is_narrow (less first (get_or others i d)))) (is_wide_with first (drop (i + 1) others)) both)

pub pairs_room : (forms : List Linear) (i : ℕ) (d : Linear) → i < length forms → list_any is_wide_pair (pairs (drop i forms)) ≡ false
    → (is_wide_with (get_or forms i d) (drop (i + 1) forms) ≡ false) × (list_any is_wide_pair (pairs (drop (i + 1) forms)) ≡ false)
pairs_room forms i d h none =
    let both : (is_wide_with (get_or forms i d) (drop (i + 1) forms) || list_any is_wide_pair (pairs (drop (i + 1) forms))) ≡ false = sym (wide_pairs forms i d h) ∙ none in (
      first_false (is_wide_with (get_or forms i d) (drop (i + 1) forms)) (list_any is_wide_pair (pairs (drop (i + 1) forms))) both,
      rest_false (is_wide_with (get_or forms i d) (drop (i + 1) forms)) (list_any is_wide_pair (pairs (drop (i + 1) forms))) both,
    )

pub neighbours_room : (forms : List Linear) (i : ℕ) (d e : Linear) → i + 1 < length forms → list_any is_wide_pair (neighbours (drop i forms)) ≡ false
    → (is_narrow (less (get_or forms i d) (get_or forms (i + 1) e)) ≡ true) × (list_any is_wide_pair (neighbours (drop (i + 1) forms)) ≡ false)
neighbours_room forms i d e h none =
    let both : (not (is_narrow (less (get_or forms i d) (get_or forms (i + 1) e))) || list_any is_wide_pair (neighbours (drop (i + 1) forms))) ≡ false = sym (next_neighbours forms i d e h) ∙ none in (
      first_narrow (is_narrow (less (get_or forms i d) (get_or forms (i + 1) e))) (list_any is_wide_pair (neighbours (drop (i + 1) forms))) both,
      rest_false (not (is_narrow (less (get_or forms i d) (get_or forms (i + 1) e)))) (list_any is_wide_pair (neighbours (drop (i + 1) forms))) both,
    )

pub bits_more : (bits : List Linear) (i : ℕ) (d : Linear) → i < length bits → AreBits (drop i bits) → IsBit (get_or bits i d) × AreBits (drop (i + 1) bits)
bits_more bits i d h are = subst (λ (rest : List Linear). AreBits rest) (drop_more bits i d h) are

-- One more turn of a loop over pairs, and of one over neighbours.
pub pairs_turn : (f : Linear × Linear → Form) (xs : List Linear) (i : ℕ) (a : Linear) (before new whole : List Form) → i < length xs → a ≡ get_or xs i a
    → before ++ map f (pairs (drop i xs)) ≡ whole → new ≡ before ++ map (λ (other : Linear). f (a, other)) (drop (i + 1) xs) → new ++ map f (pairs (drop (i + 1) xs)) ≡ whole
pairs_turn f xs i a before new whole h is so_far pushed =
    ap (λ (forms : List Form). forms ++ map f (pairs (drop (i + 1) xs))) pushed
    ∙ append_assoc before (map (λ (other : Linear). f (a, other)) (drop (i + 1) xs)) (map f (pairs (drop (i + 1) xs)))
    ∙ ap (λ (x : Linear). before ++ (map (λ (other : Linear). f (x, other)) (drop (i + 1) xs) ++ map f (pairs (drop (i + 1) xs)))) is
    ∙ ap (λ (forms : List Form). before ++ forms) (sym (pairs_more f xs i a h)) ∙ so_far

last_place : (i : ℕ) → 1 ≤ i → (i - 1) + 1 ≡ i
last_place i from = omega (arith, from)

next_place : (i : ℕ) → (i + 1) - 1 ≡ i
next_place i = omega arith

pub neighbours_turn : (f : Linear × Linear → Form) (xs : List Linear) (i : ℕ) (a b : Linear) (before new whole : List Form) (form : Form) → 1 ≤ i → i < length xs → a ≡ get_or xs (i - 1) a → b ≡ get_or xs i b
    → before ++ map f (neighbours (drop (i - 1) xs)) ≡ whole → form ≡ f (a, b) → new ≡ before ++ form ∷ [] → new ++ map f (neighbours (drop ((i + 1) - 1) xs)) ≡ whole
neighbours_turn f xs i a b before new whole form from within is_a is_b so_far made pushed =
    let place : (i - 1) + 1 ≡ i = last_place i from in
    let inside : (i - 1) + 1 < length xs = omega (arith, place, within) in
    ap (λ (forms : List Form). forms ++ map f (neighbours (drop ((i + 1) - 1) xs))) pushed
    ∙ append_assoc before (form ∷ []) (map f (neighbours (drop ((i + 1) - 1) xs)))
    ∙ ap (λ (x : Form). before ++ (x ∷ map f (neighbours (drop ((i + 1) - 1) xs)))) made
    ∙ ap (λ (k : ℕ). before ++ (f (a, b) ∷ map f (neighbours (drop k xs)))) (next_place i ∙ sym place)
    ∙ ap (λ (x : Linear). before ++ (f (x, b) ∷ map f (neighbours (drop ((i - 1) + 1) xs)))) is_a
    ∙ ap (λ (x : Linear). before ++ (f (get_or xs (i - 1) a, x) ∷ map f (neighbours (drop ((i - 1) + 1) xs)))) (is_b ∙ ap (λ (k : ℕ). get_or xs k b) (sym place))
    ∙ ap (λ (forms : List Form). before ++ forms) (sym (neighbours_more f xs (i - 1) a b inside)) ∙ so_far

pub bits_turn : (bits : List Linear) (i : ℕ) (d : Linear) → 1 ≤ i → i < length bits → AreBits (drop (i - 1) bits) → AreBits (drop ((i + 1) - 1) bits)
bits_turn bits i d from within are =
    let place : (i - 1) + 1 ≡ i = last_place i from in
    subst (λ (k : ℕ). AreBits (drop k bits)) (place ∙ sym (next_place i)) (bits_more bits (i - 1) d (omega (arith, place, within)) are).1

pub room_turn : (forms : List Linear) (i : ℕ) (d : Linear) → 1 ≤ i → i < length forms → list_any is_wide_pair (neighbours (drop (i - 1) forms)) ≡ false
    → list_any is_wide_pair (neighbours (drop ((i + 1) - 1) forms)) ≡ false
room_turn forms i d from within none =
    let place : (i - 1) + 1 ≡ i = last_place i from in
    ap (λ (k : ℕ). list_any is_wide_pair (neighbours (drop k forms))) (next_place i ∙ sym place)
    ∙ (neighbours_room forms (i - 1) d d (omega (arith, place, within)) none).1

-- one more relation with the first
pub others_turn : (f : Linear → Form) (xs : List Linear) (i : ℕ) (x : Linear) (old before new : List Form) (form : Form) → i < length xs → x ≡ get_or xs i x → before ≡ old ++ map f (take i xs) → form ≡ f x → new ≡ before ++ form ∷ [] → new ≡ old ++ map f (take (i + 1) xs)
others_turn f xs i x old before new form within is so_far made pushed =
    pushed ∙ ap (λ (forms : List Form). forms ++ form ∷ []) so_far ∙ append_assoc old (map f (take i xs)) (form ∷ [])
    ∙ ap (λ (y : Form). old ++ (map f (take i xs) ++ y ∷ [])) (made ∙ ap f is)
    ∙ ap (λ (forms : List Form). old ++ forms) (sym (ap (map f) (take_more xs i x within) ∙ map-append f (take i xs) (get_or xs i x ∷ [])))

-- both neighbours are bits, and the next one and those behind it
pub bits_here : (bits : List Linear) (i : ℕ) (a b : Linear) → 1 ≤ i → i < length bits → a ≡ get_or bits (i - 1) a → b ≡ get_or bits i b → AreBits (drop (i - 1) bits) → IsBit a × IsBit b
bits_here bits i a b from within is_a is_b are =
    let place : (i - 1) + 1 ≡ i = last_place i from in
    let first = bits_more bits (i - 1) a (omega (arith, place, within)) are in
    let second = bits_more bits i b within (subst (λ (k : ℕ). AreBits (drop k bits)) place first.1) in
    (subst (λ (x : Linear). IsBit x) (sym is_a) first.0, subst (λ (x : Linear). IsBit x) (sym is_b) second.0)

pub bits_behind : (bits others : List Linear) (i : ℕ) (a : Linear) → i < length bits → a ≡ get_or bits i a → others ≡ drop (i + 1) bits → AreBits (drop i bits) → IsBit a × AreBits others
bits_behind bits others i a within is_a is are =
    let here = bits_more bits i a within are in
    (subst (λ (x : Linear). IsBit x) (sym is_a) here.0, subst (λ (xs : List Linear). AreBits xs) (sym is) here.1)

-- at the end no neighbours are left
one_left : (f : Linear × Linear → Form) (xs : List Linear) → length xs ≤ 1 → map f (neighbours xs) ≡ []
one_left f [] few = refl
one_left f (x ∷ []) few = refl
one_left f (x ∷ y ∷ xs) few = absurd (omega (arith, few))

pub neighbours_end : (f : Linear × Linear → Form) (xs : List Linear) (i : ℕ) (before whole : List Form) → length xs ≤ i → before ++ map f (neighbours (drop (i - 1) xs)) ≡ whole → before ≡ whole
neighbours_end f xs i before whole past so_far =
    sym (append-nil before)
    ∙ ap (λ (forms : List Form). before ++ forms) (sym (one_left f (drop (i - 1) xs) (omega (arith, length-drop (i - 1) xs, past)))) ∙ so_far

-- the relation of two sides

pub sides-two : {X : Type 0} (op : OpKind) (x y : X) → sides op (x ∷ y ∷ []) ≡ (x, y) ∷ []
sides-two Distinct x y = refl
sides-two _ x y = refl

joined-one : (sign : Bool) (form : Form) → joined sign (form ∷ []) ≡ form
joined-one true form = refl
joined-one false form = refl

pub two-narrow : (op : OpKind) (a b : Linear) → list_any is_wide_pair (sides op (a ∷ b ∷ [])) ≡ false → is_narrow (less a b) ≡ true
two-narrow op a b none = first_narrow (is_narrow (less a b)) false (ap (list_any is_wide_pair) (sym (sides-two op a b)) ∙ none)

pub two-related : (op : OpKind) (sign : Bool) (a b : Linear) → related op sign (less a b) ≡ joined sign (map (λ (p : Linear × Linear). related op sign (less p.0 p.1)) (sides op (a ∷ b ∷ [])))
two-related op sign a b =
    sym (ap (λ (ps : List (Linear × Linear)). joined sign (map (λ (p : Linear × Linear). related op sign (less p.0 p.1)) ps)) (sides-two op a b) ∙ joined-one sign (related op sign (less a b)))
