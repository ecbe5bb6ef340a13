-- The node below for a part of an open disjunction.
use Rattle.std.proofs.Common.{◌≡◌, ℕ, zero, suc, ◌+◌, ◌<◌, ◌≤◌, max, List, [], ◌∷◌, ◌++◌, map, length, take, drop, get_or, refl, ap, sym, ◌∙◌, subst, arith, append_assoc, append-nil, true, Bool, Some}
use Rattle.std.specs.Prelude.{slice_get, slice_index_or}
use Rattle.std.specs.List.{Contains, flat_map, list_all, range_with_len}
use Rattle.std.proofs.lemmas.Bool.{and_from}
use Rattle.std.proofs.lemmas.List.{length-append, length-map, take-append-le}
use Rattle.std.proofs.lemmas.List.Folds.{list_all-append}
use Rattle.base.specs.Limits.{most_rows}
use Rattle.lin_atoms.specs.Truth.{is_below, lit_is_below, lit_truth}
use Rattle.lin_atoms.specs.declared.form.Form.{Form}
use Rattle.lin_atoms.specs.declared.lit.Lit.{Lit}
use Rattle.lin_atoms.proofs.Public.{both_true}
use Rattle.int_rows.specs.Node.{end_of_quotients, quotients}
use Rattle.refutation_trees.specs.Combination.{lits_end}
use Rattle.refutation_trees.specs.Flatten.{disjunctions, literals}
use Rattle.refutation_trees.specs.Refutation.{form_end, new_variable}
use Rattle.refutation_trees.specs.Split.{HasSolution, IsInner, IsNode, by_cases, under, with_part}
use Rattle.lia_node.specs.Known.{are_known, has_short_constant}
use Rattle.lia_close.specs.Placed.{Place, in_part}
use Rattle.lia_close.specs.Said.{ArePlaced, AreReasons}
use Rattle.lia_stack.specs.Short.{has_short_multiples}
use Rattle.lia_stack.specs.declared.waiting.Open.{Open}
use Rattle.lia_stack.specs.machinery.Opened.{IsOpen, left_lits, left_numbers, node_of, opened_part, with_lit, with_lits}
use Rattle.lia_stack.proofs.CoverLemmas.{all-apart, part-covers}
use Rattle.lia_stack.proofs.EndLemmas.{lits-end}
use Rattle.lia_stack.proofs.FirstLemmas.{known-all, placed-range}
use Rattle.lia_stack.proofs.FlatLemmas.{below-looks, flat-passes, short-looks}
use Rattle.lia_stack.proofs.NameLemmas.{placed-more, reasons-more}
use Rattle.lia_stack.proofs.NodeLemmas.{part-joined}

-- the node with literals that become known, at once
abbrev with_all : Open → List Lit → Open
with_all o lits = record o { lits = o.lits ++ lits; numbers = o.numbers ++ range_with_len o.known (length lits); known = o.known + length lits }

lits-at-once : (o : Open) (lits : List Lit) → with_lits o lits ≡ with_all o lits
lits-at-once o [] =
    let made : List Lit → List ℕ → ℕ → Open = λ ls ns k. record o { lits = ls; numbers = ns; known = k } in
    let count : o.known + 0 ≡ o.known = omega arith in
    sym (ap (λ (ls : List Lit). made ls (o.numbers ++ []) (o.known + 0)) (append-nil o.lits) ∙ ap (λ (ns : List ℕ). made o.lits ns (o.known + 0)) (append-nil o.numbers) ∙ ap (made o.lits o.numbers) count)
lits-at-once o (lit ∷ lits) =
    let made : List Lit → List ℕ → ℕ → Open = λ ls ns k. record o { lits = ls; numbers = ns; known = k } in
    let numbers = range_with_len (o.known + 1) (length lits) in
    let count : o.known + 1 + length lits ≡ o.known + length (lit ∷ lits) = omega arith in
    lits-at-once (with_lit o lit) lits
    ∙ ap (λ (ls : List Lit). made ls ((o.numbers ++ o.known ∷ []) ++ numbers) (o.known + 1 + length lits)) (append_assoc o.lits (lit ∷ []) lits)
    ∙ ap (λ (ns : List ℕ). made (o.lits ++ lit ∷ lits) ns (o.known + 1 + length lits)) (append_assoc o.numbers (o.known ∷ []) numbers)
    ∙ ap (made (o.lits ++ lit ∷ lits) (o.numbers ++ o.known ∷ numbers)) count

known-++ : (q n : ℕ) (these those : List Lit) → q ≤ n → are_known n these ≡ true → list_all (lit_is_below q) those ≡ true → are_known n (these ++ those) ≡ true
known-++ q n [] those le known below = known-all q n those le below
known-++ q n (l ∷ these) those le known below = let both = both_true (lit_is_below n l) _ known in and_from _ _ both.0 (known-++ q (n + quotients l) these those (omega (arith, le)) both.1 below)

placed-++ : (known these those : List Lit) (ps qs : List ℕ) → ArePlaced known these ps → ArePlaced known those qs → ArePlaced known (these ++ those) (ps ++ qs)
placed-++ known [] those [] qs are more = more
placed-++ known [] those (p ∷ ps) qs are more = absurd are
placed-++ known (l ∷ these) those [] qs are more = absurd are
placed-++ known (l ∷ these) those (p ∷ ps) qs are more = (are.0, placed-++ known these those ps qs are.1 more)

pub lits_end-++ : (these those : List Lit) → lits_end (these ++ those) ≡ max (lits_end these) (lits_end those)
lits_end-++ [] those = omega arith
lits_end-++ (l ∷ these) those = let rest = lits_end-++ these those in omega (arith, rest)

all-taken : {X : Type 0} (p : X → Bool) (n : ℕ) (xs : List X) → list_all p xs ≡ true → list_all p (take n xs) ≡ true
all-taken p zero xs h = refl
all-taken p (suc n) [] h = refl
all-taken p (suc n) (x ∷ xs) h = let both = both_true (p x) _ h in and_from _ _ both.0 (all-taken p n xs both.1)

all-dropped : {X : Type 0} (p : X → Bool) (n : ℕ) (xs : List X) → list_all p xs ≡ true → list_all p (drop n xs) ≡ true
all-dropped p zero xs h = h
all-dropped p (suc n) [] h = refl
all-dropped p (suc n) (x ∷ xs) h = all-dropped p n xs (both_true (p x) _ h).1

-- what was known of all disjunctions is known with those of a part in place of one
all-replaced : (p : List Form → Bool) (cases new : List (List Form)) (which : ℕ) → list_all p cases ≡ true → list_all p new ≡ true → list_all p (take which cases ++ (new ++ drop (which + 1) cases)) ≡ true
all-replaced p cases new which h t = list_all-append p (take which cases) (new ++ drop (which + 1) cases) ∙ and_from _ _ (all-taken p which cases h) (list_all-append p new (drop (which + 1) cases) ∙ and_from _ _ t (all-dropped p (which + 1) cases h))

all-there : {X : Type 0} (p : X → Bool) (xs : List X) (k : ℕ) (x : X) → k < length xs → slice_index_or xs k x ≡ x → list_all p xs ≡ true → p x ≡ true
all-there p [] k x less e h = absurd (omega (arith, less))
all-there p (y ∷ xs) zero x less e h = ap p (sym e) ∙ (both_true (p y) _ h).0
all-there p (y ∷ xs) (suc k) x less e h = all-there p xs k x (omega (arith, less)) e (both_true (p y) _ h).1

map-there : {X Y : Type 0} (f : X → Y) (xs : List X) (k : ℕ) (x : X) → k < length xs → slice_index_or xs k x ≡ x → slice_index_or (map f xs) k (f x) ≡ f x
map-there f [] k x less e = absurd (omega (arith, less))
map-there f (y ∷ xs) zero x less e = ap f e
map-there f (y ∷ xs) (suc k) x less e = map-there f xs k x (omega (arith, less)) e

-- what is known of a disjunction is known of its parts
part-of : (p : Form → Bool) (cases : List (List Form)) (which : ℕ) (parts : List Form) (part : Form) → list_all (list_all p) cases ≡ true → slice_get cases which ≡ Some parts → Contains parts part → p part ≡ true
part-of p [] which parts part h there is = absurd (cc)
part-of p (c ∷ cases) zero parts part h there is = let same : c ≡ parts = cc in all-there p parts is.0 part is.1 is.2 (ap (list_all p) (sym same) ∙ (both_true (list_all p c) _ h).0)
part-of p (c ∷ cases) (suc which) parts part h there is = part-of p cases which parts part (both_true (list_all p c) _ h).1 there is

part-node : (form : Form) (o : Open) (which : ℕ) (parts : List Form) (part : Form) → IsNode form (node_of o) → HasSolution (form_end form) o.lits → slice_get o.cases which ≡ Some parts → Contains parts part → IsNode form (node_of (opened_part which o part))
part-node form o which parts part is solution there inside =
    let below = map (with_part which (node_of o)) parts in
    let inner : IsInner (form_end form) (node_of o) below = record { solution = solution; split = by_cases which parts there refl } in
    let many = length-map parts (with_part which (node_of o)) in
    let found : Contains below (with_part which (node_of o) part) = (inside.0, let less = inside.1 in omega (arith, less, many), map-there (with_part which (node_of o)) parts inside.0 part inside.1 inside.2) in
    under (node_of o) (node_of (opened_part which o part)) below is inner (subst (Contains below) (sym (part-joined which o part)) found)

pub open-part : (form : Form) (o : Open) (place : Place) (which : ℕ) (parts : List Form) (part : Form) → IsOpen form o place → HasSolution (form_end form) o.lits → length o.reasons ≡ length o.lits → slice_get o.cases which ≡ Some parts → Contains parts part
    → IsOpen form (opened_part which o part) (in_part which place part)
open-part form o place which parts part is solution full there inside =
    let q = form_end form in
    let n = length o.reasons in
    let more = literals part in
    let cases = take which o.cases ++ (disjunctions part ++ drop (which + 1) o.cases) in
    let below = flat-passes (lit_is_below q) (is_below q) (below-looks q) part (part-of (is_below q) o.cases which parts part is.cases_below there inside) in
    let shorts = flat-passes has_short_constant has_short_multiples short-looks part (part-of has_short_multiples o.cases which parts part is.cases_short there inside) in
    let same : take n (o.lits ++ more) ≡ take n o.lits = take-append-le n o.lits more is.some in
    let ends = lits_end-++ place.known more in
    let least = lits-end q more below.0 in
    let known_end : new_variable q (place.known ++ more) ≡ new_variable q place.known = omega (arith, ends, least) in
    let behind : ArePlaced (place.known ++ more) more (range_with_len o.known (length more)) = placed-range (place.known ++ more) place.known more [] o.known (ap (λ (ls : List Lit). place.known ++ ls) (sym (append-nil more))) (sym is.each) in
    let made : IsOpen form (record (with_all o more) { cases = cases }) (in_part which place part) = record {
      is_node = subst (λ (w : Open). IsNode form (node_of (record w { cases = cases }))) (lits-at-once o more) (part-node form o which parts part is.is_node solution there inside);
      known = known-++ q q o.lits more (omega arith) is.known below.0;
      short = list_all-append has_short_constant o.lits more ∙ and_from _ _ is.short shorts.0;
      left_below = is.left_below;
      left_short = is.left_short;
      cases_below = all-replaced (list_all (is_below q)) o.cases (disjunctions part) which is.cases_below below.1;
      cases_short = all-replaced (list_all has_short_multiples) o.cases (disjunctions part) which is.cases_short shorts.1;
      covers = λ point lits rest waiting.
          let both = all-apart (lit_truth point) o.lits more lits in
          is.covers point both.0 rest (part-covers point o.cases which parts part there inside both.1 waiting);
      each = length-append place.known more ∙ ap (λ (k : ℕ). k + length more) is.each;
      cases = ap (λ (cs : List (List Form)). take which cs ++ (disjunctions part ++ drop (which + 1) cs)) is.cases;
      placed = placed-++ (place.known ++ more) o.lits more o.numbers (range_with_len o.known (length more)) (placed-more place.known more o.lits o.numbers is.placed) behind;
      left_placed = placed-more place.known more (left_lits o.left_out) (left_numbers o.left_out) is.left_placed;
      some = let long = length-append o.lits more in let was = is.some in omega (arith, was, long);
      reasons = subst (λ (ls : List Lit). AreReasons (place.known ++ more) q ls o.reasons) (sym same) (reasons-more place.known more q (take n o.lits) o.reasons is.reasons);
      fresh = known_end ∙ is.fresh ∙ ap (end_of_quotients q) (sym same);
      few = subst (λ (ls : List Lit). end_of_quotients q ls ≤ q + most_rows) (sym same) is.few;
    } in
    subst (λ (w : Open). IsOpen form (record w { cases = cases }) (in_part which place part)) (sym (lits-at-once o more)) made

with_lits-++ : (o : Open) (these those : List Lit) → with_lits o (these ++ those) ≡ with_lits (with_lits o these) those
with_lits-++ o [] those = refl
with_lits-++ o (lit ∷ these) those = with_lits-++ (with_lit o lit) these those

-- one part more has joined
pub joined-more : (o now new : Open) (parts : List Form) (part : Form) (i : ℕ) → i < length parts → part ≡ get_or parts i part → now ≡ with_lits o (flat_map literals (take i parts)) → new ≡ with_lits now (literals part) → new ≡ with_lits o (flat_map literals (take (i + 1) parts))
joined-more o now new [] part i less is at joined = absurd (omega (arith, less))
joined-more o now new (p ∷ parts) part zero less is at joined =
    joined ∙ ap (λ (w : Open). with_lits w (literals part)) at ∙ ap (λ (f : Form). with_lits o (literals f)) is ∙ ap (with_lits o) (sym (append-nil (literals p)))
joined-more o now new (p ∷ parts) part (suc i) less is at joined =
    let next : suc i + 1 ≡ suc (i + 1) = omega arith in
    let first = literals p in
    joined-more (with_lits o first) now new parts part i (omega (arith, less)) is (at ∙ with_lits-++ o first (flat_map literals (take i parts))) joined
    ∙ sym (with_lits-++ o first (flat_map literals (take (i + 1) parts)))
    ∙ ap (λ (k : ℕ). with_lits o (flat_map literals (take k (p ∷ parts)))) (sym next)

-- literals may join before or after the disjunctions are replaced
pub with-cases : (o : Open) (cases : List (List Form)) (lits : List Lit) → with_lits (record o { cases = cases }) lits ≡ record (with_lits o lits) { cases = cases }
with-cases o cases [] = refl
with-cases o cases (lit ∷ lits) = with-cases (with_lit o lit) cases lits
