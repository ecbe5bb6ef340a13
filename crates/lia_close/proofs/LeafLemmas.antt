-- What is taken of single literals is added up by a leaf, below roundings of them.
use Rattle.std.proofs.Common.{◌≡◌, ℕ, zero, suc, ◌+◌, ◌<◌, List, [], ◌∷◌, ◌++◌, length, refl, ap, sym, ◌∙◌, subst, arith, append_assoc, append-nil, true, false, Bool, cond, ◌==◌, ◌&&◌, Some}
use Rattle.std.specs.Prelude.{◌^◌, ℤ, pos, neg_ℤ, nat_abs, nat_lt, ◌+ℤ◌, ◌*ℤ◌, ◌≤ℤ◌, int_le, int_lt, slice_get}
use Rattle.std.specs.List.{list_all}
use Rattle.std.specs.Option.{option_map_or}
use Rattle.std.proofs.Math.IntN.{*ℤ_comm}
use Rattle.std.proofs.lemmas.Bool.{and_from, eqb-false, eqb-true}
use Rattle.std.proofs.lemmas.Int.{ints}
use Rattle.std.proofs.lemmas.List.{length-append, length-map, map-append}
use Rattle.std.proofs.lemmas.List.Folds.{list_all-append}
use Rattle.base.proofs.Public.{*ℤ_assoc}
use Rattle.lin_atoms.specs.Algebra.{added, scaled}
use Rattle.lin_atoms.specs.Denial.{linear_of, lit_fits}
use Rattle.lin_atoms.specs.Linear.{Linear, are_ordered, is_short, of_constant, value_at}
use Rattle.lin_atoms.specs.declared.lit.Lit.{Lit}
use Rattle.lin_atoms.specs.declared.lit.Lit.TheVariants.{Le, Eq, Div, NDiv}
use Rattle.lin_atoms.proofs.Public.{both_true, value_at-added, value_at-scaled}
use Rattle.int_rows.specs.Ready.{bounded, rounded}
use Rattle.int_rows.specs.declared.bounds.Ready.{Ready}
use Rattle.int_rows.specs.declared.bounds.Ready.TheVariants.{Bounds}
use Rattle.int_rows.proofs.ReadyLemmas.{true-le}
use Rattle.refutation_trees.specs.Combination.{are_multipliers, combined, is_divided_by, is_multiplier, linear_at, may_be_multiplied}
use Rattle.refutation_trees.specs.declared.tree.Refutation.{Refutation}
use Rattle.refutation_trees.specs.declared.tree.Refutation.TheVariants.{Leaf}
use Rattle.lia_node.specs.Known.{is_legal}
use Rattle.lia_close.specs.Placed.{IsSoundAt, Place, with_known}
use Rattle.lia_close.specs.Said.{AreAt, said_by}
use Rattle.lia_close.specs.declared.leaf.Rounding.{Rounding}
use Rattle.lia_close.specs.declared.side.Side.{Side}
use Rattle.lia_close.specs.declared.side.Side.TheVariants.{Lower, Upper}
use Rattle.lia_close.specs.declared.side.Taken.{Taken}
use Rattle.lia_close.specs.machinery.Closing.{IsClosing, derived, derived_by, divisor_of, may_round, multiplier_of, under, with_taken}
use Rattle.lia_close.specs.machinery.Taken.{bound_on, said, said_value, taken_value}
use Rattle.lia_close.proofs.PlacedLemmas.{sound-leaf, sound-round}
use Rattle.lia_close.proofs.RoundLemmas.{found-linear, lower-round, upper-round}
use Rattle.lia_close.proofs.SideLemmas.{giving, giving-there, once, plain-bound, turned}
use Rattle.lia_close.proofs.ValueLemmas.{above-everywhere}

-- a literal keeps its number where more come last
pub get-more : {X : Type 0} (xs ys : List X) (i : ℕ) (x : X) → slice_get xs i ≡ Some x → slice_get (xs ++ ys) i ≡ Some x
get-more [] ys i x e = absurd (cc)
get-more (y ∷ xs) ys zero x e = e
get-more (y ∷ xs) ys (suc i) x e = get-more xs ys i x e

-- and so does a multiplier
some-more : (k : ℤ) (lits more : List Lit) (i : ℕ) → option_map_or (may_be_multiplied k) (slice_get lits i) false ≡ true → (option_map_or (may_be_multiplied k) (slice_get (lits ++ more) i) false ≡ true) × (linear_at (lits ++ more) i ≡ linear_at lits i)
some-more k [] more i h = absurd (cc)
some-more k (l ∷ lits) more zero h = (h, refl)
some-more k (l ∷ lits) more (suc i) h = some-more k lits more i h

more-multiplier : (lits more : List Lit) (m : ℕ × ℤ) → is_multiplier lits m ≡ true → is_multiplier (lits ++ more) m ≡ true
more-multiplier lits more m h = let both = both_true (is_short m.1) _ h in and_from _ _ both.0 (some-more m.1 lits more m.0 both.1).0

more-linear : (lits more : List Lit) (m : ℕ × ℤ) → is_multiplier lits m ≡ true → linear_at (lits ++ more) m.0 ≡ linear_at lits m.0
more-linear lits more m h = (some-more m.1 lits more m.0 (both_true (is_short m.1) _ h).1).1

pub more-multipliers : (lits more : List Lit) (ms : List (ℕ × ℤ)) → are_multipliers lits ms ≡ true → are_multipliers (lits ++ more) ms ≡ true
more-multipliers lits more [] h = refl
more-multipliers lits more (m ∷ ms) h = let both = both_true (is_multiplier lits m) _ h in and_from _ _ (more-multiplier lits more m both.0) (more-multipliers lits more ms both.1)

pub more-combined : (lits more : List Lit) (ms : List (ℕ × ℤ)) → are_multipliers lits ms ≡ true → combined (lits ++ more) ms ≡ combined lits ms
more-combined lits more [] h = refl
more-combined lits more (m ∷ ms) h =
    let both = both_true (is_multiplier lits m) _ h in
    ap (λ (lin : Linear). added (scaled m.1 lin) (combined (lits ++ more) ms)) (more-linear lits more m both.0)
    ∙ ap (λ (lin : Linear). added (scaled m.1 (linear_at lits m.0)) lin) (more-combined lits more ms both.1)

-- the value of a sum with one multiplier more
pub combined-push : (point : List ℤ) (lits : List Lit) (ms : List (ℕ × ℤ)) (m : ℕ × ℤ) → value_at point (combined lits (ms ++ m ∷ [])) ≡ value_at point (combined lits ms) +ℤ m.1 *ℤ value_at point (linear_at lits m.0)
combined-push point lits [] m =
    let sum = value_at-added point (scaled m.1 (linear_at lits m.0)) (of_constant (pos 0)) in
    let multiple = value_at-scaled point m.1 (linear_at lits m.0) in
    omega (arith, ints, sum, multiple)
combined-push point lits (n ∷ ms) m =
    let rest = combined-push point lits ms m in
    let sum = value_at-added point (scaled n.1 (linear_at lits n.0)) (combined lits ms) in
    let longer = value_at-added point (scaled n.1 (linear_at lits n.0)) (combined lits (ms ++ m ∷ [])) in
    omega (arith, ints, rest, sum, longer)

-- a literal that is divided gives a bound by a rounding, which is legal and has room: only `<=` and `=` are
pub rounded-bound : (q : ℕ) (lit : Lit) (side : Side) (known : List Lit) (reason : ℕ) (point : List ℤ) (number : ℤ) → is_legal lit ≡ true → 0 < length (linear_of lit).terms → (divisor_of lit ≡ 1 → ⊥) → bound_on side (bounded q lit) ≡ Some number → AreAt known reason (said_by q lit)
    → let r : Rounding = record { number = reason + (multiplier_of lit side).0; sign = (multiplier_of lit side).1; divisor = pos (divisor_of lit) } in (may_round known r ≡ true) × (value_at point (linear_of (derived_by known r)) ≡ value_at point (said side (bounded q lit)))
rounded-bound q (Le lin) Lower known reason point number legal some more e at = absurd (cc)
rounded-bound q (Le lin) Upper known reason point number legal some more e at = upper-round known (reason + 0) (Le lin) point (at 0 (Le lin) refl) refl legal some
rounded-bound q (Eq lin) Upper known reason point number legal some more e at = upper-round known (reason + 0) (Eq lin) point (at 0 (Eq lin) refl) refl legal some
rounded-bound q (Eq lin) Lower known reason point number legal some more e at = lower-round known (reason + 0) lin point (at 0 (Eq lin) refl) legal some
rounded-bound q (Div n lin) side known reason point number legal some more e at = absurd (more refl)
rounded-bound q (NDiv n lin) side known reason point number legal some more e at = absurd (more refl)

pub get-last : {X : Type 0} (xs : List X) (x : X) → slice_get (xs ++ x ∷ []) (length xs) ≡ Some x
get-last [] x = refl
get-last (y ∷ xs) x = get-last xs x

taken-push : (point : List ℤ) (readied : List Ready) (takens : List Taken) (taken : Taken) → taken_value point readied (takens ++ taken ∷ []) ≡ taken_value point readied takens +ℤ taken.times *ℤ said_value point taken.side (slice_get readied taken.literal)
taken-push point readied [] taken = omega (arith, ints)
taken-push point readied (t ∷ takens) taken = let rest = taken-push point readied takens taken in omega (arith, ints, rest)

turned-short : (times : ℤ) → is_short times ≡ true → is_short (neg_ℤ (pos 1) *ℤ times) ≡ true
turned-short times short =
    let same : nat_abs (neg_ℤ times) ≡ nat_abs times = omega (arith, ints) in
    ap is_short (turned times) ∙ ap (λ (n : ℕ). nat_lt n (2 ^ 63)) same ∙ short

-- the sign keeps the width, and what gives the bound may be multiplied so
sign-short : (lit : Lit) (side : Side) (times : ℤ) → is_short times ≡ true → is_short ((multiplier_of lit side).1 *ℤ times) ≡ true
sign-short (Le lin) side times short = ap is_short (once times) ∙ short
sign-short (Eq lin) Upper times short = ap is_short (once times) ∙ short
sign-short (Eq lin) Lower times short = turned-short times short
sign-short (Div n lin) Upper times short = ap is_short (once times) ∙ short
sign-short (Div n lin) Lower times short = turned-short times short
sign-short (NDiv n lin) Lower times short = ap is_short (once times) ∙ short
sign-short (NDiv n lin) Upper times short = ap is_short (once times) ∙ short

sign-may : (q : ℕ) (lit : Lit) (side : Side) (times : ℤ) → pos 0 ≤ℤ times → may_be_multiplied ((multiplier_of lit side).1 *ℤ times) (giving q lit side) ≡ true
sign-may q (Le lin) side times natural = ap (int_le (pos 0)) (once times) ∙ true-le (pos 0) times natural
sign-may q (Eq lin) side times natural = refl
sign-may q (Div n lin) side times natural = refl
sign-may q (NDiv n lin) Lower times natural = ap (int_le (pos 0)) (once times) ∙ true-le (pos 0) times natural
sign-may q (NDiv n lin) Upper times natural = ap (int_le (pos 0)) (once times) ∙ true-le (pos 0) times natural

-- one multiplier more, of a literal that stands there: its multiple is that of what the bound says
with-multiplier : (known : List Lit) (readied : List Ready) (rs : List Rounding) (ms : List (ℕ × ℤ)) (takens : List Taken) (taken : Taken) (lit : Lit) (m : ℕ × ℤ) → IsClosing known readied rs ms takens → slice_get (known ++ derived known rs) m.0 ≡ Some lit → is_short m.1 ≡ true → may_be_multiplied m.1 lit ≡ true
    → ((point : List ℤ) → m.1 *ℤ value_at point (linear_of lit) ≡ taken.times *ℤ said_value point taken.side (slice_get readied taken.literal)) → IsClosing known readied rs (ms ++ m ∷ []) (takens ++ taken ∷ [])
with-multiplier known readied rs ms takens taken lit m is there short may same =
    let all = known ++ derived known rs in
    let here : is_multiplier all m ≡ true = and_from _ _ short (ap (λ o. option_map_or (may_be_multiplied m.1) o false) there ∙ may) in
    record {
      legal = is.legal;
      multipliers = list_all-append (is_multiplier all) ms (m ∷ []) ∙ and_from _ _ is.multipliers (and_from _ _ here refl);
      value = λ point.
          let pushed = combined-push point all ms m in
          let form : m.1 *ℤ value_at point (linear_at all m.0) ≡ m.1 *ℤ value_at point (linear_of lit) = ap (λ (lin : Linear). m.1 *ℤ value_at point lin) (found-linear all m.0 lit there) in
          let old = is.value point in
          let more = taken-push point readied takens taken in
          let said = same point in
          omega (arith, ints, pushed, form, old, more, said);
    }

-- one rounding more, of which nothing is taken yet
with-rounding : (known : List Lit) (readied : List Ready) (rs : List Rounding) (ms : List (ℕ × ℤ)) (takens : List Taken) (r : Rounding) → IsClosing known readied rs ms takens → may_round known r ≡ true → IsClosing known readied (rs ++ r ∷ []) ms takens
with-rounding known readied rs ms takens r is legal =
    let d = derived_by known r in
    let all : known ++ derived known (rs ++ r ∷ []) ≡ (known ++ derived known rs) ++ d ∷ [] = ap (λ (ls : List Lit). known ++ ls) (map-append (derived_by known) rs (r ∷ [])) ∙ sym (append_assoc known (derived known rs) (d ∷ [])) in
    record {
      legal = list_all-append (may_round known) rs (r ∷ []) ∙ and_from _ _ is.legal (and_from _ _ legal refl);
      multipliers = ap (λ (ls : List Lit). are_multipliers ls ms) all ∙ more-multipliers (known ++ derived known rs) (d ∷ []) ms is.multipliers;
      value = λ point. ap (λ (ls : List Lit). value_at point (combined ls ms)) all ∙ ap (value_at point) (more-combined (known ++ derived known rs) (d ∷ []) ms is.multipliers) ∙ is.value point;
    }

-- one bound more
abbrev Adds : List Lit → List Ready → List Rounding × List (ℕ × ℤ) → List Taken → Taken → Lit → ℕ → Bool → Type 0
Adds known readied leaf takens taken lit reason b =
    let number = reason + (multiplier_of lit taken.side).0 in
    let sign = (multiplier_of lit taken.side).1 in
    let new : List Rounding × List (ℕ × ℤ) = cond b (leaf.0, leaf.1 ++ (number, sign *ℤ taken.times) ∷ []) (leaf.0 ++ record { number = number; sign = sign; divisor = pos (divisor_of lit) } ∷ [], leaf.1 ++ (length known + length leaf.0, taken.times) ∷ []) in
    IsClosing known readied new.0 new.1 (takens ++ taken ∷ [])

adds : (known : List Lit) (readied : List Ready) (leaf : List Rounding × List (ℕ × ℤ)) (takens : List Taken) (q reason : ℕ) (lit : Lit) (taken : Taken) → IsClosing known readied leaf.0 leaf.1 takens
    → slice_get readied taken.literal ≡ Some (Bounds (bounded q lit)) → is_legal lit ≡ true → are_ordered 0 (linear_of lit).terms ≡ true → 0 < length (linear_of lit).terms → (number : ℤ) → bound_on taken.side (bounded q lit) ≡ Some number → pos 0 ≤ℤ taken.times → is_short taken.times ≡ true → AreAt known reason (said_by q lit)
    → (b : Bool) → (divisor_of lit == 1) ≡ b → Adds known readied leaf takens taken lit reason b
adds known readied leaf takens q reason lit taken is there legal ordered some number bound natural short at true one =
    let sign = (multiplier_of lit taken.side).1 in
    let giver = giving q lit taken.side in
    let found = get-more known (derived known leaf.0) (reason + (multiplier_of lit taken.side).0) giver (at (multiplier_of lit taken.side).0 giver (giving-there q lit taken.side)) in
    with-multiplier known readied leaf.0 leaf.1 takens taken giver (reason + (multiplier_of lit taken.side).0, sign *ℤ taken.times) is found (sign-short lit taken.side taken.times short) (sign-may q lit taken.side taken.times natural)
    (λ point.
    let v = value_at point (linear_of giver) in
    let plain = plain-bound q lit taken.side point number ordered some (eqb-true _ _ one) bound in
    let moved : (sign *ℤ taken.times) *ℤ v ≡ taken.times *ℤ (sign *ℤ v) = ap (λ z. z *ℤ v) (*ℤ_comm sign taken.times) ∙ *ℤ_assoc taken.times sign v in
    moved ∙ ap (λ z. taken.times *ℤ z) plain ∙ ap (λ o. taken.times *ℤ said_value point taken.side o) (sym there))
adds known readied leaf takens q reason lit taken is there legal ordered some number bound natural short at false one =
    let r : Rounding = record { number = reason + (multiplier_of lit taken.side).0; sign = (multiplier_of lit taken.side).1; divisor = pos (divisor_of lit) } in
    let d = derived_by known r in
    let more : divisor_of lit ≡ 1 → ⊥ = eqb-false _ _ one in
    let round = rounded-bound q lit taken.side known reason [] number legal some more bound at in
    let rounds = with-rounding known readied leaf.0 leaf.1 takens r is round.0 in
    let all : known ++ derived known (leaf.0 ++ r ∷ []) ≡ (known ++ derived known leaf.0) ++ d ∷ [] = ap (λ (ls : List Lit). known ++ ls) (map-append (derived_by known) leaf.0 (r ∷ [])) ∙ sym (append_assoc known (derived known leaf.0) (d ∷ [])) in
    let place : length (known ++ derived known leaf.0) ≡ length known + length leaf.0 = length-append known (derived known leaf.0) ∙ ap (λ (n : ℕ). length known + n) (length-map leaf.0 (derived_by known)) in
    let found : slice_get (known ++ derived known (leaf.0 ++ r ∷ [])) (length known + length leaf.0) ≡ Some d = ap (λ (ls : List Lit). slice_get ls (length known + length leaf.0)) all ∙ ap (λ (n : ℕ). slice_get ((known ++ derived known leaf.0) ++ d ∷ []) n) (sym place) ∙ get-last (known ++ derived known leaf.0) d in
    with-multiplier known readied (leaf.0 ++ r ∷ []) leaf.1 takens taken d (length known + length leaf.0, taken.times) rounds found short (true-le (pos 0) taken.times natural)
    (λ point. ap (λ z. taken.times *ℤ z) (rounded-bound q lit taken.side known reason point number legal some more bound at).1 ∙ ap (λ o. taken.times *ℤ said_value point taken.side o) (sym there))

pub closing-more : (known : List Lit) (readied : List Ready) (leaf : List Rounding × List (ℕ × ℤ)) (takens : List Taken) (q reason : ℕ) (lit : Lit) (taken : Taken) → IsClosing known readied leaf.0 leaf.1 takens
    → slice_get readied taken.literal ≡ Some (Bounds (bounded q lit)) → is_legal lit ≡ true → are_ordered 0 (linear_of lit).terms ≡ true → 0 < length (linear_of lit).terms → (number : ℤ) → bound_on taken.side (bounded q lit) ≡ Some number → pos 0 ≤ℤ taken.times → is_short taken.times ≡ true → AreAt known reason (said_by q lit)
    → let new = with_taken lit taken.side reason (length known) taken.times leaf in IsClosing known readied new.0 new.1 (takens ++ taken ∷ [])
closing-more known readied leaf takens q reason lit taken is there legal ordered some number bound natural short at = adds known readied leaf takens q reason lit taken is there legal ordered some number bound natural short at (divisor_of lit == 1) refl

-- a rounding stays legal where more is known, and gives the same
more-rounds : (known more : List Lit) (r : Rounding) → may_round known r ≡ true → (may_round (known ++ more) r ≡ true) × (derived_by (known ++ more) r ≡ derived_by known r)
more-rounds known more r h =
    let m : ℕ × ℤ = (r.number, r.sign) in
    let both = both_true (is_multiplier known m) _ h in
    let same : combined (known ++ more) (m ∷ []) ≡ combined known (m ∷ []) = more-combined known more (m ∷ []) (and_from _ _ both.0 refl) in
    let legal : may_round (known ++ more) r ≡ true = and_from _ _ (more-multiplier known more m both.0) (subst (λ (lin : Linear). ((int_le (pos 1) r.divisor && is_divided_by r.divisor lin) && lit_fits (Le (rounded r.divisor lin))) ≡ true) (sym same) both.1) in
    (legal, ap (λ (lin : Linear). Le (rounded r.divisor lin)) same)

-- the roundings above a tree, of which some literals are known already
under-more : (end : ℕ) (place : Place) (more : List Lit) (rs : List Rounding) (tree : Refutation) → list_all (may_round place.known) rs ≡ true → IsSoundAt end (with_known (with_known place more) (derived place.known rs)) tree → IsSoundAt end (with_known place more) (under rs tree)
under-more end place more [] tree legal is = subst (λ (ls : List Lit). IsSoundAt end (record { known = ls; cases = place.cases }) tree) (append-nil (place.known ++ more)) is
under-more end place more (r ∷ rs) tree legal is =
    let both = both_true (may_round place.known r) _ legal in
    let here = more-rounds place.known more r both.0 in
    let m : ℕ × ℤ = (r.number, r.sign) in
    let parts = both_true (is_multiplier (place.known ++ more) m) _ here.0 in
    let divides = both_true (int_le (pos 1) r.divisor && is_divided_by r.divisor (combined (place.known ++ more) (m ∷ []))) _ parts.1 in
    let positive = both_true (int_le (pos 1) r.divisor) _ divides.0 in
    let d = derived_by place.known r in
    let below : IsSoundAt end (with_known place (more ++ d ∷ [])) (under rs tree) =
    under-more end place (more ++ d ∷ []) rs tree both.1 (subst (λ (ls : List Lit). IsSoundAt end (record { known = ls; cases = place.cases }) tree) (sym (append_assoc (place.known ++ more) (d ∷ []) (derived place.known rs)) ∙ ap (λ (ls : List Lit). ls ++ derived place.known rs) (append_assoc place.known more (d ∷ []))) is) in
    sound-round end (with_known place more) (m ∷ []) r.divisor (under rs tree) (and_from _ _ parts.0 refl) positive.0 positive.1 divides.1
    (subst (λ (ls : List Lit). IsSoundAt end (record { known = ls; cases = place.cases }) (under rs tree)) (sym (append_assoc place.known more (d ∷ [])) ∙ ap (λ (l : Lit). (place.known ++ more) ++ l ∷ []) (sym here.1)) below)

pub sound-under : (end : ℕ) (place : Place) (rs : List Rounding) (tree : Refutation) → list_all (may_round place.known) rs ≡ true → IsSoundAt end (with_known place (derived place.known rs)) tree → IsSoundAt end place (under rs tree)
sound-under end place rs tree legal is =
    subst (λ (ls : List Lit). IsSoundAt end (record { known = ls; cases = place.cases }) (under rs tree)) (append-nil place.known)
    (under-more end place [] rs tree legal (subst (λ (ls : List Lit). IsSoundAt end (record { known = ls ++ derived place.known rs; cases = place.cases }) tree) (sym (append-nil place.known)) is))

pub sound-closing : (end : ℕ) (place : Place) (readied : List Ready) (rs : List Rounding) (ms : List (ℕ × ℤ)) (takens : List Taken) (c : ℤ) → IsClosing place.known readied rs ms takens → ((point : List ℤ) → taken_value point readied takens ≡ c) → int_lt (pos 0) c ≡ true → IsSoundAt end place (under rs (Leaf ms))
sound-closing end place readied rs ms takens c is same above =
    sound-under end place rs (Leaf ms) is.legal
    (sound-leaf end (with_known place (derived place.known rs)) ms is.multipliers
    (above-everywhere (place.known ++ derived place.known rs) ms c (λ point. is.value point ∙ same point) above))
