-- A row as an equation: the slack is the form's value at the other columns.
use Rattle.std.proofs.Common.{◌≡◌, ℕ, suc, zero, List, [], ◌∷◌, refl, ap, sym, ◌∙◌, arith, ◌<◌, ◌≤◌, ◌+◌, true, false, Bool, cond, ◌==◌, length, map, get_or}
use Rattle.std.specs.Prelude.{ℤ, pos, neg_ℤ, ◌+ℤ◌, ◌-ℤ◌, ◌*ℤ◌, nat_le, nat_lt}
use Rattle.std.specs.List.{list_all, range_with_len}
use Rattle.std.proofs.Math.IntN.{*ℤ-zero, zero-*ℤ}
use Rattle.std.proofs.lemmas.Bool.{eq-eqb, eqb-true, leb-true, ltb-true, ne_eqb}
use Rattle.std.proofs.lemmas.Int.{ints}
use Rattle.base.proofs.Public.{*ℤ_assoc, +ℤ-*ℤ, neg_ℤ-*ℤ}
use Rattle.lin_atoms.specs.Dot.{dot}
use Rattle.lin_atoms.specs.Linear.{Linear, lin_is_below, sum_at, variable_at}
use Rattle.lin_atoms.proofs.Public.{both_true}
use Rattle.int_rows.specs.Basis.{Point}
use Rattle.int_rows.specs.Node.{coefficient, equation}
use Rattle.int_rows.specs.Rows.{entry}
use Rattle.int_rows.proofs.Public.{coefficient-none}
use Rattle.lia_node.specs.machinery.Solved.{names_rise}
use Rattle.lia_node.specs.Whole.{AreWhole}

-- the sum of f at each column times the column's number
abbrev along : (ℕ → ℤ) → ℕ → List ℤ → ℤ
along f from nums = dot (map f (range_with_len from (length nums))) nums

along-sum : (f g h : ℕ → ℤ) (from : ℕ) (nums : List ℤ) → ((c : ℕ) → f c ≡ g c +ℤ h c) → along f from nums ≡ along g from nums +ℤ along h from nums
along-sum f g h from [] e = refl
along-sum f g h from (x ∷ xs) e =
    let rest = along-sum f g h (from + 1) xs e in
    let first : f from *ℤ x ≡ g from *ℤ x +ℤ h from *ℤ x = ap (λ z. z *ℤ x) (e from) ∙ +ℤ-*ℤ (g from) (h from) x in
    omega (arith, ints, rest, first)

along-none : (f : ℕ → ℤ) (from : ℕ) (nums : List ℤ) → ((c : ℕ) → f c ≡ pos 0) → along f from nums ≡ pos 0
along-none f from [] e = refl
along-none f from (x ∷ xs) e =
    let rest = along-none f (from + 1) xs e in
    let first : f from *ℤ x ≡ pos 0 = ap (λ z. z *ℤ x) (e from) ∙ zero-*ℤ x in
    omega (arith, ints, rest, first)

abbrev unit : ℕ → ℤ → ℕ → ℤ
unit k a c = cond (k == c) a (pos 0)

along-before : (k : ℕ) (a : ℤ) (from : ℕ) (nums : List ℤ) → k < from → along (unit k a) from nums ≡ pos 0
along-before k a from [] h = refl
along-before k a from (x ∷ xs) h =
    let rest = along-before k a (from + 1) xs (omega (arith, h)) in
    let other : (k == from) ≡ false = ne_eqb k from (λ e. absurd (omega (arith, h, e))) in
    let first : unit k a from *ℤ x ≡ pos 0 = ap (λ b. cond b a (pos 0) *ℤ x) other ∙ zero-*ℤ x in
    omega (arith, ints, rest, first)

along-unit : (k : ℕ) (a : ℤ) (from i : ℕ) (nums : List ℤ) → k ≡ from + i → along (unit k a) from nums ≡ a *ℤ get_or nums i (pos 0)
along-unit k a from i [] h = sym (*ℤ-zero a)
along-unit k a from zero (x ∷ xs) h =
    let rest = along-before k a (from + 1) xs (omega (arith, h)) in
    let first : unit k a from *ℤ x ≡ a *ℤ x = ap (λ b. cond b a (pos 0) *ℤ x) (eq-eqb k from (omega (arith, h))) in
    omega (arith, ints, rest, first)
along-unit k a from (suc i) (x ∷ xs) h =
    let rest = along-unit k a (from + 1) i xs (omega (arith, h)) in
    let other : (k == from) ≡ false = ne_eqb k from (λ e. absurd (omega (arith, h, e))) in
    let first : unit k a from *ℤ x ≡ pos 0 = ap (λ b. cond b a (pos 0) *ℤ x) other ∙ zero-*ℤ x in
    omega (arith, ints, rest, first)

-- a variable before all others doesn't occur
coefficient-before : (from v : ℕ) (ts : List (ℕ × ℤ)) → names_rise from ts ≡ true → v < from → coefficient ts v ≡ pos 0
coefficient-before from v [] h less = refl
coefficient-before from v (t ∷ ts) h less =
    let both = both_true (nat_le from t.0) _ h in
    let le : from ≤ t.0 = leb-true _ _ both.0 in
    let other : (t.0 == v) ≡ false = ne_eqb t.0 v (λ e. absurd (omega (arith, less, le, e))) in
    ap (λ b. cond b t.1 (coefficient ts v)) other ∙ coefficient-before (t.0 + 1) v ts both.1 (omega (arith, less, le))

apart : (t : ℕ × ℤ) (ts : List (ℕ × ℤ)) (c : ℕ) (b : Bool) → (t.0 == c) ≡ b → coefficient ts t.0 ≡ pos 0 → neg_ℤ (cond b t.1 (coefficient ts c)) ≡ cond b (neg_ℤ t.1) (pos 0) +ℤ neg_ℤ (coefficient ts c)
apart t ts c true e none =
    let here : coefficient ts c ≡ pos 0 = ap (coefficient ts) (sym (eqb-true t.0 c e)) ∙ none in
    omega (arith, ints, here)
apart t ts c false e none = omega (arith, ints)

-- the terms with the other sign, column by column
along-terms : (from : ℕ) (ts : List (ℕ × ℤ)) (nums : List ℤ) → names_rise from ts ≡ true → along (λ c. neg_ℤ (coefficient ts c)) 0 nums ≡ neg_ℤ (sum_at nums ts)
along-terms from [] nums h = along-none (λ c. neg_ℤ (pos 0)) 0 nums (λ c. refl)
along-terms from (t ∷ ts) nums h =
    let both = both_true (nat_le from t.0) _ h in
    let none = coefficient-before (t.0 + 1) t.0 ts both.1 (omega arith) in
    let split = along-sum (λ c. neg_ℤ (coefficient (t ∷ ts) c)) (unit t.0 (neg_ℤ t.1)) (λ c. neg_ℤ (coefficient ts c)) 0 nums (λ c. apart t ts c (t.0 == c) refl none) in
    let here : t.0 ≡ 0 + t.0 = omega arith in
    let first = along-unit t.0 (neg_ℤ t.1) 0 t.0 nums here in
    let turned = neg_ℤ-*ℤ t.1 (variable_at nums t.0) in
    let rest = along-terms (t.0 + 1) ts nums both.1 in
    omega (arith, ints, split, first, turned, rest)

own-apart : (slack c : ℕ) (a : ℤ) (b d : Bool) → (c == slack) ≡ b → (slack == c) ≡ d → (c ≡ slack → a ≡ pos 0) → cond b (pos 1) (neg_ℤ a) ≡ cond d (pos 1) (pos 0) +ℤ neg_ℤ a
own-apart slack c a true true e f none = let here = none (eqb-true c slack e) in omega (arith, ints, here)
own-apart slack c a true false e f none = absurd (true_false (sym (eq-eqb slack c (sym (eqb-true c slack e))) ∙ f)) where
  true_false : true ≡ false → ⊥
  true_false h = cc
own-apart slack c a false true e f none = absurd (true_false (sym (eq-eqb c slack (sym (eqb-true slack c f))) ∙ e)) where
  true_false : true ≡ false → ⊥
  true_false h = cc
own-apart slack c a false false e f none = omega (arith, ints)

-- an equation at a point
pub dot-equation : (columns slack : ℕ) (lin : Linear) (nums : List ℤ) → length nums ≡ columns → names_rise 0 lin.terms ≡ true → lin_is_below slack lin ≡ true → dot (equation columns slack lin) nums ≡ entry nums slack -ℤ sum_at nums lin.terms
dot-equation columns slack lin nums long rise below =
    let f : ℕ → ℤ = λ c. cond (c == slack) (pos 1) (neg_ℤ (coefficient lin.terms c)) in
    let same : dot (equation columns slack lin) nums ≡ along f 0 nums = ap (λ n. dot (map f (range_with_len 0 n)) nums) (sym long) in
    let none = coefficient-none slack slack lin.terms below (omega arith) in
    let split = along-sum f (unit slack (pos 1)) (λ c. neg_ℤ (coefficient lin.terms c)) 0 nums (λ c. own-apart slack c (coefficient lin.terms c) (c == slack) (slack == c) refl refl (λ e. ap (coefficient lin.terms) e ∙ none)) in
    let here : slack ≡ 0 + slack = omega arith in
    let first = along-unit slack (pos 1) 0 slack nums here in
    let one : pos 1 *ℤ entry nums slack ≡ entry nums slack = grind (arith, ints) in
    let rest = along-terms 0 lin.terms nums rise in
    omega (arith, ints, same, split, first, one, rest)

-- the form at whole coordinates
pub sum-whole : (n : ℕ) (p : Point) (whole : List ℤ) (ts : List (ℕ × ℤ)) → AreWhole n p whole → list_all (λ (t : ℕ × ℤ). nat_lt t.0 n) ts ≡ true → sum_at p.nums ts ≡ sum_at whole ts *ℤ pos p.den
sum-whole n p whole [] are h = sym (zero-*ℤ (pos p.den))
sum-whole n p whole (t ∷ ts) are h =
    let both = both_true (nat_lt t.0 n) _ h in
    let x = variable_at whole t.0 in
    let at : t.1 *ℤ variable_at p.nums t.0 ≡ (t.1 *ℤ x) *ℤ pos p.den = ap (λ z. t.1 *ℤ z) (are t.0 (ltb-true _ _ both.0)) ∙ sym (*ℤ_assoc t.1 x (pos p.den)) in
    let rest = sum-whole n p whole ts are both.1 in
    let parts = +ℤ-*ℤ (t.1 *ℤ x) (sum_at whole ts) (pos p.den) in
    omega (arith, ints, at, rest, parts)
