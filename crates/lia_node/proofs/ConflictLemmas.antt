-- Multipliers of bounds that contradict leave no solution (Farkas).
use Rattle.std.proofs.Common.{◌≡◌, ℕ, suc, zero, List, [], ◌∷◌, refl, ap, sym, ◌∙◌, arith, ◌<◌, ◌+◌, ◌*◌, true, length}
use Rattle.std.specs.Prelude.{ℤ, pos, ◌+ℤ◌, ◌-ℤ◌, ◌*ℤ◌, ◌≤ℤ◌, int_le, negsuc, Option, Some, None}
use Rattle.std.specs.List.{list_all, range_with_len}
use Rattle.std.specs.Option.{unwrap_or}
use Rattle.std.proofs.Math.IntN.{*ℤ_comm, zero-*ℤ}
use Rattle.std.proofs.lemmas.Int.{ints}
use Rattle.std.proofs.lemmas.List.{length-map}
use Rattle.std.proofs.lemmas.List.FromFn.{get_or-map-range_with_len, length-range_with_len}
use Rattle.base.proofs.Public.{*ℤ_assoc, +ℤ-*ℤ}
use Rattle.lin_atoms.specs.Dot.{dot}
use Rattle.lin_atoms.specs.Truth.{lit_is_below, lit_truth}
use Rattle.lin_atoms.specs.declared.lit.Lit.{Lit}
use Rattle.lin_atoms.proofs.Public.{both_true}
use Rattle.int_rows.specs.Basis.{MeetsBounds, Point, bound}
use Rattle.int_rows.specs.Rows.{SolvesAll, entry}
use Rattle.int_rows.specs.Table.{Table, width}
use Rattle.int_rows.proofs.FollowLemmas.{follows-solved}
use Rattle.int_rows.proofs.ReadyLemmas.{le-true}
use Rattle.simplex_core.specs.Meaning.{IsConflict, of_lower, of_upper, summed, summed_bounds, system_of}
use Rattle.simplex_core.proofs.FractionLemmas.{keeps}
use Rattle.simplex_core.proofs.GapLemmas.{keeps-strict}
use Rattle.simplex_core.proofs.SumLemmas.{dot-made, dot-total, total, total-below, total-minus, total-same}
use Rattle.lia_node.specs.Known.{is_legal}
use Rattle.lia_node.specs.Nodes.{node_table}
use Rattle.lia_node.proofs.Public.{point-solution}
use Rattle.lia_node.proofs.EvidenceLemmas.{node-width}

natural-at : (ms : List ℤ) (k : ℕ) → list_all (λ k. int_le (pos 0) k) ms ≡ true → pos 0 ≤ℤ entry ms k
natural-at [] k h = omega (arith, ints)
natural-at (m ∷ ms) zero h = le-true (pos 0) m (both_true (int_le (pos 0) m) _ h).0
natural-at (m ∷ ms) (suc k) h = natural-at ms k (both_true (int_le (pos 0) m) _ h).1

-- a sum of multiples of one number
total-times : (h : ℕ → ℤ) (d : ℤ) (a n : ℕ) → total (λ c. h c *ℤ d) a n ≡ total h a n *ℤ d
total-times h d a zero = sym (zero-*ℤ d)
total-times h d a (suc n) =
    let rest = total-times h d (a + 1) n in
    let parts = +ℤ-*ℤ (h a) (total h (a + 1) n) d in
    omega (arith, ints, rest, parts)

times-natural : (a x y : ℤ) → pos 0 ≤ℤ a → x ≤ℤ y → (a *ℤ x) ≤ℤ (a *ℤ y)
times-natural (pos n) x y h le =
    let kept = keeps x y n le in
    let first = *ℤ_comm (pos n) x in
    let second = *ℤ_comm (pos n) y in
    omega (arith, ints, kept, first, second)
times-natural (negsuc n) x y h le = absurd (omega (arith, ints, h))

-- one bound from below, and one from above, times its multiplier
lower-part : (a x : ℤ) (d : ℕ) (o : Option ℤ) → pos 0 ≤ℤ a → (o ≡ None → a ≡ pos 0) → ((l : ℤ) → o ≡ Some l → (l *ℤ pos d) ≤ℤ x) → ((a *ℤ unwrap_or o (pos 0)) *ℤ pos d) ≤ℤ (a *ℤ x)
lower-part a x d None h none some =
    let zero_at = none refl in
    let left : (a *ℤ pos 0) *ℤ pos d ≡ pos 0 = ap (λ z. (z *ℤ pos 0) *ℤ pos d) zero_at ∙ ap (λ z. z *ℤ pos d) (zero-*ℤ (pos 0)) ∙ zero-*ℤ (pos d) in
    let right : a *ℤ x ≡ pos 0 = ap (λ z. z *ℤ x) zero_at ∙ zero-*ℤ x in
    omega (arith, ints, left, right)
lower-part a x d (Some l) h none some =
    let le = times-natural a (l *ℤ pos d) x h (some l refl) in
    let same = *ℤ_assoc a l (pos d) in
    omega (arith, ints, le, same)

upper-part : (a x : ℤ) (d : ℕ) (o : Option ℤ) → pos 0 ≤ℤ a → (o ≡ None → a ≡ pos 0) → ((u : ℤ) → o ≡ Some u → x ≤ℤ (u *ℤ pos d)) → (a *ℤ x) ≤ℤ ((a *ℤ unwrap_or o (pos 0)) *ℤ pos d)
upper-part a x d None h none some =
    let zero_at = none refl in
    let left : (a *ℤ pos 0) *ℤ pos d ≡ pos 0 = ap (λ z. (z *ℤ pos 0) *ℤ pos d) zero_at ∙ ap (λ z. z *ℤ pos d) (zero-*ℤ (pos 0)) ∙ zero-*ℤ (pos d) in
    let right : a *ℤ x ≡ pos 0 = ap (λ z. z *ℤ x) zero_at ∙ zero-*ℤ x in
    omega (arith, ints, left, right)
upper-part a x d (Some u) h none some =
    let le = times-natural a x (u *ℤ pos d) h (some u refl) in
    let same = *ℤ_assoc a u (pos d) in
    omega (arith, ints, le, same)

-- no solution within the bounds
pub no-solution : (t : Table) (ms : List ℤ) (p : Point) → IsConflict t ms → 0 < p.den → length p.nums ≡ width t → SolvesAll p.nums t.rows → MeetsBounds (system_of t) p → ⊥
no-solution t ms p is some long solves meets =
    let n = width t in
    let d = pos p.den in
    let x : ℕ → ℤ = entry p.nums in
    let lo : ℕ → ℤ = of_lower ms in
    let up : ℕ → ℤ = of_upper ms in
    let low : ℕ → ℤ = λ v. unwrap_or (bound t.lower v) (pos 0) in
    let high : ℕ → ℤ = λ v. unwrap_or (bound t.upper v) (pos 0) in
    let row = summed n ms in
    let wide : length row ≡ n = length-map (range_with_len 0 n) (λ v. of_upper ms v -ℤ of_lower ms v) ∙ length-range_with_len 0 n in
    let solved : dot row p.nums ≡ pos 0 = follows-solved t.rows row p.nums is.follows solves in
    let spread = dot-total row p.nums n wide long in
    let each : total (λ c. entry row c *ℤ x c) 0 n ≡ total (λ c. (up c -ℤ lo c) *ℤ x c) 0 n =
    total-same (λ c. entry row c *ℤ x c) (λ c. (up c -ℤ lo c) *ℤ x c) 0 n (λ c from less. ap (λ z. z *ℤ x c) (get_or-map-range_with_len (λ v. of_upper ms v -ℤ of_lower ms v) 0 n c c (pos 0) (omega (arith, less)) (omega arith))) in
    let none : total (λ c. (up c -ℤ lo c) *ℤ x c) 0 n ≡ pos 0 = sym each ∙ sym spread ∙ solved in
    let lows = dot-made lo low 0 n in
    let highs = dot-made up high 0 n in
    let both = total-minus (λ c. lo c *ℤ low c) (λ c. up c *ℤ high c) 0 n in
    let constant = total (λ c. lo c *ℤ low c -ℤ up c *ℤ high c) 0 n in
    let constant_is : summed_bounds t ms ≡ constant = omega (arith, ints, lows, highs, both) in
    let scaled = total-times (λ c. lo c *ℤ low c -ℤ up c *ℤ high c) d 0 n in
    let below : total (λ c. (lo c *ℤ low c -ℤ up c *ℤ high c) *ℤ d) 0 n ≤ℤ total (λ c. pos 0 -ℤ (up c -ℤ lo c) *ℤ x c) 0 n =
    total-below (λ c. (lo c *ℤ low c -ℤ up c *ℤ high c) *ℤ d) (λ c. pos 0 -ℤ (up c -ℤ lo c) *ℤ x c) 0 n (λ c from less.
    let inside : c < n = omega (arith, less) in
    let first = lower-part (lo c) (x c) p.den (bound t.lower c) (natural-at ms (2 * c) is.natural) (is.lower c inside) (meets.lower c) in
    let second = upper-part (up c) (x c) p.den (bound t.upper c) (natural-at ms (2 * c + 1) is.natural) (is.upper c inside) (meets.upper c) in
    let apart = minus-times (lo c *ℤ low c) (up c *ℤ high c) d in
    let other = minus-times (up c) (lo c) (x c) in
    omega (arith, ints, first, second, apart, other)) in
    let zeros = total-minus (λ c. pos 0) (λ c. (up c -ℤ lo c) *ℤ x c) 0 n in
    let zero_total = total-none 0 n in
    let more = keeps-strict (pos 0) constant p.den some (let above = is.above in omega (arith, ints, above, constant_is)) in
    let zero_d = zero-*ℤ d in
    absurd (omega (arith, ints, none, scaled, below, zeros, zero_total, more, zero_d)) where
      minus-times : (a b z : ℤ) → (a -ℤ b) *ℤ z ≡ a *ℤ z -ℤ b *ℤ z
      minus-times a b z =
          let parts = +ℤ-*ℤ (a -ℤ b) b z in
          let whole : ((a -ℤ b) +ℤ b) *ℤ z ≡ a *ℤ z = let e : (a -ℤ b) +ℤ b ≡ a = omega (arith, ints) in ap (λ y. y *ℤ z) e in
          omega (arith, ints, parts, whole)

      total-none : (a n : ℕ) → total (λ c. pos 0) a n ≡ pos 0
      total-none a zero = refl
      total-none a (suc n) = let rest = total-none (a + 1) n in omega (arith, ints, rest)

-- and so no point of the literals
pub no-point : (q : ℕ) (lits : List Lit) (ms point : List ℤ) → list_all is_legal lits ≡ true → list_all (lit_is_below q) lits ≡ true → length point ≡ q → IsConflict (node_table q lits) ms → list_all (lit_truth point) lits ≡ true → ⊥
no-point q lits ms point legal below long is h =
    let found = point-solution q lits point legal below long h in
    let p = found.1 in
    let solution = found.3 in
    no-solution (node_table q lits) ms p is solution.positive (solution.width ∙ sym (node-width q lits)) solution.solves (record { lower = solution.meets.lower; upper = solution.meets.upper })
