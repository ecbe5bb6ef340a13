-- A row that follows from the equations of slacks and forms is 0 once each slack is replaced by its form.
use Rattle.std.proofs.Common.{◌≡◌, ℕ, suc, zero, List, [], ◌∷◌, refl, ap, sym, ◌∙◌, arith, ◌<◌, ◌≤◌, ◌+◌, true, cond, ◌==◌, length, map}
use Rattle.std.specs.Prelude.{ℤ, pos, neg_ℤ, ◌+ℤ◌, ◌*ℤ◌}
use Rattle.std.specs.List.{list_all, range_with_len}
use Rattle.std.proofs.Math.IntN.{*ℤ_comm, *ℤ-zero}
use Rattle.std.proofs.lemmas.Bool.{and_parts, eq-eqb, ne_eqb}
use Rattle.std.proofs.lemmas.Int.{ints}
use Rattle.std.proofs.lemmas.List.FromFn.{get_or-map-range_with_len}
use Rattle.base.proofs.Public.{*ℤ-+ℤ, *ℤ_assoc, neg_ℤ-*ℤ}
use Rattle.lin_atoms.specs.Dot.{dot}
use Rattle.lin_atoms.specs.Linear.{Linear, lin_is_below}
use Rattle.int_rows.specs.Node.{coefficient, equation, equations}
use Rattle.int_rows.specs.Rows.{Follows, entry}
use Rattle.int_rows.specs.Space.{SameSpace}
use Rattle.int_rows.specs.Table.{Table, first_table, width}
use Rattle.int_rows.proofs.Public.{coefficient-none, same-follows, same-symmetric, zero-factor}
use Rattle.simplex_core.specs.Meaning.{IsConflict, summed, with_forms}

-- the coefficients of a variable in the forms, and the entries of a column in the rows
abbrev of_forms : List Linear → ℕ → List ℤ
of_forms lins v = map (λ (lin : Linear). coefficient lin.terms v) lins

abbrev of_rows : List (List ℤ) → ℕ → List ℤ
of_rows rows v = map (λ r. entry r v) rows

slack-entry : (columns slack c : ℕ) (lin : Linear) → c < columns → entry (equation columns slack lin) c ≡ cond (c == slack) (pos 1) (neg_ℤ (coefficient lin.terms c))
slack-entry columns slack c lin h = get_or-map-range_with_len (λ k. cond (k == slack) (pos 1) (neg_ℤ (coefficient lin.terms k))) 0 columns c c (pos 0) h (omega arith)

other-entry : (columns slack c : ℕ) (lin : Linear) → c < columns → (c ≡ slack → ⊥) → entry (equation columns slack lin) c ≡ neg_ℤ (coefficient lin.terms c)
other-entry columns slack c lin h other = slack-entry columns slack c lin h ∙ ap (λ b. cond b (pos 1) (neg_ℤ (coefficient lin.terms c))) (ne_eqb c slack other)

own-entry : (columns slack : ℕ) (lin : Linear) → slack < columns → entry (equation columns slack lin) slack ≡ pos 1
own-entry columns slack lin h = slack-entry columns slack slack lin h ∙ ap (λ b. cond b (pos 1) (neg_ℤ (coefficient lin.terms slack))) (eq-eqb slack slack refl)

times-neg : (m a : ℤ) → m *ℤ neg_ℤ a ≡ neg_ℤ (m *ℤ a)
times-neg m a = *ℤ_comm m (neg_ℤ a) ∙ neg_ℤ-*ℤ a m ∙ ap neg_ℤ (*ℤ_comm a m)

-- a column before all slacks
at-variable : (ms : List ℤ) (columns slack v : ℕ) (lins : List Linear) → v < columns → v < slack → dot ms (of_rows (equations columns slack lins) v) ≡ neg_ℤ (dot ms (of_forms lins v))
at-variable [] columns slack v lins h k = refl
at-variable (m ∷ ms) columns slack v [] h k = refl
at-variable (m ∷ ms) columns slack v (lin ∷ lins) h k =
    let first : m *ℤ entry (equation columns slack lin) v ≡ neg_ℤ (m *ℤ coefficient lin.terms v) = ap (λ z. m *ℤ z) (other-entry columns slack v lin h (λ same. absurd (omega (arith, same, k)))) ∙ times-neg m (coefficient lin.terms v) in
    let rest = at-variable ms columns (slack + 1) v lins h (omega (arith, k)) in
    omega (arith, ints, first, rest)

no-coefficients : (ms : List ℤ) (n v : ℕ) (lins : List Linear) → list_all (lin_is_below n) lins ≡ true → n ≤ v → dot ms (of_forms lins v) ≡ pos 0
no-coefficients [] n v lins h k = refl
no-coefficients (m ∷ ms) n v [] h k = refl
no-coefficients (m ∷ ms) n v (lin ∷ lins) h k =
    let both = and_parts (lin_is_below n lin) (list_all (lin_is_below n) lins) h in
    let first : m *ℤ coefficient lin.terms v ≡ pos 0 = ap (λ z. m *ℤ z) (coefficient-none n v lin.terms both.0 k) ∙ *ℤ-zero m in
    let rest = no-coefficients ms n v lins both.1 k in
    omega (arith, ints, first, rest)

times-one : (m : ℤ) → m *ℤ pos 1 ≡ m
times-one m = grind (arith, ints)

-- the column of a slack has its multiplier alone
at-slack : (ms : List ℤ) (columns slack n i q : ℕ) (lins : List Linear) → list_all (lin_is_below n) lins ≡ true → n ≤ slack → i < length lins → q ≡ slack + i → q < columns → dot ms (of_rows (equations columns slack lins) q) ≡ entry ms i
at-slack [] columns slack n i q lins h k less e within = refl
at-slack (m ∷ ms) columns slack n i q [] h k less e within = absurd (omega arith)
at-slack (m ∷ ms) columns slack n zero q (lin ∷ lins) h k less e within =
    let both = and_parts (lin_is_below n lin) (list_all (lin_is_below n) lins) h in
    let same : q ≡ slack = omega (arith, e) in
    let own : entry (equation columns slack lin) q ≡ pos 1 = ap (entry (equation columns slack lin)) same ∙ own-entry columns slack lin (omega (arith, same, within)) in
    let first : m *ℤ entry (equation columns slack lin) q ≡ m = ap (λ z. m *ℤ z) own ∙ times-one m in
    let none = no-coefficients ms n q lins both.1 (omega (arith, k, same)) in
    let rest = at-variable ms columns (slack + 1) q lins within (omega (arith, same)) in
    omega (arith, ints, first, none, rest)
at-slack (m ∷ ms) columns slack n (suc i) q (lin ∷ lins) h k less e within =
    let both = and_parts (lin_is_below n lin) (list_all (lin_is_below n) lins) h in
    let other : entry (equation columns slack lin) q ≡ pos 0 = other-entry columns slack q lin within (λ same. absurd (omega (arith, same, e))) ∙ ap neg_ℤ (coefficient-none n q lin.terms both.0 (omega (arith, k, e))) in
    let first : m *ℤ entry (equation columns slack lin) q ≡ pos 0 = ap (λ z. m *ℤ z) other ∙ *ℤ-zero m in
    let rest = at-slack ms columns (slack + 1) n i q lins both.1 (omega (arith, k)) (omega arith) (omega (arith, e)) within in
    omega (arith, ints, first, rest)

-- a multiple of a product whose factors are known up to that multiple
scaled : (k : ℤ) (g : ℕ → ℤ) (ms cs : List ℤ) (from n : ℕ) → length ms ≡ n → ((j : ℕ) → j < n → k *ℤ g (from + j) ≡ entry ms j) → k *ℤ dot (map g (range_with_len from n)) cs ≡ dot ms cs
scaled k g [] cs from zero long h = *ℤ-zero k
scaled k g (m ∷ ms) cs from zero long h = absurd (omega arith)
scaled k g [] cs from (suc n) long h = absurd (omega arith)
scaled k g (m ∷ ms) [] from (suc n) long h = *ℤ-zero k
scaled k g (m ∷ ms) (c ∷ cs) from (suc n) long h =
    let rest = scaled k g ms cs (from + 1) n (omega arith) (λ j less. let step : (from + 1) + j ≡ from + suc j = omega arith in ap (λ q. k *ℤ g q) step ∙ h (suc j) (omega arith)) in
    let here : from + 0 ≡ from = omega arith in
    let first : k *ℤ (g from *ℤ c) ≡ m *ℤ c = sym (*ℤ_assoc k (g from) c) ∙ ap (λ z. z *ℤ c) (ap (λ q. k *ℤ g q) (sym here) ∙ h 0 (omega arith)) in
    let apart = *ℤ-+ℤ k (g from *ℤ c) (dot (map g (range_with_len (from + 1) n)) cs) in
    omega (arith, ints, rest, first, apart)

length-made : (columns slack : ℕ) (lins : List Linear) → length (equations columns slack lins) ≡ length lins
length-made columns slack [] = refl
length-made columns slack (lin ∷ lins) = ap suc (length-made columns (slack + 1) lins)

-- what follows from the equations is 0 on each variable, with each slack replaced by its form
pub follows-forms : (variables : ℕ) (lins : List Linear) (f : List ℤ) (v : ℕ) → list_all (lin_is_below variables) lins ≡ true → Follows (first_table variables lins).rows f → v < variables → with_forms variables lins f v ≡ pos 0
follows-forms variables lins f v below is less =
    let n = length lins in
    let columns = variables + n in
    let k = pos is.multiple in
    let ms = is.multipliers in
    let cs = of_forms lins v in
    let long : length ms ≡ n = is.each ∙ length-made columns variables lins in
    let slacks = dot (map (λ i. entry f (variables + i)) (range_with_len 0 n)) cs in
    let first : k *ℤ entry f v ≡ neg_ℤ (dot ms cs) = is.combination v ∙ at-variable ms columns variables v lins (omega (arith, less)) less in
    let second : k *ℤ slacks ≡ dot ms cs = scaled k (λ i. entry f (variables + i)) ms cs 0 n long (λ j h. let zero_on : 0 + j ≡ j = omega arith in ap (λ q. k *ℤ entry f (variables + q)) zero_on ∙ is.combination (variables + j) ∙ at-slack ms columns variables variables j (variables + j) lins below (omega arith) h refl (omega (arith, h))) in
    let apart = *ℤ-+ℤ k (entry f v) slacks in
    let none : k *ℤ (entry f v +ℤ slacks) ≡ pos 0 = omega (arith, ints, first, second, apart) in
    zero-factor (entry f v +ℤ slacks) is.multiple is.positive (*ℤ_comm (entry f v +ℤ slacks) k ∙ none)

-- the multipliers of a conflict add up to 0 on each variable, with each slack replaced by its form
pub conflict-forms : (variables : ℕ) (lins : List Linear) (t : Table) (ms : List ℤ) (v : ℕ) → list_all (lin_is_below variables) lins ≡ true → SameSpace (first_table variables lins).rows t.rows → IsConflict t ms → v < variables → with_forms variables lins (summed (width t) ms) v ≡ pos 0
conflict-forms variables lins t ms v below same is less =
    follows-forms variables lins (summed (width t) ms) v below (same-follows t.rows (first_table variables lins).rows (summed (width t) ms) (same-symmetric (first_table variables lins).rows t.rows same) is.follows) less
