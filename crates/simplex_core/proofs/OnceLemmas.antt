-- No moment of a run comes twice (Bland 1977): of the variables that come and go between two equal moments, the greatest one would have left where it can't.
use Rattle.std.proofs.Common.{◌≡◌, ℕ, suc, zero, List, refl, ap, sym, ◌∙◌, arith, ◌<◌, ◌≤◌, ◌+◌, ◌-◌, ◌^◌, true, false, Bool, length, Option, Some, None, find, subst, ⊎_elim, ◌⊎◌, inl, inr}
use Rattle.std.specs.Prelude.{not, is_some}
use Rattle.std.specs.List.{range_with_len}
use Rattle.std.proofs.Math.Nat.{eq-or-lt_of_le}
use Rattle.std.proofs.lemmas.Bool.{cases_eq, cases_order}
use Rattle.int_rows.specs.Basis.{bound}
use Rattle.int_rows.specs.Table.{IsTable, Table, basic_at, width}
use Rattle.int_rows.proofs.Public.{same-symmetric, same-transitive}
use Rattle.simplex_core.specs.Answer.{AreSame}
use Rattle.simplex_core.specs.Run.{Moment, Outcome, Next, Ended, broken_at, is_basic, may_enter, next, proceed, restood, run, settled, standing_at}
use Rattle.simplex_core.specs.declared.standing.Standing.{Standing}
use Rattle.simplex_core.specs.declared.standing.Standing.TheVariants.{Basic}
use Rattle.simplex_core.proofs.ClashLemmas.{no-clash}
use Rattle.simplex_core.proofs.GoodLemmas.{IsGood, PivotsRow, pivots-row, restood-enterer, restood-leaver, restood-other, run-good, settled-outside}
use Rattle.simplex_core.proofs.RangeLemmas.{Greatest, find-nowhere, find-within, greatest}
use Rattle.simplex_core.proofs.SameLemmas.{good-width, same-standings}
use Rattle.simplex_core.proofs.SequenceLemmas.{Keeps, Returns, returns}
use Rattle.simplex_core.proofs.TurnLemmas.{IsNext, next-is}

-- where a column stands after k steps, as long as the run goes on
abbrev pub stands_in : Outcome → ℕ → Standing
stands_in (Next m) c = standing_at m.standings c
stands_in (Ended turn) c = Basic

abbrev pub stands : Table → ℕ → ℕ → Standing
stands t c k = stands_in (run t k) c

proceeds : (o : Outcome) (n : Moment) → proceed o ≡ Next n → (m : Moment) × (o ≡ Next m) × (next m ≡ Next n)
proceeds (Next m) n e = (m, refl, e)
proceeds (Ended turn) n e = absurd (cc)

one-more : (t : Table) (k : ℕ) → run t (suc k) ≡ proceed (run t k)
unfolding run
one-more t k = refl

-- the moments before a moment
pub before : (t : Table) (j k : ℕ) (m : Moment) → run t j ≡ Next m → k ≤ j → (a : Moment) × (run t k ≡ Next a)
before t zero k m e h = let same : k ≡ 0 = omega arith in (m, ap (run t) same ∙ e)
before t (suc j) k m e h =
    let last = proceeds (run t j) m (sym (one-more t j) ∙ e) in
    ⊎_elim (λ same. (m, ap (run t) same ∙ e)) (λ less. before t j k last.0 last.1 (omega (arith, less))) (eq-or-lt_of_le h)

-- a step of the run, and what is known of it
record StepAt (t : Table) (k : ℕ) : Type 0 where
  pub old : Moment
  pub new : Moment
  pub here : run t k ≡ Next old
  pub there : run t (k + 1) ≡ Next new
  pub is : IsNext old new
  pub good : IsGood t old
  pub pivots : PivotsRow old is.row is.column is.side

step-at : (t : Table) (k j : ℕ) (m : Moment) → IsTable t → width t < 2 ^ 32 → run t j ≡ Next m → k < j → StepAt t k
step-at t k j m table few e h =
    let a = before t j k m e (omega arith) in
    let b = before t j (suc k) m e (omega arith) in
    let last = proceeds (run t k) b.0 (sym (one-more t k) ∙ b.1) in
    let same : last.0 ≡ a.0 = (let both : Next last.0 ≡ Next a.0 = sym last.1 ∙ a.1 in cc) in
    let is = next-is a.0 b.0 (ap next (sym same) ∙ last.2) in
    let good = run-good t table few k a.0 a.1 in
    let one : k + 1 ≡ suc k = omega arith in
    record { old = a.0; new = b.0; here = a.1; there = ap (run t) one ∙ b.1; is = is; good = good; pivots = pivots-row a.0 is.row is.column is.side good.table good.legal is.turns }

now : (t : Table) (k c : ℕ) (s : StepAt t k) → stands t c k ≡ standing_at s.old.standings c
now t k c s = ap (λ o. stands_in o c) s.here

then : (t : Table) (k c : ℕ) (s : StepAt t k) → stands t c (k + 1) ≡ standing_at (restood s.old.table s.old.standings (basic_at s.old.table.basic s.is.row) s.is.column s.is.side) c
then t k c s = ap (λ o. stands_in o c) s.there ∙ ap (λ (m : Moment). standing_at m.standings c) s.is.moment

long : (t : Table) (k c : ℕ) (s : StepAt t k) → c < width t → c < length s.old.standings
long t k c s h = omega (arith, s.good.legal.each, good-width t s.old s.good, h)

-- the column that enters, that leaves, and another
enterer-then : (t : Table) (k c : ℕ) (s : StepAt t k) → c ≡ s.is.column → stands t c (k + 1) ≡ Basic
enterer-then t k c s e =
    then t k c s ∙ ap (standing_at (restood s.old.table s.old.standings (basic_at s.old.table.basic s.is.row) s.is.column s.is.side)) e
    ∙ restood-enterer s.old.table s.old.standings (basic_at s.old.table.basic s.is.row) s.is.column s.is.side (omega (arith, s.good.legal.each, s.pivots.within))

enterer-now : (t : Table) (k c : ℕ) (s : StepAt t k) → c ≡ s.is.column → is_basic (stands t c k) ≡ false
enterer-now t k c s e = ap is_basic (now t k c s ∙ ap (standing_at s.old.standings) e) ∙ s.pivots.outside

leaver-now : (t : Table) (k c : ℕ) (s : StepAt t k) → c ≡ basic_at s.old.table.basic s.is.row → is_basic (stands t c k) ≡ true
leaver-now t k c s e = ap is_basic (now t k c s ∙ ap (standing_at s.old.standings) e) ∙ s.pivots.row.basic

leaver-then : (t : Table) (k c : ℕ) (s : StepAt t k) → c ≡ basic_at s.old.table.basic s.is.row → stands t c (k + 1) ≡ settled (bound s.old.table.lower (basic_at s.old.table.basic s.is.row)) (bound s.old.table.upper (basic_at s.old.table.basic s.is.row)) s.is.side
leaver-then t k c s e =
    let l = basic_at s.old.table.basic s.is.row in
    then t k c s ∙ ap (standing_at (restood s.old.table s.old.standings l s.is.column s.is.side)) e
    ∙ restood-leaver s.old.table s.old.standings l s.is.column s.is.side (omega (arith, s.good.legal.each, s.pivots.row.column)) (λ same. s.pivots.apart (sym same))

leaver-out : (t : Table) (k c : ℕ) (s : StepAt t k) → c ≡ basic_at s.old.table.basic s.is.row → is_basic (stands t c (k + 1)) ≡ false
leaver-out t k c s e = ap is_basic (leaver-then t k c s e) ∙ settled-outside (bound s.old.table.lower (basic_at s.old.table.basic s.is.row)) (bound s.old.table.upper (basic_at s.old.table.basic s.is.row)) s.is.side

other-stays : (t : Table) (k c : ℕ) (s : StepAt t k) → (c ≡ basic_at s.old.table.basic s.is.row → ⊥) → (c ≡ s.is.column → ⊥) → stands t c k ≡ stands t c (k + 1)
other-stays t k c s first second = now t k c s ∙ sym (then t k c s ∙ restood-other s.old.table s.old.standings (basic_at s.old.table.basic s.is.row) s.is.column c s.is.side first second)

both-ways : (b : Bool) → b ≡ true → b ≡ false → ⊥
both-ways b t f = cc

-- what is basic before and after a step, or neither, stands as before
unmoved : (t : Table) (k c : ℕ) (s : StepAt t k) → is_basic (stands t c k) ≡ is_basic (stands t c (k + 1)) → stands t c k ≡ stands t c (k + 1)
unmoved t k c s same =
    ⊎_elim
    (λ e. absurd (both-ways (is_basic (stands t c (k + 1))) (ap is_basic (enterer-then t k c s e)) (sym same ∙ enterer-now t k c s e)))
    (λ first. ⊎_elim
    (λ e. absurd (both-ways (is_basic (stands t c k)) (leaver-now t k c s e) (same ∙ leaver-out t k c s e)))
    (λ second. other-stays t k c s second first)
    (cases_eq c (basic_at s.old.table.basic s.is.row)))
    (cases_eq c s.is.column)

-- what comes into the basis enters, and what goes leaves
enters-is : (t : Table) (k c : ℕ) (s : StepAt t k) → is_basic (stands t c k) ≡ false → is_basic (stands t c (k + 1)) ≡ true → c ≡ s.is.column
enters-is t k c s out basic =
    ⊎_elim (λ e. e) (λ first. ⊎_elim
    (λ e. absurd (both-ways (is_basic (stands t c k)) (leaver-now t k c s e) out))
    (λ second. absurd (both-ways (is_basic (stands t c k)) (ap is_basic (other-stays t k c s second first) ∙ basic) out))
    (cases_eq c (basic_at s.old.table.basic s.is.row)))
    (cases_eq c s.is.column)

leaves-is : (t : Table) (k c : ℕ) (s : StepAt t k) → is_basic (stands t c k) ≡ true → is_basic (stands t c (k + 1)) ≡ false → c ≡ basic_at s.old.table.basic s.is.row
leaves-is t k c s basic out =
    ⊎_elim (λ e. e) (λ first. absurd (⊎_elim
    (λ e. both-ways (is_basic (stands t c k)) basic (enterer-now t k c s e))
    (λ second. both-ways (is_basic (stands t c k)) basic (ap is_basic (other-stays t k c s first second) ∙ out))
    (cases_eq c s.is.column)))
    (cases_eq c (basic_at s.old.table.basic s.is.row))

-- whether the column comes or goes at a step, and at one of the n steps from `from` on
abbrev differ : Bool → Bool → Bool
differ true b = not b
differ false b = b

abbrev flips : Table → ℕ → ℕ → Bool
flips t c k = differ (is_basic (stands t c k)) (is_basic (stands t c (k + 1)))

abbrev is_fickle : Table → ℕ → ℕ → ℕ → Bool
is_fickle t from n c = is_some (find (flips t c) (range_with_len from n))

not-differ : (a b : Bool) → differ a b ≡ false → a ≡ b
not-differ true true e = refl
not-differ true false e = absurd (cc)
not-differ false b e = sym e

does-differ : (a b : Bool) → differ a b ≡ true → a ≡ b → ⊥
does-differ true true e same = cc
does-differ true false e same = cc
does-differ false true e same = cc
does-differ false false e same = cc

makes-differ : (a b : Bool) → a ≡ true → b ≡ false → differ a b ≡ true
makes-differ a b e f = ap (λ x. differ x b) e ∙ ap not f

makes-differ-too : (a b : Bool) → a ≡ false → b ≡ true → differ a b ≡ true
makes-differ-too a b e f = ap (λ x. differ x b) e ∙ f

none-found : (o : Option ℕ) → is_some o ≡ false → o ≡ None
none-found None e = refl
none-found (Some x) e = absurd (cc)

some-found : (o : Option ℕ) → is_some o ≡ true → (x : ℕ) × (o ≡ Some x)
some-found None e = absurd (cc)
some-found (Some x) e = (x, refl)

steady : (t : Table) (from n c k : ℕ) → is_fickle t from n c ≡ false → from ≤ k → k < from + n → is_basic (stands t c k) ≡ is_basic (stands t c (k + 1))
steady t from n c k e low high = not-differ _ _ (find-nowhere (flips t c) from n (none-found (find (flips t c) (range_with_len from n)) e) k low high)

fickle-cases : (t : Table) (from n c k : ℕ) (b : Bool) → is_fickle t from n c ≡ b → from ≤ k → k < from + n → flips t c k ≡ true → is_fickle t from n c ≡ true
fickle-cases t from n c k true e low high f = e
fickle-cases t from n c k false e low high f = absurd (does-differ _ _ f (steady t from n c k e low high))

fickle : (t : Table) (from n c k : ℕ) → from ≤ k → k < from + n → flips t c k ≡ true → is_fickle t from n c ≡ true
fickle t from n c k low high f = fickle-cases t from n c k (is_fickle t from n c) refl low high f

-- the run between two moments
record Between (t : Table) (from n : ℕ) : Type 0 where
  pub table : IsTable t
  pub few : width t < 2 ^ 32
  pub step : (k : ℕ) → from ≤ k → k < from + n → StepAt t k

-- a column that isn't fickle stands at one place
stays : (t : Table) (from n c d : ℕ) → Between t from n → is_fickle t from n c ≡ false → d ≤ n → stands t c (from + d) ≡ stands t c from
stays t from n c zero is e h = let same : from + 0 ≡ from = omega arith in ap (stands t c) same
stays t from n c (suc d) is e h =
    let same : from + d + 1 ≡ from + suc d = omega arith in
    let low : from ≤ from + d = omega arith in
    let high : from + d < from + n = omega (arith, h) in
    ap (stands t c) (sym same) ∙ sym (unmoved t (from + d) c (is.step (from + d) low high) (steady t from n c (from + d) e low high)) ∙ stays t from n c d is e (omega arith)

stays-at : (t : Table) (from n c k : ℕ) → Between t from n → is_fickle t from n c ≡ false → from ≤ k → k ≤ from + n → stands t c k ≡ stands t c from
stays-at t from n c k is e low high =
    let d : from + (k - from) ≡ k = omega arith in
    ap (stands t c) (sym d) ∙ stays t from n c (k - from) is e (omega arith)

keeps-all : (t : Table) (from n c : ℕ) → Between t from n → Keeps (stands t c) from n
keeps-all t from n c is k low high out gone = unmoved t k c (is.step k low high) (out ∙ sym gone)

-- a fickle column that stands in the same way at both ends leaves, and enters from there
returns-split : (t : Table) (from n c a b : ℕ) → Between t from n → a + b ≡ n → stands t c from ≡ stands t c (from + n) → (is_basic (stands t c from) ≡ is_basic (stands t c (from + a)) → ⊥) → Returns (stands t c) from n
returns-split t from n c a b is split same other =
    let last : from + n ≡ from + a + b = omega (arith, split) in
    subst (Returns (stands t c) from) split (returns (stands t c) from a b (λ k low high. keeps-all t from n c is k low (omega (arith, high, split))) (same ∙ ap (stands t c) last) other)

decided-bool : (a b : Bool) → (a ≡ b) ⊎ (a ≡ b → ⊥)
decided-bool true true = inl refl
decided-bool true false = inr (λ e. cc)
decided-bool false true = inr (λ e. cc)
decided-bool false false = inl refl

returns-at : (t : Table) (from n c k : ℕ) → Between t from n → stands t c from ≡ stands t c (from + n) → from ≤ k → k < from + n → flips t c k ≡ true → Returns (stands t c) from n
returns-at t from n c k is same low high f =
    let here : from + (k - from) ≡ k = omega arith in
    let after_it : from + (k + 1 - from) ≡ k + 1 = omega arith in
    ⊎_elim
    (λ e. returns-split t from n c (k + 1 - from) (from + n - (k + 1)) is (omega arith) same (λ g. does-differ _ _ f (sym e ∙ g ∙ ap (λ j. is_basic (stands t c j)) after_it)))
    (λ e. returns-split t from n c (k - from) (from + n - k) is (omega arith) same (λ g. e (g ∙ ap (λ j. is_basic (stands t c j)) here)))
    (decided-bool (is_basic (stands t c from)) (is_basic (stands t c k)))

flip-enters : (t : Table) (k c : ℕ) (s : StepAt t k) → c ≡ s.is.column → flips t c k ≡ true
flip-enters t k c s e = makes-differ-too _ _ (enterer-now t k c s e) (ap is_basic (enterer-then t k c s e))

flip-leaves : (t : Table) (k c : ℕ) (s : StepAt t k) → c ≡ basic_at s.old.table.basic s.is.row → flips t c k ≡ true
flip-leaves t k c s e = makes-differ _ _ (leaver-now t k c s e) (leaver-out t k c s e)

-- a fickle column isn't after the greatest
not-after : (t : Table) (from n c : ℕ) (g : Greatest (is_fickle t from n) (width t)) → c < width t → is_fickle t from n c ≡ true → c ≤ g.number
not-after t from n c g h e =
    ⊎_elim (λ same. omega (arith, same)) (λ rest. ⊎_elim (λ less. omega (arith, less)) (λ more. absurd (both-ways (is_fickle t from n c) e (g.last c more h))) rest) (cases_order c g.number)

-- the greatest fickle column clashes
clash : (t : Table) (from n : ℕ) (is : Between t from n) (g : Greatest (is_fickle t from n) (width t)) (b : Returns (stands t g.number) from n) → ⊥
clash t from n is g b =
    let r = g.number in
    let one = is.step b.leaves b.leaves_low b.leaves_high in
    let two = is.step b.enters b.enters_low b.enters_high in
    let left : r ≡ basic_at one.old.table.basic one.is.row = leaves-is t b.leaves r one b.leaves_basic b.leaves_out in
    let enters : r ≡ two.is.column = enters-is t b.enters r two b.enters_out b.enters_basic in
    let p = one.old in
    let q = two.old in
    let wp = good-width t p one.good in
    let wq = good-width t q two.good in
    let l = basic_at q.table.basic two.is.row in
    let within : l < width t = omega (arith, two.pivots.row.column, wq) in
    let fickle_leaver = fickle t from n l b.enters b.enters_low b.enters_high (flip-leaves t b.enters l two refl) in
    let low : l ≤ r = not-after t from n l g within fickle_leaver in
    let other : l ≡ r → ⊥ = λ same. both-ways (is_basic (stands t r b.enters)) (leaver-now t b.enters r two (sym same)) b.enters_out in
    let lower : p.table.lower ≡ q.table.lower = one.good.lower ∙ sym two.good.lower in
    let upper : p.table.upper ≡ q.table.upper = one.good.upper ∙ sym two.good.upper in
    let place : standing_at q.standings r ≡ settled (bound q.table.lower r) (bound q.table.upper r) one.is.side =
    sym (now t b.enters r two) ∙ b.same ∙ leaver-then t b.leaves r one left
    ∙ ap (λ c. settled (bound p.table.lower c) (bound p.table.upper c) one.is.side) (sym left)
    ∙ ap (λ ls. settled (bound ls r) (bound p.table.upper r) one.is.side) lower
    ∙ ap (λ us. settled (bound q.table.lower r) (bound us r) one.is.side) upper in
    no-clash p q r two.is.row two.is.side one.is.side (record {
      p_table = one.good.table;
      p_legal = one.good.legal;
      q_table = two.good.table;
      q_legal = two.good.legal;
      lower = lower;
      upper = upper;
      columns = omega (arith, wp, wq);
      space = same-transitive p.table.rows t.rows q.table.rows (same-symmetric t.rows p.table.rows one.good.space) two.good.space;
      p_ordered = one.pivots.ordered;
      within = omega (arith, g.below, wq);
      broken = subst (λ c. broken_at p c ≡ Some one.is.side) (sym left) one.pivots.row.broken;
      p_least = λ d h. one.pivots.row.least d (omega (arith, h, left));
      row = two.pivots.row;
      enters = subst (λ c. may_enter q two.is.row two.is.side c ≡ true) (sym enters) two.pivots.enters;
      q_least = λ d h. two.pivots.least d (omega (arith, h, enters));
      outside = ap is_basic (sym (now t b.enters r two)) ∙ b.enters_out;
      stands = place;
      later = λ c more h.
          let calm = g.last c more (omega (arith, h, wq)) in
          sym (now t b.leaves c one) ∙ stays-at t from n c b.leaves is calm b.leaves_low (omega (arith, b.leaves_high)) ∙ sym (stays-at t from n c b.enters is calm b.enters_low (omega (arith, b.enters_high))) ∙ now t b.enters c two;
      leaver = omega (arith, low, other);
    })

-- no moment comes twice
pub once : (t : Table) (i j : ℕ) (a b : Moment) → IsTable t → width t < 2 ^ 32 → i < j → run t i ≡ Next a → run t j ≡ Next b → AreSame a b → ⊥
once t i j a b table few h first second same =
    let n = j - i in
    let last : i + n ≡ j = omega arith in
    let is : Between t i n = record { table = table; few = few; step = λ k low high. step-at t k j b table few second (omega (arith, high, last)) } in
    let start = is.step i (omega arith) (omega (arith, h)) in
    let e = start.is.column in
    let entered : e < width t = omega (arith, start.pivots.within, good-width t start.old start.good) in
    let g = greatest (is_fickle t i n) (width t) e entered (fickle t i n e i (omega arith) (omega (arith, h)) (flip-enters t i e start refl)) in
    let r = g.number in
    let found = some-found (find (flips t r) (range_with_len i n)) g.passes in
    let flip = find-within (flips t r) i n found.0 found.1 in
    let equal = same-standings t a b (run-good t table few i a first) (run-good t table few j b second) same in
    let ends : stands t r i ≡ stands t r (i + n) = ap (λ o. stands_in o r) first ∙ ap (λ (s : List Standing). standing_at s r) equal ∙ sym (ap (λ o. stands_in o r) (ap (run t) last ∙ second)) in
    clash t i n is g (returns-at t i n r found.0 is ends flip.0 flip.1 flip.2)
