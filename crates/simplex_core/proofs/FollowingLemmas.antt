-- One more step of a run that is followed: no moment comes twice, so fewer steps are left.
use Rattle.std.proofs.Common.{◌≡◌, ℕ, suc, zero, List, [], ◌∷◌, ◌++◌, refl, ap, sym, ◌∙◌, arith, ◌<◌, ◌≤◌, ◌+◌, ◌-◌, ◌^◌, true, false, Bool, length, get_or, subst, Option, Some, None, ⊎_elim, Err}
use Rattle.std.specs.List.{Contains}
use Rattle.std.specs.Option.{unwrap_or}
use Rattle.std.proofs.Math.Nat.{eq-or-lt_of_le}
use Rattle.std.proofs.lemmas.Bool.{cases_order, eqb-true, eq-eqb}
use Rattle.std.proofs.lemmas.List.{get_or_append_left, get_or_at, length_push}
use Rattle.base.specs.declared.memory.Memory.{Memory}
use Rattle.int_rows.specs.Table.{IsTable, Table, width}
use Rattle.simplex_core.specs.Answer.{IsRun}
use Rattle.simplex_core.specs.machinery.Following.{IsFollowing, has_number, left, steps_to}
use Rattle.simplex_core.specs.machinery.Standing.{number}
use Rattle.simplex_core.specs.Run.{Moment, Outcome, Next, Ended, first_moment, next, proceed, run}
use Rattle.simplex_core.specs.declared.standing.Standing.{Standing}
use Rattle.simplex_core.proofs.CountLemmas.{AreDistinct, distinct-none, distinct-push, few}
use Rattle.simplex_core.proofs.GoodLemmas.{IsGood, good-next, run-good}
use Rattle.simplex_core.proofs.OnceLemmas.{before, once}
use Rattle.simplex_core.proofs.RangeLemmas.{find-nowhere, find-within}
use Rattle.simplex_core.proofs.SameLemmas.{good-width, standings-same}
use Rattle.simplex_core.proofs.StandingLemmas.{number-same}

following-good : (t : Table) (last : Moment) → IsFollowing t last → IsGood t last
following-good t last is = run-good t is.table is.few is.steps last is.reached

-- no moment of a run has the standings of an earlier one
standings-once : (t : Table) (i j : ℕ) (a b : Moment) → IsTable t → width t < 2 ^ 32 → i < j → run t i ≡ Next a → run t j ≡ Next b → a.standings ≡ b.standings → ⊥
standings-once t i j a b table small h first second e =
    once t i j a b table small h first second (standings-same t a b (run-good t table small i a first) (run-good t table small j b second) e)

abbrev standings_of : Outcome → List Standing
standings_of (Next m) = m.standings
standings_of (Ended turn) = []

-- the standings of the first k moments
abbrev met : Table → ℕ → List (List Standing)
met t zero = []
met t (suc k) = met t k ++ standings_of (run t k) ∷ []

met-length : (t : Table) (k : ℕ) → length (met t k) ≡ k
met-length t zero = refl
met-length t (suc k) = let rest = met-length t k in omega (arith, rest, length_push (met t k) (standings_of (run t k)))

met-at : (t : Table) (k i : ℕ) (d : List Standing) → i < k → get_or (met t k) i d ≡ standings_of (run t i)
met-at t zero i d h = absurd (omega arith)
met-at t (suc k) i d h =
    let count = met-length t k in
    let low : i ≤ k = omega (arith, h) in
    ⊎_elim
    (λ end. get_or_at (met t k) (standings_of (run t k)) [] d i (omega (arith, end, count)) ∙ ap (λ j. standings_of (run t j)) (sym end))
    (λ less. get_or_append_left (met t k) (standings_of (run t k) ∷ []) d i (omega (arith, less, count)) ∙ met-at t k i d less)
    (eq-or-lt_of_le low)

long : (t : Table) (k : ℕ) (m : Moment) → IsTable t → width t < 2 ^ 32 → run t k ≡ Next m → length m.standings ≡ width t
long t k m table small at = let good = run-good t table small k m at in good.legal.each ∙ good-width t m good

fresh : (t : Table) (k : ℕ) (last : Moment) → IsTable t → width t < 2 ^ 32 → run t k ≡ Next last → Contains (met t k) last.standings → ⊥
fresh t k last table small at found =
    let i = found.0 in
    let less : i < k = omega (arith, found.1, met-length t k) in
    let a = before t k i last at (omega (arith, less)) in
    let same : a.0.standings ≡ last.standings = ap standings_of (sym a.1) ∙ sym (met-at t k i last.standings less) ∙ found.2 in
    standings-once t i k a.0 last table small less a.1 at same

met-distinct : (t : Table) (k : ℕ) (last : Moment) → IsTable t → width t < 2 ^ 32 → run t k ≡ Next last → AreDistinct (width t) (met t k)
met-distinct t zero last table small at = distinct-none (width t)
met-distinct t (suc k) last table small at =
    let a = before t (suc k) k last at (omega arith) in
    subst (λ (s : List Standing). AreDistinct (width t) (met t k ++ s ∷ [])) (sym (ap standings_of a.1))
    (distinct-push (width t) (met t k) a.0.standings (met-distinct t k a.0 table small a.1) (long t k a.0 table small a.1) (fresh t k a.0 table small a.1))

-- a run has fewer steps than there are lists of standings
in-range : (t : Table) (k : ℕ) (last : Moment) → IsTable t → width t < 2 ^ 32 → run t k ≡ Next last → k < 4 ^ width t
in-range t k last table small at =
    let less = few (width t) (met t k) last.standings (met-distinct t k last table small at) (long t k last table small at) (fresh t k last table small at) in
    omega (arith, less, met-length t k)

numbered : (n : ℕ) (o : Outcome) → has_number n o ≡ true → (m : Moment) × (o ≡ Next m) × (number m.standings ≡ n)
numbered n (Next m) h = (m, refl, eqb-true (number m.standings) n h)
numbered n (Ended turn) h = absurd (cc)

both-ways : (b : Bool) → b ≡ true → b ≡ false → ⊥
both-ways b t f = cc

abbrev test : Table → ℕ → ℕ → Bool
test t n k = has_number n (run t k)

passes : (t : Table) (k : ℕ) (last : Moment) → run t k ≡ Next last → test t (number last.standings) k ≡ true
passes t k last at = ap (has_number (number last.standings)) at ∙ eq-eqb (number last.standings) (number last.standings) refl

alone : (t : Table) (k x : ℕ) (last : Moment) → IsTable t → width t < 2 ^ 32 → run t k ≡ Next last → test t (number last.standings) x ≡ true → x ≡ k
alone t k x last table small at h =
    let a = numbered (number last.standings) (run t x) h in
    let same : a.0.standings ≡ last.standings = number-same a.0.standings last.standings (long t x a.0 table small a.1 ∙ sym (long t k last table small at)) a.2 in
    ⊎_elim (λ e. e) (λ rest. absurd (⊎_elim
    (λ less. standings-once t x k a.0 last table small less a.1 at same)
    (λ more. standings-once t k x last a.0 table small more at a.1 (sym same))
    rest))
    (cases_order x k)

steps-cases : (t : Table) (k : ℕ) (last : Moment) (o : Option ℕ) → IsTable t → width t < 2 ^ 32 → run t k ≡ Next last → steps_to t (number last.standings) ≡ o → o ≡ Some k
steps-cases t k last None table small at e =
    let within = in-range t k last table small at in
    absurd (both-ways (test t (number last.standings) k) (passes t k last at) (find-nowhere (test t (number last.standings)) 0 (4 ^ width t) e k (omega arith) (omega (arith, within))))
steps-cases t k last (Some x) table small at e =
    let found = find-within (test t (number last.standings)) 0 (4 ^ width t) x e in
    ap (λ y. Some y) (alone t k x last table small at found.2)

left-is : (t : Table) (k : ℕ) (last : Moment) → IsTable t → width t < 2 ^ 32 → run t k ≡ Next last → left t last.standings ≡ 4 ^ width t - k
unfolding left
left-is t k last table small at = ap (λ o. 4 ^ width t - unwrap_or o 0) (steps-cases t k last (steps_to t (number last.standings)) table small at refl)

reached-more : (t : Table) (k : ℕ) (last now : Moment) → run t k ≡ Next last → next last ≡ Next now → run t (k + 1) ≡ Next now
unfolding run
reached-more t k last now at e = let one : k + 1 ≡ suc k = omega arith in ap (run t) one ∙ ap proceed at ∙ e

-- the next moment
pub following-more : (t : Table) (last now : Moment) → IsFollowing t last → next last ≡ Next now → IsFollowing t now
following-more t last now is e = record {
  table = is.table;
  few = is.few;
  legal = (good-next t last now (following-good t last is) e).legal;
  steps = is.steps + 1;
  reached = reached-more t is.steps last now is.reached e;
}

pub fewer-left : (t : Table) (last now : Moment) → IsFollowing t last → next last ≡ Next now → left t now.standings < left t last.standings
fewer-left t last now is e =
    let at = reached-more t is.steps last now is.reached e in
    let within = in-range t is.steps last is.table is.few is.reached in
    let here = left-is t is.steps last is.table is.few is.reached in
    let there = left-is t (is.steps + 1) now is.table is.few at in
    omega (arith, within, here, there)

-- the run is at its first moment
pub started : (t : Table) → run t 0 ≡ Next (first_moment t)
unfolding run
started t = refl

-- a call that gave up before the first step
pub stopped : (t : Table) (stop : Memory) → IsRun t t (Err stop)
stopped t stop = record { steps = 0; last = first_moment t; reached = started t; table = refl; ends = tt }
