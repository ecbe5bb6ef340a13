-- Lemmas below the book's level beside what keeps them, one after another.
use Rattle.std.proofs.Common.{◌≡◌, ℕ, zero, suc, ◌+◌, ◌<◌, ◌≤◌, List, [], ◌∷◌, length, drop, Bool, true, false, cond, Some, None, refl, ap, sym, ◌∙◌, arith}
use Rattle.std.specs.Prelude.{Option, nat_lt, slice_get}
use Rattle.clause_form.specs.System.{Clauses}
use Rattle.chc_tokens.specs.declared.keeping.NoLift.{NoLift as NoLiftToken}
use Rattle.book_rules.specs.declared.by.By.{By}
use Rattle.book_rules.specs.declared.by.By.TheVariants.{Lemma as ByLemma, Step as ByStep}
use Rattle.book_rules.specs.Frames.{Framed}
use Rattle.book_rules.specs.RaiseRules.{below_from, first_pair, in_places, is_no_lift_of}
use Rattle.book_rules.specs.Steps.{NoLift, Why}
use Rattle.book_rules.specs.Walks.{or_else}
use Rattle.step_rules.specs.Tokens.{all_no_lifts, no_lift_of}
use Rattle.step_rules.specs.machinery.Places.{kept_told, pair_told, place_after, told_below}
use Rattle.cube_rules.proofs.Public.{plus-one}
use Rattle.cube_rules.proofs.Public.{mapped-end}

some-suc : {X : Type 0} (xs : List X) (i : ℕ) (x : X) → slice_get xs i ≡ Some x → drop i xs ≡ x ∷ drop (suc i) xs
some-suc [] i x there = absurd (cc)
some-suc (y ∷ xs) zero x there = let same : y ≡ x = cc in ap (λ z. z ∷ xs) same
some-suc (y ∷ xs) (suc i) x there = some-suc xs i x there

drop-some : {X : Type 0} (xs : List X) (i : ℕ) (x : X) → slice_get xs i ≡ Some x → drop i xs ≡ x ∷ drop (i + 1) xs
drop-some xs i x there = some-suc xs i x there ∙ ap (λ k. x ∷ drop k xs) (sym (plus-one i))

none-suc : {X : Type 0} (xs : List X) (i : ℕ) → slice_get xs i ≡ None → (drop i xs ≡ []) × (drop (suc i) xs ≡ [])
none-suc [] zero there = (refl, refl)
none-suc [] (suc i) there = (refl, refl)
none-suc (y ∷ xs) zero there = absurd (cc)
none-suc (y ∷ xs) (suc i) there = none-suc xs i there

drop-none : {X : Type 0} (xs : List X) (i : ℕ) → slice_get xs i ≡ None → (drop i xs ≡ []) × (drop (i + 1) xs ≡ [])
drop-none xs i there = let ends = none-suc xs i there in (ends.0, ap (λ k. drop k xs) (plus-one i) ∙ ends.1)

-- one lemma more, by its level

below-step : (level n : ℕ) (e : Framed) (es : List Framed) (b : Bool) → nat_lt e.level level ≡ b → below_from level n (e ∷ es) ≡ cond {A = List (ℕ × Framed)} b ((n, e) ∷ below_from level (n + 1) es) (below_from level (n + 1) es)
below-step level n e es b is = ap (λ c. cond {A = List (ℕ × Framed)} c ((n, e) ∷ below_from level (n + 1) es) (below_from level (n + 1) es)) is

told-is : (level : ℕ) (e : Framed) (told : Option By) (b : Bool) → nat_lt e.level level ≡ b → told_below level e told ≡ cond {A = Option By} b told None
told-is level e told b is = ap (λ c. cond {A = Option By} c told None) is

after-is : (level : ℕ) (e : Framed) (place : ℕ) (b : Bool) → nat_lt e.level level ≡ b → place_after level e place ≡ cond {A = ℕ} b (place + 1) place
after-is level e place b is = ap (λ c. cond {A = ℕ} c (place + 1) place) is

abbrev pairs : (ℕ × Framed → Why → Option By) → ℕ → ℕ → List Framed → List NoLiftToken → ℕ → Option By
pairs tell level n es kept place = first_pair tell (below_from level n es) (all_no_lifts (drop place kept))

none-told : (tell : ℕ × Framed → Why → Option By) (es : List (ℕ × Framed)) → first_pair tell es [] ≡ None
none-told tell [] = refl
none-told tell (e ∷ es) = refl

pair-on : (tell : ℕ × Framed → Why → Option By) (e : ℕ × Framed) (es : List (ℕ × Framed)) (kept : List NoLiftToken) (place : ℕ) (told : Option By) (found : Option NoLiftToken) → slice_get kept place ≡ found → pair_told tell e found ≡ told
    → first_pair tell (e ∷ es) (all_no_lifts (drop place kept)) ≡ or_else told (first_pair tell es (all_no_lifts (drop (place + 1) kept)))
pair-on tell e es kept place told None there is =
    let ends = drop-none kept place there in
    ap (λ (ks : List NoLiftToken). first_pair tell (e ∷ es) (all_no_lifts ks)) ends.0
    ∙ sym (none-told tell es)
    ∙ ap (λ (ks : List NoLiftToken). first_pair tell es (all_no_lifts ks)) (sym ends.1)
    ∙ ap (λ (t : Option By). or_else t (first_pair tell es (all_no_lifts (drop (place + 1) kept)))) is
pair-on tell e es kept place told (Some k) there is =
    ap (λ (ks : List NoLiftToken). first_pair tell (e ∷ es) (all_no_lifts ks)) (drop-some kept place k there)
    ∙ ap (λ (t : Option By). or_else t (first_pair tell es (all_no_lifts (drop (place + 1) kept)))) is

pub pairs-on : (tell : ℕ × Framed → Why → Option By) (level n : ℕ) (e : Framed) (xs es : List Framed) (kept : List NoLiftToken) (place next : ℕ) (told : Option By) → xs ≡ e ∷ es
    → told ≡ told_below level e (pair_told tell (n, e) (slice_get kept place)) → next ≡ place_after level e place
    → pairs tell level n xs kept place ≡ or_else told (pairs tell level (n + 1) es kept next)
pairs-on tell level n e xs es kept place next told split is goes = ap (λ (ys : List Framed). pairs tell level n ys kept place) split ∙ by (nat_lt e.level level) refl where
  by : (b : Bool) → nat_lt e.level level ≡ b → pairs tell level n (e ∷ es) kept place ≡ or_else told (pairs tell level (n + 1) es kept next)
  by true below =
      let now : told ≡ pair_told tell (n, e) (slice_get kept place) = is ∙ told-is level e (pair_told tell (n, e) (slice_get kept place)) true below in
      let later : next ≡ place + 1 = goes ∙ after-is level e place true below in
      ap (λ (ls : List (ℕ × Framed)). first_pair tell ls (all_no_lifts (drop place kept))) (below-step level n e es true below)
      ∙ pair-on tell (n, e) (below_from level (n + 1) es) kept place told (slice_get kept place) refl (sym now)
      ∙ ap (λ (p : ℕ). or_else told (pairs tell level (n + 1) es kept p)) (sym later)
  by false below =
      let now : told ≡ None = is ∙ told-is level e (pair_told tell (n, e) (slice_get kept place)) false below in
      let later : next ≡ place = goes ∙ after-is level e place false below in
      ap (λ (ls : List (ℕ × Framed)). first_pair tell ls (all_no_lifts (drop place kept))) (below-step level n e es false below)
      ∙ ap (λ (p : ℕ). pairs tell level (n + 1) es kept p) (sym later)
      ∙ ap (λ (t : Option By). or_else t (pairs tell level (n + 1) es kept next)) (sym now)

pub pairs-end : (tell : ℕ × Framed → Why → Option By) (level n : ℕ) (xs : List Framed) (kept : List NoLiftToken) (place : ℕ) → xs ≡ [] → pairs tell level n xs kept place ≡ None
pairs-end tell level n xs kept place none = ap (λ (ys : List Framed). pairs tell level n ys kept place) none

-- the same of rule 42

abbrev placed : Clauses → ℕ → ℕ → List Framed → List NoLiftToken → ℕ → Option By
placed sys level n es kept place = in_places sys (below_from level n es) (all_no_lifts (drop place kept))

kept-on : (sys : Clauses) (e : ℕ × Framed) (es : List (ℕ × Framed)) (kept : List NoLiftToken) (place : ℕ) (told : Option By) (found : Option NoLiftToken) → slice_get kept place ≡ found → kept_told sys e found ≡ told
    → in_places sys (e ∷ es) (all_no_lifts (drop place kept)) ≡ or_else told (in_places sys es (all_no_lifts (drop (place + 1) kept)))
kept-on sys e es kept place told None there is =
    ap (λ (ks : List NoLiftToken). in_places sys (e ∷ es) (all_no_lifts ks)) (drop-none kept place there).0
    ∙ ap (λ (t : Option By). or_else t (in_places sys es (all_no_lifts (drop (place + 1) kept)))) is
kept-on sys e es kept place told (Some k) there is =
    let rest = in_places sys es (all_no_lifts (drop (place + 1) kept)) in
    ap (λ (ks : List NoLiftToken). in_places sys (e ∷ es) (all_no_lifts ks)) (drop-some kept place k there)
    ∙ by (is_no_lift_of sys (e.1).lemma (no_lift_of k))
    ∙ ap (λ (t : Option By). or_else t rest) is where
      by : (b : Bool) → cond {A = Option By} b (in_places sys es (all_no_lifts (drop (place + 1) kept))) (Some (ByLemma e.0)) ≡ or_else (cond {A = Option By} b None (Some (ByLemma e.0))) (in_places sys es (all_no_lifts (drop (place + 1) kept)))
      by true = refl
      by false = refl

pub placed-on : (sys : Clauses) (level n : ℕ) (e : Framed) (xs es : List Framed) (kept : List NoLiftToken) (place next : ℕ) (told : Option By) → xs ≡ e ∷ es
    → told ≡ told_below level e (kept_told sys (n, e) (slice_get kept place)) → next ≡ place_after level e place
    → placed sys level n xs kept place ≡ or_else told (placed sys level (n + 1) es kept next)
placed-on sys level n e xs es kept place next told split is goes = ap (λ (ys : List Framed). placed sys level n ys kept place) split ∙ by (nat_lt e.level level) refl where
  by : (b : Bool) → nat_lt e.level level ≡ b → placed sys level n (e ∷ es) kept place ≡ or_else told (placed sys level (n + 1) es kept next)
  by true below =
      let now : told ≡ kept_told sys (n, e) (slice_get kept place) = is ∙ told-is level e (kept_told sys (n, e) (slice_get kept place)) true below in
      let later : next ≡ place + 1 = goes ∙ after-is level e place true below in
      ap (λ (ls : List (ℕ × Framed)). in_places sys ls (all_no_lifts (drop place kept))) (below-step level n e es true below)
      ∙ kept-on sys (n, e) (below_from level (n + 1) es) kept place told (slice_get kept place) refl (sym now)
      ∙ ap (λ (p : ℕ). or_else told (placed sys level (n + 1) es kept p)) (sym later)
  by false below =
      let now : told ≡ None = is ∙ told-is level e (kept_told sys (n, e) (slice_get kept place)) false below in
      let later : next ≡ place = goes ∙ after-is level e place false below in
      ap (λ (ls : List (ℕ × Framed)). in_places sys ls (all_no_lifts (drop place kept))) (below-step level n e es false below)
      ∙ ap (λ (p : ℕ). placed sys level (n + 1) es kept p) (sym later)
      ∙ ap (λ (t : Option By). or_else t (placed sys level (n + 1) es kept next)) (sym now)

-- none is left over, or one is

pub placed-end : (sys : Clauses) (level n : ℕ) (xs : List Framed) (kept : List NoLiftToken) (place : ℕ) → xs ≡ [] → length kept ≤ place → placed sys level n xs kept place ≡ None
placed-end sys level n xs kept place none past =
    ap (λ (ys : List Framed). placed sys level n ys kept place) none ∙ ap (λ (ks : List NoLift). in_places sys [] ks) (mapped-end no_lift_of kept place past)

left : (sys : Clauses) (kept : List NoLiftToken) (place : ℕ) → place < length kept → in_places sys [] (all_no_lifts (drop place kept)) ≡ Some ByStep
left sys [] place within = absurd (omega arith)
left sys (k ∷ kept) zero within = refl
left sys (k ∷ kept) (suc place) within = left sys kept place (omega arith)

pub placed-left : (sys : Clauses) (level n : ℕ) (xs : List Framed) (kept : List NoLiftToken) (place : ℕ) → xs ≡ [] → place < length kept → placed sys level n xs kept place ≡ Some ByStep
placed-left sys level n xs kept place none within = ap (λ (ys : List Framed). placed sys level n ys kept place) none ∙ left sys kept place within
