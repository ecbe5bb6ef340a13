-- Cubes over the first places of variables.
use Rattle.std.proofs.Common.{◌≡◌, ℕ, zero, suc, ◌+◌, ◌<◌, ◌≤◌, List, [], ◌∷◌, ◌++◌, length, drop, take, get_or, map, Bool, true, false, ◌&&◌, ◌||◌, cond, refl, ap, ap₂, sym, ◌∙◌, arith, inl, inr}
use Rattle.std.specs.Prelude.{ℤ, nat_abs, nat_le, ◌==◌, ◌⊎◌}
use Rattle.std.specs.List.{list_all, list_any, range_with_len}
use Rattle.std.proofs.lemmas.List.{map-append, map_more}
use Rattle.std.proofs.lemmas.Bool.{cases_lt}
use Rattle.std.proofs.lemmas.Bool.Decides.{nat_tests}
use mathlib.Core.Bool.{true≢false}
use Rattle.base.specs.Widths.{is_long, is_short}
use Rattle.lin_atoms.specs.Algebra.{collected, name_in, renamed}
use Rattle.lin_atoms.specs.Denial.{linear_of, lit_fits}
use Rattle.lin_atoms.specs.Linear.{Linear, are_short, fits}
use Rattle.lin_atoms.specs.declared.lit.Lit.{Lit}
use Rattle.lin_atoms.specs.declared.lit.Lit.TheVariants.{Le, Eq, Div, NDiv}
use Rattle.cube_forms.specs.Cubes.{lit_at}
use Rattle.book_rules.specs.Areas.{first_place, is_wide, lit_in_places, place_from}
use Rattle.cube_rules.specs.machinery.Literals.{is_wide_term}
use Rattle.cube_rules.proofs.TestLemmas.{both_true, from_both, plus-none, plus-one}

-- a table of first places

get-in : (f : ℕ → ℕ) (k n v d : ℕ) → v < n → get_or (map f (range_with_len k n)) v d ≡ f (k + v)
get-in f k zero v d less = absurd (omega arith)
get-in f k (suc n) zero d less = ap f (plus-none k)
get-in f k (suc n) (suc v) d less = get-in f (k + 1) n v d (omega arith) ∙ ap f (let shift : k + 1 + v ≡ k + suc v = omega arith in shift)

get-past : (f : ℕ → ℕ) (k n v d : ℕ) → n ≤ v → get_or (map f (range_with_len k n)) v d ≡ d
get-past f k zero v d past = refl
get-past f k (suc n) zero d past = absurd (omega arith)
get-past f k (suc n) (suc v) d past = get-past f (k + 1) n v d (omega arith)

both_false : (a b : Bool) → (a || b) ≡ false → (a ≡ false) × (b ≡ false)
both_false true b h = absurd (true≢false h)
both_false false b h = (refl, h)

other : (arg v bound : ℕ) → nat_le bound arg ≡ false → bound ≤ v → (arg == v) ≡ false
other arg v bound low high = grind (arith, nat_tests)

absent-place : (k : ℕ) (args : List ℕ) (bound v : ℕ) → list_any (λ a. nat_le bound a) args ≡ false → bound ≤ v → place_from k args v ≡ v
absent-place k [] bound v none high = refl
absent-place k (arg ∷ args) bound v none high =
    let both = both_false (nat_le bound arg) (list_any (λ a. nat_le bound a) args) none in
    ap (λ b. cond {A = ℕ} b k (place_from (k + 1) args v)) (other arg v bound both.0 high) ∙ absent-place (k + 1) args bound v both.1 high

pub names-are : (args names : List ℕ) (bound : ℕ) → names ≡ map (first_place args) (range_with_len 0 bound) → list_any (λ a. nat_le bound a) args ≡ false → (v : ℕ) → name_in names v ≡ first_place args v
names-are args names bound is none v = by (cases_lt v bound) where
  by : (v < bound) ⊎ (bound ≤ v) → name_in names v ≡ first_place args v
  by (inl less) = ap (λ (ns : List ℕ). get_or ns v v) is ∙ get-in (first_place args) 0 bound v v less ∙ ap (first_place args) (let same : 0 + v ≡ v = omega arith in same)
  by (inr past) = ap (λ (ns : List ℕ). get_or ns v v) is ∙ get-past (first_place args) 0 bound v v past ∙ sym (absent-place 0 args bound v none past)

range-from : (k n : ℕ) → range_with_len k (suc n) ≡ range_with_len k n ++ (k + n) ∷ []
range-from k zero = ap (λ (m : ℕ). m ∷ []) (plus-none k)
range-from k (suc n) =
    let shift : k + 1 + n ≡ k + suc n = omega arith in
    ap (λ (ns : List ℕ). k ∷ ns) (range-from (k + 1) n ∙ ap (λ (m : ℕ). range_with_len (k + 1) n ++ m ∷ []) shift)

pub names-more : (args names new : List ℕ) (v place : ℕ) → new ≡ names ++ place ∷ [] → place ≡ first_place args v → names ≡ map (first_place args) (range_with_len 0 v) → new ≡ map (first_place args) (range_with_len 0 (v + 1))
names-more args names new v place made is was =
    let same : 0 + v ≡ v = omega arith in
    let longer : range_with_len 0 (v + 1) ≡ range_with_len 0 v ++ v ∷ [] = ap (range_with_len 0) (plus-one v) ∙ range-from 0 v ∙ ap (λ (m : ℕ). range_with_len 0 v ++ m ∷ []) same in
    made
    ∙ ap₂ (λ (ns : List ℕ) (m : ℕ). ns ++ m ∷ []) was is
    ∙ sym (map-append (first_place args) (range_with_len 0 v) (v ∷ []))
    ∙ sym (ap (map (first_place args)) longer)

-- renaming by it

renamed-terms : (f g : ℕ → ℕ) → ((v : ℕ) → f v ≡ g v) → (ts : List (ℕ × ℤ)) → map {B = ℕ × ℤ} (λ (t : ℕ × ℤ). (f t.0, t.1)) ts ≡ map {B = ℕ × ℤ} (λ (t : ℕ × ℤ). (g t.0, t.1)) ts
renamed-terms f g same [] = refl
renamed-terms f g same (t ∷ ts) = ap₂ (λ (v : ℕ) (rest : List (ℕ × ℤ)). (v, t.1) ∷ rest) (same t.0) (renamed-terms f g same ts)

renamed-same : (f g : ℕ → ℕ) → ((v : ℕ) → f v ≡ g v) → (lin : Linear) → renamed f lin ≡ renamed g lin
renamed-same f g same lin = ap (λ (ts : List (ℕ × ℤ)). record { terms = collected ts; constant = lin.constant }) (renamed-terms f g same lin.terms)

pub lit-same : (args names : List ℕ) → ((v : ℕ) → name_in names v ≡ first_place args v) → (lit : Lit) → lit_at names lit ≡ lit_in_places args lit
lit-same args names same (Le lin) = ap Le (renamed-same (name_in names) (first_place args) same lin)
lit-same args names same (Eq lin) = ap Eq (renamed-same (name_in names) (first_place args) same lin)
lit-same args names same (Div d lin) = ap (λ (l : Linear). Div d l) (renamed-same (name_in names) (first_place args) same lin)
lit-same args names same (NDiv d lin) = ap (λ (l : Linear). NDiv d l) (renamed-same (name_in names) (first_place args) same lin)

-- what has no room is wide

wide-term : (t : ℕ × ℤ) → is_short t.1 ≡ false → is_wide_term t ≡ true
wide-term t wide = grind (arith, nat_tests)

one-wide : (b c : Bool) → b ≡ true → (b || c) ≡ true
one-wide true c h = refl
one-wide false c h = absurd (cc)

or-wide : (b c : Bool) → c ≡ true → (b || c) ≡ true
or-wide true c h = refl
or-wide false c h = h

wide-terms : (ts : List (ℕ × ℤ)) → are_short ts ≡ false → list_any is_wide_term ts ≡ true
wide-terms [] wide = absurd (true≢false wide)
wide-terms (t ∷ ts) wide = by (is_short t.1) refl (wide-terms ts) where
  by : (b : Bool) → is_short t.1 ≡ b → (are_short ts ≡ false → list_any is_wide_term ts ≡ true) → list_any is_wide_term (t ∷ ts) ≡ true
  by true is rest = or-wide (is_wide_term t) (list_any is_wide_term ts) (rest (sym (ap (λ b. b && are_short ts) is) ∙ wide))
  by false is rest = one-wide (is_wide_term t) (list_any is_wide_term ts) (wide-term t is)

wide-lin : (f : ℕ → ℕ) (lin : Linear) → fits lin ≡ true → fits (renamed f lin) ≡ false → list_any is_wide_term (renamed f lin).terms ≡ true
wide-lin f lin room wide = wide-terms (renamed f lin).terms (by (are_short (renamed f lin).terms) refl) where
  by : (b : Bool) → are_short (renamed f lin).terms ≡ b → are_short (renamed f lin).terms ≡ false
  by false is = is
  by true is = absurd (true≢false (sym (from_both (are_short (renamed f lin).terms) (is_long lin.constant) is (both_true (are_short lin.terms) (is_long lin.constant) room).1) ∙ wide))

pub wide-lit : (args : List ℕ) (lit : Lit) → lit_fits lit ≡ true → lit_fits (lit_in_places args lit) ≡ false → list_any is_wide_term (linear_of (lit_in_places args lit)).terms ≡ true
wide-lit args (Le lin) room wide = wide-lin (first_place args) lin room wide
wide-lit args (Eq lin) room wide = wide-lin (first_place args) lin room wide
wide-lit args (Div d lin) room wide = wide-lin (first_place args) lin room wide
wide-lit args (NDiv d lin) room wide = wide-lin (first_place args) lin room wide

-- of one literal of a cube

pub wide-cube : (args : List ℕ) (cube : List Lit) (i : ℕ) (lit : Lit) → i < length cube → lit ≡ get_or cube i lit → list_any is_wide_term (linear_of (lit_in_places args lit)).terms ≡ true → is_wide (map (lit_in_places args) cube) ≡ true
wide-cube args [] i lit within is wide = absurd (omega arith)
wide-cube args (x ∷ cube) zero lit within is wide = one-wide (list_any is_wide_term (linear_of (lit_in_places args x)).terms) _ (sym (ap (λ (l : Lit). list_any is_wide_term (linear_of (lit_in_places args l)).terms) is) ∙ wide)
wide-cube args (x ∷ cube) (suc i) lit within is wide = or-wide (list_any is_wide_term (linear_of (lit_in_places args x)).terms) _ (wide-cube args cube i lit (omega arith) is wide)

one-fails : (b c : Bool) → b ≡ false → (b && c) ≡ false
one-fails true c h = absurd (true≢false h)
one-fails false c h = refl

rest-fails : (b c : Bool) → c ≡ false → (b && c) ≡ false
rest-fails true c h = h
rest-fails false c h = refl

pub apart-cube : (args : List ℕ) (cube : List Lit) (i : ℕ) (lit : Lit) → i < length cube → lit ≡ get_or cube i lit → lit_fits (lit_in_places args lit) ≡ false → list_all lit_fits (map (lit_in_places args) cube) ≡ false
apart-cube args [] i lit within is wide = absurd (omega arith)
apart-cube args (x ∷ cube) zero lit within is wide = one-fails (lit_fits (lit_in_places args x)) _ (sym (ap (λ (l : Lit). lit_fits (lit_in_places args l)) is) ∙ wide)
apart-cube args (x ∷ cube) (suc i) lit within is wide = rest-fails (lit_fits (lit_in_places args x)) _ (apart-cube args cube i lit (omega arith) is wide)

-- with more literals behind it

or-more : (b c d : Bool) → (c ≡ true → d ≡ true) → (b || c) ≡ true → (b || d) ≡ true
or-more true c d more h = refl
or-more false c d more h = more h

and-more : (b c d : Bool) → (c ≡ false → d ≡ false) → (b && c) ≡ false → (b && d) ≡ false
and-more true c d more h = more h
and-more false c d more h = refl

pub wide-more : (xs ys : List Lit) → is_wide xs ≡ true → is_wide (xs ++ ys) ≡ true
wide-more [] ys h = absurd (true≢false (sym h))
wide-more (x ∷ xs) ys h = or-more (list_any is_wide_term (linear_of x).terms) (is_wide xs) (is_wide (xs ++ ys)) (wide-more xs ys) h

pub apart-more : (xs ys : List Lit) → list_all lit_fits xs ≡ false → list_all lit_fits (xs ++ ys) ≡ false
apart-more [] ys h = absurd (true≢false h)
apart-more (x ∷ xs) ys h = and-more (lit_fits x) (list_all lit_fits xs) (list_all lit_fits (xs ++ ys)) (apart-more xs ys) h

-- one more literal
pub placed-more : (args : List ℕ) (cube : List Lit) (i : ℕ) (lit made : Lit) (before new : List Lit) → i < length cube → lit ≡ get_or cube i lit → made ≡ lit_in_places args lit
    → before ≡ map (lit_in_places args) (take i cube) → new ≡ before ++ made ∷ [] → new ≡ map (lit_in_places args) (take (i + 1) cube)
placed-more args cube i lit made before new less is placed sofar more =
    more ∙ ap₂ (λ (xs : List Lit) (x : Lit). xs ++ x ∷ []) sofar (placed ∙ ap (lit_in_places args) is) ∙ sym (map_more (lit_in_places args) cube i lit less)
