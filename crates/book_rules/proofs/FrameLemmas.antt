-- Frames fall as their level rises, and only grow; what is derivable within h is in F(h), so lemmas are good.
use Rattle.std.proofs.Common.{◌≡◌, ℕ, ◌+◌, ◌-◌, ◌<◌, ◌≤◌, zero, suc, List, [], ◌∷◌, ◌++◌, Bool, true, false, ◌&&◌, ◌||◌, Some, None, refl, sym, ◌∙◌, subst, arith}
use Rattle.std.specs.Prelude.{Option, nat_lt, slice_get, slice_set}
use Rattle.std.specs.List.{list_all}
use Rattle.std.proofs.lemmas.Bool.Decides.{nat_tests}
use Rattle.std.proofs.lemmas.List.Folds.{list_all-append}
use mathlib.Core.Bool.{true≢false}
use Rattle.book_rules.specs.Walks.{AllOf}
use Rattle.book_rules.specs.Instances.{Ground, Relation, IsDerivable}
use Rattle.book_rules.specs.Frames.{Lemma, Framed, accepts, in_frame, IsShown, AreRefuted, AreGood}
use Rattle.book_rules.specs.State.{State}
use Rattle.book_rules.specs.Kept.{IsSound}
use Rattle.book_rules.proofs.ListLemmas.{both_true, from_both, still_false, all_weaken, all_at, all_tested, all_of-map}

-- F(k) falls as k rises

at_level : (n j k : ℕ) (b : Bool) → j ≤ k → (nat_lt n j || b) ≡ true → (nat_lt n k || b) ≡ true
at_level n j k true le h = grind arith
at_level n j k false le h = grind (arith, nat_tests)

some_level : (j k : ℕ) → j ≤ k → nat_lt 0 j ≡ true → nat_lt 0 k ≡ true
some_level j k le h = grind (arith, nat_tests)

pub in_frame-level : (es : List Framed) (j k : ℕ) (a : Ground) → j ≤ k → in_frame es j a ≡ true → in_frame es k a ≡ true
in_frame-level es j k a le h =
    let both = both_true (nat_lt 0 j) (list_all (λ (e : Framed). nat_lt e.level j || accepts e.lemma a) es) h in
    from_both (nat_lt 0 k) _ (some_level j k le both.0) (all_weaken (λ (e : Framed). nat_lt e.level j || accepts e.lemma a) (λ (e : Framed). nat_lt e.level k || accepts e.lemma a) (λ e. at_level e.level j k (accepts e.lemma a) le) es both.1)

-- what is in a frame of the new list is in that of the old one
abbrev pub IsStronger : List Framed → List Framed → Type 0
IsStronger es new = (k : ℕ) (a : Ground) → in_frame new k a ≡ true → in_frame es k a ≡ true

pub stronger-push : (es : List Framed) (e : Framed) → IsStronger es (es ++ e ∷ [])
stronger-push es e k a h =
    let test : Framed → Bool = λ e'. nat_lt e'.level k || accepts e'.lemma a in
    let both = both_true (nat_lt 0 k) (list_all test (es ++ e ∷ [])) h in
    from_both (nat_lt 0 k) _ both.0 (both_true (list_all test es) _ (sym (list_all-append test es (e ∷ [])) ∙ both.1)).0

-- the same lemma at a level that is one more
abbrev pub above : Framed → Framed
above e = record { lemma = e.lemma; level = e.level + 1 }

one_lower : (n k : ℕ) (b : Bool) → (nat_lt (n + 1) k || b) ≡ true → (nat_lt n k || b) ≡ true
one_lower n k true h = grind arith
one_lower n k false h = grind (arith, nat_tests)

lifted_passes : (k : ℕ) (a : Ground) (es : List Framed) (i : ℕ) (e : Framed) → slice_get es i ≡ Some e
    → list_all (λ (e : Framed). nat_lt e.level k || accepts e.lemma a) (slice_set es i (above e)) ≡ true → list_all (λ (e : Framed). nat_lt e.level k || accepts e.lemma a) es ≡ true
lifted_passes k a [] i e is h = refl
lifted_passes k a (x ∷ es) zero e is h =
    let same : e ≡ x = cc in
    let both = both_true (nat_lt (e.level + 1) k || accepts e.lemma a) _ h in
    from_both (nat_lt x.level k || accepts x.lemma a) _ (subst (λ (y : Framed). (nat_lt y.level k || accepts y.lemma a) ≡ true) same (one_lower e.level k (accepts e.lemma a) both.0)) both.1
lifted_passes k a (x ∷ es) (suc i) e is h =
    let both = both_true (nat_lt x.level k || accepts x.lemma a) _ h in
    from_both (nat_lt x.level k || accepts x.lemma a) _ both.0 (lifted_passes k a es i e is both.1)

pub stronger-lift : (es : List Framed) (i : ℕ) (e : Framed) → slice_get es i ≡ Some e → IsStronger es (slice_set es i (above e))
stronger-lift es i e is k a h =
    let both = both_true (nat_lt 0 k) _ h in
    from_both (nat_lt 0 k) _ both.0 (lifted_passes k a es i e is both.1)

-- what was shown stays shown

pub shown-stronger : (I : Relation) (es new : List Framed) → IsStronger es new → (k : ℕ) (lemma : Lemma) → IsShown I es k lemma → IsShown I new k lemma
shown-stronger I es new stronger k lemma shown c body a i h own = shown c body a i (all_weaken (in_frame new k) (in_frame es k) (stronger k) body h) own

pub refuted-stronger : (I : Relation) (es new : List Framed) → IsStronger es new → (k : ℕ) → AreRefuted I es k → AreRefuted I new k
refuted-stronger I es new stronger k refuted c body i = still_false (list_all (in_frame es k) body) (list_all (in_frame new k) body) (all_weaken (in_frame new k) (in_frame es k) (stronger k) body) (refuted c body i)

pub all_shown-stronger : (I : Relation) (es new : List Framed) → IsStronger es new → (xs : List Framed) → AllOf (λ (e : Framed). IsShown I es (e.level - 1) e.lemma) xs → AllOf (λ (e : Framed). IsShown I new (e.level - 1) e.lemma) xs
all_shown-stronger I es new stronger xs = all_of-map (λ (e : Framed). IsShown I es (e.level - 1) e.lemma) (λ (e : Framed). IsShown I new (e.level - 1) e.lemma) (λ e. shown-stronger I es new stronger (e.level - 1) e.lemma) xs

pub derivable-higher : (I : Relation) (h k : ℕ) → h ≤ k → (head : Option Ground) → IsDerivable I h head → IsDerivable I k head
derivable-higher I zero k le head d = absurd d
derivable-higher I (suc h) zero le head d = absurd (omega arith)
derivable-higher I (suc h) (suc k) le head (c, body, i, parts) =
    let less : h ≤ k = omega arith in
    (c, body, i, all_of-map (λ a. IsDerivable I h (Some a)) (λ a. IsDerivable I k (Some a)) (λ a. derivable-higher I h k less (Some a)) body parts)

-- induction on the height

pub accepts_else : (n h : ℕ) (b : Bool) → h ≤ n → (nat_lt n h || b) ≡ true → b ≡ true
accepts_else n h true le t = refl
accepts_else n h false le t = grind (arith, nat_tests)

-- one lemma: through an instance whose body is in F(h)
one_more : (I : Relation) (es : List Framed) (h c : ℕ) (body : List Ground) (a : Ground) → I c body (Some a) → list_all (in_frame es h) body ≡ true
    → (e : Framed) → IsShown I es (e.level - 1) e.lemma → list_all (λ x. nat_lt e.level h || accepts e.lemma x) body ≡ true
    → (b : Bool) → nat_lt e.level (suc h) ≡ b → (b || accepts e.lemma a) ≡ true
one_more I es h c body a i inside e shown own true is = refl
one_more I es h c body a i inside e shown own false is =
    let below : h ≤ e.level - 1 = grind (arith, nat_tests) in
    let at : h ≤ e.level = omega arith in
    shown c body a i
    (all_weaken (in_frame es h) (in_frame es (e.level - 1)) (λ x. in_frame-level es h (e.level - 1) x below) body inside)
    (all_weaken (λ x. nat_lt e.level h || accepts e.lemma x) (accepts e.lemma) (λ x. accepts_else e.level h (accepts e.lemma x) at) body own)

all_more : (I : Relation) (es : List Framed) (h c : ℕ) (body : List Ground) (a : Ground) → I c body (Some a) → list_all (in_frame es h) body ≡ true
    → (xs : List Framed) → AllOf (λ (e : Framed). IsShown I es (e.level - 1) e.lemma) xs → list_all (λ x. list_all (λ (e : Framed). nat_lt e.level h || accepts e.lemma x) xs) body ≡ true
    → list_all (λ (e : Framed). nat_lt e.level (suc h) || accepts e.lemma a) xs ≡ true
all_more I es h c body a i inside [] shown own = refl
all_more I es h c body a i inside (e ∷ xs) shown own =
    let first : Ground → Bool = λ x. nat_lt e.level h || accepts e.lemma x in
    let others : Ground → Bool = λ x. list_all (λ (e : Framed). nat_lt e.level h || accepts e.lemma x) xs in
    let each : Ground → Bool = λ x. first x && others x in
    from_both (nat_lt e.level (suc h) || accepts e.lemma a) _
    (one_more I es h c body a i inside e shown.0 (all_weaken each first (λ x t. (both_true (first x) (others x) t).0) body own) (nat_lt e.level (suc h)) refl)
    (all_more I es h c body a i inside xs shown.1 (all_weaken each others (λ x t. (both_true (first x) (others x) t).1) body own))

pub some_suc : (h : ℕ) → nat_lt 0 (suc h) ≡ true
some_suc h = grind (arith, nat_tests)

-- what is derivable within h is in F(h)
pub derivable_in_frame : (I : Relation) (es : List Framed) → AllOf (λ (e : Framed). IsShown I es (e.level - 1) e.lemma) es → (h : ℕ) (a : Ground) → IsDerivable I h (Some a) → in_frame es h a ≡ true
derivable_in_frame I es shown zero a d = absurd d
derivable_in_frame I es shown (suc h) a (c, body, i, parts) =
    let inside : list_all (in_frame es h) body ≡ true = all_tested (λ x. IsDerivable I h (Some x)) (in_frame es h) (derivable_in_frame I es shown h) body parts in
    from_both (nat_lt 0 (suc h)) _ (some_suc h) (all_more I es h c body a i inside es shown
    (all_weaken (in_frame es h) (λ x. list_all (λ (e : Framed). nat_lt e.level h || accepts e.lemma x) es) (λ x t. (both_true (nat_lt 0 h) _ t).1) body inside))

pub good : (I : Relation) (s : State) → IsSound I s → AreGood I s.lemmas
good I s sound i e is a d =
    let inside = derivable_in_frame I s.lemmas sound.shown e.level a d in
    let all = (both_true (nat_lt 0 e.level) _ inside).1 in
    let never : e.level ≤ e.level = omega arith in
    accepts_else e.level e.level (accepts e.lemma a) never (all_at (λ (x : Framed). nat_lt x.level e.level || accepts x.lemma a) s.lemmas i e is all)

pub no_false : (I : Relation) (s : State) → IsSound I s → (h : ℕ) → h ≤ s.level → IsDerivable I h None → ⊥
no_false I s sound zero le d = absurd d
no_false I s sound (suc h) le (c, body, i, parts) =
    let inside : list_all (in_frame s.lemmas h) body ≡ true = all_tested (λ x. IsDerivable I h (Some x)) (in_frame s.lemmas h) (derivable_in_frame I s.lemmas sound.shown h) body parts in
    let some : 0 < s.level = omega arith in
    let below : h ≤ s.level - 1 = omega arith in
    true≢false (sym (all_weaken (in_frame s.lemmas h) (in_frame s.lemmas (s.level - 1)) (λ x. in_frame-level s.lemmas h (s.level - 1) x below) body inside) ∙ sound.refuted some c body i)
