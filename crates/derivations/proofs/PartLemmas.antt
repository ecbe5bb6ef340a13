-- What stands in a part, and what comes into it.
use Rattle.std.proofs.Common.{◌≡◌, ℕ, zero, suc, ◌+◌, ◌<◌, Bool, true, false, cond, List, [], ◌∷◌, ◌++◌, length, get_or, take, Some, None, true≢false, refl, ap, ap₂, sym, subst, ◌∙◌, arith, inl, inr, if◌then◌else◌}
use Rattle.std.specs.Prelude.{ℤ, ◌⊎◌}
use Rattle.std.specs.List.{Contains, fold}
use Rattle.std.specs.Map.{lookup}
use Rattle.std.specs.Ordering.{int_eq}
use Rattle.std.specs.Cmp.Lexicographic.{pointwise}
use Rattle.std.specs.Cmp.Rules.{signed_items}
use Rattle.std.proofs.lemmas.List.{take_more}
use Rattle.std.proofs.lemmas.List.Sums.{fold_push}
use Rattle.indexmap.specs.IndexMap.{insert_all, insert_entry}

abbrev Entry : Type 0
Entry = List ℤ × ℕ

-- a list with one item before it
cons_cases : (e : Entry) (es : List Entry) (x : Entry) → Contains (e ∷ es) x → (e ≡ x) ⊎ Contains es x
cons_cases e es x (zero, l, is) = inl is
cons_cases e es x (suc k, l, is) = inr (k, omega arith, is)

cons_here : (e : Entry) (es : List Entry) (x : Entry) → e ≡ x → Contains (e ∷ es) x
cons_here e es x is = (0, omega arith, is)

cons_there : (e : Entry) (es : List Entry) (x : Entry) → Contains es x → Contains (e ∷ es) x
cons_there e es x (k, l, is) = (suc k, omega arith, is)

pair_is : (a b : List ℤ) (m n : ℕ) → a ≡ b → m ≡ n → ◌≡◌ {A = Entry} (a, m) (b, n)
pair_is a b m n p q = ap₂ (λ (x : List ℤ) (y : ℕ). (x, y)) p q

some_is : (m n : ℕ) → Some m ≡ Some n → m ≡ n
some_is m n e = cc

-- what a look-up finds
pub held_some : (t : List ℤ) (es : List Entry) (n : ℕ) → lookup (pointwise int_eq t) es ≡ Some n → Contains es (t, n)
held_some t [] n is = absurd (cc)
held_some t (e ∷ es) n is = by (pointwise int_eq t e.0) refl (held_some t es n) where
  by : (b : Bool) → pointwise int_eq t e.0 ≡ b → (lookup (pointwise int_eq t) es ≡ Some n → Contains es (t, n)) → Contains (e ∷ es) (t, n)
  by true p later =
      let value : Some e.1 ≡ Some n = sym (ap (λ c. cond c (Some e.1) (lookup (pointwise int_eq t) es)) p) ∙ is in
      cons_here e es (t, n) (pair_is e.0 t e.1 n (sym ((signed_items t e.0).0 p)) (some_is e.1 n value))
  by false p later = cons_there e es (t, n) (later (sym (ap (λ c. cond c (Some e.1) (lookup (pointwise int_eq t) es)) p) ∙ is))

pub held_none : (t : List ℤ) (es : List Entry) (n : ℕ) → lookup (pointwise int_eq t) es ≡ None → Contains es (t, n) → ⊥
held_none t [] n is (k, l, at) = absurd (omega arith)
held_none t (e ∷ es) n is has = by (pointwise int_eq t e.0) refl (held_none t es n) (cons_cases e es (t, n) has) where
  by : (b : Bool) → pointwise int_eq t e.0 ≡ b → (lookup (pointwise int_eq t) es ≡ None → Contains es (t, n) → ⊥) → (◌≡◌ {A = Entry} e (t, n)) ⊎ Contains es (t, n) → ⊥
  by true p later h = (let value : Some e.1 ≡ None = sym (ap (λ c. cond c (Some e.1) (lookup (pointwise int_eq t) es)) p) ∙ is in absurd (cc))
  by false p later (inl here) = true≢false (sym ((signed_items t e.0).1 (sym (ap (λ x. x.0) here))) ∙ p)
  by false p later (inr there) = later (sym (ap (λ c. cond c (Some e.1) (lookup (pointwise int_eq t) es)) p) ∙ is) there

-- where no tuple has two numbers, one more entry takes no other's place
module _ (S : List ℤ → ℕ → Type 0) (single : (t : List ℤ) (m n : ℕ) → S t m → S t n → m ≡ n) where
  abbrev pub AreOfAll : List Entry → Type 0
  AreOfAll es = (t : List ℤ) (n : ℕ) → Contains es (t, n) → S t n

  abbrev put : List Entry → List ℤ → ℕ → List Entry
  put = insert_entry (pointwise int_eq)

  -- it is there already, or comes behind
  same_list : (e : Entry) (es : List Entry) (k : List ℤ) (v : ℕ) → AreOfAll (e ∷ es) → S k v → pointwise int_eq k e.0 ≡ true → put (e ∷ es) k v ≡ e ∷ es
  same_list e es k v all mine p =
      let key : k ≡ e.0 = (signed_items k e.0).0 p in
      let value : v ≡ e.1 = single k v e.1 mine (all k e.1 (cons_here e es (k, e.1) (pair_is e.0 k e.1 e.1 (sym key) refl))) in
      ap (λ b. if b then (e.0, v) ∷ es else e ∷ put es k v) p ∙ ap (λ x. (e.0, x) ∷ es) value

  later_list : (e : Entry) (es : List Entry) (k : List ℤ) (v : ℕ) → pointwise int_eq k e.0 ≡ false → put (e ∷ es) k v ≡ e ∷ put es k v
  later_list e es k v p = ap (λ b. if b then (e.0, v) ∷ es else e ∷ put es k v) p

  rest_of : (e : Entry) (es : List Entry) → AreOfAll (e ∷ es) → AreOfAll es
  rest_of e es all t n has = all t n (cons_there e es (t, n) has)

  put_kept : (es : List Entry) (k : List ℤ) (v : ℕ) → AreOfAll es → S k v → (x : Entry) → Contains es x → Contains (put es k v) x
  put_kept [] k v all mine x (i, l, is) = absurd (omega arith)
  put_kept (e ∷ es) k v all mine x has = by (pointwise int_eq k e.0) refl (put_kept es k v (rest_of e es all) mine x) (cons_cases e es x has) where
    by : (b : Bool) → pointwise int_eq k e.0 ≡ b → (Contains es x → Contains (put es k v) x) → (e ≡ x) ⊎ Contains es x → Contains (put (e ∷ es) k v) x
    by true p later h = subst (λ l. Contains l x) (sym (same_list e es k v all mine p)) has
    by false p later (inl here) = subst (λ l. Contains l x) (sym (later_list e es k v p)) (cons_here e (put es k v) x here)
    by false p later (inr there) = subst (λ l. Contains l x) (sym (later_list e es k v p)) (cons_there e (put es k v) x (later there))

  put_new : (es : List Entry) (k : List ℤ) (v : ℕ) → AreOfAll es → S k v → Contains (put es k v) (k, v)
  put_new [] k v all mine = (0, omega arith, refl)
  put_new (e ∷ es) k v all mine = by (pointwise int_eq k e.0) refl (put_new es k v (rest_of e es all) mine) where
    by : (b : Bool) → pointwise int_eq k e.0 ≡ b → Contains (put es k v) (k, v) → Contains (put (e ∷ es) k v) (k, v)
    by true p later =
        let key : k ≡ e.0 = (signed_items k e.0).0 p in
        let value : v ≡ e.1 = single k v e.1 mine (all k e.1 (cons_here e es (k, e.1) (pair_is e.0 k e.1 e.1 (sym key) refl))) in
        subst (λ l. Contains l (k, v)) (sym (same_list e es k v all mine p)) (cons_here e es (k, v) (pair_is e.0 k e.1 v (sym key) (sym value)))
    by false p later = subst (λ l. Contains l (k, v)) (sym (later_list e es k v p)) (cons_there e (put es k v) (k, v) later)

  put_cases : (es : List Entry) (k : List ℤ) (v : ℕ) → AreOfAll es → S k v → (x : Entry) → Contains (put es k v) x → Contains es x ⊎ (◌≡◌ {A = Entry} (k, v) x)
  put_cases [] k v all mine x (zero, l, is) = inr is
  put_cases [] k v all mine x (suc i, l, is) = absurd (omega arith)
  put_cases (e ∷ es) k v all mine x has = by (pointwise int_eq k e.0) refl (put_cases es k v (rest_of e es all) mine x) where
    last : Contains es x ⊎ (◌≡◌ {A = Entry} (k, v) x) → Contains (e ∷ es) x ⊎ (◌≡◌ {A = Entry} (k, v) x)
    last (inl old) = inl (cons_there e es x old)
    last (inr new) = inr new

    after : (Contains (put es k v) x → Contains es x ⊎ (◌≡◌ {A = Entry} (k, v) x)) → (e ≡ x) ⊎ Contains (put es k v) x → Contains (e ∷ es) x ⊎ (◌≡◌ {A = Entry} (k, v) x)
    after later (inl here) = inl (cons_here e es x here)
    after later (inr there) = last (later there)

    by : (b : Bool) → pointwise int_eq k e.0 ≡ b → (Contains (put es k v) x → Contains es x ⊎ (◌≡◌ {A = Entry} (k, v) x)) → Contains (e ∷ es) x ⊎ (◌≡◌ {A = Entry} (k, v) x)
    by true p later = inl (subst (λ l. Contains l x) (same_list e es k v all mine p) has)
    by false p later = after later (cons_cases e (put es k v) x (subst (λ l. Contains l x) (later_list e es k v p) has))

  put_all : (es : List Entry) (k : List ℤ) (v : ℕ) → AreOfAll es → S k v → AreOfAll (put es k v)
  put_all es k v all mine t n has = by (put_cases es k v all mine (t, n) has) where
    by : Contains es (t, n) ⊎ (◌≡◌ {A = Entry} (k, v) (t, n)) → S t n
    by (inl old) = all t n old
    by (inr new) = subst (λ x. S x.0 x.1) new mine

  -- all of another list
  abbrev poured : List Entry → List Entry → List Entry
  poured = insert_all (pointwise int_eq)

  pub poured_all : (es xs : List Entry) → AreOfAll es → AreOfAll xs → AreOfAll (poured es xs)
  poured_all es [] all more = all
  poured_all es (x ∷ xs) all more =
      let mine : S x.0 x.1 = more x.0 x.1 (cons_here x xs (x.0, x.1) refl) in
      poured_all (put es x.0 x.1) xs (put_all es x.0 x.1 all mine) (rest_of x xs more)

  pub poured_kept : (es xs : List Entry) → AreOfAll es → AreOfAll xs → (y : Entry) → Contains es y → Contains (poured es xs) y
  poured_kept es [] all more y has = has
  poured_kept es (x ∷ xs) all more y has =
      let mine : S x.0 x.1 = more x.0 x.1 (cons_here x xs (x.0, x.1) refl) in
      poured_kept (put es x.0 x.1) xs (put_all es x.0 x.1 all mine) (rest_of x xs more) y (put_kept es x.0 x.1 all mine y has)

  pub poured_has : (es xs : List Entry) → AreOfAll es → AreOfAll xs → (y : Entry) → Contains xs y → Contains (poured es xs) y
  poured_has es [] all more y (i, l, is) = absurd (omega arith)
  poured_has es (x ∷ xs) all more y has = by (poured_has (put es x.0 x.1) xs (put_all es x.0 x.1 all mine) (rest_of x xs more) y) (cons_cases x xs y has) where
    mine : S x.0 x.1
    mine = more x.0 x.1 (cons_here x xs (x.0, x.1) refl)

    by : (Contains xs y → Contains (poured (put es x.0 x.1) xs) y) → (x ≡ y) ⊎ Contains xs y → Contains (poured (put es x.0 x.1) xs) y
    by later (inl here) = poured_kept (put es x.0 x.1) xs (put_all es x.0 x.1 all mine) (rest_of x xs more) y (subst (λ z. Contains (put es x.0 x.1) z) here (put_new es x.0 x.1 all mine))
    by later (inr there) = later there

  -- all of several lists
  pub joined_all : (es : List Entry) (parts : List (List Entry)) → AreOfAll es → ((i : ℕ) → i < length parts → AreOfAll (get_or parts i [])) → AreOfAll (fold poured es parts)
  joined_all es [] all more = all
  joined_all es (p ∷ ps) all more = joined_all (poured es p) ps (poured_all es p all (more 0 (omega arith))) (λ i l. more (suc i) (omega arith))

  pub joined_kept : (es : List Entry) (parts : List (List Entry)) → AreOfAll es → ((i : ℕ) → i < length parts → AreOfAll (get_or parts i [])) → (y : Entry) → Contains es y → Contains (fold poured es parts) y
  joined_kept es [] all more y has = has
  joined_kept es (p ∷ ps) all more y has = joined_kept (poured es p) ps (poured_all es p all (more 0 (omega arith))) (λ i l. more (suc i) (omega arith)) y (poured_kept es p all (more 0 (omega arith)) y has)

  pub joined_has : (es : List Entry) (parts : List (List Entry)) → AreOfAll es → ((i : ℕ) → i < length parts → AreOfAll (get_or parts i [])) → (y : Entry) (i : ℕ) → i < length parts → Contains (get_or parts i []) y → Contains (fold poured es parts) y
  joined_has es [] all more y i l has = absurd (omega arith)
  joined_has es (p ∷ ps) all more y zero l has = joined_kept (poured es p) ps (poured_all es p all (more 0 (omega arith))) (λ i l. more (suc i) (omega arith)) y (poured_has es p all (more 0 (omega arith)) y has)
  joined_has es (p ∷ ps) all more y (suc i) l has = joined_has (poured es p) ps (poured_all es p all (more 0 (omega arith))) (λ j m. more (suc j) (omega arith)) y i (omega arith) has

-- one step of a pour
pub poured_more : (es xs : List Entry) (i : ℕ) (x : Entry) → i < length xs → x ≡ get_or xs i x → insert_entry (pointwise int_eq) (insert_all (pointwise int_eq) es (take i xs)) x.0 x.1 ≡ insert_all (pointwise int_eq) es (take (i + 1) xs)
poured_more es xs i x l is =
    sym (ap (insert_all (pointwise int_eq) es) (take_more xs i x l ∙ ap (λ y. take i xs ++ y ∷ []) (sym is)) ∙ fold_push (λ done p. insert_entry (pointwise int_eq) done p.0 p.1) es (take i xs) x)
