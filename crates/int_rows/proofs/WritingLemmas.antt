-- Rows that are written entry by entry.
use Rattle.std.proofs.Common.{◌≡◌, ℕ, List, [], ◌∷◌, refl, ap, sym, ◌∙◌, arith, ◌<◌, ◌≤◌, ◌+◌, ◌-◌, true, false, Bool, cond, ◌==◌, length, get_or, map, replicate, set, take, drop, ◌++◌, ⊎_elim, ◌&&◌}
use Rattle.std.specs.Prelude.{ℤ, pos, neg_ℤ, nat_lt}
use Rattle.std.specs.List.{list_all, range_with_len}
use Rattle.std.proofs.lemmas.Bool.{cases_eq, eq-eqb, lt-ltb, ltb-true, ne_eqb}
use Rattle.std.proofs.lemmas.List.{at_drop_all, at_drop_more, ext_get_or, get_or-replicate, get_or-set_other, get_or-set_same, length-replicate, length-set}
use Rattle.std.proofs.lemmas.List.FromFn.{get_or-map-range_with_len, length-map-range_with_len}
use Rattle.lin_atoms.specs.Linear.{Linear, lin_is_below}
use Rattle.lin_atoms.proofs.Public.{both_true}
use Rattle.int_rows.specs.machinery.Writing.{turned_terms}
use Rattle.int_rows.specs.Node.{coefficient, equation}
use Rattle.int_rows.proofs.EquationLemmas.{all-at}
use Rattle.int_rows.proofs.PivotedLemmas.{refilled}

-- one entry that is written over
pub written : (f g : ℕ → ℤ) (n v : ℕ) (x : ℤ) → v < n → g v ≡ x → ((c : ℕ) → (c ≡ v → ⊥) → g c ≡ f c) → set (map f (range_with_len 0 n)) v x ≡ map g (range_with_len 0 n)
written f g n v x h here others =
    let row = map f (range_with_len 0 n) in
    let long : length row ≡ n = length-map-range_with_len f 0 n in
    let set_long : length (set row v x) ≡ n = length-set row v x ∙ long in
    ext_get_or (pos 0) (set row v x) (map g (range_with_len 0 n)) (set_long ∙ sym (length-map-range_with_len g 0 n)) (λ c less.
    let inside : c < n = omega (arith, less, set_long) in
    let there : get_or (map g (range_with_len 0 n)) c (pos 0) ≡ g c = get_or-map-range_with_len g 0 n c c (pos 0) inside (omega arith) in
    ⊎_elim
    (λ same. ap (λ k. get_or (set row v x) k (pos 0)) same ∙ get_or-set_same row v x (pos 0) (omega (arith, h, long)) ∙ sym here ∙ ap g (sym same) ∙ sym there)
    (λ other. get_or-set_other row v c x (pos 0) other ∙ get_or-map-range_with_len f 0 n c c (pos 0) inside (omega arith) ∙ sym (others c other) ∙ sym there)
    (cases_eq c v))

if-same : (b : Bool) (x y : ℤ) → b ≡ true → cond b x y ≡ x
if-same true x y h = refl
if-same false x y h = absurd (cc)

if-other : (b : Bool) (x y : ℤ) → b ≡ false → cond b x y ≡ y
if-other true x y h = absurd (cc)
if-other false x y h = refl

-- a row of zeros
pub zeros-are : (n : ℕ) → replicate n (pos 0) ≡ map (λ c. neg_ℤ (coefficient [] c)) (range_with_len 0 n)
zeros-are n =
    let f : ℕ → ℤ = λ c. neg_ℤ (coefficient [] c) in
    let long : length (replicate n (pos 0)) ≡ n = length-replicate n (pos 0) in
    ext_get_or (pos 0) (replicate n (pos 0)) (map f (range_with_len 0 n)) (long ∙ sym (length-map-range_with_len f 0 n)) (λ c less.
    let inside : c < n = omega (arith, less, long) in
    get_or-replicate n c (pos 0) (pos 0) inside ∙ sym (get_or-map-range_with_len f 0 n c c (pos 0) inside (omega arith)))

-- a term that is written over those behind it
pub term-written : (ts : List (ℕ × ℤ)) (t : ℕ × ℤ) (n : ℕ) → t.0 < n → set (map (λ c. neg_ℤ (coefficient ts c)) (range_with_len 0 n)) t.0 (neg_ℤ t.1) ≡ map (λ c. neg_ℤ (coefficient (t ∷ ts) c)) (range_with_len 0 n)
term-written ts t n h =
    written (λ c. neg_ℤ (coefficient ts c)) (λ c. neg_ℤ (coefficient (t ∷ ts) c)) n t.0 (neg_ℤ t.1) h
    (ap neg_ℤ (if-same (t.0 == t.0) t.1 (coefficient ts t.0) (eq-eqb t.0 t.0 refl)))
    (λ c other. ap neg_ℤ (if-other (t.0 == c) t.1 (coefficient ts c) (ne_eqb t.0 c (λ e. other (sym e)))))

-- the slack that is written last
pub slack-written : (ts : List (ℕ × ℤ)) (slack n : ℕ) → slack < n → set (map (λ c. neg_ℤ (coefficient ts c)) (range_with_len 0 n)) slack (pos 1) ≡ map (λ c. cond (c == slack) (pos 1) (neg_ℤ (coefficient ts c))) (range_with_len 0 n)
slack-written ts slack n h =
    written (λ c. neg_ℤ (coefficient ts c)) (λ c. cond (c == slack) (pos 1) (neg_ℤ (coefficient ts c))) n slack (pos 1) h
    (if-same (slack == slack) (pos 1) (neg_ℤ (coefficient ts slack)) (eq-eqb slack slack refl))
    (λ c other. if-other (c == slack) (pos 1) (neg_ℤ (coefficient ts c)) (ne_eqb c slack other))

-- before the first term, from the last on
pub none-put : (ts : List (ℕ × ℤ)) (n : ℕ) (row : List ℤ) → row ≡ replicate n (pos 0) → row ≡ turned_terms n (drop (length ts) ts)
none-put ts n row h = h ∙ zeros-are n ∙ sym (at_drop_all (turned_terms n) ts (length ts) (omega arith))

-- one more
pub more-put : (ts : List (ℕ × ℤ)) (at n : ℕ) (d : ℕ × ℤ) (row new : List ℤ) → 0 < at → at ≤ length ts → list_all (λ t. nat_lt t.0 n) ts ≡ true → row ≡ turned_terms n (drop at ts)
    → new ≡ set row (get_or ts (at - 1) d).0 (neg_ℤ (get_or ts (at - 1) d).1) → new ≡ turned_terms n (drop (at - 1) ts)
more-put ts at n d row new some within below before set_is =
    let back : at - 1 + 1 ≡ at = omega (arith, some) in
    let inside : at - 1 < length ts = omega (arith, some, within) in
    let t = get_or ts (at - 1) d in
    set_is ∙ ap (λ r. set r t.0 (neg_ℤ t.1)) before ∙ term-written (drop at ts) t n (ltb-true _ _ (all-at (λ t. nat_lt t.0 n) ts (at - 1) d inside below))
    ∙ ap (λ k. turned_terms n (t ∷ drop k ts)) (sym back)
    ∙ sym (at_drop_more (turned_terms n) ts (at - 1) d inside)

-- the row that is written in place of zeros
pub equation-is : (columns slack n len : ℕ) (items new : List ℤ) (ts : List (ℕ × ℤ)) (lin : Linear) → slack < columns → n ≡ columns → len ≡ length items → length items ≡ columns → ts ≡ lin.terms → new ≡ turned_terms n ts
    → set (take len (new ++ drop (length new) items)) slack (pos 1) ≡ equation columns slack lin
equation-is columns slack n len items new ts lin h size room long same is =
    let count : length new ≡ len = ap length is ∙ length-map-range_with_len (λ c. neg_ℤ (coefficient ts c)) 0 n ∙ size ∙ sym long ∙ sym room in
    ap (λ row. set row slack (pos 1)) (refilled len new items count (sym room) ∙ is ∙ ap (λ m. turned_terms m ts) size ∙ ap (turned_terms columns) same)
    ∙ slack-written lin.terms slack columns h

pub below-more : (m n : ℕ) (ts : List (ℕ × ℤ)) → m ≤ n → list_all (λ t. nat_lt t.0 m) ts ≡ true → list_all (λ t. nat_lt t.0 n) ts ≡ true
below-more m n [] h all = refl
below-more m n (t ∷ ts) h all =
    let both = both_true (nat_lt t.0 m) _ all in
    ap (λ b. b && list_all (λ u. nat_lt u.0 n) ts) (lt-ltb t.0 n (omega (arith, ltb-true _ _ both.0, h))) ∙ below-more m n ts h both.1

pub all-below : (m n : ℕ) (lins : List Linear) → m ≤ n → list_all (lin_is_below m) lins ≡ true → list_all (lin_is_below n) lins ≡ true
all-below m n [] h all = refl
all-below m n (lin ∷ lins) h all =
    let both = both_true (lin_is_below m lin) _ all in
    ap (λ b. b && list_all (lin_is_below n) lins) (below-more m n lin.terms h both.0) ∙ all-below m n lins h both.1
