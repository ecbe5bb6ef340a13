-- A comparison goes on with the greatest pair that waits, and ends where none waits.
use Rattle.std.proofs.Common.{◌≡◌, ℕ, suc, ◌+◌, ◌-◌, ◌*◌, ◌<◌, ◌≤◌, ◌==◌, List, [], ◌∷◌, ◌++◌, length, Bool, true, false, ◌&&◌, ◌||◌, refl, ap, sym, ◌∙◌, subst, arith, inl, inr, ◌⊎◌}
use Rattle.std.proofs.lemmas.Bool.Decides.{nat_tests}
use Rattle.std.proofs.lemmas.List.Folds.{list_all-append}
use Rattle.std.proofs.lemmas.Option.{slice_get_cases}
use Rattle.std.specs.Prelude.{slice_get, Option, Some, None, nat_lt, nat_le}
use Rattle.std.specs.List.{list_all}
use Rattle.term_tree.specs.declared.node.TermId.{TermId}
use Rattle.term_tree.specs.declared.node.Node.{Node}
use Rattle.term_tree.specs.Arena.{is_below, has_parts_below}
use Rattle.term_tree.specs.machinery.Pairs.{is_before}
use Rattle.term_tree.specs.Same.{is_alike, parts_of, same_parts, same_node, node_is_same, is_same_tree}
use Rattle.term_tree.proofs.EachLemmas.{all_below, same_at}
use Rattle.term_tree.proofs.FoldLemmas.{told_past}
use Rattle.term_tree.proofs.MeaningLemmas.{both_true, below_from}
use Rattle.term_tree.proofs.PlainLemmas.{same_number}

-- the terms of the pair are equal as trees
abbrev pub is_same_pair : List Node → List Node → ℕ × ℕ → Bool
is_same_pair nodes others pair = is_same_tree nodes pair.0 others pair.1

-- the two terms are equal exactly where all pairs that wait are; no second number has grown
pub record IsComparison (nodes others : List Node) (i j : ℕ) (waiting : List (ℕ × ℕ)) : Type 0 where
  pub same : is_same_tree nodes i others j ≡ list_all (is_same_pair nodes others) waiting
  pub bounded : list_all (λ (pair : ℕ × ℕ). nat_le pair.1 j) waiting ≡ true

-- the place of a pair, where second numbers go up to `top`
abbrev pub weight : ℕ → ℕ × ℕ → ℕ
weight top pair = pair.0 * suc top + pair.1

-- one more than that of the last pair
abbrev pub height : ℕ → List (ℕ × ℕ) → ℕ
height top [] = 0
height top (pair ∷ []) = suc (weight top pair)
height top (pair ∷ next ∷ pairs) = height top (next ∷ pairs)

height_last : (top : ℕ) (pairs : List (ℕ × ℕ)) (pair : ℕ × ℕ) → height top (pairs ++ pair ∷ []) ≡ suc (weight top pair)
height_last top [] pair = refl
height_last top (x ∷ []) pair = refl
height_last top (x ∷ y ∷ pairs) pair = height_last top (y ∷ pairs) pair

height_below : (top n : ℕ) (pairs : List (ℕ × ℕ)) → list_all (λ (p : ℕ × ℕ). nat_lt (weight top p) n) pairs ≡ true → height top pairs ≤ n
height_below top n [] h = omega arith
height_below top n (pair ∷ []) h = omega (arith, below_from (weight top pair) n (both_true (nat_lt (weight top pair) n) true h).0)
height_below top n (pair ∷ next ∷ pairs) h =
    height_below top n (next ∷ pairs) (both_true (nat_lt (weight top pair) n) (list_all (λ (p : ℕ × ℕ). nat_lt (weight top p) n) (next ∷ pairs)) h).1

less_place : (x u y v top : ℕ) → x < u → y ≤ top → x * suc top + y < u * suc top + v
less_place x u y v top less within =
    let d : ℕ = u - suc x in
    let is : u ≡ suc x + d = omega arith in
    let product : u * suc top ≡ (suc x + d) * suc top = ap (λ (k : ℕ). k * suc top) is in
    omega arith

to_lt : (a b : ℕ) → a < b → nat_lt a b ≡ true
to_lt a b h = grind (arith, nat_tests)

from_le : (a b : ℕ) → nat_le a b ≡ true → a ≤ b
from_le a b h = grind (arith, nat_tests)

to_le : (a b : ℕ) → a ≤ b → nat_le a b ≡ true
to_le a b h = grind (arith, nat_tests)

either : (a b : Bool) → (a || b) ≡ true → (a ≡ true) ⊎ (b ≡ true)
either true b h = inl refl
either false b h = inr h

before_less : (top : ℕ) (pair p : ℕ × ℕ) → is_before pair p ≡ true → nat_le p.1 top ≡ true → nat_lt (weight top p) (weight top pair) ≡ true
before_less top pair p h within = elim (either (nat_lt p.0 pair.0) ((p.0 == pair.0) && nat_lt p.1 pair.1) h) [
  | inl less ↦ to_lt (weight top p) (weight top pair) (less_place p.0 pair.0 p.1 pair.1 top (below_from p.0 pair.0 less) (from_le p.1 top within))
  | inr same ↦
      let both = both_true (p.0 == pair.0) (nat_lt p.1 pair.1) same in
      to_lt (weight top p) (weight top pair) (subst (λ (k : ℕ). k * suc top + p.1 < pair.0 * suc top + pair.1) (sym (same_number p.0 pair.0 both.0)) (omega (arith, below_from p.1 pair.1 both.1)))
]

all_less : (top : ℕ) (pair : ℕ × ℕ) (pairs : List (ℕ × ℕ)) → list_all (is_before pair) pairs ≡ true → list_all (λ (p : ℕ × ℕ). nat_le p.1 top) pairs ≡ true
    → list_all (λ (p : ℕ × ℕ). nat_lt (weight top p) (weight top pair)) pairs ≡ true
all_less top pair [] before within = refl
all_less top pair (p ∷ pairs) before within =
    let b = both_true (is_before pair p) (list_all (is_before pair) pairs) before in
    let w = both_true (nat_le p.1 top) (list_all (λ (q : ℕ × ℕ). nat_le q.1 top) pairs) within in
    and_true (nat_lt (weight top p) (weight top pair)) (list_all (λ (q : ℕ × ℕ). nat_lt (weight top q) (weight top pair)) pairs) (before_less top pair p b.0 w.0) (all_less top pair pairs b.1 w.1)
  where
    and_true : (a b : Bool) → a ≡ true → b ≡ true → (a && b) ≡ true
    and_true true b h k = k
    and_true false b h k = absurd (cc)

-- parts that are as many on both sides pass a test that all numbers below pass
all_parts : (test : ℕ × ℕ → Bool) (n m : ℕ) (xs ys : List TermId) → length xs ≡ length ys → list_all (is_below n) xs ≡ true → list_all (is_below m) ys ≡ true
    → ((x y : ℕ) → x < n → y < m → test (x, y) ≡ true) → same_parts (λ i j. test (i, j)) xs ys ≡ true
all_parts test n m [] [] same left right each = refl
all_parts test n m [] (y ∷ ys) same left right each = absurd (omega arith)
all_parts test n m (x ∷ xs) [] same left right each = absurd (omega arith)
all_parts test n m (x ∷ xs) (y ∷ ys) same left right each =
    let l = both_true (nat_lt x.0 n) (list_all (is_below n) xs) left in
    let r = both_true (nat_lt y.0 m) (list_all (is_below m) ys) right in
    ap (λ (b : Bool). b && same_parts (λ i j. test (i, j)) xs ys) (each x.0 y.0 (below_from x.0 n l.0) (below_from y.0 m r.0))
    ∙ all_parts test n m xs ys (omega arith) l.1 r.1 each

and_false : (b : Bool) → (b && false) ≡ false
and_false true = refl
and_false false = refl

other_lengths : (same : ℕ → ℕ → Bool) (xs ys : List TermId) → (length xs == length ys) ≡ false → same_parts same xs ys ≡ false
other_lengths same [] [] h = absurd (cc)
other_lengths same [] (y ∷ ys) h = refl
other_lengths same (x ∷ xs) [] h = refl
other_lengths same (x ∷ xs) (y ∷ ys) h = ap (λ (b : Bool). same x.0 y.0 && b) (other_lengths same xs ys (fewer (length xs) (length ys) h)) ∙ and_false (same x.0 y.0)
  where
    fewer : (m n : ℕ) → (suc m == suc n) ≡ false → (m == n) ≡ false
    fewer m n h = grind (arith, nat_tests)

true_right : (b : Bool) → (b && true) ≡ b
true_right true = refl
true_right false = refl

unlike : (alike many : Bool) (rest : Bool) → (alike && many) ≡ false → (many ≡ false → rest ≡ false) → (alike && rest) ≡ false
unlike true many rest h k = k h
unlike false many rest h k = refl

module _ (nodes others : List Node) where
  pair_at : (pair : ℕ × ℕ) (left right : Node) → slice_get nodes pair.0 ≡ Some left → has_parts_below pair.0 left ≡ true → slice_get others pair.1 ≡ Some right
      → is_same_pair nodes others pair ≡ (is_alike left right && same_parts (λ i j. is_same_pair nodes others (i, j)) (parts_of left) (parts_of right))
  pair_at pair left right is below at =
      same_at nodes others pair.0 pair.1 left is below ∙ ap (λ (found : Option Node). same_node (λ i. is_same_tree nodes i others) left found) at

  pub begins : (i j : ℕ) (waiting : List (ℕ × ℕ)) → ((test : ℕ × ℕ → Bool) → list_all test waiting ≡ (true && test (i, j))) → IsComparison nodes others i j waiting
  begins i j waiting put = record { same = sym (put (is_same_pair nodes others)); bounded = put (λ p. nat_le p.1 j) ∙ to_le j j (omega arith) }

  -- one pair that isn't the same
  pub differs : (i j : ℕ) (old rest : List (ℕ × ℕ)) (pair : ℕ × ℕ) → IsComparison nodes others i j old → old ≡ rest ++ pair ∷ [] → is_same_pair nodes others pair ≡ false
      → is_same_tree nodes i others j ≡ false
  differs i j old rest pair c taken unequal =
      c.same ∙ ap (λ (ps : List (ℕ × ℕ)). list_all (is_same_pair nodes others) ps) taken ∙ list_all-append (is_same_pair nodes others) rest (pair ∷ [])
      ∙ ap (λ (b : Bool). list_all (is_same_pair nodes others) rest && (b && true)) unequal ∙ and_false (list_all (is_same_pair nodes others) rest)

  pub no_left : (pair : ℕ × ℕ) → slice_get nodes pair.0 ≡ None → is_same_pair nodes others pair ≡ false
  no_left pair none = elim (slice_get_cases nodes pair.0).1 [ inl there ↦ absurd (never (sym none ∙ there.2)) | inr past ↦ nothing past.0 ]
    where
      never : {node : Node} → None ≡ Some node → ⊥
      never e = absurd (cc)

      nothing : length nodes ≤ pair.0 → is_same_pair nodes others pair ≡ false
      nothing past = ap (λ (f : ℕ → Bool). f pair.1) (told_past (ℕ → Bool) (λ j. false) (node_is_same others) nodes pair.0 past)

  pub no_right : (pair : ℕ × ℕ) (left : Node) → slice_get nodes pair.0 ≡ Some left → has_parts_below pair.0 left ≡ true → slice_get others pair.1 ≡ None → is_same_pair nodes others pair ≡ false
  no_right pair left is below none =
      same_at nodes others pair.0 pair.1 left is below ∙ ap (λ (found : Option Node). same_node (λ i. is_same_tree nodes i others) left found) none

  pub no_likeness : (pair : ℕ × ℕ) (left right : Node) → slice_get nodes pair.0 ≡ Some left → has_parts_below pair.0 left ≡ true → slice_get others pair.1 ≡ Some right
      → (is_alike left right && (length (parts_of left) == length (parts_of right))) ≡ false → is_same_pair nodes others pair ≡ false
  no_likeness pair left right is below at h =
      pair_at pair left right is below at
      ∙ unlike (is_alike left right) (length (parts_of left) == length (parts_of right)) (same_parts (λ i j. is_same_pair nodes others (i, j)) (parts_of left) (parts_of right)) h
      (other_lengths (λ i j. is_same_pair nodes others (i, j)) (parts_of left) (parts_of right))

  -- the parts of alike nodes in place of the pair
  pub goes_on : (i j : ℕ) (old rest new : List (ℕ × ℕ)) (pair : ℕ × ℕ) (left right : Node) → IsComparison nodes others i j old → old ≡ rest ++ pair ∷ []
      → list_all (is_before pair) rest ≡ true → slice_get nodes pair.0 ≡ Some left → has_parts_below pair.0 left ≡ true → slice_get others pair.1 ≡ Some right → has_parts_below pair.1 right ≡ true
      → (is_alike left right && (length (parts_of left) == length (parts_of right))) ≡ true
      → ((test : ℕ × ℕ → Bool) → list_all test new ≡ (list_all test rest && same_parts (λ x y. test (x, y)) (parts_of left) (parts_of right)))
      → IsComparison nodes others i j new × (height j new < height j old)
  goes_on i j old rest new pair left right c taken before is below at under h put =
      let f : ℕ × ℕ → Bool = is_same_pair nodes others in
      let w : ℕ × ℕ → Bool = λ p. nat_le p.1 j in
      let alike = both_true (is_alike left right) (length (parts_of left) == length (parts_of right)) h in
      let many : length (parts_of left) ≡ length (parts_of right) = same_number (length (parts_of left)) (length (parts_of right)) alike.1 in
      let here : f pair ≡ same_parts (λ x y. f (x, y)) (parts_of left) (parts_of right) =
      pair_at pair left right is below at ∙ ap (λ (b : Bool). b && same_parts (λ x y. f (x, y)) (parts_of left) (parts_of right)) alike.0 in
      let split : list_all f old ≡ (list_all f rest && (f pair && true)) = ap (λ (ps : List (ℕ × ℕ)). list_all f ps) taken ∙ list_all-append f rest (pair ∷ []) in
      let within : (list_all w rest && (w pair && true)) ≡ true = sym (ap (λ (ps : List (ℕ × ℕ)). list_all w ps) taken ∙ list_all-append w rest (pair ∷ [])) ∙ c.bounded in
      let rest_within = both_true (list_all w rest) (w pair && true) within in
      let pair_within = both_true (w pair) true rest_within.1 in
      let parts_within : same_parts (λ x y. w (x, y)) (parts_of left) (parts_of right) ≡ true =
      all_parts w pair.0 pair.1 (parts_of left) (parts_of right) many (all_below pair.0 left below) (all_below pair.1 right under)
      (λ x y lx ly. to_le y j (omega (arith, from_le pair.1 j pair_within.0))) in
      let g : ℕ × ℕ → Bool = λ p. nat_lt (weight j p) (weight j pair) in
      let parts_less : same_parts (λ x y. g (x, y)) (parts_of left) (parts_of right) ≡ true =
      all_parts g pair.0 pair.1 (parts_of left) (parts_of right) many (all_below pair.0 left below) (all_below pair.1 right under)
      (λ x y lx ly. to_lt (weight j (x, y)) (weight j pair) (less_place x pair.0 y pair.1 j lx (omega (arith, from_le pair.1 j pair_within.0)))) in
      let lower : height j new ≤ weight j pair = height_below j (weight j pair) new
      (put g ∙ ap (λ (b : Bool). b && same_parts (λ x y. g (x, y)) (parts_of left) (parts_of right)) (all_less j pair rest before rest_within.0) ∙ parts_less) in
      let upper : height j old ≡ suc (weight j pair) = ap (λ (ps : List (ℕ × ℕ)). height j ps) taken ∙ height_last j rest pair in (
        record {
          same = c.same ∙ split ∙ ap (λ (b : Bool). list_all f rest && b) (true_right (f pair) ∙ here) ∙ sym (put f);
          bounded = put w ∙ ap (λ (b : Bool). b && same_parts (λ x y. w (x, y)) (parts_of left) (parts_of right)) rest_within.0 ∙ parts_within;
        },
        omega (arith, lower, upper),
      )

  pub ends : (i j : ℕ) (waiting : List (ℕ × ℕ)) → IsComparison nodes others i j waiting → waiting ≡ [] → true ≡ is_same_tree nodes i others j
  ends i j waiting c none = sym (c.same ∙ ap (λ (ps : List (ℕ × ℕ)). list_all (is_same_pair nodes others) ps) none)
