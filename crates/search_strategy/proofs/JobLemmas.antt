-- The first of the live obligations without live children that aren't out.
use Rattle.std.proofs.Common.{◌≡◌, ℕ, zero, suc, ◌+◌, ◌<◌, ◌≤◌, List, [], ◌∷◌, ◌++◌, length, filter, take, get_or, Bool, true, false, not, ◌&&◌, ◌||◌, cond, Some, None, refl, ap, sym, ◌∙◌, subst, arith}
use Rattle.std.specs.Prelude.{Option, nat_lt, ◌==◌, if◌then◌else◌}
use Rattle.std.specs.List.{list_all, range_with_len}
use Rattle.std.proofs.lemmas.Bool.Decides.{nat_tests}
use Rattle.std.proofs.lemmas.List.{take_all, take_more}
use Rattle.std.proofs.lemmas.List.Elements.{All-filter}
use Rattle.obligation_tree.specs.Nodes.{has_live_child, is_live_at, is_stalled_in, leaf_numbers, live_numbers, node_at, IsLiveLeaf}
use Rattle.obligation_tree.specs.declared.node.Node.{Node}
use Rattle.book_rules.proofs.ListLemmas.{not_true}
use Rattle.step_rules.specs.Standing.{Standing}
use Rattle.chc_core.proofs.EndLemmas.{leaves-there}
use Rattle.obligation_turn.specs.Turns.{IsOpenLeaf}
use Rattle.search_strategy.specs.Jobs.{is_before, level_at}
use Rattle.search_strategy.specs.machinery.Choosing.{first_of, is_behind, next_first}

-- leaves

-- what a filter leaves passes
passes : (p : ℕ → Bool) (xs : List ℕ) (i d : ℕ) → i < length (filter p xs) → p (get_or (filter p xs) i d) ≡ true
passes p [] i d within = absurd (omega (arith, within))
passes p (x ∷ xs) i d within = by (λ j w. passes p xs j d w) (p x) refl i within where
  by : ((j : ℕ) → j < length (filter p xs) → p (get_or (filter p xs) j d) ≡ true) → (b : Bool) → p x ≡ b → (i : ℕ) → i < length (cond {A = List ℕ} b (x ∷ filter p xs) (filter p xs))
      → p (get_or (cond {A = List ℕ} b (x ∷ filter p xs) (filter p xs)) i d) ≡ true
  by rest true is zero within = is
  by rest true is (suc j) within = rest j (omega (arith, within))
  by rest false is i within = rest i within

pub leaf_at : (nodes : List Node) (i : ℕ) → i < length (leaf_numbers nodes) → IsLiveLeaf nodes (get_or (leaf_numbers nodes) i 0)
leaf_at nodes i within = record {
  there = leaves-there nodes i 0 within;
  live = All-filter (λ m. not (has_live_child nodes m)) (λ n. is_live_at nodes n ≡ true) (live_numbers nodes) (λ k d w. passes (is_live_at nodes) (range_with_len 0 (length nodes)) k d w) i 0 within;
  leaf = not_true (has_live_child nodes (get_or (leaf_numbers nodes) i 0)) (passes (λ m. not (has_live_child nodes m)) (live_numbers nodes) i 0 within);
}

pub open_leaf : (b : Standing) (id : ℕ) → IsLiveLeaf b.tree.nodes id → is_stalled_in (node_at b.tree.nodes id) ≡ false → IsOpenLeaf b id
open_leaf b id h unmarked = record { there = h.there; live = h.live; leaf = h.leaf; unmarked = unmarked }

pub live_leaf : (b : Standing) (id : ℕ) → IsOpenLeaf b id → IsLiveLeaf b.tree.nodes id
live_leaf b id h = record { there = h.there; live = h.live; leaf = h.leaf }

-- what passes a test among the numbers that a filter leaves, passes it where the filter leaves it

unfiltered : (test p : ℕ → Bool) (xs : List ℕ) → list_all test (filter p xs) ≡ true → list_all (λ x. not (p x) || test x) xs ≡ true
unfiltered test p [] h = refl
unfiltered test p (x ∷ xs) h = by (p x) h (λ k. unfiltered test p xs k) where
  by : (b : Bool) → list_all test (cond {A = List ℕ} b (x ∷ filter p xs) (filter p xs)) ≡ true → (list_all test (filter p xs) ≡ true → list_all (λ y. not (p y) || test y) xs ≡ true)
      → ((not b || test x) && list_all (λ y. not (p y) || test y) xs) ≡ true
  by true h rest = both (test x) (list_all test (filter p xs)) (list_all (λ y. not (p y) || test y) xs) h rest where
    both : (t a c : Bool) → (t && a) ≡ true → (a ≡ true → c ≡ true) → (t && c) ≡ true
    both true a c h rest = rest h
    both false a c h rest = absurd (cc)
  by false h rest = rest h

in_range : (test : ℕ → Bool) (first count i : ℕ) → list_all test (range_with_len first count) ≡ true → i < count → test (first + i) ≡ true
in_range test first zero i h within = absurd (omega (arith, within))
in_range test first (suc count) zero h within = subst (λ (n : ℕ). test n ≡ true) (omega arith) (first_of_two (test first) (list_all test (range_with_len (first + 1) count)) h) where
  first_of_two : (a c : Bool) → (a && c) ≡ true → a ≡ true
  first_of_two true c h = refl
  first_of_two false c h = absurd (cc)
in_range test first (suc count) (suc i) h within = subst (λ (n : ℕ). test n ≡ true) (omega arith) (in_range test (first + 1) count i (rest_of (test first) (list_all test (range_with_len (first + 1) count)) h) (omega (arith, within))) where
  rest_of : (a c : Bool) → (a && c) ≡ true → c ≡ true
  rest_of true c h = h
  rest_of false c h = absurd (cc)

-- what all leaves pass, each live obligation without live children passes
pub each_leaf : (nodes : List Node) (test : ℕ → Bool) → list_all test (leaf_numbers nodes) ≡ true → (id : ℕ) → IsLiveLeaf nodes id → test id ≡ true
each_leaf nodes test h id leaf =
    let live = unfiltered test (λ n. not (has_live_child nodes n)) (live_numbers nodes) h in
    let all = unfiltered (λ n. not (not (has_live_child nodes n)) || test n) (is_live_at nodes) (range_with_len 0 (length nodes)) live in
    let here : (not (is_live_at nodes id) || (not (not (has_live_child nodes id)) || test id)) ≡ true
    = subst (λ (n : ℕ). (not (is_live_at nodes n) || (not (not (has_live_child nodes n)) || test n)) ≡ true) (omega arith)
    (in_range (λ n. not (is_live_at nodes n) || (not (not (has_live_child nodes n)) || test n)) 0 (length nodes) id all leaf.there) in
    by (is_live_at nodes id) (has_live_child nodes id) leaf.live leaf.leaf here where
      by : (live child : Bool) → live ≡ true → child ≡ false → (not live || (not (not child) || test id)) ≡ true → test id ≡ true
      by true false a c h = h
      by false child a c h = absurd (cc)
      by true true a c h = absurd (cc)

-- the order in which obligations are asked

is_lower : (m n : ℕ) → nat_lt m n ≡ true → m < n
is_lower m n h = grind (arith, nat_tests, h)

by_levels : (la lb lc a b c : ℕ) → (nat_lt la lb || ((la == lb) && nat_lt a b)) ≡ true → (nat_lt lb lc || ((lb == lc) && nat_lt b c)) ≡ true → (nat_lt la lc || ((la == lc) && nat_lt a c)) ≡ true
by_levels la lb lc a b c one two = grind (arith, nat_tests, one, two)

before-then : (nodes : List Node) (a b c : ℕ) → is_before nodes a b ≡ true → is_before nodes b c ≡ true → is_before nodes a c ≡ true
before-then nodes a b c one two = by_levels (level_at nodes a) (level_at nodes b) (level_at nodes c) a b c one two

by_itself : (l n : ℕ) → (nat_lt l l || ((l == l) && nat_lt n n)) ≡ false
by_itself l n = grind (arith, nat_tests)

not-before-itself : (nodes : List Node) (n : ℕ) → is_before nodes n n ≡ false
not-before-itself nodes n = by_itself (level_at nodes n) n

-- the first so far, and one more

all_on : (f g : ℕ → Bool) (xs : List ℕ) (x : ℕ) → ((n : ℕ) → f n ≡ true → g n ≡ true) → list_all f xs ≡ true → g x ≡ true → list_all g (xs ++ x ∷ []) ≡ true
all_on f g [] x more h last = ap (λ (b : Bool). b && true) last
all_on f g (y ∷ xs) x more h last = both (f y) (list_all f xs) (g y) (list_all g (xs ++ x ∷ [])) h (more y) (λ k. all_on f g xs x more k last) where
  both : (a c b d : Bool) → (a && c) ≡ true → (a ≡ true → b ≡ true) → (c ≡ true → d ≡ true) → (b && d) ≡ true
  both true c b d h here rest = ap (λ (x : Bool). x && d) (here refl) ∙ rest h
  both false c b d h here rest = absurd (cc)

module _ (nodes : List Node) (out : ℕ → Bool) where
  more_out : (best id n : ℕ) → is_before nodes id best ≡ true → is_behind nodes out (Some best) n ≡ true → is_behind nodes out (Some id) n ≡ true
  more_out best id n before h = by (out n) (is_before nodes n best) (is_before nodes n id) (λ k. before-then nodes n id best k before) h where
    by : (o p q : Bool) → (q ≡ true → p ≡ true) → (o || not p) ≡ true → (o || not q) ≡ true
    by true p q so h = refl
    by false p false so h = refl
    by false p true so h = subst (λ (b : Bool). not b ≡ true) (so refl) h

  from_none : (id n : ℕ) → out n ≡ true → is_behind nodes out (Some id) n ≡ true
  from_none id n h = ap (λ (o : Bool). o || not (is_before nodes n id)) h

  itself : (id : ℕ) → is_behind nodes out (Some id) id ≡ true
  itself id = by (out id) (is_before nodes id id) (not-before-itself nodes id) where
    by : (o p : Bool) → p ≡ false → (o || not p) ≡ true
    by true p h = refl
    by false p h = ap not h

  one_out : (best : Option ℕ) (id : ℕ) → out id ≡ true → is_behind nodes out best id ≡ true
  one_out None id h = h
  one_out (Some best) id h = ap (λ (o : Bool). o || not (is_before nodes id best)) h

  later : (best id : ℕ) → is_before nodes id best ≡ false → is_behind nodes out (Some best) id ≡ true
  later best id h = by (out id) (is_before nodes id best) h where
    by : (o p : Bool) → p ≡ false → (o || not p) ≡ true
    by true p h = refl
    by false p h = ap not h

  same : (xs : List ℕ) (best : Option ℕ) (id : ℕ) → list_all (is_behind nodes out best) xs ≡ true → is_behind nodes out best id ≡ true → list_all (is_behind nodes out best) (xs ++ id ∷ []) ≡ true
  same xs best id h last = all_on (is_behind nodes out best) (is_behind nodes out best) xs id (λ n k. k) h last

  with_first : (xs : List ℕ) (best : Option ℕ) (id : ℕ) → list_all (is_behind nodes out best) xs ≡ true → list_all (is_behind nodes out (first_of nodes best id)) (xs ++ id ∷ []) ≡ true
  with_first xs None id h = all_on out (is_behind nodes out (Some id)) xs id (λ n k. from_none id n k) h (itself id)
  with_first xs (Some best) id h = by (is_before nodes id best) refl where
    by : (b : Bool) → is_before nodes id best ≡ b → list_all (is_behind nodes out (if b then Some id else Some best)) (xs ++ id ∷ []) ≡ true
    by true is = all_on (is_behind nodes out (Some best)) (is_behind nodes out (Some id)) xs id (λ n k. more_out best id n is k) h (itself id)
    by false is = same xs (Some best) id h (later best id is)

  behind-push : (xs : List ℕ) (best : Option ℕ) (id : ℕ) → list_all (is_behind nodes out best) xs ≡ true → list_all (is_behind nodes out (next_first nodes out best id)) (xs ++ id ∷ []) ≡ true
  behind-push xs best id h = by (out id) refl where
    by : (b : Bool) → out id ≡ b → list_all (is_behind nodes out (if b then best else first_of nodes best id)) (xs ++ id ∷ []) ≡ true
    by true is = same xs best id h (one_out best id is)
    by false is = with_first xs best id h

  -- along a list
  pub behind-more : (xs : List ℕ) (i : ℕ) (best : Option ℕ) → i < length xs → list_all (is_behind nodes out best) (take i xs) ≡ true
      → list_all (is_behind nodes out (next_first nodes out best (get_or xs i 0))) (take (i + 1) xs) ≡ true
  behind-more xs i best within h =
      subst (λ (ys : List ℕ). list_all (is_behind nodes out (next_first nodes out best (get_or xs i 0))) ys ≡ true) (sym (take_more xs i 0 within)) (behind-push (take i xs) best (get_or xs i 0) h)

  -- at its end: where none was found all leaves are out, and else none that isn't out is before the first

  pub behind-out : (id : ℕ) → list_all (is_behind nodes out None) (leaf_numbers nodes) ≡ true → IsLiveLeaf nodes id → out id ≡ true
  behind-out id h leaf = each_leaf nodes out h id leaf

  pub behind-first : (best id : ℕ) → list_all (is_behind nodes out (Some best)) (leaf_numbers nodes) ≡ true → IsLiveLeaf nodes id → out id ≡ false → is_before nodes id best ≡ false
  behind-first best id h leaf in_it = by (out id) (is_before nodes id best) in_it (each_leaf nodes (is_behind nodes out (Some best)) h id leaf) where
    by : (o p : Bool) → o ≡ false → (o || not p) ≡ true → p ≡ false
    by true p a h = absurd (cc)
    by false true a h = absurd (cc)
    by false false a h = refl

pub all-taken : (test : ℕ → Bool) (xs : List ℕ) (i : ℕ) → length xs ≤ i → list_all test (take i xs) ≡ true → list_all test xs ≡ true
all-taken test xs i past h = subst (λ (ys : List ℕ). list_all test ys ≡ true) (take_all i xs past) h
