-- What is put behind the nodes of an arena, one thing after another.
use Rattle.std.proofs.Common.{◌≡◌, ℕ, ◌+◌, ◌<◌, ◌≤◌, List, [], ◌∷◌, ◌++◌, length, Bool, true, ◌&&◌, refl, ap, sym, ◌∙◌, subst, append_assoc, append-nil, length-append, arith}
use Rattle.std.proofs.lemmas.Bool.Decides.{nat_tests}
use Rattle.std.specs.Prelude.{nat_lt}
use Rattle.std.specs.List.{list_all}
use Rattle.term_tree.specs.declared.node.TermId.{TermId}
use Rattle.term_tree.specs.declared.node.Node.{Node}
use Rattle.term_tree.specs.Arena.{is_below}
use Rattle.term_tree.proofs.Public.{below_from, both_true}
use Rattle.interpretations.specs.machinery.Added.{AreAdded, IsAdded, IsGrown}

pub grown-none : (nodes : List Node) → IsGrown 0 nodes nodes
grown-none nodes = record { more = []; are = sym (append-nil nodes); few = omega arith }

pub grown-then : (a b : ℕ) (s t u : List Node) → IsGrown a s t → IsGrown b t u → IsGrown (a + b) s u
grown-then a b s t u f g = record {
  more = f.more ++ g.more;
  are = g.are ∙ ap (λ (ns : List Node). ns ++ g.more) f.are ∙ append_assoc s f.more g.more;
  few = omega (arith, f.few, g.few, length-append f.more g.more);
}

pub grown-weaker : (a b : ℕ) (s t : List Node) → a ≤ b → IsGrown a s t → IsGrown b s t
grown-weaker a b s t le f = record { more = f.more; are = f.are; few = omega (arith, le, f.few) }

pub grown-most : (a : ℕ) (s t : List Node) → IsGrown a s t → length t ≤ length s + a
grown-most a s t f = omega (arith, ap length f.are, length-append s f.more, f.few)

pub grown-least : (a : ℕ) (s t : List Node) → IsGrown a s t → length s ≤ length t
grown-least a s t f = omega (arith, ap length f.are, length-append s f.more)

-- what holds whatever follows still holds then
pub stays : (P : List Node → Type 0) (b : ℕ) (t u : List Node) → IsGrown b t u → ((later : List Node) → P (t ++ later)) → (later : List Node) → P (u ++ later)
stays P b t u g all later = subst P (sym (ap (λ (ns : List Node). ns ++ later) g.are ∙ append_assoc t g.more later)) (all (g.more ++ later))

-- and what holds so holds of the nodes themselves
pub now : (P : List Node → Type 0) (t : List Node) → ((later : List Node) → P (t ++ later)) → P t
now P t all = subst P (append-nil t) (all [])

pub less-true : (m n : ℕ) → m < n → nat_lt m n ≡ true
less-true m n h = grind (arith, nat_tests)

pub below-later : (m n : ℕ) (ids : List TermId) → m ≤ n → list_all (is_below m) ids ≡ true → list_all (is_below n) ids ≡ true
below-later m n [] le all = refl
below-later m n (id ∷ ids) le all =
    let both = both_true (nat_lt id.0 m) (list_all (is_below m) ids) all in
    ap (λ (b : Bool). b && list_all (is_below n) ids) (less-true id.0 n (omega (arith, below_from id.0 m both.0))) ∙ below-later m n ids le both.1

pub below-push : (n : ℕ) (ids : List TermId) (id : TermId) → list_all (is_below n) ids ≡ true → id.0 < n → list_all (is_below n) (ids ++ id ∷ []) ≡ true
below-push n [] id all less = ap (λ (b : Bool). b && true) (less-true id.0 n less)
below-push n (k ∷ ids) id all less =
    let both = both_true (nat_lt k.0 n) (list_all (is_below n) ids) all in
    ap (λ (b : Bool). b && list_all (is_below n) (ids ++ id ∷ [])) both.0 ∙ below-push n ids id both.1 less

pub below-one : (n : ℕ) (id : TermId) → id.0 < n → list_all (is_below n) (id ∷ []) ≡ true
below-one n id less = ap (λ (b : Bool). b && true) (less-true id.0 n less)

pub below-two : (n : ℕ) (x y : TermId) → x.0 < n → y.0 < n → list_all (is_below n) (x ∷ y ∷ []) ≡ true
below-two n x y h k = ap (λ (b : Bool). b && list_all (is_below n) (y ∷ [])) (less-true x.0 n h) ∙ below-one n y k

pub below-three : (n : ℕ) (x y z : TermId) → x.0 < n → y.0 < n → z.0 < n → list_all (is_below n) (x ∷ y ∷ z ∷ []) ≡ true
below-three n x y z h k l = ap (λ (b : Bool). b && list_all (is_below n) (y ∷ z ∷ [])) (less-true x.0 n h) ∙ below-two n y z k l

-- a term is still there
pub there-then : (K : List Node → TermId → Type 0) (a b : ℕ) (s t u : List Node) (id : TermId) → IsAdded K a s t id → IsGrown b t u → id.0 < length u
there-then K a b s t u id added g = let less = added.there in let least = grown-least b t u g in omega (arith, less, least)

pub are-there-then : (K : List Node → List TermId → Type 0) (a b : ℕ) (s t u : List Node) (ids : List TermId) → AreAdded K a s t ids → IsGrown b t u → list_all (is_below (length u)) ids ≡ true
are-there-then K a b s t u ids added g = below-later (length t) (length u) ids (grown-least b t u g) added.there

-- another name for what was added, and more room
pub added-as : (K L : List Node → TermId → Type 0) (a b : ℕ) (s t : List Node) (id : TermId) → a ≤ b → ((nodes : List Node) → K nodes id → L nodes id) → IsAdded K a s t id → IsAdded L b s t id
added-as K L a b s t id le f added = record { grown = grown-weaker a b s t le added.grown; there = added.there; is = λ later. f (t ++ later) (added.is later) }

-- a term after another
pub added-then : (K L M : List Node → TermId → Type 0) (a b c : ℕ) (s t u : List Node) (x y : TermId) → a + b ≤ c
    → ((nodes : List Node) → K nodes x → L nodes y → M nodes y) → IsAdded K a s t x → IsAdded L b t u y → IsAdded M c s u y
added-then K L M a b c s t u x y le f first second = record {
  grown = grown-weaker (a + b) c s u le (grown-then a b s t u first.grown second.grown);
  there = second.there;
  is = λ later. f (u ++ later) (stays (λ (ns : List Node). K ns x) b t u second.grown first.is later) (second.is later);
}

-- a term after several
pub are-added-then : (K : List Node → List TermId → Type 0) (L M : List Node → TermId → Type 0) (a b c : ℕ) (s t u : List Node) (xs : List TermId) (y : TermId) → a + b ≤ c
    → ((nodes : List Node) → K nodes xs → L nodes y → M nodes y) → AreAdded K a s t xs → IsAdded L b t u y → IsAdded M c s u y
are-added-then K L M a b c s t u xs y le f first second = record {
  grown = grown-weaker (a + b) c s u le (grown-then a b s t u first.grown second.grown);
  there = second.there;
  is = λ later. f (u ++ later) (stays (λ (ns : List Node). K ns xs) b t u second.grown first.are later) (second.is later);
}
