-- The state, as the parts' lists grow and change.
use Rattle.std.proofs.Common.{◌≡◌, ℕ, zero, suc, ◌+◌, ◌<◌, List, [], ◌∷◌, ◌++◌, ◌≤◌, map, length, get_or, max, Some, None, refl, ap, sym, ◌∙◌, subst, arith}
use Rattle.std.specs.Prelude.{option_map, slice_get, slice_set, true}
use Rattle.std.specs.List.{fold}
use Rattle.std.proofs.lemmas.List.{map-append, map-set, length_push}
use Rattle.std.proofs.lemmas.List.Sums.{fold-append}
use Rattle.std.proofs.lemmas.Option.{get_or_from_slice_get, slice_get-get_or, slice_get-map}
use Rattle.derivations.specs.Facts.{greatest as kept_greatest, height_of, heights, with_height}
use Rattle.derivations.specs.declared.fact.Fact.{Fact as KeptFact}
use Rattle.obligation_tree.specs.Nodes.{absent, marked_at, node_at}
use Rattle.obligation_tree.specs.declared.node.Node.{Node}
use Rattle.book_rules.specs.Effects.{greatest_height, height_at}
use Rattle.book_rules.specs.State.{Fact}
use Rattle.step_rules.specs.Views.{ground_conclusion, facts_of, new_fact, obligation_of, obligations_of, with_fact}
pub use Rattle.cube_rules.proofs.Public.{framed_of-at, lemmas-lifted, lemmas-push}

-- lists that grow by one

pub facts-push : (facts : List KeptFact) (f : KeptFact) → facts_of (facts ++ f ∷ []) ≡ with_fact (facts_of facts) f
facts-push facts f = fold-append with_fact [] facts (f ∷ [])

pub obligations-push : (nodes : List Node) (n : Node) → obligations_of (nodes ++ n ∷ []) ≡ obligations_of nodes ++ obligation_of n ∷ []
obligations-push nodes n = map-append obligation_of nodes (n ∷ [])

-- what stands at a number

pub obligation_of-at : (nodes : List Node) (n : ℕ) → n < length nodes → slice_get (obligations_of nodes) n ≡ Some (obligation_of (node_at nodes n))
obligation_of-at nodes n within = slice_get-map obligation_of nodes n ∙ ap (option_map obligation_of) (slice_get-get_or nodes n absent within)

pub obligation-past : (nodes : List Node) (n : ℕ) → length nodes ≤ n → slice_get (obligations_of nodes) n ≡ None
obligation-past [] n past = refl
obligation-past (x ∷ nodes) zero past = absurd (omega arith)
obligation-past (x ∷ nodes) (suc n) past = obligation-past nodes n (omega arith)

length-fold : (before : List Fact) (facts : List KeptFact) → length (fold with_fact before facts) ≡ length before + length facts
length-fold before [] = omega arith
length-fold before (f ∷ facts) =
    let more = length-fold (with_fact before f) facts in
    let long : length (with_fact before f) ≡ length before + 1 = length_push before (new_fact before f) in
    omega (arith, more, long)

pub length-facts : (facts : List KeptFact) → length (facts_of facts) ≡ length facts
length-facts facts = (let whole : length (facts_of facts) ≡ 0 + length facts = length-fold [] facts in omega (arith, whole))

-- the heights are those that the facts tell

height-at : (before : List Fact) (p : ℕ) → height_at (slice_get before p) ≡ get_or (map (λ (f : Fact). f.height) before) p 0
height-at [] p = refl
height-at (f ∷ before) zero = refl
height-at (f ∷ before) (suc p) = height-at before p

greatest-from : (before : List Fact) (most : ℕ) (premises : List ℕ) → fold max most (map (λ p. get_or (map (λ (f : Fact). f.height) before) p 0) premises) ≡ max most (greatest_height before premises)
greatest-from before most [] = omega arith
greatest-from before most (p ∷ premises) =
    let here = height-at before p in
    let rest = greatest-from before (max most (get_or (map (λ (f : Fact). f.height) before) p 0)) premises in
    rest ∙ omega (arith, here)

heights-with : (before : List Fact) (f : KeptFact) → map (λ (g : Fact). g.height) (with_fact before f) ≡ with_height (map (λ (g : Fact). g.height) before) f
heights-with before f =
    let most : greatest_height before f.premises ≡ kept_greatest (map (λ p. get_or (map (λ (g : Fact). g.height) before) p 0) f.premises) = sym (greatest-from before 0 f.premises ∙ (let none : max 0 (greatest_height before f.premises) ≡ greatest_height before f.premises = omega arith in none)) in
    let turned : (n : ℕ) → suc n ≡ 1 + n = λ n. omega arith in
    map-append (λ (g : Fact). g.height) before (new_fact before f ∷ []) ∙ ap (λ h. map (λ (g : Fact). g.height) before ++ h ∷ []) (ap suc most ∙ turned (kept_greatest (map (λ p. get_or (map (λ (g : Fact). g.height) before) p 0) f.premises)))

heights-fold : (before : List Fact) (facts : List KeptFact) → map (λ (g : Fact). g.height) (fold with_fact before facts) ≡ fold with_height (map (λ (g : Fact). g.height) before) facts
heights-fold before [] = refl
heights-fold before (f ∷ facts) = heights-fold (with_fact before f) facts ∙ ap (λ hs. fold with_height hs facts) (heights-with before f)

pub heights_are : (facts : List KeptFact) → map (λ (g : Fact). g.height) (facts_of facts) ≡ heights facts
heights_are facts = heights-fold [] facts

pub fact-height : (facts : List KeptFact) (n : ℕ) (fact : Fact) → slice_get (facts_of facts) n ≡ Some fact → fact.height ≡ height_of facts n
fact-height facts n fact there =
    sym (get_or_from_slice_get (map (λ (g : Fact). g.height) (facts_of facts)) n fact.height 0 (slice_get-map (λ (g : Fact). g.height) (facts_of facts) n ∙ ap (option_map (λ (g : Fact). g.height)) there))
    ∙ ap (λ hs. get_or hs n 0) (heights_are facts)

-- the fact of a number, with the height that the facts tell

abbrev made : KeptFact → ℕ → Fact
made f h = record { conclusion = ground_conclusion f.pred f.tuple; clause = f.clause; point = f.point; premises = f.premises; height = h }

slice-left : {X : Type 0} (xs ys : List X) (i : ℕ) (x : X) → slice_get xs i ≡ Some x → slice_get (xs ++ ys) i ≡ Some x
slice-left [] ys i x h = absurd (cc)
slice-left (y ∷ xs) ys zero x h = h
slice-left (y ∷ xs) ys (suc i) x h = slice-left xs ys i x h

slice-end : {X : Type 0} (xs : List X) (x : X) → slice_get (xs ++ x ∷ []) (length xs) ≡ Some x
slice-end [] x = refl
slice-end (y ∷ xs) x = slice-end xs x

fold-keeps : (before : List Fact) (facts : List KeptFact) (i : ℕ) (g : Fact) → slice_get before i ≡ Some g → slice_get (fold with_fact before facts) i ≡ Some g
fold-keeps before [] i g h = h
fold-keeps before (f ∷ facts) i g h = fold-keeps (with_fact before f) facts i g (slice-left before (new_fact before f ∷ []) i g h)

fold-at : (before : List Fact) (facts : List KeptFact) (n : ℕ) (f : KeptFact) → slice_get facts n ≡ Some f → (h : ℕ) × (slice_get (fold with_fact before facts) (length before + n) ≡ Some (made f h))
fold-at before [] n f there = absurd (cc)
fold-at before (x ∷ facts) zero f there =
    let same : x ≡ f = cc in
    let h = suc (greatest_height before x.premises) in
    let here = fold-keeps (with_fact before x) facts (length before) (new_fact before x) (slice-end before (new_fact before x)) ∙ ap (λ (y : KeptFact). Some (made y h)) same in
    (h, subst (λ (i : ℕ). slice_get (fold with_fact (with_fact before x) facts) i ≡ Some (made f h)) (omega arith) here)
fold-at before (x ∷ facts) (suc n) f there =
    let rest = fold-at (with_fact before x) facts n f there in
    let long : length (with_fact before x) ≡ length before + 1 = length_push before (new_fact before x) in
    (rest.0, subst (λ (i : ℕ). slice_get (fold with_fact (with_fact before x) facts) i ≡ Some (made f rest.0)) (omega (arith, long)) rest.1)

pub fact_of-at : (facts : List KeptFact) (n : ℕ) (f : KeptFact) → slice_get facts n ≡ Some f → slice_get (facts_of facts) n ≡ Some (made f (height_of facts n))
fact_of-at facts n f there =
    let found = fold-at [] facts n f there in
    let first : n ≡ 0 + n = omega arith in
    let here : slice_get (facts_of facts) n ≡ Some (made f found.0) = ap (slice_get (facts_of facts)) first ∙ found.1 in
    here ∙ ap (λ h. Some (made f h)) (fact-height facts n (made f found.0) here)

-- what changes in its place

pub obligations-marked : (nodes : List Node) (n : ℕ) → n < length nodes → obligations_of (marked_at n nodes) ≡ slice_set (obligations_of nodes) n (record (obligation_of (node_at nodes n)) { stalled = true })
obligations-marked nodes n within = map-set obligation_of nodes n (record (node_at nodes n) { stalled = true })
