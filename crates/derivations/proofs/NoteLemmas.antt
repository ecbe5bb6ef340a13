-- Heights, one for each fact, none above its number and 1.
use Rattle.std.proofs.Common.{◌≡◌, ℕ, zero, suc, ◌+◌, ◌<◌, ◌≤◌, max, List, [], ◌∷◌, ◌++◌, map, length, get_or, take, ap, sym, ◌∙◌, arith, inl, inr}
use Rattle.std.specs.Prelude.{◌⊎◌}
use Rattle.std.specs.List.{fold}
use Rattle.std.proofs.lemmas.List.{length-append, get_or_append_left, get_or_past, get_or_push, get_or-map, map_more, map_push}
use Rattle.std.proofs.lemmas.Bool.{cases_lt, cases_order}
use Rattle.std.proofs.lemmas.List.Sums.{fold_push}
use Rattle.derivations.specs.declared.fact.Fact.{Fact}
use Rattle.derivations.specs.declared.notes.Noted.{Noted}
use Rattle.derivations.specs.Facts.{greatest, heights, height_of, with_height}

pub heights_push : (fs : List Fact) (f : Fact) → heights (fs ++ f ∷ []) ≡ heights fs ++ (1 + greatest (map (height_of fs) f.premises)) ∷ []
heights_push fs f = fold_push with_height [] fs f

-- a bound of all heights bounds the greatest
greatest_within : (most n : ℕ) (xs : List ℕ) → most ≤ n → ((k : ℕ) → k < length xs → get_or xs k 0 ≤ n) → fold max most xs ≤ n
greatest_within most n [] le all = le
greatest_within most n (x ∷ xs) le all =
    let first = all 0 (omega arith) in
    greatest_within (max most x) n xs (omega arith) (λ k l. all (suc k) (omega arith))

look_up : (hs : List ℕ) (n : ℕ) → ((k : ℕ) → k < length hs → get_or hs k 0 ≤ n) → (ps : List ℕ) (k : ℕ) → k < length (map (λ p. get_or hs p 0) ps) → get_or (map (λ p. get_or hs p 0) ps) k 0 ≤ n
look_up hs n all [] k l = absurd (omega arith)
look_up hs n all (p ∷ ps) zero l = by (cases_lt p (length hs)) where
  by : (p < length hs) ⊎ (length hs ≤ p) → get_or hs p 0 ≤ n
  by (inl less) = all p less
  by (inr past) = let none : get_or hs p 0 ≡ 0 = get_or_past hs p 0 past in omega arith
look_up hs n all (p ∷ ps) (suc k) l = look_up hs n all ps k (omega arith)

bounded : (hs : List ℕ) (fs : List Fact) → ((k : ℕ) → k < length hs → get_or hs k 0 ≤ length hs) → (k : ℕ) → get_or (fold with_height hs fs) k 0 ≤ length hs + length fs
bounded hs [] all k = by (cases_lt k (length hs)) where
  by : (k < length hs) ⊎ (length hs ≤ k) → get_or hs k 0 ≤ length hs + 0
  by (inl less) = let low = all k less in omega arith
  by (inr past) = let none : get_or hs k 0 ≡ 0 = get_or_past hs k 0 past in omega arith
bounded hs (f ∷ fs) all k = let rest = bounded (with_height hs f) fs next k in omega (arith, long) where
  new : ℕ
  new = 1 + greatest (map (λ p. get_or hs p 0) f.premises)

  long : length (with_height hs f) ≡ length hs + 1
  long = length-append hs (new ∷ [])

  low : new ≤ length hs + 1
  low = let most = greatest_within 0 (length hs) (map (λ p. get_or hs p 0) f.premises) (omega arith) (look_up hs (length hs) all f.premises) in omega arith

  by : (j : ℕ) → j < length (with_height hs f) → (j ≡ length hs) ⊎ ((j < length hs) ⊎ (length hs < j)) → get_or (with_height hs f) j 0 ≤ length (with_height hs f)
  by j l (inl e) = let is : get_or (with_height hs f) j 0 ≡ new = get_or_push hs new 0 j (sym e) in omega (arith, long, low)
  by j l (inr (inl less)) = let is : get_or (with_height hs f) j 0 ≡ get_or hs j 0 = get_or_append_left hs (new ∷ []) 0 j less in let old = all j less in omega (arith, long)
  by j l (inr (inr far)) = absurd (omega (arith, long))

  next : (j : ℕ) → j < length (with_height hs f) → get_or (with_height hs f) j 0 ≤ length (with_height hs f)
  next j l = by j l (cases_order j (length hs))

pub height_within : (fs : List Fact) (n : ℕ) → height_of fs n ≤ length fs
height_within fs n = let all = bounded [] fs (λ k l. absurd (omega arith)) n in omega arith

pub greatest_more : (h : ℕ → ℕ) (ps : List ℕ) (i : ℕ) (p : ℕ) → i < length ps → p ≡ get_or ps i 0 → greatest (map h (take (i + 1) ps)) ≡ max (greatest (map h (take i ps))) (h p)
greatest_more h ps i p l is = ap greatest (map_more h ps i 0 l) ∙ fold_push max 0 (map h (take i ps)) (h (get_or ps i 0)) ∙ ap (λ q. max (greatest (map h (take i ps))) (h q)) (sym is)

pub noted_push : (rs : List Noted) (f : Fact) (height : ℕ) → map (λ r. r.height) rs ≡ heights (map (λ r. r.fact) rs) → height ≡ 1 + greatest (map (height_of (map (λ r. r.fact) rs)) f.premises)
    → map (λ r. r.height) (rs ++ (record { fact = f; height = height }) ∷ []) ≡ heights (map (λ r. r.fact) (rs ++ (record { fact = f; height = height }) ∷ []))
noted_push rs f height same is =
    let facts = map (λ r. r.fact) rs in
    map_push (λ r. r.height) rs (record { fact = f; height = height }) ∙ ap (λ hs. hs ++ height ∷ []) same ∙ ap (λ h. heights facts ++ h ∷ []) is
    ∙ sym (ap heights (map_push (λ r. r.fact) rs (record { fact = f; height = height })) ∙ heights_push facts f)

pub noted_within : (rs : List Noted) (id : ℕ) (r : Noted) → map (λ n. n.height) rs ≡ heights (map (λ n. n.fact) rs) → id < length rs → r ≡ get_or rs id r → r.height ≤ length (map (λ n. n.fact) rs)
noted_within rs id r same within is =
    let here : r.height ≡ height_of (map (λ n. n.fact) rs) id = ap (λ n. n.height) is ∙ sym (get_or-map (λ n. n.height) rs id r 0 within) ∙ ap (λ hs. get_or hs id 0) same in
    let low = height_within (map (λ n. n.fact) rs) id in
    omega arith
