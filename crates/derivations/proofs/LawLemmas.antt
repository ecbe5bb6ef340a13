-- Heights by their premises, and what the steps to a fact have.
use Rattle.std.proofs.Common.{◌≡◌, ℕ, zero, suc, ◌+◌, ◌-◌, ◌<◌, ◌≤◌, List, [], ◌∷◌, map, length, get_or, None, refl, ap, sym, subst, ◌∙◌, arith, inl, inr}
use Rattle.std.specs.Prelude.{◌⊎◌}
use Rattle.std.specs.List.{All, Contains, fold}
use Rattle.std.proofs.lemmas.Bool.{cases_lt}
use Rattle.std.proofs.lemmas.List.{length-append, get_or_append_left, get_or_default, get_or_push}
use Rattle.std.proofs.lemmas.List.Elements.{All-contains, Contains-get_or}
use Rattle.derivations.specs.declared.fact.Fact.{Fact}
use Rattle.derivations.specs.Facts.{greatest, height_of, pred_of, fact_premises, with_height, AreRecorded, AreSteps, RestsOn}
use Rattle.derivations.specs.Facts.RestsOn.{itself, through}
use Rattle.derivations.proofs.InsertLemmas.{map_members}
use Rattle.derivations.proofs.MarkLemmas.{rests_more}

pub once : (facts : List Fact) (m n : ℕ) → AreRecorded facts → m < length facts → n < length facts → pred_of facts m ≡ None → pred_of facts n ≡ None → m ≡ n
once facts m n recorded lm ln pm pn = recorded.distinct m n lm ln (pm ∙ sym pn) (recorded.bare m lm pm ∙ sym (recorded.bare n ln pn))

-- later facts change no height
keeps : (hs : List ℕ) (fs : List Fact) (k : ℕ) → k < length hs → get_or (fold with_height hs fs) k 0 ≡ get_or hs k 0
keeps hs [] k l = refl
keeps hs (f ∷ fs) k l =
    let h = 1 + greatest (map (λ p. get_or hs p 0) f.premises) in
    let long = length-append hs (h ∷ []) in
    keeps (with_height hs f) fs k (omega (arith, long)) ∙ get_or_append_left hs (h ∷ []) 0 k l

above : (hs : List ℕ) (fs : List Fact) (n m : ℕ) → n < length fs → m ≡ length hs + n → All (λ p. p < m) (get_or (map (λ f. f.premises) fs) n [])
    → get_or (fold with_height hs fs) m 0 ≡ 1 + greatest (map (λ p. get_or (fold with_height hs fs) p 0) (get_or (map (λ f. f.premises) fs) n []))
above hs [] n m l at earlier = absurd (omega arith)
above hs (f ∷ fs) zero m l at earlier =
    let h = 1 + greatest (map (λ p. get_or hs p 0) f.premises) in
    let all = fold with_height (with_height hs f) fs in
    let long = length-append hs (h ∷ []) in
    let here : get_or all m 0 ≡ h = keeps (with_height hs f) fs m (omega (arith, long)) ∙ get_or_push hs h 0 m (omega arith) in
    here ∙ ap (λ xs. 1 + greatest xs) (map_members (λ p. get_or hs p 0) (λ p. get_or all p 0) f.premises (λ p has. (let less = All-contains (λ q. q < m) f.premises p earlier has in sym (keeps hs (f ∷ fs) p (omega arith)))))
above hs (f ∷ fs) (suc n) m l at earlier =
    let h = 1 + greatest (map (λ p. get_or hs p 0) f.premises) in
    let long = length-append hs (h ∷ []) in
    above (with_height hs f) fs n m (omega arith) (omega (arith, long)) earlier

pub height_above : (facts : List Fact) (n : ℕ) → AreRecorded facts → n < length facts → height_of facts n ≡ 1 + greatest (map (height_of facts) (fact_premises facts n))
height_above facts n recorded there = above [] facts n n there (omega arith) (recorded.earlier n there)

rests_below : {facts : List Fact} {n m : ℕ} → AreRecorded facts → n < length facts → RestsOn facts n m → m ≤ n
rests_below recorded there itself = omega arith
rests_below {facts} {n = n} {m = m} recorded there (through p has rest) =
    let less = All-contains (λ q. q < n) (fact_premises facts n) p (recorded.earlier n there) has in
    let low = rests_below recorded (omega arith) rest in
    omega arith

pub steps_last : (facts : List Fact) (n : ℕ) (steps : List ℕ) → AreRecorded facts → n < length facts → AreSteps facts n steps → (0 < length steps) × (get_or steps (length steps - 1) 0 ≡ n)
steps_last facts n steps recorded there are = by ((are.exact n).1 itself) where
  at : (k : ℕ) → k < length steps → get_or steps k n ≡ n → (k + 1 < length steps) ⊎ (length steps ≤ k + 1) → get_or steps (length steps - 1) 0 ≡ n
  at k l is (inr end) = (let same : length steps - 1 ≡ k = omega arith in ap (λ j. get_or steps j 0) same ∙ get_or_default steps k 0 n l ∙ is)
  at k l is (inl more) =
      let last = length steps - 1 in
      let in' : last < length steps = omega arith in
      let up = are.order k last n (omega arith) in' in
      let low = rests_below recorded there ((are.exact (get_or steps last n)).0 (Contains-get_or steps last n in')) in
      let up' : n < get_or steps last n = subst (λ x. x < get_or steps last n) is up in
      absurd (omega arith)

  by : Contains steps n → (0 < length steps) × (get_or steps (length steps - 1) 0 ≡ n)
  by (k, l, is) = (omega arith, at k l is (cases_lt (k + 1) (length steps)))

pub steps_closed : (facts : List Fact) (n m p : ℕ) (steps : List ℕ) → AreSteps facts n steps → Contains steps m → Contains (fact_premises facts m) p → Contains steps p
steps_closed facts n m p steps are has premise = (are.exact p).1 (rests_more p ((are.exact m).0 has) premise)
