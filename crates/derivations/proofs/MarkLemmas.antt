-- What is marked after a step, and what is collected.
use Rattle.std.proofs.Common.{◌≡◌, ℕ, ◌+◌, ◌<◌, ◌≤◌, Bool, true, false, List, [], ◌∷◌, ◌++◌, length, get_or, set, take, drop, replicate, refl, ap, sym, subst, ◌∙◌, arith, inl, inr}
use Rattle.std.specs.Prelude.{◌⊎◌, ◌↔◌}
use Rattle.std.specs.List.{All, Contains}
use Rattle.std.proofs.lemmas.Bool.{cases_eq, cases_lt}
use Rattle.std.proofs.lemmas.List.{append-nil, drop_all, get_or_past, get_or-replicate, get_or-set_same, get_or-set_other, length-replicate, length-set, take_all, take_more}
use mathlib.Core.Bool.{true≢false}
use Rattle.std.proofs.lemmas.List.Elements.{All-contains, Contains-append_left, Contains-get_or, Contains-push, Contains-push_cases}
use Rattle.std.proofs.lemmas.List.Quantifiers.{all_pairs_push}
use Rattle.derivations.specs.declared.fact.Fact.{Fact}
use Rattle.derivations.specs.Facts.{fact_premises, AreRecorded, AreSteps, RestsOn}
use Rattle.derivations.specs.Facts.RestsOn.{itself, through}
use Rattle.derivations.specs.machinery.Marks.{AreCollected, AreMarked, IsMarked}

pub rests_more : {facts : List Fact} {n p : ℕ} (q : ℕ) → RestsOn facts n p → Contains (fact_premises facts p) q → RestsOn facts n q
rests_more q itself has = through q has itself
rests_more q (through r first rest) has = through r first (rests_more q rest has)

rests_marked : {facts : List Fact} {a m : ℕ} (n : ℕ) (marks : List Bool) → AreMarked facts n 0 marks → IsMarked marks a → RestsOn facts a m → IsMarked marks m
rests_marked n marks all marked itself = marked
rests_marked {a = a} n marks all marked (through p has rest) = rests_marked n marks all (all.closed a p (omega arith) marked has) rest

past : (marks : List Bool) (m n : ℕ) → length marks ≡ n + 1 → IsMarked marks m → m ≤ n
past marks m n long marked = by (cases_lt m (n + 1)) where
  by : (m < n + 1) ⊎ (n + 1 ≤ m) → m ≤ n
  by (inl l) = omega arith
  by (inr far) = let out : get_or marks m false ≡ false = get_or_past marks m false (omega arith) in absurd (cc)

pub spread_marked : (facts : List Fact) (n p : ℕ) (old new : List Bool) → AreRecorded facts → n < length facts → p ≤ n → AreMarked facts n (p + 1) old → IsMarked old p → length new ≡ length old
    → ((m : ℕ) → IsMarked new m ↔ (IsMarked old m ⊎ Contains (fact_premises facts p) m)) → AreMarked facts n p new
spread_marked facts n p old new recorded there within all marked long same = record {
  long = long ∙ all.long;
  sound = λ m is. sound m ((same m).0 is);
  first = (same n).1 (inl all.first);
  closed = λ a q le is has. closed a q le (cases_eq a p) ((same a).0 is) has;
} where
  sound : (m : ℕ) → IsMarked old m ⊎ Contains (fact_premises facts p) m → RestsOn facts n m
  sound m (inl is) = all.sound m is
  sound m (inr has) = rests_more m (all.sound p marked) has

  closed : (a q : ℕ) → p ≤ a → (a ≡ p) ⊎ (a ≡ p → ⊥) → IsMarked old a ⊎ Contains (fact_premises facts p) a → Contains (fact_premises facts a) q → IsMarked new q
  closed a q le (inl e) is has = (same q).1 (inr (subst (λ b. Contains (fact_premises facts b) q) e has))
  closed a q le (inr other) (inl is) has = (same q).1 (inl (all.closed a q (omega (arith, other)) is has))
  closed a q le (inr other) (inr mine) has =
      let less = All-contains (λ x. x < p) (fact_premises facts p) a (recorded.earlier p (omega arith)) mine in
      absurd (omega arith)

pub spread_unmarked : (facts : List Fact) (n p : ℕ) (marks : List Bool) → AreMarked facts n (p + 1) marks → get_or marks p false ≡ false → AreMarked facts n p marks
spread_unmarked facts n p marks all not_marked = record {
  long = all.long;
  sound = all.sound;
  first = all.first;
  closed = λ a q le is has. closed a q le (cases_eq a p) is has;
} where
  closed : (a q : ℕ) → p ≤ a → (a ≡ p) ⊎ (a ≡ p → ⊥) → IsMarked marks a → Contains (fact_premises facts a) q → IsMarked marks q
  closed a q le (inl e) is has = (let no : get_or marks a false ≡ false = subst (λ b. get_or marks b false ≡ false) (sym e) not_marked in absurd (cc))
  closed a q le (inr other) is has = all.closed a q (omega (arith, other)) is has

pub premises_within : (facts : List Fact) (n p : ℕ) (marks : List Bool) → AreRecorded facts → n < length facts → p ≤ n → AreMarked facts n (p + 1) marks → All (λ q. q < length marks) (fact_premises facts p)
premises_within facts n p marks recorded there within all k d l =
    let less = recorded.earlier p (omega arith) k d l in
    let long = all.long in omega arith

pub first_marked : (facts : List Fact) (n : ℕ) (marks : List Bool) → length marks ≡ n + 1 → ((m : ℕ) → IsMarked marks m ↔ (m ≡ n)) → AreMarked facts n (n + 1) marks
first_marked facts n marks long same = record {
  long = long;
  sound = λ m is. subst (λ k. RestsOn facts n k) (sym ((same m).0 is)) itself;
  first = (same n).1 refl;
  closed = λ a q le is has. (let e = (same a).0 is in absurd (omega arith));
}

pub collected_none : (marks : List Bool) → AreCollected marks 0 []
collected_none marks = record { order = λ i j d l in'. absurd (omega arith); exact = λ m. (none m, λ both. (let l = both.0 in absurd (omega arith))) } where
  none : (m : ℕ) → Contains [] m → (m < 0) × IsMarked marks m
  none m (i, l, is) = absurd (omega arith)

pub collected_push : (marks : List Bool) (i : ℕ) (steps : List ℕ) → AreCollected marks i steps → IsMarked marks i → AreCollected marks (i + 1) (steps ++ i ∷ [])
collected_push marks i steps all marked = record {
  order = all_pairs_push (λ x y. x < y) steps i all.order (λ j d l. ((all.exact (get_or steps j d)).0 (Contains-get_or steps j d l)).0);
  exact = λ m. (λ has. front m (Contains-push_cases steps i m has), λ both. back m both (cases_eq m i));
} where
  front : (m : ℕ) → Contains steps m ⊎ (i ≡ m) → (m < i + 1) × IsMarked marks m
  front m (inl has) = (let both = (all.exact m).0 has in (let l = both.0 in omega arith, both.1))
  front m (inr e) = (omega arith, subst (λ k. IsMarked marks k) e marked)

  back : (m : ℕ) → (m < i + 1) × IsMarked marks m → (m ≡ i) ⊎ (m ≡ i → ⊥) → Contains (steps ++ i ∷ []) m
  back m both (inl e) = subst (λ k. Contains (steps ++ i ∷ []) k) (sym e) (Contains-push steps i)
  back m both (inr other) = (let l = both.0 in Contains-append_left steps (i ∷ []) m ((all.exact m).1 (omega (arith, other), both.1)))

pub collected_skip : (marks : List Bool) (i : ℕ) (steps : List ℕ) → AreCollected marks i steps → get_or marks i false ≡ false → AreCollected marks (i + 1) steps
collected_skip marks i steps all out = record {
  order = all.order;
  exact = λ m. (λ has. (let both = (all.exact m).0 has in (let l = both.0 in omega arith, both.1)), λ both. back m both (cases_eq m i));
} where
  back : (m : ℕ) → (m < i + 1) × IsMarked marks m → (m ≡ i) ⊎ (m ≡ i → ⊥) → Contains steps m
  back m both (inl e) = (let yes = both.1 in let no : get_or marks m false ≡ false = subst (λ k. get_or marks k false ≡ false) (sym e) out in absurd (cc))
  back m both (inr other) = (let l = both.0 in (all.exact m).1 (omega (arith, other), both.1))

pub all_steps : (facts : List Fact) (n i : ℕ) (marks : List Bool) (steps : List ℕ) → AreMarked facts n 0 marks → n < i → AreCollected marks i steps → AreSteps facts n steps
all_steps facts n i marks steps marked far all = record {
  order = all.order;
  exact = λ m. (λ has. marked.sound m ((all.exact m).0 has).1, λ rests. (let is = rests_marked n marks marked marked.first rests in let near = past marks m n marked.long is in (all.exact m).1 (omega arith, is)));
}

-- one more mark
pub mark_more : (old now : List Bool) (numbers : List ℕ) (i number : ℕ) → i < length numbers → number ≡ get_or numbers i 0 → number < length now
    → ((m : ℕ) → IsMarked now m ↔ (IsMarked old m ⊎ Contains (take i numbers) m)) → (m : ℕ) → IsMarked (set now number true) m ↔ (IsMarked old m ⊎ Contains (take (i + 1) numbers) m)
mark_more old now numbers i number in' is within same m = (λ marked. front (cases_eq m number) marked, λ told. back (cases_eq m number) told) where
  longer : take (i + 1) numbers ≡ take i numbers ++ number ∷ []
  longer = take_more numbers i 0 in' ∙ ap (λ x. take i numbers ++ x ∷ []) (sym is)

  more : IsMarked old m ⊎ Contains (take i numbers) m → IsMarked old m ⊎ Contains (take (i + 1) numbers) m
  more (inl marked) = inl marked
  more (inr has) = inr (subst (λ xs. Contains xs m) (sym longer) (Contains-append_left (take i numbers) (number ∷ []) m has))

  front : (m ≡ number) ⊎ (m ≡ number → ⊥) → IsMarked (set now number true) m → IsMarked old m ⊎ Contains (take (i + 1) numbers) m
  front (inl e) marked = inr (subst (λ xs. Contains xs m) (sym longer) (subst (λ k. Contains (take i numbers ++ number ∷ []) k) (sym e) (Contains-push (take i numbers) number)))
  front (inr other) marked = more ((same m).0 (sym (get_or-set_other now number m true false other) ∙ marked))

  here : (m ≡ number) → IsMarked (set now number true) m
  here e = subst (λ k. IsMarked (set now number true) k) (sym e) (get_or-set_same now number true false within)

  kept : (m ≡ number) ⊎ (m ≡ number → ⊥) → IsMarked now m → IsMarked (set now number true) m
  kept (inl e) marked = here e
  kept (inr other) marked = get_or-set_other now number m true false other ∙ marked

  last : (m ≡ number) ⊎ (m ≡ number → ⊥) → Contains (take i numbers) m ⊎ (number ≡ m) → IsMarked (set now number true) m
  last c (inl has) = kept c ((same m).1 (inr has))
  last c (inr e) = here (sym e)

  back : (m ≡ number) ⊎ (m ≡ number → ⊥) → IsMarked old m ⊎ Contains (take (i + 1) numbers) m → IsMarked (set now number true) m
  back c (inl marked) = kept c ((same m).1 (inl marked))
  back c (inr has) = last c (Contains-push_cases (take i numbers) number m (subst (λ xs. Contains xs m) longer has))

pub mark_none : (old : List Bool) (m : ℕ) → IsMarked old m ↔ (IsMarked old m ⊎ Contains {X = ℕ} [] m)
mark_none old m = (λ marked. inl marked, back) where
  back : IsMarked old m ⊎ Contains {X = ℕ} [] m → IsMarked old m
  back (inl marked) = marked
  back (inr (k, l, is)) = absurd (omega arith)

-- one mark alone
pub one_long : (n : ℕ) → length (set (replicate (n + 1) false) n true) ≡ n + 1
one_long n = length-set (replicate (n + 1) false) n true ∙ length-replicate (n + 1) false

pub one_marked : (n m : ℕ) → IsMarked (set (replicate (n + 1) false) n true) m ↔ (m ≡ n)
one_marked n m = (λ marked. front (cases_eq m n) marked, λ e. subst (λ k. IsMarked (set none n true) k) (sym e) (get_or-set_same none n true false (omega (arith, long)))) where
  none : List Bool
  none = replicate (n + 1) false

  long : length none ≡ n + 1
  long = length-replicate (n + 1) false

  not_there : (m < n + 1) ⊎ (n + 1 ≤ m) → get_or none m false ≡ false
  not_there (inl less) = get_or-replicate (n + 1) m false false less
  not_there (inr past') = get_or_past none m false (omega (arith, long))

  front : (m ≡ n) ⊎ (m ≡ n → ⊥) → IsMarked (set none n true) m → m ≡ n
  front (inl e) marked = e
  front (inr other) marked = absurd (true≢false (sym marked ∙ get_or-set_other none n m true false other ∙ not_there (cases_lt m (n + 1))))

-- what is written through a slice of all marks is all of them
pub written : (new old : List Bool) (n : ℕ) → length new ≡ n → length old ≡ n → take n (new ++ drop (length new) old) ≡ new
written new old n long-new long-old =
    ap (λ rest. take n (new ++ rest)) (drop_all (length new) old (omega (arith, long-new, long-old))) ∙ ap (λ xs. take n xs) (append-nil new) ∙ take_all n new (omega (arith, long-new))
