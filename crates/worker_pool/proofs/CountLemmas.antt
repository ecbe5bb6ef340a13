-- Entries of a journal, counted by worker: together they are all.
use Rattle.std.proofs.Common.{◌≡◌, ℕ, zero, suc, ◌+◌, ◌<◌, ◌≤◌, List, [], ◌∷◌, ◌++◌, Bool, true, false, cond, get_or, length, map, set, take, refl, ap, sym, ◌∙◌, subst, arith}
use Rattle.std.specs.Prelude.{◌==◌, sum, sum_by}
use Rattle.std.specs.List.{range_with_len}
use Rattle.std.proofs.lemmas.Bool.Decides.{nat_tests}
use Rattle.std.proofs.lemmas.List.{get_or-map, length-map, take_all, take_more, take_more_set}
use Rattle.std.proofs.lemmas.List.FromFn.{get_or-range_with_len, length-range_with_len}
use Rattle.std.proofs.lemmas.List.Sums.{sum-map, sum_by-cons, sum_by_more}
use Rattle.book_rules.specs.Walks.{AllOf}
use Rattle.chc_core.specs.declared.entry.Entry.{Entry}
use Rattle.shared_book.specs.Runs.{IsEntry}
use Rattle.worker_pool.specs.Counts.{counts_of, entries_of}

-- one more entry

pub entry-more : (journal : List Entry) (worker i j : ℕ) (e : Entry) (b : Bool) → i < length journal → j ≡ i → e ≡ get_or journal j e → (e.worker == worker) ≡ b
    → entries_of (take (i + 1) journal) worker ≡ entries_of (take i journal) worker + cond b 1 0
entry-more journal worker i j e b within at is hit =
    let here : e ≡ get_or journal i e = is ∙ ap (λ (n : ℕ). get_or journal n e) at in
    sum_by_more (λ (x : Entry). cond (x.worker == worker) 1 0) journal i e within
    ∙ ap (λ (c : Bool). entries_of (take i journal) worker + cond c 1 0) (ap (λ (x : Entry). x.worker == worker) (sym here) ∙ hit)

pub entries-all : (journal : List Entry) (worker i : ℕ) → length journal ≤ i → entries_of (take i journal) worker ≡ entries_of journal worker
entries-all journal worker i past = ap (λ (es : List Entry). entries_of es worker) (take_all i journal past)

-- one more worker

written_more : {X : Type 0} (f : X → ℕ) (xs : List X) (counts : List ℕ) (at n : ℕ) (x : X) → at < length xs → length counts ≡ length xs → take at counts ≡ take at (map f xs)
    → n ≡ f x → x ≡ get_or xs at x → take (at + 1) (set counts at n) ≡ take (at + 1) (map f xs)
written_more f xs counts at n x within long written is read =
    let there : at < length counts = omega (arith, within, long) in
    let mapped : at < length (map f xs) = subst (λ (k : ℕ). at < k) (sym (length-map xs f)) within in
    let here : n ≡ get_or (map f xs) at 0 = is ∙ ap f read ∙ sym (get_or-map f xs at x 0 within) in
    take_more_set counts at n there ∙ ap (λ (ns : List ℕ). ns ++ n ∷ []) written ∙ ap (λ (k : ℕ). take at (map f xs) ++ k ∷ []) here ∙ sym (take_more (map f xs) at 0 mapped)

pub count-more : (workers : ℕ) (journal : List Entry) (counts : List ℕ) (at n : ℕ) → at < workers → length counts ≡ workers → take at counts ≡ take at (counts_of workers journal)
    → n ≡ entries_of journal (at + 1) → take (at + 1) (set counts at n) ≡ take (at + 1) (counts_of workers journal)
count-more workers journal counts at n within long written is =
    let all = range_with_len 1 workers in
    let own : length all ≡ workers = length-range_with_len 1 workers in
    let there : at < length all = omega (arith, within, own) in
    let same : length counts ≡ length all = long ∙ sym own in
    let place : at + 1 ≡ get_or all at (at + 1) = sym (get_or-range_with_len 1 workers at (at + 1) within ∙ omega arith) in
    written_more (entries_of journal) all counts at n (at + 1) there same written is place

pub counts-all : (workers : ℕ) (journal : List Entry) (counts : List ℕ) (at : ℕ) → workers ≤ at → length counts ≡ workers → take at counts ≡ take at (counts_of workers journal) → counts ≡ counts_of workers journal
counts-all workers journal counts at past long written =
    let own = length-map (range_with_len 1 workers) (entries_of journal) ∙ length-range_with_len 1 workers in
    sym (take_all at counts (omega (arith, past, long))) ∙ written ∙ take_all at (counts_of workers journal) (omega (arith, past, own))

pub counts-long : (workers : ℕ) (journal : List Entry) → length (counts_of workers journal) ≡ workers
counts-long workers journal = length-map (range_with_len 1 workers) (entries_of journal) ∙ length-range_with_len 1 workers

-- together

differ : (k n : ℕ) → k < n → (k == n) ≡ false
differ k n h = grind (arith, nat_tests, h)

later : (k n : ℕ) → (k == n) ≡ false → n ≤ k → n + 1 ≤ k
later k n h le = grind (arith, nat_tests, h, le)

equal : (k n : ℕ) → (k == n) ≡ true → k ≡ n
equal k n h = grind (arith, nat_tests, h)

no_hit : (k first count : ℕ) → k < first → sum_by (λ (w : ℕ). cond (k == w) 1 0) (range_with_len first count) ≡ 0
no_hit k first zero below = refl
no_hit k first (suc count) below =
    sum_by-cons (λ (w : ℕ). cond (k == w) 1 0) first (range_with_len (first + 1) count)
    ∙ ap (λ (b : Bool). cond b 1 0 + sum_by (λ (w : ℕ). cond (k == w) 1 0) (range_with_len (first + 1) count)) (differ k first below)
    ∙ ap (λ (n : ℕ). 0 + n) (no_hit k (first + 1) count (omega (arith, below)))

one_hit : (k first count : ℕ) → first ≤ k → k < first + count → sum_by (λ (w : ℕ). cond (k == w) 1 0) (range_with_len first count) ≡ 1
one_hit k first zero low high = absurd (omega (arith, low, high))
one_hit k first (suc count) low high =
    sum_by-cons (λ (w : ℕ). cond (k == w) 1 0) first (range_with_len (first + 1) count) ∙ by (λ more. one_hit k (first + 1) count more (omega (arith, high))) (k == first) refl where
      by : (first + 1 ≤ k → sum_by (λ (w : ℕ). cond (k == w) 1 0) (range_with_len (first + 1) count) ≡ 1) → (b : Bool) → (k == first) ≡ b
          → cond b 1 0 + sum_by (λ (w : ℕ). cond (k == w) 1 0) (range_with_len (first + 1) count) ≡ 1
      by rest true is = let same = equal k first is in ap (λ (n : ℕ). 1 + n) (no_hit k (first + 1) count (omega (arith, same)))
      by rest false is = ap (λ (n : ℕ). 0 + n) (rest (later k first is low))

-- one entry more, for each worker
each_more : (e : Entry) (journal : List Entry) (xs : List ℕ) → sum_by (entries_of (e ∷ journal)) xs ≡ sum_by (λ (w : ℕ). cond (e.worker == w) 1 0) xs + sum_by (entries_of journal) xs
each_more e journal [] = refl
each_more e journal (w ∷ xs) =
    let here = sum_by-cons (entries_of (e ∷ journal)) w xs in
    let entry = sum_by-cons (λ (x : Entry). cond (x.worker == w) 1 0) e journal in
    let hits = sum_by-cons (λ (v : ℕ). cond (e.worker == v) 1 0) w xs in
    let rest = sum_by-cons (entries_of journal) w xs in
    let more = each_more e journal xs in
    omega (arith, here, entry, hits, rest, more)

none_yet : (xs : List ℕ) → sum_by (entries_of []) xs ≡ 0
none_yet [] = refl
none_yet (w ∷ xs) = sum_by-cons (entries_of []) w xs ∙ ap (λ (n : ℕ). 0 + n) (none_yet xs)

all_counted : (workers nodes : ℕ) (journal : List Entry) → AllOf (IsEntry workers nodes) journal → sum_by (entries_of journal) (range_with_len 1 workers) ≡ length journal
all_counted workers nodes [] h = none_yet (range_with_len 1 workers)
all_counted workers nodes (e ∷ journal) h =
    let own = h.0 in
    let low = own.first in
    let high = own.last in
    let one = one_hit e.worker 1 workers (omega (arith, low)) (omega (arith, high)) in
    let rest = all_counted workers nodes journal h.1 in
    let more = each_more e journal (range_with_len 1 workers) in
    omega (arith, one, rest, more)

pub counts-sum : (workers nodes : ℕ) (journal : List Entry) → AllOf (IsEntry workers nodes) journal → sum (counts_of workers journal) ≡ length journal
counts-sum workers nodes journal h = sum-map (entries_of journal) (range_with_len 1 workers) ∙ all_counted workers nodes journal h
