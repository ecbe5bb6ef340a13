-- What stands behind the lock, part by part.
use Rattle.std.proofs.Common.{◌≡◌, ℕ, ◌≤◌, Bool, length, Some, None, Ok, Err, Result, OnErr, ap, ◌∙◌, arith}
use Rattle.std.specs.Prelude.{IfSome, Option}
use Rattle.chc_core.specs.Contents.{Contents}
use Rattle.shared_book.specs.Jobs.{Asked}
use Rattle.shared_book.specs.Locks.{Behind}

pub on-err : {X E P : Type 0} (r : Result X E) → P → OnErr r P
on-err (Ok x) h = tt
on-err (Err e) h = h

pub some-map : {A : Type 0} {P Q : A → Type 0} (o : Option A) → IfSome o P → ((a : A) → P a → Q a) → IfSome o Q
some-map None h f = tt
some-map (Some a) h f = f a h

abbrev pub behind : Contents → Bool → ℕ → Behind
behind book noted total = record { book = book; noted = noted; total = total }

pub same-behind : (x y : Contents) (noted : Bool) (t u : ℕ) → x ≡ y → t ≡ u → behind x noted t ≡ behind y noted u
same-behind x y noted t u is same = ap (λ (b : Contents). behind b noted t) is ∙ ap (λ (n : ℕ). behind y noted n) same

-- a job's snapshot is as long as the ledger's total, and so no shorter than a share's count
pub long-enough : (count amount total : ℕ) (b : Contents) (asked : Asked) → amount ≡ count → amount ≤ total → total ≡ length b.journal → asked.snapshot ≡ b → count ≤ length asked.snapshot.journal
long-enough count amount total b asked counted bound long is =
    let same : length asked.snapshot.journal ≡ length b.journal = ap (λ (x : Contents). length x.journal) is in
    omega (arith, counted, bound, long, same)
