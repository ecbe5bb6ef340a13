-- The entries of one worker alone are those of a run with one worker.
use Rattle.std.proofs.Common.{◌≡◌, ℕ, ◌<◌, ◌≤◌, List, [], ◌∷◌, sym, subst, arith}
use Rattle.book_rules.specs.Walks.{AllOf}
use Rattle.chc_core.specs.declared.entry.Entry.{Entry}
use Rattle.shared_book.specs.Runs.{IsEntry}
use Rattle.book_loop.specs.Runs.{IsOwn}

own_entry : (workers nodes : ℕ) (e : Entry) → workers ≡ 1 → IsOwn nodes e → IsEntry workers nodes e
own_entry workers nodes e one h = let is = h.worker in record { first = omega (arith, is); last = omega (arith, is, one); counts = h.counts }

pub own-entries : (workers nodes : ℕ) (journal : List Entry) → workers ≡ 1 → AllOf (IsOwn nodes) journal → AllOf (IsEntry workers nodes) journal
own-entries workers nodes [] one h = tt
own-entries workers nodes (e ∷ journal) one h = (own_entry workers nodes e one h.0, own-entries workers nodes journal one h.1)
