-- How many entries of a journal each worker wrote.
use Rattle.std.specs.Prelude.{◌==◌, ℕ, List, count_by, map}
use Rattle.std.specs.List.{range_with_len}
use Rattle.chc_core.specs.declared.entry.Entry.{Entry}

-- how many entries of the journal the worker of that number wrote
abbrev pub entries_of : List Entry → ℕ → ℕ
entries_of journal worker = count_by (λ (e : Entry). e.worker == worker) journal

-- those of the workers from 1 on, in their order
abbrev pub counts_of : ℕ → List Entry → List ℕ
counts_of workers journal = map (entries_of journal) (range_with_len 1 workers)
