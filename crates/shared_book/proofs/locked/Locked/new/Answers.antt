use Rattle.std.proofs.Common.{List, length, ap, sym, ◌∙◌}
use Rattle.chc_core.specs.Contents.{Contents}
use Rattle.chc_core.specs.declared.entry.Entry.{Entry}
use Rattle.shared_book.proofs.RunLemmas.{run-claims}
use Rattle.shared_book.proofs.locked.Locked.new.Goals as goal

pub invariant_of-result : goal.invariant_of-result
invariant_of-result g c =
    let now = c.release_all.new.book in
    let journal = ap (λ (b : Contents). length b.journal) c.release_all.ensures.is ∙ ap (λ (j : List Entry). length j) c.requires.new in
    (run-claims _ _ _ _ c.args.book now now.tree.claims c.release_all.ensures.is c.requires.run, c.requires.total ∙ sym journal)
