use Rattle.std.proofs.Common.{ap, arith, length, refl, sym, ◌∙◌, true}
use Rattle.chc_core.specs.Contents.{Contents}
use Rattle.shared_book.specs.Locks.{Behind, released_by}
use Rattle.shared_book.proofs.LockLemmas.{same-behind}
use Rattle.shared_book.proofs.RunLemmas.{run-claims}
use Rattle.shared_book.proofs.locked.Locked.note.Goals as goal

pub release-requires-clause-last : goal.release-requires-clause-last
release-requires-clause-last g c =
    let last = c.args.share.now.last in
    let most = c.args.share.now.most in
    omega (arith, last, most)

pub invariant_of-self : goal.invariant_of-self
invariant_of-self g c =
    let is = c.release.ensures in
    (run-claims _ _ _ _ c.self.inside.book c.release.new.self _ is c.self.invariant.0, c.self.invariant.1 ∙ ap (λ (b : Contents). length b.journal) (sym {b = released_by c.args.share.now.worker c.self.inside.book} is))

pub returns-clause-noted : goal.returns-clause-noted
returns-clause-noted g c =
    same-behind c.release.new.self (released_by c.args.share.now.worker c.self.inside.book) true _ _ c.release.ensures refl
    ∙ ap (λ (l : Behind). record l { book = released_by c.args.share.now.worker l.book; noted = true }) c.self.view_is
