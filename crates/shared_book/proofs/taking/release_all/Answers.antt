use Rattle.std.proofs.Common.{◌≡◌, ℕ, ◌+◌, ◌-◌, None, ap, ◌∙◌, arith, get_or, set, sym}
use Rattle.chc_core.specs.Contents.{Contents}
use Rattle.shared_book.specs.Locks.{with_claims}
use Rattle.shared_book.proofs.ListLemmas.{cleared}
use Rattle.shared_book.proofs.taking.release_all.Goals as goal

pub loop-worker-preserved : goal.loop-worker-preserved
loop-worker-preserved c =
    let w = c.loop-worker.worker in
    let old = c.loop-worker.book in
    let claims = old.tree.claims in
    let at : w + 1 - 1 ≡ w = omega arith in
    let now : c.release.new.self ≡ with_claims (set claims w None) old = c.release.ensures ∙ ap (λ (n : ℕ). with_claims (set claims n None) old) at in
    record {
      is = now ∙ ap (λ (b : Contents). with_claims (set claims w None) b) c.loop-worker.invariant.is ∙ ap (λ (b : Contents). with_claims b.tree.claims c.args.book.now) (sym now);
      free = λ i lt. ap (λ (b : Contents). get_or b.tree.claims i None) now ∙ cleared claims w i (c.loop-worker.invariant.free i) lt;
    }
