use Rattle.std.proofs.Common.{◌≡◌, ◌||◌, ℕ, take}
use Rattle.std.specs.Ordering.{nat_cmp}
use Rattle.std.specs.BTreeSet.{contains}
use Rattle.term_tree.specs.Subterms.{is_among}
use Rattle.term_tree.proofs.pending.put_all.Given as goal

abbrev pub invariant-loop-id : goal.invariant-loop-id
invariant-loop-id l = (q : ℕ) → contains nat_cmp l.numbers q ≡ (contains nat_cmp l.fn.numbers q || is_among q (take l.id-index l.ids))
