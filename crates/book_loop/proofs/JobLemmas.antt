-- The first of the live obligations without live children that aren't stalled: there is one as long as the book goes on.
use Rattle.std.proofs.Common.{◌≡◌, ℕ, ◌+◌, List, Bool, true, false, cond, Some, None, refl, sym, ◌∙◌}
use Rattle.std.specs.Prelude.{IfSome, Option}
use Rattle.std.specs.List.{list_all}
use Rattle.obligation_tree.specs.Nodes.{leaf_numbers}
use Rattle.obligation_tree.specs.declared.node.Node.{Node}
use Rattle.book_rules.specs.declared.end.End.{End}
use Rattle.book_rules.specs.declared.end.End.TheVariants.{Stalled}
use Rattle.book_rules.specs.Legal.{all_stalled_from, end, sat, spent, stuck, unsat}
use Rattle.book_rules.specs.Rooted.{IsRooted}
use Rattle.book_rules.specs.State.{State}
use Rattle.book_rules.specs.Walks.{or_else}
use Rattle.book_rules.proofs.ListLemmas.{true_not_false}
use Rattle.step_rules.specs.Standing.{Standing}
use Rattle.step_rules.specs.Views.{facts_of, obligations_of}
use Rattle.chc_core.specs.Contents.{Contents}
use Rattle.chc_core.specs.Views.{state_of}
use Rattle.chc_core.proofs.EndLemmas.{stuck_is}
use Rattle.obligation_turn.specs.Turns.{IsOpenLeaf}
use Rattle.search_strategy.specs.Jobs.{IsFirst}
use Rattle.search_strategy.specs.machinery.Choosing.{is_behind}
use Rattle.search_strategy.proofs.JobLemmas.{behind-first, live_leaf, open_leaf}
use Rattle.book_loop.specs.machinery.Jobs.{AreStalled, IsJob, is_stalled}

-- the first so far, once all were looked at
pub first-leaf : (nodes : List Node) (best : Option ℕ) → IfSome best (IsJob nodes) → list_all (is_behind nodes (is_stalled nodes) best) (leaf_numbers nodes) ≡ true → IfSome best (IsFirst nodes (IsJob nodes))
first-leaf nodes None job h = tt
first-leaf nodes (Some n) job h = record { fits = job; first = λ m fit. behind-first nodes (is_stalled nodes) n m h fit.is_leaf fit.unmarked }

pub first-open : (b : Standing) (job : ℕ) → IsFirst b.tree.nodes (IsJob b.tree.nodes) job → IsFirst b.tree.nodes (IsOpenLeaf b) job
first-open b job h = record {
  fits = open_leaf b job (h.fits).is_leaf (h.fits).unmarked;
  first = λ m fit. h.first m (record { is_leaf = live_leaf b m fit; unmarked = fit.unmarked });
}

-- a book that goes on isn't stuck

second_none : (first second : Option End) → or_else first second ≡ None → second ≡ None
second_none None second h = h
second_none (Some x) second h = absurd (cc)

not_stuck : (s : State) → end s ≡ None → all_stalled_from s.obligations 0 s.obligations ≡ false
not_stuck s h = by (all_stalled_from s.obligations 0 s.obligations) (second_none (spent s) (stuck s) (second_none (sat s) _ (second_none (unsat s) _ h))) where
  by : (b : Bool) → cond {A = Option End} b (Some Stalled) None ≡ None → b ≡ false
  by true e = absurd (cc)
  by false e = refl

pub some_job : (b : Contents) → IsRooted (state_of b) → end (state_of b) ≡ None → AreStalled b.tree.nodes → ⊥
some_job b rooted goes all =
    let told = stuck_is (b.level + 1) (facts_of b.facts) b.tree.nodes rooted in
    true_not_false (all_stalled_from (obligations_of b.tree.nodes) 0 (obligations_of b.tree.nodes)) (sym told ∙ all) (not_stuck (state_of b) goes)
