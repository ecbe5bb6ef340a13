-- Books that go on, and their thin cubes.
use Rattle.std.proofs.Common.{◌≡◌, ℕ, ◌<◌, suc, List, [], ◌∷◌, length, false, arith}
use Rattle.lemma_frames.specs.Frames.{lemma_of}
use Rattle.lemma_frames.specs.declared.framed.Framed.{Framed}
use Rattle.obligation_tree.specs.Nodes.{node_at, obligation_in}
use Rattle.obligation_tree.specs.declared.node.Node.{Node}
use Rattle.book_rules.specs.Areas.{is_wide}
use Rattle.book_rules.specs.Kept.{AreRecorded, IsOrdered}
use Rattle.step_rules.specs.Standing.{IsStanding, Standing}
use Rattle.step_rules.specs.declared.step.Step.{Step}
use Rattle.chc_core.specs.Contents.{Contents}
use Rattle.chc_core.specs.Views.{standing_of, state_of}
use Rattle.obligation_turn.specs.Turns.{GoesOn, IsOpenLeaf, IsTurn}
use Rattle.test_turns.specs.Led.{AreThin, HaveThin, IsFree, IsGiven, IsOn}

pub on-goes : (b : Contents) → IsOn b → IsStanding (standing_of b) → IsOrdered (state_of b) → AreRecorded b.system [] (state_of b).facts → GoesOn (standing_of b)
on-goes b on standing ordered recorded = record { few = (on.can_run).few; standing = standing; ordered = ordered; recorded = recorded; goes_on = on.goes_on; thin = on.thin }

pub free-leaf : (b : Standing) (job : ℕ) → IsFree b.tree.nodes job → IsOpenLeaf b job
free-leaf b job free = record { there = free.there; live = free.live; leaf = free.leaf; unmarked = free.unmarked }

pub turn-given : (b : Standing) (job nodes : ℕ) (step : Step) → IsTurn b job nodes step → IsGiven b step
turn-given b job nodes step turn = record { unbroken = turn.unbroken; made = turn.made; places = turn.places; thin = turn.thin }

-- each cube is thin, so all are

pub lemmas-thin : (fs : List Framed) → ((k : ℕ) → k < length fs → is_wide (lemma_of fs k) ≡ false) → AreThin fs
lemmas-thin [] f = tt
lemmas-thin (x ∷ fs) f = (f 0 (omega arith), lemmas-thin fs (λ k less. f (suc k) (omega (arith, less))))

pub nodes-thin : (nodes : List Node) → ((k : ℕ) → k < length nodes → is_wide (obligation_in (node_at nodes k)).cube ≡ false) → HaveThin nodes
nodes-thin [] f = tt
nodes-thin (x ∷ nodes) f = (f 0 (omega arith), nodes-thin nodes (λ k less. f (suc k) (omega (arith, less))))
