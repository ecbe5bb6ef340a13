-- Claims of one worker after another, and the first of the leaves that no other worker holds.
use Rattle.std.proofs.Common.{◌≡◌, ℕ, ◌-◌, ◌<◌, List, length, Bool, true, false, not, ◌||◌, Some, None, refl, ap, sym, ◌∙◌}
use Rattle.std.specs.Prelude.{IfSome, Option, if◌then◌else◌}
use Rattle.std.specs.Bool.{OnFalse, OnTrue}
use Rattle.std.specs.List.{list_all, list_any}
use Rattle.std.proofs.lemmas.List.{set-set}
use Rattle.obligation_tree.specs.Claims.{claimed, is_claim_of, is_held_by_another}
use Rattle.obligation_tree.specs.Nodes.{is_stalled_in, leaf_numbers, node_at}
use Rattle.obligation_tree.specs.declared.node.Node.{Node}
use Rattle.chc_core.specs.Contents.{Contents}
use Rattle.chc_core.specs.Views.{standing_of}
use Rattle.obligation_turn.specs.Turns.{IsOpenLeaf}
use Rattle.search_strategy.specs.Jobs.{IsFirst}
use Rattle.search_strategy.specs.machinery.Choosing.{first_of, is_behind, next_first}
use Rattle.search_strategy.proofs.JobLemmas.{behind-first, behind-out, live_leaf}
use Rattle.shared_book.specs.Jobs.{AreHeld, IsFree}
use Rattle.shared_book.specs.Locks.{claimed_by, with_claims}
use Rattle.shared_book.specs.machinery.Choices.{IsChosen, is_out}

-- a worker's own claim tells nothing of what others hold, and gives way to the next

own-claim : (id n worker : ℕ) (claims : List (Option ℕ)) → is_held_by_another id worker (claimed n worker claims) ≡ is_held_by_another id worker claims
own-claim id n worker claims = ap (λ (xs : List (Option ℕ)). list_any (is_claim_of id) xs) (set-set claims (worker - 1) (Some n) None)

next-claim : (id n worker : ℕ) (b : Contents) → claimed_by id worker (claimed_by n worker b) ≡ claimed_by id worker b
next-claim id n worker b = ap (λ (xs : List (Option ℕ)). with_claims xs b) (set-set b.tree.claims (worker - 1) (Some n) (Some id))

pub chosen-held : (b : Contents) (worker : ℕ) (best : Option ℕ) (now : Contents) (id : ℕ) → IsChosen b worker best now → is_held_by_another id worker now.tree.claims ≡ is_held_by_another id worker b.tree.claims
chosen-held b worker None now id h = ap (λ (c : Contents). is_held_by_another id worker c.tree.claims) h
chosen-held b worker (Some n) now id h = ap (λ (c : Contents). is_held_by_another id worker c.tree.claims) h.1 ∙ own-claim id n worker b.tree.claims

chosen-claim : (b : Contents) (worker : ℕ) (best : Option ℕ) (now : Contents) (id : ℕ) → IsChosen b worker best now → claimed_by id worker now ≡ claimed_by id worker b
chosen-claim b worker None now id h = ap (claimed_by id worker) h
chosen-claim b worker (Some n) now id h = ap (claimed_by id worker) h.1 ∙ next-claim id n worker b

pub chosen-next : (b : Contents) (worker : ℕ) (best : Option ℕ) (now after : Contents) (id : ℕ) → IsChosen b worker best now → IsOpenLeaf (standing_of b) id
    → is_held_by_another id worker now.tree.claims ≡ false → after ≡ claimed_by id worker now → IsChosen b worker (Some id) after
chosen-next b worker best now after id h leaf free is = (record { leaf = leaf; free = sym (chosen-held b worker best now id h) ∙ free }, is ∙ chosen-claim b worker best now id h)

pub chosen-there : (b : Contents) (worker : ℕ) (best : Option ℕ) (now : Contents) → IsChosen b worker best now → IfSome best (λ n. n < length b.tree.nodes)
chosen-there b worker None now h = tt
chosen-there b worker (Some n) now h = h.0.leaf.there

-- truth values

pub on_true : {P : Type 0} (b : Bool) → b ≡ true → OnTrue b P → P
on_true true is h = h
on_true false is h = absurd (cc)

pub on_false : {P : Type 0} (b : Bool) → b ≡ false → OnFalse b P → P
on_false false is h = h
on_false true is h = absurd (cc)

pub denied : (b : Bool) → not b ≡ false → b ≡ true
denied true h = refl
denied false h = absurd (cc)

-- the first so far, and one more, by what was found of it

pub next-stalled : (nodes : List Node) (worker : ℕ) (b : Contents) (best : Option ℕ) (id : ℕ) → is_stalled_in (node_at b.tree.nodes id) ≡ true → best ≡ next_first nodes (is_out b worker) best id
next-stalled nodes worker b best id h = ap (λ (s : Bool). if s || is_held_by_another id worker b.tree.claims then best else first_of nodes best id) (sym h)

pub next-open : (nodes : List Node) (worker : ℕ) (b : Contents) (best : Option ℕ) (id : ℕ) → is_stalled_in (node_at b.tree.nodes id) ≡ false
    → (if is_held_by_another id worker b.tree.claims then best else first_of nodes best id) ≡ next_first nodes (is_out b worker) best id
next-open nodes worker b best id h = ap (λ (s : Bool). if s || is_held_by_another id worker b.tree.claims then best else first_of nodes best id) (sym h)

pub next-later : (held : Bool) (best found : Option ℕ) → found ≡ best → best ≡ (if held then best else found)
next-later true best found h = refl
next-later false best found h = sym h

-- once all leaves were looked at

pub all_held : (b : Contents) (worker : ℕ) → list_all (is_behind b.tree.nodes (is_out b worker) None) (leaf_numbers b.tree.nodes) ≡ true → AreHeld b worker
all_held b worker h id leaf = by (is_stalled_in (node_at b.tree.nodes id)) leaf.unmarked (behind-out b.tree.nodes (is_out b worker) id h (live_leaf (standing_of b) id leaf)) where
  by : (stalled : Bool) → stalled ≡ false → (stalled || is_held_by_another id worker b.tree.claims) ≡ true → is_held_by_another id worker b.tree.claims ≡ true
  by false s h = h
  by true s h = absurd (cc)

is_in : (b : Contents) (worker id : ℕ) → IsFree b worker id → is_out b worker id ≡ false
is_in b worker id h = by (is_stalled_in (node_at b.tree.nodes id)) (is_held_by_another id worker b.tree.claims) h.leaf.unmarked h.free where
  by : (stalled held : Bool) → stalled ≡ false → held ≡ false → (stalled || held) ≡ false
  by false false s h = refl
  by true held s h = absurd (cc)
  by false true s h = absurd (cc)

pub first_free : (b : Contents) (worker : ℕ) (best : Option ℕ) (now : Contents) → IsChosen b worker best now
    → list_all (is_behind b.tree.nodes (is_out b worker) best) (leaf_numbers b.tree.nodes) ≡ true → IfSome best (IsFirst b.tree.nodes (IsFree b worker))
first_free b worker None now chosen h = tt
first_free b worker (Some id) now chosen h = record {
  fits = chosen.0;
  first = λ m fit. behind-first b.tree.nodes (is_out b worker) id m h (live_leaf (standing_of b) m fit.leaf) (is_in b worker m fit);
}
