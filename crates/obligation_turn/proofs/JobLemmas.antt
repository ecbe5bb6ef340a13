-- What is known of an obligation that is asked.
use Rattle.std.proofs.Common.{◌≡◌, ℕ, zero, suc, ◌+◌, ◌<◌, ◌≤◌, List, [], ◌∷◌, length, Bool, true, false, ◌&&◌, not, Some, None, refl, ap, sym, ◌∙◌, arith}
use Rattle.std.specs.Prelude.{Option, ℤ, is_none, is_some, nat_lt, option_map, slice_get, ◌==◌}
use Rattle.std.specs.List.{list_any}
use Rattle.std.proofs.lemmas.Bool.Decides.{nat_tests}
use mathlib.Core.Bool.{true≢false}
use Rattle.term_tree.specs.declared.sort.Sort.{Sort}
use Rattle.lin_atoms.specs.declared.lit.Lit.{Lit}
use Rattle.clause_form.specs.declared.atom.Atom.{Atom}
use Rattle.clause_form.specs.declared.clause.Clause.{Clause}
use Rattle.cube_forms.specs.Cubes.{cube_holds, cube_is_below, tuple_at}
use Rattle.obligation_tree.specs.Nodes.{closed_in, node_at, obligation_in}
use Rattle.obligation_tree.specs.declared.node.Node.{Node}
use Rattle.chc_tokens.specs.Instances.{accepts, token_head_at}
use Rattle.chc_tokens.specs.Tokens.{token_meets}
use Rattle.book_rules.specs.Areas.{is_wide}
use Rattle.book_rules.specs.Instances.{atom_at, head_at}
use Rattle.book_rules.specs.Kept.{IsPlaced}
use Rattle.book_rules.specs.Places.{is_over, obligation_fits, places_of}
use Rattle.book_rules.specs.Proofs.{is_head}
use Rattle.book_rules.specs.StallRules.{is_live_child}
use Rattle.book_rules.specs.State.{Obligation, holds, holds_of, unless_live}
use Rattle.book_rules.specs.Walks.{AllOf, has}
use Rattle.book_rules.specs.declared.by.By.TheVariants.{Entry}
use Rattle.book_rules.proofs.ListLemmas.{all_of-at}
use Rattle.book_rules.proofs.Public.{levels_are_between, placed}
use Rattle.cube_rules.proofs.Public.{both_true, from_both}
use Rattle.step_rules.specs.Standing.{Standing, standing_state}
use Rattle.step_rules.specs.Views.{obligation_of}
use Rattle.step_rules.proofs.Public.{obligation_of-at}
use Rattle.step_rules.proofs.RootLemmas.{bare-asked}
use Rattle.obligation_turn.specs.Turns.{GoesOn, IsOpenLeaf}
use Rattle.obligation_turn.specs.machinery.Jobs.{goal_by, goal_for, job_of}
use Rattle.obligation_turn.proofs.LiveLemmas.{live-child, pred-there}

-- the obligation, as the rules speak of it
abbrev pub asked_at : Standing → ℕ → Obligation
asked_at b job = obligation_of (node_at b.tree.nodes job)

pub job-there : (b : Standing) (job : ℕ) → IsOpenLeaf b job → slice_get (standing_state b).obligations job ≡ Some (asked_at b job)
job-there b job leaf = obligation_of-at b.tree.nodes job leaf.there

none-closed : (closed : Option ℕ) → is_none closed ≡ true → option_map Entry closed ≡ None
none-closed None h = refl
none-closed (Some n) h = absurd (true≢false (sym h))

-- it is live
pub job-live : (b : Standing) (job : ℕ) → IsOpenLeaf b job → unless_live (slice_get (standing_state b).obligations job) ≡ None
job-live b job leaf = ap unless_live (job-there b job leaf) ∙ none-closed (closed_in (node_at b.tree.nodes job)) leaf.live

-- nothing hangs under it
pub job-childless : (b : Standing) (job : ℕ) → GoesOn b → IsOpenLeaf b job → list_any (is_live_child job) (standing_state b).obligations ≡ false
job-childless b job goes leaf = sym (live-child (b.level + 1) (standing_state b).facts b.tree.nodes (goes.standing).rooted job) ∙ leaf.leaf

-- the root asks for no cube
pub job-bare : (b : Standing) (job : ℕ) → GoesOn b → IsOpenLeaf b job → (job_of b job).pred ≡ None → (job_of b job).cube ≡ []
job-bare b job goes leaf none = bare-asked (b.level + 1) (standing_state b).facts b.tree.nodes (goes.standing).rooted job leaf.there (job_of b job) refl none

-- one that isn't the root has a number above 0
pub job-above : (b : Standing) (job pred : ℕ) → GoesOn b → IsOpenLeaf b job → (job_of b job).pred ≡ Some pred → 0 < job
job-above b job pred goes leaf some =
    let is : nat_lt 0 job ≡ true = sym (pred-there (b.level + 1) (standing_state b).facts b.tree.nodes (goes.standing).rooted job leaf.there) ∙ ap is_some some in
    grind (arith, nat_tests, is)

pub job-placed : (b : Standing) (job pred : ℕ) → GoesOn b → IsOpenLeaf b job → (job_of b job).pred ≡ Some pred → IsPlaced (standing_state b).lemmas (standing_state b).facts (standing_state b).obligations (asked_at b job)
job-placed b job pred goes leaf some = placed (standing_state b) goes.ordered job (asked_at b job) (job-there b job leaf) (job-above b job pred goes leaf some) leaf.live

pub job-level : (b : Standing) (job pred : ℕ) → GoesOn b → IsOpenLeaf b job → (job_of b job).pred ≡ Some pred → (1 ≤ (job_of b job).level) × ((job_of b job).level ≤ b.level)
job-level b job pred goes leaf some = levels_are_between (standing_state b) goes.ordered (goes.standing).rooted job (asked_at b job) (job-there b job leaf) (job-above b job pred goes leaf some) leaf.live

-- the root stands one above the closed level
root-level-of : (b : Standing) (job : ℕ) (o : Obligation) → GoesOn b → job < length b.tree.nodes → slice_get (standing_state b).obligations job ≡ Some o → o.pred ≡ None → o.level ≡ b.level + 1
root-level-of b job o goes within there none =
    let rooted = (goes.standing).rooted in
    let is : is_some (job_of b job).pred ≡ nat_lt 0 job = pred-there (b.level + 1) (standing_state b).facts b.tree.nodes rooted job within in
    let same : obligation_of (node_at b.tree.nodes job) ≡ o = (let both = sym (obligation_of-at b.tree.nodes job within) ∙ there in cc) in
    let low : nat_lt 0 job ≡ false = sym is ∙ ap is_some (ap (λ (x : Obligation). x.pred) same ∙ none) in
    let first : job ≡ 0 = grind (arith, nat_tests, low) in
    let at : slice_get (rooted.root ∷ rooted.rest) 0 ≡ Some o = ap (λ (os : List Obligation). slice_get os 0) (sym rooted.first) ∙ ap (slice_get (standing_state b).obligations) (sym first) ∙ there in
    let root : rooted.root ≡ o = cc in
    ap (λ (x : Obligation). x.level) (sym root) ∙ sym (ap (λ (x : Obligation). x.level) rooted.is_root)

pub root-level : (b : Standing) (job : ℕ) → GoesOn b → IsOpenLeaf b job → (job_of b job).pred ≡ None → (job_of b job).level ≡ b.level + 1
root-level b job goes leaf none = root-level-of b job (asked_at b job) goes leaf.there (job-there b job leaf) none

-- its cube is over its predicate, and thin

fits-over : (preds : List (List Sort)) (pred : Option ℕ) (p : ℕ) (cube : List Lit) (point : List ℤ) → pred ≡ Some p → has (places_of preds pred) (λ n. cube_is_below n cube && (length point == n)) ≡ true → is_over preds p cube ≡ true
fits-over preds pred p cube point is h = by (places_of preds (Some p)) (ap (λ (o : Option ℕ). has (places_of preds o) (λ n. cube_is_below n cube && (length point == n))) (sym is) ∙ h)
  where
    by : (o : Option ℕ) → has o (λ n. cube_is_below n cube && (length point == n)) ≡ true → has o (λ n. cube_is_below n cube) ≡ true
    by None k = k
    by (Some n) k = (both_true (cube_is_below n cube) _ k).0

pub job-over : (b : Standing) (job pred : ℕ) → GoesOn b → IsOpenLeaf b job → (job_of b job).pred ≡ Some pred → is_over b.system.preds pred (job_of b job).cube ≡ true
job-over b job pred goes leaf some =
    fits-over b.system.preds (job_of b job).pred pred (job_of b job).cube (job_of b job).point some
    (all_of-at (λ (o : Obligation). obligation_fits b.system.preds o ≡ true) (standing_state b).obligations job (asked_at b job) (job-there b job leaf) ((goes.standing).over).obligations)

nodes-at : (P : Node → Type 0) (nodes : List Node) (n : ℕ) → n < length nodes → AllOf P nodes → P (node_at nodes n)
nodes-at P [] n within all = absurd (omega arith)
nodes-at P (x ∷ nodes) zero within all = all.0
nodes-at P (x ∷ nodes) (suc n) within all = nodes-at P nodes n (omega arith) all.1

pub job-thin : (b : Standing) (job : ℕ) → GoesOn b → IsOpenLeaf b job → is_wide (job_of b job).cube ≡ false
job-thin b job goes leaf = nodes-at (λ (n : Node). is_wide (obligation_in n).cube ≡ false) b.tree.nodes job leaf.there (goes.thin).obligations

-- an instance of the query has its head in the cube

accepted : (p : ℕ) (cube : List Lit) (point : List ℤ) (head : Option Atom) → is_head (Some p) head ≡ true → accepts cube (option_map (λ (atom : Atom). (atom.pred, tuple_at point atom.args)) head) ≡ false → holds_of (Some p) cube (option_map (atom_at point) head) ≡ true
accepted p cube point None is h = absurd (true≢false (sym is))
accepted p cube point (Some atom) is h = from_both (p == atom.pred) _ is (by (cube_holds (tuple_at point atom.args) cube) h)
  where
    by : (b : Bool) → not b ≡ false → b ≡ true
    by true k = refl
    by false k = absurd (true≢false k)

held-of : (pred : Option ℕ) (cube : List Lit) (point : List ℤ) (clause : Clause) → is_head pred clause.head ≡ true → token_meets (goal_by pred cube) (token_head_at point clause) ≡ false → holds_of pred cube (head_at point clause) ≡ true
held-of None cube point clause is h = by clause.head is
  where
    by : (head : Option Atom) → is_head None head ≡ true → holds_of None cube (option_map (atom_at point) head) ≡ true
    by None k = refl
    by (Some atom) k = absurd (true≢false (sym k))
held-of (Some p) cube point clause is h = accepted p cube point clause.head is h

pub job-held : (b : Standing) (job : ℕ) (clause : Clause) (point : List ℤ) → is_head (job_of b job).pred clause.head ≡ true → token_meets (goal_for (job_of b job)) (token_head_at point clause) ≡ false → holds (asked_at b job) (head_at point clause) ≡ true
job-held b job clause point is h = held-of (job_of b job).pred (job_of b job).cube point clause is h
