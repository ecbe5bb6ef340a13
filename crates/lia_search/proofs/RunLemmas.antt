-- How what is known of a search goes on from turn to turn.
use Rattle.std.proofs.Common.{◌≡◌, ℕ, Result, Ok, Err, ◌+◌, ◌-◌, ◌<◌, ◌≤◌, List, [], ◌∷◌, ◌++◌, take, refl, ap, sym, ◌∙◌, subst, append-nil, arith, true}
use Rattle.std.proofs.lemmas.List.Sums.{sum_by_push}
use Rattle.base.specs.Limits.{most_rows}
use Rattle.base.specs.declared.memory.Memory.{Memory}
use Rattle.lin_atoms.specs.declared.form.Form.{Form}
use Rattle.lin_atoms.specs.declared.lit.Lit.{Lit}
use Rattle.int_rows.specs.Node.{end_of_quotients}
use Rattle.refutation_trees.specs.GivenUp.{IsEvidence}
use Rattle.refutation_trees.specs.declared.evidence.Evidence.TheVariants.{Nodes}
use Rattle.lia_node.specs.Tells.{Tells, has_tableau}
use Rattle.lia_node.specs.declared.examined.Examined.{Examined}
use Rattle.lia_stack.specs.declared.waiting.Open.{Open}
use Rattle.lia_stack.specs.declared.state.End.{End}
use Rattle.lia_stack.specs.declared.state.Search.{Search}
use Rattle.lia_stack.specs.declared.state.Turn.{Turn}
use Rattle.lia_stack.specs.declared.state.Turn.TheVariants as turn
use Rattle.lia_stack.specs.machinery.Searched.{Closes, Ends, Goes, IsSame, IsSearch, IsSearchOn, Turns, Waits, weight, weight_of}
use Rattle.lia_stack.proofs.Public.{counted, moved, same-then, splits-after}

-- a node that is closed is gone from the stack
pub closes-goes : (old new : Search) (waiting : Open) → Closes old new → Goes old waiting new
closes-goes old new waiting c = record { is = c.is; same = c.same; count = c.count; less = let stack = ap weight c.stack in omega (arith, stack) }

pub goes-after : (old s new : Search) (waiting : Open) → IsSame old s → s.count ≡ old.count → s.stack.items ≡ old.stack.items → Goes s waiting new → Goes old waiting new
goes-after old s new waiting same count stack c = record { is = c.is; same = same-then old s new same c.same; count = c.count ∙ count; less = subst (λ (os : List Open). weight new.stack.items < weight os + weight_of waiting) stack c.less }

pub ends-after : (old s : Search) (end : End) → IsSame old s → Ends s.form.now s.nodes end → Ends old.form.now old.nodes end
ends-after old s end same ends = subst (λ (n : ℕ). Ends old.form.now n end) same.nodes (subst (λ (f : Form). Ends f s.nodes end) same.form ends)

pub turns-after : (old s new : Search) (waiting : Open) (result : Result Turn Memory) → IsSame old s → s.count ≡ old.count → s.stack.items ≡ old.stack.items → Turns s waiting new result → Turns old waiting new result
turns-after old s new waiting (Ok turn.WentOn) same count stack turns = goes-after old s new waiting same count stack turns
turns-after old s new waiting (Ok turn.Split) same count stack turns = splits-after old s new same count turns
turns-after old s new waiting (Ok (turn.Over end)) same count stack turns = ends-after old s end same turns
turns-after old s new waiting (Err stop) same count stack turns = tt

-- the inner nodes that were made are evidence
pub spent : (s : Search) → IsSearch s → 0 < s.count → IsEvidence s.form.now (Nodes s.count)
spent s is some = (some, counted s is s.count refl)

-- a node is taken off the stack
pub popped : (s new : Search) (waiting : Open) → IsSearch s → s.stack.items ≡ new.stack.items ++ waiting ∷ [] → new ≡ record s { is_first = new.is_first; stack = new.stack } → Waits new waiting
popped s new waiting is taken same = subst (IsSearchOn new) taken (moved s new s.stack.items same is)

pub same-popped : (old s new : Search) → IsSame old s → new ≡ record s { is_first = new.is_first; stack = new.stack } → IsSame old new
same-popped old s new same moved = subst (IsSame old) (sym moved) (record { form = same.form; end = same.end; nodes = same.nodes })

pub weight-popped : (stack rest : List Open) (waiting : Open) → stack ≡ rest ++ waiting ∷ [] → weight stack ≡ weight rest + weight_of waiting
weight-popped stack rest waiting taken = ap weight taken ∙ sum_by_push weight_of rest waiting

-- a node has one literal more, or is closed: the search goes on
pub since-popped : (old s mid new : Search) (waiting : Open) → IsSame old s → s.count ≡ old.count → mid ≡ record s { is_first = mid.is_first; stack = mid.stack } → Goes mid waiting new → IsSearch new × IsSame old new × (new.count ≡ old.count)
since-popped old s mid new waiting same count moved goes = (goes.is, same-then old mid new (same-popped old s mid same moved) goes.same, goes.count ∙ ap (λ (t : Search). t.count) moved ∙ count)

-- the stack is empty
pub none-left : (old s new : Search) → IsSearch s → IsSame old s → s.stack.items ≡ [] → new.stack.items ≡ [] → new ≡ record s { is_first = new.is_first; stack = new.stack } → IsSearch new × (new.stack.items ≡ []) × IsSame old new
none-left old s new is same none gone moves = (subst (IsSearchOn new) (none ∙ sym gone) (moved s new s.stack.items moves is), gone, same-popped old s new same moves)

-- what a node tells
pub told : (q : ℕ) (seen lits : List Lit) (answer other : Examined) → seen ≡ lits → answer ≡ other → Tells q seen answer → Tells q lits other
told q seen lits answer other at is tells = subst (λ (ls : List Lit). Tells q ls other) at (subst (Tells q seen) is tells)

pub told-few : (q : ℕ) (seen lits : List Lit) (answer other : Examined) → seen ≡ lits → answer ≡ other → has_tableau other ≡ true → (has_tableau answer ≡ true → end_of_quotients q seen ≤ q + most_rows) → end_of_quotients q lits ≤ q + most_rows
told-few q seen lits answer other at is tableau few = subst (λ (ls : List Lit). end_of_quotients q ls ≤ q + most_rows) at (few (ap has_tableau is ∙ tableau))

-- that a node was examined changes nothing else
pub same-first : (s new : Search) → new ≡ record s { is_first = new.is_first } → IsSame s new
same-first s new moved = subst (IsSame s) (sym moved) (record { form = refl; end = refl; nodes = refl })

-- nothing came off the stack
pub emptied : (old new : List Open) (n : ℕ) → new ≡ take (n - 1) old → n ≡ 0 → old ≡ new ++ [] → (old ≡ []) × (new ≡ [])
emptied old new n rest none items =
    let less : n - 1 ≡ 0 = omega (arith, none) in
    let gone : new ≡ [] = rest ∙ ap (λ (k : ℕ). take k old) less in
    (items ∙ append-nil new ∙ gone, gone)
