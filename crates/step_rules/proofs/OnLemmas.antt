-- What is told of an obligation or a lemma that is there.
use Rattle.std.proofs.Common.{◌≡◌, ℕ, ◌<◌, ◌≤◌, List, length, Bool, true, false, cond, Some, None, ap, sym, ◌∙◌}
use Rattle.std.specs.Prelude.{Option, option_map, slice_get}
use Rattle.lemma_frames.specs.declared.framed.Framed.{Framed as KeptLemma}
use Rattle.obligation_tree.specs.Nodes.{closed_in, is_stalled_in, node_at, obligation_in}
use Rattle.obligation_tree.specs.declared.node.Node.{Node}
use Rattle.obligation_tree.specs.declared.obligation.Obligation.{Obligation as Asked}
use Rattle.book_rules.specs.declared.by.By.{By}
use Rattle.book_rules.specs.declared.by.By.TheVariants.{Entry, Step}
use Rattle.book_rules.specs.Frames.{Framed}
use Rattle.book_rules.specs.State.{Obligation, unless_live}
use Rattle.book_rules.specs.Walks.{on}
use Rattle.cube_rules.specs.Views.{framed_at, lemmas_of}
use Rattle.step_rules.specs.Views.{asked_of, fresh_of, obligation_of, obligations_of}
use Rattle.cube_rules.proofs.Public.{framed-past, framed_of-at}
use Rattle.step_rules.proofs.ViewLemmas.{obligation-past, obligation_of-at}

pub told-there : (nodes : List Node) (n : ℕ) (tell : Obligation → Option By) → n < length nodes → tell (obligation_of (node_at nodes n)) ≡ on (slice_get (obligations_of nodes) n) tell
told-there nodes n tell within = sym (ap (λ (o : Option Obligation). on o tell) (obligation_of-at nodes n within))

pub passes : (nodes : List Node) (n : ℕ) (test : Obligation → Bool) (by : By) → n < length nodes → test (obligation_of (node_at nodes n)) ≡ true → None ≡ on (slice_get (obligations_of nodes) n) (λ (o : Obligation). cond {A = Option By} (test o) None (Some by))
passes nodes n test by within is = sym (ap (λ b. cond {A = Option By} b None (Some by)) is) ∙ told-there nodes n (λ (o : Obligation). cond {A = Option By} (test o) None (Some by)) within

pub fails : (nodes : List Node) (n : ℕ) (test : Obligation → Bool) (by : By) → n < length nodes → test (obligation_of (node_at nodes n)) ≡ false → Some by ≡ on (slice_get (obligations_of nodes) n) (λ (o : Obligation). cond {A = Option By} (test o) None (Some by))
fails nodes n test by within is = sym (ap (λ b. cond {A = Option By} b None (Some by)) is) ∙ told-there nodes n (λ (o : Obligation). cond {A = Option By} (test o) None (Some by)) within

pub lemma-there : (lemmas : List KeptLemma) (n : ℕ) (tell : Option Framed → Option By) → n < length lemmas → tell (Some (framed_at lemmas n)) ≡ tell (slice_get (lemmas_of lemmas) n)
lemma-there lemmas n tell within = sym (ap tell (framed_of-at lemmas n within))

pub lemma-past : (lemmas : List KeptLemma) (n : ℕ) (tell : Option Framed → Option By) → length lemmas ≤ n → tell None ≡ tell (slice_get (lemmas_of lemmas) n)
lemma-past lemmas n tell past = sym (ap tell (framed-past lemmas n past))

-- nothing is told of an obligation that isn't there
pub past-told : (nodes : List Node) (n : ℕ) (tell : Obligation → Option By) → length nodes ≤ n → None ≡ on (slice_get (obligations_of nodes) n) tell
past-told nodes n tell past = sym (ap (λ (o : Option Obligation). on o tell) (obligation-past nodes n past))

-- what doesn't look at how an obligation was closed or marked is told of the obligation itself
pub told-asked : (nodes : List Node) (n : ℕ) (tell : Obligation → Option By) (o : Asked) → n < length nodes → o ≡ obligation_in (node_at nodes n) → ((x : Asked) (closed : Option ℕ) (stalled : Bool) → tell (asked_of x closed stalled) ≡ tell (fresh_of x)) → tell (fresh_of o) ≡ on (slice_get (obligations_of nodes) n) tell
told-asked nodes n tell o within is only =
    let node = node_at nodes n in
    ap (λ (x : Asked). tell (fresh_of x)) is ∙ sym (only (obligation_in node) (closed_in node) (is_stalled_in node)) ∙ told-there nodes n tell within

-- why an obligation isn't live
pub closing-there : (nodes : List Node) (n : ℕ) → n < length nodes → option_map Entry (closed_in (node_at nodes n)) ≡ unless_live (slice_get (obligations_of nodes) n)
closing-there nodes n within = sym (ap unless_live (obligation_of-at nodes n within))

pub closing-past : (nodes : List Node) (n : ℕ) → length nodes ≤ n → Some Step ≡ unless_live (slice_get (obligations_of nodes) n)
closing-past nodes n past = sym (ap unless_live (obligation-past nodes n past))
