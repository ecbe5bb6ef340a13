-- Live children of an obligation, as the tree and as the rules find them.
use Rattle.std.proofs.Common.{◌≡◌, ℕ, zero, suc, ◌+◌, ◌<◌, List, [], ◌∷◌, length, filter, Bool, true, false, ◌&&◌, ◌||◌, cond, None, refl, ap, ap₂, sym, ◌∙◌, subst, arith}
use Rattle.std.specs.Prelude.{◌==◌, is_some, nat_lt}
use Rattle.std.specs.List.{list_any, range_with_len}
use Rattle.std.proofs.lemmas.Bool.{le-ltb, lt-ltb}
use Rattle.obligation_tree.specs.Nodes.{has_live_child, is_child_of, is_live as is_live_node, is_live_at, node_at, obligation_in, parent_at}
use Rattle.obligation_tree.specs.declared.node.Node.{Node}
use Rattle.book_rules.specs.Rooted.{AreRooted}
use Rattle.book_rules.specs.StallRules.{is_live_child}
use Rattle.book_rules.specs.State.{Fact, Obligation}
use Rattle.book_rules.specs.Walks.{AllOf}
use Rattle.book_rules.proofs.ListLemmas.{all_of-at}
use Rattle.step_rules.specs.Views.{obligation_of, obligations_of}
use Rattle.step_rules.proofs.ViewLemmas.{obligation_of-at}

any-filter : (test live : ℕ → Bool) (x : ℕ) (xs : List ℕ) → list_any test (filter live (x ∷ xs)) ≡ ((live x && test x) || list_any test (filter live xs))
any-filter test live x xs = by (live x) where
  by : (b : Bool) → list_any test (cond {A = List ℕ} b (x ∷ filter live xs) (filter live xs)) ≡ ((b && test x) || list_any test (filter live xs))
  by true = refl
  by false = refl

-- a test of the numbers of live ones among the last, the first of which has number n
pub any-live : (all rest : List Node) (n : ℕ) (test : ℕ → Bool) (told : Obligation → Bool) → ((k : ℕ) → node_at all (n + k) ≡ node_at rest k)
    → ((k : ℕ) → k < length rest → (is_live_node (node_at rest k) && test (n + k)) ≡ told (obligation_of (node_at rest k))) → list_any test (filter (is_live_at all) (range_with_len n (length rest))) ≡ list_any told (obligations_of rest)
any-live all [] n test told at same = refl
any-live all (x ∷ rest) n test told at same =
    let first : n ≡ n + 0 = omega arith in
    let live : is_live_at all n ≡ is_live_node x = ap (λ (m : ℕ). is_live_at all m) first ∙ ap is_live_node (at 0) in
    let here : (is_live_at all n && test n) ≡ told (obligation_of x) = ap₂ (λ (a b : Bool). a && b) live (ap test first) ∙ same 0 (omega arith) in
    let next : (k : ℕ) → n + 1 + k ≡ n + suc k = λ k. omega arith in
    let rest_is = any-live all rest (n + 1) test told (λ k. ap (node_at all) (next k) ∙ at (suc k)) (λ k within. ap (λ (m : ℕ). is_live_node (node_at rest k) && test m) (next k) ∙ same (suc k) (omega (arith, within))) in
    any-filter test (is_live_at all) n (range_with_len (n + 1) (length rest)) ∙ ap₂ (λ (a b : Bool). a || b) here rest_is

-- all but the root are of a predicate
pub pred-there : (level : ℕ) (facts : List Fact) (nodes : List Node) → AreRooted level facts (obligations_of nodes) → (k : ℕ) → k < length nodes → is_some (obligation_in (node_at nodes k)).pred ≡ nat_lt 0 k
pred-there level facts [] rooted k within = absurd (omega arith)
pred-there level facts (x ∷ nodes) rooted zero within =
    let both : obligation_of x ∷ obligations_of nodes ≡ rooted.root ∷ rooted.rest = rooted.first in
    let same : obligation_of x ≡ rooted.root = cc in
    let bare : None ≡ (rooted.root).pred = ap (λ (o : Obligation). o.pred) rooted.is_root in
    ap is_some (ap (λ (o : Obligation). o.pred) same ∙ sym bare) ∙ sym (le-ltb 0 0 (omega arith))
pred-there level facts (x ∷ nodes) rooted (suc k) within =
    let both : obligation_of x ∷ obligations_of nodes ≡ rooted.root ∷ rooted.rest = rooted.first in
    let same : obligations_of nodes ≡ rooted.rest = cc in
    let others = subst (λ (os : List Obligation). AllOf (λ (o : Obligation). is_some o.pred ≡ true) os) (sym same) rooted.others in
    all_of-at (λ (o : Obligation). is_some o.pred ≡ true) (obligations_of nodes) k (obligation_of (node_at nodes k)) (obligation_of-at nodes k (omega (arith, within))) others ∙ sym (lt-ltb 0 (suc k) (omega arith))

pub live-child : (level : ℕ) (facts : List Fact) (nodes : List Node) → AreRooted level facts (obligations_of nodes) → (number : ℕ) → has_live_child nodes number ≡ list_any (is_live_child number) (obligations_of nodes)
live-child level facts nodes rooted number =
    any-live nodes nodes 0 (is_child_of nodes number) (is_live_child number) (λ k. ap (node_at nodes) (from_zero k)) (λ k within. ap (λ (m : ℕ). is_live_node (node_at nodes k) && (nat_lt 0 m && parent_at nodes m == number)) (from_zero k) ∙ ap (λ (b : Bool). is_live_node (node_at nodes k) && (b && parent_at nodes k == number)) (sym (pred-there level facts nodes rooted k within))) where
      from_zero : (k : ℕ) → 0 + k ≡ k
      from_zero k = omega arith
