-- The end, as the code finds it: levels that no lemma has, and leaves that are stalled.
use Rattle.std.proofs.Common.{◌≡◌, ℕ, zero, suc, ◌+◌, ◌-◌, ◌<◌, ◌≤◌, List, [], ◌∷◌, length, filter, drop, get_or, Bool, true, false, not, ◌&&◌, ◌||◌, cond, Some, None, refl, ap, ap₂, sym, ◌∙◌, subst, arith}
use Rattle.std.specs.Prelude.{Option, ◌==◌, ◌↔◌, is_some, nat_lt}
use Rattle.std.specs.Bool.{IsTrue}
use Rattle.std.specs.List.{All, list_all, list_any, range_with_len}
use Rattle.std.proofs.lemmas.Bool.{eq-eqb, eqb-true, le-ltb, lt-ltb}
use Rattle.std.proofs.lemmas.List.{length-map}
use Rattle.std.proofs.lemmas.List.Elements.{All-filter}
use Rattle.std.proofs.lemmas.List.FromFn.{get_or-range_with_len, length-range_with_len}
use Rattle.std.proofs.lemmas.Option.{slice_get_within}
use mathlib.Core.Bool.{true≢false}
use Rattle.lemma_frames.specs.Frames.{IsBare, level_of}
use Rattle.lemma_frames.specs.declared.framed.Framed.{Framed as KeptLemma}
use Rattle.obligation_tree.specs.Nodes.{has_live_child, is_child_of, is_live as is_live_node, is_live_at, leaf_numbers, live_numbers, node_at, parent_at}
use Rattle.obligation_tree.specs.declared.node.Node.{Node}
use Rattle.book_rules.specs.Frames.{Framed}
use Rattle.book_rules.specs.Legal.{all_stalled_from, bare_from, is_level_empty}
use Rattle.book_rules.specs.Rooted.{AreRooted}
use Rattle.book_rules.specs.StallRules.{is_live_child}
use Rattle.book_rules.specs.State.{Fact, Obligation}
use Rattle.book_rules.specs.Walks.{AllOf}
use Rattle.book_rules.proofs.ListLemmas.{all_of-at, any_at, both_false, true_not_false}
use Rattle.step_rules.specs.Views.{framed_at, framed_of, lemmas_of, obligation_of, obligations_of}
use Rattle.step_rules.proofs.ViewLemmas.{framed_of-at, obligation_of-at}

-- a level that no lemma has

some_level : (lemmas : List KeptLemma) (level : ℕ) → list_any (λ (e : Framed). e.level == level) (lemmas_of lemmas) ≡ true → IsBare lemmas level → ⊥
some_level lemmas level some bare =
    let found = any_at (λ (e : Framed). e.level == level) (lemmas_of lemmas) some in
    let in_list = slice_get_within (lemmas_of lemmas) found.0 found.1 found.2 in
    let long = length-map lemmas framed_of in
    let within : found.0 < length lemmas = omega (arith, in_list, long) in
    let both : Some found.1 ≡ Some (framed_at lemmas found.0) = sym found.2 ∙ framed_of-at lemmas found.0 within in
    let same : found.1 ≡ framed_at lemmas found.0 = cc in
    bare found.0 within (ap (λ (e : Framed). e.level) (sym same) ∙ eqb-true (found.1).level level found.3)

no_level : (lemmas : List KeptLemma) (level : ℕ) → list_any (λ (e : Framed). e.level == level) (lemmas_of lemmas) ≡ false → (n : ℕ) → n < length lemmas → level_of lemmas n ≡ level → ⊥
no_level [] level none n within is = omega arith
no_level (f ∷ lemmas) level none zero within is = true_not_false (f.level == level) (eq-eqb f.level level is) (both_false (f.level == level) (list_any (λ (e : Framed). e.level == level) (lemmas_of lemmas)) none).0
no_level (f ∷ lemmas) level none (suc n) within is = no_level lemmas level (both_false (f.level == level) (list_any (λ (e : Framed). e.level == level) (lemmas_of lemmas)) none).1 n (omega arith) is

pub bare_is : (lemmas : List KeptLemma) (level : ℕ) (b : Bool) → (IsTrue b ↔ IsBare lemmas level) → b ≡ is_level_empty (lemmas_of lemmas) level
bare_is lemmas level b exact = by b (list_any (λ (e : Framed). e.level == level) (lemmas_of lemmas)) refl exact where
  by : (b found : Bool) → list_any (λ (e : Framed). e.level == level) (lemmas_of lemmas) ≡ found → (IsTrue b ↔ IsBare lemmas level) → b ≡ not found
  by true false is exact = refl
  by false true is exact = refl
  by true true is exact = absurd (some_level lemmas level is (exact.0 refl))
  by false false is exact = absurd (true≢false (sym (exact.1 (no_level lemmas level is))))

-- a loop over the levels keeps what those to come decide

pub bare-next : (es : List Framed) (level n : ℕ) → level < n → is_level_empty es level ≡ false → bare_from es level (n - level) ≡ bare_from es (level + 1) (n - (level + 1))
bare-next es level n below isnt =
    let more : n - level ≡ suc (n - (level + 1)) = omega (arith, below) in
    ap (bare_from es level) more ∙ ap (λ b. cond {A = Option ℕ} b (Some level) (bare_from es (level + 1) (n - (level + 1)))) isnt

pub bare-found : (es : List Framed) (level n : ℕ) → level < n → is_level_empty es level ≡ true → bare_from es level (n - level) ≡ Some level
bare-found es level n below is =
    let more : n - level ≡ suc (n - (level + 1)) = omega (arith, below) in
    ap (bare_from es level) more ∙ ap (λ b. cond {A = Option ℕ} b (Some level) (bare_from es (level + 1) (n - (level + 1)))) is

pub bare-over : (es : List Framed) (level n : ℕ) → n ≤ level → bare_from es level (n - level) ≡ None
bare-over es level n past =
    let none : n - level ≡ 0 = omega (arith, past) in
    ap (bare_from es level) none

-- numbers of live obligations, as obligations

any-filter : (test live : ℕ → Bool) (x : ℕ) (xs : List ℕ) → list_any test (filter live (x ∷ xs)) ≡ ((live x && test x) || list_any test (filter live xs))
any-filter test live x xs = by (live x) where
  by : (b : Bool) → list_any test (cond {A = List ℕ} b (x ∷ filter live xs) (filter live xs)) ≡ ((b && test x) || list_any test (filter live xs))
  by true = refl
  by false = refl

-- a test of the numbers of live ones among the last, the first of which has number n
pub any-live : (all rest : List Node) (n : ℕ) (test : ℕ → Bool) (told : Obligation → Bool) → ((k : ℕ) → node_at all (n + k) ≡ node_at rest k)
    → ((k : ℕ) → k < length rest → (is_live_node (node_at rest k) && test (n + k)) ≡ told (obligation_of (node_at rest k))) → list_any test (filter (is_live_at all) (range_with_len n (length rest))) ≡ list_any told (obligations_of rest)
any-live all [] n test told at same = refl
any-live all (x ∷ rest) n test told at same =
    let first : n ≡ n + 0 = omega arith in
    let live : is_live_at all n ≡ is_live_node x = ap (λ (m : ℕ). is_live_at all m) first ∙ ap is_live_node (at 0) in
    let here : (is_live_at all n && test n) ≡ told (obligation_of x) = ap₂ (λ (a b : Bool). a && b) live (ap test first) ∙ same 0 (omega arith) in
    let next : (k : ℕ) → n + 1 + k ≡ n + suc k = λ k. omega arith in
    let rest_is = any-live all rest (n + 1) test told (λ k. ap (node_at all) (next k) ∙ at (suc k)) (λ k within. ap (λ (m : ℕ). is_live_node (node_at rest k) && test m) (next k) ∙ same (suc k) (omega (arith, within))) in
    any-filter test (is_live_at all) n (range_with_len (n + 1) (length rest)) ∙ ap₂ (λ (a b : Bool). a || b) here rest_is

-- all but the root are of a predicate
pub pred-there : (level : ℕ) (facts : List Fact) (nodes : List Node) → AreRooted level facts (obligations_of nodes) → (k : ℕ) → k < length nodes → is_some (node_at nodes k).obligation.pred ≡ nat_lt 0 k
pred-there level facts [] rooted k within = absurd (omega arith)
pred-there level facts (x ∷ nodes) rooted zero within =
    let both : obligation_of x ∷ obligations_of nodes ≡ rooted.root ∷ rooted.rest = rooted.first in
    let same : obligation_of x ≡ rooted.root = cc in
    let bare : None ≡ (rooted.root).pred = ap (λ (o : Obligation). o.pred) rooted.is_root in
    ap is_some (ap (λ (o : Obligation). o.pred) same ∙ sym bare) ∙ sym (le-ltb 0 0 (omega arith))
pred-there level facts (x ∷ nodes) rooted (suc k) within =
    let both : obligation_of x ∷ obligations_of nodes ≡ rooted.root ∷ rooted.rest = rooted.first in
    let same : obligations_of nodes ≡ rooted.rest = cc in
    let others = subst (λ (os : List Obligation). AllOf (λ (o : Obligation). is_some o.pred ≡ true) os) (sym same) rooted.others in
    all_of-at (λ (o : Obligation). is_some o.pred ≡ true) (obligations_of nodes) k (obligation_of (node_at nodes k)) (obligation_of-at nodes k (omega (arith, within))) others ∙ sym (lt-ltb 0 (suc k) (omega arith))

pub live-child : (level : ℕ) (facts : List Fact) (nodes : List Node) → AreRooted level facts (obligations_of nodes) → (number : ℕ) → has_live_child nodes number ≡ list_any (is_live_child number) (obligations_of nodes)
live-child level facts nodes rooted number =
    any-live nodes nodes 0 (is_child_of nodes number) (is_live_child number) (λ k. ap (node_at nodes) (from_zero k)) (λ k within. ap (λ (m : ℕ). is_live_node (node_at nodes k) && (nat_lt 0 m && parent_at nodes m == number)) (from_zero k) ∙ ap (λ (b : Bool). is_live_node (node_at nodes k) && (b && parent_at nodes k == number)) (sym (pred-there level facts nodes rooted k within))) where
      from_zero : (k : ℕ) → 0 + k ≡ k
      from_zero k = omega arith

-- leaves that are stalled

all-leaves : (stalled parent live : ℕ → Bool) (x : ℕ) (xs : List ℕ) → list_all stalled (filter (λ m. not (parent m)) (filter live (x ∷ xs))) ≡ ((not (live x) || parent x || stalled x) && list_all stalled (filter (λ m. not (parent m)) (filter live xs)))
all-leaves stalled parent live x xs = by (live x) where
  leaves : List ℕ
  leaves = filter (λ m. not (parent m)) (filter live xs)

  inner : (b : Bool) → list_all stalled (cond {A = List ℕ} (not b) (x ∷ leaves) leaves) ≡ ((b || stalled x) && list_all stalled leaves)
  inner true = refl
  inner false = refl

  by : (b : Bool) → list_all stalled (filter (λ m. not (parent m)) (cond {A = List ℕ} b (x ∷ filter live xs) (filter live xs))) ≡ ((not b || parent x || stalled x) && list_all stalled leaves)
  by true = inner (parent x)
  by false = refl

stuck-from : (all rest : List Node) (n : ℕ) → ((k : ℕ) → has_live_child all k ≡ list_any (is_live_child k) (obligations_of all)) → ((k : ℕ) → node_at all (n + k) ≡ node_at rest k)
    → list_all (λ m. (node_at all m).stalled) (filter (λ m. not (has_live_child all m)) (filter (is_live_at all) (range_with_len n (length rest)))) ≡ all_stalled_from (obligations_of all) n (obligations_of rest)
stuck-from all [] n children at = refl
stuck-from all (x ∷ rest) n children at =
    let first : n ≡ n + 0 = omega arith in
    let node : node_at all n ≡ x = ap (node_at all) first ∙ at 0 in
    let next : (k : ℕ) → n + 1 + k ≡ n + suc k = λ k. omega arith in
    let rest_is = stuck-from all rest (n + 1) children (λ k. ap (node_at all) (next k) ∙ at (suc k)) in
    all-leaves (λ m. (node_at all m).stalled) (has_live_child all) (is_live_at all) n (range_with_len (n + 1) (length rest))
    ∙ ap (λ (y : Node). (not (is_live_node y) || has_live_child all n || y.stalled) && list_all (λ m. (node_at all m).stalled) (filter (λ m. not (has_live_child all m)) (filter (is_live_at all) (range_with_len (n + 1) (length rest))))) node
    ∙ ap₂ (λ (b c : Bool). (not (is_live_node x) || b || x.stalled) && c) (children n) rest_is

pub stuck_is : (level : ℕ) (facts : List Fact) (nodes : List Node) → AreRooted level facts (obligations_of nodes) → list_all (λ m. (node_at nodes m).stalled) (leaf_numbers nodes) ≡ all_stalled_from (obligations_of nodes) 0 (obligations_of nodes)
stuck_is level facts nodes rooted = stuck-from nodes nodes 0 (live-child level facts nodes rooted) (λ k. ap (node_at nodes) (from_zero k)) where
  from_zero : (k : ℕ) → 0 + k ≡ k
  from_zero k = omega arith

-- each of them is there
pub leaves-there : (nodes : List Node) → All (λ n. n < length nodes) (leaf_numbers nodes)
leaves-there nodes = All-filter (λ m. not (has_live_child nodes m)) (λ n. n < length nodes) (live_numbers nodes) (All-filter (is_live_at nodes) (λ n. n < length nodes) (range_with_len 0 (length nodes)) numbers) where
  numbers : All (λ n. n < length nodes) (range_with_len 0 (length nodes))
  numbers k d within =
      let long = length-range_with_len 0 (length nodes) in
      let below : k < length nodes = omega (arith, within, long) in
      let same = get_or-range_with_len 0 (length nodes) k d below in
      omega (arith, below, same)

-- a test of the rest of a list, where the loop has come to its end, and where an item fails

pub all-past : (test : ℕ → Bool) (xs : List ℕ) (n : ℕ) → length xs ≤ n → list_all test (drop n xs) ≡ true
all-past test [] zero past = refl
all-past test [] (suc n) past = refl
all-past test (x ∷ xs) zero past = absurd (omega (arith, past))
all-past test (x ∷ xs) (suc n) past = all-past test xs n (omega (arith, past))

pub all-fails : (test : ℕ → Bool) (xs : List ℕ) (n : ℕ) → n < length xs → test (get_or xs n 0) ≡ false → list_all test (drop n xs) ≡ false
all-fails test [] n within fails = absurd (omega (arith, within))
all-fails test (x ∷ xs) zero within fails = ap (λ (b : Bool). b && list_all test xs) fails
all-fails test (x ∷ xs) (suc n) within fails = all-fails test xs n (omega (arith, within)) fails
