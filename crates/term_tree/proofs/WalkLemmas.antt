-- A walk begins with the term, goes on with the greatest number that waits, and ends where none waits.
use Rattle.std.proofs.Common.{◌≡◌, ℕ, ◌<◌, ◌==◌, List, [], ◌∷◌, ◌++◌, length, Bool, true, false, ◌||◌, refl, ap, sym, ◌∙◌, subst, arith, inl, inr, ◌⊎◌}
use Rattle.std.proofs.Math.Bool.{or-true}
use Rattle.std.proofs.lemmas.Bool.Decides.{nat_tests}
use Rattle.std.proofs.lemmas.List.Folds.{list_any-append}
use Rattle.std.proofs.lemmas.Option.{slice_get_within}
use Rattle.std.specs.Prelude.{slice_get, Some}
use Rattle.term_tree.specs.declared.node.Node.{Node}
use Rattle.term_tree.specs.Arena.{has_parts_below}
use Rattle.term_tree.specs.Subterms.{is_part, IsSubterm, itself, inside}
use Rattle.term_tree.specs.machinery.Walk.{has_number, IsClosed, IsWalk}
use Rattle.term_tree.proofs.PlainLemmas.{part_below}

either : (a b : Bool) → (a || b) ≡ true → (a ≡ true) ⊎ (b ≡ true)
either true b h = inl refl
either false b h = inr h

same_number : (k q : ℕ) → (k == q) ≡ true → k ≡ q
same_number k q h = grind (arith, nat_tests)

own_number : (k : ℕ) → (k == k) ≡ true
own_number k = grind (arith, nat_tests)

same_node : (nodes : List Node) (id : ℕ) (m n : Node) → slice_get nodes id ≡ Some m → slice_get nodes id ≡ Some n → m ≡ n
same_node nodes id m n h k = cc

or_false : (a : Bool) → (a || false) ≡ a
or_false true = refl
or_false false = refl

has_push : (q x : ℕ) (ids : List ℕ) → has_number q (ids ++ x ∷ []) ≡ (has_number q ids || (x == q))
has_push q x ids = list_any-append (λ id. id == q) ids (x ∷ []) ∙ ap (λ (b : Bool). has_number q ids || b) (or_false (x == q))

-- the parts of the only one wait
closed_one : (nodes : List Node) (waits : ℕ → Bool) (id : ℕ) (node : Node) → slice_get nodes id ≡ Some node → ((q : ℕ) → is_part q node ≡ true → waits q ≡ true)
    → IsClosed nodes waits (id ∷ [])
closed_one nodes waits id node at parts =
    (λ n part is has. parts part (subst (λ (m : Node). is_part part m ≡ true) (same_node nodes id n node is at) has), tt)

regrouped : (a e w p : Bool) → (a || (w || e)) ≡ true → ((a || e) || (w || p)) ≡ true
regrouped true e w p h = refl
regrouped false true w p h = refl
regrouped false false true p h = refl
regrouped false false false p h = absurd (cc)

closed_more : (nodes : List Node) (waits rest more : ℕ → Bool) (ids : List ℕ) (id : ℕ) (node : Node) → IsClosed nodes waits ids
    → ((q : ℕ) → waits q ≡ (rest q || (id == q))) → ((q : ℕ) → more q ≡ (rest q || is_part q node)) → slice_get nodes id ≡ Some node
    → IsClosed nodes more (ids ++ id ∷ [])
closed_more nodes waits rest more [] id node closed taken put at =
    closed_one nodes more id node at (λ q has. put q ∙ ap (λ (b : Bool). rest q || b) has ∙ or-true (rest q))
closed_more nodes waits rest more (x ∷ ids) id node closed taken put at = (
  λ n part is has.
      ap (λ (b : Bool). b || more part) (has_push part id ids) ∙ ap (λ (b : Bool). (has_number part ids || (id == part)) || b) (put part)
      ∙ regrouped (has_number part ids) (id == part) (rest part) (is_part part node)
      (ap (λ (b : Bool). has_number part ids || b) (sym (taken part)) ∙ closed.0 n part is has),
  closed_more nodes waits rest more ids id node closed.1 taken put at,
)

closed_same : (nodes : List Node) (waits other : ℕ → Bool) (ids : List ℕ) → ((q : ℕ) → waits q ≡ other q) → IsClosed nodes waits ids → IsClosed nodes other ids
closed_same nodes waits other [] same closed = tt
closed_same nodes waits other (id ∷ ids) same closed =
    (λ n part is has. ap (λ (b : Bool). has_number part ids || b) (sym (same part)) ∙ closed.0 n part is has, closed_same nodes waits other ids same closed.1)

pub walk_begins : (nodes : List Node) (top : ℕ) (node : Node) (waits : ℕ → Bool) → slice_get nodes top ≡ Some node → has_parts_below top node ≡ true
    → ((q : ℕ) → waits q ≡ is_part q node) → IsWalk nodes top top waits (top ∷ [])
walk_begins nodes top node waits at below put = record {
  bounded = λ q h. part_below q top node below (sym (put q) ∙ h);
  within = slice_get_within nodes top node at;
  waiting = λ q h. inside q node itself at (sym (put q) ∙ h);
  met = λ q h. subst (λ (k : ℕ). IsSubterm nodes top k) (same_number top q (sym (or_false (top == q)) ∙ h)) itself;
  there = λ q h. subst (λ (k : ℕ). k < length nodes) (same_number top q (sym (or_false (top == q)) ∙ h)) (slice_get_within nodes top node at);
  closed = closed_one nodes waits top node at (λ q has. put q ∙ has);
  begun = ap (λ (b : Bool). b || false) (own_number top);
}

pub waited : (waits rest : ℕ → Bool) (id : ℕ) → ((q : ℕ) → waits q ≡ (rest q || (id == q))) → waits id ≡ true
waited waits rest id taken = taken id ∙ ap (λ (b : Bool). rest id || b) (own_number id) ∙ or-true (rest id)

pub walk_goes_on : (nodes : List Node) (top last : ℕ) (waits rest more : ℕ → Bool) (ids : List ℕ) (id : ℕ) (node : Node) → IsWalk nodes top last waits ids
    → ((q : ℕ) → waits q ≡ (rest q || (id == q))) → ((q : ℕ) → rest q ≡ true → q < id) → ((q : ℕ) → more q ≡ (rest q || is_part q node))
    → slice_get nodes id ≡ Some node → has_parts_below id node ≡ true → IsWalk nodes top id more (ids ++ id ∷ [])
walk_goes_on nodes top last waits rest more ids id node walk taken less put at below =
    let here : IsSubterm nodes top id = walk.waiting id (waited waits rest id taken) in
    record {
      bounded = λ q h. elim (either (rest q) (is_part q node) (sym (put q) ∙ h)) [ inl w ↦ less q w | inr has ↦ part_below q id node below has ];
      within = slice_get_within nodes id node at;
      waiting = λ q h. elim (either (rest q) (is_part q node) (sym (put q) ∙ h))
          [ inl w ↦ walk.waiting q (taken q ∙ ap (λ (b : Bool). b || (id == q)) w) | inr has ↦ inside q node here at has ];
      met = λ q h. elim (either (has_number q ids) (id == q) (sym (has_push q id ids) ∙ h))
          [ inl old ↦ walk.met q old | inr new ↦ subst (λ (k : ℕ). IsSubterm nodes top k) (same_number id q new) here ];
      there = λ q h. elim (either (has_number q ids) (id == q) (sym (has_push q id ids) ∙ h))
          [ inl old ↦ walk.there q old | inr new ↦ subst (λ (k : ℕ). k < length nodes) (same_number id q new) (slice_get_within nodes id node at) ];
      closed = closed_more nodes waits rest more ids id node walk.closed taken put at;
      begun = has_push top id ids ∙ ap (λ (b : Bool). b || (id == top)) walk.begun;
    }

pub walk_ends : (nodes : List Node) (top last : ℕ) (waits : ℕ → Bool) (ids : List ℕ) → IsWalk nodes top last waits ids → ((q : ℕ) → waits q ≡ false) → IsClosed nodes (λ q. false) ids
walk_ends nodes top last waits ids walk none = closed_same nodes waits (λ q. false) ids none walk.closed
