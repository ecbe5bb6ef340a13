-- Names that are apart: what each stands for can be had from it.
use Rattle.std.proofs.Common.{◌≡◌, ℕ, zero, suc, ◌+◌, ◌-◌, ◌<◌, ◌≤◌, ◌^◌, List, [], ◌∷◌, get_or, Bool, true, false, not, ◌==◌, refl, ap, sym, ◌∙◌, arith}
use Rattle.std.specs.Prelude.{slice_get, position, Option, Some, None, option_map, unwrap_or, nat_lt, if◌then◌else◌}
use Rattle.std.specs.List.{list_all}
use Rattle.std.specs.Ordering.{nat_cmp}
use Rattle.std.specs.BTreeMap.{BTreeMap, get}
use Rattle.std.proofs.lemmas.Bool.Decides.{nat_tests}
use Rattle.std.proofs.lemmas.Option.{get_or_from_slice_get}
use Rattle.term_tree.specs.declared.node.Node.{Node}
use Rattle.term_tree.specs.declared.node.Node.TheVariants.{Var}
use Rattle.term_tree.specs.Arena.{IsArena}
use Rattle.term_tree.specs.Subterms.{IsSubterm, inside, itself}
use Rattle.term_tree.proofs.Public.{arena_below, both_true, part_below}
use Rattle.lin_atoms.specs.Algebra.{name_in}
use Rattle.term_forms.specs.Found.{naming_in}
use Rattle.term_widths.specs.machinery.Apart.{AreAlike, AreFirsts, AreNoVariables, AreOwnBelow, EndsVariables, Occurs, is_variable_there, placed_naming}
use Rattle.term_widths.proofs.PositionLemmas.{position_is}

same_number : (a b : ℕ) → (a == b) ≡ true → a ≡ b
same_number a b h = grind (arith, nat_tests)

is_less : (a n : ℕ) → a < n → nat_lt a n ≡ true
is_less a n h = grind (arith, nat_tests)

isnt_less : (n i : ℕ) → nat_lt (n + i) n ≡ false
isnt_less n i = grind (arith, nat_tests)

-- a subterm has no greater number
pub subterm_within : (nodes : List Node) (top id n : ℕ) → IsArena nodes → IsSubterm nodes top id → top < n → id < n
subterm_within nodes top _ n arena itself h = h
subterm_within nodes top _ n arena (inside {id} part node sub is has) h =
    let above : id < n = subterm_within nodes top id n arena sub h in
    let less : part < id = part_below part id node (arena_below nodes id node arena is) has in
    omega arith

passes_at : (test : ℕ → Bool) (xs : List ℕ) (i x : ℕ) → list_all test xs ≡ true → slice_get xs i ≡ Some x → test x ≡ true
passes_at test [] i x all is = absurd (cc)
passes_at test (y ∷ xs) zero x all is = let same : y ≡ x = cc in ap test (sym same) ∙ (both_true (test y) (list_all test xs) all).0
passes_at test (y ∷ xs) (suc i) x all is = passes_at test xs i x (both_true (test y) (list_all test xs) all).1 is

-- the name of what stands for a variable below `first`, or of the place behind it
abbrev there : List ℕ → ℕ → BTreeMap ℕ ℕ → ℕ → ℕ
there placed first firsts v = if nat_lt v first then unwrap_or (get nat_cmp firsts v) 0 else get_or placed (v - first) 0

abbrev back_node : List ℕ → ℕ → Option Node → ℕ
back_node own other (Some (Var binder sort)) = name_in own binder
back_node own other _ = other

-- what the term of that number stands for
abbrev back : List Node → List ℕ → List ℕ → ℕ → ℕ → ℕ
back nodes own placed first t = back_node own (first + unwrap_or (position (λ p. p == t) placed) 0) (slice_get nodes t)

there_below : (placed : List ℕ) (first : ℕ) (firsts : BTreeMap ℕ ℕ) (v f : ℕ) → v < first → get nat_cmp firsts v ≡ Some f → there placed first firsts v ≡ f
there_below placed first firsts v f h is =
    ap (λ (b : Bool). if b then unwrap_or (get nat_cmp firsts v) 0 else get_or placed (v - first) 0) (is_less v first h) ∙ ap (λ (o : Option ℕ). unwrap_or o 0) is

there_behind : (placed : List ℕ) (first : ℕ) (firsts : BTreeMap ℕ ℕ) (i id : ℕ) → slice_get placed i ≡ Some id → there placed first firsts (first + i) ≡ id
there_behind placed first firsts i id is =
    let left : (first + i) - first ≡ i = omega arith in
    ap (λ (b : Bool). if b then unwrap_or (get nat_cmp firsts (first + i)) 0 else get_or placed ((first + i) - first) 0) (isnt_less first i)
    ∙ ap (λ (k : ℕ). get_or placed k 0) left ∙ get_or_from_slice_get placed i id 0 is

back_other : (own : List ℕ) (other : ℕ) (o : Option Node) → not (is_variable_there o) ≡ true → back_node own other o ≡ other
back_other own other None h = refl
back_other own other (Some (Var binder sort)) h = absurd (cc)
back_other own other (Some _) h = refl

-- what the names are
pub record AreApart (nodes : List Node) (own placed named : List ℕ) (numbers firsts : BTreeMap ℕ ℕ) (end : ℕ) : Type 0 where
  pub firsts_are : AreFirsts nodes own firsts
  pub named_are : (binder : ℕ) → binder < end → binder < 2 ^ 32 → name_in named binder ≡ unwrap_or (get nat_cmp firsts (name_in own binder)) binder
  pub ends : EndsVariables nodes end
  pub short : end ≤ 2 ^ 32
  pub numbers_are : (id : ℕ) → get nat_cmp numbers id ≡ option_map (λ i. id) (position (λ p. p == id) placed)

-- the first term that is kept for a variable names it
record IsFirst (own named : List ℕ) (firsts : BTreeMap ℕ ℕ) (binder : ℕ) : Type 0 where
  pub first : ℕ
  pub kept : get nat_cmp firsts (name_in own binder) ≡ Some first
  pub names : name_in named binder ≡ first

module _ (nodes : List Node) (own placed named : List ℕ) (numbers firsts : BTreeMap ℕ ℕ) (end : ℕ) (are : AreApart nodes own placed named numbers firsts end) where
  first_of : (top binder : ℕ) → IsArena nodes → top < 2 ^ 32 → Occurs nodes top binder → IsFirst own named firsts binder
  first_of top binder arena short occurs =
      let within : occurs.id < 2 ^ 32 = subterm_within nodes top occurs.id (2 ^ 32) arena occurs.below short in
      let below : binder < end = are.ends occurs.id binder occurs.sort within occurs.is in
      let room : end ≤ 2 ^ 32 = are.short in
      let found = are.firsts_are.each occurs.id binder occurs.sort within occurs.is in
      record { first = found.0; kept = found.1; names = are.named_are binder below (omega arith) ∙ ap (λ (o : Option ℕ). unwrap_or o binder) found.1 }

  own_there : (top first binder : ℕ) → IsArena nodes → top < 2 ^ 32 → AreOwnBelow nodes top own first → Occurs nodes top binder → name_in named binder ≡ there placed first firsts (name_in own binder)
  own_there top first binder arena short below occurs =
      let found = first_of top binder arena short occurs in
      found.names ∙ sym (there_below placed first firsts (name_in own binder) found.first (below binder occurs) found.kept)

  own_back : (top first binder : ℕ) → IsArena nodes → top < 2 ^ 32 → Occurs nodes top binder → name_in own binder ≡ back nodes own placed first (name_in named binder)
  own_back top first binder arena short occurs =
      let found = first_of top binder arena short occurs in
      let right = are.firsts_are.right (name_in own binder) found.first found.kept in
      let here : back nodes own placed first found.first ≡ name_in own right.binder = ap (back_node own (first + unwrap_or (position (λ p. p == found.first) placed) 0)) right.is in
      sym right.stands ∙ sym here ∙ sym (ap (back nodes own placed first) found.names)

  place_there : (first id : ℕ) (found : Option ℕ) → position (λ p. p == id) placed ≡ found → option_map (λ i. id) found ≡ option_map (there placed first firsts) (option_map (λ i. first + i) found)
  place_there first id None e = refl
  place_there first id (Some i) e =
      let at = position_is (λ p. p == id) placed i e in
      let same : at.element ≡ id = same_number at.element id at.passes in
      ap (λ (k : ℕ). Some k) (sym (there_behind placed first firsts i id (at.there ∙ ap (λ (k : ℕ). Some k) same)))

  place_back : (first id : ℕ) (found : Option ℕ) → AreNoVariables nodes placed → position (λ p. p == id) placed ≡ found
      → option_map (λ i. first + i) found ≡ option_map (back nodes own placed first) (option_map (λ i. id) found)
  place_back first id None plain e = refl
  place_back first id (Some i) plain e =
      let at = position_is (λ p. p == id) placed i e in
      let same : at.element ≡ id = same_number at.element id at.passes in
      let other : not (is_variable_there (slice_get nodes id)) ≡ true =
      ap (λ (k : ℕ). not (is_variable_there (slice_get nodes k))) (sym same) ∙ passes_at (λ k. not (is_variable_there (slice_get nodes k))) placed i at.element plain at.there in
      ap (λ (k : ℕ). Some k) (sym (back_other own (first + unwrap_or (position (λ p. p == id) placed) 0) (slice_get nodes id) other ∙ ap (λ (o : Option ℕ). first + unwrap_or o 0) e))

  -- the names that are apart are had from the others, and the others from them
  pub alike : (top first : ℕ) → IsArena nodes → AreNoVariables nodes placed → top < 2 ^ 32 → AreOwnBelow nodes top own first → AreAlike nodes top (placed_naming own first placed) (naming_in named numbers)
  alike top first arena plain short below = record {
    there = there placed first firsts;
    back = back nodes own placed first;
    there_is = record {
      own = λ binder occurs. own_there top first binder arena short below occurs;
      auxiliary = λ id. are.numbers_are id ∙ place_there first id (position (λ p. p == id) placed) refl;
    };
    back_is = record {
      own = λ binder occurs. own_back top first binder arena short occurs;
      auxiliary = λ id. place_back first id (position (λ p. p == id) placed) plain refl ∙ sym (ap (option_map (back nodes own placed first)) (are.numbers_are id));
    };
  }
