-- The steps of the recursion over trees.
use Rattle.std.proofs.Common.{◌≡◌, ◌<◌, ◌≤◌, ◌+◌, ◌-◌, ◌^◌, ℕ, List, [], ◌∷◌, ◌++◌, length, take, drop, get_or, Bool, true, false, refl, sym, ap, ◌∙◌, subst, arith, length-append}
use Rattle.std.proofs.lemmas.List.{take_all}
use Rattle.std.specs.Prelude.{Option, None, Some, Ok, Err, Result, IfOk, codes, suc, zero, if◌then◌else◌}
use Rattle.std.specs.Option.{option_copied}
use Rattle.std.specs.Str.{bytes_eq}
use Rattle.std.specs.Borrow.{Bor}
use Rattle.sexp_read.specs.Leaves.{word_bytes}
use Rattle.sexp_read.specs.declared.tree.Tree.{Tree}
use Rattle.term_tree.specs.declared.node.TermId.{TermId}
use Rattle.term_tree.specs.Arena.{Arena}
use Rattle.term_check.specs.declared.found.Found.{Found}
use Rattle.term_check.specs.declared.found.FoundAll.{FoundAll}
use Rattle.term_check.specs.declared.part.Part.{Part}
use Rattle.term_check.specs.declared.part.Fault.{Fault}
use Rattle.term_check.specs.declared.scope.Bound.TheVariants as Bound
use Rattle.term_check.specs.declared.scope.Named.{Named}
use Rattle.term_check.specs.declared.stop.TermStop.{TermStop}
use Rattle.term_check.specs.declared.stop.TermStop.TheVariants.{Memory as OutOfMemory, Fault as Broken}
use Rattle.term_check.specs.Rules.{unless}
use Rattle.term_check.specs.machinery.Known.{Known, IsReady, is_let_below, are_lets_below, below_let, below_quantifier}
use Rattle.term_check.specs.Term.{IsTermAt, AreTermsAt}
use Rattle.term_check.specs.Spelling.{SpellingScope, Spelled, Gathered, ◌>>=◌, spelled, with_spelled, nothing_yet, items_of, lets_in, lets_from, variables_from, with_lets, with_read_variables, count_let, let_names_fault, binder_fault, variables_fault, quantifier_fault, let_spelled, quantified, quantifier, sorts_bound, is_spelled, is_word}
use Rattle.term_check.specs.Found.{IsFoundUnder, Keeps}
use Rattle.term_check.specs.machinery.Reading.{IsGathered, Tells, TellsAll, TellsMore, next_spelled, all_bound, under_lets, let_list, under_variables, quantifier_list, any_list}
use Rattle.term_check.specs.Weight.{weight, weights}
use Rattle.term_check.proofs.ReadingLemmas.{gathered_stay, gathered_more, all_below, below_both, both, first_of_both, second_of_both, lt_test, test_lt}
use Rattle.term_check.proofs.TermLemmas.{terms_stay}

pub if_ok_then : {A B : Type 0} (P Q : A → Type 0) (r : Result A B) → ((a : A) → P a → Q a) → IfOk r P → IfOk r Q
if_ok_then P Q (Ok a) f h = f a h
if_ok_then P Q (Err e) f h = h

-- trees by their places

pub rest_of : (xs : List Tree) (x : Tree) → 1 ≤ length xs → x ≡ get_or xs 0 x → xs ≡ x ∷ take (length xs - 1) (drop 1 xs)
rest_of [] x h is = absurd (omega (arith, h))
rest_of (y ∷ ys) x h is = let long : length ys ≤ length (y ∷ ys) - 1 = omega arith in ap (λ z. z ∷ ys) (sym is) ∙ ap (λ zs. x ∷ zs) (sym (take_all (length (y ∷ ys) - 1) ys long))

pub two_of : (xs : List Tree) (x y : Tree) → 2 ≤ length xs → length xs < 3 → x ≡ get_or xs 0 x → y ≡ get_or xs 1 y → xs ≡ x ∷ y ∷ []
two_of [] x y h k ix iy = absurd (omega (arith, h))
two_of (a ∷ []) x y h k ix iy = absurd (omega (arith, h))
two_of (a ∷ b ∷ []) x y h k ix iy = ap (λ z. z ∷ b ∷ []) (sym ix) ∙ ap (λ z. x ∷ z ∷ []) (sym iy)
two_of (a ∷ b ∷ c ∷ xs) x y h k ix iy = absurd (omega (arith, k))

pub second_weighs : (xs : List Tree) (y : Tree) → 2 ≤ length xs → y ≡ get_or xs 1 y → weight y ≤ weights xs
second_weighs [] y h is = absurd (omega (arith, h))
second_weighs (a ∷ []) y h is = absurd (omega (arith, h))
second_weighs (a ∷ b ∷ xs) y h is = let e = ap weight is in omega (arith, e)

pub weigh_drop : (xs : List Tree) (i : ℕ) → weights (drop i xs) ≤ weights xs
weigh_drop [] zero = omega arith
weigh_drop [] (suc i) = omega arith
weigh_drop (x ∷ xs) zero = omega arith
weigh_drop (x ∷ xs) (suc i) = let h = weigh_drop xs i in omega (arith, h)

pub next_of : (xs : List Tree) (i : ℕ) (x : Tree) → i < length xs → x ≡ get_or xs i x → drop i xs ≡ x ∷ drop (i + 1) xs
next_of [] i x h is = absurd (omega (arith, h))
next_of (y ∷ ys) zero x h is = ap (λ z. z ∷ ys) (sym is)
next_of (y ∷ ys) (suc i) x h is = let e : suc (i + 1) ≡ suc i + 1 = omega arith in next_of ys i x (omega (arith, h)) is ∙ ap (λ k. x ∷ drop k (y ∷ ys)) e

pub weigh_next : (xs : List Tree) (i : ℕ) (x : Tree) → i < length xs → x ≡ get_or xs i x → weights (drop i xs) ≡ weight x + weights (drop (i + 1) xs)
weigh_next xs i x h is = ap weights (next_of xs i x h is)

-- arguments

pub none_gathered : (lets : List TermId) (arena : Arena) (ids : List TermId) (parts : List Part) (next n : ℕ) → ids ≡ [] → parts ≡ [] → n ≡ next → IsGathered lets arena (nothing_yet next) ids parts n
none_gathered lets arena ids parts next n i p is = record {
  terms = subst (λ (xs : List TermId). AreTermsAt arena lets ((nothing_yet next).terms) xs) (sym i) tt;
  parts_are = sym p;
  next_is = sym is;
  level = ap (λ (xs : List TermId). length xs) i ∙ sym (ap (λ (ps : List Part). length ps) p);
}

pub next_told : (lets : List TermId) (text : List ℕ) (scope : SpellingScope) (next : ℕ) (tree : Tree) (old new : Arena) (found : Found) (ids ids' : List TermId) (parts parts' : List Part) (n : ℕ)
    → IsFoundUnder lets (spelled text scope next tree) new found.id found.part found.next → Keeps old new
    → ids' ≡ ids ++ found.id ∷ [] → parts' ≡ parts ++ found.part ∷ [] → n ≡ found.next
    → (g : Gathered) → IsGathered lets old g ids parts next
    → (h : Gathered) × (next_spelled text scope g tree ≡ Ok h) × IsGathered lets new h ids' parts' n
next_told lets text scope next tree old new found ids ids' parts parts' n told keeps is ps ns g h =
    let s = told.0 in (
      with_spelled g s,
      ap (λ k. spelled text scope k tree >>= λ s. Ok (with_spelled g s)) h.next_is ∙ ap (λ (r : Result Spelled Fault). r >>= λ s. Ok (with_spelled g s)) told.1,
      subst (λ k. IsGathered lets new (with_spelled g s) ids' parts' k) (sym ns) (gathered_more lets new g ids ids' parts parts' next s found (gathered_stay lets old new g ids parts next keeps h) told.2 told.3 told.4 is ps),
    )

-- a turn of a loop over trees
pub turned : (step : Known → Gathered → Tree → Result Gathered Fault) (each : Known → Gathered → List Tree → Result Gathered Fault)
    → ((k : Known) (g : Gathered) (t : Tree) (ts : List Tree) → each k g (t ∷ ts) ≡ (step k g t >>= λ h. each k h ts))
    → (args now : Known) (old new : Arena) (ids ids' : List TermId) (parts parts' : List Part) (next next' : ℕ) (trees : List Tree) (i : ℕ) (tree : Tree) (whole : Result Gathered Fault)
    → now ≡ args → i < length trees → tree ≡ get_or trees i tree
    → (g : Gathered) × IsGathered args.lets old g ids parts next × (each args g (drop i trees) ≡ whole)
    → ((g : Gathered) → IsGathered now.lets old g ids parts next → (h : Gathered) × (step now g tree ≡ Ok h) × IsGathered now.lets new h ids' parts' next')
    → (g : Gathered) × IsGathered args.lets new g ids' parts' next' × (each args g (drop (i + 1) trees) ≡ whole)
turned step each unfolds args now old new ids ids' parts parts' next next' trees i tree whole same lt is told more =
    let g = told.0 in
    let m = subst (λ (k : Known). (g : Gathered) → IsGathered k.lets old g ids parts next → (h : Gathered) × (step k g tree ≡ Ok h) × IsGathered k.lets new h ids' parts' next') same more g told.1 in
    let h = m.0 in (
      h,
      m.2,
      sym (ap (λ (r : Result Gathered Fault). r >>= λ j. each args j (drop (i + 1) trees)) m.1) ∙ sym (unfolds args g tree (drop (i + 1) trees)) ∙ sym (ap (each args g) (next_of trees i tree lt is)) ∙ told.2,
    )

-- a refusal ends a loop over trees
pub stopped : (step : Known → Gathered → Tree → Result Gathered Fault) (each : Known → Gathered → List Tree → Result Gathered Fault)
    → ((k : Known) (g : Gathered) (t : Tree) (ts : List Tree) → each k g (t ∷ ts) ≡ (step k g t >>= λ h. each k h ts))
    → (args now : Known) (old new : Arena) (ids : List TermId) (parts : List Part) (next : ℕ) (trees : List Tree) (i : ℕ) (tree : Tree) (whole : Result Gathered Fault) (all : FoundAll) (stop : TermStop)
    → now ≡ args → i < length trees → tree ≡ get_or trees i tree
    → (g : Gathered) × IsGathered args.lets old g ids parts next × (each args g (drop i trees) ≡ whole)
    → ((g : Gathered) → IsGathered now.lets old g ids parts next → TellsMore now.lets (step now g tree) new all (Err stop))
    → TellsAll args.lets whole new (Err stop)
stopped step each unfolds args now old new ids parts next trees i tree whole all OutOfMemory same lt is told more = tt
stopped step each unfolds args now old new ids parts next trees i tree whole all (Broken f) same lt is told more =
    let g = told.0 in
    let m = subst (λ (k : Known). (g : Gathered) → IsGathered k.lets old g ids parts next → step k g tree ≡ Err f) same more g told.1 in
    sym told.2 ∙ ap (each args g) (next_of trees i tree lt is) ∙ unfolds args g tree (drop (i + 1) trees) ∙ ap (λ (r : Result Gathered Fault). r >>= λ j. each args j (drop (i + 1) trees)) m

-- names below binders

lets_both : (xs ys : List Named) → lets_in (xs ++ ys) ≡ lets_in xs + lets_in ys
lets_both [] ys = omega arith
lets_both (x ∷ xs) ys = by x.bound (lets_both xs ys) where
  by : (b : _) → lets_in (xs ++ ys) ≡ lets_in xs + lets_in ys → count_let b (lets_in (xs ++ ys)) ≡ count_let b (lets_in xs) + lets_in ys
  by (Bound.Let number sort constant) h = omega (arith, h)
  by (Bound.Variable number sort) h = h

lets_of_lets : (text : List ℕ) (number : ℕ) (items : List Tree) (parts : List Part) → length parts ≤ length items → lets_in (lets_from text number items parts) ≡ length parts
lets_of_lets text number [] [] h = refl
lets_of_lets text number (item ∷ items) [] h = refl
lets_of_lets text number [] (p ∷ ps) h = absurd (omega (arith, h))
lets_of_lets text number (item ∷ items) (p ∷ ps) h = let r = lets_of_lets text (number + 1) items ps (omega (arith, h)) in omega (arith, r)

lets_of_variables : (text : List ℕ) (number : ℕ) (items : List Tree) → lets_in (variables_from text number items) ≡ 0
lets_of_variables text number [] = refl
lets_of_variables text number (item ∷ items) = lets_of_variables text (number + 1) items

names_both : (n : ℕ) (xs ys : List Named) → are_lets_below n xs ≡ true → are_lets_below n ys ≡ true → are_lets_below n (xs ++ ys) ≡ true
names_both n [] ys h k = k
names_both n (x ∷ xs) ys h k = both _ _ (first_of_both _ _ h) (names_both n xs ys (second_of_both _ _ h) k)

bound_more : (m n : ℕ) (b : _) → m ≤ n → is_let_below m b ≡ true → is_let_below n b ≡ true
bound_more m n (Bound.Let number sort constant) h k = let l = test_lt number m k in lt_test number n (omega (arith, l, h))
bound_more m n (Bound.Variable number sort) h k = refl

names_more : (m n : ℕ) (names : List Named) → m ≤ n → are_lets_below m names ≡ true → are_lets_below n names ≡ true
names_more m n [] h k = refl
names_more m n (x ∷ xs) h k = both _ _ (bound_more m n x.bound h (first_of_both _ _ k)) (names_more m n xs h (second_of_both _ _ k))

lets_below_all : (text : List ℕ) (number n : ℕ) (items : List Tree) (parts : List Part) → number + length parts ≤ n → are_lets_below n (lets_from text number items parts) ≡ true
lets_below_all text number n [] [] h = refl
lets_below_all text number n (item ∷ items) [] h = refl
lets_below_all text number n [] (p ∷ ps) h = refl
lets_below_all text number n (item ∷ items) (p ∷ ps) h = both _ _ (lt_test number n (omega (arith, h))) (lets_below_all text (number + 1) n items ps (omega (arith, h)))

variables_below : (text : List ℕ) (number n : ℕ) (items : List Tree) → are_lets_below n (variables_from text number items) ≡ true
variables_below text number n [] = refl
variables_below text number n (item ∷ items) = variables_below text (number + 1) n items

pub ready_below_let : (known : Known) (arena : Arena) (next : ℕ) (items : List Tree) (room : ℕ) (ids : List TermId) (parts : List Part) (g : Gathered) (n : ℕ)
    → IsReady known arena next room → length known.lets + (length items + room) < 2 ^ 32 → IsGathered known.lets arena g ids parts n → length ids ≤ length items
    → IsReady (below_let known items parts ids) arena next room
ready_below_let known arena next items room ids parts g n h fits gathered count =
    let long = length-append known.lets ids in
    let level = gathered.level in
    let few : length parts ≤ length items = omega (arith, level, count) in
    record {
      aligned = h.aligned;
      numbered = let sum = lets_both known.scope.names (lets_from known.text (length known.lets) items parts) in let more = lets_of_lets known.text (length known.lets) items parts few in let old = h.numbered in
          omega (arith, sum, more, old, long, level);
      bound = names_both (length (known.lets ++ ids)) known.scope.names (lets_from known.text (length known.lets) items parts) (names_more (length known.lets) (length (known.lets ++ ids)) known.scope.names (omega (arith, long)) h.bound)
          (lets_below_all known.text (length known.lets) (length (known.lets ++ ids)) items parts (omega (arith, long, level)));
      below = below_both (length arena.nodes) known.lets ids h.below (all_below arena known.lets g.terms ids gathered.terms);
      variables = h.variables;
      terms = omega (arith, fits, long, count);
    }

pub ready_below_quantifier : (known : Known) (arena : Arena) (next first : ℕ) (items : List Tree) (room : ℕ) → IsReady known arena next (length items + room)
    → IsReady (below_quantifier known first items) arena (next + length items) room
ready_below_quantifier known arena next first items room h = record {
  aligned = h.aligned;
  numbered = let sum = lets_both known.scope.names (variables_from known.text first items) in let none = lets_of_variables known.text first items in let old = h.numbered in omega (arith, sum, none, old);
  bound = names_both (length known.lets) known.scope.names (variables_from known.text first items) h.bound (variables_below known.text first (length known.lets) items);
  below = h.below;
  variables = let v = h.variables in omega (arith, v);
  terms = let t = h.terms in omega (arith, t);
}

pub under_lets_told : (known self : Known) (start next : ℕ) (items : List Tree) (body : Tree) (ids ids' : List TermId) (parts parts' : List Part) (found : Found) (old mid new : Arena) (result : Result Found TermStop)
    → self ≡ below_let known items parts' ids' → parts' ≡ parts → ids' ≡ ids → lets_in known.scope.names ≡ length known.lets → let_names_fault known.text [] items ≡ None
    → IsFoundUnder self.lets (spelled self.text self.scope next body) mid found.id found.part found.next → Keeps old mid
    → ((lets : List TermId) (g : Gathered) (s : Spelled) → AreTermsAt mid lets g.terms ids → IsTermAt mid (lets ++ ids) s.term found.id.0 → s.part ≡ found.part → s.next ≡ found.next → Tells lets (Ok (let_spelled start g s)) new result)
    → (g : Gathered) → IsGathered known.lets old g ids parts next → Tells known.lets (under_lets known.text known.scope start items body g) new result
under_lets_told known self start next items body ids ids' parts parts' found old mid new result is same_parts same_ids numbered none told keeps added g h =
    let there = ap (λ (ps : List Part). below_let known items ps ids') same_parts ∙ ap (λ (xs : List TermId). below_let known items parts xs) same_ids in
    let found_there = subst (λ (k : Known). IsFoundUnder k.lets (spelled k.text k.scope next body) mid found.id found.part found.next) (is ∙ there) told in
    let s = found_there.0 in
    let scope : with_lets known.text known.scope items g.parts ≡ (below_let known items parts ids).scope =
    ap (λ (ps : List Part). with_lets known.text known.scope items ps) h.parts_are ∙ ap (λ n. record known.scope { names = known.scope.names ++ lets_from known.text n items parts }) numbered in
    let outcome : under_lets known.text known.scope start items body g ≡ Ok (let_spelled start g s) =
    ap (λ (o : Option Fault). unless o (spelled known.text (with_lets known.text known.scope items g.parts) g.next body >>= λ s. Ok (let_spelled start g s))) none
    ∙ ap (λ (k : SpellingScope). spelled known.text k g.next body >>= λ s. Ok (let_spelled start g s)) scope
    ∙ ap (λ n. spelled known.text ((below_let known items parts ids).scope) n body >>= λ s. Ok (let_spelled start g s)) h.next_is
    ∙ ap (λ (r : Result Spelled Fault). r >>= λ s. Ok (let_spelled start g s)) found_there.1 in
    subst (λ (r : Result Spelled Fault). Tells known.lets r new result) (sym outcome)
    (added known.lets g s (terms_stay old mid keeps known.lets g.terms ids h.terms) found_there.2 found_there.3 found_there.4)

pub under_variables_told : (known self : Known) (start next first : ℕ) (all : Bool) (items : List Tree) (body : Tree) (sorts : List _) (found : Found) (mid new : Arena) (result : Result Found TermStop)
    → self ≡ below_quantifier known next items → sorts ≡ sorts_bound known.text items → first ≡ next + length items
    → IsFoundUnder self.lets (spelled self.text self.scope first body) mid found.id found.part found.next
    → ((lets : List TermId) (s : Spelled) → IsTermAt mid lets s.term found.id.0 → s.part ≡ found.part → s.next ≡ found.next → Tells lets (quantified (quantifier all start next sorts) start s) new result)
    → Tells known.lets (under_variables known.text known.scope next start all items body) new result
under_variables_told known self start next first all items body sorts found mid new result is same_sorts same_first told added =
    let found_there = subst (λ (k : Known). IsFoundUnder k.lets (spelled k.text k.scope first body) mid found.id found.part found.next) is told in
    let s = found_there.0 in
    let outcome : under_variables known.text known.scope next start all items body ≡ quantified (quantifier all start next sorts) start s =
    ap (λ n. spelled known.text (with_read_variables known.text known.scope next items) n body >>= λ s. quantified (quantifier all start next (sorts_bound known.text items)) start s) (sym same_first)
    ∙ ap (λ (r : Result Spelled Fault). r >>= λ s. quantified (quantifier all start next (sorts_bound known.text items)) start s) found_there.1
    ∙ ap (λ ss. quantified (quantifier all start next ss) start s) (sym same_sorts) in
    subst (λ (r : Result Spelled Fault). Tells known.lets r new result) (sym outcome) (added known.lets s found_there.2 found_there.3 found_there.4)

-- a term below names that isn't read

pub under_lets_stop : (known self : Known) (start next : ℕ) (items : List Tree) (body : Tree) (ids ids' : List TermId) (parts parts' : List Part) (old mid : Arena) (stop : TermStop)
    → self ≡ below_let known items parts' ids' → parts' ≡ parts → ids' ≡ ids → lets_in known.scope.names ≡ length known.lets → let_names_fault known.text [] items ≡ None
    → Tells self.lets (spelled self.text self.scope next body) mid (Err stop)
    → (g : Gathered) → IsGathered known.lets old g ids parts next → Tells known.lets (under_lets known.text known.scope start items body g) mid (Err stop)
under_lets_stop known self start next items body ids ids' parts parts' old mid OutOfMemory is same_parts same_ids numbered none told g h = tt
under_lets_stop known self start next items body ids ids' parts parts' old mid (Broken f) is same_parts same_ids numbered none told g h =
    let there = ap (λ (ps : List Part). below_let known items ps ids') same_parts ∙ ap (λ (xs : List TermId). below_let known items parts xs) same_ids in
    let stopped_there = subst (λ (k : Known). spelled k.text k.scope next body ≡ Err f) (is ∙ there) told in
    let scope : with_lets known.text known.scope items g.parts ≡ (below_let known items parts ids).scope =
    ap (λ (ps : List Part). with_lets known.text known.scope items ps) h.parts_are ∙ ap (λ n. record known.scope { names = known.scope.names ++ lets_from known.text n items parts }) numbered in
    ap (λ (o : Option Fault). unless o (spelled known.text (with_lets known.text known.scope items g.parts) g.next body >>= λ s. Ok (let_spelled start g s))) none
    ∙ ap (λ (k : SpellingScope). spelled known.text k g.next body >>= λ s. Ok (let_spelled start g s)) scope
    ∙ ap (λ n. spelled known.text ((below_let known items parts ids).scope) n body >>= λ s. Ok (let_spelled start g s)) h.next_is
    ∙ ap (λ (r : Result Spelled Fault). r >>= λ s. Ok (let_spelled start g s)) stopped_there

pub under_variables_stop : (known self : Known) (start next : ℕ) (all : Bool) (items : List Tree) (body : Tree) (mid : Arena) (stop : TermStop)
    → self ≡ below_quantifier known next items → Tells self.lets (spelled self.text self.scope (next + length items) body) mid (Err stop)
    → Tells known.lets (under_variables known.text known.scope next start all items body) mid (Err stop)
under_variables_stop known self start next all items body mid OutOfMemory is told = tt
under_variables_stop known self start next all items body mid (Broken f) is told =
    let stopped_there = subst (λ (k : Known). spelled k.text k.scope (next + length items) body ≡ Err f) is told in
    ap (λ (r : Result Spelled Fault). r >>= λ s. quantified (quantifier all start next (sorts_bound known.text items)) start s) stopped_there

pub quantifier_repeated : (text : List ℕ) (scope : SpellingScope) (next start : ℕ) (all : Bool) (binder body : Tree) (rest : List Tree) (f : Fault) → scope.quantifies ≡ true → rest ≡ binder ∷ body ∷ []
    → binder_fault text binder ≡ None → variables_fault text [] (items_of binder) ≡ Some f → unless (quantifier_fault scope.quantifies start) (quantifier_list text scope next start all rest) ≡ Err f
quantifier_repeated text scope next start all binder body rest f q is none repeated =
    ap (λ b. unless (quantifier_fault b start) (quantifier_list text scope next start all rest)) q
    ∙ ap (quantifier_list text scope next start all) is
    ∙ ap (λ (o : Option Fault). unless o (unless (variables_fault text [] (items_of binder)) (under_variables text scope next start all (items_of binder) body))) none
    ∙ ap (λ (o : Option Fault). unless o (under_variables text scope next start all (items_of binder) body)) repeated

pub quantifier_told : (text : List ℕ) (scope : SpellingScope) (next start : ℕ) (all : Bool) (binder body : Tree) (rest : List Tree) → scope.quantifies ≡ true → rest ≡ binder ∷ body ∷ []
    → binder_fault text binder ≡ None → variables_fault text [] (items_of binder) ≡ None
    → unless (quantifier_fault scope.quantifies start) (quantifier_list text scope next start all rest) ≡ under_variables text scope next start all (items_of binder) body
quantifier_told text scope next start all binder body rest q is none unrepeated =
    ap (λ b. unless (quantifier_fault b start) (quantifier_list text scope next start all rest)) q
    ∙ ap (quantifier_list text scope next start all) is
    ∙ ap (λ (o : Option Fault). unless o (unless (variables_fault text [] (items_of binder)) (under_variables text scope next start all (items_of binder) body))) none
    ∙ ap (λ (o : Option Fault). unless o (under_variables text scope next start all (items_of binder) body)) unrepeated

pub let_told : (known now : Known) (next start : ℕ) (binder body : Tree) (rest items : List Tree) (g : Gathered) (new : Arena) (result : Result Found TermStop)
    → rest ≡ binder ∷ body ∷ [] → binder_fault known.text binder ≡ None → items ≡ items_of binder → all_bound known.text known.scope (nothing_yet next) items ≡ Ok g
    → now ≡ known → Tells now.lets (under_lets now.text now.scope start items body g) new result
    → Tells known.lets (let_list known.text known.scope next start rest) new result
let_told known now next start binder body rest items g new result is none same gathered kept told =
    let outcome : let_list known.text known.scope next start rest ≡ under_lets known.text known.scope start items body g =
    ap (let_list known.text known.scope next start) is
    ∙ ap (λ (o : Option Fault). unless o (all_bound known.text known.scope (nothing_yet next) (items_of binder) >>= under_lets known.text known.scope start (items_of binder) body)) none
    ∙ ap (λ (xs : List Tree). all_bound known.text known.scope (nothing_yet next) xs >>= under_lets known.text known.scope start xs body) (sym same)
    ∙ ap (λ (r : Result Gathered Fault). r >>= under_lets known.text known.scope start items body) gathered in
    subst (λ (r : Result Spelled Fault). Tells known.lets r new result) (sym outcome)
    (subst (λ (k : Known). Tells k.lets (under_lets k.text k.scope start items body g) new result) kept told)

-- the words that begin a list

pub word_test : (text : List ℕ) (head : Tree) (read : Option (Bor (List ℕ))) (word : Bor (List ℕ)) (name : List ℕ) (b : Bool) → option_copied read ≡ word_bytes text head → read ≡ Some word → b ≡ bytes_eq word.now name
    → is_word text head name ≡ b
word_test text head read word name b copied is test = ap (λ (o : Option (List ℕ)). is_spelled o name) (sym copied) ∙ ap (λ (o : Option (Bor (List ℕ))). is_spelled (option_copied o) name) is ∙ sym test

chosen : (b : Bool) (x y : Result Spelled Fault) → b ≡ true → (if b then x else y) ≡ x
chosen true x y h = refl
chosen false x y h = absurd (cc)

passed : (b : Bool) (x y : Result Spelled Fault) → b ≡ false → (if b then x else y) ≡ y
passed true x y h = absurd (cc)
passed false x y h = refl

pub any_let : (text : List ℕ) (scope : SpellingScope) (next start : ℕ) (items : List Tree) (head : Tree) (rest : List Tree) → items ≡ head ∷ rest → is_word text head (codes "let") ≡ true
    → any_list text scope next start items ≡ let_list text scope next start rest
any_let text scope next start items head rest is h = ap (any_list text scope next start) is ∙ chosen (is_word text head (codes "let")) _ _ h

pub any_forall : (text : List ℕ) (scope : SpellingScope) (next start : ℕ) (items : List Tree) (head : Tree) (rest : List Tree) → items ≡ head ∷ rest → is_word text head (codes "let") ≡ false
    → is_word text head (codes "forall") ≡ true → any_list text scope next start items ≡ unless (quantifier_fault scope.quantifies start) (quantifier_list text scope next start true rest)
any_forall text scope next start items head rest is h k =
    ap (any_list text scope next start) is ∙ passed (is_word text head (codes "let")) _ _ h ∙ chosen (is_word text head (codes "forall")) _ _ k

pub any_exists : (text : List ℕ) (scope : SpellingScope) (next start : ℕ) (items : List Tree) (head : Tree) (rest : List Tree) → items ≡ head ∷ rest → is_word text head (codes "let") ≡ false
    → is_word text head (codes "forall") ≡ false → is_word text head (codes "exists") ≡ true
    → any_list text scope next start items ≡ unless (quantifier_fault scope.quantifies start) (quantifier_list text scope next start false rest)
any_exists text scope next start items head rest is h k l =
    ap (any_list text scope next start) is ∙ passed (is_word text head (codes "let")) _ _ h ∙ passed (is_word text head (codes "forall")) _ _ k ∙ chosen (is_word text head (codes "exists")) _ _ l
