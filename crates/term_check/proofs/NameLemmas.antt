-- What bound names stand for, and how they fit the names that an arena's term may use.
use Rattle.std.proofs.Common.{◌≡◌, ℕ, ◌+◌, ◌-◌, ◌≤◌, ◌<◌, List, [], ◌∷◌, ◌++◌, length, Bool, true, false, ◌||◌, ◌⊎◌, inl, inr, refl, ap, sym, ◌∙◌, subst, arith, length-append, ◌==◌}
use Rattle.std.proofs.lemmas.List.{length-map}
use Rattle.std.proofs.lemmas.Option.{slice_get_within}
use Rattle.std.specs.Prelude.{Option, Some, None, slice_get, ℤ, nat_lt, zero, suc, if◌then◌else◌}
use Rattle.std.specs.Str.{bytes_eq}
use Rattle.sexp_read.specs.declared.tree.Tree.{Tree}
use Rattle.term_tree.specs.declared.sort.Sort.{Sort}
use Rattle.term_tree.specs.declared.script.Pred.{Pred as Declared}
use Rattle.term_tree.specs.declared.node.TermId.{TermId}
use Rattle.term_tree.specs.declared.node.Node.{Node}
use Rattle.term_tree.specs.Legal.{NamesInScope as Names, with_bound, with_variables}
use Rattle.term_tree.specs.Subterms.{is_among}
use Rattle.term_check.specs.declared.part.Part.{Part}
use Rattle.term_check.specs.declared.scope.Bound.{Bound}
use Rattle.term_check.specs.declared.scope.Bound.TheVariants.{Variable, Let}
use Rattle.term_check.specs.declared.scope.Named.{Named}
use Rattle.term_check.specs.Operators.{first_of}
use Rattle.term_check.specs.Spelling.{bound_to, sort_or_bool, sort_in, sorts_bound, variables_from, lets_from, count_let, lets_in}
use Rattle.term_check.proofs.KnownLemmas.{Known, AllKnown, known_get, known_length}
use Rattle.term_check.proofs.OutcomeLemmas.{below_is, above_is, same_again}

-- the names stand where terms of lets have these numbers: the number of a variable is below the next one, and a name of a let
-- leads to a term that is known
pub record Stand (preds : List Declared) (nodes : List Node) (quantifies : Bool) (names : List Named) (lets : List TermId) (next : ℕ) : Type 0 where
  pub numbered : (name : List ℕ) (number : ℕ) (sort : Sort) → bound_to name names ≡ Some (Variable number sort) → number < next
  pub there : (name : List ℕ) (number : ℕ) (sort : Sort) (constant : Option ℤ) → bound_to name names ≡ Some (Let number sort constant) → number < length lets
  pub known : (name : List ℕ) (number : ℕ) (sort : Sort) (constant : Option ℤ) (id : TermId) → bound_to name names ≡ Some (Let number sort constant) → slice_get lets number ≡ Some id
      → Known preds nodes quantifies sort constant id.0
  pub counted : lets_in names ≡ length lets

-- a term may use these names
pub record Fit (names : List Named) (lets : List TermId) (scope : Names) : Type 0 where
  pub variables : (name : List ℕ) (number : ℕ) (sort : Sort) → bound_to name names ≡ Some (Variable number sort) → scope.variables number ≡ Some sort
  pub bound : (number : ℕ) (id : TermId) → slice_get lets number ≡ Some id → is_among id.0 scope.bound ≡ true

-- Lists.

pub get_appended : {A : Type 0} (xs ys : List A) (k : ℕ) (x : A) → slice_get (xs ++ ys) k ≡ Some x → (slice_get xs k ≡ Some x) ⊎ ((i : ℕ) × (slice_get ys i ≡ Some x))
get_appended [] ys k x h = inr (k, h)
get_appended (z ∷ xs) ys zero x h = inl h
get_appended (z ∷ xs) ys (suc k) x h = get_appended xs ys k x h

get_first : {A : Type 0} (xs ys : List A) (k : ℕ) (x : A) → k < length xs → slice_get (xs ++ ys) k ≡ Some x → slice_get xs k ≡ Some x
get_first [] ys k x within h = absurd (omega arith)
get_first (z ∷ xs) ys zero x within h = h
get_first (z ∷ xs) ys (suc k) x within h = get_first xs ys k x (omega arith) h

get_second : {A : Type 0} (xs ys : List A) (k i : ℕ) (x : A) → k ≡ length xs + i → slice_get (xs ++ ys) k ≡ Some x → slice_get ys i ≡ Some x
get_second [] ys k i x e h = let same : k ≡ i = omega (arith, e) in ap (λ (j : ℕ). slice_get ys j) (sym same) ∙ h
get_second (z ∷ xs) ys zero i x e h = absurd (omega (arith, e))
get_second (z ∷ xs) ys (suc k) i x e h = get_second xs ys k i x (omega (arith, e)) h

or_first : (a b : Bool) → a ≡ true → (a || b) ≡ true
or_first true b h = refl
or_first false b h = absurd (cc)

or_second : (a b : Bool) → b ≡ true → (a || b) ≡ true
or_second true b h = refl
or_second false b h = h

got_among : (ids : List TermId) (k : ℕ) (id : TermId) → slice_get ids k ≡ Some id → is_among id.0 ids ≡ true
got_among [] k id h = absurd (cc)
got_among (x ∷ ids) zero id h = or_first (x.0 == id.0) (is_among id.0 ids) (here x id h)
  where
    here : (x id : TermId) → Some x ≡ Some id → (x.0 == id.0) ≡ true
    here x id h = let same : x ≡ id = cc in ap (λ (y : TermId). x.0 == y.0) (sym same) ∙ same_again x.0
got_among (x ∷ ids) (suc k) id h = or_second (x.0 == id.0) (is_among id.0 ids) (got_among ids k id h)

among_first : (k : ℕ) (ids more : List TermId) → is_among k ids ≡ true → is_among k (ids ++ more) ≡ true
among_first k [] more h = absurd (cc)
among_first k (x ∷ ids) more h = by (x.0 == k) (is_among k ids) h (among_first k ids more)
  where
    by : (a b : Bool) → (a || b) ≡ true → (b ≡ true → is_among k (ids ++ more) ≡ true) → (a || is_among k (ids ++ more)) ≡ true
    by true b h f = refl
    by false b h f = f h

among_second : (k : ℕ) (ids more : List TermId) → is_among k more ≡ true → is_among k (ids ++ more) ≡ true
among_second k [] more h = h
among_second k (x ∷ ids) more h = or_second (x.0 == k) (is_among k (ids ++ more)) (among_second k ids more h)

-- What a name stands for.

first_again : {A : Type 0} (a b c : Option A) → first_of (first_of a b) c ≡ first_of a (first_of b c)
first_again None b c = refl
first_again (Some x) b c = refl

either : {A : Type 0} (a b : Option A) (x : A) → first_of a b ≡ Some x → (a ≡ Some x) ⊎ (b ≡ Some x)
either None b x h = inr h
either (Some y) b x h = inl h

bound_appended : (name : List ℕ) (ns ms : List Named) → bound_to name (ns ++ ms) ≡ first_of (bound_to name ms) (bound_to name ns)
bound_appended name [] ms = nothing (bound_to name ms)
  where
    nothing : (o : Option Bound) → o ≡ first_of o None
    nothing None = refl
    nothing (Some b) = refl
bound_appended name (n ∷ ns) ms =
    let this : Option Bound = if bytes_eq n.name.bytes name then Some n.bound else None in
    ap (λ (o : Option Bound). first_of o this) (bound_appended name ns ms) ∙ first_again (bound_to name ms) (bound_to name ns) this

pub newer_or_older : (name : List ℕ) (ns ms : List Named) (b : Bound) → bound_to name (ns ++ ms) ≡ Some b → (bound_to name ms ≡ Some b) ⊎ (bound_to name ns ≡ Some b)
newer_or_older name ns ms b h = either (bound_to name ms) (bound_to name ns) b (sym (bound_appended name ns ms) ∙ h)

this_one : {A : Type 0} (t : Bool) (a x : A) → (if t then Some a else None) ≡ Some x → x ≡ a
this_one true a x h = cc
this_one false a x h = absurd (cc)

-- a name of the variables numbered from here on
abbrev IsVariableFrom : ℕ → List Sort → Bound → Type 0
IsVariableFrom first sorts b = (i : ℕ) × (sort : Sort) × (b ≡ Variable (first + i) sort) × (slice_get sorts i ≡ Some sort)

variables_named : (text name : List ℕ) (first : ℕ) (items : List Tree) (b : Bound) → bound_to name (variables_from text first items) ≡ Some b
    → IsVariableFrom first (sorts_bound text items) b
variables_named text name first [] b h = absurd (cc)
variables_named text name first (item ∷ items) b h =
    elim (either (bound_to name (variables_from text (first + 1) items)) _ b h) [
      | inl e ↦ later (variables_named text name (first + 1) items b e)
      | inr e ↦ (0, sort_or_bool (sort_in text item), this_one _ _ b e ∙ ap (λ (k : ℕ). Variable k (sort_or_bool (sort_in text item))) (number first), refl)
    ]
  where
    number : (k : ℕ) → k ≡ k + 0
    number k = omega arith

    later : IsVariableFrom (first + 1) (sorts_bound text items) b → IsVariableFrom first (sorts_bound text (item ∷ items)) b
    later v = (suc v.0, v.1, v.2 ∙ ap (λ (k : ℕ). Variable k v.1) (let e : first + 1 + v.0 ≡ first + suc v.0 = omega arith in e), v.3)

-- a name of the terms numbered from here on
abbrev IsLetFrom : ℕ → List Part → Bound → Type 0
IsLetFrom first parts b = (i : ℕ) × (p : Part) × (b ≡ Let (first + i) p.sort p.constant) × (slice_get parts i ≡ Some p)

lets_named : (text name : List ℕ) (first : ℕ) (items : List Tree) (parts : List Part) (b : Bound) → bound_to name (lets_from text first items parts) ≡ Some b
    → IsLetFrom first parts b
lets_named text name first [] parts b h = absurd (cc)
lets_named text name first (item ∷ items) [] b h = absurd (cc)
lets_named text name first (item ∷ items) (p ∷ parts) b h =
    elim (either (bound_to name (lets_from text (first + 1) items parts)) _ b h) [
      | inl e ↦ later (lets_named text name (first + 1) items parts b e)
      | inr e ↦ (0, p, this_one _ _ b e ∙ ap (λ (k : ℕ). Let k p.sort p.constant) (number first), refl)
    ]
  where
    number : (k : ℕ) → k ≡ k + 0
    number k = omega arith

    later : IsLetFrom (first + 1) parts b → IsLetFrom first (p ∷ parts) b
    later v = (suc v.0, v.1, v.2 ∙ ap (λ (k : ℕ). Let k v.1.sort v.1.constant) (let e : first + 1 + v.0 ≡ first + suc v.0 = omega arith in e), v.3)

-- How many names are of lets.

count_more : (b : Bound) (m n : ℕ) → count_let b (m + n) ≡ count_let b m + n
count_more (Variable number sort) m n = refl
count_more (Let number sort constant) m n = omega arith

lets_appended : (ns ms : List Named) → lets_in (ns ++ ms) ≡ lets_in ns + lets_in ms
lets_appended [] ms = omega arith
lets_appended (n ∷ ns) ms = ap (count_let n.bound) (lets_appended ns ms) ∙ count_more n.bound (lets_in ns) (lets_in ms)

no_lets : (text : List ℕ) (first : ℕ) (items : List Tree) → lets_in (variables_from text first items) ≡ 0
no_lets text first [] = refl
no_lets text first (item ∷ items) = no_lets text (first + 1) items

new_lets : (text : List ℕ) (first : ℕ) (items : List Tree) (parts : List Part) → length items ≡ length parts → lets_in (lets_from text first items parts) ≡ length parts
new_lets text first [] [] e = refl
new_lets text first [] (p ∷ parts) e = absurd (omega (arith, e))
new_lets text first (item ∷ items) [] e = absurd (omega (arith, e))
new_lets text first (item ∷ items) (p ∷ parts) e = omega (arith, new_lets text (first + 1) items parts (omega (arith, e)))

pub same_variable : {m n : ℕ} {s t : Sort} → Variable m s ≡ Variable n t → (m ≡ n) × (s ≡ t)
same_variable h = (cc, cc)

same_let : {m n : ℕ} {s t : Sort} {c d : Option ℤ} → Let m s c ≡ Let n t d → (m ≡ n) × (s ≡ t) × (c ≡ d)
same_let h = (cc, cc, cc)

pub other_name : {A : Type 0} {m n : ℕ} {s t : Sort} {c : Option ℤ} → Variable m s ≡ Let n t c → A
other_name h = absurd (cc)

-- Names within binders.

module _ (preds : List Declared) (nodes : List Node) (quantifies : Bool) (text : List ℕ) (names : List Named) (lets : List TermId) (next : ℕ)
    (stand : Stand preds nodes quantifies names lets next) where
  pub stand_later : (later : ℕ) → next ≤ later → Stand preds nodes quantifies names lets later
  stand_later later h = record {
    numbered = λ name number sort is. omega (arith, stand.numbered name number sort is, h);
    there = stand.there;
    known = stand.known;
    counted = stand.counted;
  }

  new_variable : (items : List Tree) (number : ℕ) (sort : Sort) → IsVariableFrom next (sorts_bound text items) (Variable number sort)
      → (next ≤ number) × (number - next < length items) × (slice_get (sorts_bound text items) (number - next) ≡ Some sort)
  new_variable items number sort v =
      let same = same_variable v.2 in
      let within : v.0 < length items = omega (arith, slice_get_within (sorts_bound text items) v.0 v.1 v.3, length-map items (λ item. sort_or_bool (sort_in text item))) in
      let offset : number - next ≡ v.0 = omega (arith, same.0) in
      (omega (arith, same.0), omega (arith, within, offset), ap (λ (k : ℕ). slice_get (sorts_bound text items) k) offset ∙ v.3 ∙ ap (λ (s : Sort). Some s) (sym same.1))

  pub stand_variables : (items : List Tree) → Stand preds nodes quantifies (names ++ variables_from text next items) lets (next + length items)
  stand_variables items = record {
    numbered = λ name number sort is. elim (newer_or_older name names (variables_from text next items) (Variable number sort) is) [
      | inl e ↦ (let v = new_variable items number sort (variables_named text name next items (Variable number sort) e) in omega (arith, v.0, v.1))
      | inr e ↦ omega (arith, stand.numbered name number sort e)
    ];
    there = λ name number sort constant is. stand.there name number sort constant (older name number sort constant is);
    known = λ name number sort constant id is. stand.known name number sort constant id (older name number sort constant is);
    counted = lets_appended names (variables_from text next items) ∙ ap (λ (k : ℕ). lets_in names + k) (no_lets text next items) ∙ (let e : lets_in names + 0 ≡ lets_in names = omega arith in e) ∙ stand.counted;
  }
    where
      older : (name : List ℕ) (number : ℕ) (sort : Sort) (constant : Option ℤ) → bound_to name (names ++ variables_from text next items) ≡ Some (Let number sort constant)
          → bound_to name names ≡ Some (Let number sort constant)
      older name number sort constant is =
          elim (newer_or_older name names (variables_from text next items) (Let number sort constant) is) [
            | inl e ↦ other_name (sym (variables_named text name next items (Let number sort constant) e).2)
            | inr e ↦ e
          ]

  pub fit_variables : (items : List Tree) (scope : Names) → Fit names lets scope
      → Fit (names ++ variables_from text next items) lets (with_variables next (sorts_bound text items) scope)
  fit_variables items scope fit = record {
    variables = λ name number sort is. elim (newer_or_older name names (variables_from text next items) (Variable number sort) is) [
      | inl e ↦ new number sort (new_variable items number sort (variables_named text name next items (Variable number sort) e))
      | inr e ↦ old number sort (stand.numbered name number sort e) (fit.variables name number sort e)
    ];
    bound = fit.bound;
  }
    where
      sorts : List Sort
      sorts = sorts_bound text items

      old : (number : ℕ) (sort : Sort) → number < next → scope.variables number ≡ Some sort → (with_variables next sorts scope).variables number ≡ Some sort
      old number sort h is =
          ap (λ b. if b then scope.variables number else if nat_lt (number - next) (length sorts) then slice_get sorts (number - next) else scope.variables number) (below_is number next h) ∙ is

      new : (number : ℕ) (sort : Sort) → (next ≤ number) × (number - next < length items) × (slice_get sorts (number - next) ≡ Some sort)
          → (with_variables next sorts scope).variables number ≡ Some sort
      new number sort v =
          let within : number - next < length sorts = omega (arith, v.1, length-map items (λ item. sort_or_bool (sort_in text item))) in
          ap (λ b. if b then scope.variables number else if nat_lt (number - next) (length sorts) then slice_get sorts (number - next) else scope.variables number) (above_is number next v.0)
          ∙ ap (λ b. if b then slice_get sorts (number - next) else scope.variables number) (below_is (number - next) (length sorts) within) ∙ v.2

  module _ (items : List Tree) (parts : List Part) (ids : List TermId) (all : AllKnown preds nodes quantifies parts ids) where
    same_many : length ids ≡ length parts
    same_many = known_length preds nodes quantifies parts ids all

    new_let : (number : ℕ) (sort : Sort) (constant : Option ℤ) → IsLetFrom (lets_in names) parts (Let number sort constant)
        → (i : ℕ) × (p : Part) × (number ≡ length lets + i) × (i < length ids) × (sort ≡ p.sort) × (constant ≡ p.constant) × (slice_get parts i ≡ Some p)
    new_let number sort constant v =
        let same = same_let v.2 in
        (v.0, v.1, omega (arith, same.0, stand.counted), omega (arith, slice_get_within parts v.0 v.1 v.3, same_many), same.1, same.2, v.3)

    old_variable : (name : List ℕ) (number : ℕ) (sort : Sort) → bound_to name (names ++ lets_from text (lets_in names) items parts) ≡ Some (Variable number sort)
        → bound_to name names ≡ Some (Variable number sort)
    old_variable name number sort is =
        elim (newer_or_older name names (lets_from text (lets_in names) items parts) (Variable number sort) is) [
          | inl e ↦ other_name (lets_named text name (lets_in names) items parts (Variable number sort) e).2
          | inr e ↦ e
        ]

    new_known : (number : ℕ) (sort : Sort) (constant : Option ℤ) (id : TermId) → IsLetFrom (lets_in names) parts (Let number sort constant) → slice_get (lets ++ ids) number ≡ Some id
        → Known preds nodes quantifies sort constant id.0
    new_known number sort constant id v at =
        let n = new_let number sort constant v in
        let is = known_get preds nodes quantifies parts ids n.0 id n.1 all (get_second lets ids number n.0 id n.2 at) n.6 in
        subst (λ (s : Sort). Known preds nodes quantifies s constant id.0) (sym n.4) (subst (λ (c : Option ℤ). Known preds nodes quantifies n.1.sort c id.0) (sym n.5) is)

    pub stand_lets : length items ≡ length parts → Stand preds nodes quantifies (names ++ lets_from text (lets_in names) items parts) (lets ++ ids) next
    stand_lets many = record {
      numbered = λ name number sort is. stand.numbered name number sort (old_variable name number sort is);
      there = λ name number sort constant is. elim (newer_or_older name names (lets_from text (lets_in names) items parts) (Let number sort constant) is) [
        | inl e ↦ (let n = new_let number sort constant (lets_named text name (lets_in names) items parts (Let number sort constant) e) in omega (arith, n.2, n.3, length-append lets ids))
        | inr e ↦ omega (arith, stand.there name number sort constant e, length-append lets ids)
      ];
      known = λ name number sort constant id is at. elim (newer_or_older name names (lets_from text (lets_in names) items parts) (Let number sort constant) is) [
        | inl e ↦ new_known number sort constant id (lets_named text name (lets_in names) items parts (Let number sort constant) e) at
        | inr e ↦ stand.known name number sort constant id e (get_first lets ids number id (stand.there name number sort constant e) at)
      ];
      counted = lets_appended names (lets_from text (lets_in names) items parts) ∙ ap (λ (k : ℕ). lets_in names + k) (new_lets text (lets_in names) items parts many)
          ∙ (let e : lets_in names + length parts ≡ length (lets ++ ids) = omega (arith, stand.counted, same_many, length-append lets ids) in e);
    }

    pub fit_lets : (scope : Names) → Fit names lets scope → Fit (names ++ lets_from text (lets_in names) items parts) (lets ++ ids) (with_bound ids scope)
    fit_lets scope fit = record {
      variables = λ name number sort is. fit.variables name number sort (old_variable name number sort is);
      bound = λ number id at. elim (get_appended lets ids number id at) [
        | inl e ↦ among_second id.0 ids scope.bound (fit.bound number id e)
        | inr e ↦ among_first id.0 ids scope.bound (got_among ids e.0 id e.1)
      ];
    }
