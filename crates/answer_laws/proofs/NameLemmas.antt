-- A predicate that may be declared joins those before it: its name can be printed and read back, and its arguments are few.
use Rattle.std.proofs.Common.{◌≡◌, ℕ, zero, suc, ◌+◌, ◌≤◌, List, [], ◌∷◌, ◌++◌, length, Bool, true, false, not, cond, ◌||◌, ◌⊎◌, inl, inr, refl, sym, ap, ◌∙◌, arith, codes}
use Rattle.std.proofs.lemmas.Bool.{ltb-false}
use Rattle.std.proofs.lemmas.List.{length-map}
use Rattle.std.proofs.lemmas.Slice.Eq.{bytes_eq-Decides}
use Rattle.std.specs.Prelude.{Option, None, Some, slice_get, nat_lt, take, if◌then◌else◌}
use Rattle.std.specs.List.{AllByRecursion}
use Rattle.std.specs.Str.{bytes_eq}
use Rattle.sexp_read.specs.declared.tree.LeafKind.TheVariants.{Symbol, Quoted, Numeral, Decimal, Text, Keyword}
use Rattle.sexp_read.specs.declared.tree.Tree.{Tree, Leaf, List'}
use Rattle.sexp_read.specs.Leaves.{inner}
use Rattle.term_tree.specs.declared.script.Pred.{Pred}
use Rattle.term_check.specs.declared.part.Fault.{Fault}
use Rattle.term_check.specs.Operators.{first_of, operator_named}
use Rattle.term_check.specs.Rules.{first_fault}
use Rattle.term_check.specs.Spelling.{is_some, name_of, name_or_none, pred_from, sort_named, sort_or_bool, start_of}
use Rattle.term_check.specs.Words.{is_word_among, reserved_words}
use Rattle.sort_check.specs.Commands.{count_fault, declaration_fault, form_fault, most_arguments, order_fault, predicate_named, sorts_fault, taken_fault}
use Rattle.answer_text.specs.ReadBack.{AreNames, is_quotable}
use Rattle.answer_laws.proofs.SymbolLemmas.{HasQuotable, IsQuotable}

-- One predicate more.

all_and : {A : Type 0} (P : A → Type 0) (xs : List A) (x : A) → AllByRecursion P xs → P x → AllByRecursion P (xs ++ x ∷ [])
all_and P [] x all last = (last, tt)
all_and P (y ∷ xs) x all last = (all.0, all_and P xs x all.1 last)

-- an item of a list with one more is one of the list, or the last
got : {A : Type 0} (xs : List A) (x : A) (k : ℕ) (y : A) → slice_get (xs ++ x ∷ []) k ≡ Some y → (slice_get xs k ≡ Some y) ⊎ ((k ≡ length xs) × (x ≡ y))
got [] x zero y h = inr (refl, cc)
got [] x (suc k) y h = absurd (cc)
got (z ∷ xs) x zero y h = inl h
got (z ∷ xs) x (suc k) y h = elim (got xs x k y h) [ inl e ↦ inl e | inr e ↦ inr (omega (arith, e.0), e.1) ]

-- the first of that name in a list with one more
first_or_last : (n : ℕ) (name : List ℕ) (ps : List Pred) (p : Pred) → pred_from n name (ps ++ p ∷ []) ≡ first_of (pred_from n name ps) (pred_from (n + length ps) name (p ∷ []))
first_or_last n name [] p = ap (λ (k : ℕ). pred_from k name (p ∷ [])) (omega arith)
first_or_last n name (q ∷ ps) p =
    by (bytes_eq q.name.bytes name) (first_or_last (n + 1) name ps p ∙ ap (λ (k : ℕ). first_of (pred_from (n + 1) name ps) (pred_from k name (p ∷ []))) (omega arith))
  where
    by : (b : Bool) → pred_from (n + 1) name (ps ++ p ∷ []) ≡ first_of (pred_from (n + 1) name ps) (pred_from (n + length (q ∷ ps)) name (p ∷ []))
        → cond b (Some n) (pred_from (n + 1) name (ps ++ p ∷ [])) ≡ first_of (cond b (Some n) (pred_from (n + 1) name ps)) (pred_from (n + length (q ∷ ps)) name (p ∷ []))
    by true later = refl
    by false later = later

-- a new name that can be printed joins them
joins : (ps : List Pred) (p : Pred) → AreNames ps → IsQuotable p.name.bytes → pred_from 0 p.name.bytes ps ≡ None → bytes_eq p.name.bytes (codes "false") ≡ false → AreNames (ps ++ p ∷ [])
joins ps p names quotable new free = record {
  symbols = all_and (λ q. is_quotable q.name.bytes ≡ true) ps p names.symbols quotable;
  differ = λ k q is. first_or_last 0 q.name.bytes ps p ∙ elim (got ps p k q is) [
    | inl e ↦ ap (λ o. first_of o (pred_from (0 + length ps) q.name.bytes (p ∷ []))) (names.differ k q e)
    | inr e ↦ last k q e.0 e.1
  ];
  free = all_and (λ q. bytes_eq q.name.bytes (codes "false") ≡ false) ps p names.free free;
}
  where
    last : (k : ℕ) (q : Pred) → k ≡ length ps → p ≡ q → first_of (pred_from 0 q.name.bytes ps) (pred_from (0 + length ps) q.name.bytes (p ∷ [])) ≡ Some k
    last k q at same =
        let number : 0 + length ps ≡ k = omega (arith, at) in
        let here : bytes_eq p.name.bytes p.name.bytes ≡ true = (bytes_eq-Decides p.name.bytes p.name.bytes).1 refl in
        ap (λ (r : Pred). first_of (pred_from 0 r.name.bytes ps) (pred_from (0 + length ps) r.name.bytes (p ∷ []))) (sym same)
        ∙ ap (λ o. first_of o (pred_from (0 + length ps) p.name.bytes (p ∷ []))) new
        ∙ ap (λ t. cond t (Some (0 + length ps)) None) here ∙ ap Some number

-- What it says of a name that no rule is broken.

-- a tree that is a name
named : (text : List ℕ) (tree : Tree) → HasQuotable text tree → is_some (name_of text tree) ≡ true → IsQuotable (name_or_none (name_of text tree))
named text (Leaf Symbol start end) h some = by (is_word_among reserved_words (inner text Symbol start end)) some
  where
    by : (b : Bool) → is_some (if b then None else Some (inner text Symbol start end)) ≡ true → IsQuotable (name_or_none (if b then None else Some (inner text Symbol start end)))
    by true e = absurd (cc)
    by false e = h
named text (Leaf Quoted start end) h some = h
named text (Leaf Numeral start end) h some = absurd (cc)
named text (Leaf Decimal start end) h some = absurd (cc)
named text (Leaf Text start end) h some = absurd (cc)
named text (Leaf Keyword start end) h some = absurd (cc)
named text (List' shape row start end) h some = absurd (cc)

neither : (a b : Option Fault) → first_fault a b ≡ None → (a ≡ None) × (b ≡ None)
neither None b h = (refl, h)
neither (Some f) b h = absurd (cc)

formed : (b : Bool) (f : Fault) → (if b then None else Some f) ≡ None → b ≡ true
formed true f h = refl
formed false f h = absurd (cc)

untaken : (is_true is_false : Bool) (op : Bool) (o : Option ℕ) (f : Fault) → (if (is_true || is_false || op) || is_some o then Some f else None) ≡ None → (is_false ≡ false) × (o ≡ None)
untaken true b c o f h = absurd (cc)
untaken false true c o f h = absurd (cc)
untaken false false true o f h = absurd (cc)
untaken false false false None f h = (refl, refl)
untaken false false false (Some n) f h = absurd (cc)

abbrev pub HasFewArguments : Pred → Type 0
HasFewArguments p = length p.args ≤ most_arguments

-- predicates whose names can be printed and read back, and which have few arguments
pub record AreDeclared (ps : List Pred) : Type 0 where
  pub names : AreNames ps
  pub few : AllByRecursion HasFewArguments ps

few_sorts : (start most n : ℕ) → count_fault start (not (nat_lt most n)) ≡ None → n ≤ most
few_sorts start most n h = by (nat_lt most n) refl h
  where
    by : (b : Bool) → nat_lt most n ≡ b → count_fault start (not b) ≡ None → n ≤ most
    by true is e = absurd (cc)
    by false is e = ltb-false most n is

-- a predicate that may be declared joins them
pub declared_joins : (text : List ℕ) (may : Bool) (ps : List Pred) (start : ℕ) (name : Tree) (sorts : List Tree) (result : Tree) → AreDeclared ps → HasQuotable text name
    → declaration_fault text may ps start name sorts result ≡ None → AreDeclared (ps ++ predicate_named text name sorts ∷ [])
declared_joins text may ps start name sorts result declared quotable h =
    let bytes : List ℕ = name_or_none (name_of text name) in
    let form = neither (form_fault name (is_some (name_of text name))) _ h in
    let order = neither (order_fault start may) _ form.1 in
    let taken = neither (taken_fault ps (start_of name) bytes) _ order.1 in
    let new = untaken (bytes_eq bytes (codes "true")) (bytes_eq bytes (codes "false")) (is_some (operator_named bytes)) (pred_from 0 bytes ps) _ taken.0 in
    let kinds = neither (sorts_fault text (take most_arguments sorts)) _ taken.1 in
    let counts = neither (count_fault start (not (nat_lt most_arguments (length sorts)))) _ kinds.1 in
    let few = few_sorts start most_arguments (length sorts) counts.0 in
    let same = length-map sorts (λ sort. sort_or_bool (sort_named text sort)) in
    record {
      names = joins ps (predicate_named text name sorts) declared.names (named text name quotable (formed (is_some (name_of text name)) _ form.0)) new.1 new.0;
      few = all_and HasFewArguments ps (predicate_named text name sorts) declared.few (omega (arith, few, same));
    }
