-- What it says that no rule is broken.
use Rattle.std.proofs.Common.{◌≡◌, ℕ, ◌<◌, ◌≤◌, List, length, Bool, true, false, not, ◌||◌, refl}
use Rattle.std.specs.Prelude.{Option, None, Some, nat_lt, take, if◌then◌else◌}
use Rattle.std.proofs.lemmas.Bool.{ltb-true, ltb-false}
use Rattle.sexp_read.specs.declared.tree.Tree.{Tree}
use Rattle.term_tree.specs.declared.script.Pred.{Pred}
use Rattle.term_check.specs.declared.part.Fault.{Fault}
use Rattle.term_check.specs.Rules.{first_fault}
use Rattle.term_check.specs.Spelling.{is_some, name_of, name_or_none, start_of, pred_from}
use Rattle.sort_check.specs.Commands.{assert_fault, count_fault, form_fault, order_fault, taken_fault, is_theory_name, sorts_fault, result_fault, declaration_fault, most_arguments, most_assertions, most_predicates}

neither : (a b : Option Fault) → first_fault a b ≡ None → (a ≡ None) × (b ≡ None)
neither None b h = (refl, h)
neither (Some f) b h = absurd (cc)

none_is : {X : Type 0} (o : Option X) → is_some o ≡ false → o ≡ None
none_is None h = refl
none_is (Some x) h = absurd (cc)

counted : (start : ℕ) (b : Bool) → count_fault start b ≡ None → b ≡ true
counted start true h = refl
counted start false h = absurd (cc)

untaken : (a : Bool) (o : Option ℕ) (f : Fault) → (if a || is_some o then Some f else None) ≡ None → o ≡ None
untaken true o f h = absurd (cc)
untaken false None f h = refl
untaken false (Some n) f h = absurd (cc)

pub new_name : (preds : List Pred) (start : ℕ) (name : List ℕ) → taken_fault preds start name ≡ None → pred_from 0 name preds ≡ None
new_name preds start name h = untaken (is_theory_name name) (pred_from 0 name preds) _ h

not_true : (b : Bool) → not b ≡ true → b ≡ false
not_true true h = absurd (cc)
not_true false h = refl

few_sorts : (n : ℕ) → not (nat_lt most_arguments n) ≡ true → n ≤ most_arguments
few_sorts n h = ltb-false most_arguments n (not_true (nat_lt most_arguments n) h)

-- an assertion that may stand here is not one too many
pub asserted_facts : (allowed : Bool) (count start : ℕ) → assert_fault allowed count start ≡ None → count < most_assertions
asserted_facts allowed count start h =
    let both = neither (order_fault start allowed) _ h in ltb-true count most_assertions (counted start (nat_lt count most_assertions) both.1)

pub declared_facts : (text : List ℕ) (allowed : Bool) (preds : List Pred) (start : ℕ) (name : Tree) (sorts : List Tree) (last : Tree) → declaration_fault text allowed preds start name sorts last ≡ None
    → (length preds < most_predicates) × (pred_from 0 (name_or_none (name_of text name)) preds ≡ None) × (length sorts ≤ most_arguments)
declared_facts text allowed preds start name sorts last h =
    let form = neither (form_fault name (is_some (name_of text name))) _ h in
    let order = neither (order_fault start allowed) _ form.1 in
    let taken = neither (taken_fault preds (start_of name) (name_or_none (name_of text name))) _ order.1 in
    let kinds = neither (sorts_fault text (take most_arguments sorts)) _ taken.1 in
    let counts = neither (count_fault start (not (nat_lt most_arguments (length sorts)))) _ kinds.1 in
    let outcome = neither (result_fault text last) _ counts.1 in
    (ltb-true (length preds) most_predicates (counted start (nat_lt (length preds) most_predicates) outcome.1), new_name preds (start_of name) (name_or_none (name_of text name)) taken.0, few_sorts (length sorts) (counted start (not (nat_lt most_arguments (length sorts))) counts.0))
