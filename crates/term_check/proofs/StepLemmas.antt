-- The steps of loops over the items of a binder.
use Rattle.std.proofs.Common.{◌≡◌, ◌<◌, ◌≤◌, ◌+◌, ℕ, List, [], ◌∷◌, ◌++◌, length, take, drop, get_or, sym, ap, ◌∙◌}
use Rattle.std.specs.Prelude.{Option, None, Some, if◌then◌else◌}
use Rattle.std.proofs.lemmas.List.{append_assoc, drop_all, drop_more, map_more}
use Rattle.sexp_read.specs.declared.tree.Tree.{Tree}
use Rattle.term_tree.specs.declared.refusal.Kind.TheVariants.{Redeclared}
use Rattle.term_tree.specs.declared.sort.Sort.{Sort}
use Rattle.term_check.specs.declared.part.Fault.{Fault}
use Rattle.term_check.specs.declared.part.Part.{Part}
use Rattle.term_check.specs.declared.scope.Bound.TheVariants.{Variable, Let}
use Rattle.term_check.specs.declared.scope.Named.{Named}
use Rattle.term_check.specs.machinery.Meanings.{named}
use Rattle.term_check.specs.Rules.{fault, first_fault}
use Rattle.term_check.specs.Words.{is_word_among}
use Rattle.term_check.specs.Spelling.{first_name, name_start, name_or_none, repeated_fault, let_names_fault, sort_name_fault, variables_fault, sort_in, sort_or_bool, sorts_bound, variables_from, lets_from}
use Rattle.term_check.proofs.CycleLemmas.{next_of}

repeated_is : (text : List ℕ) (seen : List (List ℕ)) (item : Tree) (name : List ℕ) (found : Option Fault)
    → name ≡ name_or_none (first_name text item) → found ≡ (if is_word_among seen name then Some (fault Redeclared (name_start item)) else None) → repeated_fault text seen item ≡ found
repeated_is text seen item name found same is = ap (λ (n : List ℕ). if is_word_among seen n then Some (fault Redeclared (name_start item)) else None) (sym same) ∙ sym is

let_names_open : (text : List ℕ) (seen : List (List ℕ)) (items : List Tree) (i : ℕ) (item : Tree) (name : List ℕ) (found whole : Option Fault) → i < length items → item ≡ get_or items i item
    → name ≡ name_or_none (first_name text item) → found ≡ (if is_word_among seen name then Some (fault Redeclared (name_start item)) else None)
    → let_names_fault text seen (drop i items) ≡ whole → whole ≡ first_fault found (let_names_fault text (seen ++ name ∷ []) (drop (i + 1) items))
let_names_open text seen items i item name found whole lt is same repeated told =
    sym told ∙ ap (let_names_fault text seen) (next_of items i item lt is)
    ∙ ap (λ (n : List ℕ). first_fault (repeated_fault text seen item) (let_names_fault text (seen ++ n ∷ []) (drop (i + 1) items))) (sym same)
    ∙ ap (λ (o : Option Fault). first_fault o (let_names_fault text (seen ++ name ∷ []) (drop (i + 1) items))) (repeated_is text seen item name found same repeated)

pub let_names_more : (text : List ℕ) (seen seen' : List (List ℕ)) (items : List Tree) (i : ℕ) (item : Tree) (name : List ℕ) (found whole : Option Fault) → i < length items → item ≡ get_or items i item
    → name ≡ name_or_none (first_name text item) → found ≡ (if is_word_among seen name then Some (fault Redeclared (name_start item)) else None) → found ≡ None → seen' ≡ seen ++ name ∷ []
    → let_names_fault text seen (drop i items) ≡ whole → let_names_fault text seen' (drop (i + 1) items) ≡ whole
let_names_more text seen seen' items i item name found whole lt is same repeated none more told =
    let later = let_names_fault text (seen ++ name ∷ []) (drop (i + 1) items) in
    ap (λ (ss : List (List ℕ)). let_names_fault text ss (drop (i + 1) items)) more
    ∙ sym (let_names_open text seen items i item name found whole lt is same repeated told ∙ ap (λ (o : Option Fault). first_fault o later) none)

pub let_names_stop : (text : List ℕ) (seen : List (List ℕ)) (items : List Tree) (i : ℕ) (item : Tree) (name : List ℕ) (found whole : Option Fault) (f : Fault) → i < length items → item ≡ get_or items i item
    → name ≡ name_or_none (first_name text item) → found ≡ (if is_word_among seen name then Some (fault Redeclared (name_start item)) else None) → found ≡ Some f
    → let_names_fault text seen (drop i items) ≡ whole → Some f ≡ whole
let_names_stop text seen items i item name found whole f lt is same repeated some told =
    let later = let_names_fault text (seen ++ name ∷ []) (drop (i + 1) items) in
    sym (let_names_open text seen items i item name found whole lt is same repeated told ∙ ap (λ (o : Option Fault). first_fault o later) some)

pub let_names_end : (text : List ℕ) (seen : List (List ℕ)) (items : List Tree) (i : ℕ) (whole : Option Fault) → length items ≤ i → let_names_fault text seen (drop i items) ≡ whole → None ≡ whole
let_names_end text seen items i whole past told = sym (ap (let_names_fault text seen) (drop_all i items past)) ∙ told

variables_open : (text : List ℕ) (seen : List (List ℕ)) (items : List Tree) (i : ℕ) (item : Tree) (name : List ℕ) (found whole : Option Fault) → i < length items → item ≡ get_or items i item
    → name ≡ name_or_none (first_name text item) → found ≡ (if is_word_among seen name then Some (fault Redeclared (name_start item)) else None)
    → variables_fault text seen (drop i items) ≡ whole → whole ≡ first_fault found (first_fault (sort_name_fault text item) (variables_fault text (seen ++ name ∷ []) (drop (i + 1) items)))
variables_open text seen items i item name found whole lt is same repeated told =
    let rest = drop (i + 1) items in
    sym told ∙ ap (variables_fault text seen) (next_of items i item lt is)
    ∙ ap (λ (n : List ℕ). first_fault (repeated_fault text seen item) (first_fault (sort_name_fault text item) (variables_fault text (seen ++ n ∷ []) rest))) (sym same)
    ∙ ap (λ (o : Option Fault). first_fault o (first_fault (sort_name_fault text item) (variables_fault text (seen ++ name ∷ []) rest))) (repeated_is text seen item name found same repeated)

-- with what follows the name
pub variables_named : (text : List ℕ) (seen : List (List ℕ)) (items : List Tree) (i : ℕ) (item : Tree) (name : List ℕ) (found sort whole : Option Fault) → i < length items → item ≡ get_or items i item
    → name ≡ name_or_none (first_name text item) → found ≡ (if is_word_among seen name then Some (fault Redeclared (name_start item)) else None) → found ≡ None → sort ≡ sort_name_fault text item
    → variables_fault text seen (drop i items) ≡ whole → whole ≡ first_fault sort (variables_fault text (seen ++ name ∷ []) (drop (i + 1) items))
variables_named text seen items i item name found sort whole lt is same repeated none sorted told =
    let later = variables_fault text (seen ++ name ∷ []) (drop (i + 1) items) in
    variables_open text seen items i item name found whole lt is same repeated told
    ∙ ap (λ (o : Option Fault). first_fault o (first_fault (sort_name_fault text item) later)) none ∙ ap (λ (o : Option Fault). first_fault o later) (sym sorted)

pub variables_more : (text : List ℕ) (seen seen' : List (List ℕ)) (items : List Tree) (i : ℕ) (item : Tree) (name : List ℕ) (found sort whole : Option Fault) → i < length items → item ≡ get_or items i item
    → name ≡ name_or_none (first_name text item) → found ≡ (if is_word_among seen name then Some (fault Redeclared (name_start item)) else None) → found ≡ None → sort ≡ sort_name_fault text item → sort ≡ None
    → seen' ≡ seen ++ name ∷ [] → variables_fault text seen (drop i items) ≡ whole → variables_fault text seen' (drop (i + 1) items) ≡ whole
variables_more text seen seen' items i item name found sort whole lt is same repeated none sorted known more told =
    let later = variables_fault text (seen ++ name ∷ []) (drop (i + 1) items) in
    ap (λ (ss : List (List ℕ)). variables_fault text ss (drop (i + 1) items)) more
    ∙ sym (variables_named text seen items i item name found sort whole lt is same repeated none sorted told ∙ ap (λ (o : Option Fault). first_fault o later) known)

pub variables_repeated : (text : List ℕ) (seen : List (List ℕ)) (items : List Tree) (i : ℕ) (item : Tree) (name : List ℕ) (found whole : Option Fault) (f : Fault) → i < length items → item ≡ get_or items i item
    → name ≡ name_or_none (first_name text item) → found ≡ (if is_word_among seen name then Some (fault Redeclared (name_start item)) else None) → found ≡ Some f
    → variables_fault text seen (drop i items) ≡ whole → Some f ≡ whole
variables_repeated text seen items i item name found whole f lt is same repeated some told =
    let later = first_fault (sort_name_fault text item) (variables_fault text (seen ++ name ∷ []) (drop (i + 1) items)) in
    sym (variables_open text seen items i item name found whole lt is same repeated told ∙ ap (λ (o : Option Fault). first_fault o later) some)

pub variables_unsorted : (text : List ℕ) (seen : List (List ℕ)) (items : List Tree) (i : ℕ) (item : Tree) (name : List ℕ) (found sort whole : Option Fault) (f : Fault) → i < length items → item ≡ get_or items i item
    → name ≡ name_or_none (first_name text item) → found ≡ (if is_word_among seen name then Some (fault Redeclared (name_start item)) else None) → found ≡ None → sort ≡ sort_name_fault text item → sort ≡ Some f
    → variables_fault text seen (drop i items) ≡ whole → Some f ≡ whole
variables_unsorted text seen items i item name found sort whole f lt is same repeated none sorted some told =
    let later = variables_fault text (seen ++ name ∷ []) (drop (i + 1) items) in
    sym (variables_named text seen items i item name found sort whole lt is same repeated none sorted told ∙ ap (λ (o : Option Fault). first_fault o later) some)

pub variables_end : (text : List ℕ) (seen : List (List ℕ)) (items : List Tree) (i : ℕ) (whole : Option Fault) → length items ≤ i → variables_fault text seen (drop i items) ≡ whole → None ≡ whole
variables_end text seen items i whole past told = sym (ap (variables_fault text seen) (drop_all i items past)) ∙ told

pub sorts_more : (text : List ℕ) (items : List Tree) (i : ℕ) (item : Tree) (sort : Sort) (sorts sorts' : List Sort) → i < length items → item ≡ get_or items i item → sort ≡ sort_or_bool (sort_in text item)
    → sorts' ≡ sorts ++ sort ∷ [] → sorts ≡ sorts_bound text (take i items) → sorts' ≡ sorts_bound text (take (i + 1) items)
sorts_more text items i item sort sorts sorts' lt is same more told =
    more ∙ ap (λ (ss : List Sort). ss ++ sort ∷ []) told
    ∙ ap (λ (s : Sort). sorts_bound text (take i items) ++ s ∷ []) (same ∙ ap (λ (t : Tree). sort_or_bool (sort_in text t)) is)
    ∙ sym (map_more (λ t. sort_or_bool (sort_in text t)) items i item lt)

pub variables_next : (text : List ℕ) (number : ℕ) (items : List Tree) (i : ℕ) (item : Tree) (name : List ℕ) (sort : Sort) → i < length items → item ≡ get_or items i item
    → name ≡ name_or_none (first_name text item) → sort ≡ sort_or_bool (sort_in text item) → variables_from text number (drop i items) ≡ named name (Variable number sort) ∷ variables_from text (number + 1) (drop (i + 1) items)
variables_next text number items i item name sort lt is same sorted =
    let rest = variables_from text (number + 1) (drop (i + 1) items) in
    ap (variables_from text number) (next_of items i item lt is)
    ∙ ap (λ (n : List ℕ). named n (Variable number (sort_or_bool (sort_in text item))) ∷ rest) (sym same)
    ∙ ap (λ (s : Sort). named name (Variable number s) ∷ rest) (sym sorted)

pub lets_next : (text : List ℕ) (number : ℕ) (items : List Tree) (parts : List Part) (i : ℕ) (item : Tree) (d : Part) (name : List ℕ) → i < length items → i < length parts → item ≡ get_or items i item
    → name ≡ name_or_none (first_name text item)
    → lets_from text number (drop i items) (drop i parts) ≡ named name (Let number ((get_or parts i d).sort) ((get_or parts i d).constant)) ∷ lets_from text (number + 1) (drop (i + 1) items) (drop (i + 1) parts)
lets_next text number items parts i item d name lt below is same =
    let p = get_or parts i d in
    ap (λ (ts : List Tree). lets_from text number ts (drop i parts)) (next_of items i item lt is)
    ∙ ap (lets_from text number (item ∷ drop (i + 1) items)) (drop_more parts i d below)
    ∙ ap (λ (n : List ℕ). named n (Let number p.sort p.constant) ∷ lets_from text (number + 1) (drop (i + 1) items) (drop (i + 1) parts)) (sym same)

-- one more name behind those that are bound
pub bound_more : (before now whole rest rest' : List Named) (name : Named) → now ≡ before ++ name ∷ [] → rest ≡ name ∷ rest' → before ++ rest ≡ whole → now ++ rest' ≡ whole
bound_more before now whole rest rest' name is next told =
    ap (λ (ns : List Named). ns ++ rest') is ∙ append_assoc before (name ∷ []) rest' ∙ ap (λ (ns : List Named). before ++ ns) (sym next) ∙ told
