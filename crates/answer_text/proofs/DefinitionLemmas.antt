-- Definitions as trees spell them.
use Rattle.std.proofs.Common.{◌≡◌, ℕ, ◌+◌, ◌-◌, ◌<◌, ◌≤◌, List, [], ◌∷◌, ◌++◌, length, take, drop, get_or, zero, suc, Bool, true, false, not, refl, sym, ap, subst, ◌∙◌, arith}
use Rattle.std.specs.Prelude.{Option, None, Some, Result, Ok, Err}
use Rattle.std.proofs.lemmas.List.{take_all, drop_more, drop_all}
use Rattle.sexp_read.specs.declared.tree.Tree.{Tree, items_hidden-the_row-Tree-0}
use Rattle.sexp_read.specs.declared.tree.Tree.TheViews.{List as ListTree}
use Rattle.term_tree.specs.declared.sort.Sort.{Sort}
use Rattle.term_tree.specs.declared.sort.Sort.TheVariants.{Bool as BoolSort}
use Rattle.term_tree.specs.declared.script.Name.{Name}
use Rattle.term_tree.specs.declared.script.Pred.{Pred}
use Rattle.term_tree.specs.declared.definition.Definition.{Definition}
use Rattle.term_check.specs.Spelling.{sorts_of, start_of}
use Rattle.term_check.specs.Term.{Term}
use Rattle.term_check.specs.Weight.{weight, weights}
use Rattle.term_check.specs.Formula.{spelled_formula}
use Rattle.term_check.proofs.Public.{weigh_all, weight-List}
use Rattle.answer_text.specs.declared.answer.Answer.TheVariants.{Sat}
use Rattle.answer_text.specs.declared.stop.AnswerStop.{AnswerStop}
use Rattle.answer_text.specs.declared.stop.AnswerStop.TheVariants.{Memory as OutOfMemory, BadAnswer}
use Rattle.answer_text.specs.Reading.{◌>>=◌, provided, Defined, pred, is_defined, names_sort, read_parameters, defined, definition_by, definition_of, definition, definitions_from, in_order, complete, model_listed}
use Rattle.answer_text.specs.Reading.Reply.{model}
use Rattle.answer_text.specs.Read.{TellsDefinition, TellsReply}
use Rattle.answer_text.specs.machinery.Places.{ArePlaces, Took, TookAll, IsSoFar, gathered}
use Rattle.answer_text.proofs.PlaceLemmas.{Agree, agree}

-- weights

pub items_weigh : (tree : Tree) (items all : List Tree) (start end : ℕ) → tree ≡ ListTree items start end → all ≡ items → weight tree ≡ 1 + weights all
items_weigh tree items all start end is same = ap weight is ∙ weight-List items start end ∙ ap (λ (xs : List Tree). 1 + weights xs) (sym same)

pub items_count : (tree : Tree) (items all : List Tree) (start end : ℕ) → tree ≡ ListTree items start end → all ≡ items → length all ≤ weight tree
items_count tree items all start end is same = let w = items_weigh tree items all start end is same in let c = weigh_all all in omega (arith, w, c)

pub one_weighs : (trees : List Tree) (i : ℕ) (tree : Tree) → i < length trees → tree ≡ get_or trees i tree → weight tree ≤ weights trees
one_weighs [] i tree h is = absurd (omega (arith, h))
one_weighs (t ∷ trees) zero tree h is = let w = ap weight is in omega (arith, w)
one_weighs (t ∷ trees) (suc i) tree h is = let w = one_weighs trees i tree (omega (arith, h)) is in omega (arith, w)

pub rest_weighs : (trees : List Tree) (n : ℕ) → weights trees < n → weights (take (length trees - 1) (drop 1 trees)) < n
rest_weighs [] n h = h
rest_weighs (t ∷ trees) n h = let w = ap weights (take_all (length (t ∷ trees) - 1) trees (omega arith)) in omega (arith, w, h)

-- one definition

pub defined_is : (text : List ℕ) (preds : List Pred) (number : ℕ) (params sort term : Tree) (ps : List (Name × Sort)) (body : Term) → read_parameters text (sorts_of preds number) params ≡ Ok ps → names_sort text sort BoolSort ≡ true → spelled_formula text ps term ≡ Ok body
    → defined text preds number params sort term ≡ Ok (record { pred = number; params = ps; body = body })
defined_is text preds number params sort term ps body e b f =
    ap (λ (r : Result (List (Name × Sort)) ℕ). r >>= λ qs. provided (names_sort text sort BoolSort) (start_of sort) (spelled_formula text qs term >>= λ t. Ok (record { pred = number; params = qs; body = t }))) e
    ∙ ap (λ (h : Bool). provided h (start_of sort) (spelled_formula text ps term >>= λ t. Ok (record { pred = number; params = ps; body = t }))) b
    ∙ ap (λ (r : Result Term ℕ). r >>= λ t. Ok (record { pred = number; params = ps; body = t })) f

pub goes : (text : List ℕ) (preds : List Pred) (before : List Defined) (start : ℕ) (name params sort term : Tree) (number : ℕ) → pred text preds name ≡ Ok number → is_defined before number ≡ false
    → definition_by text preds before start name params sort term ≡ defined text preds number params sort term
goes text preds before start name params sort term number e b =
    ap (λ (r : Result ℕ ℕ). r >>= λ n. provided (not (is_defined before n)) start (defined text preds n params sort term)) e
    ∙ ap (λ (h : Bool). provided (not h) start (defined text preds number params sort term)) b

pub is_second : (text : List ℕ) (preds : List Pred) (before : List Defined) (start : ℕ) (name params sort term : Tree) (number : ℕ) → pred text preds name ≡ Ok number → is_defined before number ≡ true
    → definition_by text preds before start name params sort term ≡ Err start
is_second text preds before start name params sort term number e b =
    ap (λ (r : Result ℕ ℕ). r >>= λ n. provided (not (is_defined before n)) start (defined text preds n params sort term)) e
    ∙ ap (λ (h : Bool). provided (not h) start (defined text preds number params sort term)) b

pub no_definition : (before : List Defined) (preds : List Pred) (outcome told : Result Defined ℕ) (places : List (Option Definition)) (stop : AnswerStop) → outcome ≡ told → TellsDefinition told (Err stop) → Took before preds outcome places (Err stop)
no_definition before preds outcome told places OutOfMemory e h = tt
no_definition before preds outcome told places (BadAnswer offset) e h = e ∙ h

pub definition-List : (text : List ℕ) (preds : List Pred) (before : List Defined) (tree : Tree) (items all : List Tree) (start end : ℕ) → tree ≡ ListTree items start end → all ≡ items → definition_of text preds before start all ≡ definition text preds before tree
definition-List text preds before tree items all start end is same =
    ap (definition_of text preds before start) same ∙ sym (ap (definition text preds before) is ∙ ap (definition_of text preds before start) (items_hidden-the_row-Tree-0 items))

pub five : (trees : List Tree) (a b c d e : Tree) → 4 < length trees → length trees < 6 → a ≡ get_or trees 0 a → b ≡ get_or trees 1 b → c ≡ get_or trees 2 c → d ≡ get_or trees 3 d → e ≡ get_or trees 4 e → trees ≡ a ∷ b ∷ c ∷ d ∷ e ∷ []
five [] a b c d e low high ha hb hc hd he = absurd (omega (arith, low))
five (t ∷ []) a b c d e low high ha hb hc hd he = absurd (omega (arith, low))
five (t ∷ u ∷ []) a b c d e low high ha hb hc hd he = absurd (omega (arith, low))
five (t ∷ u ∷ v ∷ []) a b c d e low high ha hb hc hd he = absurd (omega (arith, low))
five (t ∷ u ∷ v ∷ w ∷ []) a b c d e low high ha hb hc hd he = absurd (omega (arith, low))
five (t ∷ u ∷ v ∷ w ∷ x ∷ []) a b c d e low high ha hb hc hd he =
    ap (λ (z : Tree). z ∷ u ∷ v ∷ w ∷ x ∷ []) (sym ha) ∙ ap (λ (z : Tree). a ∷ z ∷ v ∷ w ∷ x ∷ []) (sym hb) ∙ ap (λ (z : Tree). a ∷ b ∷ z ∷ w ∷ x ∷ []) (sym hc)
    ∙ ap (λ (z : Tree). a ∷ b ∷ c ∷ z ∷ x ∷ []) (sym hd) ∙ ap (λ (z : Tree). a ∷ b ∷ c ∷ d ∷ z ∷ []) (sym he)
five (t ∷ u ∷ v ∷ w ∷ x ∷ y ∷ ys) a b c d e low high ha hb hc hd he = absurd (omega (arith, high))

pub two_of_five : (trees : List Tree) (a b c d e : Tree) (n : ℕ) → trees ≡ a ∷ b ∷ c ∷ d ∷ e ∷ [] → weights trees < n → weight c + weight e < n
two_of_five trees a b c d e n is h = let w = ap weights is in omega (arith, w, h)

-- all definitions

module _ (text : List ℕ) (preds : List Pred) (trees : List Tree) (i : ℕ) (tree : Tree) (old : List (Option Definition)) (so : IsSoFar text preds (drop i trees) trees old) (at : i < length trees) (is : tree ≡ get_or trees i tree) where
  here : drop i trees ≡ tree ∷ drop (i + 1) trees
  here = drop_more trees i tree at ∙ ap (λ (t : Tree). t ∷ drop (i + 1) trees) (sym is)

  decided : definitions_from text preds [] trees ≡ definitions_from text preds so.before (tree ∷ drop (i + 1) trees)
  decided = sym so.outcome_is ∙ ap (definitions_from text preds so.before) here

  by_result : (r : Result Defined ℕ) → definition text preds so.before tree ≡ r → definitions_from text preds [] trees ≡ (r >>= λ d. definitions_from text preds (so.before ++ d ∷ []) (drop (i + 1) trees))
  by_result r e = decided ∙ ap (λ (x : Result Defined ℕ). x >>= λ d. definitions_from text preds (so.before ++ d ∷ []) (drop (i + 1) trees)) e

  pub stopped : (new : List (Option Definition)) (stop : AnswerStop) → Took so.before preds (definition text preds so.before tree) new (Err stop) → TookAll preds (definitions_from text preds [] trees) new (Err stop)
  stopped new OutOfMemory h = tt
  stopped new (BadAnswer offset) h = by_result (Err offset) h

  pub goes_on : (new : List (Option Definition)) (a : Unit {0}) → Took so.before preds (definition text preds so.before tree) new (Ok a) → IsSoFar text preds (drop (i + 1) trees) trees new
  goes_on new a h = record { before = so.before ++ h.0 ∷ []; places_are = h.2; outcome_is = sym (by_result (Ok h.0) h.1) }

pub all_taken : (text : List ℕ) (preds : List Pred) (trees : List Tree) (i : ℕ) (places : List (Option Definition)) → IsSoFar text preds (drop i trees) trees places → length trees ≤ i
    → (ds : List Defined) × (definitions_from text preds [] trees ≡ Ok ds) × ArePlaces ds preds places
all_taken text preds trees i places so done = (so.before, sym so.outcome_is ∙ ap (definitions_from text preds so.before) (drop_all i trees done), so.places_are)

-- a model

pub model_found : (text : List ℕ) (preds : List Pred) (start : ℕ) (trees : List Tree) (places : List (Option Definition)) (ds : List Defined) (definitions : List Definition) → definitions_from text preds [] trees ≡ Ok ds → ArePlaces ds preds places → gathered places ≡ Some definitions
    → TellsReply (model_listed text preds start trees) (Ok (Sat definitions))
model_found text preds start trees places ds definitions e h g = by (in_order ds 0 preds) refl (subst (Agree (in_order ds 0 preds)) g (agree ds preds places h))
  where
    by : (o : Option (List Defined)) → in_order ds 0 preds ≡ o → Agree o (Some definitions) → TellsReply (model_listed text preds start trees) (Ok (Sat definitions))
    by None is k = absurd k
    by (Some all) is k = (model all, ap (λ (r : Result (List Defined) ℕ). r >>= λ ds. complete start (in_order ds 0 preds)) e ∙ ap (complete start) is, k)

pub model_missing : (text : List ℕ) (preds : List Pred) (start : ℕ) (trees : List Tree) (places : List (Option Definition)) (ds : List Defined) → definitions_from text preds [] trees ≡ Ok ds → ArePlaces ds preds places → gathered places ≡ None
    → model_listed text preds start trees ≡ Err start
model_missing text preds start trees places ds e h g = by (in_order ds 0 preds) refl (subst (Agree (in_order ds 0 preds)) g (agree ds preds places h))
  where
    by : (o : Option (List Defined)) → in_order ds 0 preds ≡ o → Agree o None → model_listed text preds start trees ≡ Err start
    by None is k = ap (λ (r : Result (List Defined) ℕ). r >>= λ ds. complete start (in_order ds 0 preds)) e ∙ ap (complete start) is
    by (Some all) is k = absurd k

pub model_wrong : (text : List ℕ) (preds : List Pred) (start : ℕ) (trees : List Tree) (places : List (Option Definition)) (stop : AnswerStop) → TookAll preds (definitions_from text preds [] trees) places (Err stop) → TellsReply (model_listed text preds start trees) (Err stop)
model_wrong text preds start trees places OutOfMemory h = tt
model_wrong text preds start trees places (BadAnswer offset) h = ap (λ (r : Result (List Defined) ℕ). r >>= λ ds. complete start (in_order ds 0 preds)) h
