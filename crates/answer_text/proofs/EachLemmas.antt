-- Trees that are read one after the other.
use Rattle.std.proofs.Common.{◌≡◌, ℕ, ◌+◌, ◌-◌, ◌<◌, ◌≤◌, List, [], ◌∷◌, ◌++◌, length, drop, take, get_or, Bool, true, codes, ap, sym, subst, ◌∙◌, arith}
use Rattle.std.specs.Prelude.{Result, Ok, Err}
use Rattle.std.specs.Result.{IsErrAnd}
use Rattle.std.proofs.lemmas.List.{drop_more, drop_all, take_all}
use Rattle.std.proofs.lemmas.Result.{err_from_is_err_and}
use Rattle.sexp_read.specs.declared.tree.Tree.{Tree}
use Rattle.term_tree.specs.declared.sort.Sort.{Sort}
use Rattle.term_tree.specs.declared.scalar.Value.{Value}
use Rattle.term_tree.specs.declared.script.Name.{Name}
use Rattle.term_tree.specs.declared.script.Pred.{Pred}
use Rattle.term_check.specs.Spelling.{is_symbol}
use Rattle.answer_text.specs.declared.answer.Line.{Line}
use Rattle.answer_text.specs.declared.stop.AnswerStop.{AnswerStop}
use Rattle.answer_text.specs.declared.stop.AnswerStop.TheVariants.{Memory as OutOfMemory, BadAnswer}
use Rattle.answer_text.specs.Reading.{◌>>=◌, provided, in_list, read_each, read_numeral, value, pred, with_values, read_applied, conclusion, step_of, parameter, parameters_from}
use Rattle.answer_text.specs.Read.{Gives}

-- a part that fails decides the whole
stops : {A B : Type 0} (r : Result A ℕ) (f : A → Result B ℕ) (whole : Result B ℕ) (stop : AnswerStop) → whole ≡ (r >>= f) → Gives r (Err stop) → Gives whole (Err stop)
stops r f whole OutOfMemory e g = tt
stops {A} r f whole (BadAnswer offset) e g = e ∙ ap (λ (x : Result A ℕ). x >>= f) g

pub fails : {A B : Type 0} (r : Result A ℕ) (f : A → Result B ℕ) (whole : Result B ℕ) (stop : AnswerStop) (result : Result B AnswerStop) → whole ≡ (r >>= f) → Gives r (Err stop) → IsErrAnd result (λ made. made ≡ stop)
    → Gives whole result
fails {A} {B} r f whole stop result e g failed =
    let told = err_from_is_err_and result failed in
    subst (λ (x : Result B AnswerStop). Gives whole x) (sym told.1) (subst (λ (s : AnswerStop). Gives whole (Err s)) (sym told.2) (stops r f whole stop e g))

-- each tree

module _ {A : Type 0} (read : Tree → Result A ℕ) (before : List A) (trees : List Tree) (i : ℕ) where
  -- the rest is what the next tree gives, and those behind it
  next : (tree : Tree) → i < length trees → tree ≡ get_or trees i tree → read_each read before (drop i trees) ≡ (read tree >>= λ a. read_each read (before ++ a ∷ []) (drop (i + 1) trees))
  next tree h is = ap (read_each read before) (drop_more trees i tree h ∙ ap (λ (t : Tree). t ∷ drop (i + 1) trees) (sym is))

  pub each_goes_on : (tree : Tree) (a : A) (new : List A) (whole : Result (List A) ℕ) → read_each read before (drop i trees) ≡ whole → i < length trees → tree ≡ get_or trees i tree
      → read tree ≡ Ok a → new ≡ before ++ a ∷ [] → read_each read new (drop (i + 1) trees) ≡ whole
  each_goes_on tree a new whole so h is e items =
      ap (λ (xs : List A). read_each read xs (drop (i + 1) trees)) items ∙ sym (next tree h is ∙ ap (λ (x : Result A ℕ). x >>= λ b. read_each read (before ++ b ∷ []) (drop (i + 1) trees)) e) ∙ so

  -- a failing call hands on what it failed with
  pub each_fails : (tree : Tree) (stop : AnswerStop) (whole : Result (List A) ℕ) (result : Result (List A) AnswerStop) → read_each read before (drop i trees) ≡ whole → i < length trees → tree ≡ get_or trees i tree
      → Gives (read tree) (Err stop) → IsErrAnd result (λ made. made ≡ stop) → Gives whole result
  each_fails tree stop whole result so h is e failed = fails (read tree) (λ a. read_each read (before ++ a ∷ []) (drop (i + 1) trees)) whole stop result (sym so ∙ next tree h is) e failed

  pub each_ends : (whole : Result (List A) ℕ) → read_each read before (drop i trees) ≡ whole → length trees ≤ i → whole ≡ Ok before
  each_ends whole so h = sym so ∙ ap (read_each read before) (drop_all i trees h)

-- each parameter
pub parameters_go_on : (text : List ℕ) (found new : List (Name × Sort)) (trees : List Tree) (sorts : List Sort) (i : ℕ) (tree : Tree) (d : Sort) (p : Name × Sort) (whole : Result (List (Name × Sort)) ℕ) → i < length trees → length trees ≡ length sorts
    → tree ≡ get_or trees i tree → parameters_from text found (drop i trees) (drop i sorts) ≡ whole → parameter text found (get_or sorts i d) tree ≡ Ok p → new ≡ found ++ p ∷ []
    → parameters_from text new (drop (i + 1) trees) (drop (i + 1) sorts) ≡ whole
parameters_go_on text found new trees sorts i tree d p whole h same is so e items =
    let here : drop i trees ≡ tree ∷ drop (i + 1) trees = drop_more trees i tree h ∙ ap (λ (t : Tree). t ∷ drop (i + 1) trees) (sym is) in
    let there : drop i sorts ≡ get_or sorts i d ∷ drop (i + 1) sorts = drop_more sorts i d (omega (arith, h, same)) in
    ap (λ (xs : List (Name × Sort)). parameters_from text xs (drop (i + 1) trees) (drop (i + 1) sorts)) items
    ∙ sym (ap (λ (ts : List Tree). parameters_from text found ts (drop i sorts)) here ∙ ap (parameters_from text found (tree ∷ drop (i + 1) trees)) there
    ∙ ap (λ (r : Result (Name × Sort) ℕ). r >>= λ q. parameters_from text (found ++ q ∷ []) (drop (i + 1) trees) (drop (i + 1) sorts)) e)
    ∙ so

-- the parts of a list by their places

pub first_and_rest : (trees : List Tree) (first : Tree) → 0 < length trees → first ≡ get_or trees 0 first → trees ≡ first ∷ take (length trees - 1) (drop 1 trees)
first_and_rest [] first h is = absurd (omega (arith, h))
first_and_rest (t ∷ trees) first h is =
    ap (λ (x : Tree). x ∷ trees) (sym is) ∙ ap (λ (ts : List Tree). first ∷ ts) (sym (take_all (length (t ∷ trees) - 1) trees (omega arith)))

pub six : (trees : List Tree) (a b c d e f : Tree) → 5 < length trees → length trees < 7 → a ≡ get_or trees 0 a → b ≡ get_or trees 1 b → c ≡ get_or trees 2 c → d ≡ get_or trees 3 d → e ≡ get_or trees 4 e → f ≡ get_or trees 5 f
    → trees ≡ a ∷ b ∷ c ∷ d ∷ e ∷ f ∷ []
six [] a b c d e f low high ha hb hc hd he hf = absurd (omega (arith, low))
six (t ∷ []) a b c d e f low high ha hb hc hd he hf = absurd (omega (arith, low))
six (t ∷ u ∷ []) a b c d e f low high ha hb hc hd he hf = absurd (omega (arith, low))
six (t ∷ u ∷ v ∷ []) a b c d e f low high ha hb hc hd he hf = absurd (omega (arith, low))
six (t ∷ u ∷ v ∷ w ∷ []) a b c d e f low high ha hb hc hd he hf = absurd (omega (arith, low))
six (t ∷ u ∷ v ∷ w ∷ x ∷ []) a b c d e f low high ha hb hc hd he hf = absurd (omega (arith, low))
six (t ∷ u ∷ v ∷ w ∷ x ∷ y ∷ []) a b c d e f low high ha hb hc hd he hf =
    ap (λ (z : Tree). z ∷ u ∷ v ∷ w ∷ x ∷ y ∷ []) (sym ha) ∙ ap (λ (z : Tree). a ∷ z ∷ v ∷ w ∷ x ∷ y ∷ []) (sym hb) ∙ ap (λ (z : Tree). a ∷ b ∷ z ∷ w ∷ x ∷ y ∷ []) (sym hc)
    ∙ ap (λ (z : Tree). a ∷ b ∷ c ∷ z ∷ x ∷ y ∷ []) (sym hd) ∙ ap (λ (z : Tree). a ∷ b ∷ c ∷ d ∷ z ∷ y ∷ []) (sym he) ∙ ap (λ (z : Tree). a ∷ b ∷ c ∷ d ∷ e ∷ z ∷ []) (sym hf)
six (t ∷ u ∷ v ∷ w ∷ x ∷ y ∷ z ∷ zs) a b c d e f low high ha hb hc hd he hf = absurd (omega (arith, high))

-- an atom with values

module _ (text : List ℕ) (preds : List Pred) (start : ℕ) (trees args : List Tree) (name : Tree) (number : ℕ) (parts : trees ≡ name ∷ args) (named : pred text preds name ≡ Ok number)
    (fits : with_values preds number (length args) ≡ true) where
  pub applied_is : read_applied text preds start trees ≡ (read_each (value text) [] args >>= λ values. Ok (number, values))
  applied_is =
      ap (read_applied text preds start) parts
      ∙ ap (λ (r : Result ℕ ℕ). r >>= λ n. provided (with_values preds n (length args)) start (read_each (value text) [] args >>= λ values. Ok (n, values))) named
      ∙ ap (λ (b : Bool). provided b start (read_each (value text) [] args >>= λ values. Ok (number, values))) fits

-- a step, part by part

module _ (text : List ℕ) (preds : List Pred) (start : ℕ) (trees : List Tree) (word place assertion values premises head : Tree) (parts : trees ≡ word ∷ place ∷ assertion ∷ values ∷ premises ∷ head ∷ [])
    (begins : is_symbol text word (codes "step") ≡ true) (k a : ℕ) (numbered : read_numeral text place ≡ Ok k) (asserted : read_numeral text assertion ≡ Ok a) where
  abbrev from_head : List Value → List ℕ → Result Line ℕ
  from_head vs ps = conclusion text preds head >>= λ h. Ok (record { number = k; assertion = a; values = vs; premises = ps; head = h })

  abbrev from_premises : List Value → Result Line ℕ
  from_premises vs = in_list (read_each (read_numeral text) []) premises >>= λ ps. from_head vs ps

  pub at_values : step_of text preds start trees ≡ (in_list (read_each (value text) []) values >>= λ vs. from_premises vs)
  at_values =
      ap (step_of text preds start) parts
      ∙ ap (λ (b : Bool). provided b start (read_numeral text place >>= λ k. read_numeral text assertion >>= λ a. in_list (read_each (value text) []) values >>= λ vs.
      in_list (read_each (read_numeral text) []) premises >>= λ ps. conclusion text preds head >>= λ h. Ok (record { number = k; assertion = a; values = vs; premises = ps; head = h }))) begins
      ∙ ap (λ (r : Result ℕ ℕ). r >>= λ k. read_numeral text assertion >>= λ a. in_list (read_each (value text) []) values >>= λ vs.
      in_list (read_each (read_numeral text) []) premises >>= λ ps. conclusion text preds head >>= λ h. Ok (record { number = k; assertion = a; values = vs; premises = ps; head = h })) numbered
      ∙ ap (λ (r : Result ℕ ℕ). r >>= λ a. in_list (read_each (value text) []) values >>= λ vs.
      in_list (read_each (read_numeral text) []) premises >>= λ ps. conclusion text preds head >>= λ h. Ok (record { number = k; assertion = a; values = vs; premises = ps; head = h })) asserted

  pub at_premises : (vs : List Value) → in_list (read_each (value text) []) values ≡ Ok vs → step_of text preds start trees ≡ from_premises vs
  at_premises vs valued = at_values ∙ ap (λ (r : Result (List Value) ℕ). r >>= λ vs. from_premises vs) valued

  pub at_head : (vs : List Value) (ps : List ℕ) → in_list (read_each (value text) []) values ≡ Ok vs → in_list (read_each (read_numeral text) []) premises ≡ Ok ps → step_of text preds start trees ≡ from_head vs ps
  at_head vs ps valued given = at_premises vs valued ∙ ap (λ (r : Result (List ℕ) ℕ). r >>= λ ps. from_head vs ps) given
