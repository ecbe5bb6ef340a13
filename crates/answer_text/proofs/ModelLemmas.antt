-- A printed model is read as the same model.
use Rattle.std.proofs.Common.{ℕ, suc, ◌≡◌, ◌+◌, ◌^◌, ◌<◌, List, [], ◌∷◌, ◌++◌, length, map, Bool, true, false, cond, not, ◌||◌, Option, Some, None, Result, Ok, Err, refl, sym, ap, subst, ◌∙◌, arith, append_assoc, append-nil, codes, nat_eq, slice_get, flat_map}
use Rattle.std.specs.List.{AllByRecursion, enumerate_from}
use Rattle.sexp_read.specs.declared.tree.LeafKind.TheVariants.{Symbol}
use Rattle.sexp_read.specs.declared.tree.Tree.{Tree, items_hidden-the_row-Tree-0}
use Rattle.sexp_read.specs.Trees.{IsReading}
use Rattle.term_tree.specs.declared.sort.Sort.{Sort}
use Rattle.term_tree.specs.declared.sort.Sort.TheVariants.{Bool as BoolSort}
use Rattle.term_tree.specs.declared.script.Name.{Name}
use Rattle.term_tree.specs.declared.script.Pred.{Pred}
use Rattle.term_tree.specs.declared.definition.Definition.{Definition}
use Rattle.term_tree.specs.Solution.{DefinesEach}
use Rattle.term_check.specs.Formula.{params_from, bool_term, spelled_formula}
use Rattle.term_check.specs.Spelling.{Spelled, is_symbol, sorts_of, start_of}
use Rattle.term_check.specs.Term.{Term}
use Rattle.answer_text.specs.declared.answer.Answer.{Answer}
use Rattle.answer_text.specs.declared.answer.Answer.TheVariants.{Sat, Unsat, Unknown}
use Rattle.answer_text.specs.Terms.{parameter_name, term_text}
use Rattle.answer_text.specs.AnswerTexts.{pred_text, parameters_text, definition_text, answer_text}
use Rattle.answer_text.specs.Printable.{IsMadeOfLemmas, IsAnswerText}
use Rattle.answer_text.specs.ReadBack.{AreNames, IsStored, AreSameDefinitions, IsSameModel, IsReadAs}
use Rattle.answer_text.specs.Reading.{◌>>=◌, provided, said_by, names_sort, read_parameters, Defined, defined, is_defined, definition_by, definition_of, definition, definitions_from, definition_for, and_then, in_order, Reply, complete, model_listed, model_of, claim, evidence, unless_at, reply}
use Rattle.answer_text.specs.Reading.Reply.{model, refutation}
use Rattle.answer_text.specs.Read.{AreDefinitions, IsReply, Spells, IsBad}
use Rattle.answer_text.proofs.DefiningLemmas.{defining_reads}
use Rattle.answer_text.proofs.LawLemmas.{same_reply}
use Rattle.answer_text.proofs.LikeLemmas.{IsLike, like_same}
use Rattle.answer_text.proofs.ParameterLemmas.{params_at, are_parameters, shows_sort, shows_parameters}
use Rattle.answer_text.proofs.ShowLemmas.{Shows, ShowsRow, FirstAnd, Within, IsLeaf, shows_same, row_same, row_none, row_more, row_behind, shows_list, whole_text}
use Rattle.answer_text.proofs.SpellLemmas.{Only, row_last, row_spaced, shows_symbol, symbol_is}
use Rattle.answer_text.proofs.StepLemmas.{same_number, IsPred, shows_pred}
use Rattle.answer_text.proofs.TermShowLemmas.{ReadsAs, word_is}

-- what is read of a definition: its predicate, its parameters and a term that is alike
pub record IsMatch (preds : List Pred) (d : Definition) (r : Defined) : Type 0 where
  pub pred_is : r.pred ≡ d.pred
  pub params_are : r.params ≡ params_at 0 (sorts_of preds d.pred)
  pub like : IsLike d.terms.nodes r.body d.body.0

abbrev pub AreMatches : List Pred → List Definition → List Defined → Type 0
AreMatches preds [] [] = Unit {0}
AreMatches preds (d ∷ ds) (r ∷ rs) = IsMatch preds d r × AreMatches preds ds rs
AreMatches preds [] (r ∷ rs) = ⊥
AreMatches preds (d ∷ ds) [] = ⊥

-- One definition.

module _ (preds : List Pred) (names : AreNames preds) (d : Definition) (stored : IsStored d) (made : IsMadeOfLemmas preds d) (within : d.pred < length preds) (few : length (sorts_of preds d.pred) < 2 ^ 64) where
  abbrev sorts : List Sort
  sorts = sorts_of preds d.pred

  abbrev IsTerm : List ℕ → Tree → Type 0
  IsTerm text tree = (body : Term) × (spelled_formula text (params_at 0 sorts) tree ≡ Ok body) × IsLike d.terms.nodes body d.body.0

  shows_term : Shows IsTerm 2 (term_text d.terms.nodes d.body.0)
  shows_term =
      let params = are_parameters sorts few in
      let term = made.term in
      shows_same (ReadsAs d.terms.nodes stored.arena sorts (params_from 0 (params_at 0 sorts)) params (length (params_at 0 sorts)) BoolSort None d.body.0) IsTerm 2 (term_text d.terms.nodes d.body.0)
      (λ text tree r. (r.found.term, ap bool_term r.is ∙ ap (λ (p : Rattle.term_check.specs.declared.part.Part.Part). cond (Rattle.term_tree.specs.Sorts.same_sort p.sort BoolSort) (Ok r.found.term) (Err p.start)) r.part, r.like))
      (defining_reads d.terms.nodes stored.arena sorts few (params_from 0 (params_at 0 sorts)) params (length (params_at 0 sorts)) 2 d.body (omega arith) term)

  abbrev Parts : List ℕ → List Tree → Type 0
  Parts = FirstAnd (IsLeaf Symbol (codes "define-fun")) (FirstAnd (IsPred preds names d.pred) (FirstAnd (λ text tree. read_parameters text sorts tree ≡ Ok (params_at 0 sorts))
      (FirstAnd (λ text tree. names_sort text tree BoolSort ≡ true) (Only IsTerm))))

  -- the tree is read as a definition that matches, where the predicate has none so far
  abbrev pub IsRead : List ℕ → Tree → Type 0
  IsRead text tree = (r : Defined) × IsMatch preds d r × ((before : List Defined) → is_defined before d.pred ≡ false → definition text preds before tree ≡ Ok r)

  definition_is : (text : List ℕ) (tree : Tree) → Within Parts text tree → IsRead text tree
  definition_is text tree (items, start, end, at, (word, r1, e1, w, (name, r2, e2, n, (params, r3, e3, p, (sort, r4, e4, s, (term, r5, e5, (body, t, like), last)))))) =
      let row : items ≡ word ∷ name ∷ params ∷ sort ∷ term ∷ [] =
      e1 ∙ ap (λ (l : List Tree). word ∷ l) (e2 ∙ ap (λ (l : List Tree). name ∷ l) (e3 ∙ ap (λ (l : List Tree). params ∷ l) (e4 ∙ ap (λ (l : List Tree). sort ∷ l) (e5 ∙ ap (λ (l : List Tree). term ∷ l) last)))) in
      let found : Defined = record { pred = d.pred; params = params_at 0 sorts; body = body } in
      let one : defined text preds d.pred params sort term ≡ Ok found =
      ap (λ (r : Result (List (Name × Sort)) ℕ). r >>= λ ps. provided (names_sort text sort BoolSort) (start_of sort) (spelled_formula text ps term >>= λ b. Ok (record { pred = d.pred; params = ps; body = b }))) p
      ∙ ap (λ b. provided b (start_of sort) (spelled_formula text (params_at 0 sorts) term >>= λ b. Ok (record { pred = d.pred; params = params_at 0 sorts; body = b }))) s
      ∙ ap (λ (r : Result Term ℕ). r >>= λ b. Ok (record { pred = d.pred; params = params_at 0 sorts; body = b })) t in
      let reads : (before : List Defined) → is_defined before d.pred ≡ false → definition text preds before tree ≡ Ok found =
      λ before new. ap (definition text preds before) at ∙ ap (definition_of text preds before start) (items_hidden-the_row-Tree-0 items ∙ row)
      ∙ ap (λ b. provided b start (definition_by text preds before start name params sort term)) (word_is (codes "define-fun") (codes "define-fun") text word w)
      ∙ ap (λ (r : Result ℕ ℕ). r >>= λ k. provided (not (is_defined before k)) start (defined text preds k params sort term)) n.4
      ∙ ap (λ b. provided (not b) start (defined text preds d.pred params sort term)) new ∙ one in
      (found, record { pred_is = refl; params_are = refl; like = like }, reads)

  abbrev params_list : List ℕ
  params_list = codes "(" ++ parameters_text (sorts_of preds d.pred) ++ codes ")"

  abbrev pub definition_row : List ℕ
  definition_row =
      codes "define-fun" ++ (codes " " ++ (pred_text preds d.pred ++ (codes " " ++ (params_list ++ (codes " " ++ (codes "Bool" ++ (codes " " ++ term_text d.terms.nodes d.body.0)))))))

  row_of_definition : ShowsRow Parts 2 definition_row
  row_of_definition =
      let params = shows_parameters 2 sorts (omega arith) few in
      row_spaced _ _ 2 (codes "define-fun") _ (shows_symbol 2 100 (codes "efine-fun") refl refl)
      (row_spaced _ _ 2 (pred_text preds d.pred) _ (shows_pred preds names 2 d.pred within)
      (row_spaced _ _ 2 params_list _ params
      (row_spaced _ _ 2 (codes "Bool") _ (shows_sort 2 BoolSort)
      (row_last IsTerm 2 (term_text d.terms.nodes d.body.0) shows_term))))

  pub shows_definition : Shows IsRead 1 (codes "(" ++ definition_row ++ codes ")")
  shows_definition = shows_same (Within Parts) IsRead 1 (codes "(" ++ definition_row ++ codes ")") definition_is (shows_list Parts 1 definition_row (omega arith) row_of_definition)

  row_pieces : (o w b p ps c i t n : List ℕ) → (o ++ (w ++ (b ++ (p ++ (b ++ ((o ++ ps ++ c) ++ (b ++ (i ++ (b ++ t)))))))) ++ c) ++ n ≡ o ++ (w ++ (b ++ (p ++ (b ++ (o ++ (ps ++ (c ++ (b ++ (i ++ (b ++ (t ++ (c ++ n))))))))))))
  row_pieces o w b p ps c i t n = simp append_assoc

  text_pieces : (s p q ps r t e : List ℕ) → (s ++ p ++ q ++ ps ++ r) ++ t ++ e ≡ s ++ (p ++ (q ++ (ps ++ (r ++ (t ++ e)))))
  text_pieces s p q ps r t e = simp append_assoc

  pub definition_printed : definition_text preds d ≡ (codes "(" ++ definition_row ++ codes ")") ++ codes "\n"
  unfolding definition_text
  definition_printed =
      text_pieces (codes "(define-fun ") (pred_text preds d.pred) (codes " (") (parameters_text (sorts_of preds d.pred)) (codes ") Bool ") (term_text d.terms.nodes d.body.0) (codes ")\n")
      ∙ sym (row_pieces (codes "(") (codes "define-fun") (codes " ") (pred_text preds d.pred) (parameters_text (sorts_of preds d.pred)) (codes ")") (codes "Bool") (term_text d.terms.nodes d.body.0) (codes "\n"))

-- Definitions in order.

-- of the predicates from this one on
abbrev AreFrom : ℕ → List Defined → Type 0
AreFrom number [] = Unit {0}
AreFrom number (r ∷ rs) = (r.pred ≡ number) × AreFrom (number + 1) rs

abbrev IsBefore : ℕ → Defined → Type 0
IsBefore number r = r.pred < number

before_more : (number : ℕ) (before : List Defined) (r : Defined) → AllByRecursion (IsBefore number) before → r.pred ≡ number → AllByRecursion (IsBefore (number + 1)) (before ++ r ∷ [])
before_more number [] r all is = (omega (arith, is), tt)
before_more number (b ∷ before) r all is = let h = all.0 in (omega (arith, h), before_more number before r all.1 is)

other_number : (m n : ℕ) → m < n → nat_eq m n ≡ false
other_number m n h = grind arith

undefined : (number : ℕ) (before : List Defined) → AllByRecursion (IsBefore number) before → is_defined before number ≡ false
undefined number [] all = refl
undefined number (b ∷ before) all = ap (λ t. t || is_defined before number) (other_number b.pred number all.0) ∙ undefined number before all.1

found_behind : (number : ℕ) (before : List Defined) (r : Defined) (rs : List Defined) → AllByRecursion (IsBefore number) before → r.pred ≡ number → definition_for number (before ++ r ∷ rs) ≡ Some r
found_behind number [] r rs all is = ap (λ (k : ℕ). cond (nat_eq k number) (Some r) (definition_for number rs)) is ∙ ap (λ t. cond t (Some r) (definition_for number rs)) (same_number number)
found_behind number (b ∷ before) r rs all is = ap (λ t. cond t (Some b) (definition_for number (before ++ r ∷ rs))) (other_number b.pred number all.0) ∙ found_behind number before r rs all.1 is

ordered : (number : ℕ) (before rs : List Defined) (preds : List Pred) → AllByRecursion (IsBefore number) before → AreFrom number rs → length rs ≡ length preds → in_order (before ++ rs) number preds ≡ Some rs
ordered number before [] [] all from many = refl
ordered number before [] (p ∷ preds) all from many = absurd (omega (arith, many))
ordered number before (r ∷ rs) [] all from many = absurd (omega (arith, many))
ordered number before (r ∷ rs) (p ∷ preds) all from many =
    ap (λ o. and_then o (in_order (before ++ r ∷ rs) (number + 1) preds)) (found_behind number before r rs all from.0)
    ∙ ap (λ (l : List Defined). and_then (Some r) (in_order l (number + 1) preds)) (sym (append_assoc before (r ∷ []) rs))
    ∙ ap (λ o. and_then (Some r) o) (ordered (number + 1) (before ++ r ∷ []) rs preds (before_more number before r all from.0) from.1 (omega (arith, many)))

-- what is known of the definitions that are printed
pub record IsGood (preds : List Pred) (number : ℕ) (d : Definition) : Type 0 where
  pub stored : IsStored d
  pub made : IsMadeOfLemmas preds d
  pub at : d.pred ≡ number
  pub within : d.pred < length preds
  pub few : length (sorts_of preds d.pred) < 2 ^ 64

abbrev pub AreGood : List Pred → ℕ → List Definition → Type 0
AreGood preds number [] = Unit {0}
AreGood preds number (d ∷ ds) = IsGood preds number d × AreGood preds (number + 1) ds

module _ (preds : List Pred) (names : AreNames preds) where
  -- the trees are read as definitions that match
  record AreRead (number : ℕ) (ds : List Definition) (text : List ℕ) (trees : List Tree) : Type 0 where
    pub found : List Defined
    pub matches : AreMatches preds ds found
    pub from : AreFrom number found
    pub reads : (before : List Defined) → AllByRecursion (IsBefore number) before → definitions_from text preds before trees ≡ Ok (before ++ found)

  none_read : (number : ℕ) (text : List ℕ) → AreRead number [] text []
  none_read number text = record { found = []; matches = tt; from = tt; reads = λ before all. ap Ok (sym (append-nil before)) }

  more_read : (number : ℕ) (d : Definition) (g : IsGood preds number d) (ds : List Definition) (text : List ℕ) (trees : List Tree)
      → FirstAnd (IsRead preds names d g.stored g.made g.within g.few) (AreRead (number + 1) ds) text trees → AreRead number (d ∷ ds) text trees
  more_read number d g ds text trees (first, others, row, (r, match, one), rest) =
      let at : r.pred ≡ number = match.pred_is ∙ g.at in
      let reads : (before : List Defined) → AllByRecursion (IsBefore number) before → definitions_from text preds before trees ≡ Ok (before ++ (r ∷ rest.found)) =
      λ before all. ap (definitions_from text preds before) row
      ∙ ap (λ (o : Result Defined ℕ). o >>= λ x. definitions_from text preds (before ++ x ∷ []) others) (one before (ap (is_defined before) g.at ∙ undefined number before all))
      ∙ rest.reads (before ++ r ∷ []) (before_more number before r all at) ∙ ap Ok (append_assoc before (r ∷ []) rest.found) in
      record { found = r ∷ rest.found; matches = (match, rest.matches); from = (at, rest.from); reads = reads }

  rows_of_definitions : (number : ℕ) (ds : List Definition) → AreGood preds number ds → ShowsRow (AreRead number ds) 1 (flat_map (definition_text preds) ds)
  rows_of_definitions number [] good = row_none (AreRead number []) 1 (none_read number)
  rows_of_definitions number (d ∷ ds) (g, good) =
      let body : List ℕ = codes "(" ++ definition_row preds names d g.stored g.made g.within g.few ++ codes ")" in
      let rest : List ℕ = flat_map (definition_text preds) ds in
      let whole : definition_text preds d ++ rest ≡ body ++ (codes "\n" ++ rest) = ap (λ (l : List ℕ). l ++ rest) (definition_printed preds names d g.stored g.made g.within g.few) ∙ append_assoc body (codes "\n") rest in
      subst (λ (l : List ℕ). ShowsRow (AreRead number (d ∷ ds)) 1 l) (sym whole)
      (row_same (FirstAnd (IsRead preds names d g.stored g.made g.within g.few) (AreRead (number + 1) ds)) (AreRead number (d ∷ ds)) 1 (body ++ (codes "\n" ++ rest)) (more_read number d g ds)
      (row_more (IsRead preds names d g.stored g.made g.within g.few) (AreRead (number + 1) ds) 1 body (codes "\n" ++ rest) (shows_definition preds names d g.stored g.made g.within g.few) refl
      (row_behind (AreRead (number + 1) ds) 1 (codes "\n") rest refl (rows_of_definitions (number + 1) ds good))))

  module _ (ds : List Definition) (good : AreGood preds 0 ds) (many : length ds ≡ length preds) where
    abbrev definitions_row : List ℕ
    definitions_row = codes "\n" ++ flat_map (definition_text preds) ds

    abbrev Model : List ℕ → Tree → Type 0
    Model = Within (AreRead 0 ds)

    shows_model : Shows Model 0 (codes "(" ++ definitions_row ++ codes ")")
    shows_model = shows_list (AreRead 0 ds) 0 definitions_row (omega arith) (row_behind (AreRead 0 ds) 1 (codes "\n") (flat_map (definition_text preds) ds) refl (rows_of_definitions 0 ds good))

    abbrev Answered : List ℕ → List Tree → Type 0
    Answered = FirstAnd (IsLeaf Symbol (codes "sat")) (Only Model)

    model_pieces : (s o b l c n : List ℕ) → (s ++ (b ++ (o ++ b))) ++ l ++ (c ++ n) ≡ s ++ (b ++ ((o ++ (b ++ l) ++ c) ++ n))
    model_pieces s o b l c n = simp append_assoc

    rows_of_answer : ShowsRow Answered 0 (answer_text preds (Sat ds))
    rows_of_answer =
        let tree : List ℕ = codes "(" ++ definitions_row ++ codes ")" in
        let whole : answer_text preds (Sat ds) ≡ codes "sat" ++ (codes "\n" ++ (tree ++ codes "\n")) = model_pieces (codes "sat") (codes "(") (codes "\n") (flat_map (definition_text preds) ds) (codes ")") (codes "\n") in
        subst (λ (l : List ℕ). ShowsRow Answered 0 l) (sym whole)
        (row_more (IsLeaf Symbol (codes "sat")) (Only Model) 0 (codes "sat") (codes "\n" ++ (tree ++ codes "\n")) (shows_symbol 0 115 (codes "at") refl refl) refl
        (row_behind (Only Model) 0 (codes "\n") (tree ++ codes "\n") refl
        (row_more Model (λ text trees. trees ≡ []) 0 tree (codes "\n") shows_model refl (row_behind (λ text trees. trees ≡ []) 0 (codes "\n") [] refl (row_none (λ text trees. trees ≡ []) 0 (λ text. refl))))))

    count_matches : (es : List Definition) (rs : List Defined) → AreMatches preds es rs → length rs ≡ length es
    count_matches [] [] all = refl
    count_matches [] (r ∷ rs) all = absurd all
    count_matches (e ∷ es) [] all = absurd all
    count_matches (e ∷ es) (r ∷ rs) all = ap suc (count_matches es rs all.1)

    -- the reply is a model whose definitions match
    reply_is : (text : List ℕ) (trees : List Tree) → Answered text trees → (rs : List Defined) × AreMatches preds ds rs × (reply text None preds trees ≡ Ok (model rs))
    reply_is text trees (first, others, row, w, (tree, rest, only, (items, start, end, at, read), last)) =
        let two : trees ≡ first ∷ tree ∷ [] = row ∙ ap (λ (l : List Tree). first ∷ l) (only ∙ ap (λ (l : List Tree). tree ∷ l) last) in
        let claimed : claim text first ≡ Some true = ap (λ b. cond b (Some true) (cond (is_symbol text first (codes "unsat")) (Some false) None)) (symbol_is (codes "sat") (codes "sat") text first w) in
        let all : in_order read.found 0 preds ≡ Some read.found = ordered 0 [] read.found preds tt read.from (count_matches ds read.found read.matches ∙ many) in
        let listed : model_of text preds tree ≡ Ok (model read.found) =
        ap (model_of text preds) at ∙ ap (model_listed text preds start) (items_hidden-the_row-Tree-0 items)
        ∙ ap (λ (r : Result (List Defined) ℕ). r >>= λ found. complete start (in_order found 0 preds)) (read.reads [] tt) ∙ ap (complete start) all in (
          read.found,
          read.matches,
          ap (reply text None preds) two ∙ ap (λ o. said_by first o >>= λ sat. evidence text preds sat tree >>= unless_at None) claimed ∙ ap (λ (r : Result Reply ℕ). r >>= unless_at None) listed,
        )

-- What is read is the same.

params_named : (n : ℕ) (sorts : List Sort) (params : List Name) → map (λ name. name.bytes) params ≡ map (λ p. parameter_name p.0) (enumerate_from n sorts) → params ≡ map (λ p. p.0) (params_at n sorts)
params_named n [] [] e = refl
params_named n [] (p ∷ params) e = absurd (cc)
params_named n (s ∷ sorts) [] e = absurd (cc)
params_named n (s ∷ sorts) (p ∷ params) e =
    let one : p.bytes ≡ parameter_name n = cc in
    let rest : map (λ name. name.bytes) params ≡ map (λ p. parameter_name p.0) (enumerate_from (n + 1) sorts) = cc in
    ap (λ (b : List ℕ). record { bytes = b } ∷ params) one ∙ ap (λ (l : List Name). record { bytes = parameter_name n } ∷ l) (params_named (n + 1) sorts params rest)

same_models : (preds : List Pred) (number : ℕ) (ds : List Definition) (rs : List Defined) (es : List Definition) → AreGood preds number ds → AreMatches preds ds rs → AreDefinitions rs es → AreSameDefinitions ds es
same_models preds number [] [] [] good matches are = tt
same_models preds number [] [] (e ∷ es) good matches are = absurd are
same_models preds number [] (r ∷ rs) es good matches are = absurd matches
same_models preds number (d ∷ ds) [] es good matches are = absurd matches
same_models preds number (d ∷ ds) (r ∷ rs) [] good matches are = absurd are
same_models preds number (d ∷ ds) (r ∷ rs) (e ∷ es) (g, good) (m, matches) (a, are) =
    let named = params_named 0 (sorts_of preds d.pred) d.params g.made.names in (
      record {
        pred = sym (a.pred ∙ m.pred_is);
        params = named ∙ sym (a.params ∙ ap (λ (l : List (Name × Sort)). map (λ p. p.0) l) m.params_are);
        term = like_same d.terms.nodes g.stored.arena e.terms r.body d.body.0 e.body.0 m.like a.term;
      },
      same_models preds (number + 1) ds rs es good matches are,
    )

-- the definitions of the predicates from this one on
good_from : (preds : List Pred) (number : ℕ) (rest : List Pred) (ds : List Definition) → ((i : ℕ) (p : Pred) → slice_get rest i ≡ Some p → slice_get preds (number + i) ≡ Some p) → number + length rest ≡ length preds
    → DefinesEach number rest ds → AllByRecursion (IsMadeOfLemmas preds) ds → AllByRecursion IsStored ds → AreGood preds number ds × (length ds ≡ length rest)
good_from preds number [] [] at count each made stored = (tt, refl)
good_from preds number [] (d ∷ ds) at count each made stored = absurd each
good_from preds number (p ∷ rest) [] at count each made stored = absurd each
good_from preds number (p ∷ rest) (d ∷ ds) at count (is, many, each) (m, made) (s, stored) =
    let first : slice_get preds number ≡ Some p = let e : number + 0 ≡ number = omega arith in subst (λ (k : ℕ). slice_get preds k ≡ Some p) e (at 0 p refl) in
    let sorts : sorts_of preds d.pred ≡ p.args = ap (sorts_of preds) is ∙ ap Rattle.term_check.specs.Spelling.sorts_in first in
    let long = ap length sorts in
    let short = s.short in
    let later = good_from preds (number + 1) rest ds
    (λ i q there. let e : number + suc i ≡ number + 1 + i = omega arith in subst (λ (k : ℕ). slice_get preds k ≡ Some q) e (at (suc i) q there)) (omega (arith, count)) each made stored in
    ((record { stored = s; made = m; at = is; within = omega (arith, is, count); few = omega (arith, long, many, short) }, later.0), ap suc later.1)

abbrev reply_claims : Result Reply ℕ → Bool
reply_claims (Ok r) = true
reply_claims (Err offset) = false

abbrev found_in : Result Reply ℕ → Reply
found_in (Ok r) = r
found_in (Err offset) = refutation []

-- what a text of one reading is read as
module _ (preds : List Pred) (ds : List Definition) (text : List ℕ) (trees : List Tree) (rs : List Defined) (good : AreGood preds 0 ds) (matches : AreMatches preds ds rs)
    (reading : IsReading text trees None) (is : reply text None preds trees ≡ Ok (model rs)) where
  not_bad : (offset : ℕ) → IsBad preds text offset → ⊥
  not_bad offset bad =
      let e : true ≡ false = ap reply_claims (sym is ∙ same_reply preds text trees bad.trees None bad.stop reading bad.reading ∙ bad.broken) in cc

  model_same : (answer : Answer) → IsReply (model rs) answer → IsSameModel ds answer
  model_same (Sat es) are = same_models preds 0 ds rs es good matches are
  model_same (Unsat lines) are = absurd are
  model_same (Unknown level cause) are = absurd are

  answer_same : (answer : Answer) → Spells preds text answer → IsSameModel ds answer
  answer_same answer s =
      let e : model rs ≡ s.claimed = ap found_in (sym is ∙ same_reply preds text trees s.trees None s.stop reading s.reading ∙ s.spelled) in
      model_same answer (subst (λ (q : Reply). IsReply q answer) (sym e) s.is)

  told : IsReadAs preds text ds
  told = record { accepted = not_bad; same = answer_same }

pub read_as : (preds : List Pred) (ds : List Definition) (text : List ℕ) → AreNames preds → AllByRecursion IsStored ds → IsAnswerText preds (Sat ds) text → IsReadAs preds text ds
read_as preds ds text names stored printed =
    let g = good_from preds 0 preds ds (λ i p is. let e : i ≡ 0 + i = omega arith in subst (λ (k : ℕ). slice_get preds k ≡ Some p) e is) (omega arith) printed.printable.0 printed.printable.1 stored in
    let shown = subst (λ (l : List ℕ). ShowsRow (Answered preds names ds g.0 g.1) 0 l) (sym printed.spelled) (rows_of_answer preds names ds g.0 g.1) in
    let whole = whole_text (Answered preds names ds g.0 g.1) text shown in
    let r = reply_is preds names ds g.0 g.1 text whole.0 whole.2 in
    told preds ds text whole.0 r.0 g.0 r.1 whole.1 r.2
