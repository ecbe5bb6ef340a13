-- What a printed derivation says as trees: its very steps.
use Rattle.std.proofs.Common.{ℕ, zero, suc, ◌≡◌, ◌+◌, ◌<◌, List, [], ◌∷◌, ◌++◌, length, true, false, cond, not, ◌&&◌, Option, Some, None, Result, Ok, refl, sym, ap, subst, ◌∙◌, arith, append_assoc, codes, decimal, nat_eq, slice_get, bytes_eq, flat_map, if◌then◌else◌}
use Rattle.std.specs.List.{AllByRecursion}
use Rattle.sexp_read.specs.declared.tree.LeafKind.{LeafKind}
use Rattle.sexp_read.specs.declared.tree.LeafKind.TheVariants.{Symbol}
use Rattle.sexp_read.specs.declared.tree.Tree.{Tree, items_hidden-the_row-Tree-0}
use Rattle.sexp_read.specs.declared.tree.Tree.TheVariants.{Leaf as LeafTree}
use Rattle.sexp_read.specs.Trees.{most_open}
use Rattle.term_tree.specs.declared.scalar.Value.{Value}
use Rattle.term_tree.specs.declared.script.Pred.{Pred}
use Rattle.term_check.specs.Spelling.{is_symbol, pred_from, sorts_of}
use Rattle.answer_text.specs.declared.answer.Line.{Line}
use Rattle.answer_text.specs.declared.answer.Answer.TheVariants.{Unsat}
use Rattle.answer_text.specs.Names.{name_text, value_text, after_spaces, spaced}
use Rattle.answer_text.specs.AnswerTexts.{declared_name, pred_text, atom_text, conclusion_text, step_text, answer_text}
use Rattle.answer_text.specs.Printable.{IsShort, IsShortValue, IsConclusion, IsPrintableStep, IsAnswerText}
use Rattle.answer_text.specs.ReadBack.{is_quotable, AreNames}
use Rattle.answer_text.specs.Reading.{◌>>=◌, provided, said_by, in_list, read_each, read_numeral, value, declared_by, pred, arity, bare, with_values, read_applied, atom, conclusion, step_of, step, derivation_of, derivation, claim, evidence, unless_at, reply}
use Rattle.answer_text.specs.Reading.Reply.{refutation}
use Rattle.answer_text.specs.Read.{Spells}
use Rattle.answer_text.proofs.ShowLemmas.{Shows, ShowsRow, FirstAnd, Within, IsLeaf, shows_same, row_same, row_none, row_more, row_behind, shows_list, whole_text}
use Rattle.answer_text.proofs.SpellLemmas.{Only, row_last, row_spaced, shows_symbol, symbol_is, shows_number, shows_value, IsNamed, shows_name, named_is, AreRead, read_none, read_more, rows_after, rows_spaced, list_is}

-- Pieces joined.

step_pieces : (s k b a p vs q ps r h e : List ℕ) → ((((s ++ k) ++ b) ++ a) ++ ((((p ++ vs) ++ q) ++ ps) ++ r)) ++ h ++ e ≡ s ++ (k ++ (b ++ (a ++ (p ++ (vs ++ (q ++ (ps ++ (r ++ (h ++ e)))))))))
step_pieces s k b a p vs q ps r h e = simp append_assoc

list_pieces : (o w b k a vs c ps h n : List ℕ)
    → (o ++ (w ++ (b ++ (k ++ (b ++ (a ++ (b ++ ((o ++ vs ++ c) ++ (b ++ ((o ++ ps ++ c) ++ (b ++ h)))))))))) ++ c) ++ n
    ≡ o ++ (w ++ (b ++ (k ++ (b ++ (a ++ (b ++ (o ++ (vs ++ (c ++ (b ++ (o ++ (ps ++ (c ++ (b ++ (h ++ (c ++ n))))))))))))))))
list_pieces o w b k a vs c ps h n = simp append_assoc

answer_pieces : (s l c n : List ℕ) → s ++ l ++ (c ++ n) ≡ s ++ l ++ c ++ n
answer_pieces s l c n = sym (append_assoc (s ++ l) c n)

-- Predicates by number.

pub there : {X : Type 0} (xs : List X) (n : ℕ) → n < length xs → (x : X) × (slice_get xs n ≡ Some x)
there [] n h = absurd (omega arith)
there (x ∷ xs) zero h = (x, refl)
there (x ∷ xs) (suc n) h = there xs n (omega arith)

pub got : {X : Type 0} (P : X → Type 0) (xs : List X) (n : ℕ) (x : X) → AllByRecursion P xs → slice_get xs n ≡ Some x → P x
got P [] n x all is = absurd (cc)
got P (y ∷ xs) zero x all is = let same : y ≡ x = cc in subst P same all.0
got P (y ∷ xs) (suc n) x all is = got P xs n x all.1 is

pub same_number : (n : ℕ) → nat_eq n n ≡ true
same_number n = grind arith

not_nought : (n : ℕ) → nat_eq (suc n) 0 ≡ false
not_nought n = grind arith

module _ (preds : List Pred) (names : AreNames preds) where
  -- the printed name of a predicate is read as its number
  abbrev pub IsPred : ℕ → List ℕ → Tree → Type 0
  IsPred n text tree = (kind : LeafKind) × (start : ℕ) × (end : ℕ) × (tree ≡ LeafTree kind start end) × (pred text preds tree ≡ Ok n) × (is_symbol text tree (codes "false") ≡ false)

  pub shows_pred : (depth n : ℕ) → n < length preds → Shows (IsPred n) depth (pred_text preds n)
  shows_pred depth n within =
      let p = there preds n within in
      let name : List ℕ = p.0.name.bytes in
      subst (λ (o : Option Pred). Shows (IsPred n) depth (name_text (declared_name o))) (sym p.1)
      (shows_same (IsNamed name) (IsPred n) depth (name_text name)
      (λ text tree named. (
        named.0,
        named.1,
        named.2,
        named.3,
        ap (λ o. said_by tree (declared_by preds o)) named.4 ∙ ap (said_by tree) (names.differ n p.0 p.1),
        named_is name (codes "false") text tree named ∙ got (λ q. bytes_eq q.name.bytes (codes "false") ≡ false) preds n p.0 names.free p.1,
      ))
      (shows_name depth name (got (λ q. is_quotable q.name.bytes ≡ true) preds n p.0 names.symbols p.1)))

  -- Conclusions.

  abbrev IsHead : Option (ℕ × List Value) → List ℕ → Tree → Type 0
  IsHead head text tree = conclusion text preds tree ≡ Ok head

  bare_head : (n : ℕ) (text : List ℕ) (tree : Tree) → sorts_of preds n ≡ [] → IsPred n text tree → IsHead (Some (n, [])) text tree
  bare_head n text tree none p =
      let named : declared_by preds (Rattle.term_check.specs.Spelling.name_of text tree) ≡ Some n = said tree _ n p.4 in
      let one : atom text preds tree ≡ Ok (n, []) =
      ap (atom text preds) p.3
      ∙ ap (λ o. said_by (LeafTree p.0 p.1 p.2) (bare preds o)) (ap (λ (t : Tree). declared_by preds (Rattle.term_check.specs.Spelling.name_of text t)) (sym p.3) ∙ named)
      ∙ ap (λ (l : List _). said_by (LeafTree p.0 p.1 p.2) (if nat_eq (length l) 0 then Some (n, []) else None)) none in
      ap (λ t. cond t (Ok None) (atom text preds tree >>= λ head. Ok (Some head))) p.5 ∙ ap (λ (r : Result (ℕ × List Value) ℕ). r >>= λ head. Ok (Some head)) one
    where
      said : (tree : Tree) (o : Option ℕ) (n : ℕ) → said_by tree o ≡ Ok n → o ≡ Some n
      said tree None n h = absurd (cc)
      said tree (Some k) n h = let same : k ≡ n = cc in ap Some same

  abbrev Applied : ℕ → List Value → List ℕ → List Tree → Type 0
  Applied n values = FirstAnd (IsPred n) (AreRead value values)

  applied_head : (n : ℕ) (v : Value) (values : List Value) (text : List ℕ) (tree : Tree) → length (sorts_of preds n) ≡ length (v ∷ values) → Within (Applied n (v ∷ values)) text tree
      → IsHead (Some (n, v ∷ values)) text tree
  applied_head n v values text tree many (items, start, end, is, (first, others, all, p, (read, counted))) =
      let fits : with_values preds n (length others) ≡ true =
      ap (λ (k : ℕ). not (nat_eq k 0) && nat_eq k (arity preds n)) counted
      ∙ ap (λ b. not b && nat_eq (length (v ∷ values)) (arity preds n)) (not_nought (length values)) ∙ ap (λ (k : ℕ). nat_eq (length (v ∷ values)) k) many ∙ same_number (length (v ∷ values)) in
      let one : read_applied text preds start (first ∷ others) ≡ Ok (n, v ∷ values) =
      ap (λ (r : Result ℕ ℕ). r >>= λ k. provided (with_values preds k (length others)) start (read_each (value text) [] others >>= λ vs. Ok (k, vs))) p.4
      ∙ ap (λ b. provided b start (read_each (value text) [] others >>= λ vs. Ok (n, vs))) fits
      ∙ ap (λ (r : Result (List Value) ℕ). r >>= λ vs. Ok (n, vs)) (read []) in
      ap (conclusion text preds) is
      ∙ ap (λ (r : Result (ℕ × List Value) ℕ). r >>= λ head. Ok (Some head)) (ap (read_applied text preds start) (items_hidden-the_row-Tree-0 items ∙ all) ∙ one)

  shows_atom : (depth n : ℕ) (values : List Value) → depth + 1 < most_open → IsConclusion preds (Some (n, values)) → Shows (IsHead (Some (n, values))) depth (atom_text (pred_text preds n) values)
  shows_atom depth n [] below h =
      shows_same (IsPred n) (IsHead (Some (n, []))) depth (pred_text preds n) (λ text tree p. bare_head n text tree (empty (sorts_of preds n) (sym h.1)) p) (shows_pred depth n h.0)
    where
      empty : {X : Type 0} (l : List X) → length l ≡ 0 → l ≡ []
      empty [] e = refl
      empty (x ∷ l) e = absurd (omega (arith, e))
  shows_atom depth n (v ∷ values) below h =
      let many : length (sorts_of preds n) ≡ length (v ∷ values) = sym h.1 in
      let row = rows_after value value_text IsShortValue (depth + 1) (λ w small. shows_value (depth + 1) w below small) (v ∷ values) h.2 in
      shows_same (Within (Applied n (v ∷ values))) (IsHead (Some (n, v ∷ values))) depth (atom_text (pred_text preds n) (v ∷ values)) (λ text tree w. applied_head n v values text tree many w)
      (subst (λ (l : List ℕ). Shows (Within (Applied n (v ∷ values))) depth l) (sym (ap (λ (l : List ℕ). l ++ codes ")") (append_assoc (codes "(") (pred_text preds n) (after_spaces value_text (v ∷ values)))))
      (shows_list (Applied n (v ∷ values)) depth (pred_text preds n ++ after_spaces value_text (v ∷ values)) (omega (arith, below))
      (row_more (IsPred n) (AreRead value (v ∷ values)) (depth + 1) (pred_text preds n) (after_spaces value_text (v ∷ values)) (shows_pred (depth + 1) n h.0) refl row)))

  shows_conclusion : (depth : ℕ) (head : Option (ℕ × List Value)) → depth + 1 < most_open → IsConclusion preds head → Shows (IsHead head) depth (conclusion_text preds head)
  shows_conclusion depth None below h =
      shows_same (IsLeaf Symbol (codes "false")) (IsHead None) depth (codes "false")
      (λ text tree leaf. ap (λ t. cond t (Ok None) (atom text preds tree >>= λ head. Ok (Some head))) (symbol_is (codes "false") (codes "false") text tree leaf)) (shows_symbol depth 102 (codes "alse") refl refl)
  shows_conclusion depth (Some (n, values)) below h = shows_atom depth n values below h

  -- Steps.

  module _ (line : Line) (is : IsPrintableStep preds line) where
    abbrev Values : List ℕ → Tree → Type 0
    Values = Within (AreRead value line.values)

    abbrev Premises : List ℕ → Tree → Type 0
    Premises = Within (AreRead read_numeral line.premises)

    abbrev Parts : List ℕ → List Tree → Type 0
    Parts = FirstAnd (IsLeaf Symbol (codes "step")) (FirstAnd (λ text tree. read_numeral text tree ≡ Ok line.number) (FirstAnd (λ text tree. read_numeral text tree ≡ Ok line.assertion)
        (FirstAnd Values (FirstAnd Premises (Only (IsHead line.head))))))

    abbrev values_list : List ℕ
    values_list = codes "(" ++ spaced value_text line.values ++ codes ")"

    abbrev premises_list : List ℕ
    premises_list = codes "(" ++ spaced decimal line.premises ++ codes ")"

    abbrev step_row : List ℕ
    step_row =
        codes "step" ++ (codes " " ++ (decimal line.number ++ (codes " " ++ (decimal line.assertion ++ (codes " " ++ (values_list ++ (codes " " ++ (premises_list ++ (codes " " ++ conclusion_text preds line.head)))))))))

    row_of_step : ShowsRow Parts 2 step_row
    row_of_step =
        row_spaced _ _ 2 (codes "step") _ (shows_symbol 2 115 (codes "tep") refl refl)
        (row_spaced _ _ 2 (decimal line.number) _ (shows_number 2 line.number is.number)
        (row_spaced _ _ 2 (decimal line.assertion) _ (shows_number 2 line.assertion is.assertion)
        (row_spaced _ _ 2 values_list _ (shows_list (AreRead value line.values) 2 (spaced value_text line.values) (omega arith)
        (rows_spaced value value_text IsShortValue 3 (λ v small. shows_value 3 v (omega arith) small) line.values is.values))
        (row_spaced _ _ 2 premises_list _ (shows_list (AreRead read_numeral line.premises) 2 (spaced decimal line.premises) (omega arith)
        (rows_spaced read_numeral decimal IsShort 3 (λ n small. shows_number 3 n small) line.premises is.premises))
        (row_last (IsHead line.head) 2 (conclusion_text preds line.head) (shows_conclusion 2 line.head (omega arith) is.conclusion))))))

    step_is : (text : List ℕ) (tree : Tree) → Within Parts text tree → step text preds tree ≡ Ok line
    step_is text tree (items, start, end, at, (word, r1, e1, w, (t2, r2, e2, k, (t3, r3, e3, a, (t4, r4, e4, vs, (t5, r5, e5, ps, (t6, r6, e6, h, last))))))) =
        let row : items ≡ word ∷ t2 ∷ t3 ∷ t4 ∷ t5 ∷ t6 ∷ [] = cc in
        ap (λ (t : Tree). step text preds t) at ∙ ap (step_of text preds start) (items_hidden-the_row-Tree-0 items ∙ row)
        ∙ ap (λ b. provided b start (read_numeral text t2 >>= λ k. read_numeral text t3 >>= λ a. in_list (read_each (value text) []) t4 >>= λ vs. in_list (read_each (read_numeral text) []) t5 >>= λ ps. conclusion text preds t6 >>= λ h.
        Ok (record { number = k; assertion = a; values = vs; premises = ps; head = h }))) (symbol_is (codes "step") (codes "step") text word w)
        ∙ ap (λ (r : Result ℕ ℕ). r >>= λ k. read_numeral text t3 >>= λ a. in_list (read_each (value text) []) t4 >>= λ vs. in_list (read_each (read_numeral text) []) t5 >>= λ ps. conclusion text preds t6 >>= λ h.
        Ok (record { number = k; assertion = a; values = vs; premises = ps; head = h })) k
        ∙ ap (λ (r : Result ℕ ℕ). r >>= λ a. in_list (read_each (value text) []) t4 >>= λ vs. in_list (read_each (read_numeral text) []) t5 >>= λ ps. conclusion text preds t6 >>= λ h.
        Ok (record { number = line.number; assertion = a; values = vs; premises = ps; head = h })) a
        ∙ ap (λ (r : Result (List Value) ℕ). r >>= λ vs. in_list (read_each (read_numeral text) []) t5 >>= λ ps. conclusion text preds t6 >>= λ h.
        Ok (record { number = line.number; assertion = line.assertion; values = vs; premises = ps; head = h })) (list_is value line.values text t4 vs)
        ∙ ap (λ (r : Result (List ℕ) ℕ). r >>= λ ps. conclusion text preds t6 >>= λ h.
        Ok (record { number = line.number; assertion = line.assertion; values = line.values; premises = ps; head = h })) (list_is read_numeral line.premises text t5 ps)
        ∙ ap (λ (r : Result (Option (ℕ × List Value)) ℕ). r >>= λ h. Ok (record { number = line.number; assertion = line.assertion; values = line.values; premises = line.premises; head = h })) h

    pub step_printed : step_text preds line ≡ (codes "(" ++ step_row ++ codes ")") ++ codes "\n"
    step_printed =
        step_pieces (codes "(step ") (decimal line.number) (codes " ") (decimal line.assertion) (codes " (") (spaced value_text line.values) (codes ") (") (spaced decimal line.premises) (codes ") ")
        (conclusion_text preds line.head) (codes ")\n")
        ∙ sym (list_pieces (codes "(") (codes "step") (codes " ") (decimal line.number) (decimal line.assertion) (spaced value_text line.values) (codes ")") (spaced decimal line.premises)
        (conclusion_text preds line.head) (codes "\n"))

    pub shows_step : Shows (λ text tree. step text preds tree ≡ Ok line) 1 (codes "(" ++ step_row ++ codes ")")
    shows_step = shows_same (Within Parts) (λ text tree. step text preds tree ≡ Ok line) 1 (codes "(" ++ step_row ++ codes ")") step_is (shows_list Parts 1 step_row (omega arith) row_of_step)

  -- Derivations.

  abbrev Steps : List Line → List ℕ → List Tree → Type 0
  Steps lines = AreRead (λ text tree. step text preds tree) lines

  rows_of_steps : (lines : List Line) → AllByRecursion (IsPrintableStep preds) lines → ShowsRow (Steps lines) 1 (flat_map (step_text preds) lines)
  rows_of_steps [] all = row_none (Steps []) 1 (read_none (λ text tree. step text preds tree))
  rows_of_steps (line ∷ lines) all =
      let body : List ℕ = codes "(" ++ step_row line all.0 ++ codes ")" in
      let rest : List ℕ = flat_map (step_text preds) lines in
      let whole : step_text preds line ++ rest ≡ body ++ (codes "\n" ++ rest) = ap (λ (l : List ℕ). l ++ rest) (step_printed line all.0) ∙ append_assoc body (codes "\n") rest in
      subst (λ (l : List ℕ). ShowsRow (Steps (line ∷ lines)) 1 l) (sym whole)
      (row_same (FirstAnd (λ text tree. step text preds tree ≡ Ok line) (Steps lines)) (Steps (line ∷ lines)) 1 (body ++ (codes "\n" ++ rest)) (read_more (λ text tree. step text preds tree) line lines)
      (row_more (λ text tree. step text preds tree ≡ Ok line) (Steps lines) 1 body (codes "\n" ++ rest) (shows_step line all.0) refl (row_behind (Steps lines) 1 (codes "\n") rest refl (rows_of_steps lines all.1))))

  module _ (lines : List Line) (all : AllByRecursion (IsPrintableStep preds) lines) where
    abbrev Derived : List ℕ → List Tree → Type 0
    Derived = FirstAnd (IsLeaf Symbol (codes "derivation")) (Steps lines)

    abbrev printed_steps : List ℕ
    printed_steps = flat_map (step_text preds) lines

    abbrev derivation_row : List ℕ
    derivation_row = codes "derivation" ++ (codes "\n" ++ printed_steps)

    shows_derivation : Shows (Within Derived) 0 (codes "(" ++ derivation_row ++ codes ")")
    shows_derivation =
        shows_list Derived 0 derivation_row (omega arith)
        (row_more (IsLeaf Symbol (codes "derivation")) (Steps lines) 1 (codes "derivation") (codes "\n" ++ printed_steps) (shows_symbol 1 100 (codes "erivation") refl refl) refl
        (row_behind (Steps lines) 1 (codes "\n") printed_steps refl (rows_of_steps lines all)))

    derivation_is : (text : List ℕ) (tree : Tree) → Within Derived text tree → derivation text preds tree ≡ Ok lines
    derivation_is text tree (items, start, end, at, (word, steps, row, w, (read, many))) =
        ap (derivation text preds) at ∙ ap (derivation_of text preds start) (items_hidden-the_row-Tree-0 items ∙ row)
        ∙ ap (λ b. provided b start (read_each (step text preds) [] steps)) (symbol_is (codes "derivation") (codes "derivation") text word w) ∙ read []

    abbrev Answered : List ℕ → List Tree → Type 0
    Answered = FirstAnd (IsLeaf Symbol (codes "unsat")) (Only (Within Derived))

    rows_of_answer : ShowsRow Answered 0 (answer_text preds (Unsat lines))
    rows_of_answer =
        let tree : List ℕ = codes "(" ++ derivation_row ++ codes ")" in
        let whole : answer_text preds (Unsat lines) ≡ codes "unsat" ++ (codes "\n" ++ (tree ++ codes "\n")) =
        answer_pieces (codes "unsat\n(derivation\n") printed_steps (codes ")") (codes "\n") in
        subst (λ (l : List ℕ). ShowsRow Answered 0 l) (sym whole)
        (row_more (IsLeaf Symbol (codes "unsat")) (Only (Within Derived)) 0 (codes "unsat") (codes "\n" ++ (tree ++ codes "\n")) (shows_symbol 0 117 (codes "nsat") refl refl) refl
        (row_behind (Only (Within Derived)) 0 (codes "\n") (tree ++ codes "\n") refl
        (row_more (Within Derived) (λ text trees. trees ≡ []) 0 tree (codes "\n") shows_derivation refl
        (row_behind (λ text trees. trees ≡ []) 0 (codes "\n") [] refl (row_none (λ text trees. trees ≡ []) 0 (λ text. refl))))))

    reply_is : (text : List ℕ) (trees : List Tree) → Answered text trees → reply text None preds trees ≡ Ok (refutation lines)
    reply_is text trees (first, others, row, w, (tree, rest, only, d, last)) =
        let two : trees ≡ first ∷ tree ∷ [] = row ∙ ap (λ (l : List Tree). first ∷ l) (only ∙ ap (λ (l : List Tree). tree ∷ l) last) in
        let claimed : claim text first ≡ Some false =
        ap (λ b. cond b (Some true) (cond (is_symbol text first (codes "unsat")) (Some false) None)) (symbol_is (codes "unsat") (codes "sat") text first w)
        ∙ ap (λ b. cond b (Some false) None) (symbol_is (codes "unsat") (codes "unsat") text first w) in
        ap (reply text None preds) two
        ∙ ap (λ o. said_by first o >>= λ sat. evidence text preds sat tree >>= unless_at None) claimed
        ∙ ap (λ (r : Result (List Line) ℕ). (r >>= λ ls. Ok (refutation ls)) >>= unless_at None) (derivation_is text tree d)

  pub read_back : (lines : List Line) (text : List ℕ) → IsAnswerText preds (Unsat lines) text → Spells preds text (Unsat lines)
  read_back lines text printed =
      let shown = subst (λ (l : List ℕ). ShowsRow (Answered lines printed.printable) 0 l) (sym printed.spelled) (rows_of_answer lines printed.printable) in
      let r = whole_text (Answered lines printed.printable) text shown in
      record { trees = r.0; stop = None; reading = r.1; claimed = refutation lines; spelled = reply_is lines printed.printable text r.0 r.2; is = refl }
