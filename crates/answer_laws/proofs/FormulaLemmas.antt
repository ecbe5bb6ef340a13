-- The definitions that a text spells are formulas over the arguments of their predicates.
use Rattle.std.proofs.Common.{◌≡◌, ℕ, ◌+◌, List, [], ◌∷◌, ◌++◌, length, map, Bool, true, false, not, refl, sym, ap, subst, ◌∙◌, arith, append-nil, append_assoc, codes}
use Rattle.std.proofs.lemmas.Bool.Decides.{nat_tests}
use Rattle.std.proofs.lemmas.List.{map-append}
use Rattle.std.specs.Prelude.{Option, None, Some, Result, Ok, Err, nat_eq, if◌then◌else◌}
use Rattle.std.specs.List.{AllByRecursion}
use Rattle.sexp_read.specs.declared.tree.Tree.{Tree, Leaf, List', items-the_row-Tree, items_hidden-the_row-Tree-0}
use Rattle.sexp_read.specs.declared.tree.TextStop.{TextStop}
use Rattle.sexp_read.specs.Trees.{IsTree, leaf, list, AreTrees, none as no_trees, more as more_trees}
use Rattle.term_tree.specs.declared.sort.Sort.{Sort}
use Rattle.term_tree.specs.declared.sort.Sort.TheVariants.{Bool as BoolSort}
use Rattle.term_tree.specs.declared.script.Name.{Name}
use Rattle.term_tree.specs.declared.script.Pred.{Pred}
use Rattle.term_check.specs.Spelling.{is_word, items_of, name_of, sorts_of, start_of}
use Rattle.term_check.specs.Formula.{spelled_formula}
use Rattle.answer_text.specs.Reading.{◌>>=◌, provided, said_by, names_sort, is_new, parameter_of, parameter, parameters_from, read_parameters, Defined, defined, is_defined, definition_by, definition_of, definition, definitions_from, definition_for, and_then, in_order, Reply, complete, model_listed, derivation, claim, evidence, unless_at, behind, answer_behind, reply, pred}
use Rattle.answer_text.specs.Reading.Reply.{model, refutation}

bound : {A B : Type 0} (r : Result A ℕ) (f : A → Result B ℕ) (b : B) → (r >>= f) ≡ Ok b → (a : A) × (r ≡ Ok a) × (f a ≡ Ok b)
bound (Ok a) f b h = (a, refl, h)
bound (Err offset) f b h = absurd (cc)

kept : {A : Type 0} (holds : Bool) (offset : ℕ) (later : Result A ℕ) (a : A) → provided holds offset later ≡ Ok a → (holds ≡ true) × (later ≡ Ok a)
kept true offset later a h = (refl, h)
kept false offset later a h = absurd (cc)

-- a parameter has the sort that is asked
parameter_sort : (text : List ℕ) (before : List (Name × Sort)) (sort : Sort) (tree : Tree) (p : Name × Sort) → parameter text before sort tree ≡ Ok p → p.1 ≡ sort
parameter_sort text before sort (Leaf kind start end) p h = absurd (cc)
parameter_sort text before sort (List' shape row start end) p h = by (items-the_row-Tree _ row) h
  where
    by : (parts : List Tree) → parameter_of text before sort start parts ≡ Ok p → p.1 ≡ sort
    by [] e = absurd (cc)
    by (name ∷ []) e = absurd (cc)
    by (name ∷ word ∷ []) e =
        let a = bound (said_by name (name_of text name)) _ p e in
        let b = kept (is_new before a.0) (start_of name) _ p a.2 in
        let c = kept (names_sort text word sort) (start_of word) _ p b.1 in
        let same = c.1 in cc
    by (name ∷ word ∷ more ∷ parts) e = absurd (cc)

sorts_read : (text : List ℕ) (before : List (Name × Sort)) (trees : List Tree) (sorts : List Sort) (ps : List (Name × Sort)) → length trees ≡ length sorts
    → parameters_from text before trees sorts ≡ Ok ps → map (λ p. p.1) ps ≡ map (λ p. p.1) before ++ sorts
sorts_read text before [] [] ps many h =
    let same : before ≡ ps = cc in ap (λ (l : List (Name × Sort)). map (λ p. p.1) l) (sym same) ∙ sym (append-nil (map (λ p. p.1) before))
sorts_read text before [] (sort ∷ sorts) ps many h = absurd (omega (arith, many))
sorts_read text before (tree ∷ trees) [] ps many h = absurd (omega (arith, many))
sorts_read text before (tree ∷ trees) (sort ∷ sorts) ps many h =
    let one = bound (parameter text before sort tree) (λ p. parameters_from text (before ++ p ∷ []) trees sorts) ps h in
    let p = one.0 in
    let rest = sorts_read text (before ++ p ∷ []) trees sorts ps (omega (arith, many)) one.2 in
    rest ∙ ap (λ (l : List Sort). l ++ sorts) (map-append (λ (q : Name × Sort). q.1) before (p ∷ [])) ∙ append_assoc (map (λ q. q.1) before) (p.1 ∷ []) sorts
    ∙ ap (λ (s : Sort). map (λ q. q.1) before ++ s ∷ sorts) (parameter_sort text before sort tree p one.1)

same_numbers : (m n : ℕ) → nat_eq m n ≡ true → m ≡ n
same_numbers m n h = grind (arith, nat_tests)

parameters_read : (text : List ℕ) (sorts : List Sort) (tree : Tree) (ps : List (Name × Sort)) → read_parameters text sorts tree ≡ Ok ps → map (λ p. p.1) ps ≡ sorts
parameters_read text sorts (Leaf kind start end) ps h = absurd (cc)
parameters_read text sorts (List' shape row start end) ps h =
    let trees = items-the_row-Tree _ row in
    let both = kept (nat_eq (length trees) (length sorts)) start (parameters_from text [] trees sorts) ps h in
    sorts_read text [] trees sorts ps (same_numbers (length trees) (length sorts) both.0) both.1

-- the tree stands in the text
abbrev pub IsRead : List ℕ → Tree → Type 0
IsRead text tree = (depth : ℕ) × (at : ℕ) × (after : ℕ) × IsTree text depth at tree after

pub all_read : (text : List ℕ) (depth at : ℕ) (trees : List Tree) (after : ℕ) → AreTrees text depth at trees after → AllByRecursion (IsRead text) trees
all_read text _ _ _ _ (no_trees depth at) = tt
all_read text _ _ _ _ (more_trees depth at tree mid trees after t ts) = ((depth, at, mid, t), all_read text depth mid trees after ts)

-- so do those in it
items_read : (text : List ℕ) (depth at : ℕ) (tree : Tree) (after : ℕ) → IsTree text depth at tree after → AllByRecursion (IsRead text) (items_of tree)
items_read text _ _ _ _ (leaf depth at kind start end is) = tt
items_read text _ _ _ _ (list depth at start items inner close opens below within closes) =
    subst (AllByRecursion (IsRead text)) (sym (items_hidden-the_row-Tree-0 items)) (all_read text (depth + 1) (start + 1) items inner within)

inner_read : (text : List ℕ) (tree : Tree) → IsRead text tree → AllByRecursion (IsRead text) (items_of tree)
inner_read text tree r = items_read text r.0 r.1 tree r.2 r.3

-- the parameters have the sorts of the predicate's arguments, and the body is a formula over them, of a tree in the text
pub record IsRight (text : List ℕ) (preds : List Pred) (d : Defined) : Type 0 where
  pub tree : Tree
  pub reads : IsRead text tree
  pub sorts : map (λ p. p.1) d.params ≡ sorts_of preds d.pred
  pub body : spelled_formula text d.params tree ≡ Ok d.body

module _ (text : List ℕ) (preds : List Pred) where
  defined_right : (number : ℕ) (params sort term : Tree) (d : Defined) → IsRead text term → defined text preds number params sort term ≡ Ok d → IsRight text preds d
  defined_right number params sort term d reads h =
      let a = bound (read_parameters text (sorts_of preds number) params) _ d h in
      let ps = a.0 in
      let b = kept (names_sort text sort BoolSort) (start_of sort) _ d a.2 in
      let c = bound (spelled_formula text ps term) (λ body. Ok (record { pred = number; params = ps; body = body })) d b.1 in
      let made : Defined = record { pred = number; params = ps; body = c.0 } in
      let same : made ≡ d = cc in
      let right : IsRight text preds made = record { tree = term; reads = reads; sorts = parameters_read text (sorts_of preds number) params ps a.1; body = c.1 } in
      subst (IsRight text preds) same right

  definition_right : (before : List Defined) (tree : Tree) (d : Defined) → IsRead text tree → definition text preds before tree ≡ Ok d → IsRight text preds d
  definition_right before (Leaf kind start end) d reads h = absurd (cc)
  definition_right before (List' shape row start end) d reads h = by (items-the_row-Tree _ row) (inner_read text (List' shape row start end) reads) h
    where
      by : (parts : List Tree) → AllByRecursion (IsRead text) parts → definition_of text preds before start parts ≡ Ok d → IsRight text preds d
      by [] rs e = absurd (cc)
      by (word ∷ []) rs e = absurd (cc)
      by (word ∷ name ∷ []) rs e = absurd (cc)
      by (word ∷ name ∷ params ∷ []) rs e = absurd (cc)
      by (word ∷ name ∷ params ∷ sort ∷ []) rs e = absurd (cc)
      by (word ∷ name ∷ params ∷ sort ∷ term ∷ []) rs e =
          let a = kept (is_word text word (codes "define-fun")) start (definition_by text preds before start name params sort term) d e in
          let b = bound (pred text preds name) _ d a.1 in
          let c = kept (not (is_defined before b.0)) start (defined text preds b.0 params sort term) d b.2 in
          defined_right b.0 params sort term d rs.1.1.1.1.0 c.1
      by (word ∷ name ∷ params ∷ sort ∷ term ∷ more ∷ parts) rs e = absurd (cc)

  one_more_right : (ds : List Defined) (d : Defined) → AllByRecursion (IsRight text preds) ds → IsRight text preds d → AllByRecursion (IsRight text preds) (ds ++ d ∷ [])
  one_more_right [] d all right = (right, tt)
  one_more_right (e ∷ ds) d all right = (all.0, one_more_right ds d all.1 right)

  all_right : (before : List Defined) (trees : List Tree) (ds : List Defined) → AllByRecursion (IsRead text) trees → AllByRecursion (IsRight text preds) before
      → definitions_from text preds before trees ≡ Ok ds → AllByRecursion (IsRight text preds) ds
  all_right before [] ds reads all h = let same : before ≡ ds = cc in subst (AllByRecursion (IsRight text preds)) same all
  all_right before (tree ∷ trees) ds reads all h =
      let one = bound (definition text preds before tree) (λ d. definitions_from text preds (before ++ d ∷ []) trees) ds h in
      all_right (before ++ one.0 ∷ []) trees ds reads.1 (one_more_right before one.0 all (definition_right before tree one.0 reads.0 one.1)) one.2

  -- those of the predicates in order, of which the first has this number
  abbrev pub AreRight : ℕ → List Pred → List Defined → Type 0
  AreRight number [] [] = Unit {0}
  AreRight number (p ∷ ps) (d ∷ ds) = (d.pred ≡ number) × IsRight text preds d × AreRight (number + 1) ps ds
  AreRight number [] (d ∷ ds) = ⊥
  AreRight number (p ∷ ps) [] = ⊥

  this_right : (number : ℕ) (e d : Defined) (later : Option Defined) (t : Bool) → nat_eq e.pred number ≡ t → IsRight text preds e → (later ≡ Some d → (d.pred ≡ number) × IsRight text preds d)
      → (if t then Some e else later) ≡ Some d → (d.pred ≡ number) × IsRight text preds d
  this_right number e d later true is right rest k = let same : e ≡ d = cc in subst (λ (x : Defined). (x.pred ≡ number) × IsRight text preds x) same (same_numbers e.pred number is, right)
  this_right number e d later false is right rest k = rest k

  found_right : (number : ℕ) (ds : List Defined) (d : Defined) → AllByRecursion (IsRight text preds) ds → definition_for number ds ≡ Some d → (d.pred ≡ number) × IsRight text preds d
  found_right number [] d all h = absurd (cc)
  found_right number (e ∷ ds) d all h = this_right number e d (definition_for number ds) (nat_eq e.pred number) refl all.0 (λ k. found_right number ds d all.1 k) h

  one_right : (number : ℕ) (p : Pred) (ps : List Pred) (ds rs : List Defined) (o : Option Defined) (later : Option (List Defined)) → AllByRecursion (IsRight text preds) ds → definition_for number ds ≡ o
      → ((more : List Defined) → later ≡ Some more → AreRight (number + 1) ps more) → and_then o later ≡ Some rs → AreRight number (p ∷ ps) rs
  one_right number p ps ds rs (Some d) (Some more) all is rest k =
      let same : d ∷ more ≡ rs = cc in
      let first = found_right number ds d all is in
      subst (AreRight number (p ∷ ps)) same (first.0, first.1, rest more refl)
  one_right number p ps ds rs None later all is rest k = absurd (cc)
  one_right number p ps ds rs (Some d) None all is rest k = absurd (cc)

  in_order_right : (ds : List Defined) (number : ℕ) (ps : List Pred) (rs : List Defined) → AllByRecursion (IsRight text preds) ds → in_order ds number ps ≡ Some rs → AreRight number ps rs
  in_order_right ds number [] rs all h = let same : [] ≡ rs = cc in subst (AreRight number []) same tt
  in_order_right ds number (p ∷ ps) rs all h =
      one_right number p ps ds rs (definition_for number ds) (in_order ds (number + 1) ps) all refl (λ more is. in_order_right ds (number + 1) ps more all is) h

  listed_right : (start : ℕ) (trees : List Tree) (rs : List Defined) → AllByRecursion (IsRead text) trees → model_listed text preds start trees ≡ Ok (model rs) → AreRight 0 preds rs
  listed_right start trees rs reads h =
      let a = bound (definitions_from text preds [] trees) (λ ds. complete start (in_order ds 0 preds)) (model rs) h in
      by a.0 (all_right [] trees a.0 reads tt a.1) (in_order a.0 0 preds) refl a.2
    where
      by : (ds : List Defined) → AllByRecursion (IsRight text preds) ds → (o : Option (List Defined)) → in_order ds 0 preds ≡ o → complete start o ≡ Ok (model rs) → AreRight 0 preds rs
      by ds all None is k = absurd (cc)
      by ds all (Some qs) is k = let same : qs ≡ rs = cc in subst (AreRight 0 preds) same (in_order_right ds 0 preds qs all is)

  evidence_right : (sat : Bool) (tree : Tree) (rs : List Defined) → IsRead text tree → evidence text preds sat tree ≡ Ok (model rs) → AreRight 0 preds rs
  evidence_right true (Leaf kind start end) rs reads h = absurd (cc)
  evidence_right true (List' shape row start end) rs reads h = listed_right start (items-the_row-Tree _ row) rs (inner_read text (List' shape row start end) reads) h
  evidence_right false tree rs reads h = let a = bound (derivation text preds tree) (λ lines. Ok (refutation lines)) (model rs) h in let broken = a.2 in absurd (cc)

  whole : (o : Option ℕ) (r : Reply) (rs : List Defined) → unless_at o r ≡ Ok (model rs) → r ≡ model rs
  whole None r rs h = cc
  whole (Some offset) r rs h = absurd (cc)

  -- a text that is read as a model is read as right definitions
  pub reply_right : (stop : Option TextStop) (trees : List Tree) (rs : List Defined) → AllByRecursion (IsRead text) trees → reply text stop preds trees ≡ Ok (model rs) → AreRight 0 preds rs
  reply_right stop [] rs reads h = absurd (cc)
  reply_right stop (tree ∷ []) rs reads h = let a = bound (said_by tree (claim text tree)) (λ sat. answer_behind text stop preds sat []) (model rs) h in let broken = a.2 in absurd (cc)
  reply_right stop (tree ∷ second ∷ trees) rs reads h =
      let a = bound (said_by tree (claim text tree)) (λ sat. answer_behind text stop preds sat (second ∷ trees)) (model rs) h in
      let b = bound (evidence text preds a.0 second) (unless_at (behind text stop trees)) (model rs) a.2 in
      evidence_right a.0 second rs reads.1.0 (b.1 ∙ ap Ok (whole (behind text stop trees) b.0 rs b.2))
