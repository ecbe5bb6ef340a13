-- Which trees a piece of a text is, wherever it stands, and what they say.
use Rattle.std.proofs.Common.{ℕ, ◌≡◌, ◌+◌, ◌-◌, ◌<◌, List, [], ◌∷◌, ◌++◌, length, drop, true, Some, None, refl, sym, ap, subst, ◌∙◌, arith, append_assoc, append-nil, codes, length-append}
use Rattle.std.specs.List.{list_all}
use Rattle.base.specs.Bytes.{is_symbol_byte, is_white}
use Rattle.sexp_read.specs.declared.tree.LeafKind.{LeafKind}
use Rattle.sexp_read.specs.declared.tree.LeafKind.TheVariants.{Quoted}
use Rattle.sexp_read.specs.declared.tree.Tree.{Tree}
use Rattle.sexp_read.specs.declared.tree.Tree.TheViews.{List as ListTree}
use Rattle.sexp_read.specs.declared.tree.Tree.TheVariants.{Leaf as LeafTree}
use Rattle.sexp_read.specs.declared.token.Token.TheVariants as token
use Rattle.sexp_read.specs.Leaves.{between, inner}
use Rattle.sexp_read.specs.Lexicon.{word_kind, next_token}
use Rattle.sexp_read.specs.Trees.{most_open, IsTree, AreTrees, leaf, list, none, more, ended, IsReading}
use Rattle.answer_text.proofs.PieceLemmas.{ends_word, is_plain, ends_more, past, cut, opens, closes, at_end, gap_skipped, word_token, quoted_token}

-- wherever the piece stands before no symbol byte, it is a tree of which this is so
abbrev pub Shows : (List ℕ → Tree → Type 0) → ℕ → List ℕ → Type 0
Shows P depth piece =
    (text : List ℕ) (at : ℕ) (rest : List ℕ) → drop at text ≡ piece ++ rest → ends_word rest ≡ true → (tree : Tree) × IsTree text depth at tree (at + length piece) × P text tree

-- the same of trees, one after another, up to white space
abbrev pub ShowsRow : (List ℕ → List Tree → Type 0) → ℕ → List ℕ → Type 0
ShowsRow P depth piece =
    (text : List ℕ) (at : ℕ) (rest : List ℕ) → drop at text ≡ piece ++ rest → ends_word rest ≡ true
    → (trees : List Tree) × (mid : ℕ) × AreTrees text depth at trees mid × (next_token text mid ≡ next_token text (at + length piece)) × P text trees

pub shows_same : (P Q : List ℕ → Tree → Type 0) (depth : ℕ) (piece : List ℕ) → ((text : List ℕ) (tree : Tree) → P text tree → Q text tree) → Shows P depth piece → Shows Q depth piece
shows_same P Q depth piece f s text at rest is ends = let t = s text at rest is ends in (t.0, t.1, f text t.0 t.2)

pub row_same : (P Q : List ℕ → List Tree → Type 0) (depth : ℕ) (piece : List ℕ) → ((text : List ℕ) (trees : List Tree) → P text trees → Q text trees) → ShowsRow P depth piece → ShowsRow Q depth piece
row_same P Q depth piece f s text at rest is ends = let t = s text at rest is ends in (t.0, t.1, t.2, t.3, f text t.0 t.4)

-- Rows.

pub row_none : (P : List ℕ → List Tree → Type 0) (depth : ℕ) → ((text : List ℕ) → P text []) → ShowsRow P depth []
row_none P depth p text at rest is ends = ([], at, none depth at, ap (next_token text) (let e : at ≡ at + 0 = omega arith in e), p text)

-- a first tree, and more of them
abbrev pub FirstAnd : (List ℕ → Tree → Type 0) → (List ℕ → List Tree → Type 0) → List ℕ → List Tree → Type 0
FirstAnd P Q text trees = (first : Tree) × (others : List Tree) × (trees ≡ first ∷ others) × P text first × Q text others

pub row_more : (P : List ℕ → Tree → Type 0) (Q : List ℕ → List Tree → Type 0) (depth : ℕ) (piece others : List ℕ) → Shows P depth piece → ends_word others ≡ true → ShowsRow Q depth others
    → ShowsRow (FirstAnd P Q) depth (piece ++ others)
row_more P Q depth piece others s starts r text at rest is ends =
    let whole : drop at text ≡ piece ++ (others ++ rest) = is ∙ append_assoc piece others rest in
    let first = s text at (others ++ rest) whole (ends_more others rest starts ends) in
    let second = r text (at + length piece) rest (past text piece (others ++ rest) at whole) ends in
    let end : at + length piece + length others ≡ at + length (piece ++ others) = omega (arith, length-append piece others) in
    (first.0 ∷ second.0, second.1, more depth at first.0 (at + length piece) second.0 second.1 first.1 second.2, second.3 ∙ ap (next_token text) end, (first.0, second.0, refl, first.2, second.4))

-- White space in front.

retold : (text : List ℕ) (depth at from : ℕ) (tree : Tree) (after : ℕ) → next_token text at ≡ next_token text from → IsTree text depth from tree after → IsTree text depth at tree after
retold text _ at _ _ _ e (leaf depth from kind start end h) = leaf depth at kind start end (e ∙ h)
retold text _ at _ _ _ e (list depth from start items mid close h below within h') = list depth at start items mid close (e ∙ h) below within h'

row_retold : (text : List ℕ) (depth at from : ℕ) (trees : List Tree) (mid : ℕ) → next_token text at ≡ next_token text from → AreTrees text depth from trees mid
    → (end : ℕ) × AreTrees text depth at trees end × (next_token text end ≡ next_token text mid)
row_retold text _ at _ _ _ e (none depth from) = (at, none depth at, e)
row_retold text _ at _ _ _ e (more depth from tree mid trees after t ts) = (after, more depth at tree mid trees after (retold text depth at from tree mid e t) ts, refl)

pub shows_behind : (P : List ℕ → Tree → Type 0) (depth : ℕ) (gap piece : List ℕ) → list_all is_white gap ≡ true → Shows P depth piece → Shows P depth (gap ++ piece)
shows_behind P depth gap piece white s text at rest is ends =
    let whole : drop at text ≡ gap ++ (piece ++ rest) = is ∙ append_assoc gap piece rest in
    let t = s text (at + length gap) rest (past text gap (piece ++ rest) at whole) ends in
    let end : at + length gap + length piece ≡ at + length (gap ++ piece) = omega (arith, length-append gap piece) in
    (t.0, subst (λ (n : ℕ). IsTree text depth at t.0 n) end (retold text depth at (at + length gap) t.0 (at + length gap + length piece) (gap_skipped text gap (piece ++ rest) at white whole) t.1), t.2)

pub row_behind : (P : List ℕ → List Tree → Type 0) (depth : ℕ) (gap piece : List ℕ) → list_all is_white gap ≡ true → ShowsRow P depth piece → ShowsRow P depth (gap ++ piece)
row_behind P depth gap piece white s text at rest is ends =
    let whole : drop at text ≡ gap ++ (piece ++ rest) = is ∙ append_assoc gap piece rest in
    let t = s text (at + length gap) rest (past text gap (piece ++ rest) at whole) ends in
    let end : at + length gap + length piece ≡ at + length (gap ++ piece) = omega (arith, length-append gap piece) in
    let r = row_retold text depth at (at + length gap) t.0 t.1 (gap_skipped text gap (piece ++ rest) at white whole) t.2 in
    (t.0, r.0, r.1, r.2 ∙ t.3 ∙ ap (next_token text) end, t.4)

-- Lists.

-- a list of trees of which this is so
abbrev pub Within : (List ℕ → List Tree → Type 0) → List ℕ → Tree → Type 0
Within Q text tree = (items : List Tree) × (start : ℕ) × (end : ℕ) × (tree ≡ ListTree items start end) × Q text items

pub shows_list : (Q : List ℕ → List Tree → Type 0) (depth : ℕ) (piece : List ℕ) → depth < most_open → ShowsRow Q (depth + 1) piece → Shows (Within Q) depth (codes "(" ++ piece ++ codes ")")
shows_list Q depth piece below s text at rest is ends =
    let inside : drop (at + 1) text ≡ piece ++ 41 ∷ rest = past text (40 ∷ []) ((piece ++ 41 ∷ []) ++ rest) at is ∙ append_assoc piece (41 ∷ []) rest in
    let r = s text (at + 1) (41 ∷ rest) inside refl in
    let close : ℕ = at + 1 + length piece in
    let closed : next_token text r.1 ≡ token.Close close = r.3 ∙ closes text close rest (past text piece (41 ∷ rest) (at + 1) inside) in
    let tree = list depth at at r.0 r.1 close (opens text at ((piece ++ 41 ∷ []) ++ rest) is) below r.2 closed in
    let end : close + 1 ≡ at + length (40 ∷ (piece ++ 41 ∷ [])) = omega (arith, length-append piece (41 ∷ [])) in
    (ListTree r.0 at (close + 1), subst (λ (n : ℕ). IsTree text depth at (ListTree r.0 at (close + 1)) n) end tree, (r.0, at, close + 1, refl, r.4))

-- Leaves.

-- a leaf of that kind, of these bytes
abbrev pub IsLeaf : LeafKind → List ℕ → List ℕ → Tree → Type 0
IsLeaf kind bytes text tree = (start : ℕ) × (end : ℕ) × (tree ≡ LeafTree kind start end) × (inner text kind start end ≡ bytes)

pub shows_word : (depth : ℕ) (b : ℕ) (bs : List ℕ) (kind : LeafKind) → ((text : List ℕ) (start end : ℕ) → inner text kind start end ≡ between text start end) → list_all is_symbol_byte (b ∷ bs) ≡ true
    → word_kind (b ∷ bs) ≡ Some kind → Shows (IsLeaf kind (b ∷ bs)) depth (b ∷ bs)
shows_word depth b bs kind plain all sort text at rest is ends =
    let end : ℕ = at + length (b ∷ bs) in
    (LeafTree kind at end, leaf depth at kind at end (word_token text at b bs rest kind is all sort ends), (at, end, refl, plain text at end ∙ cut text (b ∷ bs) rest at is))

pub shows_quoted : (depth : ℕ) (name : List ℕ) → list_all is_plain name ≡ true → Shows (IsLeaf Quoted name) depth (codes "|" ++ name ++ codes "|")
shows_quoted depth name all text at rest is ends =
    let whole : drop at text ≡ 124 ∷ (name ++ 124 ∷ rest) = is ∙ ap (λ (l : List ℕ). 124 ∷ l) (append_assoc name (124 ∷ []) rest) in
    let inside : drop (at + 1) text ≡ name ++ 124 ∷ rest = past text (124 ∷ []) (name ++ 124 ∷ rest) at whole in
    let end : ℕ = at + 1 + length name + 1 in
    let long : end ≡ at + length (124 ∷ (name ++ 124 ∷ [])) = omega (arith, length-append name (124 ∷ [])) in
    let bars : end - 1 ≡ at + 1 + length name = omega arith in
    let tree = leaf depth at Quoted at end (quoted_token text at name rest whole all) in (
      LeafTree Quoted at end,
      subst (λ (n : ℕ). IsTree text depth at (LeafTree Quoted at end) n) long tree,
      (at, end, refl, ap (λ (n : ℕ). between text (at + 1) n) bars ∙ cut text name (124 ∷ rest) (at + 1) inside),
    )

-- Whole texts.

pub whole_text : (P : List ℕ → List Tree → Type 0) (text : List ℕ) → ShowsRow P 0 text → (trees : List Tree) × IsReading text trees None × P text trees
whole_text P text s =
    let r = s text 0 [] (sym (append-nil text)) refl in
    let end : drop (0 + length text) text ≡ [] = past text text [] 0 (sym (append-nil text)) in
    (r.0, (r.1, r.2, ended r.1 (r.3 ∙ at_end text (0 + length text) end)), r.4)
