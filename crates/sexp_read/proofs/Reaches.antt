-- The reader's stack as that of a run, and what each token says of the trees so far.
use Rattle.std.proofs.Common.{ℕ, ◌≡◌, ◌+◌, ◌<◌, ◌≤◌, length, List, [], ◌∷◌, ◌++◌, Option, None, Some, refl, ap, sym, ◌∙◌, subst, take, drop, arith, length-append, length-drop}
use Rattle.std.proofs.lemmas.List.{take_all, drop_all, take-append-le, drop-append-le, take-append-drop, length-take}
use Rattle.sexp_read.specs.declared.tree.Tree.{Tree}
use Rattle.sexp_read.specs.declared.tree.Tree.TheViews.{List as ListTree}
use Rattle.sexp_read.specs.declared.tree.Tree.TheVariants.{Leaf as LeafTree}
use Rattle.sexp_read.specs.declared.tree.LeafKind.{LeafKind}
use Rattle.sexp_read.specs.declared.tree.TextStop.{TextStop}
use Rattle.sexp_read.specs.declared.tree.TextStop.TheVariants.{BadByte, Unclosed, Deep}
use Rattle.sexp_read.specs.declared.token.Token.TheVariants as token
use Rattle.sexp_read.specs.declared.reader.OpenList.{OpenList}
use Rattle.sexp_read.specs.Lexicon.{next_token}
use Rattle.sexp_read.specs.machinery.Opened.{outermost_start, stop_at_end}
use Rattle.sexp_read.specs.Trees.{most_open, IsTree, AreTrees, Stops, outermost, ended, ended_inside, ended_in_token, no_token, closes_nothing, too_deep, inside}
use Rattle.sexp_read.specs.Trees as reading
use Rattle.sexp_read.proofs.Machine.{Stack, outer, starts, length_starts, outer_is as outer_starts}
use Rattle.sexp_read.proofs.Progress.{IsAhead, next_ahead}

-- the stack that a run has where these lists are open, by the trees of all of them, and the trees of the innermost
abbrev pub onto : List OpenList → Stack → List Tree → Stack × List Tree
onto [] s trees = (s, trees)
onto (list ∷ lists) s trees = onto lists ((list.start, take list.before trees) ∷ s) (drop list.before trees)

-- each list has as many trees before it as it says, and the innermost has `here` trees in it
abbrev pub Fits : List OpenList → List Tree → ℕ → Type 0
Fits [] trees here = length trees ≡ here
Fits (list ∷ lists) trees here = (list.before ≤ length trees) × Fits lists (drop list.before trees) here

pub fits_within : (lists : List OpenList) (trees : List Tree) (here : ℕ) → Fits lists trees here → here ≤ length trees
fits_within [] trees here f = omega (arith, f)
fits_within (list ∷ lists) trees here f = omega (arith, fits_within lists (drop list.before trees) here f.1, length-drop list.before trees)

grown : (lists : List OpenList) (s : Stack) (trees : List Tree) (tree : Tree) (here : ℕ) → Fits lists trees here
    → onto lists s (trees ++ tree ∷ []) ≡ ((onto lists s trees).0, (onto lists s trees).1 ++ tree ∷ [])
grown [] s trees tree here f = refl
grown (list ∷ lists) s trees tree here f =
    ap (λ x. onto lists ((list.start, x) ∷ s) (drop list.before (trees ++ tree ∷ []))) (take-append-le list.before trees (tree ∷ []) f.0)
    ∙ ap (λ x. onto lists ((list.start, take list.before trees) ∷ s) x) (drop-append-le list.before trees (tree ∷ []) f.0)
    ∙ grown lists ((list.start, take list.before trees) ∷ s) (drop list.before trees) tree here f.1

pub fits_more : (lists : List OpenList) (trees : List Tree) (tree : Tree) (here : ℕ) → Fits lists trees here → Fits lists (trees ++ tree ∷ []) (here + 1)
fits_more [] trees tree here f = omega (arith, f, length-append trees (tree ∷ []))
fits_more (list ∷ lists) trees tree here f = (
  omega (arith, f.0, length-append trees (tree ∷ [])),
  subst (λ x. Fits lists x (here + 1)) (sym (drop-append-le list.before trees (tree ∷ []) f.0)) (fits_more lists (drop list.before trees) tree here f.1),
)

opened_more : (lists : List OpenList) (s : Stack) (trees : List Tree) (list : OpenList) → Fits lists trees list.before
    → onto (lists ++ list ∷ []) s trees ≡ ((list.start, (onto lists s trees).1) ∷ (onto lists s trees).0, [])
opened_more [] s trees list f =
    ap (λ x. ((list.start, x) ∷ s, drop list.before trees)) (take_all list.before trees (omega (arith, f)))
    ∙ ap (λ x. ((list.start, trees) ∷ s, x)) (drop_all list.before trees (omega (arith, f)))
opened_more (first ∷ lists) s trees list f = opened_more lists ((first.start, take first.before trees) ∷ s) (drop first.before trees) list f.1

pub fits_open : (lists : List OpenList) (trees : List Tree) (list : OpenList) → Fits lists trees list.before → Fits (lists ++ list ∷ []) trees 0
fits_open [] trees list f = (omega (arith, f), omega (arith, f, length-drop list.before trees))
fits_open (first ∷ lists) trees list f = (f.0, fits_open lists (drop first.before trees) list f.1)

-- where the trees of the innermost list begin
last_before : (list : OpenList) (kept items : List Tree) → Fits (list ∷ []) (kept ++ items) (length items) → list.before ≡ length kept
last_before list kept items f = omega (arith, f.0, f.1, length-drop list.before (kept ++ items), length-append kept items)

first_before : (first : OpenList) (lists : List OpenList) (kept items : List Tree) → Fits (first ∷ lists) (kept ++ items) (length items) → first.before ≤ length kept
first_before first lists kept items f =
    omega (arith, f.0, fits_within lists (drop first.before (kept ++ items)) (length items) f.1, length-drop first.before (kept ++ items), length-append kept items)

fits_rest : (first : OpenList) (lists : List OpenList) (kept items : List Tree) → Fits (first ∷ lists) (kept ++ items) (length items)
    → Fits lists (drop first.before kept ++ items) (length items)
fits_rest first lists kept items f =
    subst (λ x. Fits lists x (length items)) (drop-append-le first.before kept items (first_before first lists kept items f)) f.1

closed_list : (lists : List OpenList) (s : Stack) (list : OpenList) (kept items : List Tree) → Fits (lists ++ list ∷ []) (kept ++ items) (length items)
    → onto (lists ++ list ∷ []) s (kept ++ items) ≡ ((list.start, (onto lists s kept).1) ∷ (onto lists s kept).0, items)
closed_list [] s list kept items f =
    let e = last_before list kept items f in
    let whole : length kept ≤ list.before = omega (arith, e) in
    let within : list.before ≤ length kept = omega (arith, e) in
    ap (λ x. ((list.start, x) ∷ s, drop list.before (kept ++ items))) (take-append-le list.before kept items within ∙ take_all list.before kept whole)
    ∙ ap (λ x. ((list.start, kept) ∷ s, x)) (drop-append-le list.before kept items within ∙ ap (λ x. x ++ items) (drop_all list.before kept whole))
closed_list (first ∷ lists) s list kept items f =
    let within = first_before first (lists ++ list ∷ []) kept items f in
    ap (λ x. onto (lists ++ list ∷ []) ((first.start, x) ∷ s) (drop first.before (kept ++ items))) (take-append-le first.before kept items within)
    ∙ ap (λ x. onto (lists ++ list ∷ []) ((first.start, take first.before kept) ∷ s) x) (drop-append-le first.before kept items within)
    ∙ closed_list lists ((first.start, take first.before kept) ∷ s) list (drop first.before kept) items (fits_rest first (lists ++ list ∷ []) kept items f)

pub fits_close : (lists : List OpenList) (list : OpenList) (kept items : List Tree) → Fits (lists ++ list ∷ []) (kept ++ items) (length items) → Fits lists kept list.before
fits_close [] list kept items f = sym (last_before list kept items f)
fits_close (first ∷ lists) list kept items f =
    (first_before first (lists ++ list ∷ []) kept items f, fits_close lists list (drop first.before kept) items (fits_rest first (lists ++ list ∷ []) kept items f))

length_onto : (lists : List OpenList) (s : Stack) (trees : List Tree) → length (onto lists s trees).0 ≡ length lists + length s
length_onto [] s trees = omega arith
length_onto (list ∷ lists) s trees = let e = length_onto lists ((list.start, take list.before trees) ∷ s) (drop list.before trees) in omega arith

outer_onto : (lists : List OpenList) (o : ℕ × List Tree) (s : Stack) (trees : List Tree) (start : ℕ) → outer (onto lists (o ∷ s) trees).0 start ≡ outer s o.0
outer_onto [] o s trees start = refl
outer_onto (list ∷ lists) o s trees start = outer_onto lists (list.start, take list.before trees) (o ∷ s) (drop list.before trees) start

outer_is : (lists : List OpenList) (trees : List Tree) (start : ℕ) → outer (onto lists [] trees).0 start ≡ outermost_start lists start
outer_is [] trees start = refl
outer_is (list ∷ lists) trees start = outer_onto lists (list.start, take list.before trees) [] (drop list.before trees) start

-- From an offset outside of all lists the text goes on with lists that are open, and the trees of each so far. The innermost comes first.
abbrev pub Within : List ℕ → ℕ → Stack → List Tree → ℕ → Type 0
Within text from [] trees at = (trees ≡ []) × (at ≡ from)
Within text from (o ∷ s) trees at =
    (before : ℕ) × Within text from s o.1 before × (next_token text before ≡ token.Open o.0) × (length s < most_open) × AreTrees text (length s + 1) (o.0 + 1) trees at

pub joined : (text : List ℕ) (depth at : ℕ) (trees : List Tree) (mid : ℕ) (others : List Tree) (after : ℕ) → AreTrees text depth at trees mid → AreTrees text depth mid others after
    → AreTrees text depth at (trees ++ others) after
joined text _ _ _ _ others after (reading.none depth at) r = r
joined text _ _ _ _ others after (reading.more depth at first mid trees end h rest) r =
    reading.more depth at first mid (trees ++ others) after h (joined text depth mid trees end others after rest r)

pub one_more : (text : List ℕ) (depth at : ℕ) (trees : List Tree) (mid : ℕ) (tree : Tree) (after : ℕ) → AreTrees text depth at trees mid → IsTree text depth mid tree after
    → AreTrees text depth at (trees ++ tree ∷ []) after
one_more text depth at trees mid tree after ts t = joined text depth at trees mid (tree ∷ []) after ts (reading.more depth mid tree after [] after t (reading.none depth after))

-- a tree that ends in an open list is one more of its trees
within_more : (text : List ℕ) (from : ℕ) (s : Stack) (trees : List Tree) (at : ℕ) (tree : Tree) (after : ℕ) → 0 < length s → Within text from s trees at
    → IsTree text (length s) at tree after → Within text from s (trees ++ tree ∷ []) after
within_more text from [] trees at tree after some w t = absurd (omega arith)
within_more text from (o ∷ s) trees at tree after some w t =
    (w.0, w.1, w.2, w.3, one_more text (length s + 1) (o.0 + 1) trees at tree after w.4 (subst (λ d. IsTree text d at tree after) (omega arith) t))

-- a tree that ends outside of all lists is the one that the text goes on with
within_first : (text : List ℕ) (from : ℕ) (s : Stack) (trees : List Tree) (at : ℕ) (tree : Tree) (after : ℕ) → length s ≡ 0 → Within text from s trees at
    → IsTree text (length s) at tree after → IsTree text 0 from tree after
within_first text from [] trees at tree after e w t = subst (λ a. IsTree text 0 a tree after) w.1 t
within_first text from (o ∷ s) trees at tree after e w t = absurd (omega (arith, e))

within_list : (text : List ℕ) (from start : ℕ) (s : Stack) (before items : List Tree) (at close : ℕ) → (w : Within text from ((start, before) ∷ s) items at)
    → next_token text at ≡ token.Close close → IsTree text (length s) w.0 (ListTree items start (close + 1)) (close + 1)
within_list text from start s before items at close w h = reading.list (length s) w.0 start items at close w.2 w.3 w.4 h

-- a stop in open lists is the text's
within_stop : (text : List ℕ) (from : ℕ) (s : Stack) (trees : List Tree) (at : ℕ) (stop : Option TextStop) → Within text from s trees at → Stops text (starts s) at stop → Stops text [] from stop
within_stop text from [] trees at stop w h = subst (λ a. Stops text [] a stop) w.1 h
within_stop text from (o ∷ s) trees at stop w h =
    let long = length_starts s in
    let below : length (starts s) < most_open = omega (arith, long, w.3) in
    let deep : length s + 1 ≡ length (starts s) + 1 = omega (arith, long) in
    within_stop text from s o.1 w.0 stop w.1 (inside (starts s) w.0 o.0 trees at stop w.2 below (subst (λ d. AreTrees text d (o.0 + 1) trees at) deep w.4) h)

-- how far the reader has come
abbrev pub ReachedAs : List ℕ → ℕ → Stack × List Tree → ℕ → Type 0
ReachedAs text from state at = Within text from state.0 state.1 at

abbrev pub Reached : List ℕ → ℕ → List OpenList → List Tree → ℕ → Type 0
Reached text from lists trees at = ReachedAs text from (onto lists [] trees) at

pub reached_none : (text : List ℕ) (from : ℕ) (lists : List OpenList) (trees : List Tree) → lists ≡ [] → trees ≡ [] → Reached text from lists trees from × Fits lists trees 0
reached_none text from [] trees e f = ((f, refl), ap length f)
reached_none text from (list ∷ lists) trees e f = absurd (cc)

one_within : (text : List ℕ) (from : ℕ) (lists : List OpenList) (trees : List Tree) (here at : ℕ) (tree : Tree) (after : ℕ) → 0 < length lists → Reached text from lists trees at
    → Fits lists trees here → IsTree text (length (onto lists [] trees).0) at tree after → Reached text from lists (trees ++ tree ∷ []) after
one_within text from lists trees here at tree after some r f t =
    let o = onto lists [] trees in
    subst (λ x. ReachedAs text from x after) (sym (grown lists [] trees tree here f)) (within_more text from o.0 o.1 at tree after (omega (arith, some, length_onto lists [] trees)) r t)

one_outside : (text : List ℕ) (from : ℕ) (lists : List OpenList) (trees : List Tree) (at : ℕ) (tree : Tree) (after : ℕ) → length lists ≡ 0 → Reached text from lists trees at
    → IsTree text (length (onto lists [] trees).0) at tree after → IsTree text 0 from tree after
one_outside text from lists trees at tree after none r t =
    let o = onto lists [] trees in
    within_first text from o.0 o.1 at tree after (omega (arith, none, length_onto lists [] trees)) r t

pub reached_leaf : (text : List ℕ) (from : ℕ) (lists : List OpenList) (trees : List Tree) (here at : ℕ) (kind : LeafKind) (start end : ℕ) → 0 < length lists
    → Reached text from lists trees at → Fits lists trees here → next_token text at ≡ token.Leaf kind start end → Reached text from lists (trees ++ LeafTree kind start end ∷ []) end
reached_leaf text from lists trees here at kind start end some r f h =
    one_within text from lists trees here at (LeafTree kind start end) end some r f (reading.leaf (length (onto lists [] trees).0) at kind start end h)

pub reads_leaf : (text : List ℕ) (from : ℕ) (lists : List OpenList) (trees : List Tree) (at : ℕ) (kind : LeafKind) (start end : ℕ) → length lists ≡ 0
    → Reached text from lists trees at → next_token text at ≡ token.Leaf kind start end → IsTree text 0 from (LeafTree kind start end) end
reads_leaf text from lists trees at kind start end none r h =
    one_outside text from lists trees at (LeafTree kind start end) end none r (reading.leaf (length (onto lists [] trees).0) at kind start end h)

pub reached_open : (text : List ℕ) (from : ℕ) (lists : List OpenList) (trees : List Tree) (at : ℕ) (list : OpenList) → Reached text from lists trees at → Fits lists trees list.before
    → next_token text at ≡ token.Open list.start → length lists < most_open → Reached text from (lists ++ list ∷ []) trees (list.start + 1)
reached_open text from lists trees at list r f h below =
    let o = onto lists [] trees in
    subst (λ x. ReachedAs text from x (list.start + 1)) (sym (opened_more lists [] trees list f))
    (at, r, h, omega (arith, below, length_onto lists [] trees), reading.none (length o.0 + 1) (list.start + 1))

-- the list that closes, where it began, among the lists that are still open
abbrev Closes : List ℕ → ℕ → List OpenList → List Tree → Tree → ℕ → Type 0
Closes text from rest kept tree after = (before : ℕ) × Reached text from rest kept before × IsTree text (length (onto rest [] kept).0) before tree after

closes : (text : List ℕ) (from : ℕ) (rest : List OpenList) (list : OpenList) (kept items : List Tree) (at close : ℕ) → Reached text from (rest ++ list ∷ []) (kept ++ items) at
    → Fits (rest ++ list ∷ []) (kept ++ items) (length items) → next_token text at ≡ token.Close close → Closes text from rest kept (ListTree items list.start (close + 1)) (close + 1)
closes text from rest list kept items at close r f h =
    let o = onto rest [] kept in
    let w = subst (λ x. ReachedAs text from x at) (closed_list rest [] list kept items f) r in
    (w.0, w.1, within_list text from list.start o.0 o.1 items at close w h)

-- the trees in two parts, of which the second is the innermost list's
parted : (lists rest : List OpenList) (list : OpenList) (trees : List Tree) (here n : ℕ) → Fits lists trees here → lists ≡ rest ++ list ∷ [] → n + here ≡ length trees
    → Fits (rest ++ list ∷ []) (take n trees ++ drop n trees) (length (drop n trees))
parted lists rest list trees here n f e g =
    let count : here ≡ length (drop n trees) = omega (arith, length-drop n trees) in
    subst (λ x. Fits (rest ++ list ∷ []) (take n trees ++ drop n trees) x) count
    (subst (λ x. Fits (rest ++ list ∷ []) x here) (sym (take-append-drop n trees)) (subst (λ x. Fits x trees here) e f))

closes_at : (text : List ℕ) (from : ℕ) (lists rest : List OpenList) (list : OpenList) (trees : List Tree) (here n at close : ℕ) → Reached text from lists trees at
    → Fits lists trees here → lists ≡ rest ++ list ∷ [] → n + here ≡ length trees → next_token text at ≡ token.Close close
    → Closes text from rest (take n trees) (ListTree (drop n trees) list.start (close + 1)) (close + 1)
closes_at text from lists rest list trees here n at close r f e g h =
    let r' = subst (λ x. Reached text from (rest ++ list ∷ []) x at) (sym (take-append-drop n trees)) (subst (λ x. Reached text from x trees at) e r) in
    closes text from rest list (take n trees) (drop n trees) at close r' (parted lists rest list trees here n f e g) h

pub reads_list : (text : List ℕ) (from : ℕ) (lists rest : List OpenList) (list : OpenList) (trees : List Tree) (here n at close : ℕ) (tree : Tree) → length rest ≡ 0
    → Reached text from lists trees at → Fits lists trees here → lists ≡ rest ++ list ∷ [] → n + here ≡ length trees → next_token text at ≡ token.Close close
    → tree ≡ ListTree (drop n trees) list.start (close + 1) → IsTree text 0 from tree (close + 1)
reads_list text from lists rest list trees here n at close tree none r f e g h made =
    let c = closes_at text from lists rest list trees here n at close r f e g h in
    subst (λ t. IsTree text 0 from t (close + 1)) (sym made) (one_outside text from rest (take n trees) c.0 (ListTree (drop n trees) list.start (close + 1)) (close + 1) none c.1 c.2)

pub reached_close : (text : List ℕ) (from : ℕ) (lists rest : List OpenList) (list : OpenList) (trees new : List Tree) (here n at close : ℕ) → 0 < length rest
    → Reached text from lists trees at → Fits lists trees here → lists ≡ rest ++ list ∷ [] → n + here ≡ length trees → next_token text at ≡ token.Close close
    → new ≡ take n trees ++ ListTree (drop n trees) list.start (close + 1) ∷ [] → Reached text from rest new (close + 1)
reached_close text from lists rest list trees new here n at close some r f e g h made =
    let c = closes_at text from lists rest list trees here n at close r f e g h in
    let f' = fits_close rest list (take n trees) (drop n trees) (parted lists rest list trees here n f e g) in
    subst (λ x. Reached text from rest x (close + 1)) (sym made)
    (one_within text from rest (take n trees) list.before c.0 (ListTree (drop n trees) list.start (close + 1)) (close + 1) some c.1 f' c.2)

pub fits_close_at : (lists rest : List OpenList) (list : OpenList) (trees new : List Tree) (here n close : ℕ) → Fits lists trees here → lists ≡ rest ++ list ∷ []
    → n + here ≡ length trees → new ≡ take n trees ++ ListTree (drop n trees) list.start (close + 1) ∷ [] → Fits rest new (list.before + 1)
fits_close_at lists rest list trees new here n close f e g made =
    subst (λ x. Fits rest x (list.before + 1)) (sym made)
    (fits_more rest (take n trees) (ListTree (drop n trees) list.start (close + 1)) list.before
    (fits_close rest list (take n trees) (drop n trees) (parted lists rest list trees here n f e g)))

pub before_within : (lists rest : List OpenList) (list : OpenList) (trees : List Tree) (here n : ℕ) → Fits lists trees here → lists ≡ rest ++ list ∷ []
    → n + here ≡ length trees → list.before ≤ length trees
before_within lists rest list trees here n f e g =
    let within = fits_within rest (take n trees) list.before (fits_close rest list (take n trees) (drop n trees) (parted lists rest list trees here n f e g)) in
    omega (arith, within, length-take n trees)

-- where the text stops

stops : (text : List ℕ) (from : ℕ) (lists : List OpenList) (trees : List Tree) (at : ℕ) (stop : Option TextStop) → Reached text from lists trees at
    → Stops text (starts (onto lists [] trees).0) at stop → Stops text [] from stop
stops text from lists trees at stop r h = let o = onto lists [] trees in within_stop text from o.0 o.1 at stop r h

pub reads_bad : (text : List ℕ) (from : ℕ) (lists : List OpenList) (trees : List Tree) (at offset : ℕ) → Reached text from lists trees at → next_token text at ≡ token.BadByte offset
    → Stops text [] from (Some (BadByte offset))
reads_bad text from lists trees at offset r h = stops text from lists trees at (Some (BadByte offset)) r (no_token (starts (onto lists [] trees).0) at offset h)

outermost_is : (lists : List OpenList) (trees : List Tree) (start : ℕ) → outermost (starts (onto lists [] trees).0) start ≡ outermost_start lists start
outermost_is lists trees start = sym (outer_starts (onto lists [] trees).0 start) ∙ outer_is lists trees start

pub reads_unclosed : (text : List ℕ) (from : ℕ) (lists : List OpenList) (trees : List Tree) (at start offset : ℕ) → offset ≡ outermost_start lists start
    → Reached text from lists trees at → next_token text at ≡ token.Unclosed start → Stops text [] from (Some (Unclosed offset))
reads_unclosed text from lists trees at start offset e r h =
    let opened = starts (onto lists [] trees).0 in
    subst (λ x. Stops text [] from (Some (Unclosed x))) (outermost_is lists trees start ∙ sym e)
    (stops text from lists trees at (Some (Unclosed (outermost opened start))) r (ended_in_token opened at start h))

pub reads_deep : (text : List ℕ) (from : ℕ) (lists : List OpenList) (trees : List Tree) (at start : ℕ) → most_open ≤ length lists → Reached text from lists trees at
    → next_token text at ≡ token.Open start → Stops text [] from (Some (Deep start))
reads_deep text from lists trees at start many r h =
    let opened = starts (onto lists [] trees).0 in
    let long : most_open ≤ length opened = omega (arith, many, length_onto lists [] trees, length_starts (onto lists [] trees).0) in
    stops text from lists trees at (Some (Deep start)) r (too_deep opened at start h long)

pub reads_close : (text : List ℕ) (from : ℕ) (lists : List OpenList) (trees : List Tree) (at close : ℕ) → lists ≡ [] → Reached text from lists trees at
    → next_token text at ≡ token.Close close → Stops text [] from (Some (BadByte close))
reads_close text from [] trees at close e r h = stops text from [] trees at (Some (BadByte close)) r (closes_nothing at close h)
reads_close text from (list ∷ lists) trees at close e r h = absurd (cc)

ends_inside : (text : List ℕ) (from : ℕ) (s : Stack) (trees : List Tree) (at start : ℕ) → 0 < length s → outer s 0 ≡ start → Within text from s trees at → next_token text at ≡ token.End
    → Stops text [] from (Some (Unclosed start))
ends_inside text from [] trees at start some e w h = absurd (omega arith)
ends_inside text from (o ∷ s) trees at start some e w h =
    subst (λ x. Stops text [] from (Some (Unclosed x))) (sym (outer_starts s o.0) ∙ e)
    (within_stop text from (o ∷ s) trees at (Some (Unclosed (outermost (starts s) o.0))) w (ended_inside o.0 (starts s) at h))

pub reads_end : (text : List ℕ) (from : ℕ) (lists : List OpenList) (trees : List Tree) (at : ℕ) → Reached text from lists trees at → next_token text at ≡ token.End
    → (stop : Option TextStop) → stop ≡ stop_at_end lists → Stops text [] from stop
reads_end text from [] trees at r h stop e = subst (λ x. Stops text [] from x) (sym e) (stops text from [] trees at None r (ended at h))
reads_end text from (list ∷ lists) trees at r h stop e =
    let o = onto (list ∷ lists) [] trees in
    subst (λ x. Stops text [] from x) (sym e)
    (ends_inside text from o.0 o.1 at list.start (omega (arith, length_onto (list ∷ lists) [] trees)) (outer_is (list ∷ lists) trees 0) r h)

pub ahead_open : (text : List ℕ) (at start : ℕ) → token.Open start ≡ next_token text at → (at ≤ start) × (start < length text)
ahead_open text at start h = subst (IsAhead text at) (sym h) (next_ahead text at)

pub ahead_close : (text : List ℕ) (at start : ℕ) → token.Close start ≡ next_token text at → (at ≤ start) × (start < length text)
ahead_close text at start h = subst (IsAhead text at) (sym h) (next_ahead text at)

pub ahead_leaf : (text : List ℕ) (at : ℕ) (kind : LeafKind) (start end : ℕ) → token.Leaf kind start end ≡ next_token text at → (at ≤ start) × (start < end) × (end ≤ length text)
ahead_leaf text at kind start end h = subst (IsAhead text at) (sym h) (next_ahead text at)

mutual
  -- a tree ends behind where it is looked for, and with the text at the latest
  pub tree_ahead : (text : List ℕ) (depth at : ℕ) (tree : Tree) (after : ℕ) → IsTree text depth at tree after → (at < after) × (after ≤ length text)
  tree_ahead text _ _ _ _ (reading.leaf depth at kind start end h) = let a = ahead_leaf text at kind start end (sym h) in (omega (arith, a.0, a.1), a.2)
  tree_ahead text _ _ _ _ (reading.list depth at start items inner close h below within h') =
      let o = ahead_open text at start (sym h) in
      let c = ahead_close text inner close (sym h') in
      let i = trees_ahead text (depth + 1) (start + 1) items inner within in
      (omega (arith, o.0, i, c.0), omega (arith, c.1))

  trees_ahead : (text : List ℕ) (depth at : ℕ) (trees : List Tree) (after : ℕ) → AreTrees text depth at trees after → at ≤ after
  trees_ahead text _ _ _ _ (reading.none depth at) = omega arith
  trees_ahead text _ _ _ _ (reading.more depth at tree mid trees after first rest) =
      let a = tree_ahead text depth at tree mid first in let b = trees_ahead text depth mid trees after rest in omega (arith, a.0, b)

pub longer : (trees new : List Tree) (tree : Tree) (after : ℕ) → new ≡ trees ++ tree ∷ [] → length trees < after → length new ≤ after
longer trees new tree after e h = omega (arith, ap length e, length-append trees (tree ∷ []))

pub shorter : (trees new : List Tree) (n : ℕ) (tree : Tree) (close : ℕ) → new ≡ take n trees ++ tree ∷ [] → length trees ≤ close → length new ≤ close + 1
shorter trees new n tree close e h = omega (arith, ap length e, length-append (take n trees) (tree ∷ []), length-take n trees)
