-- A run that keeps a stack of open lists reaches each reading of a text, so a text has one reading at most.
use Rattle.std.proofs.lemmas.List.{append-nil}
use Rattle.std.proofs.Common.{ℕ, zero, suc, ◌≡◌, ◌+◌, ◌<◌, ◌≤◌, length, List, [], ◌∷◌, ◌++◌, Option, None, Some, true, false, cond, ltb, refl, ap, sym, ◌∙◌, arith, append_assoc}
use Rattle.sexp_read.specs.declared.tree.Tree.{Tree}
use Rattle.sexp_read.specs.declared.tree.Tree.TheViews.{List as ListTree}
use Rattle.sexp_read.specs.declared.tree.Tree.TheVariants.{Leaf as LeafTree}
use Rattle.sexp_read.specs.declared.tree.TextStop.{TextStop}
use Rattle.sexp_read.specs.declared.tree.TextStop.TheVariants.{BadByte, Unclosed, Deep}
use Rattle.sexp_read.specs.declared.token.Token.{Token}
use Rattle.sexp_read.specs.declared.token.Token.TheVariants as token
use Rattle.sexp_read.specs.Lexicon.{next_token}
use Rattle.sexp_read.specs.Trees.{most_open, IsTree, AreTrees, Stops, outermost, IsReading, leaf, list, none, more, ended, ended_inside, ended_in_token, no_token, closes_nothing, too_deep, inside}

-- the lists that are open, the innermost first: where each starts, and the trees before it in the list that it stands in
abbrev pub Stack : Type 0
Stack = List (ℕ × List Tree)

abbrev pub Read : Type 0
Read = List Tree × Option TextStop

-- the trees outside of all open lists
abbrev pub unwound : Stack → List Tree → List Tree
unwound [] trees = trees
unwound (o ∷ stack) trees = unwound stack o.1

abbrev pub outer : Stack → ℕ → ℕ
outer [] start = start
outer (o ∷ stack) start = outer stack o.0

abbrev pub at_end : Stack → List Tree → Read
at_end [] trees = (trees, None)
at_end (o ∷ stack) trees = (unwound stack o.1, Some (Unclosed (outer stack o.0)))

abbrev pub at_close : (Stack → List Tree → ℕ → Read) → Stack → List Tree → ℕ → Read
at_close next [] trees close = (trees, Some (BadByte close))
at_close next (o ∷ stack) trees close = next stack (o.1 ++ ListTree trees o.0 (close + 1) ∷ []) (close + 1)

abbrev pub turn : (Stack → List Tree → ℕ → Read) → Stack → List Tree → Token → Read
turn next stack trees token.End = at_end stack trees
turn next stack trees (token.Open start) = cond (ltb (length stack) most_open) (next ((start, trees) ∷ stack) [] (start + 1)) (unwound stack trees, Some (Deep start))
turn next stack trees (token.Close close) = at_close next stack trees close
turn next stack trees (token.Leaf kind start end) = next stack (trees ++ LeafTree kind start end ∷ []) end
turn next stack trees (token.BadByte offset) = (unwound stack trees, Some (BadByte offset))
turn next stack trees (token.Unclosed start) = (unwound stack trees, Some (Unclosed (outer stack start)))

-- at most n turns
abbrev pub run : List ℕ → ℕ → Stack → List Tree → ℕ → Read
run text zero stack trees at = (trees, None)
run text (suc n) stack trees at = turn (run text n) stack trees (next_token text at)

abbrev pub plus : ℕ → ℕ → ℕ
plus zero n = n
plus (suc k) n = suc (plus k n)

pub plus_is : (k n : ℕ) → plus k n ≡ k + n
plus_is zero n = omega arith
plus_is (suc k) n = let e = plus_is k n in omega arith

plus_assoc : (k l n : ℕ) → plus (plus k l) n ≡ plus k (plus l n)
plus_assoc zero l n = refl
plus_assoc (suc k) l n = ap (λ m. suc m) (plus_assoc k l n)

-- some turns lead from one state to another
abbrev pub Leads : List ℕ → Stack → List Tree → ℕ → Stack → List Tree → ℕ → Type 0
Leads text stack trees at stack' trees' at' = (k : ℕ) × ((n : ℕ) → run text (plus k n) stack trees at ≡ run text n stack' trees' at')

-- some turns lead to an answer
abbrev pub Ends : List ℕ → Stack → List Tree → ℕ → Read → Type 0
Ends text stack trees at read = (k : ℕ) × ((n : ℕ) → run text (plus k n) stack trees at ≡ read)

pub then_leads : (text : List ℕ) (s : Stack) (xs : List Tree) (i : ℕ) (s' : Stack) (ys : List Tree) (j : ℕ) (s'' : Stack) (zs : List Tree) (k : ℕ)
    → Leads text s xs i s' ys j → Leads text s' ys j s'' zs k → Leads text s xs i s'' zs k
then_leads text s xs i s' ys j s'' zs k p q = (plus p.0 q.0, λ n. ap (λ m. run text m s xs i) (plus_assoc p.0 q.0 n) ∙ p.1 (plus q.0 n) ∙ q.1 n)

pub then_ends : (text : List ℕ) (s : Stack) (xs : List Tree) (i : ℕ) (s' : Stack) (ys : List Tree) (j : ℕ) (read : Read)
    → Leads text s xs i s' ys j → Ends text s' ys j read → Ends text s xs i read
then_ends text s xs i s' ys j read p q = (plus p.0 q.0, λ n. ap (λ m. run text m s xs i) (plus_assoc p.0 q.0 n) ∙ p.1 (plus q.0 n) ∙ q.1 n)

pub same_trees : (text : List ℕ) (s : Stack) (xs : List Tree) (i : ℕ) (s' : Stack) (ys zs : List Tree) (j : ℕ) → ys ≡ zs → Leads text s xs i s' ys j → Leads text s xs i s' zs j
same_trees text s xs i s' ys zs j e p = (p.0, λ n. p.1 n ∙ ap (λ ts. run text n s' ts j) e)

-- one end
pub one_end : (text : List ℕ) (s : Stack) (xs : List Tree) (i : ℕ) (a b : Read) → Ends text s xs i a → Ends text s xs i b → a ≡ b
one_end text s xs i a b p q =
    let same : plus p.0 q.0 ≡ plus q.0 p.0 = omega (arith, plus_is p.0 q.0, plus_is q.0 p.0) in
    sym (p.1 q.0) ∙ ap (λ m. run text m s xs i) same ∙ q.1 p.0

test_true : (a b : ℕ) → a < b → ltb a b ≡ true
test_true a b h = grind arith

pub test_false : (a b : ℕ) → b ≤ a → ltb a b ≡ false
test_false a b h = grind arith

pub open_leads : (text : List ℕ) (s : Stack) (xs : List Tree) (at start : ℕ) → next_token text at ≡ token.Open start → length s < most_open → Leads text s xs at ((start, xs) ∷ s) [] (start + 1)
open_leads text s xs at start h below = (
  1,
  λ n. ap (turn (run text n) s xs) h
      ∙ ap (λ b. cond b (run text n ((start, xs) ∷ s) [] (start + 1)) (unwound s xs, Some (Deep start))) (test_true _ _ below),
)

mutual
  pub tree_leads : (text : List ℕ) (depth at : ℕ) (tree : Tree) (after : ℕ) → IsTree text depth at tree after
      → (s : Stack) (xs : List Tree) → length s ≡ depth → Leads text s xs at s (xs ++ tree ∷ []) after
  tree_leads text _ _ _ _ (leaf depth at kind start end h) s xs e = (1, λ n. ap (turn (run text n) s xs) h)
  tree_leads text _ _ _ _ (list depth at start items inner close h below within h') s xs e =
      then_leads text s xs at ((start, xs) ∷ s) [] (start + 1) s (xs ++ ListTree items start (close + 1) ∷ []) (close + 1)
      (open_leads text s xs at start h (omega arith))
      (then_leads text ((start, xs) ∷ s) [] (start + 1) ((start, xs) ∷ s) items inner s (xs ++ ListTree items start (close + 1) ∷ []) (close + 1)
      (trees_lead text (depth + 1) (start + 1) items inner within ((start, xs) ∷ s) [] (omega arith))
      (1, λ n. ap (turn (run text n) ((start, xs) ∷ s) items) h'))

  pub trees_lead : (text : List ℕ) (depth at : ℕ) (trees : List Tree) (after : ℕ) → AreTrees text depth at trees after
      → (s : Stack) (xs : List Tree) → length s ≡ depth → Leads text s xs at s (xs ++ trees) after
  trees_lead text _ _ _ _ (none depth at) s xs e = (0, λ n. ap (λ ts. run text n s ts at) (sym (append-nil xs)))
  trees_lead text _ _ _ _ (more depth at tree mid trees after h rest) s xs e =
      same_trees text s xs at s ((xs ++ tree ∷ []) ++ trees) (xs ++ tree ∷ trees) after (append_assoc xs (tree ∷ []) trees)
      (then_leads text s xs at s (xs ++ tree ∷ []) mid s ((xs ++ tree ∷ []) ++ trees) after (tree_leads text depth at tree mid h s xs e) (trees_lead text depth mid trees after rest s (xs ++ tree ∷ []) e))

abbrev pub starts : Stack → List ℕ
starts [] = []
starts (o ∷ s) = o.0 ∷ starts s

pub length_starts : (s : Stack) → length (starts s) ≡ length s
length_starts [] = refl
length_starts (o ∷ s) = ap (λ n. suc n) (length_starts s)

pub outer_is : (s : Stack) (start : ℕ) → outer s start ≡ outermost (starts s) start
outer_is [] start = refl
outer_is (o ∷ s) start = outer_is s o.0

pub at_once : (text : List ℕ) (s : Stack) (xs : List Tree) (at : ℕ) (t : Token) (read : Read) → next_token text at ≡ t → ((n : ℕ) → turn (run text n) s xs t ≡ read) → Ends text s xs at read
at_once text s xs at t read h e = (1, λ n. ap (turn (run text n) s xs) h ∙ e n)

pub same_end : (text : List ℕ) (s : Stack) (xs : List Tree) (at : ℕ) (a b : Read) → a ≡ b → Ends text s xs at a → Ends text s xs at b
same_end text s xs at a b e p = (p.0, λ n. p.1 n ∙ e)

ended_ends : (text : List ℕ) (at : ℕ) → next_token text at ≡ token.End → (s : Stack) (xs : List Tree) → starts s ≡ [] → Ends text s xs at (unwound s xs, None)
ended_ends text at h [] xs e = at_once text [] xs at token.End (xs, None) h (λ n. refl)
ended_ends text at h (o ∷ s) xs e = absurd (cc)

inside_ends : (text : List ℕ) (inner : ℕ) (opened : List ℕ) (at : ℕ) → next_token text at ≡ token.End → (s : Stack) (xs : List Tree) → starts s ≡ inner ∷ opened
    → Ends text s xs at (unwound s xs, Some (Unclosed (outermost opened inner)))
inside_ends text inner opened at h [] xs e = absurd (cc)
inside_ends text inner opened at h (o ∷ s) xs e =
    let first : o.0 ≡ inner = cc in
    let rest : starts s ≡ opened = cc in
    same_end text (o ∷ s) xs at (unwound s o.1, Some (Unclosed (outer s o.0))) (unwound s o.1, Some (Unclosed (outermost opened inner)))
    (ap (λ m. (unwound s o.1, Some (Unclosed m))) (outer_is s o.0 ∙ ap (λ m. outermost (starts s) m) first ∙ ap (λ os. outermost os inner) rest))
    (at_once text (o ∷ s) xs at token.End (unwound s o.1, Some (Unclosed (outer s o.0))) h (λ n. refl))

close_ends : (text : List ℕ) (at start : ℕ) → next_token text at ≡ token.Close start → (s : Stack) (xs : List Tree) → starts s ≡ [] → Ends text s xs at (unwound s xs, Some (BadByte start))
close_ends text at start h [] xs e = at_once text [] xs at (token.Close start) (xs, Some (BadByte start)) h (λ n. refl)
close_ends text at start h (o ∷ s) xs e = absurd (cc)

pub stop_ends : (text : List ℕ) (opened : List ℕ) (at : ℕ) (stop : Option TextStop) → Stops text opened at stop
    → (s : Stack) (xs : List Tree) → starts s ≡ opened → Ends text s xs at (unwound s xs, stop)
stop_ends text _ _ _ (ended at h) s xs e = ended_ends text at h s xs e
stop_ends text _ _ _ (ended_inside inner opened at h) s xs e = inside_ends text inner opened at h s xs e
stop_ends text _ _ _ (ended_in_token opened at start h) s xs e =
    same_end text s xs at (unwound s xs, Some (Unclosed (outer s start))) (unwound s xs, Some (Unclosed (outermost opened start)))
    (ap (λ m. (unwound s xs, Some (Unclosed m))) (outer_is s start ∙ ap (λ os. outermost os start) e))
    (at_once text s xs at (token.Unclosed start) (unwound s xs, Some (Unclosed (outer s start))) h (λ n. refl))
stop_ends text _ _ _ (no_token opened at offset h) s xs e = at_once text s xs at (token.BadByte offset) (unwound s xs, Some (BadByte offset)) h (λ n. refl)
stop_ends text _ _ _ (closes_nothing at start h) s xs e = close_ends text at start h s xs e
stop_ends text _ _ _ (too_deep opened at start h many) s xs e =
    at_once text s xs at (token.Open start) (unwound s xs, Some (Deep start)) h
    (λ n. ap (λ b. cond b (run text n ((start, xs) ∷ s) [] (start + 1)) (unwound s xs, Some (Deep start))) (test_false (length s) most_open (omega (arith, length_starts s, ap length e))))
stop_ends text _ _ _ (inside opened at start trees mid stop h below within rest) s xs e =
    let long : length s ≡ length opened = omega (arith, length_starts s, ap length e) in
    then_ends text s xs at ((start, xs) ∷ s) trees mid (unwound s xs, stop)
    (then_leads text s xs at ((start, xs) ∷ s) [] (start + 1) ((start, xs) ∷ s) trees mid
    (open_leads text s xs at start h (omega arith))
    (trees_lead text (length opened + 1) (start + 1) trees mid within ((start, xs) ∷ s) [] (omega arith)))
    (stop_ends text (start ∷ opened) mid stop rest ((start, xs) ∷ s) trees (ap (λ os. start ∷ os) e))

-- a run from the start of the text ends with each of its readings
pub reading_ends : (text : List ℕ) (trees : List Tree) (stop : Option TextStop) → IsReading text trees stop → Ends text [] [] 0 (trees, stop)
reading_ends text trees stop r =
    then_ends text [] [] 0 [] trees r.0 (trees, stop) (trees_lead text 0 0 trees r.0 r.1 [] [] refl) (stop_ends text [] r.0 stop r.2 [] trees refl)

pub one_reading : (text : List ℕ) (trees others : List Tree) (stop other : Option TextStop) → IsReading text trees stop → IsReading text others other → (trees ≡ others) × (stop ≡ other)
one_reading text trees others stop other r q =
    let same = one_end text [] [] 0 (trees, stop) (others, other) (reading_ends text trees stop r) (reading_ends text others other q) in
    (ap (λ x. x.0) same, ap (λ x. x.1) same)
