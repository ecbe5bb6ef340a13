-- The nodes on the stack as nodes of split trees.
use Rattle.std.proofs.Common.{◌≡◌, ℕ, zero, suc, ◌+◌, List, [], ◌∷◌, ◌++◌, map, take, drop, reverse, refl, ap, sym, ◌∙◌, subst, append_assoc, append-nil, true, false, Bool, cond, ◌==◌, Some}
use Rattle.std.specs.Prelude.{ℤ, pos, ◌+ℤ◌, slice_get}
use Rattle.std.proofs.lemmas.List.{map-append}
use Rattle.lin_atoms.specs.declared.lit.Lit.{Lit}
use Rattle.lin_atoms.specs.declared.form.Form.{Form}
use Rattle.int_rows.specs.Node.{system}
use Rattle.refutation_trees.specs.Flatten.{literals}
use Rattle.refutation_trees.specs.Split.{HasSolution, HasVertexBetween, HaveTrees, IsInner, Node, at_least, at_most, by_branch, by_cases, inner, joined, leaf, takes_in, with_bound, with_part}
use Rattle.lia_close.specs.Said.{named_by}
use Rattle.lia_close.proofs.Public.{reverse-push}
use Rattle.lia_stack.specs.declared.waiting.LeftOut.{LeftOut}
use Rattle.lia_stack.specs.declared.waiting.Open.{Open}
use Rattle.lia_stack.specs.machinery.Opened.{left_at, left_lits, named_times, next_lit, next_number, node_of, opened_part, with_left_out, with_lit, with_lits, with_name}

-- the stack with the next on top, as nodes
abbrev pub nodes_of : List Open → List Node
nodes_of stack = map node_of (reverse stack)

pub nodes-push : (stack news : List Open) (waiting : Open) → news ≡ stack ++ waiting ∷ [] → nodes_of news ≡ node_of waiting ∷ nodes_of stack
nodes-push stack news waiting e = ap nodes_of e ∙ ap (λ (os : List Open). map node_of os) (reverse-push stack waiting)

-- a name says nothing of the node itself
name-same : (o : Open) (b : Bool) → node_of (cond b (record o { reasons = o.reasons ++ next_number o ∷ [] }) (record o { reasons = o.reasons ++ o.known ∷ []; known = o.known + named_by (next_lit o) })) ≡ node_of o
name-same o true = refl
name-same o false = refl

pub named-same : (n : ℕ) (o : Open) → node_of (named_times n o) ≡ node_of o
named-same zero o = refl
named-same (suc n) o = named-same n (with_name o) ∙ name-same o (named_by (next_lit o) == 0)

-- a literal that was left out joins
pub left-there : (left : List LeftOut) (at : ℕ) (l : LeftOut) → slice_get left at ≡ Some l → slice_get (left_lits left) at ≡ Some (left_at left at).lit
left-there [] at l e = absurd (cc)
left-there (x ∷ left) zero l e = refl
left-there (x ∷ left) (suc at) l e = left-there left at l e

left-taken : (n : ℕ) (left : List LeftOut) → left_lits (take n left) ≡ take n (left_lits left)
left-taken zero left = refl
left-taken (suc n) [] = refl
left-taken (suc n) (x ∷ left) = ap (λ (ls : List Lit). x.lit ∷ ls) (left-taken n left)

left-dropped : (n : ℕ) (left : List LeftOut) → left_lits (drop n left) ≡ drop n (left_lits left)
left-dropped zero left = refl
left-dropped (suc n) [] = refl
left-dropped (suc n) (x ∷ left) = left-dropped n left

left-++ : (these those : List LeftOut) → left_lits (these ++ those) ≡ left_lits these ++ left_lits those
left-++ [] those = refl
left-++ (x ∷ these) those = ap (λ (ls : List Lit). x.lit ∷ ls) (left-++ these those)

pub left-split : (left : List LeftOut) (at : ℕ) → left_lits (take at left ++ drop (at + 1) left) ≡ take at (left_lits left) ++ drop (at + 1) (left_lits left)
left-split left at =
    left-++ (take at left) (drop (at + 1) left) ∙ ap (λ (ls : List Lit). ls ++ left_lits (drop (at + 1) left)) (left-taken at left) ∙ ap (λ (ls : List Lit). take at (left_lits left) ++ ls) (left-dropped (at + 1) left)

pub joins : (o : Open) (at : ℕ) → node_of (with_left_out o at) ≡ joined at (left_at o.left_out at).lit (node_of o)
joins o at = ap (λ (ls : List Lit). record { lits = o.lits ++ (left_at o.left_out at).lit ∷ []; left_out = ls; open_cases = o.cases }) (left-split o.left_out at)

-- a part's literals join, in order
pub lits-joined : (o : Open) (lits : List Lit) → node_of (with_lits o lits) ≡ record { lits = o.lits ++ lits; left_out = left_lits o.left_out; open_cases = o.cases }
lits-joined o [] = ap (λ (ls : List Lit). record { lits = ls; left_out = left_lits o.left_out; open_cases = o.cases }) (sym (append-nil o.lits))
lits-joined o (lit ∷ lits) = lits-joined (with_lit o lit) lits ∙ ap (λ (ls : List Lit). record { lits = ls; left_out = left_lits o.left_out; open_cases = o.cases }) (append_assoc o.lits (lit ∷ []) lits)

pub part-joined : (which : ℕ) (o : Open) (part : Form) → node_of (opened_part which o part) ≡ with_part which (node_of o) part
part-joined which o part =
    let cs = (opened_part which o part).cases in
    ap (λ (n : Node). record { lits = n.lits; left_out = n.left_out; open_cases = cs }) (lits-joined o (literals part))

parts-joined : (which : ℕ) (o : Open) (parts : List Form) → map node_of (map (opened_part which o) parts) ≡ map (with_part which (node_of o)) parts
parts-joined which o [] = refl
parts-joined which o (part ∷ parts) = ap (λ (n : Node). n ∷ map node_of (map (opened_part which o) parts)) (part-joined which o part) ∙ ap (λ (ns : List Node). with_part which (node_of o) part ∷ ns) (parts-joined which o parts)

-- what is found for the stack is found with a node more: it is a leaf
pub trees-closed : (q m : ℕ) (stack news : List Open) (waiting : Open) → news ≡ stack ++ waiting ∷ [] → HaveTrees q (nodes_of stack) m → HaveTrees q (nodes_of news) m
trees-closed q m stack news waiting e have = subst (λ (ns : List Node). HaveTrees q ns m) (sym (nodes-push stack news waiting e)) (leaf (node_of waiting) (nodes_of stack) m have)

-- or it has one literal more
pub trees-joined : (q m at : ℕ) (stack : List Open) (waiting : Open) (l : LeftOut) → slice_get waiting.left_out at ≡ Some l → HaveTrees q (nodes_of (stack ++ with_left_out waiting at ∷ [])) m → HaveTrees q (nodes_of (stack ++ waiting ∷ [])) m
trees-joined q m at stack waiting l there have =
    let after = nodes-push stack (stack ++ with_left_out waiting at ∷ []) (with_left_out waiting at) refl in
    let before = nodes-push stack (stack ++ waiting ∷ []) waiting refl in
    let known : HaveTrees q (joined at (left_at waiting.left_out at).lit (node_of waiting) ∷ nodes_of stack) m = subst (λ (n : Node). HaveTrees q (n ∷ nodes_of stack) m) (joins waiting at) (subst (λ (ns : List Node). HaveTrees q ns m) after have) in
    subst (λ (ns : List Node). HaveTrees q ns m) (sym before) (takes_in (node_of waiting) (nodes_of stack) m at (left_at waiting.left_out at).lit (left-there waiting.left_out at l there) known)

-- or it is an inner node, with the two sides of a branch below it
pub trees-branched : (q m x : ℕ) (c : ℤ) (stack news : List Open) (waiting named : Open) → node_of named ≡ node_of waiting → HasSolution q waiting.lits → HasVertexBetween (system q waiting.lits) x c
    → reverse news ≡ with_lit named (at_most x c) ∷ with_lit named (at_least x (c +ℤ pos 1)) ∷ reverse stack → HaveTrees q (nodes_of news) m → HaveTrees q (nodes_of (stack ++ waiting ∷ [])) (suc m)
trees-branched q m x c stack news waiting named same solution vertex e have =
    let below = with_bound (node_of waiting) (at_most x c) ∷ with_bound (node_of waiting) (at_least x (c +ℤ pos 1)) ∷ [] in
    let is : IsInner q (node_of waiting) below = record { solution = solution; split = by_branch x c vertex refl } in
    let sides : nodes_of news ≡ below ++ nodes_of stack = ap (λ (os : List Open). map node_of os) e ∙ ap (λ (n : Node). with_bound n (at_most x c) ∷ with_bound n (at_least x (c +ℤ pos 1)) ∷ nodes_of stack) same in
    subst (λ (ns : List Node). HaveTrees q ns (suc m)) (sym (nodes-push stack (stack ++ waiting ∷ []) waiting refl))
    (inner (node_of waiting) (nodes_of stack) below m is (subst (λ (ns : List Node). HaveTrees q ns m) sides have))

-- or with a node for each part of an open disjunction
pub trees-split : (q m which : ℕ) (parts : List Form) (stack news : List Open) (waiting named : Open) → node_of named ≡ node_of waiting → HasSolution q waiting.lits → slice_get waiting.cases which ≡ Some parts
    → reverse news ≡ map (opened_part which named) parts ++ reverse stack → HaveTrees q (nodes_of news) m → HaveTrees q (nodes_of (stack ++ waiting ∷ [])) (suc m)
trees-split q m which parts stack news waiting named same solution there e have =
    let below = map (with_part which (node_of waiting)) parts in
    let is : IsInner q (node_of waiting) below = record { solution = solution; split = by_cases which parts there refl } in
    let sides : nodes_of news ≡ below ++ nodes_of stack =
    ap (λ (os : List Open). map node_of os) e ∙ map-append node_of (map (opened_part which named) parts) (reverse stack) ∙ ap (λ (ns : List Node). ns ++ nodes_of stack) (parts-joined which named parts ∙ ap (λ (n : Node). map (with_part which n) parts) same) in
    subst (λ (ns : List Node). HaveTrees q ns (suc m)) (sym (nodes-push stack (stack ++ waiting ∷ []) waiting refl))
    (inner (node_of waiting) (nodes_of stack) below m is (subst (λ (ns : List Node). HaveTrees q ns m) sides have))
