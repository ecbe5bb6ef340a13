-- Where a search begins.
use Rattle.std.proofs.Common.{◌≡◌, ℕ, zero, suc, ◌+◌, ◌<◌, ◌≤◌, List, [], ◌∷◌, ◌++◌, length, take, drop, refl, ap, sym, ◌∙◌, subst, arith, append_assoc, append-nil, get_or, true, Some}
use Rattle.std.specs.Prelude.{slice_get, slice_index_or}
use Rattle.std.specs.List.{list_all, range_with_len}
use Rattle.std.proofs.lemmas.Bool.{and_from}
use Rattle.std.proofs.lemmas.List.{length-append, take-append-drop}
use Rattle.std.proofs.lemmas.List.Folds.{list_all-append}
use Rattle.lin_atoms.specs.Truth.{is_below, lit_is_below, lit_truth}
use Rattle.lin_atoms.specs.declared.form.Form.{Form}
use Rattle.lin_atoms.specs.declared.lit.Lit.{Lit}
use Rattle.lin_atoms.proofs.Public.{both_true}
use Rattle.int_rows.specs.Node.{quotients}
use Rattle.refutation_trees.specs.Flatten.{disjunctions, literals}
use Rattle.refutation_trees.specs.Refutation.{form_end}
use Rattle.refutation_trees.specs.Split.{HaveTrees, IsNode, Node, first, start, taken_in, takes_in}
use Rattle.refutation_trees.proofs.FormLemmas.{form_below}
use Rattle.lia_node.specs.Known.{are_known, has_short_constant}
use Rattle.lia_close.specs.Placed.{root}
use Rattle.lia_close.specs.Said.{ArePlaced}
use Rattle.lia_close.proofs.LeafLemmas.{get-last, get-more}
use Rattle.lia_stack.specs.Short.{has_short_multiples}
use Rattle.lia_stack.specs.declared.waiting.LeftOut.{LeftOut}
use Rattle.lia_stack.specs.declared.waiting.Open.{Open}
use Rattle.lia_stack.specs.machinery.Opened.{IsOpen, first_open, left_from, left_lits, left_numbers, node_of}
use Rattle.lia_stack.proofs.CoverLemmas.{all-apart, flat-covers}
use Rattle.lia_stack.proofs.EndLemmas.{lits-end}
use Rattle.lia_stack.proofs.FlatLemmas.{below-looks, flat-passes, short-looks}
use Rattle.lia_stack.proofs.MoreLemmas.{lit-weaker}

abbrev node : List Lit → List Lit → List (List Form) → Node
node lits left cases = record { lits = lits; left_out = left; open_cases = cases }

-- the first literals that are left out join, in order
joins-first : (form : Form) (n : ℕ) (lits left : List Lit) (cases : List (List Form)) → IsNode form (node lits left cases) → IsNode form (node (lits ++ take n left) (drop n left) cases)
joins-first form zero lits left cases is = subst (λ (ls : List Lit). IsNode form (node ls left cases)) (sym (append-nil lits)) is
joins-first form (suc n) lits [] cases is = subst (λ (ls : List Lit). IsNode form (node ls [] cases)) (sym (append-nil lits)) is
joins-first form (suc n) lits (lit ∷ left) cases is =
    subst (λ (ls : List Lit). IsNode form (node ls (drop n left) cases)) (append_assoc lits (lit ∷ []) (take n left))
    (joins-first form n (lits ++ lit ∷ []) left cases (taken_in (node lits (lit ∷ left) cases) (node (lits ++ lit ∷ []) left cases) 0 lit is refl refl))

pub known-all : (q n : ℕ) (lits : List Lit) → q ≤ n → list_all (lit_is_below q) lits ≡ true → are_known n lits ≡ true
known-all q n [] le h = refl
known-all q n (l ∷ lits) le h = let both = both_true (lit_is_below q l) _ h in and_from _ _ (lit-weaker q n l le both.0) (known-all q (n + quotients l) lits (omega (arith, le)) both.1)

-- what is left out, with its numbers
left-lits : (at : ℕ) (lits : List Lit) → left_lits (left_from at lits) ≡ lits
left-lits at [] = refl
left-lits at (lit ∷ lits) = ap (λ (ls : List Lit). lit ∷ ls) (left-lits (at + 1) lits)

pub placed-range : (known before lits more : List Lit) (at : ℕ) → known ≡ before ++ (lits ++ more) → at ≡ length before → ArePlaced known lits (range_with_len at (length lits))
placed-range known before [] more at e n = tt
placed-range known before (lit ∷ lits) more at e n =
    let here : slice_get known at ≡ Some lit = ap (λ (ls : List Lit). slice_get ls at) (e ∙ sym (append_assoc before (lit ∷ []) (lits ++ more))) ∙ get-more (before ++ lit ∷ []) (lits ++ more) at lit (ap (λ (k : ℕ). slice_get (before ++ lit ∷ []) k) n ∙ get-last before lit) in
    let long : at + 1 ≡ length (before ++ lit ∷ []) = let more_of = length-append before (lit ∷ []) in omega (arith, n, more_of) in
    (here, placed-range known (before ++ lit ∷ []) lits more (at + 1) (e ∙ sym (append_assoc before (lit ∷ []) (lits ++ more))) long)

left-range : (known before lits : List Lit) (at : ℕ) → known ≡ before ++ lits → at ≡ length before → ArePlaced known (left_lits (left_from at lits)) (left_numbers (left_from at lits))
left-range known before [] at e n = tt
left-range known before (lit ∷ lits) at e n =
    let here : slice_get known at ≡ Some lit = ap (λ (ls : List Lit). slice_get ls at) (e ∙ sym (append_assoc before (lit ∷ []) lits)) ∙ get-more (before ++ lit ∷ []) lits at lit (ap (λ (k : ℕ). slice_get (before ++ lit ∷ []) k) n ∙ get-last before lit) in
    let long : at + 1 ≡ length (before ++ lit ∷ []) = let more_of = length-append before (lit ∷ []) in omega (arith, n, more_of) in
    (here, left-range known (before ++ lit ∷ []) lits (at + 1) (e ∙ sym (append_assoc before (lit ∷ []) lits)) long)

-- the first literals have joined
pub first-open : (form : Form) (taken : ℕ) → has_short_multiples form ≡ true → IsOpen form (first_open taken (literals form) (disjunctions form)) (root form)
first-open form taken short =
    let q = form_end form in
    let lits = literals form in
    let firsts = take taken lits in
    let rest = drop taken lits in
    let at = length firsts in
    let parts : firsts ++ rest ≡ lits = take-append-drop taken lits in
    let below = flat-passes (lit_is_below q) (is_below q) (below-looks q) form (form_below q form (omega arith)) in
    let shorts = flat-passes has_short_constant has_short_multiples short-looks form short in
    let below_parts = all-apart (lit_is_below q) firsts rest (ap (list_all (lit_is_below q)) parts ∙ below.0) in
    let short_parts = all-apart has_short_constant firsts rest (ap (list_all has_short_constant) parts ∙ shorts.0) in
    let left : left_lits (left_from at rest) ≡ rest = left-lits at rest in
    let least = lits-end q lits below.0 in
    record {
      is_node = subst (λ (ls : List Lit). IsNode form (node firsts ls (disjunctions form))) (sym left) (joins-first form taken [] lits (disjunctions form) (first (start form) refl));
      known = known-all q q firsts (omega arith) below_parts.0;
      short = short_parts.0;
      left_below = ap (list_all (lit_is_below q)) left ∙ below_parts.1;
      left_short = ap (list_all has_short_constant) left ∙ short_parts.1;
      cases_below = below.1;
      cases_short = shorts.1;
      covers = λ point own others cases.
          let those : list_all (lit_truth point) rest ≡ true = ap (list_all (lit_truth point)) (sym left) ∙ others in
          flat-covers point form (ap (list_all (lit_truth point)) (sym parts) ∙ list_all-append (lit_truth point) firsts rest ∙ and_from _ _ own those) cases;
      each = refl;
      cases = refl;
      placed = placed-range lits [] firsts rest 0 (sym parts) refl;
      left_placed = left-range lits firsts rest at (sym parts) refl;
      some = omega arith;
      reasons = tt;
      fresh = omega (arith, least);
      few = omega arith;
    }

-- and so have those of the tree: split trees below are split trees from the start on
trees-first : (q m n : ℕ) (lits left : List Lit) (cases : List (List Form)) → HaveTrees q (node (lits ++ take n left) (drop n left) cases ∷ []) m → HaveTrees q (node lits left cases ∷ []) m
trees-first q m zero lits left cases have = subst (λ (ls : List Lit). HaveTrees q (node ls left cases ∷ []) m) (append-nil lits) have
trees-first q m (suc n) lits [] cases have = subst (λ (ls : List Lit). HaveTrees q (node ls [] cases ∷ []) m) (append-nil lits) have
trees-first q m (suc n) lits (lit ∷ left) cases have =
    takes_in (node lits (lit ∷ left) cases) [] m 0 lit refl
    (trees-first q m n (lits ++ lit ∷ []) left cases (subst (λ (ls : List Lit). HaveTrees q (node ls (drop n left) cases ∷ []) m) (sym (append_assoc lits (lit ∷ []) (take n left))) have))

pub first-trees : (form : Form) (taken m : ℕ) → HaveTrees (form_end form) (node_of (first_open taken (literals form) (disjunctions form)) ∷ []) m → HaveTrees (form_end form) (start form ∷ []) m
first-trees form taken m have =
    let firsts = take taken (literals form) in
    let rest = drop taken (literals form) in
    trees-first (form_end form) m taken [] (literals form) (disjunctions form) (subst (λ (ls : List Lit). HaveTrees (form_end form) (node firsts ls (disjunctions form) ∷ []) m) (left-lits (length firsts) rest) have)

-- `at` literals have joined, where no more are to join or there are no more
pub record FirstAt (at taken : ℕ) (lits : List Lit) : Type 0 where
  pub firsts : take at lits ≡ take taken lits
  pub long : length (take taken lits) ≡ at
  pub rest : drop at lits ≡ drop taken lits

pub first-at : (at taken : ℕ) (lits : List Lit) → at ≤ length lits → at ≤ taken → (at < taken → at < length lits → ⊥) → FirstAt at taken lits
first-at zero zero lits within few never = record { firsts = refl; long = refl; rest = refl }
first-at zero (suc taken) [] within few never = record { firsts = refl; long = refl; rest = refl }
first-at zero (suc taken) (lit ∷ lits) within few never = absurd (never (omega arith) (omega arith))
first-at (suc at) zero lits within few never = absurd (omega (arith, few))
first-at (suc at) (suc taken) [] within few never = absurd (omega (arith, within))
first-at (suc at) (suc taken) (lit ∷ lits) within few never =
    let behind = first-at at taken lits (omega (arith, within)) (omega (arith, few)) (λ less there. never (omega (arith, less)) (omega (arith, there))) in
    let long = behind.long in
    record { firsts = ap (λ (ls : List Lit). lit ∷ ls) behind.firsts; long = omega (arith, long); rest = behind.rest }

pub open-is : (o : Open) (at taken : ℕ) (lits : List Lit) (cases : List (List Form)) → FirstAt at taken lits → o.lits ≡ take at lits → o.numbers ≡ range_with_len 0 at → o.reasons ≡ [] → o.known ≡ length lits → o.left_out ≡ left_from at (drop at lits) → o.cases ≡ cases → o ≡ first_open taken lits cases
open-is o at taken lits cases is own numbers reasons known left open_cases =
    let made : List Lit → List ℕ → List ℕ → ℕ → List LeftOut → List (List Form) → Open = λ a b c d e f. record { lits = a; numbers = b; reasons = c; known = d; left_out = e; cases = f } in
    let n = length (take taken lits) in
    ap (λ (a : List Lit). made a o.numbers o.reasons o.known o.left_out o.cases) (own ∙ is.firsts)
    ∙ ap (λ (b : List ℕ). made (take taken lits) b o.reasons o.known o.left_out o.cases) (numbers ∙ ap (range_with_len 0) (sym is.long))
    ∙ ap (λ (c : List ℕ). made (take taken lits) (range_with_len 0 n) c o.known o.left_out o.cases) reasons
    ∙ ap (λ (d : ℕ). made (take taken lits) (range_with_len 0 n) [] d o.left_out o.cases) known
    ∙ ap (λ (e : List LeftOut). made (take taken lits) (range_with_len 0 n) [] (length lits) e o.cases) (left ∙ ap (λ (k : ℕ). left_from k (drop at lits)) (sym is.long) ∙ ap (left_from n) is.rest)
    ∙ ap (λ (f : List (List Form)). made (take taken lits) (range_with_len 0 n) [] (length lits) (left_from n (drop taken lits)) f) open_cases

-- one literal more has joined
pub take-more : (lits : List Lit) (n : ℕ) (d : Lit) → n < length lits → take (n + 1) lits ≡ take n lits ++ slice_index_or lits n d ∷ []
take-more [] n d less = absurd (omega (arith, less))
take-more (l ∷ lits) zero d less = refl
take-more (l ∷ lits) (suc n) d less =
    let next : suc n + 1 ≡ suc (n + 1) = omega arith in
    ap (λ (k : ℕ). take k (l ∷ lits)) next ∙ ap (λ (ls : List Lit). l ∷ ls) (take-more lits n d (omega (arith, less)))

pub range-more : (a n k : ℕ) → a + n ≡ k → range_with_len a (n + 1) ≡ range_with_len a n ++ k ∷ []
range-more a zero k e = let same : a ≡ k = omega (arith, e) in ap (λ (m : ℕ). m ∷ []) same
range-more a (suc n) k e =
    let next : suc n + 1 ≡ suc (n + 1) = omega arith in
    ap (range_with_len a) next ∙ ap (λ (ms : List ℕ). a ∷ ms) (range-more (a + 1) n k (omega (arith, e)))

pub lits-more : (lits seen now new : List Lit) (n : ℕ) (x y : Lit) → seen ≡ lits → now ≡ take n lits → n < length lits → y ≡ get_or seen n y → x ≡ y → new ≡ now ++ x ∷ [] → new ≡ take (n + 1) lits
lits-more lits seen now new n x y at so less is copied e =
    let read : x ≡ slice_index_or lits n y = copied ∙ is ∙ ap (λ (ls : List Lit). get_or ls n y) at in
    e ∙ ap (λ (ls : List Lit). ls ++ x ∷ []) so ∙ ap (λ (l : Lit). take n lits ++ l ∷ []) read ∙ sym (take-more lits n y less)
