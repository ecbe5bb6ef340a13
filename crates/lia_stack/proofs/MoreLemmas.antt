-- A node with a literal more.
use Rattle.std.proofs.Common.{◌≡◌, ℕ, zero, suc, ◌+◌, ◌<◌, ◌≤◌, max, List, [], ◌∷◌, ◌++◌, length, take, drop, refl, ap, sym, ◌∙◌, subst, arith, append-nil, true, Bool, Some}
use Rattle.std.specs.Prelude.{ℤ, slice_get}
use Rattle.std.specs.List.{list_all, list_any}
use Rattle.std.proofs.lemmas.Bool.{and_from, lt-ltb}
use Rattle.std.proofs.Math.Seq.{take-length}
use Rattle.std.proofs.lemmas.List.{length-append, take-append-le}
use Rattle.std.proofs.lemmas.List.Folds.{list_all-append}
use Rattle.base.specs.Limits.{most_rows}
use Rattle.lin_atoms.specs.Denial.{linear_of}
use Rattle.lin_atoms.specs.Truth.{lit_is_below, lit_truth, truth}
use Rattle.lin_atoms.specs.declared.form.Form.{Form}
use Rattle.lin_atoms.specs.declared.lit.Lit.{Lit}
use Rattle.lin_atoms.specs.declared.lit.Lit.TheVariants.{Le, Eq, Div, NDiv}
use Rattle.lin_atoms.proofs.Public.{both_true}
use Rattle.int_rows.specs.Node.{end_of_quotients, quotients}
use Rattle.refutation_trees.specs.Combination.{lits_end, terms_end}
use Rattle.refutation_trees.specs.Refutation.{form_end, new_variable}
use Rattle.refutation_trees.specs.Split.{IsNode, taken_in}
use Rattle.lia_node.specs.Known.{are_known, has_short_constant}
use Rattle.lia_node.proofs.BelowLemmas.{ends-more, terms-weaker}
use Rattle.lia_close.specs.Placed.{Place, with_known}
use Rattle.lia_close.specs.Said.{ArePlaced, AreReasons}
use Rattle.lia_stack.specs.declared.waiting.LeftOut.{LeftOut}
use Rattle.lia_stack.specs.declared.waiting.Open.{Open}
use Rattle.lia_stack.specs.machinery.Opened.{IsOpen, left_at, left_lits, left_numbers, node_of, with_left_out, with_lit}
use Rattle.lia_close.proofs.LeafLemmas.{get-last}
use Rattle.lia_stack.proofs.CoverLemmas.{all-apart, left-covers}
use Rattle.lia_stack.proofs.NameLemmas.{placed-more, placed-push, reasons-more}
use Rattle.lia_stack.proofs.NodeLemmas.{joins, left-split, left-there}

pub known-push : (q : ℕ) (lits : List Lit) (lit : Lit) → are_known q lits ≡ true → lit_is_below (end_of_quotients q lits) lit ≡ true → are_known q (lits ++ lit ∷ []) ≡ true
known-push q [] lit known below = and_from _ _ below refl
known-push q (l ∷ lits) lit known below = let both = both_true (lit_is_below q l) _ known in and_from _ _ both.0 (known-push (q + quotients l) lits lit both.1 below)

pub lit-weaker : (m n : ℕ) (lit : Lit) → m ≤ n → lit_is_below m lit ≡ true → lit_is_below n lit ≡ true
lit-weaker m n (Le lin) le h = terms-weaker m n lin.terms le h
lit-weaker m n (Eq lin) le h = terms-weaker m n lin.terms le h
lit-weaker m n (Div d lin) le h = terms-weaker m n lin.terms le h
lit-weaker m n (NDiv d lin) le h = terms-weaker m n lin.terms le h

-- what is new where a literal joins a node: its number, what becomes known, and what is left out then
pub record Joins (form : Form) (o : Open) (place : Place) (lit : Lit) (p : ℕ) (more : List Lit) (left : List LeftOut) : Type 0 where
  pub is_node : IsNode form (record { lits = o.lits ++ lit ∷ []; left_out = left_lits left; open_cases = o.cases })
  pub below : lit_is_below (end_of_quotients (form_end form) o.lits) lit ≡ true
  pub short : has_short_constant lit ≡ true
  pub left_below : list_all (lit_is_below (form_end form)) (left_lits left) ≡ true
  pub left_short : list_all has_short_constant (left_lits left) ≡ true
  pub left_placed : ArePlaced (place.known ++ more) (left_lits left) (left_numbers left)
  pub covers : (point : List ℤ) → list_all (lit_truth point) (o.lits ++ lit ∷ []) ≡ true → list_all (lit_truth point) (left_lits left) ≡ true → list_all (list_any (truth point)) o.cases ≡ true → truth point form ≡ true
  pub there : slice_get (place.known ++ more) p ≡ Some lit
  pub fresh : new_variable (form_end form) (place.known ++ more) ≡ new_variable (form_end form) place.known

pub open-more : (form : Form) (o : Open) (place : Place) (lit : Lit) (p : ℕ) (more : List Lit) (left : List LeftOut) → IsOpen form o place → Joins form o place lit p more left
    → IsOpen form (record o { lits = o.lits ++ lit ∷ []; numbers = o.numbers ++ p ∷ []; known = o.known + length more; left_out = left }) (with_known place more)
open-more form o place lit p more left is new =
    let q = form_end form in
    let n = length o.reasons in
    let same : take n (o.lits ++ lit ∷ []) ≡ take n o.lits = take-append-le n o.lits (lit ∷ []) is.some in
    record {
      is_node = new.is_node;
      known = known-push q o.lits lit is.known new.below;
      short = list_all-append has_short_constant o.lits (lit ∷ []) ∙ and_from _ _ is.short (and_from _ _ new.short refl);
      left_below = new.left_below;
      left_short = new.left_short;
      cases_below = is.cases_below;
      cases_short = is.cases_short;
      covers = new.covers;
      each = length-append place.known more ∙ ap (λ (k : ℕ). k + length more) is.each;
      cases = is.cases;
      placed = placed-push (place.known ++ more) o.lits o.numbers lit p (placed-more place.known more o.lits o.numbers is.placed) new.there;
      left_placed = new.left_placed;
      some = let long = length-append o.lits (lit ∷ []) in let was = is.some in omega (arith, was, long);
      reasons = subst (λ (ls : List Lit). AreReasons (place.known ++ more) q ls o.reasons) (sym same) (reasons-more place.known more q (take n o.lits) o.reasons is.reasons);
      fresh = new.fresh ∙ is.fresh ∙ ap (end_of_quotients q) (sym same);
      few = subst (λ (ls : List Lit). end_of_quotients q ls ≤ q + most_rows) (sym same) is.few;
    }

-- a literal that was left out stands at its number
left-number : (known : List Lit) (left : List LeftOut) (at : ℕ) (l : LeftOut) → ArePlaced known (left_lits left) (left_numbers left) → slice_get left at ≡ Some l → slice_get known (left_at left at).number ≡ Some (left_at left at).lit
left-number known [] at l are there = absurd (cc)
left-number known (x ∷ left) zero l are there = are.0
left-number known (x ∷ left) (suc at) l are there = left-number known left at l are.1 there

-- those that stay are as they were
left-gone : (known : List Lit) (left : List LeftOut) (at : ℕ) → ArePlaced known (left_lits left) (left_numbers left) → ArePlaced known (left_lits (take at left ++ drop (at + 1) left)) (left_numbers (take at left ++ drop (at + 1) left))
left-gone known [] zero are = tt
left-gone known [] (suc at) are = let next : suc (at + 1) ≡ suc at + 1 = omega arith in subst (λ (n : ℕ). ArePlaced known (left_lits (drop n [])) (left_numbers (drop n []))) next tt
left-gone known (x ∷ left) zero are = are.1
left-gone known (x ∷ left) (suc at) are =
    let next : suc (at + 1) ≡ suc at + 1 = omega arith in
    let rest = left-gone known left at are.1 in
    subst (λ (n : ℕ). ArePlaced known (left_lits (take (suc at) (x ∷ left) ++ drop n (x ∷ left))) (left_numbers (take (suc at) (x ∷ left) ++ drop n (x ∷ left)))) next (are.0, rest)

all-but : (p : Lit → Bool) (lits : List Lit) (at : ℕ) → list_all p lits ≡ true → list_all p (take at lits ++ drop (at + 1) lits) ≡ true
all-but p [] zero h = refl
all-but p [] (suc at) h = let next : suc at + 1 ≡ suc (at + 1) = omega arith in ap (λ (n : ℕ). list_all p (drop {A = Lit} n [])) next
all-but p (l ∷ lits) zero h = (both_true (p l) _ h).1
all-but p (l ∷ lits) (suc at) h =
    let both = both_true (p l) _ h in
    let next : suc at + 1 ≡ suc (at + 1) = omega arith in
    ap (λ (n : ℕ). list_all p (take (suc at) (l ∷ lits) ++ drop n (l ∷ lits))) next ∙ and_from _ _ both.0 (all-but p lits at both.1)

all-gone : (p : Lit → Bool) (left : List LeftOut) (at : ℕ) → list_all p (left_lits left) ≡ true → list_all p (left_lits (take at left ++ drop (at + 1) left)) ≡ true
all-gone p left at h = ap (list_all p) (left-split left at) ∙ all-but p (left_lits left) at h

one-of : (p : Lit → Bool) (left : List LeftOut) (at : ℕ) (l : LeftOut) → slice_get left at ≡ Some l → list_all p (left_lits left) ≡ true → p (left_at left at).lit ≡ true
one-of p [] at l there h = absurd (cc)
one-of p (x ∷ left) zero l there h = (both_true (p x.lit) _ h).0
one-of p (x ∷ left) (suc at) l there h = one-of p left at l there (both_true (p x.lit) _ h).1

-- a literal that was left out joins
pub open-joined : (form : Form) (o : Open) (place : Place) (at : ℕ) (l : LeftOut) → IsOpen form o place → slice_get o.left_out at ≡ Some l → IsOpen form (with_left_out o at) place
open-joined form o place at l is there =
    let q = form_end form in
    let one = left_at o.left_out at in
    let left = take at o.left_out ++ drop (at + 1) o.left_out in
    let known : place.known ++ [] ≡ place.known = append-nil place.known in
    let new : Joins form o place one.lit one.number [] left = record {
      is_node = taken_in (node_of o) (node_of (with_left_out o at)) at one.lit is.is_node (left-there o.left_out at l there) (joins o at);
      below = lit-weaker q (end_of_quotients q o.lits) one.lit (ends-more q o.lits) (one-of (lit_is_below q) o.left_out at l there is.left_below);
      short = one-of has_short_constant o.left_out at l there is.left_short;
      left_below = all-gone (lit_is_below q) o.left_out at is.left_below;
      left_short = all-gone has_short_constant o.left_out at is.left_short;
      left_placed = subst (λ (ls : List Lit). ArePlaced ls (left_lits left) (left_numbers left)) (sym known) (left-gone place.known o.left_out at is.left_placed);
      covers = λ point lits rest cases.
          let both = all-apart (lit_truth point) o.lits (one.lit ∷ []) lits in
          let here = both_true (lit_truth point one.lit) true both.1 in
          let others : list_all (lit_truth point) (take at (left_lits o.left_out) ++ drop (at + 1) (left_lits o.left_out)) ≡ true = ap (list_all (lit_truth point)) (sym (left-split o.left_out at)) ∙ rest in
          is.covers point both.0 (left-covers point (left_lits o.left_out) at one.lit (left-there o.left_out at l there) here.0 others) cases;
      there = ap (λ (ls : List Lit). slice_get ls one.number) known ∙ left-number place.known o.left_out at l is.left_placed there;
      fresh = ap (new_variable q) known;
    } in
    let more = open-more form o place one.lit one.number [] left is new in
    let count : o.known + 0 ≡ o.known = omega arith in
    subst (λ (ls : List Lit). IsOpen form (with_left_out o at) (record { known = ls; cases = place.cases })) known
    (subst (λ (k : ℕ). IsOpen form (record (with_left_out o at) { known = k }) (with_known place [])) count more)

-- a bound on one variable
abbrev pub bound_lit : ℕ → ℤ → ℤ → Lit
bound_lit x a k = Le (record { terms = (x, a) ∷ []; constant = k })

-- a bound on a variable or quotient that is there joins as the last, where all quotients have names
lits_end-push : (lits : List Lit) (lit : Lit) → lits_end (lits ++ lit ∷ []) ≡ max (lits_end lits) (terms_end (linear_of lit).terms)
lits_end-push [] lit = omega arith
lits_end-push (l ∷ lits) lit = let rest = lits_end-push lits lit in omega (arith, rest)

pub open-bound : (form : Form) (o : Open) (place : Place) (x : ℕ) (a k : ℤ) → IsOpen form o place → IsNode form (node_of (with_lit o (bound_lit x a k))) → x < end_of_quotients (form_end form) o.lits → length o.reasons ≡ length o.lits
    → IsOpen form (with_lit o (bound_lit x a k)) (with_known place (bound_lit x a k ∷ []))
open-bound form o place x a k is node less full =
    let q = form_end form in
    let lit = bound_lit x a k in
    let all : take (length o.reasons) o.lits ≡ o.lits = ap (λ (n : ℕ). take n o.lits) full ∙ take-length o.lits in
    let fresh : new_variable q place.known ≡ end_of_quotients q o.lits = is.fresh ∙ ap (end_of_quotients q) all in
    let last = lits_end-push place.known lit in
    open-more form o place lit o.known (lit ∷ []) o.left_out is (record {
      is_node = node;
      below = and_from _ _ (lt-ltb x (end_of_quotients q o.lits) less) refl;
      short = refl;
      left_below = is.left_below;
      left_short = is.left_short;
      left_placed = placed-more place.known (lit ∷ []) (left_lits o.left_out) (left_numbers o.left_out) is.left_placed;
      covers = λ point lits rest cases. is.covers point (all-apart (lit_truth point) o.lits (lit ∷ []) lits).0 rest cases;
      there = ap (λ (n : ℕ). slice_get (place.known ++ lit ∷ []) n) (sym is.each) ∙ get-last place.known lit;
      fresh = omega (arith, fresh, last, less);
    })
