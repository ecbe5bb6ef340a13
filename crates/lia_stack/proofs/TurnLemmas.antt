-- A turn of the search, from what is known of the node on top.
use Rattle.std.proofs.Common.{◌≡◌, ℕ, zero, suc, ◌+◌, ◌-◌, ◌<◌, ◌≤◌, List, [], ◌∷◌, ◌++◌, length, map, take, drop, reverse, refl, ap, sym, ◌∙◌, subst, arith, true, false, Bool, cond, ◌==◌, None, Some, Vec, Global}
use Rattle.std.specs.Prelude.{◌^◌, ℤ, pos, neg_ℤ, nat_abs, ◌+ℤ◌, slice_get}
use Rattle.std.specs.List.{list_all}
use Rattle.std.proofs.lemmas.Bool.{and_from, lt-ltb}
use Rattle.std.proofs.lemmas.Int.{ints}
use Rattle.std.proofs.lemmas.List.Sums.{sum_by_push}
use Rattle.base.specs.Limits.{most_rows}
use Rattle.lin_atoms.specs.Linear.{Linear}
use Rattle.lin_atoms.specs.declared.form.Form.{Form}
use Rattle.lin_atoms.specs.declared.lit.Lit.{Lit}
use Rattle.lin_atoms.specs.declared.lit.Lit.TheVariants.{Le}
use Rattle.int_rows.specs.Node.{end_of_quotients, system}
use Rattle.refutation_trees.specs.Combination.{one_minus}
use Rattle.refutation_trees.specs.GivenUp.{IsEvidence}
use Rattle.refutation_trees.specs.Refutation.{form_end}
use Rattle.refutation_trees.specs.Split.{HasSolution, HasVertexBetween, HaveTrees, Node, at_least, at_most, leaf, start}
use Rattle.refutation_trees.specs.declared.evidence.Evidence.{Evidence}
use Rattle.refutation_trees.specs.declared.tree.Refutation.{Refutation}
use Rattle.refutation_trees.proofs.ForestLemmas.{all-leaves}
use Rattle.lia_node.specs.Known.{is_legal}
use Rattle.lia_close.specs.Placed.{AreSoundAt, IsSoundAt, Place, in_part, root, with_known}
use Rattle.lia_close.specs.Said.{named_by}
use Rattle.lia_close.specs.Written.{assembled, with_step}
use Rattle.lia_close.specs.declared.written.Step.{Step}
use Rattle.lia_close.specs.declared.written.Step.TheVariants.{Cases, Closed, Split}
use Rattle.lia_close.proofs.Public.{assembled-++, assembled-push, reverse-push, sound-parts, sound-sides}
use Rattle.lia_stack.specs.Counted.{CountsTo}
use Rattle.lia_stack.specs.declared.waiting.LeftOut.{LeftOut}
use Rattle.lia_stack.specs.declared.waiting.Open.{Open}
use Rattle.lia_stack.specs.declared.state.Search.{Search}
use Rattle.lia_stack.specs.machinery.Opened.{AreOpen, IsOpen, all_named, named_times, next_lit, next_number, node_of, opened_part, steps_of_names, with_left_out, with_lit, with_name}
use Rattle.lia_stack.specs.machinery.Searched.{Closes, Goes, IsSearch, Named, Splits, Waits, weight, weight_of}
use Rattle.lia_stack.proofs.MoreLemmas.{open-joined}
use Rattle.lia_stack.proofs.NamingLemmas.{names-all}
use Rattle.lia_stack.proofs.NodeLemmas.{named-same, nodes-push, nodes_of, trees-branched, trees-joined, trees-split}
use Rattle.lia_stack.proofs.SearchLemmas.{open-high, open-low, open-parts}

-- the node that was taken off the stack with its place, and the rest
pub record IsTop (s : Search) (waiting : Open) : Type 0 where
  pub end : s.end ≡ form_end s.form.now
  pub small : s.end < 2 ^ 31
  pub place : Place
  pub rest : List Place
  pub is : IsOpen s.form.now waiting place
  pub others : AreOpen s.form.now (reverse s.stack.items) rest
  pub refutes : s.kept ≡ None → (trees : List Refutation) → AreSoundAt (form_end s.form.now) (place ∷ rest) trees → AreSoundAt (form_end s.form.now) (root s.form.now ∷ []) (assembled s.steps.items trees)
  pub splits : (m : ℕ) → HaveTrees (form_end s.form.now) (node_of waiting ∷ nodes_of s.stack.items) m → HaveTrees (form_end s.form.now) (start s.form.now ∷ []) (s.count + m)
  pub kept : (evidence : Evidence) → s.kept ≡ Some evidence → IsEvidence s.form.now evidence × CountsTo s.nodes evidence

-- the first place is that of the node on top
first-place : (form : Form) (waiting : Open) (os : List Open) (places : List Place) → AreOpen form (waiting ∷ os) places → (place : Place) × (rest : List Place) × (places ≡ place ∷ rest) × IsOpen form waiting place × AreOpen form os rest
first-place form waiting os [] are = absurd are
first-place form waiting os (place ∷ rest) are = (place, rest, refl, are.0, are.1)

pub top : (s : Search) (waiting : Open) → Waits s waiting → IsTop s waiting
top s waiting w =
    let form = s.form.now in
    let stacked : reverse (s.stack.items ++ waiting ∷ []) ≡ waiting ∷ reverse s.stack.items = reverse-push s.stack.items waiting in
    let found = first-place form waiting (reverse s.stack.items) w.places (subst (λ (os : List Open). AreOpen form os w.places) stacked w.waiting) in
    record {
      end = w.end;
      small = w.small;
      place = found.0;
      rest = found.1;
      is = found.3;
      others = found.4;
      refutes = subst (λ (ps : List Place). s.kept ≡ None → (trees : List Refutation) → AreSoundAt (form_end form) ps trees → AreSoundAt (form_end form) (root form ∷ []) (assembled s.steps.items trees)) found.2 w.refutes;
      splits = λ m have. w.splits m (subst (λ (ns : List Node). HaveTrees (form_end form) ns m) (sym (nodes-push s.stack.items (s.stack.items ++ waiting ∷ []) waiting refl)) have);
      kept = w.kept;
    }

-- the node is closed by a tree that is sound where its own stands
pub closed : (s new : Search) (waiting : Open) (t : IsTop s waiting) (tree : Refutation) → new ≡ record s { steps = new.steps } → new.steps.items ≡ s.steps.items ++ Closed tree ∷ [] → IsSoundAt (form_end s.form.now) t.place tree → Closes s new
closed s new waiting t tree same written sound = subst (Closes s) (sym same) (record {
  is = record {
    end = t.end;
    small = t.small;
    places = t.rest;
    waiting = t.others;
    refutes = λ none trees all. subst (AreSoundAt (form_end s.form.now) (root s.form.now ∷ [])) (sym (assembled-push s.steps.items new.steps.items (Closed tree) trees written)) (t.refutes none (tree ∷ trees) (sound, all));
    splits = λ m have. t.splits m (leaf (node_of waiting) (nodes_of s.stack.items) m have);
    kept = t.kept;
  };
  same = record { form = refl; end = refl; nodes = refl };
  count = refl;
  stack = refl;
})

-- a literal that was left out joins the node
length-gone : (left : List LeftOut) (at : ℕ) (l : LeftOut) → slice_get left at ≡ Some l → length (take at left ++ drop (at + 1) left) + 1 ≡ length left
length-gone [] at l there = absurd (cc)
length-gone (x ∷ left) zero l there = let one : length left + 1 ≡ suc (length left) = omega arith in one
length-gone (x ∷ left) (suc at) l there =
    let next : suc at + 1 ≡ suc (at + 1) = omega arith in
    let rest = length-gone left at l there in
    let same : length (take (suc at) (x ∷ left) ++ drop (suc at + 1) (x ∷ left)) ≡ length (take at left ++ drop (at + 1) left) + 1 = ap (λ (n : ℕ). length (take (suc at) (x ∷ left) ++ drop n (x ∷ left))) next ∙ (let one : suc (length (take at left ++ drop (at + 1) left)) ≡ length (take at left ++ drop (at + 1) left) + 1 = omega arith in one) in
    omega (arith, rest, same)

pub joined : (s new : Search) (waiting : Open) (t : IsTop s waiting) (at : ℕ) (l : LeftOut) → slice_get waiting.left_out at ≡ Some l → new ≡ record s { stack = new.stack } → new.stack.items ≡ s.stack.items ++ with_left_out waiting at ∷ [] → Goes s waiting new
joined s new waiting t at l there same written =
    let form = s.form.now in
    let q = form_end form in
    let more = with_left_out waiting at in
    let stacked : reverse new.stack.items ≡ more ∷ reverse s.stack.items = ap reverse written ∙ reverse-push s.stack.items more in
    let weighed : weight new.stack.items ≡ weight s.stack.items + weight_of more = ap weight written ∙ sum_by_push weight_of s.stack.items more in
    let gone = length-gone waiting.left_out at l there in
    subst (Goes s waiting) (sym same) (record {
      is = record {
        end = t.end;
        small = t.small;
        places = t.place ∷ t.rest;
        waiting = subst (λ (os : List Open). AreOpen form os (t.place ∷ t.rest)) (sym stacked) (open-joined form waiting t.place at l t.is there, t.others);
        refutes = t.refutes;
        splits = λ m have. t.splits m (subst (λ (ns : List Node). HaveTrees q ns m) (nodes-push s.stack.items (s.stack.items ++ waiting ∷ []) waiting refl) (trees-joined q m at s.stack.items waiting l there (subst (λ (os : List Open). HaveTrees q (nodes_of os) m) written have)));
        kept = t.kept;
      };
      same = record { form = refl; end = refl; nodes = refl };
      count = refl;
      less = omega (arith, weighed, gone);
    })

-- the quotients of all its literals get their names: what stands on the stack, and what is found for it, stay
pub named : (s : Search) (waiting : Open) (steps : Vec Step Global) → IsTop s waiting → list_all is_legal waiting.lits ≡ true → end_of_quotients (form_end s.form.now) waiting.lits ≤ form_end s.form.now + most_rows → steps.items ≡ s.steps.items ++ steps_of_names waiting → IsTop (record s { steps = steps }) (all_named waiting)
named s waiting steps t legal few written =
    let form = s.form.now in
    let q = form_end form in
    let end = t.end in
    let small = t.small in
    let names = names-all form waiting t.place t.is legal few (omega (arith, end, small)) in
    let same : node_of (all_named waiting) ≡ node_of waiting = named-same (length waiting.lits - length waiting.reasons) waiting in
    record {
      end = t.end;
      small = t.small;
      place = names.behind;
      rest = t.rest;
      is = names.is;
      others = t.others;
      refutes = λ none trees all. subst (AreSoundAt q (root form ∷ [])) (sym (ap (λ (ss : List Step). assembled ss trees) written ∙ assembled-++ s.steps.items (steps_of_names waiting) trees)) (t.refutes none (assembled (steps_of_names waiting) trees) (names.sound t.rest trees all));
      splits = λ m have. t.splits m (subst (λ (n : Node). HaveTrees q (n ∷ nodes_of s.stack.items) m) same have);
      kept = t.kept;
    }

-- and back onto the stack
pub waits : (s : Search) (waiting : Open) → IsTop s waiting → Waits s waiting
waits s waiting t =
    let form = s.form.now in
    let stacked : reverse (s.stack.items ++ waiting ∷ []) ≡ waiting ∷ reverse s.stack.items = reverse-push s.stack.items waiting in
    record {
      end = t.end;
      small = t.small;
      places = t.place ∷ t.rest;
      waiting = subst (λ (os : List Open). AreOpen form os (t.place ∷ t.rest)) (sym stacked) (t.is, t.others);
      refutes = t.refutes;
      splits = λ m have. t.splits m (subst (λ (ns : List Node). HaveTrees (form_end form) ns m) (nodes-push s.stack.items (s.stack.items ++ waiting ∷ []) waiting refl) have);
      kept = t.kept;
    }

named-cases : (o : Open) (b : Bool) → (cond b (record o { reasons = o.reasons ++ next_number o ∷ [] }) (record o { reasons = o.reasons ++ o.known ∷ []; known = o.known + named_by (next_lit o) })).cases ≡ o.cases
named-cases o true = refl
named-cases o false = refl

cases-times : (n : ℕ) (o : Open) → (named_times n o).cases ≡ o.cases
cases-times zero o = refl
cases-times (suc n) o = cases-times n (with_name o) ∙ named-cases o (named_by (next_lit o) == 0)

pub all-named : (s new : Search) (waiting after : Open) → IsTop s waiting → list_all is_legal waiting.lits ≡ true → end_of_quotients s.end waiting.lits ≤ s.end + most_rows
    → after ≡ all_named waiting → new ≡ record s { steps = new.steps } → new.steps.items ≡ s.steps.items ++ steps_of_names waiting → Named s waiting new after
all-named s new waiting after t legal few is same written =
    let q = form_end s.form.now in
    let end = t.end in
    let small = t.small in
    let fewer : end_of_quotients q waiting.lits ≤ q + most_rows = subst (λ (n : ℕ). end_of_quotients n waiting.lits ≤ n + most_rows) end few in
    let names = names-all s.form.now waiting t.place t.is legal fewer (omega (arith, end, small)) in
    let made : Named s waiting (record s { steps = new.steps }) (all_named waiting) = record {
      is = waits (record s { steps = new.steps }) (all_named waiting) (named s waiting new.steps t legal fewer written);
      steps = refl;
      lits = names.lits;
      cases = cases-times (length waiting.lits - length waiting.reasons) waiting;
      full = names.full;
    } in
    subst (λ (o : Open). Named s waiting new o) (sym is) (subst (λ (n : Search). Named s waiting n (all_named waiting)) (sym same) made)

-- the sides of a branch stand on the stack in place of the node
pub branched : (s new : Search) (waiting : Open) (x : ℕ) (c : ℤ) → IsTop s waiting → length waiting.reasons ≡ length waiting.lits → HasSolution (form_end s.form.now) waiting.lits → HasVertexBetween (system (form_end s.form.now) waiting.lits) x c → nat_abs c ≤ 2 ^ 63
    → new ≡ record s { steps = new.steps; stack = new.stack; count = s.count + 1 } → new.steps.items ≡ s.steps.items ++ Split (record { terms = (x, pos 1) ∷ []; constant = neg_ℤ c }) ∷ []
    → reverse new.stack.items ≡ with_lit waiting (at_most x c) ∷ with_lit waiting (at_least x (c +ℤ pos 1)) ∷ reverse s.stack.items → Splits s new
branched s new waiting x c t full solution vertex room same written stacked =
    let form = s.form.now in
    let q = form_end form in
    let lin : Linear = record { terms = (x, pos 1) ∷ []; constant = neg_ℤ c } in
    let low = at_most x c in
    let high = at_least x (c +ℤ pos 1) in
    let turned : neg_ℤ (neg_ℤ c) +ℤ pos 1 ≡ c +ℤ pos 1 = omega (arith, ints) in
    let above : Le (one_minus lin) ≡ high = ap (λ (k : ℤ). Le (record { terms = (x, neg_ℤ (pos 1)) ∷ []; constant = k })) turned in
    let low_fits : nat_abs (neg_ℤ c) < 2 ^ 64 = omega (arith, ints, room) in
    let high_fits : nat_abs (neg_ℤ (neg_ℤ c) +ℤ pos 1) < 2 ^ 64 = omega (arith, ints, room) in
    let count : (m : ℕ) → s.count + suc m ≡ s.count + 1 + m = λ m. omega arith in
    subst (Splits s) (sym same) (record {
      is = record {
        end = t.end;
        small = t.small;
        places = with_known t.place (low ∷ []) ∷ with_known t.place (high ∷ []) ∷ t.rest;
        waiting = subst (λ (os : List Open). AreOpen form os (with_known t.place (low ∷ []) ∷ with_known t.place (high ∷ []) ∷ t.rest)) (sym stacked) (open-low form waiting t.place x c t.is solution vertex full, (open-high form waiting t.place x c t.is solution vertex full, t.others));
        refutes = λ none trees all.
            let sides = subst (λ (l : Lit). AreSoundAt q (with_known t.place (low ∷ []) ∷ with_known t.place (l ∷ []) ∷ t.rest) trees) (sym above) all in
            subst (AreSoundAt q (root form ∷ [])) (sym (assembled-push s.steps.items new.steps.items (Split lin) trees written)) (t.refutes none (with_step (Split lin) trees) (sound-sides q t.place t.rest lin trees (and_from _ _ refl (lt-ltb _ _ low_fits)) (and_from _ _ refl (lt-ltb _ _ high_fits)) sides));
        splits = λ m have. subst (HaveTrees q (start form ∷ [])) (count m)
            (t.splits (suc m) (subst (λ (ns : List Node). HaveTrees q ns (suc m)) (nodes-push s.stack.items (s.stack.items ++ waiting ∷ []) waiting refl) (trees-branched q m x c s.stack.items new.stack.items waiting waiting refl solution vertex stacked have)));
        kept = t.kept;
      };
      same = record { form = refl; end = refl; nodes = refl };
      count = refl;
    })

-- and so do the parts of a disjunction
open-++ : (form : Form) (these those : List Open) (places others : List Place) → AreOpen form these places → AreOpen form those others → AreOpen form (these ++ those) (places ++ others)
open-++ form [] those [] others are more = more
open-++ form [] those (place ∷ places) others are more = absurd are
open-++ form (o ∷ these) those [] others are more = absurd are
open-++ form (o ∷ these) those (place ∷ places) others are more = (are.0, open-++ form these those places others are.1 more)

pub parted : (s new : Search) (waiting : Open) (which : ℕ) (parts : List Form) → IsTop s waiting → length waiting.reasons ≡ length waiting.lits → HasSolution (form_end s.form.now) waiting.lits → slice_get waiting.cases which ≡ Some parts
    → new ≡ record s { steps = new.steps; stack = new.stack; count = s.count + 1 } → new.steps.items ≡ s.steps.items ++ Cases which (length parts) ∷ []
    → reverse new.stack.items ≡ map (opened_part which waiting) parts ++ reverse s.stack.items → Splits s new
parted s new waiting which parts t full solution there same written stacked =
    let form = s.form.now in
    let q = form_end form in
    let opened = map (in_part which t.place) parts in
    let place_parts : slice_get t.place.cases which ≡ Some parts = ap (λ (cs : List (List Form)). slice_get cs which) t.is.cases ∙ there in
    let count : (m : ℕ) → s.count + suc m ≡ s.count + 1 + m = λ m. omega arith in
    subst (Splits s) (sym same) (record {
      is = record {
        end = t.end;
        small = t.small;
        places = opened ++ t.rest;
        waiting = subst (λ (os : List Open). AreOpen form os (opened ++ t.rest)) (sym stacked) (open-++ form (map (opened_part which waiting) parts) (reverse s.stack.items) opened t.rest (open-parts form waiting t.place which parts parts t.is solution full there (λ part inside. inside)) t.others);
        refutes = λ none trees all. subst (AreSoundAt q (root form ∷ [])) (sym (assembled-push s.steps.items new.steps.items (Cases which (length parts)) trees written)) (t.refutes none (with_step (Cases which (length parts)) trees) (sound-parts q t.place t.rest which parts trees place_parts all));
        splits = λ m have. subst (HaveTrees q (start form ∷ [])) (count m)
            (t.splits (suc m) (subst (λ (ns : List Node). HaveTrees q ns (suc m)) (nodes-push s.stack.items (s.stack.items ++ waiting ∷ []) waiting refl) (trees-split q m which parts s.stack.items new.stack.items waiting waiting refl solution there stacked have)));
        kept = t.kept;
      };
      same = record { form = refl; end = refl; nodes = refl };
      count = refl;
    })

-- what a search has come to, once no node is left: one sound tree
pub refuted : (s : Search) → IsSearch s → s.stack.items ≡ [] → s.kept ≡ None → AreSoundAt (form_end s.form.now) (root s.form.now ∷ []) (assembled s.steps.items [])
refuted s is none kept = is.refutes kept [] (no-places s.form.now is.places (subst (λ (os : List Open). AreOpen s.form.now (reverse os) is.places) none is.waiting)) where
  no-places : (form : Form) (places : List Place) → AreOpen form [] places → AreSoundAt (form_end form) places []
  no-places form [] are = tt
  no-places form (place ∷ places) are = absurd are

-- as many inner nodes as are allowed
pub counted : (s : Search) → IsSearch s → (n : ℕ) → s.count ≡ n → HaveTrees (form_end s.form.now) (start s.form.now ∷ []) n
counted s is n e =
    let all = is.splits 0 (all-leaves (form_end s.form.now) (nodes_of s.stack.items)) in
    let none : s.count + 0 ≡ n = omega (arith, e) in
    subst (HaveTrees (form_end s.form.now) (start s.form.now ∷ [])) none all
