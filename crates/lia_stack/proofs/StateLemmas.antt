-- What the steps of the code owe, from what is known of the node on top.
use Rattle.std.proofs.Common.{◌≡◌, ℕ, zero, suc, ◌+◌, ◌<◌, ◌≤◌, List, [], ◌∷◌, ◌++◌, length, map, take, reverse, refl, ap, sym, ◌∙◌, subst, arith, get_or, true, false, Bool, not, Option, None, Some}
use Rattle.std.specs.Prelude.{◌^◌, ℤ, pos, neg_ℤ, nat_abs, ◌+ℤ◌, slice_get, slice_index_or}
use Rattle.std.proofs.lemmas.Option.{slice_get-get_or}
use Rattle.std.specs.List.{list_all, list_any}
use Rattle.std.specs.Option.{is_some, option_map_or}
use Rattle.std.proofs.lemmas.Bool.{false≢true}
use Rattle.std.proofs.Math.Seq.{take-length}
use Rattle.base.specs.Limits.{most_rows}
use Rattle.lin_atoms.specs.Denial.{lit_fits}
use Rattle.lin_atoms.specs.Truth.{lit_truth, truth}
use Rattle.lin_atoms.specs.declared.lit.Lit.{Lit}
use Rattle.lin_atoms.proofs.Public.{both_true}
use Rattle.int_rows.specs.Node.{end_of_quotients, system}
use Rattle.refutation_trees.specs.GivenUp.{IsEvidence}
use Rattle.refutation_trees.specs.Flatten.{disjunctions, literals}
use Rattle.refutation_trees.specs.Refutation.{form_end, is_sound, judged, new_variable}
use Rattle.refutation_trees.specs.Split.{HasSolution, HasVertexBetween, HaveTrees, at_least, at_most, is_no_falsehood, leaf, start}
use Rattle.refutation_trees.specs.declared.evidence.Evidence.{Evidence}
use Rattle.refutation_trees.specs.declared.evidence.Evidence.TheVariants.{Row, Coordinate, Rows, Nodes}
use Rattle.refutation_trees.specs.declared.tree.Refutation.{Refutation}
use Rattle.lia_node.specs.Known.{are_known, has_short_constant}
use Rattle.lia_node.proofs.BelowLemmas.{ends-more}
use Rattle.lia_close.specs.Placed.{AreSoundAt, IsSoundAt, Place, root}
use Rattle.lia_close.specs.Said.{ArePlaced, AreReasons}
use Rattle.lia_close.specs.Written.{assembled}
use Rattle.lia_close.specs.declared.written.Step.{Step}
use Rattle.lia_close.specs.declared.written.Step.TheVariants.{Cases, Closed, Split}
use Rattle.lia_close.proofs.Public.{one-tree, root-tree}
use Rattle.lia_node.specs.Tells.{IsEvidenceAt, is_of_node}
use Rattle.lia_stack.specs.Counted.{CountsTo}
use Rattle.lia_stack.specs.Short.{has_short_multiples}
use Rattle.lia_stack.specs.declared.waiting.Open.{Open}
use Rattle.lia_stack.specs.declared.state.Search.{Search}
use Rattle.lia_stack.specs.machinery.Opened.{AreOpen, first_open, left_at, left_lits, node_of, opened_part, with_left_out, with_lit}
use Rattle.lia_stack.specs.machinery.Searched.{Closes, Goes, IsSame, IsSearch, IsSearchOn, Named, Splits, Waits}
use Rattle.lia_stack.proofs.FirstLemmas.{first-open, first-trees}
use Rattle.lia_stack.proofs.NodeLemmas.{nodes_of}
use Rattle.lia_stack.proofs.SearchLemmas.{open-evidence}
use Rattle.lia_stack.proofs.TurnLemmas.{IsTop, branched, closed, joined, parted, refuted, top}

-- whether a node was examined yet, and what else is on the stack, is no part of what is known
pub moved : (s new : Search) (stack : List Open) → new ≡ record s { is_first = new.is_first; stack = new.stack } → IsSearchOn s stack → IsSearchOn new stack
moved s new stack same is = subst (λ (t : Search). IsSearchOn t stack) (sym same) (record {
  end = is.end;
  small = is.small;
  places = is.places;
  waiting = is.waiting;
  refutes = is.refutes;
  splits = is.splits;
  kept = is.kept;
})

zero-more : (m : ℕ) → m ≡ 0 + m
zero-more m = omega arith

-- where a search begins
pub begins : (s : Search) (o : Open) (taken : ℕ) → has_short_multiples s.form.now ≡ true → s.end ≡ form_end s.form.now → form_end s.form.now < 2 ^ 31 → o ≡ first_open taken (literals s.form.now) (disjunctions s.form.now) → s.stack.items ≡ o ∷ [] → s.steps.items ≡ [] → s.kept ≡ None → s.count ≡ 0 → IsSearch s
begins s o taken short end small is stack steps kept count =
    let form = s.form.now in
    let q = form_end form in
    let one = first_open taken (literals form) (disjunctions form) in
    let reversed : reverse s.stack.items ≡ one ∷ [] = ap (λ (os : List Open). reverse os) (stack ∙ ap (λ (w : Open). w ∷ []) is) in
    record {
      end = end;
      small = omega (arith, end, small);
      places = root form ∷ [];
      waiting = subst (λ (os : List Open). AreOpen form os (root form ∷ [])) (sym reversed) (first-open form taken short, tt);
      refutes = λ none trees all. subst (λ (ss : List Step). AreSoundAt q (root form ∷ []) (assembled ss trees)) (sym steps) all;
      splits = λ m have. subst (λ (n : ℕ). HaveTrees q (start form ∷ []) (n + m)) (sym count) (subst (λ (n : ℕ). HaveTrees q (start form ∷ []) n) (zero-more m) (first-trees form taken m (subst (λ (os : List Open). HaveTrees q (map node_of os) m) reversed have)));
      kept = λ evidence there. absurd (no-evidence s.kept evidence kept there);
    } where
      no-evidence : (o : Option Evidence) (evidence : Evidence) → o ≡ None → o ≡ Some evidence → ⊥
      no-evidence o evidence none some = cc

-- as many numbers as literals
pub length-placed : (known lits : List Lit) (ps : List ℕ) → ArePlaced known lits ps → length ps ≡ length lits
length-placed known [] [] are = refl
length-placed known [] (p ∷ ps) are = absurd are
length-placed known (l ∷ lits) [] are = absurd are
length-placed known (l ∷ lits) (p ∷ ps) are = ap suc (length-placed known lits ps are.1)

pub top-numbers : (s : Search) (waiting : Open) → IsTop s waiting → length waiting.numbers ≡ length waiting.lits
top-numbers s waiting t = length-placed t.place.known waiting.lits waiting.numbers t.is.placed

-- a literal that is false by itself is there
pub false-there : (lits : List Lit) (at : ℕ) → option_map_or is_no_falsehood (slice_get lits at) true ≡ false → at < length lits
false-there [] at h = absurd (cc)
false-there (l ∷ lits) zero h = omega arith
false-there (l ∷ lits) (suc at) h = let rest = false-there lits at h in omega (arith, rest)

pub false-lit : (lits : List Lit) (at : ℕ) (d : Lit) → option_map_or is_no_falsehood (slice_get lits at) true ≡ false → is_no_falsehood (get_or lits at d) ≡ false
false-lit [] at d h = absurd (cc)
false-lit (l ∷ lits) zero d h = h
false-lit (l ∷ lits) (suc at) d h = false-lit lits at d h

pub short-lit : (lits : List Lit) (at : ℕ) (d : Lit) → at < length lits → list_all has_short_constant lits ≡ true → has_short_constant (get_or lits at d) ≡ true
short-lit [] at d less h = absurd (omega (arith, less))
short-lit (l ∷ lits) zero d less h = (both_true (has_short_constant l) _ h).0
short-lit (l ∷ lits) (suc at) d less h = short-lit lits at d (omega (arith, less)) (both_true (has_short_constant l) _ h).1

placed-at : (known lits : List Lit) (ps : List ℕ) (at n : ℕ) (d : Lit) → at < length lits → ArePlaced known lits ps → slice_get known (get_or ps at n) ≡ Some (get_or lits at d)
placed-at known [] ps at n d less are = absurd (omega (arith, less))
placed-at known (l ∷ lits) [] at n d less are = absurd are
placed-at known (l ∷ lits) (p ∷ ps) zero n d less are = are.0
placed-at known (l ∷ lits) (p ∷ ps) (suc at) n d less are = placed-at known lits ps at n d (omega (arith, less)) are.1

-- the node is closed by a literal
pub closed-falsely : (s new : Search) (waiting : Open) (at : ℕ) (d : Lit) (tree : Refutation) → IsTop s waiting → option_map_or is_no_falsehood (slice_get waiting.lits at) true ≡ false
    → ((end : ℕ) (place : Place) → length place.known ≡ waiting.known → slice_get place.known (get_or waiting.numbers at 0) ≡ Some (get_or waiting.lits at d) → new_variable end place.known < 2 ^ 32 → IsSoundAt end place tree)
    → new ≡ record s { steps = new.steps } → new.steps.items ≡ s.steps.items ++ Closed tree ∷ [] → Closes s new
closed-falsely s new waiting at d tree t is_false sound same written =
    let q = form_end s.form.now in
    let end = t.end in
    let small = t.small in
    let fresh = t.is.fresh in
    let few = t.is.few in
    let less : new_variable q t.place.known < 2 ^ 32 = omega (arith, end, small, fresh, few) in
    let there = placed-at t.place.known waiting.lits waiting.numbers at 0 d (false-there waiting.lits at is_false) t.is.placed in
    closed s new waiting t tree same written (sound q t.place t.is.each there less)

-- the node is closed by bounds, where all its quotients have names
pub closed-bounds : (s new : Search) (waiting : Open) (lits : List Lit) (numbers : List ℕ) (tree : Refutation) → IsTop s waiting → length waiting.reasons ≡ length waiting.lits → lits ≡ waiting.lits → numbers ≡ waiting.reasons
    → ((place : Place) → length place.known ≡ waiting.known → AreReasons place.known s.end lits numbers → IsSoundAt s.end place tree)
    → new ≡ record s { steps = new.steps } → new.steps.items ≡ s.steps.items ++ Closed tree ∷ [] → Closes s new
closed-bounds s new waiting lits numbers tree t full own own_numbers sound same written =
    let all : take (length waiting.reasons) waiting.lits ≡ waiting.lits = ap (λ (n : ℕ). take n waiting.lits) full ∙ take-length waiting.lits in
    let reasons : AreReasons t.place.known s.end waiting.lits waiting.reasons = subst (λ (q : ℕ). AreReasons t.place.known q waiting.lits waiting.reasons) (sym t.end) (subst (λ (ls : List Lit). AreReasons t.place.known (form_end s.form.now) ls waiting.reasons) all t.is.reasons) in
    let given : AreReasons t.place.known s.end lits numbers = subst (λ (ls : List Lit). AreReasons t.place.known s.end ls numbers) (sym own) (subst (λ (ns : List ℕ). AreReasons t.place.known s.end waiting.lits ns) (sym own_numbers) reasons) in
    let whole : IsSoundAt (form_end s.form.now) t.place tree = subst (λ (q : ℕ). IsSoundAt q t.place tree) t.end (sound t.place t.is.each given) in
    closed s new waiting t tree same written whole

-- what was changed before leaves the form and the number of inner nodes
pub same-then : (old s new : Search) → IsSame old s → IsSame s new → IsSame old new
same-then old s new before after = record { form = after.form ∙ before.form; end = after.end ∙ before.end; nodes = after.nodes ∙ before.nodes }

pub closes-after : (old s new : Search) → IsSame old s → s.count ≡ old.count → s.stack.items ≡ old.stack.items → Closes s new → Closes old new
closes-after old s new same count stack c = record { is = c.is; same = same-then old s new same c.same; count = c.count ∙ count; stack = c.stack ∙ stack }

pub splits-after : (old s new : Search) → IsSame old s → s.count ≡ old.count → Splits s new → Splits old new
splits-after old s new same count c = record { is = c.is; same = same-then old s new same c.same; count = c.count ∙ ap (λ (n : ℕ). n + 1) count }

-- where only names were written
pub named-steps : (old s : Search) → s ≡ record old { steps = s.steps } → IsSame old s
named-steps old s same = subst (λ (t : Search). IsSame old t) (sym same) (record { form = refl; end = refl; nodes = refl })

pub named-count : (old s : Search) → s ≡ record old { steps = s.steps } → s.count ≡ old.count
named-count old s same = ap (λ (t : Search). t.count) same

pub named-stack : (old s : Search) → s ≡ record old { steps = s.steps } → s.stack.items ≡ old.stack.items
named-stack old s same = ap (λ (t : Search). t.stack.items) same

-- and what is known of the literals is known where they have their names
pub named-keeps : (P : ℕ → List Lit → Type 0) (old new : Search) (before after : Open) → Named old before new after → P old.end before.lits → P new.end after.lits
named-keeps P old new before after n p = subst (λ (q : ℕ). P q after.lits) (sym (ap (λ (t : Search). t.end) n.steps)) (subst (λ (ls : List Lit). P old.end ls) (sym n.lits) p)

pub closes-named : (old s new : Search) (before after : Open) → Named old before s after → Closes s new → Closes old new
closes-named old s new before after n = closes-after old s new (named-steps old s n.steps) (named-count old s n.steps) (named-stack old s n.steps)

pub splits-named : (old s new : Search) (before after : Open) → Named old before s after → Splits s new → Splits old new
splits-named old s new before after n = splits-after old s new (named-steps old s n.steps) (named-count old s n.steps)

-- the two sides of a branch, where all quotients have their names
pub sided : (s new : Search) (waiting : Open) (x : ℕ) (c : ℤ) → Waits s waiting → length waiting.reasons ≡ length waiting.lits → HasSolution s.end waiting.lits → HasVertexBetween (system s.end waiting.lits) x c → nat_abs c ≤ 2 ^ 63
    → new ≡ record s { steps = new.steps; stack = new.stack; count = s.count + 1 } → new.steps.items ≡ s.steps.items ++ Split (record { terms = (x, pos 1) ∷ []; constant = neg_ℤ c }) ∷ []
    → reverse new.stack.items ≡ with_lit waiting (at_most x c) ∷ with_lit waiting (at_least x (c +ℤ pos 1)) ∷ reverse s.stack.items → Splits s new
sided s new waiting x c is full solution vertex room same written stacked =
    let t = top s waiting is in
    branched s new waiting x c t full (subst (λ (q : ℕ). HasSolution q waiting.lits) t.end solution) (subst (λ (q : ℕ). HasVertexBetween (system q waiting.lits) x c) t.end vertex) room same written stacked

-- the parts of a disjunction, with the literals as they were before their names
pub parted-named : (old s new : Search) (before after : Open) (which : ℕ) → Named old before s after → HasSolution old.end before.lits → which < length after.cases
    → new ≡ record s { steps = new.steps; stack = new.stack; count = s.count + 1 } → new.steps.items ≡ s.steps.items ++ Cases which (length (slice_index_or after.cases which [])) ∷ []
    → reverse new.stack.items ≡ map (opened_part which after) (slice_index_or after.cases which []) ++ reverse s.stack.items → Splits old new
parted-named old s new before after which n solution less same written stacked =
    let t = top s after n.is in
    let own : HasSolution s.end after.lits = named-keeps (λ q lits. HasSolution q lits) old s before after n solution in
    splits-named old s new before after n
    (parted s new after which (slice_index_or after.cases which []) t n.full (subst (λ (q : ℕ). HasSolution q after.lits) t.end own) (slice_get-get_or after.cases which [] less) same written stacked)

-- evidence of a node counts none
pub counts-none : (n : ℕ) (evidence : Evidence) → is_of_node evidence ≡ true → CountsTo n evidence
counts-none n (Row lits basis entry) h = tt
counts-none n (Coordinate lits basis outside variable) h = tt
counts-none n (Rows lits) h = tt
counts-none n (Nodes nodes) h = absurd (cc)

pub top-evidence : (s : Search) (waiting : Open) (evidence : Evidence) → IsTop s waiting → IsEvidenceAt s.end waiting.lits evidence → is_of_node evidence ≡ true → IsEvidence s.form.now evidence × CountsTo s.nodes evidence
top-evidence s waiting evidence t at of_node = (open-evidence s.form.now waiting t.place s.end evidence t.is t.end at, counts-none s.nodes evidence of_node)

-- a node that isn't closed is left, and evidence is kept
pub left : (s new : Search) (waiting : Open) → IsTop s waiting → new ≡ record s { kept = new.kept } → (new.kept ≡ None → ⊥) → ((evidence : Evidence) → new.kept ≡ Some evidence → IsEvidence s.form.now evidence × CountsTo s.nodes evidence) → Goes s waiting new
left s new waiting t same some kept = subst (Goes s waiting) (sym same) (record {
  is = record {
    end = t.end;
    small = t.small;
    places = t.rest;
    waiting = t.others;
    refutes = λ none trees all. absurd (some none);
    splits = λ m have. t.splits m (leaf (node_of waiting) (nodes_of s.stack.items) m have);
    kept = kept;
  };
  same = record { form = refl; end = refl; nodes = refl };
  count = refl;
  less = omega arith;
})

-- evidence is kept where none was
pub left-first : (s : Search) (waiting : Open) (evidence : Evidence) → IsTop s waiting → IsEvidenceAt s.end waiting.lits evidence → is_of_node evidence ≡ true → Goes s waiting (record s { kept = Some evidence })
left-first s waiting evidence t at of_node =
    left s (record s { kept = Some evidence }) waiting t refl (λ none. absurd (cc))
    (λ other is. let same : evidence ≡ other = cc in subst (λ (e : Evidence). IsEvidence s.form.now e × CountsTo s.nodes e) same (top-evidence s waiting evidence t at of_node))

-- and otherwise the first stays
pub left-again : (s : Search) (waiting : Open) → IsTop s waiting → (s.kept ≡ None → ⊥) → Goes s waiting s
left-again s waiting t some = left s s waiting t refl some t.kept

pub some-kept : (o : Option Evidence) (b : Bool) → is_some o ≡ not b → b ≡ false → o ≡ None → ⊥
some-kept o b is answered none = false≢true (ap is_some (sym none) ∙ is ∙ ap not answered)

-- what closing a node, and examining it, ask
pub top-known : (s : Search) (waiting : Open) → IsTop s waiting → are_known s.end waiting.lits ≡ true
top-known s waiting t = subst (λ (q : ℕ). are_known q waiting.lits ≡ true) (sym t.end) t.is.known

pub top-short : (s : Search) (waiting : Open) → IsTop s waiting → list_all has_short_constant waiting.lits ≡ true
top-short s waiting t = t.is.short

pub top-few : (s : Search) (waiting : Open) → IsTop s waiting → end_of_quotients s.end waiting.lits ≤ s.end + most_rows → end_of_quotients s.end waiting.lits < 2 ^ 32
top-few s waiting t few = let small = t.small in omega (arith, small, few)

-- a literal that was left out joins the node
pub joined-at : (s new : Search) (waiting after : Open) (at : ℕ) → IsTop s waiting → at < length waiting.left_out → after ≡ with_left_out waiting at → new ≡ record s { stack = new.stack } → new.stack.items ≡ s.stack.items ++ after ∷ [] → Goes s waiting new
joined-at s new waiting after at t less is same written =
    joined s new waiting t at (left_at waiting.left_out at) (slice_get-get_or waiting.left_out at _ less) same (written ∙ ap (λ (o : Open). s.stack.items ++ o ∷ []) is)

-- a point at which all is true
pub met : (s : Search) (waiting : Open) (point : List ℤ) → IsTop s waiting → length point ≡ end_of_quotients s.end waiting.lits → list_all (lit_truth point) waiting.lits ≡ true → list_all (lit_truth point) (left_lits waiting.left_out) ≡ true → list_all (list_any (truth point)) waiting.cases ≡ true
    → (form_end s.form.now ≤ length point) × (truth point s.form.now ≡ true)
met s waiting point t each lits left cases =
    let least = ends-more s.end waiting.lits in
    let end = t.end in
    (omega (arith, each, least, end), t.is.covers point lits left cases)

-- no node is left: one tree, which refutes the form
pub tree-one : (s : Search) → IsSearch s → s.stack.items ≡ [] → s.kept ≡ None → length (assembled s.steps.items []) ≡ 1
tree-one s is none kept = one-tree (form_end s.form.now) (root s.form.now) (assembled s.steps.items []) (refuted s is none kept)

pub tree-sound : (s : Search) (tree : Refutation) → IsSearch s → s.stack.items ≡ [] → s.kept ≡ None → assembled s.steps.items [] ≡ tree ∷ [] → is_sound (judged lit_fits s.form.now tree) ≡ true
tree-sound s tree is none kept one = root-tree (form_end s.form.now) (root s.form.now) (assembled s.steps.items []) tree one (refuted s is none kept) 0
