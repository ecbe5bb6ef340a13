-- Literals of a node get their reasons, and their quotients names.
use Rattle.std.proofs.Common.{◌≡◌, ℕ, zero, suc, ◌+◌, ◌-◌, ◌<◌, ◌≤◌, max, List, [], ◌∷◌, ◌++◌, length, take, refl, ap, sym, ◌∙◌, subst, arith, append_assoc, append-nil, true, false, Bool, cond, ◌==◌, Some}
use Rattle.std.specs.Prelude.{◌^◌, ℤ, pos, neg_ℤ, nat_abs, nat_lt, ◌+ℤ◌, ◌-ℤ◌, slice_get, slice_index_or, if◌then◌else◌}
use Rattle.std.specs.List.{list_all}
use Rattle.std.specs.Option.{option_map_or}
use Rattle.std.proofs.lemmas.Bool.{and_from, eqb-true, lt-ltb, ltb-true}
use Rattle.std.proofs.lemmas.Int.{ints}
use Rattle.std.proofs.lemmas.List.{length-append}
use Rattle.std.proofs.lemmas.List.Folds.{list_all-append}
use Rattle.base.specs.Limits.{most_rows}
use Rattle.lin_atoms.specs.Algebra.{negated_terms}
use Rattle.lin_atoms.specs.Denial.{linear_of, lit_fits}
use Rattle.lin_atoms.specs.Linear.{Linear, are_short, is_linear, is_short}
use Rattle.lin_atoms.specs.declared.form.Form.{Form}
use Rattle.lin_atoms.specs.declared.lit.Lit.{Lit}
use Rattle.lin_atoms.specs.declared.lit.Lit.TheVariants.{Le, Eq, Div, NDiv}
use Rattle.lin_atoms.proofs.LinearLemmas.{are_short-negated}
use Rattle.lin_atoms.proofs.Public.{both_true}
use Rattle.int_rows.specs.Node.{end_of_quotients, quotients}
use Rattle.int_rows.specs.Ready.{has_no_variable}
use Rattle.refutation_trees.specs.Combination.{is_division, lits_end, quotient, terms_end}
use Rattle.refutation_trees.specs.Refutation.{form_end, has_quotient, new_variable, quotient_at}
use Rattle.refutation_trees.specs.declared.tree.Refutation.{Refutation}
use Rattle.lia_node.specs.Known.{has_short_constant, is_legal}
use Rattle.lia_node.proofs.BelowLemmas.{ends-more}
use Rattle.lia_node.proofs.FitLemmas.{linear-parts}
use Rattle.lia_close.specs.Placed.{AreSoundAt, Place, with_known}
use Rattle.lia_close.specs.Said.{AreAt, ArePlaced, AreReasons, named_by, of_division, said_by}
use Rattle.lia_close.specs.Written.{assembled}
use Rattle.lia_close.specs.declared.written.Step.{Step}
use Rattle.lia_close.specs.declared.written.Step.TheVariants.{Named}
use Rattle.lia_close.proofs.Public.{assembled-++, sound-named}
use Rattle.lia_stack.specs.declared.waiting.Open.{Open}
use Rattle.lia_stack.specs.machinery.Opened.{IsOpen, all_named, left_lits, left_numbers, named_times, next_lit, next_number, no_lit, step_of_name, steps_of_names, steps_times, with_name}
use Rattle.lia_stack.proofs.NameLemmas.{placed-more, reasons-more, reasons-push}
use Rattle.lia_stack.proofs.PartLemmas.{lits_end-++}

-- where the node's tree stands behind the next name
abbrev pub named_place : ℕ → Open → Place → Place
named_place q o place = if named_by (next_lit o) == 0 then place else with_known place (quotient_at place.known (next_number o) (new_variable q place.known))

-- the first number above terms of which one comes last, and above negated ones
terms-last : (ts : List (ℕ × ℤ)) (q : ℕ) (a : ℤ) → terms_end (ts ++ (q, a) ∷ []) ≡ max (terms_end ts) (q + 1)
terms-last [] q a = omega arith
terms-last (t ∷ ts) q a = let rest = terms-last ts q a in omega (arith, rest)

terms-turned : (ts : List (ℕ × ℤ)) → terms_end (negated_terms ts) ≡ terms_end ts
terms-turned [] = refl
terms-turned (t ∷ ts) = ap (λ (n : ℕ). max (t.0 + 1) n) (terms-turned ts)

-- what is known of the quotient q of a literal below q ends above it
quotient-end : (q : ℕ) (lit : Lit) → (of_division lit == 0) ≡ false → terms_end (linear_of lit).terms ≤ q → lits_end (quotient q lit) ≡ q + 1
quotient-end q (Le lin) some below = absurd (cc)
quotient-end q (Eq lin) some below = absurd (cc)
quotient-end q (Div n lin) some below = let last = terms-last lin.terms q (neg_ℤ (pos n)) in omega (arith, last, below)
quotient-end q (NDiv n lin) some below =
    let last = terms-last lin.terms q (neg_ℤ (pos n)) in
    let turned = terms-turned (lin.terms ++ (q, neg_ℤ (pos n)) ∷ []) in
    omega (arith, last, turned, below)

-- a literal ends below what is above all of them
found-end : (known : List Lit) (number : ℕ) (lit : Lit) → slice_get known number ≡ Some lit → terms_end (linear_of lit).terms ≤ lits_end known
found-end [] number lit e = absurd (cc)
found-end (l ∷ known) zero lit e = let same : l ≡ lit = cc in subst (λ (m : Lit). terms_end (linear_of m).terms ≤ lits_end (l ∷ known)) same (omega arith)
found-end (l ∷ known) (suc number) lit e = let rest = found-end known number lit e in omega (arith, rest)

-- one that brings a name is a divisibility with a variable
named-division : (lit : Lit) (b : Bool) → has_no_variable lit ≡ b → (cond b 0 (of_division lit) == 0) ≡ false → (b ≡ false) × ((of_division lit == 0) ≡ false)
named-division lit true e h = absurd (cc)
named-division lit false e h = (refl, h)

-- the known literals' variables are below the next quotient's number, and with its name below the one behind it
pub fresh-more : (q : ℕ) (known : List Lit) (number : ℕ) (lit : Lit) → slice_get known number ≡ Some lit → (named_by lit == 0) ≡ false → new_variable q (known ++ quotient_at known number (new_variable q known)) ≡ new_variable q known + 1
fresh-more q known number lit there some =
    let n = new_variable q known in
    let is : quotient_at known number n ≡ quotient n lit = ap (λ o. option_map_or (quotient n) o []) there in
    let below = found-end known number lit there in
    let ends = quotient-end n lit (named-division lit (has_no_variable lit) refl some).1 (omega (arith, below)) in
    let all = lits_end-++ known (quotient n lit) in
    ap (λ (ls : List Lit). new_variable q (known ++ ls)) is ∙ (let whole : new_variable q (known ++ quotient n lit) ≡ n + 1 = omega (arith, all, ends) in whole)

-- names by cases on whether there is no variable
no-quotient : (b : Bool) (n : ℕ) → (cond b 0 (suc n) == 0) ≡ true → cond {A = ℕ} b 0 1 ≡ 0
no-quotient true n none = refl
no-quotient false n none = let same : suc n ≡ 0 = eqb-true _ _ none in absurd (omega (arith, same))

no-name : (b : Bool) → (cond b 0 0 == 0) ≡ false → ⊥
no-name true some = absurd (cc)
no-name false some = absurd (cc)

one-quotient : (b : Bool) (n : ℕ) → (cond b 0 (suc n) == 0) ≡ false → cond {A = ℕ} b 0 1 ≡ 1
one-quotient true n some = absurd (cc)
one-quotient false n some = refl

has-name : (b : Bool) (n : ℕ) → b ≡ false → (cond b 0 (suc n) == 0) ≡ true → ⊥
has-name true n there none = absurd (cc)
has-name false n there none = let same : suc n ≡ 0 = eqb-true _ _ none in absurd (omega (arith, same))

-- the next literal, its number, and what is known of it
next-of : {X : Type 0} (p : X → Bool) (xs : List X) (k : ℕ) (d : X) → k < length xs → list_all p xs ≡ true → p (slice_index_or xs k d) ≡ true
next-of p [] k d less h = absurd (omega (arith, less))
next-of p (x ∷ xs) zero d less h = (both_true (p x) _ h).0
next-of p (x ∷ xs) (suc k) d less h = next-of p xs k d (omega (arith, less)) (both_true (p x) _ h).1

next-placed : (known lits : List Lit) (ps : List ℕ) (k n : ℕ) (d : Lit) → k < length lits → ArePlaced known lits ps → slice_get known (slice_index_or ps k n) ≡ Some (slice_index_or lits k d)
next-placed known [] ps k n d less are = absurd (omega (arith, less))
next-placed known (l ∷ lits) [] k n d less are = absurd are
next-placed known (l ∷ lits) (p ∷ ps) zero n d less are = are.0
next-placed known (l ∷ lits) (p ∷ ps) (suc k) n d less are = next-placed known lits ps k n d (omega (arith, less)) are.1

-- what the next literal brings, by whether its quotient gets a name
quotients-none : (lit : Lit) → (named_by lit == 0) ≡ true → quotients lit ≡ 0
quotients-none (Le lin) none = refl
quotients-none (Eq lin) none = refl
quotients-none (Div n lin) none = no-quotient (length lin.terms == 0) 0 none
quotients-none (NDiv n lin) none = no-quotient (length lin.terms == 0) 1 none

quotients-one : (lit : Lit) → (named_by lit == 0) ≡ false → quotients lit ≡ 1
quotients-one (Le lin) some = absurd (no-name (length lin.terms == 0) some)
quotients-one (Eq lin) some = absurd (no-name (length lin.terms == 0) some)
quotients-one (Div n lin) some = one-quotient (length lin.terms == 0) 0 some
quotients-one (NDiv n lin) some = one-quotient (length lin.terms == 0) 1 some

-- without a name it gives its bounds itself
said-itself : (q : ℕ) (lit : Lit) → (named_by lit == 0) ≡ true → has_no_variable lit ≡ false → said_by q lit ≡ lit ∷ []
said-itself q (Le lin) none there = refl
said-itself q (Eq lin) none there = refl
said-itself q (Div n lin) none there = absurd (has-name (length lin.terms == 0) 0 there none)
said-itself q (NDiv n lin) none there = absurd (has-name (length lin.terms == 0) 1 there none)

-- with one, what is known of the quotient gives them
said-quotient : (q : ℕ) (lit : Lit) → (of_division lit == 0) ≡ false → said_by q lit ≡ quotient q lit
said-quotient q (Le lin) some = absurd (cc)
said-quotient q (Eq lin) some = absurd (cc)
said-quotient q (Div n lin) some = refl
said-quotient q (NDiv n lin) some = refl

length-quotient : (q : ℕ) (lit : Lit) → length (quotient q lit) ≡ of_division lit
length-quotient q (Le lin) = refl
length-quotient q (Eq lin) = refl
length-quotient q (Div n lin) = refl
length-quotient q (NDiv n lin) = refl

named-is : (lit : Lit) (b : Bool) → has_no_variable lit ≡ b → b ≡ false → named_by lit ≡ of_division lit
named-is lit b e some = ap (λ (v : Bool). cond v 0 (of_division lit)) (e ∙ some)

-- what comes last stands behind all that was known
at-end : (known more : List Lit) → AreAt (known ++ more) (length known) more
at-end [] more k lit there = let first : 0 + k ≡ k = omega arith in ap (slice_get more) first ∙ there
at-end (l ∷ known) more k lit there = let next : length (l ∷ known) + k ≡ suc (length known + k) = omega arith in ap (slice_get (l ∷ known ++ more)) next ∙ at-end known more k lit there

alone-there : (known : List Lit) (number : ℕ) (lit : Lit) → slice_get known number ≡ Some lit → AreAt known number (lit ∷ [])
alone-there known number lit there zero l e = let same : lit ≡ l = cc in let place : number + 0 ≡ number = omega arith in ap (slice_get known) place ∙ there ∙ ap Some same
alone-there known number lit there (suc k) l e = absurd (cc)

ends-push : (q : ℕ) (lits : List Lit) (lit : Lit) → end_of_quotients q (lits ++ lit ∷ []) ≡ end_of_quotients q lits + quotients lit
ends-push q [] lit = refl
ends-push q (l ∷ lits) lit = ends-push (q + quotients l) lits lit

ends-taken : (q n : ℕ) (lits : List Lit) → end_of_quotients q (take n lits) ≤ end_of_quotients q lits
ends-taken q zero lits = ends-more q lits
ends-taken q (suc n) [] = omega arith
ends-taken q (suc n) (lit ∷ lits) = ends-taken (q + quotients lit) n lits

taken-more : (lits : List Lit) (n : ℕ) → n < length lits → take (n + 1) lits ≡ take n lits ++ slice_index_or lits n no_lit ∷ []
taken-more [] n less = absurd (omega (arith, less))
taken-more (l ∷ lits) zero less = refl
taken-more (l ∷ lits) (suc n) less =
    let next : suc n + 1 ≡ suc (n + 1) = omega arith in
    ap (λ (k : ℕ). take k (l ∷ lits)) next ∙ ap (λ (ls : List Lit). l ∷ ls) (taken-more lits n (omega (arith, less)))

-- the node with one reason more, and with more literals known, if any
open-reason : (form : Form) (o : Open) (place : Place) (r count : ℕ) (more : List Lit) → IsOpen form o place → length o.reasons < length o.lits → length more ≡ count → (has_no_variable (next_lit o) ≡ false → AreAt (place.known ++ more) r (said_by (end_of_quotients (form_end form) (take (length o.reasons) o.lits)) (next_lit o)))
    → new_variable (form_end form) (place.known ++ more) ≡ new_variable (form_end form) place.known + quotients (next_lit o) → end_of_quotients (form_end form) (take (length o.reasons + 1) o.lits) ≤ form_end form + most_rows
    → IsOpen form (record o { reasons = o.reasons ++ r ∷ []; known = o.known + count }) (with_known place more)
open-reason form o place r count more is less long said fresh few =
    let q = form_end form in
    let n = length o.reasons in
    let lit = next_lit o in
    let known = place.known ++ more in
    let one : length (o.reasons ++ r ∷ []) ≡ n + 1 = length-append o.reasons (r ∷ []) in
    let first : take (length (o.reasons ++ r ∷ [])) o.lits ≡ take n o.lits ++ lit ∷ [] = ap (λ (k : ℕ). take k o.lits) one ∙ taken-more o.lits n less in
    record {
      is_node = is.is_node;
      known = is.known;
      short = is.short;
      left_below = is.left_below;
      left_short = is.left_short;
      cases_below = is.cases_below;
      cases_short = is.cases_short;
      covers = is.covers;
      each = length-append place.known more ∙ ap (λ (k : ℕ). k + length more) is.each ∙ ap (λ (k : ℕ). o.known + k) long;
      cases = is.cases;
      placed = placed-more place.known more o.lits o.numbers is.placed;
      left_placed = placed-more place.known more (left_lits o.left_out) (left_numbers o.left_out) is.left_placed;
      some = omega (arith, one, less);
      reasons = subst (λ (ls : List Lit). AreReasons known q ls (o.reasons ++ r ∷ [])) (sym first) (reasons-push known q (take n o.lits) o.reasons lit r (reasons-more place.known more q (take n o.lits) o.reasons is.reasons) said);
      fresh = fresh ∙ ap (λ (k : ℕ). k + quotients lit) is.fresh ∙ sym (ends-push q (take n o.lits) lit) ∙ ap (end_of_quotients q) (sym first);
      few = subst (λ (k : ℕ). end_of_quotients q (take k o.lits) ≤ q + most_rows) (sym one) few;
    }

-- the next name keeps what the node is
named-step : (form : Form) (o : Open) (place : Place) (b : Bool) → (named_by (next_lit o) == 0) ≡ b → IsOpen form o place → length o.reasons < length o.lits → end_of_quotients (form_end form) (take (length o.reasons + 1) o.lits) ≤ form_end form + most_rows
    → IsOpen form (cond b (record o { reasons = o.reasons ++ next_number o ∷ [] }) (record o { reasons = o.reasons ++ o.known ∷ []; known = o.known + named_by (next_lit o) })) (cond b place (with_known place (quotient_at place.known (next_number o) (new_variable (form_end form) place.known))))
named-step form o place true none is less few =
    let q = form_end form in
    let lit = next_lit o in
    let number = next_number o in
    let there = next-placed place.known o.lits o.numbers (length o.reasons) 0 no_lit less is.placed in
    let known : place.known ++ [] ≡ place.known = append-nil place.known in
    let count : o.known + 0 ≡ o.known = omega arith in
    let none_more : new_variable q (place.known ++ []) ≡ new_variable q place.known + quotients lit =
    let no = quotients-none lit none in let same : new_variable q place.known ≡ new_variable q place.known + quotients lit = omega (arith, no) in ap (new_variable q) known ∙ same in
    let made = open-reason form o place number 0 [] is less refl
    (λ some. subst (AreAt (place.known ++ []) number) (sym (said-itself (end_of_quotients q (take (length o.reasons) o.lits)) lit none some)) (subst (λ (ls : List Lit). AreAt ls number (lit ∷ [])) (sym known) (alone-there place.known number lit there)))
    none_more few in
    subst (λ (ls : List Lit). IsOpen form (record o { reasons = o.reasons ++ number ∷ [] }) (record { known = ls; cases = place.cases })) known
    (subst (λ (k : ℕ). IsOpen form (record o { reasons = o.reasons ++ number ∷ []; known = k }) (with_known place [])) count made)
named-step form o place false some is less few =
    let q = form_end form in
    let lit = next_lit o in
    let number = next_number o in
    let m = new_variable q place.known in
    let there = next-placed place.known o.lits o.numbers (length o.reasons) 0 no_lit less is.placed in
    let more : quotient_at place.known number m ≡ quotient m lit = ap (λ o. option_map_or (quotient m) o []) there in
    let division = named-division lit (has_no_variable lit) refl some in
    let long : length (quotient_at place.known number m) ≡ named_by lit = ap (λ (ls : List Lit). length ls) more ∙ length-quotient m lit ∙ sym (named-is lit (has_no_variable lit) refl division.0) in
    let said : AreAt (place.known ++ quotient_at place.known number m) o.known (said_by (end_of_quotients q (take (length o.reasons) o.lits)) lit) =
    subst (AreAt (place.known ++ quotient_at place.known number m) o.known) (more ∙ ap (λ (k : ℕ). quotient k lit) is.fresh ∙ sym (said-quotient (end_of_quotients q (take (length o.reasons) o.lits)) lit division.1))
    (subst (λ (k : ℕ). AreAt (place.known ++ quotient_at place.known number m) k (quotient_at place.known number m)) is.each (at-end place.known (quotient_at place.known number m))) in
    let one = quotients-one lit some in
    open-reason form o place o.known (named_by lit) (quotient_at place.known number m) is less long (λ known. said)
    (fresh-more q place.known number lit there some ∙ ap (λ (k : ℕ). m + k) (sym one)) few

pub open-named : (form : Form) (o : Open) (place : Place) → IsOpen form o place → length o.reasons < length o.lits → end_of_quotients (form_end form) (take (length o.reasons + 1) o.lits) ≤ form_end form + most_rows
    → IsOpen form (with_name o) (named_place (form_end form) o place)
open-named form o place is less few = named-step form o place (named_by (next_lit o) == 0) refl is less few

-- what is known of its quotient has room
short-terms : (q n : ℕ) (lin : Linear) → n < 2 ^ 63 → is_linear lin ≡ true → are_short (lin.terms ++ (q, neg_ℤ (pos n)) ∷ []) ≡ true
short-terms q n lin small h =
    let less : nat_abs (neg_ℤ (pos n)) < 2 ^ 63 = omega (arith, ints, small) in
    list_all-append (λ (t : ℕ × ℤ). is_short t.1) lin.terms ((q, neg_ℤ (pos n)) ∷ []) ∙ and_from _ _ (linear-parts lin h).1 (and_from _ _ (lt-ltb _ _ less) refl)

quotient-fits : (q : ℕ) (lit : Lit) → is_legal lit ≡ true → has_short_constant lit ≡ true → list_all lit_fits (quotient q lit) ≡ true
quotient-fits q (Le lin) legal short = refl
quotient-fits q (Eq lin) legal short = refl
quotient-fits q (Div n lin) legal short =
    let both = both_true (nat_lt 0 n) _ legal in
    let rest = both_true (nat_lt n (2 ^ 63)) _ both.1 in
    let terms = short-terms q n lin (ltb-true _ _ rest.0) rest.1 in
    and_from _ _ (and_from _ _ terms (lt-ltb _ _ (linear-parts lin rest.1).2)) refl
quotient-fits q (NDiv n lin) legal short =
    let both = both_true (nat_lt 0 n) _ legal in
    let rest = both_true (nat_lt n (2 ^ 63)) _ both.1 in
    let less : n < 2 ^ 63 = ltb-true _ _ rest.0 in
    let some : 0 < n = ltb-true _ _ both.0 in
    let small : nat_abs lin.constant < 2 ^ 63 = ltb-true _ _ short in
    let terms = short-terms q n lin less rest.1 in
    let low : nat_abs (neg_ℤ lin.constant +ℤ pos 1) < 2 ^ 64 = omega (arith, ints, small) in
    let high : nat_abs (lin.constant +ℤ (pos 1 -ℤ pos n)) < 2 ^ 64 = omega (arith, ints, small, less, some) in
    and_from _ _ (and_from _ _ (are_short-negated (lin.terms ++ (q, neg_ℤ (pos n)) ∷ []) ∙ terms) (lt-ltb _ _ low)) (and_from _ _ (and_from _ _ terms (lt-ltb _ _ high)) refl)

division-legal : (lit : Lit) → is_legal lit ≡ true → (of_division lit == 0) ≡ false → is_division lit ≡ true
division-legal (Le lin) legal some = absurd (cc)
division-legal (Eq lin) legal some = absurd (cc)
division-legal (Div n lin) legal some = (both_true (nat_lt 0 n) _ legal).0
division-legal (NDiv n lin) legal some = (both_true (nat_lt 0 n) _ legal).0

step-sound : (end : ℕ) (place : Place) (places : List Place) (number : ℕ) (trees : List Refutation) (b : Bool) → (b ≡ false → has_quotient place.known number (new_variable end place.known) ≡ true) → (b ≡ false → list_all lit_fits (quotient_at place.known number (new_variable end place.known)) ≡ true)
    → AreSoundAt end (cond b place (with_known place (quotient_at place.known number (new_variable end place.known))) ∷ places) trees → AreSoundAt end (place ∷ places) (assembled (cond b [] (Named number ∷ [])) trees)
step-sound end place places number trees true legal room all = all
step-sound end place places number trees false legal room all = sound-named end place places number trees (legal refl) (room refl) all

-- and what is found behind it is found before it
pub sound-name : (form : Form) (o : Open) (place : Place) (places : List Place) (trees : List Refutation) → IsOpen form o place → length o.reasons < length o.lits → list_all is_legal o.lits ≡ true → form_end form + most_rows < 2 ^ 32
    → AreSoundAt (form_end form) (named_place (form_end form) o place ∷ places) trees → AreSoundAt (form_end form) (place ∷ places) (assembled (step_of_name o) trees)
sound-name form o place places trees is more legal few all =
    let q = form_end form in
    let lit = next_lit o in
    let number = next_number o in
    let n = new_variable q place.known in
    let there = next-placed place.known o.lits o.numbers (length o.reasons) 0 no_lit more is.placed in
    let own = next-of is_legal o.lits (length o.reasons) no_lit more legal in
    let short = next-of has_short_constant o.lits (length o.reasons) no_lit more is.short in
    let small : n < 2 ^ 32 = let fresh = is.fresh in let least = is.few in omega (arith, fresh, least, few) in
    step-sound q place places number trees (named_by lit == 0)
    (λ some.
    let division = division-legal lit own (named-division lit (has_no_variable lit) refl some).1 in
    and_from _ _ (ap (λ o. option_map_or is_division o false) there ∙ division) (lt-ltb n (2 ^ 32) small))
    (λ some. ap (λ o. list_all lit_fits (option_map_or (quotient n) o [])) there ∙ quotient-fits n lit own short)
    all

-- a name changes neither the literals nor how many have a reason but for one
step-lits : (o : Open) (b : Bool) → (cond b (record o { reasons = o.reasons ++ next_number o ∷ [] }) (record o { reasons = o.reasons ++ o.known ∷ []; known = o.known + named_by (next_lit o) })).lits ≡ o.lits
step-lits o true = refl
step-lits o false = refl

step-reasons : (o : Open) (b : Bool) → length (cond b (record o { reasons = o.reasons ++ next_number o ∷ [] }) (record o { reasons = o.reasons ++ o.known ∷ []; known = o.known + named_by (next_lit o) })).reasons ≡ length o.reasons + 1
step-reasons o true = length-append o.reasons (next_number o ∷ [])
step-reasons o false = length-append o.reasons (o.known ∷ [])

pub name-lits : (o : Open) → (with_name o).lits ≡ o.lits
name-lits o = step-lits o (named_by (next_lit o) == 0)

pub name-reasons : (o : Open) → length (with_name o).reasons ≡ length o.reasons + 1
name-reasons o = step-reasons o (named_by (next_lit o) == 0)

step-numbers : (o : Open) (b : Bool) → (cond b (record o { reasons = o.reasons ++ next_number o ∷ [] }) (record o { reasons = o.reasons ++ o.known ∷ []; known = o.known + named_by (next_lit o) })).numbers ≡ o.numbers
step-numbers o true = refl
step-numbers o false = refl

pub name-numbers : (o : Open) → (with_name o).numbers ≡ o.numbers
name-numbers o = step-numbers o (named_by (next_lit o) == 0)

-- all names are the next one, and then all that are left
left-more : (o : Open) → length o.reasons < length o.lits → length o.lits - length o.reasons ≡ suc (length (with_name o).lits - length (with_name o).reasons)
left-more o less =
    let lits = ap (λ (ls : List Lit). length ls) (name-lits o) in
    let reasons = name-reasons o in
    omega (arith, less, lits, reasons)

pub all-next : (o : Open) → length o.reasons < length o.lits → all_named o ≡ all_named (with_name o)
all-next o less = ap (λ (n : ℕ). named_times n o) (left-more o less)

pub steps-next : (o : Open) → length o.reasons < length o.lits → steps_of_names o ≡ step_of_name o ++ steps_of_names (with_name o)
steps-next o less = ap (λ (n : ℕ). steps_times n o) (left-more o less)

none-left : (o : Open) → length o.lits ≤ length o.reasons → length o.lits - length o.reasons ≡ 0
none-left o le = omega (arith, le)

pub all-last : (o : Open) → length o.lits ≤ length o.reasons → all_named o ≡ o
all-last o le = ap (λ (n : ℕ). named_times n o) (none-left o le)

pub steps-last : (o : Open) → length o.lits ≤ length o.reasons → steps_of_names o ≡ []
steps-last o le = ap (λ (n : ℕ). steps_times n o) (none-left o le)

-- k names
record NamedTimes (form : Form) (k : ℕ) (o : Open) (place : Place) : Type 0 where
  pub behind : Place
  pub is : IsOpen form (named_times k o) behind
  pub lits : (named_times k o).lits ≡ o.lits
  pub full : length (named_times k o).reasons ≡ length o.reasons + k
  pub sound : (places : List Place) (trees : List Refutation) → AreSoundAt (form_end form) (behind ∷ places) trees → AreSoundAt (form_end form) (place ∷ places) (assembled (steps_times k o) trees)

names-times : (form : Form) (k : ℕ) (o : Open) (place : Place) → IsOpen form o place → k + length o.reasons ≤ length o.lits → list_all is_legal o.lits ≡ true → end_of_quotients (form_end form) o.lits ≤ form_end form + most_rows → form_end form + most_rows < 2 ^ 32 → NamedTimes form k o place
names-times form zero o place is within legal few small = record { behind = place; is = is; lits = refl; full = omega arith; sound = λ places trees all. all }
names-times form (suc k) o place is within legal few small =
    let q = form_end form in
    let n = length o.reasons in
    let next = with_name o in
    let lits : next.lits ≡ o.lits = name-lits o in
    let reasons : length next.reasons ≡ n + 1 = name-reasons o in
    let long : length next.lits ≡ length o.lits = ap (λ (ls : List Lit). length ls) lits in
    let less : n < length o.lits = omega (arith, within) in
    let least = ends-taken q (n + 1) o.lits in
    let is_next = open-named form o place is less (omega (arith, least, few)) in
    let rest = names-times form k next (named_place q o place) is_next (omega (arith, within, reasons, long)) (ap (list_all is_legal) lits ∙ legal) (subst (λ (ls : List Lit). end_of_quotients q ls ≤ q + most_rows) (sym lits) few) small in
    let full = rest.full in
    record {
      behind = rest.behind;
      is = rest.is;
      lits = rest.lits ∙ lits;
      full = omega (arith, full, reasons);
      sound = λ places trees all. subst (AreSoundAt q (place ∷ places)) (sym (assembled-++ (step_of_name o) (steps_times k next) trees)) (sound-name form o place places (assembled (steps_times k next) trees) is less legal small (rest.sound places trees all));
    }

-- all names
pub record AllNamed (form : Form) (o : Open) (place : Place) : Type 0 where
  pub behind : Place
  pub is : IsOpen form (all_named o) behind
  pub lits : (all_named o).lits ≡ o.lits
  pub full : length (all_named o).reasons ≡ length (all_named o).lits
  pub sound : (places : List Place) (trees : List Refutation) → AreSoundAt (form_end form) (behind ∷ places) trees → AreSoundAt (form_end form) (place ∷ places) (assembled (steps_of_names o) trees)

pub names-all : (form : Form) (o : Open) (place : Place) → IsOpen form o place → list_all is_legal o.lits ≡ true → end_of_quotients (form_end form) o.lits ≤ form_end form + most_rows → form_end form + most_rows < 2 ^ 32 → AllNamed form o place
names-all form o place is legal few small =
    let some = is.some in
    let times = names-times form (length o.lits - length o.reasons) o place is (omega (arith, some)) legal few small in
    let full = times.full in
    let long = ap (λ (ls : List Lit). length ls) times.lits in
    record { behind = times.behind; is = times.is; lits = times.lits; full = omega (arith, full, long, some); sound = times.sound }

-- the names so far, and those of the rest
pub record NamesOn (was : Open) (first : List Step) (o : Open) (now : List Step) (k : ℕ) : Type 0 where
  pub at : k ≡ length o.reasons
  pub some : length o.reasons ≤ length o.lits
  pub each : length o.numbers ≡ length o.lits
  pub waiting : all_named o ≡ all_named was
  pub steps : now ++ steps_of_names o ≡ first ++ steps_of_names was

pub names-on : (was o new : Open) (first steps more : List Step) (k : ℕ) → NamesOn was first o steps k → k < length o.lits → new ≡ with_name o → more ≡ steps ++ step_of_name o → NamesOn was first new more (k + 1)
names-on was o new first steps more k on there is written =
    let at = on.at in
    let each = on.each in
    let less : length o.reasons < length o.lits = omega (arith, at, there) in
    let reasons : length new.reasons ≡ length o.reasons + 1 = ap (λ (w : Open). length w.reasons) is ∙ name-reasons o in
    let lits : length new.lits ≡ length o.lits = ap (λ (w : Open). length w.lits) is ∙ ap (λ (ls : List Lit). length ls) (name-lits o) in
    let numbers : length new.numbers ≡ length o.numbers = ap (λ (w : Open). length w.numbers) is ∙ ap (λ (ns : List ℕ). length ns) (name-numbers o) in
    record {
      at = omega (arith, at, reasons);
      some = omega (arith, less, reasons, lits);
      each = omega (arith, each, numbers, lits);
      waiting = ap all_named is ∙ sym (all-next o less) ∙ on.waiting;
      steps = ap (λ (ss : List Step). ss ++ steps_of_names new) written ∙ ap (λ (w : Open). (steps ++ step_of_name o) ++ steps_of_names w) is ∙ append_assoc steps (step_of_name o) (steps_of_names (with_name o)) ∙ ap (λ (ss : List Step). steps ++ ss) (sym (steps-next o less)) ∙ on.steps;
    }
