-- Literals made ready one after the other.
use Rattle.std.proofs.Common.{◌≡◌, ℕ, List, [], ◌∷◌, ◌++◌, refl, ap, ◌∙◌, arith, ◌<◌, ◌≤◌, ◌+◌, true, false, Bool, cond, ◌==◌, length, append_assoc}
use Rattle.std.specs.Prelude.{ℤ, neg_ℤ, pos, ◌-ℤ◌}
use Rattle.std.specs.List.{list_all}
use Rattle.base.specs.Limits.{most_rows}
use Rattle.std.proofs.lemmas.Bool.{and_from, eqb-false, lt-ltb}
use Rattle.std.proofs.lemmas.List.{length-append}
use Rattle.std.proofs.lemmas.List.Elements.{filter-append}
use Rattle.std.proofs.lemmas.List.Folds.{list_all-append}
use Rattle.lin_atoms.specs.Linear.{Linear}
use Rattle.lin_atoms.specs.declared.lit.Lit.{Lit}
use Rattle.lin_atoms.specs.declared.lit.Lit.TheVariants.{Le, Eq, Div, NDiv}
use Rattle.lin_atoms.specs.Truth.{lit_is_below}
use Rattle.lin_atoms.proofs.Public.{both_true}
use Rattle.int_rows.specs.Node.{all_bounds, bounds_of, end_of_quotients, has_row, in_rows, quotients}
use Rattle.int_rows.specs.Ready.{between, bounded_fits, less_multiple, ready, ready_fits}
use Rattle.int_rows.specs.declared.bounds.Bounded.{Bounded}
use Rattle.int_rows.specs.declared.bounds.Ready.{Ready}
use Rattle.int_rows.specs.declared.bounds.Ready.TheVariants.{Truth, Bounds}
use Rattle.lia_node.specs.Known.{are_known, has_short_constant}
use Rattle.lia_node.specs.machinery.Gathering.{IsGathered}

said-fits : (r : Ready) → ready_fits r ≡ true → list_all bounded_fits (bounds_of r) ≡ true
said-fits (Truth truth) h = refl
said-fits (Bounds b) h = and_from _ _ h refl

count-step : (n : ℕ) (b : Bounded) (test : Bool) → has_row b ≡ test → test ≡ true → 1 ≤ length (in_rows (b ∷ []))
count-step n b true e h = rw e (omega arith)
count-step n b false e h = absurd (cc)

-- a divisibility with a variable has a row
division-row : (q n : ℕ) (low high : ℤ) (truth : Bool) (lin : Linear) (b : Bool) → (length lin.terms == 0) ≡ b → cond b 0 1 ≤ length (in_rows (bounds_of (cond b (Truth truth) (Bounds (between low high (less_multiple n q lin))))))
division-row q n low high truth lin true e = omega arith
division-row q n low high truth lin false e =
    let some = eqb-false _ _ e in
    let long = length-append lin.terms ((q, neg_ℤ (pos n)) ∷ []) in
    let more : 1 < length (between low high (less_multiple n q lin)).form.terms = omega (arith, some, long) in
    count-step n (between low high (less_multiple n q lin)) true (lt-ltb _ _ more) refl

quotients-rows : (q : ℕ) (lit : Lit) → quotients lit ≤ length (in_rows (bounds_of (ready q lit)))
quotients-rows q (Le lin) = omega arith
quotients-rows q (Eq lin) = omega arith
quotients-rows q (Div n lin) = division-row q n (pos 0) (pos 0) _ lin (length lin.terms == 0) refl
quotients-rows q (NDiv n lin) = division-row q n (pos 1) (pos n -ℤ pos 1) _ lin (length lin.terms == 0) refl

-- how many rows two lists have
rows-++ : (bs cs : List Bounded) → length (in_rows (bs ++ cs)) ≡ length (in_rows bs) + length (in_rows cs)
rows-++ bs cs = ap length (filter-append has_row bs cs) ∙ length-append (in_rows bs) (in_rows cs)

-- one literal more
pub gathered-more : (end : ℕ) (lits : List Lit) (bs news : List Bounded) (q rows more new : ℕ) (lit : Lit) (rest : List Lit) → IsGathered end lits bs q rows (lit ∷ rest)
    → news ≡ bs ++ bounds_of (ready q lit) → more ≡ length (in_rows (bounds_of (ready q lit))) → ready_fits (ready q lit) ≡ true → rows + more ≤ most_rows → new ≡ q + quotients lit → IsGathered end lits news new (rows + more) rest
gathered-more end lits bs news q rows more new lit rest is said count fit few number =
    let r = bounds_of (ready q lit) in
    let known = both_true (lit_is_below q lit) _ is.known in
    let short = both_true (has_short_constant lit) _ is.short in
    let behind = quotients-rows q lit in
    record {
      made = ap (λ (ns : List Bounded). ns ++ all_bounds new rest) said ∙ ap (λ (k : ℕ). (bs ++ r) ++ all_bounds k rest) number ∙ append_assoc bs r (all_bounds (q + quotients lit) rest) ∙ is.made;
      ends = ap (λ (k : ℕ). end_of_quotients k rest) number ∙ is.ends;
      known = ap (λ (k : ℕ). are_known k rest) number ∙ known.1;
      short = short.1;
      fit = ap (list_all bounded_fits) said ∙ list_all-append bounded_fits bs r ∙ and_from _ _ is.fit (said-fits (ready q lit) fit);
      count = let all = ap (λ (ns : List Bounded). length (in_rows ns)) said ∙ rows-++ bs r in omega (arith, is.count, count, all);
      few = few;
      small = omega (arith, is.small, behind, count, number);
    }

-- what was said so far has no more rows than all of it
pub gathered-many : (end : ℕ) (lits : List Lit) (bs : List Bounded) (q rows more : ℕ) (lit : Lit) (rest : List Lit) → IsGathered end lits bs q rows (lit ∷ rest)
    → more ≡ length (in_rows (bounds_of (ready q lit))) → most_rows < rows + more → most_rows < length (in_rows (all_bounds end lits))
gathered-many end lits bs q rows more lit rest is count many =
    let r = bounds_of (ready q lit) in
    let behind = all_bounds (q + quotients lit) rest in
    let all = rows-++ bs (r ++ behind) in
    let both = rows-++ r behind in
    let whole = ap (λ (ns : List Bounded). length (in_rows ns)) is.made in
    omega (arith, is.count, count, all, both, whole, many)

pub gathered-first : (end : ℕ) (lits : List Lit) → are_known end lits ≡ true → list_all has_short_constant lits ≡ true → IsGathered end lits [] end 0 lits
gathered-first end lits known short = record { made = refl; ends = refl; known = known; short = short; fit = refl; count = refl; few = omega arith; small = omega arith }
