-- The uses of a frame's lemmas on body atoms.
use Rattle.std.proofs.Common.{◌≡◌, ℕ, ◌+◌, ◌^◌, zero, suc, List, [], ◌∷◌, Bool, true, false, ◌&&◌, ◌||◌, not, cond, Some, refl, ap, sym, ◌∙◌, arith}
use Rattle.std.specs.Prelude.{ℤ, slice_get, nat_le, nat_abs, ◌==◌}
use Rattle.std.specs.List.{list_all, list_any}
use Rattle.std.proofs.lemmas.Bool.Decides.{nat_tests}
use Rattle.std.proofs.lemmas.List.Folds.{list_all-append}
use Rattle.lin_atoms.specs.Algebra.{are_within}
use Rattle.lin_atoms.specs.Denial.{linear_of}
use Rattle.lin_atoms.specs.Linear.{is_linear}
use Rattle.lin_atoms.specs.declared.lit.Lit.{Lit}
use Rattle.clause_form.specs.declared.atom.Atom.{Atom}
use Rattle.cube_forms.specs.Cubes.{cube_is_thin, lit_is_thin}
use Rattle.lemma_frames.specs.declared.framed.Framed.{Framed}
use Rattle.chc_tokens.specs.declared.used.Used.{Used}
use Rattle.book_rules.specs.Areas.{is_wide}
use Rattle.book_rules.specs.Walks.{AllOf}
use Rattle.book_rules.proofs.ListLemmas.{both_false, both_true, from_both}
use Rattle.clause_queries.specs.Kept.{are_linear}
use Rattle.clause_queries.specs.Uses.{use_of, uses_from, uses_on}
use Rattle.clause_queries.proofs.BoolLemmas.{same_some}

taken : (b : Bool) (u : Used) (rest : List Used) (test : Used → Bool) → (b ≡ true → test u ≡ true) → list_all test rest ≡ true → list_all test (cond {A = List Used} b (u ∷ rest) rest) ≡ true
taken true u rest test f h = from_both (test u) _ (f refl) h
taken false u rest test f h = h

-- what holds of each lemma of F(k) on the predicate holds of each use
pub uses_on-all : (test : Used → Bool) (P : Framed → Type 0) (k number pred : ℕ) → ((f : Framed) → P f → nat_le k f.level ≡ true → (f.pred == pred) ≡ true → test (use_of number f) ≡ true)
    → (fs : List Framed) → AllOf P fs → list_all test (uses_on k number pred fs) ≡ true
uses_on-all test P k number pred each [] all = refl
uses_on-all test P k number pred each (f ∷ fs) all =
    taken (nat_le k f.level && (f.pred == pred)) (use_of number f) (uses_on k number pred fs) test
    (λ is. let both = both_true (nat_le k f.level) _ is in each f all.0 both.0 both.1) (uses_on-all test P k number pred each fs all.1)

-- and where it holds on each atom, it holds of all uses
pub uses_from-all : (test : Used → Bool) (k : ℕ) (fs : List Framed) (whole : List Atom) → ((n : ℕ) (atom : Atom) → slice_get whole n ≡ Some atom → list_all test (uses_on k n atom.pred fs) ≡ true)
    → (n : ℕ) (atoms : List Atom) → ((i : ℕ) (atom : Atom) → slice_get atoms i ≡ Some atom → slice_get whole (n + i) ≡ Some atom) → list_all test (uses_from k fs n atoms) ≡ true
uses_from-all test k fs whole each n [] stand = refl
uses_from-all test k fs whole each n (atom ∷ atoms) stand =
    let here : slice_get whole n ≡ Some atom = ap (λ (i : ℕ). slice_get whole i) (let e : n ≡ n + 0 = omega arith in e) ∙ stand 0 atom refl in
    list_all-append test (uses_on k n atom.pred fs) (uses_from k fs (n + 1) atoms)
    ∙ from_both _ _ (each n atom here) (uses_from-all test k fs whole each (n + 1) atoms (λ i a there. ap (λ (j : ℕ). slice_get whole j) (let e : n + 1 + i ≡ n + suc i = omega arith in e) ∙ stand (suc i) a there))

pub uses-all : (test : Used → Bool) (k : ℕ) (fs : List Framed) (atoms : List Atom) → ((n : ℕ) (atom : Atom) → slice_get atoms n ≡ Some atom → list_all test (uses_on k n atom.pred fs) ≡ true)
    → list_all test (uses_from k fs 0 atoms) ≡ true
uses-all test k fs atoms each = uses_from-all test k fs atoms each 0 atoms (λ i atom there. ap (λ (j : ℕ). slice_get atoms j) (let e : 0 + i ≡ i = omega arith in e) ∙ there)

-- back: what holds of all uses holds of each lemma of F(k) on the predicate of an atom
on-back : (test : Used → Bool) (b : Bool) (u : Used) (rest : List Used) → list_all test (cond {A = List Used} b (u ∷ rest) rest) ≡ true → (not b || test u) ≡ true
on-back test true u rest h = (both_true (test u) _ h).0
on-back test false u rest h = refl

rest-back : (test : Used → Bool) (b : Bool) (u : Used) (rest : List Used) → list_all test (cond {A = List Used} b (u ∷ rest) rest) ≡ true → list_all test rest ≡ true
rest-back test true u rest h = (both_true (test u) _ h).1
rest-back test false u rest h = h

pub uses_on-back : (test : Used → Bool) (k number pred : ℕ) (fs : List Framed) → list_all test (uses_on k number pred fs) ≡ true
    → list_all (λ (f : Framed). not (nat_le k f.level && (f.pred == pred)) || test (use_of number f)) fs ≡ true
uses_on-back test k number pred [] h = refl
uses_on-back test k number pred (f ∷ fs) h =
    let b = nat_le k f.level && (f.pred == pred) in
    from_both (not b || test (use_of number f)) _ (on-back test b (use_of number f) (uses_on k number pred fs) h)
    (uses_on-back test k number pred fs (rest-back test b (use_of number f) (uses_on k number pred fs) h))

pub uses_from-back : (test : Used → Bool) (k : ℕ) (fs : List Framed) (n i : ℕ) (atoms : List Atom) (atom : Atom) → slice_get atoms i ≡ Some atom → list_all test (uses_from k fs n atoms) ≡ true
    → list_all test (uses_on k (n + i) atom.pred fs) ≡ true
uses_from-back test k fs n i [] atom there h = absurd (cc)
uses_from-back test k fs n zero (a ∷ atoms) atom there h =
    let both = both_true (list_all test (uses_on k n a.pred fs)) _ (sym (list_all-append test (uses_on k n a.pred fs) (uses_from k fs (n + 1) atoms)) ∙ h) in
    ap (λ (m : ℕ). list_all test (uses_on k m atom.pred fs)) (let e : n + 0 ≡ n = omega arith in e) ∙ ap (λ (x : Atom). list_all test (uses_on k n x.pred fs)) (sym (same_some a atom there)) ∙ both.0
uses_from-back test k fs n (suc i) (a ∷ atoms) atom there h =
    let both = both_true (list_all test (uses_on k n a.pred fs)) _ (sym (list_all-append test (uses_on k n a.pred fs) (uses_from k fs (n + 1) atoms)) ∙ h) in
    ap (λ (m : ℕ). list_all test (uses_on k m atom.pred fs)) (let e : n + suc i ≡ n + 1 + i = omega arith in e) ∙ uses_from-back test k fs (n + 1) i atoms atom there both.1

pub uses-back : (test : Used → Bool) (k : ℕ) (fs : List Framed) (i : ℕ) (atoms : List Atom) (atom : Atom) → slice_get atoms i ≡ Some atom → list_all test (uses_from k fs 0 atoms) ≡ true
    → list_all test (uses_on k i atom.pred fs) ≡ true
uses-back test k fs i atoms atom there h = ap (λ (m : ℕ). list_all test (uses_on k m atom.pred fs)) (let e : i ≡ 0 + i = omega arith in e) ∙ uses_from-back test k fs 0 i atoms atom there h

-- cubes that aren't wide are thin

thin_terms : (ts : List (ℕ × ℤ)) → list_any (λ (t : ℕ × ℤ). nat_le (2 ^ 54) (nat_abs t.1)) ts ≡ false → are_within (2 ^ 54) ts ≡ true
thin_terms [] h = refl
thin_terms (t ∷ ts) h =
    let both = both_false (nat_le (2 ^ 54) (nat_abs t.1)) _ h in
    let here : nat_le (nat_abs t.1) (2 ^ 54) ≡ true = grind (arith, nat_tests, both) in
    from_both (nat_le (nat_abs t.1) (2 ^ 54)) _ here (thin_terms ts both.1)

pub thin-cube : (cube : List Lit) → is_wide cube ≡ false → are_linear cube ≡ true → cube_is_thin cube ≡ true
thin-cube [] h linear = refl
thin-cube (lit ∷ lits) h linear =
    let both = both_false (list_any (λ (t : ℕ × ℤ). nat_le (2 ^ 54) (nat_abs t.1)) (linear_of lit).terms) _ h in
    let is = both_true (is_linear (linear_of lit)) _ linear in
    from_both (lit_is_thin lit) _ (from_both (is_linear (linear_of lit)) _ is.0 (thin_terms (linear_of lit).terms both.0)) (thin-cube lits both.1 is.1)
