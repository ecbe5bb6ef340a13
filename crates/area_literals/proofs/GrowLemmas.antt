-- Lists of literals that grow.
use Rattle.std.proofs.Common.{◌≡◌, ℕ, zero, suc, ◌<◌, length, arith, List, [], ◌∷◌, ◌++◌, Bool, true, false, ◌&&◌, not, get_or, refl, ap, sym, ◌∙◌, subst}
use Rattle.std.specs.Prelude.{ℤ}
use Rattle.std.specs.List.{list_all, list_any}
use Rattle.std.proofs.lemmas.List.{append-nil, append_assoc}
use Rattle.std.proofs.lemmas.List.Folds.{list_all-append, list_any-append}
use Rattle.lin_atoms.specs.Truth.{lit_truth}
use Rattle.lin_atoms.specs.declared.lit.Lit.{Lit}
use Rattle.lin_atoms.specs.declared.form.Form.{Form}
use Rattle.lin_atoms.specs.declared.form.Form.TheVariants.{True, Lit as Literal}
use Rattle.lin_atoms.specs.declared.form.Form.TheViews.{And, Or}
use Rattle.book_rules.specs.Areas.{cover, is_among, stands_in}
use Rattle.book_rules.specs.Same.{same_lit}
use Rattle.book_rules.proofs.Public.{cubes_equal}
use Rattle.book_rules.proofs.FormLemmas.{cover-Literal, stands-Literal}
use Rattle.cube_rules.proofs.Public.{both_true, from_both}
use Rattle.area_literals.specs.Areas.{are_new}
use Rattle.area_literals.specs.machinery.Growing.{AreGathered, AreGatheredSome, Grows, GrowsBy, IsAdded, IsGathered}
use Rattle.area_literals.proofs.CoverLemmas.{cover-And, cover-Or, cover-True, either_left, either_right, stands-And, stands-Or}

pub lit-same : (lit : Lit) → same_lit lit lit ≡ true
lit-same lit = (both_true (same_lit lit lit) true ((cubes_equal (lit ∷ []) (lit ∷ [])).1 refl)).0

all_weaken : {X : Type 0} (p q : X → Bool) → ((x : X) → p x ≡ true → q x ≡ true) → (xs : List X) → list_all p xs ≡ true → list_all q xs ≡ true
all_weaken p q f [] h = refl
all_weaken p q f (x ∷ xs) h = let both = both_true (p x) (list_all p xs) h in from_both (q x) (list_all q xs) (f x both.0) (all_weaken p q f xs both.1)

-- literals that weren't there, and more that weren't
pub are_new-append : (before xs ys : List Lit) → are_new before (xs ++ ys) ≡ (are_new before xs && are_new (before ++ xs) ys)
are_new-append before [] ys = ap (λ (zs : List Lit). are_new zs ys) (sym (append-nil before))
are_new-append before (x ∷ xs) ys =
    ap (λ b. not (is_among before x) && b) (are_new-append (before ++ x ∷ []) xs ys ∙ ap (λ (zs : List Lit). are_new (before ++ x ∷ []) xs && are_new zs ys) (append_assoc before (x ∷ []) xs)) ∙ sym (both_assoc (not (is_among before x)) (are_new (before ++ x ∷ []) xs) (are_new (before ++ x ∷ xs) ys))
  where
    both_assoc : (a b c : Bool) → ((a && b) && c) ≡ (a && (b && c))
    both_assoc true b c = refl
    both_assoc false b c = refl

-- nothing is added
pub grows-none : (point : List ℤ) (stands : Lit → Bool) (has : List Lit → Bool) (lits : List Lit) → has lits ≡ true → Grows point stands has lits lits
grows-none point stands has lits h = record { more = []; is = sym (append-nil lits); stand = refl; hold = refl; once = refl; now = h }

-- other tests
pub grows-so : (point : List ℤ) (p q : Lit → Bool) (h k : List Lit → Bool) (old new : List Lit) → ((lit : Lit) → p lit ≡ true → q lit ≡ true) → (h new ≡ true → k new ≡ true) → Grows point p h old new → Grows point q k old new
grows-so point p q h k old new f g grown = record { more = grown.more; is = grown.is; stand = all_weaken p q f grown.more grown.stand; hold = grown.hold; once = grown.once; now = g grown.now }

-- twice: what the first needs stays
pub grows-on : (point : List ℤ) (p q r : Lit → Bool) (h k l : List Lit → Bool) (a b c : List Lit) → ((lit : Lit) → p lit ≡ true → r lit ≡ true) → ((lit : Lit) → q lit ≡ true → r lit ≡ true)
    → ((lits more : List Lit) → h lits ≡ true → h (lits ++ more) ≡ true) → (h c ≡ true → k c ≡ true → l c ≡ true)
    → Grows point p h a b → Grows point q k b c → Grows point r l a c
grows-on point p q r h k l a b c f g stays joins first second = record {
  more = first.more ++ second.more;
  is = second.is ∙ ap (λ (xs : List Lit). xs ++ second.more) first.is ∙ append_assoc a first.more second.more;
  stand = list_all-append r first.more second.more ∙ from_both _ _ (all_weaken p r f first.more first.stand) (all_weaken q r g second.more second.stand);
  hold = list_all-append (lit_truth point) first.more second.more ∙ from_both _ _ first.hold second.hold;
  once = are_new-append a first.more second.more ∙ from_both (are_new a first.more) _ first.once (ap (λ (xs : List Lit). are_new xs second.more) (sym first.is) ∙ second.once);
  now = joins (ap h second.is ∙ stays b second.more first.now) second.now;
}

-- items one after another

pub by-none : {X : Type 0} (point : List ℤ) (stands : X → Lit → Bool) (has : X → List Lit → Bool) (lits : List Lit) → GrowsBy point stands has [] lits lits
by-none point stands has lits = grows-none point (λ lit. list_any (λ x. stands x lit) []) (λ ls. list_all (λ x. has x ls) []) lits refl

pub by-one : {X : Type 0} (point : List ℤ) (stands : X → Lit → Bool) (has : X → List Lit → Bool) (x : X) (xs : List X) (a b c : List Lit)
    → ((lits more : List Lit) → has x lits ≡ true → has x (lits ++ more) ≡ true)
    → Grows point (stands x) (has x) a b → GrowsBy point stands has xs b c → GrowsBy point stands has (x ∷ xs) a c
by-one point stands has x xs a b c stays first second =
    grows-on point (stands x) (λ lit. list_any (λ y. stands y lit) xs) (λ lit. list_any (λ y. stands y lit) (x ∷ xs)) (has x) (λ ls. list_all (λ y. has y ls) xs) (λ ls. list_all (λ y. has y ls) (x ∷ xs)) a b c
    (λ lit. either_left (stands x lit) (list_any (λ y. stands y lit) xs)) (λ lit. either_right (stands x lit) (list_any (λ y. stands y lit) xs)) stays (from_both (has x c) (list_all (λ y. has y c) xs)) first second

-- one literal

pub added-old : (point : List ℤ) (lit : Lit) (lits : List Lit) → is_among lits lit ≡ true → IsAdded point lit lits lits
added-old point lit lits h = grows-none point (λ other. same_lit other lit) (λ ls. is_among ls lit) lits h

pub added-new : (point : List ℤ) (lit : Lit) (lits : List Lit) → is_among lits lit ≡ false → lit_truth point lit ≡ true → IsAdded point lit lits (lits ++ lit ∷ [])
added-new point lit lits other h = record {
  more = lit ∷ [];
  is = refl;
  stand = from_both (same_lit lit lit) true (lit-same lit) refl;
  hold = from_both (lit_truth point lit) true h refl;
  once = from_both (not (is_among lits lit)) true (ap not other) refl;
  now = list_any-append (same_lit lit) lits (lit ∷ []) ∙ either_right (is_among lits lit) _ (either_left (same_lit lit lit) false (lit-same lit));
}

-- formulas

pub gathered-true : (point : List ℤ) (lits : List Lit) → IsGathered point True lits lits
gathered-true point lits = grows-none point (λ lit. stands_in lit True) (λ ls. cover ls True) lits (cover-True lits)

pub gathered-lit : (point : List ℤ) (lit : Lit) (old new : List Lit) → IsAdded point lit old new → IsGathered point (Literal lit) old new
gathered-lit point lit old new added =
    grows-so point (λ other. same_lit other lit) (λ other. stands_in other (Literal lit)) (λ ls. is_among ls lit) (λ ls. cover ls (Literal lit)) old new
    (λ other h. stands-Literal other lit ∙ h) (λ h. cover-Literal new lit ∙ h) added

pub gathered-and : (point : List ℤ) (parts : List Form) (old new : List Lit) → AreGathered point parts old new → IsGathered point (And parts) old new
gathered-and point parts old new all =
    grows-so point (λ lit. list_any (stands_in lit) parts) (λ lit. stands_in lit (And parts)) (λ ls. list_all (cover ls) parts) (λ ls. cover ls (And parts)) old new
    (λ lit h. stands-And lit parts ∙ h) (λ h. cover-And new parts ∙ h) all

pub gathered-or : (point : List ℤ) (parts : List Form) (old new : List Lit) → AreGatheredSome point parts old new → IsGathered point (Or parts) old new
gathered-or point parts old new some =
    grows-so point (λ lit. list_any (stands_in lit) parts) (λ lit. stands_in lit (Or parts)) (λ ls. list_any (cover ls) parts) (λ ls. cover ls (Or parts)) old new
    (λ lit h. stands-Or lit parts ∙ h) (λ h. cover-Or new parts ∙ h) some

pub gathered-old : (point : List ℤ) (form : Form) (lits : List Lit) → cover lits form ≡ true → IsGathered point form lits lits
gathered-old point form lits h = grows-none point (λ lit. stands_in lit form) (λ ls. cover ls form) lits h

-- a formula among others
pub some-first : (point : List ℤ) (form : Form) (forms : List Form) (old new : List Lit) → IsGathered point form old new → AreGatheredSome point (form ∷ forms) old new
some-first point form forms old new one =
    grows-so point (λ lit. stands_in lit form) (λ lit. list_any (stands_in lit) (form ∷ forms)) (λ ls. cover ls form) (λ ls. list_any (cover ls) (form ∷ forms)) old new
    (λ lit. either_left (stands_in lit form) (list_any (stands_in lit) forms)) (either_left (cover new form) (list_any (cover new) forms)) one

pub some-later : (point : List ℤ) (form : Form) (forms : List Form) (old new : List Lit) → AreGatheredSome point forms old new → AreGatheredSome point (form ∷ forms) old new
some-later point form forms old new one =
    grows-so point (λ lit. list_any (stands_in lit) forms) (λ lit. list_any (stands_in lit) (form ∷ forms)) (λ ls. list_any (cover ls) forms) (λ ls. list_any (cover ls) (form ∷ forms)) old new
    (λ lit. either_right (stands_in lit form) (list_any (stands_in lit) forms)) (either_right (cover new form) (list_any (cover new) forms)) one

pub some-at : (point : List ℤ) (forms : List Form) (i : ℕ) (form : Form) (old new : List Lit) → i < length forms → form ≡ get_or forms i form → IsGathered point form old new → AreGatheredSome point forms old new
some-at point [] i form old new within is one = absurd (omega arith)
some-at point (f ∷ forms) zero form old new within is one = some-first point f forms old new (subst (λ (x : Form). IsGathered point x old new) is one)
some-at point (f ∷ forms) (suc i) form old new within is one = some-later point f forms old new (some-at point forms i form old new (omega arith) is one)
