-- Literals that are kept have room, so one that has none is equal to none of them.
use Rattle.std.proofs.Common.{◌≡◌, ℕ, zero, suc, ◌^◌, List, [], ◌∷◌, ◌++◌, map, filter, Bool, true, false, cond, ◌&&◌, ◌||◌, refl, ap, ap₂, sym, ◌∙◌, arith, append_assoc}
use Rattle.std.specs.Prelude.{ℤ, pos, negsuc, neg_ℤ, ◌+ℤ◌, nat_abs, nat_le, nat_lt, ◌==◌}
use Rattle.std.specs.List.{flat_map, list_all, list_any}
use Rattle.std.proofs.lemmas.List.{append-nil}
use Rattle.std.proofs.lemmas.List.Elements.{filter-append}
use Rattle.std.proofs.lemmas.Bool.Decides.{nat_tests}
use Rattle.std.proofs.lemmas.Int.{ints}
use mathlib.Core.Bool.{true≢false}
use Rattle.base.specs.Widths.{is_long, is_short}
use Rattle.lin_atoms.specs.Algebra.{negated, negated_terms, plus}
use Rattle.lin_atoms.specs.Denial.{denial, linear_of, lit_fits}
use Rattle.lin_atoms.specs.Linear.{Linear, are_short, fits}
use Rattle.lin_atoms.specs.declared.lit.Lit.{Lit}
use Rattle.lin_atoms.specs.declared.lit.Lit.TheVariants.{Le, Eq, Div, NDiv}
use Rattle.lin_atoms.specs.declared.form.Form.{Form}
use Rattle.lin_atoms.specs.declared.form.Form.TheVariants.{False, Lit as Literal}
use Rattle.lin_atoms.specs.declared.form.Form.TheViews.{Or}
use Rattle.clause_form.specs.declared.atom.Atom.{Atom}
use Rattle.cube_forms.specs.Cubes.{cube_at, denials, has_room, lemma_at, lit_at, lit_is_short, or_of}
use Rattle.model_project.specs.Kept.{Kept}
use Rattle.book_rules.specs.Areas.{cover, is_among, is_of_frame, knows, stands_in}
use Rattle.book_rules.specs.Frames.{Framed}
use Rattle.book_rules.specs.Same.{same_cube, same_form, same_lit}
use Rattle.book_rules.proofs.Public.{cubes_equal, forms_equal}
use Rattle.cube_rules.specs.machinery.Literals.{atom_lits, form_fits, frame_lits, lemma_lits, roomy_denials}
use Rattle.cube_rules.proofs.FormLemmas.{cover-False, cover-Literal, cover-Or, stands-False, stands-Literal, stands-Or}
use Rattle.cube_rules.proofs.TestLemmas.{all_at, all_weaken, any_at, both_true, from_both, lit_is, still_false}

-- numbers

abs-neg : (n : ℤ) → nat_abs (neg_ℤ n) ≡ nat_abs n
abs-neg (pos zero) = refl
abs-neg (pos (suc n)) = refl
abs-neg (negsuc n) = refl

pub long-short : (n : ℤ) → is_short n ≡ true → is_long n ≡ true
long-short n short = grind (arith, ints, nat_tests)

long-plus : (n : ℤ) → is_short n ≡ true → is_long (n +ℤ pos 1) ≡ true
long-plus n short = grind (arith, ints, nat_tests)

-- equal literals have room alike
pub room-same : (a b : Lit) → same_lit a b ≡ true → lit_fits a ≡ lit_fits b
room-same a b same = ap lit_fits (lit_is a b same)

among-room : (lits : List Lit) (lit : Lit) → list_all lit_fits lits ≡ true → is_among lits lit ≡ true → lit_fits lit ≡ true
among-room lits lit room h =
    let found = any_at (same_lit lit) lits h in
    room-same lit found.1 found.3 ∙ all_at lit_fits lits found.0 found.1 found.2 room

pub never-among : (lits : List Lit) (lit : Lit) → list_all lit_fits lits ≡ true → lit_fits lit ≡ false → is_among lits lit ≡ false
never-among lits lit room wide = still_false (lit_fits lit) (is_among lits lit) (among-room lits lit room) wide

-- the head's literals, where a number has no room: the area can't have them all
pub head-wide : (lits : List Lit) (args : List ℕ) (cube : List Lit) → list_all lit_fits lits ≡ true → has_room args cube ≡ false → list_all (is_among lits) (cube_at args cube) ≡ false
head-wide lits args cube room wide = still_false (has_room args cube) (list_all (is_among lits) (cube_at args cube)) (all_weaken (is_among lits) lit_fits (λ lit. among-room lits lit room) (cube_at args cube)) wide

-- one of those that have room is enough
pub any-roomy : (lits : List Lit) (others : List Lit) → list_all lit_fits lits ≡ true → list_any (is_among lits) others ≡ list_any (is_among lits) (filter lit_fits others)
any-roomy lits [] room = refl
any-roomy lits (x ∷ others) room = by (lit_fits x) refl (any-roomy lits others room) where
  by : (b : Bool) → lit_fits x ≡ b → list_any (is_among lits) others ≡ list_any (is_among lits) (filter lit_fits others) → list_any (is_among lits) (x ∷ others) ≡ list_any (is_among lits) (cond {A = List Lit} b (x ∷ filter lit_fits others) (filter lit_fits others))
  by true is rest = ap (λ c. is_among lits x || c) rest
  by false is rest = ap (λ c. c || list_any (is_among lits) others) (never-among lits x room is) ∙ rest

-- a lemma's form is a disjunction of its denials: for covering, and for standing in it

or-assoc : (a b c : Bool) → (a || (b || c)) ≡ ((a || b) || c)
or-assoc true b c = refl
or-assoc false b c = refl

or-false : (b : Bool) → b ≡ (b || false)
or-false true = refl
or-false false = refl

covers-each : (lits others : List Lit) → list_any (cover lits) (map Literal others) ≡ list_any (is_among lits) others
covers-each lits [] = refl
covers-each lits (x ∷ others) = ap₂ (λ b c. b || c) (cover-Literal lits x) (covers-each lits others)

covers-or : (lits others : List Lit) → cover lits (or_of (map Literal others)) ≡ list_any (is_among lits) others
covers-or lits [] = cover-False lits
covers-or lits (x ∷ []) = cover-Literal lits x ∙ or-false (is_among lits x)
covers-or lits (x ∷ y ∷ others) = cover-Or lits (map Literal (x ∷ y ∷ others)) ∙ covers-each lits (x ∷ y ∷ others)

pub covers-denials : (lits : List Lit) (args : List ℕ) (cube : List Lit) → cover lits (lemma_at args cube) ≡ list_any (is_among lits) (denials args cube)
covers-denials lits args cube = covers-or lits (denials args cube)

stands-each : (lit : Lit) (others : List Lit) → list_any (stands_in lit) (map Literal others) ≡ is_among others lit
stands-each lit [] = refl
stands-each lit (x ∷ others) = ap₂ (λ b c. b || c) (stands-Literal lit x) (stands-each lit others)

stands-or : (lit : Lit) (others : List Lit) → stands_in lit (or_of (map Literal others)) ≡ is_among others lit
stands-or lit [] = stands-False lit
stands-or lit (x ∷ []) = stands-Literal lit x ∙ or-false (same_lit lit x)
stands-or lit (x ∷ y ∷ others) = stands-Or lit (map Literal (x ∷ y ∷ others)) ∙ stands-each lit (x ∷ y ∷ others)

pub stands-denials : (lit : Lit) (args : List ℕ) (cube : List Lit) → stands_in lit (lemma_at args cube) ≡ is_among (denials args cube) lit
stands-denials lit args cube = stands-or lit (denials args cube)

-- so the code's tests are the rules'
pub knows-roomy : (area : Kept) (atom : Atom) (cube : List Lit) → list_all lit_fits area.lits ≡ true → knows area atom cube ≡ list_any (is_among area.lits) (roomy_denials atom.args cube)
knows-roomy area atom cube room = covers-denials area.lits atom.args cube ∙ any-roomy area.lits (denials atom.args cube) room

any-append : {Y : Type 0} (test : Y → Bool) (xs ys : List Y) → list_any test (xs ++ ys) ≡ (list_any test xs || list_any test ys)
any-append test [] ys = refl
any-append test (x ∷ xs) ys = ap (λ b. test x || b) (any-append test xs ys) ∙ or-assoc (test x) (list_any test xs) (list_any test ys)

any-flat : {X Y : Type 0} (test : Y → Bool) (f : X → List Y) (xs : List X) → list_any test (flat_map f xs) ≡ list_any (λ x. list_any test (f x)) xs
any-flat test f [] = refl
any-flat test f (x ∷ xs) = any-append test (f x) (flat_map f xs) ∙ ap (λ b. list_any test (f x) || b) (any-flat test f xs)

any-same : {X : Type 0} (p q : X → Bool) → ((x : X) → p x ≡ q x) → (xs : List X) → list_any p xs ≡ list_any q xs
any-same p q same [] = refl
any-same p q same (x ∷ xs) = ap₂ (λ b c. b || c) (same x) (any-same p q same xs)

among-roomy : (lit : Lit) (others : List Lit) → lit_fits lit ≡ true → is_among others lit ≡ is_among (filter lit_fits others) lit
among-roomy lit [] room = refl
among-roomy lit (x ∷ others) room = by (lit_fits x) refl (among-roomy lit others room) where
  by : (b : Bool) → lit_fits x ≡ b → is_among others lit ≡ is_among (filter lit_fits others) lit → is_among (x ∷ others) lit ≡ is_among (cond {A = List Lit} (lit_fits x) (x ∷ filter lit_fits others) (filter lit_fits others)) lit
  by true is rest = ap (λ c. same_lit lit x || c) rest ∙ sym (ap (λ b. is_among (cond {A = List Lit} b (x ∷ filter lit_fits others) (filter lit_fits others)) lit) is)
  by false is rest =
      ap (λ c. c || is_among others lit) (still_false (lit_fits x) (same_lit lit x) (λ h. sym (room-same lit x h) ∙ room) is)
      ∙ rest
      ∙ sym (ap (λ b. is_among (cond {A = List Lit} b (x ∷ filter lit_fits others) (filter lit_fits others)) lit) is)

lemma-lit : (k : ℕ) (atom : Atom) (lit : Lit) → lit_fits lit ≡ true → (e : Framed) → (nat_le k e.level && (e.lemma.pred == atom.pred) && stands_in lit (lemma_at atom.args e.lemma.cube)) ≡ is_among (lemma_lits k atom e) lit
lemma-lit k atom lit room e = by (nat_le k e.level && (e.lemma.pred == atom.pred)) where
  by : (b : Bool) → (b && stands_in lit (lemma_at atom.args e.lemma.cube)) ≡ is_among (cond {A = List Lit} b (roomy_denials atom.args e.lemma.cube) []) lit
  by true = stands-denials lit atom.args e.lemma.cube ∙ among-roomy lit (denials atom.args e.lemma.cube) room
  by false = refl

pub frame-roomy : (es : List Framed) (k : ℕ) (atoms : List Atom) (lit : Lit) → lit_fits lit ≡ true → is_of_frame es k atoms lit ≡ is_among (frame_lits es k atoms) lit
frame-roomy es k atoms lit room =
    any-same (λ (atom : Atom). list_any (λ (e : Framed). nat_le k e.level && (e.lemma.pred == atom.pred) && stands_in lit (lemma_at atom.args e.lemma.cube)) es) (λ (atom : Atom). is_among (atom_lits es k atom) lit) each atoms
    ∙ sym (any-flat (same_lit lit) (atom_lits es k) atoms) where
      each : (atom : Atom) → list_any (λ (e : Framed). nat_le k e.level && (e.lemma.pred == atom.pred) && stands_in lit (lemma_at atom.args e.lemma.cube)) es ≡ is_among (atom_lits es k atom) lit
      each atom =
          any-same (λ (e : Framed). nat_le k e.level && (e.lemma.pred == atom.pred) && stands_in lit (lemma_at atom.args e.lemma.cube)) (λ (e : Framed). is_among (lemma_lits k atom e) lit) (lemma-lit k atom lit room) es
          ∙ sym (any-flat (same_lit lit) (lemma_lits k atom) es)

-- the area's literals, of which each has room, stand where the rules look for them
pub all-stand : (guard : Form) (head frame : List Lit) (es : List Framed) (k : ℕ) (atoms : List Atom) → frame ≡ frame_lits es k atoms → (lits : List Lit) → list_all lit_fits lits ≡ true
    → list_all (λ lit. stands_in lit guard || is_among head lit || is_among frame lit) lits ≡ list_all (λ lit. stands_in lit guard || is_among head lit || is_of_frame es k atoms lit) lits
all-stand guard head frame es k atoms same [] room = refl
all-stand guard head frame es k atoms same (lit ∷ lits) room =
    let both = both_true (lit_fits lit) (list_all lit_fits lits) room in
    let here : is_among frame lit ≡ is_of_frame es k atoms lit = ap (λ (ls : List Lit). is_among ls lit) same ∙ sym (frame-roomy es k atoms lit both.0) in
    ap₂ (λ b c. (stands_in lit guard || is_among head lit || b) && c) here (all-stand guard head frame es k atoms same lits both.1)

-- a placed literal without room leaves no denial with room, and one with room and a short constant leaves them all

pub negated-short : (ts : List (ℕ × ℤ)) → are_short (negated_terms ts) ≡ are_short ts
negated-short [] = refl
negated-short (t ∷ ts) = ap₂ (λ b c. b && c) (ap (λ n. nat_lt n (2 ^ 63)) (abs-neg t.1)) (negated-short ts)

drops : (lit : Lit) (lits : List Lit) → lit_fits lit ≡ false → filter lit_fits (lit ∷ lits) ≡ filter lit_fits lits
drops lit lits wide = ap (λ b. cond {A = List Lit} b (lit ∷ filter lit_fits lits) (filter lit_fits lits)) wide

stays : (lit : Lit) (lits : List Lit) → lit_fits lit ≡ true → filter lit_fits (lit ∷ lits) ≡ lit ∷ filter lit_fits lits
stays lit lits room = ap (λ b. cond {A = List Lit} b (lit ∷ filter lit_fits lits) (filter lit_fits lits)) room

not-fits : (lin : Linear) → is_short lin.constant ≡ true → fits lin ≡ false → are_short lin.terms ≡ false
not-fits lin short wide = by (are_short lin.terms) refl where
  by : (b : Bool) → are_short lin.terms ≡ b → are_short lin.terms ≡ false
  by false is = is
  by true is = absurd (true≢false (sym (from_both (are_short lin.terms) (is_long lin.constant) is (long-short lin.constant short)) ∙ wide))

wide-plus : (lin : Linear) (k : ℤ) → are_short lin.terms ≡ false → fits (plus lin k) ≡ false
wide-plus lin k wide = ap (λ b. b && is_long (lin.constant +ℤ k)) wide

roomy-plus : (lin : Linear) → are_short lin.terms ≡ true → is_short lin.constant ≡ true → fits (plus lin (pos 1)) ≡ true
roomy-plus lin room short = from_both (are_short lin.terms) (is_long (lin.constant +ℤ pos 1)) room (long-plus lin.constant short)

wide-lin : (lin : Linear) → are_short lin.terms ≡ false → are_short (negated lin).terms ≡ false
wide-lin lin wide = negated-short lin.terms ∙ wide

short-neg : (n : ℤ) → is_short n ≡ true → is_short (neg_ℤ n) ≡ true
short-neg n short = ap (λ m. nat_lt m (2 ^ 63)) (abs-neg n) ∙ short

wide-denials : (lit : Lit) → is_short (linear_of lit).constant ≡ true → lit_fits lit ≡ false → filter lit_fits (denial lit) ≡ []
wide-denials (Le lin) short wide =
    let terms = not-fits lin short wide in
    drops (Le (plus (negated lin) (pos 1))) [] (wide-plus (negated lin) (pos 1) (wide-lin lin terms))
wide-denials (Eq lin) short wide =
    let terms = not-fits lin short wide in
    drops (Le (plus lin (pos 1))) (Le (plus (negated lin) (pos 1)) ∷ []) (wide-plus lin (pos 1) terms)
    ∙ drops (Le (plus (negated lin) (pos 1))) [] (wide-plus (negated lin) (pos 1) (wide-lin lin terms))
wide-denials (Div d lin) short wide = drops (NDiv d lin) [] wide
wide-denials (NDiv d lin) short wide = drops (Div d lin) [] wide

roomy-all : (lit : Lit) → is_short (linear_of lit).constant ≡ true → lit_fits lit ≡ true → filter lit_fits (denial lit) ≡ denial lit
roomy-all (Le lin) short room =
    let terms = (both_true (are_short lin.terms) (is_long lin.constant) room).0 in
    stays (Le (plus (negated lin) (pos 1))) [] (roomy-plus (negated lin) (negated-short lin.terms ∙ terms) (short-neg lin.constant short))
roomy-all (Eq lin) short room =
    let terms = (both_true (are_short lin.terms) (is_long lin.constant) room).0 in
    stays (Le (plus lin (pos 1))) (Le (plus (negated lin) (pos 1)) ∷ []) (roomy-plus lin terms short)
    ∙ ap (λ ls. Le (plus lin (pos 1)) ∷ ls) (stays (Le (plus (negated lin) (pos 1))) [] (roomy-plus (negated lin) (negated-short lin.terms ∙ terms) (short-neg lin.constant short)))
roomy-all (Div d lin) short room = stays (NDiv d lin) [] room
roomy-all (NDiv d lin) short room = stays (Div d lin) [] room

pub constant-at : (args : List ℕ) (lit : Lit) → is_short (linear_of lit).constant ≡ true → is_short (linear_of (lit_at args lit)).constant ≡ true
constant-at args (Le lin) short = short
constant-at args (Eq lin) short = short
constant-at args (Div d lin) short = short
constant-at args (NDiv d lin) short = short

pub denials-wide : (args : List ℕ) (lit : Lit) → is_short (linear_of lit).constant ≡ true → lit_fits (lit_at args lit) ≡ false → filter lit_fits (denial (lit_at args lit)) ≡ []
denials-wide args lit short wide = wide-denials (lit_at args lit) (constant-at args lit short) wide

pub denials-all : (args : List ℕ) (lit : Lit) → is_short (linear_of lit).constant ≡ true → lit_fits (lit_at args lit) ≡ true → filter lit_fits (denial (lit_at args lit)) ≡ denial (lit_at args lit)
denials-all args lit short room = roomy-all (lit_at args lit) (constant-at args lit short) room

-- where the constant is short, each denial of a literal with room has room
pub denials-fit : (lit : Lit) → is_short (linear_of lit).constant ≡ true → lit_fits lit ≡ true → list_all lit_fits (denial lit) ≡ true
denials-fit (Le lin) short room =
    let terms = (both_true (are_short lin.terms) (is_long lin.constant) room).0 in
    from_both (fits (plus (negated lin) (pos 1))) true (roomy-plus (negated lin) (negated-short lin.terms ∙ terms) (short-neg lin.constant short)) refl
denials-fit (Eq lin) short room =
    let terms = (both_true (are_short lin.terms) (is_long lin.constant) room).0 in
    from_both (fits (plus lin (pos 1))) (fits (plus (negated lin) (pos 1)) && true) (roomy-plus lin terms short) (from_both (fits (plus (negated lin) (pos 1))) true (roomy-plus (negated lin) (negated-short lin.terms ∙ terms) (short-neg lin.constant short)) refl)
denials-fit (Div d lin) short room = from_both (fits lin) true room refl
denials-fit (NDiv d lin) short room = from_both (fits lin) true room refl

-- a literal, and those behind it

pub roomy-cons : (args : List ℕ) (lit : Lit) (cube : List Lit) → roomy_denials args (lit ∷ cube) ≡ roomy_denials args (lit ∷ []) ++ roomy_denials args cube
roomy-cons args lit cube =
    filter-append lit_fits (denial (lit_at args lit)) (denials args cube)
    ∙ ap (λ (ls : List Lit). filter lit_fits ls ++ roomy_denials args cube) (sym (append-nil (denial (lit_at args lit))))

pub roomy-none : (args : List ℕ) (lit : Lit) → lit_is_short lit ≡ true → lit_fits (lit_at args lit) ≡ false → roomy_denials args (lit ∷ []) ≡ []
roomy-none args lit short wide = ap (filter lit_fits) (append-nil (denial (lit_at args lit))) ∙ denials-wide args lit (both_true (are_short (linear_of lit).terms) (is_short (linear_of lit).constant) short).1 wide

pub roomy-some : (args : List ℕ) (lit : Lit) → lit_is_short lit ≡ true → lit_fits (lit_at args lit) ≡ true → roomy_denials args (lit ∷ []) ≡ denial (lit_at args lit)
roomy-some args lit short room = ap (filter lit_fits) (append-nil (denial (lit_at args lit))) ∙ denials-all args lit (both_true (are_short (linear_of lit).terms) (is_short (linear_of lit).constant) short).1 room

pub placed-some : (args : List ℕ) (lit placed : Lit) → lit_is_short lit ≡ true → placed ≡ lit_at args lit → lit_fits placed ≡ true → denial placed ≡ roomy_denials args (lit ∷ [])
placed-some args lit placed short is room = ap denial is ∙ sym (roomy-some args lit short (sym (ap lit_fits is) ∙ room))

pub placed-short : (args : List ℕ) (lit placed : Lit) → lit_is_short lit ≡ true → placed ≡ lit_at args lit → is_short (linear_of placed).constant ≡ true
placed-short args lit placed short is = ap (λ (l : Lit). is_short (linear_of l).constant) is ∙ constant-at args lit (both_true (are_short (linear_of lit).terms) (is_short (linear_of lit).constant) short).1

-- literals of which one has no room are no cube of which each has it
pub cubes-apart : (cube other : List Lit) → list_all lit_fits cube ≡ true → list_all lit_fits other ≡ false → same_cube cube other ≡ false
cubes-apart cube other room wide = still_false (list_all lit_fits other) (same_cube cube other) (λ same. sym (ap (list_all lit_fits) ((cubes_equal cube other).0 same)) ∙ room) wide

-- a form without room is no form that is kept
pub form-wide : (kept form : Form) → form_fits kept ≡ true → form_fits form ≡ false → same_form kept form ≡ false
form-wide kept form room wide = still_false (form_fits form) (same_form kept form) (λ same. sym (ap form_fits ((forms_equal kept form).0 same)) ∙ room) wide
