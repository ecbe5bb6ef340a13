-- More literals cover what fewer cover.
use Rattle.std.proofs.Common.{◌≡◌, List, [], ◌∷◌, ◌++◌, map, Bool, true, false, ◌&&◌, ◌||◌, refl, ap, sym, ◌∙◌, subst}
use Rattle.std.specs.List.{list_all, list_any}
use Rattle.std.proofs.lemmas.List.Folds.{list_any-append}
use mathlib.Core.Bool.{true≢false}
use denote.Hole.Carrier.{roll}
use Rattle.lin_atoms.specs.declared.lit.Lit.{Lit}
use Rattle.lin_atoms.specs.declared.form.Form.{Form, map-Form}
use Rattle.lin_atoms.specs.declared.form.Form.TheOpen.{Form-F}
use Rattle.lin_atoms.specs.declared.form.Form.TheVariants.{True, rolls-And, rolls-Or}
use Rattle.lin_atoms.specs.declared.form.Form.TheViews.{And, Or, roll-Form}
use Rattle.lin_atoms.specs.declared.form.Form.TheFolds.{fold-roll-Form, ind-Form}
use Rattle.book_rules.specs.Areas.{cover, cover_step, is_among, stand_step, stands_in}
use Rattle.book_rules.specs.Same.{same_lit}
use Rattle.cube_rules.proofs.Public.{both_true, from_both}

pub either_left : (a b : Bool) → a ≡ true → (a || b) ≡ true
either_left true b h = refl
either_left false b h = absurd (true≢false (sym h))

pub either_right : (a b : Bool) → b ≡ true → (a || b) ≡ true
either_right true b h = refl
either_right false b h = h

pub either_is : (a b : Bool) (P : Type 0) → (a ≡ true → P) → (b ≡ true → P) → (a || b) ≡ true → P
either_is true b P f g h = f refl
either_is false b P f g h = g h

-- a literal that is among some is among more

pub among-more : (lits more : List Lit) (lit : Lit) → is_among lits lit ≡ true → is_among (lits ++ more) lit ≡ true
among-more lits more lit h = list_any-append (same_lit lit) lits more ∙ either_left (is_among lits lit) _ h

-- so it is with what they cover

abbrev Stays : List Lit → List Lit → Form → Type 0
Stays old new form = cover old form ≡ true → cover new form ≡ true

all-stay : (old new : List Lit) (ys : List ((form : Form) × Stays old new form)) → list_all (λ b. b) (map (cover old) (map (λ y. y.0) ys)) ≡ true → list_all (λ b. b) (map (cover new) (map (λ y. y.0) ys)) ≡ true
all-stay old new [] h = refl
all-stay old new (y ∷ ys) h = let both = both_true (cover old y.0) _ h in from_both (cover new y.0) _ (y.1 both.0) (all-stay old new ys both.1)

some-stay : (old new : List Lit) (ys : List ((form : Form) × Stays old new form)) → list_any (λ b. b) (map (cover old) (map (λ y. y.0) ys)) ≡ true → list_any (λ b. b) (map (cover new) (map (λ y. y.0) ys)) ≡ true
some-stay old new [] h = h
some-stay old new (y ∷ ys) h =
    let rest = list_any (λ b. b) (map (cover new) (map (λ y. y.0) ys)) in
    either_is (cover old y.0) _ ((cover new y.0 || rest) ≡ true) (λ is. either_left (cover new y.0) rest (y.1 is)) (λ is. either_right (cover new y.0) rest (some-stay old new ys is)) h

node-stays : (old new : List Lit) → ((lit : Lit) → is_among old lit ≡ true → is_among new lit ≡ true) → (y : Form-F ((form : Form) × Stays old new form))
    → cover_step old (map-Form Form Bool (cover old) (map-Form ((form : Form) × Stays old new form) Form (λ e. e.0) y)) ≡ true
    → cover_step new (map-Form Form Bool (cover new) (map-Form ((form : Form) × Stays old new form) Form (λ e. e.0) y)) ≡ true
node-stays old new more Form-F.True h = refl
node-stays old new more Form-F.False h = absurd (true≢false (sym h))
node-stays old new more (Form-F.Lit lit) h = more lit h
node-stays old new more (Form-F.And ys) h = all-stay old new ys h
node-stays old new more (Form-F.Or ys) h = some-stay old new ys h

from-node : (old new : List Lit) (x : Form-F Form) → (cover_step old (map-Form Form Bool (cover old) x) ≡ true → cover_step new (map-Form Form Bool (cover new) x) ≡ true) → Stays old new (roll-Form x)
from-node old new x f h = fold-roll-Form Bool (cover_step new) x ∙ f (sym (fold-roll-Form Bool (cover_step old) x) ∙ h)

stay : (old new : List Lit) → ((lit : Lit) → is_among old lit ≡ true → is_among new lit ≡ true) → (form : Form) → Stays old new form
stay old new more = ind-Form (Stays old new) (λ x y is. subst (λ z. Stays old new (roll-Form z)) is (from-node old new _ (node-stays old new more y)))

pub covers-more : (lits more : List Lit) (form : Form) → cover lits form ≡ true → cover (lits ++ more) form ≡ true
covers-more lits more form = stay lits (lits ++ more) (among-more lits more) form

-- formulas, by what they are made of

all_map : {X : Type 0} (f : X → Bool) (xs : List X) → list_all (λ b. b) (map f xs) ≡ list_all f xs
all_map f [] = refl
all_map f (x ∷ xs) = ap (λ b. f x && b) (all_map f xs)

any_map : {X : Type 0} (f : X → Bool) (xs : List X) → list_any (λ b. b) (map f xs) ≡ list_any f xs
any_map f [] = refl
any_map f (x ∷ xs) = ap (λ b. f x || b) (any_map f xs)

pub cover-True : (lits : List Lit) → cover lits True ≡ true
unfolding roll-Form roll
cover-True lits = fold-roll-Form Bool (cover_step lits) Form-F.True

pub cover-And : (lits : List Lit) (parts : List Form) → cover lits (And parts) ≡ list_all (cover lits) parts
cover-And lits parts = ap (cover lits) (sym (rolls-And parts)) ∙ fold-roll-Form Bool (cover_step lits) _ ∙ all_map (cover lits) parts

pub cover-Or : (lits : List Lit) (parts : List Form) → cover lits (Or parts) ≡ list_any (cover lits) parts
cover-Or lits parts = ap (cover lits) (sym (rolls-Or parts)) ∙ fold-roll-Form Bool (cover_step lits) _ ∙ any_map (cover lits) parts

pub stands-And : (lit : Lit) (parts : List Form) → stands_in lit (And parts) ≡ list_any (stands_in lit) parts
stands-And lit parts = ap (stands_in lit) (sym (rolls-And parts)) ∙ fold-roll-Form Bool (stand_step lit) _ ∙ any_map (stands_in lit) parts

pub stands-Or : (lit : Lit) (parts : List Form) → stands_in lit (Or parts) ≡ list_any (stands_in lit) parts
stands-Or lit parts = ap (stands_in lit) (sym (rolls-Or parts)) ∙ fold-roll-Form Bool (stand_step lit) _ ∙ any_map (stands_in lit) parts
