-- What a node knows stands where its tree does.
use Rattle.std.proofs.Common.{◌≡◌, ℕ, zero, suc, ◌+◌, ◌<◌, ◌≤◌, List, [], ◌∷◌, ◌++◌, length, map, drop, get_or, refl, ap, sym, ◌∙◌, subst, arith, true, false, Bool, Some, ◌⊎◌, inl, inr}
use Rattle.std.specs.Prelude.{ℤ, slice_get, slice_set}
use Rattle.std.specs.List.{flat_map, list_all}
use Rattle.std.proofs.lemmas.List.{drop_more}
use denote.Hole.Carrier.{roll}
use Rattle.lin_atoms.specs.declared.lit.Lit.{Lit}
use Rattle.lin_atoms.specs.declared.lit.Lit.TheVariants.{Le, Eq, Div, NDiv}
use Rattle.lin_atoms.specs.declared.form.Form.{Form}
use Rattle.lin_atoms.specs.declared.form.Form.TheOpen.{Form-F}
use Rattle.lin_atoms.specs.declared.form.Form.TheViews.{And, roll-Form}
use Rattle.lin_atoms.specs.declared.form.Form.TheVariants.{Lit as Literal}
use Rattle.lin_atoms.specs.declared.form.Form.TheFolds.{fold-roll-Form}
use Rattle.lin_atoms.proofs.Public.{both_true}
use Rattle.int_rows.specs.Node.{quotients}
use Rattle.int_rows.specs.Ready.{has_no_variable}
use Rattle.refutation_trees.specs.Combination.{may_be_multiplied}
use Rattle.refutation_trees.specs.Flatten.{literals, literals_step}
use Rattle.refutation_trees.proofs.FlattenLemmas.{literals-And}
use Rattle.lia_close.specs.Said.{AreAt, AreReasons, said_by}
use Rattle.refutation_trees.specs.declared.tree.Refutation.{Refutation}
use Rattle.refutation_trees.specs.declared.tree.Refutation.TheViews.{Round}
use Rattle.lia_guesses.specs.declared.chain.Rounding.{Rounding}
use Rattle.lia_guesses.specs.declared.said.Said.{Said}
use Rattle.lia_divisors.specs.machinery.Chain.{chained}
use Rattle.lia_divisors.specs.machinery.There.{AreThere, StandsFor, is_blank}

-- one literal more
pub there-push : (known : List Lit) (ss : List Said) (s : Said) → AreThere known ss → slice_get known s.number ≡ Some s.lit → AreThere known (ss ++ s ∷ [])
there-push known [] s are there = (there, tt)
there-push known (t ∷ ss) s are there = (are.0, there-push known ss s are.1 there)

-- what stands in its place
pub there-at : (known : List Lit) (ss : List Said) (i : ℕ) (d : Said) → i < length ss → AreThere known ss → slice_get known (get_or ss i d).number ≡ Some (get_or ss i d).lit
there-at known [] i d less are = absurd (omega (arith, less))
there-at known (s ∷ ss) zero d less are = are.0
there-at known (s ∷ ss) (suc i) d less are = there-at known ss i d (omega (arith, less)) are.1

-- the reason of the next literal, and those of the others
abbrev pub IsReason : List Lit → ℕ → Lit → ℕ → Type 0
IsReason known q lit r = has_no_variable lit ≡ false → AreAt known r (said_by q lit)

reasons-cons : (known : List Lit) (q : ℕ) (lit : Lit) (lits : List Lit) (r : ℕ) (rs : List ℕ) → AreReasons known q (lit ∷ lits) (r ∷ rs) → IsReason known q lit r × AreReasons known (q + quotients lit) lits rs
reasons-cons known q lit lits r rs are = are

pub reasons-next : (known : List Lit) (q : ℕ) (lits : List Lit) (rs : List ℕ) (i : ℕ) (d : Lit) (e : ℕ) → i < length lits → length rs ≡ length lits → AreReasons known q (drop i lits) (drop i rs)
    → IsReason known q (get_or lits i d) (get_or rs i e) × AreReasons known (q + quotients (get_or lits i d)) (drop (i + 1) lits) (drop (i + 1) rs)
reasons-next known q lits rs i d e less each are =
    let more : i < length rs = omega (arith, less, each) in
    let first = subst (λ (ls : List Lit). AreReasons known q ls (drop i rs)) (drop_more lits i d less) are in
    let both = subst (λ (ns : List ℕ). AreReasons known q (get_or lits i d ∷ drop (i + 1) lits) ns) (drop_more rs i e more) first in
    reasons-cons known q (get_or lits i d) (drop (i + 1) lits) (get_or rs i e) (drop (i + 1) rs) both

-- a literal is put in its place
set-same : {X : Type 0} (xs : List X) (i : ℕ) (x : X) → i < length xs → slice_get (slice_set xs i x) i ≡ Some x
set-same [] i x less = absurd (omega (arith, less))
set-same (y ∷ xs) zero x less = refl
set-same (y ∷ xs) (suc i) x less = set-same xs i x (omega (arith, less))

-- what is found in a list with one item replaced is that item, or was there
set-found : {X : Type 0} (xs : List X) (i p : ℕ) (x y : X) → slice_get (slice_set xs i x) p ≡ Some y → ((p ≡ i) × (x ≡ y)) ⊎ (slice_get xs p ≡ Some y)
set-found [] i p x y found = inr found
set-found (z ∷ xs) zero zero x y found = let same : x ≡ y = cc in inl (refl, same)
set-found (z ∷ xs) zero (suc p) x y found = inr found
set-found (z ∷ xs) (suc i) zero x y found = inr found
set-found (z ∷ xs) (suc i) (suc p) x y found = by (set-found xs i p x y found) where
  by : ((p ≡ i) × (x ≡ y)) ⊎ (slice_get xs p ≡ Some y) → ((suc p ≡ suc i) × (x ≡ y)) ⊎ (slice_get xs p ≡ Some y)
  by (inl both) = inl (ap suc both.0, both.1)
  by (inr there) = inr there

pub stands-put : (filled known : List Lit) (i : ℕ) (lit : Lit) → slice_get known i ≡ Some lit → StandsFor filled known → StandsFor (slice_set filled i lit) known
stands-put filled known i lit there stands p k found_lit found may = by (set-found filled i p lit found_lit found) where
  by : ((p ≡ i) × (lit ≡ found_lit)) ⊎ (slice_get filled p ≡ Some found_lit) → slice_get known p ≡ Some found_lit
  by (inl both) = ap (slice_get known) both.0 ∙ there ∙ ap (λ (l : Lit). Some l) both.1
  by (inr old) = stands p k found_lit old may

-- nothing of use stands for anything
blank-not : (lit : Lit) (k : ℤ) → is_blank lit ≡ true → may_be_multiplied k lit ≡ true → ⊥
blank-not (Le lin) k blank may = absurd (cc)
blank-not (Eq lin) k blank may = absurd (cc)
blank-not (Div n lin) k blank may = absurd (cc)
blank-not (NDiv n lin) k blank may = absurd (cc)

all-at : (lits : List Lit) (p : ℕ) (lit : Lit) → list_all is_blank lits ≡ true → slice_get lits p ≡ Some lit → is_blank lit ≡ true
all-at [] p lit all found = absurd (cc)
all-at (l ∷ lits) zero lit all found = let same : l ≡ lit = cc in ap is_blank (sym same) ∙ (both_true (is_blank l) _ all).0
all-at (l ∷ lits) (suc p) lit all found = all-at lits p lit (both_true (is_blank l) _ all).1 found

pub stands-blank : (filled known : List Lit) → list_all is_blank filled ≡ true → StandsFor filled known
stands-blank filled known all p k lit found may = absurd (blank-not lit k (all-at filled p lit all found) may)

-- the literals of a conjunction of literals
literal-one : (lit : Lit) → literals (Literal lit) ≡ lit ∷ []
unfolding roll-Form roll
literal-one lit = fold-roll-Form (List Lit) literals_step (Form-F.Lit lit)

each-literal : (lits : List Lit) → flat_map literals (map (λ lit. Literal lit) lits) ≡ lits
each-literal [] = refl
each-literal (lit ∷ lits) = ap (λ (ls : List Lit). ls ++ flat_map literals (map (λ l. Literal l) lits)) (literal-one lit) ∙ ap (λ (ls : List Lit). lit ∷ ls) (each-literal lits)

pub conjunction-literals : (parts : List Form) (lits : List Lit) → parts ≡ map (λ lit. Literal lit) lits → literals (And parts) ≡ lits
conjunction-literals parts lits same = literals-And parts ∙ ap (flat_map literals) same ∙ each-literal lits

-- a literal that is known from a number on
pub at-first : (known : List Lit) (from : ℕ) (lit : Lit) (lits : List Lit) → AreAt known from (lit ∷ lits) → slice_get known from ≡ Some lit
at-first known from lit lits at = ap (λ (n : ℕ). slice_get known n) (let same : from ≡ from + 0 = omega arith in same) ∙ at 0 lit refl

pub at-second : (known : List Lit) (from : ℕ) (one two : Lit) (lits : List Lit) → AreAt known from (one ∷ two ∷ lits) → slice_get known (from + 1) ≡ Some two
at-second known from one two lits at = at 1 two refl

-- the last rounding stands next to the tree
pub chained-push : (rs us : List Rounding) (r : Rounding) (t : Refutation) → us ≡ rs ++ r ∷ [] → chained us t ≡ chained rs (Round r.multipliers.items r.divisor t)
chained-push rs us r t same = ap (λ (xs : List Rounding). chained xs t) same ∙ last rs where
  last : (rs : List Rounding) → chained (rs ++ r ∷ []) t ≡ chained rs (Round r.multipliers.items r.divisor t)
  last [] = refl
  last (x ∷ rs) = ap (λ (u : Refutation). Round x.multipliers.items x.divisor u) (last rs)

pub bounds-kept : (q reason : ℕ) (lit other : Lit) (old new : List Said) → lit ≡ other → ((known : List Lit) → AreThere known old → AreAt known reason (said_by q other) → AreThere known new) → (known : List Lit) → AreThere known old → AreAt known reason (said_by q lit) → AreThere known new
bounds-kept q reason lit other old new is gives known are at = gives known are (subst (λ (l : Lit). AreAt known reason (said_by q l)) is at)
