-- Readings of terms by their nodes.
use Rattle.std.proofs.Common.{◌≡◌, ℕ, suc, ◌+◌, ◌-◌, ◌<◌, List, [], ◌∷◌, ◌++◌, length, drop, get_or, Bool, true, ◌&&◌, inl, inr, refl, ap, sym, ◌∙◌, subst, arith}
use Rattle.std.specs.Prelude.{slice_get, Option, Some, Result, Ok, Err, IsTrue, ℤ, nat_lt}
use Rattle.std.specs.List.{list_all}
use Rattle.std.specs.Ordering.{nat_cmp}
use Rattle.std.specs.BTreeMap.{BTreeMap, get}
use Rattle.std.proofs.lemmas.Bool.{cases_eq}
use Rattle.std.proofs.lemmas.List.{drop_more}
use Rattle.term_tree.specs.declared.node.TermId.{TermId}
use Rattle.term_tree.specs.declared.node.Node.{Node}
use Rattle.term_tree.specs.declared.node.Node.TheVariants.{LetVar, Pred, Op, Divisible, Let, Forall, Exists}
use Rattle.term_tree.specs.Arena.{is_below, has_parts_below}
use Rattle.term_tree.proofs.Public.{below_from, both_true, told_at_each}
use Rattle.lin_atoms.specs.Linear.{Linear}
use Rattle.linear_terms.specs.Linear.{Naming, zero_form}
use Rattle.linear_terms.specs.Width.{text_parts}
use Rattle.term_forms.specs.declared.stop.FormStop.{FormStop}
use Rattle.term_forms.specs.declared.stop.FormStop.TheVariants.{Memory, Wide}
use Rattle.term_forms.specs.Found.{Tells}
use Rattle.term_forms.specs.machinery.Reading.{AreRead, TellsAll, and_then, each, formed, is_leaf, judged, last_form, node_reading, reading, told_reading}

pushed_below : (n : ℕ) (ids : List TermId) (id : TermId) → list_all (is_below n) ids ≡ true → nat_lt id.0 n ≡ true → list_all (is_below n) (ids ++ id ∷ []) ≡ true
pushed_below n [] id below less = ap (λ (b : Bool). b && true) less
pushed_below n (k ∷ ids) id below less =
    let both = both_true (nat_lt k.0 n) (list_all (is_below n) ids) below in
    ap (λ (b : Bool). b && list_all (is_below n) (ids ++ id ∷ [])) both.0 ∙ pushed_below n ids id both.1 less

-- the parts of a node are below where it may stand
pub all_below : (n : ℕ) (node : Node) → has_parts_below n node ≡ true → list_all (is_below n) (text_parts node) ≡ true
all_below n (LetVar bound) below = ap (λ (b : Bool). b && true) below
all_below n (Pred pred args) below = below
all_below n (Op op args) below = below
all_below n (Divisible by arg) below = ap (λ (b : Bool). b && true) below
all_below n (Let bound body) below = let both = both_true (list_all (is_below n) bound) (nat_lt body.0 n) below in pushed_below n bound body both.0 both.1
all_below n (Forall first sorts body) below = ap (λ (b : Bool). b && true) below
all_below n (Exists first sorts body) below = ap (λ (b : Bool). b && true) below
all_below n _ below = refl

-- a leaf has no parts
pub leaf_parts : (node : Node) → is_leaf node ≡ true → text_parts node ≡ []
leaf_parts (LetVar bound) leaf = absurd (cc)
leaf_parts (Pred pred args) leaf = absurd (cc)
leaf_parts (Op op args) leaf = absurd (cc)
leaf_parts (Divisible by arg) leaf = absurd (cc)
leaf_parts (Let bound body) leaf = absurd (cc)
leaf_parts (Forall first sorts body) leaf = absurd (cc)
leaf_parts (Exists first sorts body) leaf = absurd (cc)
leaf_parts _ leaf = refl

then_same : {A B : Type 0} (r : Result A ℕ) (f g : A → Result B ℕ) → ((a : A) → f a ≡ g a) → and_then r f ≡ and_then r g
then_same (Ok a) f g same = same a
then_same (Err at) f g same = refl

each_rest : (p q : ℕ → ℕ → Result Linear ℕ) (n : ℕ) (before : List Linear) (ids : List TermId) → ((c : ℕ) → c < n → (own : ℕ) → p c own ≡ q c own) → list_all (is_below n) ids ≡ true
    → each p before ids ≡ each q before ids
each_rest p q n before [] same below = refl
each_rest p q n before (id ∷ ids) same below =
    let both = both_true (nat_lt id.0 n) (list_all (is_below n) ids) below in
    ap (λ (r : Result Linear ℕ). and_then r (λ form. each p (before ++ form ∷ []) ids)) (same id.0 (below_from id.0 n both.0) id.0)
    ∙ then_same (q id.0 id.0) (λ form. each p (before ++ form ∷ []) ids) (λ form. each q (before ++ form ∷ []) ids) (λ form. each_rest p q n (before ++ form ∷ []) ids same both.1)

readings_rest : (constant : ℕ → Option ℤ) (naming : Naming) (p q : ℕ → ℕ → Result Linear ℕ) (n : ℕ) (node : Node) (own : ℕ) → ((c : ℕ) → c < n → (a : ℕ) → p c a ≡ q c a)
    → has_parts_below n node ≡ true → node_reading constant naming p node own ≡ node_reading constant naming q node own
readings_rest constant naming p q n node own same below =
    ap (λ (r : Result (List Linear) ℕ). and_then r (λ forms. judged own (formed constant naming node own forms))) (each_rest p q n [] (text_parts node) same (all_below n node below))

-- what is read of a term, by its node
pub reading_at : (constant : ℕ → Option ℤ) (naming : Naming) (nodes : List Node) (id : ℕ) (node : Node) → slice_get nodes id ≡ Some node → has_parts_below id node ≡ true
    → reading constant naming nodes id ≡ node_reading constant naming (told_reading constant naming nodes) node id
reading_at constant naming nodes id node is below =
    told_at_each ℕ (Result Linear ℕ) (λ own. Ok zero_form) (node_reading constant naming) (λ p q n m own. readings_rest constant naming p q n m own) nodes id node id is below

stopped : (found : Result (List Linear) ℕ) (f : List Linear → Result Linear ℕ) (stop : FormStop) → TellsAll found (Err stop) → Tells (and_then found f) (Err stop)
stopped found f Memory h = tt
stopped found f (Wide term) h = ap (λ (r : Result (List Linear) ℕ). and_then r f) h

module _ (constant : ℕ → Option ℤ) (naming : Naming) (nodes : List Node) (id : ℕ) (node : Node) (is : slice_get nodes id ≡ Some node) (below : has_parts_below id node ≡ true) where
  -- a part is wide, or its form couldn't be made
  pub part_stops : (stop : FormStop) → TellsAll (each (told_reading constant naming nodes) [] (text_parts node)) (Err stop) → Tells (reading constant naming nodes id) (Err stop)
  part_stops stop h =
      subst (λ (r : Result Linear ℕ). Tells r (Err stop)) (sym (reading_at constant naming nodes id node is below))
      (stopped (each (told_reading constant naming nodes) [] (text_parts node)) (λ forms. judged id (formed constant naming node id forms)) stop h)

  -- the forms of the parts tell
  pub parts_tell : (forms : List Linear) (result : Result Linear FormStop) → each (told_reading constant naming nodes) [] (text_parts node) ≡ Ok forms
      → Tells (judged id (formed constant naming node id forms)) result → Tells (reading constant naming nodes id) result
  parts_tell forms result found h =
      subst (λ (r : Result Linear ℕ). Tells r result)
      (sym (reading_at constant naming nodes id node is below ∙ ap (λ (r : Result (List Linear) ℕ). and_then r (λ fs. judged id (formed constant naming node id fs))) found)) h

-- one more form is kept
pub kept_more : (constant : ℕ → Option ℤ) (naming : Naming) (nodes : List Node) (old new : BTreeMap ℕ Linear) (id : ℕ) (form : Linear) → AreRead constant naming nodes old
    → reading constant naming nodes id ≡ Ok form → get nat_cmp new id ≡ Some form → ((q : ℕ) → (id ≡ q → ⊥) → get nat_cmp new q ≡ get nat_cmp old q) → AreRead constant naming nodes new
kept_more constant naming nodes old new id form are read here others q other has = elim (cases_eq id q) [
  | inl same ↦
      let e : Some form ≡ Some other = sym here ∙ ap (get nat_cmp new) same ∙ has in
      let f : form ≡ other = cc in
      ap (reading constant naming nodes) (sym same) ∙ read ∙ ap (λ (l : Linear). Ok l) f
  | inr differ ↦ are q other (sym (others q differ) ∙ has)
]

-- the next part's form
pub each_more : (read : ℕ → ℕ → Result Linear ℕ) (before new : List Linear) (ids : List TermId) (i : ℕ) (d : TermId) (form : Linear) → i < length ids
    → read (get_or ids i d).0 (get_or ids i d).0 ≡ Ok form → new ≡ before ++ form ∷ [] → each read before (drop i ids) ≡ each read new (drop (i + 1) ids)
each_more read before new ids i d form h found pushed =
    ap (each read before) (drop_more ids i d h) ∙ ap (λ (r : Result Linear ℕ). and_then r (λ f. each read (before ++ f ∷ []) (drop (i + 1) ids))) found
    ∙ ap (λ (fs : List Linear). each read fs (drop (i + 1) ids)) (sym pushed)

-- the next part stops
pub each_stops : (read : ℕ → ℕ → Result Linear ℕ) (before : List Linear) (ids : List TermId) (i : ℕ) (d : TermId) (whole : Result (List Linear) ℕ) (stop : FormStop) → i < length ids
    → each read before (drop i ids) ≡ whole → Tells (read (get_or ids i d).0 (get_or ids i d).0) (Err stop) → TellsAll whole (Err stop)
each_stops read before ids i d whole Memory h is told = tt
each_stops read before ids i d whole (Wide term) h is told =
    sym is ∙ ap (each read before) (drop_more ids i d h) ∙ ap (λ (r : Result Linear ℕ). and_then r (λ f. each read (before ++ f ∷ []) (drop (i + 1) ids))) told

pub below_at : (n : ℕ) (ids : List TermId) (i : ℕ) (d : TermId) → i < length ids → IsTrue (list_all (is_below n) (drop i ids)) → ((get_or ids i d).0 < n) × IsTrue (list_all (is_below n) (drop (i + 1) ids))
below_at n ids i d h below =
    let split : list_all (is_below n) (get_or ids i d ∷ drop (i + 1) ids) ≡ true = ap (list_all (is_below n)) (sym (drop_more ids i d h)) ∙ below in
    let both = both_true (nat_lt (get_or ids i d).0 n) (list_all (is_below n) (drop (i + 1) ids)) split in
    (below_from (get_or ids i d).0 n both.0, both.1)

later_at : (f : Linear) (fs : List Linear) (d : Linear) (m n : ℕ) → m ≡ n + 1 → get_or (f ∷ fs) m d ≡ get_or fs n d
later_at f fs d m n e = let next : m ≡ suc n = omega arith in ap (λ (k : ℕ). get_or (f ∷ fs) k d) next

-- the last of some forms
pub last_at : (forms : List Linear) (form : Linear) → 0 < length forms → form ≡ get_or forms (length forms - 1) form → form ≡ last_form forms
last_at [] form some is = absurd (omega arith)
last_at (f ∷ []) form some is = is
last_at (f ∷ g ∷ forms) form some is = last_at (g ∷ forms) form (omega arith) (is ∙ later_at f (g ∷ forms) form (length (f ∷ g ∷ forms) - 1) (length (g ∷ forms) - 1) (omega arith))
