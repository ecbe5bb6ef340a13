-- Rows that are freed of columns by the rows that are solved for them.
use Rattle.std.proofs.Common.{◌≡◌, ℕ, suc, zero, List, [], ◌∷◌, ◌++◌, refl, ap, sym, ◌∙◌, arith, subst, ◌<◌, ◌≤◌, ◌+◌, ◌^◌, length, take, true}
use Rattle.std.specs.Prelude.{ℤ, pos, nat_abs, ◌<ℤ◌}
use Rattle.std.specs.List.{All, Contains}
use Rattle.std.proofs.lemmas.List.{get_or-append-add, get_or-take, get_or_append_left, length-append, length-take}
use Rattle.std.proofs.lemmas.List.Elements.{All-append}
use Rattle.int_rows.specs.Pivot.{CanCross, crossed, eliminated}
use Rattle.int_rows.specs.Pushed.{IsFirstWide, freed, freed_of}
use Rattle.int_rows.specs.Rows.{Follows, are_short, content, entry, is_primitive}
use Rattle.int_rows.specs.Space.{SameSpace}
use Rattle.int_rows.specs.Table.{basic_at, row_at}
use Rattle.int_rows.specs.machinery.Freeing.{CanFree, Frees}
use Rattle.int_rows.proofs.FollowLemmas.{eliminated-follows, eliminated-follows-back, follows-own, follows-trans}
use Rattle.int_rows.proofs.PivotLemmas.{eliminated-gone, eliminated-positive, eliminated-primitive}
use Rattle.int_rows.proofs.PivotedLemmas.{by-same, crossed-positive, eliminated-zero, length-eliminated}
use Rattle.int_rows.proofs.SpaceLemmas.{all-own, one-follows, two-follow}

-- a row with its slack
pub record Kept (slack columns : ℕ) (row : List ℤ) : Type 0 where
  pub width : length row ≡ columns
  pub there : slack < columns
  pub positive : pos 0 <ℤ entry row slack

-- rows that free others, each of its own column
abbrev pub AllFree : ℕ → ℕ → List ℕ → List (List ℤ) → Type 0
AllFree slack columns basic others = (i : ℕ) → i < length others → Frees slack columns (basic_at basic i) (row_at others i)

free-rest : (slack columns c : ℕ) (basic : List ℕ) (o : List ℤ) (others : List (List ℤ)) → AllFree slack columns (c ∷ basic) (o ∷ others) → AllFree slack columns basic others
free-rest slack columns c basic o others all = λ i h. all (suc i) (omega (arith, h))

free-one : (slack columns c : ℕ) (basic : List ℕ) (o : List ℤ) (others : List (List ℤ)) → AllFree slack columns (c ∷ basic) (o ∷ others) → Frees slack columns c o
free-one slack columns c basic o others all = all 0 (omega arith)

pub step-some : (slack columns c : ℕ) (o row : List ℤ) → Kept slack columns row → Frees slack columns c o → 0 < content (crossed c row o)
step-some slack columns c o row is by = crossed-positive c slack o row (is.width ∙ sym by.width) (omega (arith, is.there, is.width)) by.some by.none is.positive

step-kept : (slack columns c : ℕ) (o row : List ℤ) → Kept slack columns row → Frees slack columns c o → Kept slack columns (eliminated c o row)
step-kept slack columns c o row is by =
    let same : length row ≡ length o = is.width ∙ sym by.width in
    record {
      width = length-eliminated c o row same ∙ is.width;
      there = is.there;
      positive = eliminated-positive c slack o row same (omega (arith, is.there, is.width)) by.some (step-some slack columns c o row is by) by.none is.positive;
    }

pub freed-kept : (slack columns : ℕ) (basic : List ℕ) (others : List (List ℤ)) (row : List ℤ) → Kept slack columns row → AllFree slack columns basic others → Kept slack columns (freed basic others row)
freed-kept slack columns [] others row is all = is
freed-kept slack columns (c ∷ basic) [] row is all = is
freed-kept slack columns (c ∷ basic) (o ∷ others) row is all =
    freed-kept slack columns basic others (eliminated c o row) (step-kept slack columns c o row is (free-one slack columns c basic o others all)) (free-rest slack columns c basic o others all)

pub freed-primitive : (slack columns : ℕ) (basic : List ℕ) (others : List (List ℤ)) (row : List ℤ) → Kept slack columns row → AllFree slack columns basic others → is_primitive row ≡ true → is_primitive (freed basic others row) ≡ true
freed-primitive slack columns [] others row is all h = h
freed-primitive slack columns (c ∷ basic) [] row is all h = h
freed-primitive slack columns (c ∷ basic) (o ∷ others) row is all h =
    let by = free-one slack columns c basic o others all in
    freed-primitive slack columns basic others (eliminated c o row) (step-kept slack columns c o row is by) (free-rest slack columns c basic o others all)
    (eliminated-primitive c o row h (step-some slack columns c o row is by))

-- it stays 0 where the others are
freed-zero : (slack columns v : ℕ) (basic : List ℕ) (others : List (List ℤ)) (row : List ℤ) → Kept slack columns row → AllFree slack columns basic others → ((i : ℕ) → i < length others → entry (row_at others i) v ≡ pos 0) → entry row v ≡ pos 0
    → entry (freed basic others row) v ≡ pos 0
freed-zero slack columns v [] others row is all none nil = nil
freed-zero slack columns v (c ∷ basic) [] row is all none nil = nil
freed-zero slack columns v (c ∷ basic) (o ∷ others) row is all none nil =
    let by = free-one slack columns c basic o others all in
    freed-zero slack columns v basic others (eliminated c o row) (step-kept slack columns c o row is by) (free-rest slack columns c basic o others all) (λ i h. none (suc i) (omega (arith, h)))
    (eliminated-zero c v o row (is.width ∙ sym by.width) (step-some slack columns c o row is by) (none 0 (omega arith)) nil)

-- each row is 0 in the columns of the others
abbrev pub AreApart : List ℕ → List (List ℤ) → Type 0
AreApart basic others = (i j : ℕ) → i < length others → j < length basic → (j ≡ i → ⊥) → entry (row_at others i) (basic_at basic j) ≡ pos 0

-- it is 0 in each of the columns
pub freed-gone : (slack columns j : ℕ) (basic : List ℕ) (others : List (List ℤ)) (row : List ℤ) → Kept slack columns row → AllFree slack columns basic others → AreApart basic others → j < length basic → j < length others
    → entry (freed basic others row) (basic_at basic j) ≡ pos 0
freed-gone slack columns j [] others row is all apart h k = absurd (omega (arith, h))
freed-gone slack columns j (c ∷ basic) [] row is all apart h k = absurd (omega (arith, k))
freed-gone slack columns zero (c ∷ basic) (o ∷ others) row is all apart h k =
    let by = free-one slack columns c basic o others all in
    let same : length row ≡ length o = is.width ∙ sym by.width in
    freed-zero slack columns c basic others (eliminated c o row) (step-kept slack columns c o row is by) (free-rest slack columns c basic o others all)
    (λ i less. apart (suc i) 0 (omega (arith, less)) (omega arith) (λ e. absurd (omega (arith, e))))
    (eliminated-gone c o row same (omega (arith, by.there, is.width)) (step-some slack columns c o row is by))
freed-gone slack columns (suc j) (c ∷ basic) (o ∷ others) row is all apart h k =
    let by = free-one slack columns c basic o others all in
    freed-gone slack columns j basic others (eliminated c o row) (step-kept slack columns c o row is by) (free-rest slack columns c basic o others all)
    (λ i l less lower away. apart (suc i) (suc l) (omega (arith, less)) (omega (arith, lower)) (λ e. away (omega (arith, e))))
    (omega (arith, h)) (omega (arith, k))

all-left : (P : List ℤ → Type 0) (xs ys : List (List ℤ)) → All P (xs ++ ys) → All P xs
all-left P xs ys all = λ i d h. subst P (get_or_append_left xs ys d i h) (all i d (omega (arith, h, length-append xs ys)))

all-right : (P : List ℤ → Type 0) (xs ys : List (List ℤ)) → All P (xs ++ ys) → All P ys
all-right P xs ys all = λ i d h. subst P (get_or-append-add xs ys i d) (all (length xs + i) d (omega (arith, h, length-append xs ys)))

-- what follows of rows and one more
with-last : (rows xs : List (List ℤ)) (x : List ℤ) → All (Follows rows) xs → Follows rows x → All (Follows rows) (xs ++ x ∷ [])
with-last rows xs x all is = All-append (Follows rows) xs (x ∷ []) all (one-follows rows x is)

own-front : (xs : List (List ℤ)) (x : List ℤ) → All (Follows (xs ++ x ∷ [])) xs
own-front xs x = all-left (Follows (xs ++ x ∷ [])) xs (x ∷ []) (all-own (xs ++ x ∷ []))

own-last : (xs : List (List ℤ)) (x : List ℤ) → Follows (xs ++ x ∷ []) x
own-last xs x = all-right (Follows (xs ++ x ∷ [])) xs (x ∷ []) (all-own (xs ++ x ∷ [])) 0 [] (omega arith)

-- the rows and one more stand among them with one row before
own-rest : (o : List ℤ) (xs : List (List ℤ)) (x : List ℤ) → All (Follows (o ∷ xs ++ x ∷ [])) (xs ++ x ∷ [])
own-rest o xs x = all-right (Follows (o ∷ xs ++ x ∷ [])) (o ∷ []) (xs ++ x ∷ []) (all-own (o ∷ xs ++ x ∷ []))

-- the freed row follows from the others and the row
pub freed-follows : (slack columns : ℕ) (basic : List ℕ) (others : List (List ℤ)) (row : List ℤ) → Kept slack columns row → AllFree slack columns basic others → Follows (others ++ row ∷ []) (freed basic others row)
freed-follows slack columns [] others row is all = own-last others row
freed-follows slack columns (c ∷ basic) [] row is all = own-last [] row
freed-follows slack columns (c ∷ basic) (o ∷ others) row is all =
    let by = free-one slack columns c basic o others all in
    let whole = o ∷ others ++ row ∷ [] in
    let made = eliminated c o row in
    let rest = freed-follows slack columns basic others made (step-kept slack columns c o row is by) (free-rest slack columns c basic o others all) in
    let first : Follows whole o = follows-own whole 0 (omega arith) in
    let own : Follows whole row = own-last (o ∷ others) row in
    let step : Follows whole made = follows-trans whole (row ∷ o ∷ []) made (two-follow whole row o own first) (eliminated-follows c o row (is.width ∙ sym by.width) (step-some slack columns c o row is by)) in
    follows-trans whole (others ++ made ∷ []) (freed basic others made) (with-last whole others made (all-left (Follows whole) others (row ∷ []) (own-rest o others row)) step) rest

-- and the row from the others and the freed row
pub freed-follows-back : (slack columns : ℕ) (basic : List ℕ) (others : List (List ℤ)) (row : List ℤ) → Kept slack columns row → AllFree slack columns basic others → Follows (others ++ freed basic others row ∷ []) row
freed-follows-back slack columns [] others row is all = own-last others row
freed-follows-back slack columns (c ∷ basic) [] row is all = own-last [] row
freed-follows-back slack columns (c ∷ basic) (o ∷ others) row is all =
    let by = free-one slack columns c basic o others all in
    let made = eliminated c o row in
    let last = freed basic others made in
    let whole = o ∷ others ++ last ∷ [] in
    let rest = freed-follows-back slack columns basic others made (step-kept slack columns c o row is by) (free-rest slack columns c basic o others all) in
    let step : Follows whole made = follows-trans whole (others ++ last ∷ []) made (own-rest o others last) rest in
    let first : Follows whole o = follows-own whole 0 (omega arith) in
    follows-trans whole (made ∷ o ∷ []) row (two-follow whole made o step first) (eliminated-follows-back c o row (is.width ∙ sym by.width) by.some (step-some slack columns c o row is by))

-- the others span the same space with either
pub freed-same : (slack columns : ℕ) (basic : List ℕ) (others : List (List ℤ)) (row : List ℤ) → Kept slack columns row → AllFree slack columns basic others → SameSpace (others ++ row ∷ []) (others ++ freed basic others row ∷ [])
freed-same slack columns basic others row is all = (
  with-last (others ++ row ∷ []) others (freed basic others row) (own-front others row) (freed-follows slack columns basic others row is all),
  with-last (others ++ freed basic others row ∷ []) others row (own-front others (freed basic others row)) (freed-follows-back slack columns basic others row is all),
)

-- one column more
pub freed-more : (basic : List ℕ) (others : List (List ℤ)) (row : List ℤ) (k : ℕ) → k < length basic → k < length others → freed_of (suc k) basic others row ≡ eliminated (basic_at basic k) (row_at others k) (freed_of k basic others row)
freed-more [] others row k h less = absurd (omega (arith, h))
freed-more (c ∷ basic) [] row k h less = absurd (omega (arith, less))
freed-more (c ∷ basic) (o ∷ others) row zero h less = refl
freed-more (c ∷ basic) (o ∷ others) row (suc k) h less = freed-more basic others (eliminated c o row) k (omega (arith, h)) (omega (arith, less))

-- the first of the rows free others too
pub take-free : (slack columns k : ℕ) (basic : List ℕ) (others : List (List ℤ)) → AllFree slack columns basic others → AllFree slack columns (take k basic) (take k others)
take-free slack columns k basic others all = λ i h.
    let long = length-take k others in
    let inside : i < k = omega (arith, h, long) in
    subst (λ (o : List ℤ). Frees slack columns (basic_at (take k basic) i) o) (sym (get_or-take k others i [] inside))
    (subst (λ c. Frees slack columns c (row_at others i)) (sym (get_or-take k basic i 0 inside)) (all i (omega (arith, h, long))))

can-kept : (basic : List ℕ) (others : List (List ℤ)) (row : List ℤ) (can : CanFree basic others row) → Kept can.slack (length row) row
can-kept basic others row can = record { width = refl; there = can.there; positive = can.positive }

pub freed-cross : (basic : List ℕ) (others : List (List ℤ)) (row : List ℤ) (k : ℕ) → CanFree basic others row → k < length others → are_short (freed_of k basic others row) ≡ true → CanCross (basic_at basic k) (row_at others k) (freed_of k basic others row)
freed-cross basic others row k can h room =
    let made = freed_of k basic others row in
    let is = freed-kept can.slack (length row) (take k basic) (take k others) row (can-kept basic others row can) (take-free can.slack (length row) k basic others can.free) in
    let by = can.free k h in
    record {
      short = room;
      same = is.width ∙ sym by.width;
      there = omega (arith, by.there, is.width);
      some = step-some can.slack (length row) (basic_at basic k) (row_at others k) made is by;
    }

-- the first row with an entry without room, or one more with room
pub wide-next : (basic : List ℕ) (others : List (List ℤ)) (row made : List ℤ) (i k : ℕ) (wide : ℤ) → ((j : ℕ) → j ≤ i → are_short (freed_of j basic others row) ≡ true) → i < length others → k ≡ suc i → made ≡ freed_of (suc i) basic others row
    → Contains made wide → 2 ^ 63 ≤ nat_abs wide → IsFirstWide basic others row k wide
wide-next basic others row made i k wide room h next is inside large = record {
  within = omega (arith, h, next);
  sooner = λ j less. room j (omega (arith, less, next));
  contains = subst (λ n. Contains (freed_of n basic others row) wide) (sym next) (subst (λ (r : List ℤ). Contains r wide) is inside);
  is_wide = large;
}

pub room-next : (basic : List ℕ) (others : List (List ℤ)) (row made : List ℤ) (i k : ℕ) → ((j : ℕ) → j ≤ i → are_short (freed_of j basic others row) ≡ true) → made ≡ freed_of (suc i) basic others row → are_short made ≡ true → k ≤ suc i → are_short (freed_of k basic others row) ≡ true
room-next basic others row made i k room is small h =
    by-same (are_short (freed_of k basic others row) ≡ true) k (suc i)
    (λ e. ap (λ n. are_short (freed_of n basic others row)) e ∙ ap are_short (sym is) ∙ small)
    (λ away. room k (omega (arith, h, away)))
