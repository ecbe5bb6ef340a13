-- Rows that span the same space, and the space that a pivot keeps.
use Rattle.std.proofs.Common.{◌≡◌, ℕ, suc, zero, List, [], ◌∷◌, refl, sym, ◌∙◌, arith, subst, ◌<◌, true, false, Bool, cond, length, get_or, map}
use Rattle.std.specs.Prelude.{ℤ, pos, negsuc, neg_ℤ, ◌*ℤ◌, int_lt, ◌↔◌}
use Rattle.std.specs.List.{All}
use Rattle.std.proofs.lemmas.Int.{ints}
use Rattle.std.proofs.lemmas.List.Elements.{All-from_get_or}
use Rattle.int_rows.specs.Basis.{IsBasicRow, IsBasis, IsWideRow}
use Rattle.int_rows.specs.Pivot.{eliminated}
use Rattle.int_rows.specs.Rows.{Follows, SolvesAll, entry}
use Rattle.int_rows.specs.Space.{SameSpace}
use Rattle.int_rows.specs.Table.{CanPivot, facing, pivoted, row_at}
use Rattle.int_rows.proofs.FollowLemmas.{eliminated-follows, eliminated-follows-back, follows-own, follows-solved, follows-trans}
use Rattle.int_rows.proofs.PivotedLemmas.{by-same, length-pivoted, neg-entry, pivoted-other, pivoted-own}

pub all-own : (rows : List (List ℤ)) → All (Follows rows) rows
all-own rows = All-from_get_or (Follows rows) rows [] (λ i h. follows-own rows i h)

pub same-reflexive : (rows : List (List ℤ)) → SameSpace rows rows
same-reflexive rows = (all-own rows, all-own rows)

pub same-symmetric : (rows others : List (List ℤ)) → SameSpace rows others → SameSpace others rows
same-symmetric rows others same = (same.1, same.0)

all-trans : (rows others more : List (List ℤ)) → All (Follows rows) others → All (Follows others) more → All (Follows rows) more
all-trans rows others more first second = λ i d h. follows-trans rows others (get_or more i d) first (second i d h)

pub same-transitive : (rows others more : List (List ℤ)) → SameSpace rows others → SameSpace others more → SameSpace rows more
same-transitive rows others more first second = (all-trans rows others more first.0 second.0, all-trans more others rows second.1 first.1)

solves-from : (rows others : List (List ℤ)) (point : List ℤ) → All (Follows rows) others → SolvesAll point rows → SolvesAll point others
solves-from rows others point all solves = λ i d h. follows-solved rows (get_or others i d) point (all i d h) solves

-- the same solutions, basic rows and bases
pub same-solutions : (rows others : List (List ℤ)) (point : List ℤ) → SameSpace rows others → SolvesAll point rows ↔ SolvesAll point others
same-solutions rows others point same = (solves-from rows others point same.0, solves-from others rows point same.1)

pub same-follows : (rows others : List (List ℤ)) (row : List ℤ) → SameSpace rows others → Follows rows row → Follows others row
same-follows rows others row same is = follows-trans others rows row same.1 is

pub same-basic : (columns : ℕ) (rows others : List (List ℤ)) (basis : List ℕ) (column : ℕ) (row : List ℤ) → SameSpace rows others → IsBasicRow columns rows basis column row → IsBasicRow columns others basis column row
same-basic columns rows others basis column row same is = record { width = is.width; follows = same-follows rows others row same is.follows; primitive = is.primitive; positive = is.positive; zero = is.zero }

pub same-basis : (columns : ℕ) (rows others : List (List ℤ)) (basis : List ℕ) → length rows ≡ length others → SameSpace rows others → IsBasis columns rows basis → IsBasis columns others basis
same-basis columns rows others basis count same is = record {
  rising = is.rising;
  within = is.within;
  full = is.full ∙ count;
  rows = λ column inside. let found = is.rows column inside in (found.0, same-basic columns rows others basis column found.0 same found.1);
}

pub same-wide : (columns : ℕ) (rows others : List (List ℤ)) (basis : List ℕ) (wide : ℤ) → length rows ≡ length others → SameSpace rows others → IsWideRow columns rows basis wide → IsWideRow columns others basis wide
same-wide columns rows others basis wide count same is = record {
  is_basis = same-basis columns rows others basis count same is.is_basis;
  column = is.column;
  basic = is.basic;
  row = is.row;
  is_row = same-basic columns rows others basis is.column is.row same is.is_row;
  place = is.place;
  is_entry = is.is_entry;
  is_wide = is.is_wide;
}

minus-one : (a : ℤ) → negsuc 0 *ℤ a ≡ neg_ℤ a
minus-one a = grind (arith, ints)

-- a row with the other sign follows, and the row from it
neg-follows : (row : List ℤ) → Follows (row ∷ []) (map neg_ℤ row)
neg-follows row = record {
  multiple = 1;
  multipliers = negsuc 0 ∷ [];
  positive = omega arith;
  each = refl;
  combination = λ v. let at = neg-entry row v in let minus = minus-one (entry row v) in omega (arith, ints, at, minus);
}

neg-follows-back : (row : List ℤ) → Follows (map neg_ℤ row ∷ []) row
neg-follows-back row = record {
  multiple = 1;
  multipliers = negsuc 0 ∷ [];
  positive = omega arith;
  each = refl;
  combination = λ v. let at = neg-entry row v in let minus = minus-one (entry (map neg_ℤ row) v) in omega (arith, ints, at, minus);
}

turned-follows : (b : Bool) (row : List ℤ) → Follows (row ∷ []) (cond b (map neg_ℤ row) row)
turned-follows true row = neg-follows row
turned-follows false row = follows-own (row ∷ []) 0 (omega arith)

turned-follows-back : (b : Bool) (row : List ℤ) → Follows (cond b (map neg_ℤ row) row ∷ []) row
turned-follows-back true row = neg-follows-back row
turned-follows-back false row = follows-own (row ∷ []) 0 (omega arith)

pub one-follows : (rows : List (List ℤ)) (one : List ℤ) → Follows rows one → All (Follows rows) (one ∷ [])
one-follows rows one h zero d less = h
one-follows rows one h (suc i) d less = absurd (omega (arith, less))

pub two-follow : (rows : List (List ℤ)) (one two : List ℤ) → Follows rows one → Follows rows two → All (Follows rows) (one ∷ two ∷ [])
two-follow rows one two h k zero d less = h
two-follow rows one two h k (suc zero) d less = k
two-follow rows one two h k (suc (suc i)) d less = absurd (omega (arith, less))

-- a pivot keeps the space of the rows
pub pivoted-follows : (i column : ℕ) (rows : List (List ℤ)) → CanPivot i column rows → All (Follows rows) (pivoted i column rows)
pivoted-follows i column rows can = All-from_get_or (Follows rows) (pivoted i column rows) [] (λ j less.
    let h : j < length rows = omega (arith, less, length-pivoted i column rows) in
    let other = row_at rows i in
    by-same (Follows rows (row_at (pivoted i column rows) j)) j i
    (λ e. subst (λ l. Follows rows (row_at (pivoted i column rows) l)) (sym e) (subst (Follows rows) (sym (pivoted-own i column rows can.within))
    (follows-trans rows (other ∷ []) (facing column other) (one-follows rows other (follows-own rows i can.within)) (turned-follows (int_lt (entry other column) (pos 0)) other))))
    (λ away.
    let cross = can.others j h away in
    subst (Follows rows) (sym (pivoted-other i j column rows h away))
    (follows-trans rows (row_at rows j ∷ other ∷ []) (eliminated column other (row_at rows j)) (two-follow rows (row_at rows j) other (follows-own rows j h) (follows-own rows i can.within)) (eliminated-follows column other (row_at rows j) cross.same cross.some))))

own-follows : (i column : ℕ) (rows : List (List ℤ)) → i < length rows → Follows (pivoted i column rows) (row_at rows i)
own-follows i column rows h =
    let news = pivoted i column rows in
    let other = row_at rows i in
    follows-trans news (facing column other ∷ []) other
    (one-follows news (facing column other) (subst (Follows news) (pivoted-own i column rows h) (follows-own news i (omega (arith, h, length-pivoted i column rows)))))
    (turned-follows-back (int_lt (entry other column) (pos 0)) other)

pub pivoted-follows-back : (i column : ℕ) (rows : List (List ℤ)) → CanPivot i column rows → (entry (row_at rows i) column ≡ pos 0 → ⊥) → All (Follows (pivoted i column rows)) rows
pivoted-follows-back i column rows can factor = All-from_get_or (Follows (pivoted i column rows)) rows [] (λ j h.
    let news = pivoted i column rows in
    let other = row_at rows i in
    let own = own-follows i column rows can.within in
    by-same (Follows news (row_at rows j)) j i
    (λ e. subst (λ l. Follows news (row_at rows l)) (sym e) own)
    (λ away.
    let cross = can.others j h away in
    let row = row_at rows j in
    let made : Follows news (eliminated column other row) = subst (Follows news) (pivoted-other i j column rows h away) (follows-own news j (omega (arith, h, length-pivoted i column rows))) in
    follows-trans news (eliminated column other row ∷ other ∷ []) row (two-follow news (eliminated column other row) other made own) (eliminated-follows-back column other row cross.same factor cross.some)))

pub pivoted-same : (i column : ℕ) (rows : List (List ℤ)) → CanPivot i column rows → (entry (row_at rows i) column ≡ pos 0 → ⊥) → SameSpace rows (pivoted i column rows)
pivoted-same i column rows can factor = (pivoted-follows i column rows can, pivoted-follows-back i column rows can factor)
