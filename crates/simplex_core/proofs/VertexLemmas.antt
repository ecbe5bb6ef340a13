-- Where no basic column breaks a bound, the moment's point meets all bounds.
use Rattle.std.proofs.Common.{◌≡◌, ℕ, List, refl, ap, sym, ◌∙◌, subst, arith, ◌<◌, true, false, Bool, cond, length, get_or, ⊎_elim}
use Rattle.std.specs.Prelude.{ℤ, pos, ◌*ℤ◌, ◌<ℤ◌, ◌≤ℤ◌, int_lt, nat_abs, Option, Some, None, is_some, ◌&&◌}
use Rattle.std.proofs.Math.IntN.{*ℤ_comm}
use Rattle.std.proofs.lemmas.Bool.{cases_lt}
use Rattle.std.proofs.lemmas.Int.{ints}
use Rattle.std.proofs.lemmas.List.{get_or_past}
use Rattle.base.proofs.Public.{*ℤ_assoc}
use Rattle.lin_atoms.specs.Ratio.{Fraction}
use Rattle.lin_atoms.proofs.Public.{positive}
use Rattle.int_rows.specs.Basis.{MeetsBounds, bound}
use Rattle.int_rows.specs.Rows.{entry}
use Rattle.int_rows.specs.Table.{IsTable, Table, width}
use Rattle.simplex_core.specs.Answer.{AreCoordinates, basis, outer}
use Rattle.simplex_core.specs.Standings.{AreStandings, may_stand}
use Rattle.simplex_core.specs.Meaning.{IsVertex, system_of}
use Rattle.simplex_core.specs.Run.{are_crossed, are_crossed_at, broken_at, columns, coordinate_at, crossed, is_above, is_basic, is_below, leaving, may_leave, moment, standing_at, stood, stood_at}
use Rattle.simplex_core.specs.declared.standing.Standing.{Standing}
use Rattle.simplex_core.specs.declared.standing.Standing.TheVariants.{Basic, AtLower, AtUpper, AtZero}
use Rattle.simplex_core.specs.declared.turn.Side.TheVariants.{Lower, Upper}
use Rattle.simplex_core.proofs.BasicPointLemmas.{basic-point}
use Rattle.simplex_core.proofs.FractionLemmas.{cancel, keeps, order}
use Rattle.simplex_core.proofs.PointLemmas.{den-positive, point-at, point-outer, point_of}
use Rattle.simplex_core.proofs.RangeLemmas.{find-nowhere}

pub not-less : (a b : ℤ) → int_lt a b ≡ false → b ≤ℤ a
not-less a b h = grind (arith, ints)

-- only columns have bounds
pub bound-within : (bs : List (Option ℤ)) (c : ℕ) (k : ℤ) → bound bs c ≡ Some k → c < length bs
bound-within bs c k e = ⊎_elim (λ h. h) (λ h. let none : None ≡ Some k = sym (get_or_past bs c None h) ∙ e in absurd (cc)) (cases_lt c (length bs))

-- what stands outside the basis is within bounds that aren't crossed
pub stands-above : (l u : Option ℤ) (s : Standing) (k : ℤ) → l ≡ Some k → may_stand l u s ≡ true → is_basic s ≡ false → are_crossed l u ≡ false → k ≤ℤ stood l u s
stands-above l u Basic k e may out fine = absurd (cc)
stands-above None u s k e may out fine = absurd (cc)
stands-above (Some l) None AtLower k e may out fine = let same : l ≡ k = cc in omega (arith, ints)
stands-above (Some l) None AtUpper k e may out fine = absurd (cc)
stands-above (Some l) (Some u) AtLower k e may out fine = let same : l ≡ k = cc in omega (arith, ints)
stands-above (Some l) (Some u) AtUpper k e may out fine =
    let same : l ≡ k = cc in
    let less = not-less u l fine in
    omega (arith, ints)
stands-above (Some l) u AtZero k e may out fine = absurd (cc)

pub stands-below : (l u : Option ℤ) (s : Standing) (k : ℤ) → u ≡ Some k → may_stand l u s ≡ true → is_basic s ≡ false → are_crossed l u ≡ false → stood l u s ≤ℤ k
stands-below l u Basic k e may out fine = absurd (cc)
stands-below l None s k e may out fine = absurd (cc)
stands-below None (Some u) AtLower k e may out fine = absurd (cc)
stands-below (Some l) (Some u) AtLower k e may out fine =
    let same : u ≡ k = cc in
    let less = not-less u l fine in
    omega (arith, ints)
stands-below l (Some u) AtUpper k e may out fine = let same : u ≡ k = cc in omega (arith, ints)
stands-below None (Some u) AtZero k e may out fine = absurd (cc)
stands-below (Some l) (Some u) AtZero k e may out fine = absurd (cc)

-- a value that breaks no bound
broken-none : (b d : Bool) → cond b (Some Lower) (cond d (Some Upper) None) ≡ None → (b ≡ false) × (d ≡ false)
broken-none true d e = absurd (cc)
broken-none false true e = absurd (cc)
broken-none false false e = (refl, refl)

is-none : {X : Type 0} (o : Option X) → is_some o ≡ false → o ≡ None
is-none None h = refl
is-none (Some x) h = absurd (cc)

and-false : (a b : Bool) → a ≡ true → (a && b) ≡ false → b ≡ false
and-false true b h e = e
and-false false b h e = absurd (cc)

pub stays : (t : Table) (standings : List Standing) (c : ℕ) → leaving (moment t standings) ≡ None → c < width t → is_basic (standing_at standings c) ≡ true → broken_at (moment t standings) c ≡ None
unfolding leaving
stays t standings c none h basic =
    let m = moment t standings in
    is-none (broken_at m c) (and-false (is_basic (standing_at standings c)) (is_some (broken_at m c)) basic (find-nowhere (may_leave m) 0 (width t) none c (omega arith) (omega arith)))

pub fine : (t : Table) (c : ℕ) → crossed t ≡ None → c < width t → are_crossed_at t c ≡ false
unfolding crossed
fine t c none h = find-nowhere (are_crossed_at t) 0 (width t) none c (omega arith) (omega arith)

pub within-lower : (t : Table) (standings : List Standing) (c : ℕ) (l : ℤ) → broken_at (moment t standings) c ≡ None → bound t.lower c ≡ Some l → ((coordinate_at (moment t standings) c).den *ℤ l) ≤ℤ (coordinate_at (moment t standings) c).num
unfolding broken_at
within-lower t standings c l none e =
    let q = coordinate_at (moment t standings) c in
    let both = broken-none (is_below (bound t.lower c) q) (is_above (bound t.upper c) q) none in
    let low : int_lt q.num (q.den *ℤ l) ≡ false = sym (ap (λ o. is_below o q) e) ∙ both.0 in
    not-less q.num (q.den *ℤ l) low

pub within-upper : (t : Table) (standings : List Standing) (c : ℕ) (u : ℤ) → broken_at (moment t standings) c ≡ None → bound t.upper c ≡ Some u → (coordinate_at (moment t standings) c).num ≤ℤ ((coordinate_at (moment t standings) c).den *ℤ u)
unfolding broken_at
within-upper t standings c u none e =
    let q = coordinate_at (moment t standings) c in
    let both = broken-none (is_below (bound t.lower c) q) (is_above (bound t.upper c) q) none in
    let high : int_lt (q.den *ℤ u) q.num ≡ false = sym (ap (λ o. is_above o q) e) ∙ both.1 in
    not-less (q.den *ℤ u) q.num high

-- from l * den at most num, and n * den = num * d: l * d is at most n
pub scaled-below : (q : Fraction) (l n : ℤ) (d : ℕ) → pos 0 <ℤ q.den → (q.den *ℤ l) ≤ℤ q.num → n *ℤ q.den ≡ q.num *ℤ pos d → (l *ℤ pos d) ≤ℤ n
scaled-below q l n d some le same =
    let e = nat_abs q.den in
    let den : q.den ≡ pos e = positive q.den some in
    let some' : 0 < e = omega (arith, ints) in
    let same' : n *ℤ pos e ≡ q.num *ℤ pos d = ap (λ z. n *ℤ z) (sym den) ∙ same in
    let turned : q.den *ℤ l ≡ l *ℤ pos e = ap (λ z. z *ℤ l) den ∙ *ℤ_comm (pos e) l in
    let le' : (l *ℤ pos e) ≤ℤ q.num = omega (arith, ints) in
    let grown = keeps (l *ℤ pos e) q.num d le' in
    let swapped : (l *ℤ pos d) *ℤ pos e ≡ (l *ℤ pos e) *ℤ pos d = *ℤ_assoc l (pos d) (pos e) ∙ ap (λ z. l *ℤ z) (*ℤ_comm (pos d) (pos e)) ∙ sym (*ℤ_assoc l (pos e) (pos d)) in
    let all : ((l *ℤ pos d) *ℤ pos e) ≤ℤ (n *ℤ pos e) = omega (arith, ints) in
    order (l *ℤ pos d) n e some' all

pub scaled-above : (q : Fraction) (u n : ℤ) (d : ℕ) → pos 0 <ℤ q.den → q.num ≤ℤ (q.den *ℤ u) → n *ℤ q.den ≡ q.num *ℤ pos d → n ≤ℤ (u *ℤ pos d)
scaled-above q u n d some le same =
    let e = nat_abs q.den in
    let den : q.den ≡ pos e = positive q.den some in
    let some' : 0 < e = omega (arith, ints) in
    let same' : n *ℤ pos e ≡ q.num *ℤ pos d = ap (λ z. n *ℤ z) (sym den) ∙ same in
    let turned : q.den *ℤ u ≡ u *ℤ pos e = ap (λ z. z *ℤ u) den ∙ *ℤ_comm (pos e) u in
    let le' : q.num ≤ℤ (u *ℤ pos e) = omega (arith, ints) in
    let grown = keeps q.num (u *ℤ pos e) d le' in
    let swapped : (u *ℤ pos d) *ℤ pos e ≡ (u *ℤ pos e) *ℤ pos d = *ℤ_assoc u (pos d) (pos e) ∙ ap (λ z. u *ℤ z) (*ℤ_comm (pos d) (pos e)) ∙ sym (*ℤ_assoc u (pos e) (pos d)) in
    let all : (n *ℤ pos e) ≤ℤ ((u *ℤ pos d) *ℤ pos e) = omega (arith, ints) in
    order n (u *ℤ pos d) e some' all

pub vertex-meets : (t : Table) (standings : List Standing) → IsTable t → AreStandings t standings → crossed t ≡ None → leaving (moment t standings) ≡ None → MeetsBounds (system_of t) (point_of (moment t standings))
vertex-meets t standings is are uncrossed settled = record {
  lower = λ c l e. let h : c < width t = omega (arith, bound-within t.lower c l e, is.lowers) in lower-at c l e h (is_basic (standing_at standings c)) refl;
  upper = λ c u e. let h : c < width t = omega (arith, bound-within t.upper c u e, is.uppers) in upper-at c u e h (is_basic (standing_at standings c)) refl;
} where
  lower-at : (c : ℕ) (l : ℤ) → bound t.lower c ≡ Some l → c < width t → (b : Bool) → is_basic (standing_at standings c) ≡ b → (l *ℤ pos (point_of (moment t standings)).den) ≤ℤ entry (point_of (moment t standings)).nums c
  lower-at c l e h true basic =
      let m = moment t standings in
      scaled-below (coordinate_at m c) l (entry (point_of m).nums c) (point_of m).den (den-positive t standings c is are h) (within-lower t standings c l (stays t standings c settled h basic) e) (point-at t standings c is are h)
  lower-at c l e h false out =
      let m = moment t standings in
      let le : l ≤ℤ stood_at m c = stands-above (bound t.lower c) (bound t.upper c) (standing_at standings c) l e (are.stand c h) out (fine t c uncrossed h) in
      let P : ℤ → Type 0 = λ z. (l *ℤ pos (point_of m).den) ≤ℤ z in
      subst P (sym (point-outer t standings c is are h out)) (keeps l (stood_at m c) (point_of m).den le)

  upper-at : (c : ℕ) (u : ℤ) → bound t.upper c ≡ Some u → c < width t → (b : Bool) → is_basic (standing_at standings c) ≡ b → entry (point_of (moment t standings)).nums c ≤ℤ (u *ℤ pos (point_of (moment t standings)).den)
  upper-at c u e h true basic =
      let m = moment t standings in
      scaled-above (coordinate_at m c) u (entry (point_of m).nums c) (point_of m).den (den-positive t standings c is are h) (within-upper t standings c u (stays t standings c settled h basic) e) (point-at t standings c is are h)
  upper-at c u e h false out =
      let m = moment t standings in
      let le : stood_at m c ≤ℤ u = stands-below (bound t.lower c) (bound t.upper c) (standing_at standings c) u e (are.stand c h) out (fine t c uncrossed h) in
      let P : ℤ → Type 0 = λ z. z ≤ℤ (u *ℤ pos (point_of m).den) in
      subst P (sym (point-outer t standings c is are h out)) (keeps (stood_at m c) u (point_of m).den le)

-- from q = c and n = c * d: q * d = n, each as a quotient
same-three : (q c : Fraction) (n : ℤ) (d : ℕ) → pos 0 <ℤ c.den → q.num *ℤ c.den ≡ c.num *ℤ q.den → n *ℤ c.den ≡ c.num *ℤ pos d → q.num *ℤ pos d ≡ n *ℤ q.den
same-three q c n d some first second =
    let e = nat_abs c.den in
    let den : c.den ≡ pos e = positive c.den some in
    let some' : 0 < e = omega (arith, ints) in
    let swap : (x y z : ℤ) → (x *ℤ y) *ℤ z ≡ (x *ℤ z) *ℤ y = λ x y z. *ℤ_assoc x y z ∙ ap (λ w. x *ℤ w) (*ℤ_comm y z) ∙ sym (*ℤ_assoc x z y) in
    let all : (q.num *ℤ pos d) *ℤ c.den ≡ (n *ℤ q.den) *ℤ c.den =
    swap q.num (pos d) c.den ∙ ap (λ w. w *ℤ pos d) first ∙ swap c.num q.den (pos d) ∙ ap (λ w. w *ℤ q.den) (sym second) ∙ swap n c.den q.den in
    let all' : (q.num *ℤ pos d) *ℤ pos e ≡ (n *ℤ q.den) *ℤ pos e = subst (λ (z : ℤ). (q.num *ℤ pos d) *ℤ z ≡ (n *ℤ q.den) *ℤ z) den all in
    cancel (q.num *ℤ pos d) (n *ℤ q.den) e some' all'

pub vertex-means : (t : Table) (standings : List Standing) (qs : List Fraction) → IsTable t → AreStandings t standings → crossed t ≡ None → leaving (moment t standings) ≡ None → AreCoordinates (moment t standings) qs → IsVertex (system_of t) qs
vertex-means t standings qs is are uncrossed settled those =
    let m = moment t standings in
    record {
      basis = basis (columns t) standings;
      outside = outer m;
      point = point_of m;
      is_basic = basic-point t standings is are;
      meets = vertex-meets t standings is are uncrossed settled;
      each = those.each;
      positive = those.positive;
      same = λ c d h. same-three (get_or qs c d) (coordinate_at m c) (entry (point_of m).nums c) (point_of m).den (den-positive t standings c is are h) (those.same c d h) (point-at t standings c is are h);
    }
