-- Trees of obligations: each live one but the root has its place among those before it, and what adds, closes and marks
-- obligations keeps that.
use Rattle.std.proofs.Common.{◌≡◌, ℕ, ◌+◌, ◌<◌, zero, suc, List, [], ◌∷◌, ◌++◌, map, length, Bool, true, false, ◌&&◌, not, cond, Some, refl, ap, sym, ◌∙◌, subst, arith, append_assoc, append-nil}
use Rattle.std.specs.Prelude.{Option, slice_get, slice_set}
use Rattle.std.specs.List.{list_any}
use mathlib.Core.Bool.{true≢false}
use Rattle.book_rules.specs.Walks.{has}
use Rattle.book_rules.specs.Frames.{Framed, in_frame}
use Rattle.book_rules.specs.State.{Fact, Obligation, holds, is_live}
use Rattle.book_rules.specs.Effects.{closed_at, is_closing, close_from, raised_tree}
use Rattle.book_rules.specs.Kept.{IsPlaced, IsHung, AreHung}
use Rattle.book_rules.proofs.ListLemmas.{both_false, not_false}

pub get-append : {X : Type 0} (xs ys : List X) (i : ℕ) (x : X) → slice_get xs i ≡ Some x → slice_get (xs ++ ys) i ≡ Some x
get-append [] ys i x is = absurd (cc)
get-append (y ∷ xs) ys zero x is = is
get-append (y ∷ xs) ys (suc i) x is = get-append xs ys i x is

pub length-push : {X : Type 0} (xs : List X) (x : X) → 0 < length (xs ++ x ∷ [])
length-push [] x = omega arith
length-push (y ∷ xs) x = omega arith

-- what is placed among some is so among more

placed-more : (es : List Framed) (facts : List Fact) (before after : List Obligation) (o : Obligation) → IsPlaced es facts before o → IsPlaced es facts (before ++ after) o
placed-more es facts before after o p = record {
  parent = p.parent;
  there = get-append before after o.parent p.parent p.there;
  parent_lives = p.parent_lives;
  one_higher = p.one_higher;
  pred = p.pred;
  of_pred = p.of_pred;
  in_cube = p.in_cube;
  in_its_frame = p.in_its_frame;
  without_fact = p.without_fact;
}

-- the place of a live one by its number
pub placed_at : (es : List Framed) (facts : List Fact) (before os : List Obligation) → AreHung es facts before os → (i : ℕ) (o : Obligation) → slice_get os i ≡ Some o → 0 < length before + i → is_live o ≡ true
    → IsPlaced es facts (before ++ os) o
placed_at es facts before [] hung i o is some live = absurd (cc)
placed_at es facts before (x ∷ os) hung zero o is some live =
    let same : x ≡ o = cc in
    let first : 0 < length before = omega arith in
    placed-more es facts before (x ∷ os) o (subst (λ (y : Obligation). IsHung es facts before y) same hung.0 first live)
placed_at es facts before (x ∷ os) hung (suc i) o is some live =
    let one = length-push before x in
    let first : 0 < length (before ++ x ∷ []) + i = omega (arith, one) in
    subst (λ (all : List Obligation). IsPlaced es facts all o) (append_assoc before (x ∷ []) os) (placed_at es facts (before ++ x ∷ []) os hung.1 i o is first live)

-- one more at the end
pub hung-push : (es : List Framed) (facts : List Fact) (before os : List Obligation) (o : Obligation) → AreHung es facts before os → IsHung es facts (before ++ os) o → AreHung es facts before (os ++ o ∷ [])
hung-push es facts before [] o hung here = (subst (λ (all : List Obligation). IsHung es facts all o) (append-nil before) here, tt)
hung-push es facts before (x ∷ os) o hung here =
    (hung.0, hung-push es facts (before ++ x ∷ []) os o hung.1 (subst (λ (all : List Obligation). IsHung es facts all o) (sym (append_assoc before (x ∷ []) os)) here))

-- closing: those before keep their levels

abbrev Alike : List Obligation → List Obligation → Type 0
Alike [] [] = Unit {0}
Alike [] (y ∷ ys) = ⊥
Alike (x ∷ xs) [] = ⊥
Alike (x ∷ xs) (y ∷ ys) = (y.level ≡ x.level) × Alike xs ys

alike-length : (xs ys : List Obligation) → Alike xs ys → 0 < length ys → 0 < length xs
alike-length [] [] same some = some
alike-length [] (y ∷ ys) same some = absurd same
alike-length (x ∷ xs) ys same some = omega arith

alike-push : (xs ys : List Obligation) (x y : Obligation) → Alike xs ys → y.level ≡ x.level → Alike (xs ++ x ∷ []) (ys ++ y ∷ [])
alike-push [] [] x y same is = (is, tt)
alike-push [] (z ∷ ys) x y same is = absurd same
alike-push (z ∷ xs) [] x y same is = absurd same
alike-push (z ∷ xs) (w ∷ ys) x y same is = (same.0, alike-push xs ys x y same.1 is)

alike_at : (xs ys : List Obligation) → Alike xs ys → (i : ℕ) (x : Obligation) → slice_get xs i ≡ Some x → (y : Obligation) × (slice_get ys i ≡ Some y) × (y.level ≡ x.level)
alike_at [] ys same i x is = absurd (cc)
alike_at (z ∷ xs) [] same i x is = absurd same
alike_at (z ∷ xs) (w ∷ ys) same zero x is = let head : z ≡ x = cc in (w, refl, same.0 ∙ ap (λ (o : Obligation). o.level) head)
alike_at (z ∷ xs) (w ∷ ys) same (suc i) x is = alike_at xs ys same.1 i x is

-- what a change of lemmas and facts does to an obligation that the cause leaves
abbrev pub Stays : List Framed → List Fact → List Framed → List Fact → (Obligation → Bool) → Type 0
Stays es facts new more cause = (o : Obligation) → cause o ≡ false → (pred : ℕ) → o.pred ≡ Some pred
    → record { frame : in_frame es o.level (pred, o.point) ≡ true → in_frame new o.level (pred, o.point) ≡ true; fact : list_any (λ (f : Fact). holds o f.conclusion) facts ≡ false → list_any (λ (f : Fact). holds o f.conclusion) more ≡ false }

live_closed : (entry : ℕ) (o : Obligation) → is_live (closed_at entry o) ≡ false
live_closed entry o = refl

left_open : (cause : Obligation → Bool) (done : List Obligation) (o : Obligation) → is_closing cause done o ≡ false → is_live o ≡ true → (cause o ≡ false) × (has (slice_get done o.parent) (λ parent. not (is_live parent)) ≡ false)
left_open cause done o h live = both_false (cause o) _ (split (is_live o) _ live h) where
  split : (a b : Bool) → a ≡ true → (a && b) ≡ false → b ≡ false
  split true b is t = t
  split false b is t = absurd (true≢false (sym is))

hung-left : (es new : List Framed) (facts more : List Fact) (cause : Obligation → Bool) (entry : ℕ) → Stays es facts new more cause → (before done : List Obligation) → Alike before done → (o : Obligation)
    → IsHung es facts before o → (b : Bool) → is_closing cause done o ≡ b → IsHung new more done (cond {A = Obligation} b (closed_at entry o) o)
hung-left es new facts more cause entry stays before done same o hung true is some live = absurd (true≢false (sym live))
hung-left es new facts more cause entry stays before done same o hung false is some live =
    let p = hung (alike-length before done same some) live in
    let left = left_open cause done o is live in
    let q = alike_at before done same o.parent p.parent p.there in
    let rest = stays o left.0 p.pred p.of_pred in
    let parent_lives : is_live q.0 ≡ true = not_false (is_live q.0) (ap (λ (found : Option Obligation). has found (λ parent. not (is_live parent))) (sym q.1) ∙ left.1) in
    record {
      parent = q.0;
      there = q.1;
      parent_lives = parent_lives;
      one_higher = q.2 ∙ p.one_higher;
      pred = p.pred;
      of_pred = p.of_pred;
      in_cube = p.in_cube;
      in_its_frame = rest.frame p.in_its_frame;
      without_fact = rest.fact p.without_fact;
    }

same_level : (entry : ℕ) (o : Obligation) (b : Bool) → (cond {A = Obligation} b (closed_at entry o) o).level ≡ o.level
same_level entry o true = refl
same_level entry o false = refl

pub hung-close : (es new : List Framed) (facts more : List Fact) (cause : Obligation → Bool) (entry : ℕ) → Stays es facts new more cause → (before done : List Obligation) → Alike before done → (os : List Obligation)
    → AreHung es facts before os → AreHung new more done (close_from cause entry done os)
hung-close es new facts more cause entry stays before done same [] hung = tt
hung-close es new facts more cause entry stays before done same (o ∷ os) hung =
    let here = cond {A = Obligation} (is_closing cause done o) (closed_at entry o) o in (
      hung-left es new facts more cause entry stays before done same o hung.0 (is_closing cause done o) refl,
      hung-close es new facts more cause entry stays (before ++ o ∷ []) (done ++ here ∷ []) (alike-push before done o here same (same_level entry o (is_closing cause done o))) os hung.1,
    )

pub hung-closed : (es new : List Framed) (facts more : List Fact) (cause : Obligation → Bool) (entry : ℕ) → Stays es facts new more cause → (os : List Obligation)
    → AreHung es facts [] os → AreHung new more [] (close_from cause entry [] os)
hung-closed es new facts more cause entry stays os hung = hung-close es new facts more cause entry stays [] [] tt os hung

-- raising: all but the root are closed

never_live : (entry : ℕ) (o : Obligation) (b : Bool) → is_live o ≡ b → is_live (cond {A = Obligation} b (closed_at entry o) o) ≡ false
never_live entry o true is = refl
never_live entry o false is = is

hung-none : (es : List Framed) (facts : List Fact) (entry : ℕ) (before os : List Obligation) → AreHung es facts before (map (λ o. cond {A = Obligation} (is_live o) (closed_at entry o) o) os)
hung-none es facts entry before [] = tt
hung-none es facts entry before (o ∷ os) =
    let here = cond {A = Obligation} (is_live o) (closed_at entry o) o in
    (λ some live. absurd (true≢false (sym live ∙ never_live entry o (is_live o) refl)), hung-none es facts entry (before ++ here ∷ []) os)

pub hung-raised : (es : List Framed) (facts : List Fact) (entry level : ℕ) (os : List Obligation) → AreHung es facts [] (raised_tree entry level os)
hung-raised es facts entry level [] = tt
hung-raised es facts entry level (root ∷ rest) = (λ some live. absurd (omega arith), hung-none es facts entry _ rest)

-- marking: all but the marks is the same

abbrev IsMarked : Obligation → Obligation → Type 0
IsMarked o marked = (mark : Bool) × (record o { stalled = mark } ≡ marked)

abbrev AreMarked : List Obligation → List Obligation → Type 0
AreMarked [] [] = Unit {0}
AreMarked [] (y ∷ ys) = ⊥
AreMarked (x ∷ xs) [] = ⊥
AreMarked (x ∷ xs) (y ∷ ys) = IsMarked x y × AreMarked xs ys

marked-same : (xs : List Obligation) → AreMarked xs xs
marked-same [] = tt
marked-same (x ∷ xs) = ((x.stalled, refl), marked-same xs)

marked-set : (xs : List Obligation) (i : ℕ) (x : Obligation) → slice_get xs i ≡ Some x → AreMarked xs (slice_set xs i (record x { stalled = true }))
marked-set [] i x is = absurd (cc)
marked-set (y ∷ xs) zero x is = let same : y ≡ x = cc in ((true, ap (λ (o : Obligation). record o { stalled = true }) same), marked-same xs)
marked-set (y ∷ xs) (suc i) x is = ((y.stalled, refl), marked-set xs i x is)

marked-push : (xs ys : List Obligation) (x y : Obligation) → AreMarked xs ys → IsMarked x y → AreMarked (xs ++ x ∷ []) (ys ++ y ∷ [])
marked-push [] [] x y same is = (is, tt)
marked-push [] (z ∷ ys) x y same is = absurd same
marked-push (z ∷ xs) [] x y same is = absurd same
marked-push (z ∷ xs) (w ∷ ys) x y same is = (same.0, marked-push xs ys x y same.1 is)

marked_at : (xs ys : List Obligation) → AreMarked xs ys → (i : ℕ) (x : Obligation) → slice_get xs i ≡ Some x → (y : Obligation) × (slice_get ys i ≡ Some y) × IsMarked x y
marked_at [] ys same i x is = absurd (cc)
marked_at (z ∷ xs) [] same i x is = absurd same
marked_at (z ∷ xs) (w ∷ ys) same zero x is = let head : z ≡ x = cc in (w, refl, subst (λ (o : Obligation). IsMarked o w) head same.0)
marked_at (z ∷ xs) (w ∷ ys) same (suc i) x is = marked_at xs ys same.1 i x is

marked-length : (xs ys : List Obligation) → AreMarked xs ys → 0 < length ys → 0 < length xs
marked-length [] [] same some = some
marked-length [] (y ∷ ys) same some = absurd same
marked-length (x ∷ xs) ys same some = omega arith

placed-marked : (es : List Framed) (facts : List Fact) (before done : List Obligation) → AreMarked before done → (o : Obligation) (mark : Bool) → IsPlaced es facts before o → IsPlaced es facts done (record o { stalled = mark })
placed-marked es facts before done same o mark p =
    let q = marked_at before done same o.parent p.parent p.there in
    let as_before = (q.2).1 in
    record {
      parent = q.0;
      there = q.1;
      parent_lives = ap is_live (sym as_before) ∙ p.parent_lives;
      one_higher = ap (λ (x : Obligation). x.level) (sym as_before) ∙ p.one_higher;
      pred = p.pred;
      of_pred = p.of_pred;
      in_cube = p.in_cube;
      in_its_frame = p.in_its_frame;
      without_fact = p.without_fact;
    }

hung-marks : (es : List Framed) (facts : List Fact) (before done : List Obligation) → AreMarked before done → (os marked : List Obligation) → AreMarked os marked → AreHung es facts before os → AreHung es facts done marked
hung-marks es facts before done same [] [] are hung = tt
hung-marks es facts before done same [] (y ∷ ys) are hung = absurd are
hung-marks es facts before done same (o ∷ os) [] are hung = absurd are
hung-marks es facts before done same (o ∷ os) (y ∷ ys) are hung = (
  subst (λ (x : Obligation). IsHung es facts done x) (are.0).1 (λ some live. placed-marked es facts before done same o (are.0).0 (hung.0 (marked-length before done same some) live)),
  hung-marks es facts (before ++ o ∷ []) (done ++ y ∷ []) (marked-push before done o y same are.0) os ys are.1 hung.1,
)

pub hung-set : (es : List Framed) (facts : List Fact) (os : List Obligation) (i : ℕ) (o : Obligation) → slice_get os i ≡ Some o → AreHung es facts [] os → AreHung es facts [] (slice_set os i (record o { stalled = true }))
hung-set es facts os i o is hung = hung-marks es facts [] [] tt os (slice_set os i (record o { stalled = true })) (marked-set os i o is) hung
