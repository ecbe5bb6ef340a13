-- Closing closes what the cause tells of with all that hangs under it, and nothing else.
use Rattle.std.proofs.Common.{◌≡◌, ◌↔◌, ℕ, ◌+◌, ◌<◌, zero, suc, List, [], ◌∷◌, ◌++◌, length, Bool, true, false, ◌&&◌, ◌||◌, not, cond, Some, refl, ap, sym, ◌∙◌, subst, arith, append_assoc}
use Rattle.std.specs.Prelude.{Option, slice_get}
use Rattle.std.proofs.lemmas.List.{length-append}
use mathlib.Core.Bool.{true≢false}
use Rattle.book_rules.specs.Walks.{has}
use Rattle.book_rules.specs.Frames.{Framed}
use Rattle.book_rules.specs.State.{Fact, Obligation, State, is_live}
use Rattle.book_rules.specs.Effects.{closed_at, is_closing, close_from, close}
use Rattle.book_rules.specs.Kept.{IsPlaced, AreHung, IsOrdered}
use Rattle.book_rules.specs.Hanging.{HangsUnder, itself, beneath, FallsBy}
use Rattle.book_rules.proofs.ListLemmas.{both_true, either_is, not_true, is_not}
use Rattle.book_rules.proofs.RootLemmas.{first_closes}

-- nothing else changes

some_same : (x y : Obligation) → Some x ≡ Some y → x ≡ y
some_same x y h = cc

-- an obligation that was, and what it is now
pub record IsNow (entry : ℕ) (o now : Obligation) : Type 0 where
  pub closes : Bool
  pub was_live : closes ≡ true → is_live o ≡ true
  pub is : cond {A = Obligation} closes (closed_at entry o) o ≡ now

pub now_at : (cause : Obligation → Bool) (entry : ℕ) (before os : List Obligation) (i : ℕ) (o now : Obligation) → slice_get os i ≡ Some o → slice_get (close_from cause entry before os) i ≡ Some now → IsNow entry o now
now_at cause entry before [] i o now is there = absurd (cc)
now_at cause entry before (x ∷ os) zero o now is there =
    let here : cond {A = Obligation} (is_closing cause before x) (closed_at entry x) x ≡ now = some_same (cond {A = Obligation} (is_closing cause before x) (closed_at entry x) x) now there in
    let at_x : IsNow entry x now = record { closes = is_closing cause before x; was_live = λ closes. (both_true (is_live x) _ closes).0; is = here } in
    subst (λ (y : Obligation). IsNow entry y now) (some_same x o is) at_x
now_at cause entry before (x ∷ os) (suc i) o now is there = now_at cause entry (before ++ cond {A = Obligation} (is_closing cause before x) (closed_at entry x) x ∷ []) os i o now is there

pub still_live : (entry : ℕ) (o now : Obligation) → IsNow entry o now → is_live now ≡ true → now ≡ o
still_live entry o now n live = by_closing n.closes n.is where
  by_closing : (b : Bool) → cond {A = Obligation} b (closed_at entry o) o ≡ now → now ≡ o
  by_closing true is = absurd (true≢false (sym live ∙ ap is_live (sym is)))
  by_closing false is = sym is

pub closed_before : (entry : ℕ) (o now : Obligation) → IsNow entry o now → is_live o ≡ false → now ≡ o
closed_before entry o now n dead = by_closing n.closes n.was_live n.is where
  by_closing : (b : Bool) → (b ≡ true → is_live o ≡ true) → cond {A = Obligation} b (closed_at entry o) o ≡ now → now ≡ o
  by_closing true was is = absurd (true≢false (sym (was refl) ∙ dead))
  by_closing false was is = sym is

pub closed_now : (entry : ℕ) (o now : Obligation) → IsNow entry o now → is_live o ≡ true → is_live now ≡ false → now ≡ closed_at entry o
closed_now entry o now n live dead = by_closing n.closes n.is where
  by_closing : (b : Bool) → cond {A = Obligation} b (closed_at entry o) o ≡ now → now ≡ closed_at entry o
  by_closing true is = sym is
  by_closing false is = absurd (true≢false (sym live ∙ ap is_live is ∙ dead))

-- what closes, by its parent

abbrev is_dead : List Obligation → ℕ → Bool
is_dead os i = has (slice_get os i) (λ (o : Obligation). not (is_live o))

get-seam : (xs : List Obligation) (y : Obligation) (ys : List Obligation) (i : ℕ) → i ≡ length xs → slice_get (xs ++ y ∷ ys) i ≡ Some y
get-seam [] y ys zero is = refl
get-seam [] y ys (suc i) is = absurd (omega (arith, is))
get-seam (x ∷ xs) y ys zero is = absurd (omega (arith, is))
get-seam (x ∷ xs) y ys (suc i) is = get-seam xs y ys i (omega (arith, is))

get-before : (xs ys : List Obligation) (i : ℕ) → i < length xs → slice_get (xs ++ ys) i ≡ slice_get xs i
get-before [] ys i less = absurd (omega (arith, less))
get-before (x ∷ xs) ys zero less = refl
get-before (x ∷ xs) ys (suc i) less = get-before xs ys i (omega (arith, less))

get-inside : (xs : List Obligation) (i : ℕ) (x : Obligation) → slice_get xs i ≡ Some x → i < length xs
get-inside [] i x is = absurd (cc)
get-inside (y ∷ xs) zero x is = omega arith
get-inside (y ∷ xs) (suc i) x is = let rest = get-inside xs i x is in omega (arith, rest)

dead_if : (entry : ℕ) (o : Obligation) (b : Bool) → is_live o ≡ true → not (is_live (cond {A = Obligation} b (closed_at entry o) o)) ≡ b
dead_if entry o true live = refl
dead_if entry o false live = ap not live

live_and : (a b : Bool) → a ≡ true → (a && b) ≡ b
live_and true b h = refl
live_and false b h = absurd (true≢false (sym h))

-- a live one that isn't the first: its parent stands before it and was live, and it is closed where the cause tells of it or its parent is closed
pub record IsSettled (cause : Obligation → Bool) (os closed : List Obligation) (number : ℕ) (o : Obligation) : Type 0 where
  pub parent : Obligation
  pub there : slice_get os o.parent ≡ Some parent
  pub parent_lives : is_live parent ≡ true
  pub before : o.parent < number
  pub settled : is_dead closed number ≡ (cause o || is_dead closed o.parent)

settled_here : (es : List Framed) (facts : List Fact) (cause : Obligation → Bool) (entry : ℕ) (before done : List Obligation) (o : Obligation) (os : List Obligation) → length before ≡ length done → IsPlaced es facts before o → is_live o ≡ true
    → IsSettled cause (before ++ o ∷ os) (done ++ close_from cause entry done (o ∷ os)) (length before) o
settled_here es facts cause entry before done o os same p live =
    let here = cond {A = Obligation} (is_closing cause done o) (closed_at entry o) o in
    let all = done ++ close_from cause entry done (o ∷ os) in
    let inside = get-inside before o.parent p.parent p.there in
    let in_done : o.parent < length done = omega (arith, inside, same) in
    let at_parent : is_dead all o.parent ≡ is_dead done o.parent = ap (λ (found : Option Obligation). has found (λ x. not (is_live x))) (get-before done (close_from cause entry done (o ∷ os)) o.parent in_done) in
    let at_here : is_dead all (length before) ≡ not (is_live here) = ap (λ (found : Option Obligation). has found (λ x. not (is_live x))) (get-seam done here (close_from cause entry (done ++ here ∷ []) os) (length before) same) in
    record {
      parent = p.parent;
      there = get-before before (o ∷ os) o.parent inside ∙ p.there;
      parent_lives = p.parent_lives;
      before = inside;
      settled = at_here ∙ dead_if entry o (is_closing cause done o) live ∙ live_and (is_live o) (cause o || is_dead done o.parent) live ∙ ap (λ b. cause o || b) (sym at_parent);
    }

settled_at : (es : List Framed) (facts : List Fact) (cause : Obligation → Bool) (entry : ℕ) (before done os : List Obligation) → length before ≡ length done → AreHung es facts before os → (i number : ℕ) (o : Obligation) → slice_get os i ≡ Some o
    → number ≡ length before + i → 0 < number → is_live o ≡ true → IsSettled cause (before ++ os) (done ++ close_from cause entry done os) number o
settled_at es facts cause entry before done [] same hung i number o is at some live = absurd (cc)
settled_at es facts cause entry before done (x ∷ os) same hung zero number o is at some live =
    let head : x ≡ o = cc in
    let here : length before ≡ number = omega (arith, at) in
    let first : 0 < length before = omega (arith, at, some) in
    let lives : is_live x ≡ true = ap is_live head ∙ live in
    subst (λ (y : Obligation). IsSettled cause (before ++ x ∷ os) (done ++ close_from cause entry done (x ∷ os)) number y) head
    (subst (λ n. IsSettled cause (before ++ x ∷ os) (done ++ close_from cause entry done (x ∷ os)) n x) here (settled_here es facts cause entry before done x os same (hung.0 first lives) lives))
settled_at es facts cause entry before done (x ∷ os) same hung (suc i) number o is at some live =
    let here = cond {A = Obligation} (is_closing cause done x) (closed_at entry x) x in
    let long : length (before ++ x ∷ []) ≡ length before + 1 = length-append before (x ∷ []) in
    let long_done : length (done ++ here ∷ []) ≡ length done + 1 = length-append done (here ∷ []) in
    let both : length (before ++ x ∷ []) ≡ length (done ++ here ∷ []) = omega (arith, same, long, long_done) in
    let next : number ≡ length (before ++ x ∷ []) + i = omega (arith, at, long) in
    subst (λ (all : List Obligation). IsSettled cause all (done ++ here ∷ close_from cause entry (done ++ here ∷ []) os) number o) (append_assoc before (x ∷ []) os)
    (subst (λ (all : List Obligation). IsSettled cause ((before ++ x ∷ []) ++ os) all number o) (append_assoc done (here ∷ []) (close_from cause entry (done ++ here ∷ []) os))
    (settled_at es facts cause entry (before ++ x ∷ []) (done ++ here ∷ []) os both hung.1 i number o is next some live))

later : (s : State) (cause : Obligation → Bool) → IsOrdered s → (number : ℕ) (o : Obligation) → slice_get s.obligations number ≡ Some o → 0 < number → is_live o ≡ true → IsSettled cause s.obligations (close cause s) number o
later s cause ordered number o is some live =
    let at : number ≡ 0 + number = omega arith in
    settled_at s.lemmas s.facts cause (s.entries + 1) [] [] s.obligations refl ordered.hung number number o is at some live

first_is : (cause : Obligation → Bool) (entry : ℕ) (os : List Obligation) (o : Obligation) → slice_get os 0 ≡ Some o → is_dead (close_from cause entry [] os) 0 ≡ true → is_live o ≡ true → cause o ≡ true
first_is cause entry [] o is dead live = absurd (cc)
first_is cause entry (x ∷ os) o is dead live =
    let same : x ≡ o = cc in
    let lives : is_live x ≡ true = ap is_live same ∙ live in
    ap cause (sym same) ∙ first_closes cause x (sym (dead_if entry x (is_closing cause [] x) lives) ∙ dead)

closes_first : (cause : Obligation → Bool) (entry : ℕ) (os : List Obligation) (o : Obligation) → slice_get os 0 ≡ Some o → cause o ≡ true → is_live o ≡ true → is_dead (close_from cause entry [] os) 0 ≡ true
closes_first cause entry [] o is told live = absurd (cc)
closes_first cause entry (x ∷ os) o is told live =
    let same : x ≡ o = cc in
    let lives : is_live x ≡ true = ap is_live same ∙ live in
    let b = has (slice_get [] x.parent) (λ (parent : Obligation). not (is_live parent)) in
    dead_if entry x (is_closing cause [] x) lives ∙ live_and (is_live x) (cause x || b) lives ∙ ap (λ c. c || b) (ap cause same ∙ told)

-- forth: what is told of falls, with what hangs under it

falls : (s : State) (cause : Obligation → Bool) → IsOrdered s → (above : ℕ) (a : Obligation) → slice_get s.obligations above ≡ Some a → cause a ≡ true → (number : ℕ) (o : Obligation) → HangsUnder s.obligations above number
    → slice_get s.obligations number ≡ Some o → is_live o ≡ true → is_dead (close cause s) number ≡ true
falls s cause ordered above a there told _ o itself is live = told_itself above there is where
  told_itself : (n : ℕ) → slice_get s.obligations n ≡ Some a → slice_get s.obligations n ≡ Some o → is_dead (close cause s) n ≡ true
  told_itself zero t i = let same : a ≡ o = some_same a o (sym t ∙ i) in closes_first cause (s.entries + 1) s.obligations o i (ap cause (sym same) ∙ told) live
  told_itself (suc n) t i =
      let same : a ≡ o = some_same a o (sym t ∙ i) in
      let some : 0 < suc n = omega arith in
      let p = later s cause ordered (suc n) o i some live in
      p.settled ∙ ap (λ b. b || is_dead (close cause s) o.parent) (ap cause (sym same) ∙ told)
falls s cause ordered above a there told _ o (beneath number x some x_is hangs) is live =
    let same : x ≡ o = some_same x o (sym x_is ∙ is) in
    let p = later s cause ordered number x x_is some (ap is_live same ∙ live) in
    p.settled ∙ ap (λ b. cause x || b) (falls s cause ordered above a there told x.parent p.parent hangs p.there p.parent_lives) ∙ or_true (cause x) where
      or_true : (b : Bool) → (b || true) ≡ true
      or_true true = refl
      or_true false = refl

-- back: what falls hangs under what is told of

tells : (s : State) (cause : Obligation → Bool) → IsOrdered s → (n number : ℕ) (o : Obligation) → number < n → slice_get s.obligations number ≡ Some o → is_live o ≡ true → is_dead (close cause s) number ≡ true → FallsBy cause s.obligations number
tells s cause ordered zero number o less is live dead = absurd (omega (arith, less))
tells s cause ordered (suc n) zero o less is live dead = record { above = 0; obligation = o; there = is; told = first_is cause (s.entries + 1) s.obligations o is dead live; hangs = itself }
tells s cause ordered (suc n) (suc k) o less is live dead =
    let some : 0 < suc k = omega arith in
    let p = later s cause ordered (suc k) o is some live in
    let before = p.before in
    let lower : o.parent < n = omega (arith, less, before) in
    either_is (cause o) (is_dead (close cause s) o.parent) (FallsBy cause s.obligations (suc k))
    (λ told. record { above = suc k; obligation = o; there = is; told = told; hangs = itself })
    (λ up. let f = tells s cause ordered n o.parent p.parent lower p.there p.parent_lives up in record { above = f.above; obligation = f.obligation; there = f.there; told = f.told; hangs = beneath (suc k) o some is f.hangs })
    (sym p.settled ∙ dead)

pub falls_exactly : (cause : Obligation → Bool) (s : State) (number : ℕ) (o now : Obligation) → IsOrdered s → slice_get s.obligations number ≡ Some o → slice_get (close cause s) number ≡ Some now → is_live o ≡ true
    → (is_live now ≡ false) ↔ FallsBy cause s.obligations number
falls_exactly cause s number o now ordered is there live = (
  λ dead. let less : number < suc number = omega arith in tells s cause ordered (suc number) number o less is live (at_now ∙ is_not (is_live now) dead),
  λ f. not_true (is_live now) (sym at_now ∙ falls s cause ordered f.above f.obligation f.there f.told number o f.hangs is live),
) where
  at_now : is_dead (close cause s) number ≡ not (is_live now)
  at_now = ap (λ (found : Option Obligation). has found (λ x. not (is_live x))) there
