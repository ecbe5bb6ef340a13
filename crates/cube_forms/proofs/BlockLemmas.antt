-- Where the items of a list stand in its blocks. A place k is place j of block i.
use Rattle.std.proofs.Common.{◌≡◌, ℕ, zero, suc, ◌+◌, ◌-◌, ◌*◌, ◌/◌, ◌%◌, ◌<◌, ◌≤◌, List, [], ◌∷◌, ◌++◌, length, get_or, set, refl, ap, sym, subst, ◌∙◌, arith}
use Rattle.std.proofs.lemmas.List.{length-append, append_assoc, append-nil, get_or_append_left, get_or-append-add, set-append_left, set-append_right, length-set}
use Rattle.cube_forms.specs.machinery.Blocks.{joined, AreFilled}

pub length-joined : {X : Type 0} (n : ℕ) (bs : List (List X)) → AreFilled n bs → length (joined bs) ≡ n
length-joined n [] filled = sym filled
length-joined n (b ∷ bs) filled =
    let rest = length-joined (n - 64) bs filled.2 in
    omega (arith, length-append b (joined bs))

-- what a read needs
pub record StandsAt {X : Type 0} (bs : List (List X)) (i j k : ℕ) (e : List X) : Type 0 where
  pub block : i < length bs
  pub place : j < length (get_or bs i e)
  pub item : (d : X) → get_or (joined bs) k d ≡ get_or (get_or bs i e) j d

pub stands_at : {X : Type 0} (n : ℕ) (bs : List (List X)) (i j k : ℕ) (e : List X) → AreFilled n bs → j < 64 → k ≡ 64 * i + j → k < n → StandsAt bs i j k e
stands_at n [] i j k e filled small is within = absurd (omega arith)
stands_at n (b ∷ bs) zero j k e filled small is within =
    let here : j < length b = omega arith in
    let at : k ≡ j = omega arith in
    record { block = omega arith; place = here; item = λ d. ap (λ m. get_or (b ++ joined bs) m d) at ∙ get_or_append_left b (joined bs) d j here }
stands_at n (b ∷ bs) (suc i) j k e filled small is within =
    let rest = stands_at (n - 64) bs i j (k - 64) e filled.2 small (omega arith) (omega arith) in
    let at : k ≡ length b + (k - 64) = omega arith in
    record {
      block = (let r = rest.block in omega arith);
      place = rest.place;
      item = λ d. ap (λ m. get_or (b ++ joined bs) m d) at ∙ get_or-append-add b (joined bs) (k - 64) d ∙ rest.item d;
    }

pub found : {X : Type 0} (n : ℕ) (bs : List (List X)) (xs : List X) (k : ℕ) (e : List X) → AreFilled n bs → joined bs ≡ xs → k < length xs → StandsAt bs (k / 64) (k % 64) k e
found n bs xs k e filled is within =
    let count = length-joined n bs filled in
    let same : length (joined bs) ≡ length xs = ap (λ ys. length ys) is in
    stands_at n bs (k / 64) (k % 64) k e filled (omega arith) (omega arith) (omega arith)

-- what a write does
pub record IsSetAt {X : Type 0} (n : ℕ) (bs : List (List X)) (i k : ℕ) (new : List X) (y : X) : Type 0 where
  pub items : joined (set bs i new) ≡ set (joined bs) k y
  pub filled : AreFilled n (set bs i new)

pub set_at : {X : Type 0} (n : ℕ) (bs : List (List X)) (i j k : ℕ) (e : List X) (y : X) → AreFilled n bs → j < 64 → k ≡ 64 * i + j → k < n → IsSetAt n bs i k (set (get_or bs i e) j y) y
set_at n [] i j k e y filled small is within = absurd (omega arith)
set_at n (b ∷ bs) zero j k e y filled small is within =
    let here : j < length b = omega arith in
    let at : j ≡ k = omega arith in
    record { items = sym (set-append_left b (joined bs) j y here) ∙ ap (λ m. set (b ++ joined bs) m y) at; filled = (filled.0, length-set b j y ∙ filled.1, filled.2) }
set_at n (b ∷ bs) (suc i) j k e y filled small is within =
    let rest = set_at (n - 64) bs i j (k - 64) e y filled.2 small (omega arith) (omega arith) in
    let full : length b ≡ 64 = omega arith in
    let past : 64 ≤ k = omega arith in
    record {
      items = ap (λ ys. b ++ ys) rest.items ∙ sym (set-append_right b (joined bs) 64 k y full past);
      filled = (filled.0, filled.1, rest.filled);
    }

pub written : {X : Type 0} (n : ℕ) (bs : List (List X)) (xs : List X) (k : ℕ) (e : List X) (y : X) → AreFilled n bs → joined bs ≡ xs → k < length xs
    → IsSetAt n bs (k / 64) k (set (get_or bs (k / 64) e) (k % 64) y) y
written n bs xs k e y filled is within =
    let count = length-joined n bs filled in
    let same : length (joined bs) ≡ length xs = ap (λ ys. length ys) is in
    set_at n bs (k / 64) (k % 64) k e y filled (omega arith) (omega arith) (omega arith)

-- one more item at the end of the last block
pub record IsAddedAt {X : Type 0} (n : ℕ) (bs : List (List X)) (i : ℕ) (new : List X) (y : X) : Type 0 where
  pub block : i < length bs
  pub items : joined (set bs i new) ≡ joined bs ++ y ∷ []
  pub filled : AreFilled (n + 1) (set bs i new)

-- behind the last block stands none
nothing_after : {X : Type 0} (n : ℕ) (bs : List (List X)) → AreFilled n bs → n ≡ 0 → bs ≡ []
nothing_after n [] filled none = refl
nothing_after n (b ∷ bs) filled none = absurd (omega arith)

pub added_at : {X : Type 0} (n : ℕ) (bs : List (List X)) (i j : ℕ) (e : List X) (y : X) → AreFilled n bs → 0 < j → j < 64 → n ≡ 64 * i + j → IsAddedAt n bs i (get_or bs i e ++ y ∷ []) y
added_at n [] i j e y filled some small is = absurd (omega arith)
added_at n (b ∷ bs) zero j e y filled some small is =
    let last : bs ≡ [] = nothing_after (n - 64) bs filled.2 (omega arith) in
    record {
      block = omega arith;
      items = ap (λ rest. (b ++ y ∷ []) ++ joined rest) last ∙ append-nil (b ++ y ∷ []) ∙ ap (λ whole. whole ++ y ∷ []) (sym (append-nil b)) ∙ ap (λ rest. (b ++ joined rest) ++ y ∷ []) (sym last);
      filled = (omega arith, omega (arith, length-append b (y ∷ [])), subst (λ rest. AreFilled (n + 1 - 64) rest) (sym last) (omega arith));
    }
added_at n (b ∷ bs) (suc i) j e y filled some small is =
    let rest = added_at (n - 64) bs i j e y filled.2 some small (omega arith) in
    let more : n - 64 + 1 ≡ n + 1 - 64 = omega arith in
    record {
      block = (let r = rest.block in omega arith);
      items = ap (λ ys. b ++ ys) rest.items ∙ sym (append_assoc b (joined bs) (y ∷ []));
      filled = (omega arith, omega arith, subst (λ m. AreFilled m (set bs i (get_or bs i e ++ y ∷ []))) more rest.filled);
    }

pub appended : {X : Type 0} (n : ℕ) (bs : List (List X)) (e : List X) (y : X) → AreFilled n bs → 0 < n % 64 → IsAddedAt n bs (n / 64) (get_or bs (n / 64) e ++ y ∷ []) y
appended n bs e y filled some = added_at n bs (n / 64) (n % 64) e y filled some (omega arith) (omega arith)

-- or in a block of its own
pub record IsAddedAfter {X : Type 0} (n : ℕ) (bs : List (List X)) (y : X) : Type 0 where
  pub items : joined (bs ++ (y ∷ []) ∷ []) ≡ joined bs ++ y ∷ []
  pub filled : AreFilled (n + 1) (bs ++ (y ∷ []) ∷ [])

pub added_after : {X : Type 0} (n : ℕ) (bs : List (List X)) (i : ℕ) (y : X) → AreFilled n bs → n ≡ 64 * i → IsAddedAfter n bs y
added_after n [] i y filled is = record { items = refl; filled = (omega arith, omega arith, omega arith) }
added_after n (b ∷ bs) zero y filled is = absurd (omega arith)
added_after n (b ∷ bs) (suc i) y filled is =
    let rest = added_after (n - 64) bs i y filled.2 (omega arith) in
    let more : n - 64 + 1 ≡ n + 1 - 64 = omega arith in
    record {
      items = ap (λ ys. b ++ ys) rest.items ∙ sym (append_assoc b (joined bs) (y ∷ []));
      filled = (omega arith, omega arith, subst (λ m. AreFilled m (bs ++ (y ∷ []) ∷ [])) more rest.filled);
    }
