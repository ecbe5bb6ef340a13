-- Loops that go down a list and say what its rest decides, or gather a list for each item.
use Rattle.std.proofs.Common.{◌≡◌, ℕ, zero, suc, ◌+◌, ◌<◌, ◌≤◌, List, [], ◌∷◌, ◌++◌, length, drop, get_or, filter, Bool, true, false, ◌||◌, refl, ap, sym, ◌∙◌, arith}
use Rattle.std.specs.List.{flat_map, list_all, list_any}
use Rattle.std.proofs.lemmas.List.{append-nil, append_assoc}
use Rattle.lin_atoms.specs.declared.lit.Lit.{Lit}
use Rattle.lemma_frames.specs.declared.framed.Framed.{Framed as KeptLemma}
use Rattle.cube_rules.specs.Views.{lemmas_of}
use Rattle.cube_rules.specs.machinery.Literals.{roomy_denials}
use Rattle.cube_rules.proofs.LiteralLemmas.{roomy-cons}
use Rattle.cube_rules.proofs.TestLemmas.{both_true, plus-one}

rest-suc : {X : Type 0} (xs : List X) (i : ℕ) (x : X) → i < length xs → x ≡ get_or xs i x → drop i xs ≡ x ∷ drop (suc i) xs
rest-suc [] i x within is = absurd (omega arith)
rest-suc (y ∷ xs) zero x within is = ap (λ z. z ∷ xs) (sym is)
rest-suc (y ∷ xs) (suc i) x within is = rest-suc xs i x (omega arith) is

pub rest-is : {X : Type 0} (xs : List X) (i : ℕ) (x : X) → i < length xs → x ≡ get_or xs i x → drop i xs ≡ x ∷ drop (i + 1) xs
rest-is xs i x within is = rest-suc xs i x within is ∙ ap (λ k. x ∷ drop k xs) (sym (plus-one i))

pub rest-end : {X : Type 0} (xs : List X) (i : ℕ) → length xs ≤ i → drop i xs ≡ []
rest-end [] zero past = refl
rest-end [] (suc i) past = refl
rest-end (y ∷ xs) zero past = absurd (omega arith)
rest-end (y ∷ xs) (suc i) past = rest-end xs i (omega arith)

pub framed-end : (lemmas : List KeptLemma) (i : ℕ) → length lemmas ≤ i → drop i (lemmas_of lemmas) ≡ []
framed-end [] zero past = refl
framed-end [] (suc i) past = refl
framed-end (f ∷ lemmas) zero past = absurd (omega arith)
framed-end (f ∷ lemmas) (suc i) past = framed-end lemmas i (omega arith)

pub gather-on : {X Y : Type 0} (f : X → List Y) (xs : List X) (x : X) (ys : List X) (items new whole : List Y) → xs ≡ x ∷ ys → new ≡ items ++ f x → items ++ flat_map f xs ≡ whole → new ++ flat_map f ys ≡ whole
gather-on {X = X} {Y = Y} f xs x ys items new whole split made was =
    ap (λ (ls : List Y). ls ++ flat_map f ys) made ∙ append_assoc items (f x) (flat_map f ys) ∙ sym (ap (λ (zs : List X). items ++ flat_map f zs) split) ∙ was

pub gather-end : {X Y : Type 0} (f : X → List Y) (xs : List X) (items whole : List Y) → xs ≡ [] → items ++ flat_map f xs ≡ whole → items ≡ whole
gather-end {X = X} f xs items whole none was = sym (append-nil items) ∙ sym (ap (λ (zs : List X). items ++ flat_map f zs) none) ∙ was

pub roomy-on : (args : List ℕ) (xs : List Lit) (x : Lit) (ys items new whole : List Lit) → xs ≡ x ∷ ys → new ≡ items ++ roomy_denials args (x ∷ []) → items ++ roomy_denials args xs ≡ whole → new ++ roomy_denials args ys ≡ whole
roomy-on args xs x ys items new whole split made was =
    ap (λ (ls : List Lit). ls ++ roomy_denials args ys) made
    ∙ append_assoc items (roomy_denials args (x ∷ [])) (roomy_denials args ys)
    ∙ ap (λ (ls : List Lit). items ++ ls) (sym (roomy-cons args x ys))
    ∙ sym (ap (λ (zs : List Lit). items ++ roomy_denials args zs) split)
    ∙ was

pub roomy-end : (args : List ℕ) (xs items whole : List Lit) → xs ≡ [] → items ++ roomy_denials args xs ≡ whole → items ≡ whole
roomy-end args xs items whole none was = sym (append-nil items) ∙ sym (ap (λ (zs : List Lit). items ++ roomy_denials args zs) none) ∙ was

pub any-on : {X : Type 0} (test : X → Bool) (xs : List X) (x : X) (ys : List X) → xs ≡ x ∷ ys → test x ≡ false → list_any test xs ≡ list_any test ys
any-on test xs x ys split fails = ap (list_any test) split ∙ ap (λ b. b || list_any test ys) fails

pub any-hit : {X : Type 0} (test : X → Bool) (xs : List X) (x : X) (ys : List X) → xs ≡ x ∷ ys → test x ≡ true → list_any test xs ≡ true
any-hit test xs x ys split passes = ap (list_any test) split ∙ ap (λ b. b || list_any test ys) passes

pub any-end : {X : Type 0} (test : X → Bool) (xs : List X) → xs ≡ [] → list_any test xs ≡ false
any-end test xs none = ap (list_any test) none

pub all-get : {X : Type 0} (p : X → Bool) (xs : List X) (i : ℕ) (x : X) → i < length xs → x ≡ get_or xs i x → list_all p xs ≡ true → p x ≡ true
all-get p [] i x within is all = absurd (omega arith)
all-get p (y ∷ xs) zero x within is all = ap p is ∙ (both_true (p y) (list_all p xs) all).0
all-get p (y ∷ xs) (suc i) x within is all = all-get p xs i x (omega arith) is (both_true (p y) (list_all p xs) all).1
