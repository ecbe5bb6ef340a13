-- Lemmas of frames as the rules speak of them.
use Rattle.std.proofs.Common.{◌≡◌, ℕ, zero, suc, ◌+◌, ◌<◌, List, [], ◌∷◌, ◌++◌, ◌≤◌, map, length, drop, get_or, Some, None, refl, ap, sym, ◌∙◌, arith}
use Rattle.std.specs.Prelude.{slice_get, slice_set}
use Rattle.std.proofs.lemmas.List.{map-append, map-set}
use Rattle.lemma_frames.specs.Frames.{lemma_of, level_of, lifted, pred_of}
use Rattle.lemma_frames.specs.declared.framed.Framed.{Framed as KeptLemma}
use Rattle.cube_rules.specs.Views.{framed_at, framed_of, lemmas_of}
use Rattle.cube_rules.proofs.TestLemmas.{plus-one}

-- a list that grows by one

pub lemmas-push : (lemmas : List KeptLemma) (f : KeptLemma) → lemmas_of (lemmas ++ f ∷ []) ≡ lemmas_of lemmas ++ framed_of f ∷ []
lemmas-push lemmas f = map-append framed_of lemmas (f ∷ [])

pub length-lemmas : (lemmas : List KeptLemma) → length (lemmas_of lemmas) ≡ length lemmas
length-lemmas [] = refl
length-lemmas (f ∷ lemmas) = ap suc (length-lemmas lemmas)

-- what stands at a number

pub framed_of-at : (lemmas : List KeptLemma) (n : ℕ) → n < length lemmas → slice_get (lemmas_of lemmas) n ≡ Some (framed_at lemmas n)
framed_of-at [] n within = absurd (omega arith)
framed_of-at (f ∷ lemmas) zero within = refl
framed_of-at (f ∷ lemmas) (suc n) within = framed_of-at lemmas n (omega arith)

pub framed-past : (lemmas : List KeptLemma) (n : ℕ) → length lemmas ≤ n → slice_get (lemmas_of lemmas) n ≡ None
framed-past [] n past = refl
framed-past (f ∷ lemmas) zero past = absurd (omega arith)
framed-past (f ∷ lemmas) (suc n) past = framed-past lemmas n (omega arith)

-- what changes in its place

pub lemmas-lifted : (lemmas : List KeptLemma) (n : ℕ) → n < length lemmas → lemmas_of (lifted lemmas n) ≡ slice_set (lemmas_of lemmas) n (record { lemma = (framed_at lemmas n).lemma; level = level_of lemmas n + 1 })
lemmas-lifted lemmas n within = map-set framed_of lemmas n (record { pred = pred_of lemmas n; level = level_of lemmas n + 1; lemma = lemma_of lemmas n })

-- what is still to come

framed-suc : (lemmas : List KeptLemma) (i : ℕ) → i < length lemmas → drop i (lemmas_of lemmas) ≡ framed_at lemmas i ∷ drop (suc i) (lemmas_of lemmas)
framed-suc [] i within = absurd (omega arith)
framed-suc (f ∷ lemmas) zero within = refl
framed-suc (f ∷ lemmas) (suc i) within = framed-suc lemmas i (omega arith)

pub framed-drop : (lemmas : List KeptLemma) (i : ℕ) → i < length lemmas → drop i (lemmas_of lemmas) ≡ framed_at lemmas i ∷ drop (i + 1) (lemmas_of lemmas)
framed-drop lemmas i within = framed-suc lemmas i within ∙ ap (λ k. framed_at lemmas i ∷ drop k (lemmas_of lemmas)) (sym (plus-one i))

mapped-suc : {X Y : Type 0} (f : X → Y) (xs : List X) (i : ℕ) (x : X) → i < length xs → x ≡ get_or xs i x → map f (drop i xs) ≡ f x ∷ map f (drop (suc i) xs)
mapped-suc f [] i x within is = absurd (omega arith)
mapped-suc f (y ∷ xs) zero x within is = ap (λ z. f z ∷ map f xs) (sym is)
mapped-suc f (y ∷ xs) (suc i) x within is = mapped-suc f xs i x (omega arith) is

pub mapped-drop : {X Y : Type 0} (f : X → Y) (xs : List X) (i : ℕ) (x : X) → i < length xs → x ≡ get_or xs i x → map f (drop i xs) ≡ f x ∷ map f (drop (i + 1) xs)
mapped-drop f xs i x within is = mapped-suc f xs i x within is ∙ ap (λ k. f x ∷ map f (drop k xs)) (sym (plus-one i))

pub mapped-end : {X Y : Type 0} (f : X → Y) (xs : List X) (i : ℕ) → length xs ≤ i → map f (drop i xs) ≡ []
mapped-end f [] zero past = refl
mapped-end f [] (suc i) past = refl
mapped-end f (y ∷ xs) zero past = absurd (omega arith)
mapped-end f (y ∷ xs) (suc i) past = mapped-end f xs i (omega arith)
