-- One more item of a list that is gone through.
use Rattle.std.proofs.Common.{◌≡◌, ℕ, zero, suc, ◌+◌, ◌<◌, ◌≤◌, List, [], ◌∷◌, ◌++◌, map, length, take, drop, reverse, get_or, ap, sym, ◌∙◌, arith, append_assoc, append-nil}
use Rattle.std.specs.List.{flat_map}
use Rattle.std.proofs.lemmas.List.{drop_all, drop_more, take_more}
use Rattle.lin_atoms.specs.declared.lit.Lit.{Lit}
use Rattle.lia_close.proofs.Public.{reverse-push}
use Rattle.lia_stack.specs.declared.waiting.LeftOut.{LeftOut}
use Rattle.lia_stack.specs.machinery.Opened.{left_from}

flat-take : {X Y : Type 0} (f : X → List Y) (xs : List X) (i : ℕ) (d : X) → i < length xs → flat_map f (take (i + 1) xs) ≡ flat_map f (take i xs) ++ f (get_or xs i d)
flat-take f [] i d less = absurd (omega (arith, less))
flat-take f (x ∷ xs) zero d less = append-nil (f x)
flat-take f (x ∷ xs) (suc i) d less =
    let next : suc i + 1 ≡ suc (i + 1) = omega arith in
    ap (λ (k : ℕ). flat_map f (take k (x ∷ xs))) next ∙ ap (λ ys. f x ++ ys) (flat-take f xs i d (omega (arith, less))) ∙ sym (append_assoc (f x) (flat_map f (take i xs)) (f (get_or xs i d)))

-- what the next item gives is put behind
pub flat-more : {X Y : Type 0} (f : X → List Y) (xs : List X) (x : X) (i : ℕ) (old now new : List Y) → i < length xs → x ≡ get_or xs i x → now ≡ old ++ flat_map f (take i xs) → new ≡ now ++ f x → new ≡ old ++ flat_map f (take (i + 1) xs)
flat-more f xs x i old now new less is so e =
    e ∙ ap (λ ys. ys ++ f x) so ∙ append_assoc old (flat_map f (take i xs)) (f x)
    ∙ ap (λ z. old ++ (flat_map f (take i xs) ++ f z)) is ∙ ap (λ ys. old ++ ys) (sym (flat-take f xs i x less))

-- the next item is put behind
pub taken-more : {X : Type 0} (xs : List X) (x y : X) (i : ℕ) (old now new : List X) → i < length xs → x ≡ get_or xs i x → y ≡ x → now ≡ old ++ take i xs → new ≡ now ++ y ∷ [] → new ≡ old ++ take (i + 1) xs
taken-more xs x y i old now new less is copied so e =
    e ∙ ap (λ zs. zs ++ y ∷ []) so ∙ append_assoc old (take i xs) (y ∷ [])
    ∙ ap (λ z. old ++ (take i xs ++ z ∷ [])) (copied ∙ is) ∙ ap (λ zs. old ++ zs) (sym (take_more xs i x less))

-- the last of those that are left is on top of the others
pub stacked-more : {X Y : Type 0} (f : X → Y) (xs : List X) (x : X) (y : Y) (i n : ℕ) (old now new : List Y) → n ≡ i + 1 → i < length xs → x ≡ get_or xs i x → y ≡ f x → reverse now ≡ map f (drop n xs) ++ reverse old → new ≡ now ++ y ∷ [] → reverse new ≡ map f (drop i xs) ++ reverse old
stacked-more f xs x y i n old now new next less is gives so e =
    ap reverse e ∙ reverse-push now y ∙ ap (λ z. z ∷ reverse now) (gives ∙ ap f is)
    ∙ ap (λ ys. f (get_or xs i x) ∷ ys) (so ∙ ap (λ (k : ℕ). map f (drop k xs) ++ reverse old) next)
    ∙ ap (λ zs. map f zs ++ reverse old) (sym (drop_more xs i x less))

-- the next literal is left out, with its number
pub left-more : (lits : List Lit) (lit : Lit) (at : ℕ) (now new whole : List LeftOut) → at < length lits → lit ≡ get_or lits at lit → now ++ left_from at (drop at lits) ≡ whole → new ≡ now ++ (record { lit = lit; number = at }) ∷ [] → new ++ left_from (at + 1) (drop (at + 1) lits) ≡ whole
left-more lits lit at now new whole less is so e =
    let rest = left_from (at + 1) (drop (at + 1) lits) in
    ap (λ (ls : List LeftOut). ls ++ rest) e ∙ append_assoc now ((record { lit = lit; number = at }) ∷ []) rest
    ∙ ap (λ (l : Lit). now ++ (record { lit = l; number = at }) ∷ rest) is ∙ ap (λ (ls : List Lit). now ++ left_from at ls) (sym (drop_more lits at lit less)) ∙ so

pub left-all : (lits : List Lit) (at : ℕ) (now whole : List LeftOut) → length lits ≤ at → now ++ left_from at (drop at lits) ≡ whole → now ≡ whole
left-all lits at now whole past so = sym (append-nil now) ∙ ap (λ (ls : List Lit). now ++ left_from at ls) (sym (drop_all at lits past)) ∙ so
