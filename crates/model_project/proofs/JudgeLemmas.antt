-- Lists that are tidied piece by piece.
use Rattle.std.proofs.Common.{◌≡◌, ◌<◌, ◌≤◌, ◌+◌, ◌&&◌, ◌++◌, ℕ, suc, zero, List, [], ◌∷◌, refl, ap, sym, ◌∙◌, arith, true, false, Bool, cond, not, length, take, drop, get_or, set, append_assoc, add-one, Option, Some, None}
use Rattle.std.specs.List.{list_all, filter}
use Rattle.std.proofs.lemmas.List.{append-nil, drop_more, drop_all, take_more, take_all, take-set, length-set}
use Rattle.std.proofs.lemmas.List.Elements.{filter-append}
use Rattle.std.proofs.lemmas.List.Folds.{list_all-append}
use Rattle.lin_atoms.specs.Linear.{Linear}
use Rattle.lin_atoms.specs.declared.lit.Lit.{Lit}
use Rattle.lin_atoms.specs.declared.lit.Lit.TheVariants.{Le, Eq, Div, NDiv}
use Rattle.lin_atoms.proofs.Public.{both_true}
use Rattle.model_project.specs.Substitution.{crossed_lit, equation_in, is_equation, left_over, lin_has, occurs, replaced, solved, by_equation, substituted, upright}
use Rattle.model_project.specs.Elimination.{has_variable, has_short_numbers, put_before, tidied, unless_wide}
use Rattle.model_project.specs.machinery.Steps.{are_narrow, behind, one}
use Rattle.model_project.proofs.TidyLemmas.{filter_all}

pub one_kept : (lit : Lit) → has_variable lit ≡ true → has_short_numbers lit ≡ true → tidied (lit ∷ []) ≡ Some (one lit)
one_kept lit h n =
    let e : one lit ≡ lit ∷ [] = ap (λ b. cond b (lit ∷ []) []) h in
    ap unless_wide e ∙ ap (λ b. cond (b && true) (Some (lit ∷ [])) None) n ∙ ap Some (sym e)

pub one_ground : (lit g : Lit) → has_variable lit ≡ false → has_variable g ≡ false → tidied (lit ∷ []) ≡ Some (one g)
one_ground lit g h n =
    let e : one lit ≡ [] = ap (λ b. cond b (lit ∷ []) []) h in
    let f : one g ≡ [] = ap (λ b. cond b (g ∷ []) []) n in
    ap unless_wide e ∙ ap Some (sym f)

pub one_wide : (lit : Lit) → has_variable lit ≡ true → has_short_numbers lit ≡ false → tidied (lit ∷ []) ≡ None
one_wide lit h n =
    let e : one lit ≡ lit ∷ [] = ap (λ b. cond b (lit ∷ []) []) h in
    ap unless_wide e ∙ ap (λ b. cond (b && true) (Some (lit ∷ [])) None) n

narrow_by : (lit : Lit) (b : Bool) → has_variable lit ≡ b → has_short_numbers lit ≡ true → tidied (lit ∷ []) ≡ Some (one lit)
narrow_by lit true e n = one_kept lit e n
narrow_by lit false e n = one_ground lit lit e e

pub one_narrow : (lit : Lit) → has_short_numbers lit ≡ true → tidied (lit ∷ []) ≡ Some (one lit)
one_narrow lit n = narrow_by lit (has_variable lit) refl n

-- a piece before a rest
some_joined : (X Y us : List Lit) (b c : Bool) → cond b (Some X) None ≡ Some us → cond (b && c) (Some (X ++ Y)) None ≡ behind us (cond c (Some Y) None)
some_joined X Y us true true h = let same : X ≡ us = cc in ap (λ xs. Some (xs ++ Y)) same
some_joined X Y us true false h = refl
some_joined X Y us false c h = absurd (cc)

none_joined : (X Y : List Lit) (b c : Bool) → cond b (Some X) None ≡ None → cond (b && c) (Some (X ++ Y)) None ≡ None
none_joined X Y true c h = absurd (cc)
none_joined X Y false c h = refl

joined : (xs ys : List Lit) → tidied (xs ++ ys) ≡ cond (list_all has_short_numbers (filter has_variable xs) && list_all has_short_numbers (filter has_variable ys)) (Some (filter has_variable xs ++ filter has_variable ys)) None
joined xs ys =
    let parts = filter-append has_variable xs ys in
    let narrow = list_all-append has_short_numbers (filter has_variable xs) (filter has_variable ys) in
    ap unless_wide parts ∙ ap (λ b. cond b (Some (filter has_variable xs ++ filter has_variable ys)) None) narrow

pub tidied-first : (xs ys us : List Lit) → tidied xs ≡ Some us → tidied (xs ++ ys) ≡ behind us (tidied ys)
tidied-first xs ys us h = joined xs ys ∙ some_joined (filter has_variable xs) (filter has_variable ys) us (list_all has_short_numbers (filter has_variable xs)) (list_all has_short_numbers (filter has_variable ys)) h

pub tidied-wide : (xs ys : List Lit) → tidied xs ≡ None → tidied (xs ++ ys) ≡ None
tidied-wide xs ys h = joined xs ys ∙ none_joined (filter has_variable xs) (filter has_variable ys) (list_all has_short_numbers (filter has_variable xs)) (list_all has_short_numbers (filter has_variable ys)) h

pub behind-more : (xs ys : List Lit) (o : Option (List Lit)) → behind xs (behind ys o) ≡ behind (xs ++ ys) o
behind-more xs ys None = refl
behind-more xs ys (Some ws) = ap Some (sym (append_assoc xs ys ws))

pub behind-nothing : (o : Option (List Lit)) → behind [] o ≡ o
behind-nothing None = refl
behind-nothing (Some ws) = refl

-- what a list gives is narrow
narrow_of : (X us : List Lit) (b : Bool) → list_all has_short_numbers X ≡ b → cond b (Some X) None ≡ Some us → are_narrow us ≡ true
narrow_of X us true e h = let same : X ≡ us = cc in ap are_narrow (sym same) ∙ e
narrow_of X us false e h = absurd (cc)

pub tidied-narrow : (lits us : List Lit) → tidied lits ≡ Some us → are_narrow us ≡ true
tidied-narrow lits us h = narrow_of (filter has_variable lits) us (list_all has_short_numbers (filter has_variable lits)) refl h

-- the first literal: crossed, left over, or as it is
pub crossed_first : (v : ℕ) (l : Linear) (came : Bool) (lit : Lit) (rest : List Lit) → (not came && is_equation v lit) ≡ false → occurs v lit ≡ true → replaced v l came (lit ∷ rest) ≡ crossed_lit v l lit ∷ replaced v l came rest
crossed_first v l came lit rest h has =
    ap (λ b. cond b (left_over v l ++ replaced v l true rest) (substituted v l lit ∷ replaced v l came rest)) h ∙ ap (λ b. cond b (crossed_lit v l lit) lit ∷ replaced v l came rest) has

pub left_first : (v : ℕ) (l : Linear) (lit : Lit) (rest : List Lit) → is_equation v lit ≡ true → replaced v l false (lit ∷ rest) ≡ left_over v l ++ replaced v l true rest
left_first v l lit rest h = ap (λ b. cond b (left_over v l ++ replaced v l true rest) (substituted v l lit ∷ replaced v l false rest)) h

no_equation : (v : ℕ) (lit : Lit) → occurs v lit ≡ false → is_equation v lit ≡ false
no_equation v (Le m) h = refl
no_equation v (Eq m) h = h
no_equation v (Div d m) h = refl
no_equation v (NDiv d m) h = refl

and_false : (b c : Bool) → c ≡ false → (b && c) ≡ false
and_false true c h = h
and_false false c h = refl

pub stays_first : (v : ℕ) (l : Linear) (came : Bool) (lit : Lit) (rest : List Lit) → occurs v lit ≡ false → replaced v l came (lit ∷ rest) ≡ lit ∷ replaced v l came rest
stays_first v l came lit rest h =
    ap (λ b. cond b (left_over v l ++ replaced v l true rest) (substituted v l lit ∷ replaced v l came rest)) (and_false (not came) (is_equation v lit) (no_equation v lit h)) ∙ ap (λ b. cond b (crossed_lit v l lit) lit ∷ replaced v l came rest) h

-- the next literal of a list gives what it gives alone, before the rest
pub next_crossed : (v : ℕ) (l : Linear) (came : Bool) (lit made : Lit) (rest : List Lit) → (not came && is_equation v lit) ≡ false → occurs v lit ≡ true → tidied (crossed_lit v l lit ∷ []) ≡ Some (one made)
    → tidied (replaced v l came (lit ∷ rest)) ≡ behind (one made) (tidied (replaced v l came rest))
next_crossed v l came lit made rest h has is = ap tidied (crossed_first v l came lit rest h has) ∙ tidied-first (crossed_lit v l lit ∷ []) (replaced v l came rest) (one made) is

pub next_crossed_wide : (v : ℕ) (l : Linear) (came : Bool) (lit : Lit) (rest : List Lit) → (not came && is_equation v lit) ≡ false → occurs v lit ≡ true → tidied (crossed_lit v l lit ∷ []) ≡ None → tidied (replaced v l came (lit ∷ rest)) ≡ None
next_crossed_wide v l came lit rest h has is = ap tidied (crossed_first v l came lit rest h has) ∙ tidied-wide (crossed_lit v l lit ∷ []) (replaced v l came rest) is

pub next_left : (v : ℕ) (l : Linear) (lit made : Lit) (rest : List Lit) → is_equation v lit ≡ true → tidied (left_over v l) ≡ Some (one made) → tidied (replaced v l false (lit ∷ rest)) ≡ behind (one made) (tidied (replaced v l true rest))
next_left v l lit made rest h is = ap tidied (left_first v l lit rest h) ∙ tidied-first (left_over v l) (replaced v l true rest) (one made) is

pub next_left_wide : (v : ℕ) (l : Linear) (lit : Lit) (rest : List Lit) → is_equation v lit ≡ true → tidied (left_over v l) ≡ None → tidied (replaced v l false (lit ∷ rest)) ≡ None
next_left_wide v l lit rest h is = ap tidied (left_first v l lit rest h) ∙ tidied-wide (left_over v l) (replaced v l true rest) is

-- a literal that is as it is
pub narrow_at : (lits : List Lit) (i : ℕ) (d : Lit) → i < length lits → are_narrow lits ≡ true → has_short_numbers (get_or lits i d) ≡ true
narrow_at [] i d h n = absurd (omega arith)
narrow_at (lit ∷ lits) zero d h n = (both_true (has_short_numbers lit) _ n).0
narrow_at (lit ∷ lits) (suc i) d h n = narrow_at lits i d (omega arith) (both_true (has_short_numbers lit) _ n).1

same_rest : (xs ys : List Lit) (i : ℕ) (d : Lit) → i < length xs → i < length ys → drop i xs ≡ drop i ys → get_or xs i d ≡ get_or ys i d
same_rest [] ys i d h g e = absurd (omega arith)
same_rest (x ∷ xs) [] i d h g e = absurd (omega arith)
same_rest (x ∷ xs) (y ∷ ys) zero d h g e = cc
same_rest (x ∷ xs) (y ∷ ys) (suc i) d h g e = same_rest xs ys i d (omega arith) (omega arith) e

one_more : (X : List Lit) (i : ℕ) (d : Lit) → i < length X → filter has_variable (take i X) ++ one (get_or X i d) ≡ filter has_variable (take (i + 1) X)
one_more X i d h = sym (ap (filter has_variable) (take_more X i d h) ∙ filter-append has_variable (take i X) (get_or X i d ∷ []))

pub stay_step : (v : ℕ) (l : Linear) (came : Bool) (whole : Option (List Lit)) (lits old : List Lit) (i : ℕ) (d : Lit) → i < length lits → length lits ≡ length old → drop i lits ≡ drop i old → are_narrow old ≡ true → occurs v (get_or lits i d) ≡ false
    → whole ≡ behind (filter has_variable (take i lits)) (tidied (replaced v l came (drop i lits))) → whole ≡ behind (filter has_variable (take (i + 1) lits)) (tidied (replaced v l came (drop (i + 1) lits)))
stay_step v l came whole lits old i d h size same narrow free told =
    let lit = get_or lits i d in
    let rest = replaced v l came (drop (i + 1) lits) in
    let is : has_short_numbers lit ≡ true = ap has_short_numbers (same_rest lits old i d h (omega (arith, size, h)) same) ∙ narrow_at old i d (omega (arith, size, h)) narrow in
    let here : tidied (replaced v l came (drop i lits)) ≡ behind (one lit) (tidied rest) =
    ap (λ xs. tidied (replaced v l came xs)) (drop_more lits i d h) ∙ ap tidied (stays_first v l came lit (drop (i + 1) lits) free) ∙ tidied-first (lit ∷ []) rest (one lit) (one_narrow lit is) in
    told ∙ ap (behind (filter has_variable (take i lits))) here ∙ behind-more (filter has_variable (take i lits)) (one lit) (tidied rest) ∙ ap (λ xs. behind xs (tidied rest)) (one_more lits i d h)

drop_twice : (i : ℕ) (xs : List Lit) → drop 1 (drop i xs) ≡ drop (suc i) xs
drop_twice zero xs = refl
drop_twice (suc i) [] = refl
drop_twice (suc i) (x ∷ xs) = drop_twice i xs

drop_set_suc : (xs : List Lit) (i : ℕ) (y : Lit) → drop (suc i) (set xs i y) ≡ drop (suc i) xs
drop_set_suc [] zero y = refl
drop_set_suc [] (suc i) y = refl
drop_set_suc (x ∷ xs) zero y = refl
drop_set_suc (x ∷ xs) (suc i) y = drop_set_suc xs i y

pub drop_set_more : (xs : List Lit) (i : ℕ) (y : Lit) → drop (i + 1) (set xs i y) ≡ drop (i + 1) xs
drop_set_more xs i y = ap (λ n. drop n (set xs i y)) (add-one i) ∙ drop_set_suc xs i y ∙ ap (λ n. drop n xs) (sym (add-one i))

pub drop_same : (xs ys : List Lit) (i : ℕ) → drop i xs ≡ drop i ys → drop (i + 1) xs ≡ drop (i + 1) ys
drop_same xs ys i e = ap (λ n. drop n xs) (add-one i) ∙ sym (drop_twice i xs) ∙ ap (drop 1) e ∙ drop_twice i ys ∙ ap (λ n. drop n ys) (sym (add-one i))

set_at : (xs : List Lit) (i : ℕ) (y d : Lit) → i < length xs → get_or (set xs i y) i d ≡ y
set_at [] i y d h = absurd (omega arith)
set_at (x ∷ xs) zero y d h = refl
set_at (x ∷ xs) (suc i) y d h = set_at xs i y d (omega arith)

take_set : (xs : List Lit) (i : ℕ) (y : Lit) → take i (set xs i y) ≡ take i xs
take_set xs i y = take-set xs i y

pub put_step : (v : ℕ) (l : Linear) (came now : Bool) (whole : Option (List Lit)) (lits : List Lit) (i : ℕ) (made d : Lit) → i < length lits
    → tidied (replaced v l came (get_or lits i d ∷ drop (i + 1) lits)) ≡ behind (one made) (tidied (replaced v l now (drop (i + 1) lits)))
    → whole ≡ behind (filter has_variable (take i lits)) (tidied (replaced v l came (drop i lits))) → whole ≡ behind (filter has_variable (take (i + 1) (set lits i made))) (tidied (replaced v l now (drop (i + 1) (set lits i made))))
put_step v l came now whole lits i made d h is told =
    let new = set lits i made in
    let inside : i < length new = omega (arith, length-set {A = Lit}) in
    let front : filter has_variable (take i lits) ++ one made ≡ filter has_variable (take (i + 1) new) =
    ap (λ xs. filter has_variable xs ++ one made) (sym (take_set lits i made)) ∙ ap (λ x. filter has_variable (take i new) ++ one x) (sym (set_at lits i made d h)) ∙ one_more new i d inside in
    let back : drop (i + 1) new ≡ drop (i + 1) lits = drop_set_more lits i made in
    told ∙ ap (λ xs. behind (filter has_variable (take i lits)) (tidied (replaced v l came xs))) (drop_more lits i d h) ∙ ap (behind (filter has_variable (take i lits))) is
    ∙ behind-more (filter has_variable (take i lits)) (one made) (tidied (replaced v l now (drop (i + 1) lits))) ∙ ap (λ xs. behind xs (tidied (replaced v l now (drop (i + 1) lits)))) front
    ∙ ap (λ xs. behind (filter has_variable (take (i + 1) new)) (tidied (replaced v l now xs))) (sym back)

pub wide_step : (v : ℕ) (l : Linear) (came : Bool) (whole : Option (List Lit)) (lits : List Lit) (i : ℕ) (d : Lit) → i < length lits → tidied (replaced v l came (get_or lits i d ∷ drop (i + 1) lits)) ≡ None
    → whole ≡ behind (filter has_variable (take i lits)) (tidied (replaced v l came (drop i lits))) → whole ≡ None
wide_step v l came whole lits i d h is told = told ∙ ap (λ xs. behind (filter has_variable (take i lits)) (tidied (replaced v l came xs))) (drop_more lits i d h) ∙ ap (behind (filter has_variable (take i lits))) is

pub end_step : (v : ℕ) (l : Linear) (came : Bool) (whole : Option (List Lit)) (lits : List Lit) (i : ℕ) → length lits ≤ i → whole ≡ behind (filter has_variable (take i lits)) (tidied (replaced v l came (drop i lits))) → whole ≡ Some (filter has_variable lits)
end_step v l came whole lits i h told =
    told ∙ ap (λ xs. behind (filter has_variable (take i lits)) (tidied (replaced v l came xs))) (drop_all i lits h) ∙ ap Some (append-nil (filter has_variable (take i lits)) ∙ ap (filter has_variable) (take_all i lits h))

-- a list that is gone through by itself
pub tidied-skip : (lits made : List Lit) (whole : Option (List Lit)) (i : ℕ) (d : Lit) → i < length lits → has_variable (get_or lits i d) ≡ false → whole ≡ behind made (tidied (drop i lits)) → whole ≡ behind made (tidied (drop (i + 1) lits))
tidied-skip lits made whole i d h free told =
    let lit = get_or lits i d in
    told ∙ ap (λ xs. behind made (tidied xs)) (drop_more lits i d h) ∙ ap (λ b. behind made (unless_wide (cond b (lit ∷ filter has_variable (drop (i + 1) lits)) (filter has_variable (drop (i + 1) lits))))) free

pub tidied-push : (lits made new : List Lit) (whole : Option (List Lit)) (i : ℕ) (d : Lit) → i < length lits → has_variable (get_or lits i d) ≡ true → has_short_numbers (get_or lits i d) ≡ true → new ≡ made ++ get_or lits i d ∷ [] → whole ≡ behind made (tidied (drop i lits)) → whole ≡ behind new (tidied (drop (i + 1) lits))
tidied-push lits made new whole i d h has is e told =
    let lit = get_or lits i d in
    let rest = drop (i + 1) lits in
    let single : one lit ≡ lit ∷ [] = ap (λ b. cond b (lit ∷ []) []) has in
    told ∙ ap (λ xs. behind made (tidied xs)) (drop_more lits i d h) ∙ ap (behind made) (tidied-first (lit ∷ []) rest (one lit) (one_kept lit has is)) ∙ behind-more made (one lit) (tidied rest)
    ∙ ap (λ xs. behind (made ++ xs) (tidied rest)) single ∙ ap (λ xs. behind xs (tidied rest)) (sym e)

pub tidied-stop : (lits made : List Lit) (whole : Option (List Lit)) (i : ℕ) (d : Lit) → i < length lits → has_variable (get_or lits i d) ≡ true → has_short_numbers (get_or lits i d) ≡ false → whole ≡ behind made (tidied (drop i lits)) → whole ≡ None
tidied-stop lits made whole i d h has is told =
    told ∙ ap (λ xs. behind made (tidied xs)) (drop_more lits i d h) ∙ ap (behind made) (tidied-wide (get_or lits i d ∷ []) (drop (i + 1) lits) (one_wide (get_or lits i d) has is))

pub tidied-end : (lits made : List Lit) (whole : Option (List Lit)) (i : ℕ) → length lits ≤ i → whole ≡ behind made (tidied (drop i lits)) → whole ≡ Some made
tidied-end lits made whole i h told = told ∙ ap (λ xs. behind made (tidied xs)) (drop_all i lits h) ∙ ap Some (append-nil made)

-- an equation before the literals
first_here : (v : ℕ) (e : Linear) (lits : List Lit) → lin_has v e ≡ true → solved v (Eq e ∷ lits) ≡ left_over v (upright v e) ++ replaced v (upright v e) true lits
first_here v e lits has =
    ap (λ o. by_equation v o (Eq e ∷ lits)) (ap (λ b. cond b (Some e) (equation_in v lits)) has) ∙ left_first v (upright v e) (Eq e) lits has

pub put_before_is : (v : ℕ) (e : Linear) (lits new : List Lit) (left : Lit) → lin_has v e ≡ true → has_short_numbers (Eq e) ≡ true → tidied (left_over v (upright v e)) ≡ Some (one left) → tidied (replaced v (upright v e) true lits) ≡ Some new → put_before v e lits ≡ Some (one left ++ new)
put_before_is v e lits new left has n first rest =
    ap (λ b. cond b (tidied (solved v (Eq e ∷ lits))) None) n ∙ ap tidied (first_here v e lits has) ∙ tidied-first (left_over v (upright v e)) (replaced v (upright v e) true lits) (one left) first ∙ ap (behind (one left)) rest

pub put_before_wide : (v : ℕ) (e : Linear) (lits : List Lit) → has_short_numbers (Eq e) ≡ false → put_before v e lits ≡ None
put_before_wide v e lits n = ap (λ b. cond b (tidied (solved v (Eq e ∷ lits))) None) n

both_ways : (b : Bool) (o : Option (List Lit)) → o ≡ None → cond b o None ≡ None
both_ways true o h = h
both_ways false o h = refl

pub put_before_left : (v : ℕ) (e : Linear) (lits : List Lit) → lin_has v e ≡ true → tidied (left_over v (upright v e)) ≡ None → put_before v e lits ≡ None
put_before_left v e lits has first = both_ways (has_short_numbers (Eq e)) (tidied (solved v (Eq e ∷ lits))) (ap tidied (first_here v e lits has) ∙ tidied-wide (left_over v (upright v e)) (replaced v (upright v e) true lits) first)

behind_none : (b : Bool) (X Y : List Lit) → cond b (Some Y) None ≡ None → (c : Bool) → cond (c && b) (Some (X ++ Y)) None ≡ None
behind_none true X Y h c = absurd (cc)
behind_none false X Y h true = refl
behind_none false X Y h false = refl

pub tidied-rest_wide : (xs ys : List Lit) → tidied ys ≡ None → tidied (xs ++ ys) ≡ None
tidied-rest_wide xs ys h = joined xs ys ∙ behind_none (list_all has_short_numbers (filter has_variable ys)) (filter has_variable xs) (filter has_variable ys) h (list_all has_short_numbers (filter has_variable xs))

pub put_before_rest : (v : ℕ) (e : Linear) (lits : List Lit) → lin_has v e ≡ true → tidied (replaced v (upright v e) true lits) ≡ None → put_before v e lits ≡ None
put_before_rest v e lits has rest = both_ways (has_short_numbers (Eq e)) (tidied (solved v (Eq e ∷ lits))) (ap tidied (first_here v e lits has) ∙ tidied-rest_wide (left_over v (upright v e)) (replaced v (upright v e) true lits) rest)

pub put_before_from : (v : ℕ) (e l : Linear) (lits new out : List Lit) (left : Lit) → l ≡ upright v e → lin_has v e ≡ true → has_short_numbers (Eq e) ≡ true → tidied (left_over v l) ≡ Some (one left) → tidied (replaced v l true lits) ≡ Some new → out ≡ one left ++ new → put_before v e lits ≡ Some out
put_before_from v e l lits new out left is has n first rest joined_is =
    put_before_is v e lits new left has n (ap (λ m. tidied (left_over v m)) (sym is) ∙ first) (ap (λ m. tidied (replaced v m true lits)) (sym is) ∙ rest) ∙ ap Some (sym joined_is)

-- what holds of all literals holds of those that are left
kept_true : (test : Lit → Bool) (X us : List Lit) (b : Bool) → list_all test X ≡ true → cond b (Some X) None ≡ Some us → list_all test us ≡ true
kept_true test X us true h e = let same : X ≡ us = cc in ap (list_all test) (sym same) ∙ h
kept_true test X us false h e = absurd (cc)

pub tidied-all : (test : Lit → Bool) (lits us : List Lit) → list_all test lits ≡ true → tidied lits ≡ Some us → list_all test us ≡ true
tidied-all test lits us h e = kept_true test (filter has_variable lits) us (list_all has_short_numbers (filter has_variable lits)) (filter_all test lits h) e
