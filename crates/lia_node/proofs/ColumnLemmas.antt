-- The bounds of all columns, and the tableau that has them.
use Rattle.std.proofs.Common.{◌≡◌, ℕ, suc, zero, List, [], ◌∷◌, ◌++◌, refl, ap, sym, ◌∙◌, arith, ◌<◌, ◌+◌, true, Bool, length, map, take, drop, set, get_or, append_assoc}
use Rattle.std.specs.Prelude.{ℤ, Option}
use Rattle.std.specs.List.{list_all, range_with_len}
use Rattle.std.proofs.lemmas.List.{drop_more, length-append, length-map, length-take-le, map-append, map_more, set_at}
use Rattle.std.proofs.lemmas.List.FromFn.{length-range_with_len}
use Rattle.lin_atoms.proofs.Public.{both_true}
use Rattle.int_rows.specs.Node.{equations, greatest_lower, in_rows, least_upper, system_of}
use Rattle.int_rows.specs.Table.{Table, first_table, width}
use Rattle.int_rows.proofs.Public.{length-equations}
use Rattle.lia_node.specs.Nodes.{table_of}
use Rattle.lin_atoms.specs.Linear.{Linear}
use Rattle.int_rows.specs.declared.bounds.Bounded.{Bounded}
use Rattle.lia_node.specs.machinery.Columns.{all_sides, first_of, second_of, sides_of, sides_on}

map-map : {X Y Z : Type 0} (f : Y → Z) (g : X → Y) (xs : List X) → map f (map g xs) ≡ map (λ x. f (g x)) xs
map-map f g [] = refl
map-map f g (x ∷ xs) = ap (λ zs. f (g x) ∷ zs) (map-map f g xs)

pub lowers : (n : ℕ) (bs : List Bounded) → map first_of (all_sides n bs) ≡ map (greatest_lower bs) (range_with_len 0 n) ++ map (λ b. b.lower) (in_rows bs)
lowers n bs =
    map-append first_of (map (sides_on bs) (range_with_len 0 n)) (map sides_of (in_rows bs))
    ∙ ap (λ (ls : List (Option ℤ)). ls ++ map first_of (map sides_of (in_rows bs))) (map-map first_of (sides_on bs) (range_with_len 0 n))
    ∙ ap (λ (ls : List (Option ℤ)). map (greatest_lower bs) (range_with_len 0 n) ++ ls) (map-map first_of sides_of (in_rows bs))

pub uppers : (n : ℕ) (bs : List Bounded) → map second_of (all_sides n bs) ≡ map (least_upper bs) (range_with_len 0 n) ++ map (λ b. b.upper) (in_rows bs)
uppers n bs =
    map-append second_of (map (sides_on bs) (range_with_len 0 n)) (map sides_of (in_rows bs))
    ∙ ap (λ (ls : List (Option ℤ)). ls ++ map second_of (map sides_of (in_rows bs))) (map-map second_of (sides_on bs) (range_with_len 0 n))
    ∙ ap (λ (ls : List (Option ℤ)). map (least_upper bs) (range_with_len 0 n) ++ ls) (map-map second_of sides_of (in_rows bs))

pub length-sides : (n : ℕ) (bs : List Bounded) → length (all_sides n bs) ≡ n + length (in_rows bs)
length-sides n bs =
    let both = length-append (map (sides_on bs) (range_with_len 0 n)) (map sides_of (in_rows bs)) in
    let first = length-map (range_with_len 0 n) (sides_on bs) ∙ length-range_with_len 0 n in
    let last = length-map (in_rows bs) sides_of in
    omega (arith, both, first, last)

-- one column more has its bound
pub set-more : {X : Type 0} (f : X → Option ℤ) (sides : List X) (old now new : List (Option ℤ)) (i : ℕ) (d : X) (value : Option ℤ) → i < length sides → length old ≡ length sides → now ≡ map f (take i sides) ++ drop i old → value ≡ f (get_or sides i d)
    → new ≡ set now i value → new ≡ map f (take (i + 1) sides) ++ drop (i + 1) old
set-more f sides old now new i d value h same is put said =
    let front = map f (take i sides) in
    let long : length front ≡ i = length-map (take i sides) f ∙ length-take-le i sides (omega arith) in
    let rest : drop i old ≡ get_or old i value ∷ drop (i + 1) old = drop_more old i value (omega (arith, h, same)) in
    said ∙ ap (λ (l : List (Option ℤ)). set l i value) is ∙ ap (λ (l : List (Option ℤ)). set (front ++ l) i value) rest
    ∙ set_at front (get_or old i value) (drop (i + 1) old) value i long
    ∙ sym (append_assoc front (value ∷ []) (drop (i + 1) old))
    ∙ ap (λ (l : List (Option ℤ)). l ++ drop (i + 1) old) (ap (λ (v : Option ℤ). front ++ v ∷ []) put ∙ sym (map_more f sides i d h))

pub all-at : {X : Type 0} (p : X → Bool) (xs : List X) (i : ℕ) (d : X) → i < length xs → list_all p xs ≡ true → p (get_or xs i d) ≡ true
all-at p [] i d h all = absurd (omega arith)
all-at p (x ∷ xs) zero d h all = (both_true (p x) _ all).0
all-at p (x ∷ xs) (suc i) d h all = all-at p xs i d (omega arith) (both_true (p x) _ all).1

-- the first tableau, with all bounds
pub with-bounds : (n : ℕ) (bs : List Bounded) (lins : List Linear) (sides : List (Option ℤ × Option ℤ)) → lins ≡ map (λ b. b.form) (in_rows bs) → sides ≡ all_sides n bs
    → record (first_table n lins) { lower = map first_of sides; upper = map second_of sides } ≡ table_of (system_of n bs)
with-bounds n bs lins sides forms all =
    let rows = map (λ (b : Bounded). b.form) (in_rows bs) in
    let count : length rows ≡ length (in_rows bs) = length-map (in_rows bs) (λ (b : Bounded). b.form) in
    let made : ℕ → List ℕ → List (Option ℤ) → List (Option ℤ) → Table = λ k basic ls us. record { variables = n; rows = equations (n + k) n rows; basic = basic; lower = ls; upper = us } in
    ap (λ (ls : List Linear). record (first_table n ls) { lower = map first_of sides; upper = map second_of sides }) forms
    ∙ ap (λ (ss : List (Option ℤ × Option ℤ)). record (first_table n rows) { lower = map first_of ss; upper = map second_of ss }) all
    ∙ ap (λ (k : ℕ). made k (range_with_len n (length rows)) (map first_of (all_sides n bs)) (map second_of (all_sides n bs))) count
    ∙ ap (λ (k : ℕ). made (length (in_rows bs)) (range_with_len n k) (map first_of (all_sides n bs)) (map second_of (all_sides n bs))) (sym (length-equations (n + length (in_rows bs)) n rows))
    ∙ ap (λ (ls : List (Option ℤ)). made (length (in_rows bs)) (range_with_len n (length (equations (n + length (in_rows bs)) n rows))) ls (map second_of (all_sides n bs))) (lowers n bs)
    ∙ ap (λ (us : List (Option ℤ)). made (length (in_rows bs)) (range_with_len n (length (equations (n + length (in_rows bs)) n rows))) (map (greatest_lower bs) (range_with_len 0 n) ++ map (λ b. b.lower) (in_rows bs)) us) (uppers n bs)

pub length-system : (n : ℕ) (bs : List Bounded) → length (system_of n bs).equations ≡ length (in_rows bs)
length-system n bs = length-equations (n + length (in_rows bs)) n (map (λ (b : Bounded). b.form) (in_rows bs)) ∙ length-map (in_rows bs) (λ (b : Bounded). b.form)

-- each column of the first tableau has its bounds
pub each-side : (n : ℕ) (bs : List Bounded) (lins : List Linear) (sides : List (Option ℤ × Option ℤ)) (t : Table) → lins ≡ map (λ b. b.form) (in_rows bs) → sides ≡ all_sides n bs → t ≡ first_table n lins → length sides ≡ width t
each-side n bs lins sides t forms all is =
    let count = ap length forms ∙ length-map (in_rows bs) (λ (b : Bounded). b.form) in
    let rows = ap (λ (u : Table). width u) is in
    let made = length-equations (n + length lins) n lins in
    let wide = ap length all ∙ length-sides n bs in
    omega (arith, count, rows, made, wide)
