-- What the loops take, step by step.
use Rattle.std.proofs.Common.{◌≡◌, ℕ, suc, ◌+◌, ◌*◌, ◌<◌, List, [], ◌∷◌, ◌++◌, length, drop, get_or, refl, ap, sym, ◌∙◌, arith, append_assoc, append-nil, true, false, Bool, cond}
use Rattle.std.specs.Prelude.{ℤ}
use Rattle.std.specs.List.{flat_map, range_with_len}
use Rattle.std.proofs.lemmas.Grind.{flat_map-append}
use Rattle.std.proofs.lemmas.List.{drop_more}
use Rattle.std.proofs.lemmas.Option.{get_or_from_slice_get}
use Rattle.lin_atoms.specs.Linear.{of_constant}
use Rattle.std.specs.Prelude.{pos}
use Rattle.lin_atoms.specs.declared.lit.Lit.{Lit}
use Rattle.lin_atoms.specs.declared.lit.Lit.TheVariants.{Le}
use Rattle.int_rows.specs.Node.{bounds_of, in_rows}
use Rattle.int_rows.specs.declared.bounds.Bounded.{Bounded}
use Rattle.int_rows.specs.declared.bounds.Ready.{Ready}
use Rattle.int_rows.specs.declared.bounds.Ready.TheVariants.{Truth, Bounds}
use Rattle.int_rows.proofs.Public.{range-more}
use Rattle.simplex_core.specs.Meaning.{of_lower, of_upper}
use Rattle.lia_close.specs.declared.leaf.Rounding.{Rounding}
use Rattle.lia_close.specs.declared.side.Side.TheVariants.{Lower, Upper}
use Rattle.lia_close.specs.declared.side.Taken.{Taken}
use Rattle.lia_close.specs.machinery.Closing.{IsOf, taken_into, with_taken}
use Rattle.lia_close.specs.machinery.Taken.{ready_has_row, rows_of, slacks_from, taken_by}

-- one number more
pub flat-range : (f : ℕ → List Taken) (n : ℕ) → flat_map f (range_with_len 0 (n + 1)) ≡ flat_map f (range_with_len 0 n) ++ f n
flat-range f n =
    ap (λ (ks : List ℕ). flat_map f ks) (range-more 0 n) ∙ flat_map-append f (range_with_len 0 n) ((0 + n) ∷ [])
    ∙ ap (λ (ts : List Taken). flat_map f (range_with_len 0 n) ++ ts) (append-nil (f (0 + n)) ∙ ap f (let same : 0 + n ≡ n = omega arith in same))

-- the first literal's row, and what is taken of its slack
rows-first : (r : Ready) (rest : List Ready) (b : Bool) → ready_has_row r ≡ b → rows_of (r ∷ rest) ≡ cond b (suc (rows_of rest)) (rows_of rest)
rows-first (Truth t) rest true e = absurd (cc)
rows-first (Truth t) rest false e = refl
rows-first (Bounds c) rest true e = ap (λ (h : Bool). length (cond {A = List Bounded} h (c ∷ in_rows (flat_map bounds_of rest)) (in_rows (flat_map bounds_of rest)))) e
rows-first (Bounds c) rest false e = ap (λ (h : Bool). length (cond {A = List Bounded} h (c ∷ in_rows (flat_map bounds_of rest)) (in_rows (flat_map bounds_of rest)))) e

slacks-first : (ms : List ℤ) (at column : ℕ) (r : Ready) (rest : List Ready) (b : Bool) → ready_has_row r ≡ b
    → slacks_from ms at column (r ∷ rest) ≡ cond b (taken_by at Lower (of_lower ms column) ++ (taken_by at Upper (of_upper ms column) ++ slacks_from ms (at + 1) (column + 1) rest)) (slacks_from ms (at + 1) column rest)
slacks-first ms at column r rest b e = ap (λ (h : Bool). cond {A = List Taken} h (taken_by at Lower (of_lower ms column) ++ (taken_by at Upper (of_upper ms column) ++ slacks_from ms (at + 1) (column + 1) rest)) (slacks_from ms (at + 1) column rest)) e

pub row-left : (readied : List Ready) (at : ℕ) (d : Ready) (long column : ℕ) → at < length readied → long ≡ 2 * (column + rows_of (drop at readied)) → ready_has_row (get_or readied at d) ≡ true → 2 * column + 1 < long
row-left readied at d long column less each e =
    let first = ap rows_of (drop_more readied at d less) ∙ rows-first (get_or readied at d) (drop (at + 1) readied) true e in
    omega (arith, each, first)

pub rows-kept : (readied : List Ready) (at : ℕ) (d : Ready) (long column next : ℕ) (b : Bool) → at < length readied → long ≡ 2 * (column + rows_of (drop at readied)) → ready_has_row (get_or readied at d) ≡ b → next ≡ cond b (column + 1) column → long ≡ 2 * (next + rows_of (drop (at + 1) readied))
rows-kept readied at d long column next true less each e n =
    let first = ap rows_of (drop_more readied at d less) ∙ rows-first (get_or readied at d) (drop (at + 1) readied) true e in
    omega (arith, each, first, n)
rows-kept readied at d long column next false less each e n =
    let first = ap rows_of (drop_more readied at d less) ∙ rows-first (get_or readied at d) (drop (at + 1) readied) false e in
    omega (arith, each, first, n)

pub slacks-kept : (old new all : List Taken) (ms : List ℤ) (at column next : ℕ) (readied : List Ready) (d : Ready) (b : Bool) → at < length readied → ready_has_row (get_or readied at d) ≡ b → old ++ slacks_from ms at column (drop at readied) ≡ all
    → new ≡ old ++ cond b (taken_by at Lower (of_lower ms column) ++ taken_by at Upper (of_upper ms column)) [] → next ≡ cond b (column + 1) column → new ++ slacks_from ms (at + 1) next (drop (at + 1) readied) ≡ all
slacks-kept old new all ms at column next readied d true less e is more n =
    let low = taken_by at Lower (of_lower ms column) in
    let up = taken_by at Upper (of_upper ms column) in
    let rest = slacks_from ms (at + 1) (column + 1) (drop (at + 1) readied) in
    ap (λ (k : ℕ). new ++ slacks_from ms (at + 1) k (drop (at + 1) readied)) n ∙ ap (λ (ts : List Taken). ts ++ rest) more ∙ append_assoc old (low ++ up) rest ∙ ap (λ (ts : List Taken). old ++ ts) (append_assoc low up rest)
    ∙ sym (ap (λ (ts : List Taken). old ++ ts) (ap (λ (rs : List Ready). slacks_from ms at column rs) (drop_more readied at d less) ∙ slacks-first ms at column (get_or readied at d) (drop (at + 1) readied) true e)) ∙ is
slacks-kept old new all ms at column next readied d false less e is more n =
    let rest = slacks_from ms (at + 1) column (drop (at + 1) readied) in
    ap (λ (k : ℕ). new ++ slacks_from ms (at + 1) k (drop (at + 1) readied)) n ∙ ap (λ (ts : List Taken). ts ++ rest) (more ∙ append-nil old)
    ∙ sym (ap (λ (ts : List Taken). old ++ ts) (ap (λ (rs : List Ready). slacks_from ms at column rs) (drop_more readied at d less) ∙ slacks-first ms at column (get_or readied at d) (drop (at + 1) readied) false e)) ∙ is

-- the leaf with the next bound
pub leaf-next : (lits : List Lit) (reasons : List ℕ) (known : ℕ) (takens : List Taken) (i : ℕ) (d : Taken) (lit : Lit) (leaf new all : List Rounding × List (ℕ × ℤ)) → i < length takens → IsOf lits (get_or takens i d) → lit ≡ get_or lits (get_or takens i d).literal lit
    → new ≡ with_taken lit (get_or takens i d).side (get_or reasons (get_or takens i d).literal 0) known (get_or takens i d).times leaf → taken_into lits reasons known (drop i takens) leaf ≡ all → taken_into lits reasons known (drop (i + 1) takens) new ≡ all
leaf-next lits reasons known takens i d lit leaf new all less of there is so =
    let one = get_or takens i d in
    let none = Le (of_constant (pos 0)) in
    let same : lit ≡ get_or lits one.literal none = there ∙ get_or_from_slice_get lits one.literal of.lit lit of.there ∙ sym (get_or_from_slice_get lits one.literal of.lit none of.there) in
    ap (λ (l : List Rounding × List (ℕ × ℤ)). taken_into lits reasons known (drop (i + 1) takens) l) (is ∙ ap (λ (l : Lit). with_taken l one.side (get_or reasons one.literal 0) known one.times leaf) same)
    ∙ sym (ap (λ (ts : List Taken). taken_into lits reasons known ts leaf) (drop_more takens i d less)) ∙ so
