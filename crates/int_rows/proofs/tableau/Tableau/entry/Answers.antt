use Rattle.std.proofs.Common.{◌≡◌, ◌<◌, ◌+◌, arith, ap, sym, ◌∙◌, subst, rules, ℕ, List, Vec, Global, get_or, length, map, [], FitsSigned}
use Rattle.std.specs.Prelude.{ℤ, pos}
use Rattle.std.specs.Int.{w64}
use Rattle.std.proofs.lemmas.Int.{to_z-of_z}
use Rattle.std.specs.Vec.{vec_len}
use Rattle.std.proofs.lemmas.List.{length-map, get_or_default, get_or-map}
use Rattle.int_rows.specs.Table.{Table, row_at, width}
use Rattle.int_rows.specs.Rows.{entry}
use Rattle.int_rows.proofs.tableau.Tableau.entry.Goals as goal

-- a row as it is read
line-is : (rows : List (Vec ℤ Global)) (i : ℕ) (row : Vec ℤ Global) → i < length (map (λ r. r.items) rows) → row ≡ get_or rows i row → row_at (map (λ r. r.items) rows) i ≡ row.items
line-is rows i row h at =
    let inside : i < length rows = subst (λ n. i < n) (length-map rows (λ r. r.items)) h in
    get_or-map (λ r. r.items) rows i row [] inside ∙ ap (λ (r : Vec ℤ Global). r.items) (sym at)

pub index-requires-2 : goal.index-requires-2
index-requires-2 c =
    let rows = c.self.inside.rows.items in
    let view = map (λ r. r.items) rows in
    let same : view ≡ c.args.self.now.rows = ap (λ (t : Table). t.rows) c.self.view_is in
    let variables : c.self.inside.variables ≡ c.args.self.now.variables = ap (λ (t : Table). t.variables) c.self.view_is in
    let here : c.args.row < length view = subst (λ (rs : List (List ℤ)). c.args.row < length rs) (sym same) c.requires.row in
    let inside : c.args.row < length rows = omega (arith, here, length-map rows (λ r. r.items)) in
    let solved = c.self.invariant.solved c.args.row here in
    let line : row_at view c.args.row ≡ c.index.result.now.items = get_or-map (λ r. r.items) rows c.args.row c.index.result.now [] inside ∙ ap (λ r. r.items) (sym c.index.ensures) in
    let long : length c.index.result.now.items ≡ c.self.inside.variables + length view = ap length (sym line) ∙ solved.width in
    let wide : length c.args.self.now.rows ≡ length view = ap length (sym same) in
    let given : c.args.variable < c.args.self.now.variables + length c.args.self.now.rows = c.requires.variable in
    let len : vec_len c.index.result.now ≡ length c.index.result.now.items = c.index.result.now.ok.0 in
    omega (arith, long, wide, given, variables, len)

pub returns : goal.returns
returns c =
    let rows = c.self.inside.rows.items in
    let view = map (λ r. r.items) rows in
    let row = c.index.result.now.items in
    let found = c.index-2.result.now in
    let found_fits : FitsSigned w64 found = search rules in
    let same : view ≡ c.args.self.now.rows = ap (λ (t : Table). t.rows) c.self.view_is in
    let here : c.args.row < length view = subst (λ (rs : List (List ℤ)). c.args.row < length rs) (sym same) c.requires.row in
    let line : row_at view c.args.row ≡ row = line-is rows c.args.row c.index.result.now here c.index.ensures in
    let long : length row ≡ width c.args.self.now = ap length (sym line) ∙ (c.self.invariant.solved c.args.row here).width ∙ ap width c.self.view_is in
    let inside : c.args.variable < length row = subst (λ n. c.args.variable < n) (sym long) c.requires.variable in
    simp to_z-of_z (c.index-2.ensures ∙ get_or_default row c.args.variable found (pos 0) inside ∙ ap (λ r. entry r c.args.variable) (sym line) ∙ ap (λ (rs : List (List ℤ)). entry (row_at rs c.args.row) c.args.variable) same)
