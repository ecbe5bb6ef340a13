use Rattle.std.proofs.Common.{◌≡◌, ◌<◌, ◌++◌, ap, sym, ◌∙◌, refl, subst, List, ℕ, length, map, set, take, drop, true, Vec, Global}
use Rattle.std.specs.Prelude.{ℤ, pos}
use Rattle.std.specs.List.{list_all}
use Rattle.std.proofs.lemmas.List.{length-map}
use Rattle.int_rows.specs.Rows.{are_short, entry}
use Rattle.int_rows.specs.Space.{SameSpace}
use Rattle.int_rows.specs.Table.{CanPivot, HasWide, IsTable, Table, pivoted, row_at, width}
use Rattle.int_rows.specs.declared.tableau.Tableau.TheInside.{Inside}
use Rattle.int_rows.proofs.BasisLemmas.{pivoted-wide}
use Rattle.int_rows.proofs.PivotedLemmas.{length-pivoted, pivoted-table, refilled, table-pivots}
use Rattle.int_rows.proofs.SpaceLemmas.{pivoted-same, same-reflexive}
use Rattle.int_rows.proofs.tableau.Tableau.pivot.Goals as goal

abbrev lines : List (Vec ℤ Global) → List (List ℤ)
lines rows = map (λ r. r.items) rows

-- the tableau that the fields are
abbrev table : Inside → Table
table t = record { variables = t.variables; rows = lines t.rows.items; basic = t.basic.items; lower = t.lower.items; upper = t.upper.items }

can : (t : Inside) (self : Table) (row column : ℕ) → table t ≡ self → IsTable (table t) → row < length self.rows → column < width self → (entry (row_at self.rows row) column ≡ pos 0 → ⊥) → CanPivot row column (lines t.rows.items)
can t self row column is legal h there factor =
    table-pivots (table t) row column legal
    (subst (λ (s : Table). row < length s.rows) (sym is) h)
    (subst (λ (s : Table). column < width s) (sym is) there)
    (subst (λ (s : Table). entry (row_at s.rows row) column ≡ pos 0 → ⊥) (sym is) factor)

pub first_wide-requires : goal.first_wide-requires
first_wide-requires c =
    record { can = subst (λ (rs : List (Vec ℤ Global)). CanPivot c.args.row c.args.column (lines rs)) (sym c.as_slice.ensures.value) (can c.self.inside c.args.self.now c.args.row c.args.column c.self.view_is c.self.invariant c.requires.row c.requires.column c.requires.entry) }

pub pivot_rows-requires-clause-can : goal.pivot_rows-requires-clause-can
pivot_rows-requires-clause-can c =
    subst (λ (rs : List (Vec ℤ Global)). CanPivot c.args.row c.args.column (lines rs)) (sym c.as_mut_slice.ensures.value) (can c.self.inside c.args.self.now c.args.row c.args.column c.self.view_is c.self.invariant c.requires.row c.requires.column c.requires.entry)

-- the rows that are put in place of the old ones
news_are : (t : Inside) (row column : ℕ) (news : List (Vec ℤ Global)) → lines news ≡ pivoted row column (lines t.rows.items) → lines (take t.rows.len (news ++ drop (length news) t.rows.items)) ≡ pivoted row column (lines t.rows.items)
news_are t row column news rows =
    let whole : length t.rows.items ≡ t.rows.len = sym t.rows.ok.0 in
    let long : length news ≡ t.rows.len = sym (length-map news (λ r. r.items)) ∙ ap length rows ∙ length-pivoted row column (lines t.rows.items) ∙ length-map t.rows.items (λ r. r.items) ∙ whole in
    ap lines (refilled t.rows.len news t.rows.items long whole) ∙ rows

made : (t : Inside) (self : Table) (row column : ℕ) (news : List (Vec ℤ Global)) → table t ≡ self → IsTable (table t) → row < length self.rows → column < width self → (entry (row_at self.rows row) column ≡ pos 0 → ⊥)
    → list_all are_short (pivoted row column (lines t.rows.items)) ≡ true → lines news ≡ pivoted row column (lines t.rows.items)
    → IsTable (record { variables = t.variables; rows = lines (take t.rows.len (news ++ drop (length news) t.rows.items)); basic = set t.basic.items row column; lower = t.lower.items; upper = t.upper.items })
made t self row column news is legal h there factor room rows =
    subst (λ (rs : List (List ℤ)). IsTable (record { variables = t.variables; rows = rs; basic = set t.basic.items row column; lower = t.lower.items; upper = t.upper.items })) (sym (news_are t row column news rows))
    (pivoted-table (table t) row column legal
    (subst (λ (s : Table). row < length s.rows) (sym is) h)
    (subst (λ (s : Table). column < width s) (sym is) there)
    (subst (λ (s : Table). entry (row_at s.rows row) column ≡ pos 0 → ⊥) (sym is) factor)
    room)

pub invariant_of-self : goal.invariant_of-self
invariant_of-self c =
    let room = ap (λ (rs : List (Vec ℤ Global)). list_all are_short (pivoted c.args.row c.args.column (lines rs))) (sym c.as_slice.ensures.value) ∙ c.in_default.ensures.none refl in
    let rows = c.pivot_rows.ensures ∙ ap (λ (rs : List (Vec ℤ Global)). pivoted c.args.row c.args.column (lines rs)) c.as_mut_slice.ensures.value in
    made c.self.inside c.args.self.now c.args.row c.args.column c.pivot_rows.new.rows c.self.view_is c.self.invariant c.requires.row c.requires.column c.requires.entry room rows

-- the wide entry that was found
wide-found : (t : Inside) (self : Table) (row column : ℕ) (rows : List (Vec ℤ Global)) (i : ℕ) (wide : ℤ) → table t ≡ self → rows ≡ t.rows.items → HasWide (pivoted row column (lines rows)) i wide → HasWide (pivoted row column self.rows) i wide
wide-found t self row column rows i wide is read has =
    let same : lines rows ≡ self.rows = ap lines read ∙ ap (λ (s : Table). s.rows) is in
    subst (λ (rs : List (List ℤ)). HasWide (pivoted row column rs) i wide) same has

pub returns-in-Some-clause-wide : goal.returns-in-Some-clause-wide
returns-in-Some-clause-wide c = wide-found c.self.inside c.args.self.now c.args.row c.args.column c.as_slice.result.now c.in-Some.wide.row c.in-Some.wide.entry c.self.view_is c.as_slice.ensures.value c.in-Some.ensures.some

pub returns-in-Some-clause-evidence : goal.returns-in-Some-clause-evidence
returns-in-Some-clause-evidence c =
    let self : Table = c.args.self.now in
    let has : HasWide (pivoted c.args.row c.args.column self.rows) c.in-Some.wide.row c.in-Some.wide.entry =
    wide-found c.self.inside self c.args.row c.args.column c.as_slice.result.now c.in-Some.wide.row c.in-Some.wide.entry c.self.view_is c.as_slice.ensures.value c.in-Some.ensures.some in
    pivoted-wide self (subst IsTable c.self.view_is c.self.invariant) c.args.row c.args.column c.in-Some.wide.row c.in-Some.wide.entry c.requires.row c.requires.column c.requires.entry has

pub returns-in-Some-clause-space : goal.returns-in-Some-clause-space
returns-in-Some-clause-space c = same-reflexive c.args.self.now.rows

pub returns-clause-space : goal.returns-clause-space
returns-clause-space c =
    let self : Table = c.args.self.now in
    let t = c.self.inside in
    let news = c.pivot_rows.new.rows in
    let rows = c.pivot_rows.ensures ∙ ap (λ (rs : List (Vec ℤ Global)). pivoted c.args.row c.args.column (lines rs)) c.as_mut_slice.ensures.value in
    let is : lines (take t.rows.len (news ++ drop (length news) t.rows.items)) ≡ pivoted c.args.row c.args.column self.rows =
    news_are t c.args.row c.args.column news rows ∙ ap (λ (s : Table). pivoted c.args.row c.args.column s.rows) c.self.view_is in
    let can_pivot = table-pivots self c.args.row c.args.column (subst IsTable c.self.view_is c.self.invariant) c.requires.row c.requires.column c.requires.entry in
    subst (SameSpace self.rows) (sym is) (pivoted-same c.args.row c.args.column self.rows can_pivot c.requires.entry)
