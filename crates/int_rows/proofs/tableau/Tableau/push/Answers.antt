use Rattle.std.proofs.Common.{◌≡◌, ◌<◌, ◌+◌, ◌++◌, ◌∷◌, [], ◌≤◌, arith, ap, sym, refl, ◌∙◌, subst, List, ℕ, Bool, true, false, length, map, Vec, Global, Result, Ok, Err}
use Rattle.std.specs.Prelude.{ℤ, None, Option, ◌↔◌}
use Rattle.std.proofs.lemmas.Bool.{false≢true}
use Rattle.std.proofs.lemmas.Result.{err_from_is_err_and}
use Rattle.std.proofs.lemmas.List.{length-map}
use Rattle.lin_atoms.specs.Linear.{Linear}
use Rattle.int_rows.specs.Node.{equation}
use Rattle.int_rows.specs.Pushed.{HasRoom, IsFirstWide, freed, next_equation, pushed, widened}
use Rattle.int_rows.specs.Space.{SameSpace}
use Rattle.int_rows.specs.Table.{IsTable, Table, width}
use Rattle.int_rows.specs.declared.stop.PushStop.{PushStop}
use Rattle.int_rows.specs.declared.stop.PushStop.TheVariants.{Memory, TooMany, Wide}
use Rattle.int_rows.specs.declared.tableau.Tableau.TheInside.{Inside}
use Rattle.int_rows.specs.machinery.Freeing.{CanFree}
use Rattle.int_rows.proofs.MadeLemmas.{no-refusal}
use Rattle.int_rows.proofs.PushedLemmas.{push-can, pushed-same, pushed-table, pushed-wide}
use Rattle.int_rows.proofs.WritingLemmas.{below-more}
use Rattle.int_rows.proofs.tableau.Tableau.push.Goals as goal

abbrev lines : List (Vec ℤ Global) → List (List ℤ)
lines rows = map (λ r. r.items) rows

-- the tableau that the fields are
abbrev table : Inside → Table
table t = record { variables = t.variables; rows = lines t.rows.items; basic = t.basic.items; lower = t.lower.items; upper = t.upper.items }

-- what the code reads of a tableau
record Read (self : Table) (basic : List ℕ) (rows : List (Vec ℤ Global)) (slack : ℕ) : Type 0 where
  pub basics : basic ≡ self.basic
  pub lines_are : lines rows ≡ self.rows
  pub next : slack ≡ width self

read : (t : Inside) (self : Table) (basic : List ℕ) (rows : List (Vec ℤ Global)) (slack : ℕ) → table t ≡ self → IsTable (table t) → basic ≡ t.basic.items → rows ≡ t.rows.items → slack ≡ t.lower.len → Read self basic rows slack
read t self basic rows slack is legal b r s = record {
  basics = b ∙ ap (λ (x : Table). x.basic) is;
  lines_are = ap lines r ∙ ap (λ (x : Table). x.rows) is;
  next = s ∙ t.lower.ok.0 ∙ legal.lowers ∙ ap width is;
}

-- what holds of what the code reads holds of the tableau, and back
of_self : (P : List ℕ → List (List ℤ) → ℕ → Type 0) (self : Table) (basic : List ℕ) (rows : List (Vec ℤ Global)) (slack : ℕ) → Read self basic rows slack → P basic (lines rows) slack → P self.basic self.rows (width self)
of_self P self basic rows slack is h = subst (λ b. P b self.rows (width self)) is.basics (subst (λ (r : List (List ℤ)). P basic r (width self)) is.lines_are (subst (P basic (lines rows)) is.next h))

to_self : (P : List ℕ → List (List ℤ) → ℕ → Type 0) (self : Table) (basic : List ℕ) (rows : List (Vec ℤ Global)) (slack : ℕ) → Read self basic rows slack → P self.basic self.rows (width self) → P basic (lines rows) slack
to_self P self basic rows slack is h = subst (λ b. P b (lines rows) slack) (sym is.basics) (subst (λ (r : List (List ℤ)). P self.basic r slack) (sym is.lines_are) (subst (P self.basic self.rows) (sym is.next) h))

error_or : {T E : Type 0} → Result T E → E → E
error_or (Ok t) d = d
error_or (Err e) d = e

-- an error that is handed on at another type
same-error : {T U : Type 0} (x e : PushStop) → (let r : Result T PushStop = Err x in r) ≡ Err e → (let r : Result U PushStop = Err x in r) ≡ Err e
unfolding error_or
same-error x e h = ap Err (ap (λ r. error_or r x) h)

pub pushed_rows-requires-clause-below : goal.pushed_rows-requires-clause-below
pushed_rows-requires-clause-below c =
    let self : Table = c.args.self.now in
    let is = read c.self.inside self c.as_slice-basic.result.now c.as_slice-rows.result.now c.len-slack.result c.self.view_is c.self.invariant c.as_slice-basic.ensures.value c.as_slice-rows.ensures.value c.len-slack.ensures in
    below-more self.variables (c.len-slack.result + 1) c.args.lin.now.terms (omega (arith, is.next)) c.requires

pub pushed_rows-requires-clause-can : goal.pushed_rows-requires-clause-can
pushed_rows-requires-clause-can c =
    let self : Table = c.args.self.now in
    let lin : Linear = c.args.lin.now in
    let is = read c.self.inside self c.as_slice-basic.result.now c.as_slice-rows.result.now c.len-slack.result c.self.view_is c.self.invariant c.as_slice-basic.ensures.value c.as_slice-rows.ensures.value c.len-slack.ensures in
    to_self (λ b r s. CanFree b (widened r) (equation (s + 1) s lin)) self c.as_slice-basic.result.now c.as_slice-rows.result.now c.len-slack.result is
    (push-can self lin (subst IsTable c.self.view_is c.self.invariant) c.constant-constant.ensures.legal c.requires)

pub returns-in-Err-clause-wide : goal.returns-in-Err-clause-wide
returns-in-Err-clause-wide c = λ w e.
    let self : Table = c.args.self.now in
    let lin : Linear = c.args.lin.now in
    let is = read c.self.inside self c.as_slice-basic.result.now c.as_slice-rows.result.now c.len-slack.result c.self.view_is c.self.invariant c.as_slice-basic.ensures.value c.as_slice-rows.ensures.value c.len-slack.ensures in
    of_self (λ b r s. IsFirstWide b (widened r) (equation (s + 1) s lin) w.row w.entry) self c.as_slice-basic.result.now c.as_slice-rows.result.now c.len-slack.result is (c.in-Err.ensures.wide w (same-error c.in-Err.stop (Wide w) e))

pub returns-in-Err-clause-evidence : goal.returns-in-Err-clause-evidence
returns-in-Err-clause-evidence c = λ w e.
    let self : Table = c.args.self.now in
    let lin : Linear = c.args.lin.now in
    let is = read c.self.inside self c.as_slice-basic.result.now c.as_slice-rows.result.now c.len-slack.result c.self.view_is c.self.invariant c.as_slice-basic.ensures.value c.as_slice-rows.ensures.value c.len-slack.ensures in
    pushed-wide self lin w.row w.entry (subst IsTable c.self.view_is c.self.invariant) c.constant-constant.ensures.legal c.requires
    (of_self (λ b r s. IsFirstWide b (widened r) (equation (s + 1) s lin) w.row w.entry) self c.as_slice-basic.result.now c.as_slice-rows.result.now c.len-slack.result is (c.in-Err.ensures.wide w (same-error c.in-Err.stop (Wide w) e)))

few : (t : Inside) (self : Table) (n : ℕ) → table t ≡ self → n ≡ t.rows.len → n < 1024 → length self.rows < 1024
few t self n is e h =
    let same : length (lines t.rows.items) ≡ length self.rows = ap (λ (x : Table). length x.rows) is in
    omega (arith, same, e, h, length-map t.rows.items (λ r. r.items), t.rows.ok.0)

-- the new fields are those of the tableau with the form
whole : (c : goal.After-drop-self-inside-4)
    → ◌≡◌ {A = Table} (record { variables = c.self.inside.variables; rows = lines c.in-Ok.rows.items; basic = c.in_ok-basic.basic.items; lower = c.in_ok-basic.lower.items; upper = c.in_ok-basic.upper.items }) (pushed c.args.lin.now c.args.self.now)
whole c =
    let self : Table = c.args.self.now in
    let lin : Linear = c.args.lin.now in
    let t = c.self.inside in
    let is = read t self c.as_slice-basic.result.now c.as_slice-rows.result.now c.len-slack.result c.self.view_is c.self.invariant c.as_slice-basic.ensures.value c.as_slice-rows.ensures.value c.len-slack.ensures in
    let rows = of_self (λ b r s. lines c.in-Ok.rows.items ≡ widened r ++ freed b (widened r) (equation (s + 1) s lin) ∷ []) self c.as_slice-basic.result.now c.as_slice-rows.result.now c.len-slack.result is c.in-Ok.ensures.made in
    let basic : c.in_ok-basic.basic.items ≡ self.basic ++ width self ∷ [] = c.in_ok-basic.ensures.basic ∙ ap (λ (b : List ℕ). b ++ c.len-slack.result ∷ []) (c.as_slice.ensures.value ∙ ap (λ (x : Table). x.basic) c.self.view_is) ∙ ap (λ s. self.basic ++ s ∷ []) is.next in
    let lower : c.in_ok-basic.lower.items ≡ self.lower ++ None ∷ [] = c.in_ok-basic.ensures.lower ∙ ap (λ (b : List (Option ℤ)). b ++ None ∷ []) (c.as_slice-2.ensures.value ∙ ap (λ (x : Table). x.lower) c.self.view_is) in
    let upper : c.in_ok-basic.upper.items ≡ self.upper ++ None ∷ [] = c.in_ok-basic.ensures.upper ∙ ap (λ (b : List (Option ℤ)). b ++ None ∷ []) (c.as_slice-3.ensures.value ∙ ap (λ (x : Table). x.upper) c.self.view_is) in
    let made : ℕ → List (List ℤ) → List ℕ → List (Option ℤ) → List (Option ℤ) → Table = λ v rs bs ls us. record { variables = v; rows = rs; basic = bs; lower = ls; upper = us } in
    let old = lines c.in-Ok.rows.items in
    let new = pushed lin self in
    ap (λ v. made v old c.in_ok-basic.basic.items c.in_ok-basic.lower.items c.in_ok-basic.upper.items) (ap (λ (x : Table). x.variables) c.self.view_is)
    ∙ ap (λ (rs : List (List ℤ)). made self.variables rs c.in_ok-basic.basic.items c.in_ok-basic.lower.items c.in_ok-basic.upper.items) rows
    ∙ ap (λ (bs : List ℕ). made self.variables new.rows bs c.in_ok-basic.lower.items c.in_ok-basic.upper.items) basic
    ∙ ap (λ (ls : List (Option ℤ)). made self.variables new.rows new.basic ls c.in_ok-basic.upper.items) lower
    ∙ ap (λ (us : List (Option ℤ)). made self.variables new.rows new.basic new.lower us) upper

pub invariant_of-self : goal.invariant_of-self
invariant_of-self c =
    let self : Table = c.args.self.now in
    let lin : Linear = c.args.lin.now in
    let t = c.self.inside in
    let is = read t self c.as_slice-basic.result.now c.as_slice-rows.result.now c.len-slack.result c.self.view_is c.self.invariant c.as_slice-basic.ensures.value c.as_slice-rows.ensures.value c.len-slack.ensures in
    let room = of_self (λ b r s. HasRoom b (widened r) (equation (s + 1) s lin)) self c.as_slice-basic.result.now c.as_slice-rows.result.now c.len-slack.result is c.in-Ok.ensures.room in
    subst IsTable (sym (whole c)) (pushed-table self lin (subst IsTable c.self.view_is c.self.invariant) c.constant-constant.ensures.legal c.requires (few t self c.len.result c.self.view_is c.len.ensures c.if-len-ge-MOST_ROWS.false) room)

pub returns-clause-pushed : goal.returns-clause-pushed
returns-clause-pushed c = whole c

-- the only refusal of a number of rows
abbrev is_many : PushStop → Bool
is_many Memory = false
is_many TooMany = true
is_many (Wide w) = false

abbrev says_many : {T : Type 0} → Result T PushStop → Bool
says_many (Ok t) = false
says_many (Err e) = is_many e

not-many : {T : Type 0} (r : Result T PushStop) (n : ℕ) → says_many r ≡ false → n < 1024 → (r ≡ Err TooMany) ↔ (n ≡ 1024)
not-many r n other h = (λ e. absurd (false≢true (sym other ∙ ap says_many e)), λ e. absurd (omega (arith, h, e)))

full : (t : Inside) (self : Table) (n : ℕ) → table t ≡ self → IsTable (table t) → n ≡ t.rows.len → 1024 ≤ n → length self.rows ≡ 1024
full t self n is legal e h =
    let same : length (lines t.rows.items) ≡ length self.rows = ap (λ (x : Table). length x.rows) is in
    omega (arith, same, legal.few, e, h, length-map t.rows.items (λ r. r.items), t.rows.ok.0)

pub returns-then-len-ge-MOST_ROWS-clause-too_many : goal.returns-then-len-ge-MOST_ROWS-clause-too_many
returns-then-len-ge-MOST_ROWS-clause-too_many c = (λ _. full c.self.inside c.args.self.now c.len.result c.self.view_is c.self.invariant c.len.ensures c.if-len-ge-MOST_ROWS.true, λ _. refl)

pub returns-in_err-basic-clause-too_many : goal.returns-in_err-basic-clause-too_many
returns-in_err-basic-clause-too_many c =
    let p = err_from_is_err_and c.from_residual.result c.from_residual.ensures.1 in
    not-many c.from_residual.result (length c.args.self.now.rows) (ap says_many p.1 ∙ ap is_many p.2) (few c.self.inside c.args.self.now c.len.result c.self.view_is c.len.ensures c.if-len-ge-MOST_ROWS.false)

pub returns-in-Err-clause-too_many : goal.returns-in-Err-clause-too_many
returns-in-Err-clause-too_many c =
    let less = few c.self.inside c.args.self.now c.len.result c.self.view_is c.len.ensures c.if-len-ge-MOST_ROWS.false in
    (λ e. absurd (c.in-Err.ensures.few (same-error c.in-Err.stop TooMany e)), λ e. absurd (omega (arith, less, e)))

pub returns-clause-too_many : goal.returns-clause-too_many
returns-clause-too_many c = not-many (Ok tt) (length c.args.self.now.rows) refl (few c.self.inside c.args.self.now c.len.result c.self.view_is c.len.ensures c.if-len-ge-MOST_ROWS.false)

pub returns-clause-wide : goal.returns-clause-wide
returns-clause-wide c = λ w e. absurd (no-refusal tt (Wide w) e)

pub returns-clause-evidence : goal.returns-clause-evidence
returns-clause-evidence c = λ w e. absurd (no-refusal tt (Wide w) e)

pub returns-clause-space : goal.returns-clause-space
returns-clause-space c =
    let self : Table = c.args.self.now in
    let lin : Linear = c.args.lin.now in
    let is = read c.self.inside self c.as_slice-basic.result.now c.as_slice-rows.result.now c.len-slack.result c.self.view_is c.self.invariant c.as_slice-basic.ensures.value c.as_slice-rows.ensures.value c.len-slack.ensures in
    let rows = of_self (λ b r s. lines c.in-Ok.rows.items ≡ widened r ++ freed b (widened r) (equation (s + 1) s lin) ∷ []) self c.as_slice-basic.result.now c.as_slice-rows.result.now c.len-slack.result is c.in-Ok.ensures.made in
    subst (SameSpace (widened self.rows ++ next_equation self lin ∷ [])) (sym rows) (pushed-same self lin (subst IsTable c.self.view_is c.self.invariant) c.constant-constant.ensures.legal c.requires)
