use Rattle.std.proofs.Common.{◌≡◌, ℕ, sym, ◌∙◌, subst, rules}
use Rattle.std.specs.Prelude.{None, Err, IsErrOf}
use Rattle.clause_normal.specs.Normal.{auxiliaries, names_of, normal_clause}
use Rattle.clause_normal.specs.declared.stop.NormalStop.TheVariants.{Count, TooWide}
use Rattle.clause_laws.specs.Defined.{HasTooManyAt, breaking_wide}
use Rattle.clause_defined.proofs.ClauseLemmas.{can_judge}
use Rattle.clause_defined.proofs.WholeLemmas.{can_put, few_own, few_told, many_here, stands_here, wide_here}
use Rattle.clause_defined.proofs.defined.with_tables.Goals as goal

pub judge_all-requires : goal.judge_all-requires
judge_all-requires c = can_judge c.args.script.now c.args.clause.now c.arena_law.ensures.arena c.requires.legal c.requires.clause c.args.defs.now c.requires.defined c.requires.formulas

pub returns-in_err-count-clause-wide : goal.returns-in_err-count-clause-wide
returns-in_err-count-clause-wide c = λ offset is.
    let script = c.args.script.now in
    let clause = c.args.clause.now in
    let defs = c.args.defs.now in
    let arena = c.arena_law.ensures.arena in
    let placed = c.as_slice-placed.result.now in
    let are : placed ≡ auxiliaries script clause = search rules in
    let told : IsErrOf c.judge_all.result (TooWide offset) = search rules in
    let stands = stands_here script clause arena c.requires.legal c.requires.clause defs c.requires.defined c.requires.formulas placed are in
    sym (wide_here script clause arena c.requires.legal c.requires.clause defs c.requires.defined c.requires.formulas placed are)
    ∙ c.judge_all.ensures.wide (names_of script clause) offset stands told

same_count : {A : Type 0} (a b : ℕ) → IsErrOf {T = A} (Err (Count a)) (Count b) → a ≡ b
same_count a b is = cc

pub returns-then-count-gt-MOST_VARIABLES-clause-count : goal.returns-then-count-gt-MOST_VARIABLES-clause-count
returns-then-count-gt-MOST_VARIABLES-clause-count c = λ offset is.
    let script = c.args.script.now in
    let clause = c.args.clause.now in
    let defs = c.args.defs.now in
    let arena = c.arena_law.ensures.arena in
    let placed = c.as_slice-placed.result.now in
    let are : placed ≡ auxiliaries script clause = search rules in
    let stands = stands_here script clause arena c.requires.legal c.requires.clause defs c.requires.defined c.requires.formulas placed are in
    let narrow : breaking_wide defs (normal_clause script clause) ≡ None =
    sym (wide_here script clause arena c.requires.legal c.requires.clause defs c.requires.defined c.requires.formulas placed are)
    ∙ c.in_ok-count.ensures.narrow (names_of script clause) stands in
    let many = many_here script clause arena c.requires.legal c.requires.clause defs c.requires.defined c.requires.formulas placed are c.in_ok-count.count
    (c.in_ok-count.ensures.count (names_of script clause) stands) c.if-count-gt-MOST_VARIABLES.true narrow c.assertion_of-assertion.result c.assertion_of-assertion.ensures.is in
    subst (λ (k : ℕ). HasTooManyAt script clause defs k) (same_count c.assertion_of-assertion.result.offset offset is) many

pub clause_with_room-requires-clause-few : goal.clause_with_room-requires-clause-few
clause_with_room-requires-clause-few c =
    let script = c.args.script.now in
    let clause = c.args.clause.now in
    let defs = c.args.defs.now in
    let arena = c.arena_law.ensures.arena in
    let placed = c.as_slice-placed.result.now in
    let are : placed ≡ auxiliaries script clause = search rules in
    let stands = stands_here script clause arena c.requires.legal c.requires.clause defs c.requires.defined c.requires.formulas placed are in
    few_own script clause arena c.requires.legal c.requires.clause defs c.requires.defined c.requires.formulas placed are c.in_ok-count.count
    (c.in_ok-count.ensures.count (names_of script clause) stands) c.if-count-gt-MOST_VARIABLES.false

pub put_all-requires : goal.put_all-requires
put_all-requires c =
    let script = c.args.script.now in
    let clause = c.args.clause.now in
    let defs = c.args.defs.now in
    let arena = c.arena_law.ensures.arena in
    let placed = c.as_slice-placed.result.now in
    let are : placed ≡ auxiliaries script clause = search rules in
    let stands = stands_here script clause arena c.requires.legal c.requires.clause defs c.requires.defined c.requires.formulas placed are in
    let narrow : breaking_wide defs (normal_clause script clause) ≡ None =
    sym (wide_here script clause arena c.requires.legal c.requires.clause defs c.requires.defined c.requires.formulas placed are)
    ∙ c.in_ok-count.ensures.narrow (names_of script clause) stands in
    can_put script clause arena c.requires.legal c.requires.clause defs c.requires.defined c.requires.formulas placed are c.in_ok-count.count
    (c.in_ok-count.ensures.count (names_of script clause) stands) c.if-count-gt-MOST_VARIABLES.false narrow c.in_ok-whole.whole c.in_ok-whole.ensures

pub returns-clause-room : goal.returns-clause-room
returns-clause-room c =
    let script = c.args.script.now in
    let clause = c.args.clause.now in
    let defs = c.args.defs.now in
    let arena = c.arena_law.ensures.arena in
    let placed = c.as_slice-placed.result.now in
    let are : placed ≡ auxiliaries script clause = search rules in
    let stands = stands_here script clause arena c.requires.legal c.requires.clause defs c.requires.defined c.requires.formulas placed are in
    sym (wide_here script clause arena c.requires.legal c.requires.clause defs c.requires.defined c.requires.formulas placed are)
    ∙ c.in_ok-count.ensures.narrow (names_of script clause) stands

pub returns-clause-few : goal.returns-clause-few
returns-clause-few c =
    let script = c.args.script.now in
    let clause = c.args.clause.now in
    let defs = c.args.defs.now in
    let arena = c.arena_law.ensures.arena in
    let placed = c.as_slice-placed.result.now in
    let are : placed ≡ auxiliaries script clause = search rules in
    let stands = stands_here script clause arena c.requires.legal c.requires.clause defs c.requires.defined c.requires.formulas placed are in
    few_told script clause arena c.requires.legal c.requires.clause defs c.requires.defined c.requires.formulas placed are c.in_ok-count.count
    (c.in_ok-count.ensures.count (names_of script clause) stands) c.if-count-gt-MOST_VARIABLES.false
