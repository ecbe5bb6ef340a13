-- Generated scripts are legal, and each of their assertions has a normal clause.
use Rattle.std.proofs.Common.{◌≡◌, ℕ, zero, suc, ◌+◌, ◌*◌, ◌^◌, ◌<◌, ◌≤◌, List, [], ◌∷◌, ◌++◌, Bool, true, false, refl, ap, sym, ◌∙◌, subst, arith, lit<}
use Rattle.std.proofs.lemmas.Int.{ints}
use Rattle.std.specs.Prelude.{Result, Ok, Err, nat_lt, nat_abs, pos, ℤ, None, Some, Option, ◌+ℤ◌, neg_ℤ, map, if◌then◌else◌}
use Rattle.std.proofs.Math.Nat.{mul-le-mul, pow-le-pow_right}
use Rattle.std.proofs.lemmas.Bool.Decides.{nat_tests}
use Rattle.term_tree.specs.declared.node.Node.{Node}
use Rattle.term_tree.specs.declared.sort.Sort.TheVariants.{Bool as Truth}
use Rattle.term_tree.specs.declared.refusal.Checked.{Checked}
use Rattle.term_tree.specs.declared.refusal.Kind.TheVariants.{Count}
use Rattle.term_tree.specs.declared.refusal.Refusal.{Refusal}
use Rattle.term_tree.specs.declared.script.Assertion.{Assertion}
use Rattle.term_tree.specs.declared.script.Script.{Script}
use Rattle.term_tree.specs.Legal.{IsLegal}
use Rattle.clause_gen.specs.Generated.{children, generated_asserts, generated_nodes, generated_preds, generated_script, leaves, parent, query, root_number, zeros}
use Rattle.horn_shape.specs.declared.clause.HornClause.{HornClause}
use Rattle.horn_shape.specs.Clause.{IsLegalScript, assertion_reading}
use Rattle.horn_shape.specs.Shape.{Content, Reading}
use Rattle.clause_form.specs.declared.clause.Clause.{Clause}
use Rattle.clause_form.specs.System.{Clauses}
use Rattle.clause_normal.specs.Normal.{first_without_room, is_too_large, normal_clause}
use Rattle.clause_normal.specs.Reading.{all_clauses, by_room, by_shape, normal_reading, clause_with, clause_and_others, refusal_at, system_reading, unless_stopped}
use Rattle.book_answers.specs.Answers.{IsOpened}
use Rattle.book_answers.specs.declared.opening.Opened.{Opened}
use Rattle.book_answers.specs.declared.opening.Opened.TheVariants.{Refused}
use Rattle.call_gen.specs.Summaries.{generated}

pub legal_script : (depth seed : ℕ)
    → IsLegal generated_preds (generated_nodes depth (root_number seed)) [] Truth 14
    × IsLegal generated_preds (generated_nodes depth (root_number seed)) [] Truth 34
    × IsLegal generated_preds (generated_nodes depth (root_number seed)) [] Truth 38
    → IsLegalScript (generated_script depth seed)
legal_script depth seed (a, b, c) = record {
  asserts = (a, (b, (c, tt)));
  few_asserts = omega arith;
  few_preds = omega arith;
  few_args = (omega arith, tt);
}

abbrev nodes_of : ℕ → ℕ → ℕ → ℕ → List Node
nodes_of low high depth start = leaves (pos low) (pos high) ++ children ++ parent ++ query (pos depth) (pos start)

abbrev script_with : ℕ → ℕ → ℕ → ℕ → Script
script_with low high depth start = record {
  preds = generated_preds;
  asserts = generated_asserts;
  terms = record { nodes = nodes_of low high depth start; offsets = zeros 39 };
}

abbrev asserted : ℕ → ℕ → Assertion
asserted term command = record { term = record { 0 = term }; offset = 0; command = command }

abbrev content_or : Reading → Content
content_or (Ok content) = content
content_or (Err misfit) = record { vars = []; atoms = []; guards = []; head = None }

-- the clause of an assertion that has one
abbrev horn : Script → ℕ → Assertion → HornClause
horn script index a = clause_with index (content_or (assertion_reading script a))

read_with : (script : Script) (index : ℕ) (a : Assertion) → assertion_reading script a ≡ Ok (content_or (assertion_reading script a))
    → first_without_room script (horn script index a) ≡ None → is_too_large script (horn script index a) ≡ false
    → normal_reading script index a ≡ Ok (normal_clause script (horn script index a))
read_with script index a shape room small =
    ap (by_shape script index a) shape ∙ ap (by_room script a (horn script index a)) room
    ∙ ap (λ (b : Bool). let r : Result Clause Refusal = if b then Err (refusal_at Count a.offset a) else Ok (normal_clause script (horn script index a)) in r) small

small_number : (n : ℕ) → n < 2 ^ 63 → nat_lt n (2 ^ 63) ≡ true
small_number n h = grind (arith, nat_tests)

plus_zero : (n : ℕ) → nat_abs (pos n +ℤ neg_ℤ (pos 0)) ≡ n
plus_zero n = omega (arith, ints)

zero_minus : (n : ℕ) → nat_abs (pos 0 +ℤ neg_ℤ (pos n)) ≡ n
zero_minus n = omega (arith, ints)

module _ (low high depth start : ℕ) (l : low < 2 ^ 63) (h : high < 2 ^ 63) (d : depth < 2 ^ 63) (s : start < 2 ^ 63) where
  abbrev script : Script
  script = script_with low high depth start

  low_small : nat_lt low (2 ^ 63) ≡ true
  low_small = small_number low l

  high_small : nat_lt high (2 ^ 63) ≡ true
  high_small = small_number high h

  less_low : nat_lt (nat_abs (pos low +ℤ neg_ℤ (pos 0))) (2 ^ 63) ≡ true
  less_low = ap (λ (n : ℕ). nat_lt n (2 ^ 63)) (plus_zero low) ∙ low_small

  less_high : nat_lt (nat_abs (pos 0 +ℤ neg_ℤ (pos high))) (2 ^ 63) ≡ true
  less_high = ap (λ (n : ℕ). nat_lt n (2 ^ 63)) (zero_minus high) ∙ high_small

  room_0 : first_without_room script (horn script 0 (asserted 14 2)) ≡ None
  room_0 = simp (low_small, high_small, less_low, less_high)

  room_1 : first_without_room script (horn script 1 (asserted 34 3)) ≡ None
  room_1 = refl

  room_2 : first_without_room script (horn script 2 (asserted 38 4)) ≡ None
  room_2 = simp (small_number depth d, small_number start s)

  reading_0 : normal_reading script 0 (asserted 14 2) ≡ Ok (normal_clause script (horn script 0 (asserted 14 2)))
  reading_0 = read_with script 0 (asserted 14 2) refl room_0 refl

  reading_1 : normal_reading script 1 (asserted 34 3) ≡ Ok (normal_clause script (horn script 1 (asserted 34 3)))
  reading_1 = read_with script 1 (asserted 34 3) refl room_1 refl

  reading_2 : normal_reading script 2 (asserted 38 4) ≡ Ok (normal_clause script (horn script 2 (asserted 38 4)))
  reading_2 = read_with script 2 (asserted 38 4) refl room_2 refl

  all_read : all_clauses script 0 generated_asserts
      ≡ Ok (normal_clause script (horn script 0 (asserted 14 2)) ∷ normal_clause script (horn script 1 (asserted 34 3)) ∷ normal_clause script (horn script 2 (asserted 38 4)) ∷ [])
  all_read =
      ap (λ (r : Result Clause Refusal). clause_and_others r (clause_and_others (normal_reading script 1 (asserted 34 3)) (clause_and_others (normal_reading script 2 (asserted 38 4)) (Ok [])))) reading_0
      ∙ ap (λ (r : Result Clause Refusal). clause_and_others (Ok (normal_clause script (horn script 0 (asserted 14 2)))) (clause_and_others r (clause_and_others (normal_reading script 2 (asserted 38 4)) (Ok [])))) reading_1
      ∙ ap (λ (r : Result Clause Refusal). clause_and_others (Ok (normal_clause script (horn script 0 (asserted 14 2)))) (clause_and_others (Ok (normal_clause script (horn script 1 (asserted 34 3)))) (clause_and_others r (Ok [])))) reading_2

  pub read_with_numbers : (sys : Clauses) × (system_reading (record { script = script; stop = None }) ≡ Ok sys)
  read_with_numbers = (
    record { clauses = normal_clause script (horn script 0 (asserted 14 2)) ∷ normal_clause script (horn script 1 (asserted 34 3)) ∷ normal_clause script (horn script 2 (asserted 38 4)) ∷ []; preds = map (λ p. p.args) generated_preds },
    ap (unless_stopped None script) all_read,
  )

product_small : (depth n : ℕ) → depth ≤ 12 → n ≤ 1000 → n * 2 ^ depth < 2 ^ 63
product_small depth n most h =
    let width : 2 ^ depth ≤ 2 ^ 12 = pow-le-pow_right (lit< tt) most in
    let m : n * 2 ^ depth ≤ 1000 * 2 ^ 12 = mul-le-mul h width in
    omega arith

pub has_clauses : (depth seed : ℕ) → depth ≤ 12 → (sys : Clauses) × (system_reading (generated depth seed) ≡ Ok sys)
has_clauses depth seed most =
    let start_small : root_number seed < 1000 = omega arith in
    read_with_numbers (root_number seed * 2 ^ depth) ((root_number seed + 1) * 2 ^ depth) depth (root_number seed)
    (product_small depth (root_number seed) most (omega arith)) (product_small depth (root_number seed + 1) most (omega arith)) (omega arith) (omega arith)

-- so no book's opening is refused
pub never_refused : (checked : Checked) (units : ℕ) (found : Opened) (refusal : Refusal) → IsOpened checked units found → found ≡ Refused refusal
    → (sys : Clauses) × (system_reading checked ≡ Ok sys) → ⊥
never_refused checked units found refusal opened is (sys, read) =
    let refused : system_reading checked ≡ Err refusal = subst (IsOpened checked units) is opened in
    let clash : (let r : Result Clauses Refusal = Ok sys in r) ≡ Err refusal = sym read ∙ refused in
    absurd (cc)
