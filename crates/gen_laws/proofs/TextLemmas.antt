-- The text of a generated script is its commands, one a line.
use Rattle.std.proofs.Common.{ℕ, zero, suc, ℤ, pos, ◌≡◌, ◌+◌, ◌*◌, ◌^◌, ◌<◌, ◌≤◌, List, [], ◌∷◌, ◌++◌, length, Bool, true, false, Option, Some, None, Result, Ok, Err, refl, sym, ap, subst, cond, ◌∙◌, arith, lit<, append_assoc, append-nil, length-append, codes, decimal}
use Rattle.std.proofs.lemmas.Fmt.{decimal_by_steps, length-decimal-le_succ}
use Rattle.std.proofs.Math.Nat.{mul-le-mul, pow-le-pow_right}
use Rattle.sexp_read.specs.declared.tree.Tree.{Tree}
use Rattle.sexp_read.specs.Trees.{IsReading}
use Rattle.term_tree.specs.declared.sort.Sort.TheVariants.{Int as IntSort, Bool as BoolSort}
use Rattle.term_tree.specs.declared.node.OpKind.{OpKind}
use Rattle.term_tree.specs.declared.node.OpKind.TheVariants.{Not, And, Implies, Eq, Add, Mul, Le, Lt}
use Rattle.term_check.specs.declared.part.Fault.{Fault}
use Rattle.term_check.specs.Rules.{applied, declared_fault}
use Rattle.term_check.specs.Term.{Term}
use Rattle.sort_check.specs.Commands.{Command, command, is_exit}
use Rattle.sort_check.specs.Commands.Command.{SetLogic, Declare, Assert, CheckSat}
use Rattle.sort_check.specs.Scripts.{Outcome, IsScript, after, outcome, stops, end_fault}
use Rattle.clause_gen.specs.Generated.{root_number}
use Rattle.gen_text.specs.Texts.{generated_text, leaves_text, parents_text, root_text}
use Rattle.answer_text.specs.Terms.{operator_word}
use Rattle.answer_text.proofs.OperatorLemmas.{Kind, part_at, parts_at, Takes, takes_add, takes_and, takes_eq, takes_le, takes_mul, takes_not}
use Rattle.answer_text.proofs.PieceLemmas.{ends_word}
use Rattle.answer_text.proofs.ShowLemmas.{Shows, ShowsRow, FirstAnd, row_more, row_behind, row_none, whole_text}
use Rattle.gen_laws.proofs.ShapeLemmas.{Shape, Shapes, amount, letter, atom, apply, no_shape, one_more, Fine, AllFine, Fits, text_of, args_text}
use Rattle.gen_laws.proofs.BinderLemmas.{ForAll, names, shows_closed, shows_universal, universal_text}
use Rattle.gen_laws.proofs.CommandLemmas.{Asserts, Checks, assert_text, check_text, declare_text, logic_text, node_pred, shows_assert, shows_check, shows_declare, shows_logic}

-- The three terms.

abbrev pub d : Shape
d = letter 0 100

abbrev pub i : Shape
i = letter 1 105

abbrev pub two : Shape → Shape → Shapes
two s t = one_more s (one_more t no_shape)

abbrev pub leaves_shape : ℕ → ℕ → Shape
leaves_shape low high =
    apply Implies (two (apply And (one_more (apply Eq (two d (amount 0))) (two (apply Le (two (amount low) i)) (apply Lt (two i (amount high)))))) (atom (two d i)))

abbrev pub parents_shape : Shape
parents_shape =
    apply Implies (two (apply And (two (atom (two d (apply Mul (two (amount 2) i)))) (atom (two d (apply Add (two (apply Mul (two (amount 2) i)) (amount 1)))))))
    (atom (two (apply Add (two d (amount 1))) i)))

abbrev pub root_shape : ℕ → ℕ → Shape
root_shape depth start = apply Not (one_more (atom (two (amount depth) (amount start))) no_shape)

takes_two : (op : OpKind) (k l kind : Kind) → ((start a b : ℕ) → applied op start (part_at a k ∷ part_at b l ∷ []) ≡ Ok (part_at start kind)) → Takes op (k ∷ l ∷ []) kind
takes_two op k l kind f start [] many = absurd (omega (arith, many))
takes_two op k l kind f start (a ∷ []) many = absurd (omega (arith, many))
takes_two op k l kind f start (a ∷ b ∷ []) many = f start a b
takes_two op k l kind f start (a ∷ b ∷ c ∷ starts) many = absurd (omega (arith, many))

declared_two : (c e : Option ℤ) (starts : List ℕ) → length starts ≡ 2 → declared_fault (IntSort ∷ IntSort ∷ []) (parts_at starts ((IntSort, c) ∷ (IntSort, e) ∷ [])) ≡ None
declared_two c e [] many = absurd (omega (arith, many))
declared_two c e (a ∷ []) many = absurd (omega (arith, many))
declared_two c e (a ∷ b ∷ []) many = refl
declared_two c e (a ∷ b ∷ c' ∷ starts) many = absurd (omega (arith, many))

fine_d : (next depth : ℕ) → Fine names next depth d
fine_d next depth = (refl, refl, refl, refl)

fine_i : (next depth : ℕ) → Fine names next depth i
fine_i next depth = (refl, refl, refl, refl)

takes_implies : Takes Implies ((BoolSort, None) ∷ (BoolSort, None) ∷ []) (BoolSort, None)
takes_implies = takes_two Implies (BoolSort, None) (BoolSort, None) (BoolSort, None) (λ start a b. refl)

fine_leaves : (low high : ℕ) → low < 2 ^ 63 → high < 2 ^ 63 → Fine names 2 2 (leaves_shape low high)
fine_leaves low high l h =
    let least : Fine names 2 4 (apply Eq (two d (amount 0))) = (omega arith, λ start. refl, takes_eq None (Some (pos 0)), (fine_d 2 5, (lit< tt, tt))) in
    let first : Fine names 2 4 (apply Le (two (amount low) i)) = (omega arith, λ start. refl, takes_le (Some (pos low)) None, (l, (fine_i 2 5, tt))) in
    let last : Fine names 2 4 (apply Lt (two i (amount high))) =
    (omega arith, λ start. refl, takes_two Lt (IntSort, None) (IntSort, Some (pos high)) (BoolSort, None) (λ start a b. refl), (fine_i 2 5, (h, tt))) in
    let head : Fine names 2 3 (atom (two d i)) = (omega arith, refl, declared_two None None, (fine_d 2 4, (fine_i 2 4, tt))) in
    let body : Fine names 2 3 (apply And (one_more (apply Eq (two d (amount 0))) (two (apply Le (two (amount low) i)) (apply Lt (two i (amount high)))))) =
    (omega arith, λ start. refl, takes_and ((BoolSort, None) ∷ (BoolSort, None) ∷ (BoolSort, None) ∷ []) (refl, (refl, (refl, tt))), (least, (first, (last, tt)))) in
    (omega arith, λ start. refl, takes_implies, (body, (head, tt)))

fine_double : (depth : ℕ) → depth < 2000 → Fine names 2 depth (apply Mul (two (amount 2) i))
fine_double depth below = (below, λ start. refl, takes_mul (pos 2) (lit< tt), (lit< tt, (fine_i 2 (depth + 1), tt)))

fine_parents : Fine names 2 2 parents_shape
fine_parents =
    let left : Fine names 2 4 (atom (two d (apply Mul (two (amount 2) i)))) = (omega arith, refl, declared_two None None, (fine_d 2 5, (fine_double 5 (lit< tt), tt))) in
    let next : Fine names 2 5 (apply Add (two (apply Mul (two (amount 2) i)) (amount 1))) = (omega arith, λ start. refl, takes_add ((IntSort, Some (pos 1)) ∷ []) (refl, tt), (fine_double 6 (lit< tt), (lit< tt, tt))) in
    let right : Fine names 2 4 (atom (two d (apply Add (two (apply Mul (two (amount 2) i)) (amount 1))))) = (omega arith, refl, declared_two None None, (fine_d 2 5, (next, tt))) in
    let above : Fine names 2 4 (apply Add (two d (amount 1))) = (omega arith, λ start. refl, takes_add ((IntSort, Some (pos 1)) ∷ []) (refl, tt), (fine_d 2 5, (lit< tt, tt))) in
    let head : Fine names 2 3 (atom (two (apply Add (two d (amount 1))) i)) = (omega arith, refl, declared_two None None, (above, (fine_i 2 4, tt))) in
    let body : Fine names 2 3 (apply And (two (atom (two d (apply Mul (two (amount 2) i)))) (atom (two d (apply Add (two (apply Mul (two (amount 2) i)) (amount 1))))))) =
    (omega arith, λ start. refl, takes_and ((BoolSort, None) ∷ (BoolSort, None) ∷ []) (refl, (refl, tt)), (left, (right, tt))) in
    (omega arith, λ start. refl, takes_implies, (body, (head, tt)))

fine_root : (depth start : ℕ) → depth < 2 ^ 63 → start < 2 ^ 63 → Fine [] 0 1 (root_shape depth start)
fine_root depth start e s =
    let node : Fine [] 0 2 (atom (two (amount depth) (amount start))) = (omega arith, refl, declared_two (Some (pos depth)) (Some (pos start)), (e, (s, tt))) in
    (omega arith, λ start. refl, takes_not, (node, tt))

-- The lines.

-- a tree, and more of them from the next line on
line : (P : List ℕ → Tree → Type 0) (Q : List ℕ → List Tree → Type 0) (piece others : List ℕ) → Shows P 0 piece → ShowsRow Q 0 others → ShowsRow (FirstAnd P Q) 0 (piece ++ (codes "\n" ++ others))
line P Q piece others s r = row_more P Q 0 piece (codes "\n" ++ others) s refl (row_behind Q 0 (codes "\n") others refl r)

abbrev Nothing : List ℕ → List Tree → Type 0
Nothing text trees = trees ≡ []

abbrev Lines : ℕ → ℕ → ℕ → ℕ → List ℕ → List Tree → Type 0
Lines low high depth start =
    FirstAnd (λ text tree. command text [] tree ≡ Ok SetLogic) (FirstAnd (λ text tree. command text (SetLogic ∷ []) tree ≡ Ok (Declare node_pred))
    (FirstAnd (Asserts (ForAll (leaves_shape low high))) (FirstAnd (Asserts (ForAll parents_shape)) (FirstAnd (Asserts (Fits (root_shape depth start))) (FirstAnd Checks Nothing)))))

abbrev lines_text : ℕ → ℕ → ℕ → ℕ → List ℕ
lines_text low high depth start =
    logic_text ++ (codes "\n" ++ (declare_text ++ (codes "\n" ++ (assert_text (universal_text (leaves_shape low high)) ++ (codes "\n" ++ (assert_text (universal_text parents_shape) ++ (codes "\n"
    ++ (assert_text (text_of (root_shape depth start)) ++ (codes "\n" ++ (check_text ++ (codes "\n" ++ [])))))))))))

shows_lines : (low high depth start : ℕ) → low < 2 ^ 63 → high < 2 ^ 63 → depth < 2 ^ 63 → start < 2 ^ 63 → ShowsRow (Lines low high depth start) 0 (lines_text low high depth start)
shows_lines low high depth start l h e s =
    let end : List ℕ = check_text ++ (codes "\n" ++ []) in
    let root : List ℕ = assert_text (text_of (root_shape depth start)) ++ (codes "\n" ++ end) in
    let parents : List ℕ = assert_text (universal_text parents_shape) ++ (codes "\n" ++ root) in
    let leaves : List ℕ = assert_text (universal_text (leaves_shape low high)) ++ (codes "\n" ++ parents) in
    let declares : List ℕ = declare_text ++ (codes "\n" ++ leaves) in
    let Last : List ℕ → List Tree → Type 0 = FirstAnd Checks Nothing in
    let Root : List ℕ → List Tree → Type 0 = FirstAnd (Asserts (Fits (root_shape depth start))) Last in
    let Parents : List ℕ → List Tree → Type 0 = FirstAnd (Asserts (ForAll parents_shape)) Root in
    let Leaves : List ℕ → List Tree → Type 0 = FirstAnd (Asserts (ForAll (leaves_shape low high))) Parents in
    let Declares : List ℕ → List Tree → Type 0 = FirstAnd (λ text tree. command text (SetLogic ∷ []) tree ≡ Ok (Declare node_pred)) Leaves in
    line (λ text tree. command text [] tree ≡ Ok SetLogic) Declares logic_text declares shows_logic
    (line (λ text tree. command text (SetLogic ∷ []) tree ≡ Ok (Declare node_pred)) Leaves declare_text leaves shows_declare
    (line (Asserts (ForAll (leaves_shape low high))) Parents (assert_text (universal_text (leaves_shape low high))) parents
    (shows_assert (ForAll (leaves_shape low high)) (universal_text (leaves_shape low high)) (shows_universal 1 (leaves_shape low high) (omega arith) refl (fine_leaves low high l h)))
    (line (Asserts (ForAll parents_shape)) Root (assert_text (universal_text parents_shape)) root
    (shows_assert (ForAll parents_shape) (universal_text parents_shape) (shows_universal 1 parents_shape (omega arith) refl fine_parents))
    (line (Asserts (Fits (root_shape depth start))) Last (assert_text (text_of (root_shape depth start))) end
    (shows_assert (Fits (root_shape depth start)) (text_of (root_shape depth start)) (shows_closed 1 (root_shape depth start) refl (fine_root depth start e s)))
    (line Checks Nothing check_text [] shows_check (row_none Nothing 0 (λ text. refl)))))))

-- The text of a shape in front of a rest, without brackets between.

abbrev mutual
  onto : Shape → List ℕ → List ℕ
  onto (amount n) rest = decimal n ++ rest
  onto (letter k b) rest = b ∷ rest
  onto (atom args) rest = codes "(node" ++ args_onto args (41 ∷ rest)
  onto (apply op args) rest = 40 ∷ (operator_word op ++ args_onto args (41 ∷ rest))

  args_onto : Shapes → List ℕ → List ℕ
  args_onto no_shape rest = rest
  args_onto (one_more s ss) rest = 32 ∷ onto s (args_onto ss rest)

apart : (word args rest : List ℕ) → ((word ++ args) ++ 41 ∷ []) ++ rest ≡ word ++ (args ++ 41 ∷ rest)
apart word args rest = append_assoc (word ++ args) (41 ∷ []) rest ∙ append_assoc word args (41 ∷ rest)

mutual
  onto_is : (s : Shape) (rest : List ℕ) → text_of s ++ rest ≡ onto s rest
  onto_is (amount n) rest = refl
  onto_is (letter k b) rest = refl
  onto_is (atom args) rest = ap (λ (l : List ℕ). codes "(node" ++ l) (append_assoc (args_text args) (41 ∷ []) rest ∙ args_are args (41 ∷ rest))
  onto_is (apply op args) rest = ap (λ (l : List ℕ). 40 ∷ l) (apart (operator_word op) (args_text args) rest ∙ ap (λ (l : List ℕ). operator_word op ++ l) (args_are args (41 ∷ rest)))

  args_are : (args : Shapes) (rest : List ℕ) → args_text args ++ rest ≡ args_onto args rest
  args_are no_shape rest = refl
  args_are (one_more s ss) rest = ap (λ (l : List ℕ). 32 ∷ l) (append_assoc (text_of s) (args_text ss) rest ∙ onto_is s (args_text ss ++ rest) ∙ ap (onto s) (args_are ss rest))

digit : (n : ℕ) → n < 10 → decimal n ≡ (48 + n) ∷ []
digit n h = decimal_by_steps (λ m ds. m < 10 → ds ≡ (48 + m) ∷ []) (λ m l k. refl) (λ m ds l s k. absurd (omega (arith, l, k))) n (omega (arith, h)) h

universal_onto : (body : Shape) (rest : List ℕ) → assert_text (universal_text body) ++ rest ≡ codes "(assert (forall ((d Int) (i Int)) " ++ onto body (41 ∷ 41 ∷ rest)
universal_onto body rest =
    ap (λ (l : List ℕ). codes "(assert (forall ((d Int) (i Int)) " ++ l)
    (append_assoc (text_of body ++ 41 ∷ []) (41 ∷ []) rest ∙ append_assoc (text_of body) (41 ∷ []) (41 ∷ rest) ∙ onto_is body (41 ∷ 41 ∷ rest))

closed_onto : (s : Shape) (rest : List ℕ) → assert_text (text_of s) ++ rest ≡ codes "(assert " ++ onto s (41 ∷ rest)
closed_onto s rest = ap (λ (l : List ℕ). codes "(assert " ++ l) (append_assoc (text_of s) (41 ∷ []) rest ∙ onto_is s (41 ∷ rest))

-- The text that is generated.

flat : (a b c e rest : List ℕ) → (((a ++ b) ++ c) ++ e) ++ rest ≡ a ++ (b ++ (c ++ (e ++ rest)))
flat a b c e rest = append_assoc ((a ++ b) ++ c) e rest ∙ append_assoc (a ++ b) c (e ++ rest) ∙ append_assoc a b (c ++ (e ++ rest))

three : (a b c e : List ℕ) → ((a ++ b) ++ c) ++ e ≡ a ++ (b ++ (c ++ e))
three a b c e = append_assoc (a ++ b) c e ∙ append_assoc a b (c ++ e)

leaves_line : (low high : ℕ) (rest : List ℕ) → assert_text (universal_text (leaves_shape low high)) ++ (codes "\n" ++ rest) ≡ leaves_text low high ++ rest
leaves_line low high rest =
    universal_onto (leaves_shape low high) (codes "\n" ++ rest)
    ∙ ap (λ (z : List ℕ). codes "(assert (forall ((d Int) (i Int)) (=> (and (= d " ++ (z ++ (codes ") (<= " ++ (decimal low ++ (codes " i) (< i " ++ (decimal high ++ (codes ")) (node d i))))\n" ++ rest)))))))
    (digit 0 (lit< tt))
    ∙ sym (ap (λ (l : List ℕ). codes "(assert (forall ((d Int) (i Int)) (=> (and (= d 0) (<= " ++ l) (flat (decimal low) (codes " i) (< i ") (decimal high) (codes ")) (node d i))))\n") rest))

parents_line : (rest : List ℕ) → assert_text (universal_text parents_shape) ++ (codes "\n" ++ rest) ≡ parents_text ++ rest
parents_line rest =
    let told : List ℕ → List ℕ → List ℕ =
    λ a b. codes "(assert (forall ((d Int) (i Int)) (=> (and (node d (* " ++ (b ++ (codes " i)) (node d (+ (* " ++ (b ++ (codes " i) " ++ (a ++ (codes "))) (node (+ d " ++ (a ++ (codes ") i))))\n" ++ rest)))))))) in
    universal_onto parents_shape (codes "\n" ++ rest) ∙ ap (λ (a : List ℕ). told a (decimal 2)) (digit 1 (lit< tt)) ∙ ap (told (codes "1")) (digit 2 (lit< tt))

root_line : (depth start : ℕ) (rest : List ℕ) → assert_text (text_of (root_shape depth start)) ++ (codes "\n" ++ rest) ≡ root_text depth start ++ rest
root_line depth start rest =
    closed_onto (root_shape depth start) (codes "\n" ++ rest)
    ∙ sym (ap (λ (l : List ℕ). codes "(assert (not (node " ++ l) (flat (decimal depth) (codes " ") (decimal start) (codes ")))\n") rest))

abbrev pub low_of : ℕ → ℕ → ℕ
low_of depth seed = root_number seed * 2 ^ depth

abbrev pub high_of : ℕ → ℕ → ℕ
high_of depth seed = (root_number seed + 1) * 2 ^ depth

pub text_is : (depth seed : ℕ) → lines_text (low_of depth seed) (high_of depth seed) depth (root_number seed) ≡ generated_text depth seed
text_is depth seed =
    let front : List ℕ → List ℕ = λ l. codes "(set-logic HORN)\n(declare-fun node (Int Int) Bool)\n" ++ l in
    let end : List ℕ = codes "(check-sat)\n" in
    let root : List ℕ = assert_text (text_of (root_shape depth (root_number seed))) ++ (codes "\n" ++ end) in
    ap front (leaves_line (low_of depth seed) (high_of depth seed) (assert_text (universal_text parents_shape) ++ (codes "\n" ++ root))
    ∙ ap (λ (l : List ℕ). leaves_text (low_of depth seed) (high_of depth seed) ++ l) (parents_line root ∙ ap (λ (l : List ℕ). parents_text ++ l) (root_line depth (root_number seed) end))
    ∙ sym (three (leaves_text (low_of depth seed) (high_of depth seed)) parents_text (root_text depth (root_number seed)) end))

-- Its length.

start_small : (seed : ℕ) → root_number seed < 1000
start_small seed = omega arith

product_small : (depth n : ℕ) → depth ≤ 12 → n ≤ 1000 → n * 2 ^ depth ≤ 4096000
product_small depth n most h =
    let width : 2 ^ depth ≤ 2 ^ 12 = pow-le-pow_right (lit< tt) most in
    let m : n * 2 ^ depth ≤ 1000 * 2 ^ 12 = mul-le-mul h width in
    omega (arith, m)

five : (a b c e f : List ℕ) → length ((((a ++ b) ++ c) ++ e) ++ f) ≡ length a + (length b + (length c + (length e + length f)))
five a b c e f = omega (arith, length-append (((a ++ b) ++ c) ++ e) f, length-append ((a ++ b) ++ c) e, length-append (a ++ b) c, length-append a b)

pub text_short : (depth seed : ℕ) → depth ≤ 12 → length (generated_text depth seed) ≤ 2 ^ 24
text_short depth seed most =
    let root = root_number seed in
    let small : root < 1000 = start_small seed in
    let low = low_of depth seed in
    let high = high_of depth seed in
    let low_small : low ≤ 4096000 = product_small depth root most (omega (arith, small)) in
    let high_small : high ≤ 4096000 = product_small depth (root + 1) most (omega (arith, small)) in
    let whole : length (generated_text depth seed) ≡ 51 + (length (leaves_text low high) + (104 + (length (root_text depth root) + 12))) =
    five (codes "(set-logic HORN)\n(declare-fun node (Int Int) Bool)\n") (leaves_text low high) parents_text (root_text depth root) (codes "(check-sat)\n") in
    let leaves : length (leaves_text low high) ≡ 55 + (length (decimal low) + (9 + (length (decimal high) + 17))) =
    five (codes "(assert (forall ((d Int) (i Int)) (=> (and (= d 0) (<= ") (decimal low) (codes " i) (< i ") (decimal high) (codes ")) (node d i))))\n") in
    let query : length (root_text depth root) ≡ 19 + (length (decimal depth) + (1 + (length (decimal root) + 4))) =
    five (codes "(assert (not (node ") (decimal depth) (codes " ") (decimal root) (codes ")))\n") in
    let dl : length (decimal low) ≤ low + 1 = length-decimal-le_succ low (omega (arith, low_small)) in
    let dh : length (decimal high) ≤ high + 1 = length-decimal-le_succ high (omega (arith, high_small)) in
    let dd : length (decimal depth) ≤ depth + 1 = length-decimal-le_succ depth (omega (arith, most)) in
    let ds : length (decimal root) ≤ root + 1 = length-decimal-le_succ root (omega (arith, small)) in
    omega (arith, whole, leaves, query, dl, dh, dd, ds, low_small, high_small, most, small)

-- The commands.

step : (text : List ℕ) (before : List Command) (tree : Tree) (trees rest : List Tree) (c : Command) → trees ≡ tree ∷ rest → command text before tree ≡ Ok c → is_exit c ≡ false
    → outcome text None before trees ≡ outcome text None (before ++ c ∷ []) rest
step text before tree trees rest c row is stays =
    ap (outcome text None before) row
    ∙ ap (λ (o : Result Command Fault). after o (λ f. stops before (Some f)) (λ x. cond (is_exit x) (stops (before ++ x ∷ []) (end_fault text (before ++ x ∷ []))) (outcome text None (before ++ x ∷ []) rest))) is
    ∙ ap (λ t. cond t (stops (before ++ c ∷ []) (end_fault text (before ++ c ∷ []))) (outcome text None (before ++ c ∷ []) rest)) stays

-- the text is six commands, of which three assert terms of these shapes
pub record IsWritten (low high depth start : ℕ) (text : List ℕ) : Type 0 where
  pub at1 : ℕ
  pub leaves : Term
  pub leaves_fit : ForAll (leaves_shape low high) leaves
  pub at2 : ℕ
  pub parents : Term
  pub parents_fit : ForAll parents_shape parents
  pub at3 : ℕ
  pub root : Term
  pub root_fits : Fits (root_shape depth start) root
  pub is_script : IsScript text (SetLogic ∷ Declare node_pred ∷ Assert at1 leaves ∷ Assert at2 parents ∷ Assert at3 root ∷ CheckSat ∷ [])

written_by : (low high depth start : ℕ) (text : List ℕ) → length text ≤ 2 ^ 24 → (trees : List Tree) → IsReading text trees None → Lines low high depth start text trees → IsWritten low high depth start text
written_by low high depth start text short trees reading
    (t1, r1, e1, logic, (t2, r2, e2, declares, (t3, r3, e3, (s3, u3, p3, a3), (t4, r4, e4, (s4, u4, p4, a4), (t5, r5, e5, (s5, u5, p5, a5), (t6, r6, e6, checks, none)))))) =
    record {
      at1 = s3;
      leaves = u3;
      leaves_fit = p3;
      at2 = s4;
      parents = u4;
      parents_fit = p4;
      at3 = s5;
      root = u5;
      root_fits = p5;
      is_script = record {
        short = short;
        trees = trees;
        stop = None;
        reading = reading;
        legal = step text [] t1 trees r1 SetLogic e1 logic refl
            ∙ step text (SetLogic ∷ []) t2 r1 r2 (Declare node_pred) e2 declares refl
            ∙ step text (SetLogic ∷ Declare node_pred ∷ []) t3 r2 r3 (Assert s3 u3) e3 (a3 (SetLogic ∷ Declare node_pred ∷ []) refl refl refl) refl
            ∙ step text (SetLogic ∷ Declare node_pred ∷ Assert s3 u3 ∷ []) t4 r3 r4 (Assert s4 u4) e4 (a4 (SetLogic ∷ Declare node_pred ∷ Assert s3 u3 ∷ []) refl refl refl) refl
            ∙ step text (SetLogic ∷ Declare node_pred ∷ Assert s3 u3 ∷ Assert s4 u4 ∷ []) t5 r4 r5 (Assert s5 u5) e5 (a5 (SetLogic ∷ Declare node_pred ∷ Assert s3 u3 ∷ Assert s4 u4 ∷ []) refl refl refl) refl
            ∙ step text (SetLogic ∷ Declare node_pred ∷ Assert s3 u3 ∷ Assert s4 u4 ∷ Assert s5 u5 ∷ []) t6 r5 r6 CheckSat e6
            (checks (SetLogic ∷ Declare node_pred ∷ Assert s3 u3 ∷ Assert s4 u4 ∷ Assert s5 u5 ∷ []) refl refl) refl
            ∙ ap (outcome text None (SetLogic ∷ Declare node_pred ∷ Assert s3 u3 ∷ Assert s4 u4 ∷ Assert s5 u5 ∷ CheckSat ∷ [])) none;
      };
    }

pub written : (depth seed : ℕ) → depth ≤ 12 → IsWritten (low_of depth seed) (high_of depth seed) depth (root_number seed) (generated_text depth seed)
written depth seed most =
    let root = root_number seed in
    let small : root < 1000 = start_small seed in
    let low_small : low_of depth seed ≤ 4096000 = product_small depth root most (omega (arith, small)) in
    let high_small : high_of depth seed ≤ 4096000 = product_small depth (root + 1) most (omega (arith, small)) in
    let row = shows_lines (low_of depth seed) (high_of depth seed) depth root (omega (arith, low_small)) (omega (arith, high_small)) (omega (arith, most)) (omega (arith, small)) in
    let same = subst (λ (l : List ℕ). ShowsRow (Lines (low_of depth seed) (high_of depth seed) depth root) 0 l) (text_is depth seed) row in
    let found = whole_text (Lines (low_of depth seed) (high_of depth seed) depth root) (generated_text depth seed) same in
    written_by (low_of depth seed) (high_of depth seed) depth root (generated_text depth seed) (text_short depth seed most) found.0 found.1 found.2
