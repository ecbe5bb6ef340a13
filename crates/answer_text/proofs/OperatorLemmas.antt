-- Operators at arguments whose sorts and constants are known.
use Rattle.std.proofs.Common.{ℕ, suc, ℤ, pos, negsuc, ◌≡◌, ◌+◌, ◌^◌, ◌<◌, ◌*ℤ◌, nat_abs, nat_lt, nat_eq, List, [], ◌∷◌, length, map, true, false, cond, Option, Some, None, Ok, refl, ap, ◌∙◌, arith, codes, bytes_eq}
use Rattle.std.proofs.lemmas.Int.{ints}
use Rattle.std.specs.List.{AllByRecursion}
use Rattle.sexp_read.specs.declared.tree.LeafKind.TheVariants.{Symbol}
use Rattle.term_tree.specs.declared.sort.Sort.{Sort}
use Rattle.term_tree.specs.declared.sort.Sort.TheVariants.{Int as IntSort, Bool as BoolSort}
use Rattle.term_tree.specs.declared.node.OpKind.{OpKind}
use Rattle.term_tree.specs.declared.node.OpKind.TheVariants.{Not, And, Or, Xor, Implies, Eq, Distinct, Ite, Add, Mul, Sub, Abs, Div, Mod, Le, Lt, Ge, Gt}
use Rattle.term_tree.specs.declared.refusal.Kind.TheVariants.{Arity, SortMismatch}
use Rattle.term_tree.specs.Sorts.{same_sort}
use Rattle.term_check.specs.declared.part.Part.{Part}
use Rattle.term_check.specs.Operators.{operator_named}
use Rattle.term_check.specs.Rules.{fault, unless, worth, value_at, number_fault, first_not, operator_constant, part_of, wide_unless, without_value, if_short, multiplied, varying, applied}
use Rattle.term_check.specs.Words.{is_word_among, reserved_words}
use Rattle.term_check.proofs.Public.{below_is}
use Rattle.answer_text.specs.Terms.{operator_word}
use Rattle.answer_text.proofs.ShowLemmas.{Shows, IsLeaf}
use Rattle.answer_text.proofs.SpellLemmas.{shows_symbol}

-- what a part is to the term around it, but for its place
abbrev pub Kind : Type 0
Kind = Sort × Option ℤ

abbrev pub part_at : ℕ → Kind → Part
part_at start kind = record { start = start; sort = kind.0; constant = kind.1 }

abbrev pub parts_at : List ℕ → List Kind → List Part
parts_at [] kinds = []
parts_at (s ∷ starts) [] = []
parts_at (s ∷ starts) (k ∷ kinds) = part_at s k ∷ parts_at starts kinds

-- wherever its arguments start, the operator gives this
abbrev pub Takes : OpKind → List Kind → Kind → Type 0
Takes op kinds kind = (start : ℕ) (starts : List ℕ) → length starts ≡ length kinds → applied op start (parts_at starts kinds) ≡ Ok (part_at start kind)

abbrev pub Counts : OpKind → ℕ → Type 0
Counts op n = (start : ℕ) → number_fault op start n ≡ None

-- Words.

pub shows_operator : (depth : ℕ) (op : OpKind) → Shows (IsLeaf Symbol (operator_word op)) depth (operator_word op)
shows_operator depth Not = shows_symbol depth 110 (codes "ot") refl refl
shows_operator depth And = shows_symbol depth 97 (codes "nd") refl refl
shows_operator depth Or = shows_symbol depth 111 (codes "r") refl refl
shows_operator depth Xor = shows_symbol depth 120 (codes "or") refl refl
shows_operator depth Implies = shows_symbol depth 61 (codes ">") refl refl
shows_operator depth Eq = shows_symbol depth 61 [] refl refl
shows_operator depth Distinct = shows_symbol depth 100 (codes "istinct") refl refl
shows_operator depth Ite = shows_symbol depth 105 (codes "te") refl refl
shows_operator depth Add = shows_symbol depth 43 [] refl refl
shows_operator depth Mul = shows_symbol depth 42 [] refl refl
shows_operator depth Sub = shows_symbol depth 45 [] refl refl
shows_operator depth Abs = shows_symbol depth 97 (codes "bs") refl refl
shows_operator depth Div = shows_symbol depth 100 (codes "iv") refl refl
shows_operator depth Mod = shows_symbol depth 109 (codes "od") refl refl
shows_operator depth Le = shows_symbol depth 60 (codes "=") refl refl
shows_operator depth Lt = shows_symbol depth 60 [] refl refl
shows_operator depth Ge = shows_symbol depth 62 (codes "=") refl refl
shows_operator depth Gt = shows_symbol depth 62 [] refl refl

-- the word names its operator, and begins no form with binders
abbrev pub IsOperator : OpKind → List ℕ → Type 0
IsOperator op word =
    (bytes_eq word (codes "let") ≡ false) × (bytes_eq word (codes "forall") ≡ false) × (bytes_eq word (codes "exists") ≡ false) × (is_word_among reserved_words word ≡ false)
    × (operator_named word ≡ Some op)

pub operator_is : (op : OpKind) → IsOperator op (operator_word op)
operator_is Not = (refl, refl, refl, refl, refl)
operator_is And = (refl, refl, refl, refl, refl)
operator_is Or = (refl, refl, refl, refl, refl)
operator_is Xor = (refl, refl, refl, refl, refl)
operator_is Implies = (refl, refl, refl, refl, refl)
operator_is Eq = (refl, refl, refl, refl, refl)
operator_is Distinct = (refl, refl, refl, refl, refl)
operator_is Ite = (refl, refl, refl, refl, refl)
operator_is Add = (refl, refl, refl, refl, refl)
operator_is Mul = (refl, refl, refl, refl, refl)
operator_is Sub = (refl, refl, refl, refl, refl)
operator_is Abs = (refl, refl, refl, refl, refl)
operator_is Div = (refl, refl, refl, refl, refl)
operator_is Mod = (refl, refl, refl, refl, refl)
operator_is Le = (refl, refl, refl, refl, refl)
operator_is Lt = (refl, refl, refl, refl, refl)
operator_is Ge = (refl, refl, refl, refl, refl)
operator_is Gt = (refl, refl, refl, refl, refl)

-- Numbers of arguments.

some : (n : ℕ) → nat_lt (suc n) 1 ≡ false
some n = grind arith

pub counts_and : (n : ℕ) → Counts And (suc n)
counts_and n start = ap (λ t. cond t (Some (fault Arity start)) None) (some n)

pub counts_add : (n : ℕ) → Counts Add (suc n)
counts_add n start = ap (λ t. cond t (Some (fault Arity start)) None) (some n)

-- Sorts of arguments.

abbrev pub OfSort : Sort → Kind → Type 0
OfSort sort kind = same_sort kind.0 sort ≡ true

pub all_of_sort : (sort : Sort) (starts : List ℕ) (kinds : List Kind) → AllByRecursion (OfSort sort) kinds → first_not sort (parts_at starts kinds) ≡ None
all_of_sort sort [] kinds all = refl
all_of_sort sort (s ∷ starts) [] all = refl
all_of_sort sort (s ∷ starts) (k ∷ kinds) all = ap (λ t. cond t (first_not sort (parts_at starts kinds)) (Some (fault SortMismatch s))) all.0 ∙ all_of_sort sort starts kinds all.1

-- Single rules.

-- lists of starts as long as the kinds
one_start : (P : List ℕ → Type 0) → ((a : ℕ) → P (a ∷ [])) → (starts : List ℕ) → length starts ≡ 1 → P starts
one_start P f [] e = absurd (omega (arith, e))
one_start P f (a ∷ []) e = f a
one_start P f (a ∷ b ∷ starts) e = absurd (omega (arith, e))

two_starts : (P : List ℕ → Type 0) → ((a b : ℕ) → P (a ∷ b ∷ [])) → (starts : List ℕ) → length starts ≡ 2 → P starts
two_starts P f [] e = absurd (omega (arith, e))
two_starts P f (a ∷ []) e = absurd (omega (arith, e))
two_starts P f (a ∷ b ∷ []) e = f a b
two_starts P f (a ∷ b ∷ c ∷ starts) e = absurd (omega (arith, e))

three_starts : (P : List ℕ → Type 0) → ((a b c : ℕ) → P (a ∷ b ∷ c ∷ [])) → (starts : List ℕ) → length starts ≡ 3 → P starts
three_starts P f [] e = absurd (omega (arith, e))
three_starts P f (a ∷ []) e = absurd (omega (arith, e))
three_starts P f (a ∷ b ∷ []) e = absurd (omega (arith, e))
three_starts P f (a ∷ b ∷ c ∷ []) e = f a b c
three_starts P f (a ∷ b ∷ c ∷ d ∷ starts) e = absurd (omega (arith, e))

if_short_is : (k : ℤ) → nat_abs k < 2 ^ 63 → if_short k ≡ Some k
if_short_is k h = ap (λ t. cond t (Some k) None) (below_is (nat_abs k) (2 ^ 63) h)

pub takes_sub : (n : ℕ) → suc n < 2 ^ 63 → Takes Sub ((IntSort, Some (pos (suc n))) ∷ []) (IntSort, Some (negsuc n))
takes_sub n h start = one_start (λ l. applied Sub start (parts_at l ((IntSort, Some (pos (suc n))) ∷ [])) ≡ Ok (part_at start (IntSort, Some (negsuc n))))
    (λ a. ap (λ o. part_of start IntSort (wide_unless start o)) (if_short_is (negsuc n) h))

pub takes_ite : Takes Ite ((BoolSort, None) ∷ (IntSort, Some (pos 1)) ∷ (IntSort, Some (pos 0)) ∷ []) (IntSort, None)
takes_ite start = three_starts (λ l. applied Ite start (parts_at l ((BoolSort, None) ∷ (IntSort, Some (pos 1)) ∷ (IntSort, Some (pos 0)) ∷ [])) ≡ Ok (part_at start (IntSort, None))) (λ a b c. refl)

one_times : (k : ℤ) → pos 1 *ℤ k ≡ k
one_times k = omega (arith, ints)

pub takes_mul : (k : ℤ) → nat_abs k < 2 ^ 63 → Takes Mul ((IntSort, Some k) ∷ (IntSort, None) ∷ []) (IntSort, None)
takes_mul k h start = two_starts (λ l. applied Mul start (parts_at l ((IntSort, Some k) ∷ (IntSort, None) ∷ [])) ≡ Ok (part_at start (IntSort, None)))
    (λ a b. ap (λ o. part_of start IntSort (without_value (wide_unless start (multiplied o None)))) (ap if_short (one_times k) ∙ if_short_is k h))

pub takes_le : (c d : Option ℤ) → Takes Le ((IntSort, c) ∷ (IntSort, d) ∷ []) (BoolSort, None)
takes_le c d start = two_starts (λ l. applied Le start (parts_at l ((IntSort, c) ∷ (IntSort, d) ∷ [])) ≡ Ok (part_at start (BoolSort, None))) (λ a b. refl)

pub takes_eq : (c d : Option ℤ) → Takes Eq ((IntSort, c) ∷ (IntSort, d) ∷ []) (BoolSort, None)
takes_eq c d start = two_starts (λ l. applied Eq start (parts_at l ((IntSort, c) ∷ (IntSort, d) ∷ [])) ≡ Ok (part_at start (BoolSort, None))) (λ a b. refl)

pub takes_not : Takes Not ((BoolSort, None) ∷ []) (BoolSort, None)
takes_not start = one_start (λ l. applied Not start (parts_at l ((BoolSort, None) ∷ [])) ≡ Ok (part_at start (BoolSort, None))) (λ a. refl)

pub takes_and : (kinds : List Kind) → AllByRecursion (OfSort BoolSort) kinds → Takes And kinds (BoolSort, None)
takes_and kinds all start starts many = ap (λ o. unless o (Ok (part_at start (BoolSort, None)))) (all_of_sort BoolSort starts kinds all)

varies : (n : ℕ) → nat_eq (n + 1) 0 ≡ false
varies n = grind arith

pub takes_add : (kinds : List Kind) → AllByRecursion (OfSort IntSort) kinds → Takes Add ((IntSort, None) ∷ kinds) (IntSort, None)
takes_add kinds all start [] many = absurd (omega (arith, many))
takes_add kinds all start (a ∷ starts) many =
    let ps : List Part = parts_at starts kinds in
    ap (λ o. unless o (part_of start IntSort (operator_constant Add start (part_at a (IntSort, None) ∷ ps)))) (all_of_sort IntSort starts kinds all)
    ∙ ap (λ t. part_of start IntSort (cond t (wide_unless start (if_short (value_at Add (map worth (part_at a (IntSort, None) ∷ ps))))) (Ok None))) (varies (varying ps))
