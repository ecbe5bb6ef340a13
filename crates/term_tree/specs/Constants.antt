-- Constants, and which products and divisions are linear. A constant is a numeral, one of `+ - * abs div mod` of
-- constants, a name that a `let` binds to a constant, or a `let` whose body is one.
use Rattle.std.specs.Prelude.{ℕ, ◌+◌, ◌∷◌, List, [], map, length, slice_get, ℤ, pos, ◌*ℤ◌, Option, Some, None, option_map, Bool, true, false, not, ◌&&◌, nat_le, int_lt, if◌then◌else◌}
use Rattle.std.specs.List.{list_all}
use Rattle.std.specs.Ordering.{int_eq}
pub use Rattle.base.specs.Widths.{is_short}
use Rattle.term_tree.specs.declared.node.OpKind.{OpKind}
use Rattle.term_tree.specs.declared.node.OpKind.TheVariants.{Add, Mul, Sub, Abs, Div, Mod}
use Rattle.term_tree.specs.declared.node.Node.{Node}
use Rattle.term_tree.specs.declared.node.Node.TheVariants.{Num, LetVar, Op, Divisible, Let}
use Rattle.term_tree.specs.declared.scalar.Value.TheVariants.{Int}
use Rattle.term_tree.specs.Fold.{told_of}
use Rattle.term_tree.specs.Operators.{result_of, integer}
use Rattle.term_tree.specs.Width.{prefix_results}

-- all of them, where each is constant
abbrev pub all_constant : List (Option ℤ) → Option (List ℤ)
all_constant [] = Some []
all_constant (None ∷ given) = None
all_constant (Some n ∷ given) = option_map (λ ns. n ∷ ns) (all_constant given)

-- those that are constant
abbrev pub constants_among : List (Option ℤ) → List ℤ
constants_among [] = []
constants_among (None ∷ given) = constants_among given
constants_among (Some n ∷ given) = n ∷ constants_among given

-- the integer that an operator gives for integer arguments; 0 where its value is a truth value
abbrev pub integer_result : OpKind → List ℤ → ℤ
integer_result op ns = integer (result_of op (map (λ n. Int n) ns))

-- one of + - * abs div mod, the operators whose application to constants is a constant
abbrev pub is_arithmetic : OpKind → Bool
is_arithmetic Add = true
is_arithmetic Mul = true
is_arithmetic Sub = true
is_arithmetic Abs = true
is_arithmetic Div = true
is_arithmetic Mod = true
is_arithmetic _ = false

-- a node's value, if it is a constant, over those of its parts; variables, predicates, truth values and `ite` are none
abbrev pub node_constant : (ℕ → Option ℤ) → Node → Option ℤ
node_constant part (Num n) = Some n
node_constant part (LetVar bound) = part bound.0
node_constant part (Op op args) = if is_arithmetic op then option_map (integer_result op) (all_constant (map (λ arg. part arg.0) args)) else None
node_constant part (Let bound body) = part body.0
node_constant part _ = None

-- the value of a term that is a constant
abbrev pub constant_of : List Node → ℕ → Option ℤ
constant_of = told_of None node_constant

-- a constant is below 2 ^ 63 in magnitude; of a term that is none nothing is asked
abbrev pub is_short_constant : Option ℤ → Bool
is_short_constant None = true
is_short_constant (Some n) = is_short n

-- a divisor is a constant and not 0
abbrev pub is_divisor : Option (Option ℤ) → Bool
is_divisor (Some (Some n)) = not (int_eq n (pos 0))
is_divisor _ = false

-- at most one factor of a product isn't constant, and a divisor is a constant that isn't 0
abbrev pub is_linear : (ℕ → Option ℤ) → Node → Bool
is_linear part (Op Mul args) = nat_le (length args) (length (constants_among (map (λ arg. part arg.0) args)) + 1)
is_linear part (Op Div args) = is_divisor (slice_get (map (λ arg. part arg.0) args) 1)
is_linear part (Op Mod args) = is_divisor (slice_get (map (λ arg. part arg.0) args) 1)
is_linear part (Divisible by arg) = int_lt (pos 0) by
is_linear part _ = true

-- a constant is short, and so is each prefix of a product's constant factors
abbrev pub has_short_constants : (ℕ → Option ℤ) → Node → Bool
has_short_constants part (Op Mul args) =
    list_all is_short (prefix_results (λ a n. a *ℤ n) (pos 1) (constants_among (map (λ arg. part arg.0) args))) && is_short_constant (node_constant part (Op Mul args))
has_short_constants part node = is_short_constant (node_constant part node)
