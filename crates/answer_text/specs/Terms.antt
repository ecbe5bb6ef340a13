-- How terms are printed: a function by cases on the node, over the texts of its parts (SMT-LIB 2.6, section 3.6).
use Rattle.std.specs.Prelude.{ℕ, List, [], ◌∷◌, ◌++◌, ℤ, codes, decimal, slice_index_or}
use Rattle.term_tree.specs.declared.node.OpKind.{OpKind}
use Rattle.term_tree.specs.declared.node.OpKind.TheVariants.{Not, And, Or, Xor, Implies, Eq, Distinct, Ite, Add, Mul, Sub, Abs, Div, Mod, Le, Lt, Ge, Gt}
use Rattle.term_tree.specs.declared.node.Node.{Node}
use Rattle.term_tree.specs.declared.node.Node.TheVariants.{Num, True, False, Var, LetVar, Pred, Op, Divisible, Let, Forall, Exists}
use Rattle.answer_text.specs.Names.{number_text, after_spaces}

-- the functions of the theories Core and Ints
abbrev pub operator_word : OpKind → List ℕ
operator_word Not = codes "not"
operator_word And = codes "and"
operator_word Or = codes "or"
operator_word Xor = codes "xor"
operator_word Implies = codes "=>"
operator_word Eq = codes "="
operator_word Distinct = codes "distinct"
operator_word Ite = codes "ite"
operator_word Add = codes "+"
operator_word Mul = codes "*"
operator_word Sub = codes "-"
operator_word Abs = codes "abs"
operator_word Div = codes "div"
operator_word Mod = codes "mod"
operator_word Le = codes "<="
operator_word Lt = codes "<"
operator_word Ge = codes ">="
operator_word Gt = codes ">"

-- x0, x1, ..
abbrev pub parameter_name : ℕ → List ℕ
parameter_name n = codes "x" ++ decimal n

-- the opening of an application of divisibility by that number: (_ divisible n) as its head, and a space behind
abbrev pub divisible_text : ℤ → List ℕ
divisible_text by = codes "((_ divisible " ++ number_text by ++ codes ") "

-- one node, with the text of each part in its place. The terms of definitions have no predicate, quantifier or `let`,
-- and these have no text
abbrev pub node_text : (ℕ → List ℕ) → Node → List ℕ
node_text part (Num n) = number_text n
node_text part True = codes "true"
node_text part False = codes "false"
node_text part (Var binder sort) = parameter_name binder
node_text part (LetVar bound) = []
node_text part (Pred pred args) = []
node_text part (Op op args) = codes "(" ++ operator_word op ++ after_spaces (λ arg. part arg.0) args ++ codes ")"
node_text part (Divisible by arg) = divisible_text by ++ part arg.0 ++ codes ")"
node_text part (Let bound body) = []
node_text part (Forall first sorts body) = []
node_text part (Exists first sorts body) = []

-- the text of the term of that number, where these are the texts of the terms so far
abbrev pub text_in : List (List ℕ) → ℕ → List ℕ
text_in earlier id = slice_index_or earlier id []

-- the texts of the nodes, in order, each over those before it
abbrev pub texts_from : List (List ℕ) → List Node → List (List ℕ)
texts_from earlier [] = earlier
texts_from earlier (node ∷ nodes) = texts_from (earlier ++ node_text (text_in earlier) node ∷ []) nodes

-- the text of the term of that number; empty where there is no such term
abbrev pub term_text : List Node → ℕ → List ℕ
term_text nodes = text_in (texts_from [] nodes)
