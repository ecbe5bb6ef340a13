-- What the parts of a term in the text are: numbers among its arguments, and parts of its node.
use Rattle.std.proofs.Common.{◌≡◌, ℕ, ◌==◌, List, [], ◌∷◌, map, Bool, true, false, ◌||◌, inl, inr, refl, ap, sym, ◌∙◌}
use Rattle.std.specs.Prelude.{if◌then◌else◌}
use Rattle.std.specs.List.{list_all}
use Rattle.std.proofs.lemmas.Bool.{eqb-true}
use Rattle.term_tree.specs.declared.node.TermId.{TermId}
use Rattle.term_tree.specs.declared.node.OpKind.{OpKind}
use Rattle.term_tree.specs.declared.node.OpKind.TheVariants.{Xor, Eq, Distinct, Ite}
use Rattle.term_tree.specs.declared.node.Node.{Node}
use Rattle.term_tree.specs.declared.node.Node.TheVariants.{Num, True, False, Var, LetVar, Pred, Op, Divisible, Let, Forall, Exists}
use Rattle.term_tree.specs.Subterms.{is_among, is_part}
use Rattle.term_tree.proofs.Public.{both_true, eqb_self}
use Rattle.horn_shape.specs.Plain.{node_is_plain}
use Rattle.horn_shape.proofs.KnownLemmas.{among_plain}
use Rattle.linear_terms.specs.declared.standing.Spot.{Spot}
use Rattle.linear_terms.specs.declared.standing.Standing.{Standing}
use Rattle.linear_terms.specs.declared.standing.Standing.TheVariants.{Plain, Bit, Argument}
use Rattle.linear_terms.specs.Text.{Sorting, are_truths, chosen, inner_spots, operands, spot_as}
use Rattle.clause_laws.proofs.EnteredLemmas.{IsIn, in_both}

pub id_same : (a b : Spot) → a ≡ b → a.id ≡ b.id
id_same a b same = ap (λ (s : Spot). s.id) same

pub or_right : (x y : Bool) → y ≡ true → (x || y) ≡ true
or_right true y h = refl
or_right false y h = h

pub mapped_among : (standing : Standing) (ids : List TermId) (part : Spot) → IsIn part (map (spot_as standing) ids) → is_among part.id ids ≡ true
mapped_among standing [] part h = absurd h
mapped_among standing (id ∷ ids) part (inl same) =
    ap (λ (k : ℕ). is_among k (id ∷ ids)) (id_same part (spot_as standing id) same) ∙ ap (λ (b : Bool). b || is_among id.0 ids) (eqb_self id.0)
mapped_among standing (id ∷ ids) part (inr later) = or_right (id.0 == part.id) (is_among part.id ids) (mapped_among standing ids part later)

pub chosen_among : (ids : List TermId) (part : Spot) → IsIn part (chosen ids) → is_among part.id ids ≡ true
chosen_among [] part h = absurd h
chosen_among (id ∷ ids) part (inl same) = ap (λ (k : ℕ). is_among k (id ∷ ids)) (id_same part (spot_as Bit id) same) ∙ ap (λ (b : Bool). b || is_among id.0 ids) (eqb_self id.0)
chosen_among (id ∷ ids) part (inr later) = or_right (id.0 == part.id) (is_among part.id ids) (mapped_among Plain ids part later)

pub operand_among : (sorts : Sorting) (args : List TermId) (part : Spot) (op : OpKind) → IsIn part (operands sorts op args) → is_among part.id args ≡ true
operand_among sorts args part Xor h = mapped_among Bit args part h
operand_among sorts args part Eq h = mapped_among (if are_truths sorts args then Bit else Plain) args part h
operand_among sorts args part Distinct h = mapped_among (if are_truths sorts args then Bit else Plain) args part h
operand_among sorts args part Ite h = chosen_among args part h
operand_among sorts args part _ h = mapped_among Plain args part h

pub one_spot : (id : TermId) (part : Spot) → IsIn part (spot_as Plain id ∷ []) → part ≡ spot_as Plain id
one_spot id part (inl same) = same
one_spot id part (inr none) = absurd none

pub part_of_inner : (sorts : Sorting) (node : Node) (part : Spot) → IsIn part (inner_spots sorts node) → is_part part.id node ≡ true
part_of_inner sorts (Pred pred args) part h = mapped_among Argument args part h
part_of_inner sorts (Op op args) part h = operand_among sorts args part op h
part_of_inner sorts (Divisible by arg) part h = ap (λ (k : ℕ). arg.0 == k) (id_same part (spot_as Plain arg) (one_spot arg part h)) ∙ eqb_self arg.0
part_of_inner sorts (Let bound body) part h = elim (in_both part (map (spot_as Bit) bound) (spot_as Plain body ∷ []) h) [
  | inl bit ↦ ap (λ (b : Bool). b || (body.0 == part.id)) (mapped_among Bit bound part bit)
  | inr last ↦ or_right (is_among part.id bound) (body.0 == part.id) (ap (λ (k : ℕ). body.0 == k) (id_same part (spot_as Plain body) (one_spot body part last)) ∙ eqb_self body.0)
]
part_of_inner sorts (Forall first kinds body) part h = ap (λ (k : ℕ). body.0 == k) (id_same part (spot_as Plain body) (one_spot body part h)) ∙ eqb_self body.0
part_of_inner sorts (Exists first kinds body) part h = ap (λ (k : ℕ). body.0 == k) (id_same part (spot_as Plain body) (one_spot body part h)) ∙ eqb_self body.0
part_of_inner sorts (Num n) part h = absurd h
part_of_inner sorts True part h = absurd h
part_of_inner sorts False part h = absurd h
part_of_inner sorts (Var binder sort) part h = absurd h
part_of_inner sorts (LetVar bound) part h = absurd h

pub plain_below : (f : ℕ → Bool) (node : Node) (part : ℕ) → node_is_plain f node ≡ true → is_part part node ≡ true → f part ≡ true
plain_below f (LetVar bound) part plain has = ap f (sym (eqb-true bound.0 part has)) ∙ plain
plain_below f (Op op args) part plain has = among_plain f part args plain has
plain_below f (Divisible by arg) part plain has = ap f (sym (eqb-true arg.0 part has)) ∙ plain
plain_below f (Let bound body) part plain has =
    let both = both_true (list_all (λ a. f a.0) bound) (f body.0) plain in
    by_test (is_among part bound) refl has both.0 both.1
  where
    by_test : (b : Bool) → is_among part bound ≡ b → (b || (body.0 == part)) ≡ true → list_all (λ a. f a.0) bound ≡ true → f body.0 ≡ true → f part ≡ true
    by_test true among h all last = among_plain f part bound all among
    by_test false none h all last = ap f (sym (eqb-true body.0 part h)) ∙ last
plain_below f _ part plain has = absurd (cc)
