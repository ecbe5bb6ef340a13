-- The bit of a Bool term is 1 where the term is true, and 0 where it is false.
use Rattle.std.proofs.Common.{◌≡◌, ℕ, ◌<◌, List, length, Bool, true, false, refl, ap, sym, ◌∙◌}
use Rattle.std.specs.Prelude.{slice_get, Option, Some, None, nat_lt, ℤ}
use Rattle.term_tree.specs.declared.sort.Sort.{Sort}
use Rattle.term_tree.specs.declared.node.Node.{Node}
use Rattle.term_tree.specs.declared.node.Node.TheVariants.{Num, True, False, Var, LetVar, Pred, Op, Divisible, Let, Forall, Exists}
use Rattle.term_tree.specs.Arena.{IsArena, has_parts_below}
use Rattle.term_tree.specs.Subterms.{IsSubterm}
use Rattle.term_tree.specs.Value.{Environment, node_worth, value_of}
use Rattle.term_tree.proofs.Public.{arena_below, there_is}
use Rattle.term_tree.proofs.Public.{value_at}
use Rattle.lin_atoms.specs.Linear.{Linear, variable_at}
use Rattle.lin_atoms.specs.Linear.{value_at as worth_at}
use Rattle.linear_terms.specs.Text.{is_ready}
use Rattle.linear_terms.specs.Linear.{Naming, bit_form, bare_bit, bit_of, told_bit}
use Rattle.linear_terms.specs.Meeting.{number, MeetsVariables, MeetsBelow}
use Rattle.linear_terms.proofs.PartLemmas.{bit_at}
use Rattle.linear_terms.proofs.LinearLemmas.{variable_value}

ready_value : (nodes : List Node) (env : Environment) (naming : Naming) (point : List ℤ) (part : ℕ) (node : Node) → is_ready node ≡ true
    → ((binder : ℕ) (sort : Sort) → node ≡ Var binder sort → variable_at point (naming.own binder) ≡ number (env binder))
    → worth_at point (bare_bit naming (told_bit naming nodes) node) ≡ number (node_worth (value_of nodes) node env)
ready_value nodes env naming point part (Num n) ready variables = absurd (cc)
ready_value nodes env naming point part True ready variables = refl
ready_value nodes env naming point part False ready variables = refl
ready_value nodes env naming point part (Var binder sort) ready variables = variable_value point (naming.own binder) ∙ variables binder sort refl
ready_value nodes env naming point part (LetVar bound) ready variables = absurd (cc)
ready_value nodes env naming point part (Pred pred args) ready variables = absurd (cc)
ready_value nodes env naming point part (Op op args) ready variables = absurd (cc)
ready_value nodes env naming point part (Divisible by arg) ready variables = absurd (cc)
ready_value nodes env naming point part (Let bound body) ready variables = absurd (cc)
ready_value nodes env naming point part (Forall first sorts body) ready variables = absurd (cc)
ready_value nodes env naming point part (Exists first sorts body) ready variables = absurd (cc)

found_value : (point : List ℤ) (bare : Linear) (n : ℤ) (ready : Bool) → (found : Option ℕ) → ((v : ℕ) → found ≡ Some v → variable_at point v ≡ n)
    → (ready ≡ true → worth_at point bare ≡ n) → (ready ≡ false → (v : ℕ) × (found ≡ Some v)) → worth_at point (bit_form found bare) ≡ n
found_value point bare n ready (Some v) meets at_hand named = variable_value point v ∙ meets v refl
found_value point bare n true None meets at_hand named = at_hand refl
found_value point bare n false None meets at_hand named = let none : None ≡ Some (named refl).0 = (named refl).1 in absurd (cc)

-- of a part below n whose bit is at hand, or that has an auxiliary variable
pub bit_value : (nodes : List Node) → IsArena nodes → (top : ℕ) (env : Environment) (naming : Naming) (point : List ℤ) → MeetsVariables nodes top env naming point
    → (n : ℕ) → MeetsBelow nodes top n env naming point → (part : ℕ) → part < length nodes → IsSubterm nodes top part → nat_lt part n ≡ true
    → ((node : Node) → slice_get nodes part ≡ Some node → is_ready node ≡ false → (v : ℕ) × (naming.auxiliary part ≡ Some v))
    → worth_at point (bit_of naming nodes part) ≡ number (value_of nodes part env)
bit_value nodes arena top env naming point variables n meets part there sub within named =
    let found = there_is nodes part there in
    let node : Node = found.0 in
    let below : has_parts_below part node ≡ true = arena_below nodes part node arena found.1 in
    let value = value_at nodes part node env found.1 below in
    ap (worth_at point) (bit_at naming nodes part part node found.1 below)
    ∙ found_value point (bare_bit naming (told_bit naming nodes) node) (number (node_worth (value_of nodes) node env)) (is_ready node) (naming.auxiliary part)
    (λ v is. meets part v sub within is ∙ ap number value)
    (λ ready. ready_value nodes env naming point part node ready (λ binder sort same. variables part binder sort sub (found.1 ∙ ap (λ (m : Node). Some m) same)))
    (λ open_bit. named node found.1 open_bit)
    ∙ ap number (sym value)
