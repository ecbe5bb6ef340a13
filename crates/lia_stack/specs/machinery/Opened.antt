-- The nodes of a search that aren't closed yet, and how their literals are numbered in the refutation.
use Rattle.std.specs.Prelude.{◌≡◌, ℕ, zero, suc, ◌+◌, ◌-◌, ◌≤◌, List, [], ◌∷◌, ◌++◌, map, take, drop, length, ℤ, pos, true, ◌==◌, slice_index_or, if◌then◌else◌}
use Rattle.std.specs.List.{list_all, list_any, range_with_len}
use Rattle.base.specs.Limits.{most_rows}
use Rattle.lin_atoms.specs.Linear.{of_constant}
use Rattle.lin_atoms.specs.Truth.{is_below, lit_is_below, lit_truth, truth}
use Rattle.lin_atoms.specs.declared.form.Form.{Form}
use Rattle.lin_atoms.specs.declared.lit.Lit.{Lit}
use Rattle.lin_atoms.specs.declared.lit.Lit.TheVariants.{Le}
use Rattle.int_rows.specs.Node.{end_of_quotients}
use Rattle.refutation_trees.specs.Flatten.{disjunctions, literals}
use Rattle.refutation_trees.specs.Refutation.{form_end, new_variable}
use Rattle.refutation_trees.specs.Split.{IsNode, Node}
use Rattle.lia_node.specs.Known.{are_known, has_short_constant}
use Rattle.lia_close.specs.Placed.{Place}
use Rattle.lia_close.specs.Said.{ArePlaced, AreReasons, named_by}
use Rattle.lia_close.specs.declared.written.Step.{Step}
use Rattle.lia_close.specs.declared.written.Step.TheVariants.{Named}
use Rattle.lia_stack.specs.Short.{has_short_multiples}
use Rattle.lia_stack.specs.declared.waiting.LeftOut.{LeftOut}
use Rattle.lia_stack.specs.declared.waiting.Open.{Open}

-- where there is no literal
abbrev pub no_lit : Lit
no_lit = Le (of_constant (pos 0))

abbrev pub left_lits : List LeftOut → List Lit
left_lits left = map (λ l. l.lit) left

abbrev pub left_numbers : List LeftOut → List ℕ
left_numbers left = map (λ l. l.number) left

-- what it is as a node of a split tree
abbrev pub node_of : Open → Node
node_of o = record { lits = o.lits; left_out = left_lits o.left_out; open_cases = o.cases }

-- a literal that becomes known joins as the last
abbrev pub with_lit : Open → Lit → Open
with_lit o lit = record o { lits = o.lits ++ lit ∷ []; numbers = o.numbers ++ o.known ∷ []; known = o.known + 1 }

abbrev pub with_lits : Open → List Lit → Open
with_lits o [] = o
with_lits o (lit ∷ lits) = with_lits (with_lit o lit) lits

-- one that was left out joins as the last
abbrev pub left_at : List LeftOut → ℕ → LeftOut
left_at left at = slice_index_or left at (record { lit = no_lit; number = 0 })

abbrev pub with_left_out : Open → ℕ → Open
with_left_out o at = record o { lits = o.lits ++ (left_at o.left_out at).lit ∷ []; numbers = o.numbers ++ (left_at o.left_out at).number ∷ []; left_out = take at o.left_out ++ drop (at + 1) o.left_out }

-- the next literal that has no reason yet
abbrev pub next_lit : Open → Lit
next_lit o = slice_index_or o.lits (length o.reasons) no_lit

abbrev pub next_number : Open → ℕ
next_number o = slice_index_or o.numbers (length o.reasons) 0

-- it gets its reason, and its quotient a name, where it has one
abbrev pub with_name : Open → Open
with_name o = if named_by (next_lit o) == 0 then record o { reasons = o.reasons ++ next_number o ∷ [] } else record o { reasons = o.reasons ++ o.known ∷ []; known = o.known + named_by (next_lit o) }

abbrev pub step_of_name : Open → List Step
step_of_name o = if named_by (next_lit o) == 0 then [] else Named (next_number o) ∷ []

-- n literals, one after the other
abbrev pub named_times : ℕ → Open → Open
named_times zero o = o
named_times (suc n) o = named_times n (with_name o)

abbrev pub steps_times : ℕ → Open → List Step
steps_times zero o = []
steps_times (suc n) o = step_of_name o ++ steps_times n (with_name o)

-- all that are left
abbrev pub all_named : Open → Open
all_named o = named_times (length o.lits - length o.reasons) o

abbrev pub steps_of_names : Open → List Step
steps_of_names o = steps_times (length o.lits - length o.reasons) o

-- the node below for a part of an open disjunction
abbrev pub opened_part : ℕ → Open → Form → Open
opened_part which o part = record (with_lits o (literals part)) { cases = take which o.cases ++ (disjunctions part ++ drop (which + 1) o.cases) }

-- the literals that are left out, numbered on
abbrev pub left_from : ℕ → List Lit → List LeftOut
left_from at [] = []
left_from at (lit ∷ lits) = record { lit = lit; number = at } ∷ left_from (at + 1) lits

-- where a search begins: the first `taken` literals have joined
abbrev pub first_open : ℕ → List Lit → List (List Form) → Open
first_open taken lits cases = record {
  lits = take taken lits;
  numbers = range_with_len 0 (length (take taken lits));
  reasons = [];
  known = length lits;
  left_out = left_from (length (take taken lits)) (drop taken lits);
  cases = cases;
}

-- a node of the form's split trees, and where its tree stands in the refutation
pub record IsOpen (form : Form) (o : Open) (place : Place) : Type 0 where
  pub is_node : IsNode form (node_of o)
  -- what examining it asks
  pub known : are_known (form_end form) o.lits ≡ true
  pub short : list_all has_short_constant o.lits ≡ true
  -- what may join it
  pub left_below : list_all (lit_is_below (form_end form)) (left_lits o.left_out) ≡ true
  pub left_short : list_all has_short_constant (left_lits o.left_out) ≡ true
  pub cases_below : list_all (list_all (is_below (form_end form))) o.cases ≡ true
  pub cases_short : list_all (list_all has_short_multiples) o.cases ≡ true
  -- the form is true where all that it stands on is true
  pub covers : (point : List ℤ) → list_all (lit_truth point) o.lits ≡ true → list_all (lit_truth point) (left_lits o.left_out) ≡ true → list_all (list_any (truth point)) o.cases ≡ true → truth point form ≡ true
  -- where its tree stands
  pub each : length place.known ≡ o.known
  pub cases : place.cases ≡ o.cases
  pub placed : ArePlaced place.known o.lits o.numbers
  pub left_placed : ArePlaced place.known (left_lits o.left_out) (left_numbers o.left_out)
  -- the first literals have their reasons, and the quotients of these alone have names
  pub some : length o.reasons ≤ length o.lits
  pub reasons : AreReasons place.known (form_end form) (take (length o.reasons) o.lits) o.reasons
  pub fresh : new_variable (form_end form) place.known ≡ end_of_quotients (form_end form) (take (length o.reasons) o.lits)
  pub few : end_of_quotients (form_end form) (take (length o.reasons) o.lits) ≤ form_end form + most_rows

-- each of them, with its place
abbrev pub AreOpen : Form → List Open → List Place → Type 0
AreOpen form [] [] = Unit {0}
AreOpen form [] (place ∷ places) = ⊥
AreOpen form (o ∷ os) [] = ⊥
AreOpen form (o ∷ os) (place ∷ places) = IsOpen form o place × AreOpen form os places
