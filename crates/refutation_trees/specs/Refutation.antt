-- Refutations: trees that show that literals and open disjunctions have no common integer point. The leaves are Farkas' lemma, the rounding is that of Chvátal and Gomory; splits, cases and quotients are the case distinctions and names of integer programming.
use Rattle.std.specs.Prelude.{◌≡◌, ℕ, ◌+◌, ◌^◌, max, List, [], ◌∷◌, ◌++◌, ℤ, pos, int_le, nat_lt, Bool, true, false, ◌&&◌, slice_get, slice_index_or, length, take, drop, ◌==◌, if◌then◌else◌}
use Rattle.std.specs.List.{list_all}
use Rattle.std.specs.Option.{option_map_or}
use Rattle.lin_atoms.specs.Denial.{linear_of}
use Rattle.lin_atoms.specs.Truth.{truth}
use Rattle.lin_atoms.specs.declared.lit.Lit.{Lit}
use Rattle.lin_atoms.specs.declared.lit.Lit.TheVariants.{Le}
use Rattle.lin_atoms.specs.declared.form.Form.{Form}
use Rattle.lin_atoms.specs.declared.form.Form.TheOpen.{Form-F}
use Rattle.lin_atoms.specs.declared.form.Form.TheFolds.{fold-Form}
use Rattle.refutation_trees.specs.Combination.{are_multipliers, combined, is_above_zero, is_divided_by, is_division, lits_end, one_minus, quotient, terms_end}
use Rattle.int_rows.specs.Ready.{rounded}
use Rattle.refutation_trees.specs.Flatten.{disjunctions, literals}
use Rattle.refutation_trees.specs.declared.tree.Refutation.{Refutation}
use Rattle.refutation_trees.specs.declared.tree.Refutation.TheOpen.{Refutation-F}
use Rattle.refutation_trees.specs.declared.tree.Refutation.TheFolds.{fold-Refutation}

-- one more than the greatest variable of a form, 0 where there is none
abbrev pub greatest_of : List ℕ → ℕ
greatest_of [] = 0
greatest_of (n ∷ ns) = max n (greatest_of ns)

abbrev pub end_step : Form-F ℕ → ℕ
end_step Form-F.True = 0
end_step Form-F.False = 0
end_step (Form-F.Lit lit) = terms_end (linear_of lit).terms
end_step (Form-F.And parts) = greatest_of parts
end_step (Form-F.Or parts) = greatest_of parts

abbrev pub form_end : Form → ℕ
form_end = fold-Form ℕ end_step

-- what is found in a tree whose nodes are numbered in preorder: all nodes are as they must be, and a number is the next; or the first that isn't legal, or derives a literal without room
pub data Finding : Type 0 where
  Sound : ℕ → Finding
  Illegal : ℕ → Finding
  Wide : ℕ → Finding

abbrev pub is_sound : Finding → Bool
is_sound (Sound next) = true
is_sound (Illegal at) = false
is_sound (Wide at) = false

-- a tree, and then the next
abbrev pub followed_by : Finding → (ℕ → Finding) → Finding
followed_by (Sound next) judge = judge next
followed_by (Illegal at) judge = Illegal at
followed_by (Wide at) judge = Wide at

-- what is found in a tree: by the literals where it stands, the open disjunctions, and its number
abbrev pub Judge : Type 0
Judge = List Lit → List (List Form) → ℕ → Finding

-- a node that isn't legal, or else derives a literal without room, is found before those below it
abbrev pub checked : Bool → Bool → ℕ → Finding → Finding
checked legal room at below = if legal then (if room then below else Wide at) else Illegal at

-- one sub for each part of a disjunction: the part's literals come last, and its disjunctions stand in place of the one that was split
abbrev pub each_part : List Judge → List Form → ℕ → Judge
each_part [] parts which lits cases at = Sound at
each_part (sub ∷ subs) [] which lits cases at = Sound at
each_part (sub ∷ subs) (part ∷ parts) which lits cases at =
    followed_by (sub (lits ++ literals part) (take which cases ++ (disjunctions part ++ drop (which + 1) cases)) at) (each_part subs parts which lits cases)

-- the disjunction is there, and has as many parts as there are subs
abbrev pub has_parts : List (List Form) → ℕ → ℕ → Bool
has_parts cases which count = option_map_or (λ parts. length parts == count) (slice_get cases which) false

-- a new variable: above those of the form and of the literals
abbrev pub new_variable : ℕ → List Lit → ℕ
new_variable end lits = max end (lits_end lits)

-- the literal is there and says that a number divides a form or doesn't, and there is a number for the new variable
abbrev pub has_quotient : List Lit → ℕ → ℕ → Bool
has_quotient lits lit q = option_map_or is_division (slice_get lits lit) false && nat_lt q (2 ^ 32)

abbrev pub quotient_at : List Lit → ℕ → ℕ → List Lit
quotient_at lits lit q = option_map_or (quotient q) (slice_get lits lit) []

-- one node, with what is found in each of its subs. `has_room` tells of a derived literal whether it has room; `end` is above the form's variables
abbrev pub judge_step : (Lit → Bool) → ℕ → Refutation-F Judge → Judge
judge_step has_room end (Refutation-F.Leaf ms) lits cases at =
    checked (are_multipliers lits ms && is_above_zero (combined lits ms)) true at (Sound (at + 1))
judge_step has_room end (Refutation-F.Round ms d sub) lits cases at =
    let derived = Le (rounded d (combined lits ms)) in
    checked (are_multipliers lits ms && (int_le (pos 1) d && is_divided_by d (combined lits ms))) (has_room derived) at (sub (lits ++ derived ∷ []) cases (at + 1))
judge_step has_room end (Refutation-F.Split lin below above) lits cases at =
    checked true (has_room (Le lin) && has_room (Le (one_minus lin))) at
    (followed_by (below (lits ++ Le lin ∷ []) cases (at + 1)) (above (lits ++ Le (one_minus lin) ∷ []) cases))
judge_step has_room end (Refutation-F.Cases which subs) lits cases at =
    checked (has_parts cases which (length subs)) true at (each_part subs (slice_index_or cases which []) which lits cases (at + 1))
judge_step has_room end (Refutation-F.Quotient lit sub) lits cases at =
    let q = new_variable end lits in
    checked (has_quotient lits lit q) (list_all has_room (quotient_at lits lit q)) at (sub (lits ++ quotient_at lits lit q) cases (at + 1))

abbrev pub judged_at : (Lit → Bool) → ℕ → Refutation → Judge
judged_at has_room end = fold-Refutation Judge (judge_step has_room end)

-- a tree for a form, from the literals and disjunctions of the flattened form on
abbrev pub judged : (Lit → Bool) → Form → Refutation → Finding
judged has_room form tree = judged_at has_room (form_end form) tree (literals form) (disjunctions form) 0

-- a refutation of a form: each node is legal. No literal is too wide for it
abbrev pub is_refutation : Form → Refutation → Bool
is_refutation form tree = is_sound (judged (λ lit. true) form tree)

-- no integer point makes the form true
abbrev pub HasNoPoint : Form → Type 0
HasNoPoint form = (point : List ℤ) → truth point form ≡ false
