-- What waits in a walk through a tree, and what is found in it.
use Rattle.std.specs.Prelude.{◌≡◌, ℕ, ◌+◌, List, [], ◌∷◌, ◌++◌, map, take, drop, Option, Some, None, Result, Ok, Err}
use Rattle.std.specs.List.{sum_by}
use Rattle.std.specs.Borrow.{Bor}
use Rattle.lin_atoms.specs.Denial.{lit_fits}
use Rattle.lin_atoms.specs.declared.form.Form.{Form}
use Rattle.refutation_trees.specs.Flatten.{disjunctions, literals}
use Rattle.refutation_trees.specs.Refutation.{Finding, Sound, Illegal, Wide, Judge, followed_by, judged_at}
use Rattle.farkas_proof.specs.declared.stop.CheckStop.{CheckStop}
use Rattle.farkas_proof.specs.declared.stop.CheckStop.TheVariants.{Memory as OutOfMemory, NoProof, SumWide}
use Rattle.refutation_trees.specs.declared.tree.Refutation.{Refutation}
use Rattle.refutation_trees.specs.machinery.Sizes.{size}
use Rattle.farkas_proof.specs.declared.walk.Work.{Work}
use Rattle.farkas_proof.specs.declared.walk.Work.TheVariants.{Tree, Under, Part, Forget, Reopen}
use Rattle.farkas_proof.specs.declared.walk.Walk.{Walk}

-- open disjunctions that are lent, as lists of their parts
abbrev pub opened : List (Bor (List Form)) → List (List Form)
opened cases = map (λ parts. parts.now) cases

-- the disjunctions with those of a part in place of the one that was split
abbrev pub replaced : List (List Form) → ℕ → Form → List (List Form)
replaced cases which part = take which cases ++ (disjunctions part ++ drop (which + 1) cases)

-- what waits next, and then the rest, from the literals and disjunctions where the walk stands
abbrev pub work_step : ℕ → Work → Judge → Judge
work_step end (Tree tree derived) rest lits cases at = followed_by (judged_at lit_fits end tree.now (lits ++ derived.items) cases at) (rest lits cases)
work_step end (Under tree lit) rest lits cases at = followed_by (judged_at lit_fits end tree.now (lits ++ lit ∷ []) cases at) (rest lits cases)
work_step end (Part tree part which) rest lits cases at = followed_by (judged_at lit_fits end tree.now (lits ++ literals part.now) (replaced cases which part.now) at) (rest lits cases)
work_step end (Forget depth) rest lits cases at = rest (take depth lits) cases at
work_step end (Reopen outside) rest lits cases at = rest lits (opened outside.items) at

abbrev pub nothing_left : Judge
nothing_left lits cases at = Sound at

-- all that waits, the last first
abbrev pub left_over : ℕ → Judge → List Work → Judge
left_over end rest [] = rest
left_over end rest (work ∷ works) = left_over end (work_step end work rest) works

abbrev pub left_to : ℕ → List Work → Judge
left_to end works = left_over end nothing_left works

-- what is found in all that waits, from the number of the next node on
abbrev pub after : Walk → ℕ → Finding
after walk = left_to walk.end walk.work.items walk.lits (opened walk.cases.items)

abbrev pub found : Walk → Finding
found walk = after walk walk.at

-- what is found where a tree comes next, and then all that waits
abbrev pub found_in : Walk → Refutation → Finding
found_in walk tree = followed_by (judged_at lit_fits walk.end tree walk.lits (opened walk.cases.items) walk.at) (after walk)

abbrev pub found_next : Walk → Option (Bor Refutation) → Finding
found_next walk None = found walk
found_next walk (Some tree) = found_in walk tree.now

-- what is found where something is to be done before all that waits
abbrev pub begun : Walk → Work → Finding
begun walk work = work_step walk.end work (left_to walk.end walk.work.items) walk.lits (opened walk.cases.items) walk.at

-- a turn keeps what is found, or stops at it, unless memory runs out
abbrev pub Leads : Finding → Finding → Result Unit CheckStop → Type 0
Leads before now (Ok _) = before ≡ now
Leads before now (Err OutOfMemory) = Unit {0}
Leads before now (Err (NoProof node)) = before ≡ Illegal node
Leads before now (Err (SumWide node)) = before ≡ Wide node

-- a node keeps what is found, and tells the tree that comes next, if any; or stops at it, unless memory runs out
abbrev pub GoesOn : Finding → Walk → Result (Option (Bor Refutation)) CheckStop → Type 0
GoesOn before walk (Ok next) = before ≡ found_next walk next
GoesOn before walk (Err OutOfMemory) = Unit {0}
GoesOn before walk (Err (NoProof node)) = before ≡ Illegal node
GoesOn before walk (Err (SumWide node)) = before ≡ Wide node

-- a tree that comes next, or the turn that ends one
abbrev pub size_of : Option (Bor Refutation) → ℕ
size_of None = 1
size_of (Some tree) = size tree.now

abbrev pub weight_of : Work → ℕ
weight_of (Tree tree derived) = size tree.now
weight_of (Under tree lit) = size tree.now
weight_of (Part tree part which) = size tree.now + 1
weight_of (Forget depth) = 1
weight_of (Reopen outside) = 1

abbrev pub weights : List Work → ℕ
weights works = sum_by weight_of works

abbrev pub weight : Walk → ℕ
weight walk = weights walk.work.items
