-- What multipliers of a conflict take closes the node.
use Rattle.std.proofs.Common.{◌≡◌, ℕ, ◌+◌, ◌*◌, List, [], ◌∷◌, ◌++◌, length, refl, ap, sym, ◌∙◌, subst, arith, append_assoc, append-nil, true}
use Rattle.std.specs.Prelude.{ℤ, pos, ◌<ℤ◌, int_lt, Some, slice_index_or}
use Rattle.std.specs.List.{list_all}
use Rattle.std.proofs.lemmas.List.Elements.{All-head, All-tail}
use Rattle.std.proofs.lemmas.Option.{get_or_from_slice_get}
use Rattle.lin_atoms.specs.Denial.{linear_of}
use Rattle.lin_atoms.specs.Linear.{is_short, of_constant}
use Rattle.lin_atoms.specs.declared.lit.Lit.{Lit}
use Rattle.lin_atoms.specs.declared.lit.Lit.TheVariants.{Le}
use Rattle.int_rows.specs.Node.{all_bounds, end_of_quotients, in_rows}
use Rattle.int_rows.specs.Ready.{bounded}
use Rattle.int_rows.specs.declared.bounds.Bounded.{Bounded}
use Rattle.int_rows.specs.declared.bounds.Ready.{Ready}
use Rattle.int_rows.specs.declared.bounds.Ready.TheVariants.{Bounds}
use Rattle.std.proofs.lemmas.Int.{ints}
use Rattle.refutation_trees.specs.declared.tree.Refutation.{Refutation}
use Rattle.refutation_trees.specs.declared.tree.Refutation.TheVariants.{Leaf}
use Rattle.simplex_core.specs.Meaning.{IsConflict, summed_bounds}
use Rattle.lia_node.specs.Known.{are_known, is_legal}
use Rattle.lia_node.specs.Nodes.{node_table}
use Rattle.lia_node.proofs.ColumnLemmas.{length-system}
use Rattle.lia_node.proofs.FitLemmas.{linear-parts, some-terms}
use Rattle.lia_close.specs.Placed.{IsSoundAt, Place}
use Rattle.lia_close.specs.Said.{AreReasons}
use Rattle.lia_close.specs.declared.leaf.Rounding.{Rounding}
use Rattle.lia_close.specs.declared.side.Taken.{Taken}
use Rattle.lia_close.specs.machinery.Closing.{AreOf, IsClosing, all_leaf, taken_into, under, with_taken}
use Rattle.lia_close.specs.machinery.Taken.{AreTaken, IsTaken, all_ready, all_taken, bound_on, rows_of}
use Rattle.lia_close.proofs.LeafLemmas.{closing-more, sound-closing}
use Rattle.lia_close.proofs.MadeLemmas.{legal-at, legal-linear, ready-bounds, reason-at}
use Rattle.lia_close.proofs.TakenLemmas.{taken-is}
use Rattle.lia_close.proofs.ThereLemmas.{all-of, all-there}

-- the literal of that number, and the number of its reason
abbrev lit_of : List Lit → Taken → Lit
lit_of lits taken = slice_index_or lits taken.literal (Le (of_constant (pos 0)))

abbrev reason_of : List ℕ → Taken → ℕ
reason_of reasons taken = slice_index_or reasons taken.literal 0

closing-one : (known lits : List Lit) (q : ℕ) (reasons : List ℕ) (before : List Taken) (taken : Taken) (leaf : List Rounding × List (ℕ × ℤ)) → list_all is_legal lits ≡ true → AreReasons known q lits reasons → IsClosing known (all_ready q lits) leaf.0 leaf.1 before → IsTaken (all_ready q lits) taken
    → let new = with_taken (lit_of lits taken) taken.side (reason_of reasons taken) (length known) taken.times leaf in IsClosing known (all_ready q lits) new.0 new.1 (before ++ taken ∷ [])
closing-one known lits q reasons before taken leaf legal are is here =
    let reason = reason-at known q lits reasons taken.literal here.bounded are here.there in
    let made = reason.made in
    let own = legal-at lits taken.literal made.lit legal made.there in
    let ordered = (linear-parts (linear_of made.lit) (legal-linear made.lit own)).0 in
    let some = some-terms (linear_of made.lit) made.variable in
    let there = here.there ∙ ap (λ (b : Bounded). Some (Bounds b)) made.is in
    let number : bound_on taken.side (bounded made.quotient made.lit) ≡ Some here.number = ap (bound_on taken.side) (sym made.is) ∙ here.bound in
    let more = closing-more known (all_ready q lits) leaf before made.quotient (reason_of reasons taken) made.lit taken is there own ordered some here.number number here.natural here.short reason.at in
    subst (λ (lit : Lit). let new = with_taken lit taken.side (reason_of reasons taken) (length known) taken.times leaf in IsClosing known (all_ready q lits) new.0 new.1 (before ++ taken ∷ []))
    (sym (get_or_from_slice_get lits taken.literal made.lit (Le (of_constant (pos 0))) made.there)) more

closing-all : (known lits : List Lit) (q : ℕ) (reasons : List ℕ) (before takens : List Taken) (leaf : List Rounding × List (ℕ × ℤ)) → list_all is_legal lits ≡ true → AreReasons known q lits reasons → IsClosing known (all_ready q lits) leaf.0 leaf.1 before → AreTaken (all_ready q lits) takens
    → let new = taken_into lits reasons (length known) takens leaf in IsClosing known (all_ready q lits) new.0 new.1 (before ++ takens)
closing-all known lits q reasons before [] leaf legal are is all = subst (λ (ts : List Taken). IsClosing known (all_ready q lits) leaf.0 leaf.1 ts) (sym (append-nil before)) is
closing-all known lits q reasons before (taken ∷ takens) leaf legal are is all =
    let one = closing-one known lits q reasons before taken leaf legal are is (All-head (IsTaken (all_ready q lits)) taken takens all) in
    let next = with_taken (lit_of lits taken) taken.side (reason_of reasons taken) (length known) taken.times leaf in
    subst (λ (ts : List Taken). let new = taken_into lits reasons (length known) takens next in IsClosing known (all_ready q lits) new.0 new.1 ts) (append_assoc before (taken ∷ []) takens)
    (closing-all known lits q reasons (before ++ taken ∷ []) takens next legal are one (All-tail (IsTaken (all_ready q lits)) taken takens all))

-- nothing is taken yet
closing-none : (known lits : List Lit) (q : ℕ) → IsClosing known (all_ready q lits) [] [] []
closing-none known lits q = record { legal = refl; multipliers = refl; value = λ point. refl }

true-less : (a b : ℤ) → a <ℤ b → int_lt a b ≡ true
true-less a b h = grind (arith, ints)

-- the tree for a conflict is sound wherever what gives the bounds is known
pub close-sound : (q : ℕ) (lits : List Lit) (reasons : List ℕ) (ms : List ℤ) (place : Place) → list_all is_legal lits ≡ true → are_known q lits ≡ true → IsConflict (node_table q lits) ms → list_all is_short ms ≡ true → AreReasons place.known q lits reasons
    → let leaf = all_leaf lits reasons (length place.known) (all_taken (all_ready q lits) ms (end_of_quotients q lits)) in IsSoundAt q place (under leaf.0 (Leaf leaf.1))
close-sound q lits reasons ms place legal known is short are =
    let takens = all_taken (all_ready q lits) ms (end_of_quotients q lits) in
    let leaf = all_leaf lits reasons (length place.known) takens in
    let closing = closing-all place.known lits q reasons [] takens ([], []) legal are (closing-none place.known lits q) (all-there q lits ms is short) in
    sound-closing q place (all_ready q lits) leaf.0 leaf.1 takens (summed_bounds (node_table q lits) ms) closing (λ point. taken-is q lits ms point legal known is) (true-less (pos 0) (summed_bounds (node_table q lits) ms) is.above)

-- as the code puts it together
pub closed-by : (q : ℕ) (lits : List Lit) (reasons : List ℕ) (ms : List ℤ) (place : Place) (known variables : ℕ) (readied : List Ready) (takens : List Taken) (leaf : List Rounding × List (ℕ × ℤ)) (tree : Refutation) → list_all is_legal lits ≡ true → are_known q lits ≡ true → IsConflict (node_table q lits) ms → list_all is_short ms ≡ true
    → readied ≡ all_ready q lits → variables ≡ end_of_quotients q lits → takens ≡ all_taken readied ms variables → leaf ≡ all_leaf lits reasons known takens → tree ≡ under leaf.0 (Leaf leaf.1) → length place.known ≡ known → AreReasons place.known q lits reasons → IsSoundAt q place tree
closed-by q lits reasons ms place known variables readied takens leaf tree legal is_known is short ready_is variables_is taken_is leaf_is tree_is long are =
    let all : leaf ≡ all_leaf lits reasons (length place.known) (all_taken (all_ready q lits) ms (end_of_quotients q lits)) =
    leaf_is ∙ ap (λ (k : ℕ). all_leaf lits reasons k takens) (sym long)
    ∙ ap (λ (ts : List Taken). all_leaf lits reasons (length place.known) ts) (taken_is ∙ ap (λ (rs : List Ready). all_taken rs ms variables) ready_is ∙ ap (λ (n : ℕ). all_taken (all_ready q lits) ms n) variables_is) in
    subst (λ (t : Refutation). IsSoundAt q place t) (sym (tree_is ∙ ap (λ (l : List Rounding × List (ℕ × ℤ)). under l.0 (Leaf l.1)) all)) (close-sound q lits reasons ms place legal is_known is short are)

-- two multipliers for each column
pub each-of : (q : ℕ) (lits : List Lit) (ms : List ℤ) (variables : ℕ) (readied : List Ready) → IsConflict (node_table q lits) ms → readied ≡ all_ready q lits → variables ≡ end_of_quotients q lits → length ms ≡ 2 * (variables + rows_of readied)
each-of q lits ms variables readied is ready_is variables_is =
    let n = end_of_quotients q lits in
    is.each ∙ ap (λ (k : ℕ). 2 * (n + k)) (length-system n (all_bounds q lits) ∙ ap (λ (cs : List Bounded). length (in_rows cs)) (sym (ready-bounds q lits)))
    ∙ ap (λ (k : ℕ). 2 * (k + rows_of (all_ready q lits))) (sym variables_is) ∙ ap (λ (rs : List Ready). 2 * (variables + rows_of rs)) (sym ready_is)

pub taken-of : (q : ℕ) (lits : List Lit) (ms : List ℤ) (variables : ℕ) (readied : List Ready) (takens : List Taken) → IsConflict (node_table q lits) ms → list_all is_short ms ≡ true → readied ≡ all_ready q lits → variables ≡ end_of_quotients q lits → takens ≡ all_taken readied ms variables → AreOf lits takens
taken-of q lits ms variables readied takens is short ready_is variables_is taken_is =
    subst (λ (ts : List Taken). AreOf lits ts) (sym (taken_is ∙ ap (λ (rs : List Ready). all_taken rs ms variables) ready_is ∙ ap (λ (n : ℕ). all_taken (all_ready q lits) ms n) variables_is))
    (all-of q lits (all_taken (all_ready q lits) ms (end_of_quotients q lits)) (all-there q lits ms is short))
