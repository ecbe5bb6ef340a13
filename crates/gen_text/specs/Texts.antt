-- The text of a generated script.
use Rattle.std.specs.Prelude.{ℕ, ◌+◌, ◌*◌, ◌^◌, List, ◌++◌, codes, decimal}
use Rattle.clause_gen.specs.Generated.{root_number}

abbrev pub leaves_text : ℕ → ℕ → List ℕ
leaves_text low high =
    codes "(assert (forall ((d Int) (i Int)) (=> (and (= d 0) (<= " ++ decimal low ++ codes " i) (< i " ++ decimal high ++ codes ")) (node d i))))\n"

abbrev pub parents_text : List ℕ
parents_text = codes "(assert (forall ((d Int) (i Int)) (=> (and (node d (* 2 i)) (node d (+ (* 2 i) 1))) (node (+ d 1) i))))\n"

abbrev pub root_text : ℕ → ℕ → List ℕ
root_text depth start = codes "(assert (not (node " ++ decimal depth ++ codes " " ++ decimal start ++ codes ")))\n"

abbrev pub script_text : ℕ → ℕ → ℕ → ℕ → List ℕ
script_text low high depth start =
    codes "(set-logic HORN)\n(declare-fun node (Int Int) Bool)\n" ++ leaves_text low high ++ parents_text ++ root_text depth start ++ codes "(check-sat)\n"

abbrev pub generated_text : ℕ → ℕ → List ℕ
generated_text depth seed = script_text (root_number seed * 2 ^ depth) ((root_number seed + 1) * 2 ^ depth) depth (root_number seed)
