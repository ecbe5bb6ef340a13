-- A cut of a text, at offsets that may lie past its end.
use Rattle.std.proofs.Common.{ℕ, ◌≡◌, ◌-◌, ◌≤◌, length, List, [], ap, ◌∙◌, sym, take, drop, arith}
use Rattle.std.proofs.lemmas.List.{drop_all, length-drop, take_all}

pub cut_none : (text : List ℕ) (start end : ℕ) → end ≤ start → take (end - start) (drop start text) ≡ []
cut_none text start end h = let none : end - start ≡ 0 = omega arith in ap (λ n. take n (drop start text)) none

pub cut_past : (text : List ℕ) (start end : ℕ) → length text ≤ start → take (end - start) (drop start text) ≡ []
cut_past text start end h = ap (take (end - start)) (drop_all start text h) ∙ take_all (end - start) [] (omega arith)

pub cut_rest : (text : List ℕ) (start end : ℕ) → length text ≤ end → take (end - start) (drop start text) ≡ take (length text - start) (drop start text)
cut_rest text start end h =
    take_all (end - start) (drop start text) (omega (arith, length-drop start text)) ∙ sym (take_all (length text - start) (drop start text) (omega (arith, length-drop start text)))

pub ruleset cut = (cut_none, cut_past, cut_rest)
