-- Five appends, one after another.
use Rattle.std.proofs.Common.{◌≡◌, ℕ, List, ◌++◌, ap, ◌∙◌, append_assoc}

pub five : (o m1 m2 m3 m4 m5 a b c d e : List ℕ) → m1 ≡ o ++ a → m2 ≡ m1 ++ b → m3 ≡ m2 ++ c → m4 ≡ m3 ++ d → m5 ≡ m4 ++ e → m5 ≡ o ++ ((((a ++ b) ++ c) ++ d) ++ e)
five o m1 m2 m3 m4 m5 a b c d e h1 h2 h3 h4 h5 =
    let two : m2 ≡ o ++ (a ++ b) = h2 ∙ ap (λ (l : List ℕ). l ++ b) h1 ∙ append_assoc o a b in
    let three : m3 ≡ o ++ ((a ++ b) ++ c) = h3 ∙ ap (λ (l : List ℕ). l ++ c) two ∙ append_assoc o (a ++ b) c in
    let four : m4 ≡ o ++ (((a ++ b) ++ c) ++ d) = h4 ∙ ap (λ (l : List ℕ). l ++ d) three ∙ append_assoc o ((a ++ b) ++ c) d in
    h5 ∙ ap (λ (l : List ℕ). l ++ e) four ∙ append_assoc o (((a ++ b) ++ c) ++ d) e
