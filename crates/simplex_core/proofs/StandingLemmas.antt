-- Lists of standings as numbers in base 4.
use Rattle.std.proofs.Common.{◌≡◌, ℕ, suc, ◌*◌, ◌^◌, ◌<◌, List, [], ◌∷◌, length, refl, ap, sym, ◌∙◌, arith}
use Rattle.simplex_core.specs.machinery.Standing.{code, number, of_code}
use Rattle.simplex_core.specs.declared.standing.Standing.{Standing}
use Rattle.simplex_core.specs.declared.standing.Standing.TheVariants.{Basic, AtLower, AtUpper, AtZero}

code-below : (s : Standing) → code s < 4
code-below Basic = omega arith
code-below AtLower = omega arith
code-below AtUpper = omega arith
code-below AtZero = omega arith

of_code-code : (s : Standing) → of_code (code s) ≡ s
of_code-code Basic = refl
of_code-code AtLower = refl
of_code-code AtUpper = refl
of_code-code AtZero = refl

code-same : (s t : Standing) → code s ≡ code t → s ≡ t
code-same s t e = sym (of_code-code s) ∙ ap of_code e ∙ of_code-code t

power-more : (n : ℕ) → 4 ^ suc n ≡ 4 * 4 ^ n
power-more n = omega arith

pub number-below : (standings : List Standing) → number standings < 4 ^ length standings
number-below [] = omega arith
number-below (s ∷ standings) =
    let head = code-below s in
    let tail = number-below standings in
    omega (arith, power-more (length standings))

-- lists of one length have different numbers
pub number-same : (ss ts : List Standing) → length ss ≡ length ts → number ss ≡ number ts → ss ≡ ts
number-same [] [] e h = refl
number-same [] (t ∷ ts) e h = absurd (omega arith)
number-same (s ∷ ss) [] e h = absurd (omega arith)
number-same (s ∷ ss) (t ∷ ts) e h =
    let left = code-below s in
    let right = code-below t in
    let heads : code s ≡ code t = omega arith in
    let tails : number ss ≡ number ts = omega arith in
    ap (λ x. x ∷ ss) (code-same s t heads) ∙ ap (λ xs. t ∷ xs) (number-same ss ts (omega arith) tails)
