-- Predicates found by name in a map.
use Rattle.std.proofs.Common.{◌≡◌, ◌+◌, ◌<◌, ℕ, List, [], ◌∷◌, length, Bool, true, false, cond, Some, refl, ap, ◌∙◌, arith, Option, if◌then◌else◌}
use Rattle.std.specs.Map.{lookup}
use Rattle.keyed_hash.specs.declared.name.NameKey.{NameKey}
use Rattle.std.specs.Str.{bytes_eq}
use Rattle.term_tree.specs.declared.script.Pred.{Pred}
use Rattle.term_check.specs.Spelling.{pred_from}
use Rattle.answer_text.specs.machinery.Places.{AreNumbers}

abbrev pub same_name : NameKey → NameKey → Bool
same_name a b = bytes_eq a.bytes.now b.bytes.now

abbrev Entries : Type 0
Entries = List (NameKey × ℕ)

chosen : (own : Bool) (n : ℕ) (rest : Option ℕ) → cond own (Some n) rest ≡ (if own then Some n else rest)
chosen true n rest = refl
chosen false n rest = refl

-- one more predicate, in front
pub number_added : (n : ℕ) (p : Pred) (preds : List Pred) (es new : Entries) (key : NameKey) → AreNumbers (n + 1) preds es
    → ((q : NameKey) → lookup (same_name q) new ≡ cond (same_name key q) (Some n) (lookup (same_name q) es)) → key.bytes.now ≡ p.name.bytes → AreNumbers n (p ∷ preds) new
number_added n p preds es new key found set bytes name =
    set (record { bytes = record (key.bytes) { now = name } }) ∙ ap (λ (k : List ℕ). cond (bytes_eq k name) (Some n) (lookup (λ k. bytes_eq name k.bytes.now) es)) bytes
    ∙ ap (cond (bytes_eq p.name.bytes name) (Some n)) (found name) ∙ chosen (bytes_eq p.name.bytes name) n (pred_from (n + 1) name preds)

-- what is found is there
found_within : (n : ℕ) (name : List ℕ) (preds : List Pred) (k : ℕ) → pred_from n name preds ≡ Some k → k < n + length preds
found_within n name [] k h = absurd (cc)
found_within n name (p ∷ preds) k h = by (bytes_eq p.name.bytes name) h (found_within (n + 1) name preds k)
  where
    by : (b : Bool) → cond b (Some n) (pred_from (n + 1) name preds) ≡ Some k → (pred_from (n + 1) name preds ≡ Some k → k < n + 1 + length preds) → k < n + length (p ∷ preds)
    by true e later = let same : n ≡ k = cc in omega (arith, same)
    by false e later = omega (arith, later e)

pub found_there : (name : List ℕ) (preds : List Pred) (k : ℕ) → pred_from 0 name preds ≡ Some k → k < length preds
found_there name preds k h = omega (arith, found_within 0 name preds k h)
