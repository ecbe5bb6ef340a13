-- The first in a list, by its number or by what is told of it.
use Rattle.std.specs.Prelude.{ℕ, ◌+◌, List, [], ◌∷◌, Bool, Option, Some, None, if◌then◌else◌}

-- the number of the first item that passes, where the list's numbers begin at n
abbrev pub number_from : {A : Type 0} → ℕ → (A → Bool) → List A → Option ℕ
number_from n test [] = None
number_from n test (x ∷ xs) = if test x then Some n else number_from (n + 1) test xs

-- the number, from 0, of the first item that passes; none where no item does
abbrev pub first_number : {A : Type 0} → (A → Bool) → List A → Option ℕ
first_number test xs = number_from 0 test xs

-- what is told of the first item of which something is told
abbrev pub or_else : {B : Type 0} → Option B → Option B → Option B
or_else None other = other
or_else (Some told) other = Some told

abbrev pub first_told : {A B : Type 0} → (A → Option B) → List A → Option B
first_told tell [] = None
first_told tell (x ∷ xs) = or_else (tell x) (first_told tell xs)

-- what is told of what is there; nothing where it isn't
abbrev pub on : {A B : Type 0} → Option A → (A → Option B) → Option B
on None tell = None
on (Some x) tell = tell x

-- whether it is there and passes
abbrev pub has : {A : Type 0} → Option A → (A → Bool) → Bool
has None test = Bool.false
has (Some x) test = test x

-- each holds
abbrev pub AllOf : {A : Type 0} → (A → Type 0) → List A → Type 0
AllOf P [] = Unit {0}
AllOf P (x ∷ xs) = P x × AllOf P xs
