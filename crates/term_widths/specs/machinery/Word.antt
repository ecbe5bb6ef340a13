-- A bound in one word, of which the greatest number stands for none.
use Rattle.std.specs.Prelude.{ℕ, ◌+◌, ◌^◌, ◌==◌, Option, Some, None, if◌then◌else◌}

abbrev pub told : ℕ → Option ℕ
told word = if word + 1 == 2 ^ 64 then None else Some word

abbrev pub kept : Option ℕ → Option ℕ
kept None = None
kept (Some n) = told n
