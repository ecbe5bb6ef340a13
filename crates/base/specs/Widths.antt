-- Widths of integers, each named once. A short one has room beside its sign in a word of 64 bits, a long one in 65 bits.
-- A form is narrow where all its numbers are short. A cube is thin where its coefficients are below `thin_limit` in magnitude.
-- What is wide has no room for its use: the crate that says it says which.
use Rattle.std.specs.Prelude.{ℕ, ◌^◌, ℤ, nat_abs, Bool, nat_lt}

-- above what is short, in magnitude
abbrev pub short_limit : ℕ
short_limit = 2 ^ 63

-- above what is long, in magnitude
abbrev pub long_limit : ℕ
long_limit = 2 ^ 64

-- whether an integer is less than 2 ^ 63 in magnitude, so that it has room beside its sign in 64 bits
abbrev pub is_short : ℤ → Bool
is_short n = nat_lt (nat_abs n) short_limit

abbrev pub is_long : ℤ → Bool
is_long n = nat_lt (nat_abs n) long_limit

-- above the coefficients of a cube that is thin, in magnitude: 256 of them have a sum that is short
abbrev pub thin_limit : ℕ
thin_limit = 2 ^ 54

-- above the numerator of a rational number in lowest terms, in magnitude
abbrev pub numerator_limit : ℕ
numerator_limit = 2 ^ 127
