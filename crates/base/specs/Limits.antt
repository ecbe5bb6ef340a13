-- The limits of what is read and of what is made of it, each named once.
use Rattle.std.specs.Prelude.{ℕ}

-- the bytes of a text: 2 ^ 24
abbrev pub most_bytes : ℕ
most_bytes = 16777216

-- the lists that are open at once
abbrev pub most_open : ℕ
most_open = 2000

-- the predicates of a script
abbrev pub most_predicates : ℕ
most_predicates = 4096

-- the arguments of a predicate
abbrev pub most_arguments : ℕ
most_arguments = 256

-- the assertions of a script
abbrev pub most_assertions : ℕ
most_assertions = 65536

-- the arguments of `distinct`
abbrev pub most_distinct : ℕ
most_distinct = 64

-- the rows of a tableau
abbrev pub most_rows : ℕ
most_rows = 1024

-- the variables of a clause
abbrev pub most_variables : ℕ
most_variables = 2048

-- the workers that share a book
abbrev pub most_workers : ℕ
most_workers = 64
