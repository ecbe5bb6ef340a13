-- Words that name something already (SMT-LIB 2.6, section 3.1, "Reserved words").
use Rattle.std.specs.Prelude.{ℕ, List, [], ◌∷◌, ◌++◌, Bool, codes}
use Rattle.std.specs.List.{list_any}
use Rattle.std.specs.Str.{bytes_eq}

-- the word is one of these, byte for byte
abbrev pub is_word_among : List (List ℕ) → List ℕ → Bool
is_word_among words word = list_any (bytes_eq word) words

-- the reserved words of terms
abbrev pub term_words : List (List ℕ)
term_words =
    codes "_" ∷ codes "!" ∷ codes "as" ∷ codes "let" ∷ codes "exists" ∷ codes "forall" ∷ codes "match" ∷ codes "par"
    ∷ codes "BINARY" ∷ codes "DECIMAL" ∷ codes "HEXADECIMAL" ∷ codes "NUMERAL" ∷ codes "STRING" ∷ []

-- the commands that assert, check, declare and define
abbrev pub asserting_words : List (List ℕ)
asserting_words =
    codes "assert" ∷ codes "check-sat" ∷ codes "check-sat-assuming" ∷ codes "declare-const" ∷ codes "declare-datatype" ∷ codes "declare-datatypes" ∷ codes "declare-fun" ∷ codes "declare-sort"
    ∷ codes "define-fun" ∷ codes "define-fun-rec" ∷ codes "define-funs-rec" ∷ codes "define-sort" ∷ []

-- the other commands
abbrev pub other_command_words : List (List ℕ)
other_command_words =
    codes "echo" ∷ codes "exit" ∷ codes "get-assertions" ∷ codes "get-assignment" ∷ codes "get-info" ∷ codes "get-model" ∷ codes "get-option" ∷ codes "get-proof"
    ∷ codes "get-unsat-assumptions" ∷ codes "get-unsat-core" ∷ codes "get-value" ∷ codes "pop" ∷ codes "push" ∷ codes "reset" ∷ codes "reset-assertions" ∷ codes "set-info"
    ∷ codes "set-logic" ∷ codes "set-option" ∷ []

-- all reserved words, of terms and of commands: none is a symbol, unless it stands between bars
abbrev pub reserved_words : List (List ℕ)
reserved_words = term_words ++ asserting_words ++ other_command_words
