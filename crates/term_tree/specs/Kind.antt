-- How the kinds of refusals are printed.
use Rattle.std.specs.Prelude.{ℕ, List, codes}
use Rattle.term_tree.specs.declared.refusal.Kind.{Kind}
use Rattle.term_tree.specs.declared.refusal.Kind.TheVariants.{TooLong, BadByte, Unclosed, Deep, CommandForm, Order, Logic, UnknownSort, Redeclared, UnknownSymbol, Arity, SortMismatch, NotLinear, ZeroDivisor, TooWide, NotHorn, Count, NoCheckSat, Unbuilt}

-- the number that is printed for each kind, from 1 to 19
abbrev pub kind_number : Kind → ℕ
kind_number TooLong = 1
kind_number BadByte = 2
kind_number Unclosed = 3
kind_number Deep = 4
kind_number CommandForm = 5
kind_number Order = 6
kind_number Logic = 7
kind_number UnknownSort = 8
kind_number Redeclared = 9
kind_number UnknownSymbol = 10
kind_number Arity = 11
kind_number SortMismatch = 12
kind_number NotLinear = 13
kind_number ZeroDivisor = 14
kind_number TooWide = 15
kind_number NotHorn = 16
kind_number Count = 17
kind_number NoCheckSat = 18
kind_number Unbuilt = 19

-- the bytes of the word that is printed for each kind
abbrev pub kind_word : Kind → List ℕ
kind_word TooLong = codes "TooLong"
kind_word BadByte = codes "BadByte"
kind_word Unclosed = codes "Unclosed"
kind_word Deep = codes "Deep"
kind_word CommandForm = codes "CommandForm"
kind_word Order = codes "Order"
kind_word Logic = codes "Logic"
kind_word UnknownSort = codes "UnknownSort"
kind_word Redeclared = codes "Redeclared"
kind_word UnknownSymbol = codes "UnknownSymbol"
kind_word Arity = codes "Arity"
kind_word SortMismatch = codes "SortMismatch"
kind_word NotLinear = codes "NotLinear"
kind_word ZeroDivisor = codes "ZeroDivisor"
kind_word TooWide = codes "TooWide"
kind_word NotHorn = codes "NotHorn"
kind_word Count = codes "Count"
kind_word NoCheckSat = codes "NoCheckSat"
kind_word Unbuilt = codes "Unbuilt"
