-- The lines that stand alone.
use Rattle.std.specs.Prelude.{ℕ, List, ◌++◌, codes, decimal}
use Rattle.term_tree.specs.declared.refusal.Refusal.{Refusal}
use Rattle.term_tree.specs.Kind.{kind_number, kind_word}
use Rattle.answer_text.specs.declared.answer.UnknownCause.{UnknownCause}
use Rattle.answer_text.specs.declared.answer.UnknownCause.TheVariants.{Units, Stalled, NoMemory}

-- the line for a call that the program doesn't know: its subcommands and their options
abbrev pub usage_text : List ℕ
usage_text = codes "usage: chc solve [--workers N] [--units N] [--nodes N] | check [--nodes N] | gen --depth N --seed N\n"

-- the line for a run that has no memory left, in the form of SMT-LIB's error responses
abbrev pub memory_text : List ℕ
memory_text = codes "(error \"out of memory\")\n"

-- (error "kind K Name at byte O after C commands")
abbrev pub error_text : Refusal → List ℕ
error_text r =
    codes "(error \"kind " ++ decimal (kind_number r.kind) ++ codes " " ++ kind_word r.kind ++ codes " at byte " ++ decimal r.offset
    ++ codes " after " ++ decimal r.command ++ codes " commands\")\n"

-- the beginning of the comment line behind unknown, up to the level's number
abbrev pub level_head : ℕ → List ℕ
level_head level = codes "; level " ++ decimal level

-- ; level N units U, ; level N stalled or ; level N memory
abbrev pub level_text : ℕ → UnknownCause → List ℕ
level_text level (Units units) = level_head level ++ codes " units " ++ decimal units ++ codes "\n"
level_text level Stalled = level_head level ++ codes " stalled\n"
level_text level NoMemory = level_head level ++ codes " memory\n"
