-- The command line in `clap`'s terms: one of three commands, each with options that take a value, and no help.
use Rattle.std.specs.Prelude.{List, [], ◌∷◌, Some, true, false, codes, map}
use Rattle.clap.specs.Walk.{Rule, Text}
use Rattle.clap.specs.Simple.{App, Shape, new_rule, new_shape}
use Rattle.clap.specs.declared.builder.action.ArgAction.TheVariants.{Set}

-- `--name VALUE` or `--name=VALUE`
abbrev pub option : Text → Rule
option name = record (new_rule name) { long = Some name; action = Some Set }

-- a command of this name that takes options of these names, each with a value
abbrev pub command_shape : Text → List Text → Shape
command_shape name options = record (new_shape name) { rules = map option options }

-- the command that solves a script, with the options `--workers`, `--units` and `--nodes`
abbrev pub solve : Shape
solve = command_shape (codes "solve") (codes "workers" ∷ codes "units" ∷ codes "nodes" ∷ [])

-- the command that judges an answer to a script, with the option `--nodes`
abbrev pub check : Shape
check = command_shape (codes "check") (codes "nodes" ∷ [])

-- the command that makes a script and solves it, with the options `--depth` and `--seed`
abbrev pub gen : Shape
gen = command_shape (codes "gen") (codes "depth" ∷ codes "seed" ∷ [])

abbrev pub alone : Shape → App
alone s = record { top = s; subs = [] }

-- the words begin behind the program's name
abbrev pub chc : App
chc = record {
  top = record (new_shape (codes "chc")) {
    is_leaf = false;
    no_binary_name = true;
    disable_help_flag = true;
    disable_help_subcommand = true;
    subcommand_required = true;
  };
  subs = solve ∷ check ∷ gen ∷ [];
}
