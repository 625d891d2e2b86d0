-- The table of commands, as data: what `clap` is given, and what says which words are a line.
use Rattle.std.specs.Prelude.{[], ◌∷◌, List, true, false, Some, codes}
use Rattle.clap.specs.declared.builder.action.ArgAction.TheVariants.{SetTrue}
use Rattle.clap.specs.Walk.{Rule, Text}
use Rattle.clap.specs.Simple.{App, Shape, new_rule, new_shape}

-- ---- the cells of a row

-- a word that stands by itself, and must stand
abbrev pub word_rule : Text → Rule
word_rule name = record (new_rule name) { required = true }

-- `--name V` or `--name=V`, at most once, which must stand
abbrev pub option_rule : Text → Rule
option_rule name = record (new_rule name) { long = Some name; required = true }

-- the same, which may be left out
abbrev pub extra_rule : Text → Rule
extra_rule name = record (new_rule name) { long = Some name }

-- the same, with the value that is meant where it is left out
abbrev pub default_rule : Text → Text → Rule
default_rule name meant = record (new_rule name) { long = Some name; defaults = meant ∷ [] }

-- `--name`, at most once, which may be left out: the value is `true` where it stands, and else `false`
abbrev pub flag_rule : Text → Rule
flag_rule name = record (new_rule name) { long = Some name; action = Some SetTrue }

-- a row: the name of a command, and its cells in order
abbrev pub command : Text → List Rule → Shape
command name rules = record (new_shape name) { rules = rules }

-- a row with a path alone
abbrev pub path_command : Text → Shape
path_command name = command name (word_rule (codes "path") ∷ [])

-- ---- the rows

-- a row with a path, which takes `--replace`
unfoldable pub source_command : Text → Shape
source_command name = command name (word_rule (codes "path") ∷ flag_rule (codes "replace") ∷ [])

-- `asm F`
abbrev pub asm_command : Shape
asm_command = path_command (codes "asm")

-- `exec F --cycles N --from A --to B`
abbrev pub exec_command : Shape
exec_command = command (codes "exec")
    (word_rule (codes "path") ∷ option_rule (codes "cycles") ∷ option_rule (codes "from")
    ∷ option_rule (codes "to") ∷ [])

-- `vm D [--bare]`
unfoldable pub vm_command : Shape
vm_command = command (codes "vm") (word_rule (codes "path") ∷ flag_rule (codes "bare") ∷ [])

-- `show F`
abbrev pub show_command : Shape
show_command = path_command (codes "show")

-- `run D --level L --cycles N [--keys F] [--show W] [--replace] [--simplify]`
unfoldable pub run_command : Shape
run_command = command (codes "run")
    (word_rule (codes "path") ∷ option_rule (codes "level") ∷ option_rule (codes "cycles")
    ∷ extra_rule (codes "keys") ∷ default_rule (codes "show") (codes "none") ∷ flag_rule (codes "replace")
    ∷ flag_rule (codes "simplify") ∷ [])

-- `compile D [--replace]`
abbrev pub compile_command : Shape
compile_command = source_command (codes "compile")

-- `build D [--replace]`
abbrev pub build_command : Shape
build_command = source_command (codes "build")

-- `map D [--format K] [--replace]`
unfoldable pub map_command : Shape
map_command = command (codes "map")
    (word_rule (codes "path") ∷ default_rule (codes "format") (codes "2") ∷ flag_rule (codes "replace") ∷ [])

-- `chip NAME`
abbrev pub chip_command : Shape
chip_command = command (codes "chip") (word_rule (codes "name") ∷ [])

-- `test F [--gates] [--simplify]`
unfoldable pub test_command : Shape
test_command = command (codes "test")
    (word_rule (codes "path") ∷ flag_rule (codes "gates") ∷ flag_rule (codes "simplify") ∷ [])

-- `soak SEED N`
unfoldable pub soak_command : Shape
soak_command = command (codes "soak") (word_rule (codes "seed") ∷ word_rule (codes "count") ∷ [])

-- `debug D --break SUB:K --cycles N [--keys F] [--replace]`
unfoldable pub debug_command : Shape
debug_command = command (codes "debug")
    (word_rule (codes "path") ∷ option_rule (codes "break") ∷ option_rule (codes "cycles") ∷ extra_rule (codes "keys")
    ∷ flag_rule (codes "replace") ∷ [])

-- ---- the table

-- `nand` without its commands: the words begin with a command's name, and one must stand
abbrev pub bare_table : App
bare_table = record {
  top = record (new_shape (codes "nand")) { no_binary_name = true; subcommand_required = true };
  subs = [];
}

-- the commands that work
abbrev pub table : App
table = record bare_table {
  top = record bare_table.top { is_leaf = false };
  subs = asm_command ∷ exec_command ∷ vm_command ∷ show_command ∷ run_command ∷ compile_command ∷ build_command ∷ map_command ∷ chip_command ∷ test_command ∷ soak_command ∷ debug_command ∷ [];
}
