-- A well named program, whose classes are a folder's that were read and those of a system's files, is one whose names are resolved (book, chapters
-- 9 to 11).
use Rattle.std.specs.Prelude.{List, map}
use Rattle.jack_tree.specs.declared.tree.Class.{Class}
use Rattle.jack_tree.specs.Seen.{the_file}
use Rattle.jack_names.specs.NameFaults.{IsWellNamed}
use Rattle.jack_names.specs.Meaning.{program_meaning, program_names}
use Rattle.jack_os.specs.System.{Texts, AreClassesOf}
use Rattle.tower.specs.Spelled.{AreSpelled}
use Rattle.jack_compiler.specs.Resolved.{IsResolved}

abbrev pub ResolvedLaw : Type 0
ResolvedLaw = (own os : List Class) (files : Texts) → IsWellNamed (map the_file own) (map the_file os) → AreSpelled own → AreClassesOf files os
    → IsResolved (program_meaning (map the_file own) (map the_file os)) (program_names (map the_file own) (map the_file os))
