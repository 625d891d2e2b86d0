-- The classes of a program are those of its folder and those of the operating system that stand beside them (book, chapter 12).
use Rattle.std.specs.Prelude.{◌++◌, ◌&&◌, ℕ, Bool, true, false, not, List, codes}
use Rattle.std.specs.List.{filter, list_any}
use Rattle.std.specs.Str.{bytes_eq}
use Rattle.jack_tree.specs.Syntax.{ClassFile}
use Rattle.jack_os.specs.System.{Texts, system}

-- A class of the folder has the name of the class that stands in the file.
abbrev pub is_named_for : List ℕ → ClassFile → Bool
is_named_for file c = bytes_eq (c.class.name.text ++ codes ".jack") file

-- The classes of the folder take the place of a file of the operating system: one of them has the name of its class, and that isn't Sys.
abbrev pub is_replaced : List ClassFile → List ℕ → Bool
is_replaced own file = not (bytes_eq file (codes "Sys.jack")) && list_any (is_named_for file) own

-- The files of the operating system that stand beside the folder's classes: all of them, or, where the folder's classes replace, those whose place
-- none of them takes.
abbrev pub system_beside : Bool → List ClassFile → Texts
system_beside false own = system
system_beside true own = filter (λ file. not (is_replaced own file.0)) system
