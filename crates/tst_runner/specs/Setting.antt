-- Where a script stands. (The book, appendix 3.)
use Rattle.std.specs.Prelude.{ℕ, List, [], ◌∷◌, Option, if◌then◌else◌}
use Rattle.std.specs.Str.Lossy.{utf8_lossy}
use Rattle.outer_world.specs.Files.{Files, has_slash, path_in}
use Rattle.hdl_tree.specs.declared.ends.Memories.{Memories}

-- its path, the files where they are known, and how the memories of chips are simulated
pub record Setting : Type 0 where
  pub path : List ℕ
  pub files : Option Files
  pub memories : Memories

-- the part of a path before its last slash; nothing where it has none
abbrev pub folder_of : List ℕ → List ℕ
folder_of [] = []
folder_of (c ∷ path) = if has_slash path then c ∷ folder_of path else []

-- the folder that the script stands in, and the path of a file in it: bytes of its name that are no UTF-8 are replaced
abbrev pub folder : Setting → List ℕ
folder setting = folder_of setting.path

abbrev pub path_of : Setting → List ℕ → List ℕ
path_of setting file = path_in (folder setting) (utf8_lossy file)

abbrev pub setting_of : List ℕ → Option Files → Memories → Setting
setting_of path files memories = record { path = path; files = files; memories = memories }
