-- Where the chips of a name stand in a chip, by a table. Where those of each chip of a library are given by those of its parts, so are those of a
-- whole tree.
use Rattle.std.proofs.Common.{◌≡◌, ℕ, suc, Bool, true, false, List, [], ◌∷◌, ◌++◌, Some, refl, ap, sym, ◌∙◌}
use Rattle.std.specs.Prelude.{◌&&◌, unwrap_or, map, codes, if◌then◌else◌}
use Rattle.std.specs.Str.{bytes_eq}
use Rattle.std.specs.Cmp.Lexicographic.{bytes_decides}
use Rattle.hdl_tree.specs.declared.tree.Part.{Part}
use Rattle.hdl_tree.specs.declared.library.Entry.{Entry}
use Rattle.hdl_tree.specs.Chips.{Chips, find_chip, parts_of}
use Rattle.hdl_tree.specs.Writable.{all}
use Rattle.name_table.specs.Names.{find_value}
use Rattle.hdl_flatten.specs.Trees.{PartIn, within, AreListed, none, next, IsTree}
use Rattle.gate_computer.specs.Computer.{chips, computer}
use Rattle.hack_cpu.specs.Library.{shipped_chips}
use Rattle.hdl_behaviours.proofs.Clean.{and_left, and_right, find_in}
use Rattle.hdl_behaviours.proofs.Levels.{all_at}
use Rattle.hack_cpu.proofs.Opened.{opened}

-- ---- lists of paths

abbrev pub Paths : Type 0
Paths = List (List ℕ)

abbrev are_same : Paths → Paths → Bool
are_same [] [] = true
are_same [] (q ∷ qs) = false
are_same (p ∷ ps) [] = false
are_same (p ∷ ps) (q ∷ qs) = bytes_eq p q && are_same ps qs

same_paths : (ps qs : Paths) → are_same ps qs ≡ true → ps ≡ qs
same_paths [] [] h = refl
same_paths [] (q ∷ qs) h = absurd cc
same_paths (p ∷ ps) [] h = absurd cc
same_paths (p ∷ ps) (q ∷ qs) h =
    ap (λ x. x ∷ ps) ((bytes_decides p q).0 (and_left (bytes_eq p q) (are_same ps qs) h))
    ∙ ap (λ xs. q ∷ xs) (same_paths ps qs (and_right (bytes_eq p q) (are_same ps qs) h))

-- these, as they stand in part i
abbrev under : ℕ → Paths → Paths
under i paths = map (λ (path : List ℕ). i ∷ path) paths

-- a path more, if
abbrev pub with_if : Bool → List ℕ → Paths → Paths
with_if b path paths = if b then path ∷ paths else paths

with-append : (b : Bool) (path : List ℕ) (ps qs : Paths) → with_if b path (ps ++ qs) ≡ with_if b path ps ++ qs
with-append true path ps qs = refl
with-append false path ps qs = refl

under-with : (b : Bool) (i : ℕ) (path : List ℕ) (paths : Paths) → under i (with_if b path paths) ≡ with_if b (i ∷ path) (under i paths)
under-with true i path paths = refl
under-with false i path paths = refl

-- ---- where chips of a name stand

abbrev pub places : List ℕ → List PartIn → Paths
places name [] = []
places name (p ∷ ps) = with_if (bytes_eq name p.chip.name) p.path (places name ps)

places-append : (name : List ℕ) (a b : List PartIn) → places name (a ++ b) ≡ places name a ++ places name b
places-append name [] b = refl
places-append name (p ∷ a) b =
    ap (with_if (bytes_eq name p.chip.name) p.path) (places-append name a b)
    ∙ with-append (bytes_eq name p.chip.name) p.path (places name a) (places name b)

places-within : (name : List ℕ) (i : ℕ) (tree : List PartIn) → places name (within i tree) ≡ under i (places name tree)
places-within name i [] = refl
places-within name i (p ∷ tree) =
    ap (with_if (bytes_eq name p.chip.name) (i ∷ p.path)) (places-within name i tree)
    ∙ sym (under-with (bytes_eq name p.chip.name) i p.path (places name tree))

module _ (chips : Chips) (name : List ℕ) (table : List (List ℕ × Paths)) where
  -- where they stand in a chip, and in parts
  abbrev told_of : List ℕ → Paths
  told_of chip = unwrap_or (find_value chip table) []

  abbrev diagnostic_in : ℕ → List Part → Paths
  diagnostic_in i [] = []
  diagnostic_in i (part ∷ parts) = with_if (bytes_eq name part.chip) (i ∷ []) (under i (told_of part.chip) ++ diagnostic_in (suc i) parts)

  abbrev is_told : Entry → Bool
  is_told chip = are_same (told_of chip.name) (diagnostic_in 0 (parts_of chips chip))

  module _ (told : all is_told chips.entries ≡ true) where
    told_found : (chip : List ℕ) (entry : Entry) → find_chip chips chip ≡ Some entry → (told_of chip ≡ diagnostic_in 0 (parts_of chips entry)) × (chip ≡ entry.name)
    told_found chip entry found_it =
        let r = find_in chips.entries chip entry found_it in
        (ap told_of r.named ∙ same_paths (told_of entry.name) (diagnostic_in 0 (parts_of chips entry)) (all_at is_told chips.entries told r.place entry r.there), r.named)

    pub places_in : (i : ℕ) (parts : List Part) (tree : List PartIn) → AreListed chips i parts tree → places name tree ≡ diagnostic_in i parts
    places_in i parts tree none = refl
    places_in i parts tree (next {part = part} {parts = behind} {chip = chip} {inner = inner} {others = others} found_it inside after) =
        let r = told_found part.chip chip found_it in
        let rest : places name (within i inner ++ others) ≡ under i (told_of part.chip) ++ diagnostic_in (suc i) behind =
        places-append name (within i inner) others
        ∙ ap (λ ps. ps ++ places name others) (places-within name i inner ∙ ap (under i) (places_in 0 (parts_of chips chip) inner inside ∙ sym r.0))
        ∙ ap (λ ps. under i (told_of part.chip) ++ ps) (places_in (suc i) behind others after) in
        ap (λ n. with_if (bytes_eq name n) (i ∷ []) (places name (within i inner ++ others))) (sym r.1)
        ∙ ap (with_if (bytes_eq name part.chip) (i ∷ [])) rest

-- ---- the Computer

-- the chips that one of this name stands in once
abbrev stands_in : List ℕ → List (List ℕ × Paths)
stands_in path = (codes "Computer", path ∷ []) ∷ []

abbrev in_cpu : List ℕ → List (List ℕ × Paths)
in_cpu path = (codes "CPU", path ∷ []) ∷ (codes "Computer", (0 ∷ path) ∷ []) ∷ []

abbrev in_memory : List ℕ → List (List ℕ × Paths)
in_memory path = (codes "Memory", path ∷ []) ∷ (codes "Computer", (2 ∷ path) ∷ []) ∷ []

abbrev AllTold : List ℕ → List (List ℕ × Paths) → Type 0
AllTold name table = all (is_told chips name table) shipped_chips ≡ true

record HasOne : Type 0 where
  cpu : AllTold (codes "CPU") (stands_in (0 ∷ []))
  rom : AllTold (codes "ROM32K") (stands_in (1 ∷ []))
  a_register : AllTold (codes "ARegister") (in_cpu (3 ∷ []))
  main : AllTold (codes "RAM16K") (in_memory (3 ∷ []))
  screen : AllTold (codes "Screen") (in_memory (4 ∷ []))
  keyboard : AllTold (codes "Keyboard") (in_memory (5 ∷ []))

has_one : HasOne
unfolding opened
has_one = record { cpu = refl; rom = refl; a_register = refl; main = refl; screen = refl; keyboard = refl }

record StandsAt : Type 0 where
  cpu : diagnostic_in chips (codes "CPU") (stands_in (0 ∷ [])) 0 (parts_of chips computer) ≡ (0 ∷ []) ∷ []
  rom : diagnostic_in chips (codes "ROM32K") (stands_in (1 ∷ [])) 0 (parts_of chips computer) ≡ (1 ∷ []) ∷ []
  a_register : diagnostic_in chips (codes "ARegister") (in_cpu (3 ∷ [])) 0 (parts_of chips computer) ≡ (0 ∷ 3 ∷ []) ∷ []
  main : diagnostic_in chips (codes "RAM16K") (in_memory (3 ∷ [])) 0 (parts_of chips computer) ≡ (2 ∷ 3 ∷ []) ∷ []
  screen : diagnostic_in chips (codes "Screen") (in_memory (4 ∷ [])) 0 (parts_of chips computer) ≡ (2 ∷ 4 ∷ []) ∷ []
  keyboard : diagnostic_in chips (codes "Keyboard") (in_memory (5 ∷ [])) 0 (parts_of chips computer) ≡ (2 ∷ 5 ∷ []) ∷ []

stands_at : StandsAt
unfolding opened
stands_at = record { cpu = refl; rom = refl; a_register = refl; main = refl; screen = refl; keyboard = refl }

-- The chips of these names stand there in the Computer, and nowhere else.
pub record StandOnce (tree : List PartIn) : Type 0 where
  pub cpu : places (codes "CPU") tree ≡ (0 ∷ []) ∷ []
  pub rom : places (codes "ROM32K") tree ≡ (1 ∷ []) ∷ []
  pub a_register : places (codes "ARegister") tree ≡ (0 ∷ 3 ∷ []) ∷ []
  pub main : places (codes "RAM16K") tree ≡ (2 ∷ 3 ∷ []) ∷ []
  pub screen : places (codes "Screen") tree ≡ (2 ∷ 4 ∷ []) ∷ []
  pub keyboard : places (codes "Keyboard") tree ≡ (2 ∷ 5 ∷ []) ∷ []

pub stand_once : (tree : List PartIn) → IsTree chips computer tree → StandOnce tree
stand_once tree is =
    let parts = parts_of chips computer in
    record {
      cpu = places_in chips (codes "CPU") (stands_in (0 ∷ [])) has_one.cpu 0 parts tree is ∙ stands_at.cpu;
      rom = places_in chips (codes "ROM32K") (stands_in (1 ∷ [])) has_one.rom 0 parts tree is ∙ stands_at.rom;
      a_register = places_in chips (codes "ARegister") (in_cpu (3 ∷ [])) has_one.a_register 0 parts tree is ∙ stands_at.a_register;
      main = places_in chips (codes "RAM16K") (in_memory (3 ∷ [])) has_one.main 0 parts tree is ∙ stands_at.main;
      screen = places_in chips (codes "Screen") (in_memory (4 ∷ [])) has_one.screen 0 parts tree is ∙ stands_at.screen;
      keyboard = places_in chips (codes "Keyboard") (in_memory (5 ∷ [])) has_one.keyboard 0 parts tree is ∙ stands_at.keyboard;
    }
