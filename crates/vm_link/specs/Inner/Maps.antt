-- Maps from names to numbers.
use Rattle.std.specs.Prelude.{◌≡◌, ℕ, Bool, List, Option, map, option_map, is_some}
use Rattle.std.specs.List.{position_from}
use Rattle.std.specs.Borrow.{Bor}
use Rattle.std.specs.BTreeMap.{BTreeMap, get_by}
use Rattle.std.specs.Cmp.Lexicographic.{slice_cmp}
use Rattle.std.specs.Ordering.{nat_cmp}
use Rattle.vm_link.specs.Sections.{Section, is_named}
use Rattle.vm_link.specs.Faults.{words_before}
use Rattle.vm_link.specs.Resolved.{label_place, first_place}
use Rattle.vm_link.specs.declared.section.Part.{Part}

abbrev pub Numbers : Type 0
Numbers = BTreeMap (Bor (List ℕ)) ℕ

-- the number of a name, where the map has it
abbrev pub number : Numbers → List ℕ → Option ℕ
number m name = get_by (λ k. slice_cmp nat_cmp name k.now) m

-- a part as a section
abbrev pub seen_section : Part → Section
seen_section p = record { file = p.file; number = p.number; name = option_map (λ n. n.now) p.name; locals = p.locals; lines = p.lines.now }

abbrev pub all_seen : List Part → List Section
all_seen ps = map seen_section ps

-- the bytes of names
abbrev pub texts : List (Bor (List ℕ)) → List (List ℕ)
texts names = map (λ n. n.now) names

-- The map gives each function its number among these sections.
abbrev pub AreNumbers : Numbers → List Section → Type 0
AreNumbers m ss = (name : List ℕ) → number m name ≡ position_from (is_named name) 0 ss

-- the map has a number for a name
abbrev pub has_number : Numbers → List ℕ → Bool
has_number m name = is_some (number m name)

-- What is numbered for the lines of a section: functions, labels and the static words of the files before.
pub record Tells (kept : List Section) (s : Section) (functions places : Numbers) (before : ℕ) : Type 0 where
  pub functions_are : AreNumbers functions kept
  pub places_are : (l : List ℕ) → number places l ≡ label_place l (first_place s) s.lines
  pub before_is : before ≡ words_before kept s.file
