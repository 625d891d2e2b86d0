-- Small programs, and what they assemble to, by computation.
use Rattle.std.specs.Prelude.{◌≡◌, ℕ, List, [], ◌∷◌, None, Some, Ok, Err, codes}
use Rattle.scan_text.specs.declared.Place.{Place}
use Rattle.hack_asm.specs.Faults.{LabelTwice}
use Rattle.hack_asm.specs.Program.{program}
use Rattle.hack_asm.specs.Trees.{Line, number, address}
use Rattle.asm_laws.specs.Symbols.{label_line, use_line}

abbrev pub on : ℕ → Place
on line = record { line = line; column = 2 }

-- @i  (LOOP)  @sum  a blank line  @i  @LOOP  @END  @KBD  @7  (END)
abbrev pub symbols : List Line
symbols =
    use_line (codes "i") (on 1) ∷ label_line (codes "LOOP") (on 2) ∷ use_line (codes "sum") (on 3) ∷ None ∷ use_line (codes "i") (on 5)
    ∷ use_line (codes "LOOP") (on 6) ∷ use_line (codes "END") (on 7) ∷ use_line (codes "KBD") (on 8) ∷ Some (address (number 7)) ∷ label_line (codes "END") (on 10) ∷ []

-- @i  (i): the label stands after a use
abbrev pub used_before : List Line
used_before = use_line (codes "i") (on 1) ∷ label_line (codes "i") (on 2) ∷ []

-- (LOOP)  (R1)  (LOOP)
abbrev pub twice : List Line
twice = label_line (codes "LOOP") (on 1) ∷ label_line (codes "R1") (on 2) ∷ label_line (codes "LOOP") (on 3) ∷ []

pub record AssemblyRows : Type 0 where
  pub symbols_have : program symbols ≡ Ok (16 ∷ 17 ∷ 16 ∷ 1 ∷ 7 ∷ 24576 ∷ 7 ∷ [])
  pub label_behind : program used_before ≡ Ok (1 ∷ [])
  pub first_of_two : program twice ≡ Err (LabelTwice (codes "R1") (on 2))
