-- What an assembly program is as words, or what is wrong with it. (The book, chapter 6.)
use Rattle.std.specs.Prelude.{◌≡◌, ℕ, ◌≤◌, ◌<◌, ◌++◌, ◌⊎◌, ◌↔◌, false, List, [], ◌∷◌, Some, Result, Ok, Err, length}
use Rattle.scan_text.specs.declared.Place.{Place}
use Rattle.grammar.specs.declared.Fault.{Fault}
use Rattle.hack_isa.specs.Machine.{image_words}
use Rattle.hack_asm.specs.declared.lines.Compute.{Compute}
use Rattle.hack_asm.specs.Faults.{Wrong, Range, LabelTwice, TooLarge, TooManyVariables, wrong}
use Rattle.hack_asm.specs.Meaning.{Means}
use Rattle.hack_asm.specs.Program.{compute_word, is_instruction, program, size}
use Rattle.hack_asm.specs.Trees.{Line, Spells, Refuses, number, address, compute}
use Rattle.asm_laws.specs.Symbols.{HasLabel, HasUse, HasValue, IsPredefined, StandsBehind, AreVariables, label_line, use_line}

-- ---- words

-- the word of an instruction
pub data HasWord (program : List Line) : Line → ℕ → Type 0 where
  of_number : {n : ℕ} → HasWord program (Some (address (number n))) n
  of_symbol : {name : List ℕ} {at : Place} {n : ℕ} → HasValue program name n → HasWord program (use_line name at) n
  of_computation : {c : Compute} → HasWord program (Some (compute c)) (compute_word c)

-- Each instruction among these lines has its word, in order; a label and a blank line have none.
pub data AreWords (program : List Line) : List Line → List ℕ → Type 0 where
  none : AreWords program [] []
  no_word : {l : Line} {ls : List Line} {ws : List ℕ} → is_instruction l ≡ false → AreWords program ls ws → AreWords program (l ∷ ls) ws
  word : {l : Line} {ls : List Line} {w : ℕ} {ws : List ℕ} → HasWord program l w → AreWords program ls ws → AreWords program (l ∷ ls) (w ∷ ws)

-- ---- what is wrong

-- the name is predefined, or one of these lines is its label
abbrev pub IsTaken : List Line → List ℕ → Type 0
IsTaken before name = IsPredefined name ⊎ HasLabel before name

-- no label among these lines is taken by those before it
abbrev pub LabelsAreNew : List Line → Type 0
LabelsAreNew lines = (before behind : List Line) (name : List ℕ) (at : Place) → lines ≡ before ++ label_line name at ∷ behind → IsTaken before name → ⊥

-- some of the program's lines use no label that stands after all 32,768 words
abbrev pub NoneIsPast : List Line → List Line → Type 0
NoneIsPast program some = (name : List ℕ) → HasUse some name → StandsBehind program name image_words → ⊥

-- ---- a program

-- A program has labels that are new, at most 32,768 words, no use of a label after them, and at most 16,368 variables,
-- which the addresses 16 to 16,383 hold. Then its words are those of its instructions; else the first of these that
-- fails is wrong, at the first place where it does.
pub data Assembles (program : List Line) : Result (List ℕ) Wrong → Type 0 where
  label_twice : (before behind : List Line) (name : List ℕ) (at : Place) → program ≡ before ++ label_line name at ∷ behind → LabelsAreNew before → IsTaken before name
      → Assembles program (Err (LabelTwice name at))
  too_large : LabelsAreNew program → image_words < size program → Assembles program (Err (TooLarge (size program)))
  past : (before behind : List Line) (name : List ℕ) (at : Place) → LabelsAreNew program → size program ≤ image_words
      → program ≡ before ++ use_line name at ∷ behind → StandsBehind program name image_words → NoneIsPast program before → Assembles program (Err (Range at 32768))
  too_many : (names : List (List ℕ)) → LabelsAreNew program → size program ≤ image_words → NoneIsPast program program → AreVariables program program names
      → 16368 < length names → Assembles program (Err (TooManyVariables (length names)))
  words : (names : List (List ℕ)) {ws : List ℕ} → LabelsAreNew program → size program ≤ image_words → NoneIsPast program program → AreVariables program program names
      → length names ≤ 16368 → AreWords program program ws → Assembles program (Ok ws)

-- ---- laws

-- The law of assembly: of each program this is so of what the two passes give, and of nothing else.
abbrev pub AssemblyLaw : Type 0
AssemblyLaw = (lines : List Line) (r : Result (List ℕ) Wrong) → Assembles lines r ↔ (r ≡ program lines)

-- The same of texts: a text means what the lines assemble to that it spells; or it spells none, and its first fault is
-- reported.
abbrev pub TextLaw : Type 0
TextLaw = (text : List ℕ) (r : Result (List ℕ) Wrong) → Means text r ↔ (((lines : List Line) × Spells text lines × Assembles lines r) ⊎ ((f : Fault) × Refuses text f × (r ≡ Err (wrong f))))
