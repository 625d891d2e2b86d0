-- What the symbols of an assembly program stand for. (The book, chapter 6: predefined symbols, labels and variables.)
use Rattle.std.specs.Prelude.{◌≡◌, ℕ, ◌+◌, ◌++◌, ◌⊎◌, List, [], ◌∷◌, Some, length}
use Rattle.scan_text.specs.declared.Place.{Place}
use Rattle.hack_asm.specs.Program.{predefined_value, size}
use Rattle.hack_asm.specs.Trees.{Line, symbol, label, address}

-- it is so of one item of a list
abbrev pub Any : {X : Type 0} → (X → Type 0) → List X → Type 0
Any P [] = ⊥
Any P (x ∷ xs) = P x ⊎ Any P xs

abbrev pub IsAmong : List ℕ → List (List ℕ) → Type 0
IsAmong name names = Any (λ n. name ≡ n) names

-- no two are equal
abbrev pub AreDistinct : List (List ℕ) → Type 0
AreDistinct [] = Unit {0}
AreDistinct (n ∷ ns) = (IsAmong n ns → ⊥) × AreDistinct ns

-- the line `(NAME)`, and the line `@NAME`, each with the place of its name
abbrev pub label_line : List ℕ → Place → Line
label_line name at = Some (label (record { name = name; place = at }))

abbrev pub use_line : List ℕ → Place → Line
use_line name at = Some (address (symbol (record { name = name; place = at })))

-- one of these lines is such
abbrev pub HasLabel : List Line → List ℕ → Type 0
HasLabel lines name = Any (λ l. (at : Place) × (l ≡ label_line name at)) lines

abbrev pub HasUse : List Line → List ℕ → Type 0
HasUse lines name = Any (λ l. (at : Place) × (l ≡ use_line name at)) lines

-- the symbol stands in the table of predefined symbols
abbrev pub IsPredefined : List ℕ → Type 0
IsPredefined name = (n : ℕ) × (predefined_value name ≡ Some n)

-- The label of this name stands in the program, and n instructions are before it.
pub record StandsBehind (program : List Line) (name : List ℕ) (n : ℕ) : Type 0 where
  pub before : List Line
  pub behind : List Line
  pub at : Place
  pub here : program ≡ before ++ label_line name at ∷ behind
  pub count : n ≡ size before

-- A variable is a symbol that is not predefined and no label of the program.
pub record IsVariable (program : List Line) (name : List ℕ) : Type 0 where
  pub unlisted : IsPredefined name → ⊥
  pub unlabelled : HasLabel program name → ⊥

-- These are the variables of the program that some of its lines use, each once.
pub record AreVariables (program some : List Line) (names : List (List ℕ)) : Type 0 where
  pub once : AreDistinct names
  pub variable : (name : List ℕ) → IsAmong name names → IsVariable program name
  pub used : (name : List ℕ) → IsAmong name names → HasUse some name
  pub all : (name : List ℕ) → IsVariable program name → HasUse some name → IsAmong name names

-- The program uses the symbol first after these lines.
pub record IsFirstUse (program : List Line) (name : List ℕ) (before : List Line) : Type 0 where
  pub at : Place
  pub behind : List Line
  pub here : program ≡ before ++ use_line name at ∷ behind
  pub first : HasUse before name → ⊥

-- The value of a symbol. Of a predefined one it is that of the table, and of a label the number of the instructions
-- before it. Of a variable it is 16 and the number of the variables that the program uses before it.
pub data HasValue (program : List Line) (name : List ℕ) : ℕ → Type 0 where
  predefined : {n : ℕ} → predefined_value name ≡ Some n → HasValue program name n
  labelled : {n : ℕ} → StandsBehind program name n → HasValue program name n
  variable : (before : List Line) (names : List (List ℕ)) → IsVariable program name → IsFirstUse program name before → AreVariables program before names → HasValue program name (16 + length names)
