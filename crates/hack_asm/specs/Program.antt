-- What the lines of an assembly text mean: symbols have their addresses, and each instruction is a word. (The book, chapter 6: the
-- first pass enters the labels into a table of symbols, the second one the variables.)
use Rattle.std.specs.Prelude.{ℕ, ◌+◌, ◌-◌, ◌*◌, ◌%◌, Bool, true, false, List, [], ◌∷◌, ◌++◌, Option, Some, None, Result, Ok, Err, if◌then◌else◌, codes, length, nat_lt, nat_eq, is_some}
use Rattle.std.specs.Str.{bytes_eq}
use Rattle.hack_isa.specs.Machine.{image_words}
use Rattle.word16.specs.Memory.{screen, keyboard}
use Rattle.scan_text.specs.declared.Place.{Place}
use Rattle.hack_asm.specs.declared.token.Letter.{Letter}
use Rattle.hack_asm.specs.declared.token.Letter.TheVariants.{A, D, M}
use Rattle.hack_asm.specs.declared.lines.Dest.{Dest}
use Rattle.hack_asm.specs.declared.lines.Dest.TheVariants as dest
use Rattle.hack_asm.specs.declared.lines.Compute.{Compute}
use Rattle.hack_asm.specs.Comps.{meaning}
use Rattle.hack_asm.specs.Faults.{Wrong, Range, LabelTwice, TooLarge, TooManyVariables}
use Rattle.hack_asm.specs.Trees.{Line, Symbol, number, symbol, label, address, compute}

-- The word of a computation: that of its row of the table of comp, with where it goes, and its jump (chapter 4)

abbrev pub register_bit : Letter → ℕ
register_bit A = 4
register_bit D = 2
register_bit M = 1
register_bit _ = 0

-- three bits
abbrev pub dest_bits : Dest → ℕ
dest_bits (dest.Register None) = 0
dest_bits (dest.Register (Some x)) = register_bit x
dest_bits (dest.Several bits) = bits % 8

abbrev pub jump_bits : Option ℕ → ℕ
jump_bits None = 0
jump_bits (Some bits) = bits % 8

abbrev pub compute_word : Compute → ℕ
compute_word c = meaning c.comp + dest_bits c.dest * 8 + jump_bits c.jump

-- Symbols

abbrev pub Table : Type 0
Table = List (List ℕ × ℕ)

abbrev pub entry_of : Table → List ℕ → Option ℕ
entry_of [] name = None
entry_of (e ∷ es) name = if bytes_eq name e.0 then Some e.1 else entry_of es name

abbrev pub predefined_symbols : Table
predefined_symbols =
    (codes "R0", 0) ∷ (codes "R1", 1) ∷ (codes "R2", 2) ∷ (codes "R3", 3) ∷ (codes "R4", 4) ∷ (codes "R5", 5)
    ∷ (codes "R6", 6) ∷ (codes "R7", 7) ∷ (codes "R8", 8) ∷ (codes "R9", 9) ∷ (codes "R10", 10) ∷ (codes "R11", 11)
    ∷ (codes "R12", 12) ∷ (codes "R13", 13) ∷ (codes "R14", 14) ∷ (codes "R15", 15)
    ∷ (codes "SP", 0) ∷ (codes "LCL", 1) ∷ (codes "ARG", 2) ∷ (codes "THIS", 3) ∷ (codes "THAT", 4)
    ∷ (codes "SCREEN", screen) ∷ (codes "KBD", keyboard) ∷ []

abbrev pub address_among : Table → List ℕ → Option ℕ
address_among [] name = None
address_among (e ∷ es) name = if bytes_eq e.0 name then Some e.1 else address_among es name

abbrev pub predefined_value : List ℕ → Option ℕ
predefined_value name = address_among predefined_symbols name

-- the address of a symbol that is predefined or entered
abbrev pub or_entry : Option ℕ → Option ℕ → Option ℕ
or_entry (Some n) m = Some n
or_entry None m = m

abbrev pub address_in : Table → List ℕ → Option ℕ
address_in table name = or_entry (predefined_value name) (entry_of table name)

abbrev pub with_entry : Table → List ℕ → ℕ → Table
with_entry table name n = table ++ (name, n) ∷ []

-- The labels of some lines, which n instructions stand before: a label is the number of the instructions before it. The first one
-- that is predefined or entered already is refused.
abbrev pub enter_label : Line → ℕ → Table → (ℕ → Table → Result Table Wrong) → Result Table Wrong
enter_label None n table go = go n table
enter_label (Some (label s)) n table go = if is_some (address_in table s.name) then Err (LabelTwice s.name s.place) else go n (with_entry table s.name n)
enter_label (Some (address a)) n table go = go (n + 1) table
enter_label (Some (compute c)) n table go = go (n + 1) table

abbrev pub labels : ℕ → Table → List Line → Result Table Wrong
labels n table [] = Ok table
labels n table (l ∷ ls) = enter_label l n table (λ m t. labels m t ls)

-- the number of instructions
abbrev pub is_instruction : Line → Bool
is_instruction None = false
is_instruction (Some (label s)) = false
is_instruction (Some (address a)) = true
is_instruction (Some (compute c)) = true

abbrev pub size : List Line → ℕ
size [] = 0
size (l ∷ ls) = (if is_instruction l then 1 else 0) + size ls

-- the symbol that a line uses
abbrev pub used_symbol : Line → Option Symbol
used_symbol None = None
used_symbol (Some (label s)) = None
used_symbol (Some (address (number n))) = None
used_symbol (Some (address (symbol s))) = Some s
used_symbol (Some (compute c)) = None

-- the first use of a label that stands after all 32,768 words
abbrev pub is_past : Option ℕ → Bool
is_past None = false
is_past (Some n) = nat_eq n image_words

abbrev pub past_use : Table → Option Symbol → Option Place → Option Place
past_use table None later = later
past_use table (Some s) later = if is_past (entry_of table s.name) then Some s.place else later

abbrev pub first_past : Table → List Line → Option Place
first_past table [] = None
first_past table (l ∷ ls) = past_use table (used_symbol l) (first_past table ls)

-- The variables: symbols that are neither predefined nor entered get the next address, in order of first use.
abbrev pub enter_variable : Option Symbol → ℕ → Table → (ℕ → Table → Table) → Table
enter_variable None next table go = go next table
enter_variable (Some s) next table go = if is_some (address_in table s.name) then go next table else go (next + 1) (with_entry table s.name next)

abbrev pub variables : ℕ → Table → List Line → Table
variables next table [] = table
variables next table (l ∷ ls) = enter_variable (used_symbol l) next table (λ n t. variables n t ls)

-- an address has fifteen bits
abbrev pub address_word : Option ℕ → ℕ
address_word None = 0
address_word (Some n) = n % 32768

-- the word of a line, if it is an instruction
abbrev pub word_in : Table → Line → Option ℕ
word_in table None = None
word_in table (Some (label s)) = None
word_in table (Some (address (number n))) = Some n
word_in table (Some (address (symbol s))) = Some (address_word (address_in table s.name))
word_in table (Some (compute c)) = Some (compute_word c)

abbrev pub with_word : Option ℕ → List ℕ → List ℕ
with_word None ws = ws
with_word (Some w) ws = w ∷ ws

abbrev pub words : Table → List Line → List ℕ
words table [] = []
words table (l ∷ ls) = with_word (word_in table l) (words table ls)

-- The words of a program, or its first fault: labels first, then its size, then uses of a label at 32,768, then the number of
-- variables.
abbrev pub with_variables : Table → Table → List Line → Result (List ℕ) Wrong
with_variables table all ls =
    if nat_lt 16368 (length all - length table) then Err (TooManyVariables (length all - length table)) else Ok (words all ls)

abbrev pub if_near : Option Place → Table → List Line → Result (List ℕ) Wrong
if_near (Some at) table ls = Err (Range at 32768)
if_near None table ls = with_variables table (variables 16 table ls) ls

abbrev pub label_values : Result Table Wrong → List Line → Result (List ℕ) Wrong
label_values (Err w) ls = Err w
label_values (Ok table) ls = if nat_lt image_words (size ls) then Err (TooLarge (size ls)) else if_near (first_past table ls) table ls

abbrev pub program : List Line → Result (List ℕ) Wrong
program ls = label_values (labels 0 [] ls) ls
