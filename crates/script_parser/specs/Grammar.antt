-- The grammar of test scripts (book, appendix 3).
use Rattle.std.specs.Prelude.{ℕ, ◌+◌, ◌-◌, ◌*◌, Bool, true, false, List, [], ◌∷◌, Option, Some, None, Result, Ok, Err, if◌then◌else◌, nat_lt, nat_le, min, ◌==◌, ◌||◌, ◌&&◌, length, codes}
use denote.Enum.Bare.{sameb}
use Rattle.scan_text.specs.declared.Place.{Place}
use Rattle.grammar.specs.declared.Fault.{Fault}
use Rattle.grammar.specs.declared.Fault.TheVariants.{Range}
use Rattle.grammar.specs.Rules.{Rule, mark, word, seq, choice, repeat, name, within, end, Rules}
use Rattle.script_parser.specs.declared.tree.Placed.{Placed}
use Rattle.script_parser.specs.declared.tree.Item.{Item}
use Rattle.script_parser.specs.contracts.token.Role.{the_type}
use Rattle.script_parser.specs.declared.token.Role.{Role}
use Rattle.script_parser.specs.declared.token.Role.TheVariants as role
use Rattle.script_parser.specs.declared.token.Kind.{Kind}
use Rattle.script_parser.specs.declared.token.Kind.TheVariants as kind
use Rattle.script_parser.specs.declared.figures.Figure.{Figure}
use Rattle.script_parser.specs.declared.figures.Number.{Number}
use Rattle.script_parser.specs.declared.figures.Number.TheVariants as number
use Rattle.script_parser.specs.declared.figures.WrittenLayout.{WrittenLayout}
use Rattle.script_parser.specs.declared.nesting.Nesting.{Nesting}
use Rattle.script_parser.specs.Tokens.{Word}
use Rattle.script_parser.specs.Numbers.{whole_figure, number_of_word, value_of, layout_of_word, plain_layout, one, variable_of, ends_in}

-- What a token says: a sign, and a word that begins a command, what it is; others their text, their number or their item.
pub data Said : Type 0 where
  Fixed : Kind → Said
  Word' : Placed → Said
  Count : ℕ → Said
  Value : ℕ → Said
  Shown : Item → Said
  Text' : List ℕ → Said

abbrev pub fixed_word : Word → Said
fixed_word t = Fixed t.kind

abbrev pub placed_of : Word → Placed
placed_of t = record { text = t.text; place = t.place }

abbrev pub placed_word : Word → Said
placed_word t = Word' (placed_of t)

abbrev pub known_word : Word → Said
known_word t = Text' t.text

-- tests of tokens

-- what a token is at the begin of a command
abbrev pub role_in : Kind → Role
role_in (kind.Word r) = r
role_in k = role.Plain

-- what the next token is at the begin of a command
abbrev pub next_role : List Word → Role
next_role [] = role.Plain
next_role (t ∷ ts) = role_in t.kind

abbrev pub role_is : Role → Role → Bool
role_is r q = sameb the_type q r

-- a command of one word
abbrev pub steps : Role → Bool
steps role.Eval = true
steps role.Tick = true
steps role.Tock = true
steps role.TickTock = true
steps role.Output = true
steps r = false

-- the token has a role that passes the test
abbrev pub passes : (Role → Bool) → Word → Bool
passes test t = test (role_in t.kind)

abbrev pub is_role : Role → Word → Bool
is_role r t = role_is r (role_in t.kind)

abbrev pub sign_is : ℕ → Kind → Bool
sign_is b (kind.Sign c) = c == b
sign_is b k = false

abbrev pub is_sign : ℕ → Word → Bool
is_sign b t = sign_is b t.kind

-- , ; !
abbrev pub is_ender : Word → Bool
is_ender t = sign_is 44 t.kind || (sign_is 59 t.kind || sign_is 33 t.kind)

abbrev pub words : Kind → Bool
words (kind.Word r) = true
words k = false

abbrev pub is_word : Word → Bool
is_word t = words t.kind

abbrev pub texts : Kind → Bool
texts kind.Text = true
texts k = false

abbrev pub is_text : Word → Bool
is_text t = texts t.kind

-- a chip or a program
abbrev pub is_device : Word → Bool
is_device t = is_word t && (ends_in (codes ".hdl") t.text || (ends_in (codes ".asm") t.text || ends_in (codes ".hack") t.text))

-- a program
abbrev pub is_program : Word → Bool
is_program t = is_word t && (ends_in (codes ".asm") t.text || ends_in (codes ".hack") t.text)

abbrev pub is_some : {A : Type 0} → Option A → Bool
is_some None = false
is_some (Some a) = true

-- a decimal number
abbrev pub is_count : Word → Bool
is_count t = is_word t && is_some (whole_figure t.text)

-- a number of a `set`
abbrev pub is_value : Word → Bool
is_value t = is_word t && is_some (number_of_word t.text)

-- an item of a list
abbrev pub is_item : Word → Bool
is_item t = is_word t && is_some (layout_of_word t.text)

-- checks of tokens

-- the place of the digit of a word from which on there are this many bytes
abbrev pub place_in : Word → ℕ → Place
place_in t n = record { line = t.place.line; column = t.place.column + (length t.text - n) }

-- the number of this place is past its limit; a value over 1,000,000,000 is given as that
abbrev pub too_large : Place → ℕ → Fault
too_large at n = Range at (min n 1000000000)

abbrev pub free : Nesting → Word → Result Nesting Fault
free s t = Ok s

abbrev pub or_else : {A : Type 0} → A → Option A → A
or_else a None = a
or_else a (Some b) = b

abbrev pub count_of : Word → ℕ
count_of t = (or_else one (whole_figure t.text)).value

abbrev pub times_more : Nesting → ℕ → Nesting
times_more s n = record { depth = s.depth; times = s.times * n }

-- a count, and its product with those round it, are at most 1,000,000,000
abbrev pub check_count : Nesting → Word → Result Nesting Fault
check_count s t =
    if nat_lt 1000000000 (count_of t) || nat_lt 1000000000 (s.times * count_of t) then Err (Range t.place 1000000000)
    else Ok (times_more s (count_of t))

abbrev pub counted_word : Word → Said
counted_word t = Count (count_of t)

-- nothing is counted, and there is at most a fault
abbrev pub unless : Nesting → Option Fault → Result Nesting Fault
unless s None = Ok s
unless s (Some f) = Err f

-- the figure is at most the limit
abbrev pub figure_fault : Word → ℕ → Figure → Option Fault
figure_fault t limit f = if nat_lt limit f.value then Some (too_large (place_in t f.from_end) f.value) else None

abbrev pub number_fault : Word → Number → Option Fault
number_fault t (number.Plain f) = figure_fault t 65535 f
number_fault t (number.Negative f) = figure_fault t 32768 f
number_fault t (number.Bits w) = None

abbrev pub number_in : Word → Number
number_in t = or_else (number.Bits 0) (number_of_word t.text)

-- a number is at most 65,535, and at most 32,768 after a `-`
abbrev pub check_value : Nesting → Word → Result Nesting Fault
check_value s t = unless s (number_fault t (number_in t))

abbrev pub valued_word : Word → Said
valued_word t = Value (value_of (number_in t))

abbrev pub layout_in : Word → WrittenLayout
layout_in t = or_else plain_layout (layout_of_word t.text)

abbrev pub layout_fault : Word → WrittenLayout → Option Fault
layout_fault t l =
    if nat_lt 255 l.left.value then Some (too_large (place_in t l.left.from_end) l.left.value)
    else (if nat_lt 255 l.shown.value then Some (too_large (place_in t l.shown.from_end) l.shown.value)
    else (if nat_lt 255 l.right.value then Some (too_large (place_in t l.right.from_end) l.right.value)
    else None))

-- blanks and characters of an item are at most 255
abbrev pub check_item : Nesting → Word → Result Nesting Fault
check_item s t = unless s (layout_fault t (layout_in t))

abbrev pub item_laid : Word → WrittenLayout → Item
item_laid t l = record {
  variable = record { text = variable_of t.text; place = t.place };
  layout = record { format = l.format; left = l.left.value; shown = l.shown.value; right = l.right.value };
}

abbrev pub shown_word : Word → Said
shown_word t = Shown (item_laid t (layout_in t))

-- rules; the one rule with a name is that of commands
pub data Part : Type 0 where
  command : Part

abbrev pub ScriptRule : Type 0
ScriptRule = Rule Word Nesting Part Said

abbrev pub sign_of : ℕ → ScriptRule
sign_of b = mark (Fixed (kind.Sign b)) (is_sign b)

-- a word that begins a command
abbrev pub begin : Role → ScriptRule
begin r = mark (Fixed (kind.Word r)) (is_role r)

abbrev pub any_word : ScriptRule
any_word = word is_word free placed_word

abbrev pub device : ScriptRule
device = word is_device free placed_word

abbrev pub program : ScriptRule
program = word is_program free placed_word

abbrev pub count : ScriptRule
count = word is_count check_count counted_word

abbrev pub value : ScriptRule
value = word is_value check_value valued_word

abbrev pub item : ScriptRule
item = word is_item check_item shown_word

abbrev pub text : ScriptRule
text = word is_text free known_word

-- eval | tick | tock | ticktock | output
abbrev pub step : ScriptRule
step = word (passes steps) free fixed_word

-- load F
abbrev pub load : ScriptRule
load = seq (begin role.Load) device

-- output-file F
abbrev pub output_file : ScriptRule
output_file = seq (begin role.OutputFile) any_word

-- compare-to F
abbrev pub compare_to : ScriptRule
compare_to = seq (begin role.CompareTo) any_word

-- output-list ITEM ITEM*
abbrev pub items : ScriptRule
items = seq item (repeat item)

abbrev pub output_list : ScriptRule
output_list = seq (begin role.OutputList) items

abbrev pub assignment : ScriptRule
assignment = seq any_word value

-- set V n
abbrev pub setting : ScriptRule
setting = seq (begin role.Set) assignment

-- echo "text"
abbrev pub echo : ScriptRule
echo = seq (begin role.Echo) text

abbrev pub rom : ScriptRule
rom = word (is_role role.Rom) free placed_word

abbrev pub loaded_program : ScriptRule
loaded_program = seq (begin role.Load) program

-- ROM32K load F
abbrev pub load_rom : ScriptRule
load_rom = seq rom loaded_program

abbrev pub act : ScriptRule
act = choice step (choice load (choice output_file (choice compare_to (choice output_list (choice setting (choice echo load_rom))))))

-- a command ends with `,`, `;` or `!`
abbrev pub ender : ScriptRule
ender = mark (Fixed (kind.Sign 59)) is_ender

abbrev pub ended_act : ScriptRule
ended_act = seq act ender

-- Repetitions are nested at most 256 deep; each is round all its tokens.
abbrev pub deeper : Nesting → Place → Result Nesting Fault
deeper s at = if nat_le 256 s.depth then Err (Range at 257) else Ok (record { depth = s.depth + 1; times = s.times })

abbrev pub back : Nesting → Nesting → Nesting
back outer inner = outer

-- repeat n { command* }
abbrev pub commands : ScriptRule
commands = repeat (name command)

abbrev pub block : ScriptRule
block = seq (sign_of 123) (seq commands (sign_of 125))

abbrev pub counted_block : ScriptRule
counted_block = seq count block

abbrev pub repetition_parts : ScriptRule
repetition_parts = seq (begin role.Repeat) counted_block

abbrev pub repetition : ScriptRule
repetition = within deeper back repetition_parts

abbrev pub rule_of : Part → ScriptRule
rule_of command = choice repetition ended_act

-- the words that begin commands

abbrev pub echo_or : Role → Bool
echo_or r = role_is role.Echo r || role_is role.Rom r

abbrev pub set_or : Role → Bool
set_or r = role_is role.Set r || echo_or r

abbrev pub list_or : Role → Bool
list_or r = role_is role.OutputList r || set_or r

abbrev pub compare_or : Role → Bool
compare_or r = role_is role.CompareTo r || list_or r

abbrev pub file_or : Role → Bool
file_or r = role_is role.OutputFile r || compare_or r

abbrev pub load_or : Role → Bool
load_or r = role_is role.Load r || file_or r

abbrev pub acts : Role → Bool
acts r = steps r || load_or r

abbrev pub commands_begin : Role → Bool
commands_begin r = role_is role.Repeat r || acts r

abbrev pub opens : Part → Word → Bool
opens command t = passes commands_begin t

-- a script, and nothing after it
abbrev pub whole : ScriptRule
whole = seq commands end

-- outside of all repetitions
abbrev pub outermost : Nesting
outermost = record { depth = 0; times = 1 }

-- The grammar, for a text that ends at this place.
abbrev pub script : Place → Rules Word Nesting Part Said
script ending = record { body = rule_of; opens = opens; place = λ t. t.place; ending = ending }
