-- The grammar of VM texts: a command or nothing on each line, and the functions of a file. (The book, chapters 7 and 8.)
use Rattle.std.specs.Prelude.{ℕ, Bool, true, false, Result, Ok, Err, if◌then◌else◌, nat_lt, List}
use Rattle.scan_text.specs.declared.Place.{Place}
use Rattle.grammar.specs.declared.Fault.{Fault}
use Rattle.grammar.specs.declared.Fault.TheVariants.{Range}
use Rattle.grammar.specs.Rules.{Rule, mark, word, seq, choice, repeat, end, Rules}
use Rattle.vm_tree.specs.declared.command.Operation.{Operation}
use Rattle.vm_tree.specs.declared.command.Segment.{Segment}
use Rattle.vm_tree.specs.declared.command.Segment.TheVariants as segment
use Rattle.vm_parser.specs.Tokens.{Word, ends_line}
use Rattle.vm_parser.specs.declared.token.Kind.{Kind}
use Rattle.vm_parser.specs.declared.token.Kind.TheVariants as kind
use Rattle.vm_parser.specs.declared.token.Role.{Role}
use Rattle.vm_parser.specs.declared.token.Role.TheVariants as role

-- what a token says: a word of a command, an operation, a segment, a name, a number, or the end of a line
pub data Said : Type 0 where
  Keyword : Role → Said
  Operation' : Operation → Said
  Segment' : Segment → Said
  Name' : List ℕ → Said
  Number : ℕ → Said
  LineEnd : Said

-- the tests of a token

-- the same word of a command
abbrev pub same_word : Role → Role → Bool
same_word role.Push role.Push = true
same_word role.Pop role.Pop = true
same_word role.Label role.Label = true
same_word role.Goto role.Goto = true
same_word role.IfGoto role.IfGoto = true
same_word role.Call role.Call = true
same_word role.Function role.Function = true
same_word role.Return role.Return = true
same_word _ _ = false

abbrev pub is_keyword : Role → Word → Bool
is_keyword r t = same_word r t.role

abbrev pub operation_role : Role → Bool
operation_role (role.Operation o) = true
operation_role _ = false

abbrev pub is_operation : Word → Bool
is_operation t = operation_role t.role

-- nothing is popped to `constant`
abbrev pub may_come : Bool → Segment → Bool
may_come constant segment.Constant = constant
may_come constant _ = true

abbrev pub segment_role : Bool → Role → Bool
segment_role constant (role.Segment g) = may_come constant g
segment_role constant _ = false

abbrev pub is_segment : Bool → Word → Bool
is_segment constant t = segment_role constant t.role

abbrev pub name_kind : Kind → Bool
name_kind kind.Name = true
name_kind _ = false

abbrev pub is_name : Word → Bool
is_name t = name_kind t.kind

abbrev pub number_kind : Kind → Bool
number_kind (kind.Number n) = true
number_kind _ = false

abbrev pub is_number : Word → Bool
is_number t = number_kind t.kind

abbrev pub is_line_end : Word → Bool
is_line_end t = ends_line t.kind

-- what they say

abbrev pub role_said : Role → Said
role_said (role.Operation o) = Operation' o
role_said (role.Segment g) = Segment' g
role_said r = Keyword r

abbrev pub word_meaning : Word → Said
word_meaning t = role_said t.role

abbrev pub name_said : Word → Said
name_said t = Name' t.text

abbrev pub number_of : Kind → ℕ
number_of (kind.Number n) = n
number_of _ = 0

abbrev pub number_said : Word → Said
number_said t = Number (number_of t.kind)

-- Indices. The number that is counted is the greatest index of the segment that stands before; elsewhere it is the greatest number of a
-- text, which bounds nothing.

abbrev pub greatest : ℕ
greatest = 32767

abbrev pub most_of : Segment → ℕ
most_of segment.Pointer = 1
most_of segment.Temp = 7
most_of _ = greatest

abbrev pub most_by : Role → ℕ
most_by (role.Segment g) = most_of g
most_by _ = greatest

abbrev pub with_most : ℕ → Word → Result ℕ Fault
with_most most t = Ok (most_by t.role)

abbrev pub within_most : ℕ → Word → Result ℕ Fault
within_most most t = if nat_lt most (number_of t.kind) then Err (Range t.place (number_of t.kind)) else Ok greatest

abbrev pub free : ℕ → Word → Result ℕ Fault
free most t = Ok most

-- rules

abbrev pub Part : Type 0
Part = Rule Word ℕ (Unit {0}) Said

abbrev pub keyword : Role → Part
keyword r = mark (Keyword r) (is_keyword r)

abbrev pub line_end : Part
line_end = mark LineEnd is_line_end

abbrev pub name : Part
name = word is_name free name_said

abbrev pub number : Part
number = word is_number free number_said

abbrev pub operation : Part
operation = word is_operation free word_meaning

-- a segment, where `constant` may or may not come, and an index: of `pointer` at most 1, of `temp` at most 7
abbrev pub segment_rule : Bool → Part
segment_rule constant = word (is_segment constant) with_most word_meaning

abbrev pub index : Part
index = word is_number within_most number_said

abbrev pub location : Bool → Part
location constant = seq (segment_rule constant) index

abbrev pub push : Part
push = seq (keyword role.Push) (location true)

abbrev pub pop : Part
pop = seq (keyword role.Pop) (location false)

abbrev pub label : Part
label = seq (keyword role.Label) name

abbrev pub goto : Part
goto = seq (keyword role.Goto) name

abbrev pub if_goto : Part
if_goto = seq (keyword role.IfGoto) name

abbrev pub call : Part
call = seq (keyword role.Call) (seq name number)

abbrev pub returns : Part
returns = keyword role.Return

abbrev pub command : Part
command = choice operation (choice push (choice pop (choice label (choice goto (choice if_goto (choice call returns))))))

-- one command a line; a line may be empty
abbrev pub line : Part
line = choice line_end (seq command line_end)

abbrev pub lines : Part
lines = repeat line

abbrev pub function : Part
function = seq (keyword role.Function) (seq name (seq number (seq line_end lines)))

abbrev pub functions : Part
functions = repeat function

-- what stands before the first function: with `bare` commands, and else nothing
abbrev pub opening : Bool → Part
opening true = lines
opening false = repeat line_end

abbrev pub whole : Bool → Part
whole bare = seq (opening bare) (seq functions end)

-- the grammar, for a text that ends at this place; it has one name, which no rule uses
abbrev pub vm : Place → Rules Word ℕ (Unit {0}) Said
vm ending = record { body = λ n. line_end; opens = λ n t. is_line_end t; place = λ t. t.place; ending = ending }
