-- The printed form of a file spells it.
use Rattle.std.proofs.Common.{◌≡◌, ℕ, ◌≤◌, Bool, true, false, cond, List, [], ◌∷◌, ◌++◌, length, map, Option, Some, None, Ok, Err, refl, sym, ap, subst, ◌∙◌, arith, append_assoc, leb-true}
use Rattle.std.specs.Prelude.{codes}
use Rattle.std.proofs.lemmas.Bool.{le-ltb, and_parts}
use Rattle.std.proofs.lemmas.List.{append-nil}
use Rattle.scan_text.specs.declared.Place.{Place}
use Rattle.scan_text.specs.Text.{start, walk}
use Rattle.grammar.specs.declared.Fault.TheVariants.{Range}
use Rattle.grammar.specs.Cutting.{cut}
use Rattle.grammar.specs.Lines.{is_open}
use Rattle.grammar.proofs.LinePieces.{close_none, cut_within}
use Rattle.grammar.specs.Rules.{seq, enters, Skip, Leaf, Pair, Reads, marked, worded, both, left, at_end, ended, again}
use Rattle.vm_tree.specs.Printed.{operation_text, segment_text, command_text, lines_text, with_number, function_text, functions_text, file_text, program_text}
use Rattle.vm_tree.specs.declared.command.Operation.{Operation}
use Rattle.vm_tree.specs.declared.command.Operation.TheVariants as operation
use Rattle.vm_tree.specs.declared.command.Segment.{Segment}
use Rattle.vm_tree.specs.declared.command.Segment.TheVariants as segment
use Rattle.vm_tree.specs.declared.command.Command.{Command}
use Rattle.vm_tree.specs.declared.command.Command.TheVariants as command
use Rattle.vm_tree.specs.declared.command.Line.{Line}
use Rattle.vm_tree.specs.declared.program.Function.{Function}
use Rattle.vm_tree.specs.declared.program.File.{File}
use Rattle.vm_parser.specs.declared.token.Kind.TheVariants as kind
use Rattle.vm_parser.specs.Tokens.{Word, made_word, named_word, piece, line_end_token, ends, close, finish}
use Rattle.vm_parser.specs.Grammar as rules
use Rattle.vm_parser.specs.Grammar.{Said, Number, vm, greatest, most_of, may_come, index, location, line_end, line, lines, opening, whole}
use Rattle.vm_parser.specs.Trees.{command_tree, line_tree, lines_tree, location_tree, commands, WrittenFunction, function_tree, functions_tree, function_of, Opening, opening_tree, opening_of, WrittenFile, file_of, Spells}
use Rattle.vm_parser.specs.Printed.{all, is_text_of_name, can_be_written, line_can, function_can, opening_can, file_can, read_lines, read_function, read_file}
use Rattle.vm_parser.proofs.Commands.{R, push_read, pop_read, label_read, goto_read, if_goto_read, call_read, return_read}
use Rattle.grammar.proofs.Entered.{skip, entered}
use Rattle.vm_parser.proofs.WordsCut.{Item, IsItem, word_item, if_goto_item, number_item, word_is, if_goto_is, number_is}
use Rattle.vm_parser.proofs.LinesCut.{Cut, cut_none, cut_both, AreItems, line_text, line_tokens, line_cut}

-- the words of a command
abbrev first_item : Command → Item
first_item (command.Operate o) = word_item (operation_text o)
first_item (command.Push g i) = word_item (codes "push")
first_item (command.Pop g i) = word_item (codes "pop")
first_item (command.Label l) = word_item (codes "label")
first_item (command.Goto l) = word_item (codes "goto")
first_item (command.IfGoto l) = if_goto_item
first_item (command.Call f n) = word_item (codes "call")
first_item command.Return = word_item (codes "return")

abbrev rest_items : Command → List Item
rest_items (command.Operate o) = []
rest_items (command.Push g i) = word_item (segment_text g) ∷ number_item i ∷ []
rest_items (command.Pop g i) = word_item (segment_text g) ∷ number_item i ∷ []
rest_items (command.Label l) = word_item l ∷ []
rest_items (command.Goto l) = word_item l ∷ []
rest_items (command.IfGoto l) = word_item l ∷ []
rest_items (command.Call f n) = word_item f ∷ number_item n ∷ []
rest_items command.Return = []

is_line : (c : Command) → command_text c ≡ line_text (first_item c) (rest_items c)
is_line (command.Operate o) = refl
is_line (command.Push g i) = refl
is_line (command.Pop g i) = refl
is_line (command.Label l) = refl
is_line (command.Goto l) = refl
is_line (command.IfGoto l) = refl
is_line (command.Call f n) = refl
is_line command.Return = refl

operation_named : (o : Operation) → is_text_of_name (operation_text o) ≡ true
operation_named operation.Add = refl
operation_named operation.Sub = refl
operation_named operation.Neg = refl
operation_named operation.Eq = refl
operation_named operation.Gt = refl
operation_named operation.Lt = refl
operation_named operation.And = refl
operation_named operation.Or = refl
operation_named operation.Not = refl
operation_named operation.ShiftLeft = refl
operation_named operation.ShiftRight = refl

segment_named : (g : Segment) → is_text_of_name (segment_text g) ≡ true
segment_named segment.Argument = refl
segment_named segment.Local = refl
segment_named segment.Static = refl
segment_named segment.Constant = refl
segment_named segment.This = refl
segment_named segment.That = refl
segment_named segment.Pointer = refl
segment_named segment.Temp = refl

most_small : (g : Segment) → most_of g ≤ 32767
most_small segment.Argument = omega arith
most_small segment.Local = omega arith
most_small segment.Static = omega arith
most_small segment.Constant = omega arith
most_small segment.This = omega arith
most_small segment.That = omega arith
most_small segment.Pointer = omega arith
most_small segment.Temp = omega arith

index_small : (g : Segment) (i : ℕ) → i ≤ most_of g → i ≤ 32767
index_small g i h = omega (arith, h, most_small g)

are_items : (c : Command) → can_be_written c ≡ true → IsItem (first_item c) × AreItems (rest_items c)
are_items (command.Operate o) h = (word_is (operation_text o) (operation_named o), tt)
are_items (command.Push g i) h = (word_is (codes "push") refl, (word_is (segment_text g) (segment_named g), (number_is i (index_small g i (leb-true i (most_of g) h)), tt)))
are_items (command.Pop g i) h = (word_is (codes "pop") refl, (word_is (segment_text g) (segment_named g), (number_is i (index_small g i (leb-true i (most_of g) (and_parts _ _ h).1)), tt)))
are_items (command.Label l) h = (word_is (codes "label") refl, (word_is l h, tt))
are_items (command.Goto l) h = (word_is (codes "goto") refl, (word_is l h, tt))
are_items (command.IfGoto l) h = (if_goto_is, (word_is l h, tt))
are_items (command.Call f n) h = (word_is (codes "call") refl, (word_is f (and_parts _ _ h).0, (number_is n (leb-true n 32767 (and_parts _ _ h).1), tt)))
are_items command.Return h = (word_is (codes "return") refl, tt)

abbrev command_tokens : Place → Command → List Word
command_tokens at c = line_tokens at (first_item c) (rest_items c)

command_cut : (c : Command) → can_be_written c ≡ true → (at : Place) (last : Option Word) (rest : List ℕ) → Cut (command_text c) at (command_tokens at c) last rest
command_cut c h at last rest = let p = are_items c h in subst (λ x. Cut x at (command_tokens at c) last rest) (sym (is_line c)) (line_cut (first_item c) (rest_items c) p.0 p.1 at last rest)

module _ (end : Place) where
  index_read : (most i : ℕ) (p : Place) (ts : List Word) → i ≤ most → Reads Word ℕ (Unit {0}) Said (vm end) most index (made_word (kind.Number i) p ∷ ts) (Leaf (Number i)) greatest ts
  index_read most i p ts h = worded refl (ap (λ t. cond t (Err (Range p i)) (Ok greatest)) (le-ltb _ _ h))

  location_read : (constant : Bool) (g : Segment) (i : ℕ) (p q : Place) (ts : List Word) → may_come constant g ≡ true → i ≤ most_of g → R end (location constant) (named_word (segment_text g) p ∷ made_word (kind.Number i) q ∷ ts) (location_tree g i) ts
  location_read constant segment.Argument i p q ts m h = both (worded refl refl) (index_read (most_of segment.Argument) i q ts h)
  location_read constant segment.Local i p q ts m h = both (worded refl refl) (index_read (most_of segment.Local) i q ts h)
  location_read constant segment.Static i p q ts m h = both (worded refl refl) (index_read (most_of segment.Static) i q ts h)
  location_read constant segment.Constant i p q ts m h = both (worded m refl) (index_read (most_of segment.Constant) i q ts h)
  location_read constant segment.This i p q ts m h = both (worded refl refl) (index_read (most_of segment.This) i q ts h)
  location_read constant segment.That i p q ts m h = both (worded refl refl) (index_read (most_of segment.That) i q ts h)
  location_read constant segment.Pointer i p q ts m h = both (worded refl refl) (index_read (most_of segment.Pointer) i q ts h)
  location_read constant segment.Temp i p q ts m h = both (worded refl refl) (index_read (most_of segment.Temp) i q ts h)

  may_all : (g : Segment) → may_come true g ≡ true
  may_all segment.Argument = refl
  may_all segment.Local = refl
  may_all segment.Static = refl
  may_all segment.Constant = refl
  may_all segment.This = refl
  may_all segment.That = refl
  may_all segment.Pointer = refl
  may_all segment.Temp = refl

  command_read : (c : Command) → can_be_written c ≡ true → (at : Place) (ts : List Word) → R end (seq rules.command line_end) (command_tokens at c ++ ts) (Pair (command_tree c) Skip) ts
  command_read (command.Operate operation.Add) h at ts = both (left refl (worded refl refl)) (marked refl)
  command_read (command.Operate operation.Sub) h at ts = both (left refl (worded refl refl)) (marked refl)
  command_read (command.Operate operation.Neg) h at ts = both (left refl (worded refl refl)) (marked refl)
  command_read (command.Operate operation.Eq) h at ts = both (left refl (worded refl refl)) (marked refl)
  command_read (command.Operate operation.Gt) h at ts = both (left refl (worded refl refl)) (marked refl)
  command_read (command.Operate operation.Lt) h at ts = both (left refl (worded refl refl)) (marked refl)
  command_read (command.Operate operation.And) h at ts = both (left refl (worded refl refl)) (marked refl)
  command_read (command.Operate operation.Or) h at ts = both (left refl (worded refl refl)) (marked refl)
  command_read (command.Operate operation.Not) h at ts = both (left refl (worded refl refl)) (marked refl)
  command_read (command.Operate operation.ShiftLeft) h at ts = both (left refl (worded refl refl)) (marked refl)
  command_read (command.Operate operation.ShiftRight) h at ts = both (left refl (worded refl refl)) (marked refl)
  command_read (command.Push g i) h at ts = both (push_read end _ refl (both (marked refl) (location_read true g i _ _ _ (may_all g) (leb-true i (most_of g) h)))) (marked refl)
  command_read (command.Pop g i) h at ts = both (pop_read end _ refl (both (marked refl) (location_read false g i _ _ _ (and_parts _ _ h).0 (leb-true i (most_of g) (and_parts _ _ h).1)))) (marked refl)
  command_read (command.Label l) h at ts = both (label_read end _ refl (both (marked refl) (worded refl refl))) (marked refl)
  command_read (command.Goto l) h at ts = both (goto_read end _ refl (both (marked refl) (worded refl refl))) (marked refl)
  command_read (command.IfGoto l) h at ts = both (if_goto_read end _ refl (both (marked refl) (worded refl refl))) (marked refl)
  command_read (command.Call f n) h at ts = both (call_read end _ refl (both (marked refl) (both (worded refl refl) (worded refl refl)))) (marked refl)
  command_read command.Return h at ts = both (return_read end _ refl (marked refl)) (marked refl)

  no_line_end : (c : Command) (at : Place) (ts : List Word) → enters (vm end) line_end (command_tokens at c ++ ts) ≡ false
  no_line_end (command.Operate o) at ts = refl
  no_line_end (command.Push g i) at ts = refl
  no_line_end (command.Pop g i) at ts = refl
  no_line_end (command.Label l) at ts = refl
  no_line_end (command.Goto l) at ts = refl
  no_line_end (command.IfGoto l) at ts = refl
  no_line_end (command.Call f n) at ts = refl
  no_line_end command.Return at ts = refl

  line_read : (c : Command) → can_be_written c ≡ true → (at : Place) (ts : List Word) → R end line (command_tokens at c ++ ts) (line_tree (Some c)) ts
  line_read c h at ts = skip (no_line_end c at ts) refl (command_read c h at ts)

-- lines
abbrev lines_tokens : Place → List Line → List Word
lines_tokens at [] = []
lines_tokens at (l ∷ ls) = command_tokens at l.command ++ lines_tokens (walk at (command_text l.command)) ls

lines_cut : (ls : List Line) → all line_can ls ≡ true → (at : Place) (last : Option Word) → is_open ends last ≡ false → (rest : List ℕ) → Cut (lines_text ls) at (lines_tokens at ls) last rest
lines_cut [] h at last o rest = cut_none at last rest o
lines_cut (l ∷ ls) h at last o rest =
    cut_both (command_text l.command) (lines_text ls) at _ _ last rest o
    (λ la oa r. command_cut l.command (and_parts _ _ h).0 at la r)
    (λ la oa r. lines_cut ls (and_parts _ _ h).1 (walk at (command_text l.command)) la oa r)

abbrev written_lines : List Line → List (Option Command)
written_lines ls = map (λ (l : Line). Some l.command) ls

lines_read : (end : Place) (ls : List Line) → all line_can ls ≡ true → (at : Place) (ts : List Word) → enters (vm end) line ts ≡ false → R end lines (lines_tokens at ls ++ ts) (lines_tree (written_lines ls)) ts
lines_read end [] h at ts e = ended e
lines_read end (l ∷ ls) h at ts e =
    let us : List Word = lines_tokens (walk at (command_text l.command)) ls ++ ts in
    let p = line_read end l.command (and_parts _ _ h).0 at us in
    let whole = again (entered Word ℕ (Unit {0}) Said (vm end) p refl) p (lines_read end ls (and_parts _ _ h).1 (walk at (command_text l.command)) ts e) in
    subst (λ vs. R end lines vs (lines_tree (written_lines (l ∷ ls))) ts) (sym (append_assoc (command_tokens at l.command) (lines_tokens (walk at (command_text l.command)) ls) ts)) whole

commands_written : (ls : List Line) → commands (written_lines ls) ≡ read_lines ls
commands_written [] = refl
commands_written (l ∷ ls) = let rest = commands_written ls in λ i. record { command = l.command; statement = 0; commit = false } ∷ rest i

-- functions
abbrev head_items : Function → List Item
head_items f = word_item f.name ∷ number_item f.locals ∷ []

abbrev head_text : Function → List ℕ
head_text f = with_number (codes "function ") f.name f.locals

abbrev head_tokens : Place → Function → List Word
head_tokens at f = line_tokens at (word_item (codes "function")) (head_items f)

abbrev function_tokens : Place → Function → List Word
function_tokens at f = head_tokens at f ++ lines_tokens (walk at (head_text f)) f.lines

head_is : (f : Function) → head_text f ≡ line_text (word_item (codes "function")) (head_items f)
head_is f = refl

head_cut : (f : Function) → function_can f ≡ true → (at : Place) (last : Option Word) (rest : List ℕ) → Cut (head_text f) at (head_tokens at f) last rest
head_cut f h at last rest =
    let locals = leb-true f.locals 32767 (and_parts _ _ (and_parts _ _ h).1).0 in
    subst (λ x. Cut x at (head_tokens at f) last rest) (sym (head_is f)) (line_cut (word_item (codes "function")) (head_items f) (word_is (codes "function") refl) (word_is f.name (and_parts _ _ h).0, (number_is f.locals locals, tt)) at last rest)

function_cut : (f : Function) → function_can f ≡ true → (at : Place) (last : Option Word) → is_open ends last ≡ false → (rest : List ℕ) → Cut (function_text f) at (function_tokens at f) last rest
function_cut f h at last o rest =
    cut_both (head_text f) (lines_text f.lines) at _ _ last rest o
    (λ la oa r. head_cut f h at la r)
    (λ la oa r. lines_cut f.lines (and_parts _ _ (and_parts _ _ h).1).1 (walk at (head_text f)) la oa r)

abbrev written : Function → WrittenFunction
written f = record { name = f.name; locals = f.locals; lines = written_lines f.lines }

function_read : (end : Place) (f : Function) → function_can f ≡ true → (at : Place) (ts : List Word) → enters (vm end) line ts ≡ false → R end rules.function (function_tokens at f ++ ts) (function_tree (written f)) ts
function_read end f h at ts e =
    both (marked refl) (both (worded refl refl) (both (worded refl refl) (both (marked refl) (lines_read end f.lines (and_parts _ _ (and_parts _ _ h).1).1 (walk at (head_text f)) ts e))))

abbrev functions_tokens : Place → List Function → List Word
functions_tokens at [] = []
functions_tokens at (f ∷ fs) = function_tokens at f ++ functions_tokens (walk at (function_text f)) fs

functions_cut : (fs : List Function) → all function_can fs ≡ true → (at : Place) (last : Option Word) → is_open ends last ≡ false → (rest : List ℕ) → Cut (functions_text fs) at (functions_tokens at fs) last rest
functions_cut [] h at last o rest = cut_none at last rest o
functions_cut (f ∷ fs) h at last o rest =
    cut_both (function_text f) (functions_text fs) at _ _ last rest o
    (λ la oa r. function_cut f (and_parts _ _ h).0 at la oa r)
    (λ la oa r. functions_cut fs (and_parts _ _ h).1 (walk at (function_text f)) la oa r)

no_line : (end : Place) (at : Place) (fs : List Function) → enters (vm end) line (functions_tokens at fs) ≡ false
no_line end at [] = refl
no_line end at (f ∷ fs) = refl

functions_read : (end : Place) (fs : List Function) → all function_can fs ≡ true → (at : Place) → R end rules.functions (functions_tokens at fs) (functions_tree (map written fs)) []
functions_read end [] h at = ended refl
functions_read end (f ∷ fs) h at =
    let next = walk at (function_text f) in
    again refl (function_read end f (and_parts _ _ h).0 at (functions_tokens next fs) (no_line end next fs)) (functions_read end fs (and_parts _ _ h).1 next)

functions_written : (fs : List Function) → map function_of (map written fs) ≡ map read_function fs
functions_written [] = refl
functions_written (f ∷ fs) = let ls = commands_written f.lines in let rest = functions_written fs in λ i. record { name = f.name; locals = f.locals; lines = ls i } ∷ rest i

-- what stands before the first function
abbrev written_opening : (bare : Bool) → List Line → Opening bare
written_opening true ls = written_lines ls
written_opening false ls = 0

opening_all : (bare : Bool) (ls : List Line) → opening_can bare ls ≡ true → all line_can ls ≡ true
opening_all true ls h = h
opening_all false [] h = refl
opening_all false (l ∷ ls) h = absurd cc

no_end : (end : Place) (at : Place) (fs : List Function) → enters (vm end) line_end (functions_tokens at fs) ≡ false
no_end end at [] = refl
no_end end at (f ∷ fs) = refl

opening_read : (end : Place) (bare : Bool) (ls : List Line) → opening_can bare ls ≡ true → (at next : Place) (fs : List Function) → R end (opening bare) (lines_tokens at ls ++ functions_tokens next fs) (opening_tree bare (written_opening bare ls)) (functions_tokens next fs)
opening_read end true ls h at next fs = lines_read end ls h at (functions_tokens next fs) (no_line end next fs)
opening_read end false [] h at next fs = ended (no_end end next fs)
opening_read end false (l ∷ ls) h at next fs = absurd cc

opening_written : (bare : Bool) (ls : List Line) → opening_can bare ls ≡ true → opening_of bare (written_opening bare ls) ≡ read_lines ls
opening_written true ls h = commands_written ls
opening_written false [] h = refl
opening_written false (l ∷ ls) h = absurd cc

-- the whole file
abbrev file_tokens : (f : File) → List Word
file_tokens f = lines_tokens start f.opening ++ functions_tokens (walk start (lines_text f.opening)) f.functions

file_cut : (bare : Bool) (f : File) → file_can bare f ≡ true → cut piece close None 0 start (program_text (f ∷ [])) ≡ Ok (file_tokens f)
file_cut bare f h =
    let q = cut_both (lines_text f.opening) (functions_text f.functions) start (lines_tokens start f.opening) (functions_tokens (walk start (lines_text f.opening)) f.functions) None [] refl
    (λ la oa r. lines_cut f.opening (opening_all bare f.opening (and_parts _ _ h).0) start la oa r)
    (λ la oa r. functions_cut f.functions (and_parts _ _ h).1 (walk start (lines_text f.opening)) la oa r) in
    q.cuts ∙ ap (λ us. Ok (file_tokens f ++ us)) (close_none line_end_token ends q.then_last (walk start (file_text f)) q.closed) ∙ ap Ok (append-nil (file_tokens f))

pub printed_spells : (bare : Bool) (f : File) → file_can bare f ≡ true → length (program_text (f ∷ [])) ≤ 1048576 → Spells bare f.name (program_text (f ∷ [])) (read_file f ∷ [])
printed_spells bare f h small =
    let text = program_text (f ∷ []) in
    let end = finish text in
    let w : WrittenFile bare = record { opening = written_opening bare f.opening; functions = map written f.functions } in
    let o = opening_written bare f.opening (and_parts _ _ h).0 in
    let fs = functions_written f.functions in
    let same : read_file f ≡ file_of bare f.name w = λ i. record { name = f.name; opening = sym o i; functions = sym fs i } in (
      w,
      ap (λ g. g ∷ []) same,
      (
        file_tokens f,
        greatest,
        cut_within piece close text (file_tokens f) small (file_cut bare f h),
        both (opening_read end bare f.opening (and_parts _ _ h).0 start (walk start (lines_text f.opening)) f.functions) (both (functions_read end f.functions (and_parts _ _ h).1 (walk start (lines_text f.opening))) at_end),
      ),
    )
