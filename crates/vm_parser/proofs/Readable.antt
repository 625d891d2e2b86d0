-- What is read can be written.
use Rattle.std.proofs.Common.{◌≡◌, ℕ, zero, suc, Bool, true, false, cond, List, [], ◌∷◌, length, Option, Some, None, Result, Ok, Err, refl, sym, ap, subst, ◌∙◌}
use Rattle.std.specs.Prelude.{◌||◌, ◌&&◌, ◌==◌, nat_lt, nat_le}
use Rattle.std.proofs.lemmas.Bool.{ltb-false, le-leb, and_parts, and_from}
use Rattle.scan_text.specs.declared.Place.{Place}
use Rattle.scan_text.specs.Text.{start, step, front, is_digit, digits, decimal, capped_count}
use Rattle.grammar.specs.declared.Fault.{Fault}
use Rattle.grammar.specs.declared.Fault.TheVariants.{Grammar, Range}
use Rattle.grammar.specs.Cutting.{Piece, Passed, Token, Wrong, with_token, cut_by, cut}
use Rattle.grammar.specs.Lines.{comment_piece, line_end_piece, is_open}
use Rattle.grammar.specs.Rules.{Skip, Leaf, Pair, Left, Right, Reads, marked, worded, at_end, both, left, right, passed, taken, ended, again, named as named_rule, inside}
use Rattle.vm_tree.specs.declared.program.File.{File}
use Rattle.vm_parser.specs.declared.token.Kind.{Kind}
use Rattle.vm_parser.specs.declared.token.Kind.TheVariants as kind
use Rattle.vm_parser.specs.declared.token.Role.{Role}
use Rattle.vm_parser.specs.declared.token.Role.TheVariants as role
use Rattle.vm_parser.specs.Tokens.{Word, made_word, piece, line_end_token, ends, close, tokens_of, finish, begins_name, is_name_byte, begins_if_goto, number_piece, name_piece, word_piece, if_goto_piece}
use Rattle.vm_parser.specs.Grammar.{Said, Number, Part, vm, greatest, may_come, most_of, most_by, name_kind, number_kind, number_of, operation_role, segment_role, role_said, push, pop, label, goto, if_goto, call, command, lines, functions, opening, whole}
use Rattle.vm_parser.specs.Trees.{VmTree, file_of, Spells}
use Rattle.vm_parser.specs.Printed.{all, is_text_of_name, can_be_written, line_can, function_can, opening_can, file_can}
use Rattle.vm_parser.proofs.Exactness.{command_in, lines_in, functions_in, opening_in, file_in, file_told}

-- Tokens: a name is a name, and a number is at most 32,767.
abbrev kind_can : Kind → List ℕ → Bool
kind_can kind.Name text = is_text_of_name text
kind_can kind.IfGoto text = true
kind_can (kind.Number n) text = nat_le n greatest
kind_can kind.LineEnd text = true

abbrev word_can : Word → Bool
word_can t = kind_can t.kind t.text

abbrev PieceCan : Piece Word → Type 0
PieceCan (Passed n) = Unit {0}
PieceCan (Token t n) = (at : Place) → word_can (t at) ≡ true
PieceCan (Wrong f) = Unit {0}

all_front_by : (b : ℕ) (l : List ℕ) (t : Bool) → is_name_byte b ≡ t → all is_name_byte l ≡ true → all is_name_byte (cond t (b ∷ l) []) ≡ true
all_front_by b l true e h = and_from (is_name_byte b) (all is_name_byte l) e h
all_front_by b l false e h = refl

all_front : (bs : List ℕ) → all is_name_byte (front is_name_byte bs) ≡ true
all_front [] = refl
all_front (b ∷ bs) = all_front_by b (front is_name_byte bs) (is_name_byte b) refl (all_front bs)

name_begins : (b : ℕ) → begins_name b ≡ true → is_name_byte b ≡ true
name_begins b e = rw e refl

name_can : (b : ℕ) (bs : List ℕ) → begins_name b ≡ true → is_text_of_name (front is_name_byte (b ∷ bs)) ≡ true
name_can b bs e =
    ap (λ (t : Bool). is_text_of_name (cond t (b ∷ front is_name_byte bs) [])) (name_begins b e)
    ∙ and_from (begins_name b) (all is_name_byte (front is_name_byte bs)) e (all_front bs)

word_piece_can : (b : ℕ) (bs : List ℕ) (t : Bool) → begins_name b ≡ true → PieceCan (cond t if_goto_piece (name_piece (b ∷ bs)))
word_piece_can b bs true e = λ at. refl
word_piece_can b bs false e = λ at. name_can b bs e

number_can : (n k : ℕ) (wrong : Place → Fault) (t : Bool) → nat_lt 32767 n ≡ t → PieceCan (cond t (Wrong wrong) (Token (made_word (kind.Number n)) k))
number_can n k wrong true e = tt
number_can n k wrong false e = λ at. le-leb n 32767 (ltb-false 32767 n e)

comment_can : (k : ℕ) (t : Bool) → PieceCan (cond t (Passed k) (Wrong Grammar))
comment_can k true = tt
comment_can k false = tt

line_end_can : (k : ℕ) (t : Bool) → PieceCan (cond t (Token (made_word kind.LineEnd) k) (Wrong Grammar))
line_end_can k true = λ at. refl
line_end_can k false = tt

piece_can_by : (blank digit letter slash : Bool) (b : ℕ) (bs : List ℕ) → begins_name b ≡ letter → PieceCan (cond blank (Passed 0) (cond digit (number_piece (b ∷ bs)) (cond letter (word_piece (b ∷ bs)) (cond slash (comment_piece (b ∷ bs)) (line_end_piece line_end_token (b ∷ bs))))))
piece_can_by true digit letter slash b bs e = tt
piece_can_by false true letter slash b bs e = number_can (capped_count (decimal 0 (digits (b ∷ bs)))) _ _ _ refl
piece_can_by false false true slash b bs e = word_piece_can b bs (begins_if_goto (b ∷ bs)) e
piece_can_by false false false true b bs e = comment_can _ _
piece_can_by false false false false b bs e = line_end_can _ _

piece_can : (bs : List ℕ) → PieceCan (piece bs)
piece_can [] = tt
piece_can (b ∷ bs) = piece_can_by (b == 32 || b == 9) (is_digit b) (begins_name b) (b == 47) b bs refl

-- the tokens of a text
close_can : (at : Place) (t : Bool) → all word_can (cond t (made_word kind.LineEnd at ∷ []) []) ≡ true
close_can at true = refl
close_can at false = refl

followed_can : (w : Word) (r : Result (List Word) Fault) (ts : List Word) → word_can w ≡ true → ((us : List Word) → r ≡ Ok us → all word_can us ≡ true) → with_token w r ≡ Ok ts → all word_can ts ≡ true
followed_can w (Ok us) ts h rest e =
    let same : w ∷ us ≡ ts = cc in
    subst (λ (l : List Word). all word_can l ≡ true) same (and_from (word_can w) (all word_can us) h (rest us refl))
followed_can w (Err f) ts h rest e = absurd cc

cut_by_can : (p : Piece Word) (last : Option Word) (at : Place) (go : Option Word → ℕ → Result (List Word) Fault) (ts : List Word) → PieceCan p → ((l : Option Word) (n : ℕ) (us : List Word) → go l n ≡ Ok us → all word_can us ≡ true) → cut_by p last at go ≡ Ok ts → all word_can ts ≡ true
cut_by_can (Passed n) last at go ts h rest e = rest last n ts e
cut_by_can (Token t n) last at go ts h rest e = followed_can (t at) (go (Some (t at)) n) ts (h at) (rest (Some (t at)) n) e
cut_by_can (Wrong f) last at go ts h rest e = absurd cc

tokens_can : (last : Option Word) (n : ℕ) (at : Place) (bs : List ℕ) (ts : List Word) → cut piece close last n at bs ≡ Ok ts → all word_can ts ≡ true
tokens_can last n at [] ts e =
    let same : close last at ≡ ts = cc in
    subst (λ (l : List Word). all word_can l ≡ true) same (close_can at (is_open ends last))
tokens_can last zero at (b ∷ bs) ts e =
    cut_by_can (piece (b ∷ bs)) last at (λ l n. cut piece close l n (step at b) bs) ts (piece_can (b ∷ bs)) (λ l n us f. tokens_can l n (step at b) bs us f) e
tokens_can last (suc n) at (b ∷ bs) ts e = tokens_can last n (step at b) bs ts e

text_can_by : (t : Bool) (f : Fault) (r : Result (List Word) Fault) (ts : List Word) → ((us : List Word) → r ≡ Ok us → all word_can us ≡ true) → cond t (Err f) r ≡ Ok ts → all word_can ts ≡ true
text_can_by true f r ts h e = absurd cc
text_can_by false f r ts h e = h ts e

text_can : (text : List ℕ) (ts : List Word) → tokens_of text ≡ Ok ts → all word_can ts ≡ true
text_can text ts e = text_can_by (nat_lt 1048576 (length text)) _ (cut piece close None 0 start text) ts (λ us f. tokens_can None 0 start text us f) e

-- what a token of a kind says
name_said_can : (k : Kind) (text : List ℕ) → name_kind k ≡ true → kind_can k text ≡ true → is_text_of_name text ≡ true
name_said_can kind.Name text i h = h
name_said_can kind.IfGoto text i h = absurd cc
name_said_can (kind.Number n) text i h = absurd cc
name_said_can kind.LineEnd text i h = absurd cc

number_said_can : (k : Kind) (text : List ℕ) → number_kind k ≡ true → kind_can k text ≡ true → nat_le (number_of k) greatest ≡ true
number_said_can kind.Name text i h = absurd cc
number_said_can kind.IfGoto text i h = absurd cc
number_said_can (kind.Number n) text i h = h
number_said_can kind.LineEnd text i h = absurd cc

within_by : (most n s' : ℕ) (at : Place) (t : Bool) → nat_lt most n ≡ t → cond t (Err (Range at n)) (Ok greatest) ≡ Ok s' → nat_le n most ≡ true
within_by most n s' at true e c = absurd cc
within_by most n s' at false e c = le-leb n most (ltb-false most n e)

-- Commands. The numbers that are counted before a location do not matter, since its segment counts anew.
operation_can : (r : Role) → operation_role r ≡ true → can_be_written (command_in (Left (Leaf (role_said r)))) ≡ true
operation_can (role.Operation o) e = refl
operation_can role.Push e = absurd cc
operation_can role.Pop e = absurd cc
operation_can role.Label e = absurd cc
operation_can role.Goto e = absurd cc
operation_can role.IfGoto e = absurd cc
operation_can role.Call e = absurd cc
operation_can role.Function e = absurd cc
operation_can role.Return e = absurd cc
operation_can (role.Segment g) e = absurd cc
operation_can role.Plain e = absurd cc

pushed_can : (r : Role) (n : ℕ) → segment_role true r ≡ true → nat_le n (most_by r) ≡ true → can_be_written (command_in (Right (Left (Pair Skip (Pair (Leaf (role_said r)) (Leaf (Number n))))))) ≡ true
pushed_can (role.Segment g) n e h = h
pushed_can (role.Operation o) n e h = absurd cc
pushed_can role.Push n e h = absurd cc
pushed_can role.Pop n e h = absurd cc
pushed_can role.Label n e h = absurd cc
pushed_can role.Goto n e h = absurd cc
pushed_can role.IfGoto n e h = absurd cc
pushed_can role.Call n e h = absurd cc
pushed_can role.Function n e h = absurd cc
pushed_can role.Return n e h = absurd cc
pushed_can role.Plain n e h = absurd cc

popped_can : (r : Role) (n : ℕ) → segment_role false r ≡ true → nat_le n (most_by r) ≡ true → can_be_written (command_in (Right (Right (Left (Pair Skip (Pair (Leaf (role_said r)) (Leaf (Number n)))))))) ≡ true
popped_can (role.Segment g) n e h = and_from (may_come false g) (nat_le n (most_of g)) e h
popped_can (role.Operation o) n e h = absurd cc
popped_can role.Push n e h = absurd cc
popped_can role.Pop n e h = absurd cc
popped_can role.Label n e h = absurd cc
popped_can role.Goto n e h = absurd cc
popped_can role.IfGoto n e h = absurd cc
popped_can role.Call n e h = absurd cc
popped_can role.Function n e h = absurd cc
popped_can role.Return n e h = absurd cc
popped_can role.Plain n e h = absurd cc

abbrev counted : ℕ → Result ℕ Fault
counted n = Ok n

index_can : (r : Role) (k : Kind) (at : Place) (s1 s2 : ℕ) → counted (most_by r) ≡ Ok s1 → cond (nat_lt s1 (number_of k)) (Err (Range at (number_of k))) (Ok greatest) ≡ Ok s2 → nat_le (number_of k) (most_by r) ≡ true
index_can r k at s1 s2 c d =
    let same : s1 ≡ most_by r = cc in
    subst (λ (m : ℕ). nat_le (number_of k) m ≡ true) same (within_by s1 (number_of k) s2 at (nat_lt s1 (number_of k)) refl d)

module _ (end : Place) where
  abbrev Rd : ℕ → Part → List Word → VmTree → ℕ → List Word → Type 0
  Rd s r ts x s' us = Reads Word ℕ (Unit {0}) Said (vm end) s r ts x s' us

  -- what is left of such tokens
  left_can : {s s' : ℕ} {r : Part} {ts us : List Word} {x : VmTree} → Reads Word ℕ (Unit {0}) Said (vm end) s r ts x s' us → all word_can ts ≡ true → all word_can us ≡ true
  left_can (marked {t = t} {ts = ts} e) h = (and_parts (word_can t) (all word_can ts) h).1
  left_can (worded {t = t} {ts = ts} e c) h = (and_parts (word_can t) (all word_can ts) h).1
  left_can at_end h = h
  left_can (both p q) h = left_can q (left_can p h)
  left_can (left e p) h = left_can p h
  left_can (right e f p) h = left_can p h
  left_can (passed e) h = h
  left_can (taken e p) h = left_can p h
  left_can (ended e) h = h
  left_can (again e p q) h = left_can q (left_can p h)
  left_can (named_rule p) h = left_can p h
  left_can (inside e c p) h = left_can p h

  push_can : {s s' : ℕ} {ts us : List Word} {x : VmTree} → Reads Word ℕ (Unit {0}) Said (vm end) s push ts x s' us → can_be_written (command_in (Right (Left x))) ≡ true
  push_can (both (marked k) (both (worded {s' = s1} {t = t} i c) (worded {s' = s2} {t = u} j d))) = pushed_can t.role (number_of u.kind) i (index_can t.role u.kind u.place s1 s2 c d)

  pop_can : {s s' : ℕ} {ts us : List Word} {x : VmTree} → Reads Word ℕ (Unit {0}) Said (vm end) s pop ts x s' us → can_be_written (command_in (Right (Right (Left x)))) ≡ true
  pop_can (both (marked k) (both (worded {s' = s1} {t = t} i c) (worded {s' = s2} {t = u} j d))) = popped_can t.role (number_of u.kind) i (index_can t.role u.kind u.place s1 s2 c d)

  label_can : {s s' : ℕ} {ts us : List Word} {x : VmTree} → Reads Word ℕ (Unit {0}) Said (vm end) s label ts x s' us → all word_can ts ≡ true → can_be_written (command_in (Right (Right (Right (Left x))))) ≡ true
  label_can (both (marked {t = k} e) (worded {t = t} {ts = ts} i c)) h = name_said_can t.kind t.text i (and_parts (word_can t) (all word_can ts) (and_parts (word_can k) (all word_can (t ∷ ts)) h).1).0

  goto_can : {s s' : ℕ} {ts us : List Word} {x : VmTree} → Reads Word ℕ (Unit {0}) Said (vm end) s goto ts x s' us → all word_can ts ≡ true → can_be_written (command_in (Right (Right (Right (Right (Left x)))))) ≡ true
  goto_can (both (marked {t = k} e) (worded {t = t} {ts = ts} i c)) h = name_said_can t.kind t.text i (and_parts (word_can t) (all word_can ts) (and_parts (word_can k) (all word_can (t ∷ ts)) h).1).0

  if_goto_can : {s s' : ℕ} {ts us : List Word} {x : VmTree} → Reads Word ℕ (Unit {0}) Said (vm end) s if_goto ts x s' us → all word_can ts ≡ true → can_be_written (command_in (Right (Right (Right (Right (Right (Left x))))))) ≡ true
  if_goto_can (both (marked {t = k} e) (worded {t = t} {ts = ts} i c)) h = name_said_can t.kind t.text i (and_parts (word_can t) (all word_can ts) (and_parts (word_can k) (all word_can (t ∷ ts)) h).1).0

  call_can : {s s' : ℕ} {ts us : List Word} {x : VmTree} → Reads Word ℕ (Unit {0}) Said (vm end) s call ts x s' us → all word_can ts ≡ true → can_be_written (command_in (Right (Right (Right (Right (Right (Right (Left x)))))))) ≡ true
  call_can (both (marked {t = k} e) (both (worded {t = t} i c) (worded {t = u} {ts = ts} j d))) h =
      let names = (and_parts (word_can k) (all word_can (t ∷ u ∷ ts)) h).1 in
      let numbers = (and_parts (word_can t) (all word_can (u ∷ ts)) names).1 in
      and_from (is_text_of_name t.text) (nat_le (number_of u.kind) greatest)
      (name_said_can t.kind t.text i (and_parts (word_can t) (all word_can (u ∷ ts)) names).0)
      (number_said_can u.kind u.text j (and_parts (word_can u) (all word_can ts) numbers).0)

  command_can : {s s' : ℕ} {ts us : List Word} {x : VmTree} → Reads Word ℕ (Unit {0}) Said (vm end) s command ts x s' us → all word_can ts ≡ true → can_be_written (command_in x) ≡ true
  command_can (left e (worded {t = t} i c)) h = operation_can t.role i
  command_can (right e f (left g p)) h = push_can p
  command_can (right e f (right g j (left k p))) h = pop_can p
  command_can (right e f (right g j (right k l (left m p)))) h = label_can p h
  command_can (right e f (right g j (right k l (right m n (left o p))))) h = goto_can p h
  command_can (right e f (right g j (right k l (right m n (right o q (left r p)))))) h = if_goto_can p h
  command_can (right e f (right g j (right k l (right m n (right o q (right r t (left u p))))))) h = call_can p h
  command_can (right e f (right g j (right k l (right m n (right o q (right r t (right u v (marked w)))))))) h = refl

  -- lines
  lines_can : {s s' : ℕ} {ts us : List Word} {x : VmTree} → Reads Word ℕ (Unit {0}) Said (vm end) s lines ts x s' us → all word_can ts ≡ true → all line_can (lines_in x) ≡ true
  lines_can (ended e) h = refl
  lines_can (again e (left f (marked {t = k} {ts = vs} g)) q) h = lines_can q (and_parts (word_can k) (all word_can vs) h).1
  lines_can (again {y = y} e (right f g (both {x = x} p (marked {t = k} {ts = vs} i))) q) h =
      and_from (can_be_written (command_in x)) (all line_can (lines_in y)) (command_can p h)
      (lines_can q (and_parts (word_can k) (all word_can vs) (left_can p h)).1)

  -- functions
  functions_can : {s s' : ℕ} {ts us : List Word} {x : VmTree} → Reads Word ℕ (Unit {0}) Said (vm end) s functions ts x s' us → all word_can ts ≡ true → all function_can (functions_in x) ≡ true
  functions_can (ended e) h = refl
  functions_can (again {y = y} e (both (marked {t = k} f) (both (worded {t = t} i c) (both (worded {t = u} j d) (both {y = body} (marked {t = l} {ts = vs} g) p)))) q) h =
      let names = (and_parts (word_can k) (all word_can (t ∷ u ∷ l ∷ vs)) h).1 in
      let numbers = (and_parts (word_can t) (all word_can (u ∷ l ∷ vs)) names).1 in
      let bodies = (and_parts (word_can l) (all word_can vs) (and_parts (word_can u) (all word_can (l ∷ vs)) numbers).1).1 in
      let name = name_said_can t.kind t.text i (and_parts (word_can t) (all word_can (u ∷ l ∷ vs)) names).0 in
      let locals = number_said_can u.kind u.text j (and_parts (word_can u) (all word_can (l ∷ vs)) numbers).0 in
      let rest = and_from (nat_le (number_of u.kind) greatest) (all line_can (lines_in body)) locals (lines_can p bodies) in
      and_from (is_text_of_name t.text && (nat_le (number_of u.kind) greatest && all line_can (lines_in body))) (all function_can (functions_in y))
      (and_from (is_text_of_name t.text) (nat_le (number_of u.kind) greatest && all line_can (lines_in body)) name rest)
      (functions_can q (left_can p bodies))

  -- what stands before them
  opening_read_can : (bare : Bool) {s s' : ℕ} {ts us : List Word} {x : VmTree} → Reads Word ℕ (Unit {0}) Said (vm end) s (opening bare) ts x s' us → all word_can ts ≡ true → opening_can bare (opening_in bare x) ≡ true
  opening_read_can true p h = lines_can p h
  opening_read_can false p h = refl

  file_read_can : (bare : Bool) (name : List ℕ) {s s' : ℕ} {ts us : List Word} {x : VmTree} → Reads Word ℕ (Unit {0}) Said (vm end) s (whole bare) ts x s' us → all word_can ts ≡ true → file_can bare (file_in bare name x) ≡ true
  file_read_can bare name (both {x = o} p (both {x = fs} q at_end)) h =
      and_from (opening_can bare (opening_in bare o)) (all function_can (functions_in fs)) (opening_read_can bare p h) (functions_can q (left_can p h))

pub spelled_can : (bare : Bool) (name text : List ℕ) (p : List File) → Spells bare name text p → all (file_can bare) p ≡ true
spelled_can bare name text p h =
    let w = h.0 in
    let read = h.2 in
    let one : file_can bare (file_of bare name w) ≡ true =
    subst (λ (f : File). file_can bare f ≡ true) (file_told bare name w)
    (file_read_can (finish text) bare name read.3 (text_can text read.0 read.2)) in
    subst (λ (q : List File). all (file_can bare) q ≡ true) (sym h.1) (and_from (file_can bare (file_of bare name w)) true one refl)
