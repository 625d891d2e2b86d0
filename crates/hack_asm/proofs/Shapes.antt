-- Each computation that a text spells has a row of the table of comp.
use Rattle.std.proofs.Common.{◌≡◌, Bool, true, false, List, [], ◌∷◌, Option, Some, None, is_some, refl, ap, sym, subst}
use Rattle.std.specs.List.{AllByRecursion}
use Rattle.grammar.specs.Rules.{Rule, mark, word, end, seq, choice, option, repeat, name, within, Tree, Skip, Node, Leaf, Pair, Left, Right, Absent, Present, NoMore, More, Rules, Reads, marked, worded, at_end, both, left, right, passed, taken, ended, again, named, inside}
use Rattle.hack_asm.specs.Tokens.{Word, finish}
use Rattle.hack_asm.specs.declared.token.Letter.{Letter}
use Rattle.hack_asm.specs.declared.token.Letter.TheVariants.{Zero, One, A, D, M}
use Rattle.hack_asm.specs.declared.token.Operator.{Operator}
use Rattle.hack_asm.specs.declared.token.Operator.TheVariants.{Plus, Minus, And, Or}
use Rattle.hack_asm.specs.declared.token.Role.{Role}
use Rattle.hack_asm.specs.declared.token.Role.TheVariants as role
use Rattle.hack_asm.specs.declared.lines.Prefix.TheVariants as prefix
use Rattle.hack_asm.specs.declared.lines.Comp.{Comp}
use Rattle.hack_asm.specs.declared.lines.Comp.TheVariants as comps
use Rattle.hack_asm.specs.declared.lines.Dest.{Dest}
use Rattle.hack_asm.specs.declared.lines.Dest.TheVariants as dests
use Rattle.hack_asm.specs.Grammar as assembly
use Rattle.hack_asm.specs.Grammar.{Said, Letter', Operator', letter_role, operator_role, role_said, adds, meets, sums, joins, is_not_zero, is_register}
use Rattle.hack_asm.specs.Trees.{Line, label, address, compute, operation_tree, comp_tree, bare_tree, assigned_tree, lines_tree, line_tree}
use Rattle.hack_asm.specs.Comps.{find_row}
use Rattle.hack_asm.specs.Meaning.{HasRow, CompsHaveRows}

-- The tree has the rule's form, and each leaf is said by a token that passes its test.
module _ {T S N V : Type 0} (g : Rules T S N V) where
  abbrev pub Shaped : Rule T S N V → Tree V → Type 0
  Shaped (mark v is) Skip = Unit {0}
  Shaped (word is check value) (Leaf v) = (t : T) × (is t ≡ true) × (v ≡ value t)
  Shaped end Skip = Unit {0}
  Shaped (seq a b) (Pair x y) = Shaped a x × Shaped b y
  Shaped (choice a b) (Left x) = Shaped a x
  Shaped (choice a b) (Right x) = Shaped b x
  Shaped (option a) Absent = Unit {0}
  Shaped (option a) (Present x) = Shaped a x
  Shaped (repeat a) NoMore = Unit {0}
  Shaped (repeat a) (More x y) = Shaped a x × Shaped (repeat a) y
  Shaped (name n) (Node x) = Shaped (g.body n) x
  Shaped (within enter leave a) (Node x) = Shaped a x
  Shaped _ _ = ⊥

  pub shaped : {s s' : S} {r : Rule T S N V} {ts us : List T} {x : Tree V} → Reads T S N V g s r ts x s' us → Shaped r x
  shaped (marked e) = tt
  shaped (worded {t = t} e c) = (t, e, refl)
  shaped at_end = tt
  shaped (both a b) = (shaped a, shaped b)
  shaped (left e a) = shaped a
  shaped (right e f a) = shaped a
  shaped (passed e) = tt
  shaped (taken e a) = shaped a
  shaped (ended e) = tt
  shaped (again e a b) = (shaped a, shaped b)
  shaped (named a) = shaped a
  shaped (inside e f a) = shaped a

-- what passes a test and says a letter is that letter, of which the test holds
abbrev the_letter : Said → Letter
the_letter (Letter' x) = x
the_letter _ = Zero

letter_held : (p : Letter → Bool) (y : Letter) (r : Role) → letter_role p r ≡ true → Letter' y ≡ role_said r → p y ≡ true
letter_held p y (role.Letter z) h e = subst (λ (x : Letter). p x ≡ true) (sym (ap the_letter e)) h
letter_held p y (role.Operator op) h e = absurd cc
letter_held p y (role.Several n) h e = absurd cc
letter_held p y (role.Jump n) h e = absurd cc
letter_held p y (role.Shift n) h e = absurd cc
letter_held p y role.Plain h e = absurd cc

abbrev the_operator : Said → Operator
the_operator (Operator' op) = op
the_operator _ = Plus

operator_held : (p : Operator → Bool) (op : Operator) (r : Role) → operator_role p r ≡ true → Operator' op ≡ role_said r → p op ≡ true
operator_held p op (role.Letter z) h e = absurd cc
operator_held p op (role.Operator o) h e = subst (λ (x : Operator). p x ≡ true) (sym (ap the_operator e)) h
operator_held p op (role.Several n) h e = absurd cc
operator_held p op (role.Jump n) h e = absurd cc
operator_held p op (role.Shift n) h e = absurd cc
operator_held p op role.Plain h e = absurd cc

abbrev HasOne : Comp → Type 0
HasOne c = is_some (find_row c) ≡ true

alone_found : (x : Letter) → HasOne (comps.Alone x)
alone_found Zero = refl
alone_found One = refl
alone_found A = refl
alone_found D = refl
alone_found M = refl

sum_found : (x y : Letter) → adds x Plus ≡ true → sums x y ≡ true → HasOne (comps.Pair x Plus y)
sum_found Zero Zero a s = absurd cc
sum_found Zero One a s = absurd cc
sum_found Zero A a s = absurd cc
sum_found Zero D a s = absurd cc
sum_found Zero M a s = absurd cc
sum_found One Zero a s = absurd cc
sum_found One One a s = absurd cc
sum_found One A a s = refl
sum_found One D a s = refl
sum_found One M a s = refl
sum_found A Zero a s = absurd cc
sum_found A One a s = refl
sum_found A A a s = absurd cc
sum_found A D a s = refl
sum_found A M a s = absurd cc
sum_found D Zero a s = absurd cc
sum_found D One a s = refl
sum_found D A a s = refl
sum_found D D a s = absurd cc
sum_found D M a s = refl
sum_found M Zero a s = absurd cc
sum_found M One a s = refl
sum_found M A a s = absurd cc
sum_found M D a s = refl
sum_found M M a s = absurd cc

difference_found : (x y : Letter) → adds x Minus ≡ true → sums x y ≡ true → HasOne (comps.Pair x Minus y)
difference_found Zero Zero a s = absurd cc
difference_found Zero One a s = absurd cc
difference_found Zero A a s = absurd cc
difference_found Zero D a s = absurd cc
difference_found Zero M a s = absurd cc
difference_found One Zero a s = absurd cc
difference_found One One a s = absurd cc
difference_found One A a s = absurd cc
difference_found One D a s = absurd cc
difference_found One M a s = absurd cc
difference_found A Zero a s = absurd cc
difference_found A One a s = refl
difference_found A A a s = absurd cc
difference_found A D a s = refl
difference_found A M a s = absurd cc
difference_found D Zero a s = absurd cc
difference_found D One a s = refl
difference_found D A a s = refl
difference_found D D a s = absurd cc
difference_found D M a s = refl
difference_found M Zero a s = absurd cc
difference_found M One a s = refl
difference_found M A a s = absurd cc
difference_found M D a s = refl
difference_found M M a s = absurd cc

and_found : (x y : Letter) → meets x And ≡ true → joins x y ≡ true → HasOne (comps.Pair x And y)
and_found Zero Zero a s = absurd cc
and_found Zero One a s = absurd cc
and_found Zero A a s = absurd cc
and_found Zero D a s = absurd cc
and_found Zero M a s = absurd cc
and_found One Zero a s = absurd cc
and_found One One a s = absurd cc
and_found One A a s = absurd cc
and_found One D a s = absurd cc
and_found One M a s = absurd cc
and_found A Zero a s = absurd cc
and_found A One a s = absurd cc
and_found A A a s = absurd cc
and_found A D a s = refl
and_found A M a s = absurd cc
and_found D Zero a s = absurd cc
and_found D One a s = absurd cc
and_found D A a s = refl
and_found D D a s = absurd cc
and_found D M a s = refl
and_found M Zero a s = absurd cc
and_found M One a s = absurd cc
and_found M A a s = absurd cc
and_found M D a s = refl
and_found M M a s = absurd cc

or_found : (x y : Letter) → meets x Or ≡ true → joins x y ≡ true → HasOne (comps.Pair x Or y)
or_found Zero Zero a s = absurd cc
or_found Zero One a s = absurd cc
or_found Zero A a s = absurd cc
or_found Zero D a s = absurd cc
or_found Zero M a s = absurd cc
or_found One Zero a s = absurd cc
or_found One One a s = absurd cc
or_found One A a s = absurd cc
or_found One D a s = absurd cc
or_found One M a s = absurd cc
or_found A Zero a s = absurd cc
or_found A One a s = absurd cc
or_found A A a s = absurd cc
or_found A D a s = refl
or_found A M a s = absurd cc
or_found D Zero a s = absurd cc
or_found D One a s = absurd cc
or_found D A a s = refl
or_found D D a s = absurd cc
or_found D M a s = refl
or_found M Zero a s = absurd cc
or_found M One a s = absurd cc
or_found M A a s = absurd cc
or_found M D a s = refl
or_found M M a s = absurd cc

minus_found : (y : Letter) → is_not_zero y ≡ true → HasOne (comps.Under prefix.Minus y)
minus_found Zero h = absurd cc
minus_found One h = refl
minus_found A h = refl
minus_found D h = refl
minus_found M h = refl

not_found : (y : Letter) → is_register y ≡ true → HasOne (comps.Under prefix.Not y)
not_found Zero h = absurd cc
not_found One h = absurd cc
not_found A h = refl
not_found D h = refl
not_found M h = refl

shift_found : (x : Letter) (side : Bool) → is_register x ≡ true → HasOne (comps.Shifted x side)
shift_found Zero side h = absurd cc
shift_found One side h = absurd cc
shift_found A true h = refl
shift_found A false h = refl
shift_found D true h = refl
shift_found D false h = refl
shift_found M true h = refl
shift_found M false h = refl

module _ (g : Rules Word (Unit {0}) (Unit {0}) Said) where
  operation_found : (x : Letter) (op : Operator) (y : Letter) → Shaped g (assembly.operation x) (operation_tree op y) → HasOne (comps.Pair x op y)
  operation_found x Plus y h = sum_found x y (operator_held (adds x) Plus h.0.0.role h.0.1 h.0.2) (letter_held (sums x) y h.1.0.role h.1.1 h.1.2)
  operation_found x Minus y h = difference_found x y (operator_held (adds x) Minus h.0.0.role h.0.1 h.0.2) (letter_held (sums x) y h.1.0.role h.1.1 h.1.2)
  operation_found x And y h = and_found x y (operator_held (meets x) And h.0.0.role h.0.1 h.0.2) (letter_held (joins x) y h.1.0.role h.1.1 h.1.2)
  operation_found x Or y h = or_found x y (operator_held (meets x) Or h.0.0.role h.0.1 h.0.2) (letter_held (joins x) y h.1.0.role h.1.1 h.1.2)

  comp_found : (c : Comp) → Shaped g assembly.comp (comp_tree c) → HasOne c
  comp_found (comps.Alone x) h = alone_found x
  comp_found (comps.Under prefix.Minus y) h = minus_found y (letter_held is_not_zero y h.1.0.role h.1.1 h.1.2)
  comp_found (comps.Under prefix.Not y) h = not_found y (letter_held is_register y h.1.0.role h.1.1 h.1.2)
  comp_found (comps.Pair Zero op y) h = operation_found Zero op y h.1
  comp_found (comps.Shifted Zero side) h = shift_found Zero side h.1.1
  comp_found (comps.Pair One op y) h = operation_found One op y h.1
  comp_found (comps.Shifted One side) h = shift_found One side h.1.1
  comp_found (comps.Pair A op y) h = operation_found A op y h.1
  comp_found (comps.Shifted A side) h = shift_found A side refl
  comp_found (comps.Pair D op y) h = operation_found D op y h.1
  comp_found (comps.Shifted D side) h = shift_found D side refl
  comp_found (comps.Pair M op y) h = operation_found M op y h.1
  comp_found (comps.Shifted M side) h = shift_found M side refl

  bare_found : (d : Option Letter) (c : Comp) → Shaped g (assembly.by_letter assembly.after_letter assembly.unary) (bare_tree d c) → HasOne c
  bare_found None (comps.Alone x) h = alone_found x
  bare_found None (comps.Under prefix.Minus y) h = minus_found y (letter_held is_not_zero y h.1.0.role h.1.1 h.1.2)
  bare_found None (comps.Under prefix.Not y) h = not_found y (letter_held is_register y h.1.0.role h.1.1 h.1.2)
  bare_found None (comps.Pair Zero op y) h = operation_found Zero op y h.1
  bare_found None (comps.Shifted Zero side) h = shift_found Zero side h.1.1
  bare_found None (comps.Pair One op y) h = operation_found One op y h.1
  bare_found None (comps.Shifted One side) h = shift_found One side h.1.1
  bare_found None (comps.Pair A op y) h = operation_found A op y h.1
  bare_found None (comps.Shifted A side) h = shift_found A side refl
  bare_found None (comps.Pair D op y) h = operation_found D op y h.1
  bare_found None (comps.Shifted D side) h = shift_found D side refl
  bare_found None (comps.Pair M op y) h = operation_found M op y h.1
  bare_found None (comps.Shifted M side) h = shift_found M side refl
  bare_found (Some Zero) c h = comp_found c h.1.1
  bare_found (Some One) c h = comp_found c h.1.1
  bare_found (Some A) c h = comp_found c h.1.1
  bare_found (Some D) c h = comp_found c h.1.1
  bare_found (Some M) c h = comp_found c h.1.1

  assigned_found : (d : Dest) (c : Comp) → Shaped g assembly.assignment_part (assigned_tree d c) → HasOne c
  assigned_found (dests.Register d) c h = bare_found d c h
  assigned_found (dests.Several n) c h = comp_found c h.1.1

  line_found : (l : Line) → Shaped g assembly.line (line_tree l) → HasRow l
  line_found None h = tt
  line_found (Some (label s)) h = tt
  line_found (Some (address a)) h = tt
  line_found (Some (compute c)) h = assigned_found c.dest c.comp h.0.0

  lines_found : (ls : List Line) → Shaped g assembly.lines (lines_tree ls) → AllByRecursion HasRow ls
  lines_found [] h = tt
  lines_found (l ∷ ls) h = (line_found l h.0, lines_found ls h.1)

pub comps_have_rows : CompsHaveRows
comps_have_rows text ls (ts, s, e, reads) =
    let g = assembly.assembly (finish text) in
    lines_found g ls (shaped g reads).0
