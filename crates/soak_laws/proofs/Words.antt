-- How many words parts of a meaning have at most.
use Rattle.std.proofs.Common.{◌≡◌, ◌≤◌, ◌+◌, ◌*◌, ℕ, zero, suc, Bool, true, false, Option, Some, None, arith}
use Rattle.jack_tree.specs.Syntax.{Operator, Plus, Minus, Times, Divide, And, Or, Less, Greater, Equal}
use Rattle.jack_meaning.specs.Text as meaning
use Rattle.jack_names.specs.Made.{slot_meant, declared_meant, with_variable, assignment, let_by}
use Rattle.jack_names.specs.Meaning.{binary_meaning, return_added}
use Rattle.jack_names.specs.Numbers.{Standing}
use Rattle.jack_names.specs.declared.scope.Slot.{Slot}
use Rattle.jack_names.specs.declared.scope.Slot.TheVariants as slot
use Rattle.jack_names.specs.declared.scope.Declared.{Declared}
use Rattle.tower.specs.Budget.{expression_words, arguments_words, statement_words, text_words}

-- an expression at a depth
abbrev pub cost : ℕ → ℕ
cost zero = 9
cost (suc d) = 2 * cost d + 12

pub cost_least : (d : ℕ) → 9 ≤ cost d
cost_least zero = omega arith
cost_least (suc d) = let a = cost_least d in omega (arith, a)

slot_words : (v : Slot) → expression_words (slot_meant v) ≤ 9
slot_words (slot.Argument k) = omega arith
slot_words (slot.Local k) = omega arith
slot_words (slot.Field k) = omega arith
slot_words (slot.Static k) = omega arith

pub variable_words : (o : Option Declared) → expression_words (declared_meant o) ≤ 9
variable_words None = omega arith
variable_words (Some v) = slot_words v.slot

pub object_words : (o : Option Declared) (es : meaning.Expressions) → arguments_words (with_variable o es) ≤ arguments_words es + 9
object_words None es = omega arith
object_words (Some v) es = let a = slot_words v.slot in omega (arith, a)

assigned_words : (v : Slot) (n : ℕ) (e : meaning.Expression) → statement_words (assignment v n e) ≤ expression_words e + 12
assigned_words (slot.Argument k) n e = omega arith
assigned_words (slot.Local k) n e = omega arith
assigned_words (slot.Field k) n e = omega arith
assigned_words (slot.Static k) n e = omega arith

pub let_words : (o : Option Declared) (n : ℕ) (e : meaning.Expression) → statement_words (let_by o n e) ≤ expression_words e + 12
let_words None n e = omega arith
let_words (Some v) n e = assigned_words v.slot n e

pub binary_words : (s : Standing) (o : Operator) (a b : meaning.Expression) → expression_words (binary_meaning s o a b) ≤ expression_words a + expression_words b + 12
binary_words s Plus a b = omega arith
binary_words s Minus a b = omega arith
binary_words s Times a b = omega arith
binary_words s Divide a b = omega arith
binary_words s And a b = omega arith
binary_words s Or a b = omega arith
binary_words s Less a b = omega arith
binary_words s Greater a b = omega arith
binary_words s Equal a b = omega arith

pub joined_words : (a b : meaning.Text) → text_words (meaning.joined_text a b) ≡ text_words a + text_words b
joined_words meaning.End b = omega arith
joined_words (meaning.Next s rest) b = let h = joined_words rest b in omega (arith, h)

pub return_words : (b : Bool) (n : ℕ) → text_words (return_added b n) ≤ 17
return_words true n = omega arith
return_words false n = omega arith
