-- The commands of an expression's parts, which stand in postfix order.
use Rattle.std.specs.Prelude.{ℕ, List, [], ◌∷◌, ◌++◌}
use Rattle.vm_tree.specs.declared.command.Segment.TheVariants as segment
use Rattle.vm_tree.specs.declared.command.Command.TheVariants as command
use Rattle.vm_tree.specs.declared.command.Line.{Line}
use Rattle.jack_core.specs.declared.tree.Part.{Part}
use Rattle.jack_core.specs.declared.tree.Part.TheVariants as part
use Rattle.jack_meaning.specs.Text.{Argument, Local, Static}
use Rattle.jack_core.specs.Reading.{the_sign, the_operator}
use Rattle.jack_compiler.specs.Lines.{Around, commit, literal_lines, push_variable, sign_command, operator_command, load_lines}

module _ (around : Around) where
  -- what a part adds after the commands of its operands
  abbrev pub part_lines : ℕ → Part → List Line
  part_lines n (part.Literal w) = literal_lines n w
  part_lines n (part.Argument k) = commit n (push_variable around (Argument k)) ∷ []
  part_lines n (part.Local k) = commit n (push_variable around (Local k)) ∷ []
  part_lines n (part.Static k) = commit n (push_variable around (Static k)) ∷ []
  part_lines n part.This = commit n (command.Push segment.Pointer 0) ∷ []
  part_lines n (part.Field k) = commit n (command.Push segment.This k) ∷ []
  part_lines n (part.Unary o) = commit n (sign_command (the_sign o)) ∷ []
  part_lines n (part.Binary o) = commit n (operator_command (the_operator o)) ∷ []
  part_lines n part.Load = load_lines n
  part_lines n (part.Call k g) = commit n (command.Call (around.name g) k) ∷ []

  -- what parts add, in their order
  abbrev pub parts_lines : ℕ → List Part → List Line
  parts_lines n [] = []
  parts_lines n (p ∷ ps) = part_lines n p ++ parts_lines n ps
