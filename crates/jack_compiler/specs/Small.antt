-- The lines of small subroutines as VM text, and a program for which the law's conditions hold.
use Rattle.std.specs.Prelude.{◌≡◌, ℕ, List, [], ◌∷◌, codes}
use Rattle.vm_tree.specs.Printed.{lines_text}
use Rattle.jack_meaning.specs.Rows.{stores_one}
use Rattle.jack_compiler.specs.Lines.{Around, subroutine_lines}
use Rattle.jack_compiler.specs.Rows.{a_method, a_function, an_empty_else, a_constructor}
use Rattle.jack_compiler.specs.Resolved.{IsResolved}

-- each subroutine is `Main.g`, and the class is the first one
abbrev pub somewhere : Around
somewhere = record { name = λ g. codes "Main.g"; before = 0 }

abbrev pub small_names : List (List ℕ)
small_names = codes "start" ∷ codes "Sys.init" ∷ codes "Main.main" ∷ []

pub record SmallLaw : Type 0 where
  -- method int m(int x) { var int y; if (x) { let y = -1; } else { let f = true; } while (y) { let a[y] = this; } return y; }
  pub method : lines_text (subroutine_lines somewhere a_method) ≡
      codes "push argument 0\npop pointer 0\npush argument 1\nif-goto IF_TRUE0\ngoto IF_FALSE0\nlabel IF_TRUE0\npush constant 1\nneg\npop local 0\ngoto IF_END0\nlabel IF_FALSE0\npush constant 0\nnot\npop this 2\nlabel IF_END0\nlabel WHILE_EXP0\npush local 0\nif-goto WHILE_DO0\ngoto WHILE_END0\nlabel WHILE_DO0\npush static 0\npush local 0\nadd\npush pointer 0\npop temp 0\npop pointer 1\npush temp 0\npop that 0\ngoto WHILE_EXP0\nlabel WHILE_END0\npush local 0\nreturn\n"
  -- function void f() { var Array a; if (a[1]) { do Main.g(2, ~3); } return; }
  pub function : lines_text (subroutine_lines somewhere a_function) ≡
      codes "push local 0\npush constant 1\nadd\npop pointer 1\npush that 0\nif-goto IF_TRUE0\ngoto IF_FALSE0\nlabel IF_TRUE0\npush constant 2\npush constant 3\nnot\ncall Main.g 2\npop temp 0\nlabel IF_FALSE0\npush constant 0\nreturn\n"
  -- function void h(int x) { if (x) { let x = 1; } else { } return; }
  pub empty_else : lines_text (subroutine_lines somewhere an_empty_else) ≡
      codes "push argument 0\nif-goto IF_TRUE0\ngoto IF_FALSE0\nlabel IF_TRUE0\npush constant 1\npop argument 0\ngoto IF_END0\nlabel IF_FALSE0\nlabel IF_END0\npush constant 0\nreturn\n"
  -- constructor Main new(int x) { let f = x; return this; }
  pub constructor : lines_text (subroutine_lines somewhere a_constructor) ≡
      codes "push constant 1\ncall Main.g 1\npop pointer 0\npush argument 0\npop this 0\npush pointer 0\nreturn\n"
  -- the names of a program that stores one word are resolved
  pub resolved : IsResolved (stores_one 16384) small_names
