-- A small program with a small operating system, as texts. It has a constructor, a method, a static, a string, the
-- operators * and /, and a body without a `return` at its end. (The book, chapters 9, 11 and 12.)
use Rattle.std.specs.Prelude.{ℕ, List, [], ◌∷◌, ◌++◌, codes}

-- files, each by its name and its text
abbrev pub Texts : Type 0
Texts = List (List ℕ × List ℕ)

abbrev pub own : Texts
own = (
  codes "Main.jack",
  codes "class Main { field int x, y; static int count; "
      ++ codes "constructor Main new(int a) { let x = a; let y = a * 2; return this; } "
      ++ codes "method int half() { return y / 2; } "
      ++ codes "function void main() { var Main m; var String s; let count = count + 1; let m = Main.new(3); let s = \"Hi\"; do m.half(); } }",
) ∷ []

abbrev pub system : Texts
system =
    (codes "Math.jack", codes "class Math { function int multiply(int x, int y) { return 0; } function int divide(int x, int y) { return 0; } }")
    ∷ (codes "Memory.jack", codes "class Memory { function int alloc(int size) { return 2048; } }")
    ∷ (codes "String.jack", codes "class String { constructor String new(int most) { return this; } method String appendChar(char c) { return this; } }")
    ∷ (codes "Sys.jack", codes "class Sys { function void init() { do Main.main(); return; } }")
    ∷ []
