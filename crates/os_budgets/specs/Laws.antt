-- How many words the operating system has in an image at most: the budgets of two programs, and what it adds to any
-- (book, chapter 12).
use Rattle.std.specs.Prelude.{◌≤◌, ◌<◌, ◌+◌, ℕ, List, ◌++◌, codes, length, map, sum_by}
use Rattle.jack_meaning.specs.Linked.{IsLinked}
use Rattle.jack_tree.specs.declared.tree.Class.{Class}
use Rattle.jack_tree.specs.Syntax.{ClassFile}
use Rattle.jack_tree.specs.Seen.{the_file}
use Rattle.jack_names.specs.Meaning.{program_meaning, subroutines_meaning}
use Rattle.jack_names.specs.NameFaults.{IsWellNamed}
use Rattle.jack_os.specs.System.{AreClassesOf, system}
use Rattle.tower.specs.Budget.{IsBudget, subroutine_words}
use Rattle.tower.specs.Spelled.{AreSpelled}
use Rattle.os_budgets.specs.Programs.{HasWords, program_with}

-- a class that does nothing
abbrev pub empty : List ℕ
empty = codes "class Main { function void main() { return; } }"

-- a class whose calls lead to every subroutine of the system
abbrev pub each : List ℕ
each =
    codes "class Main { function void main() { var Array s; var String t; let s = 16384; let s[0] = 1; if (s[0] = 2) { "
    ++ codes "do Sys.wait(Math.abs(Math.min(1, Math.max(2, Math.sqrt(3 * 4 / 5))))); let t = String.new(5); "
    ++ codes "do t.appendChar(String.backSpace()); do t.setCharAt(0, String.doubleQuote()); "
    ++ codes "do t.setInt(t.length() + t.intValue() + t.charAt(0)); do t.eraseLastChar(); do t.dispose(); let s = Array.new(3); "
    ++ codes "do s.dispose(); do Output.moveCursor(1, 2); do Output.printChar(String.newLine()); do Output.printString(t); "
    ++ codes "do Output.printInt(7); do Output.println(); do Output.backSpace(); do Screen.clearScreen(); do Screen.setColor(true); "
    ++ codes "do Screen.drawPixel(1, 2); do Screen.drawLine(1, 2, 3, 4); do Screen.drawRectangle(1, 2, 3, 4); "
    ++ codes "do Screen.drawCircle(9, 9, 3); do Screen.drawPixel(Keyboard.keyPressed(), Keyboard.readChar()); "
    ++ codes "let t = Keyboard.readLine(t); do Memory.poke(Memory.peek(Memory.alloc(2)), Keyboard.readInt(t)); do Memory.deAlloc(s); "
    ++ codes "do Sys.error(7); } return; } } "

-- 8,140 words, which are at most 10,000, and 5 static words
pub record EmptyLaw : Type 0 where
  pub words : HasWords empty 8140 5
  pub within : 8140 ≤ 10000

-- 18,717 words, which are at most 28,000, and 5 static words
pub record EachLaw : Type 0 where
  pub words : HasWords each 18717 5
  pub within : 18717 ≤ 28000
  -- Nothing of the system is left out: every subroutine is linked.
  pub all : (g : ℕ) → 0 < g → g < length (program_with words.class words.os).subroutines
      → IsLinked (program_with words.class words.os) g

-- the words of a folder's own subroutines
abbrev pub own_words : List ClassFile → List ClassFile → ℕ
own_words own os = sum_by subroutine_words (subroutines_meaning (own ++ os) 0 0 own)

-- For every folder whose names are right: besides its own subroutines its program has at most 17,498 words. They are
-- 256 and those of the 60 subroutines of the system.
abbrev pub EachFolderLaw : Type 0
EachFolderLaw =
    (own os : List Class) → AreSpelled own → AreClassesOf system os → IsWellNamed (map the_file own) (map the_file os)
    → (words : ℕ) → IsBudget (program_meaning (map the_file own) (map the_file os)) words → words ≤ own_words (map the_file own) (map the_file os) + 17498
