-- The five subroutines that are made without a text have the tokens of these texts (book, chapter 12).
use Rattle.std.specs.Prelude.{◌≡◌, ℕ, ◌++◌, List, Ok, codes}
use Rattle.jack_tree.specs.Tokens.{Word}
use Rattle.jack_tree.specs.Syntax.{Subroutine}
use Rattle.jack_lexer.specs.Tokens.{tokens_of}
use Rattle.jack_parser.specs.Spelling.{subroutine_tokens}
use Rattle.jack_parser.specs.PrintedClass.{Tell}
use Rattle.jack_os.specs.Routines.{multiply, divide, init, alloc, deAlloc}

-- the tokens of a text are those of the subroutine, but for their places
pub record IsTextOf (s : Subroutine) (text : List ℕ) : Type 0 where
  pub tokens : List Word
  pub cut : tokens_of text ≡ Ok tokens
  pub tell : Tell tokens (subroutine_tokens s)

abbrev pub multiply_text : List ℕ
multiply_text =
    codes "function int multiply(int x, int y) { var int sum, shifted, bit, i; let shifted = x; let bit = 1; "
    ++ codes "while (~(i = 16)) { if (~((y & bit) = 0)) { let sum = sum + shifted; } let shifted = shifted + shifted; "
    ++ codes "let bit = bit + bit; let i = i + 1; } return sum; }"

abbrev pub divide_text : List ℕ
divide_text =
    codes "function int divide(int x, int y) { var int h, s, q, r, i; if (y = 0) { do Sys.error(3); } let h = ~32767; "
    ++ codes "if (x < 0) { let x = -x; let s = ~s; } if (y < 0) { let y = -y; let s = ~s; } while (~(i = 16)) { "
    ++ codes "let r = r + r; let q = q + q; if (x < 0) { let r = r + 1; } let x = x + x; "
    ++ codes "if (~((r + h) < (y + h))) { let r = r - y; let q = q + 1; } let i = i + 1; } if (s) { return -q; } return q; }"

abbrev pub init_text : List ℕ
init_text =
    codes "function void init() { var Array h; let free = 2048; let h = free; let h[0] = 14336; let h[1] = 0; return; }"

abbrev pub alloc_text : List ℕ
alloc_text =
    codes "function int alloc(int size) { var Array c, p; var int n; if (size < 1) { do Sys.error(5); } "
    ++ codes "if (size > 14335) { do Sys.error(6); } let n = size + 1; let c = free; while (~(c = 0)) { if (~(c[0] < n)) { "
    ++ codes "if (c[0] - n < 2) { if (p = 0) { let free = c[1]; } else { let p[1] = c[1]; } return c + 1; } "
    ++ codes "let c[0] = c[0] - n; let c = c + c[0]; let c[0] = n; return c + 1; } let p = c; let c = c[1]; } "
    ++ codes "do Sys.error(6); return 0; }"

abbrev pub deAlloc_text : List ℕ
deAlloc_text =
    codes "function void deAlloc(Array o) { let o = o - 1; let o[1] = free; let free = o; return; }"

pub record RoutinesLaw : Type 0 where
  pub multiply_told : IsTextOf multiply multiply_text
  pub divide_told : IsTextOf divide divide_text
  pub init_told : IsTextOf init init_text
  pub alloc_told : IsTextOf alloc alloc_text
  pub deAlloc_told : IsTextOf deAlloc deAlloc_text
