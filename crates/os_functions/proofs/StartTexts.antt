-- The texts of the start, as the meaning reads them, and the words of the font in fours of characters.
use Rattle.std.specs.Prelude.{ℕ, ◌+◌, List, [], ◌∷◌, ◌++◌}
use Rattle.jack_meaning.specs.Text.{Argument, Static, Plus, Subtract, Expressions, Literal, Value, Name, Binary, Call, NoMore, More, Let, Store, Do, Return, Text, Next, text_of}

-- the twelve words of four characters
pub record Row : Type 0 where
  pub a1 : ℕ
  pub a2 : ℕ
  pub a3 : ℕ
  pub a4 : ℕ
  pub a5 : ℕ
  pub a6 : ℕ
  pub a7 : ℕ
  pub a8 : ℕ
  pub a9 : ℕ
  pub a10 : ℕ
  pub a11 : ℕ
  pub a12 : ℕ

abbrev pub words_of : Row → List ℕ
words_of r = r.a1 ∷ r.a2 ∷ r.a3 ∷ r.a4 ∷ r.a5 ∷ r.a6 ∷ r.a7 ∷ r.a8 ∷ r.a9 ∷ r.a10 ∷ r.a11 ∷ r.a12 ∷ []

abbrev row : ℕ → ℕ → ℕ → ℕ → ℕ → ℕ → ℕ → ℕ → ℕ → ℕ → ℕ → ℕ → Row
row a1 a2 a3 a4 a5 a6 a7 a8 a9 a10 a11 a12 = record { a1 = a1; a2 = a2; a3 = a3; a4 = a4; a5 = a5; a6 = a6; a7 = a7; a8 = a8; a9 = a9; a10 = a10; a11 = a11; a12 = a12 }

-- the words of the rows, one after the other
abbrev pub all_words : List Row → List ℕ
all_words [] = []
all_words (r ∷ rs) = words_of r ++ all_words rs

abbrev pub font_table : List Row
font_table =
    row 0 0 0 0 95 0 896 896 0 16276 16276 20
    ∷ row 5412 5503 18 2467 12808 98 9398 4437 80 640 3 0
    ∷ row 3584 8354 0 8320 3618 0 1044 1086 20 1032 1086 8
    ∷ row 10240 48 0 1032 1032 8 12288 96 0 2080 520 2
    ∷ row 10430 8905 62 8448 8319 0 12482 9425 70 8353 9669 49
    ∷ row 2584 16274 16 8871 8901 57 9532 9417 48 14465 649 3
    ∷ row 9398 9417 54 9350 5321 30 6912 54 0 11008 54 0
    ∷ row 2568 8354 0 2580 2580 20 8320 2594 8 130 1233 6
    ∷ row 9394 8441 62 2302 2193 126 9471 9417 54 8382 8385 34
    ∷ row 8447 4417 28 9471 9417 65 1279 1161 1 8382 9417 122
    ∷ row 1151 1032 127 8320 8447 0 8224 8129 1 1151 4372 65
    ∷ row 8319 8256 64 383 268 127 639 2056 127 8382 8385 62
    ∷ row 1279 1161 6 8382 4305 94 1279 5273 70 9414 9417 49
    ∷ row 129 255 1 8255 8256 63 4127 4160 31 8255 8248 63
    ∷ row 2659 2568 99 1031 1136 7 10465 8905 67 16256 8385 0
    ∷ row 514 2056 32 8320 16321 0 260 257 4 8256 8256 64
    ∷ row 128 514 0 10784 10836 120 9343 8772 56 8760 8772 32
    ∷ row 8760 9284 127 10808 10836 24 16136 137 2 10508 10578 62
    ∷ row 1151 516 120 8704 8317 0 8224 7876 0 2175 8744 0
    ∷ row 8320 8319 0 636 536 120 1148 516 120 8760 8772 56
    ∷ row 2684 2580 8 2568 3092 124 1148 516 8 10824 10836 32
    ∷ row 8068 8260 32 8252 4160 124 4124 4160 28 8252 8240 60
    ∷ row 5188 5136 68 10252 10320 60 12868 9812 68 1024 8374 0
    ∷ row 0 127 0 8320 1078 0 520 2056 8 16383 16383 127
    ∷ []

-- ---- Output.four: from the k-th argument on, as many words as these

abbrev pub stores : ℕ → ℕ → List ℕ → Text → Text
stores font k [] rest = rest
stores font k (v ∷ vs) rest = Next (Store (k + 1) (Name (Static font)) (Literal k) (Name (Argument k))) (stores font (k + 1) vs rest)

abbrev pub four_end : ℕ → Text
four_end font = text_of (Let 13 (Static font) (Binary Plus (Name (Static font)) (Literal 12)) ∷ Return 14 (Literal 0) ∷ [])

abbrev pub four_body : ℕ → Text
four_body font = stores font 0 (0 ∷ 0 ∷ 0 ∷ 0 ∷ 0 ∷ 0 ∷ 0 ∷ 0 ∷ 0 ∷ 0 ∷ 0 ∷ 0 ∷ []) (four_end font)

-- ---- Output.init

abbrev pub literals : Row → Expressions
literals r = More (Literal r.a1) (More (Literal r.a2) (More (Literal r.a3) (More (Literal r.a4) (More (Literal r.a5) (More (Literal r.a6) (More (Literal r.a7) (More (Literal r.a8) (More (Literal r.a9) (More (Literal r.a10) (More (Literal r.a11) (More (Literal r.a12) NoMore)))))))))))

abbrev pub values : Row → Expressions
values r = More (Value r.a1) (More (Value r.a2) (More (Value r.a3) (More (Value r.a4) (More (Value r.a5) (More (Value r.a6) (More (Value r.a7) (More (Value r.a8) (More (Value r.a9) (More (Value r.a10) (More (Value r.a11) (More (Value r.a12) NoMore)))))))))))

-- calls of `four`, the first of which has this number
abbrev pub fours : ℕ → ℕ → List Row → Text → Text
fours four n [] rest = rest
fours four n (r ∷ rs) rest = Next (Do n (Call four (literals r))) (fours four (n + 1) rs rest)

abbrev pub output_end : ℕ → ℕ → ℕ → Text
output_end font place right =
    text_of (
    Let 26 (Static font) (Binary Subtract (Name (Static font)) (Literal 384))
    ∷ Let 27 (Static place) (Literal 16384)
    ∷ Let 28 (Static right) (Literal 0)
    ∷ Return 29 (Literal 0)
    ∷ []
    )

abbrev pub output_body : ℕ → ℕ → ℕ → ℕ → ℕ → Text
output_body alloc four font place right = Next (Let 1 (Static font) (Call alloc (More (Literal 288) NoMore))) (fours four 2 font_table (output_end font place right))

-- ---- Math.init and Keyboard.init

abbrev pub nothing_body : Text
nothing_body = text_of (Return 1 (Literal 0) ∷ [])

-- ---- Sys.init: the numbers are those of the classes' init, of Main.main and of halt

abbrev pub does : ℕ → ℕ → Text → Text
does n g rest = Next (Do n (Call g NoMore)) rest

abbrev pub start_body : ℕ → ℕ → ℕ → ℕ → ℕ → ℕ → ℕ → Text
start_body memory math screen output keyboard main halt =
    does 1 memory (does 2 math (does 3 screen (does 4 output (does 5 keyboard (does 6 main (does 7 halt (text_of (Return 8 (Literal 0) ∷ []))))))))
