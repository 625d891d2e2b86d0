-- Where the words of memory stand. (The book, chapters 4 and 7.)
use Rattle.std.specs.Prelude.{ℕ}

-- the heap's first word
abbrev pub heap : ℕ
heap = 2048

-- the screen's first word; the heap ends before it
abbrev pub screen : ℕ
screen = 16384

-- the keyboard's word; the screen ends before it, and nothing is stored from here on
abbrev pub keyboard : ℕ
keyboard = 24576

-- how many words heap and screen have: those from `heap` up to the keyboard
abbrev pub heap_and_screen_size : ℕ
heap_and_screen_size = 22528
