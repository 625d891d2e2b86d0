-- The address of each static word: file by file, from the word 16 on. (The book, chapters 7 and 8.)
use Rattle.std.specs.Prelude.{ℕ, ◌+◌, List, length, map, option_map, slice_get, sum_by, take, unwrap_or}
use Rattle.std.specs.List.{flat_map, range_with_len}
use Rattle.vm_link.specs.declared.linked.Linked.{Linked}
use Rattle.image_map.specs.declared.map.StaticWord.{StaticWord}
use Rattle.vm_translator.specs.Shapes.{named_index}

-- how many static words a file has, and how many those before it have
abbrev pub words_of_file : Linked → ℕ → ℕ
words_of_file l k = unwrap_or (option_map (λ f. f.statics) (slice_get l.files k)) 0

abbrev pub words_before : Linked → ℕ → ℕ
words_before l k = sum_by (λ f. f.statics) (take k l.files)

-- The static of an index in a file: its address is the one that a push and a pop of it name.
abbrev pub static_word : Linked → ℕ → ℕ → StaticWord
static_word l k i = record { file = k; index = i; address = named_index (16 + (words_before l k + i)) }

abbrev pub statics_in : Linked → ℕ → List StaticWord
statics_in l k = map (static_word l k) (range_with_len 0 (words_of_file l k))

-- those of all files
abbrev pub statics_of : Linked → List StaticWord
statics_of l = flat_map (statics_in l) (range_with_len 0 (length l.files))
