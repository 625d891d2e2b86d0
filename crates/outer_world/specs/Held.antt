-- What a buffer before a sink stands for: the sink, and the bytes that were not put yet.
use Rattle.std.specs.Prelude.{◌≡◌, ℕ, List, take}
use Rattle.outer_world.specs.Written.{Passes}
use Rattle.outer_world.specs.declared.sink.Put.{Put}
use Rattle.outer_world.specs.declared.sink.Sink.{Ghosts}
use Rattle.outer_world.specs.declared.pieces.Pieces.{Pieces}

abbrev pub sink_of : {S : Type 0} {told : Ghosts S} → Pieces S told → S
sink_of pieces = pieces.sink.now

-- the bytes that are pending, and how many they are
abbrev pub pending : {S : Type 0} {told : Ghosts S} → Pieces S told → List ℕ
pending pieces = take pieces.len pieces.buffer

abbrev pub held_count : {S : Type 0} {told : Ghosts S} → Pieces S told → ℕ
held_count pieces = pieces.len

-- they put into one and the same sink
abbrev pub HaveSameSink : {S : Type 0} {told : Ghosts S} → Pieces S told → Pieces S told → Type 0
HaveSameSink before after = after.sink.ghost_name ≡ before.sink.ghost_name

-- A text was handed to the buffer.
abbrev pub Buffers : {S : Type 0} {told : Ghosts S} → Pieces S told → Pieces S told → List ℕ → Put → Type 0
Buffers {told = told} before after text answer = Passes (told.state (sink_of before)) (pending before) (told.state (sink_of after)) (pending after) text answer
