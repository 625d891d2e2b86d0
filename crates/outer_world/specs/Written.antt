-- What a sink is given, and what its answers mean.
use Rattle.std.specs.Prelude.{◌≡◌, ◌≤◌, ◌++◌, ℕ, List, Option, take, drop, option_map}
use Rattle.outer_world.specs.Faults.{Rose}
use Rattle.outer_world.specs.State.{SinkState}
use Rattle.outer_world.specs.declared.sink.Put.{Put}
use Rattle.outer_world.specs.declared.sink.Put.TheVariants as put

-- A text went out whole: the bytes written, where they are known, are those before and the text.
abbrev pub Got : Option (List ℕ) → Option (List ℕ) → List ℕ → Type 0
Got before now text = now ≡ option_map (λ written. written ++ text) before

-- A front part of a text went out.
abbrev pub GotPart : Option (List ℕ) → Option (List ℕ) → List ℕ → Type 0
GotPart before now text = (n : ℕ) × Got before now (take n text)

-- What an answer says of the bytes: Done that the text went out whole, Failed that a front part did.
abbrev pub PutsBytes : Option (List ℕ) → Option (List ℕ) → List ℕ → Put → Type 0
PutsBytes before now text put.Done = Got before now text
PutsBytes before now text put.Failed = GotPart before now text

-- Failed comes only with a fault, and Done counts none.
abbrev pub CountsPut : ℕ → ℕ → Put → Type 0
CountsPut before now put.Failed = Rose before now × (before ≤ now)
CountsPut before now put.Done = now ≡ before

-- What an answer of `put` says of the piece, and that of a printer of the text that it puts: what went out, and how
-- the faults are counted.
pub record Puts (before now : SinkState) (text : List ℕ) (answer : Put) : Type 0 where
  pub bytes : PutsBytes before.written now.written text answer
  pub counts : CountsPut before.faults now.faults answer

-- A text was handed to a buffer before a sink: n bytes of what was pending and the text went out, and the rest is
-- pending, unless the sink failed; and how the faults are counted.
pub record Passes (before : SinkState) (pending : List ℕ) (now : SinkState) (pending' text : List ℕ) (answer : Put) : Type 0 where
  pub n : ℕ
  pub went : Got before.written now.written (take n (pending ++ text))
  pub rest : answer ≡ put.Done → pending' ≡ drop n (pending ++ text)
  pub counts : CountsPut before.faults now.faults answer
