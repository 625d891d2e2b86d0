-- How the calls in progress lie on a stack of words.
use Rattle.std.specs.Prelude.{◌≡◌, ◌≤◌, ℕ, zero, suc, ◌+◌, ◌-◌, List, [], ◌∷◌, None, slice_index, length, get_or}
use Rattle.vm_machine.specs.State.{Frame}
use Rattle.vm_machine.specs.declared.stack.Call.{Call}

-- the innermost frame, and those below it
pub record Calls : Type 0 where
  pub top : Frame
  pub below : List Frame

-- n words from a on
abbrev pub range : List ℕ → ℕ → ℕ → List ℕ
range words a zero = []
range words a (suc n) = slice_index words a ∷ range words (suc a) n

-- n words from a on, the last one first
abbrev pub values_from : List ℕ → ℕ → ℕ → List ℕ
values_from words a zero = []
values_from words a (suc n) = slice_index words (a + n) ∷ values_from words a n

-- A call's frame, where its values end before a place. Between its arguments and its locals are five words.
abbrev pub frame_of : List ℕ → Call → ℕ → Frame
frame_of words c end = record {
  function = c.function;
  place = c.place;
  arguments = range words c.arguments (c.locals - 5 - c.arguments);
  locals = range words c.locals (c.values - c.locals);
  values = values_from words c.values (end - c.values);
  this = c.this;
  that = c.that;
}

abbrev pub no_call : Call
no_call = record { function = None; place = 0; arguments = 0; locals = 0; values = 0; this = 0; that = 0 }

abbrev pub call_at : List Call → ℕ → Call
call_at calls k = get_or calls k no_call

-- the frames of the first d calls, the last one first, where the arguments of the next begin at a place
abbrev pub below_of : List ℕ → List Call → ℕ → ℕ → List Frame
below_of words calls zero end = []
below_of words calls (suc d) end = frame_of words (call_at calls d) end ∷ below_of words calls d (call_at calls d).arguments

abbrev pub calls_of : List ℕ → List Call → ℕ → Call → ℕ → Calls
calls_of words calls depth top end = record { top = frame_of words top end; below = below_of words calls depth top.arguments }

-- the parts of a call in their order
pub record IsLaid (c : Call) (end : ℕ) : Type 0 where
  pub arguments : c.arguments ≤ c.locals
  pub locals : c.locals ≤ c.values
  pub values : c.values ≤ end

-- a call lies on d others, the lowest of which is `start`
abbrev pub AreLaid : List Call → ℕ → Call → Type 0
AreLaid calls zero c = (c.arguments ≡ 0) × (c.locals ≡ 0) × (c.values ≡ 0)
AreLaid calls (suc d) c = (c.arguments + 5 ≤ c.locals) × IsLaid (call_at calls d) c.arguments × AreLaid calls d (call_at calls d)

pub record IsStack (words : List ℕ) (calls : List Call) (depth : ℕ) (top : Call) (end : ℕ) : Type 0 where
  pub room : length words ≡ 1792
  pub call_room : length calls ≡ 358
  pub within : end ≤ 1792
  pub deep : depth ≤ 358
  pub top_laid : IsLaid top end
  pub laid : AreLaid calls depth top
