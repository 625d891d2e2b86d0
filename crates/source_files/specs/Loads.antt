-- What loading says: of what is loaded, of the line of a refusal, and of a fault of the shelf.
use Rattle.std.specs.Prelude.{◌≡◌, ℕ, suc, List, Option, Some, None, Result, Ok, Err}
use Rattle.outer_world.specs.Faults.{Rose}
use Rattle.outer_world.specs.Refusals.{Message, message_line}
use Rattle.source_files.specs.declared.error.LoadError.{LoadError}
use Rattle.source_files.specs.declared.error.LoadError.TheVariants as errors
use Rattle.source_files.specs.declared.error.Refusal.{Refusal}
use Rattle.source_files.specs.declared.error.TextError.{TextError}
use Rattle.source_files.specs.declared.error.TextError.TheVariants as texts

-- the line of a refusal
abbrev pub line_of : Refusal → List ℕ
line_of r = message_line r.path r.diagnostic

-- What is loaded is good, a refusal has such a line, a fault of the shelf comes for this alone, or memory is wanting.
abbrev pub Loads : {A : Type 0} → (A → Type 0) → (List ℕ → Type 0) → Type 0 → Result A LoadError → Type 0
Loads good refused missed (Ok loaded) = good loaded
Loads good refused missed (Err (errors.Refused r)) = refused (line_of r)
Loads good refused missed (Err errors.Failed) = missed
Loads good refused missed (Err errors.Memory) = Unit {0}

-- The count of faults of the shelf rises with a fault of the shelf alone.
abbrev pub CountsLoad : {A : Type 0} → ℕ → ℕ → Result A LoadError → Type 0
CountsLoad shelf shelf' (Err errors.Failed) = Rose shelf shelf'
CountsLoad shelf shelf' _ = shelf' ≡ shelf

-- A fault of the shelf comes for this.
abbrev pub FailsFor : {A : Type 0} → Type 0 → Result A LoadError → Type 0
FailsFor why (Err errors.Failed) = why
FailsFor why _ = Unit {0}

-- What is loaded by one call of the shelf; before and now say of a number that none of so many of its calls to come is set up to fail. A fault is
-- that of a call which was set up to fail, or of what is missing.
abbrev pub SpendsOne : {A : Type 0} → (ℕ → Type 0) → (ℕ → Type 0) → Type 0 → Result A LoadError → Type 0
SpendsOne before now missing (Ok loaded) = (n : ℕ) → before (suc n) → now n
SpendsOne before now missing (Err (errors.Refused r)) = Unit {0}
SpendsOne before now missing (Err errors.Failed) = before 1 → missing
SpendsOne before now missing (Err errors.Memory) = Unit {0}

-- A refusal reports this of what stands at a path, unless memory is wanting.
abbrev pub Refused : List ℕ → Message → LoadError → Type 0
Refused path told (errors.Refused r) = line_of r ≡ message_line path told
Refused path told errors.Failed = ⊥
Refused path told errors.Memory = Unit {0}

-- What is reported of what stands at a path is its refusal; where nothing is reported, memory is
-- wanting.
abbrev pub TellsOf : List ℕ → Option Message → LoadError → Type 0
TellsOf path (Some told) e = Refused path told e
TellsOf path None e = e ≡ errors.Memory

abbrev pub text_error : Option Message → TextError
text_error (Some told) = texts.Refused told
text_error None = texts.Memory

-- A text is not read for this, unless memory is wanting.
abbrev pub IsWhy : (Message → Type 0) → TextError → Type 0
IsWhy refuses (texts.Refused told) = refuses told
IsWhy refuses texts.Memory = Unit {0}
