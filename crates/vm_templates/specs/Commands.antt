-- What the instructions of each command do: from where, to where, and what they change.
use Rattle.std.specs.Prelude.{◌≡◌, ◌≢◌, ◌⊎◌, ℕ, ◌+◌, ◌-◌, ◌<◌, ◌≤◌, ◌%◌, if◌then◌else◌, nat_eq, bit_and, bit_or, List, Option, None, Some}
use Rattle.word16.specs.Memory.{heap, keyboard}
use Rattle.word16.specs.Words.{word_add, word_sub, word_neg, word_not, word_shl, word_shr}
use Rattle.hack_isa.specs.Machine.{Machine, image_words}
use Rattle.simulation.specs.System.{IsData}
use Rattle.vm_tree.specs.declared.command.Operation.{Operation}
use Rattle.vm_tree.specs.declared.command.Operation.TheVariants.{Add, Sub, And, Or, Neg, Not, ShiftLeft, ShiftRight, Eq, Gt, Lt}
use Rattle.vm_templates.specs.declared.shape.Shape.{Shape}
use Rattle.vm_templates.specs.declared.shape.Shape.TheVariants.{PushConstant, PushAt, PushFirst, PushWord, PopAt, PopFirst, PopWord, Operate, Goto, IfGoto, Call, Function, Return}
use Rattle.vm_templates.specs.declared.routines.Routine.{Routine}
use Rattle.vm_templates.specs.declared.routines.Routines.{Routines}
use Rattle.vm_templates.specs.Templates.{template, size, routine_code, routine_size, routine_at, routine_of}
use Rattle.vm_templates.specs.Computer.{Stands}
use Rattle.vm_templates.specs.Going.{Does, DoesHearing}
use Rattle.vm_templates.specs.Effects.{Pushed, Joined, Turned, Stored, Dropped, Called, PushedAll, Returned, HasWords}
use Rattle.vm_templates.specs.Comparing.{equal, greater, less}

-- The numbers of a command are those of its segment, of a static, a pointer or a temp word, of code, of arguments.
abbrev pub IsShape : Shape → Type 0
IsShape (PushConstant n) = n < 32768
IsShape (PushAt base index) = (1 ≤ base) × (base ≤ 4) × (index < 32768)
IsShape (PushFirst base) = (1 ≤ base) × (base ≤ 4)
IsShape (PushWord address) = (3 ≤ address) × (address < 256)
IsShape (PopAt base index) = (1 ≤ base) × (base ≤ 4) × (index < 32768)
IsShape (PopFirst base) = (1 ≤ base) × (base ≤ 4)
IsShape (PopWord address) = (3 ≤ address) × (address < 256)
IsShape (Goto target) = target < 32768
IsShape (IfGoto target) = target < 32768
IsShape (Call target arguments) = (target < 32768) × (arguments < 32768)
IsShape c = Unit {0}

-- this many values can be taken from the stack, 256 to 2047
abbrev pub HasValues : ℕ → (ℕ → ℕ) → Type 0
HasValues n m = (256 + n ≤ m 0) × (m 0 ≤ heap)

-- this many words can be put on it
abbrev pub HasRoom : ℕ → (ℕ → ℕ) → Type 0
HasRoom n m = (256 ≤ m 0) × (m 0 + n ≤ heap)

-- the address at an index from where a register points, modulo 65,536
abbrev pub address_at : (ℕ → ℕ) → ℕ → ℕ → ℕ
address_at m base index = (m base + index) % 65536

abbrev pub topmost : (ℕ → ℕ) → ℕ
topmost m = m (m 0 - 1)

abbrev pub second : (ℕ → ℕ) → ℕ
second m = m (m 0 - 2)

-- how many values an operation takes
abbrev pub operands : Operation → ℕ
operands Neg = 1
operands Not = 1
operands ShiftLeft = 1
operands ShiftRight = 1
operands o = 2

-- What a command asks of the memory: values or room on the stack, an address that is a word of memory, a frame to return from.
abbrev pub Ready : Shape → (ℕ → ℕ) → Type 0
Ready (PushConstant n) m = HasRoom 1 m
Ready (PushAt base index) m = HasRoom 1 m × (address_at m base index < keyboard)
Ready (PushFirst base) m = HasRoom 1 m × (m base < keyboard)
Ready (PushWord address) m = HasRoom 1 m
Ready (PopAt base index) m = HasValues 1 m × (256 ≤ address_at m base index) × (address_at m base index < keyboard)
Ready (PopFirst base) m = HasValues 1 m × (256 ≤ m base) × (m base < keyboard)
Ready (PopWord address) m = HasValues 1 m
Ready (Operate o) m = HasValues (operands o) m
Ready (Goto target) m = Unit {0}
Ready (IfGoto target) m = HasValues 1 m
Ready (Call target arguments) m = HasRoom 5 m
Ready (Function locals) m = HasRoom locals m
Ready Return m = HasValues 1 m × (256 ≤ m 2) × (m 2 + 5 ≤ m 1) × (m 1 ≤ heap) × (m (m 1 - 5) < 32768)

-- a push of the word at an address that a register has
abbrev pub PushesFrom : Shape → (ℕ → ℕ) → ℕ → Type 0
PushesFrom (PushAt base index) m address = address_at m base index ≡ address
PushesFrom (PushFirst base) m address = m base ≡ address
PushesFrom c m address = ⊥

-- a pop to the word at such an address
abbrev pub PopsTo : Shape → (ℕ → ℕ) → ℕ → Type 0
PopsTo (PopAt base index) m address = address_at m base index ≡ address
PopsTo (PopFirst base) m address = m base ≡ address
PopsTo c m address = ⊥

-- Only a pop to a segment may write data, where its address is one of data.
abbrev pub MayStore : Shape → (ℕ → ℕ) → Type 0
MayStore (PopAt base index) m = IsData (address_at m base index)
MayStore (PopFirst base) m = IsData (m base)
MayStore c m = ⊥

-- what an operation changes in memory
abbrev pub OperationEffect : Operation → (ℕ → ℕ) → (ℕ → ℕ) → Type 0
OperationEffect Add m after = Joined m after (word_add (second m) (topmost m))
OperationEffect Sub m after = Joined m after (word_sub (second m) (topmost m))
OperationEffect And m after = Joined m after (bit_and (second m) (topmost m))
OperationEffect Or m after = Joined m after (bit_or (second m) (topmost m))
OperationEffect Neg m after = Turned m after (word_neg (topmost m))
OperationEffect Not m after = Turned m after (word_not (topmost m))
OperationEffect ShiftLeft m after = Turned m after (word_shl (topmost m))
OperationEffect ShiftRight m after = Turned m after (word_shr (topmost m))
OperationEffect Eq m after = Joined m after (equal (second m) (topmost m))
OperationEffect Gt m after = Joined m after (greater (second m) (topmost m))
OperationEffect Lt m after = Joined m after (less (second m) (topmost m))

-- what a command at an address changes in memory
abbrev pub Effect : Shape → ℕ → (ℕ → ℕ) → (ℕ → ℕ) → Type 0
Effect (PushConstant n) here m after = Pushed m after n
Effect (PushAt base index) here m after = Pushed m after (m (address_at m base index))
Effect (PushFirst base) here m after = Pushed m after (m (m base))
Effect (PushWord address) here m after = Pushed m after (m address)
Effect (PopAt base index) here m after = Stored m after (address_at m base index)
Effect (PopFirst base) here m after = Stored m after (m base)
Effect (PopWord address) here m after = Stored m after address
Effect (Operate o) here m after = OperationEffect o m after
Effect (Goto target) here m after = (k : ℕ) → after k ≡ m k
Effect (IfGoto target) here m after = Dropped m after
Effect (Call target arguments) here m after = Called m after ((here + 12) % 32768) arguments
Effect (Function locals) here m after = PushedAll m after locals (λ k. 0)
Effect Return here m after = Returned m after

-- where a command at an address leads: after its instructions, but for jumps, calls and returns
abbrev pub next : Shape → ℕ → (ℕ → ℕ) → ℕ
next (Goto target) here m = target
next (IfGoto target) here m = if nat_eq (topmost m) 0 then (here + 5) % 32768 else target
next (Call target arguments) here m = target
next Return here m = m (m 1 - 5)
next c here m = (here + size c) % 32768

-- the routine stands in the image
abbrev pub HasRoutine : List ℕ → Routines → Option Routine → Type 0
HasRoutine image at None = Unit {0}
HasRoutine image at (Some r) = (routine_at at r + routine_size r ≤ image_words) × Stands image (routine_at at r) (routine_code r (routine_at at r))

-- the command stands at the machine's program counter, and its routine where it goes
pub record IsAt (image : List ℕ) (at : Routines) (c : Shape) (s : Machine) : Type 0 where
  pub words : HasWords s
  pub shape : IsShape c
  pub low : s.pc + size c ≤ image_words
  pub stands : Stands image s.pc (template at s.pc c)
  pub shared : HasRoutine image at (routine_of c)

-- the addresses of a command of this size and of its routine but the last
abbrev pub IsAmong : Routines → ℕ → ℕ → Option Routine → ℕ → Type 0
IsAmong at here n None k = (here ≤ k) × (k + 1 < here + n)
IsAmong at here n (Some r) k = ((here ≤ k) × (k < here + n)) ⊎ ((routine_at at r ≤ k) × (k + 1 < routine_at at r + routine_size r))

abbrev pub IsInside : Routines → ℕ → Shape → ℕ → Type 0
IsInside at here c = IsAmong at here (size c) (routine_of c)

-- the last: with a routine it is the routine's
abbrev pub last_among : Routines → ℕ → ℕ → Option Routine → ℕ
last_among at here n None = here + n - 1
last_among at here n (Some r) = routine_at at r + routine_size r - 1

abbrev pub last_of : Routines → ℕ → Shape → ℕ
last_of at here c = last_among at here (size c) (routine_of c)

-- how many instructions a command goes through at most: its own and those of its routine, each once
abbrev pub cycles_of : ℕ → Option Routine → ℕ
cycles_of n None = n
cycles_of n (Some r) = n + routine_size r

abbrev pub cycles : Shape → ℕ
cycles c = cycles_of (size c) (routine_of c)

-- Its instructions are gone through from there, and those of its routine, each at most once, and the last one leads to the goal.
abbrev pub Goes : List ℕ → Routines → Shape → Type 0 → (Machine → Type 0) → Machine → Type 0
Goes image at c may_write goal s = Does image (IsInside at s.pc c) (last_of at s.pc c) may_write goal (cycles c - 1) s

-- what holds after a command with this effect
pub record After (c : Shape) (effect : (ℕ → ℕ) → (ℕ → ℕ) → Type 0) (s t : Machine) : Type 0 where
  pub words : HasWords t
  pub pc : t.pc ≡ next c s.pc s.memory
  pub change : effect s.memory t.memory

-- The instructions of each command do what the command does, in any image and at any place.
pub record CommandsGo : Type 0 where
  -- from where it is ready, the command has its effect
  pub goes : (image : List ℕ) (at : Routines) (c : Shape) (s : Machine) → IsAt image at c s
      → Ready c s.memory → Goes image at c (MayStore c s.memory) (After c (Effect c s.pc) s) s
  -- A push of the word at 24,576 reads the key once, in the fifth step before its end, and pushes it.
  pub hears : (image : List ℕ) (at : Routines) (c : Shape) (s : Machine) → IsAt image at c s
      → HasRoom 1 s.memory → PushesFrom c s.memory keyboard
      → DoesHearing image (IsInside at s.pc c) (last_of at s.pc c) ⊥ (λ key. After c (λ m after. Pushed m after key) s) (size c - 5) 3 s
  -- A push of any other word has the effect of some word: no key is read.
  pub strays : (image : List ℕ) (at : Routines) (c : Shape) (s : Machine) (address : ℕ)
      → IsAt image at c s → HasRoom 1 s.memory → PushesFrom c s.memory address → address ≢ keyboard
      → Goes image at c ⊥ (λ t. (v : ℕ) × After c (λ m after. Pushed m after v) s t) s
  -- It comes to its last instruction also where the stack is full, and so does a pop to any address: nothing is said of what that writes.
  pub push_ends : (image : List ℕ) (at : Routines) (c : Shape) (s : Machine) (address : ℕ)
      → IsAt image at c s → PushesFrom c s.memory address → address ≢ keyboard
      → Goes image at c (Unit {0}) (λ t. Unit {0}) s
  pub pop_ends : (image : List ℕ) (at : Routines) (c : Shape) (s : Machine) (address : ℕ)
      → IsAt image at c s → HasValues 1 s.memory → PopsTo c s.memory address
      → Goes image at c (Unit {0}) (λ t. Unit {0}) s
