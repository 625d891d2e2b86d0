-- Two devices that stand for one: both before the first load, one chip elaborated twice with calls that do the same, or one machine.
use Rattle.std.proofs.Common.{◌≡◌, ℕ, Bool, List, [], ◌∷◌, ◌++◌, refl, sym, ap, ap₂, subst, ◌∙◌, arith}
use Rattle.std.specs.Prelude.{codes, MatchOption, slice_get}
use Rattle.word16.specs.Memory.{keyboard}
use Rattle.netlist.specs.declared.node.Block.{Block}
use Rattle.gate_sim.specs.Calls.{Call}
use Rattle.gate_sim.specs.Calls.Call.{Load}
use Rattle.hdl_tree.specs.declared.library.Entry.{Entry}
use Rattle.hdl_tree.specs.declared.ends.Memories.{Memories}
use Rattle.hdl_elab.specs.declared.put.Elab.{Elab}
use Rattle.elab_laws.specs.Same.{SameBlock, SameCalls, SamePin, none, load, set, eval, tick, tock}
use Rattle.script_columns.specs.Columns.{column_text, value_text}
use Rattle.script_columns.specs.declared.layout.Value.{Value}
use Rattle.script_parser.specs.declared.tree.Item.{Item}
use Rattle.script_device.specs.Directory.{HasBlock, LoadedChip}
use Rattle.script_device.specs.Variables as chips
use Rattle.script_device.specs.Variables.{HasNumber}
use Rattle.script_device.specs.Machines.{Register, RunningMachine}
use Rattle.script_device.specs.Machines as machines
use Rattle.script_device.specs.Machines.Register.{A, D, Pc, Word, Key}
use Rattle.script_device.specs.Devices.{CanSet, Device, HasRom, Denotes, SeesAll, Source, after_eval, after_set, after_tick, after_tock, value_of, whole_memory, with_image}
use Rattle.script_device.specs.Devices.Device.{Empty, Chip, Machine}
use Rattle.script_device.specs.Devices.Source.{TheTime, OfChip, OfMachine}
use Rattle.script_device.proofs.Found.{number_has, one_block as block_once}
use Rattle.script_device.proofs.MachineNames.{word_of}
use Rattle.tst_runner.specs.Lines.{AreMeant, IsLine, IsNameless, columns, values_of}
use Rattle.script_laws.proofs.Chips.{OneChip}
use Rattle.script_laws.proofs.Devices.{SameSet, SameSource, block_moved, means_moved, means_once, seen_same, set_moved, set_once, size_moved, source_set, times_same}

-- ---- turned round

pin_back : (e e' : Elab) (k x y : ℕ) → SamePin e e' k x y → SamePin e' e k y x
pin_back e e' k x y s = record { pin = s.pin'; pin' = s.pin; bit = s.bit; there = s.there'; there' = s.there; here = s.here'; here' = s.here }

block_back : (e e' : Elab) (x y : ℕ) → SameBlock e e' x y → SameBlock e' e y x
block_back e e' x y s = record { k = s.k; part = s.part'; part' = s.part; there = s.there'; there' = s.there; here = s.here'; here' = s.here }

calls_back : (top : Entry) (e e' : Elab) (calls calls' : List Call) → SameCalls top e e' calls calls' → SameCalls top e' e calls' calls
calls_back top e e' calls calls' none = none
calls_back top e e' calls calls' (load {block = b} {block' = b'} {from = from} {words = words} {calls = cs} {calls' = cs'} s rest) = load {from = from} {words = words} (block_back e e' b b' s) (calls_back top e e' cs cs' rest)
calls_back top e e' calls calls' (set {k = k} {node = x} {node' = y} {bit = bit} {calls = cs} {calls' = cs'} lt p rest) = set {k = k} {bit = bit} lt (pin_back e e' k x y p) (calls_back top e e' cs cs' rest)
calls_back top e e' calls calls' (eval {calls = cs} {calls' = cs'} rest) = eval (calls_back top e e' cs cs' rest)
calls_back top e e' calls calls' (tick {calls = cs} {calls' = cs'} rest) = tick (calls_back top e e' cs cs' rest)
calls_back top e e' calls calls' (tock {calls = cs} {calls' = cs'} rest) = tock (calls_back top e e' cs cs' rest)

abbrev back : (memories : Memories) (c c' : LoadedChip) → OneChip memories c c' → OneChip memories c' c
back memories c c' o = record {
  entries = o.entries;
  name = o.name;
  top = o.top;
  found = o.found;
  no_fault = o.no_fault;
  ends = o.ends;
  can = o.can;
  e = o.e';
  e' = o.e;
  is = o.is';
  is' = o.is;
  net = o.net';
  net' = o.net;
  ordered = o.ordered';
  ordered' = o.ordered;
  directory = o.directory';
  directory' = o.directory;
}

-- ---- the registers of the machine

abbrev first_byte : List ℕ → ℕ
first_byte [] = 0
first_byte (x ∷ xs) = x

abbrev register_byte : Register → ℕ
register_byte A = 65
register_byte D = 68
register_byte Pc = 80
register_byte (Word k) = 82
register_byte Key = 82

byte_of : (text : List ℕ) (r : Register) → machines.Denotes text r → first_byte text ≡ register_byte r
byte_of text A h = ap first_byte h
byte_of text D h = ap first_byte h
byte_of text Pc h = ap first_byte h
byte_of text (Word k) h = ap first_byte h.0.is
byte_of text Key h = ap first_byte h.is

apart : (text : List ℕ) (a b : ℕ) → first_byte text ≡ a → first_byte text ≡ b → (a ≡ b → ⊥) → ⊥
apart text a b h k ne = ne (sym h ∙ k)

number_once : (text : List ℕ) (j k : ℕ) → HasNumber text (codes "RAM") j → HasNumber text (codes "RAM") k → j ≡ k
number_once text j k n m =
    let w = word_of text (codes "RAM") n.written k (number_has text (codes "RAM") j n) m in
    n.number ∙ sym w.number

register_once : (text : List ℕ) (r s : Register) → machines.Denotes text r → machines.Denotes text s → r ≡ s
register_once text A A h m = refl
register_once text A D h m = absurd (apart text 65 68 (byte_of text A h) (byte_of text D m) (λ e. absurd (omega (arith, e))))
register_once text A Pc h m = absurd (apart text 65 80 (byte_of text A h) (byte_of text Pc m) (λ e. absurd (omega (arith, e))))
register_once text A (Word k) h m = absurd (apart text 65 82 (byte_of text A h) (byte_of text (Word k) m) (λ e. absurd (omega (arith, e))))
register_once text A Key h m = absurd (apart text 65 82 (byte_of text A h) (byte_of text Key m) (λ e. absurd (omega (arith, e))))
register_once text D A h m = absurd (apart text 68 65 (byte_of text D h) (byte_of text A m) (λ e. absurd (omega (arith, e))))
register_once text D D h m = refl
register_once text D Pc h m = absurd (apart text 68 80 (byte_of text D h) (byte_of text Pc m) (λ e. absurd (omega (arith, e))))
register_once text D (Word k) h m = absurd (apart text 68 82 (byte_of text D h) (byte_of text (Word k) m) (λ e. absurd (omega (arith, e))))
register_once text D Key h m = absurd (apart text 68 82 (byte_of text D h) (byte_of text Key m) (λ e. absurd (omega (arith, e))))
register_once text Pc A h m = absurd (apart text 80 65 (byte_of text Pc h) (byte_of text A m) (λ e. absurd (omega (arith, e))))
register_once text Pc D h m = absurd (apart text 80 68 (byte_of text Pc h) (byte_of text D m) (λ e. absurd (omega (arith, e))))
register_once text Pc Pc h m = refl
register_once text Pc (Word k) h m = absurd (apart text 80 82 (byte_of text Pc h) (byte_of text (Word k) m) (λ e. absurd (omega (arith, e))))
register_once text Pc Key h m = absurd (apart text 80 82 (byte_of text Pc h) (byte_of text Key m) (λ e. absurd (omega (arith, e))))
register_once text (Word j) A h m = absurd (apart text 82 65 (byte_of text (Word j) h) (byte_of text A m) (λ e. absurd (omega (arith, e))))
register_once text (Word j) D h m = absurd (apart text 82 68 (byte_of text (Word j) h) (byte_of text D m) (λ e. absurd (omega (arith, e))))
register_once text (Word j) Pc h m = absurd (apart text 82 80 (byte_of text (Word j) h) (byte_of text Pc m) (λ e. absurd (omega (arith, e))))
register_once text (Word j) (Word k) h m = ap Word (number_once text j k h.0 m.0)
register_once text (Word j) Key h m = let e = number_once text j keyboard h.0 m in let lt = h.1 in absurd (omega (arith, e, lt))
register_once text Key A h m = absurd (apart text 82 65 (byte_of text Key h) (byte_of text A m) (λ e. absurd (omega (arith, e))))
register_once text Key D h m = absurd (apart text 82 68 (byte_of text Key h) (byte_of text D m) (λ e. absurd (omega (arith, e))))
register_once text Key Pc h m = absurd (apart text 82 80 (byte_of text Key h) (byte_of text Pc m) (λ e. absurd (omega (arith, e))))
register_once text Key (Word k) h m = let e = number_once text keyboard k h m.0 in let lt = m.1 in absurd (omega (arith, e, lt))
register_once text Key Key h m = refl

time_byte : (text : List ℕ) → text ≡ codes "time" → first_byte text ≡ 116
time_byte text h = ap first_byte h

no_time : (text : List ℕ) (r : Register) → text ≡ codes "time" → machines.Denotes text r → ⊥
no_time text A t h = apart text 116 65 (time_byte text t) (byte_of text A h) (λ e. absurd (omega (arith, e)))
no_time text D t h = apart text 116 68 (time_byte text t) (byte_of text D h) (λ e. absurd (omega (arith, e)))
no_time text Pc t h = apart text 116 80 (time_byte text t) (byte_of text Pc h) (λ e. absurd (omega (arith, e)))
no_time text (Word k) t h = apart text 116 82 (time_byte text t) (byte_of text (Word k) h) (λ e. absurd (omega (arith, e)))
no_time text Key t h = apart text 116 82 (time_byte text t) (byte_of text Key h) (λ e. absurd (omega (arith, e)))

-- ---- devices

module _ (memories : Memories) where
  abbrev pub SameDevice : Device → Device → Type 0
  SameDevice Empty Empty = Unit {0}
  SameDevice Empty (Chip c calls) = ⊥
  SameDevice Empty (Machine m) = ⊥
  SameDevice (Chip c calls) Empty = ⊥
  SameDevice (Chip c calls) (Chip c' calls') = (o : OneChip memories c c') × SameCalls o.top o.e o.e' calls calls'
  SameDevice (Chip c calls) (Machine m) = ⊥
  SameDevice (Machine m) Empty = ⊥
  SameDevice (Machine m) (Chip c calls) = ⊥
  SameDevice (Machine m) (Machine m') = m ≡ m'

  pub turned : (d d' : Device) → SameDevice d d' → SameDevice d' d
  turned Empty Empty h = tt
  turned Empty (Chip c calls) h = absurd h
  turned Empty (Machine m) h = absurd h
  turned (Chip c calls) Empty h = absurd h
  turned (Chip c calls) (Chip c' calls') h = (back memories c c' h.0, calls_back h.0.top h.0.e h.0.e' calls calls' h.1)
  turned (Chip c calls) (Machine m) h = absurd h
  turned (Machine m) Empty h = absurd h
  turned (Machine m) (Chip c calls) h = absurd h
  turned (Machine m) (Machine m') h = sym h

  -- ---- calls that take nothing

  pub eval_same : (d d' : Device) → SameDevice d d' → SameDevice (after_eval d) (after_eval d')
  eval_same Empty Empty h = tt
  eval_same Empty (Chip c calls) h = absurd h
  eval_same Empty (Machine m) h = absurd h
  eval_same (Chip c calls) Empty h = absurd h
  eval_same (Chip c calls) (Chip c' calls') h = (h.0, eval h.1)
  eval_same (Chip c calls) (Machine m) h = absurd h
  eval_same (Machine m) Empty h = absurd h
  eval_same (Machine m) (Chip c calls) h = absurd h
  eval_same (Machine m) (Machine m') h = h

  pub tick_same : (d d' : Device) → SameDevice d d' → SameDevice (after_tick d) (after_tick d')
  tick_same Empty Empty h = tt
  tick_same Empty (Chip c calls) h = absurd h
  tick_same Empty (Machine m) h = absurd h
  tick_same (Chip c calls) Empty h = absurd h
  tick_same (Chip c calls) (Chip c' calls') h = (h.0, tick h.1)
  tick_same (Chip c calls) (Machine m) h = absurd h
  tick_same (Machine m) Empty h = absurd h
  tick_same (Machine m) (Chip c calls) h = absurd h
  tick_same (Machine m) (Machine m') h = ap machines.after_tick h

  pub tock_same : (d d' : Device) → SameDevice d d' → SameDevice (after_tock d) (after_tock d')
  tock_same Empty Empty h = tt
  tock_same Empty (Chip c calls) h = absurd h
  tock_same Empty (Machine m) h = absurd h
  tock_same (Chip c calls) Empty h = absurd h
  tock_same (Chip c calls) (Chip c' calls') h = (h.0, tock h.1)
  tock_same (Chip c calls) (Machine m) h = absurd h
  tock_same (Machine m) Empty h = absurd h
  tock_same (Machine m) (Chip c calls) h = absurd h
  tock_same (Machine m) (Machine m') h = ap machines.after_tock h

  -- ---- what a text means

  pub means_there : (d d' : Device) → SameDevice d d' → (text : List ℕ) (s : Source) → Denotes d text s → (s' : Source) × Denotes d' text s'
  means_there d d' h text TheTime m = (TheTime, m)
  means_there Empty d' h text (OfChip s) m = absurd m
  means_there Empty d' h text (OfMachine r) m = absurd m
  means_there (Chip c calls) Empty h text (OfChip s) m = absurd h
  means_there (Chip c calls) (Machine x) h text (OfChip s) m = absurd h
  means_there (Chip c calls) (Chip c' calls') h text (OfChip s) m = let r = means_moved memories c c' h.0 text s m.1 in (OfChip r.s', (m.0, r.other))
  means_there (Chip c calls) d' h text (OfMachine r) m = absurd m
  means_there (Machine x) d' h text (OfChip s) m = absurd m
  means_there (Machine x) Empty h text (OfMachine r) m = absurd h
  means_there (Machine x) (Chip c calls) h text (OfMachine r) m = absurd h
  means_there (Machine x) (Machine y) h text (OfMachine r) m = (OfMachine r, m)

  pub set_there : (d d' : Device) → SameDevice d d' → (text : List ℕ) (s : Source) → CanSet d text s → (s' : Source) × CanSet d' text s'
  set_there d d' h text TheTime m = absurd m
  set_there Empty d' h text (OfChip s) m = absurd m
  set_there Empty d' h text (OfMachine r) m = absurd m
  set_there (Chip c calls) Empty h text (OfChip s) m = absurd h
  set_there (Chip c calls) (Machine x) h text (OfChip s) m = absurd h
  set_there (Chip c calls) (Chip c' calls') h text (OfChip s) m = let r = set_moved memories c c' h.0 text s m.1 in (OfChip r.s', (m.0, r.other))
  set_there (Chip c calls) d' h text (OfMachine r) m = absurd m
  set_there (Machine x) d' h text (OfChip s) m = absurd m
  set_there (Machine x) Empty h text (OfMachine r) m = absurd h
  set_there (Machine x) (Chip c calls) h text (OfMachine r) m = absurd h
  set_there (Machine x) (Machine y) h text (OfMachine r) m = (OfMachine r, m)

  pub set_same : (d d' : Device) → SameDevice d d' → (text : List ℕ) (word : ℕ) (s s' : Source) → CanSet d text s → CanSet d' text s' → SameDevice (after_set d s word) (after_set d' s' word)
  set_same d d' h text word TheTime s' m m' = absurd m
  set_same d d' h text word s TheTime m m' = absurd m'
  set_same Empty d' h text word (OfChip s) s' m m' = absurd m
  set_same Empty d' h text word (OfMachine r) s' m m' = absurd m
  set_same (Chip c calls) d' h text word (OfMachine r) s' m m' = absurd m
  set_same (Machine x) d' h text word (OfChip s) s' m m' = absurd m
  set_same (Chip c calls) Empty h text word (OfChip s) s' m m' = absurd h
  set_same (Chip c calls) (Machine x) h text word (OfChip s) s' m m' = absurd h
  set_same (Chip c calls) (Chip c' calls') h text word (OfChip s) (OfMachine r) m m' = absurd m'
  set_same (Chip c calls) (Chip c' calls') h text word (OfChip s) (OfChip s') m m' =
      let r = set_moved memories c c' h.0 text s m.1 in
      let one = set_once memories c' c (back memories c c' h.0) text r.s' s' r.other m'.1 in
      (h.0, source_set memories c c' h.0 s s' word calls calls' (subst (λ (x : chips.Source). SameSet memories c c' h.0 s x) one r.same) h.1)
  set_same (Machine x) Empty h text word (OfMachine r) s' m m' = absurd h
  set_same (Machine x) (Chip c calls) h text word (OfMachine r) s' m m' = absurd h
  set_same (Machine x) (Machine y) h text word (OfMachine r) (OfChip s) m m' = absurd m'
  set_same (Machine x) (Machine y) h text word (OfMachine r) (OfMachine r') m m' = ap₂ (λ (a : RunningMachine) (b : Register). machines.after_set a b word) h (register_once text r r' m m')

  -- ---- what is seen

  pub value_same : (d d' : Device) → SameDevice d d' → (told told' : List Call) (v v' : ℕ → ℕ → Bool) → SeesAll d told v → SeesAll d' told' v' → (text : List ℕ) (s s' : Source) → Denotes d text s → Denotes d' text s' → value_of d told v s ≡ value_of d' told' v' s'
  value_same Empty Empty h told told' v v' sees sees' text s s' m m' = refl
  value_same Empty (Chip c calls) h told told' v v' sees sees' text s s' m m' = absurd h
  value_same Empty (Machine x) h told told' v v' sees sees' text s s' m m' = absurd h
  value_same (Chip c calls) Empty h told told' v v' sees sees' text s s' m m' = absurd h
  value_same (Chip c calls) (Machine x) h told told' v v' sees sees' text s s' m m' = absurd h
  value_same (Chip c calls) (Chip c' calls') h told told' v v' sees sees' text TheTime TheTime m m' = times_same memories c c' h.0 calls calls' h.1
  value_same (Chip c calls) (Chip c' calls') h told told' v v' sees sees' text TheTime (OfChip s') m m' = absurd (m'.0 m)
  value_same (Chip c calls) (Chip c' calls') h told told' v v' sees sees' text TheTime (OfMachine r) m m' = absurd m'
  value_same (Chip c calls) (Chip c' calls') h told told' v v' sees sees' text (OfChip s) TheTime m m' = absurd (m.0 m')
  value_same (Chip c calls) (Chip c' calls') h told told' v v' sees sees' text (OfChip s) (OfMachine r) m m' = absurd m'
  value_same (Chip c calls) (Chip c' calls') h told told' v v' sees sees' text (OfMachine r) s' m m' = absurd m
  value_same (Chip c calls) (Chip c' calls') h told told' v v' sees sees' text (OfChip s) (OfChip s') m m' =
      let r = means_moved memories c c' h.0 text s m.1 in
      let one = means_once memories c' c (back memories c c' h.0) text r.s' s' r.other m'.1 in
      seen_same memories c c' h.0 calls calls' told told' v v' h.1 sees sees' s s' (subst (λ (x : chips.Source). SameSource memories c c' h.0 s x) one r.same)
  value_same (Machine x) Empty h told told' v v' sees sees' text s s' m m' = absurd h
  value_same (Machine x) (Chip c calls) h told told' v v' sees sees' text s s' m m' = absurd h
  value_same (Machine x) (Machine y) h told told' v v' sees sees' text TheTime TheTime m m' = ap machines.time_of h
  value_same (Machine x) (Machine y) h told told' v v' sees sees' text TheTime (OfChip s') m m' = absurd m'
  value_same (Machine x) (Machine y) h told told' v v' sees sees' text TheTime (OfMachine r) m m' = absurd (no_time text r m m')
  value_same (Machine x) (Machine y) h told told' v v' sees sees' text (OfChip s) s' m m' = absurd m
  value_same (Machine x) (Machine y) h told told' v v' sees sees' text (OfMachine r) TheTime m m' = absurd (no_time text r m' m)
  value_same (Machine x) (Machine y) h told told' v v' sees sees' text (OfMachine r) (OfChip s') m m' = absurd m'
  value_same (Machine x) (Machine y) h told told' v v' sees sees' text (OfMachine r) (OfMachine r') m m' = ap₂ (λ (a : RunningMachine) (b : Register). machines.value_of a b) h (register_once text r r' m m')

  columns_same : (d d' : Device) → SameDevice d d' → (told told' : List Call) (v v' : ℕ → ℕ → Bool) → SeesAll d told v → SeesAll d' told' v' → (items : List Item) (ss ss' : List Source) → AreMeant d items ss → AreMeant d' items ss' → columns items (values_of d told v ss) ≡ columns items (values_of d' told' v' ss')
  columns_same d d' h told told' v v' sees sees' [] ss ss' m m' = refl
  columns_same d d' h told told' v v' sees sees' (item ∷ items) [] ss' m m' = absurd m
  columns_same d d' h told told' v v' sees sees' (item ∷ items) (s ∷ ss) [] m m' = absurd m'
  columns_same d d' h told told' v v' sees sees' (item ∷ items) (s ∷ ss) (s' ∷ ss') m m' =
      ap₂ (λ (x : Value) (rest : List ℕ). column_text item.layout (value_text item.layout.format x) ++ rest)
      (value_same d d' h told told' v v' sees sees' item.variable.text s s' m.0 m'.0)
      (columns_same d d' h told told' v v' sees sees' items ss ss' m.1 m'.1)

  pub line_same : (d d' : Device) → SameDevice d d' → (items : List Item) (line line' : List ℕ) → IsLine d items line → IsLine d' items line' → line ≡ line'
  line_same d d' h items line line' l l' =
      let told = l.there.0 in
      let v = l.there.1.0 in
      let sees = l.there.1.1 in
      let told' = l'.there.0 in
      let v' = l'.there.1.0 in
      let sees' = l'.there.1.1 in
      let x = l.is told v sees in
      let x' = l'.is told' v' sees' in
      x.2 ∙ ap (λ (rest : List ℕ). (124 ∷ []) ++ rest) (columns_same d d' h told told' v v' sees sees' items x.0 x'.0 x.1 x'.1) ∙ sym x'.2

  -- ---- output lists

  meant_there : (d d' : Device) → SameDevice d d' → (items : List Item) (ss : List Source) → AreMeant d items ss → (ss' : List Source) × AreMeant d' items ss'
  meant_there d d' h [] [] m = ([], tt)
  meant_there d d' h [] (s ∷ ss) m = absurd m
  meant_there d d' h (item ∷ items) [] m = absurd m
  meant_there d d' h (item ∷ items) (s ∷ ss) m =
      let x = means_there d d' h item.variable.text s m.0 in
      let rest = meant_there d d' h items ss m.1 in
      (x.0 ∷ rest.0, (x.1, rest.1))

  item_meant : (d : Device) (earlier : List Item) (item : Item) (later : List Item) (ss : List Source) → AreMeant d (earlier ++ item ∷ later) ss → (s : Source) × Denotes d item.variable.text s
  item_meant d [] item later [] m = absurd m
  item_meant d [] item later (s ∷ ss) m = (s, m.0)
  item_meant d (x ∷ earlier) item later [] m = absurd m
  item_meant d (x ∷ earlier) item later (s ∷ ss) m = item_meant d earlier item later ss m.1

  pub nameless_meant : (d d' : Device) → SameDevice d d' → (items : List Item) (item : Item) (ss : List Source) → IsNameless d items item → AreMeant d' items ss → ⊥
  nameless_meant d d' h items item ss n m =
      let x = item_meant d' n.earlier item n.later ss (subst (λ (l : List Item). AreMeant d' l ss) n.are m) in
      let y = means_there d' d (turned d d' h) item.variable.text x.0 x.1 in
      n.unmeant y.0 y.1

  abbrev NoMeaning : Device → Item → Type 0
  NoMeaning d item = (s : Source) → Denotes d item.variable.text s → ⊥

  first_once : (d d' : Device) → SameDevice d d' → (e e' : List Item) (i i' : Item) (l l' : List Item) (ss ss' : List Source) → e ++ i ∷ l ≡ e' ++ i' ∷ l' → AreMeant d e ss → AreMeant d' e' ss' → NoMeaning d i → NoMeaning d' i' → i ≡ i'
  first_once d d' h [] [] i i' l l' ss ss' same m m' n n' = cc
  first_once d d' h [] (x ∷ e') i i' l l' ss [] same m m' n n' = absurd m'
  first_once d d' h [] (x ∷ e') i i' l l' ss (s ∷ ss') same m m' n n' =
      let head : i ≡ x = cc in
      let y = means_there d' d (turned d d' h) x.variable.text s m'.0 in
      absurd (n y.0 (subst (λ (z : Item). Denotes d z.variable.text y.0) (sym head) y.1))
  first_once d d' h (x ∷ e) [] i i' l l' [] ss' same m m' n n' = absurd m
  first_once d d' h (x ∷ e) [] i i' l l' (s ∷ ss) ss' same m m' n n' =
      let head : x ≡ i' = cc in
      let y = means_there d d' h x.variable.text s m.0 in
      absurd (n' y.0 (subst (λ (z : Item). Denotes d' z.variable.text y.0) head y.1))
  first_once d d' h (x ∷ e) (x' ∷ e') i i' l l' [] ss' same m m' n n' = absurd m
  first_once d d' h (x ∷ e) (x' ∷ e') i i' l l' (s ∷ ss) [] same m m' n n' = absurd m'
  first_once d d' h (x ∷ e) (x' ∷ e') i i' l l' (s ∷ ss) (s' ∷ ss') same m m' n n' =
      let rest : e ++ i ∷ l ≡ e' ++ i' ∷ l' = cc in
      first_once d d' h e e' i i' l l' ss ss' rest m.1 m'.1 n n'

  pub nameless_once : (d d' : Device) → SameDevice d d' → (items : List Item) (item item' : Item) → IsNameless d items item → IsNameless d' items item' → item ≡ item'
  nameless_once d d' h items item item' n n' = first_once d d' h n.earlier n'.earlier item item' n.later n'.later n.meant.0 n'.meant.0 (sym n.are ∙ n'.are) n.meant.1 n'.meant.1 n.unmeant n'.unmeant

  -- ---- instruction memories

  -- the memory of a chip that is driven
  record RomOf (c : LoadedChip) (b : ℕ) : Type 0 where
    has : HasBlock c.directory (codes "ROM32K") b
    whole : MatchOption (slice_get c.net.blocks b) ⊥ (λ (x : Block). x.words ≡ 32768)

  rom_of : (c : LoadedChip) (calls : List Call) (rom : HasRom (Chip c calls)) → (c ≡ rom.chip) × (calls ≡ rom.calls)
  rom_of c calls rom = let is = rom.is in (cc, cc)

  rom_has : (c : LoadedChip) (calls : List Call) (rom : HasRom (Chip c calls)) → RomOf c rom.block
  rom_has c calls rom =
      let same = (rom_of c calls rom).0 in
      subst (λ (x : LoadedChip). RomOf x rom.block) (sym same) (record { has = rom.has; whole = rom.whole })

  no_rom : (d : Device) (c : LoadedChip) (calls : List Call) → d ≡ Empty → d ≡ Chip c calls → ⊥
  no_rom d c calls h k = let no : Empty ≡ Chip c calls = sym h ∙ k in absurd cc

  machine_rom : (m : RunningMachine) (c : LoadedChip) (calls : List Call) → Machine m ≡ Chip c calls → ⊥
  machine_rom m c calls h = absurd cc

  pub rom_there : (d d' : Device) → SameDevice d d' → HasRom d → HasRom d'
  rom_there Empty d' h rom = absurd (no_rom Empty rom.chip rom.calls refl rom.is)
  rom_there (Machine m) d' h rom = absurd (machine_rom m rom.chip rom.calls rom.is)
  rom_there (Chip c calls) Empty h rom = absurd h
  rom_there (Chip c calls) (Machine m) h rom = absurd h
  rom_there (Chip c calls) (Chip c' calls') h rom =
      let x = rom_has c calls rom in
      let r = block_moved memories c c' h.0 (codes "ROM32K") rom.block x.has in
      record { chip = c'; calls = calls'; is = refl; block = r.b'; has = r.other; whole = size_moved memories c c' h.0 (λ n. n ≡ 32768) rom.block r.b' r.same x.whole }

  loads : (c c' : LoadedChip) (calls calls' : List Call) (o : OneChip memories c c') → SameCalls o.top o.e o.e' calls calls' → (b b' : ℕ) (image : List ℕ) → HasBlock c.directory (codes "ROM32K") b → HasBlock c'.directory (codes "ROM32K") b' → SameDevice (Chip c (Load b 0 (whole_memory image) ∷ calls)) (Chip c' (Load b' 0 (whole_memory image) ∷ calls'))
  loads c c' calls calls' o same b b' image h h' =
      let r = block_moved memories c c' o (codes "ROM32K") b h in
      let one = block_once c'.directory (codes "ROM32K") r.b' b' r.other h' in
      (o, load {from = 0} {words = whole_memory image} (subst (λ (x : ℕ). SameBlock o.e o.e' b x) one r.same) same)

  pub rom_same : (d d' : Device) → SameDevice d d' → (rom : HasRom d) (rom' : HasRom d') (image : List ℕ) → SameDevice (with_image d rom image) (with_image d' rom' image)
  rom_same Empty d' h rom rom' image = absurd (no_rom Empty rom.chip rom.calls refl rom.is)
  rom_same (Machine m) d' h rom rom' image = absurd (machine_rom m rom.chip rom.calls rom.is)
  rom_same (Chip c calls) Empty h rom rom' image = absurd h
  rom_same (Chip c calls) (Machine m) h rom rom' image = absurd h
  rom_same (Chip c calls) (Chip c' calls') h rom rom' image =
      let x = rom_has c calls rom in
      let x' = rom_has c' calls' rom' in
      let p = rom_of c calls rom in
      let p' = rom_of c' calls' rom' in
      let l = loads c c' calls calls' h.0 h.1 rom.block rom'.block image x.has x'.has in
      subst (λ (k : LoadedChip). SameDevice (Chip k (Load rom.block 0 (whole_memory image) ∷ rom.calls)) (Chip rom'.chip (Load rom'.block 0 (whole_memory image) ∷ rom'.calls))) p.0
      (subst (λ (k : List Call). SameDevice (Chip c (Load rom.block 0 (whole_memory image) ∷ k)) (Chip rom'.chip (Load rom'.block 0 (whole_memory image) ∷ rom'.calls))) p.1
      (subst (λ (k : LoadedChip). SameDevice (Chip c (Load rom.block 0 (whole_memory image) ∷ calls)) (Chip k (Load rom'.block 0 (whole_memory image) ∷ rom'.calls))) p'.0
      (subst (λ (k : List Call). SameDevice (Chip c (Load rom.block 0 (whole_memory image) ∷ calls)) (Chip c' (Load rom'.block 0 (whole_memory image) ∷ k))) p'.1 l)))
