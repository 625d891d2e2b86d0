-- What commands make of what stands, and what is seen of it.
use Rattle.std.proofs.Common.{◌≡◌, ℕ, List, [], ◌∷◌, Bool, true, false, refl, sym, subst}
use Rattle.std.specs.Prelude.{IfOk, Option, Some, None, MatchOption, Result}
use Rattle.std.specs.declared.alloc.AllocError.{AllocError}
use Rattle.std.specs.Option.{is_some}
use Rattle.gate_sim.specs.Calls.{Call}
use Rattle.gate_sim.specs.Calls.Call.{Eval, Load, Tick, Tock}
use Rattle.gate_sim.specs.Values.{AreValues}
use Rattle.script_columns.specs.declared.layout.Value.{Value}
use Rattle.script_columns.specs.declared.layout.Value.TheVariants.{Time}
use Rattle.script_device.specs.declared.chip.DrivenChip.{DrivenChip}
use Rattle.script_device.specs.Directory.{FitsNet, LoadedChip}
use Rattle.script_device.specs.Driven.{IsDriven, Sees, chip_of}
use Rattle.script_device.specs.declared.machine.ScriptMachine.{ScriptMachine}
use Rattle.script_device.specs.declared.probe.Probe.{Probe}
use Rattle.script_device.specs.declared.device.Device as code
use Rattle.script_device.specs.declared.device.Device.TheVariants as held
use Rattle.script_device.specs.Machines as machines
use Rattle.script_device.specs.Devices.{Device, HasRom, Source, CanSet, SeesAll, after_eval, after_restart, after_tick, after_tock, value_of, whole_memory, with_image}
use Rattle.script_device.specs.Devices.Device.{Empty, Chip, Machine}
use Rattle.script_device.specs.Devices.Source.{TheTime, OfChip, OfMachine}
use Rattle.script_device.specs.Inner.Driving.{HasMemory, SetsChip, SetsMachine}
use Rattle.script_device.specs.Running.{CanSee, Finds, IsEvaluated, Stands, TellsMemory, TellsSet, running_of}
use Rattle.script_device.proofs.Standings.{on_empty, on_chip, on_machine, still_evaluated}

pub fits_of : (c : DrivenChip) (d : Device) → Stands (held.Chip c) d → FitsNet (chip_of c).net (chip_of c).directory
fits_of c = on_chip c (λ d. FitsNet (chip_of c).net (chip_of c).directory) (λ calls driven fits evaluated. fits)

-- ---- set

set_told : (c now : DrivenChip) (text : List ℕ) (word : ℕ) (calls : List Call) → chip_of now ≡ chip_of c → FitsNet (chip_of c).net (chip_of c).directory → IsEvaluated calls → (b : Bool) → SetsChip (chip_of c) calls now text word b → TellsSet (Chip (chip_of c) calls) (held.Chip now) text word b
set_told c now text word calls e fits evaluated true s = (OfChip s.0, s.1, (sym e, s.2, fits, still_evaluated (chip_of c).net.nodes s.0 word calls evaluated))
set_told c now text word calls e fits evaluated false s = (s.0, (sym e, s.1, fits, evaluated))

pub chip_set : (c now : DrivenChip) (text : List ℕ) (word : ℕ) (b : Bool) → chip_of now ≡ chip_of c → ((calls : List Call) → IsDriven c calls → SetsChip (chip_of c) calls now text word b) → (d : Device) → Stands (held.Chip c) d → TellsSet d (held.Chip now) text word b
chip_set c now text word b e h = on_chip c (λ d. TellsSet d (held.Chip now) text word b) (λ calls driven fits evaluated. set_told c now text word calls e fits evaluated b (h calls driven))

machine_told : (m now : ScriptMachine) (text : List ℕ) (word : ℕ) (b : Bool) → SetsMachine (running_of m) (running_of now) text word b → TellsSet (Machine (running_of m)) (held.Machine now) text word b
machine_told m now text word true s = (OfMachine s.0, s.1, sym s.2)
machine_told m now text word false s = (none, sym s.1) where
  none : (source : Source) → CanSet (Machine (running_of m)) text source → ⊥
  none TheTime h = h
  none (OfChip source) h = h
  none (OfMachine register) h = s.0 register h

pub machine_set : (m now : ScriptMachine) (text : List ℕ) (word : ℕ) (b : Bool) → SetsMachine (running_of m) (running_of now) text word b → (d : Device) → Stands (held.Machine m) d → TellsSet d (held.Machine now) text word b
machine_set m now text word b s = on_machine m (λ d. TellsSet d (held.Machine now) text word b) (machine_told m now text word b s)

nothing_set : (text : List ℕ) (source : Source) → CanSet Empty text source → ⊥
nothing_set text TheTime h = h
nothing_set text (OfChip source) h = h
nothing_set text (OfMachine register) h = h

pub empty_set : (text : List ℕ) (word : ℕ) (d : Device) → Stands held.Empty d → TellsSet d held.Empty text word false
empty_set text word = on_empty (λ d. TellsSet d held.Empty text word false) (nothing_set text, tt)

-- ---- eval, tick, tock, and back to the start

module _ (c now : DrivenChip) (same : chip_of now ≡ chip_of c) where
  pub chip_eval : ((calls : List Call) → IsDriven c calls → IsDriven now (Eval ∷ calls)) → (d : Device) → Stands (held.Chip c) d → Stands (held.Chip now) (after_eval d)
  chip_eval h = on_chip c (λ d. Stands (held.Chip now) (after_eval d)) (λ calls driven fits evaluated. (sym same, h calls driven, fits, (Eval ∷ calls, refl)))

  pub chip_tick : ((calls : List Call) → IsDriven c calls → IsDriven now (Tick ∷ calls)) → (d : Device) → Stands (held.Chip c) d → Stands (held.Chip now) (after_tick d)
  chip_tick h = on_chip c (λ d. Stands (held.Chip now) (after_tick d)) (λ calls driven fits evaluated. (sym same, h calls driven, fits, (Tick ∷ calls, refl)))

  pub chip_tock : ((calls : List Call) → IsDriven c calls → IsDriven now (Tock ∷ calls)) → (d : Device) → Stands (held.Chip c) d → Stands (held.Chip now) (after_tock d)
  chip_tock h = on_chip c (λ d. Stands (held.Chip now) (after_tock d)) (λ calls driven fits evaluated. (sym same, h calls driven, fits, (Tock ∷ calls, refl)))

  pub chip_restart : IsDriven now (Eval ∷ []) → (d : Device) → Stands (held.Chip c) d → Stands (held.Chip now) (after_restart d)
  chip_restart h = on_chip c (λ d. Stands (held.Chip now) (after_restart d)) (λ calls driven fits evaluated. (sym same, h, fits, (Eval ∷ [], refl)))

pub machine_restart : (m : ScriptMachine) (d : Device) → Stands (held.Machine m) d → Stands (held.Machine m) (after_restart d)
machine_restart m = on_machine m (λ d. Stands (held.Machine m) (after_restart d)) refl

pub machine_eval : (m : ScriptMachine) (d : Device) → Stands (held.Machine m) d → Stands (held.Machine m) (after_eval d)
machine_eval m = on_machine m (λ d. Stands (held.Machine m) (after_eval d)) refl

pub machine_tick : (m now : ScriptMachine) → running_of now ≡ machines.after_tick (running_of m) → (d : Device) → Stands (held.Machine m) d → Stands (held.Machine now) (after_tick d)
machine_tick m now e = on_machine m (λ d. Stands (held.Machine now) (after_tick d)) (sym e)

pub machine_tock : (m now : ScriptMachine) → running_of now ≡ machines.after_tock (running_of m) → (d : Device) → Stands (held.Machine m) d → Stands (held.Machine now) (after_tock d)
machine_tock m now e = on_machine m (λ d. Stands (held.Machine now) (after_tock d)) (sym e)

-- ---- instruction memories

pub rom_of : (chip : LoadedChip) (calls : List Call) (block : ℕ) → HasMemory chip block → HasRom (Chip chip calls)
rom_of chip calls block m = record { chip = chip; calls = calls; is = refl; block = block; has = m.0; whole = m.1 }

pub no_rom : (chip : LoadedChip) (calls : List Call) → ((block : ℕ) → HasMemory chip block → ⊥) → HasRom (Chip chip calls) → ⊥
no_rom chip calls none rom =
    let e : Chip chip calls ≡ Chip rom.chip rom.calls = rom.is in
    let same : rom.chip ≡ chip = cc in
    none rom.block (subst (λ x. HasMemory x rom.block) same (rom.has, rom.whole))

pub empty_has_none : HasRom Empty → ⊥
empty_has_none rom = let e : Empty ≡ Chip rom.chip rom.calls = rom.is in cc

pub machine_has_none : (machine : machines.RunningMachine) → HasRom (Machine machine) → ⊥
machine_has_none machine rom = let e : Machine machine ≡ Chip rom.chip rom.calls = rom.is in cc

memory_told : (chip : LoadedChip) (calls : List Call) (r : Option ℕ) → MatchOption r ((block : ℕ) → HasMemory chip block → ⊥) (λ block. HasMemory chip block) → TellsMemory (Chip chip calls) (is_some r)
memory_told chip calls None none = no_rom chip calls none
memory_told chip calls (Some block) m = rom_of chip calls block m

pub chip_memory : (c : DrivenChip) (r : Option ℕ) → MatchOption r ((block : ℕ) → HasMemory (chip_of c) block → ⊥) (λ block. HasMemory (chip_of c) block) → (d : Device) → Stands (held.Chip c) d → TellsMemory d (is_some r)
chip_memory c r h = on_chip c (λ d. TellsMemory d (is_some r)) (λ calls driven fits evaluated. memory_told (chip_of c) calls r h)

abbrev pub Loaded : Device → code.Device → List ℕ → Type 0
Loaded d now image = (rom : HasRom d) × Stands now (with_image d rom image)

pub chip_loaded : (c now : DrivenChip) (block : ℕ) (image words : List ℕ) → chip_of now ≡ chip_of c → HasMemory (chip_of c) block → words ≡ whole_memory image → ((calls : List Call) → IsDriven c calls → IsDriven now (Load block 0 words ∷ calls)) → (d : Device) → Stands (held.Chip c) d → Loaded d (held.Chip now) image
unfolding rom_of
chip_loaded c now block image words same m e h = on_chip c (λ d. Loaded d (held.Chip now) image) (λ calls driven fits evaluated. (rom_of (chip_of c) calls block m, (sym same, subst (λ w. IsDriven now (Load block 0 w ∷ calls)) e (h calls driven), fits, evaluated)))

pub chip_not_loaded : (c : DrivenChip) → ((block : ℕ) → HasMemory (chip_of c) block → ⊥) → (d : Device) → Stands (held.Chip c) d → (HasRom d → ⊥) × Stands (held.Chip c) d
chip_not_loaded c none d s = (on_chip c (λ d. HasRom d → ⊥) (λ calls driven fits evaluated. no_rom (chip_of c) calls none) d s, s)

-- ---- values

pub chip_shows : (c : DrivenChip) (x : Value) (source : Source) → ((calls told : List Call) (v : ℕ → ℕ → Bool) → IsDriven c calls → Sees (chip_of c) calls told v → x ≡ value_of (Chip (chip_of c) calls) told v source) → (d : Device) (told : List Call) (v : ℕ → ℕ → Bool) → Stands (held.Chip c) d → SeesAll d told v → x ≡ value_of d told v source
chip_shows c x source h d told v s = on_chip c (λ d. SeesAll d told v → x ≡ value_of d told v source) (λ calls driven fits evaluated sees. h calls told v driven sees) d s

pub machine_shows : (m : ScriptMachine) (x : Value) (source : Source) → ((told : List Call) (v : ℕ → ℕ → Bool) → x ≡ value_of (Machine (running_of m)) told v source) → (d : Device) (told : List Call) (v : ℕ → ℕ → Bool) → Stands (held.Machine m) d → SeesAll d told v → x ≡ value_of d told v source
machine_shows m x source h d told v s = on_machine m (λ d. SeesAll d told v → x ≡ value_of d told v source) (λ sees. h told v) d s

pub empty_shows : (source : Source) (d : Device) (told : List Call) (v : ℕ → ℕ → Bool) → Stands held.Empty d → SeesAll d told v → Time 0 false ≡ value_of d told v source
empty_shows source d told v s = on_empty (λ d. SeesAll d told v → Time 0 false ≡ value_of d told v source) (λ sees. refl) d s

-- what can be seen of the device can be seen of the machine
pub machine_sees : (m : ScriptMachine) (probe : Probe) (d : Device) → Stands (held.Machine m) d → CanSee d probe → CanSee (Machine (running_of m)) probe
machine_sees m probe d s = on_machine m (λ d. CanSee d probe → CanSee (Machine (running_of m)) probe) (λ h. h) d s

-- what is found in the chip, or in the machine, is found in the device
pub chip_finds_all : (c : DrivenChip) (text : List ℕ) (result : Result (Option Probe) AllocError) → ((calls : List Call) → IfOk result (Finds (Chip (chip_of c) calls) text)) → (d : Device) → Stands (held.Chip c) d → IfOk result (Finds d text)
chip_finds_all c text result h = on_chip c (λ d. IfOk result (Finds d text)) (λ calls driven fits evaluated. h calls)

pub machine_finds : (m : ScriptMachine) (text : List ℕ) (found : Option Probe) → Finds (Machine (running_of m)) text found → (d : Device) → Stands (held.Machine m) d → Finds d text found
machine_finds m text found h = on_machine m (λ d. Finds d text found) h

abbrev pub IsSeen : Device → Type 0
IsSeen d = (told : List Call) × ((v : ℕ → ℕ → Bool) × SeesAll d told v)

pub chip_seen : (c : DrivenChip) → ((calls : List Call) → (v : ℕ → ℕ → Bool) × AreValues (chip_of c).net calls v) → (d : Device) → Stands (held.Chip c) d → IsSeen d
chip_seen c h = on_chip c IsSeen (λ calls driven fits evaluated. let v = h evaluated.0 in (evaluated.0, (v.0, record { last = evaluated.1; values = v.1 })))

pub machine_seen : (m : ScriptMachine) (d : Device) → Stands (held.Machine m) d → IsSeen d
machine_seen m = on_machine m IsSeen ([], ((λ i c. false), tt))

pub empty_seen : (d : Device) → Stands held.Empty d → IsSeen d
empty_seen = on_empty IsSeen ([], ((λ i c. false), tt))

pub other_seen : (x : code.Device) → ((c : DrivenChip) → x ≡ held.Chip c → ⊥) → (d : Device) → Stands x d → IsSeen d
other_seen held.Empty none = empty_seen
other_seen (held.Chip c) none = absurd (none c refl)
other_seen (held.Machine m) none = machine_seen m
