-- What the items of an output list stand for, and where a chip comes from, is kept by what commands do to a device.
use Rattle.std.proofs.Common.{ℕ, List, [], ◌∷◌, Option, Some, None, Vec, Global, refl, sym, subst, inl, inr}
use Rattle.std.specs.Prelude.{IfSome}
use Rattle.gate_sim.specs.Calls.{Call}
use Rattle.gate_sim.specs.Calls.Call.{Load, Eval, Tick, Tock}
use Rattle.script_device.specs.Driven.{set_source}
use Rattle.script_device.specs.Directory.{LoadedChip}
use Rattle.script_parser.specs.declared.tree.Item.{Item}
use Rattle.script_device.specs.declared.device.Device as code
use Rattle.tst_runner.specs.declared.standing.State.{State}
use Rattle.script_device.specs.Machines.{RunningMachine}
use Rattle.script_device.specs.Machines as machines
use Rattle.script_device.specs.Devices.{Device, HasRom, IsChip, Source, Denotes, after_set, after_eval, after_restart, after_tick, after_tock, whole_memory, with_image}
use Rattle.script_device.specs.Devices.Device.{Empty, Chip, Machine}
use Rattle.script_device.specs.Devices.Source.{TheTime, OfChip, OfMachine}
use Rattle.tst_runner.specs.declared.lines.Column.{Column}
use Rattle.tst_runner.specs.Inner.Columns.{AreColumns}
use Rattle.tst_runner.specs.Setting.{Setting}
use Rattle.tst_runner.specs.Standing.{Standing}
use Rattle.script_device.specs.Running.{Stands, probe_source}
use Rattle.tst_runner.specs.Inner.States.{IsDevice, IsFrom, IsState}

-- what a text stands for it stands for afterwards
abbrev pub Keeps : Device → Device → Type 0
Keeps d d' = (text : List ℕ) (source : Source) → Denotes d text source → Denotes d' text source

Keeps-chip : (chip : LoadedChip) (calls calls' : List Call) → Keeps (Chip chip calls) (Chip chip calls')
Keeps-chip chip calls calls' text TheTime h = h
Keeps-chip chip calls calls' text (OfChip source) h = h
Keeps-chip chip calls calls' text (OfMachine register) h = h

Keeps-machine : (machine machine' : RunningMachine) → Keeps (Machine machine) (Machine machine')
Keeps-machine machine machine' text TheTime h = h
Keeps-machine machine machine' text (OfChip source) h = h
Keeps-machine machine machine' text (OfMachine register) h = h

pub Keeps-set : (d : Device) (source : Source) (word : ℕ) → Keeps d (after_set d source word)
Keeps-set Empty source word text meant h = h
Keeps-set (Chip chip calls) TheTime word text meant h = h
Keeps-set (Chip chip calls) (OfChip source) word text meant h = Keeps-chip chip calls (set_source chip.net.nodes source word calls) text meant h
Keeps-set (Chip chip calls) (OfMachine register) word text meant h = h
Keeps-set (Machine machine) TheTime word text meant h = h
Keeps-set (Machine machine) (OfChip source) word text meant h = h
Keeps-set (Machine machine) (OfMachine register) word text meant h = Keeps-machine machine (machines.after_set machine register word) text meant h

pub Keeps-eval : (d : Device) → Keeps d (after_eval d)
Keeps-eval Empty text meant h = h
Keeps-eval (Chip chip calls) text meant h = Keeps-chip chip calls (Eval ∷ calls) text meant h
Keeps-eval (Machine machine) text meant h = h

pub Keeps-tick : (d : Device) → Keeps d (after_tick d)
Keeps-tick Empty text meant h = h
Keeps-tick (Chip chip calls) text meant h = Keeps-chip chip calls (Tick ∷ calls) text meant h
Keeps-tick (Machine machine) text meant h = Keeps-machine machine (machines.after_tick machine) text meant h

pub Keeps-tock : (d : Device) → Keeps d (after_tock d)
Keeps-tock Empty text meant h = h
Keeps-tock (Chip chip calls) text meant h = Keeps-chip chip calls (Tock ∷ calls) text meant h
Keeps-tock (Machine machine) text meant h = Keeps-machine machine (machines.after_tock machine) text meant h

pub Keeps-image : (d : Device) (rom : HasRom d) (image : List ℕ) → Keeps d (with_image d rom image)
Keeps-image d rom image text meant h =
    let P : Device → Type 0 = λ x. Denotes x text meant in
    Keeps-chip rom.chip rom.calls (Load rom.block 0 (whole_memory image) ∷ rom.calls) text meant (subst P rom.is h)

pub AreColumns-kept : (d d' : Device) → Keeps d d' → (items : List Item) (columns : List Column) → AreColumns d items columns → AreColumns d' items columns
AreColumns-kept d d' keeps [] [] h = tt
AreColumns-kept d d' keeps [] (column ∷ columns) h = absurd h
AreColumns-kept d d' keeps (item ∷ items) [] h = absurd h
AreColumns-kept d d' keeps (item ∷ items) (column ∷ columns) h = ((h.0.0, keeps item.variable.text (probe_source column.probe) h.0.1), AreColumns-kept d d' keeps items columns h.1)

-- ---- where a chip comes from

-- a chip that is driven stays the one that a file gives
abbrev pub Stays : Device → Device → Type 0
Stays d d' = (setting : Setting) (file : List ℕ) → IsFrom setting file d → IsFrom setting file d'

pub Stays-set : (d : Device) (source : Source) (word : ℕ) → Stays d (after_set d source word)
Stays-set Empty source word setting file h = h
Stays-set (Chip chip calls) TheTime word setting file h = h
Stays-set (Chip chip calls) (OfChip source) word setting file h = h
Stays-set (Chip chip calls) (OfMachine register) word setting file h = h
Stays-set (Machine machine) TheTime word setting file h = h
Stays-set (Machine machine) (OfChip source) word setting file h = h
Stays-set (Machine machine) (OfMachine register) word setting file h = h

pub Stays-eval : (d : Device) → Stays d (after_eval d)
Stays-eval Empty setting file h = h
Stays-eval (Chip chip calls) setting file h = h
Stays-eval (Machine machine) setting file h = h

pub Stays-tick : (d : Device) → Stays d (after_tick d)
Stays-tick Empty setting file h = h
Stays-tick (Chip chip calls) setting file h = h
Stays-tick (Machine machine) setting file h = h

pub Stays-tock : (d : Device) → Stays d (after_tock d)
Stays-tock Empty setting file h = h
Stays-tock (Chip chip calls) setting file h = h
Stays-tock (Machine machine) setting file h = h

pub Stays-image : (d : Device) (rom : HasRom d) (image : List ℕ) → Stays d (with_image d rom image)
Stays-image d rom image setting file h = subst (IsFrom setting file) rom.is h

pub Stays-restart : (d : Device) → Stays d (after_restart d)
Stays-restart Empty setting file h = h
Stays-restart (Chip chip calls) setting file h = h
Stays-restart (Machine machine) setting file h = h

pub from_still : (loaded : Option (Vec ℕ Global)) (setting : Setting) (d d' : Device) → Stays d d' → IfSome loaded (λ file. IsFrom setting file.items d) → IfSome loaded (λ file. IsFrom setting file.items d')
from_still None setting d d' stays h = h
from_still (Some file) setting d d' stays h = stays setting file.items h

-- the device alone has changed
pub IsState-device : (setting : Setting) (state : State) (s : Standing) (device : code.Device) (d : Device) → IsState setting state s → Keeps s.device d → Stays s.device d → Stands device d
    → IsState setting (record state { device = device }) (record s { device = d })
IsState-device setting state s device d h keeps stays stands = record {
  device = stands;
  loaded = from_still state.loaded setting s.device d stays h.loaded;
  columns = AreColumns-kept s.device d keeps s.items state.columns.items h.columns;
  compared = h.compared;
  lines = h.lines;
}

-- ---- a load

-- a device that a file gives is from it
pub from_loaded : (setting : Setting) (file : List ℕ) (d : Device) → IsDevice setting file d → IsFrom setting file d
from_loaded setting file d (inl h) = subst (IsFrom setting file) (sym h.2) h.1
from_loaded setting file d (inr h) = subst (IsFrom setting file) (sym h.1.2) tt

-- what a file gave, put back to its start, is what it gives
pub device_again : (setting : Setting) (file : List ℕ) (d : Device) → IsChip d → IsFrom setting file d → IsDevice setting file (after_restart d)
device_again setting file Empty chip h = absurd chip
device_again setting file (Chip chip calls) is h = inl (chip, h, refl)
device_again setting file (Machine machine) chip h = absurd chip
