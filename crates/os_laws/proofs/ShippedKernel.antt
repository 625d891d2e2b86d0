-- The kernel is in the system's own classes.
use Rattle.std.proofs.Common.{◌≡◌, ℕ, List, [], ◌∷◌, ◌++◌, Option, Some, None, codes, map, refl, sym, ap, ◌∙◌, subst, append_assoc}
use Rattle.std.specs.Prelude.{if◌then◌else◌}
use Rattle.std.specs.Str.{bytes_eq}
use Rattle.jack_core.specs.declared.program.Core.{Core}
use Rattle.jack_tree.specs.Seen.{the_file}
use Rattle.jack_tree.specs.Syntax.{ClassFile, Subroutine, ClassVariables}
use Rattle.jack_names.specs.Numbers.{class_number, member_slots, type_number}
use Rattle.jack_names.specs.declared.scope.Declared.{Declared}
use Rattle.jack_names.specs.declared.scope.Slot.TheVariants as slot
use Rattle.name_table.specs.Names.{find_value}
use Rattle.jack_names.specs.Meaning.{program_meaning}
use Rattle.jack_names.specs.NameFaults.{IsWellNamed}
use Rattle.jack_os.specs.Routines.{multiply, divide, init, alloc, deAlloc}
use Rattle.jack_os.specs.System.{Texts, system, AreFilesOf, IsFileOf, added_to}
use Rattle.jack_os.specs.declared.shipped.TheConstants.{ARRAY, KEYBOARD, MATH, MEMORY, OUTPUT, SCREEN, STRING, SYS}
use Rattle.jack_os.proofs.SystemTexts.{seen_files}
use Rattle.os_laws.specs.Names.{statics_in, HasRoutine, IsShipped, HasKernel}
use Rattle.os_laws.specs.NameLaws.{ShippedLaw}
use Rattle.os_laws.proofs.Shipped.{memory_declares, math_declares, entered}

-- a file's class among the classes
record Among (file text : List ℕ) (cs : List ClassFile) : Type 0 where
  front : List ClassFile
  c : ClassFile
  back : List ClassFile
  shape : cs ≡ front ++ c ∷ back
  is : IsFileOf file text c

among : (pre : Texts) (file text : List ℕ) (post : Texts) (cs : List ClassFile) → AreFilesOf (pre ++ (file, text) ∷ post) cs → Among file text cs
among [] file text post [] h = absurd h
among [] file text post (c ∷ cs) h = record { front = []; c = c; back = cs; shape = refl; is = h.0 }
among (f ∷ pre) file text post [] h = absurd h
among (f ∷ pre) file text post (c ∷ cs) h = let r = among pre file text post cs h.1 in record { front = c ∷ r.front; c = r.c; back = r.back; shape = ap (λ l. c ∷ l) r.shape; is = r.is }

math_there : (os : List ClassFile) → AreFilesOf system os → Among (codes "Math.jack") MATH.now os
unfolding system
math_there os h = among ((codes "Array.jack", ARRAY.now) ∷ (codes "Keyboard.jack", KEYBOARD.now) ∷ []) (codes "Math.jack") MATH.now
    ((codes "Memory.jack", MEMORY.now) ∷ (codes "Output.jack", OUTPUT.now) ∷ (codes "Screen.jack", SCREEN.now) ∷ (codes "String.jack", STRING.now) ∷ (codes "Sys.jack", SYS.now) ∷ []) os h

memory_there : (os : List ClassFile) → AreFilesOf system os → Among (codes "Memory.jack") MEMORY.now os
unfolding system
memory_there os h = among ((codes "Array.jack", ARRAY.now) ∷ (codes "Keyboard.jack", KEYBOARD.now) ∷ (codes "Math.jack", MATH.now) ∷ []) (codes "Memory.jack") MEMORY.now
    ((codes "Output.jack", OUTPUT.now) ∷ (codes "Screen.jack", SCREEN.now) ∷ (codes "String.jack", STRING.now) ∷ (codes "Sys.jack", SYS.now) ∷ []) os h

module _ (core : Core) (s : IsShipped core) (file text class : List ℕ) (a : Among file text s.os) where
  abbrev routine : (before after : List Subroutine) (t : Subroutine) → a.is.0.name.text ≡ class → a.is.0.subroutines ++ added_to file ≡ before ++ t ∷ after → HasRoutine core class t
  routine before after t named has = record {
    own = s.own;
    front = a.front;
    c = a.c;
    back = a.back;
    before = before;
    after = after;
    program = s.program ∙ ap (program_meaning s.own) a.shape;
    well = subst (IsWellNamed s.own) a.shape s.well;
    named = ap (λ (f : ClassFile). f.class.name.text) a.is.2 ∙ named;
    has = ap (λ (f : ClassFile). f.class.subroutines) a.is.2 ∙ has;
  }

  -- what names stand for in the class
  abbrev numbers : List ℕ → Option ℕ
  numbers = class_number (s.own ++ (a.front ++ a.c ∷ a.back))

  abbrev earlier : ℕ
  earlier = statics_in (s.own ++ a.front)

  abbrev variable_in : List ClassVariables → List ℕ → Option Declared
  variable_in vs x = find_value x (member_slots numbers 0 earlier vs)

  as_read : (x : List ℕ) → variable_in a.c.class.variables x ≡ variable_in a.is.0.variables x
  as_read x = ap (λ vs. variable_in vs x) (ap (λ (f : ClassFile). f.class.variables) a.is.2)

module _ (core : Core) (s : IsShipped core) where
  abbrev in_math : Among (codes "Math.jack") MATH.now s.os
  in_math = math_there s.os s.system

  abbrev math : (before after : List Subroutine) (t : Subroutine) → in_math.is.0.subroutines ++ (multiply ∷ divide ∷ []) ≡ before ++ t ∷ after → HasRoutine core (codes "Math") t
  math before after t has = routine core s (codes "Math.jack") MATH.now (codes "Math") in_math before after t (sym (math_declares in_math.is.0 in_math.is.1).1) has

  math_no_sys : variable_in core s (codes "Math.jack") MATH.now (codes "Math") in_math in_math.c.class.variables (codes "Sys") ≡ None
  math_no_sys =
      as_read core s (codes "Math.jack") MATH.now (codes "Math") in_math (codes "Sys")
      ∙ ap (λ vs. variable_in core s (codes "Math.jack") MATH.now (codes "Math") in_math vs (codes "Sys")) (math_declares in_math.is.0 in_math.is.1).0

  abbrev in_memory : Among (codes "Memory.jack") MEMORY.now s.os
  in_memory = memory_there s.os s.system

  abbrev memory : (before after : List Subroutine) (t : Subroutine) → in_memory.is.0.subroutines ++ (init ∷ alloc ∷ deAlloc ∷ []) ≡ before ++ t ∷ after → HasRoutine core (codes "Memory") t
  memory before after t has = routine core s (codes "Memory.jack") MEMORY.now (codes "Memory") in_memory before after t (sym (memory_declares in_memory.is.0 in_memory.is.1).1) has

  abbrev first_static : ℕ
  first_static = earlier core s (codes "Memory.jack") MEMORY.now (codes "Memory") in_memory

  abbrev free_declared : Declared
  free_declared = record {
    slot = slot.Static first_static;
    class = type_number (numbers core s (codes "Memory.jack") MEMORY.now (codes "Memory") in_memory) (memory_declares in_memory.is.0 in_memory.is.1).0.v.type;
  }

  memory_variable : (x : List ℕ) → variable_in core s (codes "Memory.jack") MEMORY.now (codes "Memory") in_memory in_memory.c.class.variables x ≡ (if bytes_eq x (codes "free") then Some free_declared else None)
  memory_variable x =
      as_read core s (codes "Memory.jack") MEMORY.now (codes "Memory") in_memory x
      ∙ entered (numbers core s (codes "Memory.jack") MEMORY.now (codes "Memory") in_memory) first_static in_memory.is.0.variables (memory_declares in_memory.is.0 in_memory.is.1).0 x

has_kernel : (core : Core) (s : IsShipped core) → HasKernel core
has_kernel core s =
    let m = (in_math core s).is.0.subroutines in
    let e = (in_memory core s).is.0.subroutines in
    let f = memory_variable core s (codes "free") in
    record {
      multiply = math core s m (divide ∷ []) multiply refl;
      divide = math core s (m ++ multiply ∷ []) [] divide (sym (append_assoc m (multiply ∷ []) (divide ∷ [])));
      divide_errs = math_no_sys core s;
      free = first_static core s;
      init = memory core s e (alloc ∷ deAlloc ∷ []) init refl;
      init_free = (free_declared core s, f, refl);
      alloc = memory core s (e ++ init ∷ []) (deAlloc ∷ []) alloc (sym (append_assoc e (init ∷ []) (alloc ∷ deAlloc ∷ [])));
      alloc_free = (free_declared core s, f, refl);
      alloc_errs = memory_variable core s (codes "Sys");
      deAlloc = memory core s (e ++ init ∷ alloc ∷ []) [] deAlloc (sym (append_assoc e (init ∷ alloc ∷ []) (deAlloc ∷ [])));
      deAlloc_free = (free_declared core s, f, refl);
    }

pub law : ShippedLaw
law = record {
  resolved = λ core own os program well shipped. record { own = map the_file own; os = map the_file os; program = program; well = well; system = seen_files system os shipped };
  kernel = has_kernel;
}
