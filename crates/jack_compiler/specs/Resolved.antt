-- What a program with resolved names meets.
use Rattle.std.specs.Prelude.{◌≡◌, ◌<◌, ◌≤◌, ℕ, suc, ◌+◌, ◌^◌, ◌&&◌, Bool, nat_lt, nat_le, List, [], ◌∷◌, length, get_or, drop}
use Rattle.vm_link.specs.Faults.{sys_init}
use Rattle.jack_meaning.specs.Text.{Subroutine, Class, Program}
use Rattle.jack_meaning.specs.Meaning.{subroutine_at}
use Rattle.jack_core.specs.declared.program.Core.{Core}
use Rattle.jack_core.specs.Texts.{the_program, names_of}
use Rattle.jack_compiler.specs.Templates.{Numbers}
use Rattle.jack_compiler.specs.Fits.{scope_of, IsBody, IsClosed, TakesObject}
use Rattle.jack_compiler.specs.Lines.{ifs_in, whiles_in}
use Rattle.jack_compiler.specs.Files.{statics_before}

-- the class of a static: this one has it
abbrev pub is_own : List Class → ℕ → ℕ → Bool
is_own classes class k = nat_le (statics_before classes class) k && nat_lt k (statics_before classes (suc class))

-- What a subroutine of a class can name: each subroutine but `start`, and the statics of the class. (No number is given yet.)
abbrev pub named_in : Program → ℕ → Numbers
named_in program class = record {
  function = λ g. 0;
  static = λ k. 0;
  keeps = λ g. nat_lt 0 g && nat_lt g (length program.subroutines);
  holds = is_own program.classes class;
}

-- the classes of subroutines, in order of their numbers
abbrev pub AreInOrder : ℕ → List Subroutine → Type 0
AreInOrder class [] = Unit {0}
AreInOrder class (sub ∷ subs) = (class ≤ sub.class) × AreInOrder sub.class subs

-- A subroutine whose names are resolved: its class is there, its body is whole and names what is there, and its last statement is a `return`.
-- There is a bound on each count, which the readers see to.
pub record IsResolvedSubroutine (program : Program) (sub : Subroutine) : Type 0 where
  pub class : sub.class < length program.classes
  pub body : IsBody program.subroutines (named_in program sub.class)
      (scope_of sub) sub.kind sub.body
  pub closed : IsClosed sub.body
  pub takes : TakesObject sub.kind sub.arguments
  pub arguments : sub.arguments < 65536
  pub locals : sub.locals < 65536
  pub ifs : ifs_in sub.body < 2 ^ 32
  pub whiles : whiles_in sub.body < 2 ^ 32

-- A program whose names are resolved, with the names of its subroutines: `start` comes first, then those of each class in order of class; no
-- two have one name, and `Sys.init` is one of them, without arguments.
pub record IsResolved (program : Program) (names : List (List ℕ)) : Type 0 where
  pub each : (g : ℕ) → 0 < g → g < length program.subroutines
      → IsResolvedSubroutine program (subroutine_at program.subroutines g)
  pub order : AreInOrder 0 (drop 1 program.subroutines)
  pub statics : (k : ℕ)
      → statics_before program.classes (suc k) ≤ statics_before program.classes k + 65535
  pub named : length names ≡ length program.subroutines
  pub apart : (g h : ℕ) → g < length names → h < length names
      → get_or names g [] ≡ get_or names h [] → g ≡ h
  pub init : 0 < program.init
  pub init_there : program.init < length program.subroutines
  pub init_name : get_or names program.init [] ≡ sys_init
  pub init_arguments : (subroutine_at program.subroutines program.init).arguments ≡ 0

abbrev pub IsResolvedCore : Core → Type 0
IsResolvedCore core = IsResolved (the_program core) (names_of core)
