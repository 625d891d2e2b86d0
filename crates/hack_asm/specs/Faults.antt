-- Why a text is not assembled.
use Rattle.std.specs.Prelude.{◌≡◌, ℕ, List, Option, Some, None, Result, Ok, Err}
use Rattle.scan_text.specs.declared.Place.{Place}
use Rattle.grammar.specs.declared.Fault.{Fault}
use Rattle.grammar.specs.declared.Fault.TheVariants as fault
use Rattle.grammar.specs.declared.ReadError.{ReadError}
use Rattle.grammar.specs.declared.ReadError.TheVariants as errors
use Rattle.hack_asm.specs.declared.fault.AsmFault.{AsmFault}
use Rattle.hack_asm.specs.declared.fault.AsmFault.TheVariants as asm

pub data Wrong : Type 0 where
  Grammar : Place → Wrong
  Range : Place → ℕ → Wrong
  LabelTwice : List ℕ → Place → Wrong
  TooLarge : ℕ → Wrong
  TooManyVariables : ℕ → Wrong

-- What a fault of the code says; want of memory says nothing of the text.
abbrev pub wrong_of : AsmFault → Option Wrong
wrong_of (asm.Grammar at) = Some (Grammar at)
wrong_of (asm.Range at v) = Some (Range at v)
wrong_of (asm.LabelTwice name at) = Some (LabelTwice name.items at)
wrong_of (asm.TooLarge w) = Some (TooLarge w)
wrong_of (asm.TooManyVariables n) = Some (TooManyVariables n)
wrong_of asm.Memory = None

-- a fault of the grammar's readers
abbrev pub wrong : Fault → Wrong
wrong (fault.Grammar at) = Grammar at
wrong (fault.Range at v) = Range at v

abbrev pub asm_fault : ReadError → AsmFault
asm_fault errors.Memory = asm.Memory
asm_fault (errors.Fault (fault.Grammar at)) = asm.Grammar at
asm_fault (errors.Fault (fault.Range at v)) = asm.Range at v

-- the result is this error, where there is one
abbrev pub IsErrorOf : {Y : Type 0} → Option Wrong → Result Y Wrong → Type 0
IsErrorOf None r = Unit {0}
IsErrorOf (Some w) r = r ≡ Err w

-- what a function returned, seen by view, is what a definition gives, unless memory ran out
abbrev pub Yields : {X Y : Type 0} → (X → Y) → Result X AsmFault → Result Y Wrong → Type 0
Yields view (Ok x) r = r ≡ Ok (view x)
Yields view (Err e) r = IsErrorOf (wrong_of e) r
