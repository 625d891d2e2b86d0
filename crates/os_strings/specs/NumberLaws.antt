-- Strings and numbers (book, chapter 12).
use Rattle.std.specs.Prelude.{ℕ, List}
use Rattle.jack_core.specs.declared.program.Core.{Core}
use Rattle.jack_meaning.specs.Meaning.{State}
use Rattle.os_laws.specs.Names.{IsShipped}
use Rattle.os_strings.specs.SettingLaws.{SetLaw, SetErrorLaw}
use Rattle.os_strings.specs.ValueLaws.{ValueLaw}

pub record NumberLaws : Type 0 where
  pub value : {core : Core} (p : IsShipped core) (s : State) (o : ℕ) (text : List ℕ) (room : ℕ)
      → ValueLaw p s o text room
  pub set : {core : Core} (p : IsShipped core) (s : State) (o : ℕ) (text : List ℕ) (room : ℕ)
      → SetLaw p s o text room
  pub set_error : {core : Core} (p : IsShipped core) (s : State) (o : ℕ) (text : List ℕ) (room : ℕ)
      → SetErrorLaw p s o text room
