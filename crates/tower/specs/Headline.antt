-- What the computer with the image of a program does: it follows the program's meaning, cycle by cycle.
use Rattle.std.specs.Prelude.{◌≡◌, ℕ, suc, true, List, Some}
use Rattle.hack_isa.specs.Machine.{machine_at}
use Rattle.image_map.specs.Map.{Map}
use Rattle.image_map.specs.Computer.{endless_loop, run_trace, run_word}
use Rattle.simulation.specs.System.{IsKey, Listening, run_of, Tame}
use Rattle.simulation.specs.Trace.{steps, heard_keys}
use Rattle.simulation.specs.Headline.{Follows}
use Rattle.vm_link.specs.declared.linked.Linked.{Linked}
use Rattle.vm_machine.specs.State.{State as VmState}
use Rattle.vm_translator.specs.Mapping.{location}
use Rattle.vm_translator.specs.Related.{StandsFor}
use Rattle.vm_translator.specs.Translated.{IsTranslated}
use Rattle.jack_meaning.specs.Text.{Program}
use Rattle.jack_meaning.specs.Meaning.{State, start}
use Rattle.jack_meaning.specs.Level.{meaning_of}
use Rattle.jack_compiler.specs.Templates.{Numbers}
use Rattle.jack_meaning.specs.Gap.{gap, IsGap}
use Rattle.jack_compiler.specs.Fits.{IsFit}
use Rattle.jack_compiler.specs.Match.{IsCodeOf, Match}

-- At cycle n the run of this image and map agrees with the meaning of the program, as far as that is tame. It makes the meaning's next
-- tame step within this number of cycles.
abbrev pub FollowsWithin : Program → ℕ → List ℕ → Map → (ℕ → ℕ) → ℕ → Type 0
FollowsWithin program most image map keys n =
    Follows (meaning_of program.subroutines) (start program) (run_trace image map keys) (run_word image keys) most n

-- The same, within the gap of the program.
abbrev pub RunFollows : Program → List ℕ → Map → (ℕ → ℕ) → ℕ → Type 0
RunFollows program image map keys n = (most : ℕ) × IsGap program most × FollowsWithin program most image map keys n

-- Let linked code be that of a program with resolved names, and let an image and its map do what that code does. Then the computer
-- with this image follows the program's meaning, at each cycle and under all keys.
abbrev pub HeadlineLaw : Type 0
HeadlineLaw = (program : Program) (numbers : Numbers) (linked : Linked) (depth most_locals : ℕ) (image : List ℕ) (map : Map)
    → IsFit program numbers depth most_locals → IsCodeOf program numbers linked → IsTranslated linked image map endless_loop
    → (keys : ℕ → ℕ) → ((c : ℕ) → IsKey (keys c)) → (n : ℕ) → FollowsWithin program (gap depth most_locals) image map keys n

-- At cycle n the meaning has come, over the keys heard, to a state that the computer holds: by way of a state of the virtual machine.
pub record StandsBehind (program : Program) (numbers : Numbers) (linked : Linked) (depth : ℕ) (image : List ℕ) (map : Map) (keys : ℕ → ℕ) (n : ℕ) : Type 0 where
  pub after : Listening State
  pub run : run_of (meaning_of program.subroutines) (start program)
      (heard_keys (run_trace image map keys) n) (steps (run_trace image map keys) n) ≡ Some after
  pub fits : (meaning_of program.subroutines).fits after.state ≡ true
  pub between : VmState
  pub matches : Match program numbers linked depth after.state between
  pub stands : StandsFor (location linked) linked between (machine_at image keys n)

-- So it is just after each commit, as long as the meaning is tame up to there.
abbrev pub BehindLaw : Type 0
BehindLaw = (program : Program) (numbers : Numbers) (linked : Linked) (depth most_locals : ℕ) (image : List ℕ) (map : Map)
    → IsFit program numbers depth most_locals → IsCodeOf program numbers linked → IsTranslated linked image map endless_loop
    → (keys : ℕ → ℕ) → ((c : ℕ) → IsKey (keys c)) → (n : ℕ) → (run_trace image map keys).commits n ≡ true
    → Tame (meaning_of program.subroutines) (start program) (heard_keys (run_trace image map keys) (suc n)) (steps (run_trace image map keys) (suc n))
    → StandsBehind program numbers linked depth image map keys (suc n)
