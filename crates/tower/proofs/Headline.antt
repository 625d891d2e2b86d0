-- The layers from the program's meaning down to the computer are one layer.
use Rattle.std.proofs.Common.{◌≡◌, ℕ, suc, ◌+◌, ◌-◌, true, List, refl, sym, subst, ◌∙◌, arith}
use Rattle.std.specs.Prelude.{Some}
use Rattle.hack_isa.specs.Machine.{Machine, machine_at}
use Rattle.hack_isa.specs.Machine as hack
use Rattle.simulation.specs.System.{System, IsKey, Listening, Tame}
use Rattle.simulation.specs.Trace.{steps, heard_keys}
use Rattle.simulation.specs.Headline.{CarriesRun}
use Rattle.simulation.specs.Layers.{Simulates, Starts, Through}
use Rattle.simulation.proofs.Compose.{opens, through}
use Rattle.simulation.proofs.Following.{following, meeting}
use Rattle.simulation.proofs.Runs.{some_is}
use Rattle.vm_templates.specs.Budgets.{most_steps}
use Rattle.image_map.specs.Map.{Map}
use Rattle.image_map.specs.Computer.{hack_system, endless_loop, run_trace}
use Rattle.vm_templates.proofs.Loop.{loops_idle}
use Rattle.vm_link.specs.declared.linked.Linked.{Linked}
use Rattle.vm_machine.specs.State.{State as VmState}
use Rattle.vm_machine.specs.Step.{start as vm_start}
use Rattle.vm_machine.specs.Level.{vm_system, vm_cost}
use Rattle.vm_translator.specs.Mapping.{location}
use Rattle.vm_translator.specs.Related.{StandsFor}
use Rattle.vm_translator.specs.Translated.{IsTranslated}
use Rattle.jack_meaning.specs.Text.{Program}
use Rattle.jack_meaning.specs.Meaning.{State, start}
use Rattle.jack_meaning.specs.Level.{meaning_of}
use Rattle.jack_meaning.proofs.Deaf.{law}
use Rattle.jack_compiler.specs.Templates.{Numbers}
use Rattle.jack_meaning.specs.Gap.{gap}
use Rattle.jack_compiler.specs.Fits.{IsFit}
use Rattle.jack_compiler.specs.Match.{IsCodeOf, Match}
use Rattle.jack_compiler.proofs.Starts.{simulation}
use Rattle.tower.specs.Headline.{FollowsWithin, HeadlineLaw, StandsBehind, BehindLaw}

module _ (program : Program) (numbers : Numbers) (linked : Linked) (depth most_locals : ℕ) (image : List ℕ) (map : Map)
    (fit : IsFit program numbers depth most_locals) (code : IsCodeOf program numbers linked) (translated : IsTranslated linked image map endless_loop) where
  abbrev meaning : System State
  meaning = meaning_of program.subroutines

  abbrev computer : System Machine
  computer = hack_system image map endless_loop

  abbrev bound : State → ℕ
  bound s = gap depth most_locals - 16

  abbrev Matches : State → VmState → Type 0
  Matches = Match program numbers linked depth

  abbrev StandsAt : VmState → Machine → Type 0
  StandsAt = StandsFor (location linked) linked

  above : Simulates meaning (vm_system linked) (vm_cost most_steps linked) Matches bound
  above = simulation.steps program numbers linked depth most_locals fit code

  begun : Matches (start program) vm_start
  begun = simulation.starts program numbers linked depth most_locals fit code

  layer : Simulates meaning computer (λ s. 1) (Through Matches StandsAt) bound
  layer = through meaning (vm_system linked) computer (vm_cost most_steps linked) (λ s. 1) Matches StandsAt translated.stops translated.steps bound above

  begins : meaning.fits (start program) ≡ true → Starts meaning computer (λ s. 1) (Through Matches StandsAt) (start program) 16 hack.start
  begins fits = record {
    point = translated.starts.point ∙ above.point (start program) vm_start begun fits;
    opens = opens meaning (vm_system linked) computer (vm_cost most_steps linked) (λ s. 1) Matches StandsAt translated.stops translated.steps bound (start program) vm_start above begun fits 16 hack.start translated.starts.opens;
  }

  carries : (keys : ℕ → ℕ) → ((c : ℕ) → IsKey (keys c)) → (until : ℕ) → CarriesRun meaning (start program) computer (λ s. 1) (Through Matches StandsAt) bound (gap depth most_locals) until keys (machine_at image keys)
  carries keys words until = record {
    laws = law.level program;
    low_laws = loops_idle image map endless_loop translated.ends;
    layer = layer;
    begins = begins;
    key_words = words;
    runs = λ c near. refl;
    small = λ u. omega arith;
    paid = λ l. omega arith;
    still = λ l l' key h e. omega arith;
  }

  pub run_follows : (keys : ℕ → ℕ) → ((c : ℕ) → IsKey (keys c)) → (n : ℕ) → FollowsWithin program (gap depth most_locals) image map keys n
  run_follows keys words n =
      following meaning (start program) computer (λ s. 1) (Through Matches StandsAt) bound (gap depth most_locals) (n + gap depth most_locals) keys (machine_at image keys) (carries keys words (n + gap depth most_locals)) n (omega arith)

  pub stands_behind : (keys : ℕ → ℕ) → ((c : ℕ) → IsKey (keys c)) → (n : ℕ) → computer.commits (machine_at image keys n) ≡ true
      → Tame meaning (start program) (heard_keys (run_trace image map keys) (suc n)) (steps (run_trace image map keys) (suc n)) → StandsBehind program numbers linked depth image map keys (suc n)
  stands_behind keys words n now tame =
      let m = meeting meaning (start program) computer (λ s. 1) (Through Matches StandsAt) bound (gap depth most_locals) (suc n) keys (machine_at image keys) (carries keys words (suc n)) n (omega arith) now tame in
      let last = tame (steps (run_trace image map keys) (suc n)) (omega arith) in
      let same : last.0 ≡ m.after = some_is last.0 m.after (sym {b = Some last.0} last.1 ∙ m.run) in
      record { after = m.after; run = m.run; fits = subst (λ (l : Listening State). meaning.fits l.state ≡ true) same last.2; between = m.met.0; matches = m.met.1; stands = m.met.2 }

pub headline : HeadlineLaw
headline program numbers linked depth most_locals image map fit code translated = run_follows program numbers linked depth most_locals image map fit code translated

pub behind : BehindLaw
behind program numbers linked depth most_locals image map fit code translated keys words n now tame = stands_behind program numbers linked depth most_locals image map fit code translated keys words n now tame
