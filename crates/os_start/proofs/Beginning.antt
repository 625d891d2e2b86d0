-- The path from the start of a program to Main.main.
use Rattle.std.proofs.Common.{◌≡◌, inl, inr, ℕ, ◌+◌, ◌<◌, true, List, [], ◌∷◌, length, Some, codes, refl, sym, ap, ◌∙◌, subst, arith}
use Rattle.std.specs.Prelude.{replicate, slice_index}
use Rattle.std.proofs.lemmas.Bool.{cases_lt}
use Rattle.std.proofs.lemmas.List.{get_or_past, length-replicate}
use Rattle.word16.specs.Memory.{heap_and_screen_size}
use Rattle.simulation.specs.System.{Listening, run_of}
use Rattle.jack_core.specs.declared.program.Core.{Core}
use Rattle.jack_core.specs.Texts.{the_program, the_subroutines}
use Rattle.jack_meaning.specs.Text.{Open, Do, Text, End, Next, Function, Subroutine, Program}
use Rattle.jack_meaning.specs.Meaning.{Frame, State, subroutine_at, new_frame, start, start_text, statics_of}
use Rattle.jack_meaning.specs.StackWords.{stack_words, standing_first}
use Rattle.jack_meaning.specs.Level.{meaning_of, IsTame, run}
use Rattle.os_laws.specs.Names.{IsShipped}
use Rattle.os_laws.proofs.Basics.{enters, some_is}
use Rattle.os_laws.proofs.Runs.{over}
use Rattle.os_functions.specs.Calls.{routine_number, HasStatics}
use Rattle.os_functions.specs.StartLaws.{IsAtMain}
use Rattle.os_functions.proofs.Named.{numbered, number_of, own_number}
use Rattle.os_functions.proofs.Pieces.{in_call}
use Rattle.os_functions.proofs.Quiet.{one}
use Rattle.os_functions.proofs.StartFacts.{law}
use Rattle.os_functions.proofs.StartMade.{at}
use Rattle.os_functions.proofs.StartRoutines.{is_start}
use Rattle.os_functions.proofs.StartTexts.{start_body}
use Rattle.os_functions.proofs.Texts.{routine}
use Rattle.os_start.proofs.Plain.{is_plain}
use Rattle.os_start.proofs.Calm.{Calm, Path, path_one, path_then, path_passes, path_quiet, calm_fits}
use Rattle.os_start.proofs.Starting.{sc, wc, main_waits, started}

some_index : (xs : List ℕ) (k : ℕ) → slice_index xs k ≡ 65535 → k < length xs
some_index xs k e = elim (cases_lt k (length xs)) [ inl l ↦ l | inr m ↦ absurd (let z = get_or_past xs k 0 m in omega (arith, e, z)) ]

module _ {core : Core} (p : IsShipped core) (h : HasStatics p) where
  abbrev program : Program
  program = the_program core

  abbrev subs : List Subroutine
  subs = the_subroutines core

  abbrev pub at_begin : Text
  at_begin =
      start_body (number_of core p (codes "Memory") (codes "init")) (number_of core p (codes "Math") (codes "init")) (number_of core p (codes "Screen") (codes "init")) (number_of core p (codes "Output") (codes "init"))
      (number_of core p (codes "Keyboard") (codes "init")) (number_of core p (codes "Main") (codes "main")) (number_of core p (codes "Sys") (codes "halt"))

  pub has_start : subroutine_at subs program.init ≡ routine Function (own_number core p 7) 0 0 at_begin
  has_start = ap (subroutine_at subs) (ap (λ (q : Program). q.init) p.program) ∙ is_start core p

  -- for every list of statics and of words
  module _ (zs zw : List ℕ) (long : length zw ≡ 22528) (there : h.black < length zs) where
    abbrev start_waits : Frame
    start_waits = (in_call 0 0 zs zw (Next (Do 1 Open) End) [] []).frame

    abbrev begin : State
    begin = over [] (in_call 0 0 zs zw (start_text program.init) [] [])

    abbrev in_init : State
    in_init = at subs (start_waits ∷ []) program.init at_begin zs zw

    abbrev last : ℕ → State
    last main = record { frames = new_frame subs main [] ∷ main_waits p h zs zw long there start_waits [] (omega arith) program.init (ap is_plain has_start) ∷ start_waits ∷ []; statics = sc p h zs zw long there; words = wc p h zs zw long there }

    calm : Calm subs begin
    calm = record { room = omega arith; plain = refl }

    entered : Path subs 1 begin in_init
    entered =
        subst (λ (z : Frame). Path subs 1 begin (record { frames = z ∷ start_waits ∷ []; statics = zs; words = zw })) (enters subs program.init _ [] has_start)
        (path_one subs begin (record { frames = new_frame subs program.init [] ∷ start_waits ∷ []; statics = zs; words = zw }) calm
        (one subs begin (record { frames = new_frame subs program.init [] ∷ start_waits ∷ []; statics = zs; words = zw }) refl))

    whole : Path subs 1735 begin (last (number_of core p (codes "Main") (codes "main")))
    whole = path_then subs 1 1734 begin in_init (last (number_of core p (codes "Main") (codes "main"))) entered (started p h zs zw long there start_waits [] (omega arith) program.init (ap is_plain has_start))

    abbrev main : Subroutine
    main = subroutine_at subs (number_of core p (codes "Main") (codes "main"))

    -- the state at Main.main, and what its frames want of the stack
    pub record Begun : Type 0 where
      pub state : State
      pub path : Path subs 1735 begin state
      pub top : stack_words state.frames ≡ 10 + main.locals + standing_first main.body

    pub begun : Begun
    begun = record { state = last (number_of core p (codes "Main") (codes "main")); path = whole; top = let z = length-replicate {A = ℕ} main.locals 0 in omega (arith, z) }

  -- the state that the laws of the start speak of
  at_start : (s : State) × IsAtMain p h s × ((keys : List ℕ) → run program keys 1735 ≡ Some (record { state = s; keys = keys }))
  at_start = law.start p h

  pub there : h.black < length {A = ℕ} (replicate (statics_of program) 0)
  there =
      let a = at_start.1 in
      let in_state = some_index (at_start.0).statics h.black a.black in
      omega (arith, in_state, a.statics, length-replicate {A = ℕ} (statics_of program) 0)

  pub long : length {A = ℕ} (replicate heap_and_screen_size 0) ≡ 22528
  long = length-replicate {A = ℕ} heap_and_screen_size 0

  pub begins : Begun (replicate (statics_of program) 0) (replicate heap_and_screen_size 0) long there
  begins = begun (replicate (statics_of program) 0) (replicate heap_and_screen_size 0) long there

-- what is said of it by these names
pub record BegunAt {core : Core} (p : IsShipped core) (h : HasStatics p) : Type 0 where
  pub state : State
  pub at : IsAtMain p h state
  pub path : Path (the_subroutines core) 1735 (start (the_program core)) state
  pub top : stack_words state.frames ≡ 10 + (subroutine_at (the_subroutines core) (routine_number p (codes "Main") (codes "main"))).locals + standing_first (subroutine_at (the_subroutines core) (routine_number p (codes "Main") (codes "main"))).body

pub begun_at : {core : Core} (p : IsShipped core) (h : HasStatics p) → BegunAt p h
begun_at {core} p h =
    let b = begins p h in
    let (s, at, leads) = law.start p h in
    let q = path_quiet (the_subroutines core) 1735 (start (the_program core)) b.state b.path in
    let same : s ≡ b.state = ap (λ (l : Listening State). l.state) (some_is _ _ (sym (leads []) ∙ q.leads [])) in
    record {
      state = b.state;
      at = subst (λ (z : State). IsAtMain p h z) same at;
      path = b.path;
      top = b.top ∙ ap (λ (g : ℕ). 10 + (subroutine_at (the_subroutines core) g).locals + standing_first (subroutine_at (the_subroutines core) g).body) (sym (numbered core p (codes "Main") (codes "main")));
    }

-- its steps are tame
pub tame_before : {core : Core} (p : IsShipped core) (h : HasStatics p) (keys : List ℕ) → IsTame (the_program core) keys 1734
tame_before {core} p h keys j near =
    let subs = the_subroutines core in
    let b = begun_at p h in
    let r = path_passes subs 1735 (start (the_program core)) b.state b.path j (omega (arith, near)) in
    (record { state = r.state; keys = keys }, r.quiet.leads keys, calm_fits subs r.state r.calm)

pub tame_to : {core : Core} (p : IsShipped core) (h : HasStatics p) → (meaning_of (the_subroutines core)).fits (begun_at p h).state ≡ true → (keys : List ℕ) → IsTame (the_program core) keys 1735
tame_to {core} p h fits keys j near =
    let subs = the_subroutines core in
    let b = begun_at p h in
    elim (cases_lt j 1735) [
      | inl less ↦ tame_before p h keys j (omega (arith, less))
      | inr more ↦ (
          let here : j ≡ 1735 = omega (arith, near, more) in
          let q = path_quiet subs 1735 (start (the_program core)) b.state b.path in
          let P : ℕ → Type 0 = λ k. (l : Listening State) × (run_of (meaning_of subs) (start (the_program core)) keys k ≡ Some l) × ((meaning_of subs).fits l.state ≡ true) in
          subst P (sym here) (record { state = b.state; keys = keys }, q.leads keys, fits))
    ]
