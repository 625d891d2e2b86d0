-- A step of the machine is one more turn of its history.
use Rattle.std.proofs.lemmas.List.Sums.{sum_by-cons}
use Rattle.std.proofs.Common.{◌≡◌, ℕ, List, [], ◌∷◌, ◌++◌, map, refl, sym, ap, ◌∙◌, subst, arith}
use Rattle.std.specs.Prelude.{sum_by, replicate}
use Rattle.machine_io.specs.History.{Turn, turn}
use Rattle.machine_io.specs.declared.machine.Moved.{Moved}
use Rattle.machine_io.specs.declared.machine.Stray.TheVariants as Why
use Rattle.jack_meaning.specs.Text.{Subroutine}
use Rattle.jack_meaning.specs.Meaning.{Frame, State, start}
use Rattle.jack_core.specs.Texts.{the_subroutines, the_program, the_class}
use Rattle.jack_machine.specs.Whole.{jack_state, JackStep, IsTurn, Leads, Stands}
use Rattle.jack_machine.specs.Machine.{start_frame}
use Rattle.jack_machine.specs.Frames.{the_frame, the_state}
use Rattle.jack_machine.specs.declared.frames.Frame.{Frame as FrameTree}
use Rattle.jack_machine.specs.declared.looking.Memory.{Memory}
use Rattle.jack_machine.specs.declared.jack.Jack.{Jack}
use Rattle.jack_core.specs.declared.program.Core.{Core}
use Rattle.jack_core.specs.declared.program.Class.{Class}

-- one more turn at the end of a history
leads_more : (subs : List Subroutine) (first s s' : State) (turns : List Turn) (t : Turn) → Leads subs first turns s → IsTurn subs s t s' → Leads subs first (turns ++ t ∷ []) s'
leads_more subs first s s' [] t e h = (s', subst (λ x. IsTurn subs x t s') e h, refl)
leads_more subs first s s' (u ∷ turns) t l h = (l.0, l.1, leads_more subs l.0 s s' turns t l.2 h)

turn_made : (key : ℕ) (old new : Jack) (answer : Moved) → JackStep key old answer new → IsTurn (the_subroutines old.core.now) (jack_state old) (turn key answer) (jack_state new)
turn_made key old new Moved.Acted h = h
turn_made key old new (Moved.Stray (Why.Address a)) h = h
turn_made key old new Moved.Done h = h
turn_made key old new (Moved.Full w) h = absurd h
turn_made key old new (Moved.Stray Why.Values) h = absurd h
turn_made key old new (Moved.Stray Why.Argument) h = absurd h
turn_made key old new (Moved.Stray Why.Local) h = absurd h
turn_made key old new (Moved.Stray Why.Code) h = absurd h

abbrev leads_to : Core → List Turn → State → Type 0
leads_to core turns s = Leads (the_subroutines core) (start (the_program core)) turns s

pub stands_on : (key : ℕ) (old new : Jack) (answer : Moved) → JackStep key old answer new → new.core ≡ old.core → (turns : List Turn) → Stands old turns → Stands new (turns ++ turn key answer ∷ [])
stands_on key old new answer h same turns stands =
    subst (λ core. leads_to core (turns ++ turn key answer ∷ []) (jack_state new)) (sym (ap (λ x. x.now) same))
    (leads_more (the_subroutines old.core.now) (start (the_program old.core.now)) (jack_state old) (jack_state new) turns (turn key answer) stands (turn_made key old new answer h))

-- the statics of the classes
pub statics_sum : (classes : List Class) → sum_by (λ c. c.statics) (map the_class classes) ≡ sum_by (λ c. c.statics) classes
statics_sum [] = refl
statics_sum (c ∷ cs) = omega (arith, statics_sum cs, sum_by-cons (λ c'. c'.statics) c cs, sum_by-cons (λ c'. c'.statics) (the_class c) (map the_class cs))

-- the state of a new machine
pub start_state : (core : Core) (f : FrameTree) (m : Memory) (below : List Frame) → the_frame f ≡ start_frame core.init
    → m.statics.items ≡ replicate (sum_by (λ c. c.statics) core.classes.items) 0 → m.words.items ≡ (start (the_program core)).words → below ≡ [] → the_state f m below ≡ start (the_program core)
start_state core f m below first statics words none =
    ap (λ (x : Frame). record { frames = x ∷ below; statics = m.statics.items; words = m.words.items }) first
    ∙ ap (λ (l : List Frame). record { frames = start_frame core.init ∷ l; statics = m.statics.items; words = m.words.items }) none
    ∙ ap (λ (l : List ℕ). record { frames = start_frame core.init ∷ []; statics = l; words = m.words.items }) (statics ∙ ap (λ n. replicate n 0) (sym (statics_sum core.classes.items)))
    ∙ ap (λ (l : List ℕ). record { frames = start_frame core.init ∷ []; statics = (start (the_program core)).statics; words = l }) words
