-- The meaning after this many steps, as its machine comes there.
use Rattle.std.proofs.Common.{◌≡◌, ◌<◌, ◌≤◌, ◌-◌, ◌⊎◌, ◌↔◌, ℕ, zero, suc, Bool, true, Some, None, inl, inr, refl, sym, ap, subst, ◌∙◌, arith}
use Rattle.std.specs.Prelude.{option_and_then, slice_index}
use Rattle.std.proofs.lemmas.Bool.{cases_lt}
use Rattle.outer_world.specs.declared.point.Point.{Point}
use Rattle.simulation.specs.System.{System}
use Rattle.machine_io.specs.Reading.{Reading, ShowSame}
use Rattle.machine_io.specs.declared.driving.End.{End as Ending}
use Rattle.machine_io.specs.declared.driving.End.TheVariants as ends
use Rattle.machine_io.specs.declared.machine.Stray.TheVariants as strays
use Rattle.jack_meaning.specs.Meaning.{State, start}
use Rattle.jack_meaning.specs.Level.{next_of}
use Rattle.jack_core.specs.declared.program.Core.{Core}
use Rattle.jack_core.specs.Texts.{the_program}
use Rattle.jack_machine.specs.Whole.{jack_point, jack_word}
use Rattle.jack_machine.specs.declared.jack.Jack.{Jack}
use Rattle.nand_cli.specs.Commands.Gates.{meaning_in}
use Rattle.nand_cli.specs.Commands.SoakLevels.{IsAtJack, View, after_steps, no_keys}
use Rattle.nand_cli.specs.Inner.Reports.{HasRun, Shows}
use Rattle.nand_cli.proofs.SoakViews.{IsViewOf, from_alike, to_alike}

-- where a step is missing there is no later state
module _ {S : Type 0} (sys : System S) (first : S) where
  later : (k m : ℕ) → (k ≤ m → after_steps sys first m ≡ None) → (m < k) ⊎ (k ≤ m) → k ≤ suc m → after_steps sys first k ≡ None → after_steps sys first (suc m) ≡ None
  later k m go (inl h) le e = subst (λ (j : ℕ). after_steps sys first j ≡ None) (let same : k ≡ suc m = omega (arith, h, le) in same) e
  later k m go (inr h) le e = ap (option_and_then (sys.step 0)) (go h)

  gone : (k m : ℕ) → k ≤ m → after_steps sys first k ≡ None → after_steps sys first m ≡ None
  gone k zero le e = subst (λ (j : ℕ). after_steps sys first j ≡ None) (let same : k ≡ 0 = omega (arith, le) in same) e
  gone k (suc m) le e = later k m (λ h. gone k m h e) (cases_lt m k) le e

  stops : (k m : ℕ) (s : S) → after_steps sys first k ≡ Some s → sys.step 0 s ≡ None → k < m → after_steps sys first m ≡ None
  stops k m s e none below = gone (suc k) m (omega (arith, below)) (ap (option_and_then (sys.step 0)) e ∙ none)

-- what is read of the machine
abbrev pub jack_reading : Jack → Reading Point
jack_reading jack = record { moves = jack.moves; steps = jack.moves; point = jack_point jack; word = jack_word jack }

abbrev state_view : Core → State → View
state_view core s = record { word = (meaning_in core).word s; point = (meaning_in core).point s }

view_of : (jack : Jack) (s : State) → Shows jack s → IsViewOf (state_view jack.core.now s) (jack_reading jack)
view_of jack s shows = record {
  words = λ a d. ap (λ ws. slice_index ws (a - 2048)) (sym shows.words);
  point = ap Some (sym shows.point);
}

-- ---- all steps were made

same_state : (s t : State) → Some s ≡ Some t → s ≡ t
same_state s t e = cc

module _ (jack : Jack) (m : ℕ) (v : View) (r : Reading Point) (here : IsViewOf v r) (ran : HasRun no_keys m jack ends.Bound) where
  abbrev own : Core
  own = jack.core.now

  there : after_steps (meaning_in own) (start (the_program own)) m ≡ Some ran.0
  there = subst (λ (j : ℕ). after_steps (meaning_in own) (start (the_program own)) j ≡ Some ran.0) ran.2 ran.1

  goes_there : ShowSame r (jack_reading jack) → IsAtJack own m v
  goes_there same = record { state = ran.0; after = there; alike = to_alike v (state_view own ran.0) r (jack_reading jack) here (view_of jack ran.0 ran.3) same }

  comes_back : IsAtJack own m v → ShowSame r (jack_reading jack)
  comes_back h =
      let one : h.state ≡ ran.0 = same_state h.state ran.0 (sym h.after ∙ there) in
      from_alike v (state_view own h.state) r (jack_reading jack) here (view_of jack h.state (subst (Shows jack) (sym one) ran.3)) h.alike

pub all_steps : (jack : Jack) (core : Core) (m : ℕ) (v : View) (r : Reading Point) → IsViewOf v r → jack.core.now ≡ core → HasRun no_keys m jack ends.Bound → (b : Bool) → (b ≡ true) ↔ ShowSame r (jack_reading jack)
    → (b ≡ true) ↔ IsAtJack core m v
all_steps jack core m v r here same ran b told =
    subst (λ (c : Core). (b ≡ true) ↔ IsAtJack c m v) same (λ e. goes_there jack m v r here ran (told.0 e), λ h. told.1 (comes_back jack m v r here ran h))

-- ---- a step is missing

missing : (core : Core) (k m : ℕ) (v : View) (s : State) → after_steps (meaning_in core) (start (the_program core)) k ≡ Some s → (meaning_in core).step 0 s ≡ None → k < m → IsAtJack core m v → ⊥
missing core k m v s at none below h =
    let gone_there : after_steps (meaning_in core) (start (the_program core)) m ≡ None = stops (meaning_in core) (start (the_program core)) k m s at none below in
    let found : after_steps (meaning_in core) (start (the_program core)) m ≡ Some h.state = h.after in
    let no : ⊥ = cc in no

by_end : (jack : Jack) (m : ℕ) (end : Ending) (v : View) → HasRun no_keys m jack end → (end ≡ ends.Bound → ⊥) → IsAtJack jack.core.now m v → ⊥
by_end jack m ends.Bound v ran other h = other refl
by_end jack m ends.Done v (s, at, (below, done), shows) other h = missing jack.core.now jack.moves m v s at (ap next_of done) below h
by_end jack m (ends.Stray (strays.Address a)) v (s, at, (below, stray), shows) other h = missing jack.core.now jack.moves m v s at (ap next_of stray) below h
by_end jack m (ends.Stray strays.Values) v ran other h = absurd ran.2
by_end jack m (ends.Stray strays.Argument) v ran other h = absurd ran.2
by_end jack m (ends.Stray strays.Local) v ran other h = absurd ran.2
by_end jack m (ends.Stray strays.Code) v ran other h = absurd ran.2
by_end jack m (ends.Full w) v ran other h = absurd ran.2

pub fewer_steps : (jack : Jack) (core : Core) (m : ℕ) (end : Ending) (v : View) → jack.core.now ≡ core → HasRun no_keys m jack end → (end ≡ ends.Bound → ⊥) → IsAtJack core m v → ⊥
fewer_steps jack core m end v same ran other h = by_end jack m end v ran other (subst (λ (c : Core). IsAtJack c m v) (sym same) h)
