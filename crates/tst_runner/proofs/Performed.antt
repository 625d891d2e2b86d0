-- What the parts of an act say, as what doing it says.
use Rattle.std.proofs.Common.{◌≡◌, ◌≤◌, ◌++◌, ℕ, Bool, true, false, List, [], ◌∷◌, Option, Result, Ok, Err, take, refl, sym, ap, subst, inl, inr, ◌∙◌}
use Rattle.std.specs.Prelude.{codes}
use Rattle.outer_world.specs.Refusals.{message, message_line}
use Rattle.outer_world.specs.Written.{Got}
use Rattle.outer_world.proofs.Passing.{Got-then}
use Rattle.source_files.specs.Loads.{Loads}
use Rattle.source_files.specs.declared.error.LoadError.{LoadError}
use Rattle.source_files.specs.declared.error.LoadError.TheVariants as loads
use Rattle.script_parser.specs.declared.tree.Act.{Act}
use Rattle.script_parser.specs.declared.tree.Act.TheVariants as acts
use Rattle.tst_runner.specs.declared.standing.State.{State}
use Rattle.tst_runner.specs.declared.standing.Stop.{Stop}
use Rattle.tst_runner.specs.declared.standing.Stop.TheVariants as stops
use Rattle.tst_runner.specs.Setting.{Setting}
use Rattle.tst_runner.specs.Standing.{Standing, with_line, with_echo}
use Rattle.script_parser.specs.declared.tree.Item.{Item}
use Rattle.script_parser.specs.declared.tree.Placed.{Placed}
use Rattle.script_device.specs.declared.device.Device as code
use Rattle.script_device.specs.Devices.{Device, HasRom, with_image}
use Rattle.tst_runner.specs.Loading.{IsImage}
use Rattle.tst_runner.specs.Effects.{Does, Faults, PutsLine}
use Rattle.tst_runner.specs.Ends.{Asks, whole}
use Rattle.tst_runner.specs.Inner.Outlets.{HasPassed}
use Rattle.script_device.specs.Running.{TellsImage}
use Rattle.tst_runner.proofs.Kept.{IsState-device, Keeps-image, Stays-image}
use Rattle.tst_runner.specs.Inner.States.{Becomes, CountsStop, IsDevice, IsState, Misses, Performs, PutsEcho, PutsOut, Quietly, StandsThere, StopsAtName}

module _ (setting : Setting) (there : List ℕ → Bool) (unfailing : Type 0) (out out' err err' : Option (List ℕ)) (pending : List ℕ) where
  abbrev Stays : Standing → Type 0
  Stays s = StandsThere out out' err err' pending s

  Stays-same : (s t : Standing) → s.out ≡ t.out → s.err ≡ t.err → Stays s → Stays t
  Stays-same s t e f h =
      let P : List ℕ → Type 0 = λ x. HasPassed out out' pending x in
      let Q : List ℕ → Type 0 = λ x. Got err err' x in
      record { on_out = subst P e h.on_out; on_err = subst Q f h.on_err }

  pub Performs-quietly : (s : Standing) (act : Act) (state : State) (missed : Type 0) (result : Result (Unit {0}) Stop)
      → (missed → Misses setting there unfailing s act) → StandsThere out out' err err' pending s
      → Quietly setting missed s act state result → Performs setting there unfailing out out' err err' pending s act state result
  Performs-quietly s act state missed (Ok u) misses stays h = (h.0, inl h.1, h.2, Stays-same s h.0 (sym h.3) (sym h.4) stays)
  Performs-quietly s act state missed (Err (stops.Unloaded (loads.Refused r))) misses stays h = (h, stays)
  Performs-quietly s act state missed (Err (stops.Unloaded loads.Failed)) misses stays h = let m = misses h in (m.0, m.1, stays)
  Performs-quietly s act state missed (Err (stops.Unloaded loads.Memory)) misses stays h = stays
  Performs-quietly s act state missed (Err (stops.Differs d)) misses stays h = absurd h
  Performs-quietly s act state missed (Err stops.Out) misses stays h = absurd h
  Performs-quietly s act state missed (Err stops.Err) misses stays h = absurd h

  pub Performs-line : (s r : Standing) (act : Act) (line : List ℕ) (state : State) (result : Result (Unit {0}) Stop)
      → PutsLine setting s act r line → r.out ≡ s.out → r.err ≡ s.err → r.compared ≡ s.compared
      → PutsOut out out' err err' pending setting r line state result → Performs setting there unfailing out out' err err' pending s act state result
  Performs-line s r act line state (Ok u) puts e f k h = (with_line r line, inr (r, line, puts, h.0.0, refl), h.0.1, h.1)
  Performs-line s r act line state (Err (stops.Unloaded (loads.Refused w))) puts e f k h = absurd h
  Performs-line s r act line state (Err (stops.Unloaded loads.Failed)) puts e f k h = absurd h
  Performs-line s r act line state (Err (stops.Unloaded loads.Memory)) puts e f k h = Stays-same r s e f h
  Performs-line s r act line state (Err (stops.Differs d)) puts e f k h =
      (with_line r line, record { compared = h.0.compared; compares = sym k ∙ h.0.compares; r = r; line = line; puts = puts; differs = h.0.differs; is = refl }, h.0.path, h.0.number, h.1)
  Performs-line s r act line state (Err stops.Out) puts e f k h =
      let P : List ℕ → Type 0 = λ x. whole x ≤ h.n in
      let Q : List ℕ → Type 0 = λ x. Got err err' x in
      (record { r = r; line = line; puts = puts; n = h.n; from = subst P e h.from; went = h.went }, subst Q f h.on_err)
  Performs-line s r act line state (Err stops.Err) puts e f k h = absurd h

  -- an act that asks for nothing does not miss anything
  pub Performs-silent : (s : Standing) (act : Act) (state : State) (result : Result (Unit {0}) Stop)
      → (Asks s act → ⊥) → Performs setting there ⊥ out out' err err' pending s act state result → Performs setting there unfailing out out' err err' pending s act state result
  Performs-silent s act state (Ok u) silent h = h
  Performs-silent s act state (Err (stops.Unloaded (loads.Refused r))) silent h = h
  Performs-silent s act state (Err (stops.Unloaded loads.Failed)) silent h = absurd (silent h.0)
  Performs-silent s act state (Err (stops.Unloaded loads.Memory)) silent h = h
  Performs-silent s act state (Err (stops.Differs d)) silent h = h
  Performs-silent s act state (Err stops.Out) silent h = h
  Performs-silent s act state (Err stops.Err) silent h = h

  pub Performs-becomes : (s t : Standing) (act : Act) (state : State) (result : Result (Unit {0}) Stop)
      → Does setting s act t → t.out ≡ s.out → t.err ≡ s.err → StandsThere out out' err err' pending s
      → Becomes setting state t result → Performs setting there unfailing out out' err err' pending s act state result
  Performs-becomes s t act state (Ok u) does e f stays h = (t, inl does, h, Stays-same s t (sym e) (sym f) stays)
  Performs-becomes s t act state (Err (stops.Unloaded (loads.Refused r))) does e f stays h = absurd h
  Performs-becomes s t act state (Err (stops.Unloaded loads.Failed)) does e f stays h = absurd h
  Performs-becomes s t act state (Err (stops.Unloaded loads.Memory)) does e f stays h = stays
  Performs-becomes s t act state (Err (stops.Differs d)) does e f stays h = absurd h
  Performs-becomes s t act state (Err stops.Out) does e f stays h = absurd h
  Performs-becomes s t act state (Err stops.Err) does e f stays h = absurd h

pub Performs-echo : (setting : Setting) (there : List ℕ → Bool) (unfailing : Type 0) (out out' err mid err' : Option (List ℕ)) (pending : List ℕ) (s : Standing) (text : List ℕ) (state : State) (result : Result (Unit {0}) Stop)
    → IsState setting state s → StandsThere out out' err mid pending s → PutsEcho mid err' text result → Performs setting there unfailing out out' err err' pending s (acts.Echo text) state result
Performs-echo setting there unfailing out out' err mid err' pending s text state (Ok u) is stays h = (
  with_echo s text,
  inl refl,
  record { device = is.device; loaded = is.loaded; columns = is.columns; compared = is.compared; lines = is.lines },
  record { on_out = stays.on_out; on_err = Got-then err mid err' s.err (text ++ 10 ∷ []) stays.on_err h },
)
Performs-echo setting there unfailing out out' err mid err' pending s text state (Err (stops.Unloaded e)) is stays h = absurd h
Performs-echo setting there unfailing out out' err mid err' pending s text state (Err (stops.Differs d)) is stays h = absurd h
Performs-echo setting there unfailing out out' err mid err' pending s text state (Err stops.Out) is stays h = absurd h
Performs-echo setting there unfailing out out' err mid err' pending s text state (Err stops.Err) is stays h =
    (record { text = text; is = refl; n = h.0; went = Got-then err mid err' s.err (take h.0 (text ++ 10 ∷ [])) stays.on_err h.1 }, stays.on_out)

-- ---- names

-- a name that stands for nothing is refused
pub Performs-name : (setting : Setting) (there : List ℕ → Bool) (out out' err err' : Option (List ℕ)) (pending path : List ℕ) (s : Standing) (items : List Item) (state : State) (stop : Stop)
    → setting.path ≡ path → StandsThere out out' err err' pending s → StopsAtName path s.device items stop → Performs setting there ⊥ out out' err err' pending s (acts.OutputList items) state (Err stop)
Performs-name setting there out out' err err' pending path s items state (stops.Unloaded (loads.Refused r)) e stays (inl same) = absurd (let bad : ⊥ = cc in bad)
Performs-name setting there out out' err err' pending path s items state (stops.Unloaded (loads.Refused r)) e stays (inr h) =
    let word = h.0.variable in
    ((h.0, h.1, h.2 ∙ ap (λ p. message_line p (message word.place.line word.place.column (codes "Name") word.text)) (sym e)), stays)
Performs-name setting there out out' err err' pending path s items state (stops.Unloaded loads.Failed) e stays (inl same) = absurd (let bad : ⊥ = cc in bad)
Performs-name setting there out out' err err' pending path s items state (stops.Unloaded loads.Failed) e stays (inr h) = absurd h.2
Performs-name setting there out out' err err' pending path s items state (stops.Unloaded loads.Memory) e stays h = stays
Performs-name setting there out out' err err' pending path s items state (stops.Differs d) e stays (inl same) = absurd (let bad : ⊥ = cc in bad)
Performs-name setting there out out' err err' pending path s items state (stops.Differs d) e stays (inr h) = absurd h.2
Performs-name setting there out out' err err' pending path s items state stops.Out e stays (inl same) = absurd (let bad : ⊥ = cc in bad)
Performs-name setting there out out' err err' pending path s items state stops.Out e stays (inr h) = absurd h.2
Performs-name setting there out out' err err' pending path s items state stops.Err e stays (inl same) = absurd (let bad : ⊥ = cc in bad)
Performs-name setting there out out' err err' pending path s items state stops.Err e stays (inr h) = absurd h.2

pub CountsStop-name : (path : List ℕ) (d : Device) (items : List Item) (stop : Stop) (h o e : ℕ) → StopsAtName path d items stop → CountsStop h h o o e e (Err stop)
CountsStop-name path d items (stops.Unloaded (loads.Refused r)) h o e at = (refl, refl, refl)
CountsStop-name path d items (stops.Unloaded loads.Failed) h o e (inl same) = absurd (let bad : ⊥ = cc in bad)
CountsStop-name path d items (stops.Unloaded loads.Failed) h o e (inr at) = absurd at.2
CountsStop-name path d items (stops.Unloaded loads.Memory) h o e at = (refl, refl, refl)
CountsStop-name path d items (stops.Differs x) h o e at = (refl, refl, refl)
CountsStop-name path d items stops.Out h o e (inl same) = absurd (let bad : ⊥ = cc in bad)
CountsStop-name path d items stops.Out h o e (inr at) = absurd at.2
CountsStop-name path d items stops.Err h o e (inl same) = absurd (let bad : ⊥ = cc in bad)
CountsStop-name path d items stops.Err h o e (inr at) = absurd at.2

-- ---- what is loaded

-- what an act loads is not there
pub Quietly-load : {A : Type 0} (good : A → Type 0) (refused : List ℕ → Type 0) (missed : Type 0) (setting : Setting) (missed' : Type 0) (s : Standing) (act : Act) (state : State) (x : LoadError)
    → ((line : List ℕ) → refused line → Faults setting s act line) → (missed → missed') → Loads good refused missed (Err x) → Quietly setting missed' s act state (Err (stops.Unloaded x))
Quietly-load good refused missed setting missed' s act state (loads.Refused r) f k h = f _ h
Quietly-load good refused missed setting missed' s act state loads.Failed f k h = k h
Quietly-load good refused missed setting missed' s act state loads.Memory f k h = tt

pub Does-load : (setting : Setting) (s : Standing) (file : Placed) (d : Device) → IsDevice setting file.text d → Does setting s (acts.Load file) (record s { device = d; items = [] })
Does-load setting s file d (inl h) = inl (h.0, h.1, ap (λ x. record s { device = x; items = [] }) h.2)
Does-load setting s file d (inr h) = inr (h.0, (h.1.0, h.1.1, ap (λ x. record s { device = x; items = [] }) h.1.2))

pub Quietly-image : (setting : Setting) (missed : Type 0) (s : Standing) (word file : Placed) (state : State) (device : code.Device) (image : List ℕ) (loaded : Bool)
    → HasRom s.device → IsImage setting file.text image → IsState setting state s → TellsImage s.device device image (Ok loaded)
    → Quietly setting missed s (acts.LoadRom word file) (record state { device = device }) (Ok tt)
Quietly-image setting missed s word file state device image true rom is_image is h =
    (record s { device = with_image s.device h.0 image }, (h.0, (image, is_image, refl)), IsState-device setting state s device (with_image s.device h.0 image) is (Keeps-image s.device h.0 image) (Stays-image s.device h.0 image) h.1, refl, refl)
Quietly-image setting missed s word file state device image false rom is_image is h = absurd (h.0 rom)

-- ---- counts

pub CountsStop-quietly : (setting : Setting) (s : Standing) (act : Act) (state : State) (result : Result (Unit {0}) Stop) (h o e : ℕ)
    → Quietly setting ⊥ s act state result → CountsStop h h o o e e result
CountsStop-quietly setting s act state (Ok u) h o e q = (refl, refl, refl)
CountsStop-quietly setting s act state (Err (stops.Unloaded (loads.Refused r))) h o e q = (refl, refl, refl)
CountsStop-quietly setting s act state (Err (stops.Unloaded loads.Failed)) h o e q = absurd q
CountsStop-quietly setting s act state (Err (stops.Unloaded loads.Memory)) h o e q = (refl, refl, refl)
CountsStop-quietly setting s act state (Err (stops.Differs d)) h o e q = absurd q
CountsStop-quietly setting s act state (Err stops.Out) h o e q = absurd q
CountsStop-quietly setting s act state (Err stops.Err) h o e q = absurd q

pub CountsStop-becomes : (setting : Setting) (state : State) (t : Standing) (result : Result (Unit {0}) Stop) (h o e : ℕ) → Becomes setting state t result → CountsStop h h o o e e result
CountsStop-becomes setting state t (Ok u) h o e q = (refl, refl, refl)
CountsStop-becomes setting state t (Err (stops.Unloaded (loads.Refused r))) h o e q = absurd q
CountsStop-becomes setting state t (Err (stops.Unloaded loads.Failed)) h o e q = absurd q
CountsStop-becomes setting state t (Err (stops.Unloaded loads.Memory)) h o e q = (refl, refl, refl)
CountsStop-becomes setting state t (Err (stops.Differs d)) h o e q = absurd q
CountsStop-becomes setting state t (Err stops.Out) h o e q = absurd q
CountsStop-becomes setting state t (Err stops.Err) h o e q = absurd q
