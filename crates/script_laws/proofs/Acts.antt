-- From two standings that are one, an act does one thing. It goes on, it differs or it has a fault, and not two of these.
use Rattle.std.proofs.Common.{◌≡◌, ℕ, suc, true, List, [], ◌∷◌, ◌++◌, length, Option, Some, refl, sym, ap, ap₂, subst, ◌∙◌, inl, inr, arith}
use Rattle.std.specs.Prelude.{IfSome, slice_get}
use Rattle.outer_world.specs.Files.{Files}
use Rattle.hack_asm.specs.HackText as image
use Rattle.hack_asm.specs.Meaning as assembly
use Rattle.hdl_tree.specs.declared.ends.Memories.{Memories}
use Rattle.hdl_parser.specs.Spells as hdl
use Rattle.elab_laws.specs.Same.{eval, none}
use Rattle.script_columns.specs.Comparison.{agrees, lines_of}
use Rattle.script_parser.specs.declared.tree.Item.{Item}
use Rattle.script_parser.specs.declared.tree.Step.TheVariants as steps
use Rattle.script_parser.specs.declared.tree.Act.{Act}
use Rattle.script_parser.specs.declared.tree.Act.TheVariants as acts
use Rattle.script_device.specs.Directory.{LoadedChip}
use Rattle.script_device.specs.Devices.{Device, after_eval, after_set, after_tick, after_tock, with_image}
use Rattle.script_device.specs.Devices.Device.{Chip, Machine}
use Rattle.script_device.specs.Machines.{loaded_machine}
use Rattle.tst_runner.specs.Setting.{Setting, path_of, setting_of}
use Rattle.tst_runner.specs.Loading.{IsLoaded}
use Rattle.tst_runner.specs.Lines.{IsLine}
use Rattle.tst_runner.specs.Standing.{Agrees, Compared, Standing, with_echo, with_line}
use Rattle.tst_runner.specs.Effects.{Differs, Does, Faults, Goes, PutsLine, name_line}
use Rattle.script_laws.specs.Exact.{SameButNets}
use Rattle.script_laws.proofs.Gathered.{same_text}
use Rattle.script_laws.proofs.Chips.{no_program, not_both_images, not_loaded, one_chip, one_image, one_no_image, one_reason}
use Rattle.script_laws.proofs.OneDevice.{SameDevice, eval_same, line_same, nameless_meant, nameless_once, rom_same, rom_there, set_same, set_there, tick_same, tock_same, turned}

-- ---- standings that are one

pub record SameStanding (memories : Memories) (s t : Standing) : Type 0 where
  pub device : SameDevice memories s.device t.device
  pub items : s.items ≡ t.items
  pub compared : s.compared ≡ t.compared
  pub lines : s.lines ≡ t.lines
  pub out : s.out ≡ t.out
  pub err : s.err ≡ t.err

abbrev AgreesBy : Option Compared → ℕ → List ℕ → Type 0
AgreesBy o n line = IfSome o (λ c. (compared : List ℕ) × (slice_get c.lines n ≡ Some compared) × (agrees compared line ≡ true))

module _ (hdl_law : hdl.ReadingLaw) (hack_law : image.ReadingLaw) (asm_law : assembly.ReadingLaw) (path : List ℕ) (told : Files) (memories : Memories) where
  abbrev pub S : Setting
  S = setting_of path (Some told) memories

  abbrev pub Same : Standing → Standing → Type 0
  Same s t = SameStanding memories s t

  pub turned_back : (s t : Standing) → Same s t → Same t s
  turned_back s t h = record { device = turned memories s.device t.device h.device; items = sym h.items; compared = sym h.compared; lines = sym h.lines; out = sym h.out; err = sym h.err }

  with_devices : (s t : Standing) (d d' : Device) → Same s t → SameDevice memories d d' → Same (record s { device = d }) (record t { device = d' })
  with_devices s t d d' h k = record { device = k; items = h.items; compared = h.compared; lines = h.lines; out = h.out; err = h.err }

  new_devices : (s t : Standing) (d d' : Device) → Same s t → SameDevice memories d d' → Same (record s { device = d; items = [] }) (record t { device = d'; items = [] })
  new_devices s t d d' h k = record { device = k; items = refl; compared = h.compared; lines = h.lines; out = h.out; err = h.err }

  moved : (s t x y : Standing) → s ≡ x → t ≡ y → Same x y → Same s t
  moved s t x y p q h = subst (λ (z : Standing). Same z t) (sym p) (subst (λ (z : Standing). Same x z) (sym q) h)

  lines_same : (s t : Standing) (line line' : List ℕ) → Same s t → line ≡ line' → Same (with_line s line) (with_line t line')
  lines_same s t line line' h e = record { device = h.device; items = h.items; compared = h.compared; lines = ap suc h.lines; out = ap₂ (λ (x y : List ℕ). x ++ (y ++ 10 ∷ [])) h.out e; err = h.err }

  agrees_same : (s t : Standing) (line line' : List ℕ) → Same s t → line ≡ line' → Agrees s line → Agrees t line'
  agrees_same s t line line' h e a =
      subst (λ (l : List ℕ). AgreesBy t.compared t.lines l) e (subst (λ (n : ℕ). AgreesBy t.compared n line) h.lines (subst (λ (o : Option Compared). AgreesBy o s.lines line) h.compared a))

  -- ---- acts that put no line

  chip_same : (file : List ℕ) (chip chip' : LoadedChip) → IsLoaded S file chip → IsLoaded S file chip' → SameDevice memories (after_eval (Chip chip [])) (after_eval (Chip chip' []))
  chip_same file chip chip' h k = (one_chip hdl_law path told memories file chip chip' h k, eval none)

  does_same : (act : Act) (s t s' t' : Standing) → Same s t → Does S s act s' → Does S t act t' → Same s' t'
  does_same (acts.Step steps.Eval) s t s' t' h d e = moved s' t' (record s { device = after_eval s.device }) (record t { device = after_eval t.device }) d e (with_devices s t (after_eval s.device) (after_eval t.device) h (eval_same memories s.device t.device h.device))
  does_same (acts.Step steps.Tick) s t s' t' h d e = moved s' t' (record s { device = after_tick s.device }) (record t { device = after_tick t.device }) d e (with_devices s t (after_tick s.device) (after_tick t.device) h (tick_same memories s.device t.device h.device))
  does_same (acts.Step steps.Tock) s t s' t' h d e = moved s' t' (record s { device = after_tock s.device }) (record t { device = after_tock t.device }) d e (with_devices s t (after_tock s.device) (after_tock t.device) h (tock_same memories s.device t.device h.device))
  does_same (acts.Step steps.TickTock) s t s' t' h d e =
      moved s' t' (record s { device = after_tock (after_tick s.device) }) (record t { device = after_tock (after_tick t.device) }) d e
      (with_devices s t (after_tock (after_tick s.device)) (after_tock (after_tick t.device)) h (tock_same memories (after_tick s.device) (after_tick t.device) (tick_same memories s.device t.device h.device)))
  does_same (acts.Step steps.Output) s t s' t' h d e = absurd d
  does_same (acts.Load file) s t s' t' h (inl (chip, loaded, is)) (inl (chip', loaded', is')) =
      moved s' t' (record s { device = after_eval (Chip chip []); items = [] }) (record t { device = after_eval (Chip chip' []); items = [] }) is is'
      (new_devices s t (after_eval (Chip chip [])) (after_eval (Chip chip' [])) h (chip_same file.text chip chip' loaded loaded'))
  does_same (acts.Load file) s t s' t' h (inl (chip, loaded, is)) (inr (program, rest)) = absurd (no_program file.text loaded.0 loaded.1 program)
  does_same (acts.Load file) s t s' t' h (inr (program, rest)) (inl (chip, loaded, is)) = absurd (no_program file.text loaded.0 loaded.1 program)
  does_same (acts.Load file) s t s' t' h (inr (program, (words, has, is))) (inr (program', (words', has', is'))) =
      moved s' t' (record s { device = Machine (loaded_machine words); items = [] }) (record t { device = Machine (loaded_machine words'); items = [] }) is is'
      (new_devices s t (Machine (loaded_machine words)) (Machine (loaded_machine words')) h (ap loaded_machine (one_image hack_law asm_law path told memories file.text words words' has has')))
  does_same (acts.OutputFile file) s t s' t' h d e = moved s' t' s t d e h
  does_same (acts.CompareTo file) s t s' t' h (text, has, few, is) (text', has', few', is') =
      let same = same_text told (path_of S file.text) text text' has has' in
      moved s' t' (record s { compared = Some (record { path = path_of S file.text; lines = lines_of text }) }) (record t { compared = Some (record { path = path_of S file.text; lines = lines_of text' }) }) is is'
      (record { device = h.device; items = h.items; compared = ap (λ (x : List ℕ). Some (record { path = path_of S file.text; lines = lines_of x })) same; lines = h.lines; out = h.out; err = h.err })
  does_same (acts.OutputList items) s t s' t' h d e = absurd d
  does_same (acts.Set variable word) s t s' t' h (source, can, is) (source', can', is') =
      moved s' t' (record s { device = after_set s.device source word }) (record t { device = after_set t.device source' word }) is is'
      (with_devices s t (after_set s.device source word) (after_set t.device source' word) h (set_same memories s.device t.device h.device variable.text word source source' can can'))
  does_same (acts.Echo text) s t s' t' h d e =
      moved s' t' (with_echo s text) (with_echo t text) d e
      (record { device = h.device; items = h.items; compared = h.compared; lines = h.lines; out = h.out; err = ap (λ (x : List ℕ). x ++ (text ++ 10 ∷ [])) h.err })
  does_same (acts.LoadRom word file) s t s' t' h (rom, (words, has, is)) (rom', (words', has', is')) =
      let same = one_image hack_law asm_law path told memories file.text words words' has has' in
      let d = subst (λ (x : List ℕ). SameDevice memories (with_image s.device rom words) (with_image t.device rom' x)) same (rom_same memories s.device t.device h.device rom rom' words) in
      moved s' t' (record s { device = with_image s.device rom words }) (record t { device = with_image t.device rom' words' }) is is'
      (with_devices s t (with_image s.device rom words) (with_image t.device rom' words') h d)

  -- ---- acts that put one

  pub record SameLine (s t : Standing) (line line' : List ℕ) : Type 0 where
    pub standing : Same s t
    pub line_is : line ≡ line'

  puts_same : (act : Act) (s t s' t' : Standing) (line line' : List ℕ) → Same s t → PutsLine S s act s' line → PutsLine S t act t' line' → SameLine s' t' line line'
  puts_same (acts.Step steps.Output) s t s' t' line line' h (d, l) (e, m) =
      record { standing = moved s' t' s t d e h; line_is = line_same memories s.device t.device h.device t.items line line' (subst (λ (x : List Item). IsLine s.device x line) h.items l) m }
  puts_same (acts.OutputList items) s t s' t' line line' h (meant, d, l) (meant', e, m) =
      record {
        standing = moved s' t' (record s { items = items }) (record t { items = items }) d e (record { device = h.device; items = refl; compared = h.compared; lines = h.lines; out = h.out; err = h.err });
        line_is = l ∙ sym m;
      }
  puts_same (acts.Step steps.Eval) s t s' t' line line' h d e = absurd d
  puts_same (acts.Step steps.Tick) s t s' t' line line' h d e = absurd d
  puts_same (acts.Step steps.Tock) s t s' t' line line' h d e = absurd d
  puts_same (acts.Step steps.TickTock) s t s' t' line line' h d e = absurd d
  puts_same (acts.Load file) s t s' t' line line' h d e = absurd d
  puts_same (acts.OutputFile file) s t s' t' line line' h d e = absurd d
  puts_same (acts.CompareTo file) s t s' t' line line' h d e = absurd d
  puts_same (acts.Set variable word) s t s' t' line line' h d e = absurd d
  puts_same (acts.Echo text) s t s' t' line line' h d e = absurd d
  puts_same (acts.LoadRom word file) s t s' t' line line' h d e = absurd d

  does_puts : (act : Act) (s t s' t' : Standing) (line : List ℕ) → Does S s act s' → PutsLine S t act t' line → ⊥
  does_puts (acts.Step steps.Output) s t s' t' line d e = d
  does_puts (acts.OutputList items) s t s' t' line d e = d
  does_puts (acts.Step steps.Eval) s t s' t' line d e = e
  does_puts (acts.Step steps.Tick) s t s' t' line d e = e
  does_puts (acts.Step steps.Tock) s t s' t' line d e = e
  does_puts (acts.Step steps.TickTock) s t s' t' line d e = e
  does_puts (acts.Load file) s t s' t' line d e = e
  does_puts (acts.OutputFile file) s t s' t' line d e = e
  does_puts (acts.CompareTo file) s t s' t' line d e = e
  does_puts (acts.Set variable word) s t s' t' line d e = e
  does_puts (acts.Echo text) s t s' t' line d e = e
  does_puts (acts.LoadRom word file) s t s' t' line d e = e

  -- ---- an act goes on in one way

  pub goes_same : (act : Act) (s t s' t' : Standing) → Same s t → Goes S s act s' → Goes S t act t' → Same s' t'
  goes_same act s t s' t' h (inl d) (inl e) = does_same act s t s' t' h d e
  goes_same act s t s' t' h (inl d) (inr (r, line, puts, a, is)) = absurd (does_puts act s t s' r line d puts)
  goes_same act s t s' t' h (inr (r, line, puts, a, is)) (inl e) = absurd (does_puts act t s t' r line e puts)
  goes_same act s t s' t' h (inr (r, line, puts, a, is)) (inr (r', line', puts', a', is')) =
      let p = puts_same act s t r r' line line' h puts puts' in
      moved s' t' (with_line r line) (with_line r' line') is is' (lines_same r r' line line' p.standing p.line_is)

  pub differs_goes : (act : Act) (s t s' t' : Standing) → Same s t → Differs S s act s' → Goes S t act t' → ⊥
  differs_goes act s t s' t' h d (inl e) = does_puts act t s t' d.r d.line e d.puts
  differs_goes act s t s' t' h d (inr (r, line, puts, a, is)) =
      let p = puts_same act s t d.r r d.line line h d.puts puts in
      d.differs (agrees_same r d.r line d.line (turned_back d.r r p.standing) (sym p.line_is) a)

  pub record SameDifference (s t s' t' : Standing) (c c' : Compared) : Type 0 where
    pub standing : Same s' t'
    pub compared_is : c ≡ c'

  pub differs_same : (act act' : Act) → act ≡ act' → (s t s' t' : Standing) → Same s t → (d : Differs S s act s') (e : Differs S t act' t') → SameDifference s t s' t' d.compared e.compared
  differs_same act act' q s t s' t' h d e =
      let p = puts_same act s t d.r e.r d.line e.line h d.puts (subst (λ (a : Act). PutsLine S t a e.r e.line) (sym q) e.puts) in
      let one : Some d.compared ≡ Some e.compared = sym d.compares ∙ h.compared ∙ e.compares in
      record { standing = moved s' t' (with_line d.r d.line) (with_line e.r e.line) d.is e.is (lines_same d.r e.r d.line e.line p.standing p.line_is); compared_is = cc }

  -- ---- faults

  faults_puts : (act : Act) (s t t' : Standing) (line out : List ℕ) → Same s t → Faults S s act line → PutsLine S t act t' out → ⊥
  faults_puts (acts.Step step) s t t' line out h f e = f
  faults_puts (acts.OutputList items) s t t' line out h (item, nameless, is) (meant, d, l) = nameless_meant memories s.device t.device h.device items item meant.0 nameless meant.1
  faults_puts (acts.Load file) s t t' line out h f e = e
  faults_puts (acts.OutputFile file) s t t' line out h f e = e
  faults_puts (acts.CompareTo file) s t t' line out h f e = e
  faults_puts (acts.Set variable word) s t t' line out h f e = e
  faults_puts (acts.Echo text) s t t' line out h f e = e
  faults_puts (acts.LoadRom word file) s t t' line out h f e = e

  faults_does : (act : Act) (s t t' : Standing) (line : List ℕ) → Same s t → Faults S s act line → Does S t act t' → ⊥
  faults_does (acts.Step step) s t t' line h f e = f
  faults_does (acts.OutputList items) s t t' line h f e = e
  faults_does (acts.Load file) s t t' line h (inl why) (inl (chip, loaded, is)) = not_loaded hdl_law path told memories file.text chip line loaded why
  faults_does (acts.Load file) s t t' line h (inl why) (inr (program, rest)) = no_program file.text why.0 why.1 program
  faults_does (acts.Load file) s t t' line h (inr (program, why)) (inl (chip, loaded, is)) = no_program file.text loaded.0 loaded.1 program
  faults_does (acts.Load file) s t t' line h (inr (program, why)) (inr (program', (words, has, is))) = not_both_images hack_law asm_law path told memories file.text words line has why
  faults_does (acts.OutputFile file) s t t' line h f e = f
  faults_does (acts.CompareTo file) s t t' line h (text, has, many, is) (text', has', few, is') =
      let same = ap (λ (x : List ℕ). length x) (same_text told (path_of S file.text) text text' has has') in
      absurd (omega (arith, same, many, few))
  faults_does (acts.Set variable word) s t t' line h (lacks, is) (source, can, is') =
      let x = set_there memories t.device s.device (turned memories s.device t.device h.device) variable.text source can in
      lacks x.0 x.1
  faults_does (acts.Echo text) s t t' line h f e = f
  faults_does (acts.LoadRom word file) s t t' line h (inl (lacks, is)) (rom, rest) = lacks (rom_there memories t.device s.device (turned memories s.device t.device h.device) rom)
  faults_does (acts.LoadRom word file) s t t' line h (inr (rom, why)) (rom', (words, has, is)) = not_both_images hack_law asm_law path told memories file.text words line has why

  pub faults_goes : (act : Act) (s t t' : Standing) (line : List ℕ) → Same s t → Faults S s act line → Goes S t act t' → ⊥
  faults_goes act s t t' line h f (inl e) = faults_does act s t t' line h f e
  faults_goes act s t t' line h f (inr (r, out, puts, a, is)) = faults_puts act s t r line out h f puts

  pub faults_differs : (act : Act) (s t t' : Standing) (line : List ℕ) → Same s t → Faults S s act line → Differs S t act t' → ⊥
  faults_differs act s t t' line h f d = faults_puts act s t d.r line d.line h f d.puts

  pub faults_same : (act : Act) (s t : Standing) (line line' : List ℕ) → Same s t → Faults S s act line → Faults S t act line' → SameButNets S line line'
  faults_same (acts.Step step) s t line line' h f g = absurd f
  faults_same (acts.OutputFile file) s t line line' h f g = absurd f
  faults_same (acts.Echo text) s t line line' h f g = absurd f
  faults_same (acts.Load file) s t line line' h (inl why) (inl why') = one_reason hdl_law path told memories file.text line line' why why'
  faults_same (acts.Load file) s t line line' h (inl why) (inr (program, rest)) = absurd (no_program file.text why.0 why.1 program)
  faults_same (acts.Load file) s t line line' h (inr (program, rest)) (inl why) = absurd (no_program file.text why.0 why.1 program)
  faults_same (acts.Load file) s t line line' h (inr (program, why)) (inr (program', why')) = inl (one_no_image hack_law asm_law path told memories file.text line line' why why')
  faults_same (acts.CompareTo file) s t line line' h (text, has, many, is) (text', has', many', is') = inl (is ∙ sym is')
  faults_same (acts.OutputList items) s t line line' h (item, nameless, is) (item', nameless', is') =
      let one = nameless_once memories s.device t.device h.device items item item' nameless nameless' in
      inl (is ∙ ap (λ (x : Item). name_line S x.variable) one ∙ sym is')
  faults_same (acts.Set variable word) s t line line' h (lacks, is) (lacks', is') = inl (is ∙ sym is')
  faults_same (acts.LoadRom word file) s t line line' h (inl (lacks, is)) (inl (lacks', is')) = inl (is ∙ sym is')
  faults_same (acts.LoadRom word file) s t line line' h (inl (lacks, is)) (inr (rom, why)) = absurd (lacks (rom_there memories t.device s.device (turned memories s.device t.device h.device) rom))
  faults_same (acts.LoadRom word file) s t line line' h (inr (rom, why)) (inl (lacks, is)) = absurd (lacks (rom_there memories s.device t.device h.device rom))
  faults_same (acts.LoadRom word file) s t line line' h (inr (rom, why)) (inr (rom', why')) = inl (one_no_image hack_law asm_law path told memories file.text line line' why why')
