-- Commands of the virtual machine as parts of a way.
use Rattle.std.proofs.Common.{◌≡◌, inl, ℕ, ◌+◌, ◌≤◌, Bool, true, false, nat_lt, List, [], ◌∷◌, refl, sym, ap, ◌∙◌, subst, arith}
use Rattle.std.specs.Prelude.{Some, if◌then◌else◌, ◌-◌, slice_index, slice_get}
use Rattle.std.proofs.lemmas.Bool.Decides.{nat_tests}
use Rattle.outer_world.specs.declared.point.Point.{Point}
use Rattle.machine_io.specs.declared.machine.Stray.TheVariants as stray
use Rattle.vm_link.specs.declared.linked.Step.{Step}
use Rattle.vm_link.specs.declared.linked.Code.{Code}
use Rattle.vm_link.specs.declared.linked.Linked.{Linked}
use Rattle.vm_machine.specs.State.{words_in_use}
use Rattle.vm_machine.specs.State.{Frame as VmFrame, State as VmState}
use Rattle.vm_machine.specs.Step.{code_in, act, fit_outcome}
use Rattle.vm_machine.specs.Step.{Acts as VmActs, Strays as VmStrays, Full as VmFull, step as vm_step}
use Rattle.vm_templates.specs.Budgets.{most_steps}
use Rattle.vm_machine.specs.Level.{state_after, is_fit, is_commit, subroutine_of, statement_of, end_statement, vm_system, cost_of, vm_cost}
use Rattle.vm_machine.specs.Level.{has_heard as vm_heard, is_done as vm_done}
use Rattle.simulation.specs.System.{System}
use Rattle.simulation.specs.Layers.{Shows, GoesAstray, Ends, strays, Along, last, onward, Way}
use Rattle.simulation.proofs.Ways.{quiet_step, last_step}
use Rattle.jack_meaning.specs.Text.{Program}
use Rattle.jack_meaning.specs.Meaning.{State, Acts, Stray, step, point_of}
use Rattle.jack_meaning.specs.Level.{has_heard, is_done, meaning_of}
use Rattle.jack_meaning.specs.Level.{next_of as state_of}
use Rattle.jack_compiler.specs.Templates.{Numbers, quiet, commit}
use Rattle.jack_compiler.specs.Match.{Match}
use Rattle.jack_compiler.specs.Astray.{StraysAt, ComesAstray}

abbrev made : ℕ → ℕ → Point
made s m = record { sub = s; number = m }

module _ (program : Program) (numbers : Numbers) (linked : Linked) (depth : ℕ) where
  abbrev pub up : System State
  up = meaning_of program.subroutines

  abbrev pub low : System VmState
  low = vm_system linked

  abbrev pub R : State → VmState → Type 0
  R = Match program numbers linked depth

  -- within this many steps of the computer the step of u is made, or its end comes; and where u strays, v does in the
  -- end
  pub record Goes (u : State) (m : ℕ) (v : VmState) : Type 0 where
    pub way : Way up low (vm_cost most_steps linked) R u m [] v
    pub strays : (a : ℕ) → ((key : ℕ) → step program.subroutines key u ≡ Stray a) → ComesAstray program.subroutines linked u a m v

  longer : (u : State) (End : List ℕ → VmState → Type 0) (m m' : ℕ) (pend : List ℕ) (v : VmState) → m ≤ m' → Along up low (vm_cost most_steps linked) u End m pend v → Along up low (vm_cost most_steps linked) u End m' pend v
  longer u End m m' pend v h (last _ _ _ l c) = last m' pend v l (omega (arith, h, c))
  longer u End m m' pend v h (onward _ k _ _ s q c to e w) = onward m' k pend v s q (omega (arith, h, c)) to e w

  pub way_more : (u : State) (m m' : ℕ) (v : VmState) → m ≤ m' → Goes u m v → Goes u m' v
  way_more u m m' v h w = record {
    way = longer u (Ends up low R u) m m' [] v h w.way;
    strays = λ a s. longer u (StraysAt program.subroutines linked u a) m m' [] v h (w.strays a s);
  }

  -- a state on the way: heap and screen and the subroutine are those of the upper state
  pub record Here (u : State) (V : VmState) (vf : VmFrame) : Type 0 where
    pub words : V.words ≡ u.words
    pub sub : subroutine_of linked vf.function ≡ (point_of u.frames).0

  performs : (key : ℕ) (V : VmState) (vf : VmFrame) (vbelow : List VmFrame) (c : Code) → slice_get (code_in linked vf.function) vf.place ≡ Some c → vm_step linked key (record V { frames = vf ∷ vbelow }) ≡ fit_outcome (act key c.step (record V { frames = vf ∷ vbelow }) vf vbelow)
  unfolding vm_step
  performs key V vf vbelow c h = rw h refl

  fits_with : (full heard : Bool) (v : VmState) → full ≡ false → (if full then VmFull (words_in_use v.frames) else VmActs heard v) ≡ VmActs heard v
  fits_with true heard v h = absurd (cc h)
  fits_with false heard v h = refl

  not_over : (w : ℕ) → w ≤ 1792 → nat_lt 1792 w ≡ false
  not_over w h = grind (arith, nat_tests)

  fits_in : (heard : Bool) (v : VmState) → words_in_use v.frames ≤ 1792 → fit_outcome (VmActs heard v) ≡ VmActs heard v
  fits_in heard v h = fits_with (nat_lt 1792 (words_in_use v.frames)) heard v (not_over (words_in_use v.frames) h)

  -- a command that acts
  pub runs : (key : ℕ) (heard : Bool) (V : VmState) (vf : VmFrame) (vbelow : List VmFrame) (c : Code) (v' : VmState) → slice_get (code_in linked vf.function) vf.place ≡ Some c → act key c.step (record V { frames = vf ∷ vbelow }) vf vbelow ≡ VmActs heard v' → words_in_use v'.frames ≤ 1792 → vm_step linked key (record V { frames = vf ∷ vbelow }) ≡ VmActs heard v'
  runs key heard V vf vbelow c v' h a r = performs key V vf vbelow c h ∙ (ap fit_outcome a ∙ fits_in heard v' r)

  pub strays_at : (key a : ℕ) (V : VmState) (vf : VmFrame) (vbelow : List VmFrame) (c : Code) → slice_get (code_in linked vf.function) vf.place ≡ Some c → act key c.step (record V { frames = vf ∷ vbelow }) vf vbelow ≡ VmStrays (stray.Address a) → vm_step linked key (record V { frames = vf ∷ vbelow }) ≡ VmStrays (stray.Address a)
  strays_at key a V vf vbelow c h e = performs key V vf vbelow c h ∙ ap fit_outcome e

  shows_at : (u : State) (V : VmState) (vf : VmFrame) (vbelow : List VmFrame) (c : Code) → Here u V vf → c.statement ≡ (point_of u.frames).1 → slice_get (code_in linked vf.function) vf.place ≡ Some c → is_fit (vm_step linked 0 (record V { frames = vf ∷ vbelow })) ≡ true → Shows up low u (record V { frames = vf ∷ vbelow })
  shows_at u V vf vbelow c here number h fit =
      let at_number : statement_of (end_statement linked vf.function) (slice_get (code_in linked vf.function) vf.place) ≡ (point_of u.frames).1 = ap (statement_of (end_statement linked vf.function)) h ∙ number in
      record {
        words = λ a d. ap (λ ws. slice_index ws (a - 2048)) here.words;
        point = inl (ap Some (both (here.sub) at_number));
        fits = fit;
      }
    where
      both : {s s' m m' : ℕ} → s ≡ s' → m ≡ m' → made s m ≡ made s' m'
      both {s} {s'} {m} {m'} e e' = ap (λ x. made x m) e ∙ ap (λ x. made s' x) e'

  -- a command on the way
  pub quiet_way : (u : State) (V : VmState) (vf : VmFrame) (vbelow : List VmFrame) (n : ℕ) (c : Step) (m : ℕ) (v' : VmState) → Here u V vf → n ≡ (point_of u.frames).1 → slice_get (code_in linked vf.function) vf.place ≡ Some (quiet n c)
      → ((key : ℕ) → act key c (record V { frames = vf ∷ vbelow }) vf vbelow ≡ VmActs false v') → words_in_use v'.frames ≤ 1792 → Goes u m v' → Goes u (most_steps c + m) (record V { frames = vf ∷ vbelow })
  quiet_way u V vf vbelow n c m v' here number h acts room rest =
      let ran : (key : ℕ) → vm_step linked key (record V { frames = vf ∷ vbelow }) ≡ VmActs false v' = λ key. runs key false V vf vbelow (quiet n c) v' h (acts key) room in
      let words : vm_cost most_steps linked (record V { frames = vf ∷ vbelow }) ≡ most_steps c = ap (cost_of most_steps) h in
      let passes = λ (End : List ℕ → VmState → Type 0) (after : Along up low (vm_cost most_steps linked) u End m [] v').
      quiet_step up low (vm_cost most_steps linked) u End (most_steps c + m) m [] (record V { frames = vf ∷ vbelow }) v'
      (shows_at u V vf vbelow (quiet n c) here number h (ap is_fit (ran 0)))
      (ap is_commit h) (ap vm_heard (ran 0)) (omega (arith, words)) (λ key w. ap state_after (ran key)) after in
      record { way = passes (Ends up low R u) rest.way; strays = λ a s. passes (StraysAt program.subroutines linked u a) (rest.strays a s) }

  -- the commit
  pub last_way : (u : State) (V : VmState) (vf : VmFrame) (vbelow : List VmFrame) (n : ℕ) (c : Step) (heard : Bool) (u' : ℕ → State) (v' : ℕ → VmState) → Here u V vf → n ≡ (point_of u.frames).1 → slice_get (code_in linked vf.function) vf.place ≡ Some (commit n c)
      → ((key : ℕ) → act key c (record V { frames = vf ∷ vbelow }) vf vbelow ≡ VmActs heard (v' key)) → ((key : ℕ) → words_in_use (v' key).frames ≤ 1792)
      → ((key : ℕ) → step program.subroutines key u ≡ Acts heard (u' key)) → ((key : ℕ) → R (u' key) (v' key)) → Goes u (most_steps c) (record V { frames = vf ∷ vbelow })
  last_way u V vf vbelow n c heard u' v' here number h acts room steps matches =
      let ran : (key : ℕ) → vm_step linked key (record V { frames = vf ∷ vbelow }) ≡ VmActs heard (v' key) = λ key. runs key heard V vf vbelow (commit n c) (v' key) h (acts key) (room key) in
      let words : vm_cost most_steps linked (record V { frames = vf ∷ vbelow }) ≡ most_steps c = ap (cost_of most_steps) h in
      record {
        way = last_step up low (vm_cost most_steps linked) u R (most_steps c) (record V { frames = vf ∷ vbelow })
            (shows_at u V vf vbelow (commit n c) here number h (ap is_fit (ran 0)))
            (ap is_commit h) (ap is_done (steps 0)) (ap vm_done (ran 0)) (ap vm_heard (ran 0) ∙ sym (ap has_heard (steps 0))) (omega (arith, words))
            (λ key w. (u' key, ap state_of (steps key), v' key, ap state_after (ran key), matches key));
        strays = λ a s. absurd (acted heard (u' 0) a (sym (steps 0) ∙ s 0));
      }
    where
      acted : (b : Bool) (x : State) (a : ℕ) → Acts b x ≡ Stray a → ⊥
      acted b x a e = cc e

  -- the last command, where there is no step: an address outside the memory
  pub stray_way : (u : State) (V : VmState) (vf : VmFrame) (vbelow : List VmFrame) (n : ℕ) (c : Step) (a : ℕ) → Here u V vf → n ≡ (point_of u.frames).1 → slice_get (code_in linked vf.function) vf.place ≡ Some (commit n c)
      → ((key : ℕ) → act key c (record V { frames = vf ∷ vbelow }) vf vbelow ≡ VmStrays (stray.Address a)) → ((key : ℕ) → step program.subroutines key u ≡ Stray a) → Goes u (most_steps c) (record V { frames = vf ∷ vbelow })
  stray_way u V vf vbelow n c a here number h acts steps =
      let ran : (key : ℕ) → vm_step linked key (record V { frames = vf ∷ vbelow }) ≡ VmStrays (stray.Address a) = λ key. strays_at key a V vf vbelow (commit n c) h (acts key) in
      let words : vm_cost most_steps linked (record V { frames = vf ∷ vbelow }) ≡ most_steps c = ap (cost_of most_steps) h in
      let astray : GoesAstray up low u (record V { frames = vf ∷ vbelow }) = record {
        shows = shows_at u V vf vbelow (commit n c) here number h (ap is_fit (ran 0));
        commit = ap is_commit h;
        going = ap is_done (steps 0);
        moving = ap vm_done (ran 0);
        deaf = (ap has_heard (steps 0), ap vm_heard (ran 0));
        none = λ key w. ap state_of (steps key);
      } in
      record {
        way = last (most_steps c) [] (record V { frames = vf ∷ vbelow }) (strays (record V { frames = vf ∷ vbelow }) astray) (omega (arith, words));
        strays = λ a' s. last (most_steps c) [] (record V { frames = vf ∷ vbelow })
            (record {
              astray = astray;
              unheard = refl;
              address = subst (λ x. (key : ℕ) → vm_step linked key (record V { frames = vf ∷ vbelow }) ≡ VmStrays (stray.Address x)) (one a a' (sym (steps 0) ∙ s 0)) ran;
            }) (omega (arith, words));
      }
    where
      one : (x y : ℕ) → Stray x ≡ Stray y → x ≡ y
      one x y e = cc e
