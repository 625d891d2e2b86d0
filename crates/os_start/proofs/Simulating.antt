-- Each step of the meaning while a plain routine runs is made by commands of the virtual machine. Together they are at most 105 steps of the
-- computer. Other routines may be nested as deep, and have as many locals, as they like.
use Rattle.std.proofs.Common.{◌≡◌, ◌⊎◌, inl, inr, ℕ, ◌+◌, ◌≤◌, true, false, ◌&&◌, ◌*◌, List, [], ◌∷◌, length, refl, sym, ap, ◌∙◌, subst, arith}
use Rattle.std.specs.Prelude.{◌-◌, nat_le, unwrap_or, Some, None, slice_index, slice_set}
use Rattle.std.proofs.lemmas.Bool.Decides.{nat_tests}
use Rattle.std.proofs.lemmas.List.{length-replicate, length-set}
use Rattle.outer_world.specs.declared.point.Point.{Point}
use Rattle.simulation.specs.Layers.{Shows, Ends, lands, rests, strays, last, onward, Way, Simulates}
use Rattle.vm_tree.specs.declared.command.Segment.TheVariants as segment
use Rattle.vm_link.specs.declared.linked.Step.{Step}
use Rattle.vm_link.specs.declared.linked.Step.TheVariants as command
use Rattle.vm_link.specs.declared.linked.Linked.{Linked}
use Rattle.vm_machine.specs.State.{Frame as VmFrame, State as VmState}
use Rattle.vm_machine.specs.Step.{code_in}
use Rattle.vm_machine.specs.Step.{Done as VmDone, step as vm_step}
use Rattle.vm_machine.specs.Level.{is_done, is_fit, vm_system, vm_cost, subroutine_of, number_of as function_number, point_of as vm_point}
use Rattle.vm_templates.specs.Budgets.{most_steps}
use Rattle.jack_meaning.specs.Text.{Value, Call, Open, NoMore, Let, LetField, LetThis, Store, Do, If, While, Return, Text, End, Next, Program}
use Rattle.jack_meaning.specs.Expressions.{standing}
use Rattle.jack_meaning.specs.Meaning.{subroutine_at, new_frame, Frame, State, Stray, Done, step_first, text_point}
use Rattle.jack_meaning.specs.StackWords.{stack_words, standing_first}
use Rattle.jack_meaning.specs.Level.{meaning_of, point_in}
use Rattle.jack_compiler.specs.Templates.{Numbers, commit}
use Rattle.jack_compiler.specs.Fits.{IsClosed, IsFit, IsFitSubroutine, without_object}
use Rattle.jack_compiler.specs.Places.{BegunText, Making}
use Rattle.jack_compiler.specs.Match.{before, answered, after, entering, between, begun, making, IsCodeOf, scope_at, Match, TopMatch, AtStart, StartMatch, Callers, MatchFrames, SameWords}
use Rattle.jack_compiler.proofs.Ways.{Goes, R, up, low, way_more, last_way}
use Rattle.jack_compiler.proofs.Parts.{is_below}
use Rattle.jack_compiler.proofs.Begun.{begun_way, making_way}
use Rattle.jack_compiler.proofs.Entering.{between_way}
use Rattle.jack_compiler.proofs.Whole.{callers_words, begun_length, part_length, start_frame, start_vm, start_frame_is}
use Rattle.os_start.proofs.Plain.{runs_plain, plain_meaning, first_true, second_true, IsPlain, plain_is}
use Rattle.os_start.proofs.Entering.{plain_way}

fits_are : (w : ℕ) → nat_le (w + 8) 1792 ≡ true → w + 8 ≤ 1792
fits_are w h = grind (arith, nat_tests)

module _ (program : Program) (numbers : Numbers) (linked : Linked) (agree : IsCodeOf program numbers linked) (deepest few : ℕ) (fit : IsFit program numbers deepest few) where
  -- a plain routine is fit with the depth of such routines
  plain_fits : (g : ℕ) → numbers.keeps g ≡ true → IsPlain (subroutine_at program.subroutines g) → IsFitSubroutine program.subroutines numbers 4 few (subroutine_at program.subroutines g)
  plain_fits g kept plain = let h = fit.each g kept in record { body = h.body; closed = h.closed; takes = h.takes; nested = plain.nested; few = h.few }

  number_is : (gs : ℕ) (vf : VmFrame) → numbers.keeps gs ≡ true → vf.function ≡ Some (numbers.function gs) → subroutine_of linked vf.function ≡ gs
  number_is gs vf kept function = let fa = agree.function gs kept in ap (subroutine_of linked) function ∙ (ap function_number fa.1 ∙ fa.2)

  -- a call steps
  top_way : (ss ws : List ℕ) (f g : Frame) (below : List Frame) (V : VmState) (vf vg : VmFrame) (vbs : List VmFrame) → SameWords program numbers linked 4 ss ws V → Callers program numbers linked 4 (g ∷ below) (vg ∷ vbs)
      → stack_words (f ∷ g ∷ below) + 8 ≤ 1792 → IsPlain (subroutine_at program.subroutines f.subroutine) → TopMatch program numbers linked 4 f vf → Goes program numbers linked 4 (record { frames = f ∷ g ∷ below; statics = ss; words = ws }) 105 (record V { frames = vf ∷ vg ∷ vbs })
  top_way ss ws f g below V vf vg vbs memory callers room plain (entering e) =
      let sub = subroutine_at program.subroutines f.subroutine in
      let fits = plain_fits f.subroutine e.kept plain in
      let count = sub.locals in
      let lower = callers_words program numbers linked 4 g below vg vbs callers in
      let args = ap length e.arguments in
      let locals : length f.locals ≡ count = ap length e.locals ∙ length-replicate {A = ℕ} count 0 in
      way_more program numbers linked 4 _ (14 + 4 * count + (2 * 4 + 71)) 105 _ (omega (arith, plain.locals))
      (plain_way program numbers linked 4 agree ss ws f g below V vf vg vbs (record { words = memory.words; sub = number_is f.subroutine vf e.kept e.function }) memory callers e count refl (omega (arith, room, lower, args, locals)) few fits plain.kind)
  top_way ss ws f g below V vf vg vbs memory callers room plain (between same closed none r) =
      let lower = callers_words program numbers linked 4 g below vg vbs callers in
      let args = ap length same.arguments in
      let locals = ap length same.locals in
      subst (λ vs. Goes program numbers linked 4 (record { frames = f ∷ g ∷ below; statics = ss; words = ws }) 105 (record V { frames = record vf { values = vs } ∷ vg ∷ vbs })) (sym none)
      (way_more program numbers linked 4 _ (2 * 4 + 71) 105 _ (omega arith)
      (between_way program numbers linked 4 agree ss ws f g below V vf vg vbs (record { words = memory.words; sub = number_is f.subroutine vf same.kept same.function }) memory callers (omega (arith, room, lower, args, locals)) f.text refl closed same vf.place vf.that r))
  top_way ss ws f g below V vf vg vbs memory callers room plain (begun same closed later b) = begun_with f.text refl closed b (begun_length program.subroutines numbers (scope_at program numbers linked 4 f.subroutine) 4 (code_in linked vf.function) f.text vf.place vf.values b)
    where
      begun_with : (t : Text) → f.text ≡ t → IsClosed t → BegunText program.subroutines numbers (scope_at program numbers linked 4 f.subroutine) 4 (code_in linked vf.function) t vf.place vf.values → length vf.values ≤ standing_first f.text
          → Goes program numbers linked 4 (record { frames = f ∷ g ∷ below; statics = ss; words = ws }) 105 (record V { frames = vf ∷ vg ∷ vbs })
      begun_with End text closed b many = absurd b
      begun_with (Next s rest) text closed b many =
          let lower = callers_words program numbers linked 4 g below vg vbs callers in
          let args = ap length same.arguments in
          let locals = ap length same.locals in
          way_more program numbers linked 4 _ 71 105 _ (omega arith)
          (begun_way program numbers linked 4 agree ss ws f g below V vf vg vbs (record { words = memory.words; sub = number_is f.subroutine vf same.kept same.function }) memory callers vf.place vf.values vf.that (omega (arith, room, lower, args, locals, many)) s rest
          (sym (ap text_point text), λ key. ap (step_first program.subroutines key (record { frames = f ∷ g ∷ below; statics = ss; words = ws }) f (g ∷ below)) text) closed same later b)
  top_way ss ws f g below V vf vg vbs memory callers room plain (making same closed unmade b) = making_with f.text refl closed b
    where
      making_with : (t : Text) → f.text ≡ t → IsClosed t → Making program.subroutines numbers (scope_at program numbers linked 4 f.subroutine) 4 (code_in linked vf.function) t vf.place vf.values
          → Goes program numbers linked 4 (record { frames = f ∷ g ∷ below; statics = ss; words = ws }) 105 (record V { frames = vf ∷ vg ∷ vbs })
      making_with End text closed b = absurd b
      making_with (Next (Let n x y) rest) text closed b = absurd b
      making_with (Next (LetField n x y) rest) text closed b = absurd b
      making_with (Next (Store n x y z) rest) text closed b = absurd b
      making_with (Next (Do n x) rest) text closed b = absurd b
      making_with (Next (If n o x y z) rest) text closed b = absurd b
      making_with (Next (While n x y) rest) text closed b = absurd b
      making_with (Next (Return n x) rest) text closed b = absurd b
      making_with (Next (LetThis n x) rest) text closed b =
          let lower = callers_words program numbers linked 4 g below vg vbs callers in
          let args = ap length same.arguments in
          let locals = ap length same.locals in
          let values = part_length program.subroutines numbers (scope_at program numbers linked 4 f.subroutine) 4 (code_in linked vf.function) (without_object (scope_at program numbers linked 4 f.subroutine)) n x _ [] vf.place vf.values b.part in
          let stands : standing_first f.text ≡ standing x = ap standing_first text in
          way_more program numbers linked 4 _ 71 105 _ (omega arith)
          (making_way program numbers linked 4 agree ss ws f g below V vf vg vbs (record { words = memory.words; sub = number_is f.subroutine vf same.kept same.function }) memory callers vf.place vf.values vf.that (omega (arith, room, lower, args, locals, values, stands)) n x rest
          (sym (ap text_point text), λ key. ap (step_first program.subroutines key (record { frames = f ∷ g ∷ below; statics = ss; words = ws }) f (g ∷ below)) text) closed same unmade b)

  -- its two commands are commits
  counted : (c : Step) → Some (record { step = c; statement = 1; commit = linked.marked }) ≡ Some (commit 1 c)
  counted c = ap (λ x. Some (record { step = c; statement = 1; commit = x })) agree.marked

  init_is : unwrap_or linked.start 0 ≡ numbers.function program.init
  init_is = ap (λ o. unwrap_or o 0) agree.start

  module _ (ss ws : List ℕ) (f : Frame) (V : VmState) (vf : VmFrame) (memory : SameWords program numbers linked 4 ss ws V) where
    abbrev GoesStart : Frame → VmFrame → Type 0
    GoesStart f' vf' = Goes program numbers linked 4 (record { frames = f' ∷ []; statics = ss; words = ws }) 105 (record V { frames = vf' ∷ [] })

    before_way : AtStart program numbers linked 4 f vf (Next (Do 1 (Call program.init NoMore)) End) 0 [] → GoesStart f vf
    before_way a =
        start_frame_is program numbers linked 4 f vf (Next (Do 1 (Call program.init NoMore)) End) 0 [] GoesStart a
        (way_more program numbers linked 4 _ 60 105 _ (omega arith)
        (last_way program numbers linked 4 _ V (start_vm vf 0 []) [] 1 (command.Call (unwrap_or linked.start 0) 0) false
        (λ key. record { frames = new_frame program.subroutines program.init [] ∷ start_frame f (Next (Do 1 Open) End) ∷ []; statics = ss; words = ws })
        (λ key. record V { frames = record { function = Some (unwrap_or linked.start 0); place = 0; arguments = []; locals = []; values = []; this = vf.this; that = vf.that } ∷ start_vm vf 1 [] ∷ [] })
        (record { words = memory.words; sub = refl }) refl (counted _) (λ key. refl) (λ key. omega arith) (λ key. refl)
        (λ key. record {
          frames = (
            entering (record { kept = fit.init; function = ap Some init_is; arguments = refl; arguments_length = sym fit.init_arguments; locals = refl; this = refl; text = refl; place = refl; none = refl; values = refl }),
            record { subroutine = refl; text_is = refl; function = refl; place_is = refl; values_are = refl },
          );
          memory = record { words = memory.words; statics = memory.statics; known = memory.known; free = memory.free; temps = memory.temps };
        })))

    answered_way : (w : ℕ) → AtStart program numbers linked 4 f vf (Next (Do 1 (Value w)) End) 1 (w ∷ []) → GoesStart f vf
    answered_way w a =
        let longer = length-set V.temps 0 w in
        start_frame_is program numbers linked 4 f vf (Next (Do 1 (Value w)) End) 1 (w ∷ []) GoesStart a
        (way_more program numbers linked 4 _ 12 105 _ (omega arith)
        (last_way program numbers linked 4 _ V (start_vm vf 1 (w ∷ [])) [] 1 (command.Pop segment.Temp 0) false
        (λ key. record { frames = start_frame f End ∷ []; statics = ss; words = ws })
        (λ key. record V { frames = start_vm vf 2 [] ∷ []; temps = slice_set V.temps 0 w })
        (record { words = memory.words; sub = refl }) refl (counted _) (λ key. rw (is_below 0 (length V.temps) (omega (arith, memory.temps))) refl) (λ key. omega arith) (λ key. refl)
        (λ key. record {
          frames = after (record { subroutine = refl; text_is = refl; function = refl; place_is = refl; values_are = refl });
          memory = record { words = memory.words; statics = memory.statics; known = memory.known; free = memory.free; temps = longer ∙ memory.temps };
        })))

    ended : vm_step linked 0 (record V { frames = start_vm vf 2 [] ∷ [] }) ≡ VmDone
    unfolding vm_step
    ended = refl

    after_way : AtStart program numbers linked 4 f vf End 2 [] → GoesStart f vf
    after_way a =
        start_frame_is program numbers linked 4 f vf End 2 [] GoesStart a
        (record {
          way = last 105 [] _
              (rests _
              (record {
                shows = record { words = λ x d. ap (λ l. slice_index l (x - 2048)) memory.words; point = inl refl; fits = ap is_fit ended };
                upper = refl;
                lower = ap is_done ended;
              })) (omega arith);
          strays = λ x s. absurd (no_stray x (s 0));
        })
      where
        no_stray : (x : ℕ) → Done ≡ Stray x → ⊥
        no_stray x h = cc h

    start_way : StartMatch program numbers linked 4 f vf → GoesStart f vf
    start_way (before a) = before_way a
    start_way (answered w a) = answered_way w a
    start_way (after a) = after_way a

  frames_way : (fs : List Frame) (ss ws : List ℕ) (vfs : List VmFrame) (V : VmState) → MatchFrames program numbers linked 4 fs vfs → SameWords program numbers linked 4 ss ws V → (nat_le (stack_words fs + 8) 1792 && runs_plain program.subroutines fs) ≡ true
      → Goes program numbers linked 4 (record { frames = fs; statics = ss; words = ws }) 105 (record V { frames = vfs })
  frames_way [] ss ws vfs V m memory h = absurd m
  frames_way (f ∷ []) ss ws [] V m memory h = absurd m
  frames_way (f ∷ []) ss ws (vf ∷ []) V m memory h = start_way ss ws f V vf memory m
  frames_way (f ∷ []) ss ws (vf ∷ vg ∷ vbs) V m memory h = absurd m
  frames_way (f ∷ g ∷ below) ss ws [] V m memory h = absurd m
  frames_way (f ∷ g ∷ below) ss ws (vf ∷ []) V m memory h = absurd m
  frames_way (f ∷ g ∷ below) ss ws (vf ∷ vg ∷ vbs) V m memory h =
      let room = first_true (nat_le (stack_words (f ∷ g ∷ below) + 8) 1792) (runs_plain program.subroutines (f ∷ g ∷ below)) h in
      let plain = second_true (nat_le (stack_words (f ∷ g ∷ below) + 8) 1792) (runs_plain program.subroutines (f ∷ g ∷ below)) h in
      top_way ss ws f g below V vf vg vbs memory m.1 (fits_are (stack_words (f ∷ g ∷ below)) room) (plain_is (subroutine_at program.subroutines f.subroutine) plain) m.0

  end_shows : (s : State) (pend : List ℕ) (v : VmState) → Ends (up program numbers linked 4) (low program numbers linked 4) (R program numbers linked 4) s pend v → Shows (up program numbers linked 4) (low program numbers linked 4) s v
  end_shows s pend v (lands _ _ l) = l.shows
  end_shows s pend v (rests _ l) = l.shows
  end_shows s pend v (strays _ l) = l.shows

  -- every state on a way shows the upper one
  way_shows : (s : State) (m : ℕ) (pend : List ℕ) (v : VmState) → Way (up program numbers linked 4) (low program numbers linked 4) (vm_cost most_steps linked) (R program numbers linked 4) s m pend v → Shows (up program numbers linked 4) (low program numbers linked 4) s v
  way_shows s m pend v (last _ _ _ l c) = end_shows s pend v l
  way_shows s m pend v (onward _ _ _ _ sh q c to e w) = sh

  pointed : (p q : Point) → (Some p ≡ Some q) ⊎ (Some p ≡ None) → Some p ≡ Some q
  pointed p q (inl h) = h
  pointed p q (inr h) = absurd (cc h)

  abbrev Related : State → VmState → Type 0
  Related = Match program numbers linked 4

  layer_way : (s : State) (v : VmState) → Related s v → (plain_meaning program.subroutines).fits s ≡ true → Goes program numbers linked 4 s 105 v
  layer_way s v m h = frames_way s.frames s.statics s.words v.frames v m.frames m.memory h

  -- nothing but the test of what is fit has changed
  shows_same : (s : State) (v : VmState) → Shows (meaning_of program.subroutines) (vm_system linked) s v → Shows (plain_meaning program.subroutines) (vm_system linked) s v
  shows_same s v h = record { words = h.words; point = h.point; fits = h.fits }

  ends_same : (s : State) (pend : List ℕ) (v : VmState) → Ends (meaning_of program.subroutines) (vm_system linked) Related s pend v → Ends (plain_meaning program.subroutines) (vm_system linked) Related s pend v
  ends_same s pend v (lands _ _ h) = lands pend v (record { shows = shows_same s v h.shows; commit = h.commit; going = h.going; moving = h.moving; leads = h.leads })
  ends_same s pend v (rests _ h) = rests v (record { shows = shows_same s v h.shows; upper = h.upper; lower = h.lower })
  ends_same s pend v (strays _ h) = strays v (record { shows = shows_same s v h.shows; commit = h.commit; going = h.going; moving = h.moving; deaf = h.deaf; none = h.none })

  way_same : (s : State) (m : ℕ) (pend : List ℕ) (v : VmState) → Way (meaning_of program.subroutines) (vm_system linked) (vm_cost most_steps linked) Related s m pend v → Way (plain_meaning program.subroutines) (vm_system linked) (vm_cost most_steps linked) Related s m pend v
  way_same s m pend v (last _ _ _ h c) = last m pend v (ends_same s pend v h) c
  way_same s m pend v (onward _ m' _ _ sh q c to e w) = onward m m' pend v (shows_same s v sh) q c to e (λ key k. way_same s m' _ (to key k) (w key k))

  pub simulates : Simulates (plain_meaning program.subroutines) (vm_system linked) (vm_cost most_steps linked) (Match program numbers linked 4) (λ s. 105)
  simulates = record {
    point = λ s v m h. pointed (vm_point linked v.frames) (point_in s) (way_shows s 105 [] v (layer_way s v m h).way).point;
    goes = λ s v m h. way_same s 105 [] v (layer_way s v m h).way;
  }
