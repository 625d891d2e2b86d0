-- The step of the top frame, by its next part or by its act.
use Rattle.std.specs.Prelude.{IfOk, OnErr, slice_get}
use Rattle.std.proofs.Common.{Result, Ok, Err, ◌≡◌, ℕ, ◌+◌, ◌-◌, ◌≤◌, List, ◌∷◌, true, false, Some, None, length, drop, map, reverse, refl, sym, ap, ◌∙◌, arith}
use Rattle.std.proofs.lemmas.List.{length-reverse}
use Rattle.jack_meaning.specs.Text.{Expression, Value, Open, Text, Next, Subroutine}
use Rattle.jack_meaning.specs.Expressions.{rewrite}
use Rattle.jack_meaning.specs.Meaning.{Frame, Outcome, Acts, Done, step, step_first, step_part, passed_over, filled_text, after_return, after_store}
use Rattle.jack_core.specs.declared.tree.Part.{Part}
use Rattle.jack_core.specs.declared.program.Statement.{Statement}
use Rattle.jack_core.specs.Heights.{takes, height}
use Rattle.jack_core.specs.Reading.{make_expression, build_expressions}
use Rattle.jack_machine.specs.Parts.{parts_of, wanted_in, wanted_count}
use Rattle.jack_machine.specs.Looks.{the_view, passed_values, spared_values, move_of, Sees}
use Rattle.jack_machine.specs.Inner.Fronts.{IsPut, IsFilled}
use Rattle.jack_machine.specs.Texts.{written_statement, written_first, begun_text, waiting, the_expressions, the_after}
use Rattle.jack_machine.specs.Effects.{act_of, outcome_on, HasEffect}
use Rattle.jack_machine.specs.Frames.{with_text, the_frame, state_over, the_state, IsLeft, IsNext, Applies, TopStep, StoresAt, called_state}
use Rattle.jack_machine.specs.declared.effects.Effect.{Effect}
use Rattle.jack_machine.specs.declared.looking.Memory.{Memory}
use Rattle.jack_machine.specs.declared.looking.Sight.{Sight}
use Rattle.jack_machine.specs.declared.fronts.First.{First}
use Rattle.jack_machine.specs.declared.fronts.Front.{Front}
use Rattle.jack_machine.specs.declared.frames.Frame.{Frame as FrameTree}
use Rattle.jack_machine.specs.declared.frames.Act.{Act}
use Rattle.jack_machine.proofs.Lists.{reverse_more, reverse_last, with_first}
use Rattle.jack_machine.proofs.Places.{is_move}
use Rattle.jack_machine.proofs.Fills.{begun_filled}
use Rattle.jack_machine.proofs.Fitting.{next_is, has_operands, fits_behind, all_done, all_wanted, spared_length, put_values}
use Rattle.jack_machine.proofs.Following.{begun_more}
use Rattle.jack_machine.proofs.Firsts.{first_begins, part_moves, statement_acts, start_acts}

sight_moves : (key : ℕ) (ws : List ℕ) (sight : Sight) → is_move (move_of key ws sight) ≡ true
sight_moves key ws (Sight.Puts w) = refl
sight_moves key ws Sight.Hears = refl
sight_moves key ws (Sight.Calls g) = refl
sight_moves key ws (Sight.Strays a) = refl

module _ (subs : List Subroutine) (below : List Frame) (key : ℕ) (f : FrameTree) (m : Memory) where
  abbrev front : Front
  front = f.text.front

  abbrev first : First
  first = f.text.front.first

  abbrev ws : List ℕ
  ws = f.text.front.values.items

  abbrev rest : Text
  rest = the_after f.text.after.items

  abbrev behind_it : List Part
  behind_it = drop (f.text.front.done + 1) (parts_of f.text.front.first)

  abbrev step_of : Text → Outcome
  step_of t = step_first subs key (the_state f m below) (the_frame f) below t

  -- the text with the part that is next in another form
  abbrev with_part : Part → Expression → Text
  with_part p x = written_first first (build_expressions (x ∷ map Value (reverse (spared_values p ws))) behind_it) rest

  pub top_moves : (p : Part) (sight : Sight) → IsNext p f → Sees (the_view f.variables m key) p ws sight
      → step subs key (the_state f m below) ≡ step_part subs (the_state f m below) (the_frame f) below (move_of key (passed_values p ws) sight) (with_part p) Done
  top_moves p sight next sees =
      let r : Expression = make_expression p (map Value (passed_values p ws)) in
      let moves : is_move (rewrite (the_view f.variables m key) r) ≡ true = ap is_move sees ∙ sight_moves key (passed_values p ws) sight in
      let enough : takes p ≤ length ws = has_operands front p next in
      let count : length (reverse (spared_values p ws)) + 1 ≡ length ws - takes p + 1 = omega (arith, length-reverse (spared_values p ws), spared_length p ws enough) in
      let fits : height (length (reverse (spared_values p ws)) + 1) behind_it ≡ Some (wanted_count first) = ap (λ n. height n behind_it) count ∙ fits_behind front p next in
      first_begins subs key (the_state f m below) (the_frame f) below rest first front.done ws front.fits
      ∙ ap (λ ps. step_of (written_first first (build_expressions (map Value (reverse ws)) ps) rest)) (next_is front p next)
      ∙ ap (λ l. step_of (written_first first (build_expressions l behind_it) rest)) (put_values p ws enough)
      ∙ part_moves subs key (the_state f m below) (the_frame f) below rest r moves first (reverse (spared_values p ws)) behind_it fits
      ∙ ap (λ x. step_part subs (the_state f m below) (the_frame f) below x (with_part p) Done) sees

  -- all parts are done
  all_begun : slice_get (parts_of first) front.done ≡ None → step subs key (the_state f m below) ≡ step_of (written_first first (map Value (reverse ws)) rest)
  all_begun none =
      first_begins subs key (the_state f m below) (the_frame f) below rest first front.done ws front.fits
      ∙ ap (λ ps. step_of (written_first first (build_expressions (map Value (reverse ws)) ps) rest)) (all_done front none)

  pub start_steps : (init : ℕ) → slice_get (parts_of first) front.done ≡ None → first ≡ First.Start init → step subs key (the_state f m below) ≡ passed_over (the_state f m below) (the_frame f) below rest
  start_steps init none is =
      all_begun none ∙ ap (λ x. step_of (written_first x (map Value (reverse ws)) rest)) is
      ∙ start_acts subs key (the_state f m below) (the_frame f) below rest init ws (all_wanted front none ∙ ap wanted_count is)

  module _ (t : Statement) (effect : Effect) (none : slice_get (parts_of first) front.done ≡ None)
      (acts : step subs key (the_state f m below) ≡ act_of (the_state f m below) (the_frame f) below (written_statement t (map Value (reverse ws))) rest)
      (has : HasEffect f.variables.this (written_statement t (map Value (reverse ws))) effect) where
    abbrev its : List Frame → Outcome
    its b = outcome_on (the_state f m b) (the_frame f) b (Next (written_statement t (the_expressions front)) rest) effect

    effect_is : step subs key (the_state f m below) ≡ its below
    effect_is =
        acts ∙ has (the_state f m below) (the_frame f) below rest refl
        ∙ ap (λ ps. outcome_on (the_state f m below) (the_frame f) below (Next (written_statement t (build_expressions (map Value (reverse ws)) ps)) rest) effect) (sym (all_done front none))

    pub acted : (act : Act) (f' : FrameTree) (m' : Memory) → Applies t effect f m act f' m' → TopStep subs below key f m act f' m'
    acted Act.Acted f' m' a = effect_is ∙ a below
    acted (Act.Returns w) f' m' a = (effect_is ∙ a.0 below, a.1)
    acted (Act.Strays w) f' m' a = (effect_is ∙ a.0 below, a.1)
    acted Act.Done f' m' a = (effect_is ∙ a.0 below, a.1)
    acted Act.Heard f' m' a = absurd a
    acted (Act.Calls g n) f' m' a = absurd a

  pub statement_steps : (t : Statement) (u : First) → slice_get (parts_of first) front.done ≡ None → first ≡ u → wanted_count u ≡ wanted_in t
      → ((es : List Expression) → written_first u es rest ≡ Next (written_statement t es) rest) → step subs key (the_state f m below) ≡ act_of (the_state f m below) (the_frame f) below (written_statement t (map Value (reverse ws))) rest
  statement_steps t u none is want same =
      all_begun none ∙ ap (λ x. step_of (written_first x (map Value (reverse ws)) rest)) is ∙ ap step_of (same (map Value (reverse ws)))
      ∙ statement_acts subs key (the_state f m below) (the_frame f) below rest t ws (all_wanted front none ∙ ap wanted_count is ∙ want)

-- the text after a part is done
module _ (p : Part) (w : ℕ) (old new : Front) (is : IsPut p w old new) (rest : Text) where
  abbrev low : List ℕ
  low = reverse (spared_values p old.values.items)

  after_put : (standing : List ℕ → List Expression) → begun_text new.first new.done (build_expressions (standing (reverse new.values.items)) (drop new.done (parts_of new.first))) rest
      ≡ written_first old.first (build_expressions (standing (w ∷ low)) (drop (old.done + 1) (parts_of old.first))) rest
  after_put standing =
      ap (λ l. begun_text new.first new.done (build_expressions (standing (reverse l)) (drop new.done (parts_of new.first))) rest) is.values
      ∙ ap (λ l. begun_text new.first new.done (build_expressions (standing l) (drop new.done (parts_of new.first))) rest) (reverse_more (spared_values p old.values.items) w)
      ∙ ap (λ n. begun_text new.first n (build_expressions (standing (w ∷ low)) (drop n (parts_of new.first))) rest) is.done
      ∙ ap (λ x. begun_text x (old.done + 1) (build_expressions (standing (w ∷ low)) (drop (old.done + 1) (parts_of x))) rest) is.first
      ∙ begun_more old.first old.done (build_expressions (standing (w ∷ low)) (drop (old.done + 1) (parts_of old.first))) rest

  pub put_text : begun_text new.first new.done (the_expressions new) rest ≡ written_first old.first (build_expressions (Value w ∷ map Value low) (drop (old.done + 1) (parts_of old.first))) rest
  put_text = after_put (map Value)

  pub put_waiting : begun_text new.first new.done (build_expressions (waiting (reverse new.values.items)) (drop new.done (parts_of new.first))) rest
      ≡ written_first old.first (build_expressions (Open ∷ map Value low) (drop (old.done + 1) (parts_of old.first))) rest
  put_waiting = after_put waiting

-- the text after a return
pub fill_text : (w : ℕ) (old new : Front) (rest : Text) → IsFilled w old new
    → begun_text new.first new.done (the_expressions new) rest ≡ filled_text w (begun_text old.first old.done (build_expressions (waiting (reverse old.values.items)) (drop old.done (parts_of old.first))) rest)
fill_text w old new rest is =
    ap (λ l. begun_text new.first new.done (build_expressions (map Value (reverse l)) (drop new.done (parts_of new.first))) rest) is.values
    ∙ ap (λ l. begun_text new.first new.done (build_expressions (map Value l) (drop new.done (parts_of new.first))) rest) (reverse_last old.values.items w)
    ∙ ap (λ n. begun_text new.first n (build_expressions (map Value (with_first w (reverse old.values.items))) (drop n (parts_of new.first))) rest) is.done
    ∙ ap (λ x. begun_text x old.done (build_expressions (map Value (with_first w (reverse old.values.items))) (drop old.done (parts_of x))) rest) is.first
    ∙ sym (begun_filled w old.first old.done (reverse old.values.items) (drop old.done (parts_of old.first)) rest)

pub left_state : (f f' : FrameTree) (m m' : Memory) (below : List Frame) → IsLeft f m f' m' → the_state f' m' below ≡ the_state f m below
left_state f f' m m' below s = ap (λ x. the_state x m' below) s.0 ∙ ap (λ x. the_state f x below) s.1

pub left_called : (subs : List Subroutine) (f f' : FrameTree) (m m' : Memory) (below : List Frame) (g n : ℕ) → IsLeft f m f' m' → called_state subs f m below g n ≡ called_state subs f' m' below g n
left_called subs f f' m m' below g n s = ap (λ x. called_state subs x m below g n) (sym s.0) ∙ ap (λ x. called_state subs f' x below g n) (sym s.1)

-- the caller goes on
pub returned_to : (f top : FrameTree) (m m' : Memory) (below below' : List Frame) (caller : Frame) (w : ℕ) → m' ≡ m → below ≡ caller ∷ below' → the_frame top ≡ record caller { text = filled_text w caller.text }
    → after_return (the_state f m below) below w ≡ Acts false (the_state top m' below')
returned_to f top m m' below below' caller w same e h =
    ap (λ (l : List Frame). after_return (the_state f m below) l w) e
    ∙ ap (λ (x : Frame). Acts false (state_over x m below')) (sym h)
    ∙ ap (λ x. Acts false (the_state top x below')) (sym same)

pub on_err : {T E : Type 0} (r : Result T E) (P : Type 0) → P → OnErr r P
on_err (Ok x) P p = tt
on_err (Err e) P p = p

-- a store inside the memory
pub stored_over : (f : FrameTree) (m m' : Memory) (below : List Frame) (a w : ℕ) (text : Text) (text' : Text) → StoresAt a w m true m' → text' ≡ text
    → after_store (the_state f m below) (the_frame f) below text a w ≡ Acts false (state_over (with_text f text') m' below)
stored_over f m m' below a w text text' s e =
    s.0 (the_state f m below) (the_frame f) below text refl
    ∙ ap (λ x. Acts false (record { frames = with_text f x ∷ below; statics = m.statics.items; words = m'.words.items })) (sym e)
    ∙ ap (λ x. Acts false (record { frames = with_text f text' ∷ below; statics = x; words = m'.words.items })) (sym s.1)

pub if_err : {T E : Type 0} {P Q : Type 0} (r : Result T E) → (P → Q) → OnErr r P → OnErr r Q
if_err (Ok x) h p = tt
if_err (Err e) h p = h p

pub if_ok : {T E : Type 0} {P Q : T → Type 0} (r : Result T E) → ((x : T) → P x → Q x) → IfOk r P → IfOk r Q
if_ok (Ok x) h p = h x p
if_ok (Err e) h p = tt
