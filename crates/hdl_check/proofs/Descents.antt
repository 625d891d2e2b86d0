-- A search goes down into a part's chip, and up again.
use Rattle.std.proofs.Common.{◌≡◌, ℕ, ◌+◌, ◌≤◌, inr, Bool, true, false, cond, List, [], ◌∷◌, ◌++◌, length, length-append, set, Option, Some, None, refl, sym, ap, subst, ◌∙◌, arith}
use Rattle.std.specs.Prelude.{slice_get, ◌||◌}
use Rattle.std.specs.Str.{bytes_eq}
use Rattle.std.proofs.lemmas.Option.{slice_get_within}
use Rattle.hdl_tree.specs.declared.library.Entry.{Entry}
use Rattle.hdl_tree.specs.Chips.{Chips, parts_of}
use Rattle.hdl_tree.specs.Writable.{is_among}
use Rattle.hdl_check.specs.declared.fault.NamedFault.{NamedFault}
use Rattle.hdl_check.specs.declared.fault.FaultKind.TheVariants as kinds
use Rattle.hdl_check.specs.Faults.{fault_in, part_fault_by}
use Rattle.hdl_check.specs.Whole.{AreDistinct, Tells}
use Rattle.hdl_check.specs.declared.fault.ElabFault.{ElabFault}
use Rattle.hdl_check.specs.Inner.Stacks.{from_bottom}
use Rattle.hdl_check.specs.Inner.Progress.{IsProgress, Avoids, AreOpen, is_open, IsDone, PartFails, PartsFail, FailsInside, ChipIsFine}
use Rattle.hdl_check.specs.Inner.Frames.{IsBegun, IsFrame, HasSameChip, WaitsFor, names_of, StandsIn, IsStanding, AreStanding, IsEnded, IsSearch, IsOnTop}
use Rattle.hdl_check.specs.declared.walk.Frame.{Frame}
use Rattle.hdl_check.specs.declared.stage.Stage.{Stage}
use Rattle.hdl_check.specs.declared.stage.Stage.TheVariants.{New, Open, Done}
use Rattle.hdl_check.proofs.Entering.{entering_fails, fails_at, at_entry}
use Rattle.hdl_check.proofs.Firsts.{open_avoids, parts_fail, chip_fails}
use Rattle.hdl_check.proofs.Keeping.{StaysDone, parts_kept, done_opened, done_closed, opened, opened_names, closed, closed_names, open_named, get_set_same}
use Rattle.hdl_check.proofs.Stages.{entry_there}
use Rattle.hdl_check.proofs.Telling.{tells_more}
use Rattle.hdl_check.proofs.Stacks.{top_of}

-- ---- a fault within is the fault of the whole

or_false : (a b : Bool) → (a || b) ≡ false → b ≡ false
or_false true b h = absurd cc
or_false false b h = h

avoids_tail : (chips : Chips) (stages : List Stage) (r : ℕ) (name : List ℕ) (names : List (List ℕ)) → Avoids chips stages r (name ∷ names) → Avoids chips stages r names
avoids_tail chips stages r name names h k q entry e lt there = or_false (bytes_eq entry.name name) (is_among entry.name names) (h k q entry e lt there)

apart_none : (names : List (List ℕ)) (chip name : List ℕ) (inner : Entry) (o : Option Entry) → o ≡ Some inner → is_among inner.name names ≡ false → part_fault_by names chip name o ≡ None
apart_none names chip name inner o e apart = ap (part_fault_by names chip name) e ∙ ap (λ (c : Bool). cond c (Some (fault_in chip kinds.Recursive name)) None) apart

module _ (chips : Chips) (stages : List Stage) (done : ℕ) (progress : IsProgress chips stages done) (top : ℕ) where
  -- what fails in the part at which the search stands fails in the chip
  frame_fails : (frame : Frame) (below : List Frame) (f : NamedFault) → IsFrame chips stages frame → Avoids chips stages done (names_of (frame ∷ below)) → PartsFail chips (names_of (frame ∷ below)) frame.entry.now f → FailsInside chips (names_of below) frame.number f
  frame_fails frame below f right avoids fails =
      fails_at chips (names_of below) frame.number frame.entry.now f right.wired.there
      (chip_fails chips stages done progress (names_of (frame ∷ below)) avoids frame.entry.now f right.head.pins right.head.body fails)

  pub whole_fails : (below : List Frame) (k : ℕ) (inner : Entry) (f : NamedFault) → slice_get chips.entries k ≡ Some inner → is_among inner.name (names_of below) ≡ false → StandsIn chips top below k → AreStanding chips stages top below → Avoids chips stages done (names_of below) → FailsInside chips (names_of below) k f → FailsInside chips [] top f
  whole_fails [] k inner f there apart inside others avoids fails = subst (λ n. FailsInside chips [] n f) inside fails
  whole_fails (g ∷ gs) k inner f there apart inside others avoids fails =
      let names = names_of (g ∷ gs) in
      let here = others.0 in
      let part = inside.part in
      let none : part_fault_by names g.entry.now.name part.chip (slice_get chips.entries k) ≡ None = apart_none names g.entry.now.name part.chip inner (slice_get chips.entries k) there apart in
      let one : PartFails chips names g.entry.now g.place f = entering_fails chips names g.entry.now g.place part inside.there k inner inside.inner.found there f (inr (none, fails)) in
      let all : PartsFail chips names g.entry.now f = parts_fail chips stages done progress names avoids g.entry.now g.place f here.right.fine one in
      whole_fails gs g.number g.entry.now f here.right.wired.there here.apart here.inside others.1 (avoids_tail chips stages done g.entry.now.name (names_of gs) avoids) (frame_fails g gs f here.right avoids all)

  pub top_fails : (frames : List Frame) (frame : Frame) (f : NamedFault) (t : IsOnTop chips top stages done frames frame) → PartsFail chips (names_of (frame ∷ t.below)) frame.entry.now f → FailsInside chips [] top f
  top_fails frames frame f t fails =
      let avoids = open_avoids chips stages done (names_of (frame ∷ t.below)) t.opened in
      let s = t.standing in
      whole_fails t.below frame.number frame.entry.now f s.right.wired.there s.apart s.inside t.others (avoids_tail chips stages done frame.entry.now.name (names_of t.below) avoids)
      (frame_fails frame t.below f s.right avoids fails)

  -- a chip that is not begun is not one of the open ones
  new_apart : (names : List (List ℕ)) (k : ℕ) (inner : Entry) → AreOpen chips stages names → slice_get chips.entries k ≡ Some inner → slice_get stages k ≡ Some New → is_among inner.name names ≡ false
  new_apart names k inner o there new = o k inner there ∙ ap is_open new

  pub inner_fails : (frames : List Frame) (frame : Frame) (k : ℕ) (inner : Entry) (f : NamedFault) (t : IsOnTop chips top stages done frames frame) → WaitsFor chips frame k → slice_get chips.entries k ≡ Some inner → slice_get stages k ≡ Some New → FailsInside chips (names_of (frame ∷ t.below)) k f → FailsInside chips [] top f
  inner_fails frames frame k inner f t waits there new fails =
      whole_fails (frame ∷ t.below) k inner f there (new_apart (names_of (frame ∷ t.below)) k inner t.opened there new) waits (t.standing, t.others)
      (open_avoids chips stages done (names_of (frame ∷ t.below)) t.opened) fails

-- ---- the chip on top

pub on_top : (chips : Chips) (top : ℕ) (stages : List Stage) (done : ℕ) (frames : List Frame) (frame : Frame) → IsSearch chips top stages done (frames ++ frame ∷ []) → IsOnTop chips top stages done frames frame
on_top chips top stages done frames frame s =
    let t = top_of s.stack frames frame s.items in
    let all = subst (λ (fs : List Frame). AreStanding chips stages top fs) t.is s.standing in
    record {
      progress = s.progress;
      below = t.below;
      items = t.items;
      opened = subst (λ (fs : List Frame). AreOpen chips stages (names_of fs)) t.is s.opened;
      standing = all.0;
      others = all.1;
    }

-- the same chip, further on
pub further_on : (chips : Chips) (top : ℕ) (stages : List Stage) (done : ℕ) (frames : List Frame) (old new : Frame) → HasSameChip old new → IsFrame chips stages new → IsOnTop chips top stages done frames old → IsOnTop chips top stages done frames new
further_on chips top stages done frames old new same right t = record {
  progress = t.progress;
  below = t.below;
  items = t.items;
  opened = subst (λ (x : Entry). AreOpen chips stages (x.name ∷ names_of t.below)) (sym same.entry) t.opened;
  standing = record {
    right = right;
    apart = ap (λ (x : Entry). is_among x.name (names_of t.below)) same.entry ∙ t.standing.apart;
    inside = subst (λ n. StandsIn chips top t.below n) (sym same.number) t.standing.inside;
  };
  others = t.others;
}

-- ---- stages change

frame_kept : (chips : Chips) (a b : List Stage) (frame : Frame) → StaysDone a b → IsFrame chips a frame → IsFrame chips b frame
frame_kept chips a b frame h r = record { wired = r.wired; head = r.head; fine = parts_kept chips a b frame.entry.now frame.place h r.fine }

one_kept : (chips : Chips) (a b : List Stage) (top : ℕ) (frame : Frame) (below : List Frame) → StaysDone a b → IsStanding chips a top frame below → IsStanding chips b top frame below
one_kept chips a b top frame below h s = record { right = frame_kept chips a b frame h s.right; apart = s.apart; inside = s.inside }

all_kept : (chips : Chips) (a b : List Stage) (top : ℕ) (frames : List Frame) → StaysDone a b → AreStanding chips a top frames → AreStanding chips b top frames
all_kept chips a b top [] h s = tt
all_kept chips a b top (f ∷ fs) h s = (one_kept chips a b top f fs h s.0, all_kept chips a b top fs h s.1)

-- a chip at its first part is right up to there
begun_frame : (chips : Chips) (stages : List Stage) (k : ℕ) (frame : Frame) → IsBegun chips k frame → IsFrame chips stages frame
begun_frame chips stages k frame b = record { wired = b.wired; head = b.head; fine = λ i part lt there. absurd (omega (arith, lt, b.place)) }

-- ---- up: the chip on top is done

ended_by : (chips : Chips) (stages : List Stage) (top k r : ℕ) (below : List Frame) → slice_get stages k ≡ Some (Done r) → StandsIn chips top below k → IsEnded stages top below
ended_by chips stages top k r [] h inside = (r, ap (slice_get stages) (sym inside) ∙ h)
ended_by chips stages top k r (g ∷ gs) h inside = tt

pub up : (chips : Chips) (distinct : AreDistinct chips.entries) (top : ℕ) (stages : List Stage) (done : ℕ) (frames : List Frame) (frame : Frame) → IsOnTop chips top stages done frames frame → length (parts_of chips frame.entry.now) ≤ frame.place → IsSearch chips top (set stages frame.number (Done done)) (done + 1) frames
up chips distinct top stages done frames frame t last =
    let k = frame.number in
    let right = t.standing.right in
    let here = right.wired.there in
    let at : slice_get stages k ≡ Some Open = open_named chips stages k frame.entry.now (names_of t.below) here t.opened in
    let fine : ChipIsFine chips stages frame.entry.now = record { pins = right.head.pins; body = right.head.body; parts = λ i part there. right.fine i part (omega (arith, slice_get_within (parts_of chips frame.entry.now) i part there, last)) there } in
    let fine_all : (entry : Entry) → slice_get chips.entries k ≡ Some entry → ChipIsFine chips stages entry = λ entry there. subst (λ (x : Entry). ChipIsFine chips stages x) (at_entry chips k frame.entry.now entry here there) fine in
    record {
      progress = closed chips distinct stages done k t.progress at fine_all;
      stack = t.below;
      items = t.items;
      opened = closed_names chips distinct stages done k t.progress at fine_all frame.entry.now (names_of t.below) here t.standing.apart t.opened;
      standing = all_kept chips stages (set stages k (Done done)) top t.below (done_closed chips distinct stages done k t.progress at fine_all) t.others;
      ended = ended_by chips (set stages k (Done done)) top k done t.below (get_set_same stages k (Done done) Open at) t.standing.inside;
    }

-- ---- down: a chip is put on top

pub down : (chips : Chips) (distinct : AreDistinct chips.entries) (top : ℕ) (stages : List Stage) (done : ℕ) (frames : List Frame) (frame : Frame) (k : ℕ) (inner : Frame) → IsOnTop chips top stages done frames frame → WaitsFor chips frame k → slice_get stages k ≡ Some New → IsBegun chips k inner → IsSearch chips top (set stages inner.number Open) done ((frames ++ frame ∷ []) ++ inner ∷ [])
down chips distinct top stages done frames frame k inner t waits new begun =
    let n = inner.number in
    let here : slice_get stages n ≡ Some New = ap (slice_get stages) begun.number ∙ new in
    let names = names_of (frame ∷ t.below) in
    let kept : StaysDone stages (set stages n Open) = done_opened chips distinct stages done n t.progress here in
    record {
      progress = opened chips distinct stages done n t.progress here;
      stack = inner ∷ frame ∷ t.below;
      items = ap (λ (fs : List Frame). (fs ++ frame ∷ []) ++ inner ∷ []) t.items;
      opened = opened_names chips distinct stages done n t.progress here inner.entry.now names begun.wired.there t.opened;
      standing = (
        record {
          right = begun_frame chips (set stages n Open) k inner begun;
          apart = new_apart chips stages done t.progress top names n inner.entry.now t.opened begun.wired.there here;
          inside = subst (λ m. WaitsFor chips frame m) (sym begun.number) waits;
        },
        (one_kept chips stages (set stages n Open) top frame t.below kept t.standing, all_kept chips stages (set stages n Open) top t.below kept t.others),
      );
      ended = tt;
    }

-- the first chip
pub first_down : (chips : Chips) (distinct : AreDistinct chips.entries) (stages : List Stage) (done k : ℕ) (inner : Frame) → IsProgress chips stages done → AreOpen chips stages [] → slice_get stages k ≡ Some New → IsBegun chips k inner → IsSearch chips k (set stages inner.number Open) done (inner ∷ [])
first_down chips distinct stages done k inner progress o new begun =
    let n = inner.number in
    let here : slice_get stages n ≡ Some New = ap (slice_get stages) begun.number ∙ new in
    record {
      progress = opened chips distinct stages done n progress here;
      stack = inner ∷ [];
      items = refl;
      opened = opened_names chips distinct stages done n progress here inner.entry.now [] begun.wired.there o;
      standing = (record { right = begun_frame chips (set stages n Open) k inner begun; apart = refl; inside = begun.number }, tt);
      ended = tt;
    }

-- ---- what the step says

pub top_wrong : (chips : Chips) (stages : List Stage) (done top : ℕ) (frames : List Frame) (frame : Frame) (t : IsOnTop chips top stages done frames frame) (e : ElabFault) → Tells (PartsFail chips (names_of (frame ∷ t.below)) frame.entry.now) e → Tells (FailsInside chips [] top) e
top_wrong chips stages done top frames frame t e h =
    tells_more (PartsFail chips (names_of (frame ∷ t.below)) frame.entry.now) (FailsInside chips [] top) e (λ f w. top_fails chips stages done t.progress top frames frame f t w) h

pub inner_wrong : (chips : Chips) (stages : List Stage) (done top : ℕ) (frames : List Frame) (frame : Frame) (k : ℕ) (t : IsOnTop chips top stages done frames frame) (e : ElabFault) → WaitsFor chips frame k → slice_get stages k ≡ Some New → ((outer : List (List ℕ)) → Tells (FailsInside chips outer k) e) → Tells (FailsInside chips [] top) e
inner_wrong chips stages done top frames frame k t e waits new h =
    let x = entry_there chips.entries k waits.inner.within in
    let names = names_of (frame ∷ t.below) in
    tells_more (FailsInside chips names k) (FailsInside chips [] top) e (λ f w. inner_fails chips stages done t.progress top frames frame k x.0 f t waits x.1 new w) (h names)

-- ---- the end

end_by : (stages : List Stage) (top : ℕ) (frames stack : List Frame) → frames ≡ from_bottom stack → length frames ≡ 0 → IsEnded stages top stack → IsDone stages top
end_by stages top frames [] e h ended = ended
end_by stages top frames (f ∷ fs) e h ended = let long = ap length e in absurd (omega (arith, h, long, length-append (from_bottom fs) (f ∷ [])))

pub at_end : (chips : Chips) (top : ℕ) (stages : List Stage) (done : ℕ) (frames : List Frame) → IsSearch chips top stages done frames → length frames ≡ 0 → IsDone stages top
at_end chips top stages done frames s h = end_by stages top frames s.stack s.items h s.ended
