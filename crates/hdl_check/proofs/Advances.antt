-- The check goes on from part to part.
use Rattle.std.proofs.Common.{◌≡◌, ℕ, ◌+◌, ◌-◌, ◌<◌, ◌≤◌, List, length, get_or, true, false, Option, Some, None, sym, ap, subst, ◌∙◌, arith}
use Rattle.std.specs.Prelude.{slice_get, MatchOption}
use Rattle.std.proofs.lemmas.Option.{slice_get-get_or}
use Rattle.hdl_tree.specs.declared.tree.Part.{Part}
use Rattle.hdl_tree.specs.declared.library.Entry.{Entry}
use Rattle.hdl_tree.specs.Chips.{Chips, parts_of}
use Rattle.hdl_check.specs.declared.fault.ElabFault.{ElabFault}
use Rattle.hdl_check.specs.Faults.{ports_of, connection_fault_in}
use Rattle.hdl_check.specs.Whole.{Tells}
use Rattle.hdl_check.specs.Inner.Progress.{IsProgress, AreOpen, IsDone, IsFirstOf, PartIsEntered, PartsAreFine, PartFails, PartsFail, HeadIsFine, IsInner, is_new, is_open}
use Rattle.hdl_check.specs.Inner.Frames.{IsWired, IsFrame, HasSameChip, IsOneFurther, WaitsFor}
use Rattle.hdl_check.specs.declared.walk.Frame.{Frame}
use Rattle.hdl_check.specs.declared.stage.Stage.{Stage}
use Rattle.hdl_check.specs.declared.stage.Stage.TheVariants.{New}
use Rattle.hdl_check.proofs.Entering.{connections_wrong, part_fine, parts_more}
use Rattle.hdl_check.proofs.Firsts.{open_avoids, parts_fail}
use Rattle.hdl_check.proofs.Stages.{entry_there, new_is, done_is}
use Rattle.hdl_check.proofs.Telling.{tells_more}

-- the part at which the check stands
pub part_here : (chips : Chips) (frame : Frame) (part d : Part) → IsWired chips frame → frame.place < length frame.parts.now → part ≡ get_or frame.parts.now frame.place d → slice_get (parts_of chips frame.entry.now) frame.place ≡ Some part
part_here chips frame part d w lt is =
    ap (λ ps. slice_get ps frame.place) (sym w.parts) ∙ slice_get-get_or frame.parts.now frame.place d lt ∙ ap Some (sym is)

pub is_new_there : (stages : List Stage) (k : ℕ) (d : Stage) → k < length stages → is_new (get_or stages k d) ≡ true → slice_get stages k ≡ Some New
is_new_there stages k d lt h = slice_get-get_or stages k d lt ∙ ap Some (new_is (get_or stages k d) h)

pub is_done_there : (stages : List Stage) (k : ℕ) (d : Stage) → k < length stages → is_new (get_or stages k d) ≡ false → is_open (slice_get stages k) ≡ false → IsDone stages k
is_done_there stages k d lt h o =
    let there = slice_get-get_or stages k d lt in
    let s = done_is (get_or stages k d) h (ap is_open (sym there) ∙ o) in
    (s.0, there ∙ ap Some s.1)

module _ (chips : Chips) (stages : List Stage) (frame : Frame) (right : IsFrame chips stages frame) where
  pub part_wrong : (e : ElabFault) (names : List (List ℕ)) (done : ℕ) → AreOpen chips stages names → IsProgress chips stages done → Tells (PartFails chips names frame.entry.now frame.place) e → Tells (PartsFail chips names frame.entry.now) e
  part_wrong e names done o p h =
      tells_more (PartFails chips names frame.entry.now frame.place) (PartsFail chips names frame.entry.now) e
      (λ f w. parts_fail chips stages done p names (open_avoids chips stages done names o) frame.entry.now frame.place f right.fine w) h

  module _ (part : Part) (k : ℕ) (there : slice_get (parts_of chips frame.entry.now) frame.place ≡ Some part) (inner : IsInner chips part k) (done_at : IsDone stages k) where
    part_entered : PartIsEntered chips stages part
    part_entered =
        let x = entry_there chips.entries k inner.within in
        record { inner = x.0; number = k; rank = done_at.0; found = inner.found ∙ x.1; there = x.1; done = done_at.1 }

    pub wiring_wrong : (e : ElabFault) (names : List (List ℕ)) (done : ℕ) → AreOpen chips stages names → IsProgress chips stages done → ((x : Entry) → slice_get chips.entries k ≡ Some x → Tells (IsFirstOf (connection_fault_in chips frame.entry.now frame.place (ports_of x.chip) part.connections)) e) → Tells (PartsFail chips names frame.entry.now) e
    unfolding part_entered
    wiring_wrong e names done o p h =
        let x = entry_there chips.entries k inner.within in
        part_wrong e names done o p
        (connections_wrong chips names frame.entry.now frame.place part there stages done p (open_avoids chips stages done names o) part_entered e (h x.0 x.1))

    pub frame_further : (new : Frame) → IsWired chips new → IsOneFurther frame new → ((x : Entry) → slice_get chips.entries k ≡ Some x → (j : ℕ) → connection_fault_in chips frame.entry.now frame.place (ports_of x.chip) part.connections j ≡ None) → IsFrame chips stages new
    unfolding part_entered
    frame_further new wired further h =
        let x = entry_there chips.entries k inner.within in
        let fine : PartsAreFine chips stages frame.entry.now (frame.place + 1) = parts_more chips stages frame.entry.now frame.place part there right.fine (part_fine chips stages frame.entry.now frame.place part part_entered (h x.0 x.1)) in
        record {
          wired = wired;
          head = subst (λ (y : Entry). HeadIsFine chips y) (sym further.same.entry) right.head;
          fine = subst (λ (y : Entry). PartsAreFine chips stages y new.place) (sym further.same.entry) (subst (λ n. PartsAreFine chips stages frame.entry.now n) (sym further.place) fine);
        }

pub same_trans : (a b c : Frame) → HasSameChip a b → HasSameChip b c → HasSameChip a c
same_trans a b c h k = record { number = k.number ∙ h.number; entry = k.entry ∙ h.entry }

pub same_parts : (chips : Chips) (a b : Frame) → IsWired chips a → IsWired chips b → HasSameChip a b → b.parts.now ≡ a.parts.now
same_parts chips a b v w s = w.parts ∙ ap (parts_of chips) s.entry ∙ sym v.parts

pub further_less : (chips : Chips) (a b : Frame) → IsWired chips a → IsWired chips b → IsOneFurther a b → a.place < length a.parts.now → length b.parts.now - b.place < length a.parts.now - a.place
further_less chips a b v w f lt = let long = ap length (same_parts chips a b v w f.same) in let next = f.place in omega (arith, long, next, lt)

-- ---- what an option says

module _ (chips : Chips) (stages : List Stage) (frame : Frame) where
  pub next_none : (o : Option ℕ) → MatchOption o (length (parts_of chips frame.entry.now) ≤ frame.place) (λ k. WaitsFor chips frame k × (slice_get stages k ≡ Some New)) → o ≡ None → length (parts_of chips frame.entry.now) ≤ frame.place
  next_none None h e = h
  next_none (Some k) h e = absurd cc

  pub next_some : (o : Option ℕ) (k : ℕ) → MatchOption o (length (parts_of chips frame.entry.now) ≤ frame.place) (λ k. WaitsFor chips frame k × (slice_get stages k ≡ Some New)) → o ≡ Some k → WaitsFor chips frame k × (slice_get stages k ≡ Some New)
  next_some None k h e = absurd cc
  next_some (Some j) k h e = let same : j ≡ k = cc in subst (λ n. WaitsFor chips frame n × (slice_get stages n ≡ Some New)) same h
