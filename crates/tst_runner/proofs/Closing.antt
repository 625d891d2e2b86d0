-- How the end of the acts of a script is the end of the script, with the last piece put or not.
use Rattle.std.specs.Prelude.{codes, is_some, if◌then◌else◌}
use Rattle.std.proofs.Common.{◌≡◌, ℕ, ◌+◌, ◌≤◌, inl, inr, List, [], ◌∷◌, ◌++◌, length, take, drop, Option, Some, None, Bool, true, false, Result, Ok, Err, refl, sym, ap, ◌∙◌, subst, arith}
use Rattle.std.proofs.lemmas.List.{append-nil, length-take-le, take-append-drop}
use Rattle.outer_world.specs.Faults.{Rose}
use Rattle.outer_world.specs.Files.{Files, HasFile, LacksFile}
use Rattle.outer_world.specs.Refusals.{message, message_line}
use Rattle.outer_world.specs.State.{SinkState}
use Rattle.outer_world.specs.Written.{Got, GotPart}
use Rattle.outer_world.proofs.Passing.{Got-nothing, Got-same, Got-then, front_and_more}
use Rattle.source_files.specs.Loads.{CountsLoad, Loads}
use Rattle.source_files.specs.Sources.{IsFaulty}
use Rattle.source_files.specs.declared.error.LoadError.{LoadError}
use Rattle.source_files.specs.declared.error.LoadError.TheVariants as loads
use Rattle.script_parser.specs.Trees.{Spells, commands_of}
use Rattle.script_parser.specs.declared.tree.Command.{Command}
use Rattle.script_parser.specs.declared.tree.Act.{Act}
use Rattle.script_parser.specs.declared.tree.Act.TheVariants as acts
use Rattle.script_parser.specs.declared.tree.Step.TheVariants as steps
use Rattle.hdl_tree.specs.declared.ends.Memories.{Memories}
use Rattle.tst_runner.specs.declared.standing.CompareFile.{CompareFile}
use Rattle.tst_runner.specs.declared.standing.State.{State}
use Rattle.tst_runner.specs.declared.standing.Stop.{Stop}
use Rattle.tst_runner.specs.declared.standing.Stop.TheVariants as stops
use Rattle.tst_runner.specs.declared.script.Verdict.{Verdict}
use Rattle.tst_runner.specs.declared.script.Verdict.TheVariants as verdicts
use Rattle.tst_runner.specs.declared.script.ScriptError.{ScriptError}
use Rattle.tst_runner.specs.declared.script.ScriptError.TheVariants as errors
use Rattle.tst_runner.specs.Setting.{Setting, setting_of}
use Rattle.tst_runner.specs.Standing.{Standing, Compared, at_first, with_line}
use Rattle.tst_runner.specs.Effects.{PutsLine}
use Rattle.tst_runner.specs.Acts.{acts_of}
use Rattle.tst_runner.specs.Ends.{HasActs, HasCompared, HasPut, IsAt, IsUnread, whole}
use Rattle.tst_runner.specs.Verdicts.{CountsScript, Leaves, Runs, difference_line}
use Rattle.script_parser.specs.Language.{RefusesScript}
use Rattle.tst_runner.specs.Inner.Scripts.{Finishes, is_cut, verdict_of}
use Rattle.tst_runner.specs.Inner.Outlets.{HasPassed}
use Rattle.tst_runner.specs.Inner.States.{AreFiles, CountsStop, IsState, PerformsAll, StandsThere, StopsIn}
use Rattle.tst_runner.proofs.Threading.{Ran}

whole_within : (text : List ℕ) → whole text ≤ length text
whole_within text = omega arith

-- a line that is put changes nothing of err
puts_err : (setting : Setting) (s : Standing) (act : Act) (r : Standing) (line : List ℕ) → PutsLine setting s act r line → r.err ≡ s.err
puts_err setting s (acts.OutputList items) r line h = ap (λ (x : Standing). x.err) h.1
puts_err setting s (acts.Step steps.Output) r line h = ap (λ (x : Standing). x.err) h.0
puts_err setting s _ r line h = absurd h

same_files : (a : Option CompareFile) (n : ℕ) (b : Option Compared) → AreFiles a n b → is_some a ≡ is_some b
same_files None n None h = refl
same_files (Some x) n (Some y) h = refl
same_files None n (Some y) h = absurd h
same_files (Some x) n None h = absurd h

module _ (setting : Setting) (there : List ℕ → Bool) (unfailing : Type 0) (start before now e err' : SinkState) (p : List ℕ) where
  abbrev Ends : Result Verdict ScriptError → Type 0
  Ends result = Runs setting there unfailing start now e err' result

  abbrev Here : Standing → Type 0
  Here t = StandsThere start.written before.written e.written err'.written p t

  abbrev Stops : List Act → Stop → Type 0
  Stops acts stop = StopsIn setting there unfailing start.written before.written e.written err'.written p at_first acts stop

  -- the rest of a text went out after its whole pieces, or some of it
  rest_went : (text : List ℕ) → HasPassed start.written before.written p text → Got before.written now.written p → Got start.written now.written text
  rest_went text h k = Got-same start.written now.written (take (whole text) text ++ p) text (ap (λ (x : List ℕ). take (whole text) text ++ x) h.rest ∙ take-append-drop (whole text) text) (Got-then start.written before.written now.written (take (whole text) text) p h.went k)

  rest_cut : (text : List ℕ) → HasPassed start.written before.written p text → GotPart before.written now.written p → (n : ℕ) × (whole text ≤ n) × Got start.written now.written (take n text)
  rest_cut text h k =
      let front = take (whole text) text in
      let long : length front ≡ whole text = length-take-le (whole text) text (whole_within text) in
      let more : front ++ take k.0 p ≡ take (length front + k.0) text = ap (λ (x : List ℕ). front ++ take k.0 x) (h.rest ∙ sym (append-nil (drop (whole text) text))) ∙ front_and_more text [] (whole text) k.0 ∙ ap (take (length front + k.0)) (append-nil text) in
      (length front + k.0, omega (arith, long), Got-same start.written now.written (front ++ take k.0 p) (take (length front + k.0) text) more (Got-then start.written before.written now.written front (take k.0 p) h.went k.1))

  -- out fails at the last piece
  cut : (t : Standing) → HasPut setting t → Here t → GotPart before.written now.written p → Ends (Err errors.Out)
  cut t put here k =
      let q = rest_cut t.out here.on_out k in
      (take q.0 t.out, t.err, inr (record { t = t; put = put; n = q.0; from = q.1; on_out = refl; on_err = refl }), q.2, here.on_err)

  finished : (verdict result : Result Verdict ScriptError) → (Got before.written now.written p → Ends verdict) → (GotPart before.written now.written p → Ends (Err errors.Out)) → Finishes false before now p verdict result → Ends result
  finished verdict result good bad (inl q) = subst (λ (r : Result Verdict ScriptError). Ends r) (sym q.1) (good q.0.bytes)
  finished verdict result good bad (inr q) = subst (λ (r : Result Verdict ScriptError). Ends r) (sym q.1) (bad q.0.bytes)

  at : (acts : List Act) (stop : Stop) → HasActs setting acts → (h : Stops acts stop) → IsAt setting h.t h.act
  at acts stop are h = record { done = h.done; rest = h.rest; acts = subst (λ (x : List Act). HasActs setting x) h.are are; comes = h.comes }

  put_before : (acts : List Act) (stop : Stop) → HasActs setting acts → (h : Stops acts stop) → HasPut setting h.t
  put_before acts stop are h = inl (h.done, h.act ∷ h.rest, subst (λ (x : List Act). HasActs setting x) h.are are, h.comes)

  compared_leaves : (compares : Bool) (out err : List ℕ) → HasCompared setting out err compares → Leaves setting there unfailing out err (if compares then Ok verdicts.Same else Ok verdicts.NoCompare)
  compared_leaves true out err h = h
  compared_leaves false out err h = h

  pub ends : (acts : List Act) (state : State) (end : Result (Unit {0}) Stop) (result : Result Verdict ScriptError)
      → HasActs setting acts → PerformsAll setting there unfailing start.written before.written e.written err'.written p at_first acts state end → Finishes (is_cut end) before now p (verdict_of end (is_some state.compared)) result → Ends result
  ends acts state (Ok u) result are h fin =
      finished (verdict_of (Ok u) (is_some state.compared)) result
      (λ k. (h.0.out, h.0.err, compared_leaves (is_some state.compared) h.0.out h.0.err (record { acts = acts; are = are; last = h.0; comes = h.1; on_out = refl; on_err = refl }, same_files state.compared state.lines h.0.compared h.2.compared), rest_went h.0.out h.3.on_out k, h.3.on_err))
      (λ k. cut h.0 (inl (acts, [], subst (λ (x : List Act). HasActs setting x) (sym (append-nil acts)) are, h.1)) h.3 k) fin
  ends acts state (Err (stops.Unloaded (loads.Refused r))) result are h fin =
      finished (Err (errors.Unloaded (loads.Refused r))) result
      (λ k. (h.t.out, h.t.err, inr (record { s = h.t; act = h.act; is_at = at acts _ are h; on_out = refl; on_err = refl; tells = h.stopped.0 }), rest_went h.t.out h.stopped.1.on_out k, h.stopped.1.on_err))
      (λ k. cut h.t (put_before acts _ are h) h.stopped.1 k) fin
  ends acts state (Err (stops.Unloaded loads.Failed)) result are h fin =
      finished (Err (errors.Unloaded loads.Failed)) result
      (λ k. (h.t.out, h.t.err, inr (record { s = h.t; act = h.act; is_at = at acts _ are h; asks = h.stopped.0; on_out = refl; on_err = refl; lacks = h.stopped.1 }), rest_went h.t.out h.stopped.2.on_out k, h.stopped.2.on_err))
      (λ k. cut h.t (put_before acts _ are h) h.stopped.2 k) fin
  ends acts state (Err (stops.Unloaded loads.Memory)) result are h fin =
      finished (Err (errors.Unloaded loads.Memory)) result
      (λ k. (h.t.out, h.t.err, inr (record { done = h.done; rest = h.act ∷ h.rest; acts = subst (λ (x : List Act). HasActs setting x) h.are are; s = h.t; comes = h.comes; on_out = refl; on_err = refl }), rest_went h.t.out h.stopped.on_out k, h.stopped.on_err))
      (λ k. cut h.t (put_before acts _ are h) h.stopped k) fin
  ends acts state (Err (stops.Differs d)) result are h fin =
      let t = h.stopped.0 in
      let differs = h.stopped.1 in
      let here = h.stopped.4 in
      let there_err : t.err ≡ h.t.err = ap (λ (x : Standing). x.err) differs.is ∙ puts_err setting h.t h.act differs.r differs.line differs.puts in
      let told : difference_line d ≡ message_line differs.compared.path (message t.lines 1 (codes "Differs") []) =
      ap (λ (x : List ℕ). message_line x (message d.line 1 (codes "Differs") [])) h.stopped.2 ∙ ap (λ (n : ℕ). message_line differs.compared.path (message n 1 (codes "Differs") [])) h.stopped.3 in
      finished (Ok (verdicts.Differs d)) result
      (λ k. (t.out, t.err, (record { s = h.t; act = h.act; is_at = at acts _ are h; t = t; differs = differs; on_out = refl; on_err = there_err; tells = told }, h.stopped.2, h.stopped.3), rest_went t.out here.on_out k, here.on_err))
      (λ k. cut t (inr (h.t, h.act, at acts _ are h, differs)) here k) fin
  ends acts state (Err stops.Out) result are h fin =
      let q = h.stopped.0 in
      subst (λ (r : Result Verdict ScriptError). Ends r) (sym fin.1)
      (take q.n (with_line q.r q.line).out, h.t.err, inl (record { s = h.t; act = h.act; is_at = at acts _ are h; r = q.r; line = q.line; puts = q.puts; n = q.n; from = q.from; on_out = refl; on_err = refl }), subst (λ (x : SinkState). Got start.written x.written (take q.n (with_line q.r q.line).out)) (sym fin.0) q.went, h.stopped.1)
  ends acts state (Err stops.Err) result are h fin =
      let q = h.stopped.0 in
      subst (λ (r : Result Verdict ScriptError). Ends r) (sym fin.1)
      (take (whole h.t.out) h.t.out, h.t.err ++ take q.n (q.text ++ 10 ∷ []), record { s = h.t; text = q.text; is_at = subst (λ (a : Act). IsAt setting h.t a) q.is (at acts _ are h); on_out = refl; n = q.n; on_err = refl }, subst (λ (x : SinkState). Got start.written x.written (take (whole h.t.out) h.t.out)) (sym fin.0) h.stopped.1.went, q.went)

-- a script whose text is read
pub run_ends : (path : List ℕ) (memories : Memories) (files files' : Option Files) (there there' : List ℕ → Bool) (u u' : Type 0) (o o1 o2 : SinkState) (p0 p : List ℕ) (e e1 : SinkState) (acts : List Act) (first state : State) (end : Result (Unit {0}) Stop) (compares : Bool) (result : Result Verdict ScriptError)
    → p0 ≡ [] → HasActs (setting_of path files memories) acts → Ran path memories files files' there there' u u' o.written o1.written p0 p e.written e1.written acts first state end → IsState (setting_of path files memories) first at_first → compares ≡ is_some state.compared → Finishes (is_cut end) o1 o2 p (verdict_of end compares) result
    → Runs (setting_of path files memories) there u o o2 e e1 result
run_ends path memories files files' there there' u u' o o1 o2 p0 p e e1 acts first state end compares result empty are ran begins same fin =
    ends (setting_of path files memories) there u o o1 o2 e e1 p acts state end result are
    (ran.does o.written e.written at_first begins (record { on_out = record { went = Got-nothing o.written; rest = empty }; on_err = Got-nothing e.written }))
    (subst (λ (b : Bool). Finishes (is_cut end) o1 o2 p (verdict_of end b) result) same fin)

-- a script whose text is not read: nothing is put
pub unread_ends : (path : List ℕ) (memories : Memories) (files : Option Files) (there : List ℕ → Bool) (u : Type 0) (o e : SinkState) (error : LoadError)
    → Loads {A = Unit {0}} (λ _. ⊥) (IsFaulty (λ text told. RefusesScript text told) files path) (u → LacksFile files path) (Err error) → Runs (setting_of path files memories) there u o o e e (Err (errors.Unloaded error))
unread_ends path memories files there u o e (loads.Refused r) h =
    ([], [], inl (record { text = h.0; has = h.2; fault = h.3.0; refused = h.3.1; on_out = refl; on_err = refl; tells = h.4 ∙ ap (message_line path) h.3.2 }), Got-nothing o.written, Got-nothing e.written)
unread_ends path memories files there u o e loads.Failed h = ([], [], inl (record { on_out = refl; on_err = refl; lacks = h }), Got-nothing o.written, Got-nothing e.written)
unread_ends path memories files there u o e loads.Memory h = ([], [], inl (refl, refl), Got-nothing o.written, Got-nothing e.written)

-- what another shelf lacks that fails less
unread_weaker : (setting : Setting) (there : List ℕ → Bool) (u v : Type 0) (out err : List ℕ) → (u → v) → IsUnread setting there v out err → IsUnread setting there u out err
unread_weaker setting there u v out err k (inl h) = inl (record { on_out = h.on_out; on_err = h.on_err; lacks = λ q. h.lacks (k q) })
unread_weaker setting there u v out err k (inr h) = inr (record { s = h.s; act = h.act; is_at = h.is_at; asks = h.asks; on_out = h.on_out; on_err = h.on_err; lacks = λ q. h.lacks (k q) })

runs_weaker : (setting : Setting) (there : List ℕ → Bool) (u v : Type 0) (o o' e e' : SinkState) (result : Result Verdict ScriptError) → (u → v) → Runs setting there v o o' e e' result → Runs setting there u o o' e e' result
runs_weaker setting there u v o o' e e' (Ok verdicts.Same) k h = h
runs_weaker setting there u v o o' e e' (Ok verdicts.NoCompare) k h = h
runs_weaker setting there u v o o' e e' (Ok (verdicts.Differs d)) k h = h
runs_weaker setting there u v o o' e e' (Err (errors.Unloaded (loads.Refused r))) k h = h
runs_weaker setting there u v o o' e e' (Err (errors.Unloaded loads.Failed)) k h = (h.0, h.1, unread_weaker setting there u v h.0 h.1 k h.2, h.3, h.4)
runs_weaker setting there u v o o' e e' (Err (errors.Unloaded loads.Memory)) k h = h
runs_weaker setting there u v o o' e e' (Err errors.Out) k h = h
runs_weaker setting there u v o o' e e' (Err errors.Err) k h = h

-- a script whose text is read is run from the shelf as this stands then
pub read_ends : (path : List ℕ) (memories : Memories) (files files' : Option Files) (there there' : List ℕ → Bool) (u u' : Type 0) (o o' e e' : SinkState) (read items : List Command) (result : Result Verdict ScriptError)
    → files' ≡ files → there' ≡ there → (u → u') → items ≡ read → (text : List ℕ) × HasFile files path text × Spells text (commands_of read)
    → (HasActs (setting_of path files' memories) (acts_of (commands_of items)) → Runs (setting_of path files' memories) there' u' o o' e e' result)
    → Runs (setting_of path files memories) there u o o' e e' result
read_ends path memories files files' there there' u u' o o' e e' read items result kept stays keeps same h runs =
    let acts = acts_of (commands_of items) in
    let are : HasActs (setting_of path files memories) acts = (h.0, commands_of read, h.1, h.2, ap (λ (x : List Command). acts_of (commands_of x)) same) in
    let are_then = subst (λ (x : Option Files). HasActs (setting_of path x memories) acts) (sym kept) are in
    let here = subst (λ (x : Option Files). Runs (setting_of path x memories) there' u' o o' e e' result) kept (runs are_then) in
    runs_weaker (setting_of path files memories) there u u' o o' e e' result keeps (subst (λ (x : List ℕ → Bool). Runs (setting_of path files memories) x u' o o' e e' result) stays here)

-- ---- the counts of faults

pub counts_unread : (a a' : ℕ) (b c : SinkState) (error : LoadError) → CountsLoad {A = Unit {0}} a a' (Err error) → CountsScript a a' b b c c (Err (errors.Unloaded error))
counts_unread a a' b c (loads.Refused r) h = (h, refl, refl)
counts_unread a a' b c loads.Failed h = (h, refl, refl)
counts_unread a a' b c loads.Memory h = (h, refl, refl)

module _ (a a' : ℕ) (start before now err err' : SinkState) (p : List ℕ) where
  abbrev Counts : Result Verdict ScriptError → Type 0
  Counts result = CountsScript a a' start now err err' result

  counted : (verdict result : Result Verdict ScriptError) → (now.faults ≡ before.faults → Counts verdict) → (Rose before.faults now.faults → Counts (Err errors.Out)) → Finishes false before now p verdict result → Counts result
  counted verdict result good bad (inl q) = subst (λ (r : Result Verdict ScriptError). Counts r) (sym q.1) (good q.0.counts)
  counted verdict result good bad (inr q) = subst (λ (r : Result Verdict ScriptError). Counts r) (sym q.1) (bad q.0.counts.0)

  rose : before.faults ≡ start.faults → Rose before.faults now.faults → Rose start.faults now.faults
  rose h r = subst (λ (x : ℕ). Rose x now.faults) h r

  calm : (compares : Bool) → (a' ≡ a) × (now.faults ≡ start.faults) × (err'.faults ≡ err.faults) → Counts (if compares then Ok verdicts.Same else Ok verdicts.NoCompare)
  calm true h = h
  calm false h = h

  pub counts_ends : (compares : Bool) (end : Result (Unit {0}) Stop) (result : Result Verdict ScriptError) → CountsStop a a' start.faults before.faults err.faults err'.faults end → Finishes (is_cut end) before now p (verdict_of end compares) result → Counts result
  counts_ends compares (Ok u) result k fin = counted (verdict_of (Ok u) compares) result (λ h. calm compares (k.0, h ∙ k.1, k.2)) (λ h. (inl k.0, rose k.1 h, k.2)) fin
  counts_ends compares (Err (stops.Unloaded (loads.Refused r))) result k fin = counted (Err (errors.Unloaded (loads.Refused r))) result (λ h. (k.0, h ∙ k.1, k.2)) (λ h. (inl k.0, rose k.1 h, k.2)) fin
  counts_ends compares (Err (stops.Unloaded loads.Failed)) result k fin = counted (Err (errors.Unloaded loads.Failed)) result (λ h. (k.0, h ∙ k.1, k.2)) (λ h. (inr k.0, rose k.1 h, k.2)) fin
  counts_ends compares (Err (stops.Unloaded loads.Memory)) result k fin = counted (Err (errors.Unloaded loads.Memory)) result (λ h. (k.0, h ∙ k.1, k.2)) (λ h. (inl k.0, rose k.1 h, k.2)) fin
  counts_ends compares (Err (stops.Differs d)) result k fin = counted (Ok (verdicts.Differs d)) result (λ h. (k.0, h ∙ k.1, k.2)) (λ h. (inl k.0, rose k.1 h, k.2)) fin
  counts_ends compares (Err stops.Out) result k fin = subst (λ (r : Result Verdict ScriptError). Counts r) (sym fin.1) (inl k.0, subst (λ (x : SinkState). Rose start.faults x.faults) (sym fin.0) k.1, k.2)
  counts_ends compares (Err stops.Err) result k fin = subst (λ (r : Result Verdict ScriptError). Counts r) (sym fin.1) (k.0, ap (λ (x : SinkState). x.faults) fin.0 ∙ k.1, k.2)
