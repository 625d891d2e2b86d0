-- A script over known files has one end.
use Rattle.std.proofs.Common.{◌≡◌, ℕ, List, [], ◌∷◌, ◌++◌, Option, Some, refl, sym, ap, ap₂, subst, ◌∙◌, inl, inr}
use Rattle.std.specs.Prelude.{codes, is_some}
use Rattle.outer_world.specs.Files.{Files, HasFile}
use Rattle.outer_world.specs.Refusals.{message, message_line}
use Rattle.grammar.specs.declared.Fault.{Fault}
use Rattle.grammar.specs.Faults.{diagnostic_of}
use Rattle.hack_asm.specs.HackText as image
use Rattle.hack_asm.specs.Meaning as assembly
use Rattle.hdl_tree.specs.declared.ends.Memories.{Memories}
use Rattle.hdl_parser.specs.Spells as hdl
use Rattle.script_parser.specs.declared.tree.Act.{Act}
use Rattle.script_parser.specs.Trees.{Refuses, Spells}
use Rattle.script_parser.specs.Trees as script
use Rattle.tst_runner.specs.Acts.{acts_of}
use Rattle.tst_runner.specs.Setting.{Setting, setting_of}
use Rattle.tst_runner.specs.Standing.{Compared, Standing, at_first}
use Rattle.tst_runner.specs.Effects.{Differs, Faults, GoThrough, Goes}
use Rattle.tst_runner.specs.Ends.{HasActs, IsAt, IsDifferent, IsDone, IsRefused}
use Rattle.script_laws.specs.Exact.{ScriptIsExact, SameButNets, ScriptExactLaw}
use Rattle.script_laws.proofs.Gathered.{same_text}
use Rattle.script_laws.proofs.Acts.{SameStanding, differs_goes, differs_same, faults_differs, faults_goes, faults_same, goes_same, turned_back}

module _ (law : script.ReadingLaw) (hdl_law : hdl.ReadingLaw) (hack_law : image.ReadingLaw) (asm_law : assembly.ReadingLaw) (path : List ℕ) (told : Files) (memories : Memories) where
  abbrev S : Setting
  S = setting_of path (Some told) memories

  abbrev Same : Standing → Standing → Type 0
  Same s t = SameStanding memories s t

  -- ---- the acts

  acts_once : (a b : List Act) → HasActs S a → HasActs S b → a ≡ b
  acts_once a b (text, commands, has, spells, is) (text', commands', has', spells', is') =
      let same = same_text told path text' text has' has in
      let one = (law text).one commands commands' spells (subst (λ (t : List ℕ). Spells t commands') same spells') in
      is ∙ ap acts_of one ∙ sym is'

  acts_refused : (a : List Act) (text : List ℕ) (fault : Fault) → HasActs S a → HasFile (Some told) path text → Refuses text fault → ⊥
  acts_refused a text fault (text', commands, has, spells, is) has' refuses =
      (law text').not_both commands fault spells (subst (λ (t : List ℕ). Refuses t fault) (same_text told path text text' has' has) refuses)

  -- ---- what an act can end with: nothing then goes on

  abbrev Stops : (Standing → Act → Type 0) → Type 0
  Stops Q = (act : Act) (s t t' : Standing) → Same s t → Q s act → Goes S t act t' → ⊥

  abbrev AtDifference : Standing → Act → Type 0
  AtDifference s act = (t : Standing) × Differs S s act t

  abbrev AtFault : Standing → Act → Type 0
  AtFault s act = (line : List ℕ) × Faults S s act line

  difference_stops : Stops AtDifference
  difference_stops act s t t' h (s', d) g = differs_goes hdl_law hack_law asm_law path told memories act s t s' t' h d g

  fault_stops : Stops AtFault
  fault_stops act s t t' h (line, f) g = faults_goes hdl_law hack_law asm_law path told memories act s t t' line h f g

  same_start : (s t : Standing) → s ≡ t → Same t t → Same s t
  same_start s t e h = subst (λ (x : Standing). Same x t) (sym e) h

  -- both have come to one act
  record Meet (s t : Standing) (act act' : Act) : Type 0 where
    standing : Same s t
    act_is : act ≡ act'

  equal : (s t x y : Standing) → s ≡ x → t ≡ y → Same x y → Same s t
  equal s t x y p q h = subst (λ (z : Standing). Same z t) (sym p) (subst (λ (z : Standing). Same x z) (sym q) h)

  meet : (Q Q' : Standing → Act → Type 0) → Stops Q → Stops Q' → (done done' rest rest' : List Act) (act act' : Act) (u u' s s' : Standing) → Same u u' → done ++ act ∷ rest ≡ done' ++ act' ∷ rest' → GoThrough S u done s → GoThrough S u' done' s' → Q s act → Q' s' act' → Meet s s' act act'
  meet Q Q' stops stops' [] [] rest rest' act act' u u' s s' h same g g' q q' = record { standing = equal s s' u u' g g' h; act_is = cc }
  meet Q Q' stops stops' [] (b ∷ done') rest rest' act act' u u' s s' h same g (r, goes, more) q q' =
      let head : act ≡ b = cc in
      absurd (stops act s u' r (equal s u' u u' g refl h) q (subst (λ (a : Act). Goes S u' a r) (sym head) goes))
  meet Q Q' stops stops' (a ∷ done) [] rest rest' act act' u u' s s' h same (r, goes, more) g' q q' =
      let head : a ≡ act' = cc in
      absurd (stops' act' s' u r (equal s' u u' u g' refl (turned_back hdl_law hack_law asm_law path told memories u u' h)) q' (subst (λ (x : Act). Goes S u x r) head goes))
  meet Q Q' stops stops' (a ∷ done) (b ∷ done') rest rest' act act' u u' s s' h same (r, goes, more) (r', goes', more') q q' =
      let head : a ≡ b = cc in
      let tail : done ++ act ∷ rest ≡ done' ++ act' ∷ rest' = cc in
      let next = goes_same hdl_law hack_law asm_law path told memories a u u' r r' h goes (subst (λ (x : Act). Goes S u' x r') (sym head) goes') in
      meet Q Q' stops stops' done done' rest rest' act act' r r' s s' next tail more more' q q'

  first_same : Same at_first at_first
  first_same = record { device = tt; items = refl; compared = refl; lines = refl; out = refl; err = refl }

  meet_at : (Q Q' : Standing → Act → Type 0) → Stops Q → Stops Q' → (s s' : Standing) (act act' : Act) → IsAt S s act → IsAt S s' act' → Q s act → Q' s' act' → Meet s s' act act'
  meet_at Q Q' stops stops' s s' act act' at at' q q' =
      meet Q Q' stops stops' at.done at'.done at.rest at'.rest act act' at_first at_first s s' first_same (acts_once (at.done ++ act ∷ at.rest) (at'.done ++ act' ∷ at'.rest) at.acts at'.acts) at.comes at'.comes q q'

  -- ---- all acts are done

  through_same : (acts : List Act) (u u' s s' : Standing) → Same u u' → GoThrough S u acts s → GoThrough S u' acts s' → Same s s'
  through_same [] u u' s s' h g g' = equal s s' u u' g g' h
  through_same (a ∷ acts) u u' s s' h (r, goes, more) (r', goes', more') = through_same acts r r' s s' (goes_same hdl_law hack_law asm_law path told memories a u u' r r' h goes goes') more more'

  no_stop : (Q : Standing → Act → Type 0) → Stops Q → (done rest acts : List Act) (act : Act) (u u' s t : Standing) → Same u u' → done ++ act ∷ rest ≡ acts → GoThrough S u done s → GoThrough S u' acts t → Q s act → ⊥
  no_stop Q stops [] rest [] act u u' s t h same g g' q = absurd cc
  no_stop Q stops (a ∷ done) rest [] act u u' s t h same g g' q = absurd cc
  no_stop Q stops [] rest (b ∷ acts) act u u' s t h same g (r, goes, more) q =
      let head : act ≡ b = cc in
      stops act s u' r (equal s u' u u' g refl h) q (subst (λ (a : Act). Goes S u' a r) (sym head) goes)
  no_stop Q stops (a ∷ done) rest (b ∷ acts) act u u' s t h same (r, goes, more) (r', goes', more') q =
      let head : a ≡ b = cc in
      let tail : done ++ act ∷ rest ≡ acts = cc in
      let next = goes_same hdl_law hack_law asm_law path told memories a u u' r r' h goes (subst (λ (x : Act). Goes S u' x r') (sym head) goes') in
      no_stop Q stops done rest acts act r r' s t next tail more more' q

  never_at : (Q : Standing → Act → Type 0) → Stops Q → (out err : List ℕ) (s : Standing) (act : Act) → IsDone S out err → IsAt S s act → Q s act → ⊥
  never_at Q stops out err s act d at q =
      no_stop Q stops at.done at.rest d.acts act at_first at_first s d.last first_same (acts_once (at.done ++ act ∷ at.rest) d.acts at.acts d.are) at.comes d.comes q

  done_same : (out err out' err' : List ℕ) (d : IsDone S out err) (d' : IsDone S out' err') → Same d.last d'.last
  done_same out err out' err' d d' =
      through_same d.acts at_first at_first d.last d'.last first_same d.comes (subst (λ (a : List Act). GoThrough S at_first a d'.last) (acts_once d'.acts d.acts d'.are d.are) d'.comes)

  -- ---- refusals

  refused_same : (out before line out' before' line' : List ℕ) → IsRefused S out before line → IsRefused S out' before' line' → (out ≡ out') × (before ≡ before') × SameButNets S line line'
  refused_same out before line out' before' line' (inl n) (inl m) =
      let same = same_text told path m.text n.text m.has n.has in
      let one = (law n.text).one_fault n.fault m.fault n.refused (subst (λ (t : List ℕ). Refuses t m.fault) same m.refused) in
      (n.on_out ∙ sym m.on_out, n.on_err ∙ sym m.on_err, inl (n.tells ∙ ap (λ (f : Fault). message_line path (diagnostic_of f)) one ∙ sym m.tells))
  refused_same out before line out' before' line' (inl n) (inr m) = absurd (acts_refused (m.is_at.done ++ m.act ∷ m.is_at.rest) n.text n.fault m.is_at.acts n.has n.refused)
  refused_same out before line out' before' line' (inr m) (inl n) = absurd (acts_refused (m.is_at.done ++ m.act ∷ m.is_at.rest) n.text n.fault m.is_at.acts n.has n.refused)
  refused_same out before line out' before' line' (inr n) (inr m) =
      let x = meet_at AtFault AtFault fault_stops fault_stops n.s m.s n.act m.act n.is_at m.is_at (line, n.tells) (line', m.tells) in
      let st = x.standing in (
        n.on_out ∙ st.out ∙ sym m.on_out,
        n.on_err ∙ st.err ∙ sym m.on_err,
        faults_same hdl_law hack_law asm_law path told memories n.act n.s m.s line line' st n.tells (subst (λ (a : Act). Faults S m.s a line') (sym x.act_is) m.tells),
      )

  -- ---- differences

  differs_once : (out before line out' before' line' : List ℕ) → IsDifferent S out before line → IsDifferent S out' before' line' → (out ≡ out') × (before ≡ before') × (line ≡ line')
  differs_once out before line out' before' line' n m =
      let x = meet_at AtDifference AtDifference difference_stops difference_stops n.s m.s n.act m.act n.is_at m.is_at (n.t, n.differs) (m.t, m.differs) in
      let same = differs_same hdl_law hack_law asm_law path told memories n.act m.act x.act_is n.s m.s n.t m.t x.standing n.differs m.differs in
      let st = x.standing in
      let after = same.standing in (
        n.on_out ∙ after.out ∙ sym m.on_out,
        n.on_err ∙ st.err ∙ sym m.on_err,
        n.tells ∙ ap₂ (λ (c : Compared) (k : ℕ). message_line c.path (message k 1 (codes "Differs") [])) same.compared_is after.lines ∙ sym m.tells,
      )

  pub exactly : ScriptIsExact S
  exactly = record {
    done = λ out err out' err' b b' h k.
        let same = done_same out err out' err' h.0 k.0 in
        (h.0.on_out ∙ same.out ∙ sym k.0.on_out, h.0.on_err ∙ same.err ∙ sym k.0.on_err, h.1 ∙ ap (λ (c : Option Compared). is_some c) same.compared ∙ sym k.1);
    refused = refused_same;
    differs = differs_once;
    done_or_refused = λ out err out' before line d r. elim r [
      | inl n ↦ acts_refused d.acts n.text n.fault d.are n.has n.refused
      | inr n ↦ never_at AtFault fault_stops out err n.s n.act d n.is_at (line, n.tells)
    ];
    done_or_differs = λ out err out' before line d n. never_at AtDifference difference_stops out err n.s n.act d n.is_at (n.t, n.differs);
    refused_or_differs = λ out before line out' before' line' r d. elim r [
      | inl n ↦ acts_refused (d.is_at.done ++ d.act ∷ d.is_at.rest) n.text n.fault d.is_at.acts n.has n.refused
      | inr n ↦
          let x = meet_at AtFault AtDifference fault_stops difference_stops n.s d.s n.act d.act n.is_at d.is_at (line, n.tells) (d.t, d.differs) in
          let e : Differs S d.s n.act d.t = subst (λ (a : Act). Differs S d.s a d.t) (sym x.act_is) d.differs in
          faults_differs hdl_law hack_law asm_law path told memories n.act n.s d.s d.t line x.standing n.tells e
    ];
  }

pub script_exact : script.ReadingLaw → hdl.ReadingLaw → image.ReadingLaw → assembly.ReadingLaw → ScriptExactLaw
script_exact law hdl_law hack_law asm_law path files memories = exactly law hdl_law hack_law asm_law path files memories
