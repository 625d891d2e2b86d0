-- How acts are done one after another, and what commands come to, act by act.
use Rattle.std.proofs.Common.{◌≡◌, ℕ, zero, suc, ◌+◌, ◌-◌, ◌<◌, ◌++◌, List, [], ◌∷◌, length, take, drop, get_or, Option, Bool, Result, Ok, Err, refl, sym, ap, ◌∙◌, subst, append_assoc, zero-add, arith, Vec, Global}
use Rattle.std.proofs.lemmas.List.{append-nil, take_more, take-append-drop}
use Rattle.outer_world.specs.Files.{Files}
use Rattle.outer_world.specs.State.{Keeps, shelf_state}
use Rattle.outer_world.proofs.Keeping.{keeps_all, keeps_then}
use Rattle.source_files.specs.declared.error.LoadError.TheVariants as loads
use Rattle.script_parser.specs.declared.tree.Act.{Act}
use Rattle.script_parser.specs.declared.tree.Command as commands
use Rattle.script_parser.specs.Trees.{Commands, with_command, commands_of}
use Rattle.script_parser.specs.Trees.Commands.{End}
use Rattle.script_parser.proofs.Blocks.{repeat_with}
use Rattle.hdl_tree.specs.declared.ends.Memories.{Memories}
use Rattle.tst_runner.specs.declared.standing.State.{State}
use Rattle.tst_runner.specs.declared.standing.Stop.{Stop}
use Rattle.tst_runner.specs.declared.standing.Stop.TheVariants as stops
use Rattle.tst_runner.specs.Acts.{acts_of, times}
use Rattle.tst_runner.specs.Setting.{Setting, setting_of}
use Rattle.tst_runner.specs.Standing.{Standing}
use Rattle.tst_runner.specs.Effects.{GoThrough}
use Rattle.tst_runner.specs.Inner.States.{CountsStop, IsState, IsStopped, Performs, PerformsAll, StandsThere, StopsIn}

-- ---- the acts that commands come to

times_plus : (m n : ℕ) (acts : List Act) → times (m + n) acts ≡ times m acts ++ times n acts
times_plus zero n acts = ap (λ (k : ℕ). times k acts) (zero-add n)
times_plus (suc m) n acts =
    let e : suc m + n ≡ suc (m + n) = omega arith in
    ap (λ (k : ℕ). times k acts) e ∙ ap (λ (x : List Act). acts ++ x) (times_plus m n acts) ∙ sym (append_assoc acts (times m acts) (times n acts))

-- once more
pub times_next : (n : ℕ) (acts : List Act) → times n acts ++ acts ≡ times (n + 1) acts
times_next n acts = ap (λ (x : List Act). times n acts ++ x) (sym (append-nil acts)) ∙ sym (times_plus n 1 acts)

-- of this many times some are over, one is there, and more come
pub times_at : (i n : ℕ) (acts : List Act) → i < n → (times i acts ++ acts) ++ times (n - (i + 1)) acts ≡ times n acts
times_at i n acts lt =
    let e : (i + 1) + (n - (i + 1)) ≡ n = omega arith in
    ap (λ (x : List Act). x ++ times (n - (i + 1)) acts) (times_next i acts) ∙ sym (times_plus (i + 1) (n - (i + 1)) acts) ∙ ap (λ (k : ℕ). times k acts) e

abbrev pub acts_in : List commands.Command → List Act
acts_in cs = acts_of (commands_of cs)

abbrev pub acts_by : commands.Command → List Act
acts_by c = acts_of (with_command c End)

-- a command, and what follows
first : (c : commands.Command) (rest : Commands) → acts_of (with_command c rest) ≡ acts_by c ++ acts_of rest
first (commands.Act a) rest = refl
first (commands.Repeat' n _ row) rest = ap (λ (x : List Act). x ++ acts_of rest) (sym (append-nil _))

acts_append : (xs ys : List commands.Command) → acts_in (xs ++ ys) ≡ acts_in xs ++ acts_in ys
acts_append [] ys = refl
acts_append (c ∷ xs) ys =
    first c (commands_of (xs ++ ys)) ∙ ap (λ (x : List Act). acts_by c ++ x) (acts_append xs ys) ∙ sym (append_assoc (acts_by c) (acts_in xs) (acts_in ys))
    ∙ ap (λ (x : List Act). x ++ acts_in ys) (sym (first c (commands_of xs)))

acts_once : (c : commands.Command) → acts_in (c ∷ []) ≡ acts_by c
acts_once c = refl

-- one command more
pub acts_next : (cs : List commands.Command) (i : ℕ) (c : commands.Command) → i < length cs → c ≡ get_or cs i c → acts_in (take i cs) ++ acts_by c ≡ acts_in (take (i + 1) cs)
acts_next cs i c lt is =
    let more = take_more cs i c lt ∙ ap (λ (x : commands.Command). take i cs ++ x ∷ []) (sym is) in
    sym (acts_append (take i cs) (c ∷ [])) ∙ sym (ap acts_in more)

-- of the commands some are over, one is there, and more come
pub acts_at : (cs : List commands.Command) (i : ℕ) (c : commands.Command) → i < length cs → c ≡ get_or cs i c → (acts_in (take i cs) ++ acts_by c) ++ acts_in (drop (i + 1) cs) ≡ acts_in cs
acts_at cs i c lt is =
    ap (λ (x : List Act). x ++ acts_in (drop (i + 1) cs)) (acts_next cs i c lt is) ∙ sym (acts_append (take (i + 1) cs) (drop (i + 1) cs)) ∙ ap acts_in (take-append-drop (i + 1) cs)

-- commands that are repeated
pub acts_repeated : (n : ℕ) (body : Vec commands.Command Global) → times n (acts_in body.items) ≡ acts_by (commands.Repeat n body)
acts_repeated n body = sym (append-nil _) ∙ ap acts_of (sym (repeat_with n body End))

-- ---- acts that are done

pub go_append : (setting : Setting) (xs ys : List Act) (s t u : Standing) → GoThrough setting s xs t → GoThrough setting t ys u → GoThrough setting s (xs ++ ys) u
go_append setting [] ys s t u h k = subst (λ (r : Standing). GoThrough setting r ys u) h k
go_append setting (act ∷ xs) ys s t u h k = (h.0, h.1, go_append setting xs ys h.0 t u h.2 k)

module _ (setting : Setting) (there : List ℕ → Bool) where
  stopped_weaker : (u v : Type 0) (w o e f : Option (List ℕ)) (p : List ℕ) (s : Standing) (act : Act) (stop : Stop) → (u → v) → IsStopped setting there v w o e f p s act stop → IsStopped setting there u w o e f p s act stop
  stopped_weaker u v w o e f p s act (stops.Unloaded (loads.Refused r)) k h = h
  stopped_weaker u v w o e f p s act (stops.Unloaded loads.Failed) k h = (h.0, λ q. h.1 (k q), h.2)
  stopped_weaker u v w o e f p s act (stops.Unloaded loads.Memory) k h = h
  stopped_weaker u v w o e f p s act (stops.Differs d) k h = h
  stopped_weaker u v w o e f p s act stops.Out k h = h
  stopped_weaker u v w o e f p s act stops.Err k h = h

  all_weaker : (u v : Type 0) (w o e f : Option (List ℕ)) (p : List ℕ) (s : Standing) (acts : List Act) (state : State) (r : Result (Unit {0}) Stop) → (u → v) → PerformsAll setting there v w o e f p s acts state r → PerformsAll setting there u w o e f p s acts state r
  all_weaker u v w o e f p s acts state (Ok _) k h = h
  all_weaker u v w o e f p s acts state (Err stop) k h = record {
    done = h.done;
    act = h.act;
    rest = h.rest;
    are = h.are;
    t = h.t;
    comes = h.comes;
    stopped = stopped_weaker u v w o e f p h.t h.act stop k h.stopped;
  }

  module _ (u : Type 0) (w o e f : Option (List ℕ)) (p : List ℕ) where
    pub act_all : (s : Standing) (act : Act) (state : State) (r : Result (Unit {0}) Stop) → Performs setting there u w o e f p s act state r → PerformsAll setting there u w o e f p s (act ∷ []) state r
    act_all s act state (Ok _) h = (h.0, (h.0, h.1, refl), h.2, h.3)
    act_all s act state (Err stop) h = record { done = []; act = act; rest = []; are = refl; t = s; comes = refl; stopped = h }

    stops_behind : (s t : Standing) (xs ys : List Act) (stop : Stop) → GoThrough setting s xs t → StopsIn setting there u w o e f p t ys stop → StopsIn setting there u w o e f p s (xs ++ ys) stop
    stops_behind s t xs ys stop h k = record {
      done = xs ++ k.done;
      act = k.act;
      rest = k.rest;
      are = ap (λ (x : List Act). xs ++ x) k.are ∙ sym (append_assoc xs k.done (k.act ∷ k.rest));
      t = k.t;
      comes = go_append setting xs k.done s t k.t h k.comes;
      stopped = k.stopped;
    }

    stops_before : (s : Standing) (acts more : List Act) (stop : Stop) → StopsIn setting there u w o e f p s acts stop → StopsIn setting there u w o e f p s (acts ++ more) stop
    stops_before s acts more stop h = record {
      done = h.done;
      act = h.act;
      rest = h.rest ++ more;
      are = ap (λ (x : List Act). x ++ more) h.are ∙ append_assoc h.done (h.act ∷ h.rest) more;
      t = h.t;
      comes = h.comes;
      stopped = h.stopped;
    }

    all_behind : (s t : Standing) (xs ys : List Act) (state : State) (r : Result (Unit {0}) Stop) → GoThrough setting s xs t → PerformsAll setting there u w o e f p t ys state r → PerformsAll setting there u w o e f p s (xs ++ ys) state r
    all_behind s t xs ys state (Ok _) h k = (k.0, go_append setting xs ys s t k.0 h k.1, k.2, k.3)
    all_behind s t xs ys state (Err stop) h k = stops_behind s t xs ys stop h k

-- ---- what a part of a run says

-- Acts are done, or some up to one that stops: the shelf, out with what is pending, err and the state before and now.
pub record Ran (path : List ℕ) (memories : Memories) (files files' : Option Files) (there there' : List ℕ → Bool) (unfailing unfailing' : Type 0) (out out' : Option (List ℕ)) (pending pending' : List ℕ) (err err' : Option (List ℕ)) (acts : List Act) (state state' : State) (result : Result (Unit {0}) Stop) : Type 0 where
  pub does : (w e : Option (List ℕ)) (s : Standing) → IsState (setting_of path files memories) state s → StandsThere w out e err pending s → PerformsAll (setting_of path files memories) there unfailing w out' e err' pending' s acts state' result
  pub keeps : Keeps (shelf_state files there unfailing) (shelf_state files' there' unfailing')

pub ran_of : {path : List ℕ} {memories : Memories} {files : Option Files} {there : List ℕ → Bool} {u : Type 0} {o : Option (List ℕ)} {p : List ℕ} {e : Option (List ℕ)} {state : State} (files' : Option Files) (there' : List ℕ → Bool) (u' : Type 0) (o' : Option (List ℕ)) (p' : List ℕ) (e' : Option (List ℕ)) (acts : List Act) (state' : State) (r : Result (Unit {0}) Stop)
    → ((w v : Option (List ℕ)) (s : Standing) → IsState (setting_of path files memories) state s → StandsThere w o v e p s → PerformsAll (setting_of path files memories) there u w o' v e' p' s acts state' r)
    → Keeps (shelf_state files there u) (shelf_state files' there' u') → Ran path memories files files' there there' u u' o o' p p' e e' acts state state' r
ran_of files' there' u' o' p' e' acts state' r does keeps = record { does = does; keeps = keeps }

pub ran_nothing : {path : List ℕ} {memories : Memories} {files : Option Files} {there : List ℕ → Bool} {u : Type 0} {o : Option (List ℕ)} {p : List ℕ} {e : Option (List ℕ)} {state : State} → Ran path memories files files there there u u o o p p e e [] state state (Ok tt)
ran_nothing = record { does = λ w v s at stands. (s, refl, at, stands); keeps = keeps_all _ }

pub ran_then : {path : List ℕ} {memories : Memories} {files files1 files2 : Option Files} {there there1 there2 : List ℕ → Bool} {u u1 u2 : Type 0} {o o1 o2 : Option (List ℕ)} {p p1 p2 : List ℕ} {e e1 e2 : Option (List ℕ)} {state state1 state2 : State} {r : Result (Unit {0}) Stop} (xs ys : List Act)
    → Ran path memories files files1 there there1 u u1 o o1 p p1 e e1 xs state state1 (Ok tt)
    → Ran path memories files1 files2 there1 there2 u1 u2 o1 o2 p1 p2 e1 e2 ys state1 state2 r
    → Ran path memories files files2 there there2 u u2 o o2 p p2 e e2 (xs ++ ys) state state2 r
ran_then {path} {memories} {files} {files1} {files2} {there} {there1} {there2} {u} {u1} {u2} {o} {o1} {o2} {p} {p1} {p2} {e} {e1} {e2} {state} {state1} {state2} {r} xs ys h k = record {
  does = λ w v s at stands.
      let q = h.does w v s at stands in
      let here = k.does w v q.0 (subst (λ (x : Option Files). IsState (setting_of path x memories) state1 q.0) (sym h.keeps.files) q.2) q.3 in
      let files_kept = subst (λ (x : Option Files). PerformsAll (setting_of path x memories) there1 u1 w o2 v e2 p2 q.0 ys state2 r) h.keeps.files here in
      let there_kept = subst (λ (x : List ℕ → Bool). PerformsAll (setting_of path files memories) x u1 w o2 v e2 p2 q.0 ys state2 r) h.keeps.there files_kept in
      all_behind (setting_of path files memories) there u w o2 v e2 p2 s q.0 xs ys state2 r q.1 (all_weaker (setting_of path files memories) there u u1 w o2 v e2 p2 q.0 ys state2 r h.keeps.unfailing there_kept);
  keeps = keeps_then _ _ _ h.keeps k.keeps;
}

pub ran_as : {path : List ℕ} {memories : Memories} {files files' : Option Files} {there there' : List ℕ → Bool} {u u' : Type 0} {o o' : Option (List ℕ)} {p p' : List ℕ} {e e' : Option (List ℕ)} {state state' : State} {r : Result (Unit {0}) Stop} (acts acts' : List Act)
    → acts ≡ acts' → Ran path memories files files' there there' u u' o o' p p' e e' acts state state' r → Ran path memories files files' there there' u u' o o' p p' e e' acts' state state' r
ran_as {path} {memories} {files} {files'} {there} {there'} {u} {u'} {o} {o'} {p} {p'} {e} {e'} {state} {state'} {r} acts acts' is h =
    subst (λ (x : List Act). Ran path memories files files' there there' u u' o o' p p' e e' x state state' r) is h

-- an act stops them: those that would come do not
pub ran_cut : {path : List ℕ} {memories : Memories} {files files' : Option Files} {there there' : List ℕ → Bool} {u u' : Type 0} {o o' : Option (List ℕ)} {p p' : List ℕ} {e e' : Option (List ℕ)} {acts : List Act} {state state' : State} {stop : Stop} (more : List Act)
    → Ran path memories files files' there there' u u' o o' p p' e e' acts state state' (Err stop) → Ran path memories files files' there there' u u' o o' p p' e e' (acts ++ more) state state' (Err stop)
ran_cut {path} {memories} {files} {files'} {there} {there'} {u} {u'} {o} {o'} {p} {p'} {e} {e'} {acts} {state} {state'} {stop} more h = record {
  does = λ w v s at stands. stops_before (setting_of path files memories) there u w o' v e' p' s acts more stop (h.does w v s at stands);
  keeps = h.keeps;
}

-- how they ended, given otherwise
pub ran_told : {path : List ℕ} {memories : Memories} {files files' : Option Files} {there there' : List ℕ → Bool} {u u' : Type 0} {o o' : Option (List ℕ)} {p p' : List ℕ} {e e' : Option (List ℕ)} {acts : List Act} {state state' : State} (r r' : Result (Unit {0}) Stop)
    → r' ≡ r → Ran path memories files files' there there' u u' o o' p p' e e' acts state state' r → Ran path memories files files' there there' u u' o o' p p' e e' acts state state' r'
ran_told {path} {memories} {files} {files'} {there} {there'} {u} {u'} {o} {o'} {p} {p'} {e} {e'} {acts} {state} {state'} r r' is h =
    subst (λ (x : Result (Unit {0}) Stop). Ran path memories files files' there there' u u' o o' p p' e e' acts state state' x) (sym is) h

-- ---- the counts of faults

pub counts_then : (a a1 a2 b b1 b2 c c1 c2 : ℕ) (r : Result (Unit {0}) Stop) → CountsStop a a1 b b1 c c1 (Ok tt) → CountsStop a1 a2 b1 b2 c1 c2 r → CountsStop a a2 b b2 c c2 r
counts_then a a1 a2 b b1 b2 c c1 c2 r h k =
    subst (λ (x : ℕ). CountsStop x a2 b b2 c c2 r) h.0 (subst (λ (x : ℕ). CountsStop a1 a2 x b2 c c2 r) h.1 (subst (λ (x : ℕ). CountsStop a1 a2 b1 b2 x c2 r) h.2 k))

-- ---- what acts ask for, that the state is some standing, stays so

abbrev pub Holds : Setting → State → Option (List ℕ) → Option (List ℕ) → List ℕ → Type 0
Holds setting state out err pending = (w e : Option (List ℕ)) × ((s : Standing) × IsState setting state s × StandsThere w out e err pending s)

pub holds_then : {path : List ℕ} {memories : Memories} {files files1 : Option Files} {there there1 : List ℕ → Bool} {u u1 : Type 0} {o o1 : Option (List ℕ)} {p p1 : List ℕ} {e e1 : Option (List ℕ)} {state state1 : State} (xs : List Act)
    → Ran path memories files files1 there there1 u u1 o o1 p p1 e e1 xs state state1 (Ok tt) → Holds (setting_of path files memories) state o e p → Holds (setting_of path files1 memories) state1 o1 e1 p1
holds_then {path} {memories} {state1 = state1} xs h (w, v, (s, at, stands)) =
    let q = h.does w v s at stands in
    (w, v, (q.0, subst (λ (x : Option Files). IsState (setting_of path x memories) state1 q.0) (sym h.keeps.files) q.2, q.3))
