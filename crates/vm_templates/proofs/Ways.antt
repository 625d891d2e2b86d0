-- What goes by steps of the computer is a way of the layers.
use Rattle.std.proofs.Common.{◌≡◌, ◌⊎◌, ℕ, suc, ◌+◌, ◌<◌, true, false, List, [], ◌∷◌, ◌++◌, refl, ap, ◌∙◌, sym, subst, arith, append-nil}
use Rattle.std.specs.Prelude.{Some, None, slice_index}
use Rattle.hack_isa.specs.Machine.{Machine, fetch, step}
use Rattle.simulation.specs.System.{System, IsData, IsKey, keys_heard}
use Rattle.simulation.specs.Layers.{Shows, Ends, lands, rests, strays, Way, last, onward, Opens, ready, before}
use Rattle.simulation.specs.Laws.{Related}
use Rattle.image_map.specs.Map.{Map}
use Rattle.image_map.specs.Computer.{reads_key, in_loop, hack_system}
use Rattle.vm_templates.specs.Going.{IsDataWrite, Quiet, Last, Reaches, arrived, further, Does, DoesHearing}
use Rattle.vm_templates.specs.Own.{IsOwn}
use Rattle.vm_templates.specs.Ways.{StepsAreWays}
use Rattle.vm_templates.proofs.Keys.{step_keeps, is_heard, not_heard}
use Rattle.vm_templates.proofs.Loop.{moves_apart}

module _ {U : Type 0} (up : System U) (image : List ℕ) (words : (k : ℕ) → slice_index image k < 65536) (map : Map) (loop : ℕ) (R : U → Machine → Type 0) (u : U) where
  abbrev low : System Machine
  low = hack_system image map loop

  -- the words of the data are those of the upper state
  abbrev pub SameWords : Machine → Type 0
  SameWords s = (a : ℕ) → IsData a → s.memory a ≡ up.word u a

  abbrev pub HasPoint : ℕ → Type 0
  HasPoint pc = (map.points pc ≡ up.point u) ⊎ (map.points pc ≡ None)

  shows : (s : Machine) → SameWords s → HasPoint s.pc → Shows up low u s
  shows s same p = record { words = same; point = p; fits = refl }

  kept : (s : Machine) (key : ℕ) → SameWords s → (IsDataWrite (fetch image s) s → ⊥) → SameWords (step image key s)
  kept s key same q a d = step_keeps image key s a q d ∙ same a d

  module _ (inside : ℕ → Type 0) (final : ℕ) (own : IsOwn up map loop u inside final) (going : up.halted u ≡ false) where
    abbrev To : ℕ → List ℕ → Machine → Type 0
    To n pend s = Way up (hack_system image map loop) (λ z. 1) R u n pend s

    -- The last instruction: under each key of its cycle, the upper step hears what is pending, and its next state is related to the goal's.
    abbrev pub Leads : List ℕ → (Machine → Type 0) → Type 0
    Leads pend goal = (key : ℕ) → IsKey key → (k : ℕ) × IsKey k × (pend ≡ keys_heard (up.hears u) k) × (u' : U) × (up.step k u ≡ Some u') × ((s' : Machine) → goal s' → R u' s')

    still : (pend : List ℕ) (s : Machine) (key : ℕ) → reads_key (slice_index image s.pc) s.a ≡ false → pend ++ keys_heard (reads_key (slice_index image s.pc) s.a) key ≡ pend
    still pend s key e = ap (λ b. pend ++ keys_heard b key) e ∙ append-nil pend

    moving : {may_write : Type 0} {goal : Machine → Type 0} (s : Machine) → Last image final may_write goal s → in_loop loop s ≡ false
    moving s l = moves_apart loop s (λ e. own.apart.0 (sym l.place ∙ e)) (λ e. own.apart.1 (sym l.place ∙ e))

    lands_of : {may_write : Type 0} {goal : Machine → Type 0} (pend : List ℕ) → Leads pend goal → (s : Machine) → Last image final may_write goal s → SameWords s → Ends up low R u pend s
    lands_of pend leads s l same = lands pend s (record {
      shows = shows s same (subst HasPoint (sym l.place) own.last_point);
      commit = ap map.commits l.place ∙ own.last_commit;
      going = going;
      moving = moving s l;
      leads = λ key w. let x = leads key w in (x.0, x.1, still pend s key (not_heard (slice_index image s.pc) s l.no_key) ∙ x.2, x.3, x.4, step image key s, refl, x.5 (step image key s) (l.leads key w));
    })

    -- the last instruction of a command that goes astray
    astray_of : {may_write : Type 0} {goal : Machine → Type 0} → up.hears u ≡ false → ((key : ℕ) → IsKey key → up.step key u ≡ None) → (s : Machine) → Last image final may_write goal s → SameWords s → Ends up low R u [] s
    astray_of deaf none s l same = strays s (record {
      shows = shows s same (subst HasPoint (sym l.place) own.last_point);
      commit = ap map.commits l.place ∙ own.last_commit;
      going = going;
      moving = moving s l;
      deaf = (deaf, not_heard (slice_index image s.pc) s l.no_key);
      none = none;
    })

    -- by quiet steps and the last
    pub way_of : {may_write : Type 0} {goal : Machine → Type 0} (n : ℕ) (pend : List ℕ) (s : Machine) → Does image inside final may_write goal n s → SameWords s → ((t : Machine) → Last image final may_write goal t → SameWords t → Ends up low R u pend t) → To (suc n) pend s
    way_of n pend s (arrived l) same ends = last (suc n) pend s (ends s l same) (omega arith)
    way_of (suc n) pend s (further q r) same ends =
        onward (suc (suc n)) (suc n) pend s (shows s same (own.points s.pc q.place)) (own.commits s.pc q.place) (omega arith) (λ key w. step image key s) (λ key w. refl)
        (λ key w. subst (λ z. To (suc n) z (step image key s)) (sym (still pend s key (not_heard (slice_index image s.pc) s q.no_key)))
        (way_of n pend (step image key s) (r key w) (kept s key same q.no_write) ends))

    -- a command that hears no key
    pub quiet_way : {may_write : Type 0} {goal : Machine → Type 0} (n : ℕ) (s : Machine) → up.hears u ≡ false → ((key : ℕ) → IsKey key → (u' : U) × (up.step key u ≡ Some u') × ((s' : Machine) → goal s' → R u' s')) → SameWords s → Does image inside final may_write goal n s → To (suc n) [] s
    quiet_way n s deaf leads same d = way_of n [] s d same (lands_of [] (λ key w. let x = leads key w in (key, w, sym (ap (λ b. keys_heard b key) deaf), x.0, x.1, x.2)))

    -- a command that goes astray
    pub astray_way : {may_write : Type 0} {goal : Machine → Type 0} (n : ℕ) (s : Machine) → up.hears u ≡ false → ((key : ℕ) → IsKey key → up.step key u ≡ None) → SameWords s → Does image inside final may_write goal n s → To (suc n) [] s
    astray_way n s deaf none same d = way_of n [] s d same (astray_of deaf none)

    -- a command that hears the key, which it reads once
    pub hearing_way : {may_write : Type 0} {goal : ℕ → Machine → Type 0} (m n : ℕ) (s : Machine) → up.hears u ≡ true → ((key : ℕ) → IsKey key → (u' : U) × (up.step key u ≡ Some u') × ((s' : Machine) → goal key s' → R u' s')) → SameWords s → DoesHearing image inside final may_write goal n m s → To (n + suc (suc m)) [] s
    hearing_way m n s hears leads same (arrived h) =
        onward (n + suc (suc m)) (suc m) [] s (shows s same (own.points s.pc h.place)) (own.commits s.pc h.place) (omega arith) (λ key w. step image key s) (λ key w. refl)
        (λ key w. subst (λ z. To (suc m) z (step image key s)) (sym (ap (λ b. keys_heard b key) (is_heard (slice_index image s.pc) s (words s.pc) h.reads)))
        (way_of m (key ∷ []) (step image key s) (h.then key w) (kept s key same h.no_write) (lands_of (key ∷ []) (λ other v. let x = leads key w in (key, w, sym (ap (λ b. keys_heard b key) hears), x.0, x.1, x.2)))))
    hearing_way m (suc n) s hears leads same (further q r) =
        onward (suc n + suc (suc m)) (n + suc (suc m)) [] s (shows s same (own.points s.pc q.place)) (own.commits s.pc q.place) (omega arith) (λ key w. step image key s) (λ key w. refl)
        (λ key w. subst (λ z. To (n + suc (suc m)) z (step image key s)) (sym (still [] s key (not_heard (slice_index image s.pc) s q.no_key)))
        (hearing_way m n (step image key s) hears leads (kept s key same q.no_write) (r key w)))

  -- Both have come to their end.
  pub resting_way : (n : ℕ) (s : Machine) → up.halted u ≡ true → in_loop loop s ≡ true → HasPoint s.pc → SameWords s → Way up (hack_system image map loop) (λ z. 1) R u (suc n) [] s
  resting_way n s e l p same = last (suc n) [] s (rests s (record { shows = shows s same p; upper = e; lower = l })) (omega arith)

  -- Quiet steps, which are no commits, open the run.
  pub opens_of : {goal : Machine → Type 0} (inside : ℕ → Type 0) (n : ℕ) (s : Machine) → ((k : ℕ) → inside k → HasPoint k) → ((k : ℕ) → inside k → map.commits k ≡ false) → SameWords s
      → ((s' : Machine) → SameWords s' → goal s' → R u s') → Reaches image (Quiet image inside) goal n s → Opens up (hack_system image map loop) (λ z. 1) R u n s
  opens_of inside n s points commits same leads (arrived g) = ready n s (leads s same g)
  opens_of inside (suc n) s points commits same leads (further q r) =
      before (suc n) n s (shows s same (points s.pc q.place)) (commits s.pc q.place) (not_heard (slice_index image s.pc) s q.no_key) (omega arith) (λ key w. step image key s) (λ key w. refl)
      (λ key w. opens_of inside n (step image key s) points commits (kept s key same q.no_write) leads (r key w))

pub steps_are_ways : {U : Type 0} → StepsAreWays U
steps_are_ways {U} = record {
  deaf = λ up image map loop r u inside final words own going none goal leads n s same d. quiet_way up image words map loop (Related r) u (λ k. inside k ≡ true) final own going n s none leads same d;
  hearing = λ up image map loop r u inside final words own going hears goal leads n m s same d. hearing_way up image words map loop (Related r) u (λ k. inside k ≡ true) final own going m n s hears leads same d;
  straying = λ up image map loop r u inside final words own going deaf none n s same d. astray_way up image words map loop (Related r) u (λ k. inside k ≡ true) final own going n s deaf none same d;
  resting = λ up image map loop r u words n s e l p same. resting_way up image words map loop (Related r) u n s e l p same;
  opening = λ up image map loop r u inside words points commits n s same d. opens_of up image words map loop (Related r) u (λ k. inside k ≡ true) n s points commits same (λ t q g. g) d;
}
