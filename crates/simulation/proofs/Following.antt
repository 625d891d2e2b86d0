-- A machine that carries the run of a meaning follows it; and so does every other run that shows the same.
use Rattle.std.proofs.Common.{◌≡◌, ℕ, suc, ◌+◌, ◌<◌, ◌≤◌, true, false, List, ◌∙◌, sym, subst, arith}
use Rattle.std.specs.Prelude.{Option, Some, None}
use Rattle.outer_world.specs.declared.point.Point.{Point}
use Rattle.simulation.specs.System.{System, IsData, Listening, run_of, Tame, IdlesAtEnd}
use Rattle.simulation.specs.Trace.{Trace, steps, heard_keys, point_at, trace_of}
use Rattle.simulation.specs.Headline.{Agrees, Follows, Meets, CarriesRun}
use Rattle.simulation.specs.Laws.{SameTrace}
use Rattle.simulation.proofs.Runs.{none-some}
use Rattle.simulation.proofs.Cycles.{agrees, follows, meets, moves_on, Standing, standing}
use Rattle.simulation.proofs.Traces.{steps_same, same_counts}

-- a machine that makes no step at its end
pub no_step_at_end : {V : Type 0} (vm : System V) → ((w : V) (key : ℕ) → vm.halted w ≡ true → vm.step key w ≡ None) → ((w : V) → vm.halted w ≡ true → (vm.commits w ≡ false) × (vm.hears w ≡ false)) → IdlesAtEnd vm
no_step_at_end vm stops quiet = record {
  quiet = quiet;
  idles = λ w w' key h e. absurd (none-some w' (sym (stops w key h) ∙ e));
}

module _ {U L : Type 0} (up : System U) (start : U) (low : System L) (cost : L → ℕ) (R : U → L → Type 0) (bound : U → ℕ) (gap until : ℕ) (keys : ℕ → ℕ) (state : ℕ → L) (h : CarriesRun up start low cost R bound gap until keys state) where
  pub agreeing : (n : ℕ) → n ≤ until → Tame up start (heard_keys (trace_of low keys state) n) (steps (trace_of low keys state) n) → Agrees up start (trace_of low keys state) (λ c. low.word (state c)) n
  agreeing n near tame = agrees up start low cost R bound keys state gap h.laws h.low_laws h.layer h.key_words until h.runs h.paid h.still h.small h.begins n near tame

  pub following : (n : ℕ) → n + gap ≤ until → Follows up start (trace_of low keys state) (λ c. low.word (state c)) gap n
  following n near = follows up start low cost R bound keys state gap h.laws h.low_laws h.layer h.key_words until h.runs h.paid h.still h.small h.begins n near

  pub moving : (n : ℕ) → n ≤ until → Tame up start (heard_keys (trace_of low keys state) n) (suc (steps (trace_of low keys state) n)) → (l : L) × (low.step (keys n) (state n) ≡ Some l)
  moving n near tame = moves_on up start low cost R bound keys state gap h.laws h.low_laws h.layer h.key_words until h.runs h.paid h.still h.small h.begins n near tame

  -- after a commit
  pub meeting : (n : ℕ) → suc n ≤ until → low.commits (state n) ≡ true → Tame up start (heard_keys (trace_of low keys state) (suc n)) (steps (trace_of low keys state) (suc n)) → Meets up start low R keys state (suc n)
  meeting n near c tame = meets up start low cost R bound keys state gap h.laws h.low_laws h.layer h.key_words until h.runs h.paid h.still h.small h.begins n near c tame

  -- where it stands: on a way of the state that the meaning has come to, from where that was first met
  pub stands_there : (n : ℕ) → n ≤ until → Tame up start (heard_keys (trace_of low keys state) n) (steps (trace_of low keys state) n)
      → Standing up start low cost R bound keys state gap h.laws h.low_laws h.layer h.key_words until h.runs h.paid h.still h.small h.begins n
  stands_there n near tame = standing up start low cost R bound keys state gap h.laws h.low_laws h.layer h.key_words until h.runs h.paid h.still h.small h.begins n near tame

-- what holds at two values holds at values equal to them
both : {A B : Type 0} (P : A → B → Type 0) (a a' : A) (b b' : B) → a ≡ a' → b ≡ b' → P a b → P a' b'
both P a a' b b' e f p = subst (λ z. P z b') e (subst (P a) f p)

abbrev Held : {S : Type 0} → System S → S → (ℕ → ℕ) → Option Point → List ℕ → ℕ → Type 0
Held {S} meaning start word point ks m = (after : Listening S) × (run_of meaning start ks m ≡ Some after) × ((a : ℕ) → IsData a → word a ≡ meaning.word after.state a) × (point ≡ meaning.point after.state)

-- a run with the same trace up to n, which counts the same up to n + gap and has the same words at n
module _ {S : Type 0} (meaning : System S) (start : S) (t t' : Trace) (word word' : ℕ → ℕ → ℕ) (gap n : ℕ)
    (same : SameTrace t t' n) (commits : (c : ℕ) → c < n + gap → t.commits c ≡ t'.commits c) (words : (a : ℕ) → IsData a → word n a ≡ word' n a) where
  pub following_too : Follows meaning start t' word' gap n → Follows meaning start t word gap n
  following_too f =
      let counts = same_counts t t' n same in
      let later = steps_same t t' (n + gap) commits in
      record {
        agrees = λ tame.
            let r = both (λ ks m. Tame meaning start ks m → Held meaning start (word' n) (point_at t' n) ks m) _ _ _ _ (sym counts.heard_are) (sym counts.steps_are) (λ t. let r = f.agrees t in (r.after, r.run, r.words, r.point)) tame in
            record { after = r.0; run = r.1; words = λ a d. words a d ∙ r.2 a d; point = counts.point_is ∙ r.3 };
        goes_on = λ tame.
            let r = both (λ ks m. Tame meaning start ks (suc m) → m < steps t' (n + gap)) _ _ _ _ (sym counts.heard_are) (sym counts.steps_are) f.goes_on tame in
            omega (arith, r, later);
      }
