-- A run that is one move longer.
use Rattle.std.proofs.Common.{◌≡◌, ℕ, ◌+◌, List, [], ◌∷◌, ◌++◌, length-append, refl, ap, sym, ◌∙◌, subst, zero, suc, add-one, arith}
use Rattle.std.specs.Prelude.{map}
use Rattle.std.specs.List.{range_with_len}
use Rattle.std.proofs.lemmas.List.FromFn.{map-range_with_len_more}
use Rattle.std.proofs.lemmas.List.{map-append}
use Rattle.std.proofs.lemmas.List.Elements.{All-push}
use Rattle.machine_io.specs.History.{Turn, turn}
use Rattle.machine_io.specs.declared.machine.Moved.TheVariants.{Acted}
use Rattle.hack_machine.specs.Turns.{HasTaken}
use Rattle.hack_isa.specs.Machine.{Machine, step, run, start}
use Rattle.hack_machine.specs.Loaded.{LoadedMachine, HasRun, RunsThroughCycles, machine_of}

pub run-push : (image keys : List ℕ) (key : ℕ) (s : Machine) → run image (keys ++ key ∷ []) s ≡ step image key (run image keys s)
run-push image [] key s = refl
run-push image (k ∷ keys) key s = run-push image keys key (step image k s)

pub has_run_more : (old new : LoadedMachine) (keys : List ℕ) (key : ℕ) → new.image ≡ old.image → new.moves ≡ old.moves + 1 → machine_of new ≡ step old.image key (machine_of old) → HasRun old keys → HasRun new (keys ++ key ∷ [])
has_run_more old new keys key image moves stepped h = record {
  state = stepped ∙ ap (step old.image key) h.state ∙ sym (run-push old.image keys key start) ∙ ap (λ words. run words (keys ++ key ∷ []) start) (sym image);
  count = moves ∙ ap (λ n. n + 1) h.count ∙ sym (length-append keys (key ∷ []));
}

-- one more turn, in which the machine acts
pub has_taken_more : (old new : LoadedMachine) (turns : List Turn) (key : ℕ) → ((keys : List ℕ) → HasRun old keys → HasRun new (keys ++ key ∷ [])) → HasTaken old turns → HasTaken new (turns ++ turn key Acted ∷ [])
has_taken_more old new turns key more h = record {
  acted = All-push (λ t. t.answer ≡ Acted) turns (turn key Acted) h.acted refl;
  ran = subst (HasRun new) (sym (map-append (λ t. t.key) turns (turn key Acted ∷ []))) (more (map (λ t. t.key) turns) h.ran);
}

pub runs_through_cycles : RunsThroughCycles
runs_through_cycles image keys zero = refl
runs_through_cycles image keys (suc c) =
    ap (step image (keys c)) (runs_through_cycles image keys c) ∙ sym (run-push image (map keys (range_with_len 0 c)) (keys c) start)
    ∙ ap (λ ks. run image ks start) (sym (ap (λ n. map keys (range_with_len 0 n)) (sym (add-one c)) ∙ map-range_with_len_more keys 0 c c (omega arith)))
