-- For which calls a simulator stands after each call.
use Rattle.std.proofs.Common.{◌≡◌, ◌≢◌, ℕ, ◌<◌, Bool, true, false, List, [], ◌∷◌, length, set, Some, None, Option, Vec, refl, ap, sym, ◌∙◌, subst, ne_eqb, eq-eqb, inl, inr, get_or-set_same, get_or-set_other}
use Rattle.std.specs.Prelude.{slice_get, nat_eq, nat_lt, ◌&&◌, ◌⊎◌, if◌then◌else◌}
use Rattle.std.specs.Global.{Global}
use Rattle.std.proofs.lemmas.Option.{same_Some, none-some}
use Rattle.std.proofs.lemmas.Bool.{cases_eq, false≢true}
use Rattle.netlist.specs.declared.node.Node.{Node}
use Rattle.netlist.specs.declared.node.Node.TheVariants.{Pin, Flip}
use Rattle.netlist.specs.declared.step.BlockWrite.{BlockWrite}
use Rattle.netlist.specs.Histories.{rank}
use Rattle.netlist.specs.Order.{AreOrdered}
use Rattle.netlist.specs.Value.{written_in}
use Rattle.netlist.specs.Present.{value_in}
use Rattle.netlist.specs.Words.{word_at, after_load}
use Rattle.netlist.specs.Steps.{after_write, write_at}
use Rattle.gate_sim.specs.Calls.{Call, cycle_of, is_pin, pins_of, evaluated_calls}
use Rattle.gate_sim.specs.Calls.Call.{Load, Set, Eval, Tick, Tock}
use Rattle.gate_sim.specs.Values.{written_before}
use Rattle.gate_sim.specs.Stands.{Keeps, IsFresh, StandsFor}
use Rattle.gate_sim.specs.State.{SimState}
use Rattle.netlist.proofs.Plain.{written_same}
use Rattle.gate_sim.specs.Inner.Evaluated.{IsEvaluated}
use Rattle.gate_sim.proofs.Inputs.{pins_set, unset}
use Rattle.gate_sim.proofs.Marking.{marks_new, marks_set, marks_load, marks_after}
use Rattle.gate_sim.proofs.Past.{past_tick, values_tick, past_fewer, cycle_grows}

-- other values, as they stand after the same calls
pub keeps_values : (s : SimState) (calls : List Call) (values : List Bool) (fresh : Bool) (written : List Bool) (whole : Bool) → Keeps s calls → Keeps (record s { values = values; fresh = fresh; written = written; whole = whole }) calls
keeps_values s calls values fresh written whole keeps = record { pins = keeps.pins; flips = keeps.flips; words = keeps.words; fixed = keeps.fixed; writes = keeps.writes }

pub keeps_eval : (s : SimState) (calls : List Call) → Keeps s calls → Keeps s (Eval ∷ calls)
keeps_eval s calls keeps = record { pins = keeps.pins; flips = keeps.flips; words = keeps.words; fixed = keeps.fixed; writes = keeps.writes }

pin_is_no_flip : (nodes : List Node) (node k i : ℕ) → slice_get nodes node ≡ Some Pin → slice_get nodes k ≡ Some (Flip i) → k ≢ node
pin_is_no_flip nodes node k i p f e = cc

pub keeps_set : (s : SimState) (calls : List Call) (node : ℕ) (bit : Bool) → slice_get s.net.nodes node ≡ Some Pin → node < length s.start → Keeps s calls → Keeps (record s { start = set s.start node bit; fresh = false }) (Set (rank s.net.nodes node) bit ∷ calls)
keeps_set s calls node bit pin inside keeps = record {
  pins = λ k there. elim (cases_eq node k) [
    | inl e ↦
        let t : nat_eq node k ≡ true = eq-eqb node k e in
        let same : value_in (set s.start node bit) k ≡ bit = rw (← e) (get_or-set_same s.start node bit false inside) in
        same ∙ sym (pins_set s.net.nodes calls node bit pin k ∙ ap (λ b. if b then bit else pins_of s.net.nodes calls k) t)
    | inr ne ↦
        let f : nat_eq node k ≡ false = ne_eqb node k ne in
        get_or-set_other s.start node k bit false (λ e. ne (sym e)) ∙ keeps.pins k there ∙ sym (pins_set s.net.nodes calls node bit pin k ∙ ap (λ b. if b then bit else pins_of s.net.nodes calls k) f)
  ];
  flips = λ v past k i there. get_or-set_other s.start node k bit false (pin_is_no_flip s.net.nodes node k i pin there) ∙ keeps.flips v past k i there;
  words = keeps.words;
  fixed = keeps.fixed;
  writes = keeps.writes;
}

pub keeps_take : (s : SimState) (calls : List Call) (start : List Bool) (memory : List (Vec ℕ Global)) (written : List Bool) → ((k : ℕ) → slice_get s.net.nodes k ≡ Some Pin → value_in start k ≡ value_in s.start k) → ((k i : ℕ) → slice_get s.net.nodes k ≡ Some (Flip i) → value_in start k ≡ value_in s.fixed k) → ((b a : ℕ) → word_at memory b a ≡ after_write (write_at s.writes b) a (word_at s.memory b a)) → Keeps s calls → Keeps (record s { start = start; memory = memory; fresh = false; written = written }) (Tock ∷ calls)
keeps_take s calls start memory written pins flips words keeps = record {
  pins = λ k there. pins k there ∙ keeps.pins k there;
  flips = λ v past k i there. flips k i there ∙ keeps.fixed v past k i there;
  words = λ v past b a.
      words b a ∙ keeps.writes v past b a (word_at s.memory b a) ∙ ap (written_before s.net.blocks v (cycle_of (Tock ∷ calls)) b a) (keeps.words v (past_fewer s.net calls (cycle_of (Tock ∷ calls)) (cycle_of calls) v (cycle_grows calls) past) b a);
  fixed = keeps.fixed;
  writes = keeps.writes;
}

pub keeps_fix : (s : SimState) (calls : List Call) (fixed : List Bool) (writes : List (Option BlockWrite)) → AreOrdered s.net.nodes s.net.blocks → ((k i : ℕ) → slice_get s.net.nodes k ≡ Some (Flip i) → value_in fixed k ≡ value_in s.values i) → ((b a old : ℕ) → after_write (write_at writes b) a old ≡ written_in (slice_get s.net.blocks b) (value_in s.values) a old) → Keeps s calls → IsFresh s calls → Keeps (record s { fixed = fixed; writes = writes }) (Tick ∷ calls)
keeps_fix s calls fixed writes ordered flips words keeps fresh = record {
  pins = keeps.pins;
  flips = λ v past. keeps.flips v (past_tick s.net calls v past);
  words = λ v past. keeps.words v (past_tick s.net calls v past);
  fixed = λ v past k i there. flips k i there ∙ fresh v (values_tick s.net calls v past) i (ordered.fit k (Flip i) there);
  writes = λ v past b a old. words b a old ∙ written_same (slice_get s.net.blocks b) (length s.net.nodes) (value_in s.values) (λ i. v i (cycle_of calls)) a old old (ordered.read b) (fresh v (values_tick s.net calls v past)) refl;
}

pub fresh_tick : (s : SimState) (calls : List Call) → IsFresh s calls → IsFresh s (Tick ∷ calls)
fresh_tick s calls fresh v are k less = fresh v (past_tick s.net calls v are.0, are.1) k less

-- after an evaluation
pub stands_after : (s : SimState) (calls : List Call) → evaluated_calls calls ≡ Some calls → IsEvaluated s → Keeps s calls → IsFresh s calls → StandsFor s calls
stands_after s calls last is keeps fresh = record {
  keeps = keeps;
  values = λ earlier e. subst (IsFresh s) (same_Some calls earlier (sym last ∙ e)) fresh;
  fresh = λ e. fresh;
  marks = marks_after s calls is;
}

pub stands_set : (s : SimState) (calls : List Call) (node : ℕ) (bit : Bool) → slice_get s.net.nodes node ≡ Some Pin → node < length s.start → StandsFor s calls → StandsFor (record s { start = set s.start node bit; fresh = false }) (Set (rank s.net.nodes node) bit ∷ calls)
stands_set s calls node bit pin inside stands = record {
  keeps = keeps_set s calls node bit pin inside stands.keeps;
  values = stands.values;
  fresh = λ e. absurd (false≢true e);
  marks = marks_set s calls node bit pin stands.marks;
}

keeps_load : (s : SimState) (calls : List Call) (block from : ℕ) (words : List ℕ) (memory : List (Vec ℕ Global)) (written : List Bool) → ((b a : ℕ) → word_at memory b a ≡ after_load block from words b a (word_at s.memory b a)) → Keeps s calls → Keeps (record s { memory = memory; fresh = false; written = written }) (Load block from words ∷ calls)
keeps_load s calls block from words memory written put keeps = record {
  pins = keeps.pins;
  flips = keeps.flips;
  words = λ v past b a. put b a ∙ ap (after_load block from words b a) (keeps.words v past b a);
  fixed = keeps.fixed;
  writes = keeps.writes;
}

pub stands_load : (s : SimState) (calls : List Call) (block from : ℕ) (words : List ℕ) (memory : List (Vec ℕ Global)) (written : List Bool) → ((b a : ℕ) → word_at memory b a ≡ after_load block from words b a (word_at s.memory b a)) → ((b : ℕ) → value_in written b ≡ true → ((nat_eq block b && nat_lt 0 (length words)) ≡ true) ⊎ (value_in s.written b ≡ true)) → StandsFor s calls → StandsFor (record s { memory = memory; fresh = false; written = written }) (Load block from words ∷ calls)
stands_load s calls block from words memory written put marked stands = record {
  keeps = keeps_load s calls block from words memory written put stands.keeps;
  values = stands.values;
  fresh = λ e. absurd (false≢true e);
  marks = marks_load s calls block from words memory written marked stands.marks;
}

-- a simulator before the first call
pub stands_new : (s : SimState) → ((k : ℕ) → value_in s.start k ≡ false) → ((k : ℕ) → value_in s.fixed k ≡ false) → ((b : ℕ) → write_at s.writes b ≡ None) → ((b a : ℕ) → word_at s.memory b a ≡ 0) → s.fresh ≡ false → StandsFor s []
stands_new s start fixed writes memory fresh = record {
  keeps = record {
    pins = λ k there. start k ∙ sym (unset (is_pin (slice_get s.net.nodes k)));
    flips = λ v past k i there. start k;
    words = λ v past b a. memory b a;
    fixed = λ v past k i there. fixed k;
    writes = λ v past b a old. ap (λ w. after_write w a old) (writes b);
  };
  values = λ earlier e. absurd (none-some earlier e);
  fresh = λ e. absurd (false≢true (sym fresh ∙ e));
  marks = marks_new s;
}
