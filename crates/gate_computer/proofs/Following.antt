-- The history of the computer of gates, cycle by cycle.
use Rattle.std.proofs.Common.{◌≡◌, ◌<◌, ◌≤◌, ◌+◌, ◌-◌, ℕ, zero, suc, Bool, true, false, List, [], ◌∷◌, ◌++◌, length, Some, refl, ap, ◌∙◌, sym, subst, arith, length-append, add-one}
use Rattle.std.specs.Prelude.{if◌then◌else◌, nat_lt, slice_get, slice_index, codes}
use Rattle.std.specs.List.{All}
use Rattle.std.proofs.lemmas.List.Elements.{All-push}
use Rattle.word16.specs.Memory.{keyboard}
use Rattle.hack_isa.specs.Machine.{Machine, machine_at, step}
use Rattle.machine_io.specs.History.{Turn, turn}
use Rattle.machine_io.specs.declared.machine.Moved.TheVariants.{Acted}
use Rattle.simulation.specs.System.{IsKey, keys_heard}
use Rattle.simulation.specs.Trace.{heard_keys}
use Rattle.simulation.proofs.Traces.{steps_same, heard_same, point_same}
use Rattle.image_map.specs.Map.{the_map}
use Rattle.image_map.specs.Computer.{reads_key, run_trace}
use Rattle.image_map.specs.Tallies.{TallyState, HasTallied, trace_through}
use Rattle.image_map.specs.Turns.{HoldsKeys}
use Rattle.image_map.proofs.Holding.{holds_before, holds_last, one_longer, key_at, key_at_past, key_words, are_keys, holds_own}
use Rattle.image_map.proofs.Tallying.{machine_pc}
use Rattle.hdl_tree.specs.declared.library.Entry.{Entry}
use Rattle.hdl_tree.specs.declared.ends.End.TheVariants as ends
use Rattle.hdl_tree.specs.declared.ends.Memories.TheVariants.{Blocks}
use Rattle.hdl_tree.specs.Memory.{number}
use Rattle.hdl_tree.specs.Chips.{end_of}
use Rattle.hdl_tree.specs.Behaviour.{Histories, chip_at}
use Rattle.netlist.specs.Net.{Net}
use Rattle.netlist.specs.Order.{AreOrdered}
use Rattle.netlist.specs.Present.{value_in}
use Rattle.netlist.specs.Value.{Inputs, AreValues, spelled_number}
use Rattle.netlist.specs.Words.{word_at as stored_at}
use Rattle.netlist.proofs.Rows.{spelled_same}
use Rattle.gate_sim.specs.Calls.{is_pin, pins_of}
use Rattle.gate_sim.specs.Calls.Call.{Load, Eval, Tick, Tock}
use Rattle.gate_sim.specs.Values.{ArePast, AreValues as AreCallValues}
use Rattle.gate_sim.specs.State.{SimState}
use Rattle.gate_sim.specs.Stands.{StandsFor}
use Rattle.gate_sim.specs.Cycles.{Runs}
use Rattle.gate_sim.proofs.Cycles.{law, start}
use Rattle.gate_sim.proofs.Inputs.{unset}
use Rattle.hdl_nodes.specs.Numbering.{nodes_of}
use Rattle.hdl_nodes.proofs.Ends.{held_is, spelled_is}
use Rattle.chip_basic.specs.Hdl.{shipped_entry}
use Rattle.chip_memory.specs.Trees.{ram16k_tree, screen_tree}
use Rattle.hack_cpu.specs.Computer.{block_word}
use Rattle.gate_computer.specs.declared.wiring.Wiring.{Wiring}
use Rattle.gate_computer.specs.Computer.{chips, computer, IsComputer}
use Rattle.gate_computer.specs.declared.wiring.WiredPart.{WiredPart}
use Rattle.gate_computer.specs.Wiring.{cpu_path, a_register_path, main_path, screen_path}
use Rattle.gate_computer.specs.Simple.{ShowsComputer}
use Rattle.gate_computer.specs.Followed.{GateMachine, HasFollowed, PassesParts}
use Rattle.gate_computer.specs.Inner.Reading.{wired_text}
use Rattle.gate_computer.proofs.Outputs.{text_same}
use Rattle.outer_world.specs.State.{SinkState}
use Rattle.outer_world.specs.Written.{Passes}
use Rattle.outer_world.specs.declared.sink.Put.{Put}
use Rattle.gate_computer.specs.Calls.{HoldsKey, ComesIn, WasTold}
use Rattle.gate_computer.specs.Inner.Told.{HasSet}
use Rattle.gate_computer.proofs.Seen.{shows_at, seen}
use Rattle.gate_computer.proofs.Paths.{main_stands, screen_stands}
use Rattle.gate_computer.proofs.Keyboard.{same_pins}
use Rattle.gate_computer.proofs.Own.{wires_of, memory_there, not_rom, loaded_elsewhere, is_computer, keys_apart, key_inputs, comes_in, behaves}
use Rattle.gate_computer.proofs.Simple.{Ran, ran, readable_of}

-- ---- counts by the instruction machine

-- what was counted up to cycle n of the run of the instruction machine
pub record AtMachine (image : List ℕ) (t : TallyState) (heard : ℕ) (keys : ℕ → ℕ) (n : ℕ) : Type 0 where
  pub tallied : HasTallied t (machine_pc image keys) n
  pub listened : heard ≡ length (heard_keys (run_trace image (the_map t.map) keys) n)

machine_same : (image : List ℕ) (keys keys' : ℕ → ℕ) (n : ℕ) → ((c : ℕ) → c < n → keys c ≡ keys' c) → machine_at image keys n ≡ machine_at image keys' n
machine_same image keys keys' zero h = refl
machine_same image keys keys' (suc n) h =
    ap (λ k. step image k (machine_at image keys n)) (h n (omega arith))
    ∙ ap (step image (keys' n)) (machine_same image keys keys' n (λ c less. h c (omega arith)))

-- other keys that are the same so far
agree : (image : List ℕ) (t : TallyState) (heard : ℕ) (keys keys' : ℕ → ℕ) (n : ℕ) → ((c : ℕ) → c < n → keys c ≡ keys' c) → AtMachine image t heard keys n → AtMachine image t heard keys' n
agree image t heard keys keys' n h was =
    let same : (c : ℕ) → c ≤ n → machine_at image keys c ≡ machine_at image keys' c = λ c le. machine_same image keys keys' c (λ d less. h d (omega arith)) in
    record {
      tallied = record {
        here = was.tallied.here ∙ ap (λ (m : Machine). m.pc) (same n (omega arith));
        counted = was.tallied.counted
            ∙ steps_same (trace_through (the_map t.map) (machine_pc image keys)) (trace_through (the_map t.map) (machine_pc image keys')) n
            (λ c less. ap (λ (m : Machine). (the_map t.map).commits m.pc) (same c (omega arith)));
        seen = sym (point_same (trace_through (the_map t.map) (machine_pc image keys)) (trace_through (the_map t.map) (machine_pc image keys')) n
            (λ c le. ap (λ (m : Machine). (the_map t.map).points m.pc) (same c le)))
            ∙ was.tallied.seen;
      };
      listened = was.listened
          ∙ ap (λ (l : List ℕ). length l) (heard_same (run_trace image (the_map t.map) keys) (run_trace image (the_map t.map) keys') n
          (λ c less. ap (λ (m : Machine). reads_key (slice_index image m.pc) m.a) (same c (omega arith)))
          (λ c less. h c less));
    }

-- what it shows is what the instruction machine shows
pub first : (g : GateMachine) (turns : List Turn) → HasFollowed g turns → (keys : ℕ → ℕ) → ((c : ℕ) → IsKey (keys c)) → HoldsKeys keys 0 turns → AtMachine g.image g.tally g.heard keys (length turns)
first g turns f keys words holds =
    let n = length turns in
    let b = f.behaves keys words (suc n) in
    let s = f.shows keys holds (suc n) b.0 (omega arith) b.1 in
    let alike = seen g.image (the_map g.tally.map) keys (suc n) b.0 b.1 n (omega arith) in
    record {
      tallied = record {
        here = s.at ∙ (shows_at g.image keys (suc n) b.0 b.1 n (omega arith)).pc;
        counted = s.counted ∙ alike.counts.steps_are
            ∙ sym (steps_same (trace_through (the_map g.tally.map) (machine_pc g.image keys)) (run_trace g.image (the_map g.tally.map) keys) n (λ c less. refl));
        seen = point_same (trace_through (the_map g.tally.map) (machine_pc g.image keys)) (run_trace g.image (the_map g.tally.map) keys) n (λ c less. refl)
            ∙ sym alike.counts.point_is ∙ s.seen;
      };
      listened = s.heard ∙ ap (λ (l : List ℕ). length l) alike.counts.heard_are;
    }

-- ---- words

either : (b : Bool) (x y x' y' : ℕ) → x ≡ x' → y ≡ y' → (if b then x else y) ≡ (if b then x' else y')
either b x y x' y' e f = ap (λ z. if b then z else y) e ∙ ap (λ z. if b then x' else z) f

module _ (sim : SimState) (w : Wiring) (image : List ℕ) (key : ℕ) (turns : List Turn) (told : WasTold sim w image key turns) (keys : ℕ → ℕ) where
  -- what comes into its own netlist, and into that of the Computer
  abbrev own_inputs : Inputs
  own_inputs = key_inputs w image keys

  abbrev full_inputs : Inputs
  full_inputs = key_inputs told.seen.full image keys

  own_comes : (n : ℕ) → ComesIn w image keys n own_inputs
  own_comes n = comes_in w image keys n (readable_of sim.net w told.seen).apart

  own_values : Ran told.seen.whole sim.net told.seen.full w told.seen.wired image keys
  own_values = ran sim.net w told.seen image keys told.ordered

  abbrev own_wires : List ℕ → Histories
  own_wires = wires_of told.seen.whole told.seen.full told.seen.wired own_values.v

  own_is : ((c : ℕ) → IsKey (keys c)) → (m : ℕ) → IsComputer image keys m own_wires
  own_is words m =
      is_computer told.seen.whole told.seen.full told.seen.wired image told.image_words keys m (λ c less. words c) full_inputs
      (comes_in told.seen.full image keys m (keys_apart told.seen.whole told.seen.full told.seen.wired)) own_values.v (own_values.are m)

  own_runs : HoldsKeys keys 0 turns → Runs sim.net own_inputs (length turns) told.calls
  own_runs holds = told.runs keys own_inputs holds (own_comes (length turns))

  block_is : HoldsKeys keys 0 turns → (path : List ℕ) (c : Entry) (bits b : ℕ) → chip_at chips computer path ≡ Some c → end_of Blocks c ≡ Some (ends.Block bits) → b ≡ told.seen.wired.block path → (a : ℕ)
      → stored_at sim.memory b a ≡ block_word bits (own_wires path) (length turns) a
  block_is holds path c bits b found is e a =
      let n = length turns in
      let s = told.seen in
      let block = s.wired.block path in
      let runs = own_runs holds in
      let past = subst (λ m. ArePast sim.net told.calls m own_values.u) (sym runs.cycle) ((law sim.net own_inputs n told.calls runs).past own_values.u (own_values.own n)) in
      ap (λ x. stored_at sim.memory x a) e
      ∙ told.stands.keeps.words own_values.u past block a
      ∙ runs.words own_values.u block a
      ∙ own_values.words n block a
      ∙ held_is s.whole full_inputs n own_values.v (own_values.are n) block bits (s.wired.at path) (memory_there s.whole s.full s.wired path c bits found is)
      (λ x. loaded_elsewhere image s.full.rom block x (not_rom s.whole s.full s.wired path c bits found is)) n a

  words_are : ((c : ℕ) → IsKey (keys c)) → HoldsKeys keys 0 turns → (a : ℕ) → a < keyboard
      → (if nat_lt a 16384 then stored_at sim.memory w.main a else stored_at sim.memory w.screen (a - 16384)) ≡ (machine_at image keys (length turns)).memory a
  words_are words holds a near =
      either (nat_lt a 16384) (stored_at sim.memory w.main a) (stored_at sim.memory w.screen (a - 16384))
      (block_word 14 (own_wires main_path) (length turns) a) (block_word 13 (own_wires screen_path) (length turns) (a - 16384))
      (block_is holds main_path (shipped_entry ram16k_tree) 14 w.main main_stands.0 main_stands.1 (own_values.main ∙ told.seen.wired.blocks.main) a)
      (block_is holds screen_path (shipped_entry screen_tree) 13 w.screen screen_stands.0 screen_stands.1 (own_values.screen ∙ told.seen.wired.blocks.screen) (a - 16384))
      ∙ (shows_at image keys (suc (length turns)) own_wires (own_is words (suc (length turns))) (length turns) (omega arith)).memory a near

-- ---- a history, from what was given and counted

pub followed : (g : GateMachine) (turns : List Turn) → All (λ t. t.answer ≡ Acted) turns → g.moves ≡ length turns → WasTold g.sim g.wiring g.image g.key turns
    → (0 < length turns → g.tally.at ≡ spelled_number (value_in g.sim.values) g.wiring.pc)
    → ((keys : ℕ → ℕ) → ((c : ℕ) → IsKey (keys c)) → HoldsKeys keys 0 turns → AtMachine g.image g.tally g.heard keys (length turns)) → HasFollowed g turns
followed g turns acted counts told read by = record {
  acted = acted;
  counts = counts;
  told = told;
  read = read;
  shows = λ keys holds m wires less is.
      let n = length turns in
      let own = key_at g.key turns in
      let own_words = key_words g.key turns told.key_word told.key_words in
      let own_holds = holds_own g.key turns in
      let same : (c : ℕ) → c < n → own c ≡ keys c = λ c lt. sym (are_keys g.key keys turns holds c lt) in
      let mine = agree g.image g.tally g.heard own keys n same (by own own_words own_holds) in
      let alike = seen g.image (the_map g.tally.map) keys m wires is n less in
      record {
        at = mine.tallied.here ∙ sym (shows_at g.image keys m wires is n less).pc;
        counted = mine.tallied.counted
            ∙ steps_same (trace_through (the_map g.tally.map) (machine_pc g.image keys)) (run_trace g.image (the_map g.tally.map) keys) n (λ c lt. refl)
            ∙ sym alike.counts.steps_are;
        heard = mine.listened ∙ ap (λ (l : List ℕ). length l) (sym alike.counts.heard_are);
        seen = alike.counts.point_is
            ∙ sym (point_same (trace_through (the_map g.tally.map) (machine_pc g.image keys)) (run_trace g.image (the_map g.tally.map) keys) n (λ c lt. refl))
            ∙ mine.tallied.seen;
        words = λ a near.
            words_are g.sim g.wiring g.image g.key turns told own own_words own_holds a near
            ∙ ap (λ (s : Machine). s.memory a) (machine_same g.image own keys n same)
            ∙ sym (alike.words a near);
      };
  behaves = λ keys words m. behaves told.seen.whole told.seen.full told.seen.wired g.image told.image_words told.seen.ordered keys words m;
}

-- ---- one cycle more

-- a key that is heard, or not
heard_more : (b : Bool) (heard k : ℕ) (ks : List ℕ) → heard ≡ length ks → (if b then suc heard else heard) ≡ length (ks ++ keys_heard b k)
heard_more true heard k ks e = ap suc e ∙ sym (length-append ks (k ∷ []) ∙ add-one (length ks))
heard_more false heard k ks e = e ∙ sym (length-append ks [] ∙ (let z : length ks + 0 ≡ length ks = omega arith in z))

module _ (s0 sA sT sK : SimState) (w : Wiring) (image : List ℕ) (old key : ℕ) (turns : List Turn) (netA : sA.net ≡ s0.net) (netT : sT.net ≡ s0.net) (netK : sK.net ≡ s0.net)
    (word : IsKey key) (told : WasTold s0 w image old turns) (set : HasSet sA told.calls (HoldsKey w.keyboard key)) where
  runs_set : (h : Inputs) → Runs s0.net h (length turns) told.calls → Runs s0.net h (length turns) set.now
  runs_set h r = subst (λ m. Runs m h (length turns) set.now) netA (set.runs h (length turns) (subst (λ m. Runs m h (length turns) told.calls) (sym netA) r))

  set_pins : HoldsKey w.keyboard key (pins_of s0.net.nodes set.now)
  set_pins = subst (λ (m : Net). HoldsKey w.keyboard key (pins_of m.nodes set.now)) netA set.pins

  are_set : (pin : ℕ → Bool) → HoldsKey w.keyboard key pin → (k : ℕ) → pins_of s0.net.nodes set.now k ≡ pin k
  are_set pin holds k = same_pins w.keyboard key (pins_of s0.net.nodes set.now) pin set_pins holds k

  module _ (stT : StandsFor sT (Tick ∷ set.now)) (stK : StandsFor sK (Tock ∷ Tick ∷ set.now)) where
    pub told_more : WasTold sK w image key (turns ++ turn key Acted ∷ [])
    told_more = record {
      seen = subst (λ m. ShowsComputer m w) (sym netK) told.seen;
      ordered = subst (λ (m : Net). AreOrdered m.nodes m.blocks) (sym netK) told.ordered;
      image_words = told.image_words;
      key_words = All-push (λ t. IsKey t.key) turns (turn key Acted) told.key_words word;
      key_word = word;
      calls = Tock ∷ Tick ∷ set.now;
      stands = stK;
      held = subst (λ (m : Net). HoldsKey w.keyboard key (pins_of m.nodes (Tock ∷ Tick ∷ set.now))) (sym netK) (record { bits = set_pins.bits; others = set_pins.others });
      runs = λ keys h holds comes.
          let n = length turns in
          let longer : length (turns ++ turn key Acted ∷ []) ≡ suc n = one_longer turns (turn key Acted) in
          let now : HoldsKey w.keyboard key (h.pin n) = subst (λ k. HoldsKey w.keyboard k (h.pin n)) (holds_last keys turns (turn key Acted) holds) (comes.pins n (omega (arith, longer))) in
          let fewer : ComesIn w image keys n h = record { loaded = comes.loaded; pins = λ c less. comes.pins c (omega (arith, longer, less)) } in
          let runs = runs_set h (told.runs keys h (holds_before keys 0 turns (turn key Acted) holds) fewer) in
          let next = (law s0.net h n set.now runs).cycle (λ k pin. are_set (h.pin n) now k) in
          subst (λ m. Runs m h (length (turns ++ turn key Acted ∷ [])) (Tock ∷ Tick ∷ set.now)) (sym netK) (subst (λ m. Runs s0.net h m (Tock ∷ Tick ∷ set.now)) (sym longer) next);
    }

    module _ (keys : ℕ → ℕ) (holds : HoldsKeys keys 0 turns) (now : keys (length turns) ≡ key) (next : keys (suc (length turns)) ≡ key) where
      n : ℕ
      n = length turns

      abbrev h : Inputs
      h = own_inputs s0 w image old turns told keys

      abbrev v : ℕ → ℕ → Bool
      v = (own_values s0 w image old turns told keys).v

      abbrev u : ℕ → ℕ → Bool
      u = (own_values s0 w image old turns told keys).u

      are : (m : ℕ) → AreValues s0.net h m u
      are = (own_values s0 w image old turns told keys).own

      held_at : (c : ℕ) → keys c ≡ key → HoldsKey w.keyboard key (h.pin c)
      held_at c e = subst (λ k. HoldsKey w.keyboard k (h.pin c)) e ((own_comes s0 w image old turns told keys (suc c)).pins c (omega arith))

      now_runs : Runs s0.net h (length turns) set.now
      now_runs = runs_set h (own_runs s0 w image old turns told keys holds)

      -- what is stored after the tick, and after the tock
      tick_value : (k : ℕ) → k < length s0.net.nodes → value_in sT.values k ≡ u k (length turns)
      tick_value k less =
          let goes = law s0.net h (length turns) set.now now_runs in
          let vals = (law s0.net h (length turns) (Tick ∷ set.now) goes.tick).now u (λ i pin. are_set (h.pin (length turns)) (held_at (length turns) now) i) (are (suc (length turns))) in
          stT.values (Tick ∷ set.now) refl u (subst (λ m. AreCallValues m (Tick ∷ set.now) u) (sym netT) vals) k (subst (λ (m : Net). k < length m.nodes) (sym netT) less)
          ∙ ap (u k) goes.tick.cycle

      tock_value : (k : ℕ) → k < length s0.net.nodes → value_in sK.values k ≡ u k (suc (length turns))
      tock_value k less =
          let goes = law s0.net h (length turns) set.now now_runs in
          let runs = goes.cycle (λ i pin. are_set (h.pin (length turns)) (held_at (length turns) now) i) in
          let vals = (law s0.net h (suc (length turns)) (Tock ∷ Tick ∷ set.now) runs).now u (λ i pin. are_set (h.pin (suc (length turns))) (held_at (suc (length turns)) next) i) (are (suc (suc (length turns)))) in
          stK.values (Tock ∷ Tick ∷ set.now) refl u (subst (λ m. AreCallValues m (Tock ∷ Tick ∷ set.now) u) (sym netK) vals) k (subst (λ (m : Net). k < length m.nodes) (sym netK) less)
          ∙ ap (u k) runs.cycle

      -- what nodes of a row spell
      spelled_row : (row : ℕ → Bool) (c bits : ℕ) (f : ℕ → ℕ) (nodes full : List ℕ) → ((k : ℕ) → k < length s0.net.nodes → row k ≡ u k c) → All (λ k. k < length s0.net.nodes) nodes
          → spelled_number (λ k. u k c) nodes ≡ spelled_number (λ k. v k c) full → full ≡ nodes_of bits f → spelled_number row nodes ≡ number bits (λ k. v (f k) c)
      spelled_row row c bits f nodes full same there placed e =
          spelled_same row (λ k. u k c) nodes (λ i d less. same _ (there i d less))
          ∙ placed ∙ ap (spelled_number (λ k. v k c)) e ∙ spelled_is (λ k. v k c) bits f

      module _ (words : (c : ℕ) → IsKey (keys c)) where
        a_is : spelled_number (value_in sT.values) w.a ≡ (machine_at image keys (length turns)).a
        a_is =
            spelled_row (value_in sT.values) (length turns) 16 (told.seen.wired.at a_register_path (codes "out")) w.a told.seen.full.a tick_value (readable_of s0.net w told.seen).nodes.a
            ((own_values s0 w image old turns told keys).a (length turns)) told.seen.wired.pins.a
            ∙ (shows_at image keys (suc (length turns)) (own_wires s0 w image old turns told keys) (own_is s0 w image old turns told keys words (suc (length turns))) (length turns) (omega arith)).a

        pc_is : spelled_number (value_in sK.values) w.pc ≡ (machine_at image keys (suc (length turns))).pc
        pc_is =
            spelled_row (value_in sK.values) (suc (length turns)) 15 (told.seen.wired.at cpu_path (codes "pc")) w.pc told.seen.full.pc tock_value (readable_of s0.net w told.seen).nodes.pc
            ((own_values s0 w image old turns told keys).pc (suc (length turns))) told.seen.wired.pins.pc
            ∙ (shows_at image keys (suc (suc (length turns))) (own_wires s0 w image old turns told keys) (own_is s0 w image old turns told keys words (suc (suc (length turns)))) (suc (length turns)) (omega arith)).pc

        pub counted_more : (t t' : TallyState) (heard heard' address : ℕ) (hears : Bool) → AtMachine image t heard keys (length turns)
            → hears ≡ reads_key (slice_index image t.at) (spelled_number (value_in sT.values) w.a) → heard' ≡ (if hears then suc heard else heard)
            → address ≡ spelled_number (value_in sK.values) w.pc → ((pc : ℕ → ℕ) (c : ℕ) → HasTallied t pc c → pc (suc c) ≡ address → HasTallied t' pc (suc c))
            → AtMachine image t' heard' keys (suc (length turns))
        counted_more t t' heard heard' address hears was heard_is heard_count address_is tallies =
            let c = length turns in
            let m = machine_at image keys c in
            let hears_is : hears ≡ reads_key (slice_index image m.pc) m.a =
            heard_is ∙ ap (reads_key (slice_index image t.at)) a_is ∙ ap (λ p. reads_key (slice_index image p) m.a) was.tallied.here in
            record {
              tallied = tallies (machine_pc image keys) c was.tallied (sym pc_is ∙ sym address_is);
              listened = heard_count ∙ ap (λ b. if b then suc heard else heard) hears_is
                  ∙ heard_more (reads_key (slice_index image m.pc) m.a) heard (keys c) (heard_keys (run_trace image (the_map t.map) keys) c) was.listened
                  ∙ ap (λ (l : List ℕ). length l) (heard_same (run_trace image (the_map t.map) keys) (run_trace image (the_map t'.map) keys) (suc c) (λ d less. refl) (λ d less. refl));
            }

-- the history of one more cycle
pub followed_more : (g g' : GateMachine) (sA sT : SimState) (key : ℕ) (turns : List Turn) (f : HasFollowed g turns) → sA.net ≡ g.sim.net → sT.net ≡ g.sim.net → g'.sim.net ≡ g.sim.net → IsKey key
    → g'.wiring ≡ g.wiring → g'.image ≡ g.image → g'.key ≡ key → g'.moves ≡ suc g.moves
    → (set : HasSet sA f.told.calls (HoldsKey g.wiring.keyboard key)) → StandsFor sT (Tick ∷ set.now) → StandsFor g'.sim (Tock ∷ Tick ∷ set.now)
    → (address : ℕ) (hears : Bool) → hears ≡ reads_key (slice_index g.image g.tally.at) (spelled_number (value_in sT.values) g.wiring.a) → g'.heard ≡ (if hears then suc g.heard else g.heard)
    → address ≡ spelled_number (value_in g'.sim.values) g.wiring.pc → g'.tally.at ≡ address
    → ((pc : ℕ → ℕ) (c : ℕ) → HasTallied g.tally pc c → pc (suc c) ≡ address → HasTallied g'.tally pc (suc c))
    → HasFollowed g' (turns ++ turn key Acted ∷ [])
followed_more g g' sA sT key turns f netA netT netK word same_wiring same_image same_key more set stT stK address hears heard_is heard_count address_is at_is tallies =
    let t = turn key Acted in
    let longer : length (turns ++ t ∷ []) ≡ suc (length turns) = one_longer turns t in
    let told' = told_more g.sim sA sT g'.sim g.wiring g.image g.key key turns netA netT netK word f.told set stT stK in
    let own = key_at key (turns ++ t ∷ []) in
    let own_words = key_words key (turns ++ t ∷ []) word told'.key_words in
    let own_holds = holds_own key (turns ++ t ∷ []) in
    let past : own (suc (length turns)) ≡ key = ap own (let e : suc (length turns) ≡ length (turns ++ t ∷ []) + 0 = omega (arith, longer) in e) ∙ key_at_past key (turns ++ t ∷ []) 0 in
    let mine : AtMachine g.image g'.tally g'.heard own (suc (length turns)) =
    counted_more g.sim sA sT g'.sim g.wiring g.image g.key key turns netA netT netK word f.told set stT stK own
    (holds_before own 0 turns t own_holds) (holds_last own turns t own_holds) past own_words
    g.tally g'.tally g.heard g'.heard address hears (first g turns f own own_words (holds_before own 0 turns t own_holds)) heard_is heard_count address_is tallies in
    followed g' (turns ++ t ∷ [])
    (All-push (λ u. u.answer ≡ Acted) turns t f.acted refl)
    (more ∙ ap suc f.counts ∙ sym longer)
    (subst (λ x. WasTold g'.sim x g'.image g'.key (turns ++ t ∷ [])) (sym same_wiring) (subst (λ x. WasTold g'.sim g.wiring x g'.key (turns ++ t ∷ [])) (sym same_image) (subst (λ x. WasTold g'.sim g.wiring g.image x (turns ++ t ∷ [])) (sym same_key) told')))
    (λ some. at_is ∙ address_is ∙ ap (λ (w : Wiring). spelled_number (value_in g'.sim.values) w.pc) (sym same_wiring))
    (λ keys words holds.
    subst (λ i. AtMachine i g'.tally g'.heard keys (length (turns ++ t ∷ []))) (sym same_image)
    (subst (λ c. AtMachine g.image g'.tally g'.heard keys c) (sym longer)
    (agree g.image g'.tally g'.heard own keys (suc (length turns)) (λ c less. sym (are_keys key keys (turns ++ t ∷ []) holds c (omega (arith, longer, less)))) mine)))

-- ---- a key that is set and evaluated, without a tick

module _ (s0 sA sE : SimState) (w : Wiring) (image : List ℕ) (old key : ℕ) (turns : List Turn) (netA : sA.net ≡ s0.net) (netE : sE.net ≡ s0.net)
    (word : IsKey key) (told : WasTold s0 w image old turns) (set : HasSet sA told.calls (HoldsKey w.keyboard key)) (stE : StandsFor sE (Eval ∷ set.now)) where
  set_runs : (h : Inputs) → Runs s0.net h (length turns) told.calls → Runs s0.net h (length turns) set.now
  set_runs h r = subst (λ m. Runs m h (length turns) set.now) netA (set.runs h (length turns) (subst (λ m. Runs m h (length turns) told.calls) (sym netA) r))

  pins_set : HoldsKey w.keyboard key (pins_of s0.net.nodes set.now)
  pins_set = subst (λ (m : Net). HoldsKey w.keyboard key (pins_of m.nodes set.now)) netA set.pins

  pub told_set : WasTold sE w image key turns
  told_set = record {
    seen = subst (λ m. ShowsComputer m w) (sym netE) told.seen;
    ordered = subst (λ (m : Net). AreOrdered m.nodes m.blocks) (sym netE) told.ordered;
    image_words = told.image_words;
    key_words = told.key_words;
    key_word = word;
    calls = Eval ∷ set.now;
    stands = stE;
    held = subst (λ (m : Net). HoldsKey w.keyboard key (pins_of m.nodes (Eval ∷ set.now))) (sym netE) (record { bits = pins_set.bits; others = pins_set.others });
    runs = λ keys h holds comes.
        subst (λ m. Runs m h (length turns) (Eval ∷ set.now)) (sym netE) (law s0.net h (length turns) set.now (set_runs h (told.runs keys h holds comes))).eval;
  }

  module _ (keys : ℕ → ℕ) (holds : HoldsKeys keys 0 turns) (now : keys (length turns) ≡ key) where
    abbrev set_inputs : Inputs
    set_inputs = own_inputs s0 w image old turns told keys

    abbrev set_values : ℕ → ℕ → Bool
    set_values = (own_values s0 w image old turns told keys).u

    eval_value : (k : ℕ) → k < length s0.net.nodes → value_in sE.values k ≡ set_values k (length turns)
    eval_value k less =
        let goes = law s0.net set_inputs (length turns) set.now (set_runs set_inputs (own_runs s0 w image old turns told keys holds)) in
        let held = subst (λ x. HoldsKey w.keyboard x (set_inputs.pin (length turns))) now ((own_comes s0 w image old turns told keys (suc (length turns))).pins (length turns) (omega arith)) in
        let vals = (law s0.net set_inputs (length turns) (Eval ∷ set.now) goes.eval).now set_values
        (λ i pin. same_pins w.keyboard key (pins_of s0.net.nodes set.now) (set_inputs.pin (length turns)) pins_set held i)
        ((own_values s0 w image old turns told keys).own (suc (length turns))) in
        stE.values (Eval ∷ set.now) refl set_values (subst (λ m. AreCallValues m (Eval ∷ set.now) set_values) (sym netE) vals) k (subst (λ (m : Net). k < length m.nodes) (sym netE) less)
        ∙ ap (set_values k) goes.eval.cycle

    pc_read : ((c : ℕ) → IsKey (keys c)) → spelled_number (value_in sE.values) w.pc ≡ (machine_at image keys (length turns)).pc
    pc_read words =
        let n = length turns in
        let own = own_values s0 w image old turns told keys in
        spelled_same (value_in sE.values) (λ k. set_values k n) w.pc (λ i d less. eval_value _ ((readable_of s0.net w told.seen).nodes.pc i d less))
        ∙ own.pc n ∙ ap (spelled_number (λ k. own.v k n)) told.seen.wired.pins.pc
        ∙ spelled_is (λ k. own.v k n) 15 (told.seen.wired.at cpu_path (codes "pc"))
        ∙ (shows_at image keys (suc n) (own_wires s0 w image old turns told keys) (own_is s0 w image old turns told keys words (suc n)) n (omega arith)).pc

    pub passes_parts : ((c : ℕ) → IsKey (keys c)) → (parts : List WiredPart) → w.parts ≡ Some parts → (before : SinkState) (pending : List ℕ) (now' : SinkState) (pending' : List ℕ) (answer : Put)
        → Passes before pending now' pending' (wired_text (value_in sE.values) parts) answer → PassesParts image keys (length turns) before pending now' pending' answer
    passes_parts words parts has before pending now' pending' answer passes = record {
      text = wired_text (value_in sE.values) parts;
      wires = own_wires s0 w image old turns told keys;
      behaves = own_is s0 w image old turns told keys words (suc (length turns));
      shows = (
        told.seen.wired.pins.places,
        told.seen.wired.pins.all_places,
        text_same (value_in sE.values) (λ k. set_values k (length turns)) (length s0.net.nodes) parts eval_value ((readable_of s0.net w told.seen).nodes.outputs parts has)
            ∙ (own_values s0 w image old turns told keys).lines parts has (length turns),
      );
      passes = passes;
    }

-- the address is read off these values too
pub read_set : (g : GateMachine) (sA sE : SimState) (key : ℕ) (turns : List Turn) (f : HasFollowed g turns) → sA.net ≡ g.sim.net → sE.net ≡ g.sim.net → IsKey key
    → (set : HasSet sA f.told.calls (HoldsKey g.wiring.keyboard key)) → StandsFor sE (Eval ∷ set.now) → g.tally.at ≡ spelled_number (value_in sE.values) g.wiring.pc
read_set g sA sE key turns f netA netE word set stE =
    let own = key_at key turns in
    let words = key_words key turns word f.told.key_words in
    let holds = holds_own key turns in
    let past : own (length turns) ≡ key = ap own (let e : length turns ≡ length turns + 0 = omega arith in e) ∙ key_at_past key turns 0 in
    (first g turns f own words holds).tallied.here ∙ sym (pc_read g.sim sA sE g.wiring g.image g.key key turns netA netE word f.told set stE own holds past words)

-- ---- the start

pub followed_none : (g : GateMachine) → ShowsComputer g.sim.net g.wiring → AreOrdered g.sim.net.nodes g.sim.net.blocks → ((a : ℕ) → slice_index g.image a < 65536) → StandsFor g.sim (Load g.wiring.rom 0 g.image ∷ [])
    → HoldsKey g.wiring.keyboard g.key (λ k. false) → IsKey g.key → g.moves ≡ 0 → g.heard ≡ 0 → ((pc : ℕ → ℕ) → pc 0 ≡ 0 → HasTallied g.tally pc 0) → HasFollowed g []
followed_none g seen' ordered small stands held word moves heard tallied =
    followed g [] (λ k d less. absurd (omega (arith, less))) moves
    (record {
      seen = seen';
      ordered = ordered;
      image_words = small;
      key_words = λ k d less. absurd (omega (arith, less));
      key_word = word;
      calls = Load g.wiring.rom 0 g.image ∷ [];
      stands = stands;
      held = record {
        bits = λ j less. unset (is_pin (slice_get g.sim.net.nodes (slice_index g.wiring.keyboard j))) ∙ held.bits j less;
        others = λ k out. unset (is_pin (slice_get g.sim.net.nodes k));
      };
      runs = λ keys h holds comes.
          let r = (start g.sim.net h.pin).1 (λ b a. 0) [] g.wiring.rom 0 g.image (start g.sim.net h.pin).0 in
          subst (λ l. Runs g.sim.net (record { pin = h.pin; loaded = l }) 0 (Load g.wiring.rom 0 g.image ∷ [])) (λ i b a. sym (comes.loaded b a) i) r;
    })
    (λ some. absurd (omega (arith, some)))
    (λ keys words holds. record { tallied = tallied (machine_pc g.image keys) refl; listened = heard })
