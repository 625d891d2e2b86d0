-- The computer made of gates after its cycles, and its report.
use Rattle.std.proofs.Common.{◌≡◌, ◌<◌, ◌++◌, ℕ, suc, false, true, List, [], Result, Ok, Err, IfOk, refl, ap, ◌∙◌, sym, subst, append-nil}
use Rattle.std.specs.Prelude.{IsSome}
use Rattle.std.proofs.lemmas.List.Elements.{recursion_from_All}
use Rattle.word16.specs.Memory.{keyboard}
use Rattle.outer_world.specs.State.{SinkState}
use Rattle.outer_world.specs.declared.sink.Put.{Put}
use Rattle.machine_io.specs.Driven.{EndsBy, IsDriven}
use Rattle.machine_io.specs.History.{Turn, moves_from}
use Rattle.machine_io.specs.Report.{head_text, shown_text}
use Rattle.machine_io.specs.declared.driving.End.{End}
use Rattle.machine_io.specs.declared.driving.End.TheVariants as ends
use Rattle.machine_io.specs.declared.machine.Moved.{Moved}
use Rattle.machine_io.specs.declared.machine.Moved.TheVariants as moved
use Rattle.machine_io.specs.declared.report.LevelName.TheVariants as names
use Rattle.machine_io.specs.declared.report.Show.{Show}
use Rattle.simulation.specs.Headline.{Agrees, Follows}
use Rattle.simulation.specs.Laws.{SameCounts}
use Rattle.simulation.specs.System.{IsKey, Listening, System, Tame, run_of}
use Rattle.simulation.specs.Trace.{Trace, heard_keys, steps}
use Rattle.jack_core.specs.Texts.{names_of, the_program}
use Rattle.jack_core.specs.declared.program.Core.{Core}
use Rattle.jack_meaning.specs.Meaning.{State, start}
use Rattle.hdl_tree.specs.Behaviour.{Histories}
use Rattle.hack_cpu.specs.Computer.{word_at}
use Rattle.gate_computer.specs.Computer.{IsComputer}
use Rattle.gate_computer.specs.Simple.{IsSimpleComputer}
use Rattle.gate_computer.specs.Followed.{GateMachine, HasFollowed, ShowsCycle, image_in, word_in}
use Rattle.gate_computer.specs.Parts.{ShowsParts, parts_text}
use Rattle.image_map.specs.Map.{the_map}
use Rattle.image_map.specs.declared.map.Image.{Image}
use Rattle.image_map.proofs.Holding.{keys_held, moves_length}
use Rattle.gate_computer.proofs.Seen.{gates, seen}
use Rattle.jack_compiler.specs.Resolved.{IsResolvedCore}
use Rattle.tower.specs.Image.{IsImageOf}
use Rattle.image_map.specs.Computer.{run_trace, run_word}
use Rattle.tower.proofs.Computers.{computer as computer_follows}
use Rattle.command_line.specs.declared.request.Shown.{Shown}
use Rattle.command_line.specs.declared.request.Shown.TheVariants.{Nets, Words}
use Rattle.nand_cli.specs.Commands.Gates.{IsGatesReport, ReportsCycle, gates_trace, meaning_in}
use Rattle.nand_cli.specs.Commands.Run.{name_of}
use Rattle.nand_cli.specs.Inner.Parts.{finish_result}
use Rattle.nand_cli.specs.Inner.Reports.{IsAtStart, IsSimpleAtStart, IsWholeAtStart, PutsNets, PutsParts, Reports, gates_head, gates_text}
use Rattle.nand_cli.proofs.Driving.{last_acted}
use Rattle.nand_cli.proofs.Reporting.{reports_by}
use Rattle.nand_cli.proofs.Showing.{shown_same}

-- ---- after the cycles

never_ends : (code : ℕ → ℕ) (old new : GateMachine) (c n c' : ℕ) (answer : Moved) → EndsBy code (HasFollowed old) c n answer (HasFollowed new) c' → HasFollowed old [] → answer ≡ moved.Acted
never_ends code old new c n c' answer (m, below, goes) h =
    last_acted (moves_from code c m) _ (recursion_from_All (λ t. t.answer ≡ moved.Acted) _ (goes.leads [] h).acted)

-- It has followed the keys of n cycles, and all of them were made.
pub record HasTurned (code : ℕ → ℕ) (n : ℕ) (g : GateMachine) (end : End) : Type 0 where
  pub bound : end ≡ ends.Bound
  pub followed : HasFollowed g (moves_from code 0 n)

pub turned : (code : ℕ → ℕ) (old new : GateMachine) (c n c' : ℕ) (end : End) → IsDriven code (HasFollowed old) c n end (HasFollowed new) c' → HasFollowed old [] → c ≡ 0 → HasTurned code n new end
turned code old new c n c' ends.Bound goes h first = record {
  bound = refl;
  followed = subst (λ k. HasFollowed new (moves_from code k n)) first (subst (HasFollowed new) (append-nil (moves_from code c n)) (goes.leads [] h));
}
turned code old new c n c' (ends.Stray s) by h first = let bad = never_ends code old new c n c' (moved.Stray s) by h in absurd (let no : ⊥ = cc in no)
turned code old new c n c' (ends.Full w) by h first = let bad = never_ends code old new c n c' (moved.Full w) by h in absurd (let no : ⊥ = cc in no)
turned code old new c n c' ends.Done by h first = let bad = never_ends code old new c n c' moved.Done by h in absurd (let no : ⊥ = cc in no)

-- ---- one cycle of a behaviour

module _ (g : GateMachine) (code : ℕ → ℕ) (n : ℕ) (followed : HasFollowed g (moves_from code 0 n)) where
  moves_are : g.moves ≡ n
  moves_are = followed.counts ∙ moves_length code 0 n

  pub shows_cycle : (m : ℕ) (wires : List ℕ → Histories) → n < m → IsComputer g.image code m wires → ShowsCycle g code wires n
  shows_cycle m wires near is =
      subst (λ k. ShowsCycle g code wires k) (moves_length code 0 n)
      (followed.shows code (keys_held code 0 n) m wires (subst (λ k. k < m) (sym (moves_length code 0 n)) near) is)

  -- the five lines
  head_is : (subs : List (List ℕ)) (end : End) (wires : List ℕ → Histories) → end ≡ ends.Bound → ShowsCycle g code wires n
      → head_text names.Gates g.moves g.tally.steps (name_of subs g.tally.point.sub) g.tally.point.number end
      ≡ head_text names.Gates n (steps (gates_trace (image_in g) code wires) n) (name_of subs g.tally.point.sub) g.tally.point.number ends.Bound
  head_is subs end wires bound s =
      let p = g.tally.point in
      ap (λ m. head_text names.Gates m g.tally.steps (name_of subs p.sub) p.number end) moves_are
      ∙ ap (λ k. head_text names.Gates n k (name_of subs p.sub) p.number end) s.counted
      ∙ ap (λ (e : End). head_text names.Gates n (steps (gates_trace (image_in g) code wires) n) (name_of subs p.sub) p.number e) bound

  -- the report of words
  words_told : (core : Core) (end : End) (show : Show) → end ≡ ends.Bound → (m : ℕ) (wires : List ℕ → Histories) → n < m → IsComputer g.image code m wires
      → ReportsCycle core (image_in g) code n (Words show) (gates_text g (names_of core) end show) wires
  words_told core end show bound m wires near is =
      let s = shows_cycle m wires near is in
      let all = names_of core in
      let told = head_text names.Gates n (steps (gates_trace (image_in g) code wires) n) (name_of all g.tally.point.sub) g.tally.point.number ends.Bound in
      record {
        point = g.tally.point;
        seen = s.seen;
        rest = shown_text show (word_at wires n);
        after = refl;
        is_text = ap (λ l. l ++ shown_text show (word_in g)) (head_is all end wires bound s)
            ∙ ap (λ l. told ++ l) (shown_same (word_in g) (word_at wires n) (λ a from_on below. s.words a below) show);
      }

  -- the report of parts: the five lines, and the lines of the parts
  nets_told : (core : Core) (end : End) (other : List ℕ → Histories) (rest : List ℕ) → end ≡ ends.Bound → IsComputer g.image code (suc n) other → ShowsParts other n rest
      → (m : ℕ) (wires : List ℕ → Histories) → n < m → IsComputer g.image code m wires
      → ReportsCycle core (image_in g) code n Nets (gates_head g (names_of core) end ++ rest) wires
  nets_told core end other rest bound behaves shown m wires near is =
      let s = shows_cycle m wires near is in record {
        point = g.tally.point;
        seen = s.seen;
        rest = rest;
        after = (other, behaves, shown);
        is_text = ap (λ l. l ++ rest) (head_is (names_of core) end wires bound s);
      }

-- of each history and its keys there are lines of the parts
pub parts_there : (g : GateMachine) (turns : List Turn) (keys : ℕ → ℕ) (n : ℕ) → HasFollowed g turns → ((c : ℕ) → IsKey (keys c))
    → (rest : List ℕ) × (wires : List ℕ → Histories) × IsComputer g.image keys (suc n) wires × ShowsParts wires n rest
parts_there g turns keys n followed words =
    let behaviour = followed.behaves keys words (suc n) in
    let pins = followed.told.seen.wired.pins in
    (parts_text behaviour.0 n pins.places, behaviour.0, behaviour.1, (pins.places, pins.all_places, refl))

-- ---- the headline

both : {A B : Type 0} (P : A → B → Type 0) (a a' : A) (b b' : B) → a ≡ a' → b ≡ b' → P a b → P a' b'
both P a a' b b' e f p = subst (λ z. P z b') e (subst (P a) f p)

-- what agrees agrees by what is seen alike
pub agrees_too : {S : Type 0} (meaning : System S) (first : S) (t t' : Trace) (word word' : ℕ → ℕ → ℕ) (n : ℕ) → SameCounts t t' n → ((a : ℕ) → a < keyboard → word n a ≡ word' n a)
    → (Tame meaning first (heard_keys t' n) (steps t' n) → Agrees meaning first t' word' n) → Tame meaning first (heard_keys t n) (steps t n) → Agrees meaning first t word n
agrees_too {S} meaning first t t' word word' n same words f tame =
    let r = f (both (λ ks m. Tame meaning first ks m) _ _ _ _ same.heard_are same.steps_are tame) in
    let after : Listening S = r.after in
    record {
      after = after;
      run = ap (λ ks. run_of meaning first ks (steps t n)) same.heard_are ∙ ap (run_of meaning first (heard_keys t' n)) same.steps_are ∙ r.run;
      words = λ a d. words a d.1 ∙ r.words a d;
      point = same.point_is ∙ r.point;
    }

-- the report of a computer that has followed the keys
gates_reported : (core : Core) (code : ℕ → ℕ) (n : ℕ) (shown : Shown) (text : List ℕ) (g : GateMachine) → IsResolvedCore core → ((c : ℕ) → IsKey (code c)) → IsImageOf core (image_in g)
    → HasFollowed g (moves_from code 0 n)
    → ((m : ℕ) (wires : List ℕ → Histories) → n < m → IsComputer g.image code m wires → ReportsCycle core (image_in g) code n shown text wires)
    → IsGatesReport core code n shown text
gates_reported core code n shown text g resolved words is_image followed told =
    let p = image_in g in
    let first = start (the_program core) in
    let follows = computer_follows core p resolved is_image code words n in
    let law : Follows (meaning_in core) first (run_trace p.words (the_map p.map) code) (run_word p.words code) follows.0 n = follows.2 in
    record {
      image = p;
      is_image = is_image;
      behaves = followed.behaves code words;
      reports = told;
      agrees = λ m wires near is.
          let alike = seen p.words (the_map p.map) code m wires is n near in
          agrees_too (meaning_in core) first (gates_trace p code wires) (run_trace p.words (the_map p.map) code) (word_at wires) (run_word p.words code) n alike.counts alike.words law.agrees;
      most = follows.0;
      gap = follows.1;
      follows = λ m wires near is. gates State (meaning_in core) first p.words (the_map p.map) code follows.0 n law m wires near is;
    }

-- ---- from the start

-- what is prepared with the image of the program
pub prepared : {E : Type 0} (core : Core) (image : Image) (r : Result GateMachine E) → IsImageOf core image → IfOk r (λ g. image_in g ≡ image)
    → IfOk r (λ g. g.moves ≡ 0) → IfOk r (λ g. HasFollowed g []) → IfOk r (IsAtStart core)
prepared core image (Ok g) is same moves stands = record { image = subst (IsImageOf core) (sym same) is; moves = moves; stands = stands }
prepared core image (Err x) is same moves stands = tt

pub prepared_whole : {E : Type 0} (core : Core) (image : Image) (r : Result GateMachine E) → IsImageOf core image → IfOk r (λ g. image_in g ≡ image)
    → IfOk r (λ g. g.moves ≡ 0) → IfOk r (λ g. HasFollowed g []) → IfOk r (λ g. false ≡ false → IsSome g.wiring.parts) → IfOk r (IsWholeAtStart core)
prepared_whole {E} core image (Ok g) is same moves stands parts = record { start = prepared {E = E} core image (Ok g) is same moves stands; parts = parts refl }
prepared_whole {E} core image (Err x) is same moves stands parts = tt

pub prepared_simple : {E : Type 0} (core : Core) (image : Image) (r : Result GateMachine E) → IsImageOf core image → IfOk r (λ g. image_in g ≡ image)
    → IfOk r (λ g. g.moves ≡ 0) → IfOk r (λ g. HasFollowed g []) → IfOk r (λ g. true ≡ true → IsSimpleComputer g.sim.net g.wiring) → IfOk r (IsSimpleAtStart core)
prepared_simple {E} core image (Ok g) is same moves stands simple = record { start = prepared {E = E} core image (Ok g) is same moves stands; simple = simple refl }
prepared_simple {E} core image (Err x) is same moves stands simple = tt

module _ (core : Core) (code : ℕ → ℕ) (n : ℕ) (resolved : IsResolvedCore core) (words : (c : ℕ) → IsKey (code c)) (old new : GateMachine) (at : IsAtStart core old) (same : image_in new ≡ image_in old) where
  own_image : IsImageOf core (image_in new)
  own_image = subst (IsImageOf core) (sym same) at.image

  -- it was driven, and this is reported of it
  abbrev pub IsToldOf : Show → List ℕ → Type 0
  IsToldOf show t = (end : End) × IsDriven code (HasFollowed old) old.moves n end (HasFollowed new) new.moves × (t ≡ gates_text new (names_of core) end show)

  pub with_words : (show : Show) (t : List ℕ) → IsToldOf show t → IsGatesReport core code n (Words show) t
  with_words show t (end, driven, is) =
      let turns = turned code old new old.moves n new.moves end driven at.stands at.moves in
      let Q = IsGatesReport core code n (Words show) in
      subst Q (sym is)
      (gates_reported core code n (Words show) (gates_text new (names_of core) end show) new resolved words own_image turns.followed (words_told new code n turns.followed core end show turns.bound))

  with_nets : (end : End) (rest : List ℕ) (other : List ℕ → Histories) → IsDriven code (HasFollowed old) old.moves n end (HasFollowed new) new.moves → IsComputer new.image code (suc n) other → ShowsParts other n rest
      → IsGatesReport core code n Nets (gates_head new (names_of core) end ++ rest)
  with_nets end rest other driven behaves shown =
      let turns = turned code old new old.moves n new.moves end driven at.stands at.moves in
      gates_reported core code n Nets (gates_head new (names_of core) end ++ rest) new resolved words own_image turns.followed (nets_told new code n turns.followed core end other rest turns.bound behaves shown)

  -- the five lines are put, and those of the parts in the cycle that comes next
  pub nets_put : (end : End) (key : ℕ) (out out' : SinkState) (p : Put) → IsDriven code (HasFollowed old) old.moves n end (HasFollowed new) new.moves → key ≡ code n
      → PutsNets new key (gates_head new (names_of core) end) out out' p → Reports (IsGatesReport core code n Nets) out out' (finish_result p)
  unfolding PutsNets
  nets_put end key out out' p driven held puts =
      let turns = turned code old new old.moves n new.moves end driven at.stands at.moves in
      let head = gates_head new (names_of core) end in
      let P : ℕ → Type 0 = λ k. PutsParts new.image code k head out out' p in
      let parts = subst P (moves_length code 0 n) (puts (moves_from code 0 n) turns.followed code words (keys_held code 0 n) (ap code (moves_length code 0 n) ∙ sym held)) in
      reports_by (IsGatesReport core code n Nets) (head ++ parts.rest) out out' p (with_nets end parts.rest parts.wires driven parts.behaves parts.shows) parts.puts
