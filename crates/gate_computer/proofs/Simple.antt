-- A netlist that shows the Computer can be given keys and be read, and its history is one of the
-- Computer.
use Rattle.std.proofs.Common.{◌≡◌, ◌<◌, ◌≤◌, ◌+◌, ◌++◌, ℕ, zero, suc, Bool, List, [], ◌∷◌, length, Option, Some, None, refl, inl, inr, ap, ◌∙◌, sym, subst, arith}
use Rattle.std.specs.Prelude.{map, slice_get, slice_index, true, IfOk, MatchOption, Result, Ok, Err}
use Rattle.std.specs.Option.{option_map}
use Rattle.std.specs.List.{All}
use Rattle.std.proofs.lemmas.List.{get_or_default}
use Rattle.std.proofs.lemmas.Option.{same_Some, slice_get_within}
use Rattle.std.proofs.lemmas.List.Elements.{All-append, All-weaker}
use Rattle.word16.specs.Words.{has_bit}
use Rattle.hdl_tree.specs.Memory.{number}
use Rattle.netlist.specs.declared.node.Node.TheVariants.{Pin}
use Rattle.netlist.specs.declared.node.Block.{Block}
use Rattle.netlist.specs.Net.{Net}
use Rattle.netlist.specs.Order.{AreOrdered}
use Rattle.netlist.specs.Histories.{rank}
use Rattle.netlist.specs.Folded.{HearAlike}
use Rattle.netlist.specs.Value.{AreValues, held_in, spelled_number}
use Rattle.netlist.specs.Words.{after_load}
use Rattle.netlist.proofs.Exist.{values_of}
use Rattle.net_simplify.specs.Same.{HearSame, IsPinOf, shape}
use Rattle.netlist.proofs.Ranks.{same_pin}
use Rattle.hdl_nodes.proofs.Numbers.{number_same}
use Rattle.gate_computer.specs.declared.wiring.Wiring.{Wiring}
use Rattle.gate_computer.specs.declared.wiring.WiredPart.{WiredPart}
use Rattle.gate_computer.specs.Parts.{parts_text}
use Rattle.gate_computer.specs.Wiring.{IsWired, part_at}
use Rattle.gate_computer.specs.Simple.{kept_nodes, IsSimpleComputer, IsSimpleOf, ReadsAs, ShowsComputer}
use Rattle.gate_computer.specs.Followed.{GateMachine}
use Rattle.gate_computer.specs.Inner.Readable.{IsReadable}
use Rattle.gate_computer.specs.Inner.Reading.{wired_text}
use Rattle.gate_computer.proofs.Keyboard.{Apart, at_pin, held_by, find}
use Rattle.net_simplify.proofs.Itself.{values_itself, shows_itself}
use Rattle.gate_computer.proofs.Outputs.{text_is, text_same}
use Rattle.gate_computer.proofs.Own.{key_inputs, wires_of, readable, rom_room}

-- ---- lists side by side

abbrev AreSide : (ℕ → ℕ → Type 0) → List ℕ → List ℕ → Type 0
AreSide P xs ys = (i : ℕ) → i < length xs → P (slice_index xs i) (slice_index ys i)

side_more : (P : ℕ → ℕ → Type 0) (x y : ℕ) (xs ys : List ℕ) → P x y → AreSide P xs ys → AreSide P (x ∷ xs) (y ∷ ys)
side_more P x y xs ys first rest zero less = first
side_more P x y xs ys first rest (suc i) less = rest i (omega (arith, less))

split : (P : ℕ → ℕ → Type 0) (xs xs' ys ys' : List ℕ) → length ys ≡ length xs → AreSide P (xs ++ xs') (ys ++ ys') → AreSide P xs ys × AreSide P xs' ys'
split P [] xs' [] ys' e h = (λ i less. absurd (omega (arith, less)), h)
split P [] xs' (y ∷ ys) ys' e h = absurd (omega (arith, e))
split P (x ∷ xs) xs' [] ys' e h = absurd (omega (arith, e))
split P (x ∷ xs) xs' (y ∷ ys) ys' e h =
    let r = split P xs xs' ys ys' (omega (arith, e)) (λ i less. h (suc i) (omega (arith, less))) in
    (side_more P x y xs ys (h 0 (omega arith)) r.0, r.1)

all_second : (Q : ℕ → Type 0) (xs ys : List ℕ) → length ys ≡ length xs → AreSide (λ k l. Q l) xs ys → All Q ys
all_second Q xs ys e h i d less = subst Q (get_or_default ys i 0 d less) (h i (omega (arith, less, e)))

spelled_too : (row row' : ℕ → Bool) (xs ys : List ℕ) → length ys ≡ length xs → AreSide (λ k l. row k ≡ row' l) xs ys → spelled_number row' ys ≡ spelled_number row xs
spelled_too row row' xs ys e h =
    ap (λ n. number n (λ k. row' (slice_index ys k))) e
    ∙ number_same (length xs) (λ k. row' (slice_index ys k)) (λ k. row (slice_index xs k)) (λ k less. sym (h k less))

-- ---- blocks of one shape

abbrev words_in : Option (ℕ × ℕ × ℕ) → ℕ
words_in None = 0
words_in (Some s) = s.0

room_too : (P : ℕ → Type 0) (o o' : Option Block) → option_map shape o ≡ option_map shape o' → MatchOption o ⊥ (λ b. P b.words) → MatchOption o' ⊥ (λ b. P b.words)
room_too P None o' e h = absurd h
room_too P (Some b) None e h = absurd (let no : ⊥ = cc in no)
room_too P (Some b) (Some b') e h = subst P (ap words_in e) h

-- ---- the values of its history and of one of the Computer, under the same keys

-- Values of the whole netlist and of the one that is moved. They are the same of pc and A, the words of the blocks and the lines of the parts that
-- are listed.
pub record Ran (whole net : Net) (full w : Wiring) (wired : IsWired whole full) (image : List ℕ) (keys : ℕ → ℕ) : Type 0 where
  pub v : ℕ → ℕ → Bool
  pub are : (n : ℕ) → AreValues whole (key_inputs full image keys) n v
  pub u : ℕ → ℕ → Bool
  pub own : (n : ℕ) → AreValues net (key_inputs w image keys) n u
  pub pc : (c : ℕ) → spelled_number (λ k. u k c) w.pc ≡ spelled_number (λ k. v k c) full.pc
  pub a : (c : ℕ) → spelled_number (λ k. u k c) w.a ≡ spelled_number (λ k. v k c) full.a
  pub words : (c b x : ℕ) → held_in net.blocks (key_inputs w image keys).loaded u c b x ≡ held_in whole.blocks (key_inputs full image keys).loaded v c b x
  pub main : w.main ≡ full.main
  pub screen : w.screen ≡ full.screen
  pub lines : (parts : List WiredPart) → w.parts ≡ Some parts → (c : ℕ) → wired_text (λ k. u k c) parts ≡ parts_text (wires_of whole full wired v) c wired.pins.places

-- ---- what reads as the netlist of the Computer

-- the nodes that are kept are there
pub kept_there : (net : Net) (w : Wiring) → IsWired net w → All (λ k. k < length net.nodes) (kept_nodes w)
kept_there net w wired =
    let r = readable net w wired in
    let Q : ℕ → Type 0 = λ k. k < length net.nodes in
    All-append Q w.keyboard (w.pc ++ w.a)
    (All-weaker (λ k. slice_get net.nodes k ≡ Some Pin) Q (λ k e. slice_get_within net.nodes k Pin e) w.keyboard r.keyboard)
    (All-append Q w.pc w.a r.nodes.pc r.nodes.a)

module _ (whole net : Net) (full w : Wiring) (wired : IsWired whole full) (s : ReadsAs whole full net w) where
  sides : (P : ℕ → ℕ → Type 0) → AreSide P (kept_nodes full) (kept_nodes w) → AreSide P full.keyboard w.keyboard × AreSide P full.pc w.pc × AreSide P full.a w.a
  sides P h =
      let one = split P full.keyboard (full.pc ++ full.a) w.keyboard (w.pc ++ w.a) s.keyboard h in
      let two = split P full.pc full.a w.pc w.a s.pc one.1 in
      (one.0, two.0, two.1)

  there : AreSide (λ k l. l < length net.nodes) full.keyboard w.keyboard × AreSide (λ k l. l < length net.nodes) full.pc w.pc × AreSide (λ k l. l < length net.nodes) full.a w.a
  there = sides (λ k l. l < length net.nodes) (λ i less. s.same.inside i less)

  key_was : (i : ℕ) → i < length full.keyboard → slice_get whole.nodes (slice_index full.keyboard i) ≡ Some Pin
  key_was i less = (readable whole full wired).keyboard i 0 less

  key_pin : (i : ℕ) → i < length full.keyboard → IsPinOf whole net (slice_index full.keyboard i) (slice_index w.keyboard i)
  key_pin i less =
      (sides (λ k l. slice_get whole.nodes k ≡ Some Pin → IsPinOf whole net k l) (λ j near. s.same.kept_pins j near)).0 i less (key_was i less)

  apart_too : Apart w.keyboard
  apart_too j k less near e =
      let wide = s.keyboard in
      let near' : k < length full.keyboard = omega (arith, near, wide) in
      let nearer : j < length full.keyboard = omega (arith, less, near') in
      (readable whole full wired).apart j k less near'
      (same_pin whole.nodes (slice_index full.keyboard j) (slice_index full.keyboard k) (key_was j nearer) (key_was k near')
      ((key_pin j nearer).1 ∙ ap (rank net.nodes) e ∙ sym (key_pin k near').1))

  block_too : (P : ℕ → Type 0) (b b' : ℕ) → b' ≡ b → MatchOption (slice_get whole.blocks b) ⊥ (λ k. P k.words) → MatchOption (slice_get net.blocks b') ⊥ (λ k. P k.words)
  block_too P b b' e h =
      subst (λ x. MatchOption (slice_get net.blocks x) ⊥ (λ k. P k.words)) (sym e)
      (room_too P (slice_get whole.blocks b) (slice_get net.blocks b) (s.same.blocks b) h)

  -- the whole one has these parts
  has_parts : (parts : List WiredPart) → w.parts ≡ Some parts → full.parts ≡ Some parts
  has_parts parts is = sym (ap (λ (x : Wiring). x.parts) (s.parts parts is).1) ∙ is

  read_as : IsReadable net w
  read_as =
      let r = readable whole full wired in
      record {
        keyboard = all_second (λ l. slice_get net.nodes l ≡ Some Pin) full.keyboard w.keyboard s.keyboard (λ i less. (key_pin i less).0);
        keyboard_wide = s.keyboard ∙ r.keyboard_wide;
        apart = apart_too;
        pc_wide = s.pc ∙ r.pc_wide;
        a_wide = s.a ∙ r.a_wide;
        nodes = record {
          pc = all_second (λ l. l < length net.nodes) full.pc w.pc s.pc there.1;
          a = all_second (λ l. l < length net.nodes) full.a w.a s.a there.2;
          outputs = λ parts is i part at. let p = s.parts parts is in subst (λ (m : Net). All (λ k. k < length m.nodes) part.outputs) (sym p.0) (r.nodes.outputs parts (has_parts parts is) i part at);
        };
        main = λ a less. block_too (λ n. a < n) full.main w.main s.main (r.main a less);
        screen = λ a less. block_too (λ n. a < n) full.screen w.screen s.screen (r.screen a less);
      }

  room_as : (n : ℕ) → n ≤ 32768 → MatchOption (slice_get net.blocks w.rom) ⊥ (λ b. 0 + n ≤ b.words)
  room_as n le = block_too (λ m. 0 + n ≤ m) full.rom w.rom s.rom (rom_room whole full wired n le)

  module _ (image : List ℕ) (keys : ℕ → ℕ) where
    hear_alike : (n : ℕ) → HearAlike whole net n (key_inputs full image keys).pin (key_inputs w image keys).pin
    hear_alike n c k l less a b e =
        let p = held_by full.keyboard (keys c) (readable whole full wired).apart in
        let q = held_by w.keyboard (keys c) apart_too in
        let wide = s.keyboard in
        elim (find full.keyboard k) [
          | inl (j, near, is) ↦
              let pin = key_pin j near in
              let same : slice_index w.keyboard j ≡ l = same_pin net.nodes (slice_index w.keyboard j) l pin.0 b (sym pin.1 ∙ ap (rank whole.nodes) is ∙ e) in
              ap (at_pin full.keyboard 0 (has_bit (keys c))) (sym is) ∙ p.bits j near
              ∙ sym (q.bits j (omega (arith, near, wide))) ∙ ap (at_pin w.keyboard 0 (has_bit (keys c))) same
          | inr out ↦
              p.others k out
              ∙ sym (q.others l (λ j near is.
              let near' : j < length full.keyboard = omega (arith, near, wide) in
              out j near' (same_pin whole.nodes (slice_index full.keyboard j) k (key_was j near') a ((key_pin j near').1 ∙ ap (rank net.nodes) is ∙ sym e))))
        ]

    hear : (n : ℕ) → HearSame whole net n (key_inputs full image keys) (key_inputs w image keys)
    hear n = record { pins = hear_alike n; loaded = λ b a. ap (λ r. after_load r 0 image b a 0) (sym s.rom) }

    ran_as : AreOrdered whole.nodes whole.blocks → AreOrdered net.nodes net.blocks → Ran whole net full w wired image keys
    ran_as ordered own_ordered =
        let same = s.same in
        let h = key_inputs full image keys in
        let g = key_inputs w image keys in
        let v = values_of whole ordered h in
        let u = values_of net own_ordered g in
        let at : (c : ℕ) → AreSide (λ k l. v.0 k c ≡ u.0 l c) (kept_nodes full) (kept_nodes w) =
        λ c i less. same.values h g (suc c) (hear (suc c)) v.0 u.0 (v.1 (suc c)) (u.1 (suc c)) i c less (omega arith) in
        record {
          v = v.0;
          are = v.1;
          u = u.0;
          own = u.1;
          pc = λ c. spelled_too (λ k. v.0 k c) (λ k. u.0 k c) full.pc w.pc s.pc (sides (λ k l. v.0 k c ≡ u.0 l c) (at c)).1;
          a = λ c. spelled_too (λ k. v.0 k c) (λ k. u.0 k c) full.a w.a s.a (sides (λ k l. v.0 k c ≡ u.0 l c) (at c)).2;
          words = λ c b x. sym (same.words h g c (hear c) v.0 u.0 (v.1 c) (u.1 c) c b x (omega arith));
          main = s.main;
          screen = s.screen;
          lines = λ parts is c.
              let p = s.parts parts is in
              text_same (λ k. u.0 k c) (λ k. v.0 k c) (length whole.nodes) parts
              (λ k less.
              sym (values_itself whole ordered h g (suc c) (subst (λ m. HearSame whole m (suc c) h g) p.0 (hear (suc c))) v.0 u.0 (v.1 (suc c)) (subst (λ m. AreValues m g (suc c) u.0) p.0 (u.1 (suc c))) k c (omega arith) less))
              ((readable whole full wired).nodes.outputs parts (has_parts parts is))
              ∙ ap (wired_text (λ k. v.0 k c)) (same_Some parts (map (part_at wired.at) wired.pins.places) (sym (has_parts parts is) ∙ wired.pins.parts))
              ∙ text_is v.0 c wired.at wired.pins.places;
        }

-- ---- the netlists that read as that of the Computer

pub whole_reads : (whole : Net) (full : Wiring) → IsWired whole full → AreOrdered whole.nodes whole.blocks → ReadsAs whole full whole full
whole_reads whole full wired ordered = record {
  ordered = ordered;
  same = shows_itself whole (kept_nodes full) ordered (kept_there whole full wired);
  keyboard = refl;
  pc = refl;
  a = refl;
  rom = refl;
  main = refl;
  screen = refl;
  parts = λ parts is. (refl, refl);
}

pub simple_reads : (whole net : Net) (full w : Wiring) → IsSimpleOf whole full net w → AreOrdered net.nodes net.blocks → ReadsAs whole full net w
simple_reads whole net full w s ordered = record {
  ordered = ordered;
  same = s.simplified.same;
  keyboard = s.keyboard;
  pc = s.pc;
  a = s.a;
  rom = s.rom;
  main = s.main;
  screen = s.screen;
  parts = λ parts is. absurd (let none = s.parts in let no : ⊥ = cc in no);
}

pub begins_simple : {E : Type 0} (simplify : Bool) (net : Net) (w : Wiring) (r : Result GateMachine E) → (simplify ≡ true → IsSimpleComputer net w) → IfOk r (λ g. g.sim.net ≡ net) → IfOk r (λ g. g.wiring ≡ w) → IfOk r (λ g. simplify ≡ true → IsSimpleComputer g.sim.net g.wiring)
begins_simple simplify net w (Ok g) simple is same = λ asked. subst (λ m. IsSimpleComputer m g.wiring) (sym is) (subst (IsSimpleComputer net) (sym same) (simple asked))
begins_simple simplify net w (Err x) simple is same = tt

-- ---- a netlist that shows the Computer

module _ (net : Net) (w : Wiring) (seen : ShowsComputer net w) where
  pub readable_of : IsReadable net w
  readable_of = read_as seen.whole net seen.full w seen.wired seen.shown

  pub room_of : (n : ℕ) → n ≤ 32768 → MatchOption (slice_get net.blocks w.rom) ⊥ (λ b. 0 + n ≤ b.words)
  room_of n le = room_as seen.whole net seen.full w seen.wired seen.shown n le

  pub ran : (image : List ℕ) (keys : ℕ → ℕ) → AreOrdered net.nodes net.blocks → Ran seen.whole net seen.full w seen.wired image keys
  ran image keys ordered = ran_as seen.whole net seen.full w seen.wired seen.shown image keys seen.ordered ordered
