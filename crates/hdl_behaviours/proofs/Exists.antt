-- A chip without faults and without a loop has a behaviour: the values after enough sweeps, cycle by cycle.
use Rattle.std.proofs.Common.{◌≡◌, ℕ, zero, suc, ◌+◌, ◌*◌, ◌<◌, Bool, true, false, cond, List, [], ◌∷◌, length, Option, Some, None, refl, sym, ap, subst, ◌∙◌, arith, nat_eq}
use Rattle.std.specs.Prelude.{slice_get, is_some, codes, if◌then◌else◌}
use Rattle.std.proofs.lemmas.Bool.Decides.{Decides-eqb}
use Rattle.word16.specs.Words.{has_bit}
use Rattle.hdl_tree.specs.declared.tree.Source.{Source}
use Rattle.hdl_tree.specs.declared.tree.Source.TheVariants as source
use Rattle.hdl_tree.specs.declared.tree.Connection.{Connection}
use Rattle.hdl_tree.specs.declared.tree.Part.{Part}
use Rattle.hdl_tree.specs.declared.library.Entry.{Entry}
use Rattle.hdl_tree.specs.declared.ends.End.{End}
use Rattle.hdl_tree.specs.declared.ends.End.TheVariants as ends
use Rattle.hdl_tree.specs.Memory.{number, before, word_held, word_written}
use Rattle.hdl_tree.specs.Chips.{Chips, end_of, find_chip, parts_of, parts_of_body, parts_unless, first, count}
use Rattle.hdl_tree.specs.Behaviour.{Wires, Histories, World, chip_at, chip_of, inner_chip, width_of, Each, Joins, source_value, PartWired, PartsWired, ChipWired, EndWorks}
use Rattle.hdl_plans.specs.Plans.{Place, Origin, origin_of, is_input, IsDriver, IsPlan, EndFits, IsSound}
use Rattle.hdl_plans.specs.Planned.{plan_of}
use Rattle.hdl_plans.specs.Loops.{IsLoop}
use Rattle.hdl_plans.proofs.Walks.{at_part}
use Rattle.hdl_plans.proofs.Nesting.{faultless_sound}
use Rattle.hdl_nodes.proofs.Numbers.{number_same, number_below, number_word, held_word}
use Rattle.hdl_behaviours.specs.Existence.{AreWords, HasBehaviour, ExistLaw}
use Rattle.hdl_behaviours.specs.Inner.Feeding.{backwards, Supply, by_driver, by_origin, by_parent, outside, inside, supply_in, supply, end_bit, value_by, swept_value, tree_bits}
use Rattle.hdl_behaviours.proofs.Paths.{backwards-push, backwards-twice, chip_below}
use Rattle.hdl_behaviours.proofs.Sweeps.{stable}

-- ---- a chip of a sound tree is sound

record SoundHere (chips : Chips) (chip : Entry) : Type 0 where
  plan : IsPlan chips chip (plan_of chips chip)
  fits : EndFits chip (end_of chips.memories chip)

sound_at : (d : ℕ) (chips : Chips) (top : Entry) (path : List ℕ) (chip : Entry) → IsSound d chips (plan_of chips) top → chip_at chips top path ≡ Some chip → SoundHere chips chip
sound_at zero chips top path chip s at = absurd s
sound_at (suc d) chips top [] chip s at = let same : top ≡ chip = cc in subst (SoundHere chips) same (record { plan = s.0; fits = s.1 })
sound_at (suc d) chips top (i ∷ path) chip s at = let a = at_part chips top i path chip at in sound_at d chips a.inner path chip (s.2 i a.inner a.found) a.rest

-- ---- small facts

each_from : {X : Type 0} (P : X → Type 0) (xs : List X) → ((j : ℕ) (x : X) → slice_get xs j ≡ Some x → P x) → Each P xs
each_from P [] h = tt
each_from P (x ∷ xs) h = (h 0 x refl, each_from P xs (λ j y e. h (suc j) y e))

held_same : (load load' : ℕ → Bool) (address address' word word' start : ℕ → ℕ) (c : ℕ) → ((d : ℕ) → d < c → load d ≡ load' d) → ((d : ℕ) → d < c → address d ≡ address' d) → ((d : ℕ) → d < c → word d ≡ word' d) → (a : ℕ) → word_held load address word start c a ≡ word_held load' address' word' start c a
held_same load load' address address' word word' start zero l m n a = refl
held_same load load' address address' word word' start (suc c) l m n a =
    let h = held_same load load' address address' word word' start c (λ d lt. l d (omega arith)) (λ d lt. m d (omega arith)) (λ d lt. n d (omega arith)) a in
    let x = l c (omega arith) in
    let y = m c (omega arith) in
    let z = n c (omega arith) in
    ap (λ (t : Bool). word_written t (address c) (word c) a (word_held load address word start c a)) x
    ∙ ap (λ (t : ℕ). word_written (load' c) t (word c) a (word_held load address word start c a)) y
    ∙ ap (λ (t : ℕ). word_written (load' c) (address' c) t a (word_held load address word start c a)) z
    ∙ ap (word_written (load' c) (address' c) (word' c) a) h

module _ (chips : Chips) (top : Entry) (d : ℕ) (sound : IsSound d chips (plan_of chips) top) (no_loop : (nets : List (List ℕ)) → IsLoop chips top nets → ⊥) (world : World) (words : AreWords world) (input : Histories) where
  abbrev enough : ℕ
  enough = 2 * suc (length (tree_bits d chips top []))

  abbrev coming : ℕ → List ℕ → ℕ → Bool
  coming c name bit = input name bit c

  -- the values of the cycles before
  past_of : ℕ → List ℕ → Histories
  past_of zero r name bit e = false
  past_of (suc c) r name bit e = cond (nat_eq e c) (swept_value chips top world c (past_of c) (coming c) enough r name bit) (past_of c r name bit e)

  abbrev value : List ℕ → Histories
  value r name bit c = swept_value chips top world c (past_of c) (coming c) enough r name bit

  past_is : (c : ℕ) (r name : List ℕ) (bit e : ℕ) → e < c → past_of c r name bit e ≡ value r name bit e
  unfolding past_of
  past_is zero r name bit e lt = absurd (omega arith)
  past_is (suc c) r name bit e lt = by (nat_eq e c) refl (λ less. past_is c r name bit e less)
    where
      by : (t : Bool) → nat_eq e c ≡ t → (e < c → past_of c r name bit e ≡ value r name bit e) → cond t (swept_value chips top world c (past_of c) (coming c) enough r name bit) (past_of c r name bit e) ≡ value r name bit e
      by true q go = let same : c ≡ e = sym ((Decides-eqb e c).0 q) in ap (value r name bit) same
      by false q go = go (let ne : e ≡ c → ⊥ = λ p. (let f : true ≡ false = sym ((Decides-eqb e c).1 p) ∙ q in absurd cc) in omega arith)

  -- a value is what its supply gives
  is_supplied : (r name : List ℕ) (bit c : ℕ) → value r name bit c ≡ value_by world c (past_of c) (λ q n k. value q n k c) r (supply chips top (coming c) r name bit)
  is_supplied r name bit c = sym (stable chips top d sound (coming c) world c (past_of c) no_loop r name bit)

  abbrev gives : ℕ → List ℕ → Supply → Bool
  gives c r s = value_by world c (past_of c) (λ q n k. value q n k c) r s

  input_of : (r : List ℕ) (i : ℕ) (chip inner : Entry) (name : List ℕ) (bit c : ℕ) → chip_at chips top (backwards r) ≡ Some chip → inner_chip chips chip i ≡ Some inner → is_input inner name ≡ true → value (i ∷ r) name bit c ≡ gives c (i ∷ r) (by_origin r ((plan_of chips chip).origin i name bit))
  input_of r i chip inner name bit c at found way =
      is_supplied (i ∷ r) name bit c
      ∙ ap (λ (o : Option Entry). gives c (i ∷ r) (supply_in chips top (coming c) (i ∷ r) name bit o)) (chip_below chips (backwards r) top chip inner i at found)
      ∙ ap (λ (b : Bool). gives c (i ∷ r) (if b then outside chips top (coming c) (i ∷ r) name bit else inside chips (i ∷ r) name bit inner (end_of chips.memories inner))) way
      ∙ ap (λ (o : Option Entry). gives c (i ∷ r) (by_parent chips r i name bit o)) at

  own_of : (r : List ℕ) (chip : Entry) (name : List ℕ) (bit c : ℕ) → chip_at chips top (backwards r) ≡ Some chip → is_input chip name ≡ false → value r name bit c ≡ gives c r (inside chips r name bit chip (end_of chips.memories chip))
  own_of r chip name bit c at way =
      is_supplied r name bit c
      ∙ ap (λ (o : Option Entry). gives c r (supply_in chips top (coming c) r name bit o)) at
      ∙ ap (λ (b : Bool). gives c r (if b then outside chips top (coming c) r name bit else inside chips r name bit chip (end_of chips.memories chip))) way

  -- ---- parts

  module _ (r : List ℕ) (chip : Entry) (c : ℕ) (at : chip_at chips top (backwards r) ≡ Some chip) (plan : IsPlan chips chip (plan_of chips chip)) (no_end : end_of chips.memories chip ≡ None) where
    abbrev around : Wires Bool
    around name bit = value r name bit c

    parts_are : parts_of chips chip ≡ parts_of_body chip.chip.body
    parts_are = ap (λ (o : Option End). parts_unless o (parts_of_body chip.chip.body)) no_end

    joined_source : (i : ℕ) (s : Source) (k : ℕ) → gives c (i ∷ r) (by_origin r (origin_of s k)) ≡ source_value false true s around k
    joined_source i (source.Net w) k = refl
    joined_source i (source.Constant true) k = refl
    joined_source i (source.Constant false) k = refl

    driven : (i : ℕ) (conn : Connection) (k : ℕ) (s : Source) → IsDriver (plan_of chips chip) chip i conn k s → value (i ∷ r) conn.pin.name (first conn.pin.subscript + k) c ≡ source_value false true s around k
    driven i conn k (source.Constant b) h = absurd h
    driven i conn k (source.Net w) h =
        sym (own_of r chip w.name (first w.subscript + k) c at h.0
        ∙ ap (λ (o : Option End). gives c r (inside chips r w.name (first w.subscript + k) chip o)) no_end
        ∙ ap (λ (o : Option Place). gives c r (by_driver r o)) h.1)

    part_wired : (i : ℕ) (part : Part) (inner : Entry) → slice_get (parts_of chips chip) i ≡ Some part → find_chip chips part.chip ≡ Some inner → PartWired false true inner part around (λ name bit. value (i ∷ r) name bit c)
    part_wired i part inner there found = record {
      joined = each_from (Joins false true inner around (λ name bit. value (i ∷ r) name bit c)) part.connections (λ j conn here k lt. joint j conn here k lt (is_input inner conn.pin.name) refl);
      unjoined = λ name width bit has lt none.
          input_of r i chip inner name bit c at (ap (chip_of chips) there ∙ found) (ap is_some has)
          ∙ ap (λ (o : Origin). gives c (i ∷ r) (by_origin r o)) (plan.unjoined i width bit name part inner there found has lt none);
    }
      where
        joint : (j : ℕ) (conn : Connection) → slice_get part.connections j ≡ Some conn → (k : ℕ) → k < count conn.pin.subscript (width_of inner conn.pin.name) → (b : Bool) → is_input inner conn.pin.name ≡ b → value (i ∷ r) conn.pin.name (first conn.pin.subscript + k) c ≡ source_value false true conn.source around k
        joint j conn here k lt true way =
            input_of r i chip inner conn.pin.name (first conn.pin.subscript + k) c at (ap (chip_of chips) there ∙ found) way
            ∙ ap (λ (o : Origin). gives c (i ∷ r) (by_origin r o)) (plan.input i j k part inner conn there found here way lt)
            ∙ joined_source i conn.source k
        joint j conn here k lt false way = driven i conn k conn.source (plan.output i j k part inner conn there found here way lt)

    wired : PartsWired false true chips chip (parts_of_body chip.chip.body) around (λ i name bit. value (i ∷ r) name bit c)
    wired = subst (λ (ps : List Part). PartsWired false true chips chip ps around (λ i name bit. value (i ∷ r) name bit c)) parts_are (record {
      part = part_wired;
      undriven = λ name width bit has lt none.
          let u = plan.undriven width bit name has lt none in
          own_of r chip name bit c at u.0
          ∙ ap (λ (o : Option End). gives c r (inside chips r name bit chip o)) no_end
          ∙ ap (λ (o : Option Place). gives c r (by_driver r o)) u.1;
    })

  -- ---- ends

  out_is : (r : List ℕ) (chip : Entry) (e : End) (bit c : ℕ) → chip_at chips top (backwards r) ≡ Some chip → end_of chips.memories chip ≡ Some e → is_input chip (codes "out") ≡ false → value r (codes "out") bit c ≡ end_bit world c (past_of c r) e (λ name k. value r name k c) bit
  out_is r chip e bit c at is way = own_of r chip (codes "out") bit c at way ∙ ap (λ (o : Option End). gives c r (inside chips r (codes "out") bit chip o)) is

  before_is : (r name : List ℕ) (bit c : ℕ) → before false c (past_of c r name bit) ≡ before false c (value r name bit)
  before_is r name bit zero = refl
  before_is r name bit (suc c) = past_is (suc c) r name bit c (omega arith)

  spelled : (r : List ℕ) (c word : ℕ) → word < 65536 → ((k : ℕ) → value r (codes "out") k c ≡ has_bit word k) → number 16 (λ k. value r (codes "out") k c) ≡ word
  spelled r c word lt h = number_same 16 (λ k. value r (codes "out") k c) (has_bit word) (λ k less. h k) ∙ number_word word lt

  works : (r : List ℕ) (chip : Entry) (c : ℕ) (e : End) → chip_at chips top (backwards r) ≡ Some chip → end_of chips.memories chip ≡ Some e → EndFits chip (Some e) → EndWorks world c e (value r)
  works r chip c ends.Nand at is fits = out_is r chip ends.Nand 0 c at is fits.2
  works r chip c ends.Dff at is fits = out_is r chip ends.Dff 0 c at is fits.1 ∙ before_is r (codes "in") 0 c
  works r chip c ends.Keyboard at is fits = spelled r c (world.key c) (words.keys c) (λ k. out_is r chip ends.Keyboard k c at is fits)
  works r chip c ends.Rom at is fits = spelled r c (world.rom (number 15 (λ k. value r (codes "address") k c))) (words.words (number 15 (λ k. value r (codes "address") k c))) (λ k. out_is r chip ends.Rom k c at is fits.1)
  works r chip c (ends.Block bits) at is fits =
      spelled r c
      (word_held (λ e. past_of c r (codes "load") 0 e) (λ e. number bits (λ k. past_of c r (codes "address") k e)) (λ e. number 16 (λ k. past_of c r (codes "in") k e)) (λ a. 0) c (number bits (λ k. value r (codes "address") k c)))
      (held_word (λ e. past_of c r (codes "load") 0 e) (λ e. number bits (λ k. past_of c r (codes "address") k e)) (λ e. number 16 (λ k. past_of c r (codes "in") k e)) (λ a. 0) (λ e. number_below 16 (λ k. past_of c r (codes "in") k e)) (λ a. omega arith) c (number bits (λ k. value r (codes "address") k c)))
      (λ k. out_is r chip (ends.Block bits) k c at is fits.3)
      ∙ held_same (λ e. past_of c r (codes "load") 0 e) (λ e. value r (codes "load") 0 e) (λ e. number bits (λ k. past_of c r (codes "address") k e)) (λ e. number bits (λ k. value r (codes "address") k e)) (λ e. number 16 (λ k. past_of c r (codes "in") k e)) (λ e. number 16 (λ k. value r (codes "in") k e)) (λ a. 0) c
      (λ e lt. past_is c r (codes "load") 0 e lt)
      (λ e lt. number_same bits (λ k. past_of c r (codes "address") k e) (λ k. value r (codes "address") k e) (λ k less. past_is c r (codes "address") k e lt))
      (λ e lt. number_same 16 (λ k. past_of c r (codes "in") k e) (λ k. value r (codes "in") k e) (λ k less. past_is c r (codes "in") k e lt))
      (number bits (λ k. value r (codes "address") k c))

  -- ---- the behaviour

  here : (r : List ℕ) (chip : Entry) (c : ℕ) (o : Option End) → chip_at chips top (backwards r) ≡ Some chip → SoundHere chips chip → end_of chips.memories chip ≡ o → ChipWired false true chips chip o (λ name bit. value r name bit c) (λ i name bit. value (i ∷ r) name bit c) (λ e. EndWorks world c e (value r))
  here r chip c None at s is = wired r chip c at s.plan is
  here r chip c (Some e) at s is = works r chip c e at is (subst (EndFits chip) is s.fits)

  pub behaviour : (n : ℕ) → HasBehaviour world chips top n input
  behaviour n = record {
    wires = λ path. value (backwards path);
    behaves = λ c lt path chip at.
        let back = ap (chip_at chips top) (backwards-twice path) ∙ at in
        let h = here (backwards path) chip c (end_of chips.memories chip) back (sound_at d chips top path chip sound at) refl in
        subst (λ (inside' : ℕ → List ℕ). ChipWired false true chips chip (end_of chips.memories chip) (λ name bit. value (backwards path) name bit c) (λ i name bit. value (inside' i) name bit c) (λ e. EndWorks world c e (value (backwards path)))) (λ k i. sym (backwards-push path i) k) h;
    hears = λ name bit c has.
        is_supplied [] name bit c ∙ ap (λ (b : Bool). gives c [] (if b then outside chips top (coming c) [] name bit else inside chips [] name bit top (end_of chips.memories top))) (ap is_some has.there);
  }

pub exists : ExistLaw
exists chips name top ends found faultless no_loop world words n input =
    behaviour chips top (length chips.entries) (faultless_sound chips name top ends found faultless) no_loop world words input n
