-- Ends as they are shipped have what the laws ask of them.
use Rattle.std.proofs.Common.{◌≡◌, ℕ, ◌<◌, Bool, true, false, cond, List, [], ◌∷◌, Option, Some, None, refl, sym, ap, subst, ◌∙◌}
use Rattle.std.specs.Prelude.{codes, if◌then◌else◌}
use Rattle.std.specs.Str.{bytes_eq}
use Rattle.std.specs.Cmp.Lexicographic.{bytes_decides}
use Rattle.hdl_tree.specs.declared.library.Entry.{Entry}
use Rattle.hdl_tree.specs.declared.ends.End.{End}
use Rattle.hdl_tree.specs.declared.ends.End.TheVariants as ends
use Rattle.hdl_tree.specs.declared.ends.Memories.TheVariants.{Blocks}
use Rattle.hdl_tree.specs.Chips.{end_of, find_entry, find_chip}
use Rattle.hdl_tree.specs.Behaviour.{Each, width_in}
use Rattle.hdl_plans.specs.Plans.{is_input, EndFits}
use Rattle.hdl_plans.specs.Ways.{HasBit}
use Rattle.hdl_plans.specs.Rows.{pin, nand, dff, ram8}
use Rattle.hdl_behaviours.specs.Loopless.{IsWide}
use Rattle.hdl_behaviours.specs.Reads.{out_bits}
use Rattle.hdl_behaviours.specs.Rows.{keyboard, rom, each_kind, RowsLaw}

-- what holds of each entry holds of the one that is found
found_each : (P : Entry → Type 0) (es : List Entry) (name : List ℕ) (chip : Entry) → Each P es → find_entry es name ≡ Some chip → P chip
found_each P [] name chip all e = absurd cc
found_each P (x ∷ xs) name chip all e = by (bytes_eq name x.name) e (λ h. found_each P xs name chip all.1 h)
  where
    by : (b : Bool) → (if b then Some x else find_entry xs name) ≡ Some chip → (find_entry xs name ≡ Some chip → P chip) → P chip
    by true f go = let same : x ≡ chip = cc in subst P same all.0
    by false f go = go f

-- an end that has one output, which is no input
record Fits (chip : Entry) (e : End) : Type 0 where
  fits : EndFits chip (Some e)
  wide : IsWide chip e
  apart : is_input chip (codes "out") ≡ false
  out : width_in chip.chip.outputs (codes "out") ≡ Some (out_bits e)

abbrev IsRight : Entry → Type 0
IsRight chip = ((e : End) → end_of Blocks chip ≡ Some e → Fits chip e) × ((name : List ℕ) (width : ℕ) → width_in chip.chip.outputs name ≡ Some width → name ≡ codes "out")

one_output : (n : ℕ) (name : List ℕ) (width : ℕ) → width_in (pin "out" n ∷ []) name ≡ Some width → name ≡ codes "out"
one_output n name width e = by (bytes_eq name (codes "out")) refl e
  where
    by : (b : Bool) → bytes_eq name (codes "out") ≡ b → cond {A = Option ℕ} b (Some n) None ≡ Some width → name ≡ codes "out"
    by true f g = (bytes_decides name (codes "out")).0 f
    by false f g = absurd cc

is_kind : (chip : Entry) (e : End) → end_of Blocks chip ≡ Some e → Fits chip e → (e' : End) → end_of Blocks chip ≡ Some e' → Fits chip e'
is_kind chip e is fits e' is' = let same : e ≡ e' = (let f = sym is ∙ is' in cc) in subst (Fits chip) same fits

nand_right : IsRight nand
unfolding end_of
nand_right = (is_kind nand ends.Nand refl (record { fits = (refl, refl, refl); wide = (refl, refl, refl); apart = refl; out = refl }), one_output 1)

dff_right : IsRight dff
unfolding end_of
dff_right = (is_kind dff ends.Dff refl (record { fits = (refl, refl); wide = tt; apart = refl; out = refl }), one_output 1)

keyboard_right : IsRight keyboard
unfolding end_of
keyboard_right = (is_kind keyboard ends.Keyboard refl (record { fits = refl; wide = tt; apart = refl; out = refl }), one_output 16)

rom_right : IsRight rom
unfolding end_of
rom_right = (is_kind rom ends.Rom refl (record { fits = (refl, refl); wide = (refl, refl); apart = refl; out = refl }), one_output 16)

ram8_right : IsRight ram8
unfolding end_of
ram8_right = (is_kind ram8 (ends.Block 3) refl (record { fits = (refl, refl, refl, refl); wide = (refl, refl); apart = refl; out = refl }), one_output 16)

right : (name : List ℕ) (chip : Entry) → find_chip each_kind name ≡ Some chip → IsRight chip
right name chip found = found_each IsRight each_kind.entries name chip (nand_right, (dff_right, (keyboard_right, (rom_right, (ram8_right, tt))))) found

below_out : (chip : Entry) (e : End) (pin : List ℕ) (bit : ℕ) → pin ≡ codes "out" → Fits chip e → HasBit chip.chip.outputs pin bit → bit < out_bits e
below_out chip e pin bit named fits has =
    let same : Some has.width ≡ Some (out_bits e) = sym has.there ∙ ap (width_in chip.chip.outputs) named ∙ fits.out in
    let width : has.width ≡ out_bits e = cc in
    subst (λ (w : ℕ). bit < w) width has.below

pub rows : RowsLaw
unfolding end_of
rows = record {
  kinds = refl;
  has_ends = record {
    fits = λ name chip e found is. ((right name chip found).0 e is).fits;
    apart = λ name chip e found is pin width has. let r = right name chip found in ap (is_input chip) (r.1 pin width has) ∙ (r.0 e is).apart;
  };
  are_wide = λ name chip e found is. ((right name chip found).0 e is).wide;
  out_alone = λ name chip e found is pin bit has.
      let r = right name chip found in
      let named : pin ≡ codes "out" = r.1 pin has.width has.there in
      (named, below_out chip e pin bit named (r.0 e is) has);
}
