-- How many instructions an image has.
use Rattle.std.proofs.Common.{◌≡◌, ◌+◌, ◌≤◌, ◌&&◌, ◌++◌, ℕ, Bool, true, false, not, List, [], ◌∷◌, length, nat_eq, refl, ap, ◌∙◌, arith, length-append, if◌then◌else◌}
use Rattle.std.specs.List.{flat_map}
use Rattle.std.proofs.lemmas.List.Concat.{flat_map-append}
use Rattle.vm_translator.specs.declared.ends.Closing.{Closing}
use Rattle.vm_translator.specs.declared.ends.Closing.TheVariants as closes
use Rattle.vm_templates.specs.declared.routines.Routines.{Routines}
use Rattle.vm_templates.specs.Templates.{start_code, start_size}
use Rattle.vm_templates.proofs.Placed.{size_is}
use Rattle.vm_link.specs.declared.linked.Code.{Code}
use Rattle.vm_link.specs.declared.linked.LinkedFunction.{LinkedFunction}
use Rattle.vm_link.specs.declared.linked.Linked.{Linked}
use Rattle.vm_translator.specs.declared.layout.Placed.{Placed}
use Rattle.vm_translator.specs.Shapes.{shape_of, step_size}
use Rattle.vm_translator.specs.Places.{base_of, end_of, placed_code, placed_from, program, target_of, words_of, words_in}
use Rattle.vm_translator.specs.Image.{closing, closing_code, closing_of, closing_size, entry_of, image_of, names_end, opening, piece, routines, shared_at}
use Rattle.vm_translator.specs.Shared.{shared_from, used_routines, words_shared}
use Rattle.vm_translator.proofs.Routines.{length_shared}
use Rattle.vm_translator.proofs.Sums.{size_to}

pub length_piece : (rs : Routines) (base : ℕ) (fs : List LinkedFunction) (c : Placed) → length (piece rs base fs c) ≡ step_size c.code.step
length_piece rs base fs c = size_is rs c.at (shape_of (target_of base fs c.function c.code.step) c.code.step) ∙ size_to (target_of base fs c.function c.code.step) c.code.step

module _ (rs : Routines) (base : ℕ) (fs : List LinkedFunction) where
  length_code : (k sub at : ℕ) (cs : List Code) → length (flat_map (piece rs base fs) (placed_code k sub at cs)) ≡ words_of cs
  length_code k sub at [] = refl
  length_code k sub at (c ∷ cs) =
      let x : Placed = record { at = at; function = k; point = record { sub = sub; number = c.statement }; code = c } in
      let e = length_piece rs base fs x in
      let r = length_code k sub (at + step_size c.step) cs in
      length-append (piece rs base fs x) (flat_map (piece rs base fs) (placed_code k sub (at + step_size c.step) cs)) ∙ omega arith

  length_from : (k at : ℕ) (gs : List LinkedFunction) → length (flat_map (piece rs base fs) (placed_from k at gs)) ≡ words_in gs
  length_from k at [] = refl
  length_from k at (g ∷ gs) =
      let first = placed_code k g.number at g.code in
      let rest = placed_from (k + 1) (at + words_of g.code) gs in
      let e = length_code k g.number at g.code in
      let r = length_from (k + 1) (at + words_of g.code) gs in
      ap length (flat_map-append (piece rs base fs) first rest) ∙ length-append (flat_map (piece rs base fs) first) (flat_map (piece rs base fs) rest) ∙ omega arith

pub length_opening : (l : Linked) → length (opening l) ≡ base_of l
length_opening l = by_bare l.bare (routines l) (entry_of l)
  where
    by_bare : (b : Bool) (rs : Routines) (e : ℕ) → length (if b then [] else start_code rs e) ≡ (if b then 0 else start_size)
    by_bare true rs e = refl
    by_bare false rs e = refl

length_closed : (at : ℕ) (c : Closing) → length (closing_code at c) ≡ closing_size c
length_closed at closes.Nothing = refl
length_closed at closes.Word = refl
length_closed at closes.Loop = refl

pub length_closing : (l : Linked) → length (closing l) ≡ closing_size (closing_of l)
length_closing l = length_closed (end_of l) (closing_of l)

-- what closes the code has two words at most, and one where the end is named
pub closing_few : (c : Closing) → closing_size c ≤ 2
closing_few closes.Nothing = omega arith
closing_few closes.Word = omega arith
closing_few closes.Loop = omega arith

pub closing_some : (l : Linked) → names_end l ≡ true → 1 ≤ closing_size (closing_of l)
closing_some l = by_cases (l.bare && not (nat_eq (length (used_routines l)) 0)) (names_end l)
  where
    by_cases : (b n : Bool) → n ≡ true → 1 ≤ closing_size (if b then closes.Loop else if n then closes.Word else closes.Nothing)
    by_cases true n e = omega arith
    by_cases false true e = omega arith
    by_cases false false e = absurd (cc e)

-- the instructions of an image before the routines, and with them
pub length_image : (l : Linked) → length (image_of l) ≡ base_of l + (words_in l.functions + (closing_size (closing_of l) + words_shared (used_routines l)))
length_image l =
    let code = flat_map (piece (routines l) (base_of l) l.functions) (program l) in
    let shared = shared_from (shared_at l) (used_routines l) in
    let a = length_opening l in
    let b = length_from (routines l) (base_of l) l.functions 0 (base_of l) l.functions in
    let c = length_closing l in
    let d = length_shared (shared_at l) (used_routines l) in
    let e = length-append (closing l) shared in
    let f = length-append code (closing l ++ shared) in
    length-append (opening l) (code ++ (closing l ++ shared)) ∙ omega arith

pub length_with : (l : Linked) → length (image_of l) ≡ shared_at l + words_shared (used_routines l)
length_with l = let n = length_image l in omega arith
