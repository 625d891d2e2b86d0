-- What the translator answers.
use Rattle.std.proofs.Common.{◌≡◌, ◌+◌, ◌-◌, ◌^◌, ◌<◌, ◌≤◌, ℕ, Bool, true, false, List, length, min, sym, ap, subst, ◌∙◌, arith, if◌then◌else◌}
use Rattle.std.specs.Prelude.{All}
use Rattle.vm_link.specs.declared.linked.Linked.{Linked}
use Rattle.vm_link.specs.declared.linked.LinkedFunction.{LinkedFunction}
use Rattle.vm_link.specs.Sound.{IsSound}
use Rattle.vm_translator.specs.declared.layout.Layout.{Layout}
use Rattle.vm_translator.specs.declared.ends.Closing.{Closing}
use Rattle.vm_templates.specs.declared.routines.Routine.{Routine}
use Rattle.vm_templates.specs.Templates.{start_size}
use Rattle.vm_translator.specs.Shared.{used_routines, words_shared}
use Rattle.vm_translator.specs.Image.{budget_of, closing_of, closing_size, image_of, shared_at, IsTooLarge}
use Rattle.vm_translator.specs.Places.{base_of, end_of, placed_from, program, words_in}
use Rattle.vm_translator.specs.Tables.{IsLayout, IsReady}
use Rattle.vm_translator.proofs.Laid.{ready}
use Rattle.vm_translator.proofs.Routines.{used_few}
use Rattle.vm_translator.proofs.Sizes.{closing_few, length_image, length_with}
use Rattle.vm_translator.proofs.Sums.{words_in_within}

base_low : (b : Bool) → (if b then 0 else start_size) ≤ start_size
base_low true = omega arith
base_low false = omega arith

-- no image has more words than its program's budget
pub image_within : (l : Linked) → length (image_of l) ≤ budget_of l
image_within l =
    let n = length_image l in
    let w = words_in_within l.functions in
    let b = base_low l.bare in
    let e = closing_few (closing_of l) in
    let u = used_few l in
    omega arith

pub too_large : (l : Linked) (w : ℕ) → w ≡ min (length (image_of l)) (2 ^ 64 - 1) → 32768 < w → IsTooLarge l w
too_large l w e h = let i = image_within l in record { words = e; over = omega arith; within = omega arith }

pub fits : (l : Linked) (w : ℕ) → w ≡ min (length (image_of l)) (2 ^ 64 - 1) → w ≤ 32768 → length (image_of l) ≤ 32768
fits l w e h = omega arith

-- the functions of an image that fits
pub functions_fit : (l : Linked) → length (image_of l) ≤ 32768 → base_of l + words_in l.functions ≤ 32768
functions_fit l h = let n = length_image l in omega arith

pub all_ready : (l : Linked) → length (image_of l) ≤ 32768 → IsSound l → All (IsReady l.functions) (program l)
all_ready l h s = ready l.functions (base_of l) (functions_fit l h) s.each

-- the words up to the routines
pub words_closed : (l : Linked) (c : Closing) (b w s r : ℕ) → c ≡ closing_of l → b ≡ base_of l → w ≡ min (b + words_in l.functions) (2 ^ 64 - 1)
    → s ≡ closing_size c → r ≡ min (w + s) (2 ^ 64 - 1) → r ≡ min (shared_at l) (2 ^ 64 - 1)
words_closed l c b w s r n e f g h =
    let k : s ≡ closing_size (closing_of l) = g ∙ ap closing_size n in
    omega arith

-- the words before the routines and theirs
pub words_both : (l : Linked) (w s r : ℕ) → w ≡ min (shared_at l) (2 ^ 64 - 1) → s ≡ words_shared (used_routines l) → r ≡ min (w + s) (2 ^ 64 - 1) → r ≡ min (length (image_of l)) (2 ^ 64 - 1)
words_both l w s r e f g = let n = length_with l in omega arith

pub ready_in : (l : Linked) (layout : Layout) (base : ℕ) (bare : Bool) (fs : List LinkedFunction) → IsSound l → length (image_of l) ≤ 32768
    → bare ≡ l.bare → base ≡ (if bare then 0 else start_size) → fs ≡ l.functions → IsLayout base fs layout → All (IsReady l.functions) layout.placed.items
ready_in l layout base bare fs s h e b f lay =
    let p : layout.placed.items ≡ program l = lay.placed ∙ ap (λ z. placed_from 0 z fs) (b ∙ ap (λ z. if z then 0 else start_size) e) ∙ ap (placed_from 0 (base_of l)) f in
    subst (All (IsReady l.functions)) (sym p) (all_ready l h s)

-- where the layout ends, where the routines begin after it, and that they fit
end_is : (l : Linked) (layout : Layout) (base : ℕ) (bare : Bool) (fs : List LinkedFunction) → bare ≡ l.bare → base ≡ (if bare then 0 else start_size) → fs ≡ l.functions → IsLayout base fs layout → layout.end ≡ end_of l
end_is l layout base bare fs b e f lay = lay.ends ∙ ap (λ z. z + words_in fs) (e ∙ ap (λ z. if z then 0 else start_size) b) ∙ ap (λ z. base_of l + words_in z) f

pub end_fits : (l : Linked) (layout : Layout) (base : ℕ) (bare : Bool) (fs : List LinkedFunction) → length (image_of l) ≤ 32768 → bare ≡ l.bare → base ≡ (if bare then 0 else start_size) → fs ≡ l.functions → IsLayout base fs layout → layout.end ≤ 32768
end_fits l layout base bare fs h b e f lay = subst (λ z. z ≤ 32768) (sym (end_is l layout base bare fs b e f lay)) (functions_fit l h)

pub from_is : (l : Linked) (layout : Layout) (base at : ℕ) (bare : Bool) (c : Closing) (fs : List LinkedFunction) → bare ≡ l.bare → base ≡ (if bare then 0 else start_size) → fs ≡ l.functions → IsLayout base fs layout
    → at ≡ layout.end + closing_size c → c ≡ closing_of l → at ≡ shared_at l
from_is l layout base at bare c fs b e f lay a n = a ∙ ap (λ z. z + closing_size c) (end_is l layout base bare fs b e f lay) ∙ ap (λ z. end_of l + closing_size z) n

pub routines_fit : (l : Linked) (layout : Layout) (base at : ℕ) (bare : Bool) (c : Closing) (fs : List LinkedFunction) (rs : List Routine) → length (image_of l) ≤ 32768 → bare ≡ l.bare → base ≡ (if bare then 0 else start_size) → fs ≡ l.functions → IsLayout base fs layout
    → at ≡ layout.end + closing_size c → c ≡ closing_of l → rs ≡ used_routines l → at + words_shared rs ≤ 32768
routines_fit l layout base at bare c fs rs h b e f lay a n u =
    let from = from_is l layout base at bare c fs b e f lay a n in
    let all = length_with l in
    let own = ap words_shared u in
    omega arith
