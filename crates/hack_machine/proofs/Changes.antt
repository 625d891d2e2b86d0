-- One change more.
use Rattle.std.proofs.Common.{◌≡◌, ℕ, ◌+◌, ◌<◌, List, [], ◌∷◌, ◌++◌, length, refl, ap, sym, ◌∙◌, arith}
use Rattle.std.specs.Prelude.{slice_set, slice_index, ◌==◌, if◌then◌else◌}
use Rattle.std.proofs.lemmas.Grind.{common_steps, elements}
use Rattle.hack_isa.specs.Machine.{Machine, start}
use Rattle.hack_machine.specs.Loaded.{LoadedMachine, machine_of, words_of}
use Rattle.hack_machine.specs.Changes.{Change, after, after_all, moves_of, count_moves, HasChanged}

after_push : (image : List ℕ) (changes : List Change) (change : Change) (s : Machine) → after_all image (changes ++ change ∷ []) s ≡ after image change (after_all image changes s)
after_push image [] change s = refl
after_push image (c ∷ changes) change s = after_push image changes change (after image c s)

count_push : (changes : List Change) (change : Change) → count_moves (changes ++ change ∷ []) ≡ count_moves changes + moves_of change
count_push [] change = omega arith
count_push (c ∷ changes) change = let h = count_push changes change in omega (arith, h)

pub changed_more : (old new : LoadedMachine) (changes : List Change) (change : Change) → new.image ≡ old.image → new.moves ≡ old.moves + moves_of change → machine_of new ≡ after old.image change (machine_of old) → HasChanged old changes → HasChanged new (changes ++ change ∷ [])
changed_more old new changes change image moves changed h = record {
  state = changed ∙ ap (after old.image change) h.state ∙ sym (after_push old.image changes change start) ∙ ap (λ words. after_all words (changes ++ change ∷ []) start) (sym image);
  count = moves ∙ ap (λ n. n + moves_of change) h.count ∙ sym (count_push changes change);
}

pub put_word : (ram : List ℕ) (address value : ℕ) → length ram ≡ 24576 → address < 24576 → words_of (slice_set ram address value) ≡ (λ k. if k == address then value else words_of ram k)
put_word ram address value n lt =
    let at : (k : ℕ) → slice_index (slice_set ram address value) k ≡ (if k == address then value else slice_index ram k) = λ k. grind (arith, common_steps, elements) in
    λ i k. at k i
