-- The static words of files, one more at a time.
use Rattle.std.proofs.Common.{◌≡◌, ◌+◌, ◌<◌, ℕ, List, [], ◌∷◌, ◌++◌, Some, length, map, get_or, refl, sym, ap, ◌∙◌, arith}
use Rattle.std.specs.Prelude.{option_map, slice_get, unwrap_or}
use Rattle.std.specs.List.{flat_map, range_with_len}
use Rattle.std.proofs.lemmas.List.{append_assoc, flat_map_more}
use Rattle.std.proofs.lemmas.List.FromFn.{map-range_with_len_more}
use Rattle.std.proofs.lemmas.List.Sums.{sum_by_more}
use Rattle.std.proofs.lemmas.Option.{slice_get-get_or}
use Rattle.vm_link.specs.declared.linked.LinkedFile.{LinkedFile}
use Rattle.vm_link.specs.declared.linked.Linked.{Linked}
use Rattle.image_map.specs.declared.map.StaticWord.{StaticWord}
use Rattle.vm_translator.specs.Shapes.{named_index}
use Rattle.vm_translator.specs.Statics.{static_word, statics_in, words_before, words_of_file}

-- the numbers up to one more
range_more : (n : ℕ) → range_with_len 0 (n + 1) ≡ range_with_len 0 n ++ n ∷ []
range_more n = sym (map_self (range_with_len 0 (n + 1))) ∙ map-range_with_len_more (λ k. k) 0 n n (omega arith) ∙ ap (λ ns. ns ++ n ∷ []) (map_self (range_with_len 0 n))
  where
    map_self : (ns : List ℕ) → map (λ k. k) ns ≡ ns
    map_self [] = refl
    map_self (n ∷ ns) = ap (λ ms. n ∷ ms) (map_self ns)

-- one more word of a file
pub word_more : (l : Linked) (file i address : ℕ) (old now new : List StaticWord) → now ≡ old ++ map (static_word l file) (range_with_len 0 i) → address ≡ named_index (16 + (words_before l file + i))
    → new ≡ now ++ record { file = file; index = i; address = address } ∷ [] → new ≡ old ++ map (static_word l file) (range_with_len 0 (i + 1))
word_more l file i address old now new before at pushed =
    pushed ∙ ap (λ ws. ws ++ record { file = file; index = i; address = address } ∷ []) before
    ∙ ap (λ a. (old ++ map (static_word l file) (range_with_len 0 i)) ++ record { file = file; index = i; address = a } ∷ []) at
    ∙ append_assoc old (map (static_word l file) (range_with_len 0 i)) (static_word l file i ∷ [])
    ∙ ap (λ ws. old ++ ws) (sym (map-range_with_len_more (static_word l file) 0 i i (omega arith)))

-- one more file
pub file_more : (l : Linked) (k : ℕ) (file : LinkedFile) (now new : List StaticWord) → k < length l.files → file ≡ get_or l.files k file → now ≡ flat_map (statics_in l) (range_with_len 0 k)
    → new ≡ now ++ map (static_word l k) (range_with_len 0 file.statics) → new ≡ flat_map (statics_in l) (range_with_len 0 (k + 1))
file_more l k file now new near here before added =
    let there : Some file ≡ slice_get l.files k = ap Some here ∙ sym (slice_get-get_or l.files k file near) in
    let own : file.statics ≡ words_of_file l k = ap (λ o. unwrap_or (option_map (λ (f : LinkedFile). f.statics) o) 0) there in
    added ∙ ap (λ n. now ++ map (static_word l k) (range_with_len 0 n)) own ∙ ap (λ ws. ws ++ statics_in l k) before
    ∙ flat_map_more (statics_in l) [] (range_with_len 0 k) k ∙ ap (flat_map (statics_in l)) (sym (range_more k))

pub before_more : (l : Linked) (k : ℕ) (file : LinkedFile) → k < length l.files → file ≡ get_or l.files k file → words_before l (k + 1) ≡ words_before l k + file.statics
before_more l k file near here = sum_by_more (λ (f : LinkedFile). f.statics) l.files k file near ∙ ap (λ (f : LinkedFile). words_before l k + f.statics) (sym here)
