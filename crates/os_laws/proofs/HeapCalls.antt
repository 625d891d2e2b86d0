-- Whole calls of deAlloc and of Memory.init.
use Rattle.std.proofs.Common.{◌≡◌, ⊎_elim, ◌+◌, ◌-◌, [], ◌∷◌, ◌++◌, refl, sym, ap, ◌∙◌, subst, arith, length-set}
use Rattle.std.specs.Prelude.{slice_index, slice_set}
use Rattle.std.proofs.lemmas.List.{get_or-set_same, get_or-set_other}
use Rattle.word16.specs.Words.{word_sub}
use Rattle.jack_meaning.specs.Text.{End}
use Rattle.jack_meaning.specs.Meaning.{Frame}
use Rattle.os_laws.specs.Kernel.{deAlloc_meaning, init_meaning}
use Rattle.os_laws.specs.Heap.{HeapOf}
use Rattle.os_laws.specs.Calls.{given_back}
use Rattle.os_laws.specs.Laws.{FreeLaw, InitLaw}
use Rattle.os_laws.proofs.Basics.{enters}
use Rattle.os_laws.proofs.Runs.{run}
use Rattle.os_laws.proofs.Returns.{comes_back}
use Rattle.os_laws.proofs.Storing.{other_word}
use Rattle.os_laws.proofs.Freeing as freeing
use Rattle.os_laws.proofs.Searching.{Reaches, in_call, gives_back, lays}
use Rattle.os_laws.proofs.Walking.{reaches}
use Rattle.os_laws.proofs.Allocating.{keeps_word}

pub free_law : FreeLaw
free_law subs s g class free kernel d =
    let parts = d.parts in
    let front = d.front in
    let back = d.back in
    let b = d.block in
    let there = d.heap.room.static in
    let words = d.heap.room.words in
    let heap = d.heap.heap in
    let o = b.place in
    let c = b.place - 1 in
    let first = slice_index s.statics free in
    let block = (freeing.blocks s.words first parts front back b words heap).0 in
    let own = (freeing.inside s.words first parts front back b words heap).0 in
    let known = freeing.known_live s.words first parts front back b words heap in
    let others = (freeing.blocks s.words first parts front back b words heap).1 in
    let less_one : word_sub o 1 ≡ c = omega (arith, block, own) in
    let at_o : Reaches c 1 o = subst (Reaches c 1) (let e : c + 1 ≡ o = omega (arith, block) in e) (reaches c 1 own.0 (omega (arith, block, own))) in
    let ss' = slice_set s.statics free c in
    let ws' = slice_set s.words (o - 2048) first in
    let entered = enters subs g (deAlloc_meaning class free) (o ∷ []) kernel in
    let ran = ap (λ (f : Frame). run subs 11 (record { frame = f; statics = s.statics; words = s.words })) entered ∙ gives_back subs g 0 free s.statics s.words o c less_one at_o in
    let stored : slice_index ss' free ≡ c = get_or-set_same s.statics free c 0 there in
    let as_many = length-set s.statics free c in (
      record (given_back s d.call.caller d.call.below 0) { statics = ss'; words = ws' },
      comes_back subs s g (o ∷ []) d.call 11 (in_call subs g 0 free s.statics s.words End ss' ws' (c ∷ []) []).frame ss' ws' 4 0 End ran,
      record {
        frames = refl;
        heap = (
          c ∷ parts,
          record {
            room = record { static = omega (arith, as_many, there); words = length-set s.words (o - 2048) first ∙ words };
            heap = subst (λ v. HeapOf ws' v (c ∷ parts) (front ++ back)) (sym stored) (freeing.freed s.words first parts front back b words heap);
          },
        );
        keeps = record {
          statics = λ k h. get_or-set_other s.statics free k c 0 h;
          same_length = as_many;
          words = λ a i. keeps_word s.words s.words c a o first (front ++ back) others known own (omega (arith, block)) (omega (arith, block)) i;
        };
      },
    )

pub init_law : InitLaw
init_law subs s g class free kernel l =
    let there = l.room.static in
    let words = l.room.words in
    let ss' = slice_set s.statics free 2048 in
    let ws0 = slice_set s.words 0 14336 in
    let ws' = slice_set ws0 1 0 in
    let entered = enters subs g (init_meaning class free) [] kernel in
    let stored : slice_index ss' free ≡ 2048 = get_or-set_same s.statics free 2048 0 there in
    let ran = ap (λ (f : Frame). run subs 13 (record { frame = f; statics = s.statics; words = s.words })) entered ∙ lays subs g 0 free s.statics s.words stored in
    let size : slice_index ws' 0 ≡ 14336 = get_or-set_other ws0 1 0 0 0 (λ e. omega (arith, e)) ∙ get_or-set_same s.words 0 14336 0 (omega (arith, words)) in
    let link : slice_index ws' 1 ≡ 0 = get_or-set_same ws0 1 0 0 (omega (arith, length-set s.words 0 14336, words)) in
    let heap : HeapOf ws' 2048 (2048 ∷ []) [] = record { links = (refl, link); long = (omega (arith, size), tt); blocks = tt; inside = ((omega arith, omega (arith, size)), tt); apart = (tt, tt) } in
    let as_many = length-set s.statics free 2048 in (
      record (given_back s l.call.caller l.call.below 0) { statics = ss'; words = ws' },
      comes_back subs s g [] l.call 13 (in_call subs g 0 free s.statics s.words End ss' ws' [] (2048 ∷ [])).frame ss' ws' 5 0 End ran,
      record {
        frames = refl;
        heap = (
          2048 ∷ [],
          record {
            room = record { static = omega (arith, as_many, there); words = length-set ws0 1 0 ∙ length-set s.words 0 14336 ∙ words };
            heap = subst (λ v. HeapOf ws' v (2048 ∷ []) []) (sym stored) heap;
          },
        );
        keeps = record {
          statics = λ k h. get_or-set_other s.statics free k 2048 0 h;
          same_length = as_many;
          words = λ a i. ⊎_elim (λ none. absurd none) (λ h. other_word ws0 2049 a 0 (omega arith) (omega (arith, h)) (λ e. omega (arith, e, h)) ∙ other_word s.words 2048 a 14336 (omega arith) (omega (arith, h)) (λ e. omega (arith, e, h))) i;
        };
      },
    )
