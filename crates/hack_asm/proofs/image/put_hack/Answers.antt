use Rattle.std.proofs.Common.{◌≡◌, ◌<◌, ◌+◌, [], ◌++◌, length, take, drop, ◌∙◌, sym, slice_index_or, subst, List, ℕ, ap}
use Rattle.std.proofs.lemmas.Grind.{flat_map-append}
use Rattle.std.proofs.lemmas.List.{take_more, take-append-drop, flat_map_more}
use Rattle.outer_world.specs.Written.{Passes}
use Rattle.outer_world.specs.declared.sink.Put.TheVariants as put
use Rattle.outer_world.proofs.Passing.{Passes-then, Passes-cut}
use Rattle.hack_asm.specs.Image.{word_line, image_text}
use Rattle.hack_asm.proofs.image.put_hack.Goals as goal

-- the words up to one more
words_more : (xs : List ℕ) (i d : ℕ) → i < length xs → image_text (take i xs) ++ word_line (slice_index_or xs i d) ≡ image_text (take (i + 1) xs)
words_more xs i d lt = flat_map_more word_line [] (take i xs) (slice_index_or xs i d) ∙ ap image_text (sym (take_more xs i d lt))

around : (xs : List ℕ) (i d : ℕ) → i < length xs → (image_text (take i xs) ++ word_line (slice_index_or xs i d)) ++ image_text (drop (i + 1) xs) ≡ image_text xs
around xs i d lt = ap (λ y. y ++ image_text (drop (i + 1) xs)) (words_more xs i d lt) ∙ sym (flat_map-append word_line (take (i + 1) xs) (drop (i + 1) xs)) ∙ ap image_text (take-append-drop (i + 1) xs)

pub returns-in-Failed-clause-passes : goal.returns-in-Failed-clause-passes
returns-in-Failed-clause-passes g c =
    let P : List ℕ → Type 0 = λ t. Passes (g.S.Sink.state c.args.out.now.sink.now) (take c.args.out.now.len c.args.out.now.buffer) (g.S.Sink.state c.put_word.new.out.sink.now) (take c.put_word.new.out.len c.put_word.new.out.buffer) t put.Failed in
    subst P (around c.args.words.now c.loop-word.word-index 0 c.loop-word-test.true)
    (Passes-cut _ _ _ _ _ _ (Passes-then _ _ _ _ _ _ _ _ _ c.loop-word.invariant.passes c.in-Failed.ensures.passes))

pub loop-word-preserved : goal.loop-word-preserved
loop-word-preserved g c =
    let more = words_more c.args.words.now c.loop-word.word-index 0 c.loop-word-test.true in
    record {
      same_sink = c.in-Done.ensures.same_sink ∙ c.loop-word.invariant.same_sink;
      passes = rw (← more) (Passes-then _ _ _ _ _ _ _ _ _ c.loop-word.invariant.passes c.in-Done.ensures.passes);
    }
