use Rattle.std.proofs.Common.{◌≡◌, ◌<◌, ◌+◌, [], ◌++◌, length, take, drop, ◌∙◌, sym, slice_index_or, subst, List, ℕ, ap}
use Rattle.std.proofs.lemmas.Grind.{flat_map-append}
use Rattle.std.proofs.lemmas.List.{take_more, take-append-drop, flat_map_more}
use Rattle.outer_world.specs.Written.{Passes}
use Rattle.outer_world.specs.declared.sink.Put.TheVariants as put
use Rattle.outer_world.proofs.Passing.{Passes-then, Passes-cut}
use Rattle.hack_isa.specs.declared.Instr.{Instr}
use Rattle.hack_isa.specs.declared.Instr.TheVariants as instr
use Rattle.hack_asm.specs.Written.{instr_text, asm_text}
use Rattle.hack_asm.proofs.writing.put_asm.Goals as goal

-- the lines up to one more
lines_more : (xs : List Instr) (i : ℕ) (d : Instr) → i < length xs → asm_text (take i xs) ++ instr_text (slice_index_or xs i d) ≡ asm_text (take (i + 1) xs)
lines_more xs i d lt = flat_map_more instr_text [] (take i xs) (slice_index_or xs i d) ∙ ap asm_text (sym (take_more xs i d lt))

around : (xs : List Instr) (i : ℕ) (d : Instr) → i < length xs → (asm_text (take i xs) ++ instr_text (slice_index_or xs i d)) ++ asm_text (drop (i + 1) xs) ≡ asm_text xs
around xs i d lt = ap (λ y. y ++ asm_text (drop (i + 1) xs)) (lines_more xs i d lt) ∙ sym (flat_map-append instr_text (take (i + 1) xs) (drop (i + 1) xs)) ∙ ap asm_text (take-append-drop (i + 1) xs)

pub returns-in-Failed-clause-passes : goal.returns-in-Failed-clause-passes
returns-in-Failed-clause-passes g c =
    let P : List ℕ → Type 0 = λ t. Passes (g.S.Sink.state c.args.out.now.sink.now) (take c.args.out.now.len c.args.out.now.buffer) (g.S.Sink.state c.put_instr.new.out.sink.now) (take c.put_instr.new.out.len c.put_instr.new.out.buffer) t put.Failed in
    subst P (around c.args.instrs.now c.loop-instr.instr-index (instr.Address 0) c.loop-instr-test.true)
    (Passes-cut _ _ _ _ _ _ (Passes-then _ _ _ _ _ _ _ _ _ c.loop-instr.invariant.passes c.in-Failed.ensures.passes))

pub loop-instr-preserved : goal.loop-instr-preserved
loop-instr-preserved g c =
    let more = lines_more c.args.instrs.now c.loop-instr.instr-index (instr.Address 0) c.loop-instr-test.true in
    record {
      same_sink = c.in-Done.ensures.same_sink ∙ c.loop-instr.invariant.same_sink;
      passes = rw (← more) (Passes-then _ _ _ _ _ _ _ _ _ c.loop-instr.invariant.passes c.in-Done.ensures.passes);
    }
