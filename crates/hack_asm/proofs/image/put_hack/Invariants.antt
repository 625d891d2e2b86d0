use Rattle.std.proofs.Common.{◌≡◌, take}
use Rattle.std.specs.List.{flat_map}
use Rattle.outer_world.specs.Written.{Passes}
use Rattle.outer_world.specs.declared.sink.Put.TheVariants as put
use Rattle.hack_asm.specs.Image.{word_line}
use Rattle.hack_asm.proofs.image.put_hack.Given as goal

abbrev pub invariant-loop-word : goal.invariant-loop-word
invariant-loop-word g l = record {
  same_sink : l.out.sink.ghost_name ≡ l.fn.out.sink.ghost_name;
  passes : Passes (g.S.Sink.state l.fn.out.sink.now) (take l.fn.out.len l.fn.out.buffer) (g.S.Sink.state l.out.sink.now) (take l.out.len l.out.buffer) (flat_map word_line (take l.word-index l.words)) put.Done;
}
