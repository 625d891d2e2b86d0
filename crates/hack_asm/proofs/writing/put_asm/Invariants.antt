use Rattle.std.proofs.Common.{◌≡◌, take}
use Rattle.std.specs.List.{flat_map}
use Rattle.outer_world.specs.Written.{Passes}
use Rattle.outer_world.specs.declared.sink.Put.TheVariants as put
use Rattle.hack_asm.specs.Written.{instr_text}
use Rattle.hack_asm.proofs.writing.put_asm.Given as goal

abbrev pub invariant-loop-instr : goal.invariant-loop-instr
invariant-loop-instr g l = record {
  same_sink : l.out.sink.ghost_name ≡ l.fn.out.sink.ghost_name;
  passes : Passes (g.S.Sink.state l.fn.out.sink.now) (take l.fn.out.len l.fn.out.buffer) (g.S.Sink.state l.out.sink.now) (take l.out.len l.out.buffer) (flat_map instr_text (take l.instr-index l.instrs)) put.Done;
}
