use Rattle.std.proofs.Common.{Option, subst, sym}
use Rattle.outer_world.specs.Held.{pending, sink_of}
use Rattle.outer_world.specs.Written.{Passes}
use Rattle.outer_world.specs.declared.sink.Put.TheVariants as put
use Rattle.outer_world.proofs.Passing.{Passes-nothing}
use Rattle.jack_debug.specs.declared.places.ClassPlaces.{ClassPlaces}
use Rattle.jack_debug.specs.MapText.{lines_of_class}
use Rattle.jack_debug.proofs.map_printing.put_class_at.Goals as goal

pub returns-in-None-clause-passes : goal.returns-in-None-clause-passes
returns-in-None-clause-passes g c =
    let a = g.S.Sink.state (sink_of c.args.out.now) in
    let p = pending c.args.out.now in
    let P : Option ClassPlaces → Type 0 = λ o. Passes a p a p (lines_of_class o) put.Done in
    subst P (sym c.in-None.ensures) (Passes-nothing a p)
