use Rattle.std.proofs.Common.{refl}
use Rattle.std.proofs.lemmas.Result.{err_from_is_err_and}
use Rattle.script_parser.specs.declared.tree.Act.TheVariants as acts
use Rattle.outer_world.specs.Held.{pending, sink_of}
use Rattle.tst_runner.proofs.Lined.{meant, sources}
use Rattle.tst_runner.proofs.Performed.{CountsStop-name, Performs-line, Performs-name}
use Rattle.tst_runner.proofs.acts.do_list.Goals as goal

pub put_line-requires : goal.put_line-requires
put_line-requires g c =
    let s = c.requires.1.0 in
    let h = c.requires.1.1 in
    (c.requires.0, (record s { items = c.args.items.now }, record { device = h.device; loaded = h.loaded; columns = c.in_ok-columns.ensures s.device h.device; compared = h.compared; lines = h.lines }))

pub returns-clause-does : goal.returns-clause-does
returns-clause-does g c setting there w e f s path h stays =
    let items = c.args.items.now in
    let shown = c.in_ok-columns.columns.items in
    let are = c.in_ok-columns.ensures s.device h.device in
    Performs-line setting there ⊥ w (g.O.Sink.state (sink_of c.put_line.new.out)).written e f (pending c.put_line.new.out) s (record s { items = items }) (acts.OutputList items) c.in_ok-line.line.items c.put_line.new.state c.put_line.result
    ((sources shown, meant s.device items shown are), refl, c.in_ok-line.ensures) refl refl refl
    (c.put_line.ensures.puts setting w e f (record s { items = items }) (record { device = h.device; loaded = h.loaded; columns = are; compared = h.compared; lines = h.lines }) (record { on_out = stays.on_out; on_err = stays.on_err }))

pub returns-in_err-columns-clause-does : goal.returns-in_err-columns-clause-does
returns-in_err-columns-clause-does g c setting there w e f s path h stays =
    let p = err_from_is_err_and c.from_residual.result c.from_residual.ensures.1 in
    rw (p.1, p.2) (Performs-name setting there w (g.O.Sink.state (sink_of c.args.out.now)).written e f (pending c.args.out.now) c.args.path.now s c.args.items.now c.args.state.now c.in_err-columns.field-0.0 path stays (c.in_err-columns.ensures s.device h.device))

pub returns-in_err-columns-clause-counts : goal.returns-in_err-columns-clause-counts
returns-in_err-columns-clause-counts g c h e =
    let p = err_from_is_err_and c.from_residual.result c.from_residual.ensures.1 in
    let s = c.requires.1.0 in
    rw (p.1, p.2) (CountsStop-name c.args.path.now s.device c.args.items.now c.in_err-columns.field-0.0 h (g.O.Sink.state (sink_of c.args.out.now)).faults e (c.in_err-columns.ensures s.device c.requires.1.1.device))
