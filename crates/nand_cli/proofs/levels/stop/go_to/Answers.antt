use Rattle.std.proofs.Common.{◌≤◌, refl, sym, ◌∙◌, arith}
use Rattle.key_script.specs.Codes.{code_at}
use Rattle.gate_computer.specs.Followed.{image_in}
use Rattle.nand_cli.proofs.Stopping.{answers, begun, come_to, ended, none_more}
use Rattle.nand_cli.proofs.levels.stop.go_to.Goals as goal

pub loop-i-init : goal.loop-i-init
loop-i-init c =
    record {
      gone = record { same = refl; moves = c.requires.start; followed = c.requires.stands };
      ended = begun (image_in c.args.computer.now) (code_at c.args.keys.now);
      none = λ n lt. absurd (omega arith);
    }

pub go-between-requires : goal.go-between-requires
go-between-requires c =
    let moves = c.loop-i.invariant.gone.moves in
    let more = c.loop-i-test.true in
    let few = c.ranges.cycles in
    omega (arith, moves, more, few)

pub loop-i-preserved : goal.loop-i-preserved
loop-i-preserved c =
    let image = image_in c.args.computer.now in
    let code = code_at c.args.keys.now in
    let at = c.args.at.now in
    let here = c.loop-i.computer in
    let new = c.go-between.new.computer in
    let i = c.loop-i._i in
    let gone = c.go-between.ensures.gone image i c.loop-i.invariant.gone in
    record {
      gone = gone;
      ended = ended image code i here new c.go-between.result c.loop-i.invariant.gone gone c.go-between.ensures.between;
      none = none_more at.places.now at.sub.now at.number image code i c.loop-i.invariant.none
          (answers at.places.now at.sub.now at.number image code i here c.loop-i.between _ c.loop-i.invariant.gone c.loop-i.invariant.ended (sym c.if-stops.false ∙ c.stops.ensures));
    }

pub returns-then-stops : goal.returns-then-stops
returns-then-stops c =
    let image = image_in c.args.computer.now in
    let code = code_at c.args.keys.now in
    let at = c.args.at.now in
    let i = c.loop-i._i in
    let few : i ≤ c.args.cycles = omega (arith, c.loop-i-test.true) in
    come_to at.places.now at.sub.now at.number image code c.args.cycles i c.loop-i.computer c.loop-i.between _ few c.loop-i.invariant.gone c.loop-i.invariant.ended c.loop-i.invariant.none
    (sym c.if-stops.true ∙ c.stops.ensures) (λ e. let no : ⊥ = cc in absurd no)

pub returns : goal.returns
returns c =
    let image = image_in c.args.computer.now in
    let code = code_at c.args.keys.now in
    let at = c.args.at.now in
    let i = c.loop-i._i in
    let few : i ≤ c.args.cycles = omega (arith, c.loop-i-test.false) in
    come_to at.places.now at.sub.now at.number image code c.args.cycles i c.loop-i.computer c.loop-i.between _ few c.loop-i.invariant.gone c.loop-i.invariant.ended c.loop-i.invariant.none
    c.stops-2.ensures (λ e. omega (arith, c.loop-i-test.false))
