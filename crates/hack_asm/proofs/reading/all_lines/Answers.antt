use Rattle.std.proofs.Common.{◌≡◌, ◌<◌, length, refl, map, arith, drop, length-drop}
use Rattle.std.proofs.lemmas.Result.{err_from_is_err_and}
use Rattle.grammar.proofs.Repeats.{Along-more}
use Rattle.hack_asm.specs.Tokens.{view}
use Rattle.hack_asm.specs.Grammar.{assembly, line}
use Rattle.hack_asm.specs.Trees.{line_of, line_tree}
use Rattle.hack_asm.proofs.reading.all_lines.Goals as goal
use Rattle.std.proofs.lemmas.List.{map-append}
use Rattle.grammar.specs.Reading.{memory}
use Rattle.hack_asm.specs.Tokens.{Word}
use Rattle.hack_asm.specs.Grammar.{Said}
use Rattle.grammar.proofs.Entered.{entered}
use Rattle.hack_asm.proofs.Whole.{line_stops, all_read}

pub returns-in_err-line : goal.returns-in_err-line
returns-in_err-line c =
    let p = err_from_is_err_and c.from_residual.result c.from_residual.ensures.1 in
    let some : 0 < length (drop c.lines.at c.args.tokens.now) = omega (arith, length-drop c.lines.at c.args.tokens.now, c.lines-test.true) in
    rw (p.1, p.2) (line_stops c.args.end (map view c.args.tokens.now) (map line_of c.lines.lines.items) (drop c.lines.at c.args.tokens.now) _ some c.lines.invariant.along c.in_err-line.ensures.reads)

pub returns-in_err-push : goal.returns-in_err-push
returns-in_err-push c =
    let p = err_from_is_err_and c.from_residual-in_err-push.result c.from_residual-in_err-push.ensures.1 in
    rw (p.1, p.2) memory

pub lines-preserved : goal.lines-preserved
lines-preserved c =
    let i = entered Word (Unit {0}) (Unit {0}) Said (assembly c.args.end) c.in_ok-line.ensures.reads refl in
    rw (c.in_ok-push.ensures.items, map-append) record {
      within = c.in_ok-line.ensures.within;
      along = Along-more _ line line_tree _ _ _ _ _ _ _ _ c.lines.invariant.along i c.in_ok-line.ensures.reads;
    }

pub returns : goal.returns
returns c =
    let none : length (drop c.lines.at c.args.tokens.now) ≡ 0 = omega (arith, length-drop c.lines.at c.args.tokens.now, c.lines-test.false) in
    all_read c.args.end (map view c.args.tokens.now) (map line_of c.lines.lines.items) (drop c.lines.at c.args.tokens.now) none c.lines.invariant.along
