use Rattle.std.proofs.Common.{List, subst, drop, map, arith, length-drop}
use Rattle.hack_asm.specs.declared.token.Token.{Token}
use Rattle.hack_asm.specs.Tokens.{Word, view}
use Rattle.hack_asm.specs.Grammar.{line}
use Rattle.hack_asm.specs.Trees.{line_of, line_tree}
use Rattle.hack_asm.proofs.Letters.{R}
use Rattle.hack_asm.proofs.Whole.{line_shorter, line_next, from_on}
use Rattle.hack_asm.proofs.reading.line_at.Goals as goal

pub overflow_sub-result : goal.overflow_sub-result
overflow_sub-result c =
    let P : List Token → Type 0 = λ l. R c.args.end line (map view l) (line_tree (line_of c.in_ok-line.line)) (map view c.in_ok-line.rest.now) in
    let read = subst P (from_on c.args.tokens.now c.args.at) c.in_ok-line.ensures in
    let h = line_shorter c.args.end c.args.tokens.now c.in_ok-line.rest.now c.args.at (line_tree (line_of c.in_ok-line.line)) read in
    omega (arith, h, length-drop c.args.at c.args.tokens.now)

pub returns-clause-reads : goal.returns-clause-reads
returns-clause-reads c =
    let P : List Token → Type 0 = λ l. R c.args.end line (map view l) (line_tree (line_of c.in_ok-line.line)) (map view c.in_ok-line.rest.now) in
    let read = subst P (from_on c.args.tokens.now c.args.at) c.in_ok-line.ensures in
    subst (λ (l : List Word). R c.args.end line (map view (drop c.args.at c.args.tokens.now)) (line_tree (line_of c.in_ok-line.line)) l)
    (line_next c.args.end c.args.tokens.now c.in_ok-line.rest.now c.args.at (line_tree (line_of c.in_ok-line.line)) read c.requires)
    read

pub returns-clause-further : goal.returns-clause-further
returns-clause-further c =
    let P : List Token → Type 0 = λ l. R c.args.end line (map view l) (line_tree (line_of c.in_ok-line.line)) (map view c.in_ok-line.rest.now) in
    let read = subst P (from_on c.args.tokens.now c.args.at) c.in_ok-line.ensures in
    let h = line_shorter c.args.end c.args.tokens.now c.in_ok-line.rest.now c.args.at (line_tree (line_of c.in_ok-line.line)) read in
    omega (arith, h, length-drop c.args.at c.args.tokens.now)
