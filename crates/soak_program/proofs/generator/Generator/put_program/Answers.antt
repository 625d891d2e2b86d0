use Rattle.std.proofs.Common.{◌≡◌, ◌+◌, suc, codes, refl, arith}
use Rattle.soak_program.specs.Generator.{IsProgramText}
use Rattle.soak_program.proofs.Pieces.{then_adds, program_writes}
use Rattle.soak_program.proofs.generator.Generator.put_program.Goals as goal

pub returns : goal.returns
returns c =
    let a = c.args.self.now in
    let b = c.put.new.self in
    let e = c.put-2.new.self in
    let f = c.draw-more.new.self in
    let g = c.put_statements.new.self in
    let h = c.put-3.new.self in
    let z = c.put-4.new.self in
    let n = c.draw-more.result in
    let one_more : 1 + n ≡ suc n = omega arith in
    then_adds c.put-4.result (codes "return ;\n}\n}\n") IsProgramText a h z
    (λ w. program_writes n (1 + n) (codes "class Main {\nstatic int a , b , c ;\nstatic Array d ;\n") (codes "function void main ( ) {\nlet d = Array . new ( 8 ) ;\n")
    (codes "let d [ 0 ] = a ;\nlet d [ 1 ] = b ;\nlet d [ 2 ] = c ;\n") (codes "return ;\n}\n}\n") a b e f g h z refl refl one_more
    c.in_ok-put.ensures c.in_ok-put-2.ensures c.draw-more.ensures c.in_ok-put_statements.ensures c.in_ok-put-3.ensures w) c.put-4.ensures
