use Rattle.std.proofs.Common.{◌≡◌, List, ℕ, [], ◌++◌, ◌∷◌, lit<, sym, subst, ap, ◌∙◌}
use Rattle.std.specs.Prelude.{codes, decimal}
use Rattle.std.proofs.lemmas.Fmt.{decimal_digit}
use Rattle.outer_world.specs.Written.{Puts}
use Rattle.tst_runner.proofs.standing.Difference.put.Goals as goal

pub returns : goal.returns
returns g c =
    let P : List ℕ → Type 0 = λ t. Puts (g.S.Sink.state c.args.sink.now) (g.S.Sink.state c.put_through.new.sink) t c.put_through.result in
    let one : decimal 1 ≡ 49 ∷ [] = decimal_digit 1 (lit< tt) in
    let number = decimal c.args.self.now.line in
    record {
      put = subst P (ap (λ p. p ++ 58 ∷ (c.as_bytes-2.result.now ++ codes ":1: Differs\n")) c.as_bytes.ensures ∙ ap (λ n. c.args.self.now.path ++ 58 ∷ (n ++ codes ":1: Differs\n")) (c.as_bytes-2.ensures.value ∙ c.format.ensures.text)
          ∙ ap (λ d. c.args.self.now.path ++ 58 ∷ (number ++ 58 ∷ (d ++ codes ": Differs\n"))) (sym one))
          c.put_through.ensures.put;
    }
